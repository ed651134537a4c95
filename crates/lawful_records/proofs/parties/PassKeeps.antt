-- A turn of a pass keeps lawful records.
use Rattle.std.specs.Prelude.{slice_index}
use Rattle.std.proofs.Common.{◌≡◌, ◌≢◌, ℕ, true, List, ◌∷◌, refl, sym, subst, ◌∙◌, arith}
use Rattle.std.proofs.lemmas.List.Elements.{All-head}
use Rattle.call_steps.specs.Steps.{place_of, applied}
use Rattle.call_steps.specs.StepLaws.{length-applied}
use Rattle.heap_words.specs.Layouts.{Sizes}
use Rattle.heap_history.specs.declared.call.Call.{Call}
use Rattle.barriers.specs.Kits.{Kit, Stepping, Laws}
use Rattle.barriers.specs.declared.pass.PassMachine.{PassMachine}
use Rattle.barriers.specs.declared.pass.PassMachine.TheVariants as machine
use Rattle.handshakes.specs.declared.retire.RetireMachine.TheVariants as retire
use Rattle.handshakes.specs.PhaseWords.{retired_word}
use Rattle.barriers.proofs.objects.Base.{home_live}
use Rattle.lawful_records.specs.Fixing.{is_fixed, FixStands, IsFixedPass, IsFixedParty}
use Rattle.lawful_records.specs.Records.{number_of, acked_of}
use Rattle.lawful_records.proofs.fixing.Answered.{roots_by}
use Rattle.lawful_records.proofs.fixing.Calm.{IsCalm, TheCollector, the_collector, calm_of}
use Rattle.lawful_records.proofs.fixing.Frames.{NamesOn, names_left}
use Rattle.lawful_records.proofs.fixing.OwnFixes.{own_by}
use Rattle.lawful_records.proofs.fixing.StandsFixed.{stands_then}
use Rattle.call_steps.specs.declared.step.Step.TheVariants.{Ended}
use Rattle.lawful_records.specs.Collectors.{drawn_of}
use Rattle.lawful_records.specs.Cycling.{announced_by, cycle_of}
use Rattle.lawful_records.specs.LawfulRecords.{IsAcked, IsPassRecord, IsParty, LawfulRecords}
use Rattle.lawful_records.specs.PassTurns.{IsAnnounced, PassStands, HasTurn, seal_for, change_in, pass_after}
use Rattle.lawful_records.specs.Turns.{front_by, pass_asks, party_asks, turned}
use Rattle.lawful_records.specs.declared.records.PassKnown.{PassKnown}
use Rattle.lawful_records.specs.declared.records.Party.{Party}
use Rattle.lawful_records.specs.declared.records.Party.TheVariants as party
use Rattle.lawful_records.proofs.parties.Pasts.{SeesOn, sees_turn}
use Rattle.lawful_records.proofs.parties.Assembling.{assemble_pass}
use Rattle.lawful_records.proofs.collecting.SearchTurns.{search_stays}

-- a machine that asks for a step has not retired
asks_runs : {R W E M : Type 0} (kit : Kit R W E M) (by : Stepping R W E M) (m : PassMachine R W E) (acked : ℕ) → pass_asks kit by m ≢ Ended → IsAcked kit m acked → acked ≢ retired_word
asks_runs kit by machine.Retired acked on is = absurd (on refl)
asks_runs kit by (machine.Retire retire.Ended) acked on is = absurd (on refl)
asks_runs kit by m acked on is = is

module _ {R W E M : Type 0} (kit : Kit R W E M) (by : Stepping R W E M) (l : Sizes) (ws : List ℕ) (p : PassKnown R W E) (others : List (Party R W E M)) (w : LawfulRecords kit l ws (party.Pass p ∷ others)) where
  own : IsPassRecord kit l (announced_by w.collector) (cycle_of w.collector) w.space w.notices p
  own = All-head (IsParty kit l w.collector w.space w.notices) (party.Pass p) others w.each

  -- what a pass stands on before its step
  pub stands_of : IsAnnounced kit.minds l (announced_by w.collector) (cycle_of w.collector) (drawn_of w.collector) → PassStands kit by l (announced_by w.collector) (cycle_of w.collector) w.space w.notices p ws
  stands_of announcement = record {
    layout = w.layout;
    width = w.width;
    says = w.says;
    spare = w.spare;
    announcement = subst (IsAnnounced kit.minds l (announced_by w.collector) (cycle_of w.collector)) (sym w.drawn) announcement;
    announced = w.announced;
    rows = w.rows;
    bare = w.bare;
    objects = w.objects;
    lens = w.lens;
    late = refl;
    own = own;
  }

  module _ (laws : Laws kit by) (announcement : IsAnnounced kit.minds l (announced_by w.collector) (cycle_of w.collector) (drawn_of w.collector)) (on : pass_asks kit by p.pass.machine ≢ Ended)
      (has : HasTurn kit by l (announced_by w.collector) (cycle_of w.collector) w.space w.notices p ws) where
    abbrev h : List Call
    h = w.space.history

    abbrev q : PassKnown R W E
    q = pass_after kit by w.space p ws

    sees : SeesOn h has.space.history p.seen q.seen
    sees = subst (λ (g : List Call). SeesOn h g p.seen q.seen) (sym has.turn.history) (sees_turn (change_in kit by p ws) (front_by kit by p.pass.machine (slice_index ws (place_of (pass_asks kit by p.pass.machine)))) (seal_for kit by w.space p.pass.machine) h p.seen own.side.past (let turn = has.turn in turn.looks))

    -- ---- what is fixed

    its : TheCollector kit l w.collector w.space w.notices
    its = the_collector kit l w.collector w.space w.notices (party.Pass p ∷ others) (omega (arith, w.parties.collector)) w.each w.fixed.each

    was_fixed : IsFixedPass kit w.collector w.space w.notices p
    was_fixed = All-head (IsFixedParty kit w.collector w.space w.notices) (party.Pass p) others w.fixed.each

    calm : is_fixed w.collector ≡ true → IsCalm w.space
    calm = calm_of kit l w.collector w.space w.notices its w.fixed.stands

    names : NamesOn w.space has.space
    names = let turn = has.turn in names_left kit.protocol l w.space has.space turn.leaves.left (λ at home. (turn.beside.seen.heads at (home_live (w.space.state at) home)).birth)

    -- it has not retired, since it takes a step
    running : acked_of p ≢ retired_word
    running = asks_runs kit by p.pass.machine (acked_of p) on own.answering.retired

    stands_fixed : FixStands w.collector has.space has.notices
    stands_fixed = let turn = has.turn in let known = its.known in
        stands_then kit l known.plan its.own.cycles its.own.few w.collector w.space has.space w.notices has.notices p own running was_fixed names turn.beside turn.search turn.fields its.own.collects w.fixed.stands

    own_fixed : IsFixedPass kit w.collector has.space has.notices q
    own_fixed = let known = its.known in
        own_by kit by laws l (announced_by w.collector) (cycle_of w.collector) w.collector w.space w.notices ws calm has.space has.notices names p p.pass.machine (stands_of announcement) on has.turn
        (λ runs roots. roots_by known.plan l kit.kind its.own.cycles its.own.few (acked_of p) w.collector its.own.collects (number_of p) own.number own.answering.answers runs roots) was_fixed

    kept : LawfulRecords kit l (applied (pass_asks kit by p.pass.machine) ws) (party.Pass q ∷ others)
    kept = let turn = has.turn in
        assemble_pass kit l ws (applied (pass_asks kit by p.pass.machine) ws) p q others has.space has.notices w (record {
          width = length-applied (pass_asks kit by p.pass.machine) ws ∙ w.width;
          says = turn.says;
          spare = turn.spare;
          rows = turn.rows;
          objects = turn.objects;
          lens = turn.lens;
          beside = turn.beside;
          leaves = turn.leaves;
          search = λ plan cycles few collects stands. search_stays kit laws.minds l w.collector w.space has.space w.notices p turn.leaves turn.beside.seen.heads turn.search own plan cycles few collects stands;
          number = turn.number;
          sees = sees;
          own = turn.own;
          stands_fixed = stands_fixed;
          own_fixed = own_fixed;
        })

    -- after a turn of the pass records are lawful
    pub pass_keeps : turned kit by others (party.Pass p) (slice_index ws (place_of (pass_asks kit by p.pass.machine))) ≡ party.Pass q
        → LawfulRecords kit l (applied (party_asks kit by (party.Pass p)) ws) (turned kit by others (party.Pass p) (slice_index ws (place_of (party_asks kit by (party.Pass p)))) ∷ others)
    pass_keeps is = subst (λ (r : Party R W E M). LawfulRecords kit l (applied (pass_asks kit by p.pass.machine) ws) (r ∷ others)) (sym is) kept
