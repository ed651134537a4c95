-- The turns of a pass: of its polls, of objects that it makes, of its calls, and of its retirement.
use Rattle.std.proofs.Common.{◌≡◌, ◌≢◌, ℕ, List, ◌∷◌, Option, Some, refl, ap, subst, ◌∙◌}
use Rattle.std.specs.Prelude.{slice_index}
use Rattle.call_steps.specs.declared.step.Step.TheVariants.{Ended}
use Rattle.call_steps.specs.Steps.{IsInside, applied, place_of}
use Rattle.heap_words.specs.Layouts.{Sizes, words_of}
use Rattle.heap_history.specs.declared.call.Call.{Call}
use Rattle.handshakes.specs.Handshakes.{Announced}
use Rattle.barriers.specs.Spaces.{Space}
use Rattle.barriers.specs.Says.{Notices}
use Rattle.barriers.specs.Cycles.{Cycle}
use Rattle.barriers.specs.CycleLaws.{CycleLaws}
use Rattle.barriers.specs.Knowns.{Known}
use Rattle.barriers.specs.Kits.{Kit, Stepping, Laws}
use Rattle.lawful_records.specs.PassTurns.{IsAnnounced, PassStands, HasTurn, in_machine, pass_after}
use Rattle.barriers.specs.declared.pass.PassMachine.{PassMachine}
use Rattle.barriers.specs.declared.pass.PassMachine.TheVariants as machine
use Rattle.lawful_records.specs.declared.records.PassKnown.{PassKnown}
use Rattle.lawful_records.specs.declared.records.Party.{Party}
use Rattle.lawful_records.specs.declared.records.Party.TheVariants as party
use Rattle.lawful_records.proofs.parties.PassKeeps.{stands_of, pass_keeps}
use Rattle.lawful_records.proofs.parties.Pasts.{history_is}
use Rattle.lawful_records.proofs.parties.Seals.{are_sealed}
use Rattle.lawful_records.proofs.calls.Sights.{turned_alike}
use Rattle.lawful_records.specs.Collectors.{drawn_of}
use Rattle.lawful_records.specs.Cycling.{announced_by, cycle_of}
use Rattle.lawful_records.specs.LawfulRecords.{LawfulRecords}
use Rattle.lawful_records.specs.Records.{known_of}
use Rattle.lawful_records.specs.Turns.{pass_asks, pass_fed, pass_turned, party_asks, seal_in, sealed_of, turned}
use Rattle.lawful_records.proofs.calls.CallSteps.{CallKept}
use Rattle.lawful_records.proofs.calls.CallTurns.{read_inside, read_kept, write_inside, write_kept, exchange_inside, exchange_kept, read_turn, write_turn, exchange_turn}
use Rattle.lawful_records.proofs.turns.PollTurns.{poll_inside, poll_turn}
use Rattle.lawful_records.proofs.turns.NewTurns.{new_inside, new_turn}
use Rattle.lawful_records.proofs.turns.RetireTurns.{retire_inside, retire_turn}

module _ {R W E M : Type 0} (kit : Kit R W E M) (by : Stepping R W E M) (laws : Laws kit by) (cycle : CycleLaws kit.protocol) (l : Sizes) (a : Announced) (c : Cycle) (s : Space) (n : Notices) (words : List ℕ) where
  inside_by : (p : PassKnown R W E) (m : PassMachine R W E) → PassStands kit by l a c s n (in_machine p m) words → IsInside (words_of l) (pass_asks kit by m)
  inside_by p machine.Idle stands = tt
  inside_by p machine.Retired stands = tt
  inside_by p (machine.Poll m) stands = poll_inside kit by cycle l a c s n p words m stands
  inside_by p (machine.New m) stands = new_inside kit by laws l a c s n p words m stands
  inside_by p (machine.Read m) stands = read_inside kit by laws l a c s n p words m stands
  inside_by p (machine.Write m) stands = write_inside kit by laws l a c s n p words m stands
  inside_by p (machine.Exchange m) stands = exchange_inside kit by laws l a c s n p words m stands
  inside_by p (machine.Retire m) stands = retire_inside kit by l a c s n p words m stands

  turn_by : (p : PassKnown R W E) (m : PassMachine R W E) → PassStands kit by l a c s n (in_machine p m) words → pass_asks kit by m ≢ Ended → HasTurn kit by l a c s n (in_machine p m) words
  turn_by p machine.Idle stands on = absurd (on refl)
  turn_by p machine.Retired stands on = absurd (on refl)
  turn_by p (machine.Poll m) stands on = poll_turn kit by cycle l a c s n p words m stands on
  turn_by p (machine.New m) stands on = new_turn kit by laws l a c s n p words m stands on
  turn_by p (machine.Read m) stands on = read_turn kit by laws l a c s n p words m stands on
  turn_by p (machine.Write m) stands on = write_turn kit by laws l a c s n p words m stands on
  turn_by p (machine.Exchange m) stands on = exchange_turn kit by laws l a c s n p words m stands on
  turn_by p (machine.Retire m) stands on = retire_turn kit by l a c s n p words m stands on

  -- a call that a machine is in stays what it is over its step
  abbrev pub KeptBy : PassMachine R W E → PassMachine R W E → Type 0
  KeptBy m then = (k next : Known) → known_of kit m ≡ Some k → known_of kit then ≡ Some next → CallKept k next

  kept_as : (k next x y : Known) → CallKept k next → Some k ≡ Some x → Some next ≡ Some y → CallKept x y
  kept_as k next x y kept is then = let first : k ≡ x = cc is in let second : next ≡ y = cc then in subst (λ (z : Known). CallKept z y) first (subst (λ (z : Known). CallKept k z) second kept)

  kept_by : (p : PassKnown R W E) (m : PassMachine R W E) → PassStands kit by l a c s n (in_machine p m) words → pass_asks kit by m ≢ Ended → KeptBy m (pass_fed kit by m (slice_index words (place_of (pass_asks kit by m))))
  kept_by p machine.Idle stands on k next is then = absurd (on refl)
  kept_by p machine.Retired stands on k next is then = absurd (on refl)
  kept_by p (machine.Poll m) stands on k next is then = absurd cc
  kept_by p (machine.New m) stands on k next is then = absurd cc
  kept_by p (machine.Read m) stands on k next is then = kept_as (kit.reads m) _ k next (read_kept kit by laws l a c s n p words m stands on) is then
  kept_by p (machine.Write m) stands on k next is then = kept_as (kit.writes m) _ k next (write_kept kit by laws l a c s n p words m stands on) is then
  kept_by p (machine.Exchange m) stands on k next is then = kept_as (kit.exchanges m) _ k next (exchange_kept kit by laws l a c s n p words m stands on) is then
  kept_by p (machine.Retire m) stands on k next is then = absurd cc

  pub kept_of : (p : PassKnown R W E) → PassStands kit by l a c s n p words → pass_asks kit by p.pass.machine ≢ Ended → KeptBy p.pass.machine (pass_fed kit by p.pass.machine (slice_index words (place_of (pass_asks kit by p.pass.machine))))
  kept_of p stands on = kept_by p p.pass.machine stands on

  -- its step is on a word that is there
  pub inside_of : (p : PassKnown R W E) → PassStands kit by l a c s n p words → IsInside (words_of l) (pass_asks kit by p.pass.machine)
  inside_of p stands = inside_by p p.pass.machine stands

  -- and is a turn
  pub turn_of : (p : PassKnown R W E) → PassStands kit by l a c s n p words → pass_asks kit by p.pass.machine ≢ Ended → HasTurn kit by l a c s n p words
  turn_of p stands on = turn_by p p.pass.machine stands on

-- and keeps lawful records
module _ {R W E M : Type 0} (kit : Kit R W E M) (by : Stepping R W E M) (laws : Laws kit by) (cycle : CycleLaws kit.protocol) (l : Sizes) (words : List ℕ) (p : PassKnown R W E) (others : List (Party R W E M))
    (w : LawfulRecords kit l words (party.Pass p ∷ others)) (announcement : IsAnnounced kit.minds l (announced_by w.collector) (cycle_of w.collector) (drawn_of w.collector)) where
  stands : PassStands kit by l (announced_by w.collector) (cycle_of w.collector) w.space w.notices p words
  stands = stands_of kit by l words p others w announcement

  pub own_inside : IsInside (words_of l) (pass_asks kit by p.pass.machine)
  own_inside = inside_of kit by laws cycle l (announced_by w.collector) (cycle_of w.collector) w.space w.notices words p stands

  -- the seals that the others know are those of the objects
  turned_is : pass_asks kit by p.pass.machine ≢ Ended → turned kit by others (party.Pass p) (slice_index words (place_of (pass_asks kit by p.pass.machine))) ≡ party.Pass (pass_after kit by w.space p words)
  turned_is on =
      let seal : Option (List Call) = seal_in (sealed_of others) (place_of (pass_asks kit by p.pass.machine)) in
      ap party.Pass (
      ap (λ (h : List Call). pass_turned kit by seal h p (slice_index words (place_of (pass_asks kit by p.pass.machine)))) (history_is kit l w.space.history (party.Pass p ∷ others) w.history)
      ∙ turned_alike kit by laws l (announced_by w.collector) (cycle_of w.collector) w.space w.notices words p stands on seal
      (λ a f live inside at. ap (seal_in (sealed_of others)) at ∙ (are_sealed kit l w.collector w.space w.notices (party.Pass p ∷ others) (let are = w.parties in are.collector) w.each).seals a f live inside))

  pub own_keeps : pass_asks kit by p.pass.machine ≢ Ended → LawfulRecords kit l (applied (party_asks kit by (party.Pass p)) words) (turned kit by others (party.Pass p) (slice_index words (place_of (party_asks kit by (party.Pass p)))) ∷ others)
  own_keeps on = pass_keeps kit by l words p others w laws announcement on (turn_of kit by laws cycle l (announced_by w.collector) (cycle_of w.collector) w.space w.notices words p stands on) (turned_is on)

  pub own_kept : pass_asks kit by p.pass.machine ≢ Ended → (k next : Known) → known_of kit p.pass.machine ≡ Some k → known_of kit (pass_fed kit by p.pass.machine (slice_index words (place_of (pass_asks kit by p.pass.machine)))) ≡ Some next → CallKept k next
  own_kept on = kept_of kit by laws cycle l (announced_by w.collector) (cycle_of w.collector) w.space w.notices words p stands on
