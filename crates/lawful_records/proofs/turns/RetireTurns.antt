-- The turn of a pass that retires.
use Rattle.std.proofs.Common.{◌≡◌, ◌≢◌, ℕ, ◌+◌, ◌-◌, ◌<◌, ◌==◌, inl, inr, Bool, true, false, List, if◌then◌else◌, Option, Some, None, refl, sym, ap, ◌∙◌, subst, arith}
use Rattle.std.specs.Prelude.{slice_index, IsSome}
use Rattle.std.proofs.lemmas.Bool.{eqb-true, eq-eqb, cases_eq}
use Rattle.call_steps.specs.declared.step.Step.TheVariants.{Ended}
use Rattle.call_steps.specs.Steps.{IsInside, place_of}
use Rattle.call_steps.specs.StepLaws.{reading, Put}
use Rattle.heap_words.specs.Layouts.{Sizes, IsRegion, words_of, ack_at, root_at, region_at}
use Rattle.heap_words.specs.declared.field_word.FieldWord.{FieldWord}
use Rattle.heap_words.specs.declared.limits.TheConstants.{REGISTERS}
use Rattle.heap_words.specs.FieldWords.{word_of}
use Rattle.space_reclaim.specs.declared.region_word.RegionWord.TheVariants.{Filled}
use Rattle.space_reclaim.specs.OwnRegions.{IsOwn}
use Rattle.space_reclaim.specs.RegionWords.{word_of_region}
use Rattle.handshakes.specs.declared.pass_view.PassView.{PassView}
use Rattle.handshakes.specs.declared.retire.Retire.{Retire}
use Rattle.handshakes.specs.declared.retire.RetireMachine.{RetireMachine}
use Rattle.handshakes.specs.declared.retire.RetireMachine.TheVariants as retire
use Rattle.handshakes.specs.Handshakes.{Announced}
use Rattle.handshakes.specs.PhaseWords.{phase_word_of, phase_word_at, names_phase, retired_word}
use Rattle.handshakes.specs.Phases.{phase_of}
use Rattle.handshakes.specs.Polling.{held_in}
use Rattle.handshakes.specs.Retires as retires
use Rattle.handshakes.specs.Retires.{filled_word, region_word_at, register_before, retired_view}
use Rattle.handshakes.specs.Retiring.{IsRetiring, Leaving, retire_step, stored_by}
use Rattle.handshakes.specs.RetiringLaws.{retire_asks, retire_goes_on, region_word_is}
use Rattle.barriers.specs.Spaces.{Space}
use Rattle.barriers.specs.Says.{Notices, put_ack, put_root, put_region}
use Rattle.barriers.specs.Stances.{Retired, stance_at}
use Rattle.barriers.specs.Cycles.{Cycle}
use Rattle.barriers.specs.Objects.{IsSide}
use Rattle.barriers.specs.Protocols.{OnHand}
use Rattle.barriers.specs.Kits.{Kit, Stepping, own_of}
use Rattle.barriers.proofs.words.NoticeStores.{says_ack, says_root}
use Rattle.barriers.proofs.words.RegionStores.{says_region}
use Rattle.barriers.proofs.words.Sets.{set_here, set_else, set2_cases}
use Rattle.barriers.specs.Values.{value_of}
use Rattle.lawful_records.specs.LawfulRecords.{IsGood, AreStored, IsRetireIn, IsPassRecord}
use Rattle.lawful_records.specs.Making.{IsRoom, IsRoomIn, lens_of}
use Rattle.lawful_records.specs.Records.{number_of}
use Rattle.lawful_records.specs.PassTurns.{PassStands, HasTurn, in_machine}
use Rattle.barriers.specs.declared.pass.PassMachine.TheVariants as machine
use Rattle.lawful_records.specs.declared.records.PassKnown.{PassKnown}
use Rattle.lawful_records.proofs.frames.SpareStays.{ack_low, root_low, region_low, spare_low}
use Rattle.lawful_records.proofs.telling.Telling.{told_quiet}
use Rattle.lawful_records.proofs.turns.Holding.{PassHolds, side_at, record_of}
use Rattle.lawful_records.proofs.turns.Resting.{PassRests, IsLeaving, goes_to, quiet_retire, rests_of, record_rests, rests_region, rests_root}
use Rattle.lawful_records.proofs.parties.Pasts.{looks_not}
use Rattle.lawful_records.proofs.turns.Stepping.{next, own_there, put_alike, step_alike, puts, notice_turn, region_turn}

region_filled : word_of_region Filled ≡ filled_word
unfolding word_of_region
region_filled = refl

pub stance_retired : stance_at retired_word ≡ Retired
unfolding phase_word_at phase_word_of names_phase phase_of
stance_retired = refl

retired_is_phase : IsSome (phase_word_of retired_word)
unfolding phase_word_of names_phase phase_of
retired_is_phase = refl

own_none : (minds : Bool) (pass : ℕ) → own_of minds (retired_view pass) ≡ None
own_none true pass = refl
own_none false pass = refl

-- ---- root words

stored_next : (r : Retire) (behind : ℕ) → behind < REGISTERS → (last : Bool) → (behind == 0) ≡ last → stored_by (if last then retires.stored_all r r.region_at else retire.Root r (behind - 1)) ≡ register_before behind + 1
stored_next r behind few true e = all_stored r r.region_at ∙ (let none : behind ≡ 0 = eqb-true behind 0 e in omega (arith, none))
  where
    all_stored : (r : Retire) (at : Option ℕ) → stored_by (retires.stored_all r at) ≡ REGISTERS
    all_stored r None = refl
    all_stored r (Some at) = refl
stored_next r behind few false e = let some : behind ≢ 0 = λ none. absurd (cc (eq-eqb behind 0 none, e)) in omega (arith, some, few)

stored_more : (n : Notices) (pass : ℕ) (registers : List FieldWord) (reg : ℕ) → AreStored n pass registers reg → AreStored (put_root n pass reg (held_in registers reg)) pass registers (reg + 1)
stored_more n pass registers reg stored i small = elim (set2_cases n.root pass reg (held_in registers reg) pass i) [
  | inl here ↦ here.2 ∙ ap (held_in registers) (sym here.1)
  | inr apart ↦ apart.1 ∙ stored i (elim (cases_eq i reg) [ inl same ↦ absurd (apart.0 (refl, same)) | inr other ↦ omega (arith, small, other) ])
]

pub leaving_next : (r : Retire) (behind : ℕ) (last : Bool) → IsLeaving (if last then retires.stored_all r r.region_at else retire.Root r (behind - 1))
leaving_next r behind true = by_region r.region_at
  where
    by_region : (at : Option ℕ) → IsLeaving (retires.stored_all r at)
    by_region None = tt
    by_region (Some at) = tt
leaving_next r behind false = tt

module _ {R W E M : Type 0} (kit : Kit R W E M) (by : Stepping R W E M) (l : Sizes) (a : Announced) (c : Cycle) (s : Space) (n : Notices) (p : PassKnown R W E) (words : List ℕ) where
  abbrev Stands : RetireMachine → Type 0
  Stands m = PassStands kit by l a c s n (in_machine p (machine.Retire m)) words

  abbrev pass : ℕ
  pass = p.pass.view.pass

  -- what the retirement is about
  abbrev leaving : Leaving
  leaving = record { pass = pass; registers = p.pass.registers; region = p.pass.room.region }

  -- the region that it leaves is its own
  region_is : (room : Option ℕ) (used at : ℕ) → IsRoomIn l s pass room used → region_word_at l room ≡ Some at → (k : ℕ) × (room ≡ Some k) × (at ≡ region_at l k) × IsOwn l pass k
  region_is None used at room e = absurd cc
  region_is (Some k) used at room e = (k, refl, region_word_is l (Some k) at e k refl, room.own)

  module _ (r : Retire) (at : ℕ) (stands : Stands (retire.Region r at)) where
    left : (k : ℕ) × (p.pass.room.region ≡ Some k) × (at ≡ region_at l k) × IsOwn l pass k
    left = region_is p.pass.room.region p.pass.room.used at (stands.own.room refl).region stands.own.machine.0.1

    left_there : IsRegion l left.0
    left_there = own_there l pass left.0 stands.layout stands.own.number left.3

  pub retire_inside : (m : RetireMachine) → Stands m → IsInside (words_of l) (retires.asks_of m)
  retire_inside (retire.Root r behind) stands =
      let is = stands.own.machine in
      let there = stands.own.number in
      let step = retire_asks l leaving (retire.Root r behind) stands.own.eight is.0 in
      subst (IsInside (words_of l)) (sym step) (omega (arith, there.0, there.1))
  retire_inside (retire.Region r at) stands = let place = (left r at stands).2 in let there = left_there r at stands in omega (arith, place, there)
  retire_inside (retire.Acknowledge r) stands = let there = stands.own.number in let is : r.ack_at ≡ ack_at pass = ap (λ (q : Retire). q.ack_at) stands.own.machine.0 in omega (arith, is, there.0, there.1)
  retire_inside retire.Ended stands = tt

  -- ---- a root word is stored

  module _ (r : Retire) (behind : ℕ) (stands : Stands (retire.Root r behind)) (on : retires.asks_of (retire.Root r behind) ≢ Ended) where
    abbrev storing : PassKnown R W E
    storing = in_machine p (machine.Retire (retire.Root r behind))

    rests : PassRests kit l a c s n p
    rests = rests_of kit l a c s n p (machine.Retire (retire.Root r behind)) (quiet_retire kit p (retire.Root r behind) tt) stands.own

    room : IsRoom l s pass p.pass.room (lens_of p.mine)
    room = stands.own.room refl

    abbrev reg : ℕ
    reg = register_before behind

    -- the register that is stored, and the notices then
    abbrev word : FieldWord
    word = held_in p.pass.registers reg

    abbrev o : Notices
    o = put_root n pass reg word

    abbrev after : RetireMachine
    after = retires.fed_of (retire.Root r behind) (slice_index words (place_of (retires.asks_of (retire.Root r behind))))

    after_leaves : IsLeaving after
    after_leaves = leaving_next r behind (behind == 0)

    in_progress : (m : RetireMachine) → IsLeaving m → IsRetiring l leaving m × AreStored o pass p.pass.registers (stored_by m) → IsRetireIn l s o pass p.pass.registers p.pass.room.region m
    in_progress retire.Ended leaves is = absurd leaves
    in_progress (retire.Root q count) leaves is = is
    in_progress (retire.Region q at) leaves is = is
    in_progress (retire.Acknowledge q) leaves is = is

    after_is : IsRetireIn l s o pass p.pass.registers p.pass.room.region after
    after_is =
        let is = stands.own.machine in
        in_progress after after_leaves (retire_goes_on l leaving (retire.Root r behind) 0 is.0, subst (AreStored o pass p.pass.registers) (sym (stored_next r behind is.0.1 (behind == 0) refl)) (stored_more n pass p.pass.registers reg is.1))

    after_number : number_of (goes_to kit p (machine.Retire after)) ≡ pass
    after_number = ap (λ (v : PassView). v.pass) (quiet_retire kit p after after_leaves).view

    after_own : IsPassRecord kit l a c s o (goes_to kit p (machine.Retire after))
    after_own = record_rests kit l a c s o p (machine.Retire after) (quiet_retire kit p after after_leaves) (rests_root kit l a c s n p pass reg word rests) (λ has. room)
        (subst (λ (own : ℕ). IsRetireIn l s o own p.pass.registers p.pass.room.region after) (sym after_number) after_is)

    inside : IsInside (words_of l) (retires.asks_of (retire.Root r behind))
    inside = retire_inside (retire.Root r behind) stands

    stored : Put (reading words) (next kit by l a c s n storing words stands on inside) (root_at l pass reg) (word_of word)
    stored = step_alike (reading words) (next kit by l a c s n storing words stands on inside) (retires.asks_of (retire.Root r behind)) (retire_step l leaving (retire.Root r behind))
        (slice_index words (place_of (retires.asks_of (retire.Root r behind))))
        (retire_asks l leaving (retire.Root r behind) stands.own.eight stands.own.machine.0) (puts kit by l a c s n storing words stands on inside)

    root_turn : HasTurn kit by l a c s n storing words
    root_turn = notice_turn kit by l a c s n storing words stands on inside refl (looks_not None s.history p.seen stands.own.side.past) after_number o
        (says_root l (reading words) (next kit by l a c s n storing words stands on inside) s n stands.rows stands.says pass reg word stands.own.number (omega arith) (stands.own.registers reg).0 stored)
        (spare_low l (reading words) (next kit by l a c s n storing words stands on inside) s stands.spare (root_at l pass reg) (word_of word) stored (root_low l pass reg stands.own.number (omega arith)))
        (record { acks = λ other apart. refl; roots = λ other i apart. root_else other i apart; phase = refl; mark = refl })
        after_own
      where
        root_else : (other i : ℕ) → other ≢ pass → o.root other i ≡ n.root other i
        root_else other i apart = elim (set2_cases n.root pass reg word other i) [ inl here ↦ absurd (apart here.0) | inr there ↦ there.1 ]

  module _ (r : Retire) (at : ℕ) (stands : Stands (retire.Region r at)) (on : retires.asks_of (retire.Region r at) ≢ Ended) where
    abbrev filling : PassKnown R W E
    filling = in_machine p (machine.Retire (retire.Region r at))

    abbrev k : ℕ
    k = (left r at stands).0

    there : IsInside (words_of l) (retires.asks_of (retire.Region r at))
    there = retire_inside (retire.Region r at) stands

    filled_own : IsPassRecord kit l a c (put_region s k Filled) n (goes_to kit p (machine.Retire (retire.Acknowledge r)))
    filled_own = record_rests kit l a c (put_region s k Filled) n p (machine.Retire (retire.Acknowledge r)) (quiet_retire kit p (retire.Acknowledge r) tt)
        (rests_region kit l a c s n p k Filled (rests_of kit l a c s n p (machine.Retire (retire.Region r at)) (quiet_retire kit p (retire.Region r at) tt) stands.own))
        (λ has. absurd (cc has)) (stands.own.machine.0.0, stands.own.machine.1)

    filled : Put (reading words) (next kit by l a c s n filling words stands on there) (region_at l k) (word_of_region Filled)
    filled = put_alike (reading words) (next kit by l a c s n filling words stands on there) at filled_word (region_at l k) (word_of_region Filled) (left r at stands).2 (sym region_filled)
        (puts kit by l a c s n filling words stands on there)

    leave_turn : HasTurn kit by l a c s n filling words
    leave_turn = region_turn kit by l a c s n filling words stands on there refl (looks_not None s.history p.seen stands.own.side.past) refl k Filled
        (says_region l (reading words) s n stands.rows stands.says (next kit by l a c s n filling words stands on there) k Filled (left_there r at stands) tt filled)
        (spare_low l (reading words) (next kit by l a c s n filling words stands on there) s stands.spare (region_at l k) (word_of_region Filled) filled (region_low l k (left_there r at stands)))
        (λ e. cc e) (left r at stands).3 filled_own

  module _ (r : Retire) (stands : Stands (retire.Acknowledge r)) (on : retires.asks_of (retire.Acknowledge r) ≢ Ended) where
    abbrev ending : PassKnown R W E
    ending = in_machine p (machine.Retire (retire.Acknowledge r))

    before : PassRests kit l a c s n p
    before = rests_of kit l a c s n p (machine.Retire (retire.Acknowledge r)) (quiet_retire kit p (retire.Acknowledge r) tt) stands.own

    abbrev gone : Notices
    gone = put_ack n pass retired_word

    here : IsInside (words_of l) (retires.asks_of (retire.Acknowledge r))
    here = retire_inside (retire.Acknowledge r) stands

    side : IsSide kit.protocol c s (side_at kit (retired_view pass) p.seen)
    side = record { fits = λ runs. absurd (runs stance_retired); past = before.holds.side.past; number = subst (OnHand (λ b a. ⊥)) (sym (own_none kit.minds pass)) tt }

    holds : PassHolds kit l a c s gone (retired_view pass) p.pass.registers p.seen
    holds = record {
      number = before.holds.number;
      side = side;
      acked = set_here n.ack pass retired_word;
      answers = inl refl;
      phase = retired_is_phase;
      marked = inl (refl, refl);
      shaken = λ runs. absurd (runs refl);
      eight = before.holds.eight;
      good = before.holds.good;
      named = before.holds.named;
    }

    -- its pass has retired
    abbrev retired : PassKnown R W E
    retired = goes_to kit p (machine.Retire retire.Ended)

    retired_own : IsPassRecord kit l a c s gone retired
    retired_own = record_of kit l a c s gone retired holds (record {
      retired = refl;
      room = λ has. absurd (cc has);
      few = before.few;
      unborn = before.unborn;
      machine = λ i less. record { value = ap value_of (stands.own.machine.1 i less); good = subst (IsGood s) (sym (stands.own.machine.1 i less)) (before.holds.good i) };
      told = told_quiet kit s.history (in_machine p machine.Idle) retired
          (record { number = refl; mine = refl; count = refl; later = omega arith; past = before.holds.side.past }) refl before.told;
      call = tt;
      made = tt;
    })

    said : Put (reading words) (next kit by l a c s n ending words stands on here) (ack_at pass) retired_word
    said = put_alike (reading words) (next kit by l a c s n ending words stands on here) r.ack_at retired_word (ack_at pass) retired_word (ap (λ (q : Retire). q.ack_at) stands.own.machine.0) refl
        (puts kit by l a c s n ending words stands on here)

    end_turn : HasTurn kit by l a c s n ending words
    end_turn = notice_turn kit by l a c s n ending words stands on here refl (looks_not None s.history p.seen stands.own.side.past) refl gone
        (says_ack l (reading words) (next kit by l a c s n ending words stands on here) s n stands.rows stands.says pass retired_word stands.own.number said)
        (spare_low l (reading words) (next kit by l a c s n ending words stands on here) s stands.spare (ack_at pass) retired_word said (ack_low l pass stands.own.number))
        (record { acks = λ other apart. set_else n.ack pass other retired_word apart; roots = λ other reg apart. refl; phase = refl; mark = refl })
        retired_own

  pub retire_turn : (m : RetireMachine) → Stands m → retires.asks_of m ≢ Ended → HasTurn kit by l a c s n (in_machine p (machine.Retire m)) words
  retire_turn (retire.Root r behind) stands on = root_turn r behind stands on
  retire_turn (retire.Region r at) stands on = leave_turn r at stands on
  retire_turn (retire.Acknowledge r) stands on = end_turn r stands on
  retire_turn retire.Ended stands on = absurd (on refl)
