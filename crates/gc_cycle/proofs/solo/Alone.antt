-- The turns of a schedule that plays one party after another: each leaves less to do.
use Rattle.std.proofs.Common.{◌≡◌, ◌≢◌, ℕ, zero, suc, ◌+◌, ◌-◌, ◌<◌, ◌≤◌, ◌⊎◌, Bool, true, false, cond, not, List, length, get_or, refl, sym, ap, ◌∙◌, subst, arith, inl, inr}
use Rattle.std.specs.Prelude.{sum_by}
use Rattle.std.specs.List.{range_with_len, Contains}
use Rattle.std.specs.List.Sorted.{IsNonDecreasing}
use Rattle.std.proofs.lemmas.Bool.Decides.{eqb_tells}
use Rattle.std.proofs.lemmas.Bool.{le-ltb, lt-ltb, cases_lt}
use Rattle.std.proofs.lemmas.List.Kept.{IsNonDecreasingBy-filter}
use Rattle.std.proofs.lemmas.List.FromFn.{length-range_with_len, get_or-range_with_len}
use Rattle.call_steps.specs.declared.step.Step.{Step}
use Rattle.call_steps.specs.declared.step.Step.TheVariants.{Ended}
use Rattle.call_steps.specs.declared.step.Step.TheVariants as steps
use Rattle.call_steps.specs.StepLaws.{reading}
use Rattle.heap_words.specs.Layouts.{Sizes, IsPass, ack_at}
use Rattle.heap_script.specs.declared.script.Command.{Command}
use Rattle.heap_script.specs.Commands.{commands_at}
use Rattle.heap_script.specs.SumLaws.{sum_by-lt}
use Rattle.handshakes.specs.PhaseWords.{retired_word}
use Rattle.barriers.specs.declared.pass.PassMachine.{PassMachine}
use Rattle.barriers.specs.declared.pass.PassMachine.TheVariants as machine
use Rattle.barriers.specs.declared.pass.PassRecord.{PassRecord}
use Rattle.barriers.specs.Kits.{Kit, Stepping, Laws}
use Rattle.lawful_records.specs.Collectors.{collector_of}
use Rattle.lawful_records.specs.Handshakes.{IsCollector}
use Rattle.gc_cycle.specs.declared.schedule.Chooser.TheVariants as choosers
use Rattle.gc_cycle.specs.Schedules.{lowest}
use Rattle.gc_cycle.specs.Worlds.{State, answered, IsParty, IsThere, is_ended, asks_at, is_collector, can_step, collector_asks, collected, taken, turn_of}
use Rattle.gc_cycle.specs.Lawful.{Lawful}
use Rattle.gc_cycle.specs.Runs.{ready_of, is_over, turns_of}
use Rattle.gc_cycle.proofs.Schedules.{lowest_is_ready, lowest_is_least}
use Rattle.gc_cycle.proofs.Turning.{turn_keeps, retired_at_end}
use Rattle.gc_cycle.proofs.Acknowledging.{collector_record, acknowledged}
use Rattle.gc_cycle.proofs.Running.{ready_is_party}
use Rattle.gc_cycle.proofs.Playing.{is_ended-true, is_ended-false}
use Rattle.gc_cycle.proofs.AllowedAnswers.{ready_if, ready_is, thread_steps, some_are}
use Rattle.gc_cycle.proofs.solo.CollectorEnds.{left_of_collector, MovesAlone, Falls, collector_falls, alone_at_start}
use Rattle.gc_cycle.proofs.solo.SmallPlans.{IsSmall, first_small}
use Rattle.gc_cycle.proofs.solo.Finding.{collector_finds}
use Rattle.gc_cycle.proofs.solo.Left.{left, StandsAlone, asks}
use Rattle.gc_cycle.proofs.solo.PlaysAlone.{PlaysAlone}
use Rattle.gc_cycle.proofs.solo.Standing.{none_marked, unhindered}
use Rattle.gc_cycle.proofs.solo.Turns.{machine_at, left_with, to_do, Goes, turn_goes}
use Rattle.lawful_records.specs.Jobs.{first_plan}
use Rattle.space_reclaim.specs.Plans.{Planned}

-- ---- numbers, tests and steps

range_rises : (a n : ℕ) → IsNonDecreasing (range_with_len a n)
range_rises a n i j d before within =
    let small : j < n = omega (arith, within, length-range_with_len a n) in
    omega (arith, before, get_or-range_with_len a n i d (omega (arith, before, small)), get_or-range_with_len a n j d small)

not_true : (b : Bool) → not b ≡ true → b ≡ false
not_true true e = absurd cc
not_true false e = refl

-- a step is Ended or not
ended_or_on : (step : Step) → (step ≡ Ended) ⊎ (is_ended step ≡ false)
ended_or_on (steps.Load at) = inr refl
ended_or_on (steps.Store at put) = inr refl
ended_or_on (steps.Exchange at want put) = inr refl
ended_or_on (steps.Add at by) = inr refl
ended_or_on (steps.Sub at by) = inr refl
ended_or_on steps.Ended = inl refl

module _ {R W E M : Type 0} (kit : Kit R W E M) (by : Stepping R W E M) (alone : PlaysAlone kit by) where
  -- until all parties have ended
  abbrev pub all_to_do : State R W E M → ℕ
  all_to_do w = sum_by (to_do kit by w) (range_with_len 1 w.layout.passes) + left_of_collector kit by alone (first_plan kit.kind w.layout) w.collector

  abbrev pub ready : State R W E M → List ℕ
  ready w = ready_of kit by w

  abbrev pub turn : State R W E M → ℕ → State R W E M
  turn w party = turn_of kit by w party

  -- whether a thread has no step left
  abbrev pub has_ended : State R W E M → ℕ → Bool
  has_ended w party = is_ended (asks kit by (machine_at w party))

  -- ---- what nobody else's steps disturb

  -- it is in no write and no exchange that goes on
  abbrev pub IsOutside : PassMachine R W E → Type 0
  IsOutside (machine.Write m) = by.write_asks m ≡ Ended
  IsOutside (machine.Exchange m) = by.exchange_asks m ≡ Ended
  IsOutside m = Unit {0}

  outside_stands : (memory : ℕ → ℕ) (m : PassMachine R W E) → asks kit by m ≢ Ended → IsOutside m → StandsAlone kit by alone memory m
  outside_stands memory machine.Idle on outside = tt
  outside_stands memory (machine.Poll m) on outside = tt
  outside_stands memory (machine.New m) on outside = tt
  outside_stands memory (machine.Read m) on outside = tt
  outside_stands memory (machine.Write m) on outside = absurd (on outside)
  outside_stands memory (machine.Exchange m) on outside = absurd (on outside)
  outside_stands memory (machine.Retire m) on outside = tt
  outside_stands memory machine.Retired on outside = tt

  -- one that is in a call that goes on can step
  outside_or_on : (m : PassMachine R W E) → IsOutside m ⊎ (is_ended (asks kit by m) ≡ false)
  outside_or_on machine.Idle = inl tt
  outside_or_on (machine.Poll m) = inl tt
  outside_or_on (machine.New m) = inl tt
  outside_or_on (machine.Read m) = inl tt
  outside_or_on (machine.Write m) = ended_or_on (by.write_asks m)
  outside_or_on (machine.Exchange m) = ended_or_on (by.exchange_asks m)
  outside_or_on (machine.Retire m) = inl tt
  outside_or_on machine.Retired = inl tt

  ended_outside : (m : PassMachine R W E) → is_ended (asks kit by m) ≡ true → IsOutside m
  ended_outside m ended = elim (outside_or_on m) [ inl outside ↦ outside | inr goes ↦ absurd (cc (ended, goes)) ]

  -- ---- the parties that can step, in rising order

  ready_rises : (w : State R W E M) → IsNonDecreasing (ready w)
  ready_rises w = IsNonDecreasingBy-filter (λ q. q) (can_step kit by w) (range_with_len 1 (w.layout.passes + 1)) (range_rises 1 (w.layout.passes + 1))

  -- a thread that has not ended is one of those that can step
  thread_among : (w : State R W E M) (q : ℕ) → IsPass w.layout q → has_ended w q ≡ false → Contains (ready w) q
  thread_among w q is on = ready_if kit by w q (is.0, omega (arith, is.1)) (thread_steps kit by w q is ∙ ap not on)

  -- and one of those that can step has not ended
  thread_runs : (w : State R W E M) (q : ℕ) → IsPass w.layout q → Contains (ready w) q → has_ended w q ≡ false
  thread_runs w q is among = not_true _ (sym (thread_steps kit by w q is) ∙ (ready_is kit by w q among).1)

  -- the turn of one that can step
  turn_takes : (w : State R W E M) (q : ℕ) → can_step kit by w q ≡ true → is_collector kit by w q ≡ false → turn w q ≡ taken kit by w q
  turn_takes w q can passes = rw (can, passes) refl

  turn_collects : (w : State R W E M) (q : ℕ) → can_step kit by w q ≡ true → is_collector kit by w q ≡ true → turn w q ≡ collected kit by w
  turn_collects w q can collects = rw (can, collects) refl

  -- ---- alone

  -- nobody has raced a thread's call
  abbrev Stands : State R W E M → ℕ → Type 0
  Stands w q = StandsAlone kit by alone (reading w.words) (machine_at w q)

  -- a thread is in no call that writes, or it is the lowest that can step, and nobody has raced its call
  abbrev pub IsAlone : State R W E M → ℕ → Type 0
  IsAlone w q = IsOutside (machine_at w q) ⊎ ((q ≡ lowest (ready w)) × Stands w q)

  -- the collector has not begun, or all threads have ended and nobody has raced its move
  abbrev pub IsCollectorAlone : ℕ → ℕ → State R W E M → Type 0
  IsCollectorAlone cycles salt w =
      (w.collector ≡ collector_of kit w.plan w.layout cycles salt) ⊎ (((q : ℕ) → IsPass w.layout q → has_ended w q ≡ true) × MovesAlone kit by alone (reading w.words) w.collector)

  -- No thread but the lowest that can step is in a call that writes; and as long as a thread runs, the collector has not begun.
  pub record IsSolo (cycles salt : ℕ) (w : State R W E M) : Type 0 where
    pub threads : (q : ℕ) → IsPass w.layout q → IsAlone w q
    pub collector : IsCollectorAlone cycles salt w

  alone_stands : (w : State R W E M) (q : ℕ) → asks_at kit by w q ≢ Ended → IsAlone w q → Stands w q
  alone_stands w q on (inl outside) = outside_stands (reading w.words) (machine_at w q) on outside
  alone_stands w q on (inr goes) = goes.1

  other_outside : (w : State R W E M) (q : ℕ) → q ≢ lowest (ready w) → IsAlone w q → IsOutside (machine_at w q)
  other_outside w q apart (inl outside) = outside
  other_outside w q apart (inr goes) = absurd (apart goes.0)

  -- there is less to do, and the next step is taken alone too
  record Next (cycles salt : ℕ) (w new : State R W E M) : Type 0 where
    solo : IsSolo cycles salt new
    less : all_to_do new < all_to_do w

  module _ (laws : Laws kit by) (cycles salt : ℕ) (w : State R W E M) (lw : Lawful kit w) (solo : IsSolo cycles salt w) (on : is_over kit by w ≡ false) where
    -- the party that takes the step
    abbrev first : ℕ
    first = lowest (ready w)

    among : Contains (ready w) first
    among = lowest_is_ready (ready w) (some_are (ready w) on)

    is_party : IsParty w.layout first
    is_party = ready_is_party kit by w first among

    can : can_step kit by w first ≡ true
    can = (ready_is kit by w first among).1

    -- ---- a thread

    module _ (is_pass : IsPass w.layout first) where
      abbrev new : State R W E M
      new = taken kit by w first

      runs : has_ended w first ≡ false
      runs = thread_runs w first is_pass among

      -- the collector has not begun
      waits : w.collector ≡ collector_of kit w.plan w.layout cycles salt
      waits = elim solo.collector [ inl start ↦ start | inr idle ↦ absurd (cc (idle.0 first is_pass, runs)) ]

      goes : Goes kit by alone w first (left kit by w.layout.quota (machine_at w first)) new
      goes =
          let asks_on : asks_at kit by w first ≢ Ended = is_ended-false (asks_at kit by w first) runs in
          let threads = lw.script.threads in
          let there : IsThere w first = record { least = is_pass.0; passes = omega (arith, is_pass.1, lw.passes); commands = omega (arith, is_pass.1, threads); answers = omega (arith, is_pass.1, threads, lw.room.threads) } in
          turn_goes kit by alone w first there asks_on (none_marked kit w lw first is_pass cycles salt waits) (unhindered kit by laws w lw first is_pass cycles salt waits asks_on) (alone_stands w first asks_on (solo.threads first is_pass))

      -- it stays the lowest, as long as it can step
      still_lowest : has_ended new first ≡ false → first ≡ lowest (ready new)
      still_lowest goes_on =
          let same : new.layout.passes ≡ w.layout.passes = ap (λ (l : Sizes). l.passes) goes.layout in
          let its = thread_among new first (is_pass.0, omega (arith, is_pass.1, same)) goes_on in
          let q : ℕ = lowest (ready new) in
          let next_among : Contains (ready new) q = lowest_is_ready (ready new) (omega (arith, its.1)) in
          let below : q ≤ first = lowest_is_least (ready new) first (ready_rises new) its in
          elim (eqb_tells q first) [
            | inl equal ↦ sym equal.1
            | inr apart ↦
                let least : 1 ≤ q = (ready_is_party kit by new q next_among).0 in
                let is : IsPass w.layout q = (least, omega (arith, below, is_pass.1)) in
                let still : has_ended new q ≡ false = thread_runs new q (least, omega (arith, below, is_pass.1, same)) next_among in
                let was : has_ended w q ≡ false = ap (λ (x : PassRecord R W E). is_ended (asks kit by x.machine)) (sym (goes.passes q least apart.1)) ∙ still in
                let above : first ≤ q = lowest_is_least (ready w) q (ready_rises w) (thread_among w q is was) in
                omega (arith, above, below)
          ]

      its_alone : IsOutside (machine_at new first) ⊎ (has_ended new first ≡ false) → IsAlone new first
      its_alone (inl outside) = inl outside
      its_alone (inr goes_on) = inr (still_lowest goes_on, goes.stands)

      each_alone : (q : ℕ) → IsPass new.layout q → IsAlone new q
      each_alone q other =
          let is : IsPass w.layout q = subst (λ (l : Sizes). IsPass l q) goes.layout other in
          elim (eqb_tells q first) [
            | inl same ↦ subst (λ (x : ℕ). IsAlone new x) (sym same.1) (its_alone (outside_or_on (machine_at new first)))
            | inr apart ↦ inl (subst (λ (x : PassRecord R W E). IsOutside x.machine) (sym (goes.passes q is.0 apart.1)) (other_outside w q apart.1 (solo.threads q is)))
          ]

      -- another thread has as much to do as before
      other_to_do : (q : ℕ) → 1 ≤ q → q ≢ first → to_do kit by new q ≡ to_do kit by w q
      other_to_do q least apart =
          let machine : left kit by w.layout.quota (machine_at new q) ≡ left kit by w.layout.quota (machine_at w q) = ap (λ (x : PassRecord R W E). left kit by w.layout.quota x.machine) (goes.passes q least apart) in
          let count : answered new q ≡ answered w q = ap length (goes.answers q least apart) in
          let size : length (commands_at new.commands q) ≡ length (commands_at w.commands q) = ap (λ (x : List (List Command)). length (commands_at x q)) goes.commands in
          let quota : ℕ = w.layout.quota in
          ap (λ (l : Sizes). left_with l.quota (length (commands_at new.commands q)) (answered new q) (left kit by l.quota (machine_at new q))) goes.layout
          ∙ ap (λ k. left_with quota k (answered new q) (left kit by quota (machine_at new q))) size ∙ (ap (λ k. left_with quota (length (commands_at w.commands q)) k (left kit by quota (machine_at new q))) count
          ∙ ap (λ k. left_with quota (length (commands_at w.commands q)) (answered w q) k) machine)

      each_to_do : (q : ℕ) → 1 ≤ q → to_do kit by new q ≤ to_do kit by w q
      each_to_do q least = elim (eqb_tells q first) [
        | inl same ↦ subst (λ (x : ℕ). to_do kit by new x ≤ to_do kit by w x) (sym same.1) (let less = goes.less in omega (arith, less))
        | inr apart ↦ omega (arith, other_to_do q least apart.1)
      ]

      each_in_range : (n i : ℕ) → i < n → to_do kit by new (get_or (range_with_len 1 n) i 0) ≤ to_do kit by w (get_or (range_with_len 1 n) i 0)
      each_in_range n i within = each_to_do (get_or (range_with_len 1 n) i 0) (omega (arith, get_or-range_with_len 1 n i 0 within))

      -- all threads have less to do
      threads_less : sum_by (to_do kit by new) (range_with_len 1 w.layout.passes) < sum_by (to_do kit by w) (range_with_len 1 w.layout.passes)
      threads_less =
          let n : ℕ = w.layout.passes in
          let long : length (range_with_len 1 n) ≡ n = length-range_with_len 1 n in
          let place : first - 1 < n = omega (arith, is_pass.0, is_pass.1) in
          let here : get_or (range_with_len 1 n) (first - 1) 0 ≡ first = get_or-range_with_len 1 n (first - 1) 0 place ∙ omega (arith, is_pass.0) in
          let its = subst (λ (x : ℕ). to_do kit by new x < to_do kit by w x) (sym here) goes.less in
          sum_by-lt (to_do kit by new) (to_do kit by w) 0 0 (range_with_len 1 n) (range_with_len 1 n) (first - 1) refl (λ i within. each_in_range n i (omega (arith, within, long))) (omega (arith, long, place)) its

      thread_less : all_to_do new < all_to_do w
      thread_less =
          let same : sum_by (to_do kit by new) (range_with_len 1 new.layout.passes) ≡ sum_by (to_do kit by new) (range_with_len 1 w.layout.passes) =
          ap (λ (l : Sizes). sum_by (to_do kit by new) (range_with_len 1 l.passes)) goes.layout in
          let left = ap (left_of_collector kit by alone (first_plan kit.kind new.layout)) goes.collector in
          let plan = ap (λ (l : Sizes). left_of_collector kit by alone (first_plan kit.kind l) w.collector) goes.layout in
          omega (arith, same, threads_less, left, plan)

      thread_next : Next cycles salt w (turn w first)
      thread_next =
          subst (Next cycles salt w) (sym (turn_takes w first can (le-ltb w.layout.passes first is_pass.1))) (record {
            solo = record { threads = each_alone; collector = inl (goes.collector ∙ waits ∙ ap (λ (l : Sizes). collector_of kit w.plan l cycles salt) (sym goes.layout)) };
            less = thread_less;
          })

    -- ---- the collector

    module _ (above : w.layout.passes < first) where
      collects : is_collector kit by w first ≡ true
      collects = lt-ltb w.layout.passes first above

      -- all threads have ended
      all_ended : (q : ℕ) → IsPass w.layout q → (b : Bool) → has_ended w q ≡ b → b ≡ true
      all_ended q is true ended = refl
      all_ended q is false runs =
          let most : first ≤ q = lowest_is_least (ready w) q (ready_rises w) (thread_among w q is runs) in
          absurd (omega (arith, most, above, is.1))

      ended_is : (q : ℕ) → IsPass w.layout q → has_ended w q ≡ true
      ended_is q is = all_ended q is (has_ended w q) refl

      -- and their acknowledgements say so
      acks_ended : (q : ℕ) → IsPass w.layout q → reading w.words (ack_at q) ≡ retired_word
      acks_ended q is =
          let said = acknowledged kit w lw q is in
          let retired = retired_at_end kit by laws w lw q is (is_ended-true (asks kit by (machine_at w q)) (ended_is q is)) in
          sym said.word_is ∙ said.retired.1 retired

      collector_on : collector_asks kit by w ≢ Ended
      collector_on = is_ended-false (collector_asks kit by w) (not_true _ (rw collects at can))

      -- nobody has raced its move
      moves_alone : MovesAlone kit by alone (reading w.words) w.collector
      moves_alone = elim solo.collector [
        | inl start ↦ subst (MovesAlone kit by alone (reading w.words)) (sym start) (alone_at_start kit by alone w.plan (reading w.words) w.layout cycles salt)
        | inr idle ↦ idle.1
      ]

      small : IsSmall w.plan
      small = subst IsSmall (sym lw.ended.plan) (first_small kit.kind w.layout lw.records.layout)

      falls : Falls kit by alone w.plan small w.layout lw.records.layout (let its = collector_record kit w lw in its.cycles) w.words acks_ended w.collector
      falls =
          let its = collector_record kit w lw in
          let plays = subst (λ k. IsCollector w.layout kit.kind its.cycles w.plan k) (sym its.machine) its.collects in
          collector_falls kit by alone w.plan small w.layout lw.records.layout its.cycles w.words acks_ended w.collector plays collector_on (collector_finds kit by laws w lw) moves_alone

      collector_less : all_to_do (collected kit by w) < all_to_do w
      collector_less =
          let before = ap (λ (plan : Planned). left_of_collector kit by alone plan w.collector) lw.ended.plan in
          let after = ap (λ (plan : Planned). left_of_collector kit by alone plan (let new = collected kit by w in new.collector)) lw.ended.plan in
          omega (arith, falls.0, before, after)

      collector_next : Next cycles salt w (turn w first)
      collector_next = subst (Next cycles salt w) (sym (turn_collects w first can collects)) (record {
        solo = record { threads = λ q is. inl (ended_outside (machine_at w q) (ended_is q is)); collector = inr (ended_is, falls.1) };
        less = collector_less;
      })

    next_is : Next cycles salt w (turn w first)
    next_is = elim (cases_lt w.layout.passes first) [ inl above ↦ collector_next above | inr within ↦ thread_next (is_party.0, within) ]

  -- with as many turns as there is to do, all end
  abbrev pub turns : ℕ → State R W E M → State R W E M
  turns n w = turns_of kit by n choosers.Solo w

  module _ (laws : Laws kit by) (cycles salt : ℕ) where
    none_ends : (w : State R W E M) → Lawful kit w → IsSolo cycles salt w → all_to_do w ≤ 0 → (b : Bool) → is_over kit by w ≡ b → b ≡ true
    none_ends w lw solo few true over = refl
    none_ends w lw solo few false on = let next = next_is laws cycles salt w lw solo on in absurd (omega (arith, next.less, few))

    next_ends : (n : ℕ) (w : State R W E M) → Lawful kit w → IsSolo cycles salt w → all_to_do w ≤ suc n
        → ((x : State R W E M) → Lawful kit x → IsSolo cycles salt x → all_to_do x ≤ n → is_over kit by (turns n x) ≡ true)
        → (b : Bool) → is_over kit by w ≡ b → is_over kit by (cond b w (turns n (turn w (lowest (ready w))))) ≡ true
    next_ends n w lw solo few rest true over = over
    next_ends n w lw solo few rest false on =
        let next = next_is laws cycles salt w lw solo on in
        let lawful = turn_keeps kit by laws w lw (lowest (ready w)) (is_party laws cycles salt w lw solo on) in
        rest (turn w (lowest (ready w))) lawful next.solo (omega (arith, next.less, few))

    pub turns_end : (n : ℕ) (w : State R W E M) → Lawful kit w → IsSolo cycles salt w → all_to_do w ≤ n → is_over kit by (turns n w) ≡ true
    turns_end zero w lw solo few = none_ends w lw solo few (is_over kit by w) refl
    turns_end (suc n) w lw solo few = next_ends n w lw solo few (λ x h its less. turns_end n x h its less) (is_over kit by w) refl
