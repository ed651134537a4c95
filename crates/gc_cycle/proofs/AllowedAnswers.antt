-- Runs keep worlds lawful, and where every party has ended the answers of the threads are allowed.
use Rattle.std.proofs.Common.{◌≡◌, ℕ, zero, suc, ◌+◌, ◌≤◌, ◌<◌, Bool, true, false, cond, List, [], ◌∷◌, length, Option, Some, None, refl, sym, ap, ◌∙◌, subst, arith, inl, inr}
use Rattle.std.specs.Prelude.{not, slice_get, ◌↔◌, IsTrue}
use Rattle.std.specs.List.{filter, range_with_len, Contains}
use Rattle.std.proofs.lemmas.Bool.Decides.{eqb_tells}
use Rattle.std.proofs.lemmas.Bool.{le-ltb}
use Rattle.std.proofs.lemmas.List.Elements.{All-contains, filter_passes}
use Rattle.heap_words.specs.Layouts.{Sizes, IsPass}
use Rattle.heap_history.specs.Logs.{AreOfPasses, changes_of}
use Rattle.heap_script.specs.declared.script.Command.{Command}
use Rattle.heap_script.specs.declared.script.Command.TheVariants as commands
use Rattle.heap_script.specs.AllowedLaws.{log_allowed}
use Rattle.heap_script.specs.Allowed.{IsAllowed, IsAllowedThread, commands_of}
use Rattle.heap_script.specs.Scripts.{Reading}
use Rattle.heap_script.specs.Commands.{commands_by, commands_at}
use Rattle.heap_script.specs.CommandLaws.{commands_at-commands_by}
use Rattle.heap_script.specs.TellsLaws.{tells_allowed}
use Rattle.heap_script.specs.TellingSteps.{answers_at}
use Rattle.call_steps.specs.declared.step.Step.{Step}
use Rattle.call_steps.specs.declared.step.Step.TheVariants.{Ended}
use Rattle.barriers.specs.declared.pass.PassRecord.{PassRecord}
use Rattle.barriers.specs.declared.pass.PassMachine.{PassMachine}
use Rattle.barriers.specs.declared.pass.PassMachine.TheVariants as machine
use Rattle.barriers.specs.PassMachines as passes
use Rattle.barriers.specs.Kits.{Kit, Stepping, Laws}
use Rattle.gc_cycle.specs.declared.schedule.Chooser.{Chooser}
use Rattle.gc_cycle.specs.declared.schedule.Schedule.{Schedule}
use Rattle.gc_cycle.specs.Schedules.{chooser_of, chosen_by}
use Rattle.gc_cycle.specs.Worlds.{State, pass_at, answered, IsParty, is_ended, is_collector, asks_at, next_of, can_step, turn_of, collector_asks}
use Rattle.gc_cycle.specs.Lawful.{Lawful, IsAt, IsAtCommand}
use Rattle.gc_cycle.specs.Runs.{ready_of, is_none, is_over, turns_of, run_of}
use Rattle.gc_cycle.proofs.Playing.{Stays, still, later, turn_stays, is_ended-true}
use Rattle.gc_cycle.proofs.Running.{ready_is_party}
use Rattle.gc_cycle.proofs.Schedules.{chosen_is_ready}
use Rattle.gc_cycle.proofs.Turning.{turn_keeps, retired_at_end}

-- ---- the parties that can step

some_first : (a : ℕ) (xs : List ℕ) (b : Bool) → b ≡ true → Contains (cond b (a ∷ xs) xs) a
some_first a xs true e = (0, omega arith, refl)
some_first a xs false e = absurd cc

some_after : (a : ℕ) (xs : List ℕ) (q : ℕ) (b : Bool) → Contains xs q → Contains (cond b (a ∷ xs) xs) q
some_after a xs q true (k, within, here) = (suc k, omega arith, here)
some_after a xs q false among = among

-- a number that passes the test is among those that do
kept_in : (test : ℕ → Bool) (a n q : ℕ) → a ≤ q → q < a + n → test q ≡ true → Contains (filter test (range_with_len a n)) q
kept_in test a zero q above below passes = absurd (omega arith)
kept_in test a (suc n) q above below passes = kept_next test a n q above below passes (kept_in test (a + 1) n q)
  where
    kept_next : (test : ℕ → Bool) (a n q : ℕ) → a ≤ q → q < a + suc n → test q ≡ true
        → (a + 1 ≤ q → q < a + 1 + n → test q ≡ true → Contains (filter test (range_with_len (a + 1) n)) q)
        → Contains (filter test (range_with_len a (suc n))) q
    kept_next test a n q above below passes rest = elim (eqb_tells q a) [
      | inl same ↦ subst (λ (x : ℕ). Contains (filter test (range_with_len a (suc n))) x) (sym same.1) (some_first a _ (test a) (ap test (sym same.1) ∙ passes))
      | inr apart ↦ some_after a _ q (test a) (rest (omega (arith, above, apart.1)) (omega (arith, below)) passes)
    ]

none_is : (xs : List ℕ) → is_none xs ≡ true → length xs ≡ 0
none_is [] e = refl
none_is (x ∷ xs) e = absurd cc

pub some_are : (xs : List ℕ) → is_none xs ≡ false → 0 < length xs
some_are [] e = absurd cc
some_are (x ∷ xs) e = omega arith

-- after all commands none is left
at_end : {X : Type 0} (xs : List X) (n : ℕ) → slice_get xs n ≡ None → n ≤ length xs → n ≡ length xs
at_end [] n e most = omega arith
at_end (x ∷ xs) zero e most = absurd cc
at_end (x ∷ xs) (suc n) e most = let rest = at_end xs n e (omega arith) in omega (arith, rest)

module _ {R W E M : Type 0} (kit : Kit R W E M) (by : Stepping R W E M) where
  -- a thread can step where its machine asks for a step
  pub thread_steps : (w : State R W E M) (p : ℕ) → IsPass w.layout p → can_step kit by w p ≡ not (is_ended (asks_at kit by w p))
  thread_steps w p is =
      let passes : is_collector kit by w p ≡ false = le-ltb w.layout.passes p is.1 in
      rw passes refl

  -- the collector can where it asks for one
  pub collector_steps : (w : State R W E M) (p : ℕ) (step : Step) (ended : Bool) → is_collector kit by w p ≡ true → step ≡ collector_asks kit by w → ended ≡ is_ended step → not ended ≡ can_step kit by w p
  collector_steps w p step ended collects asks tested =
      let is : next_of kit by w p ≡ collector_asks kit by w = rw collects refl in
      ap not (tested ∙ ap is_ended (asks ∙ sym is))

  -- the parties that can step are ready
  pub ready_if : (w : State R W E M) (q : ℕ) → IsParty w.layout q → can_step kit by w q ≡ true → Contains (ready_of kit by w) q
  ready_if w q is can = kept_in (can_step kit by w) 1 (w.layout.passes + 1) q is.0 (omega (arith, is.1)) can

  -- and no others
  pub ready_is : (w : State R W E M) (q : ℕ) → Contains (ready_of kit by w) q → IsParty w.layout q × (can_step kit by w q ≡ true)
  ready_is w q among = (ready_is_party kit by w q among, All-contains (λ x. can_step kit by w x ≡ true) (ready_of kit by w) q (filter_passes (can_step kit by w) (range_with_len 1 (w.layout.passes + 1))) among)

-- ---- runs

-- what each turn of a ready party keeps, turns keep
module _ {R W E M : Type 0} (kit : Kit R W E M) (by : Stepping R W E M) (J : State R W E M → Type 0) (keeps : (w : State R W E M) (p : ℕ) → Contains (ready_of kit by w) p → J w → J (turn_of kit by w p)) where
  next_keeps : (n : ℕ) (chooser : Chooser) (w : State R W E M) → ((c : Chooser) (x : State R W E M) → J x → J (turns_of kit by n c x)) → J w
      → (b : Bool) → is_over kit by w ≡ b → J (cond b w (turns_of kit by n (chosen_by chooser (ready_of kit by w)).1 (turn_of kit by w (chosen_by chooser (ready_of kit by w)).0)))
  next_keeps n chooser w rest holds true over = holds
  next_keeps n chooser w rest holds false on = rest _ _ (keeps w _ (chosen_is_ready chooser (ready_of kit by w) (some_are (ready_of kit by w) on)) holds)

  pub turns_keep : (n : ℕ) (chooser : Chooser) (w : State R W E M) → J w → J (turns_of kit by n chooser w)
  turns_keep zero chooser w holds = holds
  turns_keep (suc n) chooser w holds = next_keeps n chooser w (λ c x h. turns_keep n c x h) holds (is_over kit by w) refl

module _ {R W E M : Type 0} (kit : Kit R W E M) (by : Stepping R W E M) where
  -- its script and its parties stay
  pub run_stays : (schedule : Schedule) (steps : ℕ) (w : State R W E M) → Stays w (run_of kit by schedule steps w)
  run_stays schedule steps w = turns_keep kit by (Stays w) (λ x p among h. later w x (turn_of kit by x p) h (turn_stays kit by x p)) steps (chooser_of schedule) w (still w)

  pub run_keeps_commands : (schedule : Schedule) (steps : ℕ) (w new : State R W E M) → new ≡ run_of kit by schedule steps w → new.commands ≡ w.commands
  run_keeps_commands schedule steps w new taken = ap (λ (x : State R W E M). x.commands) taken ∙ (let stays = run_stays schedule steps w in stays.commands)

-- ---- the end of a run

module _ {R W E M : Type 0} (kit : Kit R W E M) (by : Stepping R W E M) (laws : Laws kit by) where
  -- the world stays lawful
  pub run_keeps : (schedule : Schedule) (steps : ℕ) (w : State R W E M) → Lawful kit w → Lawful kit (run_of kit by schedule steps w)
  run_keeps schedule steps w lw = turns_keep kit by (Lawful kit) (λ x p among h. turn_keeps kit by laws x h p (ready_is_party kit by x p among)) steps (chooser_of schedule) w lw

  ended_if : (w : State R W E M) (p : ℕ) → is_over kit by w ≡ true → IsPass w.layout p → (b : Bool) → is_ended (asks_at kit by w p) ≡ b → b ≡ true
  ended_if w p over is true ended = refl
  ended_if w p over is false on =
      let among = ready_if kit by w p (is.0, omega (arith, is.1)) (thread_steps kit by w p is ∙ ap not on) in
      absurd (omega (arith, none_is (ready_of kit by w) over, among.1))

  -- where the run is over, every thread has ended
  pub over_is_ended : (w : State R W E M) → is_over kit by w ≡ true → (p : ℕ) → IsPass w.layout p → asks_at kit by w p ≡ Ended
  over_is_ended w over p is =
      let ended = is_ended (asks_at kit by w p) in
      let yes : ended ≡ true = ended_if w p over is ended refl in
      is_ended-true (asks_at kit by w p) yes

  -- a thread can step unless it has retired
  steps_by : (w : State R W E M) → Lawful kit w → (p : ℕ) → IsPass w.layout p → (retired : Bool) → IsTrue retired ↔ ((let r = pass_at w p in r.machine) ≡ machine.Retired) → (b : Bool) → is_ended (asks_at kit by w p) ≡ b → not retired ≡ not b
  steps_by w lw p is true tells true e = refl
  steps_by w lw p is false tells false e = refl
  steps_by w lw p is true tells false e =
      let gone : (let r = pass_at w p in r.machine) ≡ machine.Retired = tells.0 refl in
      let ends : is_ended (asks_at kit by w p) ≡ true = ap (λ (m : PassMachine R W E). is_ended (passes.asks_of by.read_asks by.write_asks by.exchange_asks m)) gone in
      absurd (cc (e, ends))
  steps_by w lw p is false tells true e =
      let gone = tells.1 (retired_at_end kit by laws w lw p is (is_ended-true (asks_at kit by w p) e)) in
      absurd (cc gone)

  pub steps_unless : (w : State R W E M) → Lawful kit w → (p : ℕ) → IsPass w.layout p → (x : PassRecord R W E) → x ≡ pass_at w p → (retired : Bool) → IsTrue retired ↔ (x.machine ≡ machine.Retired) → not retired ≡ can_step kit by w p
  steps_unless w lw p is x here retired tells =
      let its = subst (λ (y : PassRecord R W E). IsTrue retired ↔ (y.machine ≡ machine.Retired)) here tells in
      steps_by w lw p is retired its (is_ended (asks_at kit by w p)) refl ∙ sym (thread_steps kit by w p is)

  -- no command is left for one that has retired
  none_left : (l : Sizes) (p : PassRecord R W E) (command : Option Command) (m : PassMachine R W E) → p.machine ≡ m → m ≡ machine.Retired → IsAtCommand kit l p command → command ≡ None
  none_left l p None m same retired at = refl
  none_left l p (Some c) m same retired at = absurd (not_at l p c (subst (λ (k : PassMachine R W E). IsAt kit l p c k) (same ∙ retired) at))
    where
      not_at : (l : Sizes) (p : PassRecord R W E) (c : Command) → IsAt kit l p c machine.Retired → ⊥
      not_at l p (commands.New dst len) at = at
      not_at l p (commands.Get dst obj field) at = at
      not_at l p (commands.Put obj field what) at = at
      not_at l p (commands.Cas dst obj field expected value) at = at
      not_at l p (commands.Copy dst src) at = at
      not_at l p (commands.Drop dst) at = at
      not_at l p commands.Poll at = at

  -- all commands of each thread are answered
  pub over_is_answered : (w : State R W E M) → Lawful kit w → is_over kit by w ≡ true → (p : ℕ) → IsPass w.layout p → answered w p ≡ length (commands_at w.commands p)
  over_is_answered w lw over p is =
      let t = lw.threads p is in
      let retired = retired_at_end kit by laws w lw p is (over_is_ended w over p is) in
      let left = none_left w.layout (pass_at w p) (slice_get (commands_at w.commands p) (answered w p)) _ refl retired t.at in
      at_end (commands_at w.commands p) (answered w p) left t.fit

module _ {R W E M : Type 0} (kit : Kit R W E M) (by : Stepping R W E M) (laws : Laws kit by) (s : Reading) (w : State R W E M) (lw : Lawful kit w) (over : is_over kit by w ≡ true) (layout : w.layout ≡ s.layout) (commands : w.commands ≡ commands_by s.layout.passes s.lines) where
  count_is : length w.told.answers ≡ s.layout.passes
  count_is = lw.room.threads ∙ lw.script.threads ∙ ap (λ (l : Sizes). l.passes) layout

  thread_allowed : (p : ℕ) → IsPass s.layout p → IsAllowedThread s.layout.quota p (changes_of w.told.log) (commands_of p s.lines) (answers_at w.told.answers p)
  thread_allowed p is =
      let pass : IsPass w.layout p = subst (λ (l : Sizes). IsPass l p) (sym layout) is in
      let cs = commands_at w.commands p in
      let t = lw.threads p pass in
      let so = tells_allowed _ _ (answers_at w.told.answers p) w.told.log t.tells (over_is_answered kit by laws w lw over p pass) in
      let of : cs ≡ commands_of p s.lines = ap (λ (x : List (List Command)). commands_at x p) commands ∙ commands_at-commands_by s.layout.passes s.lines p is.0 is.1 in
      let Q : ℕ → Type 0 = λ q. IsAllowedThread q p (changes_of w.told.log) (commands_of p s.lines) (answers_at w.told.answers p) in
      let C : List Command → Type 0 = λ x. IsAllowedThread w.layout.quota p (changes_of w.told.log) x (answers_at w.told.answers p) in
      subst Q (ap (λ (l : Sizes). l.quota) layout) (subst C of so)

  -- where every party has ended, the answers are allowed for the changes
  pub over_allowed : IsAllowed s (changes_of w.told.log) w.told.answers
  over_allowed = log_allowed s w.told.log w.told.answers (subst (λ (l : Sizes). AreOfPasses l.passes w.told.log) layout lw.owners) count_is (λ p above below. thread_allowed p (above, below))
