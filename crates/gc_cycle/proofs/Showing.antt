-- What a lawful world shows.
use Rattle.std.specs.List.{All}
use Rattle.std.specs.Prelude.{sum_by}
use Rattle.std.proofs.Common.{◌≡◌, ℕ, zero, suc, ◌+◌, ◌-◌, ◌≤◌, List, [], ◌∷◌, length, get_or, arith, subst, sym, ap, ◌∙◌}
use Rattle.std.proofs.lemmas.List.{get_or_default}
use Rattle.std.proofs.lemmas.List.Sums.{sum_by-cons}
use Rattle.heap_words.specs.Layouts.{IsPass}
use Rattle.heap_history.specs.declared.call.Entry.{Entry}
use Rattle.heap_history.specs.FixedHeaps.{opening}
use Rattle.heap_history.specs.declared.call.Call.{Call}
use Rattle.heap_history.specs.Histories.{IsAccepted, IsLegal, changes}
use Rattle.heap_history.specs.Logs.{passes_of}
use Rattle.heap_history.specs.Arranged.{arranged, shown}
use Rattle.heap_history.specs.ShownLaws.{shown_legal, changes-shown, accepted-shown, placed-arranged}
use Rattle.heap_script.specs.declared.answer.Answer.{Answer}
use Rattle.heap_script.specs.Allowed.{IsAllowed}
use Rattle.heap_script.specs.TellingSteps.{answers_at}
use Rattle.heap_script.specs.TellsLaws.{tells_shown}
use Rattle.barriers.specs.declared.pass.PassRecord.{PassRecord}
use Rattle.barriers.specs.Kits.{Kit, Stepping, Laws}
use Rattle.gc_cycle.specs.Worlds.{State, pass_at}
use Rattle.gc_cycle.specs.Lawful.{Lawful}
use Rattle.gc_cycle.specs.Shows.{ShowsThread, Shows}
use Rattle.gc_cycle.proofs.Playing.{stands_at}
use Rattle.gc_cycle.proofs.AllowedAnswers.{over_allowed}
use Rattle.gc_cycle.proofs.Acknowledging.{IsAcknowledged, acknowledged}

-- one of the lists is no longer than all of them together
length_at : {X : Type 0} (xs : List (List X)) (i : ℕ) → length (get_or xs i []) ≤ sum_by length xs
length_at [] i = omega arith
length_at (x ∷ xs) zero = omega (arith, sum_by-cons length x xs)
length_at (x ∷ xs) (suc i) = omega (arith, sum_by-cons length x xs, length_at xs i)

module _ {R W E M : Type 0} (kit : Kit R W E M) where
  shows_thread : (w : State R W E M) → Lawful kit w → (party : ℕ) → IsPass w.layout party → ShowsThread w party
  shows_thread w lw party is = let thread = lw.threads party is in let tells = thread.tells in record {
    fronts = tells.fronts;
    seat = tells.seat;
    run = tells.run;
    calls = tells_shown _ _ (answers_at w.told.answers party) w.told.log tells;
  }

  -- no thread has more answers than a script has commands
  few_answers : (w : State R W E M) → Lawful kit w → All (λ (answers : List Answer). length answers ≤ 65536) w.told.answers
  few_answers w lw k d within =
      let is : IsPass w.layout (k + 1) = (omega arith, omega (arith, within, lw.room.threads, lw.script.threads)) in
      let thread = lw.threads (k + 1) is in
      let back : k + 1 - 1 ≡ k = omega arith in
      let at : get_or w.told.answers k d ≡ answers_at w.told.answers (k + 1) = get_or_default w.told.answers k d [] within ∙ ap (λ i. get_or w.told.answers i []) (sym back) in
      omega (arith, ap length at, thread.fit, length_at w.commands (k + 1 - 1), lw.script.few)

  -- the record that stands at its place is the thread's
  pub acknowledged_by : (w : State R W E M) → Lawful kit w → (thread : ℕ) → IsPass w.layout thread → (passes : List (PassRecord R W E)) → passes ≡ w.passes → (x : PassRecord R W E) → x ≡ get_or passes (thread - 1) x
      → IsAcknowledged w thread (let view = x.view in view.acked)
  acknowledged_by w lw thread is passes same x here =
      let at : x ≡ pass_at w thread = stands_at w thread passes same x here is.0 (omega (arith, lw.passes, is.1)) in
      subst (λ (y : PassRecord R W E). IsAcknowledged w thread (let view = y.view in view.acked)) (sym at) (acknowledged kit w lw thread is)

module _ {R W E M : Type 0} (kit : Kit R W E M) (by : Stepping R W E M) (laws : Laws kit by) where
  -- its calls, arranged
  pub shows_of : (w : State R W E M) → Lawful kit w → (entries : List Entry) → entries ≡ shown w.told.log → Shows kit by w entries
  shows_of w lw entries is =
      let changed = ap changes is ∙ changes-shown w.told.log lw.log in record {
        entries_are = is;
        accepted = subst (IsAccepted opening) (sym is) (accepted-shown w.told.log lw.log);
        changes_are = changed;
        placed = placed-arranged w.told.log lw.log;
        legal = subst (λ (h : List Call). IsLegal h (passes_of w.layout.passes 1 (arranged w.told.log))) (sym (ap changes is)) (shown_legal w.layout.passes w.told.log lw.log lw.owners);
        owners = lw.owners;
        threads = shows_thread kit w lw;
        allowed = λ script plays over. subst (λ (h : List Call). IsAllowed script h w.told.answers) (sym changed) (over_allowed kit by laws script w lw over plays.layout plays.commands);
        few = few_answers kit w lw;
      }
