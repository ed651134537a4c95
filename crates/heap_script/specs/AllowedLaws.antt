-- Laws of allowed answers: those of each thread are allowed for the history of a log.
use Rattle.std.proofs.Common.{◌≡◌, ℕ, suc, ◌+◌, ◌-◌, ◌≤◌, ◌<◌, List, [], ◌∷◌, length, get_or, subst, arith}
use Rattle.heap_history.specs.declared.call.Call.{Call}
use Rattle.heap_history.specs.declared.call.Ended.{Ended}
use Rattle.heap_history.specs.Histories.{pass_of}
use Rattle.heap_history.specs.Logs.{changes_of, AreOfPasses}
use Rattle.heap_history.specs.LogLaws.{All-changes_of}
use Rattle.heap_script.specs.declared.script.Line.{Line}
use Rattle.heap_script.specs.declared.answer.Answer.{Answer}
use Rattle.heap_script.specs.Scripts.{Reading}
use Rattle.heap_script.specs.Allowed.{IsAllowed, AllAllowed, IsAllowedThread, commands_of}
use Rattle.heap_script.specs.TellingSteps.{answers_at}

-- the answers of the threads from one on
all_allowed : (quota : ℕ) (history : List Call) (lines : List Line) (thread : ℕ) (answers : List (List Answer))
    → ((i : ℕ) → i < length answers → IsAllowedThread quota (thread + i) history (commands_of (thread + i) lines) (get_or answers i []))
    → AllAllowed quota history lines thread answers
all_allowed quota history lines thread [] each = tt
all_allowed quota history lines thread (first ∷ rest) each =
    let Here : ℕ → Type 0 = λ t. IsAllowedThread quota t history (commands_of t lines) first in
    let at : thread + 0 ≡ thread = omega arith in (
      subst Here at (each 0 (omega arith)),
      all_allowed quota history lines (thread + 1) rest (λ i within.
          let There : ℕ → Type 0 = λ t. IsAllowedThread quota t history (commands_of t lines) (get_or rest i []) in
          let next : thread + suc i ≡ thread + 1 + i = omega arith in
          subst There next (each (suc i) (omega arith))),
    )

-- Answers are allowed for the changes of a log where each call is one of the script's threads, and each thread's are.
pub log_allowed : (script : Reading) (log : List Ended) (answers : List (List Answer)) → AreOfPasses script.layout.passes log → length answers ≡ script.layout.passes
    → ((p : ℕ) → 1 ≤ p → p ≤ script.layout.passes → IsAllowedThread script.layout.quota p (changes_of log) (commands_of p script.lines) (answers_at answers p)) → IsAllowed script (changes_of log) answers
log_allowed script log answers owners count each = record {
  passes = All-changes_of (λ c. (1 ≤ pass_of c) × (pass_of c ≤ script.layout.passes)) log owners;
  count = count;
  threads = all_allowed script.layout.quota (changes_of log) script.lines 1 answers (λ i within.
      let here : 1 + i - 1 ≡ i = omega arith in
      subst (λ (k : ℕ). IsAllowedThread script.layout.quota (1 + i) (changes_of log) (commands_of (1 + i) script.lines) (get_or answers k [])) here
      (each (1 + i) (omega arith) (omega (arith, within, count))));
}
