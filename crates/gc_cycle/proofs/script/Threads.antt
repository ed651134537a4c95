-- The thread of another pass, and one that goes on.
use Rattle.std.proofs.Common.{◌≡◌, ◌≢◌, ℕ, List, [], ◌∷◌, Option, Some, None, sym, ◌∙◌, subst}
use Rattle.std.specs.List.{All}
use Rattle.std.proofs.lemmas.List.Elements.{All-append, All-from_recursion}
use Rattle.heap_words.specs.Layouts.{Sizes, IsPass}
use Rattle.heap_history.specs.declared.call.Ended.{Ended}
use Rattle.heap_history.specs.Histories.{pass_of}
use Rattle.heap_script.specs.declared.answer.Answer.{Answer}
use Rattle.heap_script.specs.Tellings.{Tells, Thread, Standing}
use Rattle.heap_script.specs.TellsLaws.{tells_other}
use Rattle.barriers.specs.declared.pass.PassRecord.{PassRecord}
use Rattle.barriers.specs.Kits.{Kit}
use Rattle.gc_cycle.specs.Worlds.{logged}
use Rattle.gc_cycle.specs.Lawful.{IsThreadOf}

-- at most one more call has ended, and it is one of this pass
abbrev pub IsOf : ℕ → Option Ended → Type 0
IsOf pass None = Unit {0}
IsOf pass (Some e) = pass_of e.call ≡ pass

pub told_beside : (t : Thread) (s : Standing) (answers : List Answer) (log : List Ended) (pass : ℕ) (call : Option Ended) → IsOf pass call → t.number ≢ pass → Tells t s answers log → Tells t s answers (logged log call)
told_beside t s answers log pass None of apart told = told
told_beside t s answers log pass (Some e) of apart told = tells_other t s answers log e (λ same. apart (sym same ∙ of)) told

module _ {R W E M : Type 0} (kit : Kit R W E M) where
  -- a thread of another pass is where it was
  pub thread_stays : (l : Sizes) (t : Thread) (p : PassRecord R W E) (answers : List Answer) (log : List Ended) (pass : ℕ) (call : Option Ended) → IsOf pass call → t.number ≢ pass
      → IsThreadOf kit l t p answers log → IsThreadOf kit l t p answers (logged log call)
  thread_stays l t p answers log pass call of apart is = record {
    number = is.number;
    tells = told_beside t _ answers log pass call of apart is.tells;
    fit = is.fit;
    at = is.at;
    going = is.going;
  }

pub owners_grow : (l : Sizes) (pass : ℕ) (log : List Ended) (call : Option Ended) → IsPass l pass → IsOf pass call → All (λ (e : Ended). IsPass l (pass_of e.call)) log → All (λ (e : Ended). IsPass l (pass_of e.call)) (logged log call)
owners_grow l pass log None is of owners = owners
owners_grow l pass log (Some e) is of owners =
    let P : Ended → Type 0 = λ x. IsPass l (pass_of x.call) in
    All-append P log (e ∷ []) owners (All-from_recursion P (e ∷ []) (subst (IsPass l) (sym of) is, tt))
