-- A log: the calls that have ended, in the order in which they ended.
use Rattle.std.specs.Prelude.{◌≡◌, ◌≢◌, ℕ, zero, suc, ◌+◌, ◌≤◌, ◌==◌, if◌then◌else◌, List, [], ◌∷◌, length, map}
use Rattle.std.specs.List.{filter, All}
use Rattle.heap_history.specs.declared.call.Call.{Call}
use Rattle.heap_history.specs.declared.call.Reply.{Reply}
use Rattle.heap_history.specs.declared.call.Reply.TheVariants.{NotThere}
use Rattle.heap_history.specs.declared.call.Entry.{Entry}
use Rattle.heap_history.specs.declared.call.Ended.{Ended}
use Rattle.heap_history.specs.FixedHeaps.{Heap, opening, answer}
use Rattle.heap_history.specs.Histories.{changes, heap_after, heap_at, is_change, pass_of, seen_before}

-- ---- a log as a history

-- one call as a line of a history
abbrev pub entry_of : Ended → Entry
entry_of e = record { call = e.call; reply = e.reply }

abbrev pub entries_of : List Ended → List Entry
entries_of log = map entry_of log

-- the changes among them
abbrev pub changes_of : List Ended → List Call
changes_of log = changes (entries_of log)

-- the heap after them
abbrev pub heap_of : List Ended → Heap
heap_of log = heap_after opening (changes_of log)

-- ---- the calls of one pass

abbrev pub of_pass : ℕ → List Ended → List Ended
of_pass pass log = filter (λ e. pass_of e.call == pass) log

-- those of a number of passes, from this one on
abbrev pub passes_of : ℕ → ℕ → List Ended → List (List Ended)
passes_of zero pass log = []
passes_of (suc k) pass log = of_pass pass log ∷ passes_of k (pass + 1) log

-- each is a call of one of a number of passes
abbrev pub AreOfPasses : ℕ → List Ended → Type 0
AreOfPasses passes log = All (λ e. (1 ≤ pass_of e.call) × (pass_of e.call ≤ passes)) log

-- ---- fronts

-- how many changes there are with a call of this reply, where there were n
abbrev pub counted : ℕ → Reply → ℕ
counted n reply = if is_change reply then n + 1 else n

-- the changes of a log, with their fronts
abbrev pub changes_in : List Ended → List Ended
changes_in log = filter (λ e. is_change e.reply) log

-- from n changes on, the front of each change is its place among them
abbrev pub AreCounted : ℕ → List Ended → Type 0
AreCounted n [] = Unit {0}
AreCounted n (e ∷ es) = (e.front ≡ n + 1) × AreCounted (n + 1) es

-- The front lies in the history. The reply is that of the heap after the changes that the call saw, and not that
-- something is not there.
pub record HasReply (history : List Call) (e : Ended) : Type 0 where
  pub within : e.front ≤ length history
  pub reply : answer (heap_at history (seen_before e.reply e.front)) e.call ≡ e.reply
  pub there : e.reply ≢ NotThere

-- A log: changes stand in the order of their fronts, 1, 2 and so on, and each call is answered by the heap at its front.
pub record IsLog (log : List Ended) : Type 0 where
  pub counted : AreCounted 0 (changes_in log)
  pub answered : All (HasReply (changes_of log)) log

-- a next call that has seen all changes: a reply of the heap as it is
pub record IsNextCall (log : List Ended) (e : Ended) : Type 0 where
  pub front : e.front ≡ counted (length (changes_of log)) e.reply
  pub reply : answer (heap_of log) e.call ≡ e.reply
  pub there : e.reply ≢ NotThere
