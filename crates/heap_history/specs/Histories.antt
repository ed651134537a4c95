-- Histories: which lists of changes and replies a fixed heap allows.
use Rattle.std.specs.Prelude.{◌≡◌, ◌≢◌, ℕ, ◌+◌, ◌-◌, ◌≤◌, ◌⊎◌, List, [], ◌∷◌, length, take, drop, map, Bool, true, false, ◌==◌, if◌then◌else◌, IsTrue, Some, slice_get}
use Rattle.std.specs.List.{filter, All}
use Rattle.heap_history.specs.declared.call.Call.{Call}
use Rattle.heap_history.specs.declared.call.Call.TheVariants.{NewObject, Read, Write, Exchange}
use Rattle.heap_history.specs.declared.call.Reply.{Reply}
use Rattle.heap_history.specs.declared.call.Reply.TheVariants.{Made, Wrote, Done, NotThere}
use Rattle.heap_history.specs.declared.call.Entry.{Entry}
use Rattle.heap_history.specs.declared.call.Ended.{Ended}
use Rattle.heap_history.specs.FixedHeaps.{Heap, opening, answer, after}

abbrev pub pass_of : Call → ℕ
pass_of (NewObject pass birth len) = pass
pass_of (Read pass object field) = pass
pass_of (Write pass object field value) = pass
pass_of (Exchange pass object field expected value) = pass

-- A change is a call with one of these replies: a new object, a write, or an exchange that was done.
abbrev pub is_change : Reply → Bool
is_change Made = true
is_change Wrote = true
is_change Done = true
is_change _ = false

-- ---- the check of a list of entries

-- Each reply is the heap's, and none is that something is not there.
abbrev pub IsAccepted : Heap → List Entry → Type 0
IsAccepted heap [] = Unit {0}
IsAccepted heap (e ∷ es) = (answer heap e.call ≡ e.reply) × (e.reply ≢ NotThere) × IsAccepted (after heap e.call) es

-- the heap after these calls
abbrev pub heap_after : Heap → List Call → Heap
heap_after heap [] = heap
heap_after heap (c ∷ cs) = heap_after (after heap c) cs

abbrev pub calls : List Entry → List Call
calls es = map (λ e. e.call) es

-- The first entry that is not accepted: its index, the heap's reply and its own.
pub record IsFirstBad (es : List Entry) (index : ℕ) (wanted found : Reply) : Type 0 where
  pub entry : Entry
  pub at : slice_get es index ≡ Some entry
  pub earlier : IsAccepted opening (take index es)
  pub wanted_is : answer (heap_after opening (calls (take index es))) entry.call ≡ wanted
  pub found_is : entry.reply ≡ found
  pub bad : (wanted ≢ found) ⊎ (wanted ≡ NotThere)

-- ---- histories: the changes alone, in order of time

-- the changes of a list of entries
abbrev pub changes : List Entry → List Call
changes es = calls (filter (λ e. is_change e.reply) es)

-- the heap after the first n changes
abbrev pub heap_at : List Call → ℕ → Heap
heap_at history n = heap_after opening (take n history)

-- Each change fits the heap of those before it.
abbrev pub IsHistory : Heap → List Call → Type 0
IsHistory heap [] = Unit {0}
IsHistory heap (c ∷ cs) = IsTrue (is_change (answer heap c)) × IsHistory (after heap c) cs

abbrev pub made_by : ℕ → List Call → List Call
made_by pass history = filter (λ c. pass_of c == pass) history

-- what stands after the first n changes, up to the m-th
abbrev pub between : ℕ → ℕ → List Call → List Call
between n m history = take (m - n) (drop n history)

abbrev pub change_of : Call → Reply → List Call
change_of call reply = if is_change reply then call ∷ [] else []

-- how many changes had come before the call: the front of a look, one fewer for a change
abbrev pub seen_before : Reply → ℕ → ℕ
seen_before reply front = if is_change reply then front - 1 else front

-- An ended call of a pass that has seen n changes, of an object that is there. Its front is no earlier and lies in the
-- history; of the changes from there to the front the pass's own are those of the call, a change being the last; the
-- reply is the heap's.
pub record IsNext (history : List Call) (pass n : ℕ) (e : Ended) : Type 0 where
  pub own_call : pass_of e.call ≡ pass
  pub there : e.reply ≢ NotThere
  pub later : n ≤ e.front
  pub within : e.front ≤ length history
  pub own : made_by pass (between n e.front history) ≡ change_of e.call e.reply
  pub last : IsTrue (is_change e.reply) → slice_get history (e.front - 1) ≡ Some e.call
  pub reply : answer (heap_at history (seen_before e.reply e.front)) e.call ≡ e.reply

-- The ended calls of a pass that has seen n changes, one after another. It made no change after the last of them.
abbrev pub Follows : List Call → ℕ → ℕ → List Ended → Type 0
Follows history pass n [] = made_by pass (drop n history) ≡ []
Follows history pass n (e ∷ es) = IsNext history pass n e × Follows history pass e.front es

-- each pass's calls, those of pass p first
abbrev pub AllFollow : List Call → ℕ → List (List Ended) → Type 0
AllFollow history pass [] = Unit {0}
AllFollow history pass (es ∷ later) = Follows history pass 0 es × AllFollow history (pass + 1) later

-- A legal history: the changes, and the ended calls of passes 1, 2 and so on, of which there is no other.
pub record IsLegal (history : List Call) (ended : List (List Ended)) : Type 0 where
  pub fits : IsHistory opening history
  pub passes : All (λ c. (1 ≤ pass_of c) × (pass_of c ≤ length ended)) history
  pub follows : AllFollow history 1 ended
