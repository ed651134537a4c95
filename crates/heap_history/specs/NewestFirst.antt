-- Histories with the newest change first: what one who sees a heap change has seen so far.
use Rattle.std.specs.Prelude.{◌≡◌, ℕ, ◌⊎◌, List, [], ◌∷◌, length, nat_le, if◌then◌else◌, Option, unwrap_or}
use Rattle.std.specs.Option.{option_map}
use Rattle.heap_history.specs.declared.call.Value.{Value}
use Rattle.heap_history.specs.declared.call.Value.TheVariants.{Num}
use Rattle.heap_history.specs.declared.call.Call.{Call}
use Rattle.heap_history.specs.FixedHeaps.{Heap, opening, after, fields_of, value_in}

-- the heap after these changes
abbrev pub heap_of_history : List Call → Heap
heap_of_history [] = opening
heap_of_history (c ∷ h) = after (heap_of_history h) c

-- The early one is the history at some time up to the late one.
abbrev pub Before : List Call → List Call → Type 0
Before early [] = early ≡ []
Before early (c ∷ h) = (early ≡ c ∷ h) ⊎ Before early h

-- the longer of two, and the first where none is
abbrev pub longer : List Call → List Call → List Call
longer a b = if nat_le (length b) (length a) then a else b

-- the longest of some
abbrev pub longest : List (List Call) → List Call
longest [] = []
longest (h ∷ hs) = longer h (longest hs)

-- the value that a field then has, and 0 where it is not there
abbrev pub value_at : List Call → ℕ → ℕ → Value
value_at h object field = unwrap_or (value_in (heap_of_history h) object field) (Num 0)

-- how many fields an object then has, where it is there
abbrev pub len_at : List Call → ℕ → Option ℕ
len_at h object = option_map length (fields_of (heap_of_history h) object)
