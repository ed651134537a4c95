-- What begins at an address of a region, and what stands in a field.
use Rattle.std.specs.Prelude.{ℕ, Bool, false, ◌==◌, ◌&&◌}
use Rattle.heap_words.specs.declared.field_word.FieldWord.{FieldWord}
use Rattle.heap_words.specs.declared.field_word.FieldWord.TheVariants.{Num, Link}

-- What the header at an address says; Absent where no object begins. Of a copy under way the word says Plain.
pub data State : Type 0 where
  Absent : State
  Plain : State
  Kept : State
  Tagged : State
  Wide : (wide : ℕ) → State
  Moving : (to : ℕ) → State
  Underway : State
  Forward : (to : ℕ) → State
  Dead : State

-- the one place at which an object is, which every birth number has at most once
abbrev pub IsHome : State → Type 0
IsHome Plain = Unit {0}
IsHome Kept = Unit {0}
IsHome Tagged = Unit {0}
IsHome (Wide wide) = Unit {0}
IsHome (Moving to) = Unit {0}
IsHome _ = ⊥

-- a link may lead here: to a home, or to where one was
abbrev pub IsLive : State → Type 0
IsLive Plain = Unit {0}
IsLive Kept = Unit {0}
IsLive Tagged = Unit {0}
IsLive (Wide wide) = Unit {0}
IsLive (Moving to) = Unit {0}
IsLive (Forward to) = Unit {0}
IsLive _ = ⊥

abbrev pub same_word : FieldWord → FieldWord → Bool
same_word (Num m) (Num n) = m == n
same_word (Link birth at) (Link other there) = (birth == other) && (at == there)
same_word _ _ = false

-- this of each link that the word is
abbrev pub On : (ℕ → ℕ → Type 0) → FieldWord → Type 0
On Q (Num n) = Unit {0}
On Q (Link birth at) = Q birth at
