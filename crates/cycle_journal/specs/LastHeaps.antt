-- What is left of a heap: the values of root words, and the objects that are not dead.
use Rattle.std.specs.Prelude.{ℕ, zero, suc, ◌+◌, ◌==◌, ◌||◌, nat_le, if◌then◌else◌, Bool, true, false, List, [], ◌∷◌, map, slice_index}
use Rattle.std.specs.List.{IsDistinct, filter, flat_map, range_with_len}
use Rattle.heap_words.specs.Layouts.{Sizes, regions_of, root_at, first_word}
use Rattle.heap_words.specs.declared.limits.TheConstants.{REGISTERS, REGION_WORDS}
use Rattle.heap_words.specs.FieldWords.{field_at}
use Rattle.object_headers.specs.declared.header.State.{State}
use Rattle.object_headers.specs.declared.header.State.TheVariants.{Absent, Dead}
use Rattle.object_headers.specs.declared.header.Header.{Header}
use Rattle.object_headers.specs.Headers.{header_at}
use Rattle.heap_history.specs.declared.call.Value.{Value}
use Rattle.barriers.specs.Values.{value_of}

-- the value of the word at an address
abbrev pub value_at : List ℕ → ℕ → Value
value_at words at = value_of (field_at (slice_index words at))

-- the values of a number of words from an address on
abbrev pub values_at : List ℕ → ℕ → ℕ → List Value
values_at words at n = map (λ i. value_at words (at + i)) (range_with_len 0 n)

-- those of the root words of each pass, pass 1's first
abbrev pub roots_of : Sizes → List ℕ → List (List Value)
roots_of l words = map (λ pass. values_at words (root_at l pass 0) REGISTERS) (range_with_len 1 l.passes)

-- an object, by its address and its header
pub record Found : Type 0 where
  pub at : ℕ
  pub header : Header

-- the one whose header stands at an address
abbrev pub found_at : List ℕ → ℕ → Found
found_at words at = record { at = at; header = header_at (slice_index words at) }

-- the address after it
abbrev pub next_after : List ℕ → ℕ → ℕ
next_after words at = at + (header_at (slice_index words at)).len + 1

-- no object stands at an address: it is the end, or its word is 0
abbrev pub is_over : List ℕ → ℕ → ℕ → Bool
is_over words end at = nat_le end at || slice_index words at == 0

-- the objects of a region that stand one after another from an address on, at most a number of them
unfoldable pub objects_from : List ℕ → ℕ → ℕ → ℕ → List Found
objects_from words end zero at = []
objects_from words end (suc n) at =
    if is_over words end at then [] else found_at words at ∷ objects_from words end n (next_after words at)

-- all objects of a region, whose words are the most that it can have
abbrev pub objects_in : Sizes → List ℕ → ℕ → List Found
objects_in l words region = objects_from words (first_word l region + REGION_WORDS) REGION_WORDS (first_word l region)

-- an object is left unless it is dead
abbrev pub is_live : State → Bool
is_live Absent = false
is_live Dead = false
is_live state = true

-- what is told of an object
pub record Line : Type 0 where
  pub birth : ℕ
  pub at : ℕ
  pub fields : List Value

-- its fields have the values of the words after its header
abbrev pub line_at : List ℕ → Found → Line
line_at words f = record { birth = f.header.birth; at = f.at; fields = values_at words (f.at + 1) f.header.len }

-- the object whose header stands at an address, if it is left
abbrev pub left_at : List ℕ → ℕ → List Line
left_at words at = if is_live (header_at (slice_index words at)).state then line_at words (found_at words at) ∷ [] else []

-- the objects of a region that are left
abbrev pub live_in : Sizes → List ℕ → ℕ → List Found
live_in l words region = filter (λ f. is_live f.header.state) (objects_in l words region)

-- those of all regions
abbrev pub live_objects : Sizes → List ℕ → List Found
live_objects l words = flat_map (live_in l words) (range_with_len 0 (regions_of l))

-- no two objects that are left have one birth number
abbrev pub HasEachOnce : Sizes → List ℕ → Type 0
HasEachOnce l words = IsDistinct (λ b c. b == c) (map (λ f. f.header.birth) (live_objects l words))
