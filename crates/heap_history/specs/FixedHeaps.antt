-- A heap whose objects never move: by birth number, the values of the fields.
use Rattle.std.specs.Prelude.{ℕ, ◌+◌, ◌*◌, List, [], ◌∷◌, Bool, true, false, ◌&&◌, not, nat_le, ◌==◌, Option, Some, None, is_some, if◌then◌else◌, slice_get, slice_set, replicate, Vec}
use Rattle.std.specs.Ordering.{nat_cmp}
use Rattle.std.specs.Map.{lookup, set_value}
use Rattle.std.specs.BTreeMap.{is_at, insert_entry}
use Rattle.heap_words.specs.declared.limits.TheConstants.{BIRTHS_BETWEEN_PASSES, BIRTHS_OF_PASS, COMMON_BIRTH, COMMON_LEN}
use Rattle.heap_history.specs.declared.call.Value.{Value}
use Rattle.heap_history.specs.declared.call.Value.TheVariants.{Num, Object}
use Rattle.heap_history.specs.declared.call.Call.{Call}
use Rattle.heap_history.specs.declared.call.Call.TheVariants.{NewObject, Read, Write, Exchange}
use Rattle.heap_history.specs.declared.call.Reply.{Reply}
use Rattle.heap_history.specs.declared.call.Reply.TheVariants.{Made, Got, Wrote, Done, Differs, NotThere}

-- a finite map, as its entries in rising birth number
abbrev pub Heap : Type 0
Heap = List (ℕ × List Value)

-- a map of vectors, as the lists that they hold
abbrev pub objects_of : {A : Type 0} → List (ℕ × Vec Value A) → Heap
objects_of [] = []
objects_of (e ∷ es) = (e.0, e.1.items) ∷ objects_of es

abbrev pub zeros : ℕ → List Value
zeros len = replicate len (Num 0)

-- At the start there is the common object, of zeros.
abbrev pub opening : Heap
opening = (COMMON_BIRTH, zeros COMMON_LEN) ∷ []

-- the fields of an object, where it is there
abbrev pub fields_of : Heap → ℕ → Option (List Value)
fields_of heap birth = lookup (is_at (nat_cmp birth)) heap

abbrev pub field_in : Option (List Value) → ℕ → Option Value
field_in None field = None
field_in (Some values) field = slice_get values field

-- the value of a field, where it is there
abbrev pub value_in : Heap → ℕ → ℕ → Option Value
value_in heap object field = field_in (fields_of heap object) field

abbrev pub is_same : Value → Value → Bool
is_same (Num m) (Num n) = m == n
is_same (Object birth) (Object other) = birth == other
is_same (Num m) (Object birth) = false
is_same (Object birth) (Num n) = false

-- what a value names is there: a number names nothing
abbrev pub is_there : Heap → Value → Bool
is_there heap (Num n) = true
is_there heap (Object birth) = is_some (fields_of heap birth)

-- the first and the last birth number of a pass
abbrev pub first_birth : ℕ → ℕ
first_birth pass = pass * BIRTHS_BETWEEN_PASSES + 1

abbrev pub last_birth : ℕ → ℕ
last_birth pass = pass * BIRTHS_BETWEEN_PASSES + BIRTHS_OF_PASS

abbrev pub is_birth_of : ℕ → ℕ → Bool
is_birth_of pass birth = nat_le (first_birth pass) birth && nat_le birth (last_birth pass)

-- a read field
abbrev pub got : Option Value → Reply
got None = NotThere
got (Some value) = Got value

-- a written field
abbrev pub wrote : Option Value → Reply
wrote None = NotThere
wrote (Some value) = Wrote

-- a field compared with the expected value
abbrev pub compared : Value → Option Value → Reply
compared expected None = NotThere
compared expected (Some value) = if is_same value expected then Done else Differs value

-- The heap's answer to a call.
abbrev pub answer : Heap → Call → Reply
answer heap (NewObject pass birth len) = if is_birth_of pass birth && not (is_some (fields_of heap birth)) then Made else NotThere
answer heap (Read pass object field) = got (value_in heap object field)
answer heap (Write pass object field value) = if is_there heap value then wrote (value_in heap object field) else NotThere
answer heap (Exchange pass object field expected value) = if is_there heap value then compared expected (value_in heap object field) else NotThere

abbrev pub with_field : Option (List Value) → ℕ → Value → List Value
with_field None field value = []
with_field (Some values) field value = slice_set values field value

-- the heap with one field set
abbrev pub write_in : Heap → ℕ → ℕ → Value → Heap
write_in heap object field value = set_value (is_at (nat_cmp object)) heap (with_field (fields_of heap object) field value)

-- What a call with this reply makes of the heap.
abbrev pub changed : Heap → Call → Reply → Heap
changed heap (NewObject pass birth len) Made = insert_entry nat_cmp heap birth (zeros len)
changed heap (Write pass object field value) Wrote = write_in heap object field value
changed heap (Exchange pass object field expected value) Done = write_in heap object field value
changed heap _ _ = heap

-- the heap after the call
abbrev pub after : Heap → Call → Heap
after heap call = changed heap call (answer heap call)
