-- What fields hold and how long objects are, after a history with the newest change first.
use Rattle.std.specs.Prelude.{slice_get, if◌then◌else◌, IsTrue, is_some, unwrap_or, ◌≢◌, ◌⊎◌}
use Rattle.std.specs.Option.{option_map}
use Rattle.std.proofs.Common.{◌≡◌, ℕ, zero, suc, ◌<◌, List, [], ◌∷◌, length, Bool, true, false, Option, Some, None, refl, sym, ap, ◌∙◌, subst, ⊎_elim, inl, inr, arith}
use Rattle.std.proofs.lemmas.Bool.{cases_eq, eq-eqb, ne_eqb}
use Rattle.heap_history.specs.declared.call.Value.{Value}
use Rattle.heap_history.specs.declared.call.Value.TheVariants.{Num, Object}
use Rattle.heap_history.specs.declared.call.Call.{Call}
use Rattle.heap_history.specs.declared.call.Call.TheVariants.{NewObject, Read, Write, Exchange}
use Rattle.heap_history.specs.declared.call.Reply.TheVariants.{Made, Got, Wrote, Done, Differs, NotThere}
use Rattle.heap_history.specs.FixedHeaps.{Heap, zeros, fields_of, field_in, value_in, is_birth_of, is_same, is_there, got, wrote, compared, write_in, answer, changed, after}
use Rattle.heap_history.specs.HistoryLaws.{fields_of-new, fields_of-new_other, value_in-write, value_in-write_other_field, value_in-write_other}
use Rattle.heap_history.specs.ObjectLaws.{wrote_parts, done_parts, made_absent, len_changed, closed_changed, closed_opening, IsClosed}
use Rattle.heap_history.specs.NewestFirst.{heap_of_history, Before, value_at, len_at}

-- ---- values

zero_or : (len field : ℕ) → unwrap_or (slice_get (zeros len) field) (Num 0) ≡ Num 0
zero_or zero field = refl
zero_or (suc len) zero = refl
zero_or (suc len) (suc field) = zero_or len field

-- The fields of a new object are 0, as they were where it was not there. So it leaves all.
pub value_at-new : (h : List Call) (pass birth len object field : ℕ) → answer (heap_of_history h) (NewObject pass birth len) ≡ Made → value_at (NewObject pass birth len ∷ h) object field ≡ value_at h object field
value_at-new h pass birth len object field said =
    let heap = heap_of_history h in
    let call = NewObject pass birth len in
    let now : after heap call ≡ changed heap call Made = ap (changed heap call) said in
    let value : Option (List Value) → Value = λ fields. unwrap_or (field_in fields field) (Num 0) in
    ap (λ x. value (fields_of x object)) now
    ∙ ⊎_elim
    (λ same.
    ap (λ o. value (fields_of (changed heap call Made) o)) same
    ∙ ap value (fields_of-new heap birth (zeros len))
    ∙ zero_or len field
    ∙ sym (ap value (made_absent (is_birth_of pass birth) (fields_of heap birth) said))
    ∙ ap (λ o. value (fields_of heap o)) (sym same))
    (λ apart. ap value (fields_of-new_other heap birth (zeros len) object apart))
    (cases_eq object birth)

written_here : (heap : Heap) (object field : ℕ) (value held : Value) → value_in heap object field ≡ Some held → unwrap_or (value_in (write_in heap object field value) object field) (Num 0) ≡ value
written_here heap object field value held was = ap (λ o. unwrap_or o (Num 0)) (value_in-write heap object field value held was)

written_elsewhere : (heap : Heap) (object field : ℕ) (value held : Value) (other place : ℕ) → value_in heap object field ≡ Some held → (other ≢ object) ⊎ (place ≢ field)
    → unwrap_or (value_in (write_in heap object field value) other place) (Num 0) ≡ unwrap_or (value_in heap other place) (Num 0)
written_elsewhere heap object field value held other place was apart =
    ap (λ o. unwrap_or o (Num 0)) (⊎_elim
    (λ same.
    let elsewhere : place ≢ field = ⊎_elim (λ far. absurd (far same)) (λ far. far) apart in
    ap (λ o. value_in (write_in heap object field value) o place) same
    ∙ value_in-write_other_field heap object field value held place was elsewhere
    ∙ ap (λ o. value_in heap o place) (sym same))
    (λ far. value_in-write_other heap object field value other place far)
    (cases_eq other object))

-- a written field
pub value_at-write : (h : List Call) (pass object field : ℕ) (value : Value) → answer (heap_of_history h) (Write pass object field value) ≡ Wrote → value_at (Write pass object field value ∷ h) object field ≡ value
value_at-write h pass object field value said =
    let heap = heap_of_history h in
    let parts = wrote_parts (is_there heap value) (value_in heap object field) said in
    ap (λ reply. unwrap_or (value_in (changed heap (Write pass object field value) reply) object field) (Num 0)) said
    ∙ written_here heap object field value parts.0 parts.2

-- and every other field
pub value_at-write_other : (h : List Call) (pass object field : ℕ) (value : Value) (other place : ℕ) → answer (heap_of_history h) (Write pass object field value) ≡ Wrote → (other ≢ object) ⊎ (place ≢ field)
    → value_at (Write pass object field value ∷ h) other place ≡ value_at h other place
value_at-write_other h pass object field value other place said apart =
    let heap = heap_of_history h in
    let parts = wrote_parts (is_there heap value) (value_in heap object field) said in
    ap (λ reply. unwrap_or (value_in (changed heap (Write pass object field value) reply) other place) (Num 0)) said
    ∙ written_elsewhere heap object field value parts.0 other place parts.2 apart

-- a field that was exchanged
pub value_at-exchange : (h : List Call) (pass object field : ℕ) (expected value : Value) → answer (heap_of_history h) (Exchange pass object field expected value) ≡ Done
    → value_at (Exchange pass object field expected value ∷ h) object field ≡ value
value_at-exchange h pass object field expected value said =
    let heap = heap_of_history h in
    let parts = done_parts expected (is_there heap value) (value_in heap object field) said in
    ap (λ reply. unwrap_or (value_in (changed heap (Exchange pass object field expected value) reply) object field) (Num 0)) said
    ∙ written_here heap object field value parts.0 parts.2

-- and every other field
pub value_at-exchange_other : (h : List Call) (pass object field : ℕ) (expected value : Value) (other place : ℕ) → answer (heap_of_history h) (Exchange pass object field expected value) ≡ Done
    → (other ≢ object) ⊎ (place ≢ field) → value_at (Exchange pass object field expected value ∷ h) other place ≡ value_at h other place
value_at-exchange_other h pass object field expected value other place said apart =
    let heap = heap_of_history h in
    let parts = done_parts expected (is_there heap value) (value_in heap object field) said in
    ap (λ reply. unwrap_or (value_in (changed heap (Exchange pass object field expected value) reply) other place) (Num 0)) said
    ∙ written_elsewhere heap object field value parts.0 other place parts.2 apart

-- ---- lengths

-- a new object has its length, and was not there
pub len_at-new : (h : List Call) (pass birth len : ℕ) → answer (heap_of_history h) (NewObject pass birth len) ≡ Made → len_at (NewObject pass birth len ∷ h) birth ≡ Some len
len_at-new h pass birth len said =
    let heap = heap_of_history h in
    ap (λ reply. option_map length (fields_of (changed heap (NewObject pass birth len) reply) birth)) said
    ∙ ap (option_map length) (fields_of-new heap birth (zeros len))
    ∙ ap Some (length-zeros len)
  where
    length-zeros : (len : ℕ) → length (zeros len) ≡ len
    length-zeros zero = refl
    length-zeros (suc len) = ap suc (length-zeros len)

pub len_at-made : (h : List Call) (pass birth len : ℕ) → answer (heap_of_history h) (NewObject pass birth len) ≡ Made → len_at h birth ≡ None
len_at-made h pass birth len said = ap (option_map length) (made_absent (is_birth_of pass birth) (fields_of (heap_of_history h) birth) said)

-- and every other has what it had
pub len_at-new_other : (h : List Call) (pass birth len object : ℕ) → answer (heap_of_history h) (NewObject pass birth len) ≡ Made → object ≢ birth → len_at (NewObject pass birth len ∷ h) object ≡ len_at h object
len_at-new_other h pass birth len object said apart =
    let heap = heap_of_history h in
    ap (λ reply. option_map length (fields_of (changed heap (NewObject pass birth len) reply) object)) said
    ∙ ap (option_map length) (fields_of-new_other heap birth (zeros len) object apart)

-- no call changes the length of an object that is there
pub len_at-stays : (c : Call) (h : List Call) (object len : ℕ) → len_at h object ≡ Some len → len_at (c ∷ h) object ≡ Some len
len_at-stays c h object len had = len_changed (heap_of_history h) c (answer (heap_of_history h) c) object len refl had

pub len_at-before : (early late : List Call) (object len : ℕ) → Before early late → len_at early object ≡ Some len → len_at late object ≡ Some len
len_at-before early [] object len before had = ap (λ h. len_at h object) (sym before) ∙ had
len_at-before early (c ∷ h) object len (inl same) had = ap (λ h. len_at h object) (sym same) ∙ had
len_at-before early (c ∷ h) object len (inr before) had = len_at-stays c h object len (len_at-before early h object len before had)

-- ---- fields that are there

there_in : (found : Option (List Value)) (len field : ℕ) → option_map length found ≡ Some len → field < len → field_in found field ≡ Some (unwrap_or (field_in found field) (Num 0))
there_in None len field had below = absurd cc
there_in (Some values) len field had below = by_place values field (let same : length values ≡ len = cc in omega arith)
  where
    by_place : (values : List Value) (field : ℕ) → field < length values → slice_get values field ≡ Some (unwrap_or (slice_get values field) (Num 0))
    by_place [] field below = absurd (omega arith)
    by_place (v ∷ values) zero below = refl
    by_place (v ∷ values) (suc field) below = by_place values field (omega arith)

-- a field of an object that is there has its value
pub value_at-there : (h : List Call) (object field len : ℕ) → len_at h object ≡ Some len → field < len → value_in (heap_of_history h) object field ≡ Some (value_at h object field)
value_at-there h object field len had below = there_in (fields_of (heap_of_history h) object) len field had below

-- what a field holds is there
pub history_closed : (h : List Call) → IsClosed (heap_of_history h)
history_closed [] = closed_opening
history_closed (c ∷ h) = closed_changed (heap_of_history h) c (answer (heap_of_history h) c) refl (history_closed h)

pub value_there : (h : List Call) (object field : ℕ) → IsTrue (is_there (heap_of_history h) (value_at h object field))
value_there h object field = by_found (value_in (heap_of_history h) object field) refl
  where
    by_found : (found : Option Value) → value_in (heap_of_history h) object field ≡ found → IsTrue (is_there (heap_of_history h) (unwrap_or found (Num 0)))
    by_found None is = refl
    by_found (Some value) is = history_closed h object field value is

-- an object that a value names is there where its length is known
pub object_there : (h : List Call) (birth len : ℕ) → len_at h birth ≡ Some len → IsTrue (is_there (heap_of_history h) (Object birth))
object_there h birth len had = by_found (fields_of (heap_of_history h) birth) had
  where
    by_found : (found : Option (List Value)) → option_map length found ≡ Some len → is_some found ≡ true
    by_found None had = absurd cc
    by_found (Some values) had = refl

-- ---- replies to calls of a field that is there

pub answer-read : (h : List Call) (pass object field len : ℕ) → len_at h object ≡ Some len → field < len → answer (heap_of_history h) (Read pass object field) ≡ Got (value_at h object field)
answer-read h pass object field len had below = ap got (value_at-there h object field len had below)

pub answer-write : (h : List Call) (pass object field len : ℕ) (value : Value) → len_at h object ≡ Some len → field < len → IsTrue (is_there (heap_of_history h) value)
    → answer (heap_of_history h) (Write pass object field value) ≡ Wrote
answer-write h pass object field len value had below there =
    ap (λ b. if b then wrote (value_in (heap_of_history h) object field) else NotThere) there
    ∙ ap wrote (value_at-there h object field len had below)

is_same-equal : (a b : Value) → a ≡ b → is_same a b ≡ true
is_same-equal a b same = subst (λ (x : Value). is_same a x ≡ true) same (itself a)
  where
    itself : (x : Value) → is_same x x ≡ true
    itself (Num n) = eq-eqb n n refl
    itself (Object birth) = eq-eqb birth birth refl

is_same-apart : (a b : Value) → a ≢ b → is_same a b ≡ false
is_same-apart (Num m) (Num n) apart = ne_eqb m n (λ same. apart (ap Num same))
is_same-apart (Object m) (Object n) apart = ne_eqb m n (λ same. apart (ap Object same))
is_same-apart (Num m) (Object n) apart = refl
is_same-apart (Object m) (Num n) apart = refl

exchange_said : (h : List Call) (pass object field len : ℕ) (expected value : Value) (same : Bool) → len_at h object ≡ Some len → field < len → IsTrue (is_there (heap_of_history h) value)
    → is_same (value_at h object field) expected ≡ same → answer (heap_of_history h) (Exchange pass object field expected value) ≡ (if same then Done else Differs (value_at h object field))
exchange_said h pass object field len expected value same had below there is =
    ap (λ b. if b then compared expected (value_in (heap_of_history h) object field) else NotThere) there
    ∙ ap (compared expected) (value_at-there h object field len had below)
    ∙ ap (λ b. if b then Done else Differs (value_at h object field)) is

pub answer-exchange : (h : List Call) (pass object field len : ℕ) (expected value : Value) → len_at h object ≡ Some len → field < len → IsTrue (is_there (heap_of_history h) value)
    → value_at h object field ≡ expected → answer (heap_of_history h) (Exchange pass object field expected value) ≡ Done
answer-exchange h pass object field len expected value had below there held = exchange_said h pass object field len expected value true had below there (is_same-equal _ expected held)

pub answer-exchange_differs : (h : List Call) (pass object field len : ℕ) (expected value : Value) → len_at h object ≡ Some len → field < len → IsTrue (is_there (heap_of_history h) value)
    → value_at h object field ≢ expected → answer (heap_of_history h) (Exchange pass object field expected value) ≡ Differs (value_at h object field)
answer-exchange_differs h pass object field len expected value had below there other = exchange_said h pass object field len expected value false had below there (is_same-apart _ expected other)
