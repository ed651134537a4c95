-- Of the objects of a heap: each keeps its length, and what its fields name is there.
use Rattle.std.specs.Prelude.{slice_get, if◌then◌else◌, IsTrue, IsSome, is_some, not, ◌&&◌}
use Rattle.std.specs.Option.{option_map}
use Rattle.std.specs.Ordering.{nat_cmp}
use Rattle.std.specs.BTreeMap.{is_at}
use Rattle.std.proofs.Common.{◌≡◌, ℕ, zero, suc, ◌≤◌, List, [], ◌∷◌, length, take, Bool, true, false, cond, Option, Some, None, refl, sym, ap, ◌∙◌, subst, ⊎_elim, arith}
use Rattle.std.proofs.lemmas.Bool.{cases_eq, false≢true}
use Rattle.std.proofs.lemmas.List.{length-set}
use Rattle.std.proofs.lemmas.Option.{same_Some}
use Rattle.heap_history.specs.declared.call.Value.{Value}
use Rattle.heap_history.specs.declared.call.Value.TheVariants.{Num, Object}
use Rattle.heap_history.specs.declared.call.Call.{Call}
use Rattle.heap_history.specs.declared.call.Call.TheVariants.{NewObject, Write, Exchange}
use Rattle.heap_history.specs.declared.call.Reply.{Reply}
use Rattle.heap_history.specs.declared.call.Reply.TheVariants.{Made, Got, Wrote, Done, Differs, NotThere}
use Rattle.heap_history.specs.FixedHeaps.{Heap, opening, zeros, fields_of, field_in, value_in, is_birth_of, is_same, is_there, got, wrote, compared, write_in, answer, changed, after}
use Rattle.heap_history.specs.Histories.{heap_after, heap_at}
use Rattle.heap_history.specs.HistoryLaws.{fields_of-new, fields_of-new_other, fields_of-write, fields_of-write_other, value_in-write, value_in-write_other_field, value_in-write_other}

-- ---- what a reply says of the field

pub got_value : (found : Option Value) (value : Value) → got found ≡ Got value → found ≡ Some value
got_value None value said = absurd cc
got_value (Some held) value said = let same : held ≡ value = cc in ap Some same

pub wrote_parts : (there : Bool) (found : Option Value) → (if there then wrote found else NotThere) ≡ Wrote → (held : Value) × (there ≡ true) × (found ≡ Some held)
wrote_parts false found said = absurd cc
wrote_parts true None said = absurd cc
wrote_parts true (Some held) said = (held, refl, refl)

pub done_parts : (expected : Value) (there : Bool) (found : Option Value) → (if there then compared expected found else NotThere) ≡ Done → (held : Value) × (there ≡ true) × (found ≡ Some held)
done_parts expected false found said = absurd cc
done_parts expected true None said = absurd cc
done_parts expected true (Some held) said = (held, refl, refl)

-- the value that was found in place of the expected one
differing : (same : Bool) (held value : Value) → (if same then Done else Differs held) ≡ Differs value → held ≡ value
differing true held value said = absurd cc
differing false held value said = cc

pub differs_value : (expected : Value) (there : Bool) (found : Option Value) (value : Value) → (if there then compared expected found else NotThere) ≡ Differs value → found ≡ Some value
differs_value expected false found value said = absurd cc
differs_value expected true None value said = absurd cc
differs_value expected true (Some held) value said = ap Some (differing (is_same held expected) held value said)

-- ---- an object keeps its length

pub there_len : (found : Option (List Value)) → IsSome found → (k : ℕ) × (option_map length found ≡ Some k)
there_len None there = absurd (false≢true there)
there_len (Some values) there = (length values, refl)

pub len_there : (found : Option (List Value)) (k : ℕ) → option_map length found ≡ Some k → IsSome found
len_there None k len = absurd cc
len_there (Some values) k len = refl

len_set : (heap : Heap) (object field : ℕ) (value : Value) (k : ℕ) (found : Option (List Value)) → fields_of heap object ≡ found → option_map length found ≡ Some k → option_map length (fields_of (write_in heap object field value) object) ≡ Some k
len_set heap object field value k None is len = absurd cc
len_set heap object field value k (Some values) is len =
    ap (option_map length) (fields_of-write heap object field value values is) ∙ ap Some (length-set values field value) ∙ len

len_written : (heap : Heap) (object field : ℕ) (value : Value) (birth k : ℕ) → option_map length (fields_of heap birth) ≡ Some k → option_map length (fields_of (write_in heap object field value) birth) ≡ Some k
len_written heap object field value birth k len =
    ⊎_elim
    (λ same. let P : ℕ → Type 0 = λ b. option_map length (fields_of (write_in heap object field value) b) ≡ Some k in subst P (sym same) (len_set heap object field value k (fields_of heap object) refl (ap (λ b. option_map length (fields_of heap b)) (sym same) ∙ len)))
    (λ apart. ap (option_map length) (fields_of-write_other heap object field value birth apart) ∙ len)
    (cases_eq birth object)

-- an object that is made was not there
pub made_absent : (fits : Bool) (found : Option (List Value)) → (if fits && not (is_some found) then Made else NotThere) ≡ Made → found ≡ None
made_absent fits None made = refl
made_absent true (Some values) made = absurd cc
made_absent false (Some values) made = absurd cc

pub len_changed : (heap : Heap) (call : Call) (reply : Reply) (birth k : ℕ) → answer heap call ≡ reply → option_map length (fields_of heap birth) ≡ Some k → option_map length (fields_of (changed heap call reply) birth) ≡ Some k
len_changed heap (NewObject pass object len) Made birth k said had =
    ⊎_elim
    (λ same. let none = made_absent (is_birth_of pass object) (fields_of heap object) said in absurd (let gone : None ≡ Some k = sym (ap (option_map length) none) ∙ ap (λ b. option_map length (fields_of heap b)) (sym same) ∙ had in cc))
    (λ apart. ap (option_map length) (fields_of-new_other heap object (zeros len) birth apart) ∙ had)
    (cases_eq birth object)
len_changed heap (Write pass object field value) Wrote birth k said had = len_written heap object field value birth k had
len_changed heap (Exchange pass object field expected value) Done birth k said had = len_written heap object field value birth k had
len_changed heap _ _ birth k said had = had

len_later : (heap : Heap) (cs : List Call) (birth k : ℕ) → option_map length (fields_of heap birth) ≡ Some k → option_map length (fields_of (heap_after heap cs) birth) ≡ Some k
len_later heap [] birth k had = had
len_later heap (c ∷ cs) birth k had = len_later (after heap c) cs birth k (len_changed heap c (answer heap c) birth k refl had)

len_grows : (heap : Heap) (h : List Call) (n m birth k : ℕ) → n ≤ m → option_map length (fields_of (heap_after heap (take n h)) birth) ≡ Some k → option_map length (fields_of (heap_after heap (take m h)) birth) ≡ Some k
len_grows heap h zero m birth k before had = len_later heap (take m h) birth k had
len_grows heap h (suc n) zero birth k before had = absurd (omega (arith, before))
len_grows heap [] (suc n) (suc m) birth k before had = had
len_grows heap (c ∷ h) (suc n) (suc m) birth k before had = len_grows (after heap c) h n m birth k (omega (arith, before)) had

-- later heaps have the object with the same length
pub fields_len_grows : (h : List Call) (n m birth k : ℕ) → n ≤ m → option_map length (fields_of (heap_at h n) birth) ≡ Some k → option_map length (fields_of (heap_at h m) birth) ≡ Some k
fields_len_grows h n m birth k before had = len_grows opening h n m birth k before had

-- and so an earlier heap that has the object
pub fields_len_was : (h : List Call) (n m birth k : ℕ) → n ≤ m → IsSome (fields_of (heap_at h n) birth) → option_map length (fields_of (heap_at h m) birth) ≡ Some k → option_map length (fields_of (heap_at h n) birth) ≡ Some k
fields_len_was h n m birth k before there now =
    let was = there_len (fields_of (heap_at h n) birth) there in
    was.1 ∙ sym (fields_len_grows h n m birth was.0 before was.1) ∙ now

-- an object that is there stays
pub fields_there_grows : (h : List Call) (n m birth : ℕ) → n ≤ m → IsSome (fields_of (heap_at h n) birth) → IsSome (fields_of (heap_at h m) birth)
fields_there_grows h n m birth before there =
    let was = there_len (fields_of (heap_at h n) birth) there in
    len_there (fields_of (heap_at h m) birth) was.0 (fields_len_grows h n m birth was.0 before was.1)

-- ---- what a field holds is there

-- what the fields of the heap's objects name is there
abbrev pub IsClosed : Heap → Type 0
IsClosed heap = (birth field : ℕ) (value : Value) → value_in heap birth field ≡ Some value → IsTrue (is_there heap value)

there_changed : (heap : Heap) (call : Call) (reply : Reply) (value : Value) → answer heap call ≡ reply → IsTrue (is_there heap value) → IsTrue (is_there (changed heap call reply) value)
there_changed heap call reply (Num n) said there = refl
there_changed heap call reply (Object birth) said there =
    let was = there_len (fields_of heap birth) there in
    len_there (fields_of (changed heap call reply) birth) was.0 (len_changed heap call reply birth was.0 said was.1)

zero_in : (len field : ℕ) (value : Value) → slice_get (zeros len) field ≡ Some value → value ≡ Num 0
zero_in zero field value at = absurd cc
zero_in (suc len) zero value at = sym (same_Some (Num 0) value at)
zero_in (suc len) (suc field) value at = zero_in len field value at

module _ (heap : Heap) (closed : IsClosed heap) where
  -- what was in a field is there after a change too
  kept : (call : Call) (reply : Reply) → answer heap call ≡ reply → (birth field : ℕ) (value : Value) → value_in heap birth field ≡ Some value → IsTrue (is_there (changed heap call reply) value)
  kept call reply said birth field value at = there_changed heap call reply value said (closed birth field value at)

  closed_new : (pass object len : ℕ) → answer heap (NewObject pass object len) ≡ Made → IsClosed (changed heap (NewObject pass object len) Made)
  closed_new pass object len said birth field value at =
      let next = changed heap (NewObject pass object len) Made in
      ⊎_elim
      (λ same.
      let fields : fields_of next birth ≡ Some (zeros len) = ap (fields_of next) same ∙ fields_of-new heap object (zeros len) in
      let zero_is : value ≡ Num 0 = zero_in len field value (sym (ap (λ found. field_in found field) fields) ∙ at) in
      ap (is_there next) zero_is)
      (λ apart. kept (NewObject pass object len) Made said birth field value (sym (ap (λ found. field_in found field) (fields_of-new_other heap object (zeros len) birth apart)) ∙ at))
      (cases_eq birth object)

  -- a field is written with what is there
  closed_written : (call : Call) (reply : Reply) (object field : ℕ) (value held : Value) → answer heap call ≡ reply → changed heap call reply ≡ write_in heap object field value → IsTrue (is_there heap value) → value_in heap object field ≡ Some held
      → (birth place : ℕ) (found : Value) → value_in (write_in heap object field value) birth place ≡ Some found → IsTrue (is_there (changed heap call reply) found)
  closed_written call reply object field value held said is there had birth place found at =
      ⊎_elim
      (λ same.
      let here : value_in (write_in heap object field value) object place ≡ Some found = ap (λ b. value_in (write_in heap object field value) b place) (sym same) ∙ at in
      ⊎_elim
      (λ same_field.
      let now : Some value ≡ Some found = sym (value_in-write heap object field value held had) ∙ ap (value_in (write_in heap object field value) object) (sym same_field) ∙ here in
      there_changed heap call reply found said (ap (is_there heap) (sym (same_Some value found now)) ∙ there))
      (λ apart. kept call reply said object place found (sym (value_in-write_other_field heap object field value held place had apart) ∙ here))
      (cases_eq place field))
      (λ apart. kept call reply said birth place found (sym (value_in-write_other heap object field value birth place apart) ∙ at))
      (cases_eq birth object)

pub closed_changed : (heap : Heap) (call : Call) (reply : Reply) → answer heap call ≡ reply → IsClosed heap → IsClosed (changed heap call reply)
closed_changed heap (NewObject pass object len) Made said closed = closed_new heap closed pass object len said
closed_changed heap (Write pass object field value) Wrote said closed =
    let parts = wrote_parts (is_there heap value) (value_in heap object field) said in
    closed_written heap closed (Write pass object field value) Wrote object field value parts.0 said refl parts.1 parts.2
closed_changed heap (Exchange pass object field expected value) Done said closed =
    let parts = done_parts expected (is_there heap value) (value_in heap object field) said in
    closed_written heap closed (Exchange pass object field expected value) Done object field value parts.0 said refl parts.1 parts.2
closed_changed heap _ _ said closed = closed

closed_later : (heap : Heap) (cs : List Call) → IsClosed heap → IsClosed (heap_after heap cs)
closed_later heap [] closed = closed
closed_later heap (c ∷ cs) closed = closed_later (after heap c) cs (closed_changed heap c (answer heap c) refl closed)

opened : (common : Bool) (field : ℕ) (value : Value) → field_in (cond common (Some (zeros 8)) None) field ≡ Some value → value ≡ Num 0
opened true field value at = zero_in 8 field value at
opened false field value at = absurd cc

pub closed_opening : IsClosed opening
closed_opening birth field value at = ap (is_there opening) (opened (is_at (nat_cmp birth) 1) field value at)

-- so it is after any changes
pub heap_closed : (h : List Call) (n : ℕ) → IsClosed (heap_at h n)
heap_closed h n = closed_later opening (take n h) closed_opening
