-- After accepted entries each field holds what was last written to it.
use Rattle.std.specs.Prelude.{◌≡◌, ℕ, zero, suc, ◌==◌, ◌&&◌, not, Bool, true, false, cond, if◌then◌else◌, IsTrue, List, [], ◌∷◌, ◌++◌, reverse, Option, Some, None, is_some, unwrap_or, slice_get}
use Rattle.std.specs.Ordering.{nat_cmp}
use Rattle.std.specs.BTreeMap.{is_at, insert_entry}
use Rattle.std.proofs.Common.{refl, sym, ap, subst, ◌∙◌, ⊎_elim, append_assoc}
use Rattle.std.proofs.lemmas.Bool.{and_parts, not-true, and_left, and_right, cases_eq, eq-eqb, ne_eqb, false≢true}
use Rattle.std.proofs.lemmas.List.{append-nil, reverse-append}
use Rattle.heap_history.specs.declared.call.Value.{Value}
use Rattle.heap_history.specs.declared.call.Value.TheVariants.{Num}
use Rattle.heap_history.specs.declared.call.Call.{Call}
use Rattle.heap_history.specs.declared.call.Call.TheVariants.{NewObject, Read, Write, Exchange}
use Rattle.heap_history.specs.declared.call.Reply.TheVariants.{Made, Done, Differs, NotThere}
use Rattle.heap_history.specs.declared.call.Entry.{Entry}
use Rattle.heap_history.specs.FixedHeaps.{Heap, zeros, opening, fields_of, field_in, value_in, is_same, is_there, is_birth_of, got, wrote, compared, answer, write_in, changed, after}
use Rattle.heap_history.specs.Histories.{is_change, IsAccepted, heap_after, changes, IsHistory}
use Rattle.heap_history.specs.HistoryLaws.{fields_of-new, fields_of-new_other, value_in-write, value_in-write_other_field, value_in-write_other, heap_after-changes, IsHistory-changes}
use Rattle.heap_history.specs.LastWrites.{last_written, HoldsLastWrites}

-- each field holds what these changes, of which the newest comes first, last wrote to it; one that is not there was never written
abbrev pub HoldsLast : Heap → List Call → Type 0
HoldsLast heap done = (object field : ℕ) → unwrap_or (value_in heap object field) (Num 0) ≡ last_written done object field

-- each of some zeros is 0
zero_or : (len field : ℕ) → unwrap_or (slice_get (zeros len) field) (Num 0) ≡ Num 0
zero_or zero field = refl
zero_or (suc len) zero = refl
zero_or (suc len) (suc field) = zero_or len field

opening_step : (field : ℕ) (found : Bool) → unwrap_or (field_in (cond found (Some (zeros 8)) None) field) (Num 0) ≡ Num 0
opening_step field true = zero_or 8 field
opening_step field false = refl

HoldsLast-opening : HoldsLast opening []
HoldsLast-opening object field = opening_step field (is_at (nat_cmp object) 1)

none_is : {X : Type 0} → (o : Option X) → is_some o ≡ false → o ≡ None
none_is None absent = refl
none_is (Some x) absent = absurd (false≢true (sym absent))

-- a new object
new_step : (heap : Heap) (done : List Call) (pass birth len : ℕ) (fits : Bool) → (is_birth_of pass birth && not (is_some (fields_of heap birth))) ≡ fits → is_change (if fits then Made else NotThere) ≡ true → HoldsLast heap done → HoldsLast (changed heap (NewObject pass birth len) (if fits then Made else NotThere)) (NewObject pass birth len ∷ done)
new_step heap done pass birth len false is change holds = absurd (false≢true change)
new_step heap done pass birth len true is change holds = λ object field.
    let absent : fields_of heap birth ≡ None = none_is (fields_of heap birth) (not-true _ (and_parts (is_birth_of pass birth) _ is).1) in
    ⊎_elim
    (λ same.
    ap (λ o. unwrap_or (value_in (insert_entry nat_cmp heap birth (zeros len)) o field) (Num 0)) same
    ∙ ap (λ fields. unwrap_or (field_in fields field) (Num 0)) (fields_of-new heap birth (zeros len))
    ∙ zero_or len field
    ∙ sym (ap (λ fields. unwrap_or (field_in fields field) (Num 0)) absent)
    ∙ holds birth field
    ∙ ap (λ o. last_written done o field) (sym same))
    (λ apart. ap (λ fields. unwrap_or (field_in fields field) (Num 0)) (fields_of-new_other heap birth (zeros len) object apart) ∙ holds object field)
    (cases_eq object birth)

-- a read is no change
read_step : (found : Option Value) → is_change (got found) ≡ true → ⊥
read_step None change = false≢true change
read_step (Some value) change = false≢true change

-- a field set
set_step : (heap : Heap) (done : List Call) (at place : ℕ) (value held : Value) → value_in heap at place ≡ Some held → HoldsLast heap done → (object field : ℕ) → unwrap_or (value_in (write_in heap at place value) object field) (Num 0) ≡ (if at == object && place == field then value else last_written done object field)
set_step heap done at place value held was holds object field =
    ⊎_elim
    (λ same. ⊎_elim
    (λ here.
    ap (λ o. unwrap_or (value_in (write_in heap at place value) o field) (Num 0)) same
    ∙ ap (λ f. unwrap_or (value_in (write_in heap at place value) at f) (Num 0)) here
    ∙ ap (λ o. unwrap_or o (Num 0)) (value_in-write heap at place value held was)
    ∙ sym (ap (λ b. if b && place == field then value else last_written done object field) (eq-eqb at object (sym same)) ∙ ap (λ b. if b then value else last_written done object field) (eq-eqb place field (sym here))))
    (λ elsewhere.
    ap (λ o. unwrap_or (value_in (write_in heap at place value) o field) (Num 0)) same
    ∙ ap (λ o. unwrap_or o (Num 0)) (value_in-write_other_field heap at place value held field was elsewhere)
    ∙ ap (λ o. unwrap_or (value_in heap o field) (Num 0)) (sym same)
    ∙ holds object field
    ∙ sym (ap (λ b. if b then value else last_written done object field) (and_right (at == object) _ (ne_eqb place field (λ e. elsewhere (sym e))))))
    (cases_eq field place))
    (λ apart.
    ap (λ o. unwrap_or o (Num 0)) (value_in-write_other heap at place value object field apart)
    ∙ holds object field
    ∙ sym (ap (λ b. if b then value else last_written done object field) (and_left _ (place == field) (ne_eqb at object (λ e. apart (sym e))))))
    (cases_eq object at)

-- a write
write_step : (heap : Heap) (done : List Call) (pass at place : ℕ) (value : Value) (there : Bool) (found : Option Value) → value_in heap at place ≡ found → is_change (if there then wrote found else NotThere) ≡ true → HoldsLast heap done → HoldsLast (changed heap (Write pass at place value) (if there then wrote found else NotThere)) (Write pass at place value ∷ done)
write_step heap done pass at place value false found is change holds = absurd (false≢true change)
write_step heap done pass at place value true None is change holds = absurd (false≢true change)
write_step heap done pass at place value true (Some held) is change holds = set_step heap done at place value held is holds

-- an exchange of a field that is there
compare_step : (heap : Heap) (done : List Call) (pass at place : ℕ) (expected value held : Value) (same : Bool) → value_in heap at place ≡ Some held → is_change (if same then Done else Differs held) ≡ true → HoldsLast heap done → HoldsLast (changed heap (Exchange pass at place expected value) (if same then Done else Differs held)) (Exchange pass at place expected value ∷ done)
compare_step heap done pass at place expected value held false is change holds = absurd (false≢true change)
compare_step heap done pass at place expected value held true is change holds = set_step heap done at place value held is holds

-- an exchange
exchange_step : (heap : Heap) (done : List Call) (pass at place : ℕ) (expected value : Value) (there : Bool) (found : Option Value) → value_in heap at place ≡ found → is_change (if there then compared expected found else NotThere) ≡ true → HoldsLast heap done → HoldsLast (changed heap (Exchange pass at place expected value) (if there then compared expected found else NotThere)) (Exchange pass at place expected value ∷ done)
exchange_step heap done pass at place expected value false found is change holds = absurd (false≢true change)
exchange_step heap done pass at place expected value true None is change holds = absurd (false≢true change)
exchange_step heap done pass at place expected value true (Some held) is change holds = compare_step heap done pass at place expected value held (is_same held expected) is change holds

-- after one more change
pub HoldsLast-after : (heap : Heap) (done : List Call) (call : Call) → IsTrue (is_change (answer heap call)) → HoldsLast heap done → HoldsLast (after heap call) (call ∷ done)
HoldsLast-after heap done (NewObject pass birth len) change holds = new_step heap done pass birth len (is_birth_of pass birth && not (is_some (fields_of heap birth))) refl change holds
HoldsLast-after heap done (Read pass object field) change holds = absurd (read_step (value_in heap object field) change)
HoldsLast-after heap done (Write pass object field value) change holds = write_step heap done pass object field value (is_there heap value) (value_in heap object field) refl change holds
HoldsLast-after heap done (Exchange pass object field expected value) change holds = exchange_step heap done pass object field expected value (is_there heap value) (value_in heap object field) refl change holds

-- after a history
pub HoldsLast-history : (heap : Heap) (done : List Call) (history : List Call) → IsHistory heap history → HoldsLast heap done → HoldsLast (heap_after heap history) (reverse history ++ done)
HoldsLast-history heap done [] fits holds = holds
HoldsLast-history heap done (c ∷ history) fits holds =
    let P : List Call → Type 0 = λ all. HoldsLast (heap_after (after heap c) history) all in
    let same : reverse history ++ (c ∷ done) ≡ reverse (c ∷ history) ++ done = sym (ap (λ all. all ++ done) (reverse-append (c ∷ []) history) ∙ append_assoc (reverse history) (c ∷ []) done) in
    subst P same (HoldsLast-history (after heap c) (c ∷ done) history fits.1 (HoldsLast-after heap done c fits.0 holds))

-- after accepted entries
pub last_writes : (es : List Entry) → IsAccepted opening es → HoldsLastWrites es
last_writes es accepted object field value at =
    let holds = HoldsLast-history opening [] (changes es) (IsHistory-changes opening es accepted) HoldsLast-opening object field in
    sym (ap (λ o. unwrap_or o (Num 0)) at)
    ∙ ap (λ heap. unwrap_or (value_in heap object field) (Num 0)) (heap_after-changes opening es accepted)
    ∙ holds
    ∙ ap (λ all. last_written all object field) (append-nil (reverse (changes es)))
