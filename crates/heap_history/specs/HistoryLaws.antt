-- Laws of heaps and histories over variables, for crates that reason about them.
use Rattle.std.specs.Prelude.{◌≡◌, ◌≢◌, ℕ, zero, suc, ◌≤◌, ◌<◌, List, [], ◌∷◌, ◌++◌, length, take, Bool, true, false, cond, if◌then◌else◌, IsTrue, Option, Some, None, is_some, IsSome, slice_get, slice_set}
use Rattle.std.specs.declared.cmp.Ordering.{Ordering}
use Rattle.std.specs.declared.cmp.Ordering.TheVariants.{Less, Equal, Greater}
use Rattle.std.specs.Ordering.{nat_cmp, is_eq, match_ordering}
use Rattle.std.specs.List.{filter}
use Rattle.std.specs.Map.{set_value}
use Rattle.std.specs.BTreeMap.{is_at, insert_entry}
use Rattle.std.proofs.Common.{refl, sym, ap, subst, ◌∙◌, ⊎_elim, arith}
use Rattle.std.proofs.Math.Seq.{take-length}
use Rattle.std.proofs.lemmas.Bool.{cases_eq, cases_order, ne_eqb, true≢false}
use Rattle.std.proofs.lemmas.Cmp.{tied_itself, nat_cmp_total, eq_by_cmp_equiv}
use Rattle.std.proofs.lemmas.List.{take-append-le, map-append}
use Rattle.std.proofs.lemmas.List.Elements.{filter-append}
use Rattle.std.proofs.lemmas.Option.{same_Some}
use Rattle.std.proofs.lemmas.Map.{lookup-set_value}
use Rattle.std.proofs.lemmas.Map.Entries.{lookup_head, lookup_tail}
use Rattle.std.proofs.lemmas.Map.Lookups.{exact_unsigned}
use Rattle.std.specs.Cmp.{unsigned_tied}
use Rattle.heap_history.specs.declared.call.Value.{Value}
use Rattle.heap_history.specs.declared.call.Call.{Call}
use Rattle.heap_history.specs.declared.call.Call.TheVariants.{NewObject, Read, Write, Exchange}
use Rattle.heap_history.specs.declared.call.Reply.{Reply}
use Rattle.heap_history.specs.declared.call.Reply.TheVariants.{Made, Wrote, Done, NotThere}
use Rattle.heap_history.specs.declared.call.Entry.{Entry}
use Rattle.heap_history.specs.FixedHeaps.{Heap, opening, fields_of, field_in, value_in, with_field, write_in, answer, changed, after}
use Rattle.heap_history.specs.Histories.{is_change, IsAccepted, heap_after, calls, changes, heap_at, IsHistory, change_of, IsFirstBad}

-- ---- the fields of an object after a change

-- a birth number finds its own entry
is_at_same : (birth : ℕ) → is_at (nat_cmp birth) birth ≡ true
is_at_same birth = ap is_eq (tied_itself nat_cmp_total birth)

-- and no other
is_at_other : (birth other : ℕ) → birth ≢ other → is_at (nat_cmp birth) other ≡ false
is_at_other birth other apart = unsigned_tied birth other ∙ ne_eqb birth other apart

-- the birth number of an entry that is found
birth_is : (birth other : ℕ) → is_at (nat_cmp birth) other ≡ true → birth ≡ other
birth_is birth other found = ⊎_elim (λ same. same) (λ apart. absurd (true≢false (sym found ∙ is_at_other birth other apart))) (cases_eq birth other)

new_here : (birth : ℕ) (values : List Value) (e : ℕ × List Value) (es : Heap) (o : Ordering) → nat_cmp birth e.0 ≡ o → fields_of (insert_entry nat_cmp es birth values) birth ≡ Some values → fields_of (match_ordering o ((birth, values) ∷ e ∷ es) ((e.0, values) ∷ es) (e ∷ insert_entry nat_cmp es birth values)) birth ≡ Some values
new_here birth values e es Less is later = lookup_head (is_at (nat_cmp birth)) (birth, values) (e ∷ es) (is_at_same birth)
new_here birth values e es Equal is later = lookup_head (is_at (nat_cmp birth)) (e.0, values) es (ap is_eq is)
new_here birth values e es Greater is later = lookup_tail (is_at (nat_cmp birth)) e (insert_entry nat_cmp es birth values) (ap is_eq is) ∙ later

-- a new object has its fields, in every list of entries
pub fields_of-new : (heap : Heap) (birth : ℕ) (values : List Value) → fields_of (insert_entry nat_cmp heap birth values) birth ≡ Some values
fields_of-new [] birth values = lookup_head (is_at (nat_cmp birth)) (birth, values) [] (is_at_same birth)
fields_of-new (e ∷ es) birth values = new_here birth values e es (nat_cmp birth e.0) refl (fields_of-new es birth values)

new_elsewhere : (birth other : ℕ) (values : List Value) (e : ℕ × List Value) (es : Heap) (o : Ordering) → other ≢ birth → nat_cmp birth e.0 ≡ o → fields_of (insert_entry nat_cmp es birth values) other ≡ fields_of es other → fields_of (match_ordering o ((birth, values) ∷ e ∷ es) ((e.0, values) ∷ es) (e ∷ insert_entry nat_cmp es birth values)) other ≡ fields_of (e ∷ es) other
new_elsewhere birth other values e es Less apart is later = lookup_tail (is_at (nat_cmp other)) (birth, values) (e ∷ es) (is_at_other other birth apart)
new_elsewhere birth other values e es Equal apart is later =
    let far : is_at (nat_cmp other) e.0 ≡ false = is_at_other other e.0 (λ same. apart (same ∙ sym (exact_unsigned birth e.0 is))) in
    lookup_tail (is_at (nat_cmp other)) (e.0, values) es far ∙ sym (lookup_tail (is_at (nat_cmp other)) e es far)
new_elsewhere birth other values e es Greater apart is later = ap (λ found. cond (is_at (nat_cmp other) e.0) (Some e.1) found) later

-- and every other object has what it had
pub fields_of-new_other : (heap : Heap) (birth : ℕ) (values : List Value) (other : ℕ) → other ≢ birth → fields_of (insert_entry nat_cmp heap birth values) other ≡ fields_of heap other
fields_of-new_other [] birth values other apart = lookup_tail (is_at (nat_cmp other)) (birth, values) [] (is_at_other other birth apart)
fields_of-new_other (e ∷ es) birth values other apart = new_elsewhere birth other values e es (nat_cmp birth e.0) apart refl (fields_of-new_other es birth values other apart)

-- an object that is there, with other fields
fields_of-set : (heap : Heap) (object : ℕ) (values : List Value) → IsSome (fields_of heap object) → fields_of (set_value (is_at (nat_cmp object)) heap values) object ≡ Some values
fields_of-set heap object values there =
    let laws = eq_by_cmp_equiv nat_cmp_total in
    lookup-set_value laws (is_at (nat_cmp object)) (λ x y found. laws.congr object x y found) object values heap there ∙ ap (λ found. cond found (Some values) (fields_of heap object)) (is_at_same object)

set_elsewhere : (object other : ℕ) (values : List Value) (e : ℕ × List Value) (es : Heap) (found : Bool) → other ≢ object → is_at (nat_cmp object) e.0 ≡ found → fields_of (set_value (is_at (nat_cmp object)) es values) other ≡ fields_of es other → fields_of (cond found ((e.0, values) ∷ es) (e ∷ set_value (is_at (nat_cmp object)) es values)) other ≡ fields_of (e ∷ es) other
set_elsewhere object other values e es true apart is later =
    let far : is_at (nat_cmp other) e.0 ≡ false = is_at_other other e.0 (λ same. apart (same ∙ sym (birth_is object e.0 is))) in
    lookup_tail (is_at (nat_cmp other)) (e.0, values) es far ∙ sym (lookup_tail (is_at (nat_cmp other)) e es far)
set_elsewhere object other values e es false apart is later = ap (λ found. cond (is_at (nat_cmp other) e.0) (Some e.1) found) later

fields_of-set_other : (heap : Heap) (object : ℕ) (values : List Value) (other : ℕ) → other ≢ object → fields_of (set_value (is_at (nat_cmp object)) heap values) other ≡ fields_of heap other
fields_of-set_other [] object values other apart = refl
fields_of-set_other (e ∷ es) object values other apart = set_elsewhere object other values e es (is_at (nat_cmp object) e.0) apart refl (fields_of-set_other es object values other apart)

-- a written object has one field set
pub fields_of-write : (heap : Heap) (object field : ℕ) (value : Value) (values : List Value) → fields_of heap object ≡ Some values → fields_of (write_in heap object field value) object ≡ Some (slice_set values field value)
fields_of-write heap object field value values had =
    fields_of-set heap object (with_field (fields_of heap object) field value) (ap is_some had) ∙ ap (λ found. Some (with_field found field value)) had

-- and every other object has what it had
pub fields_of-write_other : (heap : Heap) (object field : ℕ) (value : Value) (other : ℕ) → other ≢ object → fields_of (write_in heap object field value) other ≡ fields_of heap other
fields_of-write_other heap object field value other apart = fields_of-set_other heap object (with_field (fields_of heap object) field value) other apart

-- ---- lists

-- an element stays where it is when more come after it
pub slice_get-append : {X : Type 0} → (xs ys : List X) (i : ℕ) (x : X) → slice_get xs i ≡ Some x → slice_get (xs ++ ys) i ≡ Some x
slice_get-append [] ys i x at = absurd (cc)
slice_get-append (y ∷ xs) ys zero x at = at
slice_get-append (y ∷ xs) ys (suc i) x at = slice_get-append xs ys i x at

-- the element after the others
pub slice_get-push : {X : Type 0} → (xs : List X) (x : X) → slice_get (xs ++ x ∷ []) (length xs) ≡ Some x
slice_get-push [] x = refl
slice_get-push (y ∷ xs) x = slice_get-push xs x

-- a set element
pub slice_get-set : {X : Type 0} → (xs : List X) (i : ℕ) (x held : X) → slice_get xs i ≡ Some held → slice_get (slice_set xs i x) i ≡ Some x
slice_get-set [] i x held at = absurd (cc)
slice_get-set (y ∷ xs) zero x held at = refl
slice_get-set (y ∷ xs) (suc i) x held at = slice_get-set xs i x held at

-- and the others
pub slice_get-set_other : {X : Type 0} → (xs : List X) (i : ℕ) (x : X) (j : ℕ) → j ≢ i → slice_get (slice_set xs i x) j ≡ slice_get xs j
slice_get-set_other [] i x j apart = refl
slice_get-set_other (y ∷ xs) zero x zero apart = absurd (apart refl)
slice_get-set_other (y ∷ xs) zero x (suc j) apart = refl
slice_get-set_other (y ∷ xs) (suc i) x zero apart = refl
slice_get-set_other (y ∷ xs) (suc i) x (suc j) apart = slice_get-set_other xs i x j (λ same. apart (ap suc same))

-- ---- one field after a change

written_field : (heap : Heap) (object field : ℕ) (value held : Value) (had : Option (List Value)) → fields_of heap object ≡ had → field_in had field ≡ Some held → value_in (write_in heap object field value) object field ≡ Some value
written_field heap object field value held None is at = absurd (cc)
written_field heap object field value held (Some values) is at = ap (λ fields. field_in fields field) (fields_of-write heap object field value values is) ∙ slice_get-set values field value held at

-- a written field
pub value_in-write : (heap : Heap) (object field : ℕ) (value held : Value) → value_in heap object field ≡ Some held → value_in (write_in heap object field value) object field ≡ Some value
value_in-write heap object field value held was = written_field heap object field value held (fields_of heap object) refl was

other_field : (heap : Heap) (object field : ℕ) (value held : Value) (place : ℕ) (had : Option (List Value)) → fields_of heap object ≡ had → field_in had field ≡ Some held → place ≢ field → value_in (write_in heap object field value) object place ≡ field_in had place
other_field heap object field value held place None is at apart = absurd (cc)
other_field heap object field value held place (Some values) is at apart = ap (λ fields. field_in fields place) (fields_of-write heap object field value values is) ∙ slice_get-set_other values field value place apart

-- another field of the object
pub value_in-write_other_field : (heap : Heap) (object field : ℕ) (value held : Value) (place : ℕ) → value_in heap object field ≡ Some held → place ≢ field → value_in (write_in heap object field value) object place ≡ value_in heap object place
value_in-write_other_field heap object field value held place was apart = other_field heap object field value held place (fields_of heap object) refl was apart

-- and a field of another object
pub value_in-write_other : (heap : Heap) (object field : ℕ) (value : Value) (other place : ℕ) → other ≢ object → value_in (write_in heap object field value) other place ≡ value_in heap other place
value_in-write_other heap object field value other place apart = ap (λ fields. field_in fields place) (fields_of-write_other heap object field value other apart)

-- ---- calls one after another

-- the heap after two lists of calls
pub heap_after-append : (heap : Heap) (xs ys : List Call) → heap_after heap (xs ++ ys) ≡ heap_after (heap_after heap xs) ys
heap_after-append heap [] ys = refl
heap_after-append heap (c ∷ xs) ys = heap_after-append (after heap c) xs ys

-- no reply but those of a change lets the heap change
pub changed-look : (heap : Heap) (call : Call) (reply : Reply) → is_change reply ≡ false → changed heap call reply ≡ heap
changed-look heap call Made look = absurd (true≢false look)
changed-look heap call Wrote look = absurd (true≢false look)
changed-look heap call Done look = absurd (true≢false look)
changed-look heap (NewObject pass birth len) _ look = refl
changed-look heap (Read pass object field) _ look = refl
changed-look heap (Write pass object field value) _ look = refl
changed-look heap (Exchange pass object field expected value) _ look = refl

-- a look changes nothing
pub after-look : (heap : Heap) (call : Call) (reply : Reply) → answer heap call ≡ reply → is_change reply ≡ false → after heap call ≡ heap
after-look heap call reply told look = changed-look heap call (answer heap call) (ap is_change told ∙ look)

changes_step : (heap : Heap) (e : Entry) (es : List Entry) (change : Bool) → answer heap e.call ≡ e.reply → is_change e.reply ≡ change → heap_after (after heap e.call) (calls es) ≡ heap_after (after heap e.call) (changes es) → heap_after (after heap e.call) (calls es) ≡ heap_after heap (calls (cond change (e ∷ filter (λ d. is_change d.reply) es) (filter (λ d. is_change d.reply) es)))
changes_step heap e es true told is later = later
changes_step heap e es false told is later = later ∙ ap (λ before. heap_after before (changes es)) (after-look heap e.call e.reply told is)

-- so the changes alone make the heap what it is
pub heap_after-changes : (heap : Heap) (es : List Entry) → IsAccepted heap es → heap_after heap (calls es) ≡ heap_after heap (changes es)
heap_after-changes heap [] accepted = refl
heap_after-changes heap (e ∷ es) accepted = changes_step heap e es (is_change e.reply) accepted.0 refl (heap_after-changes (after heap e.call) es accepted.2)

-- one more entry is accepted where its reply is the heap's
pub IsAccepted-append : (heap : Heap) (es : List Entry) (e : Entry) → IsAccepted heap es → answer (heap_after heap (calls es)) e.call ≡ e.reply → e.reply ≢ NotThere → IsAccepted heap (es ++ e ∷ [])
IsAccepted-append heap [] e accepted told there = (told, there, tt)
IsAccepted-append heap (d ∷ es) e accepted told there = (accepted.0, accepted.1, IsAccepted-append (after heap d.call) es e accepted.2 told there)

-- the calls of one more entry
pub calls-append : (es : List Entry) (e : Entry) → calls (es ++ e ∷ []) ≡ calls es ++ e.call ∷ []
calls-append es e = map-append (λ d. d.call) es (e ∷ [])

change_step : (e : Entry) (change : Bool) → calls (cond change (e ∷ []) []) ≡ if change then e.call ∷ [] else []
change_step e true = refl
change_step e false = refl

-- the changes of one more entry
pub changes-append : (es : List Entry) (e : Entry) → changes (es ++ e ∷ []) ≡ changes es ++ change_of e.call e.reply
changes-append es e =
    ap calls (filter-append (λ d. is_change d.reply) es (e ∷ []))
    ∙ map-append (λ d. d.call) (filter (λ d. is_change d.reply) es) (filter (λ d. is_change d.reply) (e ∷ []))
    ∙ ap (λ last. changes es ++ last) (change_step e (is_change e.reply))

history_step : (heap : Heap) (e : Entry) (es : List Entry) (change : Bool) → answer heap e.call ≡ e.reply → is_change e.reply ≡ change → IsHistory (after heap e.call) (changes es) → IsHistory heap (calls (cond change (e ∷ filter (λ d. is_change d.reply) es) (filter (λ d. is_change d.reply) es)))
history_step heap e es true told is later = (ap is_change told ∙ is, later)
history_step heap e es false told is later = let P : Heap → Type 0 = λ before. IsHistory before (changes es) in subst P (after-look heap e.call e.reply told is) later

-- the changes of accepted entries are a history
pub IsHistory-changes : (heap : Heap) (es : List Entry) → IsAccepted heap es → IsHistory heap (changes es)
IsHistory-changes heap [] accepted = tt
IsHistory-changes heap (e ∷ es) accepted = history_step heap e es (is_change e.reply) accepted.0 refl (IsHistory-changes (after heap e.call) es accepted.2)

-- one more change that fits
pub IsHistory-append : (heap : Heap) (history : List Call) (call : Call) → IsHistory heap history → IsTrue (is_change (answer (heap_after heap history) call)) → IsHistory heap (history ++ call ∷ [])
IsHistory-append heap [] call fits change = (change, tt)
IsHistory-append heap (c ∷ history) call fits change = (fits.0, IsHistory-append (after heap c) history call fits.1 change)

-- ---- a history that grows

-- the heap after the first n changes stays the same
pub heap_at-append : (history more : List Call) (n : ℕ) → n ≤ length history → heap_at (history ++ more) n ≡ heap_at history n
heap_at-append history more n within = ap (λ first. heap_after opening first) (take-append-le n history more within)

-- the heap after all of them
pub heap_at-length : (history : List Call) → heap_at history (length history) ≡ heap_after opening history
heap_at-length history = ap (λ all. heap_after opening all) (take-length history)

-- ---- the first bad entry

-- Each of some accepted entries has the heap's reply, which is not that something is not there.
pub IsAccepted-at : (heap : Heap) (es : List Entry) (i : ℕ) (e : Entry) → IsAccepted heap es → slice_get es i ≡ Some e → (answer (heap_after heap (calls (take i es))) e.call ≡ e.reply) × (e.reply ≢ NotThere)
IsAccepted-at heap [] i e accepted at = absurd (cc)
IsAccepted-at heap (d ∷ es) zero e accepted at = let P : Entry → Type 0 = λ x. (answer heap x.call ≡ x.reply) × (x.reply ≢ NotThere) in subst P (same_Some d e at) (accepted.0, accepted.1)
IsAccepted-at heap (d ∷ es) (suc i) e accepted at = IsAccepted-at (after heap d.call) es i e accepted.2 at

-- accepted entries have no bad one
pub accepted_has_no_bad : (es : List Entry) (index : ℕ) (wanted found : Reply) → IsAccepted opening es → IsFirstBad es index wanted found → ⊥
accepted_has_no_bad es index wanted found accepted first =
    let told = IsAccepted-at opening es index first.entry accepted first.at in
    let same : wanted ≡ found = sym first.wanted_is ∙ told.0 ∙ first.found_is in
    ⊎_elim (λ other. other same) (λ none. told.1 (first.found_is ∙ sym same ∙ none)) first.bad

-- an element of a list's front
slice_get-take : {X : Type 0} → (xs : List X) (i j : ℕ) (x : X) → i < j → slice_get xs i ≡ Some x → slice_get (take j xs) i ≡ Some x
slice_get-take [] i j x below at = absurd (cc)
slice_get-take (y ∷ xs) i zero x below at = absurd (omega arith)
slice_get-take (y ∷ xs) zero (suc j) x below at = at
slice_get-take (y ∷ xs) (suc i) (suc j) x below at = slice_get-take xs i j x (omega arith) at

-- a front of a longer front
take-take : {X : Type 0} → (xs : List X) (i j : ℕ) → i ≤ j → take i (take j xs) ≡ take i xs
take-take xs zero j below = refl
take-take xs (suc i) zero below = absurd (omega arith)
take-take [] (suc i) (suc j) below = refl
take-take (x ∷ xs) (suc i) (suc j) below = ap (λ rest. x ∷ rest) (take-take xs i j (omega arith))

-- the first bad entry is so in each front of the list that has it
IsFirstBad-take : (es : List Entry) (index more : ℕ) (wanted found : Reply) → index < more → IsFirstBad es index wanted found → IsFirstBad (take more es) index wanted found
IsFirstBad-take es index more wanted found below first =
    let same : take index (take more es) ≡ take index es = take-take es index more (omega arith) in
    record {
      entry = first.entry;
      at = slice_get-take es index more first.entry below first.at;
      earlier = rw same first.earlier;
      wanted_is = rw same first.wanted_is;
      found_is = first.found_is;
      bad = first.bad;
    }

-- there is one first bad entry at most
pub IsFirstBad-unique : (es : List Entry) (i j : ℕ) (wanted other found reply : Reply) → IsFirstBad es i wanted found → IsFirstBad es j other reply → (i ≡ j) × (wanted ≡ other) × (found ≡ reply)
IsFirstBad-unique es i j wanted other found reply first second =
    ⊎_elim
    (λ same.
    let entry : first.entry ≡ second.entry = same_Some first.entry second.entry (sym first.at ∙ ap (λ k. slice_get es k) same ∙ second.at) in
    (same, sym first.wanted_is ∙ ap (λ k. answer (heap_after opening (calls (take k es))) first.entry.call) same ∙ ap (λ e. answer (heap_after opening (calls (take j es))) e.call) entry ∙ second.wanted_is, sym first.found_is ∙ ap (λ e. e.reply) entry ∙ second.found_is))
    (λ apart. absurd (⊎_elim
    (λ below. accepted_has_no_bad (take j es) i wanted found second.earlier (IsFirstBad-take es i j wanted found below first))
    (λ above. accepted_has_no_bad (take i es) j other reply first.earlier (IsFirstBad-take es j i other reply above second))
    apart))
    (cases_order i j)
