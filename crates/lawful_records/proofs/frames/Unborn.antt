-- What a change of one pass leaves of the objects that another has not made yet.
use Rattle.std.specs.Prelude.{IsTrue, is_some, not, ◌&&◌, ◌≢◌, nat_le, if◌then◌else◌}
use Rattle.std.specs.Option.{option_map}
use Rattle.std.proofs.Common.{◌≡◌, ℕ, ◌+◌, ◌*◌, ◌≤◌, ◌<◌, inl, inr, ⊎_elim, List, ◌∷◌, length, Bool, true, false, Option, Some, None, refl, sym, ap, ◌∙◌, arith}
use Rattle.std.proofs.lemmas.Bool.{cases_eq, cases_order}
use Rattle.std.proofs.lemmas.Bool.Decides.{nat_tests}
use Rattle.heap_history.specs.FixedHeaps.{Heap, fields_of, field_in, value_in, is_birth_of, is_there, got, wrote, compared, write_in, answer, changed}
use Rattle.heap_history.specs.Histories.{pass_of, is_change}
use Rattle.heap_history.specs.HistoryLaws.{fields_of-write_other}
use Rattle.heap_history.specs.ObjectLaws.{wrote_parts, done_parts}
use Rattle.heap_history.specs.ValueLaws.{len_at-new_other}
use Rattle.heap_history.specs.NewestFirst.{heap_of_history, len_at}
use Rattle.heap_history.specs.declared.call.Value.{Value}
use Rattle.heap_history.specs.declared.call.Call.{Call}
use Rattle.heap_history.specs.declared.call.Call.TheVariants.{NewObject, Read, Write, Exchange}
use Rattle.heap_history.specs.declared.call.Reply.TheVariants.{Made, Wrote, Done, Differs, NotThere}
use Rattle.barriers.specs.Kits.{Kit}
use Rattle.lawful_records.specs.Frames.{HasChange, Grows}
use Rattle.lawful_records.specs.LawfulRecords.{IsUnborn}

-- ---- what was not there is not there after a change, but where it was made

absent : (found : Option (List Value)) → option_map length found ≡ None → found ≡ None
absent None none = refl
absent (Some values) none = absurd cc

not_held : (found : Option (List Value)) (field : ℕ) (held : Value) → found ≡ None → field_in found field ≡ Some held → ⊥
not_held None field held none at = absurd cc
not_held (Some values) field held none at = absurd cc

unwritten : (heap : Heap) (object field : ℕ) (value held : Value) (birth : ℕ) → value_in heap object field ≡ Some held → option_map length (fields_of heap birth) ≡ None → option_map length (fields_of (write_in heap object field value) birth) ≡ None
unwritten heap object field value held birth at none =
    ⊎_elim
    (λ same. absurd (not_held (fields_of heap object) field held (ap (fields_of heap) (sym same) ∙ absent (fields_of heap birth) none) at))
    (λ apart. ap (option_map length) (fields_of-write_other heap object field value birth apart) ∙ none)
    (cases_eq birth object)

wrote_change : (there : Bool) (found : Option Value) → IsTrue (is_change (if there then wrote found else NotThere)) → (if there then wrote found else NotThere) ≡ Wrote
wrote_change true (Some held) change = refl
wrote_change true None change = absurd cc
wrote_change false found change = absurd cc

compared_change : (same : Bool) (held : Value) → IsTrue (is_change (if same then Done else Differs held)) → (if same then Done else Differs held) ≡ Done
compared_change true held change = refl
compared_change false held change = absurd cc

done_change : (expected : Value) (there : Bool) (found : Option Value) → IsTrue (is_change (if there then compared expected found else NotThere)) → (if there then compared expected found else NotThere) ≡ Done
done_change expected true (Some held) change = compared_change _ held change
done_change expected true None change = absurd cc
done_change expected false found change = absurd cc

got_change : (found : Option Value) → IsTrue (is_change (got found)) → ⊥
got_change None change = absurd cc
got_change (Some value) change = absurd cc

made_change : (fits there : Bool) → IsTrue (is_change (if fits && there then Made else NotThere)) → (fits ≡ true) × ((if fits && there then Made else NotThere) ≡ Made)
made_change true true change = (refl, refl)
made_change true false change = absurd cc
made_change false there change = absurd cc

-- ---- a change makes no object but one with a birth number of its pass

pub unread : (h : List Call) (pass object field : ℕ) → IsTrue (is_change (answer (heap_of_history h) (Read pass object field))) → ⊥
unread h pass object field change = got_change (value_in (heap_of_history h) object field) change

pub unmade_write : (h : List Call) (pass object field : ℕ) (value : Value) (birth : ℕ) → IsTrue (is_change (answer (heap_of_history h) (Write pass object field value))) → len_at h birth ≡ None → len_at (Write pass object field value ∷ h) birth ≡ None
unmade_write h pass object field value birth change none =
    let heap = heap_of_history h in
    let said = wrote_change (is_there heap value) (value_in heap object field) change in
    let parts = wrote_parts (is_there heap value) (value_in heap object field) said in
    ap (λ reply. option_map length (fields_of (changed heap (Write pass object field value) reply) birth)) said
    ∙ unwritten heap object field value parts.0 birth parts.2 none

pub unmade_exchange : (h : List Call) (pass object field : ℕ) (expected value : Value) (birth : ℕ) → IsTrue (is_change (answer (heap_of_history h) (Exchange pass object field expected value))) → len_at h birth ≡ None
    → len_at (Exchange pass object field expected value ∷ h) birth ≡ None
unmade_exchange h pass object field expected value birth change none =
    let heap = heap_of_history h in
    let said = done_change expected (is_there heap value) (value_in heap object field) change in
    let parts = done_parts expected (is_there heap value) (value_in heap object field) said in
    ap (λ reply. option_map length (fields_of (changed heap (Exchange pass object field expected value) reply) birth)) said
    ∙ unwritten heap object field value parts.0 birth parts.2 none

pub unmade : (h : List Call) (c : Call) (birth : ℕ) → IsTrue (is_change (answer (heap_of_history h) c)) → (is_birth_of (pass_of c) birth ≡ true → ⊥) → len_at h birth ≡ None → len_at (c ∷ h) birth ≡ None
unmade h (NewObject pass made len) birth change other none =
    let parts = made_change (is_birth_of pass made) (not (is_some (fields_of (heap_of_history h) made))) change in
    len_at-new_other h pass made len birth parts.1 (λ same. other (ap (is_birth_of pass) same ∙ parts.0)) ∙ none
unmade h (Read pass object field) birth change other none = absurd (unread h pass object field change)
unmade h (Write pass object field value) birth change other none = unmade_write h pass object field value birth change none
unmade h (Exchange pass object field expected value) birth change other none = unmade_exchange h pass object field expected value birth change none

-- ---- birth numbers of another pass

both : (a b : Bool) → (a && b) ≡ true → (a ≡ true) × (b ≡ true)
both true true is = (refl, refl)
both true false is = absurd cc
both false b is = absurd cc

within : (a b : ℕ) → nat_le a b ≡ true → a ≤ b
within a b is = grind (arith, nat_tests)

births_apart : (m pass made birth : ℕ) → m ≢ pass → pass * 524288 + made < birth → birth ≤ pass * 524288 + 262144 → is_birth_of m birth ≡ true → ⊥
births_apart m pass made birth apart low high is =
    let parts = both (nat_le (m * 524288 + 1) birth) (nat_le birth (m * 524288 + 262144)) is in
    let first : m * 524288 + 1 ≤ birth = within (m * 524288 + 1) birth parts.0 in
    let last : birth ≤ m * 524288 + 262144 = within birth (m * 524288 + 262144) parts.1 in
    elim (cases_order m pass) [
      | inl same ↦ apart same
      | inr (inl less) ↦ omega (arith, low, last, less)
      | inr (inr more) ↦ omega (arith, high, first, more)
    ]

module _ {R W E M : Type 0} (kit : Kit R W E M) where
  unborn_changed : (m : ℕ) (h g : List Call) (pass made : ℕ) → pass ≢ m → HasChange m h g → IsUnborn kit h pass made → IsUnborn kit g pass made
  unborn_changed m h g pass made other grown unborn birth low high =
      let apart : pass_of grown.call ≢ pass = λ same. other (sym same ∙ grown.by) in
      ap (λ x. len_at x birth) grown.is ∙ unmade h grown.call birth grown.fits (births_apart (pass_of grown.call) pass made birth apart low high) (unborn birth low high)

  -- what a pass has not made stays unmade
  pub unborn_stays : (m : ℕ) (h g : List Call) (pass made : ℕ) → pass ≢ m → Grows m h g → IsUnborn kit h pass made → IsUnborn kit g pass made
  unborn_stays m h g pass made other (inl same) unborn birth low high = ap (λ x. len_at x birth) same ∙ unborn birth low high
  unborn_stays m h g pass made other (inr grown) unborn birth low high = unborn_changed m h g pass made other grown unborn birth low high
