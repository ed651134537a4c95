-- A map of vectors, seen as a map of the lists that they hold.
use Rattle.std.proofs.Common.{◌≡◌, ◌≢◌, ℕ, ◌+◌, ◌*◌, ◌<◌, ◌≤◌, ◌==◌, arith, List, [], ◌∷◌, Bool, true, false, cond, Vec, Option, Some, None, is_some, IsSome, slice_get, length, refl, sym, ap, ◌∙◌, inl, inr, ◌&&◌, not, if◌then◌else◌}
use Rattle.std.specs.declared.cmp.Ordering.{Ordering}
use Rattle.std.specs.declared.cmp.Ordering.TheVariants.{Less, Equal, Greater}
use Rattle.std.specs.Prelude.{nat_lt}
use Rattle.std.specs.Ordering.{nat_cmp, match_ordering, is_eq}
use Rattle.std.specs.Option.{option_map}
use Rattle.std.specs.Vec.{with_item}
use Rattle.std.specs.Map.{lookup, set_value}
use Rattle.std.specs.BTreeMap.{is_at, insert_entry}
use Rattle.std.proofs.lemmas.Bool.{false≢true, true≢false, ne_eqb, le-ltb, leb-true, and_parts}
use Rattle.std.proofs.lemmas.Option.{slice_get_cases}
use Rattle.heap_history.specs.declared.call.Value.{Value}
use Rattle.heap_history.specs.declared.call.Call.TheVariants.{NewObject}
use Rattle.heap_history.specs.declared.call.Reply.TheVariants.{Made, NotThere}
use Rattle.heap_history.specs.FixedHeaps.{Heap, zeros, objects_of, fields_of, value_in, is_birth_of, answer, with_field, write_in, changed, after}

module _ {A : Type 0} where
  lookup_step : (test : ℕ → Bool) (e : ℕ × Vec Value A) (es : List (ℕ × Vec Value A)) (found : Bool) → lookup test (objects_of es) ≡ option_map (λ v. v.items) (lookup test es) → cond found (Some e.1.items) (lookup test (objects_of es)) ≡ option_map (λ v. v.items) (cond found (Some e.1) (lookup test es))
  lookup_step test e es true later = refl
  lookup_step test e es false later = later

  -- the list of the vector that is found
  pub lookup-objects_of : (test : ℕ → Bool) (es : List (ℕ × Vec Value A)) → lookup test (objects_of es) ≡ option_map (λ v. v.items) (lookup test es)
  lookup-objects_of test [] = refl
  lookup-objects_of test (e ∷ es) = lookup_step test e es (test e.0) (lookup-objects_of test es)

  is_some-map : (found : Option (Vec Value A)) → is_some (option_map (λ v. v.items) found) ≡ is_some found
  is_some-map None = refl
  is_some-map (Some v) = refl

  -- whether an object is there
  pub is_some-objects_of : (es : List (ℕ × Vec Value A)) (object : ℕ) → is_some (fields_of (objects_of es) object) ≡ is_some (lookup (is_at (nat_cmp object)) es)
  is_some-objects_of es object = ap is_some (lookup-objects_of (is_at (nat_cmp object)) es) ∙ is_some-map (lookup (is_at (nat_cmp object)) es)

  -- no field of an object that is not there
  pub value_in-absent : (es : List (ℕ × Vec Value A)) (object field : ℕ) → lookup (is_at (nat_cmp object)) es ≡ None → value_in (objects_of es) object field ≡ None
  value_in-absent es object field absent = rw (lookup-objects_of, absent) refl

  -- a field of one that is
  pub value_in-there : (es : List (ℕ × Vec Value A)) (object field : ℕ) (v : Vec Value A) → lookup (is_at (nat_cmp object)) es ≡ Some v → value_in (objects_of es) object field ≡ slice_get v.items field
  value_in-there es object field v there = rw (lookup-objects_of, there) refl

  insert_step : (k : ℕ) (v : Vec Value A) (e : ℕ × Vec Value A) (es : List (ℕ × Vec Value A)) (o : Ordering) → objects_of (insert_entry nat_cmp es k v) ≡ insert_entry nat_cmp (objects_of es) k v.items → objects_of (match_ordering o ((k, v) ∷ e ∷ es) ((e.0, v) ∷ es) (e ∷ insert_entry nat_cmp es k v)) ≡ match_ordering o ((k, v.items) ∷ (e.0, e.1.items) ∷ objects_of es) ((e.0, v.items) ∷ objects_of es) ((e.0, e.1.items) ∷ insert_entry nat_cmp (objects_of es) k v.items)
  insert_step k v e es Less later = refl
  insert_step k v e es Equal later = refl
  insert_step k v e es Greater later = ap (λ rest. (e.0, e.1.items) ∷ rest) later

  -- a new object
  pub objects_of-insert : (es : List (ℕ × Vec Value A)) (k : ℕ) (v : Vec Value A) → objects_of (insert_entry nat_cmp es k v) ≡ insert_entry nat_cmp (objects_of es) k v.items
  objects_of-insert [] k v = refl
  objects_of-insert (e ∷ es) k v = insert_step k v e es (nat_cmp k e.0) (objects_of-insert es k v)

  set_step : (test : ℕ → Bool) (v : Vec Value A) (e : ℕ × Vec Value A) (es : List (ℕ × Vec Value A)) (found : Bool) → objects_of (set_value test es v) ≡ set_value test (objects_of es) v.items → objects_of (cond found ((e.0, v) ∷ es) (e ∷ set_value test es v)) ≡ cond found ((e.0, v.items) ∷ objects_of es) ((e.0, e.1.items) ∷ set_value test (objects_of es) v.items)
  set_step test v e es true later = refl
  set_step test v e es false later = ap (λ rest. (e.0, e.1.items) ∷ rest) later

  -- an object with other fields
  pub objects_of-set : (test : ℕ → Bool) (es : List (ℕ × Vec Value A)) (v : Vec Value A) → objects_of (set_value test es v) ≡ set_value test (objects_of es) v.items
  objects_of-set test [] v = refl
  objects_of-set test (e ∷ es) v = set_step test v e es (test e.0) (objects_of-set test es v)

-- what is None is not there
pub none_there : {X : Type 0} → (o : Option X) → o ≡ None → IsSome o → ⊥
none_there o none there = false≢true (sym (ap is_some none) ∙ there)

-- an element that is there is below the length
pub slice_get_below : {X : Type 0} → (xs : List X) (i : ℕ) → IsSome (slice_get xs i) → i < length xs
slice_get_below xs i there = elim (slice_get_cases xs i).1 [ inl inside ↦ inside.1 | inr past ↦ absurd (none_there (slice_get xs i) past.1 there) ]

-- a new object that is refused
pub not_made : (heap : Heap) (pass birth len : ℕ) → (is_birth_of pass birth && not (is_some (fields_of heap birth))) ≡ false → (answer heap (NewObject pass birth len) ≡ NotThere) × (after heap (NewObject pass birth len) ≡ heap)
not_made heap pass birth len refused =
    (ap (λ fits. if fits then Made else NotThere) refused, ap (λ fits. changed heap (NewObject pass birth len) (if fits then Made else NotThere)) refused)

-- and one that is made
pub is_made : (heap : Heap) (pass birth len : ℕ) → (is_birth_of pass birth && not (is_some (fields_of heap birth))) ≡ true → (answer heap (NewObject pass birth len) ≡ Made) × (after heap (NewObject pass birth len) ≡ insert_entry nat_cmp heap birth (zeros len))
is_made heap pass birth len fits =
    (ap (λ fits. if fits then Made else NotThere) fits, ap (λ fits. changed heap (NewObject pass birth len) (if fits then Made else NotThere)) fits)

-- a vector that is found, with an element set and put back
pub written : {A : Type 0} → (es : List (ℕ × Vec Value A)) (object field : ℕ) (value : Value) (v : Vec Value A) → lookup (is_at (nat_cmp object)) es ≡ Some v → objects_of (set_value (is_at (nat_cmp object)) es (with_item v field value)) ≡ write_in (objects_of es) object field value
written es object field value v there =
    let found : fields_of (objects_of es) object ≡ Some v.items = lookup-objects_of (is_at (nat_cmp object)) es ∙ ap (λ o. option_map (λ w. w.items) o) there in
    objects_of-set (is_at (nat_cmp object)) es (with_item v field value) ∙ ap (λ o. set_value (is_at (nat_cmp object)) (objects_of es) (with_field o field value)) (sym found)

-- ---- the common object, which stands before all others

other_test : (less same : Bool) → same ≡ false → is_eq (cond less Less (cond same Equal Greater)) ≡ false
other_test true same e = refl
other_test false false e = refl
other_test false true e = absurd cc

-- another birth number is not that of the common object
is_other : (birth : ℕ) → birth ≢ 1 → is_at (nat_cmp birth) 1 ≡ false
is_other birth other = other_test (nat_lt birth 1) (birth == 1) (ne_eqb birth 1 other)

-- and is greater
is_greater : (birth : ℕ) → birth ≢ 1 → 1 ≤ birth → nat_cmp birth 1 ≡ Greater
is_greater birth other least = rw (le-ltb birth 1 least, ne_eqb birth 1 other) refl

module _ (common : List Value) (rest : Heap) where
  pub common_fields : (birth : ℕ) → birth ≡ 1 → fields_of ((1, common) ∷ rest) birth ≡ Some common
  common_fields birth is = rw is refl

  pub other_fields : (birth : ℕ) → birth ≢ 1 → fields_of ((1, common) ∷ rest) birth ≡ fields_of rest birth
  other_fields birth other = ap (λ same. cond same (Some common) (fields_of rest birth)) (is_other birth other)

  pub insert_other : (birth : ℕ) (values : List Value) → birth ≢ 1 → 1 ≤ birth → insert_entry nat_cmp ((1, common) ∷ rest) birth values ≡ (1, common) ∷ insert_entry nat_cmp rest birth values
  insert_other birth values other least = ap (λ o. match_ordering o ((birth, values) ∷ (1, common) ∷ rest) ((1, values) ∷ rest) ((1, common) ∷ insert_entry nat_cmp rest birth values)) (is_greater birth other least)

  pub write_other : (object field : ℕ) (value : Value) → object ≢ 1 → write_in ((1, common) ∷ rest) object field value ≡ (1, common) ∷ write_in rest object field value
  write_other object field value other =
      ap (λ same. cond same ((1, with_field (fields_of ((1, common) ∷ rest) object) field value) ∷ rest) ((1, common) ∷ set_value (is_at (nat_cmp object)) rest (with_field (fields_of ((1, common) ∷ rest) object) field value))) (is_other object other)
      ∙ ap (λ fields. (1, common) ∷ set_value (is_at (nat_cmp object)) rest (with_field fields field value)) (other_fields object other)

-- a birth number that can be made is another one than the common object's
pub new_is_other : (common : List Value) (rest : Heap) (pass birth : ℕ) → (is_birth_of pass birth && not (is_some (fields_of ((1, common) ∷ rest) birth))) ≡ true → (birth ≢ 1) × (1 ≤ birth)
new_is_other common rest pass birth fits =
    let parts = and_parts (is_birth_of pass birth) _ fits in
    let least : pass * 524288 + 1 ≤ birth = leb-true _ birth (and_parts _ _ parts.0).0 in
    (λ is. absurd (true≢false (sym parts.1 ∙ ap (λ fields. not (is_some fields)) (common_fields common rest birth is))), omega (arith, least))
