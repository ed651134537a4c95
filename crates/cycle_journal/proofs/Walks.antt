-- The objects of a region, one after another.
use Rattle.std.proofs.Common.{◌≡◌, ◌≢◌, ℕ, zero, suc, ◌+◌, ◌-◌, ◌<◌, ◌≤◌, if◌then◌else◌, Bool, true, false, List, [], ◌∷◌, ◌++◌, map, slice_index, refl, ap, sym, ◌∙◌, append-nil, append_assoc, arith}
use Rattle.std.proofs.lemmas.Bool.Decides.{nat_tests}
use Rattle.std.specs.List.{filter, flat_map, range_with_len}
use Rattle.std.proofs.lemmas.Grind.{flat_map-append}
use Rattle.object_headers.specs.Headers.{header_at}
use Rattle.cycle_journal.specs.LastHeaps.{Line, Found, found_at, next_after, is_over, is_live, line_at, left_at, objects_from}

module _ (words : List ℕ) (end : ℕ) where
  pub over_at_end : (at : ℕ) → end ≤ at → is_over words end at ≡ true
  over_at_end at is = grind (arith, nat_tests)

  pub over_at_zero : (at : ℕ) → slice_index words at ≡ 0 → is_over words end at ≡ true
  over_at_zero at is = grind (arith, nat_tests)

  pub on_at : (at : ℕ) → at < end → slice_index words at ≢ 0 → is_over words end at ≡ false
  on_at at below some = grind (arith, nat_tests)

  -- no object stands there
  pub none_from : (n at : ℕ) → is_over words end at ≡ true → objects_from words end n at ≡ []
  unfolding objects_from
  none_from zero at is = refl
  none_from (suc n) at is = rw is refl

  same_rest : (at : ℕ) (b : Bool) (some same : List Found) → some ≡ same → (if b then [] else found_at words at ∷ some) ≡ (if b then [] else found_at words at ∷ same)
  same_rest at true some same is = refl
  same_rest at false some same is = ap (λ (rest : List Found). found_at words at ∷ rest) is

  -- there are no more objects than words
  pub enough_from : (n m at : ℕ) → end ≤ at + n → end ≤ at + m → objects_from words end n at ≡ objects_from words end m at
  unfolding objects_from
  enough_from zero m at few many = sym (none_from m at (over_at_end at (omega arith)))
  enough_from (suc n) zero at few many = none_from (suc n) at (over_at_end at (omega arith))
  enough_from (suc n) (suc m) at few many = same_rest at (is_over words end at) (objects_from words end n (next_after words at)) (objects_from words end m (next_after words at)) (enough_from n m (next_after words at) (omega arith) (omega arith))

  one_from : (n at : ℕ) → at < end → slice_index words at ≢ 0 → end ≤ at + suc n → objects_from words end (suc n) at ≡ found_at words at ∷ objects_from words end (end - next_after words at) (next_after words at)
  unfolding objects_from
  one_from n at below some few =
      let on : is_over words end at ≡ false = on_at at below some in
      rw on (ap (λ (rest : List Found). found_at words at ∷ rest) (enough_from n (end - next_after words at) (next_after words at) (omega arith) (omega arith)))

  -- the object at an address, and then those after it
  pub more_from : (at : ℕ) → at < end → slice_index words at ≢ 0 → objects_from words end (end - at) at ≡ found_at words at ∷ objects_from words end (end - next_after words at) (next_after words at)
  more_from at below some =
      let left : end - at ≡ suc (end - at - 1) = omega arith in
      rw left (one_from (end - at - 1) at below some (omega arith))

  -- the lines of the objects from an address on that are left
  abbrev pub left_from : ℕ → List Line
  left_from at = map (line_at words) (filter (λ f. is_live f.header.state) (objects_from words end (end - at) at))

  pub none_left : (at : ℕ) → is_over words end at ≡ true → left_from at ≡ []
  none_left at is = rw (none_from (end - at) at is) refl

  left_first : (at : ℕ) (rest : List Found) (b : Bool) → is_live (header_at (slice_index words at)).state ≡ b → map (line_at words) (filter (λ f. is_live f.header.state) (found_at words at ∷ rest)) ≡ (if b then line_at words (found_at words at) ∷ [] else []) ++ map (line_at words) (filter (λ f. is_live f.header.state) rest)
  left_first at rest true is = rw is refl
  left_first at rest false is = rw is refl

  pub more_left : (at : ℕ) → at < end → slice_index words at ≢ 0 → left_from at ≡ left_at words at ++ left_from (next_after words at)
  more_left at below some =
      rw (more_from at below some) (left_first at (objects_from words end (end - next_after words at) (next_after words at)) (is_live (header_at (slice_index words at)).state) refl)

  -- what was told, and what is still to be told from an address on, stays the same over the object there
  pub tells_on : (old new all : List Line) (at next : ℕ) → next ≡ next_after words at → at < end → slice_index words at ≢ 0 → new ≡ old ++ left_at words at → old ++ left_from at ≡ all → new ++ left_from next ≡ all
  tells_on old new all at next is below some more told =
      let first : new ++ left_from next ≡ (old ++ left_at words at) ++ left_from (next_after words at) = rw (is, more) refl in
      let rest : left_at words at ++ left_from (next_after words at) ≡ left_from at = sym (more_left at below some) in
      first ∙ (append_assoc old (left_at words at) (left_from (next_after words at)) ∙ (ap (λ (b : List Line). old ++ b) rest ∙ told))

  -- where no object stands, all is told
  pub told_all : (told all : List Line) (at : ℕ) → is_over words end at ≡ true → told ++ left_from at ≡ all → told ≡ all
  told_all told all at over is = sym (append-nil told) ∙ (ap (λ (b : List Line). told ++ b) (sym (none_left at over)) ∙ is)

-- ---- numbers one after another

range_more : (a n : ℕ) → range_with_len a (suc n) ≡ range_with_len a n ++ (a + n) ∷ []
range_more a zero = let same : a + 0 ≡ a = omega arith in rw same refl
range_more a (suc n) = let same : a + 1 + n ≡ a + suc n = omega arith in ap (λ (rest : List ℕ). a ∷ rest) (range_more (a + 1) n ∙ ap (λ k. range_with_len (a + 1) n ++ k ∷ []) same)

-- of numbers one after another, what the last one gives comes last
pub flat_map_more : {A : Type 0} (f : ℕ → List A) (n : ℕ) → flat_map f (range_with_len 0 (n + 1)) ≡ flat_map f (range_with_len 0 n) ++ f n
flat_map_more {A = A} f n =
    let last : flat_map f (n ∷ []) ≡ f n = append-nil (f n) in
    let same : n + 1 ≡ suc n = omega arith in
    let here : 0 + n ≡ n = omega arith in
    let split : flat_map f (range_with_len 0 n ++ (0 + n) ∷ []) ≡ flat_map f (range_with_len 0 n) ++ flat_map f ((0 + n) ∷ []) = flat_map-append f (range_with_len 0 n) ((0 + n) ∷ []) in
    ap (λ (k : ℕ). flat_map f (range_with_len 0 k)) same ∙ (ap (flat_map f) (range_more 0 n) ∙ (split
    ∙ ap (λ (rest : List A). flat_map f (range_with_len 0 n) ++ rest) (ap (λ (k : ℕ). flat_map f (k ∷ [])) here ∙ last)))
