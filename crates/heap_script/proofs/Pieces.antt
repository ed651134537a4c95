-- What is cut off at a byte: the first line, the first word.
use Rattle.std.proofs.Common.{◌≡◌, ℕ, ◌<◌, ◌≤◌, Bool, true, false, cond, ltb, eqb, List, ◌∷◌, length, Some, None, inl, inr, refl, sym, ap, ◌∙◌, arith, []}
use Rattle.std.specs.List.{filter, slice_split, before_first, after_first, position, position_or_len}
use Rattle.std.specs.Str.Lines.{lines, lines_of_parts, strip_carriage_return}
use Rattle.std.proofs.lemmas.Bool.{cases_lt, both_ways, eq-eqb, lt-ltb, ne_eqb, ltb-false}
use Rattle.std.proofs.lemmas.List.Sums.{fails_before_first}
use Rattle.std.proofs.lemmas.List.Elements.{All-from_get_or}
use Rattle.std.proofs.lemmas.List.Splits.{slice_split_none, slice_split_first, length-slice_split}
use Rattle.heap_script.specs.Words.{words}

abbrev pub at : ℕ → ℕ → Bool
at c b = eqb b c

cond_none : {A : Type 0} (b : Bool) (x : A) → cond b (Some x) None ≡ None → b ≡ false
cond_none true x e = absurd cc
cond_none false x e = refl

pub position_none : (p : ℕ → Bool) (bs : List ℕ) → position p bs ≡ None → length bs ≤ position_or_len p bs
position_none p bs e = ltb-false _ _ (cond_none (ltb (position_or_len p bs) (length bs)) (position_or_len p bs) e)

-- no such byte: one piece
pub split_whole : (c : ℕ) (bs : List ℕ) → length bs ≤ position_or_len (at c) bs → slice_split (at c) bs ≡ bs ∷ []
split_whole c bs h = slice_split_none (at c) bs (All-from_get_or (λ x. at c x ≡ false) bs 0 (λ i lt. fails_before_first (at c) bs i 0 (omega arith)))

-- ---- lines

first_part : (x : List ℕ) (parts : List (List ℕ)) → 0 < length parts → lines_of_parts (x ∷ parts) ≡ strip_carriage_return x ∷ lines_of_parts parts
first_part x [] h = absurd (omega arith)
first_part x (y ∷ more) h = refl

pub lines_last : (bs : List ℕ) → 0 < length bs → length bs ≤ position_or_len (at 10) bs → lines bs ≡ bs ∷ []
lines_last bs some h =
    let ne : eqb (length bs) 0 ≡ false = ne_eqb _ _ (omega arith) in
    rw (split_whole 10 bs h, ne) refl

pub lines_cut : (bs : List ℕ) → position_or_len (at 10) bs < length bs → lines bs ≡ strip_carriage_return (before_first (at 10) bs) ∷ lines (after_first (at 10) bs)
lines_cut bs h =
    ap lines_of_parts (slice_split_first (at 10) bs 0 h) ∙ first_part (before_first (at 10) bs) (slice_split (at 10) (after_first (at 10) bs)) (omega (arith, length-slice_split (at 10) (after_first (at 10) bs)))

-- ---- words

pub words_last : (bs : List ℕ) → 0 < length bs → length bs ≤ position_or_len (at 32) bs → words bs ≡ bs ∷ []
words_last bs some h =
    let yes : ltb 0 (length bs) ≡ true = lt-ltb _ _ some in
    rw (split_whole 32 bs h, yes) refl

pub words_next : (bs : List ℕ) → position_or_len (at 32) bs < length bs → 0 < length (before_first (at 32) bs) → words bs ≡ before_first (at 32) bs ∷ words (after_first (at 32) bs)
words_next bs h some =
    let yes : ltb 0 (length (before_first (at 32) bs)) ≡ true = lt-ltb _ _ some in
    ap (filter (λ w. ltb 0 (length w))) (slice_split_first (at 32) bs 0 h) ∙ rw yes refl

-- what `is_empty` said
pub not_empty : (n : ℕ) (r : Bool) → r ≡ eqb n 0 → r ≡ false → 0 < n
not_empty n r e f = elim (cases_lt 0 n) [ inl lt ↦ lt | inr le ↦ absurd (both_ways (eqb n 0) (sym e ∙ f) (eq-eqb n 0 (omega arith))) ]
