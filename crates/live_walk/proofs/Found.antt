-- What was found of the regions up to one, with that one, and with one object more in it.
use Rattle.std.proofs.Common.{◌≡◌, ◌≢◌, ℕ, ◌+◌, ◌<◌, ◌≤◌, ◌==◌, ◌||◌, Bool, IsTrue, true, false, List, [], ◌∷◌, ◌++◌, length, get_or, refl, ap, sym, ◌∙◌, subst, arith, length-append}
use Rattle.std.specs.List.{All, AllPairs, filter, list_any, sum_by}
use Rattle.std.proofs.lemmas.Bool.Decides.{nat_tests}
use Rattle.std.proofs.lemmas.List.{get_or_append_left, get_or_push, append-nil}
use Rattle.std.proofs.lemmas.List.Elements.{All-push, All-weaker, filter-append}
use Rattle.std.proofs.lemmas.List.Folds.{list_any-append}
use Rattle.std.proofs.lemmas.List.Quantifiers.{all_pairs_push}
use Rattle.heap_words.specs.Layouts.{Sizes, IsRegion, first_word}
use Rattle.space_reclaim.specs.declared.plan.RegionLive.{RegionLive}
use Rattle.space_reclaim.specs.declared.plan.ObjectRow.{ObjectRow}
use Rattle.space_reclaim.specs.Plans.{IsFound, IsLying, objects_in, words_of}
use Rattle.space_reclaim.proofs.plans.Found.{filter_nothing, equal_test, unequal_test}
use Rattle.space_reclaim.proofs.plans.Strip.{words_of-append, words_of-cons}

-- the row of a region
abbrev pub row : ℕ → ℕ → RegionLive
row region words = record { region = region; words = words }

abbrev pub is_of : ℕ → RegionLive → Bool
is_of region r = r.region == region

any_left : (a b : Bool) → IsTrue a → IsTrue (a || b)
any_left true b h = refl
any_left false b h = cc

any_right : (a b : Bool) → IsTrue b → IsTrue (a || b)
any_right true b h = refl
any_right false b h = h

all_front : {X : Type 0} (P : X → Type 0) (xs ys : List X) → All P (xs ++ ys) → All P xs
all_front P xs ys h = λ k d below.
    let within : k < length (xs ++ ys) = omega (arith, below, length-append xs ys) in
    let is : get_or (xs ++ ys) k d ≡ get_or xs k d = get_or_append_left xs ys d k below in
    subst P is (h k d within)

pub pairs_front : {X : Type 0} (R : X → X → Type 0) (xs ys : List X) → AllPairs R (xs ++ ys) → AllPairs R xs
pairs_front R xs ys h = λ i j d before below.
    let within : j < length (xs ++ ys) = omega (arith, below, length-append xs ys) in
    let first : get_or (xs ++ ys) i d ≡ get_or xs i d = get_or_append_left xs ys d i (omega (arith, before, below)) in
    let second : get_or (xs ++ ys) j d ≡ get_or xs j d = get_or_append_left xs ys d j below in
    subst (λ x. R (get_or xs i d) x) second (subst (λ x. R x (get_or (xs ++ ys) j d)) first (h i j d before within))

-- no object of a region from which on none lies
none_in : (l : Sizes) (objects : List ObjectRow) (region : ℕ) → All (IsLying l) objects → All (λ o. o.at + o.len < first_word l region) objects → objects_in objects region ≡ []
none_in l objects region lie below = filter_nothing (λ o. o.region == region) objects (λ k d within.
    let o : ObjectRow = get_or objects k d in
    let here : IsLying l (get_or objects k d) = lie k d within in
    let low : (get_or objects k d).at + (get_or objects k d).len < first_word l region = below k d within in
    let begins : first_word l (get_or objects k d).region ≤ (get_or objects k d).at = here.begins in
    unequal_test (get_or objects k d).region region (λ same. let e : first_word l (get_or objects k d).region ≡ first_word l region = ap (first_word l) same in omega (arith, begins, low, e)))

still_any : (rows : List RegionLive) (x y : RegionLive) (region : ℕ) → x.region ≡ y.region → IsTrue (list_any (is_of region) (rows ++ x ∷ [])) → IsTrue (list_any (is_of region) (rows ++ y ∷ []))
still_any rows x y region same h =
    let before : IsTrue (list_any (is_of region) rows || list_any (is_of region) (x ∷ [])) = rw (list_any-append (is_of region) rows (x ∷ [])) at h in
    let last : list_any (is_of region) (x ∷ []) ≡ list_any (is_of region) (y ∷ []) = ap (λ n. (n == region) || false) same in
    rw (list_any-append (is_of region) rows (y ∷ [])) (subst (λ b. IsTrue (list_any (is_of region) rows || b)) last before)

any_more : (rows : List RegionLive) (x : RegionLive) (region : ℕ) → IsTrue (list_any (is_of region) rows) → IsTrue (list_any (is_of region) (rows ++ x ∷ []))
any_more rows x region h = rw (list_any-append (is_of region) rows (x ∷ [])) (any_left (list_any (is_of region) rows) (list_any (is_of region) (x ∷ [])) h)

any_last : (rows : List RegionLive) (x : RegionLive) → IsTrue (list_any (is_of x.region) (rows ++ x ∷ []))
any_last rows x =
    let here : list_any (is_of x.region) (x ∷ []) ≡ true = ap (λ b. b || false) (equal_test x.region x.region refl) in
    rw (list_any-append (is_of x.region) rows (x ∷ [])) (any_right (list_any (is_of x.region) rows) (list_any (is_of x.region) (x ∷ [])) here)

-- with a region that has nothing yet
pub found_begun : (l : Sizes) (rows : List RegionLive) (objects : List ObjectRow) (region : ℕ) → IsFound l rows objects → IsRegion l region → All (λ r. r.region < region) rows → All (λ o. o.at + o.len < first_word l region) objects → IsFound l (rows ++ row region 0 ∷ []) objects
found_begun l rows objects region f is before below = record {
  regions_rise = all_pairs_push (λ r s. r.region < s.region) rows (row region 0) f.regions_rise (λ k d within. before k d within);
  are_regions = All-push (λ r. IsRegion l r.region) rows (row region 0) f.are_regions is;
  objects_rise = f.objects_rise;
  lie = f.lie;
  have_rows = λ k d within. any_more rows (row region 0) (get_or objects k d).region (f.have_rows k d within);
  words = All-push (λ r. r.words ≡ words_of (objects_in objects r.region)) rows (row region 0) f.words (sym (ap words_of (none_in l objects region f.lie below)));
}

other_in : (objects : List ObjectRow) (o : ObjectRow) (region : ℕ) → o.region ≢ region → objects_in (objects ++ o ∷ []) region ≡ objects_in objects region
other_in objects o region not =
    let test : (o.region == region) ≡ false = unequal_test o.region region not in
    filter-append (λ p. p.region == region) objects (o ∷ []) ∙ (rw test (append-nil (objects_in objects region)))

same_in : (objects : List ObjectRow) (o : ObjectRow) (region : ℕ) → o.region ≡ region → objects_in (objects ++ o ∷ []) region ≡ objects_in objects region ++ o ∷ []
same_in objects o region is =
    let test : (o.region == region) ≡ true = equal_test o.region region is in
    filter-append (λ p. p.region == region) objects (o ∷ []) ∙ (rw test refl)

-- with an object more in the last region
pub found_more : (l : Sizes) (rows : List RegionLive) (objects : List ObjectRow) (region n : ℕ) (o : ObjectRow) → IsFound l (rows ++ row region n ∷ []) objects → All (λ r. r.region < region) rows → IsLying l o → o.region ≡ region → All (λ p. p.at + p.len < o.at) objects → IsFound l (rows ++ row region (n + o.len + 1) ∷ []) (objects ++ o ∷ [])
found_more l rows objects region n o f before lies is below = record {
  regions_rise = all_pairs_push (λ r s. r.region < s.region) rows (row region more) (pairs_front (λ r s. r.region < s.region) rows (row region n ∷ []) f.regions_rise) (λ k d within. before k d within);
  are_regions = All-push (λ r. IsRegion l r.region) rows (row region more) (all_front (λ r. IsRegion l r.region) rows (row region n ∷ []) f.are_regions) (subst (IsRegion l) is lies.region);
  objects_rise = all_pairs_push (λ p q. p.at < q.at) objects o f.objects_rise (λ k d within. let low : (get_or objects k d).at + (get_or objects k d).len < o.at = below k d within in omega (arith, low));
  lie = All-push (IsLying l) objects o f.lie lies;
  have_rows = All-push (λ p. IsTrue (list_any (is_of p.region) (rows ++ row region more ∷ []))) objects o
      (λ k d within. still_any rows (row region n) (row region more) (get_or objects k d).region refl (f.have_rows k d within))
      (subst (λ q. IsTrue (list_any (is_of q) (rows ++ row region more ∷ []))) (sym is) (any_last rows (row region more)));
  words = All-push (λ r. r.words ≡ words_of (objects_in (objects ++ o ∷ []) r.region)) rows (row region more)
      (λ k d within.
      let low : (get_or rows k d).region < region = before k d within in
      let old : (get_or rows k d).words ≡ words_of (objects_in objects (get_or rows k d).region) = all_front (λ r. r.words ≡ words_of (objects_in objects r.region)) rows (row region n ∷ []) f.words k d within in
      old ∙ ap words_of (sym (other_in objects o (get_or rows k d).region (λ same. omega (arith, low, same, is)))))
      (let counted : n ≡ words_of (objects_in objects region) = last_words in
      let added : words_of (objects_in (objects ++ o ∷ []) region) ≡ words_of (objects_in objects region) + (o.len + 1) = ap words_of (same_in objects o region is) ∙ (words_of-append (objects_in objects region) (o ∷ []) ∙ ap (λ k. words_of (objects_in objects region) + k) one) in
      omega (arith, counted, added));
}
  where
    one : words_of (o ∷ []) ≡ o.len + 1
    one = words_of-cons o [] ∙ omega arith

    more : ℕ
    more = n + o.len + 1

    last_words : n ≡ words_of (objects_in objects region)
    last_words =
        let at_end : length rows < length (rows ++ row region n ∷ []) = omega (arith, length-append rows (row region n ∷ [])) in
        let is_last : get_or (rows ++ row region n ∷ []) (length rows) (row region n) ≡ row region n = get_or_push rows (row region n) (row region n) (length rows) refl in
        subst (λ r. r.words ≡ words_of (objects_in objects r.region)) is_last (f.words (length rows) (row region n) at_end)
