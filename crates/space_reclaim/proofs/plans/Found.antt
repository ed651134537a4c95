-- What was found, region by region: the objects of the first region are at the front, and what is left is what was found of the other regions.
use Rattle.std.proofs.Common.{◌≡◌, ◌≢◌, ℕ, ◌+◌, ◌<◌, ◌≤◌, ◌==◌, Bool, IsTrue, true, false, List, [], ◌∷◌, ◌++◌, length, get_or, take, drop, refl, ap, sym, ◌∙◌, arith, length-drop, inl, inr}
use Rattle.std.specs.List.{All, AllPairs, filter, list_any, prefix_len}
use Rattle.std.proofs.lemmas.Bool.{eqb-true}
use Rattle.std.proofs.lemmas.Bool.Decides.{eqb_tells, nat_tests}
use Rattle.std.proofs.lemmas.List.{get_or-take, get_or-drop, take-append-drop, append-nil, length-take-le}
use Rattle.std.proofs.lemmas.List.Elements.{All-head, All-tail, All-cons, All-drop, All-weaker, filter-append}
use Rattle.std.proofs.lemmas.List.Sums.{prefix_len-le-length, prefix_len_passes, prefix_len_stops}
use Rattle.heap_words.specs.Layouts.{Sizes, IsRegion}
use Rattle.space_reclaim.specs.declared.plan.RegionLive.{RegionLive}
use Rattle.space_reclaim.specs.declared.plan.ObjectRow.{ObjectRow}
use Rattle.space_reclaim.specs.Plans.{IsFound, IsLying, objects_in, words_of}
use Rattle.space_reclaim.proofs.plans.Rising.{pairs-head, pairs-tail, pairs-drop}

filter_every : {X : Type 0} (p : X → Bool) (xs : List X) → All (λ x. p x ≡ true) xs → filter p xs ≡ xs
filter_every p [] h = refl
filter_every p (x ∷ xs) h = rw (All-head (λ x. p x ≡ true) x xs h) (ap (λ rest. x ∷ rest) (filter_every p xs (All-tail (λ x. p x ≡ true) x xs h)))

pub filter_nothing : {X : Type 0} (p : X → Bool) (xs : List X) → All (λ x. p x ≡ false) xs → filter p xs ≡ []
filter_nothing p [] h = refl
filter_nothing p (x ∷ xs) h = rw (All-head (λ x. p x ≡ false) x xs h) (filter_nothing p xs (All-tail (λ x. p x ≡ false) x xs h))

pub equal_test : (a b : ℕ) → a ≡ b → (a == b) ≡ true
equal_test a b e = grind (arith, nat_tests)

pub unequal_test : (a b : ℕ) → a ≢ b → (a == b) ≡ false
unequal_test a b e = grind (arith, nat_tests)

-- of two objects the later lies in no earlier region
lying_in_order : (l : Sizes) (o p : ObjectRow) → IsLying l o → IsLying l p → o.at < p.at → o.region ≤ p.region
lying_in_order l o p ho hp before = omega (arith, ho.begins, hp.ends)

is_row_above : (rows : List RegionLive) (low region : ℕ) → All (λ q. low ≤ q.region) rows → IsTrue (list_any (λ q. q.region == region) rows) → low ≤ region
is_row_above [] low region above h = cc
is_row_above (r ∷ rows) low region above h = elim (eqb_tells r.region region) [
  | inl here ↦ let least : low ≤ r.region = All-head (λ q. low ≤ q.region) r rows above in omega (arith, here.1)
  | inr other ↦ is_row_above rows low region (All-tail (λ q. low ≤ q.region) r rows above) (rw other.0 at h)
]

has_row_above : (r : RegionLive) (rows : List RegionLive) (region : ℕ) → AllPairs (λ r s. r.region < s.region) (r ∷ rows) → IsTrue (list_any (λ q. q.region == region) (r ∷ rows)) → r.region ≤ region
has_row_above r rows region rises there =
    let later : All (λ q. r.region ≤ q.region) rows = All-weaker (λ q. r.region < q.region) (λ q. r.region ≤ q.region) (λ q h. omega arith) rows (pairs-head (λ r s. r.region < s.region) r rows rises) in
    is_row_above (r ∷ rows) r.region region (All-cons (λ q. r.region ≤ q.region) r rows (omega arith) later) there

has_later_row : (r : RegionLive) (rows : List RegionLive) (region : ℕ) → r.region < region → IsTrue (list_any (λ q. q.region == region) (r ∷ rows)) → IsTrue (list_any (λ q. q.region == region) rows)
has_later_row r rows region above there = rw (unequal_test r.region region (omega arith)) at there

-- how many objects at the front lie in a region
abbrev pub front : ℕ → List ObjectRow → ℕ
front region objects = prefix_len (λ o. o.region == region) objects

module _ (l : Sizes) (r : RegionLive) (rows : List RegionLive) (rest : List ObjectRow) (f : IsFound l (r ∷ rows) rest) where
  at_least : All (λ o. r.region ≤ o.region) rest
  at_least = λ k d below. has_row_above r rows (get_or rest k d).region f.regions_rise (f.have_rows k d below)

  in_order : (i j : ℕ) (d : ObjectRow) → i < j → j < length rest → (get_or rest i d).region ≤ (get_or rest j d).region
  in_order i j d before below = lying_in_order l (get_or rest i d) (get_or rest j d) (f.lie i d (omega arith)) (f.lie j d below) (f.objects_rise i j d before below)

  in_order_from : (i k : ℕ) (d : ObjectRow) → i + k < length rest → (get_or rest i d).region ≤ (get_or rest (i + k) d).region
  in_order_from i k d below = elim (eqb_tells k 0) [
    | inl none ↦ let same : i + k ≡ i = omega (arith, none.1) in rw same (omega arith)
    | inr some ↦ in_order i (i + k) d (omega (arith, some.1)) below
  ]

  own_here : All (λ o. o.region ≡ r.region) (take (front r.region rest) rest)
  own_here = λ k d below.
      let long : length (take (front r.region rest) rest) ≡ front r.region rest = length-take-le (front r.region rest) rest (prefix_len-le-length (λ o. o.region == r.region) rest) in
      let within : k < front r.region rest = omega (arith, long, below) in
      rw (get_or-take (front r.region rest) rest k d within) (eqb-true (get_or rest k d).region r.region (prefix_len_passes (λ o. o.region == r.region) rest k d within))

  first_other : (d : ObjectRow) → front r.region rest < length rest → r.region < (get_or rest (front r.region rest) d).region
  first_other d below =
      let least : r.region ≤ (get_or rest (front r.region rest) d).region = at_least (front r.region rest) d below in
      let stops : ((get_or rest (front r.region rest) d).region == r.region) ≡ false = prefix_len_stops (λ o. o.region == r.region) rest d below in
      grind (arith, nat_tests, least, stops)

  others_above : All (λ o. r.region < o.region) (drop (front r.region rest) rest)
  others_above = λ k d below.
      let within : front r.region rest + k < length rest = omega (arith, below, length-drop (front r.region rest) rest) in
      rw (get_or-drop (front r.region rest) rest k d) (omega (arith, first_other d (omega arith), in_order_from (front r.region rest) k d within))

  parted : (region : ℕ) → objects_in rest region ≡ objects_in (take (front r.region rest) rest) region ++ objects_in (drop (front r.region rest) rest) region
  parted region =
      ap (λ objects. objects_in objects region) (sym (take-append-drop (front r.region rest) rest))
      ∙ filter-append (λ o. o.region == region) (take (front r.region rest) rest) (drop (front r.region rest) rest)

  -- the objects at the front are those of the first region
  pub own_is : take (front r.region rest) rest ≡ objects_in rest r.region
  own_is =
      let all : objects_in (take (front r.region rest) rest) r.region ≡ take (front r.region rest) rest = filter_every (λ o. o.region == r.region) (take (front r.region rest) rest) (All-weaker (λ o. o.region ≡ r.region) (λ o. (o.region == r.region) ≡ true) (λ o h. equal_test o.region r.region h) (take (front r.region rest) rest) own_here) in
      let none : objects_in (drop (front r.region rest) rest) r.region ≡ [] = filter_nothing (λ o. o.region == r.region) (drop (front r.region rest) rest) (All-weaker (λ o. r.region < o.region) (λ o. (o.region == r.region) ≡ false) (λ o h. unequal_test o.region r.region (omega arith)) (drop (front r.region rest) rest) others_above) in
      sym (parted r.region ∙ (rw (all, none) (append-nil (take (front r.region rest) rest))))

  -- those of a later region are among the others
  pub later_is : (region : ℕ) → r.region < region → objects_in rest region ≡ objects_in (drop (front r.region rest) rest) region
  later_is region later =
      let none : objects_in (take (front r.region rest) rest) region ≡ [] = filter_nothing (λ o. o.region == region) (take (front r.region rest) rest) (All-weaker (λ o. o.region ≡ r.region) (λ o. (o.region == region) ≡ false) (λ o h. unequal_test o.region region (omega arith)) (take (front r.region rest) rest) own_here) in
      parted region ∙ rw none refl

  -- and the others are what was found of the other regions
  pub found_after : IsFound l rows (drop (front r.region rest) rest)
  found_after = record {
    regions_rise = pairs-tail (λ r s. r.region < s.region) r rows f.regions_rise;
    are_regions = All-tail (λ r. IsRegion l r.region) r rows f.are_regions;
    objects_rise = pairs-drop (λ o p. o.at < p.at) (front r.region rest) rest f.objects_rise;
    lie = All-drop (IsLying l) (front r.region rest) rest f.lie;
    have_rows = λ k d below. has_later_row r rows (get_or (drop (front r.region rest) rest) k d).region (others_above k d below) (All-drop (λ o. IsTrue (list_any (λ q. q.region == o.region) (r ∷ rows))) (front r.region rest) rest f.have_rows k d below);
    words = λ k d below. All-tail (λ q. q.words ≡ words_of (objects_in rest q.region)) r rows f.words k d below ∙ ap words_of (later_is (get_or rows k d).region (pairs-head (λ r s. r.region < s.region) r rows f.regions_rise k d below));
  }
