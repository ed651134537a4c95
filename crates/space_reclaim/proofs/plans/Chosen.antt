-- The chosen regions rise, their objects fit, and a region without live words is always among them.
use Rattle.std.proofs.Common.{◌≡◌, ◌≢◌, ℕ, ◌+◌, ◌*◌, ◌<◌, ◌≤◌, Bool, true, false, ◌&&◌, ◌||◌, not, nat_le, if◌then◌else◌, List, [], ◌∷◌, ◌++◌, length, take, get_or, refl, ap, sym, ◌∙◌, subst, add-zero, arith}
use Rattle.std.specs.List.{All, AllPairs, Any, Contains}
use Rattle.std.proofs.lemmas.Bool.Decides.{nat_tests}
use Rattle.std.proofs.lemmas.List.{append-nil, get_or-take, get_or_default, length-take-le}
use Rattle.std.proofs.lemmas.List.Elements.{All-nil, All-cons, All-head, All-tail, All-push, All-weaker, All-take, All-contains_itself, Contains-push, Contains-append_left, Contains-get_or}
use Rattle.std.proofs.lemmas.List.Quantifiers.{all_pairs_push}
use Rattle.std.proofs.lemmas.Grind.{flat_map-append}
use Rattle.object_headers.specs.Changes.{is_stopless}
use Rattle.heap_words.specs.Layouts.{wide_at}
use Rattle.object_headers.specs.declared.change.Kind.{Kind}
use Rattle.object_headers.specs.declared.change.Kind.TheVariants.{AtRest, Stopless, Chicken, Clover}
use Rattle.space_reclaim.specs.declared.plan.RegionLive.{RegionLive}
use Rattle.space_reclaim.specs.declared.plan.ObjectRow.{ObjectRow}
use Rattle.space_reclaim.specs.Plans.{Space, words_of, objects_in, objects_in_all, strip_after, fits, is_chosen, chosen_after, jobs_after, regions_begun, wide_words_of, plan_of, IsSpace, IsFound, IsLying}
use Rattle.space_reclaim.specs.PlanMeanings.{EmptiesChosen, AreCopiesApart, target_of, FillsTargets, AreLaidInOrder, FollowFrom, AreWideLaid, HasNoWide}
use Rattle.space_reclaim.proofs.plans.Copies.{copies_apart, wide_follow, wide_within, wide_apart, wide_none, jobs_words, jobs-move}
use Rattle.space_reclaim.proofs.plans.Laid.{laid_first, into_begun, begun_used}
use Rattle.space_reclaim.proofs.plans.Moved.{all_in, regions_in, rise_in, jobs_rise, jobs_own, jobs_every, contains_in}
use Rattle.space_reclaim.proofs.plans.Rising.{pairs-head, pairs-tail, pairs-take}
use Rattle.space_reclaim.proofs.plans.Strip.{words_of-cons}

fits-parts : (used most words free : ℕ) (stopless : Bool) → (nat_le used most && (not stopless || nat_le words free)) ≡ true → (used ≤ most) × (stopless ≡ true → words ≤ free)
fits-parts used most words free true h = grind (arith, nat_tests)
fits-parts used most words free false h = grind (arith, nat_tests)

last_of : (a b : Bool) → (a && b) ≡ true → b ≡ true
last_of true b h = h
last_of false b h = cc

none_fits : (most free : ℕ) (stopless : Bool) → (nat_le 0 most && (not stopless || nat_le 0 free)) ≡ true
none_fits most free true = grind (arith, nat_tests)
none_fits most free false = grind (arith, nat_tests)

by_choice : (P : Bool → Type 0) (b : Bool) → (b ≡ true → P true) → (b ≡ false → P false) → P b
by_choice P true chosen passed = chosen refl
by_choice P false chosen passed = passed refl

true-not-false : true ≡ false → ⊥
true-not-false e = cc

no_words : (objects : List ObjectRow) → words_of objects ≡ 0 → objects ≡ []
no_words [] h = refl
no_words (o ∷ rest) h = absurd (omega (arith, h, words_of-cons o rest))

module _ (s : Space) (objects : List ObjectRow) where
  -- with the next region, if it is chosen
  abbrev with_next : List ℕ → RegionLive → Bool → List ℕ
  with_next before r chosen = if chosen then before ++ r.region ∷ [] else before

  -- the objects of the chosen regions fit
  pub chosen_fits : (before : List ℕ) (rows : List RegionLive) → fits s (objects_in_all objects before) ≡ true → fits s (objects_in_all objects (chosen_after s objects before rows)) ≡ true
  chosen_fits before [] h = h
  chosen_fits before (r ∷ rest) h = by_choice
      (λ b. fits s (objects_in_all objects (chosen_after s objects (with_next before r b) rest)) ≡ true)
      (is_chosen s objects before r)
      (λ is. chosen_fits (before ++ r.region ∷ []) rest (last_of (nat_le r.words 32) (fits s (objects_in_all objects (before ++ r.region ∷ []))) is))
      (λ not_chosen. chosen_fits before rest h)

  -- they rise
  pub chosen_rise : (before : List ℕ) (rows : List RegionLive) → AllPairs (λ a b. a < b) before → All (λ a. All (λ r. a < r.region) rows) before → AllPairs (λ r q. r.region < q.region) rows → AllPairs (λ a b. a < b) (chosen_after s objects before rows)
  chosen_rise before [] rise below rows_rise = rise
  chosen_rise before (r ∷ rest) rise below rows_rise =
      let later : All (λ a. All (λ q. a < q.region) rest) before = All-weaker (λ a. All (λ q. a < q.region) (r ∷ rest)) (λ a. All (λ q. a < q.region) rest) (λ a h. All-tail (λ q. a < q.region) r rest h) before below in
      by_choice
      (λ b. AllPairs (λ a b. a < b) (chosen_after s objects (with_next before r b) rest))
      (is_chosen s objects before r)
      (λ is. chosen_rise (before ++ r.region ∷ []) rest
      (all_pairs_push (λ a b. a < b) before r.region rise (λ k d within. All-head (λ q. get_or before k d < q.region) r rest (below k d within)))
      (All-push (λ a. All (λ q. a < q.region) rest) before r.region later (pairs-head (λ r q. r.region < q.region) r rest rows_rise))
      (pairs-tail (λ r q. r.region < q.region) r rest rows_rise))
      (λ not_chosen. chosen_rise before rest rise later (pairs-tail (λ r q. r.region < q.region) r rest rows_rise))

  chosen_stays : (before : List ℕ) (rows : List RegionLive) (region : ℕ) → Contains before region → Contains (chosen_after s objects before rows) region
  chosen_stays before [] region h = h
  chosen_stays before (r ∷ rest) region h = by_choice
      (λ b. Contains (chosen_after s objects (with_next before r b) rest) region)
      (is_chosen s objects before r)
      (λ is. chosen_stays (before ++ r.region ∷ []) rest region (Contains-append_left before (r.region ∷ []) region h))
      (λ not_chosen. chosen_stays before rest region h)

  is_chosen-empty : (before : List ℕ) (r : RegionLive) → r.words ≡ 0 → r.words ≡ words_of (objects_in objects r.region) → fits s (objects_in_all objects before) ≡ true → is_chosen s objects before r ≡ true
  is_chosen-empty before r empty words h =
      let none : objects_in objects r.region ≡ [] = no_words (objects_in objects r.region) (sym words ∙ empty) in
      let same : objects_in_all objects (before ++ r.region ∷ []) ≡ objects_in_all objects before = flat_map-append (objects_in objects) before (r.region ∷ []) ∙ (ap (λ own. objects_in_all objects before ++ (own ++ [])) none ∙ append-nil (objects_in_all objects before)) in
      let few : nat_le r.words 32 ≡ true = rw empty refl in
      ap (λ b. b && fits s (objects_in_all objects (before ++ r.region ∷ []))) few ∙ (ap (fits s) same ∙ h)

  -- and have among them each without live words
  pub empty_chosen : (before : List ℕ) (rows : List RegionLive) → fits s (objects_in_all objects before) ≡ true → All (λ r. r.words ≡ words_of (objects_in objects r.region)) rows → All (λ r. r.words ≡ 0 → Contains (chosen_after s objects before rows) r.region) rows
  empty_chosen before [] h words = All-nil (λ r. r.words ≡ 0 → Contains before r.region)
  empty_chosen before (r ∷ rest) h words = by_choice
      (λ b. All (λ q. q.words ≡ 0 → Contains (chosen_after s objects (with_next before r b) rest) q.region) (r ∷ rest))
      (is_chosen s objects before r)
      (λ is. All-cons (λ q. q.words ≡ 0 → Contains (chosen_after s objects (before ++ r.region ∷ []) rest) q.region) r rest
      (λ empty. chosen_stays (before ++ r.region ∷ []) rest r.region (Contains-push before r.region))
      (empty_chosen (before ++ r.region ∷ []) rest (last_of (nat_le r.words 32) (fits s (objects_in_all objects (before ++ r.region ∷ []))) is) (All-tail (λ r. r.words ≡ words_of (objects_in objects r.region)) r rest words)))
      (λ not_chosen. All-cons (λ q. q.words ≡ 0 → Contains (chosen_after s objects before rest) q.region) r rest
      (λ empty. let chosen : is_chosen s objects before r ≡ true = is_chosen-empty before r empty (All-head (λ r. r.words ≡ words_of (objects_in objects r.region)) r rest words) h in absurd (true-not-false (sym chosen ∙ not_chosen)))
      (empty_chosen before rest h (All-tail (λ r. r.words ≡ words_of (objects_in objects r.region)) r rest words)))

  -- what holds of the regions of all rows holds of those chosen
  pub chosen_all : (P : ℕ → Type 0) (before : List ℕ) (rows : List RegionLive) → All P before → All (λ r. P r.region) rows → All P (chosen_after s objects before rows)
  chosen_all P before [] all rows_all = all
  chosen_all P before (r ∷ rest) all rows_all = by_choice
      (λ b. All P (chosen_after s objects (with_next before r b) rest))
      (is_chosen s objects before r)
      (λ is. chosen_all P (before ++ r.region ∷ []) rest (All-push P before r.region all (All-head (λ r. P r.region) r rest rows_all)) (All-tail (λ r. P r.region) r rest rows_all))
      (λ not_chosen. chosen_all P before rest all (All-tail (λ r. P r.region) r rest rows_all))

not_stopless : (kind : Kind) → kind ≢ Stopless → is_stopless kind ≡ false
not_stopless Stopless other = absurd (other refl)
not_stopless AtRest other = refl
not_stopless Chicken other = refl
not_stopless Clover other = refl

rows_there : (rows : List RegionLive) → All (λ r. Any (λ q. q.region ≡ r.region) rows) rows
rows_there rows = λ k d below. (k, get_or rows k d, below, get_or_default rows k (get_or rows k d) d below, refl)

-- what every plan means
module _ (s : Space) (rows : List RegionLive) (objects : List ObjectRow) (space : IsSpace s) (found : IsFound s.layout rows objects) where
  -- the chosen regions, and their objects
  abbrev regions : List ℕ
  regions = chosen_after s objects [] rows

  abbrev moved : List ObjectRow
  moved = objects_in_all objects (chosen_after s objects [] rows)

  all_fits : (strip_after 0 moved ≤ 64 * length s.pool_free) × (is_stopless s.kind ≡ true → words_of moved ≤ s.wide_free)
  all_fits =
      fits-parts (strip_after 0 moved) (64 * length s.pool_free) (words_of moved) s.wide_free (is_stopless s.kind)
      (chosen_fits s objects [] rows (none_fits (64 * length s.pool_free) s.wide_free (is_stopless s.kind)))

  all_lens : All (λ o. o.len ≤ 30) moved
  all_lens = all_in (λ o. o.len ≤ 30) objects regions (All-weaker (IsLying s.layout) (λ o. o.len ≤ 30) (λ o lies. lies.len) objects found.lie)

  regions_rise : AllPairs (λ a b. a < b) regions
  regions_rise = chosen_rise s objects [] rows (λ i j d before below. absurd (omega arith)) (All-nil (λ a. All (λ r. a < r.region) rows)) found.regions_rise

  pub plan-empties : EmptiesChosen rows objects (plan_of s rows objects)
  plan-empties = record {
    rise = regions_rise;
    filled = chosen_all s objects (λ region. Any (λ r. r.region ≡ region) rows) [] rows (All-nil (λ region. Any (λ r. r.region ≡ region) rows)) (rows_there rows);
    empty = empty_chosen s objects [] rows (none_fits (64 * length s.pool_free) s.wide_free (is_stopless s.kind)) found.words;
    each = jobs-move s 0 0 moved;
    own = jobs_own s objects regions 0 0 moved (all_in (Contains objects) objects regions (All-contains_itself objects)) (regions_in objects (Contains regions) regions (All-contains_itself regions));
    every = λ k d below in_region. jobs_every s 0 0 moved (get_or objects k d) (contains_in objects regions (get_or objects k d) (Contains-get_or objects k d below) in_region);
    once = jobs_rise s 0 0 moved (rise_in s.layout objects regions found.lie found.objects_rise regions_rise);
  }

  pub plan-copies : AreCopiesApart s (plan_of s rows objects).jobs
  plan-copies = copies_apart s space.pool_rises 0 0 moved all_lens all_fits.0

  few_targets : regions_begun (strip_after 0 moved) ≤ length s.pool_free
  few_targets = omega (arith, all_fits.0)

  long_targets : length (take (regions_begun (strip_after 0 moved)) s.pool_free) ≡ regions_begun (strip_after 0 moved)
  long_targets = length-take-le (regions_begun (strip_after 0 moved)) s.pool_free few_targets

  in_targets : (region k : ℕ) → k < regions_begun (strip_after 0 moved) → region ≡ get_or s.pool_free k 0 → Contains (take (regions_begun (strip_after 0 moved)) s.pool_free) region
  in_targets region k below is =
      subst (Contains (take (regions_begun (strip_after 0 moved)) s.pool_free)) (get_or-take (regions_begun (strip_after 0 moved)) s.pool_free k 0 below ∙ sym is)
      (Contains-get_or (take (regions_begun (strip_after 0 moved)) s.pool_free) k 0 (omega (arith, below, long_targets)))

  pub plan-targets : FillsTargets s (plan_of s rows objects)
  plan-targets = record {
    first = ap (λ n. take n s.pool_free) (sym long_targets);
    rise = pairs-take (λ a b. a < b) (regions_begun (strip_after 0 moved)) s.pool_free few_targets space.pool_rises;
    free = All-take (Contains s.pool_free) (regions_begun (strip_after 0 moved)) s.pool_free (All-contains_itself s.pool_free);
    into = All-weaker (λ j. (k : ℕ) × (k < regions_begun (strip_after 0 moved)) × (target_of s.layout j ≡ get_or s.pool_free k 0)) (λ j. Contains (take (regions_begun (strip_after 0 moved)) s.pool_free) (target_of s.layout j))
        (λ j is. in_targets (target_of s.layout j) is.0 is.1 is.2) (jobs_after s 0 0 moved) (into_begun s space.pool_rises (regions_begun (strip_after 0 moved)) 0 0 moved all_lens (omega arith));
    used = λ k d below.
        let within : k < regions_begun (strip_after 0 moved) = omega (arith, below, long_targets) in
        let here : get_or (take (regions_begun (strip_after 0 moved)) s.pool_free) k d ≡ get_or s.pool_free k 0 = get_or-take (regions_begun (strip_after 0 moved)) s.pool_free k d within ∙ get_or_default s.pool_free k d 0 (omega (arith, within, few_targets)) in
        subst (λ region. Any (λ j. target_of s.layout j ≡ region) (jobs_after s 0 0 moved)) (sym here) (begun_used s space.pool_rises k 0 0 moved all_lens (omega arith) within);
  }

  pub plan-laid : AreLaidInOrder s (plan_of s rows objects).jobs
  plan-laid ends free = laid_first s space.pool_rises ends moved free all_lens all_fits.0

  pub plan-wide : s.kind ≡ Stopless → AreWideLaid s (plan_of s rows objects)
  plan-wide stopless =
      let is : is_stopless s.kind ≡ true = rw stopless refl in
      let words : wide_words_of s moved ≡ words_of moved = ap (λ b. if b then words_of moved else 0) is in
      let within = wide_within s is (wide_words_of s moved) 0 0 moved (omega (arith, words)) in
      record {
        follow = subst (λ at. FollowFrom at (jobs_after s 0 0 moved)) (add-zero (wide_at s.layout)) (wide_follow s is 0 0 moved);
        words = words ∙ sym (jobs_words s 0 0 moved);
        fits = omega (arith, words, all_fits.1 is);
        begin = All-weaker (λ j. (wide_at s.layout ≤ j.wide) × (j.wide + j.len < wide_at s.layout + wide_words_of s moved)) (λ j. wide_at s.layout ≤ j.wide) (λ j both. both.0) (jobs_after s 0 0 moved) within;
        end = All-weaker (λ j. (wide_at s.layout ≤ j.wide) × (j.wide + j.len < wide_at s.layout + wide_words_of s moved)) (λ j. j.wide + j.len < wide_at s.layout + wide_words_of s moved) (λ j both. both.1) (jobs_after s 0 0 moved) within;
        apart = wide_apart s is 0 0 moved;
      }

  pub plan-narrow : s.kind ≢ Stopless → HasNoWide (plan_of s rows objects)
  plan-narrow other = record { none = wide_none s (not_stopless s.kind other) 0 0 moved; words = ap (λ b. if b then words_of moved else 0) (not_stopless s.kind other) }
