-- Each step of a walk keeps that what was noted fits its place.
use Rattle.std.proofs.Common.{◌≡◌, ◌≢◌, ℕ, ◌+◌, ◌<◌, ◌≤◌, ◌==◌, ◌&&◌, nat_lt, nat_le, min, IfSome, if◌then◌else◌, Bool, true, false, List, [], ◌∷◌, ◌++◌, Option, Some, None, refl, ap, sym, ◌∙◌, subst, arith, lit<}
use Rattle.std.specs.Prelude.{unwrap_or}
use Rattle.std.specs.List.{All, AllPairs}
use Rattle.std.proofs.lemmas.Bool.Decides.{nat_tests}
use Rattle.std.proofs.lemmas.List.Elements.{All-push, All-weaker, All-nil}
use Rattle.std.proofs.lemmas.List.Quantifiers.{all_pairs_push}
use Rattle.call_steps.specs.declared.step.Step.TheVariants.{Ended}
use Rattle.heap_words.specs.Layouts.{Sizes, IsLayout, IsRegion, regions_of, region_at, first_word}
use Rattle.heap_words.specs.PlaceLaws.{words_of-bound}
use Rattle.heap_words.specs.declared.limits.TheConstants.{ADDRESS_LIMIT, REGION_WORDS}
use Rattle.object_headers.specs.Headers.{IsHeader, header_of, header_at, absent}
use Rattle.object_headers.specs.declared.header.Header.{Header}
use Rattle.object_headers.specs.HeaderLaws.{header_of-fits}
use Rattle.space_reclaim.specs.declared.plan.RegionLive.{RegionLive}
use Rattle.space_reclaim.specs.declared.plan.ObjectRow.{ObjectRow}
use Rattle.space_reclaim.specs.Plans.{IsFound, IsLying}
use Rattle.live_walk.specs.declared.note.Walk.{Walk}
use Rattle.live_walk.specs.declared.note.NoteMachine.{NoteMachine}
use Rattle.live_walk.specs.declared.note.NoteMachine.TheVariants as note
use Rattle.live_walk.specs.Walks.{walk_of, word_of, first_of, address, row_at, object_at, region_at_end, begins, is_live_at, offset_after, goes_on, counted, counted_in, next_region, with_header, begun, asks_of, fed_of, finding_of}
use Rattle.live_walk.specs.Notes.{Notes, nothing_noted, with_one, noted_with}
use Rattle.live_walk.specs.Noting.{cursor_of, region_of, Walks, regions_so_far, IsNoting, CanBePlanned}
use Rattle.live_walk.proofs.Passing.{goes_parts, some_region}
use Rattle.live_walk.proofs.Found.{row, found_begun, found_more}

len_or : (o : Option Header) → IfSome o IsHeader → (unwrap_or o absent).len ≤ 30
len_or None fits = omega arith
len_or (Some h) fits = fits.len

-- no header says more than 30 fields
header_len : (word : ℕ) → (header_at word).len ≤ 30
unfolding header_at
header_len word = len_or (header_of word) (header_of-fits word)

both_true : (a b : Bool) → (a && b) ≡ true → (a ≡ true) × (b ≡ true)
both_true true b e = (refl, e)
both_true false b e = absurd cc

within_region : (object : Bool) (n : ℕ) → (object && nat_le n REGION_WORDS) ≡ true → n ≤ REGION_WORDS
within_region true n e = grind (arith, nat_tests, e)
within_region false n e = absurd cc

-- an object that begins ends in its region
pub begins_within : (offset word : ℕ) → begins offset word ≡ true → offset_after offset word ≤ REGION_WORDS
begins_within offset word e = within_region _ (offset_after offset word) e

-- a live one begins
pub live_begins : (offset word : ℕ) → is_live_at offset word ≡ true → begins offset word ≡ true
live_begins offset word e = (both_true (begins offset word) _ e).0

-- a region's word is where the walk takes it to be
pub word_place : (l : Sizes) (region : ℕ) → IsLayout l → region < regions_of l → word_of (walk_of l) region ≡ region_at l region
word_place l region fits inside = let most = words_of-bound l fits in omega (arith, most, inside)

-- a region's first word is where the walk takes it to be
pub first_place : (l : Sizes) (region : ℕ) → IsLayout l → first_of (walk_of l) region ≡ first_word l region
first_place l region fits = let most = words_of-bound l fits in omega (arith, most)

-- what is noted fits a machine that has come so far
module _ (m : NoteMachine) (n : Notes) (rows : List RegionLive) (cursor region : ℕ) where
  noting_as : Walks n.layout m → regions_so_far m n.live ≡ rows → cursor_of m ≡ cursor → region_of m ≡ region
      → IsFound n.layout rows n.objects → All (λ o. o.at + o.len < cursor) n.objects → All (λ r. r.region < region) n.live
      → AllPairs (λ a b. a < b) n.pool_free → All (λ k. k < n.layout.pool) n.pool_free → All (λ k. k < region) n.pool_free → IsNoting m n
  noting_as walks so_far at here found passed walked rises in_pool free = record {
    walks = walks;
    found = subst (λ r. IsFound n.layout r n.objects) (sym so_far) found;
    passed = subst (λ c. All (λ o. o.at + o.len < c) n.objects) (sym at) passed;
    walked = subst (λ k. All (λ r. r.region < k) n.live) (sym here) walked;
    pool_rises = rises;
    in_pool = in_pool;
    free_walked = subst (λ k. All (λ region. region < k) n.pool_free) (sym here) free;
  }

-- after a region it is at the next one, or has ended
pub record IsNext (l : Sizes) (m : NoteMachine) (region : ℕ) (rows : List RegionLive) : Type 0 where
  pub walks : Walks l m
  pub so_far : regions_so_far m rows ≡ rows
  pub cursor : cursor_of m ≡ first_of (walk_of l) (region + 1)
  pub here : region_of m ≡ region + 1

next_is : (l : Sizes) (region : ℕ) (rows : List RegionLive) → region < regions_of l → (b : Bool) → nat_lt (region + 1) (regions_of l) ≡ b → IsNext l (if b then note.Region (walk_of l) (region + 1) else note.Ended (walk_of l)) region rows
next_is l region rows inside true e = record { walks = (refl, grind (arith, nat_tests, e)); so_far = refl; cursor = refl; here = refl }
next_is l region rows inside false e =
    let last : regions_of l ≡ region + 1 = grind (arith, nat_tests, e, inside) in
    record { walks = refl; so_far = refl; cursor = ap (first_of (walk_of l)) last; here = last }

module _ (n : Notes) (region : ℕ) (inside : region < regions_of n.layout) where
  l : Sizes
  l = n.layout

  -- ---- at a region word

  free_kept : (pool : List ℕ) → IsNoting (note.Region (walk_of n.layout) region) n → AllPairs (λ a b. a < b) pool → All (λ k. k < n.layout.pool) pool → All (λ k. k < region + 1) pool
      → IsNoting (next_region (walk_of n.layout) region) (record { layout = n.layout; live = n.live; objects = n.objects; pool_free = pool })
  free_kept pool is rises in_pool free =
      let next = next_is n.layout region n.live inside (nat_lt (region + 1) (regions_of n.layout)) refl in
      noting_as (next_region (walk_of n.layout) region) (record { layout = n.layout; live = n.live; objects = n.objects; pool_free = pool }) n.live (first_of (walk_of n.layout) (region + 1)) (region + 1) next.walks next.so_far next.cursor next.here
      is.found
      (All-weaker (λ o. o.at + o.len < first_of (walk_of n.layout) region) (λ o. o.at + o.len < first_of (walk_of n.layout) (region + 1)) (λ o low. omega (arith, low)) n.objects is.passed)
      (All-weaker (λ r. r.region < region) (λ r. r.region < region + 1) (λ r low. omega (arith, low)) n.live is.walked)
      rises in_pool free

  later_free : All (λ k. k < region) n.pool_free → All (λ k. k < region + 1) n.pool_free
  later_free free = All-weaker (λ k. k < region) (λ k. k < region + 1) (λ k low. omega (arith, low)) n.pool_free free

  pool_kept : IsNoting (note.Region (walk_of n.layout) region) n → (b : Bool) → nat_lt region n.layout.pool ≡ b
      → IsNoting (next_region (walk_of n.layout) region) (record { layout = n.layout; live = n.live; objects = n.objects; pool_free = with_one n.pool_free (if b then Some region else None) })
  pool_kept is true e =
      free_kept (n.pool_free ++ region ∷ []) is
      (all_pairs_push (λ a b. a < b) n.pool_free region is.pool_rises (λ k d within. is.free_walked k d within))
      (All-push (λ k. k < n.layout.pool) n.pool_free region is.in_pool (grind (arith, nat_tests, e)))
      (All-push (λ k. k < region + 1) n.pool_free region (later_free is.free_walked) (omega arith))
  pool_kept is false e = free_kept n.pool_free is is.pool_rises is.in_pool (later_free is.free_walked)

  begun_kept : IsLayout n.layout → IsNoting (note.Region (walk_of n.layout) region) n → (filled : Bool) → IsNoting (note.Header (walk_of n.layout) region 0 (if filled then Some 0 else None)) n
  begun_kept fits is true =
      let place : first_of (walk_of n.layout) region ≡ first_word n.layout region = first_place n.layout region fits in
      noting_as (note.Header (walk_of n.layout) region 0 (Some 0)) n (n.live ++ row region 0 ∷ []) (first_of (walk_of n.layout) region) region (refl, inside, lit< tt, omega arith) refl (omega arith) refl
      (found_begun n.layout n.live n.objects region is.found inside is.walked (subst (λ c. All (λ o. o.at + o.len < c) n.objects) place is.passed))
      is.passed is.walked is.pool_rises is.in_pool is.free_walked
  begun_kept fits is false =
      noting_as (note.Header (walk_of n.layout) region 0 None) n n.live (first_of (walk_of n.layout) region) region (refl, inside, lit< tt, tt) refl (omega arith) refl
      is.found is.passed is.walked is.pool_rises is.in_pool is.free_walked

  -- the step at a region word
  region_kept : IsLayout n.layout → IsNoting (note.Region (walk_of n.layout) region) n → (free : Bool) (filled : Bool)
      → IsNoting (if free then next_region (walk_of n.layout) region else note.Header (walk_of n.layout) region 0 (if filled then Some 0 else None))
      (noted_with n (record { free = (if free && nat_lt region n.layout.pool then Some region else None); object = None; region = None }))
  region_kept fits is true filled = pool_kept is (nat_lt region n.layout.pool) refl
  region_kept fits is false filled = begun_kept fits is filled

  -- ---- at a header

  module _ (offset word : ℕ) (below : offset < REGION_WORDS) where
    passed_on : (at : ℕ) (objects : List ObjectRow) → address (walk_of n.layout) region offset ≤ at → All (λ o. o.at + o.len < address (walk_of n.layout) region offset) objects → All (λ o. o.at + o.len < at) objects
    passed_on at objects up passed = All-weaker (λ o. o.at + o.len < address (walk_of n.layout) region offset) (λ o. o.at + o.len < at) (λ o low. omega (arith, low, up)) objects passed

    -- in a region that was not Filled nothing is noted
    unfilled_kept : IsNoting (note.Header (walk_of n.layout) region offset None) n → (goes : Bool) → goes_on offset word ≡ goes
        → IsNoting (if goes then note.Header (walk_of n.layout) region (offset_after offset word) None else next_region (walk_of n.layout) region) n
    unfilled_kept is true e =
        let both = goes_parts offset word e in
        noting_as (note.Header (walk_of n.layout) region (offset_after offset word) None) n n.live (address (walk_of n.layout) region (offset_after offset word)) region (refl, inside, both.1, tt) refl refl refl
        is.found (passed_on (address (walk_of n.layout) region (offset_after offset word)) n.objects (omega arith) is.passed) is.walked is.pool_rises is.in_pool is.free_walked
    unfilled_kept is false e =
        let next = next_is n.layout region n.live inside (nat_lt (region + 1) (regions_of n.layout)) refl in
        noting_as (next_region (walk_of n.layout) region) n n.live (first_of (walk_of n.layout) (region + 1)) (region + 1) next.walks next.so_far next.cursor next.here
        is.found (passed_on (first_of (walk_of n.layout) (region + 1)) n.objects (omega (arith, below)) is.passed)
        (All-weaker (λ r. r.region < region) (λ r. r.region < region + 1) (λ r low. omega (arith, low)) n.live is.walked)
        is.pool_rises is.in_pool (later_free is.free_walked)

    module _ (live : ℕ) (fits : IsLayout n.layout) (is : IsNoting (note.Header (walk_of n.layout) region offset (Some live)) n) where
      -- the objects with the one that begins here, if it is live
      with_object : List ObjectRow
      with_object = with_one n.objects (object_at (walk_of n.layout) region offset word)

      counts : live ≤ offset
      counts = is.walks.3

      record IsCounted (objects : List ObjectRow) (count : ℕ) : Type 0 where
        found : IsFound n.layout (n.live ++ row region count ∷ []) objects
        passed : All (λ o. o.at + o.len < address (walk_of n.layout) region (offset_after offset word)) objects
        within : All (λ o. o.at + o.len < first_of (walk_of n.layout) (region + 1)) objects
        few : count ≤ offset_after offset word

      lies : begins offset word ≡ true → IsLying n.layout (row_at (walk_of n.layout) region offset word)
      lies there =
          let place : first_of (walk_of n.layout) region ≡ first_word n.layout region = first_place n.layout region fits in
          let len : (let h = header_at word in h.len) ≤ 30 = header_len word in
          let ends : offset_after offset word ≤ REGION_WORDS = begins_within offset word there in
          record { region = inside; len = len; begins = omega (arith, place); ends = omega (arith, place, ends) }

      counted_is : (b : Bool) → is_live_at offset word ≡ b → IsCounted (with_one n.objects (if b then Some (row_at (walk_of n.layout) region offset word) else None)) (let h = header_at word in if b then min live REGION_WORDS + h.len + 1 else live)
      counted_is true e =
          let there : begins offset word ≡ true = live_begins offset word e in
          let small : min live REGION_WORDS ≡ live = omega (arith, counts, below) in
          let o : ObjectRow = row_at (walk_of n.layout) region offset word in
          let found = found_more n.layout n.live n.objects region live (row_at (walk_of n.layout) region offset word) is.found is.walked (lies there) refl is.passed in
          record {
            found = subst (λ k. IsFound n.layout (n.live ++ row region k ∷ []) (n.objects ++ o ∷ [])) (ap (λ k. k + (let h = header_at word in h.len) + 1) (sym small)) found;
            passed = All-push (λ p. p.at + p.len < address (walk_of n.layout) region (offset_after offset word)) n.objects o (passed_on (address (walk_of n.layout) region (offset_after offset word)) n.objects (omega arith) is.passed) (omega arith);
            within =
                let ends : offset_after offset word ≤ REGION_WORDS = begins_within offset word there in
                All-push (λ p. p.at + p.len < first_of (walk_of n.layout) (region + 1)) n.objects o (passed_on (first_of (walk_of n.layout) (region + 1)) n.objects (omega (arith, below)) is.passed) (omega (arith, ends));
            few = omega (arith, counts, small);
          }
      counted_is false e = record {
        found = is.found;
        passed = passed_on (address (walk_of n.layout) region (offset_after offset word)) n.objects (omega arith) is.passed;
        within = passed_on (first_of (walk_of n.layout) (region + 1)) n.objects (omega (arith, below)) is.passed;
        few = omega (arith, counts);
      }

      header_kept : (objects : List ObjectRow) (count : ℕ) → IsCounted objects count → (goes : Bool) → goes_on offset word ≡ goes
          → IsNoting (if goes then note.Header (walk_of n.layout) region (offset_after offset word) (Some count) else next_region (walk_of n.layout) region)
          (record { layout = n.layout; live = with_one n.live (if goes then None else Some (row region count)); objects = objects; pool_free = n.pool_free })
      header_kept objects count all true e =
          let both = goes_parts offset word e in
          noting_as (note.Header (walk_of n.layout) region (offset_after offset word) (Some count)) (record { layout = n.layout; live = n.live; objects = objects; pool_free = n.pool_free }) (n.live ++ row region count ∷ []) (address (walk_of n.layout) region (offset_after offset word)) region (refl, inside, both.1, all.few) refl refl refl
          all.found all.passed is.walked is.pool_rises is.in_pool is.free_walked
      header_kept objects count all false e =
          let next = next_is n.layout region (n.live ++ row region count ∷ []) inside (nat_lt (region + 1) (regions_of n.layout)) refl in
          noting_as (next_region (walk_of n.layout) region) (record { layout = n.layout; live = n.live ++ row region count ∷ []; objects = objects; pool_free = n.pool_free }) (n.live ++ row region count ∷ []) (first_of (walk_of n.layout) (region + 1)) (region + 1) next.walks next.so_far next.cursor next.here
          all.found all.within
          (All-push (λ r. r.region < region + 1) n.live (row region count) (All-weaker (λ r. r.region < region) (λ r. r.region < region + 1) (λ r low. omega (arith, low)) n.live is.walked) (omega arith))
          is.pool_rises is.in_pool (later_free is.free_walked)

-- so what was noted fits the machine after each step, whatever word it finds
pub noting_kept : (m : NoteMachine) (n : Notes) (word : ℕ) → IsLayout n.layout → asks_of m ≢ Ended → IsNoting m n → IsNoting (fed_of m word) (noted_with n (finding_of m word))
noting_kept (note.Region w region) n word fits on is = by w is.walks.0 is
  where
    by : (x : Walk) → x ≡ walk_of n.layout → IsNoting (note.Region x region) n → IsNoting (fed_of (note.Region x region) word) (noted_with n (finding_of (note.Region x region) word))
    by x same here = subst (λ y. IsNoting (note.Region y region) n → IsNoting (fed_of (note.Region y region) word) (noted_with n (finding_of (note.Region y region) word))) (sym same)
        (λ own. region_kept n region own.walks.1 fits own (word == 0) (word == 2)) here
noting_kept (note.Header w region offset None) n word fits on is = by w is.walks.0 is
  where
    by : (x : Walk) → x ≡ walk_of n.layout → IsNoting (note.Header x region offset None) n → IsNoting (fed_of (note.Header x region offset None) word) (noted_with n (finding_of (note.Header x region offset None) word))
    by x same here = subst (λ y. IsNoting (note.Header y region offset None) n → IsNoting (fed_of (note.Header y region offset None) word) (noted_with n (finding_of (note.Header y region offset None) word))) (sym same)
        (λ own. unfilled_kept n region own.walks.1 offset word own.walks.2 own (goes_on offset word) refl) here
noting_kept (note.Header w region offset (Some live)) n word fits on is = by w is.walks.0 is
  where
    by : (x : Walk) → x ≡ walk_of n.layout → IsNoting (note.Header x region offset (Some live)) n → IsNoting (fed_of (note.Header x region offset (Some live)) word) (noted_with n (finding_of (note.Header x region offset (Some live)) word))
    by x same here = subst (λ y. IsNoting (note.Header y region offset (Some live)) n → IsNoting (fed_of (note.Header y region offset (Some live)) word) (noted_with n (finding_of (note.Header y region offset (Some live)) word))) (sym same)
        (λ own. header_kept n region own.walks.1 offset word own.walks.2 live fits own _ _ (counted_is n region own.walks.1 offset word own.walks.2 live fits own (is_live_at offset word) refl) (goes_on offset word) refl) here
noting_kept (note.Ended w) n word fits on is = absurd (on refl)

-- at the end a plan can be made from what was noted
pub noted_planned : (m : NoteMachine) (n : Notes) → asks_of m ≡ Ended → IsNoting m n → CanBePlanned n
noted_planned (note.Region w region) n ended is = absurd cc
noted_planned (note.Header w region offset live) n ended is = absurd cc
noted_planned (note.Ended w) n ended is = record {
  found = is.found;
  space = λ wide_free kind fits. record { pool_rises = is.pool_rises; in_pool = is.in_pool; wide = fits };
}

-- nothing was noted before the first region
pub noting_begins : (l : Sizes) → IsLayout l → IsNoting (begun l) (nothing_noted l)
noting_begins l fits = record {
  walks = (refl, some_region l fits);
  found = record {
    regions_rise = λ i j d before below. absurd (omega arith);
    are_regions = All-nil (λ r. IsRegion l r.region);
    objects_rise = λ i j d before below. absurd (omega arith);
    lie = All-nil (IsLying l);
    have_rows = λ k d below. absurd (omega arith);
    words = λ k d below. absurd (omega arith);
  };
  passed = λ k d below. absurd (omega arith);
  walked = λ k d below. absurd (omega arith);
  pool_rises = λ i j d before below. absurd (omega arith);
  in_pool = λ k d below. absurd (omega arith);
  free_walked = λ k d below. absurd (omega arith);
}
