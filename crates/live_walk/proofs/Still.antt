-- Alone on words a walk notes exactly what they have.
use Rattle.std.specs.Prelude.{map, slice_index}
use Rattle.std.proofs.Common.{◌≡◌, ◌≢◌, ℕ, zero, suc, ◌+◌, ◌-◌, ◌*◌, ◌<◌, ◌≤◌, ◌==◌, ◌&&◌, nat_lt, nat_le, min, if◌then◌else◌, Bool, true, false, List, [], ◌∷◌, ◌++◌, Option, Some, None, refl, ap, sym, ◌∙◌, subst, append_assoc, append-nil, add-zero, zero-add, add-one, arith, lit<}
use Rattle.std.specs.List.{filter, flat_map, range_with_len}
use Rattle.std.proofs.lemmas.Bool.Decides.{nat_tests}
use Rattle.std.proofs.lemmas.List.{map-append, set-get_or}
use Rattle.std.proofs.lemmas.List.Elements.{filter-append}
use Rattle.std.proofs.lemmas.Grind.{flat_map-append}
use Rattle.call_steps.specs.declared.step.Step.TheVariants.{Ended}
use Rattle.call_steps.specs.Chains.{along}
use Rattle.call_steps.specs.Steps.{found_by, applied}
use Rattle.call_steps.specs.Alone.{StepsOnce, RunsAlone}
use Rattle.heap_words.specs.Layouts.{Sizes, IsLayout, regions_of, region_at, first_word}
use Rattle.heap_words.specs.declared.limits.TheConstants.{ADDRESS_LIMIT, REGION_WORDS}
use Rattle.space_reclaim.specs.declared.plan.RegionLive.{RegionLive}
use Rattle.space_reclaim.specs.declared.plan.ObjectRow.{ObjectRow}
use Rattle.space_reclaim.specs.Plans.{words_of}
use Rattle.space_reclaim.proofs.plans.Strip.{words_of-append, words_of-cons}
use Rattle.live_walk.specs.declared.note.Walk.{Walk}
use Rattle.live_walk.specs.declared.note.NoteMachine.{NoteMachine}
use Rattle.live_walk.specs.declared.note.NoteMachine.TheVariants as note
use Rattle.live_walk.specs.Walks.{walk_of, word_of, first_of, address, row_at, object_at, begins, is_live_at, offset_after, goes_on, counted, counted_in, next_region, with_header, begun, asks_of, fed_of, finding_of}
use Rattle.live_walk.specs.Notes.{Notes, nothing_noted, with_one, noted_with}
use Rattle.live_walk.specs.StillWords.{word_in, live_at, live_from, live_in, filled_in, free_in, notes_of, Noting, noting, noting_asks, noting_fed, NotesWhatIsLive}
use Rattle.live_walk.proofs.Found.{row}
use Rattle.live_walk.proofs.Keeping.{word_place, first_place}
use Rattle.live_walk.proofs.Rooms.{same_notes}
use Rattle.live_walk.proofs.Passing.{goes_parts, ends_full, some_region}

-- with one more number
range_on : (a n : ℕ) → range_with_len a (suc n) ≡ range_with_len a n ++ (a + n) ∷ []
range_on a zero = ap (λ b. b ∷ []) (sym (add-zero a))
range_on a (suc n) =
    let next : a + 1 + n ≡ a + suc n = omega arith in
    ap (λ xs. a ∷ xs) (range_on (a + 1) n ∙ ap (λ b. range_with_len (a + 1) n ++ b ∷ []) next)

range_more : (n : ℕ) → range_with_len 0 (n + 1) ≡ range_with_len 0 n ++ n ∷ []
range_more n = ap (range_with_len 0) (add-one n) ∙ (range_on 0 n ∙ ap (λ b. range_with_len 0 n ++ b ∷ []) (zero-add n))

filter_more_true : (p : ℕ → Bool) (n : ℕ) → p n ≡ true → filter p (range_with_len 0 (n + 1)) ≡ filter p (range_with_len 0 n) ++ n ∷ []
filter_more_true p n is = ap (filter p) (range_more n) ∙ (filter-append p (range_with_len 0 n) (n ∷ []) ∙ (rw is refl))

filter_more_false : (p : ℕ → Bool) (n : ℕ) → p n ≡ false → filter p (range_with_len 0 (n + 1)) ≡ filter p (range_with_len 0 n)
filter_more_false p n is = ap (filter p) (range_more n) ∙ (filter-append p (range_with_len 0 n) (n ∷ []) ∙ (rw is (append-nil (filter p (range_with_len 0 n)))))

is_two : (n : ℕ) → (n == 0) ≡ true → (n == 2) ≡ false
is_two n zero_is = grind (arith, nat_tests, zero_is)

module _ (l : Sizes) (fits : IsLayout l) (words : List ℕ) where
  -- the word of a region
  abbrev use_of : ℕ → ℕ
  use_of region = slice_index words (region_at l region)

  abbrev is_filled : ℕ → Bool
  is_filled region = use_of region == 2

  abbrev is_free : ℕ → Bool
  is_free region = use_of region == 0

  abbrev row_in : ℕ → RegionLive
  row_in region = row region (words_of (live_in l words region))

  -- the Filled regions below one
  abbrev filled_to : ℕ → List ℕ
  filled_to n = filter (λ region. use_of region == 2) (range_with_len 0 n)

  abbrev objects_to : ℕ → List ObjectRow
  objects_to n = flat_map (live_in l words) (filled_to n)

  abbrev free_to : ℕ → List ℕ
  free_to n = filter (λ region. use_of region == 0) (range_with_len 0 (min n l.pool))

  -- what is to be noted of the regions below one is noted
  record IsNotedTo (n : ℕ) (k : Notes) : Type 0 where
    layout : k.layout ≡ l
    live : k.live ≡ map row_in (filled_to n)
    objects : k.objects ≡ objects_to n
    pool_free : k.pool_free ≡ free_to n

  -- the objects of a region from an offset on are left to note
  abbrev IsRest : ℕ → ℕ → Option ℕ → List ObjectRow → Type 0
  IsRest region offset None objects = ((use_of region == 2) ≡ false) × (objects ≡ objects_to (region + 1))
  IsRest region offset (Some live) objects =
      ((use_of region == 2) ≡ true)
      × (objects ++ live_from l words region (64 - offset) offset ≡ objects_to (region + 1))
      × (live + words_of (live_from l words region (64 - offset) offset) ≡ words_of (live_in l words region))
      × (live ≤ offset)

  record IsNotedIn (region offset : ℕ) (count : Option ℕ) (k : Notes) : Type 0 where
    layout : k.layout ≡ l
    live : k.live ≡ map row_in (filled_to region)
    pool_free : k.pool_free ≡ free_to (region + 1)
    rest : IsRest region offset count k.objects

  -- what is to be noted before the place of the walk is noted
  abbrev UpTo : NoteMachine → Notes → Type 0
  UpTo (note.Region w region) k = (w ≡ walk_of l) × (region < regions_of l) × IsNotedTo region k
  UpTo (note.Header w region offset live) k = (w ≡ walk_of l) × (region < regions_of l) × (offset < 64) × IsNotedIn region offset live k
  UpTo (note.Ended w) k = IsNotedTo (regions_of l) k

  -- ---- lists with one more region

  filled_with : (region : ℕ) → (use_of region == 2) ≡ true → filled_to (region + 1) ≡ filled_to region ++ region ∷ []
  filled_with region is = filter_more_true (λ region. use_of region == 2) region is

  filled_same : (region : ℕ) → (use_of region == 2) ≡ false → filled_to (region + 1) ≡ filled_to region
  filled_same region is = filter_more_false (λ region. use_of region == 2) region is

  rows_with : (region : ℕ) → (use_of region == 2) ≡ true → map row_in (filled_to (region + 1)) ≡ map row_in (filled_to region) ++ row_in region ∷ []
  rows_with region is = ap (map row_in) (filled_with region is) ∙ map-append row_in (filled_to region) (region ∷ [])

  objects_with : (region : ℕ) → (use_of region == 2) ≡ true → objects_to (region + 1) ≡ objects_to region ++ live_in l words region
  objects_with region is =
      ap (flat_map (live_in l words)) (filled_with region is)
      ∙ (flat_map-append (live_in l words) (filled_to region) (region ∷ []) ∙ ap (λ xs. objects_to region ++ xs) (append-nil (live_in l words region)))

  free_past : (region : ℕ) → l.pool ≤ region → free_to (region + 1) ≡ free_to region
  free_past region past =
      let same : min (region + 1) l.pool ≡ min region l.pool = omega (arith, past) in
      ap (λ n. filter (λ region. use_of region == 0) (range_with_len 0 n)) same

  free_at : (region : ℕ) → region < l.pool → (min (region + 1) l.pool ≡ region + 1) × (min region l.pool ≡ region)
  free_at region below = (omega (arith, below), omega (arith, below))

  free_with : (region : ℕ) → (use_of region == 0) ≡ true → (b : Bool) → nat_lt region l.pool ≡ b → with_one (free_to region) (if b then Some region else None) ≡ free_to (region + 1)
  free_with region is true e =
      let at = free_at region (grind (arith, nat_tests, e)) in
      rw (at.0, at.1) (sym (filter_more_true (λ region. use_of region == 0) region is))
  free_with region is false e = sym (free_past region (grind (arith, nat_tests, e)))

  free_same : (region : ℕ) → (use_of region == 0) ≡ false → (b : Bool) → nat_lt region l.pool ≡ b → free_to (region + 1) ≡ free_to region
  free_same region is true e =
      let at = free_at region (grind (arith, nat_tests, e)) in
      rw (at.0, at.1) (filter_more_false (λ region. use_of region == 0) region is)
  free_same region is false e = free_past region (grind (arith, nat_tests, e))

  -- ---- at a region word

  next_noted : (region : ℕ) (k : Notes) → region < regions_of l → IsNotedTo (region + 1) k → (b : Bool) → nat_lt (region + 1) (regions_of l) ≡ b → UpTo (if b then note.Region (walk_of l) (region + 1) else note.Ended (walk_of l)) k
  next_noted region k inside is true e = (refl, grind (arith, nat_tests, e), is)
  next_noted region k inside is false e =
      let last : region + 1 ≡ regions_of l = grind (arith, nat_tests, e, inside) in
      subst (λ n. IsNotedTo n k) last is

  module _ (region : ℕ) (k : Notes) (inside : region < regions_of l) where
    free_noted : (use_of region == 0) ≡ true → IsNotedTo region k → UpTo (next_region (walk_of l) region) (record { layout = k.layout; live = k.live; objects = k.objects; pool_free = with_one k.pool_free (if nat_lt region l.pool then Some region else None) })
    free_noted free is =
        let other : (use_of region == 2) ≡ false = is_two (use_of region) free in
        next_noted region (record { layout = k.layout; live = k.live; objects = k.objects; pool_free = with_one k.pool_free (if nat_lt region l.pool then Some region else None) }) inside
        (record {
          layout = is.layout;
          live = is.live ∙ ap (map row_in) (sym (filled_same region other));
          objects = is.objects ∙ ap (flat_map (live_in l words)) (sym (filled_same region other));
          pool_free = ap (λ xs. with_one xs (if nat_lt region l.pool then Some region else None)) is.pool_free ∙ free_with region free (nat_lt region l.pool) refl;
        })
        (nat_lt (region + 1) (regions_of l)) refl

    begun_noted : (use_of region == 0) ≡ false → IsNotedTo region k → (b : Bool) → (use_of region == 2) ≡ b → UpTo (note.Header (walk_of l) region 0 (if b then Some 0 else None)) k
    begun_noted used is true e = (
      refl,
      inside,
      lit< tt,
      record {
        layout = is.layout;
        live = is.live;
        pool_free = is.pool_free ∙ sym (free_same region used (nat_lt region l.pool) refl);
        rest = (e, ap (λ xs. xs ++ live_in l words region) is.objects ∙ sym (objects_with region e), zero-add (words_of (live_in l words region)), omega arith);
      },
    )
    begun_noted used is false e = (
      refl,
      inside,
      lit< tt,
      record {
        layout = is.layout;
        live = is.live;
        pool_free = is.pool_free ∙ sym (free_same region used (nat_lt region l.pool) refl);
        rest = (e, is.objects ∙ ap (flat_map (live_in l words)) (sym (filled_same region e)));
      },
    )

    region_noted : (free : Bool) → (use_of region == 0) ≡ free → IsNotedTo region k
        → UpTo (if free then next_region (walk_of l) region else note.Header (walk_of l) region 0 (if use_of region == 2 then Some 0 else None))
        (noted_with k (record { free = (if free && nat_lt region l.pool then Some region else None); object = None; region = None }))
    region_noted true e is = free_noted e is
    region_noted false e is = begun_noted e is (use_of region == 2) refl

  -- ---- at a header

  -- no object begins past the end
  over_at : (region offset : ℕ) → 64 ≤ offset → begins offset (word_in l words region offset) ≡ false
  over_at region offset past = over _ (offset_after offset (word_in l words region offset)) (omega (arith, past))
    where
      over : (object : Bool) (n : ℕ) → 64 < n → (object && nat_le n 64) ≡ false
      over true n past = grind (arith, nat_tests, past)
      over false n past = refl

  none_from : (region n offset : ℕ) → begins offset (word_in l words region offset) ≡ false → live_from l words region n offset ≡ []
  unfolding live_from
  none_from region zero offset is = refl
  none_from region (suc n) offset is = rw is refl

  more_when : (b : Bool) (here some same : List ObjectRow) → some ≡ same → (if b then here ++ some else []) ≡ (if b then here ++ same else [])
  more_when true here some same is = ap (λ xs. here ++ xs) is
  more_when false here some same is = refl

  when_true : (b : Bool) (xs : List ObjectRow) → b ≡ true → (if b then xs else []) ≡ xs
  when_true true xs is = refl
  when_true false xs is = absurd cc

  -- there are no more objects than words
  enough_from : (region n m offset : ℕ) → 64 ≤ offset + n → 64 ≤ offset + m → live_from l words region n offset ≡ live_from l words region m offset
  unfolding live_from
  enough_from region zero m offset few many = sym (none_from region m offset (over_at region offset (omega arith)))
  enough_from region (suc n) zero offset few many = none_from region (suc n) offset (over_at region offset (omega arith))
  enough_from region (suc n) (suc m) offset few many =
      more_when (begins offset (word_in l words region offset)) (live_at l words region offset) _ _
      (enough_from region n m (offset_after offset (word_in l words region offset)) (omega arith) (omega arith))

  one_from : (region n offset : ℕ) → 64 ≤ offset + suc n → begins offset (word_in l words region offset) ≡ true
      → live_from l words region (suc n) offset ≡ live_at l words region offset ++ live_from l words region (64 - offset_after offset (word_in l words region offset)) (offset_after offset (word_in l words region offset))
  unfolding live_from
  one_from region n offset few there =
      when_true (begins offset (word_in l words region offset)) _ there ∙ (ap (λ xs. live_at l words region offset ++ xs) (enough_from region n (64 - offset_after offset (word_in l words region offset)) (offset_after offset (word_in l words region offset)) (omega (arith, few)) (omega arith)))

  -- the object at an offset, and then those after it
  more_from : (region offset : ℕ) → offset < 64 → begins offset (word_in l words region offset) ≡ true
      → live_from l words region (64 - offset) offset ≡ live_at l words region offset ++ live_from l words region (64 - offset_after offset (word_in l words region offset)) (offset_after offset (word_in l words region offset))
  more_from region offset below there =
      let left : 64 - offset ≡ suc (63 - offset) = omega (arith, below) in
      ap (λ n. live_from l words region n offset) left ∙ one_from region (63 - offset) offset (omega (arith, below)) there

  -- the objects after the one at an offset, if one begins there
  abbrev left_after : ℕ → ℕ → Bool → List ObjectRow
  left_after region offset b = if b then live_from l words region (64 - offset_after offset (word_in l words region offset)) (offset_after offset (word_in l words region offset)) else []

  dead_when : (b live : Bool) (o : ObjectRow) → b ≡ false → (if b && live then o ∷ [] else []) ≡ []
  dead_when true live o is = absurd cc
  dead_when false live o is = refl

  parted : (region offset : ℕ) → offset < 64 → (b : Bool) → begins offset (word_in l words region offset) ≡ b → live_from l words region (64 - offset) offset ≡ live_at l words region offset ++ left_after region offset b
  parted region offset below true e = more_from region offset below e
  parted region offset below false e =
      none_from region (64 - offset) offset e
      ∙ sym (append-nil (live_at l words region offset) ∙ dead_when (begins offset (word_in l words region offset)) _ (row_at (walk_of l) region offset (word_in l words region offset)) e)

  -- at the end of a region nothing is left
  left_none : (region offset : ℕ) → goes_on offset (word_in l words region offset) ≡ false → (b : Bool) → begins offset (word_in l words region offset) ≡ b → left_after region offset b ≡ []
  left_none region offset ends true e =
      let full : offset_after offset (word_in l words region offset) ≡ REGION_WORDS = ends_full offset (word_in l words region offset) e ends in
      none_from region (64 - offset_after offset (word_in l words region offset)) (offset_after offset (word_in l words region offset)) (over_at region (offset_after offset (word_in l words region offset)) (omega (arith, full)))
  left_none region offset ends false e = refl

  with_live : (b : Bool) (o : ObjectRow) (xs : List ObjectRow) → with_one xs (if b then Some o else None) ≡ xs ++ (if b then o ∷ [] else [])
  with_live true o xs = refl
  with_live false o xs = sym (append-nil xs)

  count_with : (b : Bool) (o : ObjectRow) (live : ℕ) → live ≤ REGION_WORDS → (if b then min live REGION_WORDS + o.len + 1 else live) ≡ live + words_of (if b then o ∷ [] else [])
  count_with true o live few = let one : words_of (o ∷ []) ≡ o.len + 1 + words_of [] = words_of-cons o [] in let none : words_of [] ≡ 0 = refl in omega (arith, one, none, few)
  count_with false o live few = sym (add-zero live)

  count_few : (b : Bool) (live offset len : ℕ) → live ≤ offset → (if b then min live REGION_WORDS + len + 1 else live) ≤ offset + 1 + len
  count_few true live offset len few = omega (arith, few)
  count_few false live offset len few = omega (arith, few)

  module _ (region offset : ℕ) (k : Notes) (inside : region < regions_of l) (below : offset < 64) where
    -- the word that it finds
    abbrev here : ℕ
    here = word_in l words region offset

    abbrev next : ℕ
    next = offset_after offset (word_in l words region offset)

    unfilled_noted : IsNotedIn region offset None k → (b : Bool) → goes_on offset (word_in l words region offset) ≡ b → UpTo (if b then note.Header (walk_of l) region (offset_after offset (word_in l words region offset)) None else next_region (walk_of l) region) k
    unfilled_noted is true e = (refl, inside, (goes_parts offset (word_in l words region offset) e).1, record { layout = is.layout; live = is.live; pool_free = is.pool_free; rest = is.rest })
    unfilled_noted is false e =
        next_noted region k inside (record { layout = is.layout; live = is.live ∙ ap (map row_in) (sym (filled_same region is.rest.0)); objects = is.rest.1; pool_free = is.pool_free })
        (nat_lt (region + 1) (regions_of l)) refl

    module _ (live : ℕ) (is : IsNotedIn region offset (Some live) k) where
      abbrev objects : List ObjectRow
      objects = with_one k.objects (object_at (walk_of l) region offset (word_in l words region offset))

      abbrev count : ℕ
      count = counted offset (word_in l words region offset) live

      objects_are : objects ≡ k.objects ++ live_at l words region offset
      objects_are = with_live (is_live_at offset (word_in l words region offset)) (row_at (walk_of l) region offset (word_in l words region offset)) k.objects

      count_is : count ≡ live + words_of (live_at l words region offset)
      count_is = count_with (is_live_at offset (word_in l words region offset)) (row_at (walk_of l) region offset (word_in l words region offset)) live (omega (arith, is.rest.3, below))

      objects_on : (left : List ObjectRow) → live_from l words region (64 - offset) offset ≡ live_at l words region offset ++ left → objects ++ left ≡ objects_to (region + 1)
      objects_on left parts =
          ap (λ xs. xs ++ left) objects_are
          ∙ (append_assoc k.objects (live_at l words region offset) left
          ∙ (ap (λ xs. k.objects ++ xs) (sym parts) ∙ is.rest.1))

      count_on : (left : List ObjectRow) → live_from l words region (64 - offset) offset ≡ live_at l words region offset ++ left → count + words_of left ≡ words_of (live_in l words region)
      count_on left parts =
          let all : words_of (live_from l words region (64 - offset) offset) ≡ words_of (live_at l words region offset) + words_of left = ap words_of parts ∙ words_of-append (live_at l words region offset) left in
          let before : live + words_of (live_from l words region (64 - offset) offset) ≡ words_of (live_in l words region) = is.rest.2 in
          omega (arith, all, before, count_is)

      header_noted : (b : Bool) → goes_on offset (word_in l words region offset) ≡ b
          → UpTo (if b then note.Header (walk_of l) region (offset_after offset (word_in l words region offset)) (Some count) else next_region (walk_of l) region)
          (record { layout = k.layout; live = with_one k.live (if b then None else Some (row region count)); objects = objects; pool_free = k.pool_free })
      header_noted true e =
          let both = goes_parts offset (word_in l words region offset) e in
          let parts : live_from l words region (64 - offset) offset ≡ live_at l words region offset ++ left_after region offset true = parted region offset below true both.0 in (
            refl,
            inside,
            both.1,
            record {
              layout = is.layout;
              live = is.live;
              pool_free = is.pool_free;
              rest = (is.rest.0, objects_on (left_after region offset true) parts, count_on (left_after region offset true) parts, count_few (is_live_at offset (word_in l words region offset)) live offset _ is.rest.3);
            },
          )
      header_noted false e =
          let parts : live_from l words region (64 - offset) offset ≡ live_at l words region offset ++ [] =
          parted region offset below (begins offset (word_in l words region offset)) refl ∙ ap (λ xs. live_at l words region offset ++ xs) (left_none region offset e (begins offset (word_in l words region offset)) refl) in
          let sum : count ≡ words_of (live_in l words region) = sym (add-zero count) ∙ count_on [] parts in
          next_noted region (record { layout = k.layout; live = k.live ++ row region count ∷ []; objects = objects; pool_free = k.pool_free }) inside
          (record {
            layout = is.layout;
            live = ap (λ xs. xs ++ row region count ∷ []) is.live ∙ (ap (λ n. map row_in (filled_to region) ++ row region n ∷ []) sum ∙ sym (rows_with region is.rest.0));
            objects = sym (append-nil objects) ∙ objects_on [] parts;
            pool_free = is.pool_free;
          })
          (nat_lt (region + 1) (regions_of l)) refl

  -- ---- the whole walk

  header_place : (region offset : ℕ) → address (walk_of l) region offset ≡ first_word l region + offset
  header_place region offset = ap (λ at. at + offset) (first_place l region fits)

  -- a step loads, and leaves all words
  same_words : (m : NoteMachine) (ws : List ℕ) → applied (asks_of m) ws ≡ ws
  same_words (note.Region w region) ws = set-get_or ws (word_of w region) 0
  same_words (note.Header w region offset live) ws = set-get_or ws (address w region offset) 0
  same_words (note.Ended w) ws = refl

  abbrev After : NoteMachine → Notes → ℕ → Type 0
  After m k word = UpTo (fed_of m word) (noted_with k (finding_of m word))

  noted_on : (m : NoteMachine) (k : Notes) → asks_of m ≢ Ended → UpTo m k → After m k (found_by (asks_of m) words)
  noted_on (note.Region w region) k on is =
      subst (λ x. After (note.Region x region) k (slice_index words (word_of x region))) (sym is.0)
      (subst (λ at. After (note.Region (walk_of l) region) k (slice_index words at)) (sym (word_place l region fits is.1)) (region_noted region k is.1 (use_of region == 0) refl is.2))
  noted_on (note.Header w region offset None) k on is =
      subst (λ x. After (note.Header x region offset None) k (slice_index words (address x region offset))) (sym is.0)
      (subst (λ at. After (note.Header (walk_of l) region offset None) k (slice_index words at)) (sym (header_place region offset)) (unfilled_noted region offset k is.1 is.2 is.3 (goes_on offset (word_in l words region offset)) refl))
  noted_on (note.Header w region offset (Some live)) k on is =
      subst (λ x. After (note.Header x region offset (Some live)) k (slice_index words (address x region offset))) (sym is.0)
      (subst (λ at. After (note.Header (walk_of l) region offset (Some live)) k (slice_index words at)) (sym (header_place region offset)) (header_noted region offset k is.1 is.2 live is.3 (goes_on offset (word_in l words region offset)) refl))
  noted_on (note.Ended w) k on is = absurd (on refl)

  record HasNoted (s : Noting × List ℕ) : Type 0 where
    words_are : s.1 ≡ words
    noted : UpTo s.0.machine s.0.notes

  noted_step : (a b : Noting × List ℕ) → HasNoted a → StepsOnce noting_asks noting_fed a b → HasNoted b
  noted_step a b is step = record {
    words_are = step.words ∙ (same_words a.0.machine a.1 ∙ is.words_are);
    noted = subst (λ (n : Noting). UpTo n.machine n.notes) (sym (step.machine ∙ ap (λ ws. noting_fed a.0 (found_by (noting_asks a.0) ws)) is.words_are)) (noted_on a.0.machine a.0.notes step.on is.noted);
  }

  noted_start : HasNoted (noting l, words)
  noted_start = record { words_are = refl; noted = (refl, some_region l fits, record { layout = refl; live = refl; objects = refl; pool_free = ap (λ n. filter (λ region. use_of region == 0) (range_with_len 0 n)) none }) }
    where
      none : 0 ≡ min 0 l.pool
      none = omega arith

  all_noted : (m : NoteMachine) (k : Notes) → asks_of m ≡ Ended → UpTo m k → k ≡ notes_of l words
  all_noted (note.Region w region) k ended is = absurd cc
  all_noted (note.Header w region offset live) k ended is = absurd cc
  all_noted (note.Ended w) k ended is =
      let pool : min (regions_of l) l.pool ≡ l.pool = omega arith in
      same_notes k (notes_of l words) is.layout is.live is.objects (is.pool_free ∙ ap (λ n. filter (λ region. use_of region == 0) (range_with_len 0 n)) pool)

-- so it does
pub notes_what_is_live : (l : Sizes) → IsLayout l → NotesWhatIsLive l
notes_what_is_live l fits words left n run ended =
    let at_end = along (HasNoted l fits words) (noted_step l fits words) (noted_start l fits words) run in
    all_noted l fits words n.machine n.notes ended at_end.noted
