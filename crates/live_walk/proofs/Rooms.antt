-- There is room for what a step tells.
use Rattle.std.proofs.Common.{◌≡◌, ◌≢◌, ℕ, ◌+◌, ◌-◌, ◌*◌, ◌<◌, ◌≤◌, ◌==◌, ◌&&◌, nat_lt, if◌then◌else◌, Bool, true, false, List, [], ◌∷◌, length, get_or, Option, Some, None, refl, ap, sym, subst, arith}
use Rattle.std.specs.List.{All, AllPairs}
use Rattle.std.proofs.lemmas.Bool.Decides.{nat_tests}
use Rattle.std.proofs.lemmas.List.Elements.{All-weaker}
use Rattle.heap_words.specs.Layouts.{Sizes, IsLayout, regions_of, first_word}
use Rattle.space_reclaim.specs.declared.plan.RegionLive.{RegionLive}
use Rattle.space_reclaim.specs.declared.plan.ObjectRow.{ObjectRow}
use Rattle.space_reclaim.specs.Plans.{IsLying}
use Rattle.space_reclaim.proofs.plans.Rising.{length-rising}
use Rattle.live_walk.specs.declared.note.NoteMachine.{NoteMachine}
use Rattle.live_walk.specs.declared.note.NoteMachine.TheVariants as note
use Rattle.live_walk.specs.Walks.{walk_of, first_of, address, finding_of}
use Rattle.live_walk.specs.Notes.{Notes}
use Rattle.live_walk.specs.Noting.{cursor_of, region_of, IsNoting}
use Rattle.live_walk.proofs.Found.{row, pairs_front}
use Rattle.live_walk.proofs.Keeping.{first_place}

none_some : {X : Type 0} (x : X) → None ≡ Some x → ⊥
none_some x e = cc

-- it is in a region of the pool
free_test : (a : Bool) (region pool k : ℕ) → (if a && nat_lt region pool then Some region else None) ≡ Some k → region < pool
free_test true region pool k e = by (nat_lt region pool) refl e
  where
    by : (b : Bool) → nat_lt region pool ≡ b → (if b then Some region else None) ≡ Some k → region < pool
    by true is e = grind (arith, nat_tests, is)
    by false is e = absurd cc
free_test false region pool k e = absurd cc

module _ (n : Notes) where
  pub free_room : (m : NoteMachine) (word k : ℕ) → IsNoting m n → (finding_of m word).free ≡ Some k → length n.pool_free < n.layout.pool
  free_room (note.Region w region) word k is e =
      let some : region < w.pool = free_test (word == 0) region w.pool k e in
      let pool : w.pool ≡ n.layout.pool = ap (λ x. x.pool) is.walks.0 in
      let few : length n.pool_free ≤ region = length-rising (λ r. r) n.pool_free region is.pool_rises is.free_walked in
      omega (arith, some, pool, few)
  free_room (note.Header w region offset None) word k is e = absurd (none_some k e)
  free_room (note.Header w region offset (Some live)) word k is e = absurd (none_some k e)
  free_room (note.Ended w) word k is e = absurd (none_some k e)

  pub region_room : (m : NoteMachine) (word : ℕ) (r : RegionLive) → IsNoting m n → (finding_of m word).region ≡ Some r → length n.live < regions_of n.layout
  region_room (note.Region w region) word r is e = absurd (none_some r e)
  region_room (note.Header w region offset None) word r is e = absurd (none_some r e)
  region_room (note.Header w region offset (Some live)) word r is e =
      let few : length n.live ≤ region = length-rising (λ r. r.region) n.live region (rows_rise w region offset live is) is.walked in
      omega (arith, few, is.walks.1)
    where
      rows_rise : (w : _) (region offset live : ℕ) → IsNoting (note.Header w region offset (Some live)) n → AllPairs (λ a b. a.region < b.region) n.live
      rows_rise w region offset live is = pairs_front (λ a b. a.region < b.region) n.live (row region live ∷ []) is.found.regions_rise
  region_room (note.Ended w) word r is e = absurd (none_some r e)

  -- an object's address, from the first region on
  abbrev place : ObjectRow → ℕ
  place o = o.at - first_word n.layout 0

  objects_few : (cursor : ℕ) → All (IsLying n.layout) n.objects → AllPairs (λ o p. o.at < p.at) n.objects → All (λ o. o.at + o.len < cursor) n.objects → length n.objects ≤ cursor - first_word n.layout 0
  objects_few cursor lie rises passed = length-rising place n.objects (cursor - first_word n.layout 0)
      (λ i j d before below.
      let first : first_word n.layout (get_or n.objects i d).region ≤ (get_or n.objects i d).at = (lie i d (omega (arith, before, below))).begins in
      let step : (get_or n.objects i d).at < (get_or n.objects j d).at = rises i j d before below in
      omega (arith, first, step))
      (λ k d below.
      let first : first_word n.layout (get_or n.objects k d).region ≤ (get_or n.objects k d).at = (lie k d below).begins in
      let low : (get_or n.objects k d).at + (get_or n.objects k d).len < cursor = passed k d below in
      omega (arith, first, low))

  pub object_room : (m : NoteMachine) (word : ℕ) (o : ObjectRow) → IsLayout n.layout → IsNoting m n → (finding_of m word).object ≡ Some o → length n.objects < 64 * regions_of n.layout
  object_room (note.Region w region) word o fits is e = absurd (none_some o e)
  object_room (note.Header w region offset None) word o fits is e = absurd (none_some o e)
  object_room (note.Header w region offset (Some live)) word o fits is e =
      let place : first_of (walk_of n.layout) region ≡ first_word n.layout region = first_place n.layout region fits in
      let same : first_of w region ≡ first_of (walk_of n.layout) region = ap (λ x. first_of x region) is.walks.0 in
      let few : length n.objects ≤ first_of w region + offset - first_word n.layout 0 = objects_few (address w region offset) is.found.lie is.found.objects_rise is.passed in
      omega (arith, place, same, few, is.walks.1, is.walks.2)
  object_room (note.Ended w) word o fits is e = absurd (none_some o e)

abbrev made : Sizes → List RegionLive → List ObjectRow → List ℕ → Notes
made l live objects pool_free = record { layout = l; live = live; objects = objects; pool_free = pool_free }

same_parts : (a b : Sizes) (c d : List RegionLive) (e f : List ObjectRow) (g h : List ℕ) → a ≡ b → c ≡ d → e ≡ f → g ≡ h → made a c e g ≡ made b d f h
same_parts a b c d e f g h one two three four = rw (one, two, three, four) refl

-- notes with equal parts are equal
pub same_notes : (k n : Notes) → k.layout ≡ n.layout → k.live ≡ n.live → k.objects ≡ n.objects → k.pool_free ≡ n.pool_free → k ≡ n
same_notes k n one two three four = same_parts k.layout n.layout k.live n.live k.objects n.objects k.pool_free n.pool_free one two three four
