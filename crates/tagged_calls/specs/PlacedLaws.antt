-- A call at the word of its field does what is known of it, as a machine of an object at rest does.
use Rattle.std.specs.Prelude.{ℕ, nat_lt, if◌then◌else◌, Bool, true, false}
use Rattle.std.proofs.Common.{◌≡◌, ◌≤◌, refl, sym, ap, subst, ◌∙◌, Option, Some, None}
use Rattle.call_steps.specs.declared.step.Step.{Step}
use Rattle.call_steps.specs.declared.step.Step.TheVariants.{Ended}
use Rattle.heap_words.specs.declared.limits.TheConstants.{MOST_FIELDS}
use Rattle.heap_words.specs.declared.field_word.FieldWord.{FieldWord}
use Rattle.handshakes.specs.declared.pass_view.PassView.{PassView}
use Rattle.handshakes.specs.declared.follow.FollowMachine.{FollowMachine}
use Rattle.handshakes.specs.Follows as follows
use Rattle.barriers.specs.declared.spot.Spot.{Spot}
use Rattle.barriers.specs.declared.front.Front.{Front}
use Rattle.barriers.specs.declared.front.Front.TheVariants.{Stays}
use Rattle.object_headers.specs.declared.header.Colour.{Colour}
use Rattle.barriers.specs.States.{State, Absent, Plain, Kept, Tagged, Wide, Moving, Underway, Forward, Dead}
use Rattle.barriers.specs.Stances.{Stance, stance_at}
use Rattle.barriers.specs.Spaces.{Here}
use Rattle.barriers.specs.Says.{IsPacked}
use Rattle.barriers.specs.Knowns.{Task, Ending, Known, Loads_header, Follows, Over, at_field, spot_of, finds, looks, step_of, followed}
use Rattle.barriers.specs.Kits.{Runs, Stands, IsHeaderWord, IsWordOf, IsCurrent, own_of, ending_of, said_by}
use Rattle.barriers.specs.PlainCallLaws.{IsPlain}
use Rattle.barriers.specs.PlainCalls.{no_field, to_original, to_copy, where_field, plainly_fed}
use Rattle.at_rest.specs.RestTable.{at_rest, rest_fed}
use Rattle.tagged_calls.specs.declared.placed.Placed.{Placed}
use Rattle.tagged_calls.specs.declared.placed.Placed.TheVariants as placed
use Rattle.tagged_calls.specs.declared.location.Location.{Location}
use Rattle.tagged_calls.specs.Locations.{field_from, location_in}
use Rattle.tagged_calls.specs.LocationLaws.{location_for, location_found}
use Rattle.tagged_calls.specs.Placeds.{machine_of, asks_of, fed_of, front_of, unsealed, placed_at}
use Rattle.tagged_calls.specs.TaggedCalls.{by_kept, in_copy}
use Rattle.tagged_calls.specs.PlacedKnowing.{known_of, IsBegun, IsInCopy, PlacedFor}
use Rattle.tagged_calls.specs.CopyLaws.{rest_plainly, begun_current, copy_current, begun_plain, copy_plain, still_begun, with_word, copy_field, copy_word_found, copy_goes, copy_asks, copy_looks, copy_follows, followed_in_copy, followed_begun, copy_ending, copy_packed, field_in_copy, begins_in_copy, begins_begun}

-- of a machine that does what is known of it at objects at rest
module _ {K E : Type 0} {asks : K → Step} {fed : K → ℕ → K} {fronts : K → ℕ → Front} {knows : K → Known} {For : PassView → K → Type 0} {ended : K → Option E} {said : Ending → Option E}
    (runs : Runs at_rest (own_of false) asks fed fronts knows For ended said) where
  abbrev known : Placed K → Known
  known = known_of knows

  pub placed_asks : (v : PassView) (m : Placed K) → PlacedFor knows For v m → asks_of asks m ≡ step_of (known m)
  placed_asks v (placed.Original m) for = runs.asks_alike v m for.0
  placed_asks v (placed.Copy spot m) for = runs.asks_alike v m for.0 ∙ copy_asks spot (knows m) for.1

  -- ---- at the word

  original_stands : (v : PassView) (m : K) (p : Stance) (x : Here) (copy : FieldWord) (n : ℕ) (z : Spot) → For v m → IsBegun (knows m) → at_field (knows m) ≡ Some z → IsWordOf (knows m) (finds p x copy (knows m)) n → Stands knows For v m p x copy n
  original_stands v m p x copy n z for begun at word = record { own = for; spot = z; at = at; word = word; current = λ marked. begun_current v (knows m) n begun }

  copy_stands : (v : PassView) (spot : Spot) (m : K) (p : Stance) (x : Here) (copy : FieldWord) (n : ℕ) (z : Spot) → For v m → IsInCopy spot (knows m) → at_field (in_copy spot (knows m)) ≡ Some z → IsWordOf (in_copy spot (knows m)) (finds p x copy (in_copy spot (knows m))) n
      → Stands knows For v m p (with_word x copy) copy n
  copy_stands v spot m p x copy n z for there at word = record { own = for; spot = spot_of (knows m); at = copy_field spot (knows m) z there at; word = copy_word_found spot (knows m) p x copy n there word; current = λ marked. copy_current v spot (knows m) n there }

  abbrev Goes : PassView → Placed K → Stance → Here → FieldWord → ℕ → Type 0
  Goes v m p x copy n = (known (fed_of fed m n) ≡ plainly_fed (stance_at v.acked) (known m) (finds p x copy (known m))) × PlacedFor knows For v (fed_of fed m n)

  -- it goes on as at a plain word
  pub placed_goes : (v : PassView) (m : Placed K) (p : Stance) (x : Here) (copy : FieldWord) (n : ℕ) (z : Spot) → PlacedFor knows For v m → at_field (known m) ≡ Some z → IsWordOf (known m) (finds p x copy (known m)) n → Goes v m p x copy n
  placed_goes v (placed.Original m) p x copy n z for at word =
      let goes = runs.goes v m p x copy n (original_stands v m p x copy n z for.0 for.1 at word) in
      let found = finds p x copy (knows m) in
      let plain : knows (fed m n) ≡ plainly_fed (stance_at v.acked) (knows m) found = goes.0 ∙ rest_plainly (stance_at v.acked) (own_of false v) (knows m) found z for.1 at in
      (plain, (goes.1, subst IsBegun (sym plain) (still_begun (stance_at v.acked) (knows m) found z for.1 at)))
  placed_goes v (placed.Copy spot m) p x copy n z for at word =
      let goes = runs.goes v m p (with_word x copy) copy n (copy_stands v spot m p x copy n z for.0 for.1 at word) in
      let there = copy_goes (stance_at v.acked) (own_of false v) spot (knows m) p x copy z for.1 at in
      (ap (in_copy spot) goes.0 ∙ there.0, (goes.1, subst (IsInCopy spot) (sym goes.0) there.1))

  -- and it is at one
  pub placed_plain : (v : PassView) (m : Placed K) (z : Spot) → PlacedFor knows For v m → at_field (known m) ≡ Some z → IsPlain (known m)
  placed_plain v (placed.Original m) z for at = begun_plain (knows m) z for.1 at
  placed_plain v (placed.Copy spot m) z for at = copy_plain spot (knows m) z for.1 at

  pub placed_looks : (v : PassView) (m : Placed K) (p : Stance) (x : Here) (copy : FieldWord) (n : ℕ) (z : Spot) → PlacedFor knows For v m → at_field (known m) ≡ Some z → IsWordOf (known m) (finds p x copy (known m)) n
      → front_of fronts m n ≡ looks (own_of false v) (known m) (finds p x copy (known m))
  placed_looks v (placed.Original m) p x copy n z for at word = runs.looks_alike v m p x copy n (original_stands v m p x copy n z for.0 for.1 at word)
  placed_looks v (placed.Copy spot m) p x copy n z for at word =
      ap unsealed (runs.looks_alike v m p (with_word x copy) copy n (copy_stands v spot m p x copy n z for.0 for.1 at word)) ∙ copy_looks spot (knows m) p x copy for.1

  -- ---- after it

  pub placed_follows : (v : PassView) (m : Placed K) (s : Spot) (t : Task) (f : FollowMachine) (n : ℕ) → PlacedFor knows For v m → known m ≡ Follows s t f
      → (known (fed_of fed m n) ≡ followed s t (follows.fed_of f n)) × PlacedFor knows For v (fed_of fed m n) × (front_of fronts m n ≡ Stays)
  placed_follows v (placed.Original m) s t f n for is =
      let on = runs.follows_on v m s t f n for.0 is in
      (on.0, (on.1, subst IsBegun (sym on.0) (followed_begun s t (follows.fed_of f n))), on.2)
  placed_follows v (placed.Copy spot m) s t f n for is =
      let here = copy_follows spot (knows m) s t f for.1 is in
      let z = spot_of (knows m) in
      let on = runs.follows_on v m z t f n for.0 here.0 in
      let there = followed_in_copy spot z t (follows.fed_of f n) in
      (ap (in_copy spot) on.0 ∙ (there.0 ∙ ap (λ (y : Spot). followed y t (follows.fed_of f n)) here.1), (on.1, subst (IsInCopy spot) (sym on.0) there.1), ap unsealed on.2)

  pub placed_over : (v : PassView) (m : Placed K) → PlacedFor knows For v m → asks_of asks m ≡ Ended → (s : Spot) × (t : Task) × (end : Ending) × (known m ≡ Over s t end)
  placed_over v (placed.Original m) for is = runs.over v m for.0 is
  placed_over v (placed.Copy spot m) for is = let over = runs.over v m for.0 is in (spot, over.1, over.2, ap (in_copy spot) over.3)

  pub placed_tells : (m : Placed K) → ended (machine_of m) ≡ said_by said (ending_of (known m))
  placed_tells (placed.Original m) = runs.tells m
  placed_tells (placed.Copy spot m) = runs.tells m ∙ ap (said_by said) (sym (copy_ending spot (knows m)))

  pub placed_packed : (v : PassView) (m : Placed K) → PlacedFor knows For v m → IsPacked (known m)
  placed_packed v (placed.Original m) for = runs.packed v m for.0
  placed_packed v (placed.Copy spot m) for = copy_packed spot (knows m) for.1 (runs.packed v m for.0)

  -- ---- it begins as a call of an object at rest does, once the header was loaded

  module _ (v : PassView) (t : Task) (start : Spot → K) (known_start : (z : Spot) → knows (start z) ≡ Loads_header z t) (for_start : (z : Spot) → For v (start z)) (p : Stance) (x : Here) (copy : FieldWord) (n : ℕ) where
    begun : (z : Spot) → IsHeaderWord None z.birth x.state x.colour x.len n → (knows (fed (start z) n) ≡ where_field z t x.len (to_original z t)) × For v (fed (start z) n)
    begun z word =
        let same = known_start z in
        let goes = runs.goes v (start z) p x copy n (record { own = for_start z; spot = z; at = ap at_field same; word = subst (λ k. IsWordOf k (finds p x copy k) n) (sym same) word; current = λ marked. subst (λ k. IsCurrent v k n) (sym same) tt }) in
        (goes.0 ∙ ap (λ k. rest_fed (stance_at v.acked) (own_of false v) k (finds p x copy k)) same, goes.1)

    abbrev Begins : Placed K → Known → Type 0
    Begins m k = (known m ≡ k) × PlacedFor knows For v m

    pub begins_original : (s : Spot) → IsHeaderWord None s.birth x.state x.colour x.len n → Begins (placed.Original (fed (start s) n)) (where_field s t x.len (to_original s t))
    begins_original s word = let goes = begun s word in (goes.0, (goes.1, subst IsBegun (sym goes.0) (begins_begun s t x.len)))

    pub begins_copy : (s : Spot) (to : ℕ) → IsHeaderWord None s.birth x.state x.colour x.len n → Begins (placed.Copy s (fed (start (field_from s to)) n)) (where_field s t x.len (to_copy s t to))
    begins_copy s to word =
        let goes = begun (field_from s to) word in
        let fits = word.fits in
        let few : x.len ≤ MOST_FIELDS = subst (λ (l : ℕ). l ≤ MOST_FIELDS) word.len_is fits.len in
        (ap (in_copy s) goes.0 ∙ field_in_copy s t to x.len, (goes.1, subst (IsInCopy s) (sym goes.0) (begins_in_copy s t to x.len few)))

    -- ---- in the original or in the copy, as the header's state says

    -- where a copier goes on so at a wide object, which the object here is not, or is as if it were at rest
    module _ (to_wide : Spot → Task → ℕ → Known) (s : Spot) (at_wide : (y : State) (wide : ℕ) → y ≡ Wide wide → to_wide s t wide ≡ to_original s t) where
      abbrev placed_by : ℕ → State → Placed K
      placed_by word y = placed_at (location_for s word y) s (λ z. fed (start z) n)

      begins_by : (word : ℕ) (y : State) → IsHeaderWord None s.birth x.state x.colour x.len n → Begins (placed_by word y) (where_field s t x.len (by_kept to_wide s t y))
      begins_by word (Forward to) found = begins_copy s to found
      begins_by word (Wide wide) found = subst (λ (k : Known). Begins (placed.Original (fed (start s) n)) (where_field s t x.len k)) (sym (at_wide (Wide wide) wide refl)) (begins_original s found)
      begins_by word Absent found = begins_original s found
      begins_by word Plain found = begins_original s found
      begins_by word Kept found = begins_original s found
      begins_by word Tagged found = begins_original s found
      begins_by word (Moving to) found = begins_original s found
      begins_by word Underway found = begins_original s found
      begins_by word Dead found = begins_original s found

      -- by the header that it loaded
      pub begins_loaded : IsHeaderWord None s.birth x.state x.colour x.len n → Begins (placed_at (location_in s n) s (λ z. fed (start z) n)) (where_field s t x.len (by_kept to_wide s t x.state))
      begins_loaded found =
          subst (λ (l : Location). Begins (placed_at l s (λ z. fed (start z) n)) (where_field s t x.len (by_kept to_wide s t x.state))) (sym (location_found None s.birth x.state x.colour x.len n found s))
          (begins_by n x.state found)

      -- by the header that the exchange for Kept found, with the one that it loaded before
      pub begins_kept : (before : _) (y : State) (colour : Colour) (len word : ℕ) → IsHeaderWord None s.birth x.state x.colour x.len n → nat_lt s.field x.len ≡ true → IsHeaderWord before s.birth y colour len word
          → Begins (placed_at (location_in s word) s (λ z. fed (start z) n)) (by_kept to_wide s t y)
      begins_kept before y colour len word loaded inside found =
          subst (λ (l : Location). Begins (placed_at l s (λ z. fed (start z) n)) (by_kept to_wide s t y)) (sym (location_found before s.birth y colour len word found s))
          (subst (λ (b : Bool). Begins (placed_by word y) (if b then by_kept to_wide s t y else no_field s t x.len)) inside (begins_by word y loaded))
