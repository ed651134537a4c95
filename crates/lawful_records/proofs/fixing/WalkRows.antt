-- What stands where a walk comes, and which addresses it passes.
use Rattle.std.specs.Prelude.{nat_lt, if◌then◌else◌}
use Rattle.std.proofs.Common.{inl, inr, ◌≡◌, ◌≢◌, ℕ, ◌+◌, ◌-◌, ◌<◌, ◌≤◌, Bool, true, false, refl, sym, ap, ◌∙◌, subst, arith}
use Rattle.heap_words.specs.Layouts.{Sizes, IsLayout, regions_of, region_at, first_word}
use Rattle.heap_words.specs.PlaceLaws.{words_of-bound}
use Rattle.heap_words.specs.declared.limits.TheConstants.{REGION_WORDS}
use Rattle.object_headers.specs.declared.header.Header.{Header}
use Rattle.object_headers.specs.declared.header.State.{State as HeaderState}
use Rattle.object_headers.specs.declared.header.State.TheVariants as states
use Rattle.object_headers.specs.Headers.{header_at, absent}
use Rattle.reference_fix.specs.declared.field_fix.FixMachine.TheVariants as fix
use Rattle.reference_fix.specs.declared.fix_walk.Area.{Area}
use Rattle.reference_fix.specs.declared.fix_walk.Cursor.{Cursor}
use Rattle.reference_fix.specs.declared.fix_walk.FixWalkMachine.{FixWalkMachine}
use Rattle.reference_fix.specs.declared.fix_walk.FixWalkMachine.TheVariants as walk
use Rattle.reference_fix.specs.FixWalks.{area_of, first_of, address, next_region, next_object, next_field, after_field, by_state}
use Rattle.reference_fix.specs.FixWalkRuns.{IsFixed}
use Rattle.space_reclaim.specs.declared.region_word.RegionWord.TheVariants as regions
use Rattle.barriers.specs.Rows.{Rows, region_of}
use Rattle.barriers.specs.Says.{Notices, Says, header_by, header_in}
use Rattle.barriers.specs.Spaces.{Space}
use Rattle.barriers.specs.States.{State, Absent, Plain, Kept, Tagged, Wide, Moving, Underway, Forward, Dead, IsHome}
use Rattle.barriers.proofs.words.Found.{found_header}
use Rattle.barriers.proofs.words.Headers.{home_there}
use Rattle.barriers.proofs.words.Regions.{region_is, first_next}
use Rattle.barriers.proofs.words.Rows.{before_end, header_apart, words_apart}
use Rattle.lawful_records.specs.Fixing.{IsAtHome, IsAside}
use Rattle.lawful_records.specs.Searches.{IsBegun}
use Rattle.lawful_records.proofs.collecting.Passing.{free_is, zero_absent, absent_is, len_is}

-- a header of a state in which fields are fixed is that of a home; and a home at rest has such a header
fixed_home : (x : State) (colour : _) (len birth : ℕ) (y : HeaderState) → (let h = header_by x colour len birth in h.state) ≡ y → IsFixed y → x ≢ Underway → IsHome x
fixed_home Plain colour len birth y e fixed other = tt
fixed_home Kept colour len birth y e fixed other = tt
fixed_home Absent colour len birth y e fixed other = absurd (subst IsFixed (sym e) fixed)
fixed_home Tagged colour len birth y e fixed other = tt
fixed_home (Wide w) colour len birth y e fixed other = tt
fixed_home (Moving t) colour len birth y e fixed other = tt
fixed_home Underway colour len birth y e fixed other = absurd (other refl)
fixed_home (Forward t) colour len birth y e fixed other = absurd (subst IsFixed (sym e) fixed)
fixed_home Dead colour len birth y e fixed other = absurd (subst IsFixed (sym e) fixed)

rested_fixed : (x : State) (colour : _) (len birth : ℕ) → IsHome x → (IsAside x → ⊥) → IsFixed (let h = header_by x colour len birth in h.state)
rested_fixed Plain colour len birth home rests = tt
rested_fixed Kept colour len birth home rests = tt
rested_fixed Tagged colour len birth home rests = absurd (rests tt)
rested_fixed (Wide w) colour len birth home rests = absurd (rests tt)
rested_fixed (Moving t) colour len birth home rests = absurd (rests tt)
rested_fixed Absent colour len birth home rests = absurd home
rested_fixed Underway colour len birth home rests = absurd home
rested_fixed (Forward t) colour len birth home rests = absurd home
rested_fixed Dead colour len birth home rests = absurd home

module _ (l : Sizes) (fits : IsLayout l) (memory : ℕ → ℕ) (s : Space) (n : Notices) (rows : Rows l s.state s.len s.ends s.region) (says : Says l memory s n) where
  -- the field of a home
  abbrev pub IsFieldAt : ℕ → ℕ → ℕ → Type 0
  IsFieldAt a f x = IsHome (s.state a) × (f < s.len a) × (a + 1 + f ≡ x)

  there : (a : ℕ) → IsHome (s.state a) → s.state a ≢ Absent
  there a home = home_there (s.state a) home

  -- none is after the objects of a region
  none_after : (k : ℕ) → k < regions_of l → (a f x : ℕ) → IsFieldAt a f x → s.ends k ≤ x → first_word l k ≤ x → x < first_word l k + 64 → ⊥
  none_after k inside a f x is past low high = before_end l s.state s.len s.ends s.region rows a (1 + f) k (there a is.0) (omega (arith, is.1)) (omega (arith, is.2, low)) (omega (arith, is.2, high)) (omega (arith, is.2, past))

  module _ (q : Area) (same : q ≡ area_of l) where
    pub first_is : (region : ℕ) → first_of q region ≡ first_word l region
    first_is region = ap (λ (x : Area). first_of x region) same ∙ (let most = words_of-bound l fits in omega (arith, most))

    -- of a region that is Free
    pub free_none : (k word : ℕ) → k < regions_of l → word ≡ memory (region_at l k) → word ≡ 0 → (a f x : ℕ) → IsFieldAt a f x → first_of q k ≤ x → x < first_of q (k + 1) → ⊥
    free_none k word inside found zero a f x is low high =
        let free : s.region k ≡ regions.Free = free_is (s.region k) (sym (says.regions.word k inside) ∙ (sym found ∙ zero)) in
        let empty = rows.empty k free in
        let one = first_is k in
        let two = first_is (k + 1) in
        let next = first_next l k in
        none_after k inside a f x is (omega (arith, empty, one, low)) (omega (arith, one, low)) (omega (arith, two, next, high))

    -- ---- at a header

    module _ (u : Cursor) (inside : u.region < regions_of l) (short : u.offset < 64) where
      abbrev at : ℕ
      at = address q u

      pub low : first_word l u.region ≤ at
      low = let one = first_is u.region in omega (arith, one)

      pub high : at < first_word l u.region + 64
      high = let one = first_is u.region in omega (arith, one, short)

      abbrev h : Header
      h = header_at (memory at)

      pub begun_header : s.state at ≢ Absent → h ≡ header_in s at
      begun_header begun = found_header l memory s n rows says at begun

      pub end_header : s.ends u.region ≡ at → h ≡ absent
      end_header ends = ap header_at (says.clear u.region at inside low high (omega (arith, ends))) ∙ zero_absent

      pub there_by : IsBegun s u.region at → h.state ≢ states.Absent → s.state at ≢ Absent
      there_by (inl is) some = is
      there_by (inr ends) some = absurd (some (ap (λ (g : Header). g.state) (end_header ends)))

      ended_by : IsBegun s u.region at → h.state ≡ states.Absent → s.ends u.region ≡ at
      ended_by (inl is) none = absurd (absent_is (s.state at) (s.colour at) (s.len at) (s.birth at) (ap (λ (g : Header). g.state) (sym (begun_header is)) ∙ none) is)
      ended_by (inr ends) none = ends

      pub len_found : s.state at ≢ Absent → s.len at ≡ h.len
      len_found is = sym (ap (λ (g : Header). g.len) (begun_header is) ∙ len_is (s.state at) (s.colour at) (s.len at) (s.birth at) is)

      region_found : s.state at ≢ Absent → region_of l at ≡ u.region
      region_found is = region_is l at u.region low (let next = first_next l u.region in let up = high in omega (arith, next, up))

      -- the header itself is no field
      pub none_here : IsBegun s u.region at → (a f : ℕ) → IsFieldAt a f at → ⊥
      none_here (inl begun) a f is = header_apart l s.state s.len s.ends s.region rows at a f begun (there a is.0) is.1 (sym is.2)
      none_here (inr ends) a f is = none_after u.region inside a f at is (omega (arith, ends)) low high

      -- nor is one after the last object
      pub none_behind : IsBegun s u.region at → h.state ≡ states.Absent → (a f x : ℕ) → IsFieldAt a f x → at ≤ x → x < first_of q (u.region + 1) → ⊥
      none_behind begun none a f x is above below =
          let ends = ended_by begun none in
          let two = first_is (u.region + 1) in
          let next = first_next l u.region in
          let least = low in
          none_after u.region inside a f x is (omega (arith, ends, above)) (omega (arith, least, above)) (omega (arith, two, next, below))

      -- the words after it are its object's
      pub its_own : s.state at ≢ Absent → (a f x : ℕ) → IsFieldAt a f x → at < x → x < at + 1 + s.len at → a ≡ at
      its_own begun a f x is above below = words_apart l s.state s.len s.ends s.region rows a at f (x - at - 1) (there a is.0) begun is.1 (omega (arith, above, below)) (is.2 ∙ omega (arith, above))

      -- after the object another begins, or the objects of the region end
      pub after_it : s.state at ≢ Absent → IsBegun s u.region (at + 1 + s.len at)
      after_it begun = elim (rows.follow at begun) [
        | inl ends ↦ inr (ap s.ends (sym (region_found begun)) ∙ sym ends)
        | inr more ↦ inl more
      ]

    -- ---- where it goes on

    abbrev pub GoesAt : FixWalkMachine → Type 0
    GoesAt m = IsAtHome s m

    pub region_goes : (region : ℕ) → GoesAt (next_region q region)
    region_goes region = by (nat_lt (region + 1) q.regions)
      where
        by : (more : Bool) → GoesAt (if more then walk.Region q (region + 1) else walk.Ended q)
        by true = tt
        by false = tt

    pub free_goes : (region : ℕ) (free : Bool) → GoesAt (if free then next_region q region else walk.Header q (record { region = region; offset = 0 }))
    free_goes region true = region_goes region
    free_goes region false =
        let first = first_is region in
        let place : address q (record { region = region; offset = 0 }) ≡ first_word l region = omega (arith, first) in
        subst (IsBegun s region) (sym place) (elim (rows.begin region) [ inl ends ↦ inr ends | inr begun ↦ inl begun ])

    module _ (u : Cursor) (inside : u.region < regions_of l) (short : u.offset < 64) (begun : s.state (address q u) ≢ Absent) where
      pub object_goes : (len : ℕ) → s.len (address q u) ≡ len → GoesAt (next_object q u len)
      object_goes len long = by (nat_lt (u.offset + 1 + len) REGION_WORDS)
        where
          place : address q u + 1 + s.len (address q u) ≡ address q (record u { offset = u.offset + 1 + len })
          place = omega (arith, long)

          by : (more : Bool) → GoesAt (if more then walk.Header q (record u { offset = u.offset + 1 + len }) else next_region q u.region)
          by true = subst (IsBegun s u.region) place (after_it u inside short begun)
          by false = region_goes u.region

      pub field_goes : IsHome (s.state (address q u)) → (len field : ℕ) → s.len (address q u) ≡ len → GoesAt (next_field q u len field)
      field_goes home len field long = by (nat_lt field len)
        where
          by : (more : Bool) → GoesAt (if more then walk.Field q u len field (fix.Field (address q u + 1 + field)) else next_object q u len)
          by true = (home, long, tt)
          by false = object_goes len long

      pub after_goes : IsHome (s.state (address q u)) → (len field : ℕ) → s.len (address q u) ≡ len → GoesAt (after_field q u len field)
      after_goes home len field long = by (nat_lt field len)
        where
          by : (more : Bool) → GoesAt (if more then next_field q u len (field + 1) else next_object q u len)
          by true = field_goes home len (field + 1) long
          by false = object_goes len long

      -- a header of an object at rest
      pub state_goes : ((a : ℕ) → s.state a ≢ Underway) → (x : HeaderState) → (let h = header_at (memory (address q u)) in h.state) ≡ x → (len : ℕ) → s.len (address q u) ≡ len → GoesAt (by_state q u x len)
      state_goes none states.Absent is len long = region_goes u.region
      state_goes none states.Plain is len long = field_goes (fixed_home (s.state (address q u)) _ _ _ states.Plain (ap (λ (g : Header). g.state) (sym (begun_header u inside short begun)) ∙ is) tt (none (address q u))) len 0 long
      state_goes none states.Kept is len long = field_goes (fixed_home (s.state (address q u)) _ _ _ states.Kept (ap (λ (g : Header). g.state) (sym (begun_header u inside short begun)) ∙ is) tt (none (address q u))) len 0 long
      state_goes none states.Tagged is len long = object_goes len long
      state_goes none states.Wide is len long = object_goes len long
      state_goes none states.Moving is len long = object_goes len long
      state_goes none states.Forward is len long = object_goes len long
      state_goes none states.Dead is len long = object_goes len long

      -- and the fields of an object that is passed over are no home's
      pub over_none : ((a : ℕ) → IsHome (s.state a) → IsAside (s.state a) → ⊥) → (IsFixed (let h = header_at (memory (address q u)) in h.state) → ⊥) → (a f x : ℕ) → IsFieldAt a f x → address q u < x → x < address q u + 1 + s.len (address q u) → ⊥
      over_none rests not a f x is above below =
          let same_at = its_own u inside short begun a f x is above below in
          let home : IsHome (s.state (address q u)) = subst (λ y. IsHome (s.state y)) same_at is.0 in
          not (subst (λ (g : Header). IsFixed g.state) (sym (begun_header u inside short begun)) (rested_fixed (s.state (address q u)) (s.colour (address q u)) (s.len (address q u)) (s.birth (address q u)) home (rests (address q u) home)))
