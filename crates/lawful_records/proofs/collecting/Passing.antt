-- What a search passes by a step: no field of a home that it passes holds the candidate.
use Rattle.std.proofs.Common.{inl, inr, ◌≡◌, ◌≢◌, ℕ, ◌+◌, ◌-◌, ◌<◌, ◌≤◌, ◌⊎◌, false, Option, Some, refl, sym, ap, ◌∙◌, subst, arith}
use Rattle.std.specs.Prelude.{min}
use Rattle.std.proofs.lemmas.Bool.Decides.{nat_tests}
use Rattle.std.proofs.Math.Decide.{dec_lt}
use Rattle.heap_words.specs.Layouts.{Sizes, IsLayout, regions_of, region_at, first_word, wide_at}
use Rattle.heap_words.specs.PlaceLaws.{words_of-bound}
use Rattle.heap_words.specs.declared.limits.TheConstants.{ADDRESS_LIMIT, REGION_WORDS}
use Rattle.heap_words.specs.declared.field_word.FieldWord.{FieldWord}
use Rattle.heap_words.specs.declared.field_word.FieldWord.TheVariants.{Num}
use Rattle.heap_words.specs.FieldWords.{word_of}
use Rattle.object_headers.specs.declared.header.Header.{Header}
use Rattle.object_headers.specs.declared.header.State.TheVariants as states
use Rattle.object_headers.specs.Headers.{IsHeader, header_at, absent}
use Rattle.object_headers.specs.HeaderLaws.{header_at-word_of_header, word_of_header-absent}
use Rattle.mark_search.specs.declared.seek.Cursor.{Cursor}
use Rattle.mark_search.specs.declared.seek.Search.{Search}
use Rattle.mark_search.specs.declared.seek.SeekMarkMachine.{SeekMarkMachine}
use Rattle.mark_search.specs.declared.seek.SeekMarkMachine.TheVariants as seek
use Rattle.mark_search.specs.Seeks.{search_for, first_of, address}
use Rattle.space_reclaim.specs.declared.region_word.RegionWord.{RegionWord}
use Rattle.space_reclaim.specs.declared.region_word.RegionWord.TheVariants as regions
use Rattle.space_reclaim.specs.RegionWords.{word_of_region}
use Rattle.barriers.specs.Rows.{Rows, region_of}
use Rattle.barriers.specs.States.{State, Absent, IsHome}
use Rattle.barriers.specs.Spaces.{Space, is_mark}
use Rattle.barriers.specs.Says.{Notices, Says, header_by, header_in, IsWritten}
use Rattle.barriers.specs.Cycles.{Cycle}
use Rattle.barriers.proofs.words.Found.{found_header}
use Rattle.barriers.proofs.words.Headers.{home_there}
use Rattle.barriers.proofs.words.Regions.{region_is, first_next}
use Rattle.barriers.proofs.words.Rows.{row_below, before_end, header_apart, words_apart}
use Rattle.lawful_records.specs.Searches.{IsBegun}

-- ---- places

-- where the search is told to look
pub words_place : (l : Sizes) (candidate region : ℕ) → IsLayout l → region < regions_of l → (let s = search_for l candidate in min s.words_at ADDRESS_LIMIT) + region ≡ region_at l region
words_place l candidate region fits less = let most = words_of-bound l fits in omega (arith, most, less)

pub first_place : (l : Sizes) (candidate region : ℕ) → IsLayout l → first_of (search_for l candidate) region ≡ first_word l region
first_place l candidate region fits = let most = words_of-bound l fits in omega (arith, most)

-- the end of the last region
pub last_place : (l : Sizes) → first_word l (regions_of l) ≡ wide_at l
last_place l = omega arith

-- a region whose word is 0 is Free
pub free_is : (x : RegionWord) → word_of_region x ≡ 0 → x ≡ regions.Free
unfolding word_of_region
free_is regions.Free is = refl
free_is (regions.Taken pass) is = absurd (omega (arith, is))
free_is regions.Filled is = absurd (omega (arith, is))
free_is regions.Source is = absurd (omega (arith, is))
free_is regions.Target is = absurd (omega (arith, is))

-- a word of 0 is that of no header
absent_fits : IsHeader absent
absent_fits = record { len = omega arith; birth = omega arith; target = omega arith; state = (refl, refl, refl, refl) }

pub zero_absent : header_at 0 ≡ absent
zero_absent = ap header_at (sym word_of_header-absent) ∙ header_at-word_of_header absent absent_fits

-- only a dead object's header says Dead, and that of one that is there does not say Absent
dead_is : (x : State) (colour : _) (len birth : ℕ) → (let h = header_by x colour len birth in h.state) ≡ states.Dead → IsHome x → ⊥
dead_is x colour len birth is home = grind (arith, is, home)

pub absent_is : (x : State) (colour : _) (len birth : ℕ) → (let h = header_by x colour len birth in h.state) ≡ states.Absent → x ≢ Absent → ⊥
absent_is x colour len birth is there = grind (arith, is, there)

pub len_is : (x : State) (colour : _) (len birth : ℕ) → x ≢ Absent → (let h = header_by x colour len birth in h.len) ≡ len
len_is x colour len birth there = grind (arith, there)

-- ---- a word other than the candidate

not_mark : (w : FieldWord) (candidate : ℕ) → word_of w ≢ candidate → is_mark (Some (Num candidate)) w ≡ false
unfolding word_of
not_mark w candidate other = grind (arith, nat_tests, other)

module _ (l : Sizes) (fits : IsLayout l) (memory : ℕ → ℕ) (s : Space) (n : Notices) (rows : Rows l s.state s.len s.ends s.region) (says : Says l memory s n) (c : Cycle) (candidate : ℕ) (mark : c.mark ≡ Some (Num candidate))
    -- the word of each field of a home is in the original
    (plain : (a f : ℕ) → IsHome (s.state a) → f < s.len a → s.field a f ≡ s.word a f) where
  -- the field of a home
  abbrev IsFieldAt : ℕ → ℕ → ℕ → Type 0
  IsFieldAt a f x = IsHome (s.state a) × (f < s.len a) × (a + 1 + f ≡ x)

  there : (a : ℕ) → IsHome (s.state a) → s.state a ≢ Absent
  there a home = home_there (s.state a) home

  written : (x : State) → IsHome x → IsWritten x
  written x home = grind (arith, home)

  module _ (k : ℕ) (inside : k < regions_of l) where
    -- none is after the objects of a region
    none_after : (a f x : ℕ) → IsFieldAt a f x → s.ends k ≤ x → first_word l k ≤ x → x < first_word l k + 64 → ⊥
    none_after a f x is past low high = before_end l s.state s.len s.ends s.region rows a (1 + f) k (there a is.0) (omega (arith, is.1)) (omega (arith, is.2, low)) (omega (arith, is.2, high)) (omega (arith, is.2, past))

    -- a header that is there
    module _ (at : ℕ) (low : first_word l k ≤ at) (high : at < first_word l k + 64) where
      -- the header is no field, and the fields after it are its object's
      none_at : IsBegun s k at → (a f : ℕ) → IsFieldAt a f at → ⊥
      none_at (inl begun) a f is = header_apart l s.state s.len s.ends s.region rows at a f begun (there a is.0) is.1 (sym is.2)
      none_at (inr ends) a f is = none_after a f at is (omega (arith, ends)) low high

      its_own : s.state at ≢ Absent → (a f g : ℕ) → IsFieldAt a f (at + 1 + g) → g < s.len at → a ≡ at
      its_own begun a f g is less = words_apart l s.state s.len s.ends s.region rows a at f g (there a is.0) begun is.1 less is.2

      -- what the header's word is
      begun_header : s.state at ≢ Absent → header_at (memory at) ≡ header_in s at
      begun_header begun = found_header l memory s n rows says at begun

      end_header : s.ends k ≡ at → header_at (memory at) ≡ absent
      end_header ends = ap header_at (says.clear k at inside low high (omega (arith, ends))) ∙ zero_absent

  -- what its step says of each address that it passes
  abbrev pub IsUnmarkedAt : ℕ → Type 0
  IsUnmarkedAt x = (a f : ℕ) → IsFieldAt a f x → is_mark c.mark (s.field a f) ≡ false

  -- a step finds the word that is there
  abbrev pub FoundBy : SeekMarkMachine → ℕ → Type 0
  FoundBy (seek.Region q region) word = word ≡ memory (region_at l region)
  FoundBy (seek.Header q u) word = word ≡ memory (address q u)
  FoundBy (seek.Field q u len field) word = word ≡ memory (address q u + 1 + field)
  FoundBy (seek.Ended q end) word = ⊥

  module _ (q : Search) (same : q ≡ search_for l candidate) where
    pub first_is : (region : ℕ) → first_of q region ≡ first_word l region
    first_is region = ap (λ (x : Search). first_of x region) same ∙ first_place l candidate region fits

    pub regions_is : q.regions ≡ regions_of l
    regions_is = ap (λ (x : Search). x.regions) same

    candidate_is : q.candidate ≡ candidate
    candidate_is = ap (λ (x : Search). x.candidate) same

    -- ---- of a region that is Free

    pub free_passed : (k word : ℕ) → k < regions_of l → word ≡ memory (region_at l k) → word ≡ 0 → (x : ℕ) → first_of q k ≤ x → x < first_of q (k + 1) → IsUnmarkedAt x
    free_passed k word inside found zero x low high a f is =
        let free : s.region k ≡ regions.Free = free_is (s.region k) (sym (says.regions.word k inside) ∙ (sym found ∙ zero)) in
        let empty = rows.empty k free in
        let one = first_is k in
        let two = first_is (k + 1) in
        let next = first_next l k in
        absurd (none_after k inside a f x is (omega (arith, empty, one, low)) (omega (arith, one, low)) (omega (arith, two, next, high)))

    -- ---- at a header

    module _ (u : Cursor) (inside : u.region < regions_of l) (short : u.offset < 64) (begun : IsBegun s u.region (address q u)) where
      abbrev at : ℕ
      at = address q u

      pub low : first_word l u.region ≤ at
      low = let one = first_is u.region in omega (arith, one)

      pub high : at < first_word l u.region + 64
      high = let one = first_is u.region in omega (arith, one, short)

      abbrev h : Header
      h = header_at (memory at)

      -- a header that says something is that of an object
      pub there_by : IsBegun s u.region at → h.state ≢ states.Absent → s.state at ≢ Absent
      there_by (inl is) some = is
      there_by (inr ends) some = absurd (some (ap (λ (g : Header). g.state) (end_header u.region inside at low high ends)))

      -- and one that says nothing is after the last object
      ended_by : IsBegun s u.region at → h.state ≡ states.Absent → s.ends u.region ≡ at
      ended_by (inl is) none = absurd (absent_is (s.state at) (s.colour at) (s.len at) (s.birth at) (ap (λ (g : Header). g.state) (sym (begun_header u.region inside at low high is)) ∙ none) is)
      ended_by (inr ends) none = ends

      pub len_found : s.state at ≢ Absent → h.len ≡ s.len at
      len_found is = ap (λ (g : Header). g.len) (begun_header u.region inside at low high is) ∙ len_is (s.state at) (s.colour at) (s.len at) (s.birth at) is

      pub region_found : s.state at ≢ Absent → region_of l at ≡ u.region
      region_found is = region_is l at u.region low (let next = first_next l u.region in let up = high in omega (arith, next, up))

      -- its object is in the region
      pub within : s.state at ≢ Absent → u.offset + 1 + s.len at ≤ 64
      within is = let below = row_below l s.state s.len s.ends s.region rows at is in let region = ap (first_word l) (region_found is) in let one = first_is u.region in omega (arith, below, region, one)

      fits_by : IsBegun s u.region at → u.offset + 1 + h.len ≤ REGION_WORDS
      fits_by (inl is) = let len = len_found is in let in_region = within is in omega (arith, len, in_region)
      fits_by (inr ends) = let none : h.len ≡ 0 = ap (λ (g : Header). g.len) (end_header u.region inside at low high ends) in omega (arith, none, short)

      pub fits_header : u.offset + 1 + h.len ≤ REGION_WORDS
      fits_header = fits_by begun

      dead_passed : h.state ≡ states.Dead → (x : ℕ) → at < x → x < at + 1 + h.len → IsUnmarkedAt x
      dead_passed dead x above below a f is =
          let begun_there = there_by begun (λ none. (let gone : states.Dead ≡ states.Absent = sym dead ∙ none in cc gone)) in
          let len = len_found begun_there in
          let same_at = its_own u.region inside at low high begun_there a f (x - at - 1) (is.0, is.1, is.2 ∙ omega (arith, above)) (omega (arith, above, below, len)) in
          absurd (dead_is (s.state at) (s.colour at) (s.len at) (s.birth at) (ap (λ (g : Header). g.state) (sym (begun_header u.region inside at low high begun_there)) ∙ dead) (subst (λ y. IsHome (s.state y)) same_at is.0))

      -- what its step passes
      pub header_passed : (x : ℕ) → at ≤ x → (h.state ≡ states.Absent → x < first_of q (u.region + 1)) → (x ≡ at) ⊎ ((h.state ≡ states.Dead) × (x < at + 1 + h.len)) ⊎ (h.state ≡ states.Absent) → IsUnmarkedAt x
      header_passed x above below (inl here) a f is = absurd (none_at u.region inside at low high begun a f (is.0, is.1, is.2 ∙ here))
      header_passed x above below (inr (inl dead)) a f is = elim (dec_lt at x) [
        | yes after ↦ dead_passed dead.0 x after dead.1 a f is
        | no before ↦ absurd (none_at u.region inside at low high begun a f (is.0, is.1, is.2 ∙ omega (arith, before, above)))
      ]
      header_passed x above below (inr (inr none)) a f is =
          let ends = ended_by begun none in
          let two = first_is (u.region + 1) in
          let next = first_next l u.region in
          let least = low in
          let high_end = below none in
          absurd (none_after u.region inside a f x is (omega (arith, ends, above)) (omega (arith, least, above)) (omega (arith, two, next, high_end)))

    -- ---- at a field

    module _ (u : Cursor) (len field : ℕ) (inside : u.region < regions_of l) (less : field < len) (begun : s.state (address q u) ≢ Absent) (long : s.len (address q u) ≡ len) (short : u.offset < 64) where
      pub field_passed : (word x : ℕ) → word ≡ memory (address q u + 1 + field) → (x ≡ address q u + 1 + field) × (word ≢ q.candidate) → IsUnmarkedAt x
      field_passed word x found passes a f is =
          let one = first_is u.region in
          let same_at = its_own u.region inside (address q u) (omega (arith, one)) (omega (arith, one, short)) begun a f field (is.0, is.1, is.2 ∙ passes.0) (omega (arith, less, long)) in
          let same_field : f ≡ field = let sum = is.2 ∙ passes.0 in omega (arith, sum, same_at) in
          let holds : memory (address q u + 1 + field) ≡ word_of (s.word a f) =
          ap memory (sym (is.2 ∙ passes.0)) ∙ says.objects.word a f (written (s.state a) is.0) is.1 in
          subst (λ (m : Option FieldWord). is_mark m (s.field a f) ≡ false) (sym mark)
          (subst (λ (w : FieldWord). is_mark (Some (Num candidate)) w ≡ false) (sym (plain a f is.0 is.1))
          (not_mark (s.word a f) candidate (λ e. passes.1 (found ∙ (holds ∙ (e ∙ sym candidate_is))))))
