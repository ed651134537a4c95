-- After a step of a search all below its cursor is passed, and where it goes on an object begins or the objects of the region end.
use Rattle.std.proofs.Common.{inl, inr, ◌≡◌, ◌≢◌, ℕ, ◌+◌, ◌<◌, ◌≤◌, ◌==◌, Bool, true, false, Some, refl, sym, ap, ◌∙◌, subst, arith}
use Rattle.std.specs.Prelude.{nat_lt, if◌then◌else◌}
use Rattle.std.proofs.lemmas.Bool.Decides.{nat_tests}
use Rattle.std.proofs.Math.Decide.{dec_lt}
use Rattle.heap_words.specs.Layouts.{Sizes, IsLayout, regions_of, first_word}
use Rattle.heap_words.specs.declared.limits.TheConstants.{REGION_WORDS}
use Rattle.heap_words.specs.declared.field_word.FieldWord.TheVariants.{Num}
use Rattle.object_headers.specs.declared.header.State.{State as HeaderState}
use Rattle.object_headers.specs.declared.header.State.TheVariants as states
use Rattle.object_headers.specs.Headers.{header_at}
use Rattle.mark_search.specs.declared.seek.Cursor.{Cursor}
use Rattle.mark_search.specs.declared.seek.Search.{Search}
use Rattle.mark_search.specs.declared.seek.SeekMarkMachine.{SeekMarkMachine}
use Rattle.mark_search.specs.declared.seek.SeekMarkMachine.TheVariants as seek
use Rattle.mark_search.specs.declared.seek.SeekEnd.TheVariants.{Clear, MarkFound}
use Rattle.mark_search.specs.Seeks.{search_for, first_of, address, next_region, next_object, next_field, after_field, by_state, fed_of}
use Rattle.mark_search.specs.SeekRuns.{cursor_of, FitsRegion, Passes, IsInside}
use Rattle.mark_search.specs.SeekLaws.{stepped}
use Rattle.barriers.specs.Rows.{Rows}
use Rattle.barriers.specs.States.{Absent, IsHome}
use Rattle.barriers.specs.Spaces.{Space}
use Rattle.barriers.specs.Says.{Notices, Says}
use Rattle.barriers.specs.Cycles.{Cycle}
use Rattle.lawful_records.specs.Searches.{Seeks, HasPassed, IsBegun, IsAtObject, HasSought}
use Rattle.lawful_records.proofs.collecting.Passing.{FoundBy, IsUnmarkedAt, first_is, regions_is, free_passed, there_by, len_found, region_found, within, fits_header, header_passed, field_passed}

module _ (l : Sizes) (fits : IsLayout l) (memory : ℕ → ℕ) (s : Space) (n : Notices) (rows : Rows l s.state s.len s.ends s.region) (says : Says l memory s n) (c : Cycle) (candidate : ℕ) (mark : c.mark ≡ Some (Num candidate))
    (plain : (a f : ℕ) → IsHome (s.state a) → f < s.len a → s.field a f ≡ s.word a f) where
  -- ---- where it goes on

  abbrev Goes : SeekMarkMachine → Type 0
  Goes m = IsAtObject l s m

  region_goes : (q : Search) (region : ℕ) → Goes (next_region q region)
  region_goes q region = by (nat_lt (region + 1) q.regions)
    where
      by : (more : Bool) → Goes (if more then seek.Region q (region + 1) else seek.Ended q Clear)
      by true = tt
      by false = tt

  module _ (q : Search) (same : q ≡ search_for l candidate) (u : Cursor) (inside : u.region < regions_of l) (short : u.offset < 64) (begun : s.state (address q u) ≢ Absent) where
    is_begun : IsBegun s u.region (address q u)
    is_begun = inl begun

    -- after the object another begins, or the objects of the region end
    after_it : IsBegun s u.region (address q u + 1 + s.len (address q u))
    after_it = elim (rows.follow (address q u) begun) [
      | inl ends ↦ inr (ap s.ends (sym (region_found l fits memory s n rows says c candidate mark plain q same u inside short is_begun begun)) ∙ sym ends)
      | inr more ↦ inl more
    ]

    object_goes : (len : ℕ) → s.len (address q u) ≡ len → Goes (next_object q u len)
    object_goes len long = by (nat_lt (u.offset + 1 + len) REGION_WORDS)
      where
        place : address q u + 1 + s.len (address q u) ≡ address q (record u { offset = u.offset + 1 + len })
        place = omega (arith, long)

        by : (more : Bool) → Goes (if more then seek.Header q (record u { offset = u.offset + 1 + len }) else next_region q u.region)
        by true = subst (IsBegun s u.region) place after_it
        by false = region_goes q u.region

    field_goes : (len field : ℕ) → s.len (address q u) ≡ len → Goes (next_field q u len field)
    field_goes len field long = by (nat_lt field len)
      where
        by : (more : Bool) → Goes (if more then seek.Field q u len field else next_object q u len)
        by true = (begun, long)
        by false = object_goes len long

    after_goes : (len field : ℕ) → s.len (address q u) ≡ len → Goes (after_field q u len field)
    after_goes len field long = by (nat_lt field len)
      where
        by : (more : Bool) → Goes (if more then next_field q u len (field + 1) else next_object q u len)
        by true = field_goes len (field + 1) long
        by false = object_goes len long

    found_goes : (len field : ℕ) → s.len (address q u) ≡ len → (found : Bool) → Goes (if found then seek.Ended q (MarkFound (record { at = address q u; field = field })) else after_field q u len field)
    found_goes len field long true = tt
    found_goes len field long false = after_goes len field long

  module _ (q : Search) (same : q ≡ search_for l candidate) (u : Cursor) (inside : u.region < regions_of l) (short : u.offset < 64) (begun : IsBegun s u.region (address q u)) where
    abbrev at : ℕ
    at = address q u

    abbrev state_found : HeaderState
    state_found = let h = header_at (memory at) in h.state

    abbrev len_read : ℕ
    len_read = let h = header_at (memory at) in h.len

    there : state_found ≢ states.Absent → s.state at ≢ Absent
    there some = there_by l fits memory s n rows says c candidate mark plain q same u inside short begun begun some

    long : (some : state_found ≢ states.Absent) → s.len at ≡ len_read
    long some = sym (len_found l fits memory s n rows says c candidate mark plain q same u inside short begun (there some))

    state_goes : (x : HeaderState) → state_found ≡ x → Goes (by_state q u x len_read)
    state_goes states.Absent is = region_goes q u.region
    state_goes states.Dead is = let some : state_found ≢ states.Absent = λ none. (let gone : states.Dead ≡ states.Absent = sym is ∙ none in cc gone) in object_goes q same u inside short (there some) len_read (long some)
    state_goes states.Plain is = let some : state_found ≢ states.Absent = λ none. (let gone : states.Plain ≡ states.Absent = sym is ∙ none in cc gone) in field_goes q same u inside short (there some) len_read 0 (long some)
    state_goes states.Kept is = let some : state_found ≢ states.Absent = λ none. (let gone : states.Kept ≡ states.Absent = sym is ∙ none in cc gone) in field_goes q same u inside short (there some) len_read 0 (long some)
    state_goes states.Tagged is = let some : state_found ≢ states.Absent = λ none. (let gone : states.Tagged ≡ states.Absent = sym is ∙ none in cc gone) in field_goes q same u inside short (there some) len_read 0 (long some)
    state_goes states.Wide is = let some : state_found ≢ states.Absent = λ none. (let gone : states.Wide ≡ states.Absent = sym is ∙ none in cc gone) in field_goes q same u inside short (there some) len_read 0 (long some)
    state_goes states.Moving is = let some : state_found ≢ states.Absent = λ none. (let gone : states.Moving ≡ states.Absent = sym is ∙ none in cc gone) in field_goes q same u inside short (there some) len_read 0 (long some)
    state_goes states.Forward is = let some : state_found ≢ states.Absent = λ none. (let gone : states.Forward ≡ states.Absent = sym is ∙ none in cc gone) in field_goes q same u inside short (there some) len_read 0 (long some)

  free_goes : (q : Search) (same : q ≡ search_for l candidate) (region : ℕ) (free : Bool) → Goes (if free then next_region q region else seek.Header q (record { region = region; offset = 0 }))
  free_goes q same region true = region_goes q region
  free_goes q same region false =
      let first = first_is l fits memory s n rows says c candidate mark plain q same region in
      let place : address q (record { region = region; offset = 0 }) ≡ first_word l region = omega (arith, first) in
      subst (IsBegun s region) (sym place) (elim (rows.begin region) [ inl ends ↦ inr ends | inr begun ↦ inl begun ])

  pub goes_on : (m : SeekMarkMachine) (word : ℕ) → Seeks l candidate m → IsAtObject l s m → FoundBy l fits memory s n rows says c candidate mark plain m word → Goes (fed_of m word)
  goes_on (seek.Region q region) word is at found = free_goes q is.0 region (word == 0)
  goes_on (seek.Header q u) word is at found = subst (λ (x : ℕ). Goes (fed_of (seek.Header q u) x)) (sym found) (state_goes q is.0 u is.1 is.2 at (let h = header_at (memory (address q u)) in h.state) refl)
  goes_on (seek.Field q u len field) word is at found = found_goes q is.0 u is.1 (at_short at) at.0 len field at.1 (word == q.candidate)
    where
      at_short : (s.state (address q u) ≢ Absent) × (s.len (address q u) ≡ len) → u.offset < 64
      at_short there = is.3
  goes_on (seek.Ended q end) word is at found = absurd is

  -- ---- what it has passed

  inside_of : (m : SeekMarkMachine) → Seeks l candidate m → IsAtObject l s m → IsInside m
  inside_of (seek.Region q region) is at = let all = regions_is l fits memory s n rows says c candidate mark plain q is.0 in omega (arith, is.1, all)
  inside_of (seek.Header q u) is at = let all = regions_is l fits memory s n rows says c candidate mark plain q is.0 in (omega (arith, is.1, all), is.2)
  inside_of (seek.Field q u len field) is at =
      let all = regions_is l fits memory s n rows says c candidate mark plain q is.0 in
      let room = within l fits memory s n rows says c candidate mark plain q is.0 u is.1 is.3 (inl at.0) at.0 in
      (omega (arith, is.1, all), is.2, omega (arith, room, at.1))
  inside_of (seek.Ended q end) is at = absurd is

  fits_of : (m : SeekMarkMachine) (word : ℕ) → Seeks l candidate m → IsAtObject l s m → FoundBy l fits memory s n rows says c candidate mark plain m word → FitsRegion m word
  fits_of (seek.Region q region) word is at found = tt
  fits_of (seek.Header q u) word is at found = rw found (fits_header l fits memory s n rows says c candidate mark plain q is.0 u is.1 is.2 at)
  fits_of (seek.Field q u len field) word is at found = tt
  fits_of (seek.Ended q end) word is at found = absurd is

  -- after a region comes the first word of the next
  next_cursor : (q : Search) (region : ℕ) → region < q.regions → cursor_of (next_region q region) ≡ first_of q (region + 1)
  next_cursor q region less = by (nat_lt (region + 1) q.regions) refl
    where
      by : (more : Bool) → nat_lt (region + 1) q.regions ≡ more → cursor_of (if more then seek.Region q (region + 1) else seek.Ended q Clear) ≡ first_of q (region + 1)
      by true e = refl
      by false e = let last : q.regions ≡ region + 1 = grind (arith, nat_tests, e, less) in ap (first_of q) last

  -- a step of it passes such an address
  passes_at : (m : SeekMarkMachine) (word x : ℕ) → Seeks l candidate m → IsAtObject l s m → FoundBy l fits memory s n rows says c candidate mark plain m word → cursor_of m ≤ x → x < cursor_of (fed_of m word) → Passes m word x
      → IsUnmarkedAt l fits memory s n rows says c candidate mark plain x
  passes_at (seek.Region q region) word x is at found low_x high_x passes =
      let all = regions_is l fits memory s n rows says c candidate mark plain q is.0 in
      let cursor : cursor_of (fed_of (seek.Region q region) word) ≡ first_of q (region + 1) = rw passes (next_cursor q region (omega (arith, is.1, all))) in
      free_passed l fits memory s n rows says c candidate mark plain q is.0 region word is.1 found passes x low_x (omega (arith, high_x, cursor))
  passes_at (seek.Header q u) word x is at found low_x high_x passes =
      let all = regions_is l fits memory s n rows says c candidate mark plain q is.0 in
      let ended : (let h = header_at word in h.state) ≡ states.Absent → x < first_of q (u.region + 1) =
      λ none. (let cursor : cursor_of (fed_of (seek.Header q u) word) ≡ first_of q (u.region + 1) = rw none (next_cursor q u.region (omega (arith, is.1, all))) in omega (arith, high_x, cursor)) in
      header_passed l fits memory s n rows says c candidate mark plain q is.0 u is.1 is.2 at x low_x (rw found at ended) (rw found at passes)
  passes_at (seek.Field q u len field) word x is at found low_x high_x passes =
      field_passed l fits memory s n rows says c candidate mark plain q is.0 u len field is.1 is.2 at.0 at.1 is.3 word x found passes
  passes_at (seek.Ended q end) word x is at found low_x high_x passes = absurd is

  pub passes_on : (m : SeekMarkMachine) (word : ℕ) → Seeks l candidate m → HasSought l c s m → FoundBy l fits memory s n rows says c candidate mark plain m word → HasPassed c s (cursor_of (fed_of m word))
  passes_on m word is has found a f home less below = elim (dec_lt (a + 1 + f) (cursor_of m)) [
    | yes early ↦ has.passed a f home less early
    | no late ↦
        let step = stepped m word (inside_of m is has.at) (fits_of m word is has.at found) in
        let low_x : cursor_of m ≤ a + 1 + f = omega (arith, late) in
        passes_at m word (a + 1 + f) is has.at found low_x below (step.0 (a + 1 + f) low_x below) a f (home, less, refl)
  ]
