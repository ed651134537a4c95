-- A search stays one of its layout and its candidate until it ends.
use Rattle.std.specs.Prelude.{nat_lt, if◌then◌else◌}
use Rattle.std.proofs.Common.{◌≡◌, ℕ, ◌+◌, ◌<◌, ◌==◌, Bool, true, false, None, refl, ◌∙◌, subst, arith}
use Rattle.std.proofs.lemmas.Bool.Decides.{nat_tests}
use Rattle.heap_words.specs.Layouts.{Sizes, IsLayout, regions_of}
use Rattle.heap_words.specs.declared.limits.TheConstants.{REGION_WORDS}
use Rattle.object_headers.specs.declared.header.State.{State as HeaderState}
use Rattle.object_headers.specs.declared.header.State.TheVariants as states
use Rattle.object_headers.specs.Headers.{header_at}
use Rattle.mark_search.specs.declared.seek.Cursor.{Cursor}
use Rattle.mark_search.specs.declared.seek.Search.{Search}
use Rattle.mark_search.specs.declared.seek.SeekMarkMachine.{SeekMarkMachine}
use Rattle.mark_search.specs.declared.seek.SeekMarkMachine.TheVariants as seek
use Rattle.mark_search.specs.declared.seek.SeekEnd.TheVariants.{Clear, MarkFound}
use Rattle.mark_search.specs.Seeks.{search_for, address, begun, next_region, next_object, next_field, after_field, by_state, fed_of, end_of}
use Rattle.lawful_records.specs.Searches.{Seeks}

pub seeks_begun : (l k : Sizes) (candidate : ℕ) → IsLayout l → k ≡ l → Seeks l candidate (begun k candidate)
seeks_begun l k candidate fits same = rw same (refl, omega (arith, fits.pool.0))

module _ (l : Sizes) (candidate : ℕ) (s : Search) (same : s ≡ search_for l candidate) where
  -- it seeks on, unless it has ended
  abbrev On : SeekMarkMachine → Type 0
  On m = end_of m ≡ None → Seeks l candidate m

  regions_same : (region : ℕ) → region < s.regions → region < regions_of l
  regions_same region less = subst (λ (x : Search). region < x.regions) same less

  region_on : (region : ℕ) (more : Bool) → nat_lt (region + 1) s.regions ≡ more → On (if more then seek.Region s (region + 1) else seek.Ended s Clear)
  region_on region true e on = (same, regions_same (region + 1) (grind (arith, nat_tests, e)))
  region_on region false e on = absurd (cc on)

  object_on : (c : Cursor) (len : ℕ) → c.region < regions_of l → (more : Bool) → nat_lt (c.offset + 1 + len) REGION_WORDS ≡ more → On (if more then seek.Header s (record c { offset = c.offset + 1 + len }) else next_region s c.region)
  object_on c len inside true e on = (same, inside, grind (arith, nat_tests, e))
  object_on c len inside false e on = region_on c.region (nat_lt (c.region + 1) s.regions) refl on

  field_on : (c : Cursor) (len field : ℕ) → c.region < regions_of l → c.offset < 64 → (more : Bool) → nat_lt field len ≡ more → On (if more then seek.Field s c len field else next_object s c len)
  field_on c len field inside short true e on = (same, inside, grind (arith, nat_tests, e), short)
  field_on c len field inside short false e on = object_on c len inside (nat_lt (c.offset + 1 + len) REGION_WORDS) refl on

  after_on : (c : Cursor) (len field : ℕ) → c.region < regions_of l → c.offset < 64 → (more : Bool) → On (if more then next_field s c len (field + 1) else next_object s c len)
  after_on c len field inside short true = field_on c len (field + 1) inside short (nat_lt (field + 1) len) refl
  after_on c len field inside short false = object_on c len inside (nat_lt (c.offset + 1 + len) REGION_WORDS) refl

  state_on : (c : Cursor) (state : HeaderState) (len : ℕ) → c.region < regions_of l → c.offset < 64 → On (by_state s c state len)
  state_on c states.Absent len inside short = region_on c.region (nat_lt (c.region + 1) s.regions) refl
  state_on c states.Dead len inside short = object_on c len inside (nat_lt (c.offset + 1 + len) REGION_WORDS) refl
  state_on c states.Plain len inside short = field_on c len 0 inside short (nat_lt 0 len) refl
  state_on c states.Kept len inside short = field_on c len 0 inside short (nat_lt 0 len) refl
  state_on c states.Tagged len inside short = field_on c len 0 inside short (nat_lt 0 len) refl
  state_on c states.Wide len inside short = field_on c len 0 inside short (nat_lt 0 len) refl
  state_on c states.Moving len inside short = field_on c len 0 inside short (nat_lt 0 len) refl
  state_on c states.Forward len inside short = field_on c len 0 inside short (nat_lt 0 len) refl

  free_on : (region : ℕ) → region < regions_of l → (free : Bool) → On (if free then next_region s region else seek.Header s (record { region = region; offset = 0 }))
  free_on region inside true = region_on region (nat_lt (region + 1) s.regions) refl
  free_on region inside false = λ on. (same, inside, omega arith)

  found_on : (c : Cursor) (len field : ℕ) → c.region < regions_of l → c.offset < 64 → (found : Bool) → On (if found then seek.Ended s (MarkFound (record { at = address s c; field = field })) else after_field s c len field)
  found_on c len field inside short true = λ on. absurd (cc on)
  found_on c len field inside short false = after_on c len field inside short (nat_lt field len)

pub seeks_on : (l : Sizes) (candidate : ℕ) (m : SeekMarkMachine) (found : ℕ) → Seeks l candidate m → end_of (fed_of m found) ≡ None → Seeks l candidate (fed_of m found)
seeks_on l candidate (seek.Region s region) found is = free_on l candidate s is.0 region is.1 (found == 0)
seeks_on l candidate (seek.Header s c) found is = let h = header_at found in state_on l candidate s is.0 c h.state h.len is.1 is.2
seeks_on l candidate (seek.Field s c len field) found is = found_on l candidate s is.0 c len field is.1 is.3 (found == s.candidate)
seeks_on l candidate (seek.Ended s end) found is = absurd is

-- ---- what it seeks, and where

abbrev pub search_in : SeekMarkMachine → Search
search_in (seek.Region s region) = s
search_in (seek.Header s c) = s
search_in (seek.Field s c len field) = s
search_in (seek.Ended s end) = s

module _ (s : Search) where
  abbrev Kept : SeekMarkMachine → Type 0
  Kept m = search_in m ≡ s

  by_test : (b : Bool) (m k : SeekMarkMachine) → Kept m → Kept k → Kept (if b then m else k)
  by_test true m k one other = one
  by_test false m k one other = other

  region_keeps : (region : ℕ) → Kept (next_region s region)
  region_keeps region = by_test (nat_lt (region + 1) s.regions) (seek.Region s (region + 1)) (seek.Ended s Clear) refl refl

  object_keeps : (c : Cursor) (len : ℕ) → Kept (next_object s c len)
  object_keeps c len = by_test (nat_lt (c.offset + 1 + len) REGION_WORDS) (seek.Header s (record c { offset = c.offset + 1 + len })) (next_region s c.region) refl (region_keeps c.region)

  field_keeps : (c : Cursor) (len field : ℕ) → Kept (next_field s c len field)
  field_keeps c len field = by_test (nat_lt field len) (seek.Field s c len field) (next_object s c len) refl (object_keeps c len)

  after_keeps : (c : Cursor) (len field : ℕ) → Kept (after_field s c len field)
  after_keeps c len field = by_test (nat_lt field len) (next_field s c len (field + 1)) (next_object s c len) (field_keeps c len (field + 1)) (object_keeps c len)

  state_keeps : (c : Cursor) (state : HeaderState) (len : ℕ) → Kept (by_state s c state len)
  state_keeps c states.Absent len = region_keeps c.region
  state_keeps c states.Dead len = object_keeps c len
  state_keeps c states.Plain len = field_keeps c len 0
  state_keeps c states.Kept len = field_keeps c len 0
  state_keeps c states.Tagged len = field_keeps c len 0
  state_keeps c states.Wide len = field_keeps c len 0
  state_keeps c states.Moving len = field_keeps c len 0
  state_keeps c states.Forward len = field_keeps c len 0

-- a step leaves it
pub search_kept : (l : Sizes) (candidate : ℕ) (m : SeekMarkMachine) (found : ℕ) → Seeks l candidate m → search_in (fed_of m found) ≡ search_for l candidate
search_kept l candidate (seek.Region s region) found is = by_test s (found == 0) (next_region s region) (seek.Header s (record { region = region; offset = 0 })) (region_keeps s region) refl ∙ is.0
search_kept l candidate (seek.Header s c) found is = (let h = header_at found in state_keeps s c h.state h.len) ∙ is.0
search_kept l candidate (seek.Field s c len field) found is = by_test s (found == s.candidate) (seek.Ended s (MarkFound (record { at = address s c; field = field }))) (after_field s c len field) refl (after_keeps s c len field) ∙ is.0
search_kept l candidate (seek.Ended s end) found is = absurd is
