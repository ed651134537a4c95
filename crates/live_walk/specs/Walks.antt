-- The walk that notes what is live.
use Rattle.std.specs.Prelude.{◌≡◌, ◌≢◌, ℕ, zero, suc, ◌+◌, ◌-◌, ◌*◌, ◌<◌, ◌≤◌, ◌==◌, ◌&&◌, not, nat_lt, nat_le, min, if◌then◌else◌, Bool, true, false, Option, Some, None, refl}
use Rattle.std.proofs.Common.{arith}
use Rattle.std.proofs.lemmas.Bool.Decides.{nat_tests}
use Rattle.call_steps.specs.declared.step.Step.{Step}
use Rattle.call_steps.specs.declared.step.Step.TheVariants.{Load, Store, Ended}
use Rattle.heap_words.specs.Layouts.{Sizes, regions_of, region_at, first_word}
use Rattle.heap_words.specs.declared.limits.TheConstants.{ADDRESS_LIMIT, REGION_WORDS}
use Rattle.object_headers.specs.declared.header.State.{State as HeaderState}
use Rattle.object_headers.specs.declared.header.State.TheVariants as states
use Rattle.object_headers.specs.Headers.{header_at}
use Rattle.space_reclaim.specs.declared.plan.RegionLive.{RegionLive}
use Rattle.space_reclaim.specs.declared.plan.ObjectRow.{ObjectRow}
use Rattle.live_walk.specs.declared.note.Walk.{Walk}
use Rattle.live_walk.specs.declared.note.NoteMachine.{NoteMachine}
use Rattle.live_walk.specs.declared.note.NoteMachine.TheVariants as note
use Rattle.live_walk.specs.declared.note.Finding.{Finding}

-- ---- where it is

-- the walk over the regions of a layout
abbrev pub walk_of : Sizes → Walk
walk_of l = record { words_at = region_at l 0; first_at = first_word l 0; regions = regions_of l; pool = l.pool }

-- the address of the word of a region
abbrev pub word_of : Walk → ℕ → ℕ
word_of w region = min w.words_at ADDRESS_LIMIT + region

-- the address of a region's first word
abbrev pub first_of : Walk → ℕ → ℕ
first_of w region = min w.first_at ADDRESS_LIMIT + REGION_WORDS * region

-- the address of a word of a region
abbrev pub address : Walk → ℕ → ℕ → ℕ
address w region offset = first_of w region + offset

-- ---- what a word says where a header may stand

-- a header in this state is that of an object
abbrev pub is_object : HeaderState → Bool
is_object states.Absent = false
is_object state = true

-- an object in this state is live
abbrev pub is_live : HeaderState → Bool
is_live states.Absent = false
is_live states.Dead = false
is_live state = true

-- where the next header stands, if an object begins at this word of a region
abbrev pub offset_after : ℕ → ℕ → ℕ
offset_after offset word = let h = header_at word in offset + 1 + h.len

-- an object begins at this word of a region, and ends in it
abbrev pub begins : ℕ → ℕ → Bool
begins offset word = let h = header_at word in is_object h.state && nat_le (offset_after offset word) REGION_WORDS

-- a live one
abbrev pub is_live_at : ℕ → ℕ → Bool
is_live_at offset word = let h = header_at word in begins offset word && is_live h.state

-- an object begins here after which a header may stand
abbrev pub goes_on : ℕ → ℕ → Bool
goes_on offset word = begins offset word && nat_lt (offset_after offset word) REGION_WORDS

-- how many words the live objects take with the one that begins here
abbrev pub counted : ℕ → ℕ → ℕ → ℕ
counted offset word live =
    let h = header_at word in if is_live_at offset word then min live REGION_WORDS + h.len + 1 else live

-- in a region that was Filled
abbrev pub counted_in : ℕ → ℕ → Option ℕ → Option ℕ
counted_in offset word None = None
counted_in offset word (Some live) = Some (counted offset word live)

-- ---- the machine

-- after a region
abbrev pub next_region : Walk → ℕ → NoteMachine
next_region w region = if nat_lt (region + 1) w.regions then note.Region w (region + 1) else note.Ended w

-- with a word at hand where a header may stand
abbrev pub with_header : Walk → ℕ → ℕ → Option ℕ → ℕ → NoteMachine
with_header w region offset live word =
    if goes_on offset word
    then note.Header w region (offset_after offset word) (counted_in offset word live)
    else next_region w region

-- with the word of a region at hand: that of a Free region is 0, and that of a Filled one is 2
abbrev pub with_region : Walk → ℕ → ℕ → NoteMachine
with_region w region word =
    if word == 0 then next_region w region else note.Header w region 0 (if word == 2 then Some 0 else None)

-- as it begins
abbrev pub begun : Sizes → NoteMachine
begun l = note.Region (walk_of l) 0

-- the step that it takes next
abbrev pub asks_of : NoteMachine → Step
asks_of (note.Region w region) = Load (word_of w region)
asks_of (note.Header w region offset live) = Load (address w region offset)
asks_of (note.Ended w) = Ended

-- what it is after it was fed a word
abbrev pub fed_of : NoteMachine → ℕ → NoteMachine
fed_of (note.Region w region) found = with_region w region found
fed_of (note.Header w region offset live) found = with_header w region offset live found
fed_of (note.Ended w) found = note.Ended w

pub blind_of : (m : NoteMachine) (at put n : ℕ) → asks_of m ≡ Store at put → fed_of m n ≡ fed_of m 0
blind_of (note.Region w region) at put n e = absurd cc
blind_of (note.Header w region offset live) at put n e = absurd cc
blind_of (note.Ended w) at put n e = refl

-- ---- what a step tells

-- the row of the live object that begins at this word of a region
abbrev pub row_at : Walk → ℕ → ℕ → ℕ → ObjectRow
row_at w region offset word =
    let h = header_at word in
    record { region = region; birth = h.birth; at = address w region offset; len = h.len; header = word }

-- if one does
abbrev pub object_at : Walk → ℕ → ℕ → ℕ → Option ObjectRow
object_at w region offset word = if is_live_at offset word then Some (row_at w region offset word) else None

-- the row of a region that ends with this word
abbrev pub region_at_end : ℕ → ℕ → ℕ → ℕ → Option RegionLive
region_at_end region offset live word =
    if goes_on offset word then None else Some (record { region = region; words = counted offset word live })

-- a region of the pool, if its word is that of a Free one
abbrev pub free_at : Walk → ℕ → ℕ → Option ℕ
free_at w region word = if (word == 0) && nat_lt region w.pool then Some region else None

abbrev pub tells : Option ℕ → Option ObjectRow → Option RegionLive → Finding
tells free object region = record { free = free; object = object; region = region }

-- with the word found: a region of the pool that is Free; in a Filled region a live object, and at its end the region
abbrev pub finding_of : NoteMachine → ℕ → Finding
finding_of (note.Region w region) found = tells (free_at w region found) None None
finding_of (note.Header w region offset (Some live)) found =
    tells None (object_at w region offset found) (region_at_end region offset live found)
finding_of (note.Header w region offset None) found = tells None None None
finding_of (note.Ended w) found = tells None None None

-- ---- how many steps are left

-- how many regions come after this one
abbrev pub regions_after : Walk → ℕ → ℕ
regions_after w region = w.regions - (region + 1)

-- at most: 65 for each region
abbrev pub left_of : NoteMachine → ℕ
left_of (note.Region w region) = 65 * regions_after w region + 65
left_of (note.Header w region offset live) = 65 * regions_after w region + 1 + (63 - offset)
left_of (note.Ended w) = 0

pub none_left : (m : NoteMachine) → asks_of m ≡ Ended → left_of m ≡ 0
none_left (note.Region w region) e = absurd cc
none_left (note.Header w region offset live) e = absurd cc
none_left (note.Ended w) e = refl

pub some_left : (m : NoteMachine) → left_of m ≡ 0 → asks_of m ≡ Ended
some_left (note.Region w region) e = absurd (omega arith)
some_left (note.Header w region offset live) e = absurd (omega arith)
some_left (note.Ended w) e = refl

region_falls : (w : Walk) (region : ℕ) (b : Bool) → nat_lt (region + 1) w.regions ≡ b
    → left_of (if b then note.Region w (region + 1) else note.Ended w) ≤ 65 * regions_after w region
region_falls w region true e = let more : region + 1 < w.regions = grind (arith, nat_tests, e) in omega (arith, more)
region_falls w region false e = omega arith

free_falls : (w : Walk) (region : ℕ) (live : Option ℕ) (b : Bool)
    → left_of (if b then next_region w region else note.Header w region 0 live) < 65 * regions_after w region + 65
free_falls w region live true = let next = region_falls w region (nat_lt (region + 1) w.regions) refl in omega (arith, next)
free_falls w region live false = omega arith

header_falls : (w : Walk) (region offset next : ℕ) (live : Option ℕ) (fits b : Bool) → offset < next
    → (fits && nat_lt next REGION_WORDS) ≡ b
    → left_of (if b then note.Header w region next live else next_region w region)
    < 65 * regions_after w region + 1 + (63 - offset)
header_falls w region offset next live fits true rises e = let less : next < 64 = grind (arith, nat_tests, e) in omega (arith, less)
header_falls w region offset next live fits false rises e = let after = region_falls w region (nat_lt (region + 1) w.regions) refl in omega (arith, after)

pub falls : (m : NoteMachine) (n : ℕ) → asks_of m ≢ Ended → left_of (fed_of m n) < left_of m
falls (note.Region w region) n on = free_falls w region (if n == 2 then Some 0 else None) (n == 0)
falls (note.Header w region offset live) n on = header_falls w region offset (offset_after offset n) (counted_in offset n live) (begins offset n) (goes_on offset n) (omega arith) refl
falls (note.Ended w) n on = absurd (on refl)
