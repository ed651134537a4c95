-- The walk that fixes the fields of all objects.
use Rattle.std.specs.Prelude.{◌≡◌, ℕ, ◌+◌, ◌*◌, ◌==◌, nat_lt, min, if◌then◌else◌, Option, Some, None, refl}
use Rattle.call_steps.specs.declared.step.Step.{Step}
use Rattle.call_steps.specs.declared.step.Step.TheVariants.{Load, Store, Ended}
use Rattle.heap_words.specs.Layouts.{Sizes, regions_of, region_at, first_word}
use Rattle.heap_words.specs.declared.limits.TheConstants.{ADDRESS_LIMIT, REGION_WORDS}
use Rattle.object_headers.specs.declared.header.State.{State as HeaderState}
use Rattle.object_headers.specs.declared.header.State.TheVariants as states
use Rattle.object_headers.specs.Headers.{header_at}
use Rattle.reference_fix.specs.declared.field_fix.FixMachine.{FixMachine}
use Rattle.reference_fix.specs.declared.field_fix.FixMachine.TheVariants as fix
use Rattle.reference_fix.specs.declared.fix_walk.Area.{Area}
use Rattle.reference_fix.specs.declared.fix_walk.Cursor.{Cursor}
use Rattle.reference_fix.specs.declared.fix_walk.FixWalkMachine.{FixWalkMachine}
use Rattle.reference_fix.specs.declared.fix_walk.FixWalkMachine.TheVariants as walk
use Rattle.reference_fix.specs.FieldFixes as fields

-- ---- where it is

-- the regions of a layout
abbrev pub area_of : Sizes → Area
area_of l = record { words_at = region_at l 0; first_at = first_word l 0; regions = regions_of l }

-- the address of the word of a region
abbrev pub word_of : Area → ℕ → ℕ
word_of a region = min a.words_at ADDRESS_LIMIT + region

-- the address of a region's first word
abbrev pub first_of : Area → ℕ → ℕ
first_of a region = min a.first_at ADDRESS_LIMIT + REGION_WORDS * region

-- the address at a cursor
abbrev pub address : Area → Cursor → ℕ
address a c = first_of a c.region + c.offset

-- ---- how it goes on

-- after the last object of a region
abbrev pub next_region : Area → ℕ → FixWalkMachine
next_region a region = if nat_lt (region + 1) a.regions then walk.Region a (region + 1) else walk.Ended a

-- after an object of this length: where the region has not ended a header comes
abbrev pub next_object : Area → Cursor → ℕ → FixWalkMachine
next_object a c len = if nat_lt (c.offset + 1 + len) REGION_WORDS then walk.Header a (record c { offset = c.offset + 1 + len }) else next_region a c.region

-- with the fields before this one fixed
abbrev pub next_field : Area → Cursor → ℕ → ℕ → FixWalkMachine
next_field a c len field = if nat_lt field len then walk.Field a c len field (fix.Field (address a c + 1 + field)) else next_object a c len

-- with this one fixed, too
abbrev pub after_field : Area → Cursor → ℕ → ℕ → FixWalkMachine
after_field a c len field = if nat_lt field len then next_field a c len (field + 1) else next_object a c len

-- after a step of the fix of a field
abbrev pub fixed_on : Area → Cursor → ℕ → ℕ → FixMachine → FixWalkMachine
fixed_on a c len field fix.Ended = after_field a c len field
fixed_on a c len field m = walk.Field a c len field m

-- with a header at hand, by its state
abbrev pub by_state : Area → Cursor → HeaderState → ℕ → FixWalkMachine
by_state a c states.Absent len = next_region a c.region
by_state a c states.Plain len = next_field a c len 0
by_state a c states.Kept len = next_field a c len 0
by_state a c state len = next_object a c len

abbrev pub with_header : Area → Cursor → ℕ → FixWalkMachine
with_header a c word = let h = header_at word in by_state a c h.state h.len

-- ---- the machine

-- as it begins
abbrev pub begun : Sizes → FixWalkMachine
begun l = walk.Region (area_of l) 0

-- the step that it takes next
abbrev pub asks_of : FixWalkMachine → Step
asks_of (walk.Region a region) = Load (word_of a region)
asks_of (walk.Header a c) = Load (address a c)
asks_of (walk.Field a c len field m) = fields.asks_of m
asks_of (walk.Ended a) = Ended

-- what it is after it was fed a word; that of a Free region is 0
abbrev pub fed_of : FixWalkMachine → ℕ → FixWalkMachine
fed_of (walk.Region a region) found = if found == 0 then next_region a region else walk.Header a (record { region = region; offset = 0 })
fed_of (walk.Header a c) found = with_header a c found
fed_of (walk.Field a c len field m) found = fixed_on a c len field (fields.fed_of m found)
fed_of (walk.Ended a) found = walk.Ended a

-- whether it has ended
abbrev pub end_of : FixWalkMachine → Option (Unit {0})
end_of (walk.Ended a) = Some tt
end_of (walk.Field a c len field m) = fields.end_of m
end_of m = None

pub blind_of : (m : FixWalkMachine) (at put n : ℕ) → asks_of m ≡ Store at put → fed_of m n ≡ fed_of m 0
blind_of (walk.Region a region) at put n e = absurd cc
blind_of (walk.Header a c) at put n e = absurd cc
blind_of (walk.Field a c len field m) at put n e = rw (fields.blind_of m at put n e) refl
blind_of (walk.Ended a) at put n e = refl
