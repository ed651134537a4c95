-- The search for a field that holds a mark as a value.
use Rattle.std.specs.Prelude.{◌≡◌, ℕ, ◌+◌, ◌*◌, ◌==◌, nat_lt, min, if◌then◌else◌, Option, Some, None, refl}
use Rattle.call_steps.specs.declared.step.Step.{Step}
use Rattle.call_steps.specs.declared.step.Step.TheVariants.{Load, Store, Ended}
use Rattle.heap_words.specs.Layouts.{Sizes, regions_of, region_at, first_word}
use Rattle.heap_words.specs.declared.limits.TheConstants.{ADDRESS_LIMIT, REGION_WORDS}
use Rattle.object_headers.specs.declared.header.State.{State as HeaderState}
use Rattle.object_headers.specs.declared.header.State.TheVariants as states
use Rattle.object_headers.specs.Headers.{header_at}
use Rattle.mark_search.specs.declared.seek.Search.{Search}
use Rattle.mark_search.specs.declared.seek.Cursor.{Cursor}
use Rattle.mark_search.specs.declared.seek.SeekEnd.{SeekEnd}
use Rattle.mark_search.specs.declared.seek.SeekEnd.TheVariants.{Clear, MarkFound}
use Rattle.mark_search.specs.declared.seek.SeekMarkMachine.{SeekMarkMachine}
use Rattle.mark_search.specs.declared.seek.SeekMarkMachine.TheVariants as seek

-- ---- where it is

-- the search for this candidate in a layout
abbrev pub search_for : Sizes → ℕ → Search
search_for l candidate = record { candidate = candidate; words_at = region_at l 0; first_at = first_word l 0; regions = regions_of l }

-- the address of the word of a region
abbrev pub word_of : Search → ℕ → ℕ
word_of s region = min s.words_at ADDRESS_LIMIT + region

-- the address of a region's first word
abbrev pub first_of : Search → ℕ → ℕ
first_of s region = min s.first_at ADDRESS_LIMIT + REGION_WORDS * region

-- the address at a cursor
abbrev pub address : Search → Cursor → ℕ
address s c = first_of s c.region + c.offset

-- ---- how it goes on

-- after the last object of a region
abbrev pub next_region : Search → ℕ → SeekMarkMachine
next_region s region = if nat_lt (region + 1) s.regions then seek.Region s (region + 1) else seek.Ended s Clear

-- after an object of this length: where the region has not ended a header comes
abbrev pub next_object : Search → Cursor → ℕ → SeekMarkMachine
next_object s c len = if nat_lt (c.offset + 1 + len) REGION_WORDS then seek.Header s (record c { offset = c.offset + 1 + len }) else next_region s c.region

-- with the fields before this one loaded
abbrev pub next_field : Search → Cursor → ℕ → ℕ → SeekMarkMachine
next_field s c len field = if nat_lt field len then seek.Field s c len field else next_object s c len

-- with this one loaded, too
abbrev pub after_field : Search → Cursor → ℕ → ℕ → SeekMarkMachine
after_field s c len field = if nat_lt field len then next_field s c len (field + 1) else next_object s c len

-- with a header at hand, by its state
abbrev pub by_state : Search → Cursor → HeaderState → ℕ → SeekMarkMachine
by_state s c states.Absent len = next_region s c.region
by_state s c states.Dead len = next_object s c len
by_state s c state len = next_field s c len 0

abbrev pub with_header : Search → Cursor → ℕ → SeekMarkMachine
with_header s c word = let h = header_at word in by_state s c h.state h.len

-- ---- the machine

-- as it begins
abbrev pub begun : Sizes → ℕ → SeekMarkMachine
begun l candidate = seek.Region (search_for l candidate) 0

-- the step that it takes next
abbrev pub asks_of : SeekMarkMachine → Step
asks_of (seek.Region s region) = Load (word_of s region)
asks_of (seek.Header s c) = Load (address s c)
asks_of (seek.Field s c len field) = Load (address s c + 1 + field)
asks_of (seek.Ended s end) = Ended

-- what it is after it was fed a word; that of a Free region is 0
abbrev pub fed_of : SeekMarkMachine → ℕ → SeekMarkMachine
fed_of (seek.Region s region) found = if found == 0 then next_region s region else seek.Header s (record { region = region; offset = 0 })
fed_of (seek.Header s c) found = with_header s c found
fed_of (seek.Field s c len field) found = if found == s.candidate then seek.Ended s (MarkFound (record { at = address s c; field = field })) else after_field s c len field
fed_of (seek.Ended s end) found = seek.Ended s end

-- how it ended
abbrev pub end_of : SeekMarkMachine → Option SeekEnd
end_of (seek.Ended s end) = Some end
end_of m = None

pub blind_of : (m : SeekMarkMachine) (at put n : ℕ) → asks_of m ≡ Store at put → fed_of m n ≡ fed_of m 0
blind_of (seek.Region s region) at put n e = absurd cc
blind_of (seek.Header s c) at put n e = absurd cc
blind_of (seek.Field s c len field) at put n e = absurd cc
blind_of (seek.Ended s end) at put n e = refl
