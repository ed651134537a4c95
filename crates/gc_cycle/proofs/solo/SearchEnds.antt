-- A search for a mark ends: each of its steps leaves fewer, whatever word it finds.
use Rattle.std.proofs.Common.{◌≡◌, ℕ, ◌+◌, ◌-◌, ◌*◌, ◌<◌, ◌≤◌, ◌==◌, Bool, true, false, Option, Some, None, refl, ap, arith, lit≤}
use Rattle.std.specs.Prelude.{nat_lt, unwrap_or, if◌then◌else◌}
use Rattle.heap_words.specs.Layouts.{Sizes, regions_of}
use Rattle.heap_words.specs.declared.limits.TheConstants.{REGION_WORDS}
use Rattle.object_headers.specs.declared.header.Header.{Header}
use Rattle.object_headers.specs.declared.header.State.{State as HeaderState}
use Rattle.object_headers.specs.declared.header.State.TheVariants as states
use Rattle.object_headers.specs.Headers.{IsHeader, header_of, header_at, absent}
use Rattle.object_headers.specs.HeaderLaws.{header_of-fits}
use Rattle.mark_search.specs.declared.seek.Search.{Search}
use Rattle.mark_search.specs.declared.seek.Cursor.{Cursor}
use Rattle.mark_search.specs.declared.seek.SeekEnd.TheVariants.{Clear, MarkFound}
use Rattle.mark_search.specs.declared.seek.SeekMarkMachine.{SeekMarkMachine}
use Rattle.mark_search.specs.declared.seek.SeekMarkMachine.TheVariants as seek
use Rattle.mark_search.specs.Seeks.{address, next_region, next_object, next_field, after_field, by_state, fed_of}
use Rattle.lawful_records.specs.Searches.{Seeks}

-- ---- how many steps it has left at most

-- of a region: its word, its 64 words, and the fields of an object that would go on behind it
abbrev pub region_steps : ℕ
region_steps = 96

-- of the regions behind one
abbrev behind : Search → ℕ → ℕ
behind s region = region_steps * (s.regions - (region + 1))

-- from an offset of a region on
abbrev from : Search → ℕ → ℕ → ℕ
from s region offset = region_steps - 1 - offset + behind s region

abbrev pub seek_left : SeekMarkMachine → ℕ
seek_left (seek.Region s region) = region_steps * (s.regions - region)
seek_left (seek.Header s c) = from s c.region c.offset
seek_left (seek.Field s c len field) = len - field + from s c.region (c.offset + 1 + len)
seek_left (seek.Ended s end) = 0

-- ---- what it goes on to

region_left : (s : Search) (region : ℕ) → seek_left (next_region s region) ≤ behind s region
region_left s region = by (nat_lt (region + 1) s.regions)
  where
    by : (b : Bool) → seek_left (if b then seek.Region s (region + 1) else seek.Ended s Clear) ≤ behind s region
    by true = omega arith
    by false = omega arith

object_left : (s : Search) (c : Cursor) (len : ℕ) → seek_left (next_object s c len) ≤ from s c.region (c.offset + 1 + len)
object_left s c len = by (nat_lt (c.offset + 1 + len) REGION_WORDS)
  where
    by : (b : Bool) → seek_left (if b then seek.Header s (record c { offset = c.offset + 1 + len }) else next_region s c.region) ≤ from s c.region (c.offset + 1 + len)
    by true = omega arith
    by false = omega (arith, region_left s c.region)

field_left : (s : Search) (c : Cursor) (len field : ℕ) → seek_left (next_field s c len field) ≤ len - field + from s c.region (c.offset + 1 + len)
field_left s c len field = by (nat_lt field len)
  where
    by : (b : Bool) → seek_left (if b then seek.Field s c len field else next_object s c len) ≤ len - field + from s c.region (c.offset + 1 + len)
    by true = omega arith
    by false = omega (arith, object_left s c len)

after_left : (s : Search) (c : Cursor) (len field : ℕ) → field < len → seek_left (after_field s c len field) < len - field + from s c.region (c.offset + 1 + len)
after_left s c len field inside = by (nat_lt field len)
  where
    by : (b : Bool) → seek_left (if b then next_field s c len (field + 1) else next_object s c len) < len - field + from s c.region (c.offset + 1 + len)
    by true = omega (arith, inside, field_left s c len (field + 1))
    by false = omega (arith, inside, object_left s c len)

-- no word is that of a header of more than 30 fields
len_of : (o : Option Header) → ((h : Header) → o ≡ Some h → IsHeader h) → (let h = unwrap_or o absent in h.len) ≤ 30
len_of None fits = lit≤ tt
len_of (Some h) fits = let is = fits h refl in omega (arith, is.len)

some_fits : (word : ℕ) (h : Header) → header_of word ≡ Some h → IsHeader h
some_fits word h e = grind (arith, header_of-fits word, e)

few_fields : (word : ℕ) → (let h = header_at word in h.len) ≤ 30
unfolding header_at
few_fields word = len_of (header_of word) (some_fits word)

-- after a header of few fields
state_left : (s : Search) (c : Cursor) (state : HeaderState) (len : ℕ) → c.offset < 64 → len ≤ 30 → seek_left (by_state s c state len) < from s c.region c.offset
state_left s c states.Absent len inside few = omega (arith, inside, region_left s c.region)
state_left s c states.Dead len inside few = omega (arith, inside, few, object_left s c len)
state_left s c states.Plain len inside few = omega (arith, inside, few, field_left s c len 0)
state_left s c states.Kept len inside few = omega (arith, inside, few, field_left s c len 0)
state_left s c states.Tagged len inside few = omega (arith, inside, few, field_left s c len 0)
state_left s c states.Wide len inside few = omega (arith, inside, few, field_left s c len 0)
state_left s c states.Moving len inside few = omega (arith, inside, few, field_left s c len 0)
state_left s c states.Forward len inside few = omega (arith, inside, few, field_left s c len 0)

word_left : (s : Search) (region : ℕ) (free : Bool) → region < s.regions → seek_left (if free then next_region s region else seek.Header s (record { region = region; offset = 0 })) < region_steps * (s.regions - region)
word_left s region true inside = omega (arith, inside, region_left s region)
word_left s region false inside = omega (arith, inside)

value_left : (s : Search) (c : Cursor) (len field : ℕ) (found : Bool) → field < len
    → seek_left (if found then seek.Ended s (MarkFound (record { at = address s c; field = field })) else after_field s c len field) < len - field + from s c.region (c.offset + 1 + len)
value_left s c len field true inside = omega (arith, inside)
value_left s c len field false inside = after_left s c len field inside

-- ---- its step

pub seek_falls : (l : Sizes) (candidate : ℕ) (m : SeekMarkMachine) (found : ℕ) → Seeks l candidate m → seek_left (fed_of m found) < seek_left m
seek_falls l candidate (seek.Region s region) found is =
    let same : s.regions ≡ regions_of l = ap (λ (x : Search). x.regions) is.0 in
    word_left s region (found == 0) (omega (arith, same, is.1))
seek_falls l candidate (seek.Header s c) found is = let h = header_at found in state_left s c h.state h.len is.2 (few_fields found)
seek_falls l candidate (seek.Field s c len field) found is = value_left s c len field (found == s.candidate) is.2
seek_falls l candidate (seek.Ended s end) found is = absurd is
