-- How far a search for a mark has come, and what it has passed.
use Rattle.std.specs.Prelude.{◌≡◌, ◌≢◌, ℕ, ◌+◌, ◌<◌, ◌⊎◌, false}
use Rattle.heap_words.specs.Layouts.{Sizes, regions_of}
use Rattle.mark_search.specs.declared.seek.SeekMarkMachine.{SeekMarkMachine}
use Rattle.mark_search.specs.declared.seek.SeekMarkMachine.TheVariants as seek
use Rattle.mark_search.specs.Seeks.{search_for, address}
use Rattle.mark_search.specs.SeekRuns.{cursor_of}
use Rattle.barriers.specs.States.{Absent, IsHome}
use Rattle.barriers.specs.Spaces.{Space, is_mark}
use Rattle.barriers.specs.Cycles.{Cycle}
use Rattle.lawful_records.specs.declared.collector.CollectorMachine.{CollectorMachine}
use Rattle.lawful_records.specs.declared.collector.CollectorMachine.TheVariants as collector

-- it seeks this word in this layout, and has not ended
abbrev pub Seeks : Sizes → ℕ → SeekMarkMachine → Type 0
Seeks l candidate (seek.Region s region) = (s ≡ search_for l candidate) × (region < regions_of l)
Seeks l candidate (seek.Header s c) = (s ≡ search_for l candidate) × (c.region < regions_of l) × (c.offset < 64)
Seeks l candidate (seek.Field s c len field) = (s ≡ search_for l candidate) × (c.region < regions_of l) × (field < len) × (c.offset < 64)
Seeks l candidate (seek.Ended s end) = ⊥

-- no field of a home below this address is the mark
abbrev pub HasPassed : Cycle → Space → ℕ → Type 0
HasPassed c s end = (a f : ℕ) → IsHome (s.state a) → f < s.len a → a + 1 + f < end → is_mark c.mark (s.field a f) ≡ false

-- an object begins here, or the objects of the region end here
abbrev pub IsBegun : Space → ℕ → ℕ → Type 0
IsBegun s region at = (s.state at ≢ Absent) ⊎ (s.ends region ≡ at)

-- where its next step loads a header, one may be; where a field, that object is there
abbrev pub IsAtObject : Sizes → Space → SeekMarkMachine → Type 0
IsAtObject l s (seek.Header x c) = IsBegun s c.region (address x c)
IsAtObject l s (seek.Field x c len field) = (s.state (address x c) ≢ Absent) × (s.len (address x c) ≡ len)
IsAtObject l s m = Unit {0}

-- a search has come so far
pub record HasSought (l : Sizes) (c : Cycle) (s : Space) (m : SeekMarkMachine) : Type 0 where
  pub at : IsAtObject l s m
  pub passed : HasPassed c s (cursor_of m)

-- what a collector that is in a search has passed
abbrev pub SearchStands : {M : Type 0} → Sizes → Cycle → Space → CollectorMachine M → Type 0
SearchStands l c s (collector.Seek st m) = HasSought l c s m
SearchStands l c s k = Unit {0}
