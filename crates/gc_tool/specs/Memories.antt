-- A source and a sink in memory, of which each call is known exactly.
use Rattle.std.specs.Prelude.{◌≡◌, ℕ, ◌-◌, ◌<◌, ◌⊎◌, min, List, ◌++◌, length, drop, Contains}
use Rattle.gc_tool.specs.Outside.{one_more}

-- the bytes that are left, how many a call moves at most, the numbers of the calls that fail,
-- and how many calls were made and failed
pub record MemoryToRead : Type 0 where
  pub left : List ℕ
  pub piece : ℕ
  pub fails : List ℕ
  pub calls : ℕ
  pub faults : ℕ

-- the bytes that were taken, how many bytes there is room for in all, and the rest as for a source
pub record MemoryToWrite : Type 0 where
  pub held : List ℕ
  pub room : ℕ
  pub piece : ℕ
  pub fails : List ℕ
  pub calls : ℕ
  pub faults : ℕ

-- how many bytes a call moves into a buffer of this length
abbrev pub count_to_take : MemoryToRead → ℕ → ℕ
count_to_take source buffer = min (min source.piece buffer) (length source.left)

-- the source after it gave this number of bytes
abbrev pub after_taking : MemoryToRead → ℕ → MemoryToRead
after_taking source count = record source { left = drop count source.left; calls = one_more source.calls }

-- the source after a call that failed
abbrev pub after_failing_to_take : MemoryToRead → MemoryToRead
after_failing_to_take source = record source { calls = one_more source.calls; faults = one_more source.faults }

-- the next call is one of those that fail
abbrev pub FailsToTake : MemoryToRead → Type 0
FailsToTake source = Contains source.fails (one_more source.calls)

-- how many bytes of a piece of this length a call takes
abbrev pub count_to_give : MemoryToWrite → ℕ → ℕ
count_to_give sink bytes = min (min sink.piece (sink.room - length sink.held)) bytes

-- the sink after it took these bytes
abbrev pub after_giving : MemoryToWrite → List ℕ → MemoryToWrite
after_giving sink bytes = record sink { held = sink.held ++ bytes; calls = one_more sink.calls }

-- the sink after a call that failed
abbrev pub after_failing_to_give : MemoryToWrite → MemoryToWrite
after_failing_to_give sink = record sink { calls = one_more sink.calls; faults = one_more sink.faults }

-- the next call is one of those that fail, or it gives bytes and no room is left
abbrev pub FailsToGive : MemoryToWrite → List ℕ → Type 0
FailsToGive sink bytes = Contains sink.fails (one_more sink.calls) ⊎ ((length sink.held ≡ sink.room) × (0 < length bytes))
