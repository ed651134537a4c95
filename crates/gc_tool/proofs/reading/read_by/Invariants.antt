use Rattle.std.proofs.Common.{◌≡◌, ◌<◌, ◌≤◌, ◌-◌, length}
use Rattle.std.specs.Io.KnownBytes.{Consumes}
use Rattle.std.specs.Vec.{vec_len}
use Rattle.gc_tool.proofs.reading.read_by.Given as goal

-- the source gave the bytes so far, of which there are not too many
abbrev pub invariant-loop-count : goal.invariant-loop-count
invariant-loop-count g l = record {
  given : Consumes (g.S.Source.left l.fn.source) (g.S.Source.left l.source) l.bytes.items;
  short : length l.bytes.items ≤ 1048576;
  faults : g.S.Source.faults l.source ≡ g.S.Source.faults l.fn.source;
  room : 0 < length l.buffer;
}

-- how many bytes may still come
abbrev pub decreases-loop-count : goal.decreases-loop-count
decreases-loop-count g l = 1048576 - vec_len l.bytes
