use Rattle.std.proofs.Common.{◌≡◌, map}
use Rattle.std.specs.List.{flat_map, range_with_len}
use Rattle.cycle_journal.specs.LastHeaps.{line_at, live_in}
use Rattle.cycle_journal.specs.Lines.{lines_of}
use Rattle.cycle_journal.proofs.walk.live_lines.Given as goal

abbrev pub invariant-loop-region : goal.invariant-loop-region
invariant-loop-region l = lines_of l.lines.items ≡ map (line_at l.words) (flat_map (live_in l.layout l.words) (range_with_len 0 l.region))
