use Rattle.std.proofs.Common.{◌≡◌, ◌+◌, ◌-◌, ◌≤◌, ◌++◌, map}
use Rattle.cycle_journal.specs.LastHeaps.{line_at, live_in}
use Rattle.cycle_journal.specs.Lines.{lines_of}
use Rattle.cycle_journal.proofs.Walks.{left_from}
use Rattle.cycle_journal.proofs.walk.push_region.Given as goal

abbrev pub invariant-loop-at : goal.invariant-loop-at
invariant-loop-at l = record {
  most : l.at ≤ l.end + 30;
  told : lines_of l.lines.items ++ left_from l.words l.end l.at ≡ lines_of l.fn.lines.items ++ map (line_at l.words) (live_in l.layout l.words l.region);
}

abbrev pub decreases-loop-at : goal.decreases-loop-at
decreases-loop-at l = l.end - l.at
