use Rattle.std.proofs.Common.{◌≡◌, ◌++◌, take}
use Rattle.std.specs.List.{flat_map}
use Rattle.heap_report.specs.Cycles.{move_text}
use Rattle.heap_report.proofs.cycles.push_moves.Given as goal

abbrev pub invariant-loop-row : goal.invariant-loop-row
invariant-loop-row l = l.out.items ≡ l.initial.out.items ++ flat_map (move_text l.cycle) (take l.row-index l.rows)
