use Rattle.std.proofs.Common.{◌≡◌, ◌++◌, take}
use Rattle.std.specs.List.{flat_map}
use Rattle.heap_report.specs.Cycles.{kept_text}
use Rattle.heap_report.proofs.cycles.push_all_kept.Given as goal

abbrev pub invariant-loop-row : goal.invariant-loop-row
invariant-loop-row l = l.out.items ≡ l.initial.out.items ++ flat_map (kept_text l.cycle) (take l.row-index l.rows)
