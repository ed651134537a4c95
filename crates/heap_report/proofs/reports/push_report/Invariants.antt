use Rattle.std.proofs.Common.{◌≡◌, ◌++◌, take}
use Rattle.std.specs.List.{flat_map}
use Rattle.heap_report.specs.Cycles.{cycle_text}
use Rattle.heap_report.specs.Leavings.{object_text}
use Rattle.heap_report.proofs.reports.push_report.Given as goal

abbrev pub invariant-loop-report : goal.invariant-loop-report
invariant-loop-report l = l.out.items ≡ l.initial.out.items ++ flat_map cycle_text (take l.report-index l.journal)

abbrev pub invariant-loop-object : goal.invariant-loop-object
invariant-loop-object l = l.out.items ≡ l.initial.out.items ++ flat_map object_text (take l.object-index l.last.objects.items)
