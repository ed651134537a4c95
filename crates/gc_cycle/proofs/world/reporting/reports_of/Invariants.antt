use Rattle.gc_cycle.specs.Reports.{AreReports}
use Rattle.gc_cycle.proofs.world.reporting.reports_of.Given as goal

abbrev pub invariant-loop-index : goal.invariant-loop-index
invariant-loop-index l = AreReports l.index l.moved l.marks l.reports.items
