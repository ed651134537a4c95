use Rattle.std.proofs.Common.{◌+◌, sym, subst}
use Rattle.gc_cycle.specs.Reports.{Reports, AreReports, mark_in}
use Rattle.gc_cycle.proofs.Reporting.{one_more}
use Rattle.gc_cycle.proofs.world.reporting.reports_of.Goals as goal

pub loop-index-preserved : goal.loop-index-preserved
loop-index-preserved c =
    let tells = subst (λ mark. Reports (c.loop-index.index + 1) c.jobs_in.result.now mark c.in_ok-report.report) c.mark_in.ensures c.in_ok-report.ensures in
    let told = subst (λ ended. Reports (c.loop-index.index + 1) ended (mark_in (c.loop-index.index + 1) c.args.marks.now) c.in_ok-report.report) c.jobs_in.ensures tells in
    subst (AreReports (c.loop-index.index + 1) c.args.moved.now c.args.marks.now) (sym c.in_ok-push.ensures.items)
    (one_more c.args.moved.now c.args.marks.now c.loop-index.index c.loop-index.reports.items c.in_ok-report.report c.loop-index.invariant told)
