use Rattle.std.proofs.Common.{sym, subst, Contains}
use Rattle.gc_cycle.proofs.Schedules.{next_after_is_ready}
use Rattle.gc_cycle.proofs.schedule.Chooser.choose.Goals as goal

pub returns-in-Even-clause-ready : goal.returns-in-Even-clause-ready
returns-in-Even-clause-ready c = subst (λ party. Contains c.args.ready.now party) (sym c.party_after-party.ensures) (next_after_is_ready _ c.args.ready.now c.requires)
