use Rattle.gc_cycle.proofs.Starting.{fresh_is_ready}
use Rattle.gc_cycle.proofs.world.opening.opening_pass.Goals as goal

pub start-requires-clause-ready : goal.start-requires-clause-ready
start-requires-clause-ready g c = fresh_is_ready c.args.layout.now c.args.party c.fresh_pass-pass.result c.requires.layout c.requires.pass c.fresh_pass-pass.ensures
