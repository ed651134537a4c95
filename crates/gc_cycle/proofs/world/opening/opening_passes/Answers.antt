use Rattle.std.proofs.Common.{arith}
use Rattle.gc_cycle.proofs.Starting.{push_pass}
use Rattle.gc_cycle.proofs.world.opening.opening_passes.Goals as goal

pub loop-thread-preserved : goal.loop-thread-preserved
loop-thread-preserved g c =
    push_pass g.P.Copier.kit c.args.layout.now c.args.commands.now c.loop-thread.thread c.loop-thread.passes.items c.push.new.self.items (omega (arith, c.requires)) c.loop-thread.invariant
    (rw c.opening_pass.ensures at c.in_ok-push.ensures.items)
