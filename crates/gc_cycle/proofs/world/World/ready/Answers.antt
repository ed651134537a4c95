use Rattle.std.proofs.Common.{◌∙◌, sym, ap, arith, length}
use Rattle.gc_cycle.specs.Steppings.{stepping_of}
use Rattle.gc_cycle.proofs.Running.{ready_with, ready_without}
use Rattle.gc_cycle.proofs.world.World.ready.Goals as goal
use Rattle.gc_cycle.proofs.world.World.ready.Goals.{then-can_step, else-can_step}

pub loop-index-preserved : goal.loop-index-preserved
loop-index-preserved g c =
    let by = stepping_of g.P.Read.Machine.asks g.P.Write.Machine.asks g.P.Exchange.Machine.asks g.P.Move.Machine.asks g.P.Read.Machine.fed g.P.Write.Machine.fed g.P.Exchange.Machine.fed g.P.Move.Machine.fed g.P.Read.Watched.front g.P.Write.Watched.front g.P.Exchange.Watched.front g.P.Read.CallMachine.steps_left g.P.Write.CallMachine.steps_left g.P.Exchange.CallMachine.steps_left in
    elim c.if-can_step.branch [
      | then-can_step w ↦ record {
        items = ap (λ r. r.items) w.ready-is ∙ w.push.ensures.items
            ∙ ready_with g.P.Copier.kit by c.args.self.now c.loop-index.index c.loop-index.ready.items c.loop-index.invariant.items (sym c.can_step.ensures ∙ w.if-can_step.true);
        few = omega (arith, ap (λ r. length r.items) w.ready-is, w.push.ensures.len, c.loop-index.invariant.few);
      }
      | else-can_step w ↦ record {
        items = ap (λ r. r.items) w.ready-is
            ∙ ready_without g.P.Copier.kit by c.args.self.now c.loop-index.index c.loop-index.ready.items c.loop-index.invariant.items (sym c.can_step.ensures ∙ w.if-can_step.false);
        few = omega (arith, ap (λ r. length r.items) w.ready-is, c.loop-index.invariant.few);
      }
    ]
