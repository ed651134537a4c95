use Rattle.std.proofs.Common.{◌≢◌, sym, ap, ◌∙◌, subst}
use borrow.Author.Count.{below_more}
use Rattle.gc_cycle.specs.Steppings.{stepping_of}
use Rattle.gc_cycle.specs.Worlds.{next_of, turn_of}
use Rattle.gc_cycle.specs.Runs.{alone}
use Rattle.gc_cycle.proofs.Playing.{alone-more}
use Rattle.gc_cycle.proofs.world.World.to.Goals as goal

pub loop-preserved : goal.loop-preserved
loop-preserved g c =
    let by = stepping_of g.P.Read.Machine.asks g.P.Write.Machine.asks g.P.Exchange.Machine.asks g.P.Move.Machine.asks g.P.Read.Machine.fed g.P.Write.Machine.fed g.P.Exchange.Machine.fed g.P.Move.Machine.fed g.P.Read.Watched.front g.P.Write.Watched.front g.P.Exchange.Watched.front g.P.Read.CallMachine.steps_left g.P.Write.CallMachine.steps_left g.P.Exchange.CallMachine.steps_left in
    let kit = g.P.Copier.kit in
    let w = c.args.self.now in
    let p = c.args.party in
    let other : next_of kit by c.loop.self p ≢ c.args.step = λ same. absurd (cc (c.is_at.ensures.1 same, c.if-is_at.false)) in
    record {
      lawful = c.turn.ensures.lawful;
      layout = c.turn.ensures.layout ∙ c.loop.invariant.layout;
      turns = c.turn.ensures.turn ∙ ap (λ s. turn_of kit by s p) c.loop.invariant.turns ∙ sym (alone-more kit by c.loop.counter p w);
      earlier = below_more (λ k. next_of kit by (alone kit by k p w) p ≢ c.args.step) c.loop.counter c.loop.invariant.earlier
          (subst (λ s. next_of kit by s p ≢ c.args.step) c.loop.invariant.turns other);
    }
