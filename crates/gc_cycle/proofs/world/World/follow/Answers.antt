use Rattle.std.proofs.Common.{◌∙◌, sym, ap, subst}
use Rattle.barriers.specs.Records.{IsReady}
use Rattle.gc_cycle.specs.Worlds.{SequelFits, in_front}
use Rattle.gc_cycle.proofs.Settling.{ready_after}
use Rattle.gc_cycle.proofs.world.World.follow.Goals as goal

pub answer-requires-clause-ready : goal.answer-requires-clause-ready
answer-requires-clause-ready g c =
    let l = c.args.self.now.layout in
    let fits = subst SequelFits c.in-Answered.is c.requires.fits in
    subst (IsReady l) (sym (c.in_front.ensures ∙ ap (λ p. in_front p c.in-Answered.ended) c.with_put.ensures)) (ready_after l c.args.pass c.in-Answered.put c.in-Answered.ended c.requires.ready fits)
