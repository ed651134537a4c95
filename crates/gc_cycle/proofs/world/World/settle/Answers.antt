use Rattle.std.proofs.Common.{◌∙◌, sym, ap}
use Rattle.barriers.specs.Records.{ended_of}
use Rattle.gc_cycle.proofs.Playing.{stands_at}
use Rattle.gc_cycle.proofs.world.World.settle.Goals as goal

pub conclude-requires : goal.conclude-requires
conclude-requires g c =
    let w = c.args.self.now in
    let at = stands_at w c.args.party c.self.inside.passes.items (ap (λ s. s.passes) c.self.view_is) c.index.result.now c.index.ensures c.requires.there.least c.requires.there.passes in
    c.requires.conclude c.in-Some.end (ap (λ p. ended_of g.P.Copier.kit p.machine) (sym at) ∙ sym c.end_of.ensures ∙ c.in-Some.is)
