use Rattle.gc_cycle.proofs.Starting.{lawful_at_start}
use Rattle.gc_cycle.proofs.world.World.new.Goals as goal

pub returns-clause-lawful : goal.returns-clause-lawful
returns-clause-lawful g c = lawful_at_start g.P.Copier.kit _ g.met.P.Copier.laws c.args.script.now c.args.salt c.requires _ c.in_ok-world.ensures
