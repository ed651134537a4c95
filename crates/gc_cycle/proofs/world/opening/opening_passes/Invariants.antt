use Rattle.std.proofs.Common.{◌≡◌, take}
use Rattle.gc_cycle.specs.Worlds.{opening_passes}
use Rattle.gc_cycle.proofs.world.opening.opening_passes.Given as goal

abbrev pub invariant-loop-thread : goal.invariant-loop-thread
invariant-loop-thread g l = l.passes.items ≡ opening_passes g.P.Copier.kit l.layout 1 (take l.thread l.commands)
