use Rattle.std.proofs.Common.{◌≡◌, ◌≤◌, length}
use Rattle.gc_cycle.specs.Steppings.{stepping_of}
use Rattle.gc_cycle.proofs.Running.{ready_among}
use Rattle.gc_cycle.proofs.world.World.ready.Given as goal

abbrev pub invariant-loop-index : goal.invariant-loop-index
invariant-loop-index g l = record {
  items : l.ready.items ≡ ready_among g.P.Copier.kit (stepping_of g.P.Read.Machine.asks g.P.Write.Machine.asks g.P.Exchange.Machine.asks g.P.Move.Machine.asks g.P.Read.Machine.fed g.P.Write.Machine.fed g.P.Exchange.Machine.fed g.P.Move.Machine.fed g.P.Read.Watched.front g.P.Write.Watched.front g.P.Exchange.Watched.front g.P.Read.CallMachine.steps_left g.P.Write.CallMachine.steps_left g.P.Exchange.CallMachine.steps_left) l.self l.index;
  few : length l.ready.items ≤ l.index;
}
