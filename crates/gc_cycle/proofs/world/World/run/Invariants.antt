use Rattle.std.proofs.Common.{◌≡◌, ◌-◌}
use Rattle.gc_cycle.specs.Steppings.{stepping_of}
use Rattle.gc_cycle.specs.Lawful.{Lawful}
use Rattle.gc_cycle.specs.Runs.{turns_of, run_of}
use Rattle.gc_cycle.proofs.world.World.run.Given as goal

-- the turns that are left lead to the same world as all turns from the first
abbrev pub invariant-loop : goal.invariant-loop
invariant-loop g l =
    let by = stepping_of g.P.Read.Machine.asks g.P.Write.Machine.asks g.P.Exchange.Machine.asks g.P.Move.Machine.asks g.P.Read.Machine.fed g.P.Write.Machine.fed g.P.Exchange.Machine.fed g.P.Move.Machine.fed g.P.Read.Watched.front g.P.Write.Watched.front g.P.Exchange.Watched.front g.P.Read.CallMachine.steps_left g.P.Write.CallMachine.steps_left g.P.Exchange.CallMachine.steps_left in
    record {
      same : turns_of g.P.Copier.kit by (l.steps - l.counter) l.chooser l.self ≡ run_of g.P.Copier.kit by l.fn.schedule l.steps l.fn.self;
      lawful : Lawful g.P.Copier.kit l.self;
      layout : l.self.layout ≡ l.fn.self.layout;
    }
