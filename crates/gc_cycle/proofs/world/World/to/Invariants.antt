use Rattle.std.proofs.Common.{◌≡◌, ◌≢◌, ◌<◌, ℕ}
use Rattle.gc_cycle.specs.Steppings.{stepping_of}
use Rattle.gc_cycle.specs.Worlds.{next_of}
use Rattle.gc_cycle.specs.Lawful.{Lawful}
use Rattle.gc_cycle.specs.Runs.{alone}
use Rattle.gc_cycle.proofs.world.World.to.Given as goal

-- so many turns, before each of which the next step was another
abbrev pub invariant-loop : goal.invariant-loop
invariant-loop g l =
    let by = stepping_of g.P.Read.Machine.asks g.P.Write.Machine.asks g.P.Exchange.Machine.asks g.P.Move.Machine.asks g.P.Read.Machine.fed g.P.Write.Machine.fed g.P.Exchange.Machine.fed g.P.Move.Machine.fed g.P.Read.Watched.front g.P.Write.Watched.front g.P.Exchange.Watched.front g.P.Read.CallMachine.steps_left g.P.Write.CallMachine.steps_left g.P.Exchange.CallMachine.steps_left in
    record {
      lawful : Lawful g.P.Copier.kit l.self;
      layout : l.self.layout ≡ l.fn.self.layout;
      turns : l.self ≡ alone g.P.Copier.kit by l.counter l.party l.fn.self;
      earlier : (k : ℕ) → k < l.counter → next_of g.P.Copier.kit by (alone g.P.Copier.kit by k l.party l.fn.self) l.party ≢ l.step;
    }
