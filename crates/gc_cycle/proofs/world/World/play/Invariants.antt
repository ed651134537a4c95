use Rattle.std.proofs.Common.{◌≡◌, ◌+◌, ◌≤◌, drop}
use Rattle.gc_cycle.specs.Steppings.{stepping_of}
use Rattle.gc_cycle.specs.Worlds.{played, steps_in}
use Rattle.gc_cycle.specs.Lawful.{Lawful}
use Rattle.gc_cycle.proofs.world.World.play.Given as goal

-- the turns that are left lead to the same world and take as many steps as all turns from the first
abbrev pub invariant-loop-party : goal.invariant-loop-party
invariant-loop-party g l =
    let by = stepping_of g.P.Read.Machine.asks g.P.Write.Machine.asks g.P.Exchange.Machine.asks g.P.Move.Machine.asks g.P.Read.Machine.fed g.P.Write.Machine.fed g.P.Exchange.Machine.fed g.P.Move.Machine.fed g.P.Read.Watched.front g.P.Write.Watched.front g.P.Exchange.Watched.front g.P.Read.CallMachine.steps_left g.P.Write.CallMachine.steps_left g.P.Exchange.CallMachine.steps_left in
    record {
      lawful : Lawful g.P.Copier.kit l.self;
      layout : l.self.layout ≡ l.fn.self.layout;
      turns : played g.P.Copier.kit by l.self (drop l.party-index l.parties) ≡ played g.P.Copier.kit by l.fn.self l.parties;
      count : l.steps + steps_in g.P.Copier.kit by l.self (drop l.party-index l.parties) ≡ steps_in g.P.Copier.kit by l.fn.self l.parties;
      few : l.steps ≤ l.party-index;
    }
