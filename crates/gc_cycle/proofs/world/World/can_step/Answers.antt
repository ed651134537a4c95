use Rattle.std.proofs.Common.{◌∙◌, sym, ap, arith}
use Rattle.gc_cycle.specs.Worlds.{collector_asks}
use Rattle.gc_cycle.specs.Steppings.{stepping_of}
use Rattle.gc_cycle.proofs.Playing.{party_is_pass, stands_at}
use Rattle.gc_cycle.proofs.AllowedAnswers.{steps_unless, collector_steps}
use Rattle.gc_cycle.proofs.world.World.can_step.Goals as goal

pub returns-then-is_collector : goal.returns-then-is_collector
returns-then-is_collector g c =
    let by = stepping_of g.P.Read.Machine.asks g.P.Write.Machine.asks g.P.Exchange.Machine.asks g.P.Move.Machine.asks g.P.Read.Machine.fed g.P.Write.Machine.fed g.P.Exchange.Machine.fed g.P.Move.Machine.fed g.P.Read.Watched.front g.P.Write.Watched.front g.P.Exchange.Watched.front g.P.Read.CallMachine.steps_left g.P.Write.CallMachine.steps_left g.P.Exchange.CallMachine.steps_left in
    collector_steps g.P.Copier.kit by c.args.self.now c.args.party c.ask.result c.is_ended.result (sym c.is_collector.ensures ∙ c.if-is_collector.true) (c.ask.ensures ∙ ap (collector_asks g.P.Copier.kit by) c.self.view_is) c.is_ended.ensures

pub returns : goal.returns
returns g c =
    let by = stepping_of g.P.Read.Machine.asks g.P.Write.Machine.asks g.P.Exchange.Machine.asks g.P.Move.Machine.asks g.P.Read.Machine.fed g.P.Write.Machine.fed g.P.Exchange.Machine.fed g.P.Move.Machine.fed g.P.Read.Watched.front g.P.Write.Watched.front g.P.Exchange.Watched.front g.P.Read.CallMachine.steps_left g.P.Write.CallMachine.steps_left g.P.Exchange.CallMachine.steps_left in
    let w = c.args.self.now in
    let p = party_is_pass g.P.Copier.kit by w c.args.party c.requires.party (sym c.is_collector.ensures ∙ c.if-is_collector.false) in
    let at = stands_at w c.args.party c.self.inside.passes.items (ap (λ s. s.passes) c.self.view_is) c.index.result.now c.index.ensures p.0 (omega (arith, p.1, c.requires.lawful.passes)) in
    steps_unless g.P.Copier.kit by g.met.P.Copier.laws w c.requires.lawful c.args.party p c.index.result.now at c.is_retired.result c.is_retired.ensures
