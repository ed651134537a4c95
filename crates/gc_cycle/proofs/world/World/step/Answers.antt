use Rattle.std.proofs.Common.{◌∙◌, sym, subst, length}
use Rattle.call_steps.specs.Steps.{IsInside}
use Rattle.gc_cycle.specs.Steppings.{stepping_of}
use Rattle.gc_cycle.proofs.Playing.{asks_by, collects_by, party_is_pass}
use Rattle.gc_cycle.proofs.records.TurnLaws.{can_collect}
use Rattle.gc_cycle.proofs.Turning.{can_take, can_seal, can_end}
use Rattle.gc_cycle.proofs.world.World.step.Goals as goal

pub take-requires-clause-can : goal.take-requires-clause-can
take-requires-clause-can g c =
    let by = stepping_of g.P.Read.Machine.asks g.P.Write.Machine.asks g.P.Exchange.Machine.asks g.P.Move.Machine.asks g.P.Read.Machine.fed g.P.Write.Machine.fed g.P.Exchange.Machine.fed g.P.Move.Machine.fed g.P.Read.Watched.front g.P.Write.Watched.front g.P.Exchange.Watched.front g.P.Read.CallMachine.steps_left g.P.Write.CallMachine.steps_left g.P.Exchange.CallMachine.steps_left in
    let w = c.args.self.now in
    let passes = sym c.is_collector.ensures ∙ c.if-is_collector.false in
    let asks = asks_by g.P.Copier.kit by w c.args.party c.args.step c.requires.next passes in
    can_take g.P.Copier.kit by g.met.P.Copier.laws w c.requires.lawful c.args.party (party_is_pass g.P.Copier.kit by w c.args.party c.requires.party passes) (λ e. c.requires.goes_on (asks ∙ e))

pub collect-requires-clause-inside : goal.collect-requires-clause-inside
collect-requires-clause-inside g c =
    let by = stepping_of g.P.Read.Machine.asks g.P.Write.Machine.asks g.P.Exchange.Machine.asks g.P.Move.Machine.asks g.P.Read.Machine.fed g.P.Write.Machine.fed g.P.Exchange.Machine.fed g.P.Move.Machine.fed g.P.Read.Watched.front g.P.Write.Watched.front g.P.Exchange.Watched.front g.P.Read.CallMachine.steps_left g.P.Write.CallMachine.steps_left g.P.Exchange.CallMachine.steps_left in
    let w = c.args.self.now in
    let collects = sym c.is_collector.ensures ∙ c.if-is_collector.true in
    let asks = collects_by g.P.Copier.kit by w c.args.party c.args.step c.requires.next collects in
    subst (IsInside (length w.words)) (sym asks) (can_collect g.P.Copier.kit by g.met.P.Copier.laws w c.requires.lawful)

pub collect-requires-clause-seals : goal.collect-requires-clause-seals
collect-requires-clause-seals g c =
    let by = stepping_of g.P.Read.Machine.asks g.P.Write.Machine.asks g.P.Exchange.Machine.asks g.P.Move.Machine.asks g.P.Read.Machine.fed g.P.Write.Machine.fed g.P.Exchange.Machine.fed g.P.Move.Machine.fed g.P.Read.Watched.front g.P.Write.Watched.front g.P.Exchange.Watched.front g.P.Read.CallMachine.steps_left g.P.Write.CallMachine.steps_left g.P.Exchange.CallMachine.steps_left in
    let w = c.args.self.now in
    let collects = sym c.is_collector.ensures ∙ c.if-is_collector.true in
    let asks = collects_by g.P.Copier.kit by w c.args.party c.args.step c.requires.next collects in
    can_seal g.P.Copier.kit by g.met.P.Copier.laws w c.requires.lawful (λ e. c.requires.goes_on (asks ∙ e))

pub collect-requires-clause-ends : goal.collect-requires-clause-ends
collect-requires-clause-ends g c =
    let by = stepping_of g.P.Read.Machine.asks g.P.Write.Machine.asks g.P.Exchange.Machine.asks g.P.Move.Machine.asks g.P.Read.Machine.fed g.P.Write.Machine.fed g.P.Exchange.Machine.fed g.P.Move.Machine.fed g.P.Read.Watched.front g.P.Write.Watched.front g.P.Exchange.Watched.front g.P.Read.CallMachine.steps_left g.P.Write.CallMachine.steps_left g.P.Exchange.CallMachine.steps_left in
    can_end g.P.Copier.kit by g.met.P.Copier.laws c.args.self.now c.requires.lawful
