use Rattle.std.proofs.Common.{◌∙◌, sym, ap, subst}
use Rattle.gc_cycle.specs.Lawful.{Lawful}
use Rattle.lawful_records.specs.HeaderChanges.{HeadersChange}
use Rattle.gc_cycle.specs.Runs.{Moves}
use Rattle.gc_cycle.specs.Steppings.{stepping_of}
use Rattle.gc_cycle.proofs.Playing.{turn_of-rests, turn_stays}
use Rattle.gc_cycle.proofs.Turning.{turn_keeps, turn_moves, turn_headers}
use Rattle.gc_cycle.proofs.world.World.turn.Goals as goal

pub returns-then-is_ended-clause-moves : goal.returns-then-is_ended-clause-moves
returns-then-is_ended-clause-moves g c =
    let by = stepping_of g.P.Read.Machine.asks g.P.Write.Machine.asks g.P.Exchange.Machine.asks g.P.Move.Machine.asks g.P.Read.Machine.fed g.P.Write.Machine.fed g.P.Exchange.Machine.fed g.P.Move.Machine.fed g.P.Read.Watched.front g.P.Write.Watched.front g.P.Exchange.Watched.front g.P.Read.CallMachine.steps_left g.P.Write.CallMachine.steps_left g.P.Exchange.CallMachine.steps_left in
    let w = c.args.self.now in
    let rests = turn_of-rests g.P.Copier.kit by w c.args.party c.next-step.result c.is_ended.result c.next-step.ensures c.is_ended.ensures c.if-is_ended.true in
    subst (Moves g.P.Copier.kit by w c.args.party) rests (turn_moves g.P.Copier.kit by g.met.P.Copier.laws w c.requires.lawful c.args.party c.requires.party)

pub returns-then-is_ended-clause-headers : goal.returns-then-is_ended-clause-headers
returns-then-is_ended-clause-headers g c =
    let by = stepping_of g.P.Read.Machine.asks g.P.Write.Machine.asks g.P.Exchange.Machine.asks g.P.Move.Machine.asks g.P.Read.Machine.fed g.P.Write.Machine.fed g.P.Exchange.Machine.fed g.P.Move.Machine.fed g.P.Read.Watched.front g.P.Write.Watched.front g.P.Exchange.Watched.front g.P.Read.CallMachine.steps_left g.P.Write.CallMachine.steps_left g.P.Exchange.CallMachine.steps_left in
    let w = c.args.self.now in
    let rests = turn_of-rests g.P.Copier.kit by w c.args.party c.next-step.result c.is_ended.result c.next-step.ensures c.is_ended.ensures c.if-is_ended.true in
    subst (HeadersChange g.P.Copier.KIND w.layout w.words) (ap (λ s. s.words) rests) (turn_headers g.P.Copier.kit by g.met.P.Copier.laws w c.requires.lawful c.args.party c.requires.party g.P.Copier.KIND g.met.P.Copier.kind)

pub returns-clause-lawful : goal.returns-clause-lawful
returns-clause-lawful g c = subst (Lawful g.P.Copier.kit) (sym c.step.ensures) (turn_keeps g.P.Copier.kit _ g.met.P.Copier.laws c.args.self.now c.requires.lawful c.args.party c.requires.party)

pub returns-clause-moves : goal.returns-clause-moves
returns-clause-moves g c =
    let by = stepping_of g.P.Read.Machine.asks g.P.Write.Machine.asks g.P.Exchange.Machine.asks g.P.Move.Machine.asks g.P.Read.Machine.fed g.P.Write.Machine.fed g.P.Exchange.Machine.fed g.P.Move.Machine.fed g.P.Read.Watched.front g.P.Write.Watched.front g.P.Exchange.Watched.front g.P.Read.CallMachine.steps_left g.P.Write.CallMachine.steps_left g.P.Exchange.CallMachine.steps_left in
    subst (Moves g.P.Copier.kit by c.args.self.now c.args.party) (sym c.step.ensures) (turn_moves g.P.Copier.kit by g.met.P.Copier.laws c.args.self.now c.requires.lawful c.args.party c.requires.party)

pub returns-clause-layout : goal.returns-clause-layout
returns-clause-layout g c =
    let by = stepping_of g.P.Read.Machine.asks g.P.Write.Machine.asks g.P.Exchange.Machine.asks g.P.Move.Machine.asks g.P.Read.Machine.fed g.P.Write.Machine.fed g.P.Exchange.Machine.fed g.P.Move.Machine.fed g.P.Read.Watched.front g.P.Write.Watched.front g.P.Exchange.Watched.front g.P.Read.CallMachine.steps_left g.P.Write.CallMachine.steps_left g.P.Exchange.CallMachine.steps_left in
    ap (λ s. s.layout) c.step.ensures ∙ (turn_stays g.P.Copier.kit by c.args.self.now c.args.party).layout

pub returns-clause-headers : goal.returns-clause-headers
returns-clause-headers g c =
    let by = stepping_of g.P.Read.Machine.asks g.P.Write.Machine.asks g.P.Exchange.Machine.asks g.P.Move.Machine.asks g.P.Read.Machine.fed g.P.Write.Machine.fed g.P.Exchange.Machine.fed g.P.Move.Machine.fed g.P.Read.Watched.front g.P.Write.Watched.front g.P.Exchange.Watched.front g.P.Read.CallMachine.steps_left g.P.Write.CallMachine.steps_left g.P.Exchange.CallMachine.steps_left in
    let w = c.args.self.now in
    subst (HeadersChange g.P.Copier.KIND w.layout w.words) (sym (ap (λ s. s.words) c.step.ensures)) (turn_headers g.P.Copier.kit by g.met.P.Copier.laws w c.requires.lawful c.args.party c.requires.party g.P.Copier.KIND g.met.P.Copier.kind)
