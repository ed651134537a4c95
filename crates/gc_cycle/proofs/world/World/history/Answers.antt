use Rattle.std.proofs.Common.{◌∙◌, ap}
use Rattle.std.proofs.lemmas.Result.{IfOk-weaker}
use Rattle.heap_history.specs.Arranged.{shown}
use Rattle.gc_cycle.specs.Shows.{Shows}
use Rattle.gc_cycle.specs.Steppings.{stepping_of}
use Rattle.gc_cycle.proofs.Showing.{shows_of}
use Rattle.gc_cycle.proofs.world.World.history.Goals as goal

pub returns : goal.returns
returns g c =
    let by = stepping_of g.P.Read.Machine.asks g.P.Write.Machine.asks g.P.Exchange.Machine.asks g.P.Move.Machine.asks g.P.Read.Machine.fed g.P.Write.Machine.fed g.P.Exchange.Machine.fed g.P.Move.Machine.fed g.P.Read.Watched.front g.P.Write.Watched.front g.P.Exchange.Watched.front g.P.Read.CallMachine.steps_left g.P.Write.CallMachine.steps_left g.P.Exchange.CallMachine.steps_left in
    let log = c.log.ensures ∙ ap (λ w. w.told.log) c.self.view_is in
    IfOk-weaker c.arrange.result _ (λ entries. Shows g.P.Copier.kit by c.args.self.now entries.items) (λ entries is. shows_of g.P.Copier.kit by g.met.P.Copier.laws c.args.self.now c.requires entries.items (is ∙ ap shown log)) c.arrange.ensures
