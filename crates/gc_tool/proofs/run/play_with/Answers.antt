use Rattle.std.proofs.Common.{◌≡◌, rules}
use Rattle.std.proofs.lemmas.Result.{IfOk-weaker, IfErr-weaker}
use Rattle.gc_cycle.specs.Steppings.{stepping_of}
use Rattle.gc_tool.specs.Runs.{IsStopOver}
use Rattle.gc_tool.specs.declared.status.Status.{Status}
use Rattle.gc_tool.specs.declared.status.Status.TheVariants.{OutOfMemory}
use Rattle.gc_tool.proofs.Headline.{printed_output, not_over, memory_stops, ok_is}
use Rattle.gc_tool.proofs.run.play_with.Goals as goal

pub returns-in-Ok-clause-output : goal.returns-in-Ok-clause-output
returns-in-Ok-clause-output g c =
    let over = c.run.ensures.ended.0 (ok_is c.run.result _ c.in-Ok.is) in
    IfOk-weaker c.text_of.result _ _
    (λ text printed. printed_output _ _ c.args.script.now c.args.replay _ _ c.in_ok-world.ensures.opening c.run.ensures.taken c.run.ensures.layout c.run.ensures.commands over text.items printed)
    c.text_of.ensures.text

pub returns-in-Ok-clause-stop : goal.returns-in-Ok-clause-stop
returns-in-Ok-clause-stop g c =
    let by = stepping_of g.P.Read.Machine.asks g.P.Write.Machine.asks g.P.Exchange.Machine.asks g.P.Move.Machine.asks g.P.Read.Machine.fed g.P.Write.Machine.fed g.P.Exchange.Machine.fed g.P.Move.Machine.fed g.P.Read.Watched.front g.P.Write.Watched.front g.P.Exchange.Watched.front g.P.Read.CallMachine.steps_left g.P.Write.CallMachine.steps_left g.P.Exchange.CallMachine.steps_left in
    IfErr-weaker c.text_of.result (λ (status : Status). status ≡ OutOfMemory) (IsStopOver g.P.Copier.kit by c.args.script.now c.args.replay) (memory_stops g.P.Copier.kit by c.args.script.now c.args.replay) c.text_of.ensures.memory

pub returns-clause-stop : goal.returns-clause-stop
returns-clause-stop g c =
    let by = stepping_of g.P.Read.Machine.asks g.P.Write.Machine.asks g.P.Exchange.Machine.asks g.P.Move.Machine.asks g.P.Read.Machine.fed g.P.Write.Machine.fed g.P.Exchange.Machine.fed g.P.Move.Machine.fed g.P.Read.Watched.front g.P.Write.Watched.front g.P.Exchange.Watched.front g.P.Read.CallMachine.steps_left g.P.Write.CallMachine.steps_left g.P.Exchange.CallMachine.steps_left in
    let stops = not_over g.P.Copier.kit by c.args.script.now c.args.replay _ _ c.in_ok-world.ensures.opening c.run.ensures.taken in
    search rules
