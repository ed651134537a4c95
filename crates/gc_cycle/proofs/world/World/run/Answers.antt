use Rattle.std.proofs.Common.{◌≡◌, ◌-◌, ◌∙◌, sym, ap, subst, arith, Contains}
use Rattle.gc_cycle.specs.Steppings.{stepping_of}
use Rattle.gc_cycle.specs.Runs.{turns_of}
use Rattle.gc_cycle.proofs.Running.{turns_of-over, turns_of-took, is_over-by, ready_is_party}
use Rattle.gc_cycle.proofs.AllowedAnswers.{run_keeps_commands}
use Rattle.gc_cycle.proofs.world.World.run.Goals as goal

pub ready-ready-requires : goal.ready-ready-requires
ready-ready-requires g c = c.loop.invariant.lawful

pub returns-then-is_empty-clause-taken : goal.returns-then-is_empty-clause-taken
returns-then-is_empty-clause-taken g c =
    let by = stepping_of g.P.Read.Machine.asks g.P.Write.Machine.asks g.P.Exchange.Machine.asks g.P.Move.Machine.asks g.P.Read.Machine.fed g.P.Write.Machine.fed g.P.Exchange.Machine.fed g.P.Move.Machine.fed g.P.Read.Watched.front g.P.Write.Watched.front g.P.Exchange.Watched.front g.P.Read.CallMachine.steps_left g.P.Write.CallMachine.steps_left g.P.Exchange.CallMachine.steps_left in
    let kit = g.P.Copier.kit in
    let over = is_over-by kit by c.loop.self c.ready-ready.result.items _ c.ready-ready.ensures c.is_empty.ensures ∙ c.if-is_empty.true in
    sym (turns_of-over kit by (c.args.steps - c.loop.counter) c.loop.chooser c.loop.self over) ∙ c.loop.invariant.same

pub turn-requires-clause-party : goal.turn-requires-clause-party
turn-requires-clause-party g c =
    let by = stepping_of g.P.Read.Machine.asks g.P.Write.Machine.asks g.P.Exchange.Machine.asks g.P.Move.Machine.asks g.P.Read.Machine.fed g.P.Write.Machine.fed g.P.Exchange.Machine.fed g.P.Move.Machine.fed g.P.Read.Watched.front g.P.Write.Watched.front g.P.Exchange.Watched.front g.P.Read.CallMachine.steps_left g.P.Write.CallMachine.steps_left g.P.Exchange.CallMachine.steps_left in
    let items = c.as_slice.ensures.value ∙ c.ready-ready.ensures in
    ready_is_party g.P.Copier.kit by c.loop.self c.choose-party.result (subst (λ ready. Contains ready c.choose-party.result) items c.choose-party.ensures.ready)

pub loop-preserved : goal.loop-preserved
loop-preserved g c =
    let by = stepping_of g.P.Read.Machine.asks g.P.Write.Machine.asks g.P.Exchange.Machine.asks g.P.Move.Machine.asks g.P.Read.Machine.fed g.P.Write.Machine.fed g.P.Exchange.Machine.fed g.P.Move.Machine.fed g.P.Read.Watched.front g.P.Write.Watched.front g.P.Exchange.Watched.front g.P.Read.CallMachine.steps_left g.P.Write.CallMachine.steps_left g.P.Exchange.CallMachine.steps_left in
    let kit = g.P.Copier.kit in
    let items = c.as_slice.ensures.value ∙ c.ready-ready.ensures in
    let on = is_over-by kit by c.loop.self c.ready-ready.result.items _ c.ready-ready.ensures c.is_empty.ensures ∙ c.if-is_empty.false in
    record {
      same = turns_of-took kit by c.args.steps c.loop.counter c.loop.chooser c.choose-party.new.self c.loop.self c.turn.new.self c.as_slice.result.now c.choose-party.result
          c.loop-test.true on items c.choose-party.ensures.chosen c.turn.ensures.turn ∙ c.loop.invariant.same;
      lawful = c.turn.ensures.lawful;
      layout = c.turn.ensures.layout ∙ c.loop.invariant.layout;
    }

pub ready-requires : goal.ready-requires
ready-requires g c = c.loop.invariant.lawful

pub returns-then-is_empty-2-clause-taken : goal.returns-then-is_empty-2-clause-taken
returns-then-is_empty-2-clause-taken g c =
    let by = stepping_of g.P.Read.Machine.asks g.P.Write.Machine.asks g.P.Exchange.Machine.asks g.P.Move.Machine.asks g.P.Read.Machine.fed g.P.Write.Machine.fed g.P.Exchange.Machine.fed g.P.Move.Machine.fed g.P.Read.Watched.front g.P.Write.Watched.front g.P.Exchange.Watched.front g.P.Read.CallMachine.steps_left g.P.Write.CallMachine.steps_left g.P.Exchange.CallMachine.steps_left in
    let none_left : c.args.steps - c.loop.counter ≡ 0 = omega arith in
    sym (ap (λ n. turns_of g.P.Copier.kit by n c.loop.chooser c.loop.self) none_left) ∙ c.loop.invariant.same

pub returns-else-is_empty-2-clause-taken : goal.returns-else-is_empty-2-clause-taken
returns-else-is_empty-2-clause-taken g c =
    let by = stepping_of g.P.Read.Machine.asks g.P.Write.Machine.asks g.P.Exchange.Machine.asks g.P.Move.Machine.asks g.P.Read.Machine.fed g.P.Write.Machine.fed g.P.Exchange.Machine.fed g.P.Move.Machine.fed g.P.Read.Watched.front g.P.Write.Watched.front g.P.Exchange.Watched.front g.P.Read.CallMachine.steps_left g.P.Write.CallMachine.steps_left g.P.Exchange.CallMachine.steps_left in
    let none_left : c.args.steps - c.loop.counter ≡ 0 = omega arith in
    sym (ap (λ n. turns_of g.P.Copier.kit by n c.loop.chooser c.loop.self) none_left) ∙ c.loop.invariant.same

-- ---- the script stays

pub returns-then-is_empty-clause-commands : goal.returns-then-is_empty-clause-commands
returns-then-is_empty-clause-commands g c =
    let by = stepping_of g.P.Read.Machine.asks g.P.Write.Machine.asks g.P.Exchange.Machine.asks g.P.Move.Machine.asks g.P.Read.Machine.fed g.P.Write.Machine.fed g.P.Exchange.Machine.fed g.P.Move.Machine.fed g.P.Read.Watched.front g.P.Write.Watched.front g.P.Exchange.Watched.front g.P.Read.CallMachine.steps_left g.P.Write.CallMachine.steps_left g.P.Exchange.CallMachine.steps_left in
    run_keeps_commands g.P.Copier.kit by c.args.schedule c.args.steps c.args.self.now c.loop.self (returns-then-is_empty-clause-taken g c)

pub returns-then-is_empty-2-clause-commands : goal.returns-then-is_empty-2-clause-commands
returns-then-is_empty-2-clause-commands g c =
    let by = stepping_of g.P.Read.Machine.asks g.P.Write.Machine.asks g.P.Exchange.Machine.asks g.P.Move.Machine.asks g.P.Read.Machine.fed g.P.Write.Machine.fed g.P.Exchange.Machine.fed g.P.Move.Machine.fed g.P.Read.Watched.front g.P.Write.Watched.front g.P.Exchange.Watched.front g.P.Read.CallMachine.steps_left g.P.Write.CallMachine.steps_left g.P.Exchange.CallMachine.steps_left in
    run_keeps_commands g.P.Copier.kit by c.args.schedule c.args.steps c.args.self.now c.loop.self (returns-then-is_empty-2-clause-taken g c)

pub returns-else-is_empty-2-clause-commands : goal.returns-else-is_empty-2-clause-commands
returns-else-is_empty-2-clause-commands g c =
    let by = stepping_of g.P.Read.Machine.asks g.P.Write.Machine.asks g.P.Exchange.Machine.asks g.P.Move.Machine.asks g.P.Read.Machine.fed g.P.Write.Machine.fed g.P.Exchange.Machine.fed g.P.Move.Machine.fed g.P.Read.Watched.front g.P.Write.Watched.front g.P.Exchange.Watched.front g.P.Read.CallMachine.steps_left g.P.Write.CallMachine.steps_left g.P.Exchange.CallMachine.steps_left in
    run_keeps_commands g.P.Copier.kit by c.args.schedule c.args.steps c.args.self.now c.loop.self (returns-else-is_empty-2-clause-taken g c)
