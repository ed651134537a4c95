use Rattle.std.proofs.Common.{◌∙◌}
use Rattle.call_steps.specs.Turns.{still, on}
use Rattle.call_steps.proofs.alone.run_alone.Goals as goal

-- no step is the first state
pub steps-init : goal.steps-init
steps-init g c = still

-- one step more
pub steps-preserved : goal.steps-preserved
steps-preserved g c = on c.steps.invariant (record {
  on = λ ended. c.steps-test.true (c.left.ensures ∙ g.met.M.CallMachine.none_left c.steps.machine ended);
  machine = cc (c.feed.ensures, c.apply.ensures.found, c.ask.ensures);
  words = cc (c.apply.ensures.words, c.ask.ensures);
})
