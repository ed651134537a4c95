use Rattle.call_steps.specs.Alone.{RunsAlone}
use Rattle.call_steps.proofs.alone.run_alone.Given as goal

-- the steps so far are steps of the machine
abbrev pub invariant-steps : goal.invariant-steps
invariant-steps g l = RunsAlone g.M.Machine.asks g.M.Machine.fed (l.initial.machine, l.initial.words) (l.machine, l.words)

abbrev pub decreases-steps : goal.decreases-steps
decreases-steps g l = g.M.CallMachine.steps_left l.machine
