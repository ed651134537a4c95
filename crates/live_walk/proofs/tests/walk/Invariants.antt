use Rattle.live_walk.specs.Noting.{IsNoting}
use Rattle.live_walk.proofs.tests.walk.Given as goal

abbrev pub invariant-loop-steps : goal.invariant-loop-steps
invariant-loop-steps g l = record { noting : IsNoting l.machine l.noted }
