use Rattle.std.proofs.Common.{subst}
use Rattle.live_walk.specs.Walks.{begun}
use Rattle.live_walk.specs.Noting.{IsNoting}
use Rattle.live_walk.proofs.tests.walk.Goals as goal

pub loop-steps-init : goal.loop-steps-init
loop-steps-init g c = record { noting = rw c.new-machine.ensures.machine (subst (λ l. IsNoting (begun l) c.clear.new.self) c.requires c.clear.ensures.begins) }

pub loop-steps-preserved : goal.loop-steps-preserved
loop-steps-preserved g c = record { noting = rw c.feed.ensures c.note.ensures.kept }
