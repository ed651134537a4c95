use Rattle.std.proofs.Common.{subst, sym, rules}
use Rattle.space_reclaim.specs.declared.release.ReleaseMachine.{ReleaseMachine}
use Rattle.space_reclaim.specs.Releases.{ReleasesInOrder}
use Rattle.space_reclaim.specs.ReleaseLaws.{releases_in_order}
use Rattle.space_reclaim.proofs.release.ReleaseMachine.new.Goals as goal

pub returns-clause-machine : goal.returns-clause-machine
returns-clause-machine c = search rules

pub returns-clause-order : goal.returns-clause-order
returns-clause-order c =
    let P : ReleaseMachine → Type 0 = λ m. ReleasesInOrder c.args.layout.now c.args.region m in
    subst P (sym (returns-clause-machine c)) (releases_in_order c.args.layout.now c.args.region)
