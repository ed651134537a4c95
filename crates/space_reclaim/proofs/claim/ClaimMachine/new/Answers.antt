use Rattle.space_reclaim.specs.ClaimRunLaws.{ends_with_cause}
use Rattle.space_reclaim.proofs.claim.ClaimMachine.new.Goals as goal

pub returns-clause-cause : goal.returns-clause-cause
returns-clause-cause c =
    rw c.of_pass.ensures.round (ends_with_cause c.args.layout.now c.args.pass c.args.last c.of_pass.ensures.within)
