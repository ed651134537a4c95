use Rattle.barriers.specs.NewObjectCauses.{new_cause_of}
use Rattle.barriers.proofs.new_object.NewMachine.new.Goals as goal

pub returns-clause-cause : goal.returns-clause-cause
returns-clause-cause c =
    rw c.begin.ensures.machine (new_cause_of c.args.layout.now c.args.view c.args.room c.args.made c.args.len c.begin.ensures.layout c.requires.pass)
