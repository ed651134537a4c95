use Rattle.barriers.specs.Spots.{spot_of}
use Rattle.stopless_copy.specs.WriteCauses.{write_cause_of}
use Rattle.stopless_copy.proofs.write.StoplessWrite.new.Goals as goal

pub returns-clause-cause : goal.returns-clause-cause
returns-clause-cause c = rw c.new.ensures (write_cause_of (spot_of c.args.birth c.args.at c.args.field) c.args.word)
