use Rattle.reference_fix.proofs.Causes.{fixes_field}
use Rattle.reference_fix.proofs.field_fix.FixMachine.new.Goals as goal

pub returns-clause-cause : goal.returns-clause-cause
returns-clause-cause c = fixes_field c.args.at
