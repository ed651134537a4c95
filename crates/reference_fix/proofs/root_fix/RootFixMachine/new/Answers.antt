use Rattle.heap_words.specs.Layouts.{root_at}
use Rattle.reference_fix.proofs.Causes.{fixes_root}
use Rattle.reference_fix.proofs.root_fix.RootFixMachine.new.Goals as goal

pub returns-clause-cause : goal.returns-clause-cause
returns-clause-cause c = rw c.root_at.ensures.number (fixes_root (root_at c.args.layout.now c.args.pass c.args.reg))
