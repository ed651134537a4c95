use Rattle.heap_history.proofs.Refusals.{accepts, refuses, holds_last, are_legal}
use Rattle.heap_history.proofs.check.check_history.Goals as goal

pub returns-clause-accepts : goal.returns-clause-accepts
returns-clause-accepts c = accepts c.args.entries.now c.first_bad.result c.first_bad.ensures.bad

pub returns-clause-refuses : goal.returns-clause-refuses
returns-clause-refuses c = refuses c.args.entries.now c.first_bad.result c.first_bad.ensures.ok c.first_bad.ensures.bad

pub returns-clause-legal : goal.returns-clause-legal
returns-clause-legal c = are_legal c.args.entries.now c.first_bad.result c.first_bad.ensures.ok

pub returns-clause-last_writes : goal.returns-clause-last_writes
returns-clause-last_writes c = holds_last c.args.entries.now c.first_bad.result c.first_bad.ensures.ok
