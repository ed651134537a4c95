use Rattle.heap_script.proofs.RoundTrip.{script_again}
use Rattle.heap_script.proofs.printing.print_script.Goals as goal

pub returns-in_err-push_heading-clause-again : goal.returns-in_err-push_heading-clause-again
returns-in_err-push_heading-clause-again c = script_again c.args.script.now c.requires

pub returns-in_err-push_line-clause-again : goal.returns-in_err-push_line-clause-again
returns-in_err-push_line-clause-again c = script_again c.args.script.now c.requires

pub returns-clause-again : goal.returns-clause-again
returns-clause-again c = script_again c.args.script.now c.requires
