use Rattle.std.proofs.Common.{ap, subst, ◌∙◌}
use Rattle.heap_script.specs.Gives.{IsAnswer}
use Rattle.heap_script.specs.Grammar.{script_of}
use Rattle.heap_script.proofs.RoundTrip.{script_again}
use Rattle.heap_script.proofs.First.{is_found, is_fault}
use Rattle.heap_script.proofs.Unique.{is_read, is_refused}
use Rattle.heap_script.proofs.reading.read_script.Goals as goal

pub returns-clause-found : goal.returns-clause-found
returns-clause-found c = is_found c.args.bytes.now c.script.result c.script.ensures.exact

pub returns-clause-fault : goal.returns-clause-fault
returns-clause-fault c = is_fault c.args.bytes.now c.script.result c.script.ensures.exact

pub returns-clause-again : goal.returns-clause-again
returns-clause-again c = λ s fits e. subst (λ r. IsAnswer c.script.result r) (ap script_of e ∙ script_again s fits) c.script.ensures.exact

pub returns-clause-reads : goal.returns-clause-reads
returns-clause-reads c = λ s h. subst (λ r. IsAnswer c.script.result r) (is_read c.args.bytes.now s h) c.script.ensures.exact

pub returns-clause-refuses : goal.returns-clause-refuses
returns-clause-refuses c = λ f h. subst (λ r. IsAnswer c.script.result r) (is_refused c.args.bytes.now f h) c.script.ensures.exact
