use Rattle.std.proofs.Common.{◌∙◌}
use Rattle.heap_script.proofs.Pieces.{lines_last, lines_cut}
use Rattle.heap_script.proofs.words.next_line.Goals as goal

pub returns-in-None-clause-found : goal.returns-in-None-clause-found
returns-in-None-clause-found c = lines_last c.args.bytes.now c.requires c.in-None.ensures

pub returns-in-Some-clause-found : goal.returns-in-Some-clause-found
returns-in-Some-clause-found c = lines_cut c.args.bytes.now c.in-Some.ensures.0 ∙ (cc (c.in-Some.ensures.1, c.in-Some.ensures.2, c.without_return.ensures))
