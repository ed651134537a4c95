use Rattle.std.proofs.Common.{sym, ◌∙◌}
use Rattle.heap_script.proofs.Pieces.{position_none, at}
use Rattle.heap_script.proofs.words.cut.Goals as goal

pub returns-in-None : goal.returns-in-None
returns-in-None c = position_none (at c.args.at) c.args.bytes.now (sym c.index_of.ensures ∙ c.in-None.is)
