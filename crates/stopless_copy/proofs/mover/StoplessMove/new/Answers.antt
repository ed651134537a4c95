use Rattle.std.specs.Prelude.{None}
use Rattle.std.proofs.Common.{sym, ◌∙◌}
use Rattle.stopless_copy.specs.MoveCauses.{move_by}
use Rattle.stopless_copy.proofs.mover.StoplessMove.new.Goals as goal

pub returns-in-Some-clause-cause : goal.returns-in-Some-clause-cause
returns-in-Some-clause-cause c = move_by c.args.job _ (sym c.headers_of.ensures ∙ c.in-Some.is)

pub returns-in-None-clause-cause : goal.returns-in-None-clause-cause
returns-in-None-clause-cause c = move_by c.args.job None (sym c.headers_of.ensures ∙ c.in-None.is)
