use Rattle.handshakes.specs.PhaseWords.{phase_word_at}
use Rattle.barriers.specs.Spots.{spot_of}
use Rattle.stopless_copy.specs.ReadCauses.{read_cause_of}
use Rattle.stopless_copy.proofs.read.StoplessRead.new.Goals as goal

pub returns-clause-cause : goal.returns-clause-cause
returns-clause-cause c = rw (c.new.ensures, c.phase.ensures) (read_cause_of (spot_of c.args.birth c.args.at c.args.field) (phase_word_at c.args.view.acked).phase)
