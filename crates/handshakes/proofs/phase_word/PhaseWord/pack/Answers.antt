use Rattle.std.proofs.Common.{arith}
use Rattle.handshakes.specs.PhaseWords.{word_of_phase}
use Rattle.handshakes.specs.PhaseWordLaws.{phase_word_of-word_of_phase}
use Rattle.handshakes.proofs.phase_word.PhaseWord.pack.Goals as goal

pub returns-clause-word : goal.returns-clause-word
unfolding word_of_phase
returns-clause-word c = omega arith

pub returns-clause-unpacks : goal.returns-clause-unpacks
returns-clause-unpacks c =
    rw (returns-clause-word c) (phase_word_of-word_of_phase c.args.self.now c.requires)
