use Rattle.std.proofs.Common.{arith}
use Rattle.wide_objects.specs.WideWords.{word_of_wide}
use Rattle.wide_objects.specs.WideWordLaws.{wide_word_of-word_of_wide}
use Rattle.wide_objects.proofs.wide_word.WideWord.pack.Goals as goal

pub returns-clause-word : goal.returns-clause-word
unfolding word_of_wide
returns-clause-word c = omega arith

pub returns-clause-unpacks : goal.returns-clause-unpacks
returns-clause-unpacks c =
    rw (returns-clause-word c) (wide_word_of-word_of_wide c.args.self.now c.requires)
