use Rattle.std.proofs.Common.{◌≡◌, ◌+◌, ◌*◌, ◌%◌, ◌^◌, arith}
use Rattle.heap_words.specs.declared.field_word.FieldWord.TheVariants.{Num, Link}
use Rattle.heap_words.specs.FieldWords.{word_of, IsFieldWord}
use Rattle.heap_words.specs.FieldWordLaws.{field_of-word_of}
use Rattle.heap_words.proofs.field_word.pack.Goals as goal

pub returns-in-Num-clause-unpacks : goal.returns-in-Num-clause-unpacks
unfolding word_of
returns-in-Num-clause-unpacks c =
    rw c.in-Num.is (field_of-word_of (Num c.in-Num.n) (rw c.in-Num.is at c.requires))

pub returns-in-Link-clause-unpacks : goal.returns-in-Link-clause-unpacks
unfolding word_of
returns-in-Link-clause-unpacks c =
    let fits : IsFieldWord (Link c.in-Link.birth c.in-Link.at) = rw c.in-Link.is at c.requires in
    let word : 2 ^ 61 + c.from.result * 1048576 % 2 ^ 64 + c.from-in-Link.result ≡ 2 ^ 61 + 2 ^ 20 * c.in-Link.birth + c.in-Link.at = omega arith in
    rw (word, c.in-Link.is) (field_of-word_of (Link c.in-Link.birth c.in-Link.at) fits)
