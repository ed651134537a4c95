use Rattle.std.proofs.Common.{◌<◌, length, ap, ◌∙◌, arith}
use Rattle.std.specs.List.{before_first}
use Rattle.heap_script.proofs.Pieces.{at, words_last, words_next, not_empty}
use Rattle.heap_script.proofs.words.next_word.Goals as goal

pub returns-then-not-is_empty : goal.returns-then-not-is_empty
returns-then-not-is_empty c =
    let some : 0 < length c.in-Some.word.now = not_empty _ _ c.is_empty.ensures c.if-not-is_empty.true in
    let first : 0 < length (before_first (at 32) c.loop-word.left.now) = omega (arith, ap length c.in-Some.ensures.1) in
    let e = words_next c.loop-word.left.now c.in-Some.ensures.0 first in
    cc (c.loop-word.invariant, e, c.in-Some.ensures.1, c.in-Some.ensures.2)

pub returns-else-is_empty : goal.returns-else-is_empty
returns-else-is_empty c = c.loop-word.invariant ∙ words_last c.loop-word.left.now (not_empty _ _ c.is_empty-2.ensures c.if-is_empty.false) c.in_default.ensures
