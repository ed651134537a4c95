use Rattle.std.proofs.Common.{◌≡◌, length}
use Rattle.heap_script.specs.Words.{words}
use Rattle.heap_script.proofs.words.next_word.Given as goal

abbrev pub invariant-loop-word : goal.invariant-loop-word
invariant-loop-word l = words l.line ≡ words l.left

abbrev pub decreases-loop-word : goal.decreases-loop-word
decreases-loop-word l = length l.left
