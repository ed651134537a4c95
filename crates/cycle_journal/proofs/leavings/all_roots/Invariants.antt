use Rattle.std.proofs.Common.{◌≡◌, map}
use Rattle.std.specs.List.{range_with_len}
use Rattle.heap_words.specs.Layouts.{root_at}
use Rattle.heap_words.specs.declared.limits.TheConstants.{REGISTERS}
use Rattle.cycle_journal.specs.LastHeaps.{values_at}
use Rattle.cycle_journal.proofs.leavings.all_roots.Given as goal

abbrev pub invariant-loop-pass : goal.invariant-loop-pass
invariant-loop-pass l = l.left.items ≡ map (λ pass. values_at l.words (root_at l.layout pass 0) REGISTERS) (range_with_len 1 l.pass)
