use Rattle.std.proofs.Common.{◌≡◌, ◌+◌, map}
use Rattle.std.specs.List.{range_with_len}
use Rattle.cycle_journal.specs.LastHeaps.{value_at}
use Rattle.cycle_journal.proofs.walk.values_at.Given as goal

abbrev pub invariant-loop-i : goal.invariant-loop-i
invariant-loop-i l = l.values.items ≡ map (λ i. value_at l.words (l.at + i)) (range_with_len 0 l.i)
