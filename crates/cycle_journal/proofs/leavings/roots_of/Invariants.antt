use Rattle.std.proofs.Common.{◌≡◌, ◌+◌, length, map, take}
use Rattle.std.specs.List.{range_with_len}
use Rattle.heap_words.specs.Layouts.{root_at}
use Rattle.heap_words.specs.declared.limits.TheConstants.{REGISTERS}
use Rattle.cycle_journal.specs.LastHeaps.{value_at}
use Rattle.cycle_journal.proofs.leavings.roots_of.Given as goal

abbrev pub invariant-loop-reg : goal.invariant-loop-reg
invariant-loop-reg l = record {
  all : length l.values ≡ REGISTERS;
  told : take l.reg l.values ≡ map (λ i. value_at l.words (root_at l.layout l.pass 0 + i)) (range_with_len 0 l.reg);
}
