use Rattle.std.proofs.Common.{◌≡◌, ◌+◌, ◌++◌, drop}
use Rattle.heap_report.specs.Leavings.{all_left_text}
use Rattle.heap_report.proofs.leavings.push_all_left.Given as goal

abbrev pub invariant-loop-registers : goal.invariant-loop-registers
invariant-loop-registers l = record {
  number : l.thread ≡ l.registers-index + 1;
  told : l.out.items ++ all_left_text l.thread (drop l.registers-index l.left) ≡ l.fn.out.items ++ all_left_text 1 l.left;
}
