use Rattle.std.proofs.Common.{◌≡◌, ◌+◌, ◌≤◌, length}
use Rattle.std.specs.Prelude.{◌==◌, count_by}
use Rattle.std.specs.Str.Lines.{lines}
use Rattle.heap_script.specs.Grammar.{script_from, script_of, has_heap_line}
use Rattle.heap_script.proofs.reading.script.Given as goal

abbrev pub invariant-loop-rest : goal.invariant-loop-rest
invariant-loop-rest l = record {
  so_far : script_from (1 + count_by (λ b. b == 10) l.bytes) l.number (lines l.rest) ≡ script_of l.bytes;
  heads : has_heap_line (lines l.rest) ≡ has_heap_line (lines l.bytes);
  fits : l.number + length l.rest ≤ 1 + length l.bytes;
}

abbrev pub decreases-loop-rest : goal.decreases-loop-rest
decreases-loop-rest l = length l.rest
