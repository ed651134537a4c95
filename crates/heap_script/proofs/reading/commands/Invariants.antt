use Rattle.std.proofs.Common.{◌≡◌, ◌+◌, ◌<◌, ◌^◌, length, All, ◌≤◌}
use Rattle.std.specs.Str.Lines.{lines}
use Rattle.heap_script.specs.Grammar.{commands_from}
use Rattle.heap_script.specs.Scripts.{LineFits}
use Rattle.heap_script.proofs.Loops.{with_front}
use Rattle.heap_script.proofs.reading.commands.Given as goal

abbrev pub invariant-loop-rest : goal.invariant-loop-rest
invariant-loop-rest l = record {
  so_far : with_front l.found.items (commands_from l.passes l.number (length l.found.items) (lines l.rest)) ≡ commands_from l.passes l.first 0 (lines l.bytes);
  each : All (LineFits l.passes) l.found.items;
  few : length l.found.items ≤ 65536;
  fits : l.number + length l.rest < 2 ^ 32;
}

abbrev pub decreases-loop-rest : goal.decreases-loop-rest
decreases-loop-rest l = length l.rest
