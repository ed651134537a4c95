use Rattle.std.proofs.Common.{◌≡◌, map}
use Rattle.heap_script.specs.Commands.{commands_by}
use Rattle.heap_script.proofs.commands.Commands.of_lines.Given as goal

abbrev pub invariant-loop-thread : goal.invariant-loop-thread
invariant-loop-thread l = map (λ list. list.items) l.lists.items ≡ commands_by l.thread l.lines
