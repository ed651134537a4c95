use Rattle.std.proofs.Common.{◌≡◌, take}
use Rattle.heap_script.specs.Allowed.{commands_of}
use Rattle.heap_script.proofs.commands.thread_commands.Given as goal

abbrev pub invariant-loop-line : goal.invariant-loop-line
invariant-loop-line l = l.list.items ≡ commands_of l.thread (take l.line-index l.lines)
