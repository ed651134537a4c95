use Rattle.std.proofs.Common.{◌≡◌}
use Rattle.std.specs.List.{flat_map, range_with_len}
use Rattle.heap_script.specs.Commands.{commands_at}
use Rattle.heap_script.specs.TellingSteps.{agains_in}
use Rattle.heap_script.proofs.told.all_untried.Given as goal

abbrev pub invariant-loop-thread : goal.invariant-loop-thread
invariant-loop-thread l = l.agains.items ≡ flat_map (λ thread. agains_in thread (commands_at l.commands thread)) (range_with_len 1 l.thread)
