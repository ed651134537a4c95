use Rattle.std.proofs.Common.{◌≡◌, ◌++◌, map}
use Rattle.std.specs.List.{range_with_len}
use Rattle.heap_script.specs.TellingSteps.{untried}
use Rattle.heap_script.proofs.told.push_untried.Given as goal

abbrev pub invariant-loop-number : goal.invariant-loop-number
invariant-loop-number l = l.agains.items ≡ l.fn.agains.items ++ map (λ number. untried l.thread number) (range_with_len 1 l.number)
