use Rattle.heap_script.proofs.ToldLists.{push_number}
use Rattle.heap_script.proofs.told.push_untried.Goals as goal

pub loop-number-preserved : goal.loop-number-preserved
loop-number-preserved c = push_number _ _ _ _ c.loop-number.number c.loop-number.invariant c.in_ok-push.ensures.items
