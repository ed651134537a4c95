use Rattle.heap_script.proofs.ToldLists.{push_piece}
use Rattle.heap_script.proofs.told.all_untried.Goals as goal

pub loop-thread-preserved : goal.loop-thread-preserved
loop-thread-preserved c = push_piece _ _ _ c.loop-thread.thread c.loop-thread.invariant (rw c.count-count.ensures at c.in_ok-push_untried.ensures)
