use Rattle.heap_history.proofs.fixed_heap.FixedHeap.apply.Goals as goal

pub returns-in-Write-clause-reply : goal.returns-in-Write-clause-reply
returns-in-Write-clause-reply c = rw c.in-Write.is (c.write.ensures.reply c.in-Write.pass)

pub returns-in-Write-clause-heap : goal.returns-in-Write-clause-heap
returns-in-Write-clause-heap c = rw c.in-Write.is (c.write.ensures.heap c.in-Write.pass)

pub returns-in-Exchange-clause-reply : goal.returns-in-Exchange-clause-reply
returns-in-Exchange-clause-reply c = rw c.in-Exchange.is (c.exchange.ensures.reply c.in-Exchange.pass)

pub returns-in-Exchange-clause-heap : goal.returns-in-Exchange-clause-heap
returns-in-Exchange-clause-heap c = rw c.in-Exchange.is (c.exchange.ensures.heap c.in-Exchange.pass)
