use Rattle.std.proofs.Common.{◌≡◌, take}
use Rattle.heap_history.specs.FixedHeaps.{opening}
use Rattle.heap_history.specs.Histories.{IsAccepted, heap_after, calls}
use Rattle.heap_history.proofs.check.first_bad.Given as goal

-- the entries so far are accepted, and the heap is the one after them
abbrev pub invariant-loop-index : goal.invariant-loop-index
invariant-loop-index l = record {
  accepted : IsAccepted opening (take l.index l.entries);
  is : l.heap ≡ heap_after opening (calls (take l.index l.entries));
}
