use Rattle.std.proofs.Common.{◌≡◌, ◌+◌, ◌≤◌, drop}
use Rattle.heap_words.specs.declared.limits.TheConstants.{REGION_WORDS}
use Rattle.heap_words.specs.Packing.{packing, begun_by_all}
use Rattle.space_reclaim.proofs.next_fit.packing.Given as goal

abbrev pub invariant-loop-len : goal.invariant-loop-len
invariant-loop-len l = record {
  so_far : l.regions + begun_by_all l.used (drop l.len-index l.lens) ≡ packing l.lens;
  used : l.used ≤ REGION_WORDS;
  few : l.regions ≤ l.len-index;
}
