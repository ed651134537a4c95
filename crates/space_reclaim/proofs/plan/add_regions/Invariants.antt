use Rattle.std.proofs.Common.{◌≡◌, ◌+◌, ◌≤◌, ◌++◌, length, drop, vec_len, vec_capacity}
use Rattle.space_reclaim.proofs.plan.add_regions.Given as goal

abbrev pub invariant-loop-region : goal.invariant-loop-region
invariant-loop-region l = record {
  regions : l.list.items ++ drop l.region-index l.regions ≡ l.fn.list.items ++ l.regions;
  room : vec_len l.list + length (drop l.region-index l.regions) ≤ vec_capacity l.list;
  capacity : vec_capacity l.list ≡ vec_capacity l.fn.list;
}
