use Rattle.std.proofs.Common.{◌≡◌, ◌+◌, ◌≤◌, ◌++◌, [], length, drop, vec_capacity}
use Rattle.space_reclaim.specs.Plans.{IsRoomy, empty_regions}
use Rattle.space_reclaim.proofs.plan.Plan.fill_without_copies.Given as goal

abbrev pub invariant-loop-row : goal.invariant-loop-row
invariant-loop-row l = record {
  chosen : l.self-inside.chosen.items ++ empty_regions (drop l.row-index l.rows) ≡ empty_regions l.rows;
  few : length l.self-inside.chosen.items + length (drop l.row-index l.rows) ≤ length l.rows;
  layout : l.self-inside.layout ≡ l.fn.self.layout;
  targets : l.self-inside.targets.items ≡ [];
  jobs : l.self-inside.jobs.items ≡ [];
  wide : l.self-inside.wide_words ≡ 0;
  room : IsRoomy l.fn.self.layout (vec_capacity l.self-inside.chosen) (vec_capacity l.self-inside.targets) (vec_capacity l.self-inside.jobs);
}
