use Rattle.std.proofs.Common.{◌≡◌, [], drop, vec_capacity}
use Rattle.space_reclaim.specs.Plans.{IsRoomy}
use Rattle.space_reclaim.proofs.plans.Progress.{IsPlannedTo}
use Rattle.space_reclaim.proofs.plan.Plan.fill.Given as goal

abbrev pub invariant-loop-row : goal.invariant-loop-row
invariant-loop-row l = record {
  progress : IsPlannedTo l.space l.rows l.objects (drop l.row-index l.rows) l.rest l.self-inside.chosen.items l.self-inside.jobs.items l.used.strip l.used.words;
  layout : l.self-inside.layout ≡ l.fn.self.layout;
  targets : l.self-inside.targets.items ≡ [];
  room : IsRoomy l.fn.self.layout (vec_capacity l.self-inside.chosen) (vec_capacity l.self-inside.targets) (vec_capacity l.self-inside.jobs);
}
