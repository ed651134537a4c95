-- What has become of the jobs of a plan.
use Rattle.std.specs.Prelude.{ℕ, List, [], ◌∷◌, ◌++◌, Option, Some, None}
use Rattle.space_reclaim.specs.declared.move_job.MoveJob.{MoveJob}
use Rattle.space_reclaim.specs.Plans.{Planned}
use Rattle.barriers.specs.declared.ends.MoveEnd.{MoveEnd}
use Rattle.gc_cycle.specs.declared.job_log.SealedAt.{SealedAt}

-- the plan, the objects that are sealed, and the jobs that have ended and what with
pub record Logged : Type 0 where
  pub plan : Planned
  pub sealed : List SealedAt
  pub moved : List (MoveJob × MoveEnd)

-- what is sealed after a step that seals the object of this job, if it seals one, where there are so many changes
abbrev pub sealed_after : Option MoveJob → ℕ → List SealedAt → List SealedAt
sealed_after None changes sealed = sealed
sealed_after (Some job) changes sealed = sealed ++ record { at = job.from; len = job.len; changes = changes } ∷ []

-- and which jobs have ended after a step by which this one ends, if one does
abbrev pub moved_after : Option (MoveJob × MoveEnd) → List (MoveJob × MoveEnd) → List (MoveJob × MoveEnd)
moved_after None moved = moved
moved_after (Some ended) moved = moved ++ ended ∷ []
