-- The work on a plan before a stage is announced: no step of it announces anything, or changes the cycle that copiers see.
use Rattle.std.specs.Prelude.{if◌then◌else◌}
use Rattle.std.specs.List.{slice_get}
use Rattle.std.proofs.Common.{◌≡◌, ℕ, Bool, true, false, Option, Some, None, refl, ap}
use Rattle.heap_words.specs.Layouts.{Sizes}
use Rattle.object_headers.specs.Changes.{is_clover}
use Rattle.space_reclaim.specs.declared.move_job.MoveJob.{MoveJob}
use Rattle.space_reclaim.specs.Plans.{Planned}
use Rattle.barriers.specs.Cycles.{Cycle}
use Rattle.barriers.specs.Spaces.{Space}
use Rattle.barriers.specs.Kits.{Kit}
use Rattle.lawful_records.specs.declared.stage.Stage.{Stage}
use Rattle.lawful_records.specs.declared.collector.CollectorMachine.{CollectorMachine}
use Rattle.lawful_records.specs.declared.collector.CollectorMachine.TheVariants as collector
use Rattle.lawful_records.specs.Collectors.{is_planned, stage_before, stage_of, drawn_of, passed_of, mark_word, tag_at, move_at, target_at, source_at, work_at, moves_at}
use Rattle.lawful_records.specs.Cycling.{announced_by, clear_by, clear_until, cycle_of}
use Rattle.lawful_records.specs.Searches.{SearchStands}

-- it works before this stage is announced, or announces it
abbrev pub IsBefore : {M : Type 0} → Stage → CollectorMachine M → Type 0
IsBefore s (collector.Announce x) = x ≡ s
IsBefore s (collector.Source x region next) = x ≡ s
IsBefore s (collector.Target x region next) = x ≡ s
IsBefore s (collector.Tag x job next) = x ≡ s
IsBefore s (collector.Move x job next m) = x ≡ s
IsBefore s k = ⊥

-- ---- what is read off it is what is read off the announcement

module _ {M : Type 0} (s : Stage) where
  pub stage_is : (k : CollectorMachine M) → IsBefore s k → stage_of k ≡ stage_before s
  stage_is (collector.Announce x) is = ap stage_before is
  stage_is (collector.Source x region next) is = ap stage_before is
  stage_is (collector.Target x region next) is = ap stage_before is
  stage_is (collector.Tag x job next) is = ap stage_before is
  stage_is (collector.Move x job next m) is = ap stage_before is
  stage_is k is = absurd is

  pub passed_is : (k : CollectorMachine M) → IsBefore s k → passed_of k ≡ s.layout.passes
  passed_is (collector.Announce x) is = ap (λ (x : Stage). x.layout.passes) is
  passed_is (collector.Source x region next) is = ap (λ (x : Stage). x.layout.passes) is
  passed_is (collector.Target x region next) is = ap (λ (x : Stage). x.layout.passes) is
  passed_is (collector.Tag x job next) is = ap (λ (x : Stage). x.layout.passes) is
  passed_is (collector.Move x job next m) is = ap (λ (x : Stage). x.layout.passes) is
  passed_is k is = absurd is

  pub drawn_is : (k : CollectorMachine M) → IsBefore s k → drawn_of k ≡ mark_word s
  drawn_is (collector.Announce x) is = ap mark_word is
  drawn_is (collector.Source x region next) is = ap mark_word is
  drawn_is (collector.Target x region next) is = ap mark_word is
  drawn_is (collector.Tag x job next) is = ap mark_word is
  drawn_is (collector.Move x job next m) is = ap mark_word is
  drawn_is k is = absurd is

  pub clear_is : (k : CollectorMachine M) → IsBefore s k → clear_by k ≡ clear_until s
  clear_is (collector.Announce x) is = ap clear_until is
  clear_is (collector.Source x region next) is = ap clear_until is
  clear_is (collector.Target x region next) is = ap clear_until is
  clear_is (collector.Tag x job next) is = ap clear_until is
  clear_is (collector.Move x job next m) is = ap clear_until is
  clear_is k is = absurd is

  abbrev says : Stage → CollectorMachine M
  says x = collector.Announce x

  pub cycle_is : (k : CollectorMachine M) → IsBefore s k → cycle_of k ≡ cycle_of (says s)
  cycle_is (collector.Announce x) is = ap (λ (x : Stage). cycle_of (says x)) is
  cycle_is (collector.Source x region next) is = ap (λ (x : Stage). cycle_of (says x)) is
  cycle_is (collector.Target x region next) is = ap (λ (x : Stage). cycle_of (says x)) is
  cycle_is (collector.Tag x job next) is = ap (λ (x : Stage). cycle_of (says x)) is
  cycle_is (collector.Move x job next m) is = ap (λ (x : Stage). cycle_of (says x)) is
  cycle_is k is = absurd is

  pub announced_is : (k : CollectorMachine M) → IsBefore s k → announced_by k ≡ announced_by (says s)
  announced_is (collector.Announce x) is = ap (λ (x : Stage). announced_by (says x)) is
  announced_is (collector.Source x region next) is = ap (λ (x : Stage). announced_by (says x)) is
  announced_is (collector.Target x region next) is = ap (λ (x : Stage). announced_by (says x)) is
  announced_is (collector.Tag x job next) is = ap (λ (x : Stage). announced_by (says x)) is
  announced_is (collector.Move x job next m) is = ap (λ (x : Stage). announced_by (says x)) is
  announced_is k is = absurd is

  -- it is in no search
  pub none_sought : (l : Sizes) (c : Cycle) (space : Space) (k : CollectorMachine M) → IsBefore s k → SearchStands l c space k
  none_sought l c space (collector.Announce x) is = tt
  none_sought l c space (collector.Source x region next) is = tt
  none_sought l c space (collector.Target x region next) is = tt
  none_sought l c space (collector.Tag x job next) is = tt
  none_sought l c space (collector.Move x job next m) is = tt
  none_sought l c space k is = absurd is

-- ---- what comes next

module _ {R W E M : Type 0} (kit : Kit R W E M) (plan : Planned) (s : Stage) where
  abbrev Before : CollectorMachine M → Type 0
  Before k = IsBefore s k

  pub tag_before : (o : Option MoveJob) (at : ℕ) → Before (tag_at o s at)
  tag_before None at = refl
  tag_before (Some job) at = refl

  pub move_before : (o : Option MoveJob) (at : ℕ) → Before (move_at kit o s at)
  move_before None at = refl
  move_before (Some job) at = refl

  targeted_by : (b : Bool) → Before (if b then move_at kit (slice_get plan.jobs 0) s 0 else tag_at (slice_get plan.jobs 0) s 0)
  targeted_by true = move_before (slice_get plan.jobs 0) 0
  targeted_by false = tag_before (slice_get plan.jobs 0) 0

  pub target_before : (o : Option MoveJob) (at : ℕ) → Before (target_at kit plan o s at)
  target_before None at = targeted_by (is_clover s.kind)
  target_before (Some job) at = refl

  pub source_before : (o : Option ℕ) (at : ℕ) → Before (source_at kit plan o s at)
  source_before None at = target_before (slice_get plan.jobs 0) 0
  source_before (Some region) at = refl

  work_by : (b : Bool) → Before (if b then source_at kit plan (slice_get plan.chosen 0) s 0 else collector.Announce s)
  work_by true = source_before (slice_get plan.chosen 0) 0
  work_by false = refl

  pub works_before : Before (work_at kit plan s)
  works_before = work_by (is_planned s)

  moves_by : (b : Bool) → Before (if b then move_at kit (slice_get plan.jobs 0) s 0 else collector.Announce s)
  moves_by true = move_before (slice_get plan.jobs 0) 0
  moves_by false = refl

  pub moves_before : Before (moves_at kit plan s)
  moves_before = moves_by (is_planned s)
