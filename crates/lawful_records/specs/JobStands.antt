-- Where the jobs of the cycle's plan stand, and what holds of their objects then.
use Rattle.std.specs.Prelude.{◌≡◌, ◌≢◌, ℕ, ◌+◌, ◌<◌, ◌≤◌, ◌⊎◌, Bool, true, false, List, [], ◌∷◌, take, drop, Some}
use Rattle.std.specs.List.{All, AllPairs}
use Rattle.heap_words.specs.Layouts.{Sizes, first_word, wide_at}
use Rattle.object_headers.specs.declared.change.Kind.{Kind}
use Rattle.object_headers.specs.Changes.{is_stopless, is_clover, does_move}
use Rattle.object_headers.specs.Headers.{word_of_header}
use Rattle.space_reclaim.specs.declared.move_job.MoveJob.{MoveJob}
use Rattle.space_reclaim.specs.declared.region_word.RegionWord.TheVariants as regions
use Rattle.space_reclaim.specs.Plans.{Planned}
use Rattle.barriers.specs.Sets.{set}
use Rattle.barriers.specs.States.{Absent, Plain, Forward}
use Rattle.barriers.specs.Spaces.{Space}
use Rattle.barriers.specs.Cycles.{Cycle}
use Rattle.barriers.specs.CycleLaws.{IsTaggedOrKept}
use Rattle.barriers.specs.Events.{IsStill}
use Rattle.barriers.specs.Objects.{IsMove, planned_header}
use Rattle.barriers.specs.Moves.{Carried, Lays, job_of}
use Rattle.barriers.specs.MoveSteps.{IsJob}
use Rattle.barriers.specs.Kits.{Kit}
use Rattle.lawful_records.specs.declared.stage.Announcement.{Announcement}
use Rattle.lawful_records.specs.declared.stage.Announcement.TheVariants.{Mark, Confirm, Search, Copy, Fix, Free}
use Rattle.lawful_records.specs.declared.stage.Stage.{Stage}
use Rattle.lawful_records.specs.declared.collector.CollectorMachine.{CollectorMachine}
use Rattle.lawful_records.specs.declared.collector.CollectorMachine.TheVariants as collector
use Rattle.lawful_records.specs.Collectors.{jobs_of, target_of}

-- ---- the plan

-- a job of a copier of this kind
pub record IsPlannedJob (kind : Kind) (j : MoveJob) : Type 0 where
  pub moves : does_move kind ≡ true
  pub job : IsJob j
  pub wide : is_stopless kind ≡ true → j.wide ≢ 0

-- regions of the pool are emptied, and its jobs are such
pub record IsPlan (kind : Kind) (l : Sizes) (plan : Planned) : Type 0 where
  pub chosen : All (λ region. region < l.pool) plan.chosen
  pub jobs : All (IsPlannedJob kind) plan.jobs

-- ---- jobs of which nothing has moved

-- The object is there with the header that was planned, and no address of a copy. Its copy fits a region of the pool. If it is to have a
-- wide object, that lies in the wide area, after all that are there. It is no copy itself.
pub record IsUnmoved (l : Sizes) (s : Space) (j : MoveJob) : Type 0 where
  pub pool : target_of l j < l.pool
  pub room : j.to + 1 + j.len ≤ first_word l (target_of l j) + 64
  pub wide : j.wide ≢ 0 → (wide_at l ≤ j.wide) × (j.wide + j.len < wide_at l + l.wide)
  pub above : j.wide ≢ 0 → (a : ℕ) → s.state a ≢ Absent → s.wide a ≢ 0 → s.wide a + s.len a < j.wide
  pub still : IsStill (s.state j.from)
  pub len : s.len j.from ≡ j.len
  pub birth : s.birth j.from ≡ j.birth
  pub header : j.header ≡ word_of_header (planned_header s j)
  pub wideless : s.wide j.from ≡ 0
  pub address : s.address j.from ≡ 0
  pub apart : (a to : ℕ) → s.state a ≡ Forward to → to ≢ j.from

-- the second is of another object, and its wide object lies after that of the first
pub record IsAfter (i j : MoveJob) : Type 0 where
  pub other : i.from ≢ j.from
  pub wide : j.wide ≢ 0 → i.wide + i.len < j.wide

-- where the objects of regions end when the copy is there too
abbrev pub ends_after : Sizes → (ℕ → ℕ) → MoveJob → ℕ → ℕ
ends_after l ends j = set ends (target_of l j) (j.to + 1 + j.len)

-- each copy's place is where the objects of its region and the copies before it end
abbrev pub AreLaid : Sizes → (ℕ → ℕ) → List MoveJob → Type 0
AreLaid l ends [] = Unit {0}
AreLaid l ends (j ∷ rest) = (ends (target_of l j) ≡ j.to) × AreLaid l (ends_after l ends j) rest

-- none of these jobs has begun, where the objects of regions end so when they are next
pub record AreUnmoved (l : Sizes) (s : Space) (ends : ℕ → ℕ) (jobs : List MoveJob) : Type 0 where
  pub each : All (IsUnmoved l s) jobs
  pub laid : AreLaid l ends jobs
  pub after : AllPairs IsAfter jobs

-- ---- headers and regions

abbrev pub IsPlainAt : Space → MoveJob → Type 0
IsPlainAt s j = s.state j.from ≡ Plain

abbrev pub IsTaggedAt : Space → MoveJob → Type 0
IsTaggedAt s j = IsTaggedOrKept (s.state j.from)

-- when jobs are moved their objects are tagged; where a mark is sought they are Plain
abbrev pub IsWaiting : Bool → Space → MoveJob → Type 0
IsWaiting true s j = IsPlainAt s j
IsWaiting false s j = IsTaggedAt s j

-- the region of its copy is Target
abbrev pub IsTarget : Sizes → Space → MoveJob → Type 0
IsTarget l s j = s.region (target_of l j) ≡ regions.Target

-- or it is this one
abbrev pub IsTargetOr : Sizes → Space → ℕ → MoveJob → Type 0
IsTargetOr l s region j = IsTarget l s j ⊎ (target_of l j ≡ region)

-- ---- where they stand

-- No job is to come. Of these nothing is done. The regions of so many of these are Target, but for this region, which is next. The object of this
-- job is tagged next: those of the first list are tagged but for it, and those of the second are to be. All are tagged. This job is moved by
-- this machine, and then these.
pub data JobStand (M : Type 0) : Type 0 where
  Settled : JobStand M
  Coming : List MoveJob → JobStand M
  Targeting : ℕ → ℕ → List MoveJob → JobStand M
  Tagging : MoveJob → List MoveJob → List MoveJob → List MoveJob → JobStand M
  Tagged : List MoveJob → JobStand M
  Moved_by : MoveJob → List MoveJob → M → JobStand M

module _ {M : Type 0} where
  -- while Copy is announced or awaited; where a mark is sought nothing is tagged
  abbrev pub stand_at_copy : Bool → List MoveJob → JobStand M
  stand_at_copy true jobs = Coming jobs
  stand_at_copy false jobs = Tagged jobs

  -- while this is announced or awaited, where the cycle has these jobs
  abbrev pub stand_at : Bool → Announcement → List MoveJob → JobStand M
  stand_at clover Mark jobs = Coming jobs
  stand_at clover Confirm jobs = Coming jobs
  stand_at clover Search jobs = Coming jobs
  stand_at clover Copy jobs = stand_at_copy clover jobs
  stand_at clover Fix jobs = Settled
  stand_at clover Free jobs = Settled

  abbrev pub stand_in : Planned → Stage → JobStand M
  stand_in plan s = stand_at (is_clover s.kind) s.announcement (jobs_of plan s)

  abbrev pub stand_of : Planned → CollectorMachine M → JobStand M
  stand_of plan (collector.Announce s) = stand_in plan s
  stand_of plan (collector.Await s pass m) = stand_in plan s
  stand_of plan (collector.Draw s) = Coming (jobs_of plan s)
  stand_of plan (collector.Seek s m) = Coming (jobs_of plan s)
  stand_of plan (collector.Source s region next) = Coming plan.jobs
  stand_of plan (collector.Target s region next) = Targeting region next plan.jobs
  stand_of plan (collector.Tag s job next) = Tagging job (take next plan.jobs) (drop next plan.jobs) plan.jobs
  stand_of plan (collector.Move s job next m) = Moved_by job (drop next plan.jobs) m
  stand_of plan (collector.Roots s pass reg m) = Settled
  stand_of plan (collector.Walk s m) = Settled
  stand_of plan (collector.Done s) = Settled

  -- the object at this address is on its way by a mark only while it is moved
  abbrev pub IsMovedBy : CollectorMachine M → ℕ → Type 0
  IsMovedBy (collector.Move s job next m) a = a ≡ job.from
  IsMovedBy k a = ⊥

-- the object of this job is tagged next
pub record IsTagging (l : Sizes) (s : Space) (job : MoveJob) (done next jobs : List MoveJob) : Type 0 where
  pub unmoved : AreUnmoved l s s.ends jobs
  pub own : IsUnmoved l s job
  pub plain : IsPlainAt s job
  pub tagged : All (λ j. IsTaggedAt s j ⊎ (j ≡ job)) done
  pub rest : All (IsPlainAt s) next
  pub after : All (IsAfter job) next
  pub targets : All (IsTarget l s) jobs

-- where the objects of regions end before the next job begins: a mover that is about to store the copy's header lays that copy first
abbrev pub ends_by : Sizes → Carried → (ℕ → ℕ) → ℕ → ℕ
ends_by l (Lays j) ends = ends_after l ends j
ends_by l m ends = ends

module _ {R W E M : Type 0} (kit : Kit R W E M) where
  -- a mover of this job, which may be about to store the copy's header
  pub record IsMover (l : Sizes) (c : Cycle) (s : Space) (j : MoveJob) (m : M) : Type 0 where
    pub moves : does_move kit.kind ≡ true
    pub pool : target_of l j < l.pool
    pub job : job_of (kit.moves m) ≡ Some j
    pub own : kit.MovesFor c.mark m
    pub move : IsMove kit.protocol c s (kit.moves m) j
    pub lays : (i : MoveJob) → kit.moves m ≡ Lays i → IsUnmoved l s j × IsTarget l s j × (s.ends (target_of l j) ≡ j.to)

  -- and of the jobs after it nothing is done but tags
  pub record IsMoverOf (l : Sizes) (c : Cycle) (s : Space) (j : MoveJob) (rest : List MoveJob) (m : M) : Type 0 where
    pub mover : IsMover l c s j m
    pub unmoved : AreUnmoved l s (ends_by l (kit.moves m) s.ends) rest
    pub waiting : All (IsWaiting (is_clover kit.kind) s) rest
    pub targets : All (IsTarget l s) rest
    pub after : All (IsAfter j) rest

  -- what holds of the jobs' objects
  abbrev pub StandsAt : Sizes → Cycle → Space → JobStand M → Type 0
  StandsAt l c s Settled = Unit {0}
  StandsAt l c s (Coming jobs) = AreUnmoved l s s.ends jobs × All (IsPlainAt s) jobs
  StandsAt l c s (Targeting region next jobs) = AreUnmoved l s s.ends jobs × All (IsPlainAt s) jobs × All (IsTargetOr l s region) (take next jobs)
  StandsAt l c s (Tagging job tagged rest jobs) = IsTagging l s job tagged rest jobs
  StandsAt l c s (Tagged jobs) = AreUnmoved l s s.ends jobs × All (IsTaggedAt s) jobs × All (IsTarget l s) jobs
  StandsAt l c s (Moved_by job rest m) = IsMoverOf l c s job rest m
