-- What a plan means: which objects it moves, and where their copies and wide objects are laid.
use Rattle.std.specs.Prelude.{◌≡◌, ℕ, ◌+◌, ◌-◌, ◌/◌, ◌<◌, ◌≤◌, ◌==◌, if◌then◌else◌, List, [], ◌∷◌, length, take}
use Rattle.std.specs.List.{All, AllPairs, AllZip, Any, Contains, sum_by}
use Rattle.heap_words.specs.Layouts.{Sizes, first_word, wide_at}
use Rattle.space_reclaim.specs.declared.plan.RegionLive.{RegionLive}
use Rattle.space_reclaim.specs.declared.plan.ObjectRow.{ObjectRow}
use Rattle.space_reclaim.specs.declared.move_job.MoveJob.{MoveJob}
use Rattle.space_reclaim.specs.Plans.{Space, objects_in_all, Planned}

-- ---- which objects are moved

-- a job that moves this object
pub record Moves (o : ObjectRow) (j : MoveJob) : Type 0 where
  pub birth : j.birth ≡ o.birth
  pub from : j.from ≡ o.at
  pub len : j.len ≡ o.len
  pub header : j.header ≡ o.header

-- a job moves one of these objects, which lies in one of these regions
abbrev pub MovesOneOf : List ObjectRow → List ℕ → MoveJob → Type 0
MovesOneOf objects regions j = Any (λ o. Contains regions o.region × Moves o j) objects

-- The chosen regions rise. Each was found Filled, and all that have no live words are among them. The jobs are those of
-- their objects, in order: each job moves one of them, each of them has a job, and no two jobs are of one object, since
-- they rise.
pub record EmptiesChosen (rows : List RegionLive) (objects : List ObjectRow) (plan : Planned) : Type 0 where
  pub rise : AllPairs (λ a b. a < b) plan.chosen
  pub filled : All (λ region. Any (λ r. r.region ≡ region) rows) plan.chosen
  pub empty : All (λ r. r.words ≡ 0 → Contains plan.chosen r.region) rows
  pub each : AllZip Moves (objects_in_all objects plan.chosen) plan.jobs
  pub own : All (MovesOneOf objects plan.chosen) plan.jobs
  pub every : All (λ o. Contains plan.chosen o.region → Any (Moves o) plan.jobs) objects
  pub once : AllPairs (λ j k. j.from < k.from) plan.jobs

-- ---- where copies lie

-- a copy lies within a free region of the pool
abbrev pub LiesInPool : Space → MoveJob → Type 0
LiesInPool s j =
    (region : ℕ)
    × Contains s.pool_free region
    × (first_word s.layout region ≤ j.to)
    × (j.to + j.len < first_word s.layout region + 64)

-- no copy leaves its region, and none overlaps another: each lies after those of the jobs before it
pub record AreCopiesApart (s : Space) (jobs : List MoveJob) : Type 0 where
  pub lie : All (LiesInPool s) jobs
  pub apart : AllPairs (λ j k. j.to + j.len < k.to) jobs

-- the region in which a word lies
abbrev pub region_around : Sizes → ℕ → ℕ
region_around l at = (at - first_word l 0) / 64

-- the region to which a job copies
abbrev pub target_of : Sizes → MoveJob → ℕ
target_of l j = region_around l j.to

-- The regions to which objects are copied: the first ones of the free regions of the pool, which rise. Each job copies
-- to one of them, and each of them gets a copy.
pub record FillsTargets (s : Space) (plan : Planned) : Type 0 where
  pub first : plan.targets ≡ take (length plan.targets) s.pool_free
  pub rise : AllPairs (λ a b. a < b) plan.targets
  pub free : All (Contains s.pool_free) plan.targets
  pub into : All (λ j. Contains plan.targets (target_of s.layout j)) plan.jobs
  pub used : All (λ region. Any (λ j. target_of s.layout j ≡ region) plan.jobs) plan.targets

-- where the objects of each region end, once this job's copy is laid
abbrev pub ends_with : Sizes → (ℕ → ℕ) → MoveJob → ℕ → ℕ
ends_with l ends j region = if region == target_of l j then j.to + 1 + j.len else ends region

-- where the objects of each region end so, each job in turn lays its copy at the very end of those in its region, and it
-- fits the region
abbrev pub AreLaid : Sizes → (ℕ → ℕ) → List MoveJob → Type 0
AreLaid l ends [] = Unit {0}
AreLaid l ends (j ∷ rest) =
    (j.to ≡ ends (target_of l j))
    × (j.to + 1 + j.len ≤ first_word l (target_of l j) + 64)
    × AreLaid l (ends_with l ends j) rest

-- copies are laid in order: so it is from where each free region of the pool ends at its first word
abbrev pub AreLaidInOrder : Space → List MoveJob → Type 0
AreLaidInOrder s jobs =
    (ends : ℕ → ℕ) → All (λ region. ends region ≡ first_word s.layout region) s.pool_free → AreLaid s.layout ends jobs

-- ---- where wide objects lie

-- wide objects follow each other from this address on, each with its fields and one more word
abbrev pub FollowFrom : ℕ → List MoveJob → Type 0
FollowFrom at [] = Unit {0}
FollowFrom at (j ∷ rest) = (j.wide ≡ at) × FollowFrom (at + j.len + 1) rest

-- They follow each other from the first word of the wide area on, and end in its free words; so none overlaps another. The
-- plan says how many words they take.
pub record AreWideLaid (s : Space) (plan : Planned) : Type 0 where
  pub follow : FollowFrom (wide_at s.layout) plan.jobs
  pub words : plan.wide_words ≡ sum_by (λ j. j.len + 1) plan.jobs
  pub fits : plan.wide_words ≤ s.wide_free
  pub begin : All (λ j. wide_at s.layout ≤ j.wide) plan.jobs
  pub end : All (λ j. j.wide + j.len < wide_at s.layout + plan.wide_words) plan.jobs
  pub apart : AllPairs (λ j k. j.wide + j.len < k.wide) plan.jobs

-- there are none
pub record HasNoWide (plan : Planned) : Type 0 where
  pub none : All (λ j. j.wide ≡ 0) plan.jobs
  pub words : plan.wide_words ≡ 0
