-- Which objects are those of jobs, from one machine of the collector to the next.
use Rattle.std.specs.Prelude.{◌∷◌, [], zero, suc, if◌then◌else◌, drop}
use Rattle.std.specs.List.{slice_get}
use Rattle.std.proofs.Common.{inl, inr, ◌≡◌, ℕ, ◌⊎◌, Bool, true, false, List, Option, Some, None, refl, sym, ap, ◌∙◌, subst}
use Rattle.object_headers.specs.Changes.{is_clover}
use Rattle.space_reclaim.specs.declared.move_job.MoveJob.{MoveJob}
use Rattle.space_reclaim.specs.Plans.{Planned}
use Rattle.barriers.specs.Kits.{Kit}
use Rattle.lawful_records.specs.declared.stage.Announcement.{Announcement}
use Rattle.lawful_records.specs.declared.stage.Announcement.TheVariants.{Mark, Confirm, Search, Copy, Fix, Free}
use Rattle.lawful_records.specs.declared.stage.Stage.{Stage}
use Rattle.lawful_records.specs.declared.collector.CollectorMachine.{CollectorMachine}
use Rattle.lawful_records.specs.declared.collector.CollectorMachine.TheVariants as collector
use Rattle.lawful_records.specs.Collectors.{is_planned, jobs_of, tag_at, move_at, work_at, moves_at, behind_by}
use Rattle.lawful_records.specs.Fixing.{IsObjectOf, IsOfJob}
use Rattle.lawful_records.specs.JobStands.{stand_at_copy, stand_at, stand_of}
use Rattle.lawful_records.proofs.collecting.PlanLists.{drop_some, drop_none}

-- ---- lists

none_of : (a : ℕ) → IsObjectOf [] a → ⊥
none_of a is = cc (is.1).1

first_or : (x : MoveJob) (xs : List MoveJob) (a : ℕ) → IsObjectOf (x ∷ xs) a → (a ≡ x.from) ⊎ IsObjectOf xs a
first_or x xs a is = by is.0 (is.1).0 (is.1).1 is.2
  where
    by : (job : MoveJob) (i : ℕ) → slice_get (x ∷ xs) i ≡ Some job → a ≡ job.from → (a ≡ x.from) ⊎ IsObjectOf xs a
    by job zero e at = inl (at ∙ ap (λ (j : MoveJob). j.from) (let same : Some x ≡ Some job = e in let its : x ≡ job = cc same in sym its))
    by job (suc i) e at = inr (job, (i, e), at)

module _ {R W E M : Type 0} (kit : Kit R W E M) (plan : Planned) (st : Stage) where
  abbrev Of : CollectorMachine M → ℕ → Type 0
  Of k a = IsOfJob (stand_of plan k) a

  -- the next job is moved, or none is left
  pub next_objects : (next : ℕ) (o : Option MoveJob) → slice_get plan.jobs next ≡ o → (a : ℕ) → IsObjectOf (drop next plan.jobs) a → Of (move_at kit o st next) a
  next_objects next None e a is = absurd (none_of a (subst (λ (jobs : List MoveJob). IsObjectOf jobs a) (drop_none plan.jobs next e) is))
  next_objects next (Some job) e a is = elim (first_or job _ a (subst (λ (jobs : List MoveJob). IsObjectOf jobs a) (drop_some plan.jobs next job e) is)) [
    | inl own ↦ inl own
    | inr later ↦ inr (inr later)
  ]

  -- the next job's object is tagged, or all are
  pub tag_objects : (next : ℕ) (o : Option MoveJob) → slice_get plan.jobs next ≡ o → is_planned st ≡ true → st.announcement ≡ Copy → is_clover st.kind ≡ false → (a : ℕ) → IsObjectOf plan.jobs a → Of (tag_at o st next) a
  tag_objects next None e has copy plain a is = rw (plain, copy, has) is
  tag_objects next (Some job) e has copy plain a is = is

  -- ---- after an await

  copy_none : (clover : Bool) (a : ℕ) → IsOfJob {M = M} (stand_at_copy clover []) a → ⊥
  copy_none true a is = is
  copy_none false a is = none_of a is

  abbrev at_fix : Stage
  at_fix = record st { announcement = Fix }

  moves_by : (has : Bool) (a : ℕ) → IsObjectOf (if has then plan.jobs else []) a → Of (if has then move_at kit (slice_get plan.jobs 0) at_fix 0 else collector.Announce at_fix) a
  moves_by true a is = next_from_start (slice_get plan.jobs 0) refl a is
    where
      next_from_start : (o : Option MoveJob) → slice_get plan.jobs 0 ≡ o → (a : ℕ) → IsObjectOf plan.jobs a → Of (move_at kit o at_fix 0) a
      next_from_start None e a is = absurd (none_of a (subst (λ (jobs : List MoveJob). IsObjectOf jobs a) (drop_none plan.jobs 0 e) is))
      next_from_start (Some job) e a is = elim (first_or job _ a (subst (λ (jobs : List MoveJob). IsObjectOf jobs a) (drop_some plan.jobs 0 job e) is)) [
        | inl own ↦ inl own
        | inr later ↦ inr (inr later)
      ]
  moves_by false a is = absurd (none_of a is)

  to_fix_by : (clover : Bool) (a : ℕ) → IsOfJob {M = M} (stand_at_copy clover (jobs_of plan st)) a → Of (if clover then work_at kit plan at_fix else moves_at kit plan at_fix) a
  to_fix_by true a is = absurd is
  to_fix_by false a is = moves_by (is_planned st) a is

  pub objects_behind : (b : Announcement) (a : ℕ) → IsOfJob {M = M} (stand_at (is_clover st.kind) b (jobs_of plan st)) a → Of (behind_by kit plan b st) a
  objects_behind Mark a is = absurd is
  objects_behind Confirm a is = absurd is
  objects_behind Search a is = absurd is
  objects_behind Copy a is = to_fix_by (is_clover st.kind) a is
  objects_behind Fix a is = absurd is
  objects_behind Free a is = absurd is
