-- While all links lead to homes, so does each field, and no home is on its way to a copy.
use Rattle.std.specs.Prelude.{◌≤◌, sum_by}
use Rattle.std.specs.List.{All}
use Rattle.std.proofs.Common.{◌≡◌, ℕ, Bool, true, false, List, [], ◌∷◌, refl, sym, subst, arith}
use Rattle.std.proofs.lemmas.List.Elements.{All-head, All-tail}
use Rattle.std.proofs.lemmas.List.Sums.{sum_by-cons}
use Rattle.heap_words.specs.Layouts.{Sizes}
use Rattle.object_headers.specs.Changes.{is_clover}
use Rattle.space_reclaim.specs.declared.move_job.MoveJob.{MoveJob}
use Rattle.space_reclaim.specs.Plans.{Planned}
use Rattle.barriers.specs.Cycles.{Cycle}
use Rattle.barriers.specs.Events.{IsStill}
use Rattle.barriers.specs.Kits.{Kit}
use Rattle.barriers.specs.Says.{Notices}
use Rattle.barriers.specs.Spaces.{Space}
use Rattle.barriers.specs.States.{State, Plain, Kept, Tagged as Tagged_state, Wide, Moving, IsHome}
use Rattle.lawful_records.specs.declared.stage.Announcement.{Announcement}
use Rattle.lawful_records.specs.declared.stage.Announcement.TheVariants.{Mark, Confirm, Search, Copy, Fix, Free}
use Rattle.lawful_records.specs.declared.collector.CollectorMachine.{CollectorMachine}
use Rattle.lawful_records.specs.declared.collector.CollectorMachine.TheVariants as collector
use Rattle.lawful_records.specs.declared.records.CollectorKnown.{CollectorKnown}
use Rattle.lawful_records.specs.declared.records.Party.{Party}
use Rattle.lawful_records.specs.declared.records.Party.TheVariants as party
use Rattle.lawful_records.specs.Cycling.{cycle_of}
use Rattle.lawful_records.specs.Fixing.{is_fixed, AreFieldsFixed, FixStands, IsAside, IsOfJob, AreJobsAside, IsFixedParty}
use Rattle.lawful_records.specs.JobStands.{JobStand, Tagging, Tagged, Moved_by, stand_at, stand_of, IsUnmoved, StandsAt}
use Rattle.lawful_records.specs.LawfulRecords.{IsParty, IsCollectorRecord, is_collector}
use Rattle.lawful_records.proofs.collecting.PlanLists.{all_in}

-- each field leads to a home, and no move of a home has begun
pub record IsCalm (s : Space) : Type 0 where
  pub fields : AreFieldsFixed s
  pub still : (a : ℕ) → IsHome (s.state a) → IsStill (s.state a)

-- ---- fields

unfixed : {A : Type 0} → false ≡ true → A
unfixed e = absurd (cc e)

pub fields_of : {M : Type 0} (k : CollectorMachine M) (s : Space) (n : Notices) → FixStands k s n → is_fixed k ≡ true → AreFieldsFixed s
fields_of (collector.Roots st pass reg m) s n stands fixed = unfixed fixed
fields_of (collector.Walk st m) s n stands fixed = unfixed fixed
fields_of k s n stands fixed = stands fixed

-- ---- jobs

-- none is moved
abbrev IsUnmovedStand : {M : Type 0} → JobStand M → Type 0
IsUnmovedStand (Moved_by job rest m) = ⊥
IsUnmovedStand stand = Unit {0}

stand_unmoved : (M : Type 0) (clover : Bool) (a : Announcement) (jobs : List MoveJob) → IsUnmovedStand {M = M} (stand_at clover a jobs)
stand_unmoved M clover Mark jobs = tt
stand_unmoved M clover Confirm jobs = tt
stand_unmoved M clover Search jobs = tt
stand_unmoved M true Copy jobs = tt
stand_unmoved M false Copy jobs = tt
stand_unmoved M clover Fix jobs = tt
stand_unmoved M clover Free jobs = tt

fixed_unmoved : {M : Type 0} (plan : Planned) (k : CollectorMachine M) → is_fixed k ≡ true → IsUnmovedStand (stand_of plan k)
fixed_unmoved {M} plan (collector.Announce s) fixed = stand_unmoved M (is_clover s.kind) s.announcement _
fixed_unmoved {M} plan (collector.Await s pass m) fixed = stand_unmoved M (is_clover s.kind) s.announcement _
fixed_unmoved plan (collector.Move s job next m) fixed = unfixed fixed
fixed_unmoved plan k fixed = tt

module _ {R W E M : Type 0} (kit : Kit R W E M) (l : Sizes) (c : Cycle) (s : Space) where
  -- the object of a job that is tagged or to be tagged is still
  job_still : (stand : JobStand M) → IsUnmovedStand stand → StandsAt kit l c s stand → (a : ℕ) → IsOfJob stand a → IsStill (s.state a)
  job_still (Tagging job done next jobs) unmoved stands a is = subst (λ x. IsStill (s.state x)) (sym is.2) (all_in (IsUnmoved l s) jobs is.0 stands.unmoved.each is.1).still
  job_still (Tagged jobs) unmoved stands a is = subst (λ x. IsStill (s.state x)) (sym is.2) (all_in (IsUnmoved l s) jobs is.0 stands.0.each is.1).still
  job_still (Moved_by job rest m) unmoved stands a is = absurd unmoved
  job_still stand unmoved stands a is = absurd is

  state_still : (a : ℕ) (x : State) → s.state a ≡ x → (IsAside (s.state a) → IsStill (s.state a)) → IsHome x → IsStill x
  state_still a Plain e is home = tt
  state_still a Kept e is home = tt
  state_still a Tagged_state e is home = tt
  state_still a (Wide w) e is home = subst IsStill e (is (subst IsAside (sym e) tt))
  state_still a (Moving t) e is home = subst IsStill e (is (subst IsAside (sym e) tt))
  state_still a x e is home = absurd home

  pub all_still : (plan : Planned) (k : CollectorMachine M) → is_fixed k ≡ true → StandsAt kit l c s (stand_of plan k) → AreJobsAside plan k s → (a : ℕ) → IsHome (s.state a) → IsStill (s.state a)
  all_still plan k fixed stands aside a home = state_still a (s.state a) refl (λ its. job_still (stand_of plan k) (fixed_unmoved plan k fixed) stands a (aside a its)) home

-- ---- the collector among the parties

module _ {R W E M : Type 0} (kit : Kit R W E M) (l : Sizes) (k : CollectorMachine M) (s : Space) (n : Notices) where
  -- its record, and that only objects of its jobs are on their way
  pub record TheCollector : Type 0 where
    pub known : CollectorKnown M
    pub own : IsCollectorRecord kit l k s known
    pub aside : AreJobsAside (let q = known in q.plan) k s

  pub the_collector : (rs : List (Party R W E M)) → 1 ≤ sum_by (is_collector kit) rs → All (IsParty kit l k s n) rs → All (IsFixedParty kit k s n) rs → TheCollector
  the_collector [] some each fixed = absurd (omega arith)
  the_collector (party.Pass p ∷ rs) some each fixed =
      the_collector rs (omega (arith, some, sum_by-cons (is_collector kit) (party.Pass p) rs)) (All-tail (IsParty kit l k s n) (party.Pass p) rs each) (All-tail (IsFixedParty kit k s n) (party.Pass p) rs fixed)
  the_collector (party.Collector q ∷ rs) some each fixed =
      record { known = q; own = All-head (IsParty kit l k s n) (party.Collector q) rs each; aside = All-head (IsFixedParty kit k s n) (party.Collector q) rs fixed }

  pub calm_of : TheCollector → FixStands k s n → is_fixed k ≡ true → IsCalm s
  calm_of its stands fixed = record { fields = fields_of k s n stands fixed; still = all_still kit l (cycle_of k) s (let q = its.known in q.plan) k fixed its.own.jobs its.aside }
