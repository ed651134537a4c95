-- At the start nothing of the first cycle's plan is done.
use Rattle.std.specs.Prelude.{nat_lt, if◌then◌else◌}
use Rattle.std.proofs.Common.{inl, inr, ◌≡◌, ℕ, ◌+◌, Bool, true, false, [], ◌∷◌, refl, sym, ap, ◌∙◌, subst, arith}
use Rattle.std.proofs.lemmas.List.Elements.{All-nil, All-cons}
use Rattle.heap_words.specs.Layouts.{Sizes, first_word}
use Rattle.object_headers.specs.declared.change.Kind.{Kind}
use Rattle.barriers.specs.Rows.{region_of}
use Rattle.barriers.specs.Says.{opening_space}
use Rattle.barriers.specs.Spaces.{Space}
use Rattle.barriers.specs.States.{Absent, Plain, Forward}
use Rattle.barriers.specs.Cycles.{Cycle}
use Rattle.barriers.specs.Events.{IsStill}
use Rattle.barriers.specs.Kits.{Kit}
use Rattle.barriers.proofs.words.Sets.{set_cases, set_here, set_else}
use Rattle.lawful_records.specs.declared.job.TheConstants.{FILLED}
use Rattle.lawful_records.specs.declared.stage.Announcement.TheVariants.{Mark}
use Rattle.lawful_records.specs.declared.collector.CollectorMachine.{CollectorMachine}
use Rattle.lawful_records.specs.declared.collector.CollectorMachine.TheVariants as collector
use Rattle.lawful_records.specs.Collectors.{stage_at_start, collector_of}
use Rattle.lawful_records.specs.Cycling.{cycle_of}
use Rattle.lawful_records.specs.Jobs.{has_job, first_job, first_plan}
use Rattle.lawful_records.specs.JobStands.{Coming, stand_of, IsUnmoved, AreUnmoved, IsPlainAt, StandsAt}
use Rattle.lawful_records.proofs.collecting.FirstJobs.{HasFirst, has_first, wide_inside, filled_region}

module _ (l : Sizes) where
  abbrev S : Space
  S = opening_space l

  plain : S.state (first_word l 0) ≡ Plain
  plain = set_here (λ a. Absent) (first_word l 0) Plain

  none_forward : (a to : ℕ) → S.state a ≡ Forward to → ⊥
  none_forward a to forward = elim (set_cases (λ a. Absent) (first_word l 0) a Plain) [
    | inl q ↦ absurd (let gone : Plain ≡ Forward to = sym q.1 ∙ forward in cc gone)
    | inr q ↦ absurd (let gone : Absent ≡ Forward to = sym q.1 ∙ forward in cc gone)
  ]

  place : region_of l (first_word l FILLED) ≡ FILLED
  place = filled_region l

  first_unmoved : (kind : Kind) → HasFirst kind l → IsUnmoved l S (first_job kind l)
  first_unmoved kind has = record {
    pool = omega (arith, place, has.pool);
    room = omega (arith, ap (first_word l) place);
    wide = wide_inside kind l has.room;
    above = λ some a there wide. absurd (wide refl);
    still = subst IsStill (sym plain) tt;
    len = refl;
    birth = refl;
    header = refl;
    wideless = refl;
    address = refl;
    apart = λ a to forward. absurd (none_forward a to forward);
  }

  all_unmoved : (kind : Kind) → HasFirst kind l → AreUnmoved l S S.ends (first_job kind l ∷ [])
  all_unmoved kind has = record {
    each = All-cons (IsUnmoved l S) (first_job kind l) [] (first_unmoved kind has) (All-nil (IsUnmoved l S));
    laid = (ap S.ends place ∙ set_else (first_word l) 0 FILLED (first_word l 0 + 9) (λ e. omega (arith, e)), tt);
    after = λ i j d less within. absurd (omega (arith, less, within));
  }

  none_unmoved : AreUnmoved l S S.ends []
  none_unmoved = record { each = All-nil (IsUnmoved l S); laid = tt; after = λ i j d less within. absurd (omega (arith, less, within)) }

  module _ {R W E M : Type 0} (kit : Kit R W E M) where
    stand_planned : (c : Cycle) (has : Bool) → has_job kit.kind l ≡ has → StandsAt kit l c S (Coming (if has then first_job kit.kind l ∷ [] else []))
    stand_planned c true e =
        (all_unmoved kit.kind (has_first kit.kind l e), All-cons (IsPlainAt S) (first_job kit.kind l) [] plain (All-nil (IsPlainAt S)))
    stand_planned c false e = (none_unmoved, All-nil (IsPlainAt S))

    stand_first : (cycles salt : ℕ) (more : Bool) →
        (let k : CollectorMachine M = if more then collector.Announce (record (stage_at_start kit.kind l cycles salt) { cycle = 1; announcement = Mark }) else collector.Done (stage_at_start kit.kind l cycles salt) in StandsAt kit l (cycle_of k) S (stand_of (first_plan kit.kind l) k))
    stand_first cycles salt true = stand_planned (cycle_of {M = M} (collector.Announce (record (stage_at_start kit.kind l cycles salt) { cycle = 1; announcement = Mark }))) (has_job kit.kind l) refl
    stand_first cycles salt false = tt

    pub stand_at_start : (cycles salt : ℕ) → StandsAt kit l (cycle_of (collector_of kit (first_plan kit.kind l) l cycles salt)) S (stand_of (first_plan kit.kind l) (collector_of kit (first_plan kit.kind l) l cycles salt))
    stand_at_start cycles salt = stand_first cycles salt (nat_lt 0 cycles)
