-- Plans whose work takes few steps.
use Rattle.std.proofs.Common.{◌≡◌, ◌≢◌, ℕ, ◌+◌, ◌*◌, ◌≤◌, Bool, true, false, [], ◌∷◌, length, arith}
use Rattle.std.specs.Prelude.{if◌then◌else◌}
use Rattle.std.specs.List.{All}
use Rattle.std.proofs.Math.Nat.{mul-le-mul_right}
use Rattle.std.proofs.lemmas.List.Elements.{All-nil, All-cons}
use Rattle.heap_words.specs.Layouts.{Sizes, IsLayout, first_word}
use Rattle.object_headers.specs.declared.change.Kind.{Kind}
use Rattle.object_headers.specs.declared.change.Kind.TheVariants as kinds
use Rattle.space_reclaim.specs.Plans.{Planned}
use Rattle.lawful_records.specs.declared.job.TheConstants.{EMPTIED, FILLED}
use Rattle.lawful_records.specs.Jobs.{wide_for, has_job, first_job, first_plan}
use Rattle.lawful_records.proofs.collecting.FirstJobs.{is_job}
use Rattle.gc_cycle.proofs.solo.CycleSteps.{work_steps}
use Rattle.gc_cycle.proofs.solo.PlaysAlone.{most_move_steps, HasPlace}

-- the job of the first cycle is one whose copy has a place of its own
apart_from_wide : (kind : Kind) (l : Sizes) → IsLayout l → first_word l FILLED ≢ wide_for kind l
apart_from_wide kinds.Stopless l fits same = let own : 1 * l.quota ≤ l.passes * l.quota = mul-le-mul_right l.quota fits.passes.0 in omega (arith, same, own, fits.quota.0, fits.pool.0)
apart_from_wide kinds.Chicken l fits same = omega (arith, same)
apart_from_wide kinds.AtRest l fits same = omega (arith, same)
apart_from_wide kinds.Clover l fits same = omega (arith, same)

first_has_place : (kind : Kind) (l : Sizes) → IsLayout l → HasPlace (first_job kind l)
first_has_place kind l fits = record { job = is_job l fits kind; from = λ same. omega (arith, same); wide = apart_from_wide kind l fits }

-- a plan whose work takes so many steps at most before an announcement
pub record IsSmall (plan : Planned) : Type 0 where
  pub steps : length plan.chosen + (length plan.jobs + length plan.jobs * (1 + most_move_steps)) ≤ work_steps
  pub places : All HasPlace plan.jobs

pub first_small : (kind : Kind) (l : Sizes) → IsLayout l → IsSmall (first_plan kind l)
first_small kind l fits = record { steps = steps_by (has_job kind l); places = places_by (has_job kind l) }
  where
    steps_by : (has : Bool) → length (if has then EMPTIED ∷ [] else []) + (length (if has then first_job kind l ∷ [] else []) + length (if has then first_job kind l ∷ [] else []) * (1 + most_move_steps)) ≤ work_steps
    steps_by true = omega arith
    steps_by false = omega arith

    places_by : (has : Bool) → All HasPlace (if has then first_job kind l ∷ [] else [])
    places_by true = All-cons HasPlace (first_job kind l) [] (first_has_place kind l fits) (All-nil HasPlace)
    places_by false = All-nil HasPlace
