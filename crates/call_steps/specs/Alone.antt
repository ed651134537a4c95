-- A machine that takes its steps alone on some words.
use Rattle.std.specs.Prelude.{◌≡◌, ◌≢◌, ℕ, List}
use Rattle.call_steps.specs.declared.step.Step.{Step}
use Rattle.call_steps.specs.declared.step.Step.TheVariants.{Ended}
use Rattle.call_steps.specs.Steps.{found_by, applied}
use Rattle.call_steps.specs.Turns.{Chain}

-- one step of the machine: it and the words before, and it and the words after
pub record StepsOnce {M : Type 0} (asks : M → Step) (fed : M → ℕ → M) (before after : M × List ℕ) : Type 0 where
  pub on : asks before.0 ≢ Ended
  pub machine : after.0 ≡ fed before.0 (found_by (asks before.0) before.1)
  pub words : after.1 ≡ applied (asks before.0) before.1

-- some of its steps, one after another
abbrev pub RunsAlone : {M : Type 0} → (M → Step) → (M → ℕ → M) → M × List ℕ → M × List ℕ → Type 0
RunsAlone asks fed = Chain (StepsOnce asks fed)
