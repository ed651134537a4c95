-- What a machine alone leaves as it is.
use Rattle.std.specs.Prelude.{◌≡◌, ℕ, List, length}
use Rattle.std.proofs.Common.{refl, ap, ◌∙◌}
use Rattle.call_steps.specs.declared.step.Step.{Step}
use Rattle.call_steps.specs.StepLaws.{length-applied}
use Rattle.call_steps.specs.Alone.{RunsAlone}
use Rattle.call_steps.specs.Chains.{along}

-- the number of words stays
pub length-RunsAlone : {M : Type 0} (asks : M → Step) (fed : M → ℕ → M) (before after : M × List ℕ) → RunsAlone asks fed before after → length after.1 ≡ length before.1
length-RunsAlone {M} asks fed before after steps =
    along (λ (s : M × List ℕ). length s.1 ≡ length before.1) (λ a b so_far step. ap length step.words ∙ length-applied (asks a.0) a.1 ∙ so_far) refl steps
