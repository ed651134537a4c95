-- Wherever the machine is led there is one word, and it asks for that one.
use Rattle.std.proofs.Common.{◌≡◌, ◌<◌, length, ap, ◌∙◌, arith}
use Rattle.call_steps.specs.declared.step.Step.{Step}
use Rattle.call_steps.specs.declared.step.Step.TheVariants.{Add, Ended}
use Rattle.call_steps.specs.declared.tests.Counting.TheVariants.{Twice, Once, Done}
use Rattle.call_steps.specs.Steps.{IsInside}
use Rattle.call_steps.specs.AloneLaws.{length-RunsAlone}
use Rattle.call_steps.proofs.tests.one_machine_ends.Goals as goal

pub run_alone-requires : goal.run_alone-requires
run_alone-requires g c m ws steps =
    let one : length ws ≡ 1 = length-RunsAlone _ _ _ (m, ws) steps ∙ ap length c.in_ok-words.ensures in
    let inside : 0 < length ws = omega (arith, one) in
    elim m as (λ k. IsInside (length ws) (elim k as (λ _. Step) [ Twice ↦ Add 0 1 | Once ↦ Add 0 1 | Done ↦ Ended ])) [ Twice ↦ inside | Once ↦ inside | Done ↦ tt ]
