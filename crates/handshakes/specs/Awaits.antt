-- The look of the collector at one acknowledgement.
use Rattle.std.specs.Prelude.{◌≡◌, ◌≢◌, ℕ, ◌<◌, ◌==◌, if◌then◌else◌, Option, Some, None, refl}
use Rattle.std.proofs.Common.{lit<, arith}
use Rattle.call_steps.specs.declared.step.Step.{Step}
use Rattle.call_steps.specs.declared.step.Step.TheVariants.{Load, Store, Ended}
use Rattle.handshakes.specs.declared.answer.AwaitEnd.{AwaitEnd}
use Rattle.handshakes.specs.declared.answer.AwaitEnd.TheVariants.{Answered, NotYet}
use Rattle.handshakes.specs.declared.answer.AwaitEnd.TheVariants as answer
use Rattle.handshakes.specs.declared.answer.AwaitMachine.{AwaitMachine}
use Rattle.handshakes.specs.declared.answer.AwaitMachine.TheVariants as await
use Rattle.handshakes.specs.PhaseWords.{retired_word}

abbrev pub asks_of : AwaitMachine → Step
asks_of (await.Acknowledgement at pass announced) = Load at
asks_of (await.Ended e) = Ended

-- what the word of a pass says: the announced word is its answer, and Retired's that it has ended
abbrev pub answer_of : ℕ → ℕ → ℕ → AwaitEnd
answer_of pass announced found =
    if found == announced then Answered
    else (if found == retired_word then answer.Retired
    else NotYet pass found)

abbrev pub fed_of : AwaitMachine → ℕ → AwaitMachine
fed_of (await.Acknowledgement at pass announced) found = await.Ended (answer_of pass announced found)
fed_of (await.Ended e) found = await.Ended e

abbrev pub left_of : AwaitMachine → ℕ
left_of (await.Acknowledgement at pass announced) = 1
left_of (await.Ended e) = 0

-- how it ended, if it has
abbrev pub end_of : AwaitMachine → Option AwaitEnd
end_of (await.Acknowledgement at pass announced) = None
end_of (await.Ended e) = Some e

pub blind_of : (m : AwaitMachine) (at put n : ℕ) → asks_of m ≡ Store at put → fed_of m n ≡ fed_of m 0
blind_of (await.Acknowledgement place pass announced) at put n is = absurd cc
blind_of (await.Ended e) at put n is = refl

pub none_left_of : (m : AwaitMachine) → asks_of m ≡ Ended → left_of m ≡ 0
none_left_of (await.Acknowledgement at pass announced) is = absurd cc
none_left_of (await.Ended e) is = refl

pub some_left_of : (m : AwaitMachine) → left_of m ≡ 0 → asks_of m ≡ Ended
some_left_of (await.Acknowledgement at pass announced) is = absurd (omega arith)
some_left_of (await.Ended e) is = refl

pub falls_of : (m : AwaitMachine) (n : ℕ) → asks_of m ≢ Ended → left_of (fed_of m n) < left_of m
falls_of (await.Acknowledgement at pass announced) n on = lit< tt
falls_of (await.Ended e) n on = absurd (on refl)
