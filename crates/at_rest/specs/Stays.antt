-- A move that leaves the object where it is.
use Rattle.std.specs.Prelude.{◌≡◌, ℕ, refl, Option, Some, None}
use Rattle.call_steps.specs.declared.step.Step.{Step}
use Rattle.call_steps.specs.declared.step.Step.TheVariants.{Load, Store, Ended}
use Rattle.barriers.specs.declared.ends.MoveEnd.{MoveEnd}
use Rattle.barriers.specs.declared.ends.MoveEnd.TheVariants.{Kept}
use Rattle.at_rest.specs.declared.stay.StayMachine.{StayMachine}
use Rattle.at_rest.specs.declared.stay.StayMachine.TheVariants as stay

-- the step that it takes next
abbrev pub asks_of : StayMachine → Step
asks_of (stay.Header job) = Load job.from
asks_of (stay.Ended header) = Ended

-- what it is after it was fed a word
abbrev pub fed_of : StayMachine → ℕ → StayMachine
fed_of (stay.Header job) found = stay.Ended found
fed_of (stay.Ended header) found = stay.Ended header

-- what it ended with
abbrev pub end_of : StayMachine → Option MoveEnd
end_of (stay.Header job) = None
end_of (stay.Ended header) = Some (Kept header)

pub blind_of : (m : StayMachine) (at put n : ℕ) → asks_of m ≡ Store at put → fed_of m n ≡ fed_of m 0
blind_of (stay.Header job) at put n e = absurd cc
blind_of (stay.Ended header) at put n e = refl
