-- What an await of a pass knows.
use Rattle.std.specs.Prelude.{◌≡◌, ℕ}
use Rattle.heap_words.specs.Layouts.{ack_at}
use Rattle.handshakes.specs.declared.answer.AwaitEnd.{AwaitEnd}
use Rattle.handshakes.specs.declared.answer.AwaitEnd.TheVariants.{Answered, Retired, NotYet}
use Rattle.handshakes.specs.declared.answer.AwaitMachine.{AwaitMachine}
use Rattle.handshakes.specs.declared.answer.AwaitMachine.TheVariants as await
use Rattle.handshakes.specs.PhaseWords.{retired_word}
use Rattle.handshakes.specs.Handshakes.{Announced, HasAnswered}

-- what an end tells of the acknowledgement that was found: the pass has answered, or it is another word
abbrev pub Tells : Announced → ℕ → AwaitEnd → Type 0
Tells a found Answered = found ≡ a.word
Tells a found Retired = found ≡ retired_word
Tells a found (NotYet pass word) = (word ≡ found) × (HasAnswered a found → ⊥)

-- it looks at the acknowledgement of the pass, for the announced word
abbrev pub IsAwaiting : Announced → ℕ → AwaitMachine → Type 0
IsAwaiting a pass m = m ≡ await.Acknowledgement (ack_at pass) pass a.word
