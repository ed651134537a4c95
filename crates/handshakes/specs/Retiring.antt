-- What a retirement of a pass knows and has stored in each of its states.
use Rattle.std.specs.Prelude.{◌≡◌, ℕ, ◌<◌, List, Option, Some}
use Rattle.call_steps.specs.declared.step.Step.{Step}
use Rattle.call_steps.specs.declared.step.Step.TheVariants.{Store, Ended}
use Rattle.heap_words.specs.declared.field_word.FieldWord.{FieldWord}
use Rattle.heap_words.specs.FieldWords.{word_of}
use Rattle.heap_words.specs.Layouts.{Sizes, ack_at, root_at}
use Rattle.handshakes.specs.declared.retire.RetireMachine.{RetireMachine}
use Rattle.handshakes.specs.declared.retire.RetireMachine.TheVariants as retire
use Rattle.heap_words.specs.declared.limits.TheConstants.{REGISTERS}
use Rattle.handshakes.specs.PhaseWords.{retired_word}
use Rattle.handshakes.specs.Retires.{region_word_at, retire_of, filled_word, register_before}
use Rattle.handshakes.specs.Polling.{held_in}

-- What a retirement is about: its pass, what that holds in its registers, and the region in which it makes objects.
pub record Leaving : Type 0 where
  pub pass : ℕ
  pub registers : List FieldWord
  pub region : Option ℕ

-- It stores what the pass holds: a register, after which others may come; then the word of the region, if there is one.
abbrev pub IsRetiring : Sizes → Leaving → RetireMachine → Type 0
IsRetiring l x (retire.Root r later) = (r ≡ retire_of l x.pass x.registers x.region) × (later < REGISTERS)
IsRetiring l x (retire.Region r at) = (r ≡ retire_of l x.pass x.registers x.region) × (region_word_at l x.region ≡ Some at)
IsRetiring l x (retire.Acknowledge r) = r ≡ retire_of l x.pass x.registers x.region
IsRetiring l x retire.Ended = Unit {0}

-- how many registers it has stored, `a` first
abbrev pub stored_by : RetireMachine → ℕ
stored_by (retire.Root r later) = register_before later
stored_by _ = REGISTERS

-- this many root words of a pass hold its registers' words
abbrev pub AreStored : Sizes → (ℕ → ℕ) → ℕ → List FieldWord → ℕ → Type 0
AreStored l m pass registers count = (i : ℕ) → i < count → m (root_at l pass i) ≡ word_of (held_in registers i)

-- the words that it touches: its own root words, the word of its own region, and its own acknowledgement
abbrev pub retire_step : Sizes → Leaving → RetireMachine → Step
retire_step l x (retire.Root r later) = Store (root_at l x.pass (register_before later)) (word_of (held_in x.registers (register_before later)))
retire_step l x (retire.Region r at) = Store at filled_word
retire_step l x (retire.Acknowledge r) = Store (ack_at x.pass) retired_word
retire_step l x retire.Ended = Ended
