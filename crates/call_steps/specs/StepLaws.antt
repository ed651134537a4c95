-- Laws of single steps, for crates that reason over memory as a function from addresses to words.
use Rattle.std.specs.Prelude.{◌≡◌, ◌≢◌, ℕ, ◌<◌, ◌^◌, ◌==◌, true, false, List, length, slice_index, slice_set}
use prog.Atomic.{either}
use Rattle.std.proofs.Common.{refl, arith, lit<, get_or-set_same, get_or-set_other, length-set}
use Rattle.std.proofs.Math.Decide.{dec_lt}
use Rattle.std.proofs.lemmas.List.{get_or_past}
use Rattle.std.proofs.lemmas.List.Elements.{All-set}
use Rattle.call_steps.specs.declared.step.Step.{Step}
use Rattle.call_steps.specs.declared.step.Step.TheVariants.{Load, Store, Exchange, Add, Sub, Ended}
use Rattle.call_steps.specs.Steps.{place_of, put_by, found_by, applied, IsInside, AreWords, PutsWord}

-- the word at an address, and 0 past the end
abbrev pub reading : List ℕ → ℕ → ℕ
reading words at = slice_index words at

-- n is m with one word put
pub record Put (m n : ℕ → ℕ) (at put : ℕ) : Type 0 where
  pub here : n at ≡ put
  pub elsewhere : (a : ℕ) → a ≢ at → n a ≡ m a

-- a step finds the word at its address
pub found_by-step : (step : Step) (words : List ℕ) → step ≢ Ended → found_by step words ≡ reading words (place_of step)
found_by-step Ended words on = absurd (on refl)
found_by-step (Load at) words on = refl
found_by-step (Store at put) words on = refl
found_by-step (Exchange at want put) words on = refl
found_by-step (Add at by) words on = refl
found_by-step (Sub at by) words on = refl

-- no step makes or takes away a word
pub length-applied : (step : Step) (words : List ℕ) → length (applied step words) ≡ length words
length-applied Ended words = refl
length-applied (Load at) words = length-set words at _
length-applied (Store at put) words = length-set words at _
length-applied (Exchange at want put) words = length-set words at _
length-applied (Add at by) words = length-set words at _
length-applied (Sub at by) words = length-set words at _

-- a write of one word
pub Put-set : (words : List ℕ) (at put : ℕ) → at < length words → Put (reading words) (reading (slice_set words at put)) at put
Put-set words at put inside = record {
  here = get_or-set_same words at put 0 inside;
  elsewhere = λ a other. get_or-set_other words at a put 0 other;
}

-- the words after a step are the words before it, with what it puts at its address
pub applied-puts : (step : Step) (words : List ℕ) → step ≢ Ended → IsInside (length words) step → Put (reading words) (reading (applied step words)) (place_of step) (put_by step (reading words (place_of step)))
applied-puts Ended words on inside = absurd (on refl)
applied-puts (Load at) words on inside = Put-set words at _ inside
applied-puts (Store at put) words on inside = Put-set words at _ inside
applied-puts (Exchange at want put) words on inside = Put-set words at _ inside
applied-puts (Add at by) words on inside = Put-set words at _ inside
applied-puts (Sub at by) words on inside = Put-set words at _ inside

-- the word at an address, also at one past the end
pub AreWords-reading : (words : List ℕ) (at : ℕ) → AreWords words → reading words at < 2 ^ 64
AreWords-reading words at fit = elim (dec_lt at (length words)) [ yes inside ↦ fit at 0 inside | no outside ↦ rw (get_or_past words at 0 (omega arith)) (lit< tt) ]

-- a write of one word
pub AreWords-set : (words : List ℕ) (at word : ℕ) → word < 2 ^ 64 → AreWords words → AreWords (slice_set words at word)
AreWords-set words at word fits fit = All-set (λ w. w < 2 ^ 64) words at word fits fit

-- what a step puts is below 2^64
pub put_by-fits : (step : Step) (word : ℕ) → word < 2 ^ 64 → PutsWord step → put_by step word < 2 ^ 64
put_by-fits Ended word fits puts = fits
put_by-fits (Load at) word fits puts = fits
put_by-fits (Store at put) word fits puts = puts
put_by-fits (Exchange at want put) word fits puts = elim (word == want) as (λ same. either same put word < 2 ^ 64) [ true ↦ puts | false ↦ fits ]
put_by-fits (Add at by) word fits puts = omega arith
put_by-fits (Sub at by) word fits puts = omega arith
