-- Phase words: a phase, the number of its cycle and a round in one word.
use Rattle.std.specs.Prelude.{◌≡◌, ◌≢◌, ℕ, ◌+◌, ◌*◌, ◌/◌, ◌%◌, ◌^◌, ◌<◌, ◌⊎◌, ⊤, Bool, ◌&&◌, ◌==◌, nat_lt, Option, Some, None, unwrap_or, if◌then◌else◌}
use Rattle.handshakes.specs.declared.phase_word.Phase.{Phase}
use Rattle.handshakes.specs.declared.phase_word.Phase.TheVariants.{Free, Mark, Confirm, Copy, Fix, Retired}
use Rattle.handshakes.specs.declared.phase_word.PhaseWord.{PhaseWord}
use Rattle.handshakes.specs.declared.phase_word.TheConstants.{RETIRED}
use Rattle.handshakes.specs.Phases.{code_of, phase_of}

-- Retired stands with cycle and round 0
abbrev pub FitsPhase : Phase → PhaseWord → Type 0
FitsPhase Free p = ⊤
FitsPhase Mark p = ⊤
FitsPhase Confirm p = ⊤
FitsPhase Copy p = ⊤
FitsPhase Fix p = ⊤
FitsPhase Retired p = (p.cycle ≡ 0) × (p.round ≡ 0)

-- the phases that have a word
pub record IsPhaseWord (p : PhaseWord) : Type 0 where
  pub cycle : p.cycle < 2 ^ 32
  pub round : p.round < 2 ^ 24
  pub phase : FitsPhase p.phase p

-- the phase in bits 0 to 2, the cycle in bits 3 to 34, the round in bits 35 to 58
unfoldable pub word_of_phase : PhaseWord → ℕ
word_of_phase p = code_of p.phase + 2 ^ 3 * p.cycle + 2 ^ 35 * p.round

-- bits 0 to 2
abbrev pub phase_bits : ℕ → ℕ
phase_bits word = word % 2 ^ 3

-- bits 3 to 34
abbrev pub cycle_bits : ℕ → ℕ
cycle_bits word = word / 2 ^ 3 % 2 ^ 32

-- bits 35 to 58
abbrev pub round_bits : ℕ → ℕ
round_bits word = word / 2 ^ 35 % 2 ^ 24

-- the bits from 59 on
abbrev pub bits_above : ℕ → ℕ
bits_above word = word / 2 ^ 59

-- no phase: bits 0 to 2 are above 5, a bit from 59 on is set, or bits 0 to 2 are Retired (5) and another bit is set
abbrev pub HoldsNoPhase : ℕ → Type 0
HoldsNoPhase word = (5 < phase_bits word) ⊎ ((bits_above word ≢ 0) ⊎ ((phase_bits word ≡ 5) × (word ≢ 5)))

-- whether a word is that of a phase
unfoldable pub names_phase : ℕ → Bool
names_phase word =
    if phase_bits word == 5
    then word == 5
    else (nat_lt (phase_bits word) 5 && bits_above word == 0)

-- the phase of a word, if it is that of one
unfoldable pub phase_word_of : ℕ → Option PhaseWord
phase_word_of word =
    if names_phase word
    then Some (record { phase = phase_of (phase_bits word); cycle = cycle_bits word; round = round_bits word })
    else None

-- the same as a value alone, for proofs about words that are known to be those of phases: Free in cycle 0 where a word is that of none
unfoldable pub phase_word_at : ℕ → PhaseWord
phase_word_at word = unwrap_or (phase_word_of word) (record { phase = Free; cycle = 0; round = 0 })

-- the word of Retired
abbrev pub retired_word : ℕ
retired_word = RETIRED
