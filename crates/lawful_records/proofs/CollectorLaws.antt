-- What a collector's announcements are as phase words.
use Rattle.std.proofs.Common.{◌≢◌, ℕ, ◌+◌, ◌*◌, ◌^◌, ◌<◌, arith}
use Rattle.handshakes.specs.Phases.{code_of}
use Rattle.handshakes.specs.PhaseWords.{IsPhaseWord, FitsPhase, word_of_phase, retired_word}
use Rattle.lawful_records.specs.declared.stage.Announcement.{Announcement}
use Rattle.lawful_records.specs.declared.stage.Announcement.TheVariants.{Mark, Confirm, Search, Copy, Fix, Free}
use Rattle.lawful_records.specs.Collectors.{said_in, phase_of}

-- ---- over plain numbers: an announcement of a cycle

number_of : Announcement → ℕ → ℕ → ℕ
number_of a cycle round = code_of (phase_of a) + 2 ^ 3 * cycle + 2 ^ 35 * round

number_runs : (a : Announcement) (cycle round : ℕ) → number_of a cycle round ≢ retired_word
unfolding number_of
number_runs Mark cycle round = λ same. omega arith
number_runs Confirm cycle round = λ same. omega arith
number_runs Search cycle round = λ same. omega arith
number_runs Copy cycle round = λ same. omega arith
number_runs Fix cycle round = λ same. omega arith
number_runs Free cycle round = λ same. omega arith

fits_phase : (a : Announcement) (cycle round : ℕ) → FitsPhase (phase_of a) (said_in a cycle round)
fits_phase Mark cycle round = tt
fits_phase Confirm cycle round = tt
fits_phase Search cycle round = tt
fits_phase Copy cycle round = tt
fits_phase Fix cycle round = tt
fits_phase Free cycle round = tt

-- ---- its phase word

-- no announcement says that a pass has ended
pub runs : (a : Announcement) (cycle round : ℕ) → word_of_phase (said_in a cycle round) ≢ retired_word
unfolding word_of_phase number_of
runs a cycle round = number_runs a cycle round

-- each has a word
pub fits : (a : Announcement) (cycle round : ℕ) → cycle < 2 ^ 32 → round < 2 ^ 24 → IsPhaseWord (said_in a cycle round)
fits a cycle round small few = record { cycle = small; round = few; phase = fits_phase a cycle round }
