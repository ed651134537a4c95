-- The stance of a pass that has not retired.
use Rattle.std.specs.Prelude.{◌≢◌, IsSome, IfSome}
use Rattle.std.proofs.Common.{◌≡◌, ℕ, Bool, true, false, if◌then◌else◌, Option, Some, None, refl, sym, ◌∙◌, subst}
use Rattle.handshakes.specs.declared.phase_word.Phase.{Phase}
use Rattle.handshakes.specs.declared.phase_word.Phase.TheVariants as phases
use Rattle.handshakes.specs.declared.phase_word.PhaseWord.{PhaseWord}
use Rattle.handshakes.specs.PhaseWords.{IsPhaseWord, FitsPhase, word_of_phase, phase_word_of, phase_word_at, retired_word}
use Rattle.handshakes.specs.PhaseWordLaws.{word_of_phase-phase_word_of, phase_word_of-fits}
use Rattle.barriers.specs.Stances.{Search, Copy, Retired, is_last, stance_in, stance_at}

last_runs : (last : Bool) → (if last then Copy else Search) ≡ Retired → ⊥
last_runs true is = cc
last_runs false is = cc

stance_retired : (phase : Phase) (round : ℕ) → stance_in phase round ≡ Retired → phase ≡ phases.Retired
stance_retired phases.Retired round is = refl
stance_retired phases.Copy round is = absurd (last_runs (is_last round) is)
stance_retired phases.Mark round is = absurd cc
stance_retired phases.Confirm round is = absurd cc
stance_retired phases.Fix round is = absurd cc
stance_retired phases.Free round is = absurd cc

-- Retired has one word
one_word : (w : PhaseWord) → IsPhaseWord w → w.phase ≡ phases.Retired → word_of_phase w ≡ retired_word
unfolding word_of_phase
one_word w fits is =
    let none : FitsPhase phases.Retired w = subst (λ (phase : Phase). FitsPhase phase w) is fits.phase in
    rw (is, none.0, none.1) refl

running_by : (word : ℕ) (found : Option PhaseWord) → phase_word_of word ≡ found → IsSome found → word ≢ retired_word → stance_at word ≢ Retired
unfolding phase_word_at
running_by word None is some runs retired = absurd cc
running_by word (Some w) is some runs retired =
    let fits : IsPhaseWord w = subst (λ (o : Option PhaseWord). IfSome o IsPhaseWord) is (phase_word_of-fits word) in
    let same : word_of_phase w ≡ word = subst (λ (o : Option PhaseWord). IfSome o (λ p. word_of_phase p ≡ word)) is (word_of_phase-phase_word_of word) in
    let stance : stance_in w.phase w.round ≡ Retired = rw is at retired in
    runs (sym same ∙ one_word w fits (stance_retired w.phase w.round stance))

-- a pass that has acknowledged a phase other than Retired runs
pub running : (word : ℕ) → IsSome (phase_word_of word) → word ≢ retired_word → stance_at word ≢ Retired
running word some runs = running_by word (phase_word_of word) refl some runs
