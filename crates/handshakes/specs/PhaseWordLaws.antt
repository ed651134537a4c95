-- What packs unpacks, and no two phases share a word.
use Rattle.std.proofs.Common.{◌≡◌, ◌≢◌, ℕ, ◌^◌, ◌<◌, ◌⊎◌, inl, inr, Bool, true, false, cond, ◌==◌, ◌&&◌, nat_lt, Some, None, IsNone, IfSome, ◌↔◌, refl, ap, subst, sym, ◌∙◌, arith}
use Rattle.std.proofs.lemmas.Bool.Decides.{nat_tests}
use Rattle.handshakes.specs.declared.phase_word.Phase.{Phase}
use Rattle.handshakes.specs.declared.phase_word.Phase.TheVariants.{Free, Mark, Confirm, Copy, Fix, Retired}
use Rattle.handshakes.specs.declared.phase_word.PhaseWord.{PhaseWord}
use Rattle.handshakes.specs.Phases.{code_of, phase_of}
use Rattle.handshakes.specs.PhaseWords.{IsPhaseWord, FitsPhase, word_of_phase, phase_word_of, phase_word_at, names_phase, HoldsNoPhase, phase_bits, cycle_bits, round_bits, bits_above}

code_of-bound : (p : Phase) → code_of p < 6
code_of-bound Free = omega arith
code_of-bound Mark = omega arith
code_of-bound Confirm = omega arith
code_of-bound Copy = omega arith
code_of-bound Fix = omega arith
code_of-bound Retired = omega arith

phase_of-code_of : (p : Phase) → phase_of (code_of p) ≡ p
unfolding phase_of
phase_of-code_of Free = refl
phase_of-code_of Mark = refl
phase_of-code_of Confirm = refl
phase_of-code_of Copy = refl
phase_of-code_of Fix = refl
phase_of-code_of Retired = refl

code_of-phase_of : (n : ℕ) → n < 6 → code_of (phase_of n) ≡ n
unfolding phase_of
code_of-phase_of n h = grind (arith, nat_tests)

-- the parts of a packed word
module _ (p : PhaseWord) (f : IsPhaseWord p) where
  phase_is : phase_bits (word_of_phase p) ≡ code_of p.phase
  unfolding word_of_phase
  phase_is = omega (arith, code_of-bound p.phase)

  cycle_is : cycle_bits (word_of_phase p) ≡ p.cycle
  unfolding word_of_phase
  cycle_is = omega (arith, code_of-bound p.phase, f.cycle)

  round_is : round_bits (word_of_phase p) ≡ p.round
  unfolding word_of_phase
  round_is = omega (arith, code_of-bound p.phase, f.cycle, f.round)

  -- a packed word has the bits from 59 on clear
  pub word_of_phase-below : word_of_phase p < 2 ^ 59
  unfolding word_of_phase
  word_of_phase-below = omega (arith, code_of-bound p.phase, f.cycle, f.round)

  above_is : bits_above (word_of_phase p) ≡ 0
  above_is = omega (arith, word_of_phase-below)

-- over plain numbers: the test of a word whose bits these are
names : (word phase above : ℕ) → Bool
names word phase above = cond (phase == 5) (word == 5) (nat_lt phase 5 && above == 0)

names-true : (w p a : ℕ) → (p ≡ 5 → w ≡ 5) → p < 6 → a ≡ 0 → names w p a ≡ true
unfolding names
names-true w p a retired phase above = grind (arith, nat_tests)

names-tells : (w p a : ℕ) → (w ≡ 5 → a ≡ 0) → names w p a ≡ true → (p ≡ 5 → w ≡ 5) × (p < 6) × (a ≡ 0)
unfolding names
names-tells w p a clear h = ((λ e. grind (arith, nat_tests)), grind (arith, nat_tests), grind (arith, nat_tests))

names-false : (w p a : ℕ) → names w p a ≡ false → (5 < p) ⊎ ((a ≢ 0) ⊎ ((p ≡ 5) × (w ≢ 5)))
unfolding names
names-false w p a h = grind (arith, nat_tests)

not_both : (w p a : ℕ) → (p ≡ 5 → w ≡ 5) → p < 6 → a ≡ 0 → (5 < p) ⊎ ((a ≢ 0) ⊎ ((p ≡ 5) × (w ≢ 5))) → ⊥
not_both w p a retired phase above n = grind arith

word_of_retired : (p : PhaseWord) → p.phase ≡ Retired → IsPhaseWord p → word_of_phase p ≡ 5
unfolding word_of_phase
word_of_retired p e f =
    let parts : FitsPhase Retired p = subst (λ q. FitsPhase q p) e f.phase in
    let code : code_of p.phase ≡ 5 = ap code_of e in
    omega arith

retired_code : (p : Phase) → code_of p ≡ 5 → p ≡ Retired
retired_code Free e = cc
retired_code Mark e = cc
retired_code Confirm e = cc
retired_code Copy e = cc
retired_code Fix e = cc
retired_code Retired e = refl

names-packed : (p : PhaseWord) → IsPhaseWord p → names_phase (word_of_phase p) ≡ true
unfolding names_phase names
names-packed p f =
    names-true (word_of_phase p) (phase_bits (word_of_phase p)) (bits_above (word_of_phase p))
    (λ e. word_of_retired p (retired_code p.phase (sym (phase_is p f) ∙ e)) f)
    (let P : ℕ → Type 0 = λ n. n < 6 in subst P (sym (phase_is p f)) (code_of-bound p.phase))
    (above_is p f)

-- what packs unpacks
pub phase_word_of-word_of_phase : (p : PhaseWord) → IsPhaseWord p → phase_word_of (word_of_phase p) ≡ Some p
unfolding phase_word_of
phase_word_of-word_of_phase p f =
    rw (names-packed p f, phase_is p f, cycle_is p f, round_is p f, phase_of-code_of p.phase) refl

pub phase_word_at-word_of_phase : (p : PhaseWord) → IsPhaseWord p → phase_word_at (word_of_phase p) ≡ p
unfolding phase_word_at
phase_word_at-word_of_phase p f = rw (phase_word_of-word_of_phase p f) refl

-- what the bits of a phase's word are
pub record HoldsPhase (word : ℕ) : Type 0 where
  pub phase : phase_bits word < 6
  pub above : bits_above word ≡ 0
  pub retired : phase_bits word ≡ 5 → word ≡ 5

pub holds_phase : (word : ℕ) → names_phase word ≡ true → HoldsPhase word
unfolding names_phase names
holds_phase word h =
    let parts = names-tells word (phase_bits word) (bits_above word) (λ e. rw e refl) h in
    record { phase = parts.1; above = parts.2; retired = parts.0 }

pub holds_no_phase : (word : ℕ) → names_phase word ≡ false → HoldsNoPhase word
unfolding names_phase names
holds_no_phase word h = names-false word (phase_bits word) (bits_above word) h

-- the phase that a word's bits spell
unfoldable pub read : ℕ → PhaseWord
read word = record { phase = phase_of (phase_bits word); cycle = cycle_bits word; round = round_bits word }

fits_phase : (p : Phase) (word : ℕ) → code_of p ≡ phase_bits word → HoldsPhase word → FitsPhase p (read word)
unfolding read
fits_phase Free word e h = tt
fits_phase Mark word e h = tt
fits_phase Confirm word e h = tt
fits_phase Copy word e h = tt
fits_phase Fix word e h = tt
fits_phase Retired word e h = subst (λ w. FitsPhase Retired (read w)) (sym (h.retired (sym e))) (refl, refl)

read-fits : (word : ℕ) → HoldsPhase word → IsPhaseWord (read word)
unfolding read
read-fits word h = record {
  cycle = omega arith;
  round = omega arith;
  phase = fits_phase (phase_of (phase_bits word)) word (code_of-phase_of (phase_bits word) h.phase) h;
}

read-packs : (word : ℕ) → HoldsPhase word → word_of_phase (read word) ≡ word
unfolding read word_of_phase
read-packs word h =
    let phase : code_of (phase_of (phase_bits word)) ≡ phase_bits word = code_of-phase_of (phase_bits word) h.phase in
    omega (arith, h.above)

-- the word of a phase holds what its bits spell
pub phase_word_of-true : (word : ℕ) → names_phase word ≡ true → phase_word_of word ≡ Some (read word)
unfolding phase_word_of read
phase_word_of-true word h = rw h refl

-- a word that is not holds none
pub phase_word_of-false : (word : ℕ) → names_phase word ≡ false → phase_word_of word ≡ None
unfolding phase_word_of
phase_word_of-false word h = rw h refl

known : (b : Bool) → (b ≡ true) ⊎ (b ≡ false)
known true = inl refl
known false = inr refl

-- a word names no phase exactly where its bits say so
pub phase_word_of-none : (word : ℕ) → IsNone (phase_word_of word) ↔ HoldsNoPhase word
phase_word_of-none word = elim (known (names_phase word)) [
  | inl there ↦
      let h = holds_phase word there in
      rw (phase_word_of-true word there)
      ((λ e. cc), λ n. absurd (not_both word (phase_bits word) (bits_above word) h.retired h.phase h.above n))
  | inr none ↦ rw (phase_word_of-false word none) ((λ _. holds_no_phase word none), λ _. refl)
]

-- what unpacks fits
pub phase_word_of-fits : (word : ℕ) → IfSome (phase_word_of word) IsPhaseWord
phase_word_of-fits word = elim (known (names_phase word)) [
  | inl there ↦ rw (phase_word_of-true word there) (read-fits word (holds_phase word there))
  | inr none ↦ rw (phase_word_of-false word none) tt
]

-- and a word is the packed word of what it holds
pub word_of_phase-phase_word_of : (word : ℕ) → IfSome (phase_word_of word) (λ p. word_of_phase p ≡ word)
word_of_phase-phase_word_of word = elim (known (names_phase word)) [
  | inl there ↦ rw (phase_word_of-true word there) (read-packs word (holds_phase word there))
  | inr none ↦ rw (phase_word_of-false word none) tt
]
