-- What machines read off words and phase words is what is known of them.
use Rattle.std.proofs.Common.{◌≡◌, ℕ, ◌==◌, Bool, true, false, refl, ap, subst, arith}
use Rattle.std.specs.Prelude.{if◌then◌else◌}
use Rattle.std.proofs.lemmas.Bool.{eqb-true}
use Rattle.std.proofs.lemmas.Bool.Decides.{nat_tests}
use Rattle.heap_words.specs.declared.field_word.FieldWord.{FieldWord}
use Rattle.heap_words.specs.declared.field_word.FieldWord.TheVariants.{Num, Link}
use Rattle.heap_words.specs.FieldWords.{IsFieldWord, word_of, is_same_value}
use Rattle.heap_words.specs.FieldWordLaws.{word_of-injective}
use Rattle.heap_history.specs.FixedHeaps.{is_same}
use Rattle.handshakes.specs.declared.phase_word.Phase.{Phase}
use Rattle.handshakes.specs.declared.phase_word.Phase.TheVariants as phases
use Rattle.handshakes.specs.PhaseWords.{phase_word_at}
use Rattle.barriers.specs.States.{same_word}
use Rattle.barriers.specs.Stances.{Copy, Search, is_last, stance_in, stance_at, phase_of}
use Rattle.barriers.specs.Values.{value_of}

-- ---- phases

copies : (last : Bool) → phase_of (if last then Copy else Search) ≡ phases.Copy
copies true = refl
copies false = refl

phase_of-stance_in : (phase : Phase) (round : ℕ) → phase_of (stance_in phase round) ≡ phase
phase_of-stance_in phases.Free round = refl
phase_of-stance_in phases.Mark round = refl
phase_of-stance_in phases.Confirm round = refl
phase_of-stance_in phases.Copy round = copies (is_last round)
phase_of-stance_in phases.Fix round = refl
phase_of-stance_in phases.Retired round = refl

-- a pass that has acknowledged a word is in the phase of its stance
pub phase_of-stance_at : (word : ℕ) → phase_of (stance_at word) ≡ (let w = phase_word_at word in w.phase)
phase_of-stance_at word = let w = phase_word_at word in phase_of-stance_in w.phase w.round

-- ---- words

eqb-sym : (m n : ℕ) → (m == n) ≡ (n == m)
eqb-sym m n = grind (arith, nat_tests)

-- two words are of one value as their values are one
pub is_same-value_of : (x e : FieldWord) → is_same (value_of x) (value_of e) ≡ is_same_value e x
is_same-value_of (Num m) (Num n) = eqb-sym m n
is_same-value_of (Num m) (Link birth at) = refl
is_same-value_of (Link birth at) (Num n) = refl
is_same-value_of (Link birth at) (Link other there) = eqb-sym birth other

itself : (m : ℕ) → (m == m) ≡ true
itself m = grind (arith, nat_tests)

same_word-itself : (x : FieldWord) → same_word x x ≡ true
same_word-itself (Num m) = itself m
same_word-itself (Link birth at) = rw (itself birth, itself at) refl

same_word-equal : (x y : FieldWord) → same_word x y ≡ true → x ≡ y
same_word-equal (Num m) (Num n) e = ap Num (eqb-true m n e)
same_word-equal (Num m) (Link birth at) e = absurd cc
same_word-equal (Link birth at) (Num n) e = absurd cc
same_word-equal (Link birth at) (Link other there) e =
    let births : birth ≡ other = grind (arith, nat_tests) in
    let places : at ≡ there = grind (arith, nat_tests) in
    cc

packed_so : (x y : FieldWord) (b c : Bool) → IsFieldWord x → IsFieldWord y → same_word x y ≡ b → (word_of x == word_of y) ≡ c → b ≡ c
packed_so x y true true fx fy e f = refl
packed_so x y false false fx fy e f = refl
packed_so x y true false fx fy e f =
    let one : (word_of x == word_of y) ≡ true = subst (λ (z : FieldWord). (word_of x == word_of z) ≡ true) (same_word-equal x y e) (itself (word_of x)) in
    absurd cc
packed_so x y false true fx fy e f =
    let one = word_of-injective x y fx fy (eqb-true (word_of x) (word_of y) f) in
    let same : same_word x y ≡ true = subst (λ (z : FieldWord). same_word x z ≡ true) one (same_word-itself x) in
    absurd cc

-- two words are one as they pack into one
pub same_word-word_of : (x y : FieldWord) → IsFieldWord x → IsFieldWord y → same_word x y ≡ (word_of x == word_of y)
same_word-word_of x y fx fy = packed_so x y (same_word x y) (word_of x == word_of y) fx fy refl refl
