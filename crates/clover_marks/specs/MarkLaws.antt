-- A word is the pass's mark as the table asks it, and a header leads to the copy as its state says.
use Rattle.std.specs.Prelude.{ℕ, ◌<◌, ◌==◌, ◌&&◌, nat_lt, if◌then◌else◌}
use Rattle.std.proofs.Common.{◌≡◌, ◌≢◌, refl, sym, ap, subst, ◌∙◌, arith, Bool, true, false, Option, Some, None}
use Rattle.std.proofs.lemmas.Bool.{eqb-true}
use Rattle.std.proofs.lemmas.Bool.Decides.{nat_tests}
use Rattle.heap_words.specs.declared.limits.TheConstants.{NUMBER_LIMIT}
use Rattle.heap_words.specs.declared.field_word.FieldWord.{FieldWord}
use Rattle.heap_words.specs.declared.field_word.FieldWord.TheVariants.{Num, Link}
use Rattle.heap_words.specs.FieldWords.{IsFieldWord, word_of, field_at}
use Rattle.heap_words.specs.FieldWordLaws.{field_at-word_of}
use Rattle.object_headers.specs.declared.header.Colour.{Colour}
use Rattle.object_headers.specs.declared.header.Header.{Header}
use Rattle.object_headers.specs.declared.header.State.{State as HeaderState}
use Rattle.object_headers.specs.declared.header.State.TheVariants as states
use Rattle.barriers.specs.declared.spot.Spot.{Spot}
use Rattle.barriers.specs.States.{State, Moving, Forward}
use Rattle.barriers.specs.Stances.{mark_in}
use Rattle.barriers.specs.Spaces.{is_mark}
use Rattle.barriers.specs.Kits.{IsHeaderWord, state_by}
use Rattle.tagged_calls.specs.LocationLaws.{header_found}
use Rattle.clover_marks.specs.Accesses.{is_mark_word, field_from, forwarded_by, forwarded, moved_by, moved}
use Rattle.clover_marks.specs.CloverKnowing.{IsMark}

-- ---- the mark

pub num_word : (k : ℕ) → word_of (Num k) ≡ k
unfolding word_of
num_word k = refl

tests_so : (a b c : Bool) → (a && b && c) ≡ true → (a ≡ true) × (b ≡ true) × (c ≡ true)
tests_so true true true e = (refl, refl, refl)
tests_so true true false e = absurd cc
tests_so true false c e = absurd cc
tests_so false b c e = absurd cc

-- a word that is the mark is the number that the mark is
pub mark_so : (mark n : ℕ) → is_mark_word mark n ≡ true → (n ≡ mark) × IsMark mark
mark_so mark n e =
    let tests = tests_so (n == mark) (nat_lt 0 n) (nat_lt n NUMBER_LIMIT) e in
    let same = eqb-true n mark tests.0 in
    let some : 0 < n = grind (arith, nat_tests, tests.1) in
    let fits : n < NUMBER_LIMIT = grind (arith, nat_tests, tests.2) in
    (same, subst IsMark same (number n some fits))
  where
    number : (k : ℕ) → 0 < k → k < NUMBER_LIMIT → IsMark k
    number k some fits =
        let held : field_at k ≡ Num k = ap field_at (sym (num_word k)) ∙ field_at-word_of (Num k) fits in
        record {
          some = λ none. omega (arith, none, some);
          number = held;
          packed = record { same = sym (ap word_of held ∙ num_word k); fits = subst IsFieldWord (sym held) fits };
        }

high_link : (birth at : ℕ) → nat_lt (word_of (Link birth at)) NUMBER_LIMIT ≡ false
unfolding word_of
high_link birth at = grind (arith, nat_tests)

never : (a b c : Bool) → c ≡ false → (a && b && c) ≡ false
never true true c e = e
never true false c e = refl
never false b c e = refl

num_by : (mark k : ℕ) → k < NUMBER_LIMIT → (b : Bool) → (mark == 0) ≡ b → is_mark_word mark k ≡ is_mark (if b then None else Some (Num mark)) (Num k)
num_by mark k fits true zero = grind (arith, nat_tests, zero)
num_by mark k fits false some = grind (arith, nat_tests, some, fits)

link_by : (mark birth at : ℕ) (b : Bool) → false ≡ is_mark (if b then None else Some (Num mark)) (Link birth at)
link_by mark birth at true = refl
link_by mark birth at false = refl

-- a packed word is the mark as what it holds is
pub is_mark_found : (mark : ℕ) (w : FieldWord) → IsFieldWord w → is_mark_word mark (word_of w) ≡ is_mark (mark_in mark) w
is_mark_found mark (Num k) fits = ap (is_mark_word mark) (num_word k) ∙ num_by mark k fits (mark == 0) refl
is_mark_found mark (Link birth at) fits =
    let word = word_of (Link birth at) in
    never (word == mark) (nat_lt 0 word) (nat_lt word NUMBER_LIMIT) (high_link birth at) ∙ link_by mark birth at (mark == 0)

pub mark_some : (mark : ℕ) → mark ≢ 0 → mark_in mark ≡ Some (Num mark)
mark_some mark some = let not : (mark == 0) ≡ false = grind (arith, nat_tests, some) in ap (λ (b : Bool). if b then None else Some (Num mark)) not

-- ---- the header

abbrev pub forwarded_for : Spot → State → Option Spot
forwarded_for s (Forward to) = Some (field_from s to)
forwarded_for s x = None

abbrev pub moved_for : Spot → State → Option Spot
moved_for s (Moving to) = Some (field_from s to)
moved_for s (Forward to) = Some (field_from s to)
moved_for s x = None

forwarded_so : (s : Spot) (state : HeaderState) (target : ℕ) → forwarded_by s state target ≡ forwarded_for s (state_by state target)
forwarded_so s states.Absent target = refl
forwarded_so s states.Plain target = refl
forwarded_so s states.Kept target = refl
forwarded_so s states.Tagged target = refl
forwarded_so s states.Wide target = refl
forwarded_so s states.Moving target = refl
forwarded_so s states.Forward target = refl
forwarded_so s states.Dead target = refl

moved_so : (s : Spot) (state : HeaderState) (target : ℕ) → moved_by s state target ≡ moved_for s (state_by state target)
moved_so s states.Absent target = refl
moved_so s states.Plain target = refl
moved_so s states.Kept target = refl
moved_so s states.Tagged target = refl
moved_so s states.Wide target = refl
moved_so s states.Moving target = refl
moved_so s states.Forward target = refl
moved_so s states.Dead target = refl

module _ (birth : ℕ) (x : State) (colour : Colour) (len n : ℕ) (word : IsHeaderWord None birth x colour len n) (s : Spot) where
  pub forwarded_found : forwarded s n ≡ forwarded_for s x
  forwarded_found =
      subst (λ (h : Header). forwarded_by s h.state h.target ≡ forwarded_for s x) (sym (header_found None birth x colour len n word))
      (let h = word.header in forwarded_so s h.state h.target ∙ ap (forwarded_for s) word.state)

  pub moved_found : moved s n ≡ moved_for s x
  moved_found =
      subst (λ (h : Header). moved_by s h.state h.target ≡ moved_for s x) (sym (header_found None birth x colour len n word))
      (let h = word.header in moved_so s h.state h.target ∙ ap (moved_for s) word.state)
