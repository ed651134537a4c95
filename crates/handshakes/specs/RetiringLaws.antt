-- What a retirement knows and has stored after each of its steps, and after those of others.
use Rattle.std.proofs.Common.{◌≡◌, ◌≢◌, ℕ, ◌+◌, ◌-◌, ◌<◌, ◌≤◌, ◌==◌, inl, inr, refl, sym, ap, ◌∙◌, subst, arith, Bool, true, false, List, ◌∷◌, length, map, slice_index, if◌then◌else◌, Option, Some, None, zero, suc, []}
use Rattle.std.proofs.lemmas.Bool.{eqb-true, eq-eqb, cases_eq}
use Rattle.call_steps.specs.StepLaws.{Put}
use Rattle.heap_words.specs.declared.field_word.FieldWord.{FieldWord}
use Rattle.heap_words.specs.FieldWords.{word_of}
use Rattle.heap_words.specs.Layouts.{Sizes, IsPass, root_at, region_at}
use Rattle.handshakes.specs.declared.retire.Retire.{Retire}
use Rattle.handshakes.specs.declared.retire.RetireMachine.{RetireMachine}
use Rattle.handshakes.specs.declared.retire.RetireMachine.TheVariants as retire
use Rattle.heap_words.specs.declared.limits.TheConstants.{REGISTERS}
use Rattle.handshakes.specs.Retires.{region_word_at, retire_of, asks_of, fed_of, stored_all, register_before}
use Rattle.handshakes.specs.Polling.{held_in}
use Rattle.handshakes.specs.Retiring.{Leaving, IsRetiring, stored_by, AreStored, retire_step}

-- the word of a region is that of the pass's
pub region_word_is : (l : Sizes) (region : Option ℕ) (at : ℕ) → region_word_at l region ≡ Some at → (i : ℕ) → region ≡ Some i → at ≡ region_at l i
region_word_is l region at e i is = cc (ap (region_word_at l) is, e)

-- the word of a register
word_at : (registers : List FieldWord) (i : ℕ) → i < length registers → slice_index (map word_of registers) i ≡ word_of (held_in registers i)
word_at [] i small = absurd (omega (arith, small))
word_at (x ∷ xs) zero small = refl
word_at (x ∷ xs) (suc i) small = word_at xs i (omega (arith, small))

-- its step is on one of these words
pub retire_asks : (l : Sizes) (x : Leaving) (m : RetireMachine) → length x.registers ≡ REGISTERS → IsRetiring l x m → asks_of m ≡ retire_step l x m
retire_asks l x (retire.Root r later) eight is =
    let place : root_at l x.pass (REGISTERS - 1) - later ≡ root_at l x.pass (register_before later) = omega (arith, is.1) in
    rw (is.0, place, word_at x.registers (register_before later) (omega (arith, eight))) refl
retire_asks l x (retire.Region r at) eight is = refl
retire_asks l x (retire.Acknowledge r) eight is = rw is refl
retire_asks l x retire.Ended eight is = refl

-- ---- its step

all_stored_next : (l : Sizes) (x : Leaving) (r : Retire) (at : Option ℕ) → r ≡ retire_of l x.pass x.registers x.region → region_word_at l x.region ≡ at → IsRetiring l x (stored_all r at)
all_stored_next l x r None is e = is
all_stored_next l x r (Some at) is e = (is, e)

root_next : (l : Sizes) (x : Leaving) (r : Retire) (later : ℕ) → r ≡ retire_of l x.pass x.registers x.region → later < REGISTERS → (last : Bool) → IsRetiring l x (if last then stored_all r r.region_at else retire.Root r (later - 1))
root_next l x r later is most true = all_stored_next l x r r.region_at is (sym (ap (λ (q : Retire). q.region_at) is))
root_next l x r later is most false = (is, omega arith)

-- each step of a retirement
pub retire_goes_on : (l : Sizes) (x : Leaving) (m : RetireMachine) (found : ℕ) → IsRetiring l x m → IsRetiring l x (fed_of m found)
retire_goes_on l x (retire.Root r later) found is = root_next l x r later is.0 is.1 (later == 0)
retire_goes_on l x (retire.Region r at) found is = is.0
retire_goes_on l x (retire.Acknowledge r) found is = tt
retire_goes_on l x retire.Ended found is = tt

-- ---- what is stored

module _ (l : Sizes) (m n : ℕ → ℕ) (pass : ℕ) (registers : List FieldWord) where
  -- one root word more holds its register's word
  pub stored_more : (i : ℕ) → Put m n (root_at l pass i) (word_of (held_in registers i)) → AreStored l m pass registers i → AreStored l n pass registers (i + 1)
  stored_more i put stored j below = elim (cases_eq j i) [
    | inl e ↦ ap (λ k. n (root_at l pass k)) e ∙ (put.here ∙ ap (λ k. word_of (held_in registers k)) (sym e))
    | inr e ↦ put.elsewhere (root_at l pass j) (λ same. e (omega (arith, same))) ∙ stored j (omega (arith, below, e))
  ]

  -- a step on other words
  pub stored_stays : (count : ℕ) → count ≤ REGISTERS → ((i : ℕ) → i < REGISTERS → n (root_at l pass i) ≡ m (root_at l pass i)) → AreStored l m pass registers count → AreStored l n pass registers count
  stored_stays count few same stored i below = same i (omega (arith, few, below)) ∙ stored i below

  -- a store in a word that is none of the root words of the pass
  pub stored_apart : (count at word : ℕ) → ((i : ℕ) → i < REGISTERS → root_at l pass i ≢ at) → count ≤ REGISTERS → Put m n at word → AreStored l m pass registers count → AreStored l n pass registers count
  stored_apart count at word apart few put stored = stored_stays count few (λ i small. put.elsewhere (root_at l pass i) (apart i small)) stored

-- the next register is stored, or all are
stored_next : (l : Sizes) (n : ℕ → ℕ) (pass : ℕ) (registers : List FieldWord) (r : Retire) (later : ℕ) → later < REGISTERS → AreStored l n pass registers (register_before later + 1) → (last : Bool) → (later == 0) ≡ last
    → AreStored l n pass registers (stored_by (if last then stored_all r r.region_at else retire.Root r (later - 1)))
stored_next l n pass registers r later most stored true e =
    let all : register_before later + 1 ≡ REGISTERS = omega (arith, eqb-true later 0 e) in
    let by : (at : Option ℕ) → stored_by (stored_all r at) ≡ REGISTERS = stored_all_is r in
    subst (AreStored l n pass registers) (all ∙ sym (by r.region_at)) stored
  where
    stored_all_is : (r : Retire) (at : Option ℕ) → stored_by (stored_all r at) ≡ REGISTERS
    stored_all_is r None = refl
    stored_all_is r (Some at) = refl
stored_next l n pass registers r later most stored false e =
    let some : later ≢ 0 = λ none. absurd (cc (eq-eqb later 0 none, e)) in
    let more : register_before later + 1 ≡ register_before (later - 1) = omega (arith, some, most) in
    subst (AreStored l n pass registers) more stored

-- the words of regions come after the root words
region_is_apart : (l : Sizes) (pass i : ℕ) (region : Option ℕ) (at : ℕ) → IsPass l pass → i < REGISTERS → region_word_at l region ≡ Some at → root_at l pass i ≢ at
region_is_apart l pass i None at there small e same = absurd cc
region_is_apart l pass i (Some region) at there small e same =
    let is : region_at l region ≡ at = cc in
    omega (arith, there.0, there.1)
