-- Which step of the mover seals its object, and what is sealed after it.
use Rattle.std.specs.Prelude.{◌<◌, nat_lt, if◌then◌else◌}
use Rattle.std.specs.List.{All}
use Rattle.std.proofs.Common.{inl, inr, ◌≡◌, ◌≢◌, ℕ, ◌+◌, Bool, true, false, List, [], ◌∷◌, ◌++◌, Some, None, refl, sym, ap, ◌∙◌, subst, arith}
use Rattle.std.proofs.lemmas.Bool.{cases_eq, lt-ltb}
use Rattle.std.proofs.lemmas.List.Elements.{All-weaker, All-append, All-cons, All-nil}
use Rattle.heap_words.specs.Layouts.{Sizes}
use Rattle.heap_history.specs.declared.call.Call.{Call}
use Rattle.barriers.specs.Rows.{Rows}
use Rattle.barriers.specs.Spaces.{Space}
use Rattle.barriers.specs.States.{IsLive}
use Rattle.barriers.proofs.words.Headers.{live_there}
use Rattle.lawful_records.specs.LawfulRecords.{IsThereSealed, AreSealed}
use Rattle.lawful_records.specs.Turns.{has_word, seal_in}
use Rattle.lawful_records.specs.declared.records.Sealed.{Sealed}
use Rattle.lawful_records.proofs.frames.SealStays.{other_word, none_sealed}

-- ---- lists

-- a field that is none of the last one's has the seal that it had
other_last : (xs : List Sealed) (one : Sealed) (at : ℕ) → has_word one at ≡ false → seal_in (xs ++ one ∷ []) at ≡ seal_in xs at
other_last [] one at other = rw other refl
other_last (x ∷ xs) one at other = ap (λ rest. if has_word x at then Some x.changes else rest) (other_last xs one at other)

-- and one that had no seal has the last one's
its_last : (xs : List Sealed) (one : Sealed) (at : ℕ) → seal_in xs at ≡ None → has_word one at ≡ true → seal_in (xs ++ one ∷ []) at ≡ Some one.changes
its_last [] one at none here = rw here refl
its_last (x ∷ xs) one at none its = by_head (has_word x at) none (λ gone. its_last xs one at gone its) where
  by_head : (here : Bool) → (if here then Some x.changes else seal_in xs at) ≡ None → (seal_in xs at ≡ None → seal_in (xs ++ one ∷ []) at ≡ Some one.changes) → (if here then Some x.changes else seal_in (xs ++ one ∷ []) at) ≡ Some one.changes
  by_head true gone rest = absurd (cc gone)
  by_head false gone rest = rest gone

own_word : (one : Sealed) (f : ℕ) → f < one.len → has_word one (one.at + 1 + f) ≡ true
own_word one f inside =
    let low : nat_lt one.at (one.at + 1 + f) ≡ true = lt-ltb one.at (one.at + 1 + f) (omega arith) in
    let high : nat_lt (one.at + 1 + f) (one.at + 1 + one.len) ≡ true = lt-ltb (one.at + 1 + f) (one.at + 1 + one.len) (omega (arith, inside)) in
    rw (low, high) refl

-- ---- after a step that changes the states and the seals of an object and of its copy alone

module _ (l : Sizes) (s t : Space) (from to : ℕ) (rows : Rows l t.state t.len t.ends t.region) (live_on : (a : ℕ) → IsLive (s.state a) → IsLive (t.state a)) (len_on : (a : ℕ) → IsLive (s.state a) → t.len a ≡ s.len a) (home : IsLive (s.state from))
    (others : (a : ℕ) → a ≢ from → a ≢ to → (t.state a ≡ s.state a) × (t.seal a ≡ s.seal a)) (under : IsLive (s.state to) → ⊥) (copy : IsLive (t.state to) → t.seal to ≡ None) (sealed : List Sealed) (are : AreSealed s sealed) where
  there_on : (one : Sealed) → IsThereSealed s one → IsThereSealed t one
  there_on one is = record { live = live_on one.at is.live; len = len_on one.at is.live ∙ is.len }

  all_there : All (IsThereSealed t) sealed
  all_there = All-weaker (IsThereSealed s) (IsThereSealed t) there_on sealed are.there

  from_to : from ≢ to
  from_to same = under (subst (λ a. IsLive (s.state a)) same home)

  -- of what is no original that is moved
  seal_else : (a f : ℕ) → a ≢ from → IsLive (t.state a) → f < t.len a → seal_in sealed (a + 1 + f) ≡ t.seal a
  seal_else a f other live inside = elim (cases_eq a to) [
    | inl here ↦
        none_sealed sealed (a + 1 + f) (All-weaker (IsThereSealed s) (λ one. has_word one (a + 1 + f) ≡ false)
        (λ one is. other_word l t rows one a f (there_on one is) (live_there (t.state a) live) (λ same. under (subst (λ b. IsLive (s.state b)) (same ∙ here) is.live)) inside) sealed are.there)
        ∙ sym (subst (λ b. IsLive (t.state b) → t.seal b ≡ None) (sym here) copy live)
    | inr there ↦
        let is = others a other there in
        let was : IsLive (s.state a) = subst IsLive is.0 live in
        are.seals a f was (subst (λ len. f < len) (len_on a was) inside) ∙ sym is.1
  ]

  -- the step seals nothing
  pub sealed_as_was : t.seal from ≡ s.seal from → AreSealed t sealed
  sealed_as_was same = record {
    there = all_there;
    seals = λ a f live inside. elim (cases_eq a from) [
      | inl here ↦ subst (λ b. f < t.len b → seal_in sealed (b + 1 + f) ≡ t.seal b) (sym here) (λ within. are.seals from f home (subst (λ len. f < len) (len_on from home) within) ∙ sym same) inside
      | inr other ↦ seal_else a f other live inside
    ];
  }

  -- it seals the original, with this history
  module _ (h : List Call) (len : ℕ) (size : s.len from ≡ len) (unsealed : s.seal from ≡ None) (now : t.seal from ≡ Some h) where
    abbrev one : Sealed
    one = record { at = from; len = len; changes = h }

    one_there : IsThereSealed t one
    one_there = record { live = live_on from home; len = len_on from home ∙ size }

    pub sealed_more : AreSealed t (sealed ++ one ∷ [])
    sealed_more = record {
      there = All-append (IsThereSealed t) sealed (one ∷ []) all_there (All-cons (IsThereSealed t) one [] one_there (All-nil (IsThereSealed t)));
      seals = λ a f live inside. elim (cases_eq a from) [
        | inl here ↦ subst (λ b. f < t.len b → seal_in (sealed ++ one ∷ []) (b + 1 + f) ≡ t.seal b) (sym here)
            (λ within. (let short : f < len = subst (λ n. f < n) (len_on from home ∙ size) within in
            its_last sealed one (from + 1 + f) (are.seals from f home (subst (λ n. f < n) (len_on from home) within) ∙ unsealed) (own_word one f short) ∙ sym now)) inside
        | inr other ↦ other_last sealed one (a + 1 + f) (other_word l t rows one a f one_there (live_there (t.state a) live) (λ same. other (sym same)) inside) ∙ seal_else a f other live inside
      ];
    }
