-- What every step keeps of a handshake, and what follows from it.
use Rattle.std.proofs.Common.{◌≡◌, ◌≢◌, ℕ, ◌+◌, ◌<◌, ◌≤◌, ◌⊎◌, inl, inr, refl, sym, ap, ◌∙◌, subst, arith}
use Rattle.std.proofs.lemmas.Bool.{cases_eq, cases_lt}
use Rattle.heap_words.specs.Layouts.{Sizes, IsPass}
use Rattle.call_steps.specs.StepLaws.{Put}
use Rattle.handshakes.specs.PhaseWords.{retired_word}
use Rattle.handshakes.specs.Handshakes.{Announced, HasAnswered, Answers, AllAnswer, announcing, passing, Advances, Stays, Passes, Announces, IsInHand}

-- ---- what follows

module _ (l : Sizes) (a : Announced) (acked : ℕ → ℕ) (all : AllAnswer l a acked) (pass : ℕ) (there : IsPass l pass) where
  -- a pass that was passed has answered
  pub passed_has_answered : pass ≤ a.passed → HasAnswered a (acked pass)
  passed_has_answered within = elim (all pass there) [
    | inl ended ↦ inl ended
    | inr rest ↦ elim rest [ inl answered ↦ inr answered | inr waits ↦ absurd (omega (arith, waits.1)) ]
  ]

  -- with all passes passed, each has answered
  pub all_have_answered : l.passes ≤ a.passed → HasAnswered a (acked pass)
  all_have_answered over = passed_has_answered (omega (arith, there.1))

  module _ (runs : acked pass ≢ retired_word) where
    -- where the await has passed the pass, it is the announced word
    pub passed_answers : pass ≤ a.passed → acked pass ≡ a.word
    passed_answers within = elim (passed_has_answered within) [ inl ended ↦ absurd (runs ended) | inr answered ↦ answered ]

    -- where it is not the announced word, it is the one before, and the await has not passed the pass
    pub unanswered : acked pass ≢ a.word → (acked pass ≡ a.before) × (a.passed < pass)
    unanswered waits = elim (all pass there) [
      | inl ended ↦ absurd (runs ended)
      | inr rest ↦ elim rest [ inl answered ↦ absurd (waits answered) | inr both ↦ both ]
    ]

    -- and so no other word can be announced
    pub announced_waits : acked pass ≢ a.word → a.passed < l.passes
    announced_waits waits = omega (arith, (unanswered waits).1, there.1)

  -- a pass with the announced word in hand has acknowledged the word before, and the await has not passed it
  pub hand_is_before : (word : ℕ) → IsInHand a (acked pass) word → (acked pass ≡ a.before) × (a.passed < pass)
  hand_is_before word hand = unanswered hand.runs (λ e. hand.acked_not (e ∙ sym hand.announced_is))

-- the announced word of a pass that has not answered stays
pub announced_stays : (l : Sizes) (a b : Announced) (acked : ℕ → ℕ) (pass : ℕ) → AllAnswer l a acked → IsPass l pass → Advances l acked a b → acked pass ≢ retired_word → acked pass ≢ a.word → b.word ≡ a.word
announced_stays l a b acked pass all there Stays runs waits = refl
announced_stays l a b acked pass all there (Passes answered) runs waits = refl
announced_stays l a b acked pass all there (Announces next mark over) runs waits = absurd (omega (arith, over, announced_waits l a acked all pass there runs waits))

-- ---- what is kept

-- a pass stores the announced word, or that of Retired
pub answer_keeps : (l : Sizes) (a : Announced) (acked after : ℕ → ℕ) (pass word : ℕ) → HasAnswered a word → Put acked after pass word → AllAnswer l a acked → AllAnswer l a after
answer_keeps l a acked after pass word says put all p there = elim (cases_eq p pass) [
  | inl same ↦
      let is : after p ≡ word = ap after same ∙ put.here in
      elim says [ inl ended ↦ inl (is ∙ ended) | inr answered ↦ inr (inl (is ∙ answered)) ]
  | inr other ↦ subst (Answers a p) (sym (put.elsewhere p other)) (all p there)
]

-- with all passes passed, another word is announced, also one that was announced before
pub announces_keeps : (l : Sizes) (a : Announced) (acked : ℕ → ℕ) (word mark : ℕ) → l.passes ≤ a.passed → AllAnswer l a acked → AllAnswer l (announcing a word mark) acked
announces_keeps l a acked word mark over all pass there = elim (all_have_answered l a acked all pass there over) [
  | inl ended ↦ inl ended
  | inr answered ↦ inr (inr (answered, omega (arith, there.0)))
]

-- the await has passed more passes, which have answered
pub passes_more : (l : Sizes) (a : Announced) (acked : ℕ → ℕ) (next : ℕ) → ((pass : ℕ) → IsPass l pass → a.passed < pass → pass ≤ next → HasAnswered a (acked pass)) → AllAnswer l a acked → AllAnswer l (record a { passed = next }) acked
passes_more l a acked next more all pass there = elim (all pass there) [
  | inl ended ↦ inl ended
  | inr rest ↦ elim rest [
    | inl answered ↦ inr (inl answered)
    | inr waits ↦ elim (cases_lt next pass) [
      | inl further ↦ inr (inr (waits.0, further))
      | inr within ↦ elim (more pass there waits.1 within) [ inl ended ↦ inl ended | inr answered ↦ inr (inl answered) ]
    ]
  ]
]

-- the await passes the next pass, which has answered
pub passes_keeps : (l : Sizes) (a : Announced) (acked : ℕ → ℕ) → HasAnswered a (acked (a.passed + 1)) → AllAnswer l a acked → AllAnswer l (passing a) acked
passes_keeps l a acked answered all = passes_more l a acked (a.passed + 1) (λ pass there above within.
    let same : pass ≡ a.passed + 1 = omega arith in
    subst (λ (p : ℕ). HasAnswered a (acked p)) (sym same) answered) all

-- of the acknowledgements those of passes alone are told
pub same_keeps : (l : Sizes) (a : Announced) (acked same : ℕ → ℕ) → ((pass : ℕ) → IsPass l pass → same pass ≡ acked pass) → AllAnswer l a acked → AllAnswer l a same
same_keeps l a acked same is all pass there = subst (Answers a pass) (sym (is pass there)) (all pass there)
