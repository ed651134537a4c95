-- What a pass has acknowledged answers the collector after its step.
use Rattle.std.proofs.Common.{◌≡◌, ◌≢◌, ℕ, ◌+◌, ◌<◌, ◌≤◌, inl, inr, refl, sym, ap, ◌∙◌, subst, arith}
use Rattle.std.proofs.lemmas.Bool.{cases_eq}
use Rattle.heap_words.specs.Layouts.{Sizes, IsPass}
use Rattle.handshakes.specs.PhaseWords.{retired_word}
use Rattle.handshakes.specs.Handshakes.{Announced, HasAnswered, Answers, AnswersWith, Advances, Stays, Passes, Announces}

-- a pass to which an announcement is new has answered all before
answers_all : (l : Sizes) (a : Announced) (pass acked : ℕ) → IsPass l pass → l.passes ≤ a.passed → Answers a pass acked → HasAnswered a acked
answers_all l a pass acked there over answers = elim answers [
  | inl ended ↦ inl ended
  | inr rest ↦ elim rest [ inl same ↦ inr same | inr waits ↦ absurd (omega (arith, over, there.1, waits.1)) ]
]

module _ (l : Sizes) (a : Announced) (acks : ℕ → ℕ) (pass : ℕ) (there : IsPass l pass) where
  passed_on : (acked : ℕ) → acks pass ≡ acked → HasAnswered a (acks (a.passed + 1)) → Answers a pass acked → Answers (record a { passed = a.passed + 1 }) pass acked
  passed_on acked is answered answers = elim answers [
    | inl ended ↦ inl ended
    | inr rest ↦ elim rest [
      | inl same ↦ inr (inl same)
      | inr waits ↦ elim (cases_eq pass (a.passed + 1)) [
        | inl here ↦ elim (subst (HasAnswered a) (ap acks (sym here) ∙ is) answered) [ inl ended ↦ inl ended | inr same ↦ inr (inl same) ]
        | inr other ↦ inr (inr (waits.0, omega (arith, other, waits.1)))
      ]
    ]
  ]

  -- after a step of the collector
  pub answers_on : (b : Announced) (acked : ℕ) → acks pass ≡ acked → Advances l acks a b → Answers a pass acked → Answers b pass acked
  answers_on b acked is Stays answers = answers
  answers_on b acked is (Passes answered) answers = passed_on acked is answered answers
  answers_on b acked is (Announces word mark over) answers = elim (answers_all l a pass acked there over answers) [
    | inl ended ↦ inl ended
    | inr same ↦ inr (inr (same, omega (arith, there.0)))
  ]

  -- a pass that is passed with the mark of the word before has not answered, where the two words differ
  marked_passed : (acked mark : ℕ) → acks pass ≡ acked → a.before ≢ a.word → a.before ≢ retired_word → HasAnswered a (acks (a.passed + 1)) → AnswersWith a pass acked mark → AnswersWith (record a { passed = a.passed + 1 }) pass acked mark
  marked_passed acked mark is differs runs answered answers = elim answers [
    | inl ended ↦ inl ended
    | inr rest ↦ elim rest [
      | inl same ↦ inr (inl same)
      | inr waits ↦ elim (cases_eq pass (a.passed + 1)) [
        | inl here ↦ elim (subst (HasAnswered a) (ap acks (sym here) ∙ is) answered) [ inl ended ↦ absurd (runs (sym waits.0 ∙ ended)) | inr same ↦ absurd (differs (sym waits.0 ∙ same)) ]
        | inr other ↦ inr (inr (waits.0, omega (arith, other, waits.1), waits.2))
      ]
    ]
  ]

  -- its mark goes with what it has acknowledged, after a step of the collector
  pub marked_on : (b : Announced) (acked mark : ℕ) → acks pass ≡ acked → (a.passed < pass → (a.before ≢ a.word) × (a.before ≢ retired_word)) → Advances l acks a b → AnswersWith a pass acked mark → AnswersWith b pass acked mark
  marked_on b acked mark is differs Stays answers = answers
  marked_on b acked mark is differs (Passes answered) answers = elim answers [
    | inl ended ↦ inl ended
    | inr rest ↦ elim rest [
      | inl same ↦ inr (inl same)
      | inr waits ↦ let apart = differs waits.1 in marked_passed acked mark is apart.0 apart.1 answered (inr (inr waits))
    ]
  ]
  marked_on b acked mark is differs (Announces word next over) answers = elim answers [
    | inl ended ↦ inl ended
    | inr rest ↦ elim rest [
      | inl same ↦ inr (inr (same.0, omega (arith, there.0), same.1))
      | inr waits ↦ absurd (omega (arith, over, there.1, waits.1))
    ]
  ]

  -- nothing new is announced to a running pass that has not answered
  pub waits_on : (b : Announced) (acked : ℕ) → Advances l acks a b → Answers a pass acked → acked ≢ retired_word → acked ≢ a.word → b.word ≡ a.word
  waits_on b acked Stays answers runs apart = refl
  waits_on b acked (Passes answered) answers runs apart = refl
  waits_on b acked (Announces word mark over) answers runs apart = elim (answers_all l a pass acked there over answers) [ inl ended ↦ absurd (runs ended) | inr same ↦ absurd (apart same) ]
