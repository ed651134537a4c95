-- The handshake of a collector with passes, by numbers: which words are announced, and what passes have acknowledged.
use Rattle.std.specs.Prelude.{◌≡◌, ◌≢◌, ℕ, ◌+◌, ◌<◌, ◌≤◌, ◌⊎◌}
use Rattle.heap_words.specs.Layouts.{Sizes, IsPass, phase_at, ack_at}
use Rattle.handshakes.specs.PhaseWords.{retired_word}

-- What is announced: the word, the word before it, and how many passes the await has passed: outside an await, all. And the mark that a pass
-- has once it has acknowledged the word, and the one that it has until then.
pub record Announced : Type 0 where
  pub word : ℕ
  pub before : ℕ
  pub passed : ℕ
  pub mark : ℕ
  pub mark_before : ℕ

-- a word that counts as the answer: the announced one, or that of a pass that has ended
abbrev pub HasAnswered : Announced → ℕ → Type 0
HasAnswered a acked = (acked ≡ retired_word) ⊎ (acked ≡ a.word)

-- a pass's acknowledgement is an answer; or the word before, where the await has not passed the pass
abbrev pub Answers : Announced → ℕ → ℕ → Type 0
Answers a pass acked = (acked ≡ retired_word) ⊎ ((acked ≡ a.word) ⊎ ((acked ≡ a.before) × (a.passed < pass)))

-- and the pass's mark is the one that goes with it; a pass that has ended has none
abbrev pub AnswersWith : Announced → ℕ → ℕ → ℕ → Type 0
AnswersWith a pass acked mark =
    ((acked ≡ retired_word) × (mark ≡ 0))
    ⊎ (((acked ≡ a.word) × (mark ≡ a.mark)) ⊎ ((acked ≡ a.before) × (a.passed < pass) × (mark ≡ a.mark_before)))

-- that of each pass
abbrev pub AllAnswer : Sizes → Announced → (ℕ → ℕ) → Type 0
AllAnswer l a acked = (pass : ℕ) → IsPass l pass → Answers a pass (acked pass)

-- ---- what a collector makes of it

-- another word is announced, with the mark that goes with it, and nobody awaited yet
abbrev pub announcing : Announced → ℕ → ℕ → Announced
announcing a word mark = record { word = word; before = a.word; passed = 0; mark = mark; mark_before = a.mark }

-- the await has passed the next pass
abbrev pub passing : Announced → Announced
passing a = record a { passed = a.passed + 1 }

-- Where a collector's step leads: nowhere; past the next pass, if it has answered; with all passed, to another word.
pub data Advances (l : Sizes) (acked : ℕ → ℕ) (a : Announced) : Announced → Type 0 where
  Stays : Advances l acked a a
  Passes : HasAnswered a (acked (a.passed + 1)) → Advances l acked a (passing a)
  Announces : (word mark : ℕ) → l.passes ≤ a.passed → Advances l acked a (announcing a word mark)

-- ---- a pass

-- A pass that runs has this word in hand: it is the announced one, which the pass has not acknowledged.
pub record IsInHand (a : Announced) (acked word : ℕ) : Type 0 where
  pub runs : acked ≢ retired_word
  pub announced_is : word ≡ a.word
  pub acked_not : acked ≢ word

-- ---- the words of the table

-- the phase word and the acknowledgements hold what was announced and acknowledged
pub record Shows (l : Sizes) (a : Announced) (m acked : ℕ → ℕ) : Type 0 where
  pub phase : m phase_at ≡ a.word
  pub acks : (pass : ℕ) → IsPass l pass → m (ack_at pass) ≡ acked pass

-- both: the passes answer, and the words show it
pub record Handshake (l : Sizes) (a : Announced) (m acked : ℕ → ℕ) : Type 0 where
  pub keeps : AllAnswer l a acked
  pub shows : Shows l a m acked
