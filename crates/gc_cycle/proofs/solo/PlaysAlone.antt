-- What a copier's machines do where nobody else takes a step: how many steps they have left at most, and that nothing races their exchanges.
use Rattle.std.specs.Prelude.{◌≡◌, ◌≢◌, ℕ, ◌<◌, ◌≤◌, List, length, Option, Some, None}
use Rattle.call_steps.specs.declared.step.Step.{Step}
use Rattle.call_steps.specs.declared.step.Step.TheVariants.{Ended}
use Rattle.call_steps.specs.declared.step.Step.TheVariants as steps
use Rattle.call_steps.specs.Steps.{applied, found_by, IsInside}
use Rattle.call_steps.specs.StepLaws.{reading}
use Rattle.heap_words.specs.Layouts.{Sizes}
use Rattle.heap_words.specs.declared.field_word.FieldWord.{FieldWord}
use Rattle.space_reclaim.specs.declared.move_job.MoveJob.{MoveJob}
use Rattle.handshakes.specs.declared.pass_view.PassView.{PassView}
use Rattle.barriers.specs.declared.ends.TryRefusal.{TryRefusal}
use Rattle.barriers.specs.declared.ends.TryRefusal.TheVariants as refusal
use Rattle.barriers.specs.declared.ends.WriteEnd.{WriteEnd}
use Rattle.barriers.specs.declared.ends.WriteEnd.TheVariants as write_end
use Rattle.barriers.specs.declared.ends.ExchangeEnd.{ExchangeEnd}
use Rattle.barriers.specs.declared.ends.ExchangeEnd.TheVariants as exchange_end
use Rattle.barriers.specs.PassMachines.{Falls}
use Rattle.barriers.specs.Stances.{Stance}
use Rattle.barriers.specs.Spaces.{Here}
use Rattle.barriers.specs.Knowns.{finds}
use Rattle.barriers.specs.Moves.{move_finds}
use Rattle.barriers.specs.MoveSteps.{IsJob}
use Rattle.barriers.specs.Kits.{Kit, Stepping, IsWordOf, IsMoveWord}

-- ---- what a step wants

-- if it is an exchange, it finds what it wants
abbrev pub FindsWanted : (ℕ → ℕ) → Step → Type 0
FindsWanted memory (steps.Exchange at want put) = memory at ≡ want
FindsWanted memory step = Unit {0}

-- ---- how calls end

-- a refusal that answers the command, which is not tried again
abbrev pub RefusalAnswers : TryRefusal → Type 0
RefusalAnswers refusal.NotLink = Unit {0}
RefusalAnswers (refusal.NoField len) = Unit {0}
RefusalAnswers why = ⊥

abbrev pub WriteAnswers : WriteEnd → Type 0
WriteAnswers write_end.Wrote = Unit {0}
WriteAnswers (write_end.Refused why) = RefusalAnswers why

abbrev pub ExchangeAnswers : ExchangeEnd → Type 0
ExchangeAnswers exchange_end.Done = Unit {0}
ExchangeAnswers (exchange_end.Differs word) = Unit {0}
ExchangeAnswers (exchange_end.Refused why) = RefusalAnswers why

-- where a write has ended, it answers; where not, this is so
abbrev pub WriteGoesOn : Type 0 → Option WriteEnd → Type 0
WriteGoesOn On None = On
WriteGoesOn On (Some end) = WriteAnswers end

abbrev pub ExchangeGoesOn : Type 0 → Option ExchangeEnd → Type 0
ExchangeGoesOn On None = On
ExchangeGoesOn On (Some end) = ExchangeAnswers end

-- ---- moves

-- A move of thirty fields: three steps before them, five at each, and one after them.
abbrev pub most_move_steps : ℕ
most_move_steps = 154

-- a job whose copy is neither where its object is nor where its wide object is
pub record HasPlace (j : MoveJob) : Type 0 where
  pub job : IsJob j
  pub from : j.to ≢ j.from
  pub wide : j.to ≢ j.wide

-- ---- the facts

module _ {R W E M : Type 0} (kit : Kit R W E M) (by : Stepping R W E M) where
  -- what a step goes on to, from these words
  abbrev pub write_next : List ℕ → W → W
  write_next words m = by.write_fed m (found_by (by.write_asks m) words)

  abbrev pub exchange_next : List ℕ → E → E
  exchange_next words m = by.exchange_fed m (found_by (by.exchange_asks m) words)

  abbrev pub move_next : List ℕ → M → M
  move_next words m = by.move_fed m (found_by (by.move_asks m) words)

  -- memory after it
  abbrev pub after : Step → List ℕ → ℕ → ℕ
  after step words = reading (applied step words)

  -- the step of an exchange finds what it may find, by what is known of it
  pub record ExchangeFinds (words : List ℕ) (m : E) : Type 0 where
    pub phase : Stance
    pub here : Here
    pub copy : FieldWord
    pub word : IsWordOf (kit.exchanges m) (finds phase here copy (kit.exchanges m)) (found_by (by.exchange_asks m) words)

  -- likewise that of a mover, and it is on a word that is there
  pub record MoveFinds (words : List ℕ) (m : M) : Type 0 where
    pub job : MoveJob
    pub here : Here
    pub word : IsMoveWord job (move_finds here (kit.moves m)) (found_by (by.move_asks m) words)
    pub inside : IsInside (length words) (by.move_asks m)

  -- Every step of a call leaves fewer steps, of which it has 17 at first, whatever it finds. Memory and the machine of a write or an exchange
  -- are known as it begins, where its pass has no mark, and after each of its steps, until it answers its command; those of a move likewise,
  -- and each of its steps leaves fewer.
  pub record PlaysAlone : Type 1 where
    pub reads_fall : Falls by.read_asks by.read_fed by.read_left
    pub writes_fall : Falls by.write_asks by.write_fed by.write_left
    pub exchanges_fall : Falls by.exchange_asks by.exchange_fed by.exchange_left
    pub read_few : (l : Sizes) (v : PassView) (birth at field : ℕ) → by.read_left (kit.starts_read l v birth at field) ≤ 17
    pub write_few : (l : Sizes) (v : PassView) (birth at field word : ℕ) → by.write_left (kit.starts_write l v birth at field word) ≤ 17
    pub exchange_few : (l : Sizes) (v : PassView) (birth at field : ℕ) (expected : FieldWord) (word : ℕ) → by.exchange_left (kit.starts_exchange l v birth at field expected word) ≤ 17
    pub WriteAlone : (ℕ → ℕ) → W → Type 0
    pub write_first : (memory : ℕ → ℕ) (l : Sizes) (v : PassView) (birth at field word : ℕ) → v.mark ≡ 0 → WriteAlone memory (kit.starts_write l v birth at field word)
    pub writes_on : (words : List ℕ) (m : W) → by.write_asks m ≢ Ended → WriteAlone (reading words) m
        → WriteGoesOn (WriteAlone (after (by.write_asks m) words) (write_next words m)) (kit.write_ended (write_next words m))
    pub ExchangeAlone : (ℕ → ℕ) → E → Type 0
    pub exchange_first : (memory : ℕ → ℕ) (l : Sizes) (v : PassView) (birth at field : ℕ) (expected : FieldWord) (word : ℕ) → v.mark ≡ 0 → ExchangeAlone memory (kit.starts_exchange l v birth at field expected word)
    pub exchanges_on : (words : List ℕ) (m : E) → by.exchange_asks m ≢ Ended → ExchangeFinds words m → ExchangeAlone (reading words) m
        → ExchangeGoesOn (ExchangeAlone (after (by.exchange_asks m) words) (exchange_next words m)) (kit.exchange_ended (exchange_next words m))
    pub move_left : M → ℕ
    pub move_few : (l : Sizes) (j : MoveJob) (mark : ℕ) → HasPlace j → move_left (kit.starts_move l j mark) ≤ most_move_steps
    pub MoveAlone : (ℕ → ℕ) → M → Type 0
    pub move_first : (memory : ℕ → ℕ) (l : Sizes) (j : MoveJob) (mark : ℕ) → HasPlace j → MoveAlone memory (kit.starts_move l j mark)
    pub moves_on : (words : List ℕ) (m : M) → by.move_asks m ≢ Ended → MoveFinds words m → MoveAlone (reading words) m
        → (move_left (move_next words m) < move_left m) × MoveAlone (after (by.move_asks m) words) (move_next words m)
