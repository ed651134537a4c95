-- A copier as a table: its machines by what is known of them, and what each case may assume of the field that it is at.
use Rattle.std.specs.Prelude.{◌≡◌, ℕ, ◌⊎◌, Bool, true, false, List, ◌∷◌, Option, Some, None}
use Rattle.heap_words.specs.declared.field_word.FieldWord.{FieldWord}
use Rattle.space_reclaim.specs.declared.move_job.MoveJob.{MoveJob}
use Rattle.handshakes.specs.declared.follow.FollowMachine.{FollowMachine}
use Rattle.handshakes.specs.declared.follow.FollowMachine.TheVariants as follow
use Rattle.heap_words.specs.declared.field_word.FieldWord.TheVariants.{Link}
use Rattle.heap_history.specs.FixedHeaps.{is_same}
use Rattle.heap_history.specs.NewestFirst.{value_at}
use Rattle.heap_history.specs.declared.call.Call.{Call}
use Rattle.heap_history.specs.declared.call.Value.{Value}
use Rattle.barriers.specs.declared.ends.TryRefusal.{TryRefusal}
use Rattle.barriers.specs.declared.ends.TryRefusal.{TryRefusal}
use Rattle.barriers.specs.declared.ends.TryRefusal.TheVariants as refusal
use Rattle.barriers.specs.declared.spot.Spot.{Spot}
use Rattle.barriers.specs.States.{State, Wide, Moving, Forward, On}
use Rattle.barriers.specs.Stances.{Stance}
use Rattle.barriers.specs.Spaces.{Here, held}
use Rattle.barriers.specs.Values.{value_of}
use Rattle.barriers.specs.Cycles.{Cycle, Side, Phasing}
use Rattle.barriers.specs.Knowns.{Task, Reads, Writes, Exchanges, Ending, Got, Wrote, Done, Differs, Refused, Known, Swaps, Swaps_copy, Follows, Over, Finds, Field_word, Wide_word, wanted_of, looks, front, call_of, task_of}
use Rattle.barriers.specs.Events.{Event}
use Rattle.barriers.specs.Moves.{Carried}

pub record Protocol : Type 1 where
  -- how a call begins, by what its pass has acknowledged, the phase and the cycle, and by its mark, and how it goes on with what a step finds; the
  -- same of a move
  pub begins : Stance → ℕ → Option FieldWord → Spot → Task → Known
  pub fed : Stance → Option FieldWord → Known → Finds → Known
  pub move_begins : MoveJob → Carried
  pub move_fed : Carried → Finds → Carried
  -- what its steps are, at a field, and of the collector beside
  pub Makes : Event → Type 0
  pub Phases : Phasing → Type 0
  -- what a pass has to do with the cycle, and what is true of the cycle, whatever objects there are
  pub Fits : Cycle → Side → Type 0
  pub Right : Cycle → Type 0
  -- what every field is like: by the birth number of its object, its number, and the copy's word
  pub Shape : Cycle → ℕ → ℕ → Here → FieldWord → Type 0
  -- THE TABLE: what is true of the field while a machine is known to be there
  pub Own : Cycle → Side → Here → Known → Type 0
  -- the mover: what is true of the header, and of each field with the copy's word
  pub MoveHead : Cycle → Carried → Here → Type 0
  pub MoveField : Cycle → Carried → ℕ → Here → FieldWord → Type 0

-- ---- what a call has found out

-- the value that the call wants, if it wants one
abbrev pub Wants : Option Value → Value → Type 0
Wants None v = Unit {0}
Wants (Some e) v = v ≡ e

abbrev pub WantsAt : Task → FieldWord → Type 0
WantsAt t x = Wants (wanted_of t) (value_of x)

-- a word that ends an exchange has another value than the expected one, and none ends a write
abbrev pub IsReply : Task → FieldWord → Type 0
IsReply Reads x = Unit {0}
IsReply (Writes word) x = ⊥
IsReply (Exchanges expected word) x = is_same (value_of x) expected ≡ false

-- the heap after what was seen has this word's value in the field
pub record Answers (seen : List Call) (s : Spot) (t : Task) (x : FieldWord) : Type 0 where
  pub value : value_of x ≡ value_at seen s.birth s.field
  pub reply : IsReply t x

abbrev pub AnswersBy : List Call → Spot → Task → FollowMachine → Type 0
AnswersBy seen s t (follow.Header birth at) = Answers seen s t (Link birth at)
AnswersBy seen s t (follow.Ended end) = Unit {0}

abbrev pub AnswersSo : List Call → Spot → Task → Ending → Type 0
AnswersSo seen s t (Got word) = Answers seen s t word
AnswersSo seen s t (Differs word) = Answers seen s t word
AnswersSo seen s t end = Unit {0}

-- What an exchange is from has the expected value; what was found, and is followed or was the end, is the field's at what was seen.
abbrev pub Answered : List Call → Known → Type 0
Answered seen (Swaps s t x n) = WantsAt t x
Answered seen (Swaps_copy s t to x n) = WantsAt t x
Answered seen (Follows s t m) = AnswersBy seen s t m
Answered seen (Over s t end) = AnswersSo seen s t end
Answered seen k = Unit {0}

-- it has ended with its change
abbrev pub has_made : Known → Bool
has_made (Over s t Wrote) = true
has_made (Over s t Done) = true
has_made k = false

-- a call has an object, so it is never refused for want of one
abbrev pub IsOfObject : TryRefusal → Type 0
IsOfObject refusal.NotLink = ⊥
IsOfObject why = Unit {0}

-- the ends that such a call has
abbrev pub Suits : Task → Ending → Type 0
Suits Reads (Got word) = Unit {0}
Suits Reads (Refused (refusal.NoField len)) = Unit {0}
Suits (Writes word) Wrote = Unit {0}
Suits (Writes word) (Refused why) = IsOfObject why
Suits (Exchanges expected word) Done = Unit {0}
Suits (Exchanges expected word) (Differs found) = Unit {0}
Suits (Exchanges expected word) (Refused why) = IsOfObject why
Suits t end = ⊥

-- ---- words in hand

abbrev pub OnHand : (ℕ → ℕ → Type 0) → Option FieldWord → Type 0
OnHand Q None = Unit {0}
OnHand Q (Some w) = On Q w

abbrev pub OnFound : (ℕ → ℕ → Type 0) → Finds → Type 0
OnFound Q (Field_word w) = On Q w
OnFound Q (Wide_word u) = On Q (held u)
OnFound Q _ = Unit {0}

abbrev pub word_found : Finds → Option FieldWord
word_found (Field_word w) = Some w
word_found (Wide_word u) = Some (held u)
word_found _ = None

-- a word in hand is none, the one before, the one found, or the pass's mark
abbrev pub From : Option FieldWord → Option FieldWord → Option FieldWord → Option FieldWord → Type 0
From own o p q = (q ≡ None) ⊎ ((q ≡ o) ⊎ ((q ≡ p) ⊎ (q ≡ own)))

-- ---- what was seen

-- by a step of a call that finds this and puts this word: with its own change all changes, else as its look says
abbrev pub seen_after : Option FieldWord → Side → Spot → Known → Here → Finds → List Call → List Call
seen_after (Some w) side s k x found h = call_of side.pass s (task_of k) ∷ h
seen_after None side s k x found h = front (looks side.own k found) x.seal h side.seen

-- a header's target is what the space says of the copy and of the wide object
abbrev pub TargetIs : Here → State → Type 0
TargetIs x (Wide wide) = wide ≡ x.wide
TargetIs x (Moving to) = to ≡ x.to
TargetIs x (Forward to) = to ≡ x.to
TargetIs x state = Unit {0}
