-- What is known of the mover of any copier, and what its steps are at each field of the object that it moves.
use Rattle.std.specs.Prelude.{ℕ, if◌then◌else◌, ◌==◌, List, Option, Some, None}
use Rattle.heap_words.specs.declared.field_word.FieldWord.{FieldWord}
use Rattle.wide_objects.specs.Statuses.{Status, InOriginal, InWide}
use Rattle.heap_history.specs.declared.call.Call.{Call}
use Rattle.space_reclaim.specs.declared.move_job.MoveJob.{MoveJob}
use Rattle.barriers.specs.States.{State, Tagged, Wide, Moving, same_word}
use Rattle.barriers.specs.Spaces.{Here}
use Rattle.barriers.specs.Knowns.{Finds, Nothing, Header_word, Field_word, Wide_word}
use Rattle.barriers.specs.Events.{Event, Quiet, Lay, Point, Seal, Move, Put_copy, Take, Mark, Widen, Pass_on, Seal_on}

-- what is known of the mover of any copier
pub data Carried : Type 0 where
  Idles : Carried
  -- loads the header, and leaves the object where it is
  Looks : (j : MoveJob) → Carried
  -- stores the copy's header, the copy's address in the wide object, Dead in the copy's header
  Lays : (j : MoveJob) → Carried
  Points : (j : MoveJob) → Carried
  Gives_up : (j : MoveJob) → Carried
  -- exchanges the header: Tagged to Wide, Plain to Moving, or to Forward
  Seals : (j : MoveJob) → Carried
  Starts : (j : MoveJob) → Carried
  Forwards : (j : MoveJob) → Carried
  -- loads in the original, loads the wide word
  Takes_up : (j : MoveJob) (f : ℕ) → Carried
  Asks : (j : MoveJob) (f : ℕ) → Carried
  -- exchanges the wide word from InOriginal to InWide, from InWide to InCopy; the original's word for the mark
  Widens : (j : MoveJob) (f : ℕ) (w : FieldWord) → Carried
  Finishes : (j : MoveJob) (f : ℕ) (w : FieldWord) → Carried
  Marks : (j : MoveJob) (f : ℕ) (w : FieldWord) → Carried
  -- stores in the copy
  Puts : (j : MoveJob) (f : ℕ) (w : FieldWord) → Carried

abbrev pub job_of : Carried → Option MoveJob
job_of Idles = None
job_of (Looks j) = Some j
job_of (Lays j) = Some j
job_of (Points j) = Some j
job_of (Gives_up j) = Some j
job_of (Seals j) = Some j
job_of (Starts j) = Some j
job_of (Forwards j) = Some j
job_of (Takes_up j f) = Some j
job_of (Asks j f) = Some j
job_of (Widens j f w) = Some j
job_of (Finishes j f w) = Some j
job_of (Marks j f w) = Some j
job_of (Puts j f w) = Some j

abbrev pub field_of : Carried → ℕ
field_of (Takes_up j f) = f
field_of (Asks j f) = f
field_of (Widens j f w) = f
field_of (Finishes j f w) = f
field_of (Marks j f w) = f
field_of (Puts j f w) = f
field_of _ = 0

abbrev pub IsAtField : Carried → Type 0
IsAtField (Takes_up j f) = Unit {0}
IsAtField (Asks j f) = Unit {0}
IsAtField (Widens j f w) = Unit {0}
IsAtField (Finishes j f w) = Unit {0}
IsAtField (Marks j f w) = Unit {0}
IsAtField (Puts j f w) = Unit {0}
IsAtField _ = ⊥

-- x is the original's field that the mover is at
abbrev pub move_finds : Here → Carried → Finds
move_finds x (Looks j) = Header_word x.state x.colour x.len
move_finds x (Seals j) = Header_word x.state x.colour x.len
move_finds x (Starts j) = Header_word x.state x.colour x.len
move_finds x (Forwards j) = Header_word x.state x.colour x.len
move_finds x (Takes_up j f) = Field_word x.word
move_finds x (Asks j f) = Wide_word x.status
move_finds x (Widens j f w) = Wide_word x.status
move_finds x (Finishes j f w) = Wide_word x.status
move_finds x (Marks j f w) = Field_word x.word
move_finds x _ = Nothing

abbrev pub seal_event : MoveJob → List Call → State → Event
seal_event j h Tagged = Seal j.wide h
seal_event j h _ = Quiet

abbrev pub forward_event : MoveJob → List Call → State → Event
forward_event j h Tagged = Seal_on j.to h
forward_event j h (Wide w) = Pass_on j.to
forward_event j h (Moving t) = Pass_on j.to
forward_event j h _ = Quiet

abbrev pub widen_event : FieldWord → Status → Event
widen_event w InOriginal = Widen w
widen_event w _ = Quiet

abbrev pub finish_event : FieldWord → Status → Event
finish_event w (InWide u) = if same_word u w then Take u else Quiet
finish_event w _ = Quiet

abbrev pub mark_event : Option FieldWord → FieldWord → FieldWord → Event
mark_event None w o = Quiet
mark_event (Some m) w o = if same_word o w then Mark m else Quiet

-- at field g of the original, of which x is told
abbrev pub move_event : Option FieldWord → List Call → Carried → ℕ → Here → Event
move_event mark h (Lays j) g x = Lay j.to j.wide
move_event mark h (Points j) g x = Point j.to
move_event mark h (Seals j) g x = seal_event j h x.state
move_event mark h (Starts j) g x = Move j.to
move_event mark h (Forwards j) g x = forward_event j h x.state
move_event mark h (Widens j f w) g x = if g == f then widen_event w x.status else Quiet
move_event mark h (Finishes j f w) g x = if g == f then finish_event w x.status else Quiet
move_event mark h (Marks j f w) g x = if g == f then mark_event mark w x.word else Quiet
move_event mark h (Puts j f w) g x = if g == f then Put_copy w else Quiet
move_event mark h _ g x = Quiet
