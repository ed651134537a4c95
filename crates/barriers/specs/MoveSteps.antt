-- The step of a mover: which word it is on, what the mover ends with, and what it makes of the space.
use Rattle.std.specs.Prelude.{◌≡◌, ℕ, ◌+◌, ◌<◌, ◌≤◌, ◌^◌, List, Option, Some, None}
use Rattle.heap_words.specs.Layouts.{Sizes}
use Rattle.heap_words.specs.declared.field_word.FieldWord.{FieldWord}
use Rattle.heap_words.specs.declared.field_word.FieldWord.TheVariants.{Num}
use Rattle.heap_words.specs.FieldWords.{IsFieldWord, word_of}
use Rattle.wide_objects.specs.Statuses.{InOriginal, InWide, InCopy, word_of_status}
use Rattle.call_steps.specs.declared.step.Step.{Step}
use Rattle.call_steps.specs.declared.step.Step.TheVariants.{Load, Store, Exchange, Ended}
use Rattle.object_headers.specs.declared.change.Kind.{Kind}
use Rattle.object_headers.specs.declared.change.Kind.TheVariants as kinds
use Rattle.object_headers.specs.declared.header.Colour.{Colour}
use Rattle.object_headers.specs.Headers.{header_at}
use Rattle.space_reclaim.specs.declared.move_job.MoveJob.{MoveJob}
use Rattle.heap_history.specs.declared.call.Call.{Call}
use Rattle.barriers.specs.declared.ends.MoveEnd.{MoveEnd}
use Rattle.barriers.specs.declared.ends.MoveEnd.TheVariants as move_end
use Rattle.barriers.specs.Sets.{set, set2}
use Rattle.barriers.specs.States.{State, Plain, Tagged, Wide, Moving, Underway, Forward, Dead}
use Rattle.barriers.specs.Spaces.{Space}
use Rattle.barriers.specs.Rows.{region_of}
use Rattle.barriers.specs.Says.{head_word}
use Rattle.barriers.specs.Accesses.{put_state}
use Rattle.barriers.specs.Events.{Event, Widen, Take, Mark}
use Rattle.barriers.specs.Moves.{Carried, Idles, Looks, Lays, Points, Gives_up, Seals, Starts, Forwards, Takes_up, Asks, Widens, Finishes, Marks, Puts, widen_event, finish_event, mark_event}

-- ---- the job

-- it is of an object with this birth number and this many fields, of which this is the header as a walk found it
pub record IsJob (j : MoveJob) : Type 0 where
  pub colour : Colour
  pub header : j.header ≡ head_word Plain colour j.len j.birth
  pub few : j.len ≤ 30
  pub born : (0 < j.birth) × (j.birth < 2 ^ 24)
  pub near : (j.from < 2 ^ 20) × (j.to < 2 ^ 20) × (j.wide < 2 ^ 20)

-- the first step of a copier of this kind
abbrev pub first_of : Kind → MoveJob → Carried
first_of kinds.AtRest j = Looks j
first_of kind j = Lays j

-- the state from which a header goes to Forward; nothing is moved at rest
abbrev pub forwards_from : Kind → MoveJob → State
forwards_from kinds.Stopless j = Wide j.wide
forwards_from kinds.Chicken j = Tagged
forwards_from kinds.Clover j = Moving j.to
forwards_from kinds.AtRest j = Plain

-- ---- the word

-- the word of the object's header in this state
abbrev pub job_word : State → MoveJob → ℕ
job_word x j = head_word x (let h = header_at j.header in h.colour) j.len j.birth

-- the mark that is put in place of a value
abbrev pub mark_word : Option FieldWord → ℕ
mark_word None = 0
mark_word (Some m) = word_of m

-- its step, in a cycle with this mark
abbrev pub move_step : Kind → Option FieldWord → Carried → Step
move_step kind mark Idles = Ended
move_step kind mark (Looks j) = Load j.from
move_step kind mark (Lays j) = Store j.to (job_word Plain j)
move_step kind mark (Points j) = Store j.wide j.to
move_step kind mark (Gives_up j) = Store j.to (job_word Dead j)
move_step kind mark (Seals j) = Exchange j.from (job_word Tagged j) (job_word (Wide j.wide) j)
move_step kind mark (Starts j) = Exchange j.from (job_word Plain j) (job_word (Moving j.to) j)
move_step kind mark (Forwards j) = Exchange j.from (job_word (forwards_from kind j) j) (job_word (Forward j.to) j)
move_step kind mark (Takes_up j f) = Load (j.from + 1 + f)
move_step kind mark (Asks j f) = Load (j.wide + 1 + f)
move_step kind mark (Widens j f w) = Exchange (j.wide + 1 + f) (word_of_status InOriginal) (word_of_status (InWide w))
move_step kind mark (Finishes j f w) = Exchange (j.wide + 1 + f) (word_of_status (InWide w)) (word_of_status (InCopy w))
move_step kind mark (Marks j f w) = Exchange (j.from + 1 + f) (word_of w) (mark_word mark)
move_step kind mark (Puts j f w) = Store (j.to + 1 + f) (word_of w)

-- the words that it holds fit words
abbrev pub FitsCarried : Carried → Type 0
FitsCarried (Widens j f w) = IsFieldWord w
FitsCarried (Finishes j f w) = IsFieldWord w
FitsCarried (Marks j f w) = IsFieldWord w
FitsCarried (Puts j f w) = IsFieldWord w
FitsCarried m = Unit {0}

-- ---- the end

-- The header's word with which it leaves the object where it is: the one that its only look found, or the exchange after which it gives up.
abbrev pub kept_after : Carried → Carried → ℕ → Option ℕ → Option ℕ
kept_after (Looks j) next n kept = Some n
kept_after (Seals j) (Gives_up k) n kept = Some n
kept_after (Forwards j) (Gives_up k) n kept = Some n
kept_after m next n kept = kept

-- and what it has ended with
abbrev pub end_by : Option ℕ → MoveEnd
end_by None = move_end.Moved
end_by (Some header) = move_end.Kept header

abbrev pub move_said : Carried → Option ℕ → Option MoveEnd
move_said Idles kept = Some (end_by kept)
move_said m kept = None

-- ---- the space

-- the copy's header is stored, after the objects of its region
abbrev pub lay : Sizes → Space → MoveJob → Space
lay l s j = record s {
  state = set s.state j.to Underway;
  colour = set s.colour j.to (s.colour j.from);
  len = set s.len j.to j.len;
  birth = set s.birth j.to j.birth;
  word = set s.word j.to (λ f. Num 0);
  status = set s.status j.to (λ f. InOriginal);
  seal = set s.seal j.to None;
  ends = set s.ends (region_of l j.to) (j.to + 1 + j.len);
  to = set s.to j.from j.to;
  wide = set (set s.wide j.to 0) j.from j.wide;
}

-- the copy becomes the home, and the original's seal is this
abbrev pub forward : Space → MoveJob → Option (List Call) → Space
forward s j seal = record s {
  state = set (set s.state j.to Plain) j.from (Forward j.to);
  home = set s.home j.birth j.to;
  field = set s.field j.to (s.field j.from);
  seal = set s.seal j.from seal;
}

abbrev pub seal_wide : Space → MoveJob → State → Space
seal_wide s j Tagged = record s { state = set s.state j.from (Wide j.wide); seal = set s.seal j.from (Some s.history) }
seal_wide s j _ = s

abbrev pub forward_by : Space → MoveJob → State → Space
forward_by s j Tagged = forward s j (Some s.history)
forward_by s j (Wide w) = forward s j (s.seal j.from)
forward_by s j (Moving t) = forward s j (s.seal j.from)
forward_by s j _ = s

abbrev pub field_by : Space → ℕ → ℕ → Event → Space
field_by s a f (Widen w) = record s { status = set2 s.status a f (InWide w) }
field_by s a f (Take w) = record s { status = set2 s.status a f (InCopy w) }
field_by s a f (Mark w) = record s { word = set2 s.word a f w }
field_by s a f _ = s

-- after a step of a mover, where the mark is this
abbrev pub space_moved : Sizes → Option FieldWord → Space → Carried → Space
space_moved l mark s (Lays j) = lay l s j
space_moved l mark s (Points j) = record s { address = set s.address j.from j.to }
space_moved l mark s (Gives_up j) = put_state s j.to Dead
space_moved l mark s (Seals j) = seal_wide s j (s.state j.from)
space_moved l mark s (Starts j) = put_state s j.from (Moving j.to)
space_moved l mark s (Forwards j) = forward_by s j (s.state j.from)
space_moved l mark s (Puts j f w) = record s { word = set2 s.word j.to f w }
space_moved l mark s (Widens j f w) = field_by s j.from f (widen_event w (s.status j.from f))
space_moved l mark s (Finishes j f w) = field_by s j.from f (finish_event w (s.status j.from f))
space_moved l mark s (Marks j f w) = field_by s j.from f (mark_event mark w (s.word j.from f))
space_moved l mark s _ = s
