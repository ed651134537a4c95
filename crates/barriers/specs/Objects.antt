-- What holds of the objects, and of a call under way, between any two steps, over any copier.
use Rattle.std.specs.Prelude.{◌≡◌, ◌≢◌, ℕ, ◌<◌, ◌≤◌, ◌⊎◌, true, List, ◌∷◌, Some, None}
use Rattle.object_headers.specs.declared.header.Header.{Header}
use Rattle.object_headers.specs.declared.header.State.TheVariants as states
use Rattle.object_headers.specs.Headers.{word_of_header}
use Rattle.wide_objects.specs.Statuses.{InOriginal}
use Rattle.space_reclaim.specs.declared.move_job.MoveJob.{MoveJob}
use Rattle.heap_history.specs.FixedHeaps.{answer}
use Rattle.heap_history.specs.NewestFirst.{heap_of_history, value_at, len_at, Before}
use Rattle.heap_history.specs.declared.call.Call.{Call}
use Rattle.heap_history.specs.declared.call.Reply.{Reply}
use Rattle.heap_history.specs.declared.call.Reply.TheVariants as replies
use Rattle.barriers.specs.declared.ends.TryRefusal.TheVariants as refusal
use Rattle.barriers.specs.declared.spot.Spot.{Spot}
use Rattle.barriers.specs.Spots as spots
use Rattle.barriers.specs.States.{State, Absent, Plain, Wide, Moving, Underway, Forward, IsHome, IsLive, On}
use Rattle.barriers.specs.Stances.{Retired}
use Rattle.barriers.specs.Spaces.{Space, Holds, here, place_word, copy_word, held}
use Rattle.barriers.specs.Values.{value_of}
use Rattle.barriers.specs.Cycles.{Cycle, Side}
use Rattle.barriers.specs.Knowns.{Task, Reads, Writes, Exchanges, Known, Over, Refused, at_field, has_field, spot_of, task_of, call_of, hand_of, head_of}
use Rattle.barriers.specs.Events.{IsStill}
use Rattle.barriers.specs.Moves.{Carried, Looks, Lays}
use Rattle.barriers.specs.Protocols.{Protocol, Answered, OnHand, TargetIs, has_made}

-- a field's word is in the copy, or on its way
abbrev pub IsCarrying : State → Type 0
IsCarrying (Wide wide) = Unit {0}
IsCarrying (Moving to) = Unit {0}
IsCarrying _ = ⊥

abbrev pub IsForward : State → Type 0
IsForward (Forward to) = Unit {0}
IsForward _ = ⊥

-- its words may be read: a home, or before all are at Fix a moved original
abbrev pub Counts : Cycle → State → Type 0
Counts c x = (c.late ≡ true) ⊎ IsHome x

-- t is of the same object as a
pub record IsCopy (s : Space) (a t : ℕ) (x : State) : Type 0 where
  pub state : s.state t ≡ x
  pub birth : s.birth t ≡ s.birth a
  pub len : s.len t ≡ s.len a

-- a copy under way, and the wide object that the original then has
pub record IsLaid (s : Space) (j : MoveJob) : Type 0 where
  pub copy : IsCopy s j.from j.to Underway
  pub colour : s.colour j.to ≡ s.colour j.from
  pub to : s.to j.from ≡ j.to
  pub wide : s.wide j.from ≡ j.wide
  pub status : (g : ℕ) → s.status j.to g ≡ InOriginal
  pub seal : s.seal j.to ≡ None

-- nothing is there before the copy's header is stored, and a mover that only looks has no copy
abbrev pub CopyAt : Space → Carried → MoveJob → Type 0
CopyAt s (Looks j) k = Unit {0}
CopyAt s (Lays j) k = s.state k.to ≡ Absent
CopyAt s m k = IsLaid s k

-- the header of the object that a move is of, as a walk found it
abbrev pub planned_header : Space → MoveJob → Header
planned_header s j = record { state = states.Plain; colour = s.colour j.from; len = j.len; birth = j.birth; target = 0 }

-- the header of an object that is tagged
abbrev pub tagged_header : Space → ℕ → Header
tagged_header s at = record { state = states.Tagged; colour = s.colour at; len = s.len at; birth = s.birth at; target = 0 }

-- what the heap answers to a call that is a change
abbrev pub reply_made : Task → Reply
reply_made Reads = replies.NotThere
reply_made (Writes word) = replies.Wrote
reply_made (Exchanges expected word) = replies.Done

-- the last change is this call, which the heap before it answers so
pub record IsMade (seen : List Call) (pass : ℕ) (s : Spot) (t : Task) : Type 0 where
  pub before : List Call
  pub last : seen ≡ call_of pass s t ∷ before
  pub answer : answer (heap_of_history before) (call_of pass s t) ≡ reply_made t

-- the object has this many fields, which are too few
abbrev pub IsNoField : List Call → Spot → ℕ → Type 0
IsNoField h s len = (len_at h s.birth ≡ Some len) × (len ≤ s.field)

-- the heap has each object, with as many fields
abbrev pub HasLens : Space → Type 0
HasLens s = (a : ℕ) → IsLive (s.state a) → len_at s.history (s.birth a) ≡ Some (s.len a)

module _ (P : Protocol) where
  -- The place of each field of a home has the word of the field, of the value that the heap has there; each birth number has one home; a
  -- header's target is the copy or the wide object; links in words that count hold; the copier's part holds at each field; and an object has
  -- no seal before its move.
  pub record AreObjects (c : Cycle) (s : Space) : Type 0 where
    pub placed : (a f : ℕ) → IsHome (s.state a) → f < s.len a → s.field a f ≡ place_word c.mark (here s a f) (copy_word s a f)
    pub agrees : (a f : ℕ) → IsHome (s.state a) → f < s.len a → value_of (s.field a f) ≡ value_at s.history (s.birth a) f
    pub home : (a : ℕ) → IsHome (s.state a) → s.home (s.birth a) ≡ a
    pub target : (a f : ℕ) → IsLive (s.state a) → TargetIs (here s a f) (s.state a)
    pub copied : (a : ℕ) → IsForward (s.state a) → IsCopy s a (s.to a) Plain
    pub under : (a : ℕ) → IsCarrying (s.state a) → IsCopy s a (s.to a) Underway
    pub fields : (a f : ℕ) → IsHome (s.state a) → f < s.len a → On (Holds s) (s.field a f)
    pub words : (a f : ℕ) → IsLive (s.state a) → Counts c (s.state a) → f < s.len a → On (Holds s) (s.word a f)
    pub statuses : (a f : ℕ) → IsLive (s.state a) → Counts c (s.state a) → f < s.len a → On (Holds s) (held (s.status a f))
    pub shape : (a f : ℕ) → IsLive (s.state a) → f < s.len a → P.Shape c (s.birth a) f (here s a f) (copy_word s a f)
    pub seals : (a : ℕ) (past : List Call) → s.seal a ≡ Some past → Before past s.history
    pub unsealed : (a : ℕ) → IsStill (s.state a) → s.seal a ≡ None
    pub right : P.Right c
    -- the mark is a number
    pub number : OnHand (λ b a. ⊥) c.mark

  -- a pass fits the cycle while it runs, has seen the past, and its mark is a number
  pub record IsSide (c : Cycle) (s : Space) (side : Side) : Type 0 where
    pub fits : side.acked ≢ Retired → P.Fits c side
    pub past : Before side.seen s.history
    pub number : OnHand (λ b a. ⊥) side.own

  -- A call of a running pass: the link that it is at holds and counts, and leads to an object with the field once the header was loaded; the
  -- word in hand holds; the table's row is true; and what it has found out is so.
  pub record IsCall (c : Cycle) (s : Space) (side : Side) (k : Known) : Type 0 where
    pub runs : side.acked ≢ Retired
    pub holds : (z : Spot) → at_field k ≡ Some z → Holds s z.birth z.at
    pub place : (z : Spot) → at_field k ≡ Some z → z ≡ spots.spot_of z.birth z.at z.field
    pub inside : (z : Spot) → at_field k ≡ Some z → has_field k ≡ true → z.field < s.len z.at
    pub counts : (z : Spot) → at_field k ≡ Some z → Counts c (s.state z.at)
    pub hand : OnHand (Holds s) (hand_of k)
    pub head : (h : Header) → head_of k ≡ Some h → h ≡ tagged_header s (spot_of k).at
    pub own : (z : Spot) → at_field k ≡ Some z → P.Own c side (here s z.at z.field) k
    pub answered : Answered side.seen k
    pub refused : (z : Spot) (t : Task) (len : ℕ) → k ≡ Over z t (Refused (refusal.NoField len)) → IsNoField s.history z len
    pub made : has_made k ≡ true → IsMade side.seen side.pass (spot_of k) (task_of k)

  -- a move
  pub record IsMove (c : Cycle) (s : Space) (m : Carried) (j : MoveJob) : Type 0 where
    pub late : c.late ≡ true
    pub live : IsHome (s.state j.from)
    pub len : s.len j.from ≡ j.len
    pub birth : s.birth j.from ≡ j.birth
    pub header : j.header ≡ word_of_header (planned_header s j)
    pub copy : CopyAt s m j
    -- it is no copy itself
    pub apart : (a : ℕ) → IsForward (s.state a) → s.to a ≢ j.from
    pub head : P.MoveHead c m (here s j.from 0)
    pub field : (g : ℕ) → g < j.len → P.MoveField c m g (here s j.from g) (copy_word s j.from g)
