-- What a step of a mover comes to, and when a move may begin.
use Rattle.std.specs.Prelude.{◌≡◌, ◌≢◌, ℕ, ◌⊎◌, true, List, Some, None}
use Rattle.heap_words.specs.Layouts.{Sizes}
use Rattle.object_headers.specs.Headers.{word_of_header}
use Rattle.space_reclaim.specs.declared.move_job.MoveJob.{MoveJob}
use Rattle.heap_history.specs.declared.call.Call.{Call}
use Rattle.barriers.specs.States.{Absent, Plain, Kept, Forward, Dead, IsHome, IsLive}
use Rattle.barriers.specs.Spaces.{Space, here}
use Rattle.barriers.specs.Cycles.{Cycle}
use Rattle.barriers.specs.Moves.{Carried, Looks, Lays, job_of, field_of, move_finds}
use Rattle.barriers.specs.Protocols.{Protocol}
use Rattle.barriers.specs.Objects.{IsForward, HasLens, AreObjects, IsMove, planned_header}
use Rattle.barriers.specs.CallTurns.{Seen}
use Rattle.barriers.specs.MoveSteps.{space_moved}

-- what is known of the mover after its step
abbrev pub mover_after : Protocol → Space → Carried → MoveJob → Carried
mover_after P s m j = P.move_fed m (move_finds (here s j.from (field_of m)) m)

-- the header at an address, but for its state, and its copy and its wide object are as they were
pub record SameBody (s t : Space) (a : ℕ) : Type 0 where
  pub colour : t.colour a ≡ s.colour a
  pub len : t.len a ≡ s.len a
  pub birth : t.birth a ≡ s.birth a
  pub to : t.to a ≡ s.to a
  pub wide : t.wide a ≡ s.wide a

-- and so are its state and its seal
pub record IsSame (s t : Space) (a : ℕ) : Type 0 where
  pub state : t.state a ≡ s.state a
  pub seal : t.seal a ≡ s.seal a
  pub body : SameBody s t a

-- how a move has ended: it has left the object as it was, or the object is Kept and its copy Dead, or it has gone to its copy
pub data IsEnd (s t : Space) (j : MoveJob) : Type 0 where
  Was_left : ((a : ℕ) → IsSame s t a) → IsEnd s t j
  Was_kept : t.state j.from ≡ Kept → t.state j.to ≡ Dead → IsEnd s t j
  Has_gone : t.state j.from ≡ Forward j.to → t.state j.to ≡ Plain → IsEnd s t j

-- a mover begins by a look, or by the store of the copy's header
abbrev pub IsFirst : MoveJob → Carried → Type 0
IsFirst j m = (m ≡ Looks j) ⊎ (m ≡ Lays j)

module _ (P : Protocol) where
  -- A step by which a mover with this job makes t of the space s, and is then `next`: what holds of the objects holds after it, and all
  -- others see it. The mover goes on with the job, or has ended with it. Nothing happens in the heap; what the job does not name stays as
  -- it was; and a seal stays what it is.
  pub record MovesTo (c : Cycle) (s t : Space) (next : Carried) (j : MoveJob) : Type 0 where
    pub objects : AreObjects P c t
    pub lens : HasLens t
    pub seen : Seen P c s t
    pub move : (k : MoveJob) → job_of next ≡ Some k → (k ≡ j) × IsMove P c t next k
    pub ended : job_of next ≡ None → IsEnd s t j
    pub history : t.history ≡ s.history
    pub others : (a : ℕ) → a ≢ j.from → a ≢ j.to → IsSame s t a
    pub sealed : (a : ℕ) (past : List Call) → IsLive (s.state a) → s.seal a ≡ Some past → t.seal a ≡ Some past

  abbrev pub MoveStep : Sizes → Cycle → Space → Carried → MoveJob → Type 0
  MoveStep l c s m j = MovesTo c s (space_moved l c.mark s m) (mover_after P s m j) j

  -- a step that changes one header, and leaves its object where it is
  pub record Restated (c : Cycle) (s t : Space) : Type 0 where
    pub objects : AreObjects P c t
    pub lens : HasLens t
    pub seen : Seen P c s t
    pub homes : (a : ℕ) → IsHome (s.state a) → IsHome (t.state a)

  -- a mover may begin to move a home, to where nothing is
  pub record CanMove (c : Cycle) (s : Space) (m : Carried) (j : MoveJob) : Type 0 where
    pub first : IsFirst j m
    pub late : c.late ≡ true
    pub live : IsHome (s.state j.from)
    pub len : s.len j.from ≡ j.len
    pub birth : s.birth j.from ≡ j.birth
    pub header : j.header ≡ word_of_header (planned_header s j)
    pub absent : s.state j.to ≡ Absent
    -- it is no copy itself
    pub apart : (a : ℕ) → IsForward (s.state a) → s.to a ≢ j.from
    pub head : P.MoveHead c m (here s j.from 0)
