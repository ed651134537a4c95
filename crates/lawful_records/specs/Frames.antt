-- What the turn of one party leaves of what the others stand on.
use Rattle.std.specs.Prelude.{◌≡◌, ◌≢◌, ℕ, ◌<◌, ◌≤◌, ◌⊎◌, IsTrue, true, false, List, ◌∷◌, Option, Some, None}
use Rattle.heap_words.specs.Layouts.{Sizes, IsPass}
use Rattle.heap_words.specs.declared.field_word.FieldWord.{FieldWord}
use Rattle.heap_words.specs.declared.field_word.FieldWord.TheVariants.{Num}
use Rattle.object_headers.specs.declared.change.Kind.{Kind}
use Rattle.object_headers.specs.Changes.{is_clover}
use Rattle.space_reclaim.specs.OwnRegions.{IsOwn}
use Rattle.heap_history.specs.FixedHeaps.{answer}
use Rattle.heap_history.specs.Histories.{pass_of, is_change}
use Rattle.heap_history.specs.NewestFirst.{heap_of_history}
use Rattle.heap_history.specs.declared.call.Call.{Call}
use Rattle.barriers.specs.States.{Absent, Plain, Kept, Tagged, IsHome, IsLive}
use Rattle.barriers.specs.Spaces.{Space, Holds, is_mark}
use Rattle.barriers.specs.Stances.{Free, Retired}
use Rattle.barriers.specs.Rows.{region_of}
use Rattle.barriers.specs.Says.{Notices}
use Rattle.barriers.specs.Cycles.{Cycle, Side}
use Rattle.barriers.specs.Knowns.{Known, writes_yet}
use Rattle.barriers.specs.Events.{Keep}
use Rattle.barriers.specs.Protocols.{Protocol}
use Rattle.space_reclaim.specs.declared.move_job.MoveJob.{MoveJob}
use Rattle.barriers.specs.Moves.{Carried, job_of}
use Rattle.barriers.specs.Objects.{IsSide, IsCall, IsMove}
use Rattle.barriers.specs.Kits.{Kit}
use Rattle.lawful_records.specs.Searches.{IsBegun}

-- the second history is the first with a change of this pass, which fits the heap before it
pub record HasChange (pass : ℕ) (before after : List Call) : Type 0 where
  pub call : Call
  pub by : pass_of call ≡ pass
  pub fits : IsTrue (is_change (answer (heap_of_history before) call))
  pub is : after ≡ call ∷ before

-- a turn of this party leaves the history, or adds a change to it
abbrev pub Grows : ℕ → List Call → List Call → Type 0
Grows pass before after = (after ≡ before) ⊎ HasChange pass before after

-- the object at an address is live still, with its length, its birth number and its colour
pub record IsSameAt (s t : Space) (at : ℕ) : Type 0 where
  pub live : IsLive (t.state at)
  pub birth : t.birth at ≡ s.birth at
  pub len : t.len at ≡ s.len at
  pub colour : t.colour at ≡ s.colour at

-- links hold, sides and calls stay what they are, and so do objects
pub record SeenBy (P : Protocol) (c : Cycle) (s t : Space) : Type 0 where
  pub holds : (birth at : ℕ) → Holds s birth at → Holds t birth at
  pub side : (x : Side) → IsSide P c s x → IsSide P c t x
  pub call : (x : Side) (k : Known) → IsSide P c s x → IsCall P c s x k → IsCall P c t x k
  pub heads : (at : ℕ) → IsLive (s.state at) → IsSameAt s t at

-- Where a mark is sought, the turn of a pass that has it leaves the word of each field of a home, or makes it another word than the mark.
abbrev pub KeepsUnmarked : Kind → Cycle → Side → Space → Space → Type 0
KeepsUnmarked kind c side s t = is_clover kind ≡ true → c.phase ≢ Free → (side.acked ≢ Retired → side.own ≡ c.mark) → (a f : ℕ) → IsHome (t.state a) → f < t.len a
    → (IsHome (s.state a) × (f < s.len a) × (t.field a f ≡ s.field a f)) ⊎ (is_mark c.mark (t.field a f) ≡ false)

-- the word that a call will yet write, where a pass is in one
abbrev pub writes_in : Option Known → Option FieldWord
writes_in None = None
writes_in (Some k) = writes_yet k

-- The turn of a pass leaves the word of each field of a home, or makes it 0, or the word that its call will yet write.
abbrev pub KeepsFields : Option FieldWord → Space → Space → Type 0
KeepsFields put s t = (a f : ℕ) → IsHome (t.state a) → f < t.len a → (IsHome (s.state a) × (f < s.len a) × (t.field a f ≡ s.field a f)) ⊎ ((t.field a f ≡ Num 0) ⊎ (put ≡ Some (t.field a f)))

-- what it leaves to a search: where objects begin, and fields that are not the mark
pub record LeavesSearch (kind : Kind) (c : Cycle) (side : Side) (s t : Space) : Type 0 where
  pub begun : (region at : ℕ) → IsBegun s region at → IsBegun t region at
  pub unmarked : KeepsUnmarked kind c side s t

-- the region keeps its word, and its objects end where they did
pub record SameRegion (s t : Space) (region : ℕ) : Type 0 where
  pub word : t.region region ≡ s.region region
  pub ends : t.ends region ≡ s.ends region

-- what is there has the same header, the same seal and the same wide object
pub record IsSameHead (s t : Space) (at : ℕ) : Type 0 where
  pub state : t.state at ≡ s.state at
  pub seal : t.seal at ≡ s.seal at
  pub wide : t.wide at ≡ s.wide at
  pub head : s.state at ≢ Absent → (t.birth at ≡ s.birth at) × (t.len at ≡ s.len at) × (t.colour at ≡ s.colour at)

-- What a turn of a pass leaves at an address: what is there; or a tag has become Kept; or an object begins there, in a region of a pass's own.
pub data Left (P : Protocol) (l : Sizes) (s t : Space) (at : ℕ) : Type 0 where
  Same : IsSameHead s t at → Left P l s t at
  Untagged : P.Makes Keep → s.state at ≡ Tagged → t.state at ≡ Kept → t.seal at ≡ s.seal at → t.wide at ≡ s.wide at → Left P l s t at
  Born : s.state at ≡ Absent → t.state at ≡ Plain → t.seal at ≡ None → t.wide at ≡ 0 → l.pool ≤ region_of l at → Left P l s t at

-- And what it leaves to the collector: at each address; of the copies' addresses in wide objects, all; of the regions of the pool; and of a
-- move, where no object begins at the copy's place.
pub record Leaves (P : Protocol) (l : Sizes) (c : Cycle) (s t : Space) : Type 0 where
  pub left : (at : ℕ) → Left P l s t at
  pub address : (at : ℕ) → t.address at ≡ s.address at
  pub pool : (region : ℕ) → region < l.pool → SameRegion s t region
  pub moves : (m : Carried) (j : MoveJob) → job_of m ≡ Some j → (s.state j.to ≡ Absent → t.state j.to ≡ Absent) → IsMove P c s m j → IsMove P c t m j

module _ {R W E M : Type 0} (kit : Kit R W E M) where
  -- The mover is pass m, or the collector with 0; the space goes from s to t, and the notices from n to o.
  pub record Beside (l : Sizes) (c : Cycle) (m : ℕ) (s t : Space) (n o : Notices) : Type 0 where
    pub seen : SeenBy kit.protocol c s t
    pub acks : (pass : ℕ) → pass ≢ m → o.ack pass ≡ n.ack pass
    pub roots : (pass reg : ℕ) → pass ≢ m → o.root pass reg ≡ n.root pass reg
    pub phase : o.phase ≡ n.phase
    pub mark : o.mark ≡ n.mark
    pub regions : (pass region : ℕ) → IsPass l pass → pass ≢ m → IsOwn l pass region → SameRegion s t region
    pub history : Grows m s.history t.history
