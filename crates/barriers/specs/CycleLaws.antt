-- What a cycle asks of a copier, beside the laws of its table.
use Rattle.std.specs.Prelude.{◌≡◌, ◌≢◌, ℕ, ◌⊎◌, Bool, true, false, Some, None}
use Rattle.heap_words.specs.declared.field_word.FieldWord.{FieldWord}
use Rattle.object_headers.specs.declared.change.Kind.{Kind}
use Rattle.object_headers.specs.declared.change.Kind.TheVariants as kinds
use Rattle.object_headers.specs.Changes.{is_stopless, is_clover, does_tag, does_move}
use Rattle.wide_objects.specs.Statuses.{InOriginal}
use Rattle.space_reclaim.specs.declared.move_job.MoveJob.{MoveJob}
use Rattle.barriers.specs.States.{State, Plain, Kept, Tagged}
use Rattle.barriers.specs.Stances.{Stance, Free}
use Rattle.barriers.specs.Spaces.{Here, is_mark}
use Rattle.barriers.specs.Cycles.{Told, Everybody, Cycle, Side, Announce, Reach, Draw, Clears, Lates, IsSet, Handshaken}
use Rattle.barriers.specs.Knowns.{Known, Finds, puts}
use Rattle.barriers.specs.Events.{Keep, Tag, Unkeep, IsStill, IsWide}
use Rattle.barriers.specs.Moves.{Carried, Looks, Points, Seals, Starts, Forwards, Asks, Widens, Finishes, Marks}
use Rattle.barriers.specs.MoveSteps.{first_of, forwards_from}
use Rattle.barriers.specs.Protocols.{Protocol, TargetIs}

pub record CycleLaws (P : Protocol) : Type 0 where
  -- what it owes to a pass is what the handshake says
  pub fits_by : (c : Cycle) (side : Side) → Handshaken c side → P.Fits c side
  -- before a mark is drawn, and with no search that ended clear, its cycle is right
  pub unmarked : (c : Cycle) → c.mark ≡ None → c.clear ≡ false → P.Right c
  -- announcements are steps that its cycle may take
  pub announce : (p : Stance) → P.Phases (Announce p)
  pub reach : (t : Told) → P.Phases (Reach t)
  pub lates : (b : Bool) → P.Phases (Lates b)
  pub unclear : (c : Cycle) → P.Right c → c.clear ≡ true → P.Phases (Clears false)
  -- and so is the release's step from Kept to Plain
  pub unkeep : P.Makes Unkeep
  -- the wide words of what is not moved are in the original
  pub narrow : (c : Cycle) (b f : ℕ) (x : Here) (w : FieldWord) → P.Shape c b f x w → IsStill x.state → x.status ≡ InOriginal

-- ---- moves

abbrev pub IsTaggedOrKept : State → Type 0
IsTaggedOrKept Tagged = Unit {0}
IsTaggedOrKept Kept = Unit {0}
IsTaggedOrKept _ = ⊥

-- an object is ready to be moved: all have acknowledged the last Copy word, and it was tagged, or a search for the mark ended clear
abbrev pub IsReady : Kind → Cycle → Here → Type 0
IsReady kinds.Stopless c x = IsTaggedOrKept x.state × (c.told ≡ Everybody)
IsReady kinds.Chicken c x = IsTaggedOrKept x.state × (c.told ≡ Everybody)
IsReady kinds.Clover c x = (x.state ≡ Plain) × (c.told ≡ Everybody) × (c.clear ≡ true) × IsSet c.mark
IsReady kinds.AtRest c x = Unit {0}

-- where objects are copied through wide objects, a job has one
abbrev pub HasWide : Kind → MoveJob → Type 0
HasWide kinds.Stopless j = j.wide ≢ 0
HasWide kind j = Unit {0}

-- the mover is at a wide object, or about to seal the original for it
abbrev pub IsAtWide : Carried → Type 0
IsAtWide (Points j) = Unit {0}
IsAtWide (Seals j) = Unit {0}
IsAtWide (Asks j f) = Unit {0}
IsAtWide (Widens j f w) = Unit {0}
IsAtWide (Finishes j f w) = Unit {0}
IsAtWide _ = ⊥

-- What a cycle asks of the moves of a copier of this kind.
pub record MovingLaws (kind : Kind) (P : Protocol) : Type 0 where
  -- how a move begins
  pub begins : (j : MoveJob) → P.move_begins j ≡ first_of kind j
  pub ready : (c : Cycle) (j : MoveJob) (x : Here) → HasWide kind j → IsReady kind c x → P.MoveHead c (P.move_begins j) x
  -- what the collector does before: tags, or the draw of a mark and a search that ends clear
  pub tags : does_tag kind ≡ true → P.Makes Tag
  -- and only where objects are tagged is a tag Kept
  pub keeps : P.Makes Keep → does_tag kind ≡ true
  pub draws : is_clover kind ≡ true → (m : FieldWord) → P.Phases (Draw m)
  pub clears : is_clover kind ≡ true → P.Phases (Clears true)
  -- where marks are sought nothing is moved through a wide object, and while Free is not announced a call never writes its pass's mark
  pub narrows : is_clover kind ≡ true → (c : Cycle) (b f : ℕ) (x : Here) (w : FieldWord) → P.Shape c b f x w → IsWide x.state → ⊥
  pub unwritten : is_clover kind ≡ true → (c : Cycle) (side : Side) (x : Here) (k : Known) (found : Finds) (w : FieldWord) → c.phase ≢ Free → P.Own c side x k → puts k found ≡ Some w → is_mark side.own w ≡ false
  -- a mover that moves does more than to look
  pub looks : does_move kind ≡ true → (c : Cycle) (j : MoveJob) (x : Here) → P.MoveHead c (Looks j) x → ⊥
  -- who has which steps; and in which state the header is that the mover exchanges, where its targets are the job's
  pub wides : (c : Cycle) (m : Carried) (x : Here) → IsAtWide m → P.MoveHead c m x → is_stopless kind ≡ true
  pub starts : (c : Cycle) (j : MoveJob) (x : Here) → P.MoveHead c (Starts j) x → (is_clover kind ≡ true) × (x.state ≡ Plain)
  pub marks : (c : Cycle) (j : MoveJob) (f : ℕ) (w : FieldWord) (x : Here) → P.MoveHead c (Marks j f w) x → IsSet c.mark
  pub forwards : (c : Cycle) (j : MoveJob) (x : Here) → x.to ≡ j.to → x.wide ≡ j.wide → TargetIs x x.state → P.MoveHead c (Forwards j) x → (does_move kind ≡ true) × ((x.state ≡ forwards_from kind j) ⊎ (x.state ≡ Kept))
