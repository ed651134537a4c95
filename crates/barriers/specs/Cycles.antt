-- The cycle as copiers see it, a pass's side of it, and the collector's steps that change no object.
use Rattle.std.specs.Prelude.{◌≡◌, ◌≢◌, ℕ, Bool, true, false, List, Option, Some, None}
use Rattle.heap_words.specs.declared.field_word.FieldWord.{FieldWord}
use Rattle.heap_words.specs.declared.field_word.FieldWord.TheVariants.{Num}
use Rattle.heap_history.specs.declared.call.Call.{Call}
use Rattle.barriers.specs.States.{State, Moving}
use Rattle.barriers.specs.Stances.{Stance, Search, Copy, Fix, Free}
use Rattle.barriers.specs.Spaces.{is_mark}

-- who has acknowledged this cycle's last Copy word, as the collector knows it
pub data Told : Type 0 where
  Nobody : Told
  Anybody : Told
  Everybody : Told

-- `mark` is the mark word, `clear` that a search ended clear and Free is not announced; `late` that the collector does not yet know
-- all passes at Fix, so that words of moved originals may still be read
pub record Cycle : Type 0 where
  pub late : Bool
  pub phase : Stance
  pub told : Told
  pub mark : Option FieldWord
  pub clear : Bool

-- a pass: its number, what it has acknowledged, its mark, and the changes that it has seen
pub record Side : Type 0 where
  pub pass : ℕ
  pub acked : Stance
  pub own : Option FieldWord
  pub seen : List Call

abbrev pub IsTold : Stance → Type 0
IsTold Copy = Unit {0}
IsTold Fix = Unit {0}
IsTold _ = ⊥

-- the header says that the object is moving
abbrev pub IsMoving : State → Type 0
IsMoving (Moving t) = Unit {0}
IsMoving _ = ⊥

-- ---- steps of the collector that change no object

pub data Phasing : Type 0 where
  Announce : (p : Stance) → Phasing
  Reach : (t : Told) → Phasing
  Draw : (m : FieldWord) → Phasing
  Clears : (b : Bool) → Phasing
  Lates : (b : Bool) → Phasing

abbrev pub phased : Phasing → Cycle → Cycle
phased (Announce p) c = record c { phase = p }
phased (Reach t) c = record c { told = t }
phased (Draw m) c = record c { mark = Some m }
phased (Clears b) c = record c { clear = b }
phased (Lates b) c = record c { late = b }

-- when, as each pass sees it (one that leaves Free has no mark; a search ends clear while none has acknowledged the last Copy word)
abbrev pub MayTurn : Cycle → Side → Phasing → Type 0
MayTurn c side (Announce p) = c.phase ≡ Free → side.own ≡ None
MayTurn c side (Clears true) = IsTold side.acked → ⊥
MayTurn c side _ = Unit {0}

abbrev pub IsSet : Option FieldWord → Type 0
IsSet None = ⊥
IsSet (Some m) = Unit {0}

-- as the cycle sees it
abbrev pub MayGo : Cycle → Phasing → Type 0
MayGo c (Announce p) = p ≡ Free → c.clear ≡ false
MayGo c (Draw m) = c.clear ≡ false
MayGo c (Clears true) = IsSet c.mark × (c.phase ≢ Free) × (is_mark c.mark (Num 0) ≡ false)
MayGo c _ = Unit {0}

-- and as each field sees it, of which o is the word at its place
abbrev pub MayPhase : Cycle → State → FieldWord → Phasing → Type 0
MayPhase c x o (Announce p) = p ≡ Free → c.clear ≡ false
MayPhase c x o (Reach t) = IsMoving x → ⊥
MayPhase c x o (Draw m) = (IsMoving x → ⊥) × (c.clear ≡ false)
MayPhase c x o (Clears true) = IsSet c.mark × (c.phase ≢ Free) × (is_mark c.mark o ≡ false)
MayPhase c x o (Clears false) = IsMoving x → ⊥
MayPhase c x o (Lates b) = Unit {0}

-- ---- what the handshake says of a running pass

abbrev pub ToldFits : Told → Stance → Type 0
ToldFits Nobody acked = IsTold acked → ⊥
ToldFits Anybody acked = Unit {0}
ToldFits Everybody acked = IsTold acked

-- with these acknowledged a pass may have a mark
abbrev pub has_mark : Stance → Bool
has_mark Search = true
has_mark Copy = true
has_mark Fix = true
has_mark _ = false

-- with the last Copy word acknowledged that is the mark word's value; in the search it may be one drawn before it
abbrev pub OwnFits : Stance → Option FieldWord → Option FieldWord → Type 0
OwnFits Search own mark = Unit {0}
OwnFits Copy own mark = own ≡ mark
OwnFits Fix own mark = own ≡ mark
OwnFits _ own mark = own ≡ None

-- after a search that ended clear every pass has the mark
pub record Handshaken (c : Cycle) (side : Side) : Type 0 where
  pub told : ToldFits c.told side.acked
  pub own : OwnFits side.acked side.own c.mark
  pub clear : c.clear ≡ true → (has_mark side.acked ≡ true) × (side.own ≡ c.mark)
