-- The objects in memory, by address, and where the word of a field stands.
use Rattle.std.specs.Prelude.{◌≡◌, ℕ, Bool, true, false, if◌then◌else◌, List, Option, Some, None}
use Rattle.heap_words.specs.declared.field_word.FieldWord.{FieldWord}
use Rattle.heap_words.specs.declared.field_word.FieldWord.TheVariants.{Num}
use Rattle.object_headers.specs.declared.header.Colour.{Colour}
use Rattle.wide_objects.specs.Statuses.{Status, InOriginal, InWide, InCopy}
use Rattle.space_reclaim.specs.declared.region_word.RegionWord.{RegionWord}
use Rattle.heap_history.specs.declared.call.Call.{Call}
use Rattle.barriers.specs.States.{State, Wide, Moving, Forward, IsLive, same_word}

-- By the address of a header: what it says, and the words that follow it, of originals and copies alike. `field` is the word at the place
-- of a field of a home, wherever that is. By the address of an original: where its copy and its wide object are, what the wide object says,
-- and the history at its seal. By region: what it is used for, and where its objects end. By birth number: its home. And all changes so far.
pub record Space : Type 0 where
  pub state : ℕ → State
  pub colour : ℕ → Colour
  pub len : ℕ → ℕ
  pub birth : ℕ → ℕ
  pub word : ℕ → ℕ → FieldWord
  pub field : ℕ → ℕ → FieldWord
  pub to : ℕ → ℕ
  pub wide : ℕ → ℕ
  pub address : ℕ → ℕ
  pub status : ℕ → ℕ → Status
  pub seal : ℕ → Option (List Call)
  pub region : ℕ → RegionWord
  pub ends : ℕ → ℕ
  pub home : ℕ → ℕ
  pub history : List Call

-- a link holds: its object is there, or its copy is
abbrev pub Holds : Space → ℕ → ℕ → Type 0
Holds s birth at = (s.birth at ≡ birth) × IsLive (s.state at)

-- ---- one field of one object

-- all that anyone's facts read of it
pub record Here : Type 0 where
  pub state : State
  pub colour : Colour
  pub len : ℕ
  pub word : FieldWord
  pub status : Status
  pub to : ℕ
  pub wide : ℕ
  pub address : ℕ
  pub seal : Option (List Call)

abbrev pub here : Space → ℕ → ℕ → Here
here s at field = record {
  state = s.state at;
  colour = s.colour at;
  len = s.len at;
  word = s.word at field;
  status = s.status at field;
  to = s.to at;
  wide = s.wide at;
  address = s.address at;
  seal = s.seal at;
}

abbrev pub same_status : Status → Status → Bool
same_status InOriginal InOriginal = true
same_status (InWide v) (InWide w) = same_word v w
same_status (InCopy v) (InCopy w) = same_word v w
same_status _ _ = false

-- ---- the place of the field

-- in the original, in the wide object, or in the copy
pub data Zone : Type 0 where
  Original : Zone
  Between : Zone
  Copied : Zone

abbrev pub is_mark : Option FieldWord → FieldWord → Bool
is_mark None word = false
is_mark (Some mark) word = same_word word mark

abbrev pub status_zone : Status → Zone
status_zone InOriginal = Original
status_zone (InWide word) = Between
status_zone (InCopy word) = Copied

abbrev pub zone : Option FieldWord → State → FieldWord → Status → Zone
zone mark (Wide wide) word status = status_zone status
zone mark (Moving to) word status = if is_mark mark word then Copied else Original
zone mark (Forward to) word status = Copied
zone mark state word status = Original

-- the word that a wide word holds
abbrev pub held : Status → FieldWord
held InOriginal = Num 0
held (InWide word) = word
held (InCopy word) = word

abbrev pub pick : Zone → FieldWord → Status → FieldWord → FieldWord
pick Original word status copy = word
pick Between word status copy = held status
pick Copied word status copy = copy

-- the word at the place, where the copy has this one
abbrev pub place_word : Option FieldWord → Here → FieldWord → FieldWord
place_word mark x copy = pick (zone mark x.state x.word x.status) x.word x.status copy

abbrev pub copy_word : Space → ℕ → ℕ → FieldWord
copy_word s at field = s.word (s.to at) field
