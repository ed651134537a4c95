-- What the step of a mover relies on: the words that are there, and what they say.
use Rattle.std.specs.Prelude.{◌≡◌, ◌≢◌, ℕ, ◌+◌, ◌<◌, ◌≤◌, ◌^◌, ◌⊎◌, true, Option, Some, None}
use Rattle.heap_words.specs.Layouts.{Sizes, IsRegion, first_word, wide_at}
use Rattle.heap_words.specs.declared.field_word.FieldWord.{FieldWord}
use Rattle.heap_words.specs.FieldWords.{IsFieldWord}
use Rattle.object_headers.specs.declared.change.Kind.{Kind}
use Rattle.object_headers.specs.Changes.{is_stopless, is_clover, does_move}
use Rattle.wide_objects.specs.Statuses.{IsStatus, word_of_status}
use Rattle.space_reclaim.specs.declared.move_job.MoveJob.{MoveJob}
use Rattle.space_reclaim.specs.declared.region_word.RegionWord.TheVariants as regions
use Rattle.barriers.specs.States.{State, Plain, Kept, Underway, IsHome}
use Rattle.barriers.specs.Spaces.{Space}
use Rattle.barriers.specs.Rows.{region_of}
use Rattle.barriers.specs.Says.{head_word}
use Rattle.barriers.specs.Moves.{Carried, Looks, Lays, Seals, Starts, Forwards, Marks, IsAtField, job_of, field_of}
use Rattle.barriers.specs.MoveSteps.{forwards_from}
use Rattle.barriers.specs.CycleLaws.{IsAtWide}

-- a wide object for the original, and the words there say what the space says of it; it lies apart from those of other objects
pub record IsWideReady (l : Sizes) (memory : ℕ → ℕ) (s : Space) (j : MoveJob) : Type 0 where
  pub address : memory j.wide ≡ s.address j.from
  pub address_fits : s.address j.from < 2 ^ 20
  pub status : (f : ℕ) → f < j.len → memory (j.wide + 1 + f) ≡ word_of_status (s.status j.from f)
  pub status_fits : (f : ℕ) → f < j.len → IsStatus (s.status j.from f)
  pub inside : (wide_at l ≤ j.wide) × (j.wide + j.len < wide_at l + l.wide)
  pub apart : (a : ℕ) → s.wide a ≢ 0 → a ≢ j.from → (j.wide + j.len < s.wide a) ⊎ (s.wide a + s.len a < j.wide)

-- there is room for the copy after the objects of its region, and the wide object is ready if there is to be one
pub record CanLay (l : Sizes) (memory : ℕ → ℕ) (s : Space) (j : MoveJob) : Type 0 where
  pub region : IsRegion l (region_of l j.to)
  pub taken : s.region (region_of l j.to) ≢ regions.Free
  pub last : s.ends (region_of l j.to) ≡ j.to
  pub room : j.to + 1 + j.len ≤ first_word l (region_of l j.to) + 64
  pub wide : j.wide ≢ 0 → IsWideReady l memory s j

-- a copy under way, of the same colour
pub record IsUnderway (s : Space) (j : MoveJob) : Type 0 where
  pub state : s.state j.to ≡ Underway
  pub colour : s.colour j.to ≡ s.colour j.from
  pub len : s.len j.to ≡ j.len
  pub birth : s.birth j.to ≡ j.birth
  pub to : s.to j.from ≡ j.to

-- the copy, which is not there before its header is stored
abbrev pub HasCopy : Sizes → (ℕ → ℕ) → Space → Carried → MoveJob → Type 0
HasCopy l memory s (Looks j) k = Unit {0}
HasCopy l memory s (Lays j) k = CanLay l memory s k
HasCopy l memory s m k = IsUnderway s k

-- the original's header is in this state, where the mover of a copier of this kind exchanges it
abbrev pub HasState : Kind → State → Carried → Type 0
HasState kind x (Seals j) = is_stopless kind ≡ true
HasState kind x (Starts j) = (is_clover kind ≡ true) × (x ≡ Plain)
HasState kind x (Forwards j) = (does_move kind ≡ true) × ((x ≡ forwards_from kind j) ⊎ (x ≡ Kept))
HasState kind x m = Unit {0}

-- a mark that is put in place of a value is the word of a field
abbrev pub FitsMark : Option FieldWord → Type 0
FitsMark None = ⊥
FitsMark (Some w) = IsFieldWord w

abbrev pub HasMark : Option FieldWord → Carried → Type 0
HasMark mark (Marks j f w) = FitsMark mark
HasMark mark m = Unit {0}

-- A mover with this job, in a cycle with this mark: the original is there with the header that a walk found, and so are the copy, the wide
-- object and the field that the mover is at.
pub record IsMoverAt (l : Sizes) (kind : Kind) (mark : Option FieldWord) (memory : ℕ → ℕ) (s : Space) (m : Carried) (j : MoveJob) : Type 0 where
  pub live : IsHome (s.state j.from)
  pub len : s.len j.from ≡ j.len
  pub birth : s.birth j.from ≡ j.birth
  pub header : j.header ≡ head_word Plain (s.colour j.from) j.len j.birth
  pub state : HasState kind (s.state j.from) m
  pub copy : HasCopy l memory s m j
  pub wide : IsAtWide m → (s.wide j.from ≡ j.wide) × (j.wide ≢ 0)
  pub field : IsAtField m → field_of m < j.len
  pub marks : HasMark mark m

-- of each job that it has, which is one at most
abbrev pub StandsRight : Sizes → Kind → Option FieldWord → (ℕ → ℕ) → Space → Carried → Type 0
StandsRight l kind mark memory s m = (j : MoveJob) → job_of m ≡ Some j → IsMoverAt l kind mark memory s m j

-- ---- the rest of the wide area

-- a word of no wide object; and all such words of the wide area are 0
abbrev pub IsUnused : Space → ℕ → Type 0
IsUnused s x = (a : ℕ) → s.wide a ≢ 0 → (x < s.wide a) ⊎ (s.wide a + s.len a < x)

abbrev pub IsSpare : Sizes → (ℕ → ℕ) → Space → Type 0
IsSpare l memory s = (x : ℕ) → wide_at l ≤ x → x < wide_at l + l.wide → IsUnused s x → memory x ≡ 0

-- before the copy's header is stored neither address has a wide object
abbrev pub IsNarrow : Space → Carried → Type 0
IsNarrow s (Lays j) = (s.wide j.from ≡ 0) × (s.wide j.to ≡ 0)
IsNarrow s m = Unit {0}
