-- What the words of the table say: the notices before the regions, the region words, the objects, and the wide objects.
use Rattle.std.specs.Prelude.{◌≡◌, ◌≢◌, ℕ, ◌+◌, ◌<◌, ◌≤◌, ◌^◌, ◌⊎◌, true, [], ◌∷◌, Some, None}
use Rattle.heap_words.specs.Layouts.{Sizes, IsPass, IsRegion, phase_at, mark_at, ack_at, root_at, region_at, first_word, wide_at}
use Rattle.heap_words.specs.declared.field_word.FieldWord.{FieldWord}
use Rattle.heap_words.specs.declared.field_word.FieldWord.TheVariants.{Num}
use Rattle.heap_words.specs.FieldWords.{IsFieldWord, word_of}
use Rattle.object_headers.specs.declared.header.Colour.{Colour}
use Rattle.object_headers.specs.declared.header.Colour.TheVariants.{Even}
use Rattle.object_headers.specs.declared.header.Header.{Header}
use Rattle.object_headers.specs.declared.header.State.TheVariants as states
use Rattle.object_headers.specs.Headers.{IsHeader, word_of_header, absent}
use Rattle.wide_objects.specs.Statuses.{InOriginal, IsStatus, word_of_status}
use Rattle.space_reclaim.specs.declared.region_word.RegionWord.{RegionWord}
use Rattle.space_reclaim.specs.declared.region_word.RegionWord.TheVariants as regions
use Rattle.space_reclaim.specs.RegionWords.{IsRegionWord, word_of_region}
use Rattle.heap_history.specs.declared.call.Call.{Call}
use Rattle.barriers.specs.Spots as spots
use Rattle.barriers.specs.Sets.{set, set2}
use Rattle.barriers.specs.States.{State, Absent, Plain, Kept, Tagged, Wide, Moving, Underway, Forward, Dead, IsLive}
use Rattle.barriers.specs.Spaces.{Space}
use Rattle.barriers.specs.Knowns.{Task, Reads, Writes, Exchanges, Known, Swaps, Swaps_copy, Swaps_wide, Finds, Field_word, Wide_word, spot_of, task_of, has_field, head_of, copy_of, wide_of}
use Rattle.barriers.specs.Objects.{tagged_header}

-- ---- the parts

-- the phase word, the mark word, by pass its acknowledgement, and by pass and register a root word
pub record Notices : Type 0 where
  pub phase : ℕ
  pub mark : ℕ
  pub ack : ℕ → ℕ
  pub root : ℕ → ℕ → FieldWord

-- the header of an object; that of a copy under way says Plain
abbrev pub header_by : State → Colour → ℕ → ℕ → Header
header_by Absent c len birth = absent
header_by Plain c len birth = record { state = states.Plain; colour = c; len = len; birth = birth; target = 0 }
header_by Kept c len birth = record { state = states.Kept; colour = c; len = len; birth = birth; target = 0 }
header_by Tagged c len birth = record { state = states.Tagged; colour = c; len = len; birth = birth; target = 0 }
header_by (Wide wide) c len birth = record { state = states.Wide; colour = c; len = len; birth = birth; target = wide }
header_by (Moving to) c len birth = record { state = states.Moving; colour = c; len = len; birth = birth; target = to }
header_by Underway c len birth = record { state = states.Plain; colour = c; len = len; birth = birth; target = 0 }
header_by (Forward to) c len birth = record { state = states.Forward; colour = c; len = len; birth = birth; target = to }
header_by Dead c len birth = record { state = states.Dead; colour = c; len = len; birth = birth; target = 0 }

-- and its word
abbrev pub head_word : State → Colour → ℕ → ℕ → ℕ
head_word x c len birth = word_of_header (header_by x c len birth)

-- the header at an address
abbrev pub header_in : Space → ℕ → Header
header_in s a = header_by (s.state a) (s.colour a) (s.len a) (s.birth a)

-- an original or a copy: the words of its fields count
abbrev pub IsWritten : State → Type 0
IsWritten Absent = ⊥
IsWritten Dead = ⊥
IsWritten _ = Unit {0}

-- ---- what the words say

-- the words before the region words are the notices
pub record SayNotices (l : Sizes) (memory : ℕ → ℕ) (n : Notices) : Type 0 where
  pub phase : memory phase_at ≡ n.phase
  pub mark : memory mark_at ≡ n.mark
  pub ack : (pass : ℕ) → IsPass l pass → memory (ack_at pass) ≡ n.ack pass
  pub root : (pass reg : ℕ) → IsPass l pass → reg < 8 → memory (root_at l pass reg) ≡ word_of (n.root pass reg)
  pub root_fits : (pass reg : ℕ) → IsPass l pass → reg < 8 → IsFieldWord (n.root pass reg)

-- the region words are those of the uses of the regions
pub record SayRegions (l : Sizes) (memory : ℕ → ℕ) (region : ℕ → RegionWord) : Type 0 where
  pub word : (k : ℕ) → IsRegion l k → memory (region_at l k) ≡ word_of_region (region k)
  pub fits : (k : ℕ) → IsRegion l k → IsRegionWord (region k)

-- the headers, and the words of the fields
pub record SayObjects (memory : ℕ → ℕ) (s : Space) : Type 0 where
  pub header : (a : ℕ) → s.state a ≢ Absent → memory a ≡ word_of_header (header_in s a)
  pub header_fits : (a : ℕ) → s.state a ≢ Absent → IsHeader (header_in s a)
  pub word : (a f : ℕ) → IsWritten (s.state a) → f < s.len a → memory (a + 1 + f) ≡ word_of (s.word a f)
  pub word_fits : (a f : ℕ) → IsWritten (s.state a) → f < s.len a → IsFieldWord (s.word a f)

-- the words after the objects of a region are 0
abbrev pub IsClear : Sizes → (ℕ → ℕ) → (ℕ → ℕ) → Type 0
IsClear l memory ends = (k x : ℕ) → IsRegion l k → first_word l k ≤ x → x < first_word l k + 64 → ends k ≤ x → memory x ≡ 0

-- Wide objects, each of the object whose `wide` is not 0: the copy's address, and a status for each field. They lie apart in the wide area.
pub record SayWide (l : Sizes) (memory : ℕ → ℕ) (s : Space) : Type 0 where
  pub address : (a : ℕ) → s.wide a ≢ 0 → memory (s.wide a) ≡ s.address a
  pub address_fits : (a : ℕ) → s.wide a ≢ 0 → s.address a < 2 ^ 20
  pub status : (a f : ℕ) → s.wide a ≢ 0 → f < s.len a → memory (s.wide a + 1 + f) ≡ word_of_status (s.status a f)
  pub status_fits : (a f : ℕ) → s.wide a ≢ 0 → f < s.len a → IsStatus (s.status a f)
  pub inside : (a : ℕ) → s.wide a ≢ 0 → (wide_at l ≤ s.wide a) × (s.wide a + s.len a < wide_at l + l.wide)
  pub apart : (a b : ℕ) → s.wide a ≢ 0 → s.wide b ≢ 0 → a ≢ b → (s.wide a + s.len a < s.wide b) ⊎ (s.wide b + s.len b < s.wide a)

-- the words say what the space and the notices say
pub record Says (l : Sizes) (memory : ℕ → ℕ) (s : Space) (n : Notices) : Type 0 where
  pub notices : SayNotices l memory n
  pub regions : SayRegions l memory s.region
  pub objects : SayObjects memory s
  pub clear : IsClear l memory s.ends
  pub wide : SayWide l memory s

-- ---- changes

-- one notice, one region word
abbrev pub put_ack : Notices → ℕ → ℕ → Notices
put_ack n pass word = record n { ack = set n.ack pass word }

abbrev pub put_root : Notices → ℕ → ℕ → FieldWord → Notices
put_root n pass reg w = record n { root = set2 n.root pass reg w }

abbrev pub put_region : Space → ℕ → RegionWord → Space
put_region s k x = record s { region = set s.region k x }

-- a new object, all of whose fields are 0, begins where the objects of region k end
abbrev pub append : Space → ℕ → ℕ → ℕ → Colour → Call → Space
append s k len birth colour call = record s {
  state = set s.state (s.ends k) Plain;
  colour = set s.colour (s.ends k) colour;
  len = set s.len (s.ends k) len;
  birth = set s.birth (s.ends k) birth;
  word = set s.word (s.ends k) (λ f. Num 0);
  field = set s.field (s.ends k) (λ f. Num 0);
  wide = set s.wide (s.ends k) 0;
  status = set s.status (s.ends k) (λ f. InOriginal);
  seal = set s.seal (s.ends k) None;
  ends = set s.ends k (s.ends k + 1 + len);
  home = set s.home birth (s.ends k);
  history = call ∷ s.history;
}

-- there is room for a new object after those of region k
pub record CanAppend (l : Sizes) (s : Space) (k len birth : ℕ) : Type 0 where
  pub region : IsRegion l k
  pub taken : s.region k ≢ regions.Free
  pub short : len ≤ 30
  pub room : s.ends k + 1 + len ≤ first_word l k + 64
  pub birth_fits : (0 < birth) × (birth < 2 ^ 24)

-- an object that was Tagged is Kept
pub record IsKept (s t : Space) (a : ℕ) : Type 0 where
  pub was : s.state a ≡ Tagged
  pub is : header_in t a ≡ header_by Kept (s.colour a) (s.len a) (s.birth a)

-- ---- a call at a word

-- what its step relies on: the object is there with the field, and so are the copy and the wide object that it is at
pub record IsAtWord (s : Space) (k : Known) : Type 0 where
  pub live : IsLive (s.state (spot_of k).at)
  pub birth : s.birth (spot_of k).at ≡ (spot_of k).birth
  pub place : spot_of k ≡ spots.spot_of (spot_of k).birth (spot_of k).at (spot_of k).field
  pub inside : has_field k ≡ true → (spot_of k).field < s.len (spot_of k).at
  pub head : (h : Header) → head_of k ≡ Some h → h ≡ tagged_header s (spot_of k).at
  pub copy : (to : ℕ) → copy_of k ≡ Some to → (to ≡ s.to (spot_of k).at) × IsWritten (s.state to) × (s.len to ≡ s.len (spot_of k).at)
  pub wide : (w : ℕ) → wide_of k ≡ Some w → (w ≡ s.wide (spot_of k).at) × (w ≢ 0)

-- the word that it will write fits
abbrev pub FitsTask : Task → Type 0
FitsTask Reads = Unit {0}
FitsTask (Writes word) = IsFieldWord word
FitsTask (Exchanges expected word) = IsFieldWord word

-- it writes a word
abbrev pub IsChange : Task → Type 0
IsChange Reads = ⊥
IsChange t = Unit {0}

-- and the one from which it exchanges, which only changes do
abbrev pub FitsFrom : Known → Type 0
FitsFrom (Swaps s t x n) = IsFieldWord x × IsChange t
FitsFrom (Swaps_copy s t to x n) = IsFieldWord x × IsChange t
FitsFrom (Swaps_wide s t wide x n) = IsStatus x × IsChange t
FitsFrom k = Unit {0}

-- the words that it has fit words
pub record IsPacked (k : Known) : Type 0 where
  pub task : FitsTask (task_of k)
  pub from : FitsFrom k

-- the word that it finds fits
abbrev pub FitsFound : Finds → Type 0
FitsFound (Field_word w) = IsFieldWord w
FitsFound (Wide_word u) = IsStatus u
FitsFound found = Unit {0}

-- ---- the start

-- all words are 0 but that of region 0 and the header of the object that is there from the start
pub record IsOpening (l : Sizes) (memory : ℕ → ℕ) : Type 0 where
  pub region : memory (region_at l 0) ≡ word_of_region regions.Filled
  pub object : memory (first_word l 0) ≡ head_word Plain Even 8 1
  pub rest : (a : ℕ) → a ≢ region_at l 0 → a ≢ first_word l 0 → memory a ≡ 0

-- nothing is announced or acknowledged, and the root words are 0
abbrev pub opening_notices : Notices
opening_notices = record { phase = 0; mark = 0; ack = λ p. 0; root = λ p r. Num 0 }

-- only that object is there, and nothing has happened
abbrev pub opening_space : Sizes → Space
opening_space l = record {
  state = set (λ a. Absent) (first_word l 0) Plain;
  colour = λ a. Even;
  len = λ a. 8;
  birth = λ a. 1;
  word = λ a f. Num 0;
  field = λ a f. Num 0;
  to = λ a. 0;
  wide = λ a. 0;
  address = λ a. 0;
  status = λ a f. InOriginal;
  seal = λ a. None;
  region = set (λ k. regions.Free) 0 regions.Filled;
  ends = set (first_word l) 0 (first_word l 0 + 9);
  home = λ b. first_word l 0;
  history = [];
}
