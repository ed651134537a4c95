-- The places of the table, by what each is for.
use Rattle.std.specs.Prelude.{◌≡◌, ℕ, ◌+◌, ◌<◌, ⊤}
use Rattle.heap_words.specs.declared.limits.TheConstants.{REGISTERS, REGION_WORDS}
use Rattle.heap_words.specs.Layouts.{Sizes, IsPass, IsRegion, words_of, phase_at, mark_at, greys_at, ack_at, root_at, region_at, first_word, wide_at}

-- the three single words, the acknowledgement of a pass, the root word of a pass's register, the word of a region, the i-th word in a region, the i-th word of the wide area
pub data Place : Type 0 where
  Phase : Place
  Mark : Place
  Greys : Place
  Ack : ℕ → Place
  Root : ℕ → ℕ → Place
  RegionWord : ℕ → Place
  Word : ℕ → ℕ → Place
  WideWord : ℕ → Place

-- the places that a table has
abbrev pub IsPlace : Sizes → Place → Type 0
IsPlace l Phase = ⊤
IsPlace l Mark = ⊤
IsPlace l Greys = ⊤
IsPlace l (Ack pass) = IsPass l pass
IsPlace l (Root pass reg) = IsPass l pass × (reg < REGISTERS)
IsPlace l (RegionWord region) = IsRegion l region
IsPlace l (Word region i) = IsRegion l region × (i < REGION_WORDS)
IsPlace l (WideWord i) = i < l.wide

-- the address of a place
abbrev pub place_at : Sizes → Place → ℕ
place_at l Phase = phase_at
place_at l Mark = mark_at
place_at l Greys = greys_at
place_at l (Ack pass) = ack_at pass
place_at l (Root pass reg) = root_at l pass reg
place_at l (RegionWord region) = region_at l region
place_at l (Word region i) = first_word l region + i
place_at l (WideWord i) = wide_at l + i

-- every place lies below the number of words, and no two share a word
pub record HasPlacesApart (l : Sizes) : Type 0 where
  pub below : (p : Place) → IsPlace l p → place_at l p < words_of l
  pub apart : (p q : Place) → IsPlace l p → IsPlace l q → place_at l p ≡ place_at l q → p ≡ q
