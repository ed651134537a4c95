-- Where objects lie: in each region they follow each other from its first word on.
use Rattle.std.specs.Prelude.{◌≡◌, ◌≢◌, ℕ, ◌+◌, ◌-◌, ◌/◌, ◌<◌, ◌≤◌, ◌⊎◌}
use Rattle.heap_words.specs.Layouts.{Sizes, IsRegion, first_word}
use Rattle.space_reclaim.specs.declared.region_word.RegionWord.{RegionWord}
use Rattle.space_reclaim.specs.declared.region_word.RegionWord.TheVariants as regions
use Rattle.barriers.specs.States.{State, Absent}

-- the region of a word
unfoldable pub region_of : Sizes → ℕ → ℕ
region_of l a = (a - first_word l 0) / 64

-- An object lies in one region, and after it comes the next one or the end; a region's first word is an object's or the end, and the end of
-- a Free one.
pub record Rows (l : Sizes) (state : ℕ → State) (len ends : ℕ → ℕ) (region : ℕ → RegionWord) : Type 0 where
  pub above : (a : ℕ) → state a ≢ Absent → first_word l 0 ≤ a
  pub inside : (a : ℕ) → state a ≢ Absent → (a + len a < ends (region_of l a)) × IsRegion l (region_of l a)
  pub apart : (a b : ℕ) → state a ≢ Absent → state b ≢ Absent → a < b → a + len a < b
  pub follow : (a : ℕ) → state a ≢ Absent → (a + 1 + len a ≡ ends (region_of l a)) ⊎ (state (a + 1 + len a) ≢ Absent)
  pub begin : (k : ℕ) → (ends k ≡ first_word l k) ⊎ (state (first_word l k) ≢ Absent)
  pub least : (k : ℕ) → first_word l k ≤ ends k
  pub most : (k : ℕ) → ends k ≤ first_word l k + 64
  pub empty : (k : ℕ) → region k ≡ regions.Free → ends k ≡ first_word l k
  pub short : (a : ℕ) → state a ≢ Absent → len a ≤ 30
