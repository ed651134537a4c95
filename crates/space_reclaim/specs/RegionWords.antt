-- Region words: what a region is used for, and by which pass, in one word.
use Rattle.std.specs.Prelude.{◌≢◌, ℕ, ◌+◌, ◌*◌, ◌/◌, ◌%◌, ◌^◌, ◌<◌, ◌⊎◌, ⊤, ◌&&◌, ◌==◌, Option, Some, None, unwrap_or, if◌then◌else◌}
use Rattle.space_reclaim.specs.declared.region_word.RegionWord.{RegionWord}
use Rattle.space_reclaim.specs.declared.region_word.RegionWord.TheVariants.{Free, Taken, Filled, Source, Target}

-- the pass of Taken is below 32
abbrev pub IsRegionWord : RegionWord → Type 0
IsRegionWord Free = ⊤
IsRegionWord (Taken pass) = pass < 32
IsRegionWord Filled = ⊤
IsRegionWord Source = ⊤
IsRegionWord Target = ⊤

-- Free 0, Taken 1, Filled 2, Source 3, Target 4 in bits 0 to 2, and the pass of Taken in bits 3 to 7
unfoldable pub word_of_region : RegionWord → ℕ
word_of_region Free = 0
word_of_region (Taken pass) = 1 + 2 ^ 3 * pass
word_of_region Filled = 2
word_of_region Source = 3
word_of_region Target = 4

-- bits 0 to 2
abbrev pub use_bits : ℕ → ℕ
use_bits word = word % 2 ^ 3

-- bits 3 to 7
abbrev pub pass_bits : ℕ → ℕ
pass_bits word = word / 2 ^ 3 % 2 ^ 5

-- the bits from 8 on
abbrev pub bits_above : ℕ → ℕ
bits_above word = word / 2 ^ 8

-- no region word: bits 0 to 2 are above 4, a bit from 8 on is set, or one of bits 3 to 7 is set and bits 0 to 2 are not Taken (1)
abbrev pub HoldsNoRegion : ℕ → Type 0
HoldsNoRegion word = (4 < use_bits word) ⊎ ((bits_above word ≢ 0) ⊎ ((pass_bits word ≢ 0) × (use_bits word ≢ 1)))

-- what a word says of a region, if it is the word of one
unfoldable pub region_word_of : ℕ → Option RegionWord
region_word_of word =
    if word == 0 then Some Free
    else (if word == 2 then Some Filled
    else (if word == 3 then Some Source
    else (if word == 4 then Some Target
    else (if use_bits word == 1 && bits_above word == 0 then Some (Taken (pass_bits word))
    else None))))

-- the same as a value alone, for proofs about words that are known to be those of regions: Filled where a word is that of none
unfoldable pub region_word_at : ℕ → RegionWord
region_word_at word = unwrap_or (region_word_of word) Filled
