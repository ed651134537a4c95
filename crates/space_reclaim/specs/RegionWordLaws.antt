-- What packs unpacks, and no two region words share a word.
use Rattle.std.proofs.Common.{◌≡◌, ℕ, ◌+◌, ◌*◌, ◌/◌, ◌%◌, ◌^◌, ◌<◌, ◌↔◌, Some, refl, ap, sym, ◌∙◌, arith}
use Rattle.std.proofs.lemmas.Bool.Decides.{nat_tests}
use Rattle.space_reclaim.specs.declared.region_word.RegionWord.{RegionWord}
use Rattle.space_reclaim.specs.declared.region_word.RegionWord.TheVariants.{Free, Taken, Filled, Source, Target}
use Rattle.space_reclaim.specs.RegionWords.{IsRegionWord, word_of_region, region_word_of, region_word_at}

taken_again : (word pass : ℕ) → word ≡ 1 + 2 ^ 3 * pass → pass < 32 → region_word_of word ≡ Some (Taken pass)
unfolding region_word_of
taken_again word pass e h =
    let place : word / 2 ^ 3 % 2 ^ 5 ≡ pass = omega arith in
    grind (arith, nat_tests)

-- what packs unpacks
pub region_word_of-word_of_region : (r : RegionWord) → IsRegionWord r → region_word_of (word_of_region r) ≡ Some r
unfolding word_of_region region_word_of
region_word_of-word_of_region Free h = refl
region_word_of-word_of_region (Taken pass) h = taken_again _ pass refl h
region_word_of-word_of_region Filled h = refl
region_word_of-word_of_region Source h = refl
region_word_of-word_of_region Target h = refl

pub region_word_at-word_of_region : (r : RegionWord) → IsRegionWord r → region_word_at (word_of_region r) ≡ r
unfolding region_word_at
region_word_at-word_of_region r h = rw (region_word_of-word_of_region r h) refl

-- two region words with one word are one
pub word_of_region-injective : (r s : RegionWord) → IsRegionWord r → IsRegionWord s → word_of_region r ≡ word_of_region s → r ≡ s
word_of_region-injective r s hr hs e =
    sym (region_word_at-word_of_region r hr) ∙ (ap region_word_at e ∙ region_word_at-word_of_region s hs)
