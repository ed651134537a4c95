-- The areas of a table do not overlap, and all lie within it.
use Rattle.std.proofs.Common.{◌≡◌, ◌<◌, ◌≤◌, refl, ap, arith}
use Rattle.heap_words.specs.declared.limits.TheConstants.{MOST_REGIONS}
use Rattle.heap_words.specs.Layouts.{Sizes, IsLayout, regions_of, words_of}
use Rattle.heap_words.specs.Places.{Place, IsPlace, place_at}
use Rattle.heap_words.specs.Places.Place.{Phase, Mark, Greys, Ack, Root, RegionWord, Word, WideWord}

-- at most this many regions
pub regions_of-bound : (l : Sizes) → IsLayout l → regions_of l ≤ MOST_REGIONS
regions_of-bound l h = grind arith

-- at most 232,011 words
pub words_of-bound : (l : Sizes) → IsLayout l → words_of l ≤ 232011
words_of-bound l h = let regions : regions_of l ≤ MOST_REGIONS = regions_of-bound l h in omega arith

-- every place lies within the table
pub place-below : (l : Sizes) (p : Place) → IsPlace l p → place_at l p < words_of l
place-below l Phase h = omega arith
place-below l Mark h = omega arith
place-below l Greys h = omega arith
place-below l (Ack pass) h = omega arith
place-below l (Root pass reg) h = omega arith
place-below l (RegionWord region) h = omega arith
place-below l (Word region i) h = omega arith
place-below l (WideWord i) h = omega arith

-- no two places share a word: with equal addresses both lie in one area, and there the address tells the place
pub places-apart : (l : Sizes) (p q : Place) → IsPlace l p → IsPlace l q → place_at l p ≡ place_at l q → p ≡ q
places-apart l Phase Phase hp hq e = refl
places-apart l Mark Mark hp hq e = refl
places-apart l Greys Greys hp hq e = refl
places-apart l (Ack m) (Ack n) hp hq e = ap Ack (omega arith)
places-apart l (Root m r) (Root n s) hp hq e =
    let pass : m ≡ n = omega arith in
    let reg : r ≡ s = omega arith in
    cc
places-apart l (RegionWord k) (RegionWord j) hp hq e = ap RegionWord (omega arith)
places-apart l (Word k i) (Word j n) hp hq e =
    let region : k ≡ j = omega arith in
    let word : i ≡ n = omega arith in
    cc
places-apart l (WideWord i) (WideWord j) hp hq e = ap WideWord (omega arith)
places-apart l p q hp hq e = absurd (omega arith)
