-- How many regions objects need that are laid one after another.
use Rattle.std.specs.Prelude.{ℕ, ◌+◌, List, [], ◌∷◌, nat_le, Bool, if◌then◌else◌}
use Rattle.heap_words.specs.declared.limits.TheConstants.{REGION_WORDS}

-- whether an object of n fields, which takes n + 1 words, fits after the used words of a region
abbrev pub fits_after : ℕ → ℕ → Bool
fits_after used n = nat_le (used + n + 1) REGION_WORDS

-- the used words of the region in which it comes to lie: one that does not fit begins a new region
abbrev pub used_after : ℕ → ℕ → ℕ
used_after used n = if fits_after used n then used + n + 1 else n + 1

-- the regions that it begins
abbrev pub begun_by : ℕ → ℕ → ℕ
begun_by used n = if fits_after used n then 0 else 1

-- the regions that objects of these lens begin, laid one after another in order from after the used words of a region
abbrev pub begun_by_all : ℕ → List ℕ → ℕ
begun_by_all used [] = 0
begun_by_all used (n ∷ rest) = begun_by used n + begun_by_all (used_after used n) rest

-- the regions that objects of these lens need: the first begins one, as it does after a full region
abbrev pub packing : List ℕ → ℕ
packing lens = begun_by_all REGION_WORDS lens
