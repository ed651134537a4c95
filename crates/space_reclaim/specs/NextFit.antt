-- What one more object adds to the regions that objects need.
use Rattle.std.specs.Prelude.{◌≡◌, ℕ, ◌+◌, Bool, List, [], ◌∷◌, ◌++◌, false, if◌then◌else◌}
use Rattle.std.proofs.Common.{ap, arith}
use Rattle.heap_words.specs.declared.limits.TheConstants.{REGION_WORDS}
use Rattle.heap_words.specs.Packing.{fits_after, used_after, begun_by, begun_by_all, packing}

-- the used words of the region in which the last of objects of these lens comes to lie, laid one after another in order from after the used words of a region
abbrev pub used_after_all : ℕ → List ℕ → ℕ
used_after_all used [] = used
used_after_all used (n ∷ rest) = used_after_all (used_after used n) rest

begun_by_more : (used : ℕ) (lens : List ℕ) (n : ℕ) → begun_by_all used (lens ++ (n ∷ [])) ≡ begun_by_all used lens + begun_by (used_after_all used lens) n
begun_by_more used [] n = omega arith
begun_by_more used (len ∷ rest) n = let more = begun_by_more (used_after used len) rest n in omega arith

-- an object that does not fit after the last one begins a region
pub packing_grows : (lens : List ℕ) (n : ℕ) → fits_after (used_after_all REGION_WORDS lens) n ≡ false → packing (lens ++ (n ∷ [])) ≡ packing lens + 1
packing_grows lens n full =
    let more = begun_by_more REGION_WORDS lens n in
    let one : begun_by (used_after_all REGION_WORDS lens) n ≡ 1 = ap (λ (fits : Bool). if fits then 0 else 1) full in
    omega arith
