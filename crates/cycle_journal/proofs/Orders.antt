-- Objects in rising birth number.
use Rattle.std.proofs.Common.{◌≡◌, ℕ, ◌<◌, ◌==◌, List, [], ◌∷◌, length, map, refl, ap, ◌∙◌, sym, subst, arith}
use Rattle.std.specs.List.{IsDistinct}
use Rattle.std.specs.List.Sorted.{IsPermutation, IsNonDecreasingBy, IsNonDecreasing, IsStrictlyIncreasing}
use Rattle.std.proofs.lemmas.Bool.Decides.{nat_tests}
use Rattle.std.proofs.lemmas.List.{get_or-map, length-map}
use Rattle.std.proofs.lemmas.List.Sorted.{IsPermutation-map}
use Rattle.std.proofs.lemmas.Map.Keys.{IsDistinct-IsPermutation, IsStrictlyIncreasing-from_distinct}
use Rattle.cycle_journal.specs.declared.leavings.ObjectLine.{ObjectLine}
use Rattle.cycle_journal.specs.LastHeaps.{Line, Found, line_at}
use Rattle.cycle_journal.specs.Lines.{lines_of}

-- numbers that do not fall along a list do not fall
mapped : {X : Type 0} (n : X → ℕ) (xs : List X) → IsNonDecreasingBy n xs → IsNonDecreasing (map n xs)
mapped n [] by i j d le inside = absurd (omega arith)
mapped n (x ∷ rest) by i j d le inside =
    let second : j < length (x ∷ rest) = simp length-map at inside in
    let first : i < length (x ∷ rest) = omega arith in
    rw (get_or-map n (x ∷ rest) i x d first, get_or-map n (x ∷ rest) j x d second) (by i j x le second)

flips : (x y : ℕ) → (x == y) ≡ (y == x)
flips x y = grind (arith, nat_tests)

births_of_lines : (lines : List ObjectLine) → map (λ (l : Line). l.birth) (lines_of lines) ≡ map (λ (o : ObjectLine). o.birth) lines
births_of_lines [] = refl
births_of_lines (o ∷ rest) = ap (λ (b : List ℕ). o.birth ∷ b) (births_of_lines rest)

births_of_found : (words : List ℕ) (found : List Found) → map (λ (l : Line). l.birth) (map (line_at words) found) ≡ map (λ (f : Found). f.header.birth) found
births_of_found words [] = refl
births_of_found words (f ∷ rest) = ap (λ (b : List ℕ). f.header.birth ∷ b) (births_of_found words rest)

-- objects that are sorted by their birth numbers, of which each is there once, rise
pub rises : (words : List ℕ) (found : List Found) (lines sorted : List ObjectLine) → lines_of lines ≡ map (line_at words) found → IsPermutation lines sorted → IsNonDecreasingBy (λ (o : ObjectLine). o.birth) sorted → IsDistinct (λ b c. b == c) (map (λ (f : Found). f.header.birth) found) → IsStrictlyIncreasing (map (λ (o : ObjectLine). o.birth) sorted)
rises words found lines sorted are moved sorted_is once =
    let births : map (λ (f : Found). f.header.birth) found ≡ map (λ (o : ObjectLine). o.birth) lines =
    sym (births_of_found words found) ∙ (ap (map (λ (l : Line). l.birth)) (sym are) ∙ births_of_lines lines) in
    let distinct : IsDistinct (λ b c. b == c) (map (λ (o : ObjectLine). o.birth) lines) = subst (IsDistinct (λ b c. b == c)) births once in
    IsStrictlyIncreasing-from_distinct (map (λ (o : ObjectLine). o.birth) sorted) (mapped (λ (o : ObjectLine). o.birth) sorted sorted_is)
    (IsDistinct-IsPermutation (λ b c. b == c) flips (map (λ (o : ObjectLine). o.birth) lines) (map (λ (o : ObjectLine). o.birth) sorted) (IsPermutation-map (λ (o : ObjectLine). o.birth) lines sorted moved) distinct)
