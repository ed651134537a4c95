-- Sums over two lists, one below the other, and over images.
use Rattle.std.proofs.Common.{◌≡◌, ℕ, zero, suc, ◌+◌, ◌<◌, ◌≤◌, List, [], ◌∷◌, length, map, get_or, refl, arith}
use Rattle.std.specs.Prelude.{sum_by}
use Rattle.std.proofs.lemmas.List.Sums.{sum_by-cons}

-- at no place above
pub sum_by-le : {X Y : Type 0} (f : X → ℕ) (g : Y → ℕ) (d : X) (e : Y) (xs : List X) (ys : List Y) → length xs ≡ length ys
    → ((i : ℕ) → i < length ys → f (get_or xs i d) ≤ g (get_or ys i e)) → sum_by f xs ≤ sum_by g ys
sum_by-le f g d e [] [] lens below = omega arith
sum_by-le f g d e [] (y ∷ ys) lens below = absurd (omega arith)
sum_by-le f g d e (x ∷ xs) [] lens below = absurd (omega arith)
sum_by-le f g d e (x ∷ xs) (y ∷ ys) lens below =
    let first : f x ≤ g y = below 0 (omega arith) in
    let rest : sum_by f xs ≤ sum_by g ys = sum_by-le f g d e xs ys (omega arith) (λ i inside. below (suc i) (omega arith)) in
    omega (arith, sum_by-cons f x xs, sum_by-cons g y ys, first, rest)

-- at no place above, and at one below
pub sum_by-lt : {X Y : Type 0} (f : X → ℕ) (g : Y → ℕ) (d : X) (e : Y) (xs : List X) (ys : List Y) (place : ℕ) → length xs ≡ length ys
    → ((i : ℕ) → i < length ys → f (get_or xs i d) ≤ g (get_or ys i e)) → place < length ys → f (get_or xs place d) < g (get_or ys place e)
    → sum_by f xs < sum_by g ys
sum_by-lt f g d e [] [] place lens below within less = absurd (omega arith)
sum_by-lt f g d e [] (y ∷ ys) place lens below within less = absurd (omega arith)
sum_by-lt f g d e (x ∷ xs) [] place lens below within less = absurd (omega arith)
sum_by-lt f g d e (x ∷ xs) (y ∷ ys) zero lens below within less =
    let rest : sum_by f xs ≤ sum_by g ys = sum_by-le f g d e xs ys (omega arith) (λ i inside. below (suc i) (omega arith)) in
    omega (arith, sum_by-cons f x xs, sum_by-cons g y ys, less, rest)
sum_by-lt f g d e (x ∷ xs) (y ∷ ys) (suc place) lens below within less =
    let first : f x ≤ g y = below 0 (omega arith) in
    let rest : sum_by f xs < sum_by g ys = sum_by-lt f g d e xs ys place (omega arith) (λ i inside. below (suc i) (omega arith)) (omega arith) less in
    omega (arith, sum_by-cons f x xs, sum_by-cons g y ys, first, rest)

-- a sum over images
pub sum_by-map : {X Y : Type 0} (g : Y → ℕ) (f : X → Y) (xs : List X) → sum_by g (map f xs) ≡ sum_by (λ x. g (f x)) xs
sum_by-map g f [] = refl
sum_by-map {X} {Y} g f (x ∷ xs) =
    let left : sum_by g (f x ∷ map f xs) ≡ g (f x) + sum_by g (map f xs) = sum_by-cons g (f x) (map f xs) in
    let right : sum_by (λ (y : X). g (f y)) (x ∷ xs) ≡ g (f x) + sum_by (λ (y : X). g (f y)) xs = sum_by-cons (λ (y : X). g (f y)) x xs in
    let rest : sum_by g (map f xs) ≡ sum_by (λ (y : X). g (f y)) xs = sum_by-map g f xs in
    cc
