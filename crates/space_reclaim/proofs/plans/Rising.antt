-- Lists that rise.
use Rattle.std.proofs.Common.{◌≡◌, ℕ, ◌+◌, ◌<◌, ◌≤◌, List, [], ◌∷◌, ◌++◌, length, take, drop, suc, refl, arith, length-drop}
use Rattle.std.specs.List.{All, AllPairs, Any}
use Rattle.std.proofs.lemmas.List.{get_or-take, get_or-drop, length-take-le}
use Rattle.std.proofs.lemmas.List.Elements.{All-head, All-tail, All-append, All-weaker}
use Rattle.std.proofs.lemmas.List.Kept.{AllPairs-cons}

-- the first stands so to each later one
pub pairs-head : {X : Type 0} (R : X → X → Type 0) (x : X) (xs : List X) → AllPairs R (x ∷ xs) → All (R x) xs
pairs-head R x xs h = λ k d below. h 0 (suc k) d (omega arith) (omega arith)

-- and the later ones to each other
pub pairs-tail : {X : Type 0} (R : X → X → Type 0) (x : X) (xs : List X) → AllPairs R (x ∷ xs) → AllPairs R xs
pairs-tail R x xs h = λ i j d apart below. h (suc i) (suc j) d (omega arith) (omega arith)

-- and so do those after the first n
pub pairs-drop : {X : Type 0} (R : X → X → Type 0) (n : ℕ) (xs : List X) → AllPairs R xs → AllPairs R (drop n xs)
pairs-drop R n xs h = λ i j d apart below.
    let within : n + j < length xs = omega (arith, below, length-drop n xs) in
    rw (get_or-drop n xs i d, get_or-drop n xs j d) (h (n + i) (n + j) d (omega arith) within)

-- what has numbers from low on, below high, that rise
pub rising_from : {X : Type 0} (n : X → ℕ) (xs : List X) (low high : ℕ) → low ≤ high → AllPairs (λ a b. n a < n b) xs → All (λ a. n a < high) xs → All (λ a. low ≤ n a) xs → length xs + low ≤ high
rising_from n [] low high between rises below above = omega arith
rising_from n (x ∷ xs) low high between rises below above =
    let here : low ≤ n x = All-head (λ a. low ≤ n a) x xs above in
    let room : n x < high = All-head (λ a. n a < high) x xs below in
    let later : All (λ a. n x + 1 ≤ n a) xs = All-weaker (λ a. n x < n a) (λ a. n x + 1 ≤ n a) (λ a h. omega arith) xs (pairs-head (λ a b. n a < n b) x xs rises) in
    let rest : length xs + (n x + 1) ≤ high = rising_from n xs (n x + 1) high (omega arith) (pairs-tail (λ a b. n a < n b) x xs rises) (All-tail (λ a. n a < high) x xs below) later in
    omega arith

-- what has numbers below a limit that rise is no more than it
pub length-rising : {X : Type 0} (n : X → ℕ) (xs : List X) (high : ℕ) → AllPairs (λ a b. n a < n b) xs → All (λ a. n a < high) xs → length xs ≤ high
length-rising n xs high rises below =
    omega (arith, rising_from n xs 0 high (omega arith) rises below (λ k d h. omega arith))

-- what holds of the first, or of a later one, holds of one
pub any-here : {X : Type 0} (P : X → Type 0) (x : X) (xs : List X) → P x → Any P (x ∷ xs)
any-here P x xs h = (0, x, omega arith, refl, h)

pub any-later : {X : Type 0} (P : X → Type 0) (x : X) (xs : List X) → Any P xs → Any P (x ∷ xs)
any-later P x xs h = (suc h.0, h.1, omega (arith, h.2), h.3, h.4)

-- those of one list and then those of another
pub pairs-append : {X : Type 0} (R : X → X → Type 0) (xs ys : List X) → AllPairs R xs → AllPairs R ys → All (λ x. All (R x) ys) xs → AllPairs R (xs ++ ys)
pairs-append R [] ys first second both = second
pairs-append R (x ∷ xs) ys first second both =
    AllPairs-cons R x (xs ++ ys) (All-append (R x) xs ys (pairs-head R x xs first) (All-head (λ x. All (R x) ys) x xs both))
    (pairs-append R xs ys (pairs-tail R x xs first) second (All-tail (λ x. All (R x) ys) x xs both))

-- the first n
pub pairs-take : {X : Type 0} (R : X → X → Type 0) (n : ℕ) (xs : List X) → n ≤ length xs → AllPairs R xs → AllPairs R (take n xs)
pairs-take R n xs few h = λ i j d before below.
    let long : length (take n xs) ≡ n = length-take-le n xs few in
    let late : j < n = omega (arith, below, long) in
    let early : i < n = omega (arith, late, before) in
    rw (get_or-take n xs i d early, get_or-take n xs j d late) (h i j d before (omega (arith, late, few)))
