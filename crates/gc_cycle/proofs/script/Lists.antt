-- Facts on lists, registers and counts that turns share.
use Rattle.std.proofs.Common.{◌≡◌, ◌≢◌, ℕ, zero, suc, ◌+◌, ◌-◌, ◌<◌, ◌≤◌, List, [], ◌∷◌, length, get_or, set, drop, take, map, Option, Some, refl, ap, ◌∙◌, subst, arith, get_or-set_same, get_or-set_other}
use Rattle.std.specs.Prelude.{slice_get, sum_by}
use Rattle.std.specs.List.{All}
use Rattle.std.proofs.lemmas.List.Sums.{sum_by-cons}
use Rattle.heap_words.specs.declared.field_word.FieldWord.{FieldWord}
use Rattle.heap_words.specs.declared.field_word.FieldWord.TheVariants.{Num}
use Rattle.heap_history.specs.declared.call.Value.TheVariants as values
use Rattle.handshakes.specs.Polling.{held_in}
use Rattle.barriers.specs.Values.{value_of}

-- ---- places

get_or-mapped : {X Y : Type 0} (f : X → Y) (xs : List X) (i : ℕ) (d : X) → get_or (map f xs) i (f d) ≡ f (get_or xs i d)
get_or-mapped f [] i d = refl
get_or-mapped f (x ∷ xs) zero d = refl
get_or-mapped f (x ∷ xs) (suc i) d = get_or-mapped f xs i d

pub below_of_get : {X : Type 0} (xs : List X) (i : ℕ) (x : X) → slice_get xs i ≡ Some x → i < length xs
below_of_get [] i x e = absurd cc
below_of_get (y ∷ xs) zero x e = omega arith
below_of_get (y ∷ xs) (suc i) x e = let h = below_of_get xs i x e in omega (arith, h)

get_or_of_get : {X : Type 0} (xs : List X) (i : ℕ) (x d : X) → slice_get xs i ≡ Some x → get_or xs i d ≡ x
get_or_of_get [] i x d e = absurd cc
get_or_of_get (y ∷ xs) zero x d e = cc
get_or_of_get (y ∷ xs) (suc i) x d e = get_or_of_get xs i x d e

pub All-slice_get : {X : Type 0} (P : X → Type 0) (xs : List X) (i : ℕ) (x : X) → All P xs → slice_get xs i ≡ Some x → P x
All-slice_get P xs i x all e = subst P (get_or_of_get xs i x x e) (all i x (below_of_get xs i x e))

sum_by-drop_suc : {X : Type 0} (f : X → ℕ) (xs : List X) (i : ℕ) (x : X) → slice_get xs i ≡ Some x → sum_by f (drop i xs) ≡ f x + sum_by f (drop (suc i) xs)
sum_by-drop_suc f [] i x e = absurd cc
sum_by-drop_suc f (y ∷ xs) zero x e = let h : y ≡ x = cc in sum_by-cons f y xs ∙ ap (λ z. f z + sum_by f xs) h
sum_by-drop_suc f (y ∷ xs) (suc i) x e = sum_by-drop_suc f xs i x e

-- what is left after so many, with the next one
pub sum_by-drop : {X : Type 0} (f : X → ℕ) (xs : List X) (i : ℕ) (x : X) → slice_get xs i ≡ Some x → sum_by f (drop i xs) ≡ f x + sum_by f (drop (i + 1) xs)
sum_by-drop f xs i x e = let same : i + 1 ≡ suc i = omega arith in rw same (sum_by-drop_suc f xs i x e)

-- a place where something is, and one where nothing is any more
pub get_below : {X : Type 0} (xs : List X) (i : ℕ) → i < length xs → (x : X) × (slice_get xs i ≡ Some x)
get_below [] i h = absurd (omega arith)
get_below (y ∷ xs) zero h = (y, refl)
get_below (y ∷ xs) (suc i) h = get_below xs i (omega arith)

pub get_past : {X : Type 0} (xs : List X) (i : ℕ) → length xs ≤ i → slice_get xs i ≡ Option.None
get_past [] i h = refl
get_past (y ∷ xs) zero h = absurd (omega arith)
get_past (y ∷ xs) (suc i) h = get_past xs i (omega arith)

-- places that count from 1
pub set_here : {X : Type 0} (xs : List X) (p : ℕ) (x d : X) → 1 ≤ p → p ≤ length xs → get_or (set xs (p - 1) x) (p - 1) d ≡ x
set_here xs p x d least most = get_or-set_same xs (p - 1) x d (omega (arith, least, most))

pub set_there : {X : Type 0} (xs : List X) (p q : ℕ) (x d : X) → 1 ≤ p → 1 ≤ q → q ≢ p → get_or (set xs (p - 1) x) (q - 1) d ≡ get_or xs (q - 1) d
set_there xs p q x d least other apart = get_or-set_other xs (p - 1) (q - 1) x d (λ e. apart (omega (arith, least, other, e)))

-- a place among those of all lists is below their count
pub before_below : {X : Type 0} (lists : List (List X)) (i k : ℕ) → k < length (get_or lists i []) → sum_by length (take i lists) + k < sum_by length lists
before_below [] i k h = absurd (omega arith)
before_below (x ∷ lists) zero k h = omega (arith, sum_by-cons length x lists)
before_below (x ∷ lists) (suc i) k h =
    let rest : sum_by length (take i lists) + k < sum_by length lists = before_below lists i k (omega arith) in
    omega (arith, sum_by-cons length x lists, sum_by-cons length x (take i lists), rest)

-- a list is no longer than all
pub one_below : {X : Type 0} (lists : List (List X)) (i : ℕ) → length (get_or lists i []) ≤ sum_by length lists
one_below [] i = omega arith
one_below (x ∷ lists) zero = omega (arith, sum_by-cons length x lists)
one_below (x ∷ lists) (suc i) = omega (arith, sum_by-cons length x lists, one_below lists i)

-- one list is longer by one
pub sum_by-set : {X : Type 0} (lists : List (List X)) (i : ℕ) (xs : List X) → i < length lists → length xs ≡ length (get_or lists i []) + 1 → sum_by length (set lists i xs) ≡ sum_by length lists + 1
sum_by-set [] i xs h more = absurd (omega arith)
sum_by-set (y ∷ lists) zero xs h more = omega (arith, sum_by-cons length y lists, sum_by-cons length xs lists, more)
sum_by-set (y ∷ lists) (suc i) xs h more =
    let rest : sum_by length (set lists i xs) ≡ sum_by length lists + 1 = sum_by-set lists i xs (omega arith) more in
    omega (arith, sum_by-cons length y lists, sum_by-cons length y (set lists i xs), rest)

-- ---- registers

pub held_value : (registers : List FieldWord) (r : ℕ) → get_or (map value_of registers) r (values.Num 0) ≡ value_of (held_in registers r)
held_value registers r = get_or-mapped value_of registers r (Num 0)
