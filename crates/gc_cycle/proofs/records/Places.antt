-- One element of a list in front of the others.
use Rattle.std.specs.Prelude.{◌≢◌, IsPermutation, slice_set}
use Rattle.std.proofs.Common.{◌≡◌, ℕ, zero, suc, ◌<◌, List, [], ◌∷◌, ◌++◌, length, map, get_or, refl, sym, subst, arith}
use Rattle.std.proofs.lemmas.List.Sorted.{IsPermutation-refl, IsPermutation-trans, IsPermutation-cons, IsPermutation-swap}

-- two lists that have the same elements in front of and after one of them
pub record OneApart {A B : Type 0} (f g : A → B) (xs : List A) (i : ℕ) (d x : A) (tail : List B) : Type 0 where
  pub others : List B
  pub before : IsPermutation (map f xs ++ tail) (f (get_or xs i d) ∷ others)
  pub after : IsPermutation (g x ∷ others) (map g (slice_set xs i x) ++ tail)

flips : {B : Type 0} → (a b : B) (xs : List B) → IsPermutation (a ∷ b ∷ xs) (b ∷ a ∷ xs)
flips a b xs = IsPermutation-swap (a ∷ b ∷ xs) (b ∷ a ∷ xs) 0 1 (omega arith) (omega arith) refl

same_map : {A B : Type 0} → (f g : A → B) (xs : List A) (d : A) → ((j : ℕ) → j < length xs → g (get_or xs j d) ≡ f (get_or xs j d)) → map g xs ≡ map f xs
same_map f g [] d same = refl
same_map f g (x ∷ xs) d same =
    let first : g x ≡ f x = same 0 (omega arith) in
    let rest : map g xs ≡ map f xs = same_map f g xs d (λ j within. same (suc j) (omega (arith, within))) in
    cc

-- an element is replaced, and the others are as they were
pub one_apart : {A B : Type 0} → (f g : A → B) (xs : List A) (i : ℕ) (d x : A) (tail : List B) → i < length xs → ((j : ℕ) → j < length xs → j ≢ i → g (get_or xs j d) ≡ f (get_or xs j d)) → OneApart f g xs i d x tail
one_apart f g [] i d x tail within same = absurd (omega (arith, within))
one_apart f g (y ∷ ys) zero d x tail within same =
    let rest : map g ys ≡ map f ys = same_map f g ys d (λ j below. same (suc j) (omega (arith, below)) (λ e. absurd (omega (arith, e)))) in
    record {
      others = map f ys ++ tail;
      before = IsPermutation-refl (f y ∷ map f ys ++ tail);
      after = subst (λ zs. IsPermutation (g x ∷ map f ys ++ tail) (g x ∷ zs ++ tail)) (sym rest) (IsPermutation-refl (g x ∷ map f ys ++ tail));
    }
one_apart {B = B} f g (y ∷ ys) (suc i) d x tail within same =
    let apart = one_apart f g ys i d x tail (omega (arith, within)) (λ j below other. same (suc j) (omega (arith, below)) (λ e. other (omega (arith, e)))) in
    let first : g y ≡ f y = same 0 (omega arith) (λ e. absurd (omega (arith, e))) in
    let z : B = f (get_or ys i d) in
    let after : List B = map g (slice_set ys i x) ++ tail in
    record {
      others = f y ∷ apart.others;
      before = IsPermutation-trans (f y ∷ map f ys ++ tail) (f y ∷ z ∷ apart.others) (z ∷ f y ∷ apart.others) (IsPermutation-cons (f y) (map f ys ++ tail) (z ∷ apart.others) apart.before) (flips (f y) z apart.others);
      after = subst (λ v. IsPermutation (g x ∷ f y ∷ apart.others) (v ∷ after)) (sym first)
          (IsPermutation-trans (g x ∷ f y ∷ apart.others) (f y ∷ g x ∷ apart.others) (f y ∷ after) (flips (g x) (f y) apart.others) (IsPermutation-cons (f y) (g x ∷ apart.others) after apart.after));
    }
