-- A function with one value put: the value there, and all others as they were.
use Rattle.std.proofs.Common.{◌≡◌, ◌≢◌, ℕ, ◌⊎◌, inl, inr, refl}
use Rattle.std.proofs.lemmas.Bool.Decides.{eqb_tells}
use Rattle.barriers.specs.Sets.{set, set2}

pub set_cases : {A : Type 0} (f : ℕ → A) (k j : ℕ) (x : A) → ((j ≡ k) × (set f k x j ≡ x)) ⊎ ((j ≢ k) × (set f k x j ≡ f j))
unfolding set
set_cases f k j x = elim (eqb_tells j k) [ inl w ↦ inl (w.1, rw w.0 refl) | inr w ↦ inr (w.1, rw w.0 refl) ]

pub set_here : {A : Type 0} (f : ℕ → A) (k : ℕ) (x : A) → set f k x k ≡ x
set_here f k x = elim (set_cases f k k x) [ inl w ↦ w.1 | inr w ↦ absurd (w.0 refl) ]

pub set_else : {A : Type 0} (f : ℕ → A) (k j : ℕ) (x : A) → j ≢ k → set f k x j ≡ f j
set_else f k j x ne = elim (set_cases f k j x) [ inl w ↦ absurd (ne w.0) | inr w ↦ w.1 ]

pub set2_cases : {A : Type 0} (f : ℕ → ℕ → A) (k i : ℕ) (x : A) (j g : ℕ) → ((j ≡ k) × (g ≡ i) × (set2 f k i x j g ≡ x)) ⊎ (((j ≡ k) × (g ≡ i) → ⊥) × (set2 f k i x j g ≡ f j g))
unfolding set2
set2_cases f k i x j g = elim (eqb_tells j k) [
  | inr w ↦ inr ((λ y. w.1 y.0), rw w.0 refl)
  | inl w ↦ elim (eqb_tells g i) [ inl v ↦ inl (w.1, v.1, rw (w.0, v.0) refl) | inr v ↦ inr ((λ y. v.1 y.1), rw (w.0, v.0) refl) ]
]
