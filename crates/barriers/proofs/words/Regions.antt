-- The arithmetic of regions, of which the proofs over objects use these lemmas alone.
use Rattle.std.proofs.Common.{◌≡◌, ◌≢◌, ℕ, ◌+◌, ◌<◌, ◌≤◌, ◌⊎◌, inl, inr, arith}
use Rattle.heap_words.specs.Layouts.{Sizes, IsRegion, region_at, first_word, wide_at}
use Rattle.barriers.specs.Rows.{region_of}

pub region_is : (l : Sizes) (a k : ℕ) → first_word l k ≤ a → a < first_word l (k + 1) → region_of l a ≡ k
unfolding region_of
region_is l a k h g = omega (arith, h, g)

pub region_least : (l : Sizes) (a : ℕ) → first_word l 0 ≤ a → first_word l (region_of l a) ≤ a
unfolding region_of
region_least l a h = omega (arith, h)

pub region_most : (l : Sizes) (a : ℕ) → a < first_word l (region_of l a + 1)
unfolding region_of
region_most l a = omega arith

pub first_next : (l : Sizes) (k : ℕ) → first_word l (k + 1) ≡ first_word l k + 64
first_next l k = omega arith

pub first_up : (l : Sizes) (j k : ℕ) → j < k → first_word l j + 64 ≤ first_word l k
first_up l j k lt = omega (arith, lt)

-- the regions lie between their words and the wide area
pub region_below : (l : Sizes) (k : ℕ) → IsRegion l k → region_at l k < first_word l 0
region_below l k h = omega (arith, h)

pub region_ends : (l : Sizes) (k : ℕ) → IsRegion l k → first_word l k + 64 ≤ wide_at l
region_ends l k h = omega (arith, h)

pub region_apart : (l : Sizes) (j k : ℕ) → j ≢ k → region_at l j ≢ region_at l k
region_apart l j k n e = n (omega (arith, e))

pub less_or : (a b : ℕ) → (a < b) ⊎ ((a ≡ b) ⊎ (b < a))
less_or a b = grind arith

-- which of two regions comes first
pub region_before : (l : Sizes) (a k : ℕ) → first_word l 0 ≤ a → region_of l a ≢ k → a < first_word l (k + 1) → region_of l a < k
region_before l a k le n lt = elim (less_or (region_of l a) k) [
  | inl q ↦ q
  | inr q ↦ elim q [
    | inl y ↦ absurd (n y)
    | inr y ↦ absurd (let x = first_up l k (region_of l a) y in let z = first_next l k in let u = region_least l a le in omega (arith, x, z, u, lt))
  ]
]

pub region_after : (l : Sizes) (a k : ℕ) → region_of l a ≢ k → first_word l k ≤ a → k < region_of l a
region_after l a k n le = elim (less_or (region_of l a) k) [
  | inl q ↦ absurd (let x = first_up l (region_of l a) k q in let z = first_next l (region_of l a) in let u = region_most l a in omega (arith, x, z, u, le))
  | inr q ↦ elim q [ inl y ↦ absurd (n y) | inr y ↦ y ]
]
