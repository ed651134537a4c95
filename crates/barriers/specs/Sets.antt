-- Functions with one value put.
use Rattle.std.specs.Prelude.{ℕ, ◌==◌, ◌&&◌, if◌then◌else◌}

unfoldable pub set : {A : Type 0} → (ℕ → A) → ℕ → A → ℕ → A
set f k x j = if j == k then x else f j

unfoldable pub set2 : {A : Type 0} → (ℕ → ℕ → A) → ℕ → ℕ → A → ℕ → ℕ → A
set2 f k i x j g = if (j == k) && (g == i) then x else f j g
