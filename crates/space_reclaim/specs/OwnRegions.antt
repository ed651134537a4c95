-- The regions of a pass's own, and the round that it makes of them.
use Rattle.std.specs.Prelude.{ℕ, ◌+◌, ◌*◌, ◌-◌, ◌≤◌, ◌&&◌, nat_le, nat_lt, Option, Some, None, if◌then◌else◌}
use Rattle.heap_words.specs.Layouts.{Sizes}

-- the first of them
abbrev pub first_own : Sizes → ℕ → ℕ
first_own l pass = l.pool + (pass - 1) * l.quota

-- the last of them
abbrev pub last_own : Sizes → ℕ → ℕ
last_own l pass = first_own l pass + (l.quota - 1)

-- a region of the pass's own
abbrev pub IsOwn : Sizes → ℕ → ℕ → Type 0
IsOwn l pass region = (first_own l pass ≤ region) × (region ≤ last_own l pass)

-- Where its round begins: after the region that it claimed last, or at the first where it claimed none of its own; after the last comes the first.
abbrev pub begins_at : Sizes → ℕ → Option ℕ → ℕ
begins_at l pass None = first_own l pass
begins_at l pass (Some region) =
    if nat_le (first_own l pass) region && nat_lt region (last_own l pass) then region + 1 else first_own l pass
