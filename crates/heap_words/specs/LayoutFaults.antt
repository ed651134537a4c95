-- Which number of a layout is the first that is out of its range.
use Rattle.std.specs.Prelude.{ℕ, Bool, ◌||◌, nat_lt, Option, Some, None, if◌then◌else◌}
use Rattle.heap_words.specs.declared.limits.TheConstants.{MOST_PASSES, MOST_QUOTA, MOST_POOL, MOST_WIDE}
use Rattle.heap_words.specs.declared.layout.LayoutFault.{LayoutFault}
use Rattle.heap_words.specs.declared.layout.LayoutFault.TheVariants.{Passes, Quota, Pool, Wide}
use Rattle.heap_words.specs.Layouts.{Sizes}

-- a number below the lowest or above the highest that is allowed
abbrev pub is_outside : ℕ → ℕ → ℕ → Bool
is_outside lowest highest n = nat_lt n lowest || nat_lt highest n

-- the passes, the quota and the pool are at least 1, no number is above its limit, and the first that is not so is the fault
abbrev pub first_fault : Sizes → Option LayoutFault
first_fault l =
    if is_outside 1 MOST_PASSES l.passes then Some Passes
    else (if is_outside 1 MOST_QUOTA l.quota then Some Quota
    else (if is_outside 1 MOST_POOL l.pool then Some Pool
    else (if is_outside 0 MOST_WIDE l.wide then Some Wide
    else None)))
