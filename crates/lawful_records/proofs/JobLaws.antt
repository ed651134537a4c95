-- The regions of the first job are there, and what its plan is made of.
use Rattle.std.proofs.Common.{ℕ, ◌*◌, ◌≤◌, ◌<◌, arith}
use Rattle.std.proofs.Math.Nat.{mul-le-mul_right}
use Rattle.heap_words.specs.Layouts.{Sizes, IsLayout, IsRegion}

pub first_there : (l : Sizes) → IsLayout l → IsRegion l 0
first_there l fits = let own : 1 * l.quota ≤ l.passes * l.quota = mul-le-mul_right l.quota fits.passes.0 in omega (arith, own, fits.pool.0, fits.quota.0)

-- a region of the pool is a region
pub pool_there : (l : Sizes) (k : ℕ) → k < l.pool → IsRegion l k
pool_there l k low = omega (arith, low)
