-- The field that a call is about.
use Rattle.std.specs.Prelude.{◌≡◌, ℕ, ◌+◌, ◌<◌, ◌≤◌, min}
use Rattle.std.proofs.Common.{arith}
use Rattle.heap_words.specs.declared.limits.TheConstants.{MOST_FIELDS}
use Rattle.barriers.specs.declared.spot.Spot.{Spot}

-- the field's word is after the header and the fields before it; no object has more fields than the most
abbrev pub spot_of : ℕ → ℕ → ℕ → Spot
spot_of birth at field = record { birth = birth; at = at; field = field; place = at + 1 + min field MOST_FIELDS }

-- where an object can have the field
pub place_of-spot_of : (birth at field len : ℕ) → field < len → len ≤ MOST_FIELDS → at + 1 + min field MOST_FIELDS ≡ at + 1 + field
place_of-spot_of birth at field len inside short = omega arith
