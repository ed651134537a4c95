-- Where a header says that the word of a field is.
use Rattle.std.specs.Prelude.{ℕ, nat_lt, if◌then◌else◌}
use Rattle.object_headers.specs.declared.header.State.{State as HeaderState}
use Rattle.object_headers.specs.declared.header.State.TheVariants as states
use Rattle.object_headers.specs.Headers.{header_at, word_of_header}
use Rattle.barriers.specs.declared.spot.Spot.{Spot}
use Rattle.barriers.specs.Spots.{spot_of}
use Rattle.tagged_calls.specs.declared.location.Keep.{Keep}
use Rattle.tagged_calls.specs.declared.location.Location.{Location}
use Rattle.tagged_calls.specs.declared.location.Location.TheVariants as location

-- the header that this word is, and the same header in the state Kept
abbrev pub keep_of : ℕ → Keep
keep_of word = record { tagged = word; kept = word_of_header (record (header_at word) { state = states.Kept }) }

-- the same field of what has its header at this address
abbrev pub field_from : Spot → ℕ → Spot
field_from spot at = spot_of spot.birth at spot.field

-- with a word of a header in this state, which has this target
abbrev pub located : Spot → ℕ → HeaderState → ℕ → Location
located spot word states.Tagged target = location.Tagged (keep_of word)
located spot word states.Wide target = location.Wide (field_from spot target)
located spot word states.Forward target = location.Copy (field_from spot target)
located spot word state target = location.Original

-- with the word of a header
abbrev pub location_in : Spot → ℕ → Location
location_in spot word = let h = header_at word in located spot word h.state h.target

-- a call that writes goes on there; but a Tagged header, which says that there is such a field, is exchanged first
abbrev pub by_location : {M : Type 0} → (Keep → M) → (Location → M) → Spot → ℕ → Location → M
by_location keep place spot header (location.Tagged its) =
    if nat_lt spot.field (let h = header_at header in h.len) then keep its else place (location.Tagged its)
by_location keep place spot header it = place it
