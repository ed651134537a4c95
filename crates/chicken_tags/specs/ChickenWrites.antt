-- A write of a field.
use Rattle.std.specs.Prelude.{◌≡◌, ◌≢◌, ℕ, ◌<◌, nat_lt, if◌then◌else◌, Bool, true, false, Option, None}
use Rattle.std.proofs.Common.{arith, ap, lit<}
use Rattle.call_steps.specs.declared.step.Step.{Step}
use Rattle.call_steps.specs.declared.step.Step.TheVariants.{Load, Store, Exchange, Ended}
use Rattle.object_headers.specs.Headers.{header_at}
use Rattle.barriers.specs.declared.spot.Spot.{Spot}
use Rattle.barriers.specs.declared.front.Front.{Front}
use Rattle.barriers.specs.declared.front.Front.TheVariants.{Stays}
use Rattle.barriers.specs.declared.ends.WriteEnd.{WriteEnd}
use Rattle.barriers.specs.declared.write.WriteMachine.TheVariants as rest
use Rattle.barriers.specs.Writes as at_rest
use Rattle.barriers.specs.Spots.{spot_of}
use Rattle.tagged_calls.specs.declared.location.Location.{Location}
use Rattle.tagged_calls.specs.declared.location.Location.TheVariants as location
use Rattle.tagged_calls.specs.Locations.{location_in, by_location}
use Rattle.tagged_calls.specs.Placeds as placeds
use Rattle.chicken_tags.specs.declared.write.ChickenWrite.{ChickenWrite}
use Rattle.chicken_tags.specs.declared.write.ChickenWrite.TheVariants as write

-- as it begins
abbrev pub begun : ℕ → ℕ → ℕ → ℕ → ChickenWrite
begun birth at field word = write.Header (spot_of birth at field) word

-- at the word of its field, by the word of a header
abbrev pub placed : Spot → ℕ → ℕ → Location → ChickenWrite
placed spot word header it = write.Field (placeds.write_in it spot word header)

-- with the header at hand
abbrev pub turned : Spot → ℕ → ℕ → Location → ChickenWrite
turned spot word header it = by_location (write.Keep spot word) (placed spot word header) spot header it

-- the step that it takes next
abbrev pub asks_of : ChickenWrite → Step
asks_of (write.Header spot word) = Load spot.at
asks_of (write.Keep spot word keep) = Exchange spot.at keep.tagged keep.kept
asks_of (write.Field m) = placeds.asks_of at_rest.asks_of m

-- what it is after it was fed a word
abbrev pub fed_of : ChickenWrite → ℕ → ChickenWrite
fed_of (write.Header spot word) found = turned spot word found (location_in spot found)
fed_of (write.Keep spot word keep) found = placed spot word keep.tagged (location_in spot found)
fed_of (write.Field m) found = write.Field (placeds.fed_of at_rest.fed_of m found)

-- what it ended with
abbrev pub end_of : ChickenWrite → Option WriteEnd
end_of (write.Header spot word) = None
end_of (write.Keep spot word keep) = None
end_of (write.Field m) = at_rest.end_of (placeds.machine_of m)

-- how many steps are left at most
abbrev pub left_of : ChickenWrite → ℕ
left_of (write.Header spot word) = 3
left_of (write.Keep spot word keep) = 2
left_of (write.Field m) = placeds.left_of at_rest.left_of m

-- no step sees a value
abbrev pub front : ChickenWrite → ℕ → Front
front (write.Field m) found = placeds.front_of at_rest.front m found
front m found = Stays

pub blind_of : (m : ChickenWrite) (at put n : ℕ) → asks_of m ≡ Store at put → fed_of m n ≡ fed_of m 0
blind_of (write.Header spot word) at put n e = absurd cc
blind_of (write.Keep spot word keep) at put n e = absurd cc
blind_of (write.Field m) at put n e = ap write.Field (placeds.blind_of at_rest.asks_of at_rest.fed_of at_rest.blind_of m at put n e)

pub none_left_of : (m : ChickenWrite) → asks_of m ≡ Ended → left_of m ≡ 0
none_left_of (write.Header spot word) e = absurd cc
none_left_of (write.Keep spot word keep) e = absurd cc
none_left_of (write.Field m) e = at_rest.none_left_of (placeds.machine_of m) e

pub some_left_of : (m : ChickenWrite) → left_of m ≡ 0 → asks_of m ≡ Ended
some_left_of (write.Header spot word) e = absurd (omega arith)
some_left_of (write.Keep spot word keep) e = absurd (omega arith)
some_left_of (write.Field m) e = at_rest.some_left_of (placeds.machine_of m) e

placed_falls : (spot : Spot) (word header : ℕ) (it : Location) → left_of (placed spot word header it) < 2
placed_falls spot word header it =
    placeds.few_left at_rest.left_of it spot (λ here. at_rest.fed_of (rest.Header here word) header) 2
    (λ here. at_rest.falls_of (rest.Header here word) header (λ e. cc e))

tagged_falls : (spot : Spot) (word header : ℕ) (it : Location) (next : ChickenWrite) (b : Bool) → left_of next < 3 → left_of (if b then next else placed spot word header it) < 3
tagged_falls spot word header it next true falls = falls
tagged_falls spot word header it next false falls = omega (arith, placed_falls spot word header it)

turned_falls : (spot : Spot) (word header : ℕ) (it : Location) → left_of (turned spot word header it) < 3
turned_falls spot word header (location.Tagged keep) = tagged_falls spot word header (location.Tagged keep) (write.Keep spot word keep) (nat_lt spot.field (let h = header_at header in h.len)) (lit< tt)
turned_falls spot word header location.Original = omega (arith, placed_falls spot word header location.Original)
turned_falls spot word header (location.Wide wide) = omega (arith, placed_falls spot word header (location.Wide wide))
turned_falls spot word header (location.Copy copy) = omega (arith, placed_falls spot word header (location.Copy copy))

pub falls_of : (m : ChickenWrite) (n : ℕ) → asks_of m ≢ Ended → left_of (fed_of m n) < left_of m
falls_of (write.Header spot word) n on = turned_falls spot word n (location_in spot n)
falls_of (write.Keep spot word keep) n on = placed_falls spot word keep.tagged (location_in spot n)
falls_of (write.Field m) n on = placeds.falls_of at_rest.asks_of at_rest.fed_of at_rest.left_of at_rest.falls_of m n on
