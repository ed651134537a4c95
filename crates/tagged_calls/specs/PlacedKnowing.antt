-- What is known of a call at the word of its field, in the original or in the copy.
use Rattle.std.specs.Prelude.{◌≡◌}
use Rattle.handshakes.specs.declared.pass_view.PassView.{PassView}
use Rattle.barriers.specs.declared.spot.Spot.{Spot}
use Rattle.barriers.specs.Knowns.{Known, Loads, Stores, Swaps, Follows, Over, place_in}
use Rattle.tagged_calls.specs.declared.placed.Placed.{Placed}
use Rattle.tagged_calls.specs.declared.placed.Placed.TheVariants as placed
use Rattle.tagged_calls.specs.TaggedCalls.{in_copy}

-- by what is known of the machine of an object at rest
abbrev pub known_of : {K : Type 0} → (K → Known) → Placed K → Known
known_of knows (placed.Original m) = knows m
known_of knows (placed.Copy spot m) = in_copy spot (knows m)

-- it is past the header
abbrev pub IsBegun : Known → Type 0
IsBegun (Loads z t) = Unit {0}
IsBegun (Stores z word) = Unit {0}
IsBegun (Swaps z t x n) = Unit {0}
IsBegun (Follows z t m) = Unit {0}
IsBegun (Over z t end) = Unit {0}
IsBegun k = ⊥

-- and the word is the one of this field after the copy's header
abbrev pub IsInCopy : Spot → Known → Type 0
IsInCopy s (Loads z t) = z.place ≡ place_in z.at s
IsInCopy s (Stores z word) = z.place ≡ place_in z.at s
IsInCopy s (Swaps z t x n) = z.place ≡ place_in z.at s
IsInCopy s (Follows z t m) = Unit {0}
IsInCopy s (Over z t end) = Unit {0}
IsInCopy s k = ⊥

abbrev pub PlacedFor : {K : Type 0} → (K → Known) → (PassView → K → Type 0) → PassView → Placed K → Type 0
PlacedFor knows For v (placed.Original m) = For v m × IsBegun (knows m)
PlacedFor knows For v (placed.Copy spot m) = For v m × IsInCopy spot (knows m)
