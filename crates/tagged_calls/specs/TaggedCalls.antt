-- How a call comes to the word of its field, where an object that is to be copied is Tagged first.
use Rattle.std.specs.Prelude.{ℕ}
use Rattle.object_headers.specs.declared.header.Colour.{Colour}
use Rattle.object_headers.specs.declared.header.Header.{Header}
use Rattle.object_headers.specs.declared.header.State.TheVariants as states
use Rattle.barriers.specs.declared.spot.Spot.{Spot}
use Rattle.barriers.specs.States.{State, Tagged, Wide, Forward}
use Rattle.barriers.specs.Stances.{Stance}
use Rattle.barriers.specs.Knowns.{Task, Reads, Known, Loads_header, Keeps, Loads, Stores, Swaps, Follows, Over, Loads_copy, Stores_copy, Swaps_copy, Finds, Header_word}
use Rattle.barriers.specs.PlainCalls.{to_original, to_copy, where_field, plainly_fed}

-- the header of the call's object, when it is Tagged
abbrev pub tagged_of : Spot → Colour → ℕ → Header
tagged_of s colour len = record { state = states.Tagged; colour = colour; len = len; birth = s.birth; target = 0 }

-- before a call writes in a Tagged object it turns the header to Kept
abbrev pub keeps_first : Spot → Task → Header → Known
keeps_first s Reads tagged = to_original s Reads
keeps_first s t tagged = Keeps s t tagged

-- a wide object's original, taken for an object at rest
abbrev pub as_at_rest : Spot → Task → ℕ → Known
as_at_rest s t wide = to_original s t

-- where a copier goes on so at a wide object
module _ (to_wide : Spot → Task → ℕ → Known) where
  -- by the header that the exchange for Kept found: with any but these it won, or another call had won
  abbrev pub by_kept : Spot → Task → State → Known
  by_kept s t (Forward to) = to_copy s t to
  by_kept s t (Wide wide) = to_wide s t wide
  by_kept s t x = to_original s t

  -- by the header that it loaded
  abbrev pub by_header : Spot → Task → State → Colour → ℕ → Known
  by_header s t Tagged colour len = keeps_first s t (tagged_of s colour len)
  by_header s t x colour len = by_kept s t x

  abbrev pub tagged_fed : Stance → Known → Finds → Known
  tagged_fed acked (Loads_header s t) (Header_word x colour len) = where_field s t len (by_header s t x colour len)
  tagged_fed acked (Keeps s t tagged) (Header_word x colour len) = by_kept s t x
  tagged_fed acked k found = plainly_fed acked k found

-- ---- at the word

-- what is known of a call of an object at rest, as of the call of this field whose word is in the copy where that is
abbrev pub in_copy : Spot → Known → Known
in_copy s (Loads z t) = Loads_copy s t z.at
in_copy s (Stores z word) = Stores_copy s word z.at
in_copy s (Swaps z t x n) = Swaps_copy s t z.at x n
in_copy s (Follows z t m) = Follows s t m
in_copy s (Over z t end) = Over s t end
in_copy s k = k
