-- What a call that may tag its object Kept gives at Fix.
use Rattle.std.specs.Prelude.{◌≡◌, ℕ, Some}
use Rattle.object_headers.specs.declared.header.Colour.{Colour}
use Rattle.barriers.specs.declared.spot.Spot.{Spot}
use Rattle.barriers.specs.States.{State, Tagged, Wide, Forward}
use Rattle.barriers.specs.Stances.{Stance}
use Rattle.barriers.specs.Knowns.{Task, Reads, Writes, Exchanges, Known, Loads_header, Keeps, Finds, Header_word, at_field}
use Rattle.barriers.specs.CallCloses.{IsTasked, IsClosed, original_closed, copy_closed, where_closed, plainly_closed}
use Rattle.tagged_calls.specs.TaggedCalls.{by_kept, by_header, tagged_fed}

-- where it goes on so at a wide object
module _ (to_wide : Spot → Task → ℕ → Known) (acked : Stance) (wide_closed : (s : Spot) (t : Task) (wide : ℕ) → IsClosed acked (to_wide s t wide)) where
  kept_closed : (s : Spot) (t : Task) (x : State) → IsClosed acked (by_kept to_wide s t x)
  kept_closed s t (Forward to) = copy_closed acked s t to
  kept_closed s t (Wide w) = wide_closed s t w
  kept_closed s t x = original_closed acked s t

  header_closed : (s : Spot) (t : Task) (x : State) (colour : Colour) (len : ℕ) → IsClosed acked (by_header to_wide s t x colour len)
  header_closed s Reads Tagged colour len = tt
  header_closed s (Writes word) Tagged colour len = tt
  header_closed s (Exchanges expected word) Tagged colour len = tt
  header_closed s t x colour len = kept_closed s t x

  pub tagged_closed : (k : Known) (s : Spot) (found : Finds) → at_field k ≡ Some s → IsTasked k → IsClosed acked (tagged_fed to_wide acked k found)
  tagged_closed (Loads_header z t) s (Header_word x colour len) at is = where_closed acked z t len (by_header to_wide z t x colour len) (header_closed z t x colour len)
  tagged_closed (Keeps z t tagged) s (Header_word x colour len) at is = kept_closed z t x
  tagged_closed k s found at is = plainly_closed acked k s found at is
