-- What a call of Stopless gives at Fix.
use Rattle.std.specs.Prelude.{◌≡◌, ℕ, zero, suc, Option, Some}
use Rattle.heap_words.specs.declared.field_word.FieldWord.{FieldWord}
use Rattle.heap_history.specs.FixedHeaps.{is_same}
use Rattle.wide_objects.specs.Statuses.{Status, InOriginal, InWide, InCopy}
use Rattle.barriers.specs.declared.spot.Spot.{Spot}
use Rattle.barriers.specs.Spaces.{held, same_status}
use Rattle.barriers.specs.Stances.{Stance}
use Rattle.barriers.specs.Values.{value_of}
use Rattle.barriers.specs.Knowns.{Task, Reads, Writes, Exchanges, Known, Loads_wide, Swaps_wide, Loads_late, Loads_address, Over, Finds, Field_word, Wide_word, Address, at_field, closes}
use Rattle.barriers.specs.PlainCalls.{end_made}
use Rattle.barriers.specs.CallCloses.{IsTasked, IsClosed, IsWritingTask, if_closed, closes_closed, copy_closed, loaded_closed, made_closed, swaps_wide_closed, swapping_wide}
use Rattle.tagged_calls.specs.CloseLaws.{tagged_closed}
use Rattle.stopless_copy.specs.StoplessTable.{from_original, from_wide, by_wide, again_wide, retried_wide, lost_wide, tried_wide, by_original, stopless_fed}

module _ (acked : Stance) (s : Spot) where
  original_by : (t : Task) (wide : ℕ) → IsClosed acked (by_original s t wide)
  original_by Reads wide = tt
  original_by (Writes word) wide = tt
  original_by (Exchanges expected word) wide = tt

  wide_by : (t : Task) (wide : ℕ) (u : Status) → IsClosed acked (by_wide acked s t wide u)
  wide_by t wide InOriginal = original_by t wide
  wide_by t wide (InWide x) = loaded_closed (from_wide s t wide) acked s t x (λ writes y n. swaps_wide_closed acked s t wide writes (InWide y) n)
  wide_by t wide (InCopy x) = tt

  again_by : (t : Task) (wide : ℕ) (x : Status) (y : FieldWord) (n : ℕ) → IsWritingTask t → IsClosed acked (again_wide s t wide x y n)
  again_by t wide x y zero writes = λ e. tt
  again_by t wide x y (suc n) writes = swaps_wide_closed acked s t wide writes (InWide y) n

  retried_by : (t : Task) (wide : ℕ) (x : Status) (y : FieldWord) (n : ℕ) → IsWritingTask t → IsClosed acked (retried_wide acked s t wide x y n)
  retried_by Reads wide x y n writes = absurd writes
  retried_by (Writes word) wide x y n writes = again_by (Writes word) wide x y n tt
  retried_by (Exchanges expected word) wide x y n writes =
      if_closed acked (is_same (value_of y) expected) (again_wide s (Exchanges expected word) wide x y n) (closes acked s (Exchanges expected word) y)
      (again_by (Exchanges expected word) wide x y n tt) (closes_closed acked s (Exchanges expected word) y)

  lost_by : (t : Task) (wide : ℕ) (x u : Status) (n : ℕ) → IsWritingTask t → IsClosed acked (lost_wide acked s t wide x u n)
  lost_by t wide x InOriginal n writes = λ e. tt
  lost_by t wide x (InWide y) n writes = retried_by t wide x y n writes
  lost_by t wide x (InCopy y) n writes = tt

  tried_by : (t : Task) (wide : ℕ) (x u : Status) (n : ℕ) → IsWritingTask t → IsClosed acked (tried_wide acked s t wide x u n)
  tried_by t wide x u n writes = if_closed acked (same_status u x) (Over s t (end_made t (held u))) (lost_wide acked s t wide x u n) (made_closed acked s t (held u) writes) (lost_by t wide x u n writes)

pub stopless_closes : (acked : Stance) (own : Option FieldWord) (k : Known) (s : Spot) (found : Finds) → at_field k ≡ Some s → IsTasked k → IsClosed acked (stopless_fed acked own k found)
stopless_closes acked own (Loads_wide z t wide) s (Wide_word u) at is = wide_by acked z t wide u
stopless_closes acked own (Swaps_wide z t wide x n) s (Wide_word u) at is = tried_by acked z t wide x u n (swapping_wide z t wide x n is)
stopless_closes acked own (Loads_late z t wide) s (Field_word x) at is = loaded_closed (from_original z t wide) acked z t x (λ writes y n. swaps_wide_closed acked z t wide writes InOriginal n)
stopless_closes acked own (Loads_address z t wide) s (Address to) at is = copy_closed acked z t to
stopless_closes acked own k s found at is = tagged_closed Loads_wide acked (λ z t wide. tt) k s found at is
