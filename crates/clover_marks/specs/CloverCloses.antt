-- What a call of Clover gives at Fix.
use Rattle.std.specs.Prelude.{◌≡◌, ℕ, Option, Some, None}
use Rattle.heap_words.specs.declared.field_word.FieldWord.{FieldWord}
use Rattle.barriers.specs.declared.spot.Spot.{Spot}
use Rattle.barriers.specs.Spaces.{is_mark}
use Rattle.barriers.specs.Stances.{Stance, Free}
use Rattle.barriers.specs.States.{State, Moving, Forward, same_word}
use Rattle.barriers.specs.Knowns.{Task, Known, Checks, Loads_header, Loads, Swaps, Loads_again, Over, Finds, Phase_word, Header_word, Field_word, at_field}
use Rattle.barriers.specs.PlainCalls.{loaded, lost, end_made}
use Rattle.barriers.specs.CallCloses.{IsTasked, IsClosed, if_closed, original_closed, copy_closed, where_closed, loaded_closed, lost_closed, made_closed, swaps_closed, swapping, plainly_closed}
use Rattle.clover_marks.specs.CloverTable.{by_phase, by_mark, by_state, unless_mark, by_value, by_again, clover_fed}

module _ (acked : Stance) (own : Option FieldWord) (s : Spot) (t : Task) where
  phase_by : (cycle : ℕ) (p : Stance) → IsClosed acked (by_phase s t cycle p)
  phase_by cycle Free = tt
  phase_by cycle p = λ e. tt

  mark_by : (o : Option FieldWord) → IsClosed acked (by_mark o s t)
  mark_by None = original_closed acked s t
  mark_by (Some m) = tt

  state_by : (x : State) → IsClosed acked (by_state own s t x)
  state_by (Forward to) = copy_closed acked s t to
  state_by x = mark_by own

  unless_by : (x : FieldWord) (n : ℕ) (y : FieldWord) (next : Known) → IsClosed acked next → IsClosed acked (unless_mark own s t x n y next)
  unless_by x n y next is = if_closed acked (is_mark own y) (Loads_again s t x n) next tt is

  value_by : (o : Option FieldWord) (x : FieldWord) (n : ℕ) → IsClosed acked (by_value acked o s t x n)
  value_by None x n = tt
  value_by (Some m) x n = lost_closed (Swaps s t) acked s t x m n (swaps_closed acked s t)

  header_by : (x : FieldWord) (n : ℕ) (y : State) → IsClosed acked (by_again acked own s t x n y)
  header_by x n (Forward to) = copy_closed acked s t to
  header_by x n (Moving to) = copy_closed acked s t to
  header_by x n y = value_by own x n

pub clover_closes : (acked : Stance) (own : Option FieldWord) (k : Known) (s : Spot) (found : Finds) → at_field k ≡ Some s → IsTasked k → IsClosed acked (clover_fed acked own k found)
clover_closes acked own (Checks z t cycle) s (Phase_word p) at is = phase_by acked own z t cycle p
clover_closes acked own (Loads_header z t) s (Header_word x colour len) at is = where_closed acked z t len (by_state own z t x) (state_by acked own z t x)
clover_closes acked own (Loads z t) s (Field_word x) at is = unless_by acked own z t x 3 x (loaded (Swaps z t) acked z t x) (loaded_closed (Swaps z t) acked z t x (swaps_closed acked z t))
clover_closes acked own (Swaps z t x n) s (Field_word y) at is =
    let writes = swapping z t x n is in
    if_closed acked (same_word y x) (Over z t (end_made t y)) (unless_mark own z t x n y (lost (Swaps z t) acked z t x y n)) (made_closed acked z t y writes)
    (unless_by acked own z t x n y (lost (Swaps z t) acked z t x y n) (lost_closed (Swaps z t) acked z t x y n (swaps_closed acked z t)))
clover_closes acked own (Loads_again z t x n) s (Header_word y colour len) at is = header_by acked own z t x n y
clover_closes acked own k s found at is = plainly_closed acked k s found at is
