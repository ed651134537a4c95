-- The words of a machine fit words, if those that it began with and those that it finds do.
use Rattle.std.proofs.Common.{ℕ, zero, suc, Bool, true, false, cond}
use Rattle.heap_words.specs.declared.field_word.FieldWord.{FieldWord}
use Rattle.heap_words.specs.FieldWords.{IsFieldWord}
use Rattle.handshakes.specs.declared.follow.FollowMachine.{FollowMachine}
use Rattle.handshakes.specs.declared.follow.FollowMachine.TheVariants as follow
use Rattle.handshakes.specs.Follows.{follow_of}
use Rattle.heap_history.specs.FixedHeaps.{is_same}
use Rattle.barriers.specs.declared.spot.Spot.{Spot}
use Rattle.barriers.specs.States.{same_word}
use Rattle.barriers.specs.Stances.{Stance, phase_of}
use Rattle.barriers.specs.Values.{value_of}
use Rattle.barriers.specs.Knowns.{Task, Reads, Writes, Exchanges, Known, Finds, Nothing, Phase_word, Header_word, Field_word, Wide_word, Address, followed, closes}
use Rattle.barriers.specs.PlainCalls.{loaded, again, lost, exchanged}
use Rattle.barriers.specs.Kits.{IsWordOf}
use Rattle.barriers.specs.Says.{FitsTask, IsChange, IsPacked, FitsFound}

-- what stands at a word fits it
pub found_fits : (k : Known) (found : Finds) (n : ℕ) → IsWordOf k found n → FitsFound found
found_fits k Nothing n h = tt
found_fits k (Phase_word p) n h = tt
found_fits k (Header_word x colour len) n h = tt
found_fits k (Field_word w) n h = h.1
found_fits k (Wide_word u) n h = h.1
found_fits k (Address to) n h = tt

packed_followed : (z : Spot) (t : Task) (m : FollowMachine) → FitsTask t → IsPacked (followed z t m)
packed_followed z t (follow.Header birth at) f = record { task = f; from = tt }
packed_followed z t (follow.Ended end) f = record { task = f; from = tt }

pub packed_closes : (acked : Stance) (z : Spot) (t : Task) (w : FieldWord) → FitsTask t → IsPacked (closes acked z t w)
packed_closes acked z t w f = packed_followed z t (follow_of (phase_of acked) w) f

-- an exchange from a word: which it is, a change makes
module _ (swaps : Task → FieldWord → ℕ → Known) (packed : (t : Task) (x : FieldWord) (i : ℕ) → FitsTask t → IsChange t → IsFieldWord x → IsPacked (swaps t x i)) (acked : Stance) (z : Spot) where
  packed_if : (b : Bool) (x y : Known) → IsPacked x → IsPacked y → IsPacked (cond b x y)
  packed_if true x y p q = p
  packed_if false x y p q = q

  pub packed_loaded : (t : Task) (x : FieldWord) → FitsTask t → IsFieldWord x → IsPacked (loaded (swaps t) acked z t x)
  packed_loaded Reads x f g = packed_closes acked z Reads x f
  packed_loaded (Writes w) x f g = packed (Writes w) x 2 f tt g
  packed_loaded (Exchanges e w) x f g = packed_if (is_same (value_of x) e) _ _ (packed (Exchanges e w) x 2 f tt g) (packed_closes acked z (Exchanges e w) x f)

  packed_again : (t : Task) (x y : FieldWord) (i : ℕ) → FitsTask t → IsChange t → IsFieldWord y → IsPacked (again (swaps t) z t x y i)
  packed_again t x y zero f c g = record { task = f; from = tt }
  packed_again t x y (suc i) f c g = packed t y i f c g

  packed_lost : (t : Task) (x y : FieldWord) (i : ℕ) → FitsTask t → IsFieldWord y → IsPacked (lost (swaps t) acked z t x y i)
  packed_lost Reads x y i f g = packed_closes acked z Reads y f
  packed_lost (Writes w) x y i f g = packed_again (Writes w) x y i f tt g
  packed_lost (Exchanges e w) x y i f g = packed_if (is_same (value_of y) e) _ _ (packed_again (Exchanges e w) x y i f tt g) (packed_closes acked z (Exchanges e w) y f)

  pub packed_exchanged : (t : Task) (x y : FieldWord) (i : ℕ) → FitsTask t → IsFieldWord y → IsPacked (exchanged (swaps t) acked z t x y i)
  packed_exchanged t x y i f g = packed_if (same_word y x) _ _ (record { task = f; from = tt }) (packed_lost t x y i f g)
