-- What a call gives at Fix: no link that it has not followed.
use Rattle.std.specs.Prelude.{◌≡◌, ℕ, zero, suc, Bool, true, false, nat_lt, if◌then◌else◌, Some, None}
use Rattle.heap_words.specs.declared.field_word.FieldWord.{FieldWord}
use Rattle.heap_words.specs.declared.field_word.FieldWord.TheVariants.{Num, Link}
use Rattle.heap_history.specs.FixedHeaps.{is_same}
use Rattle.handshakes.specs.declared.follow.FollowMachine.TheVariants as follow
use Rattle.barriers.specs.States.{On, same_word}
use Rattle.barriers.specs.declared.spot.Spot.{Spot}
use Rattle.barriers.specs.Stances.{Stance, Mark, Confirm, Search, Copy, Fix, Free, Retired}
use Rattle.barriers.specs.Values.{value_of}
use Rattle.barriers.specs.Knowns.{Task, Reads, Writes, Exchanges, Known, Loads, Stores, Swaps, Swaps_wide, Loads_copy, Stores_copy, Swaps_copy, Follows, Over, Finds, Field_word, at_field, word_ended, found_ending, closes}
use Rattle.barriers.specs.PlainCalls.{no_field, to_original, to_copy, where_field, loaded, end_made, again, lost, exchanged, plainly_fed}
use Rattle.barriers.specs.Protocols.{OnHand}

-- only a call that writes exchanges a word
abbrev pub IsTasked : Known → Type 0
IsTasked (Swaps s Reads x n) = ⊥
IsTasked (Swaps_copy s Reads to x n) = ⊥
IsTasked (Swaps_wide s Reads wide x n) = ⊥
IsTasked k = Unit {0}

-- and of a pass that has acknowledged Fix it has no link in hand that it has not followed, once it has what it came for
abbrev pub IsClosed : Stance → Known → Type 0
IsClosed acked (Follows s t (follow.Header birth at)) = Unit {0}
IsClosed acked (Follows s t (follow.Ended end)) = acked ≡ Fix → On (λ b a. ⊥) end.word
IsClosed acked (Over s t end) = acked ≡ Fix → OnHand (λ b a. ⊥) (word_ended end)
IsClosed acked k = IsTasked k

-- ---- how calls come to that

abbrev pub IsWritingTask : Task → Type 0
IsWritingTask Reads = ⊥
IsWritingTask t = Unit {0}

pub if_closed : (acked : Stance) (b : Bool) (one other : Known) → IsClosed acked one → IsClosed acked other → IsClosed acked (if b then one else other)
if_closed acked true one other is not = is
if_closed acked false one other is not = not

pub original_closed : (acked : Stance) (s : Spot) (t : Task) → IsClosed acked (to_original s t)
original_closed acked s Reads = tt
original_closed acked s (Writes word) = tt
original_closed acked s (Exchanges expected word) = tt

pub copy_closed : (acked : Stance) (s : Spot) (t : Task) (to : ℕ) → IsClosed acked (to_copy s t to)
copy_closed acked s Reads to = tt
copy_closed acked s (Writes word) to = tt
copy_closed acked s (Exchanges expected word) to = tt

pub where_closed : (acked : Stance) (s : Spot) (t : Task) (len : ℕ) (next : Known) → IsClosed acked next → IsClosed acked (where_field s t len next)
where_closed acked s t len next is = if_closed acked (nat_lt s.field len) next (no_field s t len) is (λ e. tt)

num_ended : (t : Task) (n : ℕ) → OnHand (λ b a. ⊥) (word_ended (found_ending t (Num n)))
num_ended Reads n = tt
num_ended (Writes word) n = tt
num_ended (Exchanges expected word) n = tt

pub closes_closed : (acked : Stance) (s : Spot) (t : Task) (x : FieldWord) → IsClosed acked (closes acked s t x)
closes_closed Fix s t (Link birth at) = tt
closes_closed Fix s t (Num n) = λ e. num_ended t n
closes_closed Mark s t x = λ e. cc e
closes_closed Confirm s t x = λ e. cc e
closes_closed Search s t x = λ e. cc e
closes_closed Copy s t x = λ e. cc e
closes_closed Free s t x = λ e. cc e
closes_closed Retired s t x = λ e. cc e

pub made_closed : (acked : Stance) (s : Spot) (t : Task) (x : FieldWord) → IsWritingTask t → IsClosed acked (Over s t (end_made t x))
made_closed acked s Reads x writes = absurd writes
made_closed acked s (Writes word) x writes = λ e. tt
made_closed acked s (Exchanges expected word) x writes = λ e. tt

-- where `swaps` is the exchange from a word
module _ (swaps : FieldWord → ℕ → Known) (acked : Stance) (s : Spot) where
  pub loaded_closed : (t : Task) (x : FieldWord) → (IsWritingTask t → (y : FieldWord) (n : ℕ) → IsClosed acked (swaps y n)) → IsClosed acked (loaded swaps acked s t x)
  loaded_closed Reads x on = closes_closed acked s Reads x
  loaded_closed (Writes word) x on = on tt x 2
  loaded_closed (Exchanges expected word) x on = if_closed acked (is_same (value_of x) expected) (swaps x 2) (closes acked s (Exchanges expected word) x) (on tt x 2) (closes_closed acked s (Exchanges expected word) x)

  again_closed : (t : Task) (x y : FieldWord) (n : ℕ) → ((z : FieldWord) (m : ℕ) → IsClosed acked (swaps z m)) → IsClosed acked (again swaps s t x y n)
  again_closed t x y zero on = λ e. tt
  again_closed t x y (suc n) on = on y n

  pub lost_closed : (t : Task) (x y : FieldWord) (n : ℕ) → (IsWritingTask t → (z : FieldWord) (m : ℕ) → IsClosed acked (swaps z m)) → IsClosed acked (lost swaps acked s t x y n)
  lost_closed Reads x y n on = closes_closed acked s Reads y
  lost_closed (Writes word) x y n on = again_closed (Writes word) x y n (on tt)
  lost_closed (Exchanges expected word) x y n on = if_closed acked (is_same (value_of y) expected) (again swaps s (Exchanges expected word) x y n) (closes acked s (Exchanges expected word) y) (again_closed (Exchanges expected word) x y n (on tt)) (closes_closed acked s (Exchanges expected word) y)

  pub exchanged_closed : (t : Task) (x y : FieldWord) (n : ℕ) → IsWritingTask t → ((z : FieldWord) (m : ℕ) → IsClosed acked (swaps z m)) → IsClosed acked (exchanged swaps acked s t x y n)
  exchanged_closed t x y n writes on = if_closed acked (same_word y x) (Over s t (end_made t y)) (lost swaps acked s t x y n) (made_closed acked s t y writes) (lost_closed t x y n (λ w. on))

pub swaps_closed : (acked : Stance) (s : Spot) (t : Task) → IsWritingTask t → (x : FieldWord) (n : ℕ) → IsClosed acked (Swaps s t x n)
swaps_closed acked s Reads writes x n = absurd writes
swaps_closed acked s (Writes word) writes x n = tt
swaps_closed acked s (Exchanges expected word) writes x n = tt

pub swaps_copy_closed : (acked : Stance) (s : Spot) (t : Task) (to : ℕ) → IsWritingTask t → (x : FieldWord) (n : ℕ) → IsClosed acked (Swaps_copy s t to x n)
swaps_copy_closed acked s Reads to writes x n = absurd writes
swaps_copy_closed acked s (Writes word) to writes x n = tt
swaps_copy_closed acked s (Exchanges expected word) to writes x n = tt

pub swaps_wide_closed : (acked : Stance) (s : Spot) (t : Task) (wide : ℕ) → IsWritingTask t → (x : _) (n : ℕ) → IsClosed acked (Swaps_wide s t wide x n)
swaps_wide_closed acked s Reads wide writes x n = absurd writes
swaps_wide_closed acked s (Writes word) wide writes x n = tt
swaps_wide_closed acked s (Exchanges expected word) wide writes x n = tt

-- what exchanges writes
pub swapping : (s : Spot) (t : Task) (x : FieldWord) (n : ℕ) → IsTasked (Swaps s t x n) → IsWritingTask t
swapping s Reads x n is = is
swapping s (Writes word) x n is = tt
swapping s (Exchanges expected word) x n is = tt

pub swapping_copy : (s : Spot) (t : Task) (to : ℕ) (x : FieldWord) (n : ℕ) → IsTasked (Swaps_copy s t to x n) → IsWritingTask t
swapping_copy s Reads to x n is = is
swapping_copy s (Writes word) to x n is = tt
swapping_copy s (Exchanges expected word) to x n is = tt

pub swapping_wide : (s : Spot) (t : Task) (wide : ℕ) (x : _) (n : ℕ) → IsTasked (Swaps_wide s t wide x n) → IsWritingTask t
swapping_wide s Reads wide x n is = is
swapping_wide s (Writes word) wide x n is = tt
swapping_wide s (Exchanges expected word) wide x n is = tt

-- at a field that stays as it was
pub stays_closed : (acked : Stance) (k : Known) (s : Spot) → at_field k ≡ Some s → IsTasked k → IsClosed acked k
stays_closed acked (Follows z t m) s at is = absurd (let gone : None ≡ Some s = at in cc)
stays_closed acked (Over z t end) s at is = absurd (let gone : None ≡ Some s = at in cc)
stays_closed acked k s at is = is

-- every step at a plain word
pub plainly_closed : (acked : Stance) (k : Known) (s : Spot) (found : Finds) → at_field k ≡ Some s → IsTasked k → IsClosed acked (plainly_fed acked k found)
plainly_closed acked (Loads z t) s (Field_word x) at is = loaded_closed (Swaps z t) acked z t x (swaps_closed acked z t)
plainly_closed acked (Stores z word) s found at is = λ e. tt
plainly_closed acked (Swaps z t x n) s (Field_word y) at is = let writes = swapping z t x n is in exchanged_closed (Swaps z t) acked z t x y n writes (swaps_closed acked z t writes)
plainly_closed acked (Loads_copy z t to) s (Field_word x) at is = loaded_closed (Swaps_copy z t to) acked z t x (swaps_copy_closed acked z t to)
plainly_closed acked (Stores_copy z word to) s found at is = λ e. tt
plainly_closed acked (Swaps_copy z t to x n) s (Field_word y) at is = let writes = swapping_copy z t to x n is in exchanged_closed (Swaps_copy z t to) acked z t x y n writes (swaps_copy_closed acked z t to writes)
plainly_closed acked k s found at is = stays_closed acked k s at is
