-- A call goes on in the copy as it would in an original.
use Rattle.std.specs.Prelude.{ℕ, ◌<◌, ◌≤◌, if◌then◌else◌, nat_lt, zero, suc}
use Rattle.std.proofs.Common.{◌≡◌, refl, ap, Bool, true, false, Option, Some, None}
use Rattle.call_steps.specs.declared.step.Step.TheVariants.{Load, Store, Exchange}
use Rattle.heap_words.specs.declared.limits.TheConstants.{MOST_FIELDS}
use Rattle.heap_words.specs.declared.field_word.FieldWord.{FieldWord}
use Rattle.heap_words.specs.declared.field_word.FieldWord.TheVariants.{Num, Link}
use Rattle.heap_words.specs.FieldWords.{word_of}
use Rattle.heap_history.specs.FixedHeaps.{is_same}
use Rattle.handshakes.specs.declared.pass_view.PassView.{PassView}
use Rattle.handshakes.specs.declared.follow.FollowMachine.{FollowMachine}
use Rattle.handshakes.specs.declared.follow.FollowMachine.TheVariants as follow
use Rattle.barriers.specs.declared.spot.Spot.{Spot}
use Rattle.barriers.specs.declared.front.Front.TheVariants.{Stays, Now, SealedOrNow}
use Rattle.barriers.specs.Spots.{place_of-spot_of}
use Rattle.barriers.specs.States.{same_word}
use Rattle.barriers.specs.Stances.{Stance, Mark, Confirm, Search, Copy, Fix, Free, Retired}
use Rattle.barriers.specs.Spaces.{Here}
use Rattle.barriers.specs.Values.{value_of}
use Rattle.barriers.specs.Says.{IsPacked}
use Rattle.barriers.specs.Kits.{IsWordOf, IsCurrent, ending_of}
use Rattle.barriers.specs.Knowns.{Task, Reads, Writes, Exchanges, Known, Loads, Stores, Swaps, Loads_copy, Stores_copy, Swaps_copy, Follows, Over, Finds, Field_word, at_field, spot_of, finds, looks, sees, step_of, put_of, followed, closes}
use Rattle.barriers.specs.PlainCalls.{no_field, to_original, to_copy, where_field, loaded, again, lost, exchanged, end_made, plainly_fed}
use Rattle.barriers.specs.PlainCallLaws.{IsPlain, plainly_holds, where_holds}
use Rattle.at_rest.specs.RestTable.{rest_fed}
use Rattle.tagged_calls.specs.Placeds.{unsealed}
use Rattle.tagged_calls.specs.Locations.{field_from}
use Rattle.tagged_calls.specs.TaggedCalls.{in_copy}
use Rattle.tagged_calls.specs.PlacedKnowing.{IsBegun, IsInCopy}

-- ---- what it becomes

in_copy_by : (s : Spot) (test : Bool) (a b c d : Known) → in_copy s a ≡ c → in_copy s b ≡ d → in_copy s (if test then a else b) ≡ (if test then c else d)
in_copy_by s true a b c d one other = one
in_copy_by s false a b c d one other = other

closes_in_copy : (acked : Stance) (s z : Spot) (t : Task) (w : FieldWord) → in_copy s (closes acked z t w) ≡ closes acked s t w
closes_in_copy Fix s z t (Link birth at) = refl
closes_in_copy Fix s z t (Num n) = refl
closes_in_copy Mark s z t w = refl
closes_in_copy Confirm s z t w = refl
closes_in_copy Search s z t w = refl
closes_in_copy Copy s z t w = refl
closes_in_copy Free s z t w = refl
closes_in_copy Retired s z t w = refl

module _ (acked : Stance) (s z : Spot) where
  loaded_in_copy : (t : Task) (w : FieldWord) → in_copy s (loaded (Swaps z t) acked z t w) ≡ loaded (Swaps_copy s t z.at) acked s t w
  loaded_in_copy Reads w = closes_in_copy acked s z Reads w
  loaded_in_copy (Writes word) w = refl
  loaded_in_copy (Exchanges expected word) w =
      let t = Exchanges expected word in
      in_copy_by s (is_same (value_of w) expected) (Swaps z t w 2) (closes acked z t w) (Swaps_copy s t z.at w 2) (closes acked s t w) refl (closes_in_copy acked s z t w)

  again_in_copy : (t : Task) (x y : FieldWord) (n : ℕ) → in_copy s (again (Swaps z t) z t x y n) ≡ again (Swaps_copy s t z.at) s t x y n
  again_in_copy t x y zero = refl
  again_in_copy t x y (suc n) = refl

  lost_in_copy : (t : Task) (x y : FieldWord) (n : ℕ) → in_copy s (lost (Swaps z t) acked z t x y n) ≡ lost (Swaps_copy s t z.at) acked s t x y n
  lost_in_copy Reads x y n = closes_in_copy acked s z Reads y
  lost_in_copy (Writes word) x y n = again_in_copy (Writes word) x y n
  lost_in_copy (Exchanges expected word) x y n =
      let t = Exchanges expected word in
      in_copy_by s (is_same (value_of y) expected) (again (Swaps z t) z t x y n) (closes acked z t y) (again (Swaps_copy s t z.at) s t x y n) (closes acked s t y) (again_in_copy t x y n) (closes_in_copy acked s z t y)

  exchanged_in_copy : (t : Task) (x y : FieldWord) (n : ℕ) → in_copy s (exchanged (Swaps z t) acked z t x y n) ≡ exchanged (Swaps_copy s t z.at) acked s t x y n
  exchanged_in_copy t x y n =
      in_copy_by s (same_word y x) (Over z t (end_made t y)) (lost (Swaps z t) acked z t x y n) (Over s t (end_made t y)) (lost (Swaps_copy s t z.at) acked s t x y n) refl (lost_in_copy t x y n)

-- ---- of a machine of an object at rest

-- at a word it goes on as at a plain word
pub rest_plainly : (acked : Stance) (own : Option FieldWord) (k : Known) (found : Finds) (z : Spot) → IsBegun k → at_field k ≡ Some z → rest_fed acked own k found ≡ plainly_fed acked k found
rest_plainly acked own (Loads y t) found z begun at = refl
rest_plainly acked own (Stores y word) found z begun at = refl
rest_plainly acked own (Swaps y t x n) found z begun at = refl
rest_plainly acked own (Follows y t m) found z begun at = absurd (let gone : None ≡ Some z = at in cc)
rest_plainly acked own (Over y t end) found z begun at = absurd (let gone : None ≡ Some z = at in cc)
rest_plainly acked own k found z begun at = absurd begun

pub still_begun : (acked : Stance) (k : Known) (found : Finds) (z : Spot) → IsBegun k → at_field k ≡ Some z → IsBegun (plainly_fed acked k found)
still_begun acked (Loads y t) found z begun at = plainly_holds IsBegun acked (Loads y t) found tt tt (λ w n e. tt) (λ b a e. tt) (λ end. tt)
still_begun acked (Stores y word) found z begun at = tt
still_begun acked (Swaps y t x n) found z begun at = plainly_holds IsBegun acked (Swaps y t x n) found tt tt (λ w n e. tt) (λ b a e. tt) (λ end. tt)
still_begun acked (Follows y t m) found z begun at = absurd (let gone : None ≡ Some z = at in cc)
still_begun acked (Over y t end) found z begun at = absurd (let gone : None ≡ Some z = at in cc)
still_begun acked k found z begun at = absurd begun

-- and it loads no phase word
pub begun_current : (v : PassView) (k : Known) (n : ℕ) → IsBegun k → IsCurrent v k n
begun_current v (Loads y t) n begun = tt
begun_current v (Stores y word) n begun = tt
begun_current v (Swaps y t x i) n begun = tt
begun_current v (Follows y t m) n begun = tt
begun_current v (Over y t end) n begun = tt
begun_current v k n begun = absurd begun

pub copy_current : (v : PassView) (s : Spot) (k : Known) (n : ℕ) → IsInCopy s k → IsCurrent v k n
copy_current v s (Loads y t) n there = tt
copy_current v s (Stores y word) n there = tt
copy_current v s (Swaps y t x i) n there = tt
copy_current v s (Follows y t m) n there = tt
copy_current v s (Over y t end) n there = tt
copy_current v s k n there = absurd there

pub begun_plain : (k : Known) (z : Spot) → IsBegun k → at_field k ≡ Some z → IsPlain k
begun_plain (Loads y t) z begun at = tt
begun_plain (Stores y word) z begun at = tt
begun_plain (Swaps y t x n) z begun at = tt
begun_plain (Follows y t m) z begun at = absurd (let gone : None ≡ Some z = at in cc)
begun_plain (Over y t end) z begun at = absurd (let gone : None ≡ Some z = at in cc)
begun_plain k z begun at = absurd begun

pub copy_plain : (s : Spot) (k : Known) (z : Spot) → IsInCopy s k → at_field (in_copy s k) ≡ Some z → IsPlain (in_copy s k)
copy_plain s (Loads y t) z there at = tt
copy_plain s (Stores y word) z there at = tt
copy_plain s (Swaps y t x n) z there at = tt
copy_plain s (Follows y t m) z there at = absurd (let gone : None ≡ Some z = at in cc)
copy_plain s (Over y t end) z there at = absurd (let gone : None ≡ Some z = at in cc)
copy_plain s k z there at = absurd there

-- where the original's word is this one, instead
abbrev pub with_word : Here → FieldWord → Here
with_word x copy = record x { word = copy }

-- in the copy it is at the field that the machine is at
pub copy_field : (s : Spot) (k : Known) (z : Spot) → IsInCopy s k → at_field (in_copy s k) ≡ Some z → at_field k ≡ Some (spot_of k)
copy_field s (Loads y t) z there at = refl
copy_field s (Stores y word) z there at = refl
copy_field s (Swaps y t x n) z there at = refl
copy_field s (Follows y t m) z there at = absurd (let gone : None ≡ Some z = at in cc)
copy_field s (Over y t end) z there at = absurd (let gone : None ≡ Some z = at in cc)
copy_field s k z there at = absurd there

-- and finds the copy's word as if that were the original's
pub copy_word_found : (s : Spot) (k : Known) (p : Stance) (x : Here) (copy : FieldWord) (n : ℕ) → IsInCopy s k → IsWordOf (in_copy s k) (finds p x copy (in_copy s k)) n → IsWordOf k (finds p (with_word x copy) copy k) n
copy_word_found s (Loads y t) p x copy n there word = word
copy_word_found s (Stores y put) p x copy n there word = word
copy_word_found s (Swaps y t v i) p x copy n there word = word
copy_word_found s (Follows y t m) p x copy n there word = word
copy_word_found s (Over y t end) p x copy n there word = word
copy_word_found s k p x copy n there word = absurd there

pub copy_goes : (acked : Stance) (own : Option FieldWord) (s : Spot) (k : Known) (p : Stance) (x : Here) (copy : FieldWord) (z : Spot) → IsInCopy s k → at_field (in_copy s k) ≡ Some z
    → (in_copy s (rest_fed acked own k (finds p (with_word x copy) copy k)) ≡ plainly_fed acked (in_copy s k) (finds p x copy (in_copy s k))) × IsInCopy s (rest_fed acked own k (finds p (with_word x copy) copy k))
copy_goes acked own s (Loads y t) p x copy z there at = (loaded_in_copy acked s y t copy, plainly_holds (IsInCopy s) acked (Loads y t) (Field_word copy) tt there (λ w n e. there) (λ b a e. tt) (λ end. tt))
copy_goes acked own s (Stores y word) p x copy z there at = (refl, tt)
copy_goes acked own s (Swaps y t v n) p x copy z there at = (exchanged_in_copy acked s y t v copy n, plainly_holds (IsInCopy s) acked (Swaps y t v n) (Field_word copy) tt there (λ w i e. there) (λ b a e. tt) (λ end. tt))
copy_goes acked own s (Follows y t m) p x copy z there at = absurd (let gone : None ≡ Some z = at in cc)
copy_goes acked own s (Over y t end) p x copy z there at = absurd (let gone : None ≡ Some z = at in cc)
copy_goes acked own s k p x copy z there at = absurd there

-- it asks for the same step
pub copy_asks : (s : Spot) (k : Known) → IsInCopy s k → step_of k ≡ step_of (in_copy s k)
copy_asks s (Loads y t) there = ap (λ (at : ℕ). Load at) there
copy_asks s (Stores y word) there = ap (λ (at : ℕ). Store at (word_of word)) there
copy_asks s (Swaps y t v n) there = ap (λ (at : ℕ). Exchange at (word_of v) (word_of (put_of t))) there
copy_asks s (Follows y t m) there = refl
copy_asks s (Over y t end) there = refl
copy_asks s k there = absurd there

-- a look there sees all changes so far
sees_now : (t : Task) (w : FieldWord) → unsealed (sees t w SealedOrNow) ≡ sees t w Now
sees_now Reads w = refl
sees_now (Writes word) w = refl
sees_now (Exchanges expected word) w = by (is_same (value_of w) expected)
  where
    by : (b : Bool) → unsealed (if b then Stays else SealedOrNow) ≡ (if b then Stays else Now)
    by true = refl
    by false = refl

sees_then : (t : Task) (w : FieldWord) → unsealed (sees t w Now) ≡ sees t w Now
sees_then Reads w = refl
sees_then (Writes word) w = refl
sees_then (Exchanges expected word) w = by (is_same (value_of w) expected)
  where
    by : (b : Bool) → unsealed (if b then Stays else Now) ≡ (if b then Stays else Now)
    by true = refl
    by false = refl

pub copy_looks : (s : Spot) (k : Known) (p : Stance) (x : Here) (copy : FieldWord) → IsInCopy s k → unsealed (looks None k (finds p (with_word x copy) copy k)) ≡ looks None (in_copy s k) (finds p x copy (in_copy s k))
copy_looks s (Loads y t) p x copy there = sees_now t copy
copy_looks s (Stores y word) p x copy there = refl
copy_looks s (Swaps y t v n) p x copy there = sees_then t copy
copy_looks s (Follows y t m) p x copy there = refl
copy_looks s (Over y t end) p x copy there = refl
copy_looks s k p x copy there = absurd there

-- ---- it follows, and it ends

pub copy_follows : (s : Spot) (k : Known) (z : Spot) (t : Task) (f : FollowMachine) → IsInCopy s k → in_copy s k ≡ Follows z t f → (k ≡ Follows (spot_of k) t f) × (s ≡ z)
copy_follows s (Loads y u) z t f there is = absurd (let gone : Loads_copy s u y.at ≡ Follows z t f = is in cc)
copy_follows s (Stores y word) z t f there is = absurd (let gone : Stores_copy s word y.at ≡ Follows z t f = is in cc)
copy_follows s (Swaps y u v n) z t f there is = absurd (let gone : Swaps_copy s u y.at v n ≡ Follows z t f = is in cc)
copy_follows s (Follows y u m) z t f there is = let same : Follows s u m ≡ Follows z t f = is in (cc, cc)
copy_follows s (Over y u end) z t f there is = absurd (let gone : Over s u end ≡ Follows z t f = is in cc)
copy_follows s k z t f there is = absurd there

pub followed_in_copy : (s z : Spot) (t : Task) (f : FollowMachine) → (in_copy s (followed z t f) ≡ followed s t f) × IsInCopy s (followed z t f)
followed_in_copy s z t (follow.Header birth at) = (refl, tt)
followed_in_copy s z t (follow.Ended end) = (refl, tt)

pub followed_begun : (z : Spot) (t : Task) (f : FollowMachine) → IsBegun (followed z t f)
followed_begun z t (follow.Header birth at) = tt
followed_begun z t (follow.Ended end) = tt

pub copy_ending : (s : Spot) (k : Known) → ending_of (in_copy s k) ≡ ending_of k
copy_ending s (Over y t end) = refl
copy_ending s _ = refl

pub copy_packed : (s : Spot) (k : Known) → IsInCopy s k → IsPacked k → IsPacked (in_copy s k)
copy_packed s (Loads y t) there packed = record { task = packed.task; from = tt }
copy_packed s (Stores y word) there packed = record { task = packed.task; from = tt }
copy_packed s (Swaps y t v n) there packed = record { task = packed.task; from = packed.from }
copy_packed s (Follows y t m) there packed = record { task = packed.task; from = tt }
copy_packed s (Over y t end) there packed = record { task = packed.task; from = tt }
copy_packed s k there packed = absurd there

-- ---- it begins

original_in_copy : (s : Spot) (t : Task) (to : ℕ) → in_copy s (to_original (field_from s to) t) ≡ to_copy s t to
original_in_copy s Reads to = refl
original_in_copy s (Writes word) to = refl
original_in_copy s (Exchanges expected word) to = refl

pub field_in_copy : (s : Spot) (t : Task) (to len : ℕ) → in_copy s (where_field (field_from s to) t len (to_original (field_from s to) t)) ≡ where_field s t len (to_copy s t to)
field_in_copy s t to len =
    in_copy_by s (nat_lt s.field len) (to_original (field_from s to) t) (no_field (field_from s to) t len) (to_copy s t to) (no_field s t len) (original_in_copy s t to) refl

place_in_copy : (s : Spot) (t : Task) (to len : ℕ) → s.field < len → len ≤ MOST_FIELDS → IsInCopy s (to_original (field_from s to) t)
place_in_copy s Reads to len lt few = place_of-spot_of s.birth to s.field len lt few
place_in_copy s (Writes word) to len lt few = place_of-spot_of s.birth to s.field len lt few
place_in_copy s (Exchanges expected word) to len lt few = place_of-spot_of s.birth to s.field len lt few

pub begins_in_copy : (s : Spot) (t : Task) (to len : ℕ) → len ≤ MOST_FIELDS → IsInCopy s (where_field (field_from s to) t len (to_original (field_from s to) t))
begins_in_copy s t to len few = where_holds (IsInCopy s) (field_from s to) t len (to_original (field_from s to) t) (λ lt. place_in_copy s t to len lt few) (λ le. tt)

pub begins_begun : (s : Spot) (t : Task) (len : ℕ) → IsBegun (where_field s t len (to_original s t))
begins_begun s t len = where_holds IsBegun s t len (to_original s t) (λ lt. begun t) (λ le. tt)
  where
    begun : (t : Task) → IsBegun (to_original s t)
    begun Reads = tt
    begun (Writes word) = tt
    begun (Exchanges expected word) = tt
