-- What a step of a call is to the objects, and the words that it finds and leaves in hand.
use Rattle.std.proofs.Common.{◌≡◌, ℕ, inl, inr, refl, true, Option, Some, None}
use Rattle.heap_words.specs.declared.field_word.FieldWord.{FieldWord}
use Rattle.object_headers.specs.declared.header.Header.{Header}
use Rattle.wide_objects.specs.Statuses.{Status}
use Rattle.barriers.specs.declared.spot.Spot.{Spot}
use Rattle.barriers.specs.States.{Absent, Plain, Kept, Tagged, Wide, Moving, Underway, Forward, Dead, On}
use Rattle.barriers.specs.Stances.{Stance}
use Rattle.barriers.specs.Spaces.{Here, held}
use Rattle.barriers.specs.Knowns.{Task, Known, Keeps, Loads, Stores, Swaps, Loads_wide, Swaps_wide, Loads_late, Loads_copy, Stores_copy, Swaps_copy, Finds, Header_word, Field_word, Wide_word, has_field, copy_of, finds, puts}
use Rattle.barriers.specs.Events.{Quiet, Keep, Write, Write_copy, Widen, event}
use Rattle.barriers.specs.Protocols.{OnHand, OnFound, From, word_found}
use Rattle.barriers.proofs.objects.Base.{on_goes}

pub data Outcome (k : Known) (found : Finds) : Type 0 where
  Still : event k found ≡ Quiet → puts k found ≡ None → Outcome k found
  Keeping : event k found ≡ Keep → puts k found ≡ None → Outcome k found
  Putting : (v : FieldWord) → event k found ≡ Write v → puts k found ≡ Some v → Outcome k found
  Putting_copy : (v : FieldWord) → event k found ≡ Write_copy v → puts k found ≡ Some v → Outcome k found
  Widening : (v : FieldWord) → event k found ≡ Widen v → puts k found ≡ Some v → Outcome k found

keep_outcome : (s : Spot) (t : Task) (h : Header) (found : Finds) → Outcome (Keeps s t h) found
keep_outcome s t h (Header_word Tagged colour len) = Keeping refl refl
keep_outcome s t h (Header_word Absent colour len) = Still refl refl
keep_outcome s t h (Header_word Plain colour len) = Still refl refl
keep_outcome s t h (Header_word Kept colour len) = Still refl refl
keep_outcome s t h (Header_word (Wide w) colour len) = Still refl refl
keep_outcome s t h (Header_word (Moving w) colour len) = Still refl refl
keep_outcome s t h (Header_word Underway colour len) = Still refl refl
keep_outcome s t h (Header_word (Forward w) colour len) = Still refl refl
keep_outcome s t h (Header_word Dead colour len) = Still refl refl
keep_outcome s t h _ = Still refl refl

swap_outcome : (s : Spot) (t : Task) (x : FieldWord) (n : ℕ) (found : Finds) (o : Option FieldWord) → puts (Swaps s t x n) found ≡ o → Outcome (Swaps s t x n) found
swap_outcome s t x n found None e = Still (rw e refl) e
swap_outcome s t x n found (Some v) e = Putting v (rw e refl) e

copy_outcome : (s : Spot) (t : Task) (to : ℕ) (x : FieldWord) (n : ℕ) (found : Finds) (o : Option FieldWord) → puts (Swaps_copy s t to x n) found ≡ o → Outcome (Swaps_copy s t to x n) found
copy_outcome s t to x n found None e = Still (rw e refl) e
copy_outcome s t to x n found (Some v) e = Putting_copy v (rw e refl) e

wide_outcome : (s : Spot) (t : Task) (w : ℕ) (x : Status) (n : ℕ) (found : Finds) (o : Option FieldWord) → puts (Swaps_wide s t w x n) found ≡ o → Outcome (Swaps_wide s t w x n) found
wide_outcome s t w x n found None e = Still (rw e refl) e
wide_outcome s t w x n found (Some v) e = Widening v (rw e refl) e

pub outcome : (k : Known) (found : Finds) → Outcome k found
outcome (Keeps s t h) found = keep_outcome s t h found
outcome (Stores s w) found = Putting w refl refl
outcome (Stores_copy s w to) found = Putting_copy w refl refl
outcome (Swaps s t x n) found = swap_outcome s t x n found (puts (Swaps s t x n) found) refl
outcome (Swaps_copy s t to x n) found = copy_outcome s t to x n found (puts (Swaps_copy s t to x n) found) refl
outcome (Swaps_wide s t w x n) found = wide_outcome s t w x n found (puts (Swaps_wide s t w x n) found) refl
outcome _ found = Still refl refl

-- ---- words

-- the word found, where the words that it may be hold
pub found_on : (Q : ℕ → ℕ → Type 0) (p : Stance) (x : Here) (d : FieldWord) (k : Known) → (has_field k ≡ true → On Q x.word) → (has_field k ≡ true → On Q (held x.status)) → ((to : ℕ) → copy_of k ≡ Some to → On Q d) → OnFound Q (finds p x d k)
found_on Q p x d (Loads s t) a b h = a refl
found_on Q p x d (Swaps s t w n) a b h = a refl
found_on Q p x d (Loads_wide s t w) a b h = b refl
found_on Q p x d (Swaps_wide s t w u n) a b h = b refl
found_on Q p x d (Loads_late s t w) a b h = a refl
found_on Q p x d (Loads_copy s t to) a b h = h to refl
found_on Q p x d (Swaps_copy s t to w n) a b h = h to refl
found_on Q p x d _ a b h = tt

pub found_goes : (P Q : ℕ → ℕ → Type 0) → ((b a : ℕ) → P b a → Q b a) → (found : Finds) → OnFound P found → OnFound Q found
found_goes P Q f (Field_word w) h = on_goes P Q f w h
found_goes P Q f (Wide_word u) h = on_goes P Q f (held u) h
found_goes P Q f _ h = tt

-- the word in hand after a step
pub hand_holds : (Q : ℕ → ℕ → Type 0) (own o : Option FieldWord) (found : Finds) (q : Option FieldWord) → OnHand Q own → OnHand Q o → OnFound Q found → From own o (word_found found) q → OnHand Q q
hand_holds Q own o found q a b h (inl e) = rw e tt
hand_holds Q own o found q a b h (inr (inl e)) = rw e b
hand_holds Q own o found q a b h (inr (inr (inl e))) = rw e (on_found Q found h)
  where
    on_found : (Q : ℕ → ℕ → Type 0) (found : Finds) → OnFound Q found → OnHand Q (word_found found)
    on_found Q (Field_word w) h = h
    on_found Q (Wide_word u) h = h
    on_found Q _ h = tt
hand_holds Q own o found q a b h (inr (inr (inr e))) = rw e a
