-- What a look at a word of a wide object finds is what is known of it, and a call goes on from a Wide header as is known of it.
use Rattle.std.specs.Prelude.{ℕ, ◌+◌, ◌^◌, ◌<◌, ◌≤◌, ◌==◌, nat_lt, if◌then◌else◌}
use Rattle.std.proofs.Common.{◌≡◌, refl, sym, ap, subst, ◌∙◌, arith, Bool, true, false, Option, Some, None, IfSome, unwrap_or, lit<}
use Rattle.std.proofs.lemmas.Bool.{eqb-true}
use Rattle.std.proofs.lemmas.Bool.Decides.{nat_tests}
use Rattle.heap_words.specs.declared.limits.TheConstants.{MOST_FIELDS}
use Rattle.heap_words.specs.declared.field_word.FieldWord.{FieldWord}
use Rattle.heap_words.specs.declared.field_word.FieldWord.TheVariants.{Num}
use Rattle.heap_words.specs.FieldWords.{IsFieldWord, field_of, field_at}
use Rattle.heap_words.specs.FieldWordLaws.{field_of-fits}
use Rattle.wide_objects.specs.declared.wide_word.WideWord.{WideWord}
use Rattle.wide_objects.specs.WideWords.{wide_word_of, wide_word_at, at_rest}
use Rattle.wide_objects.specs.Statuses.{Status, InOriginal, InWide, InCopy, IsStatus, word_of_status, status_at, wide_of_status}
use Rattle.wide_objects.specs.StatusLaws.{wide_word_of-word_of_status, status_at-word_of_status, word_of_status-injective}
use Rattle.barriers.specs.declared.spot.Spot.{Spot}
use Rattle.barriers.specs.Spots.{place_of-spot_of}
use Rattle.barriers.specs.States.{State, Absent, Plain, Kept, Tagged, Wide, Moving, Underway, Forward, Dead, same_word}
use Rattle.barriers.specs.PlainAnswerLaws.{same_words}
use Rattle.barriers.specs.Spaces.{same_status}
use Rattle.barriers.specs.Knowns.{Task, Known, Loads_wide, Wide_word, wide_front, place_in}
use Rattle.barriers.specs.Causes.{len_at}
use Rattle.barriers.specs.PlainCalls.{no_field, where_field}
use Rattle.tagged_calls.specs.declared.location.Location.{Location}
use Rattle.tagged_calls.specs.declared.location.Location.TheVariants as location
use Rattle.tagged_calls.specs.Locations.{field_from, location_in}
use Rattle.tagged_calls.specs.LocationLaws.{location_for}
use Rattle.tagged_calls.specs.TaggedCalls.{as_at_rest, by_kept}
use Rattle.stopless_copy.specs.WideSteps.{address_at, wide_first}
use Rattle.stopless_copy.specs.WideSteps as steps
use Rattle.stopless_copy.specs.StoplessKnowing.{IsWideOf, IsPackedStatus}

-- ---- a word of the wide object

module _ (u : Status) (n : ℕ) (is : (n ≡ word_of_status u) × IsStatus u) where
  pub wide_found : wide_word_at n ≡ wide_of_status u
  unfolding wide_word_at
  wide_found = ap (λ (word : ℕ). unwrap_or (wide_word_of word) at_rest) is.0 ∙ ap (λ (o : Option WideWord). unwrap_or o at_rest) (wide_word_of-word_of_status u is.1)

  pub status_found : status_at n ≡ u
  status_found = ap status_at is.0 ∙ status_at-word_of_status u is.1

  pub packed_status : IsPackedStatus n
  packed_status = record { same = is.0 ∙ ap word_of_status (sym status_found); fits = subst IsStatus (sym status_found) is.1 }

front_of : (u : Status) → (let w = wide_of_status u in steps.front_by w.status) ≡ wide_front (Wide_word u)
front_of InOriginal = refl
front_of (InWide w) = refl
front_of (InCopy w) = refl

-- a look at it has seen what is known of it
pub wide_looks : (u : Status) (n : ℕ) → (n ≡ word_of_status u) × IsStatus u → steps.wide_front n ≡ wide_front (Wide_word u)
wide_looks u n is = ap (λ (w : WideWord). steps.front_by w.status) (wide_found u n is) ∙ front_of u

-- ---- the words that it puts

fits_by : (o : Option FieldWord) → IfSome o IsFieldWord → IsFieldWord (unwrap_or o (Num 0))
fits_by (Some w) fits = fits
fits_by None fits = lit< tt

-- a field's word has a wide word
pub field_at-fits : (word : ℕ) → IsFieldWord (field_at word)
unfolding field_at
field_at-fits word = fits_by (field_of word) (field_of-fits word)

-- ---- two words of statuses

same_status-itself : (u : Status) → same_status u u ≡ true
same_status-itself InOriginal = refl
same_status-itself (InWide w) = same w
  where
    same : (w : FieldWord) → same_word w w ≡ true
    same w = grind (arith, nat_tests)
same_status-itself (InCopy w) = grind (arith, nat_tests)

pub same_statuses : (u x : Status) → same_status u x ≡ true → u ≡ x
same_statuses InOriginal InOriginal e = refl
same_statuses (InWide v) (InWide w) e = ap InWide (same_words v w e)
same_statuses (InCopy v) (InCopy w) e = ap InCopy (same_words v w e)
same_statuses InOriginal (InWide w) e = absurd cc
same_statuses InOriginal (InCopy w) e = absurd cc
same_statuses (InWide v) InOriginal e = absurd cc
same_statuses (InWide v) (InCopy w) e = absurd cc
same_statuses (InCopy v) InOriginal e = absurd cc
same_statuses (InCopy v) (InWide w) e = absurd cc

itself : (m : ℕ) → (m == m) ≡ true
itself m = grind (arith, nat_tests)

packed_so : (u x : Status) (b c : Bool) → IsStatus u → IsStatus x → same_status u x ≡ b → (word_of_status u == word_of_status x) ≡ c → c ≡ b
packed_so u x true true fu fx e f = refl
packed_so u x false false fu fx e f = refl
packed_so u x true false fu fx e f =
    let one : (word_of_status u == word_of_status x) ≡ true = subst (λ (y : Status). (word_of_status u == word_of_status y) ≡ true) (same_statuses u x e) (itself (word_of_status u)) in
    absurd cc
packed_so u x false true fu fx e f =
    let one = word_of_status-injective u x fu fx (eqb-true (word_of_status u) (word_of_status x) f) in
    let same : same_status u x ≡ true = subst (λ (y : Status). same_status u y ≡ true) one (same_status-itself u) in
    absurd cc

-- an exchange wins where it finds what it wanted
pub wide_wins : (u : Status) (n wanted : ℕ) → (n ≡ word_of_status u) × IsStatus u → IsPackedStatus wanted → (n == wanted) ≡ same_status u (status_at wanted)
wide_wins u n wanted is wants =
    ap (λ (word : ℕ). word == wanted) is.0 ∙ (ap (λ (word : ℕ). word_of_status u == word) wants.same
    ∙ packed_so u (status_at wanted) (same_status u (status_at wanted)) (word_of_status u == word_of_status (status_at wanted)) is.1 wants.fits refl refl)

-- ---- the copy's address

pub address_found : (to n : ℕ) → (n ≡ to) × (to < 2 ^ 20) → address_at n ≡ to
address_found to n is = grind (arith, nat_tests, is)

pub field_place : (spot : Spot) (at : ℕ) → spot.field < MOST_FIELDS → (let s = field_from spot at in s.place) ≡ place_in at spot
field_place spot at few = place_of-spot_of spot.birth at spot.field (spot.field + 1) (omega arith) (omega (arith, few))

pub is_wide_of : (spot : Spot) (at : ℕ) → spot.field < MOST_FIELDS → IsWideOf spot (field_from spot at)
is_wide_of spot at few = record { place = field_place spot at few; few = few }

-- ---- it goes on from a header

-- of machines that are known so, which go on at the wide object, or at the word of an object at rest
module _ {M : Type 0} (known : M → Known) (For : M → Type 0) (wide : Spot → M) (place : Location → M) (s : Spot) (t : Task) where
  abbrev Becomes : M → Known → Type 0
  Becomes m k = (known m ≡ k) × For m

  -- by the header of this length that was loaded before
  module _ (len header : ℕ) (is_len : len_at header ≡ len) (few : len ≤ MOST_FIELDS) (widens : (at : ℕ) → IsWideOf s (field_from s at) → Becomes (wide (field_from s at)) (Loads_wide s t at)) where
    at_wide_by : (at : ℕ) (b : Bool) → nat_lt s.field len ≡ b → Becomes (place (location.Wide (field_from s at))) (if b then as_at_rest s t at else no_field s t len) → Becomes (if b then wide (field_from s at) else place (location.Wide (field_from s at))) (if b then Loads_wide s t at else no_field s t len)
    at_wide_by at true lt so = widens at (is_wide_of s at (grind (arith, nat_tests, lt, few)))
    at_wide_by at false lt so = so

    -- in each state
    state_goes : (word : ℕ) (y : State) → Becomes (place (location_for s word y)) (where_field s t len (by_kept as_at_rest s t y))
        → Becomes (wide_first wide place s header (location_for s word y)) (where_field s t len (by_kept Loads_wide s t y))
    state_goes word (Wide at) so =
        subst (λ (l : ℕ). Becomes (if nat_lt s.field l then wide (field_from s at) else place (location.Wide (field_from s at))) (where_field s t len (Loads_wide s t at))) (sym is_len)
        (at_wide_by at (nat_lt s.field len) refl so)
    state_goes word Absent so = so
    state_goes word Plain so = so
    state_goes word Kept so = so
    state_goes word Tagged so = so
    state_goes word (Moving to) so = so
    state_goes word Underway so = so
    state_goes word (Forward to) so = so
    state_goes word Dead so = so

    -- by the header that was found last
    pub first_goes : (word : ℕ) (y : State) → location_in s word ≡ location_for s word y → Becomes (place (location_in s word)) (where_field s t len (by_kept as_at_rest s t y))
        → Becomes (wide_first wide place s header (location_in s word)) (where_field s t len (by_kept Loads_wide s t y))
    first_goes word y there so =
        subst (λ (l : Location). Becomes (wide_first wide place s header l) (where_field s t len (by_kept Loads_wide s t y))) (sym there)
        (state_goes word y (subst (λ (l : Location). Becomes (place l) (where_field s t len (by_kept as_at_rest s t y))) there so))

    -- where the object has the field
    pub inside_goes : (word : ℕ) (y : State) → nat_lt s.field len ≡ true → location_in s word ≡ location_for s word y → Becomes (place (location_in s word)) (by_kept as_at_rest s t y)
        → Becomes (wide_first wide place s header (location_in s word)) (by_kept Loads_wide s t y)
    inside_goes word y inside there so =
        let all = first_goes word y there (subst (λ (b : Bool). Becomes (place (location_in s word)) (if b then by_kept as_at_rest s t y else no_field s t len)) (sym inside) so) in
        subst (λ (b : Bool). Becomes (wide_first wide place s header (location_in s word)) (if b then by_kept Loads_wide s t y else no_field s t len)) inside all
