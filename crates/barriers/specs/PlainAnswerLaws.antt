-- What a call has found out at a word that it loads, stores or exchanges, as the laws of a copier ask it.
use Rattle.std.specs.Prelude.{if◌then◌else◌}
use Rattle.std.proofs.Common.{◌≡◌, ℕ, ◌<◌, ◌≤◌, zero, suc, refl, sym, ap, ◌∙◌, arith, Bool, true, false, Option, Some, None, List}
use Rattle.heap_words.specs.declared.field_word.FieldWord.{FieldWord}
use Rattle.heap_history.specs.FixedHeaps.{is_same}
use Rattle.heap_history.specs.NewestFirst.{value_at}
use Rattle.heap_history.specs.declared.call.Call.{Call}
use Rattle.heap_history.specs.declared.call.Value.{Value}
use Rattle.barriers.specs.declared.spot.Spot.{Spot}
use Rattle.barriers.specs.declared.front.Front.{Front}
use Rattle.barriers.specs.declared.front.Front.TheVariants.{Stays, Now, SealedOrNow}
use Rattle.barriers.specs.declared.ends.TryRefusal.TheVariants as refusal
use Rattle.barriers.specs.States.{same_word}
use Rattle.barriers.specs.Stances.{Stance}
use Rattle.barriers.specs.Spaces.{Here, is_mark}
use Rattle.barriers.specs.Values.{value_of}
use Rattle.barriers.specs.Cycles.{Side}
use Rattle.barriers.specs.Knowns.{Task, Reads, Writes, Exchanges, Refused, Known, Loads, Stores, Swaps, Loads_copy, Stores_copy, Swaps_copy, Over, Finds, Field_word, has_field, has_found, spot_of, word_in, puts, wanted, wanted_of, sees_by, looks, front, found_ending, closes}
use Rattle.barriers.specs.Protocols.{Wants, WantsAt, IsReply, Answers, Answered, seen_after}
use Rattle.barriers.specs.PlainCallLaws.{IsAnswer, IsPlain, by_test, closes_cases, where_holds}
use Rattle.barriers.specs.PlainCalls.{no_field, to_original, to_copy, where_field, loaded, end_made, again, lost, exchanged, plainly_fed}

-- ---- what it has found out

-- what its look at a plain word makes of what its pass has seen, where the word is its answer
abbrev pub look_of : Known → Front
look_of (Loads s t) = SealedOrNow
look_of k = Now

-- the word that it finds has the value that the field then had
abbrev pub Tells : List Call → Side → Option (List Call) → Spot → Known → Finds → Type 0
Tells h side seal s k found = (w : FieldWord) → found ≡ Field_word w → value_of w ≡ value_at (front (look_of k) seal h side.seen) s.birth s.field

pub same_words : (x y : FieldWord) → same_word x y ≡ true → x ≡ y
same_words x y same = grind (arith, same)

pub same_values : (a b : Value) → is_same a b ≡ true → a ≡ b
same_values a b same = grind (arith, same)

tested : (test : Bool) (word : Option FieldWord) (v : FieldWord) → (if test then word else None) ≡ Some v → test ≡ true
tested true word v put = refl
tested false word v put = absurd cc

front_kept : (test : Bool) (f : Front) → (if test then f else f) ≡ f
front_kept true f = refl
front_kept false f = refl

sees_answer : (own : Option FieldWord) (t : Task) (x : FieldWord) (f : Front) → IsAnswer t x → sees_by own t (Field_word x) f ≡ f
sees_answer own Reads x f answer = front_kept (is_mark own x) f
sees_answer own (Writes word) x f answer = absurd answer
sees_answer own (Exchanges expected word) x f answer = ap (λ b. if is_mark own x then f else (if b then Stays else f)) answer ∙ front_kept (is_mark own x) f

is_reply : (t : Task) (x : FieldWord) → IsAnswer t x → IsReply t x
is_reply Reads x answer = tt
is_reply (Writes word) x answer = answer
is_reply (Exchanges expected word) x answer = answer

ends_answered : (s : Spot) (t : Task) (x : FieldWord) (seen : List Call) → Answers seen s t x → Answered seen (Over s t (found_ending t x))
ends_answered s Reads x seen answers = answers
ends_answered s (Writes word) x seen answers = tt
ends_answered s (Exchanges expected word) x seen answers = answers

pub closes_answered : (acked : Stance) (s : Spot) (t : Task) (x : FieldWord) (seen : List Call) → IsAnswer t x → value_of x ≡ value_at seen s.birth s.field → Answered seen (closes acked s t x)
closes_answered acked s t x seen answer value =
    let answers : Answers seen s t x = record { value = value; reply = is_reply t x answer } in
    closes_cases (Answered seen) acked s t x (λ birth at same. rw same at answers) (ends_answered s t x seen answers)

-- by what a pass has then seen, and its exchanges
module _ (acked : Stance) (s : Spot) (seen : List Call) where
  -- the value is the field's, where the word is the call's answer
  abbrev pub Told : Task → FieldWord → Type 0
  Told t x = IsAnswer t x → value_of x ≡ value_at seen s.birth s.field

  module _ (t : Task) (swaps : FieldWord → ℕ → Known) (stays : (x : FieldWord) (n : ℕ) → WantsAt t x → Answered seen (swaps x n)) where
    again_answered : (x y : FieldWord) (n : ℕ) → WantsAt t y → Answered seen (again swaps s t x y n)
    again_answered x y zero wants = tt
    again_answered x y (suc n) wants = stays y n wants

  pub loaded_answered : (t : Task) (swaps : FieldWord → ℕ → Known) → ((x : FieldWord) (n : ℕ) → WantsAt t x → Answered seen (swaps x n)) → (x : FieldWord) → Told t x → Answered seen (loaded swaps acked s t x)
  loaded_answered Reads swaps stays x told = closes_answered acked s Reads x seen tt (told tt)
  loaded_answered (Writes word) swaps stays x told = stays x 2 tt
  loaded_answered (Exchanges expected word) swaps stays x told =
      by_test (Answered seen) (is_same (value_of x) expected) (swaps x 2) (closes acked s (Exchanges expected word) x)
      (λ yes. stays x 2 (same_values (value_of x) expected yes))
      (λ no. closes_answered acked s (Exchanges expected word) x seen no (told no))

  pub lost_answered : (t : Task) (swaps : FieldWord → ℕ → Known) → ((x : FieldWord) (n : ℕ) → WantsAt t x → Answered seen (swaps x n)) → (x y : FieldWord) (n : ℕ) → Told t y → Answered seen (lost swaps acked s t x y n)
  lost_answered Reads swaps stays x y n told = closes_answered acked s Reads y seen tt (told tt)
  lost_answered (Writes word) swaps stays x y n told = again_answered (Writes word) swaps stays x y n tt
  lost_answered (Exchanges expected word) swaps stays x y n told =
      by_test (Answered seen) (is_same (value_of y) expected) (again swaps s (Exchanges expected word) x y n) (closes acked s (Exchanges expected word) y)
      (λ yes. again_answered (Exchanges expected word) swaps stays x y n (same_values (value_of y) expected yes))
      (λ no. closes_answered acked s (Exchanges expected word) y seen no (told no))

-- with its own change, all changes were seen
pub exchanged_answered : (acked : Stance) (side : Side) (s : Spot) (k : Known) (x : Here) (found : Finds) (h : List Call) (t : Task) (swaps : FieldWord → ℕ → Known) (from y : FieldWord) (n : ℕ) (test : Bool) → same_word y from ≡ test
    → ((seen : List Call) (w : FieldWord) (m : ℕ) → WantsAt t w → Answered seen (swaps w m)) → (IsAnswer t y → value_of y ≡ value_at (front (looks side.own k found) x.seal h side.seen) s.birth s.field)
    → Answered (seen_after (if test then word_in t else None) side s k x found h) (if test then Over s t (end_made t y) else lost swaps acked s t from y n)
exchanged_answered acked side s k x found h Reads swaps from y n true is stays told = record { value = told tt; reply = tt }
exchanged_answered acked side s k x found h (Writes word) swaps from y n true is stays told = tt
exchanged_answered acked side s k x found h (Exchanges expected word) swaps from y n true is stays told = tt
exchanged_answered acked side s k x found h t swaps from y n false is stays told = lost_answered acked s (front (looks side.own k found) x.seal h side.seen) t swaps (stays (front (looks side.own k found) x.seal h side.seen)) from y n told

module _ (acked : Stance) (h : List Call) (side : Side) (s : Spot) (x : Here) where
  -- what its look then is
  told_by : (t : Task) (w : FieldWord) (own : Option FieldWord) (f : Front) → value_of w ≡ value_at (front f x.seal h side.seen) s.birth s.field → IsAnswer t w → value_of w ≡ value_at (front (sees_by own t (Field_word w) f) x.seal h side.seen) s.birth s.field
  told_by t w own f value answer = value ∙ ap (λ g. value_at (front g x.seal h side.seen) s.birth s.field) (sym (sees_answer own t w f answer))

  pub plainly_answered : (k : Known) (found : Finds) → IsPlain k → spot_of k ≡ s → Tells h side x.seal s k found → Answered side.seen k → Answered (seen_after (puts k found) side s k x found h) (plainly_fed acked k found)
  plainly_answered (Loads z t) (Field_word w) is same tells was = rw same (loaded_answered acked s (front (sees_by side.own t (Field_word w) SealedOrNow) x.seal h side.seen) t (Swaps s t) (λ y n wants. wants) w (told_by t w side.own SealedOrNow (tells w refl)))
  plainly_answered (Loads z t) found is same tells was = tt
  plainly_answered (Stores z word) found is same tells was = tt
  plainly_answered (Swaps z t from n) (Field_word w) is same tells was = rw same (exchanged_answered acked side s (Swaps s t from n) x (Field_word w) h t (Swaps s t) from w n (same_word w from) refl (λ seen y m wants. wants) (told_by t w side.own Now (tells w refl)))
  plainly_answered (Swaps z t from n) found is same tells was = was
  plainly_answered (Loads_copy z t to) (Field_word w) is same tells was = rw same (loaded_answered acked s (front (sees_by None t (Field_word w) Now) x.seal h side.seen) t (Swaps_copy s t to) (λ y n wants. wants) w (told_by t w None Now (tells w refl)))
  plainly_answered (Loads_copy z t to) found is same tells was = tt
  plainly_answered (Stores_copy z word to) found is same tells was = tt
  plainly_answered (Swaps_copy z t to from n) (Field_word w) is same tells was = rw same (exchanged_answered acked side s (Swaps_copy s t to from n) x (Field_word w) h t (Swaps_copy s t to) from w n (same_word w from) refl (λ seen y m wants. wants) (told_by t w None Now (tells w refl)))
  plainly_answered (Swaps_copy z t to from n) found is same tells was = was
  plainly_answered k found is same tells was = absurd is

  -- the value that an exchange wants was there
  wants_by : (t : Task) (w from v : FieldWord) → value_of w ≡ value_at h s.birth s.field → WantsAt t from → (if same_word w from then word_in t else None) ≡ Some v → Wants (wanted_of t) (value_at h s.birth s.field)
  wants_by Reads w from v value was put = tt
  wants_by (Writes word) w from v value was put = tt
  wants_by (Exchanges expected word) w from v value was put = sym value ∙ ap value_of (same_words w from (tested (same_word w from) (Some word) v put)) ∙ was

  pub plainly_wants : (k : Known) (found : Finds) (w : FieldWord) → IsPlain k → Tells h side x.seal s k found → Answered side.seen k → puts k found ≡ Some w → Wants (wanted k) (value_at h s.birth s.field)
  plainly_wants (Loads z t) found w is tells was put = tt
  plainly_wants (Stores z word) found w is tells was put = tt
  plainly_wants (Swaps z t from n) (Field_word y) w is tells was put = wants_by t y from w (tells y refl) was put
  plainly_wants (Swaps z t from n) found w is tells was put = absurd cc
  plainly_wants (Loads_copy z t to) found w is tells was put = tt
  plainly_wants (Stores_copy z word to) found w is tells was put = tt
  plainly_wants (Swaps_copy z t to from n) (Field_word y) w is tells was put = wants_by t y from w (tells y refl) was put
  plainly_wants (Swaps_copy z t to from n) found w is tells was put = absurd cc
  plainly_wants k found w is tells was put = absurd is

-- ---- before it is at the word

pub original_answered : (s : Spot) (t : Task) (seen : List Call) → Answered seen (to_original s t)
original_answered s Reads seen = tt
original_answered s (Writes word) seen = tt
original_answered s (Exchanges expected word) seen = tt

pub copy_answered : (s : Spot) (t : Task) (to : ℕ) (seen : List Call) → Answered seen (to_copy s t to)
copy_answered s Reads to seen = tt
copy_answered s (Writes word) to seen = tt
copy_answered s (Exchanges expected word) to seen = tt

-- ---- the length that it was refused with

pub where_inside : (s : Spot) (t : Task) (len : ℕ) (next : Known) → has_field (where_field s t len next) ≡ true → s.field < len
where_inside s t len next = where_holds (λ k. has_field k ≡ true → s.field < len) s t len next (λ lt has. lt) (λ le has. absurd cc)

-- before it is at the word it has found nothing
pub where_found : (s : Spot) (t : Task) (len : ℕ) (next : Known) → has_found next ≡ false → has_found (where_field s t len next) ≡ true → ⊥
where_found s t len next none = where_holds (λ k. has_found k ≡ true → ⊥) s t len next (λ lt has. absurd cc) (λ le has. absurd cc)

pub original_found : (s : Spot) (t : Task) → has_found (to_original s t) ≡ false
original_found s Reads = refl
original_found s (Writes word) = refl
original_found s (Exchanges expected word) = refl

pub copy_found : (s : Spot) (t : Task) (to : ℕ) → has_found (to_copy s t to) ≡ false
copy_found s Reads to = refl
copy_found s (Writes word) to = refl
copy_found s (Exchanges expected word) to = refl

-- the length of an object that lacks the field, where that ended the call
abbrev pub lacking : Known → Option ℕ
lacking (Over s t (Refused (refusal.NoField len))) = Some len
lacking k = None

pub lacking_none : (k : Known) (s : Spot) (t : Task) (len : ℕ) → lacking k ≡ None → k ≡ no_field s t len → ⊥
lacking_none k s t len none is = let gone : None ≡ Some len = sym none ∙ ap lacking is in cc

pub closes_lacking : (acked : Stance) (s : Spot) (t : Task) (x : FieldWord) → lacking (closes acked s t x) ≡ None
closes_lacking acked s t x = closes_cases (λ k. lacking k ≡ None) acked s t x (λ birth at same. refl) (ends t)
  where
    ends : (t : Task) → lacking (Over s t (found_ending t x)) ≡ None
    ends Reads = refl
    ends (Writes word) = refl
    ends (Exchanges expected word) = refl

same_lack : (s z : Spot) (t u : Task) (len other : ℕ) → no_field s t len ≡ no_field z u other → len ≡ other
same_lack s z t u len other is = cc

pub where_refused : (s : Spot) (t : Task) (len : ℕ) (next : Known) (z : Spot) (u : Task) (short : ℕ) → lacking next ≡ None → where_field s t len next ≡ no_field z u short → (short ≡ len) × (len ≤ s.field)
where_refused s t len next z u short none = where_holds (λ k. k ≡ no_field z u short → (short ≡ len) × (len ≤ s.field)) s t len next (λ lt is. absurd (lacking_none next z u short none is)) (λ le is. (sym (same_lack s z t u len short is), le))

pub original_lacking : (s : Spot) (t : Task) → lacking (to_original s t) ≡ None
original_lacking s Reads = refl
original_lacking s (Writes word) = refl
original_lacking s (Exchanges expected word) = refl

pub copy_lacking : (s : Spot) (t : Task) (to : ℕ) → lacking (to_copy s t to) ≡ None
copy_lacking s Reads to = refl
copy_lacking s (Writes word) to = refl
copy_lacking s (Exchanges expected word) to = refl

module _ (acked : Stance) (s : Spot) (swaps : FieldWord → ℕ → Known) (on : (x : FieldWord) (n : ℕ) → lacking (swaps x n) ≡ None) where
  loaded_lacking : (t : Task) (x : FieldWord) → lacking (loaded swaps acked s t x) ≡ None
  loaded_lacking Reads x = closes_lacking acked s Reads x
  loaded_lacking (Writes word) x = on x 2
  loaded_lacking (Exchanges expected word) x = by_test (λ k. lacking k ≡ None) (is_same (value_of x) expected) (swaps x 2) (closes acked s (Exchanges expected word) x) (λ y. on x 2) (λ n. closes_lacking acked s (Exchanges expected word) x)

  again_lacking : (t : Task) (x y : FieldWord) (n : ℕ) → lacking (again swaps s t x y n) ≡ None
  again_lacking t x y zero = refl
  again_lacking t x y (suc n) = on y n

  lost_lacking : (t : Task) (x y : FieldWord) (n : ℕ) → lacking (lost swaps acked s t x y n) ≡ None
  lost_lacking Reads x y n = closes_lacking acked s Reads y
  lost_lacking (Writes word) x y n = again_lacking (Writes word) x y n
  lost_lacking (Exchanges expected word) x y n = by_test (λ k. lacking k ≡ None) (is_same (value_of y) expected) (again swaps s (Exchanges expected word) x y n) (closes acked s (Exchanges expected word) y) (λ q. again_lacking (Exchanges expected word) x y n) (λ q. closes_lacking acked s (Exchanges expected word) y)

  made_lacking : (t : Task) (y : FieldWord) → lacking (Over s t (end_made t y)) ≡ None
  made_lacking Reads y = refl
  made_lacking (Writes word) y = refl
  made_lacking (Exchanges expected word) y = refl

  exchanged_lacking : (t : Task) (x y : FieldWord) (n : ℕ) → lacking (exchanged swaps acked s t x y n) ≡ None
  exchanged_lacking t x y n = by_test (λ k. lacking k ≡ None) (same_word y x) (Over s t (end_made t y)) (lost swaps acked s t x y n) (λ q. made_lacking t y) (λ q. lost_lacking t x y n)

-- no step at a plain word ends so
pub plainly_lacking : (acked : Stance) (k : Known) (found : Finds) → IsPlain k → lacking (plainly_fed acked k found) ≡ None
plainly_lacking acked (Loads s t) (Field_word x) is = loaded_lacking acked s (Swaps s t) (λ y n. refl) t x
plainly_lacking acked (Loads s t) found is = refl
plainly_lacking acked (Stores s word) found is = refl
plainly_lacking acked (Swaps s t x n) (Field_word y) is = exchanged_lacking acked s (Swaps s t) (λ y n. refl) t x y n
plainly_lacking acked (Swaps s t x n) found is = refl
plainly_lacking acked (Loads_copy s t to) (Field_word x) is = loaded_lacking acked s (Swaps_copy s t to) (λ y n. refl) t x
plainly_lacking acked (Loads_copy s t to) found is = refl
plainly_lacking acked (Stores_copy s word to) found is = refl
plainly_lacking acked (Swaps_copy s t to x n) (Field_word y) is = exchanged_lacking acked s (Swaps_copy s t to) (λ y n. refl) t x y n
plainly_lacking acked (Swaps_copy s t to x n) found is = refl
plainly_lacking acked k found is = absurd is
