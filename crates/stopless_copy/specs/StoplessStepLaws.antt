-- The laws of a step of Stopless's calls, at one field of one object.
use Rattle.std.specs.Prelude.{if◌then◌else◌}
use Rattle.std.proofs.Common.{◌≡◌, ℕ, ◌<◌, refl, sym, ap, subst, ◌∙◌, arith, Bool, true, false, Option, Some, None, List}
use Rattle.heap_words.specs.declared.field_word.FieldWord.{FieldWord}
use Rattle.wide_objects.specs.Statuses.{Status, InOriginal, InWide, InCopy}
use Rattle.heap_history.specs.NewestFirst.{value_at}
use Rattle.heap_history.specs.declared.call.Call.{Call}
use Rattle.barriers.specs.declared.spot.Spot.{Spot}
use Rattle.barriers.specs.States.{State, Wide, Forward, IsLive}
use Rattle.barriers.specs.Spaces.{Here, place_word, held, same_status}
use Rattle.barriers.specs.Says.{IsChange}
use Rattle.barriers.specs.Values.{value_of}
use Rattle.barriers.specs.Cycles.{Cycle, Side}
use Rattle.barriers.specs.Knowns.{Task, Reads, Writes, Exchanges, Known, Loads_header, Keeps, Loads, Stores, Swaps, Loads_wide, Swaps_wide, Loads_late, Loads_address, Loads_copy, Stores_copy, Swaps_copy, Follows, Over, Field_word, Wide_word, at_field, has_field, wide_front, word_in, finds, puts, wanted, wanted_of, front, sealed_or, closes}
use Rattle.barriers.specs.Events.{after, put_event, event, IsCopied}
use Rattle.barriers.specs.Protocols.{TargetIs, Wants, WantsAt, Answered, seen_after}
use Rattle.barriers.specs.PlainCalls.{loaded, end_made, plainly_fed}
use Rattle.barriers.specs.PlainCallLaws.{spot_at, closes_cases, plainly_holds, where_holds}
use Rattle.barriers.specs.PlainAnswerLaws.{Tells, closes_answered, copy_answered}
use Rattle.tagged_calls.specs.TaggedCalls.{by_header}
use Rattle.tagged_calls.specs.TaggedTable.{MayStore}
use Rattle.tagged_calls.specs.TaggedTableLaws.{store_place, sealed_value}
use Rattle.tagged_calls.specs.TaggedCallLaws.{IsTaggedCall}
use Rattle.stopless_copy.specs.StoplessTable.{from_original, by_wide, lost_wide, stopless_fed, IsSealed, IsAtWide, IsCompared, IsAtCopy, StoplessOwn, StoplessState, StoplessShape}
use Rattle.stopless_copy.specs.WideLaws.{same_statuses}
use Rattle.stopless_copy.specs.WideCallLaws.{IsWideCall, loaded_cases, wide_cases, lost_cases}
use Rattle.stopless_copy.specs.StoplessCallLaws.{copy_place, copy_own, loaded_own, kept_own}

-- ---- the row that it goes on to

-- a word that it puts leaves the header and the wide words
put_state : (x : Here) (z : Spot) (t : Task) (v : FieldWord) (n : ℕ) (o : Option FieldWord) → (after (put_event (Swaps z t v n) o) x).state ≡ x.state
put_state x z t v n None = refl
put_state x z t v n (Some w) = refl

put_copy : (x : Here) (z : Spot) (t : Task) (to : ℕ) (v : FieldWord) (n : ℕ) (o : Option FieldWord) → after (put_event (Swaps_copy z t to v n) o) x ≡ x
put_copy x z t to v n None = refl
put_copy x z t to v n (Some w) = refl

-- the value in a sealed original whose wide word says that it is there, and beside a wide word that has it
original_agrees : (mark : Option FieldWord) (b f : ℕ) (x : Here) (w : FieldWord) → IsSealed x.state → x.status ≡ InOriginal → StoplessState b f x x.state → place_word mark x w ≡ x.word
original_agrees mark b f x w sealed is state = grind (arith, sealed, is, state)

wide_agrees : (mark : Option FieldWord) (b f : ℕ) (x : Here) (w y : FieldWord) → IsSealed x.state → x.status ≡ InWide y → StoplessState b f x x.state → place_word mark x w ≡ y
wide_agrees mark b f x w y sealed is state = grind (arith, sealed, is, state)

-- the copy's address, where the field is in the copy
address_copy : (b f : ℕ) (x : Here) → IsSealed x.state → IsCopied x.status → StoplessState b f x x.state → IsAtCopy x x.address
address_copy b f x sealed copied state = grind (arith, sealed, copied, state)

module _ (c : Cycle) (side : Side) (s : Spot) (x : Here) (w : FieldWord) (live : IsLive x.state) (target : TargetIs x x.state) where
  -- with what it has then seen
  abbrev seeing : List Call → Side
  seeing now = record side { seen = now }

  -- at a word of the original that is safe to store in, or at the copy's
  swaps_own : (now : List Call) (y : Here) (z : Spot) (t : Task) (v : FieldWord) (n : ℕ) → MayStore side.acked y.state → StoplessOwn c (seeing now) y (plainly_fed side.acked (Swaps z t v n) (Field_word x.word))
  swaps_own now y z t v n safe = plainly_holds (StoplessOwn c (seeing now) y) side.acked (Swaps z t v n) (Field_word x.word) tt safe (λ u i e. safe) (λ b a e. tt) (λ end. tt)

  loads_own : (now : List Call) (z : Spot) (t : Task) → StoplessOwn c side x (Loads z t) → StoplessOwn c (seeing now) x (plainly_fed side.acked (Loads z t) (Field_word x.word))
  loads_own now z Reads own = closes_cases (StoplessOwn c (seeing now) x) side.acked z Reads x.word (λ b a e. tt) tt
  loads_own now z (Writes word) own = plainly_holds (StoplessOwn c (seeing now) x) side.acked (Loads z (Writes word)) (Field_word x.word) tt own (λ u i e. own) (λ b a e. tt) (λ end. tt)
  loads_own now z (Exchanges expected word) own = plainly_holds (StoplessOwn c (seeing now) x) side.acked (Loads z (Exchanges expected word)) (Field_word x.word) tt own (λ u i e. own) (λ b a e. tt) (λ end. tt)

  loads_copy_own : (now : List Call) (z : Spot) (t : Task) (to : ℕ) → IsAtCopy x to → StoplessOwn c (seeing now) x (plainly_fed side.acked (Loads_copy z t to) (Field_word w))
  loads_copy_own now z t to is = plainly_holds (StoplessOwn c (seeing now) x) side.acked (Loads_copy z t to) (Field_word w) tt is (λ u i e. is) (λ b a e. tt) (λ end. tt)

  swaps_copy_own : (now : List Call) (y : Here) (z : Spot) (t : Task) (to : ℕ) (v : FieldWord) (n : ℕ) → IsAtCopy y to → StoplessOwn c (seeing now) y (plainly_fed side.acked (Swaps_copy z t to v n) (Field_word w))
  swaps_copy_own now y z t to v n is = plainly_holds (StoplessOwn c (seeing now) y) side.acked (Swaps_copy z t to v n) (Field_word w) tt is (λ u i e. is) (λ b a e. tt) (λ end. tt)

  -- ---- at the wide object

  answers_own : (now : List Call) (z : Spot) (t : Task) (y : FieldWord) → StoplessOwn c (seeing now) x (closes side.acked z t y)
  answers_own now z t y = closes_cases (StoplessOwn c (seeing now) x) side.acked z t y (λ b a e. tt) tt

  wide_compared : (t : Task) (y : FieldWord) → IsChange t → WantsAt t y → IsCompared t x (InWide y)
  wide_compared Reads y changes wants = absurd changes
  wide_compared (Writes word) y changes wants = wants
  wide_compared (Exchanges expected word) y changes wants = wants

  original_compared : (t : Task) → IsChange t → WantsAt t x.word → IsCompared t x InOriginal
  original_compared Reads changes wants = absurd changes
  original_compared (Writes word) changes wants = wants
  original_compared (Exchanges expected word) changes wants = wants

  -- by what its look then is, and where the value at the place is the field's
  look_own : (z : Spot) (t : Task) (wide : ℕ) (h : List Call) → z ≡ s → IsAtWide x wide → StoplessState s.birth s.field x x.state → value_of (place_word c.mark x w) ≡ value_at h s.birth s.field
      → StoplessOwn c (seeing (front (wide_front (Wide_word x.status)) x.seal h side.seen)) x (by_wide side.acked z t wide x.status)
  look_own z t wide h same at state agrees =
      let now = front (wide_front (Wide_word x.status)) x.seal h side.seen in
      wide_cases (StoplessOwn c (seeing now) x) side.acked z wide t x.status
      (λ word is e. rw e (at, tt))
      (λ is. (at, late is))
      (λ y is changes wants. (at, wide_compared t y changes wants))
      (λ y is answer. answers_own now z t y)
      (λ y is. (at, rw is tt))
    where
      late : x.status ≡ InOriginal → value_of x.word ≡ value_at (front (wide_front (Wide_word x.status)) x.seal h side.seen) z.birth z.field
      late is = rw (is, same) (ap value_of (sym (original_agrees c.mark s.birth s.field x w at.0 is state)) ∙ agrees)

  -- an exchange of the wide word, which wins where it finds what it wanted
  tried_own : (now : List Call) (z : Spot) (t : Task) (wide : ℕ) (u : Status) (n : ℕ) (test : Bool) → IsAtWide x wide
      → StoplessOwn c (seeing now) (after (put_event (Swaps_wide z t wide u n) (if test then word_in t else None)) x) (if test then Over z t (end_made t (held x.status)) else lost_wide side.acked z t wide u x.status n)
  tried_own now z t wide u n true at = tt
  tried_own now z t wide u n false at =
      lost_cases (StoplessOwn c (seeing now) x) side.acked z wide u t x.status n
      (λ y is changes wants m. (at, wide_compared t y changes wants))
      tt
      (λ y is answer. answers_own now z t y)
      (λ y is. (at, rw is tt))

  late_own : (now : List Call) (z : Spot) (t : Task) (wide : ℕ) → IsAtWide x wide → StoplessOwn c (seeing now) x (loaded (from_original z t wide) side.acked z t x.word)
  late_own now z t wide at = loaded_cases (StoplessOwn c (seeing now) x) side.acked z (from_original z t wide) t x.word (λ changes wants. (at, original_compared t changes wants)) (λ answer. answers_own now z t x.word)

  abbrev Next : List Call → Known → Type 0
  Next h k = StoplessOwn c (seeing (seen_after (puts k (finds c.phase x w k)) side s k x (finds c.phase x w k) h)) (after (event k (finds c.phase x w k)) x) (stopless_fed side.acked side.own k (finds c.phase x w k))

  pub step_own : (h : List Call) (k : Known) → at_field k ≡ Some s → StoplessOwn c side x k → (has_field k ≡ true → s.field < x.len) → (s.field < x.len → StoplessShape c s.birth s.field x w) → (s.field < x.len → value_of (place_word c.mark x w) ≡ value_at h s.birth s.field) → Next h k
  step_own h (Loads_header z t) at own inside shape agrees =
      where_holds (StoplessOwn c side x) z t x.len (by_header Loads_wide z t x.state x.colour x.len)
      (λ lt. let so = shape (rw (spot_at (Loads_header z t) s at) at lt) in loaded_own c side x z t s.birth s.field live target so.state)
      (λ le. tt)
  step_own h (Keeps z t tagged) at own inside shape agrees = let so = shape (inside refl) in kept_own c side x z t s.birth s.field live target so.state
  step_own h (Loads z t) at own inside shape agrees = loads_own (seen_after None side s (Loads z t) x (Field_word x.word) h) z t own
  step_own h (Stores z word) at own inside shape agrees = tt
  step_own h (Swaps z t v n) at own inside shape agrees =
      let put = puts (Swaps z t v n) (Field_word x.word) in
      swaps_own (seen_after put side s (Swaps z t v n) x (Field_word x.word) h) (after (put_event (Swaps z t v n) put) x) z t v n (rw (put_state x z t v n put) own)
  step_own h (Loads_wide z t wide) at own inside shape agrees = let so = shape (inside refl) in look_own z t wide h (spot_at (Loads_wide z t wide) s at) own so.state (agrees (inside refl))
  step_own h (Swaps_wide z t wide u n) at own inside shape agrees =
      let put = puts (Swaps_wide z t wide u n) (Wide_word x.status) in
      tried_own (seen_after put side s (Swaps_wide z t wide u n) x (Wide_word x.status) h) z t wide u n (same_status x.status u) own.0
  step_own h (Loads_late z t wide) at own inside shape agrees = late_own side.seen z t wide own.0
  step_own h (Loads_address z t wide) at own inside shape agrees = let so = shape (inside refl) in copy_own c side x z t x.address (address_copy s.birth s.field x own.0.0 own.1 so.state)
  step_own h (Loads_copy z t to) at own inside shape agrees = loads_copy_own (seen_after None side s (Loads_copy z t to) x (Field_word w) h) z t to own
  step_own h (Stores_copy z word to) at own inside shape agrees = tt
  step_own h (Swaps_copy z t to v n) at own inside shape agrees =
      let put = puts (Swaps_copy z t to v n) (Field_word w) in
      swaps_copy_own (seen_after put side s (Swaps_copy z t to v n) x (Field_word w) h) (after (put_event (Swaps_copy z t to v n) put) x) z t to v n (subst (λ (y : Here). IsAtCopy y to) (sym (put_copy x z t to v n put)) own)
  step_own h (Follows z t m) at own inside shape agrees = absurd (let gone : None ≡ Some s = at in cc)
  step_own h (Over z t end) at own inside shape agrees = absurd (let gone : None ≡ Some s = at in cc)
  step_own h k at own inside shape agrees = absurd own

  -- ---- what it has found out

  -- before the seal the place is the original, and after it the original's word is that of then
  original_value : (h : List Call) (y : State) → x.state ≡ y → IsLive y → StoplessState s.birth s.field x y → value_of (place_word c.mark x w) ≡ value_at h s.birth s.field → value_of x.word ≡ value_at (sealed_or x.seal h) s.birth s.field
  original_value h (Forward to) is live state agrees = sealed_value s.birth s.field x.word x.seal h state.0.0
  original_value h (Wide wide) is live state agrees = sealed_value s.birth s.field x.word x.seal h state.0
  original_value h y is live state agrees = grind (arith, is, live, state, agrees)

  pub tells : (h : List Call) (k : Known) → StoplessOwn c side x k → IsTaggedCall k → (has_field k ≡ true → StoplessShape c s.birth s.field x w) → (has_field k ≡ true → value_of (place_word c.mark x w) ≡ value_at h s.birth s.field) → Tells h side x.seal s k (finds c.phase x w k)
  tells h (Loads_header z t) own is shape agrees v e = absurd cc
  tells h (Keeps z t tagged) own is shape agrees v e = absurd cc
  tells h (Loads z t) own is shape agrees v e = let so = shape refl in let same : x.word ≡ v = cc in ap value_of (sym same) ∙ original_value h x.state refl live so.state (agrees refl)
  tells h (Stores z word) own is shape agrees v e = absurd cc
  tells h (Swaps z t u n) own is shape agrees v e = let same : x.word ≡ v = cc in ap value_of (sym same) ∙ (ap value_of (sym (store_place side.acked c.mark x w own)) ∙ agrees refl)
  tells h (Loads_copy z t to) own is shape agrees v e = let same : w ≡ v = cc in ap value_of (sym same) ∙ (ap value_of (sym (copy_place c.mark x w to own)) ∙ agrees refl)
  tells h (Stores_copy z word to) own is shape agrees v e = absurd cc
  tells h (Swaps_copy z t to u n) own is shape agrees v e = let same : w ≡ v = cc in ap value_of (sym same) ∙ (ap value_of (sym (copy_place c.mark x w to own)) ∙ agrees refl)
  tells h k own is shape agrees v e = absurd is

  -- through the wide word: the value is that of the front
  module _ (h : List Call) (state : StoplessState s.birth s.field x x.state) (agrees : value_of (place_word c.mark x w) ≡ value_at h s.birth s.field) where
    wide_value : (wide : ℕ) (y : FieldWord) → IsAtWide x wide → x.status ≡ InWide y → value_of y ≡ value_at (front (wide_front (Wide_word x.status)) x.seal h side.seen) s.birth s.field
    wide_value wide y at is = rw is (ap value_of (sym (wide_agrees c.mark s.birth s.field x w y at.0 is state)) ∙ agrees)

    look_answered : (t : Task) (wide : ℕ) → IsAtWide x wide → Answered (front (wide_front (Wide_word x.status)) x.seal h side.seen) (by_wide side.acked s t wide x.status)
    look_answered t wide at =
        let now = front (wide_front (Wide_word x.status)) x.seal h side.seen in
        wide_cases (Answered now) side.acked s wide t x.status (λ word is e. tt) (λ is. tt) (λ y is changes wants. tt) (λ y is answer. closes_answered side.acked s t y now answer (wide_value wide y at is)) (λ y is. tt)

    tried_answered : (t : Task) (wide : ℕ) (u : Status) (n : ℕ) (test : Bool) → IsAtWide x wide → IsCompared t x u
        → Answered (seen_after (if test then word_in t else None) side s (Swaps_wide s t wide u n) x (Wide_word x.status) h) (if test then Over s t (end_made t (held x.status)) else lost_wide side.acked s t wide u x.status n)
    tried_answered Reads wide u n true at compared = absurd compared
    tried_answered (Writes word) wide u n true at compared = tt
    tried_answered (Exchanges expected word) wide u n true at compared = tt
    tried_answered t wide u n false at compared =
        let now = front (wide_front (Wide_word x.status)) x.seal h side.seen in
        lost_cases (Answered now) side.acked s wide u t x.status n (λ y is changes wants m. tt) tt (λ y is answer. closes_answered side.acked s t y now answer (wide_value wide y at is)) (λ y is. tt)

    late_answered : (t : Task) (wide : ℕ) → value_of x.word ≡ value_at side.seen s.birth s.field → Answered side.seen (loaded (from_original s t wide) side.acked s t x.word)
    late_answered t wide value = loaded_cases (Answered side.seen) side.acked s (from_original s t wide) t x.word (λ changes wants. tt) (λ answer. closes_answered side.acked s t x.word side.seen answer value)

    pub wide_answered : (k : Known) → at_field k ≡ Some s → IsWideCall k → StoplessOwn c side x k → Answered (seen_after (puts k (finds c.phase x w k)) side s k x (finds c.phase x w k) h) (stopless_fed side.acked side.own k (finds c.phase x w k))
    wide_answered (Loads_wide z t wide) at is own = rw (spot_at (Loads_wide z t wide) s at) (look_answered t wide own)
    wide_answered (Swaps_wide z t wide u n) at is own = rw (spot_at (Swaps_wide z t wide u n) s at) (tried_answered t wide u n (same_status x.status u) own.0 own.1)
    wide_answered (Loads_late z t wide) at is own =
        let same = spot_at (Loads_late z t wide) s at in
        rw same (late_answered t wide (subst (λ (y : Spot). value_of x.word ≡ value_at side.seen y.birth y.field) same own.1))
    wide_answered (Loads_address z t wide) at is own = copy_answered z t x.address side.seen
    wide_answered k at is own = absurd is

    -- and the value that an exchange wants was there
    compared_value : (t : Task) (wide : ℕ) (u : Status) → IsAtWide x wide → x.status ≡ u → IsCompared t x u → Wants (wanted_of t) (value_at h s.birth s.field)
    compared_value Reads wide u at is compared = tt
    compared_value (Writes word) wide u at is compared = tt
    compared_value (Exchanges expected word) wide InOriginal at is compared = sym agrees ∙ (ap value_of (original_agrees c.mark s.birth s.field x w at.0 is state) ∙ compared)
    compared_value (Exchanges expected word) wide (InWide y) at is compared = sym agrees ∙ (ap value_of (wide_agrees c.mark s.birth s.field x w y at.0 is state) ∙ compared)
    compared_value (Exchanges expected word) wide (InCopy y) at is compared = absurd compared

    tried_wants : (t : Task) (wide : ℕ) (u : Status) (v : FieldWord) (test : Bool) → same_status x.status u ≡ test → IsAtWide x wide → IsCompared t x u → (if test then word_in t else None) ≡ Some v → Wants (wanted_of t) (value_at h s.birth s.field)
    tried_wants t wide u v true e at compared put = compared_value t wide u at (same_statuses x.status u e) compared
    tried_wants t wide u v false e at compared put = absurd cc

    pub wide_wants : (k : Known) (v : FieldWord) → IsWideCall k → StoplessOwn c side x k → puts k (finds c.phase x w k) ≡ Some v → Wants (wanted k) (value_at h s.birth s.field)
    wide_wants (Loads_wide z t wide) v is own put = tt
    wide_wants (Swaps_wide z t wide u n) v is own put = tried_wants t wide u v (same_status x.status u) refl own.0 own.1 put
    wide_wants (Loads_late z t wide) v is own put = tt
    wide_wants (Loads_address z t wide) v is own put = tt
    wide_wants k v is own put = absurd is
