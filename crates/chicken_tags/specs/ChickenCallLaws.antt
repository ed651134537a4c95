-- The laws of Chicken's calls, at one field of one object.
use Rattle.std.proofs.Common.{◌≡◌, ℕ, ◌<◌, refl, sym, ap, ◌∙◌, arith, Bool, true, false, if◌then◌else◌, Option, Some, None, List}
use Rattle.heap_words.specs.declared.field_word.FieldWord.{FieldWord}
use Rattle.heap_history.specs.FixedHeaps.{is_same}
use Rattle.heap_history.specs.NewestFirst.{value_at, Before}
use Rattle.heap_history.specs.NewestFirstLaws.{Before-refl}
use Rattle.barriers.specs.declared.front.Front.TheVariants.{Stays, Now}
use Rattle.heap_history.specs.declared.call.Call.{Call}
use Rattle.barriers.specs.declared.spot.Spot.{Spot}
use Rattle.object_headers.specs.declared.header.Colour.{Colour}
use Rattle.barriers.specs.Stances.{Stance}
use Rattle.barriers.specs.States.{State, Absent, Plain, Kept, Tagged, Wide, Moving, Underway, Forward, Dead, IsLive}
use Rattle.barriers.specs.Spaces.{Here, zone, Copied, place_word}
use Rattle.barriers.specs.Values.{value_of}
use Rattle.barriers.specs.Cycles.{Cycle, Side}
use Rattle.barriers.specs.Knowns.{Task, Reads, Writes, Exchanges, Known, Loads_header, Keeps, Loads, Stores, Swaps, Loads_copy, Stores_copy, Swaps_copy, Follows, Over, Finds, Header_word, Field_word, at_field, has_field, task_of, copy_of, wide_of, finds, puts, looks, front, sees, sealed_or}
use Rattle.barriers.specs.Events.{Event, Write, Write_copy, after, May, keep_event, put_event, event}
use Rattle.barriers.specs.Protocols.{TargetIs, has_made, seen_after}
use Rattle.barriers.specs.ProtocolLaws.{At, StepEnd, Dated, CallLaws}
use Rattle.barriers.specs.CallCloses.{original_closed}
use Rattle.barriers.specs.PlainCalls.{to_original, to_copy, plainly_fed}
use Rattle.barriers.specs.PlainCallLaws.{spot_at, closes_cases, plainly_holds, where_holds}
use Rattle.barriers.specs.PlainAnswerLaws.{Tells}
use Rattle.tagged_calls.specs.CloseLaws.{tagged_closed}
use Rattle.tagged_calls.specs.TaggedCalls.{as_at_rest, tagged_of, by_header, by_kept}
use Rattle.tagged_calls.specs.TaggedTable.{MayStore, InTime, IsUnmarked, HasNoMark}
use Rattle.tagged_calls.specs.TaggedTableLaws.{store_stays, store_may, store_place, unmarked, time_stays, in_time, sealed_value, front_past, front_later}
use Rattle.tagged_calls.specs.TaggedCallLaws.{IsTaggedCall, GoesWide, original_head, StaysUntagged, header_holds, first_holds, tagged_goes, tagged_head, tagged_inside, tagged_found, tagged_refused, tagged_answered, tagged_wants}
use Rattle.barriers.specs.PlainAnswerLaws.{original_answered, original_lacking, original_found}
use Rattle.chicken_tags.specs.ChickenTable.{chicken_fed, ChickenFits, ChickenOwn, ChickenState, ChickenShape, ChickenMakes, chicken}

-- ---- a call is at its header or at a plain word

original_at : (s : Spot) (t : Task) → at_field (to_original s t) ≡ Some s
original_at s Reads = refl
original_at s (Writes word) = refl
original_at s (Exchanges expected word) = refl

original_task : (s : Spot) (t : Task) → task_of (to_original s t) ≡ t
original_task s Reads = refl
original_task s (Writes word) = refl
original_task s (Exchanges expected word) = refl

original_unmade : (s : Spot) (t : Task) → has_made (to_original s t) ≡ false
original_unmade s Reads = refl
original_unmade s (Writes word) = refl
original_unmade s (Exchanges expected word) = refl

goes_on : GoesWide as_at_rest
goes_on = record {
  at = λ s t wide. original_at s t;
  task = λ s t wide. original_task s t;
  unmade = λ s t wide. original_unmade s t;
  found = λ s t wide. original_found s t;
  whole = λ s t wide. original_lacking s t;
  head = λ s t wide. original_head s t;
  answered = λ s t wide seen. original_answered s t seen;
}

called : (c : Cycle) (side : Side) (x : Here) (k : Known) (s : Spot) → at_field k ≡ Some s → ChickenOwn c side x k → IsTaggedCall k
called c side x (Loads_header z t) s at own = tt
called c side x (Keeps z t tagged) s at own = tt
called c side x (Loads z t) s at own = tt
called c side x (Stores z word) s at own = tt
called c side x (Swaps z t v n) s at own = tt
called c side x (Loads_copy z t to) s at own = tt
called c side x (Stores_copy z word to) s at own = tt
called c side x (Swaps_copy z t to v n) s at own = tt
called c side x (Follows z t m) s at own = absurd (let gone : None ≡ Some s = at in cc)
called c side x (Over z t end) s at own = absurd (let gone : None ≡ Some s = at in cc)
called c side x k s at own = absurd own

-- ---- the rows under everyone's steps

makes_unmarked : (e : Event) → ChickenMakes e → IsUnmarked e
makes_unmarked e makes = grind (arith, makes)

forward_stays : (c : Cycle) (x : Here) (e : Event) (to : ℕ) → May c x e → x.state ≡ Forward to → (after e x).state ≡ Forward to
forward_stays c x e to may own = grind (arith, may, own)

stays : (c : Cycle) (side : Side) (h : List Call) (x : Here) (e : Event) (k : Known) → ChickenMakes e → May c x e → Dated h e → Before side.seen h → ChickenFits c side → ChickenOwn c side x k → ChickenOwn c side (after e x) k
stays c side h x e k makes may dated past fits own =
    grind (arith, store_stays c side.acked x e (makes_unmarked e makes) may fits, forward_stays c x e, time_stays x e h side.seen dated past, own, may)

-- ---- its own step

step_makes : (c : Cycle) (side : Side) (x : Here) (k : Known) (found : Finds) → ChickenOwn c side x k → ChickenMakes (event k found)
step_makes c side x k found own = grind (arith, own)

copy_zone : (mark : Option FieldWord) (x : Here) (to : ℕ) → x.state ≡ Forward to → zone mark x.state x.word x.status ≡ Copied
copy_zone mark x to is = rw is refl

copy_place : (mark : Option FieldWord) (x : Here) (w : FieldWord) (to : ℕ) → x.state ≡ Forward to → place_word mark x w ≡ w
copy_place mark x w to is = rw is refl

-- where the word that the step puts is a word for the original, or for the copy
write_may : (c : Cycle) (x : Here) (z : Spot) (t : Task) (v : FieldWord) (n : ℕ) (o : Option FieldWord) → ((w : FieldWord) → May c x (Write w)) → May c x (put_event (Swaps z t v n) o)
write_may c x z t v n None may = tt
write_may c x z t v n (Some w) may = may w

copy_may : (c : Cycle) (x : Here) (z : Spot) (t : Task) (to : ℕ) (v : FieldWord) (n : ℕ) (o : Option FieldWord) → ((w : FieldWord) → May c x (Write_copy w)) → May c x (put_event (Swaps_copy z t to v n) o)
copy_may c x z t to v n None may = tt
copy_may c x z t to v n (Some w) may = may w

keep_may : (c : Cycle) (x : Here) (y : State) (colour : Colour) (len : ℕ) → x.state ≡ y → May c x (keep_event (Header_word y colour len))
keep_may c x Tagged colour len is = is
keep_may c x Absent colour len is = tt
keep_may c x Plain colour len is = tt
keep_may c x Kept colour len is = tt
keep_may c x (Wide wide) colour len is = tt
keep_may c x (Moving to) colour len is = tt
keep_may c x Underway colour len is = tt
keep_may c x (Forward to) colour len is = tt
keep_may c x Dead colour len is = tt

step_may : (c : Cycle) (side : Side) (x : Here) (w : FieldWord) (k : Known) → ChickenFits c side → ChickenOwn c side x k → (has_field k ≡ true → HasNoMark c) → May c x (event k (finds c.phase x w k))
step_may c side x w (Loads_header z t) fits own none = tt
step_may c side x w (Keeps z t tagged) fits own none = keep_may c x x.state x.colour x.len refl
step_may c side x w (Loads z t) fits own none = tt
step_may c side x w (Stores z word) fits own none = (store_may c side.acked x fits own word, unmarked c (none refl) word)
step_may c side x w (Swaps z t v n) fits own none = write_may c x z t v n (puts (Swaps z t v n) (Field_word x.word)) (λ u. (store_may c side.acked x fits own u, unmarked c (none refl) u))
step_may c side x w (Loads_copy z t to) fits own none = tt
step_may c side x w (Stores_copy z word to) fits own none = (copy_zone c.mark x to own, unmarked c (none refl) word)
step_may c side x w (Swaps_copy z t to v n) fits own none = copy_may c x z t to v n (puts (Swaps_copy z t to v n) (Field_word w)) (λ u. (copy_zone c.mark x to own, unmarked c (none refl) u))
step_may c side x w (Follows z t m) fits own none = tt
step_may c side x w (Over z t end) fits own none = tt
step_may c side x w k fits own none = absurd own

-- ---- the row that it goes on to

-- an object here that is neither sealed nor tagged is safe to store in, and has no seal
safe_here : (acked : Stance) (b f : ℕ) (x : Here) (y : State) → StaysUntagged y → IsLive y → ChickenState b f x y → MayStore acked y × (x.seal ≡ None)
safe_here acked b f x y here live state = grind (arith, here, live, state)

tagged_seal : (b f : ℕ) (x : Here) (y : State) → y ≡ Tagged → ChickenState b f x y → x.seal ≡ None
tagged_seal b f x y is state = grind (arith, is, state)

never_wide : (b f : ℕ) (x : Here) (y : State) (wide : ℕ) → y ≡ Wide wide → ChickenState b f x y → ⊥
never_wide b f x y wide is state = grind (arith, is, state)

original_own : (c : Cycle) (side : Side) (x : Here) (z : Spot) (t : Task) → InTime x.seal side.seen → MayStore side.acked x.state → ChickenOwn c side x (to_original z t)
original_own c side x z Reads time safe = time
original_own c side x z (Writes word) time safe = safe
original_own c side x z (Exchanges expected word) time safe = safe

copy_own : (c : Cycle) (side : Side) (x : Here) (z : Spot) (t : Task) (to : ℕ) → x.state ≡ Forward to → ChickenOwn c side x (to_copy z t to)
copy_own c side x z Reads to is = is
copy_own c side x z (Writes word) to is = is
copy_own c side x z (Exchanges expected word) to is = is

module _ (c : Cycle) (side : Side) (x : Here) (z : Spot) (t : Task) (b f : ℕ) (live : IsLive x.state) (state : ChickenState b f x x.state) where
  loaded_own : ChickenOwn c side x (by_header as_at_rest z t x.state x.colour x.len)
  loaded_own =
      header_holds as_at_rest (ChickenOwn c side x) z t x.state x.colour x.len
      (λ here. let safe = safe_here side.acked b f x x.state here live state in original_own c side x z t (in_time x.seal side.seen safe.1) safe.0)
      (λ is. first_holds (ChickenOwn c side x) z t (tagged_of z x.colour x.len) (λ r. in_time x.seal side.seen (tagged_seal b f x x.state is state)) tt)
      (λ to is. copy_own c side x z t to is)
      (λ wide is. absurd (never_wide b f x x.state wide is state))

  -- the exchange for Kept won, or the header is another
  abbrev Turned : State → Type 0
  Turned y = x.state ≡ y → IsLive y → ChickenState b f x y → ChickenOwn c side (after (keep_event (Header_word y x.colour x.len)) x) (by_kept as_at_rest z t y)

  here_own : (y : State) → StaysUntagged y → x.state ≡ y → IsLive y → ChickenState b f x y → ChickenOwn c side x (to_original z t)
  here_own y here is live so = let safe = safe_here side.acked b f x y here live so in original_own c side x z t (in_time x.seal side.seen safe.1) (rw is safe.0)

  turned : (y : State) → Turned y
  turned Tagged is live so = original_own c side (after (keep_event (Header_word Tagged x.colour x.len)) x) z t (in_time x.seal side.seen so) tt
  turned (Forward to) is live so = copy_own c side x z t to is
  turned (Wide wide) is live so = absurd so
  turned Absent is live so = absurd live
  turned Plain is live so = here_own Plain tt is live so
  turned Kept is live so = here_own Kept tt is live so
  turned (Moving to) is live so = absurd so
  turned Underway is live so = absurd live
  turned Dead is live so = absurd live

  kept_own : ChickenOwn c side (after (keep_event (Header_word x.state x.colour x.len)) x) (by_kept as_at_rest z t x.state)
  kept_own = turned x.state refl live state

-- a word that it puts leaves the header
put_state : (x : Here) (z : Spot) (t : Task) (v : FieldWord) (n : ℕ) (o : Option FieldWord) → (after (put_event (Swaps z t v n) o) x).state ≡ x.state
put_state x z t v n None = refl
put_state x z t v n (Some w) = refl

put_copy_state : (x : Here) (z : Spot) (t : Task) (to : ℕ) (v : FieldWord) (n : ℕ) (o : Option FieldWord) → (after (put_event (Swaps_copy z t to v n) o) x).state ≡ x.state
put_copy_state x z t to v n None = refl
put_copy_state x z t to v n (Some w) = refl

module _ (c : Cycle) (side : Side) (s : Spot) (x : Here) (w : FieldWord) (live : IsLive x.state) where
  -- with what it has then seen
  abbrev seeing : List Call → Side
  seeing now = record side { seen = now }

  -- at a word of the original that is safe to store in, or at the copy's
  swaps_own : (now : List Call) (y : Here) (z : Spot) (t : Task) (v : FieldWord) (n : ℕ) → MayStore side.acked y.state → ChickenOwn c (seeing now) y (plainly_fed side.acked (Swaps z t v n) (Field_word x.word))
  swaps_own now y z t v n safe = plainly_holds (ChickenOwn c (seeing now) y) side.acked (Swaps z t v n) (Field_word x.word) tt safe (λ u i e. safe) (λ b a e. tt) (λ end. tt)

  loads_own : (now : List Call) (z : Spot) (t : Task) → ChickenOwn c side x (Loads z t) → ChickenOwn c (seeing now) x (plainly_fed side.acked (Loads z t) (Field_word x.word))
  loads_own now z Reads own = closes_cases (ChickenOwn c (seeing now) x) side.acked z Reads x.word (λ b a e. tt) tt
  loads_own now z (Writes word) own = plainly_holds (ChickenOwn c (seeing now) x) side.acked (Loads z (Writes word)) (Field_word x.word) tt own (λ u i e. own) (λ b a e. tt) (λ end. tt)
  loads_own now z (Exchanges expected word) own = plainly_holds (ChickenOwn c (seeing now) x) side.acked (Loads z (Exchanges expected word)) (Field_word x.word) tt own (λ u i e. own) (λ b a e. tt) (λ end. tt)

  loads_copy_own : (now : List Call) (z : Spot) (t : Task) (to : ℕ) → x.state ≡ Forward to → ChickenOwn c (seeing now) x (plainly_fed side.acked (Loads_copy z t to) (Field_word w))
  loads_copy_own now z t to is = plainly_holds (ChickenOwn c (seeing now) x) side.acked (Loads_copy z t to) (Field_word w) tt is (λ u i e. is) (λ b a e. tt) (λ end. tt)

  swaps_copy_own : (now : List Call) (y : Here) (z : Spot) (t : Task) (to : ℕ) (v : FieldWord) (n : ℕ) → y.state ≡ Forward to → ChickenOwn c (seeing now) y (plainly_fed side.acked (Swaps_copy z t to v n) (Field_word w))
  swaps_copy_own now y z t to v n is = plainly_holds (ChickenOwn c (seeing now) y) side.acked (Swaps_copy z t to v n) (Field_word w) tt is (λ u i e. is) (λ b a e. tt) (λ end. tt)

  abbrev Next : List Call → Known → Type 0
  Next h k = ChickenOwn c (seeing (seen_after (puts k (finds c.phase x w k)) side s k x (finds c.phase x w k) h)) (after (event k (finds c.phase x w k)) x) (chicken_fed side.acked side.own k (finds c.phase x w k))

  step_own : (h : List Call) (k : Known) → at_field k ≡ Some s → ChickenOwn c side x k → (has_field k ≡ true → s.field < x.len) → (s.field < x.len → ChickenShape c s.birth s.field x w) → Next h k
  step_own h (Loads_header z t) at own inside shape =
      where_holds (ChickenOwn c side x) z t x.len (by_header as_at_rest z t x.state x.colour x.len)
      (λ lt. let so = shape (rw (spot_at (Loads_header z t) s at) at lt) in loaded_own c side x z t s.birth s.field live so.state)
      (λ le. tt)
  step_own h (Keeps z t tagged) at own inside shape = let so = shape (inside refl) in kept_own c side x z t s.birth s.field live so.state
  step_own h (Loads z t) at own inside shape = loads_own (seen_after None side s (Loads z t) x (Field_word x.word) h) z t own
  step_own h (Stores z word) at own inside shape = tt
  step_own h (Swaps z t v n) at own inside shape =
      let put = puts (Swaps z t v n) (Field_word x.word) in
      swaps_own (seen_after put side s (Swaps z t v n) x (Field_word x.word) h) (after (put_event (Swaps z t v n) put) x) z t v n (rw (put_state x z t v n put) own)
  step_own h (Loads_copy z t to) at own inside shape = loads_copy_own (seen_after None side s (Loads_copy z t to) x (Field_word w) h) z t to own
  step_own h (Stores_copy z word to) at own inside shape = tt
  step_own h (Swaps_copy z t to v n) at own inside shape =
      let put = puts (Swaps_copy z t to v n) (Field_word w) in
      swaps_copy_own (seen_after put side s (Swaps_copy z t to v n) x (Field_word w) h) (after (put_event (Swaps_copy z t to v n) put) x) z t to v n (put_copy_state x z t to v n put ∙ own)
  step_own h (Follows z t m) at own inside shape = absurd (let gone : None ≡ Some s = at in cc)
  step_own h (Over z t end) at own inside shape = absurd (let gone : None ≡ Some s = at in cc)
  step_own h k at own inside shape = absurd own

  -- ---- what it has found out

  -- before the seal the place is the original, and after it the original's word is that of then
  original_value : (h : List Call) (y : State) → x.state ≡ y → IsLive y → ChickenState s.birth s.field x y → value_of (place_word c.mark x w) ≡ value_at h s.birth s.field → value_of x.word ≡ value_at (sealed_or x.seal h) s.birth s.field
  original_value h (Forward to) is live state agrees = sealed_value s.birth s.field x.word x.seal h state
  original_value h y is live state agrees = grind (arith, is, live, state, agrees)

  tells : (h : List Call) (k : Known) → ChickenOwn c side x k → (has_field k ≡ true → ChickenShape c s.birth s.field x w) → (has_field k ≡ true → value_of (place_word c.mark x w) ≡ value_at h s.birth s.field) → Tells h side x.seal s k (finds c.phase x w k)
  tells h (Loads_header z t) own shape agrees v is = absurd cc
  tells h (Keeps z t tagged) own shape agrees v is = absurd cc
  tells h (Loads z t) own shape agrees v is = let so = shape refl in let e : x.word ≡ v = cc in ap value_of (sym e) ∙ original_value h x.state refl live so.state (agrees refl)
  tells h (Stores z word) own shape agrees v is = absurd cc
  tells h (Swaps z t u n) own shape agrees v is = let e : x.word ≡ v = cc in ap value_of (sym e) ∙ (ap value_of (sym (store_place side.acked c.mark x w own)) ∙ agrees refl)
  tells h (Loads_copy z t to) own shape agrees v is = let e : w ≡ v = cc in ap value_of (sym e) ∙ (ap value_of (sym (copy_place c.mark x w to own)) ∙ agrees refl)
  tells h (Stores_copy z word to) own shape agrees v is = absurd cc
  tells h (Swaps_copy z t to u n) own shape agrees v is = let e : w ≡ v = cc in ap value_of (sym e) ∙ (ap value_of (sym (copy_place c.mark x w to own)) ∙ agrees refl)
  tells h (Follows z t m) own shape agrees v is = absurd cc
  tells h (Over z t end) own shape agrees v is = absurd cc
  tells h k own shape agrees v is = absurd own

aims : (c : Cycle) (side : Side) (x : Here) (k : Known) → TargetIs x x.state → ChickenOwn c side x k → (to : ℕ) → copy_of k ≡ Some to → (to ≡ x.to) × (zone c.mark x.state x.word x.status ≡ Copied)
aims c side x k target own to is = grind (arith, target, own, is)

no_wide : (c : Cycle) (side : Side) (x : Here) (k : Known) → ChickenOwn c side x k → (wide : ℕ) → wide_of k ≡ Some wide → ⊥
no_wide c side x k own wide is = grind (arith, own, is)

now_later : (test : Bool) (seal : Option (List Call)) (h seen : List Call) → Before seen h → Before seen (front (if test then Stays else Now) seal h seen)
now_later true seal h seen past = Before-refl seen
now_later false seal h seen past = past

copy_later : (t : Task) (w : FieldWord) (h seen : List Call) (seal : Option (List Call)) → Before seen h → Before seen (front (sees t w Now) seal h seen)
copy_later Reads w h seen seal past = past
copy_later (Writes word) w h seen seal past = Before-refl seen
copy_later (Exchanges expected word) w h seen seal past = now_later (is_same (value_of w) expected) seal h seen past

-- a look in the original is in time for the seal, or there is none; and one in the copy sees all
unsealed_time : (acked : Stance) (b f : ℕ) (x : Here) (y : State) (seen : List Call) → MayStore acked y → ChickenState b f x y → InTime x.seal seen
unsealed_time acked b f x y seen safe state = grind (arith, safe, state)

look_later : (c : Cycle) (side : Side) (h : List Call) (s : Spot) (x : Here) (w : FieldWord) (k : Known) → ChickenOwn c side x k → (has_field k ≡ true → ChickenShape c s.birth s.field x w) → Before side.seen h → Before side.seen (front (looks side.own k (finds c.phase x w k)) x.seal h side.seen)
look_later c side h s x w (Loads_header z t) own shape past = Before-refl side.seen
look_later c side h s x w (Keeps z t tagged) own shape past = Before-refl side.seen
look_later c side h s x w (Loads z Reads) own shape past = front_later (looks side.own (Loads z Reads) (Field_word x.word)) x.seal h side.seen past own
look_later c side h s x w (Loads z t) own shape past = let so = shape refl in front_later (looks side.own (Loads z t) (Field_word x.word)) x.seal h side.seen past (unsealed_time side.acked s.birth s.field x x.state side.seen own so.state)
look_later c side h s x w (Stores z word) own shape past = Before-refl side.seen
look_later c side h s x w (Swaps z t v n) own shape past = let so = shape refl in front_later (looks side.own (Swaps z t v n) (Field_word x.word)) x.seal h side.seen past (unsealed_time side.acked s.birth s.field x x.state side.seen own so.state)
look_later c side h s x w (Loads_copy z t to) own shape past = copy_later t w h side.seen x.seal past
look_later c side h s x w (Stores_copy z word to) own shape past = Before-refl side.seen
look_later c side h s x w (Swaps_copy z t to v n) own shape past = copy_later t w h side.seen x.seal past
look_later c side h s x w (Follows z t m) own shape past = Before-refl side.seen
look_later c side h s x w (Over z t end) own shape past = Before-refl side.seen
look_later c side h s x w k own shape past = absurd own

step : (c : Cycle) (side : Side) (h : List Call) (s : Spot) (x : Here) (w : FieldWord) (k : Known) → ((past : List Call) → x.seal ≡ Some past → Before past h) → At chicken c side h s x w k → StepEnd chicken c side h s x k (finds c.phase x w k)
step c side h s x w k seals a =
    let found = finds c.phase x w k in
    let is = called c side x k s a.spot a.own in
    let shape : has_field k ≡ true → ChickenShape c s.birth s.field x w = λ has. a.shape (a.inside has) in
    let told = tells c side s x w a.live h k a.own shape (λ has. a.agrees (a.inside has)) in
    record {
      makes = step_makes c side x k found a.own;
      may = step_may c side x w k a.fits a.own (λ has. let so = shape has in so.markless);
      own = step_own c side s x w a.live h k a.spot a.own a.inside a.shape;
      answered = tagged_answered as_at_rest goes_on side.acked h side s x k found a.spot is told a.answered;
      wants = λ v put. tagged_wants as_at_rest goes_on side.acked h side s x k found v is told a.answered put;
      inside = tagged_inside as_at_rest goes_on side.acked c.phase s x w k a.spot is a.inside;
      found_inside = tagged_found as_at_rest goes_on side.acked c.phase s x w k a.spot is a.inside;
      refused = λ t len so. tagged_refused as_at_rest goes_on side.acked c.phase s x w k t len a.spot is so;
      head = tagged_head as_at_rest goes_on side.acked c.phase s x w k a.spot is;
      aim = aims c side x k a.target a.own;
      wide = λ wide so. absurd (no_wide c side x k a.own wide so);
      past = front_past (looks side.own k found) x.seal h side.seen a.past seals;
      later = look_later c side h s x w k a.own shape a.past;
    }

bare_stays : (c : Cycle) (side : Side) (x y : Here) (k : Known) → has_field k ≡ false → ChickenOwn c side x k → ChickenOwn c side y k
bare_stays c side x y k bare own = grind (arith, bare, own)

pub chicken_calls : CallLaws chicken
chicken_calls = record {
  begin = λ c side x cycle s t live fits. tt;
  begin_at = λ acked cycle own s t. refl;
  begin_task = λ acked cycle own s t. refl;
  begin_bare = λ acked cycle own s t. refl;
  step = step;
  goes = λ c side x k s found at own. tagged_goes as_at_rest goes_on side.acked side.own k found (called c side x k s at own);
  closes = λ acked own k s found at is. tagged_closed as_at_rest acked (λ z t wide. original_closed acked z t) k s found at is;
  bare = bare_stays;
  stays = λ c side h b f x w e k makes may dated past target fits shape own. stays c side h x e k makes may dated past fits own;
}
