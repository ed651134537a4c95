-- The laws of Stopless's calls, at one field of one object.
use Rattle.std.proofs.Common.{◌≡◌, ℕ, ◌⊎◌, inl, inr, refl, sym, ap, subst, ◌∙◌, arith, Bool, true, false, if◌then◌else◌, Option, Some, None, List}
use Rattle.heap_words.specs.declared.field_word.FieldWord.{FieldWord}
use Rattle.wide_objects.specs.Statuses.{Status}
use Rattle.heap_history.specs.NewestFirst.{Before}
use Rattle.heap_history.specs.declared.call.Call.{Call}
use Rattle.object_headers.specs.declared.header.Colour.{Colour}
use Rattle.barriers.specs.declared.spot.Spot.{Spot}
use Rattle.barriers.specs.Stances.{Stance}
use Rattle.barriers.specs.States.{State, Absent, Plain, Kept, Tagged, Wide, Moving, Underway, Forward, Dead, IsLive}
use Rattle.barriers.specs.Spaces.{Here, zone, Copied, place_word, same_status}
use Rattle.barriers.specs.Says.{IsChange}
use Rattle.barriers.specs.Values.{value_of}
use Rattle.barriers.specs.Cycles.{Cycle, Side}
use Rattle.barriers.specs.Knowns.{Task, Reads, Writes, Exchanges, Known, Loads_header, Keeps, Loads, Stores, Swaps, Loads_wide, Swaps_wide, Loads_late, Loads_address, Loads_copy, Stores_copy, Swaps_copy, Follows, Over, Finds, Header_word, Field_word, at_field, has_field, word_in, finds, puts}
use Rattle.barriers.specs.Events.{Event, Write, Write_copy, after, May, keep_event, put_event, event, IsWide, IsCopied, IsUncopied}
use Rattle.barriers.specs.Protocols.{TargetIs}
use Rattle.barriers.specs.ProtocolLaws.{Dated}
use Rattle.barriers.specs.PlainCalls.{to_original, to_copy}
use Rattle.tagged_calls.specs.TaggedCalls.{tagged_of, by_header, by_kept}
use Rattle.tagged_calls.specs.TaggedTable.{MayStore, InTime, IsUnmarked}
use Rattle.tagged_calls.specs.TaggedTableLaws.{store_stays, store_may, unmarked, time_stays, in_time}
use Rattle.tagged_calls.specs.TaggedCallLaws.{IsTaggedCall, StaysUntagged, header_holds, first_holds}
use Rattle.stopless_copy.specs.StoplessTable.{IsSealed, IsAtWide, IsCompared, IsAtCopy, StoplessFits, StoplessOwn, StoplessState, StoplessShape, StoplessMakes}
use Rattle.stopless_copy.specs.WideLaws.{same_statuses}
use Rattle.stopless_copy.specs.WideCallLaws.{IsWideCall}

-- ---- a call is at its header, at a plain word, or at a wide object

compared_changes : (t : Task) (x : Here) (u : Status) → IsCompared t x u → IsChange t
compared_changes Reads x u compared = absurd compared
compared_changes (Writes word) x u compared = tt
compared_changes (Exchanges expected word) x u compared = tt

pub called : (c : Cycle) (side : Side) (x : Here) (k : Known) (s : Spot) → at_field k ≡ Some s → StoplessOwn c side x k → IsTaggedCall k ⊎ IsWideCall k
called c side x (Loads_header z t) s at own = inl tt
called c side x (Keeps z t tagged) s at own = inl tt
called c side x (Loads z t) s at own = inl tt
called c side x (Stores z word) s at own = inl tt
called c side x (Swaps z t v n) s at own = inl tt
called c side x (Loads_wide z t wide) s at own = inr tt
called c side x (Swaps_wide z t wide u n) s at own = inr (compared_changes t x u own.1)
called c side x (Loads_late z t wide) s at own = inr tt
called c side x (Loads_address z t wide) s at own = inr tt
called c side x (Loads_copy z t to) s at own = inl tt
called c side x (Stores_copy z word to) s at own = inl tt
called c side x (Swaps_copy z t to v n) s at own = inl tt
called c side x (Follows z t m) s at own = absurd (let gone : None ≡ Some s = at in cc)
called c side x (Over z t end) s at own = absurd (let gone : None ≡ Some s = at in cc)
called c side x k s at own = absurd own

-- ---- the rows under everyone's steps

makes_unmarked : (e : Event) → StoplessMakes e → IsUnmarked e
makes_unmarked e makes = grind (arith, makes)

wide_stays : (c : Cycle) (x : Here) (e : Event) (wide : ℕ) → StoplessMakes e → May c x e → IsAtWide x wide → IsAtWide (after e x) wide
wide_stays c x e wide makes may own = grind (arith, makes, may, own)

copy_stays : (c : Cycle) (x : Here) (e : Event) (to : ℕ) → StoplessMakes e → May c x e → IsAtCopy x to → IsAtCopy (after e x) to
copy_stays c x e to makes may own = grind (arith, makes, may, own)

copied_stays : (c : Cycle) (x : Here) (e : Event) → StoplessMakes e → May c x e → IsCopied x.status → IsCopied (after e x).status
copied_stays c x e makes may own = grind (arith, makes, may, own)

-- a sealed original's words stand still
still : (c : Cycle) (x : Here) (e : Event) → StoplessMakes e → May c x e → IsSealed x.state → (after e x).word ≡ x.word
still c x e makes may sealed = grind (arith, makes, may, sealed)

compared_stays : (t : Task) (x y : Here) (u : Status) → y.word ≡ x.word → IsCompared t x u → IsCompared t y u
compared_stays t x y u same compared = grind (arith, same, compared)

pub stays : (c : Cycle) (side : Side) (h : List Call) (x : Here) (e : Event) (k : Known) → StoplessMakes e → May c x e → Dated h e → Before side.seen h → StoplessFits c side → StoplessOwn c side x k → StoplessOwn c side (after e x) k
stays c side h x e (Loads_header z t) makes may dated past fits own = tt
stays c side h x e (Keeps z t tagged) makes may dated past fits own = tt
stays c side h x e (Loads z Reads) makes may dated past fits own = time_stays x e h side.seen dated past own
stays c side h x e (Loads z t) makes may dated past fits own = store_stays c side.acked x e (makes_unmarked e makes) may fits own
stays c side h x e (Stores z word) makes may dated past fits own = store_stays c side.acked x e (makes_unmarked e makes) may fits own
stays c side h x e (Swaps z t v n) makes may dated past fits own = store_stays c side.acked x e (makes_unmarked e makes) may fits own
stays c side h x e (Loads_wide z t wide) makes may dated past fits own = wide_stays c x e wide makes may own
stays c side h x e (Swaps_wide z t wide u n) makes may dated past fits own = (wide_stays c x e wide makes may own.0, compared_stays t x (after e x) u (still c x e makes may own.0.0) own.1)
stays c side h x e (Loads_late z t wide) makes may dated past fits own = (wide_stays c x e wide makes may own.0, ap value_of (still c x e makes may own.0.0) ∙ own.1)
stays c side h x e (Loads_address z t wide) makes may dated past fits own = (wide_stays c x e wide makes may own.0, copied_stays c x e makes may own.1)
stays c side h x e (Loads_copy z t to) makes may dated past fits own = copy_stays c x e to makes may own
stays c side h x e (Stores_copy z word to) makes may dated past fits own = copy_stays c x e to makes may own
stays c side h x e (Swaps_copy z t to v n) makes may dated past fits own = copy_stays c x e to makes may own
stays c side h x e (Follows z t m) makes may dated past fits own = tt
stays c side h x e (Over z t end) makes may dated past fits own = tt
stays c side h x e k makes may dated past fits own = absurd own

-- ---- its own step

pub step_makes : (c : Cycle) (side : Side) (x : Here) (k : Known) (found : Finds) → StoplessOwn c side x k → StoplessMakes (event k found)
step_makes c side x k found own = grind (arith, own)

pub copy_zone : (mark : Option FieldWord) (x : Here) (to : ℕ) → IsAtCopy x to → zone mark x.state x.word x.status ≡ Copied
copy_zone mark x to own = grind (arith, own)

pub copy_place : (mark : Option FieldWord) (x : Here) (w : FieldWord) (to : ℕ) → IsAtCopy x to → place_word mark x w ≡ w
copy_place mark x w to own = grind (arith, own)

write_may : (c : Cycle) (x : Here) (z : Spot) (t : Task) (v : FieldWord) (n : ℕ) (o : Option FieldWord) → ((w : FieldWord) → May c x (Write w)) → May c x (put_event (Swaps z t v n) o)
write_may c x z t v n None may = tt
write_may c x z t v n (Some w) may = may w

copy_may : (c : Cycle) (x : Here) (z : Spot) (t : Task) (to : ℕ) (v : FieldWord) (n : ℕ) (o : Option FieldWord) → ((w : FieldWord) → May c x (Write_copy w)) → May c x (put_event (Swaps_copy z t to v n) o)
copy_may c x z t to v n None may = tt
copy_may c x z t to v n (Some w) may = may w

keep_may : (c : Cycle) (x : Here) (y : State) (colour : Colour) (len : ℕ) → x.state ≡ y → May c x (keep_event (Header_word y colour len))
keep_may c x Tagged colour len is = is
keep_may c x y colour len is = tt

-- where a wide word is exchanged that is not InCopy, the object is wide
compared_uncopied : (t : Task) (x : Here) (u : Status) → IsCompared t x u → IsUncopied u
compared_uncopied t x u compared = grind (arith, compared)

uncopied_wide : (b f : ℕ) (x : Here) → IsSealed x.state → IsUncopied x.status → StoplessState b f x x.state → IsWide x.state
uncopied_wide b f x sealed uncopied state = grind (arith, sealed, uncopied, state)

swaps_may : (c : Cycle) (x : Here) (z : Spot) (t : Task) (wide : ℕ) (u : Status) (n : ℕ) (o : Option FieldWord) → (IsWide x.state × IsUncopied x.status) → May c x (put_event (Swaps_wide z t wide u n) o)
swaps_may c x z t wide u n None may = tt
swaps_may c x z t wide u n (Some w) may = may

tried_may : (c : Cycle) (b f : ℕ) (x : Here) (z : Spot) (t : Task) (wide : ℕ) (u : Status) (n : ℕ) (test : Bool) → same_status x.status u ≡ test → IsAtWide x wide → IsCompared t x u → StoplessState b f x x.state
    → May c x (put_event (Swaps_wide z t wide u n) (if test then word_in t else None))
tried_may c b f x z t wide u n false e at compared state = tt
tried_may c b f x z t wide u n true e at compared state =
    let same : x.status ≡ u = same_statuses x.status u e in
    let uncopied : IsUncopied x.status = subst IsUncopied (sym same) (compared_uncopied t x u compared) in
    swaps_may c x z t wide u n (word_in t) (uncopied_wide b f x at.0 uncopied state, uncopied)

pub step_may : (c : Cycle) (side : Side) (b f : ℕ) (x : Here) (w : FieldWord) (k : Known) → StoplessFits c side → StoplessOwn c side x k → (has_field k ≡ true → StoplessShape c b f x w) → May c x (event k (finds c.phase x w k))
step_may c side b f x w (Loads_header z t) fits own shape = tt
step_may c side b f x w (Keeps z t tagged) fits own shape = keep_may c x x.state x.colour x.len refl
step_may c side b f x w (Loads z t) fits own shape = tt
step_may c side b f x w (Stores z word) fits own shape = let so = shape refl in (store_may c side.acked x fits own word, unmarked c so.markless word)
step_may c side b f x w (Swaps z t v n) fits own shape = let so = shape refl in write_may c x z t v n (puts (Swaps z t v n) (Field_word x.word)) (λ u. (store_may c side.acked x fits own u, unmarked c so.markless u))
step_may c side b f x w (Loads_wide z t wide) fits own shape = tt
step_may c side b f x w (Swaps_wide z t wide u n) fits own shape = let so = shape refl in tried_may c b f x z t wide u n (same_status x.status u) refl own.0 own.1 so.state
step_may c side b f x w (Loads_late z t wide) fits own shape = tt
step_may c side b f x w (Loads_address z t wide) fits own shape = tt
step_may c side b f x w (Loads_copy z t to) fits own shape = tt
step_may c side b f x w (Stores_copy z word to) fits own shape = let so = shape refl in (copy_zone c.mark x to own, unmarked c so.markless word)
step_may c side b f x w (Swaps_copy z t to v n) fits own shape = let so = shape refl in copy_may c x z t to v n (puts (Swaps_copy z t to v n) (Field_word w)) (λ u. (copy_zone c.mark x to own, unmarked c so.markless u))
step_may c side b f x w (Follows z t m) fits own shape = tt
step_may c side b f x w (Over z t end) fits own shape = tt
step_may c side b f x w k fits own shape = absurd own

-- ---- the row that it goes on to

-- an object here that is neither sealed nor tagged is safe to store in, and has no seal
safe_here : (acked : Stance) (b f : ℕ) (x : Here) (y : State) → StaysUntagged y → IsLive y → StoplessState b f x y → MayStore acked y × (x.seal ≡ None)
safe_here acked b f x y here live state = grind (arith, here, live, state)

tagged_seal : (b f : ℕ) (x : Here) (y : State) → y ≡ Tagged → StoplessState b f x y → x.seal ≡ None
tagged_seal b f x y is state = grind (arith, is, state)

original_own : (c : Cycle) (side : Side) (x : Here) (z : Spot) (t : Task) → InTime x.seal side.seen → MayStore side.acked x.state → StoplessOwn c side x (to_original z t)
original_own c side x z Reads time safe = time
original_own c side x z (Writes word) time safe = safe
original_own c side x z (Exchanges expected word) time safe = safe

pub copy_own : (c : Cycle) (side : Side) (x : Here) (z : Spot) (t : Task) (to : ℕ) → IsAtCopy x to → StoplessOwn c side x (to_copy z t to)
copy_own c side x z Reads to is = is
copy_own c side x z (Writes word) to is = is
copy_own c side x z (Exchanges expected word) to is = is

-- at what the header says
forward_copy : (b f : ℕ) (x : Here) (to : ℕ) → x.state ≡ Forward to → TargetIs x x.state → StoplessState b f x x.state → IsAtCopy x to
forward_copy b f x to is target state = grind (arith, is, target, state)

wide_own : (b f : ℕ) (x : Here) (wide : ℕ) → x.state ≡ Wide wide → TargetIs x x.state → StoplessState b f x x.state → IsAtWide x wide
wide_own b f x wide is target state = grind (arith, is, target, state)

module _ (c : Cycle) (side : Side) (x : Here) (z : Spot) (t : Task) (b f : ℕ) (live : IsLive x.state) (target : TargetIs x x.state) (state : StoplessState b f x x.state) where
  pub loaded_own : StoplessOwn c side x (by_header Loads_wide z t x.state x.colour x.len)
  loaded_own =
      header_holds Loads_wide (StoplessOwn c side x) z t x.state x.colour x.len
      (λ here. let safe = safe_here side.acked b f x x.state here live state in original_own c side x z t (in_time x.seal side.seen safe.1) safe.0)
      (λ is. first_holds (StoplessOwn c side x) z t (tagged_of z x.colour x.len) (λ r. in_time x.seal side.seen (tagged_seal b f x x.state is state)) tt)
      (λ to is. copy_own c side x z t to (forward_copy b f x to is target state))
      (λ wide is. wide_own b f x wide is target state)

  -- the exchange for Kept won, or the header is another
  abbrev Turned : State → Type 0
  Turned y = x.state ≡ y → IsLive y → StoplessState b f x y → StoplessOwn c side (after (keep_event (Header_word y x.colour x.len)) x) (by_kept Loads_wide z t y)

  here_own : (y : State) → StaysUntagged y → x.state ≡ y → IsLive y → StoplessState b f x y → StoplessOwn c side x (to_original z t)
  here_own y here is live so = let safe = safe_here side.acked b f x y here live so in original_own c side x z t (in_time x.seal side.seen safe.1) (rw is safe.0)

  turned : (y : State) → Turned y
  turned Tagged is live so = original_own c side (after (keep_event (Header_word Tagged x.colour x.len)) x) z t (in_time x.seal side.seen so.0) tt
  turned (Forward to) is live so = copy_own c side x z t to (forward_copy b f x to is target state)
  turned (Wide wide) is live so = wide_own b f x wide is target state
  turned Absent is live so = absurd live
  turned Plain is live so = here_own Plain tt is live so
  turned Kept is live so = here_own Kept tt is live so
  turned (Moving to) is live so = absurd so
  turned Underway is live so = absurd live
  turned Dead is live so = absurd live

  pub kept_own : StoplessOwn c side (after (keep_event (Header_word x.state x.colour x.len)) x) (by_kept Loads_wide z t x.state)
  kept_own = turned x.state refl live state
