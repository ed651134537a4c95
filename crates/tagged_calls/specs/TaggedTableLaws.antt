-- What a call may assume of an object that is tagged before it is copied stays true, and suffices.
use Rattle.std.proofs.Common.{◌≡◌, refl, arith, List, Option, Some, None}
use Rattle.heap_words.specs.declared.field_word.FieldWord.{FieldWord}
use Rattle.heap_history.specs.NewestFirst.{value_at, Before}
use Rattle.heap_history.specs.NewestFirstLaws.{Before-refl}
use Rattle.heap_history.specs.declared.call.Call.{Call}
use Rattle.barriers.specs.declared.front.Front.{Front}
use Rattle.barriers.specs.declared.front.Front.TheVariants.{Stays, Now, SealedOrNow}
use Rattle.barriers.specs.Stances.{Stance}
use Rattle.barriers.specs.Spaces.{Here, place_word}
use Rattle.barriers.specs.Values.{value_of}
use Rattle.barriers.specs.Cycles.{Cycle, Phasing, phased, ToldFits}
use Rattle.barriers.specs.Knowns.{front, sealed_or}
use Rattle.barriers.specs.Events.{Event, after, May, Writable, Unmarked}
use Rattle.barriers.specs.ProtocolLaws.{Dated}
use Rattle.tagged_calls.specs.TaggedTable.{MayStore, InTime, Sealed, IsUnmarked, DrawsNone, HasNoMark}

-- ---- safe stores

-- a store that is safe stays so under everyone's steps, by what the handshake says of its pass
pub store_stays : (c : Cycle) (acked : Stance) (x : Here) (e : Event) → IsUnmarked e → May c x e → ToldFits c.told acked → MayStore acked x.state → MayStore acked (after e x).state
store_stays c acked x e makes may fits safe = grind (arith, makes, may, fits, safe)

pub store_may : (c : Cycle) (acked : Stance) (x : Here) → ToldFits c.told acked → MayStore acked x.state → (w : FieldWord) → Writable c.told c.mark x.state x.word w
store_may c acked x fits safe w = grind (arith, fits, safe)

-- the place of the field is the original
pub store_place : (acked : Stance) (mark : Option FieldWord) (x : Here) (copy : FieldWord) → MayStore acked x.state → place_word mark x copy ≡ x.word
store_place acked mark x copy safe = grind (arith, safe)

pub unmarked : (c : Cycle) → HasNoMark c → (w : FieldWord) → Unmarked c w
unmarked c none w clear = absurd (let no = none.0 in cc)

-- ---- late reads

pub time_stays : (x : Here) (e : Event) (h seen : List Call) → Dated h e → Before seen h → InTime x.seal seen → InTime (after e x).seal seen
time_stays x e h seen dated past time = grind (arith, dated, past, time)

-- a read before the seal is in time
pub in_time : (seal : Option (List Call)) (seen : List Call) → seal ≡ None → InTime seal seen
in_time seal seen none = rw none tt

-- after the seal it finds the value of then
pub sealed_value : (b f : _) (o : FieldWord) (seal : Option (List Call)) (h : List Call) → Sealed b f o seal → value_of o ≡ value_at (sealed_or seal h) b f
sealed_value b f o None h sealed = absurd sealed
sealed_value b f o (Some past) h sealed = sealed

-- what a pass has seen stays within the past
pub front_past : (f : Front) (seal : Option (List Call)) (h seen : List Call) → Before seen h → ((past : List Call) → seal ≡ Some past → Before past h) → Before (front f seal h seen) h
front_past Stays seal h seen past seals = past
front_past Now seal h seen past seals = Before-refl h
front_past SealedOrNow None h seen past seals = Before-refl h
front_past SealedOrNow (Some early) h seen past seals = seals early refl

-- and is no less than before: all changes so far, or a seal that a read is in time for
pub front_later : (f : Front) (seal : Option (List Call)) (h seen : List Call) → Before seen h → InTime seal seen → Before seen (front f seal h seen)
front_later Stays seal h seen past time = Before-refl seen
front_later Now seal h seen past time = past
front_later SealedOrNow None h seen past time = past
front_later SealedOrNow (Some early) h seen past time = time

-- ---- no mark

pub turn_markless : (c : Cycle) (e : Phasing) → DrawsNone e → HasNoMark c → HasNoMark (phased e c)
turn_markless c e draws none = grind (arith, draws, none)
