-- What a call may assume of an object that is tagged before it is copied, whatever way it is copied.
use Rattle.std.specs.Prelude.{◌≡◌, ℕ, false, List, Option, Some, None}
use Rattle.heap_words.specs.declared.field_word.FieldWord.{FieldWord}
use Rattle.heap_history.specs.NewestFirst.{value_at, Before}
use Rattle.heap_history.specs.declared.call.Call.{Call}
use Rattle.barriers.specs.States.{State, Plain, Kept, Tagged}
use Rattle.barriers.specs.Stances.{Stance}
use Rattle.barriers.specs.Values.{value_of}
use Rattle.barriers.specs.Cycles.{IsTold, Phasing, Draw, Clears, Cycle}
use Rattle.barriers.specs.Events.{Event, Move, Mark}

-- A store in the original is safe: the object stays where it is in this cycle; or it is Tagged, and this pass has not acknowledged the copying,
-- before which no object is sealed.
abbrev pub MayStore : Stance → State → Type 0
MayStore acked Plain = Unit {0}
MayStore acked Kept = Unit {0}
MayStore acked Tagged = IsTold acked → ⊥
MayStore acked _ = ⊥

-- A late read stays true: what the pass has seen is before the object's seal, if there is one.
abbrev pub InTime : Option (List Call) → List Call → Type 0
InTime None seen = Unit {0}
InTime (Some past) seen = Before seen past

-- there is a seal, and the word in the original is that of then
abbrev pub Sealed : ℕ → ℕ → FieldWord → Option (List Call) → Type 0
Sealed b f o None = ⊥
Sealed b f o (Some past) = value_of o ≡ value_at past b f

-- tags are no marks
abbrev pub IsUnmarked : Event → Type 0
IsUnmarked (Move t) = ⊥
IsUnmarked (Mark w) = ⊥
IsUnmarked _ = Unit {0}

-- no mark is drawn
abbrev pub DrawsNone : Phasing → Type 0
DrawsNone (Draw m) = ⊥
DrawsNone (Clears b) = ⊥
DrawsNone _ = Unit {0}

abbrev pub HasNoMark : Cycle → Type 0
HasNoMark c = (c.clear ≡ false) × (c.mark ≡ None)
