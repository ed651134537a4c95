-- What a step of any party is at one field of an object, and the one table of when it may be taken.
use Rattle.std.specs.Prelude.{◌≡◌, ◌≢◌, ℕ, true, false, List, ◌∷◌, Option, Some, None}
use Rattle.heap_words.specs.declared.field_word.FieldWord.{FieldWord}
use Rattle.wide_objects.specs.Statuses.{Status, InWide, InCopy}
use Rattle.heap_history.specs.declared.call.Call.{Call}
use Rattle.barriers.specs.States.{State, Plain, Kept, Tagged, Wide, Moving, Forward}
use Rattle.barriers.specs.Spaces.{Here, Copied, is_mark, zone}
use Rattle.barriers.specs.Values.{value_of}
use Rattle.barriers.specs.Cycles.{Told, Nobody, Everybody, Cycle, IsMoving}
use Rattle.barriers.specs.Knowns.{Known, Keeps, Stores, Swaps, Swaps_wide, Stores_copy, Swaps_copy, Finds, Header_word, puts}

-- what a step is at one field of an object, by its original's address
pub data Event : Type 0 where
  Quiet : Event
  -- of a pass: Tagged to Kept; a word for the original, for the copy, for the wide word
  Keep : Event
  Write : (w : FieldWord) → Event
  Write_copy : (w : FieldWord) → Event
  Widen : (w : FieldWord) → Event
  -- of the collector: Plain to Tagged; the copy's header, and where the wide object is; the copy's address in it
  Tag : Event
  Lay : (t w : ℕ) → Event
  Point : (t : ℕ) → Event
  -- Tagged to Wide, Plain to Moving
  Seal : (w : ℕ) (h : List Call) → Event
  Move : (t : ℕ) → Event
  -- a word for the copy; InWide to InCopy; the original's word to the mark
  Put_copy : (w : FieldWord) → Event
  Take : (w : FieldWord) → Event
  Mark : (w : FieldWord) → Event
  -- Wide or Moving to Forward; Tagged to Forward, which is a seal
  Pass_on : (t : ℕ) → Event
  Seal_on : (t : ℕ) (h : List Call) → Event
  -- a link's address is fixed; Kept to Plain, in the release
  Fix_word : (w : FieldWord) → Event
  Unkeep : Event

abbrev pub after : Event → Here → Here
after Quiet x = x
after Keep x = record x { state = Kept }
after (Write w) x = record x { word = w }
after (Write_copy w) x = x
after (Widen w) x = record x { status = InWide w }
after Tag x = record x { state = Tagged }
after (Lay t w) x = record x { to = t; wide = w }
after (Point t) x = record x { address = t }
after (Seal w h) x = record x { state = Wide w; seal = Some h }
after (Move t) x = record x { state = Moving t }
after (Put_copy w) x = x
after (Take w) x = record x { status = InCopy w }
after (Mark w) x = record x { word = w }
after (Pass_on t) x = record x { state = Forward t }
after (Seal_on t h) x = record x { state = Forward t; seal = Some h }
after (Fix_word w) x = record x { word = w }
after Unkeep x = record x { state = Plain }

-- the copy's word
abbrev pub after_copy : Event → FieldWord → FieldWord
after_copy (Write_copy w) c = w
after_copy (Put_copy w) c = w
after_copy _ c = c

-- ---- when a step may be taken: the whole traffic of all copiers

-- from a clear search until Free is announced nobody writes the mark
abbrev pub Unmarked : Cycle → FieldWord → Type 0
Unmarked c w = c.clear ≡ true → is_mark c.mark w ≡ false

-- the place of the field is the original, and stays it until the word is stored
abbrev pub Writable : Told → Option FieldWord → State → FieldWord → FieldWord → Type 0
Writable told mark Plain o w = Unit {0}
Writable told mark Kept o w = Unit {0}
Writable told mark Tagged o w = told ≢ Everybody
Writable told mark (Moving t) o w = (is_mark mark o ≡ false) × (is_mark mark w ≡ false)
Writable told mark _ o w = ⊥

abbrev pub IsCopied : Status → Type 0
IsCopied (InCopy w) = Unit {0}
IsCopied _ = ⊥

abbrev pub IsUncopied : Status → Type 0
IsUncopied (InCopy w) = ⊥
IsUncopied _ = Unit {0}

abbrev pub IsWide : State → Type 0
IsWide (Wide w) = Unit {0}
IsWide _ = ⊥

-- no move of the object has begun
abbrev pub IsStill : State → Type 0
IsStill Plain = Unit {0}
IsStill Kept = Unit {0}
IsStill Tagged = Unit {0}
IsStill _ = ⊥

abbrev pub IsPlainOrKept : State → Type 0
IsPlainOrKept Plain = Unit {0}
IsPlainOrKept Kept = Unit {0}
IsPlainOrKept _ = ⊥

-- the field is in the copy
abbrev pub Passed : Option FieldWord → State → FieldWord → Status → Type 0
Passed mark (Wide w) o u = IsCopied u
Passed mark (Moving t) o u = is_mark mark o ≡ true
Passed mark _ o u = ⊥

abbrev pub May : Cycle → Here → Event → Type 0
May c x Quiet = Unit {0}
May c x Keep = x.state ≡ Tagged
May c x (Write w) = Writable c.told c.mark x.state x.word w × Unmarked c w
May c x (Write_copy w) = (zone c.mark x.state x.word x.status ≡ Copied) × Unmarked c w
May c x (Widen w) = IsWide x.state × IsUncopied x.status
May c x Tag = (x.state ≡ Plain) × (c.told ≡ Nobody)
May c x (Lay t w) = IsStill x.state
May c x (Point t) = IsStill x.state × (t ≡ x.to)
May c x (Seal w h) = (x.state ≡ Tagged) × (c.told ≡ Everybody) × (w ≡ x.wide) × (x.address ≡ x.to)
May c x (Move t) = (x.state ≡ Plain) × (c.told ≡ Everybody) × (t ≡ x.to) × (c.clear ≡ true) × (is_mark c.mark x.word ≡ false)
May c x (Put_copy w) = zone c.mark x.state x.word x.status ≢ Copied
May c x (Take w) = IsWide x.state × (x.status ≡ InWide w)
May c x (Mark w) = IsMoving x.state × (c.told ≡ Everybody) × (c.mark ≡ Some w)
May c x (Pass_on t) = Passed c.mark x.state x.word x.status × (t ≡ x.to)
May c x (Seal_on t h) = (x.state ≡ Tagged) × (c.told ≡ Everybody) × (t ≡ x.to)
May c x (Fix_word w) = IsPlainOrKept x.state × (value_of w ≡ value_of x.word) × Unmarked c w
May c x Unkeep = x.state ≡ Kept

-- ---- the steps of a pass

abbrev pub put_event : Known → Option FieldWord → Event
put_event (Stores s v) (Some w) = Write w
put_event (Swaps s t x n) (Some w) = Write w
put_event (Stores_copy s v to) (Some w) = Write_copy w
put_event (Swaps_copy s t to x n) (Some w) = Write_copy w
put_event (Swaps_wide s t v x n) (Some w) = Widen w
put_event _ _ = Quiet

abbrev pub keep_event : Finds → Event
keep_event (Header_word Tagged colour len) = Keep
keep_event _ = Quiet

abbrev pub event : Known → Finds → Event
event (Keeps s t tagged) found = keep_event found
event k found = put_event k (puts k found)

-- the history after the step: one more change, where it puts a word
abbrev pub grown : Option FieldWord → Call → List Call → List Call
grown None call h = h
grown (Some w) call h = call ∷ h
