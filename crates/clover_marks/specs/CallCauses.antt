-- Why a call ends as it does, whatever others do meanwhile.
use Rattle.std.specs.Prelude.{◌≡◌, ◌≢◌, ℕ, ◌+◌, ◌≤◌, ◌⊎◌, ◌==◌, if◌then◌else◌, true, false, List, [], ◌∷◌, ◌++◌, Some, None}
use Rattle.call_steps.specs.declared.step.Step.{Step}
use Rattle.call_steps.specs.declared.step.Step.TheVariants.{Load, Store, Exchange}
use Rattle.call_steps.specs.Ending.{Taken, LastStep, up_to}
use Rattle.heap_words.specs.Layouts.{phase_at}
use Rattle.heap_words.specs.FieldWords.{field_at}
use Rattle.heap_words.specs.declared.field_word.FieldWord.{FieldWord}
use Rattle.barriers.specs.declared.ends.TryRefusal.{TryRefusal}
use Rattle.barriers.specs.declared.ends.TryRefusal.TheVariants as refusal
use Rattle.barriers.specs.Causes.{len_at}
use Rattle.barriers.specs.FollowCauses.{IsGiven}
use Rattle.clover_marks.specs.declared.access.Action.{Action}
use Rattle.clover_marks.specs.declared.access.Action.TheVariants as action
use Rattle.clover_marks.specs.declared.access.Access.{Access}
use Rattle.clover_marks.specs.declared.access.Place.{Place}
use Rattle.clover_marks.specs.declared.access.Place.TheVariants.{Original, Copy}
use Rattle.clover_marks.specs.declared.call.CallEnd.{CallEnd}
use Rattle.clover_marks.specs.declared.call.CallEnd.TheVariants as call_end
use Rattle.clover_marks.specs.Accesses.{word_of_action, serves, is_mark_word, address_of, moved}
use Rattle.clover_marks.specs.Calls.{is_busy}

-- ---- where a call is

-- how many of these steps exchanged this word
abbrev pub exchanges_in : ℕ → Step → ℕ
exchanges_in place (Exchange at want put) = if at == place then 1 else 0
exchanges_in place step = 0

abbrev pub exchanges_at : ℕ → List Taken → ℕ
exchanges_at place [] = 0
exchanges_at place (t ∷ rest) = exchanges_in place t.step + exchanges_at place rest

-- a load of the call's header
abbrev pub header_load : Access → ℕ → Taken
header_load access found = record { step = Load access.spot.at; found = found }

-- in the original at once; and in the copy once a load of the header, the last of these steps, has told of it
abbrev pub IsTold : Access → Place → List Taken → Type 0
IsTold access Original steps = steps ≡ []
IsTold access (Copy copy) steps = (earlier : List Taken) × (header : ℕ) × (steps ≡ earlier ++ header_load access header ∷ []) × (moved access.spot header ≡ Some copy)

-- After these steps the call is there, and this many of the steps there were exchanges of the field's word.
pub record IsAt (access : Access) (place : Place) (tries : ℕ) (steps : List Taken) : Type 0 where
  pub before : List Taken
  pub rest : List Taken
  pub splits : steps ≡ before ++ rest
  pub told : IsTold access place before
  pub count : exchanges_at (address_of access place) rest ≡ tries

-- the exchange of this word there for the word to write, which found that one
abbrev pub try_of : Access → Place → ℕ → ℕ → Taken
try_of access place wanted found = record { step = Exchange (address_of access place) wanted (word_of_action access.action); found = found }

-- it writes
abbrev pub IsWriter : Action → Type 0
IsWriter action.Read = ⊥
IsWriter act = Unit {0}

-- ---- for want of the field

-- it has taken no step, or loaded a phase word by which no value of the cycle may be moving
abbrev pub IsFirst : ℕ → List Taken → Type 0
IsFirst cycle steps = (steps ≡ []) ⊎ ((word : ℕ) × (steps ≡ record { step = Load phase_at; found = word } ∷ []) × (is_busy cycle word ≡ false))

-- the first load of the header said this len, and the field is at or past it
pub record LacksField (access : Access) (cycle : ℕ) (last : LastStep) (len : ℕ) : Type 0 where
  pub first : IsFirst cycle last.earlier
  pub header : last.step ≡ Load access.spot.at
  pub says : len ≡ len_at last.found
  pub past : len ≤ access.spot.field

-- ---- Busy

-- the first step loaded the phase word, by which values of the acknowledged cycle may be moving, and the word to write is the pass's mark
pub record IsBusy (access : Access) (cycle : ℕ) (last : LastStep) (its mark : ℕ) : Type 0 where
  pub first : last.earlier ≡ []
  pub phase : last.step ≡ Load phase_at
  pub says : is_busy cycle last.found ≡ true
  pub its_cycle : its ≡ cycle
  pub its_mark : mark ≡ access.mark
  pub own : is_mark_word access.mark (word_of_action access.action) ≡ true

-- ---- Raced

-- after these steps comes the third exchange of the field's word there, which wanted one word and found another, and each serves
pub record IsThird (access : Access) (place : Place) (steps : List Taken) (loaded found : ℕ) : Type 0 where
  pub at : IsAt access place 2 steps
  pub lost : found ≢ loaded
  pub loaded_serves : serves access.action loaded ≡ true
  pub found_serves : serves access.action found ≡ true
  pub writes : IsWriter access.action

-- that was the last step; or it found the mark in the original, and the last step loaded the header, by which the field has not moved
abbrev pub IsLastTry : Access → Place → List Taken → ℕ → ℕ → LastStep → Type 0
IsLastTry access place steps loaded found last =
    (up_to last ≡ steps ++ try_of access place loaded found ∷ [])
    ⊎ ((place ≡ Original) × (found ≡ access.mark) × (last.earlier ≡ steps ++ try_of access place loaded found ∷ []) × (last.step ≡ Load access.spot.at) × (moved access.spot last.found ≡ None))

pub record HasRaced (access : Access) (last : LastStep) (loaded found : ℕ) : Type 0 where
  pub place : Place
  pub steps : List Taken
  pub third : IsThird access place steps loaded found
  pub when : IsLastTry access place steps loaded found last

-- ---- with a value

-- in the original a mark is no value, unless the header says so
abbrev pub IsValue : Access → Place → ℕ → Type 0
IsValue access Original word = is_mark_word access.mark word ≡ false
IsValue access (Copy copy) word = Unit {0}

-- a load of the field's word, or an exchange of it that lost
abbrev pub IsLookStep : Access → Place → Step → ℕ → Type 0
IsLookStep access place step found = (step ≡ Load (address_of access place)) ⊎ ((wanted : ℕ) × (step ≡ Exchange (address_of access place) wanted (word_of_action access.action)) × (found ≢ wanted))

-- the last step was that, and found a value that the call came for
pub record IsLook (access : Access) (last : LastStep) : Type 0 where
  pub place : Place
  pub tries : ℕ
  pub at : IsAt access place tries last.earlier
  pub how : IsLookStep access place last.step last.found
  pub value : IsValue access place last.found
  pub came : serves access.action last.found ≡ false

-- the last of these steps found the mark in the original
pub record FoundMark (access : Access) (steps : List Taken) : Type 0 where
  pub before : List Taken
  pub last : Taken
  pub splits : steps ≡ before ++ last ∷ []
  pub how : IsLookStep access Original last.step last.found
  pub mark : last.found ≡ access.mark
  pub number : is_mark_word access.mark access.mark ≡ true

-- and the next one loaded the header, by which the field has not moved: the mark is the value, and the call came for it
pub record IsMarkLook (access : Access) (last : LastStep) : Type 0 where
  pub found : FoundMark access last.earlier
  pub header : last.step ≡ Load access.spot.at
  pub still : moved access.spot last.found ≡ None
  pub came : serves access.action access.mark ≡ false

-- it gives such a value, followed as the phase asks
abbrev pub IsHeld : Access → LastStep → FieldWord → Type 0
IsHeld access last held = IsGiven (IsLook access) access.phase last held ⊎ (IsMarkLook access last × (held ≡ field_at access.mark))

-- ---- with its word in the field

-- the last step stored the word there, or exchanged the word that it found for it
pub record HasPut (access : Access) (last : LastStep) : Type 0 where
  pub place : Place
  pub tries : ℕ
  pub at : IsAt access place tries last.earlier
  pub how : (last.step ≡ Store (address_of access place) (word_of_action access.action)) ⊎ (last.step ≡ Exchange (address_of access place) last.found (word_of_action access.action))

-- an exchange found a word of the expected value
pub record HasExchanged (access : Access) (last : LastStep) : Type 0 where
  pub place : Place
  pub tries : ℕ
  pub at : IsAt access place tries last.earlier
  pub how : last.step ≡ Exchange (address_of access place) last.found (word_of_action access.action)
  pub expected : serves access.action last.found ≡ true

-- ---- all ends

abbrev pub RefusedFor : Access → ℕ → LastStep → TryRefusal → Type 0
RefusedFor access cycle last (refusal.NoField len) = LacksField access cycle last len
RefusedFor access cycle last refusal.NotLink = ⊥
RefusedFor access cycle last (refusal.Raced loaded found) = HasRaced access last loaded found
RefusedFor access cycle last (refusal.Busy its mark) = IsBusy access cycle last its mark

-- of this call, where its pass has acknowledged this cycle
abbrev pub CallEnds : Access → ℕ → LastStep → CallEnd → Type 0
CallEnds access cycle last (call_end.Got held) = IsHeld access last held
CallEnds access cycle last call_end.Wrote = HasPut access last
CallEnds access cycle last call_end.Done = HasExchanged access last
CallEnds access cycle last (call_end.Differs held) = IsHeld access last held
CallEnds access cycle last (call_end.Refused why) = RefusedFor access cycle last why
