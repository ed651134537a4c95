-- What each field holds after a list of accepted entries, by the changes alone.
use Rattle.std.specs.Prelude.{◌≡◌, ℕ, List, [], ◌∷◌, reverse, ◌==◌, ◌&&◌, if◌then◌else◌, Some}
use Rattle.heap_history.specs.declared.call.Value.{Value}
use Rattle.heap_history.specs.declared.call.Value.TheVariants.{Num}
use Rattle.heap_history.specs.declared.call.Call.{Call}
use Rattle.heap_history.specs.declared.call.Call.TheVariants.{NewObject, Read, Write, Exchange}
use Rattle.heap_history.specs.declared.call.Entry.{Entry}
use Rattle.heap_history.specs.FixedHeaps.{opening, value_in}
use Rattle.heap_history.specs.Histories.{heap_after, calls, changes}

-- the value last written to a field by these changes, of which the newest comes first; 0 where there is none
abbrev pub last_written : List Call → ℕ → ℕ → Value
last_written [] object field = Num 0
last_written (NewObject pass birth len ∷ earlier) object field = last_written earlier object field
last_written (Read pass at place ∷ earlier) object field = last_written earlier object field
last_written (Write pass at place value ∷ earlier) object field = if at == object && place == field then value else last_written earlier object field
last_written (Exchange pass at place expected value ∷ earlier) object field = if at == object && place == field then value else last_written earlier object field

-- Each field that is there after the entries holds the value that their changes last wrote to it, or 0.
abbrev pub HoldsLastWrites : List Entry → Type 0
HoldsLastWrites es = (object field : ℕ) (value : Value) → value_in (heap_after opening (calls es)) object field ≡ Some value → value ≡ last_written (reverse (changes es)) object field
