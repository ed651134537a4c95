-- What the faults of a check of entries say.
use Rattle.std.specs.Prelude.{◌≡◌, ℕ, List, take, Some, slice_get}
use Rattle.heap_history.specs.declared.call.Entry.{Entry}
use Rattle.heap_history.specs.declared.call.Reply.TheVariants.{Made}
use Rattle.heap_history.specs.declared.check.CheckFault.{CheckFault}
use Rattle.heap_history.specs.declared.check.CheckFault.TheVariants.{BadEntry, OutOfMemory}
use Rattle.heap_history.specs.FixedHeaps.{opening, answer}
use Rattle.heap_history.specs.Histories.{IsAccepted, IsFirstBad, heap_after, calls}

-- An entry takes memory: it stands after accepted ones, and the heap makes an object for it.
pub record TakesMemory (es : List Entry) : Type 0 where
  pub index : ℕ
  pub entry : Entry
  pub at : slice_get es index ≡ Some entry
  pub earlier : IsAccepted opening (take index es)
  pub made : answer (heap_after opening (calls (take index es))) entry.call ≡ Made

-- A bad entry is the first one. Memory runs out only where an entry takes some.
abbrev pub Says : List Entry → CheckFault → Type 0
Says es (BadEntry index wanted found) = IsFirstBad es index wanted found
Says es OutOfMemory = TakesMemory es
