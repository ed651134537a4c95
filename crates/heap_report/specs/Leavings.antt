-- The lines of what is left: the registers of each thread, and the objects.
use Rattle.std.specs.Prelude.{ℕ, ◌+◌, List, [], ◌∷◌, ◌++◌, map, codes, decimal}
use Rattle.heap_history.specs.declared.call.Value.{Value}
use Rattle.heap_script.specs.Text.{line_text}
use Rattle.cycle_journal.specs.declared.leavings.ObjectLine.{ObjectLine}
use Rattle.heap_report.specs.Words.{object_word, value_word}

-- the registers of a thread
abbrev pub left_text : ℕ → List Value → List ℕ
left_text thread registers = line_text (codes "left" ∷ decimal thread ∷ map value_word registers)

-- those of thread t, t + 1 and so on
abbrev pub all_left_text : ℕ → List (List Value) → List ℕ
all_left_text thread [] = []
all_left_text thread (first ∷ later) = left_text thread first ++ all_left_text (thread + 1) later

-- an object, where it is, and its fields
abbrev pub object_text : ObjectLine → List ℕ
object_text o = line_text (codes "object" ∷ object_word o.birth ∷ decimal o.at ∷ map value_word o.fields.items)
