-- Which lines a script is, and which line is the first with a fault, said of each line apart from any reader.
use Rattle.std.specs.Prelude.{◌≡◌, ℕ, ◌+◌, ◌<◌, ◌⊎◌, List, [], ◌∷◌, length, take, map, not, count_by, ◌==◌, Option, Some, None, Result, Ok, Err, slice_index_or}
use Rattle.std.specs.List.{filter}
use Rattle.std.specs.Str.Lines.{lines}
use Rattle.heap_script.specs.declared.fault.FaultKind.{FaultKind}
use Rattle.heap_script.specs.declared.fault.FaultKind.TheVariants.{NoHeapLine}
use Rattle.heap_script.specs.Words.{Word, words, is_passed_over}
use Rattle.heap_script.specs.Scripts.{Reading}
use Rattle.heap_script.specs.Grammar.{◌>>=◌, Fault, heading, heap_line, command, command_line}

-- the words of each line that is not passed over: the heap line first, then the commands
abbrev pub said : List (List ℕ) → List (List Word)
said ls = filter (λ ws. not (is_passed_over ws)) (map words ls)

abbrev pub fault_of : {A : Type 0} → Result A FaultKind → Option FaultKind
fault_of (Ok x) = None
fault_of (Err kind) = Some kind

-- the fault of a line that stands after lines which said this
abbrev pub fault_after : List (List Word) → List ℕ → Option FaultKind
fault_after [] line = fault_of (heap_line line)
fault_after (h ∷ commands) line = fault_of (heading h >>= λ heap. command_line heap.0.passes (length commands) line)

-- the fault of the line at index i
abbrev pub fault_at : List (List ℕ) → ℕ → Option FaultKind
fault_at ls i = fault_after (said (take i ls)) (slice_index_or ls i [])

abbrev pub NoFaultBefore : List (List ℕ) → ℕ → Type 0
NoFaultBefore ls i = (j : ℕ) → j < i → fault_at ls j ≡ None

-- the first line with a fault, counted from 1, and its fault
pub record IsFirstFault (ls : List (List ℕ)) (f : Fault) : Type 0 where
  pub index : ℕ
  pub within : index < length ls
  pub counted : f.0 ≡ index + 1
  pub here : fault_at ls index ≡ Some f.1
  pub earlier : NoFaultBefore ls index

-- every line is passed over: there is no heap line, and the fault stands at 1 plus the number of LF bytes
pub record SaysNothing (bytes : List ℕ) (f : Fault) : Type 0 where
  pub no_fault : NoFaultBefore (lines bytes) (length (lines bytes))
  pub nothing : said (lines bytes) ≡ []
  pub line : f.0 ≡ 1 + count_by (λ b. b == 10) bytes
  pub kind : f.1 ≡ NoHeapLine

-- the fault of the bytes
abbrev pub IsFault : List ℕ → Fault → Type 0
IsFault bytes f = IsFirstFault (lines bytes) f ⊎ SaysNothing bytes f

-- the first of these lines says the layout and the cycles, and each later one its command
abbrev pub Says : List (List Word) → Reading → Type 0
Says [] s = ⊥
Says (h ∷ commands) s = (heading h ≡ Ok (s.layout, s.cycles)) × (map (command s.layout.passes) commands ≡ map Ok s.lines)

-- no line has a fault, and what the lines say is the script
pub record IsScript (bytes : List ℕ) (s : Reading) : Type 0 where
  pub no_fault : NoFaultBefore (lines bytes) (length (lines bytes))
  pub says : Says (said (lines bytes)) s
