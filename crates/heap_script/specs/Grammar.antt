-- The grammar of scripts: what each line says, or the first thing that is wrong with it.
use Rattle.std.specs.Prelude.{Bool, ℕ, ◌+◌, ◌-◌, ◌^◌, List, [], ◌∷◌, length, codes, count_by, ◌&&◌, not, nat_lt, nat_le, ◌==◌, Option, Some, None, Result, Ok, Err, is_none, if◌then◌else◌, slice_index, true, false}
use Rattle.std.specs.List.{before_first, after_first, position_or_len}
use Rattle.std.specs.Str.{bytes_eq}
use Rattle.std.specs.Str.Lines.{lines}
use Rattle.std.specs.Char.{is_ascii_digit}
use Rattle.heap_words.specs.Layouts.{Sizes}
use Rattle.heap_words.specs.declared.limits.TheConstants.{MOST_FIELDS}
use Rattle.heap_words.specs.LayoutFaults.{first_fault}
use Rattle.heap_words.specs.declared.operand.Operand.{Operand}
use Rattle.heap_words.specs.declared.operand.Operand.TheVariants as operands
use Rattle.heap_script.specs.declared.fault.FaultKind.{FaultKind}
use Rattle.heap_script.specs.declared.fault.FaultKind.TheVariants.{NoHeapLine, BadWord, BadNumber, BadThread, BadRegister, TooManyLines, NotAscii, BadLayout}
use Rattle.heap_script.specs.declared.script.Command.{Command}
use Rattle.heap_script.specs.declared.script.Command.TheVariants as commands
use Rattle.heap_script.specs.declared.script.Line.{Line}
use Rattle.heap_script.specs.Words.{Word, words, is_printable, is_passed_over, number_of}
use Rattle.heap_script.specs.Scripts.{Reading}

-- one thing after another: the first fault decides
infixl 10 ◌>>=◌
abbrev pub ◌>>=◌ : {A B E : Type 0} → Result A E → (A → Result B E) → Result B E
(Ok x) >>= f = f x
(Err e) >>= f = Err e

-- ---- places

-- a word that is due, and the words after it
abbrev pub due : List Word → Result (Word × List Word) FaultKind
due [] = Err BadWord
due (w ∷ ws) = Ok (w, ws)

-- no further word stands
abbrev pub ended : List Word → Result (Unit {0}) FaultKind
ended [] = Ok tt
ended (w ∷ ws) = Err BadWord

abbrev pub or_fault : {A : Type 0} → FaultKind → Option A → Result A FaultKind
or_fault fault None = Err fault
or_fault fault (Some x) = Ok x

-- a number within both limits, or that fault
unfoldable pub number_in : ℕ → ℕ → FaultKind → Word → Result ℕ FaultKind
number_in low high fault w = do
  n ← or_fault fault (number_of w)
  if nat_le low n && nat_le n high then Ok n else Err fault

-- R: a letter a to h, counted from 0
unfoldable pub register : Word → Result ℕ FaultKind
register w = if length w == 1 && nat_le 97 (slice_index w 0) && nat_le (slice_index w 0) 104 then Ok (slice_index w 0 - 97) else Err BadRegister

-- S.F: S is all before the first dot, F all after it
unfoldable pub place : Word → Result (ℕ × ℕ) FaultKind
place w =
    if nat_lt (position_or_len (λ b. b == 46) w) (length w) then (do
      obj ← register (before_first (λ b. b == 46) w)
      field ← number_in 0 (MOST_FIELDS - 1) BadNumber (after_first (λ b. b == 46) w)
      Ok (obj, field)) else Err BadWord

-- V: a number below 2^48 where it begins with a digit, else a register
unfoldable pub operand : Word → Result Operand FaultKind
operand w =
    if is_ascii_digit (slice_index w 0) then (do
      n ← number_in 0 (2 ^ 48 - 1) BadNumber w
      Ok (operands.Num n)) else (do
        r ← register w
        Ok (operands.Reg r))

-- ---- commands

-- `R N`, after `new`
unfoldable pub new_arguments : List Word → Result Command FaultKind
new_arguments ws = do
  a ← due ws
  dst ← register a.0
  b ← due a.1
  len ← number_in 0 MOST_FIELDS BadNumber b.0
  _ ← ended b.1
  Ok (commands.New dst len)

-- `R S.F`, after `get`
unfoldable pub get_arguments : List Word → Result Command FaultKind
get_arguments ws = do
  a ← due ws
  dst ← register a.0
  b ← due a.1
  from ← place b.0
  _ ← ended b.1
  Ok (commands.Get dst from.0 from.1)

-- `S.F V`, after `put`
unfoldable pub put_arguments : List Word → Result Command FaultKind
put_arguments ws = do
  a ← due ws
  into ← place a.0
  b ← due a.1
  what ← operand b.0
  _ ← ended b.1
  Ok (commands.Put into.0 into.1 what)

-- `R S.F V V`, after `cas`
unfoldable pub cas_arguments : List Word → Result Command FaultKind
cas_arguments ws = do
  a ← due ws
  dst ← register a.0
  b ← due a.1
  into ← place b.0
  c ← due b.1
  expected ← operand c.0
  d ← due c.1
  value ← operand d.0
  _ ← ended d.1
  Ok (commands.Cas dst into.0 into.1 expected value)

-- `R S`, after `copy`
unfoldable pub copy_arguments : List Word → Result Command FaultKind
copy_arguments ws = do
  a ← due ws
  dst ← register a.0
  b ← due a.1
  src ← register b.0
  _ ← ended b.1
  Ok (commands.Copy dst src)

-- `R`, after `drop`
unfoldable pub drop_arguments : List Word → Result Command FaultKind
drop_arguments ws = do
  a ← due ws
  dst ← register a.0
  _ ← ended a.1
  Ok (commands.Drop dst)

-- nothing, after `poll`
unfoldable pub poll_arguments : List Word → Result Command FaultKind
poll_arguments ws = do
  _ ← ended ws
  Ok commands.Poll

-- the words after a command's name
unfoldable pub arguments : Word → List Word → Result Command FaultKind
arguments name ws =
    if bytes_eq name (codes "new") then new_arguments ws
    else if bytes_eq name (codes "get") then get_arguments ws
    else if bytes_eq name (codes "put") then put_arguments ws
    else if bytes_eq name (codes "cas") then cas_arguments ws
    else if bytes_eq name (codes "copy") then copy_arguments ws
    else if bytes_eq name (codes "drop") then drop_arguments ws
    else if bytes_eq name (codes "poll") then poll_arguments ws
    else Err BadWord

-- `T NAME ..`: the thread, the command's name, and the words after it
unfoldable pub command : ℕ → List Word → Result Line FaultKind
command passes ws = do
  a ← due ws
  thread ← number_in 1 passes BadThread a.0
  b ← due a.1
  c ← arguments b.0 b.1
  Ok (record { thread = thread; command = c })

-- ---- the heap line

-- a word that stands in each heap line, or that fault; and the words after it
unfoldable pub keyword : List ℕ → FaultKind → List Word → Result (List Word) FaultKind
keyword name fault ws = do
  a ← due ws
  if bytes_eq a.0 name then Ok a.1 else Err fault

-- a number of any size, and the words after it
unfoldable pub any_number : List Word → Result (ℕ × List Word) FaultKind
any_number ws = do
  a ← due ws
  n ← or_fault BadNumber (number_of a.0)
  Ok (n, a.1)

-- each number of the layout is in its range, and there are at most 64 cycles
abbrev pub is_within : Sizes → ℕ → Bool
is_within l cycles = is_none (first_fault l) && nat_le cycles 64

-- what the heap line says: the layout, and the cycles
abbrev pub Heading : Type 0
Heading = Sizes × ℕ

unfoldable pub within_limits : Sizes → ℕ → Result Heading FaultKind
within_limits l cycles = if is_within l cycles then Ok (l, cycles) else Err BadLayout

-- `heap P threads Q quota L pool W wide C cycles`
unfoldable pub heading : List Word → Result Heading FaultKind
heading ws = do
  a ← keyword (codes "heap") NoHeapLine ws
  p ← any_number a
  b ← keyword (codes "threads") BadWord p.1
  q ← any_number b
  c ← keyword (codes "quota") BadWord q.1
  l ← any_number c
  d ← keyword (codes "pool") BadWord l.1
  w ← any_number d
  e ← keyword (codes "wide") BadWord w.1
  n ← any_number e
  f ← keyword (codes "cycles") BadWord n.1
  _ ← ended f
  within_limits (record { passes = p.0; quota = q.0; pool = l.0; wide = w.0 }) n.0

-- ---- the lines of a script

-- what a line says before the heap line has come: nothing, or the heap line
unfoldable pub heap_line : List ℕ → Result (Option Heading) FaultKind
heap_line line =
    if not (is_printable line) then Err NotAscii
    else if is_passed_over (words line) then Ok None
    else (do
      h ← heading (words line)
      Ok (Some h))

-- a line is a heap line, or says nothing and this is so of those after it
abbrev pub is_heap_or : Result (Option Heading) FaultKind → Bool → Bool
is_heap_or (Ok (Some h)) later = true
is_heap_or (Ok None) later = later
is_heap_or (Err kind) later = false

-- the first line that says anything is a heap line, and no line up to it has a fault
abbrev pub has_heap_line : List (List ℕ) → Bool
has_heap_line [] = false
has_heap_line (line ∷ after) = is_heap_or (heap_line line) (has_heap_line after)

-- what a line says after the heap line and a number of commands: nothing, or a command
unfoldable pub command_line : ℕ → ℕ → List ℕ → Result (Option Line) FaultKind
command_line passes count line =
    if not (is_printable line) then Err NotAscii
    else if is_passed_over (words line) then Ok None
    else if nat_le 65536 count then Err TooManyLines
    else (do
      c ← command passes (words line)
      Ok (Some c))

-- a line, counted from 1, and what is wrong with it
abbrev pub Fault : Type 0
Fault = ℕ × FaultKind

abbrev pub at_line : {A : Type 0} → ℕ → Result A FaultKind → Result A Fault
at_line n (Ok x) = Ok x
at_line n (Err kind) = Err (n, kind)

-- What the lines from the n-th on say, where `say` reads a line after a number of things that were said.
unfoldable pub each_from : {A : Type 0} → (ℕ → List ℕ → Result (Option A) FaultKind) → ℕ → ℕ → List (List ℕ) → Result (List A) Fault
each_from say n count [] = Ok []
each_from say n count (line ∷ after) =
    at_line n (say count line) >>= λ said. elim said [
      | None ↦ each_from say (n + 1) count after
      | Some x ↦ each_from say (n + 1) (count + 1) after >>= λ xs. Ok (x ∷ xs)
    ]

-- the commands of the lines from the n-th on, after a number of commands
abbrev pub commands_from : ℕ → ℕ → ℕ → List (List ℕ) → Result (List Line) Fault
commands_from passes n count ls = each_from (command_line passes) n count ls

-- The script of the lines from the n-th on; where none of them says anything, the fault stands at the line `last`.
unfoldable pub script_from : ℕ → ℕ → List (List ℕ) → Result Reading Fault
script_from last n [] = Err (last, NoHeapLine)
script_from last n (line ∷ after) =
    at_line n (heap_line line) >>= λ said. elim said [
      | None ↦ script_from last (n + 1) after
      | Some h ↦ commands_from h.0.passes (n + 1) 0 after >>= λ cs. Ok (record { layout = h.0; cycles = h.1; lines = cs })
    ]

-- The script that the bytes spell, or the first fault.
unfoldable pub script_of : List ℕ → Result Reading Fault
script_of bytes = script_from (1 + count_by (λ b. b == 10) bytes) 1 (lines bytes)
