-- How the program ends.
use Rattle.std.specs.Prelude.{◌≡◌, ℕ, List, [], ◌∷◌, ◌++◌, ◌⊎◌, codes}
use Rattle.std.specs.Fmt.{decimal}
use Rattle.heap_script.specs.declared.fault.FaultKind.{FaultKind}
use Rattle.heap_script.specs.declared.fault.FaultKind.TheVariants.{NoHeapLine, BadWord, BadNumber, BadThread, BadRegister, TooManyLines, NotAscii, BadLayout}
use Rattle.gc_tool.specs.declared.status.Status.{Status}
use Rattle.gc_tool.specs.declared.status.Status.TheVariants.{Done, Usage, ReadFault, TooLong, ScriptFault, WriteFault, StepsSpent, OutOfMemory, NotBuilt}

-- the exit status of the program
abbrev pub exit_of : Status → ℕ
exit_of Done = 0
exit_of (Usage index) = 1
exit_of ReadFault = 2
exit_of TooLong = 3
exit_of (ScriptFault line kind) = 4
exit_of WriteFault = 5
exit_of (StepsSpent n) = 7
exit_of OutOfMemory = 8
exit_of NotBuilt = 9

-- what is wrong with a line
abbrev pub kind_text : FaultKind → List ℕ
kind_text NoHeapLine = codes "no heap line"
kind_text BadWord = codes "bad word"
kind_text BadNumber = codes "bad number"
kind_text BadThread = codes "bad thread"
kind_text BadRegister = codes "bad register"
kind_text TooManyLines = codes "too many lines"
kind_text NotAscii = codes "not ascii"
kind_text BadLayout = codes "bad layout"

-- what is said on standard error
abbrev pub text_of : Status → List ℕ
text_of Done = []
text_of (Usage index) = codes "gc_tool: usage, word " ++ decimal index
text_of ReadFault = codes "gc_tool: reading failed"
text_of TooLong = codes "gc_tool: input too long"
text_of (ScriptFault line kind) = codes "gc_tool: line " ++ decimal line ++ codes ", " ++ kind_text kind
text_of WriteFault = codes "gc_tool: writing failed"
text_of (StepsSpent n) = codes "gc_tool: " ++ decimal n ++ codes " steps spent"
text_of OutOfMemory = codes "gc_tool: out of memory"
text_of NotBuilt = codes "gc_tool: not built yet"

-- the line of it, which ends in LF; nothing for a whole output
abbrev pub line_of : Status → List ℕ
line_of Done = []
line_of status = text_of status ++ 10 ∷ []

-- the ends that reading can have
abbrev pub IsOfReading : Status → Type 0
IsOfReading status = (status ≡ ReadFault) ⊎ (status ≡ TooLong) ⊎ (status ≡ OutOfMemory)
