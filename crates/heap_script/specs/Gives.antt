-- What a reader returned, against what the grammar gives.
use Rattle.std.specs.Prelude.{◌≡◌, Result, Ok, Err}
use Rattle.heap_script.specs.declared.fault.FaultKind.{FaultKind}
use Rattle.heap_script.specs.declared.fault.ReadScriptFault.{ReadScriptFault}
use Rattle.heap_script.specs.declared.fault.ReadScriptFault.TheVariants.{Script, OutOfMemory}
use Rattle.heap_script.specs.Scripts.{Reading}
use Rattle.heap_script.specs.Grammar.{Fault}

-- seen by `view`, it is that value or that fault
abbrev pub Gives : {X Y : Type 0} → (X → Y) → Result X FaultKind → Result Y FaultKind → Type 0
Gives view (Ok x) read = read ≡ Ok (view x)
Gives view (Err kind) read = read ≡ Err kind

-- the grammar has that fault, unless memory ran out
abbrev pub Fails : {Y : Type 0} → ReadScriptFault → Result Y Fault → Type 0
Fails (Script line kind) read = read ≡ Err (line, kind)
Fails OutOfMemory read = Unit {0}

-- seen by `view`, it is that value or that fault, unless memory ran out
abbrev pub Reads : {X Y : Type 0} → (X → Y) → Result X ReadScriptFault → Result Y Fault → Type 0
Reads view (Ok x) read = read ≡ Ok (view x)
Reads view (Err e) read = Fails e read

-- a reader's answer is that script or that fault, unless memory ran out
abbrev pub IsAnswer : Result Reading ReadScriptFault → Result Reading Fault → Type 0
IsAnswer answer read = Reads (λ s. s) answer read

-- a fact of a fault in a script
abbrev pub IfScriptFault : ReadScriptFault → (Fault → Type 0) → Type 0
IfScriptFault (Script line kind) P = P (line, kind)
IfScriptFault OutOfMemory P = Unit {0}
