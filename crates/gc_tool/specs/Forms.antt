-- Which words and which inputs this program takes.
use Rattle.std.specs.Prelude.{◌≡◌, ℕ, ◌+◌, ◌-◌, ◌^◌, ◌≤◌, List, [], ◌∷◌, map, Vec, nat_le, ◌&&◌, if◌then◌else◌, Option, Some, None, Result, Ok, Err, option_map, codes}
use Rattle.std.specs.Option.{ok_or}
use Rattle.std.specs.Str.{bytes_eq}
use Rattle.gc_cycle.specs.declared.schedule.Schedule.{Schedule}
use Rattle.gc_cycle.specs.declared.schedule.Schedule.TheVariants.{Solo, Even, Drawn}
use Rattle.heap_script.specs.FirstFault.{IsScript, IsFault}
use Rattle.heap_script.specs.Grammar.{◌>>=◌}
use Rattle.heap_script.specs.Scripts.{Reading, Fits}
use Rattle.heap_script.specs.Words.{Word, number_of}
use Rattle.gc_tool.specs.declared.forms.Copying.{Copying}
use Rattle.gc_tool.specs.declared.forms.Copying.TheVariants as copying
use Rattle.gc_tool.specs.declared.forms.Asked.{Asked}
use Rattle.gc_tool.specs.declared.forms.Asked.TheVariants as asked
use Rattle.gc_tool.specs.declared.forms.Replay.{Replay}
use Rattle.gc_tool.specs.declared.status.Status.{Status}
use Rattle.gc_tool.specs.declared.status.Status.TheVariants.{Usage, ScriptFault, OutOfMemory, NotBuilt}

-- ---- what a word says

-- a number within both limits
abbrev pub within : ℕ → ℕ → Option ℕ → Option ℕ
within low high None = None
within low high (Some n) = if nat_le low n && nat_le n high then Some n else None

-- NUMBER: 1 to 20 digits, and below 2^64
abbrev pub seed_of : Word → Option ℕ
seed_of word = within 0 (2 ^ 64 - 1) (number_of word)

-- STEPS: a number from 1 to 1,000,000,000
abbrev pub steps_of : Word → Option ℕ
steps_of word = within 1 1000000000 (number_of word)

-- SCHEDULE: `solo`, `even` or a NUMBER
abbrev pub schedule_of : Word → Option Schedule
schedule_of word =
    if bytes_eq word (codes "solo") then Some Solo
    else if bytes_eq word (codes "even") then Some Even
    else option_map Drawn (seed_of word)

-- COPIER: `stopless`, `chicken` or `clover`
abbrev pub copying_of : Word → Option Copying
copying_of word =
    if bytes_eq word (codes "stopless") then Some copying.Stopless
    else if bytes_eq word (codes "chicken") then Some copying.Chicken
    else if bytes_eq word (codes "clover") then Some copying.Clover
    else None

-- ---- forms of words

-- the words of a list, each as its bytes
abbrev pub words_of : {A : Type 0} → List (Vec ℕ A) → List Word
words_of words = map (λ word. word.items) words

-- What was read, against what the grammar gives: seen by `view` it is that value, or the index of that word.
abbrev pub Gives : {X Y : Type 0} → (X → Y) → Result X ℕ → Result Y ℕ → Type 0
Gives view (Ok x) read = read ≡ Ok (view x)
Gives view (Err index) read = read ≡ Err index

-- a word that is due, and the words after it; where it is missing, its index is the number of words
abbrev pub due : ℕ → List Word → Result (Word × List Word) ℕ
due index [] = Err index
due index (word ∷ later) = Ok (word, later)

-- no further word stands
abbrev pub ended : ℕ → List Word → Result (Unit {0}) ℕ
ended index [] = Ok tt
ended index (word ∷ later) = Err index

-- COPIER SCHEDULE STEPS, after `replay`
unfoldable pub replay_form : List Word → Result Replay ℕ
replay_form words = do
  a ← due 1 words
  copier ← ok_or (copying_of a.0) 1
  b ← due 2 a.1
  schedule ← ok_or (schedule_of b.0) 2
  c ← due 3 b.1
  steps ← ok_or (steps_of c.0) 3
  _ ← ended 4 c.1
  Ok (record { copier = copier; schedule = schedule; steps = steps })

-- a NUMBER at this index, and no further word
unfoldable pub number_form : ℕ → List Word → Result (Unit {0}) ℕ
number_form index words = do
  a ← due index words
  _ ← ok_or (seed_of a.0) index
  ended (index + 1) a.1

-- nothing, or a NUMBER at this index and no further word
abbrev pub maybe_number_form : ℕ → List Word → Result (Unit {0}) ℕ
maybe_number_form index [] = Ok tt
maybe_number_form index (word ∷ later) = number_form index (word ∷ later)

-- COPIER, after `load` or `run`, and the words after it
unfoldable pub copier_form : List Word → Result (List Word) ℕ
copier_form words = do
  a ← due 1 words
  _ ← ok_or (copying_of a.0) 1
  Ok a.1

-- a form that is not built yet
abbrev pub unbuilt : Result (Unit {0}) ℕ → Result Asked ℕ
unbuilt (Ok _) = Ok asked.Unbuilt
unbuilt (Err index) = Err index

-- What the first word and those after it ask for; else the index of the first word that does not fit, counted from 0.
unfoldable pub form_of : Word → List Word → Result Asked ℕ
form_of first later =
    if bytes_eq first (codes "replay") then (do
      replay ← replay_form later
      Ok (asked.Replay replay))
    else if bytes_eq first (codes "run") then unbuilt (copier_form later >>= maybe_number_form 2)
    else if bytes_eq first (codes "load") then unbuilt (copier_form later >>= number_form 2)
    else if bytes_eq first (codes "check") then unbuilt (ended 1 later)
    else if bytes_eq first (codes "make") then unbuilt (number_form 1 later)
    else Err 0

-- What the words ask for: words that are no form are `Usage`, and forms that are not built yet `NotBuilt`.
abbrev pub request_from : Result Asked ℕ → Result Replay Status
request_from (Ok (asked.Replay replay)) = Ok replay
request_from (Ok asked.Unbuilt) = Err NotBuilt
request_from (Err index) = Err (Usage index)

abbrev pub asked_by : List Word → Result Asked ℕ
asked_by [] = Err 0
asked_by (first ∷ later) = form_of first later

abbrev pub request_of : List Word → Result Replay Status
request_of words = request_from (asked_by words)

-- ---- scripts

-- A script whose cycles are played.
pub record IsBuilt (script : Reading) : Type 0 where
  pub fits : Fits script
  pub cycles : script.cycles ≤ 1

-- Why bytes are not played: a line has a fault, or they spell a script that is not built; want of memory has no cause.
abbrev pub IsRefused : List ℕ → Status → Type 0
IsRefused bytes (ScriptFault line kind) = IsFault bytes (line, kind)
IsRefused bytes NotBuilt = (script : Reading) × IsScript bytes script × (¬ (IsBuilt script))
IsRefused bytes OutOfMemory = Unit {0}
IsRefused bytes _ = ⊥
