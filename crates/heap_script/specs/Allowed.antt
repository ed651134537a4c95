-- Which answers a script may be given, for a history of a heap whose objects never move.
use Rattle.std.specs.Prelude.{◌≡◌, ℕ, ◌+◌, ◌*◌, ◌<◌, ◌≤◌, ◌==◌, List, [], ◌∷◌, ◌++◌, length, map, drop, Option, Some, None, option_map, slice_index_or, slice_set, replicate}
use Rattle.std.specs.List.{filter, All}
use Rattle.heap_words.specs.declared.operand.Operand.{Operand}
use Rattle.heap_words.specs.declared.operand.Operand.TheVariants as operands
use Rattle.heap_words.specs.Packing.{packing}
use Rattle.heap_words.specs.declared.limits.TheConstants.{BIRTHS_BETWEEN_PASSES}
use Rattle.heap_history.specs.declared.call.Value.{Value}
use Rattle.heap_history.specs.declared.call.Value.TheVariants.{Num, Object}
use Rattle.heap_history.specs.declared.call.Call.{Call}
use Rattle.heap_history.specs.declared.call.Call.TheVariants as calls
use Rattle.heap_history.specs.declared.call.Reply.{Reply}
use Rattle.heap_history.specs.declared.call.Reply.TheVariants as replies
use Rattle.heap_history.specs.FixedHeaps.{Heap, fields_of}
use Rattle.heap_history.specs.Histories.{IsNext, pass_of, heap_at, made_by}
use Rattle.heap_script.specs.declared.script.Command.{Command}
use Rattle.heap_script.specs.declared.script.Command.TheVariants.{New, Get, Put, Cas, Copy, Drop, Poll}
use Rattle.heap_script.specs.declared.script.Line.{Line}
use Rattle.heap_script.specs.declared.answer.Answer.{Answer}
use Rattle.heap_script.specs.declared.answer.Answer.TheVariants.{Made, Full, Got, Ok, Done, Differs, NotLink, NoField}
use Rattle.heap_script.specs.Scripts.{Reading}

-- Where a thread stands between two commands: what its registers hold, how many changes of the history it has seen,
-- and the lengths of the objects that it made.
pub record Seat : Type 0 where
  pub registers : List Value
  pub seen : ℕ
  pub lens : List ℕ

-- At first the registers hold 0, but the last one the object that is there from the start.
abbrev pub first_seat : Seat
first_seat = record { registers = replicate 7 (Num 0) ++ Object 1 ∷ []; seen = 0; lens = [] }

abbrev pub held : Seat → ℕ → Value
held seat register = slice_index_or seat.registers register (Num 0)

abbrev pub value_of : Seat → Operand → Value
value_of seat (operands.Num n) = Num n
value_of seat (operands.Reg register) = held seat register

-- the birth number of the thread's next object
abbrev pub next_birth : ℕ → Seat → ℕ
next_birth thread seat = thread * BIRTHS_BETWEEN_PASSES + length seat.lens + 1

-- ---- commands that are calls of the heap

-- a call on the object that a value names
abbrev pub on_object : Value → (ℕ → Call) → Option Call
on_object (Num n) call = None
on_object (Object birth) call = Some (call birth)

-- The call that a command with this answer is, if it is one.
abbrev pub call_of : ℕ → Seat → Command → Answer → Option Call
call_of thread seat (New dst len) (Made birth) = Some (calls.NewObject thread birth len)
call_of thread seat (Get dst obj field) (Got value) = on_object (held seat obj) (λ birth. calls.Read thread birth field)
call_of thread seat (Put obj field what) Ok = on_object (held seat obj) (λ birth. calls.Write thread birth field (value_of seat what))
call_of thread seat (Cas dst obj field expected value) Done = on_object (held seat obj) (λ birth. calls.Exchange thread birth field (value_of seat expected) (value_of seat value))
call_of thread seat (Cas dst obj field expected value) (Differs other) = on_object (held seat obj) (λ birth. calls.Exchange thread birth field (value_of seat expected) (value_of seat value))
call_of thread seat _ _ = None

-- the reply that the answer tells
abbrev pub reply_of : Answer → Reply
reply_of (Made birth) = replies.Made
reply_of (Got value) = replies.Got value
reply_of Ok = replies.Wrote
reply_of Done = replies.Done
reply_of (Differs value) = replies.Differs value
reply_of _ = replies.NotThere

-- objects are numbered in the order in which they are made
abbrev pub IsNumbered : ℕ → Seat → Answer → Type 0
IsNumbered thread seat (Made birth) = birth ≡ next_birth thread seat
IsNumbered thread seat _ = Unit {0}

-- ---- commands that are none

-- The register holds a number; or the field is at or past the object's length.
abbrev pub IsRefused : Heap → Value → ℕ → Answer → Type 0
IsRefused heap (Num n) field NotLink = Unit {0}
IsRefused heap (Object birth) field (NoField len) = (option_map length (fields_of heap birth) ≡ Some len) × (len ≤ field)
IsRefused heap _ field _ = ⊥

-- `full` comes only where the thread's objects, laid one after another, need more regions than it has.
abbrev pub IsNoCall : ℕ → Heap → Seat → Command → Answer → Type 0
IsNoCall quota heap seat (New dst len) Full = quota < packing (seat.lens ++ len ∷ [])
IsNoCall quota heap seat (Get dst obj field) answer = IsRefused heap (held seat obj) field answer
IsNoCall quota heap seat (Put obj field what) answer = IsRefused heap (held seat obj) field answer
IsNoCall quota heap seat (Cas dst obj field expected value) answer = IsRefused heap (held seat obj) field answer
IsNoCall quota heap seat (Copy dst src) Ok = Unit {0}
IsNoCall quota heap seat (Drop dst) Ok = Unit {0}
IsNoCall quota heap seat Poll Ok = Unit {0}
IsNoCall quota heap seat _ _ = ⊥

-- ---- one command, and all of them

-- A command is answered, and its thread has then seen n changes: an ended call of the history, or nothing of it.
abbrev pub IsOutcome : ℕ → ℕ → List Call → Seat → Command → Answer → ℕ → Option Call → Type 0
IsOutcome quota thread history seat command answer n None = (n ≡ seat.seen) × IsNoCall quota (heap_at history seat.seen) seat command answer
IsOutcome quota thread history seat command answer n (Some call) = IsNumbered thread seat answer × IsNext history thread seat.seen (record { call = call; reply = reply_of answer; front = n })

abbrev pub IsAnswered : ℕ → ℕ → List Call → Seat → Command → Answer → ℕ → Type 0
IsAnswered quota thread history seat command answer n = IsOutcome quota thread history seat command answer n (call_of thread seat command answer)

abbrev pub registers_after : Seat → Command → Answer → List Value
registers_after seat (New dst len) (Made birth) = slice_set seat.registers dst (Object birth)
registers_after seat (Get dst obj field) (Got value) = slice_set seat.registers dst value
registers_after seat (Cas dst obj field expected value) (Differs other) = slice_set seat.registers dst other
registers_after seat (Copy dst src) answer = slice_set seat.registers dst (held seat src)
registers_after seat (Drop dst) answer = slice_set seat.registers dst (Num 0)
registers_after seat _ _ = seat.registers

abbrev pub lens_after : Seat → Command → Answer → List ℕ
lens_after seat (New dst len) (Made birth) = seat.lens ++ len ∷ []
lens_after seat _ _ = seat.lens

abbrev pub seat_after : Seat → Command → Answer → ℕ → Seat
seat_after seat command answer n = record { registers = registers_after seat command answer; seen = n; lens = lens_after seat command answer }

-- The commands of a thread, their answers, and after each how many changes it had seen: they lead from the first
-- seat to the last.
abbrev pub IsRun : ℕ → ℕ → List Call → Seat → List Command → List Answer → List ℕ → Seat → Type 0
IsRun quota thread history seat [] [] [] last = seat ≡ last
IsRun quota thread history seat (c ∷ cs) (a ∷ rest) (n ∷ ns) last =
    IsAnswered quota thread history seat c a n × IsRun quota thread history (seat_after seat c a n) cs rest ns last
IsRun quota thread history seat _ _ _ last = ⊥

abbrev pub commands_of : ℕ → List Line → List Command
commands_of thread lines = map (λ l. l.command) (filter (λ l. l.thread == thread) lines)

-- The answers of one thread: its run, after which it made no change.
pub record IsAllowedThread (quota thread : ℕ) (history : List Call) (commands : List Command) (answers : List Answer) : Type 0 where
  pub fronts : List ℕ
  pub last : Seat
  pub run : IsRun quota thread history first_seat commands answers fronts last
  pub rest : made_by thread (drop last.seen history) ≡ []

-- the threads from this one on
abbrev pub AllAllowed : ℕ → List Call → List Line → ℕ → List (List Answer) → Type 0
AllAllowed quota history lines thread [] = Unit {0}
AllAllowed quota history lines thread (first ∷ later) =
    IsAllowedThread quota thread history (commands_of thread lines) first × AllAllowed quota history lines (thread + 1) later

-- The answers of all threads: a list for each, and no change is made by anybody else.
pub record IsAllowed (script : Reading) (history : List Call) (answers : List (List Answer)) : Type 0 where
  pub passes : All (λ c. (1 ≤ pass_of c) × (pass_of c ≤ script.layout.passes)) history
  pub count : length answers ≡ script.layout.passes
  pub threads : AllAllowed script.layout.quota history script.lines 1 answers
