-- What there is to tell of a script that is played: the answers, the calls that have ended, and the tries that were refused.
use Rattle.std.specs.Prelude.{◌≡◌, ℕ, ◌≤◌, List, [], ◌∷◌, ◌++◌, length, take, drop, Option, Some, None}
use Rattle.heap_history.specs.declared.call.Value.{Value}
use Rattle.heap_history.specs.declared.call.Call.{Call}
use Rattle.heap_history.specs.declared.call.Ended.{Ended}
use Rattle.heap_history.specs.Histories.{made_by}
use Rattle.heap_history.specs.Logs.{changes_of, of_pass}
use Rattle.heap_script.specs.declared.script.Command.{Command}
use Rattle.heap_script.specs.declared.answer.Answer.{Answer}
use Rattle.heap_script.specs.declared.told.Again.{Again}
use Rattle.heap_script.specs.Allowed.{Seat, IsRun, first_seat, seat_after, call_of, reply_of}

-- ---- the answers of a thread

-- the call that a command with this answer is, if it is one
abbrev pub ended_with : Option Call → Answer → ℕ → List Ended
ended_with None answer n = []
ended_with (Some call) answer n = record { call = call; reply = reply_of answer; front = n } ∷ []

-- the calls that a thread's commands were, from this seat on: their answers, and after each how many changes were seen
abbrev pub ended_in : ℕ → Seat → List Command → List Answer → List ℕ → List Ended
ended_in thread seat (c ∷ cs) (a ∷ rest) (n ∷ ns) =
    ended_with (call_of thread seat c a) a n ++ ended_in thread (seat_after seat c a n) cs rest ns
ended_in thread seat _ _ _ = []

-- a thread of a script: its number, how many regions it may have, and its commands
pub record Thread : Type 0 where
  pub number : ℕ
  pub quota : ℕ
  pub commands : List Command

-- where a thread stands: how many objects it has made, how many changes it has seen, and what its registers hold
pub record Standing : Type 0 where
  pub made : ℕ
  pub seen : ℕ
  pub registers : List Value

-- What a thread's answers say of a log. Its commands so far are a run of it in the history, at whose end its registers
-- hold these values; since then it may have seen more changes. Its calls in the log are those of this run, each once and
-- in this order, and it made no change after what it had seen.
pub record Tells (t : Thread) (s : Standing) (answers : List Answer) (log : List Ended) : Type 0 where
  pub fronts : List ℕ
  pub seat : Seat
  pub run : IsRun t.quota t.number (changes_of log) first_seat (take (length answers) t.commands) answers fronts seat
  pub calls_are : of_pass t.number log ≡ ended_in t.number first_seat (take (length answers) t.commands) answers fronts
  pub registers_are : seat.registers ≡ s.registers
  pub seen_grows : seat.seen ≤ s.seen
  pub seen_before : s.seen ≤ length (changes_of log)
  pub lens_are : length seat.lens ≡ s.made
  pub rest : made_by t.number (drop seat.seen (changes_of log)) ≡ []

-- ---- all of it

-- The answers of each thread, thread 1's first; the calls that have ended; the refused tries of each command, in rising
-- thread and number; for how many answers of each thread there is room, and for how many calls.
pub record Telling : Type 0 where
  pub answers : List (List Answer)
  pub log : List Ended
  pub agains : List Again
  pub rooms : List ℕ
  pub log_room : ℕ
