-- What is told at first, and what each step adds to it.
use Rattle.std.specs.Prelude.{ℕ, ◌+◌, ◌-◌, ◌^◌, List, [], ◌∷◌, ◌++◌, length, map, min, slice_index, slice_index_or, slice_set}
use Rattle.std.specs.List.{flat_map, range_with_len}
use Rattle.heap_script.specs.declared.script.Command.{Command}
use Rattle.heap_script.specs.declared.answer.Answer.{Answer}
use Rattle.heap_script.specs.declared.told.Again.{Again}
use Rattle.heap_script.specs.declared.told.Refusal.{Refusal}
use Rattle.heap_script.specs.declared.told.Refusal.TheVariants.{Raced, Busy}
use Rattle.heap_script.specs.Commands.{commands_at, total}
use Rattle.heap_script.specs.Tellings.{Telling}

-- ---- answers

-- those of a thread
abbrev pub answers_at : List (List Answer) → ℕ → List Answer
answers_at lists thread = slice_index_or lists (thread - 1) []

-- for how many of them there is room
abbrev pub room_at : List ℕ → ℕ → ℕ
room_at rooms thread = slice_index rooms (thread - 1)

-- with one more of a thread
abbrev pub with_answer : List (List Answer) → ℕ → Answer → List (List Answer)
with_answer lists thread answer = slice_set lists (thread - 1) (answers_at lists thread ++ answer ∷ [])

-- ---- refused tries

-- no try of this command was refused
abbrev pub untried : ℕ → ℕ → Again
untried thread number = record { thread = thread; number = number; raced = 0; busy = 0 }

-- of each command of a thread
abbrev pub agains_in : ℕ → List Command → List Again
agains_in thread commands = map (λ number. untried thread number) (range_with_len 1 (length commands))

-- of each command of each thread
abbrev pub agains_of : List (List Command) → List Again
agains_of lists = flat_map (λ thread. agains_in thread (commands_at lists thread)) (range_with_len 1 (length lists))

-- one more try was refused so
abbrev pub raised : Refusal → Again → Again
raised Raced again = record again { raced = min (again.raced + 1) (2 ^ 64 - 1) }
raised Busy again = record again { busy = min (again.busy + 1) (2 ^ 64 - 1) }

-- one more at this index
abbrev pub with_refusal : List Again → ℕ → Refusal → List Again
with_refusal agains index why = slice_set agains index (raised why (slice_index_or agains index (untried 0 0)))

-- ---- all of it

-- Nothing is told yet. There is room for an answer to each command, and for as many calls as there are commands.
abbrev pub opening_telling : List (List Command) → Telling
opening_telling lists = record {
  answers = map (λ commands. []) lists;
  log = [];
  agains = agains_of lists;
  rooms = map length lists;
  log_room = total lists;
}
