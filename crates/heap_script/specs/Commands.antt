-- The commands of each thread of a script.
use Rattle.std.specs.Prelude.{ℕ, ◌-◌, List, [], length, map, take, slice_index_or, sum_by}
use Rattle.std.specs.List.{range_with_len}
use Rattle.heap_script.specs.declared.script.Command.{Command}
use Rattle.heap_script.specs.declared.script.Line.{Line}
use Rattle.heap_script.specs.Allowed.{commands_of}

-- those of a number of threads, thread 1's first
abbrev pub commands_by : ℕ → List Line → List (List Command)
commands_by threads lines = map (λ t. commands_of t lines) (range_with_len 1 threads)

-- those of a thread
abbrev pub commands_at : List (List Command) → ℕ → List Command
commands_at lists thread = slice_index_or lists (thread - 1) []

-- how many the threads before this one have
abbrev pub before : List (List Command) → ℕ → ℕ
before lists thread = sum_by length (take (thread - 1) lists)

-- how many all threads have
abbrev pub total : List (List Command) → ℕ
total lists = sum_by length lists
