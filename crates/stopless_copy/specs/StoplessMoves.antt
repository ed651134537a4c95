-- The move of one object.
use Rattle.std.specs.Prelude.{◌≡◌, ℕ, ◌+◌, ◌==◌, nat_lt, min, if◌then◌else◌, Option, Some, None, refl}
use Rattle.call_steps.specs.declared.step.Step.{Step}
use Rattle.call_steps.specs.declared.step.Step.TheVariants.{Load, Store, Exchange, Ended}
use Rattle.heap_words.specs.declared.limits.TheConstants.{ADDRESS_LIMIT, MOST_FIELDS}
use Rattle.object_headers.specs.declared.header.Header.{Header}
use Rattle.object_headers.specs.declared.header.State.{State as HeaderState}
use Rattle.object_headers.specs.declared.header.State.TheVariants as states
use Rattle.object_headers.specs.Headers.{header_at, word_of_header}
use Rattle.wide_objects.specs.declared.wide_word.Status2.{Status2}
use Rattle.wide_objects.specs.declared.wide_word.Status2.TheVariants.{InOriginal, InWide, InCopy}
use Rattle.wide_objects.specs.declared.wide_word.WideWord.{WideWord}
use Rattle.wide_objects.specs.WideWords.{wide_word_at}
use Rattle.space_reclaim.specs.declared.move_job.MoveJob.{MoveJob}
use Rattle.barriers.specs.declared.ends.MoveEnd.{MoveEnd}
use Rattle.barriers.specs.declared.ends.MoveEnd.TheVariants.{Moved, Kept}
use Rattle.stopless_copy.specs.declared.mover.MoveHeaders.{MoveHeaders}
use Rattle.stopless_copy.specs.declared.mover.MoveTask.{MoveTask}
use Rattle.stopless_copy.specs.declared.mover.Carry.{Carry}
use Rattle.stopless_copy.specs.declared.mover.Carry.TheVariants as carry
use Rattle.stopless_copy.specs.declared.mover.StoplessMove.{StoplessMove}
use Rattle.stopless_copy.specs.declared.mover.StoplessMove.TheVariants as move
use Rattle.stopless_copy.specs.WideSteps.{in_wide, in_copy}

-- ---- the headers

-- of an object with this header, whose copy and wide object are there
abbrev pub headers_to : Header → ℕ → ℕ → MoveHeaders
headers_to plain to wide = record {
  tagged = word_of_header (record plain { state = states.Tagged });
  wide = word_of_header (record plain { state = states.Wide; target = wide });
  forward = word_of_header (record plain { state = states.Forward; target = to });
  plain = word_of_header plain;
  dead = word_of_header (record plain { state = states.Dead });
}

-- only that of a Plain object serves, and only addresses of the table
abbrev pub headers_by : HeaderState → Header → ℕ → ℕ → Option MoveHeaders
headers_by states.Plain header to wide = if nat_lt to ADDRESS_LIMIT then (if nat_lt wide ADDRESS_LIMIT then Some (headers_to header to wide) else None) else None
headers_by state header to wide = None

abbrev pub headers_of : MoveJob → Option MoveHeaders
headers_of job = let header = header_at job.header in headers_by header.state header job.to job.wide

-- ---- the machine

abbrev pub begun_by : MoveJob → Option MoveHeaders → StoplessMove
begun_by job None = move.Ended (Kept job.header)
begun_by job (Some headers) = move.Header (record { job = job; headers = headers })

-- as it begins
abbrev pub begun : MoveJob → StoplessMove
begun job = begun_by job (headers_of job)

-- the word of a field after the header at this address
abbrev pub word_at : ℕ → ℕ → ℕ
word_at at field = min at ADDRESS_LIMIT + 1 + min field MOST_FIELDS

-- the step of the carry of a field
abbrev pub carry_asks : MoveJob → ℕ → Carry → Step
carry_asks job field carry.Ask = Load (word_at job.wide field)
carry_asks job field carry.Load = Load (word_at job.from field)
carry_asks job field (carry.Widen word) = Exchange (word_at job.wide field) 0 (in_wide word)
carry_asks job field (carry.Store word) = Store (word_at job.to field) word
carry_asks job field (carry.Finish word) = Exchange (word_at job.wide field) (in_wide word) (in_copy word)

-- the step that it takes next
abbrev pub asks_of : StoplessMove → Step
asks_of (move.Header task) = Store task.job.to task.headers.plain
asks_of (move.Address task) = Store task.job.wide task.job.to
asks_of (move.Seal task) = Exchange task.job.from task.headers.tagged task.headers.wide
asks_of (move.GiveUp task header) = Store task.job.to task.headers.dead
asks_of (move.Carries task field how) = carry_asks task.job field how
asks_of (move.Forward task) = Exchange task.job.from task.headers.wide task.headers.forward
asks_of (move.Ended end) = Ended

-- the carry of this field goes on so
abbrev pub carried_on : MoveTask → ℕ → Carry → StoplessMove
carried_on task field how = move.Carries task field how

-- with the fields below this one in the copy
abbrev pub carried : MoveTask → ℕ → StoplessMove
carried task field = if nat_lt field task.job.len then carried_on task field carry.Ask else move.Forward task

-- with this one in the copy, too
abbrev pub finished : MoveTask → ℕ → StoplessMove
finished task field = if nat_lt field task.job.len then carried task (field + 1) else move.Forward task

-- with its wide word at hand
abbrev pub asked_by : MoveTask → ℕ → Status2 → ℕ → StoplessMove
asked_by task field InOriginal word = carried_on task field carry.Load
asked_by task field InWide word = carried_on task field (carry.Store word)
asked_by task field InCopy word = finished task field

abbrev pub asked : MoveTask → ℕ → WideWord → StoplessMove
asked task field wide = asked_by task field wide.status wide.word

-- after a step of the carry of this field: an exchange that loses goes on with the wide word found
abbrev pub carried_by : MoveTask → ℕ → Carry → ℕ → StoplessMove
carried_by task field carry.Ask found = asked task field (wide_word_at found)
carried_by task field carry.Load found = carried_on task field (carry.Widen found)
carried_by task field (carry.Widen word) found = if found == 0 then carried_on task field (carry.Store word) else asked task field (wide_word_at found)
carried_by task field (carry.Store word) found = carried_on task field (carry.Finish word)
carried_by task field (carry.Finish word) found = if found == in_wide word then finished task field else asked task field (wide_word_at found)

-- after the exchange for Wide
abbrev pub sealed : MoveTask → ℕ → StoplessMove
sealed task found = if found == task.headers.tagged then carried task 0 else move.GiveUp task found

-- what it is after it was fed a word
abbrev pub fed_of : StoplessMove → ℕ → StoplessMove
fed_of (move.Header task) found = move.Address task
fed_of (move.Address task) found = move.Seal task
fed_of (move.Seal task) found = sealed task found
fed_of (move.GiveUp task header) found = move.Ended (Kept header)
fed_of (move.Carries task field how) found = carried_by task field how found
fed_of (move.Forward task) found = move.Ended Moved
fed_of (move.Ended end) found = move.Ended end

-- what it ended with
abbrev pub end_of : StoplessMove → Option MoveEnd
end_of (move.Ended end) = Some end
end_of m = None

carry_blind : (task : MoveTask) (field : ℕ) (how : Carry) (at put n : ℕ) → carry_asks task.job field how ≡ Store at put → carried_by task field how n ≡ carried_by task field how 0
carry_blind task field carry.Ask at put n e = absurd cc
carry_blind task field carry.Load at put n e = absurd cc
carry_blind task field (carry.Widen word) at put n e = absurd cc
carry_blind task field (carry.Store word) at put n e = refl
carry_blind task field (carry.Finish word) at put n e = absurd cc

pub blind_of : (m : StoplessMove) (at put n : ℕ) → asks_of m ≡ Store at put → fed_of m n ≡ fed_of m 0
blind_of (move.Header task) at put n e = refl
blind_of (move.Address task) at put n e = refl
blind_of (move.Seal task) at put n e = absurd cc
blind_of (move.GiveUp task header) at put n e = refl
blind_of (move.Carries task field how) at put n e = carry_blind task field how at put n e
blind_of (move.Forward task) at put n e = refl
blind_of (move.Ended end) at put n e = refl
