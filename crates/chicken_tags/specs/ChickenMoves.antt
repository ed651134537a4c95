-- The move of one object.
use Rattle.std.specs.Prelude.{◌≡◌, ℕ, ◌+◌, ◌==◌, nat_lt, min, if◌then◌else◌, Option, Some, None, refl}
use Rattle.call_steps.specs.declared.step.Step.{Step}
use Rattle.call_steps.specs.declared.step.Step.TheVariants.{Load, Store, Exchange, Ended}
use Rattle.heap_words.specs.declared.limits.TheConstants.{ADDRESS_LIMIT, MOST_FIELDS}
use Rattle.object_headers.specs.declared.header.Header.{Header}
use Rattle.object_headers.specs.declared.header.State.{State as HeaderState}
use Rattle.object_headers.specs.declared.header.State.TheVariants as states
use Rattle.object_headers.specs.Headers.{header_at, word_of_header}
use Rattle.space_reclaim.specs.declared.move_job.MoveJob.{MoveJob}
use Rattle.barriers.specs.declared.ends.MoveEnd.{MoveEnd}
use Rattle.barriers.specs.declared.ends.MoveEnd.TheVariants.{Moved, Kept}
use Rattle.chicken_tags.specs.declared.mover.MoveHeaders.{MoveHeaders}
use Rattle.chicken_tags.specs.declared.mover.ChickenMove.{ChickenMove}
use Rattle.chicken_tags.specs.declared.mover.ChickenMove.TheVariants as move

-- ---- the headers

-- of an object with this header, whose copy is there
abbrev pub headers_to : Header → ℕ → MoveHeaders
headers_to plain to = record {
  tagged = word_of_header (record plain { state = states.Tagged });
  forward = word_of_header (record plain { state = states.Forward; target = to });
  plain = word_of_header plain;
  dead = word_of_header (record plain { state = states.Dead });
}

-- only that of a Plain object serves, and only an address of the table
abbrev pub headers_by : HeaderState → Header → ℕ → Option MoveHeaders
headers_by states.Plain header to = if nat_lt to ADDRESS_LIMIT then Some (headers_to header to) else None
headers_by state header to = None

abbrev pub headers_of : MoveJob → Option MoveHeaders
headers_of job = let header = header_at job.header in headers_by header.state header job.to

-- ---- the machine

abbrev pub begun_by : MoveJob → Option MoveHeaders → ChickenMove
begun_by job None = move.Ended (Kept job.header)
begun_by job (Some headers) = move.Header job headers

-- as it begins
abbrev pub begun : MoveJob → ChickenMove
begun job = begun_by job (headers_of job)

-- the word of a field after the header at this address
abbrev pub word_at : ℕ → ℕ → ℕ
word_at at field = min at ADDRESS_LIMIT + 1 + min field MOST_FIELDS

-- the step that it takes next
abbrev pub asks_of : ChickenMove → Step
asks_of (move.Header job headers) = Store job.to headers.plain
asks_of (move.Load job headers field) = Load (word_at job.from field)
asks_of (move.Store job headers field word) = Store (word_at job.to field) word
asks_of (move.Forward job headers) = Exchange job.from headers.tagged headers.forward
asks_of (move.GiveUp job headers header) = Store job.to headers.dead
asks_of (move.Ended end) = Ended

-- with the fields below this one copied
abbrev pub copied : MoveJob → MoveHeaders → ℕ → ChickenMove
copied job headers field = if nat_lt field job.len then move.Load job headers field else move.Forward job headers

-- with this one copied, too
abbrev pub stored : MoveJob → MoveHeaders → ℕ → ChickenMove
stored job headers field = if nat_lt field job.len then copied job headers (field + 1) else move.Forward job headers

-- what it is after it was fed a word
abbrev pub fed_of : ChickenMove → ℕ → ChickenMove
fed_of (move.Header job headers) found = copied job headers 0
fed_of (move.Load job headers field) found = move.Store job headers field found
fed_of (move.Store job headers field word) found = stored job headers field
fed_of (move.Forward job headers) found = if found == headers.tagged then move.Ended Moved else move.GiveUp job headers found
fed_of (move.GiveUp job headers header) found = move.Ended (Kept header)
fed_of (move.Ended end) found = move.Ended end

-- what it ended with
abbrev pub end_of : ChickenMove → Option MoveEnd
end_of (move.Ended end) = Some end
end_of m = None

pub blind_of : (m : ChickenMove) (at put n : ℕ) → asks_of m ≡ Store at put → fed_of m n ≡ fed_of m 0
blind_of (move.Header job headers) at put n e = refl
blind_of (move.Load job headers field) at put n e = absurd cc
blind_of (move.Store job headers field word) at put n e = refl
blind_of (move.Forward job headers) at put n e = absurd cc
blind_of (move.GiveUp job headers header) at put n e = refl
blind_of (move.Ended end) at put n e = refl
