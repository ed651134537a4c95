-- The move of one object.
use Rattle.std.specs.Prelude.{◌≡◌, ℕ, ◌+◌, ◌==◌, nat_lt, min, if◌then◌else◌, Option, Some, None, refl}
use Rattle.call_steps.specs.declared.step.Step.{Step}
use Rattle.call_steps.specs.declared.step.Step.TheVariants.{Load, Store, Exchange, Ended}
use Rattle.heap_words.specs.declared.limits.TheConstants.{ADDRESS_LIMIT, MOST_FIELDS}
use Rattle.object_headers.specs.declared.header.Header.{Header}
use Rattle.object_headers.specs.declared.header.State.{State as HeaderState}
use Rattle.object_headers.specs.declared.header.State.TheVariants as states
use Rattle.object_headers.specs.Headers.{header_at, word_of_header}
use Rattle.space_reclaim.specs.declared.move_job.MoveJob.{MoveJob}
use Rattle.barriers.specs.declared.ends.MoveEnd.{MoveEnd}
use Rattle.barriers.specs.declared.ends.MoveEnd.TheVariants.{Moved, Kept}
use Rattle.clover_marks.specs.declared.mover.MoveHeaders.{MoveHeaders}
use Rattle.clover_marks.specs.declared.mover.Relocation.{Relocation}
use Rattle.clover_marks.specs.declared.mover.CloverMove.{CloverMove}
use Rattle.clover_marks.specs.declared.mover.CloverMove.TheVariants as move

-- ---- the headers

-- of an object with this header, whose copy is there
abbrev pub headers_to : Header → ℕ → MoveHeaders
headers_to plain to = record {
  plain = word_of_header plain;
  moving = word_of_header (record plain { state = states.Moving; target = to });
  forward = word_of_header (record plain { state = states.Forward; target = to });
}

-- only that of a Plain object serves, and only an address of the table
abbrev pub headers_by : HeaderState → Header → ℕ → Option MoveHeaders
headers_by states.Plain header to = if nat_lt to ADDRESS_LIMIT then Some (headers_to header to) else None
headers_by state header to = None

abbrev pub headers_of : MoveJob → Option MoveHeaders
headers_of job = let header = header_at job.header in headers_by header.state header job.to

-- ---- the machine

abbrev pub begun_by : MoveJob → ℕ → Option MoveHeaders → CloverMove
begun_by job mark None = move.Ended (Kept job.header)
begun_by job mark (Some headers) = move.Header (record { job = job; headers = headers; mark = mark })

-- as it begins
abbrev pub begun : MoveJob → ℕ → CloverMove
begun job mark = begun_by job mark (headers_of job)

-- the word of a field after the header at this address
abbrev pub word_at : ℕ → ℕ → ℕ
word_at at field = min at ADDRESS_LIMIT + 1 + min field MOST_FIELDS

-- the step that it takes next
abbrev pub asks_of : CloverMove → Step
asks_of (move.Header r) = let job = r.job in let headers = r.headers in Store job.to headers.plain
asks_of (move.Start r) = let job = r.job in let headers = r.headers in Exchange job.from headers.plain headers.moving
asks_of (move.Load r field) = let job = r.job in Load (word_at job.from field)
asks_of (move.Store r field word) = let job = r.job in Store (word_at job.to field) word
asks_of (move.Mark r field word) = let job = r.job in Exchange (word_at job.from field) word r.mark
asks_of (move.Forward r) = let job = r.job in let headers = r.headers in Exchange job.from headers.moving headers.forward
asks_of (move.Ended end) = Ended

-- with the fields below this one moved
abbrev pub moved_to : Relocation → ℕ → CloverMove
moved_to r field = let job = r.job in if nat_lt field job.len then move.Load r field else move.Forward r

-- with this one moved, too
abbrev pub marked : Relocation → ℕ → CloverMove
marked r field = let job = r.job in if nat_lt field job.len then moved_to r (field + 1) else move.Forward r

-- what it is after it was fed a word
abbrev pub fed_of : CloverMove → ℕ → CloverMove
fed_of (move.Header r) found = move.Start r
fed_of (move.Start r) found = moved_to r 0
fed_of (move.Load r field) found = move.Store r field found
fed_of (move.Store r field word) found = move.Mark r field word
fed_of (move.Mark r field word) found = if found == word then marked r field else move.Store r field found
fed_of (move.Forward r) found = move.Ended Moved
fed_of (move.Ended end) found = move.Ended end

-- what it ended with
abbrev pub end_of : CloverMove → Option MoveEnd
end_of (move.Ended end) = Some end
end_of m = None

pub blind_of : (m : CloverMove) (at put n : ℕ) → asks_of m ≡ Store at put → fed_of m n ≡ fed_of m 0
blind_of (move.Header r) at put n e = refl
blind_of (move.Start r) at put n e = absurd cc
blind_of (move.Load r field) at put n e = absurd cc
blind_of (move.Store r field word) at put n e = refl
blind_of (move.Mark r field word) at put n e = absurd cc
blind_of (move.Forward r) at put n e = absurd cc
blind_of (move.Ended end) at put n e = refl
