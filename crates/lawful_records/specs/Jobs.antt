-- What the first cycle moves, until cycles are planned; and which step of a mover seals its object.
use Rattle.std.specs.Prelude.{ℕ, ◌==◌, ◌&&◌, Bool, true, false, nat_le, if◌then◌else◌, [], ◌∷◌}
use Rattle.heap_words.specs.Layouts.{Sizes, first_word, wide_at}
use Rattle.call_steps.specs.declared.step.Step.{Step}
use Rattle.call_steps.specs.declared.step.Step.TheVariants.{Exchange}
use Rattle.object_headers.specs.declared.change.Kind.{Kind}
use Rattle.object_headers.specs.declared.change.Kind.TheVariants as kinds
use Rattle.object_headers.specs.declared.header.Colour.TheVariants.{Even}
use Rattle.object_headers.specs.declared.header.Header.{Header}
use Rattle.object_headers.specs.declared.header.State.{State}
use Rattle.object_headers.specs.declared.header.State.TheVariants as states
use Rattle.object_headers.specs.Changes.{does_move}
use Rattle.object_headers.specs.Headers.{word_of_header, header_at}
use Rattle.space_reclaim.specs.declared.move_job.MoveJob.{MoveJob}
use Rattle.space_reclaim.specs.Plans.{Planned}
use Rattle.lawful_records.specs.declared.job.TheConstants.{EMPTIED, FILLED, WIDE_WORDS}

-- ---- the job

-- the object that is there from the start: birth number 1, eight fields
abbrev pub common : Header
common = record { state = states.Plain; colour = Even; len = 8; birth = 1; target = 0 }

-- its wide object is the first of the wide area, where objects are copied through wide objects; elsewhere it has none
abbrev pub wide_for : Kind → Sizes → ℕ
wide_for kinds.Stopless l = wide_at l
wide_for kind l = 0

-- and the wide area has room for it
abbrev pub has_wide_room : Kind → Sizes → Bool
has_wide_room kinds.Stopless l = nat_le WIDE_WORDS l.wide
has_wide_room kind l = true

-- it goes from the first word of the one region to the first word of the other
abbrev pub first_job : Kind → Sizes → MoveJob
first_job kind l = record {
  birth = 1;
  from = first_word l EMPTIED;
  to = first_word l FILLED;
  wide = wide_for kind l;
  len = 8;
  header = word_of_header common;
}

-- a copier of this kind moves it, where the pool has a second region and the wide area room
abbrev pub has_job : Kind → Sizes → Bool
has_job kind l = does_move kind && nat_le 2 l.pool && has_wide_room kind l

-- the words of the wide area that its wide object takes, where objects are copied through wide objects
abbrev pub wide_taken : Kind → ℕ
wide_taken kinds.Stopless = WIDE_WORDS
wide_taken kind = 0

-- The plan of the first cycle, until cycles are planned: to move that object.
abbrev pub first_plan : Kind → Sizes → Planned
first_plan kind l = record {
  layout = l;
  chosen = (if has_job kind l then EMPTIED ∷ [] else []);
  targets = (if has_job kind l then FILLED ∷ [] else []);
  jobs = (if has_job kind l then first_job kind l ∷ [] else []);
  wide_words = (if has_job kind l then wide_taken kind else 0);
}

-- ---- headers

abbrev pub tagged_by : State → Header → ℕ → ℕ
tagged_by states.Plain header word = word_of_header (record header { state = states.Tagged })
tagged_by state header word = word

-- the word of the same header when it is Tagged
abbrev pub tagged_word : ℕ → ℕ
tagged_word word = let header = header_at word in tagged_by header.state header word

abbrev pub is_tagged_state : State → Bool
is_tagged_state states.Tagged = true
is_tagged_state state = false

abbrev pub is_tagged : ℕ → Bool
is_tagged word = is_tagged_state (let header = header_at word in header.state)

-- ---- seals

-- a mover's step seals the object at this address: an exchange of its Tagged header wins
abbrev pub does_seal : ℕ → Step → ℕ → Bool
does_seal at (Exchange place want put) found = place == at && (found == want && is_tagged found)
does_seal at step found = false
