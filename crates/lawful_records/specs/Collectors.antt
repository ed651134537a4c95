-- The collector's machine, and what it has announced.
use Rattle.std.specs.Prelude.{◌≡◌, ◌≤◌, ℕ, ◌+◌, ◌-◌, ◌==◌, ◌&&◌, ◌^◌, min, max, Bool, true, false, not, nat_lt, if◌then◌else◌, List, [], drop, Option, Some, None, refl}
use Rattle.std.specs.List.{slice_get, prefix_len}
use Rattle.call_steps.specs.declared.step.Step.{Step}
use Rattle.call_steps.specs.declared.step.Step.TheVariants.{Store, Exchange, Ended}
use Rattle.heap_words.specs.Layouts.{Sizes, phase_at, mark_at as mark_at_word, ack_at, root_at, region_at}
use Rattle.heap_words.specs.declared.limits.TheConstants.{REGISTERS}
use Rattle.object_headers.specs.declared.change.Kind.{Kind}
use Rattle.object_headers.specs.Changes.{is_clover}
use Rattle.handshakes.specs.declared.phase_word.Phase.{Phase}
use Rattle.handshakes.specs.declared.phase_word.Phase.TheVariants as phases
use Rattle.handshakes.specs.declared.phase_word.PhaseWord.{PhaseWord}
use Rattle.handshakes.specs.declared.answer.AwaitEnd.{AwaitEnd}
use Rattle.handshakes.specs.declared.answer.AwaitEnd.TheVariants.{Answered, Retired, NotYet}
use Rattle.handshakes.specs.declared.answer.AwaitMachine.{AwaitMachine}
use Rattle.handshakes.specs.declared.answer.AwaitMachine.TheVariants as await
use Rattle.handshakes.specs.PhaseWords.{word_of_phase}
use Rattle.handshakes.specs.Awaits as awaits
use Rattle.space_reclaim.specs.declared.move_job.MoveJob.{MoveJob}
use Rattle.space_reclaim.specs.declared.region_word.RegionWord.TheVariants as regions
use Rattle.space_reclaim.specs.RegionWords.{word_of_region}
use Rattle.space_reclaim.specs.Plans.{Planned}
use Rattle.mark_search.specs.declared.seek.SeekEnd.{SeekEnd}
use Rattle.mark_search.specs.declared.seek.SeekEnd.TheVariants.{Clear, MarkFound}
use Rattle.mark_search.specs.declared.seek.SeekMarkMachine.{SeekMarkMachine}
use Rattle.mark_search.specs.Draws.{candidates_of, last_of, drawn_on}
use Rattle.mark_search.specs.declared.candidates.Candidates.{Candidates}
use Rattle.mark_search.specs.Seeks as seeks
use Rattle.reference_fix.specs.declared.root_fix.RootFixMachine.{RootFixMachine}
use Rattle.reference_fix.specs.declared.root_fix.RootFixMachine.TheVariants as root
use Rattle.reference_fix.specs.declared.fix_walk.FixWalkMachine.{FixWalkMachine}
use Rattle.reference_fix.specs.RootFixes as roots
use Rattle.reference_fix.specs.FixWalks as walks
use Rattle.barriers.specs.declared.ends.MoveEnd.{MoveEnd}
use Rattle.barriers.specs.Kits.{Kit}
use Rattle.barriers.specs.Rows.{region_of}
use Rattle.lawful_records.specs.declared.stage.Announcement.{Announcement}
use Rattle.lawful_records.specs.declared.stage.Announcement.TheVariants.{Mark, Confirm, Search, Copy, Fix, Free}
use Rattle.lawful_records.specs.declared.stage.TheConstants.{SEARCHES, LAST_ROUND}
use Rattle.lawful_records.specs.declared.stage.Stage.{Stage}
use Rattle.lawful_records.specs.declared.awaited.Awaited.{Awaited}
use Rattle.lawful_records.specs.declared.collector.CollectorMachine.{CollectorMachine}
use Rattle.lawful_records.specs.declared.collector.CollectorMachine.TheVariants as collector
use Rattle.lawful_records.specs.Jobs.{tagged_word, does_seal}

-- ---- the announcements of a cycle

abbrev pub phase_of : Announcement → Phase
phase_of Mark = phases.Mark
phase_of Confirm = phases.Confirm
phase_of Search = phases.Copy
phase_of Copy = phases.Copy
phase_of Fix = phases.Fix
phase_of Free = phases.Free

-- the round of its phase word: 1 at Confirm; of a Search its number; and after a search 9 at Copy
abbrev pub round_by : Announcement → Kind → ℕ → ℕ
round_by Mark kind round = 0
round_by Confirm kind round = 1
round_by Search kind round = round
round_by Copy kind round = if is_clover kind then LAST_ROUND else 0
round_by Fix kind round = 0
round_by Free kind round = 0

abbrev pub round_of : Stage → ℕ
round_of s = round_by s.announcement s.kind s.marks.round

-- an announcement in a cycle, with this round
abbrev pub said_in : Announcement → ℕ → ℕ → PhaseWord
said_in a cycle round = record { phase = phase_of a; cycle = cycle; round = round }

-- what a stage announces
abbrev pub said_of : Stage → PhaseWord
said_of s = said_in s.announcement s.cycle (round_of s)

-- its phase word
abbrev pub word_of : Stage → ℕ
word_of s = word_of_phase (said_of s)

-- ---- marks

-- what the mark word holds while it is announced: the candidate drawn last
abbrev pub mark_word : Stage → ℕ
mark_word s = last_of s.marks.candidates

-- the mark of a pass that has acknowledged it
abbrev pub mark_by : Announcement → ℕ → ℕ
mark_by Mark mark = 0
mark_by Confirm mark = 0
mark_by Search mark = mark
mark_by Copy mark = mark
mark_by Fix mark = mark
mark_by Free mark = 0

abbrev pub mark_at : Stage → ℕ
mark_at s = mark_by s.announcement (mark_word s)

-- the search for the next candidate, with this number in its cycle
abbrev pub searched : Stage → ℕ → Stage
searched s round = record s { announcement = Search; marks = record { candidates = drawn_on s.marks.candidates; round = round; clear = false } }

-- before the last draw
abbrev pub undrawn : Candidates → Candidates
undrawn c = record c { drawn = c.drawn - 1 }

-- the stage before that search
abbrev pub unsearched : Stage → Stage
unsearched s = record s {
  announcement = if s.marks.round == 1 then Confirm else Search;
  marks = record s.marks { candidates = undrawn s.marks.candidates; round = s.marks.round - 1 };
}

-- eight searches have found their candidates
abbrev pub is_refused : Stage → Bool
is_refused s = is_clover s.kind && not s.marks.clear

-- the announcement directly before it; that before Mark is Free of the cycle before
abbrev pub before_by : Announcement → Stage → Stage
before_by Mark s = record s { cycle = s.cycle - 1; announcement = Free }
before_by Confirm s = record s { announcement = Mark }
before_by Search s = unsearched s
before_by Copy s = record s { announcement = if is_clover s.kind then Search else Confirm }
before_by Fix s = record s { announcement = if is_refused s then Search else Copy }
before_by Free s = record s { announcement = Fix }

abbrev pub stage_before : Stage → Stage
stage_before s = before_by s.announcement s

-- whether its cycle has the plan: until cycles are planned anew, the first one
abbrev pub is_planned : Stage → Bool
is_planned s = s.cycle == 1

-- the jobs of its cycle
abbrev pub jobs_of : Planned → Stage → List MoveJob
jobs_of plan s = if is_planned s then plan.jobs else []

-- the address of the word that says what a region is used for
abbrev pub used_at : Sizes → ℕ → ℕ
used_at l region = min (region_at l 0 + region) (2 ^ 32 - 1)

-- the region to which a job copies
abbrev pub target_of : Sizes → MoveJob → ℕ
target_of l job = region_of l job.to

-- how many jobs, one after another from the one with this number on, copy to a region
abbrev pub run_of : Sizes → List MoveJob → ℕ → ℕ → ℕ
run_of l jobs from region = prefix_len (λ j. target_of l j == region) (drop from jobs)

-- the pass with this number, or the one next to it that the layout has
abbrev pub pass_within : Sizes → ℕ → ℕ
pass_within l pass = min (max pass 1) l.passes

-- ---- the machine

-- no cycle has begun, which is as if Free of cycle 0 had been announced and awaited
abbrev pub stage_at_start : Kind → Sizes → ℕ → ℕ → Stage
stage_at_start kind l cycles salt = record { layout = l; kind = kind; cycles = cycles; cycle = 0; announcement = Free; marks = record { candidates = candidates_of salt; round = 0; clear = false } }

module _ {M : Type 0} where
  -- the look at a pass's acknowledgement
  abbrev pub look : Stage → ℕ → CollectorMachine M
  look s pass = collector.Await s pass (await.Acknowledgement (ack_at pass) pass (word_of s))

  -- another announcement of the cycle
  abbrev pub announce : Stage → Announcement → CollectorMachine M
  announce s next = collector.Announce (record s { announcement = next })

  -- the tag of the object of a job, with this number in the plan; after the last one this is announced
  abbrev pub tag_at : Option MoveJob → Stage → ℕ → CollectorMachine M
  tag_at None s at = collector.Announce s
  tag_at (Some job) s at = collector.Tag s job (at + 1)

  -- all passes have the candidate as their mark
  abbrev pub seek_at : Stage → CollectorMachine M
  seek_at s = collector.Seek s (seeks.begun s.layout (mark_word s))

  -- after a step of the search, which has ended so
  abbrev pub sought : Stage → SeekMarkMachine → Option SeekEnd → CollectorMachine M
  sought s m None = collector.Seek s m
  sought s m (Some Clear) = collector.Announce (record s { announcement = Copy; marks = record s.marks { clear = true } })
  sought s m (Some (MarkFound place)) = if nat_lt s.marks.round SEARCHES then collector.Draw (searched s (s.marks.round + 1)) else announce s Fix

  abbrev pub sought_on : Stage → SeekMarkMachine → CollectorMachine M
  sought_on s m = sought s m (seeks.end_of m)

  -- the fixing of a retired pass's root word for a register
  abbrev pub root_fix : Stage → ℕ → ℕ → CollectorMachine M
  root_fix s pass reg = collector.Roots s pass reg (root.Root (root_at s.layout (pass_within s.layout pass) reg))

  -- all passes have answered Fix
  abbrev pub walk_at : Stage → CollectorMachine M
  walk_at s = collector.Walk s (walks.begun s.layout)

  -- after a step of the walk, which has ended or not
  abbrev pub walked : Stage → FixWalkMachine → Option (Unit {0}) → CollectorMachine M
  walked s m None = collector.Walk s m
  walked s m (Some end) = announce s Free

  abbrev pub walked_on : Stage → FixWalkMachine → CollectorMachine M
  walked_on s m = walked s m (walks.end_of m)

  -- the step that it takes next, where its mover asks so
  abbrev pub asks_of : (M → Step) → CollectorMachine M → Step
  asks_of asks (collector.Announce s) = Store phase_at (word_of s)
  asks_of asks (collector.Await s pass m) = awaits.asks_of m
  asks_of asks (collector.Draw s) = Store mark_at_word (mark_word s)
  asks_of asks (collector.Seek s m) = seeks.asks_of m
  asks_of asks (collector.Source s region next) = Store (used_at s.layout region) (word_of_region regions.Source)
  asks_of asks (collector.Target s region next) = Store (used_at s.layout region) (word_of_region regions.Target)
  asks_of asks (collector.Tag s job next) = Exchange job.from job.header (tagged_word job.header)
  asks_of asks (collector.Move s job next m) = asks m
  asks_of asks (collector.Roots s pass reg m) = roots.asks_of m
  asks_of asks (collector.Walk s m) = walks.asks_of m
  asks_of asks (collector.Done s) = Ended

  -- the object that this step seals, where it finds this word
  abbrev pub seals_of : CollectorMachine M → Step → ℕ → Option MoveJob
  seals_of (collector.Move s job next m) step found = if does_seal job.from step found then Some job else None
  seals_of k step found = None

  -- what its search has ended with, if it ends by the step that finds this word
  abbrev pub seek_ended : CollectorMachine M → ℕ → Option SeekEnd
  seek_ended (collector.Seek s m) found = seeks.end_of (seeks.fed_of m found)
  seek_ended k found = None

module _ {R W E M : Type 0} (kit : Kit R W E M) where
  -- the move of a job's object, with this number in the plan; after the last one this is announced
  abbrev pub move_at : Option MoveJob → Stage → ℕ → CollectorMachine M
  move_at None s at = collector.Announce s
  move_at (Some job) s at = collector.Move s job (at + 1) (kit.starts_move s.layout job (mark_word s))

  -- with the words of the regions stored the objects are tagged, or moved
  abbrev pub targeted : Planned → Stage → CollectorMachine M
  targeted plan s = if is_clover s.kind then move_at (slice_get plan.jobs 0) s 0 else tag_at (slice_get plan.jobs 0) s 0

  -- the word of the region to which this job copies, and those after it that copy there too
  abbrev pub target_at : Planned → Option MoveJob → Stage → ℕ → CollectorMachine M
  target_at plan None s at = targeted plan s
  target_at plan (Some job) s at = let region = target_of s.layout job in collector.Target s region (at + run_of s.layout plan.jobs at region)

  -- the word of a chosen region
  abbrev pub source_at : Planned → Option ℕ → Stage → ℕ → CollectorMachine M
  source_at plan None s at = target_at plan (slice_get plan.jobs 0) s 0
  source_at plan (Some region) s at = collector.Source s region (at + 1)

  -- the work on the plan before this is announced, if the cycle has it; and the moves
  abbrev pub work_at : Planned → Stage → CollectorMachine M
  work_at plan s = if is_planned s then source_at plan (slice_get plan.chosen 0) s 0 else collector.Announce s

  abbrev pub moves_at : Planned → Stage → CollectorMachine M
  moves_at plan s = if is_planned s then move_at (slice_get plan.jobs 0) s 0 else collector.Announce s

  -- before Copy is announced a mark is sought, or objects are tagged
  abbrev pub to_copy : Planned → Stage → CollectorMachine M
  to_copy plan s = if is_clover s.kind then collector.Draw (searched s 1) else work_at plan (record s { announcement = Copy })

  -- before Fix is announced they are moved
  abbrev pub to_fix : Planned → Stage → CollectorMachine M
  to_fix plan s = if is_clover s.kind then work_at plan (record s { announcement = Fix }) else moves_at plan (record s { announcement = Fix })

  -- all passes have answered: the next announcement comes, and after Free the next cycle, if there is one
  abbrev pub behind_by : Planned → Announcement → Stage → CollectorMachine M
  behind_by plan Mark s = announce s Confirm
  behind_by plan Confirm s = to_copy plan s
  behind_by plan Search s = seek_at s
  behind_by plan Copy s = to_fix plan s
  behind_by plan Fix s = walk_at s
  behind_by plan Free s =
      if nat_lt s.cycle s.cycles
      then collector.Announce (record s { cycle = s.cycle + 1; announcement = Mark })
      else collector.Done s

  -- this pass and those before it have answered
  abbrev pub awaited : Planned → Stage → ℕ → CollectorMachine M
  awaited plan s pass = if nat_lt pass s.layout.passes then look s (pass + 1) else behind_by plan s.announcement s

  -- this pass has retired: in the await of Fix its root words are fixed
  abbrev pub retired_by : Planned → Announcement → Stage → ℕ → CollectorMachine M
  retired_by plan Fix s pass = root_fix s pass 0
  retired_by plan a s pass = awaited plan s pass

  -- after a step of the fixing of a root word, which has ended or not
  abbrev pub rooted : Planned → Stage → ℕ → ℕ → RootFixMachine → Option (Unit {0}) → CollectorMachine M
  rooted plan s pass reg m None = collector.Roots s pass reg m
  rooted plan s pass reg m (Some end) = if nat_lt reg (REGISTERS - 1) then root_fix s pass (reg + 1) else awaited plan s pass

  abbrev pub rooted_on : Planned → Stage → ℕ → ℕ → RootFixMachine → CollectorMachine M
  rooted_on plan s pass reg m = rooted plan s pass reg m (roots.end_of m)

  -- a look has ended: the pass has answered or retired, or it is looked at again
  abbrev pub looked : Planned → Stage → ℕ → AwaitMachine → Option AwaitEnd → CollectorMachine M
  looked plan s pass m (Some Answered) = awaited plan s pass
  looked plan s pass m (Some Retired) = retired_by plan s.announcement s pass
  looked plan s pass m (Some (NotYet at found)) = collector.Await s pass m
  looked plan s pass m None = collector.Await s pass m

  -- after a step of the move, which has ended so
  abbrev pub moved_by : Planned → Stage → MoveJob → ℕ → M → Option MoveEnd → CollectorMachine M
  moved_by plan s job next m None = collector.Move s job next m
  moved_by plan s job next m (Some end) = move_at (slice_get plan.jobs next) s next

  abbrev pub moved_on : Planned → Stage → MoveJob → ℕ → M → CollectorMachine M
  moved_on plan s job next m = moved_by plan s job next m (kit.move_ended m)

  -- what it is after it was fed a word, where its mover goes on so
  abbrev pub fed_of : (M → ℕ → M) → Planned → CollectorMachine M → ℕ → CollectorMachine M
  fed_of fed plan (collector.Announce s) found = look s 1
  fed_of fed plan (collector.Await s pass m) found = looked plan s pass m (awaits.end_of (awaits.fed_of m found))
  fed_of fed plan (collector.Draw s) found = collector.Announce s
  fed_of fed plan (collector.Seek s m) found = sought_on s (seeks.fed_of m found)
  fed_of fed plan (collector.Source s region next) found = source_at plan (slice_get plan.chosen next) s next
  fed_of fed plan (collector.Target s region next) found = target_at plan (slice_get plan.jobs next) s next
  fed_of fed plan (collector.Tag s job next) found = tag_at (slice_get plan.jobs next) s next
  fed_of fed plan (collector.Move s job next m) found = moved_on plan s job next (fed m found)
  fed_of fed plan (collector.Roots s pass reg m) found = rooted_on plan s pass reg (roots.fed_of m found)
  fed_of fed plan (collector.Walk s m) found = walked_on s (walks.fed_of m found)
  fed_of fed plan (collector.Done s) found = collector.Done s

  -- what the move has ended with, if it ends by the step that finds this word
  abbrev pub ended_with : MoveJob → Option MoveEnd → Option (MoveJob × MoveEnd)
  ended_with job None = None
  ended_with job (Some end) = Some (job, end)

  abbrev pub move_ended : (M → ℕ → M) → CollectorMachine M → ℕ → Option (MoveJob × MoveEnd)
  move_ended fed (collector.Move s job next m) found = ended_with job (kit.move_ended (fed m found))
  move_ended fed k found = None

  abbrev pub collector_of : Planned → Sizes → ℕ → ℕ → CollectorMachine M
  collector_of plan l cycles salt = behind_by plan Free (stage_at_start kit.kind l cycles salt)

  -- after a store it goes on alike for every word, as its mover does
  pub blind_of : (asks : M → Step) (fed : M → ℕ → M) → ((m : M) (at put n : ℕ) → asks m ≡ Store at put → fed m n ≡ fed m 0) → (plan : Planned) (k : CollectorMachine M) (at put n : ℕ) → asks_of asks k ≡ Store at put → fed_of fed plan k n ≡ fed_of fed plan k 0
  blind_of asks fed blind plan (collector.Announce s) at put n is = refl
  blind_of asks fed blind plan (collector.Await s pass (await.Acknowledgement place p word)) at put n is = absurd cc
  blind_of asks fed blind plan (collector.Await s pass (await.Ended e)) at put n is = refl
  blind_of asks fed blind plan (collector.Draw s) at put n is = refl
  blind_of asks fed blind plan (collector.Seek s m) at put n is = rw (seeks.blind_of m at put n is) refl
  blind_of asks fed blind plan (collector.Source s region next) at put n is = refl
  blind_of asks fed blind plan (collector.Target s region next) at put n is = refl
  blind_of asks fed blind plan (collector.Tag s job next) at put n is = refl
  blind_of asks fed blind plan (collector.Move s job next m) at put n is = rw (blind m at put n is) refl
  blind_of asks fed blind plan (collector.Roots s pass reg m) at put n is = rw (roots.blind_of m at put n is) refl
  blind_of asks fed blind plan (collector.Walk s m) at put n is = rw (walks.blind_of m at put n is) refl
  blind_of asks fed blind plan (collector.Done s) at put n is = refl

-- what is made of the same is the same
pub alike : {A B : Type 0} (make : A → B) (x y : A) → x ≡ y → make x ≡ make y
alike make x y is = rw is refl

-- ---- what is read off it

module _ {M : Type 0} where
  -- the stage announced last; before the first one that of the start
  abbrev pub stage_of : CollectorMachine M → Stage
  stage_of (collector.Announce s) = stage_before s
  stage_of (collector.Await s pass m) = s
  stage_of (collector.Draw s) = stage_before s
  stage_of (collector.Seek s m) = s
  stage_of (collector.Source s region next) = stage_before s
  stage_of (collector.Target s region next) = stage_before s
  stage_of (collector.Tag s job next) = stage_before s
  stage_of (collector.Move s job next m) = stage_before s
  stage_of (collector.Roots s pass reg m) = s
  stage_of (collector.Walk s m) = s
  stage_of (collector.Done s) = s

  -- the phase word now announced
  abbrev pub announced_of : CollectorMachine M → ℕ
  announced_of k = word_of (stage_of k)

  -- the phase word announced directly before it
  abbrev pub before_of : CollectorMachine M → ℕ
  before_of k = word_of (stage_before (stage_of k))

  -- what the mark word holds
  abbrev pub drawn_of : CollectorMachine M → ℕ
  drawn_of (collector.Announce s) = mark_word s
  drawn_of (collector.Await s pass m) = mark_word s
  drawn_of (collector.Draw s) = mark_word (stage_before s)
  drawn_of (collector.Seek s m) = mark_word s
  drawn_of (collector.Source s region next) = mark_word s
  drawn_of (collector.Target s region next) = mark_word s
  drawn_of (collector.Tag s job next) = mark_word s
  drawn_of (collector.Move s job next m) = mark_word s
  drawn_of (collector.Roots s pass reg m) = mark_word s
  drawn_of (collector.Walk s m) = mark_word s
  drawn_of (collector.Done s) = mark_word s

  -- how many passes the await has passed, in rising number: all of them outside an await, to which the fixing of root words belongs
  abbrev pub passed_of : CollectorMachine M → ℕ
  passed_of (collector.Announce s) = s.layout.passes
  passed_of (collector.Await s pass m) = pass - 1
  passed_of (collector.Draw s) = s.layout.passes
  passed_of (collector.Seek s m) = s.layout.passes
  passed_of (collector.Source s region next) = s.layout.passes
  passed_of (collector.Target s region next) = s.layout.passes
  passed_of (collector.Tag s job next) = s.layout.passes
  passed_of (collector.Move s job next m) = s.layout.passes
  passed_of (collector.Roots s pass reg m) = pass - 1
  passed_of (collector.Walk s m) = s.layout.passes
  passed_of (collector.Done s) = s.layout.passes

-- ---- how many changes there were when its awaits ended

-- no await of the cycle has ended
abbrev pub none_awaited : Awaited
none_awaited = record { mark = 0; confirm = 0; copy = 0; fix = 0; free = 0 }

-- that of an announcement has ended
abbrev pub with_await : Announcement → ℕ → Awaited → Awaited
with_await Mark changes h = record h { mark = changes }
with_await Confirm changes h = record h { confirm = changes }
with_await Search changes h = h
with_await Copy changes h = record h { copy = changes }
with_await Fix changes h = record h { fix = changes }
with_await Free changes h = record h { free = changes }

-- an announcement of Mark begins a cycle
abbrev pub begun_by : Announcement → Awaited → Awaited
begun_by Mark h = none_awaited
begun_by _ h = h

module _ {M : Type 0} where
  abbrev pub is_await : CollectorMachine M → Bool
  is_await (collector.Await s pass m) = true
  is_await (collector.Roots s pass reg m) = true
  is_await _ = false

  -- after a step of the collector from one machine to another, where there were so many changes
  abbrev pub awaits_behind : CollectorMachine M → CollectorMachine M → ℕ → Awaited → Awaited
  awaits_behind (collector.Announce s) after changes h = begun_by s.announcement h
  awaits_behind (collector.Await s pass m) after changes h = if is_await after then h else with_await s.announcement changes h
  awaits_behind (collector.Roots s pass reg m) after changes h = if is_await after then h else with_await s.announcement changes h
  awaits_behind k after changes h = h

-- each of them is no more than there are
pub record AreEarlier (changes : ℕ) (h : Awaited) : Type 0 where
  pub mark : h.mark ≤ changes
  pub confirm : h.confirm ≤ changes
  pub copy : h.copy ≤ changes
  pub fix : h.fix ≤ changes
  pub free : h.free ≤ changes
