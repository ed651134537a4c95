-- A collector that plays its cycles over a layout.
use Rattle.std.specs.Prelude.{◌≡◌, ◌≢◌, ℕ, ◌+◌, ◌-◌, ◌*◌, ◌<◌, ◌≤◌, Bool, true, false, if◌then◌else◌, List, length, Some}
use Rattle.std.specs.List.{slice_get}
use Rattle.call_steps.specs.declared.step.Step.TheVariants.{Ended}
use Rattle.heap_words.specs.Layouts.{Sizes, IsPass, ack_at, root_at}
use Rattle.heap_words.specs.declared.limits.TheConstants.{REGISTERS}
use Rattle.object_headers.specs.declared.change.Kind.{Kind}
use Rattle.object_headers.specs.Changes.{is_clover}
use Rattle.handshakes.specs.declared.answer.AwaitMachine.{AwaitMachine}
use Rattle.handshakes.specs.declared.answer.AwaitMachine.TheVariants as await
use Rattle.mark_search.specs.declared.seek.SeekMarkMachine.{SeekMarkMachine}
use Rattle.reference_fix.specs.declared.root_fix.RootFixMachine.{RootFixMachine}
use Rattle.reference_fix.specs.declared.fix_walk.FixWalkMachine.{FixWalkMachine}
use Rattle.reference_fix.specs.RootFixes.{IsRootFixOf}
use Rattle.reference_fix.specs.FixWalks.{area_of, asks_of}
use Rattle.reference_fix.specs.FixWalkRuns.{Walks}
use Rattle.space_reclaim.specs.declared.move_job.MoveJob.{MoveJob}
use Rattle.space_reclaim.specs.Plans.{Planned}
use Rattle.lawful_records.specs.declared.stage.Announcement.{Announcement}
use Rattle.lawful_records.specs.declared.stage.Announcement.TheVariants.{Mark, Confirm, Search, Copy, Fix, Free}
use Rattle.lawful_records.specs.declared.stage.Marks.{Marks}
use Rattle.lawful_records.specs.declared.stage.Stage.{Stage}
use Rattle.lawful_records.specs.declared.stage.TheConstants.{SEARCHES}
use Rattle.lawful_records.specs.declared.collector.CollectorMachine.{CollectorMachine}
use Rattle.lawful_records.specs.declared.collector.CollectorMachine.TheVariants as collector
use Rattle.lawful_records.specs.Collectors.{word_of, mark_word, is_planned, target_of}
use Rattle.lawful_records.specs.Searches.{Seeks}

-- ---- what was drawn for the marks

-- of a cycle with this number that has drawn a candidate
pub record HasDrawn (cycle : ℕ) (m : Marks) : Type 0 where
  pub first : 1 ≤ m.round
  pub last : m.round ≤ SEARCHES
  pub some : m.round ≤ (let c = m.candidates in c.drawn)
  pub few : (let c = m.candidates in c.drawn) ≤ SEARCHES * (cycle - 1) + m.round

-- of a cycle that has drawn none yet
abbrev pub DrewBefore : ℕ → Marks → Type 0
DrewBefore cycle m = (let c = m.candidates in c.drawn) ≤ SEARCHES * (cycle - 1)

-- while this is announced in a cycle that seeks a mark: Copy comes after a search that ended clear, Fix after that or after the last search
abbrev pub IsSought : Announcement → ℕ → Marks → Type 0
IsSought Mark cycle m = DrewBefore cycle m
IsSought Confirm cycle m = DrewBefore cycle m
IsSought Search cycle m = HasDrawn cycle m × (m.clear ≡ false)
IsSought Copy cycle m = HasDrawn cycle m × (m.clear ≡ true)
IsSought Fix cycle m = HasDrawn cycle m × (m.clear ≡ false → m.round ≡ SEARCHES)
IsSought Free cycle m = HasDrawn cycle m

abbrev pub IsNoSearch : Announcement → Type 0
IsNoSearch Search = ⊥
IsNoSearch a = Unit {0}

-- a cycle that seeks a mark, and one that does not
abbrev pub IsMarked : Bool → Announcement → ℕ → Marks → Type 0
IsMarked true a cycle m = IsSought a cycle m
IsMarked false a cycle m = IsNoSearch a × ((let c = m.candidates in c.drawn) ≡ 0) × (m.clear ≡ false)

-- ---- its stages

-- a stage of the cycles that are played with a copier of this kind
pub record IsStage (l : Sizes) (kind : Kind) (cycles : ℕ) (s : Stage) : Type 0 where
  pub layout : s.layout ≡ l
  pub kind_is : s.kind ≡ kind
  pub cycles_are : s.cycles ≡ cycles
  pub first : 1 ≤ s.cycle
  pub last : s.cycle ≤ cycles
  pub marked : IsMarked (is_clover kind) s.announcement s.cycle s.marks

-- the last stage, and with no cycle that of the start
pub record IsLast (l : Sizes) (kind : Kind) (cycles : ℕ) (s : Stage) : Type 0 where
  pub layout : s.layout ≡ l
  pub kind_is : s.kind ≡ kind
  pub cycles_are : s.cycles ≡ cycles
  pub last : s.cycle ≡ cycles
  pub free : s.announcement ≡ Free

-- the await of a pass looks at its acknowledgement, for the announced word
pub record IsAwait (l : Sizes) (kind : Kind) (cycles : ℕ) (s : Stage) (pass : ℕ) (m : AwaitMachine) : Type 0 where
  pub stage : IsStage l kind cycles s
  pub in_layout : IsPass l pass
  pub look : m ≡ await.Acknowledgement (ack_at pass) pass (word_of s)

-- the search before this is announced, or after it was awaited
pub record IsSearch (l : Sizes) (kind : Kind) (cycles : ℕ) (s : Stage) : Type 0 where
  pub stage : IsStage l kind cycles s
  pub search : s.announcement ≡ Search

-- it has begun with the candidate and has not ended
pub record IsSeek (l : Sizes) (kind : Kind) (cycles : ℕ) (s : Stage) (m : SeekMarkMachine) : Type 0 where
  pub at : IsSearch l kind cycles s
  pub seeks : Seeks l (mark_word s) m

-- before this announcement the regions of the plan get their words
abbrev pub work_before : Kind → Announcement
work_before kind = if is_clover kind then Fix else Copy

-- the work on the cycle's plan, before this is announced; where a mark is sought, after a search that ended clear
pub record IsWork (l : Sizes) (kind : Kind) (cycles : ℕ) (next : Announcement) (s : Stage) : Type 0 where
  pub stage : IsStage l kind cycles s
  pub next_is : s.announcement ≡ next
  pub planned : is_planned s ≡ true
  pub clear : is_clover kind ≡ true → s.marks.clear ≡ true

-- the root words of a pass are fixed in the await of Fix, in the order of the registers
pub record IsRooting (l : Sizes) (kind : Kind) (cycles : ℕ) (s : Stage) (pass reg : ℕ) (m : RootFixMachine) : Type 0 where
  pub stage : IsStage l kind cycles s
  pub fix : s.announcement ≡ Fix
  pub in_layout : IsPass l pass
  pub small : reg < REGISTERS
  pub fixes : IsRootFixOf (root_at l pass reg) m

-- the walk through the regions after that await, which has not ended
pub record IsWalk (l : Sizes) (kind : Kind) (cycles : ℕ) (s : Stage) (m : FixWalkMachine) : Type 0 where
  pub stage : IsStage l kind cycles s
  pub fix : s.announcement ≡ Fix
  pub walks : Walks (area_of l) m
  pub on : asks_of m ≢ Ended

-- one of a list
abbrev pub IsIn : {X : Type 0} → List X → X → Type 0
IsIn xs x = (i : ℕ) × (slice_get xs i ≡ Some x)

-- a region to which one of these jobs copies
abbrev pub IsTargetOf : Sizes → List MoveJob → ℕ → Type 0
IsTargetOf l jobs region = (job : MoveJob) × IsIn jobs job × (region ≡ target_of l job)

-- a collector that plays so many cycles over this layout, where this is planned
abbrev pub IsCollector : {M : Type 0} → Sizes → Kind → ℕ → Planned → CollectorMachine M → Type 0
IsCollector l kind cycles plan (collector.Announce s) = IsStage l kind cycles s
IsCollector l kind cycles plan (collector.Await s pass m) = IsAwait l kind cycles s pass m
IsCollector l kind cycles plan (collector.Draw s) = IsSearch l kind cycles s
IsCollector l kind cycles plan (collector.Seek s m) = IsSeek l kind cycles s m
IsCollector l kind cycles plan (collector.Source s region next) = IsWork l kind cycles (work_before kind) s × IsIn plan.chosen region
IsCollector l kind cycles plan (collector.Target s region next) = IsWork l kind cycles (work_before kind) s × IsTargetOf s.layout plan.jobs region
IsCollector l kind cycles plan (collector.Tag s job next) = IsWork l kind cycles Copy s × (is_clover kind ≡ false) × IsIn plan.jobs job
IsCollector l kind cycles plan (collector.Move s job next m) = IsWork l kind cycles Fix s × IsIn plan.jobs job × (next ≤ length plan.jobs)
IsCollector l kind cycles plan (collector.Roots s pass reg m) = IsRooting l kind cycles s pass reg m
IsCollector l kind cycles plan (collector.Walk s m) = IsWalk l kind cycles s m
IsCollector l kind cycles plan (collector.Done s) = IsLast l kind cycles s
