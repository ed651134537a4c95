-- What a world reports of its cycles.
use Rattle.std.specs.Prelude.{◌≡◌, ℕ, ◌+◌, ◌-◌, ◌<◌, ◌==◌, if◌then◌else◌, List, [], ◌∷◌, length, get_or, slice_index_or, Option, Some, None}
use Rattle.space_reclaim.specs.declared.move_job.MoveJob.{MoveJob}
use Rattle.barriers.specs.declared.ends.MoveEnd.{MoveEnd}
use Rattle.barriers.specs.declared.ends.MoveEnd.TheVariants as move_end
use Rattle.cycle_journal.specs.declared.journal.CycleReport.{CycleReport}
use Rattle.cycle_journal.specs.declared.journal.KeptRow.{KeptRow}
use Rattle.cycle_journal.specs.declared.journal.MarkRow.{MarkRow}
use Rattle.cycle_journal.specs.declared.journal.MarkRow.TheVariants as mark_row
use Rattle.cycle_journal.specs.declared.journal.MoveRow.{MoveRow}
use Rattle.lawful_records.specs.declared.collector.CollectorMachine.{CollectorMachine}
use Rattle.lawful_records.specs.declared.collector.CollectorMachine.TheVariants as collector
use Rattle.std.specs.List.{filter_map}

-- ---- cycles

-- how many cycles the collector has ended: it is in the one after them, or it is done
abbrev pub ended_cycles : {M : Type 0} → CollectorMachine M → ℕ
ended_cycles (collector.Announce s) = s.cycle - 1
ended_cycles (collector.Await s pass m) = s.cycle - 1
ended_cycles (collector.Draw s) = s.cycle - 1
ended_cycles (collector.Seek s m) = s.cycle - 1
ended_cycles (collector.Source s region next) = s.cycle - 1
ended_cycles (collector.Target s region next) = s.cycle - 1
ended_cycles (collector.Tag s job next) = s.cycle - 1
ended_cycles (collector.Move s job next m) = s.cycle - 1
ended_cycles (collector.Roots s pass reg m) = s.cycle - 1
ended_cycles (collector.Walk s m) = s.cycle - 1
ended_cycles (collector.Done s) = s.cycle

-- how the jobs of this cycle have ended: until cycles are planned anew the first one alone has some
abbrev pub jobs_in : ℕ → List (MoveJob × MoveEnd) → List (MoveJob × MoveEnd)
jobs_in cycle moved = if cycle == 1 then moved else []

-- the mark of this cycle
abbrev pub mark_in : ℕ → List MarkRow → MarkRow
mark_in cycle marks = slice_index_or marks (cycle - 1) mark_row.None

-- ---- reports

-- the object of a job that was moved
abbrev pub moved_row : MoveJob × MoveEnd → Option MoveRow
moved_row (j, move_end.Moved) = Some (record { birth = j.birth; from = j.from; to = j.to })
moved_row ended = None

-- and of one that stays where it is
abbrev pub kept_row : MoveJob × MoveEnd → Option KeptRow
kept_row (j, move_end.Kept header) = Some (record { birth = j.birth; at = j.from; header = header })
kept_row ended = None

-- of jobs, in their order
abbrev pub moves_of : List (MoveJob × MoveEnd) → List MoveRow
moves_of ended = filter_map moved_row ended

abbrev pub kept_of : List (MoveJob × MoveEnd) → List KeptRow
kept_of ended = filter_map kept_row ended

-- The report of a cycle tells how its jobs have ended, and its mark. No region is reported as chosen or freed yet.
pub record Reports (number : ℕ) (ended : List (MoveJob × MoveEnd)) (drawn : MarkRow) (report : CycleReport) : Type 0 where
  pub cycle : report.cycle ≡ number
  pub moves : report.moves.items ≡ moves_of ended
  pub kept : report.kept.items ≡ kept_of ended
  pub live : report.live.items ≡ []
  pub chosen : report.chosen.items ≡ []
  pub freed : report.freed.items ≡ []
  pub mark : report.mark ≡ drawn

-- one for each of so many cycles, from the first on
pub record AreReports (cycles : ℕ) (moved : List (MoveJob × MoveEnd)) (marks : List MarkRow) (reports : List CycleReport) : Type 0 where
  pub many : length reports ≡ cycles
  pub each : (i : ℕ) (d : CycleReport) → i < length reports → Reports (i + 1) (jobs_in (i + 1) moved) (mark_in (i + 1) marks) (get_or reports i d)
