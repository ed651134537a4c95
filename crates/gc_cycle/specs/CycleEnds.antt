-- What a world keeps of how searches end.
use Rattle.std.specs.Prelude.{ℕ, ◌-◌, ◌==◌, if◌then◌else◌, List, Option, Some, None, replicate, slice_set}
use Rattle.mark_search.specs.declared.seek.MarkFound.{MarkFound as Place}
use Rattle.mark_search.specs.declared.seek.SeekEnd.{SeekEnd}
use Rattle.mark_search.specs.declared.seek.SeekEnd.TheVariants.{Clear, MarkFound}
use Rattle.cycle_journal.specs.declared.journal.TheConstants.{CANDIDATES}
use Rattle.cycle_journal.specs.declared.journal.MarkFound.{MarkFound as Found}
use Rattle.cycle_journal.specs.declared.journal.MarkRow.{MarkRow}
use Rattle.cycle_journal.specs.declared.journal.MarkRow.TheVariants as mark_row
use Rattle.lawful_records.specs.declared.collector.CollectorMachine.{CollectorMachine}
use Rattle.lawful_records.specs.declared.collector.CollectorMachine.TheVariants as collector
use Rattle.lawful_records.specs.declared.stage.Stage.{Stage}
use Rattle.lawful_records.specs.Collectors.{mark_word, seek_ended}

-- ---- a search that a step has ended

abbrev pub ended_at : Stage → Option SeekEnd → Option (Stage × SeekEnd)
ended_at s None = None
ended_at s (Some end) = Some (s, end)

-- the stage of the search that the collector's step ends, which finds this word, and how
abbrev pub search_ended : {M : Type 0} → CollectorMachine M → ℕ → Option (Stage × SeekEnd)
search_ended {M = M} (collector.Seek s m) found = ended_at s (seek_ended {M = M} (collector.Seek s m) found)
search_ended k found = None

-- ---- what becomes of it

-- where a candidate was found, as a cycle reports it
abbrev pub found_at_place : Place → Found
found_at_place place = record { at = place.at; field = place.field }

-- where the candidates of the cycle were found
abbrev pub finds_after : Option (Stage × SeekEnd) → List Found → List Found
finds_after (Some (s, MarkFound place)) finds = slice_set finds (s.marks.round - 1) (found_at_place place)
finds_after ended finds = finds

-- The mark of a cycle, which is decided where its search has ended clear, and where the last candidate was found.
abbrev pub mark_after : Option (Stage × SeekEnd) → List Found → Option (ℕ × MarkRow)
mark_after (Some (s, Clear)) finds = Some (s.cycle, mark_row.Used (mark_word s))
mark_after (Some (s, MarkFound place)) finds = if s.marks.round == CANDIDATES then Some (s.cycle, mark_row.Refused finds) else None
mark_after None finds = None

-- cycles count from 1
abbrev pub with_mark : Option (ℕ × MarkRow) → List MarkRow → List MarkRow
with_mark None rows = rows
with_mark (Some (cycle, row)) rows = slice_set rows (cycle - 1) row

-- ---- the start

abbrev pub nowhere : List Found
nowhere = replicate CANDIDATES (record { at = 0; field = 0 })

-- so many cycles, none of which has a mark yet
abbrev pub unmarked_rows : ℕ → List MarkRow
unmarked_rows cycles = replicate cycles mark_row.None
