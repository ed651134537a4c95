-- The lines of a cycle: what it did, then each object that it has moved, then each that stayed where it is.
use Rattle.std.specs.Prelude.{ℕ, List, [], ◌∷◌, ◌++◌, length, codes, decimal}
use Rattle.std.specs.List.{flat_map}
use Rattle.heap_script.specs.Words.{Word}
use Rattle.heap_script.specs.Text.{line_text}
use Rattle.cycle_journal.specs.declared.journal.MoveRow.{MoveRow}
use Rattle.cycle_journal.specs.declared.journal.KeptRow.{KeptRow}
use Rattle.cycle_journal.specs.declared.journal.MarkRow.{MarkRow}
use Rattle.cycle_journal.specs.declared.journal.MarkRow.TheVariants as marks
use Rattle.cycle_journal.specs.declared.journal.CycleReport.{CycleReport}
use Rattle.heap_report.specs.Words.{object_word}

-- the mark, - where the copier needs none, or that all candidates were refused
abbrev pub mark_word : MarkRow → Word
mark_word marks.None = codes "-"
mark_word (marks.Used mark) = decimal mark
mark_word (marks.Refused places) = codes "refused"

-- The words of a cycle after the first: its number, how many regions were chosen, objects moved and kept, and
-- regions given again, and its mark.
abbrev pub cycle_words : CycleReport → List Word
cycle_words r =
    decimal r.cycle ∷ codes "chosen" ∷ decimal (length r.chosen.items) ∷ codes "moved" ∷ decimal (length r.moves.items)
    ∷ codes "kept" ∷ decimal (length r.kept.items) ∷ codes "freed" ∷ decimal (length r.freed.items)
    ∷ codes "mark" ∷ mark_word r.mark ∷ []

abbrev pub move_text : ℕ → MoveRow → List ℕ
move_text cycle row = line_text (codes "move" ∷ decimal cycle ∷ object_word row.birth ∷ decimal row.from ∷ decimal row.to ∷ [])

abbrev pub kept_text : ℕ → KeptRow → List ℕ
kept_text cycle row = line_text (codes "kept" ∷ decimal cycle ∷ object_word row.birth ∷ decimal row.at ∷ [])

abbrev pub cycle_text : CycleReport → List ℕ
cycle_text r =
    line_text (codes "cycle" ∷ cycle_words r) ++ flat_map (move_text r.cycle) r.moves.items
    ++ flat_map (kept_text r.cycle) r.kept.items
