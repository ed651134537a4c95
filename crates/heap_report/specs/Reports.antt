-- The whole texts.
use Rattle.std.specs.Prelude.{ℕ, List, [], ◌∷◌, ◌++◌, codes}
use Rattle.std.specs.List.{flat_map}
use Rattle.heap_history.specs.declared.call.Entry.{Entry}
use Rattle.heap_script.specs.declared.answer.Answer.{Answer}
use Rattle.heap_script.specs.declared.told.Again.{Again}
use Rattle.heap_script.specs.Text.{line_text}
use Rattle.cycle_journal.specs.declared.journal.CycleReport.{CycleReport}
use Rattle.cycle_journal.specs.declared.leavings.LastHeap.{LastHeap}
use Rattle.heap_report.specs.Entries.{entry_text}
use Rattle.heap_report.specs.Answers.{all_answers_text, again_text}
use Rattle.heap_report.specs.Cycles.{cycle_text}
use Rattle.heap_report.specs.Leavings.{all_left_text, object_text}

-- what is left
abbrev pub last_text : LastHeap → List ℕ
last_text last = all_left_text 1 last.left.items ++ flat_map object_text last.objects.items

-- the last line
abbrev pub end_text : List ℕ
end_text = line_text (codes "end" ∷ [])

-- the answers, the cycles, what is left, and the end
abbrev pub report_text : List (List Answer) → List CycleReport → LastHeap → List ℕ
report_text answers journal last =
    all_answers_text 1 answers ++ flat_map cycle_text journal ++ last_text last ++ end_text

-- the history, the commands whose tries were refused, the answers, and the end, where no cycle is told
abbrev pub history_text : List Entry → List Again → List (List Answer) → List ℕ
history_text history agains answers =
    flat_map entry_text history ++ flat_map again_text agains ++ all_answers_text 1 answers ++ end_text

-- the history, the commands whose tries were refused, and the report
abbrev pub replay_text : List Entry → List Again → List (List Answer) → List CycleReport → LastHeap → List ℕ
replay_text history agains answers journal last =
    flat_map entry_text history ++ flat_map again_text agains ++ report_text answers journal last
