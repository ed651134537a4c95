use Rattle.std.proofs.Common.{◌≡◌, ◌++◌, take}
use Rattle.std.specs.List.{flat_map}
use Rattle.heap_report.specs.Entries.{entry_text}
use Rattle.heap_report.specs.Answers.{again_text}
use Rattle.heap_report.proofs.reports.push_history.Given as goal

abbrev pub invariant-loop-entry : goal.invariant-loop-entry
invariant-loop-entry l = l.out.items ≡ l.initial.out.items ++ flat_map entry_text (take l.entry-index l.history)

abbrev pub invariant-loop-again : goal.invariant-loop-again
invariant-loop-again l = l.out.items ≡ l.initial.out.items ++ flat_map again_text (take l.again-index l.agains)
