use Rattle.std.proofs.Common.{◌≡◌, ◌+◌, ◌++◌, drop, map}
use Rattle.heap_report.specs.Answers.{all_answers_text}
use Rattle.heap_report.proofs.answers.push_all_answers.Given as goal

abbrev pub invariant-loop-answers : goal.invariant-loop-answers
invariant-loop-answers l = record {
  number : l.thread ≡ l.answers-index + 1;
  told : l.out.items ++ all_answers_text l.thread (map (λ list. list.items) (drop l.answers-index l.lists)) ≡ l.fn.out.items ++ all_answers_text 1 (map (λ list. list.items) l.lists);
}
