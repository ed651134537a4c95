use Rattle.std.proofs.Common.{◌≡◌, ◌+◌, ◌++◌, drop}
use Rattle.heap_report.specs.Answers.{answers_text}
use Rattle.heap_report.proofs.answers.push_answers.Given as goal

abbrev pub invariant-loop-answer : goal.invariant-loop-answer
invariant-loop-answer l = record {
  number : l.k ≡ l.answer-index + 1;
  told : l.out.items ++ answers_text l.thread l.k (drop l.answer-index l.answers) ≡ l.fn.out.items ++ answers_text l.thread 1 l.answers;
}
