use Rattle.std.proofs.Common.{◌≤◌, List, length, All, sym, subst, arith}
use Rattle.heap_script.specs.declared.answer.Answer.{Answer}
use Rattle.gc_tool.proofs.run.text_of.Goals as goal

pub history_report-requires-clause-answers : goal.history_report-requires-clause-answers
history_report-requires-clause-answers g c k d within =
    let few = subst (All (λ (list : List Answer). length list ≤ 65536)) (sym c.answers.ensures) c.in_ok-history.ensures.few in
    let its = few k d within in
    omega (arith, its)
