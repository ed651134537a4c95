use Rattle.std.proofs.Common.{◌≡◌, ◌<◌, [], length, map, get_or, arith, ap, sym, ◌∙◌}
use Rattle.std.proofs.lemmas.List.{get_or-map, length-map}
use Rattle.heap_report.proofs.answers.push_all_answers.Goals as goal

-- the thread's answers are one of the lists
pub push_answers-requires : goal.push_answers-requires
push_answers-requires c =
    let lists = c.args.lists.now in
    let i = c.loop-answers.answers-index in
    let d = c.answers-item.result in
    let inside : i < length (map (λ list. list.items) lists) = rw length-map c.loop-answers-test.true in
    let short = c.requires.answers i [] inside in
    let item : get_or (map (λ list. list.items) lists) i [] ≡ d.items =
    get_or-map (λ list. list.items) lists i d [] c.loop-answers-test.true ∙ ap (λ list. list.items) (sym c.answers-item.is) in
    omega (arith, short, ap length item, c.deref.ensures.len, ap length c.deref.ensures.value)
