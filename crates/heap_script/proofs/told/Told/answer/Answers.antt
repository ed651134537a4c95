use Rattle.std.proofs.Common.{◌-◌, ◌<◌, length, arith, refl}
use Rattle.std.proofs.lemmas.List.{length-map}
use Rattle.heap_script.proofs.ToldLists.{answer_kept, room_kept}
use Rattle.heap_script.proofs.told.Told.answer.Goals as goal

pub returns : goal.returns
returns c =
    let most = rw (← c.self.view_is, length-map) at c.requires.most in
    let within : c.args.thread - 1 < length c.self.inside.answers.lists.items = omega (arith, most) in
    let answers = answer_kept (λ list. list.items) c.self.inside.answers.lists.items (c.args.thread - 1) c.index_mut.result.now c.push_reserved.new.self c.args.answer within c.index_mut.ensures.value c.push_reserved.ensures.items in
    let rooms = room_kept (λ list. list.cap) c.self.inside.answers.lists.items (c.args.thread - 1) c.index_mut.result.now c.push_reserved.new.self c.index_mut.ensures.value c.push_reserved.ensures.capacity in
    rw (← c.self.view_is, answers, rooms) refl
