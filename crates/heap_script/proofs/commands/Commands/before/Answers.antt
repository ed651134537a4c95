use Rattle.std.proofs.Common.{◌∙◌}
use Rattle.heap_script.proofs.CommandLists.{before-kept}
use Rattle.heap_script.proofs.commands.Commands.before.Goals as goal

pub returns : goal.returns
returns c = (rw c.deref.ensures.value at c.count_all.ensures) ∙ before-kept (λ list. list.items) c.self.inside.lists.items c.args.self.now c.args.thread c.self.view_is
