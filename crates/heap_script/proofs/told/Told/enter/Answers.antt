use Rattle.std.proofs.Common.{arith}
use Rattle.heap_history.specs.LogLaws.{length-changes_of}
use Rattle.heap_script.proofs.told.Told.enter.Goals as goal

pub overflow_add-self : goal.overflow_add-self
overflow_add-self c =
    let room = rw (← c.self.view_is) at c.requires in
    omega (arith, room, length-changes_of c.self.inside.log.items)
