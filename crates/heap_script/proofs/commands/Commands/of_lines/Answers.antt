use Rattle.std.proofs.Common.{arith}
use Rattle.heap_script.proofs.CommandLists.{push_commands, length-kept, total-kept}
use Rattle.heap_script.proofs.commands.Commands.of_lines.Goals as goal

pub loop-thread-preserved : goal.loop-thread-preserved
loop-thread-preserved c =
    push_commands (λ list. list.items) c.loop-thread.lists.items c.push.new.self.items c.in_ok-list.list c.loop-thread.thread c.args.lines.now
    c.in_ok-push.ensures.items c.loop-thread.invariant c.in_ok-list.ensures

pub invariant_of-result : goal.invariant_of-result
invariant_of-result c =
    let count = length-kept (λ list. list.items) _ _ _ c.loop-thread.invariant in
    let all = total-kept (λ list. list.items) _ _ _ c.loop-thread.invariant in
    (omega (arith, count), omega (arith, all))
