use Rattle.std.proofs.Common.{◌+◌, arith}
use Rattle.std.proofs.lemmas.Grind.{common_steps}
use Rattle.std.proofs.lemmas.List.FromFn.{map-range_with_len_more}
use Rattle.heap_words.specs.Layouts.{root_at}
use Rattle.heap_words.specs.declared.limits.TheConstants.{REGISTERS}
use Rattle.cycle_journal.specs.LastHeaps.{values_at}
use Rattle.cycle_journal.proofs.leavings.all_roots.Goals as goal

pub loop-pass-preserved : goal.loop-pass-preserved
loop-pass-preserved c =
    let more = map-range_with_len_more (λ pass. values_at c.args.words.now (root_at c.args.layout.now pass 0) REGISTERS) 1 c.loop-pass.pass (c.loop-pass.pass + 1) (omega arith) in
    grind (arith, common_steps, more)
