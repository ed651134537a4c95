use Rattle.std.proofs.Common.{◌+◌, arith}
use Rattle.std.proofs.lemmas.Grind.{common_steps}
use Rattle.std.proofs.lemmas.List.FromFn.{map-range_with_len_more}
use Rattle.cycle_journal.specs.LastHeaps.{value_at}
use Rattle.cycle_journal.proofs.walk.values_at.Goals as goal

pub loop-i-preserved : goal.loop-i-preserved
loop-i-preserved c = let more = map-range_with_len_more (λ i. value_at c.args.words.now (c.args.at + i)) 0 c.loop-i.i c.loop-i.i (omega arith) in grind (arith, common_steps, more)
