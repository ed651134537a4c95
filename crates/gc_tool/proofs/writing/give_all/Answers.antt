use Rattle.std.proofs.Common.{arith}
use Rattle.gc_tool.proofs.Known.{AppendsUpTo-more}
use Rattle.gc_tool.proofs.writing.give_all.Goals as goal

pub loop-rest-preserved : goal.loop-rest-preserved
loop-rest-preserved g c = record {
  taken = AppendsUpTo-more _ _ _ c.args.text.now c.loop-rest.rest.now c.in-Ok.count c.loop-rest.invariant.taken c.in-Ok.ensures.bytes;
  faults = omega (arith, c.in-Ok.ensures.went_well, c.loop-rest.invariant.faults);
}
