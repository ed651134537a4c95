use Rattle.std.proofs.Common.{arith}
use Rattle.space_reclaim.proofs.plans.Strip.{length-le-words_of}
use Rattle.space_reclaim.proofs.space.Space.used_with.Goals as goal

pub with_all-after-requires-clause-few : goal.with_all-after-requires-clause-few
with_all-after-requires-clause-few c = omega (arith, length-le-words_of c.args.objects.now)
