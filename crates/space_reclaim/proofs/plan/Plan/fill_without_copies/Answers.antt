use Rattle.std.proofs.Common.{◌<◌, length, arith, length-drop, vec_len, vec_capacity}
use Rattle.heap_words.specs.Layouts.{regions_of}
use Rattle.space_reclaim.proofs.plans.Rising.{length-rising}
use Rattle.space_reclaim.proofs.plan.Plan.fill_without_copies.Goals as goal

pub push_reserved-requires : goal.push_reserved-requires
push_reserved-requires c =
    omega (arith, length-rising (λ r. r.region) c.args.rows.now (regions_of c.args.self.now.layout) c.requires.rises c.requires.regions, c.loop-row.invariant.few, length-drop c.loop-row.row-index c.args.rows.now, c.loop-row-test.true, c.loop-row.invariant.room.chosen, c.loop-row.self-inside.chosen.ok.0)
