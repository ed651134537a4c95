use Rattle.std.proofs.Common.{◌*◌, ◌<◌, ◌≤◌, length, get_or, arith}
use Rattle.space_reclaim.specs.declared.plan.ObjectRow.{ObjectRow}
use Rattle.space_reclaim.specs.Plans.{begins_after}
use Rattle.space_reclaim.proofs.plans.Strip.{front_fits}
use Rattle.space_reclaim.proofs.space.Space.lay.Goals as goal
use Rattle.space_reclaim.proofs.space.Space.lay.Goals.{In-loop-object}

abbrev next : In-loop-object → ObjectRow
next c = get_or c.args.objects.now c.loop-object.object-index (record { region = 0; birth = 0; at = 0; len = 0; header = 0 })

next_fits : (c : In-loop-object) → (c.loop-object.used.strip ≤ begins_after c.loop-object.used.strip (next c).len) × (begins_after c.loop-object.used.strip (next c).len < 64 * length c.args.self.now.pool_free)
next_fits c =
    front_fits c.loop-object.used.strip (64 * length c.args.self.now.pool_free) c.args.objects.now c.loop-object.object-index (record { region = 0; birth = 0; at = 0; len = 0; header = 0 }) c.loop-object-test.true c.requires.lens c.loop-object.invariant.fits

pub job-requires-clause-room : goal.job-requires-clause-room
job-requires-clause-room c = (next_fits (goal.at.job-requires-clause-room c).In-loop-object).1

pub job-requires-clause-strip : goal.job-requires-clause-strip
job-requires-clause-strip c = omega (arith, next_fits (goal.at.job-requires-clause-strip c).In-loop-object, (goal.at.job-requires-clause-strip c).In-loop-object.requires.pool)

pub job-requires-clause-words : goal.job-requires-clause-words
job-requires-clause-words c = omega (arith, next_fits (goal.at.job-requires-clause-words c).In-loop-object)

pub with_one-used-requires-clause-strip : goal.with_one-used-requires-clause-strip
with_one-used-requires-clause-strip c = omega (arith, next_fits (goal.at.with_one-used-requires-clause-strip c).In-loop-object)

pub with_one-used-requires-clause-words : goal.with_one-used-requires-clause-words
with_one-used-requires-clause-words c = omega (arith, next_fits (goal.at.with_one-used-requires-clause-words c).In-loop-object)
