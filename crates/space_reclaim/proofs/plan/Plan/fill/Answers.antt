use Rattle.std.proofs.Common.{◌≡◌, ◌++◌, length, arith, subst, sym, ap, ◌∙◌}
use Rattle.std.proofs.lemmas.List.Sums.{prefix_len-le-length}
use Rattle.heap_words.specs.Layouts.{regions_of}
use Rattle.space_reclaim.specs.Plans.{Planned, space_of, plan_of}
use Rattle.space_reclaim.specs.PlanMeanings.{EmptiesChosen, AreCopiesApart, FillsTargets, AreLaidInOrder, AreWideLaid, HasNoWide}
use Rattle.space_reclaim.proofs.plans.Chosen.{plan-empties, plan-copies, plan-targets, plan-laid, plan-wide, plan-narrow}
use Rattle.space_reclaim.proofs.plans.Rising.{length-rising}
use Rattle.space_reclaim.proofs.plans.Progress.{planned_at, own_words, planned_is, begun_few, planned_to-none, planned_to-some, count_with}
use Rattle.space_reclaim.proofs.plan.Plan.fill.Goals as goal
use Rattle.space_reclaim.proofs.plan.Plan.fill.Goals.{in-Some, in_default}

pub split_at-requires : goal.split_at-requires
split_at-requires c = rw c.count_in.ensures (prefix_len-le-length _ c.loop-row.rest.now)

pub used_with-requires-clause-words : goal.used_with-requires-clause-words
used_with-requires-clause-words c =
    rw (c.split_at.ensures.front, c.count_in.ensures) (own_words (planned_at c.loop-row.row-index (record { region = 0; words = 0 }) c.loop-row.invariant.progress c.loop-row-test.true))

pub used_with-requires-clause-pool : goal.used_with-requires-clause-pool
used_with-requires-clause-pool c =
    omega (arith, length-rising (λ region. region) c.args.pool_free.now c.args.self.now.layout.pool c.requires.space.pool_rises c.requires.space.in_pool, c.loop-row.invariant.room.layout.pool)

pub lay-requires-clause-pool : goal.lay-requires-clause-pool
lay-requires-clause-pool c =
    omega (arith, length-rising (λ region. region) c.args.pool_free.now c.args.self.now.layout.pool c.requires.space.pool_rises c.requires.space.in_pool, c.loop-row.invariant.room.layout.pool)

pub push_reserved-requires : goal.push_reserved-requires
push_reserved-requires c =
    let p = planned_at c.loop-row.row-index (record { region = 0; words = 0 }) c.loop-row.invariant.progress c.loop-row-test.true in
    omega (arith, length-rising (λ r. r.region) c.args.rows.now (regions_of c.args.self.now.layout) c.requires.found.regions_rise c.requires.found.are_regions, p.few, c.loop-row.invariant.room.chosen, c.loop-row.self-inside.chosen.ok.0)

pub lay-requires-clause-room : goal.lay-requires-clause-room
lay-requires-clause-room c =
    let p = planned_at c.loop-row.row-index (record { region = 0; words = 0 }) c.loop-row.invariant.progress c.loop-row-test.true in
    let after = planned_to-some p c.used_with.result c.in-Some.after (rw (c.split_at.ensures.front, c.count_in.ensures) at c.used_with.ensures) c.in-Some.is in
    rw (c.split_at.ensures.front, c.count_in.ensures) (omega (arith, after.count, after.room, count_with p, length-rising (λ region. region) c.args.pool_free.now c.args.self.now.layout.pool c.requires.space.pool_rises c.requires.space.in_pool, c.loop-row.invariant.room.jobs, c.loop-row.self-inside.jobs.ok.0))

pub add_regions-requires : goal.add_regions-requires
add_regions-requires c =
    let p = c.loop-row.invariant.progress in
    let none = ap length c.loop-row.invariant.targets in
    rw c.begun.ensures (omega (arith, none, begun_few c.loop-row.used.strip c.args.pool_free.now p.room, length-rising (λ region. region) c.args.pool_free.now c.args.self.now.layout.pool c.requires.space.pool_rises c.requires.space.in_pool, c.loop-row.invariant.room.targets, c.loop-row.self-inside.targets.ok.0))

pub loop-row-preserved : goal.loop-row-preserved
loop-row-preserved c =
    let p = planned_at c.loop-row.row-index (record { region = 0; words = 0 }) c.loop-row.invariant.progress c.loop-row-test.true in
    let says = rw (c.split_at.ensures.front, c.count_in.ensures) at c.used_with.ensures in
    elim c.match-used_with.branch [
      | in-Some w ↦ record {
        progress = rw (w.self-inside-is, w.used-is, c.split_at.ensures.back, c.count_in.ensures, w.push_reserved.ensures.items, w.lay.ensures.jobs, c.split_at.ensures.front, c.count_in.ensures) (planned_to-some p c.used_with.result w.in-Some.after says w.in-Some.is);
        layout = rw w.self-inside-is c.loop-row.invariant.layout;
        targets = rw w.self-inside-is c.loop-row.invariant.targets;
        room = rw (w.self-inside-is, w.push_reserved.ensures.capacity, w.lay.ensures.room) c.loop-row.invariant.room;
      }
      | in_default w ↦ record {
        progress = rw (w.self-inside-is, w.used-is, c.split_at.ensures.back, c.count_in.ensures) (planned_to-none p c.used_with.result says w.in_default.is);
        layout = rw w.self-inside-is c.loop-row.invariant.layout;
        targets = rw w.self-inside-is c.loop-row.invariant.targets;
        room = rw w.self-inside-is c.loop-row.invariant.room;
      }
    ]

pub returns-clause-plan : goal.returns-clause-plan
returns-clause-plan c =
    let same = ap (λ (plan : Planned). plan.layout) c.self.view_is ∙ ap (λ (plan : Planned). plan.layout) c.forget.ensures in
    subst (λ l. record { layout = c.loop-row.self-inside.layout; chosen = c.loop-row.self-inside.chosen.items; targets = c.add_regions.new.list.items; jobs = c.loop-row.self-inside.jobs.items; wide_words = c.wide_words-self-inside.result } ≡ plan_of (space_of l c.args.pool_free.now c.args.wide_free c.args.kind) c.args.rows.now c.args.objects.now) same
    (planned_is c.loop-row.row-index c.loop-row.self-inside.layout c.add_regions.new.list.items c.wide_words-self-inside.result c.loop-row.invariant.progress c.loop-row-test.false
    (c.loop-row.invariant.layout ∙ sym same)
    (c.add_regions.ensures.regions ∙ (ap (λ before. before ++ c.begun.result.now) c.loop-row.invariant.targets ∙ c.begun.ensures))
    c.wide_words-self-inside.ensures)

pub returns-clause-empties : goal.returns-clause-empties
returns-clause-empties c =
    subst (EmptiesChosen c.args.rows.now c.args.objects.now) (sym (returns-clause-plan c))
    (plan-empties (space_of c.args.self.now.layout c.args.pool_free.now c.args.wide_free c.args.kind) c.args.rows.now c.args.objects.now c.requires.space c.requires.found)

pub returns-clause-copies : goal.returns-clause-copies
returns-clause-copies c =
    subst (λ (plan : Planned). AreCopiesApart (space_of c.args.self.now.layout c.args.pool_free.now c.args.wide_free c.args.kind) plan.jobs) (sym (returns-clause-plan c))
    (plan-copies (space_of c.args.self.now.layout c.args.pool_free.now c.args.wide_free c.args.kind) c.args.rows.now c.args.objects.now c.requires.space c.requires.found)

pub returns-clause-targets : goal.returns-clause-targets
returns-clause-targets c =
    subst (FillsTargets (space_of c.args.self.now.layout c.args.pool_free.now c.args.wide_free c.args.kind)) (sym (returns-clause-plan c))
    (plan-targets (space_of c.args.self.now.layout c.args.pool_free.now c.args.wide_free c.args.kind) c.args.rows.now c.args.objects.now c.requires.space c.requires.found)

pub returns-clause-laid : goal.returns-clause-laid
returns-clause-laid c =
    subst (λ (plan : Planned). AreLaidInOrder (space_of c.args.self.now.layout c.args.pool_free.now c.args.wide_free c.args.kind) plan.jobs) (sym (returns-clause-plan c))
    (plan-laid (space_of c.args.self.now.layout c.args.pool_free.now c.args.wide_free c.args.kind) c.args.rows.now c.args.objects.now c.requires.space c.requires.found)

pub returns-clause-wide : goal.returns-clause-wide
returns-clause-wide c = λ stopless.
    subst (AreWideLaid (space_of c.args.self.now.layout c.args.pool_free.now c.args.wide_free c.args.kind)) (sym (returns-clause-plan c))
    (plan-wide (space_of c.args.self.now.layout c.args.pool_free.now c.args.wide_free c.args.kind) c.args.rows.now c.args.objects.now c.requires.space c.requires.found stopless)

pub returns-clause-narrow : goal.returns-clause-narrow
returns-clause-narrow c = λ other.
    subst HasNoWide (sym (returns-clause-plan c))
    (plan-narrow (space_of c.args.self.now.layout c.args.pool_free.now c.args.wide_free c.args.kind) c.args.rows.now c.args.objects.now c.requires.space c.requires.found other)
