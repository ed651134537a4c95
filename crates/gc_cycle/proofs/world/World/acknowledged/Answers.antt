use Rattle.std.proofs.Common.{ap}
use Rattle.gc_cycle.proofs.Showing.{acknowledged_by}
use Rattle.gc_cycle.proofs.world.World.acknowledged.Goals as goal

pub returns-clause-word : goal.returns-clause-word
returns-clause-word g c =
    let its = acknowledged_by g.P.Copier.kit c.args.self.now c.requires.lawful c.args.thread c.requires.thread c.self.inside.passes.items (ap (λ w. w.passes) c.self.view_is) c.index.result.now c.index.ensures in
    its.word_is

pub returns-clause-retired : goal.returns-clause-retired
returns-clause-retired g c =
    let its = acknowledged_by g.P.Copier.kit c.args.self.now c.requires.lawful c.args.thread c.requires.thread c.self.inside.passes.items (ap (λ w. w.passes) c.self.view_is) c.index.result.now c.index.ensures in
    its.retired

pub returns-clause-running : goal.returns-clause-running
returns-clause-running g c =
    let its = acknowledged_by g.P.Copier.kit c.args.self.now c.requires.lawful c.args.thread c.requires.thread c.self.inside.passes.items (ap (λ w. w.passes) c.self.view_is) c.index.result.now c.index.ensures in
    its.running

pub returns-clause-passed : goal.returns-clause-passed
returns-clause-passed g c =
    let its = acknowledged_by g.P.Copier.kit c.args.self.now c.requires.lawful c.args.thread c.requires.thread c.self.inside.passes.items (ap (λ w. w.passes) c.self.view_is) c.index.result.now c.index.ensures in
    its.passed
