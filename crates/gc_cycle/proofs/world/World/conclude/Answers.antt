use Rattle.std.proofs.Common.{◌∙◌, sym, ap, subst, arith, length}
use Rattle.std.specs.List.{All}
use Rattle.heap_words.specs.FieldWords.{IsFieldWord}
use Rattle.heap_history.specs.Logs.{changes_of}
use Rattle.barriers.specs.Records.{IsReady, with_end}
use Rattle.gc_cycle.specs.declared.sequel.Face.{Face}
use Rattle.gc_cycle.specs.Sequels.{sequel_of}
use Rattle.gc_cycle.specs.Worlds.{SequelFits}
use Rattle.gc_cycle.proofs.Playing.{stands_at}
use Rattle.gc_cycle.proofs.Settling.{sequel_fits, concluded_some}
use Rattle.gc_cycle.proofs.world.World.conclude.Goals as goal

pub what_follows-sequel-requires-clause-changes : goal.what_follows-sequel-requires-clause-changes
what_follows-sequel-requires-clause-changes g c =
    let can = c.requires.follow c.in-Some.command (sym c.command.ensures ∙ c.in-Some.is) in
    omega (arith, c.changes.ensures, ap (λ s. length (changes_of s.told.log)) c.self.view_is, can.tell.changes)

pub follow-requires-clause-tell : goal.follow-requires-clause-tell
follow-requires-clause-tell g c = (c.requires.follow c.in-Some.command (sym c.command.ensures ∙ c.in-Some.is)).tell

pub follow-requires-clause-ready : goal.follow-requires-clause-ready
follow-requires-clause-ready g c =
    let w = c.args.self.now in
    let at = stands_at w c.args.party c.self.inside.passes.items (ap (λ s. s.passes) c.self.view_is) c.index.result.now c.index.ensures c.requires.there.least c.requires.there.passes in
    subst (IsReady w.layout) (sym (c.with_end-pass.ensures ∙ ap (λ p. with_end p c.args.end) at)) (c.requires.follow c.in-Some.command (sym c.command.ensures ∙ c.in-Some.is)).ready

pub follow-requires-clause-fits : goal.follow-requires-clause-fits
follow-requires-clause-fits g c =
    let w = c.args.self.now in
    let can = c.requires.follow c.in-Some.command (sym c.command.ensures ∙ c.in-Some.is) in
    let at = stands_at w c.args.party c.self.inside.passes.items (ap (λ s. s.passes) c.self.view_is) c.index.result.now c.index.ensures c.requires.there.least c.requires.there.passes in
    let ready = subst (IsReady w.layout) (sym (c.with_end-pass.ensures ∙ ap (λ p. with_end p c.args.end) at)) can.ready in
    let registers = subst (λ (f : Face). All IsFieldWord f.registers) (sym c.face.ensures) ready.registers in
    subst SequelFits (sym c.what_follows-sequel.ensures) (sequel_fits c.changes.result c.in-Some.command c.face.result c.args.end can.fits registers c.requires.word)

pub returns-in-Some : goal.returns-in-Some
returns-in-Some g c =
    let w = c.args.self.now in
    let at = stands_at w c.args.party c.self.inside.passes.items (ap (λ s. s.passes) c.self.view_is) c.index.result.now c.index.ensures c.requires.there.least c.requires.there.passes in
    let count = c.changes.ensures ∙ ap (λ s. length (changes_of s.told.log)) c.self.view_is in
    let sequel = c.what_follows-sequel.ensures ∙ ap (λ n. sequel_of n c.in-Some.command c.face.result c.args.end) count ∙ ap (λ f. sequel_of (length (changes_of w.told.log)) c.in-Some.command f c.args.end) c.face.ensures in
    c.follow.ensures ∙ concluded_some g.P.Copier.kit w c.args.party c.args.end c.in-Some.command c.with_end-pass.result c.what_follows-sequel.result (c.with_end-pass.ensures ∙ ap (λ p. with_end p c.args.end) at) (sym c.command.ensures ∙ c.in-Some.is) sequel
