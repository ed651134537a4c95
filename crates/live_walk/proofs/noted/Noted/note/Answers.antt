use Rattle.std.proofs.Common.{◌≡◌, ap, ◌∙◌, sym, subst, arith}
use Rattle.heap_words.specs.Layouts.{IsLayout}
use Rattle.live_walk.specs.declared.note.Finding.{Finding}
use Rattle.live_walk.specs.Walks.{fed_of, finding_of}
use Rattle.live_walk.specs.Notes.{Notes, with_one}
use Rattle.live_walk.specs.Noting.{IsNoting}
use Rattle.live_walk.proofs.Keeping.{noting_kept, noted_planned}
use Rattle.live_walk.proofs.Rooms.{same_notes, free_room, region_room, object_room}
use Rattle.live_walk.proofs.noted.Noted.note.Goals as goal

pub push_one-requires : goal.push_one-requires
push_one-requires c = λ k some.
    let is = subst (IsNoting c.args.machine.now) (sym c.self.view_is) c.requires.noting in
    let tells = ap (λ (f : Finding). f.free) (sym c.finding-finding.ensures.value) ∙ some in
    omega (arith, free_room _ c.args.machine.now c.args.found k is tells, c.self.invariant.pool_free, c.self.inside.pool_free.ok.0)

pub push_one-requires-2 : goal.push_one-requires-2
push_one-requires-2 c = λ o some.
    let is = subst (IsNoting c.args.machine.now) (sym c.self.view_is) c.requires.noting in
    let tells = ap (λ (f : Finding). f.object) (sym c.finding-finding.ensures.value) ∙ some in
    omega (arith, object_room _ c.args.machine.now c.args.found o c.self.invariant.layout is tells, c.self.invariant.objects, c.self.inside.objects.ok.0)

pub push_one-requires-3 : goal.push_one-requires-3
push_one-requires-3 c = λ r some.
    let is = subst (IsNoting c.args.machine.now) (sym c.self.view_is) c.requires.noting in
    let tells = ap (λ (f : Finding). f.region) (sym c.finding-finding.ensures.value) ∙ some in
    omega (arith, region_room _ c.args.machine.now c.args.found r is tells, c.self.invariant.live, c.self.inside.live.ok.0)

pub returns-clause-noted : goal.returns-clause-noted
returns-clause-noted c = same_notes _ _
    (ap (λ (n : Notes). n.layout) c.self.view_is)
    (c.push_one-3.ensures.items ∙ (ap (λ (f : Finding). with_one c.self.inside.live.items f.region) c.finding-finding.ensures.value ∙ ap (λ (n : Notes). with_one n.live (finding_of c.args.machine.now c.args.found).region) c.self.view_is))
    (c.push_one-2.ensures.items ∙ (ap (λ (f : Finding). with_one c.self.inside.objects.items f.object) c.finding-finding.ensures.value ∙ ap (λ (n : Notes). with_one n.objects (finding_of c.args.machine.now c.args.found).object) c.self.view_is))
    (c.push_one.ensures.items ∙ (ap (λ (f : Finding). with_one c.self.inside.pool_free.items f.free) c.finding-finding.ensures.value ∙ ap (λ (n : Notes). with_one n.pool_free (finding_of c.args.machine.now c.args.found).free) c.self.view_is))

pub returns-clause-kept : goal.returns-clause-kept
returns-clause-kept c =
    let fits = subst (λ (n : Notes). IsLayout n.layout) c.self.view_is c.self.invariant.layout in
    subst (IsNoting (fed_of c.args.machine.now c.args.found)) (sym (returns-clause-noted c))
    (noting_kept c.args.machine.now c.args.self.now c.args.found fits c.requires.going c.requires.noting)

pub returns-clause-planned : goal.returns-clause-planned
returns-clause-planned c = λ ended. noted_planned _ _ ended (returns-clause-kept c)
