use Rattle.std.proofs.Common.{◌≡◌, ◌+◌, get_or, drop, refl, ap, ◌∙◌, arith}
use Rattle.gc_cycle.specs.Steppings.{stepping_of}
use Rattle.gc_cycle.specs.Worlds.{can_step, played, steps_in}
use Rattle.gc_cycle.proofs.Playing.{played-next, steps_in-next, said-took, said-other, count_of, count_of-most}
use Rattle.gc_cycle.proofs.world.World.play.Goals as goal
use Rattle.gc_cycle.proofs.world.World.play.Goals.{then-matches, else-matches, in-Took, in_default}

pub loop-party-preserved : goal.loop-party-preserved
loop-party-preserved g c =
    let by = stepping_of g.P.Read.Machine.asks g.P.Write.Machine.asks g.P.Exchange.Machine.asks g.P.Move.Machine.asks g.P.Read.Machine.fed g.P.Write.Machine.fed g.P.Exchange.Machine.fed g.P.Move.Machine.fed g.P.Read.Watched.front g.P.Write.Watched.front g.P.Exchange.Watched.front g.P.Read.CallMachine.steps_left g.P.Write.CallMachine.steps_left g.P.Exchange.CallMachine.steps_left in
    let kit = g.P.Copier.kit in
    let w = c.loop-party.self in
    let parties = c.args.parties.now in
    let i = c.loop-party.party-index in
    let party = get_or parties i 0 in
    let taken : c.if-matches.steps ≡ c.loop-party.steps + count_of (can_step kit by w party) = elim c.if-matches.branch [
      | then-matches t ↦ elim c.match-matches.branch [
        | in-Took v ↦ omega (arith, t.steps-is, said-took _ _ _ _ _ c.turn.ensures.said v.in-Took.is)
        | in_default v ↦ absurd (cc (t.if-matches.true, v.matches-is))
      ]
      | else-matches t ↦ elim c.match-matches.branch [
        | in-Took v ↦ absurd (cc (t.if-matches.false, v.matches-is))
        | in_default v ↦ omega (arith, t.steps-is, said-other _ _ _ _ c.turn.ensures.said v.in_default.not-Took)
      ]
    ] in
    let left = played-next kit by w parties i party c.loop-party-test.true refl in
    let more = steps_in-next kit by w parties i party c.loop-party-test.true refl in
    let same = ap (λ s. steps_in kit by s (drop (i + 1) parties)) c.turn.ensures.turn in
    record {
      lawful = c.turn.ensures.lawful;
      layout = c.turn.ensures.layout ∙ c.loop-party.invariant.layout;
      turns = ap (λ s. played kit by s (drop (i + 1) parties)) c.turn.ensures.turn ∙ left ∙ c.loop-party.invariant.turns;
      count = omega (arith, taken, same, more, c.loop-party.invariant.count);
      few = omega (arith, taken, count_of-most (can_step kit by w party), c.loop-party.invariant.few);
    }
