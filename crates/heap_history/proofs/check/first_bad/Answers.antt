use Rattle.std.proofs.Common.{◌≢◌, ◌<◌, length, slice_index_or, arith, inl, inr, refl, sym, ap, ◌∙◌}
use Rattle.std.proofs.lemmas.Grind.{common_steps}
use Rattle.std.proofs.lemmas.Option.{slice_get-get_or}
use Rattle.heap_history.specs.declared.call.Call.TheVariants.{NewObject}
use Rattle.heap_history.specs.declared.call.Reply.TheVariants.{Made, NotThere}
use Rattle.heap_history.specs.FixedHeaps.{answer}
use Rattle.heap_history.proofs.Refusals.{step}
use Rattle.heap_history.proofs.check.first_bad.Goals as goal
use Rattle.heap_history.proofs.check.first_bad.Goals.{then-ne-via-then-ne, then-ne-via-else-ne+then-eq}

pub loop-index-preserved : goal.loop-index-preserved
loop-index-preserved c =
    let within : c.loop-index.index < length c.args.entries.now = omega arith in
    let there : c.in_ok-wanted.wanted ≢ NotThere = λ none. grind (arith, common_steps) in
    let next = step c.args.entries.now c.loop-index.index _ c.loop-index.heap c.apply.new.self c.in_ok-wanted.wanted within c.loop-index.invariant.accepted c.loop-index.invariant.is c.in_ok-wanted.ensures.reply c.in_ok-wanted.ensures.heap (grind (arith, common_steps)) there in
    record { accepted = next.0; is = next.1 }

pub returns-then-ne-clause-bad : goal.returns-then-ne-clause-bad
returns-then-ne-clause-bad c =
    let within : c.loop-index.index < length c.args.entries.now = omega arith in
    let entry = slice_index_or c.args.entries.now c.loop-index.index (record { call = NewObject 0 0 0; reply = Made }) in
    record {
      entry = entry;
      at = slice_get-get_or c.args.entries.now c.loop-index.index _ within;
      earlier = c.loop-index.invariant.accepted;
      wanted_is = sym (c.in_ok-wanted.ensures.reply ∙ ap (λ h. answer h entry.call) c.loop-index.invariant.is);
      found_is = refl;
      bad = elim c.then-ne.branch [
        | then-ne-via-then-ne w ↦ inl (grind (arith, common_steps))
        | then-ne-via-else-ne+then-eq w ↦ inr (grind (arith, common_steps))
      ];
    }
