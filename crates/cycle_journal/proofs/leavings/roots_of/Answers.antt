use Rattle.std.proofs.Common.{◌≡◌, ◌+◌, ap, ◌∙◌, arith}
use Rattle.std.proofs.lemmas.Grind.{common_steps}
use Rattle.std.proofs.lemmas.List.FromFn.{map-range_with_len_more}
use Rattle.heap_words.specs.Layouts.{root_at}
use Rattle.cycle_journal.specs.LastHeaps.{value_at}
use Rattle.cycle_journal.proofs.leavings.roots_of.Goals as goal

pub loop-reg-preserved : goal.loop-reg-preserved
loop-reg-preserved c =
    let words = c.args.words.now in
    let first = root_at c.args.layout.now c.args.pass 0 in
    let reg = c.loop-reg.reg in
    let more = map-range_with_len_more (λ i. value_at words (first + i)) 0 reg reg (omega arith) in
    let same : c.root_at.result ≡ first + reg = omega (arith, c.root_at.ensures.number) in
    let here : c.value_at.result ≡ value_at words (first + reg) = c.value_at.ensures ∙ ap (value_at words) same in
    record {
      all = grind (arith, common_steps);
      told = grind (arith, common_steps, more);
    }
