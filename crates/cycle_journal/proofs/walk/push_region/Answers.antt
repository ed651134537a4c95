use Rattle.std.proofs.Common.{◌≡◌, ◌≢◌, ◌+◌, slice_index, ap, ◌∙◌, sym, arith}
use Rattle.object_headers.specs.declared.header.Header.{Header}
use Rattle.object_headers.specs.Headers.{header_at}
use Rattle.cycle_journal.specs.LastHeaps.{next_after}
use Rattle.cycle_journal.specs.Lines.{lines_of}
use Rattle.cycle_journal.proofs.Walks.{over_at_end, over_at_zero, tells_on, told_all}
use Rattle.cycle_journal.proofs.walk.push_region.Goals as goal

pub loop-at-preserved : goal.loop-at-preserved
loop-at-preserved c =
    let words = c.args.words.now in
    let end = c.first_word-first.result + 64 in
    let at = c.loop-at.at in
    let header : c.header_at-header.result ≡ header_at (slice_index words at) = c.header_at-header.ensures.header ∙ ap header_at c.word_at-in-loop-at.ensures in
    let len = ap (λ (h : Header). h.len) header in
    let next : at + (c.header_at-header.result.len + 1) ≡ next_after words at = omega arith in
    let some : slice_index words at ≢ 0 = λ zero. c.if-word_at-ne0.true (c.word_at.ensures ∙ zero) in
    record {
      most = omega arith;
      told = tells_on words end (lines_of c.loop-at.lines.items) (lines_of c.push_object.new.lines.items) _ at (at + (c.header_at-header.result.len + 1)) next c.loop-at-test.true some c.in_ok-push_object.ensures c.loop-at.invariant.told;
    }

pub returns-else-word_at-ne0 : goal.returns-else-word_at-ne0
returns-else-word_at-ne0 c =
    let zero : slice_index c.args.words.now c.loop-at.at ≡ 0 = sym c.word_at.ensures ∙ c.if-word_at-ne0.false in
    told_all c.args.words.now (c.first_word-first.result + 64) (lines_of c.loop-at.lines.items) _ c.loop-at.at (over_at_zero c.args.words.now (c.first_word-first.result + 64) c.loop-at.at zero) c.loop-at.invariant.told

pub returns-after-loop-at : goal.returns-after-loop-at
returns-after-loop-at c =
    told_all c.args.words.now (c.first_word-first.result + 64) (lines_of c.loop-at.lines.items) _ c.loop-at.at (over_at_end c.args.words.now (c.first_word-first.result + 64) c.loop-at.at c.loop-at-test.false) c.loop-at.invariant.told
