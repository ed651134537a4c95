use Rattle.std.proofs.Common.{is_some, not, ap, sym, ◌∙◌}
use Rattle.wide_objects.specs.WideWordLaws.{packed-low_bits}
use Rattle.wide_objects.proofs.wide_word.WideWord.unpack.Goals as goal

pub returns-in-1-clause-fits : goal.returns-in-1-clause-fits
returns-in-1-clause-fits c =
    packed-low_bits c.args.word (sym (ap is_some c.unpack.ensures.value) ∙ (c.is_none.ensures ∙ ap not c.if-is_none.false))

pub returns-in-2-clause-fits : goal.returns-in-2-clause-fits
returns-in-2-clause-fits c =
    packed-low_bits c.args.word (sym (ap is_some c.unpack.ensures.value) ∙ (c.is_none.ensures ∙ ap not c.if-is_none.false))
