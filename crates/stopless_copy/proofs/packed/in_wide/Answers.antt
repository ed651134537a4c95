use Rattle.std.proofs.Common.{ap, subst, sym, ◌∙◌, ℕ}
use Rattle.heap_words.specs.FieldWords.{IsFieldWord, word_of, field_at}
use Rattle.wide_objects.specs.declared.wide_word.Status2.TheVariants as kinds
use Rattle.wide_objects.specs.WideWords.{word_of_wide}
use Rattle.wide_objects.specs.Statuses.{InWide}
use Rattle.wide_objects.specs.StatusLaws.{word_of_wide-wide_of_status}
use Rattle.stopless_copy.specs.WideLaws.{field_at-fits}
use Rattle.stopless_copy.proofs.packed.in_wide.Goals as goal

pub pack-requires : goal.pack-requires
pack-requires c = subst IsFieldWord (sym c.held_by.ensures) (field_at-fits c.args.word)

pub returns : goal.returns
returns c =
    c.pack-2.ensures.word
    ∙ (ap (λ (low : ℕ). word_of_wide (record { status = kinds.InWide; word = low })) (c.pack.ensures.word ∙ ap word_of c.held_by.ensures)
    ∙ word_of_wide-wide_of_status (InWide (field_at c.args.word)))
