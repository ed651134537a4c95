use Rattle.std.proofs.Common.{◌≡◌, ◌↔◌, true, false, IsNone, IfSome, Option, subst, sym, arith}
use Rattle.object_headers.specs.declared.header.Header.{Header}
use Rattle.object_headers.specs.Headers.{names_header, IsHeader, word_of_header, HoldsNoHeader}
use Rattle.object_headers.specs.HeaderLaws.{header_of-true, header_of-false, header_of-none, header_of-fits, word_of_header-header_of, holds_header, read}
use Rattle.object_headers.proofs.header.Header.unpack.Goals as goal

pub returns-then-not-names_header-clause-value : goal.returns-then-not-names_header-clause-value
returns-then-not-names_header-clause-value c =
    let none : names_header c.args.word ≡ false = grind arith in
    sym (header_of-false c.args.word none)

pub returns-then-not-names_header-clause-none : goal.returns-then-not-names_header-clause-none
returns-then-not-names_header-clause-none c =
    subst (λ (r : Option Header). IsNone r ↔ HoldsNoHeader c.args.word) (sym (returns-then-not-names_header-clause-value c)) (header_of-none c.args.word)

pub colour_from-requires : goal.colour_from-requires
colour_from-requires c =
    let there : names_header c.args.word ≡ true = grind arith in
    (holds_header c.args.word there).colour

pub returns-clause-value : goal.returns-clause-value
unfolding read
returns-clause-value c =
    let there : names_header c.args.word ≡ true = grind arith in
    rw (c.state_from.ensures, c.colour_from.ensures) (sym (header_of-true c.args.word there))

pub returns-clause-none : goal.returns-clause-none
returns-clause-none c =
    subst (λ (r : Option Header). IsNone r ↔ HoldsNoHeader c.args.word) (sym (returns-clause-value c)) (header_of-none c.args.word)

pub returns-clause-fits : goal.returns-clause-fits
returns-clause-fits c =
    subst (λ (r : Option Header). IfSome r IsHeader) (sym (returns-clause-value c)) (header_of-fits c.args.word)

pub returns-clause-packs : goal.returns-clause-packs
returns-clause-packs c =
    subst (λ (r : Option Header). IfSome r (λ h. word_of_header h ≡ c.args.word)) (sym (returns-clause-value c)) (word_of_header-header_of c.args.word)
