use Rattle.std.proofs.Common.{◌≡◌, ◌↔◌, true, false, IsNone, IfSome, Option, subst, sym, arith}
use Rattle.handshakes.specs.declared.phase_word.PhaseWord.{PhaseWord}
use Rattle.handshakes.specs.PhaseWords.{names_phase, IsPhaseWord, word_of_phase, HoldsNoPhase}
use Rattle.handshakes.specs.PhaseWordLaws.{phase_word_of-true, phase_word_of-false, phase_word_of-none, phase_word_of-fits, word_of_phase-phase_word_of, holds_phase, read}
use Rattle.handshakes.proofs.phase_word.PhaseWord.unpack.Goals as goal

pub returns-then-not-names_phase-clause-value : goal.returns-then-not-names_phase-clause-value
returns-then-not-names_phase-clause-value c =
    let none : names_phase c.args.word ≡ false = grind arith in
    sym (phase_word_of-false c.args.word none)

pub returns-then-not-names_phase-clause-none : goal.returns-then-not-names_phase-clause-none
returns-then-not-names_phase-clause-none c =
    subst (λ (r : Option PhaseWord). IsNone r ↔ HoldsNoPhase c.args.word) (sym (returns-then-not-names_phase-clause-value c)) (phase_word_of-none c.args.word)

pub phase_from-requires : goal.phase_from-requires
phase_from-requires c =
    let there : names_phase c.args.word ≡ true = grind arith in
    (holds_phase c.args.word there).phase

pub returns-clause-value : goal.returns-clause-value
unfolding read
returns-clause-value c =
    let there : names_phase c.args.word ≡ true = grind arith in
    rw c.phase_from.ensures (sym (phase_word_of-true c.args.word there))

pub returns-clause-none : goal.returns-clause-none
returns-clause-none c =
    subst (λ (r : Option PhaseWord). IsNone r ↔ HoldsNoPhase c.args.word) (sym (returns-clause-value c)) (phase_word_of-none c.args.word)

pub returns-clause-fits : goal.returns-clause-fits
returns-clause-fits c =
    subst (λ (r : Option PhaseWord). IfSome r IsPhaseWord) (sym (returns-clause-value c)) (phase_word_of-fits c.args.word)

pub returns-clause-packs : goal.returns-clause-packs
returns-clause-packs c =
    subst (λ (r : Option PhaseWord). IfSome r (λ p. word_of_phase p ≡ c.args.word)) (sym (returns-clause-value c)) (word_of_phase-phase_word_of c.args.word)
