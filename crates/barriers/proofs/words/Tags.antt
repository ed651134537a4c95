-- The collector tags an object: its header is exchanged from Plain to Tagged.
use Rattle.std.proofs.Common.{◌≡◌, ◌≢◌, ℕ, ◌==◌, true, refl, ap, sym, subst, ◌∙◌}
use prog.Atomic.{either}
use Rattle.call_steps.specs.StepLaws.{Put}
use Rattle.heap_words.specs.Layouts.{Sizes}
use Rattle.object_headers.specs.declared.change.Kind.{Kind}
use Rattle.object_headers.specs.declared.change.Kind.TheVariants as kinds
use Rattle.object_headers.specs.declared.header.Colour.{Colour}
use Rattle.object_headers.specs.Headers.{IsHeader}
use Rattle.object_headers.specs.Changes.{does_tag, AllowedChange}
use Rattle.barriers.specs.States.{State, Absent, Plain, Tagged}
use Rattle.barriers.specs.Spaces.{Space}
use Rattle.barriers.specs.Accesses.{put_state}
use Rattle.barriers.specs.Rows.{Rows}
use Rattle.barriers.specs.Says.{Notices, header_by, head_word, IsWritten, Says}
use Rattle.barriers.proofs.words.Rows.{rows_state}
use Rattle.barriers.proofs.words.Frames.{exchange_won}
use Rattle.barriers.proofs.words.Stores.{says_header}
use Rattle.barriers.proofs.words.MoveRows.{Stays, header_one}

-- the word of an object's header, in this state
abbrev pub word_as : Space → ℕ → State → ℕ
word_as s a x = head_word x (s.colour a) (s.len a) (s.birth a)

tag_allowed : (kind : Kind) (c : Colour) (i b : ℕ) → does_tag kind ≡ true → AllowedChange kind (header_by Plain c i b) (header_by Tagged c i b)
tag_allowed kinds.Stopless c i b is = ((refl, refl), refl)
tag_allowed kinds.Chicken c i b is = ((refl, refl), refl)
tag_allowed kinds.Clover c i b is = absurd (cc is)
tag_allowed kinds.AtRest c i b is = absurd (cc is)

module _ (l : Sizes) (s : Space) (rows : Rows l s.state s.len s.ends s.region) (a : ℕ) (plain : s.state a ≡ Plain) where
  there : s.state a ≢ Absent
  there e = cc (e, plain)

  pub rows_tagged : (let t = put_state s a Tagged in Rows l t.state t.len t.ends t.region)
  rows_tagged = rows_state l s.state s.len s.ends s.region rows a Tagged there (λ e. cc e)

  pub header_tagged : (kind : Kind) (b : ℕ) → does_tag kind ≡ true → Stays kind s (put_state s a Tagged) b
  header_tagged kind b does = header_one kind s a Tagged b (subst (λ x. AllowedChange kind (header_by x (s.colour a) (s.len a) (s.birth a)) (header_by Tagged (s.colour a) (s.len a) (s.birth a))) (sym plain) (tag_allowed kind (s.colour a) (s.len a) (s.birth a) does))

  module _ (m next : ℕ → ℕ) (n : Notices) (says : Says l m s n) where
    -- it finds Plain, and so never loses
    pub found_plain : m a ≡ word_as s a Plain
    found_plain = says.objects.header a there ∙ ap (word_as s a) plain

    pub says_tagged : Put m next a (either (m a == word_as s a Plain) (word_as s a Tagged) (m a)) → Says l next (put_state s a Tagged) n
    says_tagged put =
        let fits : IsHeader (header_by Plain (s.colour a) (s.len a) (s.birth a)) = subst (λ x. IsHeader (header_by x (s.colour a) (s.len a) (s.birth a))) plain (says.objects.header_fits a there) in
        says_header l m next s n rows says a Tagged there (λ w. subst IsWritten (sym plain) tt) (record { len = fits.len; birth = fits.birth; target = fits.target; state = fits.state }) (exchange_won m next a (word_as s a Plain) (word_as s a Tagged) found_plain put)
