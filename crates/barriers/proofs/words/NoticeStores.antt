-- Stores before the regions: the phase word, the mark word, acknowledgements and root words.
use Rattle.std.proofs.Common.{◌≡◌, ◌≢◌, ℕ, ◌<◌, inl, inr, arith, ap, sym, subst, ◌∙◌}
use Rattle.call_steps.specs.StepLaws.{Put}
use Rattle.heap_words.specs.Layouts.{Sizes, IsPass, phase_at, mark_at, ack_at, root_at, region_at, first_word, wide_at, words_of}
use Rattle.heap_words.specs.declared.field_word.FieldWord.{FieldWord}
use Rattle.heap_words.specs.FieldWords.{IsFieldWord, word_of}
use Rattle.barriers.specs.Spaces.{Space}
use Rattle.barriers.specs.Rows.{Rows}
use Rattle.barriers.specs.Says.{Notices, SayNotices, Says, put_ack, put_root}
use Rattle.barriers.proofs.words.Sets.{set_cases, set2_cases}
use Rattle.barriers.proofs.words.Frames.{put_before, same_regions, same_objects, same_clear, same_wide}

module _ (l : Sizes) (m next : ℕ → ℕ) (s : Space) (n : Notices) (rows : Rows l s.state s.len s.ends s.region) (says : Says l m s n) where
  -- all from the region words on stays
  pub says_notice : (at x : ℕ) (o : Notices) → at < region_at l 0 → Put m next at x → SayNotices l next o → Says l next s o
  says_notice at x o lt put new = record {
    notices = new;
    regions = same_regions l m next s.region (put_before (region_at l 0) (first_word l 0) put lt) says.regions;
    objects = same_objects l m next s rows (put_before (first_word l 0) (wide_at l) put (omega (arith, lt))) says.objects;
    clear = same_clear l m next s.ends (put_before (first_word l 0) (wide_at l) put (omega (arith, lt))) says.clear;
    wide = same_wide l m next s (put_before (wide_at l) (words_of l) put (omega (arith, lt))) says.wide;
  }

  abbrev was : SayNotices l m n
  was = says.notices

  pub says_phase : (x : ℕ) → Put m next phase_at x → Says l next s (record n { phase = x })
  says_phase x put = says_notice phase_at x (record n { phase = x }) (omega arith) put (record {
    phase = put.here;
    mark = put.elsewhere mark_at (λ e. omega (arith, e)) ∙ was.mark;
    ack = λ pass h. put.elsewhere (ack_at pass) (λ e. omega (arith, e)) ∙ was.ack pass h;
    root = λ pass reg h lt. put.elsewhere (root_at l pass reg) (λ e. omega (arith, e)) ∙ was.root pass reg h lt;
    root_fits = was.root_fits;
  })

  pub says_mark : (x : ℕ) → Put m next mark_at x → Says l next s (record n { mark = x })
  says_mark x put = says_notice mark_at x (record n { mark = x }) (omega arith) put (record {
    phase = put.elsewhere phase_at (λ e. omega (arith, e)) ∙ was.phase;
    mark = put.here;
    ack = λ pass h. put.elsewhere (ack_at pass) (λ e. omega (arith, e)) ∙ was.ack pass h;
    root = λ pass reg h lt. put.elsewhere (root_at l pass reg) (λ e. omega (arith, e)) ∙ was.root pass reg h lt;
    root_fits = was.root_fits;
  })

  pub says_ack : (pass x : ℕ) → IsPass l pass → Put m next (ack_at pass) x → Says l next s (put_ack n pass x)
  says_ack pass x is put = says_notice (ack_at pass) x (put_ack n pass x) (omega (arith, is.0, is.1)) put (record {
    phase = put.elsewhere phase_at (λ e. omega (arith, e)) ∙ was.phase;
    mark = put.elsewhere mark_at (λ e. omega (arith, e, is.0)) ∙ was.mark;
    ack = λ p h. elim (set_cases n.ack pass p x) [
      | inl q ↦ ap (λ i. next (ack_at i)) q.0 ∙ (put.here ∙ sym q.1)
      | inr q ↦ put.elsewhere (ack_at p) (λ e. q.0 (omega (arith, e))) ∙ (was.ack p h ∙ sym q.1)
    ];
    root = λ p reg h lt. put.elsewhere (root_at l p reg) (λ e. omega (arith, e, is.1)) ∙ was.root p reg h lt;
    root_fits = was.root_fits;
  })

  pub says_root : (pass reg : ℕ) (w : FieldWord) → IsPass l pass → reg < 8 → IsFieldWord w → Put m next (root_at l pass reg) (word_of w) → Says l next s (put_root n pass reg w)
  says_root pass reg w is few fits put = says_notice (root_at l pass reg) (word_of w) (put_root n pass reg w) (omega (arith, is.0, is.1, few)) put (record {
    phase = put.elsewhere phase_at (λ e. omega (arith, e)) ∙ was.phase;
    mark = put.elsewhere mark_at (λ e. omega (arith, e)) ∙ was.mark;
    ack = λ p h. put.elsewhere (ack_at p) (λ e. omega (arith, e, h.1)) ∙ was.ack p h;
    root = λ p r h lt. elim (set2_cases n.root pass reg w p r) [
      | inl q ↦ ap (λ i. next (root_at l i r)) q.0 ∙ (ap (λ i. next (root_at l pass i)) q.1 ∙ (put.here ∙ ap word_of (sym q.2)))
      | inr q ↦ (
          let ne : root_at l p r ≢ root_at l pass reg = λ e. (let z : p ≡ pass = omega (arith, e, lt, few, h.0, is.0) in q.0 (z, omega (arith, e, z))) in
          put.elsewhere (root_at l p r) ne ∙ (was.root p r h lt ∙ ap word_of (sym q.1)))
    ];
    root_fits = λ p r h lt. elim (set2_cases n.root pass reg w p r) [
      | inl q ↦ subst IsFieldWord (sym q.2) fits
      | inr q ↦ subst IsFieldWord (sym q.1) (was.root_fits p r h lt)
    ];
  })
