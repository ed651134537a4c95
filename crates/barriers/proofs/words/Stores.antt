-- Each kind of store: the words say what the space and the notices say after it.
use Rattle.std.proofs.Common.{◌≡◌, ◌≢◌, ℕ, ◌+◌, ◌<◌, ◌≤◌, List, inl, inr, arith, ap, sym, subst, ◌∙◌}
use Rattle.call_steps.specs.StepLaws.{Put}
use Rattle.heap_words.specs.Layouts.{Sizes, region_at, first_word, wide_at, words_of}
use Rattle.heap_words.specs.declared.field_word.FieldWord.{FieldWord}
use Rattle.heap_words.specs.FieldWords.{IsFieldWord, word_of}
use Rattle.object_headers.specs.Headers.{IsHeader}
use Rattle.heap_history.specs.declared.call.Call.{Call}
use Rattle.barriers.specs.Sets.{set, set2}
use Rattle.barriers.specs.States.{State, Absent}
use Rattle.barriers.specs.Spaces.{Space}
use Rattle.barriers.specs.Accesses.{put_state}
use Rattle.barriers.specs.Rows.{Rows}
use Rattle.barriers.specs.Says.{Notices, header_by, head_word, IsWritten, SayNotices, SayRegions, SayObjects, IsClear, SayWide, Says}
use Rattle.barriers.proofs.words.Sets.{set_cases, set2_cases}
use Rattle.barriers.proofs.words.Rows.{row_area, before_end, header_apart, words_apart}
use Rattle.barriers.proofs.words.Headers.{written_there}
use Rattle.barriers.proofs.words.Frames.{put_after, put_before, same_notices, same_regions, same_wide}

module _ (l : Sizes) (m next : ℕ → ℕ) (s : Space) (n : Notices) (rows : Rows l s.state s.len s.ends s.region) (says : Says l m s n) where
  -- ---- objects

  -- the words before a word of an object, and those of wide objects, stay
  module _ (a f x : ℕ) (there : s.state a ≢ Absent) (le : f ≤ s.len a) (put : Put m next (a + f) x) where
    area : (first_word l 0 ≤ a + f) × (a + f < wide_at l)
    area = row_area l s.state s.len s.ends s.region rows a f there le

    pub object_notices : SayNotices l next n
    object_notices = same_notices l m next n (put_after 0 (region_at l 0) put (let z = area.0 in omega (arith, z))) says.notices

    pub object_regions : SayRegions l next s.region
    object_regions = same_regions l m next s.region (put_after (region_at l 0) (first_word l 0) put area.0) says.regions

    pub object_clear : IsClear l next s.ends
    object_clear k y r lo hi c = put.elsewhere y (λ e. before_end l s.state s.len s.ends s.region rows a f k there le (omega (arith, e, lo)) (omega (arith, e, hi)) (omega (arith, e, c))) ∙ says.clear k y r lo hi c

    pub object_wide : SayWide l next s
    object_wide = same_wide l m next s (put_before (wide_at l) (words_of l) put area.1) says.wide

  -- a word of a field; the word at the place of the field and the history may change with it
  module _ (a f : ℕ) (w : FieldWord) (field : ℕ → ℕ → FieldWord) (history : List Call) (written : IsWritten (s.state a)) (lt : f < s.len a) (fits : IsFieldWord w) (put : Put m next (a + 1 + f) (word_of w)) where
    there : s.state a ≢ Absent
    there = written_there (s.state a) written

    put_there : Put m next (a + (1 + f)) (word_of w)
    put_there = subst (λ x. Put m next x (word_of w)) (omega arith) put

    abbrev S : Space
    S = record s { word = set2 s.word a f w; field = field; history = history }

    objects : SayObjects next S
    objects = record {
      header = λ b h. put.elsewhere b (header_apart l s.state s.len s.ends s.region rows b a f h there lt) ∙ says.objects.header b h;
      header_fits = says.objects.header_fits;
      word = λ b g h mt. elim (set2_cases s.word a f w b g) [
        | inl q ↦ (let e : b + 1 + g ≡ a + 1 + f = omega (arith, q.0, q.1) in ap next e ∙ (put.here ∙ ap word_of (sym q.2)))
        | inr q ↦ (
            let ne : b + 1 + g ≢ a + 1 + f = λ y. (let z = words_apart l s.state s.len s.ends s.region rows b a g f (written_there (s.state b) h) there mt lt y in q.0 (z, omega (arith, z, y))) in
            put.elsewhere (b + 1 + g) ne ∙ (says.objects.word b g h mt ∙ ap word_of (sym q.1)))
      ];
      word_fits = λ b g h mt. elim (set2_cases s.word a f w b g) [
        | inl q ↦ subst IsFieldWord (sym q.2) fits
        | inr q ↦ subst IsFieldWord (sym q.1) (says.objects.word_fits b g h mt)
      ];
    }

    wide : SayWide l next s
    wide = object_wide a (1 + f) (word_of w) there (omega (arith, lt)) put_there

    pub says_word : Says l next S n
    says_word = record {
      notices = object_notices a (1 + f) (word_of w) there (omega (arith, lt)) put_there;
      regions = object_regions a (1 + f) (word_of w) there (omega (arith, lt)) put_there;
      objects = objects;
      clear = object_clear a (1 + f) (word_of w) there (omega (arith, lt)) put_there;
      wide = record { address = wide.address; address_fits = wide.address_fits; status = wide.status; status_fits = wide.status_fits; inside = wide.inside; apart = wide.apart };
    }

  -- a header; words are written only where they were
  module _ (a : ℕ) (x : State) (there : s.state a ≢ Absent) (was : IsWritten x → IsWritten (s.state a)) (fits : IsHeader (header_by x (s.colour a) (s.len a) (s.birth a))) (put : Put m next a (head_word x (s.colour a) (s.len a) (s.birth a))) where
    head_there : Put m next (a + 0) (head_word x (s.colour a) (s.len a) (s.birth a))
    head_there = subst (λ y. Put m next y (head_word x (s.colour a) (s.len a) (s.birth a))) (omega arith) put

    head_objects : SayObjects next (put_state s a x)
    head_objects = record {
      header = λ b h. elim (set_cases s.state a b x) [
        | inl q ↦ ap next q.0 ∙ (put.here ∙ (ap (λ i. head_word x (s.colour i) (s.len i) (s.birth i)) (sym q.0) ∙ ap (λ y. head_word y (s.colour b) (s.len b) (s.birth b)) (sym q.1)))
        | inr q ↦ put.elsewhere b q.0 ∙ (says.objects.header b (λ y. h (q.1 ∙ y)) ∙ ap (λ y. head_word y (s.colour b) (s.len b) (s.birth b)) (sym q.1))
      ];
      header_fits = λ b h. elim (set_cases s.state a b x) [
        | inl q ↦ subst (λ y. IsHeader (header_by y (s.colour b) (s.len b) (s.birth b))) (sym q.1) (subst (λ i. IsHeader (header_by x (s.colour i) (s.len i) (s.birth i))) (sym q.0) fits)
        | inr q ↦ subst (λ y. IsHeader (header_by y (s.colour b) (s.len b) (s.birth b))) (sym q.1) (says.objects.header_fits b (λ y. h (q.1 ∙ y)))
      ];
      word = λ b f h lt. (let o = written_was b h in put.elsewhere (b + 1 + f) (λ y. header_apart l s.state s.len s.ends s.region rows a b f there (written_there (s.state b) o) lt (sym y)) ∙ says.objects.word b f o lt);
      word_fits = λ b f h lt. says.objects.word_fits b f (written_was b h) lt;
    } where
      written_was : (b : ℕ) → IsWritten (set s.state a x b) → IsWritten (s.state b)
      written_was b h = elim (set_cases s.state a b x) [
        | inl q ↦ subst (λ i. IsWritten (s.state i)) (sym q.0) (was (subst IsWritten q.1 h))
        | inr q ↦ subst IsWritten q.1 h
      ]

    head_wide : SayWide l next s
    head_wide = object_wide a 0 (head_word x (s.colour a) (s.len a) (s.birth a)) there (omega arith) head_there

    pub says_header : Says l next (put_state s a x) n
    says_header = record {
      notices = object_notices a 0 (head_word x (s.colour a) (s.len a) (s.birth a)) there (omega arith) head_there;
      regions = object_regions a 0 (head_word x (s.colour a) (s.len a) (s.birth a)) there (omega arith) head_there;
      objects = head_objects;
      clear = object_clear a 0 (head_word x (s.colour a) (s.len a) (s.birth a)) there (omega arith) head_there;
      wide = record { address = head_wide.address; address_fits = head_wide.address_fits; status = head_wide.status; status_fits = head_wide.status_fits; inside = head_wide.inside; apart = head_wide.apart };
    }
