-- Stores in a wide object.
use Rattle.std.proofs.Common.{◌≡◌, ◌≢◌, ℕ, ◌+◌, ◌<◌, ◌≤◌, ◌^◌, List, inl, inr, arith, ap, sym, subst, ◌∙◌}
use Rattle.std.proofs.lemmas.Bool.{cases_eq}
use Rattle.call_steps.specs.StepLaws.{Put}
use Rattle.heap_words.specs.Layouts.{Sizes, region_at, first_word, wide_at}
use Rattle.heap_words.specs.declared.field_word.FieldWord.{FieldWord}
use Rattle.wide_objects.specs.Statuses.{Status, IsStatus, word_of_status}
use Rattle.heap_history.specs.declared.call.Call.{Call}
use Rattle.barriers.specs.Sets.{set, set2}
use Rattle.barriers.specs.Spaces.{Space}
use Rattle.barriers.specs.Rows.{Rows}
use Rattle.barriers.specs.Says.{Notices, SayNotices, SayRegions, SayObjects, IsClear, Says}
use Rattle.barriers.proofs.words.Sets.{set_cases, set2_cases}
use Rattle.barriers.proofs.words.Frames.{put_after, same_notices, same_regions, same_objects, same_clear}

module _ (l : Sizes) (m next : ℕ → ℕ) (s : Space) (n : Notices) (rows : Rows l s.state s.len s.ends s.region) (says : Says l m s n) where
  -- all before the wide area stays
  module _ (at x : ℕ) (le : wide_at l ≤ at) (put : Put m next at x) where
    pub wide_notices : SayNotices l next n
    wide_notices = same_notices l m next n (put_after 0 (region_at l 0) put (omega (arith, le))) says.notices

    pub wide_regions : SayRegions l next s.region
    wide_regions = same_regions l m next s.region (put_after (region_at l 0) (first_word l 0) put (omega (arith, le))) says.regions

    pub wide_objects : SayObjects next s
    wide_objects = same_objects l m next s rows (put_after (first_word l 0) (wide_at l) put le) says.objects

    pub wide_clear : IsClear l next s.ends
    wide_clear = same_clear l m next s.ends (put_after (first_word l 0) (wide_at l) put le) says.clear

  -- two words of wide objects are one only as the same word of one object
  wides_apart : (a b i j : ℕ) → s.wide a ≢ 0 → s.wide b ≢ 0 → i ≤ s.len a → j ≤ s.len b → s.wide a + i ≡ s.wide b + j → (a ≡ b) × (i ≡ j)
  wides_apart a b i j h g le mle e = elim (cases_eq a b) [
    | inl q ↦ (q, (let z : s.wide a ≡ s.wide b = ap s.wide q in omega (arith, z, e)))
    | inr q ↦ absurd (elim (says.wide.apart a b h g q) [ inl z ↦ omega (arith, z, e, le) | inr z ↦ omega (arith, z, e, mle) ])
  ]

  -- the status of a field; the word at the place of the field and the history may change with it
  module _ (a f : ℕ) (u : Status) (field : ℕ → ℕ → FieldWord) (history : List Call) (there : s.wide a ≢ 0) (lt : f < s.len a) (fits : IsStatus u) (put : Put m next (s.wide a + 1 + f) (word_of_status u)) where
    abbrev S : Space
    S = record s { status = set2 s.status a f u; field = field; history = history }

    after : wide_at l ≤ s.wide a + 1 + f
    after = let z = (says.wide.inside a there).0 in omega (arith, z)

    objects : SayObjects next s
    objects = wide_objects (s.wide a + 1 + f) (word_of_status u) after put

    pub says_status : Says l next S n
    says_status = record {
      notices = wide_notices (s.wide a + 1 + f) (word_of_status u) after put;
      regions = wide_regions (s.wide a + 1 + f) (word_of_status u) after put;
      objects = record { header = objects.header; header_fits = objects.header_fits; word = objects.word; word_fits = objects.word_fits };
      clear = wide_clear (s.wide a + 1 + f) (word_of_status u) after put;
      wide = record {
        address = λ b h. put.elsewhere (s.wide b) (λ e. (let z = wides_apart b a 0 (1 + f) h there (omega arith) (omega (arith, lt)) (omega (arith, e)) in omega (arith, z.1))) ∙ says.wide.address b h;
        address_fits = says.wide.address_fits;
        status = λ b g h mt. elim (set2_cases s.status a f u b g) [
          | inl q ↦ (let e : s.wide b + 1 + g ≡ s.wide a + 1 + f = (let z : s.wide b ≡ s.wide a = ap s.wide q.0 in omega (arith, z, q.1)) in ap next e ∙ (put.here ∙ ap word_of_status (sym q.2)))
          | inr q ↦ (
              let ne : s.wide b + 1 + g ≢ s.wide a + 1 + f = λ y. (let z = wides_apart b a (1 + g) (1 + f) h there (omega (arith, mt)) (omega (arith, lt)) (omega (arith, y)) in q.0 (z.0, omega (arith, z.1))) in
              put.elsewhere (s.wide b + 1 + g) ne ∙ (says.wide.status b g h mt ∙ ap word_of_status (sym q.1)))
        ];
        status_fits = λ b g h mt. elim (set2_cases s.status a f u b g) [
          | inl q ↦ subst IsStatus (sym q.2) fits
          | inr q ↦ subst IsStatus (sym q.1) (says.wide.status_fits b g h mt)
        ];
        inside = says.wide.inside;
        apart = says.wide.apart;
      };
    }

  -- the address of the copy
  module _ (a to : ℕ) (there : s.wide a ≢ 0) (fits : to < 2 ^ 20) (put : Put m next (s.wide a) to) where
    abbrev T : Space
    T = record s { address = set s.address a to }

    from : wide_at l ≤ s.wide a
    from = (says.wide.inside a there).0

    same : SayObjects next s
    same = wide_objects (s.wide a) to from put

    pub says_address : Says l next T n
    says_address = record {
      notices = wide_notices (s.wide a) to from put;
      regions = wide_regions (s.wide a) to from put;
      objects = record { header = same.header; header_fits = same.header_fits; word = same.word; word_fits = same.word_fits };
      clear = wide_clear (s.wide a) to from put;
      wide = record {
        address = λ b h. elim (set_cases s.address a b to) [
          | inl q ↦ ap (λ i. next (s.wide i)) q.0 ∙ (put.here ∙ sym q.1)
          | inr q ↦ put.elsewhere (s.wide b) (λ e. (let z = wides_apart b a 0 0 h there (omega arith) (omega arith) (omega (arith, e)) in q.0 z.0)) ∙ (says.wide.address b h ∙ sym q.1)
        ];
        address_fits = λ b h. elim (set_cases s.address a b to) [
          | inl q ↦ (let z = q.1 in omega (arith, z, fits))
          | inr q ↦ (let z = q.1 in let y = says.wide.address_fits b h in omega (arith, z, y))
        ];
        status = λ b g h mt. put.elsewhere (s.wide b + 1 + g) (λ e. (let z = wides_apart b a (1 + g) 0 h there (omega (arith, mt)) (omega arith) (omega (arith, e)) in omega (arith, z.1))) ∙ says.wide.status b g h mt;
        status_fits = says.wide.status_fits;
        inside = says.wide.inside;
        apart = says.wide.apart;
      };
    }
