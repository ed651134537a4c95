-- An object, all of whose fields are 0, begins where those of a region end: a new one, or a copy under way.
use Rattle.std.proofs.Common.{◌≡◌, ◌≢◌, ℕ, ◌+◌, ◌<◌, ◌≤◌, inl, inr, refl, arith, ap, sym, subst, ◌∙◌}
use Rattle.std.proofs.lemmas.Bool.{cases_eq}
use Rattle.call_steps.specs.StepLaws.{Put}
use Rattle.heap_words.specs.Layouts.{Sizes, region_at, first_word, wide_at, words_of}
use Rattle.heap_words.specs.declared.field_word.FieldWord.{FieldWord}
use Rattle.heap_words.specs.declared.field_word.FieldWord.TheVariants.{Num}
use Rattle.heap_words.specs.FieldWords.{IsFieldWord, word_of}
use Rattle.object_headers.specs.declared.header.Colour.{Colour}
use Rattle.object_headers.specs.Headers.{IsHeader, word_of_header}
use Rattle.wide_objects.specs.Statuses.{Status, InOriginal, IsStatus, word_of_status}
use Rattle.barriers.specs.Sets.{set}
use Rattle.barriers.specs.States.{State, Absent, Plain}
use Rattle.barriers.specs.Spaces.{Space}
use Rattle.barriers.specs.Rows.{region_of, Rows}
use Rattle.barriers.specs.Says.{Notices, header_by, head_word, header_in, IsWritten, SayObjects, IsClear, SayWide, Says, CanAppend}
use Rattle.barriers.proofs.words.Sets.{set_cases, set_here, set_else}
use Rattle.barriers.proofs.words.Regions.{region_is, region_ends, first_next}
use Rattle.barriers.proofs.words.Rows.{rows_append, t_absent, reg_t, before_end}
use Rattle.barriers.proofs.words.Headers.{written_there, plain_fits}
use Rattle.barriers.proofs.words.Frames.{put_before, put_after, same_notices, same_regions, same_wide}

zero_word : word_of (Num 0) ≡ 0
unfolding word_of
zero_word = refl

-- the space with it, in this state; of the home and the history nothing is said
abbrev pub begun : Space → ℕ → ℕ → State → Colour → ℕ → ℕ → Space
begun s k a x colour len birth = record s {
  state = set s.state a x;
  colour = set s.colour a colour;
  len = set s.len a len;
  birth = set s.birth a birth;
  word = set s.word a (λ f. Num 0);
  wide = set s.wide a 0;
  status = set s.status a (λ f. InOriginal);
  ends = set s.ends k (a + 1 + len);
}

module _ (l : Sizes) (s : Space) (rows : Rows l s.state s.len s.ends s.region) (k len birth : ℕ) (can : CanAppend l s k len birth) (a : ℕ) (last : s.ends k ≡ a)
    (x : State) (there : x ≢ Absent) (like : (c : Colour) (i b : ℕ) → header_by x c i b ≡ header_by Plain c i b) where
  room : a + 1 + len ≤ first_word l k + 64
  room = let z = can.room in omega (arith, z, last)

  low : first_word l k ≤ a
  low = let z = rows.least k in omega (arith, z, last)

  pub begun_absent : s.state a ≡ Absent
  begun_absent = ap s.state (sym last) ∙ t_absent l s.state s.len s.ends s.region rows k len x there can.region can.short can.room can.taken

  pub region_begun : region_of l a ≡ k
  region_begun = ap (region_of l) (sym last) ∙ reg_t l s.state s.len s.ends s.region rows k len x there can.region can.short can.room can.taken

  module _ (colour : Colour) where
    abbrev S : Space
    S = begun s k a x colour len birth

    pub rows_begun : Rows l S.state S.len S.ends S.region
    rows_begun = subst (λ i. Rows l (set s.state i x) (set s.len i len) (set s.ends k (i + 1 + len)) s.region) last (rows_append l s.state s.len s.ends s.region rows k len x there can.region can.short can.room can.taken)

    -- the new header, and the others
    pub header_begun : header_in S a ≡ header_by Plain colour len birth
    header_begun = rw (set_here s.state a x, set_here s.colour a colour, set_here s.len a len, set_here s.birth a birth) (like colour len birth)

    pub header_beside : (b : ℕ) → b ≢ a → header_in S b ≡ header_in s b
    header_beside b y = rw (set_else s.state a b x y, set_else s.colour a b colour y, set_else s.len a b len y, set_else s.birth a b birth y) refl

    module _ (m next : ℕ → ℕ) (n : Notices) (says : Says l m s n) (put : Put m next a (head_word Plain colour len birth)) where
      area : (first_word l 0 ≤ a) × (a < wide_at l)
      area = (let z = low in omega (arith, z), let z = region_ends l k can.region in let y = room in omega (arith, z, y))

      -- no word of another object is here
      apart : (b f : ℕ) → s.state b ≢ Absent → f ≤ s.len b → b + f ≢ a
      apart b f h le e = before_end l s.state s.len s.ends s.region rows b f k h le (let z = low in omega (arith, e, z)) (let z = room in omega (arith, e, z)) (omega (arith, e, last))

      there_else : (b : ℕ) → b ≢ a → S.state b ≢ Absent → s.state b ≢ Absent
      there_else b y h e = h (set_else s.state a b x y ∙ e)

      new_word : (f : ℕ) → f < len → next (a + 1 + f) ≡ word_of (Num 0)
      new_word f lt =
          let lo = low in
          let hi = room in
          put.elsewhere (a + 1 + f) (λ z. omega (arith, z)) ∙ (says.clear k (a + 1 + f) can.region (omega (arith, lo)) (omega (arith, lt, hi)) (omega (arith, last)) ∙ sym zero_word)

      word_here : (b f : ℕ) → b ≡ a → S.word b f ≡ Num 0
      word_here b f y = ap (λ i. S.word i f) y ∙ ap (λ (g : ℕ → FieldWord). g f) (set_here s.word a (λ f. Num 0))

      word_else : (b f : ℕ) → b ≢ a → S.word b f ≡ s.word b f
      word_else b f y = ap (λ (g : ℕ → FieldWord). g f) (set_else s.word a b (λ f. Num 0) y)

      objects : SayObjects next S
      objects = record {
        header = λ b h. elim (cases_eq b a) [
          | inl y ↦ ap next y ∙ (put.here ∙ (sym (ap word_of_header header_begun) ∙ ap (λ i. word_of_header (header_in S i)) (sym y)))
          | inr y ↦ put.elsewhere b y ∙ (says.objects.header b (there_else b y h) ∙ sym (ap word_of_header (header_beside b y)))
        ];
        header_fits = λ b h. elim (cases_eq b a) [
          | inl y ↦ subst (λ i. IsHeader (header_in S i)) (sym y) (subst IsHeader (sym header_begun) (plain_fits colour len birth can.short can.birth_fits.0 can.birth_fits.1))
          | inr y ↦ subst IsHeader (sym (header_beside b y)) (says.objects.header_fits b (there_else b y h))
        ];
        word = λ b f h lt. elim (cases_eq b a) [
          | inl y ↦ (
              let le : f < len = rw (ap (set s.len a len) y ∙ set_here s.len a len) at lt in
              let e : b + 1 + f ≡ a + 1 + f = omega (arith, y) in
              ap next e ∙ (new_word f le ∙ ap word_of (sym (word_here b f y))))
          | inr y ↦ (
              let o : IsWritten (s.state b) = rw (set_else s.state a b x y) at h in
              let le : f < s.len b = rw (set_else s.len a b len y) at lt in
              put.elsewhere (b + 1 + f) (λ e. apart b (1 + f) (written_there (s.state b) o) (omega (arith, le)) (omega (arith, e))) ∙ (says.objects.word b f o le ∙ ap word_of (sym (word_else b f y))))
        ];
        word_fits = λ b f h lt. elim (cases_eq b a) [
          | inl y ↦ (let zero_fits : IsFieldWord (Num 0) = omega arith in subst IsFieldWord (sym (word_here b f y)) zero_fits)
          | inr y ↦ subst IsFieldWord (sym (word_else b f y)) (says.objects.word_fits b f (rw (set_else s.state a b x y) at h) (rw (set_else s.len a b len y) at lt))
        ];
      }

      same_region : (j y : ℕ) → first_word l j ≤ y → y < first_word l j + 64 → y ≡ a → j ≡ k
      same_region j y lo hi u = sym (region_is l y j lo (let z = first_next l j in omega (arith, z, hi))) ∙ (ap (region_of l) u ∙ region_begun)

      clear : IsClear l next S.ends
      clear j y h lo hi c = elim (cases_eq j k) [
        | inl q ↦ (
            let i : S.ends j ≡ a + 1 + len = ap S.ends q ∙ set_here s.ends k (a + 1 + len) in
            let z : s.ends j ≡ a = ap s.ends q ∙ last in
            put.elsewhere y (λ u. omega (arith, u, i, c)) ∙ says.clear j y h lo hi (omega (arith, z, i, c)))
        | inr q ↦ put.elsewhere y (λ u. q (same_region j y lo hi u)) ∙ says.clear j y h lo hi (rw (set_else s.ends k j (a + 1 + len) q) at c)
      ]

      old : SayWide l next s
      old = same_wide l m next s (put_before (wide_at l) (words_of l) put area.1) says.wide

      -- a wide object is another object's
      pub wide_is : (b : ℕ) → S.wide b ≢ 0 → (b ≢ a) × (S.wide b ≡ s.wide b) × (S.len b ≡ s.len b) × (S.status b ≡ s.status b)
      wide_is b h = elim (set_cases s.wide a b 0) [
        | inl q ↦ absurd (h q.1)
        | inr q ↦ (q.0, q.1, set_else s.len a b len q.0, set_else s.status a b _ q.0)
      ]

      was : (b : ℕ) → S.wide b ≢ 0 → s.wide b ≢ 0
      was b h e = h ((wide_is b h).1 ∙ e)

      wide : SayWide l next S
      wide = record {
        address = λ b h. ap next (wide_is b h).1 ∙ old.address b (was b h);
        address_fits = λ b h. old.address_fits b (was b h);
        status = λ b f h lt. (let i = wide_is b h in ap (λ w. next (w + 1 + f)) i.1 ∙ (old.status b f (was b h) (rw i.2 at lt) ∙ ap (λ g. word_of_status (g f)) (sym i.3)));
        status_fits = λ b f h lt. (let i = wide_is b h in subst (λ (g : ℕ → Status). IsStatus (g f)) (sym i.3) (old.status_fits b f (was b h) (rw i.2 at lt)));
        inside = λ b h. (let i = wide_is b h in let o = old.inside b (was b h) in rw (i.1, i.2) o);
        apart = λ b c h g ne. (let i = wide_is b h in let j = wide_is c g in rw (i.1, i.2, j.1, j.2) (old.apart b c (was b h) (was c g) ne));
      }

      pub says_begun : Says l next S n
      says_begun = record {
        notices = same_notices l m next n (put_after 0 (region_at l 0) put (let z = area.0 in omega (arith, z))) says.notices;
        regions = same_regions l m next s.region (put_after (region_at l 0) (first_word l 0) put area.0) says.regions;
        objects = objects;
        clear = clear;
        wide = wide;
      }
