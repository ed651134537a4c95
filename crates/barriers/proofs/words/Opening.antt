-- The start: the opening words say the opening space, whose objects follow each other.
use Rattle.std.proofs.Common.{◌≡◌, ◌≢◌, ℕ, ◌+◌, ◌<◌, List, length, replicate, inl, inr, refl, arith, ap, sym, subst, ◌∙◌, length-set}
use Rattle.std.specs.Prelude.{slice_set}
use Rattle.std.proofs.lemmas.Bool.{cases_eq}
use Rattle.std.proofs.lemmas.List.{length-replicate, get_or-replicate, get_or_past}
use Rattle.std.proofs.Math.Decide.{dec_lt}
use Rattle.call_steps.specs.StepLaws.{reading, Put, Put-set}
use Rattle.heap_words.specs.Layouts.{Sizes, IsLayout, regions_of, region_at, first_word, words_of}
use Rattle.heap_words.specs.declared.field_word.FieldWord.TheVariants.{Num}
use Rattle.heap_words.specs.FieldWords.{IsFieldWord, word_of}
use Rattle.object_headers.specs.declared.header.Colour.TheVariants.{Even}
use Rattle.object_headers.specs.Headers.{IsHeader, word_of_header}
use Rattle.space_reclaim.specs.declared.region_word.RegionWord.TheVariants as regions
use Rattle.space_reclaim.specs.RegionWords.{IsRegionWord, word_of_region}
use Rattle.barriers.specs.States.{Absent, Plain}
use Rattle.barriers.specs.Spaces.{Space}
use Rattle.barriers.specs.Rows.{region_of, Rows}
use Rattle.barriers.specs.Says.{header_by, head_word, header_in, SayObjects, Says, IsOpening, opening_notices, opening_space}
use Rattle.barriers.proofs.words.Sets.{set_cases, set_here, set_else}
use Rattle.barriers.proofs.words.Regions.{region_is, first_next, first_up}
use Rattle.barriers.proofs.words.Headers.{written_there, plain_fits}

zero_word : word_of (Num 0) ≡ 0
unfolding word_of
zero_word = refl

free_word : word_of_region regions.Free ≡ 0
unfolding word_of_region
free_word = refl

-- the words with which a table is made
pub is_opening : (l : Sizes) → IsLayout l → IsOpening l (reading (slice_set (slice_set (replicate (words_of l) 0) (region_at l 0) (word_of_region regions.Filled)) (first_word l 0) (head_word Plain Even 8 1)))
is_opening l il =
    let zeros : List ℕ = replicate (words_of l) 0 in
    let filled : List ℕ = slice_set zeros (region_at l 0) (word_of_region regions.Filled) in
    let len : length zeros ≡ words_of l = length-replicate (words_of l) 0 in
    let second : Put (reading zeros) (reading filled) (region_at l 0) (word_of_region regions.Filled) = Put-set zeros (region_at l 0) (word_of_region regions.Filled) (omega (arith, len, il.pool.0)) in
    let third = Put-set filled (first_word l 0) (head_word Plain Even 8 1) (omega (arith, length-set zeros (region_at l 0) (word_of_region regions.Filled), len, il.pool.0)) in
    record {
      region = third.elsewhere (region_at l 0) (λ e. (let z = il.pool.0 in omega (arith, e, z))) ∙ second.here;
      object = third.here;
      rest = λ a ne nf. third.elsewhere a nf ∙ (second.elsewhere a ne ∙ zero_at a);
    } where
      zero_at : (a : ℕ) → reading (replicate (words_of l) 0) a ≡ 0
      zero_at a = elim (dec_lt a (words_of l)) [ yes lt ↦ get_or-replicate (words_of l) a 0 0 lt | no ge ↦ get_or_past (replicate (words_of l) 0) a 0 (let z = length-replicate {A = ℕ} (words_of l) 0 in omega (arith, z, ge)) ]

module _ (l : Sizes) where
  abbrev first : ℕ
  first = first_word l 0

  abbrev S : Space
  S = opening_space l

  pub opening_there : (a : ℕ) → S.state a ≢ Absent → a ≡ first
  opening_there a h = elim (set_cases (λ a. Absent) first a Plain) [ inl q ↦ q.0 | inr q ↦ absurd (h q.1) ]

  plain_there : S.state first ≢ Absent
  plain_there e = cc (set_here (λ a. Absent) first Plain, e)

  region_zero : (a : ℕ) → a ≡ first → region_of l a ≡ 0
  region_zero a e = region_is l a 0 (omega (arith, e)) (let z = first_next l 0 in omega (arith, z, e))

  ends_zero : (a : ℕ) → a ≡ first → S.ends (region_of l a) ≡ first + 9
  ends_zero a e = ap S.ends (region_zero a e) ∙ set_here (first_word l) 0 (first + 9)

  pub opening_rows : 0 < regions_of l → Rows l S.state S.len S.ends S.region
  opening_rows lt = record {
    above = λ a h. (let e = opening_there a h in omega (arith, e));
    inside = λ a h. (let e = opening_there a h in let z = ends_zero a e in let y = region_zero a e in (omega (arith, e, z), omega (arith, y, lt)));
    apart = λ a b h g q. absurd (let e = opening_there a h in let f = opening_there b g in omega (arith, e, f, q));
    follow = λ a h. (let e = opening_there a h in let z = ends_zero a e in inl (omega (arith, e, z)));
    begin = λ k. elim (cases_eq k 0) [ inl q ↦ inr (λ e. plain_there (ap (λ i. S.state (first_word l i)) (sym q) ∙ e)) | inr q ↦ inl (set_else (first_word l) 0 k (first + 9) q) ];
    least = λ k. elim (set_cases (first_word l) 0 k (first + 9)) [ inl q ↦ (let i = q.1 in let f : first_word l k ≡ first = ap (first_word l) q.0 in omega (arith, i, f)) | inr q ↦ (let i = q.1 in omega (arith, i)) ];
    most = λ k. elim (set_cases (first_word l) 0 k (first + 9)) [ inl q ↦ (let i = q.1 in let f : first_word l k ≡ first = ap (first_word l) q.0 in omega (arith, i, f)) | inr q ↦ (let i = q.1 in omega (arith, i)) ];
    empty = λ k e. elim (set_cases (λ k. regions.Free) 0 k regions.Filled) [ inl q ↦ absurd (cc (q.1, e)) | inr q ↦ set_else (first_word l) 0 k (first + 9) q.0 ];
    short = λ a h. omega arith;
  }

  module _ (m : ℕ → ℕ) (o : IsOpening l m) where
    -- before the region words, and after the object's header, all is 0
    before : (x : ℕ) → x < region_at l 0 → m x ≡ 0
    before x lt = o.rest x (λ e. omega (arith, e, lt)) (λ e. omega (arith, e, lt))

    after : (x : ℕ) → first < x → m x ≡ 0
    after x lt = o.rest x (λ e. omega (arith, e, lt)) (λ e. omega (arith, e, lt))

    head : (a : ℕ) → a ≡ first → header_in S a ≡ header_by Plain Even 8 1
    head a e = rw (e, set_here (λ a. Absent) first Plain) refl

    zero_fits : IsFieldWord (Num 0)
    zero_fits = omega arith

    objects : SayObjects m S
    objects = record {
      header = λ a h. (let e = opening_there a h in ap m e ∙ (o.object ∙ sym (ap word_of_header (head a e))));
      header_fits = λ a h. subst IsHeader (sym (head a (opening_there a h))) (plain_fits Even 8 1 (omega arith) (omega arith) (omega arith));
      word = λ a f h lt. (let e = opening_there a (written_there (S.state a) h) in after (a + 1 + f) (omega (arith, e)) ∙ sym zero_word);
      word_fits = λ a f h lt. zero_fits;
    }

    pub opening_says : Says l m S opening_notices
    opening_says = record {
      notices = record {
        phase = before _ (omega arith);
        mark = before _ (omega arith);
        ack = λ p h. before _ (omega (arith, h.0, h.1));
        root = λ p r h lt. before _ (omega (arith, h.0, h.1, lt)) ∙ sym zero_word;
        root_fits = λ p r h lt. zero_fits;
      };
      regions = record {
        word = λ k h. elim (set_cases (λ k. regions.Free) 0 k regions.Filled) [
          | inl q ↦ ap (λ i. m (region_at l i)) q.0 ∙ (o.region ∙ ap word_of_region (sym q.1))
          | inr q ↦ o.rest (region_at l k) (λ e. q.0 (omega (arith, e))) (λ e. omega (arith, e, h)) ∙ (sym free_word ∙ ap word_of_region (sym q.1))
        ];
        fits = λ k h. elim (set_cases (λ k. regions.Free) 0 k regions.Filled) [ inl q ↦ subst IsRegionWord (sym q.1) tt | inr q ↦ subst IsRegionWord (sym q.1) tt ];
      };
      objects = objects;
      clear = λ k x h lo hi c. elim (cases_eq k 0) [
        | inl q ↦ (let i : S.ends k ≡ first + 9 = ap S.ends q ∙ set_here (first_word l) 0 (first + 9) in after x (omega (arith, i, c)))
        | inr q ↦ after x (let z = first_up l 0 k (omega (arith, q)) in omega (arith, z, lo))
      ];
      wide = record {
        address = λ a h. absurd (h refl);
        address_fits = λ a h. absurd (h refl);
        status = λ a f h lt. absurd (h refl);
        status_fits = λ a f h lt. absurd (h refl);
        inside = λ a h. absurd (h refl);
        apart = λ a b h g ne. absurd (h refl);
      };
    }
