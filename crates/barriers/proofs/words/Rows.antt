-- Objects of a region follow each other: a new one after them, a header that changes, a region's word, and a region whose objects are gone.
use Rattle.std.proofs.Common.{◌≡◌, ◌≢◌, ℕ, ◌+◌, ◌<◌, ◌≤◌, ◌⊎◌, inl, inr, refl, arith, ap, sym, ◌∙◌}
use Rattle.std.proofs.lemmas.Bool.{cases_eq}
use Rattle.heap_words.specs.Layouts.{Sizes, IsRegion, first_word, wide_at}
use Rattle.space_reclaim.specs.declared.region_word.RegionWord.{RegionWord}
use Rattle.space_reclaim.specs.declared.region_word.RegionWord.TheVariants as regions
use Rattle.barriers.specs.Sets.{set}
use Rattle.barriers.specs.States.{State, Absent, Plain, Kept, Tagged, Wide, Moving, Underway, Forward, Dead}
use Rattle.barriers.specs.Rows.{region_of, Rows}
use Rattle.barriers.proofs.words.Sets.{set_cases, set_here, set_else}
use Rattle.barriers.proofs.words.Regions.{region_is, region_least, first_next, first_up, region_before, region_after, region_ends, less_or}

pub absent_or : (x : State) → (x ≡ Absent) ⊎ (x ≢ Absent)
absent_or Absent = inl refl
absent_or Plain = inr (λ e. cc e)
absent_or Kept = inr (λ e. cc e)
absent_or Tagged = inr (λ e. cc e)
absent_or (Wide t) = inr (λ e. cc e)
absent_or (Moving t) = inr (λ e. cc e)
absent_or Underway = inr (λ e. cc e)
absent_or (Forward t) = inr (λ e. cc e)
absent_or Dead = inr (λ e. cc e)

module _ (l : Sizes) (state : ℕ → State) (len ends : ℕ → ℕ) (region : ℕ → RegionWord) (w : Rows l state len ends region) where
  -- an object ends at most where those of its region do
  pub row_below : (a : ℕ) → state a ≢ Absent → a + len a < first_word l (region_of l a) + 64
  row_below a h = let x = (w.inside a h).0 in let y = w.most (region_of l a) in omega (arith, x, y)

  -- where a region's objects end there is none
  pub end_absent : (k : ℕ) → ends k < first_word l k + 64 → state (ends k) ≡ Absent
  end_absent k lt = elim (absent_or (state (ends k))) [
    | inl q ↦ q
    | inr q ↦ absurd (
        let e = region_is l (ends k) k (w.least k) (let z = first_next l k in omega (arith, z, lt)) in
        let x = (w.inside (ends k) q).0 in
        let y : ends (region_of l (ends k)) ≡ ends k = ap ends e in
        omega (arith, x, y))
  ]

  -- the next object lies in the same region
  pub same_region : (a : ℕ) → state a ≢ Absent → (a + 1 + len a ≢ ends (region_of l a)) → region_of l (a + 1 + len a) ≡ region_of l a
  same_region a h n =
      let x = (w.inside a h).0 in
      let y = w.most (region_of l a) in
      let z = first_next l (region_of l a) in
      let u = region_least l a (w.above a h) in
      region_is l (a + 1 + len a) (region_of l a) (omega (arith, u)) (omega (arith, x, y, z, n))

  -- a word of an object, in the region's words, lies in that region and before its end
  pub word_region : (a f k : ℕ) → state a ≢ Absent → f ≤ len a → first_word l k ≤ a + f → a + f < first_word l k + 64 → region_of l a ≡ k
  word_region a f k h le lo hi = elim (less_or (region_of l a) k) [
    | inl q ↦ absurd (let y = first_up l (region_of l a) k q in let z = row_below a h in omega (arith, y, z, le, lo))
    | inr q ↦ elim q [
      | inl y ↦ y
      | inr y ↦ absurd (let z = first_up l k (region_of l a) y in let u = region_least l a (w.above a h) in omega (arith, z, u, hi))
    ]
  ]

  pub before_end : (a f k : ℕ) → state a ≢ Absent → f ≤ len a → first_word l k ≤ a + f → a + f < first_word l k + 64 → ends k ≤ a + f → ⊥
  before_end a f k h le lo hi c =
      let z = (w.inside a h).0 in
      let i : ends (region_of l a) ≡ ends k = ap ends (word_region a f k h le lo hi) in
      omega (arith, c, z, i, le)

  -- a header is no field's word, and each word is of one object
  pub header_apart : (a b g : ℕ) → state a ≢ Absent → state b ≢ Absent → g < len b → a ≢ b + 1 + g
  header_apart a b g h i lt q = let z = w.apart b a i h (omega (arith, q)) in omega (arith, z, q, lt)

  pub words_apart : (a b f g : ℕ) → state a ≢ Absent → state b ≢ Absent → f < len a → g < len b → a + 1 + f ≡ b + 1 + g → a ≡ b
  words_apart a b f g h i lt mt q = elim (less_or a b) [
    | inl y ↦ absurd (let z = w.apart a b h i y in omega (arith, z, q, lt))
    | inr y ↦ elim y [ inl z ↦ z | inr z ↦ absurd (let u = w.apart b a i h z in omega (arith, u, q, mt)) ]
  ]

  -- the words of objects lie between the region words and the wide area
  pub row_area : (a f : ℕ) → state a ≢ Absent → f ≤ len a → (first_word l 0 ≤ a + f) × (a + f < wide_at l)
  row_area a f h le =
      let lo = w.above a h in
      let z = row_below a h in
      let u = region_ends l (region_of l a) (w.inside a h).1 in
      (omega (arith, lo), omega (arith, z, u, le))

  -- a region's word changes
  pub rows_region : (k : ℕ) (x : RegionWord) → (x ≡ regions.Free → ends k ≡ first_word l k) → Rows l state len ends (set region k x)
  rows_region k x e = record {
    above = w.above;
    inside = w.inside;
    apart = w.apart;
    follow = w.follow;
    begin = w.begin;
    least = w.least;
    most = w.most;
    empty = λ j y. elim (set_cases region k j x) [ inl q ↦ ap ends q.0 ∙ (e (sym q.1 ∙ y) ∙ ap (first_word l) (sym q.0)) | inr q ↦ w.empty j (sym q.1 ∙ y) ];
    short = w.short;
  }

  -- a new object after those of region k
  module _ (k n : ℕ) (x : State) (there : x ≢ Absent) (lk : IsRegion l k) (few : n ≤ 30) (fit : ends k + 1 + n ≤ first_word l k + 64) (taken : region k ≢ regions.Free) where
    abbrev t : ℕ
    t = ends k

    abbrev S : ℕ → State
    S = set state t x

    abbrev N : ℕ → ℕ
    N = set len t n

    abbrev E : ℕ → ℕ
    E = set ends k (t + 1 + n)

    pub reg_t : region_of l t ≡ k
    reg_t = region_is l t k (w.least k) (let z = first_next l k in omega (arith, z, fit))

    pub t_absent : state t ≡ Absent
    t_absent = end_absent k (omega (arith, fit))

    t_last : (a : ℕ) → state a ≢ Absent → a < t → a + len a < t
    t_last a h lt = elim (cases_eq (region_of l a) k) [
      | inl q ↦ (let x = (w.inside a h).0 in let y : ends (region_of l a) ≡ t = ap ends q in omega (arith, x, y))
      | inr q ↦ (let x = row_below a h in let y = first_up l (region_of l a) k (region_before l a k (w.above a h) q (let z = first_next l k in omega (arith, z, fit, lt))) in let z = w.least k in omega (arith, x, y, z))
    ]

    t_first : (a : ℕ) → state a ≢ Absent → t < a → t + n < a
    t_first a h lt = elim (cases_eq (region_of l a) k) [
      | inl q ↦ absurd (let x = (w.inside a h).0 in let y : ends (region_of l a) ≡ t = ap ends q in omega (arith, x, y, lt))
      | inr q ↦ (let y = first_up l k (region_of l a) (region_after l a k q (let z = w.least k in omega (arith, z, lt))) in let z = region_least l a (w.above a h) in omega (arith, y, z, fit))
    ]

    old_there : (a : ℕ) → a ≢ t → S a ≢ Absent → state a ≢ Absent
    old_there a ne h e = h (set_else state t a x ne ∙ e)

    still_there : (a : ℕ) → state a ≢ Absent → S a ≢ Absent
    still_there a h e = elim (set_cases state t a x) [ inl q ↦ there (sym q.1 ∙ e) | inr q ↦ h (sym q.1 ∙ e) ]

    app_inside : (a : ℕ) → S a ≢ Absent → (a + N a < E (region_of l a)) × IsRegion l (region_of l a)
    app_inside a h = elim (cases_eq a t) [
      | inl q ↦ (
          let e : region_of l a ≡ k = ap (region_of l) q ∙ reg_t in
          let nn : N a ≡ n = ap N q ∙ set_here len t n in
          let ee : E (region_of l a) ≡ t + 1 + n = ap E e ∙ set_here ends k (t + 1 + n) in
          (omega (arith, q, nn, ee), rw e lk))
      | inr q ↦ (
          let o = w.inside a (old_there a q h) in
          let nn : N a ≡ len a = set_else len t a n q in
          elim (set_cases ends k (region_of l a) (t + 1 + n)) [
            | inl y ↦ (let z : ends (region_of l a) ≡ t = ap ends y.0 in let u = o.0 in let i = y.1 in (omega (arith, nn, z, u, i), o.1))
            | inr y ↦ (let u = o.0 in let i = y.1 in (omega (arith, nn, u, i), o.1))
          ])
    ]

    app_apart : (a b : ℕ) → S a ≢ Absent → S b ≢ Absent → a < b → a + N a < b
    app_apart a b h g lt = elim (cases_eq a t) [
      | inl q ↦ (
          let nn : N a ≡ n = ap N q ∙ set_here len t n in
          let bt : b ≢ t = λ e. omega (arith, e, q, lt) in
          let o = t_first b (old_there b bt g) (omega (arith, q, lt)) in
          omega (arith, q, nn, o))
      | inr q ↦ (
          let nn : N a ≡ len a = set_else len t a n q in
          elim (cases_eq b t) [
            | inl y ↦ (let o = t_last a (old_there a q h) (omega (arith, y, lt)) in omega (arith, nn, y, o))
            | inr y ↦ (let o = w.apart a b (old_there a q h) (old_there b y g) lt in omega (arith, nn, o))
          ])
    ]

    app_follow : (a : ℕ) → S a ≢ Absent → (a + 1 + N a ≡ E (region_of l a)) ⊎ (S (a + 1 + N a) ≢ Absent)
    app_follow a h = elim (cases_eq a t) [
      | inl q ↦ inl (
          let e : region_of l a ≡ k = ap (region_of l) q ∙ reg_t in
          let nn : N a ≡ n = ap N q ∙ set_here len t n in
          let ee : E (region_of l a) ≡ t + 1 + n = ap E e ∙ set_here ends k (t + 1 + n) in
          omega (arith, q, nn, ee))
      | inr q ↦ (
          let nn : N a ≡ len a = set_else len t a n q in
          let p : a + 1 + N a ≡ a + 1 + len a = omega (arith, nn) in
          elim (w.follow a (old_there a q h)) [
            | inl y ↦ elim (set_cases ends k (region_of l a) (t + 1 + n)) [
              | inl z ↦ inr (let i : a + 1 + N a ≡ t = p ∙ (y ∙ ap ends z.0) in λ j. there (sym (set_here state t x) ∙ (ap S (sym i) ∙ j)))
              | inr z ↦ inl (p ∙ (y ∙ sym z.1))
            ]
            | inr y ↦ inr (λ j. still_there (a + 1 + len a) y (ap S (sym p) ∙ j))
          ])
    ]

    app_begin : (j : ℕ) → (E j ≡ first_word l j) ⊎ (S (first_word l j) ≢ Absent)
    app_begin j = elim (w.begin j) [
      | inr q ↦ inr (still_there (first_word l j) q)
      | inl q ↦ elim (set_cases ends k j (t + 1 + n)) [
        | inl y ↦ inr (let i : first_word l j ≡ t = sym q ∙ ap ends y.0 in λ z. there (sym (set_here state t x) ∙ (ap S (sym i) ∙ z)))
        | inr y ↦ inl (y.1 ∙ q)
      ]
    ]

    app_above : (a : ℕ) → S a ≢ Absent → first_word l 0 ≤ a
    app_above a h = elim (cases_eq a t) [
      | inl q ↦ (let z = w.least k in omega (arith, q, z))
      | inr q ↦ w.above a (old_there a q h)
    ]

    app_short : (a : ℕ) → S a ≢ Absent → N a ≤ 30
    app_short a h = elim (cases_eq a t) [
      | inl q ↦ (let nn : N a ≡ n = ap N q ∙ set_here len t n in omega (arith, nn, few))
      | inr q ↦ (let nn : N a ≡ len a = set_else len t a n q in let z = w.short a (old_there a q h) in omega (arith, nn, z))
    ]

    pub rows_append : Rows l S N E region
    rows_append = record {
      above = app_above;
      short = app_short;
      inside = app_inside;
      apart = app_apart;
      follow = app_follow;
      begin = app_begin;
      least = λ j. elim (set_cases ends k j (t + 1 + n)) [
        | inl y ↦ (let i = y.1 in let z = w.least k in let f : first_word l j ≡ first_word l k = ap (first_word l) y.0 in omega (arith, i, z, f))
        | inr y ↦ (let i = y.1 in let z = w.least j in omega (arith, i, z))
      ];
      most = λ j. elim (set_cases ends k j (t + 1 + n)) [
        | inl y ↦ (let i = y.1 in let f : first_word l j ≡ first_word l k = ap (first_word l) y.0 in omega (arith, i, fit, f))
        | inr y ↦ (let i = y.1 in let z = w.most j in omega (arith, i, z))
      ];
      empty = λ j e. elim (set_cases ends k j (t + 1 + n)) [ inl y ↦ absurd (taken (ap region (sym y.0) ∙ e)) | inr y ↦ y.1 ∙ w.empty j e ];
    }

  -- a header changes
  module _ (a : ℕ) (x : State) (was : state a ≢ Absent) (is : x ≢ Absent) where
    abbrev Z : ℕ → State
    Z = set state a x

    pub there_goes : (b : ℕ) → state b ≢ Absent → Z b ≢ Absent
    there_goes b h e = elim (set_cases state a b x) [ inl q ↦ is (sym q.1 ∙ e) | inr q ↦ h (sym q.1 ∙ e) ]

    pub there_was : (b : ℕ) → Z b ≢ Absent → state b ≢ Absent
    there_was b h e = elim (set_cases state a b x) [ inl q ↦ was (ap state (sym q.0) ∙ e) | inr q ↦ h (q.1 ∙ e) ]

    pub rows_state : Rows l Z len ends region
    rows_state = record {
      above = λ b h. w.above b (there_was b h);
      short = λ b h. w.short b (there_was b h);
      inside = λ b h. w.inside b (there_was b h);
      apart = λ b c h g lt. w.apart b c (there_was b h) (there_was c g) lt;
      follow = λ b h. elim (w.follow b (there_was b h)) [ inl q ↦ inl q | inr q ↦ inr (there_goes (b + 1 + len b) q) ];
      begin = λ j. elim (w.begin j) [ inl q ↦ inl q | inr q ↦ inr (there_goes (first_word l j) q) ];
      least = w.least;
      most = w.most;
      empty = w.empty;
    }

  -- a region that is given again: its objects are there no more
  module _ (k : ℕ) (S2 : ℕ → State) (gone : (a : ℕ) → ((region_of l a ≡ k) × (S2 a ≡ Absent)) ⊎ ((region_of l a ≢ k) × (S2 a ≡ state a))) where
    abbrev F : ℕ → ℕ
    F = set ends k (first_word l k)

    none_was : (a : ℕ) → S2 a ≢ Absent → (region_of l a ≢ k) × (state a ≢ Absent)
    none_was a h = elim (gone a) [ inl q ↦ absurd (h q.1) | inr q ↦ (q.0, λ e. h (q.1 ∙ e)) ]

    none_goes : (a : ℕ) → region_of l a ≢ k → state a ≢ Absent → S2 a ≢ Absent
    none_goes a n h e = elim (gone a) [ inl q ↦ n q.0 | inr q ↦ h (sym q.1 ∙ e) ]

    ends_other : (j : ℕ) → j ≢ k → F j ≡ ends j
    ends_other j n = set_else ends k j (first_word l k) n
