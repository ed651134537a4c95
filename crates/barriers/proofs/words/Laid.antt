-- The copy's header is stored after the objects of its region, and with it the original has its wide object.
use Rattle.std.proofs.Common.{◌≡◌, ◌≢◌, ℕ, ◌+◌, ◌<◌, ◌≤◌, ◌^◌, ◌⊎◌, inl, inr, refl, arith, ap, sym, subst, ◌∙◌}
use Rattle.call_steps.specs.StepLaws.{Put}
use Rattle.heap_words.specs.Layouts.{Sizes, wide_at}
use Rattle.wide_objects.specs.Statuses.{Status, InOriginal, IsStatus, word_of_status}
use Rattle.space_reclaim.specs.declared.move_job.MoveJob.{MoveJob}
use Rattle.barriers.specs.Sets.{set}
use Rattle.barriers.specs.States.{Absent, Plain, Underway, IsHome}
use Rattle.barriers.specs.Spaces.{Space}
use Rattle.barriers.specs.Rows.{region_of, Rows}
use Rattle.barriers.specs.Says.{Notices, header_by, head_word, header_in, SayObjects, SayWide, Says, CanAppend}
use Rattle.barriers.specs.MoveSteps.{lay}
use Rattle.barriers.specs.MoveWords.{IsWideReady, CanLay}
use Rattle.barriers.proofs.words.Sets.{set_cases, set_else}
use Rattle.barriers.proofs.words.Headers.{home_there}
use Rattle.barriers.proofs.words.Regions.{region_ends}
use Rattle.barriers.proofs.words.Begun.{begun, begun_absent, rows_begun, header_begun, header_beside, wide_is, says_begun}

module _ (l : Sizes) (memory : ℕ → ℕ) (s : Space) (j : MoveJob) (rows : Rows l s.state s.len s.ends s.region) (can : CanLay l memory s j)
    (live : IsHome (s.state j.from)) (len : s.len j.from ≡ j.len) (born : (0 < j.birth) × (j.birth < 2 ^ 24)) where
  fits : CanAppend l s (region_of l j.to) j.len j.birth
  fits = record {
    region = can.region;
    taken = can.taken;
    short = (let z = rows.short j.from (home_there (s.state j.from) live) in omega (arith, z, len));
    room = (let z = can.last in let y = can.room in omega (arith, z, y));
    birth_fits = born;
  }

  under_there : Underway ≢ Absent
  under_there e = cc e

  abbrev B : Space
  B = begun s (region_of l j.to) j.to Underway (s.colour j.from) j.len j.birth

  abbrev S : Space
  S = lay l s j

  pub absent_to : s.state j.to ≡ Absent
  absent_to = begun_absent l s rows (region_of l j.to) j.len j.birth fits j.to can.last Underway under_there (λ c i b. refl)

  pub from_apart : j.from ≢ j.to
  from_apart e = home_there (s.state j.from) live (ap s.state e ∙ absent_to)

  pub rows_laid : Rows l S.state S.len S.ends S.region
  rows_laid = rows_begun l s rows (region_of l j.to) j.len j.birth fits j.to can.last Underway under_there (λ c i b. refl) (s.colour j.from)

  -- the copy's header, and the others
  pub header_laid : header_in S j.to ≡ header_by Plain (s.colour j.from) j.len j.birth
  header_laid = header_begun l s rows (region_of l j.to) j.len j.birth fits j.to can.last Underway under_there (λ c i b. refl) (s.colour j.from)

  pub header_else : (b : ℕ) → b ≢ j.to → header_in S b ≡ header_in s b
  header_else b y = header_beside l s rows (region_of l j.to) j.len j.birth fits j.to can.last Underway under_there (λ c i b. refl) (s.colour j.from) b y

  module _ (next : ℕ → ℕ) (n : Notices) (says : Says l memory s n) (put : Put memory next j.to (head_word Plain (s.colour j.from) j.len j.birth)) where
    begins : Says l next B n
    begins = says_begun l s rows (region_of l j.to) j.len j.birth fits j.to can.last Underway under_there (λ c i b. refl) (s.colour j.from) memory next n says put

    -- the words of the wide object are as they were
    wide_word : (a : ℕ) → wide_at l ≤ a → next a ≡ memory a
    wide_word a le = put.elsewhere a (λ e. (let z = region_ends l (region_of l j.to) can.region in let y = can.room in omega (arith, e, le, z, y)))

    abbrev IsOwn : ℕ → Type 0
    IsOwn b = (b ≡ j.from) × (S.wide b ≡ j.wide)

    abbrev IsOther : ℕ → Type 0
    IsOther b = (b ≢ j.from) × (S.wide b ≡ B.wide b)

    whose : (b : ℕ) → IsOwn b ⊎ IsOther b
    whose b = set_cases (set s.wide j.to 0) j.from b j.wide

    ready : (b : ℕ) → S.wide b ≢ 0 → IsOwn b → IsWideReady l memory s j
    ready b h q = can.wide (λ e. h (q.1 ∙ e))

    other : (b : ℕ) → S.wide b ≢ 0 → IsOther b → B.wide b ≢ 0
    other b h q e = h (q.1 ∙ e)

    own_len : (b : ℕ) → b ≡ j.from → S.len b ≡ j.len
    own_len b e = set_else s.len j.to b j.len (λ y. from_apart (sym e ∙ y)) ∙ (ap s.len e ∙ len)

    own_status : (b f : ℕ) → b ≡ j.from → S.status b f ≡ s.status j.from f
    own_status b f e = ap (λ (g : ℕ → Status). g f) (set_else s.status j.to b (λ f. InOriginal) (λ y. from_apart (sym e ∙ y)) ∙ ap s.status e)

    apart_own : (b c : ℕ) → S.wide b ≢ 0 → S.wide c ≢ 0 → IsOwn b → IsOther c → (S.wide b + S.len b < S.wide c) ⊎ (S.wide c + S.len c < S.wide b)
    apart_own b c h g q y =
        let i = wide_is l s rows (region_of l j.to) j.len j.birth fits j.to can.last Underway under_there (λ c i b. refl) (s.colour j.from) memory next n says put c (other c g y) in
        let w = y.1 ∙ i.1 in
        let size = own_len b q.0 in
        let same = q.1 in
        let o = (ready b h q).apart c (λ e. g (w ∙ e)) y.0 in
        let lens = i.2 in
        elim o [ inl z ↦ inl (omega (arith, z, w, size, same)) | inr z ↦ inr (omega (arith, z, w, lens, same)) ]

    wide : SayWide l next S
    wide = record {
      address = λ b h. elim (whose b) [
        | inl q ↦ (let o = ready b h q in ap next q.1 ∙ (wide_word j.wide o.inside.0 ∙ (o.address ∙ ap s.address (sym q.0))))
        | inr q ↦ ap next q.1 ∙ begins.wide.address b (other b h q)
      ];
      address_fits = λ b h. elim (whose b) [
        | inl q ↦ (let o = ready b h q in subst (λ i. s.address i < 2 ^ 20) (sym q.0) o.address_fits)
        | inr q ↦ begins.wide.address_fits b (other b h q)
      ];
      status = λ b f h lt. elim (whose b) [
        | inl q ↦ (
            let o = ready b h q in
            let size = own_len b q.0 in
            let in_it = o.inside.0 in
            ap (λ i. next (i + 1 + f)) q.1 ∙ (wide_word (j.wide + 1 + f) (omega (arith, in_it)) ∙ (o.status f (omega (arith, lt, size)) ∙ ap word_of_status (sym (own_status b f q.0)))))
        | inr q ↦ ap (λ i. next (i + 1 + f)) q.1 ∙ begins.wide.status b f (other b h q) lt
      ];
      status_fits = λ b f h lt. elim (whose b) [
        | inl q ↦ (let size = own_len b q.0 in subst IsStatus (sym (own_status b f q.0)) ((ready b h q).status_fits f (omega (arith, lt, size))))
        | inr q ↦ begins.wide.status_fits b f (other b h q) lt
      ];
      inside = λ b h. elim (whose b) [
        | inl q ↦ (let o = (ready b h q).inside in let size = own_len b q.0 in let same = q.1 in (omega (arith, same, o.0), omega (arith, same, size, o.1)))
        | inr q ↦ (let o = begins.wide.inside b (other b h q) in let same = q.1 in (omega (arith, same, o.0), omega (arith, same, o.1)))
      ];
      apart = λ b c h g ne. elim (whose b) [
        | inl q ↦ elim (whose c) [
          | inl y ↦ absurd (ne (q.0 ∙ sym y.0))
          | inr y ↦ apart_own b c h g q y
        ]
        | inr q ↦ elim (whose c) [
          | inl y ↦ elim (apart_own c b g h y q) [ inl z ↦ inr z | inr z ↦ inl z ]
          | inr y ↦ (
              let u = q.1 in
              let v = y.1 in
              elim (begins.wide.apart b c (other b h q) (other c g y) ne) [ inl z ↦ inl (omega (arith, z, u, v)) | inr z ↦ inr (omega (arith, z, u, v)) ])
        ]
      ];
    }

    objects : SayObjects next S
    objects = let o = begins.objects in record { header = o.header; header_fits = o.header_fits; word = o.word; word_fits = o.word_fits }

    pub says_laid : Says l next S n
    says_laid = record { notices = begins.notices; regions = begins.regions; objects = objects; clear = begins.clear; wide = wide }
