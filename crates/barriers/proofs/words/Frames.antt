-- What the words of an area say is the same as long as they are.
use Rattle.std.proofs.Common.{◌≡◌, ◌≢◌, ℕ, ◌+◌, ◌<◌, ◌≤◌, ◌==◌, inl, inr, refl, arith, ap, sym, subst, ◌∙◌}
use prog.Atomic.{either}
use Rattle.std.proofs.lemmas.Bool.{cases_eq}
use Rattle.std.proofs.lemmas.Bool.Decides.{eqb_tells}
use Rattle.call_steps.specs.StepLaws.{Put}
use Rattle.heap_words.specs.Layouts.{Sizes, region_at, first_word, wide_at, words_of}
use Rattle.space_reclaim.specs.declared.region_word.RegionWord.{RegionWord}
use Rattle.barriers.specs.Spaces.{Space}
use Rattle.barriers.specs.Rows.{Rows}
use Rattle.barriers.specs.Says.{Notices, SayNotices, SayRegions, SayObjects, IsClear, SayWide, Says}
use Rattle.barriers.proofs.words.Headers.{written_there}
use Rattle.barriers.proofs.words.Regions.{region_below, region_ends}
use Rattle.barriers.proofs.words.Rows.{row_area}

-- the words from one address to before another are the same
abbrev pub Alike : (ℕ → ℕ) → (ℕ → ℕ) → ℕ → ℕ → Type 0
Alike m next lo hi = (a : ℕ) → lo ≤ a → a < hi → next a ≡ m a

-- one word put leaves those before it and after it
pub put_after : {m next : ℕ → ℕ} {at put : ℕ} (lo hi : ℕ) → Put m next at put → hi ≤ at → Alike m next lo hi
put_after lo hi p le a lo_le lt = p.elsewhere a (λ e. omega (arith, e, le, lt))

pub put_before : {m next : ℕ → ℕ} {at put : ℕ} (lo hi : ℕ) → Put m next at put → at < lo → Alike m next lo hi
put_before lo hi p le a lo_le lt = p.elsewhere a (λ e. omega (arith, e, le, lo_le))

module _ (m next : ℕ → ℕ) (at : ℕ) where
  -- a step that puts what was there changes nothing
  pub put_same : (put : ℕ) → Put m next at put → put ≡ m at → (a : ℕ) → next a ≡ m a
  put_same put p e a = elim (cases_eq a at) [ inl q ↦ ap next q ∙ (p.here ∙ (e ∙ ap m (sym q))) | inr q ↦ p.elsewhere a q ]

  -- an exchange wins where it finds what it wants, and else changes nothing
  pub exchange_won : (want put : ℕ) → m at ≡ want → Put m next at (either (m at == want) put (m at)) → Put m next at put
  exchange_won want put e p = elim (eqb_tells (m at) want) [
    | inl q ↦ subst (λ b. Put m next at (either b put (m at))) q.0 p
    | inr q ↦ absurd (q.1 e)
  ]

  pub exchange_lost : (want put : ℕ) → m at ≢ want → Put m next at (either (m at == want) put (m at)) → (a : ℕ) → next a ≡ m a
  exchange_lost want put ne p = put_same (either (m at == want) put (m at)) p (elim (eqb_tells (m at) want) [
    | inl q ↦ absurd (ne q.1)
    | inr q ↦ ap (λ b. either b put (m at)) q.0
  ])

module _ (l : Sizes) (m next : ℕ → ℕ) where
  pub same_notices : (n : Notices) → Alike m next 0 (region_at l 0) → SayNotices l m n → SayNotices l next n
  same_notices n same o = record {
    phase = same _ (omega arith) (omega arith) ∙ o.phase;
    mark = same _ (omega arith) (omega arith) ∙ o.mark;
    ack = λ pass h. same _ (omega arith) (omega (arith, h.0, h.1)) ∙ o.ack pass h;
    root = λ pass reg h lt. same _ (omega arith) (omega (arith, h.0, h.1, lt)) ∙ o.root pass reg h lt;
    root_fits = o.root_fits;
  }

  pub same_regions : (region : ℕ → RegionWord) → Alike m next (region_at l 0) (first_word l 0) → SayRegions l m region → SayRegions l next region
  same_regions region same o = record {
    word = λ k h. same _ (omega arith) (region_below l k h) ∙ o.word k h;
    fits = o.fits;
  }

  pub same_objects : (s : Space) → Rows l s.state s.len s.ends s.region → Alike m next (first_word l 0) (wide_at l) → SayObjects m s → SayObjects next s
  same_objects s rows same o = record {
    header = λ a h. (let z = row_area l s.state s.len s.ends s.region rows a 0 h (omega arith) in same a (omega (arith, z.0)) (omega (arith, z.1)) ∙ o.header a h);
    header_fits = o.header_fits;
    word = λ a f h lt. (let z = row_area l s.state s.len s.ends s.region rows a (1 + f) (written_there (s.state a) h) (omega (arith, lt)) in same (a + 1 + f) (omega (arith, z.0)) (omega (arith, z.1)) ∙ o.word a f h lt);
    word_fits = o.word_fits;
  }

  pub same_clear : (ends : ℕ → ℕ) → Alike m next (first_word l 0) (wide_at l) → IsClear l m ends → IsClear l next ends
  same_clear ends same o k x h lo hi after = same x (omega (arith, lo)) (let z = region_ends l k h in omega (arith, z, hi)) ∙ o k x h lo hi after

  pub same_wide : (s : Space) → Alike m next (wide_at l) (words_of l) → SayWide l m s → SayWide l next s
  same_wide s same o = record {
    address = λ a h. (let z = o.inside a h in same (s.wide a) z.0 (omega (arith, z.1)) ∙ o.address a h);
    address_fits = o.address_fits;
    status = λ a f h lt. (let z = o.inside a h in same (s.wide a + 1 + f) (omega (arith, z.0)) (omega (arith, z.1, lt)) ∙ o.status a f h lt);
    status_fits = o.status_fits;
    inside = o.inside;
    apart = o.apart;
  }

  -- all words are the same
  pub says_same : (s : Space) (n : Notices) → ((a : ℕ) → next a ≡ m a) → Rows l s.state s.len s.ends s.region → Says l m s n → Says l next s n
  says_same s n same rows says = record {
    notices = same_notices n (λ a lo hi. same a) says.notices;
    regions = same_regions s.region (λ a lo hi. same a) says.regions;
    objects = same_objects s rows (λ a lo hi. same a) says.objects;
    clear = same_clear s.ends (λ a lo hi. same a) says.clear;
    wide = same_wide s (λ a lo hi. same a) says.wide;
  }

  -- a load
  pub says_load : (s : Space) (n : Notices) (at : ℕ) → Put m next at (m at) → Rows l s.state s.len s.ends s.region → Says l m s n → Says l next s n
  says_load s n at put rows says = says_same s n (put_same m next at (m at) put refl) rows says
