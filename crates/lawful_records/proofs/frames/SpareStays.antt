-- The words of the wide area that are of no wide object stay 0 under steps on words before it, and where no object begins there is no wide
-- object of one.
use Rattle.std.specs.Prelude.{◌<◌}
use Rattle.std.proofs.Common.{inl, ◌≡◌, ℕ, sym, ◌∙◌, arith}
use Rattle.call_steps.specs.StepLaws.{Put}
use Rattle.heap_words.specs.Layouts.{Sizes, IsPass, IsRegion, phase_at, mark_at, ack_at, root_at, region_at, wide_at}
use Rattle.barriers.specs.States.{Absent, Kept}
use Rattle.barriers.specs.MoveWords.{IsSpare}
use Rattle.barriers.specs.Protocols.{Protocol}
use Rattle.barriers.specs.Spaces.{Space}
use Rattle.barriers.proofs.words.Spares.{spare_put}
use Rattle.lawful_records.specs.Frames.{Left, Same, Untagged, Born}

-- ---- words before the wide area

module _ (l : Sizes) where
  pub phase_low : phase_at < wide_at l
  phase_low = omega arith

  pub mark_low : mark_at < wide_at l
  mark_low = omega arith

  pub ack_low : (pass : ℕ) → IsPass l pass → ack_at pass < wide_at l
  ack_low pass is = omega (arith, is.1)

  pub root_low : (pass reg : ℕ) → IsPass l pass → reg < 8 → root_at l pass reg < wide_at l
  root_low pass reg is low = omega (arith, is.0, is.1, low)

  pub region_low : (k : ℕ) → IsRegion l k → region_at l k < wide_at l
  region_low k there = omega (arith, there)

-- ---- steps

module _ (l : Sizes) (memory next : ℕ → ℕ) (s : Space) (spare : IsSpare l memory s) where
  pub spare_low : (at put : ℕ) → Put memory next at put → at < wide_at l → IsSpare l next s
  spare_low at put stored low = spare_put l memory next s s at put spare stored (inl low) (λ x free. free)

  pub spare_same : ((a : ℕ) → next a ≡ memory a) → IsSpare l next s
  spare_same same x low high free = same x ∙ spare x low high free

-- ---- a turn of a pass

pub bare_on : (P : Protocol) (l : Sizes) (s t : Space) (at : ℕ) → Left P l s t at → (s.state at ≡ Absent → s.wide at ≡ 0) → t.state at ≡ Absent → t.wide at ≡ 0
bare_on P l s t at (Same same) bare none = same.wide ∙ bare (sym same.state ∙ none)
bare_on P l s t at (Untagged makes was is seal wide) bare none = absurd (let gone : Kept ≡ Absent = sym is ∙ none in cc gone)
bare_on P l s t at (Born was is seal wide own) bare none = wide
