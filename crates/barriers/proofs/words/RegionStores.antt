-- Stores of region words, and what the claim of a region finds.
use Rattle.std.proofs.Common.{◌≡◌, ◌≢◌, ℕ, ◌+◌, ◌<◌, ◌≤◌, ◌==◌, inl, inr, refl, arith, ap, sym, subst, ◌∙◌}
use prog.Atomic.{either}
use Rattle.call_steps.specs.StepLaws.{Put}
use Rattle.heap_words.specs.Layouts.{Sizes, IsRegion, region_at, first_word, wide_at, words_of}
use Rattle.space_reclaim.specs.declared.region_word.RegionWord.{RegionWord}
use Rattle.space_reclaim.specs.declared.region_word.RegionWord.TheVariants as regions
use Rattle.space_reclaim.specs.RegionWords.{IsRegionWord, word_of_region}
use Rattle.space_reclaim.specs.RegionWordLaws.{word_of_region-injective}
use Rattle.barriers.specs.Spaces.{Space}
use Rattle.barriers.specs.Rows.{Rows}
use Rattle.barriers.specs.Says.{Notices, SayObjects, SayWide, Says, put_region}
use Rattle.barriers.proofs.words.Sets.{set_cases}
use Rattle.barriers.proofs.words.Regions.{region_below, region_apart}
use Rattle.barriers.proofs.words.Rows.{rows_region}
use Rattle.barriers.proofs.words.Frames.{put_before, put_after, same_notices, same_objects, same_clear, same_wide, exchange_won}

free_word : word_of_region regions.Free ≡ 0
unfolding word_of_region
free_word = refl

module _ (l : Sizes) (m : ℕ → ℕ) (s : Space) (n : Notices) (rows : Rows l s.state s.len s.ends s.region) (says : Says l m s n) where
  -- 0 is the word of a Free region, and of no other
  pub found_free : (k : ℕ) → IsRegion l k → m (region_at l k) ≡ 0 → s.region k ≡ regions.Free
  found_free k r e = word_of_region-injective (s.region k) regions.Free (says.regions.fits k r) tt (sym (says.regions.word k r) ∙ (e ∙ sym free_word))

  module _ (next : ℕ → ℕ) where
    pub says_region : (k : ℕ) (x : RegionWord) → IsRegion l k → IsRegionWord x → Put m next (region_at l k) (word_of_region x) → Says l next (put_region s k x) n
    says_region k x r fits put =
        let low = region_below l k r in
        let objects : SayObjects next s = same_objects l m next s rows (put_before (first_word l 0) (wide_at l) put low) says.objects in
        let wide : SayWide l next s = same_wide l m next s (put_before (wide_at l) (words_of l) put (omega (arith, low))) says.wide in
        record {
          notices = same_notices l m next n (put_after 0 (region_at l 0) put (omega arith)) says.notices;
          regions = record {
            word = λ j h. elim (set_cases s.region k j x) [
              | inl q ↦ ap (λ i. next (region_at l i)) q.0 ∙ (put.here ∙ ap word_of_region (sym q.1))
              | inr q ↦ put.elsewhere (region_at l j) (region_apart l j k q.0) ∙ (says.regions.word j h ∙ ap word_of_region (sym q.1))
            ];
            fits = λ j h. elim (set_cases s.region k j x) [
              | inl q ↦ subst IsRegionWord (sym q.1) fits
              | inr q ↦ subst IsRegionWord (sym q.1) (says.regions.fits j h)
            ];
          };
          objects = record { header = objects.header; header_fits = objects.header_fits; word = objects.word; word_fits = objects.word_fits };
          clear = same_clear l m next s.ends (put_before (first_word l 0) (wide_at l) put low) says.clear;
          wide = record { address = wide.address; address_fits = wide.address_fits; status = wide.status; status_fits = wide.status_fits; inside = wide.inside; apart = wide.apart };
        }

    -- a claim's exchange: it found Free, and the region is taken, or it found another word, and nothing changes
    module _ (k pass : ℕ) (r : IsRegion l k) (low : pass < 32) (put : Put m next (region_at l k) (either (m (region_at l k) == 0) (word_of_region (regions.Taken pass)) (m (region_at l k)))) where
      pub says_claimed : m (region_at l k) ≡ 0 → Says l next (put_region s k (regions.Taken pass)) n
      says_claimed e = says_region k (regions.Taken pass) r low (exchange_won m next (region_at l k) 0 (word_of_region (regions.Taken pass)) e put)

-- objects lie as they did where a region's word becomes another one than Free's
pub rows_used : (l : Sizes) (s : Space) (k : ℕ) (x : RegionWord) → x ≢ regions.Free → Rows l s.state s.len s.ends s.region → (let t = put_region s k x in Rows l t.state t.len t.ends t.region)
rows_used l s k x used rows = rows_region l s.state s.len s.ends s.region rows k x (λ e. absurd (used e))
