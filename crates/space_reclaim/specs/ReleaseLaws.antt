-- A region is cleared before it becomes Free.
use Rattle.std.proofs.Common.{◌≡◌, ℕ, zero, suc, ◌+◌, ◌-◌, ◌≤◌, ◌==◌, false, refl, ap, ◌∙◌, arith}
use Rattle.std.proofs.lemmas.Bool.Decides.{nat_tests}
use Rattle.call_steps.specs.declared.step.Step.TheVariants.{Store}
use Rattle.heap_words.specs.Layouts.{Sizes, first_word}
use Rattle.space_reclaim.specs.declared.release.Release.{Release}
use Rattle.space_reclaim.specs.declared.release.ReleaseMachine.TheVariants as release
use Rattle.space_reclaim.specs.RegionWords.{word_of_region}
use Rattle.space_reclaim.specs.Releases.{release_of, asked_after, ReleasesInOrder}

-- after n words it clears the next one
clears_after : (r : Release) (n ahead : ℕ) → n ≤ ahead → asked_after (release.Clear r ahead) n ≡ Store (r.last_at - (ahead - n)) 0
unfolding asked_after
clears_after r zero ahead h = let same : ahead - 0 ≡ ahead = omega arith in rw same refl
clears_after r (suc n) ahead h =
    let on : (ahead == 0) ≡ false = grind (arith, nat_tests) in
    let same : ahead - 1 - n ≡ ahead - suc n = omega arith in
    rw on (clears_after r n (ahead - 1) (omega arith) ∙ ap (λ k. Store (r.last_at - k) 0) same)

pub releases_in_order : (l : Sizes) (region : ℕ) → ReleasesInOrder l region (release.Clear (release_of l region) 63)
unfolding asked_after word_of_region
releases_in_order l region = record {
  clears = λ n below. let at : first_word l region + 63 - (63 - n) ≡ first_word l region + n = omega arith in clears_after (release_of l region) n 63 (omega arith) ∙ ap (λ at. Store at 0) at;
  frees = refl;
  ends = refl;
}
