-- The release of a region.
use Rattle.std.specs.Prelude.{◌≡◌, ◌≢◌, ℕ, zero, suc, ◌+◌, ◌-◌, ◌<◌, ◌==◌, if◌then◌else◌, Bool, true, false, Option, Some, None, refl}
use Rattle.std.proofs.Common.{arith, lit<}
use Rattle.std.proofs.lemmas.Bool.Decides.{nat_tests}
use Rattle.call_steps.specs.declared.step.Step.{Step}
use Rattle.call_steps.specs.declared.step.Step.TheVariants.{Store, Ended}
use Rattle.heap_words.specs.Layouts.{Sizes, region_at, first_word}
use Rattle.space_reclaim.specs.declared.region_word.RegionWord.TheVariants.{Free}
use Rattle.space_reclaim.specs.declared.release.Release.{Release}
use Rattle.space_reclaim.specs.declared.release.ReleaseMachine.{ReleaseMachine}
use Rattle.space_reclaim.specs.declared.release.ReleaseMachine.TheVariants as release
use Rattle.space_reclaim.specs.RegionWords.{word_of_region}

-- a region's words
abbrev pub release_of : Sizes → ℕ → Release
release_of l region = record { last_at = first_word l region + 63; region_at = region_at l region }

-- 0 is the word of a region that is Free
abbrev pub asks_of : ReleaseMachine → Step
asks_of (release.Clear r ahead) = Store (r.last_at - ahead) 0
asks_of (release.Free r) = Store r.region_at 0
asks_of release.Ended = Ended

abbrev pub fed_of : ReleaseMachine → ℕ → ReleaseMachine
fed_of (release.Clear r ahead) found = if ahead == 0 then release.Free r else release.Clear r (ahead - 1)
fed_of (release.Free r) found = release.Ended
fed_of release.Ended found = release.Ended

-- a step for each word that is left, and one for the region word
abbrev pub left_of : ReleaseMachine → ℕ
left_of (release.Clear r ahead) = ahead + 2
left_of (release.Free r) = 1
left_of release.Ended = 0

-- whether it has ended
abbrev pub end_of : ReleaseMachine → Option (Unit {0})
end_of (release.Clear r ahead) = None
end_of (release.Free r) = None
end_of release.Ended = Some tt

-- the step that it asks for after this many
unfoldable pub asked_after : ReleaseMachine → ℕ → Step
asked_after m zero = asks_of m
asked_after m (suc n) = asked_after (fed_of m 0) n

-- it stores 0 in each of the region's words, in rising address, then the word of Free in its region word, and ends
pub record ReleasesInOrder (l : Sizes) (region : ℕ) (m : ReleaseMachine) : Type 0 where
  pub clears : (n : ℕ) → n < 64 → asked_after m n ≡ Store (first_word l region + n) 0
  pub frees : asked_after m 64 ≡ Store (region_at l region) (word_of_region Free)
  pub ends : asked_after m 65 ≡ Ended

pub blind_of : (m : ReleaseMachine) (at put n : ℕ) → asks_of m ≡ Store at put → fed_of m n ≡ fed_of m 0
blind_of (release.Clear r ahead) at put n is = refl
blind_of (release.Free r) at put n is = refl
blind_of release.Ended at put n is = refl

pub none_left_of : (m : ReleaseMachine) → asks_of m ≡ Ended → left_of m ≡ 0
none_left_of (release.Clear r ahead) is = absurd cc
none_left_of (release.Free r) is = absurd cc
none_left_of release.Ended is = refl

pub some_left_of : (m : ReleaseMachine) → left_of m ≡ 0 → asks_of m ≡ Ended
some_left_of (release.Clear r ahead) is = absurd (omega arith)
some_left_of (release.Free r) is = absurd (omega arith)
some_left_of release.Ended is = refl

clear_falls : (r : Release) (ahead : ℕ) (last : Bool) → (ahead == 0) ≡ last → left_of (if last then release.Free r else release.Clear r (ahead - 1)) < ahead + 2
clear_falls r ahead true is = omega arith
clear_falls r ahead false is = grind (arith, nat_tests)

pub falls_of : (m : ReleaseMachine) (n : ℕ) → asks_of m ≢ Ended → left_of (fed_of m n) < left_of m
falls_of (release.Clear r ahead) n on = clear_falls r ahead (ahead == 0) refl
falls_of (release.Free r) n on = lit< tt
falls_of release.Ended n on = absurd (on refl)
