-- The claim of a region by a pass.
use Rattle.std.specs.Prelude.{◌≡◌, ◌≢◌, ℕ, ◌+◌, ◌-◌, ◌<◌, ◌==◌, nat_lt, if◌then◌else◌, Bool, true, false, Option, Some, None, refl}
use Rattle.std.proofs.Common.{arith}
use Rattle.std.proofs.lemmas.Bool.Decides.{nat_tests}
use Rattle.call_steps.specs.declared.step.Step.{Step}
use Rattle.call_steps.specs.declared.step.Step.TheVariants.{Load, Store, Exchange, Ended}
use Rattle.heap_words.specs.Layouts.{Sizes, region_at}
use Rattle.space_reclaim.specs.declared.region_word.RegionWord.TheVariants.{Taken}
use Rattle.space_reclaim.specs.declared.claim.Round.{Round}
use Rattle.space_reclaim.specs.declared.claim.ClaimEnd.{ClaimEnd}
use Rattle.space_reclaim.specs.declared.claim.ClaimEnd.TheVariants.{Claimed, NoneFree}
use Rattle.space_reclaim.specs.declared.claim.ClaimMachine.{ClaimMachine}
use Rattle.space_reclaim.specs.declared.claim.ClaimMachine.TheVariants as claim
use Rattle.space_reclaim.specs.RegionWords.{word_of_region}
use Rattle.space_reclaim.specs.OwnRegions.{first_own, last_own, begins_at}

-- the round of a pass's own regions, with none of them looked at
abbrev pub round_of : Sizes → ℕ → Option ℕ → Round
round_of l pass last = record {
  words_at = region_at l 0;
  first_at = region_at l (first_own l pass);
  last_at = region_at l (last_own l pass);
  at = region_at l (begins_at l pass last);
  ahead = l.quota - 1;
  regions = l.quota;
  taken = word_of_region (Taken pass);
}

-- the region looked at
abbrev pub region_of : Round → ℕ
region_of r = r.at - r.words_at

-- the round at the next region; after the last comes the first
abbrev pub next_round : Round → Round
next_round r = record r { at = (if nat_lt r.at r.last_at then r.at + 1 else r.first_at); ahead = r.ahead - 1 }

-- 0 is the word of a region that is Free
abbrev pub asks_of : ClaimMachine → Step
asks_of (claim.Look r) = Load r.at
asks_of (claim.Claim r) = Exchange r.at 0 r.taken
asks_of (claim.Ended e) = Ended

-- the machine when the region looked at is in use: it goes on so at the next one, or none is free
abbrev pub passed_by : (Round → ClaimMachine) → Round → ClaimMachine
passed_by on r = if r.ahead == 0 then claim.Ended (NoneFree r.regions) else on (next_round r)

abbrev pub fed_of : ClaimMachine → ℕ → ClaimMachine
fed_of (claim.Look r) found = if found == 0 then claim.Claim r else passed_by claim.Look r
fed_of (claim.Claim r) found = if found == 0 then claim.Ended (Claimed (region_of r)) else passed_by claim.Claim r
fed_of (claim.Ended e) found = claim.Ended e

-- one step for each region that is left, and one for the exchange
abbrev pub left_of : ClaimMachine → ℕ
left_of (claim.Look r) = r.ahead + 2
left_of (claim.Claim r) = r.ahead + 1
left_of (claim.Ended e) = 0

-- what it ended with, if it has ended
abbrev pub end_of : ClaimMachine → Option ClaimEnd
end_of (claim.Look r) = None
end_of (claim.Claim r) = None
end_of (claim.Ended e) = Some e

pub blind_of : (m : ClaimMachine) (at put n : ℕ) → asks_of m ≡ Store at put → fed_of m n ≡ fed_of m 0
blind_of (claim.Look r) at put n e = absurd cc
blind_of (claim.Claim r) at put n e = absurd cc
blind_of (claim.Ended e) at put n s = refl

pub none_left_of : (m : ClaimMachine) → asks_of m ≡ Ended → left_of m ≡ 0
none_left_of (claim.Look r) e = absurd cc
none_left_of (claim.Claim r) e = absurd cc
none_left_of (claim.Ended e) s = refl

pub some_left_of : (m : ClaimMachine) → left_of m ≡ 0 → asks_of m ≡ Ended
some_left_of (claim.Look r) e = absurd (omega arith)
some_left_of (claim.Claim r) e = absurd (omega arith)
some_left_of (claim.Ended e) s = refl

look_passes : (r : Round) (b : Bool) → (r.ahead == 0) ≡ b → left_of (if b then claim.Ended (NoneFree r.regions) else claim.Look (next_round r)) < r.ahead + 2
look_passes r true e = omega arith
look_passes r false e = grind (arith, nat_tests)

claim_passes : (r : Round) (b : Bool) → (r.ahead == 0) ≡ b → left_of (if b then claim.Ended (NoneFree r.regions) else claim.Claim (next_round r)) < r.ahead + 1
claim_passes r true e = omega arith
claim_passes r false e = grind (arith, nat_tests)

look_falls : (r : Round) (free : Bool) → left_of (if free then claim.Claim r else passed_by claim.Look r) < r.ahead + 2
look_falls r true = omega arith
look_falls r false = look_passes r (r.ahead == 0) refl

claim_falls : (r : Round) (free : Bool) → left_of (if free then claim.Ended (Claimed (region_of r)) else passed_by claim.Claim r) < r.ahead + 1
claim_falls r true = omega arith
claim_falls r false = claim_passes r (r.ahead == 0) refl

pub falls_of : (m : ClaimMachine) (n : ℕ) → asks_of m ≢ Ended → left_of (fed_of m n) < left_of m
falls_of (claim.Look r) n on = look_falls r (n == 0)
falls_of (claim.Claim r) n on = claim_falls r (n == 0)
falls_of (claim.Ended e) n on = absurd (on refl)
