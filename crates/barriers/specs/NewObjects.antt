-- A new object of a pass.
use Rattle.std.specs.Prelude.{◌≡◌, ◌≢◌, ℕ, ◌+◌, ◌*◌, ◌<◌, ◌≤◌, ◌==◌, min, Bool, true, if◌then◌else◌, Option, Some, None, refl}
use Rattle.std.proofs.Common.{lit<, arith}
use Rattle.call_steps.specs.declared.step.Step.{Step}
use Rattle.call_steps.specs.declared.step.Step.TheVariants.{Store, Ended}
use Rattle.heap_words.specs.Layouts.{Sizes, IsLayout, IsRegion, regions_of, region_at, first_word}
use Rattle.heap_words.specs.PlaceLaws.{regions_of-bound}
use Rattle.heap_words.specs.declared.limits.TheConstants.{BIRTHS_BETWEEN_PASSES, BIRTHS_OF_PASS, MOST_REGIONS, REGION_WORDS}
use Rattle.barriers.specs.declared.new_object.TheConstants.{LAST_REGION}
use Rattle.heap_words.specs.Packing.{fits_after}
use Rattle.object_headers.specs.declared.header.Header.{Header}
use Rattle.object_headers.specs.declared.header.State.TheVariants.{Plain}
use Rattle.object_headers.specs.declared.header.Colour.TheVariants.{Even}
use Rattle.object_headers.specs.Headers.{word_of_header}
use Rattle.handshakes.specs.declared.pass_view.PassView.{PassView}
use Rattle.space_reclaim.specs.declared.region_word.RegionWord.TheVariants.{Filled}
use Rattle.space_reclaim.specs.declared.claim.ClaimEnd.TheVariants as claim_end
use Rattle.space_reclaim.specs.declared.claim.ClaimMachine.{ClaimMachine}
use Rattle.space_reclaim.specs.declared.claim.ClaimMachine.TheVariants as claim
use Rattle.space_reclaim.specs.RegionWords.{word_of_region}
use Rattle.space_reclaim.specs.Claims as claims
use Rattle.barriers.specs.declared.room.Room.{Room}
use Rattle.barriers.specs.declared.ends.NewEnd.{NewEnd}
use Rattle.barriers.specs.declared.ends.NewEnd.TheVariants.{Made, Refused}
use Rattle.barriers.specs.declared.ends.NewRefusal.TheVariants.{QuotaSpent, BirthsSpent}
use Rattle.barriers.specs.declared.new_object.Placement.{Placement}
use Rattle.barriers.specs.declared.new_object.NewPlan.{NewPlan}
use Rattle.barriers.specs.declared.new_object.NewMachine.{NewMachine}
use Rattle.barriers.specs.declared.new_object.NewMachine.TheVariants as make

-- the birth number of a pass's next object, of which it has made this many
abbrev pub next_birth : ℕ → ℕ → ℕ
next_birth pass made = pass * BIRTHS_BETWEEN_PASSES + made + 1

-- the header of a new object
abbrev pub new_header : ℕ → ℕ → Header
new_header len birth = record { state = Plain; colour = Even; len = len; birth = birth; target = 0 }

-- the object after the used words of a region
abbrev pub placed : ℕ → ℕ → ℕ → ℕ → ℕ → Option ℕ → Placement
placed birth len region first used last = record {
  birth = birth;
  at = first + used;
  header = word_of_header (new_header len birth);
  room = record { region = Some region; used = used + len + 1; last = last };
}

-- the address of the word of a region, if there is one
abbrev pub word_of_old : Sizes → Option ℕ → Option ℕ
word_of_old l None = None
word_of_old l (Some region) = Some (region_at l region)

-- what the claim of a region for the object knows of it
abbrev pub plan_of : Sizes → ℕ → ℕ → ℕ → Option ℕ → NewPlan
plan_of l pass made len old = record {
  birth = next_birth pass made;
  header = word_of_header (new_header len (next_birth pass made));
  words = len + 1;
  regions_at = first_word l 0;
  old_at = word_of_old l old;
}

-- the claim of a region for the object
abbrev pub claims_for : Sizes → ℕ → Room → ℕ → ℕ → NewMachine
claims_for l pass room made len = make.Look (plan_of l pass made len room.region) (claims.round_of l pass room.last)

-- the object goes into the pass's region where it fits
abbrev pub by_fit : Sizes → ℕ → Room → ℕ → ℕ → Option ℕ → Bool → NewMachine
by_fit l pass room made len (Some region) true = make.Header (placed (next_birth pass made) len region (first_word l region) room.used room.last)
by_fit l pass room made len _ _ = claims_for l pass room made len

-- no birth number is left after the last object that a pass makes
abbrev pub new_of : Sizes → PassView → Room → ℕ → ℕ → NewMachine
new_of l view room made len =
    if made == BIRTHS_OF_PASS
    then make.Ended (Refused BirthsSpent)
    else by_fit l view.pass room made len room.region (fits_after room.used len)

-- the step that it takes next
abbrev pub asks_of : NewMachine → Step
asks_of (make.Look plan round) = claims.asks_of (claim.Look round)
asks_of (make.Claim plan round) = claims.asks_of (claim.Claim round)
asks_of (make.Fill at placement) = Store at (word_of_region Filled)
asks_of (make.Header placement) = Store placement.at placement.header
asks_of (make.Ended end) = Ended

-- the object at the start of a claimed region; no table has a region past the last
abbrev pub placed_in : NewPlan → ℕ → Placement
placed_in plan region = record {
  birth = plan.birth;
  at = plan.regions_at + REGION_WORDS * min region LAST_REGION;
  header = plan.header;
  room = record { region = Some region; used = plan.words; last = Some region };
}

-- the region that the pass leaves is filled first
abbrev pub leaving_at : Option ℕ → Placement → NewMachine
leaving_at None placement = make.Header placement
leaving_at (Some at) placement = make.Fill at placement

-- what comes next with the claim of the region as it stands
abbrev pub claimed : NewPlan → ClaimMachine → NewMachine
claimed plan (claim.Look round) = make.Look plan round
claimed plan (claim.Claim round) = make.Claim plan round
claimed plan (claim.Ended (claim_end.Claimed region)) = leaving_at plan.old_at (placed_in plan region)
claimed plan (claim.Ended (claim_end.NoneFree regions)) = make.Ended (Refused (QuotaSpent regions))

-- in a claimed region the object stands as anywhere in a region: at its first word
pub placed_in-plan_of : (l : Sizes) (pass made len region : ℕ) (old : Option ℕ) → IsLayout l → IsRegion l region → placed_in (plan_of l pass made len old) region ≡ placed (next_birth pass made) len region (first_word l region) 0 (Some region)
placed_in-plan_of l pass made len region old fits is =
    let few : regions_of l ≤ MOST_REGIONS = regions_of-bound l fits in
    let at : first_word l 0 + REGION_WORDS * min region LAST_REGION ≡ first_word l region + 0 = omega arith in
    let words : len + 1 ≡ 0 + len + 1 = omega arith in
    rw (at, words) refl

-- what it is after it was fed a word
abbrev pub fed_of : NewMachine → ℕ → NewMachine
fed_of (make.Look plan round) found = claimed plan (claims.fed_of (claim.Look round) found)
fed_of (make.Claim plan round) found = claimed plan (claims.fed_of (claim.Claim round) found)
fed_of (make.Fill at placement) found = make.Header placement
fed_of (make.Header placement) found = make.Ended (Made placement.birth placement.at placement.room)
fed_of (make.Ended end) found = make.Ended end

-- the steps of the claim that are left at most, and one each for the old region's word and the header
abbrev pub left_of : NewMachine → ℕ
left_of (make.Look plan round) = claims.left_of (claim.Look round) + 2
left_of (make.Claim plan round) = claims.left_of (claim.Claim round) + 2
left_of (make.Fill at placement) = 2
left_of (make.Header placement) = 1
left_of (make.Ended end) = 0

-- what it ended with, if it has ended
abbrev pub end_of : NewMachine → Option NewEnd
end_of (make.Look plan round) = None
end_of (make.Claim plan round) = None
end_of (make.Fill at placement) = None
end_of (make.Header placement) = None
end_of (make.Ended end) = Some end

pub blind_of : (m : NewMachine) (at put n : ℕ) → asks_of m ≡ Store at put → fed_of m n ≡ fed_of m 0
blind_of (make.Look plan round) at put n e = absurd cc
blind_of (make.Claim plan round) at put n e = absurd cc
blind_of (make.Fill its placement) at put n e = refl
blind_of (make.Header placement) at put n e = refl
blind_of (make.Ended end) at put n e = refl

pub none_left_of : (m : NewMachine) → asks_of m ≡ Ended → left_of m ≡ 0
none_left_of (make.Look plan round) e = absurd cc
none_left_of (make.Claim plan round) e = absurd cc
none_left_of (make.Fill at placement) e = absurd cc
none_left_of (make.Header placement) e = absurd cc
none_left_of (make.Ended end) e = refl

pub some_left_of : (m : NewMachine) → left_of m ≡ 0 → asks_of m ≡ Ended
some_left_of (make.Look plan round) e = absurd (omega arith)
some_left_of (make.Claim plan round) e = absurd (omega arith)
some_left_of (make.Fill at placement) e = absurd (omega arith)
some_left_of (make.Header placement) e = absurd (omega arith)
some_left_of (make.Ended end) e = refl

leaving_left : (old : Option ℕ) (placement : Placement) → left_of (leaving_at old placement) ≤ 2
leaving_left None placement = omega arith
leaving_left (Some at) placement = omega arith

-- a claim that goes on has as many steps left, and what comes after it two at most
claimed_left : (plan : NewPlan) (claiming : ClaimMachine) → left_of (claimed plan claiming) ≤ claims.left_of claiming + 2
claimed_left plan (claim.Look round) = omega arith
claimed_left plan (claim.Claim round) = omega arith
claimed_left plan (claim.Ended (claim_end.Claimed region)) = leaving_left plan.old_at (placed_in plan region)
claimed_left plan (claim.Ended (claim_end.NoneFree regions)) = omega arith

claimed_falls : (plan : NewPlan) (claiming : ClaimMachine) (n : ℕ) → claims.asks_of claiming ≢ Ended → left_of (claimed plan (claims.fed_of claiming n)) < claims.left_of claiming + 2
claimed_falls plan claiming n on =
    let falls = claims.falls_of claiming n on in
    let left = claimed_left plan (claims.fed_of claiming n) in
    omega arith

pub falls_of : (m : NewMachine) (n : ℕ) → asks_of m ≢ Ended → left_of (fed_of m n) < left_of m
falls_of (make.Look plan round) n on = claimed_falls plan (claim.Look round) n on
falls_of (make.Claim plan round) n on = claimed_falls plan (claim.Claim round) n on
falls_of (make.Fill at placement) n on = lit< tt
falls_of (make.Header placement) n on = lit< tt
falls_of (make.Ended end) n on = absurd (on refl)
