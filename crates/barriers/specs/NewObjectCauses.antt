-- Why the making of an object ends as it does, whatever others do meanwhile.
use Rattle.std.specs.Prelude.{◌≡◌, ◌≢◌, ℕ, ◌+◌, ◌<◌, ◌≤◌, ◌==◌, Bool, true, false, List, [], ◌∷◌, Option, Some, None, IsSome, refl, if◌then◌else◌, ◌⊎◌, ◌++◌}
use Rattle.std.specs.Option.{ForSome}
use Rattle.std.proofs.Common.{sym, subst, ap, arith, ◌∙◌, inl, inr}
use Rattle.std.proofs.lemmas.Bool.{eqb-true, eqb-false, leb-false}
use Rattle.std.proofs.lemmas.Bool.Decides.{nat_tests}
use Rattle.call_steps.specs.declared.step.Step.TheVariants.{Store}
use Rattle.call_steps.specs.Ending.{after, Took}
use Rattle.heap_words.specs.Layouts.{Sizes, IsLayout, IsPass, regions_of, region_at, first_word}
use Rattle.heap_words.specs.PlaceLaws.{regions_of-bound}
use Rattle.heap_words.specs.declared.limits.TheConstants.{BIRTHS_OF_PASS, MOST_REGIONS, REGION_WORDS}
use Rattle.heap_words.specs.Packing.{fits_after, packing}
use Rattle.object_headers.specs.Headers.{word_of_header}
use Rattle.handshakes.specs.declared.pass_view.PassView.{PassView}
use Rattle.space_reclaim.specs.declared.claim.Round.{Round}
use Rattle.space_reclaim.specs.declared.claim.ClaimEnd.{ClaimEnd}
use Rattle.space_reclaim.specs.declared.claim.ClaimEnd.TheVariants.{Claimed, NoneFree}
use Rattle.space_reclaim.specs.declared.claim.ClaimMachine.{ClaimMachine}
use Rattle.space_reclaim.specs.declared.claim.ClaimMachine.TheVariants as claim
use Rattle.space_reclaim.specs.NextFit.{used_after_all, packing_grows}
use Rattle.space_reclaim.specs.OwnRegions.{IsOwn}
use Rattle.space_reclaim.specs.Claims as claims
use Rattle.space_reclaim.specs.ClaimRuns as claim_runs
use Rattle.space_reclaim.specs.ClaimRunLaws.{ends_with_cause}
use Rattle.barriers.specs.declared.room.Room.{Room}
use Rattle.barriers.specs.declared.ends.NewEnd.{NewEnd}
use Rattle.barriers.specs.declared.ends.NewEnd.TheVariants.{Made, Refused}
use Rattle.barriers.specs.declared.ends.NewRefusal.TheVariants.{QuotaSpent, BirthsSpent}
use Rattle.barriers.specs.declared.new_object.Placement.{Placement}
use Rattle.barriers.specs.declared.new_object.NewPlan.{NewPlan}
use Rattle.barriers.specs.declared.new_object.NewMachine.{NewMachine}
use Rattle.barriers.specs.declared.new_object.NewMachine.TheVariants as make
use Rattle.barriers.specs.NewObjects.{asks_of, fed_of, end_of, next_birth, new_header, placed, plan_of, placed_in, claims_for, by_fit, new_of, leaving_at, claimed}

-- one of its steps found the region whose word is at this address in use
abbrev pub FoundInUse : NewMachine → List ℕ → ℕ → Type 0
FoundInUse m found at = Took asks_of fed_of (λ step word. claim_runs.FindsInUse step word at) m found

-- one of its steps stored this word at the address
abbrev pub Stored : NewMachine → List ℕ → ℕ → ℕ → Type 0
Stored m found at put = Took asks_of fed_of (λ step word. step ≡ Store at put) m found

-- an object of this len does not fit after the used words of the region, or there is none
abbrev pub NeedsRegion : Option ℕ → ℕ → ℕ → Type 0
NeedsRegion None used len = Unit {0}
NeedsRegion (Some region) used len = REGION_WORDS < used + len + 1

-- the words of the object are the last used ones of the region, which is the one that the pass had, or one of the pass's own
abbrev pub EndsRegion : Sizes → ℕ → Option ℕ → ℕ → ℕ → Option ℕ → ℕ → Type 0
EndsRegion l pass had at len None used = ⊥
EndsRegion l pass had at len (Some region) used = ((had ≡ Some region) ⊎ IsOwn l pass region) × (at + len + 1 ≡ first_word l region + used)

-- what it says that an object was made: it has the next birth number, its header was stored where it stands, and there it is the last one of the region
pub record IsMade (l : Sizes) (pass : ℕ) (had : Option ℕ) (made len : ℕ) (m : NewMachine) (found : List ℕ) (birth at : ℕ) (next : Room) : Type 0 where
  pub next_birth : birth ≡ next_birth pass made
  pub stored : Stored m found at (word_of_header (new_header len birth))
  pub last : EndsRegion l pass had at len next.region next.used

-- objects of these lens, laid one after another, need as many regions as the quota, and the last one ends where the room does
abbrev pub FillsQuota : Sizes → Room → List ℕ → Type 0
FillsQuota l room lens = IsSome room.region × (l.quota ≤ packing lens) × (used_after_all REGION_WORDS lens ≡ room.used)

-- what it says that no region was free: the object needs one, each of the pass's own, as many as the quota, was found in use, and where the pass's objects have filled them, they and this one need more
pub record IsSpent (l : Sizes) (pass : ℕ) (room : Room) (len : ℕ) (m : NewMachine) (found : List ℕ) (regions : ℕ) : Type 0 where
  pub needs : NeedsRegion room.region room.used len
  pub quota : regions ≡ l.quota
  pub in_use : (region : ℕ) → IsOwn l pass region → FoundInUse m found (region_at l region)
  pub needs_more : (lens : List ℕ) → FillsQuota l room lens → l.quota < packing (lens ++ (len ∷ []))

-- what the end says of the words that the steps found
abbrev pub MakesFor : Sizes → ℕ → Room → ℕ → ℕ → NewMachine → List ℕ → NewEnd → Type 0
MakesFor l pass room made len m found (Made birth at next) = IsMade l pass room.region made len m found birth at next
MakesFor l pass room made len m found (Refused (QuotaSpent regions)) = IsSpent l pass room len m found regions
MakesFor l pass room made len m found (Refused BirthsSpent) = made ≡ BIRTHS_OF_PASS

-- whatever words its steps find, its end says why, and without a birth number it has ended at once
pub record MakesWithCause (l : Sizes) (pass : ℕ) (room : Room) (made len : ℕ) (m : NewMachine) : Type 0 where
  pub cause : (found : List ℕ) → ForSome (end_of (after fed_of m found)) (MakesFor l pass room made len m found)
  pub at_once : made ≡ BIRTHS_OF_PASS → end_of m ≡ Some (Refused BirthsSpent)

stays_ended : (end : NewEnd) (found : List ℕ) → after fed_of (make.Ended end) found ≡ make.Ended end
stays_ended end [] = refl
stays_ended end (word ∷ rest) = stays_ended end rest

ended_is : (its end : NewEnd) (found : List ℕ) → end_of (after fed_of (make.Ended its) found) ≡ Some end → its ≡ end
ended_is its end found is = let now = ap end_of (stays_ended its found) in cc

-- the end of a machine that stores a header
abbrev pub made_by : Placement → NewEnd
made_by placement = Made placement.birth placement.at placement.room

-- it ends so, and has stored the header
record StoresHeader (placement : Placement) (m : NewMachine) (found : List ℕ) (end : NewEnd) : Type 0 where
  made : made_by placement ≡ end
  stored : Stored m found placement.at placement.header

header_ends : (placement : Placement) (found : List ℕ) (end : NewEnd) → end_of (after fed_of (make.Header placement) found) ≡ Some end → StoresHeader placement (make.Header placement) found end
header_ends placement [] end is = absurd cc
header_ends placement (word ∷ rest) end is = record { made = ended_is (made_by placement) end rest is; stored = inl refl }

leaving_ends : (old : Option ℕ) (placement : Placement) (found : List ℕ) (end : NewEnd) → end_of (after fed_of (leaving_at old placement) found) ≡ Some end → StoresHeader placement (leaving_at old placement) found end
leaving_ends None placement found end is = header_ends placement found end is
leaving_ends (Some at) placement [] end is = absurd cc
leaving_ends (Some at) placement (word ∷ rest) end is = let later = header_ends placement rest end is in record { made = later.made; stored = inr later.stored }

-- it claimed a region, in which it has made the object
record MakesIn (plan : NewPlan) (claiming : ClaimMachine) (found : List ℕ) (end : NewEnd) : Type 0 where
  region : ℕ
  claims : claim_runs.after claiming found ≡ claim.Ended (Claimed region)
  made : made_by (placed_in plan region) ≡ end
  stored : Stored (claimed plan claiming) found (placed_in plan region).at plan.header

-- the end of a machine that claims a region, by that of its claim
abbrev ClaimsFor : NewPlan → ClaimMachine → List ℕ → NewEnd → Type 0
ClaimsFor plan claiming found (Made birth at next) = MakesIn plan claiming found (Made birth at next)
ClaimsFor plan claiming found (Refused (QuotaSpent regions)) = claim_runs.after claiming found ≡ claim.Ended (NoneFree regions)
ClaimsFor plan claiming found (Refused BirthsSpent) = ⊥

claim_stays : (end : ClaimEnd) (found : List ℕ) → claim_runs.after (claim.Ended end) found ≡ claim.Ended end
claim_stays end [] = refl
claim_stays end (word ∷ rest) = claim_stays end rest

makes_in : (plan : NewPlan) (region : ℕ) (found : List ℕ) (end : NewEnd) → StoresHeader (placed_in plan region) (claimed plan (claim.Ended (Claimed region))) found end → ClaimsFor plan (claim.Ended (Claimed region)) found end
makes_in plan region found (Made birth at next) is = record { region = region; claims = claim_stays (Claimed region) found; made = is.made; stored = is.stored }
makes_in plan region found (Refused (QuotaSpent regions)) is = let made = is.made in absurd cc
makes_in plan region found (Refused BirthsSpent) is = let made = is.made in absurd cc

none_free : (plan : NewPlan) (regions : ℕ) (found : List ℕ) (end : NewEnd) → Refused (QuotaSpent regions) ≡ end → ClaimsFor plan (claim.Ended (NoneFree regions)) found end
none_free plan regions found (Made birth at next) is = absurd cc
none_free plan regions found (Refused (QuotaSpent its)) is = let same : NoneFree regions ≡ NoneFree its = cc in claim_stays (NoneFree regions) found ∙ ap (λ (e : ClaimEnd). claim.Ended e) same
none_free plan regions found (Refused BirthsSpent) is = absurd cc

look_goes_on : (plan : NewPlan) (r : Round) (word : ℕ) (rest : List ℕ) (end : NewEnd) → ClaimsFor plan (claims.fed_of (claim.Look r) word) rest end → ClaimsFor plan (claim.Look r) (word ∷ rest) end
look_goes_on plan r word rest (Made birth at next) is = record { region = is.region; claims = is.claims; made = is.made; stored = inr is.stored }
look_goes_on plan r word rest (Refused (QuotaSpent regions)) is = is
look_goes_on plan r word rest (Refused BirthsSpent) is = is

claim_goes_on : (plan : NewPlan) (r : Round) (word : ℕ) (rest : List ℕ) (end : NewEnd) → ClaimsFor plan (claims.fed_of (claim.Claim r) word) rest end → ClaimsFor plan (claim.Claim r) (word ∷ rest) end
claim_goes_on plan r word rest (Made birth at next) is = record { region = is.region; claims = is.claims; made = is.made; stored = inr is.stored }
claim_goes_on plan r word rest (Refused (QuotaSpent regions)) is = is
claim_goes_on plan r word rest (Refused BirthsSpent) is = is

claimed_ends : (plan : NewPlan) (claiming : ClaimMachine) (found : List ℕ) (end : NewEnd) → end_of (after fed_of (claimed plan claiming) found) ≡ Some end → ClaimsFor plan claiming found end
claimed_ends plan (claim.Look r) [] end is = absurd cc
claimed_ends plan (claim.Look r) (word ∷ rest) end is = look_goes_on plan r word rest end (claimed_ends plan (claims.fed_of (claim.Look r) word) rest end is)
claimed_ends plan (claim.Claim r) [] end is = absurd cc
claimed_ends plan (claim.Claim r) (word ∷ rest) end is = claim_goes_on plan r word rest end (claimed_ends plan (claims.fed_of (claim.Claim r) word) rest end is)
claimed_ends plan (claim.Ended (Claimed region)) found end is = makes_in plan region found end (leaving_ends plan.old_at (placed_in plan region) found end is)
claimed_ends plan (claim.Ended (NoneFree regions)) found end is = none_free plan regions found end (ended_is (Refused (QuotaSpent regions)) end found is)

nothing_found : (end : ClaimEnd) (found : List ℕ) (at : ℕ) → claim_runs.FoundInUse (claim.Ended end) found at → ⊥
nothing_found end [] at is = is
nothing_found end (word ∷ rest) at (inl here) = here
nothing_found end (word ∷ rest) at (inr later) = nothing_found end rest at later

-- what the claim found in use, the machine found
found_by_claim : (plan : NewPlan) (claiming : ClaimMachine) (found : List ℕ) (at : ℕ) → claim_runs.FoundInUse claiming found at → FoundInUse (claimed plan claiming) found at
found_by_claim plan claiming [] at is = absurd is
found_by_claim plan (claim.Look r) (word ∷ rest) at (inl here) = inl here
found_by_claim plan (claim.Look r) (word ∷ rest) at (inr later) = inr (found_by_claim plan (claims.fed_of (claim.Look r) word) rest at later)
found_by_claim plan (claim.Claim r) (word ∷ rest) at (inl here) = inl here
found_by_claim plan (claim.Claim r) (word ∷ rest) at (inr later) = inr (found_by_claim plan (claims.fed_of (claim.Claim r) word) rest at later)
found_by_claim plan (claim.Ended end) (word ∷ rest) at is = absurd (nothing_found end (word ∷ rest) at is)

own_below : (l : Sizes) (pass region : ℕ) → IsLayout l → IsPass l pass → IsOwn l pass region → region < regions_of l
own_below l pass region fits is own = grind arith

-- an object at the start of an own region
ends_claimed : (l : Sizes) (pass made len region : ℕ) (old : Option ℕ) → IsLayout l → IsPass l pass → IsOwn l pass region → EndsRegion l pass old (placed_in (plan_of l pass made len old) region).at len (Some region) (len + 1)
ends_claimed l pass made len region old fits is own =
    let few : regions_of l ≤ MOST_REGIONS = regions_of-bound l fits in
    let below : region < regions_of l = own_below l pass region fits is own in
    (inr own, omega arith)

past_region : (o : Option ℕ) (used len : ℕ) → NeedsRegion o used len → IsSome o → REGION_WORDS < used + len + 1
past_region None used len needs some = absurd cc
past_region (Some region) used len needs some = needs

-- an object that does not fit the last of the filled regions needs one more
more_than_quota : (l : Sizes) (room : Room) (len : ℕ) (lens : List ℕ) → NeedsRegion room.region room.used len → FillsQuota l room lens → l.quota < packing (lens ++ (len ∷ []))
more_than_quota l room len lens needs fills =
    let past : REGION_WORDS < room.used + len + 1 = past_region room.region room.used len needs fills.0 in
    let same = fills.2 in
    let full : fits_after (used_after_all REGION_WORDS lens) len ≡ false = grind (arith, nat_tests) in
    let grows = packing_grows lens len full in
    let filled = fills.1 in
    omega arith

claimed_makes : (l : Sizes) (pass : ℕ) (room : Room) (made len : ℕ) → IsLayout l → IsPass l pass → NeedsRegion room.region room.used len → (found : List ℕ) (end : NewEnd) → ClaimsFor (plan_of l pass made len room.region) (claim.Look (claims.round_of l pass room.last)) found end → MakesFor l pass room made len (claims_for l pass room made len) found end
claimed_makes l pass room made len fits pass_is needs found (Made birth at next) is =
    let cause = ends_with_cause l pass room.last fits in
    let own = (cause.claimed found is.region is.claims).0 in
    let plan : NewPlan = plan_of l pass made len room.region in
    let made_is : made_by (placed_in plan is.region) ≡ Made birth at next = is.made in
    let Holds : NewEnd → Type 0 = MakesFor l pass room made len (claims_for l pass room made len) found in
    subst Holds made_is (record { next_birth = refl; stored = is.stored; last = ends_claimed l pass made len is.region room.region fits pass_is own })
claimed_makes l pass room made len fits pass_is needs found (Refused (QuotaSpent regions)) is =
    let cause = ends_with_cause l pass room.last fits in
    let none = cause.none_free found regions is in
    let plan : NewPlan = plan_of l pass made len room.region in
    record {
      needs = needs;
      quota = none.0;
      in_use = λ region own. found_by_claim plan (claim.Look (claims.round_of l pass room.last)) found (region_at l region) (none.1 region own);
      needs_more = λ lens fills. more_than_quota l room len lens needs fills;
    }
claimed_makes l pass room made len fits pass_is needs found (Refused BirthsSpent) is = absurd is

-- the placement of an object that fits its region
abbrev pub fitted : Sizes → ℕ → Room → ℕ → ℕ → ℕ → Placement
fitted l pass room made len region = placed (next_birth pass made) len region (first_word l region) room.used room.last

fitted_makes : (l : Sizes) (pass : ℕ) (room : Room) (made len region : ℕ) → room.region ≡ Some region → (found : List ℕ) (end : NewEnd) → StoresHeader (fitted l pass room made len region) (make.Header (fitted l pass room made len region)) found end → MakesFor l pass room made len (make.Header (fitted l pass room made len region)) found end
fitted_makes l pass room made len region had found end is =
    let m : NewMachine = make.Header (fitted l pass room made len region) in
    subst (MakesFor l pass room made len m found) is.made (record { next_birth = refl; stored = is.stored; last = (inl had, omega arith) })

needs_region : (o : Option ℕ) (used len : ℕ) → fits_after used len ≡ false → NeedsRegion o used len
needs_region None used len e = tt
needs_region (Some region) used len e = leb-false (used + len + 1) REGION_WORDS e

claims_cause : (l : Sizes) (pass : ℕ) (room : Room) (made len : ℕ) → IsLayout l → IsPass l pass → NeedsRegion room.region room.used len → made ≢ BIRTHS_OF_PASS → MakesWithCause l pass room made len (claims_for l pass room made len)
claims_cause l pass room made len fits pass_is needs more = record {
  cause = λ found end is. claimed_makes l pass room made len fits pass_is needs found end (claimed_ends (plan_of l pass made len room.region) (claim.Look (claims.round_of l pass room.last)) found end is);
  at_once = λ spent. absurd (more spent);
}

fit_cause : (l : Sizes) (pass : ℕ) (room : Room) (made len : ℕ) (o : Option ℕ) (b : Bool) → IsLayout l → IsPass l pass → made ≢ BIRTHS_OF_PASS → room.region ≡ o → fits_after room.used len ≡ b → MakesWithCause l pass room made len (by_fit l pass room made len o b)
fit_cause l pass room made len None b fits pass_is more e f = claims_cause l pass room made len fits pass_is (subst (λ (o : Option ℕ). NeedsRegion o room.used len) (sym e) tt) more
fit_cause l pass room made len (Some region) false fits pass_is more e f = claims_cause l pass room made len fits pass_is (needs_region room.region room.used len f) more
fit_cause l pass room made len (Some region) true fits pass_is more e f = record {
  cause = λ found end is. fitted_makes l pass room made len region e found end (header_ends (fitted l pass room made len region) found end is);
  at_once = λ spent. absurd (more spent);
}

spent_cause : (l : Sizes) (view : PassView) (room : Room) (made len : ℕ) (b : Bool) → (made == BIRTHS_OF_PASS) ≡ b → (made ≢ BIRTHS_OF_PASS → MakesWithCause l view.pass room made len (by_fit l view.pass room made len room.region (fits_after room.used len))) → MakesWithCause l view.pass room made len (if b then make.Ended (Refused BirthsSpent) else by_fit l view.pass room made len room.region (fits_after room.used len))
spent_cause l view room made len true e go = record {
  cause = λ found end is. subst (MakesFor l view.pass room made len (make.Ended (Refused BirthsSpent)) found) (ended_is (Refused BirthsSpent) end found is) (eqb-true made BIRTHS_OF_PASS e);
  at_once = λ spent. refl;
}
spent_cause l view room made len false e go = go (eqb-false made BIRTHS_OF_PASS e)

-- the making of an object ends only so
pub new_cause_of : (l : Sizes) (view : PassView) (room : Room) (made len : ℕ) → IsLayout l → IsPass l view.pass → MakesWithCause l view.pass room made len (new_of l view room made len)
new_cause_of l view room made len fits pass_is =
    spent_cause l view room made len (made == BIRTHS_OF_PASS) refl (λ more. fit_cause l view.pass room made len room.region (fits_after room.used len) fits pass_is more refl refl)
