-- What the making of an object stands on while a region is claimed, and after it.
use Rattle.std.proofs.Common.{◌≡◌, ◌≢◌, ℕ, ◌+◌, ◌-◌, ◌<◌, ◌==◌, Bool, true, false, List, [], ◌∷◌, ◌++◌, if◌then◌else◌, Option, Some, None, refl, sym, ap, ◌∙◌, subst, arith}
use Rattle.std.specs.Prelude.{nat_lt}
use Rattle.std.proofs.lemmas.Bool.Decides.{nat_tests}
use Rattle.heap_words.specs.Layouts.{Sizes, IsLayout, IsPass, region_at, first_word}
use Rattle.heap_words.specs.Packing.{packing}
use Rattle.space_reclaim.specs.declared.claim.Round.{Round}
use Rattle.space_reclaim.specs.declared.claim.ClaimEnd.TheVariants as claim_end
use Rattle.space_reclaim.specs.declared.claim.ClaimMachine.TheVariants as claim
use Rattle.space_reclaim.specs.declared.region_word.RegionWord.TheVariants.{Free, Taken, Filled}
use Rattle.space_reclaim.specs.Claims.{next_round, region_of}
use Rattle.space_reclaim.specs.Claims as claims
use Rattle.space_reclaim.specs.OwnRegions.{IsOwn, first_own}
use Rattle.barriers.specs.declared.room.Room.{Room}
use Rattle.barriers.specs.declared.new_object.NewPlan.{NewPlan}
use Rattle.barriers.specs.declared.new_object.Placement.{Placement}
use Rattle.barriers.specs.NewObjects.{plan_of, placed, placed_in, placed_in-plan_of, word_of_old, leaving_at, claimed, next_birth}
use Rattle.barriers.specs.Rows.{Rows}
use Rattle.barriers.specs.Spaces.{Space}
use Rattle.barriers.specs.Says.{put_region}
use Rattle.barriers.proofs.words.Sets.{set_here, set_else}
use Rattle.lawful_records.specs.Making.{IsRegionOf, IsRoomIn, IsRoom, IsInOrder, IsRound, IsClaiming, IsPlaced, IsLeft, IsMaking}
use Rattle.lawful_records.proofs.turns.Ordering.{order_stays, order_claims}
use Rattle.lawful_records.proofs.turns.Stepping.{own_there}

-- ---- the round

round_by : (l : Sizes) (pass : ℕ) (r : Round) → IsLayout l → IsRound l pass r → (more : Bool) → nat_lt r.at r.last_at ≡ more → IsRound l pass (record r { at = (if more then r.at + 1 else r.first_at); ahead = r.ahead - 1 })
round_by l pass r fits is true e =
    let before : r.at < r.last_at = grind (arith, nat_tests) in
    record { region = is.region + 1; own = (omega (arith, is.own.0), omega (arith, before, is.at, is.last_at)); at = omega (arith, is.at); words_at = is.words_at; first_at = is.first_at; last_at = is.last_at; taken = is.taken }
round_by l pass r fits is false e =
    record { region = first_own l pass; own = (omega arith, omega arith); at = is.first_at; words_at = is.words_at; first_at = is.first_at; last_at = is.last_at; taken = is.taken }

-- at the next region
pub round_on : (l : Sizes) (pass : ℕ) (r : Round) → IsLayout l → IsRound l pass r → IsRound l pass (next_round r)
round_on l pass r fits is = round_by l pass r fits is (nat_lt r.at r.last_at) refl

pub round_region : (l : Sizes) (pass : ℕ) (r : Round) (is : IsRound l pass r) → region_of r ≡ is.region
round_region l pass r is = omega (arith, is.at, is.words_at)

module _ (l : Sizes) (s : Space) (pass : ℕ) (room : Room) (made : ℕ) (lens : List ℕ) (plan : NewPlan) (r : Round) (fits : IsLayout l) (is : IsClaiming l pass room made lens plan r) where
  -- as long as not all regions are needed, it is at one that is free
  pub free_next : IsRoom l s pass room lens → packing lens < l.quota → s.region is.round_is.region ≡ Free
  free_next room_is few = let was = room_is.order (omega (arith, few)) in was.free is.round_is.region is.round_is.own (omega (arith, is.next few))

  pub claims_on : (packing lens < l.quota → ⊥) → IsClaiming l pass room made lens plan (next_round r)
  claims_on all = record { len = is.len; short = is.short; few = is.few; plan_is = is.plan_is; round_is = round_on l pass r fits is.round_is; full = is.full; next = λ few. absurd (all few) }

  -- ---- a region was in use, and the claim goes on or ends

  looks_on : (packing lens < l.quota → ⊥) → (none : Bool) → IsMaking l s pass room made lens (claimed plan (if none then claim.Ended (claim_end.NoneFree r.regions) else claim.Look (next_round r)))
  looks_on all true = tt
  looks_on all false = claims_on all

  pub tries_on : (packing lens < l.quota → ⊥) → (none : Bool) → IsMaking l s pass room made lens (claimed plan (if none then claim.Ended (claim_end.NoneFree r.regions) else claim.Claim (next_round r)))
  tries_on all true = tt
  tries_on all false = claims_on all

  -- a region was free, or in use
  pub looked : (free : Bool) → (free ≡ false → packing lens < l.quota → ⊥) → IsMaking l s pass room made lens (claimed plan (if free then claim.Claim r else claims.passed_by claim.Look r))
  looked true all = is
  looked false all = looks_on (all refl) (r.ahead == 0)

  -- ---- the region was free, and is taken

  module _ (rows : Rows l s.state s.len s.ends s.region) (in_layout : IsPass l pass) (room_is : IsRoom l s pass room lens) (free : s.region is.round_is.region ≡ Free) where
    abbrev k : ℕ
    k = is.round_is.region

    abbrev t : Space
    t = put_region s k (Taken pass)

    place : placed_in plan (region_of r) ≡ placed (next_birth pass made) is.len k (first_word l k) 0 (Some k)
    place =
        ap (λ (q : NewPlan). placed_in q (region_of r)) is.plan_is
        ∙ (ap (placed_in (plan_of l pass made is.len room.region)) (round_region l pass r is.round_is)
        ∙ placed_in-plan_of l pass made is.len k room.region fits (own_there l pass k fits in_layout is.round_is.own))

    -- packing has the object there too
    in_order : IsInOrder l t pass (let at = placed_in plan (region_of r) in at.room) (lens ++ is.len ∷ [])
    in_order = subst (λ (q : Placement). IsInOrder l t pass q.room (lens ++ is.len ∷ [])) (sym place) (order_claims l s pass room lens room_is.order is.len k (0 + is.len + 1) is.full is.next (omega arith))

    pub is_placed : IsPlaced l t pass made lens (placed_in plan (region_of r))
    is_placed = record {
      len = is.len;
      short = is.short;
      few = is.few;
      region = k;
      used = 0;
      last = Some k;
      last_own = λ region e. (let same : k ≡ region = cc in subst (IsOwn l pass) same is.round_is.own);
      is = place;
      room = record { own = is.round_is.own; taken = set_here s.region k (Taken pass); ends = omega (arith, rows.empty k free); few = omega arith };
      fits = omega (arith, is.short);
      order = in_order;
    }

    -- the region that it leaves is another
    pub is_left : (old : ℕ) → room.region ≡ Some old → IsLeft l t pass (region_at l old) room (placed_in plan (region_of r))
    is_left old e = record {
      old = old;
      region = e;
      at_is = refl;
      own = was.own;
      taken = set_else s.region k old (Taken pass) apart ∙ was.taken;
      other = λ same. apart (let here : region_of r ≡ old = cc in sym here ∙ round_region l pass r is.round_is);
    }
      where
        was : IsRegionOf l s pass old room.used
        was = subst (λ (region : Option ℕ). IsRoomIn l s pass region room.used) e room_is.region

        apart : old ≢ k
        apart same = absurd (let taken : s.region k ≡ Taken pass = ap s.region (sym same) ∙ was.taken in cc)

    won_by : (old : Option ℕ) → room.region ≡ old → IsMaking l t pass room made lens (leaving_at (word_of_old l old) (placed_in plan (region_of r)))
    won_by None e = is_placed
    won_by (Some old) e = (is_placed, is_left old e)

    pub won : IsMaking l t pass room made lens (leaving_at plan.old_at (placed_in plan (region_of r)))
    won = subst (λ (old : Option ℕ). IsMaking l t pass room made lens (leaving_at old (placed_in plan (region_of r)))) (sym (ap (λ (q : NewPlan). q.old_at) is.plan_is)) (won_by room.region refl)

-- ---- the region that is left is filled

pub filled : (l : Sizes) (s : Space) (pass made : ℕ) (lens : List ℕ) (at : ℕ) (room : Room) (placement : Placement) → IsPlaced l s pass made lens placement → (left : IsLeft l s pass at room placement)
    → IsPlaced l (put_region s left.old Filled) pass made lens placement
filled l s pass made lens at room placement is left = record {
  len = is.len;
  short = is.short;
  few = is.few;
  region = is.region;
  used = is.used;
  last = is.last;
  last_own = is.last_own;
  is = is.is;
  room = record { own = is.room.own; taken = set_else s.region left.old is.region Filled apart ∙ is.room.taken; ends = is.room.ends; few = is.room.few };
  fits = is.fits;
  order = order_stays l s pass placement.room (lens ++ is.len ∷ []) is.order (put_region s left.old Filled) (λ region own free. set_else s.region left.old region Filled (not_left region free) ∙ free);
}
  where
    not_left : (region : ℕ) → s.region region ≡ Free → region ≢ left.old
    not_left region free same = absurd (let was : s.region region ≡ Taken pass = ap s.region same ∙ left.taken in cc)

    apart : is.region ≢ left.old
    apart same = left.other (ap (λ (q : Placement). (let next = q.room in next.region)) is.is ∙ ap Some same)
