-- The making of an object begins.
use Rattle.std.specs.Prelude.{nat_le, nat_lt, IsSome}
use Rattle.std.proofs.Common.{◌≡◌, ℕ, ◌+◌, ◌<◌, ◌≤◌, ◌==◌, ◌&&◌, Bool, true, false, if◌then◌else◌, List, Option, Some, None, refl, arith}
use Rattle.std.proofs.lemmas.Bool.Decides.{nat_tests}
use Rattle.heap_words.specs.Layouts.{Sizes}
use Rattle.heap_words.specs.Packing.{fits_after}
use Rattle.heap_words.specs.declared.limits.TheConstants.{BIRTHS_OF_PASS}
use Rattle.handshakes.specs.declared.pass_view.PassView.{PassView}
use Rattle.space_reclaim.specs.Claims.{round_of}
use Rattle.space_reclaim.specs.OwnRegions.{IsOwn, first_own, last_own, begins_at}
use Rattle.barriers.specs.declared.ends.NewEnd.TheVariants as new_end
use Rattle.barriers.specs.declared.ends.NewRefusal.TheVariants.{BirthsSpent}
use Rattle.barriers.specs.declared.new_object.NewMachine.TheVariants as make
use Rattle.barriers.specs.declared.room.Room.{Room}
use Rattle.barriers.specs.NewObjects.{plan_of, by_fit, new_of}
use Rattle.barriers.specs.Spaces.{Space}
use Rattle.lawful_records.specs.Making.{IsRoomIn, IsRoom, IsRound, IsClaiming, IsMaking}
use Rattle.lawful_records.proofs.turns.Ordering.{full_of, begins_in_order, order_fits}

-- ---- the round of a claim

begins_own : (l : Sizes) (pass : ℕ) (last : Option ℕ) → IsOwn l pass (begins_at l pass last)
begins_own l pass None = (omega arith, omega arith)
begins_own l pass (Some region) = after region (nat_le (first_own l pass) region) (nat_lt region (last_own l pass)) refl refl
  where
    after : (region : ℕ) (low high : Bool) → nat_le (first_own l pass) region ≡ low → nat_lt region (last_own l pass) ≡ high → IsOwn l pass (if low && high then region + 1 else first_own l pass)
    after region true true e f = grind (arith, nat_tests)
    after region true false e f = (omega arith, omega arith)
    after region false high e f = (omega arith, omega arith)

round_begins : (l : Sizes) (pass : ℕ) (last : Option ℕ) → IsRound l pass (round_of l pass last)
round_begins l pass last = record { region = begins_at l pass last; own = begins_own l pass last; at = refl; words_at = refl; first_at = refl; last_at = refl; taken = refl }

-- ---- the making

module _ (l : Sizes) (s : Space) (pass : ℕ) (room : Room) (made len : ℕ) (lens : List ℕ) (short : len ≤ 30) (few : made < 262144) (is : IsRoom l s pass room lens) where
  -- a region is claimed where the room, if there is any, is too small
  claims : (IsSome room.region → fits_after room.used len ≡ false) → IsClaiming l pass room made lens (plan_of l pass made len room.region) (round_of l pass room.last)
  unfolding round_begins
  claims full = record {
    len = len;
    short = short;
    few = few;
    plan_is = refl;
    round_is = round_begins l pass room.last;
    full = full_of l s pass room lens is.order len full;
    next = begins_in_order l s pass room lens is.order;
  }

  goes_in : fits_after room.used len ≡ true → (region : Option ℕ) → room.region ≡ region → IsRoomIn l s pass region room.used → IsMaking l s pass room made lens (by_fit l pass room made len region true)
  goes_in fits None e there = claims (λ some. absurd (cc (rw e at some)))
  goes_in fits (Some region) e there = record {
    len = len;
    short = short;
    few = few;
    region = region;
    used = room.used;
    last = room.last;
    last_own = is.last;
    is = refl;
    room = there;
    fits = grind (arith, nat_tests);
    order = order_fits l s pass room lens is.order len region e fits;
  }

  claims_by : fits_after room.used len ≡ false → (region : Option ℕ) → IsMaking l s pass room made lens (by_fit l pass room made len region false)
  claims_by full None = claims (λ some. full)
  claims_by full (Some region) = claims (λ some. full)

  pub by_space : (fits : Bool) → fits_after room.used len ≡ fits → IsMaking l s pass room made lens (by_fit l pass room made len room.region fits)
  by_space true e = goes_in e room.region refl is.region
  by_space false e = claims_by e room.region

by_births : (l : Sizes) (s : Space) (pass : ℕ) (room : Room) (made len : ℕ) (lens : List ℕ) → len ≤ 30 → made ≤ 262144 → IsRoom l s pass room lens → (spent : Bool) → (made == BIRTHS_OF_PASS) ≡ spent
    → IsMaking l s pass room made lens (if spent then make.Ended (new_end.Refused BirthsSpent) else by_fit l pass room made len room.region (fits_after room.used len))
by_births l s pass room made len lens short few is true e = tt
by_births l s pass room made len lens short few is false e = let less : made < 262144 = grind (arith, nat_tests) in by_space l s pass room made len lens short less is (fits_after room.used len) refl

-- with its room it begins to make an object
pub new_makes : (l : Sizes) (s : Space) (view : PassView) (room : Room) (made : ℕ) (lens : List ℕ) (len : ℕ) → len ≤ 30 → made ≤ 262144 → IsRoom l s view.pass room lens → IsMaking l s view.pass room made lens (new_of l view room made len)
new_makes l s view room made lens len short few is = by_births l s view.pass room made len lens short few is (made == BIRTHS_OF_PASS) refl
