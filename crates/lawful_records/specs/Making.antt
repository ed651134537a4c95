-- Where a pass makes its objects, and where the making of one stands.
use Rattle.std.specs.Prelude.{◌≡◌, ◌≢◌, ℕ, zero, suc, ◌+◌, ◌<◌, ◌≤◌, Bool, true, false, List, [], ◌∷◌, ◌++◌, Option, Some, None, IsSome}
use Rattle.std.specs.Option.{ForSome}
use Rattle.heap_words.specs.Layouts.{Sizes, region_at, first_word}
use Rattle.heap_words.specs.Packing.{fits_after, packing}
use Rattle.heap_words.specs.declared.limits.TheConstants.{REGION_WORDS}
use Rattle.heap_history.specs.declared.call.Call.{Call}
use Rattle.heap_history.specs.declared.call.Call.TheVariants as calls
use Rattle.space_reclaim.specs.declared.claim.Round.{Round}
use Rattle.space_reclaim.specs.declared.region_word.RegionWord.TheVariants.{Free, Taken}
use Rattle.space_reclaim.specs.RegionWords.{word_of_region}
use Rattle.space_reclaim.specs.NextFit.{used_after_all}
use Rattle.space_reclaim.specs.OwnRegions.{IsOwn, first_own, last_own}
use Rattle.handshakes.specs.declared.retire.RetireMachine.TheVariants as retire
use Rattle.barriers.specs.declared.room.Room.{Room}
use Rattle.barriers.specs.declared.new_object.NewPlan.{NewPlan}
use Rattle.barriers.specs.declared.new_object.Placement.{Placement}
use Rattle.barriers.specs.declared.new_object.NewMachine.{NewMachine}
use Rattle.barriers.specs.declared.new_object.NewMachine.TheVariants as make
use Rattle.barriers.specs.declared.ends.NewEnd.{NewEnd}
use Rattle.barriers.specs.declared.ends.NewEnd.TheVariants as new_end
use Rattle.barriers.specs.declared.pass.PassMachine.{PassMachine}
use Rattle.barriers.specs.declared.pass.PassMachine.TheVariants as machine
use Rattle.barriers.specs.NewObjects.{plan_of, placed, next_birth}
use Rattle.barriers.specs.Spaces.{Space, Holds}

-- ---- the order of its regions

-- the lens of the objects that changes made, in the order in which they were made; the changes are given the newest first
abbrev pub lens_of : List Call → List ℕ
lens_of [] = []
lens_of (calls.NewObject pass birth len ∷ h) = lens_of h ++ len ∷ []
lens_of (c ∷ h) = lens_of h

-- the last of so many of a pass's own regions, from the first one on
abbrev pub own_last : Sizes → ℕ → ℕ → Option ℕ
own_last l pass zero = None
own_last l pass (suc k) = Some (first_own l pass + k)

-- It has claimed as many of its own regions, one after the other, as objects of these lens need that are laid one after another; it makes objects
-- in the last of them, after the words that those use there; and the regions after it are free.
pub record FollowsPacking (l : Sizes) (s : Space) (pass : ℕ) (room : Room) (lens : List ℕ) : Type 0 where
  pub region : room.region ≡ own_last l pass (packing lens)
  pub last : room.last ≡ own_last l pass (packing lens)
  pub used : IsSome room.region → room.used ≡ used_after_all REGION_WORDS lens
  pub free : (region : ℕ) → IsOwn l pass region → first_own l pass + packing lens ≤ region → s.region region ≡ Free

-- as long as they need no more regions than it has
abbrev pub IsInOrder : Sizes → Space → ℕ → Room → List ℕ → Type 0
IsInOrder l s pass room lens = packing lens ≤ l.quota → FollowsPacking l s pass room lens

-- ---- the room

-- the objects of the region end where the room says, and the region is the pass's
pub record IsRegionOf (l : Sizes) (s : Space) (pass region used : ℕ) : Type 0 where
  pub own : IsOwn l pass region
  pub taken : s.region region ≡ Taken pass
  pub ends : s.ends region ≡ first_word l region + used
  pub few : used ≤ 64

abbrev pub IsRoomIn : Sizes → Space → ℕ → Option ℕ → ℕ → Type 0
IsRoomIn l s pass None used = Unit {0}
IsRoomIn l s pass (Some region) used = IsRegionOf l s pass region used

-- the room of a pass that has made objects of these lens
pub record IsRoom (l : Sizes) (s : Space) (pass : ℕ) (room : Room) (lens : List ℕ) : Type 0 where
  pub region : IsRoomIn l s pass room.region room.used
  pub used : room.used ≤ 64
  pub last : ForSome room.last (IsOwn l pass)
  pub order : IsInOrder l s pass room lens

-- its room is what the record says: not while an object is placed, and no more once the region is left for good
abbrev pub has_room : {R W E : Type 0} → PassMachine R W E → Bool
has_room (machine.New (make.Fill at placement)) = false
has_room (machine.New (make.Header placement)) = false
has_room (machine.Retire (retire.Acknowledge r)) = false
has_room (machine.Retire retire.Ended) = false
has_room machine.Retired = false
has_room m = true

-- ---- the making of an object

-- a round of the pass's own regions, at one of them
pub record IsRound (l : Sizes) (pass : ℕ) (r : Round) : Type 0 where
  pub region : ℕ
  pub own : IsOwn l pass region
  pub at : r.at ≡ region_at l region
  pub words_at : r.words_at ≡ region_at l 0
  pub first_at : r.first_at ≡ region_at l (first_own l pass)
  pub last_at : r.last_at ≡ region_at l (last_own l pass)
  pub taken : r.taken ≡ word_of_region (Taken pass)

-- A region is claimed for an object of so many fields, which does not fit after those made so far; as long as these need fewer regions than the pass
-- has, the claim is at the next one.
pub record IsClaiming (l : Sizes) (pass : ℕ) (room : Room) (made : ℕ) (lens : List ℕ) (plan : NewPlan) (round : Round) : Type 0 where
  pub len : ℕ
  pub short : len ≤ 30
  pub few : made < 262144
  pub plan_is : plan ≡ plan_of l pass made len room.region
  pub round_is : IsRound l pass round
  pub full : packing lens ≤ l.quota → fits_after (used_after_all REGION_WORDS lens) len ≡ false
  pub next : packing lens < l.quota → (let r = round_is in r.region) ≡ first_own l pass + packing lens

-- the object is placed after the others of a region of the pass's, which is the one that packing has it in
pub record IsPlaced (l : Sizes) (s : Space) (pass made : ℕ) (lens : List ℕ) (placement : Placement) : Type 0 where
  pub len : ℕ
  pub short : len ≤ 30
  pub few : made < 262144
  pub region : ℕ
  pub used : ℕ
  pub last : Option ℕ
  pub last_own : ForSome last (IsOwn l pass)
  pub is : placement ≡ placed (next_birth pass made) len region (first_word l region) used last
  pub room : IsRegionOf l s pass region used
  pub fits : used + len + 1 ≤ 64
  pub order : IsInOrder l s pass placement.room (lens ++ len ∷ [])

-- the pass leaves this region, which is not the new one
pub record IsLeft (l : Sizes) (s : Space) (pass at : ℕ) (room : Room) (placement : Placement) : Type 0 where
  pub old : ℕ
  pub region : room.region ≡ Some old
  pub at_is : at ≡ region_at l old
  pub own : IsOwn l pass old
  pub taken : s.region old ≡ Taken pass
  pub other : (let next = placement.room in next.region) ≢ Some old

abbrev pub IsMade : Space → NewEnd → Type 0
IsMade s (new_end.Made birth at room) = Holds s birth at
IsMade s (new_end.Refused why) = Unit {0}

abbrev pub IsMaking : Sizes → Space → ℕ → Room → ℕ → List ℕ → NewMachine → Type 0
IsMaking l s pass room made lens (make.Look plan round) = IsClaiming l pass room made lens plan round
IsMaking l s pass room made lens (make.Claim plan round) = IsClaiming l pass room made lens plan round
IsMaking l s pass room made lens (make.Fill at placement) = IsPlaced l s pass made lens placement × IsLeft l s pass at room placement
IsMaking l s pass room made lens (make.Header placement) = IsPlaced l s pass made lens placement
IsMaking l s pass room made lens (make.Ended end) = IsMade s end
