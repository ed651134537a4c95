-- What each machine of a pass stands on stays under the turns of others.
use Rattle.std.proofs.Common.{◌≡◌, ◌≢◌, ℕ, List, [], ◌∷◌, ◌++◌, Option, Some, None, sym, ◌∙◌, subst}
use Rattle.heap_words.specs.Layouts.{Sizes, IsPass}
use Rattle.heap_words.specs.declared.field_word.FieldWord.{FieldWord}
use Rattle.heap_words.specs.declared.field_word.FieldWord.TheVariants.{Num, Link}
use Rattle.handshakes.specs.Polling.{held_in, Polled}
use Rattle.handshakes.specs.PollingLaws.{poll_weaker}
use Rattle.handshakes.specs.Retiring.{stored_by}
use Rattle.handshakes.specs.declared.poll.PollMachine.{PollMachine}
use Rattle.handshakes.specs.declared.poll.PollMachine.TheVariants as poll
use Rattle.handshakes.specs.declared.retire.RetireMachine.{RetireMachine}
use Rattle.barriers.specs.declared.room.Room.{Room}
use Rattle.barriers.specs.declared.ends.NewEnd.{NewEnd}
use Rattle.barriers.specs.declared.ends.NewEnd.TheVariants as new_end
use Rattle.barriers.specs.declared.new_object.Placement.{Placement}
use Rattle.barriers.specs.declared.new_object.NewMachine.{NewMachine}
use Rattle.barriers.specs.declared.new_object.NewMachine.TheVariants as make
use Rattle.barriers.specs.States.{On}
use Rattle.barriers.specs.Spaces.{Space, Holds}
use Rattle.barriers.specs.Says.{Notices}
use Rattle.barriers.specs.Cycles.{Cycle}
use Rattle.barriers.specs.Objects.{IsSide}
use Rattle.barriers.specs.Kits.{Kit}
use Rattle.space_reclaim.specs.OwnRegions.{IsOwn}
use Rattle.lawful_records.specs.Frames.{SameRegion, Beside}
use Rattle.lawful_records.specs.Making.{IsRegionOf, IsRoomIn, IsRoom, IsPlaced, IsLeft, IsMade, IsMaking, lens_of}
use Rattle.handshakes.specs.declared.retire.RetireMachine.TheVariants as retire
use Rattle.lawful_records.proofs.turns.Ordering.{order_stays}
use Rattle.lawful_records.specs.LawfulRecords.{AreRooted, IsGood, IsMoved, AreStored, IsPollIn, IsRetireIn, IsMachine}
use Rattle.lawful_records.specs.Records.{number_of, side_of}
use Rattle.barriers.specs.declared.pass.PassMachine.{PassMachine}
use Rattle.barriers.specs.declared.pass.PassMachine.TheVariants as machine
use Rattle.lawful_records.specs.declared.records.PassKnown.{PassKnown}

-- links hold still
abbrev pub HoldsOn : Space → Space → Type 0
HoldsOn s t = (birth at : ℕ) → Holds s birth at → Holds t birth at

-- each region of the pass's own is as it was
abbrev pub SameOwn : Sizes → Space → Space → ℕ → Type 0
SameOwn l s t pass = (region : ℕ) → IsOwn l pass region → SameRegion s t region

-- ---- words

pub on_stays : (P Q : ℕ → ℕ → Type 0) (word : FieldWord) → ((birth at : ℕ) → P birth at → Q birth at) → On P word → On Q word
on_stays P Q (Num n) more on = tt
on_stays P Q (Link birth at) more on = more birth at on

pub good_stays : (s t : Space) (word : FieldWord) → HoldsOn s t → IsGood s word → IsGood t word
good_stays s t word holds good = (good.0, on_stays (Holds s) (Holds t) word holds good.1)

pub moved_stays : (s t : Space) (before now : FieldWord) → HoldsOn s t → IsMoved s before now → IsMoved t before now
moved_stays s t before now holds moved = record { value = moved.value; good = good_stays s t now holds moved.good }

-- ---- where a pass makes its objects

pub region_stays : (l : Sizes) (s t : Space) (pass region used : ℕ) → SameOwn l s t pass → IsRegionOf l s pass region used → IsRegionOf l t pass region used
region_stays l s t pass region used same is = record {
  own = is.own;
  taken = (same region is.own).word ∙ is.taken;
  ends = (same region is.own).ends ∙ is.ends;
  few = is.few;
}

room_in_stays : (l : Sizes) (s t : Space) (pass : ℕ) (region : Option ℕ) (used : ℕ) → SameOwn l s t pass → IsRoomIn l s pass region used → IsRoomIn l t pass region used
room_in_stays l s t pass None used same is = tt
room_in_stays l s t pass (Some region) used same is = region_stays l s t pass region used same is

pub room_stays : (l : Sizes) (s t : Space) (pass : ℕ) (room : Room) (lens : List ℕ) → SameOwn l s t pass → IsRoom l s pass room lens → IsRoom l t pass room lens
room_stays l s t pass room lens same is = record {
  region = room_in_stays l s t pass room.region room.used same is.region;
  used = is.used;
  last = is.last;
  order = order_stays l s pass room lens is.order t (λ region own free. (same region own).word ∙ free);
}

placed_stays : (l : Sizes) (s t : Space) (pass made : ℕ) (lens : List ℕ) (placement : Placement) → SameOwn l s t pass → IsPlaced l s pass made lens placement → IsPlaced l t pass made lens placement
placed_stays l s t pass made lens placement same is = record {
  len = is.len;
  short = is.short;
  few = is.few;
  region = is.region;
  used = is.used;
  last = is.last;
  last_own = is.last_own;
  is = is.is;
  room = region_stays l s t pass is.region is.used same is.room;
  fits = is.fits;
  order = order_stays l s pass placement.room (lens ++ is.len ∷ []) is.order t (λ region own free. (same region own).word ∙ free);
}

left_stays : (l : Sizes) (s t : Space) (pass at : ℕ) (room : Room) (placement : Placement) → SameOwn l s t pass → IsLeft l s pass at room placement → IsLeft l t pass at room placement
left_stays l s t pass at room placement same is = record {
  old = is.old;
  region = is.region;
  at_is = is.at_is;
  own = is.own;
  taken = (same is.old is.own).word ∙ is.taken;
  other = is.other;
}

made_stays : (s t : Space) (end : NewEnd) → HoldsOn s t → IsMade s end → IsMade t end
made_stays s t (new_end.Made birth at room) holds is = holds birth at is
made_stays s t (new_end.Refused why) holds is = tt

pub making_stays : (l : Sizes) (s t : Space) (pass : ℕ) (room : Room) (made : ℕ) (lens : List ℕ) (m : NewMachine) → HoldsOn s t → SameOwn l s t pass → IsMaking l s pass room made lens m → IsMaking l t pass room made lens m
making_stays l s t pass room made lens (make.Look plan round) holds same is = is
making_stays l s t pass room made lens (make.Claim plan round) holds same is = is
making_stays l s t pass room made lens (make.Fill at placement) holds same is = (placed_stays l s t pass made lens placement same is.0, left_stays l s t pass at room placement same is.1)
making_stays l s t pass room made lens (make.Header placement) holds same is = placed_stays l s t pass made lens placement same is
making_stays l s t pass room made lens (make.Ended end) holds same is = made_stays s t end holds is

-- ---- polls and retirements

pub stored_stays : (n o : Notices) (pass : ℕ) (registers : List FieldWord) (count : ℕ) → ((reg : ℕ) → o.root pass reg ≡ n.root pass reg) → AreStored n pass registers count → AreStored o pass registers count
stored_stays n o pass registers count same stored i less = same i ∙ stored i less

pub poll_stays : (s t : Space) (x : Polled) (m : PollMachine) → HoldsOn s t → IsPollIn s x m → IsPollIn t x m
poll_stays s t x (poll.Ended end) holds is = is
poll_stays s t x (poll.Phase p) holds is = poll_weaker (IsMoved s) (IsMoved t) (λ v w. moved_stays s t v w holds) x (poll.Phase p) is
poll_stays s t x (poll.Mark p word) holds is = poll_weaker (IsMoved s) (IsMoved t) (λ v w. moved_stays s t v w holds) x (poll.Mark p word) is
poll_stays s t x (poll.Follow p word register birth at) holds is = poll_weaker (IsMoved s) (IsMoved t) (λ v w. moved_stays s t v w holds) x (poll.Follow p word register birth at) is
poll_stays s t x (poll.Acknowledge p word mark) holds is = poll_weaker (IsMoved s) (IsMoved t) (λ v w. moved_stays s t v w holds) x (poll.Acknowledge p word mark) is

pub rooted_stays : (s t : Space) (n o : Notices) (pass : ℕ) (registers : List FieldWord) → ((reg : ℕ) → o.root pass reg ≡ n.root pass reg) → HoldsOn s t → AreRooted s n pass registers → AreRooted t o pass registers
rooted_stays s t n o pass registers same holds rooted i less = subst (IsMoved t (held_in registers i)) (sym (same i)) (moved_stays s t (held_in registers i) (n.root pass i) holds (rooted i less))

-- a retirement under way keeps its root words, and one that has ended has them hold
pub retire_keeps : (l : Sizes) (s t : Space) (n o : Notices) (pass : ℕ) (registers : List FieldWord) (region : Option ℕ) (m : RetireMachine) → (m ≢ retire.Ended → (reg : ℕ) → o.root pass reg ≡ n.root pass reg) → (AreRooted s n pass registers → AreRooted t o pass registers)
    → IsRetireIn l s n pass registers region m → IsRetireIn l t o pass registers region m
retire_keeps l s t n o pass registers region retire.Ended same rooted is = rooted is
retire_keeps l s t n o pass registers region (retire.Root r behind) same rooted is = (is.0, stored_stays n o pass registers (stored_by (retire.Root r behind)) (same (λ e. cc e)) is.1)
retire_keeps l s t n o pass registers region (retire.Region r at) same rooted is = (is.0, stored_stays n o pass registers (stored_by (retire.Region r at)) (same (λ e. cc e)) is.1)
retire_keeps l s t n o pass registers region (retire.Acknowledge r) same rooted is = (is.0, stored_stays n o pass registers (stored_by (retire.Acknowledge r)) (same (λ e. cc e)) is.1)

pub retire_stays : (l : Sizes) (s t : Space) (n o : Notices) (pass : ℕ) (registers : List FieldWord) (region : Option ℕ) (m : RetireMachine) → ((reg : ℕ) → o.root pass reg ≡ n.root pass reg) → HoldsOn s t → IsRetireIn l s n pass registers region m → IsRetireIn l t o pass registers region m
retire_stays l s t n o pass registers region m same holds is = retire_keeps l s t n o pass registers region m (λ on. same) (rooted_stays s t n o pass registers same holds) is

-- ---- the machine of a pass

module _ {R W E M : Type 0} (kit : Kit R W E M) where
  pub machine_stays : (l : Sizes) (c : Cycle) (m : ℕ) (s t : Space) (n o : Notices) (p : PassKnown R W E) (x : PassMachine R W E) → IsPass l (number_of p) → number_of p ≢ m → Beside kit l c m s t n o → IsSide kit.protocol c s (side_of kit p)
      → IsMachine kit l c s n p x → IsMachine kit l c t o p x
  machine_stays l c m s t n o p machine.Idle pass other beside side is = tt
  machine_stays l c m s t n o p machine.Retired pass other beside side is = rooted_stays s t n o (number_of p) p.pass.registers (λ reg. beside.roots (number_of p) reg other) beside.seen.holds is
  machine_stays l c m s t n o p (machine.Poll x) pass other beside side is =
      let at : ℕ → ℕ → Polled = λ announced mark. record { view = p.pass.view; registers = p.pass.registers; announced = announced; mark = mark } in
      let now : IsPollIn t (at n.phase n.mark) x = poll_stays s t (at n.phase n.mark) x beside.seen.holds is in
      subst (λ (phase : ℕ). IsPollIn t (at phase o.mark) x) (sym beside.phase) (subst (λ (mark : ℕ). IsPollIn t (at n.phase mark) x) (sym beside.mark) now)
  machine_stays l c m s t n o p (machine.New x) pass other beside side is =
      making_stays l s t (number_of p) p.pass.room p.pass.made (lens_of p.mine) x beside.seen.holds (λ region own. beside.regions (number_of p) region pass other own) is
  machine_stays l c m s t n o p (machine.Read x) pass other beside side is = (beside.seen.call (side_of kit p) (kit.reads x) side is.0, is.1, is.2)
  machine_stays l c m s t n o p (machine.Write x) pass other beside side is = (beside.seen.call (side_of kit p) (kit.writes x) side is.0, is.1, is.2)
  machine_stays l c m s t n o p (machine.Exchange x) pass other beside side is = (beside.seen.call (side_of kit p) (kit.exchanges x) side is.0, is.1, is.2)
  machine_stays l c m s t n o p (machine.Retire x) pass other beside side is =
      retire_stays l s t n o (number_of p) p.pass.registers (let room = p.pass.room in room.region) x (λ reg. beside.roots (number_of p) reg other) beside.seen.holds is
