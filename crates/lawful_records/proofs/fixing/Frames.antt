-- What is fixed of a pass stays so, where homes stay homes.
use Rattle.std.proofs.Common.{◌≡◌, ◌≢◌, ℕ, ◌<◌, List, Option, Some, None, refl, sym, ◌∙◌, subst}
use Rattle.heap_words.specs.Layouts.{Sizes}
use Rattle.heap_words.specs.declared.field_word.FieldWord.{FieldWord}
use Rattle.handshakes.specs.declared.phase_word.Phase.{Phase}
use Rattle.handshakes.specs.declared.phase_word.Phase.TheVariants as phases
use Rattle.handshakes.specs.PhaseWords.{retired_word}
use Rattle.handshakes.specs.Polling.{Polled, HaveAnswered, IsRunning, said_to}
use Rattle.handshakes.specs.PollingLaws.{poll_weaker, poll_hears}
use Rattle.handshakes.specs.declared.poll.PollMachine.{PollMachine}
use Rattle.handshakes.specs.declared.poll.PollMachine.TheVariants as poll
use Rattle.barriers.specs.declared.ends.NewEnd.TheVariants as new_end
use Rattle.barriers.specs.declared.new_object.NewMachine.{NewMachine}
use Rattle.barriers.specs.declared.new_object.NewMachine.TheVariants as make
use Rattle.barriers.specs.declared.pass.PassMachine.{PassMachine}
use Rattle.barriers.specs.declared.pass.PassMachine.TheVariants as machine
use Rattle.barriers.specs.Kits.{Kit}
use Rattle.barriers.specs.Knowns.{Known}
use Rattle.barriers.specs.Protocols.{Protocol, OnHand}
use Rattle.barriers.specs.Says.{Notices}
use Rattle.barriers.specs.Spaces.{Space}
use Rattle.barriers.specs.States.{IsHome, On}
use Rattle.barriers.proofs.words.Headers.{home_there}
use Rattle.lawful_records.specs.declared.collector.CollectorMachine.{CollectorMachine}
use Rattle.lawful_records.specs.declared.records.PassKnown.{PassKnown}
use Rattle.lawful_records.specs.Fixing.{Names, IsFixedBy, AreRootsFixed, settled, NamesHomes, IsFollowing, IsFixedCall, IsFixedMachine, IsFixedPass}
use Rattle.lawful_records.specs.Frames.{Left, Same, Untagged, Born}
use Rattle.lawful_records.specs.LawfulRecords.{IsAcked}
use Rattle.lawful_records.specs.Records.{number_of, acked_of}
use Rattle.lawful_records.proofs.frames.Machines.{on_stays}

-- ---- homes

-- homes stay homes
abbrev pub NamesOn : Space → Space → Type 0
NamesOn s t = (birth at : ℕ) → Names s birth at → Names t birth at

-- under the turns of passes
left_names : (P : Protocol) (l : Sizes) (s t : Space) (birth at : ℕ) → Left P l s t at → (IsHome (s.state at) → t.birth at ≡ s.birth at) → Names s birth at → Names t birth at
left_names P l s t birth at (Same same) born names = (born names.1 ∙ names.0, subst IsHome (sym same.state) names.1)
left_names P l s t birth at (Untagged makes was is seal wide) born names = (born names.1 ∙ names.0, subst IsHome (sym is) tt)
left_names P l s t birth at (Born was is seal wide own) born names = absurd (home_there (s.state at) names.1 was)

pub names_left : (P : Protocol) (l : Sizes) (s t : Space) → ((at : ℕ) → Left P l s t at) → ((at : ℕ) → IsHome (s.state at) → t.birth at ≡ s.birth at) → NamesOn s t
names_left P l s t left born birth at names = left_names P l s t birth at (left at) (born at) names

module _ (s t : Space) (names : NamesOn s t) where
  pub word_names : (w : FieldWord) → On (Names s) w → On (Names t) w
  word_names w on = on_stays (Names s) (Names t) w names on

  pub hand_names : (o : Option FieldWord) → OnHand (Names s) o → OnHand (Names t) o
  hand_names None on = tt
  hand_names (Some w) on = word_names w on

  pub call_names : (k : Known) → NamesHomes s k → NamesHomes t k
  call_names k is = record { at = λ z at. names z.birth z.at (is.at z at); hand = hand_names (settled k) is.hand }

  pub following_stays : (x : Polled) (m : PollMachine) → IsFollowing s x m → IsFollowing t x m
  following_stays x (poll.Ended end) is = tt
  following_stays x (poll.Phase p) is = poll_weaker (λ before now. On (Names s) now) (λ before now. On (Names t) now) (λ v w. word_names w) x (poll.Phase p) is
  following_stays x (poll.Mark p word) is = poll_weaker (λ before now. On (Names s) now) (λ before now. On (Names t) now) (λ v w. word_names w) x (poll.Mark p word) is
  following_stays x (poll.Follow p word register birth at) is = poll_weaker (λ before now. On (Names s) now) (λ before now. On (Names t) now) (λ v w. word_names w) x (poll.Follow p word register birth at) is
  following_stays x (poll.Acknowledge p word mark) is = poll_weaker (λ before now. On (Names s) now) (λ before now. On (Names t) now) (λ v w. word_names w) x (poll.Acknowledge p word mark) is

-- ---- polls

-- a poll of another phase than Fix follows nothing
answered_any : (R Q : FieldWord → FieldWord → Type 0) (phase : Phase) (registers now : List FieldWord) → phase ≢ phases.Fix → HaveAnswered R phase registers now → HaveAnswered Q phase registers now
answered_any R Q phases.Fix registers now apart is = absurd (apart refl)
answered_any R Q phases.Free registers now apart is = is
answered_any R Q phases.Mark registers now apart is = is
answered_any R Q phases.Confirm registers now apart is = is
answered_any R Q phases.Copy registers now apart is = is
answered_any R Q phases.Retired registers now apart is = is

pub following_none : (s t : Space) (x : Polled) (m : PollMachine) → (said_to x).phase ≢ phases.Fix → IsFollowing s x m → IsFollowing t x m
following_none s t x (poll.Ended end) apart is = tt
following_none s t x (poll.Phase p) apart is = is
following_none s t x (poll.Mark p word) apart is = is
following_none s t x (poll.Follow p word register birth at) apart is = absurd (apart is.1.fix)
following_none s t x (poll.Acknowledge p word mark) apart is = (is.0, answered_any (λ before now. On (Names s) now) (λ before now. On (Names t) now) (said_to x).phase x.registers p.registers apart is.1, is.2)

-- where nothing new is announced to it
pub following_hears : (s : Space) (x : Polled) (phase mark : ℕ) (m : PollMachine) → (IsRunning m → (let view = x.view in view.acked) ≢ x.announced → (phase ≡ x.announced) × (mark ≡ x.mark)) → IsFollowing s x m → IsFollowing s (record x { announced = phase; mark = mark }) m
following_hears s x phase mark (poll.Ended e) waits is = tt
following_hears s x phase mark (poll.Phase p) waits is = poll_hears (λ before now. On (Names s) now) x phase mark (waits tt) (poll.Phase p) tt is
following_hears s x phase mark (poll.Mark p word) waits is = poll_hears (λ before now. On (Names s) now) x phase mark (waits tt) (poll.Mark p word) tt is
following_hears s x phase mark (poll.Follow p word register birth at) waits is = poll_hears (λ before now. On (Names s) now) x phase mark (waits tt) (poll.Follow p word register birth at) tt is
following_hears s x phase mark (poll.Acknowledge p word mark_then) waits is = poll_hears (λ before now. On (Names s) now) x phase mark (waits tt) (poll.Acknowledge p word mark_then) tt is

-- ---- a pass

module _ {R W E M : Type 0} (kit : Kit R W E M) where
  -- what a poll of it is about
  abbrev pub polled_in : PassKnown R W E → Notices → Polled
  polled_in p n = record { view = p.pass.view; registers = p.pass.registers; announced = n.phase; mark = n.mark }

  -- What a turn of another party leaves of what is fixed of a pass.
  pub record LeavesFixed (k next : CollectorMachine M) (s t : Space) (n o : Notices) (p : PassKnown R W E) : Type 0 where
    pub names : acked_of p ≢ retired_word → IsFixedBy next (acked_of p) → NamesOn s t
    pub lets : acked_of p ≢ retired_word → IsFixedBy next (acked_of p) → IsFixedBy k (acked_of p)
    pub polls : (m : PollMachine) → p.pass.machine ≡ machine.Poll m → IsFollowing s (polled_in p n) m → IsFollowing t (polled_in p o) m
    pub roots : acked_of p ≡ retired_word → AreRootsFixed next (number_of p) → (i : ℕ) → i < 8 → On (Names t) (o.root (number_of p) i)

  module _ (k next : CollectorMachine M) (s t : Space) (n o : Notices) (p : PassKnown R W E) (leaves : LeavesFixed k next s t n o p) where
    call_leaves : (x : Known) → acked_of p ≢ retired_word → IsFixedCall kit k s (acked_of p) x → IsFixedCall kit next t (acked_of p) x
    call_leaves x runs is = (is.0, λ by. call_names s t (leaves.names runs by) x (is.1 (leaves.lets runs by)))

    new_leaves : (m : NewMachine) → acked_of p ≢ retired_word → IsFixedMachine kit k s n p (machine.New m) → IsFixedMachine kit next t o p (machine.New m)
    new_leaves (make.Ended (new_end.Made birth at room)) runs is = λ by. leaves.names runs by birth at (is (leaves.lets runs by))
    new_leaves (make.Ended (new_end.Refused why)) runs is = tt
    new_leaves (make.Look plan round) runs is = tt
    new_leaves (make.Claim plan round) runs is = tt
    new_leaves (make.Fill at placement) runs is = tt
    new_leaves (make.Header placement) runs is = tt

    machine_leaves : (x : PassMachine R W E) → p.pass.machine ≡ x → IsAcked kit x (acked_of p) → IsFixedMachine kit k s n p x → IsFixedMachine kit next t o p x
    machine_leaves (machine.Poll m) e acked is = leaves.polls m e is
    machine_leaves (machine.New m) e acked is = new_leaves m acked is
    machine_leaves (machine.Read m) e acked is = call_leaves (kit.reads m) acked is
    machine_leaves (machine.Write m) e acked is = call_leaves (kit.writes m) acked is
    machine_leaves (machine.Exchange m) e acked is = call_leaves (kit.exchanges m) acked is
    machine_leaves machine.Idle e acked is = tt
    machine_leaves machine.Retired e acked is = tt
    machine_leaves (machine.Retire m) e acked is = tt

    pub fixed_leaves : IsAcked kit p.pass.machine (acked_of p) → IsFixedPass kit k s n p → IsFixedPass kit next t o p
    fixed_leaves acked is = record {
      registers = λ runs by i. word_names s t (leaves.names runs by) _ (is.registers runs (leaves.lets runs by) i);
      machine = machine_leaves p.pass.machine refl acked is.machine;
      roots = leaves.roots;
    }
