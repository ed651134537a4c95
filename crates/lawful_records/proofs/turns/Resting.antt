-- A pass whose machine leaves its record as it is: what holds of it apart from that machine, and its record in another such machine.
use Rattle.std.proofs.Common.{◌≡◌, ◌≢◌, ℕ, ◌≤◌, true, [], ◌++◌, length, None, refl, sym, ap}
use Rattle.std.proofs.Common.{arith}
use Rattle.heap_words.specs.Layouts.{Sizes}
use Rattle.heap_words.specs.declared.field_word.FieldWord.{FieldWord}
use Rattle.space_reclaim.specs.declared.region_word.RegionWord.{RegionWord}
use Rattle.handshakes.specs.Handshakes.{Announced}
use Rattle.handshakes.specs.PhaseWords.{retired_word}
use Rattle.handshakes.specs.Polling.{IsRunning}
use Rattle.handshakes.specs.declared.pass_view.PassView.{PassView}
use Rattle.handshakes.specs.declared.poll.PollEnd.{PollEnd}
use Rattle.handshakes.specs.declared.poll.PollMachine.{PollMachine}
use Rattle.handshakes.specs.declared.poll.PollMachine.TheVariants as poll
use Rattle.handshakes.specs.declared.retire.RetireMachine.{RetireMachine}
use Rattle.handshakes.specs.declared.retire.RetireMachine.TheVariants as retire
use Rattle.barriers.specs.declared.ends.NewEnd.TheVariants as new_end
use Rattle.barriers.specs.declared.new_object.NewMachine.{NewMachine}
use Rattle.barriers.specs.declared.new_object.NewMachine.TheVariants as make
use Rattle.barriers.specs.Spaces.{Space}
use Rattle.barriers.specs.Says.{Notices, put_region, put_root}
use Rattle.barriers.specs.Cycles.{Cycle}
use Rattle.barriers.specs.Kits.{Kit}
use Rattle.lawful_records.specs.Beginnings.{call_ended}
use Rattle.lawful_records.specs.LawfulRecords.{IsAcked, IsMachine, IsUnborn, HasTold, IsPassRecord}
use Rattle.lawful_records.specs.Making.{IsRoom, has_room, lens_of}
use Rattle.lawful_records.specs.Meetings.{HasMade}
use Rattle.lawful_records.specs.PassTurns.{in_machine}
use Rattle.lawful_records.specs.Records.{view_by, registers_by, room_by, made_by, number_of, known_of}
use Rattle.barriers.specs.declared.pass.PassMachine.{PassMachine}
use Rattle.barriers.specs.declared.pass.PassMachine.TheVariants as machine
use Rattle.lawful_records.specs.declared.records.PassKnown.{PassKnown}
use Rattle.lawful_records.proofs.telling.Telling.{told_quiet}
use Rattle.lawful_records.proofs.turns.Holding.{PassHolds, holds_of, machine_of, record_of, holds_region}

-- nothing is made yet
abbrev pub IsMakingYet : NewMachine → Type 0
IsMakingYet (make.Ended (new_end.Made birth at room)) = ⊥
IsMakingYet m = Unit {0}

-- it has not retired yet
abbrev pub IsLeaving : RetireMachine → Type 0
IsLeaving retire.Ended = ⊥
IsLeaving m = Unit {0}

module _ {R W E M : Type 0} (kit : Kit R W E M) where
  -- the pass in this machine after a step that is no change
  abbrev pub goes_to : PassKnown R W E → PassMachine R W E → PassKnown R W E
  goes_to p m = record p { pass = record p.pass { machine = m; seen = length p.seen } }

  -- in this machine the pass knows and holds what its record says, and has not retired; it is in no call and has ended none
  pub record IsQuiet (p : PassKnown R W E) (m : PassMachine R W E) : Type 0 where
    pub view : view_by m p.pass.view ≡ p.pass.view
    pub registers : registers_by m p.pass.registers ≡ p.pass.registers
    pub room : room_by m p.pass.room ≡ p.pass.room
    pub made : made_by m p.pass.made ≡ p.pass.made
    pub known : known_of kit m ≡ None
    pub ended : call_ended kit (goes_to p m) ≡ []
    pub birth : HasMade p.seen m
    pub acked : (word : ℕ) → word ≢ retired_word → IsAcked kit m word
    pub runs : (word : ℕ) → IsAcked kit m word → word ≢ retired_word

  module _ (p : PassKnown R W E) where
    pub quiet_poll : (m : PollMachine) → IsRunning m → IsQuiet p (machine.Poll m)
    quiet_poll (poll.Ended e) on = absurd on
    quiet_poll m on = record { view = refl; registers = refl; room = refl; made = refl; known = refl; ended = refl; birth = tt; acked = λ word runs. runs; runs = λ word runs. runs }

    -- a poll that has found the acknowledged word
    pub quiet_polled : (e : PollEnd) → e.view ≡ p.pass.view → e.registers ≡ p.pass.registers → IsQuiet p (machine.Poll (poll.Ended e))
    quiet_polled e view registers = record { view = view; registers = registers; room = refl; made = refl; known = refl; ended = refl; birth = tt; acked = λ word runs. runs; runs = λ word runs. runs }

    pub quiet_new : (m : NewMachine) → IsMakingYet m → IsQuiet p (machine.New m)
    quiet_new (make.Ended (new_end.Made birth at room)) on = absurd on
    quiet_new m on = record { view = refl; registers = refl; room = refl; made = refl; known = refl; ended = refl; birth = tt; acked = λ word runs. runs; runs = λ word runs. runs }

    pub quiet_retire : (m : RetireMachine) → IsLeaving m → IsQuiet p (machine.Retire m)
    quiet_retire retire.Ended on = absurd on
    quiet_retire m on = record { view = refl; registers = refl; room = refl; made = refl; known = refl; ended = refl; birth = tt; acked = λ word runs. runs; runs = λ word runs. runs }

  -- what holds of a pass in such a machine, apart from its room
  pub record PassRests (l : Sizes) (a : Announced) (c : Cycle) (s : Space) (n : Notices) (p : PassKnown R W E) : Type 0 where
    pub holds : PassHolds kit l a c s n p.pass.view p.pass.registers p.seen
    pub runs : p.pass.view.acked ≢ retired_word
    pub few : p.pass.made ≤ 262144
    pub unborn : IsUnborn kit s.history p.pass.view.pass p.pass.made
    pub told : HasTold kit s.history (in_machine p machine.Idle)

  module _ (l : Sizes) (a : Announced) (c : Cycle) (s : Space) (n : Notices) (p : PassKnown R W E) (m : PassMachine R W E) (quiet : IsQuiet p m) where
    same_number : number_of (goes_to p m) ≡ p.pass.view.pass
    same_number = ap (λ (v : PassView). v.pass) quiet.view

    pub rests_of : IsPassRecord kit l a c s n (in_machine p m) → PassRests l a c s n p
    rests_of is =
        let before = machine_of kit l a c s n (in_machine p m) is in
        let taken = holds_of kit l a c s n (in_machine p m) is in
        record {
          holds = rw (quiet.view, quiet.registers) at taken;
          runs = quiet.runs p.pass.view.acked (rw quiet.view at before.retired);
          few = rw quiet.made at before.few;
          unborn = rw (quiet.view, quiet.made) at before.unborn;
          told = told_quiet kit s.history (in_machine p m) (in_machine p machine.Idle)
              (record { number = sym same_number; mine = refl; count = before.told.count; later = omega arith; past = taken.side.past })
              (ap (λ es. p.ended ++ es) (sym quiet.ended)) before.told;
        }

    pub room_of : IsPassRecord kit l a c s n (in_machine p m) → has_room m ≡ true → IsRoom l s p.pass.view.pass p.pass.room (lens_of p.mine)
    room_of is has = let room = is.room has in rw (quiet.view, quiet.room) at room

    pub record_rests : PassRests l a c s n p → (has_room m ≡ true → IsRoom l s p.pass.view.pass p.pass.room (lens_of p.mine)) → IsMachine kit l c s n (goes_to p m) m → IsPassRecord kit l a c s n (goes_to p m)
    record_rests rests room machine_is = record_of kit l a c s n (goes_to p m) (rw (quiet.view, quiet.registers) rests.holds) (record {
      retired = rw quiet.view (quiet.acked p.pass.view.acked rests.runs);
      room = λ has. rw (quiet.view, quiet.room) (room has);
      few = rw quiet.made rests.few;
      unborn = rw (quiet.view, quiet.made) rests.unborn;
      machine = machine_is;
      told = told_quiet kit s.history (in_machine p machine.Idle) (goes_to p m)
          (record { number = same_number; mine = refl; count = refl; later = omega arith; past = rests.holds.side.past })
          (ap (λ es. p.ended ++ es) quiet.ended) rests.told;
      call = rw quiet.known tt;
      made = quiet.birth;
    })

  -- ---- after changes that the record does not read

  pub rests_region : (l : Sizes) (a : Announced) (c : Cycle) (s : Space) (n : Notices) (p : PassKnown R W E) (k : ℕ) (x : RegionWord) → PassRests l a c s n p → PassRests l a c (put_region s k x) n p
  rests_region l a c s n p k x rests =
      record { holds = holds_region kit l a c s n k x p.pass.view p.pass.registers p.seen rests.holds; runs = rests.runs; few = rests.few; unborn = rests.unborn; told = rests.told }

  pub rests_root : (l : Sizes) (a : Announced) (c : Cycle) (s : Space) (n : Notices) (p : PassKnown R W E) (pass reg : ℕ) (w : FieldWord) → PassRests l a c s n p → PassRests l a c s (put_root n pass reg w) p
  rests_root l a c s n p pass reg w rests = let was = rests.holds in record {
    holds = record { number = was.number; side = was.side; acked = was.acked; answers = was.answers; phase = was.phase; marked = was.marked; shaken = was.shaken; eight = was.eight; good = was.good; named = was.named };
    runs = rests.runs;
    few = rests.few;
    unborn = rests.unborn;
    told = rests.told;
  }
