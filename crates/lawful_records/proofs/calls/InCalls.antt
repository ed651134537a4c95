-- A pass that is in a call: what its record says beside its machine, and its turn by what its step comes to.
use Rattle.std.proofs.Common.{◌≡◌, ◌≢◌, ℕ, List, [], length, true, Option, Some, refl, sym, ap, ◌∙◌, subst}
use Rattle.call_steps.specs.StepLaws.{reading}
use Rattle.call_steps.specs.Steps.{applied}
use Rattle.heap_words.specs.Layouts.{Sizes}
use Rattle.heap_words.specs.declared.field_word.FieldWord.{FieldWord}
use Rattle.heap_history.specs.NewestFirst.{Before}
use Rattle.heap_history.specs.declared.call.Call.{Call}
use Rattle.heap_history.specs.declared.call.Ended.{Ended as EndedCall}
use Rattle.handshakes.specs.Handshakes.{Announced}
use Rattle.handshakes.specs.PhaseWords.{retired_word}
use Rattle.handshakes.specs.Polling.{held_in}
use Rattle.handshakes.specs.declared.pass_view.PassView.{PassView}
use Rattle.barriers.specs.declared.pass.PassMachine.{PassMachine}
use Rattle.barriers.specs.declared.pass.PassMachine.TheVariants as machine
use Rattle.barriers.specs.declared.room.Room.{Room}
use Rattle.barriers.specs.Spaces.{Space}
use Rattle.barriers.specs.Says.{Notices, IsPacked}
use Rattle.barriers.specs.Stances.{stance_at}
use Rattle.barriers.specs.Cycles.{Cycle}
use Rattle.barriers.specs.Objects.{IsCall}
use Rattle.barriers.specs.Knowns.{Known, spot_of, writes_yet}
use Rattle.lawful_records.specs.Frames.{KeepsFields}
use Rattle.barriers.specs.Kits.{Kit, Stepping}
use Rattle.lawful_records.specs.Beginnings.{call_ended, ended_call}
use Rattle.lawful_records.specs.LawfulRecords.{IsAcked, IsMachine, HasTold, IsPassRecord}
use Rattle.lawful_records.specs.Making.{IsRoom, has_room, lens_of}
use Rattle.lawful_records.specs.Meetings.{HasMade}
use Rattle.lawful_records.specs.PassTurns.{PassStands, HasTurn, in_machine, seal_at, seal_for, found_by, change_in, pass_after}
use Rattle.lawful_records.specs.Records.{view_by, registers_by, room_by, made_by, number_of, known_of}
use Rattle.lawful_records.specs.Turns.{pass_asks, pass_fed, front_by, seen_by, with_change, pass_turned, LooksOn}
use Rattle.lawful_records.specs.declared.records.PassKnown.{PassKnown}
use Rattle.lawful_records.proofs.calls.CallSteps.{CallStands, CallGoes}
use Rattle.lawful_records.proofs.frames.Machines.{good_stays, room_stays}
use Rattle.lawful_records.proofs.telling.Meeting.{named_later}
use Rattle.lawful_records.proofs.telling.Turning.{Ends, IsCallTold, seen_grows, call_ends, told_step}
use Rattle.lawful_records.proofs.turns.Ordering.{call_makes_none}
use Rattle.lawful_records.proofs.turns.Holding.{PassHolds, MachineHolds, side_at, holds_of, machine_of, record_of}

module _ {R W E M : Type 0} (kit : Kit R W E M) where
  -- a machine of a call leaves the rest of the record as it is
  pub record InCall (m : PassMachine R W E) (k : Known) : Type 0 where
    pub view : (v : PassView) → view_by m v ≡ v
    pub registers : (words : List FieldWord) → registers_by m words ≡ words
    pub room : (room : Room) → room_by m room ≡ room
    pub made : (made : ℕ) → made_by m made ≡ made
    pub known : known_of kit m ≡ Some k
    pub ended : (p : PassKnown R W E) → call_ended kit (in_machine p m) ≡ ended_call (Some k) (let view = p.pass.view in view.pass) (length p.seen)
    pub birth : (seen : List Call) → HasMade seen m
    pub has : has_room m ≡ true
    pub acked : (word : ℕ) → word ≢ retired_word → IsAcked kit m word
    pub runs : (word : ℕ) → IsAcked kit m word → word ≢ retired_word

  pub in_read : (m : R) → InCall (machine.Read m) (kit.reads m)
  in_read m = record { view = λ v. refl; registers = λ ws. refl; room = λ r. refl; made = λ n. refl; known = refl; ended = λ p. refl; birth = λ seen. tt; has = refl; acked = λ word runs. runs; runs = λ word runs. runs }

  pub in_write : (m : W) → InCall (machine.Write m) (kit.writes m)
  in_write m = record { view = λ v. refl; registers = λ ws. refl; room = λ r. refl; made = λ n. refl; known = refl; ended = λ p. refl; birth = λ seen. tt; has = refl; acked = λ word runs. runs; runs = λ word runs. runs }

  pub in_exchange : (m : E) → InCall (machine.Exchange m) (kit.exchanges m)
  in_exchange m = record { view = λ v. refl; registers = λ ws. refl; room = λ r. refl; made = λ n. refl; known = refl; ended = λ p. refl; birth = λ seen. tt; has = refl; acked = λ word runs. runs; runs = λ word runs. runs }

  module _ (by : Stepping R W E M) (l : Sizes) (a : Announced) (c : Cycle) (s : Space) (n : Notices) (p : PassKnown R W E) (words : List ℕ) (m : PassMachine R W E) (k next : Known) (was : InCall m k) (stands : PassStands kit by l a c s n (in_machine p m) words) where
    abbrev found : ℕ
    found = found_by kit by (in_machine p m) words

    abbrev then : PassMachine R W E
    then = pass_fed kit by m found

    abbrev change : Option Call
    change = change_in kit by (in_machine p m) words

    abbrev seal : Option (List Call)
    seal = s.seal (let z = spot_of k in z.at)

    abbrev now : List Call
    now = seen_by change (front_by kit by m found) seal s.history p.seen

    abbrev q : PassKnown R W E
    q = pass_turned kit by seal s.history (in_machine p m) found

    its_seal : seal_for kit by s m ≡ seal
    its_seal = ap (seal_at s) was.known

    -- ---- before its step

    same_number : number_of (in_machine p m) ≡ p.pass.view.pass
    same_number = ap (λ (v : PassView). v.pass) (was.view p.pass.view)

    held : PassHolds kit l a c s n p.pass.view p.pass.registers p.seen
    held = rw (was.view p.pass.view, was.registers p.pass.registers) at (holds_of kit l a c s n (in_machine p m) stands.own)

    stood : MachineHolds kit l c s n (in_machine p m)
    stood = machine_of kit l a c s n (in_machine p m) stands.own

    running : p.pass.view.acked ≢ retired_word
    running = was.runs p.pass.view.acked (rw (was.view p.pass.view) at stood.retired)

    pub call_stands : IsCall kit.protocol c s (side_at kit p.pass.view p.seen) k → IsPacked k → CallStands kit l c s n (reading words) p.pass.view p.seen k
    call_stands call packed = record {
      layout = stands.layout;
      says = stands.says;
      spare = stands.spare;
      phase = ap stance_at stands.announced ∙ stands.announcement.stance;
      rows = stands.rows;
      objects = stands.objects;
      lens = stands.lens;
      side = held.side;
      call = call;
      packed = packed;
      fits_own = stands.announcement.number p.pass.view held.number held.marked;
      current = λ some. rw stands.announced (stands.announcement.current p.pass.view held.number held.marked running some);
      zero = stands.announcement.zero;
      met = rw was.known at stood.call;
    }

    -- ---- after it

    module _ (is : InCall then next) (t : Space) (goes : CallGoes kit l c s t n (reading (applied (pass_asks kit by m) words)) p.pass.view p.seen change (front_by kit by m found) seal next) (untold : call_ended kit (in_machine p m) ≡ []) (fields : KeepsFields (writes_yet k) s t) where
      past : Before p.seen now
      past = seen_grows change (front_by kit by m found) seal s.history p.seen held.side.past goes.looks

      runs : p.pass.view.acked ≢ retired_word
      runs = was.runs p.pass.view.acked (rw (was.view p.pass.view) at stood.retired)

      holds : PassHolds kit l a c t n p.pass.view p.pass.registers now
      holds = record {
        number = held.number;
        side = goes.side;
        acked = held.acked;
        answers = held.answers;
        phase = held.phase;
        marked = held.marked;
        shaken = λ runs. (let shaken = held.shaken runs in record { told = shaken.told; own = shaken.own; clear = shaken.clear });
        eight = held.eight;
        good = λ i. good_stays s t (held_in p.pass.registers i) goes.others.holds (held.good i);
        named = λ i. named_later p.seen now (held_in p.pass.registers i) past (held.named i);
      }

      room : IsRoom l t p.pass.view.pass p.pass.room (lens_of p.mine)
      room = room_stays l s t p.pass.view.pass p.pass.room (lens_of p.mine) (λ region own. goes.regions region) (rw (was.view p.pass.view, was.room p.pass.room) at (stood.room was.has))

      -- it has made no object
      same_lens : lens_of q.mine ≡ lens_of p.mine
      same_lens = ap (λ change. lens_of (with_change change p.mine)) goes.change_is ∙ call_makes_none next p.pass.view.pass p.mine

      number : number_of q ≡ number_of (in_machine p m)
      number = ap (λ (v : PassView). v.pass) (is.view p.pass.view) ∙ sym same_number

      number_after : number_of (pass_after kit by s (in_machine p m) words) ≡ number_of (in_machine p m)
      number_after = subst (λ (seal : Option (List Call)). number_of (pass_turned kit by seal s.history (in_machine p m) found) ≡ number_of (in_machine p m)) (sym its_seal) number

      abbrev Tells : ℕ → List EndedCall → Type 0
      Tells pass es = Ends s.history change pass now es

      -- what the call tells, by its change
      tells_so : Tells p.pass.view.pass (ended_call (Some next) p.pass.view.pass (length now))
      tells_so =
          let pass = p.pass.view.pass in
          let front = front_by kit by m found in
          let after : Option Call → List Call = λ change. seen_by change front seal s.history p.seen in
          subst (λ change. IsCallTold pass (after change) next → Ends s.history change pass (after change) (ended_call (Some next) pass (length (after change)))) (sym goes.change_is)
          (call_ends s.history p.seen pass next front seal) (record { suits = goes.ends; answered = goes.call.answered; met = goes.met; made = goes.call.made })

      tells : Tells (number_of (in_machine p m)) (call_ended kit q)
      tells = subst (Tells (number_of (in_machine p m))) (sym (is.ended q)) (subst (λ pass. Tells pass (ended_call (Some next) p.pass.view.pass (length now))) (sym same_number) tells_so)

      told : HasTold kit t.history q
      told = subst (λ h. HasTold kit h q) (sym goes.history) (told_step kit by s.history (in_machine p m) then change (front_by kit by m found) seal number held.side.past goes.looks untold tells stood.told)

      own : IsMachine kit l c t n q then → IsPassRecord kit l a c t n q
      own machine_is = record_of kit l a c t n q (rw (is.view p.pass.view, is.registers p.pass.registers) holds) (record {
        retired = rw (is.view p.pass.view) (is.acked p.pass.view.acked runs);
        room = λ has. rw (is.view p.pass.view, is.room p.pass.room) (subst (IsRoom l t p.pass.view.pass p.pass.room) (sym same_lens) room);
        few = rw (is.made p.pass.made) (rw (was.made p.pass.made) at stood.few);
        unborn = rw (is.view p.pass.view, is.made p.pass.made) (goes.unborn p.pass.made (rw (was.view p.pass.view, was.made p.pass.made) at stood.unborn));
        machine = machine_is;
        told = told;
        call = rw is.known goes.met;
        made = is.birth now;
      })

      pub turn_in_call : IsMachine kit l c t n q then → HasTurn kit by l a c s n (in_machine p m) words
      turn_in_call machine_is = record {
        space = t;
        notices = n;
        turn = record {
          says = goes.says;
          spare = goes.spare;
          rows = goes.rows;
          objects = goes.objects;
          lens = goes.lens;
          beside = record {
            seen = goes.others;
            acks = λ other apart. refl;
            roots = λ other reg apart. refl;
            phase = refl;
            mark = refl;
            regions = λ pass region is other own. goes.regions region;
            history = rw same_number goes.grows;
          };
          leaves = goes.leaves;
          search = rw (was.view p.pass.view) goes.search;
          fields = rw was.known fields;
          history = goes.history;
          number = number_after;
          looks = subst (λ (seal : Option (List Call)). LooksOn (front_by kit by m found) seal s.history p.seen) (sym its_seal) goes.looks;
          own = subst (λ (seal : Option (List Call)). IsPassRecord kit l a c t n (pass_turned kit by seal s.history (in_machine p m) found)) (sym its_seal) (own machine_is);
        };
      }
