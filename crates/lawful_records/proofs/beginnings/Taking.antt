-- A pass whose machine has ended takes that in.
use Rattle.std.specs.Prelude.{◌≤◌}
use Rattle.std.proofs.Common.{◌≡◌, ℕ, List, length, length-set, true, Option, Some, None, refl, sym, ap, ◌∙◌, subst}
use Rattle.heap_words.specs.Layouts.{Sizes, IsLayout}
use Rattle.heap_words.specs.declared.field_word.FieldWord.{FieldWord}
use Rattle.heap_words.specs.declared.field_word.FieldWord.TheVariants.{Num, Link}
use Rattle.handshakes.specs.Handshakes.{Announced}
use Rattle.handshakes.specs.Polling.{held_in}
use Rattle.handshakes.specs.declared.pass_view.PassView.{PassView}
use Rattle.handshakes.specs.declared.retire.RetireMachine.TheVariants as retire
use Rattle.barriers.specs.declared.ends.NewEnd.TheVariants as new_end
use Rattle.barriers.specs.declared.new_object.NewMachine.{NewMachine}
use Rattle.barriers.specs.declared.new_object.NewMachine.TheVariants as make
use Rattle.barriers.specs.declared.room.Room.{Room}
use Rattle.barriers.specs.declared.pass.PassRecord.{PassRecord}
use Rattle.barriers.specs.declared.pass.PassMachine.{PassMachine}
use Rattle.barriers.specs.declared.pass.PassMachine.TheVariants as machine
use Rattle.barriers.specs.States.{On}
use Rattle.barriers.specs.Spaces.{Space, Holds}
use Rattle.barriers.specs.Says.{Notices, Says}
use Rattle.barriers.specs.Rows.{Rows}
use Rattle.barriers.specs.Cycles.{Cycle}
use Rattle.barriers.specs.Knowns.{Known, Over, Got, Differs, hand_of}
use Rattle.barriers.specs.Protocols.{OnHand}
use Rattle.barriers.specs.Kits.{Kit, ending_of}
use Rattle.barriers.proofs.words.Calls.{holds_fits}
use Rattle.lawful_records.specs.Beginnings.{HasEnded, word_told, word_of_end, rested, with_word}
use Rattle.lawful_records.specs.LawfulRecords.{IsGood, IsAcked, IsMachine, IsUnborn, IsPassRecord}
use Rattle.lawful_records.specs.Making.{IsRoom, has_room, lens_of}
use Rattle.lawful_records.specs.Meetings.{FitsHand, HasSpotOf, HasMet}
use Rattle.lawful_records.specs.PassTurns.{in_machine}
use Rattle.lawful_records.specs.Records.{view_by, registers_by, room_by, made_by, number_of, acked_of, known_of, taken_in}
use Rattle.lawful_records.specs.declared.records.PassKnown.{PassKnown}
use Rattle.lawful_records.proofs.telling.Beginning.{held_put, taken, taken_number, told_taken, met_taken, rested_view, rested_registers, with_word_view}
use Rattle.lawful_records.proofs.turns.Holding.{PassHolds, holds_of, record_of}

-- the words say the space, whose objects follow each other
pub record Standing {R W E M : Type 0} (kit : Kit R W E M) (l : Sizes) (s : Space) (n : Notices) : Type 0 where
  pub layout : IsLayout l
  pub memory : ℕ → ℕ
  pub says : Says l memory s n
  pub rows : Rows l s.state s.len s.ends s.region

module _ {R W E M : Type 0} (kit : Kit R W E M) (l : Sizes) (a : Announced) (c : Cycle) (s : Space) (n : Notices) (standing : Standing kit l s n) where
  -- ---- the word of an end

  link_good : (birth at : ℕ) → Holds s birth at → IsGood s (Link birth at)
  link_good birth at holds = (holds_fits l standing.memory s n standing.rows standing.says standing.layout birth at holds, holds)

  hand_good : (word : FieldWord) → On (Holds s) word → FitsHand (Some word) → IsGood s word
  hand_good (Num m) holds fits = (fits, tt)
  hand_good (Link birth at) holds fits = link_good birth at holds

  known_good : (k : Known) (word : FieldWord) → OnHand (Holds s) (hand_of k) → FitsHand (hand_of k) → word_told (ending_of k) ≡ Some word → IsGood s word
  known_good (Over z t (Got found)) word holds fits is = let same : found ≡ word = cc in subst (IsGood s) same (hand_good found holds fits)
  known_good (Over z t (Differs found)) word holds fits is = let same : found ≡ word = cc in subst (IsGood s) same (hand_good found holds fits)
  known_good k word holds fits is = absurd cc

  made_good : (p : PassKnown R W E) (m : NewMachine) (word : FieldWord) → IsMachine kit l c s n p (machine.New m) → word_of_end kit (machine.New m) ≡ Some word → IsGood s word
  made_good p (make.Ended (new_end.Made birth at room)) word is said = let same : Link birth at ≡ word = cc in subst (IsGood s) same (link_good birth at is)
  made_good p (make.Ended (new_end.Refused why)) word is said = absurd cc
  made_good p m word is said = absurd cc

  pub end_good : (p : PassKnown R W E) (m : PassMachine R W E) (word : FieldWord) → IsMachine kit l c s n p m → HasSpotOf p.seen (known_of kit m) → word_of_end kit m ≡ Some word → IsGood s word
  end_good p (machine.New m) word is met said = made_good p m word is said
  end_good p (machine.Read m) word is met said = known_good (kit.reads m) word is.0.hand met.hand said
  end_good p (machine.Write m) word is met said = known_good (kit.writes m) word is.0.hand met.hand said
  end_good p (machine.Exchange m) word is met said = known_good (kit.exchanges m) word is.0.hand met.hand said
  end_good p m word is met said = absurd cc

  -- ---- registers

  put_eight : (r : PassRecord R W E) (register : Option ℕ) (word : Option FieldWord) → length (let q = with_word kit r register word in q.registers) ≡ length r.registers
  put_eight r (Some register) (Some word) = length-set r.registers register word
  put_eight r (Some register) None = refl
  put_eight r None word = refl

  put_good : (r : PassRecord R W E) (register : Option ℕ) (word : Option FieldWord) (i : ℕ) → ((w : FieldWord) → word ≡ Some w → IsGood s w) → IsGood s (held_in r.registers i) → IsGood s (held_in (let q = with_word kit r register word in q.registers) i)
  put_good r (Some register) (Some word) i good was = held_put (IsGood s) r.registers register word i (good word refl) was
  put_good r (Some register) None i good was = was
  put_good r None word i good was = was

  put_room : (r : PassRecord R W E) (register : Option ℕ) (word : Option FieldWord) → (let q = with_word kit r register word in q.room) ≡ r.room
  put_room r (Some register) (Some word) = refl
  put_room r (Some register) None = refl
  put_room r None word = refl

  put_made : (r : PassRecord R W E) (register : Option ℕ) (word : Option FieldWord) → (let q = with_word kit r register word in q.made) ≡ r.made
  put_made r (Some register) (Some word) = refl
  put_made r (Some register) None = refl
  put_made r None word = refl

  -- ---- the machine that is over

  rested_acked : (m : PassMachine R W E) (word : ℕ) → HasEnded kit m → IsAcked kit m word → IsAcked kit (rested kit m) word
  rested_acked machine.Idle word over is = absurd over
  rested_acked machine.Retired word over is = absurd over
  rested_acked (machine.Retire retire.Ended) word over is = is
  rested_acked (machine.Retire m) word over is = absurd over
  rested_acked (machine.Poll m) word over is = is
  rested_acked (machine.New m) word over is = is
  rested_acked (machine.Read m) word over is = is
  rested_acked (machine.Write m) word over is = is
  rested_acked (machine.Exchange m) word over is = is

  rested_has_room : (m : PassMachine R W E) → HasEnded kit m → has_room (rested kit m) ≡ true → has_room m ≡ true
  rested_has_room machine.Idle over has = absurd over
  rested_has_room machine.Retired over has = absurd over
  rested_has_room (machine.Retire m) over has = absurd cc
  rested_has_room (machine.New (make.Ended end)) over has = refl
  rested_has_room (machine.New m) over has = absurd over
  rested_has_room (machine.Poll m) over has = refl
  rested_has_room (machine.Read m) over has = refl
  rested_has_room (machine.Write m) over has = refl
  rested_has_room (machine.Exchange m) over has = refl

  rested_room : (m : PassMachine R W E) (room : Room) → room_by (rested kit m) room ≡ room
  rested_room (machine.Retire m) room = refl
  rested_room m room = refl

  rested_made : (m : PassMachine R W E) (made : ℕ) → made_by (rested kit m) made ≡ made
  rested_made (machine.Retire m) made = refl
  rested_made m made = refl

  -- after a retirement the pass's root words hold what its registers hold
  rested_is : (p : PassKnown R W E) (m : PassMachine R W E) (register : Option ℕ) → HasEnded kit m → IsMachine kit l c s n (in_machine p m) m → IsMachine kit l c s n (taken kit (in_machine p m) register) (rested kit m)
  rested_is p machine.Idle register over is = absurd over
  rested_is p machine.Retired register over is = absurd over
  rested_is p (machine.Retire retire.Ended) (Some register) over is = is
  rested_is p (machine.Retire retire.Ended) None over is = is
  rested_is p (machine.Retire m) register over is = absurd over
  rested_is p m register over is = tt

  module _ (p : PassKnown R W E) (register : Option ℕ) (over : HasEnded kit p.pass.machine) (is : IsPassRecord kit l a c s n p) where
    abbrev m : PassMachine R W E
    m = p.pass.machine

    abbrev word : Option FieldWord
    word = word_of_end kit m

    abbrev put : PassRecord R W E
    put = with_word kit (taken_in p.pass) register word

    same_view : view_by (rested kit m) put.view ≡ view_by m p.pass.view
    same_view = rested_view kit m put.view ∙ with_word_view kit (taken_in p.pass) register word

    same_room : room_by (rested kit m) put.room ≡ room_by m p.pass.room
    same_room = rested_room m put.room ∙ put_room (taken_in p.pass) register word

    same_made : made_by (rested kit m) put.made ≡ made_by m p.pass.made
    same_made = rested_made m put.made ∙ put_made (taken_in p.pass) register word

    holds : PassHolds kit l a c s n (view_by m p.pass.view) (registers_by m p.pass.registers) p.seen
    holds = holds_of kit l a c s n p is

    met : HasMet kit (taken kit p register)
    met = met_taken kit l c s n p register is.machine is.met

    now_holds : PassHolds kit l a c s n (view_by (rested kit m) put.view) (registers_by (rested kit m) put.registers) p.seen
    now_holds = rw same_view (record {
      number = holds.number;
      side = holds.side;
      acked = holds.acked;
      answers = holds.answers;
      phase = holds.phase;
      marked = holds.marked;
      shaken = holds.shaken;
      eight = ap length (rested_registers kit m put.registers) ∙ put_eight (taken_in p.pass) register word ∙ holds.eight;
      good = λ i. subst (λ (registers : List FieldWord). IsGood s (held_in registers i)) (sym (rested_registers kit m put.registers)) (put_good (taken_in p.pass) register word i (λ w said. end_good p m w is.machine is.met.call said) (holds.good i));
      named = met.registers;
    })

    -- it is a pass's record still
    pub taken_record : IsPassRecord kit l a c s n (taken kit p register)
    taken_record = record_of kit l a c s n (taken kit p register) now_holds (record {
      retired = subst (IsAcked kit (rested kit m)) (sym (ap (λ (v : PassView). v.acked) same_view)) (rested_acked m (acked_of p) over is.answering.retired);
      room = λ has. subst (λ (pass : ℕ). IsRoom l s pass (room_by (rested kit m) put.room) (lens_of p.mine)) (sym (taken_number kit p register)) (subst (λ (room : Room). IsRoom l s (number_of p) room (lens_of p.mine)) (sym same_room) (is.room (rested_has_room m over has)));
      few = subst (λ (made : ℕ). made ≤ 262144) (sym same_made) is.few;
      unborn = subst (λ (pass : ℕ). IsUnborn kit s.history pass (made_by (rested kit m) put.made)) (sym (taken_number kit p register)) (subst (IsUnborn kit s.history (number_of p)) (sym same_made) is.unborn);
      machine = rested_is p m register over is.machine;
      told = told_taken kit s.history p register is.side.past is.told;
      call = met.call;
      made = met.made;
    })
