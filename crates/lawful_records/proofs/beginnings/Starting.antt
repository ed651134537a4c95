-- A pass begins a machine.
use Rattle.std.specs.Prelude.{◌≤◌}
use Rattle.std.proofs.Common.{◌≡◌, ◌≢◌, ℕ, inl, Some, refl, sym, ap, ◌∙◌, subst, arith, true}
use Rattle.heap_words.specs.Layouts.{Sizes}
use Rattle.heap_words.specs.FieldWords.{IsFieldWord, word_of}
use Rattle.heap_words.specs.declared.operand.Operand.{Operand}
use Rattle.heap_words.specs.declared.operand.Operand.TheVariants as operands
use Rattle.heap_words.specs.declared.field_word.FieldWord.{FieldWord}
use Rattle.heap_words.specs.declared.field_word.FieldWord.TheVariants.{Link}
use Rattle.handshakes.specs.Handshakes.{Announced}
use Rattle.handshakes.specs.Polling.{held_in}
use Rattle.handshakes.specs.Polls.{poll_of}
use Rattle.handshakes.specs.Retires.{retire_of}
use Rattle.handshakes.specs.declared.pass_view.PassView.{PassView}
use Rattle.handshakes.specs.declared.poll.PollMachine.TheVariants as poll
use Rattle.handshakes.specs.declared.retire.RetireMachine.TheVariants as retire
use Rattle.barriers.specs.declared.ends.NewEnd.TheVariants as new_end
use Rattle.barriers.specs.declared.new_object.NewMachine.{NewMachine}
use Rattle.barriers.specs.declared.new_object.NewMachine.TheVariants as make
use Rattle.barriers.specs.declared.machine_end.Request.{Request}
use Rattle.barriers.specs.declared.machine_end.Request.TheVariants as requests
use Rattle.barriers.specs.declared.pass.PassMachine.{PassMachine}
use Rattle.barriers.specs.declared.pass.PassMachine.TheVariants as machine
use Rattle.barriers.specs.NewObjects.{new_of}
use Rattle.barriers.specs.Spots as spots
use Rattle.barriers.specs.Stances.{stance_at, Retired}
use Rattle.barriers.specs.States.{On}
use Rattle.barriers.specs.Values.{value_of}
use Rattle.barriers.specs.declared.room.Room.{Room}
use Rattle.barriers.specs.Spaces.{Space, Holds}
use Rattle.barriers.specs.Says.{Notices}
use Rattle.barriers.specs.Cycles.{Cycle}
use Rattle.barriers.specs.Objects.{IsCall}
use Rattle.barriers.specs.Knowns.{Known, Task, Reads, Writes, Exchanges, task_of, word_in}
use Rattle.barriers.specs.Protocols.{OnHand}
use Rattle.barriers.specs.Kits.{Kit, Stepping, Laws, own_of, cycle_at}
use Rattle.barriers.specs.Records.{operand_word, Fits, machine_for}
use Rattle.barriers.proofs.objects.Begins.{call_begins}
use Rattle.lawful_records.specs.LawfulRecords.{IsAcked, IsMachine, IsUnborn, IsPassRecord, IsWriting, IsExchanging}
use Rattle.lawful_records.specs.Making.{IsRoom, lens_of}
use Rattle.lawful_records.specs.Meetings.{HasMet}
use Rattle.lawful_records.specs.PassTurns.{in_machine}
use Rattle.lawful_records.specs.Records.{room_by, made_by, number_of}
use Rattle.lawful_records.specs.declared.records.PassKnown.{PassKnown}
use Rattle.lawful_records.proofs.telling.Starting.{IsUnmade, HasBegun, new_unmade, accessed_is, operand_packed, has_begun, told_begun, met_begun}
use Rattle.lawful_records.proofs.turns.Holding.{PassHolds, side_at, holds_of, record_of}
use Rattle.lawful_records.proofs.beginnings.Making.{new_makes}
use Rattle.lawful_records.proofs.beginnings.Running.{running}
use Rattle.lawful_records.proofs.beginnings.Taking.{Standing}

module _ {R W E M : Type 0} (kit : Kit R W E M) (by : Stepping R W E M) (laws : Laws kit by) (l : Sizes) (a : Announced) (c : Cycle) (s : Space) (n : Notices) (late : c.late ≡ true) (standing : Standing kit l s n) (p : PassKnown R W E)
    (is : IsPassRecord kit l a c s n (in_machine p machine.Idle)) where
  holds : PassHolds kit l a c s n p.pass.view p.pass.registers p.seen
  holds = holds_of kit l a c s n (in_machine p machine.Idle) is

  -- what its machine makes of the record: nothing yet
  pub record Begun (m : PassMachine R W E) : Type 0 where
    pub room : room_by m p.pass.room ≡ p.pass.room
    pub made : made_by m p.pass.made ≡ p.pass.made
    pub acked : IsAcked kit m p.pass.view.acked
    pub machine : IsMachine kit l c s n (in_machine p m) m

  -- ---- calls

  runs : stance_at p.pass.view.acked ≢ Retired
  runs = running p.pass.view.acked holds.phase is.answering.retired

  -- of the object to which a link leads that holds
  call_is : (birth at field : ℕ) (t : Task) → Holds s birth at → OnHand (Holds s) (word_in t)
      → IsCall kit.protocol c s (side_at kit p.pass.view p.seen) (kit.protocol.begins (stance_at p.pass.view.acked) (cycle_at p.pass.view.acked) (own_of kit.minds p.pass.view) (spots.spot_of birth at field) t)
  call_is birth at field t link hand = call_begins kit.protocol laws.table c s (side_at kit p.pass.view p.seen) (cycle_at p.pass.view.acked) (spots.spot_of birth at field) t holds.side
      (record { runs = runs; holds = link; place = refl; counts = inl late; hand = hand })

  called : (k : Known) (birth at field : ℕ) (t : Task) → k ≡ kit.protocol.begins (stance_at p.pass.view.acked) (cycle_at p.pass.view.acked) (own_of kit.minds p.pass.view) (spots.spot_of birth at field) t → Holds s birth at → OnHand (Holds s) (word_in t)
      → IsCall kit.protocol c s (side_at kit p.pass.view p.seen) k × (task_of k ≡ t)
  called k birth at field t is link hand = let table = laws.table in (
    subst (IsCall kit.protocol c s (side_at kit p.pass.view p.seen)) (sym is) (call_is birth at field t link hand),
    ap task_of is ∙ table.calls.begin_task (stance_at p.pass.view.acked) (cycle_at p.pass.view.acked) (own_of kit.minds p.pass.view) (spots.spot_of birth at field) t,
  )

  -- the link in a register
  link_by : (obj birth at : ℕ) → held_in p.pass.registers obj ≡ Link birth at → Holds s birth at
  link_by obj birth at is = subst (On (Holds s)) is (holds.good obj).1

  packed : (i : ℕ) → IsFieldWord (held_in p.pass.registers i)
  packed i = (holds.good i).0

  operand_holds : (what : Operand) → On (Holds s) (operand_word p.pass.registers what)
  operand_holds (operands.Num m) = tt
  operand_holds (operands.Reg register) = (holds.good register).1

  reads : (birth at field : ℕ) → Holds s birth at → Begun (machine.Read (kit.starts_read l p.pass.view birth at field))
  reads birth at field link =
      let begins = laws.begins_read l p.pass.view birth at field in
      let call = called (kit.reads (kit.starts_read l p.pass.view birth at field)) birth at field Reads begins.known link tt in
      record { room = refl; made = refl; acked = is.answering.retired; machine = (call.0, begins.own, call.1) }

  writes : (birth at field : ℕ) (word : FieldWord) → IsFieldWord word → Holds s birth at → On (Holds s) word → Begun (machine.Write (kit.starts_write l p.pass.view birth at field (word_of word)))
  writes birth at field word fits link hand =
      let begins = laws.begins_write l p.pass.view birth at field word fits in
      let call = called (kit.writes (kit.starts_write l p.pass.view birth at field (word_of word))) birth at field (Writes word) begins.known link hand in
      record { room = refl; made = refl; acked = is.answering.retired; machine = (call.0, begins.own, subst IsWriting (sym call.1) tt) }

  exchanges : (birth at field : ℕ) (expected word : FieldWord) → IsFieldWord word → Holds s birth at → On (Holds s) word → Begun (machine.Exchange (kit.starts_exchange l p.pass.view birth at field expected (word_of word)))
  exchanges birth at field expected word fits link hand =
      let begins = laws.begins_exchange l p.pass.view birth at field expected word fits in
      let call = called (kit.exchanges (kit.starts_exchange l p.pass.view birth at field expected (word_of word))) birth at field (Exchanges (value_of expected) word) begins.known link hand in
      record { room = refl; made = refl; acked = is.answering.retired; machine = (call.0, begins.own, subst IsExchanging (sym call.1) tt) }

  -- ---- a new object

  news : (m : NewMachine) → IsUnmade m → IsMachine kit l c s n (in_machine p (machine.New m)) (machine.New m) → Begun (machine.New m)
  news (make.Ended (new_end.Made birth at room)) unmade is = absurd unmade
  news m unmade made = record { room = refl; made = refl; acked = is.answering.retired; machine = made }

  -- ---- what is asked

  begun : (request : Request) (m : PassMachine R W E) → Fits request → machine_for kit l p.pass request ≡ Some m → Begun m
  begun requests.Poll m fits said =
      subst Begun (let same : machine.Poll (poll.Phase (poll_of p.pass.view p.pass.registers)) ≡ m = cc in same)
      (record { room = refl; made = refl; acked = is.answering.retired; machine = record { phase_at_is = refl; mark_at_is = refl; ack_at_is = refl; view_is = refl; registers_are = refl } })
  begun (requests.New len) m fits said =
      let new : NewMachine = new_of l p.pass.view p.pass.room p.pass.made len in
      subst Begun (let same : machine.New new ≡ m = cc in same)
      (news new (new_unmade l p.pass.view p.pass.room p.pass.made len) (new_makes l s p.pass.view p.pass.room p.pass.made (lens_of p.mine) len fits is.few (is.room refl)))
  begun (requests.Read obj field) m fits said =
      let to = accessed_is (held_in p.pass.registers obj) (λ birth at. machine.Read (kit.starts_read l p.pass.view birth at field)) m said in
      subst Begun to.3 (reads to.0 to.1 field (link_by obj to.0 to.1 to.2))
  begun (requests.Write obj field what) m fits said =
      let word : FieldWord = operand_word p.pass.registers what in
      let to = accessed_is (held_in p.pass.registers obj) (λ birth at. machine.Write (kit.starts_write l p.pass.view birth at field (word_of word))) m said in
      subst Begun to.3 (writes to.0 to.1 field word (operand_packed kit by laws l p what fits.1 packed) (link_by obj to.0 to.1 to.2) (operand_holds what))
  begun (requests.Exchange obj field expected what) m fits said =
      let word : FieldWord = operand_word p.pass.registers what in
      let from : FieldWord = operand_word p.pass.registers expected in
      let to = accessed_is (held_in p.pass.registers obj) (λ birth at. machine.Exchange (kit.starts_exchange l p.pass.view birth at field from (word_of word))) m said in
      subst Begun to.3 (exchanges to.0 to.1 field from word (operand_packed kit by laws l p what fits.2 packed) (link_by obj to.0 to.1 to.2) (operand_holds what))
  begun requests.Retire m fits said =
      subst Begun (let same : machine.Retire (retire.Root (retire_of l p.pass.view.pass p.pass.registers p.pass.room.region) 7) ≡ m = cc in same)
      (record { room = refl; made = refl; acked = is.answering.retired; machine = ((refl, omega arith), λ i less. absurd (omega arith)) })

  module _ (request : Request) (m : PassMachine R W E) (fits : Fits request) (said : machine_for kit l p.pass request ≡ Some m) where
    anew : HasBegun kit by laws l (in_machine p machine.Idle) m
    anew = has_begun kit by laws l (in_machine p machine.Idle) request m fits packed holds.named said

    as_is : Begun m
    as_is = begun request m fits said

    pub same_number : number_of (in_machine p m) ≡ p.pass.view.pass
    same_number = ap (λ (v : PassView). v.pass) anew.view

    met : HasMet kit (in_machine p m)
    met = met_begun kit by laws l (in_machine p machine.Idle) m holds.named anew

    -- it is a pass's record still
    pub begun_record : IsPassRecord kit l a c s n (in_machine p m)
    begun_record = record_of kit l a c s n (in_machine p m) (rw (anew.view, anew.registers) holds) (record {
      retired = subst (IsAcked kit m) (sym (ap (λ (v : PassView). v.acked) anew.view)) as_is.acked;
      room = λ has. subst (λ (pass : ℕ). IsRoom l s pass (room_by m p.pass.room) (lens_of p.mine)) (sym same_number) (subst (λ (room : Room). IsRoom l s p.pass.view.pass room (lens_of p.mine)) (sym as_is.room) (is.room refl));
      few = subst (λ (made : ℕ). made ≤ 262144) (sym as_is.made) is.few;
      unborn = subst (λ (pass : ℕ). IsUnborn kit s.history pass (made_by m p.pass.made)) (sym same_number) (subst (IsUnborn kit s.history p.pass.view.pass) (sym as_is.made) is.unborn);
      machine = as_is.machine;
      told = told_begun kit by laws l (in_machine p machine.Idle) s.history m refl anew is.side.past is.told;
      call = met.call;
      made = met.made;
    })
