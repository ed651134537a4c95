-- What is known of each party, read off its record. No script is in it.
use Rattle.std.specs.Prelude.{ℕ, ◌+◌, List, [], ◌∷◌, Option, Some, None}
use Rattle.heap_words.specs.declared.field_word.FieldWord.{FieldWord}
use Rattle.heap_history.specs.NewestFirst.{longer}
use Rattle.heap_history.specs.declared.call.Call.{Call}
use Rattle.handshakes.specs.declared.pass_view.PassView.{PassView}
use Rattle.handshakes.specs.Retires.{retired_view}
use Rattle.handshakes.specs.declared.poll.PollMachine.TheVariants as poll
use Rattle.handshakes.specs.declared.retire.RetireMachine.TheVariants as retire
use Rattle.barriers.specs.declared.ends.NewEnd.TheVariants as new_end
use Rattle.barriers.specs.declared.new_object.NewMachine.TheVariants as make
use Rattle.barriers.specs.declared.room.Room.{Room}
use Rattle.barriers.specs.declared.pass.PassRecord.{PassRecord}
use Rattle.barriers.specs.declared.pass.PassMachine.{PassMachine}
use Rattle.barriers.specs.declared.pass.PassMachine.TheVariants as machine
use Rattle.barriers.specs.Stances.{stance_at}
use Rattle.barriers.specs.Cycles.{Side}
use Rattle.barriers.specs.Knowns.{Known}
use Rattle.barriers.specs.Kits.{Kit, own_of}
use Rattle.lawful_records.specs.declared.records.PassKnown.{PassKnown}
use Rattle.lawful_records.specs.declared.records.Party.{Party}
use Rattle.lawful_records.specs.declared.records.Party.TheVariants as party

-- ---- a pass, with what its machine has ended with

-- what it has acknowledged, and its mark
abbrev pub view_by : {R W E : Type 0} → PassMachine R W E → PassView → PassView
view_by (machine.Poll (poll.Ended end)) view = end.view
view_by (machine.Retire retire.Ended) view = retired_view view.pass
view_by m view = view

abbrev pub registers_by : {R W E : Type 0} → PassMachine R W E → List FieldWord → List FieldWord
registers_by (machine.Poll (poll.Ended end)) registers = end.registers
registers_by m registers = registers

abbrev pub room_by : {R W E : Type 0} → PassMachine R W E → Room → Room
room_by (machine.New (make.Ended (new_end.Made birth at room))) old = room
room_by m old = old

abbrev pub made_by : {R W E : Type 0} → PassMachine R W E → ℕ → ℕ
made_by (machine.New (make.Ended (new_end.Made birth at room))) made = made + 1
made_by m made = made

-- the record that has taken in what its machine has ended with
abbrev pub taken_in : {R W E : Type 0} → PassRecord R W E → PassRecord R W E
taken_in p = record p {
  view = view_by p.machine p.view;
  registers = registers_by p.machine p.registers;
  room = room_by p.machine p.room;
  made = made_by p.machine p.made;
}

-- its number
abbrev pub number_of : {R W E : Type 0} → PassKnown R W E → ℕ
number_of p = let view = view_by p.pass.machine p.pass.view in view.pass

-- the phase word that it has acknowledged
abbrev pub acked_of : {R W E : Type 0} → PassKnown R W E → ℕ
acked_of p = let view = view_by p.pass.machine p.pass.view in view.acked

-- its mark, 0 for none
abbrev pub mark_of : {R W E : Type 0} → PassKnown R W E → ℕ
mark_of p = let view = view_by p.pass.machine p.pass.view in view.mark

module _ {R W E M : Type 0} (kit : Kit R W E M) where
  -- its side of the cycle
  abbrev pub side_of : PassKnown R W E → Side
  side_of p = let view = view_by p.pass.machine p.pass.view in record {
    pass = view.pass;
    acked = stance_at view.acked;
    own = own_of kit.minds view;
    seen = p.seen;
  }

  -- what is known of the call that it is in, if it is in one
  abbrev pub known_of : PassMachine R W E → Option Known
  known_of (machine.Read m) = Some (kit.reads m)
  known_of (machine.Write m) = Some (kit.writes m)
  known_of (machine.Exchange m) = Some (kit.exchanges m)
  known_of m = None

-- ---- all parties

-- the changes that a party has seen
abbrev pub seen_of : {R W E M : Type 0} → Party R W E M → List Call
seen_of (party.Pass p) = p.seen
seen_of (party.Collector q) = []

-- the history of all: the last change is seen by the one who made it
abbrev pub history_of : {R W E M : Type 0} → List (Party R W E M) → List Call
history_of [] = []
history_of (r ∷ rs) = longer (seen_of r) (history_of rs)
