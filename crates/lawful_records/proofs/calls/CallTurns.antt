-- The turn of a pass in a read, a write or an exchange.
use Rattle.std.specs.Prelude.{slice_index}
use Rattle.std.proofs.Common.{◌≢◌, ℕ, List, refl, sym, ◌∙◌, subst}
use Rattle.call_steps.specs.declared.step.Step.TheVariants.{Ended}
use Rattle.call_steps.specs.StepLaws.{reading}
use Rattle.call_steps.specs.Steps.{place_of, applied, IsInside}
use Rattle.heap_words.specs.Layouts.{Sizes, words_of}
use Rattle.handshakes.specs.Handshakes.{Announced}
use Rattle.barriers.specs.declared.pass.PassMachine.TheVariants as machine
use Rattle.barriers.specs.Spaces.{Space}
use Rattle.barriers.specs.Says.{Notices}
use Rattle.barriers.specs.Cycles.{Cycle}
use Rattle.barriers.specs.Kits.{Kit, Stepping, Laws, read_said, write_said, exchange_said}
use Rattle.lawful_records.specs.LawfulRecords.{IsWriting, IsExchanging}
use Rattle.lawful_records.specs.PassTurns.{PassStands, HasTurn, in_machine, change_in}
use Rattle.lawful_records.specs.declared.records.PassKnown.{PassKnown}
use Rattle.lawful_records.proofs.calls.MachineSteps.{MachineGoes, machine_inside, machine_goes}
use Rattle.lawful_records.proofs.calls.Changes.{change_read}
use Rattle.lawful_records.proofs.calls.CallSteps.{CallKept, CallStands}
use Rattle.lawful_records.proofs.calls.InCalls.{in_read, in_write, in_exchange, call_stands, turn_in_call}
use Rattle.lawful_records.proofs.telling.Turning.{untold}
use Rattle.lawful_records.proofs.turns.Stepping.{puts}

module _ {R W E M : Type 0} (kit : Kit R W E M) (by : Stepping R W E M) (laws : Laws kit by) (l : Sizes) (a : Announced) (c : Cycle) (s : Space) (n : Notices) (p : PassKnown R W E) (words : List ℕ) where
  -- ---- in a read

  module _ (m : R) (stands : PassStands kit by l a c s n (in_machine p (machine.Read m)) words) where
    abbrev read_found : ℕ
    read_found = slice_index words (place_of (by.read_asks m))

    pub read_stands : CallStands kit l c s n (reading words) p.pass.view p.seen (kit.reads m)
    read_stands = let is = stands.own.machine in
        call_stands kit by l a c s n p words (machine.Read m) (kit.reads m) (kit.reads (by.read_fed m read_found)) (in_read kit m) stands is.0 (laws.reading.packed p.pass.view m is.1)

    pub read_inside : IsInside (words_of l) (by.read_asks m)
    read_inside = machine_inside kit laws.table laws.movable by.read_asks by.read_fed by.read_front kit.reads kit.ReadsFor kit.read_ended read_said laws.reading l c s n (reading words) p.pass.view p.seen m stands.own.machine.1 read_stands

    pub read_goes : by.read_asks m ≢ Ended → MachineGoes kit laws.table laws.movable by.read_asks by.read_fed by.read_front kit.reads kit.ReadsFor kit.read_ended read_said laws.reading l c s n (reading words) p.pass.view p.seen m stands.own.machine.1 read_stands
        (reading (applied (by.read_asks m) words)) (change_in kit by (in_machine p (machine.Read m)) words)
    read_goes on =
        let is = stands.own.machine in
        machine_goes kit laws.table laws.movable by.read_asks by.read_fed by.read_front kit.reads kit.ReadsFor kit.read_ended read_said laws.reading l c s n (reading words) p.pass.view p.seen m is.1 read_stands on
        (reading (applied (by.read_asks m) words)) (puts kit by l a c s n (in_machine p (machine.Read m)) words stands on read_inside)
        (change_in kit by (in_machine p (machine.Read m)) words) (λ task ends. sym (change_read (kit.reads (by.read_fed m read_found)) p.pass.view.pass ends (task ∙ is.2)))

    -- it stays the call that it is
    pub read_kept : by.read_asks m ≢ Ended → CallKept (kit.reads m) (kit.reads (by.read_fed m read_found))
    read_kept on = let gone = read_goes on in record { same = gone.same; ends = gone.goes.ends }

    pub read_turn : by.read_asks m ≢ Ended → HasTurn kit by l a c s n (in_machine p (machine.Read m)) words
    read_turn on =
        let is = stands.own.machine in
        let gone = read_goes on in
        turn_in_call kit by l a c s n p words (machine.Read m) (kit.reads m) (kit.reads (by.read_fed m read_found)) (in_read kit m) stands (in_read kit (by.read_fed m read_found)) gone.space gone.goes
        (untold kit by laws l c s n (in_machine p (machine.Read m)) is on) gone.fields (gone.goes.call, gone.keeps, gone.same.task ∙ is.2)

  -- ---- in a write

  module _ (m : W) (stands : PassStands kit by l a c s n (in_machine p (machine.Write m)) words) where
    abbrev write_found : ℕ
    write_found = slice_index words (place_of (by.write_asks m))

    pub write_stands : CallStands kit l c s n (reading words) p.pass.view p.seen (kit.writes m)
    write_stands = let is = stands.own.machine in
        call_stands kit by l a c s n p words (machine.Write m) (kit.writes m) (kit.writes (by.write_fed m write_found)) (in_write kit m) stands is.0 (laws.writing.packed p.pass.view m is.1)

    pub write_inside : IsInside (words_of l) (by.write_asks m)
    write_inside = machine_inside kit laws.table laws.movable by.write_asks by.write_fed by.write_front kit.writes kit.WritesFor kit.write_ended write_said laws.writing l c s n (reading words) p.pass.view p.seen m stands.own.machine.1 write_stands

    pub write_goes : by.write_asks m ≢ Ended → MachineGoes kit laws.table laws.movable by.write_asks by.write_fed by.write_front kit.writes kit.WritesFor kit.write_ended write_said laws.writing l c s n (reading words) p.pass.view p.seen m stands.own.machine.1 write_stands
        (reading (applied (by.write_asks m) words)) (change_in kit by (in_machine p (machine.Write m)) words)
    write_goes on =
        let is = stands.own.machine in
        machine_goes kit laws.table laws.movable by.write_asks by.write_fed by.write_front kit.writes kit.WritesFor kit.write_ended write_said laws.writing l c s n (reading words) p.pass.view p.seen m is.1 write_stands on
        (reading (applied (by.write_asks m) words)) (puts kit by l a c s n (in_machine p (machine.Write m)) words stands on write_inside)
        (change_in kit by (in_machine p (machine.Write m)) words) (λ task ends. refl)

    -- it stays the call that it is
    pub write_kept : by.write_asks m ≢ Ended → CallKept (kit.writes m) (kit.writes (by.write_fed m write_found))
    write_kept on = let gone = write_goes on in record { same = gone.same; ends = gone.goes.ends }

    pub write_turn : by.write_asks m ≢ Ended → HasTurn kit by l a c s n (in_machine p (machine.Write m)) words
    write_turn on =
        let is = stands.own.machine in
        let gone = write_goes on in
        turn_in_call kit by l a c s n p words (machine.Write m) (kit.writes m) (kit.writes (by.write_fed m write_found)) (in_write kit m) stands (in_write kit (by.write_fed m write_found)) gone.space gone.goes
        (untold kit by laws l c s n (in_machine p (machine.Write m)) is on) gone.fields (gone.goes.call, gone.keeps, subst IsWriting (sym gone.same.task) is.2)

  -- ---- in an exchange

  module _ (m : E) (stands : PassStands kit by l a c s n (in_machine p (machine.Exchange m)) words) where
    abbrev exchange_found : ℕ
    exchange_found = slice_index words (place_of (by.exchange_asks m))

    pub exchange_stands : CallStands kit l c s n (reading words) p.pass.view p.seen (kit.exchanges m)
    exchange_stands = let is = stands.own.machine in
        call_stands kit by l a c s n p words (machine.Exchange m) (kit.exchanges m) (kit.exchanges (by.exchange_fed m exchange_found)) (in_exchange kit m) stands is.0 (laws.exchanging.packed p.pass.view m is.1)

    pub exchange_inside : IsInside (words_of l) (by.exchange_asks m)
    exchange_inside = machine_inside kit laws.table laws.movable by.exchange_asks by.exchange_fed by.exchange_front kit.exchanges kit.ExchangesFor kit.exchange_ended exchange_said laws.exchanging l c s n (reading words) p.pass.view p.seen m stands.own.machine.1 exchange_stands

    pub exchange_goes : by.exchange_asks m ≢ Ended → MachineGoes kit laws.table laws.movable by.exchange_asks by.exchange_fed by.exchange_front kit.exchanges kit.ExchangesFor kit.exchange_ended exchange_said laws.exchanging l c s n (reading words) p.pass.view p.seen m stands.own.machine.1 exchange_stands
        (reading (applied (by.exchange_asks m) words)) (change_in kit by (in_machine p (machine.Exchange m)) words)
    exchange_goes on =
        let is = stands.own.machine in
        machine_goes kit laws.table laws.movable by.exchange_asks by.exchange_fed by.exchange_front kit.exchanges kit.ExchangesFor kit.exchange_ended exchange_said laws.exchanging l c s n (reading words) p.pass.view p.seen m is.1 exchange_stands on
        (reading (applied (by.exchange_asks m) words)) (puts kit by l a c s n (in_machine p (machine.Exchange m)) words stands on exchange_inside)
        (change_in kit by (in_machine p (machine.Exchange m)) words) (λ task ends. refl)

    -- it stays the call that it is
    pub exchange_kept : by.exchange_asks m ≢ Ended → CallKept (kit.exchanges m) (kit.exchanges (by.exchange_fed m exchange_found))
    exchange_kept on = let gone = exchange_goes on in record { same = gone.same; ends = gone.goes.ends }

    pub exchange_turn : by.exchange_asks m ≢ Ended → HasTurn kit by l a c s n (in_machine p (machine.Exchange m)) words
    exchange_turn on =
        let is = stands.own.machine in
        let gone = exchange_goes on in
        turn_in_call kit by l a c s n p words (machine.Exchange m) (kit.exchanges m) (kit.exchanges (by.exchange_fed m exchange_found)) (in_exchange kit m) stands (in_exchange kit (by.exchange_fed m exchange_found)) gone.space gone.goes
        (untold kit by laws l c s n (in_machine p (machine.Exchange m)) is on) gone.fields (gone.goes.call, gone.keeps, subst IsExchanging (sym gone.same.task) is.2)
