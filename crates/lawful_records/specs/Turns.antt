-- What a step makes of the record of its party.
use Rattle.std.specs.Prelude.{ℕ, ◌+◌, Bool, nat_lt, ◌&&◌, List, [], ◌∷◌, ◌++◌, length, Option, Some, None, if◌then◌else◌}
use Rattle.object_headers.specs.Headers.{header_at}
use Rattle.call_steps.specs.Steps.{place_of}
use Rattle.call_steps.specs.declared.step.Step.{Step}
use Rattle.heap_history.specs.NewestFirst.{Before}
use Rattle.heap_history.specs.declared.call.Call.{Call}
use Rattle.heap_history.specs.declared.call.Call.TheVariants as calls
use Rattle.barriers.specs.declared.front.Front.{Front}
use Rattle.barriers.specs.declared.front.Front.TheVariants.{Stays}
use Rattle.barriers.specs.declared.new_object.NewMachine.{NewMachine}
use Rattle.barriers.specs.declared.new_object.NewMachine.TheVariants as make
use Rattle.barriers.specs.declared.pass.PassMachine.{PassMachine}
use Rattle.barriers.specs.declared.pass.PassMachine.TheVariants as machine
use Rattle.barriers.specs.Knowns.{Known, spot_of, task_of, call_of, front}
use Rattle.barriers.specs.Protocols.{has_made}
use Rattle.barriers.specs.Kits.{Kit, Stepping}
use Rattle.barriers.specs.PassMachines as pass_machines
use Rattle.space_reclaim.specs.declared.move_job.MoveJob.{MoveJob}
use Rattle.space_reclaim.specs.Plans.{Planned}
use Rattle.lawful_records.specs.declared.collector.CollectorMachine.{CollectorMachine}
use Rattle.lawful_records.specs.Collectors.{seals_of, awaits_behind}
use Rattle.lawful_records.specs.Collectors as collectors
use Rattle.lawful_records.specs.Records.{number_of, history_of}
use Rattle.lawful_records.specs.declared.records.PassKnown.{PassKnown}
use Rattle.lawful_records.specs.declared.records.CollectorKnown.{CollectorKnown}
use Rattle.lawful_records.specs.declared.records.Sealed.{Sealed}
use Rattle.lawful_records.specs.declared.records.Party.{Party}
use Rattle.lawful_records.specs.declared.records.Party.TheVariants as party

-- ---- changes

-- the store of its header makes an object
abbrev pub change_new : NewMachine → ℕ → Option Call
change_new (make.Header placement) pass = Some (calls.NewObject pass placement.birth (let header = header_at placement.header in header.len))
change_new m pass = None

-- a call that has ended with its change
abbrev pub change_call : Known → ℕ → Option Call
change_call k pass = if has_made k then Some (call_of pass (spot_of k) (task_of k)) else None

abbrev pub with_change : Option Call → List Call → List Call
with_change None h = h
with_change (Some c) h = c ∷ h

-- what was seen after a step that is this change, or a look with this front at an object that was sealed then, if it is sealed
abbrev pub seen_by : Option Call → Front → Option (List Call) → List Call → List Call → List Call
seen_by (Some c) look seal h seen = c ∷ h
seen_by None look seal h seen = front look seal h seen

-- a look with this front sees no more than there is, and no less than was seen
pub record LooksOn (look : Front) (seal : Option (List Call)) (h seen : List Call) : Type 0 where
  pub past : Before (front look seal h seen) h
  pub later : Before seen (front look seal h seen)

-- ---- seals

-- the address is that of a field of the object
abbrev pub has_word : Sealed → ℕ → Bool
has_word sealed at = nat_lt sealed.at at && nat_lt at (sealed.at + 1 + sealed.len)

-- the history at the seal of the object that has a field at this address, if it is sealed
abbrev pub seal_in : List Sealed → ℕ → Option (List Call)
seal_in [] at = None
seal_in (one ∷ more) at = if has_word one at then Some one.changes else seal_in more at

abbrev pub sealed_by : {R W E M : Type 0} → Party R W E M → List Sealed
sealed_by (party.Pass p) = []
sealed_by (party.Collector q) = q.sealed

-- what is sealed, by the records of all
abbrev pub sealed_of : {R W E M : Type 0} → List (Party R W E M) → List Sealed
sealed_of [] = []
sealed_of (r ∷ rs) = sealed_by r ++ sealed_of rs

-- the seal of a job's object, where this is the history
abbrev pub sealed_as : Option MoveJob → List Call → List Sealed
sealed_as None h = []
sealed_as (Some job) h = record { at = job.from; len = job.len; changes = h } ∷ []

module _ {R W E M : Type 0} (kit : Kit R W E M) (by : Stepping R W E M) where
  -- the step that a pass's machine asks for, and the machine when it was fed
  abbrev pub pass_asks : PassMachine R W E → Step
  pass_asks = pass_machines.asks_of by.read_asks by.write_asks by.exchange_asks

  abbrev pub pass_fed : PassMachine R W E → ℕ → PassMachine R W E
  pass_fed = pass_machines.fed_of by.read_fed by.write_fed by.exchange_fed

  -- the change that its step is, where it finds this word
  abbrev pub change_by : PassMachine R W E → ℕ → ℕ → Option Call
  change_by (machine.New m) pass n = change_new m pass
  change_by (machine.Write m) pass n = change_call (kit.writes (by.write_fed m n)) pass
  change_by (machine.Exchange m) pass n = change_call (kit.exchanges (by.exchange_fed m n)) pass
  change_by m pass n = None

  -- the front of the look that it is
  abbrev pub front_by : PassMachine R W E → ℕ → Front
  front_by (machine.Read m) n = by.read_front m n
  front_by (machine.Write m) n = by.write_front m n
  front_by (machine.Exchange m) n = by.exchange_front m n
  front_by m n = Stays

  -- A pass that took its step, where this was the history, and this the seal of the object at which it is: its machine, what it has seen,
  -- and its own changes; nothing else.
  abbrev pub pass_turned : Option (List Call) → List Call → PassKnown R W E → ℕ → PassKnown R W E
  pass_turned seal h p n =
      let change = change_by p.pass.machine (number_of p) n in
      let seen = seen_by change (front_by p.pass.machine n) seal h p.seen in
      record p {
        pass = record p.pass { machine = pass_fed p.pass.machine n; seen = length seen };
        seen = seen;
        mine = with_change change p.mine;
      }

  -- the step that the collector asks for, and its machine when it was fed
  abbrev pub collector_asks : CollectorMachine M → Step
  collector_asks = collectors.asks_of by.move_asks

  abbrev pub collector_fed : Planned → CollectorMachine M → ℕ → CollectorMachine M
  collector_fed = collectors.fed_of kit by.move_fed

  -- what its step seals, where this is the history and it finds this word
  abbrev pub sealed_now : CollectorMachine M → List Call → ℕ → List Sealed
  sealed_now k h n = sealed_as (seals_of k (collector_asks k) n) h

  -- the collector that took its step
  abbrev pub collector_turned : List Call → CollectorKnown M → ℕ → CollectorKnown M
  collector_turned h q n = record {
    machine = collector_fed q.plan q.machine n;
    plan = q.plan;
    awaited = awaits_behind q.machine (collector_fed q.plan q.machine n) (length h) q.awaited;
    sealed = q.sealed ++ sealed_now q.machine h n;
  }

  abbrev pub party_asks : Party R W E M → Step
  party_asks (party.Pass p) = pass_asks p.pass.machine
  party_asks (party.Collector q) = collector_asks q.machine

  -- the record after its turn among the others
  abbrev pub turned : List (Party R W E M) → Party R W E M → ℕ → Party R W E M
  turned others (party.Pass p) n = party.Pass (pass_turned (seal_in (sealed_of others) (place_of (pass_asks p.pass.machine))) (history_of (party.Pass p ∷ others)) p n)
  turned others (party.Collector q) n = party.Collector (collector_turned (history_of (party.Collector q ∷ others)) q n)
