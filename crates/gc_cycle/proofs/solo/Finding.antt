-- What the step of an exchange and that of a mover find in a lawful world.
use Rattle.std.proofs.Common.{◌≡◌, ◌≢◌, ℕ, List, ◌∷◌, map, sym, ap, ◌∙◌, subst}
use Rattle.call_steps.specs.declared.step.Step.{Step}
use Rattle.call_steps.specs.declared.step.Step.TheVariants.{Ended}
use Rattle.call_steps.specs.Steps.{place_of, found_by, IsInside}
use Rattle.call_steps.specs.StepLaws.{reading, found_by-step}
use Rattle.heap_words.specs.Layouts.{Sizes, IsPass}
use Rattle.space_reclaim.specs.declared.move_job.MoveJob.{MoveJob}
use Rattle.handshakes.specs.Handshakes.{Announced}
use Rattle.barriers.specs.declared.pass.PassMachine.{PassMachine}
use Rattle.barriers.specs.declared.pass.PassMachine.TheVariants as machine
use Rattle.barriers.specs.Accesses.{found_in}
use Rattle.barriers.specs.Cycles.{Cycle}
use Rattle.barriers.specs.Knowns.{Known, spot_of, step_of}
use Rattle.barriers.specs.Moves.{Carried, field_of, move_finds}
use Rattle.barriers.specs.MoveSteps.{move_step}
use Rattle.barriers.specs.Says.{Notices}
use Rattle.barriers.specs.Spaces.{Space, here, copy_word}
use Rattle.barriers.specs.Kits.{Kit, Stepping, Laws, IsWordOf, IsMoveWord}
use Rattle.barriers.proofs.words.Moves.{move_word_found}
use Rattle.lawful_records.specs.declared.awaited.Awaited.{Awaited}
use Rattle.lawful_records.specs.declared.collector.CollectorMachine.{CollectorMachine}
use Rattle.lawful_records.specs.declared.collector.CollectorMachine.TheVariants as collector
use Rattle.lawful_records.specs.declared.stage.Stage.{Stage}
use Rattle.lawful_records.specs.declared.records.CollectorKnown.{CollectorKnown}
use Rattle.lawful_records.specs.declared.records.Party.{Party}
use Rattle.lawful_records.specs.declared.records.Party.TheVariants as parties
use Rattle.lawful_records.specs.declared.records.PassKnown.{PassKnown}
use Rattle.lawful_records.specs.declared.records.Sealed.{Sealed}
use Rattle.lawful_records.specs.Cycling.{announced_by, cycle_of}
use Rattle.lawful_records.specs.PassTurns.{PassStands, in_machine}
use Rattle.lawful_records.specs.Turns.{pass_asks}
use Rattle.lawful_records.proofs.RecordLaws.{announced, lawful_regroups}
use Rattle.lawful_records.proofs.calls.CallTurns.{exchange_stands}
use Rattle.lawful_records.proofs.calls.FieldSteps.{its_word_found}
use Rattle.lawful_records.proofs.collecting.CollectorTurns.{stands as collector_stands}
use Rattle.lawful_records.proofs.collecting.Goes.{CollectorStands}
use Rattle.lawful_records.proofs.collecting.MoveWork as mover
use Rattle.gc_cycle.specs.Worlds.{State, pass_at, asks_at}
use Rattle.gc_cycle.specs.Lawful.{Lawful, known_in, collector_in, records_in}
use Rattle.gc_cycle.proofs.records.Stepped.{in_pass}
use Rattle.gc_cycle.proofs.records.TurnLaws.{collector_first}
use Rattle.gc_cycle.proofs.script.Stepped.{stands}
use Rattle.gc_cycle.proofs.script.Turns.{made_few}
use Rattle.gc_cycle.proofs.solo.PlaysAlone.{ExchangeFinds, MoveFinds}
use Rattle.gc_cycle.proofs.solo.Turns.{machine_at}
use Rattle.space_reclaim.specs.Plans.{Planned}

module _ {R W E M : Type 0} (kit : Kit R W E M) (by : Stepping R W E M) where
  -- of the machine of a pass, and of the collector's
  abbrev pub PassFinds : List ℕ → PassMachine R W E → Type 0
  PassFinds words (machine.Exchange m) = ExchangeFinds kit by words m
  PassFinds words m = Unit {0}

  abbrev pub CollectorFinds : List ℕ → CollectorMachine M → Type 0
  CollectorFinds words (collector.Move s job next m) = MoveFinds kit by words m
  CollectorFinds words k = Unit {0}

  module _ (laws : Laws kit by) where
    -- ---- an exchange

    module _ (l : Sizes) (a : Announced) (c : Cycle) (s : Space) (n : Notices) (p : PassKnown R W E) (words : List ℕ) where
      exchange_finds : (m : E) → PassStands kit by l a c s n (in_machine p (machine.Exchange m)) words → by.exchange_asks m ≢ Ended → ExchangeFinds kit by words m
      exchange_finds m stood on =
          let k : Known = kit.exchanges m in
          let word : IsWordOf k (found_in c s k) (reading words (place_of (step_of k))) =
          its_word_found kit laws.table laws.movable l c s n (reading words) p.pass.view p.seen k (exchange_stands kit by laws l a c s n p words m stood) in
          let asked : by.exchange_asks m ≡ step_of k = laws.exchanging.asks_alike p.pass.view m stood.own.machine.1 in
          let found : reading words (place_of (step_of k)) ≡ found_by (by.exchange_asks m) words =
          ap (λ (step : Step). reading words (place_of step)) (sym asked) ∙ sym (found_by-step (by.exchange_asks m) words on) in
          record { phase = c.phase; here = here s (spot_of k).at (spot_of k).field; copy = copy_word s (spot_of k).at (spot_of k).field; word = subst (IsWordOf k (found_in c s k)) found word }

      machine_finds : (m : PassMachine R W E) → PassStands kit by l a c s n (in_machine p m) words → pass_asks kit by m ≢ Ended → PassFinds words m
      machine_finds (machine.Exchange m) stood on = exchange_finds m stood on
      machine_finds m stood on = tt

    -- ---- a move

    module _ (l : Sizes) (words : List ℕ) (plan : Planned) (s : Space) (n : Notices) (counts : Awaited) (sealed : List Sealed) where
      move_finds_so : (st : Stage) (job : MoveJob) (next : ℕ) (m : M) → CollectorStands kit by l words plan s n counts sealed (collector.Move st job next m) → MoveFinds kit by words m
      move_finds_so st job next m stood =
          let C : Carried = kit.moves m in
          let c : Cycle = cycle_of (collector.Move st job next m) in
          let its = mover.is kit by laws l words plan s n counts sealed st job next m stood in
          let on = mover.goes_on kit by laws l words plan s n counts sealed st job next m stood in
          let word : IsMoveWord job (move_finds (here s job.from (field_of C)) C) (reading words (place_of (move_step kit.kind c.mark C))) =
          move_word_found l (reading words) s n stood.rows stood.says kit.kind c.mark C (mover.at kit by laws l words plan s n counts sealed st job next m stood) job its.job in
          let asked : by.move_asks m ≡ move_step kit.kind c.mark C = laws.moving.asks_alike c.mark m its.own in
          let found : reading words (place_of (move_step kit.kind c.mark C)) ≡ found_by (by.move_asks m) words =
          ap (λ (step : Step). reading words (place_of step)) (sym asked) ∙ sym (found_by-step (by.move_asks m) words on) in
          record {
            job = job;
            here = here s job.from (field_of C);
            word = subst (IsMoveWord job (move_finds (here s job.from (field_of C)) C)) found word;
            inside = subst (λ (len : ℕ). IsInside len (by.move_asks m)) (sym stood.width) (mover.move_inside kit by laws l words plan s n counts sealed st job next m stood);
          }

      step_finds : (k : CollectorMachine M) → CollectorStands kit by l words plan s n counts sealed k → CollectorFinds words k
      step_finds (collector.Move st job next m) stood = move_finds_so st job next m stood
      step_finds k stood = tt

    -- ---- in a lawful world

    module _ (w : State R W E M) (lw : Lawful kit w) where
      pub pass_finds : (p : ℕ) → IsPass w.layout p → asks_at kit by w p ≢ Ended → PassFinds w.words (machine_at w p)
      pass_finds p is on =
          let records = lw.records in
          let announcement = announced kit laws.minds w.layout w.words (records_in w) records in
          machine_finds w.layout (announced_by records.collector) (cycle_of records.collector) records.space records.notices (known_in w (pass_at w p)) w.words (machine_at w p)
          (stands kit by laws w lw p is (made_few kit by laws w lw p is) announcement on) on

      pub collector_finds : CollectorFinds w.words w.collector
      collector_finds =
          let q : CollectorKnown M = collector_in w in
          let others : List (Party R W E M) = map (in_pass w) w.passes in
          let before = lawful_regroups kit w.layout w.words (records_in w) (parties.Collector q ∷ others) (collector_first kit by laws w lw) lw.records in
          step_finds w.layout w.words w.plan before.space before.notices q.awaited q.sealed w.collector (collector_stands kit by laws w.layout w.words others q before)
