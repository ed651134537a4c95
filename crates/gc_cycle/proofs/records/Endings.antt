-- The jobs of the plan end one after another.
use Rattle.std.specs.Prelude.{◌≢◌, not, nat_lt, if◌then◌else◌}
use Rattle.std.proofs.Common.{◌≡◌, ℕ, ◌+◌, ◌≤◌, List, [], ◌∷◌, ◌++◌, length, length-append, Bool, true, false, Option, Some, None, refl, sym, ap, ◌∙◌, subst, arith}
use Rattle.std.proofs.lemmas.Bool.{ltb-false}
use Rattle.call_steps.specs.declared.step.Step.{Step}
use Rattle.call_steps.specs.declared.step.Step.TheVariants.{Ended}
use Rattle.heap_words.specs.Layouts.{IsPass, Sizes}
use Rattle.space_reclaim.specs.declared.move_job.MoveJob.{MoveJob}
use Rattle.space_reclaim.specs.Plans.{Planned}
use Rattle.barriers.specs.declared.ends.MoveEnd.{MoveEnd}
use Rattle.barriers.specs.Kits.{Kit, Stepping, Laws}
use Rattle.lawful_records.specs.declared.collector.CollectorMachine.{CollectorMachine}
use Rattle.lawful_records.specs.declared.collector.CollectorMachine.TheVariants as collector
use Rattle.lawful_records.specs.declared.stage.Stage.{Stage}
use Rattle.lawful_records.specs.Collectors.{fed_of, ended_with, move_ended, moved_by}
use Rattle.lawful_records.specs.Counts.{HasCounted}
use Rattle.lawful_records.specs.Handshakes.{IsCollector}
use Rattle.lawful_records.specs.Jobs.{first_plan}
use Rattle.lawful_records.specs.declared.stage.Announcement.TheVariants.{Fix}
use Rattle.lawful_records.proofs.collecting.Counted.{counts_fed, move_counts}
use Rattle.gc_cycle.specs.Lawful.{Lawful, HasEnded}
use Rattle.gc_cycle.specs.Worlds.{State, IsParty, collector_asks, collector_found, collected, asks_at, taken, turn_of, is_ended}
use Rattle.gc_cycle.proofs.Acknowledging.{collector_record}
use Rattle.gc_cycle.proofs.records.Coming.{taken_comes}
use Rattle.gc_cycle.proofs.records.TurnLaws.{goes_on}
use Rattle.gc_cycle.proofs.records.Turns.{Comes}
use Rattle.gc_cycle.specs.JobLogs.{moved_after}

-- ---- a step of the collector

module _ {R W E M : Type 0} (kit : Kit R W E M) (fed : M → ℕ → M) (plan : Planned) (moved : List (MoveJob × MoveEnd)) where
  abbrev Counted : CollectorMachine M → List (MoveJob × MoveEnd) → Type 0
  Counted k ended = HasCounted 1 k (length ended)

  one_more : (ended : MoveJob × MoveEnd) → length (moved ++ ended ∷ []) ≡ length moved + 1
  one_more ended = omega (arith, length-append moved (ended ∷ []))

  -- by a step of a move its job ends at most
  move_counted : (st : Stage) (job : MoveJob) (next : ℕ) (m after : M) (x : Option MoveEnd) → st.announcement ≡ Fix → Counted (collector.Move st job next m) moved
      → Counted (moved_by kit plan st job next after x) (moved_after (ended_with kit job x) moved)
  move_counted st job next m after None fix counts = counts
  move_counted st job next m after (Some end) fix counts = move_counts kit plan 1 (omega arith) (length (moved ++ (job, end) ∷ [])) _ st next fix (omega (arith, counts, one_more (job, end)))

  move_fit : (job : MoveJob) (next : ℕ) (x : Option MoveEnd) → length moved + 1 ≤ next → next ≤ length plan.jobs → length (moved_after (ended_with kit job x) moved) ≤ length plan.jobs
  move_fit job next None counts within = omega (arith, counts, within)
  move_fit job next (Some end) counts within = omega (arith, counts, within, one_more (job, end))

  module _ (l : Sizes) (cycles found : ℕ) where
    pub counted_then : (k : CollectorMachine M) → IsCollector l kit.kind cycles plan k → Counted k moved → Counted (fed_of kit fed plan k found) (moved_after (move_ended kit fed k found) moved)
    counted_then (collector.Move st job next m) is counts = move_counted st job next m (fed m found) (kit.move_ended (fed m found)) is.0.next_is counts
    counted_then k is counts = counts_fed kit plan 1 (omega arith) (length moved) fed l kit.kind cycles 1 k found (λ moves. moves) is counts

    pub fit_then : (k : CollectorMachine M) → IsCollector l kit.kind cycles plan k → Counted k moved → length moved ≤ length plan.jobs → length (moved_after (move_ended kit fed k found) moved) ≤ length plan.jobs
    fit_then (collector.Move st job next m) is counts fit = move_fit job next (kit.move_ended (fed m found)) counts is.2
    fit_then k is counts fit = fit

module _ {R W E M : Type 0} (kit : Kit R W E M) (by : Stepping R W E M) (laws : Laws kit by) (w : State R W E M) (lw : Lawful kit w) where
  plays : (let its = collector_record kit w lw in IsCollector w.layout kit.kind its.cycles w.plan w.collector)
  plays = let its = collector_record kit w lw in subst (IsCollector w.layout kit.kind its.cycles w.plan) (sym its.machine) its.collects

  pub collected_ended : HasEnded kit (collected kit by w)
  collected_ended = let its = collector_record kit w lw in record {
    plan = lw.ended.plan;
    counted = counted_then kit by.move_fed w.plan w.moved w.layout its.cycles (collector_found kit by w) w.collector plays lw.ended.counted;
    fit = fit_then kit by.move_fed w.plan w.moved w.layout its.cycles (collector_found kit by w) w.collector plays lw.ended.counted lw.ended.fit;
  }

  -- a thread's turn leaves them
  taken_ended : (number : ℕ) → IsPass w.layout number → asks_at kit by w number ≢ Ended → HasEnded kit (taken kit by w number)
  taken_ended number is on =
      let comes : Comes kit by w number (taken kit by w number) = taken_comes kit by laws w lw number is on in
      let leaves = comes.leaves in
      record {
        plan = leaves.plan ∙ (lw.ended.plan ∙ ap (first_plan kit.kind) (sym leaves.layout));
        counted = subst (λ (k : CollectorMachine M). HasCounted 1 k (length (let new = taken kit by w number in new.moved))) (sym leaves.collector) (subst (λ (ended : List (MoveJob × MoveEnd)). HasCounted 1 w.collector (length ended)) (sym leaves.moved) lw.ended.counted);
        fit = let few = ap (λ (ended : List (MoveJob × MoveEnd)). length ended) leaves.moved in let same = ap (λ (plan : Planned). length plan.jobs) leaves.plan in omega (arith, few, same, lw.ended.fit);
      }

  chosen : (number : ℕ) → IsParty w.layout number → (late : Bool) → nat_lt w.layout.passes number ≡ late → (t : Step) → (if late then collector_asks kit by w else asks_at kit by w number) ≡ t → (over : Bool) → is_ended t ≡ over
      → HasEnded kit (if not over then (if late then collected kit by w else taken kit by w number) else w)
  chosen number is late late_is t t_is true over_is = lw.ended
  chosen number is true late_is t t_is false over_is = collected_ended
  chosen number is false late_is t t_is false over_is = taken_ended number (is.0, ltb-false w.layout.passes number late_is) (goes_on t (asks_at kit by w number) t_is over_is)

  -- whoever takes a turn
  pub turn_ended : (number : ℕ) → IsParty w.layout number → HasEnded kit (turn_of kit by w number)
  turn_ended number is = chosen number is (nat_lt w.layout.passes number) refl (if nat_lt w.layout.passes number then collector_asks kit by w else asks_at kit by w number) refl (is_ended (if nat_lt w.layout.passes number then collector_asks kit by w else asks_at kit by w number)) refl
