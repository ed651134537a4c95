-- The record of a party stays under the turns of others.
use Rattle.std.proofs.Common.{◌≢◌, ℕ, ◌≤◌, inl, inr, List, length, refl, ap, ◌∙◌, arith, ◌≡◌, subst}
use Rattle.heap_words.specs.Layouts.{Sizes}
use Rattle.handshakes.specs.Handshakes.{Announced}
use Rattle.handshakes.specs.Polling.{held_in}
use Rattle.heap_history.specs.declared.call.Call.{Call}
use Rattle.barriers.specs.Spaces.{Space}
use Rattle.barriers.specs.Says.{Notices}
use Rattle.barriers.specs.Rows.{Rows}
use Rattle.barriers.specs.Cycles.{Cycle}
use Rattle.barriers.specs.Protocols.{Protocol}
use Rattle.barriers.specs.Kits.{Kit}
use Rattle.lawful_records.specs.Collectors.{AreEarlier}
use Rattle.lawful_records.specs.Cycling.{cycle_of}
use Rattle.lawful_records.specs.Frames.{Grows, SeenBy, Leaves, Beside, Left, Same, Untagged, Born}
use Rattle.lawful_records.specs.JobStands.{stand_of, StandsAt}
use Rattle.lawful_records.specs.Searches.{SearchStands}
use Rattle.lawful_records.specs.LawfulRecords.{IsPassRecord, IsCollectorRecord}
use Rattle.lawful_records.specs.Making.{lens_of}
use Rattle.lawful_records.specs.Records.{number_of, side_of, registers_by, room_by, made_by}
use Rattle.lawful_records.specs.declared.awaited.Awaited.{Awaited}
use Rattle.lawful_records.specs.declared.collector.CollectorMachine.{CollectorMachine}
use Rattle.lawful_records.specs.declared.collector.CollectorMachine.TheVariants as collector
use Rattle.lawful_records.specs.declared.records.PassKnown.{PassKnown}
use Rattle.lawful_records.specs.declared.records.CollectorKnown.{CollectorKnown}
use Rattle.lawful_records.proofs.frames.JobStays.{stand_stays}
use Rattle.lawful_records.proofs.frames.Machines.{good_stays, room_stays, machine_stays}
use Rattle.lawful_records.proofs.frames.SealStays.{sealed_stays}
use Rattle.lawful_records.proofs.frames.Unborn.{unborn_stays}
use Rattle.lawful_records.proofs.telling.Telling.{told_grows}
use Rattle.barriers.specs.States.{IsLive}
use Rattle.lawful_records.specs.Counts.{HasCounted, unsealed, unsealed_in}
use Rattle.barriers.proofs.words.Headers.{home_live}

pub seen_same : (P : Protocol) (c : Cycle) (s : Space) → SeenBy P c s s
seen_same P c s = record { holds = λ birth at is. is; side = λ x is. is; call = λ x k side is. is; heads = λ at live. record { live = live; birth = refl; len = refl; colour = refl } }

-- ---- the collector's

pub grows_length : (m : ℕ) (h g : List Call) → Grows m h g → length h ≤ length g
grows_length m h g (inl same) = omega (arith, ap length same)
grows_length m h g (inr grown) = omega (arith, ap length grown.is)

pub earlier_later : (few more : ℕ) (h : Awaited) → few ≤ more → AreEarlier few h → AreEarlier more h
earlier_later few more h less are = record {
  mark = omega (arith, are.mark);
  confirm = omega (arith, are.confirm);
  copy = omega (arith, are.copy);
  fix = omega (arith, are.fix);
  free = omega (arith, are.free);
}

module _ {R W E M : Type 0} (kit : Kit R W E M) where
  pub collector_stays : (l : Sizes) (k : CollectorMachine M) (m : ℕ) (s t : Space) (n o : Notices) (q : CollectorKnown M) → Rows l t.state t.len t.ends t.region → Beside kit l (cycle_of k) m s t n o → Leaves kit.protocol l (cycle_of k) s t → (SearchStands l (cycle_of k) s k → SearchStands l (cycle_of k) t k) → IsCollectorRecord kit l k s q → IsCollectorRecord kit l k t q
  collector_stays l k m s t n o q rows beside leaves search is = record {
    machine = is.machine;
    cycles = is.cycles;
    few = is.few;
    collects = is.collects;
    plan = is.plan;
    jobs = stand_stays kit l (cycle_of k) s t leaves beside.seen.heads (stand_of q.plan k) is.jobs;
    search = search is.search;
    awaited = earlier_later (length s.history) (length t.history) q.awaited (grows_length m s.history t.history beside.history) is.awaited;
    counted = counted_stays k is.jobs is.counted;
    fit = is.fit;
    sealed = sealed_stays kit.protocol l s t rows leaves.left beside.seen.heads q.sealed is.sealed;
  }
    where
      seal_same : (at : ℕ) → IsLive (s.state at) → Left kit.protocol l s t at → t.seal at ≡ s.seal at
      seal_same at live (Same same) = same.seal
      seal_same at live (Untagged makes was is seal wide) = seal
      seal_same at live (Born was is seal wide own) = absurd (subst IsLive was live)

      counted_stays : (k : CollectorMachine M) → StandsAt kit l (cycle_of k) s (stand_of q.plan k) → HasCounted (unsealed_in s k) k (length q.sealed) → HasCounted (unsealed_in t k) k (length q.sealed)
      counted_stays (collector.Move st job next m) stands counts =
          let same = seal_same job.from (home_live (s.state job.from) stands.mover.move.live) (leaves.left job.from) in
          let left = ap unsealed same in
          omega (arith, counts, left)
      counted_stays k stands counts = counts

  -- ---- a pass's

  -- where a pass does something without a step
  pub beside_same : (l : Sizes) (c : Cycle) (m : ℕ) (s : Space) (n : Notices) → Beside kit l c m s s n n
  beside_same l c m s n = record {
    seen = seen_same kit.protocol c s;
    acks = λ pass other. refl;
    roots = λ pass reg other. refl;
    phase = refl;
    mark = refl;
    regions = λ pass region is other own. record { word = refl; ends = refl };
    history = inl refl;
  }

  pub pass_stays : (l : Sizes) (a : Announced) (c : Cycle) (m : ℕ) (s t : Space) (n o : Notices) (p : PassKnown R W E) → number_of p ≢ m → Beside kit l c m s t n o → IsPassRecord kit l a c s n p → IsPassRecord kit l a c t o p
  pass_stays l a c m s t n o p other beside is = record {
    number = is.number;
    side = beside.seen.side (side_of kit p) is.side;
    answering = record {
      acked = beside.acks (number_of p) other ∙ is.answering.acked;
      answers = is.answering.answers;
      phase = is.answering.phase;
      retired = is.answering.retired;
      marked = is.answering.marked;
    };
    shaken = is.shaken;
    eight = is.eight;
    registers = λ i. good_stays s t (held_in (registers_by p.pass.machine p.pass.registers) i) beside.seen.holds (is.registers i);
    room = λ has. room_stays l s t (number_of p) (room_by p.pass.machine p.pass.room) (lens_of p.mine) (λ region own. beside.regions (number_of p) region is.number other own) (is.room has);
    few = is.few;
    unborn = unborn_stays kit m s.history t.history (number_of p) (made_by p.pass.machine p.pass.made) other beside.history is.unborn;
    machine = machine_stays kit l c m s t n o p p.pass.machine is.number other beside is.side is.machine;
    told = told_grows kit m s.history t.history p other beside.history is.told;
    met = is.met;
  }
