-- A turn of a party that is no thread, and of a thread that takes no step.
use Rattle.std.specs.Prelude.{is_some}
use Rattle.std.specs.Option.{option_map}
use Rattle.std.proofs.Common.{◌≡◌, ◌≢◌, ℕ, ◌+◌, ◌-◌, Bool, true, false, cond, List, Option, Some, None, refl, sym, ap, subst, arith}
use Rattle.std.proofs.lemmas.Bool.{ltb-true}
use Rattle.std.proofs.lemmas.List.{get_or_past}
use Rattle.heap_words.specs.Layouts.{Sizes}
use Rattle.heap_script.specs.declared.script.Command.{Command}
use Rattle.heap_script.specs.declared.script.Command.TheVariants as commands
use Rattle.call_steps.specs.declared.step.Step.TheVariants.{Ended}
use Rattle.call_steps.specs.Steps.{found_by, place_of}
use Rattle.handshakes.specs.Polls as polls
use Rattle.handshakes.specs.Retires as retires
use Rattle.handshakes.specs.declared.poll.PollMachine.{PollMachine}
use Rattle.handshakes.specs.declared.poll.PollMachine.TheVariants as poll
use Rattle.handshakes.specs.declared.retire.RetireMachine.{RetireMachine}
use Rattle.handshakes.specs.declared.retire.RetireMachine.TheVariants as retire
use Rattle.barriers.specs.Cycles.{Cycle}
use Rattle.barriers.specs.Spaces.{Space}
use Rattle.barriers.specs.Says.{Notices}
use Rattle.barriers.specs.declared.new_object.NewMachine.{NewMachine}
use Rattle.barriers.specs.declared.new_object.NewMachine.TheVariants as make
use Rattle.barriers.specs.declared.pass.PassRecord.{PassRecord}
use Rattle.barriers.specs.declared.pass.PassMachine.{PassMachine}
use Rattle.barriers.specs.declared.pass.PassMachine.TheVariants as machine
use Rattle.barriers.specs.Kits.{Kit, Stepping, Laws, ending_of}
use Rattle.barriers.specs.NewObjects as makes
use Rattle.barriers.specs.Records.{ended_of}
use Rattle.lawful_records.specs.declared.records.PassKnown.{PassKnown}
use Rattle.lawful_records.specs.LawfulRecords.{IsMachine}
use Rattle.lawful_records.specs.Turns.{change_by, front_by, pass_asks, pass_fed}
use Rattle.lawful_records.specs.declared.awaited.Awaited.{Awaited}
use Rattle.lawful_records.specs.Collectors.{seals_of}
use Rattle.lawful_records.specs.declared.collector.CollectorMachine.{CollectorMachine}
use Rattle.space_reclaim.specs.declared.move_job.MoveJob.{MoveJob}
use Rattle.barriers.specs.declared.ends.MoveEnd.{MoveEnd}
use Rattle.cycle_journal.specs.declared.journal.MarkFound.{MarkFound}
use Rattle.cycle_journal.specs.declared.journal.MarkRow.{MarkRow}
use Rattle.gc_cycle.specs.declared.job_log.SealedAt.{SealedAt}
use Rattle.gc_cycle.proofs.records.Seals.{AreFew, few_after}
use Rattle.gc_cycle.specs.Worlds.{State, pass_at, command_at, changes_now, fed_at, nobody, seal_of, seen_with, is_collector, collector_asks, collector_found, collected}
use Rattle.gc_cycle.specs.Lawful.{IsAtCommand}
use Rattle.gc_cycle.specs.Runs.{decides_at, looked_at, counted, sequel_at}
use Rattle.gc_cycle.proofs.script.Turned.{IsTurned}
use Rattle.gc_cycle.proofs.script.Worlds.{IsScripted}

module _ {R W E M : Type 0} (kit : Kit R W E M) (by : Stepping R W E M) where
  -- a machine whose step, if it has one, is nothing to its thread
  pub record IsStill (w : State R W E M) (party : ℕ) : Type 0 where
    pub decides : decides_at kit by w party ≡ false
    pub looked : looked_at kit by w party ≡ (let p = pass_at w party in p.seen)
    pub ends : ended_of kit (let p = fed_at kit by w party in p.machine) ≡ None

  still_by : (w : State R W E M) (party : ℕ) (k : PassMachine R W E) → (let p = pass_at w party in p.machine) ≡ k
      → (let n = found_by (pass_asks kit by k) w.words in (change_by kit by k (let p = pass_at w party in let view = p.view in view.pass) n ≡ None) × (seen_with (front_by kit by k n) (seal_of w.sealed (place_of (pass_asks kit by k))) (changes_now w) (let p = pass_at w party in p.seen) ≡ (let p = pass_at w party in p.seen)) × (ended_of kit (pass_fed kit by k n) ≡ None))
      → IsStill w party
  still_by w party k is facts =
      let pass = (let p = pass_at w party in let view = p.view in view.pass) in
      let seen = (let p = pass_at w party in p.seen) in
      let D : PassMachine R W E → Type 0 = λ m. is_some (change_by kit by m pass (found_by (pass_asks kit by m) w.words)) ≡ false in
      let L : PassMachine R W E → Type 0 = λ m. seen_with (front_by kit by m (found_by (pass_asks kit by m) w.words)) (seal_of w.sealed (place_of (pass_asks kit by m))) (changes_now w) seen ≡ seen in
      let N : PassMachine R W E → Type 0 = λ m. ended_of kit (pass_fed kit by m (found_by (pass_asks kit by m) w.words)) ≡ None in
      record { decides = subst D (sym is) (ap is_some facts.0); looked = subst L (sym is) facts.1; ends = subst N (sym is) facts.2 }

  pub still_idle : (w : State R W E M) (party : ℕ) → (let p = pass_at w party in p.machine) ≡ machine.Idle → IsStill w party
  still_idle w party is = still_by w party machine.Idle is (refl, refl, refl)

  pub still_retired : (w : State R W E M) (party : ℕ) → (let p = pass_at w party in p.machine) ≡ machine.Retired → IsStill w party
  still_retired w party is = still_by w party machine.Retired is (refl, refl, refl)

  -- whatever becomes of the words and the collector
  pub turned_still : (w : State R W E M) → IsScripted kit w → (party : ℕ) → IsStill w party → (words : List ℕ) (collector : CollectorMachine M) (awaited : Awaited) (sealed : List SealedAt) (moved : List (MoveJob × MoveEnd)) (finds : List MarkFound) (marks : List MarkRow) → AreFew sealed (changes_now w)
      → IsTurned kit by w party (record w { words = words; collector = collector; awaited = awaited; sealed = sealed; moved = moved; finds = finds; marks = marks })
  turned_still w lw party still words collector awaited sealed moved finds marks few = record {
    scripted = record {
      script = lw.script;
      passes = lw.passes;
      room = let room = lw.room in record { threads = room.threads; answers = room.answers; log = room.log; calls = room.calls; agains = room.agains };
      log = lw.log;
      owners = lw.owners;
      threads = lw.threads;
      sealed = few;
    };
    moves = record {
      others = λ q other apart. refl;
      call = None;
      log = refl;
      changes = subst (λ (b : Bool). changes_now w ≡ changes_now w + cond b 1 0) (sym still.decides) (omega arith);
      looked = λ none. sym still.looked;
      made = λ change. absurd (cc (change, still.decides));
      later = omega arith;
      told = λ e some. absurd cc;
      counts = ap (λ o. counted kit by w party (sequel_at kit by w party o (command_at w party))) (sym still.ends);
    };
  }

  -- the collector is no thread
  pub collector_turned : (w : State R W E M) → IsScripted kit w → (party : ℕ) → is_collector kit by w party ≡ true → IsTurned kit by w party (collected kit by w)
  collector_turned w lw party is =
      let past : pass_at w party ≡ nobody = get_or_past w.passes (party - 1) nobody (omega (arith, lw.passes, ltb-true w.layout.passes party is)) in
      turned_still w lw party (still_idle w party (ap (λ (x : PassRecord R W E). x.machine) past)) _ _ _ _ _ _ _
      (few_after w.sealed (seals_of w.collector (collector_asks kit by w) (collector_found kit by w)) (changes_now w) lw.sealed)

-- ---- a thread that takes no step has retired

poll_rests : (m : PollMachine) → polls.end_of m ≡ None → polls.asks_of m ≢ Ended
poll_rests (poll.Phase p) going = λ e. cc
poll_rests (poll.Mark p word) going = λ e. cc
poll_rests (poll.Follow p word register birth at) going = λ e. cc
poll_rests (poll.Acknowledge p word mark) going = λ e. cc
poll_rests (poll.Ended end) going = absurd cc

new_rests : (m : NewMachine) → makes.end_of m ≡ None → makes.asks_of m ≢ Ended
new_rests (make.Look plan round) going = λ e. cc
new_rests (make.Claim plan round) going = λ e. cc
new_rests (make.Fill at placement) going = λ e. cc
new_rests (make.Header placement) going = λ e. cc
new_rests (make.Ended end) going = absurd cc

retire_rests : (m : RetireMachine) → retires.end_of m ≡ None → retires.asks_of m ≢ Ended
retire_rests (retire.Root r behind) going = λ e. cc
retire_rests (retire.Region r at) going = λ e. cc
retire_rests (retire.Acknowledge r) going = λ e. cc
retire_rests retire.Ended going = absurd cc

none_of : {A B : Type 0} (f : A → B) (o : Option A) → option_map f o ≡ None → o ≡ None
none_of f None is = refl
none_of f (Some a) is = absurd cc

module _ {R W E M : Type 0} (kit : Kit R W E M) (by : Stepping R W E M) (laws : Laws kit by) (l : Sizes) (c : Cycle) (s : Space) (n : Notices) (k : PassKnown R W E) (p : PassRecord R W E) where
  retired_at : (m : PassMachine R W E) (o : Option Command) → IsAtCommand kit l (record p { machine = m }) o → ended_of kit m ≡ None → IsMachine kit l c s n k m → pass_asks kit by m ≡ Ended → m ≡ machine.Retired
  retired_at machine.Retired o at going stands ended = refl
  retired_at (machine.Poll m) o at going stands ended = absurd (poll_rests m (none_of _ (polls.end_of m) going) ended)
  retired_at (machine.New m) o at going stands ended = absurd (new_rests m (none_of _ (makes.end_of m) going) ended)
  retired_at (machine.Retire m) o at going stands ended = absurd (retire_rests m (none_of _ (retires.end_of m) going) ended)
  retired_at (machine.Read m) (Some (commands.Get dst obj field)) at going stands ended = let over = laws.reading.over k.pass.view m stands.1 ended in absurd (cc (at.2, ap ending_of over.3))
  retired_at (machine.Write m) (Some (commands.Put obj field what)) at going stands ended = let over = laws.writing.over k.pass.view m stands.1 ended in absurd (cc (at.2, ap ending_of over.3))
  retired_at (machine.Exchange m) (Some (commands.Cas dst obj field expected value)) at going stands ended = let over = laws.exchanging.over k.pass.view m stands.1 ended in absurd (cc (at.2, ap ending_of over.3))
  retired_at m None at going stands ended = absurd at
  retired_at m (Some (commands.New dst len)) at going stands ended = absurd at
  retired_at m (Some (commands.Get dst obj field)) at going stands ended = absurd at
  retired_at m (Some (commands.Put obj field what)) at going stands ended = absurd at
  retired_at m (Some (commands.Cas dst obj field expected value)) at going stands ended = absurd at
  retired_at m (Some (commands.Copy dst src)) at going stands ended = absurd at
  retired_at m (Some (commands.Drop dst)) at going stands ended = absurd at
  retired_at m (Some commands.Poll) at going stands ended = absurd at

  pub retired_is : (o : Option Command) → IsAtCommand kit l p o → ended_of kit p.machine ≡ None → IsMachine kit l c s n k p.machine → pass_asks kit by p.machine ≡ Ended → p.machine ≡ machine.Retired
  retired_is o at going stands ended = retired_at p.machine o at going stands ended
