-- The record of a pass under a turn of the collector that changes no object.
use Rattle.std.specs.Prelude.{◌≢◌}
use Rattle.std.specs.List.{All}
use Rattle.std.proofs.Common.{◌≡◌, ℕ, List, get_or, refl, sym, ◌∙◌}
use Rattle.heap_words.specs.Layouts.{Sizes}
use Rattle.handshakes.specs.Handshakes.{Announced, Answers, AnswersWith}
use Rattle.handshakes.specs.PhaseWords.{retired_word}
use Rattle.handshakes.specs.Polling.{Polled, IsRunning}
use Rattle.handshakes.specs.PollingLaws.{poll_hears}
use Rattle.handshakes.specs.declared.pass_view.PassView.{PassView}
use Rattle.handshakes.specs.declared.poll.PollMachine.{PollMachine}
use Rattle.handshakes.specs.declared.poll.PollMachine.TheVariants as poll
use Rattle.barriers.specs.Spaces.{Space}
use Rattle.barriers.specs.Says.{Notices}
use Rattle.barriers.specs.Cycles.{Cycle, Handshaken}
use Rattle.barriers.specs.Knowns.{Known}
use Rattle.barriers.specs.Objects.{IsSide, IsCall}
use Rattle.barriers.specs.Kits.{Kit}
use Rattle.barriers.specs.declared.pass.PassMachine.{PassMachine}
use Rattle.barriers.specs.declared.pass.PassMachine.TheVariants as machine
use Rattle.lawful_records.specs.Cycling.{announced_by, cycle_of}
use Rattle.handshakes.specs.declared.retire.RetireMachine.{RetireMachine}
use Rattle.handshakes.specs.declared.retire.RetireMachine.TheVariants as retire
use Rattle.lawful_records.specs.LawfulRecords.{AreRooted, IsMoved, IsPollIn, IsAcked, IsMachine, IsPassRecord, IsParty}
use Rattle.lawful_records.specs.Records.{view_by, number_of, acked_of, mark_of, side_of}
use Rattle.lawful_records.specs.declared.collector.CollectorMachine.{CollectorMachine}
use Rattle.lawful_records.specs.declared.records.PassKnown.{PassKnown}
use Rattle.lawful_records.specs.declared.records.Party.{Party}
use Rattle.lawful_records.specs.declared.records.Party.TheVariants as party
use Rattle.lawful_records.proofs.frames.Machines.{retire_keeps}
use Rattle.lawful_records.proofs.parties.Counts.{IsPassParty}

-- it is in a poll that has not ended
abbrev pub Polls : {R W E : Type 0} → PassMachine R W E → Type 0
Polls (machine.Poll m) = IsRunning m
Polls m = ⊥

module _ {R W E M : Type 0} (kit : Kit R W E M) where
  -- What the announcement a in the cycle c, with the notices n, has become to a pass: b in the cycle d, with o.
  pub record Hears (a b : Announced) (c d : Cycle) (s : Space) (n o : Notices) (p : PassKnown R W E) : Type 0 where
    pub ack : o.ack (number_of p) ≡ n.ack (number_of p)
    -- only the root words of a pass that has retired may be fixed
    pub roots : acked_of p ≢ retired_word → (reg : ℕ) → o.root (number_of p) reg ≡ n.root (number_of p) reg
    pub rooted : AreRooted s n (number_of p) p.pass.registers → AreRooted s o (number_of p) p.pass.registers
    pub side : IsSide kit.protocol d s (side_of kit p)
    pub call : (k : Known) → IsCall kit.protocol c s (side_of kit p) k → IsCall kit.protocol d s (side_of kit p) k
    pub answers : Answers b (number_of p) (acked_of p)
    pub marked : AnswersWith b (number_of p) (acked_of p) (mark_of p)
    pub shaken : acked_of p ≢ retired_word → Handshaken d (side_of kit p)
    -- nothing new is announced to a running pass that has not acknowledged what was
    pub waits : acked_of p ≢ retired_word → acked_of p ≢ n.phase → (o.phase ≡ n.phase) × (o.mark ≡ n.mark)

  -- what a poll of it is about
  abbrev polled : PassKnown R W E → Notices → Polled
  polled p n = record { view = p.pass.view; registers = p.pass.registers; announced = n.phase; mark = n.mark }

  -- it runs, and has acknowledged what its record says
  pub polls_acked : (view : PassView) (x : PassMachine R W E) → Polls x → IsAcked kit x (let now = view_by x view in now.acked) → ((let now = view_by x view in now.acked) ≢ retired_word) × ((let now = view_by x view in now.acked) ≡ view.acked)
  polls_acked view (machine.Poll (poll.Phase p)) polls acked = (acked, refl)
  polls_acked view (machine.Poll (poll.Mark p word)) polls acked = (acked, refl)
  polls_acked view (machine.Poll (poll.Follow p word register birth at)) polls acked = (acked, refl)
  polls_acked view (machine.Poll (poll.Acknowledge p word mark)) polls acked = (acked, refl)
  polls_acked view (machine.Poll (poll.Ended e)) polls acked = absurd polls
  polls_acked view x polls acked = absurd polls

  poll_hears_on : (s : Space) (n o : Notices) (p : PassKnown R W E) (m : PollMachine) → (IsRunning m → (let view = p.pass.view in view.acked) ≢ n.phase → (o.phase ≡ n.phase) × (o.mark ≡ n.mark))
      → IsPollIn s (polled p n) m → IsPollIn s (polled p o) m
  poll_hears_on s n o p (poll.Ended e) waits is = is
  poll_hears_on s n o p (poll.Phase x) waits is = poll_hears (IsMoved s) (polled p n) o.phase o.mark (waits tt) (poll.Phase x) tt is
  poll_hears_on s n o p (poll.Mark x word) waits is = poll_hears (IsMoved s) (polled p n) o.phase o.mark (waits tt) (poll.Mark x word) tt is
  poll_hears_on s n o p (poll.Follow x word register birth at) waits is = poll_hears (IsMoved s) (polled p n) o.phase o.mark (waits tt) (poll.Follow x word register birth at) tt is
  poll_hears_on s n o p (poll.Acknowledge x word mark) waits is = poll_hears (IsMoved s) (polled p n) o.phase o.mark (waits tt) (poll.Acknowledge x word mark) tt is

  retires_as : (m : RetireMachine) (x y : PassMachine R W E) → x ≡ machine.Retire m → y ≡ machine.Retire retire.Ended → x ≡ y → m ≡ retire.Ended
  retires_as m x y is ended e = cc

  machine_hears : (l : Sizes) (c d : Cycle) (s : Space) (n o : Notices) (p : PassKnown R W E) (x : PassMachine R W E) → (x ≢ machine.Retire retire.Ended → x ≢ machine.Retired → (reg : ℕ) → o.root (number_of p) reg ≡ n.root (number_of p) reg) → (AreRooted s n (number_of p) p.pass.registers → AreRooted s o (number_of p) p.pass.registers) → ((k : Known) → IsCall kit.protocol c s (side_of kit p) k → IsCall kit.protocol d s (side_of kit p) k)
      → (Polls x → (let view = p.pass.view in view.acked) ≢ n.phase → (o.phase ≡ n.phase) × (o.mark ≡ n.mark)) → IsMachine kit l c s n p x → IsMachine kit l d s o p x
  machine_hears l c d s n o p machine.Idle roots rooted call waits is = tt
  machine_hears l c d s n o p machine.Retired roots rooted call waits is = rooted is
  machine_hears l c d s n o p (machine.Poll m) roots rooted call waits is = poll_hears_on s n o p m waits is
  machine_hears l c d s n o p (machine.New m) roots rooted call waits is = is
  machine_hears l c d s n o p (machine.Read m) roots rooted call waits is = (call (kit.reads m) is.0, is.1, is.2)
  machine_hears l c d s n o p (machine.Write m) roots rooted call waits is = (call (kit.writes m) is.0, is.1, is.2)
  machine_hears l c d s n o p (machine.Exchange m) roots rooted call waits is = (call (kit.exchanges m) is.0, is.1, is.2)
  machine_hears l c d s n o p (machine.Retire m) roots rooted call waits is =
      retire_keeps l s s n o (number_of p) p.pass.registers (let room = p.pass.room in room.region) m (λ on. roots (λ e. on (retires_as m (machine.Retire m) (machine.Retire retire.Ended) refl refl e)) (λ e. cc e)) rooted is

  pub pass_hears : (l : Sizes) (a b : Announced) (c d : Cycle) (s : Space) (n o : Notices) (p : PassKnown R W E) → Hears a b c d s n o p → IsPassRecord kit l a c s n p → IsPassRecord kit l b d s o p
  pass_hears l a b c d s n o p hears is = record {
    number = is.number;
    side = hears.side;
    answering = record {
      acked = hears.ack ∙ is.answering.acked;
      answers = hears.answers;
      phase = is.answering.phase;
      retired = is.answering.retired;
      marked = hears.marked;
    };
    shaken = hears.shaken;
    eight = is.eight;
    registers = is.registers;
    room = is.room;
    few = is.few;
    unborn = is.unborn;
    machine = machine_hears l c d s n o p p.pass.machine (λ retiring retired. hears.roots (runs_by p.pass.machine retiring retired is.answering.retired)) hears.rooted hears.call waits is.machine;
    told = is.told;
    met = is.met;
  } where
    -- it has not retired
    runs_by : (x : PassMachine R W E) → x ≢ machine.Retire retire.Ended → x ≢ machine.Retired → IsAcked kit x (acked_of p) → acked_of p ≢ retired_word
    runs_by machine.Retired retiring retired acked = absurd (retired refl)
    runs_by (machine.Retire retire.Ended) retiring retired acked = absurd (retiring refl)
    runs_by x retiring retired acked = acked

    waits : Polls p.pass.machine → (let view = p.pass.view in view.acked) ≢ n.phase → (o.phase ≡ n.phase) × (o.mark ≡ n.mark)
    waits polls apart = let runs = polls_acked p.pass.view p.pass.machine polls is.answering.retired in hears.waits runs.0 (λ same. apart (sym runs.1 ∙ same))

  party_hears : (l : Sizes) (k next : CollectorMachine M) (s : Space) (n o : Notices) → ((p : PassKnown R W E) → IsPassRecord kit l (announced_by k) (cycle_of k) s n p → Hears (announced_by k) (announced_by next) (cycle_of k) (cycle_of next) s n o p)
      → (r : Party R W E M) → IsPassParty r → IsParty kit l k s n r → IsParty kit l next s o r
  party_hears l k next s n o hears (party.Pass p) pass is = pass_hears l (announced_by k) (announced_by next) (cycle_of k) (cycle_of next) s n o p (hears p is) is
  party_hears l k next s n o hears (party.Collector q) pass is = absurd pass

  -- and where so it is to each
  pub others_hear : (l : Sizes) (k next : CollectorMachine M) (s : Space) (n o : Notices) (others : List (Party R W E M)) → All IsPassParty others
      → ((p : PassKnown R W E) → IsPassRecord kit l (announced_by k) (cycle_of k) s n p → Hears (announced_by k) (announced_by next) (cycle_of k) (cycle_of next) s n o p)
      → All (IsParty kit l k s n) others → All (IsParty kit l next s o) others
  others_hear l k next s n o others passes hears each i d within = party_hears l k next s n o hears (get_or others i d) (passes i d within) (each i d within)
