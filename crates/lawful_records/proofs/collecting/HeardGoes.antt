-- What a turn of the collector that changes no object comes to.
use Rattle.std.proofs.Common.{inl, inr, arith, ◌≡◌, ◌≢◌, ℕ, ◌<◌, ◌≤◌, List, ◌++◌, refl, sym, ap, ◌∙◌, subst, length}
use Rattle.call_steps.specs.Steps.{applied}
use Rattle.call_steps.specs.StepLaws.{reading}
use Rattle.heap_words.specs.Layouts.{Sizes}
use Rattle.handshakes.specs.Handshakes.{Answers, AnswersWith, Advances}
use Rattle.handshakes.specs.PhaseWords.{retired_word}
use Rattle.barriers.specs.MoveWords.{IsSpare}
use Rattle.space_reclaim.specs.Plans.{Planned}
use Rattle.barriers.specs.Spaces.{Space}
use Rattle.barriers.specs.Says.{Notices, Says}
use Rattle.barriers.specs.Objects.{AreObjects}
use Rattle.barriers.specs.Cycles.{Side, Handshaken}
use Rattle.barriers.specs.Stances.{Retired, stance_at}
use Rattle.barriers.specs.Kits.{Kit, Stepping, Laws}
use Rattle.lawful_records.specs.declared.awaited.Awaited.{Awaited}
use Rattle.lawful_records.specs.declared.collector.CollectorMachine.{CollectorMachine}
use Rattle.lawful_records.specs.declared.records.PassKnown.{PassKnown}
use Rattle.lawful_records.specs.declared.records.Sealed.{Sealed}
use Rattle.lawful_records.specs.Collectors.{announced_of, drawn_of, passed_of}
use Rattle.lawful_records.specs.Cycling.{announced_by, cycle_of}
use Rattle.lawful_records.specs.Handshakes.{IsCollector}
use Rattle.lawful_records.specs.JobStands.{stand_of, StandsAt, IsMovedBy}
use Rattle.handshakes.specs.Polling.{IsRunning}
use Rattle.handshakes.specs.declared.poll.PollMachine.{PollMachine}
use Rattle.barriers.specs.declared.pass.PassMachine.TheVariants as machine
use Rattle.barriers.specs.States.{On}
use Rattle.lawful_records.specs.Fixing.{Names, IsFixedBy, AreRootsFixed, FixStands, IsFixedPass, IsOfJob}
use Rattle.lawful_records.specs.LawfulRecords.{AreRooted, AreSealed, IsPassRecord}
use Rattle.lawful_records.specs.Searches.{SearchStands}
use Rattle.lawful_records.specs.PassTurns.{IsAnnounced}
use Rattle.lawful_records.specs.Records.{view_by, number_of, acked_of, mark_of, side_of}
use Rattle.lawful_records.specs.Turns.{collector_asks, sealed_now}
use Rattle.lawful_records.proofs.fixing.Frames.{following_hears, polled_in, fixed_leaves}
use Rattle.lawful_records.proofs.frames.Hearing.{Polls, Hears, polls_acked, pass_hears}
use Rattle.lawful_records.proofs.turns.RetireTurns.{stance_retired}
use Rattle.lawful_records.proofs.collecting.Announcing.{announced_is}
use Rattle.lawful_records.proofs.collecting.Answering.{answers_on, marked_on, waits_on}
use Rattle.lawful_records.proofs.collecting.Counted.{keeps_idle}
use Rattle.lawful_records.proofs.collecting.Goes.{found_in, next_of, CollectorStands, CollectorGoes}
use Rattle.lawful_records.proofs.collecting.Phasing.{PassGoes, Fits}
use Rattle.lawful_records.proofs.collecting.Playing.{plays_fed}
use Rattle.lawful_records.proofs.collecting.Shaken.{answered_all}

module _ {R W E M : Type 0} (kit : Kit R W E M) (by : Stepping R W E M) (laws : Laws kit by) (l : Sizes) (words : List ℕ) (plan : Planned) (s : Space) (n : Notices) (counts : Awaited) (sealed : List Sealed) where
  -- after its step the words say these notices; the passes' are the same; and what it is to the objects and to passes
  pub record HasHeard (k : CollectorMachine M) : Type 0 where
    pub notices : Notices
    pub says : Says l (reading (applied (collector_asks kit by k) words)) s notices
    pub spare : IsSpare l (reading (applied (collector_asks kit by k) words)) s
    pub phase : notices.phase ≡ (let a = announced_by (next_of kit by l words plan k) in a.word)
    pub drawn : notices.mark ≡ drawn_of (next_of kit by l words plan k)
    pub acks : (pass : ℕ) → notices.ack pass ≡ n.ack pass
    -- only the root words of passes that have retired may be fixed
    pub roots : (pass reg : ℕ) → n.ack pass ≢ retired_word → notices.root pass reg ≡ n.root pass reg
    pub rooted : (p : PassKnown R W E) → AreRooted s n (number_of p) p.pass.registers → AreRooted s notices (number_of p) p.pass.registers
    pub advances : Advances l n.ack (announced_by k) (announced_by (next_of kit by l words plan k))
    -- before all have answered nothing is drawn, and the announced word is another than the one before
    pub marks : passed_of k < l.passes → notices.mark ≡ n.mark
    pub differ : passed_of k < l.passes → (let a = announced_by k in (a.before ≢ a.word) × (a.before ≢ retired_word))
    pub objects : AreObjects kit.protocol (cycle_of (next_of kit by l words plan k)) s
    pub goes : (side : Side) → (side.acked ≢ Retired → l.passes ≤ passed_of k → side.acked ≡ stance_at (announced_of k)) → Fits kit laws.table laws.cycle s (cycle_of k) side → Fits kit laws.table laws.cycle s (cycle_of (next_of kit by l words plan k)) side
        → PassGoes kit laws.table laws.cycle s (cycle_of k) (cycle_of (next_of kit by l words plan k)) side
    pub still : (a : ℕ) → IsMovedBy k a → ⊥
    pub stands_then : StandsAt kit l (cycle_of (next_of kit by l words plan k)) s (stand_of plan (next_of kit by l words plan k))
    pub search_then : SearchStands l (cycle_of (next_of kit by l words plan k)) s (next_of kit by l words plan k)
    -- what is fixed as it has it then, and what it leaves of what is fixed of passes
    pub aside : (a : ℕ) → IsOfJob (stand_of plan k) a → IsOfJob (stand_of plan (next_of kit by l words plan k)) a
    pub fixed : FixStands (next_of kit by l words plan k) s notices
    pub lets : (acked : ℕ) → (l.passes ≤ passed_of k → acked ≡ announced_of k) → IsFixedBy (next_of kit by l words plan k) acked → IsFixedBy k acked
    pub roots_fixed : (p : PassKnown R W E) → IsPassRecord kit l (announced_by k) (cycle_of k) s n p → IsFixedPass kit k s n p → acked_of p ≡ retired_word → AreRootsFixed (next_of kit by l words plan k) (number_of p) → (i : ℕ) → i < 8 → On (Names s) (notices.root (number_of p) i)
    pub none_sealed : sealed ++ sealed_now kit by k s.history (found_in kit by l words k) ≡ sealed

  module _ (k : CollectorMachine M) (stands : CollectorStands kit by l words plan s n counts sealed k) (has : HasHeard k) where
    abbrev next : CollectorMachine M
    next = next_of kit by l words plan k

    goes_on : IsCollector l kit.kind stands.cycles plan next
    goes_on = plays_fed kit by.move_fed plan l kit.kind stands.cycles k (found_in kit by l words k) stands.layout stands.collects

    told_then : IsAnnounced kit.minds l (announced_by next) (cycle_of next) (drawn_of next)
    told_then = announced_is kit.minds l kit.kind stands.cycles stands.few laws.minds plan next goes_on

    module _ (p : PassKnown R W E) (own : IsPassRecord kit l (announced_by k) (cycle_of k) s n p) where
      abbrev side : Side
      side = side_of kit p

      abbrev acked : ℕ
      acked = acked_of p

      runs_by : side.acked ≢ Retired → acked ≢ retired_word
      runs_by on ended = on (ap stance_at ended ∙ stance_retired)

      answers : Answers (announced_by next) (number_of p) acked
      answers = answers_on l (announced_by k) n.ack (number_of p) own.number (announced_by next) acked own.answering.acked has.advances own.answering.answers

      marked : AnswersWith (announced_by next) (number_of p) acked (mark_of p)
      marked = marked_on l (announced_by k) n.ack (number_of p) own.number (announced_by next) acked (mark_of p) own.answering.acked (λ waits. has.differ (waiting waits)) has.advances own.answering.marked
        where
          waiting : passed_of k < number_of p → passed_of k < l.passes
          waiting less = let there = own.number in omega (arith, less, there.1)

      shaken : acked ≢ retired_word → Handshaken (cycle_of next) side
      shaken runs = told_then.shaken (view_by p.pass.machine p.pass.view) p.seen own.number marked runs

      stood : side.acked ≢ Retired → l.passes ≤ passed_of k → side.acked ≡ stance_at (announced_of k)
      stood on all = ap stance_at (answered_all l (announced_by k) (number_of p) acked (mark_of p) own.number all own.answering.marked (runs_by on)).0

      pass_goes : PassGoes kit laws.table laws.cycle s (cycle_of k) (cycle_of next) side
      pass_goes = has.goes side stood (λ on. own.shaken (runs_by on)) (λ on. shaken (runs_by on))

      -- nothing new is announced or drawn to a running pass that has not answered
      waits : acked ≢ retired_word → acked ≢ n.phase → (has.notices.phase ≡ n.phase) × (has.notices.mark ≡ n.mark)
      waits runs apart =
          let not_word : acked ≢ (let a = announced_by k in a.word) = λ same. apart (same ∙ sym stands.announced) in
          let less : passed_of k < l.passes = elim own.answering.answers [
            | inl ended ↦ absurd (runs ended)
            | inr rest ↦ elim rest [ inl same ↦ absurd (not_word same) | inr late ↦ let there = own.number in omega (arith, late.1, there.1) ]
          ] in
          (has.phase ∙ waits_on l (announced_by k) n.ack (number_of p) own.number (announced_by next) acked has.advances own.answering.answers runs not_word ∙ sym stands.announced, has.marks less)

      hears : Hears kit (announced_by k) (announced_by next) (cycle_of k) (cycle_of next) s n has.notices p
      hears = record {
        ack = has.acks (number_of p);
        roots = λ runs reg. has.roots (number_of p) reg (λ gone. runs (sym own.answering.acked ∙ gone));
        rooted = has.rooted p;
        side = pass_goes.side_on own.side;
        call = pass_goes.call_on;
        answers = answers;
        marked = marked;
        shaken = shaken;
        waits = waits;
      }

      -- a poll hears of nothing new
      polls_on : (m : PollMachine) → p.pass.machine ≡ machine.Poll m → IsRunning m → (let view = p.pass.view in view.acked) ≢ n.phase → (has.notices.phase ≡ n.phase) × (has.notices.mark ≡ n.mark)
      polls_on m e running apart =
          let runs = polls_acked kit p.pass.view p.pass.machine (subst Polls (sym e) running) own.answering.retired in
          waits runs.0 (λ same. apart (sym runs.1 ∙ same))

      heard_fixed : IsFixedPass kit k s n p → IsFixedPass kit next s has.notices p
      heard_fixed is = fixed_leaves kit k next s s n has.notices p (record {
        names = λ runs by birth at names. names;
        lets = λ runs by. has.lets acked (λ all. (answered_all l (announced_by k) (number_of p) acked (mark_of p) own.number all own.answering.marked runs).0) by;
        polls = λ m e following. following_hears s (polled_in kit p n) has.notices.phase has.notices.mark m (polls_on m e) following;
        roots = has.roots_fixed p own is;
      }) own.answering.retired is

      heard_pass : IsPassRecord kit l (announced_by next) (cycle_of next) s has.notices p
      heard_pass = pass_hears kit l (announced_by k) (announced_by next) (cycle_of k) (cycle_of next) s n has.notices p hears own

    pub hearing_goes : CollectorGoes kit by l words plan s n sealed k
    hearing_goes = record {
      space = s;
      notices = has.notices;
      says = has.says;
      announced = has.phase;
      drawn = has.drawn;
      spare = has.spare;
      rows = stands.rows;
      bare = stands.bare;
      objects = has.objects;
      lens = stands.lens;
      resting = λ a moving. absurd (has.still a (stands.resting a moving));
      history = refl;
      passes = λ p own. heard_pass p own;
      jobs = has.stands_then;
      search = has.search_then;
      sealed_are = subst (AreSealed s) (sym has.none_sealed) stands.sealed_are;
      seals = keeps_idle s s k (length (sealed_now kit by k s.history (found_in kit by l words k))) has.still;
      fixed = record {
        own = record { aside = λ a is. has.aside a (stands.fixed.aside a is); stands = has.fixed };
        passes = λ p own is. heard_fixed p own is;
      };
      heads = λ a. inl refl;
    }
