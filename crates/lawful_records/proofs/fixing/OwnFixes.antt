-- What is fixed of a pass after its turn, by its machine.
use Rattle.std.proofs.Common.{◌≡◌, ◌≢◌, ℕ, ◌<◌, ◌==◌, true, List, length, Option, Some, None, refl, sym, ap, ◌∙◌, subst, arith}
use Rattle.call_steps.specs.declared.step.Step.TheVariants.{Ended}
use Rattle.call_steps.specs.Steps.{put_by, applied, IsInside}
use Rattle.call_steps.specs.StepLaws.{reading, Put, applied-puts}
use Rattle.heap_words.specs.Layouts.{Sizes, root_at, ack_at}
use Rattle.heap_words.specs.declared.field_word.FieldWord.TheVariants.{Link}
use Rattle.heap_words.specs.FieldWords.{word_of, field_at}
use Rattle.heap_words.specs.FieldWordLaws.{field_at-word_of}
use Rattle.handshakes.specs.declared.poll.PollMachine.{PollMachine}
use Rattle.handshakes.specs.declared.poll.PollMachine.TheVariants as poll
use Rattle.handshakes.specs.declared.retire.Retire.{Retire}
use Rattle.handshakes.specs.declared.retire.RetireMachine.{RetireMachine}
use Rattle.handshakes.specs.declared.retire.RetireMachine.TheVariants as retire
use Rattle.handshakes.specs.PhaseWords.{retired_word}
use Rattle.handshakes.specs.Polling.{Polled, held_in, IsPolling, IsRunning, PollFinds}
use Rattle.handshakes.specs.PollingLaws.{poll_goes_on}
use Rattle.handshakes.specs.Polls as polls
use Rattle.handshakes.specs.Retires as retires
use Rattle.barriers.specs.NewObjects as makes
use Rattle.barriers.specs.declared.ends.NewEnd.TheVariants as new_end
use Rattle.barriers.specs.declared.new_object.NewMachine.{NewMachine}
use Rattle.barriers.specs.declared.new_object.NewMachine.TheVariants as make
use Rattle.barriers.specs.declared.new_object.NewPlan.{NewPlan}
use Rattle.barriers.specs.declared.new_object.Placement.{Placement}
use Rattle.barriers.specs.declared.pass.PassMachine.{PassMachine}
use Rattle.barriers.specs.declared.pass.PassMachine.TheVariants as machine
use Rattle.barriers.specs.Cycles.{Cycle}
use Rattle.barriers.specs.Kits.{Kit, Stepping, Laws}
use Rattle.barriers.specs.Says.{Notices}
use Rattle.barriers.specs.Spaces.{Space, Holds}
use Rattle.barriers.specs.States.{Absent, On}
use Rattle.barriers.proofs.words.Headers.{live_there}
use Rattle.handshakes.specs.Handshakes.{Announced}
use Rattle.lawful_records.specs.declared.collector.CollectorMachine.{CollectorMachine}
use Rattle.lawful_records.specs.declared.records.PassKnown.{PassKnown}
use Rattle.lawful_records.specs.Fixing.{Names, is_fixed, IsFixedBy, AreRootsFixed, IsFollowing, IsFixedMachine, IsFixedPass}
use Rattle.lawful_records.specs.Frames.{Left, Same, Untagged, Born}
use Rattle.lawful_records.specs.Records.{number_of, acked_of}
use Rattle.lawful_records.specs.LawfulRecords.{IsGood}
use Rattle.space_reclaim.specs.declared.claim.ClaimMachine.{ClaimMachine}
use Rattle.space_reclaim.specs.declared.claim.ClaimMachine.TheVariants as claim
use Rattle.space_reclaim.specs.declared.claim.ClaimEnd.TheVariants as claim_end
use Rattle.space_reclaim.specs.Claims as claims
use Rattle.lawful_records.specs.PassTurns.{PassStands, PassTurn, in_machine, found_by, pass_after}
use Rattle.lawful_records.specs.Turns.{pass_asks}
use Rattle.lawful_records.proofs.calls.CallTurns.{read_stands, read_goes, write_stands, write_goes, exchange_stands, exchange_goes}
use Rattle.lawful_records.proofs.fixing.Calm.{IsCalm}
use Rattle.lawful_records.proofs.fixing.Frames.{NamesOn, word_names, following_stays}
use Rattle.lawful_records.proofs.fixing.Links.{link_names}
use Rattle.lawful_records.proofs.fixing.PassFixes.{Follows_to, polling_of, following_of, call_on, poll_names}
use Rattle.lawful_records.proofs.turns.HeaderTurns.{absent}
use Rattle.lawful_records.proofs.turns.Resting.{IsMakingYet, IsLeaving}
use Rattle.lawful_records.proofs.turns.RetireTurns.{leaving_next, retire_inside}

-- a claim makes no object yet
left_yet : (at : Option ℕ) (placement : Placement) → IsMakingYet (makes.leaving_at at placement)
left_yet None placement = tt
left_yet (Some at) placement = tt

claimed_yet : (plan : NewPlan) (m : ClaimMachine) → IsMakingYet (makes.claimed plan m)
claimed_yet plan (claim.Look round) = tt
claimed_yet plan (claim.Claim round) = tt
claimed_yet plan (claim.Ended (claim_end.Claimed region)) = left_yet plan.old_at (makes.placed_in plan region)
claimed_yet plan (claim.Ended (claim_end.NoneFree regions)) = tt

module _ {R W E M : Type 0} (kit : Kit R W E M) (by : Stepping R W E M) (laws : Laws kit by) (l : Sizes) (a : Announced) (c : Cycle) (k : CollectorMachine M) (s : Space) (n : Notices) (words : List ℕ) (calm : is_fixed k ≡ true → IsCalm s) (t : Space) (o : Notices) (on : NamesOn s t) (p : PassKnown R W E) where
  abbrev Stands : PassMachine R W E → Type 0
  Stands m = PassStands kit by l a c s n (in_machine p m) words

  abbrev Turn : PassMachine R W E → Type 0
  Turn m = PassTurn kit by l a c s n (in_machine p m) words t o

  abbrev Before : PassMachine R W E → Type 0
  Before m = IsFixedPass kit k s n (in_machine p m)

  abbrev After : PassMachine R W E → Type 0
  After m = IsFixedPass kit k t o (pass_after kit by s (in_machine p m) words)

  -- while it runs its links lead to homes where its root words are to
  abbrev Rooted : PassMachine R W E → Type 0
  Rooted m = acked_of (in_machine p m) ≢ retired_word → AreRootsFixed k (number_of (in_machine p m)) → IsFixedBy k (acked_of (in_machine p m))

  -- ---- calls

  own_read : (m : R) → Stands (machine.Read m) → pass_asks kit by (machine.Read m) ≢ Ended → Before (machine.Read m) → After (machine.Read m)
  own_read m stands asks fixed = record {
    registers = λ runs fixed_by i. word_names s t on _ (fixed.registers runs fixed_by i);
    machine = call_on k s calm kit by laws l c n (reading words) p.pass.view p.seen t on (kit.reads m) _ (read_stands kit by laws l a c s n p words m stands) (read_goes kit by laws l a c s n p words m stands asks).went fixed.machine;
    roots = λ retired. absurd (stands.own.answering.retired retired);
  }

  own_write : (m : W) → Stands (machine.Write m) → pass_asks kit by (machine.Write m) ≢ Ended → Before (machine.Write m) → After (machine.Write m)
  own_write m stands asks fixed = record {
    registers = λ runs fixed_by i. word_names s t on _ (fixed.registers runs fixed_by i);
    machine = call_on k s calm kit by laws l c n (reading words) p.pass.view p.seen t on (kit.writes m) _ (write_stands kit by laws l a c s n p words m stands) (write_goes kit by laws l a c s n p words m stands asks).went fixed.machine;
    roots = λ retired. absurd (stands.own.answering.retired retired);
  }

  own_exchange : (m : E) → Stands (machine.Exchange m) → pass_asks kit by (machine.Exchange m) ≢ Ended → Before (machine.Exchange m) → After (machine.Exchange m)
  own_exchange m stands asks fixed = record {
    registers = λ runs fixed_by i. word_names s t on _ (fixed.registers runs fixed_by i);
    machine = call_on k s calm kit by laws l c n (reading words) p.pass.view p.seen t on (kit.exchanges m) _ (exchange_stands kit by laws l a c s n p words m stands) (exchange_goes kit by laws l a c s n p words m stands asks).went fixed.machine;
    roots = λ retired. absurd (stands.own.answering.retired retired);
  }

  -- ---- a new object

  -- what began there is a home
  born : (birth at : ℕ) → s.state at ≡ Absent → Left kit.protocol l s t at → Holds t birth at → Names t birth at
  born birth at none (Same same) holds = absurd (live_there (t.state at) holds.1 (same.state ∙ none))
  born birth at none (Untagged makes was is seal wide) holds = absurd (let gone = sym none ∙ was in cc gone)
  born birth at none (Born was is seal wide own) holds = (holds.0, rw is tt)

  yet_fixed : (q : PassKnown R W E) (y : NewMachine) → IsMakingYet y → IsFixedMachine kit k t o q (machine.New y)
  yet_fixed q (make.Ended (new_end.Made birth at room)) yet = absurd yet
  yet_fixed q (make.Ended (new_end.Refused why)) yet = tt
  yet_fixed q (make.Look plan round) yet = tt
  yet_fixed q (make.Claim plan round) yet = tt
  yet_fixed q (make.Fill at placement) yet = tt
  yet_fixed q (make.Header placement) yet = tt

  own_header : (placement : Placement) → Stands (machine.New (make.Header placement)) → Turn (machine.New (make.Header placement)) → Before (machine.New (make.Header placement)) → After (machine.New (make.Header placement))
  own_header placement stands turn fixed =
      let is = stands.own.machine in
      let at : placement.at ≡ s.ends is.region = ap (λ (q : Placement). q.at) is.is ∙ sym is.room.ends in
      record {
        registers = λ runs fixed_by i. word_names s t on _ (fixed.registers runs fixed_by i);
        machine = λ fixed_by. born placement.birth placement.at (ap s.state at ∙ absent kit by laws l a c s n p words placement stands) (turn.leaves.left placement.at) turn.own.machine;
        roots = λ retired. absurd (stands.own.answering.retired retired);
      }

  own_yet : (m : NewMachine) → IsMakingYet (makes.fed_of m (found_by kit by (in_machine p (machine.New m)) words)) → Stands (machine.New m) → Before (machine.New m) → After (machine.New m)
  own_yet m yet stands fixed = record {
    registers = λ runs fixed_by i. word_names s t on _ (fixed.registers runs fixed_by i);
    machine = yet_fixed (pass_after kit by s (in_machine p (machine.New m)) words) (makes.fed_of m (found_by kit by (in_machine p (machine.New m)) words)) yet;
    roots = λ retired. absurd (stands.own.answering.retired retired);
  }

  own_new : (m : NewMachine) → Stands (machine.New m) → pass_asks kit by (machine.New m) ≢ Ended → Turn (machine.New m) → Before (machine.New m) → After (machine.New m)
  own_new (make.Look plan round) stands asks turn fixed = own_yet (make.Look plan round) (claimed_yet plan (claims.fed_of (claim.Look round) _)) stands fixed
  own_new (make.Claim plan round) stands asks turn fixed = own_yet (make.Claim plan round) (claimed_yet plan (claims.fed_of (claim.Claim round) _)) stands fixed
  own_new (make.Fill at placement) stands asks turn fixed = own_yet (make.Fill at placement) tt stands fixed
  own_new (make.Header placement) stands asks turn fixed = own_header placement stands turn fixed
  own_new (make.Ended end) stands asks turn fixed = absurd (asks refl)

  -- ---- a poll

  abbrev polled : Polled
  polled = record { view = p.pass.view; registers = p.pass.registers; announced = n.phase; mark = n.mark }

  abbrev fed : PollMachine → PollMachine
  fed m = polls.fed_of m (found_by kit by (in_machine p (machine.Poll m)) words)

  poll_finds : (m : PollMachine) → Stands (machine.Poll m) → PollFinds (Follows_to s) polled m (found_by kit by (in_machine p (machine.Poll m)) words)
  poll_finds (poll.Phase q) stands = ap (reading words) stands.own.machine.phase_at_is ∙ stands.says.notices.phase
  poll_finds (poll.Mark q word) stands = ap (reading words) stands.own.machine.0.mark_at_is ∙ stands.says.notices.mark
  poll_finds (poll.Follow q word register birth at) stands =
      let good : IsGood s (Link birth at) = subst (IsGood s) stands.own.machine.1.link (stands.own.registers register) in
      link_names l (reading words) c s n stands.rows stands.says stands.objects birth at good.0 good.1
  poll_finds (poll.Acknowledge q word mark) stands = tt
  poll_finds (poll.Ended end) stands = tt

  poll_on : (m : PollMachine) → Stands (machine.Poll m) → IsRunning m → IsFollowing s polled m → IsPolling (Follows_to s) polled (fed m)
  poll_on m stands runs following = poll_goes_on (Follows_to s) (λ number. tt) polled m (found_by kit by (in_machine p (machine.Poll m)) words) (polling_of s polled m runs following) (poll_finds m stands)

  abbrev Held : Type 0
  Held = IsFixedBy k p.pass.view.acked → (i : ℕ) → On (Names s) (held_in p.pass.registers i)

  poll_after : (m : PollMachine) → Turn (machine.Poll m) → Held → IsPolling (Follows_to s) polled (fed m) → After (machine.Poll m)
  poll_after m turn held is = record {
    registers = λ runs fixed_by i. word_names s t on _ (poll_names k s calm polled R W E held (fed m) is fixed_by i);
    machine = subst (λ (phase : ℕ). IsFollowing t (record polled { announced = phase; mark = o.mark }) (fed m)) (sym turn.beside.phase)
        (subst (λ (mark : ℕ). IsFollowing t (record polled { mark = mark }) (fed m)) (sym turn.beside.mark) (following_stays s t on polled (fed m) (following_of s polled (fed m) is)));
    roots = λ retired. absurd (turn.own.answering.retired retired);
  }

  own_poll : (m : PollMachine) → Stands (machine.Poll m) → pass_asks kit by (machine.Poll m) ≢ Ended → Turn (machine.Poll m) → Before (machine.Poll m) → After (machine.Poll m)
  own_poll (poll.Phase q) stands asks turn fixed = poll_after (poll.Phase q) turn (fixed.registers stands.own.answering.retired) (poll_on (poll.Phase q) stands tt fixed.machine)
  own_poll (poll.Mark q word) stands asks turn fixed = poll_after (poll.Mark q word) turn (fixed.registers stands.own.answering.retired) (poll_on (poll.Mark q word) stands tt fixed.machine)
  own_poll (poll.Follow q word register birth at) stands asks turn fixed = poll_after (poll.Follow q word register birth at) turn (fixed.registers stands.own.answering.retired) (poll_on (poll.Follow q word register birth at) stands tt fixed.machine)
  own_poll (poll.Acknowledge q word mark) stands asks turn fixed = poll_after (poll.Acknowledge q word mark) turn (fixed.registers stands.own.answering.retired) (poll_on (poll.Acknowledge q word mark) stands tt fixed.machine)
  own_poll (poll.Ended end) stands asks turn fixed = absurd (asks refl)

  -- ---- a retirement

  -- it goes on
  leaves_fixed : (y : RetireMachine) → IsLeaving y → p.pass.view.acked ≢ retired_word → Held → IsFixedPass kit k t o (record p { pass = record p.pass { machine = machine.Retire y; seen = length p.seen } })
  leaves_fixed retire.Ended leaves running held = absurd leaves
  leaves_fixed (retire.Root r behind) leaves running held = record { registers = λ runs fixed_by i. word_names s t on _ (held fixed_by i); machine = tt; roots = λ retired. absurd (running retired) }
  leaves_fixed (retire.Region r at) leaves running held = record { registers = λ runs fixed_by i. word_names s t on _ (held fixed_by i); machine = tt; roots = λ retired. absurd (running retired) }
  leaves_fixed (retire.Acknowledge r) leaves running held = record { registers = λ runs fixed_by i. word_names s t on _ (held fixed_by i); machine = tt; roots = λ retired. absurd (running retired) }

  -- it has ended: its root words hold what its registers hold
  module _ (r : Retire) (stands : Stands (machine.Retire (retire.Acknowledge r))) (turn : Turn (machine.Retire (retire.Acknowledge r))) where
    abbrev m : RetireMachine
    m = retire.Acknowledge r

    abbrev pass : ℕ
    pass = p.pass.view.pass

    abbrev after : ℕ → ℕ
    after = reading (applied (retires.asks_of m) words)

    stored : Put (reading words) after r.ack_at (put_by (retires.asks_of m) (reading words r.ack_at))
    stored = applied-puts (retires.asks_of m) words (λ e. cc e) (subst (λ size. IsInside size (retires.asks_of m)) (sym stands.width) (retire_inside kit by l a c s n p words m stands))

    ack_is : r.ack_at ≡ ack_at pass
    ack_is = ap (λ (x : Retire). x.ack_at) stands.own.machine.0

    root_same : (i : ℕ) → i < 8 → o.root pass i ≡ held_in p.pass.registers i
    root_same i less =
        let there = stands.own.number in
        let apart : root_at l pass i ≢ r.ack_at = λ same. omega (arith, same, ack_is, there.0, there.1) in
        let words_same : word_of (o.root pass i) ≡ word_of (n.root pass i) = sym (turn.says.notices.root pass i there less) ∙ (stored.elsewhere (root_at l pass i) apart ∙ stands.says.notices.root pass i there less) in
        let same : o.root pass i ≡ n.root pass i =
        sym (field_at-word_of (o.root pass i) (turn.says.notices.root_fits pass i there less)) ∙ (ap field_at words_same ∙ field_at-word_of (n.root pass i) (stands.says.notices.root_fits pass i there less)) in
        same ∙ stands.own.machine.1 i less

    own_retired : (AreRootsFixed k pass → IsFixedBy k p.pass.view.acked) → Held → After (machine.Retire m)
    own_retired rooted held = record {
      registers = λ runs. absurd (runs refl);
      machine = tt;
      roots = λ retired roots i less. subst (On (Names t)) (sym (root_same i less)) (word_names s t on _ (held (rooted roots) i));
    }

  own_retire : (m : RetireMachine) → Stands (machine.Retire m) → pass_asks kit by (machine.Retire m) ≢ Ended → Turn (machine.Retire m) → Rooted (machine.Retire m) → Before (machine.Retire m) → After (machine.Retire m)
  own_retire (retire.Root r behind) stands asks turn rooted fixed = leaves_fixed (retires.fed_of (retire.Root r behind) 0) (leaving_next r behind (behind == 0)) stands.own.answering.retired (fixed.registers stands.own.answering.retired)
  own_retire (retire.Region r at) stands asks turn rooted fixed = leaves_fixed (retire.Acknowledge r) tt stands.own.answering.retired (fixed.registers stands.own.answering.retired)
  own_retire (retire.Acknowledge r) stands asks turn rooted fixed = own_retired r stands turn (rooted stands.own.answering.retired) (fixed.registers stands.own.answering.retired)
  own_retire retire.Ended stands asks turn rooted fixed = absurd (asks refl)

  -- ---- each machine

  pub own_by : (m : PassMachine R W E) → Stands m → pass_asks kit by m ≢ Ended → Turn m → Rooted m → Before m → After m
  own_by machine.Idle stands asks turn rooted fixed = absurd (asks refl)
  own_by machine.Retired stands asks turn rooted fixed = absurd (asks refl)
  own_by (machine.Poll m) stands asks turn rooted fixed = own_poll m stands asks turn fixed
  own_by (machine.New m) stands asks turn rooted fixed = own_new m stands asks turn fixed
  own_by (machine.Read m) stands asks turn rooted fixed = own_read m stands asks fixed
  own_by (machine.Write m) stands asks turn rooted fixed = own_write m stands asks fixed
  own_by (machine.Exchange m) stands asks turn rooted fixed = own_exchange m stands asks fixed
  own_by (machine.Retire m) stands asks turn rooted fixed = own_retire m stands asks turn rooted fixed
