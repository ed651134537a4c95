-- The turn of a pass that polls.
use Rattle.std.proofs.Common.{◌≡◌, ◌≢◌, ℕ, ◌+◌, ◌<◌, ◌==◌, inl, inr, Bool, true, false, List, length, if◌then◌else◌, None, refl, sym, ap, ◌∙◌, subst, arith}
use Rattle.std.specs.Prelude.{slice_index}
use Rattle.call_steps.specs.declared.step.Step.TheVariants.{Ended}
use Rattle.call_steps.specs.Steps.{IsInside, place_of}
use Rattle.call_steps.specs.StepLaws.{reading, Put}
use Rattle.heap_words.specs.Layouts.{Sizes, words_of, ack_at}
use Rattle.heap_words.specs.declared.field_word.FieldWord.{FieldWord}
use Rattle.heap_words.specs.declared.field_word.FieldWord.TheVariants.{Link}
use Rattle.object_headers.specs.Headers.{IsHeader, header_at}
use Rattle.handshakes.specs.declared.pass_view.PassView.{PassView}
use Rattle.handshakes.specs.declared.poll.Poll.{Poll}
use Rattle.handshakes.specs.declared.poll.PollEnd.{PollEnd}
use Rattle.handshakes.specs.declared.poll.PollMachine.{PollMachine}
use Rattle.handshakes.specs.declared.poll.PollMachine.TheVariants as poll
use Rattle.handshakes.specs.Handshakes.{Announced, Answers, AnswersWith}
use Rattle.handshakes.specs.Follows.{place_by}
use Rattle.handshakes.specs.PhaseWords.{phase_word_at, retired_word}
use Rattle.handshakes.specs.Polls as polls
use Rattle.handshakes.specs.Polling.{Polled, said_to, view_after, held_in, HaveAnswered, IsPolling, IsRunning, PollFinds}
use Rattle.barriers.specs.States.{State, Absent, Underway, Forward, Dead, IsHome, IsLive}
use Rattle.barriers.specs.Spaces.{Space, Holds}
use Rattle.barriers.specs.Says.{Notices, Says, header_by, put_ack}
use Rattle.barriers.specs.Rows.{Rows}
use Rattle.barriers.specs.Values.{value_of}
use Rattle.barriers.specs.Cycles.{Cycle, Handshaken}
use Rattle.barriers.specs.CycleLaws.{CycleLaws}
use Rattle.barriers.specs.Objects.{AreObjects, IsSide}
use Rattle.barriers.specs.Kits.{Kit, Stepping}
use Rattle.barriers.proofs.words.Found.{found_home, found_forward, header_inside}
use Rattle.barriers.proofs.words.Headers.{live_there}
use Rattle.barriers.proofs.words.NoticeStores.{says_ack}
use Rattle.barriers.proofs.words.Sets.{set_here, set_else}
use Rattle.lawful_records.specs.LawfulRecords.{IsGood, IsMoved, IsPollIn, IsPassRecord}
use Rattle.lawful_records.specs.Making.{IsRoom, lens_of}
use Rattle.lawful_records.specs.Records.{number_of}
use Rattle.lawful_records.specs.PassTurns.{PassStands, HasTurn, in_machine}
use Rattle.barriers.specs.declared.pass.PassMachine.TheVariants as machine
use Rattle.lawful_records.specs.declared.records.PassKnown.{PassKnown}
use Rattle.lawful_records.proofs.frames.SpareStays.{ack_low, spare_low}
use Rattle.lawful_records.proofs.telling.Meeting.{named_same}
use Rattle.lawful_records.proofs.telling.Telling.{told_quiet}
use Rattle.lawful_records.proofs.turns.Holding.{PassHolds, side_at, record_of}
use Rattle.lawful_records.proofs.turns.Polling.{Becomes, poll_next, answered_moved, begin_runs, follow_runs, own_number}
use Rattle.lawful_records.proofs.turns.Resting.{PassRests, goes_to, quiet_poll, quiet_polled, rests_of, room_of, record_rests}
use Rattle.lawful_records.proofs.parties.Pasts.{looks_not}
use Rattle.lawful_records.proofs.turns.Stepping.{next, put_alike, puts, load_turn, notice_turn}

-- ---- following

-- a header leads to where the object is
pub link_found : {P : _} (l : Sizes) (m : ℕ → ℕ) (c : Cycle) (s : Space) (n : Notices) (birth at : ℕ) → Rows l s.state s.len s.ends s.region → Says l m s n → AreObjects P c s → Becomes s (Link birth at) (Link birth (place_by (header_at (m at)) at))
link_found {P} l m c s n birth at rows says objects good = by_state (s.state at) refl
  where
    live : IsLive (s.state at)
    live = good.1.1

    there : s.state at ≢ Absent
    there = live_there (s.state at) live

    stays : IsHome (s.state at) → IsMoved s (Link birth at) (Link birth (place_by (header_at (m at)) at))
    stays home = subst (λ place. IsMoved s (Link birth at) (Link birth place)) (sym (found_home l m s n rows says at home)) (record { value = refl; good = good })

    goes : (to : ℕ) → s.state at ≡ Forward to → IsMoved s (Link birth at) (Link birth (place_by (header_at (m at)) at))
    goes to is =
        let fits = subst (λ (x : State). IsHeader (header_by x (s.colour at) (s.len at) (s.birth at))) is (says.objects.header_fits at there) in
        let target : to ≡ s.to at = rw is at (objects.target at 0 live) in
        let copy = objects.copied at (rw is tt) in
        let holds : Holds s birth to = subst (Holds s birth) (sym target) (copy.birth ∙ good.1.0, rw copy.state tt) in
        subst (λ place. IsMoved s (Link birth at) (Link birth place)) (sym (found_forward l m s n rows says at to is)) (record { value = refl; good = ((good.0.0, fits.target), holds) })

    by_state : (x : State) → s.state at ≡ x → IsMoved s (Link birth at) (Link birth (place_by (header_at (m at)) at))
    by_state Absent is = absurd (there is)
    by_state Underway is = absurd (rw is at live)
    by_state (Forward to) is = goes to is
    by_state Dead is = absurd (rw is at live)
    by_state x is = stays (rw is tt)

module _ {R W E M : Type 0} (kit : Kit R W E M) (by : Stepping R W E M) (cycle : CycleLaws kit.protocol) (l : Sizes) (a : Announced) (c : Cycle) (s : Space) (n : Notices) (p : PassKnown R W E) (words : List ℕ) where
  -- what its polls are about
  abbrev polled : Polled
  polled = record { view = p.pass.view; registers = p.pass.registers; announced = n.phase; mark = n.mark }

  abbrev Stands : PollMachine → Type 0
  Stands m = PassStands kit by l a c s n (in_machine p (machine.Poll m)) words

  pub poll_inside : (m : PollMachine) → Stands m → IsInside (words_of l) (polls.asks_of m)
  poll_inside (poll.Phase q) stands = let is = stands.own.machine in omega (arith, is.phase_at_is)
  poll_inside (poll.Mark q word) stands = let is = stands.own.machine in omega (arith, is.0.mark_at_is)
  poll_inside (poll.Follow q word register birth at) stands =
      let is = stands.own.machine in
      let good : IsGood s (Link birth at) = subst (IsGood s) is.1.link (stands.own.registers register) in
      header_inside l (reading words) s n stands.rows stands.says at good.1.1
  poll_inside (poll.Acknowledge q word mark) stands = let is = stands.own.machine in let pass = stands.own.number in omega (arith, is.0.ack_at_is, pass.0, pass.1)
  poll_inside (poll.Ended e) stands = tt

  -- ---- the record in a poll that goes on

  module _ (m : PollMachine) (stands : Stands m) (on : polls.asks_of m ≢ Ended) where
    runs_on : IsRunning m
    runs_on = by_case m on
      where
        by_case : (m : PollMachine) → polls.asks_of m ≢ Ended → IsRunning m
        by_case (poll.Ended e) on = absurd (on refl)
        by_case _ on = tt

    rests : PassRests kit l a c s n p
    rests = rests_of kit l a c s n p (machine.Poll m) (quiet_poll kit p m runs_on) stands.own

    room : IsRoom l s p.pass.view.pass p.pass.room (lens_of p.mine)
    room = room_of kit l a c s n p (machine.Poll m) (quiet_poll kit p m runs_on) stands.own refl

    polling : IsPolling (IsMoved s) polled m
    polling = by_case m runs_on stands
      where
        by_case : (m : PollMachine) → IsRunning m → Stands m → IsPolling (IsMoved s) polled m
        by_case (poll.Ended e) on stands = absurd on
        by_case m on stands = stands.own.machine

    abbrev found : ℕ
    found = slice_index words (place_of (polls.asks_of m))

    -- the pass in the poll after the step, with the notices then
    abbrev Went : Notices → PollMachine → Type 0
    Went o k = (number_of (goes_to kit p (machine.Poll k)) ≡ p.pass.view.pass) × IsPassRecord kit l a c s o (goes_to kit p (machine.Poll k))

    -- it goes on
    going : (k : PollMachine) → IsRunning k → IsPolling (IsMoved s) polled k → Went n k
    going k runs is =
        let quiet = quiet_poll kit p k runs in
        (ap (λ (v : PassView). v.pass) quiet.view, record_rests kit l a c s n p (machine.Poll k) quiet rests (λ has. room) (in_poll k runs is))
      where
        in_poll : (k : PollMachine) → IsRunning k → IsPolling (IsMoved s) polled k → IsPollIn s polled k
        in_poll (poll.Ended e) runs is = absurd runs
        in_poll k runs is = is

    -- the announced word was acknowledged already
    known : (e : PollEnd) → e.view ≡ p.pass.view → e.registers ≡ p.pass.registers → Went n (poll.Ended e)
    known e view registers = (
      ap (λ (v : PassView). v.pass) view,
      record_rests kit l a c s n p (machine.Poll (poll.Ended e)) (quiet_polled kit p e view registers) rests (λ has. room)
          (ap (λ (v : PassView). v.pass) view, (ap length registers, λ i. ap (λ (rs : List FieldWord). value_of (held_in rs i)) registers)),
    )

    -- ---- it has acknowledged the announced word

    abbrev answered : PassView
    answered = view_after polled

    answers : Answers a p.pass.view.pass n.phase
    answers = inr (inl stands.announced)

    runs_still : n.phase ≢ retired_word
    runs_still retired = stands.announcement.runs (sym stands.announced ∙ retired)

    module _ (fresh : p.pass.view.acked ≢ n.phase) where
      -- it has the mark of the word before until then
      waited : (a.passed < p.pass.view.pass) × (p.pass.view.mark ≡ a.mark_before)
      waited = elim rests.holds.marked [
        | inl ended ↦ absurd (rests.runs ended.0)
        | inr rest ↦ elim rest [ inl same ↦ absurd (fresh (same.0 ∙ sym stands.announced)) | inr late ↦ (late.1, late.2) ]
      ]

      mark_then : answered.mark ≡ a.mark
      mark_then = rw (stands.announced, waited.1) (stands.announcement.answered p.pass.view.pass rests.holds.number waited.0)

      marked : AnswersWith a p.pass.view.pass n.phase answered.mark
      marked = inr (inl (stands.announced, mark_then))

      shaken : Handshaken c (side_at kit answered p.seen)
      shaken = stands.announcement.shaken answered p.seen rests.holds.number marked runs_still

      side : IsSide kit.protocol c s (side_at kit answered p.seen)
      side = record { fits = λ runs. cycle.fits_by c (side_at kit answered p.seen) shaken; past = rests.holds.side.past; number = own_number kit.minds answered }

    module _ (fresh : p.pass.view.acked ≢ n.phase) (now : List FieldWord) (done : HaveAnswered (IsMoved s) (said_to polled).phase p.pass.registers now) where
      moved : (length now ≡ length p.pass.registers) × ((i : ℕ) → IsMoved s (held_in p.pass.registers i) (held_in now i))
      moved = answered_moved s polled rests.holds.good now (said_to polled).phase done

      holds : PassHolds kit l a c s (put_ack n p.pass.view.pass n.phase) answered now p.seen
      holds = record {
        number = rests.holds.number;
        side = side fresh;
        acked = set_here n.ack p.pass.view.pass n.phase;
        answers = answers;
        phase = rw stands.announced stands.announcement.phase;
        marked = marked fresh;
        shaken = λ runs. shaken fresh;
        eight = moved.0 ∙ rests.holds.eight;
        good = λ i. (moved.1 i).good;
        named = λ i. named_same p.seen (held_in p.pass.registers i) (held_in now i) (moved.1 i).value (rests.holds.named i);
      }

      abbrev ended : PollEnd
      ended = record { view = answered; registers = now }

      acked : Went (put_ack n p.pass.view.pass n.phase) (poll.Ended ended)
      acked = (
        refl,
        record_of kit l a c s (put_ack n p.pass.view.pass n.phase) (goes_to kit p (machine.Poll (poll.Ended ended))) holds (record {
          retired = runs_still;
          room = λ has. room;
          few = rests.few;
          unborn = rests.unborn;
          machine = (refl, (moved.0, λ i. (moved.1 i).value));
          told = told_quiet kit s.history (in_machine p machine.Idle) (goes_to kit p (machine.Poll (poll.Ended ended)))
              (record { number = refl; mine = refl; count = refl; later = omega arith; past = rests.holds.side.past }) refl rests.told;
          call = tt;
          made = tt;
        }),
      )

  -- ---- the turn

  module _ (q : Poll) (stands : Stands (poll.Phase q)) where
    on_phase : polls.asks_of (poll.Phase q) ≢ Ended
    on_phase e = cc e

    abbrev phase_word : ℕ
    phase_word = slice_index words q.phase_at

    phase_found : phase_word ≡ n.phase
    phase_found = ap (reading words) stands.own.machine.phase_at_is ∙ stands.says.notices.phase

    phase_next : (same : Bool) → (phase_word == q.view.acked) ≡ same
        → Went (poll.Phase q) stands on_phase n (if same then polls.ended q.view q.registers else polls.begin_by (phase_word_at phase_word).phase (phase_word_at phase_word).round q phase_word)
    phase_next true e = known (poll.Phase q) stands on_phase (record { view = q.view; registers = q.registers }) stands.own.machine.view_is stands.own.machine.registers_are
    phase_next false e =
        let next = poll_next s polled (rests (poll.Phase q) stands on_phase).holds.good (poll.Phase q) phase_word stands.own.machine phase_found in
        going (poll.Phase q) stands on_phase (polls.begin_by (phase_word_at phase_word).phase (phase_word_at phase_word).round q phase_word)
        (begin_runs (phase_word_at phase_word).phase (phase_word_at phase_word).round q phase_word) (rw e at next)

    phase_turn : HasTurn kit by l a c s n (in_machine p (machine.Poll (poll.Phase q))) words
    phase_turn =
        let went = phase_next (phase_word == q.view.acked) refl in
        load_turn kit by l a c s n (in_machine p (machine.Poll (poll.Phase q))) words stands on_phase (poll_inside (poll.Phase q) stands) refl (looks_not None s.history p.seen stands.own.side.past) went.0 refl went.1

  -- a load that is another's than the phase word's
  load_goes : (m : PollMachine) (stands : Stands m) (on : polls.asks_of m ≢ Ended) → IsRunning (polls.fed_of m (found m stands on)) → PollFinds (Becomes s) polled m (found m stands on)
      → Went m stands on n (polls.fed_of m (found m stands on))
  load_goes m stands on runs finds =
      going m stands on (polls.fed_of m (found m stands on)) runs (poll_next s polled (rests m stands on).holds.good m (found m stands on) (polling m stands on) finds)

  module _ (q : Poll) (word mark : ℕ) (stands : Stands (poll.Acknowledge q word mark)) (on : polls.asks_of (poll.Acknowledge q word mark) ≢ Ended) where
    abbrev storing : PollMachine
    storing = poll.Acknowledge q word mark

    abbrev own_pass : ℕ
    own_pass = p.pass.view.pass

    view_is : record { pass = q.view.pass; acked = word; mark = mark } ≡ answered storing stands on
    view_is = let is = stands.own.machine in rw (is.0.view_is, is.0.announced_is, is.2) refl

    acknowledged : Went storing stands on (put_ack n own_pass n.phase) (polls.fed_of storing (found storing stands on))
    acknowledged = subst (λ (v : PassView). Went storing stands on (put_ack n own_pass n.phase) (polls.ended v q.registers)) (sym view_is)
        (acked storing stands on stands.own.machine.0.acked_not q.registers stands.own.machine.1)

    stored : Put (reading words) (next kit by l a c s n (in_machine p (machine.Poll storing)) words stands on (poll_inside storing stands)) (ack_at own_pass) n.phase
    stored =
        let is = stands.own.machine in
        put_alike (reading words) (next kit by l a c s n (in_machine p (machine.Poll storing)) words stands on (poll_inside storing stands)) q.ack_at word (ack_at own_pass) n.phase
        is.0.ack_at_is is.0.announced_is (puts kit by l a c s n (in_machine p (machine.Poll storing)) words stands on (poll_inside storing stands))

    acknowledge_turn : HasTurn kit by l a c s n (in_machine p (machine.Poll storing)) words
    acknowledge_turn = notice_turn kit by l a c s n (in_machine p (machine.Poll storing)) words stands on (poll_inside storing stands) refl (looks_not None s.history p.seen stands.own.side.past) acknowledged.0 (put_ack n own_pass n.phase)
        (says_ack l (reading words) (next kit by l a c s n (in_machine p (machine.Poll storing)) words stands on (poll_inside storing stands)) s n stands.rows stands.says own_pass n.phase stands.own.number stored)
        (spare_low l (reading words) (next kit by l a c s n (in_machine p (machine.Poll storing)) words stands on (poll_inside storing stands)) s stands.spare (ack_at own_pass) n.phase stored (ack_low l own_pass stands.own.number))
        (record { acks = λ other apart. set_else n.ack own_pass other n.phase apart; roots = λ other reg apart. refl; phase = refl; mark = refl })
        acknowledged.1

  pub poll_turn : (m : PollMachine) → Stands m → polls.asks_of m ≢ Ended → HasTurn kit by l a c s n (in_machine p (machine.Poll m)) words
  poll_turn (poll.Phase q) stands on = phase_turn q stands
  poll_turn (poll.Mark q word) stands on =
      let finds : slice_index words q.mark_at ≡ n.mark = ap (reading words) stands.own.machine.0.mark_at_is ∙ stands.says.notices.mark in
      let went = load_goes (poll.Mark q word) stands on tt finds in
      load_turn kit by l a c s n (in_machine p (machine.Poll (poll.Mark q word))) words stands on (poll_inside (poll.Mark q word) stands) refl (looks_not None s.history p.seen stands.own.side.past) went.0 refl went.1
  poll_turn (poll.Follow q word register birth at) stands on =
      let followed : Poll = polls.followed q register birth (place_by (header_at (slice_index words at)) at) in
      let went = load_goes (poll.Follow q word register birth at) stands on (follow_runs followed word (register + 1) (polls.rest_after followed register))
      (link_found l (reading words) c s n birth at stands.rows stands.says stands.objects) in
      load_turn kit by l a c s n (in_machine p (machine.Poll (poll.Follow q word register birth at))) words stands on (poll_inside (poll.Follow q word register birth at) stands) refl (looks_not None s.history p.seen stands.own.side.past) went.0 refl went.1
  poll_turn (poll.Acknowledge q word mark) stands on = acknowledge_turn q word mark stands on
  poll_turn (poll.Ended e) stands on = absurd (on refl)
