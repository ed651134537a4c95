-- What a poll of a pass knows and holds in each of its states.
use Rattle.std.specs.Prelude.{◌≡◌, ◌≢◌, ℕ, ◌<◌, ◌≤◌, ◌==◌, ◌⊎◌, if◌then◌else◌, List, length, get_or}
use Rattle.call_steps.specs.declared.step.Step.{Step}
use Rattle.call_steps.specs.declared.step.Step.TheVariants.{Load, Store, Ended}
use Rattle.heap_words.specs.declared.field_word.FieldWord.{FieldWord}
use Rattle.heap_words.specs.declared.field_word.FieldWord.TheVariants.{Num, Link}
use Rattle.heap_words.specs.Layouts.{phase_at, mark_at, ack_at}
use Rattle.object_headers.specs.Headers.{header_at}
use Rattle.handshakes.specs.declared.phase_word.Phase.{Phase}
use Rattle.handshakes.specs.declared.phase_word.Phase.TheVariants.{Free, Mark, Confirm, Copy, Fix, Retired}
use Rattle.handshakes.specs.declared.phase_word.PhaseWord.{PhaseWord}
use Rattle.handshakes.specs.declared.pass_view.PassView.{PassView}
use Rattle.handshakes.specs.declared.poll.Poll.{Poll}
use Rattle.handshakes.specs.declared.poll.PollEnd.{PollEnd}
use Rattle.handshakes.specs.declared.poll.PollMachine.{PollMachine}
use Rattle.handshakes.specs.declared.poll.PollMachine.TheVariants as poll
use Rattle.handshakes.specs.PhaseWords.{phase_word_at}
use Rattle.handshakes.specs.Follows.{place_by}

-- What a poll is about: what its pass knows and holds, the announced word, and the mark word.
pub record Polled : Type 0 where
  pub view : PassView
  pub registers : List FieldWord
  pub announced : ℕ
  pub mark : ℕ

-- the mark of a pass that acknowledges a phase: none with Free, the mark word with a round of Copy other than 0, and else its own
abbrev pub mark_by : Phase → ℕ → ℕ → ℕ → ℕ
mark_by Free round own mark = 0
mark_by Mark round own mark = own
mark_by Confirm round own mark = own
mark_by Copy round own mark = if round == 0 then own else mark
mark_by Fix round own mark = own
mark_by Retired round own mark = own

-- what the announced word says
abbrev pub said_to : Polled → PhaseWord
said_to x = phase_word_at x.announced

-- what the pass knows after a poll that acknowledges the announced word
abbrev pub view_after : Polled → PassView
view_after x = record {
  pass = x.view.pass;
  acked = x.announced;
  mark = mark_by (said_to x).phase (said_to x).round x.view.mark x.mark;
}

-- the word of a register
abbrev pub held_in : List FieldWord → ℕ → FieldWord
held_in registers i = get_or registers i (Num 0)

-- Of the registers those below `from` have become what R says of them, and the others are as they were.
pub record AreFollowed (R : FieldWord → FieldWord → Type 0) (registers now : List FieldWord) (from : ℕ) : Type 0 where
  pub as_many : length now ≡ length registers
  pub below : (i : ℕ) → i < from → R (held_in registers i) (held_in now i)
  pub others : (i : ℕ) → from ≤ i → held_in now i ≡ held_in registers i

-- before a pass acknowledges Fix all its registers are followed; any other phase leaves them
abbrev pub HaveAnswered : (FieldWord → FieldWord → Type 0) → Phase → List FieldWord → List FieldWord → Type 0
HaveAnswered R Fix registers now = AreFollowed R registers now (length registers)
HaveAnswered R _ registers now = now ≡ registers

-- the poll of this pass, with the announced word in hand, which is not the acknowledged one
pub record IsPollWith (x : Polled) (p : Poll) (word : ℕ) : Type 0 where
  pub mark_at_is : p.mark_at ≡ mark_at
  pub ack_at_is : p.ack_at ≡ ack_at x.view.pass
  pub view_is : p.view ≡ x.view
  pub announced_is : word ≡ x.announced
  pub acked_not : x.view.acked ≢ x.announced

-- the poll of this pass at its start
pub record IsPollOf (x : Polled) (p : Poll) : Type 0 where
  pub phase_at_is : p.phase_at ≡ phase_at
  pub mark_at_is : p.mark_at ≡ mark_at
  pub ack_at_is : p.ack_at ≡ ack_at x.view.pass
  pub view_is : p.view ≡ x.view
  pub registers_are : p.registers ≡ x.registers

-- it follows the link of a register, those before it are followed
pub record IsFollowedAt (R : FieldWord → FieldWord → Type 0) (x : Polled) (p : Poll) (register birth at : ℕ) : Type 0 where
  pub fix : (said_to x).phase ≡ Fix
  pub small : register < length x.registers
  pub link : held_in x.registers register ≡ Link birth at
  pub followed : AreFollowed R x.registers p.registers register

-- how a poll has ended: the announced word was acknowledged already; or it is now, after its phase's work
abbrev pub HasPolled : (FieldWord → FieldWord → Type 0) → Polled → PollEnd → Type 0
HasPolled R x e =
    ((x.view.acked ≡ x.announced) × (e.view ≡ x.view) × (e.registers ≡ x.registers))
    ⊎ ((x.view.acked ≢ x.announced) × (e.view ≡ view_after x) × HaveAnswered R (said_to x).phase x.registers e.registers)

-- What a poll knows and holds: its registers are its pass's, and those before the one that it follows are followed.
abbrev pub IsPolling : (FieldWord → FieldWord → Type 0) → Polled → PollMachine → Type 0
IsPolling R x (poll.Phase p) = IsPollOf x p
IsPolling R x (poll.Mark p word) = IsPollWith x p word × (p.registers ≡ x.registers) × ((said_to x).phase ≡ Copy) × ((said_to x).round ≢ 0)
IsPolling R x (poll.Follow p word register birth at) = IsPollWith x p word × IsFollowedAt R x p register birth at
IsPolling R x (poll.Acknowledge p word mark) = IsPollWith x p word × HaveAnswered R (said_to x).phase x.registers p.registers × (mark ≡ (view_after x).mark)
IsPolling R x (poll.Ended e) = HasPolled R x e

-- it has not ended
abbrev pub IsRunning : PollMachine → Type 0
IsRunning (poll.Ended e) = ⊥
IsRunning _ = Unit {0}

-- what its step finds: the announced word, the mark word, or a header that says what becomes of the link
abbrev pub PollFinds : (FieldWord → FieldWord → Type 0) → Polled → PollMachine → ℕ → Type 0
PollFinds R x (poll.Phase p) found = found ≡ x.announced
PollFinds R x (poll.Mark p word) found = found ≡ x.mark
PollFinds R x (poll.Follow p word register birth at) found = R (Link birth at) (Link birth (place_by (header_at found) at))
PollFinds R x _ found = Unit {0}

-- the words that it touches: it loads the phase word, the mark word and headers, and stores the announced word in its own acknowledgement
abbrev pub poll_step : Polled → PollMachine → Step
poll_step x (poll.Phase p) = Load phase_at
poll_step x (poll.Mark p word) = Load mark_at
poll_step x (poll.Follow p word register birth at) = Load at
poll_step x (poll.Acknowledge p word mark) = Store (ack_at x.view.pass) x.announced
poll_step x (poll.Ended e) = Ended
