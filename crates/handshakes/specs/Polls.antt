-- The poll of a pass.
use Rattle.std.specs.Prelude.{◌≡◌, ◌≢◌, ℕ, ◌+◌, ◌-◌, ◌<◌, ◌≤◌, ◌==◌, if◌then◌else◌, Bool, true, false, List, [], ◌∷◌, length, drop, slice_set, Option, Some, None, refl}
use Rattle.std.proofs.Common.{lit<, lit≤, arith, length-set, length-drop}
use Rattle.call_steps.specs.declared.step.Step.{Step}
use Rattle.call_steps.specs.declared.step.Step.TheVariants.{Load, Store, Ended}
use Rattle.heap_words.specs.declared.field_word.FieldWord.{FieldWord}
use Rattle.heap_words.specs.declared.field_word.FieldWord.TheVariants.{Num, Link}
use Rattle.heap_words.specs.Layouts.{phase_at, mark_at, ack_at}
use Rattle.object_headers.specs.Headers.{header_at}
use Rattle.handshakes.specs.declared.phase_word.Phase.{Phase}
use Rattle.handshakes.specs.declared.phase_word.Phase.TheVariants.{Free, Mark, Confirm, Copy, Fix, Retired}
use Rattle.handshakes.specs.declared.pass_view.PassView.{PassView}
use Rattle.handshakes.specs.declared.poll.Poll.{Poll}
use Rattle.handshakes.specs.declared.poll.PollEnd.{PollEnd}
use Rattle.handshakes.specs.declared.poll.PollMachine.{PollMachine}
use Rattle.handshakes.specs.declared.poll.PollMachine.TheVariants as poll
use Rattle.handshakes.specs.PhaseWords.{phase_word_at}
use Rattle.handshakes.specs.Follows.{place_by}

-- a poll at its start
abbrev pub poll_of : PassView → List FieldWord → Poll
poll_of view registers = record {
  phase_at = phase_at;
  mark_at = mark_at;
  ack_at = ack_at view.pass;
  view = view;
  registers = registers;
}

abbrev pub asks_of : PollMachine → Step
asks_of (poll.Phase p) = Load p.phase_at
asks_of (poll.Mark p word) = Load p.mark_at
asks_of (poll.Follow p word register birth at) = Load at
asks_of (poll.Acknowledge p word mark) = Store p.ack_at word
asks_of (poll.Ended e) = Ended

-- the first link among these registers, of which the first has the number `register`, is followed; where there is none, the word is acknowledged
abbrev pub follow_from : Poll → ℕ → ℕ → List FieldWord → PollMachine
follow_from p word register [] = poll.Acknowledge p word p.view.mark
follow_from p word register (Num n ∷ rest) = follow_from p word (register + 1) rest
follow_from p word register (Link birth at ∷ rest) = poll.Follow p word register birth at

-- what a phase in this round has a pass do: Free takes its mark, Copy in a round other than 0 gives it one, and Fix has it follow its registers
abbrev pub begin_by : Phase → ℕ → Poll → ℕ → PollMachine
begin_by Free round p word = poll.Acknowledge p word 0
begin_by Mark round p word = poll.Acknowledge p word p.view.mark
begin_by Confirm round p word = poll.Acknowledge p word p.view.mark
begin_by Copy round p word = if round == 0 then poll.Acknowledge p word p.view.mark else poll.Mark p word
begin_by Fix round p word = follow_from p word 0 p.registers
begin_by Retired round p word = poll.Acknowledge p word p.view.mark

-- the poll with the link of a register going to where its object is now
abbrev pub followed : Poll → ℕ → ℕ → ℕ → Poll
followed p register birth at = record p { registers = slice_set p.registers register (Link birth at) }

-- the registers after a register
abbrev pub rest_after : Poll → ℕ → List FieldWord
rest_after p register = drop (register + 1) p.registers

-- it goes on with this view and these registers
abbrev pub ended : PassView → List FieldWord → PollMachine
ended view registers = poll.Ended (record { view = view; registers = registers })

abbrev pub fed_of : PollMachine → ℕ → PollMachine
fed_of (poll.Phase p) found =
    if found == p.view.acked
    then ended p.view p.registers
    else begin_by (phase_word_at found).phase (phase_word_at found).round p found
fed_of (poll.Mark p word) found = poll.Acknowledge p word found
fed_of (poll.Follow p word register birth at) found =
    let q : Poll = followed p register birth (place_by (header_at found) at) in
    follow_from q word (register + 1) (rest_after q register)
fed_of (poll.Acknowledge p word mark) found = ended (record { pass = p.view.pass; acked = word; mark = mark }) p.registers
fed_of (poll.Ended e) found = poll.Ended e

-- the phase word, each register, and the acknowledgement
abbrev pub left_of : PollMachine → ℕ
left_of (poll.Phase p) = length p.registers + 3
left_of (poll.Mark p word) = 2
left_of (poll.Follow p word register birth at) = length p.registers - (register + 1) + 2
left_of (poll.Acknowledge p word mark) = 1
left_of (poll.Ended e) = 0

-- how it ended, if it has
abbrev pub end_of : PollMachine → Option PollEnd
end_of (poll.Phase p) = None
end_of (poll.Mark p word) = None
end_of (poll.Follow p word register birth at) = None
end_of (poll.Acknowledge p word mark) = None
end_of (poll.Ended e) = Some e

pub blind_of : (m : PollMachine) (at put n : ℕ) → asks_of m ≡ Store at put → fed_of m n ≡ fed_of m 0
blind_of (poll.Phase p) at put n is = absurd cc
blind_of (poll.Mark p word) at put n is = absurd cc
blind_of (poll.Follow p word register birth place) at put n is = absurd cc
blind_of (poll.Acknowledge p word mark) at put n is = refl
blind_of (poll.Ended e) at put n is = refl

pub none_left_of : (m : PollMachine) → asks_of m ≡ Ended → left_of m ≡ 0
none_left_of (poll.Phase p) is = absurd cc
none_left_of (poll.Mark p word) is = absurd cc
none_left_of (poll.Follow p word register birth at) is = absurd cc
none_left_of (poll.Acknowledge p word mark) is = absurd cc
none_left_of (poll.Ended e) is = refl

pub some_left_of : (m : PollMachine) → left_of m ≡ 0 → asks_of m ≡ Ended
some_left_of (poll.Phase p) is = absurd (omega arith)
some_left_of (poll.Mark p word) is = absurd (omega arith)
some_left_of (poll.Follow p word register birth at) is = absurd (omega arith)
some_left_of (poll.Acknowledge p word mark) is = absurd (omega arith)
some_left_of (poll.Ended e) is = refl

-- following takes at most a step for each register, and the acknowledgement
follow_from-left : (p : Poll) (word register : ℕ) (rest : List FieldWord) → length p.registers ≤ register + length rest → left_of (follow_from p word register rest) ≤ length rest + 1
follow_from-left p word register [] fits = lit≤ tt
follow_from-left p word register (Num n ∷ rest) fits = let later = follow_from-left p word (register + 1) rest (omega arith) in omega arith
follow_from-left p word register (Link birth at ∷ rest) fits = omega arith

begin_by-left : (phase : Phase) (round : ℕ) (p : Poll) (word : ℕ) → left_of (begin_by phase round p word) < length p.registers + 3
begin_by-left Free round p word = omega arith
begin_by-left Mark round p word = omega arith
begin_by-left Confirm round p word = omega arith
begin_by-left Copy round p word = elim (round == 0) as (λ b. left_of (if b then poll.Acknowledge p word p.view.mark else poll.Mark p word) < length p.registers + 3) [ true ↦ omega arith | false ↦ omega arith ]
begin_by-left Fix round p word = omega (arith, follow_from-left p word 0 p.registers (omega arith))
begin_by-left Retired round p word = omega arith

phase-left : (p : Poll) (found : ℕ) (same : Bool) → left_of (if same then ended p.view p.registers else begin_by (phase_word_at found).phase (phase_word_at found).round p found) < length p.registers + 3
phase-left p found true = omega arith
phase-left p found false = begin_by-left (phase_word_at found).phase (phase_word_at found).round p found

followed-left : (q : Poll) (word register size : ℕ) → length q.registers ≡ size → left_of (follow_from q word (register + 1) (rest_after q register)) < size - (register + 1) + 2
followed-left q word register size is =
    let rest : length (rest_after q register) ≡ size - (register + 1) = omega (arith, length-drop (register + 1) q.registers) in
    omega (arith, follow_from-left q word (register + 1) (rest_after q register) (omega arith))

pub falls_of : (m : PollMachine) (n : ℕ) → asks_of m ≢ Ended → left_of (fed_of m n) < left_of m
falls_of (poll.Phase p) n on = phase-left p n (n == p.view.acked)
falls_of (poll.Mark p word) n on = lit< tt
falls_of (poll.Follow p word register birth at) n on =
    followed-left (followed p register birth (place_by (header_at n) at)) word register (length p.registers) (length-set p.registers register _)
falls_of (poll.Acknowledge p word mark) n on = lit< tt
falls_of (poll.Ended e) n on = absurd (on refl)
