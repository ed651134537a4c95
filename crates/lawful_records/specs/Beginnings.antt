-- What a party does without a step: it takes in what its machine has ended with, puts a word in a register, or begins a machine.
use Rattle.std.specs.Prelude.{◌≡◌, ℕ, ◌<◌, ◌^◌, ◌⊎◌, List, [], ◌∷◌, ◌++◌, length, slice_set, Option, Some, None}
use Rattle.call_steps.specs.Turns.{Chain}
use Rattle.heap_words.specs.Layouts.{Sizes}
use Rattle.heap_words.specs.declared.field_word.FieldWord.{FieldWord}
use Rattle.heap_words.specs.declared.field_word.FieldWord.TheVariants.{Num, Link}
use Rattle.heap_history.specs.declared.call.Call.{Call}
use Rattle.heap_history.specs.declared.call.Ended.{Ended}
use Rattle.heap_history.specs.declared.call.Reply.{Reply}
use Rattle.heap_history.specs.declared.call.Reply.TheVariants as replies
use Rattle.handshakes.specs.Polling.{held_in}
use Rattle.handshakes.specs.declared.poll.PollMachine.TheVariants as poll
use Rattle.handshakes.specs.declared.retire.RetireMachine.TheVariants as retire
use Rattle.barriers.specs.declared.ends.NewEnd.{NewEnd}
use Rattle.barriers.specs.declared.ends.NewEnd.TheVariants as new_end
use Rattle.barriers.specs.declared.new_object.NewMachine.TheVariants as make
use Rattle.barriers.specs.declared.pass.PassRecord.{PassRecord}
use Rattle.barriers.specs.declared.pass.PassMachine.{PassMachine}
use Rattle.barriers.specs.declared.pass.PassMachine.TheVariants as machine
use Rattle.barriers.specs.declared.machine_end.Request.{Request}
use Rattle.barriers.specs.Values.{value_of}
use Rattle.barriers.specs.Knowns.{Known, Ending, Got, Wrote, Done, Differs, Refused, spot_of, task_of, call_of, word_ended}
use Rattle.barriers.specs.Kits.{Kit, ending_of}
use Rattle.barriers.specs.Records.{started, Fits}
use Rattle.lawful_records.specs.Records.{number_of, known_of, taken_in}
use Rattle.lawful_records.specs.declared.records.PassKnown.{PassKnown}
use Rattle.lawful_records.specs.declared.records.Party.{Party}
use Rattle.lawful_records.specs.declared.records.Party.TheVariants as party

-- ---- what a machine has ended with

-- the reply of a call that has ended so; none where it was refused
abbrev pub reply_of : Ending → Option Reply
reply_of (Got word) = Some (replies.Got (value_of word))
reply_of Wrote = Some replies.Wrote
reply_of Done = Some replies.Done
reply_of (Differs word) = Some (replies.Differs (value_of word))
reply_of (Refused why) = None

-- a call with this reply, which has seen so many changes
abbrev pub call_with : Option Reply → Call → ℕ → List Ended
call_with None call front = []
call_with (Some reply) call front = record { call = call; reply = reply; front = front } ∷ []

-- the last change of those seen was a new object
abbrev pub made_last : List Call → List Ended
made_last [] = []
made_last (c ∷ h) = record { call = c; reply = replies.Made; front = length (c ∷ h) } ∷ []

abbrev pub ended_new : NewEnd → List Call → List Ended
ended_new (new_end.Made birth at room) seen = made_last seen
ended_new (new_end.Refused why) seen = []

abbrev pub ended_known : Option Ending → Known → ℕ → ℕ → List Ended
ended_known None k pass front = []
ended_known (Some end) k pass front = call_with (reply_of end) (call_of pass (spot_of k) (task_of k)) front

abbrev pub ended_call : Option Known → ℕ → ℕ → List Ended
ended_call None pass front = []
ended_call (Some k) pass front = ended_known (ending_of k) k pass front

-- the word with which it ended, which may go to a register
abbrev pub word_made : NewEnd → Option FieldWord
word_made (new_end.Made birth at room) = Some (Link birth at)
word_made (new_end.Refused why) = None

abbrev pub word_told : Option Ending → Option FieldWord
word_told None = None
word_told (Some end) = word_ended end

abbrev pub word_known : Option Known → Option FieldWord
word_known None = None
word_known (Some k) = word_told (ending_of k)

abbrev pub is_over : Option Known → Type 0
is_over None = ⊥
is_over (Some k) = (end : Ending) × (ending_of k ≡ Some end)

module _ {R W E M : Type 0} (kit : Kit R W E M) where
  abbrev pub HasEnded : PassMachine R W E → Type 0
  HasEnded (machine.Poll (poll.Ended end)) = Unit {0}
  HasEnded (machine.New (make.Ended end)) = Unit {0}
  HasEnded (machine.Retire retire.Ended) = Unit {0}
  HasEnded m = is_over (known_of kit m)

  -- the heap call that it was, if it was one that was not refused
  abbrev pub call_ended : PassKnown R W E → List Ended
  call_ended p = by_machine p.pass.machine
    where
      by_machine : PassMachine R W E → List Ended
      by_machine (machine.New (make.Ended end)) = ended_new end p.seen
      by_machine m = ended_call (known_of kit m) (number_of p) (length p.seen)

  abbrev pub word_of_end : PassMachine R W E → Option FieldWord
  word_of_end (machine.New (make.Ended end)) = word_made end
  word_of_end m = word_known (known_of kit m)

  -- ---- what a pass may do without a step

  -- after a retirement there is no machine any more, after any other the pass is between two of them
  abbrev pub rested : PassMachine R W E → PassMachine R W E
  rested (machine.Retire m) = machine.Retired
  rested m = machine.Idle

  abbrev pub with_register : PassRecord R W E → ℕ → FieldWord → PassRecord R W E
  with_register p register word = record p { registers = slice_set p.registers register word }

  -- the word may go to this register
  abbrev pub with_word : PassRecord R W E → Option ℕ → Option FieldWord → PassRecord R W E
  with_word p (Some register) (Some word) = with_register p register word
  with_word p register word = p

  -- its machine has ended, and it takes that in
  pub record TakesIn (p q : PassKnown R W E) : Type 0 where
    pub over : HasEnded p.pass.machine
    pub register : Option ℕ
    pub is : q ≡ record p {
      pass = record (with_word (taken_in p.pass) register (word_of_end p.pass.machine)) { machine = rested p.pass.machine };
      ended = p.ended ++ call_ended p;
    }

  -- a word that it may put in a register: a number, or what another register holds
  abbrev pub HasWord : PassKnown R W E → FieldWord → Type 0
  HasWord p word = ((n : ℕ) × (n < 2 ^ 48) × (word ≡ Num n)) ⊎ ((register : ℕ) × (word ≡ held_in p.pass.registers register))

  -- between two machines it puts a word in a register
  pub record Puts (p q : PassKnown R W E) : Type 0 where
    pub idle : p.pass.machine ≡ machine.Idle
    pub register : ℕ
    pub word : FieldWord
    pub has : HasWord p word
    pub is : q ≡ record p { pass = with_register p.pass register word }

  -- or begins the next one
  pub record Starts (l : Sizes) (p q : PassKnown R W E) : Type 0 where
    pub idle : p.pass.machine ≡ machine.Idle
    pub request : Request
    pub fits : Fits request
    pub next : PassRecord R W E
    pub started_is : started kit l p.pass request ≡ Some next
    pub is : q ≡ record p { pass = next }

  abbrev pub Begins : Sizes → Party R W E M → Party R W E M → Type 0
  Begins l (party.Pass p) (party.Pass q) = TakesIn p q ⊎ (Puts p q ⊎ Starts l p q)
  Begins l a b = ⊥

  -- any number of such beginnings
  abbrev pub BeginsOn : Sizes → Party R W E M → Party R W E M → Type 0
  BeginsOn l = Chain (Begins l)
