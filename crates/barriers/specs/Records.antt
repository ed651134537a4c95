-- What the machine of a pass ends with, and what that makes of the record.
use Rattle.std.specs.Prelude.{ℕ, ◌+◌, ◌<◌, ◌≤◌, ◌-◌, List, All, Option, Some, None, option_map, IsSome}
use Rattle.std.specs.Option.{ForSome}
use Rattle.heap_words.specs.Layouts.{Sizes, IsPass, IsRegion}
use Rattle.heap_words.specs.declared.limits.TheConstants.{BIRTHS_OF_PASS, MOST_FIELDS, NUMBER_LIMIT, REGION_WORDS, REGISTERS}
use Rattle.heap_words.specs.FieldWords.{word_of, IsFieldWord}
use Rattle.heap_words.specs.declared.operand.Operand.{Operand}
use Rattle.heap_words.specs.declared.operand.Operand.TheVariants as operands
use Rattle.heap_words.specs.declared.field_word.FieldWord.{FieldWord}
use Rattle.heap_words.specs.declared.field_word.FieldWord.TheVariants.{Num, Link}
use Rattle.handshakes.specs.PhaseWords.{phase_word_of}
use Rattle.handshakes.specs.Polling.{held_in}
use Rattle.handshakes.specs.Polls as polls
use Rattle.handshakes.specs.Retires.{retired_view}
use Rattle.handshakes.specs.Retires as retires
use Rattle.handshakes.specs.declared.poll.PollMachine.TheVariants as poll
use Rattle.handshakes.specs.declared.retire.RetireMachine.TheVariants as retire
use Rattle.barriers.specs.NewObjects as makes
use Rattle.barriers.specs.declared.ends.NewEnd.TheVariants as new_end
use Rattle.barriers.specs.Kits.{Kit}
use Rattle.barriers.specs.declared.machine_end.MachineEnd.{MachineEnd}
use Rattle.barriers.specs.declared.machine_end.MachineEnd.TheVariants as ends
use Rattle.barriers.specs.declared.machine_end.Request.{Request}
use Rattle.barriers.specs.declared.machine_end.Request.TheVariants as requests
use Rattle.barriers.specs.declared.pass.PassRecord.{PassRecord}
use Rattle.barriers.specs.declared.pass.PassMachine.{PassMachine}
use Rattle.barriers.specs.declared.pass.PassMachine.TheVariants as machine

-- what an operand says
abbrev pub operand_word : List FieldWord → Operand → FieldWord
operand_word registers (operands.Num n) = Num n
operand_word registers (operands.Reg register) = held_in registers register

abbrev pub IsOperand : Operand → Type 0
IsOperand (operands.Num n) = n < NUMBER_LIMIT
IsOperand (operands.Reg register) = register < REGISTERS

-- what is asked names registers, numbers that fit, and no object that is too long
abbrev pub Fits : Request → Type 0
Fits (requests.New len) = len ≤ MOST_FIELDS
Fits (requests.Read obj field) = obj < REGISTERS
Fits (requests.Write obj field what) = (obj < REGISTERS) × IsOperand what
Fits (requests.Exchange obj field expected what) = (obj < REGISTERS) × IsOperand expected × IsOperand what
Fits request = Unit {0}

-- It is a pass of the layout and has acknowledged a phase, its registers hold what fits a word, it makes its objects in regions of the layout,
-- and it has made no more than it has birth numbers for.
pub record IsReady {R W E : Type 0} (layout : Sizes) (p : PassRecord R W E) : Type 0 where
  pub pass : IsPass layout p.view.pass
  pub acked : IsSome (phase_word_of p.view.acked)
  pub registers : All IsFieldWord p.registers
  pub used : p.room.used ≤ REGION_WORDS
  pub region : ForSome p.room.region (IsRegion layout)
  pub last : ForSome p.room.last (IsRegion layout)
  pub made : p.made ≤ BIRTHS_OF_PASS

-- an object that was made had a birth number
abbrev pub HasBirths : ℕ → MachineEnd → Type 0
HasBirths made (ends.New (new_end.Made birth at room)) = made < BIRTHS_OF_PASS
HasBirths made end = Unit {0}

-- What its end makes of the record: a poll acknowledges, an object takes room, and one who retires is in no machine any more. After any
-- other end the pass is between two machines.
abbrev pub with_end : {R W E : Type 0} → PassRecord R W E → MachineEnd → PassRecord R W E
with_end p (ends.Poll end) = record p { view = end.view; registers = end.registers; machine = machine.Idle }
with_end p (ends.New (new_end.Made birth at room)) = record p { room = room; made = p.made + 1; machine = machine.Idle }
with_end p ends.Retire = record p { view = retired_view (let view = p.view in view.pass); machine = machine.Retired }
with_end p end = record p { machine = machine.Idle }

-- an access of the object to which a register leads
abbrev pub accessed : {M : Type 0} → FieldWord → (ℕ → ℕ → M) → Option M
accessed (Num n) begin = None
accessed (Link birth at) begin = Some (begin birth at)

module _ {R W E M : Type 0} (kit : Kit R W E M) where
  -- what the machine has ended with, if it has
  abbrev pub ended_of : PassMachine R W E → Option MachineEnd
  ended_of (machine.Poll m) = option_map (λ e. ends.Poll e) (polls.end_of m)
  ended_of (machine.New m) = option_map (λ e. ends.New e) (makes.end_of m)
  ended_of (machine.Read m) = option_map (λ e. ends.Read e) (kit.read_ended m)
  ended_of (machine.Write m) = option_map (λ e. ends.Write e) (kit.write_ended m)
  ended_of (machine.Exchange m) = option_map (λ e. ends.Exchange e) (kit.exchange_ended m)
  ended_of (machine.Retire m) = option_map (λ e. ends.Retire) (retires.end_of m)
  ended_of machine.Retired = None
  ended_of machine.Idle = None

  -- the machine that does what is asked, if the register leads to an object
  abbrev pub machine_for : Sizes → PassRecord R W E → Request → Option (PassMachine R W E)
  machine_for l p requests.Poll = Some (machine.Poll (poll.Phase (polls.poll_of p.view p.registers)))
  machine_for l p (requests.New len) = Some (machine.New (makes.new_of l p.view p.room p.made len))
  machine_for l p (requests.Read obj field) = accessed (held_in p.registers obj) (λ birth at. machine.Read (kit.starts_read l p.view birth at field))
  machine_for l p (requests.Write obj field what) = accessed (held_in p.registers obj) (λ birth at. machine.Write (kit.starts_write l p.view birth at field (word_of (operand_word p.registers what))))
  machine_for l p (requests.Exchange obj field expected what) =
      accessed (held_in p.registers obj) (λ birth at. machine.Exchange (kit.starts_exchange l p.view birth at field (operand_word p.registers expected) (word_of (operand_word p.registers what))))
  machine_for l p requests.Retire = Some (machine.Retire (retire.Root (retires.retire_of l p.view.pass p.registers p.room.region) (REGISTERS - 1)))

  abbrev pub started : Sizes → PassRecord R W E → Request → Option (PassRecord R W E)
  started l p request = option_map (λ m. record p { machine = m }) (machine_for l p request)
