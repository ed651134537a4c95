-- What a script says, and which scripts can be written down.
use Rattle.std.specs.Prelude.{ℕ, ◌-◌, ◌<◌, ◌≤◌, List, length}
use Rattle.std.specs.List.{All}
use Rattle.heap_words.specs.Layouts.{Sizes, IsLayout}
use Rattle.heap_words.specs.declared.limits.TheConstants.{NUMBER_LIMIT, MOST_FIELDS, REGISTERS}
use Rattle.heap_words.specs.declared.operand.Operand.{Operand}
use Rattle.heap_words.specs.declared.operand.Operand.TheVariants.{Num, Reg}
use Rattle.heap_script.specs.declared.script.Command.{Command}
use Rattle.heap_script.specs.declared.script.Command.TheVariants.{New, Get, Put, Cas, Copy, Drop, Poll}
use Rattle.heap_script.specs.declared.script.Line.{Line}

-- a script: its heap line's layout and cycles, and its commands in order
pub record Reading : Type 0 where
  pub layout : Sizes
  pub cycles : ℕ
  pub lines : List Line

-- a number below 2^48, or one of the eight registers
abbrev pub OperandFits : Operand → Type 0
OperandFits (Num n) = n < NUMBER_LIMIT
OperandFits (Reg r) = r < REGISTERS

-- registers are those of a pass, a length is at most the most fields, and a field number is below them
abbrev pub CommandFits : Command → Type 0
CommandFits (New dst len) = (dst < REGISTERS) × (len ≤ MOST_FIELDS)
CommandFits (Get dst obj field) = (dst < REGISTERS) × (obj < REGISTERS) × (field ≤ MOST_FIELDS - 1)
CommandFits (Put obj field what) = (obj < REGISTERS) × (field ≤ MOST_FIELDS - 1) × OperandFits what
CommandFits (Cas dst obj field expected value) = (dst < REGISTERS) × (obj < REGISTERS) × (field ≤ MOST_FIELDS - 1) × OperandFits expected × OperandFits value
CommandFits (Copy dst src) = (dst < REGISTERS) × (src < REGISTERS)
CommandFits (Drop dst) = dst < REGISTERS
CommandFits Poll = Unit {0}

-- a command of one of the threads
pub record LineFits (passes : ℕ) (l : Line) : Type 0 where
  pub least : 1 ≤ l.thread
  pub most : l.thread ≤ passes
  pub command : CommandFits l.command

-- the condition on scripts: each number is in its range, and there are at most 65,536 commands
pub record Fits (s : Reading) : Type 0 where
  pub layout : IsLayout s.layout
  pub cycles : s.cycles ≤ 64
  pub count : length s.lines ≤ 65536
  pub lines : All (LineFits s.layout.passes) s.lines
