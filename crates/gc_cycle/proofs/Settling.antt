-- What comes of the end of a machine can be done, and is what a world makes of it.
use Rattle.std.proofs.Common.{◌≡◌, ℕ, ◌≤◌, List, length, get_or, Option, Some, None, sym, ap, ◌∙◌, subst, arith, lit<}
use Rattle.std.specs.List.{All}
use Rattle.std.proofs.lemmas.List.{get_or_past}
use Rattle.std.proofs.lemmas.List.Elements.{All-set}
use Rattle.std.proofs.Math.Decide.{dec_lt}
use Rattle.heap_words.specs.Layouts.{Sizes}
use Rattle.heap_words.specs.declared.operand.Operand.{Operand}
use Rattle.heap_words.specs.declared.operand.Operand.TheVariants as operands
use Rattle.heap_words.specs.declared.field_word.FieldWord.{FieldWord}
use Rattle.heap_words.specs.declared.field_word.FieldWord.TheVariants.{Num}
use Rattle.heap_words.specs.FieldWords.{IsFieldWord}
use Rattle.heap_history.specs.declared.call.Ended.{Ended}
use Rattle.heap_script.specs.declared.script.Command.{Command}
use Rattle.heap_script.specs.declared.script.Command.TheVariants as commands
use Rattle.heap_script.specs.Scripts.{OperandFits, CommandFits}
use Rattle.barriers.specs.declared.ends.NewEnd.{NewEnd}
use Rattle.barriers.specs.declared.ends.NewEnd.TheVariants as new_end
use Rattle.barriers.specs.declared.ends.ReadEnd.{ReadEnd}
use Rattle.barriers.specs.declared.ends.ReadEnd.TheVariants as read_end
use Rattle.barriers.specs.declared.ends.WriteEnd.{WriteEnd}
use Rattle.barriers.specs.declared.ends.WriteEnd.TheVariants as write_end
use Rattle.barriers.specs.declared.ends.ExchangeEnd.{ExchangeEnd}
use Rattle.barriers.specs.declared.ends.ExchangeEnd.TheVariants as exchange_end
use Rattle.barriers.specs.declared.ends.TryRefusal.{TryRefusal}
use Rattle.barriers.specs.declared.ends.TryRefusal.TheVariants as refusal
use Rattle.barriers.specs.declared.pass.PassRecord.{PassRecord}
use Rattle.barriers.specs.declared.machine_end.MachineEnd.{MachineEnd}
use Rattle.barriers.specs.declared.machine_end.MachineEnd.TheVariants as ends
use Rattle.barriers.specs.Kits.{Kit}
use Rattle.barriers.specs.Records.{IsReady, IsOperand, with_end}
use Rattle.gc_cycle.specs.declared.sequel.Face.{Face}
use Rattle.gc_cycle.specs.declared.sequel.InRegister.{InRegister}
use Rattle.gc_cycle.specs.declared.sequel.Sequel.{Sequel}
use Rattle.gc_cycle.specs.Sequels.{sequel_of, begun, new_told, read_told, write_told, exchange_told, refused}
use Rattle.gc_cycle.specs.Worlds.{State, EndFits, SequelFits, PutFits, with_put, in_front, face_of, pass_at, command_at, changes_now, followed_at, concluded_by, concluded_at}

-- ---- what follows fits

-- what a register holds fits a word
fits_in : (registers : List FieldWord) (i : ℕ) → All IsFieldWord registers → IsFieldWord (get_or registers i (Num 0))
fits_in registers i all = elim (dec_lt i (length registers)) [
  | yes lt ↦ all i (Num 0) lt
  | no ge ↦ let past : length registers ≤ i = omega arith in subst IsFieldWord (sym (get_or_past registers i (Num 0) past)) (lit< tt)
]

operand_fits : (what : Operand) → OperandFits what → IsOperand what
operand_fits (operands.Num n) fits = fits
operand_fits (operands.Reg r) fits = fits

begun_fits : (command : Command) (f : Face) → CommandFits command → All IsFieldWord f.registers → SequelFits (begun command f)
begun_fits (commands.New dst len) f fits all = fits.1
begun_fits (commands.Get dst obj field) f fits all = fits.1
begun_fits (commands.Put obj field what) f fits all = (fits.0, operand_fits what fits.2)
begun_fits (commands.Cas dst obj field expected value) f fits all = (fits.1, operand_fits expected fits.3, operand_fits value fits.4)
begun_fits (commands.Copy dst src) f fits all = (fits.0, fits_in f.registers src all)
begun_fits (commands.Drop dst) f fits all = (fits, lit< tt)
begun_fits commands.Poll f fits all = tt

refused_fits : (why : TryRefusal) → SequelFits (refused why)
refused_fits refusal.NotLink = tt
refused_fits (refusal.NoField len) = tt
refused_fits (refusal.Raced loaded found) = tt
refused_fits (refusal.Busy cycle mark) = tt

new_fits : (changes : ℕ) (command : Command) (f : Face) (end : NewEnd) → CommandFits command → EndFits (ends.New end) → SequelFits (new_told changes command f end)
new_fits changes (commands.New dst len) f (new_end.Made birth at room) fits word = (fits.0, word)
new_fits changes (commands.New dst len) f (new_end.Refused why) fits word = tt
new_fits changes (commands.Get dst obj field) f end fits word = tt
new_fits changes (commands.Put obj field what) f end fits word = tt
new_fits changes (commands.Cas dst obj field expected value) f end fits word = tt
new_fits changes (commands.Copy dst src) f end fits word = tt
new_fits changes (commands.Drop dst) f end fits word = tt
new_fits changes commands.Poll f end fits word = tt

read_fits : (command : Command) (f : Face) (end : ReadEnd) → CommandFits command → EndFits (ends.Read end) → SequelFits (read_told command f end)
read_fits (commands.Get dst obj field) f (read_end.Got got) fits word = (fits.0, word)
read_fits (commands.Get dst obj field) f (read_end.NoField len) fits word = tt
read_fits (commands.New dst len) f end fits word = tt
read_fits (commands.Put obj field what) f end fits word = tt
read_fits (commands.Cas dst obj field expected value) f end fits word = tt
read_fits (commands.Copy dst src) f end fits word = tt
read_fits (commands.Drop dst) f end fits word = tt
read_fits commands.Poll f end fits word = tt

write_fits : (changes : ℕ) (command : Command) (f : Face) (end : WriteEnd) → SequelFits (write_told changes command f end)
write_fits changes (commands.Put obj field what) f write_end.Wrote = tt
write_fits changes (commands.Put obj field what) f (write_end.Refused why) = refused_fits why
write_fits changes (commands.New dst len) f end = tt
write_fits changes (commands.Get dst obj field) f end = tt
write_fits changes (commands.Cas dst obj field expected value) f end = tt
write_fits changes (commands.Copy dst src) f end = tt
write_fits changes (commands.Drop dst) f end = tt
write_fits changes commands.Poll f end = tt

exchange_fits : (changes : ℕ) (command : Command) (f : Face) (end : ExchangeEnd) → CommandFits command → EndFits (ends.Exchange end) → SequelFits (exchange_told changes command f end)
exchange_fits changes (commands.Cas dst obj field expected value) f exchange_end.Done fits word = tt
exchange_fits changes (commands.Cas dst obj field expected value) f (exchange_end.Differs found) fits word = (fits.0, word)
exchange_fits changes (commands.Cas dst obj field expected value) f (exchange_end.Refused why) fits word = refused_fits why
exchange_fits changes (commands.New dst len) f end fits word = tt
exchange_fits changes (commands.Get dst obj field) f end fits word = tt
exchange_fits changes (commands.Put obj field what) f end fits word = tt
exchange_fits changes (commands.Copy dst src) f end fits word = tt
exchange_fits changes (commands.Drop dst) f end fits word = tt
exchange_fits changes commands.Poll f end fits word = tt

-- the command fits, and so do the registers and the word with which the machine ended
pub sequel_fits : (changes : ℕ) (command : Command) (f : Face) (end : MachineEnd) → CommandFits command → All IsFieldWord f.registers → EndFits end → SequelFits (sequel_of changes command f end)
sequel_fits changes command f (ends.Poll end) fits registers word = begun_fits command f fits registers
sequel_fits changes command f (ends.New end) fits registers word = new_fits changes command f end fits word
sequel_fits changes command f (ends.Read end) fits registers word = read_fits command f end fits word
sequel_fits changes command f (ends.Write end) fits registers word = write_fits changes command f end
sequel_fits changes command f (ends.Exchange end) fits registers word = exchange_fits changes command f end fits word
sequel_fits changes command f ends.Retire fits registers word = tt

-- ---- a record that gets a word is ready

put_ready : {R W E : Type 0} (l : Sizes) (p : PassRecord R W E) (put : Option InRegister) → IsReady l p → PutFits put → IsReady l (with_put p put)
put_ready l p None ready fits = ready
put_ready l p (Some put) ready fits = record {
  pass = ready.pass;
  acked = ready.acked;
  registers = All-set IsFieldWord p.registers put.register put.word fits.1 ready.registers;
  used = ready.used;
  region = ready.region;
  last = ready.last;
  made = ready.made;
}

front_ready : {R W E : Type 0} (l : Sizes) (p : PassRecord R W E) (ended : Option Ended) → IsReady l p → IsReady l (in_front p ended)
front_ready l p None ready = ready
front_ready l p (Some e) ready = record {
  pass = ready.pass;
  acked = ready.acked;
  registers = ready.registers;
  used = ready.used;
  region = ready.region;
  last = ready.last;
  made = ready.made;
}

pub ready_after : {R W E : Type 0} (l : Sizes) (p : PassRecord R W E) (put : Option InRegister) (ended : Option Ended) → IsReady l p → PutFits put → IsReady l (in_front (with_put p put) ended)
ready_after l p put ended ready fits = front_ready l (with_put p put) ended (put_ready l p put ready fits)

-- ---- what the code makes of an end

-- at a command it is what the end of the machine is followed by
pub concluded_some : {R W E M : Type 0} (kit : Kit R W E M) (w : State R W E M) (party : ℕ) (end : MachineEnd) (command : Command) (p : PassRecord R W E) (s : Sequel)
    → p ≡ with_end (pass_at w party) end → command_at w party ≡ Some command → s ≡ sequel_of (changes_now w) command (face_of p) end → followed_at kit w party p s ≡ concluded_at kit w party end
concluded_some kit w party end command p s p_is at s_is =
    ap (followed_at kit w party p) s_is
    ∙ ap (λ (q : PassRecord _ _ _). followed_at kit w party q (sequel_of (changes_now w) command (face_of q) end)) p_is
    ∙ ap (concluded_by kit w party (with_end (pass_at w party) end) end) (sym at)
