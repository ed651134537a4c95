-- What a script makes of the end of a machine.
use Rattle.std.specs.Prelude.{ℕ, ◌+◌, List, Option, Some, None}
use Rattle.heap_words.specs.declared.operand.Operand.{Operand}
use Rattle.heap_words.specs.declared.field_word.FieldWord.{FieldWord}
use Rattle.heap_words.specs.declared.field_word.FieldWord.TheVariants.{Num, Link}
use Rattle.heap_history.specs.declared.call.Call.{Call}
use Rattle.heap_history.specs.declared.call.Call.TheVariants as calls
use Rattle.heap_history.specs.declared.call.Reply.{Reply}
use Rattle.heap_history.specs.declared.call.Reply.TheVariants as replies
use Rattle.heap_script.specs.declared.script.Command.{Command}
use Rattle.heap_script.specs.declared.script.Command.TheVariants as commands
use Rattle.heap_script.specs.declared.answer.Answer.{Answer}
use Rattle.heap_script.specs.declared.answer.Answer.TheVariants as answers
use Rattle.heap_script.specs.declared.told.Refusal.TheVariants as refusals
use Rattle.barriers.specs.declared.ends.NewEnd.{NewEnd}
use Rattle.barriers.specs.declared.ends.NewEnd.TheVariants as new_end
use Rattle.barriers.specs.declared.ends.ReadEnd.{ReadEnd}
use Rattle.barriers.specs.declared.ends.ReadEnd.TheVariants as read_end
use Rattle.barriers.specs.declared.ends.WriteEnd.{WriteEnd}
use Rattle.barriers.specs.declared.ends.WriteEnd.TheVariants as write_end
use Rattle.barriers.specs.declared.ends.ExchangeEnd.{ExchangeEnd}
use Rattle.barriers.specs.declared.ends.ExchangeEnd.TheVariants as exchange_end
use Rattle.barriers.specs.declared.ends.TryRefusal.{TryRefusal}
use Rattle.barriers.specs.declared.ends.TryRefusal.TheVariants as refusal
use Rattle.barriers.specs.declared.machine_end.MachineEnd.{MachineEnd}
use Rattle.barriers.specs.declared.machine_end.MachineEnd.TheVariants as ends
use Rattle.barriers.specs.declared.machine_end.Request.TheVariants as requests
use Rattle.barriers.specs.Records.{operand_word}
use Rattle.handshakes.specs.Polling.{held_in}
use Rattle.barriers.specs.Values.{value_of}
use Rattle.gc_cycle.specs.declared.sequel.Face.{Face}
use Rattle.gc_cycle.specs.declared.sequel.InRegister.{InRegister}
use Rattle.gc_cycle.specs.declared.sequel.Sequel.{Sequel}
use Rattle.gc_cycle.specs.declared.sequel.Sequel.TheVariants as sequel

-- the object that a word names, and 0 for none
abbrev pub name_in : FieldWord → ℕ
name_in (Num n) = 0
name_in (Link birth at) = birth

abbrev pub named : List FieldWord → ℕ → ℕ
named registers register = name_in (held_in registers register)

-- answered, and it was no call of the heap
abbrev pub quiet : Answer → Sequel
quiet answer = sequel.Answered None answer None

-- answered, and it was this call with this reply, which has seen so many changes
abbrev pub told : Option InRegister → Answer → Call → Reply → ℕ → Sequel
told put answer call reply front = sequel.Answered put answer (Some (record { call = call; reply = reply; front = front }))

abbrev pub in_register : ℕ → FieldWord → Option InRegister
in_register register word = Some (record { register = register; word = word })

-- the poll has ended, and the command begins
abbrev pub begun : Command → Face → Sequel
begun (commands.New dst len) f = sequel.Starts (requests.New len)
begun (commands.Get dst obj field) f = sequel.Starts (requests.Read obj field)
begun (commands.Put obj field what) f = sequel.Starts (requests.Write obj field what)
begun (commands.Cas dst obj field expected value) f = sequel.Starts (requests.Exchange obj field expected value)
begun (commands.Copy dst src) f = sequel.Answered (in_register dst (held_in f.registers src)) answers.Ok None
begun (commands.Drop dst) f = sequel.Answered (in_register dst (Num 0)) answers.Ok None
begun commands.Poll f = quiet answers.Ok

-- the object is made, and the register leads to it; or there was no room
abbrev pub new_told : ℕ → Command → Face → NewEnd → Sequel
new_told changes (commands.New dst len) f (new_end.Made birth at room) =
    told (in_register dst (Link birth at)) (answers.Made birth) (calls.NewObject f.pass birth len) replies.Made (changes + 1)
new_told changes (commands.New dst len) f (new_end.Refused why) = quiet answers.Full
new_told changes command f end = sequel.Nothing

-- the call that a `get` is
abbrev pub read_call : Face → ℕ → ℕ → Call
read_call f obj field = calls.Read f.pass (named f.registers obj) field

abbrev pub read_told : Command → Face → ReadEnd → Sequel
read_told (commands.Get dst obj field) f (read_end.NoField len) = quiet (answers.NoField len)
read_told (commands.Get dst obj field) f (read_end.Got word) =
    told (in_register dst word) (answers.Got (value_of word)) (read_call f obj field) (replies.Got (value_of word)) f.seen
read_told command f end = sequel.Nothing

-- a try was refused
abbrev pub refused : TryRefusal → Sequel
refused refusal.NotLink = quiet answers.NotLink
refused (refusal.NoField len) = quiet (answers.NoField len)
refused (refusal.Raced loaded found) = sequel.Retries refusals.Raced
refused (refusal.Busy cycle mark) = sequel.Retries refusals.Busy

-- the call that a `put` is
abbrev pub write_call : Face → ℕ → ℕ → Operand → Call
write_call f obj field what = calls.Write f.pass (named f.registers obj) field (value_of (operand_word f.registers what))

abbrev pub write_told : ℕ → Command → Face → WriteEnd → Sequel
write_told changes (commands.Put obj field what) f (write_end.Refused why) = refused why
write_told changes (commands.Put obj field what) f write_end.Wrote = told None answers.Ok (write_call f obj field what) replies.Wrote (changes + 1)
write_told changes command f end = sequel.Nothing

-- the call that a `cas` is
abbrev pub exchange_call : Face → ℕ → ℕ → Operand → Operand → Call
exchange_call f obj field expected value =
    calls.Exchange f.pass (named f.registers obj) field (value_of (operand_word f.registers expected)) (value_of (operand_word f.registers value))

abbrev pub exchange_told : ℕ → Command → Face → ExchangeEnd → Sequel
exchange_told changes (commands.Cas dst obj field expected value) f (exchange_end.Refused why) = refused why
exchange_told changes (commands.Cas dst obj field expected value) f exchange_end.Done =
    told None answers.Done (exchange_call f obj field expected value) replies.Done (changes + 1)
exchange_told changes (commands.Cas dst obj field expected value) f (exchange_end.Differs word) =
    told (in_register dst word) (answers.Differs (value_of word)) (exchange_call f obj field expected value) (replies.Differs (value_of word)) f.seen
exchange_told changes command f end = sequel.Nothing

-- what comes of the end of a machine at this command, where there were so many changes
abbrev pub sequel_of : ℕ → Command → Face → MachineEnd → Sequel
sequel_of changes command f (ends.Poll end) = begun command f
sequel_of changes command f (ends.New end) = new_told changes command f end
sequel_of changes command f (ends.Read end) = read_told command f end
sequel_of changes command f (ends.Write end) = write_told changes command f end
sequel_of changes command f (ends.Exchange end) = exchange_told changes command f end
sequel_of changes command f ends.Retire = sequel.Nothing
