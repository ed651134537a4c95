-- What the end of a machine says of the thread's command.
use Rattle.std.specs.Prelude.{◌≡◌, ℕ, ◌<◌, ◌≤◌, ◌==◌, Bool, true, false, List, [], ◌∷◌, ◌++◌, length, map, reverse, Some}
use Rattle.std.specs.List.{filter}
use Rattle.std.specs.Option.{option_map}
use Rattle.heap_words.specs.Layouts.{Sizes}
use Rattle.heap_words.specs.Packing.{packing}
use Rattle.heap_history.specs.declared.call.Call.{Call}
use Rattle.heap_history.specs.declared.call.Call.TheVariants as calls
use Rattle.heap_history.specs.declared.call.Reply.{Reply}
use Rattle.heap_history.specs.declared.call.Reply.TheVariants as replies
use Rattle.heap_history.specs.declared.call.Ended.{Ended}
use Rattle.heap_history.specs.FixedHeaps.{answer, fields_of}
use Rattle.heap_history.specs.Histories.{heap_at, pass_of}
use Rattle.heap_history.specs.Logs.{changes_of, heap_of}
use Rattle.heap_script.specs.declared.script.Command.{Command}
use Rattle.heap_script.specs.declared.script.Command.TheVariants as commands
use Rattle.handshakes.specs.Polling.{held_in}
use Rattle.barriers.specs.declared.ends.NewEnd.TheVariants as new_end
use Rattle.barriers.specs.declared.ends.NewRefusal.TheVariants.{QuotaSpent}
use Rattle.barriers.specs.declared.ends.ReadEnd.TheVariants as read_end
use Rattle.barriers.specs.declared.ends.WriteEnd.TheVariants as write_end
use Rattle.barriers.specs.declared.ends.ExchangeEnd.TheVariants as exchange_end
use Rattle.barriers.specs.declared.ends.TryRefusal.{TryRefusal}
use Rattle.barriers.specs.declared.ends.TryRefusal.TheVariants as refusal
use Rattle.barriers.specs.declared.machine_end.MachineEnd.{MachineEnd}
use Rattle.barriers.specs.declared.machine_end.MachineEnd.TheVariants as ends
use Rattle.barriers.specs.declared.pass.PassRecord.{PassRecord}
use Rattle.barriers.specs.NewObjects.{next_birth}
use Rattle.barriers.specs.Values.{value_of}
use Rattle.gc_cycle.specs.Sequels.{named, read_call, write_call, exchange_call}
use Rattle.gc_cycle.specs.Worlds.{face_of}
use Rattle.lawful_records.specs.Making.{lens_of}
use Rattle.gc_cycle.specs.Lawful.{IsLink}

-- a call was a look at the heap after so many changes
pub record IsLooked (log : List Ended) (seen : ℕ) (call : Call) (reply : Reply) : Type 0 where
  pub within : seen ≤ length (changes_of log)
  pub said : answer (heap_at (changes_of log) seen) call ≡ reply

-- a call was the next change
abbrev pub IsChange : List Ended → Call → Reply → Type 0
IsChange log call reply = answer (heap_of log) call ≡ reply

-- a field that an object does not have
pub record HasNoField (log : List Ended) (birth field len : ℕ) : Type 0 where
  pub len_is : option_map length (fields_of (heap_of log) birth) ≡ Some len
  pub past : len ≤ field

-- a try was refused at the field of the object
abbrev pub IsRefused : List Ended → ℕ → ℕ → TryRefusal → Type 0
IsRefused log birth field refusal.NotLink = ⊥
IsRefused log birth field (refusal.NoField len) = HasNoField log birth field len
IsRefused log birth field why = Unit {0}

-- the lens of the objects that a pass has made
abbrev pub lens_made : List Ended → ℕ → List ℕ
lens_made log pass = lens_of (filter (λ c. pass_of c == pass) (reverse (changes_of log)))

module _ {R W E : Type 0} where
  -- What it says at this command, of the record before it is taken in, and whether the step was a call's change.
  abbrev pub EndSays : Sizes → List Ended → PassRecord R W E → Command → MachineEnd → Bool → Type 0
  EndSays l log p c (ends.Poll end) made =
      ((let view = end.view in view.pass) ≡ (let view = p.view in view.pass)) × (map value_of end.registers ≡ map value_of p.registers) × (made ≡ false)
  EndSays l log p (commands.New dst len) (ends.New (new_end.Made birth at room)) made =
      (birth ≡ next_birth (let view = p.view in view.pass) p.made)
      × IsChange log (calls.NewObject (let view = p.view in view.pass) birth len) replies.Made × (made ≡ true)
  EndSays l log p (commands.New dst len) (ends.New (new_end.Refused (QuotaSpent regions))) made =
      (l.quota < packing (lens_made log (let view = p.view in view.pass) ++ len ∷ [])) × (made ≡ false)
  EndSays l log p (commands.Get dst obj field) (ends.Read (read_end.Got word)) made =
      IsLink (held_in p.registers obj) × IsLooked log p.seen (read_call (face_of p) obj field) (replies.Got (value_of word)) × (made ≡ false)
  EndSays l log p (commands.Get dst obj field) (ends.Read (read_end.NoField len)) made =
      IsLink (held_in p.registers obj) × HasNoField log (named p.registers obj) field len × (made ≡ false)
  EndSays l log p (commands.Put obj field what) (ends.Write write_end.Wrote) made =
      IsLink (held_in p.registers obj) × IsChange log (write_call (face_of p) obj field what) replies.Wrote × (made ≡ true)
  EndSays l log p (commands.Put obj field what) (ends.Write (write_end.Refused why)) made =
      IsLink (held_in p.registers obj) × IsRefused log (named p.registers obj) field why × (made ≡ false)
  EndSays l log p (commands.Cas dst obj field expected value) (ends.Exchange exchange_end.Done) made =
      IsLink (held_in p.registers obj) × IsChange log (exchange_call (face_of p) obj field expected value) replies.Done × (made ≡ true)
  EndSays l log p (commands.Cas dst obj field expected value) (ends.Exchange (exchange_end.Differs word)) made =
      IsLink (held_in p.registers obj) × IsLooked log p.seen (exchange_call (face_of p) obj field expected value) (replies.Differs (value_of word)) × (made ≡ false)
  EndSays l log p (commands.Cas dst obj field expected value) (ends.Exchange (exchange_end.Refused why)) made =
      IsLink (held_in p.registers obj) × IsRefused log (named p.registers obj) field why × (made ≡ false)
  EndSays l log p c end made = ⊥
