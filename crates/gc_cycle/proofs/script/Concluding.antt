-- What comes of the end of a machine is the thread's.
use Rattle.std.specs.Prelude.{slice_get}
use Rattle.std.proofs.Common.{◌≡◌, ℕ, ◌+◌, ◌*◌, ◌<◌, Bool, true, false, List, [], ◌∷◌, ◌++◌, length, map, set, Some, refl, sym, ap, ◌∙◌, subst, arith, length-append}
use Rattle.heap_words.specs.Layouts.{Sizes}
use Rattle.heap_words.specs.Packing.{packing}
use Rattle.heap_words.specs.declared.operand.Operand.{Operand}
use Rattle.heap_words.specs.declared.field_word.FieldWord.{FieldWord}
use Rattle.heap_words.specs.declared.field_word.FieldWord.TheVariants.{Num, Link}
use Rattle.heap_history.specs.declared.call.Call.TheVariants as calls
use Rattle.heap_history.specs.declared.call.Value.{Value}
use Rattle.heap_history.specs.declared.call.Value.TheVariants as values
use Rattle.heap_history.specs.declared.call.Ended.{Ended}
use Rattle.heap_history.specs.FixedHeaps.{Heap}
use Rattle.heap_history.specs.Logs.{IsLog, changes_of, heap_of}
use Rattle.heap_script.specs.declared.script.Command.{Command}
use Rattle.heap_script.specs.declared.script.Command.TheVariants as commands
use Rattle.heap_script.specs.declared.answer.Answer.{Answer}
use Rattle.heap_script.specs.declared.answer.Answer.TheVariants as answers
use Rattle.heap_script.specs.Allowed as allowed
use Rattle.heap_script.specs.Tellings.{Tells, Thread}
use Rattle.handshakes.specs.Polling.{held_in}
use Rattle.handshakes.specs.declared.poll.PollEnd.{PollEnd}
use Rattle.barriers.specs.declared.ends.NewEnd.TheVariants as new_end
use Rattle.barriers.specs.declared.ends.NewRefusal.TheVariants.{QuotaSpent}
use Rattle.barriers.specs.declared.ends.ReadEnd.TheVariants as read_end
use Rattle.barriers.specs.declared.ends.WriteEnd.TheVariants as write_end
use Rattle.barriers.specs.declared.ends.ExchangeEnd.TheVariants as exchange_end
use Rattle.barriers.specs.declared.ends.TryRefusal.{TryRefusal}
use Rattle.barriers.specs.declared.ends.TryRefusal.TheVariants as refusal
use Rattle.barriers.specs.declared.machine_end.MachineEnd.{MachineEnd}
use Rattle.barriers.specs.declared.machine_end.MachineEnd.TheVariants as ends
use Rattle.barriers.specs.declared.pass.PassRecord.{PassRecord}
use Rattle.barriers.specs.declared.pass.PassMachine.TheVariants as machine
use Rattle.barriers.specs.declared.room.Room.{Room}
use Rattle.barriers.specs.Records.{with_end}
use Rattle.barriers.specs.Values.{value_of}
use Rattle.gc_cycle.specs.Sequels.{sequel_of, begun, named, read_call, write_call, exchange_call}
use Rattle.gc_cycle.specs.Worlds.{face_of}
use Rattle.gc_cycle.specs.Lawful.{IsLink, standing_of}
use Rattle.gc_cycle.proofs.script.Ends.{EndSays, IsLooked, IsChange, HasNoField, IsRefused, lens_made}
use Rattle.gc_cycle.proofs.script.Lens.{lens_told}
use Rattle.gc_cycle.proofs.script.Answering.{IsResting, SequelKeeps, seat, same, held_is, object_is, read_is, write_is, exchange_is, with_value, none_told, look_told, change_told}

-- a command on an object, whose field the object does not have
field_refused : (heap : Heap) (v : Value) (birth field len : ℕ) → v ≡ values.Object birth → allowed.IsRefused heap (values.Object birth) field (answers.NoField len) → allowed.IsRefused heap v field (answers.NoField len)
field_refused heap v birth field len is none = subst (λ (x : Value). allowed.IsRefused heap x field (answers.NoField len)) (sym is) none

module _ {R W E : Type 0} (l : Sizes) (t : Thread) (p : PassRecord R W E) (told : List Answer) (log : List Ended) (heard : IsLog log) (rest : IsResting t p told log) (quota : t.quota ≡ l.quota) where
  abbrev At : Command → Type 0
  At c = slice_get t.commands (length told) ≡ Some c

  abbrev Keeps : Bool → Command → MachineEnd → Type 0
  Keeps made c end = SequelKeeps t (with_end p end) told log made c (sequel_of (length (changes_of log)) c (face_of (with_end p end)) end)

  -- ---- polls

  polled : (end : PollEnd) → (let view = end.view in view.pass) ≡ (let view = p.view in view.pass) → map value_of end.registers ≡ map value_of p.registers
      → IsResting t (record p { view = end.view; registers = end.registers; machine = machine.Idle }) told log
  polled end number same = record {
    number = number ∙ rest.number;
    tells = subst (λ (vs : List Value). Tells t (record { made = p.made; seen = p.seen; registers = vs }) told log) (sym same) rest.tells;
  }

  module _ (q : PassRecord R W E) (idle : q ≡ record q { machine = machine.Idle }) (resting : IsResting t q told log) where
    begun_keeps : (c : Command) → At c → SequelKeeps t (record q { machine = machine.Idle }) told log false c (begun c (face_of q))
    begun_keeps (commands.New dst len) at = (subst (λ (x : PassRecord R W E). IsResting t x told log) idle resting, refl, refl)
    begun_keeps (commands.Get dst obj field) at = (subst (λ (x : PassRecord R W E). IsResting t x told log) idle resting, refl, refl)
    begun_keeps (commands.Put obj field what) at = (subst (λ (x : PassRecord R W E). IsResting t x told log) idle resting, refl, refl)
    begun_keeps (commands.Cas dst obj field expected value) at = (subst (λ (x : PassRecord R W E). IsResting t x told log) idle resting, refl, refl)
    begun_keeps (commands.Copy dst src) at =
        none_told t q told log resting (commands.Copy dst src) at heard answers.Ok (set q.registers dst (held_in q.registers src)) refl tt
        (ap (λ v. set (seat t q told log resting).registers dst v) (held_is t q told log resting src)
        ∙ with_value (seat t q told log resting).registers q.registers dst (held_in q.registers src) (same t q told log resting)) refl
    begun_keeps (commands.Drop dst) at =
        none_told t q told log resting (commands.Drop dst) at heard answers.Ok (set q.registers dst (Num 0)) refl tt
        (with_value (seat t q told log resting).registers q.registers dst (Num 0) (same t q told log resting)) refl
    begun_keeps commands.Poll at = none_told t q told log resting commands.Poll at heard answers.Ok q.registers refl tt (same t q told log resting) refl

  -- ---- refusals

  read_refused : (dst obj field len : ℕ) → At (commands.Get dst obj field) → IsLink (held_in p.registers obj) → HasNoField log (named p.registers obj) field len → Keeps false (commands.Get dst obj field) (ends.Read (read_end.NoField len))
  read_refused dst obj field len at link none =
      none_told t p told log rest (commands.Get dst obj field) at heard (answers.NoField len) p.registers refl
      (field_refused (heap_of log) _ (named p.registers obj) field len (object_is t p told log rest obj link) (none.len_is, none.past)) (same t p told log rest) refl

  write_refused : (obj field : ℕ) (what : Operand) (why : TryRefusal) → At (commands.Put obj field what) → IsLink (held_in p.registers obj) → IsRefused log (named p.registers obj) field why → Keeps false (commands.Put obj field what) (ends.Write (write_end.Refused why))
  write_refused obj field what refusal.NotLink at link none = absurd none
  write_refused obj field what (refusal.NoField len) at link none =
      none_told t p told log rest (commands.Put obj field what) at heard (answers.NoField len) p.registers refl
      (field_refused (heap_of log) _ (named p.registers obj) field len (object_is t p told log rest obj link) (none.len_is, none.past)) (same t p told log rest) refl
  write_refused obj field what (refusal.Raced loaded found) at link none = (record { number = rest.number; tells = rest.tells }, refl)
  write_refused obj field what (refusal.Busy cycle mark) at link none = (record { number = rest.number; tells = rest.tells }, refl)

  exchange_refused : (dst obj field : ℕ) (expected value : Operand) (why : TryRefusal) → At (commands.Cas dst obj field expected value) → IsLink (held_in p.registers obj) → IsRefused log (named p.registers obj) field why
      → Keeps false (commands.Cas dst obj field expected value) (ends.Exchange (exchange_end.Refused why))
  exchange_refused dst obj field expected value refusal.NotLink at link none = absurd none
  exchange_refused dst obj field expected value (refusal.NoField len) at link none =
      none_told t p told log rest (commands.Cas dst obj field expected value) at heard (answers.NoField len) p.registers refl
      (field_refused (heap_of log) _ (named p.registers obj) field len (object_is t p told log rest obj link) (none.len_is, none.past)) (same t p told log rest) refl
  exchange_refused dst obj field expected value (refusal.Raced loaded found) at link none = (record { number = rest.number; tells = rest.tells }, refl)
  exchange_refused dst obj field expected value (refusal.Busy cycle mark) at link none = (record { number = rest.number; tells = rest.tells }, refl)

  -- no region was free: the thread's objects and this one need more than it has
  full_told : (dst len regions : ℕ) → At (commands.New dst len) → l.quota < packing (lens_made log (let view = p.view in view.pass) ++ len ∷ []) → Keeps false (commands.New dst len) (ends.New (new_end.Refused (QuotaSpent regions)))
  full_told dst len regions at more =
      let tells = rest.tells in
      let lens : lens_made log (let view = p.view in view.pass) ≡ tells.seat.lens = ap (lens_made log) rest.number ∙ lens_told t (standing_of p) told log tells in
      none_told t p told log rest (commands.New dst len) at heard answers.Full p.registers refl
      (subst (λ (regions : ℕ). regions < packing (tells.seat.lens ++ len ∷ [])) (sym quota) (subst (λ (made : List ℕ). l.quota < packing (made ++ len ∷ [])) lens more)) (same t p told log rest) refl

  -- ---- looks

  got_told : (dst obj field : ℕ) (word : FieldWord) → At (commands.Get dst obj field) → IsLink (held_in p.registers obj) → IsLooked log p.seen (read_call (face_of p) obj field) (allowed.reply_of (answers.Got (value_of word)))
      → Keeps false (commands.Get dst obj field) (ends.Read (read_end.Got word))
  got_told dst obj field word at link looked =
      look_told t p told log rest (commands.Get dst obj field) at heard (answers.Got (value_of word)) (read_call (face_of p) obj field) (set p.registers dst word) (read_is t p told log rest obj field link) tt refl (λ e. cc) refl
      looked (with_value (seat t p told log rest).registers p.registers dst word (same t p told log rest)) refl

  differs_told : (dst obj field : ℕ) (expected value : Operand) (word : FieldWord) → At (commands.Cas dst obj field expected value) → IsLink (held_in p.registers obj)
      → IsLooked log p.seen (exchange_call (face_of p) obj field expected value) (allowed.reply_of (answers.Differs (value_of word))) → Keeps false (commands.Cas dst obj field expected value) (ends.Exchange (exchange_end.Differs word))
  differs_told dst obj field expected value word at link looked =
      look_told t p told log rest (commands.Cas dst obj field expected value) at heard (answers.Differs (value_of word)) (exchange_call (face_of p) obj field expected value) (set p.registers dst word)
      (exchange_is t p told log rest obj field expected value link) tt refl (λ e. cc) refl looked (with_value (seat t p told log rest).registers p.registers dst word (same t p told log rest)) refl

  -- ---- changes

  wrote_told : (obj field : ℕ) (what : Operand) → At (commands.Put obj field what) → IsLink (held_in p.registers obj) → IsChange log (write_call (face_of p) obj field what) (allowed.reply_of answers.Ok)
      → Keeps true (commands.Put obj field what) (ends.Write write_end.Wrote)
  wrote_told obj field what at link change =
      change_told t p told log rest (commands.Put obj field what) at heard answers.Ok (write_call (face_of p) obj field what) p.registers p.room p.made (write_is t p told log rest obj field what link) tt refl refl
      change (same t p told log rest) (let tells = rest.tells in tells.lens_are)

  done_told : (dst obj field : ℕ) (expected value : Operand) → At (commands.Cas dst obj field expected value) → IsLink (held_in p.registers obj) → IsChange log (exchange_call (face_of p) obj field expected value) (allowed.reply_of answers.Done)
      → Keeps true (commands.Cas dst obj field expected value) (ends.Exchange exchange_end.Done)
  done_told dst obj field expected value at link change =
      change_told t p told log rest (commands.Cas dst obj field expected value) at heard answers.Done (exchange_call (face_of p) obj field expected value) p.registers p.room p.made
      (exchange_is t p told log rest obj field expected value link) tt refl refl change (same t p told log rest) (let tells = rest.tells in tells.lens_are)

  -- the object is the next one of its thread
  made_told : (dst len birth at : ℕ) (room : Room) → At (commands.New dst len) → birth ≡ (let view = p.view in view.pass) * 524288 + p.made + 1
      → IsChange log (calls.NewObject (let view = p.view in view.pass) birth len) (allowed.reply_of (answers.Made birth)) → Keeps true (commands.New dst len) (ends.New (new_end.Made birth at room))
  made_told dst len birth at room where_is numbered change =
      let tells = rest.tells in
      change_told t p told log rest (commands.New dst len) where_is heard (answers.Made birth) (calls.NewObject (let view = p.view in view.pass) birth len) (set p.registers dst (Link birth at)) room (p.made + 1)
      (ap (λ n. Some (calls.NewObject n birth len)) (sym rest.number)) (omega (arith, numbered, rest.number, tells.lens_are)) refl refl change
      (with_value tells.seat.registers p.registers dst (Link birth at) tells.registers_are)
      (omega (arith, length-append tells.seat.lens (len ∷ []), tells.lens_are))

  -- ---- every end

  -- whether the step was a change is known
  by_made : (c : Command) (end : MachineEnd) (known made : Bool) → made ≡ known → Keeps known c end → Keeps made c end
  by_made c end known made is keeps = subst (λ (b : Bool). Keeps b c end) (sym is) keeps

  ends_by : (made : Bool) (c : Command) (end : MachineEnd) → At c → EndSays l log p c end made → Keeps made c end
  ends_by made c (ends.Poll end) at says = by_made c (ends.Poll end) false made says.2 (begun_keeps (with_end p (ends.Poll end)) refl (polled end says.0 says.1) c at)
  ends_by made (commands.New dst len) (ends.New (new_end.Made birth address room)) at says = by_made (commands.New dst len) (ends.New (new_end.Made birth address room)) true made says.2 (made_told dst len birth address room at says.0 says.1)
  ends_by made (commands.New dst len) (ends.New (new_end.Refused (QuotaSpent regions))) at says =
      by_made (commands.New dst len) (ends.New (new_end.Refused (QuotaSpent regions))) false made says.1 (full_told dst len regions at says.0)
  ends_by made (commands.Get dst obj field) (ends.Read (read_end.Got word)) at says = by_made (commands.Get dst obj field) (ends.Read (read_end.Got word)) false made says.2 (got_told dst obj field word at says.0 says.1)
  ends_by made (commands.Get dst obj field) (ends.Read (read_end.NoField len)) at says = by_made (commands.Get dst obj field) (ends.Read (read_end.NoField len)) false made says.2 (read_refused dst obj field len at says.0 says.1)
  ends_by made (commands.Put obj field what) (ends.Write write_end.Wrote) at says = by_made (commands.Put obj field what) (ends.Write write_end.Wrote) true made says.2 (wrote_told obj field what at says.0 says.1)
  ends_by made (commands.Put obj field what) (ends.Write (write_end.Refused why)) at says = by_made (commands.Put obj field what) (ends.Write (write_end.Refused why)) false made says.2 (write_refused obj field what why at says.0 says.1)
  ends_by made (commands.Cas dst obj field expected value) (ends.Exchange exchange_end.Done) at says = by_made (commands.Cas dst obj field expected value) (ends.Exchange exchange_end.Done) true made says.2 (done_told dst obj field expected value at says.0 says.1)
  ends_by made (commands.Cas dst obj field expected value) (ends.Exchange (exchange_end.Differs word)) at says =
      by_made (commands.Cas dst obj field expected value) (ends.Exchange (exchange_end.Differs word)) false made says.2 (differs_told dst obj field expected value word at says.0 says.1)
  ends_by made (commands.Cas dst obj field expected value) (ends.Exchange (exchange_end.Refused why)) at says =
      by_made (commands.Cas dst obj field expected value) (ends.Exchange (exchange_end.Refused why)) false made says.2 (exchange_refused dst obj field expected value why at says.0 says.1)
  ends_by made c end at says = absurd says

  pub sequel_keeps : (made : Bool) (c : Command) (end : MachineEnd) → At c → EndSays l log p c end made → Keeps made c end
  sequel_keeps = ends_by
