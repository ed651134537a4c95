-- What the step of a call says of the command that asked for it.
use Rattle.std.specs.Prelude.{reverse, is_some}
use Rattle.std.specs.Option.{option_map}
use Rattle.std.proofs.Common.{◌≡◌, ℕ, true, false, List, [], ◌∷◌, ◌++◌, length, Option, Some, None, refl, sym, ap, ◌∙◌, subst, arith}
use Rattle.std.proofs.lemmas.List.{length-reverse}
use Rattle.heap_words.specs.Layouts.{Sizes}
use Rattle.heap_words.specs.declared.operand.Operand.{Operand}
use Rattle.heap_words.specs.declared.field_word.FieldWord.{FieldWord}
use Rattle.heap_history.specs.declared.call.Call.{Call}
use Rattle.heap_history.specs.declared.call.Reply.TheVariants as replies
use Rattle.heap_history.specs.declared.call.Ended.{Ended}
use Rattle.heap_history.specs.declared.call.Value.{Value}
use Rattle.heap_history.specs.Histories.{Follows, is_change}
use Rattle.heap_history.specs.Logs.{changes_of}
use Rattle.heap_script.specs.declared.script.Command.TheVariants as commands
use Rattle.handshakes.specs.Polling.{held_in}
use Rattle.barriers.specs.declared.front.Front.{Front}
use Rattle.barriers.specs.declared.ends.ReadEnd.{ReadEnd}
use Rattle.barriers.specs.declared.ends.ReadEnd.TheVariants as read_end
use Rattle.barriers.specs.declared.ends.WriteEnd.{WriteEnd}
use Rattle.barriers.specs.declared.ends.WriteEnd.TheVariants as write_end
use Rattle.barriers.specs.declared.ends.ExchangeEnd.{ExchangeEnd}
use Rattle.barriers.specs.declared.ends.ExchangeEnd.TheVariants as exchange_end
use Rattle.barriers.specs.declared.ends.TryRefusal.{TryRefusal}
use Rattle.barriers.specs.declared.ends.TryRefusal.TheVariants as refusal
use Rattle.barriers.specs.declared.machine_end.MachineEnd.TheVariants as ends
use Rattle.barriers.specs.declared.pass.PassRecord.{PassRecord}
use Rattle.barriers.specs.declared.spot.Spot.{Spot}
use Rattle.barriers.specs.Knowns.{Known, Over, Task, Reads, Writes, Exchanges, Ending, Got, Wrote, Done, Differs, Refused, call_of, task_of}
use Rattle.barriers.specs.Kits.{ending_of, said_by, read_said, write_said, exchange_said}
use Rattle.barriers.specs.Objects.{IsNoField}
use Rattle.barriers.specs.Protocols.{Suits}
use Rattle.barriers.specs.Values.{value_of}
use Rattle.lawful_records.specs.Beginnings.{ended_call}
use Rattle.lawful_records.specs.Turns.{change_call, seen_by, with_change}
use Rattle.lawful_records.proofs.telling.Replies.{EndsSo}
use Rattle.gc_cycle.specs.Sequels.{named, read_call, write_call, exchange_call}
use Rattle.gc_cycle.specs.Worlds.{face_of, seen_with}
use Rattle.gc_cycle.proofs.records.Seals.{looks_count}
use Rattle.gc_cycle.specs.Lawful.{IsLink, access_of}
use Rattle.gc_cycle.proofs.script.Ends.{EndSays, IsLooked, IsChange, IsRefused}
use Rattle.gc_cycle.proofs.script.Said.{object_in, field_in, look_said, change_said, no_field_of}

-- ---- a call that has told no end has not ended

pub read_silent : (k : Known) → EndsSo k → task_of k ≡ Reads → said_by read_said (ending_of k) ≡ None → ending_of k ≡ None
read_silent (Over z Reads (Got word)) suits task none = absurd cc
read_silent (Over z Reads (Refused (refusal.NoField len))) suits task none = absurd cc
read_silent (Over z Reads end) suits task none = absurd suits
read_silent (Over z (Writes word) end) suits task none = absurd cc
read_silent (Over z (Exchanges expected word) end) suits task none = absurd cc
read_silent k suits task none = refl

pub write_silent : (k : Known) → EndsSo k → (word : FieldWord) → task_of k ≡ Writes word → said_by write_said (ending_of k) ≡ None → ending_of k ≡ None
write_silent (Over z t Wrote) suits word task none = absurd cc
write_silent (Over z t (Refused why)) suits word task none = absurd cc
write_silent (Over z Reads end) suits word task none = absurd cc
write_silent (Over z (Writes other) end) suits word task none = absurd suits
write_silent (Over z (Exchanges expected other) end) suits word task none = absurd cc
write_silent k suits word task none = refl

pub exchange_silent : (k : Known) → EndsSo k → (wanted : Value) (word : FieldWord) → task_of k ≡ Exchanges wanted word → said_by exchange_said (ending_of k) ≡ None → ending_of k ≡ None
exchange_silent (Over z t Done) suits wanted word task none = absurd cc
exchange_silent (Over z t (Differs found)) suits wanted word task none = absurd cc
exchange_silent (Over z t (Refused why)) suits wanted word task none = absurd cc
exchange_silent (Over z Reads end) suits wanted word task none = absurd cc
exchange_silent (Over z (Writes other) end) suits wanted word task none = absurd cc
exchange_silent (Over z (Exchanges expected other) end) suits wanted word task none = absurd suits
exchange_silent k suits wanted word task none = refl

-- how many changes were seen after a step with this front
pub seen_is : (front : Front) (seal : Option (List Call)) (log : List Ended) (hist seen : List Call) (count : ℕ) → hist ≡ reverse (changes_of log) → count ≡ length seen
    → length (seen_by None front seal hist seen) ≡ seen_with front (option_map (λ (past : List Call). length past) seal) (length (changes_of log)) count
seen_is front seal log hist seen count is same =
    sym (looks_count front seal hist seen count (length (changes_of log)) (sym (ap (λ (cs : List Call). length cs) is ∙ length-reverse (changes_of log))) same)

module _ {R W E : Type 0} (l : Sizes) (log : List Ended) (hist : List Call) (hist_is : hist ≡ reverse (changes_of log)) (p : PassRecord R W E) (pass : ℕ) (es : List Ended) (seal : Option (List Call)) where
  -- what the call's object has not
  abbrev pub Refuses : List Call → Known → Type 0
  Refuses g k = (z : Spot) (t : Task) (len : ℕ) → k ≡ Over z t (Refused (refusal.NoField len)) → IsNoField g z len

  -- a try was refused
  try_refused : (g : List Call) (z : Spot) (t : Task) (why : TryRefusal) (call : Call) (birth field : ℕ) → g ≡ reverse (changes_of log) → Suits t (Refused why) → call_of pass z t ≡ call → object_in call ≡ birth → field_in call ≡ field → Refuses g (Over z t (Refused why)) → IsRefused log birth field why
  try_refused g z Reads refusal.NotLink call birth field is suits same object at refuses = absurd suits
  try_refused g z (Writes word) refusal.NotLink call birth field is suits same object at refuses = absurd suits
  try_refused g z (Exchanges expected word) refusal.NotLink call birth field is suits same object at refuses = absurd suits
  try_refused g z t (refusal.NoField len) call birth field is suits same object at refuses = let none = refuses z t len refl in no_field_of log g pass z t call birth field len is same object at none.0 none.1
  try_refused g z t (refusal.Raced loaded found) call birth field is suits same object at refuses = tt
  try_refused g z t (refusal.Busy cycle mark) call birth field is suits same object at refuses = tt

  module _ (dst obj field : ℕ) (link : IsLink (held_in p.registers obj)) where
    pub read_over : (k : Known) (g : List Call) → EndsSo k → access_of pass k ≡ read_call (face_of p) obj field → g ≡ hist → Follows (reverse g) pass 0 (es ++ ended_call (Some k) pass p.seen) → Refuses g k
        → (said : ReadEnd) → said_by read_said (ending_of k) ≡ Some said → EndSays l log p (commands.Get dst obj field) (ends.Read said) false
    read_over (Over z t (Got word)) g suits access is told refuses said some =
        let said_is : read_end.Got word ≡ said = cc in
        let looked = look_said log g pass es (record { call = call_of pass z t; reply = replies.Got (value_of word); front = p.seen }) (is ∙ hist_is) told refl in
        subst (λ (x : ReadEnd). EndSays l log p (commands.Get dst obj field) (ends.Read x) false) said_is
        (link, subst (λ (x : Call). IsLooked log p.seen x (replies.Got (value_of word))) access looked, refl)
    read_over (Over z t (Refused (refusal.NoField len))) g suits access is told refuses said some =
        let said_is : read_end.NoField len ≡ said = cc in
        let none = refuses z t len refl in
        subst (λ (x : ReadEnd). EndSays l log p (commands.Get dst obj field) (ends.Read x) false) said_is
        (link, no_field_of log g pass z t (read_call (face_of p) obj field) (named p.registers obj) field len (is ∙ hist_is) access refl refl none.0 none.1, refl)
    read_over k g suits access is told refuses said some = absurd cc

  -- ---- calls that may change the heap

  abbrev Seen : Known → Front → List Call → ℕ
  Seen k front seen = length (seen_by (change_call k pass) front seal hist seen)

  -- a change was the next one
  made_said : (g : List Call) (z : Spot) (t : Task) (end : Ending) (call : Call) (e : Ended) → g ≡ call_of pass z t ∷ hist → Follows (reverse g) pass 0 (es ++ e ∷ []) → e.call ≡ call → is_change e.reply ≡ true → e.front ≡ length (call_of pass z t ∷ hist) → IsChange log call e.reply
  made_said g z t end call e is told same change front =
      let here : g ≡ call_of pass z t ∷ reverse (changes_of log) = is ∙ ap (λ (h : List Call). call_of pass z t ∷ h) hist_is in
      let count : length hist ≡ length (changes_of log) = ap length hist_is ∙ length-reverse (changes_of log) in
      subst (λ (c : Call). IsChange log c e.reply) same (change_said log g (call_of pass z t) pass es e here told change (omega (arith, front, count)))

  module _ (obj field : ℕ) (what : Operand) (link : IsLink (held_in p.registers obj)) where
    pub write_over : (k : Known) (g : List Call) (front : Front) (seen : List Call) → EndsSo k → access_of pass k ≡ write_call (face_of p) obj field what → g ≡ with_change (change_call k pass) hist → Follows (reverse g) pass 0 (es ++ ended_call (Some k) pass (Seen k front seen)) → Refuses g k
        → (said : WriteEnd) → said_by write_said (ending_of k) ≡ Some said → EndSays l log p (commands.Put obj field what) (ends.Write said) (is_some (change_call k pass))
    write_over (Over z t Wrote) g front seen suits access is told refuses said some =
        let said_is : write_end.Wrote ≡ said = cc in
        let e : Ended = record { call = call_of pass z t; reply = replies.Wrote; front = length (call_of pass z t ∷ hist) } in
        subst (λ (x : WriteEnd). EndSays l log p (commands.Put obj field what) (ends.Write x) true) said_is
        (link, made_said g z t Wrote (write_call (face_of p) obj field what) e is told access refl refl, refl)
    write_over (Over z t (Refused why)) g front seen suits access is told refuses said some =
        let said_is : write_end.Refused why ≡ said = cc in
        subst (λ (x : WriteEnd). EndSays l log p (commands.Put obj field what) (ends.Write x) false) said_is
        (link, try_refused g z t why (write_call (face_of p) obj field what) (named p.registers obj) field (is ∙ hist_is) suits access refl refl refuses, refl)
    write_over k g front seen suits access is told refuses said some = absurd cc

  module _ (dst obj field : ℕ) (expected value : Operand) (link : IsLink (held_in p.registers obj)) where
    pub exchange_over : (k : Known) (g : List Call) (front : Front) (seen : List Call) → EndsSo k → access_of pass k ≡ exchange_call (face_of p) obj field expected value → g ≡ with_change (change_call k pass) hist
        → Follows (reverse g) pass 0 (es ++ ended_call (Some k) pass (Seen k front seen)) → Refuses g k → length (seen_by None front seal hist seen) ≡ p.seen
        → (said : ExchangeEnd) → said_by exchange_said (ending_of k) ≡ Some said → EndSays l log p (commands.Cas dst obj field expected value) (ends.Exchange said) (is_some (change_call k pass))
    exchange_over (Over z t Done) g front seen suits access is told refuses count said some =
        let said_is : exchange_end.Done ≡ said = cc in
        let e : Ended = record { call = call_of pass z t; reply = replies.Done; front = length (call_of pass z t ∷ hist) } in
        subst (λ (x : ExchangeEnd). EndSays l log p (commands.Cas dst obj field expected value) (ends.Exchange x) true) said_is
        (link, made_said g z t Done (exchange_call (face_of p) obj field expected value) e is told access refl refl, refl)
    exchange_over (Over z t (Differs word)) g front seen suits access is told refuses count said some =
        let said_is : exchange_end.Differs word ≡ said = cc in
        let front_is = length (seen_by None front seal hist seen) in
        let looked = look_said log g pass es (record { call = call_of pass z t; reply = replies.Differs (value_of word); front = front_is }) (is ∙ hist_is) told refl in
        subst (λ (x : ExchangeEnd). EndSays l log p (commands.Cas dst obj field expected value) (ends.Exchange x) false) said_is
        (link, subst (λ (n : ℕ). IsLooked log n (exchange_call (face_of p) obj field expected value) (replies.Differs (value_of word))) count (subst (λ (x : Call). IsLooked log front_is x (replies.Differs (value_of word))) access looked), refl)
    exchange_over (Over z t (Refused why)) g front seen suits access is told refuses count said some =
        let said_is : exchange_end.Refused why ≡ said = cc in
        subst (λ (x : ExchangeEnd). EndSays l log p (commands.Cas dst obj field expected value) (ends.Exchange x) false) said_is
        (link, try_refused g z t why (exchange_call (face_of p) obj field expected value) (named p.registers obj) field (is ∙ hist_is) suits access refl refl refuses, refl)
    exchange_over k g front seen suits access is told refuses count said some = absurd cc
