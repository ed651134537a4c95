-- What a machine has ended with, and what its pass tells of it.
use Rattle.std.specs.Option.{option_map}
use Rattle.std.proofs.Common.{◌≡◌, ℕ, ◌+◌, List, [], ◌∷◌, length, Bool, true, false, Option, Some, None, refl, sym, ap, ◌∙◌, subst}
use Rattle.heap_history.specs.declared.call.Call.{Call}
use Rattle.heap_history.specs.declared.call.Call.TheVariants as calls
use Rattle.heap_history.specs.declared.call.Ended.{Ended}
use Rattle.heap_script.specs.declared.script.Command.{Command}
use Rattle.heap_script.specs.declared.script.Command.TheVariants as commands
use Rattle.handshakes.specs.declared.poll.PollEnd.{PollEnd}
use Rattle.handshakes.specs.declared.poll.PollMachine.TheVariants as poll
use Rattle.handshakes.specs.declared.retire.RetireMachine.TheVariants as retire
use Rattle.barriers.specs.declared.ends.NewEnd.{NewEnd}
use Rattle.barriers.specs.declared.ends.NewEnd.TheVariants as new_end
use Rattle.barriers.specs.declared.ends.ReadEnd.{ReadEnd}
use Rattle.barriers.specs.declared.ends.WriteEnd.{WriteEnd}
use Rattle.barriers.specs.declared.ends.WriteEnd.TheVariants as write_end
use Rattle.barriers.specs.declared.ends.ExchangeEnd.{ExchangeEnd}
use Rattle.barriers.specs.declared.ends.ExchangeEnd.TheVariants as exchange_end
use Rattle.barriers.specs.declared.machine_end.MachineEnd.{MachineEnd}
use Rattle.barriers.specs.declared.machine_end.MachineEnd.TheVariants as ends
use Rattle.barriers.specs.declared.new_object.NewMachine.TheVariants as make
use Rattle.barriers.specs.declared.pass.PassRecord.{PassRecord}
use Rattle.barriers.specs.declared.pass.PassMachine.{PassMachine}
use Rattle.barriers.specs.declared.pass.PassMachine.TheVariants as machine
use Rattle.barriers.specs.Knowns.{Known, Ending, Got, Wrote, Done, Differs, Refused}
use Rattle.barriers.specs.Values.{value_of}
use Rattle.barriers.specs.declared.ends.TryRefusal.{TryRefusal}
use Rattle.barriers.specs.declared.ends.TryRefusal.TheVariants as refusal
use Rattle.barriers.specs.declared.ends.ReadEnd.TheVariants as read_end
use Rattle.heap_words.specs.declared.field_word.FieldWord.TheVariants.{Link}
use Rattle.heap_history.specs.declared.call.Reply.{Reply}
use Rattle.heap_history.specs.declared.call.Reply.TheVariants as replies
use Rattle.heap_script.specs.declared.answer.Answer.{Answer}
use Rattle.heap_script.specs.declared.answer.Answer.TheVariants as answers
use Rattle.gc_cycle.specs.declared.sequel.Face.{Face}
use Rattle.barriers.specs.Kits.{Kit, Stepping, Laws, ending_of, read_said, write_said, exchange_said, said_by}
use Rattle.barriers.specs.Records.{ended_of, with_end}
use Rattle.lawful_records.specs.Beginnings.{HasEnded, call_ended, rested, reply_of, ended_known, made_last}
use Rattle.lawful_records.specs.Records.{taken_in}
use Rattle.lawful_records.specs.declared.records.PassKnown.{PassKnown}
use Rattle.lawful_records.proofs.telling.Replies.{EndsSo}
use Rattle.gc_cycle.specs.declared.sequel.InRegister.{InRegister}
use Rattle.gc_cycle.specs.declared.sequel.Sequel.{Sequel}
use Rattle.gc_cycle.specs.declared.sequel.Sequel.TheVariants as sequel
use Rattle.gc_cycle.specs.Sequels.{sequel_of, begun, told, refused, in_register, read_call, write_call, exchange_call}
use Rattle.gc_cycle.specs.Worlds.{face_of}
use Rattle.gc_cycle.specs.Lawful.{access_of}

-- the call of the heap that has ended, and the word that a register gets
abbrev pub called : Sequel → Option Ended
called (sequel.Answered put answer call) = call
called s = None

abbrev pub put_of : Sequel → Option InRegister
put_of (sequel.Answered put answer call) = put
put_of s = None

abbrev pub listed : Option Ended → List Ended
listed None = []
listed (Some e) = e ∷ []

-- how many changes a pass has seen with the call, and without one
abbrev pub seen_with_call : ℕ → Option Ended → ℕ
seen_with_call count None = count
seen_with_call count (Some e) = e.front

-- it has ended with a change
abbrev pub is_made : MachineEnd → Bool
is_made (ends.New (new_end.Made birth at room)) = true
is_made (ends.Write write_end.Wrote) = true
is_made (ends.Exchange exchange_end.Done) = true
is_made end = false

module _ {R W E M : Type 0} (kit : Kit R W E M) where
  -- how a machine has ended
  pub data Outcome (m : PassMachine R W E) (end : MachineEnd) : Type 0 where
    Polls : (e : PollEnd) → m ≡ machine.Poll (poll.Ended e) → end ≡ ends.Poll e → Outcome m end
    Makes : (e : NewEnd) → m ≡ machine.New (make.Ended e) → end ≡ ends.New e → Outcome m end
    Reads : (x : R) (e : Ending) (said : ReadEnd) → m ≡ machine.Read x → ending_of (kit.reads x) ≡ Some e → read_said e ≡ Some said → end ≡ ends.Read said → Outcome m end
    Writes : (x : W) (e : Ending) (said : WriteEnd) → m ≡ machine.Write x → ending_of (kit.writes x) ≡ Some e → write_said e ≡ Some said → end ≡ ends.Write said → Outcome m end
    Exchanges : (x : E) (e : Ending) (said : ExchangeEnd) → m ≡ machine.Exchange x → ending_of (kit.exchanges x) ≡ Some e → exchange_said e ≡ Some said → end ≡ ends.Exchange said → Outcome m end
    Retires : m ≡ machine.Retire retire.Ended → end ≡ ends.Retire → Outcome m end

  -- the change of a new object is the last one that was seen
  abbrev pub IsNew : ℕ → ℕ → List Call → NewEnd → Type 0
  IsNew pass len seen (new_end.Made birth at room) = (h : List Call) × (seen ≡ calls.NewObject pass birth len ∷ h)
  IsNew pass len seen (new_end.Refused why) = Unit {0}

  abbrev pub IsAccess : ℕ → Known → Call → Type 0
  IsAccess pass k call = (access_of pass k ≡ call) × EndsSo k

  -- a machine that has ended did what the command asked for
  abbrev pub IsDone : PassKnown R W E → Command → PassMachine R W E → Type 0
  IsDone p (commands.New dst len) (machine.New (make.Ended end)) = IsNew (let view = p.pass.view in view.pass) len p.seen end
  IsDone p (commands.Get dst obj field) (machine.Read x) = IsAccess (let view = p.pass.view in view.pass) (kit.reads x) (read_call (face_of p.pass) obj field)
  IsDone p (commands.Put obj field what) (machine.Write x) = IsAccess (let view = p.pass.view in view.pass) (kit.writes x) (write_call (face_of p.pass) obj field what)
  IsDone p (commands.Cas dst obj field expected value) (machine.Exchange x) = IsAccess (let view = p.pass.view in view.pass) (kit.exchanges x) (exchange_call (face_of p.pass) obj field expected value)
  IsDone p command (machine.Poll m) = Unit {0}
  IsDone p command m = ⊥

  -- what the sequel tells is what the pass has ended with
  pub record SequelTells (p : PassKnown R W E) (count : ℕ) (s : Sequel) : Type 0 where
    pub calls : call_ended kit p ≡ listed (called s)
    pub front : seen_with_call count (called s) ≡ length p.seen

module _ {R W E M : Type 0} (kit : Kit R W E M) (by : Stepping R W E M) (laws : Laws kit by) where
  -- ---- what has ended and said so

  mapped : {A B : Type 0} → (f : A → B) (o : Option A) (b : B) → option_map f o ≡ Some b → (a : A) × (o ≡ Some a) × (b ≡ f a)
  mapped f None b is = absurd cc
  mapped f (Some a) b is = (a, refl, cc)

  saying : {E : Type 0} → (said : Ending → Option E) (o : Option Ending) (e : E) → said_by said o ≡ Some e → (end : Ending) × (o ≡ Some end) × (said end ≡ Some e)
  saying said None e is = absurd cc
  saying said (Some end) e is = (end, refl, is)

  pub outcome : (m : PassMachine R W E) (end : MachineEnd) → ended_of kit m ≡ Some end → Outcome kit m end
  outcome (machine.Poll (poll.Ended e)) end is = Polls e refl cc
  outcome (machine.Poll m) end is = absurd cc
  outcome (machine.New (make.Ended e)) end is = Makes e refl cc
  outcome (machine.New m) end is = absurd cc
  outcome (machine.Read x) end is =
      let ended = mapped (λ e. ends.Read e) (kit.read_ended x) end is in
      let so = saying read_said (ending_of (kit.reads x)) ended.0 (sym (laws.reading.tells x) ∙ ended.1) in
      Reads x so.0 ended.0 refl so.1 so.2 ended.2
  outcome (machine.Write x) end is =
      let ended = mapped (λ e. ends.Write e) (kit.write_ended x) end is in
      let so = saying write_said (ending_of (kit.writes x)) ended.0 (sym (laws.writing.tells x) ∙ ended.1) in
      Writes x so.0 ended.0 refl so.1 so.2 ended.2
  outcome (machine.Exchange x) end is =
      let ended = mapped (λ e. ends.Exchange e) (kit.exchange_ended x) end is in
      let so = saying exchange_said (ending_of (kit.exchanges x)) ended.0 (sym (laws.exchanging.tells x) ∙ ended.1) in
      Exchanges x so.0 ended.0 refl so.1 so.2 ended.2
  outcome (machine.Retire retire.Ended) end is = Retires refl cc
  outcome (machine.Retire m) end is = absurd cc
  outcome machine.Idle end is = absurd cc
  outcome machine.Retired end is = absurd cc

  pub has_ended : (m : PassMachine R W E) (end : MachineEnd) → Outcome kit m end → HasEnded kit m
  has_ended m end (Polls e is end_is) = rw is tt
  has_ended m end (Makes e is end_is) = rw is tt
  has_ended m end (Reads x e said is ends says end_is) = rw is (e, ends)
  has_ended m end (Writes x e said is ends says end_is) = rw is (e, ends)
  has_ended m end (Exchanges x e said is ends says end_is) = rw is (e, ends)
  has_ended m end (Retires is end_is) = rw is tt

  with_new : (p : PassRecord R W E) (e : NewEnd) → with_end (record p { machine = machine.New (make.Ended e) }) (ends.New e) ≡ record (taken_in (record p { machine = machine.New (make.Ended e) })) { machine = machine.Idle }
  with_new p (new_end.Made birth at room) = refl
  with_new p (new_end.Refused why) = refl

  with_end_by : (p : PassRecord R W E) (m : PassMachine R W E) (end : MachineEnd) → Outcome kit m end → with_end (record p { machine = m }) end ≡ record (taken_in (record p { machine = m })) { machine = rested kit m }
  with_end_by p m end (Polls e is end_is) = rw (is, end_is) refl
  with_end_by p m end (Makes e is end_is) = rw (is, end_is) (with_new p e)
  with_end_by p m end (Reads x e said is ends says end_is) = rw (is, end_is) refl
  with_end_by p m end (Writes x e said is ends says end_is) = rw (is, end_is) refl
  with_end_by p m end (Exchanges x e said is ends says end_is) = rw (is, end_is) refl
  with_end_by p m end (Retires is end_is) = rw (is, end_is) refl

  pub with_end_is : (p : PassRecord R W E) (end : MachineEnd) → Outcome kit p.machine end → with_end p end ≡ record (taken_in p) { machine = rested kit p.machine }
  with_end_is p end is = with_end_by p p.machine end is

  -- ---- what the pass tells

  abbrev in_machine : PassKnown R W E → PassMachine R W E → PassKnown R W E
  in_machine p m = record p { pass = record p.pass { machine = m } }

  -- what a script sees of it after the end, where it had seen so many changes
  abbrev face_after : PassKnown R W E → ℕ → MachineEnd → Face
  face_after p count end = face_of (with_end (record p.pass { seen = count }) end)

  abbrev pass_in : PassKnown R W E → ℕ
  pass_in p = let view = p.pass.view in view.pass

  begun_quiet : (command : Command) (f : Face) → called (begun command f) ≡ None
  begun_quiet (commands.New dst len) f = refl
  begun_quiet (commands.Get dst obj field) f = refl
  begun_quiet (commands.Put obj field what) f = refl
  begun_quiet (commands.Cas dst obj field expected value) f = refl
  begun_quiet (commands.Copy dst src) f = refl
  begun_quiet (commands.Drop dst) f = refl
  begun_quiet commands.Poll f = refl

  quietly : (p : PassKnown R W E) (count : ℕ) (s : Sequel) → called s ≡ None → call_ended kit p ≡ [] → count ≡ length p.seen → SequelTells kit p count s
  quietly p count s none ended look = record { calls = ended ∙ sym (ap listed none); front = ap (seen_with_call count) none ∙ look }

  known_tells : (k : Known) (pass front : ℕ) (end : Ending) (reply : Reply) → ending_of k ≡ Some end → reply_of end ≡ Some reply → ended_known (ending_of k) k pass front ≡ record { call = access_of pass k; reply = reply; front = front } ∷ []
  known_tells k pass front end reply ends replies = rw (ends, replies) refl

  known_quiet : (k : Known) (pass front : ℕ) (end : Ending) → ending_of k ≡ Some end → reply_of end ≡ None → ended_known (ending_of k) k pass front ≡ []
  known_quiet k pass front end ends none = rw (ends, none) refl

  -- told with this front, where the pass has seen so many
  loudly : (p : PassKnown R W E) (count front : ℕ) (put : Option InRegister) (answer : Answer) (call other : Call) (reply : Reply) → call_ended kit p ≡ record { call = call; reply = reply; front = length p.seen } ∷ [] → call ≡ other → front ≡ length p.seen
      → SequelTells kit p count (told put answer other reply front)
  loudly p count front put answer call other reply ended same is = record { calls = ended ∙ rw (same, is) refl; front = is }

  makes_tell : (p : PassKnown R W E) (count changes : ℕ) (command : Command) (e : NewEnd) → IsDone kit p command (machine.New (make.Ended e)) → (is_made (ends.New e) ≡ false → count ≡ length p.seen) → (is_made (ends.New e) ≡ true → length p.seen ≡ changes + 1)
      → SequelTells kit (in_machine p (machine.New (make.Ended e))) count (sequel_of changes command (face_after p count (ends.New e)) (ends.New e))
  makes_tell p count changes (commands.New dst len) (new_end.Made birth at room) done look made =
      let q = in_machine p (machine.New (make.Ended (new_end.Made birth at room))) in
      let call : Call = calls.NewObject (pass_in p) birth len in
      let ended : made_last p.seen ≡ record { call = call; reply = replies.Made; front = length p.seen } ∷ [] = rw done.1 refl in
      loudly q count (changes + 1) (in_register dst (Link birth at)) (answers.Made birth) call call replies.Made ended refl (sym (made refl))
  makes_tell p count changes (commands.New dst len) (new_end.Refused why) done look made = quietly (in_machine p (machine.New (make.Ended (new_end.Refused why)))) count _ refl refl (look refl)
  makes_tell p count changes command e done look made = absurd done

  reads_tell : (p : PassKnown R W E) (count changes : ℕ) (command : Command) (x : R) (e : Ending) (said : ReadEnd) → ending_of (kit.reads x) ≡ Some e → read_said e ≡ Some said → IsDone kit p command (machine.Read x) → count ≡ length p.seen
      → SequelTells kit (in_machine p (machine.Read x)) count (sequel_of changes command (face_after p count (ends.Read said)) (ends.Read said))
  reads_tell p count changes (commands.Get dst obj field) x (Got word) said ends_so says done look =
      let said_is : read_end.Got word ≡ said = cc in
      subst (λ (said : ReadEnd). SequelTells kit (in_machine p (machine.Read x)) count (sequel_of changes (commands.Get dst obj field) (face_after p count (ends.Read said)) (ends.Read said))) said_is
      (loudly (in_machine p (machine.Read x)) count count (in_register dst word) (answers.Got (value_of word)) (access_of (pass_in p) (kit.reads x)) (read_call (face_of p.pass) obj field) (replies.Got (value_of word))
      (known_tells (kit.reads x) (pass_in p) (length p.seen) (Got word) (replies.Got (value_of word)) ends_so refl) done.0 look)
  reads_tell p count changes (commands.Get dst obj field) x (Refused (refusal.NoField len)) said ends_so says done look =
      let said_is : read_end.NoField len ≡ said = cc in
      subst (λ (said : ReadEnd). SequelTells kit (in_machine p (machine.Read x)) count (sequel_of changes (commands.Get dst obj field) (face_after p count (ends.Read said)) (ends.Read said))) said_is
      (quietly (in_machine p (machine.Read x)) count _ refl (known_quiet (kit.reads x) (pass_in p) (length p.seen) (Refused (refusal.NoField len)) ends_so refl) look)
  reads_tell p count changes (commands.Get dst obj field) x e said ends_so says done look = absurd cc
  reads_tell p count changes command x e said ends_so says done look = absurd done

  -- a try was refused
  refused_quiet : (why : TryRefusal) → called (refused why) ≡ None
  refused_quiet refusal.NotLink = refl
  refused_quiet (refusal.NoField len) = refl
  refused_quiet (refusal.Raced loaded found) = refl
  refused_quiet (refusal.Busy cycle mark) = refl

  writes_tell : (p : PassKnown R W E) (count changes : ℕ) (command : Command) (x : W) (e : Ending) (said : WriteEnd) → ending_of (kit.writes x) ≡ Some e → write_said e ≡ Some said → IsDone kit p command (machine.Write x)
      → (is_made (ends.Write said) ≡ false → count ≡ length p.seen) → (is_made (ends.Write said) ≡ true → length p.seen ≡ changes + 1)
      → SequelTells kit (in_machine p (machine.Write x)) count (sequel_of changes command (face_after p count (ends.Write said)) (ends.Write said))
  writes_tell p count changes (commands.Put obj field what) x Wrote said ends_so says done =
      let said_is : write_end.Wrote ≡ said = cc in
      subst (λ (said : WriteEnd). (is_made (ends.Write said) ≡ false → count ≡ length p.seen) → (is_made (ends.Write said) ≡ true → length p.seen ≡ changes + 1) → SequelTells kit (in_machine p (machine.Write x)) count (sequel_of changes (commands.Put obj field what) (face_after p count (ends.Write said)) (ends.Write said))) said_is
      (λ look made. loudly (in_machine p (machine.Write x)) count (changes + 1) None answers.Ok (access_of (pass_in p) (kit.writes x)) (write_call (face_of p.pass) obj field what) replies.Wrote
      (known_tells (kit.writes x) (pass_in p) (length p.seen) Wrote replies.Wrote ends_so refl) done.0 (sym (made refl)))
  writes_tell p count changes (commands.Put obj field what) x (Refused why) said ends_so says done =
      let said_is : write_end.Refused why ≡ said = cc in
      subst (λ (said : WriteEnd). (is_made (ends.Write said) ≡ false → count ≡ length p.seen) → (is_made (ends.Write said) ≡ true → length p.seen ≡ changes + 1) → SequelTells kit (in_machine p (machine.Write x)) count (sequel_of changes (commands.Put obj field what) (face_after p count (ends.Write said)) (ends.Write said))) said_is
      (λ look made. quietly (in_machine p (machine.Write x)) count _ (refused_quiet why) (known_quiet (kit.writes x) (pass_in p) (length p.seen) (Refused why) ends_so refl) (look refl))
  writes_tell p count changes (commands.Put obj field what) x e said ends_so says done = absurd cc
  writes_tell p count changes command x e said ends_so says done = absurd done

  abbrev Exchanged : PassKnown R W E → ℕ → ℕ → Command → E → ExchangeEnd → Type 0
  Exchanged p count changes command x said =
      (is_made (ends.Exchange said) ≡ false → count ≡ length p.seen) → (is_made (ends.Exchange said) ≡ true → length p.seen ≡ changes + 1)
      → SequelTells kit (in_machine p (machine.Exchange x)) count (sequel_of changes command (face_after p count (ends.Exchange said)) (ends.Exchange said))

  exchanges_tell : (p : PassKnown R W E) (count changes : ℕ) (command : Command) (x : E) (e : Ending) (said : ExchangeEnd) → ending_of (kit.exchanges x) ≡ Some e → exchange_said e ≡ Some said → IsDone kit p command (machine.Exchange x) → Exchanged p count changes command x said
  exchanges_tell p count changes (commands.Cas dst obj field expected value) x Done said ends_so says done =
      let said_is : exchange_end.Done ≡ said = cc in
      subst (Exchanged p count changes (commands.Cas dst obj field expected value) x) said_is
      (λ look made. loudly (in_machine p (machine.Exchange x)) count (changes + 1) None answers.Done (access_of (pass_in p) (kit.exchanges x)) (exchange_call (face_of p.pass) obj field expected value) replies.Done
      (known_tells (kit.exchanges x) (pass_in p) (length p.seen) Done replies.Done ends_so refl) done.0 (sym (made refl)))
  exchanges_tell p count changes (commands.Cas dst obj field expected value) x (Differs word) said ends_so says done =
      let said_is : exchange_end.Differs word ≡ said = cc in
      subst (Exchanged p count changes (commands.Cas dst obj field expected value) x) said_is
      (λ look made. loudly (in_machine p (machine.Exchange x)) count count (in_register dst word) (answers.Differs (value_of word)) (access_of (pass_in p) (kit.exchanges x)) (exchange_call (face_of p.pass) obj field expected value) (replies.Differs (value_of word))
      (known_tells (kit.exchanges x) (pass_in p) (length p.seen) (Differs word) (replies.Differs (value_of word)) ends_so refl) done.0 (look refl))
  exchanges_tell p count changes (commands.Cas dst obj field expected value) x (Refused why) said ends_so says done =
      let said_is : exchange_end.Refused why ≡ said = cc in
      subst (Exchanged p count changes (commands.Cas dst obj field expected value) x) said_is
      (λ look made. quietly (in_machine p (machine.Exchange x)) count _ (refused_quiet why) (known_quiet (kit.exchanges x) (pass_in p) (length p.seen) (Refused why) ends_so refl) (look refl))
  exchanges_tell p count changes (commands.Cas dst obj field expected value) x e said ends_so says done = absurd cc
  exchanges_tell p count changes command x e said ends_so says done = absurd done

  retires_not : (p : PassKnown R W E) (command : Command) → IsDone kit p command (machine.Retire retire.Ended) → ⊥
  retires_not p (commands.New dst len) done = done
  retires_not p command done = done

  tells_by : (p : PassKnown R W E) (m : PassMachine R W E) (count changes : ℕ) (command : Command) (end : MachineEnd) → Outcome kit m end → IsDone kit p command m → (is_made end ≡ false → count ≡ length p.seen) → (is_made end ≡ true → length p.seen ≡ changes + 1)
      → SequelTells kit (in_machine p m) count (sequel_of changes command (face_after p count end) end)
  tells_by p m count changes command end (Polls e is end_is) done look made =
      rw (is, end_is) (quietly (in_machine p (machine.Poll (poll.Ended e))) count _ (begun_quiet command (face_after p count (ends.Poll e))) refl (look (ap is_made end_is)))
  tells_by p m count changes command end (Makes e is end_is) done look made = rw (is, end_is) (makes_tell p count changes command e (subst (IsDone kit p command) is done) (λ no. look (ap is_made end_is ∙ no)) (λ yes. made (ap is_made end_is ∙ yes)))
  tells_by p m count changes command end (Reads x e said is ends_so says end_is) done look made = rw (is, end_is) (reads_tell p count changes command x e said ends_so says (subst (IsDone kit p command) is done) (look (ap is_made end_is)))
  tells_by p m count changes command end (Writes x e said is ends_so says end_is) done look made =
      rw (is, end_is) (writes_tell p count changes command x e said ends_so says (subst (IsDone kit p command) is done) (λ no. look (ap is_made end_is ∙ no)) (λ yes. made (ap is_made end_is ∙ yes)))
  tells_by p m count changes command end (Exchanges x e said is ends_so says end_is) done look made =
      rw (is, end_is) (exchanges_tell p count changes command x e said ends_so says (subst (IsDone kit p command) is done) (λ no. look (ap is_made end_is ∙ no)) (λ yes. made (ap is_made end_is ∙ yes)))
  tells_by p m count changes command end (Retires is end_is) done look made = absurd (retires_not p command (subst (IsDone kit p command) is done))

  -- where the step was a change there was one more, and else the pass has seen so many
  pub sequel_tells : (p : PassKnown R W E) (count changes : ℕ) (command : Command) (end : MachineEnd) → Outcome kit p.pass.machine end → IsDone kit p command p.pass.machine
      → (is_made end ≡ false → count ≡ length p.seen) → (is_made end ≡ true → length p.seen ≡ changes + 1)
      → SequelTells kit p count (sequel_of changes command (face_of (with_end (record p.pass { seen = count }) end)) end)
  sequel_tells p count changes command end is done look made = tells_by p p.pass.machine count changes command end is done look made
