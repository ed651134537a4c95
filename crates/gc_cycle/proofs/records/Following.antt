-- What follows the end of a machine without a step: the pass takes it in, a register may get a word, and the next machine begins.
use Rattle.std.specs.Prelude.{slice_set}
use Rattle.std.proofs.Common.{inl, inr, lit<, ◌≡◌, ℕ, ◌++◌, length, Option, Some, None, refl, sym, ap, ◌∙◌, subst}
use Rattle.call_steps.specs.Turns.{still, on}
use Rattle.heap_words.specs.Layouts.{Sizes}
use Rattle.heap_history.specs.declared.call.Ended.{Ended}
use Rattle.heap_script.specs.declared.script.Command.{Command}
use Rattle.heap_script.specs.declared.script.Command.TheVariants as commands
use Rattle.heap_script.specs.Scripts.{OperandFits, CommandFits}
use Rattle.heap_words.specs.declared.operand.Operand.{Operand}
use Rattle.heap_words.specs.declared.operand.Operand.TheVariants as operands
use Rattle.barriers.specs.declared.ends.NewEnd.{NewEnd}
use Rattle.barriers.specs.declared.ends.ReadEnd.{ReadEnd}
use Rattle.barriers.specs.declared.ends.WriteEnd.{WriteEnd}
use Rattle.barriers.specs.declared.ends.ExchangeEnd.{ExchangeEnd}
use Rattle.barriers.specs.declared.ends.NewEnd.TheVariants as new_end
use Rattle.barriers.specs.declared.new_object.NewMachine.TheVariants as make
use Rattle.barriers.specs.declared.pass.PassMachine.{PassMachine}
use Rattle.barriers.specs.Knowns.{Ending, Got, Differs, Refused}
use Rattle.handshakes.specs.declared.retire.RetireMachine.TheVariants as retire
use Rattle.handshakes.specs.Polling.{held_in}
use Rattle.heap_words.specs.declared.field_word.FieldWord.{FieldWord}
use Rattle.heap_words.specs.declared.field_word.FieldWord.TheVariants.{Num}
use Rattle.barriers.specs.declared.ends.ReadEnd.TheVariants as read_end
use Rattle.barriers.specs.declared.ends.WriteEnd.TheVariants as write_end
use Rattle.barriers.specs.declared.ends.ExchangeEnd.TheVariants as exchange_end
use Rattle.barriers.specs.declared.ends.TryRefusal.{TryRefusal}
use Rattle.barriers.specs.declared.ends.TryRefusal.TheVariants as refusal
use Rattle.barriers.specs.declared.machine_end.MachineEnd.TheVariants as ends
use Rattle.gc_cycle.specs.declared.sequel.Face.{Face}
use Rattle.barriers.specs.declared.machine_end.MachineEnd.{MachineEnd}
use Rattle.barriers.specs.declared.machine_end.Request.{Request}
use Rattle.barriers.specs.declared.machine_end.Request.TheVariants as requests
use Rattle.barriers.specs.declared.pass.PassRecord.{PassRecord}
use Rattle.barriers.specs.declared.pass.PassMachine.TheVariants as machine
use Rattle.barriers.specs.Kits.{Kit, Stepping, Laws, ending_of, read_said, exchange_said}
use Rattle.barriers.specs.Records.{Fits, IsOperand, with_end, started}
use Rattle.lawful_records.specs.Beginnings.{BeginsOn, call_ended, word_of_end, word_told}
use Rattle.lawful_records.specs.declared.records.PassKnown.{PassKnown}
use Rattle.lawful_records.specs.declared.records.Party.TheVariants as party
use Rattle.gc_cycle.specs.declared.sequel.InRegister.{InRegister}
use Rattle.gc_cycle.specs.declared.sequel.Sequel.{Sequel}
use Rattle.gc_cycle.specs.declared.sequel.Sequel.TheVariants as sequel
use Rattle.gc_cycle.specs.Sequels.{sequel_of, begun, refused}
use Rattle.gc_cycle.specs.Worlds.{face_of, with_put, in_front, or_else}
use Rattle.gc_cycle.proofs.records.Ends.{Outcome, Polls, Makes, Reads, Writes, Exchanges, Retires, IsDone, SequelTells, called, put_of, seen_with_call, has_ended, with_end_is}

module _ {R W E M : Type 0} (kit : Kit R W E M) where
  abbrev pub begun_or : Sizes → PassRecord R W E → Request → PassRecord R W E
  begun_or l p request = or_else (started kit l p request) p

  -- the record after a sequel, where the next command begins so
  abbrev pub followed_by : Sizes → Request → PassRecord R W E → Sequel → PassRecord R W E
  followed_by l next p sequel.Nothing = p
  followed_by l next p (sequel.Starts request) = or_else (started kit l p request) (begun_or l p next)
  followed_by l next p (sequel.Answered put answer ended) = begun_or l (in_front (with_put p put) ended) next
  followed_by l next p (sequel.Retries why) = begun_or l p requests.Poll

  -- the record that has seen and holds what the sequel says, and what begins then
  abbrev held_by : PassRecord R W E → Sequel → PassRecord R W E
  held_by p (sequel.Answered put answer ended) = in_front (with_put p put) ended
  held_by p s = p

  abbrev went_on : Sizes → Request → Sequel → PassRecord R W E → PassRecord R W E
  went_on l next sequel.Nothing p = p
  went_on l next (sequel.Starts request) p = or_else (started kit l p request) (begun_or l p next)
  went_on l next (sequel.Answered put answer ended) p = begun_or l p next
  went_on l next (sequel.Retries why) p = begun_or l p requests.Poll

  followed_is : (l : Sizes) (next : Request) (p : PassRecord R W E) (s : Sequel) → went_on l next s (held_by p s) ≡ followed_by l next p s
  followed_is l next p sequel.Nothing = refl
  followed_is l next p (sequel.Starts request) = refl
  followed_is l next p (sequel.Answered put answer ended) = refl
  followed_is l next p (sequel.Retries why) = refl

  -- ---- what was seen

  seen_end : (p : PassRecord R W E) (count : ℕ) (end : MachineEnd) → with_end (record p { seen = count }) end ≡ record (with_end p end) { seen = count }
  seen_end p count (ends.Poll e) = refl
  seen_end p count (ends.New (new_end.Made birth at room)) = refl
  seen_end p count (ends.New (new_end.Refused why)) = refl
  seen_end p count (ends.Read e) = refl
  seen_end p count (ends.Write e) = refl
  seen_end p count (ends.Exchange e) = refl
  seen_end p count ends.Retire = refl

  pub end_seen : (p : PassRecord R W E) (end : MachineEnd) → (let q = with_end p end in q.seen) ≡ p.seen
  end_seen p (ends.Poll e) = refl
  end_seen p (ends.New (new_end.Made birth at room)) = refl
  end_seen p (ends.New (new_end.Refused why)) = refl
  end_seen p (ends.Read e) = refl
  end_seen p (ends.Write e) = refl
  end_seen p (ends.Exchange e) = refl
  end_seen p ends.Retire = refl

  fronted : (p : PassRecord R W E) (count : ℕ) (put : Option InRegister) (call : Option Ended) → seen_with_call count call ≡ p.seen → in_front (with_put (record p { seen = count }) put) call ≡ with_put p put
  fronted p count None None is = ap (λ n. record p { seen = n }) is
  fronted p count None (Some e) is = ap (λ n. record p { seen = n }) is
  fronted p count (Some put) None is = ap (λ n. record p { registers = slice_set p.registers put.register put.word; seen = n }) is
  fronted p count (Some put) (Some e) is = ap (λ n. record p { registers = slice_set p.registers put.register put.word; seen = n }) is

  held_seen : (p : PassRecord R W E) (count : ℕ) (s : Sequel) → seen_with_call count (called s) ≡ p.seen → held_by (record p { seen = count }) s ≡ with_put p (put_of s)
  held_seen p count sequel.Nothing is = ap (λ n. record p { seen = n }) is
  held_seen p count (sequel.Starts request) is = ap (λ n. record p { seen = n }) is
  held_seen p count (sequel.Answered put answer ended) is = fronted p count put ended is
  held_seen p count (sequel.Retries why) is = ap (λ n. record p { seen = n }) is

  held_is : (p : PassRecord R W E) (count : ℕ) (end : MachineEnd) (s : Sequel) → seen_with_call count (called s) ≡ p.seen → held_by (with_end (record p { seen = count }) end) s ≡ with_put (with_end p end) (put_of s)
  held_is p count end s is = ap (λ q. held_by q s) (seen_end p count end) ∙ held_seen (with_end p end) count s (is ∙ sym (end_seen p end))

  -- ---- what begins

  -- one more machine begins, if it does
  begins_or : (l : Sizes) (a p : PassKnown R W E) (request : Request) (o : Option (PassRecord R W E)) → Fits request → (let pass = p.pass in pass.machine) ≡ machine.Idle → started kit l p.pass request ≡ o
      → (other : PassRecord R W E) → BeginsOn kit l (party.Pass a) (party.Pass p) → BeginsOn kit l (party.Pass a) (party.Pass (record p { pass = other })) → BeginsOn kit l (party.Pass a) (party.Pass (record p { pass = or_else o other }))
  begins_or l a p request None fits idle is other before otherwise = otherwise
  begins_or l a p request (Some next) fits idle is other before otherwise = on before (inr (inr (record { idle = idle; request = request; fits = fits; next = next; started_is = is; is = refl })))

  begins_next : (l : Sizes) (a p : PassKnown R W E) (request : Request) → Fits request → (let pass = p.pass in pass.machine) ≡ machine.Idle → BeginsOn kit l (party.Pass a) (party.Pass p) → BeginsOn kit l (party.Pass a) (party.Pass (record p { pass = begun_or l p.pass request }))
  begins_next l a p request fits idle before = begins_or l a p request (started kit l p.pass request) fits idle refl p.pass before before

  -- what it starts fits
  abbrev StartFits : Sequel → Type 0
  StartFits (sequel.Starts request) = Fits request
  StartFits s = Unit {0}

  goes_on : (l : Sizes) (a p : PassKnown R W E) (next : Request) (s : Sequel) → Fits next → StartFits s → (let pass = p.pass in pass.machine) ≡ machine.Idle
      → BeginsOn kit l (party.Pass a) (party.Pass p) → BeginsOn kit l (party.Pass a) (party.Pass (record p { pass = went_on l next s p.pass }))
  goes_on l a p next sequel.Nothing fits start idle before = before
  goes_on l a p next (sequel.Starts request) fits start idle before = begins_or l a p request (started kit l p.pass request) start idle refl (begun_or l p.pass next) before (begins_next l a p next fits idle before)
  goes_on l a p next (sequel.Answered put answer ended) fits start idle before = begins_next l a p next fits idle before
  goes_on l a p next (sequel.Retries why) fits start idle before = begins_next l a p requests.Poll tt idle before

  operand_fits : (what : Operand) → OperandFits what → IsOperand what
  operand_fits (operands.Num n) fits = fits
  operand_fits (operands.Reg r) fits = fits

  begun_fits : (command : Command) (f : Face) → CommandFits command → StartFits (begun command f)
  begun_fits (commands.New dst len) f fits = fits.1
  begun_fits (commands.Get dst obj field) f fits = fits.1
  begun_fits (commands.Put obj field what) f fits = (fits.0, operand_fits what fits.2)
  begun_fits (commands.Cas dst obj field expected value) f fits = (fits.1, operand_fits expected fits.3, operand_fits value fits.4)
  begun_fits (commands.Copy dst src) f fits = tt
  begun_fits (commands.Drop dst) f fits = tt
  begun_fits commands.Poll f fits = tt

  refused_fits : (why : TryRefusal) → StartFits (refused why)
  refused_fits refusal.NotLink = tt
  refused_fits (refusal.NoField len) = tt
  refused_fits (refusal.Raced loaded found) = tt
  refused_fits (refusal.Busy cycle mark) = tt

  starts_fit : (changes : ℕ) (command : Command) (f : Face) (end : MachineEnd) → CommandFits command → StartFits (sequel_of changes command f end)
  starts_fit changes command f (ends.Poll e) fits = begun_fits command f fits
  starts_fit changes (commands.New dst len) f (ends.New (new_end.Made birth at room)) fits = tt
  starts_fit changes (commands.New dst len) f (ends.New (new_end.Refused why)) fits = tt
  starts_fit changes (commands.Get dst obj field) f (ends.Read (read_end.Got word)) fits = tt
  starts_fit changes (commands.Get dst obj field) f (ends.Read (read_end.NoField len)) fits = tt
  starts_fit changes (commands.Put obj field what) f (ends.Write write_end.Wrote) fits = tt
  starts_fit changes (commands.Put obj field what) f (ends.Write (write_end.Refused why)) fits = refused_fits why
  starts_fit changes (commands.Cas dst obj field expected value) f (ends.Exchange exchange_end.Done) fits = tt
  starts_fit changes (commands.Cas dst obj field expected value) f (ends.Exchange (exchange_end.Differs word)) fits = tt
  starts_fit changes (commands.Cas dst obj field expected value) f (ends.Exchange (exchange_end.Refused why)) fits = refused_fits why
  starts_fit changes command f end fits = tt

  -- ---- the word that goes to a register

  -- the word that is put is the one with which the machine ended
  abbrev Fitting : Option InRegister → Option FieldWord → Type 0
  Fitting None word = Unit {0}
  Fitting (Some put) word = word ≡ Some put.word

  makes_put : (p : PassKnown R W E) (changes : ℕ) (command : Command) (f : Face) (e : NewEnd) → IsDone kit p command (machine.New (make.Ended e)) → Fitting (put_of (sequel_of changes command f (ends.New e))) (word_of_end kit (machine.New (make.Ended e)))
  makes_put p changes (commands.New dst len) f (new_end.Made birth at room) done = refl
  makes_put p changes (commands.New dst len) f (new_end.Refused why) done = tt
  makes_put p changes command f e done = absurd done

  reads_put : (p : PassKnown R W E) (changes : ℕ) (command : Command) (f : Face) (x : R) (e : Ending) (said : ReadEnd) → ending_of (kit.reads x) ≡ Some e → read_said e ≡ Some said → IsDone kit p command (machine.Read x)
      → Fitting (put_of (sequel_of changes command f (ends.Read said))) (word_of_end kit (machine.Read x))
  reads_put p changes (commands.Get dst obj field) f x (Got word) said ends_so says done =
      let said_is : read_end.Got word ≡ said = cc in
      subst (λ (said : ReadEnd). Fitting (put_of (sequel_of changes (commands.Get dst obj field) f (ends.Read said))) (word_of_end kit (machine.Read x))) said_is (ap word_told ends_so)
  reads_put p changes (commands.Get dst obj field) f x e (read_end.NoField len) ends_so says done = tt
  reads_put p changes (commands.Get dst obj field) f x (Refused (refusal.NoField len)) (read_end.Got word) ends_so says done = absurd cc
  reads_put p changes (commands.Get dst obj field) f x e (read_end.Got word) ends_so says done = absurd cc
  reads_put p changes command f x e said ends_so says done = absurd done

  refused_puts : (why : TryRefusal) (word : Option FieldWord) → Fitting (put_of (refused why)) word
  refused_puts refusal.NotLink word = tt
  refused_puts (refusal.NoField len) word = tt
  refused_puts (refusal.Raced loaded found) word = tt
  refused_puts (refusal.Busy cycle mark) word = tt

  writes_put : (p : PassKnown R W E) (changes : ℕ) (command : Command) (f : Face) (x : W) (said : WriteEnd) → IsDone kit p command (machine.Write x) → Fitting (put_of (sequel_of changes command f (ends.Write said))) (word_of_end kit (machine.Write x))
  writes_put p changes (commands.Put obj field what) f x write_end.Wrote done = tt
  writes_put p changes (commands.Put obj field what) f x (write_end.Refused why) done = refused_puts why (word_of_end kit (machine.Write x))
  writes_put p changes command f x said done = absurd done

  exchanges_put : (p : PassKnown R W E) (changes : ℕ) (command : Command) (f : Face) (x : E) (e : Ending) (said : ExchangeEnd) → ending_of (kit.exchanges x) ≡ Some e → exchange_said e ≡ Some said → IsDone kit p command (machine.Exchange x)
      → Fitting (put_of (sequel_of changes command f (ends.Exchange said))) (word_of_end kit (machine.Exchange x))
  exchanges_put p changes (commands.Cas dst obj field expected value) f x e exchange_end.Done ends_so says done = tt
  exchanges_put p changes (commands.Cas dst obj field expected value) f x e (exchange_end.Refused why) ends_so says done = refused_puts why (word_of_end kit (machine.Exchange x))
  exchanges_put p changes (commands.Cas dst obj field expected value) f x (Differs word) said ends_so says done =
      let said_is : exchange_end.Differs word ≡ said = cc in
      subst (λ (said : ExchangeEnd). Fitting (put_of (sequel_of changes (commands.Cas dst obj field expected value) f (ends.Exchange said))) (word_of_end kit (machine.Exchange x))) said_is (ap word_told ends_so)
  exchanges_put p changes (commands.Cas dst obj field expected value) f x e (exchange_end.Differs word) ends_so says done = absurd cc
  exchanges_put p changes command f x e said ends_so says done = absurd done

  -- between two machines
  idle_put : (p : PassRecord R W E) (put : Option InRegister) → p.machine ≡ machine.Idle → (let q = with_put p put in q.machine) ≡ machine.Idle
  idle_put p None idle = idle
  idle_put p (Some put) idle = idle

  no_retirement : (p : PassKnown R W E) (command : Command) → IsDone kit p command (machine.Retire retire.Ended) → ⊥
  no_retirement p (commands.New dst len) done = done
  no_retirement p command done = done

  new_idle : (p : PassRecord R W E) (e : NewEnd) → (let q = with_end p (ends.New e) in q.machine) ≡ machine.Idle
  new_idle p (new_end.Made birth at room) = refl
  new_idle p (new_end.Refused why) = refl

  end_idle : (p : PassKnown R W E) (command : Command) (m : PassMachine R W E) (end : MachineEnd) → Outcome kit m end → IsDone kit p command m → (let q = with_end p.pass end in q.machine) ≡ machine.Idle
  end_idle p command m end (Polls e is end_is) done = rw end_is refl
  end_idle p command m end (Makes e is end_is) done = rw end_is (new_idle p.pass e)
  end_idle p command m end (Reads x e said is ends_so says end_is) done = rw end_is refl
  end_idle p command m end (Writes x e said is ends_so says end_is) done = rw end_is refl
  end_idle p command m end (Exchanges x e said is ends_so says end_is) done = rw end_is refl
  end_idle p command m end (Retires is end_is) done = absurd (no_retirement p command (subst (IsDone kit p command) is done))

module _ {R W E M : Type 0} (kit : Kit R W E M) (by : Stepping R W E M) (laws : Laws kit by) where
  -- the pass that has taken in the end
  abbrev at_rest_after : PassKnown R W E → PassRecord R W E → PassKnown R W E
  at_rest_after p pass = record p { pass = pass; ended = p.ended ++ call_ended kit p }

  -- it takes in the end, and with it the word goes to a register
  takes_put : (l : Sizes) (p : PassKnown R W E) (end : MachineEnd) (put : Option InRegister) → Outcome kit p.pass.machine end → Fitting kit put (word_of_end kit p.pass.machine)
      → BeginsOn kit l (party.Pass p) (party.Pass (at_rest_after p (with_put (with_end p.pass end) put)))
  takes_put l p end None is fitting = on still (inl (record {
    over = has_ended kit by laws p.pass.machine end is;
    register = None;
    is = ap (λ pass. at_rest_after p pass) (with_end_is kit by laws p.pass end is);
  }))
  takes_put l p end (Some put) is fitting = on still (inl (record {
    over = has_ended kit by laws p.pass.machine end is;
    register = Some put.register;
    is = rw fitting (ap (λ (pass : PassRecord R W E). at_rest_after p (with_put pass (Some put))) (with_end_is kit by laws p.pass end is));
  }))

  -- after its last command it takes in the end of its retirement
  pub takes_in : (l : Sizes) (p : PassKnown R W E) (end : MachineEnd) → Outcome kit p.pass.machine end
      → BeginsOn kit l (party.Pass p) (party.Pass (record p { pass = with_end p.pass end; ended = p.ended ++ call_ended kit p }))
  takes_in l p end is = takes_put l p end None is tt

  -- a command that asks for no machine puts a word in a register
  puts_polled : (l : Sizes) (a p : PassKnown R W E) (command : Command) (f : Face) → (let pass = p.pass in pass.machine) ≡ machine.Idle → f.registers ≡ (let pass = p.pass in pass.registers)
      → BeginsOn kit l (party.Pass a) (party.Pass p) → BeginsOn kit l (party.Pass a) (party.Pass (record p { pass = with_put p.pass (put_of (begun command f)) }))
  puts_polled l a p (commands.New dst len) f idle same before = before
  puts_polled l a p (commands.Get dst obj field) f idle same before = before
  puts_polled l a p (commands.Put obj field what) f idle same before = before
  puts_polled l a p (commands.Cas dst obj field expected value) f idle same before = before
  puts_polled l a p (commands.Copy dst src) f idle same before =
      on before (inr (inl (record { idle = idle; register = dst; word = held_in f.registers src; has = inr (src, ap (λ registers. held_in registers src) same); is = refl })))
  puts_polled l a p (commands.Drop dst) f idle same before = on before (inr (inl (record { idle = idle; register = dst; word = Num 0; has = inl (0, lit< tt, refl); is = refl })))
  puts_polled l a p commands.Poll f idle same before = before

  abbrev face_of_end : PassKnown R W E → ℕ → MachineEnd → Face
  face_of_end p count end = face_of (with_end (record p.pass { seen = count }) end)

  takes_all : (l : Sizes) (p : PassKnown R W E) (count changes : ℕ) (command : Command) (end : MachineEnd) → Outcome kit p.pass.machine end → IsDone kit p command p.pass.machine
      → BeginsOn kit l (party.Pass p) (party.Pass (at_rest_after p (with_put (with_end p.pass end) (put_of (sequel_of changes command (face_of_end p count end) end)))))
  takes_all l p count changes command end (Polls e is end_is) done =
      let begins = takes_in l p end (Polls e is end_is) in
      puts_polled_end begins
    where
      puts_polled_end : BeginsOn kit l (party.Pass p) (party.Pass (at_rest_after p (with_end p.pass end))) → BeginsOn kit l (party.Pass p) (party.Pass (at_rest_after p (with_put (with_end p.pass end) (put_of (sequel_of changes command (face_of_end p count end) end)))))
      puts_polled_end = rw end_is (puts_polled l p (at_rest_after p (with_end p.pass (ends.Poll e))) command (face_of_end p count (ends.Poll e)) refl refl)
  takes_all l p count changes command end (Makes e is end_is) done =
      takes_put l p end (put_of (sequel_of changes command (face_of_end p count end) end)) (Makes e is end_is)
      (rw (end_is, is) (makes_put kit p changes command (face_of_end p count (ends.New e)) e (subst (IsDone kit p command) is done)))
  takes_all l p count changes command end (Reads x e said is ends_so says end_is) done =
      takes_put l p end (put_of (sequel_of changes command (face_of_end p count end) end)) (Reads x e said is ends_so says end_is)
      (rw (end_is, is) (reads_put kit p changes command (face_of_end p count (ends.Read said)) x e said ends_so says (subst (IsDone kit p command) is done)))
  takes_all l p count changes command end (Writes x e said is ends_so says end_is) done =
      takes_put l p end (put_of (sequel_of changes command (face_of_end p count end) end)) (Writes x e said is ends_so says end_is)
      (rw (end_is, is) (writes_put kit p changes command (face_of_end p count (ends.Write said)) x said (subst (IsDone kit p command) is done)))
  takes_all l p count changes command end (Exchanges x e said is ends_so says end_is) done =
      takes_put l p end (put_of (sequel_of changes command (face_of_end p count end) end)) (Exchanges x e said is ends_so says end_is)
      (rw (end_is, is) (exchanges_put kit p changes command (face_of_end p count (ends.Exchange said)) x e said ends_so says (subst (IsDone kit p command) is done)))
  takes_all l p count changes command end (Retires is end_is) done = absurd (no_retirement kit p command (subst (IsDone kit p command) is done))

  -- a chain of beginnings leads from the record whose machine has ended to the one after the sequel
  pub follows : (l : Sizes) (next : Request) (p : PassKnown R W E) (count changes : ℕ) (command : Command) (end : MachineEnd) → Fits next → CommandFits command
      → Outcome kit p.pass.machine end → IsDone kit p command p.pass.machine → (let pass = p.pass in pass.seen) ≡ length p.seen
      → (let s = sequel_of changes command (face_of (with_end (record p.pass { seen = count }) end)) end in
      SequelTells kit p count s
      → BeginsOn kit l (party.Pass p) (party.Pass (record p { pass = followed_by kit l next (with_end (record p.pass { seen = count }) end) s; ended = p.ended ++ call_ended kit p })))
  follows l next p count changes command end fits fits_command is done counted tells =
      let s : Sequel = sequel_of changes command (face_of_end p count end) end in
      let rested : PassRecord R W E = with_put (with_end p.pass end) (put_of s) in
      let held : held_by kit (with_end (record p.pass { seen = count }) end) s ≡ rested = held_is kit p.pass count end s (tells.front ∙ sym counted) in
      let idle : rested.machine ≡ machine.Idle = idle_put kit (with_end p.pass end) (put_of s) (end_idle kit p command p.pass.machine end is done) in
      subst (λ pass. BeginsOn kit l (party.Pass p) (party.Pass (at_rest_after p pass))) (ap (went_on kit l next s) (sym held) ∙ followed_is kit l next (with_end (record p.pass { seen = count }) end) s)
      (goes_on kit l p (at_rest_after p rested) next s fits (starts_fit kit changes command (face_of_end p count end) end fits_command) idle (takes_all l p count changes command end is done))
