-- What the step of each machine says of the command that its pass is at.
use Rattle.std.specs.Prelude.{reverse, is_some}
use Rattle.std.specs.Option.{option_map}
use Rattle.std.proofs.Common.{◌≡◌, ℕ, Bool, false, List, ◌++◌, length, Option, Some, None, refl, sym, ap, ◌∙◌, subst}
use Rattle.heap_words.specs.Layouts.{Sizes}
use Rattle.heap_words.specs.declared.operand.Operand.{Operand}
use Rattle.heap_words.specs.declared.field_word.FieldWord.{FieldWord}
use Rattle.heap_history.specs.declared.call.Call.{Call}
use Rattle.heap_history.specs.declared.call.Ended.{Ended}
use Rattle.heap_history.specs.declared.call.Value.{Value}
use Rattle.heap_history.specs.Histories.{Follows}
use Rattle.heap_history.specs.Logs.{changes_of}
use Rattle.heap_script.specs.declared.script.Command.{Command}
use Rattle.heap_script.specs.declared.script.Command.TheVariants as commands
use Rattle.handshakes.specs.Handshakes.{Announced}
use Rattle.handshakes.specs.Polls as polls
use Rattle.handshakes.specs.declared.poll.PollEnd.{PollEnd}
use Rattle.handshakes.specs.declared.poll.PollMachine.{PollMachine}
use Rattle.handshakes.specs.declared.poll.PollMachine.TheVariants as poll
use Rattle.handshakes.specs.declared.retire.RetireMachine.{RetireMachine}
use Rattle.handshakes.specs.declared.retire.RetireMachine.TheVariants as retire
use Rattle.handshakes.specs.Retires as retires
use Rattle.barriers.specs.declared.machine_end.MachineEnd.{MachineEnd}
use Rattle.barriers.specs.declared.machine_end.MachineEnd.TheVariants as ends
use Rattle.barriers.specs.declared.pass.PassRecord.{PassRecord}
use Rattle.barriers.specs.declared.pass.PassMachine.{PassMachine}
use Rattle.barriers.specs.declared.pass.PassMachine.TheVariants as machine
use Rattle.barriers.specs.Cycles.{Cycle}
use Rattle.barriers.specs.Spaces.{Space}
use Rattle.barriers.specs.Says.{Notices}
use Rattle.barriers.specs.Kits.{Kit, Stepping, Laws, ending_of}
use Rattle.barriers.specs.Knowns.{Known, Over, Task, Reads, Writes, Exchanges, call_of, spot_of, task_of}
use Rattle.barriers.specs.Records.{ended_of}
use Rattle.lawful_records.specs.Beginnings.{ended_call}
use Rattle.lawful_records.specs.LawfulRecords.{IsPassRecord, IsWriting, IsExchanging, IsPollIn}
use Rattle.lawful_records.specs.Records.{number_of}
use Rattle.lawful_records.specs.Turns.{change_by, change_call, front_by, pass_fed, pass_turned, with_change}
use Rattle.lawful_records.specs.declared.records.PassKnown.{PassKnown}
use Rattle.lawful_records.proofs.calls.CallSteps.{CallKept}
use Rattle.gc_cycle.specs.Worlds.{seen_with}
use Rattle.gc_cycle.specs.Lawful.{IsAtCommand, access_of}
use Rattle.gc_cycle.proofs.script.Beginning.{at_poll}
use Rattle.gc_cycle.proofs.script.Calls.{read_over, write_over, exchange_over, read_silent, write_silent, exchange_silent, seen_is}
use Rattle.gc_cycle.proofs.script.Ends.{EndSays}
use Rattle.gc_cycle.proofs.script.Said.{values_alike}
use Rattle.gc_cycle.proofs.script.Turned.{EndSaysAt}

-- ---- what a machine has ended with

pub poll_over : (m : PollMachine) (end : MachineEnd) → option_map (λ (e : PollEnd). ends.Poll e) (polls.end_of m) ≡ Some end → (e : PollEnd) × (m ≡ poll.Ended e) × (end ≡ ends.Poll e)
poll_over (poll.Ended e) end is = (e, refl, cc)
poll_over m end is = absurd cc

retire_over : (m : RetireMachine) (end : MachineEnd) → option_map (λ e. ends.Retire) (retires.end_of m) ≡ Some end → end ≡ ends.Retire
retire_over retire.Ended end is = cc
retire_over m end is = absurd cc

pub mapped : {A B : Type 0} (f : A → B) (o : Option A) (b : B) → option_map f o ≡ Some b → (a : A) × (o ≡ Some a) × (b ≡ f a)
mapped f None b is = absurd cc
mapped f (Some a) b is = (a, refl, cc)

unmapped : {A B : Type 0} (f : A → B) (o : Option A) → option_map f o ≡ None → o ≡ None
unmapped f None is = refl
unmapped f (Some a) is = absurd cc

writing_is : (t : Task) → IsWriting t → (word : FieldWord) × (t ≡ Writes word)
writing_is Reads is = absurd is
writing_is (Writes word) is = (word, refl)
writing_is (Exchanges expected word) is = absurd is

exchanging_is : (t : Task) → IsExchanging t → (expected : Value) × (word : FieldWord) × (t ≡ Exchanges expected word)
exchanging_is Reads is = absurd is
exchanging_is (Writes word) is = absurd is
exchanging_is (Exchanges expected word) is = (expected, word, refl)

-- a call that is not over has made no change
none_made : (k : Known) (pass : ℕ) → ending_of k ≡ None → is_some (change_call k pass) ≡ false
none_made (Over z t end) pass none = absurd cc
none_made k pass none = refl

module _ {R W E M : Type 0} (kit : Kit R W E M) (by : Stepping R W E M) (laws : Laws kit by) (l : Sizes) (a : Announced) (c : Cycle) (t : Space) (o : Notices) (log : List Ended) (hist : List Call) (hist_is : hist ≡ reverse (changes_of log))
    (p : PassRecord R W E) (seen mine : List Call) (es : List Ended) (count : p.seen ≡ length seen) (n : ℕ) (seal : Option (List Call)) where
  -- the pass in this machine, and after its step
  abbrev pub known : PassMachine R W E → PassKnown R W E
  known m = record { pass = record p { machine = m }; seen = seen; mine = mine; ended = es }

  abbrev pub after : PassMachine R W E → PassKnown R W E
  after m = pass_turned kit by seal hist (known m) n

  abbrev pub next : PassMachine R W E → PassRecord R W E
  next m = record p { machine = pass_fed kit by m n; seen = seen_with (front_by kit by m n) (option_map (λ (past : List Call). length past) seal) (length (changes_of log)) p.seen }

  abbrev pass : ℕ
  pass = let view = p.view in view.pass

  abbrev pub decides : PassMachine R W E → Bool
  decides m = is_some (change_by kit by m pass n)

  -- what its step says at this command: it goes on, or has ended
  pub record StepSays (m : PassMachine R W E) (command : Option Command) : Type 0 where
    pub goes : ended_of kit (pass_fed kit by m n) ≡ None → IsAtCommand kit l (next m) command × (decides m ≡ false)
    pub ends : (end : MachineEnd) → ended_of kit (pass_fed kit by m n) ≡ Some end → EndSaysAt l log (next m) command end (decides m)

  -- the record and the history after it
  pub record IsAfterStep (m : PassMachine R W E) : Type 0 where
    pub own : IsPassRecord kit l a c t o (after m)
    pub history : t.history ≡ with_change (change_by kit by m (number_of (known m)) n) hist

  -- ---- polls and retirements

  pub poll_says : (x : PollMachine) (command : Command) → IsAfterStep (machine.Poll x) → StepSays (machine.Poll x) (Some command)
  poll_says x command is = record {
    goes = λ none. (at_poll kit l (next (machine.Poll x)) command (polls.fed_of x n), refl);
    ends = λ end over.
        let e = poll_over (polls.fed_of x n) end over in
        let own = is.own in
        let polled : IsPollIn t (record { view = p.view; registers = p.registers; announced = o.phase; mark = o.mark }) (poll.Ended e.0) = subst (IsPollIn t (record { view = p.view; registers = p.registers; announced = o.phase; mark = o.mark })) e.1 own.machine in
        subst (λ (y : MachineEnd). EndSays l log (next (machine.Poll x)) command y false) (sym e.2)
        (polled.0, values_alike p.registers (let y = e.0 in y.registers) polled.1.0 polled.1.1, refl);
  }

  pub retire_says : (x : RetireMachine) → StepSays (machine.Retire x) None
  retire_says x = record {
    goes = λ none. (tt, refl);
    ends = λ end over. subst (λ (y : MachineEnd). EndSaysAt l log (next (machine.Retire x)) None y false) (sym (retire_over (retires.fed_of x n) end over)) (tt, refl);
  }

  -- ---- calls

  kept_access : (k k2 : Known) (call : Call) → CallKept k k2 → access_of pass k ≡ call → access_of pass k2 ≡ call
  kept_access k k2 call kept is =
      let same = kept.same in
      ap (λ z. call_of pass z (task_of k2)) same.spot ∙ ap (call_of pass (spot_of k)) same.task ∙ is

  pub read_says : (x : R) (dst obj field : ℕ) → IsAtCommand kit l (record p { machine = machine.Read x }) (Some (commands.Get dst obj field)) → CallKept (kit.reads x) (kit.reads (by.read_fed x n)) → IsAfterStep (machine.Read x)
      → StepSays (machine.Read x) (Some (commands.Get dst obj field))
  read_says x dst obj field at kept is =
      let k = kit.reads (by.read_fed x n) in
      let access = kept_access (kit.reads x) k _ kept at.1 in
      let own = is.own in
      let told = own.told in
      let call = own.machine.0 in
      let tells = laws.reading.tells (by.read_fed x n) in
      let q = next (machine.Read x) in
      let front = seen_is (by.read_front x n) seal log hist seen p.seen hist_is count in
      record {
        goes = λ none. ((at.0, access, read_silent k kept.ends own.machine.2 (sym tells ∙ unmapped _ _ none)), refl);
        ends = λ end over.
            let e = mapped _ _ end over in
            subst (λ (y : MachineEnd). EndSays l log q (commands.Get dst obj field) y false) (sym e.2)
            (read_over l log hist hist_is q pass es seal dst obj field at.0 k t.history kept.ends access is.history
            (subst (λ (m : ℕ). Follows (reverse t.history) pass 0 (es ++ ended_call (Some k) pass m)) front told.ended) call.refused e.0 (sym tells ∙ e.1));
      }

  pub write_says : (x : W) (obj field : ℕ) (what : Operand) → IsAtCommand kit l (record p { machine = machine.Write x }) (Some (commands.Put obj field what)) → CallKept (kit.writes x) (kit.writes (by.write_fed x n)) → IsAfterStep (machine.Write x)
      → StepSays (machine.Write x) (Some (commands.Put obj field what))
  write_says x obj field what at kept is =
      let k = kit.writes (by.write_fed x n) in
      let access = kept_access (kit.writes x) k _ kept at.1 in
      let own = is.own in
      let told = own.told in
      let call = own.machine.0 in
      let tells = laws.writing.tells (by.write_fed x n) in
      let q = next (machine.Write x) in
      let task = writing_is (task_of k) own.machine.2 in
      record {
        goes = λ none.
            let silent = write_silent k kept.ends task.0 task.1 (sym tells ∙ unmapped _ _ none) in
            ((at.0, access, silent), none_made k pass silent);
        ends = λ end over.
            let e = mapped _ _ end over in
            subst (λ (y : MachineEnd). EndSays l log q (commands.Put obj field what) y (decides (machine.Write x))) (sym e.2)
            (write_over l log hist hist_is q pass es seal obj field what at.0 k t.history (by.write_front x n) seen kept.ends access is.history told.ended call.refused e.0 (sym tells ∙ e.1));
      }

  pub exchange_says : (x : E) (dst obj field : ℕ) (expected value : Operand) → IsAtCommand kit l (record p { machine = machine.Exchange x }) (Some (commands.Cas dst obj field expected value)) → CallKept (kit.exchanges x) (kit.exchanges (by.exchange_fed x n))
      → IsAfterStep (machine.Exchange x) → StepSays (machine.Exchange x) (Some (commands.Cas dst obj field expected value))
  exchange_says x dst obj field expected value at kept is =
      let k = kit.exchanges (by.exchange_fed x n) in
      let access = kept_access (kit.exchanges x) k _ kept at.1 in
      let own = is.own in
      let told = own.told in
      let call = own.machine.0 in
      let tells = laws.exchanging.tells (by.exchange_fed x n) in
      let q = next (machine.Exchange x) in
      let task = exchanging_is (task_of k) own.machine.2 in
      let front = seen_is (by.exchange_front x n) seal log hist seen p.seen hist_is count in
      record {
        goes = λ none.
            let silent = exchange_silent k kept.ends task.0 task.1 task.2 (sym tells ∙ unmapped _ _ none) in
            ((at.0, access, silent), none_made k pass silent);
        ends = λ end over.
            let e = mapped _ _ end over in
            subst (λ (y : MachineEnd). EndSays l log q (commands.Cas dst obj field expected value) y (decides (machine.Exchange x))) (sym e.2)
            (exchange_over l log hist hist_is q pass es seal dst obj field expected value at.0 k t.history (by.exchange_front x n) seen kept.ends access is.history told.ended call.refused front e.0 (sym tells ∙ e.1));
      }
