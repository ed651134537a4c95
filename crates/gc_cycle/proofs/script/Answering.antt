-- What a thread tells after the end of a machine.
use Rattle.std.specs.Prelude.{slice_get}
use Rattle.std.proofs.Common.{◌≡◌, ◌≢◌, ℕ, ◌+◌, ◌≤◌, Bool, true, false, cond, List, [], ◌∷◌, ◌++◌, length, map, set, get_or, drop, Option, Some, None, refl, sym, ap, ◌∙◌, arith}
use Rattle.std.proofs.lemmas.List.{map-set}
use Rattle.heap_words.specs.declared.operand.Operand.{Operand}
use Rattle.heap_words.specs.declared.operand.Operand.TheVariants as operands
use Rattle.heap_words.specs.declared.field_word.FieldWord.{FieldWord}
use Rattle.heap_words.specs.declared.field_word.FieldWord.TheVariants.{Num, Link}
use Rattle.heap_history.specs.declared.call.Call.{Call}
use Rattle.heap_history.specs.declared.call.Call.TheVariants as calls
use Rattle.heap_history.specs.declared.call.Reply.TheVariants as replies
use Rattle.heap_history.specs.declared.call.Value.{Value}
use Rattle.heap_history.specs.declared.call.Value.TheVariants as values
use Rattle.heap_history.specs.declared.call.Ended.{Ended}
use Rattle.heap_history.specs.FixedHeaps.{answer}
use Rattle.heap_history.specs.Histories.{is_change, pass_of}
use Rattle.heap_history.specs.Logs.{IsLog, changes_of, heap_of}
use Rattle.heap_history.specs.LogLaws.{IsLog-look, IsLog-change}
use Rattle.heap_script.specs.declared.script.Command.{Command}
use Rattle.heap_script.specs.declared.script.Command.TheVariants as commands
use Rattle.heap_script.specs.declared.answer.Answer.{Answer}
use Rattle.heap_script.specs.Allowed as allowed
use Rattle.heap_script.specs.Tellings.{Tells, Thread}
use Rattle.heap_script.specs.TellsLaws.{tells_none, tells_look, tells_change, no_call_seen}
use Rattle.handshakes.specs.Polling.{held_in}
use Rattle.barriers.specs.declared.machine_end.Request.{Request}
use Rattle.barriers.specs.declared.machine_end.Request.TheVariants as requests
use Rattle.barriers.specs.declared.pass.PassRecord.{PassRecord}
use Rattle.barriers.specs.declared.pass.PassMachine.TheVariants as machine
use Rattle.barriers.specs.declared.room.Room.{Room}
use Rattle.barriers.specs.Records.{operand_word}
use Rattle.barriers.specs.Values.{value_of}
use Rattle.gc_cycle.specs.declared.sequel.Sequel.{Sequel}
use Rattle.gc_cycle.specs.declared.sequel.Sequel.TheVariants as sequel
use Rattle.gc_cycle.specs.Sequels.{named, name_in, read_call, write_call, exchange_call}
use Rattle.gc_cycle.specs.Worlds.{logged, face_of, in_front, with_put}
use Rattle.gc_cycle.specs.Lawful.{IsLink, standing_of}
use Rattle.gc_cycle.proofs.script.Ends.{IsLooked, IsChange}
use Rattle.gc_cycle.proofs.script.Lists.{held_value}
use Rattle.gc_cycle.proofs.script.Threads.{IsOf}

-- a command asks for this machine
abbrev pub Asks : Command → Request → Type 0
Asks (commands.New dst len) request = request ≡ requests.New len
Asks (commands.Get dst obj field) request = request ≡ requests.Read obj field
Asks (commands.Put obj field what) request = request ≡ requests.Write obj field what
Asks (commands.Cas dst obj field expected value) request = request ≡ requests.Exchange obj field expected value
Asks c request = ⊥

-- at most one call ended: a change where the step was one, and with the front that its thread has seen
abbrev pub IsCallBy : Bool → ℕ → Option Ended → Type 0
IsCallBy made seen None = made ≡ false
IsCallBy made seen (Some e) = (e.front ≡ seen) × (is_change e.reply ≡ made)

module _ {R W E : Type 0} where
  -- a thread after a command is answered, before which it had seen so much: what it tells
  pub record IsAnswered (t : Thread) (q : PassRecord R W E) (told : List Answer) (log : List Ended) (made : Bool) (before : ℕ) (answer : Answer) (call : Option Ended) : Type 0 where
    pub number : (let view = q.view in view.pass) ≡ t.number
    pub tells : Tells t (standing_of q) (told ++ answer ∷ []) (logged log call)
    pub own : IsOf t.number call
    pub heard : IsLog (logged log call)
    pub call_is : IsCallBy made q.seen call
    pub seen_is : q.seen ≡ cond made (length (changes_of log) + 1) before

  -- a thread between two machines, at the same command still
  pub record IsResting (t : Thread) (q : PassRecord R W E) (told : List Answer) (log : List Ended) : Type 0 where
    pub number : (let view = q.view in view.pass) ≡ t.number
    pub tells : Tells t (standing_of q) told log

  -- what comes of the end is the thread's
  abbrev pub SequelKeeps : Thread → PassRecord R W E → List Answer → List Ended → Bool → Command → Sequel → Type 0
  SequelKeeps t q told log made c sequel.Nothing = ⊥
  SequelKeeps t q told log made c (sequel.Starts request) = IsResting t q told log × Asks c request × (made ≡ false)
  SequelKeeps t q told log made c (sequel.Answered put answer call) = IsAnswered t (in_front (with_put q put) call) told log made q.seen answer call
  SequelKeeps t q told log made c (sequel.Retries why) = IsResting t q told log × (made ≡ false)

-- ---- values

named_value : (word : FieldWord) → IsLink word → value_of word ≡ values.Object (name_in word)
named_value (Num n) is = absurd is
named_value (Link birth at) is = refl

-- the values of registers, of which one is set
pub with_value : (values : List Value) (registers : List FieldWord) (dst : ℕ) (word : FieldWord) → values ≡ map value_of registers → set values dst (value_of word) ≡ map value_of (set registers dst word)
with_value values registers dst word same = ap (λ (xs : List Value). set xs dst (value_of word)) same ∙ sym (map-set value_of registers dst word)

module _ {R W E : Type 0} (t : Thread) (p : PassRecord R W E) (told : List Answer) (log : List Ended) (rest : IsResting t p told log) where
  abbrev pub seat : allowed.Seat
  seat = let tells = rest.tells in tells.seat

  pub same : seat.registers ≡ map value_of p.registers
  same = let tells = rest.tells in tells.registers_are

  pub held_is : (r : ℕ) → allowed.held seat r ≡ value_of (held_in p.registers r)
  held_is r = ap (λ (xs : List Value). get_or xs r (values.Num 0)) same ∙ held_value p.registers r

  pub object_is : (r : ℕ) → IsLink (held_in p.registers r) → allowed.held seat r ≡ values.Object (named p.registers r)
  object_is r is = held_is r ∙ named_value (held_in p.registers r) is

  meant_is : (what : Operand) → allowed.value_of seat what ≡ value_of (operand_word p.registers what)
  meant_is (operands.Num n) = refl
  meant_is (operands.Reg register) = held_is register

  -- ---- the calls of commands

  pub read_is : (obj field : ℕ) → IsLink (held_in p.registers obj) → allowed.on_object (allowed.held seat obj) (λ b. calls.Read t.number b field) ≡ Some (read_call (face_of p) obj field)
  read_is obj field is =
      ap (λ v. allowed.on_object v (λ b. calls.Read t.number b field)) (object_is obj is) ∙ ap (λ k. Some (calls.Read k (named p.registers obj) field)) (sym rest.number)

  pub write_is : (obj field : ℕ) (what : Operand) → IsLink (held_in p.registers obj)
      → allowed.on_object (allowed.held seat obj) (λ b. calls.Write t.number b field (allowed.value_of seat what)) ≡ Some (write_call (face_of p) obj field what)
  write_is obj field what is =
      ap (λ v. allowed.on_object v (λ b. calls.Write t.number b field (allowed.value_of seat what))) (object_is obj is)
      ∙ ap (λ v. Some (calls.Write t.number (named p.registers obj) field v)) (meant_is what)
      ∙ ap (λ k. Some (calls.Write k (named p.registers obj) field (value_of (operand_word p.registers what)))) (sym rest.number)

  pub exchange_is : (obj field : ℕ) (expected what : Operand) → IsLink (held_in p.registers obj)
      → allowed.on_object (allowed.held seat obj) (λ b. calls.Exchange t.number b field (allowed.value_of seat expected) (allowed.value_of seat what)) ≡ Some (exchange_call (face_of p) obj field expected what)
  exchange_is obj field expected what is =
      ap (λ v. allowed.on_object v (λ b. calls.Exchange t.number b field (allowed.value_of seat expected) (allowed.value_of seat what))) (object_is obj is)
      ∙ ap (λ v. Some (calls.Exchange t.number (named p.registers obj) field v (allowed.value_of seat what))) (meant_is expected)
      ∙ ap (λ v. Some (calls.Exchange t.number (named p.registers obj) field (value_of (operand_word p.registers expected)) v)) (meant_is what)
      ∙ ap (λ k. Some (calls.Exchange k (named p.registers obj) field (value_of (operand_word p.registers expected)) (value_of (operand_word p.registers what)))) (sym rest.number)

  -- ---- one command answered

  module _ (c : Command) (at : slice_get t.commands (length told) ≡ Some c) (heard : IsLog log) where
    -- it was no call
    pub none_told : (a : Answer) (registers : List FieldWord) → allowed.call_of t.number seat c a ≡ None → allowed.IsNoCall t.quota (heap_of log) seat c a → allowed.registers_after seat c a ≡ map value_of registers → allowed.lens_after seat c a ≡ seat.lens
        → IsAnswered t (record p { registers = registers; machine = machine.Idle }) told log false p.seen a None
    none_told a registers none no_call regs lens = record {
      number = rest.number;
      tells = tells_none t (standing_of p) told log rest.tells c at a (map value_of registers) none (no_call_seen t (standing_of p) told log rest.tells c a no_call) regs (ap length lens ∙ (let tells = rest.tells in tells.lens_are));
      own = tt;
      heard = heard;
      call_is = refl;
      seen_is = refl;
    }

    -- a look
    pub look_told : (a : Answer) (call : Call) (registers : List FieldWord) → allowed.call_of t.number seat c a ≡ Some call → allowed.IsNumbered t.number seat a → is_change (allowed.reply_of a) ≡ false → allowed.reply_of a ≢ replies.NotThere → pass_of call ≡ (let view = p.view in view.pass)
        → IsLooked log p.seen call (allowed.reply_of a) → allowed.registers_after seat c a ≡ map value_of registers → allowed.lens_after seat c a ≡ seat.lens
        → IsAnswered t (record p { registers = registers; machine = machine.Idle }) told log false p.seen a (Some (record { call = call; reply = allowed.reply_of a; front = p.seen }))
    look_told a call registers some numbered look there own looked regs lens =
        let tells = rest.tells in
        let mine : pass_of call ≡ t.number = own ∙ rest.number in
        record {
          number = rest.number;
          tells = tells_look t (standing_of p) told log tells c at a call p.seen (map value_of registers) some numbered look mine tells.seen_grows looked.within looked.said regs (ap length lens ∙ tells.lens_are);
          own = mine;
          heard = IsLog-look log (record { call = call; reply = allowed.reply_of a; front = p.seen }) heard look looked.within looked.said there;
          call_is = (refl, look);
          seen_is = refl;
        }

    -- a change
    pub change_told : (a : Answer) (call : Call) (registers : List FieldWord) (room : Room) (made : ℕ) → allowed.call_of t.number seat c a ≡ Some call → allowed.IsNumbered t.number seat a → is_change (allowed.reply_of a) ≡ true → pass_of call ≡ (let view = p.view in view.pass)
        → IsChange log call (allowed.reply_of a) → allowed.registers_after seat c a ≡ map value_of registers → length (allowed.lens_after seat c a) ≡ made
        → IsAnswered t (record p { registers = registers; machine = machine.Idle; room = room; made = made; seen = length (changes_of log) + 1 }) told log true p.seen a (Some (record { call = call; reply = allowed.reply_of a; front = length (changes_of log) + 1 }))
    change_told a call registers room made some numbered change own said regs lens =
        let mine : pass_of call ≡ t.number = own ∙ rest.number in
        record {
          number = rest.number;
          tells = tells_change t (standing_of p) told log rest.tells c at a call made (map value_of registers) some numbered change mine said regs lens;
          own = mine;
          heard = IsLog-change log (record { call = call; reply = allowed.reply_of a; front = length (changes_of log) + 1 }) heard change refl said;
          call_is = (refl, change);
          seen_is = refl;
        }
