-- A pass begins its next machine.
use Rattle.std.specs.Prelude.{slice_get}
use Rattle.std.specs.List.{All}
use Rattle.std.proofs.Common.{◌≡◌, ℕ, ◌+◌, ◌<◌, ◌≤◌, Bool, true, false, nat_lt, cond, List, [], ◌∷◌, ◌++◌, length, take, drop, nat_le, nat_eq, zero, suc, Option, Some, None, inl, inr, refl, sym, ap, ◌∙◌, subst, arith, lit<, length-append}
use Rattle.std.proofs.Math.Decide.{dec_lt}
use Rattle.std.proofs.lemmas.Bool.{ltb-true, ltb-false, le-leb, ne_eqb}
use Rattle.std.proofs.lemmas.List.{get_or_past}
use Rattle.std.proofs.lemmas.Option.{same_Some}
use Rattle.heap_words.specs.Layouts.{Sizes}
use Rattle.heap_words.specs.Packing.{fits_after}
use Rattle.heap_words.specs.FieldWords.{IsFieldWord, word_of}
use Rattle.heap_words.specs.declared.operand.Operand.{Operand}
use Rattle.heap_words.specs.declared.operand.Operand.TheVariants as operands
use Rattle.heap_words.specs.declared.field_word.FieldWord.{FieldWord}
use Rattle.heap_words.specs.declared.field_word.FieldWord.TheVariants.{Num, Link}
use Rattle.heap_history.specs.declared.call.Call.{Call}
use Rattle.heap_history.specs.declared.call.Call.TheVariants as calls
use Rattle.heap_history.specs.declared.call.Ended.{Ended}
use Rattle.heap_history.specs.declared.call.Value.{Value}
use Rattle.heap_history.specs.FixedHeaps.{Heap}
use Rattle.heap_history.specs.Logs.{IsLog, heap_of, changes_of}
use Rattle.std.specs.Option.{option_map}
use Rattle.heap_script.specs.declared.script.Command.{Command}
use Rattle.heap_script.specs.declared.script.Command.TheVariants as commands
use Rattle.heap_script.specs.declared.answer.Answer.{Answer}
use Rattle.heap_script.specs.declared.answer.Answer.TheVariants as answers
use Rattle.heap_script.specs.Allowed as allowed
use Rattle.heap_script.specs.Scripts.{CommandFits, OperandFits}
use Rattle.heap_script.specs.Tellings.{Thread}
use Rattle.handshakes.specs.Polling.{held_in}
use Rattle.handshakes.specs.declared.pass_view.PassView.{PassView}
use Rattle.handshakes.specs.declared.poll.PollMachine.{PollMachine}
use Rattle.barriers.specs.Stances.{stance_at}
use Rattle.barriers.specs.declared.machine_end.MachineEnd.TheVariants as ends
use Rattle.barriers.specs.declared.machine_end.Request.{Request}
use Rattle.barriers.specs.declared.machine_end.Request.TheVariants as requests
use Rattle.barriers.specs.declared.pass.PassRecord.{PassRecord}
use Rattle.barriers.specs.declared.pass.PassMachine.{PassMachine}
use Rattle.barriers.specs.declared.pass.PassMachine.TheVariants as machine
use Rattle.barriers.specs.declared.room.Room.{Room}
use Rattle.barriers.specs.declared.spot.Spot.{Spot}
use Rattle.barriers.specs.Knowns.{Known, Over, Ending, Task, Reads, Writes, Exchanges, at_field, spot_of, task_of, call_of}
use Rattle.barriers.specs.Kits.{Kit, Stepping, Laws, ending_of, said_by, own_of, cycle_at, read_said, write_said, exchange_said}
use Rattle.barriers.specs.NewObjects.{new_of, by_fit, end_of}
use Rattle.barriers.specs.PlainCallLaws.{spot_at}
use Rattle.barriers.specs.Records.{ended_of, started, accessed, operand_word}
use Rattle.barriers.specs.Spots as spots
use Rattle.barriers.specs.Values.{value_of}
use Rattle.gc_cycle.specs.Sequels.{named, name_in}
use Rattle.gc_cycle.specs.Worlds.{or_else, logged}
use Rattle.gc_cycle.specs.Lawful.{IsThreadOf, IsAt, IsAtCommand, IsMakingOf, IsLink, access_of}
use Rattle.gc_cycle.proofs.script.Answering.{Asks, IsAnswered, IsResting, seat, same, held_is, none_told}
use Rattle.gc_cycle.proofs.script.Lists.{below_of_get, get_below, get_past}

-- a poll before the next command, or the retirement after the last
abbrev pub request_at : Thread → ℕ → Request
request_at t count = cond (nat_lt count (length t.commands)) requests.Poll requests.Retire

-- ---- polls and retirements

module _ {R W E M : Type 0} (kit : Kit R W E M) where
  -- a poll stands before any command
  pub at_poll : (l : Sizes) (p : PassRecord R W E) (c : Command) (m : PollMachine) → IsAt kit l p c (machine.Poll m)
  at_poll l p (commands.New dst len) m = tt
  at_poll l p (commands.Get dst obj field) m = tt
  at_poll l p (commands.Put obj field what) m = tt
  at_poll l p (commands.Cas dst obj field expected value) m = tt
  at_poll l p (commands.Copy dst src) m = tt
  at_poll l p (commands.Drop dst) m = tt
  at_poll l p commands.Poll m = tt

  module _ (l : Sizes) (t : Thread) (q : PassRecord R W E) where
    -- a thread in this machine
    in_machine : (told : List Answer) (log : List Ended) (m : PassMachine R W E) → length told ≤ length t.commands → IsResting t q told log → IsAtCommand kit l (record q { machine = m }) (slice_get t.commands (length told)) → ended_of kit m ≡ None
        → IsThreadOf kit l t (record q { machine = m }) told log
    in_machine told log m fit rest at going = record { number = rest.number; tells = rest.tells; fit = fit; at = at; going = going }

    -- it polls again
    pub polls_again : (told : List Answer) (log : List Ended) (c : Command) → slice_get t.commands (length told) ≡ Some c → IsResting t q told log
        → IsThreadOf kit l t (or_else (started kit l q requests.Poll) q) told log
    polls_again told log c at rest =
        let next = or_else (started kit l q requests.Poll) q in
        let here : IsAtCommand kit l next (slice_get t.commands (length told)) = subst (IsAtCommand kit l next) (sym at) (at_poll l next c _) in
        let fit = below_of_get t.commands (length told) c at in
        in_machine told log _ (omega (arith, fit)) rest here refl

    -- it goes on after an answer
    goes_by : (told : List Answer) (log : List Ended) (polls : Bool) → nat_lt (length told) (length t.commands) ≡ polls → length told ≤ length t.commands → IsResting t q told log
        → IsThreadOf kit l t (or_else (started kit l q (cond polls requests.Poll requests.Retire)) q) told log
    goes_by told log true test fit rest =
        let there = get_below t.commands (length told) (ltb-true (length told) (length t.commands) test) in
        polls_again told log there.0 there.1 rest
    goes_by told log false test fit rest =
        let next = or_else (started kit l q requests.Retire) q in
        let past : slice_get t.commands (length told) ≡ None = get_past t.commands (length told) (ltb-false (length told) (length t.commands) test) in
        in_machine told log _ fit rest (subst (IsAtCommand kit l next) (sym past) tt) refl

    pub goes_on : (told : List Answer) (log : List Ended) (made : Bool) (before : ℕ) (answer : Answer) (call : Option Ended) → length told < length t.commands → IsAnswered t q told log made before answer call
        → IsThreadOf kit l t (or_else (started kit l q (request_at t (length told + 1))) q) (told ++ answer ∷ []) (logged log call)
    goes_on told log made before answer call below is =
        let more : length (told ++ answer ∷ []) ≡ length told + 1 = length-append told (answer ∷ []) in
        let rest : IsResting t q (told ++ answer ∷ []) (logged log call) = record { number = is.number; tells = is.tells } in
        subst (λ (n : ℕ). IsThreadOf kit l t (or_else (started kit l q (request_at t n)) q) (told ++ answer ∷ []) (logged log call)) more
        (goes_by (told ++ answer ∷ []) (logged log call) (nat_lt (length (told ++ answer ∷ [])) (length t.commands)) refl (omega (arith, more, below)) rest)

-- ---- how many objects a thread has made

-- a command makes one at most
lens_more : (seat : allowed.Seat) (c : Command) (a : Answer) → length (allowed.lens_after seat c a) ≤ length seat.lens + 1
lens_more seat (commands.New dst len) (answers.Made birth) = omega (arith, length-append seat.lens (len ∷ []))
lens_more seat _ _ = omega arith

lens_few : (quota thread : ℕ) (h : List Call) (s : allowed.Seat) (cs : List Command) (told : List Answer) (ns : List ℕ) (last : allowed.Seat) → allowed.IsRun quota thread h s cs told ns last → length last.lens ≤ length s.lens + length cs
lens_few quota thread h s [] [] [] last r = omega (arith, ap (λ (x : allowed.Seat). length x.lens) r)
lens_few quota thread h s [] [] (m ∷ ns) last r = absurd r
lens_few quota thread h s [] (b ∷ told) ns last r = absurd r
lens_few quota thread h s (d ∷ cs) [] ns last r = absurd r
lens_few quota thread h s (d ∷ cs) (b ∷ told) [] last r = absurd r
lens_few quota thread h s (d ∷ cs) (b ∷ told) (m ∷ ns) last r =
    omega (arith, lens_few quota thread h (allowed.seat_after s d b m) cs told ns last r.1, lens_more s d b)

length-take : {X : Type 0} (n : ℕ) (xs : List X) → length (take n xs) ≤ length xs
length-take zero xs = omega arith
length-take (suc n) [] = omega arith
length-take (suc n) (x ∷ xs) = omega (arith, length-take n xs)

-- ---- objects

module _ (l : Sizes) (view : PassView) (len : ℕ) where
  -- a region is claimed, or the object is placed after the others
  fit_is : (room : Room) (made : ℕ) (region : Option ℕ) (fits : Bool) → (let m = by_fit l view.pass room made len region fits in IsMakingOf l view.pass room made len m × (end_of m ≡ None))
  fit_is room made None fits = (refl, refl)
  fit_is room made (Some region) true = ((refl, refl), refl)
  fit_is room made (Some region) false = (refl, refl)

  making_is : (room : Room) (made : ℕ) → made < 262144 → IsMakingOf l view.pass room made len (new_of l view room made len) × (end_of (new_of l view room made len) ≡ None)
  making_is room made few =
      let more : nat_eq made 262144 ≡ false = ne_eqb made 262144 (omega arith) in
      rw more (fit_is room made room.region (fits_after room.used len))

-- ---- accesses

-- a machine at its field has not ended
runs_at : (k : Known) (s : Spot) → at_field k ≡ Some s → ending_of k ≡ None
runs_at (Over z t end) s at = absurd cc
runs_at k s at = refl

operand_fits : (registers : List FieldWord) (what : Operand) → All IsFieldWord registers → OperandFits what → IsFieldWord (operand_word registers what)
operand_fits registers (operands.Num n) all fits = fits
operand_fits registers (operands.Reg r) all fits = elim (dec_lt r (length registers)) [
  | yes lt ↦ all r (Num 0) lt
  | no ge ↦ let past : length registers ≤ r = omega arith in subst IsFieldWord (sym (get_or_past registers r (Num 0) past)) (lit< tt)
]

module _ {R W E M : Type 0} (kit : Kit R W E M) (by : Stepping R W E M) (laws : Laws kit by) where
  -- what a machine of a call is when it begins
  begun_at : {K End : Type 0} (knows : K → Known) (ended : K → Option End) (said : Ending → Option End) (pass : ℕ) (s : Spot) (t : Task) (m : K) (k : Known) → knows m ≡ k → at_field k ≡ Some s → task_of k ≡ t → ended m ≡ said_by said (ending_of (knows m))
      → (access_of pass (knows m) ≡ call_of pass s t) × (ended m ≡ None) × (ending_of (knows m) ≡ None)
  begun_at knows ended said pass s t m k is at task tells =
      let here : spot_of (knows m) ≡ s = ap spot_of is ∙ spot_at k s at in
      let does : task_of (knows m) ≡ t = ap task_of is ∙ task in
      (ap (λ z. call_of pass z (task_of (knows m))) here ∙ ap (call_of pass s) does, tells ∙ ap (λ x. said_by said (ending_of x)) is ∙ ap (said_by said) (runs_at k s at), ap ending_of is ∙ runs_at k s at)

  module _ (l : Sizes) (t : Thread) (q : PassRecord R W E) (told : List Answer) (log : List Ended) (rest : IsResting t q told log) where
    abbrev At : Command → Type 0
    At c = slice_get t.commands (length told) ≡ Some c

    pub few : length t.commands ≤ 65536 → q.made < 262144
    few short =
        let tells = rest.tells in
        let lens = lens_few t.quota t.number (changes_of log) allowed.first_seat (take (length told) t.commands) told tells.fronts tells.seat tells.run in
        omega (arith, lens, tells.lens_are, length-take (length told) t.commands, short)

    -- what the pass does next, where the machine does what its command asks for
    next_is : (c : Command) (m : PassMachine R W E) → At c → IsAt kit l (record q { machine = m }) c m → ended_of kit m ≡ None → IsThreadOf kit l t (record q { machine = m }) told log
    next_is c m at is going =
        let fit = below_of_get t.commands (length told) c at in
        record {
          number = rest.number;
          tells = rest.tells;
          fit = omega (arith, fit);
          at = subst (IsAtCommand kit l (record q { machine = m })) (sym at) is;
          going = going;
        }

    -- the same of an access of what a register leads to
    accessed_is : (c : Command) (word : FieldWord) (begin : ℕ → ℕ → PassMachine R W E) (next : PassRecord R W E) → option_map (λ (m : PassMachine R W E). record q { machine = m }) (accessed word begin) ≡ Some next
        → ((birth at : ℕ) → word ≡ Link birth at → IsThreadOf kit l t (record q { machine = begin birth at }) told log) → IsThreadOf kit l t next told log
    accessed_is c (Num n) begin next is each = absurd cc
    accessed_is c (Link birth at) begin next is each = subst (λ (x : PassRecord R W E). IsThreadOf kit l t x told log) (same_Some _ _ is) (each birth at refl)

    -- the machine for what is asked
    abbrev Begins : Request → Type 0
    Begins request = (next : PassRecord R W E) → started kit l q request ≡ Some next → IsThreadOf kit l t next told log

    new_begins : (dst len : ℕ) → At (commands.New dst len) → length t.commands ≤ 65536 → Begins (requests.New len)
    new_begins dst len at short next is =
        let view = q.view in
        let making = making_is l view len q.room q.made (few short) in
        let m = machine.New (new_of l view q.room q.made len) in
        subst (λ (x : PassRecord R W E). IsThreadOf kit l t x told log) (same_Some _ _ is)
        (next_is (commands.New dst len) m at making.0 (ap (option_map (λ e. ends.New e)) making.1))

    -- the registers lead to these objects
    link_is : (obj birth at : ℕ) → held_in q.registers obj ≡ Link birth at → IsLink (held_in q.registers obj) × (named q.registers obj ≡ birth)
    link_is obj birth at is = (subst IsLink (sym is) tt, ap name_in is)

    get_begins : (dst obj field : ℕ) → At (commands.Get dst obj field) → Begins (requests.Read obj field)
    get_begins dst obj field at next is =
        accessed_is (commands.Get dst obj field) (held_in q.registers obj) (λ birth address. machine.Read (kit.starts_read l q.view birth address field)) next is (λ birth address link.
        let m = kit.starts_read l q.view birth address field in
        let pass = (let view = q.view in view.pass) in
        let b = laws.begins_read l q.view birth address field in
        let table = laws.table.calls in
        let spot = spots.spot_of birth address field in
        let acked = stance_at (let view = q.view in view.acked) in
        let cycle = cycle_at (let view = q.view in view.acked) in
        let begun = begun_at kit.reads kit.read_ended read_said pass spot Reads m _ b.known (table.begin_at acked cycle (own_of kit.minds q.view) spot Reads) (table.begin_task acked cycle (own_of kit.minds q.view) spot Reads) (laws.reading.tells m) in
        let leads = link_is obj birth address link in
        next_is (commands.Get dst obj field) (machine.Read m) at (leads.0, begun.0 ∙ ap (λ n. calls.Read pass n field) (sym leads.1), begun.2) (ap (option_map (λ e. ends.Read e)) begun.1))

    put_begins : (obj field : ℕ) (what : Operand) → At (commands.Put obj field what) → IsFieldWord (operand_word q.registers what) → Begins (requests.Write obj field what)
    put_begins obj field what at fits next is =
        accessed_is (commands.Put obj field what) (held_in q.registers obj) (λ birth address. machine.Write (kit.starts_write l q.view birth address field (word_of (operand_word q.registers what)))) next is (λ birth address link.
        let word = operand_word q.registers what in
        let m = kit.starts_write l q.view birth address field (word_of word) in
        let pass = (let view = q.view in view.pass) in
        let b = laws.begins_write l q.view birth address field word fits in
        let table = laws.table.calls in
        let spot = spots.spot_of birth address field in
        let acked = stance_at (let view = q.view in view.acked) in
        let cycle = cycle_at (let view = q.view in view.acked) in
        let begun = begun_at kit.writes kit.write_ended write_said pass spot (Writes word) m _ b.known (table.begin_at acked cycle (own_of kit.minds q.view) spot (Writes word)) (table.begin_task acked cycle (own_of kit.minds q.view) spot (Writes word)) (laws.writing.tells m) in
        let leads = link_is obj birth address link in
        next_is (commands.Put obj field what) (machine.Write m) at (leads.0, begun.0 ∙ ap (λ n. calls.Write pass n field (value_of word)) (sym leads.1), begun.2) (ap (option_map (λ e. ends.Write e)) begun.1))

    cas_begins : (dst obj field : ℕ) (expected what : Operand) → At (commands.Cas dst obj field expected what) → IsFieldWord (operand_word q.registers what) → Begins (requests.Exchange obj field expected what)
    cas_begins dst obj field expected what at fits next is =
        accessed_is (commands.Cas dst obj field expected what) (held_in q.registers obj) (λ birth address. machine.Exchange (kit.starts_exchange l q.view birth address field (operand_word q.registers expected) (word_of (operand_word q.registers what)))) next is (λ birth address link.
        let word = operand_word q.registers what in
        let wanted = operand_word q.registers expected in
        let m = kit.starts_exchange l q.view birth address field wanted (word_of word) in
        let pass = (let view = q.view in view.pass) in
        let b = laws.begins_exchange l q.view birth address field wanted word fits in
        let table = laws.table.calls in
        let spot = spots.spot_of birth address field in
        let acked = stance_at (let view = q.view in view.acked) in
        let cycle = cycle_at (let view = q.view in view.acked) in
        let task = Exchanges (value_of wanted) word in
        let begun = begun_at kit.exchanges kit.exchange_ended exchange_said pass spot task m _ b.known (table.begin_at acked cycle (own_of kit.minds q.view) spot task) (table.begin_task acked cycle (own_of kit.minds q.view) spot task) (laws.exchanging.tells m) in
        let leads = link_is obj birth address link in
        next_is (commands.Cas dst obj field expected what) (machine.Exchange m) at (leads.0, begun.0 ∙ ap (λ n. calls.Exchange pass n field (value_of wanted) (value_of word)) (sym leads.1), begun.2) (ap (option_map (λ e. ends.Exchange e)) begun.1))

    pub begins_at : (c : Command) → At c → CommandFits c → All IsFieldWord q.registers → length t.commands ≤ 65536 → (request : Request) → Asks c request → Begins request
    begins_at (commands.New dst len) at fits words short request asks = subst Begins (sym asks) (new_begins dst len at short)
    begins_at (commands.Get dst obj field) at fits words short request asks = subst Begins (sym asks) (get_begins dst obj field at)
    begins_at (commands.Put obj field what) at fits words short request asks = subst Begins (sym asks) (put_begins obj field what at (operand_fits q.registers what words fits.2))
    begins_at (commands.Cas dst obj field expected what) at fits words short request asks = subst Begins (sym asks) (cas_begins dst obj field expected what at (operand_fits q.registers what words fits.4))
    begins_at (commands.Copy dst src) at fits words short request asks = absurd asks
    begins_at (commands.Drop dst) at fits words short request asks = absurd asks
    begins_at commands.Poll at fits words short request asks = absurd asks

    -- ---- a register that leads to no object

    not_object : (word : FieldWord) (begin : ℕ → ℕ → PassMachine R W E) → option_map (λ (m : PassMachine R W E). record q { machine = m }) (accessed word begin) ≡ None → (n : ℕ) × (word ≡ Num n)
    not_object (Num n) begin is = (n, refl)
    not_object (Link birth at) begin is = absurd cc

    not_link : (heap : Heap) (obj field n : ℕ) → held_in q.registers obj ≡ Num n → allowed.IsRefused heap (allowed.held (seat t q told log rest) obj) field answers.NotLink
    not_link heap obj field n is = subst (λ (v : Value). allowed.IsRefused heap v field answers.NotLink) (sym (held_is t q told log rest obj ∙ ap value_of is)) tt

    module _ (heard : IsLog log) where
      abbrev NotLink : Request → Type 0
      NotLink request = started kit l q request ≡ None → IsAnswered t (record q { machine = machine.Idle }) told log false q.seen answers.NotLink None

      get_not : (dst obj field : ℕ) → At (commands.Get dst obj field) → NotLink (requests.Read obj field)
      get_not dst obj field at none =
          let number = not_object (held_in q.registers obj) _ none in
          none_told t q told log rest (commands.Get dst obj field) at heard answers.NotLink q.registers refl (not_link (heap_of log) obj field number.0 number.1) (same t q told log rest) refl

      put_not : (obj field : ℕ) (what : Operand) → At (commands.Put obj field what) → NotLink (requests.Write obj field what)
      put_not obj field what at none =
          let number = not_object (held_in q.registers obj) _ none in
          none_told t q told log rest (commands.Put obj field what) at heard answers.NotLink q.registers refl (not_link (heap_of log) obj field number.0 number.1) (same t q told log rest) refl

      cas_not : (dst obj field : ℕ) (expected what : Operand) → At (commands.Cas dst obj field expected what) → NotLink (requests.Exchange obj field expected what)
      cas_not dst obj field expected what at none =
          let number = not_object (held_in q.registers obj) _ none in
          none_told t q told log rest (commands.Cas dst obj field expected what) at heard answers.NotLink q.registers refl (not_link (heap_of log) obj field number.0 number.1) (same t q told log rest) refl

      pub begins_not_at : (c : Command) → At c → (request : Request) → Asks c request → NotLink request
      begins_not_at (commands.New dst len) at request asks = subst NotLink (sym asks) (λ none. absurd cc)
      begins_not_at (commands.Get dst obj field) at request asks = subst NotLink (sym asks) (get_not dst obj field at)
      begins_not_at (commands.Put obj field what) at request asks = subst NotLink (sym asks) (put_not obj field what at)
      begins_not_at (commands.Cas dst obj field expected what) at request asks = subst NotLink (sym asks) (cas_not dst obj field expected what at)
      begins_not_at (commands.Copy dst src) at request asks = absurd asks
      begins_not_at (commands.Drop dst) at request asks = absurd asks
      begins_not_at commands.Poll at request asks = absurd asks
