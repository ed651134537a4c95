-- What a pass has told, and what it names, where it begins a machine.
use Rattle.std.specs.Prelude.{◌==◌, if◌then◌else◌}
use Rattle.std.proofs.Common.{◌≡◌, ℕ, List, [], ◌++◌, length, Bool, true, false, Option, Some, None, refl, sym, ap, ◌∙◌, subst, arith}
use Rattle.heap_words.specs.Layouts.{Sizes}
use Rattle.heap_words.specs.FieldWords.{IsFieldWord, word_of}
use Rattle.heap_words.specs.declared.operand.Operand.{Operand}
use Rattle.heap_words.specs.declared.operand.Operand.TheVariants as operands
use Rattle.heap_words.specs.declared.field_word.FieldWord.{FieldWord}
use Rattle.heap_words.specs.declared.field_word.FieldWord.TheVariants.{Num, Link}
use Rattle.heap_history.specs.NewestFirst.{Before, len_at}
use Rattle.heap_history.specs.declared.call.Call.{Call}
use Rattle.handshakes.specs.Polls.{poll_of}
use Rattle.handshakes.specs.Polling.{held_in}
use Rattle.handshakes.specs.Retires.{retire_of}
use Rattle.handshakes.specs.declared.pass_view.PassView.{PassView}
use Rattle.handshakes.specs.declared.poll.PollMachine.TheVariants as poll
use Rattle.handshakes.specs.declared.retire.RetireMachine.TheVariants as retire
use Rattle.heap_words.specs.declared.limits.TheConstants.{BIRTHS_OF_PASS}
use Rattle.barriers.specs.NewObjects.{new_of, by_fit}
use Rattle.barriers.specs.declared.room.Room.{Room}
use Rattle.barriers.specs.declared.ends.NewEnd.TheVariants as new_end
use Rattle.barriers.specs.declared.ends.NewRefusal.TheVariants.{BirthsSpent}
use Rattle.barriers.specs.declared.new_object.NewMachine.{NewMachine}
use Rattle.barriers.specs.declared.new_object.NewMachine.TheVariants as make
use Rattle.barriers.specs.declared.spot.Spot.{Spot}
use Rattle.barriers.specs.declared.machine_end.Request.{Request}
use Rattle.barriers.specs.declared.machine_end.Request.TheVariants as requests
use Rattle.barriers.specs.declared.pass.PassMachine.{PassMachine}
use Rattle.barriers.specs.declared.pass.PassMachine.TheVariants as machine
use Rattle.barriers.specs.Spots as spots
use Rattle.barriers.specs.Stances.{Stance, stance_at}
use Rattle.barriers.specs.Says.{FitsTask}
use Rattle.barriers.specs.Values.{value_of}
use Rattle.barriers.specs.Knowns.{Known, Task, Reads, Writes, Exchanges, Follows, Over, at_field, has_found, task_of, word_in}
use Rattle.barriers.specs.PlainCallLaws.{spot_at, hand_at}
use Rattle.barriers.specs.Protocols.{OnHand}
use Rattle.barriers.specs.Kits.{Kit, Stepping, Laws, own_of, cycle_at}
use Rattle.barriers.specs.Records.{operand_word, IsOperand, Fits, accessed, machine_for}
use Rattle.lawful_records.specs.Beginnings.{call_ended, ended_call}
use Rattle.lawful_records.specs.Meetings.{IsThere, IsNamed, FitsHand, HasSpot, HasSpotOf, HasMade, HasMet}
use Rattle.lawful_records.specs.LawfulRecords.{HasTold}
use Rattle.lawful_records.specs.PassTurns.{in_machine}
use Rattle.lawful_records.specs.Records.{view_by, registers_by, known_of}
use Rattle.lawful_records.specs.declared.records.PassKnown.{PassKnown}
use Rattle.lawful_records.proofs.telling.Meeting.{hand_task}
use Rattle.lawful_records.proofs.telling.Telling.{told_quiet}
use Rattle.lawful_records.proofs.telling.Beginning.{idle_ends}

-- ---- a call that is at its field

at_unfound : (k : Known) (z : Spot) → at_field k ≡ Some z → has_found k ≡ true → ⊥
at_unfound (Follows s t m) z at found = let gone : None ≡ Some z = at in cc
at_unfound (Over s t end) z at found = let gone : None ≡ Some z = at in cc
at_unfound k z at found = absurd cc

at_ends : (k : Known) (z : Spot) (pass front : ℕ) → at_field k ≡ Some z → ended_call (Some k) pass front ≡ []
at_ends (Over s t end) z pass front at = absurd (let gone : None ≡ Some z = at in cc)
at_ends k z pass front at = refl

-- where what it is about is there
at_met : (seen : List Call) (k : Known) (z : Spot) (t : Task) → at_field k ≡ Some z → task_of k ≡ t → IsThere seen z.birth → OnHand (λ birth at. IsThere seen birth) (word_in t) → FitsTask t → HasSpot seen k
at_met seen k z t at task there named fits = record {
  len = there.0;
  there = ap (λ (s : Spot). len_at seen s.birth) (spot_at k z at) ∙ there.1;
  inside = λ found. absurd (at_unfound k z at found);
  word = subst (λ (t : Task). OnHand (λ birth at. IsThere seen birth) (word_in t)) (sym task) named;
  hand = subst FitsHand (sym ((hand_at k z at).0 ∙ ap word_in task)) (hand_task t fits);
}

-- ---- the making of an object that begins

-- it has made none yet
abbrev pub IsUnmade : NewMachine → Type 0
IsUnmade (make.Ended (new_end.Made birth at room)) = ⊥
IsUnmade m = Unit {0}

fit_unmade : (l : Sizes) (pass : ℕ) (room : Room) (made len : ℕ) (region : Option ℕ) (fits : Bool) → IsUnmade (by_fit l pass room made len region fits)
fit_unmade l pass room made len (Some region) true = tt
fit_unmade l pass room made len (Some region) false = tt
fit_unmade l pass room made len None fits = tt

by_births : (m : NewMachine) (spent : Bool) → IsUnmade m → IsUnmade (if spent then make.Ended (new_end.Refused BirthsSpent) else m)
by_births m true unmade = tt
by_births m false unmade = unmade

pub new_unmade : (l : Sizes) (view : PassView) (room : Room) (made len : ℕ) → IsUnmade (new_of l view room made len)
new_unmade l view room made len = by_births _ (made == BIRTHS_OF_PASS) (fit_unmade l view.pass room made len room.region _)

-- an access is of the object that the register names
pub accessed_is : {M : Type 0} → (word : FieldWord) (begin : ℕ → ℕ → M) (m : M) → accessed word begin ≡ Some m → (birth : ℕ) × (at : ℕ) × (word ≡ Link birth at) × (begin birth at ≡ m)
accessed_is (Num n) begin m is = absurd (let gone : None ≡ Some m = is in cc)
accessed_is (Link birth at) begin m is = (birth, at, refl, let same : Some (begin birth at) ≡ Some m = is in cc)

module _ {R W E M : Type 0} (kit : Kit R W E M) (by : Stepping R W E M) (laws : Laws kit by) (l : Sizes) (p : PassKnown R W E) where
  -- a machine that has just begun
  pub record HasBegun (m : PassMachine R W E) : Type 0 where
    pub view : view_by m p.pass.view ≡ p.pass.view
    pub registers : registers_by m p.pass.registers ≡ p.pass.registers
    pub ends : call_ended kit (in_machine p m) ≡ []
    pub call : HasSpotOf p.seen (known_of kit m)
    pub made : HasMade p.seen m

  pub operand_named : (what : Operand) → ((i : ℕ) → IsNamed p.seen (held_in p.pass.registers i)) → IsNamed p.seen (operand_word p.pass.registers what)
  operand_named (operands.Num n) named = tt
  operand_named (operands.Reg register) named = named register

  pub operand_packed : (what : Operand) → IsOperand what → ((i : ℕ) → IsFieldWord (held_in p.pass.registers i)) → IsFieldWord (operand_word p.pass.registers what)
  operand_packed (operands.Num n) fits packed = fits
  operand_packed (operands.Reg register) fits packed = packed register

  -- what a call that begins so knows
  begun_at : (k : Known) (acked : Stance) (cycle : ℕ) (own : Option FieldWord) (s : Spot) (t : Task) → k ≡ kit.protocol.begins acked cycle own s t → (at_field k ≡ Some s) × (task_of k ≡ t)
  begun_at k acked cycle own s t is = let table = laws.table in (ap at_field is ∙ table.calls.begin_at acked cycle own s t, ap task_of is ∙ table.calls.begin_task acked cycle own s t)

  new_begun : (m : NewMachine) → IsUnmade m → HasBegun (machine.New m)
  new_begun (make.Ended (new_end.Made birth at room)) unmade = absurd unmade
  new_begun (make.Ended (new_end.Refused why)) unmade = record { view = refl; registers = refl; ends = refl; call = tt; made = tt }
  new_begun (make.Look plan round) unmade = record { view = refl; registers = refl; ends = refl; call = tt; made = tt }
  new_begun (make.Claim plan round) unmade = record { view = refl; registers = refl; ends = refl; call = tt; made = tt }
  new_begun (make.Fill at placement) unmade = record { view = refl; registers = refl; ends = refl; call = tt; made = tt }
  new_begun (make.Header placement) unmade = record { view = refl; registers = refl; ends = refl; call = tt; made = tt }

  -- a call of the object that a register names
  there_by : (obj birth at : ℕ) → ((i : ℕ) → IsNamed p.seen (held_in p.pass.registers i)) → held_in p.pass.registers obj ≡ Link birth at → IsThere p.seen birth
  there_by obj birth at named link = subst (IsNamed p.seen) link (named obj)

  read_begun : (birth at field : ℕ) → IsThere p.seen birth → HasBegun (machine.Read (kit.starts_read l p.pass.view birth at field))
  read_begun birth at field there =
      let view = p.pass.view in
      let z : Spot = spots.spot_of birth at field in
      let k : Known = kit.reads (kit.starts_read l view birth at field) in
      let so = begun_at k (stance_at view.acked) (cycle_at view.acked) (own_of kit.minds view) z Reads (laws.begins_read l view birth at field).known in
      record { view = refl; registers = refl; ends = at_ends k z view.pass (length p.seen) so.0; call = at_met p.seen k z Reads so.0 so.1 there tt tt; made = tt }

  write_begun : (birth at field : ℕ) (word : FieldWord) → IsFieldWord word → IsNamed p.seen word → IsThere p.seen birth → HasBegun (machine.Write (kit.starts_write l p.pass.view birth at field (word_of word)))
  write_begun birth at field word packed named there =
      let view = p.pass.view in
      let z : Spot = spots.spot_of birth at field in
      let k : Known = kit.writes (kit.starts_write l view birth at field (word_of word)) in
      let so = begun_at k (stance_at view.acked) (cycle_at view.acked) (own_of kit.minds view) z (Writes word) (laws.begins_write l view birth at field word packed).known in
      record { view = refl; registers = refl; ends = at_ends k z view.pass (length p.seen) so.0; call = at_met p.seen k z (Writes word) so.0 so.1 there named packed; made = tt }

  exchange_begun : (birth at field : ℕ) (expected word : FieldWord) → IsFieldWord word → IsNamed p.seen word → IsThere p.seen birth → HasBegun (machine.Exchange (kit.starts_exchange l p.pass.view birth at field expected (word_of word)))
  exchange_begun birth at field expected word packed named there =
      let view = p.pass.view in
      let z : Spot = spots.spot_of birth at field in
      let t : Task = Exchanges (value_of expected) word in
      let k : Known = kit.exchanges (kit.starts_exchange l view birth at field expected (word_of word)) in
      let so = begun_at k (stance_at view.acked) (cycle_at view.acked) (own_of kit.minds view) z t (laws.begins_exchange l view birth at field expected word packed).known in
      record { view = refl; registers = refl; ends = at_ends k z view.pass (length p.seen) so.0; call = at_met p.seen k z t so.0 so.1 there named packed; made = tt }

  -- what is asked of the pass has begun
  pub has_begun : (request : Request) (m : PassMachine R W E) → Fits request → ((i : ℕ) → IsFieldWord (held_in p.pass.registers i)) → ((i : ℕ) → IsNamed p.seen (held_in p.pass.registers i)) → machine_for kit l p.pass request ≡ Some m → HasBegun m
  has_begun requests.Poll m fits packed named is =
      subst HasBegun (let same : machine.Poll (poll.Phase (poll_of p.pass.view p.pass.registers)) ≡ m = cc in same) (record { view = refl; registers = refl; ends = refl; call = tt; made = tt })
  has_begun (requests.New len) m fits packed named is =
      subst HasBegun (let same : machine.New (new_of l p.pass.view p.pass.room p.pass.made len) ≡ m = cc in same) (new_begun (new_of l p.pass.view p.pass.room p.pass.made len) (new_unmade l p.pass.view p.pass.room p.pass.made len))
  has_begun (requests.Read obj field) m fits packed named is =
      let a = accessed_is (held_in p.pass.registers obj) (λ birth at. machine.Read (kit.starts_read l p.pass.view birth at field)) m is in
      subst HasBegun a.3 (read_begun a.0 a.1 field (there_by obj a.0 a.1 named a.2))
  has_begun (requests.Write obj field what) m fits packed named is =
      let word : FieldWord = operand_word p.pass.registers what in
      let a = accessed_is (held_in p.pass.registers obj) (λ birth at. machine.Write (kit.starts_write l p.pass.view birth at field (word_of word))) m is in
      subst HasBegun a.3 (write_begun a.0 a.1 field word (operand_packed what fits.1 packed) (operand_named what named) (there_by obj a.0 a.1 named a.2))
  has_begun (requests.Exchange obj field expected what) m fits packed named is =
      let word : FieldWord = operand_word p.pass.registers what in
      let from : FieldWord = operand_word p.pass.registers expected in
      let a = accessed_is (held_in p.pass.registers obj) (λ birth at. machine.Exchange (kit.starts_exchange l p.pass.view birth at field from (word_of word))) m is in
      subst HasBegun a.3 (exchange_begun a.0 a.1 field from word (operand_packed what fits.2 packed) (operand_named what named) (there_by obj a.0 a.1 named a.2))
  has_begun requests.Retire m fits packed named is =
      subst HasBegun (let same : machine.Retire (retire.Root (retire_of l p.pass.view.pass p.pass.registers p.pass.room.region) 7) ≡ m = cc in same) (record { view = refl; registers = refl; ends = refl; call = tt; made = tt })

  idle_number : (m : PassMachine R W E) → m ≡ machine.Idle → (let view = view_by m p.pass.view in view.pass) ≡ (let view = p.pass.view in view.pass)
  idle_number m idle = ap (λ (x : PassMachine R W E). let view = view_by x p.pass.view in view.pass) idle

  pub told_begun : (h : List Call) (m : PassMachine R W E) → p.pass.machine ≡ machine.Idle → HasBegun m → Before p.seen h → HasTold kit h p → HasTold kit h (in_machine p m)
  told_begun h m idle begun past told =
      told_quiet kit h p (in_machine p m)
      (record { number = ap (λ (v : PassView). v.pass) begun.view ∙ sym (idle_number p.pass.machine idle); mine = refl; count = told.count; later = omega arith; past = past })
      (ap (λ es. p.ended ++ es) (begun.ends ∙ sym (idle_ends kit p idle))) told

  pub met_begun : (m : PassMachine R W E) → ((i : ℕ) → IsNamed p.seen (held_in p.pass.registers i)) → HasBegun m → HasMet kit (in_machine p m)
  met_begun m named begun = record {
    registers = λ i. subst (λ (registers : List FieldWord). IsNamed p.seen (held_in registers i)) (sym begun.registers) (named i);
    call = begun.call;
    made = begun.made;
  }
