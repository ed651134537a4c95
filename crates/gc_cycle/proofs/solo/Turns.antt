-- What a turn of a thread leaves it to do, where no other party takes one.
use Rattle.std.proofs.Common.{◌≡◌, ◌≢◌, ℕ, ◌+◌, ◌-◌, ◌*◌, ◌<◌, ◌≤◌, Bool, true, false, List, [], ◌∷◌, ◌++◌, length, get_or, set, Option, Some, None, refl, sym, ap, ◌∙◌, subst, arith, lit≤, length-append, length-set, get_or-set_same, get_or-set_other}
use Rattle.std.specs.Prelude.{◌==◌, nat_lt, if◌then◌else◌, option_map}
use Rattle.std.proofs.Math.Nat.{mul-add}
use Rattle.std.proofs.lemmas.Bool.Decides.{nat_tests}
use Rattle.call_steps.specs.declared.step.Step.TheVariants as steps
use Rattle.call_steps.specs.StepLaws.{reading}
use Rattle.heap_words.specs.declared.field_word.FieldWord.{FieldWord}
use Rattle.heap_words.specs.declared.field_word.FieldWord.TheVariants.{Num, Link}
use Rattle.heap_words.specs.declared.operand.Operand.{Operand}
use Rattle.heap_words.specs.FieldWords.{word_of}
use Rattle.heap_words.specs.Layouts.{Sizes}
use Rattle.heap_words.specs.Packing.{fits_after}
use Rattle.heap_history.specs.declared.call.Ended.{Ended}
use Rattle.heap_script.specs.Commands.{commands_at}
use Rattle.heap_script.specs.TellingSteps.{answers_at}
use Rattle.heap_script.specs.declared.script.Command.{Command}
use Rattle.heap_script.specs.declared.answer.Answer.{Answer}
use Rattle.heap_script.specs.declared.answer.Answer.TheVariants as answers
use Rattle.handshakes.specs.Polling.{held_in}
use Rattle.barriers.specs.declared.ends.NewEnd.TheVariants as new_end
use Rattle.barriers.specs.declared.machine_end.MachineEnd.{MachineEnd}
use Rattle.barriers.specs.declared.machine_end.MachineEnd.TheVariants as ends
use Rattle.barriers.specs.declared.machine_end.Request.{Request}
use Rattle.barriers.specs.declared.machine_end.Request.TheVariants as requests
use Rattle.barriers.specs.declared.new_object.NewMachine.{NewMachine}
use Rattle.barriers.specs.declared.new_object.NewMachine.TheVariants as make
use Rattle.barriers.specs.declared.ends.NewRefusal.TheVariants.{BirthsSpent}
use Rattle.heap_words.specs.declared.limits.TheConstants.{BIRTHS_OF_PASS}
use Rattle.barriers.specs.declared.pass.PassRecord.{PassRecord}
use Rattle.barriers.specs.declared.pass.PassMachine.{PassMachine}
use Rattle.barriers.specs.declared.pass.PassMachine.TheVariants as machine
use Rattle.barriers.specs.declared.room.Room.{Room}
use Rattle.barriers.specs.Kits.{Kit, Stepping}
use Rattle.barriers.specs.NewObjects as makes
use Rattle.barriers.specs.Records.{ended_of, with_end, started, accessed, operand_word}
use Rattle.gc_cycle.specs.declared.sequel.Sequel.{Sequel}
use Rattle.gc_cycle.specs.declared.sequel.Sequel.TheVariants as sequel
use Rattle.gc_cycle.specs.Sequels.{sequel_of}
use Rattle.gc_cycle.specs.Worlds.{State, nobody, pass_at, answered, changes_now, face_of, put_pass, or_else, with_put, in_front, IsThere, asks_at, fed_at, stepped, taken, answered_with, access_begun, followed_at, concluded_by, settled_by, command_at}
use Rattle.gc_cycle.proofs.solo.Left.{left, command_steps, StandsAlone, IsUnhindered, LeavesUnmarked, most_left, IsLess, IsOnward, some_left, goes_on}
use Rattle.gc_cycle.proofs.solo.PlaysAlone.{PlaysAlone}

module _ {R W E M : Type 0} where
  abbrev pub machine_at : State R W E M → ℕ → PassMachine R W E
  machine_at w party = let p = pass_at w party in p.machine

-- the steps of a thread until it has ended: those of each command after the one that it is at, and those that are left of this one
abbrev pub left_with : ℕ → ℕ → ℕ → ℕ → ℕ
left_with quota commands answers left = command_steps quota * (commands - answers - 1) + left

-- places of numbers that count from 1
set_here : {X : Type 0} (xs : List X) (p : ℕ) (x d : X) → 1 ≤ p → p ≤ length xs → get_or (set xs (p - 1) x) (p - 1) d ≡ x
set_here xs p x d least most = get_or-set_same xs (p - 1) x d (omega (arith, least, most))

set_there : {X : Type 0} (xs : List X) (p q : ℕ) (x d : X) → 1 ≤ p → 1 ≤ q → q ≢ p → get_or (set xs (p - 1) x) (q - 1) d ≡ get_or xs (q - 1) d
set_there xs p q x d least other apart = get_or-set_other xs (p - 1) (q - 1) x d (λ e. apart (omega (arith, least, other, e)))

-- ---- a machine that begins

-- there is room in its region, or it claims one
fits_left : (l : Sizes) (pass made len : ℕ) (room : Room) (region : Option ℕ) (fits : Bool) → makes.left_of (makes.by_fit l pass room made len region fits) ≤ l.quota + 4
fits_left l pass made len room None fits = omega arith
fits_left l pass made len room (Some region) true = omega arith
fits_left l pass made len room (Some region) false = omega arith

new_left : (most : ℕ) (spent : Bool) (m : NewMachine) → makes.left_of m ≤ most → makes.left_of (if spent then make.Ended (new_end.Refused BirthsSpent) else m) ≤ most
new_left most true m few = omega arith
new_left most false m few = few

-- none has less than the retirement
least_left : (quota : ℕ) (request : Request) → 10 ≤ most_left quota request
least_left quota requests.Poll = omega arith
least_left quota (requests.New len) = omega arith
least_left quota (requests.Read obj field) = omega arith
least_left quota (requests.Write obj field what) = omega arith
least_left quota (requests.Exchange obj field expected what) = omega arith
least_left quota requests.Retire = lit≤ tt

module _ {R W E : Type 0} where
  -- the pass has no mark
  abbrev pub IsUnmarked : PassRecord R W E → Type 0
  IsUnmarked r = (let view = r.view in view.mark) ≡ 0

  -- nor has it one after such an end
  still_unmarked : (r : PassRecord R W E) (end : MachineEnd) → IsUnmarked r → LeavesUnmarked end → IsUnmarked (with_end r end)
  still_unmarked r (ends.Poll end) was leaves = leaves
  still_unmarked r (ends.New (new_end.Made birth at room)) was leaves = was
  still_unmarked r (ends.New (new_end.Refused why)) was leaves = was
  still_unmarked r (ends.Read end) was leaves = was
  still_unmarked r (ends.Write end) was leaves = was
  still_unmarked r (ends.Exchange end) was leaves = was
  still_unmarked r ends.Retire was leaves = refl

module _ {R W E M : Type 0} (kit : Kit R W E M) (by : Stepping R W E M) where
  abbrev pub to_do : State R W E M → ℕ → ℕ
  to_do w party = left_with w.layout.quota (length (commands_at w.commands party)) (answered w party) (left kit by w.layout.quota (machine_at w party))

  -- if it begins, it has fewer steps left
  abbrev IsBegun : PlaysAlone kit by → (ℕ → ℕ) → ℕ → ℕ → Option (PassRecord R W E) → Type 0
  IsBegun alone memory quota before None = Unit {0}
  IsBegun alone memory quota before (Some r) = (left kit by quota r.machine < before) × StandsAlone kit by alone memory r.machine

  module _ (alone : PlaysAlone kit by) (memory : ℕ → ℕ) (before : ℕ) (l : Sizes) (r : PassRecord R W E) (unmarked : IsUnmarked r) where
    read_begun : (word : FieldWord) (field : ℕ) → 27 + l.quota < before
        → IsBegun alone memory l.quota before (option_map (λ m. record r { machine = m }) (accessed word (λ birth at. machine.Read (kit.starts_read l r.view birth at field))))
    read_begun (Num n) field less = tt
    read_begun (Link birth at) field less = (omega (arith, less, alone.read_few l r.view birth at field), tt)

    write_begun : (word : FieldWord) (field : ℕ) (what : Operand) → 27 + l.quota < before
        → IsBegun alone memory l.quota before (option_map (λ m. record r { machine = m }) (accessed word (λ birth at. machine.Write (kit.starts_write l r.view birth at field (word_of (operand_word r.registers what))))))
    write_begun (Num n) field what less = tt
    write_begun (Link birth at) field what less =
        let put : ℕ = word_of (operand_word r.registers what) in
        (omega (arith, less, alone.write_few l r.view birth at field put), alone.write_first memory l r.view birth at field put unmarked)

    exchange_begun : (word : FieldWord) (field : ℕ) (expected what : Operand) → 27 + l.quota < before
        → IsBegun alone memory l.quota before (option_map (λ m. record r { machine = m }) (accessed word (λ birth at. machine.Exchange (kit.starts_exchange l r.view birth at field (operand_word r.registers expected) (word_of (operand_word r.registers what))))))
    exchange_begun (Num n) field expected what less = tt
    exchange_begun (Link birth at) field expected what less =
        let put : ℕ = word_of (operand_word r.registers what) in
        let wanted : FieldWord = operand_word r.registers expected in
        (omega (arith, less, alone.exchange_few l r.view birth at field wanted put), alone.exchange_first memory l r.view birth at field wanted put unmarked)

    request_begun : (request : Request) → most_left l.quota request < before → IsBegun alone memory l.quota before (started kit l r request)
    request_begun requests.Poll less = (less, tt)
    request_begun (requests.New len) less =
        let m : NewMachine = makes.by_fit l r.view.pass r.room r.made len r.room.region (fits_after r.room.used len) in
        let few : makes.left_of (makes.new_of l r.view r.room r.made len) ≤ l.quota + 4 = new_left (l.quota + 4) (r.made == BIRTHS_OF_PASS) m (fits_left l r.view.pass r.made len r.room r.room.region (fits_after r.room.used len)) in
        (omega (arith, few, less), tt)
    request_begun (requests.Read obj field) less = read_begun (held_in r.registers obj) field less
    request_begun (requests.Write obj field what) less = write_begun (held_in r.registers obj) field what less
    request_begun (requests.Exchange obj field expected what) less = exchange_begun (held_in r.registers obj) field expected what less
    request_begun requests.Retire less = (less, tt)

  -- after a command there are the steps of each that is left, and ten to retire
  pub begins_left : (quota size count : ℕ) (l : Sizes) (r : PassRecord R W E) (b : Bool) → nat_lt count size ≡ b
      → left_with quota size count (left kit by quota (or_else (started kit l r (if b then requests.Poll else requests.Retire)) r).machine) ≤ command_steps quota * (size - count) + 10
  begins_left quota size count l r true e =
      let below : count < size = grind (arith, nat_tests) in
      let one : size - count ≡ size - count - 1 + 1 = omega (arith, below) in
      omega (arith, below, ap (λ (k : ℕ). command_steps quota * k) one, mul-add (command_steps quota) (size - count - 1) 1)
  begins_left quota size count l r false e =
      let past : size ≤ count = grind (arith, nat_tests) in
      let none : size - count - 1 ≡ 0 = omega (arith, past) in
      omega (arith, ap (λ (k : ℕ). command_steps quota * k) none)

  module _ (alone : PlaysAlone kit by) where
    begins_alone : (memory : ℕ → ℕ) (l : Sizes) (r : PassRecord R W E) (b : Bool) → StandsAlone kit by alone memory (or_else (started kit l r (if b then requests.Poll else requests.Retire)) r).machine
    begins_alone memory l r true = tt
    begins_alone memory l r false = tt

    -- a pass whose machine has ended is between two machines, or has retired
    abbrev IsBetween : (ℕ → ℕ) → PassMachine R W E → Type 0
    IsBetween memory m = ((quota : ℕ) → left kit by quota m ≡ 0) × StandsAlone kit by alone memory m

    between : (memory : ℕ → ℕ) (r : PassRecord R W E) (end : MachineEnd) → IsBetween memory (with_end r end).machine
    between memory r (ends.Poll end) = ((λ quota. refl), tt)
    between memory r (ends.New (new_end.Made birth at room)) = ((λ quota. refl), tt)
    between memory r (ends.New (new_end.Refused why)) = ((λ quota. refl), tt)
    between memory r (ends.Read end) = ((λ quota. refl), tt)
    between memory r (ends.Write end) = ((λ quota. refl), tt)
    between memory r (ends.Exchange end) = ((λ quota. refl), tt)
    between memory r ends.Retire = ((λ quota. refl), tt)

  -- ---- what comes of a step

  -- The thread has less to do than it had with so many steps of its machine, which nobody has raced, and all else is where it was.
  pub record Goes (alone : PlaysAlone kit by) (w : State R W E M) (p before : ℕ) (new : State R W E M) : Type 0 where
    pub less : to_do new p < left_with w.layout.quota (length (commands_at w.commands p)) (answered w p) before
    pub stands : StandsAlone kit by alone (reading new.words) (machine_at new p)
    pub passes : (q : ℕ) → 1 ≤ q → q ≢ p → pass_at new q ≡ pass_at w q
    pub answers : (q : ℕ) → 1 ≤ q → q ≢ p → answers_at new.told.answers q ≡ answers_at w.told.answers q
    pub commands : new.commands ≡ w.commands
    pub layout : new.layout ≡ w.layout
    pub collector : new.collector ≡ w.collector

  module _ (alone : PlaysAlone kit by) (w : State R W E M) (p : ℕ) (there : IsThere w p) (before : ℕ) where
    -- what it is known as
    abbrev Stands : PassMachine R W E → Type 0
    Stands m = StandsAlone kit by alone (reading w.words) m

    abbrev size : ℕ
    size = length (commands_at w.commands p)

    abbrev quota : ℕ
    quota = w.layout.quota

    -- a record is put in its place
    puts : (r : PassRecord R W E) → left kit by quota r.machine < before → Stands r.machine → Goes alone w p before (put_pass w p r)
    puts r less stands =
        let here : get_or (set w.passes (p - 1) r) (p - 1) nobody ≡ r = set_here w.passes p r nobody there.least there.passes in
        record {
          less = subst (λ (k : PassRecord R W E). left_with quota size (answered w p) (left kit by quota k.machine) < left_with quota size (answered w p) before) (sym here) (omega (arith, less));
          stands = subst (λ (k : PassRecord R W E). Stands k.machine) (sym here) stands;
          passes = λ q least apart. set_there w.passes p q r nobody there.least least apart;
          answers = λ q least apart. refl;
          commands = refl;
          layout = refl;
          collector = refl;
        }

    -- a command is answered
    answers_on : (r : PassRecord R W E) (a : Answer) (call : Option Ended) → 10 < before → Goes alone w p before (answered_with kit w p r a call)
    answers_on r a call some =
        let next : PassRecord R W E = or_else (started kit w.layout r (if nat_lt (answered w p + 1) size then requests.Poll else requests.Retire)) r in
        let here : get_or (set w.passes (p - 1) next) (p - 1) nobody ≡ next = set_here w.passes p next nobody there.least there.passes in
        let told : length (get_or (set w.told.answers (p - 1) (answers_at w.told.answers p ++ a ∷ [])) (p - 1) []) ≡ answered w p + 1 =
        ap length (set_here w.told.answers p (answers_at w.told.answers p ++ a ∷ []) [] there.least there.answers) ∙ length-append (answers_at w.told.answers p) (a ∷ []) in
        let after : left_with quota size (answered w p + 1) (left kit by quota next.machine) ≤ command_steps quota * (size - (answered w p + 1)) + 10 = begins_left quota size (answered w p + 1) w.layout r (nat_lt (answered w p + 1) size) refl in
        let same : size - (answered w p + 1) ≡ size - answered w p - 1 = omega arith in
        let least : left_with quota size (answered w p + 1) (left kit by quota next.machine) < left_with quota size (answered w p) before = omega (arith, after, some, ap (λ (k : ℕ). command_steps quota * k) same) in
        let machine_here = subst (λ (k : PassRecord R W E). left_with quota size (answered w p + 1) (left kit by quota k.machine) < left_with quota size (answered w p) before) (sym here) least in
        record {
          less = subst (λ (n : ℕ). left_with quota size n (left kit by quota (get_or (set w.passes (p - 1) next) (p - 1) nobody).machine) < left_with quota size (answered w p) before) (sym told) machine_here;
          stands = subst (λ (k : PassRecord R W E). Stands k.machine) (sym here) (begins_alone alone (reading w.words) w.layout r (nat_lt (answered w p + 1) size));
          passes = λ q least apart. set_there w.passes p q next nobody there.least least apart;
          answers = λ q least apart. set_there w.told.answers p q (answers_at w.told.answers p ++ a ∷ []) [] there.least least apart;
          commands = refl;
          layout = refl;
          collector = refl;
        }

    begins_on : (r : PassRecord R W E) (next : Option (PassRecord R W E)) → 10 < before → IsBegun alone (reading w.words) quota before next → Goes alone w p before (access_begun kit w p r next)
    begins_on r None some begun = answers_on r answers.NotLink None some
    begins_on r (Some next) some begun = puts next begun.0 begun.1

    follows_on : (r : PassRecord R W E) (s : Sequel) → IsUnmarked r → IsBetween alone (reading w.words) r.machine → IsLess quota before s → Goes alone w p before (followed_at kit w p r s)
    follows_on r sequel.Nothing unmarked rests less = puts r (omega (arith, rests.0 quota, less)) rests.1
    follows_on r (sequel.Starts request) unmarked rests less =
        begins_on r (started kit w.layout r request) (omega (arith, least_left quota request, less)) (request_begun alone (reading w.words) before w.layout r unmarked request less)
    follows_on r (sequel.Answered put answer ended) unmarked rests less = answers_on (in_front (with_put r put) ended) answer ended less
    follows_on r (sequel.Retries why) unmarked rests less = absurd less

    module _ (unmarked : IsUnmarked (pass_at w p)) (some : 0 < before) where
      concludes_on : (end : MachineEnd) (command : Option Command) → IsOnward kit by quota alone (reading w.words) before (machine_at w p) (Some end)
          → Goes alone w p before (concluded_by kit w p (with_end (pass_at w p) end) end command)
      concludes_on end None onward = let rests = between alone (reading w.words) (pass_at w p) end in puts (with_end (pass_at w p) end) (omega (arith, rests.0 quota, some)) rests.1
      concludes_on end (Some command) onward =
          let r : PassRecord R W E = with_end (pass_at w p) end in
          follows_on r (sequel_of (changes_now w) command (face_of r) end) (still_unmarked (pass_at w p) end unmarked onward.1) (between alone (reading w.words) (pass_at w p) end) (onward.0 (changes_now w) command (face_of r))

      settles_on : (end : Option MachineEnd) → IsOnward kit by quota alone (reading w.words) before (machine_at w p) end → Goes alone w p before (settled_by kit w p end)
      settles_on None onward = record {
        less = omega (arith, onward.0);
        stands = onward.1;
        passes = λ q least apart. refl;
        answers = λ q least apart. refl;
        commands = refl;
        layout = refl;
        collector = refl;
      }
      settles_on (Some end) onward = concludes_on end (command_at w p) onward

  -- ---- a turn

  -- where nothing is announced yet
  pub turn_goes : (alone : PlaysAlone kit by) (w : State R W E M) (p : ℕ) → IsThere w p → asks_at kit by w p ≢ steps.Ended → IsUnmarked (pass_at w p) → IsUnhindered kit by w.words (machine_at w p) → StandsAlone kit by alone (reading w.words) (machine_at w p)
      → Goes alone w p (left kit by w.layout.quota (machine_at w p)) (taken kit by w p)
  turn_goes alone w p there on unmarked unhindered stands =
      let m : PassMachine R W E = machine_at w p in
      let x : State R W E M = stepped kit by w p in
      let f : PassRecord R W E = fed_at kit by w p in
      let here : pass_at x p ≡ f = set_here w.passes p f nobody there.least there.passes in
      let onward : IsOnward kit by w.layout.quota alone (reading x.words) (left kit by w.layout.quota m) (machine_at x p) (ended_of kit (machine_at x p)) =
      subst (λ (k : PassRecord R W E). IsOnward kit by w.layout.quota alone (reading x.words) (left kit by w.layout.quota m) k.machine (ended_of kit k.machine)) (sym here) (goes_on kit by w.layout.quota alone w.words m on unhindered stands) in
      let at : IsThere x p = record { least = there.least; passes = omega (arith, there.passes, length-set w.passes (p - 1) f); commands = there.commands; answers = there.answers } in
      let comes = settles_on alone x p at (left kit by w.layout.quota m) (subst IsUnmarked (sym here) unmarked) (some_left kit by w.layout.quota alone m on) (ended_of kit (machine_at x p)) onward in
      record {
        less = comes.less;
        stands = comes.stands;
        passes = λ q least apart. comes.passes q least apart ∙ set_there w.passes p q f nobody there.least least apart;
        answers = comes.answers;
        commands = comes.commands;
        layout = comes.layout;
        collector = comes.collector;
      }
