-- How many steps a thread takes at most, where nothing is announced and no exchange is lost.
use Rattle.std.proofs.Common.{◌≡◌, ◌≢◌, ℕ, ◌+◌, ◌<◌, Bool, true, false, List, Option, Some, None, refl, arith, lit<}
use Rattle.std.specs.Prelude.{◌==◌, if◌then◌else◌, option_map}
use Rattle.std.proofs.lemmas.Bool.Decides.{nat_tests}
use Rattle.call_steps.specs.declared.step.Step.{Step}
use Rattle.call_steps.specs.declared.step.Step.TheVariants as steps
use Rattle.call_steps.specs.Steps.{applied, found_by}
use Rattle.call_steps.specs.StepLaws.{reading}
use Rattle.heap_words.specs.declared.operand.Operand.{Operand}
use Rattle.heap_script.specs.declared.script.Command.{Command}
use Rattle.heap_script.specs.declared.script.Command.TheVariants as commands
use Rattle.handshakes.specs.declared.poll.Poll.{Poll}
use Rattle.handshakes.specs.declared.poll.PollMachine.{PollMachine}
use Rattle.handshakes.specs.declared.poll.PollMachine.TheVariants as poll
use Rattle.handshakes.specs.declared.retire.RetireMachine.{RetireMachine}
use Rattle.handshakes.specs.declared.retire.RetireMachine.TheVariants as retire
use Rattle.handshakes.specs.Polls as polls
use Rattle.handshakes.specs.Retires as retires
use Rattle.barriers.specs.declared.ends.NewEnd.{NewEnd}
use Rattle.barriers.specs.declared.ends.NewEnd.TheVariants as new_end
use Rattle.barriers.specs.declared.ends.ReadEnd.{ReadEnd}
use Rattle.barriers.specs.declared.ends.ReadEnd.TheVariants as read_end
use Rattle.barriers.specs.declared.ends.WriteEnd.{WriteEnd}
use Rattle.barriers.specs.declared.ends.WriteEnd.TheVariants as write_end
use Rattle.barriers.specs.declared.ends.ExchangeEnd.{ExchangeEnd}
use Rattle.barriers.specs.declared.ends.ExchangeEnd.TheVariants as exchange_end
use Rattle.barriers.specs.declared.ends.TryRefusal.{TryRefusal}
use Rattle.barriers.specs.declared.ends.TryRefusal.TheVariants as refusal
use Rattle.barriers.specs.declared.machine_end.MachineEnd.{MachineEnd}
use Rattle.barriers.specs.declared.machine_end.MachineEnd.TheVariants as ends
use Rattle.barriers.specs.declared.machine_end.Request.{Request}
use Rattle.barriers.specs.declared.machine_end.Request.TheVariants as requests
use Rattle.barriers.specs.declared.new_object.NewMachine.{NewMachine}
use Rattle.barriers.specs.declared.new_object.NewMachine.TheVariants as make
use Rattle.barriers.specs.declared.pass.PassMachine.{PassMachine}
use Rattle.barriers.specs.declared.pass.PassMachine.TheVariants as machine
use Rattle.barriers.specs.Kits.{Kit, Stepping}
use Rattle.barriers.specs.NewObjects as makes
use Rattle.barriers.specs.PassMachines as passes
use Rattle.barriers.specs.Records.{ended_of}
use Rattle.gc_cycle.specs.declared.sequel.Face.{Face}
use Rattle.gc_cycle.specs.declared.sequel.Sequel.{Sequel}
use Rattle.gc_cycle.specs.declared.sequel.Sequel.TheVariants as sequel
use Rattle.gc_cycle.specs.Sequels.{sequel_of, begun, refused, new_told, read_told, write_told, exchange_told}
use Rattle.gc_cycle.proofs.solo.PlaysAlone.{RefusalAnswers, WriteAnswers, ExchangeAnswers, WriteGoesOn, ExchangeGoesOn, ExchangeFinds, PlaysAlone}

-- ---- polls

-- what is announced has been acknowledged, and the pass has no mark
abbrev pub IsAnswered : (ℕ → ℕ) → Poll → Type 0
IsAnswered memory q = (memory q.phase_at ≡ (let view = q.view in view.acked)) × ((let view = q.view in view.mark) ≡ 0)

-- a poll has given its pass no mark
abbrev pub LeavesUnmarked : MachineEnd → Type 0
LeavesUnmarked (ends.Poll end) = (let view = end.view in view.mark) ≡ 0
LeavesUnmarked end = Unit {0}

-- ---- what comes of a step

-- A command takes a poll, and 17 steps or, where it makes an object, one for each region of the quota and four more.
abbrev pub command_steps : ℕ → ℕ
command_steps quota = 18 + quota

-- how many steps are left at most where this is begun: those of the command, and ten for the retirement
abbrev pub most_left : ℕ → Request → ℕ
most_left quota requests.Poll = 28 + quota
most_left quota requests.Retire = 10
most_left quota request = 27 + quota

-- where so many steps were left: a machine begins that has fewer, or the command is answered before the ten of the retirement
abbrev pub IsLess : ℕ → ℕ → Sequel → Type 0
IsLess quota before sequel.Nothing = 0 < before
IsLess quota before (sequel.Starts request) = most_left quota request < before
IsLess quota before (sequel.Answered put answer ended) = 10 < before
IsLess quota before (sequel.Retries why) = ⊥

-- likewise, whatever the command is
abbrev EndsLess : ℕ → ℕ → MachineEnd → Type 0
EndsLess quota before end = (changes : ℕ) (c : Command) (f : Face) → IsLess quota before (sequel_of changes c f end)

-- ---- after the end of a machine

begins_less : (quota : ℕ) (c : Command) (f : Face) → IsLess quota (28 + quota) (begun c f)
begins_less quota (commands.New dst len) f = omega arith
begins_less quota (commands.Get dst obj field) f = omega arith
begins_less quota (commands.Put obj field what) f = omega arith
begins_less quota (commands.Cas dst obj field expected value) f = omega arith
begins_less quota (commands.Copy dst src) f = omega arith
begins_less quota (commands.Drop dst) f = omega arith
begins_less quota commands.Poll f = omega arith

module _ (quota before : ℕ) (some : 10 < before) (changes : ℕ) where
  one : 0 < before
  one = omega (arith, some)

  new_less : (end : NewEnd) (c : Command) (f : Face) → IsLess quota before (new_told changes c f end)
  new_less (new_end.Made birth at room) (commands.New dst len) f = some
  new_less (new_end.Refused why) (commands.New dst len) f = some
  new_less end (commands.Get dst obj field) f = one
  new_less end (commands.Put obj field what) f = one
  new_less end (commands.Cas dst obj field expected value) f = one
  new_less end (commands.Copy dst src) f = one
  new_less end (commands.Drop dst) f = one
  new_less end commands.Poll f = one

  read_less : (end : ReadEnd) (c : Command) (f : Face) → IsLess quota before (read_told c f end)
  read_less (read_end.Got word) (commands.Get dst obj field) f = some
  read_less (read_end.NoField len) (commands.Get dst obj field) f = some
  read_less end (commands.New dst len) f = one
  read_less end (commands.Put obj field what) f = one
  read_less end (commands.Cas dst obj field expected value) f = one
  read_less end (commands.Copy dst src) f = one
  read_less end (commands.Drop dst) f = one
  read_less end commands.Poll f = one

  refused_less : (why : TryRefusal) → RefusalAnswers why → IsLess quota before (refused why)
  refused_less refusal.NotLink answers = some
  refused_less (refusal.NoField len) answers = some
  refused_less (refusal.Raced loaded found) answers = absurd answers
  refused_less (refusal.Busy cycle mark) answers = absurd answers

  put_less : (end : WriteEnd) → WriteAnswers end → (obj field : ℕ) (what : Operand) (f : Face) → IsLess quota before (write_told changes (commands.Put obj field what) f end)
  put_less write_end.Wrote answers obj field what f = some
  put_less (write_end.Refused why) answers obj field what f = refused_less why answers

  write_less : (end : WriteEnd) → WriteAnswers end → (c : Command) (f : Face) → IsLess quota before (write_told changes c f end)
  write_less end answers (commands.New dst len) f = one
  write_less end answers (commands.Get dst obj field) f = one
  write_less end answers (commands.Put obj field what) f = put_less end answers obj field what f
  write_less end answers (commands.Cas dst obj field expected value) f = one
  write_less end answers (commands.Copy dst src) f = one
  write_less end answers (commands.Drop dst) f = one
  write_less end answers commands.Poll f = one

  cas_less : (end : ExchangeEnd) → ExchangeAnswers end → (dst obj field : ℕ) (expected value : Operand) (f : Face) → IsLess quota before (exchange_told changes (commands.Cas dst obj field expected value) f end)
  cas_less exchange_end.Done answers dst obj field expected value f = some
  cas_less (exchange_end.Differs word) answers dst obj field expected value f = some
  cas_less (exchange_end.Refused why) answers dst obj field expected value f = refused_less why answers

  exchange_less : (end : ExchangeEnd) → ExchangeAnswers end → (c : Command) (f : Face) → IsLess quota before (exchange_told changes c f end)
  exchange_less end answers (commands.New dst len) f = one
  exchange_less end answers (commands.Get dst obj field) f = one
  exchange_less end answers (commands.Put obj field what) f = one
  exchange_less end answers (commands.Cas dst obj field expected value) f = cas_less end answers dst obj field expected value f
  exchange_less end answers (commands.Copy dst src) f = one
  exchange_less end answers (commands.Drop dst) f = one
  exchange_less end answers commands.Poll f = one

-- ---- the steps that are left

same_eqb : (a b : ℕ) → a ≡ b → (a == b) ≡ true
same_eqb a b e = grind (arith, nat_tests)

-- until the machine of its command has ended and the pass has retired; the last ten are those of the retirement
abbrev pub left : {R W E M : Type 0} → Kit R W E M → Stepping R W E M → ℕ → PassMachine R W E → ℕ
left kit by quota machine.Idle = 0
left kit by quota (machine.Poll m) = 28 + quota
left kit by quota (machine.New m) = 10 + makes.left_of m
left kit by quota (machine.Read m) = 10 + by.read_left m
left kit by quota (machine.Write m) = 10 + by.write_left m
left kit by quota (machine.Exchange m) = 10 + by.exchange_left m
left kit by quota (machine.Retire m) = retires.left_of m
left kit by quota machine.Retired = 0

module _ {R W E M : Type 0} (kit : Kit R W E M) (by : Stepping R W E M) where
  abbrev pub asks : PassMachine R W E → Step
  asks m = passes.asks_of by.read_asks by.write_asks by.exchange_asks m

  abbrev pub fed : PassMachine R W E → ℕ → PassMachine R W E
  fed m found = passes.fed_of by.read_fed by.write_fed by.exchange_fed m found

  -- ---- what a step relies on

  -- Nothing is announced that the pass has not acknowledged, and it has no mark; and an exchange finds what it may find.
  abbrev pub IsUnhindered : List ℕ → PassMachine R W E → Type 0
  IsUnhindered words (machine.Poll (poll.Phase q)) = IsAnswered (reading words) q
  IsUnhindered words (machine.Poll (poll.Ended end)) = Unit {0}
  IsUnhindered words (machine.Poll m) = ⊥
  IsUnhindered words (machine.Exchange m) = ExchangeFinds kit by words m
  IsUnhindered words m = Unit {0}

  -- memory after a step of this machine
  abbrev pub after : List ℕ → PassMachine R W E → ℕ → ℕ
  after words m = reading (applied (asks m) words)

  module _ (alone : PlaysAlone kit by) where
    -- what is known of memory and of a machine that writes or exchanges
    abbrev pub StandsAlone : (ℕ → ℕ) → PassMachine R W E → Type 0
    StandsAlone memory (machine.Write m) = alone.WriteAlone memory m
    StandsAlone memory (machine.Exchange m) = alone.ExchangeAlone memory m
    StandsAlone memory m = Unit {0}

  module _ (quota : ℕ) (alone : PlaysAlone kit by) where
    -- the machine goes on with fewer steps left, or it has ended so that fewer are left, whatever the command is
    abbrev pub IsOnward : (ℕ → ℕ) → ℕ → PassMachine R W E → Option MachineEnd → Type 0
    IsOnward memory before m None = (left kit by quota m < before) × StandsAlone alone memory m
    IsOnward memory before m (Some end) = EndsLess quota before end × LeavesUnmarked end

    -- what comes of this machine
    abbrev pub GoesOn : (ℕ → ℕ) → ℕ → PassMachine R W E → Type 0
    GoesOn memory before m = IsOnward memory before m (ended_of kit m)

    -- ---- one step

    module _ (memory : ℕ → ℕ) where
      -- a poll that finds its phase acknowledged ends
      polls_once : (q : Poll) (other : PollMachine) (b : Bool) → b ≡ true → (let view = q.view in view.mark) ≡ 0 → GoesOn memory (28 + quota) (machine.Poll (if b then polls.ended q.view q.registers else other))
      polls_once q other true e unmarked = ((λ changes c f. begins_less quota c f), unmarked)
      polls_once q other false e unmarked = absurd cc

      -- the making of an object goes on, or has ended
      makes_once : (before : ℕ) (m : NewMachine) → makes.left_of m < before → GoesOn memory (10 + before) (machine.New m)
      makes_once before (make.Ended end) falls = ((λ changes c f. new_less quota (10 + before) (omega (arith, falls)) changes end c f), tt)
      makes_once before (make.Look plan round) falls = (omega (arith, falls), tt)
      makes_once before (make.Claim plan round) falls = (omega (arith, falls), tt)
      makes_once before (make.Fill at placement) falls = (omega (arith, falls), tt)
      makes_once before (make.Header placement) falls = (omega (arith, falls), tt)

      -- a call goes on, or has ended, with fewer steps left
      reads_once : (before : ℕ) (m : R) (end : Option ReadEnd) → by.read_left m < before → IsOnward memory (10 + before) (machine.Read m) (option_map (λ e. ends.Read e) end)
      reads_once before m None falls = (omega (arith, falls), tt)
      reads_once before m (Some end) falls = ((λ changes c f. read_less quota (10 + before) (omega (arith, falls)) changes end c f), tt)

      writes_once : (before : ℕ) (m : W) (end : Option WriteEnd) → by.write_left m < before → WriteGoesOn (alone.WriteAlone memory m) end
          → IsOnward memory (10 + before) (machine.Write m) (option_map (λ e. ends.Write e) end)
      writes_once before m None falls on = (omega (arith, falls), on)
      writes_once before m (Some end) falls on = ((λ changes c f. write_less quota (10 + before) (omega (arith, falls)) changes end on c f), tt)

      exchanges_once : (before : ℕ) (m : E) (end : Option ExchangeEnd) → by.exchange_left m < before → ExchangeGoesOn (alone.ExchangeAlone memory m) end
          → IsOnward memory (10 + before) (machine.Exchange m) (option_map (λ e. ends.Exchange e) end)
      exchanges_once before m None falls on = (omega (arith, falls), on)
      exchanges_once before m (Some end) falls on = ((λ changes c f. exchange_less quota (10 + before) (omega (arith, falls)) changes end on c f), tt)

      -- a step of a retirement
      retires_on : (m : RetireMachine) (before : ℕ) → retires.left_of m < before → GoesOn memory before (machine.Retire m)
      retires_on (retire.Root r after) before less = (less, tt)
      retires_on (retire.Region r at) before less = (less, tt)
      retires_on (retire.Acknowledge r) before less = (less, tt)
      retires_on retire.Ended before less = ((λ changes c f. less), tt)

    read_goes : (words : List ℕ) (m : R) → by.read_asks m ≢ steps.Ended → GoesOn (after words (machine.Read m)) (10 + by.read_left m) (machine.Read (by.read_fed m (found_by (by.read_asks m) words)))
    read_goes words m on =
        let n : ℕ = found_by (by.read_asks m) words in
        reads_once (after words (machine.Read m)) (by.read_left m) (by.read_fed m n) (kit.read_ended (by.read_fed m n)) (alone.reads_fall m n on)

    write_goes : (words : List ℕ) (m : W) → by.write_asks m ≢ steps.Ended → alone.WriteAlone (reading words) m
        → GoesOn (after words (machine.Write m)) (10 + by.write_left m) (machine.Write (by.write_fed m (found_by (by.write_asks m) words)))
    write_goes words m on stands =
        let n : ℕ = found_by (by.write_asks m) words in
        writes_once (after words (machine.Write m)) (by.write_left m) (by.write_fed m n) (kit.write_ended (by.write_fed m n)) (alone.writes_fall m n on) (alone.writes_on words m on stands)

    exchange_goes : (words : List ℕ) (m : E) → by.exchange_asks m ≢ steps.Ended → ExchangeFinds kit by words m → alone.ExchangeAlone (reading words) m
        → GoesOn (after words (machine.Exchange m)) (10 + by.exchange_left m) (machine.Exchange (by.exchange_fed m (found_by (by.exchange_asks m) words)))
    exchange_goes words m on finds stands =
        let n : ℕ = found_by (by.exchange_asks m) words in
        exchanges_once (after words (machine.Exchange m)) (by.exchange_left m) (by.exchange_fed m n) (kit.exchange_ended (by.exchange_fed m n)) (alone.exchanges_fall m n on) (alone.exchanges_on words m on finds stands)

    -- A step of a machine: fewer steps are left.
    pub goes_on : (words : List ℕ) (m : PassMachine R W E) → asks m ≢ steps.Ended → IsUnhindered words m → StandsAlone alone (reading words) m
        → GoesOn (after words m) (left kit by quota m) (fed m (found_by (asks m) words))
    goes_on words machine.Idle on unhindered stands = absurd (on refl)
    goes_on words machine.Retired on unhindered stands = absurd (on refl)
    goes_on words (machine.Poll (poll.Phase q)) on unhindered stands = polls_once (after words (machine.Poll (poll.Phase q))) q _ _ (same_eqb _ _ unhindered.0) unhindered.1
    goes_on words (machine.Poll (poll.Mark q word)) on unhindered stands = absurd unhindered
    goes_on words (machine.Poll (poll.Follow q word register birth address)) on unhindered stands = absurd unhindered
    goes_on words (machine.Poll (poll.Acknowledge q word mark)) on unhindered stands = absurd unhindered
    goes_on words (machine.Poll (poll.Ended end)) on unhindered stands = absurd (on refl)
    goes_on words (machine.New m) on unhindered stands =
        let n : ℕ = found_by (makes.asks_of m) words in
        makes_once (after words (machine.New m)) (makes.left_of m) (makes.fed_of m n) (makes.falls_of m n on)
    goes_on words (machine.Read m) on unhindered stands = read_goes words m on
    goes_on words (machine.Write m) on unhindered stands = write_goes words m on stands
    goes_on words (machine.Exchange m) on unhindered stands = exchange_goes words m on unhindered stands
    goes_on words (machine.Retire m) on unhindered stands = retires_on (after words (machine.Retire m)) (retires.fed_of m _) (retires.left_of m) (retires.falls_of m _ on)

    -- one that asks for a step has one left
    pub some_left : (m : PassMachine R W E) → asks m ≢ steps.Ended → 0 < left kit by quota m
    some_left machine.Idle on = absurd (on refl)
    some_left machine.Retired on = absurd (on refl)
    some_left (machine.Poll m) on = omega arith
    some_left (machine.New m) on = omega arith
    some_left (machine.Read m) on = omega arith
    some_left (machine.Write m) on = omega arith
    some_left (machine.Exchange m) on = omega arith
    some_left (machine.Retire m) on = omega (arith, retires.falls_of m 0 on)
