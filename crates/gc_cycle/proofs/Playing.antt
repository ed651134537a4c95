-- Turns of the parties, one after another.
use Rattle.std.proofs.Common.{◌≡◌, ◌≢◌, ℕ, zero, suc, ◌+◌, ◌-◌, ◌<◌, ◌≤◌, Bool, true, false, List, length, get_or, drop, Option, Some, None, cond, refl, sym, ap, ◌∙◌, arith, add-one, drop-cons, length-set}
use Rattle.std.proofs.lemmas.Bool.{ltb-false}
use Rattle.std.proofs.lemmas.List.{get_or_default}
use Rattle.heap_words.specs.Layouts.{IsPass}
use Rattle.heap_script.specs.declared.script.Command.{Command}
use Rattle.call_steps.specs.declared.step.Step.{Step}
use Rattle.call_steps.specs.declared.step.Step.TheVariants as steps
use Rattle.barriers.specs.declared.machine_end.MachineEnd.{MachineEnd}
use Rattle.barriers.specs.declared.pass.PassRecord.{PassRecord}
use Rattle.barriers.specs.Kits.{Kit, Stepping}
use Rattle.barriers.specs.Records.{started, ended_of, with_end}
use Rattle.gc_cycle.specs.declared.sequel.Sequel.{Sequel}
use Rattle.gc_cycle.specs.declared.sequel.Sequel.TheVariants as sequel
use Rattle.gc_cycle.specs.declared.world.Turn.{Turn}
use Rattle.gc_cycle.specs.declared.world.Turn.TheVariants as turns
use Rattle.gc_cycle.specs.Sequels.{sequel_of}
use Rattle.gc_cycle.specs.Worlds.{State, nobody, pass_at, asks_at, command_at, changes_now, face_of, is_ended, is_collector, IsParty, next_of, can_step, access_begun, followed_at, concluded_by, settled_by, stepped, taken, collector_asks, collected, turn_of, played, steps_in}
use Rattle.gc_cycle.specs.Runs.{alone}

-- ---- a step

pub is_ended-true : (step : Step) → is_ended step ≡ true → step ≡ steps.Ended
is_ended-true (steps.Load at) e = absurd cc
is_ended-true (steps.Store at put) e = absurd cc
is_ended-true (steps.Exchange at want put) e = absurd cc
is_ended-true (steps.Add at by) e = absurd cc
is_ended-true (steps.Sub at by) e = absurd cc
is_ended-true steps.Ended e = refl

pub is_ended-false : (step : Step) → is_ended step ≡ false → step ≢ steps.Ended
is_ended-false step e is = absurd (cc (e, is))

-- ---- the record of a party

-- the record that stands at its place is the party's
pub stands_at : {R W E M : Type 0} (w : State R W E M) (party : ℕ) (passes : List (PassRecord R W E)) → passes ≡ w.passes → (x : PassRecord R W E) → x ≡ get_or passes (party - 1) x → 1 ≤ party → party ≤ length w.passes → x ≡ pass_at w party
stands_at w party passes same x here least most =
    here ∙ ap (λ (ps : List (PassRecord _ _ _)). get_or ps (party - 1) x) same ∙ get_or_default w.passes (party - 1) x nobody (omega (arith, least, most))

-- ---- the script stays, and no party comes or goes

pub record Stays {R W E M : Type 0} (w new : State R W E M) : Type 0 where
  pub layout : new.layout ≡ w.layout
  pub commands : new.commands ≡ w.commands
  pub passes : length new.passes ≡ length w.passes

pub still : {R W E M : Type 0} (w : State R W E M) → Stays w w
still w = record { layout = refl; commands = refl; passes = refl }

pub later : {R W E M : Type 0} (u v w : State R W E M) → Stays u v → Stays v w → Stays u w
later u v w first second = record { layout = second.layout ∙ first.layout; commands = second.commands ∙ first.commands; passes = second.passes ∙ first.passes }

module _ {R W E M : Type 0} (kit : Kit R W E M) where
  begun_stays : (w : State R W E M) (party : ℕ) (p : PassRecord R W E) (next : Option (PassRecord R W E)) → Stays w (access_begun kit w party p next)
  begun_stays w party p None = record { layout = refl; commands = refl; passes = length-set w.passes (party - 1) _ }
  begun_stays w party p (Some next) = record { layout = refl; commands = refl; passes = length-set w.passes (party - 1) next }

  followed_stays : (w : State R W E M) (party : ℕ) (p : PassRecord R W E) (s : Sequel) → Stays w (followed_at kit w party p s)
  followed_stays w party p sequel.Nothing = record { layout = refl; commands = refl; passes = length-set w.passes (party - 1) p }
  followed_stays w party p (sequel.Starts request) = begun_stays w party p (started kit w.layout p request)
  followed_stays w party p (sequel.Answered put answer ended) = record { layout = refl; commands = refl; passes = length-set w.passes (party - 1) _ }
  followed_stays w party p (sequel.Retries why) = record { layout = refl; commands = refl; passes = length-set w.passes (party - 1) _ }

  concluded_stays : (w : State R W E M) (party : ℕ) (p : PassRecord R W E) (end : MachineEnd) (command : Option Command) → Stays w (concluded_by kit w party p end command)
  concluded_stays w party p end None = record { layout = refl; commands = refl; passes = length-set w.passes (party - 1) p }
  concluded_stays w party p end (Some command) = followed_stays w party p (sequel_of (changes_now w) command (face_of p) end)

  settled_stays : (w : State R W E M) (party : ℕ) (end : Option MachineEnd) → Stays w (settled_by kit w party end)
  settled_stays w party None = still w
  settled_stays w party (Some end) = concluded_stays w party (with_end (pass_at w party) end) end (command_at w party)

module _ {R W E M : Type 0} (kit : Kit R W E M) (by : Stepping R W E M) where
  taken_stays : (w : State R W E M) (party : ℕ) → Stays w (taken kit by w party)
  taken_stays w party =
      let next = stepped kit by w party in
      let first : Stays w next = record { layout = refl; commands = refl; passes = length-set w.passes (party - 1) _ } in
      later w next _ first (settled_stays kit next party (let p = pass_at next party in ended_of kit p.machine))

  by_choice : (can collects : Bool) (w one other : State R W E M) → Stays w one → Stays w other → Stays w (cond can (cond collects one other) w)
  by_choice true true w one other first second = first
  by_choice true false w one other first second = second
  by_choice false collects w one other first second = still w

  pub turn_stays : (w : State R W E M) (party : ℕ) → Stays w (turn_of kit by w party)
  turn_stays w party =
      let collects : Stays w (collected kit by w) = record { layout = refl; commands = refl; passes = refl } in
      by_choice (can_step kit by w party) (is_collector kit by w party) w (collected kit by w) (taken kit by w party) collects (taken_stays w party)

  -- ---- a turn that takes a step, and one that takes none

  -- a party whose next step is none leaves the world
  pub turn_of-rests : (w : State R W E M) (party : ℕ) (step : Step) (tested : Bool) → step ≡ next_of kit by w party → tested ≡ is_ended step → tested ≡ true → turn_of kit by w party ≡ w
  turn_of-rests w party step tested next test ended =
      let e : is_ended (next_of kit by w party) ≡ true = ap is_ended (sym next) ∙ (sym test ∙ ended) in
      rw e refl

  -- the next step of a thread, and of the collector
  pub asks_by : (w : State R W E M) (party : ℕ) (step : Step) → step ≡ next_of kit by w party → is_collector kit by w party ≡ false → step ≡ asks_at kit by w party
  asks_by w party step next passes = next ∙ (rw passes refl)

  pub collects_by : (w : State R W E M) (party : ℕ) (step : Step) → step ≡ next_of kit by w party → is_collector kit by w party ≡ true → step ≡ collector_asks kit by w
  collects_by w party step next collects = next ∙ (rw collects refl)

  pub party_is_pass : (w : State R W E M) (party : ℕ) → IsParty w.layout party → is_collector kit by w party ≡ false → IsPass w.layout party
  party_is_pass w party is passes = (is.0, ltb-false w.layout.passes party passes)

  -- ---- turns of one party

  -- one turn more
  pub alone-more : (n party : ℕ) (w : State R W E M) → alone kit by (n + 1) party w ≡ turn_of kit by (alone kit by n party w) party
  alone-more n party w = rw add-one (go n w)
    where
      go : (n : ℕ) (w : State R W E M) → alone kit by (suc n) party w ≡ turn_of kit by (alone kit by n party w) party
      go zero w = refl
      go (suc n) w = go n (turn_of kit by w party)

-- ---- turns in an order

-- how many steps a turn takes, by whether the party can step
abbrev pub count_of : Bool → ℕ
count_of can = cond can 1 0

pub count_of-most : (can : Bool) → count_of can ≤ 1
count_of-most true = omega arith
count_of-most false = omega arith

module _ {R W E M : Type 0} (kit : Kit R W E M) (by : Stepping R W E M) where
  -- what a turn of the next party leaves of the turns that are left
  pub played-next : (w : State R W E M) (parties : List ℕ) (i party : ℕ) → i < length parties → get_or parties i 0 ≡ party
      → played kit by (turn_of kit by w party) (drop (i + 1) parties) ≡ played kit by w (drop i parties)
  played-next w parties i party within is = rw (add-one, drop-cons parties i 0 within, is) refl

  pub steps_in-next : (w : State R W E M) (parties : List ℕ) (i party : ℕ) → i < length parties → get_or parties i 0 ≡ party
      → steps_in kit by w (drop i parties) ≡ count_of (can_step kit by w party) + steps_in kit by (turn_of kit by w party) (drop (i + 1) parties)
  steps_in-next w parties i party within is = rw (add-one, drop-cons parties i 0 within, is) refl

-- what a turn without a step says
rest_is : (waits : Bool) (found : Step) → cond waits turns.Idle turns.Ended ≡ turns.Took found → ⊥
rest_is true found e = cc
rest_is false found e = cc

-- the same by what the turn says
pub said-took : (can waits : Bool) (step found : Step) (turn : Turn) → turn ≡ cond can (turns.Took step) (cond waits turns.Idle turns.Ended) → turn ≡ turns.Took found → count_of can ≡ 1
said-took true waits step found turn said took = refl
said-took false waits step found turn said took = absurd (rest_is waits found (sym said ∙ took))

pub said-other : (can waits : Bool) (step : Step) (turn : Turn) → turn ≡ cond can (turns.Took step) (cond waits turns.Idle turns.Ended) → ((found : Step) → turn ≢ turns.Took found) → count_of can ≡ 0
said-other true waits step turn said other = absurd (other step said)
said-other false waits step turn said other = refl
