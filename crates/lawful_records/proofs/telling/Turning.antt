-- What a pass has told after its step.
use Rattle.std.specs.Prelude.{◌≢◌, if◌then◌else◌}
use Rattle.std.proofs.Common.{◌≡◌, ℕ, List, [], ◌∷◌, length, Bool, true, false, Option, Some, None, refl, ◌∙◌}
use Rattle.call_steps.specs.declared.step.Step.TheVariants.{Ended}
use Rattle.heap_history.specs.Histories.{pass_of}
use Rattle.heap_history.specs.NewestFirst.{Before}
use Rattle.heap_history.specs.NewestFirstLaws.{Before-cons}
use Rattle.heap_history.specs.declared.call.Call.{Call}
use Rattle.heap_history.specs.declared.call.Ended.{Ended as EndedCall}
use Rattle.barriers.specs.declared.front.Front.{Front}
use Rattle.barriers.specs.declared.new_object.NewMachine.TheVariants as make
use Rattle.barriers.specs.declared.pass.PassMachine.{PassMachine}
use Rattle.barriers.specs.declared.pass.PassMachine.TheVariants as machine
use Rattle.barriers.specs.declared.spot.Spot.{Spot}
use Rattle.barriers.specs.Knowns.{Known, Over, Task, Reads, Writes, Exchanges, spot_of, task_of, call_of, step_of}
use Rattle.barriers.specs.Protocols.{Answered, has_made}
use Rattle.barriers.specs.Objects.{IsMade}
use Rattle.barriers.specs.Kits.{Kit, Stepping, Laws}
use Rattle.barriers.specs.Says.{Notices}
use Rattle.barriers.specs.Spaces.{Space}
use Rattle.barriers.specs.Cycles.{Cycle}
use Rattle.heap_words.specs.Layouts.{Sizes}
use Rattle.lawful_records.specs.Beginnings.{call_ended, ended_call}
use Rattle.lawful_records.specs.LawfulRecords.{HasTold, IsMachine}
use Rattle.lawful_records.specs.Records.{number_of}
use Rattle.lawful_records.specs.Meetings.{HasSpot}
use Rattle.lawful_records.specs.Turns.{with_change, change_call, seen_by, LooksOn, change_by, front_by, pass_asks, pass_fed, pass_turned}
use Rattle.lawful_records.specs.declared.records.PassKnown.{PassKnown}
use Rattle.lawful_records.proofs.parties.Pasts.{sees_turn}
use Rattle.lawful_records.proofs.telling.Telling.{IsLook, AtMost, told_look, told_change}
use Rattle.lawful_records.proofs.telling.Replies.{EndsSo, EndsWith, look_ended, change_ended}

-- a step of a pass sees no less than it had seen
pub seen_grows : (change : Option Call) (look : Front) (seal : Option (List Call)) (h seen : List Call) → Before seen h → LooksOn look seal h seen → Before seen (seen_by change look seal h seen)
seen_grows (Some c) look seal h seen past looks = Before-cons seen c h past
seen_grows None look seal h seen past looks = looks.later

-- What a step with this change has ended, where this was the history and the pass has then seen so much: a call with that change; or with
-- none a look, if anything.
abbrev pub Ends : List Call → Option Call → ℕ → List Call → List EndedCall → Type 0
Ends h None pass seen es = AtMost (IsLook pass seen) es
Ends h (Some c) pass seen es = (pass_of c ≡ pass) × EndsWith h c es

-- ---- a call's step

pub pass_of_call : (pass : ℕ) (s : Spot) (t : Task) → pass_of (call_of pass s t) ≡ pass
pass_of_call pass s Reads = refl
pass_of_call pass s (Writes word) = refl
pass_of_call pass s (Exchanges expected word) = refl

-- What a call knows after its step, where its pass has then seen so much.
pub record IsCallTold (pass : ℕ) (seen : List Call) (k : Known) : Type 0 where
  pub suits : EndsSo k
  pub answered : Answered seen k
  pub met : HasSpot seen k
  pub made : has_made k ≡ true → IsMade seen pass (spot_of k) (task_of k)

-- a change by which the call is over, or not
ends_by : (h : List Call) (seen : Option Call → List Call) (pass : ℕ) (k : Known) (test : Bool) → has_made k ≡ test → ((c : Call) → seen (Some c) ≡ c ∷ h)
    → (let change = if test then Some (call_of pass (spot_of k) (task_of k)) else None in IsCallTold pass (seen change) k → Ends h change pass (seen change) (ended_call (Some k) pass (length (seen change))))
ends_by h seen pass k true made all told =
    let call : Call = call_of pass (spot_of k) (task_of k) in
    (pass_of_call pass (spot_of k) (task_of k), change_ended h (seen (Some call)) pass k call told.suits made (all call) (told.made made))
ends_by h seen pass k false made all told = look_ended (seen None) pass k told.suits made told.answered told.met

-- what the step of a write or an exchange has ended
pub call_ends : (h before : List Call) (pass : ℕ) (k : Known) (look : Front) (seal : Option (List Call)) → IsCallTold pass (seen_by (change_call k pass) look seal h before) k
    → Ends h (change_call k pass) pass (seen_by (change_call k pass) look seal h before) (ended_call (Some k) pass (length (seen_by (change_call k pass) look seal h before)))
call_ends h before pass k look seal told = ends_by h (λ change. seen_by change look seal h before) pass k (has_made k) refl (λ c. refl) told

-- and that of a read, which makes no change
pub read_ends : (h seen : List Call) (pass : ℕ) (k : Known) → has_made k ≡ false → IsCallTold pass seen k → Ends h None pass seen (ended_call (Some k) pass (length seen))
read_ends h seen pass k unmade told = look_ended seen pass k told.suits unmade told.answered told.met

module _ {R W E M : Type 0} (kit : Kit R W E M) (by : Stepping R W E M) where
  -- the record with a machine, after a step with this change and this front
  abbrev pub after_step : List Call → PassKnown R W E → PassMachine R W E → Option Call → Front → Option (List Call) → PassKnown R W E
  after_step h p m change look seal = record p {
    pass = record p.pass { machine = m; seen = length (seen_by change look seal h p.seen) };
    seen = seen_by change look seal h p.seen;
    mine = with_change change p.mine;
  }

  pub told_step : (h : List Call) (p : PassKnown R W E) (m : PassMachine R W E) (change : Option Call) (look : Front) (seal : Option (List Call)) → number_of (after_step h p m change look seal) ≡ number_of p → Before p.seen h → LooksOn look seal h p.seen → call_ended kit p ≡ []
      → Ends h change (number_of p) (seen_by change look seal h p.seen) (call_ended kit (after_step h p m change look seal)) → HasTold kit h p → HasTold kit (with_change change h) (after_step h p m change look seal)
  told_step h p m None look seal number past looks none ends told =
      let sees = sees_turn None look seal h p.seen past looks in
      told_look kit h p (after_step h p m None look seal) (record { number = number; mine = refl; count = refl; later = sees.later; past = sees.past }) refl none ends told
  told_step h p m (Some c) look seal number past looks none ends told =
      let with = ends.1 in
      told_change kit h c p (after_step h p m (Some c) look seal) with.last (record { number = number; mine = refl; ended = refl; count = refl; seen = refl; own = ends.0 }) none with.is with.call_is with.changed told

  -- what it has told after its step
  pub told_turn : (seal : Option (List Call)) (h : List Call) (p : PassKnown R W E) (n : ℕ) → number_of (pass_turned kit by seal h p n) ≡ number_of p → Before p.seen h → LooksOn (front_by kit by p.pass.machine n) seal h p.seen → call_ended kit p ≡ []
      → Ends h (change_by kit by p.pass.machine (number_of p) n) (number_of p) (let q = pass_turned kit by seal h p n in q.seen) (call_ended kit (pass_turned kit by seal h p n))
      → HasTold kit h p → HasTold kit (with_change (change_by kit by p.pass.machine (number_of p) n) h) (pass_turned kit by seal h p n)
  told_turn seal h p n number past looks none ends told =
      told_step h p (pass_fed kit by p.pass.machine n) (change_by kit by p.pass.machine (number_of p) n) (front_by kit by p.pass.machine n) seal number past looks none ends told

  -- ---- a machine that asks for a step has not ended

  abbrev in_machine : PassKnown R W E → PassMachine R W E → PassKnown R W E
  in_machine p m = record p { pass = record p.pass { machine = m } }

  -- a call that has not ended has told nothing
  pub call_runs : (k : Known) (pass front : ℕ) → step_of k ≢ Ended → ended_call (Some k) pass front ≡ []
  call_runs (Over s t end) pass front runs = absurd (runs refl)
  call_runs k pass front runs = refl

  module _ (laws : Laws kit by) where
    machine_runs : (l : Sizes) (c : Cycle) (s : Space) (n : Notices) (p : PassKnown R W E) (m : PassMachine R W E) → IsMachine kit l c s n p m → pass_asks kit by m ≢ Ended → call_ended kit (in_machine p m) ≡ []
    machine_runs l c s n p machine.Idle is runs = refl
    machine_runs l c s n p machine.Retired is runs = refl
    machine_runs l c s n p (machine.Poll m) is runs = refl
    machine_runs l c s n p (machine.Retire m) is runs = refl
    machine_runs l c s n p (machine.New (make.Look plan round)) is runs = refl
    machine_runs l c s n p (machine.New (make.Claim plan round)) is runs = refl
    machine_runs l c s n p (machine.New (make.Fill at placement)) is runs = refl
    machine_runs l c s n p (machine.New (make.Header placement)) is runs = refl
    machine_runs l c s n p (machine.New (make.Ended end)) is runs = absurd (runs refl)
    machine_runs l c s n p (machine.Read m) is runs = call_runs (kit.reads m) _ _ (λ over. runs (laws.reading.asks_alike p.pass.view m is.1 ∙ over))
    machine_runs l c s n p (machine.Write m) is runs = call_runs (kit.writes m) _ _ (λ over. runs (laws.writing.asks_alike p.pass.view m is.1 ∙ over))
    machine_runs l c s n p (machine.Exchange m) is runs = call_runs (kit.exchanges m) _ _ (λ over. runs (laws.exchanging.asks_alike p.pass.view m is.1 ∙ over))

    -- before its step a pass has told no more than its record says
    pub untold : (l : Sizes) (c : Cycle) (s : Space) (n : Notices) (p : PassKnown R W E) → IsMachine kit l c s n p p.pass.machine → pass_asks kit by p.pass.machine ≢ Ended → call_ended kit p ≡ []
    untold l c s n p is runs = machine_runs l c s n p p.pass.machine is runs
