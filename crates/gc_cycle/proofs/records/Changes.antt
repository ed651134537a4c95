-- Which step of a pass is a change: the one with which a new object, a write or an exchange ends as made.
use Rattle.std.specs.Option.{option_map}
use Rattle.std.proofs.Common.{◌≡◌, ◌≢◌, ℕ, Bool, true, false, Option, Some, None, refl, sym, ap, ◌∙◌, subst}
use Rattle.call_steps.specs.declared.step.Step.TheVariants.{Ended}
use Rattle.handshakes.specs.declared.poll.PollEnd.{PollEnd}
use Rattle.handshakes.specs.declared.poll.PollMachine.TheVariants as poll
use Rattle.handshakes.specs.declared.retire.RetireMachine.TheVariants as retire
use Rattle.object_headers.specs.Headers.{header_at}
use Rattle.heap_history.specs.declared.call.Call.{Call}
use Rattle.heap_history.specs.declared.call.Call.TheVariants as calls
use Rattle.space_reclaim.specs.declared.claim.ClaimEnd.TheVariants as claim_end
use Rattle.space_reclaim.specs.declared.claim.ClaimMachine.{ClaimMachine}
use Rattle.space_reclaim.specs.declared.claim.ClaimMachine.TheVariants as claim
use Rattle.barriers.specs.declared.room.Room.{Room}
use Rattle.barriers.specs.declared.ends.NewEnd.{NewEnd}
use Rattle.barriers.specs.declared.ends.NewEnd.TheVariants as new_end
use Rattle.barriers.specs.declared.ends.WriteEnd.{WriteEnd}
use Rattle.barriers.specs.declared.ends.WriteEnd.TheVariants as write_end
use Rattle.barriers.specs.declared.ends.ExchangeEnd.{ExchangeEnd}
use Rattle.barriers.specs.declared.ends.ExchangeEnd.TheVariants as exchange_end
use Rattle.barriers.specs.declared.machine_end.MachineEnd.{MachineEnd}
use Rattle.barriers.specs.declared.machine_end.MachineEnd.TheVariants as ends
use Rattle.barriers.specs.declared.new_object.NewMachine.{NewMachine}
use Rattle.barriers.specs.declared.new_object.NewMachine.TheVariants as make
use Rattle.barriers.specs.declared.new_object.NewPlan.{NewPlan}
use Rattle.barriers.specs.declared.new_object.Placement.{Placement}
use Rattle.barriers.specs.declared.pass.PassMachine.{PassMachine}
use Rattle.barriers.specs.declared.pass.PassMachine.TheVariants as machine
use Rattle.barriers.specs.NewObjects.{claimed, leaving_at}
use Rattle.barriers.specs.NewObjects as makes
use Rattle.barriers.specs.Knowns.{Known, Over, Reads, Writes, Exchanges, Ending, Got, Wrote, Done, Differs, Refused, spot_of, task_of, call_of}
use Rattle.barriers.specs.Protocols.{has_made}
use Rattle.barriers.specs.Kits.{Kit, Stepping, Laws, ending_of, write_said, exchange_said, said_by}
use Rattle.barriers.specs.Records.{ended_of}
use Rattle.lawful_records.specs.LawfulRecords.{IsWriting, IsExchanging}
use Rattle.lawful_records.specs.Records.{known_of}
use Rattle.lawful_records.specs.Turns.{change_call, change_new, change_by, pass_asks, pass_fed}
use Rattle.lawful_records.proofs.calls.CallSteps.{CallKept}
use Rattle.lawful_records.proofs.telling.Replies.{EndsSo}
use Rattle.gc_cycle.proofs.records.Ends.{Outcome, Polls as Polled, Makes as Made, Reads as Has_read, Writes as Has_written, Exchanges as Has_exchanged, Retires as Retired, is_made}

-- ---- a claim makes no object

leaving_unmade : (old : Option ℕ) (placement : Placement) (end : NewEnd) → leaving_at old placement ≡ make.Ended end → ⊥
leaving_unmade None placement end is = cc
leaving_unmade (Some at) placement end is = cc

pub claimed_unmade : (plan : NewPlan) (c : ClaimMachine) (birth at : ℕ) (room : Room) → claimed plan c ≡ make.Ended (new_end.Made birth at room) → ⊥
claimed_unmade plan (claim.Look round) birth at room is = cc
claimed_unmade plan (claim.Claim round) birth at room is = cc
claimed_unmade plan (claim.Ended (claim_end.Claimed region)) birth at room is = leaving_unmade plan.old_at _ (new_end.Made birth at room) is
claimed_unmade plan (claim.Ended (claim_end.NoneFree regions)) birth at room is = cc

-- ---- the change of a step

-- it is a change exactly where the end says so
abbrev pub ChangesSo : Bool → Option Call → Type 0
ChangesSo true change = (c : Call) × (change ≡ Some c)
ChangesSo false change = change ≡ None

call_changes : (k : Known) (pass : ℕ) (test : Bool) → has_made k ≡ test → ChangesSo test (change_call k pass)
call_changes k pass true made = (call_of pass (spot_of k) (task_of k), rw made refl)
call_changes k pass false made = rw made refl

abbrev is_made_ending : Ending → Bool
is_made_ending Wrote = true
is_made_ending Done = true
is_made_ending end = false

ending_made : (k : Known) (end : Ending) → ending_of k ≡ Some end → has_made k ≡ is_made_ending end
ending_made (Over s t Wrote) end is = let same : Wrote ≡ end = cc in ap is_made_ending same
ending_made (Over s t Done) end is = let same : Done ≡ end = cc in ap is_made_ending same
ending_made (Over s t (Got word)) end is = let same : Got word ≡ end = cc in ap is_made_ending same
ending_made (Over s t (Differs word)) end is = let same : Differs word ≡ end = cc in ap is_made_ending same
ending_made (Over s t (Refused why)) end is = let same : Refused why ≡ end = cc in ap is_made_ending same
ending_made k end is = absurd cc

write_made : (end : Ending) (said : WriteEnd) → write_said end ≡ Some said → is_made_ending end ≡ is_made (ends.Write said)
write_made Wrote said says = let same : write_end.Wrote ≡ said = cc in ap (λ x. is_made (ends.Write x)) same
write_made (Refused why) said says = let same : write_end.Refused why ≡ said = cc in ap (λ x. is_made (ends.Write x)) same
write_made end said says = absurd cc

exchange_made : (end : Ending) (said : ExchangeEnd) → exchange_said end ≡ Some said → is_made_ending end ≡ is_made (ends.Exchange said)
exchange_made Done said says = let same : exchange_end.Done ≡ said = cc in ap (λ x. is_made (ends.Exchange x)) same
exchange_made (Differs word) said says = let same : exchange_end.Differs word ≡ said = cc in ap (λ x. is_made (ends.Exchange x)) same
exchange_made (Refused why) said says = let same : exchange_end.Refused why ≡ said = cc in ap (λ x. is_made (ends.Exchange x)) same
exchange_made end said says = absurd cc

-- a write that has not said its end has made no change, and no more has such an exchange
write_unmade : (k : Known) (pass : ℕ) → IsWriting (task_of k) → EndsSo k → said_by write_said (ending_of k) ≡ None → change_call k pass ≡ None
write_unmade (Over s Reads end) pass writes ends_so none = absurd writes
write_unmade (Over s (Exchanges expected word) end) pass writes ends_so none = absurd writes
write_unmade (Over s (Writes word) Wrote) pass writes ends_so none = absurd cc
write_unmade (Over s (Writes word) Done) pass writes ends_so none = absurd ends_so
write_unmade (Over s (Writes word) end) pass writes ends_so none = refl
write_unmade k pass writes ends_so none = refl

exchange_unmade : (k : Known) (pass : ℕ) → IsExchanging (task_of k) → EndsSo k → said_by exchange_said (ending_of k) ≡ None → change_call k pass ≡ None
exchange_unmade (Over s Reads end) pass exchanges ends_so none = absurd exchanges
exchange_unmade (Over s (Writes word) end) pass exchanges ends_so none = absurd exchanges
exchange_unmade (Over s (Exchanges expected word) Wrote) pass exchanges ends_so none = absurd ends_so
exchange_unmade (Over s (Exchanges expected word) Done) pass exchanges ends_so none = absurd cc
exchange_unmade (Over s (Exchanges expected word) end) pass exchanges ends_so none = refl
exchange_unmade k pass exchanges ends_so none = refl

unmapped : {A B : Type 0} → (f : A → B) (o : Option A) → option_map f o ≡ None → o ≡ None
unmapped f None none = refl
unmapped f (Some a) none = absurd cc

new_changes : (x : NewMachine) (pass n : ℕ) (e : NewEnd) → makes.asks_of x ≢ Ended → makes.fed_of x n ≡ make.Ended e → ChangesSo (is_made (ends.New e)) (change_new x pass)
new_changes (make.Header placement) pass n e on is =
    let same : new_end.Made placement.birth placement.at placement.room ≡ e = cc in
    let call : Call = calls.NewObject pass placement.birth (let header = header_at placement.header in header.len) in
    subst (λ (e : NewEnd). ChangesSo (is_made (ends.New e)) (Some call)) same (call, refl)
new_changes (make.Look plan round) pass n (new_end.Made birth at room) on is = absurd (claimed_unmade plan _ birth at room is)
new_changes (make.Look plan round) pass n (new_end.Refused why) on is = refl
new_changes (make.Claim plan round) pass n (new_end.Made birth at room) on is = absurd (claimed_unmade plan _ birth at room is)
new_changes (make.Claim plan round) pass n (new_end.Refused why) on is = refl
new_changes (make.Fill at placement) pass n e on is = absurd cc
new_changes (make.Ended end) pass n e on is = absurd (on refl)

new_unchanged : (x : NewMachine) (pass n : ℕ) → makes.end_of (makes.fed_of x n) ≡ None → change_new x pass ≡ None
new_unchanged (make.Header placement) pass n none = absurd cc
new_unchanged x pass n none = refl

module _ {R W E M : Type 0} (kit : Kit R W E M) (by : Stepping R W E M) where
  poll_unchanged : (m : PassMachine R W E) (pass n : ℕ) (e : PollEnd) → pass_fed kit by m n ≡ machine.Poll (poll.Ended e) → change_by kit by m pass n ≡ None
  poll_unchanged (machine.New x) pass n e is = absurd cc
  poll_unchanged (machine.Write x) pass n e is = absurd cc
  poll_unchanged (machine.Exchange x) pass n e is = absurd cc
  poll_unchanged m pass n e is = refl

  read_unchanged : (m : PassMachine R W E) (pass n : ℕ) (x : R) → pass_fed kit by m n ≡ machine.Read x → change_by kit by m pass n ≡ None
  read_unchanged (machine.New y) pass n x is = absurd cc
  read_unchanged (machine.Write y) pass n x is = absurd cc
  read_unchanged (machine.Exchange y) pass n x is = absurd cc
  read_unchanged m pass n x is = refl

  retire_unchanged : (m : PassMachine R W E) (pass n : ℕ) → pass_fed kit by m n ≡ machine.Retire retire.Ended → change_by kit by m pass n ≡ None
  retire_unchanged (machine.New y) pass n is = absurd cc
  retire_unchanged (machine.Write y) pass n is = absurd cc
  retire_unchanged (machine.Exchange y) pass n is = absurd cc
  retire_unchanged m pass n is = refl

  make_changes : (m : PassMachine R W E) (pass n : ℕ) (e : NewEnd) → pass_asks kit by m ≢ Ended → pass_fed kit by m n ≡ machine.New (make.Ended e) → ChangesSo (is_made (ends.New e)) (change_by kit by m pass n)
  make_changes (machine.New x) pass n e on is = new_changes x pass n e on cc
  make_changes m pass n e on is = absurd cc

  write_changes : (m : PassMachine R W E) (pass n : ℕ) (x : W) (e : Ending) (said : WriteEnd) → pass_fed kit by m n ≡ machine.Write x → ending_of (kit.writes x) ≡ Some e → write_said e ≡ Some said → ChangesSo (is_made (ends.Write said)) (change_by kit by m pass n)
  write_changes (machine.Write y) pass n x e said is ends_so says =
      let same : x ≡ by.write_fed y n = cc in
      subst (λ (z : W). ChangesSo (is_made (ends.Write said)) (change_call (kit.writes z) pass)) same (call_changes (kit.writes x) pass (is_made (ends.Write said)) (ending_made (kit.writes x) e ends_so ∙ write_made e said says))
  write_changes m pass n x e said is ends_so says = absurd cc

  exchange_changes : (m : PassMachine R W E) (pass n : ℕ) (x : E) (e : Ending) (said : ExchangeEnd) → pass_fed kit by m n ≡ machine.Exchange x → ending_of (kit.exchanges x) ≡ Some e → exchange_said e ≡ Some said
      → ChangesSo (is_made (ends.Exchange said)) (change_by kit by m pass n)
  exchange_changes (machine.Exchange y) pass n x e said is ends_so says =
      let same : x ≡ by.exchange_fed y n = cc in
      subst (λ (z : E). ChangesSo (is_made (ends.Exchange said)) (change_call (kit.exchanges z) pass)) same (call_changes (kit.exchanges x) pass (is_made (ends.Exchange said)) (ending_made (kit.exchanges x) e ends_so ∙ exchange_made e said says))
  exchange_changes m pass n x e said is ends_so says = absurd cc

  -- a machine that ends with its step made a change where its end says so
  pub ended_changes : (m : PassMachine R W E) (pass n : ℕ) (end : MachineEnd) → pass_asks kit by m ≢ Ended → Outcome kit (pass_fed kit by m n) end → ChangesSo (is_made end) (change_by kit by m pass n)
  ended_changes m pass n end on (Polled e is end_is) = rw end_is (poll_unchanged m pass n e is)
  ended_changes m pass n end on (Made e is end_is) = rw end_is (make_changes m pass n e on is)
  ended_changes m pass n end on (Has_read x e said is ends_so says end_is) = rw end_is (read_unchanged m pass n x is)
  ended_changes m pass n end on (Has_written x e said is ends_so says end_is) = rw end_is (write_changes m pass n x e said is ends_so says)
  ended_changes m pass n end on (Has_exchanged x e said is ends_so says end_is) = rw end_is (exchange_changes m pass n x e said is ends_so says)
  ended_changes m pass n end on (Retired is end_is) = rw end_is (retire_unchanged m pass n is)

  -- what a call of a machine is for
  abbrev pub IsTasked : PassMachine R W E → Type 0
  IsTasked (machine.Write x) = IsWriting (task_of (kit.writes x))
  IsTasked (machine.Exchange x) = IsExchanging (task_of (kit.exchanges x))
  IsTasked m = Unit {0}

  module _ (laws : Laws kit by) where
    -- a machine that goes on has made no change
    pub running_changes : (m : PassMachine R W E) (pass n : ℕ) → IsTasked m → ((k next : Known) → known_of kit m ≡ Some k → known_of kit (pass_fed kit by m n) ≡ Some next → CallKept k next)
        → ended_of kit (pass_fed kit by m n) ≡ None → change_by kit by m pass n ≡ None
    running_changes (machine.New x) pass n tasked kept goes = new_unchanged x pass n (unmapped (λ e. ends.New e) (makes.end_of (makes.fed_of x n)) goes)
    running_changes (machine.Write x) pass n tasked kept goes =
        let next = by.write_fed x n in
        let stays = kept (kit.writes x) (kit.writes next) refl refl in
        write_unmade (kit.writes next) pass (subst IsWriting (sym stays.same.task) tasked) stays.ends (sym (laws.writing.tells next) ∙ unmapped (λ e. ends.Write e) (kit.write_ended next) goes)
    running_changes (machine.Exchange x) pass n tasked kept goes =
        let next = by.exchange_fed x n in
        let stays = kept (kit.exchanges x) (kit.exchanges next) refl refl in
        exchange_unmade (kit.exchanges next) pass (subst IsExchanging (sym stays.same.task) tasked) stays.ends (sym (laws.exchanging.tells next) ∙ unmapped (λ e. ends.Exchange e) (kit.exchange_ended next) goes)
    running_changes m pass n tasked kept goes = refl
