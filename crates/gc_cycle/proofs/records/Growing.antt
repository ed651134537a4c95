-- The history after a turn: the calls that have ended tell its change.
use Rattle.std.proofs.Common.{◌≡◌, ℕ, List, [], ◌∷◌, length, reverse, Bool, true, false, Option, Some, None, refl, sym, ap, ◌∙◌}
use Rattle.std.proofs.lemmas.List.{reverse-append}
use Rattle.heap_history.specs.Histories.{pass_of, is_change}
use Rattle.heap_history.specs.Logs.{changes_of}
use Rattle.heap_history.specs.LogLaws.{changes_of-look, changes_of-change}
use Rattle.heap_history.specs.declared.call.Call.{Call}
use Rattle.heap_history.specs.declared.call.Ended.{Ended as EndedCall}
use Rattle.heap_script.specs.declared.script.Command.{Command}
use Rattle.heap_script.specs.declared.script.Command.TheVariants as commands
use Rattle.barriers.specs.declared.ends.NewEnd.TheVariants as new_end
use Rattle.barriers.specs.declared.ends.ReadEnd.TheVariants as read_end
use Rattle.barriers.specs.declared.ends.WriteEnd.TheVariants as write_end
use Rattle.barriers.specs.declared.ends.ExchangeEnd.TheVariants as exchange_end
use Rattle.barriers.specs.declared.ends.TryRefusal.{TryRefusal}
use Rattle.barriers.specs.declared.ends.TryRefusal.TheVariants as refusal
use Rattle.barriers.specs.declared.machine_end.MachineEnd.{MachineEnd}
use Rattle.barriers.specs.declared.machine_end.MachineEnd.TheVariants as ends
use Rattle.barriers.specs.declared.new_object.NewMachine.TheVariants as make
use Rattle.barriers.specs.declared.pass.PassMachine.{PassMachine}
use Rattle.barriers.specs.declared.pass.PassMachine.TheVariants as machine
use Rattle.barriers.specs.Knowns.{Known, Over, Wrote, Done}
use Rattle.barriers.specs.Kits.{Kit, Stepping, ending_of}
use Rattle.lawful_records.specs.Beginnings.{call_ended, ended_known}
use Rattle.lawful_records.specs.Turns.{change_call, change_by, with_change}
use Rattle.lawful_records.specs.declared.records.PassKnown.{PassKnown}
use Rattle.gc_cycle.specs.declared.sequel.Face.{Face}
use Rattle.gc_cycle.specs.Sequels.{sequel_of, begun, refused}
use Rattle.gc_cycle.specs.Worlds.{logged}
use Rattle.gc_cycle.proofs.records.Changes.{ChangesSo}
use Rattle.gc_cycle.proofs.records.Doing.{stepped_known}
use Rattle.gc_cycle.proofs.records.Ends.{called, listed, is_made}

-- ---- what a sequel tells

-- its call is the pass's, and a change where the end says so
pub record IsToldBy (pass : ℕ) (made : Bool) (call : Option EndedCall) : Type 0 where
  pub owner : (e : EndedCall) → call ≡ Some e → pass_of e.call ≡ pass
  pub change : (e : EndedCall) → call ≡ Some e → is_change e.reply ≡ made

silent : (pass : ℕ) (made : Bool) → IsToldBy pass made None
silent pass made = record { owner = λ e is. absurd cc; change = λ e is. absurd cc }

one : (pass : ℕ) (made : Bool) (d : EndedCall) → pass_of d.call ≡ pass → is_change d.reply ≡ made → IsToldBy pass made (Some d)
one pass made d owner change = record {
  owner = λ e is. let same : d ≡ e = cc in ap (λ (x : EndedCall). pass_of x.call) (sym same) ∙ owner;
  change = λ e is. let same : d ≡ e = cc in ap (λ (x : EndedCall). is_change x.reply) (sym same) ∙ change;
}

begun_told : (command : Command) (f : Face) → IsToldBy f.pass false (called (begun command f))
begun_told (commands.New dst len) f = silent f.pass false
begun_told (commands.Get dst obj field) f = silent f.pass false
begun_told (commands.Put obj field what) f = silent f.pass false
begun_told (commands.Cas dst obj field expected value) f = silent f.pass false
begun_told (commands.Copy dst src) f = silent f.pass false
begun_told (commands.Drop dst) f = silent f.pass false
begun_told commands.Poll f = silent f.pass false

refused_told : (why : TryRefusal) (pass : ℕ) → IsToldBy pass false (called (refused why))
refused_told refusal.NotLink pass = silent pass false
refused_told (refusal.NoField len) pass = silent pass false
refused_told (refusal.Raced loaded found) pass = silent pass false
refused_told (refusal.Busy cycle mark) pass = silent pass false

pub sequel_told : (changes : ℕ) (command : Command) (f : Face) (end : MachineEnd) → IsToldBy f.pass (is_made end) (called (sequel_of changes command f end))
sequel_told changes command f (ends.Poll e) = begun_told command f
sequel_told changes (commands.New dst len) f (ends.New (new_end.Made birth at room)) = one f.pass true _ refl refl
sequel_told changes (commands.New dst len) f (ends.New (new_end.Refused why)) = silent f.pass false
sequel_told changes (commands.Get dst obj field) f (ends.Read (read_end.Got word)) = one f.pass false _ refl refl
sequel_told changes (commands.Get dst obj field) f (ends.Read (read_end.NoField len)) = silent f.pass false
sequel_told changes (commands.Put obj field what) f (ends.Write write_end.Wrote) = one f.pass true _ refl refl
sequel_told changes (commands.Put obj field what) f (ends.Write (write_end.Refused why)) = refused_told why f.pass
sequel_told changes (commands.Cas dst obj field expected value) f (ends.Exchange exchange_end.Done) = one f.pass true _ refl refl
sequel_told changes (commands.Cas dst obj field expected value) f (ends.Exchange (exchange_end.Differs word)) = one f.pass false _ refl refl
sequel_told changes (commands.Cas dst obj field expected value) f (ends.Exchange (exchange_end.Refused why)) = refused_told why f.pass
sequel_told changes command f end = silent f.pass (is_made end)

-- ---- the call that was the change

-- what has ended is one call, which is this
pub record IsCallOf (es : List EndedCall) (c : Call) : Type 0 where
  pub last : EndedCall
  pub is : es ≡ last ∷ []
  pub call : last.call ≡ c

known_changed : (k : Known) (pass front : ℕ) (c : Call) → change_call k pass ≡ Some c → IsCallOf (ended_known (ending_of k) k pass front) c
known_changed (Over s t Wrote) pass front c is = record { last = _; is = refl; call = cc }
known_changed (Over s t Done) pass front c is = record { last = _; is = refl; call = cc }
known_changed k pass front c is = absurd cc

module _ {R W E M : Type 0} (kit : Kit R W E M) (by : Stepping R W E M) where
  pub changed_call : (p : PassKnown R W E) (m : PassMachine R W E) (n count : ℕ) (seen mine h : List Call) (c : Call) → change_by kit by m (let view = p.pass.view in view.pass) n ≡ Some c → seen ≡ c ∷ h
      → IsCallOf (call_ended kit (stepped_known kit by p m n count seen mine)) c
  changed_call p (machine.New (make.Header placement)) n count seen mine h c is seen_is = rw seen_is (record { last = _; is = refl; call = refl })
  changed_call p (machine.New x) n count seen mine h c is seen_is = absurd cc
  changed_call p (machine.Write x) n count seen mine h c is seen_is = known_changed (kit.writes (by.write_fed x n)) p.pass.view.pass (length seen) c is
  changed_call p (machine.Exchange x) n count seen mine h c is seen_is = known_changed (kit.exchanges (by.exchange_fed x n)) p.pass.view.pass (length seen) c is
  changed_call p m n count seen mine h c is seen_is = absurd cc

-- ---- the history

listed_one : (call : Option EndedCall) (e : EndedCall) → listed call ≡ e ∷ [] → call ≡ Some e
listed_one None e is = absurd cc
listed_one (Some d) e is = cc

look_grown : (log : List EndedCall) (pass : ℕ) (call : Option EndedCall) → IsToldBy pass false call → reverse (changes_of (logged log call)) ≡ reverse (changes_of log)
look_grown log pass None told = refl
look_grown log pass (Some e) told = ap (λ (cs : List Call). reverse cs) (changes_of-look log e (told.change e refl))

change_grown : (log : List EndedCall) (pass : ℕ) (call : Option EndedCall) (e : EndedCall) (c : Call) → call ≡ Some e → e.call ≡ c → IsToldBy pass true call → reverse (changes_of (logged log call)) ≡ c ∷ reverse (changes_of log)
change_grown log pass call e c is call_is told =
    ap (λ (d : Option EndedCall). reverse (changes_of (logged log d))) is
    ∙ ap (λ (cs : List Call). reverse cs) (changes_of-change log e (told.change e is)) ∙ reverse-append (changes_of log) (e.call ∷ []) ∙ ap (λ d. d ∷ reverse (changes_of log)) call_is

-- with the change, where there is one, and the call that tells it
pub history_grown : (log : List EndedCall) (pass : ℕ) (made : Bool) (change : Option Call) (call : Option EndedCall) (es : List EndedCall) → IsToldBy pass made call → ChangesSo made change → es ≡ listed call
    → ((c : Call) → change ≡ Some c → IsCallOf es c) → reverse (changes_of (logged log call)) ≡ with_change change (reverse (changes_of log))
history_grown log pass false change call es told so is told_by = look_grown log pass call told ∙ rw so refl
history_grown log pass true change call es told so is told_by =
    let of = told_by so.0 so.1 in
    change_grown log pass call of.last so.0 (listed_one call of.last (sym is ∙ of.is)) of.call told ∙ rw so.1 refl

-- and is the pass's
pub change_owned : (pass : ℕ) (made : Bool) (change : Option Call) (call : Option EndedCall) (es : List EndedCall) → IsToldBy pass made call → es ≡ listed call → ((c : Call) → change ≡ Some c → IsCallOf es c) → (c : Call) → change ≡ Some c → pass_of c ≡ pass
change_owned pass made change call es told is told_by c c_is =
    let of = told_by c c_is in
    ap pass_of (sym of.call) ∙ told.owner of.last (listed_one call of.last (sym is ∙ of.is))
