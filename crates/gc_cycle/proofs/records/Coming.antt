-- What the turn of a thread comes to: its machine goes on, or what follows its end.
use Rattle.std.specs.Prelude.{◌≢◌, if◌then◌else◌}
use Rattle.std.proofs.Common.{◌≡◌, ℕ, ◌+◌, ◌-◌, ◌<◌, List, [], ◌∷◌, ◌++◌, length, reverse, Bool, true, false, Option, Some, None, refl, sym, ap, ◌∙◌, subst, arith, get_or-set_same}
use Rattle.std.proofs.lemmas.List.{append-nil}
use Rattle.call_steps.specs.declared.step.Step.TheVariants.{Ended}
use Rattle.call_steps.specs.Steps.{applied}
use Rattle.call_steps.specs.Turns.{still}
use Rattle.heap_words.specs.Layouts.{Sizes, IsPass}
use Rattle.heap_history.specs.Histories.{pass_of}
use Rattle.heap_history.specs.Logs.{changes_of}
use Rattle.heap_history.specs.declared.call.Call.{Call}
use Rattle.heap_history.specs.declared.call.Ended.{Ended as EndedCall}
use Rattle.heap_script.specs.declared.script.Command.{Command}
use Rattle.heap_script.specs.Commands.{commands_at}
use Rattle.heap_script.specs.Scripts.{CommandFits}
use Rattle.barriers.specs.declared.front.Front.{Front}
use Rattle.barriers.specs.declared.machine_end.MachineEnd.{MachineEnd}
use Rattle.barriers.specs.declared.machine_end.Request.{Request}
use Rattle.barriers.specs.declared.machine_end.Request.TheVariants as requests
use Rattle.barriers.specs.declared.new_object.NewMachine.{NewMachine}
use Rattle.barriers.specs.declared.new_object.NewMachine.TheVariants as make
use Rattle.barriers.specs.declared.pass.PassRecord.{PassRecord}
use Rattle.barriers.specs.declared.pass.PassMachine.{PassMachine}
use Rattle.barriers.specs.declared.pass.PassMachine.TheVariants as machine
use Rattle.barriers.specs.declared.room.Room.{Room}
use Rattle.barriers.specs.NewObjects as makes
use Rattle.barriers.specs.Cycles.{Cycle}
use Rattle.barriers.specs.Spaces.{Space}
use Rattle.barriers.specs.Says.{Notices}
use Rattle.barriers.specs.Kits.{Kit, Stepping, Laws}
use Rattle.barriers.specs.Records.{Fits, ended_of, with_end}
use Rattle.lawful_records.specs.Beginnings.{BeginsOn, call_ended}
use Rattle.lawful_records.specs.LawfulRecords.{IsMachine}
use Rattle.lawful_records.specs.Making.{IsMaking, lens_of}
use Rattle.lawful_records.specs.Records.{number_of}
use Rattle.lawful_records.specs.Turns.{with_change, seen_by, change_by, front_by, pass_asks, pass_fed}
use Rattle.lawful_records.specs.declared.records.PassKnown.{PassKnown}
use Rattle.lawful_records.specs.declared.records.Party.TheVariants as parties
use Rattle.gc_cycle.specs.declared.sequel.Sequel.{Sequel}
use Rattle.gc_cycle.specs.Sequels.{sequel_of}
use Rattle.gc_cycle.specs.Lawful.{Lawful, IsAfter, IsAtCommand, history_in, known_in, seen_of}
use Rattle.gc_cycle.specs.Worlds.{State, logged, pass_at, nobody, asks_at, found_at, fed_at, stepped, taken, command_at, changes_now, face_of, settled_by, concluded_by}
use Rattle.gc_cycle.proofs.script.Lists.{All-slice_get}
use Rattle.gc_cycle.proofs.records.Changes.{ChangesSo, ended_changes, IsTasked, running_changes}
use Rattle.gc_cycle.proofs.records.Doing.{HasSeen, stepped_known, done_after}
use Rattle.gc_cycle.proofs.records.Ends.{Outcome, Polls, Makes, Reads, Writes, Exchanges, Retires, IsDone, SequelTells, outcome, sequel_tells, with_end_is, called, listed, is_made, seen_with_call}
use Rattle.gc_cycle.proofs.records.Following.{followed_by, follows, takes_in, end_seen}
use Rattle.gc_cycle.proofs.records.Growing.{IsToldBy, IsCallOf, sequel_told, changed_call, history_grown, change_owned}
use Rattle.gc_cycle.proofs.records.Leaving.{Leaves, leaves_after, followed_leaves, followed_face, put_leaves, next_of_world}
use Rattle.gc_cycle.proofs.records.Shares.{Grown, number_at, record_at, changes_are}
use Rattle.gc_cycle.proofs.records.Stepped.{seal_seen, turned_in, calls_kept, turned_number, view_is, looked_same, known_after}
use Rattle.gc_cycle.proofs.records.Turns.{Comes}

making_few : (l : Sizes) (s : Space) (pass : ℕ) (room : Room) (made : ℕ) (lens : List ℕ) (x : NewMachine) → makes.asks_of x ≢ Ended → IsMaking l s pass room made lens x → made < 262144
making_few l s pass room made lens (make.Look plan round) on is = is.few
making_few l s pass room made lens (make.Claim plan round) on is = is.few
making_few l s pass room made lens (make.Fill at placement) on is = is.0.few
making_few l s pass room made lens (make.Header placement) on is = is.few
making_few l s pass room made lens (make.Ended end) on is = absurd (on refl)

next_fits : (test : Bool) → Fits (if test then requests.Poll else requests.Retire)
next_fits true = tt
next_fits false = tt

module _ {R W E M : Type 0} (kit : Kit R W E M) (by : Stepping R W E M) where
  tasked_by : (l : Sizes) (c : Cycle) (s : Space) (n : Notices) (p : PassKnown R W E) (m : PassMachine R W E) → IsMachine kit l c s n p m → IsTasked kit by m
  tasked_by l c s n p (machine.Write x) is = is.2
  tasked_by l c s n p (machine.Exchange x) is = is.2
  tasked_by l c s n p m is = tt

  few_by : (l : Sizes) (c : Cycle) (s : Space) (n : Notices) (p : PassKnown R W E) (m : PassMachine R W E) → pass_asks kit by m ≢ Ended → IsMachine kit l c s n p m → (x : NewMachine) → m ≡ machine.New x → (let pass = p.pass in pass.made) < 262144
  few_by l c s n p (machine.New y) on is x m_is = making_few l s (number_of p) p.pass.room p.pass.made (lens_of p.mine) y on is
  few_by l c s n p m on is x m_is = absurd cc

  seen_has : (change : Option Call) (front : Front) (seal : Option (List Call)) (h seen : List Call) → HasSeen kit by (seen_by change front seal h seen) change
  seen_has (Some c) front seal h seen = (h, refl)
  seen_has None front seal h seen = tt

  -- after its last command a pass makes no change
  after_unmade : (m : PassMachine R W E) (n : ℕ) (end : MachineEnd) → IsAfter kit m → Outcome kit (pass_fed kit by m n) end → is_made end ≡ false
  after_unmade (machine.Retire x) n end after (Polls e is end_is) = absurd cc
  after_unmade (machine.Retire x) n end after (Makes e is end_is) = absurd cc
  after_unmade (machine.Retire x) n end after (Reads y e said is ends_so says end_is) = absurd cc
  after_unmade (machine.Retire x) n end after (Writes y e said is ends_so says end_is) = absurd cc
  after_unmade (machine.Retire x) n end after (Exchanges y e said is ends_so says end_is) = absurd cc
  after_unmade (machine.Retire x) n end after (Retires is end_is) = ap is_made end_is
  after_unmade machine.Retired n end after is = after_retired is
    where
      after_retired : Outcome kit machine.Retired end → is_made end ≡ false
      after_retired (Polls e is end_is) = absurd cc
      after_retired (Makes e is end_is) = absurd cc
      after_retired (Reads y e said is ends_so says end_is) = absurd cc
      after_retired (Writes y e said is ends_so says end_is) = absurd cc
      after_retired (Exchanges y e said is ends_so says end_is) = absurd cc
      after_retired (Retires is end_is) = absurd cc
  after_unmade m n end after is = absurd after

  after_quiet : (p : PassKnown R W E) (m : PassMachine R W E) (n count : ℕ) (seen mine : List Call) → IsAfter kit m → call_ended kit (stepped_known kit by p m n count seen mine) ≡ []
  after_quiet p (machine.Retire x) n count seen mine after = refl
  after_quiet p machine.Retired n count seen mine after = refl
  after_quiet p m n count seen mine after = absurd after

  same_turned : (q : PassKnown R W E) (count : ℕ) → count ≡ (let pass = q.pass in pass.seen) → Path (PassKnown R W E) (record q { pass = record q.pass { seen = count }; ended = q.ended ++ [] }) q
  same_turned q count is = ap (λ (k : ℕ). record q { pass = record q.pass { seen = k }; ended = q.ended ++ [] }) is ∙ ap (λ (es : List EndedCall). record q { ended = es }) (append-nil q.ended)

  module _ (laws : Laws kit by) (w : State R W E M) (lawful : Lawful kit w) (number : ℕ) (is : IsPass w.layout number) (on : asks_at kit by w number ≢ Ended) where
    abbrev p : PassRecord R W E
    p = pass_at w number

    abbrev q : PassKnown R W E
    q = turned_in kit by w number

    abbrev n : ℕ
    n = found_at kit by w number

    abbrev h : List Call
    h = history_in w

    abbrev change : Option Call
    change = change_by kit by p.machine (number_of (known_in w p)) n

    abbrev fed : PassRecord R W E
    fed = fed_at kit by w number

    abbrev w1 : State R W E M
    w1 = stepped kit by w number

    abbrev words : List ℕ
    words = applied (asks_at kit by w number) w.words

    same_pass : number_of (known_in w p) ≡ p.view.pass
    same_pass = number_at kit w lawful number is ∙ sym (view_is kit by laws w lawful number is)

    stepped_leaves : Leaves w number words w1 fed None
    stepped_leaves = record { layout = refl; words = refl; passes = refl; collector = refl; plan = refl; awaited = refl; sealed = refl; moved = refl; log = refl }

    -- its machine goes on
    pub goes_on : ended_of kit (pass_fed kit by p.machine n) ≡ None → Comes kit by w number w1
    goes_on goes =
        let r = lawful.records in
        let its = record_at kit w lawful number is in
        let none : change ≡ None = running_changes kit by laws p.machine (number_of (known_in w p)) n (tasked_by w.layout _ r.space r.notices (known_in w p) p.machine its.machine) (calls_kept kit by laws w lawful number is on) goes in
        let history : reverse (changes_of (logged w.told.log None)) ≡ with_change change h = ap (λ (o : Option Call). with_change o h) (sym none) in
        let looked : fed.seen ≡ length q.seen = looked_same kit by laws w lawful number is none in
        let owner : (c : Call) → change ≡ Some c → pass_of c ≡ number = λ c c_is. absurd cc in
        let teller : (e : EndedCall) → None ≡ Some e → pass_of e.call ≡ number = λ e e_is. absurd cc in
        let known : known_in w1 fed ≡ q = known_after kit by laws w lawful number is w1 fed None refl history (view_is kit by laws w lawful number is) looked owner teller ∙ same_turned q fed.seen looked in
        record {
          pass = fed;
          call = None;
          change = change;
          leaves = stepped_leaves;
          grown = record { history = history; owner = owner; teller = teller };
          begins = subst (λ (x : PassKnown R W E). BeginsOn kit w.layout (parties.Pass q) (parties.Pass x)) (sym known) still;
        }

    module _ (end : MachineEnd) (ended : ended_of kit (pass_fed kit by p.machine n) ≡ Some end) where
      abbrev so : Outcome kit (pass_fed kit by p.machine n) end
      so = outcome kit by laws (pass_fed kit by p.machine n) end ended

      abbrev rest : PassRecord R W E
      rest = with_end fed end

      changes : ChangesSo (is_made end) change
      changes = ended_changes kit by p.machine (number_of (known_in w p)) n end on so

      look : is_made end ≡ false → fed.seen ≡ length q.seen
      look unmade = looked_same kit by laws w lawful number is (subst (λ (b : Bool). ChangesSo b change) unmade changes)

      seen_is : (c : Call) → change ≡ Some c → q.seen ≡ c ∷ h
      seen_is c c_is = ap (λ (o : Option Call). seen_by o (front_by kit by p.machine n) (seal_seen kit by w number) h (seen_of h p.seen)) c_is

      made : is_made end ≡ true → length q.seen ≡ changes_now w + 1
      made change_made =
          let has = subst (λ (b : Bool). ChangesSo b change) change_made changes in
          let count : length q.seen ≡ length (has.0 ∷ h) = ap (λ (cs : List Call). length cs) (seen_is has.0 has.1) in
          omega (arith, count, changes_are kit w lawful)

      changed : (c : Call) → change ≡ Some c → IsCallOf (call_ended kit q) c
      changed c c_is = changed_call kit by (known_in w p) p.machine n (length q.seen) q.seen q.mine h c (ap (λ (m : ℕ). change_by kit by p.machine m n) (sym same_pass) ∙ c_is) (seen_is c c_is)

      rest_pass : rest.view.pass ≡ number
      rest_pass = ap (λ (x : PassRecord R W E). x.view.pass) (with_end_is kit by laws fed end so) ∙ turned_number kit by laws w lawful number is on

      -- where this record is left and this call has ended
      comes : (next : State R W E M) (pass : PassRecord R W E) (call : Option EndedCall) → Leaves w number words next pass call → IsToldBy number (is_made end) call → call_ended kit q ≡ listed call
          → pass.view.pass ≡ number → pass.seen ≡ length q.seen → BeginsOn kit w.layout (parties.Pass q) (parties.Pass (record q { pass = pass; ended = q.ended ++ call_ended kit q })) → Comes kit by w number next
      comes next pass call leaves told ends view seen begins =
          let grown : Grown w.told.log call change number = record {
            history = history_grown w.told.log number (is_made end) change call (call_ended kit q) told changes ends changed;
            owner = change_owned number (is_made end) change call (call_ended kit q) told ends changed;
            teller = told.owner;
          } in
          let known : known_in next pass ≡ record q { pass = pass; ended = q.ended ++ listed call } =
          known_after kit by laws w lawful number is next pass call leaves.log (ap (λ (log : List EndedCall). reverse (changes_of log)) leaves.log ∙ grown.history) view seen grown.owner grown.teller in
          record {
            pass = pass;
            call = call;
            change = change;
            leaves = leaves;
            grown = grown;
            begins = subst (λ (x : PassKnown R W E). BeginsOn kit w.layout (parties.Pass q) (parties.Pass x)) (ap (λ (es : List EndedCall). record q { pass = pass; ended = q.ended ++ es }) ends ∙ sym known) begins;
          }

      -- at a command
      concludes : (c : Command) → command_at w number ≡ Some c → Comes kit by w number (concluded_by kit w1 number rest end (Some c))
      concludes c c_is =
          let r = lawful.records in
          let its = record_at kit w lawful number is in
          let l : Sizes = w.layout in
          let s : Sequel = sequel_of (changes_now w1) c (face_of rest) end in
          let next : Request = next_of_world kit w1 number in
          let fits : CommandFits c = All-slice_get CommandFits (commands_at w.commands number) _ c (lawful.script.commands number is) c_is in
          let at : IsAtCommand kit l p (Some c) = subst (IsAtCommand kit l p) c_is (lawful.threads number is).at in
          let has : HasSeen kit by q.seen (change_by kit by p.machine p.view.pass n) =
          subst (λ (m : ℕ). HasSeen kit by q.seen (change_by kit by p.machine m n)) same_pass (seen_has change (front_by kit by p.machine n) (seal_seen kit by w number) h (seen_of h p.seen)) in
          let done : IsDone kit q c (pass_fed kit by p.machine n) =
          done_after kit by l (known_in w p) p.machine n (length q.seen) q.seen q.mine c end lawful.script.layout (subst (IsPass l) (sym (view_is kit by laws w lawful number is)) is)
          (few_by l _ r.space r.notices (known_in w p) p.machine on its.machine) fits at (calls_kept kit by laws w lawful number is on) has so in
          let tells : SequelTells kit q fed.seen s = sequel_tells kit by laws q fed.seen (changes_now w1) c end so done look made in
          let pass : PassRecord R W E = followed_by kit l next rest s in
          let face = followed_face kit l next rest s in
          comes (concluded_by kit w1 number rest end (Some c)) pass (called s)
          (leaves_after w w1 (concluded_by kit w1 number rest end (Some c)) number words fed pass (called s) stepped_leaves (followed_leaves kit w1 number rest s))
          (subst (λ (m : ℕ). IsToldBy m (is_made end) (called s)) rest_pass (sequel_told (changes_now w1) c (face_of rest) end))
          tells.calls (ap (λ v. v.pass) face.0 ∙ rest_pass) (face.1 ∙ ap (λ (k : ℕ). seen_with_call k (called s)) (end_seen kit fed end) ∙ tells.front)
          (follows kit by laws l next q fed.seen (changes_now w1) c end (next_fits _) fits so done refl tells)

      -- after the last one
      concludes_last : command_at w number ≡ None → Comes kit by w number (concluded_by kit w1 number rest end None)
      concludes_last none =
          let after : IsAfter kit p.machine = subst (IsAtCommand kit w.layout p) none (lawful.threads number is).at in
          let unmade : is_made end ≡ false = after_unmade p.machine n end after so in
          let quiet : call_ended kit q ≡ [] = after_quiet (known_in w p) p.machine n (length q.seen) q.seen q.mine after in
          let begins = takes_in kit by laws w.layout q end so in
          comes (concluded_by kit w1 number rest end None) rest None
          (leaves_after w w1 (concluded_by kit w1 number rest end None) number words fed rest None stepped_leaves (put_leaves kit w1 number rest))
          (record { owner = λ e e_is. absurd cc; change = λ e e_is. absurd cc }) quiet rest_pass (end_seen kit fed end ∙ look unmade)
          (subst (λ (k : ℕ). BeginsOn kit w.layout (parties.Pass q) (parties.Pass (record q { pass = with_end (record q.pass { seen = k }) end; ended = q.ended ++ call_ended kit q }))) (sym (look unmade)) begins)

      concludes_at : (o : Option Command) → command_at w number ≡ o → Comes kit by w number (concluded_by kit w1 number rest end o)
      concludes_at None o_is = concludes_last o_is
      concludes_at (Some c) o_is = concludes c o_is

      here : pass_at w1 number ≡ fed
      here = get_or-set_same w.passes (number - 1) fed nobody (omega (arith, is.0, is.1, lawful.passes))

      settled_is : taken kit by w number ≡ concluded_by kit w1 number rest end (command_at w number)
      settled_is =
          ap (λ (x : PassRecord R W E). settled_by kit w1 number (ended_of kit x.machine)) here ∙ ap (settled_by kit w1 number) ended
          ∙ ap (λ (x : PassRecord R W E). concluded_by kit w1 number (with_end x end) end (command_at w number)) here

      -- its machine ends
      pub ends_so : Comes kit by w number (taken kit by w number)
      ends_so = subst (Comes kit by w number) (sym settled_is) (concludes_at (command_at w number) refl)

    goes_is : ended_of kit (pass_fed kit by p.machine n) ≡ None → taken kit by w number ≡ w1
    goes_is goes = ap (λ (x : PassRecord R W E). settled_by kit w1 number (ended_of kit x.machine)) (get_or-set_same w.passes (number - 1) fed nobody (omega (arith, is.0, is.1, lawful.passes))) ∙ ap (settled_by kit w1 number) goes

    taken_by : (o : Option MachineEnd) → ended_of kit (pass_fed kit by p.machine n) ≡ o → Comes kit by w number (taken kit by w number)
    taken_by None o_is = subst (Comes kit by w number) (sym (goes_is o_is)) (goes_on o_is)
    taken_by (Some end) o_is = ends_so end o_is

    pub taken_comes : Comes kit by w number (taken kit by w number)
    taken_comes = taken_by (ended_of kit (pass_fed kit by p.machine n)) refl
