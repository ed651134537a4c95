-- A thread whose machine asks for a step can take it.
use Rattle.std.specs.Prelude.{sum_by}
use Rattle.std.proofs.Common.{◌≡◌, ◌≢◌, ℕ, ◌+◌, ◌-◌, ◌<◌, ◌≤◌, ◌^◌, List, [], length, get_or, Some, refl, sym, ap, ◌∙◌, subst, arith, length-set}
use Rattle.heap_words.specs.Layouts.{IsPass}
use Rattle.heap_history.specs.LogLaws.{length-changes_of}
use Rattle.heap_script.specs.Commands.{commands_at, total}
use Rattle.heap_script.specs.SumLaws.{sum_by-le}
use Rattle.heap_script.specs.TellingLaws.{room_at-opening, answers_missing}
use Rattle.heap_script.specs.TellingSteps.{answers_at, room_at}
use Rattle.call_steps.specs.declared.step.Step.TheVariants.{Ended}
use Rattle.call_steps.specs.Steps.{IsInside}
use Rattle.barriers.specs.declared.ends.NewEnd.TheVariants as new_end
use Rattle.barriers.specs.declared.machine_end.MachineEnd.{MachineEnd}
use Rattle.barriers.specs.declared.machine_end.MachineEnd.TheVariants as ends
use Rattle.barriers.specs.declared.pass.PassRecord.{PassRecord}
use Rattle.barriers.specs.Kits.{Kit, Stepping, Laws}
use Rattle.barriers.specs.Records.{HasBirths, IsReady, ended_of, with_end}
use Rattle.heap_script.specs.Scripts.{CommandFits}
use Rattle.lawful_records.specs.Cycling.{announced_by, cycle_of}
use Rattle.lawful_records.proofs.RecordLaws.{announced}
use Rattle.lawful_records.proofs.turns.OwnTurns.{inside_of}
use Rattle.gc_cycle.specs.Worlds.{State, pass_at, asks_at, fed_at, answered, changes_now, stepped, IsThere, CanTell, CanConclude, CanTake}
use Rattle.gc_cycle.specs.Lawful.{Lawful, known_in, records_in}
use Rattle.gc_cycle.proofs.script.Lists.{below_of_get, All-slice_get, before_below}
use Rattle.gc_cycle.proofs.script.Stepped.{stands, concludes}
use Rattle.gc_cycle.proofs.script.Turns.{made_few}
use Rattle.gc_cycle.proofs.script.Worlds.{scripted_of, place_here}

module _ {R W E M : Type 0} (kit : Kit R W E M) (by : Stepping R W E M) (laws : Laws kit by) (w : State R W E M) (lw : Lawful kit w) where
  -- each thread has no more answers than commands
  answers_few : (u : ℕ) → 1 ≤ u → u ≤ length w.commands → length (answers_at w.told.answers u) ≤ length (commands_at w.commands u)
  answers_few u least most = let script = lw.script in let thread = lw.threads u (least, omega (arith, most, script.threads)) in thread.fit

  -- so there are no more in all, and no more changes
  changes_few : changes_now w < 2 ^ 31
  changes_few =
      let room = lw.room in
      let script = lw.script in
      let each : (i : ℕ) → i < length w.commands → length (get_or w.told.answers i []) ≤ length (get_or w.commands i []) = λ i within.
      let place : i + 1 - 1 ≡ i = omega arith in
      subst (λ (k : ℕ). length (get_or w.told.answers k []) ≤ length (get_or w.commands k [])) place (answers_few (i + 1) (omega arith) (omega (arith, within))) in
      let fewer : sum_by length w.told.answers ≤ total w.commands = sum_by-le length length [] [] w.told.answers w.commands room.threads each in
      omega (arith, length-changes_of w.told.log, room.calls, fewer, script.few)

  module _ (party : ℕ) (is : IsPass w.layout party) where
    pub is_there : IsThere w party
    is_there = let script = lw.script in let room = lw.room in record {
      least = is.0;
      passes = omega (arith, is.1, lw.passes);
      commands = omega (arith, is.1, script.threads);
      answers = omega (arith, is.1, script.threads, room.threads);
    }

    -- after its step too
    pub there_then : IsThere (stepped kit by w party) party
    there_then = let there = is_there in record { least = there.least; passes = omega (arith, there.passes, length-set w.passes (party - 1) (fed_at kit by w party)); commands = there.commands; answers = there.answers }

    -- where a command is left there is room for what it will tell
    tells : answered w party < length (commands_at w.commands party) → CanTell w party
    tells left =
        let script = lw.script in
        let room = lw.room in
        let many : party ≤ length w.commands = omega (arith, is.1, script.threads) in
        let its : room_at w.told.rooms party ≡ length (commands_at w.commands party) = ap (λ (xs : List ℕ). room_at xs party) room.answers ∙ room_at-opening w.commands party is.0 many in
        let fewer = answers_missing w.told.answers w.commands party room.threads answers_few is.0 many left in
        let place = before_below w.commands (party - 1) (answered w party) left in
        record {
          there = is_there;
          room = omega (arith, its, left);
          log = omega (arith, room.log, room.calls, fewer);
          agains = omega (arith, room.agains, place);
          few = omega (arith, script.few, place);
          changes = changes_few;
        }

    pub tells_then : answered w party < length (commands_at w.commands party) → CanTell (stepped kit by w party) party
    tells_then left = let can = tells left in record { there = there_then; room = can.room; log = can.log; agains = can.agains; few = can.few; changes = can.changes }

    -- ---- the step

    module _ (on : asks_at kit by w party ≢ Ended) where
      few_made : (let p = pass_at w party in p.made) < 262144
      few_made = made_few kit by laws w lw party is

      births : (made : ℕ) → made < 262144 → (end : MachineEnd) → HasBirths made end
      births made few (ends.New (new_end.Made birth at room)) = few
      births made few (ends.New (new_end.Refused why)) = tt
      births made few (ends.Poll end) = tt
      births made few (ends.Read end) = tt
      births made few (ends.Write end) = tt
      births made few (ends.Exchange end) = tt
      births made few ends.Retire = tt

      inside : IsInside (length w.words) (asks_at kit by w party)
      inside =
          let records = lw.records in
          let announcement = announced kit laws.minds w.layout w.words (records_in w) records in
          subst (λ (len : ℕ). IsInside len (asks_at kit by w party)) (sym records.width)
          (inside_of kit by laws laws.cycle w.layout (announced_by records.collector) (cycle_of records.collector) records.space records.notices w.words (known_in w (pass_at w party)) (stands kit by laws w lw party is few_made announcement on))

      settles_by : (x : PassRecord R W E) → pass_at (stepped kit by w party) party ≡ x → x ≡ fed_at kit by w party → (end : MachineEnd) → ended_of kit x.machine ≡ Some end → CanConclude (stepped kit by w party) party end
      settles_by x at same end over =
          let records = lw.records in
          let script = lw.script in
          let announcement = announced kit laws.minds w.layout w.words (records_in w) records in
          let here : pass_at (stepped kit by w party) party ≡ fed_at kit by w party = at ∙ same in
          let ended : ended_of kit (let p = fed_at kit by w party in p.machine) ≡ Some end = ap (λ (y : PassRecord R W E). ended_of kit y.machine) (sym same) ∙ over in
          let can = concludes kit by laws w lw party is few_made announcement on end ended in
          record {
            there = there_then;
            births = births _ (omega (arith, ap (λ (y : PassRecord R W E). y.made) here, few_made)) end;
            word = can.0;
            follow = λ c left. record {
              tell = tells_then (below_of_get (commands_at w.commands party) (answered w party) c left);
              ready = subst (λ (y : PassRecord R W E). IsReady w.layout (with_end y end)) (sym here) (can.1 c left);
              fits = All-slice_get CommandFits (commands_at w.commands party) (answered w party) c (script.commands party is) left;
            };
          }

      pub can_take : CanTake kit by w party
      can_take = record {
        inside = inside;
        goes_on = on;
        settle = record {
          there = there_then;
          conclude = λ end over. settles_by (pass_at (stepped kit by w party) party) refl (place_here kit w (scripted_of kit w lw) party is (fed_at kit by w party)) end over;
        };
      }
