-- Worlds played under a schedule, and what a turn leaves and changes.
use Rattle.std.specs.Prelude.{◌≡◌, ◌≢◌, ℕ, zero, suc, ◌+◌, ◌*◌, ◌≤◌, ◌<◌, Bool, true, false, is_some, if◌then◌else◌, List, [], ◌∷◌, length, Option, Some}
use Rattle.std.specs.List.{filter, range_with_len}
use Rattle.heap_words.specs.Layouts.{IsPass, words_of}
use Rattle.call_steps.specs.declared.step.Step.{Step}
use Rattle.heap_history.specs.declared.call.Ended.{Ended}
use Rattle.heap_history.specs.Histories.{pass_of}
use Rattle.heap_script.specs.Scripts.{Reading}
use Rattle.heap_script.specs.TellingSteps.{with_refusal}
use Rattle.heap_script.specs.declared.script.Command.{Command}
use Rattle.heap_script.specs.declared.told.Again.{Again}
use Rattle.barriers.specs.declared.front.Front.{Front}
use Rattle.barriers.specs.declared.machine_end.MachineEnd.{MachineEnd}
use Rattle.barriers.specs.Kits.{Kit, Stepping}
use Rattle.barriers.specs.Records.{with_end, ended_of}
use Rattle.lawful_records.specs.Turns.{change_by, front_by}
use Rattle.gc_cycle.specs.declared.schedule.Chooser.{Chooser}
use Rattle.gc_cycle.specs.declared.schedule.Schedule.{Schedule}
use Rattle.gc_cycle.specs.declared.sequel.Sequel.{Sequel}
use Rattle.gc_cycle.specs.declared.sequel.Sequel.TheVariants as sequel
use Rattle.gc_cycle.specs.Schedules.{chooser_of, chosen_by}
use Rattle.gc_cycle.specs.Sequels.{sequel_of}
use Rattle.gc_cycle.specs.Worlds.{State, pass_at, command_at, changes_now, place_of_command, logged, seen_with, face_of, can_step, found_at, seal_at, fed_at, next_of, turn_of}

-- ---- runs

-- Where one thread plays after another, a command takes a poll and at most 17 steps, or where it makes an object one for each
-- region of its thread and four more; and a thread that retires takes ten: it stores eight registers, the word of its region
-- and its acknowledgement. Then the collector stores each of the five phases of a cycle, and loads the acknowledgement of each
-- thread; a cycle with a job takes at most 157 steps more, and one that seeks a mark draws it at most eight times, announces
-- each draw, and loads at most 96 words for each region. So 64 steps, and one for each region of a thread, are enough for a
-- line, 64 for a thread, and for a cycle 64 for each word of the table.
abbrev pub enough_steps : Reading → ℕ
enough_steps script =
    length script.lines * (64 + script.layout.quota) + script.layout.passes * 64 + (script.cycles + 1) * 64 * words_of script.layout

abbrev pub is_none : List ℕ → Bool
is_none [] = true
is_none (party ∷ rest) = false

module _ {R W E M : Type 0} (kit : Kit R W E M) (by : Stepping R W E M) where
  -- the parties that can step, in rising order
  abbrev pub ready_of : State R W E M → List ℕ
  ready_of w = filter (can_step kit by w) (range_with_len 1 (w.layout.passes + 1))

  -- every party has ended
  abbrev pub is_over : State R W E M → Bool
  is_over w = is_none (ready_of w)

  -- at most so many turns, each of the party that the chooser names among those that can step
  abbrev pub turns_of : ℕ → Chooser → State R W E M → State R W E M
  turns_of zero chooser w = w
  turns_of (suc n) chooser w =
      if is_over w
      then w
      else turns_of n (chosen_by chooser (ready_of w)).1 (turn_of kit by w (chosen_by chooser (ready_of w)).0)

  abbrev pub run_of : Schedule → ℕ → State R W E M → State R W E M
  run_of schedule steps w = turns_of steps (chooser_of schedule) w

  -- so many turns of one party
  abbrev pub alone : ℕ → ℕ → State R W E M → State R W E M
  alone zero party w = w
  alone (suc n) party w = alone n party (turn_of kit by w party)

  -- The party took turns until its next step was this one, or the limit was reached.
  pub record IsTo (w : State R W E M) (party : ℕ) (step : Step) (limit : ℕ) (new : State R W E M) (reached : Bool) : Type 0 where
    pub count : ℕ
    pub within : count ≤ limit
    pub new_is : new ≡ alone count party w
    pub earlier : (k : ℕ) → k < count → next_of kit by (alone k party w) party ≢ step
    pub yes : reached ≡ true → next_of kit by new party ≡ step
    pub never : reached ≡ false → (count ≡ limit) × (next_of kit by new party ≢ step)

  -- ---- what a turn does to the history and to the counts

  -- whether the step of a party's turn is a call's change
  abbrev pub decides_at : State R W E M → ℕ → Bool
  decides_at w party = let p = pass_at w party in let view = p.view in is_some (change_by kit by p.machine view.pass (found_at kit by w party))

  -- the front of the look that it is
  abbrev pub front_at : State R W E M → ℕ → Front
  front_at w party = let p = pass_at w party in front_by kit by p.machine (found_at kit by w party)

  -- how many changes a pass has seen after its step, where that is no change
  abbrev pub looked_at : State R W E M → ℕ → ℕ
  looked_at w party = let p = pass_at w party in seen_with (front_at w party) (seal_at kit by w party) (changes_now w) p.seen

  -- the counts of refused tries after a step: a try that the step ended, and that others raced or the phase refused, is counted
  abbrev pub counted : State R W E M → ℕ → Sequel → List Again
  counted w party (sequel.Retries why) = with_refusal w.told.agains (place_of_command w party) why
  counted w party _ = w.told.agains

  -- what comes of a step, at the command that the party is at
  abbrev pub sequel_at : State R W E M → ℕ → Option MachineEnd → Option Command → Sequel
  sequel_at w party (Some end) (Some command) = sequel_of (changes_now w) command (face_of (with_end (fed_at kit by w party) end)) end
  sequel_at w party end command = sequel.Nothing

  abbrev pub counts_after : State R W E M → ℕ → List Again
  counts_after w party = counted w party (sequel_at w party (let p = fed_at kit by w party in ended_of kit p.machine) (command_at w party))

  -- What a turn of a party leaves and changes of what was seen and told: at most one call ends, one of this party; where its step decides
  -- a change, there is one more and the party has seen all, and where not, it has seen what its look has, all so far or all at a seal; it
  -- has seen no less than before; a call that ends has the front that its party has seen; a refused try, and nothing else, is counted.
  pub record Moves (w : State R W E M) (party : ℕ) (new : State R W E M) : Type 0 where
    pub others : (q : ℕ) → IsPass w.layout q → q ≢ party → pass_at new q ≡ pass_at w q
    pub call : Option Ended
    pub log : new.told.log ≡ logged w.told.log call
    pub changes : changes_now new ≡ changes_now w + (if decides_at w party then 1 else 0)
    pub looked : decides_at w party ≡ false → (let p = pass_at new party in p.seen) ≡ looked_at w party
    pub made : decides_at w party ≡ true → (let p = pass_at new party in p.seen) ≡ changes_now new
    pub later : (let p = pass_at w party in p.seen) ≤ (let p = pass_at new party in p.seen)
    pub told : (e : Ended) → call ≡ Some e → (pass_of e.call ≡ party) × (e.front ≡ (let p = pass_at new party in p.seen))
    pub counts : new.told.agains ≡ counts_after w party
