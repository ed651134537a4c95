-- What a world shows: its history, and the answers of its threads.
use Rattle.std.specs.Prelude.{◌≡◌, ℕ, ◌≤◌, true, List, length, take}
use Rattle.std.specs.List.{All}
use Rattle.heap_words.specs.Layouts.{IsPass}
use Rattle.heap_history.specs.declared.call.Entry.{Entry}
use Rattle.heap_history.specs.FixedHeaps.{opening}
use Rattle.heap_history.specs.Histories.{IsLegal, IsAccepted, changes}
use Rattle.heap_history.specs.Logs.{changes_of, of_pass, passes_of, AreOfPasses}
use Rattle.heap_history.specs.Arranged.{arranged, shown, IsPlaced}
use Rattle.heap_script.specs.Scripts.{Reading}
use Rattle.heap_script.specs.Allowed.{Seat, IsRun, IsAllowed, first_seat}
use Rattle.heap_script.specs.Commands.{commands_at, commands_by}
use Rattle.heap_script.specs.Tellings.{ended_in}
use Rattle.heap_script.specs.TellingSteps.{answers_at}
use Rattle.barriers.specs.Kits.{Kit, Stepping}
use Rattle.gc_cycle.specs.Worlds.{State, answered}
use Rattle.gc_cycle.specs.Runs.{is_over}

-- the world plays this script
pub record Plays {R W E M : Type 0} (w : State R W E M) (script : Reading) : Type 0 where
  pub layout : w.layout ≡ script.layout
  pub commands : w.commands ≡ commands_by script.layout.passes script.lines

-- The commands that a thread has ended are a run in the history, and its calls stand among the arranged ones as those of
-- this run, in its order and with its fronts.
pub record ShowsThread {R W E M : Type 0} (w : State R W E M) (party : ℕ) : Type 0 where
  pub fronts : List ℕ
  pub seat : Seat
  pub run : IsRun w.layout.quota party (changes_of w.told.log) first_seat
      (take (answered w party) (commands_at w.commands party)) (answers_at w.told.answers party) fronts seat
  pub calls : of_pass party (arranged w.told.log) ≡ ended_in party first_seat
      (take (answered w party) (commands_at w.commands party)) (answers_at w.told.answers party) fronts

module _ {R W E M : Type 0} (kit : Kit R W E M) (by : Stepping R W E M) where
  -- The entries are the calls that have ended, arranged by their fronts: a heap whose objects never move accepts them,
  -- and each stands where its front says. They are a legal history of the threads, whose calls they are. Where every
  -- party has ended, the answers are allowed for the changes among them. No thread has more answers than a script has
  -- commands.
  pub record Shows (w : State R W E M) (entries : List Entry) : Type 0 where
    pub entries_are : entries ≡ shown w.told.log
    pub accepted : IsAccepted opening entries
    pub changes_are : changes entries ≡ changes_of w.told.log
    pub placed : IsPlaced 0 (arranged w.told.log)
    pub legal : IsLegal (changes entries) (passes_of w.layout.passes 1 (arranged w.told.log))
    pub owners : AreOfPasses w.layout.passes w.told.log
    pub threads : (party : ℕ) → IsPass w.layout party → ShowsThread w party
    pub allowed : (script : Reading) → Plays w script → is_over kit by w ≡ true
        → IsAllowed script (changes entries) w.told.answers
    pub few : All (λ answers. length answers ≤ 65536) w.told.answers
