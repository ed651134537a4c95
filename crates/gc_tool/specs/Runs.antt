-- What a replay comes to, and what a call of the program says of the outside.
use Rattle.std.specs.Prelude.{◌≡◌, ℕ, ◌<◌, ◌≤◌, Bool, true, false, if◌then◌else◌, List, length, Option, Some, Ok}
use Rattle.heap_history.specs.declared.call.Entry.{Entry}
use Rattle.heap_history.specs.FixedHeaps.{opening}
use Rattle.heap_history.specs.Histories.{IsAccepted, changes}
use Rattle.heap_script.specs.Scripts.{Reading}
use Rattle.heap_script.specs.FirstFault.{IsScript, IsFault}
use Rattle.heap_script.specs.Grammar.{Fault}
use Rattle.heap_script.specs.Allowed.{IsAllowed}
use Rattle.gc_cycle.specs.declared.schedule.Schedule.TheVariants.{Solo}
use Rattle.heap_history.specs.Arranged.{shown}
use Rattle.barriers.specs.Kits.{Kit, Stepping}
use Rattle.chicken_tags.specs.Chickens.{kit_of_chicken, steps_of_chicken}
use Rattle.clover_marks.specs.Clovers.{kit_of_clover, steps_of_clover}
use Rattle.stopless_copy.specs.StoplessLaws.{kit_of_stopless, steps_of_stopless}
use Rattle.gc_cycle.specs.Worlds.{State, opening_state}
use Rattle.gc_cycle.specs.Runs.{run_of, is_over, enough_steps}
use Rattle.gc_cycle.specs.Shows.{Shows}
use Rattle.gc_tool.specs.declared.forms.Copying.{Copying}
use Rattle.gc_tool.specs.declared.forms.Copying.TheVariants as copying
use Rattle.gc_tool.specs.declared.forms.Replay.{Replay}
use Rattle.gc_tool.specs.declared.status.Status.{Status}
use Rattle.gc_tool.specs.declared.status.Status.TheVariants.{Done, Usage, ReadFault, TooLong, ScriptFault, WriteFault, StepsSpent, OutOfMemory, NotBuilt}
use Rattle.heap_report.specs.Reports.{history_text}
use Rattle.gc_tool.specs.Forms.{request_of, IsBuilt}
use Rattle.gc_tool.specs.Outside.{ReadsAll, Rose}

-- ---- a replay, over any copier

module _ {R W E M : Type 0} (kit : Kit R W E M) (by : Stepping R W E M) where
  -- the world of a script after at most the replay's steps under its schedule
  abbrev pub world_after : Reading → Replay → State R W E M
  world_after script replay = run_of kit by replay.schedule replay.steps (opening_state kit script 1)

  -- all threads of the script and the collector end within the steps
  abbrev pub all_end : Reading → Replay → Bool
  all_end script replay = is_over kit by (world_after script replay)

  -- what this world tells: the entries of its history, the refused tries, and the answers
  abbrev pub entries_of : State R W E M → List Entry
  entries_of w = shown w.told.log

  abbrev pub text_of_world : State R W E M → List ℕ
  text_of_world w = history_text (entries_of w) w.told.agains w.told.answers

  -- A text of a world: it tells what the world shows.
  pub record IsTextOf (w : State R W E M) (text : List ℕ) : Type 0 where
    pub told : text ≡ text_of_world w
    pub shows : Shows kit by w (entries_of w)

  -- The output of a replay: all parties end within its steps, and the text is that of its world. A heap whose objects never
  -- move accepts the world's entries, and the world's answers are allowed for the script and for the changes among them.
  -- Each thread's calls stand among the entries in the order of its commands, where their fronts say.
  pub record IsOutputOver (script : Reading) (replay : Replay) (text : List ℕ) : Type 0 where
    pub ends : all_end script replay ≡ true
    pub told : text ≡ text_of_world (world_after script replay)
    pub accepted : IsAccepted opening (entries_of (world_after script replay))
    pub allowed : IsAllowed script (changes (entries_of (world_after script replay))) (let w = world_after script replay in w.told.answers)
    pub shows : Shows kit by (world_after script replay) (entries_of (world_after script replay))

  -- why it has no output: its steps were spent and a party has not ended; or memory ran out
  abbrev pub IsStopOver : Reading → Replay → Status → Type 0
  IsStopOver script replay (StepsSpent n) = (n ≡ replay.steps) × (all_end script replay ≡ false)
  IsStopOver script replay OutOfMemory = Unit {0}
  IsStopOver script replay _ = ⊥

-- ---- a replay with its copier

-- all threads of the script and the collector end within the steps, with this copier
abbrev pub ends_with : Copying → Reading → Replay → Bool
ends_with copying.Stopless = all_end kit_of_stopless steps_of_stopless
ends_with copying.Chicken = all_end kit_of_chicken steps_of_chicken
ends_with copying.Clover = all_end kit_of_clover steps_of_clover

abbrev pub ends_within : Reading → Replay → Bool
ends_within script replay = ends_with replay.copier script replay

abbrev pub IsOutputWith : Copying → Reading → Replay → List ℕ → Type 0
IsOutputWith copying.Stopless = IsOutputOver kit_of_stopless steps_of_stopless
IsOutputWith copying.Chicken = IsOutputOver kit_of_chicken steps_of_chicken
IsOutputWith copying.Clover = IsOutputOver kit_of_clover steps_of_clover

abbrev pub IsOutput : Reading → Replay → List ℕ → Type 0
IsOutput script replay text = IsOutputWith replay.copier script replay text

-- A replay is too short: a party has not ended within its steps. With `solo` they are fewer than enough.
pub record IsShort (script : Reading) (replay : Replay) : Type 0 where
  pub on : ends_within script replay ≡ false
  pub few : replay.schedule ≡ Solo → replay.steps < enough_steps script

-- why a replay has no output: its steps were spent, and it is too short; or memory ran out
abbrev pub IsStop : Reading → Replay → Status → Type 0
IsStop script replay (StepsSpent n) = (n ≡ replay.steps) × IsShort script replay
IsStop script replay OutOfMemory = Unit {0}
IsStop script replay _ = ⊥

-- ---- the outside

-- the source was read to its end, and its bytes spell this script, which is played
pub record ReadsScript (old new : Option (List ℕ)) (script : Reading) : Type 0 where
  pub bytes : List ℕ
  pub all : ReadsAll old new bytes
  pub spells : IsScript bytes script
  pub built : IsBuilt script

-- the source was read to its end, and the first line with a fault is this one
pub record ReadsFault (old new : Option (List ℕ)) (fault : Fault) : Type 0 where
  pub bytes : List ℕ
  pub all : ReadsAll old new bytes
  pub is : IsFault bytes fault

-- the source was read to its end, and its bytes spell a script that is not played yet
pub record ReadsUnbuilt (old new : Option (List ℕ)) : Type 0 where
  pub bytes : List ℕ
  pub all : ReadsAll old new bytes
  pub script : Reading
  pub spells : IsScript bytes script
  pub unbuilt : ¬ (IsBuilt script)

-- the source was read to its end, and the replay is too short for its script
pub record ReadsLonger (old new : Option (List ℕ)) (replay : Replay) : Type 0 where
  pub script : Reading
  pub read : ReadsScript old new script
  pub short : IsShort script replay

-- The cause of a status with which nothing is written, where this replay was asked for. What is read is told by the bytes that the
-- source has left before and after, and its count of faults before and after.
abbrev pub IsCause : Replay → Status → Option (List ℕ) → Option (List ℕ) → ℕ → ℕ → Type 0
IsCause replay ReadFault old new faults_old faults_new = Rose faults_old faults_new
IsCause replay (ScriptFault line kind) old new faults_old faults_new = ReadsFault old new (line, kind)
IsCause replay (StepsSpent n) old new faults_old faults_new = (n ≡ replay.steps) × ReadsLonger old new replay
IsCause replay NotBuilt old new faults_old faults_new = ReadsUnbuilt old new
IsCause replay TooLong old new faults_old faults_new = Unit {0}
IsCause replay OutOfMemory old new faults_old faults_new = Unit {0}
IsCause replay (Usage index) old new faults_old faults_new = ⊥
IsCause replay Done old new faults_old faults_new = ⊥
IsCause replay WriteFault old new faults_old faults_new = ⊥

-- The words ask for a replay of the script that was read to the end of the source, and this text is its output.
pub record Asks (words : List (List ℕ)) (old new : Option (List ℕ)) (text : List ℕ) : Type 0 where
  pub script : Reading
  pub replay : Replay
  pub replay_is : request_of words ≡ Ok replay
  pub read : ReadsScript old new script
  pub output : IsOutput script replay text

-- The words ask for this number of steps of the script that was read to the end of the source, and a party has not ended within them.
pub record Spends (words : List (List ℕ)) (old new : Option (List ℕ)) (n : ℕ) : Type 0 where
  pub replay : Replay
  pub replay_is : request_of words ≡ Ok replay
  pub steps_are : n ≡ replay.steps
  pub longer : ReadsLonger old new replay

-- The words ask for this replay, and the source tells these bytes, which are no longer than an input may be.
pub record IsHonest (words : List (List ℕ)) (left : Option (List ℕ)) (replay : Replay) (bytes : List ℕ) : Type 0 where
  pub replay_is : request_of words ≡ Ok replay
  pub told : left ≡ Some bytes
  pub short : length bytes ≤ 1048576

-- the status of a replay of a script that is played, where nothing fails
abbrev pub status_after : Reading → Replay → Status
status_after script replay = if ends_within script replay then Done else StepsSpent replay.steps

-- The status of a replay of these bytes, where nothing fails: of a script that is played, of another one, and of bytes with a fault.
pub record Answers (bytes : List ℕ) (replay : Replay) (status : Status) : Type 0 where
  pub played : (script : Reading) → IsScript bytes script → IsBuilt script → status ≡ status_after script replay
  pub enough : (script : Reading) → IsScript bytes script → IsBuilt script → replay.schedule ≡ Solo → enough_steps script ≤ replay.steps → status ≡ Done
  pub unbuilt : (script : Reading) → IsScript bytes script → ¬ (IsBuilt script) → status ≡ NotBuilt
  pub fault : (fault : Fault) → IsFault bytes fault → status ≡ ScriptFault fault.0 fault.1
