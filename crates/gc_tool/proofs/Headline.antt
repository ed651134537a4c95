-- What is printed of a world that has played a script to its end is the output of the replay.
use Rattle.std.proofs.Common.{◌≡◌, ℕ, ◌<◌, ◌≤◌, List, true, false, refl, sym, ap, ◌∙◌, subst, arith, inl, inr}
use Rattle.std.specs.Prelude.{Result, Ok, IsOk}
use Rattle.std.proofs.lemmas.Bool.{cases_order}
use Rattle.heap_script.specs.Scripts.{Reading}
use Rattle.heap_script.specs.Allowed.{IsAllowed}
use Rattle.heap_history.specs.FixedHeaps.{opening}
use Rattle.heap_history.specs.Histories.{IsAccepted, changes}
use Rattle.barriers.specs.Kits.{Kit, Stepping, Laws}
use Rattle.gc_cycle.specs.declared.schedule.Schedule.{Schedule}
use Rattle.gc_cycle.specs.declared.schedule.Schedule.TheVariants.{Solo}
use Rattle.gc_cycle.specs.Worlds.{State, opening_state}
use Rattle.gc_cycle.specs.Lawful.{Lawful}
use Rattle.gc_cycle.specs.Runs.{run_of, is_over, enough_steps}
use Rattle.gc_cycle.specs.Shows.{Plays, Shows}
use Rattle.gc_cycle.proofs.SoloEnds.{solo_ends}
use Rattle.gc_cycle.proofs.Starting.{lawful_at_start}
use Rattle.gc_cycle.proofs.solo.PlaysAlone.{PlaysAlone}
use Rattle.gc_tool.specs.declared.forms.Copying.{Copying}
use Rattle.gc_tool.specs.declared.forms.Replay.{Replay}
use Rattle.gc_tool.specs.declared.status.Status.{Status}
use Rattle.gc_tool.specs.declared.status.Status.TheVariants.{Done, Usage, ReadFault, TooLong, ScriptFault, WriteFault, StepsSpent, OutOfMemory, NotBuilt}
use Rattle.gc_tool.specs.Forms.{IsBuilt}
use Rattle.gc_tool.specs.Runs.{world_after, all_end, ends_with, ends_within, entries_of, text_of_world, IsTextOf, IsOutput, IsOutputOver, IsOutputWith, IsStop, IsStopOver}

below : (n m : ℕ) → (m ≤ n → ⊥) → n < m
below n m not_above = elim (cases_order n m) [
  | inl same ↦ absurd (not_above (omega (arith, same)))
  | inr (inl less) ↦ less
  | inr (inr more) ↦ absurd (not_above (omega (arith, more)))
]

-- a run from the world of a script at its start, over any copier
module _ {R W E M : Type 0} (kit : Kit R W E M) (by : Stepping R W E M) (script : Reading) (replay : Replay) (before after : State R W E M) (first : before ≡ opening_state kit script 1) (taken : after ≡ run_of kit by replay.schedule replay.steps before) where
  same : after ≡ world_after kit by script replay
  same = taken ∙ ap (run_of kit by replay.schedule replay.steps) first

  -- it plays the script
  plays : after.layout ≡ before.layout → after.commands ≡ before.commands → Plays after script
  plays layout commands = record { layout = layout ∙ ap (λ (w : State R W E M). w.layout) first; commands = commands ∙ ap (λ (w : State R W E M). w.commands) first }

  -- The text of the world that was played to its end is the output.
  pub printed_output : after.layout ≡ before.layout → after.commands ≡ before.commands → is_over kit by after ≡ true → (text : List ℕ) → IsTextOf kit by after text → IsOutputOver kit by script replay text
  printed_output layout commands over text printed =
      let Told : State R W E M → Type 0 = λ w. text ≡ text_of_world kit by w in
      let Accepted : State R W E M → Type 0 = λ w. IsAccepted opening (entries_of kit by w) in
      let Allowed : State R W E M → Type 0 = λ w. IsAllowed script (changes (entries_of kit by w)) w.told.answers in
      let Showing : State R W E M → Type 0 = λ w. Shows kit by w (entries_of kit by w) in
      record {
        ends = sym (ap (is_over kit by) same) ∙ over;
        told = subst Told same printed.told;
        accepted = subst Accepted same printed.shows.accepted;
        allowed = subst Allowed same (printed.shows.allowed script (plays layout commands) over);
        shows = subst Showing same printed.shows;
      }

  -- Where it was not played to its end, the steps were spent.
  pub not_over : is_over kit by after ≡ false → all_end kit by script replay ≡ false
  not_over going = sym (ap (is_over kit by) same) ∙ going

-- Want of memory is a cause of its own.
pub memory_stops : {R W E M : Type 0} (kit : Kit R W E M) (by : Stepping R W E M) (script : Reading) (replay : Replay) (status : Status) → status ≡ OutOfMemory → IsStopOver kit by script replay status
memory_stops kit by script replay status is = subst (IsStopOver kit by script replay) (sym is) tt

-- ---- with solo

-- Over a copier that plays alone the steps are enough: a replay that is not over has fewer.
module _ {R W E M : Type 0} (kit : Kit R W E M) (by : Stepping R W E M) (laws : Laws kit by) (alone : PlaysAlone kit by) where
  pub few_steps : (script : Reading) (replay : Replay) → IsBuilt script → all_end kit by script replay ≡ false → replay.schedule ≡ Solo → replay.steps < enough_steps script
  few_steps script replay built on solo =
      let lw : Lawful kit (opening_state kit script 1) = lawful_at_start kit by laws script 1 built.fits (opening_state kit script 1) refl in
      let Over : Schedule → Type 0 = λ schedule. is_over kit by (run_of kit by schedule replay.steps (opening_state kit script 1)) ≡ true in
      below replay.steps (enough_steps script) (λ enough.
      let over : all_end kit by script replay ≡ true = subst Over (sym solo) (solo_ends kit by alone laws script 1 lw replay.steps enough) in
      absurd (cc (on, over)))

  -- why the replay of such a script has no output
  pub stop_of : (script : Reading) (replay : Replay) → IsBuilt script → ends_within script replay ≡ all_end kit by script replay → (status : Status) → IsStopOver kit by script replay status → IsStop script replay status
  stop_of script replay built same (StepsSpent n) (is, on) = (is, record { on = same ∙ on; few = few_steps script replay built on })
  stop_of script replay built same OutOfMemory stop = tt
  stop_of script replay built same Done stop = absurd stop
  stop_of script replay built same (Usage index) stop = absurd stop
  stop_of script replay built same ReadFault stop = absurd stop
  stop_of script replay built same TooLong stop = absurd stop
  stop_of script replay built same (ScriptFault line kind) stop = absurd stop
  stop_of script replay built same WriteFault stop = absurd stop
  stop_of script replay built same NotBuilt stop = absurd stop

-- ---- with the copier of the replay

-- it ends as one with this copier does
pub ends_as : (copier : Copying) (script : Reading) (replay : Replay) → replay.copier ≡ copier → ends_within script replay ≡ ends_with copier script replay
ends_as copier script replay is = ap (λ (k : Copying). ends_with k script replay) is

pub output_as : (copier : Copying) (script : Reading) (replay : Replay) (text : List ℕ) → replay.copier ≡ copier → IsOutputWith copier script replay text → IsOutput script replay text
output_as copier script replay text is output = subst (λ (k : Copying). IsOutputWith k script replay text) (sym is) output

-- a result that is Ok
pub ok_is : {T E : Type 0} (r : Result T E) (x : T) → r ≡ Ok x → IsOk r
ok_is r x e = subst IsOk (sym e) refl
