-- What the cause of a status says where the outside is honest.
use Rattle.std.proofs.Common.{◌≡◌, ◌≢◌, ℕ, ◌<◌, ◌≤◌, ◌⊎◌, ◌↔◌, inl, inr, List, length, true, false, Option, Some, None, Result, Ok, Err, refl, sym, ap, ◌∙◌, subst, arith, length-append}
use Rattle.std.specs.Prelude.{IsErrOf}
use Rattle.heap_script.specs.Scripts.{Reading}
use Rattle.heap_script.specs.FirstFault.{IsScript, IsFault}
use Rattle.heap_script.specs.Grammar.{Fault}
use Rattle.heap_script.specs.UniqueLaws.{one_script, script_or_fault, one_fault}
use Rattle.gc_tool.specs.declared.forms.Replay.{Replay}
use Rattle.gc_tool.specs.declared.status.Status.{Status}
use Rattle.gc_tool.specs.declared.status.Status.TheVariants.{Done, Usage, ReadFault, TooLong, ScriptFault, WriteFault, StepsSpent, OutOfMemory, NotBuilt}
use Rattle.gc_tool.specs.Forms.{request_of, IsBuilt}
use Rattle.gc_tool.specs.Outside.{Gave, ReadsAll}
use Rattle.gc_cycle.specs.declared.schedule.Schedule.TheVariants.{Solo}
use Rattle.gc_cycle.specs.Runs.{enough_steps}
use Rattle.gc_tool.specs.declared.forms.Copying.{Copying}
use Rattle.gc_tool.specs.declared.forms.Copying.TheVariants as copying
use Rattle.gc_tool.specs.Runs.{ends_with, ends_within, status_after, Answers, IsOutput, IsOutputWith, IsShort, IsCause, ReadsScript, IsHonest}

-- what was read is what the source told
same_bytes : (old new : Option (List ℕ)) (read told : List ℕ) → ReadsAll old new read → old ≡ Some told → read ≡ told
same_bytes None new read told all is = absurd cc
same_bytes (Some bytes) new read told all is = let same : bytes ≡ told = cc in sym all.0 ∙ same

-- the words ask for one replay
same_replay : (asked : Result Replay Status) (m n : Replay) → asked ≡ Ok m → asked ≡ Ok n → m ≡ n
same_replay asked m n e f = cc

-- the source did not give too much
not_too_long : {T : Type 0} (r : Result T Status) (old new : Option (List ℕ)) (bytes : List ℕ) → r ≡ Err TooLong → Gave old new (λ given. IsErrOf r TooLong ↔ (1048576 < length given))
    → old ≡ Some bytes → length bytes ≤ 1048576 → ⊥
not_too_long r None new bytes is gave told short = absurd cc
not_too_long r (Some held) None bytes is gave told short = absurd gave
not_too_long r (Some held) (Some left) bytes is (given, parts, long) told short =
    let same : held ≡ bytes = cc in
    omega (arith, long.0 is, ap length parts, length-append given left, ap length same, short)

-- an output is that of a replay whose parties have ended
output_ends : (copier : Copying) (script : Reading) (replay : Replay) (text : List ℕ) → IsOutputWith copier script replay text → ends_with copier script replay ≡ true
output_ends copying.Stopless script replay text output = output.ends
output_ends copying.Chicken script replay text output = output.ends
output_ends copying.Clover script replay text output = output.ends

after_on : (script : Reading) (replay : Replay) → ends_within script replay ≡ false → StepsSpent replay.steps ≡ status_after script replay
after_on script replay on = rw on refl

after_over : (script : Reading) (replay : Replay) → ends_within script replay ≡ true → Done ≡ status_after script replay
after_over script replay over = rw over refl

-- the answer to bytes that spell a script which is played
answers_script : (bytes : List ℕ) (replay : Replay) (script : Reading) (status : Status) → IsScript bytes script → IsBuilt script → status ≡ status_after script replay
    → (replay.schedule ≡ Solo → enough_steps script ≤ replay.steps → status ≡ Done) → Answers bytes replay status
answers_script bytes replay script status spells built is many = record {
  played = λ other says ready. subst (λ (s : Reading). status ≡ status_after s replay) (one_script bytes script other spells says) is;
  enough = λ other says ready solo steps. many solo (subst (λ (s : Reading). enough_steps s ≤ replay.steps) (one_script bytes other script says spells) steps);
  unbuilt = λ other says unbuilt. absurd (unbuilt (subst IsBuilt (one_script bytes script other spells says) built));
  fault = λ fault is_fault. absurd (script_or_fault bytes script fault spells is_fault);
}

-- to bytes that spell another script
answers_unbuilt : (bytes : List ℕ) (replay : Replay) (script : Reading) → IsScript bytes script → ¬ (IsBuilt script) → Answers bytes replay NotBuilt
answers_unbuilt bytes replay script spells unbuilt = record {
  played = λ other says ready. absurd (unbuilt (subst IsBuilt (one_script bytes other script says spells) ready));
  enough = λ other says ready solo many. absurd (unbuilt (subst IsBuilt (one_script bytes other script says spells) ready));
  unbuilt = λ other says none. refl;
  fault = λ fault is_fault. absurd (script_or_fault bytes script fault spells is_fault);
}

-- to bytes with a fault
answers_fault : (bytes : List ℕ) (replay : Replay) (fault : Fault) → IsFault bytes fault → Answers bytes replay (ScriptFault fault.0 fault.1)
answers_fault bytes replay fault is = record {
  played = λ script spells built. absurd (script_or_fault bytes script fault spells is);
  enough = λ script spells built solo many. absurd (script_or_fault bytes script fault spells is);
  unbuilt = λ script spells none. absurd (script_or_fault bytes script fault spells is);
  fault = λ other is_other. ap (λ (f : Fault). ScriptFault f.0 f.1) (one_fault bytes fault other is is_other);
}

module _ (words : List (List ℕ)) (old new : Option (List ℕ)) (asked : Replay) (is_asked : request_of words ≡ Ok asked) (replay : Replay) (bytes : List ℕ) (honest : IsHonest words old replay bytes) where
  same_asked : asked ≡ replay
  same_asked = same_replay (request_of words) asked replay is_asked honest.replay_is

  -- where nothing is written
  pub stopped : {T : Type 0} (status : Status) (r : Result T Status) (faults_old faults_new : ℕ) → r ≡ Err status → IsCause asked status old new faults_old faults_new
      → Gave old new (λ given. IsErrOf r TooLong ↔ (1048576 < length given)) → status ≢ ReadFault → Answers bytes replay status ⊎ (status ≡ OutOfMemory)
  stopped ReadFault r fo fn is cause gave quiet = absurd (quiet refl)
  stopped TooLong r fo fn is cause gave quiet = absurd (not_too_long r old new bytes is gave honest.told honest.short)
  stopped (ScriptFault line kind) r fo fn is cause gave quiet =
      let same = same_bytes old new cause.bytes bytes cause.all honest.told in
      inl (answers_fault bytes replay (line, kind) (subst (λ (b : List ℕ). IsFault b (line, kind)) same cause.is))
  stopped (StepsSpent n) r fo fn is (n_is, longer) gave quiet =
      let same = same_bytes old new longer.read.bytes bytes longer.read.all honest.told in
      let spells = subst (λ (b : List ℕ). IsScript b longer.script) same longer.read.spells in
      let short : IsShort longer.script replay = subst (IsShort longer.script) same_asked longer.short in
      inl (answers_script bytes replay longer.script (StepsSpent n) spells longer.read.built (ap StepsSpent (n_is ∙ ap (λ (a : Replay). a.steps) same_asked) ∙ after_on longer.script replay short.on)
      (λ solo enough. absurd (omega (arith, short.few solo, enough))))
  stopped NotBuilt r fo fn is cause gave quiet =
      let same = same_bytes old new cause.bytes bytes cause.all honest.told in
      inl (answers_unbuilt bytes replay cause.script (subst (λ (b : List ℕ). IsScript b cause.script) same cause.spells) cause.unbuilt)
  stopped OutOfMemory r fo fn is cause gave quiet = inr refl
  stopped Done r fo fn is cause gave quiet = absurd cause
  stopped WriteFault r fo fn is cause gave quiet = absurd cause
  stopped (Usage index) r fo fn is cause gave quiet = absurd cause

  -- where all is written
  pub played : (script : Reading) (text : List ℕ) → ReadsScript old new script → IsOutput script asked text → Answers bytes replay Done
  played script text read output =
      let same = same_bytes old new read.bytes bytes read.all honest.told in
      let spells = subst (λ (b : List ℕ). IsScript b script) same read.spells in
      let over : ends_within script replay ≡ true = subst (λ (a : Replay). ends_within script a ≡ true) same_asked (output_ends asked.copier script asked text output) in
      answers_script bytes replay script Done spells read.built (after_over script replay over) (λ solo enough. refl)
