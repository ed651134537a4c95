-- What the step of any machine says, and the words of its pass's registers after it.
use Rattle.std.specs.Prelude.{◌==◌, reverse, slice_index}
use Rattle.std.specs.List.{All}
use Rattle.std.proofs.Common.{◌≡◌, ◌≢◌, ℕ, ◌<◌, ◌≤◌, false, List, [], ◌∷◌, ◌++◌, length, Option, Some, None, refl, sym, subst}
use Rattle.std.proofs.lemmas.List.{get_or_default}
use Rattle.heap_words.specs.Layouts.{Sizes, IsLayout, IsPass}
use Rattle.heap_words.specs.Packing.{packing}
use Rattle.heap_words.specs.FieldWords.{IsFieldWord}
use Rattle.heap_words.specs.declared.field_word.FieldWord.{FieldWord}
use Rattle.heap_words.specs.declared.field_word.FieldWord.TheVariants.{Num}
use Rattle.heap_history.specs.declared.call.Call.{Call}
use Rattle.heap_history.specs.declared.call.Ended.{Ended as EndedCall}
use Rattle.heap_history.specs.Logs.{changes_of}
use Rattle.heap_script.specs.declared.script.Command.{Command}
use Rattle.heap_script.specs.declared.script.Command.TheVariants as commands
use Rattle.heap_script.specs.Scripts.{CommandFits}
use Rattle.call_steps.specs.declared.step.Step.{Step}
use Rattle.call_steps.specs.declared.step.Step.TheVariants as steps
use Rattle.call_steps.specs.Steps.{found_by, place_of}
use Rattle.handshakes.specs.Handshakes.{Announced}
use Rattle.handshakes.specs.Polling.{held_in}
use Rattle.barriers.specs.declared.ends.NewEnd.{NewEnd}
use Rattle.barriers.specs.declared.ends.NewEnd.TheVariants as new_end
use Rattle.barriers.specs.declared.machine_end.MachineEnd.{MachineEnd}
use Rattle.barriers.specs.declared.machine_end.MachineEnd.TheVariants as ends
use Rattle.barriers.specs.declared.pass.PassRecord.{PassRecord}
use Rattle.barriers.specs.declared.pass.PassMachine.{PassMachine}
use Rattle.barriers.specs.declared.pass.PassMachine.TheVariants as machine
use Rattle.barriers.specs.Cycles.{Cycle}
use Rattle.barriers.specs.Spaces.{Space}
use Rattle.barriers.specs.Says.{Notices}
use Rattle.barriers.specs.Kits.{Kit, Stepping, Laws}
use Rattle.barriers.specs.Knowns.{Known}
use Rattle.barriers.specs.Records.{ended_of, with_end}
use Rattle.lawful_records.specs.Records.{known_of, registers_by}
use Rattle.lawful_records.specs.Turns.{pass_asks, pass_fed}
use Rattle.lawful_records.proofs.calls.CallSteps.{CallKept}
use Rattle.lawful_records.proofs.turns.NewTurns.{ClaimsFor}
use Rattle.gc_cycle.specs.Lawful.{IsAtCommand}
use Rattle.gc_cycle.proofs.script.Ends.{lens_made}
use Rattle.gc_cycle.proofs.script.Machines.{StepSays, IsAfterStep, poll_over, mapped, poll_says, retire_says, read_says, write_says, exchange_says}
use Rattle.gc_cycle.proofs.script.Making.{new_says}

-- ---- the word that a step finds

pub found_alike : (step : Step) (words : List ℕ) → step ≢ steps.Ended → found_by step words ≡ slice_index words (place_of step)
found_alike steps.Ended words on = absurd (on refl)
found_alike (steps.Load at) words on = refl
found_alike (steps.Store at put) words on = refl
found_alike (steps.Exchange at want put) words on = refl
found_alike (steps.Add at more) words on = refl
found_alike (steps.Sub at less) words on = refl

-- ---- words of registers

pub all_held : (registers : List FieldWord) → ((i : ℕ) → IsFieldWord (held_in registers i)) → All IsFieldWord registers
all_held registers each = λ i d within. subst IsFieldWord (get_or_default registers i (Num 0) d within) (each i)

module _ {R W E M : Type 0} (kit : Kit R W E M) where
  end_words : (q : PassRecord R W E) (end : NewEnd) → (let x = with_end q (ends.New end) in x.registers) ≡ q.registers
  end_words q (new_end.Made birth at room) = refl
  end_words q (new_end.Refused why) = refl

  -- the registers after a machine has ended
  pub words_after : (q : PassRecord R W E) (m : PassMachine R W E) (end : MachineEnd) → ended_of kit m ≡ Some end → ((i : ℕ) → IsFieldWord (held_in (registers_by m q.registers) i)) → All IsFieldWord (let x = with_end q end in x.registers)
  words_after q (machine.Poll x) end over each =
      let e = poll_over x end over in
      let polled : (i : ℕ) → IsFieldWord (held_in (let y = e.0 in y.registers) i) = λ i. subst (λ y. IsFieldWord (held_in (registers_by {R = R} {W = W} {E = E} (machine.Poll y) q.registers) i)) e.1 (each i) in
      subst (λ (y : MachineEnd). All IsFieldWord (let x = with_end q y in x.registers)) (sym e.2) (all_held (let y = e.0 in y.registers) polled)
  words_after q (machine.New x) end over each =
      let e = mapped _ _ end over in
      subst (λ (y : MachineEnd). All IsFieldWord (let x = with_end q y in x.registers)) (sym e.2) (subst (All IsFieldWord) (sym (end_words q e.0)) (all_held q.registers each))
  words_after q (machine.Read x) end over each = let e = mapped _ _ end over in subst (λ (y : MachineEnd). All IsFieldWord (let x = with_end q y in x.registers)) (sym e.2) (all_held q.registers each)
  words_after q (machine.Write x) end over each = let e = mapped _ _ end over in subst (λ (y : MachineEnd). All IsFieldWord (let x = with_end q y in x.registers)) (sym e.2) (all_held q.registers each)
  words_after q (machine.Exchange x) end over each = let e = mapped _ _ end over in subst (λ (y : MachineEnd). All IsFieldWord (let x = with_end q y in x.registers)) (sym e.2) (all_held q.registers each)
  words_after q (machine.Retire x) end over each = let e = mapped _ _ end over in subst (λ (y : MachineEnd). All IsFieldWord (let x = with_end q y in x.registers)) (sym e.2) (all_held q.registers each)
  words_after q machine.Idle end over each = absurd cc
  words_after q machine.Retired end over each = absurd cc

-- ---- every machine

-- where a claim finds a region in use, the pass's objects and this one need more regions than it has
abbrev pub NeedsAt : {R W E : Type 0} → Sizes → List EndedCall → ℕ → ℕ → PassMachine R W E → Type 0
NeedsAt l log pass n (machine.New y) = (len : ℕ) → ClaimsFor y len → (n == 0) ≡ false → l.quota < packing (lens_made log pass ++ len ∷ [])
NeedsAt l log pass n m = Unit {0}

module _ {R W E M : Type 0} (kit : Kit R W E M) (by : Stepping R W E M) (laws : Laws kit by) (l : Sizes) (a : Announced) (c : Cycle) (t : Space) (o : Notices) (log : List EndedCall) (hist : List Call) (hist_is : hist ≡ reverse (changes_of log))
    (p : PassRecord R W E) (seen mine : List Call) (es : List EndedCall) (count : p.seen ≡ length seen) (n : ℕ) (seal : Option (List Call)) (fits : IsLayout l) (in_layout : IsPass l (let view = p.view in view.pass)) (few : p.made < 262144) where
  abbrev Says : PassMachine R W E → Option Command → Type 0
  Says m command = StepSays kit by laws l a c t o log hist hist_is p seen mine es count n seal m command

  abbrev After : PassMachine R W E → Type 0
  After m = IsAfterStep kit by laws l a c t o log hist hist_is p seen mine es count n seal m

  abbrev pub Kept : PassMachine R W E → Type 0
  Kept m = (k next : Known) → known_of kit m ≡ Some k → known_of kit (pass_fed kit by m n) ≡ Some next → CallKept k next

  abbrev pub FitsAt : Option Command → Type 0
  FitsAt None = Unit {0}
  FitsAt (Some command) = CommandFits command

  pub says_of : (m : PassMachine R W E) (command : Option Command) → FitsAt command → IsAtCommand kit l (record p { machine = m }) command → pass_asks kit by m ≢ steps.Ended → NeedsAt l log (let view = p.view in view.pass) n m → Kept m → After m → Says m command
  says_of machine.Idle command fit at on more kept is = absurd (on refl)
  says_of machine.Retired command fit at on more kept is = absurd (on refl)
  says_of (machine.Poll x) (Some command) fit at on more kept is = poll_says kit by laws l a c t o log hist hist_is p seen mine es count n seal x command is
  says_of (machine.Retire x) None fit at on more kept is = retire_says kit by laws l a c t o log hist hist_is p seen mine es count n seal x
  says_of (machine.New y) (Some (commands.New dst len)) fit at on more kept is =
      new_says kit by laws l a c t o log hist hist_is p seen mine es count n seal fits in_layout dst len fit.1 few y at (more len) is
  says_of (machine.Read x) (Some (commands.Get dst obj field)) fit at on more kept is = read_says kit by laws l a c t o log hist hist_is p seen mine es count n seal x dst obj field at (kept _ _ refl refl) is
  says_of (machine.Write x) (Some (commands.Put obj field what)) fit at on more kept is = write_says kit by laws l a c t o log hist hist_is p seen mine es count n seal x obj field what at (kept _ _ refl refl) is
  says_of (machine.Exchange x) (Some (commands.Cas dst obj field expected value)) fit at on more kept is =
      exchange_says kit by laws l a c t o log hist hist_is p seen mine es count n seal x dst obj field expected value at (kept _ _ refl refl) is
  says_of m None fit at on more kept is = absurd at
  says_of m (Some (commands.New dst len)) fit at on more kept is = absurd at
  says_of m (Some (commands.Get dst obj field)) fit at on more kept is = absurd at
  says_of m (Some (commands.Put obj field what)) fit at on more kept is = absurd at
  says_of m (Some (commands.Cas dst obj field expected value)) fit at on more kept is = absurd at
  says_of m (Some (commands.Copy dst src)) fit at on more kept is = absurd at
  says_of m (Some (commands.Drop dst)) fit at on more kept is = absurd at
  says_of m (Some commands.Poll) fit at on more kept is = absurd at
