-- What a turn keeps and leaves.
use Rattle.std.proofs.Common.{◌≡◌, ◌≢◌, ℕ, ◌≤◌, sym, subst, length}
use Rattle.heap_words.specs.Layouts.{IsPass}
use Rattle.object_headers.specs.declared.change.Kind.{Kind}
use Rattle.call_steps.specs.declared.step.Step.TheVariants.{Ended}
use Rattle.heap_script.specs.Scripts.{Reading}
use Rattle.barriers.specs.declared.pass.PassMachine.TheVariants.{Retired}
use Rattle.barriers.specs.Kits.{Kit, Stepping, Laws}
use Rattle.gc_cycle.specs.Worlds.{State, pass_at, asks_at, IsParty, CanTake, turn_of, opening_state, collector_asks, collected}
use Rattle.gc_cycle.specs.Lawful.{Lawful, IsScript}
use Rattle.lawful_records.specs.HeaderChanges.{HeadersChange}
use Rattle.gc_cycle.proofs.script.Taking as taking
use Rattle.gc_cycle.proofs.script.Turns as turns
use Rattle.gc_cycle.specs.Runs.{Moves}
use Rattle.gc_cycle.proofs.records.Heads.{turn_heads}
use Rattle.gc_cycle.proofs.records.TurnLaws.{turn_records}
use Rattle.gc_cycle.proofs.records.TurnLaws as records
use Rattle.gc_cycle.proofs.opening.Opened.{opening_is_lawful}
use Rattle.gc_cycle.proofs.records.Endings.{collected_ended}

module _ {R W E M : Type 0} (kit : Kit R W E M) (by : Stepping R W E M) (laws : Laws kit by) where
  -- a thread whose machine asks for a step can take it
  pub can_take : (w : State R W E M) → Lawful kit w → (party : ℕ) → IsPass w.layout party → asks_at kit by w party ≢ Ended → CanTake kit by w party
  can_take w lw party is on = taking.can_take kit by laws w lw party is on

  -- the collector's step has room for what it seals, and for the job that it ends
  pub can_seal : (w : State R W E M) → Lawful kit w → collector_asks kit by w ≢ Ended → length (let next = collected kit by w in next.sealed) ≤ (let plan = w.plan in length plan.jobs)
  can_seal w lw on = records.can_seal kit by laws w lw on

  pub can_end : (w : State R W E M) → Lawful kit w → length (let next = collected kit by w in next.moved) ≤ (let plan = w.plan in length plan.jobs)
  can_end w lw = let ended = collected_ended kit by laws w lw in ended.fit

  -- every turn of every party
  pub turn_keeps : (w : State R W E M) → Lawful kit w → (party : ℕ) → IsParty w.layout party → Lawful kit (turn_of kit by w party)
  turn_keeps w lw party is = turns.turn_lawful kit by laws w lw party is (turn_records kit by laws w lw party is)

  pub turn_moves : (w : State R W E M) → Lawful kit w → (party : ℕ) → IsParty w.layout party → Moves kit by w party (turn_of kit by w party)
  turn_moves w lw party is = turns.turn_moves kit by laws w lw party is

  pub turn_headers : (w : State R W E M) → Lawful kit w → (party : ℕ) → IsParty w.layout party → (kind : Kind) → kind ≡ kit.kind → HeadersChange kind w.layout w.words (let t = turn_of kit by w party in t.words)
  turn_headers w lw party is kind same = subst (λ (k : Kind). HeadersChange k w.layout w.words (let t = turn_of kit by w party in t.words)) (sym same) (turn_heads kit by laws w lw party is)

  -- a thread that takes no step has retired
  pub retired_at_end : (w : State R W E M) → Lawful kit w → (party : ℕ) → IsPass w.layout party → asks_at kit by w party ≡ Ended → (let p = pass_at w party in p.machine) ≡ Retired
  retired_at_end w lw party is over = turns.retired_at_end kit by laws w lw party is over

  -- the start
  pub opening_lawful : (s : Reading) (salt : ℕ) → IsScript s.layout (let w : State R W E M = opening_state kit s salt in w.commands) → s.cycles ≤ 64 → Lawful kit (opening_state kit s salt)
  opening_lawful s salt script few = opening_is_lawful kit by laws s salt script few
