-- A turn of any party leaves the script's part of a lawful world, and moves so.
use Rattle.std.proofs.Common.{◌≡◌, ◌≢◌, ℕ, ◌-◌, ◌<◌, Bool, true, false, cond, refl, sym, ap, ◌∙◌, subst, arith}
use Rattle.std.proofs.lemmas.List.{get_or_past}
use Rattle.std.proofs.lemmas.Bool.{ltb-true}
use Rattle.heap_words.specs.Layouts.{IsPass}
use Rattle.call_steps.specs.declared.step.Step.TheVariants.{Ended}
use Rattle.heap_script.specs.Tellings.{Thread}
use Rattle.heap_script.specs.TellingSteps.{answers_at}
use Rattle.barriers.specs.declared.pass.PassRecord.{PassRecord}
use Rattle.barriers.specs.declared.pass.PassMachine.TheVariants as machine
use Rattle.barriers.specs.Kits.{Kit, Stepping, Laws}
use Rattle.lawful_records.specs.Cycling.{cycle_of}
use Rattle.lawful_records.specs.LawfulRecords.{LawfulRecords}
use Rattle.lawful_records.proofs.RecordLaws.{announced}
use Rattle.gc_cycle.specs.Worlds.{State, IsParty, pass_at, command_at, nobody, asks_at, next_of, is_ended, is_collector, taken, collector_asks, collected, turn_of}
use Rattle.gc_cycle.specs.Lawful.{Lawful, known_in, records_in, thread_of}
use Rattle.gc_cycle.specs.Runs.{Moves}
use Rattle.gc_cycle.proofs.Playing.{is_ended-true, is_ended-false, party_is_pass}
use Rattle.gc_cycle.proofs.records.Shares.{record_at}
use Rattle.gc_cycle.proofs.script.Answering.{IsResting}
use Rattle.gc_cycle.proofs.script.Beginning.{few}
use Rattle.gc_cycle.proofs.script.Lists.{one_below}
use Rattle.gc_cycle.proofs.script.Resting.{still_idle, still_retired, turned_still, collector_turned, retired_is}
use Rattle.gc_cycle.proofs.script.Stepped.{has_stepped}
use Rattle.gc_cycle.proofs.script.Turned.{IsTurned, thread_turn}
use Rattle.gc_cycle.proofs.script.Worlds.{scripted_of, lawful_of}
use Rattle.gc_cycle.proofs.records.Endings.{turn_ended}

module _ {R W E M : Type 0} (kit : Kit R W E M) (by : Stepping R W E M) (laws : Laws kit by) (w : State R W E M) (lw : Lawful kit w) (party : ℕ) where
  abbrev Turned : State R W E M → Type 0
  Turned new = IsTurned kit by w party new

  -- the pass has birth numbers left
  pub made_few : IsPass w.layout party → (let p = pass_at w party in p.made) < 262144
  made_few is =
      let thread = lw.threads party is in
      let t : Thread = thread_of w party in
      let script = lw.script in
      let rest : IsResting t (pass_at w party) (answers_at w.told.answers party) w.told.log = record { number = thread.number; tells = thread.tells } in
      few kit by laws w.layout t (pass_at w party) (answers_at w.told.answers party) w.told.log rest (omega (arith, one_below w.commands (party - 1), script.few))

  -- a thread's step
  thread_takes : IsPass w.layout party → asks_at kit by w party ≢ Ended → Turned (taken kit by w party)
  thread_takes is on =
      let records = lw.records in
      thread_turn kit by laws w (scripted_of kit w lw) party is (has_stepped kit by laws w lw party is (made_few is) (announced kit laws.minds w.layout w.words (records_in w) records) on)

  -- a thread that takes no step has retired
  pub retired_at_end : IsPass w.layout party → asks_at kit by w party ≡ Ended → (let p = pass_at w party in p.machine) ≡ machine.Retired
  retired_at_end is ended =
      let thread = lw.threads party is in
      let records = lw.records in
      let own = record_at kit w lw party is in
      retired_is kit by laws w.layout (cycle_of records.collector) records.space records.notices (known_in w (pass_at w party)) (pass_at w party) (command_at w party) thread.at thread.going own.machine ended

  thread_rests : IsPass w.layout party → asks_at kit by w party ≡ Ended → Turned w
  thread_rests is ended = turned_still kit by w (scripted_of kit w lw) party (still_retired kit by w party (retired_at_end is ended)) w.words w.collector w.awaited w.sealed w.moved w.finds w.marks lw.sealed

  collector_rests : is_collector kit by w party ≡ true → Turned w
  collector_rests is =
      let past : pass_at w party ≡ nobody = get_or_past w.passes (party - 1) nobody (omega (arith, lw.passes, ltb-true w.layout.passes party is)) in
      turned_still kit by w (scripted_of kit w lw) party (still_idle kit by w party (ap (λ (x : PassRecord R W E). x.machine) past)) w.words w.collector w.awaited w.sealed w.moved w.finds w.marks lw.sealed

  -- the step of a thread's turn is its machine's
  next_is : is_collector kit by w party ≡ false → next_of kit by w party ≡ asks_at kit by w party
  next_is is = ap (λ b. cond b (collector_asks kit by w) (asks_at kit by w party)) is

  rests_is : is_ended (next_of kit by w party) ≡ true → turn_of kit by w party ≡ w
  rests_is ended = rw ended refl

  collects_is : is_ended (next_of kit by w party) ≡ false → is_collector kit by w party ≡ true → turn_of kit by w party ≡ collected kit by w
  collects_is on collects = rw (on, collects) refl

  takes_is : is_ended (next_of kit by w party) ≡ false → is_collector kit by w party ≡ false → turn_of kit by w party ≡ taken kit by w party
  takes_is on passes = rw (on, passes) refl

  by_cases : IsParty w.layout party → (collects ended : Bool) → is_collector kit by w party ≡ collects → is_ended (next_of kit by w party) ≡ ended → Turned (turn_of kit by w party)
  by_cases is true true collects ended = subst Turned (sym (rests_is ended)) (collector_rests collects)
  by_cases is true false collects ended = subst Turned (sym (collects_is ended collects)) (collector_turned kit by w (scripted_of kit w lw) party collects)
  by_cases is false true collects ended =
      subst Turned (sym (rests_is ended)) (thread_rests (party_is_pass kit by w party is collects) (sym (next_is collects) ∙ is_ended-true (next_of kit by w party) ended))
  by_cases is false false collects ended =
      subst Turned (sym (takes_is ended collects))
      (thread_takes (party_is_pass kit by w party is collects) (λ over. is_ended-false (next_of kit by w party) ended (next_is collects ∙ over)))

  -- a turn of any party
  pub script_turn : IsParty w.layout party → IsTurned kit by w party (turn_of kit by w party)
  script_turn is = by_cases is (is_collector kit by w party) (is_ended (next_of kit by w party)) refl refl

  pub turn_moves : IsParty w.layout party → Moves kit by w party (turn_of kit by w party)
  turn_moves is = let turned = script_turn is in turned.moves

  -- with lawful records the world is lawful again
  pub turn_lawful : IsParty w.layout party → (let new = turn_of kit by w party in LawfulRecords kit new.layout new.words (records_in new)) → Lawful kit (turn_of kit by w party)
  turn_lawful is records = let turned = script_turn is in lawful_of kit (turn_of kit by w party) records (turn_ended kit by laws w lw party is) turned.scripted
