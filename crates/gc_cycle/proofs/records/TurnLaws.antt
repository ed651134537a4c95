-- Whoever takes a turn, words and records stay lawful.
use Rattle.std.specs.Prelude.{◌≢◌, not, nat_lt, IsPermutation, slice_index, if◌then◌else◌}
use Rattle.std.proofs.Common.{◌≡◌, ℕ, List, [], ◌∷◌, ◌++◌, length, map, Bool, true, false, Some, refl, sym, ap, ◌∙◌, subst, ◌≤◌, arith}
use Rattle.std.proofs.lemmas.Bool.{ltb-false}
use Rattle.std.proofs.lemmas.List.Sorted.{IsPermutation-to_front, IsPermutation-sym}
use Rattle.call_steps.specs.declared.step.Step.{Step}
use Rattle.call_steps.specs.declared.step.Step.TheVariants.{Load, Store, Exchange, Add, Sub, Ended}
use Rattle.call_steps.specs.StepLaws.{found_by-step}
use Rattle.call_steps.specs.Steps.{applied, found_by, place_of, IsInside}
use Rattle.heap_words.specs.Layouts.{IsPass}
use Rattle.space_reclaim.specs.declared.move_job.MoveJob.{MoveJob}
use Rattle.heap_history.specs.declared.call.Call.{Call}
use Rattle.barriers.specs.Kits.{Kit, Stepping, Laws}
use Rattle.lawful_records.specs.Collectors.{seals_of}
use Rattle.lawful_records.specs.Collectors as collectors
use Rattle.lawful_records.specs.LawfulRecords.{LawfulRecords}
use Rattle.lawful_records.specs.Records.{history_of}
use Rattle.lawful_records.specs.Turns.{sealed_as, collector_turned}
use Rattle.lawful_records.specs.declared.collector.CollectorMachine.{CollectorMachine}
use Rattle.lawful_records.specs.declared.records.CollectorKnown.{CollectorKnown}
use Rattle.lawful_records.specs.declared.records.Party.{Party}
use Rattle.lawful_records.specs.declared.records.Party.TheVariants as parties
use Rattle.lawful_records.proofs.RecordLaws.{record_keeps, lawful_inside, lawful_regroups, lawful_sealed}
use Rattle.lawful_records.proofs.parties.Pasts.{history_regroup}
use Rattle.lawful_records.proofs.parties.Pasts as pasts
use Rattle.gc_cycle.specs.Lawful.{Lawful, records_in, history_in, collector_in}
use Rattle.gc_cycle.specs.Worlds.{State, IsParty, asks_at, changes_now, is_ended, taken, collector_asks, collected, turn_of}
use Rattle.gc_cycle.proofs.records.Coming.{taken_comes}
use Rattle.gc_cycle.proofs.records.Seals.{seals_after, length-seals}
use Rattle.gc_cycle.proofs.records.Shares.{changes_are, history_is}
use Rattle.gc_cycle.proofs.records.Stepped.{in_pass}
use Rattle.gc_cycle.proofs.records.Turns.{HasLawful, same_collector, come_records}

pub goes_on : (t : Step) (f : Step) → f ≡ t → is_ended t ≡ false → f ≢ Ended
goes_on Ended f is no_end = absurd cc
goes_on (Load at) f is no_end = λ over. cc
goes_on (Store at put) f is no_end = λ over. cc
goes_on (Exchange at want put) f is no_end = λ over. cc
goes_on (Add at by) f is no_end = λ over. cc
goes_on (Sub at by) f is no_end = λ over. cc

module _ {R W E M : Type 0} (kit : Kit R W E M) (by : Stepping R W E M) (laws : Laws kit by) (w : State R W E M) (lawful : Lawful kit w) where
  -- ---- the collector

  abbrev passes : List (Party R W E M)
  passes = map (in_pass w) w.passes

  abbrev q : CollectorKnown M
  q = collector_in w

  abbrev asks : Step
  asks = collector_asks kit by w

  pub collector_first : IsPermutation (records_in w) (parties.Collector q ∷ passes)
  collector_first = IsPermutation-to_front passes (parties.Collector q)

  history : history_of (parties.Collector q ∷ passes) ≡ history_in w
  history = let records = lawful.records in let space = records.space in
      pasts.history_is kit w.layout space.history (parties.Collector q ∷ passes) (history_regroup kit w.layout space.history (records_in w) (parties.Collector q ∷ passes) collector_first records.history) ∙ history_is kit w lawful

  -- its step is on a word that is there
  pub can_collect : IsInside (length w.words) asks
  can_collect =
      let records = lawful.records in
      let before = lawful_regroups kit w.layout w.words (records_in w) (parties.Collector q ∷ passes) collector_first records in
      subst (λ (len : ℕ). IsInside len asks) (sym records.width) (lawful_inside kit by laws w.layout w.words passes (parties.Collector q) before)

  pub collected_records : asks ≢ Ended → HasLawful kit by (collected kit by w)
  collected_records on =
      let before = lawful_regroups kit w.layout w.words (records_in w) (parties.Collector q ∷ passes) collector_first lawful.records in
      let kept = record_keeps kit by laws w.layout w.words passes (parties.Collector q) before on in
      let found : slice_index w.words (place_of asks) ≡ found_by asks w.words = sym (found_by-step asks w.words on) in
      let all : changes_now w ≡ length (history_in w) = changes_are kit w lawful in
      let next : CollectorMachine M = collectors.fed_of kit by.move_fed w.plan w.collector (found_by asks w.words) in
      let turned : CollectorKnown M = collector_in (collected kit by w) in
      let is : collector_turned kit by (history_of (parties.Collector q ∷ passes)) q (slice_index w.words (place_of asks)) ≡ turned =
      ap (λ (h : List Call). collector_turned kit by h q (slice_index w.words (place_of asks))) history ∙ ap (λ (n : ℕ). collector_turned kit by (history_in w) q n) found
      ∙ same_collector next next w.plan w.plan (collectors.awaits_behind w.collector next (length (history_in w)) w.awaited) (collectors.awaits_behind w.collector next (changes_now w) w.awaited)
      (q.sealed ++ sealed_as (seals_of w.collector asks (found_by asks w.words)) (history_in w)) turned.sealed
      refl refl (ap (λ (n : ℕ). collectors.awaits_behind w.collector next n w.awaited) (sym all))
      (seals_after w.sealed (seals_of w.collector asks (found_by asks w.words)) (history_in w) (changes_now w) all) in
      lawful_regroups kit w.layout (applied asks w.words) (parties.Collector turned ∷ passes) (passes ++ parties.Collector turned ∷ [])
      (IsPermutation-sym (passes ++ parties.Collector turned ∷ []) (parties.Collector turned ∷ passes) (IsPermutation-to_front passes (parties.Collector turned)))
      (subst (λ (x : CollectorKnown M). LawfulRecords kit w.layout (applied asks w.words) (parties.Collector x ∷ passes)) is kept)

  -- there is room for what its step seals
  pub can_seal : asks ≢ Ended → length (let next = collected kit by w in next.sealed) ≤ (let plan = w.plan in length plan.jobs)
  can_seal on =
      let next : State R W E M = collected kit by w in
      let its : CollectorKnown M = collector_in next in
      let threads : List (Party R W E M) = map (in_pass next) next.passes in
      let few = lawful_sealed kit by laws next.layout next.words threads its (lawful_regroups kit next.layout next.words (records_in next) (parties.Collector its ∷ threads) (IsPermutation-to_front threads (parties.Collector its)) (collected_records on)) in
      omega (arith, few, length-seals next.sealed (history_in next))

  -- ---- a thread

  pub taken_records : (number : ℕ) → IsPass w.layout number → asks_at kit by w number ≢ Ended → HasLawful kit by (taken kit by w number)
  taken_records number is on = come_records kit by laws w lawful number is on (taken kit by w number) (taken_comes kit by laws w lawful number is on)

  -- ---- whoever

  chosen : (number : ℕ) → IsParty w.layout number → (late : Bool) → nat_lt w.layout.passes number ≡ late → (t : Step) → (if late then asks else asks_at kit by w number) ≡ t → (over : Bool) → is_ended t ≡ over
      → HasLawful kit by (if not over then (if late then collected kit by w else taken kit by w number) else w)
  chosen number is late late_is t t_is true over_is = lawful.records
  chosen number is true late_is t t_is false over_is = collected_records (goes_on t asks t_is over_is)
  chosen number is false late_is t t_is false over_is = taken_records number (is.0, ltb-false w.layout.passes number late_is) (goes_on t (asks_at kit by w number) t_is over_is)

  pub turn_records : (number : ℕ) → IsParty w.layout number → HasLawful kit by (turn_of kit by w number)
  turn_records number is = chosen number is (nat_lt w.layout.passes number) refl (if nat_lt w.layout.passes number then asks else asks_at kit by w number) refl (is_ended (if nat_lt w.layout.passes number then asks else asks_at kit by w number)) refl
