-- A turn of a world keeps words and records lawful.
use Rattle.std.specs.Prelude.{◌≢◌, slice_set}
use Rattle.std.proofs.Common.{◌≡◌, ℕ, ◌+◌, ◌-◌, ◌<◌, List, [], ◌∷◌, ◌++◌, length, map, reverse, get_or, Option, refl, sym, ap, ◌∙◌, subst, arith}
use Rattle.call_steps.specs.declared.step.Step.TheVariants.{Ended}
use Rattle.call_steps.specs.Steps.{applied}
use Rattle.heap_words.specs.Layouts.{Sizes, IsPass}
use Rattle.heap_history.specs.Logs.{changes_of}
use Rattle.heap_history.specs.declared.call.Call.{Call}
use Rattle.heap_history.specs.declared.call.Ended.{Ended as EndedCall}
use Rattle.barriers.specs.declared.pass.PassRecord.{PassRecord}
use Rattle.barriers.specs.Kits.{Kit, Stepping, Laws}
use Rattle.lawful_records.specs.Beginnings.{BeginsOn}
use Rattle.lawful_records.specs.LawfulRecords.{LawfulRecords}
use Rattle.lawful_records.specs.Turns.{with_change}
use Rattle.lawful_records.specs.declared.awaited.Awaited.{Awaited}
use Rattle.lawful_records.specs.declared.collector.CollectorMachine.{CollectorMachine}
use Rattle.lawful_records.specs.declared.records.CollectorKnown.{CollectorKnown}
use Rattle.lawful_records.specs.declared.records.PassKnown.{PassKnown}
use Rattle.lawful_records.specs.declared.records.Sealed.{Sealed}
use Rattle.lawful_records.specs.declared.records.Party.{Party}
use Rattle.lawful_records.specs.declared.records.Party.TheVariants as parties
use Rattle.lawful_records.proofs.RecordLaws.{lawful_starts, lawful_regroups}
use Rattle.gc_cycle.specs.declared.job_log.SealedAt.{SealedAt}
use Rattle.gc_cycle.specs.Lawful.{Lawful, history_in, records_in, known_in, collector_in, seals_in}
use Rattle.gc_cycle.specs.Worlds.{State, pass_at, nobody, asks_at}
use Rattle.gc_cycle.proofs.records.Leaving.{Leaves}
use Rattle.gc_cycle.proofs.records.Stepped.{in_pass, tail_in, turned_in, sealed_few, stepped_records}
use Rattle.gc_cycle.proofs.records.Places.{OneApart, one_apart}
use Rattle.gc_cycle.proofs.records.Seals.{seals_stay}
use Rattle.gc_cycle.proofs.records.Shares.{Grown, known_stays}
use Rattle.space_reclaim.specs.Plans.{Planned}

pub same_collector : {M : Type 0} → (k old_k : CollectorMachine M) (p old_p : Planned) (a old_a : Awaited) (s old_s : List Sealed) → k ≡ old_k → p ≡ old_p → a ≡ old_a → s ≡ old_s
    → Path (CollectorKnown M) (record { machine = k; plan = p; awaited = a; sealed = s }) (record { machine = old_k; plan = old_p; awaited = old_a; sealed = old_s })
same_collector k old_k p old_p a old_a s old_s machine plan awaited sealed = rw (machine, plan, awaited, sealed) refl

module _ {R W E M : Type 0} (kit : Kit R W E M) (by : Stepping R W E M) where
  abbrev pub HasLawful : State R W E M → Type 0
  HasLawful w = LawfulRecords kit w.layout w.words (records_in w)

  -- What the turn of a thread comes to: the record that it leaves of the thread is reached from that after its step without a step.
  pub record Comes (w : State R W E M) (party : ℕ) (next : State R W E M) : Type 0 where
    pub pass : PassRecord R W E
    pub call : Option EndedCall
    pub change : Option Call
    pub leaves : Leaves w party (applied (asks_at kit by w party) w.words) next pass call
    pub grown : Grown w.told.log call change party
    pub begins : BeginsOn kit w.layout (parties.Pass (turned_in kit by w party)) (parties.Pass (known_in next pass))

  module _ (laws : Laws kit by) (w : State R W E M) (lawful : Lawful kit w) where
    module _ (number : ℕ) (is : IsPass w.layout number) (on : asks_at kit by w number ≢ Ended) (next : State R W E M) (comes : Comes w number next) where
      abbrev p : PassRecord R W E
      p = pass_at w number

      apart : OneApart (in_pass w) (in_pass next) w.passes (number - 1) nobody comes.pass (tail_in w)
      apart = one_apart (in_pass w) (in_pass next) w.passes (number - 1) nobody comes.pass (tail_in w) (omega (arith, is.0, is.1, lawful.passes)) others
        where
          others : (j : ℕ) → j < length w.passes → j ≢ number - 1 → in_pass next (get_or w.passes j nobody) ≡ in_pass w (get_or w.passes j nobody)
          others j below other =
              let place : (j + 1) - 1 ≡ j = omega arith in
              let stays : known_in next (get_or w.passes ((j + 1) - 1) nobody) ≡ known_in w (get_or w.passes ((j + 1) - 1) nobody) =
              known_stays kit w lawful next comes.call comes.change number (j + 1) comes.leaves.log comes.grown (omega arith, omega (arith, below, lawful.passes)) (λ same. other (omega (arith, same, is.0))) in
              ap (λ (x : PassKnown R W E). parties.Pass x) (subst (λ (i : ℕ). known_in next (get_or w.passes i nobody) ≡ known_in w (get_or w.passes i nobody)) place stays)

      abbrev rest : List (Party R W E M)
      rest = apart.others

      set : LawfulRecords kit w.layout (applied (asks_at kit by w number) w.words) (map (in_pass next) (slice_set w.passes (number - 1) comes.pass) ++ tail_in w)
      set = lawful_regroups kit w.layout (applied (asks_at kit by w number) w.words) (in_pass next comes.pass ∷ rest) (map (in_pass next) (slice_set w.passes (number - 1) comes.pass) ++ tail_in w) apart.after
          (lawful_starts kit by laws w.layout (applied (asks_at kit by w number) w.words) rest (parties.Pass (turned_in kit by w number)) (in_pass next comes.pass) (stepped_records kit by laws w lawful number rest apart.before on) comes.begins)

      pub come_records : HasLawful next
      come_records =
          let leaves = comes.leaves in
          let h : List Call = history_in w in
          let history : history_in next ≡ with_change comes.change h = ap (λ (es : List EndedCall). reverse (changes_of es)) leaves.log ∙ comes.grown.history in
          let seals : seals_in next.sealed (history_in next) ≡ seals_in w.sealed h =
          ap (λ (s : List SealedAt). seals_in s (history_in next)) leaves.sealed ∙ ap (seals_in w.sealed) history ∙ seals_stay w.sealed comes.change h (sealed_few kit by laws w lawful number is) in
          let collects : collector_in next ≡ collector_in w = same_collector next.collector w.collector next.plan w.plan next.awaited w.awaited (seals_in next.sealed (history_in next)) (seals_in w.sealed h) leaves.collector leaves.plan leaves.awaited seals in
          let as_they_are : (map (in_pass next) (slice_set w.passes (number - 1) comes.pass) ++ tail_in w) ≡ records_in next =
          ap (λ (ps : List (PassRecord R W E)). map (in_pass next) ps ++ tail_in w) (sym leaves.passes) ∙ ap (λ (q : CollectorKnown M). map (in_pass next) next.passes ++ parties.Collector q ∷ []) (sym collects) in
          subst (λ (l : Sizes). LawfulRecords kit l next.words (records_in next)) (sym leaves.layout)
          (subst (λ (words : List ℕ). LawfulRecords kit w.layout words (records_in next)) (sym leaves.words) (subst (LawfulRecords kit w.layout (applied (asks_at kit by w number) w.words)) as_they_are set))
