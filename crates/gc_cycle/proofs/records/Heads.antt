-- The headers of objects under a turn of any party.
use Rattle.std.specs.Prelude.{nat_lt, not, if◌then◌else◌}
use Rattle.std.proofs.Common.{◌≡◌, ◌≢◌, ℕ, List, ◌∷◌, map, inl, refl, sym, subst, Bool, true, false}
use Rattle.std.proofs.lemmas.Bool.{ltb-false}
use Rattle.call_steps.specs.declared.step.Step.{Step}
use Rattle.call_steps.specs.declared.step.Step.TheVariants.{Ended}
use Rattle.heap_words.specs.Layouts.{IsPass}
use Rattle.barriers.specs.Kits.{Kit, Stepping, Laws}
use Rattle.lawful_records.specs.HeaderChanges.{HeadersChange}
use Rattle.lawful_records.specs.declared.records.Party.{Party}
use Rattle.lawful_records.specs.declared.records.Party.TheVariants as parties
use Rattle.lawful_records.proofs.RecordLaws.{lawful_heads, lawful_regroups}
use Rattle.gc_cycle.specs.Lawful.{Lawful, collector_in, records_in}
use Rattle.gc_cycle.specs.Worlds.{State, IsParty, pass_at, asks_at, is_ended, taken, collector_asks, collected, turn_of}
use Rattle.gc_cycle.proofs.records.Coming.{taken_comes}
use Rattle.gc_cycle.proofs.records.Stepped.{in_pass, apart}
use Rattle.gc_cycle.proofs.records.TurnLaws.{goes_on, collector_first}

module _ {R W E M : Type 0} (kit : Kit R W E M) (by : Stepping R W E M) (laws : Laws kit by) (w : State R W E M) (lawful : Lawful kit w) where
  abbrev Heads : State R W E M → Type 0
  Heads next = HeadersChange kit.kind w.layout w.words next.words

  -- no step
  still_heads : Heads w
  still_heads = let records = lawful.records in record {
    old = records.space;
    old_notices = records.notices;
    says_old = records.says;
    rows_old = records.rows;
    new = records.space;
    new_notices = records.notices;
    says_new = records.says;
    rows_new = records.rows;
    changes = λ a. inl refl;
  }

  abbrev passes : List (Party R W E M)
  passes = map (in_pass w) w.passes

  abbrev collects : Party R W E M
  collects = parties.Collector (collector_in w)

  collected_heads : collector_asks kit by w ≢ Ended → Heads (collected kit by w)
  collected_heads on = lawful_heads kit by laws w.layout w.words passes collects (lawful_regroups kit w.layout w.words (records_in w) (collects ∷ passes) (collector_first kit by laws w lawful) lawful.records) on

  taken_heads : (number : ℕ) → IsPass w.layout number → asks_at kit by w number ≢ Ended → Heads (taken kit by w number)
  taken_heads number is on =
      let first = apart kit by laws w lawful number is in
      let before = lawful_regroups kit w.layout w.words (records_in w) (in_pass w (pass_at w number) ∷ first.0) first.1 lawful.records in
      let heads = lawful_heads kit by laws w.layout w.words first.0 (in_pass w (pass_at w number)) before on in
      subst (HeadersChange kit.kind w.layout w.words) (sym (taken_comes kit by laws w lawful number is on).leaves.words) heads

  chosen : (number : ℕ) → IsParty w.layout number → (late : Bool) → nat_lt w.layout.passes number ≡ late → (t : Step) → (if late then collector_asks kit by w else asks_at kit by w number) ≡ t → (over : Bool) → is_ended t ≡ over
      → Heads (if not over then (if late then collected kit by w else taken kit by w number) else w)
  chosen number is late late_is t t_is true over_is = still_heads
  chosen number is true late_is t t_is false over_is = collected_heads (goes_on t (collector_asks kit by w) t_is over_is)
  chosen number is false late_is t t_is false over_is = taken_heads number (is.0, ltb-false w.layout.passes number late_is) (goes_on t (asks_at kit by w number) t_is over_is)

  -- each header stays, or changes as a copier of this kind may change it
  pub turn_heads : (number : ℕ) → IsParty w.layout number → Heads (turn_of kit by w number)
  turn_heads number is =
      chosen number is (nat_lt w.layout.passes number) refl (if nat_lt w.layout.passes number then collector_asks kit by w else asks_at kit by w number) refl
      (is_ended (if nat_lt w.layout.passes number then collector_asks kit by w else asks_at kit by w number)) refl
