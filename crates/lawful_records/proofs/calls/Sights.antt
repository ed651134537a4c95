-- What a call sees is told by the objects that are sealed, wherever it is.
use Rattle.std.specs.Prelude.{if◌then◌else◌, slice_index}
use Rattle.std.proofs.Common.{◌≡◌, ◌≢◌, ℕ, ◌+◌, ◌<◌, length, Bool, true, false, List, Option, Some, None, refl, sym, ap, ◌∙◌, subst}
use Rattle.call_steps.specs.Steps.{place_of}
use Rattle.call_steps.specs.StepLaws.{reading}
use Rattle.call_steps.specs.declared.step.Step.{Step}
use Rattle.call_steps.specs.declared.step.Step.TheVariants.{Ended}
use Rattle.heap_words.specs.Layouts.{Sizes}
use Rattle.heap_words.specs.declared.field_word.FieldWord.{FieldWord}
use Rattle.heap_history.specs.FixedHeaps.{is_same}
use Rattle.heap_history.specs.declared.call.Call.{Call}
use Rattle.handshakes.specs.Handshakes.{Announced}
use Rattle.handshakes.specs.declared.pass_view.PassView.{PassView}
use Rattle.barriers.specs.declared.spot.Spot.{Spot}
use Rattle.barriers.specs.declared.front.Front.{Front}
use Rattle.barriers.specs.declared.front.Front.TheVariants.{Stays, Now, SealedOrNow}
use Rattle.barriers.specs.declared.pass.PassMachine.{PassMachine}
use Rattle.barriers.specs.declared.pass.PassMachine.TheVariants as machine
use Rattle.barriers.specs.Spots.{place_of-spot_of}
use Rattle.barriers.specs.States.{IsLive}
use Rattle.barriers.proofs.words.Headers.{live_there}
use Rattle.barriers.specs.Spaces.{Space, is_mark, here, copy_word}
use Rattle.barriers.specs.Says.{Notices}
use Rattle.barriers.specs.Values.{value_of}
use Rattle.barriers.specs.Cycles.{Cycle}
use Rattle.barriers.specs.Knowns.{Task, Reads, Writes, Exchanges, Known, Loads, Swaps, Loads_wide, Swaps_wide, Loads_copy, Swaps_copy, Finds, Field_word, Wide_word, Ending, at_field, spot_of, task_of, step_of, sees, sees_by, wide_front, looks, front}
use Rattle.wide_objects.specs.Statuses.{InCopy}
use Rattle.barriers.specs.Accesses.{found_in}
use Rattle.barriers.specs.ProtocolLaws.{ProtocolLaws}
use Rattle.barriers.specs.CycleLaws.{MovingLaws}
use Rattle.barriers.specs.Kits.{Kit, Stepping, Laws, Runs, Stands, IsWordOf, own_of, read_said, write_said, exchange_said, IsCurrent}
use Rattle.lawful_records.specs.PassTurns.{PassStands, in_machine, seal_for}
use Rattle.lawful_records.specs.Turns.{seen_by, with_change, change_by, pass_asks, pass_fed, front_by, pass_turned}
use Rattle.lawful_records.specs.Records.{number_of}
use Rattle.lawful_records.specs.declared.records.PassKnown.{PassKnown}
use Rattle.lawful_records.proofs.calls.CallSteps.{CallStands}
use Rattle.lawful_records.proofs.calls.CallTurns.{read_stands, write_stands, exchange_stands}
use Rattle.lawful_records.proofs.calls.FieldSteps.{its_word_found, its_current}
use Rattle.lawful_records.proofs.calls.MachineSteps.{Standing, At, Leads, Stops, standing}

-- ---- looks that read no seal

module _ (a b : Option (List Call)) (h seen : List Call) where
  -- it sees the same by either seal
  abbrev Alike : Front → Type 0
  Alike f = front f a h seen ≡ front f b h seen

  by_test : (test : Bool) (f g : Front) → Alike f → Alike g → Alike (if test then f else g)
  by_test true f g first second = first
  by_test false f g first second = second

  sees_alike : (t : Task) (x : FieldWord) (f : Front) → Alike f → Alike (sees t x f)
  sees_alike Reads x f is = is
  sees_alike (Writes word) x f is = refl
  sees_alike (Exchanges expected word) x f is = by_test (is_same (value_of x) expected) Stays f refl is

  found_alike : (own : Option FieldWord) (t : Task) (found : Finds) (f : Front) → Alike f → Alike (sees_by own t found f)
  found_alike own t (Field_word x) f is = by_test (is_mark own x) f (sees t x f) is (sees_alike t x f is)
  found_alike own t found f is = refl

  wide_alike : (found : Finds) → Alike (wide_front found)
  wide_alike (Wide_word (InCopy word)) = refl
  wide_alike _ = refl

  -- but where it loads in the original
  looks_alike : (own : Option FieldWord) (k : Known) (found : Finds) → ((s : Spot) (t : Task) → k ≡ Loads s t → a ≡ b) → Alike (looks own k found)
  looks_alike own (Loads s t) found same = found_alike own t found SealedOrNow (ap (λ seal. front SealedOrNow seal h seen) (same s t refl))
  looks_alike own (Swaps s t x n) found same = found_alike own t found Now refl
  looks_alike own (Loads_wide s t wide) found same = wide_alike found
  looks_alike own (Swaps_wide s t wide x n) found same = wide_alike found
  looks_alike own (Loads_copy s t to) found same = found_alike None t found Now refl
  looks_alike own (Swaps_copy s t to x n) found same = found_alike None t found Now refl
  looks_alike own k found same = refl

-- the seal that stands at this address is that of the object with a field there
abbrev pub IsSealAt : Space → ℕ → Option (List Call) → Type 0
IsSealAt s at seal = (a f : ℕ) → IsLive (s.state a) → f < s.len a → at ≡ a + 1 + f → seal ≡ s.seal a

module _ {R W E M K End : Type 0} (kit : Kit R W E M) (table : ProtocolLaws kit.protocol) (movable : MovingLaws kit.kind kit.protocol) (asks : K → Step) (fed : K → ℕ → K) (fronts : K → ℕ → Front) (knows : K → Known) (For : PassView → K → Type 0) (ended : K → Option End) (said : Ending → Option End)
    (runs : Runs kit.protocol (own_of kit.minds) asks fed fronts knows For ended said)
    (l : Sizes) (c : Cycle) (s : Space) (n : Notices) (memory : ℕ → ℕ) (v : PassView) (seen : List Call) (m : K) (own : For v m) (stands : CallStands kit l c s n memory v seen (knows m)) where
  abbrev k : Known
  k = knows m

  abbrev found : ℕ
  found = memory (place_of (asks m))

  asks_is : asks m ≡ step_of k
  asks_is = runs.asks_alike v m own

  -- where it loads in the original, that is at the address of a field of its object
  loads_there : (seal : Option (List Call)) → IsSealAt s (place_of (asks m)) seal → (z : Spot) (t : Task) → k ≡ Loads z t → seal ≡ s.seal (spot_of k).at
  loads_there seal is z t loads =
      let at : at_field k ≡ Some (spot_of k) = rw loads refl in
      let inside = stands.call.inside (spot_of k) at (rw loads refl) in
      let live = (stands.call.holds (spot_of k) at).1 in
      let spot : spot_of k ≡ z = ap spot_of loads in
      let asked : place_of (asks m) ≡ z.place = ap place_of asks_is ∙ ap (λ (x : Known). place_of (step_of x)) loads in
      let place : (spot_of k).place ≡ (spot_of k).at + 1 + (spot_of k).field =
      ap (λ (y : Spot). y.place) (stands.call.place (spot_of k) at)
      ∙ place_of-spot_of (spot_of k).birth (spot_of k).at (spot_of k).field (s.len (spot_of k).at) inside (stands.rows.short (spot_of k).at (live_there (s.state (spot_of k).at) live)) in
      is (spot_of k).at (spot_of k).field live inside (asked ∙ (ap (λ (y : Spot). y.place) (sym spot) ∙ place))

  pub machine_sees : asks m ≢ Ended → (seal : Option (List Call)) → IsSealAt s (place_of (asks m)) seal → (h : List Call) → front (fronts m found) seal h seen ≡ front (fronts m found) (s.seal (let z = spot_of k in z.at)) h seen
  machine_sees on seal is h = by_standing (standing k)
    where
      by_standing : Standing k → front (fronts m found) seal h seen ≡ front (fronts m found) (s.seal (let z = spot_of k in z.at)) h seen
      by_standing (At at) =
          let word = subst (λ (step : Step). IsWordOf k (found_in c s k) (memory (place_of step))) (sym asks_is) (its_word_found kit table movable l c s n memory v seen k stands) in
          let stood : Stands knows For v m c.phase (here s (spot_of k).at (spot_of k).field) (copy_word s (spot_of k).at (spot_of k).field) found = record { own = own; spot = spot_of k; at = at; word = word; current = λ marked. subst (λ (step : Step). IsCurrent v k (memory (place_of step))) (sym asks_is) (its_current kit table movable l c s n memory v seen k stands marked) } in
          rw (runs.looks_alike v m c.phase (here s (spot_of k).at (spot_of k).field) (copy_word s (spot_of k).at (spot_of k).field) found stood)
          (looks_alike seal (s.seal (let z = spot_of k in z.at)) h seen (own_of kit.minds v) k (found_in c s k) (loads_there seal is))
      by_standing (Leads f leads) = rw (runs.follows_on v m (spot_of k) (task_of k) f found own leads).2 refl
      by_standing (Stops over) = absurd (on (asks_is ∙ over))

-- ---- a pass

module _ {R W E M : Type 0} (kit : Kit R W E M) (by : Stepping R W E M) (laws : Laws kit by) (l : Sizes) (a : Announced) (c : Cycle) (s : Space) (n : Notices) (words : List ℕ) where
  -- by the seal at the address of its step it sees what it sees by that of its object
  abbrev SeesBy : PassKnown R W E → PassMachine R W E → Type 0
  SeesBy p m = (seal : Option (List Call)) → IsSealAt s (place_of (pass_asks kit by m)) seal
      → front (front_by kit by m (slice_index words (place_of (pass_asks kit by m)))) seal s.history p.seen ≡ front (front_by kit by m (slice_index words (place_of (pass_asks kit by m)))) (seal_for kit by s m) s.history p.seen

  pub sees_so : (p : PassKnown R W E) (m : PassMachine R W E) → PassStands kit by l a c s n (in_machine p m) words → pass_asks kit by m ≢ Ended → SeesBy p m
  sees_so p (machine.Read m) stands on seal is =
      machine_sees kit laws.table laws.movable by.read_asks by.read_fed by.read_front kit.reads kit.ReadsFor kit.read_ended read_said laws.reading l c s n (reading words) p.pass.view p.seen m stands.own.machine.1
      (read_stands kit by laws l a c s n p words m stands) on seal is s.history
  sees_so p (machine.Write m) stands on seal is =
      machine_sees kit laws.table laws.movable by.write_asks by.write_fed by.write_front kit.writes kit.WritesFor kit.write_ended write_said laws.writing l c s n (reading words) p.pass.view p.seen m stands.own.machine.1
      (write_stands kit by laws l a c s n p words m stands) on seal is s.history
  sees_so p (machine.Exchange m) stands on seal is =
      machine_sees kit laws.table laws.movable by.exchange_asks by.exchange_fed by.exchange_front kit.exchanges kit.ExchangesFor kit.exchange_ended exchange_said laws.exchanging l c s n (reading words) p.pass.view p.seen m stands.own.machine.1
      (exchange_stands kit by laws l a c s n p words m stands) on seal is s.history
  sees_so p m stands on seal is = refl

  seen_alike : (change : Option Call) (f : Front) (x y : Option (List Call)) (h seen : List Call) → front f x h seen ≡ front f y h seen → seen_by change f x h seen ≡ seen_by change f y h seen
  seen_alike (Some call) f x y h seen same = refl
  seen_alike None f x y h seen same = same

  module _ (p : PassKnown R W E) (stands : PassStands kit by l a c s n p words) (on : pass_asks kit by p.pass.machine ≢ Ended) where
    abbrev found_there : ℕ
    found_there = slice_index words (place_of (pass_asks kit by p.pass.machine))

    abbrev change : Option Call
    change = change_by kit by p.pass.machine (number_of p) found_there

    abbrev seen_then : List Call → PassKnown R W E
    seen_then seen = record p {
      pass = record p.pass { machine = pass_fed kit by p.pass.machine found_there; seen = length seen };
      seen = seen;
      mine = with_change change p.mine;
    }

    -- so its record after its step is the same by either
    pub turned_alike : (seal : Option (List Call)) → IsSealAt s (place_of (pass_asks kit by p.pass.machine)) seal
        → pass_turned kit by seal s.history p found_there ≡ pass_turned kit by (seal_for kit by s p.pass.machine) s.history p found_there
    turned_alike seal is = ap seen_then (seen_alike change (front_by kit by p.pass.machine found_there) seal (seal_for kit by s p.pass.machine) s.history p.seen (sees_so p p.pass.machine stands on seal is))
