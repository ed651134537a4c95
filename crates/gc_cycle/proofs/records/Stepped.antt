-- The records of a world whose thread took its step alone.
use Rattle.std.specs.Prelude.{◌≢◌, IsPermutation, slice_index}
use Rattle.std.proofs.Common.{◌≡◌, ℕ, ◌-◌, List, [], ◌∷◌, ◌++◌, length, Option, Some, None, refl, sym, ap, ◌∙◌, subst, arith}
use Rattle.std.proofs.lemmas.List.Elements.{All-head}
use Rattle.std.proofs.lemmas.List.Sorted.{All-permutation}
use Rattle.call_steps.specs.declared.step.Step.{Step}
use Rattle.call_steps.specs.declared.step.Step.TheVariants.{Ended}
use Rattle.call_steps.specs.StepLaws.{found_by-step}
use Rattle.call_steps.specs.Steps.{applied, place_of}
use Rattle.heap_words.specs.Layouts.{IsPass}
use Rattle.heap_history.specs.Histories.{made_by, pass_of}
use Rattle.heap_history.specs.Logs.{of_pass}
use Rattle.heap_history.specs.declared.call.Call.{Call}
use Rattle.heap_history.specs.declared.call.Ended.{Ended as EndedCall}
use Rattle.barriers.specs.declared.front.Front.{Front}
use Rattle.barriers.specs.declared.front.Front.TheVariants.{Stays, Now, SealedOrNow}
use Rattle.barriers.specs.declared.pass.PassRecord.{PassRecord}
use Rattle.barriers.specs.Knowns.{Known, sealed_or}
use Rattle.barriers.specs.Kits.{Kit, Stepping, Laws}
use Rattle.lawful_records.specs.Cycling.{announced_by, cycle_of}
use Rattle.lawful_records.specs.LawfulRecords.{LawfulRecords, IsParty}
use Rattle.lawful_records.specs.Records.{number_of, history_of, known_of}
use Rattle.lawful_records.specs.Turns.{with_change, seen_by, seal_in, sealed_of, change_by, front_by, pass_fed, pass_turned}
use Rattle.lawful_records.specs.declared.records.PassKnown.{PassKnown}
use Rattle.lawful_records.specs.declared.records.Sealed.{Sealed}
use Rattle.lawful_records.specs.declared.records.Party.{Party}
use Rattle.lawful_records.specs.declared.records.Party.TheVariants as parties
use Rattle.lawful_records.proofs.RecordLaws.{record_keeps, lawful_regroups, lawful_calls}
use Rattle.lawful_records.proofs.calls.CallSteps.{CallKept}
use Rattle.lawful_records.proofs.parties.Pasts.{history_regroup}
use Rattle.lawful_records.proofs.parties.Pasts as pasts
use Rattle.gc_cycle.specs.Lawful.{Lawful, records_in, history_in, known_in, collector_in, seals_in, seen_of}
use Rattle.gc_cycle.specs.Worlds.{State, logged, pass_at, nobody, asks_at, found_at, seal_at, fed_at, seen_with, changes_now}
use Rattle.gc_cycle.proofs.records.Ends.{listed}
use Rattle.gc_cycle.proofs.records.Places.{one_apart}
use Rattle.gc_cycle.proofs.records.Seals.{AreFew, few_later, looks_count, IsCounted, seal_count, seal_counted, Knows, sealed_is, records_know}
use Rattle.gc_cycle.proofs.records.Shares.{seen_whole, number_is, record_at, history_is, changes_are, ended_grows, mine_grows, same_known}
use Rattle.gc_cycle.proofs.records.Stepping.{front_is}

abbrev pub in_pass : {R W E M : Type 0} → State R W E M → PassRecord R W E → Party R W E M
in_pass w p = parties.Pass (known_in w p)

abbrev pub tail_in : {R W E M : Type 0} → State R W E M → List (Party R W E M)
tail_in w = parties.Collector (collector_in w) ∷ []

-- ---- what was seen

sealed_again : (seal : Option (List Call)) (h : List Call) → IsCounted h seal → seen_of h (length (sealed_or seal h)) ≡ sealed_or seal h
sealed_again None h counted = seen_whole h
sealed_again (Some past) h counted = counted past refl

pub seen_again : (change : Option Call) (front : Front) (seal : Option (List Call)) (h : List Call) (count : ℕ) → IsCounted h seal → count ≡ length (seen_of h count)
    → (let seen = seen_by change front seal h (seen_of h count) in seen_of (with_change change h) (length seen) ≡ seen)
seen_again (Some c) front seal h count counted is = seen_whole (c ∷ h)
seen_again None Stays seal h count counted is = ap (seen_of h) (sym is)
seen_again None Now seal h count counted is = seen_whole h
seen_again None SealedOrNow seal h count counted is = sealed_again seal h counted

module _ {R W E M : Type 0} (kit : Kit R W E M) (by : Stepping R W E M) where
  -- the history at the seal of the object at which its step is, if that is sealed
  abbrev pub seal_seen : State R W E M → ℕ → Option (List Call)
  seal_seen w number = seal_in (seals_in w.sealed (history_in w)) (place_of (asks_at kit by w number))

  -- the record of a thread after its step alone
  abbrev pub turned_in : State R W E M → ℕ → PassKnown R W E
  turned_in w number = pass_turned kit by (seal_seen w number) (history_in w) (known_in w (pass_at w number)) (found_at kit by w number)

  module _ (laws : Laws kit by) (w : State R W E M) (lawful : Lawful kit w) (number : ℕ) where
    module _ (rest : List (Party R W E M)) (moves : IsPermutation (records_in w) (in_pass w (pass_at w number) ∷ rest)) (on : asks_at kit by w number ≢ Ended) where
      before : LawfulRecords kit w.layout w.words (in_pass w (pass_at w number) ∷ rest)
      before = lawful_regroups kit w.layout w.words (records_in w) (in_pass w (pass_at w number) ∷ rest) moves lawful.records

      history : history_of (in_pass w (pass_at w number) ∷ rest) ≡ history_in w
      history = let records = lawful.records in let space = records.space in
          pasts.history_is kit w.layout space.history (in_pass w (pass_at w number) ∷ rest) (history_regroup kit w.layout space.history (records_in w) (in_pass w (pass_at w number) ∷ rest) moves records.history) ∙ history_is kit w lawful

      -- the others know what is sealed
      sealed : sealed_of rest ≡ seals_in w.sealed (history_in w)
      sealed = sealed_is kit (seals_in w.sealed (history_in w)) (in_pass w (pass_at w number) ∷ rest) before.parties.collector (All-permutation (Knows (seals_in w.sealed (history_in w))) (records_in w) (in_pass w (pass_at w number) ∷ rest) moves (records_know w))

      found : slice_index w.words (place_of (asks_at kit by w number)) ≡ found_at kit by w number
      found = sym (found_by-step (asks_at kit by w number) w.words on)

      pub stepped_records : LawfulRecords kit w.layout (applied (asks_at kit by w number) w.words) (parties.Pass (turned_in w number) ∷ rest)
      stepped_records =
          let asks : Step = asks_at kit by w number in
          let p : PassKnown R W E = known_in w (pass_at w number) in
          let kept = record_keeps kit by laws w.layout w.words rest (in_pass w (pass_at w number)) before on in
          subst (λ (n : ℕ). LawfulRecords kit w.layout (applied asks w.words) (parties.Pass (pass_turned kit by (seal_seen w number) (history_in w) p n) ∷ rest)) found
          (subst (λ (h : List Call). LawfulRecords kit w.layout (applied asks w.words) (parties.Pass (pass_turned kit by (seal_seen w number) h p (slice_index w.words (place_of asks))) ∷ rest)) history
          (subst (λ (rows : List Sealed). LawfulRecords kit w.layout (applied asks w.words) (parties.Pass (pass_turned kit by (seal_in rows (place_of asks)) (history_of (in_pass w (pass_at w number) ∷ rest)) p (slice_index w.words (place_of asks))) ∷ rest)) sealed kept))

      stepped_calls : (k next : Known) → known_of kit (let p = pass_at w number in p.machine) ≡ Some k → known_of kit (pass_fed kit by (let p = pass_at w number in p.machine) (found_at kit by w number)) ≡ Some next → CallKept k next
      stepped_calls = subst (λ (n : ℕ). (k next : Known) → known_of kit (let p = pass_at w number in p.machine) ≡ Some k → known_of kit (pass_fed kit by (let p = pass_at w number in p.machine) n) ≡ Some next → CallKept k next) found
          (lawful_calls kit by laws w.layout w.words rest (known_in w (pass_at w number)) before on)

      stepped_number : number_of (turned_in w number) ≡ (let p = pass_at w number in let view = p.view in view.pass)
      stepped_number = let r = stepped_records in
          number_is kit w.layout (announced_by r.collector) (cycle_of r.collector) r.space r.notices (turned_in w number) (All-head (IsParty kit w.layout r.collector r.space r.notices) (parties.Pass (turned_in w number)) rest r.each)

    module _ (is : IsPass w.layout number) where
      abbrev p : PassRecord R W E
      p = pass_at w number

      abbrev q : PassKnown R W E
      q = turned_in w number

      abbrev change : Option Call
      change = change_by kit by p.machine (number_of (known_in w p)) (found_at kit by w number)

      pub apart : (others : List (Party R W E M)) × IsPermutation (records_in w) (in_pass w p ∷ others)
      apart = let o = one_apart (in_pass w) (in_pass w) w.passes (number - 1) nobody p (tail_in w) (omega (arith, is.0, is.1, lawful.passes)) (λ j below other. refl) in (o.others, o.before)

      pub view_is : p.view.pass ≡ number
      view_is = (lawful.threads number is).number

      pub calls_kept : asks_at kit by w number ≢ Ended → (k next : Known) → known_of kit p.machine ≡ Some k → known_of kit (pass_fed kit by p.machine (found_at kit by w number)) ≡ Some next → CallKept k next
      calls_kept on = stepped_calls apart.0 apart.1 on

      pub turned_number : asks_at kit by w number ≢ Ended → number_of q ≡ number
      turned_number on = stepped_number apart.0 apart.1 on ∙ view_is

      counted : p.seen ≡ length (seen_of (history_in w) p.seen)
      counted = (record_at kit w lawful number is).told.count

      -- what is sealed was so after changes that there are
      pub sealed_few : AreFew w.sealed (length (history_in w))
      sealed_few = few_later w.sealed (changes_now w) (length (history_in w)) (let all = changes_are kit w lawful in omega (arith, all)) lawful.sealed

      -- where its step is no change, its world's record has seen as much
      pub looked_same : change ≡ None → (let fed = fed_at kit by w number in fed.seen) ≡ length q.seen
      looked_same none =
          let n : ℕ = found_at kit by w number in
          let h : List Call = history_in w in
          let seal : Option (List Call) = seal_seen w number in
          ap (λ (front : Front). seen_with front (seal_at kit by w number) (changes_now w) p.seen) (front_is kit by p.machine n)
          ∙ ap (λ (o : Option ℕ). seen_with (front_by kit by p.machine n) o (changes_now w) p.seen) (seal_count w.sealed h (place_of (asks_at kit by w number)) sealed_few)
          ∙ looks_count (front_by kit by p.machine n) seal h (seen_of h p.seen) p.seen (changes_now w) (changes_are kit w lawful) counted
          ∙ ap (λ (o : Option Call). length (seen_by o (front_by kit by p.machine n) seal h (seen_of h p.seen))) (sym none)

      -- what is read off the world after its turn
      pub known_after : (next : State R W E M) (pass : PassRecord R W E) (call : Option EndedCall) → next.told.log ≡ logged w.told.log call → history_in next ≡ with_change change (history_in w)
          → pass.view.pass ≡ number → pass.seen ≡ length q.seen → ((c : Call) → change ≡ Some c → pass_of c ≡ number) → ((e : EndedCall) → call ≡ Some e → pass_of e.call ≡ number)
          → known_in next pass ≡ record q { pass = pass; ended = q.ended ++ listed call }
      known_after next pass call log history same seen owner teller =
          let own : pass.view.pass ≡ p.view.pass = same ∙ sym view_is in
          let h : List Call = history_in w in
          let front : Front = front_by kit by p.machine (found_at kit by w number) in
          same_known pass q.seen q.mine (seen_of (history_in next) pass.seen) (made_by pass.view.pass (history_in next)) (q.ended ++ listed call) (of_pass pass.view.pass next.told.log)
          (ap (λ (cs : List Call). seen_of cs pass.seen) history ∙ ap (seen_of (with_change change h)) seen ∙ seen_again change front (seal_seen w number) h p.seen (seal_counted w.sealed h (place_of (asks_at kit by w number)) sealed_few) counted)
          (ap (λ (cs : List Call). made_by pass.view.pass cs) history ∙ ap (λ (m : ℕ). made_by m (with_change change h)) own ∙ mine_grows change h p.view.pass (λ c c_is. owner c c_is ∙ sym view_is))
          (ap (λ (es : List EndedCall). of_pass pass.view.pass es) log ∙ ap (λ (m : ℕ). of_pass m (logged w.told.log call)) own ∙ ended_grows w.told.log call p.view.pass (λ e e_is. teller e e_is ∙ sym view_is))
