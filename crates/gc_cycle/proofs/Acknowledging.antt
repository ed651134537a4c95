-- What the records of a lawful world say of what its threads have acknowledged, and of its collector.
use Rattle.std.specs.List.{All}
use Rattle.std.proofs.Common.{◌≡◌, ◌≢◌, ◌↔◌, ◌⊎◌, ℕ, ◌+◌, ◌-◌, ◌<◌, ◌≤◌, List, [], ◌∷◌, ◌++◌, length, map, get_or, length-append, None, inl, inr, refl, sym, ap, ◌∙◌, subst, arith}
use Rattle.std.proofs.lemmas.List.{get_or-map, get_or_append_left, get_or-append-add, length-map}
use Rattle.call_steps.specs.StepLaws.{reading}
use Rattle.heap_words.specs.Layouts.{IsPass, ack_at}
use Rattle.handshakes.specs.Handshakes.{Answers}
use Rattle.handshakes.specs.PhaseWords.{retired_word}
use Rattle.handshakes.specs.declared.pass_view.PassView.{PassView}
use Rattle.handshakes.specs.declared.poll.PollMachine.TheVariants as poll
use Rattle.handshakes.specs.declared.retire.RetireMachine.TheVariants as retire
use Rattle.barriers.specs.declared.pass.PassMachine.{PassMachine}
use Rattle.barriers.specs.declared.pass.PassMachine.TheVariants as machine
use Rattle.barriers.specs.declared.pass.PassRecord.{PassRecord}
use Rattle.barriers.specs.Kits.{Kit}
use Rattle.barriers.specs.Records.{ended_of}
use Rattle.lawful_records.specs.Collectors.{announced_of, before_of, passed_of}
use Rattle.lawful_records.specs.Cycling.{announced_by, cycle_of}
use Rattle.lawful_records.specs.LawfulRecords.{IsAcked, IsPassRecord, IsCollectorRecord, IsParty}
use Rattle.lawful_records.specs.Records.{view_by}
use Rattle.lawful_records.specs.declared.records.Party.{Party}
use Rattle.lawful_records.specs.declared.records.Party.TheVariants as party
use Rattle.gc_cycle.specs.Lawful.{Lawful, known_in, collector_in, records_in}
use Rattle.gc_cycle.specs.Worlds.{State, pass_at, nobody}

-- what holds of the acknowledgement of a thread
pub record IsAcknowledged {R W E M : Type 0} (w : State R W E M) (thread word : ℕ) : Type 0 where
  pub word_is : word ≡ reading w.words (ack_at thread)
  pub retired : (word ≡ retired_word) ↔ ((let p = pass_at w thread in p.machine) ≡ machine.Retired)
  pub running : word ≢ retired_word → (word ≡ announced_of w.collector) ⊎ (word ≡ before_of w.collector)
  pub passed : word ≢ retired_word → thread ≤ passed_of w.collector → word ≡ announced_of w.collector

-- what holds of all holds of the last
last_of : {X : Type 0} (P : X → Type 0) (xs : List X) (y : X) → All P (xs ++ y ∷ []) → P y
last_of P xs y all = subst P (get_or-append-add xs (y ∷ []) 0 y) (all (length xs + 0) y (omega (arith, length-append xs (y ∷ []))))

module _ {R W E M : Type 0} (kit : Kit R W E M) where
  -- a machine that has not ended leaves its pass's view
  pub view_going : (m : PassMachine R W E) (view : PassView) → ended_of kit m ≡ None → view_by m view ≡ view
  view_going (machine.Poll (poll.Ended e)) view going = absurd cc
  view_going (machine.Retire retire.Ended) view going = absurd cc
  view_going m view going = refl

  retired_only : (m : PassMachine R W E) (word : ℕ) → ended_of kit m ≡ None → IsAcked kit m word → (word ≡ retired_word) ↔ (m ≡ machine.Retired)
  retired_only machine.Retired word going is = ((λ e. refl), (λ e. is))
  retired_only (machine.Retire retire.Ended) word going is = absurd cc
  retired_only m word going is = ((λ e. absurd (is e)), (λ e. absurd cc))

  module _ (w : State R W E M) (lw : Lawful kit w) where
    abbrev Stood : Party R W E M → Type 0
    Stood = let records = lw.records in IsParty kit w.layout records.collector records.space records.notices

    abbrev collects : Party R W E M
    collects = party.Collector (collector_in w)

    abbrev read_off : PassRecord R W E → Party R W E M
    read_off p = party.Pass (known_in w p)

    -- what its record says of the collector
    pub collector_record : (let records = lw.records in IsCollectorRecord kit w.layout records.collector records.space (collector_in w))
    collector_record = let records = lw.records in last_of Stood (map read_off w.passes) collects records.each

    -- what a thread's record says of it
    pub pass_record : (thread : ℕ) → IsPass w.layout thread → (let records = lw.records in IsPassRecord kit w.layout (announced_by records.collector) (cycle_of records.collector) records.space records.notices (known_in w (pass_at w thread)))
    pass_record thread is =
        let records = lw.records in
        let within : thread - 1 < length w.passes = omega (arith, is.0, is.1, lw.passes) in
        let few : thread - 1 < length (map read_off w.passes) = omega (arith, within, length-map w.passes read_off) in
        let here : get_or (records_in w) (thread - 1) collects ≡ read_off (pass_at w thread) =
        get_or_append_left (map read_off w.passes) (collects ∷ []) collects (thread - 1) few ∙ get_or-map read_off w.passes (thread - 1) nobody collects within in
        subst Stood here (records.each (thread - 1) collects (omega (arith, within, length-append (map read_off w.passes) (collects ∷ []), length-map w.passes read_off)))

    module _ (thread : ℕ) (is : IsPass w.layout thread) where
      abbrev p : PassRecord R W E
      p = pass_at w thread

      view_is : view_by p.machine p.view ≡ p.view
      view_is = view_going p.machine p.view (lw.threads thread is).going

      acked_is : (let view = view_by p.machine p.view in view.acked) ≡ p.view.acked
      acked_is = ap (λ (v : PassView). v.acked) view_is

      number_is : (let view = view_by p.machine p.view in view.pass) ≡ thread
      number_is = ap (λ (v : PassView). v.pass) view_is ∙ (lw.threads thread is).number

      collector_is : (let records = lw.records in w.collector ≡ records.collector)
      collector_is = collector_record.machine

      answers : Answers (announced_by w.collector) thread p.view.acked
      answers =
          let records = lw.records in
          let own = pass_record thread is in
          let by_number : Answers (announced_by records.collector) thread (let view = view_by p.machine p.view in view.acked) = subst (λ (n : ℕ). Answers (announced_by records.collector) n (let view = view_by p.machine p.view in view.acked)) number_is own.answering.answers in
          let of_record : Answers (announced_by records.collector) thread p.view.acked = subst (Answers (announced_by records.collector) thread) acked_is by_number in
          subst (λ k. Answers (announced_by k) thread p.view.acked) (sym collector_is) of_record

      pub acknowledged : IsAcknowledged w thread p.view.acked
      acknowledged = let records = lw.records in let own = pass_record thread is in record {
        word_is = sym (records.says.notices.ack thread is ∙ ap records.notices.ack (sym number_is) ∙ own.answering.acked ∙ acked_is);
        retired = retired_only p.machine p.view.acked (lw.threads thread is).going (subst (IsAcked kit p.machine) acked_is own.answering.retired);
        running = λ runs. elim answers [ inl ended ↦ absurd (runs ended) | inr rest ↦ elim rest [ inl same ↦ inl same | inr waits ↦ inr waits.0 ] ];
        passed = λ runs within. elim answers [ inl ended ↦ absurd (runs ended) | inr rest ↦ elim rest [ inl same ↦ same | inr waits ↦ absurd (omega (arith, within, waits.1)) ] ];
      }
