-- What a pass has told, and what it names, where it does something without a step.
use Rattle.std.specs.Prelude.{slice_set}
use Rattle.std.proofs.Common.{◌≡◌, ℕ, zero, suc, inl, inr, List, [], ◌∷◌, ◌++◌, Option, Some, None, refl, sym, ap, ◌∙◌, subst, arith}
use Rattle.std.proofs.lemmas.List.{append-nil}
use Rattle.heap_words.specs.Layouts.{Sizes}
use Rattle.heap_words.specs.declared.field_word.FieldWord.{FieldWord}
use Rattle.heap_words.specs.declared.field_word.FieldWord.TheVariants.{Link}
use Rattle.heap_history.specs.NewestFirst.{Before}
use Rattle.heap_history.specs.declared.call.Call.{Call}
use Rattle.handshakes.specs.Polling.{held_in}
use Rattle.handshakes.specs.declared.pass_view.PassView.{PassView}
use Rattle.barriers.specs.declared.ends.NewEnd.TheVariants as new_end
use Rattle.barriers.specs.declared.new_object.NewMachine.{NewMachine}
use Rattle.barriers.specs.declared.new_object.NewMachine.TheVariants as make
use Rattle.barriers.specs.declared.pass.PassRecord.{PassRecord}
use Rattle.barriers.specs.declared.pass.PassMachine.{PassMachine}
use Rattle.barriers.specs.declared.pass.PassMachine.TheVariants as machine
use Rattle.barriers.specs.Cycles.{Cycle}
use Rattle.barriers.specs.Spaces.{Space}
use Rattle.barriers.specs.Says.{Notices}
use Rattle.barriers.specs.Knowns.{Known, Got, Differs, Over}
use Rattle.barriers.specs.Protocols.{Answered}
use Rattle.barriers.specs.Kits.{Kit, ending_of}
use Rattle.lawful_records.specs.Beginnings.{call_ended, word_told, word_of_end, rested, with_register, with_word, HasWord}
use Rattle.lawful_records.specs.Meetings.{IsNamed, HasSpotOf, HasMade, HasMet}
use Rattle.lawful_records.specs.LawfulRecords.{HasTold, IsMachine}
use Rattle.lawful_records.specs.PassTurns.{in_machine}
use Rattle.lawful_records.specs.Records.{number_of, view_by, registers_by, known_of, taken_in}
use Rattle.lawful_records.specs.declared.records.PassKnown.{PassKnown}
use Rattle.lawful_records.proofs.telling.Meeting.{found_named}
use Rattle.lawful_records.proofs.telling.Telling.{told_quiet}

-- ---- registers

-- of each register, where one was given a word of which it holds
pub held_put : (P : FieldWord → Type 0) (registers : List FieldWord) (register : ℕ) (word : FieldWord) (i : ℕ) → P word → P (held_in registers i) → P (held_in (slice_set registers register word) i)
held_put P [] register word i put was = was
held_put P (r ∷ registers) zero word zero put was = put
held_put P (r ∷ registers) zero word (suc i) put was = was
held_put P (r ∷ registers) (suc register) word zero put was = was
held_put P (r ∷ registers) (suc register) word (suc i) put was = held_put P registers register word i put was

-- the word with which a call has ended is named
known_named : (seen : List Call) (k : Known) (word : FieldWord) → Answered seen k → word_told (ending_of k) ≡ Some word → IsNamed seen word
known_named seen (Over s t (Got found)) word answered is = let same : found ≡ word = cc in subst (IsNamed seen) same (found_named seen s t found answered)
known_named seen (Over s t (Differs found)) word answered is = let same : found ≡ word = cc in subst (IsNamed seen) same (found_named seen s t found answered)
known_named seen k word answered is = absurd cc

module _ {R W E M : Type 0} (kit : Kit R W E M) where
  -- ---- a machine that is over, and was taken in

  rested_ends : (p : PassKnown R W E) (m : PassMachine R W E) → call_ended kit (in_machine p (rested kit m)) ≡ []
  rested_ends p (machine.Retire m) = refl
  rested_ends p m = refl

  pub rested_view : (m : PassMachine R W E) (view : PassView) → view_by (rested kit m) view ≡ view
  rested_view (machine.Retire m) view = refl
  rested_view m view = refl

  pub rested_registers : (m : PassMachine R W E) (registers : List FieldWord) → registers_by (rested kit m) registers ≡ registers
  rested_registers (machine.Retire m) registers = refl
  rested_registers m registers = refl

  pub with_word_view : (r : PassRecord R W E) (register : Option ℕ) (word : Option FieldWord) → (let q = with_word kit r register word in q.view) ≡ r.view
  with_word_view r (Some register) (Some word) = refl
  with_word_view r (Some register) None = refl
  with_word_view r None word = refl

  with_word_seen : (r : PassRecord R W E) (register : Option ℕ) (word : Option FieldWord) → (let q = with_word kit r register word in q.seen) ≡ r.seen
  with_word_seen r (Some register) (Some word) = refl
  with_word_seen r (Some register) None = refl
  with_word_seen r None word = refl

  -- the pass that takes it in, and puts the word with which it ended in a register
  abbrev pub taken : PassKnown R W E → Option ℕ → PassKnown R W E
  taken p register = record p {
    pass = record (with_word kit (taken_in p.pass) register (word_of_end kit p.pass.machine)) { machine = rested kit p.pass.machine };
    ended = p.ended ++ call_ended kit p;
  }

  pub taken_number : (p : PassKnown R W E) (register : Option ℕ) → number_of (taken p register) ≡ number_of p
  taken_number p register =
      let r = with_word kit (taken_in p.pass) register (word_of_end kit p.pass.machine) in
      ap (λ (v : PassView). v.pass) (rested_view p.pass.machine r.view ∙ with_word_view (taken_in p.pass) register (word_of_end kit p.pass.machine))

  pub told_taken : (h : List Call) (p : PassKnown R W E) (register : Option ℕ) → Before p.seen h → HasTold kit h p → HasTold kit h (taken p register)
  told_taken h p register past told =
      told_quiet kit h p (taken p register)
      (record { number = taken_number p register; mine = refl; count = with_word_seen (taken_in p.pass) register (word_of_end kit p.pass.machine) ∙ told.count; later = omega arith; past = past })
      (ap (λ es. (p.ended ++ call_ended kit p) ++ es) (rested_ends (taken p register) p.pass.machine) ∙ append-nil (p.ended ++ call_ended kit p))
      told

  made_named : (seen : List Call) (m : NewMachine) (word : FieldWord) → HasMade {R = R} {W = W} {E = E} seen (machine.New m) → word_of_end kit (machine.New m) ≡ Some word → IsNamed seen word
  made_named seen (make.Ended (new_end.Made birth at room)) word made is = let same : Link birth at ≡ word = cc in subst (IsNamed seen) same made
  made_named seen (make.Ended (new_end.Refused why)) word made is = absurd cc
  made_named seen m word made is = absurd cc

  end_named : (l : Sizes) (c : Cycle) (s : Space) (n : Notices) (p : PassKnown R W E) (m : PassMachine R W E) (word : FieldWord) → IsMachine kit l c s n p m → HasMade p.seen m → word_of_end kit m ≡ Some word → IsNamed p.seen word
  end_named l c s n p (machine.New m) word is made said = made_named p.seen m word made said
  end_named l c s n p (machine.Read m) word is made said = known_named p.seen (kit.reads m) word is.0.answered said
  end_named l c s n p (machine.Write m) word is made said = known_named p.seen (kit.writes m) word is.0.answered said
  end_named l c s n p (machine.Exchange m) word is made said = known_named p.seen (kit.exchanges m) word is.0.answered said
  end_named l c s n p m word is made said = absurd cc

  with_word_named : (seen : List Call) (r : PassRecord R W E) (register : Option ℕ) (word : Option FieldWord) (i : ℕ) → ((w : FieldWord) → word ≡ Some w → IsNamed seen w) → IsNamed seen (held_in r.registers i) → IsNamed seen (held_in (let q = with_word kit r register word in q.registers) i)
  with_word_named seen r (Some register) (Some word) i named was = held_put (IsNamed seen) r.registers register word i (named word refl) was
  with_word_named seen r (Some register) None i named was = was
  with_word_named seen r None word i named was = was

  rested_call : (seen : List Call) (m : PassMachine R W E) → HasSpotOf seen (known_of kit (rested kit m))
  rested_call seen (machine.Retire m) = tt
  rested_call seen m = tt

  rested_made : (seen : List Call) (m : PassMachine R W E) → HasMade seen (rested kit m)
  rested_made seen (machine.Retire m) = tt
  rested_made seen m = tt

  -- what it then names it had met
  pub met_taken : (l : Sizes) (c : Cycle) (s : Space) (n : Notices) (p : PassKnown R W E) (register : Option ℕ) → IsMachine kit l c s n p p.pass.machine → HasMet kit p → HasMet kit (taken p register)
  met_taken l c s n p register is met =
      let word : Option FieldWord = word_of_end kit p.pass.machine in
      let r : PassRecord R W E = with_word kit (taken_in p.pass) register word in
      record {
        registers = λ i.
            subst (λ (registers : List FieldWord). IsNamed p.seen (held_in registers i)) (sym (rested_registers p.pass.machine r.registers))
            (with_word_named p.seen (taken_in p.pass) register word i (λ w said. end_named l c s n p p.pass.machine w is met.made said) (met.registers i));
        call = rested_call p.seen p.pass.machine;
        made = rested_made p.seen p.pass.machine;
      }

  -- ---- between two machines

  pub idle_ends : (p : PassKnown R W E) → p.pass.machine ≡ machine.Idle → call_ended kit p ≡ []
  idle_ends p idle = ap (λ (m : PassMachine R W E). call_ended kit (in_machine p m)) idle

  -- a word is put in a register
  pub told_put : (h : List Call) (p : PassKnown R W E) (register : ℕ) (word : FieldWord) → p.pass.machine ≡ machine.Idle → Before p.seen h → HasTold kit h p → HasTold kit h (record p { pass = with_register kit p.pass register word })
  told_put h p register word idle past told =
      let q : PassKnown R W E = record p { pass = with_register kit p.pass register word } in
      told_quiet kit h p q (record { number = refl; mine = refl; count = told.count; later = omega arith; past = past }) (ap (λ es. p.ended ++ es) (idle_ends q idle ∙ sym (idle_ends p idle))) told

  word_named : (p : PassKnown R W E) (word : FieldWord) → HasWord kit p word → ((i : ℕ) → IsNamed p.seen (held_in p.pass.registers i)) → IsNamed p.seen word
  word_named p word (inl number) named = subst (IsNamed p.seen) (sym number.2) tt
  word_named p word (inr held) named = subst (IsNamed p.seen) (sym held.1) (named held.0)

  pub met_put : (p : PassKnown R W E) (register : ℕ) (word : FieldWord) → p.pass.machine ≡ machine.Idle → HasWord kit p word → HasMet kit p → HasMet kit (record p { pass = with_register kit p.pass register word })
  met_put p register word idle has met =
      let now : HasMet kit (in_machine p machine.Idle) = subst (λ (m : PassMachine R W E). HasMet kit (in_machine p m)) idle met in
      let put : IsNamed p.seen word = word_named p word has now.registers in
      let next : HasMet kit (record p { pass = record (with_register kit p.pass register word) { machine = machine.Idle } }) = record {
        registers = λ i. held_put (IsNamed p.seen) p.pass.registers register word i put (now.registers i);
        call = tt;
        made = tt;
      } in
      subst (λ (m : PassMachine R W E). HasMet kit (record p { pass = record (with_register kit p.pass register word) { machine = m } })) (sym idle) next
