-- A pass puts a word in a register.
use Rattle.std.proofs.Common.{◌≡◌, ℕ, inl, inr, length-set, refl, sym, ◌∙◌, subst}
use Rattle.heap_words.specs.Layouts.{Sizes}
use Rattle.heap_words.specs.declared.field_word.FieldWord.{FieldWord}
use Rattle.heap_words.specs.declared.field_word.FieldWord.TheVariants.{Num}
use Rattle.handshakes.specs.Handshakes.{Announced}
use Rattle.handshakes.specs.Polling.{held_in}
use Rattle.barriers.specs.declared.pass.PassMachine.{PassMachine}
use Rattle.barriers.specs.declared.pass.PassMachine.TheVariants as machine
use Rattle.barriers.specs.Spaces.{Space}
use Rattle.barriers.specs.Says.{Notices}
use Rattle.barriers.specs.Cycles.{Cycle}
use Rattle.barriers.specs.Kits.{Kit}
use Rattle.lawful_records.specs.Beginnings.{HasWord, with_register}
use Rattle.lawful_records.specs.LawfulRecords.{IsGood, IsPassRecord}
use Rattle.lawful_records.specs.PassTurns.{in_machine}
use Rattle.lawful_records.specs.declared.records.PassKnown.{PassKnown}
use Rattle.lawful_records.proofs.telling.Beginning.{held_put, told_put, met_put}

module _ {R W E M : Type 0} (kit : Kit R W E M) (l : Sizes) (a : Announced) (c : Cycle) (s : Space) (n : Notices) (p : PassKnown R W E) where
  -- the word is a number that fits, or in a register already
  word_good : (word : FieldWord) → HasWord kit p word → ((i : ℕ) → IsGood s (held_in p.pass.registers i)) → IsGood s word
  word_good word (inl number) good = let fits : IsGood s (Num number.0) = (number.1, tt) in subst (IsGood s) (sym number.2) fits
  word_good word (inr held) good = subst (IsGood s) (sym held.1) (good held.0)

  module _ (register : ℕ) (word : FieldWord) where
    -- the pass with the word in its register
    abbrev pub put_in : PassKnown R W E
    put_in = record p { pass = with_register kit p.pass register word }

    idle_put : (is : IsPassRecord kit l a c s n (in_machine p machine.Idle)) → HasWord kit p word → IsPassRecord kit l a c s n (record p { pass = record (with_register kit p.pass register word) { machine = machine.Idle } })
    idle_put is has = record {
      number = is.number;
      side = is.side;
      answering = record { acked = is.answering.acked; answers = is.answering.answers; phase = is.answering.phase; retired = is.answering.retired; marked = is.answering.marked };
      shaken = is.shaken;
      eight = length-set p.pass.registers register word ∙ is.eight;
      registers = λ i. held_put (IsGood s) p.pass.registers register word i (word_good word has is.registers) (is.registers i);
      room = is.room;
      few = is.few;
      unborn = is.unborn;
      machine = tt;
      told = told_put kit s.history (in_machine p machine.Idle) register word refl is.side.past is.told;
      met = met_put kit (in_machine p machine.Idle) register word refl has is.met;
    }

    -- it is a pass's record still
    pub put_record : p.pass.machine ≡ machine.Idle → HasWord kit p word → IsPassRecord kit l a c s n p → IsPassRecord kit l a c s n put_in
    put_record idle has is =
        let before : IsPassRecord kit l a c s n (in_machine p machine.Idle) = subst (λ (m : PassMachine R W E). IsPassRecord kit l a c s n (in_machine p m)) idle is in
        subst (λ (m : PassMachine R W E). IsPassRecord kit l a c s n (record p { pass = record (with_register kit p.pass register word) { machine = m } })) (sym idle) (idle_put before has)
