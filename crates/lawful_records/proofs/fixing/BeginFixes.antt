-- What is fixed of a pass stays so where it takes in what its machine has ended with, puts a word in a register, or begins the next machine.
use Rattle.std.proofs.Common.{inl, inr, ◌≡◌, ◌≢◌, ℕ, true, false, List, Option, Some, None, refl, sym, ap, ◌∙◌, subst}
use Rattle.heap_words.specs.Layouts.{Sizes}
use Rattle.heap_words.specs.declared.field_word.FieldWord.{FieldWord}
use Rattle.heap_words.specs.declared.field_word.FieldWord.TheVariants.{Link}
use Rattle.heap_words.specs.FieldWords.{IsFieldWord, word_of}
use Rattle.heap_words.specs.declared.operand.Operand.{Operand}
use Rattle.heap_words.specs.declared.operand.Operand.TheVariants as operands
use Rattle.handshakes.specs.PhaseWords.{retired_word}
use Rattle.handshakes.specs.Polling.{held_in}
use Rattle.handshakes.specs.Polls.{poll_of}
use Rattle.handshakes.specs.Retires.{retire_of}
use Rattle.handshakes.specs.declared.pass_view.PassView.{PassView}
use Rattle.handshakes.specs.declared.poll.PollMachine.TheVariants as poll
use Rattle.handshakes.specs.declared.retire.RetireMachine.TheVariants as retire
use Rattle.barriers.specs.declared.ends.NewEnd.TheVariants as new_end
use Rattle.barriers.specs.declared.new_object.NewMachine.{NewMachine}
use Rattle.barriers.specs.declared.new_object.NewMachine.TheVariants as make
use Rattle.barriers.specs.declared.machine_end.Request.{Request}
use Rattle.barriers.specs.declared.machine_end.Request.TheVariants as requests
use Rattle.barriers.specs.declared.pass.PassRecord.{PassRecord}
use Rattle.barriers.specs.declared.pass.PassMachine.{PassMachine}
use Rattle.barriers.specs.declared.pass.PassMachine.TheVariants as machine
use Rattle.barriers.specs.declared.spot.Spot.{Spot}
use Rattle.barriers.specs.CallCloses.{IsTasked}
use Rattle.barriers.specs.Kits.{Kit, Stepping, Laws, own_of, cycle_at, ending_of}
use Rattle.barriers.specs.Knowns.{Task, Reads, Writes, Exchanges, Known, Swaps, Swaps_copy, Swaps_wide, Over, Got, Differs, at_field, has_field, task_of, word_in}
use Rattle.barriers.specs.NewObjects.{new_of}
use Rattle.barriers.specs.PlainCallLaws.{hand_at}
use Rattle.barriers.specs.Protocols.{OnHand}
use Rattle.barriers.specs.Records.{operand_word, Fits, machine_for}
use Rattle.barriers.specs.Says.{Notices}
use Rattle.barriers.specs.Spaces.{Space}
use Rattle.barriers.specs.Spots as spots
use Rattle.barriers.specs.Stances.{stance_at}
use Rattle.barriers.specs.States.{On}
use Rattle.barriers.specs.Values.{value_of}
use Rattle.lawful_records.specs.declared.collector.CollectorMachine.{CollectorMachine}
use Rattle.lawful_records.specs.declared.records.PassKnown.{PassKnown}
use Rattle.lawful_records.specs.Beginnings.{HasWord, word_told, word_of_end, rested, with_word, with_register}
use Rattle.lawful_records.specs.Fixing.{Names, NamesHomes, IsFixedBy, AreRootsFixed, IsFixedCall, IsFixedMachine, IsFixedPass}
use Rattle.lawful_records.specs.PassTurns.{in_machine}
use Rattle.lawful_records.specs.Records.{acked_of, taken_in}
use Rattle.lawful_records.proofs.telling.Beginning.{held_put, taken, taken_number, rested_view, rested_registers, with_word_view}
use Rattle.lawful_records.proofs.telling.Starting.{IsUnmade, new_unmade, accessed_is, operand_packed}
use Rattle.lawful_records.proofs.fixing.CallFixes.{settled_at}

-- before it has found the field a call exchanges nothing
bare_tasked : (k : Known) → has_field k ≡ false → IsTasked k
bare_tasked (Swaps s t x i) bare = absurd (let gone : true ≡ false = bare in cc gone)
bare_tasked (Swaps_copy s t to x i) bare = absurd (let gone : true ≡ false = bare in cc gone)
bare_tasked (Swaps_wide s t wide x i) bare = absurd (let gone : true ≡ false = bare in cc gone)
bare_tasked k bare = tt

-- the word with which a call has ended leads to a home
told_names : (s : Space) (k : Known) (w : FieldWord) → NamesHomes s k → word_told (ending_of k) ≡ Some w → On (Names s) w
told_names s (Over z t (Got found)) w names e = let same : found ≡ w = cc in subst (On (Names s)) same names.hand
told_names s (Over z t (Differs found)) w names e = let same : found ≡ w = cc in subst (On (Names s)) same names.hand
told_names s k w names e = absurd cc

module _ {R W E M : Type 0} (kit : Kit R W E M) (k : CollectorMachine M) (s : Space) (n : Notices) where
  -- ---- an end is taken in

  end_names : (p : PassKnown R W E) (m : PassMachine R W E) (w : FieldWord) → IsFixedMachine kit k s n p m → word_of_end kit m ≡ Some w → IsFixedBy k (acked_of p) → On (Names s) w
  end_names p (machine.New (make.Ended (new_end.Made birth at room))) w is e by = let same : Link birth at ≡ w = cc in subst (On (Names s)) same (is by)
  end_names p (machine.Read m) w is e by = told_names s (kit.reads m) w (is.1 by) e
  end_names p (machine.Write m) w is e by = told_names s (kit.writes m) w (is.1 by) e
  end_names p (machine.Exchange m) w is e by = told_names s (kit.exchanges m) w (is.1 by) e
  end_names p m w is e by = absurd cc

  put_names : (r : PassRecord R W E) (register : Option ℕ) (word : Option FieldWord) (i : ℕ) → ((w : FieldWord) → word ≡ Some w → On (Names s) w) → On (Names s) (held_in r.registers i) → On (Names s) (held_in (let q = with_word kit r register word in q.registers) i)
  put_names r (Some register) (Some word) i names was = held_put (On (Names s)) r.registers register word i (names word refl) was
  put_names r (Some register) None i names was = was
  put_names r None word i names was = was

  rested_fixed : (q : PassKnown R W E) (m : PassMachine R W E) → IsFixedMachine kit k s n q (rested kit m)
  rested_fixed q (machine.Retire m) = tt
  rested_fixed q m = tt

  module _ (p : PassKnown R W E) (register : Option ℕ) (fixed : IsFixedPass kit k s n p) where
    abbrev word : Option FieldWord
    word = word_of_end kit p.pass.machine

    abbrev put : PassRecord R W E
    put = with_word kit (taken_in p.pass) register word

    acked_is : acked_of (taken kit p register) ≡ acked_of p
    acked_is = ap (λ (v : PassView). v.acked) (rested_view kit p.pass.machine put.view ∙ with_word_view kit (taken_in p.pass) register word)

    pub taken_fixed : IsFixedPass kit k s n (taken kit p register)
    taken_fixed = record {
      registers = λ runs by i. (
          let running : acked_of p ≢ retired_word = λ gone. runs (acked_is ∙ gone) in
          let its : IsFixedBy k (acked_of p) = subst (IsFixedBy k) acked_is by in
          subst (λ (registers : List FieldWord). On (Names s) (held_in registers i)) (sym (rested_registers kit p.pass.machine put.registers))
          (put_names (taken_in p.pass) register word i (λ w said. end_names p p.pass.machine w fixed.machine said its) (fixed.registers running its i)));
      machine = rested_fixed (taken kit p register) p.pass.machine;
      roots = λ retired roots i less. subst (λ (pass : ℕ). On (Names s) (n.root pass i)) (sym (taken_number kit p register)) (fixed.roots (sym acked_is ∙ retired) (subst (AreRootsFixed k) (taken_number kit p register) roots) i less);
    }

  -- ---- a word is put in a register

  word_fixed : (p : PassKnown R W E) (word : FieldWord) → HasWord kit p word → ((i : ℕ) → On (Names s) (held_in p.pass.registers i)) → On (Names s) word
  word_fixed p word (inl number) names = rw number.2 tt
  word_fixed p word (inr held) names = subst (On (Names s)) (sym held.1) (names held.0)

  pub put_fixed : (p : PassKnown R W E) (register : ℕ) (word : FieldWord) → p.pass.machine ≡ machine.Idle → HasWord kit p word → IsFixedPass kit k s n p → IsFixedPass kit k s n (record p { pass = with_register kit p.pass register word })
  put_fixed p register word idle has fixed =
      let before : IsFixedPass kit k s n (in_machine p machine.Idle) = subst (λ (m : PassMachine R W E). IsFixedPass kit k s n (in_machine p m)) idle fixed in
      subst (λ (m : PassMachine R W E). IsFixedPass kit k s n (record p { pass = record (with_register kit p.pass register word) { machine = m } })) (sym idle) (record {
        registers = λ runs by i. held_put (On (Names s)) p.pass.registers register word i (word_fixed p word has (before.registers runs by)) (before.registers runs by i);
        machine = tt;
        roots = before.roots;
      })

  -- ---- a machine begins

  unmade_fixed : (q : PassKnown R W E) (m : NewMachine) → IsUnmade m → IsFixedMachine kit k s n q (machine.New m)
  unmade_fixed q (make.Ended (new_end.Made birth at room)) unmade = absurd unmade
  unmade_fixed q (make.Ended (new_end.Refused why)) unmade = tt
  unmade_fixed q (make.Look plan round) unmade = tt
  unmade_fixed q (make.Claim plan round) unmade = tt
  unmade_fixed q (make.Fill at placement) unmade = tt
  unmade_fixed q (make.Header placement) unmade = tt

  module _ (by : Stepping R W E M) (laws : Laws kit by) (l : Sizes) (p : PassKnown R W E) (running : p.pass.view.acked ≢ retired_word) (packed : (i : ℕ) → IsFieldWord (held_in p.pass.registers i)) (fixed : IsFixedPass kit k s n (in_machine p machine.Idle)) where
    abbrev Fixed : Type 0
    Fixed = IsFixedBy k p.pass.view.acked

    held : Fixed → (i : ℕ) → On (Names s) (held_in p.pass.registers i)
    held its i = fixed.registers running its i

    link_names : (obj birth at : ℕ) → held_in p.pass.registers obj ≡ Link birth at → Fixed → Names s birth at
    link_names obj birth at is its = subst (On (Names s)) is (held its obj)

    operand_names : (what : Operand) → Fixed → On (Names s) (operand_word p.pass.registers what)
    operand_names (operands.Num m) its = tt
    operand_names (operands.Reg register) its = held its register

    -- a call of the object to which a link leads
    call_fixed : (x : Known) (birth at field : ℕ) (t : Task) → x ≡ kit.protocol.begins (stance_at p.pass.view.acked) (cycle_at p.pass.view.acked) (own_of kit.minds p.pass.view) (spots.spot_of birth at field) t
        → (Fixed → Names s birth at) → (Fixed → OnHand (Names s) (word_in t)) → IsFixedCall kit k s p.pass.view.acked x
    call_fixed x birth at field t is link hand =
        let table = laws.table in
        let z : Spot = spots.spot_of birth at field in
        let at_z : at_field x ≡ Some z = ap at_field is ∙ table.calls.begin_at (stance_at p.pass.view.acked) (cycle_at p.pass.view.acked) (own_of kit.minds p.pass.view) z t in
        let task : task_of x ≡ t = ap task_of is ∙ table.calls.begin_task (stance_at p.pass.view.acked) (cycle_at p.pass.view.acked) (own_of kit.minds p.pass.view) z t in
        let bare : has_field x ≡ false = ap has_field is ∙ table.calls.begin_bare (stance_at p.pass.view.acked) (cycle_at p.pass.view.acked) (own_of kit.minds p.pass.view) z t in (
          bare_tasked x bare,
          λ its. record {
            at = λ y e. (let same : z ≡ y = (let both : Some z ≡ Some y = sym at_z ∙ e in cc both) in subst (λ (w : Spot). Names s w.birth w.at) same (link its));
            hand = subst (OnHand (Names s)) (sym (settled_at x z at_z ∙ ((hand_at x z at_z).0 ∙ ap word_in task))) (hand its);
          },
        )

    in_read : (birth at field : ℕ) → (Fixed → Names s birth at) → IsFixedPass kit k s n (in_machine p (machine.Read (kit.starts_read l p.pass.view birth at field)))
    in_read birth at field link = record {
      registers = λ runs its i. held its i;
      machine = call_fixed (kit.reads (kit.starts_read l p.pass.view birth at field)) birth at field Reads (laws.begins_read l p.pass.view birth at field).known link (λ its. tt);
      roots = λ retired. absurd (running retired);
    }

    in_write : (birth at field : ℕ) (word : FieldWord) → IsFieldWord word → (Fixed → Names s birth at) → (Fixed → On (Names s) word) → IsFixedPass kit k s n (in_machine p (machine.Write (kit.starts_write l p.pass.view birth at field (word_of word))))
    in_write birth at field word fits link hand = record {
      registers = λ runs its i. held its i;
      machine = call_fixed (kit.writes (kit.starts_write l p.pass.view birth at field (word_of word))) birth at field (Writes word) (laws.begins_write l p.pass.view birth at field word fits).known link hand;
      roots = λ retired. absurd (running retired);
    }

    in_exchange : (birth at field : ℕ) (expected word : FieldWord) → IsFieldWord word → (Fixed → Names s birth at) → (Fixed → On (Names s) word)
        → IsFixedPass kit k s n (in_machine p (machine.Exchange (kit.starts_exchange l p.pass.view birth at field expected (word_of word))))
    in_exchange birth at field expected word fits link hand = record {
      registers = λ runs its i. held its i;
      machine = call_fixed (kit.exchanges (kit.starts_exchange l p.pass.view birth at field expected (word_of word))) birth at field (Exchanges (value_of expected) word) (laws.begins_exchange l p.pass.view birth at field expected word fits).known link hand;
      roots = λ retired. absurd (running retired);
    }

    pub begun_fixed : (request : Request) (m : PassMachine R W E) → Fits request → machine_for kit l p.pass request ≡ Some m → IsFixedPass kit k s n (in_machine p m)
    begun_fixed requests.Poll m fits said =
        subst (λ (x : PassMachine R W E). IsFixedPass kit k s n (in_machine p x)) (let same : machine.Poll (poll.Phase (poll_of p.pass.view p.pass.registers)) ≡ m = cc in same)
        (record { registers = λ runs its i. held its i; machine = record { phase_at_is = refl; mark_at_is = refl; ack_at_is = refl; view_is = refl; registers_are = refl }; roots = λ retired. absurd (running retired) })
    begun_fixed (requests.New len) m fits said =
        let new : NewMachine = new_of l p.pass.view p.pass.room p.pass.made len in
        subst (λ (x : PassMachine R W E). IsFixedPass kit k s n (in_machine p x)) (let same : machine.New new ≡ m = cc in same)
        (record { registers = λ runs its i. held its i; machine = unmade_fixed (in_machine p (machine.New new)) new (new_unmade l p.pass.view p.pass.room p.pass.made len); roots = λ retired. absurd (running retired) })
    begun_fixed (requests.Read obj field) m fits said =
        let to = accessed_is (held_in p.pass.registers obj) (λ birth at. machine.Read (kit.starts_read l p.pass.view birth at field)) m said in
        subst (λ (x : PassMachine R W E). IsFixedPass kit k s n (in_machine p x)) to.3 (in_read to.0 to.1 field (link_names obj to.0 to.1 to.2))
    begun_fixed (requests.Write obj field what) m fits said =
        let word : FieldWord = operand_word p.pass.registers what in
        let to = accessed_is (held_in p.pass.registers obj) (λ birth at. machine.Write (kit.starts_write l p.pass.view birth at field (word_of word))) m said in
        subst (λ (x : PassMachine R W E). IsFixedPass kit k s n (in_machine p x)) to.3 (in_write to.0 to.1 field word (operand_packed kit by laws l p what fits.1 packed) (link_names obj to.0 to.1 to.2) (operand_names what))
    begun_fixed (requests.Exchange obj field expected what) m fits said =
        let word : FieldWord = operand_word p.pass.registers what in
        let from : FieldWord = operand_word p.pass.registers expected in
        let to = accessed_is (held_in p.pass.registers obj) (λ birth at. machine.Exchange (kit.starts_exchange l p.pass.view birth at field from (word_of word))) m said in
        subst (λ (x : PassMachine R W E). IsFixedPass kit k s n (in_machine p x)) to.3 (in_exchange to.0 to.1 field from word (operand_packed kit by laws l p what fits.2 packed) (link_names obj to.0 to.1 to.2) (operand_names what))
    begun_fixed requests.Retire m fits said =
        subst (λ (x : PassMachine R W E). IsFixedPass kit k s n (in_machine p x)) (let same : machine.Retire (retire.Root (retire_of l p.pass.view.pass p.pass.registers p.pass.room.region) 7) ≡ m = cc in same)
        (record { registers = λ runs its i. held its i; machine = tt; roots = λ retired. absurd (running retired) })
