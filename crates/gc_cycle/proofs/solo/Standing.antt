-- Where a thread stands while the collector has not begun.
use Rattle.std.proofs.Common.{◌≡◌, ◌≢◌, ℕ, ◌≤◌, inl, inr, true, List, Option, Some, None, refl, sym, ap, ◌∙◌, subst, arith}
use Rattle.call_steps.specs.declared.step.Step.TheVariants as steps
use Rattle.call_steps.specs.StepLaws.{reading}
use Rattle.heap_words.specs.Layouts.{Sizes, IsLayout, IsPass, region_at}
use Rattle.heap_script.specs.declared.script.Command.{Command}
use Rattle.heap_script.specs.declared.script.Command.TheVariants as commands
use Rattle.space_reclaim.specs.declared.claim.Round.{Round}
use Rattle.space_reclaim.specs.declared.region_word.RegionWord.{RegionWord}
use Rattle.space_reclaim.specs.declared.region_word.RegionWord.TheVariants as regions
use Rattle.space_reclaim.specs.RegionWords.{word_of_region}
use Rattle.space_reclaim.specs.OwnRegions.{IsOwn, first_own}
use Rattle.space_reclaim.specs.Claims.{round_of}
use Rattle.handshakes.specs.declared.pass_view.PassView.{PassView}
use Rattle.handshakes.specs.declared.poll.PollMachine.TheVariants as poll
use Rattle.handshakes.specs.Handshakes.{Announced, AnswersWith}
use Rattle.handshakes.specs.PhaseWords.{retired_word}
use Rattle.barriers.specs.declared.new_object.NewPlan.{NewPlan}
use Rattle.barriers.specs.declared.new_object.NewMachine.{NewMachine}
use Rattle.barriers.specs.declared.new_object.NewMachine.TheVariants as make
use Rattle.barriers.specs.declared.pass.PassMachine.{PassMachine}
use Rattle.barriers.specs.declared.pass.PassMachine.TheVariants as machine
use Rattle.barriers.specs.declared.pass.PassRecord.{PassRecord}
use Rattle.barriers.specs.declared.room.Room.{Room}
use Rattle.barriers.specs.Kits.{Kit, Stepping, Laws}
use Rattle.barriers.specs.Spaces.{Space}
use Rattle.barriers.specs.Says.{Notices, Says}
use Rattle.barriers.specs.Cycles.{Cycle}
use Rattle.lawful_records.specs.declared.collector.CollectorMachine.{CollectorMachine}
use Rattle.lawful_records.specs.declared.records.PassKnown.{PassKnown}
use Rattle.lawful_records.specs.Collectors.{collector_of, announced_of, passed_of}
use Rattle.lawful_records.specs.Cycling.{announced_by, cycle_of}
use Rattle.lawful_records.specs.Making.{IsRoom, has_room}
use Rattle.lawful_records.specs.Records.{view_by, room_by}
use Rattle.lawful_records.specs.LawfulRecords.{IsMachine}
use Rattle.lawful_records.proofs.turns.Stepping.{own_there}
use Rattle.gc_cycle.specs.Worlds.{State, pass_at, asks_at}
use Rattle.gc_cycle.specs.Lawful.{Lawful, known_in}
use Rattle.gc_cycle.proofs.Acknowledging.{pass_record, collector_record, acknowledged, view_going}
use Rattle.gc_cycle.proofs.solo.AtStart.{passed_from_start, no_mark_at_start}
use Rattle.gc_cycle.proofs.solo.Finding.{PassFinds, pass_finds}
use Rattle.gc_cycle.proofs.solo.Left.{IsUnhindered, asks}
use Rattle.gc_cycle.proofs.solo.Turns.{IsUnmarked, machine_at}

module _ {R W E M : Type 0} (kit : Kit R W E M) where
  -- ---- its next step

  module _ (by : Stepping R W E M) (l : Sizes) (words : List ℕ) (s : Space) (n : Notices) (c : Cycle) (k : PassKnown R W E)
      (says : Says l (reading words) s n)
      (acked : (let view = k.pass.view in view.acked) ≡ n.phase) (unmarked : IsUnmarked k.pass) where
    unhindered_at : (m : PassMachine R W E) → IsMachine kit l c s n k m → PassFinds kit by words m → IsUnhindered kit by words m
    unhindered_at machine.Idle at found = tt
    unhindered_at (machine.Poll (poll.Phase q)) at found = (cc (says.notices.phase), ap (λ (v : PassView). v.mark) at.view_is ∙ unmarked)
    unhindered_at (machine.Poll (poll.Mark q word)) at found = absurd (let with = at.0 in with.acked_not acked)
    unhindered_at (machine.Poll (poll.Follow q word register birth address)) at found = absurd (let with = at.0 in with.acked_not acked)
    unhindered_at (machine.Poll (poll.Acknowledge q word mark)) at found = absurd (let with = at.0 in with.acked_not acked)
    unhindered_at (machine.Poll (poll.Ended end)) at found = tt
    unhindered_at (machine.New m) at found = tt
    unhindered_at (machine.Read m) at found = tt
    unhindered_at (machine.Write m) at found = tt
    unhindered_at (machine.Exchange m) at found = found
    unhindered_at (machine.Retire m) at found = tt
    unhindered_at machine.Retired at found = tt

  -- ---- of a lawful world

  -- what goes with an announcement that all have heard is their mark
  mark_of_word : (a : Announced) (pass acked mark : ℕ) → AnswersWith a pass acked mark → a.mark ≡ 0 → pass ≤ a.passed → mark ≡ 0
  mark_of_word a pass acked mark (inl retired) none passed = retired.1
  mark_of_word a pass acked mark (inr (inl said)) none passed = said.1 ∙ none
  mark_of_word a pass acked mark (inr (inr waits)) none passed = absurd (omega (arith, waits.1, passed))

  -- where the collector has not begun, none has a mark yet
  pub none_marked : (w : State R W E M) → Lawful kit w → (p : ℕ) → IsPass w.layout p → (cycles salt : ℕ) → w.collector ≡ collector_of kit w.plan w.layout cycles salt → IsUnmarked (pass_at w p)
  none_marked w lw p is cycles salt start =
      let r : PassRecord R W E = pass_at w p in
      let thread = lw.threads p is in
      let its = pass_record kit w lw p is in
      let collects = collector_record kit w lw in
      let same : view_by r.machine r.view ≡ r.view = view_going kit r.machine r.view thread.going in
      let begun : lw.records.collector ≡ collector_of kit w.plan w.layout cycles salt = sym collects.machine ∙ start in
      let none : (let a = announced_by lw.records.collector in a.mark) ≡ 0 = ap (λ (k : CollectorMachine M). (let a = announced_by k in a.mark)) begun ∙ no_mark_at_start kit w.plan w.layout cycles salt in
      let passed : passed_of lw.records.collector ≡ w.layout.passes = ap passed_of begun ∙ passed_from_start kit w.plan w.layout cycles salt in
      let number : (let view = view_by r.machine r.view in view.pass) ≡ p = ap (λ (v : PassView). v.pass) same ∙ thread.number in
      ap (λ (v : PassView). v.mark) (sym same) ∙ mark_of_word (announced_by lw.records.collector) _ _ _ its.answering.marked none (omega (arith, number, passed, is.1))

  module _ (by : Stepping R W E M) (laws : Laws kit by) where
    not_retired : (m : PassMachine R W E) → asks kit by m ≢ steps.Ended → m ≢ machine.Retired
    not_retired m on is = on (ap (asks kit by) is)

    -- where the collector has not begun
    pub unhindered : (w : State R W E M) → Lawful kit w → (p : ℕ) → IsPass w.layout p → (cycles salt : ℕ) → w.collector ≡ collector_of kit w.plan w.layout cycles salt → asks_at kit by w p ≢ steps.Ended
        → IsUnhindered kit by w.words (machine_at w p)
    unhindered w lw p is cycles salt start on =
        let r : PassRecord R W E = pass_at w p in
        let its = pass_record kit w lw p is in
        let collects = collector_record kit w lw in
        let thread = lw.threads p is in
        let own : r.view.pass ≡ p = thread.number in
        let said = acknowledged kit w lw p is in
        let running : r.view.acked ≢ retired_word = λ e. not_retired r.machine on (said.retired.0 e) in
        let passed : passed_of w.collector ≡ w.layout.passes = ap passed_of start ∙ passed_from_start kit w.plan w.layout cycles salt in
        let acked : r.view.acked ≡ announced_of w.collector = said.passed running (omega (arith, is.1, passed)) in
        let phase : announced_of w.collector ≡ lw.records.notices.phase = ap announced_of collects.machine ∙ sym lw.records.announced in
        unhindered_at by w.layout w.words lw.records.space lw.records.notices (cycle_of lw.records.collector) (known_in w r)
        lw.records.says (acked ∙ phase) (none_marked w lw p is cycles salt start)
        r.machine its.machine (pass_finds kit by laws w lw p is on)
