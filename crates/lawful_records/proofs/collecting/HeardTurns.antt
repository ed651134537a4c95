-- The collector announces, or looks at an acknowledgement.
use Rattle.std.specs.Prelude.{Bool, true, false, nat_lt, if◌then◌else◌}
use Rattle.std.proofs.lemmas.Bool.{cases_eq}
use Rattle.std.proofs.Common.{inl, inr, ◌≡◌, ◌≢◌, ℕ, ◌+◌, ◌-◌, ◌≤◌, ◌⊎◌, List, refl, sym, ap, ◌∙◌, subst, arith, Option, None}
use Rattle.std.proofs.lemmas.List.{append-nil}
use Rattle.call_steps.specs.declared.step.Step.{Step}
use Rattle.call_steps.specs.declared.step.Step.TheVariants.{Load, Store, Ended}
use Rattle.call_steps.specs.Steps.{place_of, put_by, applied, IsInside}
use Rattle.call_steps.specs.StepLaws.{reading, Put, applied-puts}
use Rattle.heap_words.specs.Layouts.{Sizes, IsPass, words_of, phase_at, ack_at}
use Rattle.handshakes.specs.declared.answer.AwaitEnd.{AwaitEnd}
use Rattle.handshakes.specs.declared.answer.AwaitMachine.{AwaitMachine}
use Rattle.handshakes.specs.declared.answer.AwaitMachine.TheVariants as await
use Rattle.handshakes.specs.Awaits as awaits
use Rattle.handshakes.specs.Handshakes.{Announced, Advances, Announces}
use Rattle.space_reclaim.specs.Plans.{Planned}
use Rattle.barriers.specs.Spaces.{Space}
use Rattle.barriers.specs.Says.{Notices}
use Rattle.barriers.specs.Objects.{AreObjects}
use Rattle.barriers.specs.Cycles.{Cycle, Side, OwnFits}
use Rattle.barriers.specs.Stances.{Stance, Retired, Free as Free_stance, stance_at, mark_in}
use Rattle.barriers.specs.Kits.{Kit, Stepping, Laws}
use Rattle.barriers.proofs.words.Frames.{says_load}
use Rattle.barriers.proofs.words.NoticeStores.{says_phase}
use Rattle.object_headers.specs.Changes.{is_clover}
use Rattle.lawful_records.specs.declared.stage.Announcement.{Announcement}
use Rattle.lawful_records.specs.declared.stage.Announcement.TheVariants.{Mark, Confirm, Search, Copy, Fix, Free}
use Rattle.lawful_records.specs.declared.awaited.Awaited.{Awaited}
use Rattle.lawful_records.specs.declared.stage.Stage.{Stage}
use Rattle.lawful_records.specs.declared.collector.CollectorMachine.{CollectorMachine}
use Rattle.lawful_records.specs.declared.collector.CollectorMachine.TheVariants as collector
use Rattle.lawful_records.specs.declared.records.Sealed.{Sealed}
use Rattle.lawful_records.specs.Collectors.{look, drawn_of, word_of, round_of, mark_word, mark_at, is_refused, stage_before, jobs_of, behind_by}
use Rattle.lawful_records.specs.Cycling.{announced_by, clear_by, cycle_of, told_by, told_until, told_awaiting, clear_until, clear_awaiting}
use Rattle.lawful_records.specs.Handshakes.{IsStage}
use Rattle.handshakes.specs.PhaseWords.{retired_word}
use Rattle.lawful_records.specs.Fixing.{fixed_at, is_fixed, fixed_passes, IsFixedBy, AreRootsFixed, FixStands, IsOfJob}
use Rattle.lawful_records.specs.JobStands.{stand_at, stand_of, StandsAt}
use Rattle.lawful_records.specs.Records.{number_of, acked_of}
use Rattle.lawful_records.proofs.fixing.Looks.{fixed_behind, few_awaited, fixed_awaited}
use Rattle.lawful_records.proofs.fixing.Objects.{objects_behind}
use Rattle.lawful_records.specs.Searches.{SearchStands}
use Rattle.lawful_records.specs.Turns.{collector_fed}
use Rattle.lawful_records.proofs.CollectorLaws.{runs}
use Rattle.lawful_records.proofs.frames.SpareStays.{phase_low, ack_low, spare_low}
use Rattle.lawful_records.proofs.collecting.Advancing.{awaited_says, awaited_leaves, looked_says, looked_leaves, advances_look}
use Rattle.lawful_records.proofs.collecting.Fitting.{clear_late}
use Rattle.lawful_records.proofs.collecting.Goes.{found_in, next_of, CollectorStands, CollectorGoes}
use Rattle.lawful_records.proofs.collecting.HeardGoes.{HasHeard, hearing_goes}
use Rattle.lawful_records.proofs.collecting.JobBegins.{stand_on, forward_to, stand_behind}
use Rattle.lawful_records.proofs.collecting.Phasing.{PassGoes, Fits, reach_objects, reach_goes, announce_objects, announce_goes}
use Rattle.lawful_records.proofs.collecting.Playing.{look_tells, await_is}
use Rattle.lawful_records.proofs.collecting.SearchBegins.{search_behind}
use Rattle.lawful_records.proofs.collecting.Stages.{stance_by, stance_word, stage_said, before_said, differs}

-- it announces or awaits
abbrev pub IsHeard : {M : Type 0} → CollectorMachine M → Type 0
IsHeard (collector.Announce s) = Unit {0}
IsHeard (collector.Await s pass m) = Unit {0}
IsHeard k = ⊥

-- Free ends that a search has ended clear
free_ends : (a : Announcement) (clear : Bool) → stance_by a ≡ Free_stance → clear_awaiting a clear ≡ false
free_ends Mark clear is = refl
free_ends Confirm clear is = refl
free_ends Search clear is = refl
free_ends Copy clear is = cc is
free_ends Fix clear is = cc is
free_ends Free clear is = refl

module _ {R W E M : Type 0} (kit : Kit R W E M) (by : Stepping R W E M) (laws : Laws kit by) (l : Sizes) (words : List ℕ) (plan : Planned) (s : Space) (n : Notices) (counts : Awaited) (sealed : List Sealed) where
  abbrev Stands : CollectorMachine M → Type 0
  Stands k = CollectorStands kit by l words plan s n counts sealed k

  abbrev Heard : CollectorMachine M → Type 0
  Heard k = HasHeard kit by laws l words plan s n counts sealed k

  module _ (k : CollectorMachine M) (stands : Stands k) where
    puts : (step : Step) → step ≢ Ended → IsInside (words_of l) step → Put (reading words) (reading (applied step words)) (place_of step) (put_by step (reading words (place_of step)))
    puts step on inside = applied-puts step words on (subst (λ len. IsInside len step) (sym stands.width) inside)

  -- ---- a look

  module _ (st : Stage) (pass : ℕ) (stands : Stands (look st pass)) where
    abbrev looking : CollectorMachine M
    looking = look st pass

    there : IsPass l pass
    there = stands.collects.in_layout

    stage : IsStage l kit.kind stands.cycles st
    stage = stands.collects.stage

    found_ack : found_in kit by l words looking ≡ n.ack pass
    found_ack = stands.says.notices.ack pass there

    abbrev next : CollectorMachine M
    next = next_of kit by l words plan looking

    abbrev its : AwaitMachine
    its = await.Acknowledgement (ack_at pass) pass (word_of st)

    abbrev end : Option AwaitEnd
    end = awaits.end_of (awaits.fed_of its (found_in kit by l words looking))

    -- the job, and a search that begins
    abbrev Next : CollectorMachine M → Type 0
    Next k = StandsAt kit l (cycle_of k) s (stand_of plan k) × SearchStands l (cycle_of k) s k

    pub stand_awaited : (more : Bool) → Next (if more then look st (pass + 1) else behind_by kit plan st.announcement st)
    stand_awaited true = (stand_on kit l s (cycle_of looking) (cycle_of {M = M} (look st (pass + 1))) (is_clover st.kind) st.announcement (jobs_of plan st) stands.jobs, tt)
    stand_awaited false = (
      stand_behind kit by laws l stands.layout plan stands.planned s stands.rows (forward_to kit.protocol (cycle_of looking) s stands.objects) (cycle_of looking) stands.cycles st stage st.announcement refl stands.jobs,
      search_behind kit plan l s stands.rows st stands.layout stage.layout st.announcement,
    )

    stand_looked : Next next
    stand_looked = elim (look_tells kit plan by.move_fed st pass (found_in kit by l words looking)) [
      | inl on ↦ subst Next (sym on.1) (stand_awaited (nat_lt pass st.layout.passes))
      | inr rest ↦ elim rest [ inl again ↦ subst Next (sym again) (stands.jobs, tt) | inr roots ↦ subst Next (sym roots.2) (tt, tt) ]
    ]

    -- ---- what is fixed

    aside_awaited : (more : Bool) (x : ℕ) → IsOfJob (stand_of {M = M} plan looking) x → IsOfJob (stand_of plan (if more then look st (pass + 1) else behind_by kit plan st.announcement st)) x
    aside_awaited true x is = is
    aside_awaited false x is = objects_behind kit plan st st.announcement x is

    aside_looked : (x : ℕ) → IsOfJob (stand_of {M = M} plan looking) x → IsOfJob (stand_of plan next) x
    aside_looked x is = elim (look_tells kit plan by.move_fed st pass (found_in kit by l words looking)) [
      | inl on ↦ subst (λ (k : CollectorMachine M). IsOfJob (stand_of plan k) x) (sym on.1) (aside_awaited (nat_lt pass st.layout.passes) x is)
      | inr rest ↦ elim rest [
        | inl again ↦ subst (λ (k : CollectorMachine M). IsOfJob (stand_of plan k) x) (sym again) is
        | inr roots ↦ absurd (subst (λ (a : Announcement). IsOfJob {M = M} (stand_at (is_clover st.kind) a (jobs_of plan st)) x) roots.1 is)
      ]
    ]

    pub fixed_awaits : (o : Notices) (more : Bool) → FixStands (if more then look st (pass + 1) else behind_by kit plan st.announcement st) s o
    fixed_awaits o true = stands.fixed.stands
    fixed_awaits o false = fixed_behind kit plan st l s o stands.rows stands.layout stage.layout st.announcement stands.fixed.stands

    fixed_looked : FixStands next s n
    fixed_looked = elim (look_tells kit plan by.move_fed st pass (found_in kit by l words looking)) [
      | inl on ↦ subst (λ (k : CollectorMachine M). FixStands k s n) (sym on.1) (fixed_awaits n (nat_lt pass st.layout.passes))
      | inr rest ↦ elim rest [
        | inl again ↦ subst (λ (k : CollectorMachine M). FixStands k s n) (sym again) stands.fixed.stands
        | inr roots ↦ subst (λ (k : CollectorMachine M). FixStands k s n) (sym roots.2) (record { retired = sym found_ack ∙ roots.0; below = λ i less. absurd (omega (arith, less)); hand = tt })
      ]
    ]

    fixed_then : is_fixed next ≡ true → fixed_at st.announcement ≡ true
    fixed_then fixed = elim (look_tells kit plan by.move_fed st pass (found_in kit by l words looking)) [
      | inl on ↦ fixed_awaited kit plan st pass (nat_lt pass st.layout.passes) (subst (λ (k : CollectorMachine M). is_fixed k ≡ true) on.1 fixed)
      | inr rest ↦ elim rest [
        | inl again ↦ subst (λ (k : CollectorMachine M). is_fixed k ≡ true) again fixed
        | inr roots ↦ absurd (let gone : false ≡ true = subst (λ (k : CollectorMachine M). is_fixed k ≡ true) roots.2 fixed in cc gone)
      ]
    ]

    lets_looked : (acked : ℕ) → IsFixedBy next acked → IsFixedBy {M = M} looking acked
    lets_looked acked (inl fixed) = inl (fixed_then fixed)
    lets_looked acked (inr fix) = inr fix

    -- how many root words are fixed: those of passes before this one, and then those of this one if it has not retired
    few_then : (number acked : ℕ) → n.ack number ≡ acked → acked ≡ retired_word → number ≤ fixed_passes next → (number ≤ pass - 1) ⊎ (st.announcement ≢ Fix)
    few_then number acked is retired few = elim (look_tells kit plan by.move_fed st pass (found_in kit by l words looking)) [
      | inl on ↦ elim (cases_eq number pass) [
        | inl here ↦ inr (on.2 (found_ack ∙ (ap n.ack (sym here) ∙ (is ∙ retired))))
        | inr other ↦
            let most = few_awaited kit plan st pass (nat_lt pass st.layout.passes) refl in
            let below : number ≤ fixed_passes (if nat_lt pass st.layout.passes then look st (pass + 1) else behind_by kit plan st.announcement st) = subst (λ (k : CollectorMachine M). number ≤ fixed_passes k) on.1 few in
            inl (omega (arith, most, below, other))
      ]
      | inr rest ↦ elim rest [
        | inl again ↦ inl (subst (λ (k : CollectorMachine M). number ≤ fixed_passes k) again few)
        | inr roots ↦ inl (subst (λ (k : CollectorMachine M). number ≤ fixed_passes k) roots.2 few)
      ]
    ]

    fixed_or_fix : (a : Announcement) → a ≢ Fix → fixed_at a ≡ true
    fixed_or_fix Fix other = absurd (other refl)
    fixed_or_fix Mark other = refl
    fixed_or_fix Confirm other = refl
    fixed_or_fix Search other = refl
    fixed_or_fix Copy other = refl
    fixed_or_fix Free other = refl

    roots_looked : (number acked : ℕ) → n.ack number ≡ acked → acked ≡ retired_word → AreRootsFixed next number → AreRootsFixed {M = M} looking number
    roots_looked number acked is retired (inl fixed) = inl (fixed_then fixed)
    roots_looked number acked is retired (inr few) = elim (few_then number acked is retired few) [ inl below ↦ inr below | inr other ↦ inl (fixed_or_fix st.announcement other) ]

    -- the cycle is the same, but who has acknowledged the last Copy word
    leaves : (drawn_of next ≡ mark_word st) × (clear_by next ≡ clear_awaiting st.announcement st.marks.clear)
    leaves = looked_leaves kit plan l kit.kind stands.cycles stands.few st stage pass its end

    same_word : (let a = announced_by next in a.word) ≡ word_of st
    same_word = ap (λ (a : Announced). a.word) (looked_says kit plan l kit.kind stands.cycles st stage pass its end 0)

    same_cycle : record (cycle_of looking) { told = told_by next } ≡ cycle_of next
    same_cycle = rw (same_word, leaves.0, leaves.1) refl

    look_inside : IsInside (words_of l) (Load (ack_at pass))
    look_inside = omega (arith, there.0, there.1)

    step_put : Put (reading words) (reading (applied (Load (ack_at pass)) words)) (ack_at pass) (reading words (ack_at pass))
    step_put = puts looking stands (Load (ack_at pass)) (λ e. cc e) look_inside

    abbrev reached : Cycle
    reached = record (cycle_of looking) { told = told_by next }

    reached_objects : AreObjects kit.protocol reached s
    reached_objects = reach_objects kit laws.table laws.cycle s stands.resting (stance_at (word_of st)) (told_awaiting st.announcement (is_refused st)) (mark_in (mark_word st)) (clear_awaiting st.announcement st.marks.clear) (told_by next) stands.objects

    reached_goes : (side : Side) → Fits kit laws.table laws.cycle s reached side → PassGoes kit laws.table laws.cycle s (cycle_of looking) reached side
    reached_goes side fits = reach_goes kit laws.table laws.cycle s stands.resting (stance_at (word_of st)) (told_awaiting st.announcement (is_refused st)) (mark_in (mark_word st)) (clear_awaiting st.announcement st.marks.clear) (told_by next) stands.objects side fits

    -- ---- what comes once the pass has answered

    abbrev pub Then : Bool → CollectorMachine M
    Then more = if more then look st (pass + 1) else behind_by kit plan st.announcement st

    pub then_word : (more : Bool) → (let a = announced_by (Then more) in a.word) ≡ word_of st
    then_word more = ap (λ (a : Announced). a.word) (awaited_says kit plan l kit.kind stands.cycles st stage pass more 0)

    pub then_leaves : (more : Bool) → (drawn_of (Then more) ≡ mark_word st) × (clear_by (Then more) ≡ clear_awaiting st.announcement st.marks.clear)
    then_leaves more = awaited_leaves kit plan l kit.kind stands.cycles stands.few st stage pass more

    then_cycle : (more : Bool) → record (cycle_of looking) { told = told_by (Then more) } ≡ cycle_of (Then more)
    then_cycle more = let leaves_it = then_leaves more in rw (then_word more, leaves_it.0, leaves_it.1) refl

    pub then_objects : (more : Bool) → AreObjects kit.protocol (cycle_of (Then more)) s
    then_objects more = subst (λ (c : Cycle). AreObjects kit.protocol c s) (then_cycle more)
        (reach_objects kit laws.table laws.cycle s stands.resting (stance_at (word_of st)) (told_awaiting st.announcement (is_refused st)) (mark_in (mark_word st)) (clear_awaiting st.announcement st.marks.clear) (told_by (Then more)) stands.objects)

    pub then_goes : (more : Bool) (side : Side) → Fits kit laws.table laws.cycle s (cycle_of (Then more)) side → PassGoes kit laws.table laws.cycle s (cycle_of looking) (cycle_of (Then more)) side
    then_goes more side fits = subst (λ (c : Cycle). PassGoes kit laws.table laws.cycle s (cycle_of looking) c side) (then_cycle more)
        (reach_goes kit laws.table laws.cycle s stands.resting (stance_at (word_of st)) (told_awaiting st.announcement (is_refused st)) (mark_in (mark_word st)) (clear_awaiting st.announcement st.marks.clear) (told_by (Then more)) stands.objects
        side (subst (λ (c : Cycle). Fits kit laws.table laws.cycle s c side) (sym (then_cycle more)) fits))

    heard_look : Heard looking
    heard_look = record {
      notices = n;
      says = says_load l (reading words) (reading (applied (Load (ack_at pass)) words)) s n (ack_at pass) step_put stands.rows stands.says;
      spare = spare_low l (reading words) (reading (applied (Load (ack_at pass)) words)) s stands.spare (ack_at pass) (reading words (ack_at pass)) step_put (ack_low l pass there);
      phase = stands.announced ∙ sym same_word;
      drawn = stands.drawn ∙ sym leaves.0;
      acks = λ p. refl;
      roots = λ p reg runs. refl;
      rooted = λ p is. is;
      advances = subst (λ (found : ℕ). Advances l n.ack (announced_by looking) (announced_by (collector_fed kit by plan looking found))) (sym found_ack) (advances_look kit plan l kit.kind stands.cycles st stage by.move_fed pass n.ack there);
      marks = λ waits. refl;
      differ = λ waits. (differs st (stage_said l kit.kind stands.cycles stands.few st stage) (before_said l kit.kind stands.cycles stands.few st stage), (let b = stage_before st in runs b.announcement b.cycle (round_of b)));
      objects = subst (λ (c : Cycle). AreObjects kit.protocol c s) same_cycle reached_objects;
      goes = λ side at before after. subst (λ (c : Cycle). PassGoes kit laws.table laws.cycle s (cycle_of looking) c side) same_cycle (reached_goes side (subst (λ (c : Cycle). Fits kit laws.table laws.cycle s c side) (sym same_cycle) after));
      still = λ a moved. moved;
      stands_then = stand_looked.0;
      search_then = stand_looked.1;
      aside = aside_looked;
      fixed = fixed_looked;
      lets = λ acked all by_next. lets_looked acked by_next;
      roots_fixed = λ p own is retired roots. is.roots retired (roots_looked (number_of p) (acked_of p) own.answering.acked retired roots);
      none_sealed = append-nil sealed;
    }

  -- ---- an announcement

  module _ (st : Stage) (stands : Stands (collector.Announce st)) where
    abbrev saying : CollectorMachine M
    saying = collector.Announce st

    passes : st.layout.passes ≡ l.passes
    passes = ap (λ (t : Sizes). t.passes) stands.collects.layout

    say_inside : IsInside (words_of l) (Store phase_at (word_of st))
    say_inside = let least = stands.layout.passes.0 in omega (arith, least)

    stored : Put (reading words) (reading (applied (Store phase_at (word_of st)) words)) phase_at (word_of st)
    stored = puts saying stands (Store phase_at (word_of st)) (λ e. cc e) say_inside

    stance_is : stance_at (word_of st) ≡ stance_by st.announcement
    stance_is = stance_word st (stage_said l kit.kind stands.cycles stands.few st stands.collects)

    ends : (clear_awaiting st.announcement st.marks.clear ≡ true → clear_until st ≡ true) × (stance_at (word_of st) ≡ Free_stance → clear_awaiting st.announcement st.marks.clear ≡ false)
    ends = (clear_late st.announcement st.marks.clear, λ free. free_ends st.announcement st.marks.clear (sym stance_is ∙ free))

    abbrev before : Stance
    before = stance_at (word_of (stage_before st))

    -- a pass at Free has no mark
    free_leaves : (side : Side) → side.acked ≡ before → Fits kit laws.table laws.cycle s (cycle_of saying) side → side.acked ≢ Retired → before ≡ Free_stance → side.own ≡ None
    free_leaves side at fits on free = subst (λ (x : Stance). OwnFits x side.own (mark_in (mark_word st))) (at ∙ free) (fits on).own

    heard_say : Heard saying
    heard_say = record {
      notices = record n { phase = word_of st };
      says = says_phase l (reading words) (reading (applied (Store phase_at (word_of st)) words)) s n stands.rows stands.says (word_of st) stored;
      spare = spare_low l (reading words) (reading (applied (Store phase_at (word_of st)) words)) s stands.spare phase_at (word_of st) stored (phase_low l);
      phase = refl;
      drawn = stands.drawn;
      acks = λ p. refl;
      roots = λ p reg runs. refl;
      rooted = λ p is. is;
      advances = Announces (word_of st) (mark_at st) (omega (arith, passes));
      marks = λ waits. refl;
      differ = λ waits. absurd (omega (arith, passes, waits));
      objects = announce_objects kit laws.table laws.cycle s stands.resting before (stance_at (word_of st)) (told_until st) (told_awaiting st.announcement (is_refused st)) (mark_in (mark_word st)) (clear_until st) (clear_awaiting st.announcement st.marks.clear) ends stands.objects;
      goes = λ side at was is. announce_goes kit laws.table laws.cycle s stands.resting before (stance_at (word_of st)) (told_until st) (told_awaiting st.announcement (is_refused st)) (mark_in (mark_word st)) side
          (λ on free. free_leaves side (at on (omega (arith, passes))) was on free)
          (clear_until st) (clear_awaiting st.announcement st.marks.clear) ends stands.objects was is;
      still = λ a moved. moved;
      stands_then = stand_on kit l s (cycle_of {M = M} saying) (cycle_of {M = M} (look st 1)) (is_clover st.kind) st.announcement (jobs_of plan st) stands.jobs;
      search_then = tt;
      aside = λ a is. is;
      fixed = stands.fixed.stands;
      lets = λ acked all by_next. by_next;
      roots_fixed = λ p own is retired roots. is.roots retired (elim roots [ inl fixed ↦ inl fixed | inr few ↦ absurd (let there = own.number in omega (arith, few, there.0)) ]);
      none_sealed = append-nil sealed;
    }

  heard : (k : CollectorMachine M) → IsHeard k → Stands k → Heard k
  heard (collector.Announce st) is stands = heard_say st stands
  heard (collector.Await st pass m) is stands =
      let same = await_is kit by.move_fed l kit.kind stands.cycles st pass m stands.collects in
      subst Heard (sym same) (heard_look st pass (subst Stands same stands))
  heard k is stands = absurd is

  pub heard_goes : (k : CollectorMachine M) → IsHeard k → Stands k → CollectorGoes kit by l words plan s n sealed k
  heard_goes k is stands = hearing_goes kit by laws l words plan s n counts sealed k stands (heard k is stands)
