-- Where all threads have ended, the collector ends with an announcement and a look at each pass for each of the five announcements of each
-- cycle that is left, and with the steps of the job, of the searches and of the fixing of each.
use Rattle.std.proofs.Common.{◌≡◌, ◌≢◌, ℕ, ◌+◌, ◌-◌, ◌*◌, ◌<◌, ◌≤◌, ◌==◌, Bool, true, false, List, Option, Some, None, refl, sym, ap, subst, arith, lit<, length, get_or, ◌∙◌}
use Rattle.std.specs.Prelude.{nat_lt, if◌then◌else◌, drop}
use Rattle.std.proofs.Math.Nat.{mul-le-mul_right}
use Rattle.std.proofs.lemmas.Bool.Decides.{nat_tests}
use Rattle.std.proofs.lemmas.Bool.{eq-eqb}
use Rattle.heap_words.specs.Layouts.{Sizes, IsLayout, IsPass, ack_at}
use Rattle.heap_words.specs.declared.limits.TheConstants.{REGISTERS}
use Rattle.call_steps.specs.Steps.{applied, found_by}
use Rattle.call_steps.specs.StepLaws.{reading}
use Rattle.handshakes.specs.declared.answer.AwaitEnd.TheVariants.{Answered, Retired, NotYet}
use Rattle.handshakes.specs.declared.answer.AwaitMachine.{AwaitMachine}
use Rattle.handshakes.specs.declared.answer.AwaitMachine.TheVariants as await
use Rattle.handshakes.specs.PhaseWords.{retired_word}
use Rattle.object_headers.specs.Changes.{is_clover}
use Rattle.mark_search.specs.declared.seek.SeekEnd.{SeekEnd}
use Rattle.mark_search.specs.declared.seek.SeekEnd.TheVariants.{Clear, MarkFound}
use Rattle.mark_search.specs.declared.seek.SeekMarkMachine.{SeekMarkMachine}
use Rattle.mark_search.specs.Seeks as seeking
use Rattle.reference_fix.specs.declared.fix_walk.FixWalkMachine.{FixWalkMachine}
use Rattle.reference_fix.specs.declared.root_fix.RootFixMachine.{RootFixMachine}
use Rattle.reference_fix.specs.FixWalks as walks
use Rattle.reference_fix.specs.RootFixes as roots
use Rattle.reference_fix.proofs.FixWalks as walking
use Rattle.space_reclaim.specs.declared.move_job.MoveJob.{MoveJob}
use Rattle.barriers.specs.declared.ends.MoveEnd.{MoveEnd}
use Rattle.barriers.specs.Kits.{Kit, Stepping}
use Rattle.lawful_records.specs.declared.stage.Announcement.{Announcement}
use Rattle.lawful_records.specs.declared.stage.Announcement.TheVariants.{Mark, Confirm, Search, Copy, Fix, Free}
use Rattle.lawful_records.specs.declared.stage.Stage.{Stage}
use Rattle.lawful_records.specs.declared.collector.CollectorMachine.{CollectorMachine}
use Rattle.lawful_records.specs.declared.collector.CollectorMachine.TheVariants as collector
use Rattle.lawful_records.specs.Collectors.{word_of, mark_word, is_planned, target_of, asks_of, fed_of, look, looked, awaited, retired_by, root_fix, rooted, walked, announce, searched, seek_at, sought, tag_at, move_at, target_at, source_at, work_at, moves_at, behind_by, moved_by, stage_at_start, collector_of}
use Rattle.lawful_records.specs.Handshakes.{IsCollector, IsAwait, IsSeek, IsRooting, IsWalk}
use Rattle.lawful_records.specs.declared.stage.TheConstants.{SEARCHES}
use Rattle.lawful_records.proofs.collecting.PlanLists.{at_is, all_in, drop_some}
use Rattle.call_steps.specs.declared.step.Step.TheVariants.{Ended}
use Rattle.gc_cycle.proofs.solo.CycleSteps.{after_in, work_steps, job_steps, root_steps, cycles_after, steps_each, search_steps, fix_steps, roots_from, said_after, rest_after, searches_after, fixings_after, onward_left, left_after, says_next, says_after, at_most, none_of, fewer_searches, searches_next, roots_fewer, fixing_next}
use Rattle.gc_cycle.proofs.solo.Finding.{CollectorFinds}
use Rattle.gc_cycle.proofs.solo.SearchEnds.{seek_left, seek_falls}
use Rattle.gc_cycle.proofs.solo.PlaysAlone.{most_move_steps, HasPlace, PlaysAlone}
use Rattle.gc_cycle.proofs.solo.SmallPlans.{IsSmall}
use Rattle.std.specs.List.{slice_get, prefix_len}
use Rattle.space_reclaim.specs.Plans.{Planned}
use Rattle.std.proofs.lemmas.List.{length-drop}
use Rattle.std.proofs.lemmas.List.Sums.{prefix_len-drop_yes}
use Rattle.std.proofs.lemmas.Option.{slice_get_within}

module _ {R W E M : Type 0} (kit : Kit R W E M) (by : Stepping R W E M) (alone : PlaysAlone kit by) where
  -- what is known of memory and of its mover
  abbrev pub MovesAlone : (ℕ → ℕ) → CollectorMachine M → Type 0
  MovesAlone memory (collector.Move s job next m) = alone.MoveAlone memory m
  MovesAlone memory k = Unit {0}

module _ {R W E M : Type 0} (kit : Kit R W E M) (by : Stepping R W E M) (alone : PlaysAlone kit by) (plan : Planned) where
  -- from the look at a pass on
  abbrev awaited_left : Stage → ℕ → ℕ
  awaited_left s pass = steps_each s - pass + roots_from s.announcement s.layout pass + left_after s.announcement s

  -- from an announcement on
  abbrev announced_left : Stage → ℕ
  announced_left s = steps_each s + roots_from s.announcement s.layout 1 + left_after s.announcement s

  -- until it has played its cycles
  abbrev pub left_of_collector : CollectorMachine M → ℕ
  left_of_collector (collector.Announce s) = announced_left s
  left_of_collector (collector.Await s pass m) = awaited_left s pass
  left_of_collector (collector.Draw s) = 1 + announced_left s
  left_of_collector (collector.Seek s m) = seek_left m + onward_left Search s
  left_of_collector (collector.Source s region next) = 1 + length (drop next plan.chosen) + (length plan.jobs + length plan.jobs * (1 + most_move_steps)) + announced_left s
  left_of_collector (collector.Target s region next) = 1 + length (drop next plan.jobs) + length plan.jobs * (1 + most_move_steps) + announced_left s
  left_of_collector (collector.Tag s job next) = 1 + length (drop next plan.jobs) + announced_left s
  left_of_collector (collector.Move s job next m) = alone.move_left m + length (drop next plan.jobs) * most_move_steps + announced_left s
  left_of_collector (collector.Roots s pass reg m) = roots.left_of m + root_steps * (REGISTERS - (reg + 1)) + awaited_left s (pass + 1)
  left_of_collector (collector.Walk s m) = walking.walk_left m + onward_left Fix s
  left_of_collector (collector.Done s) = 0

  -- it has fewer steps left than before
  abbrev FallsTo : ℕ → (ℕ → ℕ) → CollectorMachine M → Type 0
  FallsTo before memory k = (left_of_collector k < before) × MovesAlone kit by alone memory k

  abbrev AtMost : ℕ → (ℕ → ℕ) → CollectorMachine M → Type 0
  AtMost most memory k = (left_of_collector k ≤ most) × MovesAlone kit by alone memory k

  -- ---- the work on the plan

  -- one of the rest is done
  one_less : {X : Type 0} (xs : List X) (at : ℕ) (x : X) → slice_get xs at ≡ Some x → length (drop at xs) ≡ 1 + length (drop (at + 1) xs)
  one_less xs at x e = let same = ap (λ ys. length ys) (drop_some xs at x e) in omega (arith, same)

  module _ (small : IsSmall plan) (memory : ℕ → ℕ) (s : Stage) where
    move_most : (o : Option MoveJob) (at : ℕ) → slice_get plan.jobs at ≡ o → AtMost (length (drop at plan.jobs) * most_move_steps + announced_left s) memory (move_at kit o s at)
    move_most None at e = (omega arith, tt)
    move_most (Some job) at e =
        let place = all_in HasPlace plan.jobs job small.places (at, e) in
        let few = alone.move_few s.layout job (mark_word s) place in
        (omega (arith, few, one_less plan.jobs at job e), alone.move_first memory s.layout job (mark_word s) place)

    tag_most : (o : Option MoveJob) (at : ℕ) → slice_get plan.jobs at ≡ o → AtMost (length (drop at plan.jobs) + announced_left s) memory (tag_at o s at)
    tag_most None at e = (omega arith, tt)
    tag_most (Some job) at e = (omega (arith, one_less plan.jobs at job e), tt)

    targeted_most : (b : Bool) → AtMost (length plan.jobs * (1 + most_move_steps) + announced_left s) memory (if b then move_at kit (slice_get plan.jobs 0) s 0 else tag_at (slice_get plan.jobs 0) s 0)
    targeted_most true = let most = move_most (slice_get plan.jobs 0) 0 refl in (omega (arith, most.0), most.1)
    targeted_most false = let most = tag_most (slice_get plan.jobs 0) 0 refl in (omega (arith, most.0), most.1)

    target_most : (o : Option MoveJob) (at : ℕ) → slice_get plan.jobs at ≡ o → AtMost (length (drop at plan.jobs) + length plan.jobs * (1 + most_move_steps) + announced_left s) memory (target_at kit plan o s at)
    target_most None at e = let most = targeted_most (is_clover s.kind) in (omega (arith, most.0), most.1)
    target_most (Some job) at e =
        let test : MoveJob → Bool = λ j. target_of s.layout j == target_of s.layout job in
        let inside = slice_get_within plan.jobs at job e in
        let here : test (get_or plan.jobs at job) ≡ true = ap test (at_is plan.jobs at job job e) ∙ eq-eqb (target_of s.layout job) (target_of s.layout job) refl in
        let some = prefix_len-drop_yes test plan.jobs at job inside here in
        (omega (arith, some, inside, length-drop at plan.jobs, length-drop (at + prefix_len test (drop at plan.jobs)) plan.jobs), tt)

    source_most : (o : Option ℕ) (at : ℕ) → slice_get plan.chosen at ≡ o → AtMost (length (drop at plan.chosen) + (length plan.jobs + length plan.jobs * (1 + most_move_steps)) + announced_left s) memory (source_at kit plan o s at)
    source_most None at e = let most = target_most (slice_get plan.jobs 0) 0 refl in (omega (arith, most.0), most.1)
    source_most (Some region) at e = (omega (arith, one_less plan.chosen at region e), tt)

    work_by : (b : Bool) → AtMost (work_steps + announced_left s) memory (if b then source_at kit plan (slice_get plan.chosen 0) s 0 else collector.Announce s)
    work_by true = let most = source_most (slice_get plan.chosen 0) 0 refl in (omega (arith, most.0, small.steps), most.1)
    work_by false = (omega arith, tt)

    work_most : AtMost (work_steps + announced_left s) memory (work_at kit plan s)
    work_most = work_by (is_planned s)

    moves_by : (b : Bool) → AtMost (work_steps + announced_left s) memory (if b then move_at kit (slice_get plan.jobs 0) s 0 else collector.Announce s)
    moves_by true = let most = move_most (slice_get plan.jobs 0) 0 refl in (omega (arith, most.0, small.steps), most.1)
    moves_by false = (omega arith, tt)

    moves_most : AtMost (work_steps + announced_left s) memory (moves_at kit plan s)
    moves_most = moves_by (is_planned s)

  -- ---- what comes after a stage

  -- after Free a cycle begins, or there is none
  left_after_free : (s : Stage) (more : Bool) → nat_lt s.cycle s.cycles ≡ more
      → left_of_collector (if more then collector.Announce (record s { cycle = s.cycle + 1; announcement = Mark }) else collector.Done s) ≤ left_after Free s
  left_after_free s true is =
      let some : s.cycle < s.cycles = grind (arith, nat_tests) in
      let next : Stage = record s { cycle = s.cycle + 1 } in
      let searches : SEARCHES + SEARCHES * cycles_after next ≡ 0 + SEARCHES * cycles_after s = omega (arith, some) in
      let same : searches_after Mark next ≡ searches_after Free s = ap (λ n. n * search_steps s.layout) searches in
      let fixings : 1 + cycles_after next ≡ 0 + cycles_after s = omega (arith, some) in
      let fixed : fixings_after Mark next ≡ fixings_after Free s = ap (λ n. n * fix_steps s.layout) fixings in
      let said = says_next (after_in Free + 5 * cycles_after s) (after_in Mark + 5 * cycles_after next) (steps_each s) (rest_after Free s) (rest_after Mark next) (omega (arith, some)) (omega (arith, some, same, fixed)) in
      omega (arith, said)
  left_after_free s false is = omega arith

  -- before Copy is said the object of a job is tagged
  says_copy : (s : Stage) → work_steps + announced_left (record s { announcement = Copy }) ≤ left_after Confirm s
  says_copy s =
      let fewer = fewer_searches 0 SEARCHES (cycles_after s) (search_steps s.layout) (omega arith) in
      let said = says_after (3 + 5 * cycles_after s) (2 + 5 * cycles_after s) (steps_each s) (rest_after Confirm s) (rest_after Copy s) work_steps (omega arith) (omega (arith, fewer)) in
      omega (arith, said)

  left_to_copy : IsSmall plan → (s : Stage) (marked : Bool) → left_of_collector (if marked then collector.Draw (searched s 1) else work_at kit plan (record s { announcement = Copy })) ≤ left_after Confirm s
  left_to_copy small s true = omega (arith, searches_next SEARCHES (SEARCHES - 1) (cycles_after s) (search_steps s.layout) (omega arith))
  left_to_copy small s false = let most = work_most small (λ a. 0) (record s { announcement = Copy }) in omega (arith, most.0, says_copy s)

  left_to_seek : (s : Stage) → left_of_collector (seek_at s) ≤ left_after Search s
  left_to_seek s = omega arith

  -- before Fix is said it is moved
  says_fix : (s : Stage) → work_steps + announced_left (record s { announcement = Fix }) ≤ left_after Copy s
  says_fix s =
      let fixing = fixing_next (cycles_after s) (fix_steps s.layout) in
      let said = says_after (2 + 5 * cycles_after s) (1 + 5 * cycles_after s) (steps_each s) (rest_after Copy s) (fix_steps s.layout + rest_after Fix s) work_steps (omega arith) (omega (arith, fixing)) in
      omega (arith, said)

  left_to_fix : IsSmall plan → (s : Stage) (marked : Bool) → left_of_collector (if marked then work_at kit plan (record s { announcement = Fix }) else moves_at kit plan (record s { announcement = Fix })) ≤ left_after Copy s
  left_to_fix small s true = let most = work_most small (λ a. 0) (record s { announcement = Fix }) in omega (arith, most.0, says_fix s)
  left_to_fix small s false = let most = moves_most small (λ a. 0) (record s { announcement = Fix }) in omega (arith, most.0, says_fix s)

  left_after_is : IsSmall plan → (a : Announcement) (s : Stage) → left_of_collector (behind_by kit plan a s) ≤ left_after a s
  left_after_is small Mark s = let said = says_next (4 + 5 * cycles_after s) (3 + 5 * cycles_after s) (steps_each s) (rest_after Mark s) (rest_after Confirm s) (omega arith) (omega arith) in omega (arith, said)
  left_after_is small Confirm s = left_to_copy small s (is_clover s.kind)
  left_after_is small Search s = left_to_seek s
  left_after_is small Copy s = left_to_fix small s (is_clover s.kind)
  left_after_is small Fix s = omega arith
  left_after_is small Free s = left_after_free s (nat_lt s.cycle s.cycles) refl

  -- ---- a mover that begins

  module _ (memory : ℕ → ℕ) where
    free_alone : (s : Stage) (more : Bool) → MovesAlone kit by alone memory (if more then collector.Announce (record s { cycle = s.cycle + 1; announcement = Mark }) else collector.Done s)
    free_alone s true = tt
    free_alone s false = tt

    copy_alone : IsSmall plan → (s : Stage) (marked : Bool) → MovesAlone kit by alone memory (if marked then collector.Draw (searched s 1) else work_at kit plan (record s { announcement = Copy }))
    copy_alone small s true = tt
    copy_alone small s false = (work_most small memory (record s { announcement = Copy })).1

    fix_alone : IsSmall plan → (s : Stage) (marked : Bool) → MovesAlone kit by alone memory (if marked then work_at kit plan (record s { announcement = Fix }) else moves_at kit plan (record s { announcement = Fix }))
    fix_alone small s true = (work_most small memory (record s { announcement = Fix })).1
    fix_alone small s false = (moves_most small memory (record s { announcement = Fix })).1

    behind_alone : IsSmall plan → (a : Announcement) (s : Stage) → MovesAlone kit by alone memory (behind_by kit plan a s)
    behind_alone small Mark s = tt
    behind_alone small Confirm s = copy_alone small s (is_clover s.kind)
    behind_alone small Search s = tt
    behind_alone small Copy s = fix_alone small s (is_clover s.kind)
    behind_alone small Fix s = tt
    behind_alone small Free s = free_alone s (nat_lt s.cycle s.cycles)

  -- ---- a look

  -- the next pass is looked at, or all have answered
  awaited_most : IsSmall plan → (memory : ℕ → ℕ) (s : Stage) (pass : ℕ) (more : Bool) → AtMost (awaited_left s (pass + 1)) memory (if more then look s (pass + 1) else behind_by kit plan s.announcement s)
  awaited_most small memory s pass true = (omega arith, tt)
  awaited_most small memory s pass false = (omega (arith, left_after_is small s.announcement s), behind_alone memory small s.announcement s)

  awaited_falls : IsSmall plan → (memory : ℕ → ℕ) (s : Stage) (pass : ℕ) → pass < steps_each s → FallsTo (awaited_left s pass) memory (awaited kit plan s pass)
  awaited_falls small memory s pass within =
      let most = awaited_most small memory s pass (nat_lt pass s.layout.passes) in
      (omega (arith, most.0, within, roots_fewer s.announcement s.layout pass), most.1)

  -- the root words for the registers from this one on are fixed
  root_most : (memory : ℕ → ℕ) (s : Stage) (pass reg : ℕ) → reg < REGISTERS → AtMost (root_steps * (REGISTERS - reg) + awaited_left s (pass + 1)) memory (root_fix s pass reg)
  root_most memory s pass reg inside = (omega (arith, inside), tt)

  -- in the await of Fix
  roots_fall : (memory : ℕ → ℕ) (s : Stage) (pass : ℕ) → s.announcement ≡ Fix → pass < steps_each s → FallsTo (awaited_left s pass) memory (root_fix s pass 0)
  roots_fall memory s pass is within =
      let most = root_most memory s pass 0 (lit< tt) in
      let here = ap (λ (a : Announcement). roots_from a s.layout pass) is in
      let later = ap (λ (a : Announcement). roots_from a s.layout (pass + 1)) is in
      (omega (arith, most.0, within, here, later), most.1)

  retired_falls : IsSmall plan → (memory : ℕ → ℕ) (s : Stage) (pass : ℕ) (a : Announcement) → s.announcement ≡ a → pass < steps_each s → FallsTo (awaited_left s pass) memory (retired_by kit plan a s pass)
  retired_falls small memory s pass Mark is within = awaited_falls small memory s pass within
  retired_falls small memory s pass Confirm is within = awaited_falls small memory s pass within
  retired_falls small memory s pass Search is within = awaited_falls small memory s pass within
  retired_falls small memory s pass Copy is within = awaited_falls small memory s pass within
  retired_falls small memory s pass Fix is within = roots_fall memory s pass is within
  retired_falls small memory s pass Free is within = awaited_falls small memory s pass within

  -- what has ended is awaited no longer
  awaits_on : IsSmall plan → (memory : ℕ → ℕ) (s : Stage) (pass : ℕ) (m : AwaitMachine) (found : ℕ) (same ended : Bool) → ended ≡ true → pass < steps_each s
      → FallsTo (awaited_left s pass) memory (looked kit plan s pass m (Some (if same then Answered else (if ended then Retired else NotYet pass found))))
  awaits_on small memory s pass m found true ended is within = awaited_falls small memory s pass within
  awaits_on small memory s pass m found false true is within = retired_falls small memory s pass s.announcement refl within
  awaits_on small memory s pass m found false false is within = absurd cc

  -- a step of the fixing of a root word
  rooted_on : IsSmall plan → (memory : ℕ → ℕ) (s : Stage) (pass reg before : ℕ) (more : Bool) → nat_lt reg (REGISTERS - 1) ≡ more → 0 < before
      → FallsTo (before + root_steps * (REGISTERS - (reg + 1)) + awaited_left s (pass + 1)) memory (if more then root_fix s pass (reg + 1) else awaited kit plan s pass)
  rooted_on small memory s pass reg before true is some =
      let inside : reg < REGISTERS - 1 = grind (arith, nat_tests) in
      let most = root_most memory s pass (reg + 1) (omega (arith, inside)) in
      (omega (arith, most.0, some), most.1)
  rooted_on small memory s pass reg before false is some =
      let most = awaited_most small memory s pass (nat_lt pass s.layout.passes) in
      (omega (arith, most.0, some), most.1)

  rooted_falls : IsSmall plan → (memory : ℕ → ℕ) (s : Stage) (pass reg : ℕ) (m : RootFixMachine) (before : ℕ) (end : Option (Unit {0})) → roots.left_of m < before
      → FallsTo (before + root_steps * (REGISTERS - (reg + 1)) + awaited_left s (pass + 1)) memory (rooted kit plan s pass reg m end)
  rooted_falls small memory s pass reg m before None less = (omega (arith, less), tt)
  rooted_falls small memory s pass reg m before (Some end) less = rooted_on small memory s pass reg before (nat_lt reg (REGISTERS - 1)) refl (omega (arith, less))

  -- ---- the walk that fixes all fields

  free_left : (s : Stage) → announced_left (record s { announcement = Free }) ≤ onward_left Fix s
  free_left s =
      let said = says_next (1 + 5 * cycles_after s) (0 + 5 * cycles_after s) (steps_each s) (rest_after Fix s) (rest_after Free s) (omega arith) (omega arith) in
      omega (arith, said)

  walked_falls : (memory : ℕ → ℕ) (s : Stage) (m : FixWalkMachine) (before : ℕ) (end : Option (Unit {0})) → walking.walk_left m < before → FallsTo (before + onward_left Fix s) memory (walked s m end)
  walked_falls memory s m before None less = (omega (arith, less), tt)
  walked_falls memory s m before (Some end) less = (omega (arith, less, free_left s), tt)

  -- ---- a move

  moved_falls : IsSmall plan → (memory : ℕ → ℕ) (s : Stage) (job : MoveJob) (next : ℕ) (m : M) (before : ℕ) (end : Option MoveEnd) → (alone.move_left m < before) × alone.MoveAlone memory m
      → FallsTo (before + length (drop next plan.jobs) * most_move_steps + announced_left s) memory (moved_by kit plan s job next m end)
  moved_falls small memory s job next m before None on = (omega (arith, on.0), on.1)
  moved_falls small memory s job next m before (Some end) on = let most = move_most small memory s (slice_get plan.jobs next) next refl in (omega (arith, on.0, most.0), most.1)

  -- ---- a search

  -- a field held the candidate: the next one is drawn, and after the last Fix is said
  found_falls : (memory : ℕ → ℕ) (s : Stage) (before : ℕ) (more : Bool) → nat_lt s.marks.round SEARCHES ≡ more → 0 < before
      → FallsTo (before + onward_left Search s) memory (if more then collector.Draw (searched s (s.marks.round + 1)) else announce s Fix)
  found_falls memory s before true is some =
      let again : s.marks.round < SEARCHES = grind (arith, nat_tests) in
      let next = searches_next (SEARCHES - s.marks.round) (SEARCHES - (s.marks.round + 1)) (cycles_after s) (search_steps s.layout) (omega (arith, again)) in
      (omega (arith, some, next), tt)
  found_falls memory s before false is some =
      let fewer = fewer_searches 0 (SEARCHES - s.marks.round) (cycles_after s) (search_steps s.layout) (omega arith) in
      let fixing = fixing_next (cycles_after s) (fix_steps s.layout) in
      let said = says_next (3 + 5 * cycles_after s) (2 + 5 * cycles_after s) (steps_each s) (rest_after Search s) (fix_steps s.layout + rest_after Fix s) (omega arith) (omega (arith, fewer, fixing)) in
      let less : said_after Fix s ≤ said_after Copy s = mul-le-mul_right (steps_each s) (omega arith) in
      (omega (arith, some, said, less), tt)

  clear_left : (s : Stage) → announced_left (record s { announcement = Copy; marks = record s.marks { clear = true } }) ≤ onward_left Search s
  clear_left s =
      let fewer = fewer_searches 0 (SEARCHES - s.marks.round) (cycles_after s) (search_steps s.layout) (omega arith) in
      let said = says_next (3 + 5 * cycles_after s) (2 + 5 * cycles_after s) (steps_each s) (rest_after Search s) (rest_after Copy s) (omega arith) (omega (arith, fewer)) in
      omega (arith, said)

  sought_falls : (memory : ℕ → ℕ) (s : Stage) (m : SeekMarkMachine) (before : ℕ) (end : Option SeekEnd) → seek_left m < before → FallsTo (before + onward_left Search s) memory (sought s m end)
  sought_falls memory s m before None less = (omega (arith, less), tt)
  sought_falls memory s m before (Some Clear) less = (omega (arith, less, clear_left s), tt)
  sought_falls memory s m before (Some (MarkFound place)) less = found_falls memory s before (nat_lt s.marks.round SEARCHES) refl (omega (arith, less))

  -- ---- its step

  module _ (small : IsSmall plan) (l : Sizes) (fits : IsLayout l) (cycles : ℕ) (words : List ℕ) (ended : (pass : ℕ) → IsPass l pass → reading words (ack_at pass) ≡ retired_word) where
    -- what its step goes on to, and memory then
    abbrev pub next : CollectorMachine M → CollectorMachine M
    next k = fed_of kit by.move_fed plan k (found_by (asks_of by.move_asks k) words)

    abbrev pub memory_after : CollectorMachine M → ℕ → ℕ
    memory_after k = reading (applied (asks_of by.move_asks k) words)

    -- there are fewer steps left
    abbrev pub Falls : CollectorMachine M → Type 0
    Falls k = FallsTo (left_of_collector k) (memory_after k) (next k)

    look_falls : (s : Stage) (pass : ℕ) → s.layout ≡ l → IsPass l pass → Falls (look s pass)
    look_falls s pass layout there =
        let passes : s.layout.passes ≡ l.passes = ap (λ (x : Sizes). x.passes) layout in
        let found : ℕ = reading words (ack_at pass) in
        awaits_on small (memory_after (look s pass)) s pass (await.Acknowledgement (ack_at pass) pass (word_of s)) found (found == word_of s) (found == retired_word) (eq-eqb found retired_word (ended pass there)) (omega (arith, there.1, passes))

    -- a step of a collector that has not played its cycles
    pub collector_falls : (k : CollectorMachine M) → IsCollector l kit.kind cycles plan k → asks_of by.move_asks k ≢ Ended → CollectorFinds kit by words k → MovesAlone kit by alone (reading words) k → Falls k
    collector_falls (collector.Announce s) is on finds stands = (omega arith, tt)
    collector_falls (collector.Await s pass m) is on finds stands =
        let await : IsAwait l kit.kind cycles s pass m = is in
        subst (λ (m : AwaitMachine). Falls (collector.Await s pass m)) (sym await.look) (look_falls s pass await.stage.layout await.in_layout)
    collector_falls (collector.Draw s) is on finds stands = (omega arith, tt)
    collector_falls (collector.Seek s m) is on finds stands =
        let seeks : IsSeek l kit.kind cycles s m = is in
        let found : ℕ = found_by (seeking.asks_of m) words in
        sought_falls (memory_after (collector.Seek s m)) s (seeking.fed_of m found) (seek_left m) (seeking.end_of (seeking.fed_of m found)) (seek_falls l (mark_word s) m found seeks.seeks)
    collector_falls (collector.Source s region next) is on finds stands =
        let most = source_most small (memory_after (collector.Source s region next)) s (slice_get plan.chosen next) next refl in (omega (arith, most.0), most.1)
    collector_falls (collector.Target s region next) is on finds stands =
        let most = target_most small (memory_after (collector.Target s region next)) s (slice_get plan.jobs next) next refl in (omega (arith, most.0), most.1)
    collector_falls (collector.Tag s job next) is on finds stands =
        let most = tag_most small (memory_after (collector.Tag s job next)) s (slice_get plan.jobs next) next refl in (omega (arith, most.0), most.1)
    collector_falls (collector.Move s job next m) is on finds stands =
        let fed : M = by.move_fed m (found_by (by.move_asks m) words) in
        moved_falls small (memory_after (collector.Move s job next m)) s job next fed (alone.move_left m) (kit.move_ended fed) (alone.moves_on words m on finds stands)
    collector_falls (collector.Roots s pass reg m) is on finds stands =
        let found : ℕ = found_by (roots.asks_of m) words in
        rooted_falls small (memory_after (collector.Roots s pass reg m)) s pass reg (roots.fed_of m found) (roots.left_of m) (roots.end_of (roots.fed_of m found)) (roots.falls_of m found on)
    collector_falls (collector.Walk s m) is on finds stands =
        let walks_on : IsWalk l kit.kind cycles s m = is in
        let found : ℕ = found_by (walks.asks_of m) words in
        let step = walking.walk_steps (walks.area_of l) m found walks_on.walks walks_on.on in
        walked_falls (memory_after (collector.Walk s m)) s (walks.fed_of m found) (walking.walk_left m) (walks.end_of (walks.fed_of m found)) step.falls
    collector_falls (collector.Done s) is on finds stands = absurd (on refl)

  -- ---- the start

  -- five announcements, the job, eight searches and the fixing of each cycle
  pub left_at_start : (l : Sizes) (cycles salt : ℕ) → left_of_collector (collector_of kit plan l cycles salt) ≤ 5 * cycles * (1 + l.passes) + (job_steps * cycles + SEARCHES * cycles * search_steps l + cycles * fix_steps l)
  left_at_start l cycles salt =
      let s : Stage = stage_at_start kit.kind l cycles salt in
      let all : after_in Free + 5 * cycles_after s ≡ 5 * cycles = omega arith in
      let searches : 0 + SEARCHES * cycles_after s ≡ SEARCHES * cycles = omega arith in
      let fixings : 0 + cycles_after s ≡ cycles = omega arith in
      omega (arith, left_after_free s (nat_lt 0 cycles) refl, ap (λ n. n * (1 + l.passes)) all, ap (λ n. n * search_steps l) searches, ap (λ n. n * fix_steps l) fixings)

  -- no move has begun
  pub alone_at_start : (memory : ℕ → ℕ) (l : Sizes) (cycles salt : ℕ) → MovesAlone kit by alone memory (collector_of kit plan l cycles salt)
  alone_at_start memory l cycles salt = free_alone memory (stage_at_start kit.kind l cycles salt) (nat_lt 0 cycles)
