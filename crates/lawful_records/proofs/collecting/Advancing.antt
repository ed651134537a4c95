-- Where a step of the collector leads: nowhere, past the next pass, or to another announcement.
use Rattle.std.specs.Prelude.{nat_lt, ◌&&◌, not, min, if◌then◌else◌}
use Rattle.std.proofs.Common.{◌≡◌, ℕ, ◌+◌, ◌-◌, ◌^◌, ◌<◌, ◌≤◌, ◌==◌, Bool, true, false, Option, Some, None, refl, sym, ap, ◌∙◌, subst, arith, inl, inr}
use Rattle.std.proofs.lemmas.Bool.Decides.{nat_tests}
use Rattle.heap_words.specs.Layouts.{Sizes, IsPass}
use Rattle.object_headers.specs.declared.change.Kind.{Kind}
use Rattle.object_headers.specs.Changes.{is_clover}
use Rattle.handshakes.specs.declared.answer.AwaitEnd.{AwaitEnd}
use Rattle.handshakes.specs.declared.answer.AwaitEnd.TheVariants.{Answered, Retired, NotYet}
use Rattle.handshakes.specs.declared.answer.AwaitMachine.{AwaitMachine}
use Rattle.handshakes.specs.Handshakes.{Announced, HasAnswered, passing, Advances, Stays, Passes}
use Rattle.mark_search.specs.declared.seek.SeekEnd.{SeekEnd}
use Rattle.mark_search.specs.declared.seek.SeekEnd.TheVariants.{Clear, MarkFound}
use Rattle.mark_search.specs.declared.seek.SeekMarkMachine.{SeekMarkMachine}
use Rattle.mark_search.specs.declared.candidates.Candidates.{Candidates}
use Rattle.mark_search.specs.Draws.{last_of, drawn_on}
use Rattle.space_reclaim.specs.Plans.{Planned}
use Rattle.barriers.specs.Kits.{Kit}
use Rattle.lawful_records.specs.declared.stage.Announcement.{Announcement}
use Rattle.lawful_records.specs.declared.stage.Announcement.TheVariants.{Mark, Confirm, Search, Copy, Fix, Free}
use Rattle.lawful_records.specs.declared.stage.Marks.{Marks}
use Rattle.lawful_records.specs.declared.stage.Stage.{Stage}
use Rattle.lawful_records.specs.declared.collector.CollectorMachine.{CollectorMachine}
use Rattle.lawful_records.specs.declared.collector.CollectorMachine.TheVariants as collector
use Rattle.lawful_records.specs.declared.stage.TheConstants.{SEARCHES}
use Rattle.lawful_records.specs.Collectors.{mark_word, undrawn, unsearched, searched, is_refused, stage_before, stage_of, passed_of, drawn_of, fed_of, look, looked, retired_by, sought, work_at, moves_at, behind_by}
use Rattle.lawful_records.specs.Cycling.{announced_at, announced_by, clear_by, clear_until, clear_awaiting}
use Rattle.lawful_records.specs.Handshakes.{HasDrawn, IsMarked, IsStage, IsSearch}
use Rattle.lawful_records.proofs.collecting.Playing.{look_tells, has_drawn, seeks_marks}
use Rattle.lawful_records.proofs.collecting.Works.{IsBefore, stage_is, passed_is, drawn_is, clear_is, works_before, moves_before}

-- ---- the stage that is announced

pub as_announced : (s : Stage) (a : Announcement) → s.announcement ≡ a → record s { announcement = a } ≡ s
as_announced s a is = sym (ap (λ (a : Announcement). record s { announcement = a }) is)

-- the same is announced as at this stage
abbrev pub Says : Stage → Stage → Type 0
Says b s = (n : ℕ) → announced_at b n ≡ announced_at s n

says_as : (b s : Stage) → b ≡ s → Says b s
says_as b s same n = ap (λ (x : Stage). announced_at x n) same

-- ---- draws

same_count : (n : ℕ) → n < 2 ^ 32 - 1 → min (n + 1) (2 ^ 32 - 1) - 1 ≡ n
same_count n few = omega (arith, few)

-- the count before the last draw is what it was
pub undrawn_same : (c : Candidates) → c.drawn < 2 ^ 32 - 1 → undrawn (drawn_on c) ≡ c
undrawn_same c few = ap (λ (n : ℕ). record c { drawn = n }) (same_count c.drawn few)

-- ---- what comes after a stage

module _ {R W E M : Type 0} (kit : Kit R W E M) (plan : Planned) (l : Sizes) (kind : Kind) (cycles : ℕ) (s : Stage) (is : IsStage l kind cycles s) where
  abbrev Same : CollectorMachine M → Type 0
  Same k = Says (stage_of k) s × (passed_of k ≡ s.layout.passes)

  clover_is : is_clover s.kind ≡ is_clover kind
  clover_is = ap is_clover is.kind_is

  free_stage : s.announcement ≡ Free → stage_of {M = M} (collector.Announce (record s { cycle = s.cycle + 1; announcement = Mark })) ≡ s
  free_stage e = let cycle : s.cycle + 1 - 1 ≡ s.cycle = omega arith in rw cycle (as_announced s Free e)

  free_by : (more : Bool) → s.announcement ≡ Free → Same (if more then collector.Announce (record s { cycle = s.cycle + 1; announcement = Mark }) else collector.Done s)
  free_by true e = (says_as (stage_of {M = M} (collector.Announce (record s { cycle = s.cycle + 1; announcement = Mark }))) s (free_stage e), refl)
  free_by false e = (λ n. refl, refl)

  -- before the first search comes Confirm
  first_search : s.announcement ≡ Confirm → Says (unsearched (searched s 1)) s
  first_search e n = let same : announced_at (unsearched (searched s 1)) n ≡ announced_at (record s { announcement = Confirm }) n = refl in same ∙ says_as (record s { announcement = Confirm }) s (as_announced s Confirm e) n

  copy_stage : is_clover s.kind ≡ false → s.announcement ≡ Confirm → stage_before (record s { announcement = Copy }) ≡ s
  copy_stage c e = rw c (as_announced s Confirm e)

  -- before a stage is announced whose work announces nothing
  same_work : (x : Stage) (k : CollectorMachine M) → stage_before x ≡ s → x.layout ≡ s.layout → IsBefore x k → Same k
  same_work x k e layout before = (says_as (stage_of k) s (stage_is x k before ∙ e), passed_is x k before ∙ ap (λ (t : Sizes). t.passes) layout)

  to_copy_by : (b : Bool) → is_clover s.kind ≡ b → s.announcement ≡ Confirm → Same (if b then collector.Draw (searched s 1) else work_at kit plan (record s { announcement = Copy }))
  to_copy_by true c e = (first_search e, refl)
  to_copy_by false c e = same_work (record s { announcement = Copy }) (work_at kit plan (record s { announcement = Copy })) (copy_stage c e) refl (works_before kit plan (record s { announcement = Copy }))

  -- a cycle that comes to Copy is not refused
  unrefused : s.announcement ≡ Copy → is_refused s ≡ false
  unrefused e = by (is_clover kind) clover_is (subst (λ (a : Announcement). IsMarked (is_clover kind) a s.cycle s.marks) e is.marked)
    where
      by : (b : Bool) → is_clover s.kind ≡ b → IsMarked b Copy s.cycle s.marks → (is_clover s.kind && not s.marks.clear) ≡ false
      by true c marked = rw (c, marked.1) refl
      by false c marked = rw c refl

  before_fix : s.announcement ≡ Copy → stage_before (record s { announcement = Fix }) ≡ s
  before_fix e = rw (unrefused e) (as_announced s Copy e)

  to_fix_by : (b : Bool) → s.announcement ≡ Copy → Same (if b then work_at kit plan (record s { announcement = Fix }) else moves_at kit plan (record s { announcement = Fix }))
  to_fix_by true e = same_work (record s { announcement = Fix }) (work_at kit plan (record s { announcement = Fix })) (before_fix e) refl (works_before kit plan (record s { announcement = Fix }))
  to_fix_by false e = same_work (record s { announcement = Fix }) (moves_at kit plan (record s { announcement = Fix })) (before_fix e) refl (moves_before kit plan (record s { announcement = Fix }))

  same_behind : (a : Announcement) → s.announcement ≡ a → Same (behind_by kit plan a s)
  same_behind Mark e = (says_as (record s { announcement = Mark }) s (as_announced s Mark e), refl)
  same_behind Confirm e = to_copy_by (is_clover s.kind) refl e
  same_behind Search e = (λ n. refl, refl)
  same_behind Copy e = to_fix_by (is_clover s.kind) e
  same_behind Fix e = (λ n. refl, refl)
  same_behind Free e = free_by (nat_lt s.cycle s.cycles) e

  -- ---- a look

  pub awaited_says : (pass : ℕ) (more : Bool) → Says (stage_of (if more then look {M = M} s (pass + 1) else behind_by kit plan s.announcement s)) s
  awaited_says pass true = λ n. refl
  awaited_says pass false = (same_behind s.announcement refl).0

  retired_says : (pass : ℕ) (a : Announcement) → Says (stage_of (retired_by kit plan a s pass)) s
  retired_says pass Fix = λ n. refl
  retired_says pass Mark = awaited_says pass (nat_lt pass s.layout.passes)
  retired_says pass Confirm = awaited_says pass (nat_lt pass s.layout.passes)
  retired_says pass Search = awaited_says pass (nat_lt pass s.layout.passes)
  retired_says pass Copy = awaited_says pass (nat_lt pass s.layout.passes)
  retired_says pass Free = awaited_says pass (nat_lt pass s.layout.passes)

  -- it leaves what is announced, whatever it finds
  pub looked_says : (pass : ℕ) (m : AwaitMachine) (end : Option AwaitEnd) → Says (stage_of (looked kit plan s pass m end)) s
  looked_says pass m (Some Answered) = awaited_says pass (nat_lt pass s.layout.passes)
  looked_says pass m (Some Retired) = retired_says pass s.announcement
  looked_says pass m (Some (NotYet at found)) = λ n. refl
  looked_says pass m None = λ n. refl

  passes : s.layout.passes ≡ l.passes
  passes = ap (λ (t : Sizes). t.passes) is.layout

  passed_awaited : (pass : ℕ) (more : Bool) → IsPass l pass → nat_lt pass s.layout.passes ≡ more → passed_of (if more then look {M = M} s (pass + 1) else behind_by kit plan s.announcement s) ≡ pass - 1 + 1
  passed_awaited pass true there e = omega (arith, there.0)
  passed_awaited pass false there e =
      let most : s.layout.passes ≤ pass = grind (arith, nat_tests) in
      let all : s.layout.passes ≡ l.passes = passes in
      (same_behind s.announcement refl).1 ∙ omega (arith, there.0, there.1, most, all)

  -- the await goes on to the next pass, or the next announcement comes
  pub advances_awaited : (pass : ℕ) (acked : ℕ → ℕ) (more : Bool) → IsPass l pass → nat_lt pass s.layout.passes ≡ more → HasAnswered (announced_by {M = M} (look s pass)) (acked pass)
      → Advances l acked (announced_by {M = M} (look s pass)) (announced_by (if more then look s (pass + 1) else behind_by kit plan s.announcement s))
  advances_awaited pass acked more there e answered =
      let a : Announced = announced_by {M = M} (look s pass) in
      let same : pass - 1 + 1 ≡ pass = omega (arith, there.0) in
      let step : Advances l acked a (passing a) = Passes (subst (λ (n : ℕ). HasAnswered a (acked n)) (sym same) answered) in
      let next : CollectorMachine M = if more then look s (pass + 1) else behind_by kit plan s.announcement s in
      let leads : announced_by next ≡ passing a = awaited_says pass more (passed_of next) ∙ ap (announced_at s) (passed_awaited pass more there e) in
      subst (Advances l acked a) (sym leads) step

  -- a look finds the acknowledgement of its pass
  pub advances_look : (fed : M → ℕ → M) (pass : ℕ) (acked : ℕ → ℕ) → IsPass l pass → Advances l acked (announced_by {M = M} (look s pass)) (announced_by (fed_of kit fed plan (look s pass) (acked pass)))
  advances_look fed pass acked there =
      let Leads : CollectorMachine M → Type 0 = λ k. Advances l acked (announced_by {M = M} (look s pass)) (announced_by k) in
      elim (look_tells kit plan fed s pass (acked pass)) [
        | inl on ↦ subst Leads (sym on.1) (advances_awaited pass acked (nat_lt pass s.layout.passes) there refl on.0)
        | inr rest ↦ elim rest [ inl again ↦ subst Leads (sym again) Stays | inr roots ↦ subst Leads (sym roots.2) Stays ]
      ]

-- ---- what a look leaves: the mark word, and whether a search has ended clear

module _ {R W E M : Type 0} (kit : Kit R W E M) (plan : Planned) (l : Sizes) (kind : Kind) (cycles : ℕ) (few : cycles ≤ 64) (s : Stage) (is : IsStage l kind cycles s) where
  abbrev Leaves : Announcement → CollectorMachine M → Type 0
  Leaves a k = (drawn_of k ≡ mark_word s) × (clear_by k ≡ clear_awaiting a s.marks.clear)

  marked_as : (a : Announcement) → s.announcement ≡ a → IsMarked (is_clover kind) a s.cycle s.marks
  marked_as a e = subst (λ (x : Announcement). IsMarked (is_clover kind) x s.cycle s.marks) e is.marked

  free_leaves : (more : Bool) → Leaves Free (if more then collector.Announce (record s { cycle = s.cycle + 1; announcement = Mark }) else collector.Done s)
  free_leaves true = (refl, refl)
  free_leaves false = (refl, refl)

  before_less : (clover : Bool) → IsMarked clover Confirm s.cycle s.marks → (let c = s.marks.candidates in c.drawn) < 2 ^ 32 - 1
  before_less true marked = omega (arith, marked, few, is.last)
  before_less false marked = omega (arith, marked.1)

  unclear : (clover : Bool) → IsMarked clover Confirm s.cycle s.marks → clover ≡ false → s.marks.clear ≡ false
  unclear true marked e = absurd (cc e)
  unclear false marked e = marked.2

  -- the work before a stage is announced
  work_leaves : (a : Announcement) (x : Stage) (k : CollectorMachine M) → mark_word x ≡ mark_word s → clear_until x ≡ clear_awaiting a s.marks.clear → IsBefore x k → Leaves a k
  work_leaves a x k mark clear before = (drawn_is x k before ∙ mark, clear_is x k before ∙ clear)

  copy_leaves : (b : Bool) → is_clover s.kind ≡ b → s.announcement ≡ Confirm → Leaves Confirm (if b then collector.Draw (searched s 1) else work_at kit plan (record s { announcement = Copy }))
  copy_leaves true c e = (ap last_of (undrawn_same s.marks.candidates (before_less (is_clover kind) (marked_as Confirm e))), refl)
  copy_leaves false c e =
      work_leaves Confirm (record s { announcement = Copy }) (work_at kit plan (record s { announcement = Copy })) refl (unclear (is_clover kind) (marked_as Confirm e) (sym (ap is_clover is.kind_is) ∙ c)) (works_before kit plan (record s { announcement = Copy }))

  fix_leaves : (b : Bool) → Leaves Copy (if b then work_at kit plan (record s { announcement = Fix }) else moves_at kit plan (record s { announcement = Fix }))
  fix_leaves true = work_leaves Copy (record s { announcement = Fix }) (work_at kit plan (record s { announcement = Fix })) refl refl (works_before kit plan (record s { announcement = Fix }))
  fix_leaves false = work_leaves Copy (record s { announcement = Fix }) (moves_at kit plan (record s { announcement = Fix })) refl refl (moves_before kit plan (record s { announcement = Fix }))

  behind_leaves : (a : Announcement) → s.announcement ≡ a → Leaves a (behind_by kit plan a s)
  behind_leaves Mark e = (refl, refl)
  behind_leaves Confirm e = copy_leaves (is_clover s.kind) refl e
  behind_leaves Search e = (refl, refl)
  behind_leaves Copy e = fix_leaves (is_clover s.kind)
  behind_leaves Fix e = (refl, refl)
  behind_leaves Free e = free_leaves (nat_lt s.cycle s.cycles)

  pub awaited_leaves : (pass : ℕ) (more : Bool) → Leaves s.announcement (if more then look {M = M} s (pass + 1) else behind_by kit plan s.announcement s)
  awaited_leaves pass true = (refl, refl)
  awaited_leaves pass false = behind_leaves s.announcement refl

  retired_leaves : (pass : ℕ) (a : Announcement) → Leaves s.announcement (retired_by kit plan a s pass)
  retired_leaves pass Fix = (refl, refl)
  retired_leaves pass Mark = awaited_leaves pass (nat_lt pass s.layout.passes)
  retired_leaves pass Confirm = awaited_leaves pass (nat_lt pass s.layout.passes)
  retired_leaves pass Search = awaited_leaves pass (nat_lt pass s.layout.passes)
  retired_leaves pass Copy = awaited_leaves pass (nat_lt pass s.layout.passes)
  retired_leaves pass Free = awaited_leaves pass (nat_lt pass s.layout.passes)

  pub looked_leaves : (pass : ℕ) (m : AwaitMachine) (end : Option AwaitEnd) → Leaves s.announcement (looked kit plan s pass m end)
  looked_leaves pass m (Some Answered) = awaited_leaves pass (nat_lt pass s.layout.passes)
  looked_leaves pass m (Some Retired) = retired_leaves pass s.announcement
  looked_leaves pass m (Some (NotYet at found)) = (refl, refl)
  looked_leaves pass m None = (refl, refl)

-- ---- after a step of a search

module _ {R W E M : Type 0} (kit : Kit R W E M) (l : Sizes) (kind : Kind) (cycles : ℕ) (few : cycles ≤ 64) (s : Stage) (is : IsSearch l kind cycles s) where
  drawn : HasDrawn s.cycle s.marks × (s.marks.clear ≡ false)
  drawn = has_drawn kit (λ m n. m) l kind cycles s is

  clover : is_clover s.kind ≡ true
  clover = ap is_clover is.stage.kind_is ∙ seeks_marks kit (λ m n. m) l kind cycles s is (is_clover kind) (subst (λ (a : Announcement). IsMarked (is_clover kind) a s.cycle s.marks) is.search is.stage.marked) refl

  -- a search with these marks in place of its own
  remarked : (m : Marks) → (let c = m.candidates in c) ≡ s.marks.candidates → m.round ≡ s.marks.round → Says (record s { announcement = Search; marks = m }) s
  remarked m same round n = rw (same, round) (says_as (record s { announcement = Search }) s (as_announced s Search is.search) n)

  drawn_less : (let c = s.marks.candidates in c.drawn) < 2 ^ 32 - 1
  drawn_less = let has = drawn.0 in omega (arith, has.few, has.last, few, is.stage.last)

  next_search : Says (unsearched (searched s (s.marks.round + 1))) s
  next_search n =
      let has = drawn.0 in
      let not_first : (s.marks.round + 1 == 1) ≡ false = grind (arith, nat_tests, has.first) in
      let round : s.marks.round + 1 - 1 ≡ s.marks.round = omega arith in
      rw not_first (remarked (record { candidates = undrawn (drawn_on s.marks.candidates); round = s.marks.round + 1 - 1; clear = false }) (undrawn_same s.marks.candidates drawn_less) round n)

  refused : is_refused s ≡ true
  refused = rw (clover, drawn.1) refl

  refused_stage : stage_before (record s { announcement = Fix }) ≡ s
  refused_stage = rw refused (as_announced s Search is.search)

  pub found_says : (more : Bool) → Says (stage_of {M = M} (if more then collector.Draw (searched s (s.marks.round + 1)) else collector.Announce (record s { announcement = Fix }))) s
  found_says true n = next_search n
  found_says false n = says_as (stage_before (record s { announcement = Fix })) s refused_stage n

  sought_says : (m : SeekMarkMachine) (end : Option SeekEnd) → Says (stage_of {M = M} (sought s m end)) s
  sought_says m None n = refl
  sought_says m (Some Clear) n = rw clover (remarked (record s.marks { clear = true }) refl refl n)
  sought_says m (Some (MarkFound place)) n = found_says (nat_lt s.marks.round SEARCHES) n

  found_passed : (more : Bool) → passed_of {M = M} (if more then collector.Draw (searched s (s.marks.round + 1)) else collector.Announce (record s { announcement = Fix })) ≡ s.layout.passes
  found_passed true = refl
  found_passed false = refl

  sought_passed : (m : SeekMarkMachine) (end : Option SeekEnd) → passed_of {M = M} (sought s m end) ≡ s.layout.passes
  sought_passed m None = refl
  sought_passed m (Some Clear) = refl
  sought_passed m (Some (MarkFound place)) = found_passed (nat_lt s.marks.round SEARCHES)

  -- it announces nothing
  pub sought_announced : (m n : SeekMarkMachine) (end : Option SeekEnd) → announced_by {M = M} (sought s n end) ≡ announced_by {M = M} (collector.Seek s m)
  sought_announced m n end = sought_says n end (passed_of {M = M} (sought s n end)) ∙ ap (announced_at s) (sought_passed n end)

  -- ---- what it leaves of marks

  pub found_drawn : (more : Bool) → drawn_of {M = M} (if more then collector.Draw (searched s (s.marks.round + 1)) else collector.Announce (record s { announcement = Fix })) ≡ mark_word s
  found_drawn true = ap last_of (undrawn_same s.marks.candidates drawn_less)
  found_drawn false = refl

  -- no step of it draws
  pub sought_drawn : (m : SeekMarkMachine) (end : Option SeekEnd) → drawn_of {M = M} (sought s m end) ≡ mark_word s
  sought_drawn m None = refl
  sought_drawn m (Some Clear) = refl
  sought_drawn m (Some (MarkFound place)) = found_drawn (nat_lt s.marks.round SEARCHES)

  pub search_drawn : HasDrawn s.cycle s.marks × (s.marks.clear ≡ false)
  search_drawn = drawn

  pub search_clover : is_clover kind ≡ true
  search_clover = sym (ap is_clover is.stage.kind_is) ∙ clover
