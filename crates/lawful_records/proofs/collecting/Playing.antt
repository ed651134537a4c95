-- A collector plays its cycles: it stays a collector of these cycles after each step, whatever word that finds.
use Rattle.std.specs.Prelude.{nat_lt, min, if◌then◌else◌}
use Rattle.std.specs.List.{slice_get}
use Rattle.std.proofs.Common.{◌≡◌, ◌≢◌, ℕ, ◌+◌, ◌-◌, ◌^◌, ◌<◌, ◌≤◌, ◌⊎◌, ◌==◌, Bool, true, false, length, Option, Some, None, refl, sym, ap, ◌∙◌, subst, arith, inl, inr}
use Rattle.std.proofs.lemmas.Bool.Decides.{nat_tests}
use Rattle.std.proofs.lemmas.Bool.{eqb-true}
use Rattle.std.proofs.lemmas.Option.{slice_get_within}
use Rattle.call_steps.specs.declared.step.Step.TheVariants.{Ended}
use Rattle.heap_words.specs.Layouts.{Sizes, IsLayout, IsPass, ack_at, root_at}
use Rattle.heap_words.specs.declared.limits.TheConstants.{REGISTERS}
use Rattle.object_headers.specs.declared.change.Kind.{Kind}
use Rattle.object_headers.specs.Changes.{is_clover}
use Rattle.handshakes.specs.declared.answer.AwaitEnd.TheVariants.{Answered, Retired, NotYet}
use Rattle.handshakes.specs.declared.answer.AwaitMachine.{AwaitMachine}
use Rattle.handshakes.specs.declared.answer.AwaitMachine.TheVariants as await
use Rattle.handshakes.specs.PhaseWords.{retired_word}
use Rattle.mark_search.specs.declared.seek.SeekEnd.{SeekEnd}
use Rattle.mark_search.specs.declared.seek.SeekEnd.TheVariants.{Clear, MarkFound}
use Rattle.mark_search.specs.declared.seek.SeekMarkMachine.{SeekMarkMachine}
use Rattle.mark_search.specs.Seeks as seeks
use Rattle.space_reclaim.specs.declared.move_job.MoveJob.{MoveJob}
use Rattle.space_reclaim.specs.Plans.{Planned}
use Rattle.reference_fix.specs.declared.root_fix.RootFixMachine.{RootFixMachine}
use Rattle.reference_fix.specs.declared.fix_walk.FixWalkMachine.{FixWalkMachine}
use Rattle.reference_fix.specs.RootFixes as roots
use Rattle.reference_fix.specs.RootFixes.{IsRootFixOf}
use Rattle.reference_fix.specs.FixWalks as walks
use Rattle.reference_fix.specs.FixWalks.{area_of}
use Rattle.reference_fix.specs.FixWalkRuns.{Walks}
use Rattle.reference_fix.proofs.FixWalks.{walks_begun, walk_steps, walk_on}
use Rattle.reference_fix.proofs.RootFixing.{root_on}
use Rattle.barriers.specs.declared.ends.MoveEnd.{MoveEnd}
use Rattle.barriers.specs.Kits.{Kit}
use Rattle.lawful_records.specs.declared.stage.Announcement.{Announcement}
use Rattle.lawful_records.specs.declared.stage.Announcement.TheVariants.{Mark, Confirm, Search, Copy, Fix, Free}
use Rattle.lawful_records.specs.declared.stage.Marks.{Marks}
use Rattle.lawful_records.specs.declared.stage.Stage.{Stage}
use Rattle.lawful_records.specs.declared.collector.CollectorMachine.{CollectorMachine}
use Rattle.lawful_records.specs.declared.collector.CollectorMachine.TheVariants as collector
use Rattle.lawful_records.specs.declared.stage.TheConstants.{SEARCHES}
use Rattle.lawful_records.specs.Collectors.{word_of, round_of, mark_word, is_planned, pass_within, searched, fed_of, look, looked, awaited, retired_by, root_fix, rooted, walked, sought, tag_at, move_at, target_at, source_at, work_at, moves_at, behind_by, moved_by, stage_at_start, collector_of}
use Rattle.lawful_records.specs.Handshakes.{HasDrawn, DrewBefore, IsMarked, IsStage, IsAwait, IsRooting, IsSearch, IsWork, work_before, IsIn, IsCollector}
use Rattle.lawful_records.specs.Searches.{Seeks}
use Rattle.lawful_records.proofs.CollectorLaws.{runs}
use Rattle.lawful_records.proofs.collecting.Seeking.{seeks_begun, seeks_on}

-- each pass of the layout is that with its number
root_place : (l m : Sizes) (pass reg : ℕ) → m ≡ l → IsPass l pass → root_at m (pass_within m pass) reg ≡ root_at l pass reg
root_place l m pass reg same there = let within : pass_within l pass ≡ pass = omega (arith, there.0, there.1) in ap (λ (x : Sizes). root_at x (pass_within x pass) reg) same ∙ ap (λ (p : ℕ). root_at l p reg) within

-- ---- a look

module _ {R W E M : Type 0} (kit : Kit R W E M) (plan : Planned) where
  -- It goes on where it found the announced word or that of Retired, and else is the same again; in the await of Fix the root words of a pass
  -- that has retired come first.
  abbrev pub LookTells : Stage → ℕ → ℕ → CollectorMachine M → Type 0
  LookTells s pass found k =
      (((found ≡ retired_word) ⊎ (found ≡ word_of s)) × (k ≡ awaited kit plan s pass) × (found ≡ retired_word → s.announcement ≢ Fix))
      ⊎ ((k ≡ look s pass) ⊎ ((found ≡ retired_word) × (s.announcement ≡ Fix) × (k ≡ root_fix s pass 0)))

  retired_tells : (s : Stage) (pass found : ℕ) → found ≡ retired_word → (a : Announcement) → s.announcement ≡ a → LookTells s pass found (retired_by kit plan a s pass)
  retired_tells s pass found is Fix e = inr (inr (is, e, refl))
  retired_tells s pass found is Mark e = inl (inl is, refl, λ gone fix. cc (e, fix))
  retired_tells s pass found is Confirm e = inl (inl is, refl, λ gone fix. cc (e, fix))
  retired_tells s pass found is Search e = inl (inl is, refl, λ gone fix. cc (e, fix))
  retired_tells s pass found is Copy e = inl (inl is, refl, λ gone fix. cc (e, fix))
  retired_tells s pass found is Free e = inl (inl is, refl, λ gone fix. cc (e, fix))

  look_tells_by : (s : Stage) (pass found : ℕ) (same ended : Bool) → (found == word_of s) ≡ same → (found == retired_word) ≡ ended
      → LookTells s pass found (looked kit plan s pass (await.Acknowledgement (ack_at pass) pass (word_of s)) (Some (if same then Answered else (if ended then Retired else NotYet pass found))))
  look_tells_by s pass found true ended is other = inl (inr (eqb-true found (word_of s) is), refl, λ gone. absurd (runs s.announcement s.cycle (round_of s) (sym (eqb-true found (word_of s) is) ∙ gone)))
  look_tells_by s pass found false true is other = retired_tells s pass found (eqb-true found retired_word other) s.announcement refl
  look_tells_by s pass found false false is other = inr (inl refl)

  pub look_tells : (fed : M → ℕ → M) (s : Stage) (pass found : ℕ) → LookTells s pass found (fed_of kit fed plan (look s pass) found)
  look_tells fed s pass found = look_tells_by s pass found (found == word_of s) (found == retired_word) refl refl

-- ---- what was drawn, from one announcement to the next

marked_confirm : (clover : Bool) (cycle : ℕ) (m : Marks) → IsMarked clover Mark cycle m → IsMarked clover Confirm cycle m
marked_confirm true cycle m is = is
marked_confirm false cycle m is = is

marked_fix : (clover : Bool) (cycle : ℕ) (m : Marks) → IsMarked clover Copy cycle m → IsMarked clover Fix cycle m
marked_fix true cycle m is = (is.0, λ unclear. absurd (let no : true ≡ false = sym is.1 ∙ unclear in cc))
marked_fix false cycle m is = is

pub marked_free : (clover : Bool) (cycle : ℕ) (m : Marks) → IsMarked clover Fix cycle m → IsMarked clover Free cycle m
marked_free true cycle m is = is.0
marked_free false cycle m is = is

marked_mark : (clover : Bool) (cycle : ℕ) (m : Marks) → 1 ≤ cycle → IsMarked clover Free cycle m → IsMarked clover Mark (cycle + 1) m
marked_mark true cycle m first is = omega (arith, first, is.few, is.last)
marked_mark false cycle m first is = is

-- the first candidate of a cycle is drawn
drawn_first : (cycle : ℕ) (m : Marks) → DrewBefore cycle m → HasDrawn cycle (let s = m in record { candidates = record m.candidates { drawn = min ((let c = m.candidates in c.drawn) + 1) (2 ^ 32 - 1) }; round = 1; clear = false })
drawn_first cycle m few = record { first = omega arith; last = omega arith; some = omega arith; few = omega (arith, few) }

-- and a further one
drawn_next : (cycle : ℕ) (m : Marks) → HasDrawn cycle m → m.round < SEARCHES → HasDrawn cycle (record { candidates = record m.candidates { drawn = min ((let c = m.candidates in c.drawn) + 1) (2 ^ 32 - 1) }; round = m.round + 1; clear = false })
drawn_next cycle m is more = record { first = omega arith; last = omega (arith, more); some = omega (arith, is.some, is.last); few = omega (arith, is.few) }

-- ---- stages

module _ {R W E M : Type 0} (kit : Kit R W E M) (fed : M → ℕ → M) (l : Sizes) (kind : Kind) (cycles : ℕ) where
  -- another announcement of the cycle
  plays_next : (s : Stage) (next : Announcement) → IsStage l kind cycles s → IsMarked (is_clover kind) next s.cycle s.marks → IsStage l kind cycles (record s { announcement = next })
  plays_next s next is marked = record { layout = is.layout; kind_is = is.kind_is; cycles_are = is.cycles_are; first = is.first; last = is.last; marked = marked }

  -- what was drawn, where this is announced
  marked_at : (s : Stage) (a : Announcement) → IsStage l kind cycles s → s.announcement ≡ a → IsMarked (is_clover kind) a s.cycle s.marks
  marked_at s a is e = subst (λ (x : Announcement). IsMarked (is_clover kind) x s.cycle s.marks) e is.marked

  -- the next search
  plays_search : (s : Stage) (round : ℕ) → IsStage l kind cycles s → is_clover kind ≡ true → HasDrawn s.cycle (let t = searched s round in t.marks) → IsSearch l kind cycles (searched s round)
  plays_search s round is clover drawn = record {
    stage = record { layout = is.layout; kind_is = is.kind_is; cycles_are = is.cycles_are; first = is.first; last = is.last; marked = rw clover (drawn, refl) };
    search = refl;
  }

  -- the machine of an await is the look at its pass
  pub await_is : (s : Stage) (pass : ℕ) (m : AwaitMachine) → IsAwait l kind cycles s pass m → collector.Await s pass m ≡ look {M = M} s pass
  await_is s pass m is = ap (λ (x : AwaitMachine). collector.Await s pass x) is.look

  -- ---- a search

  module _ (s : Stage) (is : IsSearch l kind cycles s) where
    searching : IsMarked (is_clover kind) Search s.cycle s.marks
    searching = marked_at s Search is.stage is.search

    -- only where marks are sought
    pub seeks_marks : (b : Bool) → IsMarked b Search s.cycle s.marks → is_clover kind ≡ b → is_clover kind ≡ true
    seeks_marks true marked e = e
    seeks_marks false marked e = absurd marked.0

    seeks_clover : is_clover kind ≡ true
    seeks_clover = seeks_marks (is_clover kind) searching refl

    pub has_drawn : HasDrawn s.cycle s.marks × (s.marks.clear ≡ false)
    has_drawn = rw seeks_clover at searching

-- ---- turns

module _ {R W E M : Type 0} (kit : Kit R W E M) (fed : M → ℕ → M) (plan : Planned) (l : Sizes) (kind : Kind) (cycles : ℕ) where
  abbrev Plays : CollectorMachine M → Type 0
  Plays k = IsCollector l kind cycles plan k

  -- ---- its work on the plan

  -- the next thing is done, or this is announced
  plays_tag : (o : Option MoveJob) (s : Stage) (at : ℕ) → slice_get plan.jobs at ≡ o → IsWork l kind cycles Copy s → is_clover kind ≡ false → Plays (tag_at o s at)
  plays_tag None s at e work plain = work.stage
  plays_tag (Some job) s at e work plain = (work, plain, (at, e))

  plays_move : (o : Option MoveJob) (s : Stage) (at : ℕ) → slice_get plan.jobs at ≡ o → IsWork l kind cycles Fix s → Plays (move_at kit o s at)
  plays_move None s at e work = work.stage
  plays_move (Some job) s at e work = (work, (at, e), (let within = slice_get_within plan.jobs at job e in omega (arith, within)))

  work_next : (s : Stage) (b : Bool) → is_clover kind ≡ b → IsWork l kind cycles (work_before kind) s → IsWork l kind cycles (if b then Fix else Copy) s
  work_next s b c work = record { stage = work.stage; next_is = work.next_is ∙ rw c refl; planned = work.planned; clear = work.clear }

  plays_targeted : (s : Stage) (b : Bool) → is_clover s.kind ≡ b → IsWork l kind cycles (work_before kind) s → Plays (if b then move_at kit (slice_get plan.jobs 0) s 0 else tag_at (slice_get plan.jobs 0) s 0)
  plays_targeted s true c work = let yes = sym (ap is_clover work.stage.kind_is) ∙ c in plays_move (slice_get plan.jobs 0) s 0 refl (work_next s true yes work)
  plays_targeted s false c work = let no = sym (ap is_clover work.stage.kind_is) ∙ c in plays_tag (slice_get plan.jobs 0) s 0 refl (work_next s false no work) no

  plays_target : (o : Option MoveJob) (s : Stage) (at : ℕ) → slice_get plan.jobs at ≡ o → IsWork l kind cycles (work_before kind) s → Plays (target_at kit plan o s at)
  plays_target None s at e work = plays_targeted s (is_clover s.kind) refl work
  plays_target (Some job) s at e work = (work, (job, (at, e), refl))

  plays_source : (o : Option ℕ) (s : Stage) (at : ℕ) → slice_get plan.chosen at ≡ o → IsWork l kind cycles (work_before kind) s → Plays (source_at kit plan o s at)
  plays_source None s at e work = plays_target (slice_get plan.jobs 0) s 0 refl work
  plays_source (Some region) s at e work = (work, (at, e))

  -- the work begins, where the cycle has the plan
  plays_work : (s : Stage) (b : Bool) → is_planned s ≡ b → IsStage l kind cycles s → s.announcement ≡ work_before kind → (is_clover kind ≡ true → s.marks.clear ≡ true) → Plays (if b then source_at kit plan (slice_get plan.chosen 0) s 0 else collector.Announce s)
  plays_work s true e stage next clear = plays_source (slice_get plan.chosen 0) s 0 refl (record { stage = stage; next_is = next; planned = e; clear = clear })
  plays_work s false e stage next clear = stage

  plays_moves : (s : Stage) (b : Bool) → is_planned s ≡ b → IsStage l kind cycles s → s.announcement ≡ Fix → (is_clover kind ≡ true → s.marks.clear ≡ true) → Plays (if b then move_at kit (slice_get plan.jobs 0) s 0 else collector.Announce s)
  plays_moves s true e stage next clear = plays_move (slice_get plan.jobs 0) s 0 refl (record { stage = stage; next_is = next; planned = e; clear = clear })
  plays_moves s false e stage next clear = stage

  -- ---- the next announcement

  pub plays_behind_free : (s : Stage) (more : Bool) → s.layout ≡ l → s.kind ≡ kind → s.cycles ≡ cycles → s.cycle ≤ cycles → s.announcement ≡ Free → IsMarked (is_clover kind) Mark (s.cycle + 1) s.marks → nat_lt s.cycle s.cycles ≡ more
      → Plays (if more then collector.Announce (record s { cycle = s.cycle + 1; announcement = Mark }) else collector.Done s)
  plays_behind_free s true layout kind_is cycles_are last free marked is = record {
    layout = layout;
    kind_is = kind_is;
    cycles_are = cycles_are;
    first = omega arith;
    last = grind (arith, nat_tests);
    marked = marked;
  }
  plays_behind_free s false layout kind_is cycles_are last free marked is = record {
    layout = layout;
    kind_is = kind_is;
    cycles_are = cycles_are;
    last = grind (arith, nat_tests);
    free = free;
  }

  module _ (fits : IsLayout l) (s : Stage) (is : IsStage l kind cycles s) where
    clover_is : is_clover s.kind ≡ is_clover kind
    clover_is = ap is_clover is.kind_is

    abbrev at_copy : Stage
    at_copy = record s { announcement = Copy }

    abbrev at_fix : Stage
    at_fix = record s { announcement = Fix }

    -- after Confirm a mark is sought, or objects are tagged
    pub copy_stage : is_clover kind ≡ false → s.announcement ≡ Confirm → IsStage l kind cycles at_copy
    copy_stage plain e = let marked : IsMarked false Confirm s.cycle s.marks = rw plain at (marked_at kit fed l kind cycles s Confirm is e) in plays_next kit fed l kind cycles s Copy is (rw plain (tt, marked.1, marked.2))

    to_copy_by : (b : Bool) → is_clover s.kind ≡ b → s.announcement ≡ Confirm → Plays (if b then collector.Draw (searched s 1) else work_at kit plan at_copy)
    to_copy_by true c e = let yes = sym clover_is ∙ c in plays_search kit fed l kind cycles s 1 is yes (drawn_first s.cycle s.marks (rw yes at (marked_at kit fed l kind cycles s Confirm is e)))
    to_copy_by false c e =
        let no = sym clover_is ∙ c in
        plays_work at_copy (is_planned at_copy) refl (copy_stage no e) (rw no refl) (λ clover. absurd (let both : false ≡ true = sym no ∙ clover in cc both))

    -- after Copy they are moved
    pub fix_stage : s.announcement ≡ Copy → IsStage l kind cycles at_fix
    fix_stage e = plays_next kit fed l kind cycles s Fix is (marked_fix (is_clover kind) s.cycle s.marks (marked_at kit fed l kind cycles s Copy is e))

    -- which comes after a search that ended clear
    pub copy_clear : s.announcement ≡ Copy → is_clover kind ≡ true → s.marks.clear ≡ true
    copy_clear e clover = (rw clover at (marked_at kit fed l kind cycles s Copy is e)).1

    to_fix_by : (b : Bool) → is_clover s.kind ≡ b → s.announcement ≡ Copy → Plays (if b then work_at kit plan at_fix else moves_at kit plan at_fix)
    to_fix_by true c e = plays_work at_fix (is_planned at_fix) refl (fix_stage e) (rw (sym clover_is ∙ c) refl) (copy_clear e)
    to_fix_by false c e = plays_moves at_fix (is_planned at_fix) refl (fix_stage e) refl (copy_clear e)

    plays_behind : (a : Announcement) → s.announcement ≡ a → Plays (behind_by kit plan a s)
    plays_behind Mark e = plays_next kit fed l kind cycles s Confirm is (marked_confirm (is_clover kind) s.cycle s.marks (marked_at kit fed l kind cycles s Mark is e))
    plays_behind Confirm e = to_copy_by (is_clover s.kind) refl e
    plays_behind Search e = record { at = record { stage = is; search = e }; seeks = seeks_begun l s.layout (mark_word s) fits is.layout }
    plays_behind Copy e = to_fix_by (is_clover s.kind) refl e
    plays_behind Fix e = record { stage = is; fix = e; walks = subst (λ (x : Sizes). Walks (area_of l) (walks.begun x)) (sym is.layout) (walks_begun l fits); on = λ gone. cc gone }
    plays_behind Free e = plays_behind_free s (nat_lt s.cycle s.cycles) is.layout is.kind_is is.cycles_are is.last e (marked_mark (is_clover kind) s.cycle s.marks is.first (marked_at kit fed l kind cycles s Free is e)) refl

    pub plays_awaited : (pass : ℕ) (more : Bool) → 1 ≤ pass → nat_lt pass s.layout.passes ≡ more → Plays (if more then look s (pass + 1) else behind_by kit plan s.announcement s)
    plays_awaited pass true least e =
        let passes : s.layout.passes ≡ l.passes = ap (λ (t : Sizes). t.passes) is.layout in
        record { stage = is; in_layout = (omega arith, grind (arith, nat_tests)); look = refl }
    plays_awaited pass false least e = plays_behind s.announcement refl

    plays_look : (pass found : ℕ) → IsPass l pass → Plays (fed_of kit fed plan (look s pass) found)
    plays_look pass found in_layout = elim (look_tells kit plan fed s pass found) [
      | inl on ↦ subst Plays (sym on.1) (plays_awaited pass (nat_lt pass s.layout.passes) in_layout.0 refl)
      | inr rest ↦ elim rest [
        | inl again ↦ subst Plays (sym again) (record { stage = is; in_layout = in_layout; look = refl })
        | inr roots ↦ subst Plays (sym roots.2) (record { stage = is; fix = roots.1; in_layout = in_layout; small = omega arith; fixes = root_place l s.layout pass 0 is.layout in_layout })
      ]
    ]

    -- ---- root words

    plays_roots_next : (pass reg : ℕ) (more : Bool) → s.announcement ≡ Fix → IsPass l pass → nat_lt reg (REGISTERS - 1) ≡ more → Plays (if more then root_fix s pass (reg + 1) else awaited kit plan s pass)
    plays_roots_next pass reg true fix there e = record { stage = is; fix = fix; in_layout = there; small = grind (arith, nat_tests, e); fixes = root_place l s.layout pass (reg + 1) is.layout there }
    plays_roots_next pass reg false fix there e = plays_awaited pass (nat_lt pass s.layout.passes) there.0 refl

    plays_rooted : (pass reg : ℕ) (m : RootFixMachine) (end : Option (Unit {0})) → IsRooting l kind cycles s pass reg m → (after : RootFixMachine) → (end ≡ None → IsRootFixOf (root_at l pass reg) after) → Plays (rooted kit plan s pass reg after end)
    plays_rooted pass reg m None rooting after on = record { stage = is; fix = rooting.fix; in_layout = rooting.in_layout; small = rooting.small; fixes = on refl }
    plays_rooted pass reg m (Some end) rooting after on = plays_roots_next pass reg (nat_lt reg (REGISTERS - 1)) rooting.fix rooting.in_layout refl

  -- ---- the walk

  plays_walked : (s : Stage) (m : FixWalkMachine) (end : Option (Unit {0})) → IsStage l kind cycles s → s.announcement ≡ Fix → Walks (area_of l) m → (end ≡ None → walks.asks_of m ≢ Ended) → Plays (walked s m end)
  plays_walked s m None is fix walks on = record { stage = is; fix = fix; walks = walks; on = on refl }
  plays_walked s m (Some end) is fix walks on = plays_next kit fed l kind cycles s Free is (marked_free (is_clover kind) s.cycle s.marks (marked_at kit fed l kind cycles s Fix is fix))

  -- ---- a search

  module _ (s : Stage) (is : IsSearch l kind cycles s) where
    clover : is_clover kind ≡ true
    clover = seeks_clover kit fed l kind cycles s is

    drawn : HasDrawn s.cycle s.marks × (s.marks.clear ≡ false)
    drawn = has_drawn kit fed l kind cycles s is

    found_by : (more : Bool) → nat_lt s.marks.round SEARCHES ≡ more → Plays (if more then collector.Draw (searched s (s.marks.round + 1)) else collector.Announce (record s { announcement = Fix }))
    found_by true e = plays_search kit fed l kind cycles s (s.marks.round + 1) is.stage clover (drawn_next s.cycle s.marks drawn.0 (grind (arith, nat_tests, e)))
    found_by false e =
        let most : SEARCHES ≤ s.marks.round = grind (arith, nat_tests, e) in
        plays_next kit fed l kind cycles s Fix is.stage (rw clover (drawn.0, λ unclear. (let has = drawn.0 in omega (arith, most, has.last))))

    plays_sought : (m : SeekMarkMachine) (end : Option SeekEnd) → (end ≡ None → Seeks l (mark_word s) m) → Plays (sought s m end)
    plays_sought m None on = record { at = is; seeks = on refl }
    plays_sought m (Some Clear) on = record {
      layout = is.stage.layout;
      kind_is = is.stage.kind_is;
      cycles_are = is.stage.cycles_are;
      first = is.stage.first;
      last = is.stage.last;
      marked = rw clover (let has = drawn.0 in record { first = has.first; last = has.last; some = has.some; few = has.few }, refl);
    }
    plays_sought m (Some (MarkFound place)) on = found_by (nat_lt s.marks.round SEARCHES) refl

  -- ---- each step

  -- after a step of the move
  plays_moved : (s : Stage) (job : MoveJob) (next : ℕ) (m : M) (end : Option MoveEnd) → IsWork l kind cycles Fix s → IsIn plan.jobs job → next ≤ length plan.jobs → Plays (moved_by kit plan s job next m end)
  plays_moved s job next m None work its within = (work, its, within)
  plays_moved s job next m (Some end) work its within = plays_move (slice_get plan.jobs next) s next refl work

  -- every word that it is fed leaves it a collector of these cycles
  pub plays_fed : (k : CollectorMachine M) (found : ℕ) → IsLayout l → Plays k → Plays (fed_of kit fed plan k found)
  plays_fed (collector.Announce s) found layout is = record { stage = is; in_layout = (omega arith, layout.passes.0); look = refl }
  plays_fed (collector.Await s pass m) found layout is =
      subst (λ (k : CollectorMachine M). Plays (fed_of kit fed plan k found)) (sym (await_is kit fed l kind cycles s pass m is)) (plays_look layout s is.stage pass found is.in_layout)
  plays_fed (collector.Draw s) found layout is = is.stage
  plays_fed (collector.Seek s m) found layout is = plays_sought s is.at (seeks.fed_of m found) (seeks.end_of (seeks.fed_of m found)) (λ on. seeks_on l (mark_word s) m found is.seeks on)
  plays_fed (collector.Source s region next) found layout is = plays_source (slice_get plan.chosen next) s next refl is.0
  plays_fed (collector.Target s region next) found layout is = plays_target (slice_get plan.jobs next) s next refl is.0
  plays_fed (collector.Tag s job next) found layout is = plays_tag (slice_get plan.jobs next) s next refl is.0 is.1
  plays_fed (collector.Move s job next m) found layout is = plays_moved s job next (fed m found) (kit.move_ended (fed m found)) is.0 is.1 is.2
  plays_fed (collector.Roots s pass reg m) found layout is = plays_rooted layout s is.stage pass reg m (roots.end_of (roots.fed_of m found)) is (roots.fed_of m found) (λ none. root_on (root_at l pass reg) m found is.fixes none)
  plays_fed (collector.Walk s m) found layout is =
      plays_walked s (walks.fed_of m found) (walks.end_of (walks.fed_of m found)) is.stage is.fix (walk_steps (area_of l) m found is.walks is.on).on (λ none. walk_on (area_of l) m found is.walks is.on none)
  plays_fed (collector.Done s) found layout is = is

-- nothing is drawn at the start
start_marked : (clover : Bool) (kind : Kind) (l : Sizes) (cycles salt : ℕ) → IsMarked clover Mark 1 (let s = stage_at_start kind l cycles salt in s.marks)
start_marked true kind l cycles salt = omega arith
start_marked false kind l cycles salt = (tt, refl, refl)

pub plays_from_start : {R W E M : Type 0} (kit : Kit R W E M) (plan : Planned) (l : Sizes) (cycles salt : ℕ) → IsCollector l kit.kind cycles plan (collector_of kit plan l cycles salt)
plays_from_start kit plan l cycles salt =
    plays_behind_free kit (λ m n. m) plan l kit.kind cycles (stage_at_start kit.kind l cycles salt) (nat_lt 0 cycles) refl refl refl (omega arith) refl (start_marked (is_clover kit.kind) kit.kind l cycles salt) refl
