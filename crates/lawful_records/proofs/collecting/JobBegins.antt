-- The jobs of the cycle where the collector announces and awaits, and how the work on them goes on.
use Rattle.std.specs.Prelude.{nat_lt, ◌⊎◌, take, drop, if◌then◌else◌}
use Rattle.std.specs.List.{All, AllPairs, slice_get}
use Rattle.std.proofs.Common.{inl, inr, ◌≡◌, ◌≢◌, ℕ, ◌+◌, ◌==◌, Bool, true, false, List, [], ◌∷◌, Option, Some, None, refl, sym, ap, ◌∙◌, subst, arith}
use Rattle.std.proofs.lemmas.Bool.{eqb-true}
use Rattle.std.proofs.lemmas.Bool.Decides.{nat_tests}
use Rattle.std.proofs.lemmas.List.Elements.{All-weaker, All-head, All-tail, All-nil}
use Rattle.std.proofs.lemmas.Option.{slice_get_within}
use Rattle.heap_words.specs.Layouts.{Sizes, IsLayout}
use Rattle.object_headers.specs.declared.change.Kind.{Kind}
use Rattle.object_headers.specs.declared.change.Kind.TheVariants as kinds
use Rattle.object_headers.specs.Changes.{is_stopless, is_clover, does_tag, does_move}
use Rattle.space_reclaim.specs.declared.move_job.MoveJob.{MoveJob}
use Rattle.barriers.specs.Spaces.{Space, Here, here}
use Rattle.barriers.specs.States.{State, Absent, Forward, IsHome, IsLive}
use Rattle.barriers.specs.States.{Plain as Plain_state, Tagged as Tagged_state, Kept as Kept_state}
use Rattle.barriers.specs.Rows.{Rows}
use Rattle.barriers.specs.Cycles.{Cycle, Everybody, IsSet}
use Rattle.barriers.specs.Stances.{mark_in}
use Rattle.barriers.specs.Moves.{Carried, Lays, job_of}
use Rattle.barriers.specs.MoveSteps.{first_of}
use Rattle.barriers.specs.CycleLaws.{IsTaggedOrKept, HasWide, IsReady}
use Rattle.barriers.specs.Kits.{Kit, Stepping, Laws, BeginsMove}
use Rattle.barriers.proofs.objects.MoveTurns.{move_begins}
use Rattle.barriers.proofs.words.Rows.{end_absent}
use Rattle.lawful_records.specs.declared.stage.Announcement.{Announcement}
use Rattle.lawful_records.specs.declared.stage.Announcement.TheVariants.{Mark, Confirm, Search, Copy, Fix, Free}
use Rattle.lawful_records.specs.declared.stage.Stage.{Stage}
use Rattle.lawful_records.specs.declared.collector.CollectorMachine.{CollectorMachine}
use Rattle.lawful_records.specs.declared.collector.CollectorMachine.TheVariants as collector
use Rattle.space_reclaim.specs.Plans.{Planned}
use Rattle.barriers.specs.Objects.{IsForward, AreObjects}
use Rattle.barriers.specs.Protocols.{Protocol, TargetIs}
use Rattle.lawful_records.specs.Collectors.{mark_word, is_planned, jobs_of, target_of, searched, tag_at, move_at, target_at, source_at, work_at, moves_at, behind_by}
use Rattle.lawful_records.specs.Cycling.{cycle_of}
use Rattle.lawful_records.specs.Handshakes.{IsStage}
use Rattle.lawful_records.specs.JobStands.{stand_at_copy, stand_at, stand_of, IsPlannedJob, IsPlan, IsUnmoved, IsAfter, ends_after, AreUnmoved, IsPlainAt, IsTaggedAt, IsWaiting, IsTarget, IsTargetOr, ends_by, IsMover, IsMoverOf, StandsAt}
use Rattle.lawful_records.proofs.collecting.FirstJobs.{tags_by}
use Rattle.lawful_records.proofs.collecting.PlanLists.{all_in, all_more, drop_some, take_none, pairs_drop, pairs_head, pairs_tail, all_run}
use Rattle.lawful_records.proofs.collecting.Playing.{fix_stage, copy_clear}
use Rattle.lawful_records.proofs.collecting.WorkNow.{MovesNow, moves_now, WorksNow}

-- ---- a move begins

lays_of : (kind : Kind) (job : MoveJob) → does_move kind ≡ true → first_of kind job ≡ Lays job
lays_of kinds.Stopless job moves = refl
lays_of kinds.Chicken job moves = refl
lays_of kinds.Clover job moves = refl
lays_of kinds.AtRest job moves = absurd (cc moves)

wide_of : (kind : Kind) (job : MoveJob) → (is_stopless kind ≡ true → job.wide ≢ 0) → HasWide kind job
wide_of kinds.Stopless job some = some refl
wide_of kinds.Chicken job some = tt
wide_of kinds.AtRest job some = tt
wide_of kinds.Clover job some = tt

-- a tagged object is ready when all have acknowledged Copy
ready_tagged : (kind : Kind) (c : Cycle) (x : Here) → does_tag kind ≡ true → IsTaggedOrKept x.state → c.told ≡ Everybody → IsReady kind c x
ready_tagged kinds.Stopless c x tags tagged told = (tagged, told)
ready_tagged kinds.Chicken c x tags tagged told = (tagged, told)
ready_tagged kinds.AtRest c x tags tagged told = absurd (cc tags)
ready_tagged kinds.Clover c x tags tagged told = absurd (cc tags)

-- and one that is moved by a mark, when they have that mark and no place held it
ready_marked : (kind : Kind) (c : Cycle) (x : Here) → is_clover kind ≡ true → x.state ≡ Plain_state → c.told ≡ Everybody → c.clear ≡ true → IsSet c.mark → IsReady kind c x
ready_marked kinds.Clover c x is plain told clear set = (plain, told, clear, set)
ready_marked kinds.Stopless c x is plain told clear set = absurd (cc is)
ready_marked kinds.Chicken c x is plain told clear set = absurd (cc is)
ready_marked kinds.AtRest c x is plain told clear set = absurd (cc is)

home : (x : State) → IsTaggedOrKept x → IsHome x
home Tagged_state is = tt
home Kept_state is = tt
home x is = absurd is

-- ---- the rest of a list of jobs

module _ (l : Sizes) (s : Space) where
  pub unmoved_tail : (ends : ℕ → ℕ) (j : MoveJob) (rest : List MoveJob) → AreUnmoved l s ends (j ∷ rest) → AreUnmoved l s (ends_after l ends j) rest
  unmoved_tail ends j rest are = record { each = All-tail (IsUnmoved l s) j rest are.each; laid = are.laid.1; after = pairs_tail IsAfter j rest are.after }

  pub none_unmoved : (ends : ℕ → ℕ) → AreUnmoved l s ends []
  none_unmoved ends = record { each = All-nil (IsUnmoved l s); laid = tt; after = λ i j d less within. absurd (omega (arith, less, within)) }

-- a header's target is the copy
pub forward_to : (P : Protocol) (c : Cycle) (s : Space) → AreObjects P c s → (a to : ℕ) → s.state a ≡ Forward to → s.to a ≡ to
forward_to P c s objects a to gone = sym (subst (TargetIs (here s a 0)) gone (objects.target a 0 (subst IsLive (sym gone) tt)))

-- the object of a job that has not begun is no copy
pub never_copy : (l : Sizes) (s : Space) → ((a to : ℕ) → s.state a ≡ Forward to → s.to a ≡ to) → (j : MoveJob) → IsUnmoved l s j → (a : ℕ) → IsForward (s.state a) → s.to a ≢ j.from
never_copy l s gone j unmoved a forward = by_state (s.state a) refl forward
  where
    by_state : (y : State) → s.state a ≡ y → IsForward y → s.to a ≢ j.from
    by_state (Forward to) e forward same = unmoved.apart a to e (sym (gone a to e) ∙ same)
    by_state y e forward same = absurd forward

module _ {R W E M : Type 0} (kit : Kit R W E M) (l : Sizes) (s : Space) where
  -- where it announces and awaits it does not read the cycle
  pub stand_on : (c d : Cycle) (clover : Bool) (a : Announcement) (jobs : List MoveJob) → StandsAt kit l c s (stand_at clover a jobs) → StandsAt kit l d s (stand_at clover a jobs)
  stand_on c d clover Mark jobs is = is
  stand_on c d clover Confirm jobs is = is
  stand_on c d clover Search jobs is = is
  stand_on c d true Copy jobs is = is
  stand_on c d false Copy jobs is = is
  stand_on c d clover Fix jobs is = tt
  stand_on c d clover Free jobs is = tt

-- ---- what stands after each thing that is done

module _ {R W E M : Type 0} (kit : Kit R W E M) (by : Stepping R W E M) (laws : Laws kit by) (l : Sizes) (fits : IsLayout l) (plan : Planned) (planned : IsPlan kit.kind l plan) (s : Space) (rows : Rows l s.state s.len s.ends s.region) (gone : (a to : ℕ) → s.state a ≡ Forward to → s.to a ≡ to) where
  abbrev Next : CollectorMachine M → Type 0
  Next k = StandsAt kit l (cycle_of k) s (stand_of plan k)

  abbrev clover : Bool
  clover = is_clover kit.kind

  -- ---- moves

  module _ (x : Stage) (now : MovesNow kit.kind l x) (job : MoveJob) (its : IsPlannedJob kit.kind job) (unmoved : IsUnmoved l s job) (target : IsTarget l s job) (place : s.ends (target_of l job) ≡ job.to) (waits : IsWaiting (is_clover kit.kind) s job) where
    abbrev d : Cycle
    d = cycle_of {M = M} (collector.Announce x)

    abbrev m : M
    m = kit.starts_move l job (mark_word x)

    begun : BeginsMove kit by (mark_in (mark_word x)) job m
    begun = laws.begins_move l job (mark_word x) its.job

    pub move_lays : kit.moves m ≡ Lays job
    move_lays = begun.known ∙ (laws.movable.begins job ∙ lays_of kit.kind job its.moves)

    absent : s.state job.to ≡ Absent
    absent = subst (λ a. s.state a ≡ Absent) place (end_absent l s.state s.len s.ends s.region rows (target_of l job) (let room = unmoved.room in omega (arith, room, place)))

    at_home : (b : Bool) → IsWaiting b s job → IsHome (s.state job.from)
    at_home true plain = subst IsHome (sym plain) tt
    at_home false tagged = home (s.state job.from) tagged

    is_ready : (b : Bool) → is_clover kit.kind ≡ b → IsWaiting b s job → IsReady kit.kind d (here s job.from 0)
    is_ready true e plain = let marked = now.marked e in ready_marked kit.kind d (here s job.from 0) e plain now.told marked.0 marked.1
    is_ready false e tagged = ready_tagged kit.kind d (here s job.from 0) (tags_by kit.kind its.moves e) tagged now.told

    ready : (let P = kit.protocol in P.MoveHead d (kit.moves m) (here s job.from 0))
    ready = subst (λ (k : Carried). (let P = kit.protocol in P.MoveHead d k (here s job.from 0))) (sym begun.known) (laws.movable.ready d job (here s job.from 0) (wide_of kit.kind job its.wide) (is_ready clover refl waits))

    pub mover_begins : IsMover kit l d s job m
    mover_begins = record {
      moves = its.moves;
      pool = unmoved.pool;
      job = ap job_of move_lays;
      own = begun.own;
      move = move_begins kit.protocol laws.table d s (kit.moves m) job (record {
        first = inr move_lays;
        late = refl;
        live = at_home clover waits;
        len = unmoved.len;
        birth = unmoved.birth;
        header = unmoved.header;
        absent = absent;
        apart = never_copy l s gone job unmoved;
        head = ready;
      });
      lays = λ i e. (unmoved, target, place);
    }

  -- the next job's move begins, or none is left
  pub stand_move : (o : Option MoveJob) (x : Stage) (at : ℕ) → slice_get plan.jobs at ≡ o → MovesNow kit.kind l x → AreUnmoved l s s.ends (drop at plan.jobs) → All (IsWaiting (is_clover kit.kind) s) (drop at plan.jobs) → All (IsTarget l s) (drop at plan.jobs) → Next (move_at kit o x at)
  stand_move None x at e now are waits targets = rw now.fix tt
  stand_move (Some job) x at e now are waits targets =
      let rest : List MoveJob = drop (at + 1) plan.jobs in
      let split : drop at plan.jobs ≡ job ∷ rest = drop_some plan.jobs at job e in
      let are_all : AreUnmoved l s s.ends (job ∷ rest) = subst (AreUnmoved l s s.ends) split are in
      let waits_all : All (IsWaiting (is_clover kit.kind) s) (job ∷ rest) = subst (All (IsWaiting (is_clover kit.kind) s)) split waits in
      let targets_all : All (IsTarget l s) (job ∷ rest) = subst (All (IsTarget l s)) split targets in
      let its : IsPlannedJob kit.kind job = all_in (IsPlannedJob kit.kind) plan.jobs job planned.jobs (at, e) in
      let own : IsUnmoved l s job = All-head (IsUnmoved l s) job rest are_all.each in
      let waits_own = All-head (IsWaiting (is_clover kit.kind) s) job rest waits_all in
      let target = All-head (IsTarget l s) job rest targets_all in
      let lays : kit.moves (kit.starts_move l job (mark_word x)) ≡ Lays job = move_lays x now job its own target are_all.laid.0 waits_own in
      let of_layout : IsMoverOf kit l (cycle_of {M = M} (collector.Announce x)) s job rest (kit.starts_move l job (mark_word x)) = record {
        mover = mover_begins x now job its own target are_all.laid.0 waits_own;
        unmoved = subst (λ (k : Carried). AreUnmoved l s (ends_by l k s.ends) rest) (sym lays) (unmoved_tail l s s.ends job rest are_all);
        waiting = All-tail (IsWaiting (is_clover kit.kind) s) job rest waits_all;
        targets = All-tail (IsTarget l s) job rest targets_all;
        after = pairs_head IsAfter job rest are_all.after;
      } in
      subst (λ (y : Sizes). IsMoverOf kit l (cycle_of {M = M} (collector.Announce x)) s job rest (kit.starts_move y job (mark_word x))) (sym now.layout) of_layout

  -- ---- tags

  -- the next job's object is tagged next, or all are
  pub stand_tag : (o : Option MoveJob) (x : Stage) (at : ℕ) → slice_get plan.jobs at ≡ o → x.announcement ≡ Copy → is_clover x.kind ≡ false → is_planned x ≡ true
      → AreUnmoved l s s.ends plan.jobs → All (IsTarget l s) plan.jobs → All (IsTaggedAt s) (take at plan.jobs) → All (IsPlainAt s) (drop at plan.jobs) → Next (tag_at o x at)
  stand_tag None x at e copy plain has are targets tagged rest =
      rw (plain, copy, has) (are, subst (All (IsTaggedAt s)) (take_none plan.jobs at e) tagged, targets)
  stand_tag (Some job) x at e copy plain has are targets tagged rest =
      let after : List MoveJob = drop (at + 1) plan.jobs in
      let split : drop at plan.jobs ≡ job ∷ after = drop_some plan.jobs at job e in
      let plain_all : All (IsPlainAt s) (job ∷ after) = subst (All (IsPlainAt s)) split rest in
      record {
        unmoved = are;
        own = all_in (IsUnmoved l s) plan.jobs job are.each (at, e);
        plain = All-head (IsPlainAt s) job after plain_all;
        tagged = all_more (λ j. IsTaggedAt s j ⊎ (j ≡ job)) plan.jobs at job e (All-weaker (IsTaggedAt s) (λ j. IsTaggedAt s j ⊎ (j ≡ job)) (λ j is. inl is) (take at plan.jobs) tagged) (inr refl);
        rest = All-tail (IsPlainAt s) job after plain_all;
        after = pairs_head IsAfter job after (subst (AllPairs IsAfter) split (pairs_drop IsAfter at plan.jobs are.after));
        targets = targets;
      }

  -- ---- the words of regions

  abbrev Nothing : Type 0
  Nothing = AreUnmoved l s s.ends plan.jobs × All (IsPlainAt s) plan.jobs

  targeted_by : (b : Bool) (x : Stage) → is_clover x.kind ≡ b → WorksNow kit.kind l x → Nothing → All (IsTarget l s) plan.jobs → Next (if b then move_at kit (slice_get plan.jobs 0) x 0 else tag_at (slice_get plan.jobs 0) x 0)
  targeted_by true x e works is targets =
      let yes = sym (ap is_clover works.kind_is) ∙ e in
      stand_move (slice_get plan.jobs 0) x 0 refl (works.moves yes) is.0 (subst (λ b. All (IsWaiting b s) plan.jobs) (sym yes) is.1) targets
  targeted_by false x e works is targets =
      let no = sym (ap is_clover works.kind_is) ∙ e in
      stand_tag (slice_get plan.jobs 0) x 0 refl (works.tags no) e works.has is.0 targets (All-nil (IsTaggedAt s)) is.1

  pub stand_target : (o : Option MoveJob) (x : Stage) (at : ℕ) → slice_get plan.jobs at ≡ o → WorksNow kit.kind l x → Nothing → All (IsTarget l s) (take at plan.jobs) → Next (target_at kit plan o x at)
  stand_target None x at e works is targets = targeted_by (is_clover x.kind) x refl works is (subst (All (IsTarget l s)) (take_none plan.jobs at e) targets)
  stand_target (Some job) x at e works is targets = (
    is.0,
    is.1,
    all_run (IsTargetOr l s (target_of x.layout job)) (λ j. target_of x.layout j == target_of x.layout job) plan.jobs at
        (let within = slice_get_within plan.jobs at job e in omega (arith, within))
        (All-weaker (IsTarget l s) (IsTargetOr l s (target_of x.layout job)) (λ j is. inl is) (take at plan.jobs) targets) here,
  )
    where
      here : (j : MoveJob) → (target_of x.layout j == target_of x.layout job) ≡ true → IsTargetOr l s (target_of x.layout job) j
      here j same = inr (sym (ap (λ (y : Sizes). target_of y j) works.layout) ∙ eqb-true (target_of x.layout j) (target_of x.layout job) same)

  pub stand_source : (o : Option ℕ) (x : Stage) (at : ℕ) → WorksNow kit.kind l x → Nothing → Next (source_at kit plan o x at)
  stand_source None x at works is = stand_target (slice_get plan.jobs 0) x 0 refl works is (All-nil (IsTarget l s))
  stand_source (Some region) x at works is = is

  -- ---- after an await

  module _ (c : Cycle) (cycles : ℕ) (st : Stage) (is : IsStage l kit.kind cycles st) where
    abbrev At : Announcement → Type 0
    At a = StandsAt kit l c s (stand_at (is_clover st.kind) a (jobs_of plan st))

    abbrev at_copy : Stage
    at_copy = record st { announcement = Copy }

    abbrev at_fix : Stage
    at_fix = record st { announcement = Fix }

    clover_is : is_clover st.kind ≡ is_clover kit.kind
    clover_is = ap is_clover is.kind_is

    -- the jobs are those of the plan, or none
    abbrev jobs_by : Bool → List MoveJob
    jobs_by has = if has then plan.jobs else []

    none_stands : (d : Cycle) (b : Bool) → StandsAt kit l d s (stand_at_copy b [])
    none_stands d true = (none_unmoved l s s.ends, All-nil (IsPlainAt s))
    none_stands d false = (none_unmoved l s s.ends, All-nil (IsTaggedAt s), All-nil (IsTarget l s))

    copy_by : (has : Bool) → is_planned st ≡ has → is_clover st.kind ≡ false → st.announcement ≡ Confirm → AreUnmoved l s s.ends (jobs_by has) × All (IsPlainAt s) (jobs_by has)
        → Next (if has then source_at kit plan (slice_get plan.chosen 0) at_copy 0 else collector.Announce at_copy)
    copy_by true e plain confirm stands = stand_source (slice_get plan.chosen 0) at_copy 0 (record {
      layout = is.layout;
      kind_is = is.kind_is;
      has = e;
      tags = λ its. refl;
      moves = λ seeks. absurd (let both : false ≡ true = sym plain ∙ (clover_is ∙ seeks) in cc both);
    }) stands
    copy_by false e plain confirm stands = rw e (none_stands (cycle_of {M = M} (collector.Announce at_copy)) (is_clover st.kind))

    to_copy_by : (b : Bool) → is_clover st.kind ≡ b → st.announcement ≡ Confirm → At Confirm → Next (if b then collector.Draw (searched st 1) else work_at kit plan at_copy)
    to_copy_by true e confirm stands = stands
    to_copy_by false e confirm stands = copy_by (is_planned st) refl e confirm stands

    fix_now : st.announcement ≡ Copy → MovesNow kit.kind l at_fix
    fix_now copy = moves_now kit.kind l cycles at_fix (fix_stage kit by.move_fed plan l kit.kind cycles fits st is copy) refl (copy_clear kit by.move_fed plan l kit.kind cycles fits st is copy)

    fix_work : (has : Bool) → is_planned st ≡ has → is_clover st.kind ≡ true → st.announcement ≡ Copy → AreUnmoved l s s.ends (jobs_by has) × All (IsPlainAt s) (jobs_by has)
        → Next (if has then source_at kit plan (slice_get plan.chosen 0) at_fix 0 else collector.Announce at_fix)
    fix_work true e seeks copy stands = stand_source (slice_get plan.chosen 0) at_fix 0 (record {
      layout = is.layout;
      kind_is = is.kind_is;
      has = e;
      tags = λ plain. absurd (let both : true ≡ false = sym seeks ∙ (clover_is ∙ plain) in cc both);
      moves = λ its. fix_now copy;
    }) stands
    fix_work false e seeks copy stands = tt

    fix_moves : (has : Bool) → is_planned st ≡ has → is_clover st.kind ≡ false → st.announcement ≡ Copy → AreUnmoved l s s.ends (jobs_by has) × All (IsTaggedAt s) (jobs_by has) × All (IsTarget l s) (jobs_by has)
        → Next (if has then move_at kit (slice_get plan.jobs 0) at_fix 0 else collector.Announce at_fix)
    fix_moves true e plain copy stands =
        stand_move (slice_get plan.jobs 0) at_fix 0 refl (fix_now copy) stands.0 (subst (λ b. All (IsWaiting b s) plan.jobs) (sym (sym clover_is ∙ plain)) stands.1) stands.2
    fix_moves false e plain copy stands = tt

    to_fix_by : (b : Bool) → is_clover st.kind ≡ b → st.announcement ≡ Copy → StandsAt kit l c s (stand_at_copy b (jobs_of plan st)) → Next (if b then work_at kit plan at_fix else moves_at kit plan at_fix)
    to_fix_by true e copy stands = fix_work (is_planned st) refl e copy stands
    to_fix_by false e copy stands = fix_moves (is_planned st) refl e copy stands

    -- no later cycle has the plan
    stand_next : (more : Bool) → Next (if more then collector.Announce (record st { cycle = st.cycle + 1; announcement = Mark }) else collector.Done st)
    stand_next true = let later : (st.cycle + 1 == 1) ≡ false = grind (arith, nat_tests, is.first) in rw later (none_unmoved l s s.ends, All-nil (IsPlainAt s))
    stand_next false = tt

    pub stand_behind : (a : Announcement) → st.announcement ≡ a → At a → Next (behind_by kit plan a st)
    stand_behind Mark e stands = stands
    stand_behind Confirm e stands = to_copy_by (is_clover st.kind) refl e stands
    stand_behind Search e stands = stands
    stand_behind Copy e stands = to_fix_by (is_clover st.kind) refl e stands
    stand_behind Fix e stands = tt
    stand_behind Free e stands = stand_next (nat_lt st.cycle st.cycles)
