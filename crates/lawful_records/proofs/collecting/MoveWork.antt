-- The step of the mover in the collector's turn.
use Rattle.std.specs.Prelude.{◌<◌, slice_index, if◌then◌else◌}
use Rattle.std.proofs.Common.{Bool, true, false, ◌==◌, inl, inr, ◌≡◌, ◌≢◌, ℕ, ◌≤◌, ◌⊎◌, List, Option, Some, None, refl, sym, ap, ◌∙◌, subst, arith}
use Rattle.std.proofs.lemmas.Bool.{cases_eq}
use Rattle.call_steps.specs.declared.step.Step.{Step}
use Rattle.call_steps.specs.declared.step.Step.TheVariants.{Ended}
use Rattle.call_steps.specs.Steps.{place_of, put_by, applied, IsInside}
use Rattle.call_steps.specs.StepLaws.{reading, Put, applied-puts}
use Rattle.heap_words.specs.Layouts.{Sizes, words_of}
use Rattle.heap_words.specs.declared.field_word.FieldWord.{FieldWord}
use Rattle.heap_words.specs.declared.field_word.FieldWord.TheVariants.{Num}
use Rattle.heap_words.specs.declared.limits.TheConstants.{NUMBER_LIMIT}
use Rattle.heap_words.specs.FieldWords.{IsFieldWord}
use Rattle.barriers.specs.Stances.{mark_in}
use Rattle.wide_objects.specs.Statuses.{InOriginal}
use Rattle.space_reclaim.specs.declared.move_job.MoveJob.{MoveJob}
use Rattle.space_reclaim.specs.Plans.{Planned}
use Rattle.space_reclaim.specs.declared.region_word.RegionWord.TheVariants as regions
use Rattle.heap_history.specs.declared.call.Call.{Call}
use Rattle.barriers.specs.declared.ends.MoveEnd.{MoveEnd}
use Rattle.barriers.specs.Sets.{set}
use Rattle.barriers.specs.Spaces.{Space, here, copy_word}
use Rattle.barriers.specs.Accesses.{put_state}
use Rattle.barriers.specs.States.{State, Absent, Plain, Kept, Underway, Dead, Moving, Wide, Tagged, Forward, IsLive}
use Rattle.barriers.specs.Says.{Notices, Says}
use Rattle.barriers.specs.Rows.{Rows}
use Rattle.barriers.specs.Cycles.{Cycle, IsMoving}
use Rattle.barriers.specs.Events.{Event, Widen, Take, Mark, IsStill}
use Rattle.barriers.specs.ProtocolLaws.{MayEnd}
use Rattle.barriers.specs.Moves.{Carried, Idles, Looks, field_of, Lays, Gives_up, Seals, Starts, Forwards, Widens, Finishes, Marks, job_of, widen_event, finish_event, mark_event}
use Rattle.barriers.specs.MoveSteps.{forward, seal_wide, forward_by, field_by, space_moved, move_said, end_by}
use Rattle.barriers.specs.MoveTurns.{MovesTo, mover_after}
use Rattle.barriers.specs.MoveWords.{CanLay, IsMoverAt, StandsRight, IsSpare, IsNarrow}
use Rattle.barriers.specs.Objects.{CopyAt, IsMove}
use Rattle.barriers.specs.Kits.{Kit, Stepping, Laws}
use Rattle.barriers.proofs.objects.MoveTurns.{move_step, moved_region, moved_ends}
use Rattle.barriers.proofs.words.Headers.{home_live, home_there, live_there}
use Rattle.barriers.proofs.words.MoveFrames.{mover_at, alike_moved}
use Rattle.barriers.proofs.words.MoveRows.{Stays, rows_moved, header_moved}
use Rattle.barriers.proofs.words.Movers.{mover_inside, mover_goes, mover_says, ended_idles}
use Rattle.barriers.proofs.words.Sets.{set_cases, set_here, set_else}
use Rattle.barriers.proofs.words.Spares.{wide_ready, spare_moved}
use Rattle.lawful_records.specs.declared.awaited.Awaited.{Awaited}
use Rattle.lawful_records.specs.declared.stage.Stage.{Stage}
use Rattle.lawful_records.specs.declared.collector.CollectorMachine.{CollectorMachine}
use Rattle.lawful_records.specs.declared.collector.CollectorMachine.TheVariants as collector
use Rattle.lawful_records.specs.declared.records.Sealed.{Sealed}
use Rattle.lawful_records.specs.Collectors.{mark_word}
use Rattle.lawful_records.specs.Cycling.{cycle_of}
use Rattle.lawful_records.proofs.collecting.Announcing.{last_fits}
use Rattle.lawful_records.specs.Frames.{SameRegion}
use Rattle.lawful_records.specs.JobStands.{IsPlannedJob, IsMover}
use Rattle.lawful_records.proofs.collecting.PlanLists.{all_in}
use Rattle.lawful_records.proofs.collecting.Goes.{CollectorStands}

-- ---- what a step puts in a header

-- a state that a step puts in a header, but for one that is moved by a mark
abbrev IsPut : State → Type 0
IsPut Plain = Unit {0}
IsPut (Wide wide) = Unit {0}
IsPut Underway = Unit {0}
IsPut (Forward to) = Unit {0}
IsPut Dead = Unit {0}
IsPut x = ⊥

-- after the step only headers are in another state that were before
module _ (s : Space) (Q : State → Type 0) (none : (x : State) → IsPut x → Q x → ⊥) where
  put_back : (a : ℕ) (y : State) → IsPut y → (x : ℕ) → Q (set s.state a y x) → Q (s.state x)
  put_back a y put x now = elim (set_cases s.state a x y) [ inl q ↦ absurd (none y put (subst Q q.1 now)) | inr q ↦ subst Q q.1 now ]

  forward_back : (j : MoveJob) (seal : Option (List Call)) (x : ℕ) → Q ((forward s j seal).state x) → Q (s.state x)
  forward_back j seal x now = elim (set_cases (set s.state j.to Plain) j.from x (Forward j.to)) [
    | inl q ↦ absurd (none (Forward j.to) tt (subst Q q.1 now))
    | inr q ↦ put_back j.to Plain tt x (subst Q q.1 now)
  ]

  sealed_back : (j : MoveJob) (y : State) (x : ℕ) → Q ((seal_wide s j y).state x) → Q (s.state x)
  sealed_back j Tagged x now = put_back j.from (Wide j.wide) tt x now
  sealed_back j y x now = now

  forwarded_back : (j : MoveJob) (y : State) (x : ℕ) → Q ((forward_by s j y).state x) → Q (s.state x)
  forwarded_back j Tagged x now = forward_back j (Some s.history) x now
  forwarded_back j (Wide w) x now = forward_back j (s.seal j.from) x now
  forwarded_back j (Moving t) x now = forward_back j (s.seal j.from) x now
  forwarded_back j y x now = now

  field_back : (a f : ℕ) (e : Event) (x : ℕ) → Q ((field_by s a f e).state x) → Q (s.state x)
  field_back a f (Widen w) x now = now
  field_back a f (Take w) x now = now
  field_back a f (Mark w) x now = now
  field_back a f e x now = now

  started_back : (j : MoveJob) (x : ℕ) → x ≢ j.from → Q ((put_state s j.from (Moving j.to)).state x) → Q (s.state x)
  started_back j x other now = elim (set_cases s.state j.from x (Moving j.to)) [ inl q ↦ absurd (other q.0) | inr q ↦ subst Q q.1 now ]

  -- of what is not the object that the step starts to move by a mark
  moved_back : (l : Sizes) (mark : Option FieldWord) (m : Carried) (x : ℕ) → ((j : MoveJob) → m ≡ Starts j → x ≢ j.from) → Q ((space_moved l mark s m).state x) → Q (s.state x)
  moved_back l mark (Lays j) x other now = put_back j.to Underway tt x now
  moved_back l mark (Gives_up j) x other now = put_back j.to Dead tt x now
  moved_back l mark (Seals j) x other now = sealed_back j (s.state j.from) x now
  moved_back l mark (Starts j) x other now = started_back j x (other j refl) now
  moved_back l mark (Forwards j) x other now = forwarded_back j (s.state j.from) x now
  moved_back l mark (Widens j f w) x other now = field_back j.from f (widen_event w (s.status j.from f)) x now
  moved_back l mark (Finishes j f w) x other now = field_back j.from f (finish_event w (s.status j.from f)) x now
  moved_back l mark (Marks j f w) x other now = field_back j.from f (mark_event mark w (s.word j.from f)) x now
  moved_back l mark m x other now = now

-- nothing is on its way by a mark
put_rests : (x : State) → IsPut x → IsMoving x → ⊥
put_rests (Moving to) put moving = put
put_rests x put moving = moving

-- and something is there
put_there : (x : State) → IsPut x → x ≡ Absent → ⊥
put_there Absent put e = put
put_there x put e = cc e

-- a mark fits a word
mark_fits : (mark : ℕ) → mark < NUMBER_LIMIT → (w : FieldWord) → mark_in mark ≡ Some w → IsFieldWord w
mark_fits mark fits w is = by (mark == 0) is
  where
    by : (none : Bool) → (if none then None else Some (Num mark)) ≡ Some w → IsFieldWord w
    by true e = absurd (cc e)
    by false e = let same : Num mark ≡ w = cc e in subst IsFieldWord same fits

-- ---- the step

module _ {R W E M : Type 0} (kit : Kit R W E M) (by : Stepping R W E M) (laws : Laws kit by) (l : Sizes) (words : List ℕ) (plan : Planned) (s : Space) (n : Notices) (counts : Awaited) (sealed : List Sealed) (st : Stage) (job : MoveJob) (next : ℕ) (m : M)
    (stands : CollectorStands kit by l words plan s n counts sealed (collector.Move st job next m)) where
  abbrev pub k : CollectorMachine M
  k = collector.Move st job next m

  abbrev pub c : Cycle
  c = cycle_of k

  abbrev pub C : Carried
  C = kit.moves m

  pub is : IsMover kit l c s job m
  is = stands.jobs.mover

  pub its : IsPlannedJob kit.kind job
  its = all_in (IsPlannedJob kit.kind) plan.jobs job stands.planned.jobs stands.collects.1

  -- ---- the words

  pub same_job : (i : MoveJob) → job_of C ≡ Some i → i ≡ job
  same_job i e = let both : Some i ≡ Some job = sym e ∙ is.job in cc both

  -- before its copy is there the words of its fields are in the original
  statuses : (i : MoveJob) → C ≡ Lays i → (f : ℕ) → f < job.len → s.status job.from f ≡ InOriginal
  statuses i e f less =
      let still : IsStill (s.state job.from) = laws.table.moves.still c i (here s job.from 0) (subst (λ x. (let P = kit.protocol in P.MoveHead c x (here s job.from 0))) e is.move.head) in
      let shape = stands.objects.shape job.from f (home_live (s.state job.from) is.move.live) (subst (λ len. f < len) (sym is.move.len) less) in
      laws.cycle.narrow c (s.birth job.from) f (here s job.from f) (copy_word s job.from f) shape still

  can_lay : (i : MoveJob) → C ≡ Lays i → CanLay l (reading words) s job
  can_lay i e = let unmoved = (is.lays i e).0 in record {
    region = let low = is.pool in omega (arith, low);
    taken = λ free. (let gone : regions.Target ≡ regions.Free = sym (is.lays i e).1 ∙ free in cc gone);
    last = (is.lays i e).2;
    room = unmoved.room;
    wide = λ some. wide_ready l (reading words) s job stands.spare (unmoved.wide some) unmoved.wideless (λ a has other. inr (unmoved.above some a (λ none. has (stands.bare a none)) has)) unmoved.address (statuses i e);
  }

  pub at : StandsRight l kit.kind c.mark (reading words) s C
  at i e =
      let same = same_job i e in
      subst (λ j. IsMoverAt l kit.kind c.mark (reading words) s C j) (sym same)
      (mover_at kit.protocol kit.kind laws.table.moves laws.movable l (reading words) c s stands.objects (λ w is. mark_fits (mark_word st) (last_fits st.marks.candidates) w is) C job is.job is.move its.wide can_lay)

  abbrev pub step : Step
  step = by.move_asks m

  pub move_inside : IsInside (words_of l) step
  move_inside = mover_inside kit by laws c.mark m is.own l (reading words) s n stands.rows stands.says at

  pub goes_on : step ≢ Ended
  goes_on e = let gone : None ≡ Some job = sym (ap job_of (ended_idles kit by laws c.mark m is.own e)) ∙ is.job in cc gone

  abbrev pub found : ℕ
  found = slice_index words (place_of step)

  abbrev pub t : Space
  t = space_moved l c.mark s C

  pub moved_says : Says l (reading (applied step words)) t n
  moved_says = mover_says kit by laws c.mark m is.own l (reading words) s n stands.rows stands.says at (reading (applied step words)) stands.layout
      (applied-puts step words goes_on (subst (λ len. IsInside len step) (sym stands.width) move_inside))

  pub moved_rows : Rows l t.state t.len t.ends t.region
  moved_rows = rows_moved l (reading words) s n stands.rows stands.says kit.kind c.mark C at

  pub moved_heads : (a : ℕ) → Stays kit.kind s t a
  moved_heads = header_moved l (reading words) s n stands.rows stands.says kit.kind c.mark C at

  -- ---- the objects

  abbrev pub C_then : Carried
  C_then = mover_after kit.protocol s C job

  pub moves : MovesTo kit.protocol c s t C_then job
  moves = move_step kit.protocol laws.table l c s stands.objects stands.lens C job is.job is.move

  pub then_is : kit.moves (by.move_fed m found) ≡ C_then
  then_is = (mover_goes kit by laws c.mark m is.own l (reading words) s n stands.rows stands.says at job is.job).0

  pub then_own : kit.MovesFor c.mark (by.move_fed m found)
  then_own = (mover_goes kit by laws c.mark m is.own l (reading words) s n stands.rows stands.says at job is.job).1

  -- of what is not the object of the job
  not_started : (a : ℕ) → a ≢ job.from → (j : MoveJob) → C ≡ Starts j → a ≢ j.from
  not_started a other j e same = other (same ∙ ap (λ (i : MoveJob). i.from) (same_job j (ap job_of e)))

  -- only the object of the job is on its way by a mark
  pub moved_resting : (a : ℕ) → IsMoving (t.state a) → a ≡ job.from
  moved_resting a moving = elim (cases_eq a job.from) [
    | inl here ↦ here
    | inr other ↦ stands.resting a (moved_back s IsMoving put_rests l c.mark C a (not_started a other) moving)
  ]

  -- ---- wide objects

  narrow_by : (y : Carried) → C ≡ y → IsNarrow s y
  narrow_by (Lays i) e =
      let unmoved = (is.lays i e).0 in
      let same = same_job i (ap job_of e) in
      let absent : s.state job.to ≡ Absent = subst (λ (y : Carried). CopyAt s y job) e is.move.copy in
      (ap (λ (j : MoveJob). s.wide j.from) same ∙ unmoved.wideless, ap (λ (j : MoveJob). s.wide j.to) same ∙ stands.bare job.to absent)
  narrow_by y e = tt

  pub moved_spare : IsSpare l (reading (applied step words)) t
  moved_spare = spare_moved l s stands.rows (reading words) (reading (applied step words)) n stands.says kit.kind c.mark stands.spare C at (narrow_by C refl)
      (subst (λ (asked : Step). Put (reading words) (reading (applied step words)) (place_of asked) (put_by asked (reading words (place_of asked)))) (laws.moving.asks_alike c.mark m is.own)
      (applied-puts step words goes_on (subst (λ len. IsInside len step) (sym stands.width) move_inside)))

  bare_by : (y : Carried) → C ≡ y → (a : ℕ) → s.state a ≡ Absent → (space_moved l c.mark s y).wide a ≡ 0
  bare_by (Lays i) e a none =
      let same = same_job i (ap job_of e) in
      let other : a ≢ i.from = λ here. home_there (s.state job.from) is.move.live (ap s.state (ap (λ (j : MoveJob). j.from) (sym same) ∙ sym here) ∙ none) in
      set_else (set s.wide i.to 0) i.from a i.wide other ∙ elim (set_cases s.wide i.to a 0) [ inl q ↦ q.1 | inr q ↦ q.1 ∙ stands.bare a none ]
  bare_by y e a none = ap (λ (g : ℕ → ℕ). g a) (alike_moved l c.mark s y (λ i q. cc q)).2 ∙ stands.bare a none

  pub moved_bare : (a : ℕ) → t.state a ≡ Absent → t.wide a ≡ 0
  moved_bare a none = elim (cases_eq a job.from) [
    | inl here ↦ absurd (live_there (t.state job.from) (moves.seen.live job.from (home_live (s.state job.from) is.move.live)) (ap t.state (sym here) ∙ none))
    | inr other ↦ bare_by C refl a (moved_back s (λ x. x ≡ Absent) put_there l c.mark C a (not_started a other) none)
  ]

  pub moved_regions : (region : ℕ) → l.pool ≤ region → SameRegion s t region
  moved_regions region own = record {
    word = moved_region l c.mark s C region;
    ends = moved_ends l c.mark s C job region is.job (λ e. (let low = is.pool in omega (arith, e, own, low)));
  }

  -- no object is where the copy is to be, or the copy is under way
  pub under : IsLive (s.state job.to) → ⊥
  under = under_by C refl is.move.copy where
    under_by : (y : Carried) → C ≡ y → CopyAt s y job → IsLive (s.state job.to) → ⊥
    under_by (Looks i) e copy live =
        let P = kit.protocol in
        laws.movable.looks its.moves c i (here s job.from 0) (subst (λ y. P.MoveHead c y (here s job.from 0)) e is.move.head)
    under_by (Lays i) e copy live = subst IsLive copy live
    under_by y e copy live = subst IsLive copy.copy.state live

  -- ---- how it goes on

  -- a mover that ends has not left the object on its way
  settles : (y : Carried) → C ≡ y → MayEnd y (s.state job.from) → IsMoving ((space_moved l c.mark s y).state job.from) → ⊥
  settles (Looks i) e may moving =
      let P = kit.protocol in
      laws.movable.looks its.moves c i (here s job.from 0) (subst (λ y. P.MoveHead c y (here s job.from 0)) e is.move.head)
  settles (Gives_up i) e may moving =
      let P = kit.protocol in
      let kept : s.state job.from ≡ Kept = laws.table.moves.gives_up c i (here s job.from 0) (subst (λ y. P.MoveHead c y (here s job.from 0)) e is.move.head) in
      subst IsMoving kept (put_back s IsMoving put_rests i.to Dead tt job.from moving)
  settles (Forwards i) e may moving = gone_by (s.state job.from) refl (subst (λ j. IsMoving ((forward_by s j (s.state j.from)).state job.from)) (same_job i (ap job_of e)) moving) where
    at_forward : (seal : Option (List Call)) → IsMoving ((forward s job seal).state job.from) → ⊥
    at_forward seal moving = subst IsMoving (set_here (set s.state job.to Plain) job.from (Forward job.to)) moving

    gone_by : (x : State) → s.state job.from ≡ x → IsMoving ((forward_by s job x).state job.from) → ⊥
    gone_by Tagged e moving = at_forward (Some s.history) moving
    gone_by (Wide w) e moving = at_forward (s.seal job.from) moving
    gone_by (Moving t) e moving = at_forward (s.seal job.from) moving
    gone_by x e moving = subst IsMoving e moving
  settles y e may moving = may

  pub settled_then : job_of C_then ≡ None → (a : ℕ) → IsMoving (t.state a) → ⊥
  settled_then none a moving = settles C refl (laws.table.moves.ends c C job (here s job.from (field_of C)) is.job at_its none) (subst (λ b. IsMoving (t.state b)) (moved_resting a moving) moving)
    where
      at_its : (let P = kit.protocol in P.MoveHead c C (here s job.from (field_of C)))
      at_its = laws.table.moves.heads c C (here s job.from 0) (here s job.from (field_of C)) (record { state = refl; len = refl; to = refl; wide = refl; address = refl; seal = refl }) is.move.head

  -- the mover has ended exactly where it has no job
  pub ends_as : (x : Option MoveEnd) → kit.move_ended (by.move_fed m found) ≡ x → (job_of C_then ≡ None) ⊎ ((x ≡ None) × IsMove kit.protocol c t C_then job × (job_of C_then ≡ Some job))
  ends_as x e = by_job (job_of C_then) refl where
    said : (y : Carried) (i : MoveJob) (kept : Option ℕ) → job_of y ≡ Some i → move_said y kept ≡ None
    said Idles i kept e = absurd (let gone : None ≡ Some i = e in cc gone)
    said y i kept e = refl

    by_job : (o : Option MoveJob) → job_of C_then ≡ o → (job_of C_then ≡ None) ⊎ ((x ≡ None) × IsMove kit.protocol c t C_then job × (job_of C_then ≡ Some job))
    by_job None none = inl none
    by_job (Some i) some =
        let on = moves.move i some in
        let tells : kit.move_ended (by.move_fed m found) ≡ move_said C_then (kit.keeps (by.move_fed m found)) = laws.moving.tells (by.move_fed m found) ∙ ap (λ y. move_said y (kit.keeps (by.move_fed m found))) then_is in
        inr (sym e ∙ (tells ∙ said C_then i (kit.keeps (by.move_fed m found)) some), subst (IsMove kit.protocol c t C_then) on.0 on.1, some ∙ ap Some on.0)

  pub idle_ends : job_of C_then ≡ None → (end : MoveEnd) × (kit.move_ended (by.move_fed m found) ≡ Some end)
  idle_ends none = by_carried C_then none tells where
    tells : kit.move_ended (by.move_fed m found) ≡ move_said C_then (kit.keeps (by.move_fed m found))
    tells = laws.moving.tells (by.move_fed m found) ∙ ap (λ y. move_said y (kit.keeps (by.move_fed m found))) then_is

    by_carried : (y : Carried) → job_of y ≡ None → kit.move_ended (by.move_fed m found) ≡ move_said y (kit.keeps (by.move_fed m found)) → (end : MoveEnd) × (kit.move_ended (by.move_fed m found) ≡ Some end)
    by_carried Idles none said = (end_by (kit.keeps (by.move_fed m found)), said)
    by_carried y none said = absurd cc
