-- The collector takes a step of a move.
use Rattle.std.specs.Prelude.{drop, if◌then◌else◌}
use Rattle.std.specs.List.{All, slice_get}
use Rattle.std.proofs.Common.{inl, inr, ◌≡◌, ◌≢◌, ◌⊎◌, ℕ, List, ◌++◌, Option, Some, None, false, true, refl, sym, ap, ◌∙◌, subst, length, arith, ◌+◌, ◌≤◌}
use Rattle.std.proofs.lemmas.Bool.{cases_eq}
use Rattle.handshakes.specs.PhaseWords.{retired_word}
use Rattle.barriers.specs.Stances.{Fix as Fix_stance, stance_at}
use Rattle.lawful_records.specs.Fixing.{fixed_at, is_fixed, fixed_passes, FixStands, IsAside, IsObjectOf, AreJobsAside}
use Rattle.lawful_records.specs.Records.{number_of, acked_of, mark_of}
use Rattle.lawful_records.proofs.collecting.Shaken.{answered_all}
use Rattle.lawful_records.proofs.collecting.Stages.{stance_word, before_said}
use Rattle.lawful_records.proofs.fixing.MoveAside.{aside_back, aside_settled, copy_settled, before_stance}
use Rattle.lawful_records.proofs.fixing.Objects.{next_objects}
use Rattle.lawful_records.proofs.fixing.Turns.{unfixed_passes}
use Rattle.call_steps.specs.declared.step.Step.{Step}
use Rattle.call_steps.specs.Steps.{place_of}
use Rattle.call_steps.specs.StepLaws.{reading}
use Rattle.heap_words.specs.Layouts.{Sizes}
use Rattle.handshakes.specs.Handshakes.{Announced}
use Rattle.object_headers.specs.Changes.{is_clover}
use Rattle.space_reclaim.specs.declared.move_job.MoveJob.{MoveJob}
use Rattle.space_reclaim.specs.Plans.{Planned}
use Rattle.barriers.specs.declared.ends.MoveEnd.{MoveEnd}
use Rattle.barriers.specs.Cycles.{Cycle, IsMoving}
use Rattle.barriers.specs.MoveSteps.{move_step}
use Rattle.barriers.specs.MoveTurns.{MovesTo}
use Rattle.barriers.specs.Spaces.{Space, here}
use Rattle.barriers.specs.Says.{Notices}
use Rattle.barriers.specs.Rows.{Rows}
use Rattle.barriers.specs.Objects.{AreObjects, IsMove}
use Rattle.barriers.specs.Moves.{Carried, Looks, Lays, Gives_up, job_of, field_of}
use Rattle.barriers.specs.ProtocolLaws.{MayEnd}
use Rattle.barriers.specs.States.{Kept}
use Rattle.lawful_records.specs.declared.stage.Announcement.TheVariants.{Fix}
use Rattle.barriers.specs.Kits.{Kit, Stepping, Laws}
use Rattle.barriers.proofs.words.Headers.{home_live}
use Rattle.lawful_records.specs.declared.awaited.Awaited.{Awaited}
use Rattle.lawful_records.specs.declared.stage.Stage.{Stage}
use Rattle.lawful_records.specs.declared.collector.CollectorMachine.{CollectorMachine}
use Rattle.lawful_records.specs.declared.collector.CollectorMachine.TheVariants as collector
use Rattle.lawful_records.specs.declared.records.PassKnown.{PassKnown}
use Rattle.lawful_records.specs.declared.records.Sealed.{Sealed}
use Rattle.lawful_records.specs.Collectors.{stage_before, move_at, moved_by}
use Rattle.lawful_records.specs.Cycling.{announced_by, cycle_of}
use Rattle.lawful_records.specs.Jobs.{does_seal}
use Rattle.lawful_records.specs.JobStands.{stand_of, AreUnmoved, IsWaiting, IsTarget, IsMovedBy, IsMover, IsMoverOf, StandsAt}
use Rattle.lawful_records.specs.LawfulRecords.{AreSealed, IsPassRecord}
use Rattle.lawful_records.specs.Turns.{sealed_as}
use Rattle.lawful_records.proofs.frames.SeenTurns.{seen_by_others}
use Rattle.lawful_records.proofs.collecting.Goes.{CollectorStands, CollectorGoes, quiet_passes}
use Rattle.lawful_records.proofs.collecting.JobBegins.{forward_to, stand_move}
use Rattle.lawful_records.proofs.collecting.MoveRest.{rest_are_unmoved, rest_waiting, rest_targets, ends_other}
use Rattle.lawful_records.proofs.collecting.MoveWork.{its, found, t, C_then, under, moved_says, moved_rows, moved_spare, moved_bare, moved_heads, moves, then_is, then_own, moved_resting, settled_then, moved_regions, ends_as, idle_ends}
use Rattle.lawful_records.proofs.collecting.SealTurns.{seals_by}
use Rattle.lawful_records.proofs.collecting.WorkNow.{moves_now}
use Rattle.lawful_records.proofs.collecting.Works.{IsBefore, announced_is, cycle_is, drawn_is, none_sought, move_before}
use Rattle.lawful_records.specs.Counts.{unsealed}

module _ {R W E M : Type 0} (kit : Kit R W E M) (by : Stepping R W E M) (laws : Laws kit by) (l : Sizes) (words : List ℕ) (plan : Planned) (s : Space) (n : Notices) (counts : Awaited) (sealed : List Sealed) (st : Stage) (job : MoveJob) (next : ℕ) (m : M)
    (stands : CollectorStands kit by l words plan s n counts sealed (collector.Move st job next m)) where
  abbrev moving : CollectorMachine M
  moving = collector.Move st job next m

  abbrev moves_of : IsMoverOf kit l (cycle_of moving) s job (drop next plan.jobs) m
  moves_of = stands.jobs

  abbrev mover : IsMover kit l (cycle_of moving) s job m
  mover = moves_of.mover

  abbrev space : Space
  space = t kit by laws l words plan s n counts sealed st job next m stands

  abbrev after : M
  after = by.move_fed m (found kit by laws l words plan s n counts sealed st job next m stands)

  abbrev carried : Carried
  carried = C_then kit by laws l words plan s n counts sealed st job next m stands

  abbrev to : MovesTo kit.protocol (cycle_of moving) s space carried job
  to = moves kit by laws l words plan s n counts sealed st job next m stands

  rows_then : Rows l space.state space.len space.ends space.region
  rows_then = moved_rows kit by laws l words plan s n counts sealed st job next m stands

  -- ---- how it goes on

  -- whether the move has ended or not, the same is announced
  before : (x : Option MoveEnd) → IsBefore st (moved_by kit plan st job next after x)
  before None = refl
  before (Some end) = move_before kit plan st (slice_get plan.jobs next) next

  lays_not : (i : MoveJob) → kit.moves after ≡ Lays i → {A : Type 0} → A
  lays_not i e = absurd (laws.table.moves.begins (kit.moves m) _ i (sym (then_is kit by laws l words plan s n counts sealed st job next m stands) ∙ e))

  mover_on : IsMove kit.protocol (cycle_of moving) space carried job → job_of carried ≡ Some job → IsMover kit l (cycle_of moving) space job after
  mover_on move has =
      let same : kit.moves after ≡ carried = then_is kit by laws l words plan s n counts sealed st job next m stands in
      record {
        moves = mover.moves;
        pool = mover.pool;
        job = ap job_of same ∙ has;
        own = then_own kit by laws l words plan s n counts sealed st job next m stands;
        move = subst (λ y. IsMove kit.protocol (cycle_of moving) space y job) (sym same) move;
        lays = λ i e. lays_not i e;
      }

  -- ---- the jobs after it

  abbrev rest : List MoveJob
  rest = drop next plan.jobs

  rest_unmoved : AreUnmoved l space space.ends rest
  rest_unmoved = rest_are_unmoved l (cycle_of moving).mark s (kit.moves m) job mover.job stands.bare (under kit by laws l words plan s n counts sealed st job next m stands) (home_live (s.state job.from) mover.move.live) mover.move.len to.others rest moves_of.after moves_of.unmoved

  waiting_then : All (IsWaiting (is_clover kit.kind) space) rest
  waiting_then = rest_waiting l (cycle_of moving).mark s (kit.moves m) job mover.job stands.bare (under kit by laws l words plan s n counts sealed st job next m stands) (home_live (s.state job.from) mover.move.live) mover.move.len to.others rest moves_of.after moves_of.unmoved (is_clover kit.kind) moves_of.waiting

  targets_then : All (IsTarget l space) rest
  targets_then = rest_targets l (cycle_of moving).mark s (kit.moves m) job mover.job stands.bare (under kit by laws l words plan s n counts sealed st job next m stands) (home_live (s.state job.from) mover.move.live) mover.move.len to.others rest moves_of.after moves_of.unmoved moves_of.targets

  on_with : IsMover kit l (cycle_of moving) space job after → IsMoverOf kit l (cycle_of moving) space job rest after
  on_with mover_then = record {
    mover = mover_then;
    unmoved = subst (λ (ends : ℕ → ℕ). AreUnmoved l space ends rest) (sym (ends_other l (kit.moves after) space.ends (λ i e. lays_not i e))) rest_unmoved;
    waiting = waiting_then;
    targets = targets_then;
    after = moves_of.after;
  }

  abbrev Stood : CollectorMachine M → Type 0
  Stood q = StandsAt kit l (cycle_of q) space (stand_of plan q)

  -- the next move begins, or Fix is announced
  next_stands : Stood (move_at kit (slice_get plan.jobs next) st next)
  next_stands = stand_move kit by laws l stands.layout plan stands.planned space rows_then (forward_to kit.protocol (cycle_of moving) space to.objects) (slice_get plan.jobs next) st next refl
      (moves_now kit.kind l stands.cycles st stands.collects.0.stage stands.collects.0.next_is stands.collects.0.clear) rest_unmoved waiting_then targets_then

  ended_stands : (x : Option MoveEnd) → (x ≡ None → IsMover kit l (cycle_of moving) space job after) → Stood (moved_by kit plan st job next after x)
  ended_stands None on = on_with (on refl)
  ended_stands (Some end) on = next_stands

  stands_then : (x : Option MoveEnd) → kit.move_ended after ≡ x → Stood (moved_by kit plan st job next after x)
  stands_then x e = ended_stands x (λ none. elim (ends_as kit by laws l words plan s n counts sealed st job next m stands x e) [
    | inl idle ↦
        let end = idle_ends kit by laws l words plan s n counts sealed st job next m stands idle in
        absurd (let gone : None ≡ Some end.0 = sym none ∙ (sym e ∙ end.1) in cc gone)
    | inr on ↦ mover_on on.1 on.2
  ])

  -- the object is on its way by a mark no longer than the move
  resting_then : (x : Option MoveEnd) → kit.move_ended after ≡ x → (a : ℕ) → IsMoving (space.state a) → IsMovedBy (moved_by kit plan st job next after x) a
  resting_then None e a moving = moved_resting kit by laws l words plan s n counts sealed st job next m stands a moving
  resting_then (Some end) e a moving = elim (ends_as kit by laws l words plan s n counts sealed st job next m stands (Some end) e) [
    | inl idle ↦ absurd (settled_then kit by laws l words plan s n counts sealed st job next m stands idle a moving)
    | inr on ↦ absurd (cc on.0)
  ]

  -- ---- what is fixed

  fix : st.announcement ≡ Fix
  fix = stands.collects.0.next_is

  next_unfixed : (o : Option MoveJob) → is_fixed (move_at kit o st next) ≡ false
  next_unfixed None = ap fixed_at fix
  next_unfixed (Some j) = refl

  unfixed : (x : Option MoveEnd) → is_fixed (moved_by kit plan st job next after x) ≡ false
  unfixed None = refl
  unfixed (Some end) = next_unfixed (slice_get plan.jobs next)

  next_none : (o : Option MoveJob) → fixed_passes (move_at kit o st next) ≡ 0
  next_none None = refl
  next_none (Some j) = refl

  none_fixed : (x : Option MoveEnd) → fixed_passes (moved_by kit plan st job next after x) ≡ 0
  none_fixed None = refl
  none_fixed (Some end) = next_none (slice_get plan.jobs next)

  next_stands_fixed : (o : Option MoveJob) → FixStands (move_at kit o st next) space n
  next_stands_fixed None = λ e. absurd (let gone : false ≡ true = sym (ap fixed_at fix) ∙ e in cc gone)
  next_stands_fixed (Some j) = λ e. absurd (let gone : false ≡ true = e in cc gone)

  unfixed_stands : (x : Option MoveEnd) → FixStands (moved_by kit plan st job next after x) space n
  unfixed_stands None = λ e. absurd (let gone : false ≡ true = e in cc gone)
  unfixed_stands (Some end) = next_stands_fixed (slice_get plan.jobs next)

  -- no pass has acknowledged Fix
  announced_stance : stance_at n.phase ≢ Fix_stance
  announced_stance at_fix = before_stance st.announcement st fix (sym (stance_word (stage_before st) (before_said l kit.kind stands.cycles stands.few st stands.collects.0.stage)) ∙ (ap stance_at (sym stands.announced) ∙ at_fix))

  pass_stance : (p : PassKnown R W E) → IsPassRecord kit l (announced_by moving) (cycle_of moving) s n p → acked_of p ≢ retired_word → stance_at (acked_of p) ≢ Fix_stance
  pass_stance p own runs at_fix =
      let passes : st.layout.passes ≡ l.passes = ap (λ (x : Sizes). x.passes) stands.collects.0.stage.layout in
      let same = (answered_all l (announced_by moving) (number_of p) (acked_of p) (mark_of p) own.number (omega (arith, passes)) own.answering.marked runs).0 in
      announced_stance (ap stance_at (stands.announced ∙ sym same) ∙ at_fix)

  -- the object is on its way no longer than the move
  aside_moving : (a : ℕ) → IsAside (space.state a) → (a ≡ job.from) ⊎ ((a ≡ job.to) ⊎ IsObjectOf rest a)
  aside_moving a aside = elim (cases_eq a job.from) [
    | inl at_from ↦ inl at_from
    | inr apart ↦ elim (cases_eq a job.to) [
      | inl at_to ↦ inr (inl at_to)
      | inr other ↦ stands.fixed.aside a (aside_back s l (cycle_of moving).mark (kit.moves m) a (λ j e.
          let same : j ≡ job = (let both : Some j ≡ Some job = sym e ∙ mover.job in cc both) in
          (λ from. apart (from ∙ ap (λ (i : MoveJob). i.from) same), λ to. other (to ∙ ap (λ (i : MoveJob). i.to) same))) aside)
    ]
  ]

  ends_at : job_of carried ≡ None → MayEnd (kit.moves m) (s.state job.from)
  ends_at none =
      let at_its = laws.table.moves.heads (cycle_of moving) (kit.moves m) (here s job.from 0) (here s job.from (field_of (kit.moves m))) (record { state = refl; len = refl; to = refl; wide = refl; address = refl; seal = refl }) mover.move.head in
      laws.table.moves.ends (cycle_of moving) (kit.moves m) job (here s job.from (field_of (kit.moves m))) mover.job at_its none

  looks_not : (i : MoveJob) → kit.moves m ≡ Looks i → ⊥
  looks_not i e = laws.movable.looks mover.moves (cycle_of moving) i (here s job.from 0) (subst (λ y. (let P = kit.protocol in P.MoveHead (cycle_of moving) y (here s job.from 0))) e mover.move.head)

  gives_kept : (i : MoveJob) → kit.moves m ≡ Gives_up i → s.state job.from ≡ Kept
  gives_kept i e = laws.table.moves.gives_up (cycle_of moving) i (here s job.from 0) (subst (λ y. (let P = kit.protocol in P.MoveHead (cycle_of moving) y (here s job.from 0))) e mover.move.head)

  settled_aside : job_of carried ≡ None → (a : ℕ) → IsAside (space.state a) → IsObjectOf rest a
  settled_aside none a aside = elim (aside_moving a aside) [
    | inl at_from ↦ absurd (aside_settled s l (cycle_of moving).mark (kit.moves m) job mover.job (ends_at none) looks_not gives_kept (subst (λ b. IsAside (space.state b)) at_from aside))
    | inr more ↦ elim more [
      | inl at_to ↦ absurd (copy_settled s l (cycle_of moving).mark (kit.moves m) job mover.job (ends_at none) looks_not (subst (λ b. IsAside (space.state b)) at_to aside))
      | inr later ↦ later
    ]
  ]

  aside_then : (x : Option MoveEnd) → kit.move_ended after ≡ x → AreJobsAside plan (moved_by kit plan st job next after x) space
  aside_then None e a aside = aside_moving a aside
  aside_then (Some end) e a aside = elim (ends_as kit by laws l words plan s n counts sealed st job next m stands (Some end) e) [
    | inl idle ↦ next_objects kit plan st next (slice_get plan.jobs next) refl a (settled_aside idle a aside)
    | inr on ↦ absurd (cc on.0)
  ]

  -- ---- the seals

  abbrev now : Step → List Sealed
  now step = sealed_as (if does_seal job.from step (reading words (place_of step)) then Some job else None) s.history

  abbrev SealsIn : Step → Type 0
  SealsIn step = AreSealed space (sealed ++ now step) × (length (now step) + unsealed (space.seal job.from) ≤ unsealed (s.seal job.from))

  move_seals : SealsIn (move_step kit.kind (cycle_of moving).mark (kit.moves m))
  move_seals =
      let is = seals_by kit.protocol kit.kind laws.movable l (reading words) (cycle_of moving) s n stands.rows stands.says stands.objects job
      (let job = its kit by laws l words plan s n counts sealed st job next m stands in job.wide)
      sealed stands.sealed_are carried (kit.moves m) mover.job mover.move to rows_then in
      (is.are_then, is.counts)

  -- its step, by what is known of it
  asks : by.move_asks m ≡ move_step kit.kind (cycle_of moving).mark (kit.moves m)
  asks = laws.moving.asks_alike (cycle_of moving).mark m mover.own

  sealed_then : SealsIn (by.move_asks m)
  sealed_then = subst SealsIn (sym asks) move_seals

  quiet : (p : PassKnown R W E) → IsPassRecord kit l (announced_by moving) (cycle_of moving) s n p → IsPassRecord kit l (announced_by moving) (cycle_of moving) space n p
  quiet = quiet_passes kit by l words moving s space n (seen_by_others kit.protocol laws.table (cycle_of moving) s space stands.objects to.seen) (moved_regions kit by laws l words plan s n counts sealed st job next m stands) to.history

  abbrev x : Option MoveEnd
  x = kit.move_ended after

  abbrev on : CollectorMachine M
  on = moved_by kit plan st job next after x

  pub move_goes : CollectorGoes kit by l words plan s n sealed moving
  move_goes = record {
    space = space;
    notices = n;
    says = moved_says kit by laws l words plan s n counts sealed st job next m stands;
    announced = stands.announced ∙ sym (ap (λ (a : Announced). a.word) (announced_is st on (before x)));
    drawn = stands.drawn ∙ sym (drawn_is st on (before x));
    spare = moved_spare kit by laws l words plan s n counts sealed st job next m stands;
    rows = rows_then;
    bare = moved_bare kit by laws l words plan s n counts sealed st job next m stands;
    objects = subst (λ (d : Cycle). AreObjects kit.protocol d space) (sym (cycle_is st on (before x))) to.objects;
    lens = to.lens;
    resting = resting_then x refl;
    history = to.history;
    passes = λ p own. subst (λ (a : Announced). IsPassRecord kit l a (cycle_of on) space n p) (sym (announced_is st on (before x))) (subst (λ (d : Cycle). IsPassRecord kit l (announced_by moving) d space n p) (sym (cycle_is st on (before x))) (quiet p own));
    jobs = stands_then x refl;
    search = none_sought st l (cycle_of on) space on (before x);
    sealed_are = sealed_then.0;
    seals = sealed_then.1;
    fixed = record {
      own = record { aside = aside_then x refl; stands = unfixed_stands x };
      passes = λ p own is. unfixed_passes kit l moving on s space n (unfixed x) (none_fixed x) announced_stance p (pass_stance p own) own is;
    };
    heads = moved_heads kit by laws l words plan s n counts sealed st job next m stands;
  }
