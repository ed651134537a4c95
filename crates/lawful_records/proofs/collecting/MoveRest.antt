-- What a step of the mover leaves of the jobs after its own.
use Rattle.std.specs.Prelude.{◌≢◌, ◌⊎◌, ◌<◌}
use Rattle.std.specs.List.{All}
use Rattle.std.proofs.Common.{inl, inr, ◌≡◌, ℕ, ◌+◌, Bool, true, false, List, get_or, Option, Some, refl, sym, ap, ◌∙◌, subst, arith}
use Rattle.heap_words.specs.Layouts.{Sizes}
use Rattle.heap_words.specs.declared.field_word.FieldWord.{FieldWord}
use Rattle.object_headers.specs.declared.header.Colour.{Colour}
use Rattle.object_headers.specs.declared.header.State.TheVariants as states
use Rattle.object_headers.specs.Headers.{word_of_header}
use Rattle.space_reclaim.specs.declared.move_job.MoveJob.{MoveJob}
use Rattle.barriers.specs.CycleLaws.{IsTaggedOrKept}
use Rattle.barriers.specs.Events.{Event, Widen, Take, Mark, IsStill}
use Rattle.barriers.specs.Moves.{Carried, Idles, Looks, Lays, Points, Gives_up, Seals, Starts, Forwards, Takes_up, Asks, Widens, Finishes, Marks, Puts, job_of, widen_event, finish_event, mark_event}
use Rattle.barriers.specs.MoveSteps.{forward, seal_wide, forward_by, field_by, space_moved}
use Rattle.barriers.specs.MoveTurns.{IsSame}
use Rattle.barriers.specs.Objects.{planned_header}
use Rattle.barriers.specs.Sets.{set}
use Rattle.barriers.specs.Spaces.{Space}
use Rattle.barriers.specs.States.{State, Absent, Plain, Tagged, Wide, Moving, Underway, Dead, Forward, IsLive}
use Rattle.barriers.proofs.objects.MoveTurns.{moved_region}
use Rattle.barriers.proofs.words.MoveFrames.{alike_moved}
use Rattle.barriers.proofs.words.Sets.{set_cases, set_else}
use Rattle.lawful_records.specs.Collectors.{target_of}
use Rattle.lawful_records.specs.JobStands.{IsUnmoved, IsAfter, AreLaid, AreUnmoved, IsWaiting, IsTarget, ends_by}
use Rattle.lawful_records.proofs.frames.JobStays.{still_live}

-- ---- what steps leave alone

-- where the objects of regions end, and addresses in wide objects
abbrev IsKept : Space → Space → Type 0
IsKept s t = (t.ends ≡ s.ends) × (t.address ≡ s.address)

kept_sealed : (s : Space) (j : MoveJob) (x : State) → IsKept s (seal_wide s j x)
kept_sealed s j Tagged = (refl, refl)
kept_sealed s j x = (refl, refl)

kept_forwarded : (s : Space) (j : MoveJob) (x : State) → IsKept s (forward_by s j x)
kept_forwarded s j Tagged = (refl, refl)
kept_forwarded s j (Wide w) = (refl, refl)
kept_forwarded s j (Moving t) = (refl, refl)
kept_forwarded s j x = (refl, refl)

kept_field : (s : Space) (a f : ℕ) (e : Event) → IsKept s (field_by s a f e)
kept_field s a f (Widen w) = (refl, refl)
kept_field s a f (Take w) = (refl, refl)
kept_field s a f (Mark w) = (refl, refl)
kept_field s a f e = (refl, refl)

module _ (l : Sizes) (mark : Option FieldWord) (s : Space) where
  -- only the store of the copy's header adds to a region
  moved_ends_same : (m : Carried) → ((i : MoveJob) → m ≢ Lays i) → (space_moved l mark s m).ends ≡ s.ends
  moved_ends_same (Lays i) other = absurd (other i refl)
  moved_ends_same (Seals i) other = (kept_sealed s i (s.state i.from)).0
  moved_ends_same (Forwards i) other = (kept_forwarded s i (s.state i.from)).0
  moved_ends_same (Widens i f w) other = (kept_field s i.from f (widen_event w (s.status i.from f))).0
  moved_ends_same (Finishes i f w) other = (kept_field s i.from f (finish_event w (s.status i.from f))).0
  moved_ends_same (Marks i f w) other = (kept_field s i.from f (mark_event mark w (s.word i.from f))).0
  moved_ends_same m other = refl

  -- so the next job finds it after its step as it was said before it
  pub moved_ends_by : (m : Carried) → (space_moved l mark s m).ends ≡ ends_by l m s.ends
  moved_ends_by (Lays i) = refl
  moved_ends_by (Seals i) = moved_ends_same (Seals i) (λ j e. cc e)
  moved_ends_by (Forwards i) = moved_ends_same (Forwards i) (λ j e. cc e)
  moved_ends_by (Widens i f w) = moved_ends_same (Widens i f w) (λ j e. cc e)
  moved_ends_by (Finishes i f w) = moved_ends_same (Finishes i f w) (λ j e. cc e)
  moved_ends_by (Marks i f w) = moved_ends_same (Marks i f w) (λ j e. cc e)
  moved_ends_by m = refl

  address_at : (t : Space) (x : ℕ) → IsKept s t → t.address x ≡ s.address x
  address_at t x kept = ap (λ (g : ℕ → ℕ). g x) kept.1

  -- a header goes to Forward only of its own original
  put_other : (at : ℕ) (z : State) (a to : ℕ) → (z ≡ Forward to → ⊥) → set s.state at z a ≡ Forward to → s.state a ≡ Forward to
  put_other at z a to never now = elim (set_cases s.state at a z) [ inl q ↦ absurd (never (sym q.1 ∙ now)) | inr q ↦ sym q.1 ∙ now ]

  sealed_other : (i : MoveJob) (x : State) (a to : ℕ) → (seal_wide s i x).state a ≡ Forward to → s.state a ≡ Forward to
  sealed_other i Tagged a to now = put_other i.from (Wide i.wide) a to (λ e. cc e) now
  sealed_other i x a to now = now

  field_other : (at f : ℕ) (e : Event) (a to : ℕ) → (field_by s at f e).state a ≡ Forward to → s.state a ≡ Forward to
  field_other at f (Widen w) a to now = now
  field_other at f (Take w) a to now = now
  field_other at f (Mark w) a to now = now
  field_other at f e a to now = now

  forward_other : (i : MoveJob) (past : _) (a to : ℕ) → (forward s i past).state a ≡ Forward to → (s.state a ≡ Forward to) ⊎ (to ≡ i.to)
  forward_other i past a to now = elim (set_cases (set s.state i.to Plain) i.from a (Forward i.to)) [
    | inl q ↦ inr (let same : Forward i.to ≡ Forward to = sym q.1 ∙ now in cc same)
    | inr q ↦ inl (put_other i.to Plain a to (λ e. cc e) (sym q.1 ∙ now))
  ]

  forwarded_other : (i : MoveJob) (x : State) (a to : ℕ) → (forward_by s i x).state a ≡ Forward to → (s.state a ≡ Forward to) ⊎ (to ≡ i.to)
  forwarded_other i Tagged a to now = forward_other i (Some s.history) a to now
  forwarded_other i (Wide w) a to now = forward_other i (s.seal i.from) a to now
  forwarded_other i (Moving t) a to now = forward_other i (s.seal i.from) a to now
  forwarded_other i x a to now = inl now

  module _ (job : MoveJob) where
    its : (i : MoveJob) → Some i ≡ Some job → i ≡ job
    its i e = cc e

    forward_new : (m : Carried) → job_of m ≡ Some job → (a to : ℕ) → (space_moved l mark s m).state a ≡ Forward to → (s.state a ≡ Forward to) ⊎ (to ≡ job.to)
    forward_new (Lays i) e a to now = inl (put_other i.to Underway a to (λ e. cc e) now)
    forward_new (Gives_up i) e a to now = inl (put_other i.to Dead a to (λ e. cc e) now)
    forward_new (Seals i) e a to now = inl (sealed_other i (s.state i.from) a to now)
    forward_new (Starts i) e a to now = inl (put_other i.from (Moving i.to) a to (λ e. cc e) now)
    forward_new (Forwards i) e a to now = elim (forwarded_other i (s.state i.from) a to now) [ inl q ↦ inl q | inr q ↦ inr (q ∙ ap (λ (j : MoveJob). j.to) (its i e)) ]
    forward_new (Widens i f w) e a to now = inl (field_other i.from f (widen_event w (s.status i.from f)) a to now)
    forward_new (Finishes i f w) e a to now = inl (field_other i.from f (finish_event w (s.status i.from f)) a to now)
    forward_new (Marks i f w) e a to now = inl (field_other i.from f (mark_event mark w (s.word i.from f)) a to now)
    forward_new m e a to now = inl now

    address_same : (m : Carried) → job_of m ≡ Some job → (x : ℕ) → x ≢ job.from → (space_moved l mark s m).address x ≡ s.address x
    address_same (Points i) e x other = set_else s.address i.from x i.to (λ same. other (same ∙ ap (λ (j : MoveJob). j.from) (its i e)))
    address_same (Seals i) e x other = address_at (seal_wide s i (s.state i.from)) x (kept_sealed s i (s.state i.from))
    address_same (Forwards i) e x other = address_at (forward_by s i (s.state i.from)) x (kept_forwarded s i (s.state i.from))
    address_same (Widens i f w) e x other = address_at (field_by s i.from f (widen_event w (s.status i.from f))) x (kept_field s i.from f (widen_event w (s.status i.from f)))
    address_same (Finishes i f w) e x other = address_at (field_by s i.from f (finish_event w (s.status i.from f))) x (kept_field s i.from f (finish_event w (s.status i.from f)))
    address_same (Marks i f w) e x other = address_at (field_by s i.from f (mark_event mark w (s.word i.from f))) x (kept_field s i.from f (mark_event mark w (s.word i.from f)))
    address_same m e x other = refl

-- ---- the jobs after this one

module _ (l : Sizes) (mark : Option FieldWord) (s : Space) (m : Carried) (job : MoveJob) (has : job_of m ≡ Some job) (bare : (a : ℕ) → s.state a ≡ Absent → s.wide a ≡ 0) (under : IsLive (s.state job.to) → ⊥) (live : IsLive (s.state job.from)) (len : s.len job.from ≡ job.len)
    (others : (a : ℕ) → a ≢ job.from → a ≢ job.to → IsSame s (space_moved l mark s m) a) where
  abbrev t : Space
  t = space_moved l mark s m

  from_to : job.from ≢ job.to
  from_to same = under (subst (λ a. IsLive (s.state a)) same live)

  -- wide objects lie below those of later jobs
  module _ (k : MoveJob) (is : IsUnmoved l s k) (after : IsAfter job k) where
    same_above : (y : Carried) → ((i : MoveJob) → y ≢ Lays i) → k.wide ≢ 0 → (a : ℕ) → (space_moved l mark s y).wide a ≢ 0 → (space_moved l mark s y).wide a + (space_moved l mark s y).len a < k.wide
    same_above y other some a wide =
        let alike = alike_moved l mark s y other in
        let same_wide = ap (λ (g : ℕ → ℕ). g a) alike.2 in
        let same_len = ap (λ (g : ℕ → ℕ). g a) alike.1 in
        let had : s.wide a ≢ 0 = λ none. wide (same_wide ∙ none) in
        let below = is.above some a (λ none. had (bare a none)) had in
        omega (arith, below, same_wide, same_len)

    lay_above : (i : MoveJob) → i ≡ job → k.wide ≢ 0 → (a : ℕ) → (space_moved l mark s (Lays i)).wide a ≢ 0 → (space_moved l mark s (Lays i)).wide a + (space_moved l mark s (Lays i)).len a < k.wide
    lay_above i same some a wide = subst (λ (j : MoveJob). (space_moved l mark s (Lays j)).wide a ≢ 0 → (space_moved l mark s (Lays j)).wide a + (space_moved l mark s (Lays j)).len a < k.wide) (sym same) at_job wide
      where
        at_job : (space_moved l mark s (Lays job)).wide a ≢ 0 → (space_moved l mark s (Lays job)).wide a + (space_moved l mark s (Lays job)).len a < k.wide
        at_job wide = elim (set_cases (set s.wide job.to 0) job.from a job.wide) [
          | inl q ↦
              let size : set s.len job.to job.len a ≡ job.len = set_else s.len job.to a job.len (λ e. from_to (sym q.0 ∙ e)) ∙ (ap s.len q.0 ∙ len) in
              let below = after.wide some in
              omega (arith, q.1, size, below)
          | inr q ↦ elim (set_cases s.wide job.to a 0) [
            | inl r ↦ absurd (wide (q.1 ∙ r.1))
            | inr r ↦
                let had : s.wide a ≢ 0 = λ none. wide (q.1 ∙ (r.1 ∙ none)) in
                let size : set s.len job.to job.len a ≡ s.len a = set_else s.len job.to a job.len r.0 in
                let below = is.above some a (λ none. had (bare a none)) had in
                omega (arith, q.1, r.1, size, below)
          ]
        ]

    above_by : (y : Carried) → job_of y ≡ Some job → k.wide ≢ 0 → (a : ℕ) → (space_moved l mark s y).wide a ≢ 0 → (space_moved l mark s y).wide a + (space_moved l mark s y).len a < k.wide
    above_by (Lays i) e some a wide = lay_above i (its l mark s job i e) some a wide
    above_by (Seals i) e some a wide = same_above (Seals i) (λ j e. cc e) some a wide
    above_by (Forwards i) e some a wide = same_above (Forwards i) (λ j e. cc e) some a wide
    above_by (Widens i f w) e some a wide = same_above (Widens i f w) (λ j e. cc e) some a wide
    above_by (Finishes i f w) e some a wide = same_above (Finishes i f w) (λ j e. cc e) some a wide
    above_by (Marks i f w) e some a wide = same_above (Marks i f w) (λ j e. cc e) some a wide
    above_by Idles e some a wide = same_above Idles (λ j e. cc e) some a wide
    above_by (Looks i) e some a wide = same_above (Looks i) (λ j e. cc e) some a wide
    above_by (Points i) e some a wide = same_above (Points i) (λ j e. cc e) some a wide
    above_by (Gives_up i) e some a wide = same_above (Gives_up i) (λ j e. cc e) some a wide
    above_by (Starts i) e some a wide = same_above (Starts i) (λ j e. cc e) some a wide
    above_by (Takes_up i f) e some a wide = same_above (Takes_up i f) (λ j e. cc e) some a wide
    above_by (Asks i f) e some a wide = same_above (Asks i f) (λ j e. cc e) some a wide
    above_by (Puts i f w) e some a wide = same_above (Puts i f w) (λ j e. cc e) some a wide

    away : k.from ≢ job.from
    away same = after.other (sym same)

    away_to : k.from ≢ job.to
    away_to same = under (subst (λ a. IsLive (s.state a)) same (still_live (s.state k.from) is.still))

    pub rest_same : IsSame s t k.from
    rest_same = others k.from away away_to

    pub rest_unmoved : IsUnmoved l t k
    rest_unmoved =
        let head : planned_header t k ≡ planned_header s k = ap (λ (colour : Colour). record { state = states.Plain; colour = colour; len = k.len; birth = k.birth; target = 0 }) rest_same.body.colour in
        record {
          pool = is.pool;
          room = is.room;
          wide = is.wide;
          above = λ some a there wide. above_by m has some a wide;
          still = subst IsStill (sym rest_same.state) is.still;
          len = rest_same.body.len ∙ is.len;
          birth = rest_same.body.birth ∙ is.birth;
          header = is.header ∙ ap word_of_header (sym head);
          wideless = rest_same.body.wide ∙ is.wideless;
          address = address_same l mark s job m has k.from away ∙ is.address;
          apart = λ a to now. elim (forward_new l mark s job m has a to now) [
            | inl was ↦ is.apart a to was
            | inr gone ↦ λ same. away_to (sym same ∙ gone)
          ];
        }

  waiting_same : (clover : Bool) (k : MoveJob) → t.state k.from ≡ s.state k.from → IsWaiting clover s k → IsWaiting clover t k
  waiting_same true k same is = same ∙ is
  waiting_same false k same is = subst IsTaggedOrKept (sym same) is

  module _ (rest : List MoveJob) (after : All (IsAfter job) rest) (are : AreUnmoved l s (ends_by l m s.ends) rest) where
    pub rest_are_unmoved : AreUnmoved l t t.ends rest
    rest_are_unmoved = record {
      each = λ i d less. rest_unmoved (get_or rest i d) (are.each i d less) (after i d less);
      laid = subst (λ (ends : ℕ → ℕ). AreLaid l ends rest) (sym (moved_ends_by l mark s m)) are.laid;
      after = are.after;
    }

    pub rest_waiting : (clover : Bool) → All (IsWaiting clover s) rest → All (IsWaiting clover t) rest
    rest_waiting clover all i d less = waiting_same clover (get_or rest i d) (rest_same (get_or rest i d) (are.each i d less) (after i d less)).state (all i d less)

    pub rest_targets : All (IsTarget l s) rest → All (IsTarget l t) rest
    rest_targets all i d less = moved_region l mark s m (target_of l (get_or rest i d)) ∙ all i d less

-- a mover that is not about to store the copy's header lays nothing more
pub ends_other : (l : Sizes) (m : Carried) (ends : ℕ → ℕ) → ((i : MoveJob) → m ≢ Lays i) → ends_by l m ends ≡ ends
ends_other l (Lays i) ends other = absurd (other i refl)
ends_other l m ends other = refl
