-- The cycle's jobs stand where they do under the turns of passes.
use Rattle.std.specs.Prelude.{◌<◌, ◌≢◌, ◌⊎◌, take}
use Rattle.std.specs.List.{All}
use Rattle.std.proofs.Common.{◌≡◌, ℕ, ◌+◌, inl, inr, Bool, true, false, List, [], ◌∷◌, get_or, refl, sym, ap, ◌∙◌, subst, arith}
use Rattle.std.proofs.lemmas.List.Elements.{All-weaker, All-head, All-tail, All-take}
use Rattle.heap_words.specs.Layouts.{Sizes}
use Rattle.object_headers.specs.declared.header.Colour.{Colour}
use Rattle.object_headers.specs.declared.header.State.TheVariants as states
use Rattle.object_headers.specs.Changes.{is_clover}
use Rattle.object_headers.specs.Headers.{word_of_header}
use Rattle.space_reclaim.specs.declared.move_job.MoveJob.{MoveJob}
use Rattle.space_reclaim.specs.declared.region_word.RegionWord.{RegionWord}
use Rattle.barriers.specs.States.{State, Absent, Plain, Kept, Tagged, Forward, IsLive}
use Rattle.barriers.specs.Spaces.{Space}
use Rattle.barriers.specs.Rows.{region_of}
use Rattle.barriers.specs.Says.{put_region}
use Rattle.barriers.specs.Cycles.{Cycle}
use Rattle.barriers.specs.CycleLaws.{IsTaggedOrKept}
use Rattle.barriers.specs.Events.{IsStill}
use Rattle.barriers.specs.Objects.{IsLaid, IsMove, planned_header}
use Rattle.barriers.specs.Moves.{Carried, Lays}
use Rattle.barriers.specs.Kits.{Kit}
use Rattle.barriers.specs.Protocols.{Protocol}
use Rattle.barriers.proofs.objects.MoveStays.{copy_goes}
use Rattle.barriers.proofs.words.Sets.{set_cases, set_else}
use Rattle.lawful_records.specs.Frames.{Left, Same, Untagged, Born, Leaves, IsSameAt, IsSameHead}
use Rattle.lawful_records.specs.Collectors.{target_of}
use Rattle.lawful_records.specs.JobStands.{JobStand, Settled, Coming, Targeting, Tagging, Tagged as Tagged_jobs, Moved_by, IsUnmoved, ends_after, AreLaid, AreUnmoved, IsPlainAt, IsTaggedAt, IsWaiting, IsTarget, IsTargetOr, ends_by, IsMover, StandsAt}

-- ---- turns that change no object

pub head_same : (s : Space) (at : ℕ) → IsSameHead s s at
head_same s at = record { state = refl; seal = refl; wide = refl; head = λ there. (refl, refl, refl) }

pub leaves_same : (P : Protocol) (l : Sizes) (c : Cycle) (s : Space) → Leaves P l c s s
leaves_same P l c s = record {
  left = λ at. Same (head_same s at);
  address = λ at. refl;
  pool = λ region low. record { word = refl; ends = refl };
  moves = λ m j job absent is. is;
}

-- objects and moves do not read what a region is used for
module _ (P : Protocol) (c : Cycle) (s : Space) (k : ℕ) (x : RegionWord) where
  laid_region : (j : MoveJob) → IsLaid s j → IsLaid (put_region s k x) j
  laid_region j is = let copy = is.copy in record {
    copy = record { state = copy.state; birth = copy.birth; len = copy.len };
    colour = is.colour;
    to = is.to;
    wide = is.wide;
    status = is.status;
    seal = is.seal;
  }

  pub move_region : (m : Carried) (j : MoveJob) → IsMove P c s m j → IsMove P c (put_region s k x) m j
  move_region m j is = record {
    late = is.late;
    live = is.live;
    len = is.len;
    birth = is.birth;
    header = is.header;
    copy = copy_goes s (put_region s k x) m j (λ e. e) (laid_region j) is.copy;
    apart = is.apart;
    head = is.head;
    field = is.field;
  }

  -- the region is none of the pool
  pub leaves_region : (l : Sizes) → (l.pool < k + 1) → Leaves P l c s (put_region s k x)
  leaves_region l own = record {
    left = λ at. Same (record { state = refl; seal = refl; wide = refl; head = λ is. (refl, refl, refl) });
    address = λ at. refl;
    pool = λ region low. record { word = set_else s.region k region x (λ same. omega (arith, same, low, own)); ends = refl };
    moves = λ m j job absent is. move_region m j is;
  }

-- ---- where copies are laid

-- they are laid alike where the objects of the pool's regions end alike
pub laid_alike : (l : Sizes) (jobs : List MoveJob) (f g : ℕ → ℕ) → All (λ j. target_of l j < l.pool) jobs → ((k : ℕ) → k < l.pool → g k ≡ f k) → AreLaid l f jobs → AreLaid l g jobs
laid_alike l [] f g pool same is = tt
laid_alike l (j ∷ rest) f g pool same is = (
  same (target_of l j) (All-head (λ j. target_of l j < l.pool) j rest pool) ∙ is.0,
  laid_alike l rest (ends_after l f j) (ends_after l g j) (All-tail (λ j. target_of l j < l.pool) j rest pool) after is.1,
)
  where
    after : (k : ℕ) → k < l.pool → ends_after l g j k ≡ ends_after l f j k
    after k low = elim (set_cases f (target_of l j) k (j.to + 1 + j.len)) [
      | inl here ↦ elim (set_cases g (target_of l j) k (j.to + 1 + j.len)) [ inl q ↦ q.1 ∙ sym here.1 | inr q ↦ absurd (q.0 here.0) ]
      | inr there ↦ set_else g (target_of l j) k (j.to + 1 + j.len) there.0 ∙ (same k low ∙ sym there.1)
    ]

-- ---- the jobs

pub still_live : (x : State) → IsStill x → IsLive x
still_live Plain is = tt
still_live Kept is = tt
still_live Tagged is = tt
still_live x is = absurd is

module _ {R W E M : Type 0} (kit : Kit R W E M) (l : Sizes) (c : Cycle) (s t : Space) (leaves : Leaves kit.protocol l c s t) (heads : (at : ℕ) → IsLive (s.state at) → IsSameAt s t at) where
  -- no object begins in the pool
  pool_absent : (at : ℕ) → region_of l at < l.pool → Left kit.protocol l s t at → s.state at ≡ Absent → t.state at ≡ Absent
  pool_absent at low (Same same) none = same.state ∙ none
  pool_absent at low (Untagged makes was is seal wide) none = absurd (let gone : Tagged ≡ Absent = sym was ∙ none in cc gone)
  pool_absent at low (Born was is seal wide own) none = absurd (omega (arith, low, own))

  -- none begins with a wide object
  wideless_stays : (at : ℕ) → Left kit.protocol l s t at → s.wide at ≡ 0 → t.wide at ≡ 0
  wideless_stays at (Same same) none = same.wide ∙ none
  wideless_stays at (Untagged makes was is seal wide) none = wide ∙ none
  wideless_stays at (Born was is seal wide own) none = wide

  -- what has one had it before, of the same length
  wide_was : (at : ℕ) → Left kit.protocol l s t at → t.state at ≢ Absent → t.wide at ≢ 0 → (s.state at ≢ Absent) × (s.wide at ≢ 0) × (t.wide at ≡ s.wide at) × (t.len at ≡ s.len at)
  wide_was at (Same same) there some =
      let was : s.state at ≢ Absent = λ none. there (same.state ∙ none) in
      (was, (λ none. some (same.wide ∙ none)), same.wide, (same.head was).1)
  wide_was at (Untagged makes was is seal wide) there some =
      ((λ none. (let gone : Tagged ≡ Absent = sym was ∙ none in cc gone)), (λ none. some (wide ∙ none)), wide, (heads at (subst IsLive (sym was) tt)).len)
  wide_was at (Born was is seal wide own) there some = absurd (some wide)

  plain_stays : (at : ℕ) → Left kit.protocol l s t at → s.state at ≡ Plain → t.state at ≡ Plain
  plain_stays at (Same same) plain = same.state ∙ plain
  plain_stays at (Untagged makes was is seal wide) plain = absurd (let gone : Tagged ≡ Plain = sym was ∙ plain in cc gone)
  plain_stays at (Born was is seal wide own) plain = is

  tagged_stays : (at : ℕ) → Left kit.protocol l s t at → IsTaggedOrKept (s.state at) → IsTaggedOrKept (t.state at)
  tagged_stays at (Same same) tagged = subst IsTaggedOrKept (sym same.state) tagged
  tagged_stays at (Untagged makes was is seal wide) tagged = subst IsTaggedOrKept (sym is) tt
  tagged_stays at (Born was is seal wide own) tagged = absurd (subst IsTaggedOrKept was tagged)

  still_stays : (at : ℕ) → Left kit.protocol l s t at → IsStill (s.state at) → IsStill (t.state at)
  still_stays at (Same same) still = subst IsStill (sym same.state) still
  still_stays at (Untagged makes was is seal wide) still = subst IsStill (sym is) tt
  still_stays at (Born was is seal wide own) still = absurd (subst IsStill was still)

  forward_was : (at to : ℕ) → Left kit.protocol l s t at → t.state at ≡ Forward to → s.state at ≡ Forward to
  forward_was at to (Same same) gone = sym same.state ∙ gone
  forward_was at to (Untagged makes was is seal wide) gone = absurd (let never : Kept ≡ Forward to = sym is ∙ gone in cc never)
  forward_was at to (Born was is seal wide own) gone = absurd (let never : Plain ≡ Forward to = sym is ∙ gone in cc never)

  above_stays : (j : MoveJob) → IsUnmoved l s j → j.wide ≢ 0 → (a : ℕ) → t.state a ≢ Absent → t.wide a ≢ 0 → t.wide a + t.len a < j.wide
  above_stays j is some a there has =
      let was = wide_was a (leaves.left a) there has in
      let below = is.above some a was.0 was.1 in
      let wide : t.wide a ≡ s.wide a = was.2 in
      let len : t.len a ≡ s.len a = was.3 in
      omega (arith, below, wide, len)

  unmoved_stays : (j : MoveJob) → IsUnmoved l s j → IsUnmoved l t j
  unmoved_stays j is =
      let same = heads j.from (still_live (s.state j.from) is.still) in
      let head : planned_header t j ≡ planned_header s j = ap (λ (colour : Colour). record { state = states.Plain; colour = colour; len = j.len; birth = j.birth; target = 0 }) same.colour in
      record {
        pool = is.pool;
        room = is.room;
        wide = is.wide;
        above = above_stays j is;
        still = still_stays j.from (leaves.left j.from) is.still;
        len = same.len ∙ is.len;
        birth = same.birth ∙ is.birth;
        header = is.header ∙ ap word_of_header (sym head);
        wideless = wideless_stays j.from (leaves.left j.from) is.wideless;
        address = leaves.address j.from ∙ is.address;
        apart = λ a to gone. is.apart a to (forward_was a to (leaves.left a) gone);
      }

  target_stays : (j : MoveJob) → target_of l j < l.pool → IsTarget l s j → IsTarget l t j
  target_stays j low is = (leaves.pool (target_of l j) low).word ∙ is

  mover_stays : (j : MoveJob) (m : M) → IsMover kit l c s j m → IsMover kit l c t j m
  mover_stays j m is = record {
    moves = is.moves;
    pool = is.pool;
    job = is.job;
    own = is.own;
    move = leaves.moves (kit.moves m) j is.job (pool_absent j.to is.pool (leaves.left j.to)) is.move;
    lays = λ i e. (let lays = is.lays i e in (unmoved_stays j lays.0, target_stays j is.pool lays.1, (leaves.pool (target_of l j) is.pool).ends ∙ lays.2));
  }

  -- ---- lists of them

  in_pool : (ends : ℕ → ℕ) (jobs : List MoveJob) → AreUnmoved l s ends jobs → All (λ j. target_of l j < l.pool) jobs
  in_pool ends jobs are = All-weaker (IsUnmoved l s) (λ j. target_of l j < l.pool) (λ j is. is.pool) jobs are.each

  are_unmoved_stay : (ends after : ℕ → ℕ) (jobs : List MoveJob) → ((k : ℕ) → k < l.pool → after k ≡ ends k) → AreUnmoved l s ends jobs → AreUnmoved l t after jobs
  are_unmoved_stay ends after jobs same are = record {
    each = All-weaker (IsUnmoved l s) (IsUnmoved l t) unmoved_stays jobs are.each;
    laid = laid_alike l jobs ends after (in_pool ends jobs are) same are.laid;
    after = are.after;
  }

  unmoved_on : (jobs : List MoveJob) → AreUnmoved l s s.ends jobs → AreUnmoved l t t.ends jobs
  unmoved_on jobs are = are_unmoved_stay s.ends t.ends jobs (λ k low. (leaves.pool k low).ends) are

  all_plain : (jobs : List MoveJob) → All (IsPlainAt s) jobs → All (IsPlainAt t) jobs
  all_plain jobs all = All-weaker (IsPlainAt s) (IsPlainAt t) (λ j is. plain_stays j.from (leaves.left j.from) is) jobs all

  all_tagged : (jobs : List MoveJob) → All (IsTaggedAt s) jobs → All (IsTaggedAt t) jobs
  all_tagged jobs all = All-weaker (IsTaggedAt s) (IsTaggedAt t) (λ j is. tagged_stays j.from (leaves.left j.from) is) jobs all

  all_waiting : (clover : Bool) (jobs : List MoveJob) → All (IsWaiting clover s) jobs → All (IsWaiting clover t) jobs
  all_waiting true jobs all = all_plain jobs all
  all_waiting false jobs all = all_tagged jobs all

  all_targets : (ends : ℕ → ℕ) (jobs : List MoveJob) → AreUnmoved l s ends jobs → All (IsTarget l s) jobs → All (IsTarget l t) jobs
  all_targets ends jobs are all k d less = target_stays (get_or jobs k d) (in_pool ends jobs are k d less) (all k d less)

  ends_alike : (m : Carried) (k : ℕ) → k < l.pool → ends_by l m t.ends k ≡ ends_by l m s.ends k
  ends_alike (Lays j) k low = elim (set_cases s.ends (target_of l j) k (j.to + 1 + j.len)) [
    | inl here ↦ elim (set_cases t.ends (target_of l j) k (j.to + 1 + j.len)) [ inl q ↦ q.1 ∙ sym here.1 | inr q ↦ absurd (q.0 here.0) ]
    | inr there ↦ set_else t.ends (target_of l j) k (j.to + 1 + j.len) there.0 ∙ ((leaves.pool k low).ends ∙ sym there.1)
  ]
  ends_alike m k low = (leaves.pool k low).ends

  tagged_or_next : (job j : MoveJob) → IsTaggedAt s j ⊎ (j ≡ job) → IsTaggedAt t j ⊎ (j ≡ job)
  tagged_or_next job j (inl is) = inl (tagged_stays j.from (leaves.left j.from) is)
  tagged_or_next job j (inr is) = inr is

  target_or_here : (region : ℕ) (j : MoveJob) → target_of l j < l.pool → IsTargetOr l s region j → IsTargetOr l t region j
  target_or_here region j low (inl is) = inl (target_stays j low is)
  target_or_here region j low (inr is) = inr is

  all_or_here : (region next : ℕ) (jobs : List MoveJob) → AreUnmoved l s s.ends jobs → All (IsTargetOr l s region) (take next jobs) → All (IsTargetOr l t region) (take next jobs)
  all_or_here region next jobs are all k d less = target_or_here region (get_or (take next jobs) k d) (All-take (λ j. target_of l j < l.pool) next jobs (in_pool s.ends jobs are) k d less) (all k d less)

  pub stand_stays : (stand : JobStand M) → StandsAt kit l c s stand → StandsAt kit l c t stand
  stand_stays Settled is = tt
  stand_stays (Coming jobs) is = (unmoved_on jobs is.0, all_plain jobs is.1)
  stand_stays (Targeting region next jobs) is = (unmoved_on jobs is.0, all_plain jobs is.1, all_or_here region next jobs is.0 is.2)
  stand_stays (Tagging job tagged rest jobs) is = record {
    unmoved = unmoved_on jobs is.unmoved;
    own = unmoved_stays job is.own;
    plain = plain_stays job.from (leaves.left job.from) is.plain;
    tagged = All-weaker (λ j. IsTaggedAt s j ⊎ (j ≡ job)) (λ j. IsTaggedAt t j ⊎ (j ≡ job)) (tagged_or_next job) tagged is.tagged;
    rest = all_plain rest is.rest;
    after = is.after;
    targets = all_targets s.ends jobs is.unmoved is.targets;
  }
  stand_stays (Tagged_jobs jobs) is = (unmoved_on jobs is.0, all_tagged jobs is.1, all_targets s.ends jobs is.0 is.2)
  stand_stays (Moved_by job rest m) is = record {
    mover = mover_stays job m is.mover;
    unmoved = are_unmoved_stay (ends_by l (kit.moves m) s.ends) (ends_by l (kit.moves m) t.ends) rest (ends_alike (kit.moves m)) is.unmoved;
    waiting = all_waiting (is_clover kit.kind) rest is.waiting;
    targets = all_targets (ends_by l (kit.moves m) s.ends) rest is.unmoved is.targets;
    after = is.after;
  }
