-- Each copy is laid where those before it end in its region, and the free regions are filled one after another.
use Rattle.std.proofs.Common.{◌≡◌, ◌≢◌, ℕ, ◌+◌, ◌*◌, ◌/◌, ◌%◌, ◌<◌, ◌≤◌, ◌⊎◌, List, ◌∷◌, length, get_or, ap, sym, ◌∙◌, arith, inl, inr, []}
use Rattle.std.specs.List.{All, AllPairs, Any}
use Rattle.std.proofs.lemmas.Bool.Decides.{eqb_tells, nat_tests}
use Rattle.std.proofs.lemmas.List.Elements.{All-nil, All-cons, All-head, All-tail, All-weaker}
use Rattle.heap_words.specs.Layouts.{Sizes, first_word}
use Rattle.space_reclaim.specs.declared.plan.ObjectRow.{ObjectRow}
use Rattle.space_reclaim.specs.declared.move_job.MoveJob.{MoveJob}
use Rattle.space_reclaim.specs.Plans.{Space, words_of, begins_after, strip_after, strip_at, job_after, jobs_after, regions_begun}
use Rattle.space_reclaim.specs.PlanMeanings.{region_around, target_of, ends_with, AreLaid}
use Rattle.space_reclaim.proofs.plans.Rising.{any-here, any-later}
use Rattle.space_reclaim.proofs.plans.Strip.{begins_after-bound, begins_after-within, strip_after-least}

-- ---- where copies are laid is where they end in their regions

-- a word of a region lies in it
around_is : (l : Sizes) (region n : ℕ) → n < 64 → region_around l (first_word l region + n) ≡ region
around_is l region n small = omega (arith, small)

-- where these are the ends, jobs are laid
set_here : (l : Sizes) (ends : ℕ → ℕ) (j : MoveJob) (region : ℕ) → target_of l j ≡ region → ends_with l ends j region ≡ j.to + 1 + j.len
set_here l ends j region is = grind (arith, nat_tests, is)

set_other : (l : Sizes) (ends : ℕ → ℕ) (j : MoveJob) (region : ℕ) → target_of l j ≢ region → ends_with l ends j region ≡ ends region
set_other l ends j region not = grind (arith, nat_tests, not)

same_with : (l : Sizes) (e f : ℕ → ℕ) (j : MoveJob) (region : ℕ) → e region ≡ f region → ends_with l e j region ≡ ends_with l f j region
same_with l e f j region is = elim (eqb_tells region (target_of l j)) [
  | inl here ↦ set_here l e j region (sym here.1) ∙ sym (set_here l f j region (sym here.1))
  | inr other ↦ set_other l e j region (λ h. other.1 (sym h)) ∙ (is ∙ sym (set_other l f j region (λ h. other.1 (sym h))))
]

-- it is about the regions to which jobs copy alone
pub laid-same : (l : Sizes) (e f : ℕ → ℕ) (jobs : List MoveJob) → All (λ j. e (target_of l j) ≡ f (target_of l j)) jobs → AreLaid l e jobs → AreLaid l f jobs
laid-same l e f [] same laid = tt
laid-same l e f (j ∷ rest) same laid =
    let here : e (target_of l j) ≡ f (target_of l j) = All-head (λ j. e (target_of l j) ≡ f (target_of l j)) j rest same in
    let later : All (λ j. e (target_of l j) ≡ f (target_of l j)) rest = All-tail (λ j. e (target_of l j) ≡ f (target_of l j)) j rest same in (
      laid.0 ∙ here,
      laid.1,
      laid-same l (ends_with l e j) (ends_with l f j) rest
          (All-weaker (λ k. e (target_of l k) ≡ f (target_of l k)) (λ k. ends_with l e j (target_of l k) ≡ ends_with l f j (target_of l k)) (λ k is. same_with l e f j (target_of l k) is) rest later)
          laid.2,
    )

-- the next copy begins at the used words, or at the region after them, and then nothing of that is used
begins_cases : (used n : ℕ) → n ≤ 30 → (begins_after used n ≡ used) ⊎ ((begins_after used n ≡ 64 * (used / 64 + 1)) × (0 < used % 64))
begins_cases used n few = grind (arith, nat_tests)

-- where objects end in the free regions after this many used words of the strip: in those not begun at the first word, and in the one that is begun after the used ones
pub record EndsAt (l : Sizes) (pool : List ℕ) (ends : ℕ → ℕ) (used : ℕ) : Type 0 where
  pub fresh : (k : ℕ) → k < length pool → used ≤ 64 * k → ends (get_or pool k 0) ≡ first_word l (get_or pool k 0)
  pub here : used / 64 < length pool → ends (get_or pool (used / 64) 0) ≡ first_word l (get_or pool (used / 64) 0) + used % 64

module _ (s : Space) (rises : AllPairs (λ a b. a < b) s.pool_free) where
  -- the job copies to the region of the word of the strip at which its copy begins
  pub target_is : (used words : ℕ) (o : ObjectRow) → target_of s.layout (job_after s used words o) ≡ get_or s.pool_free (begins_after used o.len / 64) 0
  target_is used words o = around_is s.layout (get_or s.pool_free (begins_after used o.len / 64) 0) (begins_after used o.len % 64) (omega arith)

  distinct : (i j : ℕ) → i < j → j < length s.pool_free → get_or s.pool_free i 0 ≢ get_or s.pool_free j 0
  distinct i j before below same = let up : get_or s.pool_free i 0 < get_or s.pool_free j 0 = rises i j 0 before below in omega (arith, up, same)

  at_end : (ends : ℕ → ℕ) (used n : ℕ) → n ≤ 30 → EndsAt s.layout s.pool_free ends used → begins_after used n / 64 < length s.pool_free
      → ends (get_or s.pool_free (begins_after used n / 64) 0) ≡ strip_at s (begins_after used n)
  at_end ends used n few is below = elim (begins_cases used n few) [
    | inl same ↦ rw same (is.here (rw same at below))
    | inr next ↦
        let index : begins_after used n / 64 ≡ used / 64 + 1 = omega (arith, next.0) in
        let none : begins_after used n % 64 ≡ 0 = omega (arith, next.0) in
        let first : ends (get_or s.pool_free (begins_after used n / 64) 0) ≡ first_word s.layout (get_or s.pool_free (begins_after used n / 64) 0) = is.fresh (begins_after used n / 64) below (omega (arith, index)) in
        omega (arith, first, none)
  ]

  module _ (ends : ℕ → ℕ) (used words : ℕ) (o : ObjectRow) (few : o.len ≤ 30) (is : EndsAt s.layout s.pool_free ends used) (room : begins_after used o.len < 64 * length s.pool_free) where
    j : MoveJob
    j = job_after s used words o

    at : ℕ
    at = begins_after used o.len

    after : ℕ
    after = begins_after used o.len + o.len + 1

    bound : (used ≤ begins_after used o.len) × (begins_after used o.len ≤ used + 63)
    bound = begins_after-bound used o.len few

    within : begins_after used o.len % 64 + o.len < 64
    within = begins_after-within used o.len few

    next_fresh : (k : ℕ) → k < length s.pool_free → begins_after used o.len + o.len + 1 ≤ 64 * k → ends_with s.layout ends (job_after s used words o) (get_or s.pool_free k 0) ≡ first_word s.layout (get_or s.pool_free k 0)
    next_fresh k below later =
        let apart : get_or s.pool_free (begins_after used o.len / 64) 0 ≢ get_or s.pool_free k 0 = distinct (begins_after used o.len / 64) k (omega (arith, later)) below in
        set_other s.layout ends (job_after s used words o) (get_or s.pool_free k 0) (λ same. apart (sym (target_is used words o) ∙ same))
        ∙ is.fresh k below (omega (arith, later, bound))

    next_here : (begins_after used o.len + o.len + 1) / 64 < length s.pool_free → (used_up : ((begins_after used o.len + o.len + 1) / 64 ≡ begins_after used o.len / 64) ⊎ (((begins_after used o.len + o.len + 1) / 64 ≢ begins_after used o.len / 64)))
        → ends_with s.layout ends (job_after s used words o) (get_or s.pool_free ((begins_after used o.len + o.len + 1) / 64) 0) ≡ first_word s.layout (get_or s.pool_free ((begins_after used o.len + o.len + 1) / 64) 0) + (begins_after used o.len + o.len + 1) % 64
    next_here below (inl same) =
        let region : target_of s.layout (job_after s used words o) ≡ get_or s.pool_free ((begins_after used o.len + o.len + 1) / 64) 0 = target_is used words o ∙ ap (λ k. get_or s.pool_free k 0) (sym same) in
        let to : strip_at s (begins_after used o.len) ≡ first_word s.layout (get_or s.pool_free ((begins_after used o.len + o.len + 1) / 64) 0) + begins_after used o.len % 64 = ap (λ k. first_word s.layout (get_or s.pool_free k 0) + begins_after used o.len % 64) (sym same) in
        let rest : (begins_after used o.len + o.len + 1) % 64 ≡ begins_after used o.len % 64 + o.len + 1 = omega (arith, within, same) in
        set_here s.layout ends (job_after s used words o) (get_or s.pool_free ((begins_after used o.len + o.len + 1) / 64) 0) region ∙ omega (arith, to, rest)
    next_here below (inr other) =
        let full : begins_after used o.len + o.len + 1 ≡ 64 * ((begins_after used o.len + o.len + 1) / 64) = omega (arith, within, other) in
        next_fresh ((begins_after used o.len + o.len + 1) / 64) below (omega (arith, full)) ∙ omega (arith, full)

    same_or_not : (a b : ℕ) → (a ≡ b) ⊎ (a ≢ b)
    same_or_not a b = elim (eqb_tells a b) [
      | inl same ↦ inl same.1
      | inr other ↦ inr other.1
    ]

    next_ends : EndsAt s.layout s.pool_free (ends_with s.layout ends (job_after s used words o)) (begins_after used o.len + o.len + 1)
    next_ends = record {
      fresh = next_fresh;
      here = λ below. next_here below (same_or_not ((begins_after used o.len + o.len + 1) / 64) (begins_after used o.len / 64));
    }

  -- jobs are laid in order
  pub jobs_laid : (ends : ℕ → ℕ) (used words : ℕ) (objects : List ObjectRow) → All (λ o. o.len ≤ 30) objects → EndsAt s.layout s.pool_free ends used → strip_after used objects ≤ 64 * length s.pool_free → AreLaid s.layout ends (jobs_after s used words objects)
  jobs_laid ends used words [] lens is fits = tt
  jobs_laid ends used words (o ∷ rest) lens is fits =
      let few : o.len ≤ 30 = All-head (λ o. o.len ≤ 30) o rest lens in
      let later : All (λ o. o.len ≤ 30) rest = All-tail (λ o. o.len ≤ 30) o rest lens in
      let room : begins_after used o.len + o.len + 1 + words_of rest ≤ 64 * length s.pool_free = omega (arith, fits, strip_after-least (begins_after used o.len + o.len + 1) rest later) in
      let here : begins_after used o.len / 64 < length s.pool_free = omega (arith, room) in
      let to : target_of s.layout (job_after s used words o) ≡ get_or s.pool_free (begins_after used o.len / 64) 0 = target_is used words o in
      let first : first_word s.layout (target_of s.layout (job_after s used words o)) ≡ first_word s.layout (get_or s.pool_free (begins_after used o.len / 64) 0) = ap (first_word s.layout) to in
      let within : begins_after used o.len % 64 + o.len < 64 = begins_after-within used o.len few in (
        sym (ap ends to ∙ at_end ends used o.len few is here),
        omega (arith, first, within),
        jobs_laid (ends_with s.layout ends (job_after s used words o)) (begins_after used o.len + o.len + 1) (words + o.len + 1) rest later (next_ends ends used words o few is (omega (arith, room))) fits,
      )

  -- from where nothing of the strip is used
  ends_first : (ends : ℕ → ℕ) → All (λ region. ends region ≡ first_word s.layout region) s.pool_free → EndsAt s.layout s.pool_free ends 0
  ends_first ends free = record { fresh = λ k below low. free k 0 below; here = λ below. free 0 0 below ∙ omega arith }

  pub laid_first : (ends : ℕ → ℕ) (objects : List ObjectRow) → All (λ region. ends region ≡ first_word s.layout region) s.pool_free → All (λ o. o.len ≤ 30) objects → strip_after 0 objects ≤ 64 * length s.pool_free → AreLaid s.layout ends (jobs_after s 0 0 objects)
  laid_first ends objects free lens fits = jobs_laid ends 0 0 objects lens (ends_first ends free) fits

  -- ---- the regions to which jobs copy

  -- a region that a copy begins is that in which it lies
  begun_here : (used n k : ℕ) → n ≤ 30 → regions_begun used ≤ k → k < regions_begun (begins_after used n + n + 1) → begins_after used n / 64 ≡ k
  begun_here used n k few low high =
      let within : begins_after used n % 64 + n < 64 = begins_after-within used n few in
      elim (begins_cases used n few) [
        | inl same ↦ omega (arith, same, within, low, high)
        | inr next ↦ omega (arith, next.0, next.1, within, low, high)
      ]

  -- each job copies to one of the first regions
  pub into_begun : (most used words : ℕ) (objects : List ObjectRow) → All (λ o. o.len ≤ 30) objects → regions_begun (strip_after used objects) ≤ most → All (λ j. (k : ℕ) × (k < most) × (target_of s.layout j ≡ get_or s.pool_free k 0)) (jobs_after s used words objects)
  into_begun most used words [] lens few = All-nil (λ j. (k : ℕ) × (k < most) × (target_of s.layout j ≡ get_or s.pool_free k 0))
  into_begun most used words (o ∷ rest) lens few =
      let len : o.len ≤ 30 = All-head (λ o. o.len ≤ 30) o rest lens in
      let later : All (λ o. o.len ≤ 30) rest = All-tail (λ o. o.len ≤ 30) o rest lens in
      let up : begins_after used o.len + o.len + 1 + words_of rest ≤ strip_after (begins_after used o.len + o.len + 1) rest = strip_after-least (begins_after used o.len + o.len + 1) rest later in
      All-cons (λ j. (k : ℕ) × (k < most) × (target_of s.layout j ≡ get_or s.pool_free k 0)) (job_after s used words o) (jobs_after s (begins_after used o.len + o.len + 1) (words + o.len + 1) rest)
      (begins_after used o.len / 64, omega (arith, few, up), target_is used words o)
      (into_begun most (begins_after used o.len + o.len + 1) (words + o.len + 1) rest later few)

  begun_by : (k used words : ℕ) (o : ObjectRow) (jobs : List MoveJob) → o.len ≤ 30 → regions_begun used ≤ k → (regions_begun (begins_after used o.len + o.len + 1) ≤ k → Any (λ j. target_of s.layout j ≡ get_or s.pool_free k 0) jobs)
      → (k < regions_begun (begins_after used o.len + o.len + 1)) ⊎ (regions_begun (begins_after used o.len + o.len + 1) ≤ k) → Any (λ j. target_of s.layout j ≡ get_or s.pool_free k 0) (job_after s used words o ∷ jobs)
  begun_by k used words o jobs len low later (inl here) = any-here (λ j. target_of s.layout j ≡ get_or s.pool_free k 0) (job_after s used words o) jobs (target_is used words o ∙ ap (λ i. get_or s.pool_free i 0) (begun_here used o.len k len low here))
  begun_by k used words o jobs len low later (inr high) = any-later (λ j. target_of s.layout j ≡ get_or s.pool_free k 0) (job_after s used words o) jobs (later high)

  low_or_high : (x n : ℕ) → (x < n) ⊎ (n ≤ x)
  low_or_high x n = grind arith

  -- and each of these gets a copy
  pub begun_used : (k used words : ℕ) (objects : List ObjectRow) → All (λ o. o.len ≤ 30) objects → regions_begun used ≤ k → k < regions_begun (strip_after used objects) → Any (λ j. target_of s.layout j ≡ get_or s.pool_free k 0) (jobs_after s used words objects)
  begun_used k used words [] lens low high = absurd (omega (arith, low, high))
  begun_used k used words (o ∷ rest) lens low high =
      begun_by k used words o (jobs_after s (begins_after used o.len + o.len + 1) (words + o.len + 1) rest) (All-head (λ o. o.len ≤ 30) o rest lens) low
      (λ later. begun_used k (begins_after used o.len + o.len + 1) (words + o.len + 1) rest (All-tail (λ o. o.len ≤ 30) o rest lens) later high)
      (low_or_high k (regions_begun (begins_after used o.len + o.len + 1)))
