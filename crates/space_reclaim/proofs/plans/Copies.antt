-- Copies laid on the strip lie within regions and after each other; so do wide objects.
use Rattle.std.proofs.Common.{◌≡◌, ℕ, ◌+◌, ◌*◌, ◌/◌, ◌%◌, ◌<◌, ◌≤◌, true, false, List, [], ◌∷◌, length, get_or, refl, ap, sym, ◌∙◌, subst, arith, inl, inr}
use Rattle.std.specs.List.{All, AllPairs, AllZip, sum_by}
use Rattle.std.proofs.lemmas.Bool.Decides.{eqb_tells}
use Rattle.std.proofs.lemmas.List.Elements.{All-nil, All-cons, All-head, All-tail, All-weaker, Contains-get_or}
use Rattle.std.proofs.lemmas.List.Kept.{AllPairs-cons}
use Rattle.std.proofs.lemmas.List.Sums.{sum_by-cons}
use Rattle.heap_words.specs.Layouts.{Sizes, first_word, wide_at}
use Rattle.object_headers.specs.Changes.{is_stopless}
use Rattle.space_reclaim.specs.declared.plan.ObjectRow.{ObjectRow}
use Rattle.space_reclaim.specs.declared.move_job.MoveJob.{MoveJob}
use Rattle.space_reclaim.specs.Plans.{Space, words_of, begins_after, strip_after, strip_at, job_after, jobs_after}
use Rattle.space_reclaim.specs.PlanMeanings.{LiesInPool, AreCopiesApart, FollowFrom, Moves}
use Rattle.space_reclaim.proofs.plans.Strip.{begins_after-bound, begins_after-within, strip_after-least, words_of-cons}

-- a word of the strip after others in one region, or in a later one
strip_apart : (l : Sizes) (pool : List ℕ) (p n q : ℕ) → AllPairs (λ a b. a < b) pool → p % 64 + n < 64 → p + n < q → q / 64 < length pool → first_word l (get_or pool (p / 64) 0) + p % 64 + n < first_word l (get_or pool (q / 64) 0) + q % 64
strip_apart l pool p n q rises within after below = elim (eqb_tells (p / 64) (q / 64)) [
  | inl same ↦ rw same.1 (omega arith)
  | inr other ↦ let region : get_or pool (p / 64) 0 < get_or pool (q / 64) 0 = rises (p / 64) (q / 64) 0 (omega (arith, other.1)) below in omega (arith, region)
]

module _ (s : Space) (rises : AllPairs (λ a b. a < b) s.pool_free) where
  -- later copies lie after a copy of n fields that ends before them
  later_after : (p n : ℕ) → p % 64 + n < 64 → (used words : ℕ) (objects : List ObjectRow) → p + n < used → All (λ o. o.len ≤ 30) objects → strip_after used objects ≤ 64 * length s.pool_free → All (λ k. strip_at s p + n < k.to) (jobs_after s used words objects)
  later_after p n within used words [] after lens fits = All-nil (λ k. strip_at s p + n < k.to)
  later_after p n within used words (o ∷ rest) after lens fits =
      let len : o.len ≤ 30 = All-head (λ o. o.len ≤ 30) o rest lens in
      let later : All (λ o. o.len ≤ 30) rest = All-tail (λ o. o.len ≤ 30) o rest lens in
      let bound : (used ≤ begins_after used o.len) × (begins_after used o.len ≤ used + 63) = begins_after-bound used o.len len in
      let room : begins_after used o.len + o.len + 1 + words_of rest ≤ 64 * length s.pool_free = omega (arith, fits, strip_after-least (begins_after used o.len + o.len + 1) rest later) in
      All-cons (λ k. strip_at s p + n < k.to) (job_after s used words o) (jobs_after s (begins_after used o.len + o.len + 1) (words + o.len + 1) rest)
      (strip_apart s.layout s.pool_free p n (begins_after used o.len) rises within (omega (arith, bound, after)) (omega (arith, room)))
      (later_after p n within (begins_after used o.len + o.len + 1) (words + o.len + 1) rest (omega (arith, bound, after)) later fits)

  copy_lies : (used words : ℕ) (o : ObjectRow) → o.len ≤ 30 → begins_after used o.len < 64 * length s.pool_free → LiesInPool s (job_after s used words o)
  copy_lies used words o len room =
      let at : ℕ = begins_after used o.len in
      let within : begins_after used o.len % 64 + o.len < 64 = begins_after-within used o.len len in
      (get_or s.pool_free (begins_after used o.len / 64) 0, Contains-get_or s.pool_free (begins_after used o.len / 64) 0 (omega (arith, room)), omega arith, omega (arith, within))

  -- no copy leaves its region, and none overlaps another
  pub copies_apart : (used words : ℕ) (objects : List ObjectRow) → All (λ o. o.len ≤ 30) objects → strip_after used objects ≤ 64 * length s.pool_free → AreCopiesApart s (jobs_after s used words objects)
  copies_apart used words [] lens fits = record { lie = All-nil (LiesInPool s); apart = λ i j d before below. absurd (omega arith) }
  copies_apart used words (o ∷ rest) lens fits =
      let len : o.len ≤ 30 = All-head (λ o. o.len ≤ 30) o rest lens in
      let later : All (λ o. o.len ≤ 30) rest = All-tail (λ o. o.len ≤ 30) o rest lens in
      let room : begins_after used o.len + o.len + 1 + words_of rest ≤ 64 * length s.pool_free = omega (arith, fits, strip_after-least (begins_after used o.len + o.len + 1) rest later) in
      let others : AreCopiesApart s (jobs_after s (begins_after used o.len + o.len + 1) (words + o.len + 1) rest) = copies_apart (begins_after used o.len + o.len + 1) (words + o.len + 1) rest later fits in
      record {
        lie = All-cons (LiesInPool s) (job_after s used words o) (jobs_after s (begins_after used o.len + o.len + 1) (words + o.len + 1) rest) (copy_lies used words o len (omega (arith, room))) others.lie;
        apart = AllPairs-cons (λ j k. j.to + j.len < k.to) (job_after s used words o) (jobs_after s (begins_after used o.len + o.len + 1) (words + o.len + 1) rest) (later_after (begins_after used o.len) o.len (begins_after-within used o.len len) (begins_after used o.len + o.len + 1) (words + o.len + 1) rest (omega arith) later fits) others.apart;
      }

module _ (s : Space) (stopless : is_stopless s.kind ≡ true) where
  wide_is : (used words : ℕ) (o : ObjectRow) → (job_after s used words o).wide ≡ wide_at s.layout + words
  wide_is used words o = rw stopless refl

  -- wide objects follow each other
  pub wide_follow : (used words : ℕ) (objects : List ObjectRow) → FollowFrom (wide_at s.layout + words) (jobs_after s used words objects)
  wide_follow used words [] = tt
  wide_follow used words (o ∷ rest) =
      let next : wide_at s.layout + (words + o.len + 1) ≡ wide_at s.layout + words + o.len + 1 = omega arith in
      (wide_is used words o, subst (λ at. FollowFrom at (jobs_after s (begins_after used o.len + o.len + 1) (words + o.len + 1) rest)) next (wide_follow (begins_after used o.len + o.len + 1) (words + o.len + 1) rest))

  -- they lie in this many words of the wide area
  pub wide_within : (most used words : ℕ) (objects : List ObjectRow) → words + words_of objects ≤ most → All (λ j. (wide_at s.layout ≤ j.wide) × (j.wide + j.len < wide_at s.layout + most)) (jobs_after s used words objects)
  wide_within most used words [] fits = All-nil (λ j. (wide_at s.layout ≤ j.wide) × (j.wide + j.len < wide_at s.layout + most))
  wide_within most used words (o ∷ rest) fits =
      let room : words + o.len + 1 + words_of rest ≤ most = omega (arith, fits, words_of-cons o rest) in
      All-cons (λ j. (wide_at s.layout ≤ j.wide) × (j.wide + j.len < wide_at s.layout + most)) (job_after s used words o) (jobs_after s (begins_after used o.len + o.len + 1) (words + o.len + 1) rest)
      (omega (arith, wide_is used words o), omega (arith, wide_is used words o, room))
      (wide_within most (begins_after used o.len + o.len + 1) (words + o.len + 1) rest room)

  wide_after : (low used words : ℕ) (objects : List ObjectRow) → low ≤ words → All (λ k. wide_at s.layout + low ≤ k.wide) (jobs_after s used words objects)
  wide_after low used words [] after = All-nil (λ k. wide_at s.layout + low ≤ k.wide)
  wide_after low used words (o ∷ rest) after =
      All-cons (λ k. wide_at s.layout + low ≤ k.wide) (job_after s used words o) (jobs_after s (begins_after used o.len + o.len + 1) (words + o.len + 1) rest)
      (omega (arith, wide_is used words o))
      (wide_after low (begins_after used o.len + o.len + 1) (words + o.len + 1) rest (omega arith))

  -- and none overlaps another
  pub wide_apart : (used words : ℕ) (objects : List ObjectRow) → AllPairs (λ j k. j.wide + j.len < k.wide) (jobs_after s used words objects)
  wide_apart used words [] = λ i j d before below. absurd (omega arith)
  wide_apart used words (o ∷ rest) =
      let later : List MoveJob = jobs_after s (begins_after used o.len + o.len + 1) (words + o.len + 1) rest in
      AllPairs-cons (λ j k. j.wide + j.len < k.wide) (job_after s used words o) (jobs_after s (begins_after used o.len + o.len + 1) (words + o.len + 1) rest)
      (All-weaker (λ k. wide_at s.layout + (words + o.len + 1) ≤ k.wide) (λ k. (job_after s used words o).wide + o.len < k.wide) (λ k h. omega (arith, h, wide_is used words o)) (jobs_after s (begins_after used o.len + o.len + 1) (words + o.len + 1) rest) (wide_after (words + o.len + 1) (begins_after used o.len + o.len + 1) (words + o.len + 1) rest (omega arith)))
      (wide_apart (begins_after used o.len + o.len + 1) (words + o.len + 1) rest)

-- without them there are none
pub wide_none : (s : Space) → is_stopless s.kind ≡ false → (used words : ℕ) (objects : List ObjectRow) → All (λ j. j.wide ≡ 0) (jobs_after s used words objects)
wide_none s other used words [] = All-nil (λ j. j.wide ≡ 0)
wide_none s other used words (o ∷ rest) =
    All-cons (λ j. j.wide ≡ 0) (job_after s used words o) (jobs_after s (begins_after used o.len + o.len + 1) (words + o.len + 1) rest)
    (rw other refl) (wide_none s other (begins_after used o.len + o.len + 1) (words + o.len + 1) rest)

-- jobs take as many words as their objects
pub jobs_words : (s : Space) (used words : ℕ) (objects : List ObjectRow) → sum_by (λ j. j.len + 1) (jobs_after s used words objects) ≡ words_of objects
jobs_words s used words [] = refl
jobs_words s used words (o ∷ rest) =
    sum_by-cons (λ j. j.len + 1) (job_after s used words o) (jobs_after s (begins_after used o.len + o.len + 1) (words + o.len + 1) rest)
    ∙ (ap (λ n. o.len + 1 + n) (jobs_words s (begins_after used o.len + o.len + 1) (words + o.len + 1) rest) ∙ sym (words_of-cons o rest))

-- each object has a job, in order
pub jobs-move : (s : Space) (used words : ℕ) (objects : List ObjectRow) → AllZip Moves objects (jobs_after s used words objects)
jobs-move s used words [] = tt
jobs-move s used words (o ∷ rest) = (record { birth = refl; from = refl; len = refl; header = refl }, jobs-move s (begins_after used o.len + o.len + 1) (words + o.len + 1) rest)
