-- The strip of free regions, on which copies are laid one after another.
use Rattle.std.proofs.Common.{◌≡◌, ℕ, ◌+◌, ◌*◌, ◌%◌, ◌<◌, ◌≤◌, List, [], ◌∷◌, ◌++◌, length, get_or, drop, suc, refl, ap, sym, ◌∙◌, add-zero, arith}
use Rattle.std.proofs.lemmas.Bool.Decides.{nat_tests}
use Rattle.std.specs.List.{All}
use Rattle.std.proofs.lemmas.List.Elements.{All-head, All-tail, All-drop}
use Rattle.std.proofs.lemmas.List.Sums.{sum_by-append, sum_by-cons}
use Rattle.std.proofs.Math.Seq.{drop-cons}
use Rattle.space_reclaim.specs.declared.plan.ObjectRow.{ObjectRow}
use Rattle.space_reclaim.specs.Plans.{Space, words_of, begins_after, strip_after, job_after, jobs_after}

-- a copy begins at the next word or at the next region's first
pub begins_after-bound : (used n : ℕ) → n ≤ 30 → (used ≤ begins_after used n) × (begins_after used n ≤ used + 63)
begins_after-bound used n h = grind (arith, nat_tests)

-- and lies within one region
pub begins_after-within : (used n : ℕ) → n ≤ 30 → begins_after used n % 64 + n < 64
begins_after-within used n h = grind (arith, nat_tests)

-- the words of one more
pub words_of-cons : (o : ObjectRow) (rest : List ObjectRow) → words_of (o ∷ rest) ≡ o.len + 1 + words_of rest
words_of-cons o rest = sum_by-cons (λ x. x.len + 1) o rest

pub words_of-append : (xs ys : List ObjectRow) → words_of (xs ++ ys) ≡ words_of xs + words_of ys
words_of-append xs ys = sum_by-append (λ x. x.len + 1) xs ys

-- each object takes a word at least
pub length-le-words_of : (objects : List ObjectRow) → length objects ≤ words_of objects
length-le-words_of [] = omega arith
length-le-words_of (o ∷ rest) = omega (arith, length-le-words_of rest, words_of-cons o rest)

-- copies take no fewer words of the strip than their objects
pub strip_after-least : (used : ℕ) (objects : List ObjectRow) → All (λ o. o.len ≤ 30) objects → used + words_of objects ≤ strip_after used objects
strip_after-least used [] h = omega arith
strip_after-least used (o ∷ rest) h =
    let len : o.len ≤ 30 = All-head (λ o. o.len ≤ 30) o rest h in
    let here : (used ≤ begins_after used o.len) × (begins_after used o.len ≤ used + 63) = begins_after-bound used o.len len in
    omega (arith, here, strip_after-least (begins_after used o.len + o.len + 1) rest (All-tail (λ o. o.len ≤ 30) o rest h), words_of-cons o rest)

-- and at most 128 for each
pub strip_after-most : (used : ℕ) (objects : List ObjectRow) → All (λ o. o.len ≤ 30) objects → strip_after used objects ≤ used + 128 * length objects
strip_after-most used [] h = omega arith
strip_after-most used (o ∷ rest) h =
    let len : o.len ≤ 30 = All-head (λ o. o.len ≤ 30) o rest h in
    let here : (used ≤ begins_after used o.len) × (begins_after used o.len ≤ used + 63) = begins_after-bound used o.len len in
    omega (arith, here, strip_after-most (begins_after used o.len + o.len + 1) rest (All-tail (λ o. o.len ≤ 30) o rest h))

-- the copies of more objects lie after those of the first
pub strip_after-append : (used : ℕ) (xs ys : List ObjectRow) → strip_after used (xs ++ ys) ≡ strip_after (strip_after used xs) ys
strip_after-append used [] ys = refl
strip_after-append used (x ∷ xs) ys = strip_after-append (begins_after used x.len + x.len + 1) xs ys

-- so do their jobs
pub jobs_after-append : (s : Space) (used words : ℕ) (xs ys : List ObjectRow) → jobs_after s used words (xs ++ ys) ≡ jobs_after s used words xs ++ jobs_after s (strip_after used xs) (words + words_of xs) ys
jobs_after-append s used words [] ys = ap (λ n. jobs_after s used n ys) (sym (add-zero words))
jobs_after-append s used words (x ∷ xs) ys =
    let after : words + x.len + 1 + words_of xs ≡ words + words_of (x ∷ xs) = omega (arith, words_of-cons x xs) in
    ap (λ jobs. job_after s used words x ∷ jobs)
    (jobs_after-append s (begins_after used x.len + x.len + 1) (words + x.len + 1) xs ys
    ∙ ap (λ n. jobs_after s (begins_after used x.len + x.len + 1) (words + x.len + 1) xs ++ jobs_after s (strip_after used (x ∷ xs)) n ys) after)

-- where all copies fit, so does the next one
pub front_fits : (used most : ℕ) (objects : List ObjectRow) (i : ℕ) (d : ObjectRow) → i < length objects → All (λ o. o.len ≤ 30) objects → strip_after used (drop i objects) ≤ most → (used ≤ begins_after used (get_or objects i d).len) × (begins_after used (get_or objects i d).len < most)
front_fits used most objects i d below lens fits =
    let o : ObjectRow = get_or objects i d in
    let len : o.len ≤ 30 = lens i d below in
    let rest : All (λ o. o.len ≤ 30) (drop (suc i) objects) = All-drop (λ o. o.len ≤ 30) (suc i) objects lens in
    let bound : (used ≤ begins_after used o.len) × (begins_after used o.len ≤ used + 63) = begins_after-bound used o.len len in
    let all : strip_after used (o ∷ drop (suc i) objects) ≤ most = rw (drop-cons objects i d below) at fits in
    (omega (arith, bound), omega (arith, all, strip_after-least (begins_after used o.len + o.len + 1) (drop (suc i) objects) rest))

-- there is a job for each object
pub length-jobs_after : (s : Space) (used words : ℕ) (objects : List ObjectRow) → length (jobs_after s used words objects) ≡ length objects
length-jobs_after s used words [] = refl
length-jobs_after s used words (o ∷ rest) = ap suc (length-jobs_after s (begins_after used o.len + o.len + 1) (words + o.len + 1) rest)
