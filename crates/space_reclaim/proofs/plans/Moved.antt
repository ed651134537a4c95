-- Each object of a chosen region has one job, and each job is of one.
use Rattle.std.proofs.Common.{◌≡◌, ℕ, ◌+◌, ◌<◌, ◌==◌, if◌then◌else◌, zero, suc, Bool, true, false, List, [], ◌∷◌, get_or, refl, sym, subst, arith}
use Rattle.std.specs.List.{All, AllPairs, Any, Contains, filter}
use Rattle.std.proofs.lemmas.Bool.{eqb-true}
use Rattle.std.proofs.lemmas.List.Elements.{All-nil, All-cons, All-head, All-tail, All-weaker, All-append, All-filter, Contains-append_left, Contains-append_right, filter_passes}
use Rattle.std.proofs.lemmas.List.Kept.{AllPairs-cons, AllPairs-filter}
use Rattle.heap_words.specs.Layouts.{Sizes}
use Rattle.space_reclaim.specs.declared.plan.ObjectRow.{ObjectRow}
use Rattle.space_reclaim.specs.declared.move_job.MoveJob.{MoveJob}
use Rattle.space_reclaim.specs.Plans.{Space, IsLying, objects_in, objects_in_all, begins_after, job_after, jobs_after}
use Rattle.space_reclaim.specs.PlanMeanings.{Moves, MovesOneOf}
use Rattle.space_reclaim.proofs.plans.Found.{equal_test}
use Rattle.space_reclaim.proofs.plans.Rising.{any-here, any-later, pairs-append, pairs-head, pairs-tail}

-- ---- the objects of regions

-- what holds of all objects holds of those of regions
pub all_in : (P : ObjectRow → Type 0) (objects : List ObjectRow) (regions : List ℕ) → All P objects → All P (objects_in_all objects regions)
all_in P objects [] all = All-nil P
all_in P objects (region ∷ rest) all = All-append P (objects_in objects region) (objects_in_all objects rest) (All-filter (λ o. o.region == region) P objects all) (all_in P objects rest all)

-- they lie in these regions
pub regions_in : (objects : List ObjectRow) (R : ℕ → Type 0) (regions : List ℕ) → All R regions → All (λ o. R o.region) (objects_in_all objects regions)
regions_in objects R [] all = All-nil (λ o. R o.region)
regions_in objects R (region ∷ rest) all = All-append (λ o. R o.region) (objects_in objects region) (objects_in_all objects rest)
    (All-weaker (λ o. (o.region == region) ≡ true) (λ o. R o.region) (λ o is. subst R (sym (eqb-true o.region region is)) (All-head R region rest all)) (objects_in objects region) (filter_passes (λ o. o.region == region) objects))
    (regions_in objects R rest (All-tail R region rest all))

-- those of a rising list of regions rise
pub rise_in : (l : Sizes) (objects : List ObjectRow) (regions : List ℕ) → All (IsLying l) objects → AllPairs (λ o p. o.at < p.at) objects → AllPairs (λ a b. a < b) regions → AllPairs (λ o p. o.at < p.at) (objects_in_all objects regions)
rise_in l objects [] lie rise regions_rise = λ i j d before below. absurd (omega arith)
rise_in l objects (region ∷ rest) lie rise regions_rise =
    pairs-append (λ o p. o.at < p.at) (objects_in objects region) (objects_in_all objects rest)
    (AllPairs-filter (λ o p. o.at < p.at) (λ o. o.region == region) objects rise)
    (rise_in l objects rest lie rise (pairs-tail (λ a b. a < b) region rest regions_rise))
    (λ k d below i e inside.
    let own : IsLying l (get_or (objects_in objects region) k d) = All-filter (λ o. o.region == region) (IsLying l) objects lie k d below in
    let here : (get_or (objects_in objects region) k d).region ≡ region = eqb-true _ _ (filter_passes (λ o. o.region == region) objects k d below) in
    let other : IsLying l (get_or (objects_in_all objects rest) i e) = all_in (IsLying l) objects rest lie i e inside in
    let later : region < (get_or (objects_in_all objects rest) i e).region = regions_in objects (λ r. region < r) rest (pairs-head (λ a b. a < b) region rest regions_rise) i e inside in
    let low = other.begins in
    let high = own.ends in
    omega (arith, low, high, here, later))

-- ---- their jobs

module _ (s : Space) where
  -- what holds of the objects by their addresses holds of the jobs
  jobs_from : (P : ℕ → Type 0) (used words : ℕ) (objects : List ObjectRow) → All (λ o. P o.at) objects → All (λ j. P j.from) (jobs_after s used words objects)
  jobs_from P used words [] all = All-nil (λ j. P j.from)
  jobs_from P used words (o ∷ rest) all =
      All-cons (λ j. P j.from) (job_after s used words o) (jobs_after s (begins_after used o.len + o.len + 1) (words + o.len + 1) rest)
      (All-head (λ o. P o.at) o rest all) (jobs_from P (begins_after used o.len + o.len + 1) (words + o.len + 1) rest (All-tail (λ o. P o.at) o rest all))

  -- jobs rise as their objects do
  pub jobs_rise : (used words : ℕ) (objects : List ObjectRow) → AllPairs (λ o p. o.at < p.at) objects → AllPairs (λ j k. j.from < k.from) (jobs_after s used words objects)
  jobs_rise used words [] rise = λ i j d before below. absurd (omega arith)
  jobs_rise used words (o ∷ rest) rise =
      AllPairs-cons (λ j k. j.from < k.from) (job_after s used words o) (jobs_after s (begins_after used o.len + o.len + 1) (words + o.len + 1) rest)
      (jobs_from (λ at. o.at < at) (begins_after used o.len + o.len + 1) (words + o.len + 1) rest (pairs-head (λ o p. o.at < p.at) o rest rise))
      (jobs_rise (begins_after used o.len + o.len + 1) (words + o.len + 1) rest (pairs-tail (λ o p. o.at < p.at) o rest rise))

  moves_it : (used words : ℕ) (o : ObjectRow) → Moves o (job_after s used words o)
  moves_it used words o = record { birth = refl; from = refl; len = refl; header = refl }

  -- an object that is one of these is moved
  one_of : (objects : List ObjectRow) (regions : List ℕ) (o : ObjectRow) (j : MoveJob) → Moves o j → Contains objects o → Contains regions o.region → MovesOneOf objects regions j
  one_of objects regions o j moves there in_region = (there.0, o, there.1, there.2, (in_region, moves))

  -- each job moves one of the objects that lie in the regions
  pub jobs_own : (objects : List ObjectRow) (regions : List ℕ) (used words : ℕ) (moved : List ObjectRow) → All (Contains objects) moved → All (λ o. Contains regions o.region) moved → All (MovesOneOf objects regions) (jobs_after s used words moved)
  jobs_own objects regions used words [] there in_regions = All-nil (MovesOneOf objects regions)
  jobs_own objects regions used words (o ∷ rest) there in_regions =
      All-cons (MovesOneOf objects regions) (job_after s used words o) (jobs_after s (begins_after used o.len + o.len + 1) (words + o.len + 1) rest)
      (one_of objects regions o (job_after s used words o) (moves_it used words o) (All-head (Contains objects) o rest there) (All-head (λ o. Contains regions o.region) o rest in_regions))
      (jobs_own objects regions (begins_after used o.len + o.len + 1) (words + o.len + 1) rest (All-tail (Contains objects) o rest there) (All-tail (λ o. Contains regions o.region) o rest in_regions))

  -- each object has a job
  pub jobs_every : (used words : ℕ) (moved : List ObjectRow) (o : ObjectRow) → Contains moved o → Any (Moves o) (jobs_after s used words moved)
  jobs_every used words [] o there = absurd (omega (arith, there.1))
  jobs_every used words (x ∷ rest) o (zero, below, is) = any-here (Moves o) (job_after s used words x) _ (subst (λ y. Moves y (job_after s used words x)) is (moves_it used words x))
  jobs_every used words (x ∷ rest) o (suc k, below, is) = any-later (Moves o) (job_after s used words x) _ (jobs_every (begins_after used x.len + x.len + 1) (words + x.len + 1) rest o (k, omega (arith, below), is))

-- an object that is there is among those of its region
contains_first : (x : ObjectRow) (xs : List ObjectRow) → Contains (x ∷ xs) x
contains_first x xs = (0, omega arith, refl)

contains_later : (x y : ObjectRow) (xs : List ObjectRow) → Contains xs x → Contains (y ∷ xs) x
contains_later x y xs h = (suc h.0, omega (arith, h.1), h.2)

kept_in : (p : ObjectRow → Bool) (xs : List ObjectRow) (x : ObjectRow) → Contains xs x → p x ≡ true → Contains (filter p xs) x
kept_in p [] x there passes = absurd (omega (arith, there.1))
kept_in p (y ∷ xs) x (zero, below, is) passes = subst (λ z. Contains (filter p (z ∷ xs)) x) (sym is) (rw passes (contains_first x (filter p xs)))
kept_in p (y ∷ xs) x (suc k, below, is) passes = by (p y) (kept_in p xs x (k, omega (arith, below), is) passes)
  where
    by : (b : Bool) → Contains (filter p xs) x → Contains (if b then y ∷ filter p xs else filter p xs) x
    by true h = contains_later x y (filter p xs) h
    by false h = h

pub contains_in : (objects : List ObjectRow) (regions : List ℕ) (o : ObjectRow) → Contains objects o → Contains regions o.region → Contains (objects_in_all objects regions) o
contains_in objects [] o there in_region = absurd (omega (arith, in_region.1))
contains_in objects (r ∷ rest) o there (zero, below, is) = Contains-append_left (objects_in objects r) (objects_in_all objects rest) o (kept_in (λ p. p.region == r) objects o there (equal_test o.region r (sym is)))
contains_in objects (r ∷ rest) o there (suc k, below, is) = Contains-append_right (objects_in objects r) (objects_in_all objects rest) o (contains_in objects rest o there (k, omega (arith, below), is))
