-- Why a move ends as it does, whatever others do meanwhile.
use Rattle.std.specs.Prelude.{◌≡◌, ◌≢◌, ℕ, ◌+◌, ◌==◌, nat_lt, if◌then◌else◌, Bool, true, false, List, [], ◌∷◌, ◌++◌, Option, Some, None, refl}
use Rattle.std.specs.Option.{ForSome}
use Rattle.std.proofs.Common.{subst, ap, ◌∙◌}
use Rattle.std.proofs.lemmas.Bool.{eqb-true, eqb-false}
use Rattle.call_steps.specs.declared.step.Step.{Step}
use Rattle.call_steps.specs.declared.step.Step.TheVariants.{Store, Exchange, Ended}
use Rattle.call_steps.specs.Ending.{Taken, LastStep, EndsOnlyFor, up_to, step_of, ends_only_for}
use Rattle.space_reclaim.specs.declared.move_job.MoveJob.{MoveJob}
use Rattle.barriers.specs.declared.ends.MoveEnd.{MoveEnd}
use Rattle.barriers.specs.declared.ends.MoveEnd.TheVariants.{Moved, Kept}
use Rattle.chicken_tags.specs.declared.mover.MoveHeaders.{MoveHeaders}
use Rattle.chicken_tags.specs.declared.mover.ChickenMove.{ChickenMove}
use Rattle.chicken_tags.specs.declared.mover.ChickenMove.TheVariants as move
use Rattle.chicken_tags.specs.ChickenMoves.{headers_of, begun_by, asks_of, fed_of, end_of, copied}

-- the exchange of the original's header for Forward
abbrev pub seal : MoveJob → MoveHeaders → Step
seal job headers = Exchange job.from headers.tagged headers.forward

-- the last of these steps was that exchange, and it lost to this header
pub record HasLost (job : MoveJob) (headers : MoveHeaders) (steps : List Taken) (header : ℕ) : Type 0 where
  pub before : List Taken
  pub last : steps ≡ before ++ record { step = seal job headers; found = header } ∷ []
  pub other : header ≢ headers.tagged

-- It has moved the object where its last step was that exchange, and won; it has kept it where the exchange lost to the header that it tells, and its
-- last step made the copy's header Dead.
abbrev pub MoveEndsFor : MoveJob → MoveHeaders → LastStep → MoveEnd → Type 0
MoveEndsFor job headers last Moved = (last.step ≡ seal job headers) × (last.found ≡ headers.tagged)
MoveEndsFor job headers last (Kept header) = (last.step ≡ Store job.to headers.dead) × HasLost job headers last.earlier header

-- with the headers of the job
abbrev pub MoveEnds : MoveJob → LastStep → MoveEnd → Type 0
MoveEnds job last end = (headers : MoveHeaders) × (headers_of job ≡ Some headers) × MoveEndsFor job headers last end

-- after these steps the machine is the move of this job
abbrev IsMoveFor : MoveJob → MoveHeaders → List Taken → ChickenMove → Type 0
IsMoveFor job headers earlier (move.Header its words) = (its ≡ job) × (words ≡ headers)
IsMoveFor job headers earlier (move.Load its words field) = (its ≡ job) × (words ≡ headers)
IsMoveFor job headers earlier (move.Store its words field word) = (its ≡ job) × (words ≡ headers)
IsMoveFor job headers earlier (move.Forward its words) = (its ≡ job) × (words ≡ headers)
IsMoveFor job headers earlier (move.GiveUp its words header) = (its ≡ job) × (words ≡ headers) × HasLost job headers earlier header
IsMoveFor job headers earlier (move.Ended end) = Unit {0}

module _ (job : MoveJob) (headers : MoveHeaders) (known : headers_of job ≡ Some headers) where
  abbrev Is : List Taken → ChickenMove → Type 0
  Is = IsMoveFor job headers

  copied_by : (earlier : List Taken) (its : MoveJob) (words : MoveHeaders) (field : ℕ) (b : Bool) → (its ≡ job) × (words ≡ headers) → Is earlier (if b then move.Load its words field else move.Forward its words)
  copied_by earlier its words field true same = same
  copied_by earlier its words field false same = same

  stored_by : (earlier : List Taken) (its : MoveJob) (words : MoveHeaders) (field : ℕ) (b : Bool) → (its ≡ job) × (words ≡ headers) → Is earlier (if b then copied its words (field + 1) else move.Forward its words)
  stored_by earlier its words field true same = copied_by earlier its words (field + 1) (nat_lt (field + 1) its.len) same
  stored_by earlier its words field false same = same

  sealed_by : (earlier : List Taken) (its : MoveJob) (words : MoveHeaders) (n : ℕ) (b : Bool) → (its ≡ job) × (words ≡ headers) → (n == words.tagged) ≡ b
      → Is (earlier ++ record { step = seal its words; found = n } ∷ []) (if b then move.Ended Moved else move.GiveUp its words n)
  sealed_by earlier its words n true same e = tt
  sealed_by earlier its words n false same e = (
    same.0,
    same.1,
    record {
      before = earlier;
      last = ap (λ (step : Step). earlier ++ record { step = step; found = n } ∷ []) (ap (λ (j : MoveJob). seal j words) same.0 ∙ ap (seal job) same.1);
      other = subst (λ (h : MoveHeaders). n ≢ h.tagged) same.1 (eqb-false n words.tagged e);
    },
  )

  keeps : (earlier : List Taken) (m : ChickenMove) (n : ℕ) → Is earlier m → Is (up_to (step_of asks_of earlier m n)) (fed_of m n)
  keeps earlier (move.Header its words) n same = copied_by _ its words 0 (nat_lt 0 its.len) same
  keeps earlier (move.Load its words field) n same = same
  keeps earlier (move.Store its words field word) n same = stored_by _ its words field (nat_lt field its.len) same
  keeps earlier (move.Forward its words) n same = sealed_by earlier its words n (n == words.tagged) same refl
  keeps earlier (move.GiveUp its words header) n same = tt
  keeps earlier (move.Ended end) n same = tt

  copied_ends : (last : LastStep) (its : MoveJob) (words : MoveHeaders) (field : ℕ) (b : Bool) → ForSome (end_of (if b then move.Load its words field else move.Forward its words)) (MoveEnds job last)
  copied_ends last its words field true end is = absurd cc
  copied_ends last its words field false end is = absurd cc

  stored_ends : (last : LastStep) (its : MoveJob) (words : MoveHeaders) (field : ℕ) (b : Bool) → ForSome (end_of (if b then copied its words (field + 1) else move.Forward its words)) (MoveEnds job last)
  stored_ends last its words field true end is = copied_ends last its words (field + 1) (nat_lt (field + 1) its.len) end is
  stored_ends last its words field false end is = absurd cc

  seal_ends : (earlier : List Taken) (its : MoveJob) (words : MoveHeaders) (n : ℕ) (b : Bool) → (its ≡ job) × (words ≡ headers) → (n == words.tagged) ≡ b
      → ForSome (end_of (if b then move.Ended Moved else move.GiveUp its words n)) (MoveEnds job (record { earlier = earlier; step = seal its words; found = n }))
  seal_ends earlier its words n true same e end is =
      let moved : Moved ≡ end = cc in
      subst (MoveEnds job (record { earlier = earlier; step = seal its words; found = n })) moved
      (headers, known, (ap (λ (j : MoveJob). seal j words) same.0 ∙ ap (seal job) same.1, eqb-true n words.tagged e ∙ ap (λ (h : MoveHeaders). h.tagged) same.1))
  seal_ends earlier its words n false same e end is = absurd cc

  ends : (earlier : List Taken) (m : ChickenMove) (n : ℕ) → Is earlier m → asks_of m ≢ Ended → ForSome (end_of (fed_of m n)) (MoveEnds job (step_of asks_of earlier m n))
  ends earlier (move.Header its words) n same on = copied_ends _ its words 0 (nat_lt 0 its.len)
  ends earlier (move.Load its words field) n same on = λ end is. absurd cc
  ends earlier (move.Store its words field word) n same on = stored_ends _ its words field (nat_lt field its.len)
  ends earlier (move.Forward its words) n same on = seal_ends earlier its words n (n == words.tagged) same refl
  ends earlier (move.GiveUp its words header) n same on = λ end is.
      let kept : Kept header ≡ end = cc in
      let step : Store its.to words.dead ≡ Store job.to headers.dead = ap (λ (j : MoveJob). Store j.to words.dead) same.0 ∙ ap (λ (h : MoveHeaders). Store job.to h.dead) same.1 in
      subst (MoveEnds job (step_of asks_of earlier (move.GiveUp its words header) n)) kept (headers, known, (step, same.2))
  ends earlier (move.Ended end) n same on = absurd (on refl)

  of_headers : EndsOnlyFor asks_of fed_of end_of (MoveEnds job) (move.Header job headers)
  of_headers = ends_only_for asks_of fed_of end_of (MoveEnds job) Is keeps ends (move.Header job headers) (refl, refl)

-- one that has ended takes no step
over : (job : MoveJob) (end : MoveEnd) → EndsOnlyFor asks_of fed_of end_of (MoveEnds job) (move.Ended end)
over job end = ends_only_for asks_of fed_of end_of (MoveEnds job) (λ earlier m. m ≡ move.Ended end) (λ earlier m n is. ap (λ k. fed_of k n) is) (λ earlier m n is on. absurd (on (ap asks_of is))) (move.Ended end) refl

-- a move with these headers, if it has any, ends only so
pub move_by : (job : MoveJob) (o : Option MoveHeaders) → headers_of job ≡ o → EndsOnlyFor asks_of fed_of end_of (MoveEnds job) (begun_by job o)
move_by job None is = over job (Kept job.header)
move_by job (Some headers) is = of_headers job headers is
