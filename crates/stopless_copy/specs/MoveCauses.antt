-- Why a move ends as it does, whatever others do meanwhile.
use Rattle.std.specs.Prelude.{◌≡◌, ◌≢◌, ℕ, ◌+◌, ◌==◌, nat_lt, if◌then◌else◌, Bool, true, false, List, [], ◌∷◌, ◌++◌, Option, Some, None, refl}
use Rattle.std.specs.Option.{ForSome}
use Rattle.std.proofs.Common.{subst, sym, ap, ◌∙◌, append_assoc}
use Rattle.std.proofs.lemmas.Bool.{eqb-true, eqb-false}
use Rattle.call_steps.specs.declared.step.Step.{Step}
use Rattle.call_steps.specs.declared.step.Step.TheVariants.{Store, Exchange, Ended}
use Rattle.call_steps.specs.Ending.{Taken, LastStep, EndsOnlyFor, up_to, step_of, ends_only_for}
use Rattle.wide_objects.specs.declared.wide_word.Status2.{Status2}
use Rattle.wide_objects.specs.declared.wide_word.Status2.TheVariants.{InOriginal, InWide, InCopy}
use Rattle.wide_objects.specs.WideWords.{wide_word_at}
use Rattle.space_reclaim.specs.declared.move_job.MoveJob.{MoveJob}
use Rattle.barriers.specs.declared.ends.MoveEnd.{MoveEnd}
use Rattle.barriers.specs.declared.ends.MoveEnd.TheVariants.{Moved, Kept}
use Rattle.stopless_copy.specs.declared.mover.MoveHeaders.{MoveHeaders}
use Rattle.stopless_copy.specs.declared.mover.MoveTask.{MoveTask}
use Rattle.stopless_copy.specs.declared.mover.Carry.{Carry}
use Rattle.stopless_copy.specs.declared.mover.Carry.TheVariants as carry
use Rattle.stopless_copy.specs.declared.mover.StoplessMove.{StoplessMove}
use Rattle.stopless_copy.specs.declared.mover.StoplessMove.TheVariants as move
use Rattle.stopless_copy.specs.WideSteps.{in_wide}
use Rattle.stopless_copy.specs.StoplessMoves.{headers_of, begun_by, asks_of, fed_of, end_of, carried_on, carried, finished, asked_by, asked, carried_by, sealed}

-- the exchange of the original's header for Wide, and for Forward
abbrev pub seal : MoveTask → Step
seal task = Exchange task.job.from task.headers.tagged task.headers.wide

abbrev pub pass_on : MoveTask → Step
pass_on task = Exchange task.job.from task.headers.wide task.headers.forward

-- one of these steps was the exchange for Wide, and won
pub record HasSealed (task : MoveTask) (steps : List Taken) : Type 0 where
  pub before : List Taken
  pub later : List Taken
  pub splits : steps ≡ before ++ record { step = seal task; found = task.headers.tagged } ∷ later

-- the last of these steps was that exchange, and it lost to this header
pub record HasLost (task : MoveTask) (steps : List Taken) (header : ℕ) : Type 0 where
  pub before : List Taken
  pub last : steps ≡ before ++ record { step = seal task; found = header } ∷ []
  pub other : header ≢ task.headers.tagged

-- It has moved the object where its last step was the exchange for Forward, and that for Wide had won before; it has kept it where the exchange for Wide lost to
-- the header that it tells, and its last step made the copy's header Dead.
abbrev pub MoveEndsFor : MoveTask → LastStep → MoveEnd → Type 0
MoveEndsFor task last Moved = (last.step ≡ pass_on task) × HasSealed task last.earlier
MoveEndsFor task last (Kept header) = (last.step ≡ Store task.job.to task.headers.dead) × HasLost task last.earlier header

-- with the headers of the job
abbrev pub MoveEnds : MoveJob → LastStep → MoveEnd → Type 0
MoveEnds job last end = (headers : MoveHeaders) × (headers_of job ≡ Some headers) × MoveEndsFor (record { job = job; headers = headers }) last end

-- after these steps the machine is the move of this task
abbrev IsMoveFor : MoveTask → List Taken → StoplessMove → Type 0
IsMoveFor task earlier (move.Header its) = its ≡ task
IsMoveFor task earlier (move.Address its) = its ≡ task
IsMoveFor task earlier (move.Seal its) = its ≡ task
IsMoveFor task earlier (move.GiveUp its header) = (its ≡ task) × HasLost task earlier header
IsMoveFor task earlier (move.Carries its field how) = (its ≡ task) × HasSealed task earlier
IsMoveFor task earlier (move.Forward its) = (its ≡ task) × HasSealed task earlier
IsMoveFor task earlier (move.Ended end) = Unit {0}

sealed_on : (task : MoveTask) (earlier : List Taken) (step : Taken) → HasSealed task earlier → HasSealed task (earlier ++ step ∷ [])
sealed_on task earlier step sealed = record {
  before = sealed.before;
  later = sealed.later ++ step ∷ [];
  splits = ap (λ (s : List Taken). s ++ step ∷ []) sealed.splits ∙ append_assoc sealed.before (record { step = seal task; found = task.headers.tagged } ∷ sealed.later) (step ∷ []);
}

module _ (job : MoveJob) (headers : MoveHeaders) (known : headers_of job ≡ Some headers) where
  abbrev task : MoveTask
  task = record { job = job; headers = headers }

  abbrev Is : List Taken → StoplessMove → Type 0
  Is = IsMoveFor task

  abbrev Ends : StoplessMove → LastStep → Type 0
  Ends m last = ForSome (end_of m) (MoveEnds job last)

  -- ---- the fields

  module _ (earlier : List Taken) (sealed : HasSealed task earlier) where
    carried_is : (field : ℕ) (b : Bool) → Is earlier (if b then carried_on task field carry.Ask else move.Forward task)
    carried_is field true = (refl, sealed)
    carried_is field false = (refl, sealed)

    finished_is : (field : ℕ) (b : Bool) → Is earlier (if b then carried task (field + 1) else move.Forward task)
    finished_is field true = carried_is (field + 1) (nat_lt (field + 1) job.len)
    finished_is field false = (refl, sealed)

    asked_is : (field : ℕ) (status : Status2) (word : ℕ) → Is earlier (asked_by task field status word)
    asked_is field InOriginal word = (refl, sealed)
    asked_is field InWide word = (refl, sealed)
    asked_is field InCopy word = finished_is field (nat_lt field job.len)

    tried_is : (field n : ℕ) (m : StoplessMove) → Is earlier m → (b : Bool) → Is earlier (if b then m else asked task field (wide_word_at n))
    tried_is field n m is true = is
    tried_is field n m is false = let w = wide_word_at n in asked_is field w.status w.word

    carry_is : (field : ℕ) (how : Carry) (n : ℕ) → Is earlier (carried_by task field how n)
    carry_is field carry.Ask n = let w = wide_word_at n in asked_is field w.status w.word
    carry_is field carry.Load n = (refl, sealed)
    carry_is field (carry.Widen word) n = tried_is field n (carried_on task field (carry.Store word)) (refl, sealed) (n == 0)
    carry_is field (carry.Store word) n = (refl, sealed)
    carry_is field (carry.Finish word) n = tried_is field n (finished task field) (finished_is field (nat_lt field job.len)) (n == in_wide word)

  -- ---- each step

  sealed_is : (earlier : List Taken) (n : ℕ) (b : Bool) → (n == headers.tagged) ≡ b → Is (earlier ++ record { step = seal task; found = n } ∷ []) (if b then carried task 0 else move.GiveUp task n)
  sealed_is earlier n true e =
      let won : n ≡ headers.tagged = eqb-true n headers.tagged e in
      carried_is (earlier ++ record { step = seal task; found = n } ∷ []) (record { before = earlier; later = []; splits = ap (λ (w : ℕ). earlier ++ record { step = seal task; found = w } ∷ []) won }) 0 (nat_lt 0 job.len)
  sealed_is earlier n false e = (refl, record { before = earlier; last = refl; other = eqb-false n headers.tagged e })

  keeps : (earlier : List Taken) (m : StoplessMove) (n : ℕ) → Is earlier m → Is (up_to (step_of asks_of earlier m n)) (fed_of m n)
  keeps earlier (move.Header its) n is = is
  keeps earlier (move.Address its) n is = is
  keeps earlier (move.Seal its) n is = subst (λ (t : MoveTask). Is (up_to (step_of asks_of earlier (move.Seal t) n)) (sealed t n)) (sym is) (sealed_is earlier n (n == headers.tagged) refl)
  keeps earlier (move.GiveUp its header) n is = tt
  keeps earlier (move.Carries its field how) n is =
      subst (λ (t : MoveTask). Is (up_to (step_of asks_of earlier (move.Carries t field how) n)) (carried_by t field how n)) (sym is.0)
      (carry_is (up_to (step_of asks_of earlier (move.Carries task field how) n)) (sealed_on task earlier _ is.1) field how n)
  keeps earlier (move.Forward its) n is = tt
  keeps earlier (move.Ended end) n is = tt

  -- ---- each end

  carried_ends : (last : LastStep) (its : MoveTask) (field : ℕ) (b : Bool) → Ends (if b then carried_on its field carry.Ask else move.Forward its) last
  carried_ends last its field true end is = absurd cc
  carried_ends last its field false end is = absurd cc

  finished_ends : (last : LastStep) (its : MoveTask) (field : ℕ) (b : Bool) → Ends (if b then carried its (field + 1) else move.Forward its) last
  finished_ends last its field true end is = carried_ends last its (field + 1) (nat_lt (field + 1) its.job.len) end is
  finished_ends last its field false end is = absurd cc

  asked_ends : (last : LastStep) (its : MoveTask) (field : ℕ) (status : Status2) (word : ℕ) → Ends (asked_by its field status word) last
  asked_ends last its field InOriginal word end is = absurd cc
  asked_ends last its field InWide word end is = absurd cc
  asked_ends last its field InCopy word end is = finished_ends last its field (nat_lt field its.job.len) end is

  tried_ends : (last : LastStep) (its : MoveTask) (field n : ℕ) (m : StoplessMove) → Ends m last → (b : Bool) → Ends (if b then m else asked its field (wide_word_at n)) last
  tried_ends last its field n m ends true = ends
  tried_ends last its field n m ends false = let w = wide_word_at n in asked_ends last its field w.status w.word

  carry_ends : (last : LastStep) (its : MoveTask) (field : ℕ) (how : Carry) (n : ℕ) → Ends (carried_by its field how n) last
  carry_ends last its field carry.Ask n = let w = wide_word_at n in asked_ends last its field w.status w.word
  carry_ends last its field carry.Load n = λ end is. absurd cc
  carry_ends last its field (carry.Widen word) n = tried_ends last its field n (carried_on its field (carry.Store word)) (λ end is. absurd cc) (n == 0)
  carry_ends last its field (carry.Store word) n = λ end is. absurd cc
  carry_ends last its field (carry.Finish word) n = tried_ends last its field n (finished its field) (finished_ends last its field (nat_lt field its.job.len)) (n == in_wide word)

  sealed_ends : (last : LastStep) (its : MoveTask) (n : ℕ) (b : Bool) → Ends (if b then carried its 0 else move.GiveUp its n) last
  sealed_ends last its n true end is = carried_ends last its 0 (nat_lt 0 its.job.len) end is
  sealed_ends last its n false end is = absurd cc

  ends : (earlier : List Taken) (m : StoplessMove) (n : ℕ) → Is earlier m → asks_of m ≢ Ended → Ends (fed_of m n) (step_of asks_of earlier m n)
  ends earlier (move.Header its) n is on = λ end so. absurd cc
  ends earlier (move.Address its) n is on = λ end so. absurd cc
  ends earlier (move.Seal its) n is on = sealed_ends (step_of asks_of earlier (move.Seal its) n) its n (n == its.headers.tagged)
  ends earlier (move.GiveUp its header) n is on = λ end so.
      let kept : Kept header ≡ end = cc in
      subst (MoveEnds job (step_of asks_of earlier (move.GiveUp its header) n)) kept (headers, known, (ap (λ (t : MoveTask). Store t.job.to t.headers.dead) is.0, is.1))
  ends earlier (move.Carries its field how) n is on = carry_ends (step_of asks_of earlier (move.Carries its field how) n) its field how n
  ends earlier (move.Forward its) n is on = λ end so.
      let moved : Moved ≡ end = cc in
      subst (MoveEnds job (step_of asks_of earlier (move.Forward its) n)) moved (headers, known, (ap pass_on is.0, is.1))
  ends earlier (move.Ended end) n is on = absurd (on refl)

  of_headers : EndsOnlyFor asks_of fed_of end_of (MoveEnds job) (move.Header task)
  of_headers = ends_only_for asks_of fed_of end_of (MoveEnds job) Is keeps ends (move.Header task) refl

-- one that has ended takes no step
over : (job : MoveJob) (end : MoveEnd) → EndsOnlyFor asks_of fed_of end_of (MoveEnds job) (move.Ended end)
over job end = ends_only_for asks_of fed_of end_of (MoveEnds job) (λ earlier m. m ≡ move.Ended end) (λ earlier m n is. ap (λ k. fed_of k n) is) (λ earlier m n is on. absurd (on (ap asks_of is))) (move.Ended end) refl

-- a move with these headers, if it has any, ends only so
pub move_by : (job : MoveJob) (o : Option MoveHeaders) → headers_of job ≡ o → EndsOnlyFor asks_of fed_of end_of (MoveEnds job) (begun_by job o)
move_by job None is = over job (Kept job.header)
move_by job (Some headers) is = of_headers job headers is
