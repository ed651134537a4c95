-- Why a move ends as it does, whatever others do meanwhile.
use Rattle.std.specs.Prelude.{◌≡◌, ◌≢◌, ℕ, ◌+◌, ◌<◌, ◌==◌, ◌⊎◌, nat_lt, if◌then◌else◌, Bool, true, false, List, [], ◌∷◌, ◌++◌, Option, Some, None, refl}
use Rattle.std.specs.Option.{ForSome}
use Rattle.std.proofs.Common.{subst, ap, sym, ◌∙◌, arith, inl, inr, append_assoc}
use Rattle.std.proofs.lemmas.Bool.{eqb-true}
use Rattle.std.proofs.lemmas.Bool.Decides.{nat_tests}
use Rattle.call_steps.specs.declared.step.Step.{Step}
use Rattle.call_steps.specs.declared.step.Step.TheVariants.{Store, Exchange, Ended}
use Rattle.call_steps.specs.Ending.{Taken, LastStep, EndsOnlyFor, up_to, step_of, ends_only_for}
use Rattle.space_reclaim.specs.declared.move_job.MoveJob.{MoveJob}
use Rattle.barriers.specs.declared.ends.MoveEnd.{MoveEnd}
use Rattle.barriers.specs.declared.ends.MoveEnd.TheVariants.{Moved, Kept}
use Rattle.clover_marks.specs.declared.mover.MoveHeaders.{MoveHeaders}
use Rattle.clover_marks.specs.declared.mover.Relocation.{Relocation}
use Rattle.clover_marks.specs.declared.mover.CloverMove.{CloverMove}
use Rattle.clover_marks.specs.declared.mover.CloverMove.TheVariants as move
use Rattle.clover_marks.specs.CloverMoves.{headers_of, begun_by, word_at, asks_of, fed_of, end_of, moved_to, marked}

-- ---- the cause

-- the store of a field's word in the copy, the exchange of it in the original for the mark, and the exchange of the header for Forward
abbrev pub put_step : Relocation → ℕ → ℕ → Step
put_step r field word = let job = r.job in Store (word_at job.to field) word

abbrev pub mark_step : Relocation → ℕ → ℕ → Step
mark_step r field word = let job = r.job in Exchange (word_at job.from field) word r.mark

abbrev pub forward_step : Relocation → Step
forward_step r = let job = r.job in let headers = r.headers in Exchange job.from headers.moving headers.forward

-- among these steps the field's word was stored in the copy, and the next step exchanged that very word for the mark
pub record WasMoved (r : Relocation) (field : ℕ) (steps : List Taken) : Type 0 where
  pub before : List Taken
  pub word : ℕ
  pub found : ℕ
  pub rest : List Taken
  pub splits : steps ≡ before ++ record { step = put_step r field word; found = found } ∷ record { step = mark_step r field word; found = word } ∷ rest

-- each field below this one was
abbrev pub AllMoved : Relocation → ℕ → List Taken → Type 0
AllMoved r most steps = (field : ℕ) → field < most → WasMoved r field steps

pub record HasMoved (r : Relocation) (last : LastStep) : Type 0 where
  pub step : last.step ≡ forward_step r
  pub all : (let job = r.job in AllMoved r job.len last.earlier)

-- It has moved the object where its last step was the exchange of the header for Forward, after all fields were moved; it ends in no other way.
abbrev pub MoveEnds : MoveJob → ℕ → LastStep → MoveEnd → Type 0
MoveEnds job mark last Moved = (headers : MoveHeaders) × (headers_of job ≡ Some headers) × HasMoved (record { job = job; headers = headers; mark = mark }) last
MoveEnds job mark last (Kept header) = ⊥

-- ---- that it is so

-- after these steps the last one put this word in the copy
pub record HasPut (r : Relocation) (field word : ℕ) (steps : List Taken) : Type 0 where
  pub before : List Taken
  pub found : ℕ
  pub splits : steps ≡ before ++ record { step = put_step r field word; found = found } ∷ []

abbrev IsMove : Relocation → List Taken → CloverMove → Type 0
IsMove r earlier (move.Header its) = its ≡ r
IsMove r earlier (move.Start its) = its ≡ r
IsMove r earlier (move.Load its field) = (its ≡ r) × AllMoved r field earlier
IsMove r earlier (move.Store its field word) = (its ≡ r) × AllMoved r field earlier
IsMove r earlier (move.Mark its field word) = (its ≡ r) × AllMoved r field earlier × HasPut r field word earlier
IsMove r earlier (move.Forward its) = (its ≡ r) × (let job = r.job in AllMoved r job.len earlier)
IsMove r earlier (move.Ended end) = Unit {0}

later : (r : Relocation) (field : ℕ) (steps : List Taken) (t : Taken) → WasMoved r field steps → WasMoved r field (steps ++ t ∷ [])
later r field steps t was =
    let put : Taken = record { step = put_step r field was.word; found = was.found } in
    let mark : Taken = record { step = mark_step r field was.word; found = was.word } in
    record {
      before = was.before;
      word = was.word;
      found = was.found;
      rest = was.rest ++ t ∷ [];
      splits = ap (λ (s : List Taken). s ++ t ∷ []) was.splits ∙ append_assoc was.before (put ∷ mark ∷ was.rest) (t ∷ []);
    }

all_later : (r : Relocation) (most : ℕ) (steps : List Taken) (t : Taken) → AllMoved r most steps → AllMoved r most (steps ++ t ∷ [])
all_later r most steps t all = λ field below. later r field steps t (all field below)

-- the exchange that wins moves the field
now : (r : Relocation) (field word : ℕ) (steps : List Taken) → HasPut r field word steps → WasMoved r field (steps ++ record { step = mark_step r field word; found = word } ∷ [])
now r field word steps put =
    let mark : Taken = record { step = mark_step r field word; found = word } in
    record {
      before = put.before;
      word = word;
      found = put.found;
      rest = [];
      splits = ap (λ (s : List Taken). s ++ mark ∷ []) put.splits ∙ append_assoc put.before (record { step = put_step r field word; found = put.found } ∷ []) (mark ∷ []);
    }

one_more : (field most : ℕ) → field < most + 1 → (field < most) ⊎ (most ≡ field)
one_more field most below = grind (arith, below)

all_now : (r : Relocation) (most : ℕ) (steps : List Taken) → AllMoved r most steps → WasMoved r most steps → AllMoved r (most + 1) steps
all_now r most steps all last field below = by (one_more field most below)
  where
    by : (field < most) ⊎ (most ≡ field) → WasMoved r field steps
    by (inl less) = all field less
    by (inr same) = subst (λ (f : ℕ). WasMoved r f steps) same last

module _ (job : MoveJob) (headers : MoveHeaders) (mark : ℕ) (known : headers_of job ≡ Some headers) where
  abbrev r : Relocation
  r = record { job = job; headers = headers; mark = mark }

  abbrev Is : List Taken → CloverMove → Type 0
  Is = IsMove r

  below : (f g len : ℕ) → nat_lt f len ≡ false → g < len → g < f
  below f g len e lt = grind (arith, nat_tests, e, lt)

  moved_by : (steps : List Taken) (its : Relocation) (field : ℕ) (b : Bool) → its ≡ r → nat_lt field job.len ≡ b → AllMoved r field steps → Is steps (if b then move.Load its field else move.Forward its)
  moved_by steps its field true same e all = (same, all)
  moved_by steps its field false same e all = (same, λ g lt. all g (below field g job.len e lt))

  moved_so : (steps : List Taken) (its : Relocation) (field : ℕ) → its ≡ r → AllMoved r field steps → Is steps (moved_to its field)
  moved_so steps its field same all = subst (λ (i : Relocation). Is steps (moved_to i field)) (sym same) (moved_by steps r field (nat_lt field job.len) refl refl all)

  marked_by : (steps : List Taken) (field : ℕ) (b : Bool) → nat_lt field job.len ≡ b → AllMoved r field steps → WasMoved r field steps → Is steps (if b then moved_to r (field + 1) else move.Forward r)
  marked_by steps field true e all last = moved_so steps r (field + 1) refl (all_now r field steps all last)
  marked_by steps field false e all last = (refl, λ g lt. all g (below field g job.len e lt))

  -- the exchange of the word
  taken_by : (earlier : List Taken) (field word n : ℕ) (b : Bool) → (n == word) ≡ b → AllMoved r field earlier → HasPut r field word earlier
      → Is (earlier ++ record { step = mark_step r field word; found = n } ∷ []) (if b then marked r field else move.Store r field n)
  taken_by earlier field word n true e all put =
      let won : n ≡ word = eqb-true n word e in
      let steps = earlier ++ record { step = mark_step r field word; found = n } ∷ [] in
      let last : WasMoved r field steps = subst (λ (i : ℕ). WasMoved r field (earlier ++ record { step = mark_step r field word; found = i } ∷ [])) (sym won) (now r field word earlier put) in
      marked_by steps field (nat_lt field job.len) refl (all_later r field earlier (record { step = mark_step r field word; found = n }) all) last
  taken_by earlier field word n false e all put = (refl, all_later r field earlier (record { step = mark_step r field word; found = n }) all)

  keeps : (earlier : List Taken) (m : CloverMove) (n : ℕ) → Is earlier m → Is (up_to (step_of asks_of earlier m n)) (fed_of m n)
  keeps earlier (move.Header its) n same = same
  keeps earlier (move.Start its) n same = moved_so _ its 0 same (λ field none. absurd (omega (arith, none)))
  keeps earlier (move.Load its field) n is = (is.0, all_later r field earlier _ is.1)
  keeps earlier (move.Store its field word) n is =
      (is.0, all_later r field earlier _ is.1, record { before = earlier; found = n; splits = ap (λ (i : Relocation). earlier ++ record { step = put_step i field word; found = n } ∷ []) is.0 })
  keeps earlier (move.Mark its field word) n is =
      subst (λ (i : Relocation). Is (earlier ++ record { step = mark_step i field word; found = n } ∷ []) (if n == word then marked i field else move.Store i field n)) (sym is.0)
      (taken_by earlier field word n (n == word) refl is.1 is.2)
  keeps earlier (move.Forward its) n is = tt
  keeps earlier (move.Ended end) n is = tt

  moved_ends : (last : LastStep) (its : Relocation) (field : ℕ) (b : Bool) → ForSome (end_of (if b then move.Load its field else move.Forward its)) (MoveEnds job mark last)
  moved_ends last its field true end is = absurd cc
  moved_ends last its field false end is = absurd cc

  marked_ends : (last : LastStep) (its : Relocation) (field : ℕ) (b : Bool) → ForSome (end_of (if b then moved_to its (field + 1) else move.Forward its)) (MoveEnds job mark last)
  marked_ends last its field true = moved_ends last its (field + 1) (let its_job = its.job in nat_lt (field + 1) its_job.len)
  marked_ends last its field false = λ end is. absurd cc

  taken_ends : (last : LastStep) (its : Relocation) (field n : ℕ) (b : Bool) → ForSome (end_of (if b then marked its field else move.Store its field n)) (MoveEnds job mark last)
  taken_ends last its field n true = marked_ends last its field (let its_job = its.job in nat_lt field its_job.len)
  taken_ends last its field n false = λ end is. absurd cc

  ends : (earlier : List Taken) (m : CloverMove) (n : ℕ) → Is earlier m → asks_of m ≢ Ended → ForSome (end_of (fed_of m n)) (MoveEnds job mark (step_of asks_of earlier m n))
  ends earlier (move.Header its) n is on = λ end gone. absurd cc
  ends earlier (move.Start its) n is on = moved_ends _ its 0 (let its_job = its.job in nat_lt 0 its_job.len)
  ends earlier (move.Load its field) n is on = λ end gone. absurd cc
  ends earlier (move.Store its field word) n is on = λ end gone. absurd cc
  ends earlier (move.Mark its field word) n is on = taken_ends _ its field n (n == word)
  ends earlier (move.Forward its) n is on = λ end gone.
      let moved : Moved ≡ end = cc in
      subst (MoveEnds job mark (step_of asks_of earlier (move.Forward its) n)) moved (headers, known, record { step = ap forward_step is.0; all = is.1 })
  ends earlier (move.Ended end) n is on = absurd (on refl)

  of_headers : EndsOnlyFor asks_of fed_of end_of (MoveEnds job mark) (move.Header r)
  of_headers = ends_only_for asks_of fed_of end_of (MoveEnds job mark) Is keeps ends (move.Header r) refl

-- one that has ended takes no step
over : (job : MoveJob) (mark : ℕ) (end : MoveEnd) → EndsOnlyFor asks_of fed_of end_of (MoveEnds job mark) (move.Ended end)
over job mark end = ends_only_for asks_of fed_of end_of (MoveEnds job mark) (λ earlier m. m ≡ move.Ended end) (λ earlier m n is. ap (λ k. fed_of k n) is) (λ earlier m n is on. absurd (on (ap asks_of is))) (move.Ended end) refl

-- a move with these headers, if it has any, ends only so
pub move_by : (job : MoveJob) (mark : ℕ) (o : Option MoveHeaders) → headers_of job ≡ o → EndsOnlyFor asks_of fed_of end_of (MoveEnds job mark) (begun_by job mark o)
move_by job mark None is = over job mark (Kept job.header)
move_by job mark (Some headers) is = of_headers job headers mark is
