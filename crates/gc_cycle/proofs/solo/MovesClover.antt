-- The move of Clover, where nobody else takes a step.
use Rattle.std.proofs.Common.{◌≡◌, ◌≢◌, ℕ, ◌+◌, ◌-◌, ◌*◌, ◌^◌, ◌<◌, ◌≤◌, Bool, true, false, List, Option, Some, None, refl, sym, ◌∙◌, arith, lit<, lit≤, get_or-set_other}
use Rattle.std.specs.Prelude.{◌==◌, nat_lt, if◌then◌else◌}
use Rattle.std.proofs.lemmas.Bool.Decides.{nat_tests}
use Rattle.call_steps.specs.declared.step.Step.TheVariants.{Ended}
use Rattle.call_steps.specs.Steps.{applied, found_by}
use Rattle.call_steps.specs.StepLaws.{reading}
use Rattle.space_reclaim.specs.declared.move_job.MoveJob.{MoveJob}
use Rattle.barriers.specs.MoveSteps.{IsJob}
use Rattle.clover_marks.specs.declared.mover.CloverMove.{CloverMove}
use Rattle.clover_marks.specs.declared.mover.CloverMove.TheVariants as move
use Rattle.clover_marks.specs.declared.mover.MoveHeaders.{MoveHeaders}
use Rattle.clover_marks.specs.declared.mover.Relocation.{Relocation}
use Rattle.clover_marks.specs.CloverMoves as machine
use Rattle.clover_marks.specs.CloverMoves.{word_at}
use Rattle.gc_cycle.proofs.solo.AloneAtRest.{load_same, same_eqb}
use Rattle.gc_cycle.proofs.solo.PlaysAlone.{most_move_steps, HasPlace}

-- ---- the steps that are left: three for each field that is left, and one at the end

abbrev len_of : Relocation → ℕ
len_of r = let job = r.job in job.len

abbrev pub left_of_move : CloverMove → ℕ
left_of_move (move.Header r) = 3 + 3 * len_of r
left_of_move (move.Start r) = 2 + 3 * len_of r
left_of_move (move.Load r field) = 4 + 3 * (len_of r - field - 1)
left_of_move (move.Store r field word) = 3 + 3 * (len_of r - field - 1)
left_of_move (move.Mark r field word) = 2 + 3 * (len_of r - field - 1)
left_of_move (move.Forward r) = 1
left_of_move (move.Ended end) = 0

-- ---- what is known of memory

-- the word in hand is still in the original
abbrev HasWord : (ℕ → ℕ) → Relocation → ℕ → ℕ → Type 0
HasWord memory r field word = HasPlace r.job × (memory (word_at (let job = r.job in job.from) field) ≡ word)

abbrev pub MoveAlone : (ℕ → ℕ) → CloverMove → Type 0
MoveAlone memory (move.Header r) = HasPlace r.job
MoveAlone memory (move.Start r) = HasPlace r.job
MoveAlone memory (move.Load r field) = HasPlace r.job
MoveAlone memory (move.Store r field word) = HasWord memory r field word
MoveAlone memory (move.Mark r field word) = HasWord memory r field word
MoveAlone memory m = Unit {0}

-- ---- how it begins

begun_few : (job : MoveJob) (mark : ℕ) (headers : Option MoveHeaders) → job.len ≤ 30 → left_of_move (machine.begun_by job mark headers) ≤ most_move_steps
begun_few job mark None few = lit≤ tt
begun_few job mark (Some headers) few = omega (arith, few)

pub move_few : (job : MoveJob) (mark : ℕ) → HasPlace job → left_of_move (machine.begun job mark) ≤ most_move_steps
move_few job mark place = begun_few job mark (machine.headers_of job) (let its = place.job in its.few)

begun_alone : (memory : ℕ → ℕ) (job : MoveJob) (mark : ℕ) (headers : Option MoveHeaders) → HasPlace job → MoveAlone memory (machine.begun_by job mark headers)
begun_alone memory job mark None place = tt
begun_alone memory job mark (Some headers) place = place

pub move_begins : (memory : ℕ → ℕ) (job : MoveJob) (mark : ℕ) → HasPlace job → MoveAlone memory (machine.begun job mark)
move_begins memory job mark place = begun_alone memory job mark (machine.headers_of job) place

-- ---- how it goes on

-- the same field of what is at two addresses has two words
words_apart : (a b field : ℕ) → a < 2 ^ 20 → b < 2 ^ 20 → a ≢ b → word_at a field ≢ word_at b field
words_apart a b field small low apart = λ same. apart (omega (arith, same, small, low))

-- with fewer steps left
abbrev FallsTo : ℕ → (ℕ → ℕ) → CloverMove → Type 0
FallsTo before memory m = (left_of_move m < before) × MoveAlone memory m

module _ (memory : ℕ → ℕ) (r : Relocation) (place : HasPlace r.job) (before : ℕ) where
  -- with the fields below this one moved
  moved_falls : (field : ℕ) (b : Bool) → nat_lt field (len_of r) ≡ b → 1 < before → 1 + 3 * (len_of r - field) < before
      → FallsTo before memory (if b then move.Load r field else move.Forward r)
  moved_falls field true is some more = let within : field < len_of r = grind (arith, nat_tests) in (omega (arith, within, more), place)
  moved_falls field false is some more = (some, tt)

  -- with this one moved, too
  marked_falls : (field : ℕ) (b : Bool) → nat_lt field (len_of r) ≡ b → 1 + 3 * (len_of r - field - 1) < before
      → FallsTo before memory (if b then machine.moved_to r (field + 1) else move.Forward r)
  marked_falls field true is more = moved_falls (field + 1) (nat_lt (field + 1) (len_of r)) refl (omega (arith, more)) (omega (arith, more))
  marked_falls field false is more = (omega (arith, more), tt)

  -- an exchange that finds what it wants is not lost
  won_falls : (field : ℕ) (lost : CloverMove) (b : Bool) → b ≡ true → 1 + 3 * (len_of r - field - 1) < before → FallsTo before memory (if b then machine.marked r field else lost)
  won_falls field lost true e more = marked_falls field (nat_lt field (len_of r)) refl more
  won_falls field lost false e more = absurd cc

-- ---- a step

module _ (words : List ℕ) where
  -- what it goes on to, and memory then
  abbrev next : CloverMove → CloverMove
  next m = machine.fed_of m (found_by (machine.asks_of m) words)

  abbrev after : CloverMove → ℕ → ℕ
  after m = reading (applied (machine.asks_of m) words)

  pub moves_on : (m : CloverMove) → machine.asks_of m ≢ Ended → MoveAlone (reading words) m → FallsTo (left_of_move m) (after m) (next m)
  moves_on (move.Header r) on place = (omega arith, place)
  moves_on (move.Start r) on place = moved_falls (after (move.Start r)) r place (left_of_move (move.Start r)) 0 (nat_lt 0 (len_of r)) refl (omega arith) (omega arith)
  moves_on (move.Load r field) on place = let from : ℕ = word_at (let job = r.job in job.from) field in (omega arith, (place, load_same words from from))
  moves_on (move.Store r field word) on stands =
      let job : MoveJob = r.job in
      let place : HasPlace job = stands.0 in
      let its : IsJob job = place.job in
      let apart : word_at job.from field ≢ word_at job.to field = words_apart job.from job.to field its.near.0 its.near.1 (λ same. place.from (sym same)) in
      (omega arith, (place, get_or-set_other words (word_at job.to field) (word_at job.from field) word 0 apart ∙ stands.1))
  moves_on (move.Mark r field word) on stands =
      let n : ℕ = reading words (word_at (let job = r.job in job.from) field) in
      won_falls (after (move.Mark r field word)) r stands.0 (left_of_move (move.Mark r field word)) field (move.Store r field n) (n == word) (same_eqb n word stands.1) (omega arith)
  moves_on (move.Forward r) on stands = (lit< tt, tt)
  moves_on (move.Ended end) on stands = absurd (on refl)
