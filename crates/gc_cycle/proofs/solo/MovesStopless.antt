-- The move of Stopless, where nobody else takes a step.
use Rattle.std.proofs.Common.{◌≡◌, ◌≢◌, ℕ, ◌+◌, ◌-◌, ◌*◌, ◌^◌, ◌<◌, ◌≤◌, Bool, true, false, List, Option, Some, None, refl, sym, ap, subst, ◌∙◌, arith, lit<, lit≤, get_or-set_other}
use Rattle.std.specs.Prelude.{◌==◌, nat_lt, if◌then◌else◌}
use Rattle.std.proofs.lemmas.Bool.Decides.{nat_tests}
use prog.Atomic.{either}
use Rattle.call_steps.specs.declared.step.Step.TheVariants.{Exchange, Ended}
use Rattle.call_steps.specs.Steps.{applied, found_by, put_by}
use Rattle.call_steps.specs.StepLaws.{reading, applied-puts}
use Rattle.heap_words.specs.declared.field_word.FieldWord.{FieldWord}
use Rattle.heap_words.specs.FieldWordLaws.{field_at-word_of}
use Rattle.wide_objects.specs.declared.wide_word.WideWord.{WideWord}
use Rattle.wide_objects.specs.WideWords.{wide_word_at}
use Rattle.wide_objects.specs.Statuses.{Status, InOriginal, InWide, InCopy, IsStatus, word_of_status, wide_of_status}
use Rattle.space_reclaim.specs.declared.move_job.MoveJob.{MoveJob}
use Rattle.barriers.specs.MoveSteps.{IsJob}
use Rattle.stopless_copy.specs.declared.mover.Carry.{Carry}
use Rattle.stopless_copy.specs.declared.mover.Carry.TheVariants as carry
use Rattle.stopless_copy.specs.declared.mover.MoveHeaders.{MoveHeaders}
use Rattle.stopless_copy.specs.declared.mover.MoveTask.{MoveTask}
use Rattle.stopless_copy.specs.declared.mover.StoplessMove.{StoplessMove}
use Rattle.stopless_copy.specs.declared.mover.StoplessMove.TheVariants as move
use Rattle.stopless_copy.specs.StoplessLaws.{kit_of_stopless, steps_of_stopless}
use Rattle.stopless_copy.specs.StoplessMoves as machine
use Rattle.stopless_copy.specs.StoplessMoves.{word_at}
use Rattle.stopless_copy.specs.WideLaws.{wide_found}
use Rattle.stopless_copy.specs.WideSteps.{in_wide}
use Rattle.gc_cycle.proofs.solo.AloneAtRest.{load_same, same_eqb}
use Rattle.gc_cycle.proofs.solo.PlaysAlone.{most_move_steps, HasPlace, MoveFinds}

-- ---- the steps that are left

-- of the five at a field
abbrev left_of_carry : Carry → ℕ
left_of_carry carry.Ask = 5
left_of_carry carry.Load = 4
left_of_carry (carry.Widen word) = 3
left_of_carry (carry.Store word) = 2
left_of_carry (carry.Finish word) = 1

-- five for each field that is left, and one at the end
abbrev pub left_of_move : StoplessMove → ℕ
left_of_move (move.Header task) = 4 + 5 * task.job.len
left_of_move (move.Address task) = 3 + 5 * task.job.len
left_of_move (move.Seal task) = 2 + 5 * task.job.len
left_of_move (move.GiveUp task header) = 1
left_of_move (move.Carries task field how) = 1 + 5 * (task.job.len - field - 1) + left_of_carry how
left_of_move (move.Forward task) = 1
left_of_move (move.Ended end) = 0

-- ---- what is known of memory

-- the wide word of the field is at rest until it is exchanged, and then has the word in hand
abbrev CarryAlone : (ℕ → ℕ) → MoveJob → ℕ → Carry → Type 0
CarryAlone memory job field carry.Ask = Unit {0}
CarryAlone memory job field carry.Load = memory (word_at job.wide field) ≡ 0
CarryAlone memory job field (carry.Widen word) = memory (word_at job.wide field) ≡ 0
CarryAlone memory job field (carry.Store word) = memory (word_at job.wide field) ≡ in_wide word
CarryAlone memory job field (carry.Finish word) = memory (word_at job.wide field) ≡ in_wide word

abbrev pub MoveAlone : (ℕ → ℕ) → StoplessMove → Type 0
MoveAlone memory (move.Header task) = HasPlace task.job
MoveAlone memory (move.Address task) = HasPlace task.job
MoveAlone memory (move.Seal task) = HasPlace task.job
MoveAlone memory (move.Carries task field how) = HasPlace task.job × CarryAlone memory task.job field how
MoveAlone memory m = Unit {0}

-- ---- how it begins

begun_few : (job : MoveJob) (headers : Option MoveHeaders) → job.len ≤ 30 → left_of_move (machine.begun_by job headers) ≤ most_move_steps
begun_few job None few = lit≤ tt
begun_few job (Some headers) few = omega (arith, few)

pub move_few : (job : MoveJob) → HasPlace job → left_of_move (machine.begun job) ≤ most_move_steps
move_few job place = begun_few job (machine.headers_of job) (let its = place.job in its.few)

begun_alone : (memory : ℕ → ℕ) (job : MoveJob) (headers : Option MoveHeaders) → HasPlace job → MoveAlone memory (machine.begun_by job headers)
begun_alone memory job None place = tt
begun_alone memory job (Some headers) place = place

pub move_begins : (memory : ℕ → ℕ) (job : MoveJob) → HasPlace job → MoveAlone memory (machine.begun job)
move_begins memory job place = begun_alone memory job (machine.headers_of job) place

-- ---- words

-- the same field of what is at two addresses has two words
words_apart : (a b field : ℕ) → a < 2 ^ 20 → b < 2 ^ 20 → a ≢ b → word_at a field ≢ word_at b field
words_apart a b field small low apart = λ same. apart (omega (arith, same, small, low))

-- an exchange that finds what it wants puts its word
put_won : (at want put word : ℕ) → word ≡ want → put_by (Exchange at want put) word ≡ put
put_won at want put word won = ap (λ (b : Bool). either b put word) (same_eqb word want won)

-- ---- how it goes on

-- with fewer steps left
abbrev FallsTo : ℕ → (ℕ → ℕ) → StoplessMove → Type 0
FallsTo before memory m = (left_of_move m < before) × MoveAlone memory m

module _ (memory : ℕ → ℕ) (task : MoveTask) (place : HasPlace task.job) (before : ℕ) where
  -- with the fields below this one in the copy
  carried_falls : (field : ℕ) (b : Bool) → nat_lt field task.job.len ≡ b → 1 < before → 1 + 5 * (task.job.len - field) < before
      → FallsTo before memory (if b then machine.carried_on task field carry.Ask else move.Forward task)
  carried_falls field true is some more = let within : field < task.job.len = grind (arith, nat_tests) in (omega (arith, within, more), (place, tt))
  carried_falls field false is some more = (some, tt)

  -- with this one in the copy, too
  finished_falls : (field : ℕ) (b : Bool) → nat_lt field task.job.len ≡ b → 1 + 5 * (task.job.len - field - 1) < before
      → FallsTo before memory (if b then machine.carried task (field + 1) else move.Forward task)
  finished_falls field true is more = carried_falls (field + 1) (nat_lt (field + 1) task.job.len) refl (omega (arith, more)) (omega (arith, more))
  finished_falls field false is more = (omega (arith, more), tt)

  -- after the exchange for Wide
  sealed_falls : (n : ℕ) (b : Bool) → 1 + 5 * task.job.len < before → FallsTo before memory (if b then machine.carried task 0 else move.GiveUp task n)
  sealed_falls n true more = carried_falls 0 (nat_lt 0 task.job.len) refl (omega (arith, more)) (omega (arith, more))
  sealed_falls n false more = (omega (arith, more), tt)

  module _ (field : ℕ) where
    abbrev later : ℕ
    later = 5 * (task.job.len - field - 1)

    -- by the status that the look found
    status_falls : (u : Status) (n : ℕ) → IsStatus u → n ≡ word_of_status u → memory (word_at task.job.wide field) ≡ n → 5 + later < before
        → FallsTo before memory (machine.asked task field (wide_of_status u))
    unfolding word_of_status
    status_falls InOriginal n fits same there more = (omega (arith, more), (place, there ∙ same))
    status_falls (InWide w) n fits same there more =
        (omega (arith, more), (place, there ∙ (same ∙ ap (λ (x : FieldWord). word_of_status (InWide x)) (sym (field_at-word_of w fits)))))
    status_falls (InCopy w) n fits same there more = finished_falls field (nat_lt field task.job.len) refl (omega (arith, more))

    asked_falls : (u : Status) (n : ℕ) → (n ≡ word_of_status u) × IsStatus u → memory (word_at task.job.wide field) ≡ n → 5 + later < before
        → FallsTo before memory (machine.asked task field (wide_word_at n))
    asked_falls u n found there more =
        subst (λ (w : WideWord). FallsTo before memory (machine.asked task field w)) (sym (wide_found u n found)) (status_falls u n found.1 found.0 there more)

    -- an exchange of the wide word that finds what it wants is not lost
    widened_falls : (word : ℕ) (lost : StoplessMove) (b : Bool) → b ≡ true → memory (word_at task.job.wide field) ≡ in_wide word → 3 + later < before
        → FallsTo before memory (if b then machine.carried_on task field (carry.Store word) else lost)
    widened_falls word lost true e there more = (omega (arith, more), (place, there))
    widened_falls word lost false e there more = absurd cc

    taken_falls : (lost : StoplessMove) (b : Bool) → b ≡ true → 1 + later < before → FallsTo before memory (if b then machine.finished task field else lost)
    taken_falls lost true e more = finished_falls field (nat_lt field task.job.len) refl more
    taken_falls lost false e more = absurd cc

-- ---- a step

module _ (words : List ℕ) where
  -- what it goes on to, and memory then
  abbrev next : StoplessMove → StoplessMove
  next m = machine.fed_of m (found_by (machine.asks_of m) words)

  abbrev after : StoplessMove → ℕ → ℕ
  after m = reading (applied (machine.asks_of m) words)

  abbrev Falls : StoplessMove → Type 0
  Falls m = FallsTo (left_of_move m) (after m) (next m)

  abbrev Finds : StoplessMove → Type 0
  Finds m = MoveFinds kit_of_stopless steps_of_stopless words m

  module _ (task : MoveTask) (field : ℕ) where
    abbrev wide : ℕ
    wide = word_at task.job.wide field

    carries_on : (how : Carry) → Finds (move.Carries task field how) → HasPlace task.job → CarryAlone (reading words) task.job field how → Falls (move.Carries task field how)
    carries_on carry.Ask finds place stands =
        asked_falls (after (move.Carries task field carry.Ask)) task place (left_of_move (move.Carries task field carry.Ask)) field finds.here.status (reading words wide) finds.word (load_same words wide wide) (omega arith)
    carries_on carry.Load finds place stands = (omega arith, (place, load_same words (word_at task.job.from field) wide ∙ stands))
    carries_on (carry.Widen word) finds place stands =
        let m : StoplessMove = move.Carries task field (carry.Widen word) in
        let n : ℕ = reading words wide in
        let puts = applied-puts (machine.asks_of m) words (λ e. cc e) finds.inside in
        widened_falls (after m) task place (left_of_move m) field word (machine.asked task field (wide_word_at n)) (n == 0) (same_eqb n 0 stands)
        (puts.here ∙ put_won wide 0 (in_wide word) n stands) (omega arith)
    carries_on (carry.Store word) finds place stands =
        let job : IsJob task.job = place.job in
        let apart : wide ≢ word_at task.job.to field = words_apart task.job.wide task.job.to field job.near.2 job.near.1 (λ same. place.wide (sym same)) in
        (omega arith, (place, get_or-set_other words (word_at task.job.to field) wide word 0 apart ∙ stands))
    carries_on (carry.Finish word) finds place stands =
        let m : StoplessMove = move.Carries task field (carry.Finish word) in
        let n : ℕ = reading words wide in
        taken_falls (after m) task place (left_of_move m) field (machine.asked task field (wide_word_at n)) (n == in_wide word) (same_eqb n (in_wide word) stands) (omega arith)

  pub moves_on : (m : StoplessMove) → machine.asks_of m ≢ Ended → Finds m → MoveAlone (reading words) m → Falls m
  moves_on (move.Header task) on finds place = (omega arith, place)
  moves_on (move.Address task) on finds place = (omega arith, place)
  moves_on (move.Seal task) on finds place =
      let n : ℕ = reading words task.job.from in
      sealed_falls (after (move.Seal task)) task place (left_of_move (move.Seal task)) n (n == task.headers.tagged) (omega arith)
  moves_on (move.GiveUp task header) on finds stands = (lit< tt, tt)
  moves_on (move.Carries task field how) on finds stands = carries_on task field how finds stands.0 stands.1
  moves_on (move.Forward task) on finds stands = (lit< tt, tt)
  moves_on (move.Ended end) on finds stands = absurd (on refl)
