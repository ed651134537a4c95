-- A move of an object at rest does what is known of it.
use Rattle.std.specs.Prelude.{◌≡◌, ℕ, Option, Some, refl}
use Rattle.heap_words.specs.declared.field_word.FieldWord.{FieldWord}
use Rattle.object_headers.specs.declared.change.Kind.TheVariants as kinds
use Rattle.space_reclaim.specs.declared.move_job.MoveJob.{MoveJob}
use Rattle.barriers.specs.Spaces.{Here}
use Rattle.barriers.specs.Moves.{job_of, move_finds}
use Rattle.barriers.specs.MoveSteps.{FitsCarried, move_step, kept_after, move_said}
use Rattle.barriers.specs.Kits.{Moves}
use Rattle.at_rest.specs.declared.stay.StayMachine.{StayMachine}
use Rattle.at_rest.specs.declared.stay.StayMachine.TheVariants as stay
use Rattle.at_rest.specs.Stays as stays
use Rattle.at_rest.specs.RestTable.{at_rest, rest_move_fed}
use Rattle.at_rest.specs.Knowing.{moves, kept_by, MovesFor}

stay_asks : (mark : Option FieldWord) (m : StayMachine) → stays.asks_of m ≡ move_step kinds.AtRest mark (moves m)
stay_asks mark (stay.Header job) = refl
stay_asks mark (stay.Ended header) = refl

stay_goes : (mark : Option FieldWord) (m : StayMachine) (j : MoveJob) (x : Here) (n : ℕ) → job_of (moves m) ≡ Some j
    → (moves (stays.fed_of m n) ≡ rest_move_fed (moves m) (move_finds x (moves m))) × MovesFor mark (stays.fed_of m n) × (kept_by (stays.fed_of m n) ≡ kept_after (moves m) (rest_move_fed (moves m) (move_finds x (moves m))) n (kept_by m))
stay_goes mark (stay.Header job) j x n is = (refl, tt, refl)
stay_goes mark (stay.Ended header) j x n is = absurd cc

stay_tells : (m : StayMachine) → stays.end_of m ≡ move_said (moves m) (kept_by m)
stay_tells (stay.Header job) = refl
stay_tells (stay.Ended header) = refl

stay_packed : (m : StayMachine) → FitsCarried (moves m)
stay_packed (stay.Header job) = tt
stay_packed (stay.Ended header) = tt

pub staying : Moves at_rest kinds.AtRest stays.asks_of stays.fed_of moves MovesFor kept_by stays.end_of
staying = record {
  asks_alike = λ mark m for. stay_asks mark m;
  goes = λ mark m j x n for is word. stay_goes mark m j x n is;
  tells = stay_tells;
  packed = λ mark m for. stay_packed m;
}
