-- The laws of Clover's calls, at one field of one object.
use Rattle.std.proofs.Common.{◌≡◌, ℕ, inr, refl, sym, ◌∙◌, arith, true, false, Option, Some, None, List}
use Rattle.heap_words.specs.declared.field_word.FieldWord.{FieldWord}
use Rattle.heap_history.specs.NewestFirst.{Before}
use Rattle.heap_history.specs.declared.call.Call.{Call}
use Rattle.barriers.specs.declared.spot.Spot.{Spot}
use Rattle.barriers.specs.Stances.{Stance}
use Rattle.barriers.specs.Spaces.{Here, zone, Copied, is_mark}
use Rattle.barriers.specs.Cycles.{Cycle, Side}
use Rattle.barriers.specs.Knowns.{Task, Reads, Writes, Exchanges, Known, Checks, Loads_header, at_field, has_field, task_of, copy_of, wide_of, finds, looks}
use Rattle.barriers.specs.Protocols.{TargetIs}
use Rattle.barriers.specs.ProtocolLaws.{At, StepEnd, CallLaws}
use Rattle.barriers.specs.PlainCallLaws.{by_test}
use Rattle.tagged_calls.specs.TaggedTableLaws.{front_past}
use Rattle.clover_marks.specs.CloverTable.{clover_begins, is_own, CloverRow, CloverOwn, CloverShape, clover}
use Rattle.clover_marks.specs.CloverStays.{own_stays, own_bare}
use Rattle.clover_marks.specs.CloverGoes.{clover_goes}
use Rattle.clover_marks.specs.CloverCloses.{clover_closes}
use Rattle.clover_marks.specs.CloverFinds.{clover_head, clover_inside, clover_found, clover_refused}
use Rattle.clover_marks.specs.CloverAnswers.{look_later, clover_answered, clover_wants}
use Rattle.clover_marks.specs.CloverSteps.{step_makes, step_may, step_own}

-- ---- the step

aims : (c : Cycle) (side : Side) (x : Here) (k : Known) → TargetIs x x.state → CloverRow c side x k → (to : ℕ) → copy_of k ≡ Some to → (to ≡ x.to) × (zone c.mark x.state x.word x.status ≡ Copied)
aims c side x k target row to is = grind (arith, target, row, is)

no_wide : (c : Cycle) (side : Side) (x : Here) (k : Known) → CloverRow c side x k → (wide : ℕ) → wide_of k ≡ Some wide → ⊥
no_wide c side x k row wide is = grind (arith, row, is)

step : (c : Cycle) (side : Side) (h : List Call) (s : Spot) (x : Here) (w : FieldWord) (k : Known) → ((past : List Call) → x.seal ≡ Some past → Before past h) → At clover c side h s x w k → StepEnd clover c side h s x k (finds c.phase x w k)
step c side h s x w k seals a =
    let found = finds c.phase x w k in
    let row = a.own.0 in
    let shape : has_field k ≡ true → CloverShape c s.birth s.field x w = λ has. a.shape (a.inside has) in
    let none : has_field k ≡ true → x.seal ≡ None = λ has. let so = shape has in so.seal in
    record {
      makes = step_makes c side x k found row;
      may = step_may c side s.birth s.field x w k a.fits shape a.own;
      own = step_own c side h s x w a.fits a.live k a.spot a.own a.inside a.shape a.agrees;
      answered = clover_answered c side h s x w k a.spot row none (λ has. a.agrees (a.inside has)) a.answered;
      wants = clover_wants c side h s x w k a.spot row none (λ has. a.agrees (a.inside has)) a.answered;
      inside = clover_inside c side s x w k a.spot row a.inside;
      found_inside = clover_found c side s x w k a.spot row a.inside;
      refused = λ t len so. clover_refused c side s x w k t len a.spot row so;
      head = λ tagged is. absurd (let gone : None ≡ Some tagged = sym (clover_head c side s x w k row) ∙ is in cc);
      aim = aims c side x k a.target row;
      wide = λ wide is. absurd (no_wide c side x k row wide is);
      past = front_past (looks side.own k found) x.seal h side.seen a.past seals;
      later = look_later c side h s x w k row none a.past;
    }

-- ---- the beginning

begin_own : (c : Cycle) (side : Side) (x : Here) (cycle : ℕ) (s : Spot) (t : Task) → CloverOwn c side x (clover_begins side.acked cycle side.own s t)
begin_own c side x cycle s Reads = (tt, tt)
begin_own c side x cycle s (Writes word) = by_test (CloverOwn c side x) (is_mark side.own word) (Checks s (Writes word) cycle) (Loads_header s (Writes word)) (λ mark. (tt, tt)) (λ not. (tt, inr not))
begin_own c side x cycle s (Exchanges expected word) =
    by_test (CloverOwn c side x) (is_mark side.own word) (Checks s (Exchanges expected word) cycle) (Loads_header s (Exchanges expected word)) (λ mark. (tt, tt)) (λ not. (tt, inr not))

begin_so : (P : Known → Type 0) (acked : Stance) (cycle : ℕ) (own : Option FieldWord) (s : Spot) (t : Task) → P (Checks s t cycle) → P (Loads_header s t) → P (clover_begins acked cycle own s t)
begin_so P acked cycle own s t checks header = by_test P (is_own own t) (Checks s t cycle) (Loads_header s t) (λ mark. checks) (λ not. header)

pub clover_calls : CallLaws clover
clover_calls = record {
  begin = λ c side x cycle s t live fits. begin_own c side x cycle s t;
  begin_at = λ acked cycle own s t. begin_so (λ k. at_field k ≡ Some s) acked cycle own s t refl refl;
  begin_task = λ acked cycle own s t. begin_so (λ k. task_of k ≡ t) acked cycle own s t refl refl;
  begin_bare = λ acked cycle own s t. begin_so (λ k. has_field k ≡ false) acked cycle own s t refl refl;
  step = step;
  goes = λ c side x k s found at own. clover_goes c side x k s found at own.0;
  closes = clover_closes;
  bare = own_bare;
  stays = λ c side h b f x w e k makes may dated past target fits shape own. own_stays c side x e k target makes may fits own;
}
