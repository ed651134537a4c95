-- The laws of Clover.
use Rattle.std.specs.Prelude.{◌≡◌, ℕ, ◌≤◌, ◌==◌, ◌&&◌, nat_lt, if◌then◌else◌, Bool, true, false, refl}
use Rattle.std.proofs.Common.{ap, sym, subst, ◌∙◌, lit≤}
use Rattle.heap_words.specs.Layouts.{phase_at}
use Rattle.heap_words.specs.declared.limits.TheConstants.{NUMBER_LIMIT}
use Rattle.heap_words.specs.declared.field_word.FieldWord.{FieldWord}
use Rattle.heap_words.specs.FieldWords.{IsFieldWord, word_of, field_at}
use Rattle.heap_words.specs.FieldWordLaws.{field_at-word_of}
use Rattle.handshakes.specs.declared.pass_view.PassView.{PassView}
use Rattle.object_headers.specs.declared.change.Kind.TheVariants as kinds
use Rattle.barriers.specs.declared.spot.Spot.{Spot}
use Rattle.barriers.specs.Spots.{spot_of}
use Rattle.barriers.specs.Values.{value_of}
use Rattle.barriers.specs.Stances.{mark_in}
use Rattle.barriers.specs.Spaces.{is_mark}
use Rattle.barriers.specs.Knowns.{Task, Reads, Writes, Exchanges, Known, Checks, Loads_header}
use Rattle.barriers.specs.Says.{IsChange}
use Rattle.barriers.specs.Kits.{Kit, Stepping, Laws, Begins, cycle_at, own_of}
use Rattle.at_rest.specs.Rests.{packed_word}
use Rattle.clover_marks.specs.declared.access.Action.{Action}
use Rattle.clover_marks.specs.declared.access.Action.TheVariants as action
use Rattle.clover_marks.specs.declared.access.Access.{Access}
use Rattle.clover_marks.specs.declared.call.CloverCall.{CloverCall}
use Rattle.clover_marks.specs.declared.call.CloverCall.TheVariants as call
use Rattle.clover_marks.specs.declared.mover.CloverMove.{CloverMove}
use Rattle.clover_marks.specs.Accesses.{word_of_action, is_mark_word}
use Rattle.clover_marks.specs.Calls as machine_of_call
use Rattle.clover_marks.specs.CallEnds.{read_ended, write_ended, exchange_ended}
use Rattle.clover_marks.specs.CloverMoves as machine_of_move
use Rattle.clover_marks.specs.CloverTable.{clover, is_own}
use Rattle.clover_marks.specs.CloverMoveLaws.{clover_laws, clover_cycle, clover_movable}
use Rattle.clover_marks.specs.CloverKnowing.{task_in, knows, IsPackedAction, IsAccess, CallsFor, moves, kept_by, MovesFor}
use Rattle.clover_marks.specs.MarkLaws.{mark_so, is_mark_found}
use Rattle.clover_marks.specs.CallRuns.{clover_reading, clover_writing, clover_exchanging}
use Rattle.clover_marks.specs.MoverLaws.{clover_moving, move_begins}

abbrev pub kit_of_clover : Kit CloverCall CloverCall CloverCall CloverMove
kit_of_clover = record {
  kind = kinds.Clover;
  protocol = clover;
  starts_read = λ l v birth at field. machine_of_call.begun v birth at field action.Read;
  starts_write = λ l v birth at field word. machine_of_call.begun v birth at field (action.Write word);
  starts_exchange = λ l v birth at field expected word. machine_of_call.begun v birth at field (action.Exchange expected word);
  starts_move = λ l job mark. machine_of_move.begun job mark;
  read_ended = read_ended;
  write_ended = write_ended;
  exchange_ended = exchange_ended;
  move_ended = machine_of_move.end_of;
  minds = true;
  reads = knows;
  writes = knows;
  exchanges = knows;
  moves = moves;
  keeps = kept_by;
  ReadsFor = CallsFor;
  WritesFor = CallsFor;
  ExchangesFor = CallsFor;
  MovesFor = MovesFor;
}

-- what its machines do
abbrev pub steps_of_clover : Stepping CloverCall CloverCall CloverCall CloverMove
steps_of_clover = record {
  read_asks = machine_of_call.asks_of;
  write_asks = machine_of_call.asks_of;
  exchange_asks = machine_of_call.asks_of;
  move_asks = machine_of_move.asks_of;
  read_fed = machine_of_call.fed_of;
  write_fed = machine_of_call.fed_of;
  exchange_fed = machine_of_call.fed_of;
  move_fed = machine_of_move.fed_of;
  read_front = machine_of_call.front;
  write_front = machine_of_call.front;
  exchange_front = machine_of_call.front;
  read_left = machine_of_call.left_of;
  write_left = machine_of_call.left_of;
  exchange_left = machine_of_call.left_of;
}

-- ---- how a call begins

module _ (v : PassView) (birth at field : ℕ) where
  abbrev Begun : Task → CloverCall → Type 0
  Begun t m = Begins kit_of_clover steps_of_clover knows CallsFor machine_of_call.left_of v (spot_of birth at field) t m

  -- its first step asks for the phase word where the word to write is the mark
  begun_by : (act : Action) → IsPackedAction act → is_mark_word v.mark (word_of_action act) ≡ is_own (own_of true v) (task_in act) → (is_mark_word v.mark (word_of_action act) ≡ true → IsChange (task_in act)) → Begun (task_in act) (machine_of_call.begun v birth at field act)
  begun_by act packed same change = let so : So (machine_of_call.begun v birth at field act) (if is_own (own_of true v) (task_in act) then Checks s t (cycle_at v.acked) else Loads_header s t) = subst Test same (by (is_mark_word v.mark (word_of_action act)) refl) in record { known = so.0; own = so.1; few = so.2 }
    where
      s : Spot
      s = spot_of birth at field

      t : Task
      t = task_in act

      access : Access
      access = machine_of_call.access_of v s act

      is : IsAccess v access
      is = record { mark = refl; phase = refl; packed = packed }

      So : CloverCall → Known → Type 0
      So m k = (knows m ≡ k) × CallsFor v m × (machine_of_call.left_of m ≤ 17)

      Test : Bool → Type 0
      Test b = So (machine_of_call.begun v birth at field act) (if b then Checks s t (cycle_at v.acked) else Loads_header s t)

      by : (b : Bool) → is_mark_word v.mark (word_of_action act) ≡ b → So (if b then call.Phase access (cycle_at v.acked) phase_at else call.Header access) (if b then Checks s t (cycle_at v.acked) else Loads_header s t)
      by true e = let mark = mark_so v.mark (word_of_action act) e in (refl, (is, refl, refl, mark.0, mark.1, change e), lit≤ tt)
      by false e = (refl, is, lit≤ tt)

  read_unmarked : (a c : Bool) → (a && false && c) ≡ false
  read_unmarked true c = refl
  read_unmarked false c = refl

  read_begins : Begun Reads (machine_of_call.begun v birth at field action.Read)
  read_begins =
      let not : is_mark_word v.mark 0 ≡ false = read_unmarked (0 == v.mark) (nat_lt 0 NUMBER_LIMIT) in
      begun_by action.Read tt not (λ mark. absurd (let no : false ≡ true = sym not ∙ mark in cc))

  own_word : (w : FieldWord) → IsFieldWord w → is_mark_word v.mark (word_of w) ≡ is_mark (own_of true v) (field_at (word_of w))
  own_word w fits = is_mark_found v.mark w fits ∙ ap (is_mark (mark_in v.mark)) (sym (field_at-word_of w fits))

  write_begins : (w : FieldWord) → IsFieldWord w → Begun (Writes w) (machine_of_call.begun v birth at field (action.Write (word_of w)))
  write_begins w fits =
      subst (λ (u : FieldWord). Begun (Writes u) (machine_of_call.begun v birth at field (action.Write (word_of w)))) (field_at-word_of w fits)
      (begun_by (action.Write (word_of w)) (packed_word w fits) (own_word w fits) (λ mark. tt))

  exchange_begins : (expected w : FieldWord) → IsFieldWord w → Begun (Exchanges (value_of expected) w) (machine_of_call.begun v birth at field (action.Exchange expected (word_of w)))
  exchange_begins expected w fits =
      subst (λ (u : FieldWord). Begun (Exchanges (value_of expected) u) (machine_of_call.begun v birth at field (action.Exchange expected (word_of w)))) (field_at-word_of w fits)
      (begun_by (action.Exchange expected (word_of w)) (packed_word w fits) (own_word w fits) (λ mark. tt))

pub laws_of_clover : Laws kit_of_clover steps_of_clover
laws_of_clover = record {
  minds = refl;
  table = clover_laws;
  cycle = clover_cycle;
  movable = clover_movable;
  reading = clover_reading;
  writing = clover_writing;
  exchanging = clover_exchanging;
  begins_read = λ l v birth at field. read_begins v birth at field;
  begins_write = λ l v birth at field word fits. write_begins v birth at field word fits;
  begins_exchange = λ l v birth at field expected word fits. exchange_begins v birth at field expected word fits;
  moving = clover_moving;
  begins_move = λ l j mark job. let begins = move_begins j mark job in record { known = begins.0; own = begins.1; none = begins.2 };
}
