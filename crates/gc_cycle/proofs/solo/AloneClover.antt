-- Clover, where nobody else takes a step and there is no mark.
use Rattle.std.proofs.Common.{◌≡◌, ◌≢◌, ℕ, ◌≤◌, Bool, true, false, List, Option, Some, None, refl, lit≤}
use Rattle.std.specs.Prelude.{◌==◌, nat_lt, if◌then◌else◌, option_map}
use Rattle.call_steps.specs.declared.step.Step.TheVariants.{Ended}
use Rattle.call_steps.specs.Steps.{applied, found_by}
use Rattle.call_steps.specs.StepLaws.{reading}
use Rattle.object_headers.specs.Headers.{header_at}
use Rattle.handshakes.specs.declared.follow.FollowMachine.{FollowMachine}
use Rattle.handshakes.specs.declared.follow.FollowMachine.TheVariants as follow
use Rattle.handshakes.specs.declared.pass_view.PassView.{PassView}
use Rattle.handshakes.specs.Follows as follows
use Rattle.barriers.specs.declared.ends.TryRefusal.TheVariants.{NoField}
use Rattle.barriers.specs.declared.plain_exchange.TriesLeft.TheVariants.{Two}
use Rattle.barriers.specs.declared.spot.Spot.{Spot}
use Rattle.clover_marks.specs.declared.access.Access.{Access}
use Rattle.clover_marks.specs.declared.access.Action.{Action}
use Rattle.clover_marks.specs.declared.access.Action.TheVariants as action
use Rattle.clover_marks.specs.declared.access.Place.{Place}
use Rattle.clover_marks.specs.declared.access.Place.TheVariants.{Original, Copy}
use Rattle.clover_marks.specs.declared.call.CallEnd.{CallEnd}
use Rattle.clover_marks.specs.declared.call.CallEnd.TheVariants as call_end
use Rattle.clover_marks.specs.declared.call.CloverCall.{CloverCall}
use Rattle.clover_marks.specs.declared.call.CloverCall.TheVariants as call
use Rattle.clover_marks.specs.Accesses.{word_of_action, serves, is_mark_word, address_of, forwarded}
use Rattle.clover_marks.specs.CallEnds.{once, write_end_of, write_ended, exchange_end_of, exchange_ended}
use Rattle.clover_marks.specs.Calls as machine
use Rattle.clover_marks.specs.Clovers.{kit_of_clover, steps_of_clover}
use Rattle.clover_marks.specs.MarkLaws.{mark_so}
use Rattle.gc_cycle.proofs.solo.AloneAtRest.{load_same, same_eqb}
use Rattle.gc_cycle.proofs.solo.MovesClover.{MoveAlone, left_of_move, move_begins, move_few, moves_on}
use Rattle.gc_cycle.proofs.solo.PlaysAlone.{RefusalAnswers, WriteGoesOn, ExchangeGoesOn, PlaysAlone}

-- ---- what is known of a call

abbrev CallAnswers : CallEnd → Type 0
CallAnswers (call_end.Refused why) = RefusalAnswers why
CallAnswers end = Unit {0}

-- it minds no mark, and an exchange finds what it wants
abbrev CallAlone : (ℕ → ℕ) → CloverCall → Type 0
CallAlone memory (call.Phase access cycle at_phase) = ⊥
CallAlone memory (call.Header access) = access.mark ≡ 0
CallAlone memory (call.Load access place) = access.mark ≡ 0
CallAlone memory (call.Store access place) = Unit {0}
CallAlone memory (call.Try access place wanted tries) = memory (address_of access place) ≡ wanted
CallAlone memory (call.Again access wanted next) = ⊥
CallAlone memory (call.TryMark access tries) = ⊥
CallAlone memory (call.Follow access its) = Unit {0}
CallAlone memory (call.Ended access end) = CallAnswers end

-- ---- no word is the mark where there is none

unmarked_by : (mark word : ℕ) → mark ≡ 0 → (b : Bool) → is_mark_word mark word ≡ b → b ≡ false
unmarked_by mark word none true e = absurd (let is = (mark_so mark word e).1 in is.some none)
unmarked_by mark word none false e = refl

unmarked_word : (mark word : ℕ) → mark ≡ 0 → is_mark_word mark word ≡ false
unmarked_word mark word none = unmarked_by mark word none (is_mark_word mark word) refl

-- ---- how it begins

begun_few : (access : Access) (cycle at_phase : ℕ) (b : Bool) → machine.left_of (if b then call.Phase access cycle at_phase else call.Header access) ≤ 17
begun_few access cycle at_phase true = lit≤ tt
begun_few access cycle at_phase false = lit≤ tt

call_few : (v : PassView) (birth at field : ℕ) (act : Action) → machine.left_of (machine.begun v birth at field act) ≤ 17
call_few v birth at field act = begun_few _ _ _ (is_mark_word v.mark (word_of_action act))

module _ (memory : ℕ → ℕ) where
  begun_alone : (access : Access) (cycle at_phase : ℕ) (b : Bool) → b ≡ false → access.mark ≡ 0 → CallAlone memory (if b then call.Phase access cycle at_phase else call.Header access)
  begun_alone access cycle at_phase true e none = absurd cc
  begun_alone access cycle at_phase false e none = none

  call_begins : (v : PassView) (birth at field : ℕ) (act : Action) → v.mark ≡ 0 → CallAlone memory (machine.begun v birth at field act)
  call_begins v birth at field act none = begun_alone _ _ _ (is_mark_word v.mark (word_of_action act)) (unmarked_word v.mark (word_of_action act) none) none

  -- ---- how it goes on

  -- at the word of its field
  stored_or_loaded : (access : Access) (place : Place) (b : Bool) → access.mark ≡ 0 → CallAlone memory (if b then call.Store access place else call.Load access place)
  stored_or_loaded access place true none = tt
  stored_or_loaded access place false none = none

  at_place : (access : Access) (place : Place) → access.mark ≡ 0 → CallAlone memory (machine.at_place access place)
  at_place access place none = stored_or_loaded access place (machine.stores access.action place access.mark) none

  in_copy_or : (access : Access) (copy : Option Spot) → access.mark ≡ 0 → CallAlone memory (machine.in_copy_or access (machine.at_place access Original) copy)
  in_copy_or access None none = at_place access Original none
  in_copy_or access (Some copy) none = at_place access (Copy copy) none

  -- with the header at hand
  header_goes : (access : Access) (len : ℕ) (copy : Option Spot) (b : Bool) → access.mark ≡ 0
      → CallAlone memory (if b then machine.in_copy_or access (machine.at_place access Original) copy else call.Ended access (call_end.Refused (NoField len)))
  header_goes access len copy true none = in_copy_or access copy none
  header_goes access len copy false none = tt

  -- with the word that the load found, which is still there
  valued_goes : (access : Access) (place : Place) (found : ℕ) (b : Bool) → memory (address_of access place) ≡ found
      → CallAlone memory (if b then call.Try access place found Two else machine.followed access found)
  valued_goes access place found true there = there
  valued_goes access place found false there = tt

  unmarked_goes : (access : Access) (found : ℕ) (marked : CloverCall) (b : Bool) → b ≡ false → memory (address_of access Original) ≡ found
      → CallAlone memory (if b then marked else machine.valued access Original found (Some Two) found)
  unmarked_goes access found marked true e there = absurd cc
  unmarked_goes access found marked false e there = valued_goes access Original found (serves access.action found) there

  loaded_goes : (access : Access) (place : Place) (found : ℕ) → access.mark ≡ 0 → memory (address_of access place) ≡ found → CallAlone memory (machine.found_at access place found (Some Two) found)
  loaded_goes access Original found none there =
      unmarked_goes access found (call.Again access found (Some Two)) (is_mark_word access.mark found) (unmarked_word access.mark found none) there
  loaded_goes access (Copy copy) found none there = valued_goes access (Copy copy) found (serves access.action found) there

  -- the word there is the one that it wants: it is not lost
  made_alone : (access : Access) (act : Action) → CallAlone memory (call.Ended access (machine.made_end act))
  made_alone access action.Read = tt
  made_alone access (action.Write word) = tt
  made_alone access (action.Exchange expected word) = tt

  tried_goes : (access : Access) (lost : CloverCall) (b : Bool) → b ≡ true → CallAlone memory (if b then machine.made access else lost)
  tried_goes access lost true e = made_alone access access.action
  tried_goes access lost false e = absurd cc

  -- ---- how it ends

  -- what a call that follows has ended with
  abbrev Followed : {E : Type 0} → (CallEnd → Option E) → Action → FollowMachine → Option E
  Followed said act its = once said (option_map (λ e. machine.found_end act e.word) (follows.end_of its))

  follow_writes : (act : Action) (its : FollowMachine) → WriteGoesOn (Unit {0}) (Followed write_end_of act its)
  follow_writes act (follow.Header birth at) = tt
  follow_writes action.Read (follow.Ended end) = tt
  follow_writes (action.Write word) (follow.Ended end) = tt
  follow_writes (action.Exchange expected word) (follow.Ended end) = tt

  follow_exchanges : (act : Action) (its : FollowMachine) → ExchangeGoesOn (Unit {0}) (Followed exchange_end_of act its)
  follow_exchanges act (follow.Header birth at) = tt
  follow_exchanges action.Read (follow.Ended end) = tt
  follow_exchanges (action.Write word) (follow.Ended end) = tt
  follow_exchanges (action.Exchange expected word) (follow.Ended end) = tt

  end_writes : (end : CallEnd) → CallAnswers end → WriteGoesOn (CallAnswers end) (write_end_of end)
  end_writes (call_end.Got word) answers = tt
  end_writes call_end.Wrote answers = tt
  end_writes call_end.Done answers = tt
  end_writes (call_end.Differs word) answers = tt
  end_writes (call_end.Refused why) answers = answers

  end_exchanges : (end : CallEnd) → CallAnswers end → ExchangeGoesOn (CallAnswers end) (exchange_end_of end)
  end_exchanges (call_end.Got word) answers = tt
  end_exchanges call_end.Wrote answers = tt
  end_exchanges call_end.Done answers = tt
  end_exchanges (call_end.Differs word) answers = tt
  end_exchanges (call_end.Refused why) answers = answers

  -- as a write, and as an exchange
  write_goes : (m : CloverCall) → CallAlone memory m → WriteGoesOn (CallAlone memory m) (write_ended m)
  write_goes (call.Phase access cycle at_phase) stands = stands
  write_goes (call.Header access) stands = stands
  write_goes (call.Load access place) stands = stands
  write_goes (call.Store access place) stands = stands
  write_goes (call.Try access place wanted tries) stands = stands
  write_goes (call.Again access wanted next) stands = stands
  write_goes (call.TryMark access tries) stands = stands
  write_goes (call.Follow access its) stands = follow_writes access.action its
  write_goes (call.Ended access end) stands = end_writes end stands

  exchange_goes : (m : CloverCall) → CallAlone memory m → ExchangeGoesOn (CallAlone memory m) (exchange_ended m)
  exchange_goes (call.Phase access cycle at_phase) stands = stands
  exchange_goes (call.Header access) stands = stands
  exchange_goes (call.Load access place) stands = stands
  exchange_goes (call.Store access place) stands = stands
  exchange_goes (call.Try access place wanted tries) stands = stands
  exchange_goes (call.Again access wanted next) stands = stands
  exchange_goes (call.TryMark access tries) stands = stands
  exchange_goes (call.Follow access its) stands = follow_exchanges access.action its
  exchange_goes (call.Ended access end) stands = end_exchanges end stands

-- ---- a step

module _ (words : List ℕ) where
  -- what it goes on to, and memory then
  abbrev next : CloverCall → CloverCall
  next m = machine.fed_of m (found_by (machine.asks_of m) words)

  abbrev after : CloverCall → ℕ → ℕ
  after m = reading (applied (machine.asks_of m) words)

  calls_on : (m : CloverCall) → machine.asks_of m ≢ Ended → CallAlone (reading words) m → CallAlone (after m) (next m)
  calls_on (call.Phase access cycle at_phase) on stands = absurd stands
  calls_on (call.Header access) on stands =
      let n : ℕ = reading words access.spot.at in
      let h = header_at n in
      header_goes (after (call.Header access)) access h.len (forwarded access.spot n) (nat_lt access.spot.field h.len) stands
  calls_on (call.Load access place) on stands =
      let at : ℕ = address_of access place in
      loaded_goes (after (call.Load access place)) access place (reading words at) stands (load_same words at at)
  calls_on (call.Store access place) on stands = tt
  calls_on (call.Try access place wanted tries) on stands =
      let n : ℕ = reading words (address_of access place) in
      tried_goes (after (call.Try access place wanted tries)) access (machine.found_at access place wanted (machine.next_of tries) n) (n == wanted) (same_eqb n wanted stands)
  calls_on (call.Again access wanted next) on stands = absurd stands
  calls_on (call.TryMark access tries) on stands = absurd stands
  calls_on (call.Follow access its) on stands = tt
  calls_on (call.Ended access end) on stands = absurd (on refl)

-- ---- all of it

pub clover_plays_alone : PlaysAlone kit_of_clover steps_of_clover
clover_plays_alone = record {
  reads_fall = machine.falls_of;
  writes_fall = machine.falls_of;
  exchanges_fall = machine.falls_of;
  read_few = λ l v birth at field. call_few v birth at field action.Read;
  write_few = λ l v birth at field word. call_few v birth at field (action.Write word);
  exchange_few = λ l v birth at field expected word. call_few v birth at field (action.Exchange expected word);
  WriteAlone = CallAlone;
  write_first = λ memory l v birth at field word unmarked. call_begins memory v birth at field (action.Write word) unmarked;
  writes_on = λ words m on stands. write_goes (after words m) (next words m) (calls_on words m on stands);
  ExchangeAlone = CallAlone;
  exchange_first = λ memory l v birth at field expected word unmarked. call_begins memory v birth at field (action.Exchange expected word) unmarked;
  exchanges_on = λ words m on finds stands. exchange_goes (after words m) (next words m) (calls_on words m on stands);
  move_left = left_of_move;
  move_few = λ l j mark place. move_few j mark place;
  MoveAlone = MoveAlone;
  move_first = λ memory l j mark place. move_begins memory j mark place;
  moves_on = λ words m on finds stands. moves_on words m on stands;
}
