-- Chicken, where nobody else takes a step.
use Rattle.std.proofs.Common.{◌≡◌, ◌≢◌, ℕ, ◌+◌, ◌-◌, ◌*◌, ◌<◌, ◌≤◌, Bool, true, false, List, Option, Some, None, refl, arith, lit<, lit≤}
use Rattle.std.specs.Prelude.{◌==◌, nat_lt, if◌then◌else◌}
use Rattle.std.proofs.lemmas.Bool.Decides.{nat_tests}
use Rattle.call_steps.specs.declared.step.Step.TheVariants.{Ended}
use Rattle.call_steps.specs.Steps.{applied, found_by}
use Rattle.call_steps.specs.StepLaws.{reading}
use Rattle.object_headers.specs.declared.header.State.{State as HeaderState}
use Rattle.object_headers.specs.declared.header.State.TheVariants as states
use Rattle.object_headers.specs.Headers.{header_at}
use Rattle.handshakes.specs.declared.phase_word.Phase.{Phase}
use Rattle.space_reclaim.specs.declared.move_job.MoveJob.{MoveJob}
use Rattle.barriers.specs.declared.ends.MoveEnd.TheVariants.{Moved}
use Rattle.barriers.specs.declared.exchange.Errand.{Errand}
use Rattle.barriers.specs.declared.exchange.ExchangeMachine.{ExchangeMachine}
use Rattle.barriers.specs.declared.spot.Spot.{Spot}
use Rattle.barriers.specs.declared.write.WriteMachine.{WriteMachine}
use Rattle.barriers.specs.Exchanges as rest_exchange
use Rattle.barriers.specs.Writes as rest_write
use Rattle.tagged_calls.specs.declared.location.Location.{Location}
use Rattle.tagged_calls.specs.declared.location.Location.TheVariants as location
use Rattle.tagged_calls.specs.declared.placed.Placed.{Placed}
use Rattle.tagged_calls.specs.declared.placed.Placed.TheVariants as placed
use Rattle.tagged_calls.specs.Locations.{keep_of, located, location_in}
use Rattle.tagged_calls.specs.Placeds as placeds
use Rattle.chicken_tags.specs.declared.exchange.ChickenExchange.{ChickenExchange}
use Rattle.chicken_tags.specs.declared.exchange.ChickenExchange.TheVariants as exchange
use Rattle.chicken_tags.specs.declared.mover.ChickenMove.{ChickenMove}
use Rattle.chicken_tags.specs.declared.mover.ChickenMove.TheVariants as move
use Rattle.chicken_tags.specs.declared.mover.MoveHeaders.{MoveHeaders}
use Rattle.chicken_tags.specs.declared.write.ChickenWrite.{ChickenWrite}
use Rattle.chicken_tags.specs.declared.write.ChickenWrite.TheVariants as write
use Rattle.chicken_tags.specs.ChickenExchanges as machine_of_exchange
use Rattle.chicken_tags.specs.ChickenMoves as machine_of_move
use Rattle.chicken_tags.specs.ChickenReads as machine_of_read
use Rattle.chicken_tags.specs.ChickenWrites as machine_of_write
use Rattle.chicken_tags.specs.Chickens.{kit_of_chicken, steps_of_chicken}
use Rattle.gc_cycle.proofs.solo.AloneAtRest as rest
use Rattle.gc_cycle.proofs.solo.PlaysAlone.{FindsWanted, WriteGoesOn, ExchangeGoesOn, most_move_steps, PlaysAlone}

-- ---- a write

-- it has not ended, or it has with an answer
abbrev WriteOn : ChickenWrite → Type 0
WriteOn m = WriteGoesOn (Unit {0}) (machine_of_write.end_of m)

placed_writes : (spot : Spot) (word header : ℕ) (it : Location) → WriteOn (machine_of_write.placed spot word header it)
placed_writes spot word header location.Original = rest.write_begins spot word header
placed_writes spot word header (location.Tagged keep) = rest.write_begins spot word header
placed_writes spot word header (location.Wide wide) = rest.write_begins spot word header
placed_writes spot word header (location.Copy copy) = rest.write_begins copy word header

keeps_or_writes : (spot : Spot) (word header : ℕ) (it : Location) (next : ChickenWrite) (b : Bool) → WriteOn next
    → WriteOn (if b then next else machine_of_write.placed spot word header it)
keeps_or_writes spot word header it next true on = on
keeps_or_writes spot word header it next false on = placed_writes spot word header it

turned_writes : (spot : Spot) (word header : ℕ) (it : Location) → WriteOn (machine_of_write.turned spot word header it)
turned_writes spot word header location.Original = placed_writes spot word header location.Original
turned_writes spot word header (location.Tagged keep) = keeps_or_writes spot word header (location.Tagged keep) (write.Keep spot word keep) (nat_lt spot.field (let h = header_at header in h.len)) tt
turned_writes spot word header (location.Wide wide) = placed_writes spot word header (location.Wide wide)
turned_writes spot word header (location.Copy copy) = placed_writes spot word header (location.Copy copy)

-- at the word of its field it goes on as at rest
word_writes : (m : Placed WriteMachine) (n : ℕ) → rest_write.asks_of (placeds.machine_of m) ≢ Ended → rest.WriteOn (placeds.machine_of (placeds.fed_of rest_write.fed_of m n))
word_writes (placed.Original m) n on = rest.writes_on m n on
word_writes (placed.Copy spot m) n on = rest.writes_on m n on

writes_on : (m : ChickenWrite) (n : ℕ) → machine_of_write.asks_of m ≢ Ended → WriteOn (machine_of_write.fed_of m n)
writes_on (write.Header spot word) n on = turned_writes spot word n (location_in spot n)
writes_on (write.Keep spot word keep) n on = placed_writes spot word keep.tagged (location_in spot n)
writes_on (write.Field m) n on = word_writes m n on

-- ---- an exchange

-- its next step finds what it wants
abbrev StandsAlone : (ℕ → ℕ) → ChickenExchange → Type 0
StandsAlone memory m = FindsWanted memory (machine_of_exchange.asks_of m)

-- what is known of an exchange that goes on
abbrev GoesOn : (ℕ → ℕ) → ChickenExchange → Type 0
GoesOn memory m = ExchangeGoesOn (StandsAlone memory m) (machine_of_exchange.end_of m)

module _ (memory : ℕ → ℕ) where
  placed_exchanges : (errand : Errand) (phase : Phase) (header : ℕ) (it : Location) → GoesOn memory (machine_of_exchange.placed errand phase header it)
  placed_exchanges errand phase header location.Original = rest.exchange_begins memory errand phase header
  placed_exchanges errand phase header (location.Tagged keep) = rest.exchange_begins memory errand phase header
  placed_exchanges errand phase header (location.Wide wide) = rest.exchange_begins memory errand phase header
  placed_exchanges errand phase header (location.Copy copy) = rest.exchange_begins memory (record errand { spot = copy }) phase header

  keeps_or_exchanges : (errand : Errand) (phase : Phase) (header : ℕ) (it : Location) (next : ChickenExchange) (b : Bool) → GoesOn memory next
      → GoesOn memory (if b then next else machine_of_exchange.placed errand phase header it)
  keeps_or_exchanges errand phase header it next true on = on
  keeps_or_exchanges errand phase header it next false on = placed_exchanges errand phase header it

  -- a Tagged header that was loaded is still there when it is exchanged
  turned_exchanges : (errand : Errand) (phase : Phase) (header : ℕ) (state : HeaderState) (target : ℕ) → memory errand.spot.at ≡ header
      → GoesOn memory (machine_of_exchange.turned errand phase header (located errand.spot header state target))
  turned_exchanges errand phase header states.Absent target there = placed_exchanges errand phase header location.Original
  turned_exchanges errand phase header states.Plain target there = placed_exchanges errand phase header location.Original
  turned_exchanges errand phase header states.Kept target there = placed_exchanges errand phase header location.Original
  turned_exchanges errand phase header states.Tagged target there =
      keeps_or_exchanges errand phase header (location.Tagged (keep_of header)) (exchange.Keep errand phase (keep_of header)) (nat_lt errand.spot.field (let h = header_at header in h.len)) there
  turned_exchanges errand phase header states.Wide target there = placed_exchanges errand phase header (located errand.spot header states.Wide target)
  turned_exchanges errand phase header states.Moving target there = placed_exchanges errand phase header location.Original
  turned_exchanges errand phase header states.Forward target there = placed_exchanges errand phase header (located errand.spot header states.Forward target)
  turned_exchanges errand phase header states.Dead target there = placed_exchanges errand phase header location.Original

  header_exchanges : (errand : Errand) (phase : Phase) (header : ℕ) → memory errand.spot.at ≡ header → GoesOn memory (machine_of_exchange.turned errand phase header (location_in errand.spot header))
  header_exchanges errand phase header there = let h = header_at header in turned_exchanges errand phase header h.state h.target there

-- what a machine goes on to
abbrev next : List ℕ → ChickenExchange → ChickenExchange
next words m = machine_of_exchange.fed_of m (found_by (machine_of_exchange.asks_of m) words)

abbrev after : List ℕ → ChickenExchange → ℕ → ℕ
after words m = reading (applied (machine_of_exchange.asks_of m) words)

-- at the word of its field it goes on as at rest
word_exchanges : (words : List ℕ) (m : Placed ExchangeMachine) → rest_exchange.asks_of (placeds.machine_of m) ≢ Ended → rest.StandsAlone (reading words) (placeds.machine_of m)
    → GoesOn (after words (exchange.Field m)) (next words (exchange.Field m))
word_exchanges words (placed.Original m) on wants = rest.exchanges_on words m on wants
word_exchanges words (placed.Copy spot m) on wants = rest.exchanges_on words m on wants

exchanges_on : (words : List ℕ) (m : ChickenExchange) → machine_of_exchange.asks_of m ≢ Ended → StandsAlone (reading words) m → GoesOn (after words m) (next words m)
exchanges_on words (exchange.Header errand phase) on wants =
    header_exchanges (after words (exchange.Header errand phase)) errand phase (reading words errand.spot.at) (rest.load_same words errand.spot.at errand.spot.at)
exchanges_on words (exchange.Keep errand phase keep) on wants =
    placed_exchanges (after words (exchange.Keep errand phase keep)) errand phase keep.tagged (location_in errand.spot (reading words errand.spot.at))
exchanges_on words (exchange.Field m) on wants = word_exchanges words m on wants

-- ---- a move

-- a load and a store for each field that is left, before the two at the end
abbrev left_of_move : ChickenMove → ℕ
left_of_move (move.Header job headers) = 3 + 2 * job.len
left_of_move (move.Load job headers field) = 4 + 2 * (job.len - field - 1)
left_of_move (move.Store job headers field word) = 3 + 2 * (job.len - field - 1)
left_of_move (move.Forward job headers) = 2
left_of_move (move.GiveUp job headers header) = 1
left_of_move (move.Ended end) = 0

-- with the fields below this one copied
copied_left : (job : MoveJob) (headers : MoveHeaders) (field before : ℕ) (b : Bool) → nat_lt field job.len ≡ b → 2 < before → 2 + 2 * (job.len - field) < before
    → left_of_move (if b then move.Load job headers field else move.Forward job headers) < before
copied_left job headers field before true is some more = let within : field < job.len = grind (arith, nat_tests) in omega (arith, within, more)
copied_left job headers field before false is some more = some

-- with this one copied, too
stored_left : (job : MoveJob) (headers : MoveHeaders) (field : ℕ) (b : Bool) → nat_lt field job.len ≡ b
    → left_of_move (if b then machine_of_move.copied job headers (field + 1) else move.Forward job headers) < 3 + 2 * (job.len - field - 1)
stored_left job headers field true is = copied_left job headers (field + 1) (3 + 2 * (job.len - field - 1)) (nat_lt (field + 1) job.len) refl (omega arith) (omega arith)
stored_left job headers field false is = omega arith

ends_left : (job : MoveJob) (headers : MoveHeaders) (header : ℕ) (b : Bool) → left_of_move (if b then move.Ended Moved else move.GiveUp job headers header) < 2
ends_left job headers header true = lit< tt
ends_left job headers header false = lit< tt

-- each word that it is fed leaves fewer steps, whatever it is
pub moves_fall : (m : ChickenMove) (n : ℕ) → machine_of_move.asks_of m ≢ Ended → left_of_move (machine_of_move.fed_of m n) < left_of_move m
moves_fall (move.Header job headers) n on = copied_left job headers 0 (3 + 2 * job.len) (nat_lt 0 job.len) refl (omega arith) (omega arith)
moves_fall (move.Load job headers field) n on = omega arith
moves_fall (move.Store job headers field word) n on = stored_left job headers field (nat_lt field job.len) refl
moves_fall (move.Forward job headers) n on = ends_left job headers n (n == headers.tagged)
moves_fall (move.GiveUp job headers header) n on = lit< tt
moves_fall (move.Ended end) n on = absurd (on refl)

begun_left : (job : MoveJob) (headers : Option MoveHeaders) → job.len ≤ 30 → left_of_move (machine_of_move.begun_by job headers) ≤ most_move_steps
begun_left job None few = lit≤ tt
begun_left job (Some headers) few = omega (arith, few)

-- ---- all of it

pub chicken_plays_alone : PlaysAlone kit_of_chicken steps_of_chicken
chicken_plays_alone = record {
  reads_fall = machine_of_read.falls_of;
  writes_fall = machine_of_write.falls_of;
  exchanges_fall = machine_of_exchange.falls_of;
  read_few = λ l v birth at field. lit≤ tt;
  write_few = λ l v birth at field word. lit≤ tt;
  exchange_few = λ l v birth at field expected word. lit≤ tt;
  WriteAlone = λ memory m. Unit {0};
  write_first = λ memory l v birth at field word unmarked. tt;
  writes_on = λ words m on stands. writes_on m (found_by (machine_of_write.asks_of m) words) on;
  ExchangeAlone = StandsAlone;
  exchange_first = λ memory l v birth at field expected word unmarked. tt;
  exchanges_on = λ words m on finds stands. exchanges_on words m on stands;
  move_left = left_of_move;
  move_few = λ l j mark place. begun_left j (machine_of_move.headers_of j) (let its = place.job in its.few);
  MoveAlone = λ memory m. Unit {0};
  move_first = λ memory l j mark place. tt;
  moves_on = λ words m on finds stands. (moves_fall m (found_by (machine_of_move.asks_of m) words) on, tt);
}
