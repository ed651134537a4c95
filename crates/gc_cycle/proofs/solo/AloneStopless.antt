-- Stopless, where nobody else takes a step.
use Rattle.std.proofs.Common.{◌≡◌, ◌≢◌, ℕ, Bool, true, false, List, sym, subst, ◌∙◌, lit≤}
use Rattle.std.specs.Prelude.{◌==◌, nat_lt, if◌then◌else◌}
use Rattle.call_steps.specs.declared.step.Step.TheVariants.{Ended}
use Rattle.call_steps.specs.Steps.{applied, found_by}
use Rattle.call_steps.specs.StepLaws.{reading}
use Rattle.heap_words.specs.FieldWords.{word_of}
use Rattle.object_headers.specs.Headers.{header_at}
use Rattle.wide_objects.specs.declared.wide_word.Status2.{Status2}
use Rattle.wide_objects.specs.declared.wide_word.Status2.TheVariants as statuses
use Rattle.wide_objects.specs.declared.wide_word.WideWord.{WideWord}
use Rattle.wide_objects.specs.WideWords.{wide_word_at}
use Rattle.wide_objects.specs.Statuses.{Status, InOriginal, InWide, InCopy, IsStatus, word_of_status, wide_of_status}
use Rattle.handshakes.specs.declared.phase_word.Phase.{Phase}
use Rattle.barriers.specs.declared.exchange.Errand.{Errand}
use Rattle.barriers.specs.declared.exchange.ExchangeMachine.{ExchangeMachine}
use Rattle.barriers.specs.declared.ends.WriteEnd.TheVariants.{Wrote}
use Rattle.barriers.specs.declared.ends.ExchangeEnd.TheVariants.{Done}
use Rattle.barriers.specs.declared.plain_exchange.TriesLeft.TheVariants.{Two}
use Rattle.barriers.specs.declared.spot.Spot.{Spot}
use Rattle.barriers.specs.declared.write.WriteMachine.{WriteMachine}
use Rattle.barriers.specs.Causes.{len_at}
use Rattle.barriers.specs.Exchanges as rest_exchange
use Rattle.barriers.specs.Writes as rest_write
use Rattle.tagged_calls.specs.declared.location.Location.{Location}
use Rattle.tagged_calls.specs.declared.location.Location.TheVariants as location
use Rattle.tagged_calls.specs.declared.placed.Placed.{Placed}
use Rattle.tagged_calls.specs.declared.placed.Placed.TheVariants as placed
use Rattle.tagged_calls.specs.Locations.{location_in}
use Rattle.tagged_calls.specs.Placeds as placeds
use Rattle.stopless_copy.specs.declared.exchange.StoplessExchange.{StoplessExchange}
use Rattle.stopless_copy.specs.declared.exchange.StoplessExchange.TheVariants as exchange
use Rattle.stopless_copy.specs.declared.exchange.WideErrand.{WideErrand}
use Rattle.stopless_copy.specs.declared.write.StoplessWrite.{StoplessWrite}
use Rattle.stopless_copy.specs.declared.write.StoplessWrite.TheVariants as write
use Rattle.stopless_copy.specs.declared.write.WideWrite.{WideWrite}
use Rattle.stopless_copy.specs.StoplessExchanges as machine_of_exchange
use Rattle.stopless_copy.specs.StoplessLaws.{kit_of_stopless, steps_of_stopless}
use Rattle.stopless_copy.specs.StoplessReads as machine_of_read
use Rattle.stopless_copy.specs.StoplessWrites as machine_of_write
use Rattle.stopless_copy.specs.WideLaws.{wide_found}
use Rattle.gc_cycle.proofs.solo.AloneAtRest as rest
use Rattle.gc_cycle.proofs.solo.MovesStopless.{MoveAlone, left_of_move, move_begins, move_few, moves_on}
use Rattle.gc_cycle.proofs.solo.PlaysAlone.{WriteGoesOn, ExchangeGoesOn, ExchangeFinds, PlaysAlone}

-- ---- a write

-- an exchange of a wide word finds what it wants
abbrev WriteAlone : (ℕ → ℕ) → StoplessWrite → Type 0
WriteAlone memory (write.Try its wanted tries) = memory its.wide.place ≡ wanted
WriteAlone memory m = Unit {0}

abbrev WriteOn : (ℕ → ℕ) → StoplessWrite → Type 0
WriteOn memory m = WriteGoesOn (WriteAlone memory m) (machine_of_write.end_of m)

module _ (memory : ℕ → ℕ) where
  word_writes : (spot : Spot) (word header : ℕ) (it : Location) → WriteOn memory (machine_of_write.at_word spot word header it)
  word_writes spot word header location.Original = rest.write_begins spot word header
  word_writes spot word header (location.Tagged keep) = rest.write_begins spot word header
  word_writes spot word header (location.Wide wide) = rest.write_begins spot word header
  word_writes spot word header (location.Copy copy) = rest.write_begins copy word header

  wide_or_word : (spot : Spot) (word header : ℕ) (wide : Spot) (b : Bool) → WriteOn memory (if b then machine_of_write.widened spot word wide else machine_of_write.at_word spot word header (location.Wide wide))
  wide_or_word spot word header wide true = tt
  wide_or_word spot word header wide false = word_writes spot word header (location.Wide wide)

  placed_writes : (spot : Spot) (word header : ℕ) (it : Location) → WriteOn memory (machine_of_write.placed spot word header it)
  placed_writes spot word header location.Original = word_writes spot word header location.Original
  placed_writes spot word header (location.Tagged keep) = word_writes spot word header (location.Tagged keep)
  placed_writes spot word header (location.Wide wide) = wide_or_word spot word header wide (nat_lt spot.field (len_at header))
  placed_writes spot word header (location.Copy copy) = word_writes spot word header (location.Copy copy)

  keeps_or_writes : (spot : Spot) (word header : ℕ) (it : Location) (next : StoplessWrite) (b : Bool) → WriteOn memory next
      → WriteOn memory (if b then next else machine_of_write.placed spot word header it)
  keeps_or_writes spot word header it next true on = on
  keeps_or_writes spot word header it next false on = placed_writes spot word header it

  turned_writes : (spot : Spot) (word header : ℕ) (it : Location) → WriteOn memory (machine_of_write.turned spot word header it)
  turned_writes spot word header location.Original = placed_writes spot word header location.Original
  turned_writes spot word header (location.Tagged keep) = keeps_or_writes spot word header (location.Tagged keep) (write.Keep spot word keep) (nat_lt spot.field (let h = header_at header in h.len)) tt
  turned_writes spot word header (location.Wide wide) = placed_writes spot word header (location.Wide wide)
  turned_writes spot word header (location.Copy copy) = placed_writes spot word header (location.Copy copy)

  -- with the wide word that the look found, which is still there
  looked_writes : (its : WideWrite) (found : ℕ) (status : Status2) → memory its.wide.place ≡ found → WriteOn memory (machine_of_write.looked_by its found status)
  looked_writes its found statuses.InOriginal there = there
  looked_writes its found statuses.InWide there = there
  looked_writes its found statuses.InCopy there = tt

  -- the word there is the one that it wants: it is not lost
  tried_writes : (its : WideWrite) (lost : StoplessWrite) (b : Bool) → b ≡ true → WriteOn memory (if b then machine_of_write.over its.spot its.word Wrote else lost)
  tried_writes its lost true e = tt
  tried_writes its lost false e = absurd cc

-- at the word of its field it goes on as at rest
field_writes : (m : Placed WriteMachine) (n : ℕ) → rest_write.asks_of (placeds.machine_of m) ≢ Ended → rest.WriteOn (placeds.machine_of (placeds.fed_of rest_write.fed_of m n))
field_writes (placed.Original m) n on = rest.writes_on m n on
field_writes (placed.Copy spot m) n on = rest.writes_on m n on

-- what a machine goes on to, and memory then
abbrev write_next : List ℕ → StoplessWrite → StoplessWrite
write_next words m = machine_of_write.fed_of m (found_by (machine_of_write.asks_of m) words)

abbrev write_after : List ℕ → StoplessWrite → ℕ → ℕ
write_after words m = reading (applied (machine_of_write.asks_of m) words)

writes_on : (words : List ℕ) (m : StoplessWrite) → machine_of_write.asks_of m ≢ Ended → WriteAlone (reading words) m → WriteOn (write_after words m) (write_next words m)
writes_on words (write.Header spot word) on stands = let n : ℕ = reading words spot.at in turned_writes (write_after words (write.Header spot word)) spot word n (location_in spot n)
writes_on words (write.Keep spot word keep) on stands = placed_writes (write_after words (write.Keep spot word keep)) spot word keep.tagged (location_in spot (reading words spot.at))
writes_on words (write.Field m) on stands = field_writes m (found_by (rest_write.asks_of (placeds.machine_of m)) words) on
writes_on words (write.Wide its) on stands =
    let n : ℕ = reading words its.wide.place in
    looked_writes (write_after words (write.Wide its)) its n (let w = wide_word_at n in w.status) (rest.load_same words its.wide.place its.wide.place)
writes_on words (write.Try its wanted tries) on stands =
    let n : ℕ = reading words its.wide.place in
    tried_writes (write_after words (write.Try its wanted tries)) its (machine_of_write.lost its wanted tries n (wide_word_at n)) (n == wanted) (rest.same_eqb _ _ stands)
writes_on words (write.Address its) on stands = tt

-- ---- an exchange

-- its next step finds what it wants; and before the exchange of a wide word the value is in the original
abbrev ExchangeAlone : (ℕ → ℕ) → StoplessExchange → Type 0
ExchangeAlone memory (exchange.Field m) = rest.StandsAlone memory (placeds.machine_of m)
ExchangeAlone memory (exchange.Original its) = memory its.wide.place ≡ 0
ExchangeAlone memory (exchange.Try its wanted tries) = memory its.wide.place ≡ wanted
ExchangeAlone memory m = Unit {0}

abbrev ExchangeOn : (ℕ → ℕ) → StoplessExchange → Type 0
ExchangeOn memory m = ExchangeGoesOn (ExchangeAlone memory m) (machine_of_exchange.end_of m)

module _ (memory : ℕ → ℕ) where
  word_exchanges : (errand : Errand) (phase : Phase) (header : ℕ) (it : Location) → ExchangeOn memory (machine_of_exchange.at_word errand phase header it)
  word_exchanges errand phase header location.Original = rest.exchange_begins memory errand phase header
  word_exchanges errand phase header (location.Tagged keep) = rest.exchange_begins memory errand phase header
  word_exchanges errand phase header (location.Wide wide) = rest.exchange_begins memory errand phase header
  word_exchanges errand phase header (location.Copy copy) = rest.exchange_begins memory (record errand { spot = copy }) phase header

  wide_or_exchanges : (errand : Errand) (phase : Phase) (header : ℕ) (wide : Spot) (b : Bool)
      → ExchangeOn memory (if b then machine_of_exchange.widened errand phase wide else machine_of_exchange.at_word errand phase header (location.Wide wide))
  wide_or_exchanges errand phase header wide true = tt
  wide_or_exchanges errand phase header wide false = word_exchanges errand phase header (location.Wide wide)

  placed_exchanges : (errand : Errand) (phase : Phase) (header : ℕ) (it : Location) → ExchangeOn memory (machine_of_exchange.placed errand phase header it)
  placed_exchanges errand phase header location.Original = word_exchanges errand phase header location.Original
  placed_exchanges errand phase header (location.Tagged keep) = word_exchanges errand phase header (location.Tagged keep)
  placed_exchanges errand phase header (location.Wide wide) = wide_or_exchanges errand phase header wide (nat_lt errand.spot.field (len_at header))
  placed_exchanges errand phase header (location.Copy copy) = word_exchanges errand phase header (location.Copy copy)

  keeps_or_exchanges : (errand : Errand) (phase : Phase) (header : ℕ) (it : Location) (next : StoplessExchange) (b : Bool) → ExchangeOn memory next
      → ExchangeOn memory (if b then next else machine_of_exchange.placed errand phase header it)
  keeps_or_exchanges errand phase header it next true on = on
  keeps_or_exchanges errand phase header it next false on = placed_exchanges errand phase header it

  turned_exchanges : (errand : Errand) (phase : Phase) (header : ℕ) (it : Location) → ExchangeOn memory (machine_of_exchange.turned errand phase header it)
  turned_exchanges errand phase header location.Original = placed_exchanges errand phase header location.Original
  turned_exchanges errand phase header (location.Tagged keep) =
      keeps_or_exchanges errand phase header (location.Tagged keep) (exchange.Keep errand phase keep) (nat_lt errand.spot.field (let h = header_at header in h.len)) tt
  turned_exchanges errand phase header (location.Wide wide) = placed_exchanges errand phase header (location.Wide wide)
  turned_exchanges errand phase header (location.Copy copy) = placed_exchanges errand phase header (location.Copy copy)

  -- with the field's word, and the wide word that was found, which is still there
  compared_by : (its : WideErrand) (wanted word : ℕ) (b : Bool) → memory its.wide.place ≡ wanted
      → ExchangeOn memory (if b then exchange.Try its wanted Two else machine_of_exchange.differs its.errand its.phase word)
  compared_by its wanted word true there = there
  compared_by its wanted word false there = rest.follows_on memory its.errand _

  -- by the status that the look found
  status_exchanges : (its : WideErrand) (u : Status) (n : ℕ) → n ≡ word_of_status u → memory its.wide.place ≡ n → ExchangeOn memory (machine_of_exchange.looked its n (wide_of_status u))
  unfolding word_of_status
  status_exchanges its InOriginal n same there = there ∙ same
  status_exchanges its (InWide w) n same there = compared_by its n (word_of w) (machine_of_exchange.expects its.errand (word_of w)) there
  status_exchanges its (InCopy w) n same there = tt

  looked_exchanges : (its : WideErrand) (u : Status) (n : ℕ) → (n ≡ word_of_status u) × IsStatus u → memory its.wide.place ≡ n → ExchangeOn memory (machine_of_exchange.looked its n (wide_word_at n))
  looked_exchanges its u n found there =
      subst (λ (w : WideWord). ExchangeOn memory (machine_of_exchange.looked its n w)) (sym (wide_found u n found)) (status_exchanges its u n found.0 there)

  -- the word there is the one that it wants: it is not lost
  tried_exchanges : (its : WideErrand) (lost : StoplessExchange) (b : Bool) → b ≡ true → ExchangeOn memory (if b then machine_of_exchange.over its.errand Done else lost)
  tried_exchanges its lost true e = tt
  tried_exchanges its lost false e = absurd cc

-- what a machine goes on to, and memory then
abbrev exchange_next : List ℕ → StoplessExchange → StoplessExchange
exchange_next words m = machine_of_exchange.fed_of m (found_by (machine_of_exchange.asks_of m) words)

abbrev exchange_after : List ℕ → StoplessExchange → ℕ → ℕ
exchange_after words m = reading (applied (machine_of_exchange.asks_of m) words)

-- at the word of its field it goes on as at rest
field_exchanges : (words : List ℕ) (m : Placed ExchangeMachine) → rest_exchange.asks_of (placeds.machine_of m) ≢ Ended → rest.StandsAlone (reading words) (placeds.machine_of m)
    → ExchangeOn (exchange_after words (exchange.Field m)) (exchange_next words (exchange.Field m))
field_exchanges words (placed.Original m) on stands = rest.exchanges_on words m on stands
field_exchanges words (placed.Copy spot m) on stands = rest.exchanges_on words m on stands

exchanges_on : (words : List ℕ) (m : StoplessExchange) → machine_of_exchange.asks_of m ≢ Ended → ExchangeFinds kit_of_stopless steps_of_stopless words m → ExchangeAlone (reading words) m
    → ExchangeOn (exchange_after words m) (exchange_next words m)
exchanges_on words (exchange.Header errand phase) on finds stands =
    let n : ℕ = reading words errand.spot.at in
    turned_exchanges (exchange_after words (exchange.Header errand phase)) errand phase n (location_in errand.spot n)
exchanges_on words (exchange.Keep errand phase keep) on finds stands =
    placed_exchanges (exchange_after words (exchange.Keep errand phase keep)) errand phase keep.tagged (location_in errand.spot (reading words errand.spot.at))
exchanges_on words (exchange.Field m) on finds stands = field_exchanges words m on stands
exchanges_on words (exchange.Wide its) on finds stands =
    looked_exchanges (exchange_after words (exchange.Wide its)) its finds.here.status (reading words its.wide.place) finds.word (rest.load_same words its.wide.place its.wide.place)
exchanges_on words (exchange.Original its) on finds stands =
    let n : ℕ = reading words its.errand.spot.place in
    compared_by (exchange_after words (exchange.Original its)) its 0 n (machine_of_exchange.expects its.errand n) (rest.load_same words its.errand.spot.place its.wide.place ∙ stands)
exchanges_on words (exchange.Try its wanted tries) on finds stands =
    let n : ℕ = reading words its.wide.place in
    tried_exchanges (exchange_after words (exchange.Try its wanted tries)) its (machine_of_exchange.lost its wanted tries n (wide_word_at n)) (n == wanted) (rest.same_eqb _ _ stands)
exchanges_on words (exchange.Address its) on finds stands = tt

-- ---- all of it

pub stopless_plays_alone : PlaysAlone kit_of_stopless steps_of_stopless
stopless_plays_alone = record {
  reads_fall = machine_of_read.falls_of;
  writes_fall = machine_of_write.falls_of;
  exchanges_fall = machine_of_exchange.falls_of;
  read_few = λ l v birth at field. lit≤ tt;
  write_few = λ l v birth at field word. lit≤ tt;
  exchange_few = λ l v birth at field expected word. lit≤ tt;
  WriteAlone = WriteAlone;
  write_first = λ memory l v birth at field word unmarked. tt;
  writes_on = writes_on;
  ExchangeAlone = ExchangeAlone;
  exchange_first = λ memory l v birth at field expected word unmarked. tt;
  exchanges_on = exchanges_on;
  move_left = left_of_move;
  move_few = λ l j mark place. move_few j place;
  MoveAlone = MoveAlone;
  move_first = λ memory l j mark place. move_begins memory j place;
  moves_on = moves_on;
}
