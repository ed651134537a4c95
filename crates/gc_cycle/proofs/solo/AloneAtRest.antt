-- The copier at rest, where nobody else takes a step.
use Rattle.std.proofs.Common.{◌≡◌, ◌≢◌, ℕ, ◌<◌, Bool, true, false, List, refl, ap, arith, lit<, lit≤}
use Rattle.std.specs.Prelude.{◌==◌, nat_lt, if◌then◌else◌}
use Rattle.std.proofs.lemmas.List.{set-get_or}
use Rattle.std.proofs.lemmas.Bool.Decides.{nat_tests}
use Rattle.call_steps.specs.declared.step.Step.TheVariants.{Load, Ended}
use Rattle.call_steps.specs.Steps.{applied, found_by}
use Rattle.call_steps.specs.StepLaws.{reading}
use Rattle.heap_words.specs.FieldWords.{field_at}
use Rattle.object_headers.specs.Headers.{header_at}
use Rattle.handshakes.specs.declared.follow.FollowMachine.{FollowMachine}
use Rattle.handshakes.specs.declared.follow.FollowMachine.TheVariants as follow
use Rattle.handshakes.specs.declared.phase_word.Phase.{Phase}
use Rattle.handshakes.specs.Follows as follows
use Rattle.barriers.specs.declared.ends.ExchangeEnd.TheVariants as exchange_end
use Rattle.barriers.specs.declared.ends.TryRefusal.TheVariants as refusal
use Rattle.barriers.specs.declared.ends.WriteEnd.TheVariants as write_end
use Rattle.barriers.specs.declared.exchange.Errand.{Errand}
use Rattle.barriers.specs.declared.exchange.ExchangeMachine.{ExchangeMachine}
use Rattle.barriers.specs.declared.exchange.ExchangeMachine.TheVariants as exchange
use Rattle.barriers.specs.declared.plain_exchange.PlainExchange.{PlainExchange}
use Rattle.barriers.specs.declared.plain_exchange.PlainExchange.TheVariants as plain
use Rattle.barriers.specs.declared.plain_exchange.Swap.{Swap}
use Rattle.barriers.specs.declared.plain_exchange.TriesLeft.TheVariants.{Two}
use Rattle.barriers.specs.declared.spot.Spot.{Spot}
use Rattle.barriers.specs.declared.write.WriteMachine.{WriteMachine}
use Rattle.barriers.specs.declared.write.WriteMachine.TheVariants as write
use Rattle.barriers.specs.Exchanges as machine_of_exchange
use Rattle.barriers.specs.PlainExchanges as at_word
use Rattle.barriers.specs.Reads as machine_of_read
use Rattle.barriers.specs.Writes as machine_of_write
use Rattle.at_rest.specs.declared.stay.StayMachine.{StayMachine}
use Rattle.at_rest.specs.declared.stay.StayMachine.TheVariants as stay
use Rattle.at_rest.specs.Knowing.{kit_at_rest}
use Rattle.at_rest.specs.Rests.{steps_at_rest}
use Rattle.at_rest.specs.Stays as stays
use Rattle.gc_cycle.proofs.solo.PlaysAlone.{FindsWanted, WriteGoesOn, ExchangeGoesOn, PlaysAlone}

-- ---- a write

-- it has not ended, or it has with an answer
abbrev pub WriteOn : WriteMachine → Type 0
WriteOn m = WriteGoesOn (Unit {0}) (machine_of_write.end_of m)

header_writes : (spot : Spot) (word len : ℕ) (b : Bool) → WriteOn (if b then write.Field spot word else write.Ended spot word (write_end.Refused (refusal.NoField len)))
header_writes spot word len true = tt
header_writes spot word len false = tt

-- with the word of a header at hand
pub write_begins : (spot : Spot) (word header : ℕ) → WriteOn (machine_of_write.fed_of (write.Header spot word) header)
write_begins spot word header = let h = header_at header in header_writes spot word h.len (nat_lt spot.field h.len)

pub writes_on : (m : WriteMachine) (n : ℕ) → machine_of_write.asks_of m ≢ Ended → WriteOn (machine_of_write.fed_of m n)
writes_on (write.Header spot word) n on = write_begins spot word n
writes_on (write.Field spot word) n on = tt
writes_on (write.Ended spot word end) n on = absurd (on refl)

-- ---- an exchange

-- its next step finds what it wants
abbrev pub StandsAlone : (ℕ → ℕ) → ExchangeMachine → Type 0
StandsAlone memory m = FindsWanted memory (machine_of_exchange.asks_of m)

-- what is known of an exchange that goes on
abbrev pub GoesOn : (ℕ → ℕ) → ExchangeMachine → Type 0
GoesOn memory m = ExchangeGoesOn (StandsAlone memory m) (machine_of_exchange.end_of m)

-- a load changes no word
pub load_same : (words : List ℕ) (at a : ℕ) → reading (applied (Load at) words) a ≡ reading words a
load_same words at a = ap (λ (x : List ℕ). reading x a) (set-get_or words at 0)

pub same_eqb : (a b : ℕ) → a ≡ b → (a == b) ≡ true
same_eqb a b e = grind (arith, nat_tests)

module _ (memory : ℕ → ℕ) where
  header_exchanges : (errand : Errand) (phase : Phase) (len : ℕ) (b : Bool)
      → GoesOn memory (if b then exchange.Field errand phase (plain.Load (machine_of_exchange.swap_of errand)) else machine_of_exchange.lacking errand len)
  header_exchanges errand phase len true = tt
  header_exchanges errand phase len false = tt

  -- with the word of a header at hand
  pub exchange_begins : (errand : Errand) (phase : Phase) (header : ℕ) → GoesOn memory (machine_of_exchange.fed_of (exchange.Header errand phase) header)
  exchange_begins errand phase header = let h = header_at header in header_exchanges errand phase h.len (nat_lt errand.spot.field h.len)

  -- a value that differs is followed, where the phase asks so
  pub follows_on : (errand : Errand) (its : FollowMachine) → GoesOn memory (exchange.Follow errand its)
  follows_on errand (follow.Header birth at) = tt
  follows_on errand (follow.Ended end) = tt

  -- with the word that the load found, which is still there, a try begins
  loads_on : (errand : Errand) (phase : Phase) (swap : Swap) (found : ℕ) (b : Bool) → memory swap.place ≡ found
      → GoesOn memory (machine_of_exchange.exchanged errand phase (if b then plain.Try swap found Two else plain.Ended (exchange_end.Differs (field_at found))))
  loads_on errand phase swap found true there = there
  loads_on errand phase swap found false there = follows_on errand (follows.follow_of phase (field_at found))

  -- the word there is the one that it wants: it is not lost
  tries_on : (errand : Errand) (phase : Phase) (lost : PlainExchange) (b : Bool) → b ≡ true
      → GoesOn memory (machine_of_exchange.exchanged errand phase (if b then plain.Ended exchange_end.Done else lost))
  tries_on errand phase lost true e = tt
  tries_on errand phase lost false e = absurd cc

-- what a machine goes on to
abbrev next : List ℕ → ExchangeMachine → ExchangeMachine
next words m = machine_of_exchange.fed_of m (found_by (machine_of_exchange.asks_of m) words)

abbrev after : List ℕ → ExchangeMachine → ℕ → ℕ
after words m = reading (applied (machine_of_exchange.asks_of m) words)

pub exchanges_on : (words : List ℕ) (m : ExchangeMachine) → machine_of_exchange.asks_of m ≢ Ended → StandsAlone (reading words) m → GoesOn (after words m) (next words m)
exchanges_on words (exchange.Header errand phase) on wants = exchange_begins (after words (exchange.Header errand phase)) errand phase (reading words errand.spot.at)
exchanges_on words (exchange.Field errand phase (plain.Load swap)) on wants =
    loads_on (after words (exchange.Field errand phase (plain.Load swap))) errand phase swap (reading words swap.place) (at_word.is_expected swap (reading words swap.place)) (load_same words swap.place swap.place)
exchanges_on words (exchange.Field errand phase (plain.Try swap wanted tries)) on wants =
    tries_on (after words (exchange.Field errand phase (plain.Try swap wanted tries))) errand phase (at_word.lost swap wanted tries (reading words swap.place)) (reading words swap.place == wanted) (same_eqb _ _ wants)
exchanges_on words (exchange.Field errand phase (plain.Ended end)) on wants = absurd (on refl)
exchanges_on words (exchange.Follow errand (follow.Header birth address)) on wants = tt
exchanges_on words (exchange.Follow errand (follow.Ended end)) on wants = absurd (on refl)
exchanges_on words (exchange.Ended errand end) on wants = absurd (on refl)

-- ---- a move, which only looks

abbrev left_of_move : StayMachine → ℕ
left_of_move (stay.Header job) = 1
left_of_move (stay.Ended header) = 0

moves_fall : (m : StayMachine) (n : ℕ) → stays.asks_of m ≢ Ended → left_of_move (stays.fed_of m n) < left_of_move m
moves_fall (stay.Header job) n on = lit< tt
moves_fall (stay.Ended header) n on = absurd (on refl)

-- ---- all of it

pub rest_plays_alone : PlaysAlone kit_at_rest steps_at_rest
rest_plays_alone = record {
  reads_fall = machine_of_read.falls_of;
  writes_fall = machine_of_write.falls_of;
  exchanges_fall = machine_of_exchange.falls_of;
  read_few = λ l v birth at field. lit≤ tt;
  write_few = λ l v birth at field word. lit≤ tt;
  exchange_few = λ l v birth at field expected word. lit≤ tt;
  WriteAlone = λ memory m. Unit {0};
  write_first = λ memory l v birth at field word unmarked. tt;
  writes_on = λ words m on stands. writes_on m (found_by (machine_of_write.asks_of m) words) on;
  ExchangeAlone = StandsAlone;
  exchange_first = λ memory l v birth at field expected word unmarked. tt;
  exchanges_on = λ words m on finds stands. exchanges_on words m on stands;
  move_left = left_of_move;
  move_few = λ l j mark place. lit≤ tt;
  MoveAlone = λ memory m. Unit {0};
  move_first = λ memory l j mark place. tt;
  moves_on = λ words m on finds stands. (moves_fall m (found_by (stays.asks_of m) words) on, tt);
}
