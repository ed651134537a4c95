-- The laws of Chicken.
use Rattle.std.specs.Prelude.{false, refl}
use Rattle.std.proofs.Common.{ap, lit≤}
use Rattle.heap_words.specs.declared.field_word.FieldWord.{FieldWord}
use Rattle.heap_words.specs.FieldWordLaws.{field_at-word_of}
use Rattle.barriers.specs.Spots.{spot_of}
use Rattle.barriers.specs.Values.{value_of}
use Rattle.barriers.specs.Knowns.{Writes, Exchanges, Loads_header}
use Rattle.object_headers.specs.declared.change.Kind.TheVariants as kinds
use Rattle.barriers.specs.Stances.{mark_in}
use Rattle.barriers.specs.Kits.{Kit, Stepping, Laws}
use Rattle.at_rest.specs.Rests.{packed_word}
use Rattle.chicken_tags.specs.declared.read.ChickenRead.{ChickenRead}
use Rattle.chicken_tags.specs.declared.write.ChickenWrite.{ChickenWrite}
use Rattle.chicken_tags.specs.declared.exchange.ChickenExchange.{ChickenExchange}
use Rattle.chicken_tags.specs.declared.mover.ChickenMove.{ChickenMove}
use Rattle.chicken_tags.specs.ChickenReads as machine_of_read
use Rattle.chicken_tags.specs.ChickenWrites as machine_of_write
use Rattle.chicken_tags.specs.ChickenExchanges as machine_of_exchange
use Rattle.chicken_tags.specs.ChickenMoves as machine_of_move
use Rattle.chicken_tags.specs.ChickenTable.{chicken}
use Rattle.chicken_tags.specs.ChickenMoveLaws.{chicken_laws, chicken_cycle, chicken_movable}
use Rattle.chicken_tags.specs.ChickenKnowing.{reads, writes, exchanges, moves, kept_by, ReadsFor, WritesFor, ExchangesFor, MovesFor}
use Rattle.chicken_tags.specs.MoverLaws.{chicken_moving, move_begins}
use Rattle.chicken_tags.specs.ReadLaws.{chicken_reading}
use Rattle.chicken_tags.specs.WriteLaws.{chicken_writing}
use Rattle.chicken_tags.specs.ExchangeLaws.{chicken_exchanging}

abbrev pub kit_of_chicken : Kit ChickenRead ChickenWrite ChickenExchange ChickenMove
kit_of_chicken = record {
  kind = kinds.Chicken;
  protocol = chicken;
  starts_read = λ l v birth at field. machine_of_read.begun v birth at field;
  starts_write = λ l v birth at field word. machine_of_write.begun birth at field word;
  starts_exchange = λ l v birth at field expected word. machine_of_exchange.begun v birth at field expected word;
  starts_move = λ l job mark. machine_of_move.begun job;
  read_ended = machine_of_read.end_of;
  write_ended = machine_of_write.end_of;
  exchange_ended = machine_of_exchange.end_of;
  move_ended = machine_of_move.end_of;
  minds = false;
  reads = reads;
  writes = writes;
  exchanges = exchanges;
  moves = moves;
  keeps = kept_by;
  ReadsFor = ReadsFor;
  WritesFor = WritesFor;
  ExchangesFor = ExchangesFor;
  MovesFor = MovesFor;
}

-- what its machines do
abbrev pub steps_of_chicken : Stepping ChickenRead ChickenWrite ChickenExchange ChickenMove
steps_of_chicken = record {
  read_asks = machine_of_read.asks_of;
  write_asks = machine_of_write.asks_of;
  exchange_asks = machine_of_exchange.asks_of;
  move_asks = machine_of_move.asks_of;
  read_fed = machine_of_read.fed_of;
  write_fed = machine_of_write.fed_of;
  exchange_fed = machine_of_exchange.fed_of;
  move_fed = machine_of_move.fed_of;
  read_front = machine_of_read.front;
  write_front = machine_of_write.front;
  exchange_front = machine_of_exchange.front;
  read_left = machine_of_read.left_of;
  write_left = machine_of_write.left_of;
  exchange_left = machine_of_exchange.left_of;
}

pub laws_of_chicken : Laws kit_of_chicken steps_of_chicken
laws_of_chicken = record {
  minds = refl;
  table = chicken_laws;
  cycle = chicken_cycle;
  movable = chicken_movable;
  reading = chicken_reading;
  writing = chicken_writing;
  exchanging = chicken_exchanging;
  begins_read = λ l v birth at field. record { known = refl; own = refl; few = lit≤ tt };
  begins_write = λ l v birth at field word fits. record {
    known = ap (λ (w : FieldWord). Loads_header (spot_of birth at field) (Writes w)) (field_at-word_of word fits);
    own = packed_word word fits;
    few = lit≤ tt;
  };
  begins_exchange = λ l v birth at field expected word fits. record {
    known = ap (λ (w : FieldWord). Loads_header (spot_of birth at field) (Exchanges (value_of expected) w)) (field_at-word_of word fits);
    own = (refl, packed_word word fits);
    few = lit≤ tt;
  };
  moving = chicken_moving;
  begins_move = λ l j mark job. let begins = move_begins (mark_in mark) j job in record { known = begins.0; own = begins.1; none = begins.2 };
}
