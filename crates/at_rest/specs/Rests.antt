-- The laws of the copier that moves nothing.
use Rattle.std.specs.Prelude.{refl}
use Rattle.std.proofs.Common.{ap, sym, subst, arith, lit≤}
use Rattle.heap_words.specs.declared.field_word.FieldWord.{FieldWord}
use Rattle.heap_words.specs.FieldWords.{IsFieldWord, word_of}
use Rattle.heap_words.specs.FieldWordLaws.{field_at-word_of}
use Rattle.object_headers.specs.declared.change.Kind.TheVariants as kinds
use Rattle.barriers.specs.declared.read.ReadMachine.{ReadMachine}
use Rattle.barriers.specs.declared.write.WriteMachine.{WriteMachine}
use Rattle.barriers.specs.declared.exchange.ExchangeMachine.{ExchangeMachine}
use Rattle.barriers.specs.Spots.{spot_of}
use Rattle.barriers.specs.Values.{value_of}
use Rattle.barriers.specs.Knowns.{Writes, Exchanges, Loads_header}
use Rattle.barriers.specs.Reads as machine_of_read
use Rattle.barriers.specs.Writes as machine_of_write
use Rattle.barriers.specs.Exchanges as machine_of_exchange
use Rattle.barriers.specs.Spaces.{Here}
use Rattle.barriers.specs.Cycles.{Cycle}
use Rattle.barriers.specs.Moves.{Carried}
use Rattle.barriers.specs.CycleLaws.{CycleLaws, IsAtWide, MovingLaws}
use Rattle.barriers.specs.Kits.{Stepping, Laws}
use Rattle.at_rest.specs.declared.stay.StayMachine.{StayMachine}
use Rattle.at_rest.specs.Stays as stays
use Rattle.at_rest.specs.RestLaws.{rest_laws}
use Rattle.at_rest.specs.RestTable.{at_rest, RestHead}
use Rattle.at_rest.specs.Knowing.{IsPackedWord, kit_at_rest}
use Rattle.at_rest.specs.ReadLaws.{reading}
use Rattle.at_rest.specs.WriteLaws.{writing}
use Rattle.at_rest.specs.ExchangeLaws.{exchanging}
use Rattle.at_rest.specs.StayLaws.{staying}

-- what its machines do
abbrev pub steps_at_rest : Stepping ReadMachine WriteMachine ExchangeMachine StayMachine
steps_at_rest = record {
  read_asks = machine_of_read.asks_of;
  write_asks = machine_of_write.asks_of;
  exchange_asks = machine_of_exchange.asks_of;
  move_asks = stays.asks_of;
  read_fed = machine_of_read.fed_of;
  write_fed = machine_of_write.fed_of;
  exchange_fed = machine_of_exchange.fed_of;
  move_fed = stays.fed_of;
  read_front = machine_of_read.front;
  write_front = machine_of_write.front;
  exchange_front = machine_of_exchange.front;
  read_left = machine_of_read.left_of;
  write_left = machine_of_write.left_of;
  exchange_left = machine_of_exchange.left_of;
}

-- what a cycle asks of its moves, which only look
rest_movable : MovingLaws kinds.AtRest at_rest
rest_movable = record {
  begins = λ j. refl;
  ready = λ c j x wide ready. tt;
  tags = λ tags. absurd cc;
  keeps = λ makes. absurd makes;
  draws = λ draws m. absurd cc;
  clears = λ clears. absurd cc;
  looks = λ moves c j x head. absurd cc;
  narrows = λ clover c b f x w shape wide. absurd cc;
  unwritten = λ clover c side x k found w running own put. absurd cc;
  wides = λ c m x at head. absurd (no_wide c m x at head);
  starts = λ c j x head. absurd head;
  marks = λ c j f w x head. absurd head;
  forwards = λ c j x to wide target head. absurd head;
} where
  no_wide : (c : Cycle) (m : Carried) (x : Here) → IsAtWide m → RestHead c m x → ⊥
  no_wide c m x at head = grind (arith, at, head)

-- what a cycle asks
pub rest_cycle : CycleLaws at_rest
rest_cycle = record {
  fits_by = λ c side shaken. tt;
  unmarked = λ c mark clear. clear;
  announce = λ p. tt;
  reach = λ t. tt;
  lates = λ b. tt;
  unclear = λ c right clear. absurd cc;
  unkeep = tt;
  narrow = λ c b f x w shape still. shape.status;
}

pub packed_word : (word : FieldWord) → IsFieldWord word → IsPackedWord (word_of word)
packed_word word fits =
    let same = field_at-word_of word fits in
    record { same = ap word_of (sym same); fits = subst IsFieldWord (sym same) fits }

pub laws_at_rest : Laws kit_at_rest steps_at_rest
laws_at_rest = record {
  minds = refl;
  table = rest_laws;
  cycle = rest_cycle;
  movable = rest_movable;
  reading = reading;
  writing = writing;
  exchanging = exchanging;
  begins_read = λ l v birth at field. record { known = refl; own = refl; few = lit≤ tt };
  begins_write = λ l v birth at field word fits. record {
    known = ap (λ (w : FieldWord). Loads_header (spot_of birth at field) (Writes w)) (field_at-word_of word fits);
    own = packed_word word fits;
    few = lit≤ tt;
  };
  begins_exchange = λ l v birth at field expected word fits. record {
    known = ap (λ (w : FieldWord). Loads_header (spot_of birth at field) (Exchanges (value_of expected) w)) (field_at-word_of word fits);
    own = (refl, packed_word word fits);
    few = lit≤ tt;
  };
  moving = staying;
  begins_move = λ l j mark job. record { known = refl; own = tt; none = refl };
}
