-- What is known of the machines of the copier that moves nothing.
use Rattle.std.specs.Prelude.{◌≡◌, ℕ, true, false, Option, Some, None}
use Rattle.heap_words.specs.declared.field_word.FieldWord.{FieldWord}
use Rattle.heap_words.specs.FieldWords.{IsFieldWord, word_of, field_at}
use Rattle.object_headers.specs.declared.change.Kind.TheVariants as kinds
use Rattle.handshakes.specs.declared.pass_view.PassView.{PassView}
use Rattle.handshakes.specs.declared.phase_word.Phase.{Phase}
use Rattle.handshakes.specs.PhaseWords.{phase_word_at}
use Rattle.barriers.specs.declared.ends.TryRefusal.TheVariants as refusal
use Rattle.barriers.specs.declared.ends.WriteEnd.{WriteEnd}
use Rattle.barriers.specs.declared.ends.WriteEnd.TheVariants as write_end
use Rattle.barriers.specs.declared.ends.ExchangeEnd.{ExchangeEnd}
use Rattle.barriers.specs.declared.ends.ExchangeEnd.TheVariants as exchange_end
use Rattle.barriers.specs.declared.read.ReadMachine.{ReadMachine}
use Rattle.barriers.specs.declared.read.ReadMachine.TheVariants as read
use Rattle.barriers.specs.declared.write.WriteMachine.{WriteMachine}
use Rattle.barriers.specs.declared.write.WriteMachine.TheVariants as write
use Rattle.barriers.specs.declared.plain_exchange.TriesLeft.{TriesLeft}
use Rattle.barriers.specs.declared.plain_exchange.TriesLeft.TheVariants.{Two, One, Zero}
use Rattle.barriers.specs.declared.plain_exchange.PlainExchange.{PlainExchange}
use Rattle.barriers.specs.declared.plain_exchange.PlainExchange.TheVariants as plain
use Rattle.barriers.specs.declared.exchange.Errand.{Errand}
use Rattle.barriers.specs.declared.exchange.ExchangeMachine.{ExchangeMachine}
use Rattle.barriers.specs.declared.exchange.ExchangeMachine.TheVariants as exchange
use Rattle.barriers.specs.Reads as machine_of_read
use Rattle.barriers.specs.Writes as machine_of_write
use Rattle.barriers.specs.PlainExchanges.{is_expected}
use Rattle.barriers.specs.Exchanges.{swap_of, errand_of}
use Rattle.barriers.specs.Exchanges as machine_of_exchange
use Rattle.barriers.specs.Spots.{spot_of}
use Rattle.barriers.specs.Values.{value_of}
use Rattle.barriers.specs.Knowns.{Task, Reads, Writes, Exchanges, Ending, Wrote, Done, Differs, Refused, Known, Loads_header, Loads, Stores, Swaps, Over, followed}
use Rattle.barriers.specs.Moves.{Carried, Idles, Looks}
use Rattle.barriers.specs.Kits.{Kit}
use Rattle.at_rest.specs.declared.stay.StayMachine.{StayMachine}
use Rattle.at_rest.specs.declared.stay.StayMachine.TheVariants as stay
use Rattle.at_rest.specs.Stays as stays
use Rattle.at_rest.specs.RestTable.{at_rest}

-- ---- what is known of each

abbrev pub reads : ReadMachine → Known
reads (read.Header spot phase) = Loads_header spot Reads
reads (read.Field spot phase) = Loads spot Reads
reads (read.Follow spot its) = followed spot Reads its
reads (read.NoField spot len) = Over spot Reads (Refused (refusal.NoField len))

abbrev pub write_ending : WriteEnd → Ending
write_ending write_end.Wrote = Wrote
write_ending (write_end.Refused why) = Refused why

abbrev pub writes : WriteMachine → Known
writes (write.Header spot word) = Loads_header spot (Writes (field_at word))
writes (write.Field spot word) = Stores spot (field_at word)
writes (write.Ended spot word end) = Over spot (Writes (field_at word)) (write_ending end)

abbrev pub task_of : Errand → Task
task_of errand = Exchanges (value_of errand.expected) (field_at errand.word)

abbrev pub exchange_ending : ExchangeEnd → Ending
exchange_ending exchange_end.Done = Done
exchange_ending (exchange_end.Differs word) = Differs word
exchange_ending (exchange_end.Refused why) = Refused why

abbrev pub tries_in : TriesLeft → ℕ
tries_in Two = 2
tries_in One = 1
tries_in Zero = 0

abbrev pub exchanges_at : Errand → PlainExchange → Known
exchanges_at errand (plain.Load swap) = Loads errand.spot (task_of errand)
exchanges_at errand (plain.Try swap wanted tries) = Swaps errand.spot (task_of errand) (field_at wanted) (tries_in tries)
exchanges_at errand (plain.Ended end) = Over errand.spot (task_of errand) (exchange_ending end)

abbrev pub exchanges : ExchangeMachine → Known
exchanges (exchange.Header errand phase) = Loads_header errand.spot (task_of errand)
exchanges (exchange.Field errand phase plainly) = exchanges_at errand plainly
exchanges (exchange.Follow errand its) = followed errand.spot (task_of errand) its
exchanges (exchange.Ended errand end) = Over errand.spot (task_of errand) (exchange_ending end)

abbrev pub moves : StayMachine → Carried
moves (stay.Header job) = Looks job
moves (stay.Ended header) = Idles

-- the header that it found
abbrev pub kept_by : StayMachine → Option ℕ
kept_by (stay.Header job) = None
kept_by (stay.Ended header) = Some header

-- ---- what they keep of their pass, and of words

-- the phase is the pass's
abbrev pub IsPhase : PassView → Phase → Type 0
IsPhase v phase = phase ≡ (let w = phase_word_at v.acked in w.phase)

-- the word of a number or a link
pub record IsPackedWord (word : ℕ) : Type 0 where
  pub same : word ≡ word_of (field_at word)
  pub fits : IsFieldWord (field_at word)

abbrev pub ReadsFor : PassView → ReadMachine → Type 0
ReadsFor v (read.Header spot phase) = IsPhase v phase
ReadsFor v (read.Field spot phase) = IsPhase v phase
ReadsFor v m = Unit {0}

abbrev pub WritesFor : PassView → WriteMachine → Type 0
WritesFor v (write.Header spot word) = IsPackedWord word
WritesFor v (write.Field spot word) = IsPackedWord word
WritesFor v (write.Ended spot word end) = IsPackedWord word

-- it is the exchange of this field's word, and wants a word that has the expected value
abbrev pub Exchanging : Errand → PlainExchange → Type 0
Exchanging errand (plain.Load swap) = swap ≡ swap_of errand
Exchanging errand (plain.Try swap wanted tries) = (swap ≡ swap_of errand) × IsPackedWord wanted × (is_expected (swap_of errand) wanted ≡ true)
Exchanging errand (plain.Ended end) = Unit {0}

abbrev pub ExchangesFor : PassView → ExchangeMachine → Type 0
ExchangesFor v (exchange.Header errand phase) = IsPhase v phase × IsPackedWord errand.word
ExchangesFor v (exchange.Field errand phase plainly) = IsPhase v phase × IsPackedWord errand.word × Exchanging errand plainly
ExchangesFor v (exchange.Follow errand its) = IsPackedWord errand.word
ExchangesFor v (exchange.Ended errand end) = IsPackedWord errand.word

abbrev pub MovesFor : Option FieldWord → StayMachine → Type 0
MovesFor mark m = Unit {0}

-- ---- all of it

abbrev pub kit_at_rest : Kit ReadMachine WriteMachine ExchangeMachine StayMachine
kit_at_rest = record {
  kind = kinds.AtRest;
  protocol = at_rest;
  starts_read = λ l v birth at field. read.Header (spot_of birth at field) (let w = phase_word_at v.acked in w.phase);
  starts_write = λ l v birth at field word. write.Header (spot_of birth at field) word;
  starts_exchange = λ l v birth at field expected word. exchange.Header (errand_of birth at field expected word) (let w = phase_word_at v.acked in w.phase);
  starts_move = λ l job mark. stay.Header job;
  read_ended = machine_of_read.end_of;
  write_ended = machine_of_write.end_of;
  exchange_ended = machine_of_exchange.end_of;
  move_ended = stays.end_of;
  minds = false;
  reads = reads;
  writes = writes;
  exchanges = exchanges;
  moves = moves;
  keeps = kept_by;
  ReadsFor = ReadsFor;
  WritesFor = WritesFor;
  ExchangesFor = ExchangesFor;
  MovesFor = MovesFor;
}
