use Rattle.std.proofs.Common.{◌≡◌, drop, ◌<◌, ◌^◌}
use Rattle.heap_script.specs.Words.{digits_from}
use Rattle.heap_script.proofs.words.number.Given as goal

abbrev pub invariant-loop-b : goal.invariant-loop-b
invariant-loop-b l = record {
  same : digits_from 0 l.word ≡ digits_from l.n (drop l.b-index l.word);
  small : l.n < 10 ^ l.b-index;
}
