use Rattle.std.proofs.Common.{◌≡◌, take, map, length}
use Rattle.heap_words.specs.declared.limits.TheConstants.{REGISTERS}
use Rattle.heap_words.specs.FieldWords.{word_of}
use Rattle.handshakes.proofs.retire.words_of.Given as goal

abbrev pub invariant-loop-i : goal.invariant-loop-i
invariant-loop-i l = record {
  so_far : take l.i l.words ≡ map word_of (take l.i l.registers);
  all : length l.words ≡ REGISTERS;
  registers : length l.registers ≡ REGISTERS;
}
