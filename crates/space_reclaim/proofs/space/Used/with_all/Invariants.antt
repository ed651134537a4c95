use Rattle.std.proofs.Common.{◌≡◌, ◌+◌, ◌*◌, ◌≤◌, drop}
use Rattle.space_reclaim.specs.Plans.{words_of, strip_after}
use Rattle.space_reclaim.proofs.space.Used.with_all.Given as goal

abbrev pub invariant-loop-object : goal.invariant-loop-object
invariant-loop-object l = record {
  strip : strip_after l.used.strip (drop l.object-index l.objects) ≡ strip_after l.fn.self.strip l.objects;
  words : l.used.words + words_of (drop l.object-index l.objects) ≡ l.fn.self.words + words_of l.objects;
  low : l.used.strip ≤ l.fn.self.strip + 128 * l.object-index;
  few : l.used.words ≤ l.fn.self.words + 31 * l.object-index;
}
