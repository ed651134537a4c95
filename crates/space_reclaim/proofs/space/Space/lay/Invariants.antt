use Rattle.std.proofs.Common.{◌≡◌, ◌+◌, ◌*◌, ◌≤◌, ◌++◌, drop, length, vec_len, vec_capacity}
use Rattle.space_reclaim.specs.Plans.{strip_after, jobs_after}
use Rattle.space_reclaim.proofs.space.Space.lay.Given as goal

abbrev pub invariant-loop-object : goal.invariant-loop-object
invariant-loop-object l = record {
  jobs : l.jobs.items ++ jobs_after l.self l.used.strip l.used.words (drop l.object-index l.objects) ≡ l.fn.jobs.items ++ jobs_after l.self l.fn.used.strip l.fn.used.words l.objects;
  fits : strip_after l.used.strip (drop l.object-index l.objects) ≤ 64 * length l.self.pool_free;
  used : l.used.words ≤ l.used.strip;
  room : vec_len l.jobs + length (drop l.object-index l.objects) ≤ vec_capacity l.jobs;
  capacity : vec_capacity l.jobs ≡ vec_capacity l.fn.jobs;
}
