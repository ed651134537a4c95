use Rattle.std.specs.Prelude.{◌≡◌, take}
use Rattle.gc_cycle.specs.Reports.{moves_of}
use Rattle.gc_cycle.proofs.world.reporting.moves_in.Given as goal

abbrev pub invariant-loop-one : goal.invariant-loop-one
invariant-loop-one l = l.rows.items ≡ moves_of (take l.one-index l.ended)
