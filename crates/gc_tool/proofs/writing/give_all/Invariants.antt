use Rattle.std.proofs.Common.{◌≡◌, length}
use Rattle.gc_tool.specs.Outside.{AppendsUpTo}
use Rattle.gc_tool.proofs.writing.give_all.Given as goal

-- the sink took the text up to the rest
abbrev pub invariant-loop-rest : goal.invariant-loop-rest
invariant-loop-rest g l = record {
  taken : AppendsUpTo (g.K.Sink.holds l.fn.sink) (g.K.Sink.holds l.sink) l.fn.text l.rest;
  faults : g.K.Sink.faults l.sink ≡ g.K.Sink.faults l.fn.sink;
}

abbrev pub decreases-loop-rest : goal.decreases-loop-rest
decreases-loop-rest g l = length l.rest
