-- What is told of the objects that are left.
use Rattle.std.specs.Prelude.{List, map}
use Rattle.cycle_journal.specs.declared.leavings.ObjectLine.{ObjectLine}
use Rattle.cycle_journal.specs.LastHeaps.{Line}

abbrev pub line_of : ObjectLine → Line
line_of o = record { birth = o.birth; at = o.at; fields = o.fields.items }

abbrev pub lines_of : List ObjectLine → List Line
lines_of objects = map line_of objects
