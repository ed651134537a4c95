use Rattle.std.proofs.Common.{is_some, sym, ap, ◌∙◌}
use Rattle.heap_history.specs.FixedHeaps.{objects_of}
use Rattle.heap_history.proofs.Objects.{is_some-objects_of, other_fields}
use Rattle.heap_history.proofs.fixed_heap.FixedHeap.has.Goals as goal

pub returns-else-birth-eq-COMMON_BIRTH : goal.returns-else-birth-eq-COMMON_BIRTH
returns-else-birth-eq-COMMON_BIRTH c = rw (← c.self.view_is) (c.contains_key.ensures ∙ sym (ap is_some (other_fields c.self.inside.common (objects_of c.self.inside.made.entries) c.args.birth c.if-birth-eq-COMMON_BIRTH.false) ∙ is_some-objects_of c.self.inside.made.entries c.args.birth))
