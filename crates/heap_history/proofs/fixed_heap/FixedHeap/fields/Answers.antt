use Rattle.std.proofs.Common.{Some, sym, ap, ◌∙◌}
use Rattle.std.specs.Option.{option_map}
use Rattle.std.specs.Ordering.{nat_cmp}
use Rattle.std.specs.BTreeMap.{is_at}
use Rattle.heap_history.specs.FixedHeaps.{objects_of}
use Rattle.heap_history.proofs.Objects.{lookup-objects_of, common_fields, other_fields}
use Rattle.heap_history.proofs.fixed_heap.FixedHeap.fields.Goals as goal

pub returns-then-object-eq-COMMON_BIRTH : goal.returns-then-object-eq-COMMON_BIRTH
returns-then-object-eq-COMMON_BIRTH c = rw (← c.self.view_is) (common_fields c.self.inside.common (objects_of c.self.inside.made.entries) c.args.object c.if-object-eq-COMMON_BIRTH.true)

pub returns-in-None : goal.returns-in-None
returns-in-None c = rw (← c.self.view_is) (other_fields c.self.inside.common (objects_of c.self.inside.made.entries) c.args.object c.if-object-eq-COMMON_BIRTH.false ∙ lookup-objects_of (is_at (nat_cmp c.args.object)) c.self.inside.made.entries ∙ ap (option_map (λ v. v.items)) (sym c.in-None.ensures.value))

pub returns-in-Some : goal.returns-in-Some
returns-in-Some c = rw (← c.self.view_is) (other_fields c.self.inside.common (objects_of c.self.inside.made.entries) c.args.object c.if-object-eq-COMMON_BIRTH.false ∙ lookup-objects_of (is_at (nat_cmp c.args.object)) c.self.inside.made.entries ∙ ap (option_map (λ v. v.items)) (sym c.in-Some.ensures.value) ∙ ap Some (sym c.deref.ensures.value))
