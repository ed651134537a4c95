use Rattle.std.proofs.Common.{◌≡◌, ◌∷◌, ◌<◌, length, arith, slice_get, sym, ap, ◌∙◌}
use Rattle.heap_history.specs.FixedHeaps.{objects_of, field_in, value_in}
use Rattle.heap_history.proofs.Objects.{value_in-absent, value_in-there, slice_get_below, none_there, written, other_fields, write_other}
use Rattle.heap_history.proofs.fixed_heap.FixedHeap.set.Goals as goal

pub index_mut-requires : goal.index_mut-requires
index_mut-requires c =
    let values = c.in-Some.values.now in
    let made = c.self.inside.made.entries in
    let is : value_in c.args.self.now c.args.object c.args.field ≡ slice_get values.items c.args.field =
    rw (← c.self.view_is) (ap (λ fields. field_in fields c.args.field) (other_fields c.self.inside.common (objects_of made) c.args.object c.if-object-eq-COMMON_BIRTH.false) ∙ value_in-there made c.args.object c.args.field values (sym c.in-Some.ensures.value)) in
    let below : c.args.field < length values.items = slice_get_below values.items c.args.field (rw is at c.requires) in
    omega (arith, values.ok.0)

pub returns-in-Some : goal.returns-in-Some
returns-in-Some c =
    let common = c.self.inside.common in
    let made = c.self.inside.made.entries in
    rw (← c.self.view_is) (ap (λ es. (1, common) ∷ objects_of es) (c.get_mut.follows.holds _).0
    ∙ ap (λ rest. (1, common) ∷ rest) (written made c.args.object c.args.field c.args.value c.in-Some.values.now (sym c.in-Some.ensures.value))
    ∙ sym (write_other common (objects_of made) c.args.object c.args.field c.args.value c.if-object-eq-COMMON_BIRTH.false))

pub returns-in_default : goal.returns-in_default
returns-in_default c =
    let made = c.self.inside.made.entries in
    let other = ap (λ fields. field_in fields c.args.field) (other_fields c.self.inside.common (objects_of made) c.args.object c.if-object-eq-COMMON_BIRTH.false) in
    absurd (none_there _ (rw (← c.self.view_is) (other ∙ value_in-absent made c.args.object c.args.field (sym c.in_default.ensures.value))) c.requires)
