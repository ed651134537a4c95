use Rattle.std.proofs.Common.{◌≡◌, ◌∷◌, is_some, false, true, not, ◌&&◌, sym, ap, ◌∙◌}
use Rattle.std.proofs.lemmas.Bool.{and_left, and_right, and_from, not_from_true, not_from_false}
use Rattle.std.specs.Ordering.{nat_cmp}
use Rattle.std.specs.BTreeMap.{insert_entry}
use Rattle.heap_history.specs.FixedHeaps.{fields_of, is_birth_of, objects_of}
use Rattle.heap_history.proofs.Objects.{objects_of-insert, new_is_other, insert_other, not_made, is_made}
use Rattle.heap_history.proofs.fixed_heap.FixedHeap.make.Goals as goal
use Rattle.heap_history.proofs.fixed_heap.FixedHeap.make.Goals.{then-not-is_birth_of-via-then-not-is_birth_of, then-not-is_birth_of-via-else-not-is_birth_of+then-has}

refused : (c : goal.Joined-then-not-is_birth_of) → (is_birth_of c.args.pass c.args.birth && not (is_some (fields_of c.args.self.now c.args.birth))) ≡ false
refused c = elim c.then-not-is_birth_of.branch [
  | then-not-is_birth_of-via-then-not-is_birth_of w ↦ and_left _ _ (sym c.is_birth_of.ensures ∙ w.if-not-is_birth_of.true)
  | then-not-is_birth_of-via-else-not-is_birth_of+then-has w ↦ and_right (is_birth_of c.args.pass c.args.birth) _ (not_from_true _ (sym w.has.ensures ∙ w.if-has.true))
]

pub returns-then-not-is_birth_of-clause-reply : goal.returns-then-not-is_birth_of-clause-reply
returns-then-not-is_birth_of-clause-reply c = sym (not_made c.args.self.now c.args.pass c.args.birth c.args.len (refused c)).0

pub returns-then-not-is_birth_of-clause-heap : goal.returns-then-not-is_birth_of-clause-heap
returns-then-not-is_birth_of-clause-heap c = sym (not_made c.args.self.now c.args.pass c.args.birth c.args.len (refused c)).1

fits : (c : goal.Joined-branch-3) → (is_birth_of c.args.pass c.args.birth && not (is_some (fields_of c.args.self.now c.args.birth))) ≡ true
fits c = and_from _ _ (sym c.is_birth_of.ensures ∙ c.if-not-is_birth_of.false) (not_from_false _ (sym c.has.ensures ∙ c.if-has.false))

pub returns-clause-reply : goal.returns-clause-reply
returns-clause-reply c = sym (is_made c.args.self.now c.args.pass c.args.birth c.args.len (fits c)).0

pub returns-clause-heap : goal.returns-clause-heap
returns-clause-heap c =
    let zeros = c.in_ok-zeros.zeros in
    let made = c.self.inside.made.entries in
    let other = new_is_other c.self.inside.common (objects_of made) c.args.pass c.args.birth (rw (← c.self.view_is) at (fits c)) in
    ap (λ es. (1, c.self.inside.common) ∷ objects_of es) c.in_ok-insert.ensures.entries
    ∙ ap (λ rest. (1, c.self.inside.common) ∷ rest) (objects_of-insert made c.args.birth zeros)
    ∙ sym (insert_other c.self.inside.common (objects_of made) c.args.birth zeros.items other.0 other.1)
    ∙ ap (λ heap. insert_entry nat_cmp heap c.args.birth zeros.items) c.self.view_is
    ∙ ap (λ values. insert_entry nat_cmp c.args.self.now c.args.birth values) (c.in_ok-zeros.ensures.items_if_clones_equal (λ y e. e))
    ∙ sym (is_made c.args.self.now c.args.pass c.args.birth c.args.len (fits c)).1
