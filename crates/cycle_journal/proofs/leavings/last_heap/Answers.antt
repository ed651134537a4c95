use Rattle.std.proofs.Common.{rules, sym}
use Rattle.std.proofs.lemmas.List.Sorted.{IsPermutation-map, IsNonDecreasingBy-from_sort_by_key}
use Rattle.cycle_journal.specs.declared.leavings.ObjectLine.{ObjectLine}
use Rattle.cycle_journal.specs.LastHeaps.{live_objects}
use Rattle.cycle_journal.specs.Lines.{line_of}
use Rattle.cycle_journal.proofs.Orders.{rises}
use Rattle.cycle_journal.proofs.leavings.last_heap.Goals as goal

pub returns-clause-objects : goal.returns-clause-objects
returns-clause-objects c =
    rw (sym c.in_ok-objects.ensures) (IsPermutation-map line_of c.in_ok-objects.objects.items c.sort_unstable_by_key.new.self.items c.sort_unstable_by_key.ensures.permutation)

pub returns-clause-rising : goal.returns-clause-rising
returns-clause-rising c =
    rises c.args.words.now (live_objects c.args.layout.now c.args.words.now) c.in_ok-objects.objects.items c.sort_unstable_by_key.new.self.items c.in_ok-objects.ensures c.sort_unstable_by_key.ensures.permutation
    (IsNonDecreasingBy-from_sort_by_key (λ (o : ObjectLine). o.birth) _ c.sort_unstable_by_key.ensures.sorted (λ a r q k. search rules))
