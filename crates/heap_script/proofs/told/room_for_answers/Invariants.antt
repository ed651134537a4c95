use Rattle.std.proofs.Common.{◌≡◌, [], map, take, length}
use Rattle.std.specs.Prelude.{vec_capacity}
use Rattle.heap_script.proofs.told.room_for_answers.Given as goal

abbrev pub invariant-loop-thread : goal.invariant-loop-thread
invariant-loop-thread l = record {
  lists_are : map (λ list. list.items) l.lists.items ≡ map (λ list. []) (take l.thread l.commands);
  rooms_are : map (λ list. vec_capacity list) l.lists.items ≡ map length (take l.thread l.commands);
}
