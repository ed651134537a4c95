-- The answers of each thread, as lists.
use Rattle.std.specs.Prelude.{ℕ, List, map, vec_capacity}
use Rattle.heap_script.specs.declared.answer.Answer.{Answer}
use Rattle.heap_script.specs.declared.answer.Answers.{Answers}

abbrev pub lists_of : Answers → List (List Answer)
lists_of answers = map (λ list. list.items) answers.lists.items

-- for how many answers of each thread there is room
abbrev pub rooms_of : Answers → List ℕ
rooms_of answers = map (λ list. vec_capacity list) answers.lists.items
