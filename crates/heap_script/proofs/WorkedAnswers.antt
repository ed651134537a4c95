-- A session of one thread, as the definitions have it: its answers are allowed for the changes of its history.
use Rattle.std.proofs.Common.{◌≤◌, List, [], ◌∷◌, refl, lit≤}
use Rattle.std.proofs.lemmas.List.Elements.{All-from_recursion}
use Rattle.heap_words.specs.declared.operand.Operand.TheVariants as operands
use Rattle.heap_history.specs.declared.call.Value.TheVariants.{Num, Object}
use Rattle.heap_history.specs.declared.call.Call.{Call}
use Rattle.heap_history.specs.declared.call.Call.TheVariants as calls
use Rattle.heap_history.specs.Histories.{pass_of}
use Rattle.heap_script.specs.declared.script.Command.TheVariants.{New, Get, Put}
use Rattle.heap_script.specs.declared.answer.Answer.{Answer}
use Rattle.heap_script.specs.declared.answer.Answer.TheVariants as answers
use Rattle.heap_script.specs.Scripts.{Reading}
use Rattle.heap_script.specs.Allowed.{IsAllowed, Seat}

-- `1 new a 2`, `1 put a.0 5`, `1 get b a.0`, `1 get c b.0`, `1 get c a.2`
abbrev session : Reading
session = record {
  layout = record { passes = 1; quota = 4; pool = 8; wide = 256 };
  cycles = 0;
  lines =
      record { thread = 1; command = New 0 2 }
      ∷ record { thread = 1; command = Put 0 0 (operands.Num 5) }
      ∷ record { thread = 1; command = Get 1 0 0 }
      ∷ record { thread = 1; command = Get 2 1 0 }
      ∷ record { thread = 1; command = Get 2 0 2 }
      ∷ [];
}

abbrev history : List Call
history = calls.NewObject 1 524289 2 ∷ calls.Write 1 524289 0 (Num 5) ∷ []

-- #1.1, ok, 5, nolink, nofield 2
abbrev told : List Answer
told = answers.Made 524289 ∷ answers.Ok ∷ answers.Got (Num 5) ∷ answers.NotLink ∷ answers.NoField 2 ∷ []

abbrev last_seat : Seat
last_seat = record { registers = Object 524289 ∷ Num 5 ∷ Num 0 ∷ Num 0 ∷ Num 0 ∷ Num 0 ∷ Num 0 ∷ Object 1 ∷ []; seen = 2; lens = 2 ∷ [] }

answers_are_allowed : IsAllowed session history (told ∷ [])
answers_are_allowed = record {
  passes = All-from_recursion (λ (c : Call). (1 ≤ pass_of c) × (pass_of c ≤ 1)) history ((lit≤ tt, lit≤ tt), ((lit≤ tt, lit≤ tt), tt));
  count = refl;
  threads = (
    record {
      fronts = 1 ∷ 2 ∷ 2 ∷ 2 ∷ 2 ∷ [];
      last = last_seat;
      run = (
        (refl, record { own_call = refl; there = λ e. cc; later = lit≤ tt; within = lit≤ tt; own = refl; last = λ _. refl; reply = refl }),
        (
          (tt, record { own_call = refl; there = λ e. cc; later = lit≤ tt; within = lit≤ tt; own = refl; last = λ _. refl; reply = refl }),
          (
            (tt, record { own_call = refl; there = λ e. cc; later = lit≤ tt; within = lit≤ tt; own = refl; last = λ e. cc; reply = refl }),
            (
              (refl, tt),
              (
                (refl, (refl, lit≤ tt)),
                refl,
              ),
            ),
          ),
        ),
      );
      rest = refl;
    },
    tt,
  );
}
