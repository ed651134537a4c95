-- A session of one pass, as the definitions have it: a new object, a write and a read of what was written.
use Rattle.std.proofs.Common.{◌≡◌, ◌≤◌, List, [], ◌∷◌, refl, lit≤, inr}
use Rattle.std.proofs.lemmas.List.Elements.{All-from_recursion}
use Rattle.heap_history.specs.declared.call.Value.TheVariants.{Num}
use Rattle.heap_history.specs.declared.call.Call.{Call}
use Rattle.heap_history.specs.declared.call.Call.TheVariants.{NewObject, Read, Write}
use Rattle.heap_history.specs.declared.call.Reply.TheVariants.{Made, Got, Wrote, NotThere}
use Rattle.heap_history.specs.declared.call.Entry.{Entry}
use Rattle.heap_history.specs.FixedHeaps.{opening}
use Rattle.heap_history.specs.declared.call.Ended.{Ended}
use Rattle.heap_history.specs.Histories.{IsAccepted, IsFirstBad, IsLegal, pass_of, changes}

abbrev made : Call
made = NewObject 1 524289 2

abbrev written : Call
written = Write 1 524289 0 (Num 5)

abbrev looked : Call
looked = Read 1 524289 0

abbrev session : List Entry
session = record { call = made; reply = Made } ∷ record { call = written; reply = Wrote } ∷ record { call = looked; reply = Got (Num 5) } ∷ []

session_is_accepted : IsAccepted opening session
session_is_accepted = (refl, (λ e. cc), (refl, (λ e. cc), (refl, (λ e. cc), tt)))

its_changes : changes session ≡ made ∷ written ∷ []
its_changes = refl

abbrev ended : List Ended
ended = record { call = made; reply = Made; front = 1 } ∷ record { call = written; reply = Wrote; front = 2 } ∷ record { call = looked; reply = Got (Num 5); front = 2 } ∷ []

session_is_legal : IsLegal (made ∷ written ∷ []) (ended ∷ [])
session_is_legal = record {
  fits = (refl, (refl, tt));
  passes = All-from_recursion (λ c. (1 ≤ pass_of c) × (pass_of c ≤ 1)) (made ∷ written ∷ []) ((lit≤ tt, lit≤ tt), ((lit≤ tt, lit≤ tt), tt));
  follows = (
    (
      record { own_call = refl; there = λ e. cc; later = lit≤ tt; within = lit≤ tt; own = refl; last = λ _. refl; reply = refl },
      (
        record { own_call = refl; there = λ e. cc; later = lit≤ tt; within = lit≤ tt; own = refl; last = λ _. refl; reply = refl },
        (record { own_call = refl; there = λ e. cc; later = lit≤ tt; within = lit≤ tt; own = refl; last = λ e. cc; reply = refl }, refl),
      ),
    ),
    tt,
  );
}

-- a reply that is not the heap's is the first bad entry
other_reply : IsFirstBad (record { call = looked; reply = Got (Num 5) } ∷ []) 0 NotThere (Got (Num 5))
other_reply = record { entry = record { call = looked; reply = Got (Num 5) }; at = refl; earlier = tt; wanted_is = refl; found_is = refl; bad = inr refl }
