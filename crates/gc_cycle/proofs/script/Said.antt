-- What the heap says to a call that a pass has ended, by what the pass has told.
use Rattle.std.specs.Prelude.{reverse}
use Rattle.std.specs.Option.{option_map}
use Rattle.std.proofs.Common.{◌≡◌, ℕ, suc, ◌+◌, ◌≤◌, true, false, List, [], ◌∷◌, ◌++◌, length, map, Some, refl, sym, ap, ◌∙◌, arith}
use Rattle.std.proofs.lemmas.List.{reverse-append, reverse-reverse}
use Rattle.heap_words.specs.declared.field_word.FieldWord.{FieldWord}
use Rattle.heap_history.specs.declared.call.Call.{Call}
use Rattle.heap_history.specs.declared.call.Call.TheVariants as calls
use Rattle.heap_history.specs.declared.call.Ended.{Ended}
use Rattle.heap_history.specs.FixedHeaps.{answer, fields_of}
use Rattle.heap_history.specs.Histories.{Follows, IsNext, heap_at, is_change, seen_before}
use Rattle.heap_history.specs.HistoryLaws.{heap_at-append, heap_at-length}
use Rattle.heap_history.specs.Logs.{changes_of, heap_of}
use Rattle.heap_history.specs.NewestFirst.{len_at}
use Rattle.heap_history.specs.NewestFirstLaws.{heap_of_history-reverse}
use Rattle.heap_history.specs.NextLaws.{seen_before-look, seen_before-change}
use Rattle.handshakes.specs.Polling.{held_in}
use Rattle.barriers.specs.Values.{value_of}
use Rattle.barriers.specs.declared.spot.Spot.{Spot}
use Rattle.barriers.specs.Knowns.{Task, Reads, Writes, Exchanges, call_of}
use Rattle.gc_cycle.proofs.script.Ends.{IsLooked, IsChange, HasNoField}

-- ---- the last of some calls that follow one another

last_next : (h : List Call) (pass n : ℕ) (es : List Ended) (e : Ended) → Follows h pass n (es ++ e ∷ []) → (m : ℕ) × IsNext h pass m e
last_next h pass n [] e follows = (n, follows.0)
last_next h pass n (d ∷ es) e follows = last_next h pass d.front es e follows.1

-- a look
pub look_said : (log : List Ended) (g : List Call) (pass : ℕ) (es : List Ended) (e : Ended) → g ≡ reverse (changes_of log) → Follows (reverse g) pass 0 (es ++ e ∷ []) → is_change e.reply ≡ false → IsLooked log e.front e.call e.reply
look_said log g pass es e is follows look =
    let history : reverse g ≡ changes_of log = ap reverse is ∙ reverse-reverse (changes_of log) in
    let next = (last_next (reverse g) pass 0 es e follows).1 in
    record {
      within = omega (arith, next.within, ap length history);
      said = ap (λ (h : List Call). answer (heap_at h e.front) e.call) (sym history) ∙ ap (λ n. answer (heap_at (reverse g) n) e.call) (sym (seen_before-look e.reply e.front look)) ∙ next.reply;
    }

-- a change
pub change_said : (log : List Ended) (g : List Call) (call : Call) (pass : ℕ) (es : List Ended) (e : Ended) → g ≡ call ∷ reverse (changes_of log) → Follows (reverse g) pass 0 (es ++ e ∷ []) → is_change e.reply ≡ true → e.front ≡ length (changes_of log) + 1
    → IsChange log e.call e.reply
change_said log g call pass es e is follows change front =
    let h = changes_of log in
    let history : reverse g ≡ h ++ call ∷ [] = ap reverse is ∙ reverse-append (call ∷ []) (reverse h) ∙ ap (λ (x : List Call). x ++ call ∷ []) (reverse-reverse h) in
    let next = (last_next (reverse g) pass 0 es e follows).1 in
    let seen : seen_before e.reply e.front ≡ length h = ap (seen_before e.reply) front ∙ seen_before-change e.reply (length h) change in
    let heap : heap_at (reverse g) (seen_before e.reply e.front) ≡ heap_of log = ap (λ (x : List Call). heap_at x (seen_before e.reply e.front)) history ∙ ap (heap_at (h ++ call ∷ [])) seen ∙ heap_at-append h (call ∷ []) (length h) (omega arith) ∙ heap_at-length h in
    ap (λ x. answer x e.call) (sym heap) ∙ next.reply

-- a field that is not there
pub no_field_said : (log : List Ended) (g : List Call) (birth field len : ℕ) → g ≡ reverse (changes_of log) → len_at g birth ≡ Some len → len ≤ field → HasNoField log birth field len
no_field_said log g birth field len is has past =
    let history : len_at (reverse (changes_of log)) birth ≡ Some len = ap (λ (x : List Call). len_at x birth) (sym is) ∙ has in
    record { len_is = ap (λ heap. option_map length (fields_of heap birth)) (sym (heap_of_history-reverse (changes_of log))) ∙ history; past = past }

-- ---- the object and the field of a call

abbrev pub object_in : Call → ℕ
object_in (calls.NewObject pass birth len) = birth
object_in (calls.Read pass object field) = object
object_in (calls.Write pass object field value) = object
object_in (calls.Exchange pass object field expected value) = object

abbrev pub field_in : Call → ℕ
field_in (calls.NewObject pass birth len) = 0
field_in (calls.Read pass object field) = field
field_in (calls.Write pass object field value) = field
field_in (calls.Exchange pass object field expected value) = field

object_of_call : (pass : ℕ) (z : Spot) (t : Task) → object_in (call_of pass z t) ≡ z.birth
object_of_call pass z Reads = refl
object_of_call pass z (Writes word) = refl
object_of_call pass z (Exchanges expected word) = refl

field_of_call : (pass : ℕ) (z : Spot) (t : Task) → field_in (call_of pass z t) ≡ z.field
field_of_call pass z Reads = refl
field_of_call pass z (Writes word) = refl
field_of_call pass z (Exchanges expected word) = refl

-- the same of a call
pub no_field_of : (log : List Ended) (g : List Call) (pass : ℕ) (z : Spot) (t : Task) (call : Call) (birth field len : ℕ) → g ≡ reverse (changes_of log) → call_of pass z t ≡ call → object_in call ≡ birth → field_in call ≡ field
    → len_at g z.birth ≡ Some len → len ≤ z.field → HasNoField log birth field len
no_field_of log g pass z t call birth field len is same object at has past =
    let b : z.birth ≡ birth = sym (object_of_call pass z t) ∙ ap object_in same ∙ object in
    let f : z.field ≡ field = sym (field_of_call pass z t) ∙ ap field_in same ∙ at in
    no_field_said log g birth field len is (ap (λ n. len_at g n) (sym b) ∙ has) (omega (arith, past, f))

-- ---- registers of the same values

pub values_alike : (xs ys : List FieldWord) → length ys ≡ length xs → ((i : ℕ) → value_of (held_in ys i) ≡ value_of (held_in xs i)) → map value_of ys ≡ map value_of xs
values_alike [] [] len each = refl
values_alike [] (y ∷ ys) len each = absurd (omega arith)
values_alike (x ∷ xs) [] len each = absurd (omega arith)
values_alike (x ∷ xs) (y ∷ ys) len each =
    let first = each 0 in
    let rest = values_alike xs ys (omega arith) (λ i. each (suc i)) in
    ap (λ v. v ∷ map value_of ys) first ∙ ap (λ vs. value_of x ∷ vs) rest
