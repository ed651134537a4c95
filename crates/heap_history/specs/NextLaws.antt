-- Laws of the next ended call of a pass: in a history that grows, as a look, and as a change.
use Rattle.std.specs.Prelude.{slice_get, if◌then◌else◌, ◌==◌}
use Rattle.std.proofs.Common.{◌≡◌, ◌≢◌, ℕ, ◌+◌, ◌-◌, ◌≤◌, List, [], ◌∷◌, ◌++◌, length, take, drop, true, false, cond, refl, sym, ap, ◌∙◌, ⊎_elim, arith, length-append, length-drop}
use Rattle.std.proofs.Math.Seq.{take-length}
use Rattle.std.proofs.lemmas.Bool.{cases_lt, eq-eqb, ne_eqb, true≢false}
use Rattle.std.proofs.lemmas.List.{take-append-le, drop-append-le, drop-drop, take-append-drop}
use Rattle.std.proofs.lemmas.List.Elements.{filter-append}
use Rattle.heap_history.specs.declared.call.Call.{Call}
use Rattle.heap_history.specs.declared.call.Reply.{Reply}
use Rattle.heap_history.specs.declared.call.Reply.TheVariants.{Made, Got, Wrote, Done, Differs, NotThere}
use Rattle.heap_history.specs.declared.call.Ended.{Ended}
use Rattle.heap_history.specs.FixedHeaps.{opening, answer}
use Rattle.heap_history.specs.Histories.{pass_of, is_change, heap_after, heap_at, made_by, between, seen_before, IsNext}
use Rattle.heap_history.specs.HistoryLaws.{heap_at-append, heap_at-length, slice_get-append, slice_get-push}

-- ---- what stands between two changes

-- it stays the same where more come
pub between-append : (n m : ℕ) (history more : List Call) → m ≤ length history → between n m (history ++ more) ≡ between n m history
between-append n m history more within =
    ⊎_elim
    (λ past. let none : m - n ≡ 0 = omega arith in ap (λ k. take k (drop n (history ++ more))) none ∙ sym (ap (λ k. take k (drop n history)) none))
    (λ before. ap (λ rest. take (m - n) rest) (drop-append-le n history more before) ∙ take-append-le (m - n) (drop n history) more (omega (arith, length-drop n history)))
    (cases_lt (length history) n)

-- nothing stands between a change and itself
pub between-same : (n : ℕ) (history : List Call) → between n n history ≡ []
between-same n history = let none : n - n ≡ 0 = omega arith in ap (λ k. take k (drop n history)) none

-- all that stands after the first n
between-all : (n : ℕ) (history : List Call) → between n (length history) history ≡ drop n history
between-all n history = ap (λ k. take k (drop n history)) (sym (length-drop n history)) ∙ take-length (drop n history)

-- ---- the changes of one pass

made_by-append : (pass : ℕ) (xs ys : List Call) → made_by pass (xs ++ ys) ≡ made_by pass xs ++ made_by pass ys
made_by-append pass xs ys = filter-append (λ c. pass_of c == pass) xs ys

pub made_by-own : (pass : ℕ) (call : Call) → pass_of call ≡ pass → made_by pass (call ∷ []) ≡ call ∷ []
made_by-own pass call own = ap (λ b. cond b (call ∷ []) []) (eq-eqb (pass_of call) pass own)

pub made_by-other : (pass : ℕ) (call : Call) → pass_of call ≢ pass → made_by pass (call ∷ []) ≡ []
made_by-other pass call other = ap (λ b. cond b (call ∷ []) []) (ne_eqb (pass_of call) pass other)

-- those after the first n, with one more
pub made_by-push : (pass n : ℕ) (history : List Call) (call : Call) → n ≤ length history → made_by pass (drop n history) ≡ [] → made_by pass (drop n (history ++ call ∷ [])) ≡ made_by pass (call ∷ [])
made_by-push pass n history call within rest =
    ap (made_by pass) (drop-append-le n history (call ∷ []) within)
    ∙ made_by-append pass (drop n history) (call ∷ [])
    ∙ ap (λ before. before ++ made_by pass (call ∷ [])) rest

nil_append : (xs ys : List Call) → xs ++ ys ≡ [] → (xs ≡ []) × (ys ≡ [])
nil_append [] ys none = (refl, none)
nil_append (x ∷ xs) ys none = absurd cc

-- where it made none of some changes, it made none of the first k, and none of the others
none_parts : (pass k : ℕ) (calls : List Call) → made_by pass calls ≡ [] → (made_by pass (take k calls) ≡ []) × (made_by pass (drop k calls) ≡ [])
none_parts pass k calls none = nil_append _ _ (sym (made_by-append pass (take k calls) (drop k calls)) ∙ ap (made_by pass) (take-append-drop k calls) ∙ none)

-- where it made none after the first n, it made none after more
pub made_by-later : (pass n m : ℕ) (history : List Call) → n ≤ m → made_by pass (drop n history) ≡ [] → made_by pass (drop m history) ≡ []
made_by-later pass n m history before none =
    let more : n + (m - n) ≡ m = omega (arith, before) in
    ap (λ k. made_by pass (drop k history)) (sym more) ∙ ap (made_by pass) (sym (drop-drop (m - n) n history)) ∙ (none_parts pass (m - n) (drop n history) none).1

-- ---- the next call

-- what had come before a call is no later than its front
pub seen_before-le : (reply : Reply) (front m : ℕ) → front ≤ m → seen_before reply front ≤ m
seen_before-le Made front m within = omega arith
seen_before-le (Got value) front m within = within
seen_before-le Wrote front m within = omega arith
seen_before-le Done front m within = omega arith
seen_before-le (Differs value) front m within = within
seen_before-le NotThere front m within = within

pub seen_before-look : (reply : Reply) (front : ℕ) → is_change reply ≡ false → seen_before reply front ≡ front
seen_before-look reply front look = ap (λ b. if b then front - 1 else front) look

pub seen_before-change : (reply : Reply) (n : ℕ) → is_change reply ≡ true → seen_before reply (n + 1) ≡ n
seen_before-change reply n change = ap (λ b. if b then n + 1 - 1 else n + 1) change ∙ omega arith

-- the reply of a change is not that something is not there
pub change_there : (reply : Reply) → is_change reply ≡ true → reply ≢ NotThere
change_there reply change none = absurd (true≢false (sym change ∙ ap is_change none))

-- it stays so in a history that grows
pub IsNext-append : (history more : List Call) (pass n : ℕ) (e : Ended) → IsNext history pass n e → IsNext (history ++ more) pass n e
IsNext-append history more pass n e next = record {
  own_call = next.own_call;
  there = next.there;
  later = next.later;
  within = omega (arith, next.within, length-append history more);
  own = ap (made_by pass) (between-append n e.front history more next.within) ∙ next.own;
  last = λ change. slice_get-append history more (e.front - 1) e.call (next.last change);
  reply = ap (λ heap. answer heap e.call) (heap_at-append history more (seen_before e.reply e.front) (seen_before-le e.reply e.front (length history) next.within)) ∙ next.reply;
}

-- A look at the heap after a number of changes, where the pass made none since what it had seen.
pub IsNext-look : (history : List Call) (pass n : ℕ) (e : Ended) → pass_of e.call ≡ pass → e.reply ≢ NotThere → is_change e.reply ≡ false → n ≤ e.front → e.front ≤ length history → made_by pass (drop n history) ≡ []
    → answer (heap_at history e.front) e.call ≡ e.reply → IsNext history pass n e
IsNext-look history pass n e own_call there look later within rest told = record {
  own_call = own_call;
  there = there;
  later = later;
  within = within;
  own = (none_parts pass (e.front - n) (drop n history) rest).0 ∙ sym (ap (λ change. if change then e.call ∷ [] else []) look);
  last = λ change. absurd (true≢false (sym change ∙ look));
  reply = ap (λ k. answer (heap_at history k) e.call) (seen_before-look e.reply e.front look) ∙ told;
}

-- A change after all others, where the pass made none since what it had seen.
pub IsNext-change : (history : List Call) (pass n : ℕ) (e : Ended) → pass_of e.call ≡ pass → is_change e.reply ≡ true → n ≤ length history → e.front ≡ length history + 1 → made_by pass (drop n history) ≡ []
    → answer (heap_after opening history) e.call ≡ e.reply → IsNext (history ++ e.call ∷ []) pass n e
IsNext-change history pass n e own_call change within front rest told =
    let h = history ++ e.call ∷ [] in
    let len : length h ≡ length history + 1 = length-append history (e.call ∷ []) in
    let before : e.front - 1 ≡ length history = omega (arith, front) in
    let seen : seen_before e.reply e.front ≡ length history = ap (seen_before e.reply) front ∙ seen_before-change e.reply (length history) change in
    record {
      own_call = own_call;
      there = change_there e.reply change;
      later = omega (arith, within, front);
      within = omega (arith, len, front);
      own = ap (λ m. made_by pass (between n m h)) (front ∙ sym len)
          ∙ ap (made_by pass) (between-all n h)
          ∙ made_by-push pass n history e.call within rest
          ∙ made_by-own pass e.call own_call
          ∙ sym (ap (λ b. if b then e.call ∷ [] else []) change);
      last = λ _. ap (λ i. slice_get h i) before ∙ slice_get-push history e.call;
      reply = ap (λ k. answer (heap_at h k) e.call) seen
          ∙ ap (λ heap. answer heap e.call) (heap_at-append history (e.call ∷ []) (length history) (omega arith) ∙ heap_at-length history)
          ∙ told;
    }
