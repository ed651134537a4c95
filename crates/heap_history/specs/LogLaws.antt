-- Laws of logs: their changes, and one more call.
use Rattle.std.specs.Prelude.{if◌then◌else◌, count_by}
use Rattle.std.specs.List.{filter, All}
use Rattle.std.proofs.Common.{◌≡◌, ◌≢◌, ℕ, ◌+◌, ◌-◌, ◌≤◌, List, [], ◌∷◌, ◌++◌, length, map, Bool, true, false, cond, refl, sym, ap, ◌∙◌, subst, arith, length-append}
use Rattle.std.proofs.lemmas.List.{append-nil, map-append, length-map}
use Rattle.std.proofs.lemmas.List.Elements.{All-nil, All-cons, All-append, All-weaker, All-map, All-filter, filter-append}
use Rattle.std.proofs.lemmas.List.Sums.{length-filter, count_by-le-length}
use Rattle.heap_history.specs.declared.call.Call.{Call}
use Rattle.heap_history.specs.declared.call.Reply.{Reply}
use Rattle.heap_history.specs.declared.call.Reply.TheVariants.{NotThere}
use Rattle.heap_history.specs.declared.call.Entry.{Entry}
use Rattle.heap_history.specs.declared.call.Ended.{Ended}
use Rattle.heap_history.specs.FixedHeaps.{answer}
use Rattle.heap_history.specs.Histories.{heap_at, changes, is_change, change_of, seen_before}
use Rattle.heap_history.specs.HistoryLaws.{changes-append, heap_at-append, heap_at-length}
use Rattle.heap_history.specs.NextLaws.{seen_before-le, change_there}
use Rattle.heap_history.specs.Logs.{entry_of, entries_of, changes_of, heap_of, changes_in, AreCounted, HasReply, IsLog, IsNextCall}

-- ---- what one more call adds

pub entries-append : (log : List Ended) (e : Ended) → entries_of (log ++ e ∷ []) ≡ entries_of log ++ entry_of e ∷ []
entries-append log e = map-append entry_of log (e ∷ [])

pub changes_of-append : (log : List Ended) (e : Ended) → changes_of (log ++ e ∷ []) ≡ changes_of log ++ change_of e.call e.reply
changes_of-append log e = ap changes (entries-append log e) ∙ changes-append (entries_of log) (entry_of e)

-- a look is no change
pub changes_of-look : (log : List Ended) (e : Ended) → is_change e.reply ≡ false → changes_of (log ++ e ∷ []) ≡ changes_of log
changes_of-look log e look = changes_of-append log e ∙ ap (λ change. changes_of log ++ (if change then e.call ∷ [] else [])) look ∙ append-nil (changes_of log)

-- a change comes after the others
pub changes_of-change : (log : List Ended) (e : Ended) → is_change e.reply ≡ true → changes_of (log ++ e ∷ []) ≡ changes_of log ++ e.call ∷ []
changes_of-change log e change = changes_of-append log e ∙ ap (λ b. changes_of log ++ (if b then e.call ∷ [] else [])) change

pub length-look : (log : List Ended) (e : Ended) → is_change e.reply ≡ false → length (changes_of (log ++ e ∷ [])) ≡ length (changes_of log)
length-look log e look = ap length (changes_of-look log e look)

pub length-change : (log : List Ended) (e : Ended) → is_change e.reply ≡ true → length (changes_of (log ++ e ∷ [])) ≡ length (changes_of log) + 1
length-change log e change = ap length (changes_of-change log e change) ∙ length-append (changes_of log) (e.call ∷ [])

-- ---- its changes

pub in-change : (e : Ended) (es : List Ended) → is_change e.reply ≡ true → changes_in (e ∷ es) ≡ e ∷ changes_in es
in-change e es change = ap (λ b. cond b (e ∷ changes_in es) (changes_in es)) change

pub in-look : (e : Ended) (es : List Ended) → is_change e.reply ≡ false → changes_in (e ∷ es) ≡ changes_in es
in-look e es look = ap (λ b. cond b (e ∷ changes_in es) (changes_in es)) look

pub of-change : (e : Ended) (es : List Ended) → is_change e.reply ≡ true → changes_of (e ∷ es) ≡ e.call ∷ changes_of es
of-change e es change = ap (λ b. map (λ (d : Entry). d.call) (cond b (entry_of e ∷ filter (λ (d : Entry). is_change d.reply) (entries_of es)) (filter (λ (d : Entry). is_change d.reply) (entries_of es)))) change

pub of-look : (e : Ended) (es : List Ended) → is_change e.reply ≡ false → changes_of (e ∷ es) ≡ changes_of es
of-look e es look = ap (λ b. map (λ (d : Entry). d.call) (cond b (entry_of e ∷ filter (λ (d : Entry). is_change d.reply) (entries_of es)) (filter (λ (d : Entry). is_change d.reply) (entries_of es)))) look

-- they are the same calls
changes_step : (e : Ended) (es : List Ended) (test : Bool) → is_change e.reply ≡ test → changes_of es ≡ map (λ (d : Ended). d.call) (changes_in es)
    → changes_of (e ∷ es) ≡ map (λ (d : Ended). d.call) (changes_in (e ∷ es))
changes_step e es true is rest = of-change e es is ∙ ap (λ cs. e.call ∷ cs) rest ∙ sym (ap (map (λ (d : Ended). d.call)) (in-change e es is))
changes_step e es false is rest = of-look e es is ∙ rest ∙ sym (ap (map (λ (d : Ended). d.call)) (in-look e es is))

pub changes_of-in : (log : List Ended) → changes_of log ≡ map (λ (d : Ended). d.call) (changes_in log)
changes_of-in [] = refl
changes_of-in (e ∷ es) = changes_step e es (is_change e.reply) refl (changes_of-in es)

pub length-changes_in : (log : List Ended) → length (changes_of log) ≡ length (changes_in log)
length-changes_in log = ap length (changes_of-in log) ∙ length-map (changes_in log) (λ (d : Ended). d.call)

-- what is true of each call is true of each change
pub All-changes_of : (P : Call → Type 0) (log : List Ended) → All (λ (e : Ended). P e.call) log → All P (changes_of log)
All-changes_of P log each =
    let entries : All (λ (d : Entry). P d.call) (entries_of log) = All-map (λ (d : Entry). P d.call) entry_of log each in
    All-map P (λ (d : Entry). d.call) (filter (λ (d : Entry). is_change d.reply) (entries_of log)) (All-filter (λ (d : Entry). is_change d.reply) (λ (d : Entry). P d.call) (entries_of log) entries)

-- there are no more changes than calls
pub length-changes_of : (log : List Ended) → length (changes_of log) ≤ length log
length-changes_of log =
    let kept = filter (λ e. is_change e.reply) (entries_of log) in
    let calls_are : length (changes_of log) ≡ length kept = length-map kept (λ e. e.call) in
    let entries_are : length (entries_of log) ≡ length log = length-map log entry_of in
    let fewer : count_by (λ e. is_change e.reply) (entries_of log) ≤ length (entries_of log) = count_by-le-length (λ e. is_change e.reply) (entries_of log) in
    let counted : length kept ≡ count_by (λ e. is_change e.reply) (entries_of log) = length-filter (λ e. is_change e.reply) (entries_of log) in
    omega arith

-- ---- one more call

pub IsLog-opening : IsLog []
IsLog-opening = record { counted = tt; answered = All-nil (HasReply []) }

-- what a call saw stays
answered_grows : (history more : List Call) (e : Ended) → HasReply history e → HasReply (history ++ more) e
answered_grows history more e answered =
    let seen : seen_before e.reply e.front ≤ length history = seen_before-le e.reply e.front (length history) answered.within in
    record {
      within = let sum = length-append history more in omega (arith, answered.within);
      reply = ap (λ heap. answer heap e.call) (heap_at-append history more (seen_before e.reply e.front) seen) ∙ answered.reply;
      there = answered.there;
    }

-- a look that saw a number of changes
pub IsLog-look : (log : List Ended) (e : Ended) → IsLog log → is_change e.reply ≡ false → e.front ≤ length (changes_of log) → answer (heap_at (changes_of log) e.front) e.call ≡ e.reply → e.reply ≢ NotThere
    → IsLog (log ++ e ∷ [])
IsLog-look log e heard look within told there =
    let seen : seen_before e.reply e.front ≡ e.front = ap (λ b. if b then e.front - 1 else e.front) look in
    let here : HasReply (changes_of log) e = record {
      within = within;
      reply = ap (λ k. answer (heap_at (changes_of log) k) e.call) seen ∙ told;
      there = there;
    } in
    let P : List Call → Type 0 = λ h. All (HasReply h) (log ++ e ∷ []) in
    let same : changes_in (log ++ e ∷ []) ≡ changes_in log = filter-append (λ d. is_change d.reply) log (e ∷ []) ∙ ap (λ es. changes_in log ++ es) (in-look e [] look) ∙ append-nil (changes_in log) in
    record {
      counted = subst (AreCounted 0) (sym same) heard.counted;
      answered = subst P (sym (changes_of-look log e look)) (All-append (HasReply (changes_of log)) log (e ∷ []) heard.answered (All-cons (HasReply (changes_of log)) e [] here (All-nil (HasReply (changes_of log)))));
    }

-- one more change is counted
counted_push : (n : ℕ) (es : List Ended) (e : Ended) → AreCounted n es → e.front ≡ n + length es + 1 → AreCounted n (es ++ e ∷ [])
counted_push n [] e counts front = (omega arith, tt)
counted_push n (d ∷ ds) e counts front = (counts.0, counted_push (n + 1) ds e counts.1 (omega arith))

-- the next change
pub IsLog-change : (log : List Ended) (e : Ended) → IsLog log → is_change e.reply ≡ true → e.front ≡ length (changes_of log) + 1 → answer (heap_of log) e.call ≡ e.reply → IsLog (log ++ e ∷ [])
IsLog-change log e heard change front told =
    let h = changes_of log in
    let later = h ++ e.call ∷ [] in
    let seen : seen_before e.reply e.front ≡ length h = ap (λ b. if b then e.front - 1 else e.front) change ∙ omega arith in
    let heap : heap_at later (seen_before e.reply e.front) ≡ heap_of log = ap (heap_at later) seen ∙ heap_at-append h (e.call ∷ []) (length h) (omega arith) ∙ heap_at-length h in
    let here : HasReply later e = record {
      within = let sum = length-append h (e.call ∷ []) in omega (arith, sum);
      reply = ap (λ heap. answer heap e.call) heap ∙ told;
      there = change_there e.reply change;
    } in
    let before : All (HasReply later) log = All-weaker (HasReply h) (HasReply later) (answered_grows h (e.call ∷ [])) log heard.answered in
    let more : changes_in (log ++ e ∷ []) ≡ changes_in log ++ e ∷ [] = filter-append (λ d. is_change d.reply) log (e ∷ []) ∙ ap (λ es. changes_in log ++ es) (in-change e [] change) in
    let P : List Call → Type 0 = λ x. All (HasReply x) (log ++ e ∷ []) in
    record {
      counted = subst (AreCounted 0) (sym more) (counted_push 0 (changes_in log) e heard.counted (omega (arith, length-changes_in log)));
      answered = subst P (sym (changes_of-change log e change)) (All-append (HasReply later) log (e ∷ []) before (All-cons (HasReply later) e [] here (All-nil (HasReply later))));
    }

pub next_change : (log : List Ended) (call : Call) (reply : Reply) → is_change reply ≡ true → answer (heap_of log) call ≡ reply → reply ≢ NotThere → IsNextCall log (record { call = call; reply = reply; front = length (changes_of log) + 1 })
next_change log call reply change told there = record { front = sym (ap (λ b. if b then length (changes_of log) + 1 else length (changes_of log)) change); reply = told; there = there }
