-- The arranged calls of a log are a history that the fixed heap accepts, and a legal one.
use Rattle.std.specs.Prelude.{if◌then◌else◌, ◌==◌}
use Rattle.std.specs.List.{All}
use Rattle.std.proofs.Common.{◌≡◌, ◌≢◌, ℕ, zero, suc, ◌+◌, ◌*◌, ◌-◌, ◌≤◌, ◌<◌, List, [], ◌∷◌, ◌++◌, length, drop, map, Bool, true, false, cond, refl, sym, ap, ◌∙◌, subst, ⊎_elim, arith, append_assoc, length-append}
use Rattle.std.proofs.Math.Seq.{drop-length}
use Rattle.std.proofs.lemmas.Bool.{cases_eq, eq-eqb, ne_eqb}
use Rattle.std.proofs.lemmas.List.{append-nil}
use Rattle.std.proofs.lemmas.List.Elements.{All-nil, All-cons, All-head, All-tail, All-weaker}
use Rattle.heap_history.specs.declared.call.Call.{Call}
use Rattle.heap_history.specs.declared.call.Entry.{Entry}
use Rattle.heap_history.specs.declared.call.Ended.{Ended}
use Rattle.heap_history.specs.FixedHeaps.{Heap, opening, answer, after}
use Rattle.heap_history.specs.Histories.{IsAccepted, IsLegal, Follows, AllFollow, IsNext, heap_after, heap_at, changes, is_change, made_by, between, pass_of, seen_before}
use Rattle.heap_history.specs.HistoryLaws.{heap_after-append, heap_at-append, heap_at-length, after-look, IsHistory-changes}
use Rattle.heap_history.specs.NextLaws.{between-same, made_by-other, made_by-push, IsNext-append, IsNext-look, IsNext-change}
use Rattle.heap_history.specs.Logs.{entries_of, changes_of, changes_in, counted, AreCounted, HasReply, IsLog, of_pass, passes_of, AreOfPasses}
use Rattle.heap_history.specs.LogLaws.{in-change, in-look, of-change, of-look, changes_of-in, length-changes_in, All-changes_of}
use Rattle.heap_history.specs.Arranged.{place_of, IsRising, arranged, shown, IsPlaced, IsArranged, fronted, AreLegal}
use Rattle.heap_history.specs.ArrangedLaws.{rising_arranged, All-arranged, filter-arranged}

-- ---- places

place_of-change : (e : Ended) → is_change e.reply ≡ true → place_of e ≡ 2 * e.front
place_of-change e change = ap (λ b. 2 * e.front + (if b then 0 else 1)) change ∙ omega arith

place_of-look : (e : Ended) → is_change e.reply ≡ false → place_of e ≡ 2 * e.front + 1
place_of-look e look = ap (λ b. 2 * e.front + (if b then 0 else 1)) look

-- ---- counted changes

-- what a first call says of the changes after it
counted-change : (n : ℕ) (e : Ended) (es : List Ended) → is_change e.reply ≡ true → AreCounted n (changes_in (e ∷ es)) → (e.front ≡ n + 1) × AreCounted (n + 1) (changes_in es)
counted-change n e es change counts = subst (AreCounted n) (in-change e es change) counts

counted-look : (n : ℕ) (e : Ended) (es : List Ended) → is_change e.reply ≡ false → AreCounted n (changes_in (e ∷ es)) → AreCounted n (changes_in es)
counted-look n e es look counts = subst (AreCounted n) (in-look e es look) counts

-- their places rise
counted_step : (n place : ℕ) (e : Ended) (es : List Ended) (test : Bool) → is_change e.reply ≡ test → place ≤ 2 * (n + 1) → AreCounted n (changes_in (e ∷ es))
    → ((m next : ℕ) → next ≤ 2 * (m + 1) → AreCounted m (changes_in es) → IsRising next (changes_in es)) → IsRising place (changes_in (e ∷ es))
counted_step n place e es true is low counts rest =
    let parts = counted-change n e es is counts in
    let here : place_of e ≡ 2 * (n + 1) = place_of-change e is ∙ ap (λ k. 2 * k) parts.0 in
    subst (IsRising place) (sym (in-change e es is)) (omega (arith, here), rest (n + 1) (place_of e) (omega (arith, here)) parts.1)
counted_step n place e es false is low counts rest = subst (IsRising place) (sym (in-look e es is)) (rest n place low (counted-look n e es is counts))

counted_rising : (n place : ℕ) (log : List Ended) → place ≤ 2 * (n + 1) → AreCounted n (changes_in log) → IsRising place (changes_in log)
counted_rising n place [] low counts = tt
counted_rising n place (e ∷ es) low counts = counted_step n place e es (is_change e.reply) refl low counts (λ m next less more. counted_rising m next es less more)

-- so arranging keeps them
pub changes_in-arranged : (log : List Ended) → AreCounted 0 (changes_in log) → changes_in (arranged log) ≡ changes_in log
changes_in-arranged log counts = filter-arranged (λ e. is_change e.reply) log (counted_rising 0 0 log (omega arith) counts)

pub changes_of-arranged : (log : List Ended) → AreCounted 0 (changes_in log) → changes_of (arranged log) ≡ changes_of log
changes_of-arranged log counts = changes_of-in (arranged log) ∙ ap (map (λ (d : Ended). d.call)) (changes_in-arranged log counts) ∙ sym (changes_of-in log)

-- The changes of the shown history are those of the log.
pub changes-shown : (log : List Ended) → IsLog log → changes (shown log) ≡ changes_of log
changes-shown log heard = changes_of-arranged log heard.counted

-- ---- each stands where its front says

-- the next change is no lower than where places rise from
next_change_step : (n place : ℕ) (e : Ended) (es : List Ended) (test : Bool) → is_change e.reply ≡ test → place ≤ place_of e → AreCounted n (changes_in (e ∷ es)) → 0 < length (changes_in (e ∷ es))
    → (AreCounted n (changes_in es) → 0 < length (changes_in es) → place_of e ≤ 2 * (n + 1)) → place ≤ 2 * (n + 1)
next_change_step n place e es true is low counts some rest = omega (arith, place_of-change e is, (counted-change n e es is counts).0)
next_change_step n place e es false is low counts some rest =
    let more : 0 < length (changes_in es) = let P : List Ended → Type 0 = λ xs. 0 < length xs in subst P (in-look e es is) some in
    omega (arith, rest (counted-look n e es is counts) more)

next_change : (n place : ℕ) (es : List Ended) → IsRising place es → AreCounted n (changes_in es) → 0 < length (changes_in es) → place ≤ 2 * (n + 1)
next_change n place [] rising counts some = absurd (omega arith)
next_change n place (e ∷ es) rising counts some =
    next_change_step n place e es (is_change e.reply) refl rising.0 counts some (λ less more. next_change n (place_of e) es rising.1 less more)

-- a look between the changes n and n + 1, where there are as many after it
look_front : (n front beyond : ℕ) → n ≤ front → front ≤ n + beyond → (0 < beyond → front ≤ n) → front ≡ n
look_front n front zero least most next = omega arith
look_front n front (suc k) least most next = omega (arith, next (omega arith))

placed_step : (n place total : ℕ) (e : Ended) (es : List Ended) (test : Bool) → is_change e.reply ≡ test → 2 * n ≤ place → total ≡ n + length (changes_in (e ∷ es)) → IsRising place (e ∷ es)
    → AreCounted n (changes_in (e ∷ es)) → e.front ≤ total
    → ((m next : ℕ) → 2 * m ≤ next → total ≡ m + length (changes_in es) → IsRising next es → AreCounted m (changes_in es) → IsPlaced m es) → IsPlaced n (e ∷ es)
placed_step n place total e es true is low all rising counts within rest =
    let parts = counted-change n e es is counts in
    let grown : counted n e.reply ≡ n + 1 = ap (λ b. if b then n + 1 else n) is in
    let number : length (changes_in (e ∷ es)) ≡ suc (length (changes_in es)) = ap length (in-change e es is) in
    let P : ℕ → Type 0 = λ m. IsPlaced m es in
    (parts.0 ∙ sym grown, subst P (sym grown) (rest (n + 1) (place_of e) (omega (arith, place_of-change e is, parts.0)) (omega arith) rising.1 parts.1))
placed_step n place total e es false is low all rising counts within rest =
    let same : counted n e.reply ≡ n = ap (λ b. if b then n + 1 else n) is in
    let number : length (changes_in (e ∷ es)) ≡ length (changes_in es) = ap length (in-look e es is) in
    let fewer = counted-look n e es is counts in
    let here = place_of-look e is in
    let front : e.front ≡ n = look_front n e.front (length (changes_in es)) (omega (arith, here, rising.0)) (omega arith) (λ some. omega (arith, here, next_change n (place_of e) es rising.1 fewer some)) in
    let P : ℕ → Type 0 = λ m. IsPlaced m es in
    (front ∙ sym same, subst P (sym same) (rest n (place_of e) (omega (arith, rising.0)) (omega arith) rising.1 fewer))

placed_rising : (n place total : ℕ) (es : List Ended) → 2 * n ≤ place → total ≡ n + length (changes_in es) → IsRising place es → AreCounted n (changes_in es) → All (λ (e : Ended). e.front ≤ total) es → IsPlaced n es
placed_rising n place total [] low all rising counts within = tt
placed_rising n place total (e ∷ es) low all rising counts within =
    let P : Ended → Type 0 = λ d. d.front ≤ total in
    placed_step n place total e es (is_change e.reply) refl low all rising counts (All-head P e es within)
    (λ m next less sum more beyond. placed_rising m next total es less sum more beyond (All-tail P e es within))

-- how many changes each call saw
pub fronts_within : (log : List Ended) → IsLog log → All (λ (e : Ended). e.front ≤ length (changes_of log)) log
fronts_within log heard = All-weaker (HasReply (changes_of log)) (λ e. e.front ≤ length (changes_of log)) (λ e answered. answered.within) log heard.answered

pub placed-arranged : (log : List Ended) → IsLog log → IsPlaced 0 (arranged log)
placed-arranged log heard =
    let P : Ended → Type 0 = λ e. e.front ≤ length (changes_of log) in
    let same = changes_in-arranged log heard.counted in
    let number : length (changes_of log) ≡ length (changes_in (arranged log)) = length-changes_in log ∙ ap length (sym same) in
    placed_rising 0 0 (length (changes_of log)) (arranged log) (omega arith) (number ∙ omega arith) (rising_arranged log) (subst (AreCounted 0) (sym same) heard.counted)
    (All-arranged P log (fronts_within log heard))

-- ---- the heap accepts them

-- a call that stands where its front says has seen the changes before it
seen_counted : (n : ℕ) (e : Ended) (test : Bool) → is_change e.reply ≡ test → e.front ≡ counted n e.reply → seen_before e.reply e.front ≡ n
seen_counted n e true is front =
    let grown : counted n e.reply ≡ n + 1 = ap (λ b. if b then n + 1 else n) is in
    let seen : seen_before e.reply e.front ≡ e.front - 1 = ap (λ b. if b then e.front - 1 else e.front) is in
    omega (arith, grown, seen)
seen_counted n e false is front =
    let same : counted n e.reply ≡ n = ap (λ b. if b then n + 1 else n) is in
    let seen : seen_before e.reply e.front ≡ e.front = ap (λ b. if b then e.front - 1 else e.front) is in
    omega (arith, same, seen)

-- the heap that it saw is the heap there
heap_there : (before beyond history : List Call) (n : ℕ) → n ≡ length before → history ≡ before ++ beyond → heap_at history n ≡ heap_after opening before
heap_there before beyond history n number all =
    ap (λ h. heap_at h n) all ∙ ap (heap_at (before ++ beyond)) number ∙ heap_at-append before beyond (length before) (omega arith) ∙ heap_at-length before

accepted_step : (before history : List Call) (n : ℕ) (e : Ended) (es : List Ended) (test : Bool) → is_change e.reply ≡ test → n ≡ length before → history ≡ before ++ changes_of (e ∷ es)
    → answer (heap_after opening before) e.call ≡ e.reply → IsPlaced (counted n e.reply) es
    → ((first : List Call) (m : ℕ) → m ≡ length first → history ≡ first ++ changes_of es → IsPlaced m es → IsAccepted (heap_after opening first) (entries_of es))
    → IsAccepted (after (heap_after opening before) e.call) (entries_of es)
accepted_step before history n e es true is number all told placed rest =
    let grown : counted n e.reply ≡ n + 1 = ap (λ b. if b then n + 1 else n) is in
    let longer : counted n e.reply ≡ length (before ++ e.call ∷ []) = grown ∙ omega (arith, length-append before (e.call ∷ [])) in
    let joined : history ≡ (before ++ e.call ∷ []) ++ changes_of es = all ∙ ap (λ cs. before ++ cs) (of-change e es is) ∙ sym (append_assoc before (e.call ∷ []) (changes_of es)) in
    let P : Heap → Type 0 = λ heap. IsAccepted heap (entries_of es) in
    subst P (heap_after-append opening before (e.call ∷ [])) (rest (before ++ e.call ∷ []) (counted n e.reply) longer joined placed)
accepted_step before history n e es false is number all told placed rest =
    let same : counted n e.reply ≡ n = ap (λ b. if b then n + 1 else n) is in
    let P : Heap → Type 0 = λ heap. IsAccepted heap (entries_of es) in
    subst P (sym (after-look (heap_after opening before) e.call e.reply told is)) (rest before (counted n e.reply) (same ∙ number) (all ∙ ap (λ cs. before ++ cs) (of-look e es is)) placed)

placed_accepted : (before history : List Call) (n : ℕ) (es : List Ended) → n ≡ length before → history ≡ before ++ changes_of es → IsPlaced n es → All (HasReply history) es → IsAccepted (heap_after opening before) (entries_of es)
placed_accepted before history n [] number all placed answered = tt
placed_accepted before history n (e ∷ es) number all placed answered =
    let here : HasReply history e = All-head (HasReply history) e es answered in
    let heap : heap_at history (seen_before e.reply e.front) ≡ heap_after opening before =
    ap (heap_at history) (seen_counted n e (is_change e.reply) refl placed.0) ∙ heap_there before (changes_of (e ∷ es)) history n number all in
    let told : answer (heap_after opening before) e.call ≡ e.reply = ap (λ heap. answer heap e.call) (sym heap) ∙ here.reply in
    let rest = All-tail (HasReply history) e es answered in
    (told, here.there, accepted_step before history n e es (is_change e.reply) refl number all told placed.1 (λ first m more joined beyond. placed_accepted first history m es more joined beyond rest))

-- The heap accepts the shown history.
pub accepted-shown : (log : List Ended) → IsLog log → IsAccepted opening (shown log)
accepted-shown log heard =
    placed_accepted [] (changes_of log) 0 (arranged log) refl (sym (changes-shown log heard)) (placed-arranged log heard) (All-arranged (HasReply (changes_of log)) log heard.answered)

-- the arranged calls are told
pub IsArranged-arranged : (log : List Ended) → IsLog log → IsArranged (arranged log)
IsArranged-arranged log heard = record { accepted = accepted-shown log heard; placed = placed-arranged log heard }

-- ---- the order of each pass's calls

-- Calls of a pass whose places never fall keep their order.
pub of_pass-arranged : (pass : ℕ) (log : List Ended) → IsRising 0 (of_pass pass log) → of_pass pass (arranged log) ≡ of_pass pass log
of_pass-arranged pass log rising = filter-arranged (λ e. pass_of e.call == pass) log rising

-- a change is after what its pass had seen
change_later : (history : List Call) (pass n : ℕ) (e : Ended) → is_change e.reply ≡ true → IsNext history pass n e → n ≢ e.front
change_later history pass n e change next same =
    let none : made_by pass (between n e.front history) ≡ [] = ap (λ k. made_by pass (between n k history)) (sym same) ∙ ap (made_by pass) (between-same n history) in
    let one : made_by pass (between n e.front history) ≡ e.call ∷ [] = next.own ∙ ap (λ b. if b then e.call ∷ [] else []) change in
    cc

later_place : (history : List Call) (pass n place : ℕ) (e : Ended) (test : Bool) → is_change e.reply ≡ test → place ≤ 2 * n + 1 → IsNext history pass n e → (place ≤ place_of e) × (place_of e ≤ 2 * e.front + 1)
later_place history pass n place e true is low next =
    let here = place_of-change e is in
    let apart = change_later history pass n e is next in
    (omega (arith, next.later, here), omega (arith, here))
later_place history pass n place e false is low next = let here = place_of-look e is in (omega (arith, next.later, here), omega (arith, here))

-- The places of calls that follow one another never fall.
pub follows_rising : (history : List Call) (pass n place : ℕ) (es : List Ended) → place ≤ 2 * n + 1 → Follows history pass n es → IsRising place es
follows_rising history pass n place [] low follows = tt
follows_rising history pass n place (e ∷ es) low follows =
    let parts = later_place history pass n place e (is_change e.reply) refl low follows.0 in
    (parts.0, follows_rising history pass e.front (place_of e) es parts.1 follows.1)

-- ---- each pass's calls follow

-- one of the pass, and one of another
own-call : (pass : ℕ) (e : Ended) (es : List Ended) → pass_of e.call ≡ pass → of_pass pass (e ∷ es) ≡ e ∷ of_pass pass es
own-call pass e es own = ap (λ b. cond b (e ∷ of_pass pass es) (of_pass pass es)) (eq-eqb (pass_of e.call) pass own)

other-call : (pass : ℕ) (e : Ended) (es : List Ended) → pass_of e.call ≢ pass → of_pass pass (e ∷ es) ≡ of_pass pass es
other-call pass e es other = ap (λ b. cond b (e ∷ of_pass pass es) (of_pass pass es)) (ne_eqb (pass_of e.call) pass other)

-- Where these changes stand before the calls, and the pass made none of them since what it had seen, its calls follow.
abbrev CallsFollow : ℕ → List Ended → Type 0
CallsFollow pass es = (before history : List Call) (m n : ℕ) → n ≡ length before → history ≡ before ++ changes_of es → m ≤ n → made_by pass (drop m before) ≡ []
    → IsAccepted (heap_after opening before) (entries_of es) → IsPlaced n es → Follows history pass m (of_pass pass es)

-- a change first
module _ (pass : ℕ) (e : Ended) (es : List Ended) (before history : List Call) (m n : ℕ) (is : is_change e.reply ≡ true) (number : n ≡ length before) (all : history ≡ before ++ changes_of (e ∷ es)) (low : m ≤ n)
    (none : made_by pass (drop m before) ≡ []) (accepted : IsAccepted (heap_after opening before) (entries_of (e ∷ es))) (placed : IsPlaced n (e ∷ es)) (rest : CallsFollow pass es) where
  grown : counted n e.reply ≡ n + 1
  grown = ap (λ b. if b then n + 1 else n) is

  joined : history ≡ (before ++ e.call ∷ []) ++ changes_of es
  joined = all ∙ ap (λ cs. before ++ cs) (of-change e es is) ∙ sym (append_assoc before (e.call ∷ []) (changes_of es))

  longer : n + 1 ≡ length (before ++ e.call ∷ [])
  longer = omega (arith, number, length-append before (e.call ∷ []))

  beyond : (k : ℕ) → k ≤ n + 1 → made_by pass (drop k (before ++ e.call ∷ [])) ≡ [] → Follows history pass k (of_pass pass es)
  beyond k below made =
      let P : Heap → Type 0 = λ heap. IsAccepted heap (entries_of es) in
      let Q : ℕ → Type 0 = λ i. IsPlaced i es in
      rest (before ++ e.call ∷ []) history k (n + 1) longer joined below made (subst P (sym (heap_after-append opening before (e.call ∷ []))) accepted.2) (subst Q grown placed.1)

  change_follows : Follows history pass m (of_pass pass (e ∷ es))
  change_follows = ⊎_elim own other (cases_eq (pass_of e.call) pass)
    where
      own : pass_of e.call ≡ pass → Follows history pass m (of_pass pass (e ∷ es))
      own same =
          let front : e.front ≡ n + 1 = placed.0 ∙ grown in
          let next : IsNext (before ++ e.call ∷ []) pass m e = IsNext-change before pass m e same is (omega (arith, low, number)) (omega (arith, front, number)) none accepted.0 in
          let here : IsNext history pass m e = subst (λ h. IsNext h pass m e) (sym joined) (IsNext-append (before ++ e.call ∷ []) (changes_of es) pass m e next) in
          let nothing : made_by pass (drop e.front (before ++ e.call ∷ [])) ≡ [] = ap (λ k. made_by pass (drop k (before ++ e.call ∷ []))) (front ∙ longer) ∙ ap (made_by pass) (drop-length (before ++ e.call ∷ [])) in
          subst (Follows history pass m) (sym (own-call pass e es same)) (here, beyond e.front (omega (arith, front)) nothing)

      other : pass_of e.call ≢ pass → Follows history pass m (of_pass pass (e ∷ es))
      other apart =
          subst (Follows history pass m) (sym (other-call pass e es apart))
          (beyond m (omega (arith, low)) (made_by-push pass m before e.call (omega (arith, low, number)) none ∙ made_by-other pass e.call apart))

-- a look first
module _ (pass : ℕ) (e : Ended) (es : List Ended) (before history : List Call) (m n : ℕ) (is : is_change e.reply ≡ false) (number : n ≡ length before) (all : history ≡ before ++ changes_of (e ∷ es)) (low : m ≤ n)
    (none : made_by pass (drop m before) ≡ []) (accepted : IsAccepted (heap_after opening before) (entries_of (e ∷ es))) (placed : IsPlaced n (e ∷ es)) (rest : CallsFollow pass es) where
  stays : counted n e.reply ≡ n
  stays = ap (λ b. if b then n + 1 else n) is

  same_changes : history ≡ before ++ changes_of es
  same_changes = all ∙ ap (λ cs. before ++ cs) (of-look e es is)

  beside : (k : ℕ) → k ≤ n → made_by pass (drop k before) ≡ [] → Follows history pass k (of_pass pass es)
  beside k below made =
      let P : Heap → Type 0 = λ heap. IsAccepted heap (entries_of es) in
      let Q : ℕ → Type 0 = λ i. IsPlaced i es in
      rest before history k n number same_changes below made (subst P (after-look (heap_after opening before) e.call e.reply accepted.0 is) accepted.2) (subst Q stays placed.1)

  look_follows : Follows history pass m (of_pass pass (e ∷ es))
  look_follows = ⊎_elim own other (cases_eq (pass_of e.call) pass)
    where
      own : pass_of e.call ≡ pass → Follows history pass m (of_pass pass (e ∷ es))
      own same =
          let front : e.front ≡ length before = placed.0 ∙ stays ∙ number in
          let told : answer (heap_at before e.front) e.call ≡ e.reply = ap (λ heap. answer heap e.call) (ap (heap_at before) front ∙ heap_at-length before) ∙ accepted.0 in
          let next : IsNext before pass m e = IsNext-look before pass m e same accepted.1 is (omega (arith, low, front, number)) (omega (arith, front)) none told in
          let here : IsNext history pass m e = subst (λ h. IsNext h pass m e) (sym same_changes) (IsNext-append before (changes_of es) pass m e next) in
          let nothing : made_by pass (drop e.front before) ≡ [] = ap (λ k. made_by pass (drop k before)) front ∙ ap (made_by pass) (drop-length before) in
          subst (Follows history pass m) (sym (own-call pass e es same)) (here, beside e.front (omega (arith, front, number)) nothing)

      other : pass_of e.call ≢ pass → Follows history pass m (of_pass pass (e ∷ es))
      other apart = subst (Follows history pass m) (sym (other-call pass e es apart)) (beside m low none)

one_follows : (pass : ℕ) (e : Ended) (es : List Ended) (test : Bool) → is_change e.reply ≡ test → CallsFollow pass es → CallsFollow pass (e ∷ es)
one_follows pass e es true is rest before history m n number all low none accepted placed = change_follows pass e es before history m n is number all low none accepted placed rest
one_follows pass e es false is rest before history m n number all low none accepted placed = look_follows pass e es before history m n is number all low none accepted placed rest

all_follow : (pass : ℕ) (es : List Ended) → CallsFollow pass es
all_follow pass [] = λ before history m n number all low none accepted placed. ap (λ h. made_by pass (drop m h)) (all ∙ append-nil before) ∙ none
all_follow pass (e ∷ es) = one_follows pass e es (is_change e.reply) refl (all_follow pass es)

-- So each pass's calls among arranged ones follow one another.
pub arranged_follow : (pass : ℕ) (log : List Ended) → IsArranged log → Follows (changes_of log) pass 0 (of_pass pass log)
arranged_follow pass log is = all_follow pass log [] (changes_of log) 0 0 refl refl (omega arith) refl is.accepted is.placed

-- ---- a legal history

length-passes_of : (k pass : ℕ) (log : List Ended) → length (passes_of k pass log) ≡ k
length-passes_of zero pass log = refl
length-passes_of (suc k) pass log = ap suc (length-passes_of k (pass + 1) log)

passes_follow : (k pass : ℕ) (log : List Ended) → IsArranged log → AllFollow (changes_of log) pass (passes_of k pass log)
passes_follow zero pass log is = tt
passes_follow (suc k) pass log is = (arranged_follow pass log is, passes_follow k (pass + 1) log is)

-- Arranged calls are a legal history of any number of passes of which each is a call.
pub arranged_legal : (passes : ℕ) (log : List Ended) → IsArranged log → AreOfPasses passes log → IsLegal (changes_of log) (passes_of passes 1 log)
arranged_legal passes log is each =
    let P : ℕ → Type 0 = λ k. All (λ c. (1 ≤ pass_of c) × (pass_of c ≤ k)) (changes_of log) in
    record {
      fits = IsHistory-changes opening (entries_of log) is.accepted;
      passes = subst P (sym (length-passes_of passes 1 log)) (All-changes_of (λ c. (1 ≤ pass_of c) × (pass_of c ≤ passes)) log each);
      follows = passes_follow passes 1 log is;
    }

-- and so are those of a log
pub shown_legal : (passes : ℕ) (log : List Ended) → IsLog log → AreOfPasses passes log → IsLegal (changes_of (arranged log)) (passes_of passes 1 (arranged log))
shown_legal passes log is each = arranged_legal passes (arranged log) (IsArranged-arranged log is) (All-arranged (λ (e : Ended). (1 ≤ pass_of e.call) × (pass_of e.call ≤ passes)) log each)

-- ---- entries with their fronts

entries_of-fronted : (n : ℕ) (es : List Entry) → entries_of (fronted n es) ≡ es
entries_of-fronted n [] = refl
entries_of-fronted n (e ∷ es) = ap (λ xs. e ∷ xs) (entries_of-fronted (counted n e.reply) es)

fronted_placed : (n : ℕ) (es : List Entry) → IsPlaced n (fronted n es)
fronted_placed n [] = tt
fronted_placed n (e ∷ es) = (refl, fronted_placed (counted n e.reply) es)

fronted_each : (P : Call → Type 0) (n : ℕ) (es : List Entry) → All (λ (e : Entry). P e.call) es → All (λ (e : Ended). P e.call) (fronted n es)
fronted_each P n [] each = All-nil (λ (e : Ended). P e.call)
fronted_each P n (e ∷ es) each =
    All-cons (λ (d : Ended). P d.call) (record { call = e.call; reply = e.reply; front = counted n e.reply }) (fronted (counted n e.reply) es)
    (All-head (λ (d : Entry). P d.call) e es each) (fronted_each P (counted n e.reply) es (All-tail (λ (d : Entry). P d.call) e es each))

-- Accepted entries are a legal history.
pub accepted_legal : (es : List Entry) → IsAccepted opening es → AreLegal es
accepted_legal es accepted passes each =
    let log = fronted 0 es in
    let same : entries_of log ≡ es = entries_of-fronted 0 es in
    let is : IsArranged log = record { accepted = subst (IsAccepted opening) (sym same) accepted; placed = fronted_placed 0 es } in
    let P : List Entry → Type 0 = λ xs. IsLegal (changes xs) (passes_of passes 1 log) in
    subst P same (arranged_legal passes log is (fronted_each (λ c. (1 ≤ pass_of c) × (pass_of c ≤ passes)) 0 es each))
