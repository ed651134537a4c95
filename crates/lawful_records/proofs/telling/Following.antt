-- Ended calls of a pass in a history that grows, in order of time.
use Rattle.std.specs.Prelude.{◌≢◌}
use Rattle.std.proofs.Common.{◌≡◌, ℕ, ◌+◌, ◌≤◌, List, [], ◌∷◌, ◌++◌, length, cond, true, false, refl, ap, ◌∙◌, arith, length-append}
use Rattle.std.proofs.lemmas.Bool.{ne_eqb, eq-eqb}
use Rattle.std.proofs.lemmas.List.{drop_all}
use Rattle.heap_history.specs.FixedHeaps.{opening, answer}
use Rattle.heap_history.specs.Histories.{pass_of, is_change, heap_after, heap_at, made_by, Follows}
use Rattle.heap_history.specs.NextLaws.{made_by-other, made_by-push, made_by-later, IsNext-append, IsNext-look, IsNext-change}
use Rattle.heap_history.specs.declared.call.Call.{Call}
use Rattle.heap_history.specs.declared.call.Reply.TheVariants.{NotThere}
use Rattle.heap_history.specs.declared.call.Ended.{Ended}
use Rattle.lawful_records.specs.LawfulRecords.{last_front}

-- ---- a pass's changes, with the newest change first

pub made_by-cons_other : (pass : ℕ) (c : Call) (h : List Call) → pass_of c ≢ pass → made_by pass (c ∷ h) ≡ made_by pass h
made_by-cons_other pass c h other = ap (λ test. cond test (c ∷ made_by pass h) (made_by pass h)) (ne_eqb (pass_of c) pass other)

pub made_by-cons_own : (pass : ℕ) (c : Call) (h : List Call) → pass_of c ≡ pass → made_by pass (c ∷ h) ≡ c ∷ made_by pass h
made_by-cons_own pass c h own = ap (λ test. cond test (c ∷ made_by pass h) (made_by pass h)) (eq-eqb (pass_of c) pass own)

-- ---- another's change

pub follows_other : (history : List Call) (call : Call) (pass n : ℕ) (es : List Ended) → n ≤ length history → pass_of call ≢ pass → Follows history pass n es → Follows (history ++ call ∷ []) pass n es
follows_other history call pass n [] within other follows = made_by-push pass n history call within follows ∙ made_by-other pass call other
follows_other history call pass n (e ∷ es) within other follows =
    (IsNext-append history (call ∷ []) pass n e follows.0, follows_other history call pass e.front es follows.0.within other follows.1)

-- ---- a look comes last

-- a look at the heap after so many changes
pub record IsLookAt (history : List Call) (pass : ℕ) (e : Ended) : Type 0 where
  pub own : pass_of e.call ≡ pass
  pub there : e.reply ≢ NotThere
  pub look : is_change e.reply ≡ false
  pub within : e.front ≤ length history
  pub said : answer (heap_at history e.front) e.call ≡ e.reply

pub follows_look : (history : List Call) (pass n : ℕ) (es : List Ended) (e : Ended) → IsLookAt history pass e → last_front n es ≤ e.front → Follows history pass n es → Follows history pass n (es ++ e ∷ [])
follows_look history pass n [] e is later follows =
    (IsNext-look history pass n e is.own is.there is.look later is.within follows is.said, made_by-later pass n e.front history later follows)
follows_look history pass n (d ∷ es) e is later follows = (follows.0, follows_look history pass d.front es e is later follows.1)

-- ---- the pass's change comes last

-- a change of the heap after all others
pub record IsChangeOf (history : List Call) (pass : ℕ) (e : Ended) : Type 0 where
  pub own : pass_of e.call ≡ pass
  pub change : is_change e.reply ≡ true
  pub front : e.front ≡ length history + 1
  pub said : answer (heap_after opening history) e.call ≡ e.reply

pub follows_change : (history : List Call) (pass n : ℕ) (es : List Ended) (e : Ended) → IsChangeOf history pass e → n ≤ length history → last_front n es ≤ length history → Follows history pass n es → Follows (history ++ e.call ∷ []) pass n (es ++ e ∷ [])
follows_change history pass n [] e is within before follows =
    let long : length (history ++ e.call ∷ []) ≡ length history + 1 = length-append history (e.call ∷ []) in
    (IsNext-change history pass n e is.own is.change within is.front follows is.said, ap (made_by pass) (drop_all e.front (history ++ e.call ∷ []) (omega (arith, long, is.front))))
follows_change history pass n (d ∷ es) e is within before follows =
    (IsNext-append history (e.call ∷ []) pass n d follows.0, follows_change history pass d.front es e is follows.0.within before follows.1)

pub last_front-append : (n : ℕ) (es : List Ended) (e : Ended) → last_front n (es ++ e ∷ []) ≡ e.front
last_front-append n [] e = refl
last_front-append n (d ∷ es) e = last_front-append d.front es e
