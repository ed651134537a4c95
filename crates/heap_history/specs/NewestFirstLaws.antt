-- Laws of histories with the newest change first: earlier ones, the longest of some, and the same changes in order of time.
use Rattle.std.specs.Prelude.{reverse, nat_le, IsTrue}
use Rattle.std.specs.List.{All, Contains}
use Rattle.std.proofs.Common.{◌≡◌, ℕ, zero, suc, ◌<◌, ◌≤◌, inl, inr, List, [], ◌∷◌, ◌++◌, length, take, get_or, cond, Bool, true, false, refl, sym, ap, ◌∙◌, subst, arith, length-append}
use Rattle.std.proofs.Math.Seq.{take-length}
use Rattle.std.proofs.lemmas.Bool.Decides.{nat_tests}
use Rattle.std.proofs.lemmas.List.{append-nil, reverse-append, reverse-reverse, length-reverse, take-append-le}
use Rattle.std.proofs.lemmas.List.Elements.{All-head, All-tail}
use Rattle.heap_history.specs.declared.call.Call.{Call}
use Rattle.heap_history.specs.FixedHeaps.{Heap, opening, answer, after}
use Rattle.heap_history.specs.Histories.{heap_after, heap_at, is_change, IsHistory}
use Rattle.heap_history.specs.HistoryLaws.{heap_after-append, IsHistory-append}
use Rattle.heap_history.specs.NewestFirst.{heap_of_history, Before, longer, longest}

-- ---- earlier histories

pub Before-refl : (h : List Call) → Before h h
Before-refl [] = refl
Before-refl (c ∷ h) = inl refl

-- the start is before each
pub Before-nil : (h : List Call) → Before [] h
Before-nil [] = refl
Before-nil (c ∷ h) = inr (Before-nil h)

-- one more change
pub Before-cons : (early : List Call) (c : Call) (h : List Call) → Before early h → Before early (c ∷ h)
Before-cons early c h before = inr before

-- an earlier one has the late one's first changes
pub newer_of : (early late : List Call) → Before early late → (newer : List Call) × (late ≡ newer ++ early)
newer_of early [] before = ([], sym before)
newer_of early (c ∷ h) (inl same) = ([], sym same)
newer_of early (c ∷ h) (inr before) = let more = newer_of early h before in (c ∷ more.0, ap (λ h. c ∷ h) more.1)

pub Before-length : (early late : List Call) → Before early late → length early ≤ length late
Before-length early late before =
    let more = newer_of early late before in
    omega (arith, ap length more.1, length-append more.0 early)

-- one that is no shorter is the late one itself
pub Before-whole : (early late : List Call) → Before early late → length late ≤ length early → early ≡ late
Before-whole early [] before long = before
Before-whole early (c ∷ h) (inl same) long = same
Before-whole early (c ∷ h) (inr before) long = absurd (omega (arith, Before-length early h before, long))

-- ---- the longest of some

is_longer : (a b : List Call) (test : Bool) → nat_le (length b) (length a) ≡ test → (length a ≤ length (cond test a b)) × (length b ≤ length (cond test a b))
is_longer a b true is = let short : length b ≤ length a = grind (arith, nat_tests) in (omega arith, short)
is_longer a b false is = let short : length a ≤ length b = grind (arith, nat_tests) in (short, omega arith)

pub longer_left : (a b : List Call) → length a ≤ length (longer a b)
longer_left a b = (is_longer a b (nat_le (length b) (length a)) refl).0

pub longer_right : (a b : List Call) → length b ≤ length (longer a b)
longer_right a b = (is_longer a b (nat_le (length b) (length a)) refl).1

-- what holds of both holds of the longer
longer_holds : (P : List Call → Type 0) (a b : List Call) (test : Bool) → P a → P b → P (cond test a b)
longer_holds P a b true first second = first
longer_holds P a b false first second = second

-- each is no longer
pub longest_long : (hs : List (List Call)) (h : List Call) → Contains hs h → length h ≤ length (longest hs)
longest_long hs h among = by_place hs h among.0 among.1 among.2
  where
    by_place : (hs : List (List Call)) (h : List Call) (k : ℕ) → k < length hs → get_or hs k h ≡ h → length h ≤ length (longest hs)
    by_place [] h k within is = absurd (omega arith)
    by_place (x ∷ xs) h zero within is = omega (arith, longer_left x (longest xs), ap length is)
    by_place (x ∷ xs) h (suc k) within is = omega (arith, longer_right x (longest xs), by_place xs h k (omega arith) is)

-- where all are before one, so is the longest
pub longest_before : (hs : List (List Call)) (late : List Call) → All (λ h. Before h late) hs → Before (longest hs) late
longest_before [] late all = Before-nil late
longest_before (h ∷ hs) late all =
    let P : List Call → Type 0 = λ x. Before x late in
    longer_holds P h (longest hs) (nat_le (length (longest hs)) (length h)) (All-head P h hs all) (longest_before hs late (All-tail P h hs all))

-- and where that one is among them, it is the longest
pub longest_is : (hs : List (List Call)) (late : List Call) → All (λ h. Before h late) hs → Contains hs late → longest hs ≡ late
longest_is hs late all among = Before-whole (longest hs) late (longest_before hs late all) (longest_long hs late among)

-- ---- the same changes in order of time

reverse-cons : (c : Call) (h : List Call) → reverse (c ∷ h) ≡ reverse h ++ c ∷ []
reverse-cons c h = reverse-append (c ∷ []) h

-- the heap after more changes
pub heap_of_history-append : (newer h : List Call) → heap_of_history (newer ++ h) ≡ heap_after (heap_of_history h) (reverse newer)
heap_of_history-append [] h = refl
heap_of_history-append (c ∷ newer) h =
    ap (λ heap. after heap c) (heap_of_history-append newer h)
    ∙ sym (heap_after-append (heap_of_history h) (reverse newer) (c ∷ []))
    ∙ ap (heap_after (heap_of_history h)) (sym (reverse-cons c newer))

-- The heap after a history is the heap after its changes in order of time.
pub heap_of_history-is : (h : List Call) → heap_of_history h ≡ heap_after opening (reverse h)
heap_of_history-is h = ap heap_of_history (sym (append-nil h)) ∙ heap_of_history-append h []

pub heap_of_history-reverse : (history : List Call) → heap_of_history (reverse history) ≡ heap_after opening history
heap_of_history-reverse history = heap_of_history-is (reverse history) ∙ ap (heap_after opening) (reverse-reverse history)

-- An earlier history is the first changes in order of time.
pub reverse-before : (early late : List Call) → Before early late → reverse early ≡ take (length early) (reverse late)
reverse-before early late before =
    let more = newer_of early late before in
    let all : reverse late ≡ reverse early ++ reverse more.0 = ap reverse more.1 ∙ reverse-append more.0 early in
    let len : length (reverse early) ≡ length early = length-reverse early in
    sym (
    ap (take (length early)) all
    ∙ take-append-le (length early) (reverse early) (reverse more.0) (omega (arith, len))
    ∙ ap (λ n. take n (reverse early)) (sym len)
    ∙ take-length (reverse early))

pub before-reverse : (early history : List Call) → Before early (reverse history) → early ≡ reverse (take (length early) history)
before-reverse early history before =
    sym (reverse-reverse early)
    ∙ ap reverse (reverse-before early (reverse history) before)
    ∙ ap (λ cs. reverse (take (length early) cs)) (reverse-reverse history)

-- So the heap after an earlier history is the heap after as many changes in order of time.
pub heap_of_history-before : (early history : List Call) → Before early (reverse history) → heap_of_history early ≡ heap_at history (length early)
heap_of_history-before early history before =
    ap heap_of_history (before-reverse early history before) ∙ heap_of_history-reverse (take (length early) history)

-- one more change that fits
pub IsHistory-cons : (c : Call) (h : List Call) → IsHistory opening (reverse h) → IsTrue (is_change (answer (heap_of_history h) c)) → IsHistory opening (reverse (c ∷ h))
IsHistory-cons c h fits change =
    let P : Heap → Type 0 = λ heap. IsTrue (is_change (answer heap c)) in
    subst (IsHistory opening) (sym (reverse-cons c h)) (IsHistory-append opening (reverse h) c fits (subst P (heap_of_history-is h) change))
