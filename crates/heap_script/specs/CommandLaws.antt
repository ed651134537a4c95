-- Laws of the commands of each thread, and those of all lines.
use Rattle.std.proofs.Common.{◌≡◌, ℕ, zero, suc, ◌+◌, ◌-◌, ◌<◌, ◌≤◌, List, [], ◌∷◌, ◌++◌, length, refl, subst, arith, cond, eqb, add-one}
use Rattle.std.specs.List.{All}
use Rattle.std.proofs.lemmas.Bool.Decides.{nat_tests}
use Rattle.std.proofs.lemmas.List.Elements.{All-map, All-filter}
use Rattle.std.proofs.lemmas.List.FromFn.{length-map-range_with_len, get_or-map-range_with_len, map-range_with_len_more, sum_by-map-range_with_len_more}
use Rattle.heap_script.specs.declared.script.Line.{Line}
use Rattle.heap_script.specs.Allowed.{commands_of}
use Rattle.heap_script.specs.Scripts.{CommandFits}
use Rattle.heap_script.specs.Commands.{commands_by, commands_at, total}

-- there is a list for each thread
pub length-commands_by : (n : ℕ) (lines : List Line) → length (commands_by n lines) ≡ n
length-commands_by n lines = length-map-range_with_len (λ t. commands_of t lines) 1 n

-- a thread's list has its commands
pub commands_at-commands_by : (n : ℕ) (lines : List Line) (t : ℕ) → 1 ≤ t → t ≤ n → commands_at (commands_by n lines) t ≡ commands_of t lines
commands_at-commands_by n lines t least most =
    let within : t - 1 < n = omega arith in
    let same : 1 + (t - 1) ≡ t = omega arith in
    get_or-map-range_with_len (λ k. commands_of k lines) 1 n (t - 1) t [] within same

-- one thread more
pub commands_by-more : (n : ℕ) (lines : List Line) → commands_by (n + 1) lines ≡ commands_by n lines ++ commands_of (n + 1) lines ∷ []
commands_by-more n lines = map-range_with_len_more (λ k. commands_of k lines) 1 n (n + 1) (omega arith)

pub total-more : (n : ℕ) (lines : List Line) → total (commands_by (n + 1) lines) ≡ total (commands_by n lines) + length (commands_of (n + 1) lines)
total-more n lines = sum_by-map-range_with_len_more length (λ k. commands_of k lines) 1 n (n + 1) (omega arith)

-- a line is a command of its thread alone
length-commands_of : (l : Line) (ls : List Line) (t : ℕ) → length (commands_of t (l ∷ ls)) ≡ cond (eqb l.thread t) 1 0 + length (commands_of t ls)
length-commands_of l ls t = grind (arith, nat_tests)

-- A line more, and a thread more: the line is this thread's, one's before it, or one's after it.
count_step : (n t a b c d e f : ℕ) → (n < t → a ≡ b) → a ≤ b + 1 → c ≡ a + e → d ≡ b + f → e ≡ cond (eqb t (n + 1)) 1 0 + f
    → (n + 1 < t → c ≡ d) × (c ≤ d + 1)
count_step n t a b c d e f same more ce de ef = grind (arith, nat_tests)

total-cons : (l : Line) (ls : List Line) (n : ℕ) → (n < l.thread → total (commands_by n (l ∷ ls)) ≡ total (commands_by n ls)) × (total (commands_by n (l ∷ ls)) ≤ total (commands_by n ls) + 1)
total-cons l ls zero = ((λ _. refl), omega arith)
total-cons l ls (suc n) =
    let P : ℕ → Type 0 = λ m. (m < l.thread → total (commands_by m (l ∷ ls)) ≡ total (commands_by m ls)) × (total (commands_by m (l ∷ ls)) ≤ total (commands_by m ls) + 1) in
    let before = total-cons l ls n in
    subst P (add-one n) (count_step n l.thread _ _ _ _ _ _ before.0 before.1 (total-more n (l ∷ ls)) (total-more n ls) (length-commands_of l ls (n + 1)))

no_lines : (n : ℕ) → total (commands_by n []) ≡ 0
no_lines zero = refl
no_lines (suc n) =
    let P : ℕ → Type 0 = λ m. total (commands_by m []) ≡ 0 in
    let e : total (commands_by (n + 1) []) ≡ 0 = omega (arith, total-more n [], no_lines n) in
    subst P (add-one n) e

-- the threads have no more commands than there are lines
pub total-commands_by : (n : ℕ) (lines : List Line) → total (commands_by n lines) ≤ length lines
total-commands_by n [] = omega (arith, no_lines n)
total-commands_by n (l ∷ ls) = omega (arith, (total-cons l ls n).1, total-commands_by n ls)

-- where the commands of all lines fit, each thread's do
pub fit-commands_of : (lines : List Line) (t : ℕ) → All (λ l. CommandFits l.command) lines → All CommandFits (commands_of t lines)
fit-commands_of lines t fit =
    All-map CommandFits (λ (l : Line). l.command) _ (All-filter (λ (l : Line). eqb l.thread t) (λ (l : Line). CommandFits l.command) lines fit)
