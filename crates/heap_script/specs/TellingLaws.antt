-- Laws of what is told: how many refused tries are counted, and for how many answers there is room.
use Rattle.std.specs.Prelude.{sum_by}
use Rattle.std.specs.List.{flat_map, range_with_len}
use Rattle.std.proofs.Common.{◌≡◌, ℕ, zero, suc, ◌+◌, ◌-◌, ◌<◌, ◌≤◌, List, [], ◌∷◌, ◌++◌, length, map, take, get_or, refl, sym, ap, ◌∙◌, subst, arith, add-one}
use Rattle.std.proofs.Math.Seq.{take-length}
use Rattle.std.proofs.lemmas.List.{get_or-map, take_more}
use Rattle.std.proofs.lemmas.List.Concat.{length-flat_map}
use Rattle.std.proofs.lemmas.List.FromFn.{length-map-range_with_len, map-range_with_len_more}
use Rattle.heap_script.specs.declared.script.Command.{Command}
use Rattle.heap_script.specs.declared.answer.Answer.{Answer}
use Rattle.heap_script.specs.Commands.{commands_at, total}
use Rattle.heap_script.specs.SumLaws.{sum_by-map, sum_by-lt}
use Rattle.heap_script.specs.TellingSteps.{answers_at, room_at, agains_in, agains_of}

-- ---- refused tries

-- the lists of the first threads
by_thread : (lists : List (List Command)) (n : ℕ) → n ≤ length lists → map (λ t. commands_at lists t) (range_with_len 1 n) ≡ take n lists
by_thread lists zero within = refl
by_thread lists (suc n) within =
    let P : ℕ → Type 0 = λ m. map (λ t. commands_at lists t) (range_with_len 1 m) ≡ take m lists in
    let more : map (λ t. commands_at lists t) (range_with_len 1 (n + 1)) ≡ map (λ t. commands_at lists t) (range_with_len 1 n) ++ commands_at lists (n + 1) ∷ [] =
    map-range_with_len_more (λ t. commands_at lists t) 1 n (n + 1) (omega arith) in
    let taken : take (n + 1) lists ≡ take n lists ++ get_or lists n [] ∷ [] = take_more lists n [] (omega arith) in
    let place : n + 1 - 1 ≡ n = omega arith in
    let same : commands_at lists (n + 1) ≡ get_or lists n [] = ap (λ k. get_or lists k []) place in
    let earlier : map (λ t. commands_at lists t) (range_with_len 1 n) ≡ take n lists = by_thread lists n (omega arith) in
    let all : P (n + 1) = cc in
    subst P (add-one n) all

-- how many stand before those of a thread
length-first_agains : (lists : List (List Command)) (n : ℕ) → n ≤ length lists
    → length (flat_map (λ t. agains_in t (commands_at lists t)) (range_with_len 1 n)) ≡ sum_by length (take n lists)
length-first_agains lists n within =
    let pieces : length (flat_map (λ t. agains_in t (commands_at lists t)) (range_with_len 1 n)) ≡ sum_by (λ t. length (agains_in t (commands_at lists t))) (range_with_len 1 n) =
    length-flat_map (λ t. agains_in t (commands_at lists t)) (range_with_len 1 n) in
    let sizes : sum_by (λ t. length (agains_in t (commands_at lists t))) (range_with_len 1 n) ≡ sum_by (λ t. length (commands_at lists t)) (range_with_len 1 n) =
    simp length-map-range_with_len in
    let kept : sum_by length (map (λ t. commands_at lists t) (range_with_len 1 n)) ≡ sum_by (λ t. length (commands_at lists t)) (range_with_len 1 n) =
    sum_by-map length (λ t. commands_at lists t) (range_with_len 1 n) in
    pieces ∙ sizes ∙ sym kept ∙ ap (sum_by length) (by_thread lists n within)

-- there is a count for each command
pub length-agains_of : (lists : List (List Command)) → length (agains_of lists) ≡ total lists
length-agains_of lists =
    length-first_agains lists (length lists) (omega arith) ∙ ap total (take-length lists)

-- ---- answers

-- and room for one to each of its commands
pub room_at-opening : (lists : List (List Command)) (t : ℕ) → 1 ≤ t → t ≤ length lists → room_at (map length lists) t ≡ length (commands_at lists t)
room_at-opening lists t least most =
    let within : t - 1 < length lists = omega arith in
    get_or-map length lists (t - 1) [] 0 within

-- ---- one more answer

-- where a command has no answer yet, there are fewer answers than commands
pub answers_missing : (lists : List (List Answer)) (commands : List (List Command)) (t : ℕ) → length lists ≡ length commands
    → ((u : ℕ) → 1 ≤ u → u ≤ length commands → length (answers_at lists u) ≤ length (commands_at commands u))
    → 1 ≤ t → t ≤ length commands → length (answers_at lists t) < length (commands_at commands t)
    → sum_by length lists < total commands
answers_missing lists commands t lens below least most less =
    let each : (i : ℕ) → i < length commands → length (get_or lists i []) ≤ length (get_or commands i []) = λ i inside.
    let place : i + 1 - 1 ≡ i = omega arith in
    subst (λ (k : ℕ). length (get_or lists k []) ≤ length (get_or commands k [])) place (below (i + 1) (omega arith) (omega arith)) in
    sum_by-lt length length [] [] lists commands (t - 1) lens each (omega arith) less
