-- The commands of each thread, as lists that are kept in some form.
use Rattle.std.specs.Prelude.{sum_by}
use Rattle.std.proofs.Common.{◌≡◌, ℕ, ◌+◌, ◌-◌, ◌≤◌, List, [], ◌∷◌, ◌++◌, length, map, take, sym, ap, subst, arith}
use Rattle.std.proofs.lemmas.List.{map-append, length-map, take-map}
use Rattle.heap_script.specs.declared.script.Command.{Command}
use Rattle.heap_script.specs.declared.script.Line.{Line}
use Rattle.heap_script.specs.Allowed.{commands_of}
use Rattle.heap_script.specs.Commands.{commands_by, before, total}
use Rattle.heap_script.specs.CommandLaws.{length-commands_by, commands_by-more, total-commands_by}
use Rattle.heap_script.specs.SumLaws.{sum_by-map}

-- the list of one thread more
pub push_commands : {X : Type 0} (f : X → List Command) (vs ws : List X) (v : X) (n : ℕ) (lines : List Line)
    → ws ≡ vs ++ v ∷ [] → map f vs ≡ commands_by n lines → f v ≡ commands_of (n + 1) lines → map f ws ≡ commands_by (n + 1) lines
push_commands f vs ws v n lines pushed so_far here =
    let all : map f (vs ++ v ∷ []) ≡ map f vs ++ f v ∷ [] = map-append f vs (v ∷ []) in
    let more = commands_by-more n lines in
    cc

pub length-kept : {X : Type 0} (f : X → List Command) (vs : List X) (n : ℕ) (lines : List Line) → map f vs ≡ commands_by n lines → length vs ≡ n
length-kept f vs n lines kept =
    let same : length (map f vs) ≡ length (commands_by n lines) = ap length kept in
    omega (arith, length-map vs f, length-commands_by n lines, same)

pub total-kept : {X : Type 0} (f : X → List Command) (vs : List X) (n : ℕ) (lines : List Line) → map f vs ≡ commands_by n lines
    → sum_by (λ v. length (f v)) vs ≤ length lines
total-kept f vs n lines kept =
    let same : total (map f vs) ≡ total (commands_by n lines) = ap total kept in
    omega (arith, sum_by-map length f vs, total-commands_by n lines, same)

-- those of the first threads
pub before-kept : {X : Type 0} (f : X → List Command) (vs : List X) (lists : List (List Command)) (t : ℕ) → map f vs ≡ lists
    → sum_by (λ v. length (f v)) (take (t - 1) vs) ≡ before lists t
before-kept f vs lists t kept =
    let P : List (List Command) → Type 0 = λ x. sum_by (λ v. length (f v)) (take (t - 1) vs) ≡ before x t in
    subst P kept (rw take-map (sym (sum_by-map length f (take (t - 1) vs))))
