-- Reading line after line, as the loops do.
use Rattle.std.proofs.Common.{◌<◌, ◌≤◌, ◌≡◌, ℕ, ◌+◌, Bool, true, eqb, All, List, [], ◌∷◌, ◌++◌, length, Option, Some, None, Result, Ok, Err, refl, sym, ap, ◌∙◌, append_assoc, length-append, arith}
use Rattle.std.specs.Option.{option_to_list}
use Rattle.std.specs.Prelude.{IfSome}
use Rattle.std.specs.Str.Lines.{lines}
use Rattle.std.proofs.lemmas.List.{append-nil, nil_from_length}
use Rattle.std.proofs.lemmas.List.Elements.{All-push}
use Rattle.std.proofs.lemmas.Bool.{eqb-true}
use Rattle.heap_words.specs.Layouts.{Sizes}
use Rattle.heap_script.specs.declared.fault.FaultKind.{FaultKind}
use Rattle.heap_script.specs.declared.fault.FaultKind.TheVariants.{NoHeapLine}
use Rattle.heap_script.specs.declared.fault.ReadScriptFault.{ReadScriptFault}
use Rattle.heap_script.specs.declared.fault.ReadScriptFault.TheVariants as faults
use Rattle.heap_script.specs.declared.script.Line.{Line}
use Rattle.heap_script.specs.Scripts.{Reading}
use Rattle.heap_script.specs.Grammar.{◌>>=◌, Fault, each_from, commands_from, heap_line, script_from, has_heap_line}
use Rattle.heap_script.specs.Gives.{Fails}

-- ---- what each line says

-- what was said before, and what is still read
abbrev pub with_front : {A : Type 0} → List A → Result (List A) Fault → Result (List A) Fault
with_front front read = read >>= λ xs. Ok (front ++ xs)

regroup : {A : Type 0} (front : List A) (x : A) (read : Result (List A) Fault) → with_front front (read >>= λ xs. Ok (x ∷ xs)) ≡ with_front (front ++ x ∷ []) read
regroup {A} front x (Ok xs) = ap (λ (ys : List A). Ok ys) (sym (append_assoc front (x ∷ []) xs))
regroup front x (Err f) = refl

-- one line more was read
pub each_step : {A : Type 0} (say : ℕ → List ℕ → Result (Option A) FaultKind) (n : ℕ) (front new : List A) (said : Option A) (line : List ℕ) (after ls : List (List ℕ)) (total : Result (List A) Fault)
    → ls ≡ line ∷ after → say (length front) line ≡ Ok said → new ≡ front ++ option_to_list said
    → with_front front (each_from say n (length front) ls) ≡ total → with_front new (each_from say (n + 1) (length new) after) ≡ total
unfolding each_from
each_step say n front new None line after ls total e said more so_far =
    let same : new ≡ front = more ∙ append-nil front in
    rw same (sym (rw (e, said) refl) ∙ so_far)
each_step say n front new (Some x) line after ls total e said more so_far =
    let one : with_front front (each_from say n (length front) ls) ≡ with_front (front ++ x ∷ []) (each_from say (n + 1) (length front + 1) after) = rw (e, said) (regroup front x (each_from say (n + 1) (length front + 1) after)) in
    let len : length (front ++ x ∷ []) ≡ length front + 1 = omega (arith, length-append front (x ∷ [])) in
    rw (more, len) (sym one ∙ so_far)

-- a line had a fault
pub each_fail : {A : Type 0} (say : ℕ → List ℕ → Result (Option A) FaultKind) (n count : ℕ) (front : List A) (kind : FaultKind) (line : List ℕ) (after ls : List (List ℕ)) (total : Result (List A) Fault)
    → ls ≡ line ∷ after → say count line ≡ Err kind
    → with_front front (each_from say n count ls) ≡ total → total ≡ Err (n, kind)
unfolding each_from
each_fail say n count front kind line after ls total e said so_far =
    let one : with_front front (each_from say n count ls) ≡ Err (n, kind) = rw (e, said) refl in
    sym so_far ∙ one

-- all lines were read
pub each_end : {A : Type 0} (say : ℕ → List ℕ → Result (Option A) FaultKind) (n count : ℕ) (front : List A) (ls : List (List ℕ)) (total : Result (List A) Fault)
    → ls ≡ [] → with_front front (each_from say n count ls) ≡ total → total ≡ Ok front
unfolding each_from
each_end {A} say n count front ls total e so_far =
    let one : with_front front (each_from say n count ls) ≡ Ok front = rw e (ap (λ (xs : List A). Ok xs) (append-nil front)) in
    sym so_far ∙ one

-- what `is_empty` said at the end
pub no_lines : (bs : List ℕ) (r : Bool) → r ≡ eqb (length bs) 0 → r ≡ true → lines bs ≡ []
no_lines bs r e f = ap lines (nil_from_length bs (eqb-true _ _ (sym e ∙ f)))

-- ---- the heap line, and the lines before it

pub script_pass : (last n : ℕ) (line : List ℕ) (after ls : List (List ℕ)) (total : Result Reading Fault)
    → ls ≡ line ∷ after → heap_line line ≡ Ok None → script_from last n ls ≡ total → script_from last (n + 1) after ≡ total
unfolding script_from
script_pass last n line after ls total e said so_far =
    let one : script_from last n ls ≡ script_from last (n + 1) after = rw (e, said) refl in
    sym one ∙ so_far

pub script_fail : (last n : ℕ) (kind : FaultKind) (line : List ℕ) (after ls : List (List ℕ)) (total : Result Reading Fault)
    → ls ≡ line ∷ after → heap_line line ≡ Err kind → script_from last n ls ≡ total → total ≡ Err (n, kind)
unfolding script_from
script_fail last n kind line after ls total e said so_far =
    let one : script_from last n ls ≡ Err (n, kind) = rw (e, said) refl in
    sym so_far ∙ one

pub script_ends : (last n : ℕ) (ls : List (List ℕ)) (total : Result Reading Fault) → ls ≡ [] → script_from last n ls ≡ total → total ≡ Err (last, NoHeapLine)
unfolding script_from
script_ends last n ls total e so_far =
    let one : script_from last n ls ≡ Err (last, NoHeapLine) = rw e refl in
    sym so_far ∙ one

-- after the heap line the commands decide
pub script_commands : (last n : ℕ) (h : Sizes × ℕ) (line : List ℕ) (after ls : List (List ℕ)) (cs : List Line) (total : Result Reading Fault)
    → ls ≡ line ∷ after → heap_line line ≡ Ok (Some h) → commands_from h.0.passes (n + 1) 0 after ≡ Ok cs
    → script_from last n ls ≡ total → total ≡ Ok (record { layout = h.0; cycles = h.1; lines = cs })
unfolding script_from
script_commands last n h line after ls cs total e said read so_far =
    let one : script_from last n ls ≡ Ok (record { layout = h.0; cycles = h.1; lines = cs }) = rw (e, said, read) refl in
    sym so_far ∙ one

pub script_commands_fail : (last n : ℕ) (h : Sizes × ℕ) (line : List ℕ) (after ls : List (List ℕ)) (f : ReadScriptFault) (total : Result Reading Fault)
    → ls ≡ line ∷ after → heap_line line ≡ Ok (Some h) → Fails f (commands_from h.0.passes (n + 1) 0 after)
    → script_from last n ls ≡ total → Fails f total
unfolding script_from
script_commands_fail last n h line after ls faults.OutOfMemory total e said read so_far = tt
script_commands_fail last n h line after ls (faults.Script at kind) total e said read so_far =
    let one : script_from last n ls ≡ Err (at, kind) = rw (e, said, read) refl in
    sym so_far ∙ one

-- ---- whether there is a heap line

-- a line that says nothing leaves it open
pub heap_line_later : (line : List ℕ) (after ls : List (List ℕ)) → ls ≡ line ∷ after → heap_line line ≡ Ok None → has_heap_line ls ≡ has_heap_line after
heap_line_later line after ls e said = rw (e, said) refl

pub heap_line_here : (h : Sizes × ℕ) (line : List ℕ) (after ls : List (List ℕ)) → ls ≡ line ∷ after → heap_line line ≡ Ok (Some h) → has_heap_line ls ≡ true
heap_line_here h line after ls e said = rw (e, said) refl

-- ---- what is read fits

pub fits_step : (P : Line → Type 0) (old new : List Line) (said : Option Line) → All P old → length old ≤ 65536 → IfSome said (λ l. P l × (length old < 65536)) → new ≡ old ++ option_to_list said → All P new × (length new ≤ 65536)
fits_step P old new None h n k e = let same : new ≡ old = e ∙ append-nil old in rw same (h, n)
fits_step P old new (Some l) h n k e = rw e (All-push P old l h k.0, omega (arith, k.1, length-append old (l ∷ [])))
