-- A text is one script, or has one fault.
use Rattle.std.specs.Str.Lines.{lines}
use Rattle.std.proofs.Common.{◌≡◌, ℕ, List, [], ◌∷◌, map, Option, Some, None, Result, Ok, refl, sym, ap, subst, ◌∙◌, arith, inl, inr}
use Rattle.std.proofs.lemmas.Bool.{cases_order}
use Rattle.heap_words.specs.Layouts.{Sizes}
use Rattle.heap_script.specs.declared.fault.FaultKind.{FaultKind}
use Rattle.heap_script.specs.declared.script.Line.{Line}
use Rattle.heap_script.specs.Words.{Word}
use Rattle.heap_script.specs.Scripts.{Reading}
use Rattle.heap_script.specs.Grammar.{Heading, Fault, command}
use Rattle.heap_script.specs.FirstFault.{said, fault_at, IsFirstFault, IsFault, Says, IsScript}

abbrev done : Line → Result Line FaultKind
done l = Ok l

same_lines : (xs ys : List Line) → map done xs ≡ map done ys → xs ≡ ys
same_lines [] [] e = refl
same_lines [] (y ∷ ys) e = absurd cc
same_lines (x ∷ xs) [] e = absurd cc
same_lines (x ∷ xs) (y ∷ ys) e =
    let h : x ≡ y = cc in
    let t : map done xs ≡ map done ys = cc in
    let r = same_lines xs ys t in cc

abbrev heading_of : Heading → Result Heading FaultKind
heading_of h = Ok h

ok_same : (h k : Heading) → heading_of h ≡ heading_of k → h ≡ k
ok_same h k e = cc

abbrev layout_and : Sizes → ℕ → Heading
layout_and l cycles = (l, cycles)

abbrev reading_of : Heading → List Line → Reading
reading_of h ls = record { layout = h.0; cycles = h.1; lines = ls }

same_reading : (s t : Reading) → layout_and s.layout s.cycles ≡ layout_and t.layout t.cycles → s.lines ≡ t.lines → s ≡ t
same_reading s t p l = ap (λ (h : Heading). reading_of h s.lines) p ∙ ap (λ (x : List Line). reading_of (layout_and t.layout t.cycles) x) l

abbrev fault_of : ℕ → FaultKind → Fault
fault_of n k = (n, k)

same_fault : (f g : Fault) → f.0 ≡ g.0 → f.1 ≡ g.1 → f ≡ g
same_fault f g p q = ap (λ (n : ℕ). fault_of n f.1) p ∙ ap (λ (k : FaultKind). fault_of g.0 k) q

same_said : (ws : List (List Word)) (s t : Reading) → Says ws s → Says ws t → s ≡ t
same_said [] s t h k = absurd h
same_said (w ∷ ws) s t h k =
    let p : layout_and s.layout s.cycles ≡ layout_and t.layout t.cycles = ok_same (layout_and s.layout s.cycles) (layout_and t.layout t.cycles) (sym h.0 ∙ k.0) in
    let l : s.lines ≡ t.lines = same_lines s.lines t.lines (sym h.1 ∙ ap (λ (x : Heading). map (command x.0.passes) ws) p ∙ k.1) in
    same_reading s t p l

pub one_script : (bytes : List ℕ) (s t : Reading) → IsScript bytes s → IsScript bytes t → s ≡ t
one_script bytes s t h k = same_said (said (lines bytes)) s t h.says k.says

none_some : (o : Option FaultKind) (kind : FaultKind) → o ≡ None → o ≡ Some kind → ⊥
none_some o kind e f = cc

pub script_or_fault : (bytes : List ℕ) (s : Reading) (f : Fault) → IsScript bytes s → IsFault bytes f → ⊥
script_or_fault bytes s f h (inl k) = none_some (fault_at (lines bytes) k.index) f.1 (h.no_fault k.index k.within) k.here
script_or_fault bytes s f h (inr k) = subst (λ (x : List (List Word)). Says x s) k.nothing h.says

first_once : (ls : List (List ℕ)) (f g : Fault) → IsFirstFault ls f → IsFirstFault ls g → f ≡ g
first_once ls f g h k = elim (cases_order h.index k.index) [
  | inl e ↦ let a : f.0 ≡ g.0 = omega (arith, h.counted, k.counted, e) in let b : Some f.1 ≡ Some g.1 = sym h.here ∙ ap (fault_at ls) e ∙ k.here in let c : f.1 ≡ g.1 = cc in same_fault f g a c
  | inr (inl lt) ↦ absurd (none_some (fault_at ls h.index) f.1 (k.earlier h.index lt) h.here)
  | inr (inr lt) ↦ absurd (none_some (fault_at ls k.index) g.1 (h.earlier k.index lt) k.here)
]

pub one_fault : (bytes : List ℕ) (f g : Fault) → IsFault bytes f → IsFault bytes g → f ≡ g
one_fault bytes f g (inl h) (inl k) = first_once (lines bytes) f g h k
one_fault bytes f g (inl h) (inr k) = absurd (none_some (fault_at (lines bytes) h.index) f.1 (k.no_fault h.index h.within) h.here)
one_fault bytes f g (inr h) (inl k) = absurd (none_some (fault_at (lines bytes) k.index) g.1 (h.no_fault k.index k.within) k.here)
one_fault bytes f g (inr h) (inr k) =
    let a : f.0 ≡ g.0 = h.line ∙ sym k.line in
    let b : f.1 ≡ g.1 = h.kind ∙ sym k.kind in same_fault f g a b
