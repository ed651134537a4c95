-- What reading gives is the script of the lines, or the first fault.
use Rattle.std.proofs.Common.{◌≡◌, ℕ, ◌+◌, Bool, true, false, cond, not, eqb, leb, List, [], ◌∷◌, ◌++◌, length, get_or, map, Option, Some, None, Result, Ok, Err, refl, sym, ap, subst, ◌∙◌, arith, append_assoc, length-append, inl, inr}
use Rattle.std.specs.Prelude.{MatchResult, IfOk, IfErr, ◌⊎◌, count_by}
use Rattle.std.specs.List.{filter}
use Rattle.std.specs.Str.Lines.{lines}
use borrow.Author.Count.{below_more}
use Rattle.std.proofs.lemmas.List.{append-nil, take_at, map-append}
use Rattle.std.proofs.lemmas.List.Elements.{filter-append}
use Rattle.heap_script.specs.declared.fault.FaultKind.{FaultKind}
use Rattle.heap_script.specs.declared.fault.FaultKind.TheVariants.{NoHeapLine, NotAscii, TooManyLines}
use Rattle.heap_script.specs.declared.script.Line.{Line}
use Rattle.heap_script.specs.Words.{Word, words, is_printable, is_passed_over}
use Rattle.heap_script.specs.Scripts.{Reading}
use Rattle.heap_script.specs.Grammar.{◌>>=◌, Heading, Fault, heading, heap_line, command, command_line, commands_from, each_from, script_from, script_of}
use Rattle.heap_script.specs.declared.fault.ReadScriptFault.{ReadScriptFault}
use Rattle.heap_script.specs.declared.fault.ReadScriptFault.TheVariants as faults
use Rattle.heap_script.specs.Gives.{IsAnswer, IfScriptFault}
use Rattle.heap_script.specs.FirstFault.{said, fault_of, fault_after, fault_at, NoFaultBefore, IsFirstFault, IsFault, Says, IsScript}

at_seam : (before after : List (List ℕ)) (line : List ℕ) → get_or (before ++ line ∷ after) (length before) [] ≡ line
at_seam [] after line = refl
at_seam (b ∷ before) after line = at_seam before after line

pub fault_seam : (before after : List (List ℕ)) (line : List ℕ) → fault_at (before ++ line ∷ after) (length before) ≡ fault_after (said before) line
fault_seam before after line = rw (take_at before (line ∷ after) (length before) refl, at_seam before after line) refl

said_push : (before : List (List ℕ)) (line : List ℕ) → said (before ++ line ∷ []) ≡ said before ++ said (line ∷ [])
said_push before line = ap (filter (λ ws. not (is_passed_over ws))) (map-append words before (line ∷ [])) ∙ filter-append (λ ws. not (is_passed_over ws)) (map words before) (words line ∷ [])

-- one line more without a fault
pub no_fault_push : (before after : List (List ℕ)) (line : List ℕ) → NoFaultBefore (before ++ line ∷ after) (length before) → fault_after (said before) line ≡ None
    → NoFaultBefore ((before ++ line ∷ []) ++ after) (length (before ++ line ∷ []))
no_fault_push before after line h here =
    let len : length (before ++ line ∷ []) ≡ length before + 1 = omega (arith, length-append before (line ∷ [])) in
    let e : (before ++ line ∷ []) ++ after ≡ before ++ line ∷ after = append_assoc before (line ∷ []) after in
    rw (len, e) (below_more (λ j. fault_at (before ++ line ∷ after) j ≡ None) (length before) h (fault_seam before after line ∙ here))

-- ---- what a line's reading says of its words

said_none : (p q t : Bool) (r : Result Line FaultKind) → cond (not p) (Err NotAscii) (cond q (Ok None) (cond t (Err TooManyLines) (r >>= λ c. Ok (Some c)))) ≡ Ok None → q ≡ true
said_none false q t r e = absurd cc
said_none true true t r e = refl
said_none true false true r e = absurd cc
said_none true false false (Ok c) e = absurd cc
said_none true false false (Err k) e = absurd cc

said_some : (p q t : Bool) (r : Result Line FaultKind) (c : Line) → cond (not p) (Err NotAscii) (cond q (Ok None) (cond t (Err TooManyLines) (r >>= λ d. Ok (Some d)))) ≡ Ok (Some c) → (q ≡ false) × (r ≡ Ok c)
said_some false q t r c e = absurd cc
said_some true true t r c e = absurd cc
said_some true false true r c e = absurd cc
said_some true false false (Ok d) c e = (refl, cc)
said_some true false false (Err k) c e = absurd cc

passed : (line : List ℕ) → is_passed_over (words line) ≡ true → said (line ∷ []) ≡ []
passed line e = rw e refl

spoken : (line : List ℕ) → is_passed_over (words line) ≡ false → said (line ∷ []) ≡ words line ∷ []
spoken line e = rw e refl

command_line_none : (passes count : ℕ) (line : List ℕ) → command_line passes count line ≡ Ok None → said (line ∷ []) ≡ []
unfolding command_line
command_line_none passes count line e = passed line (said_none (is_printable line) (is_passed_over (words line)) (leb 65536 count) (command passes (words line)) e)

command_line_some : (passes count : ℕ) (line : List ℕ) (c : Line) → command_line passes count line ≡ Ok (Some c) → (said (line ∷ []) ≡ words line ∷ []) × (command passes (words line) ≡ Ok c)
unfolding command_line
command_line_some passes count line c e =
    let p = said_some (is_printable line) (is_passed_over (words line)) (leb 65536 count) (command passes (words line)) c e in
    (spoken line p.0, p.1)

-- ---- the lines after the heap line

record StandsAfter (heap : Heading) (count : ℕ) (before : List (List ℕ)) (h : List Word) (cs : List (List Word)) : Type 0 where
  said_is : said before ≡ h ∷ cs
  heading_is : heading h ≡ Ok heap
  count_is : length cs ≡ count

fault_command : (heap : Heading) (count : ℕ) (before : List (List ℕ)) (h : List Word) (cs : List (List Word)) (line : List ℕ) (r : Result (Option Line) FaultKind)
    → StandsAfter heap count before h cs → command_line heap.0.passes count line ≡ r → fault_after (said before) line ≡ fault_of r
fault_command heap count before h cs line r b e =
    let s = b.said_is in
    let k = b.heading_is in
    let n = b.count_is in
    rw (s, k, n, e) refl

-- what the lines say, where none has a fault
record Commands (passes : ℕ) (h : List Word) (cs : List (List Word)) (all : List (List ℕ)) (found : List Line) : Type 0 where
  no_fault : NoFaultBefore all (length all)
  more : List (List Word)
  said_is : said all ≡ h ∷ (cs ++ more)
  reads : map (command passes) more ≡ map (λ c. Ok c) found

after_pass : (heap : Heading) (count : ℕ) (before : List (List ℕ)) (h : List Word) (cs : List (List Word)) (line : List ℕ) → StandsAfter heap count before h cs → said (line ∷ []) ≡ [] → StandsAfter heap count (before ++ line ∷ []) h cs
after_pass heap count before h cs line b e = record {
  said_is = said_push before line ∙ ap (λ (x : List (List Word)). said before ++ x) e ∙ append-nil (said before) ∙ b.said_is;
  heading_is = b.heading_is;
  count_is = b.count_is;
}

after_one : (heap : Heading) (count : ℕ) (before : List (List ℕ)) (h : List Word) (cs : List (List Word)) (line : List ℕ) → StandsAfter heap count before h cs → said (line ∷ []) ≡ words line ∷ [] → StandsAfter heap (count + 1) (before ++ line ∷ []) h (cs ++ words line ∷ [])
after_one heap count before h cs line b e = record {
  said_is = said_push before line ∙ ap (λ (x : List (List Word)). said before ++ x) e ∙ ap (λ (x : List (List Word)). x ++ words line ∷ []) b.said_is;
  heading_is = b.heading_is;
  count_is = omega (arith, b.count_is, length-append cs (words line ∷ []));
}

with_command : (passes : ℕ) (h : List Word) (cs : List (List Word)) (all : List (List ℕ)) (w : List Word) (c : Line) (read : Result (List Line) Fault) → command passes w ≡ Ok c
    → MatchResult read (Commands passes h (cs ++ w ∷ []) all) (IsFirstFault all) → MatchResult (read >>= λ x. Ok (c ∷ x)) (Commands passes h cs all) (IsFirstFault all)
with_command passes h cs all w c (Err f) e m = m
with_command passes h cs all w c (Ok found) e m = record {
  no_fault = m.no_fault;
  more = w ∷ m.more;
  said_is = m.said_is ∙ ap (λ (x : List (List Word)). h ∷ x) (append_assoc cs (w ∷ []) m.more);
  reads = let r = m.reads in rw (e, r) refl;
}

-- From here on: what is read of the lines, after those before them.
abbrev First : Heading → List Word → List (List ℕ) → Type 0
First heap h ls = (n count : ℕ) (before : List (List ℕ)) (cs : List (List Word)) → StandsAfter heap count before h cs → NoFaultBefore (before ++ ls) (length before) → n ≡ length before + 1
    → MatchResult (commands_from heap.0.passes n count ls) (Commands heap.0.passes h cs (before ++ ls)) (IsFirstFault (before ++ ls))

step : (heap : Heading) (h : List Word) (line : List ℕ) (after : List (List ℕ)) (go : First heap h after)
    (n count : ℕ) (before : List (List ℕ)) (cs : List (List Word)) → StandsAfter heap count before h cs → NoFaultBefore (before ++ line ∷ after) (length before) → n ≡ length before + 1
    → (r : Result (Option Line) FaultKind) → command_line heap.0.passes count line ≡ r
    → MatchResult (commands_from heap.0.passes n count (line ∷ after)) (Commands heap.0.passes h cs (before ++ line ∷ after)) (IsFirstFault (before ++ line ∷ after))
unfolding each_from
step heap h line after go n count before cs b nf at (Err kind) e =
    let here : fault_at (before ++ line ∷ after) (length before) ≡ Some kind = fault_seam before after line ∙ fault_command heap count before h cs line (Err kind) b e in
    rw e (record { index = length before; within = omega (arith, length-append before (line ∷ after)); counted = at; here = here; earlier = nf })
step heap h line after go n count before cs b nf at (Ok None) e =
    let none = fault_command heap count before h cs line (Ok None) b e in
    let nf2 = no_fault_push before after line nf none in
    let b2 = after_pass heap count before h cs line b (command_line_none heap.0.passes count line e) in
    let rest = go (n + 1) count (before ++ line ∷ []) cs b2 nf2 (omega (arith, at, length-append before (line ∷ []))) in
    rw e (subst (λ (all : List (List ℕ)). MatchResult (commands_from heap.0.passes (n + 1) count after) (Commands heap.0.passes h cs all) (IsFirstFault all)) (append_assoc before (line ∷ []) after) rest)
step heap h line after go n count before cs b nf at (Ok (Some c)) e =
    let none = fault_command heap count before h cs line (Ok (Some c)) b e in
    let nf2 = no_fault_push before after line nf none in
    let p = command_line_some heap.0.passes count line c e in
    let b2 = after_one heap count before h cs line b p.0 in
    let rest = go (n + 1) (count + 1) (before ++ line ∷ []) (cs ++ words line ∷ []) b2 nf2 (omega (arith, at, length-append before (line ∷ []))) in
    let moved = subst (λ (all : List (List ℕ)). MatchResult (commands_from heap.0.passes (n + 1) (count + 1) after) (Commands heap.0.passes h (cs ++ words line ∷ []) all) (IsFirstFault all)) (append_assoc before (line ∷ []) after) rest in
    rw e (with_command heap.0.passes h cs (before ++ line ∷ after) (words line) c (commands_from heap.0.passes (n + 1) (count + 1) after) p.1 moved)

commands_first : (heap : Heading) (h : List Word) (ls : List (List ℕ)) → First heap h ls
unfolding each_from
commands_first heap h [] n count before cs b nf at =
    let e : before ++ [] ≡ before = append-nil before in
    record {
      no_fault = let P : List (List ℕ) → Type 0 = λ all. NoFaultBefore all (length before) in let Q : List (List ℕ) → Type 0 = λ all. NoFaultBefore all (length all) in subst Q (sym e) (subst P e nf);
      more = [];
      said_is = ap said e ∙ b.said_is ∙ ap (λ (x : List (List Word)). h ∷ x) (sym (append-nil cs));
      reads = refl;
    }
commands_first heap h (line ∷ after) n count before cs b nf at =
    step heap h line after (commands_first heap h after) n count before cs b nf at (command_line heap.0.passes count line) refl

-- ---- the lines up to the heap line

heap_said_none : (p q : Bool) (r : Result Heading FaultKind) → cond (not p) (Err NotAscii) (cond q (Ok None) (r >>= λ h. Ok (Some h))) ≡ Ok None → q ≡ true
heap_said_none false q r e = absurd cc
heap_said_none true true r e = refl
heap_said_none true false (Ok c) e = absurd cc
heap_said_none true false (Err k) e = absurd cc

heap_said_some : (p q : Bool) (r : Result Heading FaultKind) (h : Heading) → cond (not p) (Err NotAscii) (cond q (Ok None) (r >>= λ d. Ok (Some d))) ≡ Ok (Some h) → (q ≡ false) × (r ≡ Ok h)
heap_said_some false q r h e = absurd cc
heap_said_some true true r h e = absurd cc
heap_said_some true false (Ok d) h e = (refl, cc)
heap_said_some true false (Err k) h e = absurd cc

heap_line_none : (line : List ℕ) → heap_line line ≡ Ok None → said (line ∷ []) ≡ []
unfolding heap_line
heap_line_none line e = passed line (heap_said_none (is_printable line) (is_passed_over (words line)) (heading (words line)) e)

heap_line_some : (line : List ℕ) (h : Heading) → heap_line line ≡ Ok (Some h) → (said (line ∷ []) ≡ words line ∷ []) × (heading (words line) ≡ Ok h)
unfolding heap_line
heap_line_some line h e =
    let p = heap_said_some (is_printable line) (is_passed_over (words line)) (heading (words line)) h e in
    (spoken line p.0, p.1)

fault_heap : (before : List (List ℕ)) (line : List ℕ) (r : Result (Option Heading) FaultKind) → said before ≡ [] → heap_line line ≡ r → fault_after (said before) line ≡ fault_of r
fault_heap before line r s e = rw (s, e) refl

-- what `script_from` gives, of all lines
abbrev IsRead : List (List ℕ) → Reading → Type 0
IsRead all s = NoFaultBefore all (length all) × Says (said all) s

abbrev Nothing : ℕ → List (List ℕ) → Fault → Type 0
Nothing last all f = NoFaultBefore all (length all) × (said all ≡ []) × (f.0 ≡ last) × (f.1 ≡ NoHeapLine)

abbrev Refused : ℕ → List (List ℕ) → Fault → Type 0
Refused last all f = IsFirstFault all f ⊎ Nothing last all f

with_heading : (last : ℕ) (h : Heading) (w : List Word) (all : List (List ℕ)) (read : Result (List Line) Fault) → heading w ≡ Ok h
    → MatchResult read (Commands h.0.passes w [] all) (IsFirstFault all)
    → MatchResult (read >>= λ cs. Ok (record { layout = h.0; cycles = h.1; lines = cs })) (IsRead all) (Refused last all)
with_heading last h w all (Err f) e m = inl m
with_heading last h w all (Ok found) e m =
    let P : List (List Word) → Type 0 = λ x. Says x (record { layout = h.0; cycles = h.1; lines = found }) in
    (m.no_fault, subst P (sym m.said_is) (e, m.reads))

heap_step : (last : ℕ) (line : List ℕ) (after : List (List ℕ))
    (go : (n : ℕ) (before : List (List ℕ)) → said before ≡ [] → NoFaultBefore (before ++ after) (length before) → n ≡ length before + 1 → MatchResult (script_from last n after) (IsRead (before ++ after)) (Refused last (before ++ after)))
    (n : ℕ) (before : List (List ℕ)) → said before ≡ [] → NoFaultBefore (before ++ line ∷ after) (length before) → n ≡ length before + 1
    → (r : Result (Option Heading) FaultKind) → heap_line line ≡ r
    → MatchResult (script_from last n (line ∷ after)) (IsRead (before ++ line ∷ after)) (Refused last (before ++ line ∷ after))
unfolding script_from
heap_step last line after go n before s nf at (Err kind) e =
    let here : fault_at (before ++ line ∷ after) (length before) ≡ Some kind = fault_seam before after line ∙ fault_heap before line (Err kind) s e in
    rw e (inl (record { index = length before; within = omega (arith, length-append before (line ∷ after)); counted = at; here = here; earlier = nf }))
heap_step last line after go n before s nf at (Ok None) e =
    let nf2 = no_fault_push before after line nf (fault_heap before line (Ok None) s e) in
    let s2 : said (before ++ line ∷ []) ≡ [] = said_push before line ∙ ap (λ (x : List (List Word)). said before ++ x) (heap_line_none line e) ∙ append-nil (said before) ∙ s in
    let rest = go (n + 1) (before ++ line ∷ []) s2 nf2 (omega (arith, at, length-append before (line ∷ []))) in
    rw e (subst (λ (all : List (List ℕ)). MatchResult (script_from last (n + 1) after) (IsRead all) (Refused last all)) (append_assoc before (line ∷ []) after) rest)
heap_step last line after go n before s nf at (Ok (Some h)) e =
    let nf2 = no_fault_push before after line nf (fault_heap before line (Ok (Some h)) s e) in
    let p = heap_line_some line h e in
    let s2 : said (before ++ line ∷ []) ≡ words line ∷ [] = said_push before line ∙ ap (λ (x : List (List Word)). said before ++ x) p.0 ∙ ap (λ (x : List (List Word)). x ++ words line ∷ []) s in
    let b : StandsAfter h 0 (before ++ line ∷ []) (words line) [] = record { said_is = s2; heading_is = p.1; count_is = refl } in
    let rest = commands_first h (words line) after (n + 1) 0 (before ++ line ∷ []) [] b nf2 (omega (arith, at, length-append before (line ∷ []))) in
    let moved = subst (λ (all : List (List ℕ)). MatchResult (commands_from h.0.passes (n + 1) 0 after) (Commands h.0.passes (words line) [] all) (IsFirstFault all)) (append_assoc before (line ∷ []) after) rest in
    rw e (with_heading last h (words line) (before ++ line ∷ after) (commands_from h.0.passes (n + 1) 0 after) p.1 moved)

script_first : (last : ℕ) (ls : List (List ℕ)) (n : ℕ) (before : List (List ℕ)) → said before ≡ [] → NoFaultBefore (before ++ ls) (length before) → n ≡ length before + 1
    → MatchResult (script_from last n ls) (IsRead (before ++ ls)) (Refused last (before ++ ls))
unfolding script_from
script_first last [] n before s nf at =
    let e : before ++ [] ≡ before = append-nil before in
    let P : List (List ℕ) → Type 0 = λ all. NoFaultBefore all (length before) in
    let Q : List (List ℕ) → Type 0 = λ all. NoFaultBefore all (length all) in
    inr (subst Q (sym e) (subst P e nf), ap said e ∙ s, refl, refl)
script_first last (line ∷ after) n before s nf at = heap_step last line after (script_first last after) n before s nf at (heap_line line) refl

-- ---- of bytes

told : (bytes : List ℕ) (read : Result Reading Fault) → MatchResult read (IsRead (lines bytes)) (Refused (1 + count_by (λ b. eqb b 10) bytes) (lines bytes)) → MatchResult read (IsScript bytes) (IsFault bytes)
told bytes (Ok s) m = record { no_fault = m.0; says = m.1 }
told bytes (Err f) (inl m) = inl m
told bytes (Err f) (inr m) = inr (record { no_fault = m.0; nothing = m.1; line = m.2; kind = m.3 })

pub script_decides : (bytes : List ℕ) → MatchResult (script_of bytes) (IsScript bytes) (IsFault bytes)
unfolding script_of
script_decides bytes = told bytes (script_from (1 + count_by (λ b. eqb b 10) bytes) 1 (lines bytes)) (script_first (1 + count_by (λ b. eqb b 10) bytes) (lines bytes) 1 [] refl (λ j lt. absurd (omega arith)) refl)

pub is_found : (bytes : List ℕ) (r : Result Reading ReadScriptFault) → IsAnswer r (script_of bytes) → IfOk r (λ s. IsScript bytes s)
is_found bytes (Ok s) h = let P : Result Reading Fault → Type 0 = λ x. MatchResult x (IsScript bytes) (IsFault bytes) in subst P h (script_decides bytes)
is_found bytes (Err e) h = tt

pub is_fault : (bytes : List ℕ) (r : Result Reading ReadScriptFault) → IsAnswer r (script_of bytes) → IfErr r (λ e. IfScriptFault e (IsFault bytes))
is_fault bytes (Ok s) h = tt
is_fault bytes (Err faults.OutOfMemory) h = tt
is_fault bytes (Err (faults.Script line kind)) h = let P : Result Reading Fault → Type 0 = λ x. MatchResult x (IsScript bytes) (IsFault bytes) in subst P h (script_decides bytes)
