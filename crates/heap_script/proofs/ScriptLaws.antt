-- Laws of scripts and their texts, for the crates above.
use Rattle.std.proofs.Common.{◌≡◌, ℕ, ◌≤◌, Bool, true, false, cond, leb, ltb, None, Some, List, Result, Ok, Err, refl, sym, ap, ◌∙◌, subst}
use Rattle.std.specs.Prelude.{MatchResult, is_none}
use Rattle.std.proofs.lemmas.Bool.{and_parts, or_parts, leb-true, ltb-false}
use Rattle.heap_words.specs.Layouts.{Sizes, IsLayout}
use Rattle.heap_words.specs.LayoutFaults.{is_outside, first_fault}
use Rattle.heap_words.specs.declared.layout.LayoutFault.TheVariants.{Passes, Quota, Pool, Wide}
use Rattle.heap_script.specs.Scripts.{Reading, Fits}
use Rattle.heap_script.specs.Grammar.{Fault, is_within, script_of}
use Rattle.heap_script.specs.FirstFault.{IsScript, IsFault}
use Rattle.heap_script.specs.Text.{text_of}
use Rattle.heap_script.proofs.First.{script_decides}
use Rattle.heap_script.proofs.Unique.{is_read, is_refused}
use Rattle.heap_script.proofs.RoundTrip.{script_again, within_yes}

-- ---- what is read

-- what the bytes are read as is the script that their lines say
pub script_of-IsScript : (bytes : List ℕ) (s : Reading) → script_of bytes ≡ Ok s → IsScript bytes s
script_of-IsScript bytes s e = let P : Result Reading Fault → Type 0 = λ r. MatchResult r (IsScript bytes) (IsFault bytes) in subst P e (script_decides bytes)

-- what the bytes are refused with is their first fault
pub script_of-IsFault : (bytes : List ℕ) (f : Fault) → script_of bytes ≡ Err f → IsFault bytes f
script_of-IsFault bytes f e = let P : Result Reading Fault → Type 0 = λ r. MatchResult r (IsScript bytes) (IsFault bytes) in subst P e (script_decides bytes)

-- a script that the lines say is read
pub IsScript-script_of : (bytes : List ℕ) (s : Reading) → IsScript bytes s → script_of bytes ≡ Ok s
IsScript-script_of bytes s h = is_read bytes s h

-- a fault is what the bytes are refused with
pub IsFault-script_of : (bytes : List ℕ) (f : Fault) → IsFault bytes f → script_of bytes ≡ Err f
IsFault-script_of bytes f h = is_refused bytes f h

-- ---- the round trip

-- the text of a script is read as that script
pub script_of-text_of : (s : Reading) → Fits s → script_of (text_of s) ≡ Ok s
script_of-text_of s fits = script_again s fits

one_reading : (r : Result Reading Fault) (s t : Reading) → r ≡ Ok s → r ≡ Ok t → s ≡ t
one_reading r s t e f = cc

-- two scripts with one text are one script
pub text_of-injective : (s t : Reading) → Fits s → Fits t → text_of s ≡ text_of t → s ≡ t
text_of-injective s t h k e = one_reading (script_of (text_of s)) s t (script_again s h) (ap script_of e ∙ script_again t k)

ok_or_err : (r : Result Reading Fault) (s : Reading) (f : Fault) → r ≡ Ok s → r ≡ Err f → ⊥
ok_or_err r s f e g = cc

-- bytes with a fault are the text of no script
pub fault-text_of : (bytes : List ℕ) (f : Fault) (s : Reading) → script_of bytes ≡ Err f → Fits s → text_of s ≡ bytes → ⊥
fault-text_of bytes f s e h same = ok_or_err (script_of bytes) s f (ap script_of (sym same) ∙ script_again s h) e

-- bytes that are read as a script and are not its text are the text of no script
pub other-text_of : (bytes : List ℕ) (s t : Reading) → script_of bytes ≡ Ok s → Fits t → text_of t ≡ bytes → text_of s ≡ bytes
other-text_of bytes s t e k same = ap text_of (one_reading (script_of bytes) s t e (ap script_of (sym same) ∙ script_again t k)) ∙ same

-- ---- the limits of the heap line

no_fault : (a b c d : Bool) → is_none (cond a (Some Passes) (cond b (Some Quota) (cond c (Some Pool) (cond d (Some Wide) None)))) ≡ true → (a ≡ false) × (b ≡ false) × (c ≡ false) × (d ≡ false)
no_fault true b c d e = absurd cc
no_fault false true c d e = absurd cc
no_fault false false true d e = absurd cc
no_fault false false false true e = absurd cc
no_fault false false false false e = (refl, refl, refl, refl)

in_range : (low high n : ℕ) → is_outside low high n ≡ false → (low ≤ n) × (n ≤ high)
in_range low high n e =
    let p = or_parts (ltb n low) (ltb high n) e in
    (ltb-false _ _ p.0, ltb-false _ _ p.1)

-- what is within the limits is a layout, with at most 64 cycles
pub is_within-IsLayout : (l : Sizes) (cycles : ℕ) → is_within l cycles ≡ true → IsLayout l × (cycles ≤ 64)
is_within-IsLayout l cycles e =
    let h = and_parts (is_none (first_fault l)) (leb cycles 64) e in
    let n = no_fault (is_outside 1 8 l.passes) (is_outside 1 256 l.quota) (is_outside 1 512 l.pool) (is_outside 0 65536 l.wide) h.0 in (
      record {
        passes = in_range 1 8 l.passes n.0;
        quota = in_range 1 256 l.quota n.1;
        pool = in_range 1 512 l.pool n.2;
        wide = (in_range 0 65536 l.wide n.3).1;
      },
      leb-true _ _ h.1,
    )

pub IsLayout-is_within : (l : Sizes) (cycles : ℕ) → IsLayout l → cycles ≤ 64 → is_within l cycles ≡ true
IsLayout-is_within l cycles h few = within_yes l cycles h few
