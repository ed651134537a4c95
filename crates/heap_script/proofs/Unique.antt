-- What is a script is read as it, and what has a fault is refused with it.
use Rattle.std.specs.Prelude.{MatchResult}
use Rattle.std.proofs.Common.{◌≡◌, ℕ, List, Result, Ok, Err}
use Rattle.heap_script.specs.Scripts.{Reading}
use Rattle.heap_script.specs.Grammar.{Fault, script_of}
use Rattle.heap_script.specs.FirstFault.{IsFault, IsScript}
use Rattle.heap_script.specs.UniqueLaws.{one_script, script_or_fault, one_fault}
use Rattle.heap_script.proofs.First.{script_decides}

must_read : (bytes : List ℕ) (s : Reading) (r : Result Reading Fault) → MatchResult r (IsScript bytes) (IsFault bytes) → IsScript bytes s → r ≡ Ok s
must_read bytes s (Ok t) m h = let e = one_script bytes t s m h in cc
must_read bytes s (Err f) m h = absurd (script_or_fault bytes s f h m)

must_fail : (bytes : List ℕ) (f : Fault) (r : Result Reading Fault) → MatchResult r (IsScript bytes) (IsFault bytes) → IsFault bytes f → r ≡ Err f
must_fail bytes f (Ok t) m h = absurd (script_or_fault bytes t f m h)
must_fail bytes f (Err g) m h = let e = one_fault bytes g f m h in cc

pub is_read : (bytes : List ℕ) (s : Reading) → IsScript bytes s → script_of bytes ≡ Ok s
is_read bytes s h = must_read bytes s (script_of bytes) (script_decides bytes) h

pub is_refused : (bytes : List ℕ) (f : Fault) → IsFault bytes f → script_of bytes ≡ Err f
is_refused bytes f h = must_fail bytes f (script_of bytes) (script_decides bytes) h
