-- What a source gave and a sink took, where they tell it, and their counts of faults.
use Rattle.std.specs.Prelude.{◌≡◌, ℕ, ◌+◌, ◌-◌, ◌^◌, ◌≤◌, min, List, [], ◌++◌, length, take, ⊤, Option, Some, None, slice_get}
use Rattle.std.specs.declared.env.FillError.{FillError}
use Rattle.std.specs.declared.env.FillError.TheVariants.{NotPresent, TooLong}
use Rattle.std.specs.Prelude.{Result, Ok, Err}
use Rattle.std.specs.Io.KnownBytes.{Appends}

-- one more, up to the last number of 64 bits
abbrev pub one_more : ℕ → ℕ
one_more n = min (n + 1) (2 ^ 64 - 1)

-- a count of faults rose by one, or stays at its last value
abbrev pub Rose : ℕ → ℕ → Type 0
Rose old new = new ≡ one_more old

-- the source told these bytes, and has none left now
abbrev pub ReadsAll : Option (List ℕ) → Option (List ℕ) → List ℕ → Type 0
ReadsAll None new bytes = ⊤
ReadsAll (Some told) new bytes = (told ≡ bytes) × (new ≡ Some [])

-- P of the bytes that the source gave: what it told before is these, and then what it tells now
abbrev pub Gave : Option (List ℕ) → Option (List ℕ) → (List ℕ → Type 0) → Type 0
Gave None new P = ⊤
Gave (Some told) None P = ⊥
Gave (Some told) (Some left) P = (given : List ℕ) × (told ≡ given ++ left) × P given

-- the sink took a text up to this rest of it
abbrev pub AppendsUpTo : Option (List ℕ) → Option (List ℕ) → List ℕ → List ℕ → Type 0
AppendsUpTo old new text rest = (taken : List ℕ) × (taken ++ rest ≡ text) × Appends old new taken

-- the sink took the first bytes of a text, and perhaps not all of it
abbrev pub AppendsPrefix : Option (List ℕ) → Option (List ℕ) → List ℕ → Type 0
AppendsPrefix old new text = (rest : List ℕ) × AppendsUpTo old new text rest

-- What a call for the word of a place has put into a buffer: that word, nothing past the last word, or nothing where it is too long.
abbrev pub IsWord : List (List ℕ) → ℕ → Result ℕ FillError → List ℕ → Type 0
IsWord words place (Ok count) buffer = slice_get words place ≡ Some (take count buffer)
IsWord words place (Err NotPresent) buffer = length words ≤ place
IsWord words place (Err TooLong) buffer = ⊤
