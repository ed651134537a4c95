-- Lines as words, and words as numbers.
use Rattle.std.specs.Prelude.{◌+◌, ◌*◌, ◌-◌, ℕ, List, [], ◌∷◌, length, Bool, true, ◌&&◌, nat_lt, nat_le, ◌==◌, Option, Some, None, if◌then◌else◌, slice_index}
use Rattle.std.specs.Char.{is_ascii_digit}
use Rattle.std.specs.List.{filter, slice_split, list_all}

-- a word is its bytes
abbrev pub Word : Type 0
Word = List ℕ

-- what stands between spaces, without the empty pieces
abbrev pub words : List ℕ → List Word
words line = filter (λ w. nat_lt 0 (length w)) (slice_split (λ b. b == 32) line)

-- each byte is one of 32 to 126
abbrev pub is_printable : List ℕ → Bool
is_printable line = list_all (λ b. nat_le 32 b && nat_le b 126) line

-- a line without words, or whose first word begins with `;`
abbrev pub is_passed_over : List Word → Bool
is_passed_over [] = true
is_passed_over (w ∷ ws) = slice_index w 0 == 59

-- the number that the digits make after those of a number so far
abbrev pub digits_from : ℕ → List ℕ → Option ℕ
digits_from so_far [] = Some so_far
digits_from so_far (b ∷ bs) = if is_ascii_digit b then digits_from (so_far * 10 + (b - 48)) bs else None

-- a number has 1 to 20 digits, and may begin with zeros
abbrev pub number_of : Word → Option ℕ
number_of w = if nat_lt 0 (length w) && nat_le (length w) 20 then digits_from 0 w else None
