-- Numbers of 1 to 20 digits.
use Rattle.std.proofs.Common.{◌≡◌, ℕ, ◌+◌, ◌*◌, ◌-◌, ◌^◌, ◌<◌, true, List, [], ◌∷◌, Some, refl, ap, ◌∙◌, rules}
use Rattle.std.specs.Prelude.{decimal}
use Rattle.std.specs.Str.{all_ascii_digits}
use Rattle.std.specs.Char.{is_ascii_digit}
use Rattle.std.specs.Int.{IsInRange}
use Rattle.std.proofs.lemmas.Bool.{and_parts}
use Rattle.std.proofs.lemmas.Fmt.{digits_decimal, digits_value-decimal}
use Rattle.std.proofs.lemmas.Str.Parse.{IsNumeralModel, numerals_by_fold}
use Rattle.heap_script.specs.Words.{digits_from}

abbrev read_on : ℕ → List ℕ → ℕ
read_on n [] = n
read_on n (c ∷ cs) = read_on (n * 10 + (c - 48)) cs

pub own : IsNumeralModel (λ ds. all_ascii_digits ds ≡ true) (read_on 0)
own = numerals_by_fold _ (search rules) read_on (search rules)

pub digit_range : (b : ℕ) → is_ascii_digit b ≡ true → IsInRange 48 57 b
digit_range b e = search rules

reads_on : (n : ℕ) (ds : List ℕ) → all_ascii_digits ds ≡ true → digits_from n ds ≡ Some (read_on n ds)
reads_on n [] e = refl
reads_on n (b ∷ bs) e =
    let p = and_parts (is_ascii_digit b) (all_ascii_digits bs) e in
    let d = p.0 in
    rw d (reads_on (n * 10 + (b - 48)) bs p.1)

pub digits_again : (n : ℕ) → n < 2 ^ 64 → digits_from 0 (decimal n) ≡ Some n
digits_again n h = reads_on 0 (decimal n) (digits_decimal own n h) ∙ ap (λ (x : ℕ). Some x) (digits_value-decimal own n h)
