-- Words, lines and numbers that are printed are read again.
use Rattle.std.proofs.Common.{◌≡◌, ℕ, zero, suc, ◌+◌, ◌-◌, ◌^◌, ◌<◌, ◌≤◌, Bool, true, false, ◌&&◌, ltb, leb, eqb, List, [], ◌∷◌, ◌++◌, length, get_or, All, Some, Ok, refl, ap, ◌∙◌, arith}
use Rattle.std.specs.Prelude.{decimal}
use Rattle.std.specs.List.{AllByRecursion, filter, list_all, slice_split}
use Rattle.std.specs.Str.{all_ascii_digits}
use Rattle.std.specs.Str.Lines.{lines, lines_of_parts, strip_carriage_return}
use Rattle.std.specs.Char.{is_ascii_digit}
use Rattle.std.proofs.lemmas.Bool.{and_parts, and_from, lt-ltb, le-leb, ne_eqb, leb-true}
use Rattle.std.proofs.lemmas.Fmt.{digits_decimal, length-decimal-le, decimal_nonempty}
use Rattle.std.proofs.lemmas.List.{append-nil}
use Rattle.std.proofs.lemmas.List.Elements.{All-cons, All-nil}
use Rattle.std.proofs.lemmas.List.Folds.{list_all-append}
use Rattle.std.proofs.lemmas.List.Splits.{slice_split_none, slice_split_at, length-slice_split}
use Rattle.heap_script.specs.declared.fault.FaultKind.{FaultKind}
use Rattle.heap_script.specs.Words.{Word, words, number_of}
use Rattle.heap_script.specs.Grammar.{number_in, register}
use Rattle.heap_script.specs.Text.{letter, spaced}
use Rattle.heap_script.proofs.Pieces.{at}
use Rattle.heap_script.proofs.Numbers.{own, digit_range, digits_again}

-- ---- words

abbrev pub is_graphic : ℕ → Bool
is_graphic b = leb 33 b && leb b 126

-- what a printed word is
pub record IsWord (w : Word) : Type 0 where
  pub some : 0 < length w
  pub graphic : list_all is_graphic w ≡ true

-- a byte outside 33 to 126 isn't in a word
graphic_other : (c b : ℕ) → c < 33 → is_graphic b ≡ true → eqb b c ≡ false
graphic_other c b h g = ne_eqb b c (λ e. let p : 33 ≤ b = leb-true 33 b (and_parts (leb 33 b) (leb b 126) g).0 in absurd (omega (arith, e, p)))

pub not_in : (c : ℕ) (w : List ℕ) → c < 33 → list_all is_graphic w ≡ true → All (λ x. at c x ≡ false) w
not_in c [] h g = All-nil (λ x. at c x ≡ false)
not_in c (b ∷ bs) h g =
    let p = and_parts (is_graphic b) (list_all is_graphic bs) g in
    All-cons (λ x. at c x ≡ false) b bs (graphic_other c b h p.0) (not_in c bs h p.1)

kept : (w : Word) (parts : List Word) → 0 < length w → filter (λ v. ltb 0 (length v)) (w ∷ parts) ≡ w ∷ filter (λ v. ltb 0 (length v)) parts
kept w parts h = let e : ltb 0 (length w) ≡ true = lt-ltb _ _ h in rw e refl

pub words_word : (w rest : List ℕ) → IsWord w → words (w ++ 32 ∷ rest) ≡ w ∷ words rest
words_word w rest h = ap (filter (λ v. ltb 0 (length v))) (slice_split_at (at 32) w 32 rest (not_in 32 w (omega arith) h.graphic) refl) ∙ kept w (slice_split (at 32) rest) h.some

pub words_only : (w : List ℕ) → IsWord w → words w ≡ w ∷ []
words_only w h = ap (filter (λ v. ltb 0 (length v))) (slice_split_none (at 32) w (not_in 32 w (omega arith) h.graphic)) ∙ kept w [] h.some

pub words_spaced : (w : Word) (ws : List Word) → IsWord w → AllByRecursion IsWord ws → words (spaced (w ∷ ws)) ≡ w ∷ ws
words_spaced w [] h hs = ap words (append-nil w) ∙ words_only w h
words_spaced w (v ∷ ws) h hs = words_word w (spaced (v ∷ ws)) h ∙ ap (λ (x : List Word). w ∷ x) (words_spaced v ws hs.0 hs.1)

-- ---- lines

abbrev is_plain : ℕ → Bool
is_plain b = leb 32 b && leb b 126

graphic_plain : (b : ℕ) → is_graphic b ≡ true → is_plain b ≡ true
graphic_plain b g =
    let p = and_parts (leb 33 b) (leb b 126) g in
    let q : 33 ≤ b = leb-true 33 b p.0 in
    and_from (leb 32 b) (leb b 126) (le-leb 32 b (omega arith)) p.1

word_plain : (w : Word) → list_all is_graphic w ≡ true → list_all is_plain w ≡ true
word_plain [] g = refl
word_plain (b ∷ bs) g =
    let p = and_parts (is_graphic b) (list_all is_graphic bs) g in
    and_from (is_plain b) (list_all is_plain bs) (graphic_plain b p.0) (word_plain bs p.1)

pub spaced_plain : (w : Word) (ws : List Word) → IsWord w → AllByRecursion IsWord ws → list_all is_plain (spaced (w ∷ ws)) ≡ true
spaced_plain w [] h hs = ap (list_all is_plain) (append-nil w) ∙ word_plain w h.graphic
spaced_plain w (v ∷ ws) h hs = list_all-append is_plain w (32 ∷ spaced (v ∷ ws)) ∙ and_from (list_all is_plain w) (list_all is_plain (32 ∷ spaced (v ∷ ws))) (word_plain w h.graphic) (spaced_plain v ws hs.0 hs.1)

plain_other : (c b : ℕ) → c < 32 → is_plain b ≡ true → eqb b c ≡ false
plain_other c b h g = ne_eqb b c (λ e. let p : 32 ≤ b = leb-true 32 b (and_parts (leb 32 b) (leb b 126) g).0 in absurd (omega (arith, e, p)))

plain_not_in : (c : ℕ) (w : List ℕ) → c < 32 → list_all is_plain w ≡ true → All (λ x. at c x ≡ false) w
plain_not_in c [] h g = All-nil (λ x. at c x ≡ false)
plain_not_in c (b ∷ bs) h g =
    let p = and_parts (is_plain b) (list_all is_plain bs) g in
    All-cons (λ x. at c x ≡ false) b bs (plain_other c b h p.0) (plain_not_in c bs h p.1)

-- a printable byte, or 0 after the end, is no CR
plain_at : (line : List ℕ) (i : ℕ) → list_all is_plain line ≡ true → eqb (get_or line i 0) 13 ≡ false
plain_at [] i g = refl
plain_at (b ∷ bs) zero g = plain_other 13 b (omega arith) (and_parts (is_plain b) (list_all is_plain bs) g).0
plain_at (b ∷ bs) (suc i) g = plain_at bs i (and_parts (is_plain b) (list_all is_plain bs) g).1

no_return : (line : List ℕ) → list_all is_plain line ≡ true → strip_carriage_return line ≡ line
no_return line g = let e = plain_at line (length line - 1) g in rw e refl

more_parts : (x : List ℕ) (parts : List (List ℕ)) → 0 < length parts → lines_of_parts (x ∷ parts) ≡ strip_carriage_return x ∷ lines_of_parts parts
more_parts x [] h = absurd (omega arith)
more_parts x (y ∷ more) h = refl

pub lines_line : (line rest : List ℕ) → list_all is_plain line ≡ true → lines (line ++ 10 ∷ rest) ≡ line ∷ lines rest
lines_line line rest g =
    ap lines_of_parts (slice_split_at (at 10) line 10 rest (plain_not_in 10 line (omega arith) g) refl)
    ∙ more_parts line (slice_split (at 10) rest) (omega (arith, length-slice_split (at 10) rest))
    ∙ ap (λ (x : List ℕ). x ∷ lines rest) (no_return line g)

-- ---- numbers and letters

digit_graphic : (b : ℕ) → is_ascii_digit b ≡ true → is_graphic b ≡ true
digit_graphic b d =
    let r = digit_range b d in
    and_from (leb 33 b) (leb b 126) (le-leb 33 b (omega (arith, r))) (le-leb b 126 (omega (arith, r)))

digits_graphic : (ds : List ℕ) → all_ascii_digits ds ≡ true → list_all is_graphic ds ≡ true
digits_graphic [] g = refl
digits_graphic (b ∷ bs) g =
    let p = and_parts (is_ascii_digit b) (all_ascii_digits bs) g in
    and_from (is_graphic b) (list_all is_graphic bs) (digit_graphic b p.0) (digits_graphic bs p.1)

pub decimal_word : (n : ℕ) → n < 2 ^ 64 → IsWord (decimal n)
decimal_word n h = record { some = decimal_nonempty n h; graphic = digits_graphic (decimal n) (digits_decimal own n h) }

pub number_again : (n : ℕ) → n < 2 ^ 64 → number_of (decimal n) ≡ Some n
number_again n h =
    let some : ltb 0 (length (decimal n)) ≡ true = lt-ltb _ _ (decimal_nonempty n h) in
    let short : leb (length (decimal n)) 20 ≡ true = le-leb _ _ (length-decimal-le 20 n (omega arith) (omega arith) h) in
    rw (some, short) (digits_again n h)

pub number_in_again : (low high n : ℕ) (fault : FaultKind) → low ≤ n → n ≤ high → n < 2 ^ 64 → number_in low high fault (decimal n) ≡ Ok n
unfolding number_in
number_in_again low high n fault l h wide =
    let a : leb low n ≡ true = le-leb _ _ l in
    let b : leb n high ≡ true = le-leb _ _ h in
    rw (number_again n wide, a, b) refl

first_of_digits : (ds : List ℕ) → 0 < length ds → all_ascii_digits ds ≡ true → is_ascii_digit (get_or ds 0 0) ≡ true
first_of_digits [] h g = absurd (omega arith)
first_of_digits (b ∷ bs) h g = (and_parts (is_ascii_digit b) (all_ascii_digits bs) g).0

pub first_digit : (n : ℕ) → n < 2 ^ 64 → is_ascii_digit (get_or (decimal n) 0 0) ≡ true
first_digit n h = first_of_digits (decimal n) (decimal_nonempty n h) (digits_decimal own n h)

pub register_again : (r : ℕ) → r < 8 → register (letter r) ≡ Ok r
unfolding register
register_again r h =
    let a : leb 97 (97 + r) ≡ true = le-leb _ _ (omega arith) in
    let b : leb (97 + r) 104 ≡ true = le-leb _ _ (omega arith) in
    let e : 97 + r - 97 ≡ r = omega arith in
    rw (a, b, e) refl
