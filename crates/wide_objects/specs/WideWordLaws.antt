-- What packs unpacks, and no two wide words share a word.
use Rattle.std.proofs.Common.{◌≡◌, ℕ, ◌+◌, ◌*◌, ◌/◌, ◌%◌, ◌^◌, ◌<◌, ◌↔◌, Some, None, is_some, IsSome, true, IsNone, IfSome, Option, unwrap_or, add_comm, refl, ap, sym, ◌∙◌, arith}
use Rattle.std.proofs.lemmas.Bool.Decides.{nat_tests}
use Rattle.heap_words.specs.declared.field_word.FieldWord.{FieldWord}
use Rattle.heap_words.specs.declared.field_word.FieldWord.TheVariants.{Num}
use Rattle.heap_words.specs.FieldWords.{IsFieldWord, word_of, field_of, field_at, HoldsNoField}
use Rattle.heap_words.specs.FieldWordLaws.{field_of-word_of, word_of-below, field_of-fits, word_of-field_of, field_of-low}
use Rattle.wide_objects.specs.declared.wide_word.Status2.{Status2}
use Rattle.wide_objects.specs.declared.wide_word.Status2.TheVariants.{InOriginal, InWide, InCopy}
use Rattle.wide_objects.specs.declared.wide_word.WideWord.{WideWord}
use Rattle.wide_objects.specs.WideWords.{IsPackedField, FitsStatus, IsWideWord, code_of, word_of_wide, status_bits, wide_word_of, wide_word_at}

-- what a field packs into is the packed word of a field
pub packed-word_of : (w : FieldWord) → IsFieldWord w → IsPackedField (word_of w)
packed-word_of w h = (word_of-below w h, rw (field_of-word_of w h) refl)

some_word : (field : Option FieldWord) (word : ℕ) → IfSome field (λ w. word_of w ≡ word) → IsSome field → word_of (unwrap_or field (Num 0)) ≡ word
some_word (Some w) word e there = e
some_word None word e there = cc

some_fits : (field : Option FieldWord) → IfSome field IsFieldWord → IsSome field → IsFieldWord (unwrap_or field (Num 0))
some_fits (Some w) fits there = fits
some_fits None fits there = cc

-- and such a word is that of the field which it holds
pub word_of-field_at : (word : ℕ) → IsPackedField word → word_of (field_at word) ≡ word
unfolding field_at
word_of-field_at word h = some_word (field_of word) word (word_of-field_of word h.0) h.1

-- which fits
pub field_at-fits : (word : ℕ) → IsPackedField word → IsFieldWord (field_at word)
unfolding field_at
field_at-fits word h = some_fits (field_of word) (field_of-fits word) h.1

-- the two parts of a packed word
status_is : (code low : ℕ) → code < 4 → low < 2 ^ 62 → status_bits (2 ^ 62 * code + low) ≡ code
status_is code low c l = omega arith

low_is : (code low : ℕ) → low < 2 ^ 62 → (2 ^ 62 * code + low) % 2 ^ 62 ≡ low
low_is code low l = omega arith

field_is : (code low : ℕ) → field_of (2 ^ 62 * code + low) ≡ field_of low
field_is code low = ap field_of (add_comm (2 ^ 62 * code) low) ∙ field_of-low low code

below : (s : Status2) (low : ℕ) → FitsStatus s low → 2 ^ 62 * code_of s + low < 3 * 2 ^ 62
below InOriginal low h = omega arith
below InWide low h = omega arith
below InCopy low h = omega arith

-- a packed word is below 2^64
pub word_of_wide-below : (w : WideWord) → IsWideWord w → word_of_wide w < 3 * 2 ^ 62
unfolding word_of_wide
word_of_wide-below w h = below w.status w.word h

again : (s : Status2) (low : ℕ) → FitsStatus s low → wide_word_of (2 ^ 62 * code_of s + low) ≡ Some (record { status = s; word = low })
unfolding wide_word_of
again InOriginal low h = rw h refl
again InWide low h = rw (status_is 1 low (omega arith) h.0, low_is 1 low h.0, field_is 1 low, h.1) (grind (arith, nat_tests))
again InCopy low h = rw (status_is 2 low (omega arith) h.0, low_is 2 low h.0, field_is 2 low, h.1) (grind (arith, nat_tests))

-- what packs unpacks
pub wide_word_of-word_of_wide : (w : WideWord) → IsWideWord w → wide_word_of (word_of_wide w) ≡ Some w
unfolding word_of_wide wide_word_of
wide_word_of-word_of_wide w h = again w.status w.word h

pub wide_word_at-word_of_wide : (w : WideWord) → IsWideWord w → wide_word_at (word_of_wide w) ≡ w
unfolding wide_word_at
wide_word_at-word_of_wide w h = rw (wide_word_of-word_of_wide w h) refl

field_of-none : (word : ℕ) → IsNone (field_of word) ↔ HoldsNoField word
unfolding field_of
field_of-none word = grind (arith, nat_tests)

field_of-low_bits : (word : ℕ) → field_of (word % 2 ^ 62) ≡ field_of word
field_of-low_bits word =
    let parts : word % 2 ^ 62 + 2 ^ 62 * (word / 2 ^ 62) ≡ word = omega arith in
    sym (field_of-low (word % 2 ^ 62) (word / 2 ^ 62)) ∙ ap field_of parts

-- bits 0 to 61 of a word that holds a field are the packed word of one
pub packed-low_bits : (word : ℕ) → is_some (field_of word) ≡ true → IsPackedField (word % 2 ^ 62)
packed-low_bits word there = (omega arith, ap is_some (field_of-low_bits word) ∙ there)
