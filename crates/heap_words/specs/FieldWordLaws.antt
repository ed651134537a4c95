-- What packs unpacks, and no two field words share a word.
use Rattle.std.proofs.Common.{◌≡◌, ℕ, ◌+◌, ◌*◌, ◌/◌, ◌%◌, ◌^◌, ◌<◌, Some, refl, ap, sym, ◌∙◌, arith, IfSome}
use Rattle.std.proofs.lemmas.Bool.Decides.{nat_tests}
use Rattle.heap_words.specs.declared.field_word.FieldWord.{FieldWord}
use Rattle.heap_words.specs.declared.field_word.FieldWord.TheVariants.{Num, Link}
use Rattle.heap_words.specs.FieldWords.{IsFieldWord, word_of, field_of, field_at}

-- a packed word has bits 62 and 63 clear
pub word_of-below : (w : FieldWord) → IsFieldWord w → word_of w < 2 ^ 62
unfolding word_of
word_of-below (Num n) h = omega arith
word_of-below (Link birth at) h = omega arith

-- what packs unpacks
pub field_of-word_of : (w : FieldWord) → IsFieldWord w → field_of (word_of w) ≡ Some w
unfolding word_of field_of
field_of-word_of (Num n) h =
    let bit : n / 2 ^ 61 % 2 ≡ 0 = omega arith in
    let above : n / 2 ^ 48 % 2 ^ 13 ≡ 0 = omega arith in
    let number : n % 2 ^ 48 ≡ n = omega arith in
    rw (bit, above, number) refl
field_of-word_of (Link birth at) h =
    let word : ℕ = 2 ^ 61 + 2 ^ 20 * birth + at in
    let bit : (2 ^ 61 + 2 ^ 20 * birth + at) / 2 ^ 61 % 2 ≡ 1 = omega arith in
    let above : (2 ^ 61 + 2 ^ 20 * birth + at) / 2 ^ 44 % 2 ^ 17 ≡ 0 = omega arith in
    let born : (2 ^ 61 + 2 ^ 20 * birth + at) / 2 ^ 20 % 2 ^ 24 ≡ birth = omega arith in
    let place : (2 ^ 61 + 2 ^ 20 * birth + at) % 2 ^ 20 ≡ at = omega arith in
    rw (bit, above, born, place) refl

pub field_at-word_of : (w : FieldWord) → IsFieldWord w → field_at (word_of w) ≡ w
unfolding field_at
field_at-word_of w h = rw (field_of-word_of w h) refl

-- two field words with one word are one
pub word_of-injective : (v w : FieldWord) → IsFieldWord v → IsFieldWord w → word_of v ≡ word_of w → v ≡ w
word_of-injective v w hv hw e =
    sym (field_at-word_of v hv) ∙ (ap field_at e ∙ field_at-word_of w hw)

-- what unpacks fits
pub field_of-fits : (word : ℕ) → IfSome (field_of word) IsFieldWord
unfolding field_of
field_of-fits word = grind (arith, nat_tests)

-- a word without bits 62 and 63 is the packed word of what it holds
pub word_of-field_of : (word : ℕ) → word < 2 ^ 62 → IfSome (field_of word) (λ w. word_of w ≡ word)
unfolding field_of word_of
word_of-field_of word h = grind (arith, nat_tests)

-- bits 62 and 63 are not looked at
pub field_of-low : (word high : ℕ) → field_of (word + 2 ^ 62 * high) ≡ field_of word
unfolding field_of
field_of-low word high =
    let bit : (word + 2 ^ 62 * high) / 2 ^ 61 % 2 ≡ word / 2 ^ 61 % 2 = omega arith in
    let above_num : (word + 2 ^ 62 * high) / 2 ^ 48 % 2 ^ 13 ≡ word / 2 ^ 48 % 2 ^ 13 = omega arith in
    let above_link : (word + 2 ^ 62 * high) / 2 ^ 44 % 2 ^ 17 ≡ word / 2 ^ 44 % 2 ^ 17 = omega arith in
    let number : (word + 2 ^ 62 * high) % 2 ^ 48 ≡ word % 2 ^ 48 = omega arith in
    let birth : (word + 2 ^ 62 * high) / 2 ^ 20 % 2 ^ 24 ≡ word / 2 ^ 20 % 2 ^ 24 = omega arith in
    let place : (word + 2 ^ 62 * high) % 2 ^ 20 ≡ word % 2 ^ 20 = omega arith in
    rw (bit, above_num, above_link, number, birth, place) refl
