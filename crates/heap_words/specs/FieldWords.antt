-- Field words: a number or a link in one word.
use Rattle.std.specs.Prelude.{◌≡◌, ◌≢◌, ℕ, ◌+◌, ◌*◌, ◌/◌, ◌%◌, ◌^◌, ◌<◌, ◌⊎◌, Option, Some, None, unwrap_or, if◌then◌else◌, Bool, false, ◌==◌}
use Rattle.heap_words.specs.declared.limits.TheConstants.{NUMBER_LIMIT, BIRTH_LIMIT, ADDRESS_LIMIT}
use Rattle.heap_words.specs.declared.field_word.FieldWord.{FieldWord}
use Rattle.heap_words.specs.declared.field_word.FieldWord.TheVariants.{Num, Link}

-- the numbers and links that a word has room for
abbrev pub IsFieldWord : FieldWord → Type 0
IsFieldWord (Num n) = n < NUMBER_LIMIT
IsFieldWord (Link birth at) = (birth < BIRTH_LIMIT) × (at < ADDRESS_LIMIT)

-- a number stands in bits 0 to 47; a link has bit 61 set, its birth number in bits 20 to 43 and its address in bits 0 to 19
unfoldable pub word_of : FieldWord → ℕ
word_of (Num n) = n
word_of (Link birth at) = 2 ^ 61 + 2 ^ 20 * birth + at

-- bit 61, which tells a link from a number
abbrev pub link_bit : ℕ → ℕ
link_bit word = word / 2 ^ 61 % 2

-- bits 44 to 60, which a link leaves clear
abbrev pub bits_above_link : ℕ → ℕ
bits_above_link word = word / 2 ^ 44 % 2 ^ 17

-- bits 48 to 60, which a number leaves clear
abbrev pub bits_above_num : ℕ → ℕ
bits_above_num word = word / 2 ^ 48 % 2 ^ 13

-- what bits 0 to 61 hold, if they hold a number or a link
unfoldable pub field_of : ℕ → Option FieldWord
field_of word =
    if link_bit word == 0
    then (if bits_above_num word == 0 then Some (Num (word % 2 ^ 48)) else None)
    else (if bits_above_link word == 0 then Some (Link (word / 2 ^ 20 % 2 ^ 24) (word % 2 ^ 20)) else None)

-- the same as a value alone, for proofs about words that are known to hold one: the number 0 where they hold none
unfoldable pub field_at : ℕ → FieldWord
field_at word = unwrap_or (field_of word) (Num 0)

-- no number and no link: bit 61 is set and one of bits 44 to 60 is, or bit 61 is clear and one of bits 48 to 60 is set
abbrev pub HoldsNoField : ℕ → Type 0
HoldsNoField word =
    ((link_bit word ≡ 1) × (bits_above_link word ≢ 0)) ⊎ ((link_bit word ≡ 0) × (bits_above_num word ≢ 0))

-- one value: two equal numbers, or two links to one object, wherever each says that it stands
abbrev pub is_same_value : FieldWord → FieldWord → Bool
is_same_value (Num m) (Num n) = m == n
is_same_value (Link birth at) (Link other there) = birth == other
is_same_value (Num m) (Link birth at) = false
is_same_value (Link birth at) (Num n) = false
