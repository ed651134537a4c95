-- Wide words: the value of a field and its status in one word.
use Rattle.std.specs.Prelude.{◌≡◌, ◌≢◌, ℕ, ◌+◌, ◌*◌, ◌/◌, ◌%◌, ◌^◌, ◌<◌, ◌⊎◌, ◌==◌, Option, Some, None, is_some, IsSome, unwrap_or, if◌then◌else◌}
use Rattle.heap_words.specs.FieldWords.{field_of, HoldsNoField}
use Rattle.wide_objects.specs.declared.wide_word.Status2.{Status2}
use Rattle.wide_objects.specs.declared.wide_word.Status2.TheVariants.{InOriginal, InWide, InCopy}
use Rattle.wide_objects.specs.declared.wide_word.WideWord.{WideWord}

-- the packed word of a field: bits 0 to 61 hold a number or a link, and bits 62 and 63 are clear
abbrev pub IsPackedField : ℕ → Type 0
IsPackedField word = (word < 2 ^ 62) × IsSome (field_of word)

-- what each status asks of the word beside it: 0 while the value is in the original, else the word of a field
abbrev pub FitsStatus : Status2 → ℕ → Type 0
FitsStatus InOriginal word = word ≡ 0
FitsStatus InWide word = IsPackedField word
FitsStatus InCopy word = IsPackedField word

-- the wide words that have a word
abbrev pub IsWideWord : WideWord → Type 0
IsWideWord w = FitsStatus w.status w.word

-- the code of a status
abbrev pub code_of : Status2 → ℕ
code_of InOriginal = 0
code_of InWide = 1
code_of InCopy = 2

-- the status in bits 62 and 63, the word of the field in bits 0 to 61
unfoldable pub word_of_wide : WideWord → ℕ
word_of_wide w = 2 ^ 62 * code_of w.status + w.word

-- bits 62 and 63
abbrev pub status_bits : ℕ → ℕ
status_bits word = word / 2 ^ 62 % 2 ^ 2

-- no wide word: the status is 3, another bit is set beside InOriginal, or bits 0 to 61 are not those of a field
abbrev pub HoldsNoWide : ℕ → Type 0
HoldsNoWide word = (status_bits word ≡ 3) ⊎ (((status_bits word ≡ 0) × (word ≢ 0)) ⊎ HoldsNoField word)

-- a status with bits 0 to 61, if those hold a number or a link
abbrev pub beside : Status2 → ℕ → Option WideWord
beside status word =
    if is_some (field_of word) then Some (record { status = status; word = word % 2 ^ 62 }) else None

-- what the word of a field is while its object is at rest: the value is in the original
abbrev pub at_rest : WideWord
at_rest = record { status = InOriginal; word = 0 }

-- the wide word of a word, if it is that of one
unfoldable pub wide_word_of : ℕ → Option WideWord
wide_word_of word =
    if word == 0 then Some at_rest
    else (if status_bits word == 1 then beside InWide word
    else (if status_bits word == 2 then beside InCopy word
    else None))

-- the same as a value alone, for proofs about words that are known to be those of wide words: at rest where a word is that of none
unfoldable pub wide_word_at : ℕ → WideWord
wide_word_at word = unwrap_or (wide_word_of word) at_rest
