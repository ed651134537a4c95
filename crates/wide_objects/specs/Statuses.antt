-- The status of a field together with the field that it is about: what a wide word means.
use Rattle.std.specs.Prelude.{◌≡◌, ℕ, ◌+◌, ◌^◌, ⊤}
use Rattle.heap_words.specs.declared.field_word.FieldWord.{FieldWord}
use Rattle.heap_words.specs.FieldWords.{IsFieldWord, word_of, field_at}
use Rattle.wide_objects.specs.declared.wide_word.Status2.{Status2}
use Rattle.wide_objects.specs.declared.wide_word.Status2.TheVariants as Kinds
use Rattle.wide_objects.specs.declared.wide_word.WideWord.{WideWord}
use Rattle.wide_objects.specs.WideWords.{wide_word_at}

-- where the current value of a field is: in the original, in the wide object, or in the copy, for which the wide word says what it was copied with
pub data Status : Type 0 where
  InOriginal : Status
  InWide : (field : FieldWord) → Status
  InCopy : (field : FieldWord) → Status

-- the statuses that have a word
abbrev pub IsStatus : Status → Type 0
IsStatus InOriginal = ⊤
IsStatus (InWide field) = IsFieldWord field
IsStatus (InCopy field) = IsFieldWord field

-- the packed wide word of a status
unfoldable pub word_of_status : Status → ℕ
word_of_status InOriginal = 0
word_of_status (InWide field) = 2 ^ 62 + word_of field
word_of_status (InCopy field) = 2 ^ 63 + word_of field

-- what a status and the word of a field say together
abbrev pub status_with : Status2 → ℕ → Status
status_with Kinds.InOriginal word = InOriginal
status_with Kinds.InWide word = InWide (field_at word)
status_with Kinds.InCopy word = InCopy (field_at word)

-- what a wide word says
abbrev pub status_of_wide : WideWord → Status
status_of_wide w = status_with w.status w.word

-- the status that a word says, for proofs about words that are known to be those of statuses: in the original where a word is that of none
unfoldable pub status_at : ℕ → Status
status_at word = status_of_wide (wide_word_at word)

-- the wide word that says a status
abbrev pub wide_of_status : Status → WideWord
wide_of_status InOriginal = record { status = Kinds.InOriginal; word = 0 }
wide_of_status (InWide field) = record { status = Kinds.InWide; word = word_of field }
wide_of_status (InCopy field) = record { status = Kinds.InCopy; word = word_of field }

-- a status is carried on: a value comes into the wide object, another takes its place there, or it goes on into the copy as it is
abbrev pub Rises : Status → Status → Type 0
Rises InOriginal (InWide new) = ⊤
Rises (InWide old) (InWide new) = ⊤
Rises (InWide old) (InCopy new) = old ≡ new
Rises from to = ⊥
