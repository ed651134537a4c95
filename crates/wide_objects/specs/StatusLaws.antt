-- What packs unpacks, no two statuses share a word, and a status is what its wide word says.
use Rattle.std.proofs.Common.{◌≡◌, ℕ, ◌+◌, ◌*◌, ◌^◌, ◌<◌, Some, refl, ap, sym, ◌∙◌, arith}
use Rattle.heap_words.specs.FieldWordLaws.{field_at-word_of}
use Rattle.wide_objects.specs.declared.wide_word.Status2.{Status2}
use Rattle.wide_objects.specs.declared.wide_word.Status2.TheVariants as Kinds
use Rattle.wide_objects.specs.WideWords.{FitsStatus, IsWideWord, code_of, word_of_wide, wide_word_of, wide_word_at}
use Rattle.wide_objects.specs.WideWordLaws.{packed-word_of, word_of-field_at, field_at-fits, wide_word_of-word_of_wide, wide_word_at-word_of_wide}
use Rattle.wide_objects.specs.Statuses.{Status, InOriginal, InWide, InCopy, IsStatus, word_of_status, status_with, status_of_wide, status_at, wide_of_status}

-- the wide word of a status fits
pub wide_of_status-fits : (u : Status) → IsStatus u → IsWideWord (wide_of_status u)
wide_of_status-fits InOriginal h = refl
wide_of_status-fits (InWide field) h = packed-word_of field h
wide_of_status-fits (InCopy field) h = packed-word_of field h

-- and has its word
pub word_of_wide-wide_of_status : (u : Status) → word_of_wide (wide_of_status u) ≡ word_of_status u
unfolding word_of_wide word_of_status
word_of_wide-wide_of_status InOriginal = refl
word_of_wide-wide_of_status (InWide field) = omega arith
word_of_wide-wide_of_status (InCopy field) = omega arith

-- and says it
pub status_of_wide-wide_of_status : (u : Status) → IsStatus u → status_of_wide (wide_of_status u) ≡ u
status_of_wide-wide_of_status InOriginal h = refl
status_of_wide-wide_of_status (InWide field) h = ap InWide (field_at-word_of field h)
status_of_wide-wide_of_status (InCopy field) h = ap InCopy (field_at-word_of field h)

with_fits : (s : Status2) (word : ℕ) → FitsStatus s word → IsStatus (status_with s word)
with_fits Kinds.InOriginal word h = tt
with_fits Kinds.InWide word h = field_at-fits word h
with_fits Kinds.InCopy word h = field_at-fits word h

with_word : (s : Status2) (word : ℕ) → FitsStatus s word → word_of_status (status_with s word) ≡ 2 ^ 62 * code_of s + word
unfolding word_of_status
with_word Kinds.InOriginal word h = omega arith
with_word Kinds.InWide word h = omega (arith, word_of-field_at word h)
with_word Kinds.InCopy word h = omega (arith, word_of-field_at word h)

-- the word of a status unpacks as the wide word that says it
pub wide_word_of-word_of_status : (u : Status) → IsStatus u → wide_word_of (word_of_status u) ≡ Some (wide_of_status u)
wide_word_of-word_of_status u h =
    rw (← word_of_wide-wide_of_status u) (wide_word_of-word_of_wide (wide_of_status u) (wide_of_status-fits u h))

-- what packs unpacks
pub status_at-word_of_status : (u : Status) → IsStatus u → status_at (word_of_status u) ≡ u
unfolding status_at
status_at-word_of_status u h =
    ap (λ word. status_of_wide (wide_word_at word)) (sym (word_of_wide-wide_of_status u))
    ∙ (ap status_of_wide (wide_word_at-word_of_wide (wide_of_status u) (wide_of_status-fits u h))
    ∙ status_of_wide-wide_of_status u h)

-- two statuses with one word are one
pub word_of_status-injective : (u v : Status) → IsStatus u → IsStatus v → word_of_status u ≡ word_of_status v → u ≡ v
word_of_status-injective u v hu hv e =
    sym (status_at-word_of_status u hu) ∙ (ap status_at e ∙ status_at-word_of_status v hv)
