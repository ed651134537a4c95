-- What is put in place of a link.
use Rattle.std.proofs.Common.{◌≡◌, ℕ, ◌<◌, Option, Some, None, IfSome, unwrap_or, refl, ap, ◌∙◌, lit<}
use Rattle.std.proofs.lemmas.Bool.{eq-eqb}
use Rattle.heap_words.specs.declared.limits.TheConstants.{BIRTH_LIMIT, ADDRESS_LIMIT}
use Rattle.heap_words.specs.declared.field_word.FieldWord.{FieldWord}
use Rattle.heap_words.specs.declared.field_word.FieldWord.TheVariants.{Num, Link}
use Rattle.heap_words.specs.FieldWords.{IsFieldWord, word_of, field_of, field_at}
use Rattle.heap_words.specs.FieldWordLaws.{field_of-fits, field_at-word_of}
use Rattle.object_headers.specs.declared.header.State.{State}
use Rattle.object_headers.specs.declared.header.State.TheVariants.{Absent, Plain, Kept, Tagged, Wide, Moving, Forward, Dead}
use Rattle.object_headers.specs.declared.header.Header.{Header}
use Rattle.object_headers.specs.Headers.{IsHeader, header_of, header_at, absent}
use Rattle.object_headers.specs.HeaderLaws.{header_of-fits}
use Rattle.reference_fix.specs.MovedLinks.{moved_in, moved_link, IsMoved}

-- what a word holds fits a word
fits_or : (o : Option FieldWord) → IfSome o IsFieldWord → IsFieldWord (unwrap_or o (Num 0))
fits_or None h = lit< tt
fits_or (Some w) h = h

held_fits : (word : ℕ) → IsFieldWord (field_at word)
unfolding field_at
held_fits word = fits_or (field_of word) (field_of-fits word)

-- the target of a header's word is an address
target_or : (o : Option Header) → IfSome o IsHeader → (unwrap_or o absent).target < ADDRESS_LIMIT
target_or None h = lit< tt
target_or (Some h) fits = fits.target

target_fits : (word : ℕ) → (header_at word).target < ADDRESS_LIMIT
unfolding header_at
target_fits word = target_or (header_of word) (header_of-fits word)

-- the state is Forward, and the word is that of the link to the target
abbrev IsForward : State → ℕ → ℕ → ℕ → Type 0
IsForward s birth target put = (s ≡ Forward) × (put ≡ word_of (Link birth target))

forward : (s : State) (birth target put : ℕ) → moved_in s birth target ≡ Some put → IsForward s birth target put
forward Absent birth target put is = absurd cc
forward Plain birth target put is = absurd cc
forward Kept birth target put is = absurd cc
forward Tagged birth target put is = absurd cc
forward Wide birth target put is = absurd cc
forward Moving birth target put is = absurd cc
forward Forward birth target put is = let same : put ≡ word_of (Link birth target) = cc in (refl, same)
forward Dead birth target put is = absurd cc

moved_from : (word header put birth at : ℕ) → field_at word ≡ Link birth at → birth < BIRTH_LIMIT → IsForward (header_at header).state birth (header_at header).target put → IsMoved word header put
moved_from word header put birth at held small is =
    let its : FieldWord = Link birth (header_at header).target in
    let holds : field_at put ≡ its = ap field_at is.1 ∙ field_at-word_of its (small, target_fits header) in
    record {
      birth = birth;
      at = at;
      held = held;
      forward = is.0;
      holds = holds;
      same_value = rw (held, holds) (eq-eqb birth birth refl);
    }

moved_as : (word header put : ℕ) (f : FieldWord) → field_at word ≡ f → IsFieldWord f → moved_link f (header_at header) ≡ Some put → IsMoved word header put
moved_as word header put (Num n) held fits is = absurd cc
moved_as word header put (Link birth at) held fits is = moved_from word header put birth at held fits.0 (forward (header_at header).state birth (header_at header).target put is)

-- where something is put in place of a word, it is the link to the object's new place
pub is_moved : (word header put : ℕ) → moved_link (field_at word) (header_at header) ≡ Some put → IsMoved word header put
is_moved word header put is = moved_as word header put (field_at word) refl (held_fits word) is
