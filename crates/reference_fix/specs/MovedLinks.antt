-- What a link becomes whose object has moved.
use Rattle.std.specs.Prelude.{◌≡◌, ℕ, true, Option, Some, None}
use Rattle.heap_words.specs.declared.field_word.FieldWord.{FieldWord}
use Rattle.heap_words.specs.declared.field_word.FieldWord.TheVariants.{Num, Link}
use Rattle.heap_words.specs.FieldWords.{word_of, field_at, is_same_value}
use Rattle.object_headers.specs.declared.header.State.{State}
use Rattle.object_headers.specs.declared.header.State.TheVariants.{Forward}
use Rattle.object_headers.specs.declared.header.Header.{Header}
use Rattle.object_headers.specs.Headers.{header_at}

-- the address to which a link leads
abbrev pub leads_to : FieldWord → Option ℕ
leads_to (Num n) = None
leads_to (Link birth at) = Some at

-- the word of a link to the object with this birth number, whose header has this state: where it has moved, at the target
abbrev pub moved_in : State → ℕ → ℕ → Option ℕ
moved_in Forward birth target = Some (word_of (Link birth target))
moved_in state birth target = None

-- the word that takes the place of that of a link, by the header to which the link leads
abbrev pub moved_link : FieldWord → Header → Option ℕ
moved_link (Num n) h = None
moved_link (Link birth at) h = moved_in h.state birth h.target

-- What is put in place of a word, by a header: a link to the same object, which goes to the target of the header where the old one leads.
pub record IsMoved (word header put : ℕ) : Type 0 where
  pub birth : ℕ
  pub at : ℕ
  pub held : field_at word ≡ Link birth at
  pub forward : (header_at header).state ≡ Forward
  pub holds : field_at put ≡ Link birth (header_at header).target
  pub same_value : is_same_value (field_at word) (field_at put) ≡ true
