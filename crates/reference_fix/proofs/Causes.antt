-- What a fix does, whatever words it finds.
use Rattle.std.proofs.Common.{◌≡◌, ℕ, Option, Some, None, refl}
use Rattle.call_steps.specs.declared.step.Step.TheVariants.{Store, Exchange, Ended}
use Rattle.heap_words.specs.declared.field_word.FieldWord.{FieldWord}
use Rattle.heap_words.specs.declared.field_word.FieldWord.TheVariants.{Num, Link}
use Rattle.heap_words.specs.FieldWords.{field_at}
use Rattle.object_headers.specs.Headers.{header_at}
use Rattle.reference_fix.specs.declared.field_fix.FixMachine.TheVariants as field
use Rattle.reference_fix.specs.declared.root_fix.RootFixMachine.TheVariants as root
use Rattle.reference_fix.specs.MovedLinks.{leads_to, moved_link}
use Rattle.reference_fix.specs.FieldFixes as fields
use Rattle.reference_fix.specs.RootFixes as roots
use Rattle.reference_fix.proofs.Moved.{is_moved}

-- the word of a field
module _ (at : ℕ) where
  -- what comes after a step that puts something or ends
  field_after : (word found : ℕ) (o : Option ℕ) → fields.asks_of (fields.fed_of (fields.putting at word o) found) ≡ Ended
  field_after word found None = refl
  field_after word found (Some put) = refl

  -- after two words, the first of which holds this
  field_puts : (word header put : ℕ) (held : FieldWord) → moved_link held (header_at header) ≡ Some put → moved_link (field_at word) (header_at header) ≡ Some put → fields.asks_of (fields.fed_of (fields.led at word (leads_to held)) header) ≡ Exchange at word put
  field_puts word header put (Num n) its is = absurd cc
  field_puts word header put (Link birth to) its is = rw is refl

  field_rests : (word header : ℕ) (held : FieldWord) → moved_link (field_at word) (header_at header) ≡ None → fields.asks_of (fields.fed_of (fields.led at word (leads_to held)) header) ≡ Ended
  field_rests word header (Num n) is = refl
  field_rests word header (Link birth to) is = rw is refl

  field_ends : (word header found : ℕ) (held : FieldWord) → fields.asks_of (fields.fed_of (fields.fed_of (fields.led at word (leads_to held)) header) found) ≡ Ended
  field_ends word header found (Num n) = refl
  field_ends word header found (Link birth to) = field_after word found (moved_link (field_at word) (header_at header))

  pub fixes_field : fields.FixesField at (field.Field at)
  fixes_field = record {
    loads = refl;
    follows = λ word to is. rw is refl;
    leaves = λ word is. rw is refl;
    puts = λ word header put is. (field_puts word header put (field_at word) is is, is_moved word header put is);
    rests = λ word header is. field_rests word header (field_at word) is;
    ends = λ word header found. field_ends word header found (field_at word);
  }

-- a root word
module _ (at : ℕ) where
  -- what comes after a step that puts something or ends
  root_after : (word found : ℕ) (o : Option ℕ) → roots.asks_of (roots.fed_of (roots.putting at o) found) ≡ Ended
  root_after word found None = refl
  root_after word found (Some put) = refl

  -- after two words, the first of which holds this
  root_puts : (word header put : ℕ) (held : FieldWord) → moved_link held (header_at header) ≡ Some put → moved_link (field_at word) (header_at header) ≡ Some put → roots.asks_of (roots.fed_of (roots.led at word (leads_to held)) header) ≡ Store at put
  root_puts word header put (Num n) its is = absurd cc
  root_puts word header put (Link birth to) its is = rw is refl

  root_rests : (word header : ℕ) (held : FieldWord) → moved_link (field_at word) (header_at header) ≡ None → roots.asks_of (roots.fed_of (roots.led at word (leads_to held)) header) ≡ Ended
  root_rests word header (Num n) is = refl
  root_rests word header (Link birth to) is = rw is refl

  root_ends : (word header found : ℕ) (held : FieldWord) → roots.asks_of (roots.fed_of (roots.fed_of (roots.led at word (leads_to held)) header) found) ≡ Ended
  root_ends word header found (Num n) = refl
  root_ends word header found (Link birth to) = root_after word found (moved_link (field_at word) (header_at header))

  pub fixes_root : roots.FixesRoot at (root.Root at)
  fixes_root = record {
    loads = refl;
    follows = λ word to is. rw is refl;
    leaves = λ word is. rw is refl;
    puts = λ word header put is. (root_puts word header put (field_at word) is is, is_moved word header put is);
    rests = λ word header is. root_rests word header (field_at word) is;
    ends = λ word header found. root_ends word header found (field_at word);
  }
