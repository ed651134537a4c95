-- A follow from its beginning to its end.
use Rattle.std.specs.Prelude.{◌≡◌, ◌≢◌, ℕ, refl}
use Rattle.heap_words.specs.declared.field_word.FieldWord.{FieldWord}
use Rattle.heap_words.specs.declared.field_word.FieldWord.TheVariants.{Num, Link}
use Rattle.object_headers.specs.Headers.{header_at}
use Rattle.handshakes.specs.declared.phase_word.Phase.{Phase}
use Rattle.handshakes.specs.declared.phase_word.Phase.TheVariants.{Free, Mark, Confirm, Copy, Fix, Retired}
use Rattle.handshakes.specs.declared.follow.FollowMachine.TheVariants as follow
use Rattle.handshakes.specs.Follows.{follow_of, fed_of}
use Rattle.handshakes.specs.Following.{replaced_by, word_in_hand, IsFollowing}

-- it begins with the word
pub follow_begins : (phase : Phase) (word : FieldWord) → IsFollowing phase (follow_of phase word) × (word_in_hand (follow_of phase word) ≡ word)
follow_begins Free word = (refl, refl)
follow_begins Mark word = (refl, refl)
follow_begins Confirm word = (refl, refl)
follow_begins Copy word = (refl, refl)
follow_begins Fix (Num n) = (refl, refl)
follow_begins Fix (Link birth at) = (refl, refl)
follow_begins Retired word = (refl, refl)

module _ (phase : Phase) (birth at found : ℕ) where
  -- and then has the link to where that object is
  pub follow_goes : IsFollowing phase (fed_of (follow.Header birth at) found) × (word_in_hand (fed_of (follow.Header birth at) found) ≡ replaced_by (header_at found) (Link birth at))
  follow_goes = (refl, refl)
