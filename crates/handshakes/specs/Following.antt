-- What a pass that follows a link has in hand.
use Rattle.std.specs.Prelude.{◌≡◌, false}
use Rattle.object_headers.specs.declared.header.Header.{Header}
use Rattle.heap_words.specs.declared.field_word.FieldWord.{FieldWord}
use Rattle.heap_words.specs.declared.field_word.FieldWord.TheVariants.{Num, Link}
use Rattle.handshakes.specs.declared.phase_word.Phase.{Phase}
use Rattle.handshakes.specs.declared.phase_word.Phase.TheVariants.{Fix}
use Rattle.handshakes.specs.declared.follow.FollowMachine.{FollowMachine}
use Rattle.handshakes.specs.declared.follow.FollowMachine.TheVariants as follow
use Rattle.handshakes.specs.Follows.{place_by}

-- a word with its link going to where the object is that has this header
abbrev pub replaced_by : Header → FieldWord → FieldWord
replaced_by h (Num n) = Num n
replaced_by h (Link birth at) = Link birth (place_by h at)

-- the link that is followed, or the word with which it has ended
abbrev pub word_in_hand : FollowMachine → FieldWord
word_in_hand (follow.Header birth at) = Link birth at
word_in_hand (follow.Ended e) = e.word

-- A header is loaded only with Fix acknowledged, and nothing is shaded.
abbrev pub IsFollowing : Phase → FollowMachine → Type 0
IsFollowing phase (follow.Header birth at) = phase ≡ Fix
IsFollowing phase (follow.Ended e) = e.shaded ≡ false
