-- What a pass does with a field word that it has loaded.
use Rattle.std.specs.Prelude.{◌≡◌, ◌≢◌, ℕ, ◌<◌, ◌≤◌, false, Option, Some, None, refl}
use Rattle.std.proofs.Common.{lit<, lit≤, arith}
use Rattle.call_steps.specs.declared.step.Step.{Step}
use Rattle.call_steps.specs.declared.step.Step.TheVariants.{Load, Store, Ended}
use Rattle.heap_words.specs.declared.field_word.FieldWord.{FieldWord}
use Rattle.heap_words.specs.declared.field_word.FieldWord.TheVariants.{Num, Link}
use Rattle.object_headers.specs.declared.header.State.{State}
use Rattle.object_headers.specs.declared.header.State.TheVariants.{Forward}
use Rattle.object_headers.specs.declared.header.Header.{Header}
use Rattle.object_headers.specs.Headers.{header_at}
use Rattle.handshakes.specs.declared.phase_word.Phase.{Phase}
use Rattle.handshakes.specs.declared.phase_word.Phase.TheVariants.{Free, Mark, Confirm, Copy, Fix, Retired}
use Rattle.handshakes.specs.declared.follow.FollowEnd.{FollowEnd}
use Rattle.handshakes.specs.declared.follow.FollowMachine.{FollowMachine}
use Rattle.handshakes.specs.declared.follow.FollowMachine.TheVariants as follow

-- where an object in this state is that was at `at`: with Forward at its target
abbrev pub place_in : State → ℕ → ℕ → ℕ
place_in Forward target at = target
place_in state target at = at

-- the same of its header
abbrev pub place_by : Header → ℕ → ℕ
place_by h at = place_in h.state h.target at

-- it goes on with this word, and shaded nothing
abbrev pub unshaded : FieldWord → FollowEnd
unshaded word = record { word = word; shaded = false }

-- with Fix acknowledged the header at a link's address is loaded; all else takes no step
abbrev pub follow_of : Phase → FieldWord → FollowMachine
follow_of Fix (Link birth at) = follow.Header birth at
follow_of phase word = follow.Ended (unshaded word)

abbrev pub asks_of : FollowMachine → Step
asks_of (follow.Header birth at) = Load at
asks_of (follow.Ended e) = Ended

abbrev pub fed_of : FollowMachine → ℕ → FollowMachine
fed_of (follow.Header birth at) found = follow.Ended (unshaded (Link birth (place_by (header_at found) at)))
fed_of (follow.Ended e) found = follow.Ended e

abbrev pub left_of : FollowMachine → ℕ
left_of (follow.Header birth at) = 1
left_of (follow.Ended e) = 0

-- how it ended, if it has
abbrev pub end_of : FollowMachine → Option FollowEnd
end_of (follow.Header birth at) = None
end_of (follow.Ended e) = Some e

-- it takes at most 4 steps
pub follow_of-left : (phase : Phase) (word : FieldWord) → left_of (follow_of phase word) ≤ 4
follow_of-left Free word = lit≤ tt
follow_of-left Mark word = lit≤ tt
follow_of-left Confirm word = lit≤ tt
follow_of-left Copy word = lit≤ tt
follow_of-left Fix (Num n) = lit≤ tt
follow_of-left Fix (Link birth at) = lit≤ tt
follow_of-left Retired word = lit≤ tt

pub blind_of : (m : FollowMachine) (at put n : ℕ) → asks_of m ≡ Store at put → fed_of m n ≡ fed_of m 0
blind_of (follow.Header birth place) at put n e = absurd cc
blind_of (follow.Ended e) at put n is = refl

pub none_left_of : (m : FollowMachine) → asks_of m ≡ Ended → left_of m ≡ 0
none_left_of (follow.Header birth at) is = absurd cc
none_left_of (follow.Ended e) is = refl

pub some_left_of : (m : FollowMachine) → left_of m ≡ 0 → asks_of m ≡ Ended
some_left_of (follow.Header birth at) is = absurd (omega arith)
some_left_of (follow.Ended e) is = refl

pub falls_of : (m : FollowMachine) (n : ℕ) → asks_of m ≢ Ended → left_of (fed_of m n) < left_of m
falls_of (follow.Header birth at) n on = lit< tt
falls_of (follow.Ended e) n on = absurd (on refl)
