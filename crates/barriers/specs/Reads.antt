-- A read of a field.
use Rattle.std.specs.Prelude.{◌≡◌, ◌≢◌, ℕ, ◌<◌, nat_lt, if◌then◌else◌, Bool, true, false, Option, Some, None, option_map, refl}
use Rattle.std.proofs.Common.{lit<, arith, ap}
use Rattle.call_steps.specs.declared.step.Step.{Step}
use Rattle.call_steps.specs.declared.step.Step.TheVariants.{Load, Store, Ended}
use Rattle.heap_words.specs.FieldWords.{field_at}
use Rattle.object_headers.specs.Headers.{header_at}
use Rattle.handshakes.specs.declared.phase_word.Phase.{Phase}
use Rattle.handshakes.specs.Follows as follows
use Rattle.barriers.specs.declared.spot.Spot.{Spot}
use Rattle.barriers.specs.declared.front.Front.{Front}
use Rattle.barriers.specs.declared.front.Front.TheVariants.{Stays, SealedOrNow}
use Rattle.barriers.specs.declared.ends.ReadEnd.{ReadEnd}
use Rattle.barriers.specs.declared.ends.ReadEnd.TheVariants.{Got, NoField}
use Rattle.barriers.specs.declared.read.ReadMachine.{ReadMachine}
use Rattle.barriers.specs.declared.read.ReadMachine.TheVariants as read

-- the step that it takes next
abbrev pub asks_of : ReadMachine → Step
asks_of (read.Header spot phase) = Load spot.at
asks_of (read.Field spot phase) = Load spot.place
asks_of (read.Follow spot its) = follows.asks_of its
asks_of (read.NoField spot len) = Ended

-- with the header's len at hand
abbrev pub by_len : Spot → Phase → ℕ → ReadMachine
by_len spot phase len = if nat_lt spot.field len then read.Field spot phase else read.NoField spot len

-- what it is after it was fed a word: what the field held is followed as the phase asks
abbrev pub fed_of : ReadMachine → ℕ → ReadMachine
fed_of (read.Header spot phase) found = let header = header_at found in by_len spot phase header.len
fed_of (read.Field spot phase) found = read.Follow spot (follows.follow_of phase (field_at found))
fed_of (read.Follow spot its) found = read.Follow spot (follows.fed_of its found)
fed_of (read.NoField spot len) found = read.NoField spot len

-- what it ended with
abbrev pub end_of : ReadMachine → Option ReadEnd
end_of (read.Header spot phase) = None
end_of (read.Field spot phase) = None
end_of (read.Follow spot its) = option_map (λ e. Got e.word) (follows.end_of its)
end_of (read.NoField spot len) = Some (NoField len)

-- how many steps are left at most: the header, the field, and 4 to follow
abbrev pub left_of : ReadMachine → ℕ
left_of (read.Header spot phase) = 6
left_of (read.Field spot phase) = 5
left_of (read.Follow spot its) = follows.left_of its
left_of (read.NoField spot len) = 0

-- the load of the field sees its value: that at the object's seal, where there was one
abbrev pub front : ReadMachine → ℕ → Front
front (read.Field spot phase) found = SealedOrNow
front m found = Stays

pub blind_of : (m : ReadMachine) (at put n : ℕ) → asks_of m ≡ Store at put → fed_of m n ≡ fed_of m 0
blind_of (read.Header spot phase) at put n e = absurd cc
blind_of (read.Field spot phase) at put n e = absurd cc
blind_of (read.Follow spot its) at put n e = ap (λ f. read.Follow spot f) (follows.blind_of its at put n e)
blind_of (read.NoField spot len) at put n e = refl

pub none_left_of : (m : ReadMachine) → asks_of m ≡ Ended → left_of m ≡ 0
none_left_of (read.Header spot phase) e = absurd cc
none_left_of (read.Field spot phase) e = absurd cc
none_left_of (read.Follow spot its) e = follows.none_left_of its e
none_left_of (read.NoField spot len) e = refl

pub some_left_of : (m : ReadMachine) → left_of m ≡ 0 → asks_of m ≡ Ended
some_left_of (read.Header spot phase) e = absurd (omega arith)
some_left_of (read.Field spot phase) e = absurd (omega arith)
some_left_of (read.Follow spot its) e = follows.some_left_of its e
some_left_of (read.NoField spot len) e = refl

by_len_falls : (spot : Spot) (phase : Phase) (len : ℕ) (b : Bool) → left_of (if b then read.Field spot phase else read.NoField spot len) < 6
by_len_falls spot phase len true = lit< tt
by_len_falls spot phase len false = lit< tt

pub falls_of : (m : ReadMachine) (n : ℕ) → asks_of m ≢ Ended → left_of (fed_of m n) < left_of m
falls_of (read.Header spot phase) n on = let header = header_at n in by_len_falls spot phase header.len (nat_lt spot.field header.len)
falls_of (read.Field spot phase) n on = omega (arith, follows.follow_of-left phase (field_at n))
falls_of (read.Follow spot its) n on = follows.falls_of its n on
falls_of (read.NoField spot len) n on = absurd (on refl)
