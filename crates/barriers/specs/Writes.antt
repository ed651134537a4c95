-- A write of a field.
use Rattle.std.specs.Prelude.{◌≡◌, ◌≢◌, ℕ, ◌<◌, nat_lt, if◌then◌else◌, Bool, true, false, Option, Some, None, refl}
use Rattle.std.proofs.Common.{lit<, arith}
use Rattle.call_steps.specs.declared.step.Step.{Step}
use Rattle.call_steps.specs.declared.step.Step.TheVariants.{Load, Store, Ended}
use Rattle.object_headers.specs.Headers.{header_at}
use Rattle.barriers.specs.declared.spot.Spot.{Spot}
use Rattle.barriers.specs.declared.front.Front.{Front}
use Rattle.barriers.specs.declared.front.Front.TheVariants.{Stays}
use Rattle.barriers.specs.declared.ends.TryRefusal.TheVariants.{NoField}
use Rattle.barriers.specs.declared.ends.WriteEnd.{WriteEnd}
use Rattle.barriers.specs.declared.ends.WriteEnd.TheVariants.{Wrote, Refused}
use Rattle.barriers.specs.declared.write.WriteMachine.{WriteMachine}
use Rattle.barriers.specs.declared.write.WriteMachine.TheVariants as write

-- the step that it takes next
abbrev pub asks_of : WriteMachine → Step
asks_of (write.Header spot word) = Load spot.at
asks_of (write.Field spot word) = Store spot.place word
asks_of (write.Ended spot word end) = Ended

-- with the header's len at hand
abbrev pub by_len : Spot → ℕ → ℕ → WriteMachine
by_len spot word len = if nat_lt spot.field len then write.Field spot word else write.Ended spot word (Refused (NoField len))

-- what it is after it was fed a word
abbrev pub fed_of : WriteMachine → ℕ → WriteMachine
fed_of (write.Header spot word) found = let header = header_at found in by_len spot word header.len
fed_of (write.Field spot word) found = write.Ended spot word Wrote
fed_of (write.Ended spot word end) found = write.Ended spot word end

-- what it ended with
abbrev pub end_of : WriteMachine → Option WriteEnd
end_of (write.Header spot word) = None
end_of (write.Field spot word) = None
end_of (write.Ended spot word end) = Some end

-- no step sees a value
abbrev pub front : WriteMachine → ℕ → Front
front m found = Stays

-- how many steps are left at most
abbrev pub left_of : WriteMachine → ℕ
left_of (write.Header spot word) = 2
left_of (write.Field spot word) = 1
left_of (write.Ended spot word end) = 0

pub blind_of : (m : WriteMachine) (at put n : ℕ) → asks_of m ≡ Store at put → fed_of m n ≡ fed_of m 0
blind_of (write.Header spot word) at put n e = absurd cc
blind_of (write.Field spot word) at put n e = refl
blind_of (write.Ended spot word end) at put n e = refl

pub none_left_of : (m : WriteMachine) → asks_of m ≡ Ended → left_of m ≡ 0
none_left_of (write.Header spot word) e = absurd cc
none_left_of (write.Field spot word) e = absurd cc
none_left_of (write.Ended spot word end) e = refl

pub some_left_of : (m : WriteMachine) → left_of m ≡ 0 → asks_of m ≡ Ended
some_left_of (write.Header spot word) e = absurd (omega arith)
some_left_of (write.Field spot word) e = absurd (omega arith)
some_left_of (write.Ended spot word end) e = refl

by_len_falls : (spot : Spot) (word len : ℕ) (b : Bool) → left_of (if b then write.Field spot word else write.Ended spot word (Refused (NoField len))) < 2
by_len_falls spot word len true = lit< tt
by_len_falls spot word len false = lit< tt

pub falls_of : (m : WriteMachine) (n : ℕ) → asks_of m ≢ Ended → left_of (fed_of m n) < left_of m
falls_of (write.Header spot word) n on = let header = header_at n in by_len_falls spot word header.len (nat_lt spot.field header.len)
falls_of (write.Field spot word) n on = lit< tt
falls_of (write.Ended spot word end) n on = absurd (on refl)
