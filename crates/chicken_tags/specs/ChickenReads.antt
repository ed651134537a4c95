-- A read of a field.
use Rattle.std.specs.Prelude.{◌≡◌, ◌≢◌, ℕ, ◌<◌, Option, None}
use Rattle.std.proofs.Common.{arith, ap}
use Rattle.call_steps.specs.declared.step.Step.{Step}
use Rattle.call_steps.specs.declared.step.Step.TheVariants.{Load, Store, Ended}
use Rattle.handshakes.specs.declared.pass_view.PassView.{PassView}
use Rattle.handshakes.specs.PhaseWords.{phase_word_at}
use Rattle.barriers.specs.declared.front.Front.{Front}
use Rattle.barriers.specs.declared.front.Front.TheVariants.{Stays}
use Rattle.barriers.specs.declared.ends.ReadEnd.{ReadEnd}
use Rattle.barriers.specs.declared.read.ReadMachine.TheVariants as rest
use Rattle.barriers.specs.Reads as at_rest
use Rattle.barriers.specs.Spots.{spot_of}
use Rattle.tagged_calls.specs.Locations.{location_in}
use Rattle.tagged_calls.specs.Placeds as placeds
use Rattle.chicken_tags.specs.declared.read.ChickenRead.{ChickenRead}
use Rattle.chicken_tags.specs.declared.read.ChickenRead.TheVariants as read

-- as it begins, for a pass
abbrev pub begun : PassView → ℕ → ℕ → ℕ → ChickenRead
begun v birth at field = read.Header (spot_of birth at field) (let w = phase_word_at v.acked in w.phase)

-- the step that it takes next
abbrev pub asks_of : ChickenRead → Step
asks_of (read.Header spot phase) = Load spot.at
asks_of (read.Field m) = placeds.asks_of at_rest.asks_of m

-- what it is after it was fed a word
abbrev pub fed_of : ChickenRead → ℕ → ChickenRead
fed_of (read.Header spot phase) found = read.Field (placeds.read_in (location_in spot found) spot phase found)
fed_of (read.Field m) found = read.Field (placeds.fed_of at_rest.fed_of m found)

-- what it ended with
abbrev pub end_of : ChickenRead → Option ReadEnd
end_of (read.Header spot phase) = None
end_of (read.Field m) = at_rest.end_of (placeds.machine_of m)

-- how many steps are left at most
abbrev pub left_of : ChickenRead → ℕ
left_of (read.Header spot phase) = 6
left_of (read.Field m) = placeds.left_of at_rest.left_of m

-- what a step makes of what its pass has seen
abbrev pub front : ChickenRead → ℕ → Front
front (read.Header spot phase) found = Stays
front (read.Field m) found = placeds.front_of at_rest.front m found

pub blind_of : (m : ChickenRead) (at put n : ℕ) → asks_of m ≡ Store at put → fed_of m n ≡ fed_of m 0
blind_of (read.Header spot phase) at put n e = absurd cc
blind_of (read.Field m) at put n e = ap read.Field (placeds.blind_of at_rest.asks_of at_rest.fed_of at_rest.blind_of m at put n e)

pub none_left_of : (m : ChickenRead) → asks_of m ≡ Ended → left_of m ≡ 0
none_left_of (read.Header spot phase) e = absurd cc
none_left_of (read.Field m) e = at_rest.none_left_of (placeds.machine_of m) e

pub some_left_of : (m : ChickenRead) → left_of m ≡ 0 → asks_of m ≡ Ended
some_left_of (read.Header spot phase) e = absurd (omega arith)
some_left_of (read.Field m) e = at_rest.some_left_of (placeds.machine_of m) e

pub falls_of : (m : ChickenRead) (n : ℕ) → asks_of m ≢ Ended → left_of (fed_of m n) < left_of m
falls_of (read.Header spot phase) n on =
    placeds.few_left at_rest.left_of (location_in spot n) spot (λ here. at_rest.fed_of (rest.Header here phase) n) 6
    (λ here. at_rest.falls_of (rest.Header here phase) n (λ e. cc e))
falls_of (read.Field m) n on = placeds.falls_of at_rest.asks_of at_rest.fed_of at_rest.left_of at_rest.falls_of m n on
