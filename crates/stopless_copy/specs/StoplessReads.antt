-- A read of a field.
use Rattle.std.specs.Prelude.{◌≡◌, ◌≢◌, ℕ, ◌<◌, ◌≤◌, nat_lt, if◌then◌else◌, Bool, true, false, Option, None}
use Rattle.std.proofs.Common.{arith, ap, lit<}
use Rattle.call_steps.specs.declared.step.Step.{Step}
use Rattle.call_steps.specs.declared.step.Step.TheVariants.{Load, Store, Ended}
use Rattle.heap_words.specs.FieldWords.{field_at}
use Rattle.wide_objects.specs.declared.wide_word.Status2.{Status2}
use Rattle.wide_objects.specs.declared.wide_word.Status2.TheVariants.{InOriginal, InWide, InCopy}
use Rattle.wide_objects.specs.declared.wide_word.WideWord.{WideWord}
use Rattle.wide_objects.specs.WideWords.{wide_word_at}
use Rattle.handshakes.specs.declared.pass_view.PassView.{PassView}
use Rattle.handshakes.specs.declared.phase_word.Phase.{Phase}
use Rattle.handshakes.specs.PhaseWords.{phase_word_at}
use Rattle.handshakes.specs.Follows as follows
use Rattle.barriers.specs.declared.spot.Spot.{Spot}
use Rattle.barriers.specs.declared.front.Front.{Front}
use Rattle.barriers.specs.declared.front.Front.TheVariants.{Stays}
use Rattle.barriers.specs.declared.ends.ReadEnd.{ReadEnd}
use Rattle.barriers.specs.declared.read.ReadMachine.{ReadMachine}
use Rattle.barriers.specs.declared.read.ReadMachine.TheVariants as rest
use Rattle.barriers.specs.Reads as at_rest
use Rattle.barriers.specs.Spots.{spot_of}
use Rattle.barriers.specs.Causes.{len_at}
use Rattle.tagged_calls.specs.declared.location.Location.{Location}
use Rattle.tagged_calls.specs.declared.location.Location.TheVariants as location
use Rattle.tagged_calls.specs.declared.placed.Placed.{Placed}
use Rattle.tagged_calls.specs.declared.placed.Placed.TheVariants as places
use Rattle.tagged_calls.specs.Locations.{field_from, location_in}
use Rattle.tagged_calls.specs.Placeds as placeds
use Rattle.stopless_copy.specs.declared.read.WideRead.{WideRead}
use Rattle.stopless_copy.specs.declared.read.StoplessRead.{StoplessRead}
use Rattle.stopless_copy.specs.declared.read.StoplessRead.TheVariants as read
use Rattle.stopless_copy.specs.WideSteps.{address_at, wide_front, wide_first}

-- as it begins, for a pass
abbrev pub begun : PassView → ℕ → ℕ → ℕ → StoplessRead
begun v birth at field = read.Header (spot_of birth at field) (let w = phase_word_at v.acked in w.phase)

-- at the wide object, and at the word of its field, by the word of a header
abbrev pub widened : Spot → Phase → Spot → StoplessRead
widened spot phase wide = read.Wide (record { spot = spot; wide = wide; phase = phase })

abbrev pub at_word : Spot → Phase → ℕ → Location → StoplessRead
at_word spot phase header it = read.Field (placeds.read_in it spot phase header)

abbrev pub placed : Spot → Phase → ℕ → Location → StoplessRead
placed spot phase header it = wide_first (widened spot phase) (at_word spot phase header) spot header it

-- with the field's word at hand, which it follows
abbrev pub given : Spot → Phase → ℕ → StoplessRead
given spot phase word = read.Field (places.Original (rest.Follow spot (follows.follow_of phase (field_at word))))

-- with the wide word at hand
abbrev pub looked_by : WideRead → Status2 → ℕ → StoplessRead
looked_by its InOriginal word = read.Original its
looked_by its InWide word = given its.spot its.phase word
looked_by its InCopy word = read.Address its

abbrev pub looked : WideRead → WideWord → StoplessRead
looked its wide = looked_by its wide.status wide.word

-- at the word in the copy at this address
abbrev pub copied : WideRead → ℕ → Placed ReadMachine
copied its at = places.Copy its.spot (rest.Field (field_from its.spot at) its.phase)

-- with the word that has the copy's address at hand
abbrev pub addressed : WideRead → ℕ → StoplessRead
addressed its found = read.Field (copied its (address_at found))

-- the step that it takes next
abbrev pub asks_of : StoplessRead → Step
asks_of (read.Header spot phase) = Load spot.at
asks_of (read.Field m) = placeds.asks_of at_rest.asks_of m
asks_of (read.Wide its) = Load its.wide.place
asks_of (read.Original its) = Load its.spot.place
asks_of (read.Address its) = Load its.wide.at

-- what it is after it was fed a word
abbrev pub fed_of : StoplessRead → ℕ → StoplessRead
fed_of (read.Header spot phase) found = placed spot phase found (location_in spot found)
fed_of (read.Field m) found = read.Field (placeds.fed_of at_rest.fed_of m found)
fed_of (read.Wide its) found = looked its (wide_word_at found)
fed_of (read.Original its) found = given its.spot its.phase found
fed_of (read.Address its) found = addressed its found

-- what it ended with
abbrev pub end_of : StoplessRead → Option ReadEnd
end_of (read.Field m) = at_rest.end_of (placeds.machine_of m)
end_of m = None

-- how many steps are left at most
abbrev pub left_of : StoplessRead → ℕ
left_of (read.Header spot phase) = 8
left_of (read.Field m) = placeds.left_of at_rest.left_of m
left_of (read.Wide its) = 7
left_of (read.Original its) = 5
left_of (read.Address its) = 6

-- what a step makes of what its pass has seen
abbrev pub front : StoplessRead → ℕ → Front
front (read.Field m) found = placeds.front_of at_rest.front m found
front (read.Wide its) found = wide_front found
front m found = Stays

pub blind_of : (m : StoplessRead) (at put n : ℕ) → asks_of m ≡ Store at put → fed_of m n ≡ fed_of m 0
blind_of (read.Header spot phase) at put n e = absurd cc
blind_of (read.Field m) at put n e = ap read.Field (placeds.blind_of at_rest.asks_of at_rest.fed_of at_rest.blind_of m at put n e)
blind_of (read.Wide its) at put n e = absurd cc
blind_of (read.Original its) at put n e = absurd cc
blind_of (read.Address its) at put n e = absurd cc

pub none_left_of : (m : StoplessRead) → asks_of m ≡ Ended → left_of m ≡ 0
none_left_of (read.Header spot phase) e = absurd cc
none_left_of (read.Field m) e = at_rest.none_left_of (placeds.machine_of m) e
none_left_of (read.Wide its) e = absurd cc
none_left_of (read.Original its) e = absurd cc
none_left_of (read.Address its) e = absurd cc

pub some_left_of : (m : StoplessRead) → left_of m ≡ 0 → asks_of m ≡ Ended
some_left_of (read.Header spot phase) e = absurd (omega arith)
some_left_of (read.Field m) e = at_rest.some_left_of (placeds.machine_of m) e
some_left_of (read.Wide its) e = absurd (omega arith)
some_left_of (read.Original its) e = absurd (omega arith)
some_left_of (read.Address its) e = absurd (omega arith)

given_left : (spot : Spot) (phase : Phase) (word : ℕ) → left_of (given spot phase word) ≤ 4
given_left spot phase word = follows.follow_of-left phase (field_at word)

looked_falls : (its : WideRead) (status : Status2) (word : ℕ) → left_of (looked_by its status word) < 7
looked_falls its InOriginal word = lit< tt
looked_falls its InWide word = omega (arith, given_left its.spot its.phase word)
looked_falls its InCopy word = lit< tt

word_falls : (spot : Spot) (phase : Phase) (header : ℕ) (it : Location) → left_of (at_word spot phase header it) < 8
word_falls spot phase header it =
    placeds.few_left at_rest.left_of it spot (λ here. at_rest.fed_of (rest.Header here phase) header) 8
    (λ here. omega (arith, at_rest.falls_of (rest.Header here phase) header (λ e. cc e)))

wide_falls : (spot : Spot) (phase : Phase) (header : ℕ) (wide : Spot) (b : Bool) → left_of (if b then widened spot phase wide else at_word spot phase header (location.Wide wide)) < 8
wide_falls spot phase header wide true = lit< tt
wide_falls spot phase header wide false = word_falls spot phase header (location.Wide wide)

placed_falls : (spot : Spot) (phase : Phase) (header : ℕ) (it : Location) → left_of (placed spot phase header it) < 8
placed_falls spot phase header (location.Wide wide) = wide_falls spot phase header wide (nat_lt spot.field (len_at header))
placed_falls spot phase header (location.Tagged keep) = word_falls spot phase header (location.Tagged keep)
placed_falls spot phase header location.Original = word_falls spot phase header location.Original
placed_falls spot phase header (location.Copy copy) = word_falls spot phase header (location.Copy copy)

pub falls_of : (m : StoplessRead) (n : ℕ) → asks_of m ≢ Ended → left_of (fed_of m n) < left_of m
falls_of (read.Header spot phase) n on = placed_falls spot phase n (location_in spot n)
falls_of (read.Field m) n on = placeds.falls_of at_rest.asks_of at_rest.fed_of at_rest.left_of at_rest.falls_of m n on
falls_of (read.Wide its) n on = let w = wide_word_at n in looked_falls its w.status w.word
falls_of (read.Original its) n on = omega (arith, given_left its.spot its.phase n)
falls_of (read.Address its) n on = lit< tt
