-- A write of a field.
use Rattle.std.specs.Prelude.{◌≡◌, ◌≢◌, ℕ, ◌<◌, ◌==◌, nat_lt, if◌then◌else◌, Bool, true, false, Option, None}
use Rattle.std.proofs.Common.{arith, ap, lit<}
use Rattle.call_steps.specs.declared.step.Step.{Step}
use Rattle.call_steps.specs.declared.step.Step.TheVariants.{Load, Store, Exchange, Ended}
use Rattle.object_headers.specs.Headers.{header_at}
use Rattle.wide_objects.specs.declared.wide_word.Status2.{Status2}
use Rattle.wide_objects.specs.declared.wide_word.Status2.TheVariants.{InOriginal, InWide, InCopy}
use Rattle.wide_objects.specs.declared.wide_word.WideWord.{WideWord}
use Rattle.wide_objects.specs.WideWords.{wide_word_at}
use Rattle.barriers.specs.declared.spot.Spot.{Spot}
use Rattle.barriers.specs.declared.front.Front.{Front}
use Rattle.barriers.specs.declared.front.Front.TheVariants.{Stays}
use Rattle.barriers.specs.declared.ends.TryRefusal.TheVariants.{Raced}
use Rattle.barriers.specs.declared.ends.WriteEnd.{WriteEnd}
use Rattle.barriers.specs.declared.ends.WriteEnd.TheVariants.{Wrote, Refused}
use Rattle.barriers.specs.declared.plain_exchange.TriesLeft.{TriesLeft}
use Rattle.barriers.specs.declared.plain_exchange.TriesLeft.TheVariants.{Two, One, Zero}
use Rattle.barriers.specs.declared.write.WriteMachine.{WriteMachine}
use Rattle.barriers.specs.declared.write.WriteMachine.TheVariants as rest
use Rattle.barriers.specs.Writes as at_rest
use Rattle.barriers.specs.Spots.{spot_of}
use Rattle.barriers.specs.Causes.{len_at}
use Rattle.tagged_calls.specs.declared.location.Location.{Location}
use Rattle.tagged_calls.specs.declared.location.Location.TheVariants as location
use Rattle.tagged_calls.specs.declared.placed.Placed.{Placed}
use Rattle.tagged_calls.specs.declared.placed.Placed.TheVariants as places
use Rattle.tagged_calls.specs.Locations.{field_from, location_in, by_location}
use Rattle.tagged_calls.specs.Placeds as placeds
use Rattle.stopless_copy.specs.declared.write.WideWrite.{WideWrite}
use Rattle.stopless_copy.specs.declared.write.StoplessWrite.{StoplessWrite}
use Rattle.stopless_copy.specs.declared.write.StoplessWrite.TheVariants as write
use Rattle.stopless_copy.specs.WideSteps.{in_wide, address_at, wide_front, wide_first}

-- as it begins
abbrev pub begun : ℕ → ℕ → ℕ → ℕ → StoplessWrite
begun birth at field word = write.Header (spot_of birth at field) word

-- at the wide object, and at the word of its field, by the word of a header
abbrev pub widened : Spot → ℕ → Spot → StoplessWrite
widened spot word wide = write.Wide (record { spot = spot; wide = wide; word = word })

abbrev pub at_word : Spot → ℕ → ℕ → Location → StoplessWrite
at_word spot word header it = write.Field (placeds.write_in it spot word header)

abbrev pub placed : Spot → ℕ → ℕ → Location → StoplessWrite
placed spot word header it = wide_first (widened spot word) (at_word spot word header) spot header it

-- with the header at hand
abbrev pub turned : Spot → ℕ → ℕ → Location → StoplessWrite
turned spot word header it = by_location (write.Keep spot word) (placed spot word header) spot header it

-- it has ended so
abbrev pub over : Spot → ℕ → WriteEnd → StoplessWrite
over spot word end = write.Field (places.Original (rest.Ended spot word end))

-- with the wide word at hand
abbrev pub looked_by : WideWrite → ℕ → Status2 → StoplessWrite
looked_by its found InOriginal = write.Try its found Two
looked_by its found InWide = write.Try its found Two
looked_by its found InCopy = write.Address its

abbrev pub looked : WideWrite → ℕ → WideWord → StoplessWrite
looked its found wide = looked_by its found wide.status

-- an exchange wanted the one wide word and found the other
abbrev pub raced : WideWrite → ℕ → ℕ → StoplessWrite
raced its loaded found = over its.spot its.word (Refused (Raced loaded found))

-- after a lost exchange that found a value in the wide object: the next one wants what was found, if there is a next one
abbrev pub again : WideWrite → ℕ → TriesLeft → ℕ → StoplessWrite
again its wanted Two found = write.Try its found One
again its wanted One found = write.Try its found Zero
again its wanted Zero found = raced its wanted found

-- after a lost exchange, by the status found; no value comes back into the original
abbrev pub lost_by : WideWrite → ℕ → TriesLeft → ℕ → Status2 → StoplessWrite
lost_by its wanted tries found InOriginal = raced its wanted found
lost_by its wanted tries found InWide = again its wanted tries found
lost_by its wanted tries found InCopy = write.Address its

abbrev pub lost : WideWrite → ℕ → TriesLeft → ℕ → WideWord → StoplessWrite
lost its wanted tries found wide = lost_by its wanted tries found wide.status

-- after an exchange, which won where it found what it wanted
abbrev pub tried : WideWrite → ℕ → TriesLeft → ℕ → StoplessWrite
tried its wanted tries found = if found == wanted then over its.spot its.word Wrote else lost its wanted tries found (wide_word_at found)

-- at the word in the copy at this address
abbrev pub copied : WideWrite → ℕ → Placed WriteMachine
copied its at = places.Copy its.spot (rest.Field (field_from its.spot at) its.word)

-- with the word that has the copy's address at hand
abbrev pub addressed : WideWrite → ℕ → StoplessWrite
addressed its found = write.Field (copied its (address_at found))

-- the step that it takes next
abbrev pub asks_of : StoplessWrite → Step
asks_of (write.Header spot word) = Load spot.at
asks_of (write.Keep spot word keep) = Exchange spot.at keep.tagged keep.kept
asks_of (write.Field m) = placeds.asks_of at_rest.asks_of m
asks_of (write.Wide its) = Load its.wide.place
asks_of (write.Try its wanted tries) = Exchange its.wide.place wanted (in_wide its.word)
asks_of (write.Address its) = Load its.wide.at

-- what it is after it was fed a word
abbrev pub fed_of : StoplessWrite → ℕ → StoplessWrite
fed_of (write.Header spot word) found = turned spot word found (location_in spot found)
fed_of (write.Keep spot word keep) found = placed spot word keep.tagged (location_in spot found)
fed_of (write.Field m) found = write.Field (placeds.fed_of at_rest.fed_of m found)
fed_of (write.Wide its) found = looked its found (wide_word_at found)
fed_of (write.Try its wanted tries) found = tried its wanted tries found
fed_of (write.Address its) found = addressed its found

-- what it ended with
abbrev pub end_of : StoplessWrite → Option WriteEnd
end_of (write.Field m) = at_rest.end_of (placeds.machine_of m)
end_of m = None

-- how many steps are left at most: as many exchanges, the copy's address, and the word there
abbrev pub left_with : TriesLeft → ℕ
left_with Two = 5
left_with One = 4
left_with Zero = 3

abbrev pub left_of : StoplessWrite → ℕ
left_of (write.Header spot word) = 8
left_of (write.Keep spot word keep) = 7
left_of (write.Field m) = placeds.left_of at_rest.left_of m
left_of (write.Wide its) = 6
left_of (write.Try its wanted tries) = left_with tries
left_of (write.Address its) = 2

-- what a step makes of what its pass has seen
abbrev pub front : StoplessWrite → ℕ → Front
front (write.Field m) found = placeds.front_of at_rest.front m found
front (write.Wide its) found = wide_front found
front (write.Try its wanted tries) found = wide_front found
front m found = Stays

pub blind_of : (m : StoplessWrite) (at put n : ℕ) → asks_of m ≡ Store at put → fed_of m n ≡ fed_of m 0
blind_of (write.Header spot word) at put n e = absurd cc
blind_of (write.Keep spot word keep) at put n e = absurd cc
blind_of (write.Field m) at put n e = ap write.Field (placeds.blind_of at_rest.asks_of at_rest.fed_of at_rest.blind_of m at put n e)
blind_of (write.Wide its) at put n e = absurd cc
blind_of (write.Try its wanted tries) at put n e = absurd cc
blind_of (write.Address its) at put n e = absurd cc

some_with : (tries : TriesLeft) → 2 < left_with tries
some_with Two = lit< tt
some_with One = lit< tt
some_with Zero = lit< tt

pub none_left_of : (m : StoplessWrite) → asks_of m ≡ Ended → left_of m ≡ 0
none_left_of (write.Header spot word) e = absurd cc
none_left_of (write.Keep spot word keep) e = absurd cc
none_left_of (write.Field m) e = at_rest.none_left_of (placeds.machine_of m) e
none_left_of (write.Wide its) e = absurd cc
none_left_of (write.Try its wanted tries) e = absurd cc
none_left_of (write.Address its) e = absurd cc

pub some_left_of : (m : StoplessWrite) → left_of m ≡ 0 → asks_of m ≡ Ended
some_left_of (write.Header spot word) e = absurd (omega arith)
some_left_of (write.Keep spot word keep) e = absurd (omega arith)
some_left_of (write.Field m) e = at_rest.some_left_of (placeds.machine_of m) e
some_left_of (write.Wide its) e = absurd (omega arith)
some_left_of (write.Try its wanted tries) e = absurd (omega (arith, some_with tries))
some_left_of (write.Address its) e = absurd (omega arith)

looked_falls : (its : WideWrite) (found : ℕ) (status : Status2) → left_of (looked_by its found status) < 6
looked_falls its found InOriginal = lit< tt
looked_falls its found InWide = lit< tt
looked_falls its found InCopy = lit< tt

again_falls : (its : WideWrite) (wanted : ℕ) (tries : TriesLeft) (found : ℕ) → left_of (again its wanted tries found) < left_with tries
again_falls its wanted Two found = lit< tt
again_falls its wanted One found = lit< tt
again_falls its wanted Zero found = lit< tt

lost_falls : (its : WideWrite) (wanted : ℕ) (tries : TriesLeft) (found : ℕ) (status : Status2) → left_of (lost_by its wanted tries found status) < left_with tries
lost_falls its wanted tries found InOriginal = omega (arith, some_with tries)
lost_falls its wanted tries found InWide = again_falls its wanted tries found
lost_falls its wanted tries found InCopy = some_with tries

tried_falls : (its : WideWrite) (wanted : ℕ) (tries : TriesLeft) (found : ℕ) (b : Bool) → left_of (if b then over its.spot its.word Wrote else lost its wanted tries found (wide_word_at found)) < left_with tries
tried_falls its wanted tries found true = omega (arith, some_with tries)
tried_falls its wanted tries found false = let w = wide_word_at found in lost_falls its wanted tries found w.status

word_falls : (spot : Spot) (word header : ℕ) (it : Location) → left_of (at_word spot word header it) < 2
word_falls spot word header it =
    placeds.few_left at_rest.left_of it spot (λ here. at_rest.fed_of (rest.Header here word) header) 2
    (λ here. at_rest.falls_of (rest.Header here word) header (λ e. cc e))

wide_falls : (spot : Spot) (word header : ℕ) (wide : Spot) (b : Bool) → left_of (if b then widened spot word wide else at_word spot word header (location.Wide wide)) < 7
wide_falls spot word header wide true = lit< tt
wide_falls spot word header wide false = omega (arith, word_falls spot word header (location.Wide wide))

placed_falls : (spot : Spot) (word header : ℕ) (it : Location) → left_of (placed spot word header it) < 7
placed_falls spot word header (location.Wide wide) = wide_falls spot word header wide (nat_lt spot.field (len_at header))
placed_falls spot word header (location.Tagged keep) = omega (arith, word_falls spot word header (location.Tagged keep))
placed_falls spot word header location.Original = omega (arith, word_falls spot word header location.Original)
placed_falls spot word header (location.Copy copy) = omega (arith, word_falls spot word header (location.Copy copy))

tagged_falls : (spot : Spot) (word header : ℕ) (it : Location) (next : StoplessWrite) (b : Bool) → left_of next < 8 → left_of (if b then next else placed spot word header it) < 8
tagged_falls spot word header it next true falls = falls
tagged_falls spot word header it next false falls = omega (arith, placed_falls spot word header it)

turned_falls : (spot : Spot) (word header : ℕ) (it : Location) → left_of (turned spot word header it) < 8
turned_falls spot word header (location.Tagged keep) = tagged_falls spot word header (location.Tagged keep) (write.Keep spot word keep) (nat_lt spot.field (let h = header_at header in h.len)) (lit< tt)
turned_falls spot word header location.Original = omega (arith, placed_falls spot word header location.Original)
turned_falls spot word header (location.Wide wide) = omega (arith, placed_falls spot word header (location.Wide wide))
turned_falls spot word header (location.Copy copy) = omega (arith, placed_falls spot word header (location.Copy copy))

pub falls_of : (m : StoplessWrite) (n : ℕ) → asks_of m ≢ Ended → left_of (fed_of m n) < left_of m
falls_of (write.Header spot word) n on = turned_falls spot word n (location_in spot n)
falls_of (write.Keep spot word keep) n on = placed_falls spot word keep.tagged (location_in spot n)
falls_of (write.Field m) n on = placeds.falls_of at_rest.asks_of at_rest.fed_of at_rest.left_of at_rest.falls_of m n on
falls_of (write.Wide its) n on = let w = wide_word_at n in looked_falls its n w.status
falls_of (write.Try its wanted tries) n on = tried_falls its wanted tries n (n == wanted)
falls_of (write.Address its) n on = lit< tt
