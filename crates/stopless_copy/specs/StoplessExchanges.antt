-- An exchange of a field.
use Rattle.std.specs.Prelude.{◌≡◌, ◌≢◌, ℕ, ◌<◌, ◌≤◌, ◌==◌, nat_lt, if◌then◌else◌, Bool, true, false, Option, None}
use Rattle.std.proofs.Common.{arith, ap, lit<}
use Rattle.call_steps.specs.declared.step.Step.{Step}
use Rattle.call_steps.specs.declared.step.Step.TheVariants.{Load, Store, Exchange, Ended}
use Rattle.heap_words.specs.declared.field_word.FieldWord.{FieldWord}
use Rattle.heap_words.specs.FieldWords.{field_at}
use Rattle.object_headers.specs.Headers.{header_at}
use Rattle.wide_objects.specs.declared.wide_word.Status2.{Status2}
use Rattle.wide_objects.specs.declared.wide_word.Status2.TheVariants.{InOriginal, InWide, InCopy}
use Rattle.wide_objects.specs.declared.wide_word.WideWord.{WideWord}
use Rattle.wide_objects.specs.WideWords.{wide_word_at}
use Rattle.handshakes.specs.declared.pass_view.PassView.{PassView}
use Rattle.handshakes.specs.declared.phase_word.Phase.{Phase}
use Rattle.handshakes.specs.PhaseWords.{phase_word_at}
use Rattle.handshakes.specs.Follows as follows
use Rattle.barriers.specs.declared.spot.Spot.{Spot}
use Rattle.barriers.specs.declared.exchange.Errand.{Errand}
use Rattle.barriers.specs.declared.front.Front.{Front}
use Rattle.barriers.specs.declared.front.Front.TheVariants.{Stays}
use Rattle.barriers.specs.declared.ends.TryRefusal.TheVariants.{Raced}
use Rattle.barriers.specs.declared.ends.ExchangeEnd.{ExchangeEnd}
use Rattle.barriers.specs.declared.ends.ExchangeEnd.TheVariants.{Done, Refused}
use Rattle.barriers.specs.declared.plain_exchange.TriesLeft.{TriesLeft}
use Rattle.barriers.specs.declared.plain_exchange.TriesLeft.TheVariants.{Two, One, Zero}
use Rattle.barriers.specs.declared.plain_exchange.PlainExchange.TheVariants as plain
use Rattle.barriers.specs.declared.exchange.ExchangeMachine.{ExchangeMachine}
use Rattle.barriers.specs.declared.exchange.ExchangeMachine.TheVariants as rest
use Rattle.barriers.specs.PlainExchanges.{is_expected}
use Rattle.barriers.specs.Exchanges as at_rest
use Rattle.barriers.specs.Causes.{len_at}
use Rattle.tagged_calls.specs.declared.location.Location.{Location}
use Rattle.tagged_calls.specs.declared.location.Location.TheVariants as location
use Rattle.tagged_calls.specs.declared.placed.Placed.{Placed}
use Rattle.tagged_calls.specs.declared.placed.Placed.TheVariants as places
use Rattle.tagged_calls.specs.Locations.{field_from, location_in, by_location}
use Rattle.tagged_calls.specs.Placeds as placeds
use Rattle.stopless_copy.specs.declared.exchange.WideErrand.{WideErrand}
use Rattle.stopless_copy.specs.declared.exchange.StoplessExchange.{StoplessExchange}
use Rattle.stopless_copy.specs.declared.exchange.StoplessExchange.TheVariants as exchange
use Rattle.stopless_copy.specs.WideSteps.{in_wide, address_at, wide_front, wide_first}

-- as it begins
abbrev pub begun : PassView → ℕ → ℕ → ℕ → FieldWord → ℕ → StoplessExchange
begun v birth at field expected word = exchange.Header (at_rest.errand_of birth at field expected word) (let w = phase_word_at v.acked in w.phase)

-- at the wide object, and at the word of its field, by the word of a header
abbrev pub widened : Errand → Phase → Spot → StoplessExchange
widened errand phase wide = exchange.Wide (record { errand = errand; wide = wide; phase = phase })

abbrev pub at_word : Errand → Phase → ℕ → Location → StoplessExchange
at_word errand phase header it = exchange.Field (placeds.exchange_in it errand phase header)

abbrev pub placed : Errand → Phase → ℕ → Location → StoplessExchange
placed errand phase header it = wide_first (widened errand phase) (at_word errand phase header) errand.spot header it

-- with the header at hand
abbrev pub turned : Errand → Phase → ℕ → Location → StoplessExchange
turned errand phase header it = by_location (exchange.Keep errand phase) (placed errand phase header) errand.spot header it

-- it has ended so
abbrev pub over : Errand → ExchangeEnd → StoplessExchange
over errand end = exchange.Field (places.Original (rest.Ended errand end))

-- the field's word has another value than the expected one, and is followed
abbrev pub differs : Errand → Phase → ℕ → StoplessExchange
differs errand phase word = exchange.Field (places.Original (rest.Follow errand (follows.follow_of phase (field_at word))))

-- with the field's word at hand, and its wide word: that is exchanged where the value is the expected one
abbrev pub expects : Errand → ℕ → Bool
expects errand word = is_expected (at_rest.swap_of errand) word

abbrev pub compared : WideErrand → ℕ → ℕ → StoplessExchange
compared its wanted word = if expects its.errand word then exchange.Try its wanted Two else differs its.errand its.phase word

-- with the wide word at hand
abbrev pub looked_by : WideErrand → ℕ → Status2 → ℕ → StoplessExchange
looked_by its found InOriginal word = exchange.Original its
looked_by its found InWide word = compared its found word
looked_by its found InCopy word = exchange.Address its

abbrev pub looked : WideErrand → ℕ → WideWord → StoplessExchange
looked its found wide = looked_by its found wide.status wide.word

-- an exchange wanted the one wide word and found the other
abbrev pub raced : WideErrand → ℕ → ℕ → StoplessExchange
raced its loaded found = over its.errand (Refused (Raced loaded found))

-- after a lost exchange that found the expected value in the wide object: the next one wants what was found, if there is a next one
abbrev pub again : WideErrand → ℕ → TriesLeft → ℕ → StoplessExchange
again its wanted Two found = exchange.Try its found One
again its wanted One found = exchange.Try its found Zero
again its wanted Zero found = raced its wanted found

-- after a lost exchange that found this word of the field in the wide object
abbrev pub retried : WideErrand → ℕ → TriesLeft → ℕ → ℕ → StoplessExchange
retried its wanted tries found word = if expects its.errand word then again its wanted tries found else differs its.errand its.phase word

-- after a lost exchange, by the status found; no value comes back into the original
abbrev pub lost_by : WideErrand → ℕ → TriesLeft → ℕ → Status2 → ℕ → StoplessExchange
lost_by its wanted tries found InOriginal word = raced its wanted found
lost_by its wanted tries found InWide word = retried its wanted tries found word
lost_by its wanted tries found InCopy word = exchange.Address its

abbrev pub lost : WideErrand → ℕ → TriesLeft → ℕ → WideWord → StoplessExchange
lost its wanted tries found wide = lost_by its wanted tries found wide.status wide.word

-- after an exchange, which won where it found what it wanted
abbrev pub tried : WideErrand → ℕ → TriesLeft → ℕ → StoplessExchange
tried its wanted tries found = if found == wanted then over its.errand Done else lost its wanted tries found (wide_word_at found)

-- the exchange of the word in the copy
abbrev pub errand_at : Errand → ℕ → Errand
errand_at errand at = record errand { spot = field_from errand.spot at }

-- at the word in the copy at this address
abbrev pub copied : WideErrand → ℕ → Placed ExchangeMachine
copied its at = let here = errand_at its.errand at in places.Copy its.errand.spot (rest.Field here its.phase (plain.Load (at_rest.swap_of here)))

-- with the word that has the copy's address at hand
abbrev pub addressed : WideErrand → ℕ → StoplessExchange
addressed its found = exchange.Field (copied its (address_at found))

-- the step that it takes next
abbrev pub asks_of : StoplessExchange → Step
asks_of (exchange.Header errand phase) = Load errand.spot.at
asks_of (exchange.Keep errand phase keep) = Exchange errand.spot.at keep.tagged keep.kept
asks_of (exchange.Field m) = placeds.asks_of at_rest.asks_of m
asks_of (exchange.Wide its) = Load its.wide.place
asks_of (exchange.Original its) = Load its.errand.spot.place
asks_of (exchange.Try its wanted tries) = Exchange its.wide.place wanted (in_wide its.errand.word)
asks_of (exchange.Address its) = Load its.wide.at

-- what it is after it was fed a word
abbrev pub fed_of : StoplessExchange → ℕ → StoplessExchange
fed_of (exchange.Header errand phase) found = turned errand phase found (location_in errand.spot found)
fed_of (exchange.Keep errand phase keep) found = placed errand phase keep.tagged (location_in errand.spot found)
fed_of (exchange.Field m) found = exchange.Field (placeds.fed_of at_rest.fed_of m found)
fed_of (exchange.Wide its) found = looked its found (wide_word_at found)
fed_of (exchange.Original its) found = compared its 0 found
fed_of (exchange.Try its wanted tries) found = tried its wanted tries found
fed_of (exchange.Address its) found = addressed its found

-- what it ended with
abbrev pub end_of : StoplessExchange → Option ExchangeEnd
end_of (exchange.Field m) = at_rest.end_of (placeds.machine_of m)
end_of m = None

-- how many steps are left at most: as many exchanges, the copy's address, the exchange there, and a follow
abbrev pub left_with : TriesLeft → ℕ
left_with Two = 12
left_with One = 11
left_with Zero = 10

abbrev pub left_of : StoplessExchange → ℕ
left_of (exchange.Header errand phase) = 16
left_of (exchange.Keep errand phase keep) = 15
left_of (exchange.Field m) = placeds.left_of at_rest.left_of m
left_of (exchange.Wide its) = 14
left_of (exchange.Original its) = 13
left_of (exchange.Try its wanted tries) = left_with tries
left_of (exchange.Address its) = 9

-- what a step makes of what its pass has seen
abbrev pub front : StoplessExchange → ℕ → Front
front (exchange.Field m) found = placeds.front_of at_rest.front m found
front (exchange.Wide its) found = wide_front found
front (exchange.Try its wanted tries) found = wide_front found
front m found = Stays

pub blind_of : (m : StoplessExchange) (at put n : ℕ) → asks_of m ≡ Store at put → fed_of m n ≡ fed_of m 0
blind_of (exchange.Header errand phase) at put n e = absurd cc
blind_of (exchange.Keep errand phase keep) at put n e = absurd cc
blind_of (exchange.Field m) at put n e = ap exchange.Field (placeds.blind_of at_rest.asks_of at_rest.fed_of at_rest.blind_of m at put n e)
blind_of (exchange.Wide its) at put n e = absurd cc
blind_of (exchange.Original its) at put n e = absurd cc
blind_of (exchange.Try its wanted tries) at put n e = absurd cc
blind_of (exchange.Address its) at put n e = absurd cc

some_with : (tries : TriesLeft) → 9 < left_with tries
some_with Two = lit< tt
some_with One = lit< tt
some_with Zero = lit< tt

pub none_left_of : (m : StoplessExchange) → asks_of m ≡ Ended → left_of m ≡ 0
none_left_of (exchange.Header errand phase) e = absurd cc
none_left_of (exchange.Keep errand phase keep) e = absurd cc
none_left_of (exchange.Field m) e = at_rest.none_left_of (placeds.machine_of m) e
none_left_of (exchange.Wide its) e = absurd cc
none_left_of (exchange.Original its) e = absurd cc
none_left_of (exchange.Try its wanted tries) e = absurd cc
none_left_of (exchange.Address its) e = absurd cc

pub some_left_of : (m : StoplessExchange) → left_of m ≡ 0 → asks_of m ≡ Ended
some_left_of (exchange.Header errand phase) e = absurd (omega arith)
some_left_of (exchange.Keep errand phase keep) e = absurd (omega arith)
some_left_of (exchange.Field m) e = at_rest.some_left_of (placeds.machine_of m) e
some_left_of (exchange.Wide its) e = absurd (omega arith)
some_left_of (exchange.Original its) e = absurd (omega arith)
some_left_of (exchange.Try its wanted tries) e = absurd (omega (arith, some_with tries))
some_left_of (exchange.Address its) e = absurd (omega arith)

differs_left : (errand : Errand) (phase : Phase) (word : ℕ) → left_of (differs errand phase word) ≤ 4
differs_left errand phase word = follows.follow_of-left phase (field_at word)

compared_falls : (its : WideErrand) (wanted word : ℕ) (b : Bool) → left_of (if b then exchange.Try its wanted Two else differs its.errand its.phase word) < 13
compared_falls its wanted word true = lit< tt
compared_falls its wanted word false = omega (arith, differs_left its.errand its.phase word)

looked_falls : (its : WideErrand) (found : ℕ) (status : Status2) (word : ℕ) → left_of (looked_by its found status word) < 14
looked_falls its found InOriginal word = lit< tt
looked_falls its found InWide word = omega (arith, compared_falls its found word (expects its.errand word))
looked_falls its found InCopy word = lit< tt

again_falls : (its : WideErrand) (wanted : ℕ) (tries : TriesLeft) (found : ℕ) → left_of (again its wanted tries found) < left_with tries
again_falls its wanted Two found = lit< tt
again_falls its wanted One found = lit< tt
again_falls its wanted Zero found = lit< tt

retried_falls : (its : WideErrand) (wanted : ℕ) (tries : TriesLeft) (found word : ℕ) (b : Bool) → left_of (if b then again its wanted tries found else differs its.errand its.phase word) < left_with tries
retried_falls its wanted tries found word true = again_falls its wanted tries found
retried_falls its wanted tries found word false = omega (arith, differs_left its.errand its.phase word, some_with tries)

lost_falls : (its : WideErrand) (wanted : ℕ) (tries : TriesLeft) (found : ℕ) (status : Status2) (word : ℕ) → left_of (lost_by its wanted tries found status word) < left_with tries
lost_falls its wanted tries found InOriginal word = omega (arith, some_with tries)
lost_falls its wanted tries found InWide word = retried_falls its wanted tries found word (expects its.errand word)
lost_falls its wanted tries found InCopy word = some_with tries

tried_falls : (its : WideErrand) (wanted : ℕ) (tries : TriesLeft) (found : ℕ) (b : Bool) → left_of (if b then over its.errand Done else lost its wanted tries found (wide_word_at found)) < left_with tries
tried_falls its wanted tries found true = omega (arith, some_with tries)
tried_falls its wanted tries found false = let w = wide_word_at found in lost_falls its wanted tries found w.status w.word

word_falls : (errand : Errand) (phase : Phase) (header : ℕ) (it : Location) → left_of (at_word errand phase header it) < 9
word_falls errand phase header it =
    placeds.few_left at_rest.left_of it errand.spot (λ here. at_rest.fed_of (rest.Header (record errand { spot = here }) phase) header) 9
    (λ here. at_rest.falls_of (rest.Header (record errand { spot = here }) phase) header (λ e. cc e))

wide_falls : (errand : Errand) (phase : Phase) (header : ℕ) (wide : Spot) (b : Bool) → left_of (if b then widened errand phase wide else at_word errand phase header (location.Wide wide)) < 15
wide_falls errand phase header wide true = lit< tt
wide_falls errand phase header wide false = omega (arith, word_falls errand phase header (location.Wide wide))

placed_falls : (errand : Errand) (phase : Phase) (header : ℕ) (it : Location) → left_of (placed errand phase header it) < 15
placed_falls errand phase header (location.Wide wide) = wide_falls errand phase header wide (nat_lt errand.spot.field (len_at header))
placed_falls errand phase header (location.Tagged keep) = omega (arith, word_falls errand phase header (location.Tagged keep))
placed_falls errand phase header location.Original = omega (arith, word_falls errand phase header location.Original)
placed_falls errand phase header (location.Copy copy) = omega (arith, word_falls errand phase header (location.Copy copy))

tagged_falls : (errand : Errand) (phase : Phase) (header : ℕ) (it : Location) (next : StoplessExchange) (b : Bool) → left_of next < 16 → left_of (if b then next else placed errand phase header it) < 16
tagged_falls errand phase header it next true falls = falls
tagged_falls errand phase header it next false falls = omega (arith, placed_falls errand phase header it)

turned_falls : (errand : Errand) (phase : Phase) (header : ℕ) (it : Location) → left_of (turned errand phase header it) < 16
turned_falls errand phase header (location.Tagged keep) = tagged_falls errand phase header (location.Tagged keep) (exchange.Keep errand phase keep) (nat_lt errand.spot.field (let h = header_at header in h.len)) (lit< tt)
turned_falls errand phase header location.Original = omega (arith, placed_falls errand phase header location.Original)
turned_falls errand phase header (location.Wide wide) = omega (arith, placed_falls errand phase header (location.Wide wide))
turned_falls errand phase header (location.Copy copy) = omega (arith, placed_falls errand phase header (location.Copy copy))

pub falls_of : (m : StoplessExchange) (n : ℕ) → asks_of m ≢ Ended → left_of (fed_of m n) < left_of m
falls_of (exchange.Header errand phase) n on = turned_falls errand phase n (location_in errand.spot n)
falls_of (exchange.Keep errand phase keep) n on = placed_falls errand phase keep.tagged (location_in errand.spot n)
falls_of (exchange.Field m) n on = placeds.falls_of at_rest.asks_of at_rest.fed_of at_rest.left_of at_rest.falls_of m n on
falls_of (exchange.Wide its) n on = let w = wide_word_at n in looked_falls its n w.status w.word
falls_of (exchange.Original its) n on = compared_falls its 0 n (expects its.errand n)
falls_of (exchange.Try its wanted tries) n on = tried_falls its wanted tries n (n == wanted)
falls_of (exchange.Address its) n on = lit< tt
