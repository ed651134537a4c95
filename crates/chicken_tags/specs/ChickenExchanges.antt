-- An exchange of a field.
use Rattle.std.specs.Prelude.{◌≡◌, ◌≢◌, ℕ, ◌<◌, nat_lt, if◌then◌else◌, Bool, true, false, Option, None}
use Rattle.std.proofs.Common.{arith, ap, lit<}
use Rattle.call_steps.specs.declared.step.Step.{Step}
use Rattle.call_steps.specs.declared.step.Step.TheVariants.{Load, Store, Exchange, Ended}
use Rattle.heap_words.specs.declared.field_word.FieldWord.{FieldWord}
use Rattle.object_headers.specs.Headers.{header_at}
use Rattle.handshakes.specs.declared.pass_view.PassView.{PassView}
use Rattle.handshakes.specs.declared.phase_word.Phase.{Phase}
use Rattle.handshakes.specs.PhaseWords.{phase_word_at}
use Rattle.barriers.specs.declared.exchange.Errand.{Errand}
use Rattle.barriers.specs.declared.front.Front.{Front}
use Rattle.barriers.specs.declared.front.Front.TheVariants.{Stays}
use Rattle.barriers.specs.declared.ends.ExchangeEnd.{ExchangeEnd}
use Rattle.barriers.specs.declared.exchange.ExchangeMachine.TheVariants as rest
use Rattle.barriers.specs.Exchanges as at_rest
use Rattle.tagged_calls.specs.declared.location.Location.{Location}
use Rattle.tagged_calls.specs.declared.location.Location.TheVariants as location
use Rattle.tagged_calls.specs.Locations.{location_in, by_location}
use Rattle.tagged_calls.specs.Placeds as placeds
use Rattle.chicken_tags.specs.declared.exchange.ChickenExchange.{ChickenExchange}
use Rattle.chicken_tags.specs.declared.exchange.ChickenExchange.TheVariants as exchange

-- as it begins
abbrev pub begun : PassView → ℕ → ℕ → ℕ → FieldWord → ℕ → ChickenExchange
begun v birth at field expected word = exchange.Header (at_rest.errand_of birth at field expected word) (let w = phase_word_at v.acked in w.phase)

-- at the word of its field, by the word of a header
abbrev pub placed : Errand → Phase → ℕ → Location → ChickenExchange
placed errand phase header it = exchange.Field (placeds.exchange_in it errand phase header)

-- with the header at hand
abbrev pub turned : Errand → Phase → ℕ → Location → ChickenExchange
turned errand phase header it = by_location (exchange.Keep errand phase) (placed errand phase header) errand.spot header it

-- the step that it takes next
abbrev pub asks_of : ChickenExchange → Step
asks_of (exchange.Header errand phase) = Load errand.spot.at
asks_of (exchange.Keep errand phase keep) = Exchange errand.spot.at keep.tagged keep.kept
asks_of (exchange.Field m) = placeds.asks_of at_rest.asks_of m

-- what it is after it was fed a word
abbrev pub fed_of : ChickenExchange → ℕ → ChickenExchange
fed_of (exchange.Header errand phase) found = turned errand phase found (location_in errand.spot found)
fed_of (exchange.Keep errand phase keep) found = placed errand phase keep.tagged (location_in errand.spot found)
fed_of (exchange.Field m) found = exchange.Field (placeds.fed_of at_rest.fed_of m found)

-- what it ended with
abbrev pub end_of : ChickenExchange → Option ExchangeEnd
end_of (exchange.Header errand phase) = None
end_of (exchange.Keep errand phase keep) = None
end_of (exchange.Field m) = at_rest.end_of (placeds.machine_of m)

-- how many steps are left at most
abbrev pub left_of : ChickenExchange → ℕ
left_of (exchange.Header errand phase) = 10
left_of (exchange.Keep errand phase keep) = 9
left_of (exchange.Field m) = placeds.left_of at_rest.left_of m

-- what a step makes of what its pass has seen
abbrev pub front : ChickenExchange → ℕ → Front
front (exchange.Field m) found = placeds.front_of at_rest.front m found
front m found = Stays

pub blind_of : (m : ChickenExchange) (at put n : ℕ) → asks_of m ≡ Store at put → fed_of m n ≡ fed_of m 0
blind_of (exchange.Header errand phase) at put n e = absurd cc
blind_of (exchange.Keep errand phase keep) at put n e = absurd cc
blind_of (exchange.Field m) at put n e = ap exchange.Field (placeds.blind_of at_rest.asks_of at_rest.fed_of at_rest.blind_of m at put n e)

pub none_left_of : (m : ChickenExchange) → asks_of m ≡ Ended → left_of m ≡ 0
none_left_of (exchange.Header errand phase) e = absurd cc
none_left_of (exchange.Keep errand phase keep) e = absurd cc
none_left_of (exchange.Field m) e = at_rest.none_left_of (placeds.machine_of m) e

pub some_left_of : (m : ChickenExchange) → left_of m ≡ 0 → asks_of m ≡ Ended
some_left_of (exchange.Header errand phase) e = absurd (omega arith)
some_left_of (exchange.Keep errand phase keep) e = absurd (omega arith)
some_left_of (exchange.Field m) e = at_rest.some_left_of (placeds.machine_of m) e

placed_falls : (errand : Errand) (phase : Phase) (header : ℕ) (it : Location) → left_of (placed errand phase header it) < 9
placed_falls errand phase header it =
    placeds.few_left at_rest.left_of it errand.spot (λ here. at_rest.fed_of (rest.Header (record errand { spot = here }) phase) header) 9
    (λ here. at_rest.falls_of (rest.Header (record errand { spot = here }) phase) header (λ e. cc e))

tagged_falls : (errand : Errand) (phase : Phase) (header : ℕ) (it : Location) (next : ChickenExchange) (b : Bool) → left_of next < 10 → left_of (if b then next else placed errand phase header it) < 10
tagged_falls errand phase header it next true falls = falls
tagged_falls errand phase header it next false falls = omega (arith, placed_falls errand phase header it)

turned_falls : (errand : Errand) (phase : Phase) (header : ℕ) (it : Location) → left_of (turned errand phase header it) < 10
turned_falls errand phase header (location.Tagged keep) = tagged_falls errand phase header (location.Tagged keep) (exchange.Keep errand phase keep) (nat_lt errand.spot.field (let h = header_at header in h.len)) (lit< tt)
turned_falls errand phase header location.Original = omega (arith, placed_falls errand phase header location.Original)
turned_falls errand phase header (location.Wide wide) = omega (arith, placed_falls errand phase header (location.Wide wide))
turned_falls errand phase header (location.Copy copy) = omega (arith, placed_falls errand phase header (location.Copy copy))

pub falls_of : (m : ChickenExchange) (n : ℕ) → asks_of m ≢ Ended → left_of (fed_of m n) < left_of m
falls_of (exchange.Header errand phase) n on = turned_falls errand phase n (location_in errand.spot n)
falls_of (exchange.Keep errand phase keep) n on = placed_falls errand phase keep.tagged (location_in errand.spot n)
falls_of (exchange.Field m) n on = placeds.falls_of at_rest.asks_of at_rest.fed_of at_rest.left_of at_rest.falls_of m n on
