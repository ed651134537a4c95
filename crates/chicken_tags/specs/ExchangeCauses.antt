-- Why an exchange ends as it does, whatever others do meanwhile.
use Rattle.std.specs.Prelude.{◌≡◌, ◌≢◌, ℕ, nat_lt, if◌then◌else◌, Bool, true, false, List, [], ◌∷◌, refl}
use Rattle.std.specs.Option.{ForSome}
use Rattle.std.proofs.Common.{sym, subst, inl, inr, append-nil}
use Rattle.call_steps.specs.declared.step.Step.TheVariants.{Load, Ended}
use Rattle.call_steps.specs.Ending.{Taken, LastStep, EndsOnlyFor, up_to, step_of, ends_only_for}
use Rattle.handshakes.specs.declared.phase_word.Phase.{Phase}
use Rattle.barriers.specs.declared.spot.Spot.{Spot}
use Rattle.barriers.specs.declared.ends.TryRefusal.TheVariants as refusal
use Rattle.barriers.specs.declared.ends.ExchangeEnd.{ExchangeEnd}
use Rattle.barriers.specs.declared.ends.ExchangeEnd.TheVariants as exchange_end
use Rattle.barriers.specs.declared.exchange.Errand.{Errand}
use Rattle.barriers.specs.declared.exchange.ExchangeMachine.{ExchangeMachine}
use Rattle.barriers.specs.declared.exchange.ExchangeMachine.TheVariants as rest_exchange
use Rattle.barriers.specs.declared.plain_exchange.PlainExchange.TheVariants as plain
use Rattle.barriers.specs.Causes.{LacksField, len_at, ExchangeEndsFor, IsExchangeFor, exchange_keeps, exchange_ends}
use Rattle.barriers.specs.Exchanges as rest_exchanges
use Rattle.tagged_calls.specs.Locations.{location_in}
use Rattle.tagged_calls.specs.Placeds.{placed_at}
use Rattle.tagged_calls.specs.TaggedCauses.{header_load, header_exchange, Leads, IsApproach, EndsPlaced, IsPlacedFor, PlacedIs, placed_keeps, placed_ends, led_so, lacks, lacks_no_more, turned_so, led_inside}
use Rattle.chicken_tags.specs.declared.exchange.ChickenExchange.{ChickenExchange}
use Rattle.chicken_tags.specs.declared.exchange.ChickenExchange.TheVariants as exchange
use Rattle.chicken_tags.specs.ChickenExchanges as exchanges

-- ---- an exchange

-- It has ended as the exchange of an object at rest does, where the header led it: so it is raced only by the third exchange of the word there; and it is
-- refused for want of the field only where the header that it loaded lacks it.
abbrev pub ExchangeEnds : Errand → Phase → LastStep → ExchangeEnd → Type 0
ExchangeEnds errand phase last (exchange_end.Refused (refusal.NoField len)) = LacksField errand.spot last len
ExchangeEnds errand phase last end = EndsPlaced IsApproach (λ here. ExchangeEndsFor (record errand { spot = here }) phase) errand.spot last end

-- after these steps the machine is an exchange of this field in this phase
abbrev IsExchange : Errand → Phase → List Taken → ChickenExchange → Type 0
IsExchange errand phase earlier (exchange.Header its in_phase) = (its ≡ errand) × (in_phase ≡ phase) × (earlier ≡ [])
IsExchange errand phase earlier (exchange.Keep its in_phase keep) = (its ≡ errand) × (in_phase ≡ phase) × (earlier ≡ header_load errand.spot keep.tagged ∷ []) × (nat_lt errand.spot.field (len_at keep.tagged) ≡ true)
IsExchange errand phase earlier (exchange.Field m) = PlacedIs IsApproach (λ here. IsExchangeFor (record errand { spot = here }) phase) errand.spot earlier m

module _ (errand : Errand) (phase : Phase) where
  abbrev spot : Spot
  spot = errand.spot

  -- the exchange of that field
  abbrev at : Spot → Errand
  at here = record errand { spot = here }

  abbrev exchanged_at : ℕ → Spot → ExchangeMachine
  exchanged_at n here = rest_exchanges.fed_of (rest_exchange.Header (at here) phase) n

  exchange_placed : (n tagged : ℕ) (approach : List Taken) → ((here : Spot) → Leads spot n here → IsApproach spot approach here)
      → PlacedIs IsApproach (λ here. IsExchangeFor (at here) phase) spot approach (placed_at (location_in spot n) spot (exchanged_at tagged))
  exchange_placed n tagged approach leads = led_so (IsPlacedFor IsApproach (λ here. IsExchangeFor (at here) phase) spot approach) spot n (exchanged_at tagged) (λ here led. record {
    here = here;
    approach = approach;
    led = leads here led;
    header = tagged;
    rest = [];
    splits = sym (append-nil approach);
    is = exchange_keeps (at here) phase [] (rest_exchange.Header (at here) phase) tagged (refl, refl, refl);
  })

  exchange_goes : (earlier : List Taken) (m : ChickenExchange) (n : ℕ) → IsExchange errand phase earlier m → IsExchange errand phase (up_to (step_of exchanges.asks_of earlier m n)) (exchanges.fed_of m n)
  exchange_goes earlier (exchange.Header its in_phase) n is =
      let begun : IsExchange errand phase (header_load spot n ∷ []) (exchanges.turned errand phase n (location_in spot n)) =
      turned_so (IsExchange errand phase (header_load spot n ∷ [])) (exchange.Keep errand phase) (exchanges.placed errand phase n) spot n
      (λ inside. (refl, refl, refl, inside)) (exchange_placed n n (header_load spot n ∷ []) (λ here led. inl (n, refl, led))) in
      rw (is.0, is.1, is.2) begun
  exchange_goes earlier (exchange.Keep its in_phase keep) n is =
      let begun : IsExchange errand phase (header_load spot keep.tagged ∷ header_exchange spot keep.tagged keep.kept n ∷ []) (exchanges.placed errand phase keep.tagged (location_in spot n)) =
      exchange_placed n keep.tagged (header_load spot keep.tagged ∷ header_exchange spot keep.tagged keep.kept n ∷ []) (λ here led. inr (keep.tagged, keep.kept, n, refl, led)) in
      rw (is.0, is.1, is.2) begun
  exchange_goes earlier (exchange.Field m) n is =
      placed_keeps IsApproach rest_exchanges.asks_of rest_exchanges.fed_of rest_exchanges.end_of (λ here. IsExchangeFor (at here) phase) (λ here. ExchangeEndsFor (at here) phase) (λ here. exchange_keeps (at here) phase) (λ here. exchange_ends (at here) phase) spot earlier m n is

  -- the steps of its header end it only where the field is lacking
  exchange_first : (n : ℕ) (here : Spot) (b : Bool) → Leads spot n here → nat_lt here.field (len_at n) ≡ b
      → ForSome (rest_exchanges.end_of (if b then rest_exchange.Field (at here) phase (plain.Load (rest_exchanges.swap_of (at here))) else rest_exchange.Ended (at here) (exchange_end.Refused (refusal.NoField (len_at n))))) (ExchangeEnds errand phase (record { earlier = []; step = Load spot.at; found = n }))
  exchange_first n here true led e end is = absurd cc
  exchange_first n here false led e end is =
      let none : exchange_end.Refused (refusal.NoField (len_at n)) ≡ end = cc in
      subst (ExchangeEnds errand phase (record { earlier = []; step = Load spot.at; found = n })) none (lacks spot here n led e)

  exchange_none : (here : Spot) (len : ℕ) (For : ExchangeEnd → Type 0) (b : Bool) → b ≡ true → ForSome (rest_exchanges.end_of (if b then rest_exchange.Field (at here) phase (plain.Load (rest_exchanges.swap_of (at here))) else rest_exchange.Ended (at here) (exchange_end.Refused (refusal.NoField len)))) For
  exchange_none here len For true inside end is = absurd cc
  exchange_none here len For false inside end is = absurd cc

  exchange_so : (last : LastStep) (end : ExchangeEnd) → EndsPlaced IsApproach (λ here. ExchangeEndsFor (at here) phase) spot last end → ExchangeEnds errand phase last end
  exchange_so last exchange_end.Done so = so
  exchange_so last (exchange_end.Differs held) so = so
  exchange_so last (exchange_end.Refused (refusal.NoField len)) so = absurd (lacks_no_more so.here last (header_load so.here so.header) so.rest len so.so)
  exchange_so last (exchange_end.Refused refusal.NotLink) so = so
  exchange_so last (exchange_end.Refused (refusal.Raced loaded found)) so = so
  exchange_so last (exchange_end.Refused (refusal.Busy cycle mark)) so = so

  exchange_over : (earlier : List Taken) (m : ChickenExchange) (n : ℕ) → IsExchange errand phase earlier m → exchanges.asks_of m ≢ Ended → ForSome (exchanges.end_of (exchanges.fed_of m n)) (ExchangeEnds errand phase (step_of exchanges.asks_of earlier m n))
  exchange_over earlier (exchange.Header its in_phase) n is on =
      let last : LastStep = record { earlier = []; step = Load spot.at; found = n } in
      let first : ForSome (exchanges.end_of (exchanges.turned errand phase n (location_in spot n))) (ExchangeEnds errand phase last) =
      turned_so (λ m. ForSome (exchanges.end_of m) (ExchangeEnds errand phase last)) (exchange.Keep errand phase) (exchanges.placed errand phase n) spot n (λ inside end so. absurd cc)
      (led_so (λ m. ForSome (rest_exchanges.end_of m) (ExchangeEnds errand phase last)) spot n (exchanged_at n) (λ here led. exchange_first n here (nat_lt here.field (len_at n)) led refl)) in
      rw (is.0, is.1, is.2) first
  exchange_over earlier (exchange.Keep its in_phase keep) n is on =
      let last : LastStep = step_of exchanges.asks_of earlier (exchange.Keep its in_phase keep) n in
      let none : ForSome (exchanges.end_of (exchanges.placed errand phase keep.tagged (location_in spot n))) (ExchangeEnds errand phase last) =
      led_so (λ m. ForSome (rest_exchanges.end_of m) (ExchangeEnds errand phase last)) spot n (exchanged_at keep.tagged)
      (λ here led. exchange_none here (len_at keep.tagged) (ExchangeEnds errand phase last) (nat_lt here.field (len_at keep.tagged)) (led_inside spot here n (len_at keep.tagged) led is.3)) in
      subst (λ (s : Errand). ForSome (exchanges.end_of (exchanges.placed s in_phase keep.tagged (let e = s in location_in e.spot n))) (ExchangeEnds errand phase last)) (sym is.0)
      (subst (λ (p : Phase). ForSome (exchanges.end_of (exchanges.placed errand p keep.tagged (location_in spot n))) (ExchangeEnds errand phase last)) (sym is.1) none)
  exchange_over earlier (exchange.Field m) n is on = λ end so.
      exchange_so (step_of exchanges.asks_of earlier (exchange.Field m) n) end
      (placed_ends IsApproach rest_exchanges.asks_of rest_exchanges.fed_of rest_exchanges.end_of (λ here. IsExchangeFor (at here) phase) (λ here. ExchangeEndsFor (at here) phase) (λ here. exchange_keeps (at here) phase) (λ here. exchange_ends (at here) phase) spot earlier m n is on end so)

  -- an exchange of this field ends only so
  pub exchange_cause_of : EndsOnlyFor exchanges.asks_of exchanges.fed_of exchanges.end_of (ExchangeEnds errand phase) (exchange.Header errand phase)
  exchange_cause_of = ends_only_for exchanges.asks_of exchanges.fed_of exchanges.end_of (ExchangeEnds errand phase) (IsExchange errand phase) exchange_goes exchange_over (exchange.Header errand phase) (refl, refl, refl)
