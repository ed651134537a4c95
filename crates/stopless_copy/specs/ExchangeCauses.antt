-- Why an exchange ends as it does, whatever others do meanwhile.
use Rattle.std.specs.Prelude.{◌≡◌, ◌≢◌, ℕ, ◌⊎◌, ◌==◌, nat_lt, if◌then◌else◌, Bool, true, false, List, [], ◌∷◌, ◌++◌, refl}
use Rattle.std.specs.Option.{ForSome}
use Rattle.std.proofs.Common.{sym, subst, ap, ◌∙◌, inl, inr, append-nil}
use Rattle.std.proofs.lemmas.Bool.{eqb-true, eqb-false}
use Rattle.call_steps.specs.declared.step.Step.TheVariants.{Load, Exchange, Ended}
use Rattle.call_steps.specs.Ending.{Taken, LastStep, EndsOnlyFor, up_to, step_of, ends_only_for}
use Rattle.heap_words.specs.FieldWords.{field_at, is_same_value}
use Rattle.wide_objects.specs.declared.wide_word.Status2.{Status2}
use Rattle.wide_objects.specs.declared.wide_word.Status2.TheVariants.{InOriginal, InWide, InCopy}
use Rattle.wide_objects.specs.WideWords.{wide_word_at}
use Rattle.handshakes.specs.declared.phase_word.Phase.{Phase}
use Rattle.handshakes.specs.Follows as follows
use Rattle.barriers.specs.declared.spot.Spot.{Spot}
use Rattle.barriers.specs.declared.ends.TryRefusal.TheVariants as refusal
use Rattle.barriers.specs.declared.ends.ExchangeEnd.{ExchangeEnd}
use Rattle.barriers.specs.declared.ends.ExchangeEnd.TheVariants as exchange_end
use Rattle.barriers.specs.declared.exchange.Errand.{Errand}
use Rattle.barriers.specs.declared.plain_exchange.TriesLeft.{TriesLeft}
use Rattle.barriers.specs.declared.plain_exchange.TriesLeft.TheVariants.{Two, One, Zero}
use Rattle.barriers.specs.declared.plain_exchange.PlainExchange.TheVariants as plain
use Rattle.barriers.specs.declared.exchange.ExchangeMachine.{ExchangeMachine}
use Rattle.barriers.specs.declared.exchange.ExchangeMachine.TheVariants as rest_exchange
use Rattle.barriers.specs.FollowCauses.{IsGiven, IsFollowing, follow_begins, found_at_once, follow_ends, followed, for_mapped}
use Rattle.barriers.specs.Causes.{LacksField, len_at, ExchangeEndsFor, IsExchangeFor, exchange_keeps, exchange_ends}
use Rattle.barriers.specs.Exchanges as rest_exchanges
use Rattle.tagged_calls.specs.declared.placed.Placed.{Placed}
use Rattle.tagged_calls.specs.declared.placed.Placed.TheVariants as placed
use Rattle.tagged_calls.specs.Locations.{field_from, location_in}
use Rattle.tagged_calls.specs.Placeds.{placed_at}
use Rattle.tagged_calls.specs.TaggedCauses.{header_load, header_exchange, Leads, IsHeaderWay, EndsPlaced, IsPlacedFor, PlacedIs, placed_keeps, placed_ends, led_so, lacks, lacks_no_more, turned_so, led_inside}
use Rattle.stopless_copy.specs.declared.exchange.WideErrand.{WideErrand}
use Rattle.stopless_copy.specs.declared.exchange.StoplessExchange.{StoplessExchange}
use Rattle.stopless_copy.specs.declared.exchange.StoplessExchange.TheVariants as exchange
use Rattle.stopless_copy.specs.StoplessExchanges as exchanges
use Rattle.stopless_copy.specs.WideSteps.{in_wide, address_at}
use Rattle.stopless_copy.specs.WideCauses.{status_in, word_in, wide_field, LeadsWide, IsWideWay, IsAtWord, IsServed, HasTried, IsRaced, IsMade, IsCopied, IsLed, Tries, tried_once, tried_twice, first_so}

-- the word of the field has the expected value
abbrev pub Expected : Errand → ℕ → Type 0
Expected errand word = exchanges.expects errand word ≡ true

-- the step was at the wide object: it loaded the wide word that the header told, or lost the exchange of it, and found the value there; or it loaded the word in
-- the original, where the wide word had said that the value is
pub data AtWide (errand : Errand) (last : LastStep) : Type 0 where
  Loaded : (wide : Spot) (way : IsWideWay errand.spot last.earlier wide) (step : last.step ≡ Load wide.place) (says : status_in last.found ≡ InWide) → AtWide errand last
  Lost : (wide : Spot) (wanted : ℕ) (tries : TriesLeft) (tried : Tries (Expected errand) errand.spot wide errand.word wanted tries last) (other : last.found ≢ wanted) (says : status_in last.found ≡ InWide) → AtWide errand last
  LoadedLate : (wide : Spot) (word : ℕ) (at : IsAtWord errand.spot wide last.earlier word) (says : status_in word ≡ InOriginal) (step : last.step ≡ Load errand.spot.place) → AtWide errand last

-- and what it found has another value than the expected one
abbrev pub FindsOther : Errand → LastStep → Type 0
FindsOther errand last = AtWide errand last × (exchanges.expects errand last.found ≡ false)

-- It has ended as the exchange of an object at rest does, where the header led it, or the wide object led it to the copy; or at the wide object; and it is
-- refused for want of the field only where the header that it loaded lacks it.
abbrev pub EndsAtRest : Errand → Phase → LastStep → ExchangeEnd → Type 0
EndsAtRest errand phase last end = EndsPlaced (IsLed (Expected errand) errand.word) (λ here. ExchangeEndsFor (record errand { spot = here }) phase) errand.spot last end

abbrev pub ExchangeEnds : Errand → Phase → LastStep → ExchangeEnd → Type 0
ExchangeEnds errand phase last exchange_end.Done = EndsAtRest errand phase last exchange_end.Done ⊎ IsMade (Expected errand) errand.spot errand.word last
ExchangeEnds errand phase last (exchange_end.Differs held) = EndsAtRest errand phase last (exchange_end.Differs held) ⊎ IsGiven (FindsOther errand) phase last held
ExchangeEnds errand phase last (exchange_end.Refused (refusal.NoField len)) = LacksField errand.spot last len
ExchangeEnds errand phase last (exchange_end.Refused (refusal.Raced loaded found)) =
    EndsAtRest errand phase last (exchange_end.Refused (refusal.Raced loaded found)) ⊎ IsRaced (Expected errand) errand.spot errand.word last loaded found
ExchangeEnds errand phase last end = EndsAtRest errand phase last end

-- it follows what differs, or has ended, at the wide object
abbrev IsWideEnd : Errand → Phase → List Taken → Placed ExchangeMachine → Type 0
IsWideEnd errand phase earlier (placed.Original (rest_exchange.Follow its f)) = IsFollowing (FindsOther errand) phase earlier f
IsWideEnd errand phase earlier (placed.Original (rest_exchange.Ended its end)) = Unit {0}
IsWideEnd errand phase earlier m = ⊥

abbrev IsRests : Errand → Phase → List Taken → Placed ExchangeMachine → Type 0
IsRests errand phase earlier m = PlacedIs (IsLed (Expected errand) errand.word) (λ here. IsExchangeFor (record errand { spot = here }) phase) errand.spot earlier m

abbrev IsSame : Errand → Phase → WideErrand → Type 0
IsSame errand phase its = (its.errand ≡ errand) × (its.phase ≡ phase)

-- after these steps the machine is an exchange of this field in this phase
abbrev IsExchange : Errand → Phase → List Taken → StoplessExchange → Type 0
IsExchange errand phase earlier (exchange.Header its in_phase) = (its ≡ errand) × (in_phase ≡ phase) × (earlier ≡ [])
IsExchange errand phase earlier (exchange.Keep its in_phase keep) = (its ≡ errand) × (in_phase ≡ phase) × (earlier ≡ header_load errand.spot keep.tagged ∷ []) × (nat_lt errand.spot.field (len_at keep.tagged) ≡ true)
IsExchange errand phase earlier (exchange.Field m) = IsRests errand phase earlier m ⊎ IsWideEnd errand phase earlier m
IsExchange errand phase earlier (exchange.Wide its) = IsSame errand phase its × IsWideWay errand.spot earlier its.wide
IsExchange errand phase earlier (exchange.Original its) = IsSame errand phase its × ((word : ℕ) × IsAtWord errand.spot its.wide earlier word × (status_in word ≡ InOriginal))
IsExchange errand phase earlier (exchange.Try its wanted tries) = IsSame errand phase its × HasTried (Expected errand) errand.spot its.wide errand.word wanted tries earlier
IsExchange errand phase earlier (exchange.Address its) = IsSame errand phase its × IsCopied (Expected errand) errand.spot its.wide errand.word earlier

module _ (errand : Errand) (phase : Phase) where
  abbrev spot : Spot
  spot = errand.spot

  abbrev Is : List Taken → StoplessExchange → Type 0
  Is = IsExchange errand phase

  abbrev Ends : LastStep → ExchangeEnd → Type 0
  Ends = ExchangeEnds errand phase

  -- the exchange of that field
  abbrev at : Spot → Errand
  at here = record errand { spot = here }

  -- ---- after the header

  abbrev exchanged_at : ℕ → Spot → ExchangeMachine
  exchanged_at n here = rest_exchanges.fed_of (rest_exchange.Header (at here) phase) n

  -- where the last header of this way leads
  module _ (n tagged : ℕ) (approach : List Taken) (way : (Says : ℕ → Type 0) → Says n → IsHeaderWay Says spot approach) where
    at_rest_is : IsRests errand phase approach (placed_at (location_in spot n) spot (exchanged_at tagged))
    at_rest_is = led_so (IsPlacedFor (IsLed (Expected errand) errand.word) (λ here. IsExchangeFor (at here) phase) spot approach) spot n (exchanged_at tagged) (λ here led. record {
      here = here;
      approach = approach;
      led = inl (way (λ w. Leads spot w here) led);
      header = tagged;
      rest = [];
      splits = sym (append-nil approach);
      is = exchange_keeps (at here) phase [] (rest_exchange.Header (at here) phase) tagged (refl, refl, refl);
    })

    placed_is : Is approach (exchanges.placed errand phase tagged (location_in spot n))
    placed_is = first_so (Is approach) (exchanges.widened errand phase) (exchanges.at_word errand phase tagged) spot tagged n (λ wide led inside. ((refl, refl), way (λ w. LeadsWide spot w wide) led)) (inl at_rest_is)

  header_is : (n : ℕ) → Is (header_load spot n ∷ []) (exchanges.turned errand phase n (location_in spot n))
  header_is n =
      turned_so (Is (header_load spot n ∷ [])) (exchange.Keep errand phase) (exchanges.placed errand phase n) spot n
      (λ inside. (refl, refl, refl, inside)) (placed_is n n (header_load spot n ∷ []) (λ Says so. inl (n, refl, so)))

  -- ---- what differs

  -- it found so at the wide object
  module _ (last : LastStep) (look : AtWide errand last) (word : ℕ) (same : field_at word ≡ field_at last.found) where
    other_found : exchanges.expects errand word ≡ false → FindsOther errand last
    other_found other = (look, ap (is_same_value errand.expected) (sym same) ∙ other)

    differs_is : exchanges.expects errand word ≡ false → Is (up_to last) (exchanges.differs errand phase word)
    differs_is other = inr (follow_begins (FindsOther errand) last (other_found other) phase (field_at word) same)

    differs_ends : exchanges.expects errand word ≡ false → ForSome (exchanges.end_of (exchanges.differs errand phase word)) (Ends last)
    differs_ends other =
        let found = found_at_once (FindsOther errand) last (other_found other) phase (field_at word) same in
        for_mapped (λ e. exchange_end.Differs e.word) (follows.end_of (follows.follow_of phase (field_at word))) (Ends last) (λ e is. inr (inl (found e is)))

    -- or it serves
    other_is : (m : StoplessExchange) → (Expected errand word → Is (up_to last) m) → (b : Bool) → exchanges.expects errand word ≡ b → Is (up_to last) (if b then m else exchanges.differs errand phase word)
    other_is m serves true e = serves e
    other_is m serves false e = differs_is e

    other_ends : (m : StoplessExchange) → (Expected errand word → ForSome (exchanges.end_of m) (Ends last)) → (b : Bool) → exchanges.expects errand word ≡ b → ForSome (exchanges.end_of (if b then m else exchanges.differs errand phase word)) (Ends last)
    other_ends m serves true e = serves e
    other_ends m serves false e = differs_ends e

  -- ---- at the wide word

  -- of this spot in the wide object
  module _ (wide : Spot) where
    abbrev this : WideErrand
    this = record { errand = errand; wide = wide; phase = phase }

    -- after the load of it
    module _ (earlier : List Taken) (n : ℕ) (way : IsWideWay spot earlier wide) where
      abbrev look : LastStep
      look = record { earlier = earlier; step = Load wide.place; found = n }

      abbrev word_loaded : IsAtWord spot wide (up_to look) n
      word_loaded = record { way = earlier; led = way; splits = refl }

      looked_is : (status : Status2) → status_in n ≡ status → Is (up_to look) (exchanges.looked_by this n status (word_in n))
      looked_is InOriginal says = ((refl, refl), (n, word_loaded, says))
      looked_is InWide says =
          other_is look (Loaded wide way refl says) (word_in n) (wide_field n says) (exchange.Try this n Two)
          (λ serves. ((refl, refl), inl (word_loaded, ((λ e. let gone : InWide ≡ InCopy = sym says ∙ e in cc), (λ e. serves))))) (exchanges.expects errand (word_in n)) refl
      looked_is InCopy says = ((refl, refl), (n, says, inl word_loaded))

      looked_ends : (status : Status2) → status_in n ≡ status → ForSome (exchanges.end_of (exchanges.looked_by this n status (word_in n))) (Ends look)
      looked_ends InOriginal says = λ end is. absurd cc
      looked_ends InWide says = other_ends look (Loaded wide way refl says) (word_in n) (wide_field n says) (exchange.Try this n Two) (λ serves end is. absurd cc) (exchanges.expects errand (word_in n)) refl
      looked_ends InCopy says = λ end is. absurd cc

    -- after the load in the original
    module _ (earlier : List Taken) (n word : ℕ) (before : IsAtWord spot wide earlier word) (says : status_in word ≡ InOriginal) where
      abbrev late : LastStep
      late = record { earlier = earlier; step = Load spot.place; found = n }

      compared_is : Is (up_to late) (exchanges.compared this 0 n)
      compared_is =
          other_is late (LoadedLate wide word before says refl) n refl (exchange.Try this 0 Two)
          (λ serves. ((refl, refl), inr (n, record { before = earlier; word = word; at = before; says = says; splits = refl }, serves, refl))) (exchanges.expects errand n) refl

      compared_ends : ForSome (exchanges.end_of (exchanges.compared this 0 n)) (Ends late)
      compared_ends = other_ends late (LoadedLate wide word before says refl) n refl (exchange.Try this 0 Two) (λ serves end is. absurd cc) (exchanges.expects errand n) refl

    -- after an exchange that wanted this
    module _ (earlier : List Taken) (wanted : ℕ) (tries : TriesLeft) (n : ℕ) (tried : HasTried (Expected errand) spot wide errand.word wanted tries earlier) where
      abbrev trial : LastStep
      trial = record { earlier = earlier; step = Exchange wide.place wanted (in_wide errand.word); found = n }

      again_is : (tries : TriesLeft) → HasTried (Expected errand) spot wide errand.word wanted tries earlier → IsServed (Expected errand) n → Is (up_to trial) (exchanges.again this wanted tries n)
      again_is Two tried served = ((refl, refl), tried_once (Expected errand) spot wide errand.word wanted n earlier tried served)
      again_is One tried served = ((refl, refl), tried_twice (Expected errand) spot wide errand.word wanted n earlier tried served)
      again_is Zero tried served = inr tt

      lost_is : (status : Status2) → n ≢ wanted → status_in n ≡ status → Is (up_to trial) (exchanges.lost_by this wanted tries n status (word_in n))
      lost_is InOriginal other says = inr tt
      lost_is InWide other says =
          other_is trial (Lost wide wanted tries (tried, refl) other says) (word_in n) (wide_field n says) (exchanges.again this wanted tries n) (λ serves. again_is tries tried (says, serves)) (exchanges.expects errand (word_in n)) refl
      lost_is InCopy other says = ((refl, refl), (n, says, inr (earlier, wanted, tries, tried, refl)))

      tried_is : (b : Bool) → (n == wanted) ≡ b → Is (up_to trial) (if b then exchanges.over errand exchange_end.Done else exchanges.lost this wanted tries n (wide_word_at n))
      tried_is true e = inr tt
      tried_is false e = lost_is (status_in n) (eqb-false n wanted e) refl

      again_ends : (tries : TriesLeft) → HasTried (Expected errand) spot wide errand.word wanted tries earlier → n ≢ wanted → IsServed (Expected errand) n → ForSome (exchanges.end_of (exchanges.again this wanted tries n)) (Ends trial)
      again_ends Two tried other served end is = absurd cc
      again_ends One tried other served end is = absurd cc
      again_ends Zero tried other served end is =
          let same : exchange_end.Refused (refusal.Raced wanted n) ≡ end = cc in
          subst (Ends trial) same (inr (inl (record { wide = wide; tried = tried; wants = refl; finds = refl; other = other; loaded_serves = tried.0; found_serves = served })))

      lost_ends : (status : Status2) → n ≢ wanted → status_in n ≡ status → ForSome (exchanges.end_of (exchanges.lost_by this wanted tries n status (word_in n))) (Ends trial)
      lost_ends InOriginal other says = λ end is.
          let same : exchange_end.Refused (refusal.Raced wanted n) ≡ end = cc in
          subst (Ends trial) same (inr (inr (record { wide = wide; tries = tries; tried = tried; wants = refl; finds = refl; other = other; says = says })))
      lost_ends InWide other says =
          other_ends trial (Lost wide wanted tries (tried, refl) other says) (word_in n) (wide_field n says) (exchanges.again this wanted tries n) (λ serves. again_ends tries tried other (says, serves)) (exchanges.expects errand (word_in n)) refl
      lost_ends InCopy other says = λ end is. absurd cc

      tried_ends : (b : Bool) → (n == wanted) ≡ b → ForSome (exchanges.end_of (if b then exchanges.over errand exchange_end.Done else exchanges.lost this wanted tries n (wide_word_at n))) (Ends trial)
      tried_ends true e end is =
          let same : exchange_end.Done ≡ end = cc in
          let won : wanted ≡ n = sym (eqb-true n wanted e) in
          subst (Ends trial) same (inr (record { wide = wide; tries = tries; tried = subst (λ (w : ℕ). HasTried (Expected errand) spot wide errand.word w tries earlier) won tried; wants = ap (λ (w : ℕ). Exchange wide.place w (in_wide errand.word)) won }))
      tried_ends false e end is = lost_ends (status_in n) (eqb-false n wanted e) refl end is

    address_is : (earlier : List Taken) (n : ℕ) → IsCopied (Expected errand) spot wide errand.word earlier → IsRests errand phase (earlier ++ record { step = Load wide.at; found = n } ∷ []) (exchanges.copied this (address_at n))
    address_is earlier n copied =
        let here = field_from spot (address_at n) in
        let header : Taken = header_load here 0 in
        record {
          here = here;
          approach = earlier ++ record { step = Load wide.at; found = n } ∷ [];
          led = inr (record { wide = wide; before = earlier; copied = copied; found = n; splits = refl; at = refl });
          header = 0;
          rest = [];
          splits = sym (append-nil (earlier ++ record { step = Load wide.at; found = n } ∷ []));
          is = (refl, record { header = header; rest = []; begins = refl; same = (refl, refl); goes_on = λ ended. absurd cc });
        }

  -- the exchange is this one, in this phase
  same_errand : (its : WideErrand) (P : WideErrand → Type 0) → IsSame errand phase its → P (record { errand = errand; wide = its.wide; phase = phase }) → P its
  same_errand its P same so =
      subst (λ (p : Phase). P (record its { phase = p })) (sym same.1)
      (subst (λ (e : Errand). P (record { errand = e; wide = its.wide; phase = phase })) (sym same.0) so)

  -- ---- each step

  wide_end_is : (earlier later : List Taken) (m : Placed ExchangeMachine) (n : ℕ) → IsWideEnd errand phase earlier m → Is later (exchanges.fed_of (exchange.Field m) n)
  wide_end_is earlier later (placed.Original (rest_exchange.Follow its f)) n is = inr (follow_ends (FindsOther errand) phase earlier later f n is)
  wide_end_is earlier later (placed.Original (rest_exchange.Ended its end)) n is = inr tt
  wide_end_is earlier later m n is = absurd is

  exchange_goes : (earlier : List Taken) (m : StoplessExchange) (n : ℕ) → Is earlier m → Is (up_to (step_of exchanges.asks_of earlier m n)) (exchanges.fed_of m n)
  exchange_goes earlier (exchange.Header its in_phase) n is = rw (is.0, is.1, is.2) (header_is n)
  exchange_goes earlier (exchange.Keep its in_phase keep) n is =
      rw (is.0, is.1, is.2) (placed_is n keep.tagged (header_load spot keep.tagged ∷ header_exchange spot keep.tagged keep.kept n ∷ []) (λ Says so. inr (keep.tagged, keep.kept, n, refl, so)))
  exchange_goes earlier (exchange.Field m) n (inl is) =
      inl (placed_keeps (IsLed (Expected errand) errand.word) rest_exchanges.asks_of rest_exchanges.fed_of rest_exchanges.end_of (λ here. IsExchangeFor (at here) phase) (λ here. ExchangeEndsFor (at here) phase) (λ here. exchange_keeps (at here) phase) (λ here. exchange_ends (at here) phase) spot earlier m n is)
  exchange_goes earlier (exchange.Field m) n (inr is) = wide_end_is earlier _ m n is
  exchange_goes earlier (exchange.Wide its) n is =
      same_errand its (λ (m : WideErrand). Is (up_to (step_of exchanges.asks_of earlier (exchange.Wide m) n)) (exchanges.looked m n (wide_word_at n))) is.0 (looked_is its.wide earlier n is.1 (status_in n) refl)
  exchange_goes earlier (exchange.Original its) n is =
      let before = is.1 in
      same_errand its (λ (m : WideErrand). Is (up_to (step_of exchanges.asks_of earlier (exchange.Original m) n)) (exchanges.compared m 0 n)) is.0 (compared_is its.wide earlier n before.0 before.1 before.2)
  exchange_goes earlier (exchange.Try its wanted tries) n is =
      same_errand its (λ (m : WideErrand). Is (up_to (step_of exchanges.asks_of earlier (exchange.Try m wanted tries) n)) (exchanges.tried m wanted tries n)) is.0 (tried_is its.wide earlier wanted tries n is.1 (n == wanted) refl)
  exchange_goes earlier (exchange.Address its) n is =
      same_errand its (λ (m : WideErrand). Is (up_to (step_of exchanges.asks_of earlier (exchange.Address m) n)) (exchanges.addressed m n)) is.0 (inl (address_is its.wide earlier n is.1))

  -- ---- each end

  -- the steps of its header end it only where the field is lacking
  exchange_first : (n : ℕ) (here : Spot) (b : Bool) → Leads spot n here → nat_lt here.field (len_at n) ≡ b
      → ForSome (rest_exchanges.end_of (if b then rest_exchange.Field (at here) phase (plain.Load (rest_exchanges.swap_of (at here))) else rest_exchange.Ended (at here) (exchange_end.Refused (refusal.NoField (len_at n))))) (Ends (record { earlier = []; step = Load spot.at; found = n }))
  exchange_first n here true led e end is = absurd cc
  exchange_first n here false led e end is =
      let none : exchange_end.Refused (refusal.NoField (len_at n)) ≡ end = cc in
      subst (Ends (record { earlier = []; step = Load spot.at; found = n })) none (lacks spot here n led e)

  exchange_none : (here : Spot) (len : ℕ) (For : ExchangeEnd → Type 0) (b : Bool) → b ≡ true → ForSome (rest_exchanges.end_of (if b then rest_exchange.Field (at here) phase (plain.Load (rest_exchanges.swap_of (at here))) else rest_exchange.Ended (at here) (exchange_end.Refused (refusal.NoField len)))) For
  exchange_none here len For true inside end is = absurd cc
  exchange_none here len For false inside end is = absurd cc

  header_ends : (n : ℕ) → ForSome (exchanges.end_of (exchanges.turned errand phase n (location_in spot n))) (Ends (record { earlier = []; step = Load spot.at; found = n }))
  header_ends n =
      let last : LastStep = record { earlier = []; step = Load spot.at; found = n } in
      turned_so (λ m. ForSome (exchanges.end_of m) (Ends last)) (exchange.Keep errand phase) (exchanges.placed errand phase n) spot n (λ inside end so. absurd cc)
      (first_so (λ m. ForSome (exchanges.end_of m) (Ends last)) (exchanges.widened errand phase) (exchanges.at_word errand phase n) spot n n (λ wide led inside end so. absurd cc)
      (led_so (λ m. ForSome (rest_exchanges.end_of m) (Ends last)) spot n (exchanged_at n) (λ here led. exchange_first n here (nat_lt here.field (len_at n)) led refl)))

  kept_ends : (last : LastStep) (tagged n : ℕ) → nat_lt spot.field (len_at tagged) ≡ true → ForSome (exchanges.end_of (exchanges.placed errand phase tagged (location_in spot n))) (Ends last)
  kept_ends last tagged n inside =
      first_so (λ m. ForSome (exchanges.end_of m) (Ends last)) (exchanges.widened errand phase) (exchanges.at_word errand phase tagged) spot tagged n (λ wide led inside end so. absurd cc)
      (led_so (λ m. ForSome (rest_exchanges.end_of m) (Ends last)) spot n (exchanged_at tagged)
      (λ here led. exchange_none here (len_at tagged) (Ends last) (nat_lt here.field (len_at tagged)) (led_inside spot here n (len_at tagged) led inside)))

  exchange_so : (last : LastStep) (end : ExchangeEnd) → EndsAtRest errand phase last end → Ends last end
  exchange_so last exchange_end.Done so = inl so
  exchange_so last (exchange_end.Differs held) so = inl so
  exchange_so last (exchange_end.Refused (refusal.NoField len)) so = absurd (lacks_no_more so.here last (header_load so.here so.header) so.rest len so.so)
  exchange_so last (exchange_end.Refused refusal.NotLink) so = so
  exchange_so last (exchange_end.Refused (refusal.Raced loaded found)) so = inl so
  exchange_so last (exchange_end.Refused (refusal.Busy cycle mark)) so = so

  wide_end_ends : (earlier : List Taken) (m : Placed ExchangeMachine) (n : ℕ) → IsWideEnd errand phase earlier m → exchanges.asks_of (exchange.Field m) ≢ Ended → ForSome (exchanges.end_of (exchanges.fed_of (exchange.Field m) n)) (Ends (step_of exchanges.asks_of earlier (exchange.Field m) n))
  wide_end_ends earlier (placed.Original (rest_exchange.Follow its f)) n is on =
      let gone = followed (FindsOther errand) phase earlier f n is on in
      for_mapped (λ e. exchange_end.Differs e.word) (follows.end_of (follows.fed_of f n)) (Ends (step_of follows.asks_of earlier f n)) (λ e is. inr (inr (gone e is)))
  wide_end_ends earlier (placed.Original (rest_exchange.Ended its end)) n is on = absurd (on refl)
  wide_end_ends earlier m n is on = absurd is

  abbrev Over : List Taken → StoplessExchange → ℕ → StoplessExchange → Type 0
  Over earlier m n next = ForSome (exchanges.end_of next) (Ends (step_of exchanges.asks_of earlier m n))

  exchange_over : (earlier : List Taken) (m : StoplessExchange) (n : ℕ) → Is earlier m → exchanges.asks_of m ≢ Ended → Over earlier m n (exchanges.fed_of m n)
  exchange_over earlier (exchange.Header its in_phase) n is on = rw (is.0, is.1, is.2) (header_ends n)
  exchange_over earlier (exchange.Keep its in_phase keep) n is on =
      let last : LastStep = step_of exchanges.asks_of earlier (exchange.Keep its in_phase keep) n in
      subst (λ (s : Errand). ForSome (exchanges.end_of (exchanges.placed s in_phase keep.tagged (let e = s in location_in e.spot n))) (Ends last)) (sym is.0)
      (subst (λ (p : Phase). ForSome (exchanges.end_of (exchanges.placed errand p keep.tagged (location_in spot n))) (Ends last)) (sym is.1) (kept_ends last keep.tagged n is.3))
  exchange_over earlier (exchange.Field m) n (inl is) on = λ end so.
      exchange_so (step_of exchanges.asks_of earlier (exchange.Field m) n) end
      (placed_ends (IsLed (Expected errand) errand.word) rest_exchanges.asks_of rest_exchanges.fed_of rest_exchanges.end_of (λ here. IsExchangeFor (at here) phase) (λ here. ExchangeEndsFor (at here) phase) (λ here. exchange_keeps (at here) phase) (λ here. exchange_ends (at here) phase) spot earlier m n is on end so)
  exchange_over earlier (exchange.Field m) n (inr is) on = wide_end_ends earlier m n is on
  exchange_over earlier (exchange.Wide its) n is on =
      same_errand its (λ (m : WideErrand). Over earlier (exchange.Wide m) n (exchanges.looked m n (wide_word_at n))) is.0 (looked_ends its.wide earlier n is.1 (status_in n) refl)
  exchange_over earlier (exchange.Original its) n is on =
      let before = is.1 in
      same_errand its (λ (m : WideErrand). Over earlier (exchange.Original m) n (exchanges.compared m 0 n)) is.0 (compared_ends its.wide earlier n before.0 before.1 before.2)
  exchange_over earlier (exchange.Try its wanted tries) n is on =
      same_errand its (λ (m : WideErrand). Over earlier (exchange.Try m wanted tries) n (exchanges.tried m wanted tries n)) is.0 (tried_ends its.wide earlier wanted tries n is.1 (n == wanted) refl)
  exchange_over earlier (exchange.Address its) n is on = λ end so. absurd cc

  -- an exchange of this field ends only so
  pub exchange_cause_of : EndsOnlyFor exchanges.asks_of exchanges.fed_of exchanges.end_of Ends (exchange.Header errand phase)
  exchange_cause_of = ends_only_for exchanges.asks_of exchanges.fed_of exchanges.end_of Ends Is exchange_goes exchange_over (exchange.Header errand phase) (refl, refl, refl)
