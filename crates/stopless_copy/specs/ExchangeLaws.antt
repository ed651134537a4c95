-- An exchange does what is known of it.
use Rattle.std.specs.Prelude.{◌≡◌, ℕ, ◌+◌, ◌==◌, if◌then◌else◌, Bool, true, false, Some, refl}
use Rattle.std.proofs.Common.{ap, sym, subst, ◌∙◌}
use Rattle.call_steps.specs.declared.step.Step.TheVariants.{Load, Exchange, Ended}
use Rattle.heap_words.specs.declared.field_word.FieldWord.{FieldWord}
use Rattle.heap_words.specs.FieldWords.{word_of, field_at}
use Rattle.heap_words.specs.FieldWordLaws.{field_at-word_of}
use Rattle.object_headers.specs.Headers.{header_at}
use Rattle.wide_objects.specs.declared.wide_word.WideWord.{WideWord}
use Rattle.wide_objects.specs.WideWords.{wide_word_at}
use Rattle.wide_objects.specs.Statuses.{Status, InOriginal, InWide, InCopy, IsStatus, word_of_status, status_at, wide_of_status}
use Rattle.heap_history.specs.FixedHeaps.{is_same}
use Rattle.handshakes.specs.declared.pass_view.PassView.{PassView}
use Rattle.handshakes.specs.declared.follow.FollowMachine.{FollowMachine}
use Rattle.handshakes.specs.Follows as follows
use Rattle.barriers.specs.declared.spot.Spot.{Spot}
use Rattle.barriers.specs.declared.front.Front.TheVariants.{Stays}
use Rattle.barriers.specs.declared.ends.ExchangeEnd.TheVariants as exchange_end
use Rattle.barriers.specs.declared.plain_exchange.TriesLeft.{TriesLeft}
use Rattle.barriers.specs.declared.plain_exchange.TriesLeft.TheVariants.{Two, One, Zero}
use Rattle.barriers.specs.declared.exchange.ExchangeMachine.TheVariants as rest_exchange
use Rattle.barriers.specs.Stances.{Stance, stance_at}
use Rattle.barriers.specs.Spaces.{Here}
use Rattle.barriers.specs.Values.{value_of}
use Rattle.barriers.specs.KnownLaws.{is_same-value_of}
use Rattle.barriers.specs.Says.{IsPacked}
use Rattle.barriers.specs.Knowns.{Task, Ending, Done, Known, Loads_wide, Swaps_wide, Loads_copy, Follows, Over, finds, looks, step_of, followed, closes}
use Rattle.barriers.specs.Kits.{Runs, Stands, own_of, ending_of, said_by, exchange_said}
use Rattle.barriers.specs.PlainCalls.{loaded}
use Rattle.at_rest.specs.Knowing.{task_of, tries_in}
use Rattle.at_rest.specs.ReadLaws.{len_found, word_found, follows_as}
use Rattle.at_rest.specs.ExchangeLaws.{exchanging}
use Rattle.tagged_calls.specs.CopyLaws.{followed_begun}
use Rattle.tagged_calls.specs.KeepLaws.{header_goes}
use Rattle.tagged_calls.specs.LocationLaws.{location_found, keep_asks, at_keep}
use Rattle.tagged_calls.specs.TaggedCalls.{as_at_rest}
use Rattle.tagged_calls.specs.PlacedLaws.{placed_asks, placed_goes, placed_plain, placed_looks, placed_follows, placed_over, placed_tells, placed_packed, begins_loaded, begins_kept}
use Rattle.stopless_copy.specs.declared.exchange.WideErrand.{WideErrand}
use Rattle.stopless_copy.specs.declared.exchange.StoplessExchange.{StoplessExchange}
use Rattle.stopless_copy.specs.declared.exchange.StoplessExchange.TheVariants as exchange
use Rattle.stopless_copy.specs.StoplessExchanges as machine
use Rattle.stopless_copy.specs.WideSteps.{in_wide}
use Rattle.stopless_copy.specs.StoplessTable.{from_original, by_wide, raced_wide, again_wide, lost_wide, tried_wide, stopless_fed, stopless}
use Rattle.stopless_copy.specs.StoplessKnowing.{exchanges, exchanged, IsPackedStatus, WideExchangesFor, ExchangesFor}
use Rattle.stopless_copy.specs.WideLaws.{wide_found, status_found, packed_status, wide_looks, wide_wins, address_found, field_place, first_goes, inside_goes}
use Rattle.stopless_copy.specs.StoplessSteps.{few_fields, at_plain}

exchange_asks : (v : PassView) (m : StoplessExchange) → ExchangesFor v m → machine.asks_of m ≡ step_of (exchanges m)
exchange_asks v (exchange.Header errand phase) for = refl
exchange_asks v (exchange.Keep errand phase keep) for = keep_asks errand.spot (task_of errand) keep for.2
exchange_asks v (exchange.Field m) for = placed_asks exchanging v m for
exchange_asks v (exchange.Wide its) for = let wide = for.2 in ap (λ (at : ℕ). Load at) wide.place
exchange_asks v (exchange.Original its) for = refl
exchange_asks v (exchange.Try its wanted tries) for =
    let wide = for.0.2 in
    let wants = for.1 in
    ap (λ (at : ℕ). Exchange at wanted (in_wide its.errand.word)) wide.place ∙ ap (λ (want : ℕ). Exchange (its.wide.at + 1 + its.errand.spot.field) want (in_wide its.errand.word)) wants.same
exchange_asks v (exchange.Address its) for = refl

-- ---- with the field's word at hand

-- it is known so then
abbrev Becomes : PassView → StoplessExchange → Known → Type 0
Becomes v m k = (exchanges m ≡ k) × ExchangesFor v m

module _ (v : PassView) (its : WideErrand) (for : WideExchangesFor v its) where
  abbrev spot : Spot
  spot = its.errand.spot

  abbrev task : Task
  task = exchanged its

  -- where this word is the field's
  module _ (word : ℕ) (w : FieldWord) (at : field_at word ≡ w) where
    expects : machine.expects its.errand word ≡ is_same (value_of w) (value_of its.errand.expected)
    expects = sym (is_same-value_of (field_at word) its.errand.expected) ∙ ap (λ (x : FieldWord). is_same (value_of x) (value_of its.errand.expected)) at

    differs_so : Becomes v (machine.differs its.errand its.phase word) (closes (stance_at v.acked) spot task w)
    differs_so = (follows_as v its.phase spot task w word for.0 at, (for.1, followed_begun spot task (follows.follow_of its.phase (field_at word))))

    -- one goes on where the value is the expected one, and else it differs
    expected_so : (m : StoplessExchange) (k : Known) → Becomes v m k
        → Becomes v (if machine.expects its.errand word then m else machine.differs its.errand its.phase word) (if is_same (value_of w) (value_of its.errand.expected) then k else closes (stance_at v.acked) spot task w)
    expected_so m k so =
        subst (λ (b : Bool). Becomes v (if machine.expects its.errand word then m else machine.differs its.errand its.phase word) (if b then k else closes (stance_at v.acked) spot task w)) expects
        (by (machine.expects its.errand word))
      where
        by : (b : Bool) → Becomes v (if b then m else machine.differs its.errand its.phase word) (if b then k else closes (stance_at v.acked) spot task w)
        by true = so
        by false = differs_so

  -- ---- at the wide word

  -- from this one
  abbrev at_wide : Status → ℕ → Known
  at_wide x left = Swaps_wide spot task its.wide.at x left

  -- where this status is found, by this word
  module _ (u : Status) (n : ℕ) (found : (n ≡ word_of_status u) × IsStatus u) where
    tries_so : (tries : TriesLeft) → Becomes v (exchange.Try its n tries) (at_wide u (tries_in tries))
    tries_so tries = (ap (λ (x : Status). at_wide x (tries_in tries)) (status_found u n found), (for, packed_status u n found))

    looked_so : (x : Status) → u ≡ x → IsStatus x → Becomes v (machine.looked its n (wide_of_status x)) (by_wide (stance_at v.acked) spot task its.wide.at x)
    looked_so InOriginal is fits = (refl, for)
    looked_so (InWide w) is fits =
        expected_so (word_of w) w (field_at-word_of w fits) (exchange.Try its n Two) (at_wide (InWide w) 2)
        (subst (λ (y : Status). Becomes v (exchange.Try its n Two) (at_wide y 2)) is (tries_so Two))
    looked_so (InCopy w) is fits = (refl, for)

    looks_so : Becomes v (machine.looked its n (wide_word_at n)) (by_wide (stance_at v.acked) spot task its.wide.at u)
    looks_so = subst (λ (w : WideWord). Becomes v (machine.looked its n w) (by_wide (stance_at v.acked) spot task its.wide.at u)) (sym (wide_found u n found)) (looked_so u refl found.1)

    -- by an exchange that wanted this
    module _ (wanted : ℕ) (wants : IsPackedStatus wanted) where
      abbrev from : Status
      from = status_at wanted

      raced_so : (x : Status) → u ≡ x → Becomes v (machine.raced its wanted n) (raced_wide spot task from x)
      raced_so x is =
          let before : wanted ≡ word_of_status from = wants.same in
          let now : n ≡ word_of_status x = found.0 ∙ ap word_of_status is in
          (cc, (for.1, tt))

      again_so : (tries : TriesLeft) (w : FieldWord) → u ≡ InWide w → Becomes v (machine.again its wanted tries n) (again_wide spot task its.wide.at from w (tries_in tries))
      again_so Two w is = subst (λ (y : Status). Becomes v (exchange.Try its n One) (at_wide y 1)) is (tries_so One)
      again_so One w is = subst (λ (y : Status). Becomes v (exchange.Try its n Zero) (at_wide y 0)) is (tries_so Zero)
      again_so Zero w is = raced_so (InWide w) is

      lost_so : (tries : TriesLeft) (x : Status) → u ≡ x → IsStatus x → Becomes v (machine.lost its wanted tries n (wide_of_status x)) (lost_wide (stance_at v.acked) spot task its.wide.at from x (tries_in tries))
      lost_so tries InOriginal is fits = raced_so InOriginal is
      lost_so tries (InWide w) is fits =
          expected_so (word_of w) w (field_at-word_of w fits) (machine.again its wanted tries n) (again_wide spot task its.wide.at from w (tries_in tries)) (again_so tries w is)
      lost_so tries (InCopy w) is fits = (refl, for)

      tried_so : (tries : TriesLeft) (b : Bool) → Becomes v (if b then machine.over its.errand exchange_end.Done else machine.lost its wanted tries n (wide_word_at n))
          (if b then Over spot task Done else lost_wide (stance_at v.acked) spot task its.wide.at from u (tries_in tries))
      tried_so tries true = (refl, (for.1, tt))
      tried_so tries false =
          subst (λ (w : WideWord). Becomes v (machine.lost its wanted tries n w) (lost_wide (stance_at v.acked) spot task its.wide.at from u (tries_in tries))) (sym (wide_found u n found)) (lost_so tries u refl found.1)

      tries_on : (tries : TriesLeft) → Becomes v (machine.tried its wanted tries n) (tried_wide (stance_at v.acked) spot task its.wide.at from u (tries_in tries))
      tries_on tries =
          subst (λ (b : Bool). Becomes v (machine.tried its wanted tries n) (if b then Over spot task Done else lost_wide (stance_at v.acked) spot task its.wide.at from u (tries_in tries)))
          (wide_wins u n wanted found wants) (tried_so tries (n == wanted))

  -- from the one at rest, with the word of the original at hand
  compares_so : (n : ℕ) (w : FieldWord) → field_at n ≡ w → Becomes v (machine.compared its 0 n) (loaded (from_original spot task its.wide.at) (stance_at v.acked) spot task w)
  unfolding word_of_status
  compares_so n w at = expected_so n w at (exchange.Try its 0 Two) (at_wide InOriginal 2) (tries_so InOriginal 0 (refl, tt) Two)

  addressed_so : (at : ℕ) → Becomes v (exchange.Field (machine.copied its at)) (Loads_copy spot task at)
  addressed_so at = let wide = for.2 in (refl, ((for.0, for.1, refl), field_place spot at wide.few))

-- ---- it goes on

exchange_goes : (v : PassView) (m : StoplessExchange) (p : Stance) (x : Here) (copy : FieldWord) (n : ℕ) → Stands exchanges ExchangesFor v m p x copy n
    → (exchanges (machine.fed_of m n) ≡ stopless_fed (stance_at v.acked) (own_of false v) (exchanges m) (finds p x copy (exchanges m))) × ExchangesFor v (machine.fed_of m n)
exchange_goes v (exchange.Header errand phase) p x copy n stands =
    let found = stands.word in
    let s = errand.spot in
    let begins = begins_loaded exchanging v (task_of errand) (λ z. rest_exchange.Header (record errand { spot = z }) phase) (λ z. refl) (λ z. stands.own) p x copy n as_at_rest s (λ y wide is. refl) found in
    header_goes exchanges (ExchangesFor v) (exchange.Keep errand phase) (machine.placed errand phase n) Loads_wide s (task_of errand) tt x n found (λ keep. (refl, (stands.own.0, stands.own.1, keep)))
    (first_goes exchanges (ExchangesFor v) (machine.widened errand phase) (machine.at_word errand phase n) s (task_of errand) x.len n (len_found s.birth x.state x.colour x.len n found) (few_fields s.birth x.state x.colour x.len n found)
    (λ at wide. (refl, (stands.own.0, stands.own.1, wide))) n x.state (location_found _ s.birth x.state x.colour x.len n found s) begins)
exchange_goes v (exchange.Keep errand phase keep) p x copy n stands =
    let own = stands.own in
    let is = own.2 in
    let s = errand.spot in
    let h = header_at keep.tagged in
    let begins = begins_kept exchanging v (task_of errand) (λ z. rest_exchange.Header (record errand { spot = z }) phase) (λ z. refl) (λ z. (own.0, own.1)) p (at_keep x keep) copy keep.tagged as_at_rest s (λ y wide is. refl)
    (Some (header_at keep.tagged)) x.state x.colour x.len n is.word is.inside stands.word in
    inside_goes exchanges (ExchangesFor v) (machine.widened errand phase) (machine.at_word errand phase keep.tagged) s (task_of errand) h.len keep.tagged refl (few_fields s.birth _ h.colour h.len keep.tagged is.word)
    (λ at wide. (refl, (own.0, own.1, wide))) n x.state is.inside (location_found _ s.birth x.state x.colour x.len n stands.word s) begins
exchange_goes v (exchange.Field m) p x copy n stands =
    let goes = placed_goes exchanging v m p x copy n stands.spot stands.own stands.at stands.word in
    let plain = placed_plain exchanging v m stands.spot stands.own stands.at in
    (goes.0 ∙ sym (at_plain (stance_at v.acked) (own_of false v) (exchanges (exchange.Field m)) (finds p x copy (exchanges (exchange.Field m))) plain), goes.1)
exchange_goes v (exchange.Wide its) p x copy n stands = looks_so v its stands.own x.status n stands.word
exchange_goes v (exchange.Original its) p x copy n stands = compares_so v its stands.own n x.word (word_found x.word n stands.word)
exchange_goes v (exchange.Try its wanted tries) p x copy n stands = let own = stands.own in tries_on v its own.0 x.status n stands.word wanted own.1 tries
exchange_goes v (exchange.Address its) p x copy n stands =
    subst (λ (at : ℕ). Becomes v (exchange.Field (machine.copied its at)) (Loads_copy its.errand.spot (exchanged its) x.address)) (sym (address_found x.address n stands.word))
    (addressed_so v its stands.own x.address)

exchange_looks : (v : PassView) (m : StoplessExchange) (p : Stance) (x : Here) (copy : FieldWord) (n : ℕ) → Stands exchanges ExchangesFor v m p x copy n → machine.front m n ≡ looks (own_of false v) (exchanges m) (finds p x copy (exchanges m))
exchange_looks v (exchange.Header errand phase) p x copy n stands = refl
exchange_looks v (exchange.Keep errand phase keep) p x copy n stands = refl
exchange_looks v (exchange.Field m) p x copy n stands = placed_looks exchanging v m p x copy n stands.spot stands.own stands.at stands.word
exchange_looks v (exchange.Wide its) p x copy n stands = wide_looks x.status n stands.word
exchange_looks v (exchange.Original its) p x copy n stands = refl
exchange_looks v (exchange.Try its wanted tries) p x copy n stands = wide_looks x.status n stands.word
exchange_looks v (exchange.Address its) p x copy n stands = refl

exchange_follows : (v : PassView) (m : StoplessExchange) (s : Spot) (t : Task) (f : FollowMachine) (n : ℕ) → ExchangesFor v m → exchanges m ≡ Follows s t f
    → (exchanges (machine.fed_of m n) ≡ followed s t (follows.fed_of f n)) × ExchangesFor v (machine.fed_of m n) × (machine.front m n ≡ Stays)
exchange_follows v (exchange.Field m) s t f n for is = placed_follows exchanging v m s t f n for is
exchange_follows v (exchange.Header errand phase) s t f n for is = absurd cc
exchange_follows v (exchange.Keep errand phase keep) s t f n for is = absurd cc
exchange_follows v (exchange.Wide its) s t f n for is = absurd cc
exchange_follows v (exchange.Original its) s t f n for is = absurd cc
exchange_follows v (exchange.Try its wanted tries) s t f n for is = absurd cc
exchange_follows v (exchange.Address its) s t f n for is = absurd cc

exchange_over : (v : PassView) (m : StoplessExchange) → ExchangesFor v m → machine.asks_of m ≡ Ended → (s : Spot) × (t : Task) × (end : Ending) × (exchanges m ≡ Over s t end)
exchange_over v (exchange.Field m) for is = placed_over exchanging v m for is
exchange_over v (exchange.Header errand phase) for is = absurd cc
exchange_over v (exchange.Keep errand phase keep) for is = absurd cc
exchange_over v (exchange.Wide its) for is = absurd cc
exchange_over v (exchange.Original its) for is = absurd cc
exchange_over v (exchange.Try its wanted tries) for is = absurd cc
exchange_over v (exchange.Address its) for is = absurd cc

exchange_tells : (m : StoplessExchange) → machine.end_of m ≡ said_by exchange_said (ending_of (exchanges m))
exchange_tells (exchange.Field m) = placed_tells exchanging m
exchange_tells (exchange.Header errand phase) = refl
exchange_tells (exchange.Keep errand phase keep) = refl
exchange_tells (exchange.Wide its) = refl
exchange_tells (exchange.Original its) = refl
exchange_tells (exchange.Try its wanted tries) = refl
exchange_tells (exchange.Address its) = refl

exchange_packed : (v : PassView) (m : StoplessExchange) → ExchangesFor v m → IsPacked (exchanges m)
exchange_packed v (exchange.Field m) for = placed_packed exchanging v m for
exchange_packed v (exchange.Header errand phase) for = let packed = for.1 in record { task = packed.fits; from = tt }
exchange_packed v (exchange.Keep errand phase keep) for = let packed = for.1 in record { task = packed.fits; from = tt }
exchange_packed v (exchange.Wide its) for = let packed = for.1 in record { task = packed.fits; from = tt }
exchange_packed v (exchange.Original its) for = let packed = for.1 in record { task = packed.fits; from = tt }
exchange_packed v (exchange.Try its wanted tries) for = let packed = for.0.1 in let wants = for.1 in record { task = packed.fits; from = (wants.fits, tt) }
exchange_packed v (exchange.Address its) for = let packed = for.1 in record { task = packed.fits; from = tt }

pub stopless_exchanging : Runs stopless (own_of false) machine.asks_of machine.fed_of machine.front exchanges ExchangesFor machine.end_of exchange_said
stopless_exchanging = record {
  asks_alike = exchange_asks;
  goes = exchange_goes;
  looks_alike = exchange_looks;
  follows_on = exchange_follows;
  over = exchange_over;
  tells = exchange_tells;
  packed = exchange_packed;
}
