-- An exchange does what is known of it.
use Rattle.std.specs.Prelude.{◌≡◌, ℕ, false, Some, refl}
use Rattle.std.proofs.Common.{sym, ◌∙◌}
use Rattle.call_steps.specs.declared.step.Step.TheVariants.{Ended}
use Rattle.heap_words.specs.declared.field_word.FieldWord.{FieldWord}
use Rattle.object_headers.specs.Headers.{header_at}
use Rattle.handshakes.specs.declared.pass_view.PassView.{PassView}
use Rattle.handshakes.specs.declared.follow.FollowMachine.{FollowMachine}
use Rattle.handshakes.specs.Follows as follows
use Rattle.barriers.specs.declared.spot.Spot.{Spot}
use Rattle.barriers.specs.declared.front.Front.TheVariants.{Stays}
use Rattle.barriers.specs.declared.exchange.ExchangeMachine.TheVariants as rest_exchange
use Rattle.barriers.specs.Stances.{Stance, stance_at}
use Rattle.barriers.specs.Spaces.{Here}
use Rattle.barriers.specs.Says.{IsPacked}
use Rattle.barriers.specs.Knowns.{Task, Ending, Follows, Over, finds, looks, step_of, followed}
use Rattle.barriers.specs.Kits.{Runs, Stands, own_of, ending_of, said_by, exchange_said}
use Rattle.at_rest.specs.Knowing.{task_of}
use Rattle.at_rest.specs.ExchangeLaws.{exchanging}
use Rattle.tagged_calls.specs.KeepLaws.{header_goes}
use Rattle.tagged_calls.specs.LocationLaws.{keep_asks, at_keep}
use Rattle.tagged_calls.specs.TaggedCalls.{as_at_rest}
use Rattle.tagged_calls.specs.TaggedCallLaws.{tagged_plainly}
use Rattle.tagged_calls.specs.PlacedLaws.{placed_asks, placed_goes, placed_plain, placed_looks, placed_follows, placed_over, placed_tells, placed_packed, begins_loaded, begins_kept}
use Rattle.chicken_tags.specs.declared.exchange.ChickenExchange.{ChickenExchange}
use Rattle.chicken_tags.specs.declared.exchange.ChickenExchange.TheVariants as exchange
use Rattle.chicken_tags.specs.ChickenExchanges as machine
use Rattle.chicken_tags.specs.ChickenTable.{chicken_fed, chicken}
use Rattle.chicken_tags.specs.ChickenKnowing.{exchanges, ExchangesFor}

exchange_asks : (v : PassView) (m : ChickenExchange) → ExchangesFor v m → machine.asks_of m ≡ step_of (exchanges m)
exchange_asks v (exchange.Header errand phase) for = refl
exchange_asks v (exchange.Keep errand phase keep) for = keep_asks errand.spot (task_of errand) keep for.2
exchange_asks v (exchange.Field m) for = placed_asks exchanging v m for

exchange_goes : (v : PassView) (m : ChickenExchange) (p : Stance) (x : Here) (copy : FieldWord) (n : ℕ) → Stands exchanges ExchangesFor v m p x copy n
    → (exchanges (machine.fed_of m n) ≡ chicken_fed (stance_at v.acked) (own_of false v) (exchanges m) (finds p x copy (exchanges m))) × ExchangesFor v (machine.fed_of m n)
exchange_goes v (exchange.Header errand phase) p x copy n stands =
    header_goes exchanges (ExchangesFor v) (exchange.Keep errand phase) (machine.placed errand phase n) as_at_rest errand.spot (task_of errand) tt x n stands.word (λ keep. (refl, (stands.own.0, stands.own.1, keep)))
    (begins_loaded exchanging v (task_of errand) (λ z. rest_exchange.Header (record errand { spot = z }) phase) (λ z. refl) (λ z. stands.own) p x copy n as_at_rest errand.spot (λ y wide is. refl) stands.word)
exchange_goes v (exchange.Keep errand phase keep) p x copy n stands =
    let own = stands.own in
    let is = own.2 in
    begins_kept exchanging v (task_of errand) (λ z. rest_exchange.Header (record errand { spot = z }) phase) (λ z. refl) (λ z. (own.0, own.1)) p (at_keep x keep) copy keep.tagged as_at_rest errand.spot (λ y wide is. refl)
    (Some (header_at keep.tagged)) x.state x.colour x.len n is.word is.inside stands.word
exchange_goes v (exchange.Field m) p x copy n stands =
    let goes = placed_goes exchanging v m p x copy n stands.spot stands.own stands.at stands.word in
    let plain = placed_plain exchanging v m stands.spot stands.own stands.at in
    (goes.0 ∙ sym (tagged_plainly as_at_rest (stance_at v.acked) (exchanges (exchange.Field m)) (finds p x copy (exchanges (exchange.Field m))) plain), goes.1)

exchange_looks : (v : PassView) (m : ChickenExchange) (p : Stance) (x : Here) (copy : FieldWord) (n : ℕ) → Stands exchanges ExchangesFor v m p x copy n → machine.front m n ≡ looks (own_of false v) (exchanges m) (finds p x copy (exchanges m))
exchange_looks v (exchange.Header errand phase) p x copy n stands = refl
exchange_looks v (exchange.Keep errand phase keep) p x copy n stands = refl
exchange_looks v (exchange.Field m) p x copy n stands = placed_looks exchanging v m p x copy n stands.spot stands.own stands.at stands.word

exchange_follows : (v : PassView) (m : ChickenExchange) (s : Spot) (t : Task) (f : FollowMachine) (n : ℕ) → ExchangesFor v m → exchanges m ≡ Follows s t f
    → (exchanges (machine.fed_of m n) ≡ followed s t (follows.fed_of f n)) × ExchangesFor v (machine.fed_of m n) × (machine.front m n ≡ Stays)
exchange_follows v (exchange.Header errand phase) s t f n for is = absurd cc
exchange_follows v (exchange.Keep errand phase keep) s t f n for is = absurd cc
exchange_follows v (exchange.Field m) s t f n for is = placed_follows exchanging v m s t f n for is

exchange_over : (v : PassView) (m : ChickenExchange) → ExchangesFor v m → machine.asks_of m ≡ Ended → (s : Spot) × (t : Task) × (end : Ending) × (exchanges m ≡ Over s t end)
exchange_over v (exchange.Header errand phase) for is = absurd cc
exchange_over v (exchange.Keep errand phase keep) for is = absurd cc
exchange_over v (exchange.Field m) for is = placed_over exchanging v m for is

exchange_tells : (m : ChickenExchange) → machine.end_of m ≡ said_by exchange_said (ending_of (exchanges m))
exchange_tells (exchange.Header errand phase) = refl
exchange_tells (exchange.Keep errand phase keep) = refl
exchange_tells (exchange.Field m) = placed_tells exchanging m

exchange_packed : (v : PassView) (m : ChickenExchange) → ExchangesFor v m → IsPacked (exchanges m)
exchange_packed v (exchange.Header errand phase) for = let packed = for.1 in record { task = packed.fits; from = tt }
exchange_packed v (exchange.Keep errand phase keep) for = let packed = for.1 in record { task = packed.fits; from = tt }
exchange_packed v (exchange.Field m) for = placed_packed exchanging v m for

pub chicken_exchanging : Runs chicken (own_of false) machine.asks_of machine.fed_of machine.front exchanges ExchangesFor machine.end_of exchange_said
chicken_exchanging = record {
  asks_alike = exchange_asks;
  goes = exchange_goes;
  looks_alike = exchange_looks;
  follows_on = exchange_follows;
  over = exchange_over;
  tells = exchange_tells;
  packed = exchange_packed;
}
