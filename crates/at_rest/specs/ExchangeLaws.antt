-- An exchange in an object at rest does what is known of it.
use Rattle.std.specs.Prelude.{◌≡◌, ℕ, ◌==◌, nat_lt, if◌then◌else◌, Bool, true, false, Some, refl}
use Rattle.std.proofs.Common.{ap, sym, subst, ◌∙◌}
use Rattle.std.proofs.lemmas.Bool.{eqb-true}
use Rattle.call_steps.specs.declared.step.Step.TheVariants.{Exchange, Ended}
use Rattle.heap_words.specs.declared.field_word.FieldWord.{FieldWord}
use Rattle.heap_words.specs.FieldWords.{IsFieldWord, word_of, field_at}
use Rattle.heap_history.specs.FixedHeaps.{is_same}
use Rattle.handshakes.specs.declared.pass_view.PassView.{PassView}
use Rattle.handshakes.specs.declared.phase_word.Phase.{Phase}
use Rattle.handshakes.specs.Follows as follows
use Rattle.handshakes.specs.declared.follow.FollowMachine.{FollowMachine}
use Rattle.handshakes.specs.declared.follow.FollowMachine.TheVariants as follow
use Rattle.barriers.specs.declared.spot.Spot.{Spot}
use Rattle.barriers.specs.declared.front.Front.TheVariants.{Stays, Now, SealedOrNow}
use Rattle.barriers.specs.declared.ends.ExchangeEnd.TheVariants as exchange_end
use Rattle.barriers.specs.declared.plain_exchange.Swap.{Swap}
use Rattle.barriers.specs.declared.plain_exchange.TriesLeft.{TriesLeft}
use Rattle.barriers.specs.declared.plain_exchange.TriesLeft.TheVariants.{Two, One, Zero}
use Rattle.barriers.specs.declared.plain_exchange.PlainExchange.{PlainExchange}
use Rattle.barriers.specs.declared.plain_exchange.PlainExchange.TheVariants as plain
use Rattle.barriers.specs.declared.exchange.Errand.{Errand}
use Rattle.barriers.specs.declared.exchange.ExchangeMachine.{ExchangeMachine}
use Rattle.barriers.specs.declared.exchange.ExchangeMachine.TheVariants as exchange
use Rattle.barriers.specs.States.{same_word}
use Rattle.barriers.specs.Stances.{Stance, stance_at}
use Rattle.barriers.specs.Spaces.{Here}
use Rattle.barriers.specs.Values.{value_of}
use Rattle.barriers.specs.Knowns.{Task, Ending, Differs, Done, Known, Loads, Swaps, Follows, Over, at_field, finds, looks, step_of, followed, closes}
use Rattle.barriers.specs.KnownLaws.{is_same-value_of, same_word-word_of}
use Rattle.barriers.specs.PlainCalls.{where_field, loaded, again, lost, exchanged}
use Rattle.barriers.specs.PlainExchanges as at_word
use Rattle.barriers.specs.Says.{IsPacked}
use Rattle.barriers.specs.Exchanges as machine_of_exchange
use Rattle.barriers.specs.Kits.{Runs, Stands, own_of, ending_of, said_by, exchange_said}
use Rattle.at_rest.specs.RestTable.{at_rest, rest_fed}
use Rattle.at_rest.specs.Knowing.{IsPhase, IsPackedWord, task_of, tries_in, exchange_ending, exchanges, exchanges_at, Exchanging, ExchangesFor}
use Rattle.at_rest.specs.ReadLaws.{len_found, word_found, follows_as}

-- ---- the step

plain_asks : (errand : Errand) (m : PlainExchange) → IsPackedWord errand.word → Exchanging errand m → at_word.asks_of m ≡ step_of (exchanges_at errand m)
plain_asks errand (plain.Load swap) packed for = ap at_word.asks_of (ap (λ (s : Swap). plain.Load s) for)
plain_asks errand (plain.Try swap wanted tries) packed for =
    let wants = for.1 in
    ap (λ (s : Swap). Exchange s.place wanted s.word) for.0 ∙ (ap (λ (want : ℕ). Exchange errand.spot.place want errand.word) wants.same ∙ ap (λ (put : ℕ). Exchange errand.spot.place (word_of (field_at wanted)) put) packed.same)
plain_asks errand (plain.Ended end) packed for = refl

exchange_asks : (v : PassView) (m : ExchangeMachine) → ExchangesFor v m → machine_of_exchange.asks_of m ≡ step_of (exchanges m)
exchange_asks v (exchange.Header errand phase) for = refl
exchange_asks v (exchange.Field errand phase plainly) for = plain_asks errand plainly for.1 for.2
exchange_asks v (exchange.Follow errand (follow.Header birth at)) for = refl
exchange_asks v (exchange.Follow errand (follow.Ended end)) for = refl
exchange_asks v (exchange.Ended errand end) for = refl

-- ---- after the header

exchange_by_len : (v : PassView) (errand : Errand) (phase : Phase) (len : ℕ) (b : Bool) → IsPhase v phase → IsPackedWord errand.word
    → (exchanges (if b then exchange.Field errand phase (plain.Load (machine_of_exchange.swap_of errand)) else machine_of_exchange.lacking errand len)
    ≡ (if b then Loads errand.spot (task_of errand) else exchanges (machine_of_exchange.lacking errand len)))
    × ExchangesFor v (if b then exchange.Field errand phase (plain.Load (machine_of_exchange.swap_of errand)) else machine_of_exchange.lacking errand len)
exchange_by_len v errand phase len true in_phase packed = (refl, (in_phase, packed, refl))
exchange_by_len v errand phase len false in_phase packed = (refl, packed)

-- ---- at the word

-- what the exchange of a word that wants a value finds, of which w is what is packed there
module _ (v : PassView) (errand : Errand) (phase : Phase) (in_phase : IsPhase v phase) (packed : IsPackedWord errand.word) (w : FieldWord) (n : ℕ) (is : (n ≡ word_of w) × IsFieldWord w) where
  abbrev aim : Swap
  aim = machine_of_exchange.swap_of errand

  abbrev after : PlainExchange → ExchangeMachine
  after = machine_of_exchange.exchanged errand phase

  found : field_at n ≡ w
  found = word_found w n is

  packed_found : IsPackedWord n
  packed_found = record { same = is.0 ∙ ap word_of (sym found); fits = subst IsFieldWord (sym found) is.1 }

  expects : at_word.is_expected aim n ≡ is_same (value_of w) (value_of errand.expected)
  expects = sym (is_same-value_of (field_at n) errand.expected) ∙ ap (λ (x : FieldWord). is_same (value_of x) (value_of errand.expected)) found

  -- what the machine becomes is what is known then
  abbrev Becomes : PlainExchange → Known → Type 0
  Becomes next k = (exchanges (after next) ≡ k) × ExchangesFor v (after next)

  differs : Becomes (plain.Ended (exchange_end.Differs (field_at n))) (closes (stance_at v.acked) errand.spot (task_of errand) w)
  differs = (follows_as v phase errand.spot (task_of errand) w n in_phase found, packed)

  compared_so : (b : Bool) → at_word.is_expected aim n ≡ b
      → Becomes (if b then plain.Try aim n Two else plain.Ended (exchange_end.Differs (field_at n))) (if b then Swaps errand.spot (task_of errand) w 2 else closes (stance_at v.acked) errand.spot (task_of errand) w)
  compared_so true e = (ap (λ (x : FieldWord). Swaps errand.spot (task_of errand) x 2) found, (in_phase, packed, (refl, packed_found, e)))
  compared_so false e = differs

  compares : Becomes (at_word.compared aim n) (loaded (Swaps errand.spot (task_of errand)) (stance_at v.acked) errand.spot (task_of errand) w)
  compares =
      subst (λ (b : Bool). Becomes (at_word.compared aim n) (if b then Swaps errand.spot (task_of errand) w 2 else closes (stance_at v.acked) errand.spot (task_of errand) w))
      expects (compared_so (at_word.is_expected aim n) refl)

  -- an exchange that wanted this
  module _ (wanted : ℕ) (wants : IsPackedWord wanted) (expected : at_word.is_expected aim wanted ≡ true) where
    abbrev from : FieldWord
    from = field_at wanted

    again_so : (tries : TriesLeft) → at_word.is_expected aim n ≡ true → Becomes (at_word.again aim wanted tries n) (again (Swaps errand.spot (task_of errand)) errand.spot (task_of errand) from w (tries_in tries))
    again_so Two e = (ap (λ (x : FieldWord). Swaps errand.spot (task_of errand) x 1) found, (in_phase, packed, (refl, packed_found, e)))
    again_so One e = (ap (λ (x : FieldWord). Swaps errand.spot (task_of errand) x 0) found, (in_phase, packed, (refl, packed_found, e)))
    again_so Zero e =
        let before : wanted ≡ word_of from = wants.same in
        let now : n ≡ word_of w = is.0 in
        (cc, packed)

    lost_so : (tries : TriesLeft) (b : Bool) → at_word.is_expected aim n ≡ b
        → Becomes (if b then at_word.again aim wanted tries n else plain.Ended (exchange_end.Differs (field_at n)))
        (if b then again (Swaps errand.spot (task_of errand)) errand.spot (task_of errand) from w (tries_in tries) else closes (stance_at v.acked) errand.spot (task_of errand) w)
    lost_so tries true e = again_so tries e
    lost_so tries false e = differs

    loses : (tries : TriesLeft) → Becomes (at_word.lost aim wanted tries n) (lost (Swaps errand.spot (task_of errand)) (stance_at v.acked) errand.spot (task_of errand) from w (tries_in tries))
    loses tries =
        subst (λ (b : Bool). Becomes (at_word.lost aim wanted tries n) (if b then again (Swaps errand.spot (task_of errand)) errand.spot (task_of errand) from w (tries_in tries) else closes (stance_at v.acked) errand.spot (task_of errand) w))
        expects (lost_so tries (at_word.is_expected aim n) refl)

    tried_so : (tries : TriesLeft) (b : Bool)
        → Becomes (if b then plain.Ended exchange_end.Done else at_word.lost aim wanted tries n)
        (if b then Over errand.spot (task_of errand) Done else lost (Swaps errand.spot (task_of errand)) (stance_at v.acked) errand.spot (task_of errand) from w (tries_in tries))
    tried_so tries true = (refl, packed)
    tried_so tries false = loses tries

    -- it wins where it finds what it wanted
    wins : (n == wanted) ≡ same_word w from
    wins = ap (λ (word : ℕ). word == wanted) is.0 ∙ (ap (λ (word : ℕ). word_of w == word) wants.same ∙ sym (same_word-word_of w from is.1 wants.fits))

    tries_on : (tries : TriesLeft) → Becomes (at_word.tried aim wanted tries n) (exchanged (Swaps errand.spot (task_of errand)) (stance_at v.acked) errand.spot (task_of errand) from w (tries_in tries))
    tries_on tries =
        subst (λ (b : Bool). Becomes (at_word.tried aim wanted tries n) (if b then Over errand.spot (task_of errand) Done else lost (Swaps errand.spot (task_of errand)) (stance_at v.acked) errand.spot (task_of errand) from w (tries_in tries)))
        wins (tried_so tries (n == wanted))

    -- where it wins it finds the expected value
    sees_so : (b : Bool) → (n == wanted) ≡ b → (if b then Stays else (if at_word.is_expected aim n then Stays else Now)) ≡ (if at_word.is_expected aim n then Stays else Now)
    sees_so true e =
        let won : at_word.is_expected aim n ≡ true = subst (λ (word : ℕ). at_word.is_expected aim word ≡ true) (sym (eqb-true n wanted e)) expected in
        rw won refl
    sees_so false e = refl

-- ---- an exchange

nowhere : (errand : Errand) (at : Spot) (its : FollowMachine) → at_field (followed errand.spot (task_of errand) its) ≡ Some at → ⊥
nowhere errand at (follow.Header birth place) e = cc
nowhere errand at (follow.Ended end) e = cc

exchange_goes : (v : PassView) (m : ExchangeMachine) (p : Stance) (x : Here) (copy : FieldWord) (n : ℕ) → Stands exchanges ExchangesFor v m p x copy n
    → (exchanges (machine_of_exchange.fed_of m n) ≡ rest_fed (stance_at v.acked) (own_of false v) (exchanges m) (finds p x copy (exchanges m))) × ExchangesFor v (machine_of_exchange.fed_of m n)
exchange_goes v (exchange.Header errand phase) p x copy n stands =
    let len = len_found errand.spot.birth x.state x.colour x.len n stands.word in
    subst
    (λ (l : ℕ). (exchanges (machine_of_exchange.by_len errand phase l) ≡ where_field errand.spot (task_of errand) x.len (Loads errand.spot (task_of errand))) × ExchangesFor v (machine_of_exchange.by_len errand phase l))
    (sym len) (exchange_by_len v errand phase x.len (nat_lt errand.spot.field x.len) stands.own.0 stands.own.1)
exchange_goes v (exchange.Field errand phase (plain.Load swap)) p x copy n stands =
    subst (λ (s : Swap). Becomes v errand phase stands.own.0 stands.own.1 x.word n stands.word (at_word.compared s n) (loaded (Swaps errand.spot (task_of errand)) (stance_at v.acked) errand.spot (task_of errand) x.word))
    (sym stands.own.2) (compares v errand phase stands.own.0 stands.own.1 x.word n stands.word)
exchange_goes v (exchange.Field errand phase (plain.Try swap wanted tries)) p x copy n stands =
    let at = stands.own.2 in
    subst (λ (s : Swap). Becomes v errand phase stands.own.0 stands.own.1 x.word n stands.word (at_word.tried s wanted tries n) (exchanged (Swaps errand.spot (task_of errand)) (stance_at v.acked) errand.spot (task_of errand) (field_at wanted) x.word (tries_in tries)))
    (sym at.0) (tries_on v errand phase stands.own.0 stands.own.1 x.word n stands.word wanted at.1 at.2 tries)
exchange_goes v (exchange.Field errand phase (plain.Ended end)) p x copy n stands = absurd (let e = stands.at in cc)
exchange_goes v (exchange.Follow errand its) p x copy n stands = absurd (nowhere errand stands.spot its stands.at)
exchange_goes v (exchange.Ended errand end) p x copy n stands = absurd (let e = stands.at in cc)

exchange_looks : (v : PassView) (m : ExchangeMachine) (p : Stance) (x : Here) (copy : FieldWord) (n : ℕ) → Stands exchanges ExchangesFor v m p x copy n
    → machine_of_exchange.front m n ≡ looks (own_of false v) (exchanges m) (finds p x copy (exchanges m))
exchange_looks v (exchange.Header errand phase) p x copy n stands = refl
exchange_looks v (exchange.Field errand phase (plain.Load swap)) p x copy n stands =
    let expected = expects v errand phase stands.own.0 stands.own.1 x.word n stands.word in
    ap (λ (s : Swap). if at_word.is_expected s n then Stays else SealedOrNow) stands.own.2 ∙ ap (λ (b : Bool). if b then Stays else SealedOrNow) expected
exchange_looks v (exchange.Field errand phase (plain.Try swap wanted tries)) p x copy n stands =
    let at = stands.own.2 in
    let expected = expects v errand phase stands.own.0 stands.own.1 x.word n stands.word in
    ap (λ (s : Swap). if n == wanted then Stays else (if at_word.is_expected s n then Stays else Now)) at.0
    ∙ (sees_so v errand phase stands.own.0 stands.own.1 x.word n stands.word wanted at.1 at.2 (n == wanted) refl ∙ ap (λ (b : Bool). if b then Stays else Now) expected)
exchange_looks v (exchange.Field errand phase (plain.Ended end)) p x copy n stands = refl
exchange_looks v (exchange.Follow errand its) p x copy n stands = absurd (nowhere errand stands.spot its stands.at)
exchange_looks v (exchange.Ended errand end) p x copy n stands = refl

-- of what it follows
abbrev GoesOn : PassView → ExchangeMachine → Spot → Task → FollowMachine → ℕ → Type 0
GoesOn v m s t f n = (exchanges (machine_of_exchange.fed_of m n) ≡ followed s t (follows.fed_of f n)) × ExchangesFor v (machine_of_exchange.fed_of m n) × (machine_of_exchange.front m n ≡ Stays)

exchange_follows : (v : PassView) (m : ExchangeMachine) (s : Spot) (t : Task) (f : FollowMachine) (n : ℕ) → ExchangesFor v m → exchanges m ≡ Follows s t f → GoesOn v m s t f n
exchange_follows v (exchange.Header errand phase) s t f n for e = absurd cc
exchange_follows v (exchange.Field errand phase (plain.Load swap)) s t f n for e = absurd cc
exchange_follows v (exchange.Field errand phase (plain.Try swap wanted tries)) s t f n for e = absurd cc
exchange_follows v (exchange.Field errand phase (plain.Ended end)) s t f n for e = absurd cc
exchange_follows v (exchange.Follow errand (follow.Header birth at)) s t f n for e =
    let spots : errand.spot ≡ s = cc in
    let tasks : task_of errand ≡ t = cc in
    let machines : follow.Header birth at ≡ f = cc in
    (cc, for, refl)
exchange_follows v (exchange.Follow errand (follow.Ended end)) s t f n for e = absurd cc
exchange_follows v (exchange.Ended errand end) s t f n for e = absurd cc

exchange_over : (v : PassView) (m : ExchangeMachine) → ExchangesFor v m → machine_of_exchange.asks_of m ≡ Ended → (s : Spot) × (t : Task) × (end : Ending) × (exchanges m ≡ Over s t end)
exchange_over v (exchange.Header errand phase) for e = absurd cc
exchange_over v (exchange.Field errand phase (plain.Load swap)) for e = absurd cc
exchange_over v (exchange.Field errand phase (plain.Try swap wanted tries)) for e = absurd cc
exchange_over v (exchange.Field errand phase (plain.Ended end)) for e = (errand.spot, task_of errand, exchange_ending end, refl)
exchange_over v (exchange.Follow errand (follow.Header birth at)) for e = absurd cc
exchange_over v (exchange.Follow errand (follow.Ended end)) for e = (errand.spot, task_of errand, Differs end.word, refl)
exchange_over v (exchange.Ended errand end) for e = (errand.spot, task_of errand, exchange_ending end, refl)

exchange_tells : (m : ExchangeMachine) → machine_of_exchange.end_of m ≡ said_by exchange_said (ending_of (exchanges m))
exchange_tells (exchange.Header errand phase) = refl
exchange_tells (exchange.Field errand phase (plain.Load swap)) = refl
exchange_tells (exchange.Field errand phase (plain.Try swap wanted tries)) = refl
exchange_tells (exchange.Field errand phase (plain.Ended exchange_end.Done)) = refl
exchange_tells (exchange.Field errand phase (plain.Ended (exchange_end.Differs word))) = refl
exchange_tells (exchange.Field errand phase (plain.Ended (exchange_end.Refused why))) = refl
exchange_tells (exchange.Follow errand (follow.Header birth at)) = refl
exchange_tells (exchange.Follow errand (follow.Ended end)) = refl
exchange_tells (exchange.Ended errand exchange_end.Done) = refl
exchange_tells (exchange.Ended errand (exchange_end.Differs word)) = refl
exchange_tells (exchange.Ended errand (exchange_end.Refused why)) = refl

plain_packed : (errand : Errand) (m : PlainExchange) → IsPackedWord errand.word → Exchanging errand m → IsPacked (exchanges_at errand m)
plain_packed errand (plain.Load swap) packed for = record { task = packed.fits; from = tt }
plain_packed errand (plain.Try swap wanted tries) packed for = let wants = for.1 in record { task = packed.fits; from = (wants.fits, tt) }
plain_packed errand (plain.Ended end) packed for = record { task = packed.fits; from = tt }

exchange_packed : (v : PassView) (m : ExchangeMachine) → ExchangesFor v m → IsPacked (exchanges m)
exchange_packed v (exchange.Header errand phase) for = let word = for.1 in record { task = word.fits; from = tt }
exchange_packed v (exchange.Field errand phase plainly) for = plain_packed errand plainly for.1 for.2
exchange_packed v (exchange.Follow errand (follow.Header birth at)) for = record { task = for.fits; from = tt }
exchange_packed v (exchange.Follow errand (follow.Ended end)) for = record { task = for.fits; from = tt }
exchange_packed v (exchange.Ended errand end) for = record { task = for.fits; from = tt }

pub exchanging : Runs at_rest (own_of false) machine_of_exchange.asks_of machine_of_exchange.fed_of machine_of_exchange.front exchanges ExchangesFor machine_of_exchange.end_of exchange_said
exchanging = record {
  asks_alike = exchange_asks;
  goes = exchange_goes;
  looks_alike = exchange_looks;
  follows_on = exchange_follows;
  over = exchange_over;
  tells = exchange_tells;
  packed = exchange_packed;
}
