-- An exchange of a field.
use Rattle.std.specs.Prelude.{◌≡◌, ◌≢◌, ℕ, ◌+◌, ◌<◌, ◌≤◌, ◌==◌, nat_lt, if◌then◌else◌, Bool, true, false, Option, Some, None, option_map, refl}
use Rattle.std.proofs.Common.{lit<, arith, ap}
use Rattle.std.proofs.lemmas.Bool.Decides.{nat_tests}
use Rattle.call_steps.specs.declared.step.Step.{Step}
use Rattle.call_steps.specs.declared.step.Step.TheVariants.{Load, Store, Ended}
use Rattle.heap_words.specs.declared.field_word.FieldWord.{FieldWord}
use Rattle.object_headers.specs.Headers.{header_at}
use Rattle.handshakes.specs.declared.phase_word.Phase.{Phase}
use Rattle.handshakes.specs.Follows as follows
use Rattle.barriers.specs.declared.front.Front.{Front}
use Rattle.barriers.specs.declared.front.Front.TheVariants.{Stays}
use Rattle.barriers.specs.declared.ends.TryRefusal.TheVariants.{NoField}
use Rattle.barriers.specs.declared.ends.ExchangeEnd.{ExchangeEnd}
use Rattle.barriers.specs.declared.ends.ExchangeEnd.TheVariants.{Done, Differs, Refused}
use Rattle.barriers.specs.declared.plain_exchange.PlainExchange.{PlainExchange}
use Rattle.barriers.specs.declared.plain_exchange.PlainExchange.TheVariants as plain
use Rattle.barriers.specs.declared.plain_exchange.Swap.{Swap}
use Rattle.barriers.specs.declared.exchange.Errand.{Errand}
use Rattle.barriers.specs.declared.exchange.ExchangeMachine.{ExchangeMachine}
use Rattle.barriers.specs.declared.exchange.ExchangeMachine.TheVariants as exchange
use Rattle.barriers.specs.Spots.{spot_of}
use Rattle.barriers.specs.PlainExchanges as at_word

-- what an exchange of this field is to do
abbrev pub errand_of : ℕ → ℕ → ℕ → FieldWord → ℕ → Errand
errand_of birth at field expected word = record { spot = spot_of birth at field; expected = expected; word = word }

-- the step that it takes next
abbrev pub asks_of : ExchangeMachine → Step
asks_of (exchange.Header errand phase) = Load errand.spot.at
asks_of (exchange.Field errand phase plainly) = at_word.asks_of plainly
asks_of (exchange.Follow errand its) = follows.asks_of its
asks_of (exchange.Ended errand end) = Ended

-- the exchange of this field's word
abbrev pub swap_of : Errand → Swap
swap_of errand = record { place = errand.spot.place; expected = errand.expected; word = errand.word }

-- it is refused for want of the field
abbrev pub lacking : Errand → ℕ → ExchangeMachine
lacking errand len = exchange.Ended errand (Refused (NoField len))

-- with the header's len at hand
abbrev pub by_len : Errand → Phase → ℕ → ExchangeMachine
by_len errand phase len =
    if nat_lt errand.spot.field len
    then exchange.Field errand phase (plain.Load (swap_of errand))
    else lacking errand len

-- where the exchange of the word has ended so: a value that differs is followed as the phase asks
abbrev pub ended : Errand → Phase → ExchangeEnd → ExchangeMachine
ended errand phase Done = exchange.Ended errand Done
ended errand phase (Differs held) = exchange.Follow errand (follows.follow_of phase held)
ended errand phase (Refused why) = exchange.Ended errand (Refused why)

-- with the exchange of the word as it stands
abbrev pub exchanged : Errand → Phase → PlainExchange → ExchangeMachine
exchanged errand phase (plain.Load swap) = exchange.Field errand phase (plain.Load swap)
exchanged errand phase (plain.Try swap wanted tries) = exchange.Field errand phase (plain.Try swap wanted tries)
exchanged errand phase (plain.Ended end) = ended errand phase end

-- what it is after it was fed a word
abbrev pub fed_of : ExchangeMachine → ℕ → ExchangeMachine
fed_of (exchange.Header errand phase) found = let header = header_at found in by_len errand phase header.len
fed_of (exchange.Field errand phase plainly) found = exchanged errand phase (at_word.fed_of plainly found)
fed_of (exchange.Follow errand its) found = exchange.Follow errand (follows.fed_of its found)
fed_of (exchange.Ended errand end) found = exchange.Ended errand end

-- what it ended with
abbrev pub end_of : ExchangeMachine → Option ExchangeEnd
end_of (exchange.Header errand phase) = None
end_of (exchange.Field errand phase plainly) = at_word.end_of plainly
end_of (exchange.Follow errand its) = option_map (λ e. Differs e.word) (follows.end_of its)
end_of (exchange.Ended errand end) = Some end

-- where some steps are left, 4 more may follow
abbrev pub with_follow : ℕ → ℕ
with_follow left = if left == 0 then 0 else left + 4

-- how many steps are left at most: the header, 4 to exchange the word, and 4 to follow
abbrev pub left_of : ExchangeMachine → ℕ
left_of (exchange.Header errand phase) = 9
left_of (exchange.Field errand phase plainly) = with_follow (at_word.left_of plainly)
left_of (exchange.Follow errand its) = follows.left_of its
left_of (exchange.Ended errand end) = 0

-- the exchange of the word sees a value
abbrev pub front : ExchangeMachine → ℕ → Front
front (exchange.Field errand phase plainly) found = at_word.front plainly found
front m found = Stays

pub blind_of : (m : ExchangeMachine) (at put n : ℕ) → asks_of m ≡ Store at put → fed_of m n ≡ fed_of m 0
blind_of (exchange.Header errand phase) at put n e = absurd cc
blind_of (exchange.Field errand phase plainly) at put n e = ap (λ next. exchanged errand phase next) (at_word.blind_of plainly at put n e)
blind_of (exchange.Follow errand its) at put n e = ap (λ f. exchange.Follow errand f) (follows.blind_of its at put n e)
blind_of (exchange.Ended errand end) at put n e = refl

with_follow-none : (left : ℕ) → left ≡ 0 → with_follow left ≡ 0
with_follow-none left none = grind (arith, nat_tests)

none_with_follow : (left : ℕ) → with_follow left ≡ 0 → left ≡ 0
none_with_follow left none = grind (arith, nat_tests)

with_follow-some : (left : ℕ) → 0 < left → with_follow left ≡ left + 4
with_follow-some left some = grind (arith, nat_tests)

pub none_left_of : (m : ExchangeMachine) → asks_of m ≡ Ended → left_of m ≡ 0
none_left_of (exchange.Header errand phase) e = absurd cc
none_left_of (exchange.Field errand phase plainly) e = with_follow-none (at_word.left_of plainly) (at_word.none_left_of plainly e)
none_left_of (exchange.Follow errand its) e = follows.none_left_of its e
none_left_of (exchange.Ended errand end) e = refl

pub some_left_of : (m : ExchangeMachine) → left_of m ≡ 0 → asks_of m ≡ Ended
some_left_of (exchange.Header errand phase) e = absurd (omega arith)
some_left_of (exchange.Field errand phase plainly) e = at_word.some_left_of plainly (none_with_follow (at_word.left_of plainly) e)
some_left_of (exchange.Follow errand its) e = follows.some_left_of its e
some_left_of (exchange.Ended errand end) e = refl

by_len_falls : (errand : Errand) (phase : Phase) (len : ℕ) (b : Bool) → left_of (if b then exchange.Field errand phase (plain.Load (swap_of errand)) else lacking errand len) < 9
by_len_falls errand phase len true = lit< tt
by_len_falls errand phase len false = lit< tt

-- a follow takes no more steps than the exchange of the word left for it
ended-left : (errand : Errand) (phase : Phase) (end : ExchangeEnd) → left_of (ended errand phase end) ≤ 4
ended-left errand phase Done = omega arith
ended-left errand phase (Differs held) = follows.follow_of-left phase held
ended-left errand phase (Refused why) = omega arith

exchanged_falls : (errand : Errand) (phase : Phase) (next : PlainExchange) (left : ℕ) → at_word.left_of next < left → left_of (exchanged errand phase next) < with_follow left
exchanged_falls errand phase (plain.Load swap) left falls = rw (with_follow-some left (omega arith)) (omega arith)
exchanged_falls errand phase (plain.Try swap wanted tries) left falls =
    let some = at_word.some_exchange_left tries in
    rw (with_follow-some left (omega arith), with_follow-some (at_word.exchanges_left tries) some) (omega arith)
exchanged_falls errand phase (plain.Ended end) left falls = rw (with_follow-some left (omega arith)) (omega (arith, ended-left errand phase end))

pub falls_of : (m : ExchangeMachine) (n : ℕ) → asks_of m ≢ Ended → left_of (fed_of m n) < left_of m
falls_of (exchange.Header errand phase) n on = let header = header_at n in by_len_falls errand phase header.len (nat_lt errand.spot.field header.len)
falls_of (exchange.Field errand phase plainly) n on = exchanged_falls errand phase (at_word.fed_of plainly n) (at_word.left_of plainly) (at_word.falls_of plainly n on)
falls_of (exchange.Follow errand its) n on = follows.falls_of its n on
falls_of (exchange.Ended errand end) n on = absurd (on refl)
