-- The exchange at one word.
use Rattle.std.specs.Prelude.{◌≡◌, ◌≢◌, ℕ, ◌<◌, ◌==◌, if◌then◌else◌, Bool, true, false, Option, Some, None, refl}
use Rattle.std.proofs.Common.{lit<, arith}
use Rattle.call_steps.specs.declared.step.Step.{Step}
use Rattle.call_steps.specs.declared.step.Step.TheVariants.{Load, Store, Exchange, Ended}
use Rattle.heap_words.specs.FieldWords.{field_at, is_same_value}
use Rattle.barriers.specs.declared.front.Front.{Front}
use Rattle.barriers.specs.declared.front.Front.TheVariants.{Stays, Now, SealedOrNow}
use Rattle.barriers.specs.declared.ends.TryRefusal.TheVariants.{Raced}
use Rattle.barriers.specs.declared.ends.ExchangeEnd.{ExchangeEnd}
use Rattle.barriers.specs.declared.ends.ExchangeEnd.TheVariants.{Done, Differs, Refused}
use Rattle.barriers.specs.declared.plain_exchange.Swap.{Swap}
use Rattle.barriers.specs.declared.plain_exchange.TriesLeft.{TriesLeft}
use Rattle.barriers.specs.declared.plain_exchange.TriesLeft.TheVariants.{Two, One, Zero}
use Rattle.barriers.specs.declared.plain_exchange.PlainExchange.{PlainExchange}
use Rattle.barriers.specs.declared.plain_exchange.PlainExchange.TheVariants as plain

-- the step that it takes next
abbrev pub asks_of : PlainExchange → Step
asks_of (plain.Load swap) = Load swap.place
asks_of (plain.Try swap wanted tries) = Exchange swap.place wanted swap.word
asks_of (plain.Ended end) = Ended

-- whether a word has the expected value
abbrev pub is_expected : Swap → ℕ → Bool
is_expected swap word = is_same_value swap.expected (field_at word)

-- after the load: the word is exchanged where it has the expected value
abbrev pub compared : Swap → ℕ → PlainExchange
compared swap found = if is_expected swap found then plain.Try swap found Two else plain.Ended (Differs (field_at found))

-- after a lost exchange that found the expected value: the next one wants what was found, if there is a next one
abbrev pub again : Swap → ℕ → TriesLeft → ℕ → PlainExchange
again swap wanted Two found = plain.Try swap found One
again swap wanted One found = plain.Try swap found Zero
again swap wanted Zero found = plain.Ended (Refused (Raced wanted found))

-- after a lost exchange
abbrev pub lost : Swap → ℕ → TriesLeft → ℕ → PlainExchange
lost swap wanted tries found = if is_expected swap found then again swap wanted tries found else plain.Ended (Differs (field_at found))

-- after an exchange, which won where it found what it wanted
abbrev pub tried : Swap → ℕ → TriesLeft → ℕ → PlainExchange
tried swap wanted tries found = if found == wanted then plain.Ended Done else lost swap wanted tries found

-- what it is after it was fed a word
abbrev pub fed_of : PlainExchange → ℕ → PlainExchange
fed_of (plain.Load swap) found = compared swap found
fed_of (plain.Try swap wanted tries) found = tried swap wanted tries found
fed_of (plain.Ended end) found = plain.Ended end

-- what it ended with
abbrev pub end_of : PlainExchange → Option ExchangeEnd
end_of (plain.Load swap) = None
end_of (plain.Try swap wanted tries) = None
end_of (plain.Ended end) = Some end

-- how many exchanges are left, with the one before these tries
abbrev pub exchanges_left : TriesLeft → ℕ
exchanges_left Two = 3
exchanges_left One = 2
exchanges_left Zero = 1

-- how many steps are left at most
abbrev pub left_of : PlainExchange → ℕ
left_of (plain.Load swap) = 4
left_of (plain.Try swap wanted tries) = exchanges_left tries
left_of (plain.Ended end) = 0

-- A word of another value than the expected one is seen: by the load that at the object's seal, by a lost exchange that now.
abbrev pub front : PlainExchange → ℕ → Front
front (plain.Load swap) found = if is_expected swap found then Stays else SealedOrNow
front (plain.Try swap wanted tries) found = if found == wanted then Stays else (if is_expected swap found then Stays else Now)
front (plain.Ended end) found = Stays

pub blind_of : (m : PlainExchange) (at put n : ℕ) → asks_of m ≡ Store at put → fed_of m n ≡ fed_of m 0
blind_of (plain.Load swap) at put n e = absurd cc
blind_of (plain.Try swap wanted tries) at put n e = absurd cc
blind_of (plain.Ended end) at put n e = refl

pub none_left_of : (m : PlainExchange) → asks_of m ≡ Ended → left_of m ≡ 0
none_left_of (plain.Load swap) e = absurd cc
none_left_of (plain.Try swap wanted tries) e = absurd cc
none_left_of (plain.Ended end) e = refl

pub some_exchange_left : (tries : TriesLeft) → 0 < exchanges_left tries
some_exchange_left Two = lit< tt
some_exchange_left One = lit< tt
some_exchange_left Zero = lit< tt

pub some_left_of : (m : PlainExchange) → left_of m ≡ 0 → asks_of m ≡ Ended
some_left_of (plain.Load swap) e = absurd (omega arith)
some_left_of (plain.Try swap wanted tries) e = absurd (omega (arith, some_exchange_left tries))
some_left_of (plain.Ended end) e = refl

compared_falls : (swap : Swap) (found : ℕ) (b : Bool) → left_of (if b then plain.Try swap found Two else plain.Ended (Differs (field_at found))) < 4
compared_falls swap found true = lit< tt
compared_falls swap found false = lit< tt

again_falls : (swap : Swap) (wanted : ℕ) (tries : TriesLeft) (found : ℕ) → left_of (again swap wanted tries found) < exchanges_left tries
again_falls swap wanted Two found = lit< tt
again_falls swap wanted One found = lit< tt
again_falls swap wanted Zero found = lit< tt

lost_falls : (swap : Swap) (wanted : ℕ) (tries : TriesLeft) (found : ℕ) (b : Bool) → left_of (if b then again swap wanted tries found else plain.Ended (Differs (field_at found))) < exchanges_left tries
lost_falls swap wanted tries found true = again_falls swap wanted tries found
lost_falls swap wanted tries found false = some_exchange_left tries

tried_falls : (swap : Swap) (wanted : ℕ) (tries : TriesLeft) (found : ℕ) (b : Bool) → left_of (if b then plain.Ended Done else lost swap wanted tries found) < exchanges_left tries
tried_falls swap wanted tries found true = some_exchange_left tries
tried_falls swap wanted tries found false = lost_falls swap wanted tries found (is_expected swap found)

pub falls_of : (m : PlainExchange) (n : ℕ) → asks_of m ≢ Ended → left_of (fed_of m n) < left_of m
falls_of (plain.Load swap) n on = compared_falls swap n (is_expected swap n)
falls_of (plain.Try swap wanted tries) n on = tried_falls swap wanted tries n (n == wanted)
falls_of (plain.Ended end) n on = absurd (on refl)
