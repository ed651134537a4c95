-- Why the calls of objects at rest end as they do, whatever others do meanwhile.
use Rattle.std.specs.Prelude.{◌≡◌, ◌≢◌, ℕ, ◌≤◌, nat_lt, Bool, true, false, List, [], ◌∷◌, ◌++◌, refl, if◌then◌else◌}
use Rattle.std.specs.Option.{ForSome}
use Rattle.std.proofs.Common.{sym, subst, ap, inl, inr}
use Rattle.std.proofs.lemmas.Bool.{ltb-false}
use Rattle.call_steps.specs.declared.step.Step.TheVariants.{Load, Store, Ended}
use Rattle.call_steps.specs.Ending.{Taken, LastStep, EndsOnlyFor, up_to, step_of, ends_only_for}
use Rattle.heap_words.specs.FieldWords.{field_at}
use Rattle.object_headers.specs.Headers.{header_at}
use Rattle.handshakes.specs.declared.phase_word.Phase.{Phase}
use Rattle.handshakes.specs.Follows as follows
use Rattle.barriers.specs.declared.spot.Spot.{Spot}
use Rattle.barriers.specs.declared.ends.TryRefusal.{TryRefusal}
use Rattle.barriers.specs.declared.ends.TryRefusal.TheVariants as refusal
use Rattle.barriers.specs.declared.ends.ReadEnd.{ReadEnd}
use Rattle.barriers.specs.declared.ends.ReadEnd.TheVariants as read_end
use Rattle.barriers.specs.declared.ends.WriteEnd.{WriteEnd}
use Rattle.barriers.specs.declared.ends.WriteEnd.TheVariants as write_end
use Rattle.barriers.specs.declared.ends.ExchangeEnd.{ExchangeEnd}
use Rattle.barriers.specs.declared.ends.ExchangeEnd.TheVariants as exchange_end
use Rattle.barriers.specs.declared.plain_exchange.Swap.{Swap}
use Rattle.barriers.specs.declared.plain_exchange.PlainExchange.{PlainExchange}
use Rattle.barriers.specs.declared.plain_exchange.PlainExchange.TheVariants as plain
use Rattle.barriers.specs.declared.read.ReadMachine.{ReadMachine}
use Rattle.barriers.specs.declared.read.ReadMachine.TheVariants as read
use Rattle.barriers.specs.declared.write.WriteMachine.{WriteMachine}
use Rattle.barriers.specs.declared.write.WriteMachine.TheVariants as write
use Rattle.barriers.specs.declared.exchange.Errand.{Errand}
use Rattle.barriers.specs.declared.exchange.ExchangeMachine.{ExchangeMachine}
use Rattle.barriers.specs.declared.exchange.ExchangeMachine.TheVariants as exchange
use Rattle.barriers.specs.FollowCauses.{IsGiven, IsFollowing, follow_begins, found_at_once, follow_ends, followed, for_mapped}
use Rattle.barriers.specs.PlainExchangeCauses as at_word
use Rattle.barriers.specs.PlainExchanges as plainly
use Rattle.barriers.specs.Reads as reads
use Rattle.barriers.specs.Writes as writes
use Rattle.barriers.specs.Exchanges as exchanges

-- the len that a header's word says
abbrev pub len_at : ℕ → ℕ
len_at word = let header = header_at word in header.len

-- the first step loaded the header, which says this len, and the field is at or past it
pub record LacksField (spot : Spot) (last : LastStep) (len : ℕ) : Type 0 where
  pub first : last.earlier ≡ []
  pub header : last.step ≡ Load spot.at
  pub says : len ≡ len_at last.found
  pub past : len ≤ spot.field

-- after these steps, the load of the header
abbrev pub header_load : Spot → List Taken → ℕ → LastStep
header_load spot earlier n = record { earlier = earlier; step = Load spot.at; found = n }

lacks_field : (its spot : Spot) (earlier : List Taken) (n : ℕ) → its ≡ spot → earlier ≡ [] → nat_lt its.field (len_at n) ≡ false → LacksField spot (header_load its earlier n) (len_at n)
lacks_field its spot earlier n same first e = record {
  first = first;
  header = ap (λ (s : Spot). Load s.at) same;
  says = refl;
  past = subst (λ (s : Spot). len_at n ≤ s.field) same (ltb-false its.field (len_at n) e);
}

-- ---- a read

-- the step loaded the field
abbrev pub LoadsField : Spot → LastStep → Type 0
LoadsField spot last = last.step ≡ Load spot.place

-- a read gives what the load of the field found, followed as the phase asks, and ends without a value only where the header lacks the field
abbrev pub ReadEndsFor : Spot → Phase → LastStep → ReadEnd → Type 0
ReadEndsFor spot phase last (read_end.Got held) = IsGiven (LoadsField spot) phase last held
ReadEndsFor spot phase last (read_end.NoField len) = LacksField spot last len

-- after these steps the machine is a read of this field in this phase
abbrev pub IsReadFor : Spot → Phase → List Taken → ReadMachine → Type 0
IsReadFor spot phase earlier (read.Header its in_phase) = (its ≡ spot) × (in_phase ≡ phase) × (earlier ≡ [])
IsReadFor spot phase earlier (read.Field its in_phase) = (its ≡ spot) × (in_phase ≡ phase)
IsReadFor spot phase earlier (read.Follow here its) = IsFollowing (LoadsField spot) phase earlier its
IsReadFor spot phase earlier (read.NoField here len) = Unit {0}

read_by_len : (spot its : Spot) (phase its_phase : Phase) (earlier : List Taken) (len : ℕ) (b : Bool) → its ≡ spot → its_phase ≡ phase → IsReadFor spot phase earlier (if b then read.Field its its_phase else read.NoField its len)
read_by_len spot its phase its_phase earlier len true same same_phase = (same, same_phase)
read_by_len spot its phase its_phase earlier len false same same_phase = tt

pub read_keeps : (spot : Spot) (phase : Phase) (earlier : List Taken) (m : ReadMachine) (n : ℕ) → IsReadFor spot phase earlier m → IsReadFor spot phase (up_to (step_of reads.asks_of earlier m n)) (reads.fed_of m n)
read_keeps spot phase earlier (read.Header its its_phase) n is = read_by_len spot its phase its_phase _ (len_at n) (nat_lt its.field (len_at n)) is.0 is.1
read_keeps spot phase earlier (read.Field its its_phase) n is =
    let look : LastStep = step_of reads.asks_of earlier (read.Field its its_phase) n in
    let begun = follow_begins (LoadsField spot) look (ap (λ (s : Spot). Load s.place) is.0) phase (field_at n) refl in
    subst (λ (p : Phase). IsFollowing (LoadsField spot) phase (up_to look) (follows.follow_of p (field_at n))) (sym is.1) begun
read_keeps spot phase earlier (read.Follow here its) n is = follow_ends (LoadsField spot) phase earlier _ its n is
read_keeps spot phase earlier (read.NoField here len) n is = tt

first_read : (spot its : Spot) (phase its_phase : Phase) (earlier : List Taken) (n : ℕ) (b : Bool) → its ≡ spot → earlier ≡ [] → nat_lt its.field (len_at n) ≡ b → ForSome (reads.end_of (if b then read.Field its its_phase else read.NoField its (len_at n))) (ReadEndsFor spot phase (header_load its earlier n))
first_read spot its phase its_phase earlier n true same first e end is = absurd cc
first_read spot its phase its_phase earlier n false same first e end is =
    let none : read_end.NoField (len_at n) ≡ end = cc in
    subst (ReadEndsFor spot phase (header_load its earlier n)) none (lacks_field its spot earlier n same first e)

pub read_ends : (spot : Spot) (phase : Phase) (earlier : List Taken) (m : ReadMachine) (n : ℕ) → IsReadFor spot phase earlier m → reads.asks_of m ≢ Ended → ForSome (reads.end_of (reads.fed_of m n)) (ReadEndsFor spot phase (step_of reads.asks_of earlier m n))
read_ends spot phase earlier (read.Header its its_phase) n is on = first_read spot its phase its_phase earlier n (nat_lt its.field (len_at n)) is.0 is.2 refl
read_ends spot phase earlier (read.Field its its_phase) n is on =
    let look : LastStep = step_of reads.asks_of earlier (read.Field its its_phase) n in
    let found = found_at_once (LoadsField spot) look (ap (λ (s : Spot). Load s.place) is.0) phase (field_at n) refl in
    let given = for_mapped (λ e. read_end.Got e.word) (follows.end_of (follows.follow_of phase (field_at n))) (ReadEndsFor spot phase look) (λ e is. inl (found e is)) in
    subst (λ (p : Phase). ForSome (reads.end_of (read.Follow its (follows.follow_of p (field_at n)))) (ReadEndsFor spot phase look)) (sym is.1) given
read_ends spot phase earlier (read.Follow here its) n is on =
    let gone = followed (LoadsField spot) phase earlier its n is on in
    for_mapped (λ e. read_end.Got e.word) (follows.end_of (follows.fed_of its n)) (ReadEndsFor spot phase (step_of follows.asks_of earlier its n)) (λ e is. inr (gone e is))
read_ends spot phase earlier (read.NoField here len) n is on = absurd (on refl)

-- a read of this field ends only so
pub read_cause_of : (spot : Spot) (phase : Phase) → EndsOnlyFor reads.asks_of reads.fed_of reads.end_of (ReadEndsFor spot phase) (read.Header spot phase)
read_cause_of spot phase = ends_only_for reads.asks_of reads.fed_of reads.end_of (ReadEndsFor spot phase) (IsReadFor spot phase) (read_keeps spot phase) (read_ends spot phase) (read.Header spot phase) (refl, refl, refl)

-- ---- a write

-- a write stores its word in the field last, and is refused only where the header lacks the field
abbrev pub WriteEndsFor : Spot → ℕ → LastStep → WriteEnd → Type 0
WriteEndsFor spot word last write_end.Wrote = last.step ≡ Store spot.place word
WriteEndsFor spot word last (write_end.Refused (refusal.NoField len)) = LacksField spot last len
WriteEndsFor spot word last (write_end.Refused refusal.NotLink) = ⊥
WriteEndsFor spot word last (write_end.Refused (refusal.Raced loaded found)) = ⊥
WriteEndsFor spot word last (write_end.Refused (refusal.Busy cycle mark)) = ⊥

-- after these steps the machine is a write of this field with this word
abbrev pub IsWriteFor : Spot → ℕ → List Taken → WriteMachine → Type 0
IsWriteFor spot word earlier (write.Header its its_word) = (its ≡ spot) × (its_word ≡ word) × (earlier ≡ [])
IsWriteFor spot word earlier (write.Field its its_word) = (its ≡ spot) × (its_word ≡ word)
IsWriteFor spot word earlier (write.Ended here put end) = Unit {0}

-- a write for want of a field
abbrev no_write : Spot → ℕ → ℕ → WriteMachine
no_write spot word len = write.Ended spot word (write_end.Refused (refusal.NoField len))

write_by_len : (spot its : Spot) (word its_word : ℕ) (earlier : List Taken) (len : ℕ) (b : Bool) → its ≡ spot → its_word ≡ word → IsWriteFor spot word earlier (if b then write.Field its its_word else no_write its its_word len)
write_by_len spot its word its_word earlier len true same same_word = (same, same_word)
write_by_len spot its word its_word earlier len false same same_word = tt

pub write_keeps : (spot : Spot) (word : ℕ) (earlier : List Taken) (m : WriteMachine) (n : ℕ) → IsWriteFor spot word earlier m → IsWriteFor spot word (up_to (step_of writes.asks_of earlier m n)) (writes.fed_of m n)
write_keeps spot word earlier (write.Header its its_word) n is = write_by_len spot its word its_word _ (len_at n) (nat_lt its.field (len_at n)) is.0 is.1
write_keeps spot word earlier (write.Field its its_word) n is = tt
write_keeps spot word earlier (write.Ended here put end) n is = tt

first_write : (spot its : Spot) (word its_word : ℕ) (earlier : List Taken) (n : ℕ) (b : Bool) → its ≡ spot → earlier ≡ [] → nat_lt its.field (len_at n) ≡ b → ForSome (writes.end_of (if b then write.Field its its_word else no_write its its_word (len_at n))) (WriteEndsFor spot word (header_load its earlier n))
first_write spot its word its_word earlier n true same first e end is = absurd cc
first_write spot its word its_word earlier n false same first e end is =
    let none : write_end.Refused (refusal.NoField (len_at n)) ≡ end = cc in
    subst (WriteEndsFor spot word (header_load its earlier n)) none (lacks_field its spot earlier n same first e)

pub write_ends : (spot : Spot) (word : ℕ) (earlier : List Taken) (m : WriteMachine) (n : ℕ) → IsWriteFor spot word earlier m → writes.asks_of m ≢ Ended → ForSome (writes.end_of (writes.fed_of m n)) (WriteEndsFor spot word (step_of writes.asks_of earlier m n))
write_ends spot word earlier (write.Header its its_word) n is on = first_write spot its word its_word earlier n (nat_lt its.field (len_at n)) is.0 is.2 refl
write_ends spot word earlier (write.Field its its_word) n is on = λ end ends.
    let wrote : write_end.Wrote ≡ end = cc in
    let place : its.place ≡ spot.place = ap (λ (s : Spot). s.place) is.0 in
    let step : Store its.place its_word ≡ Store spot.place word = cc (place, is.1) in
    subst (WriteEndsFor spot word (step_of writes.asks_of earlier (write.Field its its_word) n)) wrote step
write_ends spot word earlier (write.Ended here put end) n is on = absurd (on refl)

-- a write of this field ends only so
pub write_cause_of : (spot : Spot) (word : ℕ) → EndsOnlyFor writes.asks_of writes.fed_of writes.end_of (WriteEndsFor spot word) (write.Header spot word)
write_cause_of spot word = ends_only_for writes.asks_of writes.fed_of writes.end_of (WriteEndsFor spot word) (IsWriteFor spot word) (write_keeps spot word) (write_ends spot word) (write.Header spot word) (refl, refl, refl)

-- ---- an exchange

-- without the first
abbrev pub after_first : List Taken → List Taken
after_first [] = []
after_first (first ∷ rest) = rest

-- the step, counted from after the load of the header
abbrev pub after_header : LastStep → LastStep
after_header last = record last { earlier = after_first last.earlier }

-- An exchange of this field is refused where the header lacks the field. What differs was found in the field by a load or a lost exchange of its
-- word, has another value than the expected one, and is followed as the phase asks. All other ends are those of the exchange of the field's word.
abbrev pub ExchangeEndsFor : Errand → Phase → LastStep → ExchangeEnd → Type 0
ExchangeEndsFor errand phase last (exchange_end.Refused (refusal.NoField len)) = LacksField errand.spot last len
ExchangeEndsFor errand phase last (exchange_end.Differs held) = IsGiven (at_word.FindsOther (exchanges.swap_of errand)) phase last held
ExchangeEndsFor errand phase last end = at_word.EndsFor (exchanges.swap_of errand) (after_header last) end

-- the step, counted from the load of the header
abbrev pub from_header : Taken → LastStep → LastStep
from_header header later = record later { earlier = header ∷ later.earlier }

-- after the load of the header this exchange of a word goes on
pub record IsAtWord (swap : Swap) (earlier : List Taken) (its : PlainExchange) : Type 0 where
  pub header : Taken
  pub rest : List Taken
  pub begins : earlier ≡ header ∷ rest
  pub same : at_word.IsFor swap rest its
  pub goes_on : plainly.asks_of its ≢ Ended

-- after these steps the machine is an exchange of this field in this phase
abbrev pub IsExchangeFor : Errand → Phase → List Taken → ExchangeMachine → Type 0
IsExchangeFor errand phase earlier (exchange.Header its its_phase) = (its ≡ errand) × (its_phase ≡ phase) × (earlier ≡ [])
IsExchangeFor errand phase earlier (exchange.Field its its_phase its_exchange) = (its_phase ≡ phase) × IsAtWord (exchanges.swap_of errand) earlier its_exchange
IsExchangeFor errand phase earlier (exchange.Follow here its) = IsFollowing (at_word.FindsOther (exchanges.swap_of errand)) phase earlier its
IsExchangeFor errand phase earlier (exchange.Ended here end) = Unit {0}

-- the exchange of a field's word
module _ (errand : Errand) (phase : Phase) where
  abbrev swap : Swap
  swap = exchanges.swap_of errand

  abbrev Is : List Taken → ExchangeMachine → Type 0
  Is = IsExchangeFor errand phase

  abbrev Ends : LastStep → ExchangeEnd → Type 0
  Ends = ExchangeEndsFor errand phase

  exchange_by_len : (its : Errand) (its_phase : Phase) (its_swap : Swap) (header : Taken) (len : ℕ) (b : Bool) → its_phase ≡ phase → its_swap ≡ swap → Is (header ∷ []) (if b then exchange.Field its its_phase (plain.Load its_swap) else exchanges.lacking its len)
  exchange_by_len its its_phase its_swap header len true same_phase same = (same_phase, record { header = header; rest = []; begins = refl; same = (same, refl); goes_on = λ ended. absurd cc })
  exchange_by_len its its_phase its_swap header len false same_phase same = tt

  first_exchange : (its : Errand) (its_phase : Phase) (its_swap : Swap) (earlier : List Taken) (n : ℕ) (b : Bool) → its ≡ errand → earlier ≡ [] → nat_lt its.spot.field (len_at n) ≡ b → ForSome (exchanges.end_of (if b then exchange.Field its its_phase (plain.Load its_swap) else exchanges.lacking its (len_at n))) (Ends (header_load its.spot earlier n))
  first_exchange its its_phase its_swap earlier n true same first e end is = absurd cc
  first_exchange its its_phase its_swap earlier n false same first e end is =
      let none : exchange_end.Refused (refusal.NoField (len_at n)) ≡ end = cc in
      subst (Ends (header_load its.spot earlier n)) none (lacks_field its.spot errand.spot earlier n (ap (λ (e : Errand). e.spot) same) first e)

  for_refused : (header : Taken) (later : LastStep) (why : TryRefusal) → at_word.EndsFor swap later (exchange_end.Refused why) → Ends (from_header header later) (exchange_end.Refused why)
  for_refused header later refusal.NotLink for = for
  for_refused header later (refusal.NoField len) for = absurd for
  for_refused header later (refusal.Raced loaded found) for = for
  for_refused header later (refusal.Busy cycle mark) for = for

  -- as a step of the exchange of the word leaves it
  word_keeps : (header : Taken) (later : LastStep) (its : Errand) (next : PlainExchange) → at_word.IsFor swap (up_to later) next → ForSome (plainly.end_of next) (at_word.EndsFor swap later) → Is (up_to (from_header header later)) (exchanges.exchanged its phase next)
  word_keeps header later its (plain.Load given) for ends = (refl, record { header = header; rest = up_to later; begins = refl; same = for; goes_on = λ ended. absurd cc })
  word_keeps header later its (plain.Try given wanted tries) for ends = (refl, record { header = header; rest = up_to later; begins = refl; same = for; goes_on = λ ended. absurd cc })
  word_keeps header later its (plain.Ended exchange_end.Done) for ends = tt
  word_keeps header later its (plain.Ended (exchange_end.Differs held)) for ends =
      let differs = ends (exchange_end.Differs held) refl in
      follow_begins (at_word.FindsOther swap) (from_header header later) differs.1 phase held differs.0
  word_keeps header later its (plain.Ended (exchange_end.Refused why)) for ends = tt

  word_ends : (header : Taken) (later : LastStep) (its : Errand) (next : PlainExchange) → ForSome (plainly.end_of next) (at_word.EndsFor swap later) → ForSome (exchanges.end_of (exchanges.exchanged its phase next)) (Ends (from_header header later))
  word_ends header later its (plain.Load given) ends = λ end is. absurd cc
  word_ends header later its (plain.Try given wanted tries) ends = λ end is. absurd cc
  word_ends header later its (plain.Ended exchange_end.Done) ends = λ end is.
      let done : exchange_end.Done ≡ end = cc in
      subst (Ends (from_header header later)) done (ends exchange_end.Done refl)
  word_ends header later its (plain.Ended (exchange_end.Differs held)) ends =
      let differs = ends (exchange_end.Differs held) refl in
      let found = found_at_once (at_word.FindsOther swap) (from_header header later) differs.1 phase held differs.0 in
      for_mapped (λ e. exchange_end.Differs e.word) (follows.end_of (follows.follow_of phase held)) (Ends (from_header header later)) (λ e is. inl (found e is))
  word_ends header later its (plain.Ended (exchange_end.Refused why)) ends = λ end is.
      let refused : exchange_end.Refused why ≡ end = cc in
      subst (Ends (from_header header later)) refused (for_refused header later why (ends (exchange_end.Refused why) refl))

  pub exchange_keeps : (earlier : List Taken) (m : ExchangeMachine) (n : ℕ) → Is earlier m → Is (up_to (step_of exchanges.asks_of earlier m n)) (exchanges.fed_of m n)
  exchange_keeps earlier (exchange.Header its its_phase) n is =
      let same : exchanges.swap_of its ≡ swap = ap exchanges.swap_of is.0 in
      let header : Taken = record { step = Load its.spot.at; found = n } in
      let begun = exchange_by_len its its_phase (exchanges.swap_of its) header (len_at n) (nat_lt its.spot.field (len_at n)) is.1 same in
      subst (λ (s : List Taken). Is (s ++ header ∷ []) (exchanges.by_len its its_phase (len_at n))) (sym is.2) begun
  exchange_keeps earlier (exchange.Field its its_phase plainly_so) n is =
      let here = is.1 in
      let later : LastStep = step_of plainly.asks_of here.rest plainly_so n in
      let next : PlainExchange = plainly.fed_of plainly_so n in
      let kept = word_keeps here.header later its next (at_word.IsFor-fed_of swap here.rest plainly_so n here.same) (at_word.end_for swap here.rest plainly_so n here.same here.goes_on) in
      let in_phase = subst (λ (p : Phase). Is (up_to (from_header here.header later)) (exchanges.exchanged its p next)) (sym is.0) kept in
      subst (λ (s : List Taken). Is (up_to (step_of plainly.asks_of s plainly_so n)) (exchanges.exchanged its its_phase next)) (sym here.begins) in_phase
  exchange_keeps earlier (exchange.Follow here its) n is = follow_ends (at_word.FindsOther swap) phase earlier _ its n is
  exchange_keeps earlier (exchange.Ended here end) n is = tt

  pub exchange_ends : (earlier : List Taken) (m : ExchangeMachine) (n : ℕ) → Is earlier m → exchanges.asks_of m ≢ Ended → ForSome (exchanges.end_of (exchanges.fed_of m n)) (Ends (step_of exchanges.asks_of earlier m n))
  exchange_ends earlier (exchange.Header its its_phase) n is on =
      first_exchange its its_phase (exchanges.swap_of its) earlier n (nat_lt its.spot.field (len_at n)) is.0 is.2 refl
  exchange_ends earlier (exchange.Field its its_phase plainly_so) n is on =
      let here = is.1 in
      let later : LastStep = step_of plainly.asks_of here.rest plainly_so n in
      let next : PlainExchange = plainly.fed_of plainly_so n in
      let ends = word_ends here.header later its next (at_word.end_for swap here.rest plainly_so n here.same on) in
      let in_phase = subst (λ (p : Phase). ForSome (exchanges.end_of (exchanges.exchanged its p next)) (Ends (from_header here.header later))) (sym is.0) ends in
      subst (λ (s : List Taken). ForSome (exchanges.end_of (exchanges.exchanged its its_phase next)) (Ends (step_of plainly.asks_of s plainly_so n))) (sym here.begins) in_phase
  exchange_ends earlier (exchange.Follow here its) n is on =
      let gone = followed (at_word.FindsOther swap) phase earlier its n is on in
      for_mapped (λ e. exchange_end.Differs e.word) (follows.end_of (follows.fed_of its n)) (Ends (step_of follows.asks_of earlier its n)) (λ e is. inr (gone e is))
  exchange_ends earlier (exchange.Ended here end) n is on = absurd (on refl)

  -- an exchange of this field ends only so
  pub exchange_cause_of : EndsOnlyFor exchanges.asks_of exchanges.fed_of exchanges.end_of Ends (exchange.Header errand phase)
  exchange_cause_of = ends_only_for exchanges.asks_of exchanges.fed_of exchanges.end_of Ends Is exchange_keeps exchange_ends (exchange.Header errand phase) (refl, refl, refl)
