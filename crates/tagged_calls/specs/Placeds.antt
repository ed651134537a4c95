-- The call at the word of its field, in the original or in the copy.
use Rattle.std.specs.Prelude.{◌≡◌, ◌≢◌, ℕ, ◌<◌}
use Rattle.std.proofs.Common.{ap}
use Rattle.call_steps.specs.declared.step.Step.{Step}
use Rattle.call_steps.specs.declared.step.Step.TheVariants.{Store, Ended}
use Rattle.handshakes.specs.declared.phase_word.Phase.{Phase}
use Rattle.barriers.specs.declared.spot.Spot.{Spot}
use Rattle.barriers.specs.declared.front.Front.{Front}
use Rattle.barriers.specs.declared.front.Front.TheVariants.{Now, SealedOrNow}
use Rattle.barriers.specs.declared.exchange.Errand.{Errand}
use Rattle.barriers.specs.declared.read.ReadMachine.{ReadMachine}
use Rattle.barriers.specs.declared.read.ReadMachine.TheVariants as read
use Rattle.barriers.specs.declared.write.WriteMachine.{WriteMachine}
use Rattle.barriers.specs.declared.write.WriteMachine.TheVariants as write
use Rattle.barriers.specs.declared.exchange.ExchangeMachine.{ExchangeMachine}
use Rattle.barriers.specs.declared.exchange.ExchangeMachine.TheVariants as exchange
use Rattle.barriers.specs.Reads as reads
use Rattle.barriers.specs.Writes as writes
use Rattle.barriers.specs.Exchanges as exchanges
use Rattle.tagged_calls.specs.declared.location.Location.{Location}
use Rattle.tagged_calls.specs.declared.location.Location.TheVariants as location
use Rattle.tagged_calls.specs.declared.placed.Placed.{Placed}
use Rattle.tagged_calls.specs.declared.placed.Placed.TheVariants as placed

-- ---- as the machine that it is

abbrev pub machine_of : {M : Type 0} → Placed M → M
machine_of (placed.Original m) = m
machine_of (placed.Copy spot m) = m

abbrev pub asks_of : {M : Type 0} → (M → Step) → Placed M → Step
asks_of asks m = asks (machine_of m)

abbrev pub fed_of : {M : Type 0} → (M → ℕ → M) → Placed M → ℕ → Placed M
fed_of fed (placed.Original m) found = placed.Original (fed m found)
fed_of fed (placed.Copy spot m) found = placed.Copy spot (fed m found)

abbrev pub left_of : {M : Type 0} → (M → ℕ) → Placed M → ℕ
left_of left m = left (machine_of m)

-- in the copy there is no seal to look at
abbrev pub unsealed : Front → Front
unsealed SealedOrNow = Now
unsealed f = f

abbrev pub front_of : {M : Type 0} → (M → ℕ → Front) → Placed M → ℕ → Front
front_of front (placed.Original m) found = front m found
front_of front (placed.Copy spot m) found = unsealed (front m found)

pub blind_of : {M : Type 0} (asks : M → Step) (fed : M → ℕ → M) → ((m : M) (at put n : ℕ) → asks m ≡ Store at put → fed m n ≡ fed m 0)
    → (m : Placed M) (at put n : ℕ) → asks_of asks m ≡ Store at put → fed_of fed m n ≡ fed_of fed m 0
blind_of asks fed blind (placed.Original m) at put n e = ap placed.Original (blind m at put n e)
blind_of asks fed blind (placed.Copy spot m) at put n e = ap (placed.Copy spot) (blind m at put n e)

pub none_left_of : {M : Type 0} (asks : M → Step) (left : M → ℕ) → ((m : M) → asks m ≡ Ended → left m ≡ 0) → (m : Placed M) → asks_of asks m ≡ Ended → left_of left m ≡ 0
none_left_of asks left none m e = none (machine_of m) e

pub some_left_of : {M : Type 0} (asks : M → Step) (left : M → ℕ) → ((m : M) → left m ≡ 0 → asks m ≡ Ended) → (m : Placed M) → left_of left m ≡ 0 → asks_of asks m ≡ Ended
some_left_of asks left some m e = some (machine_of m) e

pub falls_of : {M : Type 0} (asks : M → Step) (fed : M → ℕ → M) (left : M → ℕ) → ((m : M) (n : ℕ) → asks m ≢ Ended → left (fed m n) < left m)
    → (m : Placed M) (n : ℕ) → asks_of asks m ≢ Ended → left_of left (fed_of fed m n) < left_of left m
falls_of asks fed left falls (placed.Original m) n on = falls m n on
falls_of asks fed left falls (placed.Copy spot m) n on = falls m n on

-- ---- as it begins

-- the machine of this spot, in the original or in the copy as the location says
abbrev pub placed_at : {M : Type 0} → Location → Spot → (Spot → M) → Placed M
placed_at (location.Copy copy) spot machine = placed.Copy spot (machine copy)
placed_at it spot machine = placed.Original (machine spot)

-- each goes on as for an object at rest whose header has this word
abbrev pub read_in : Location → Spot → Phase → ℕ → Placed ReadMachine
read_in it spot phase word = placed_at it spot (λ here. reads.fed_of (read.Header here phase) word)

abbrev pub write_in : Location → Spot → ℕ → ℕ → Placed WriteMachine
write_in it spot word header = placed_at it spot (λ here. writes.fed_of (write.Header here word) header)

abbrev pub exchange_in : Location → Errand → Phase → ℕ → Placed ExchangeMachine
exchange_in it errand phase header = placed_at it errand.spot (λ here. exchanges.fed_of (exchange.Header (record errand { spot = here }) phase) header)

-- where it begins with few steps left at each spot, few are left
pub few_left : {M : Type 0} (left : M → ℕ) (it : Location) (spot : Spot) (machine : Spot → M) (few : ℕ) → ((here : Spot) → left (machine here) < few) → left_of left (placed_at it spot machine) < few
few_left left location.Original spot machine few falls = falls spot
few_left left (location.Tagged keep) spot machine few falls = falls spot
few_left left (location.Wide wide) spot machine few falls = falls spot
few_left left (location.Copy copy) spot machine few falls = falls copy
