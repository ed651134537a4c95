-- Why the exchange at one word ends as it does, whatever others do meanwhile.
use Rattle.std.specs.Prelude.{◌≡◌, ◌≢◌, ℕ, ◌⊎◌, ◌==◌, Bool, true, false, List, [], ◌∷◌, ◌++◌, refl, if◌then◌else◌}
use Rattle.std.specs.Option.{ForSome}
use Rattle.std.proofs.Common.{sym, subst, ap, ◌∙◌, inl, inr}
use Rattle.std.proofs.lemmas.Bool.{eqb-true, eqb-false}
use Rattle.call_steps.specs.declared.step.Step.TheVariants.{Load, Exchange, Ended}
use Rattle.call_steps.specs.Ending.{Taken, LastStep, EndsOnlyFor, up_to, step_of, ends_only_for}
use Rattle.heap_words.specs.FieldWords.{field_at}
use Rattle.barriers.specs.declared.ends.TryRefusal.TheVariants.{NotLink, NoField, Raced, Busy}
use Rattle.barriers.specs.declared.ends.ExchangeEnd.{ExchangeEnd}
use Rattle.barriers.specs.declared.ends.ExchangeEnd.TheVariants.{Done, Differs, Refused}
use Rattle.barriers.specs.declared.plain_exchange.Swap.{Swap}
use Rattle.barriers.specs.declared.plain_exchange.TriesLeft.{TriesLeft}
use Rattle.barriers.specs.declared.plain_exchange.TriesLeft.TheVariants.{Two, One, Zero}
use Rattle.barriers.specs.declared.plain_exchange.PlainExchange.{PlainExchange}
use Rattle.barriers.specs.declared.plain_exchange.PlainExchange.TheVariants as plain
use Rattle.barriers.specs.PlainExchanges.{asks_of, fed_of, end_of, is_expected, compared, again, lost, tried}

-- the step is an exchange that wanted this word
abbrev pub Wants : Swap → LastStep → ℕ → Type 0
Wants swap last wanted = last.step ≡ Exchange swap.place wanted swap.word

-- the load of the word, which found this
abbrev pub load : Swap → ℕ → Taken
load swap found = record { step = Load swap.place; found = found }

-- an exchange of it that wanted the one word and found the other
abbrev pub try : Swap → ℕ → ℕ → Taken
try swap wanted found = record { step = Exchange swap.place wanted swap.word; found = found }

-- the load, and an exchange that wanted what was found
abbrev pub one_try : Swap → ℕ → ℕ → List Taken
one_try swap first second = load swap first ∷ try swap first second ∷ []

-- the load and two exchanges, each of which wanted what was found before it
abbrev pub two_tries : Swap → ℕ → ℕ → ℕ → List Taken
two_tries swap first second third = load swap first ∷ try swap first second ∷ try swap second third ∷ []

-- after the load and two exchanges, the third exchange wanted the one word and found the other, which has the expected value too
pub record IsRace (swap : Swap) (last : LastStep) (loaded found : ℕ) : Type 0 where
  pub first : ℕ
  pub second : ℕ
  pub third : last.earlier ≡ two_tries swap first second loaded
  pub wants : Wants swap last loaded
  pub finds : last.found ≡ found
  pub other : found ≢ loaded
  pub loaded_expected : is_expected swap loaded ≡ true
  pub found_expected : is_expected swap found ≡ true

-- the step is an exchange that wanted another word than it found
abbrev pub HasLost : Swap → LastStep → Type 0
HasLost swap last = (wanted : ℕ) × (Wants swap last wanted × (last.found ≢ wanted))

-- the step is the load of the word, or an exchange of it that lost, and found another value than the expected one
abbrev pub FindsOther : Swap → LastStep → Type 0
FindsOther swap last = ((last.step ≡ Load swap.place) ⊎ HasLost swap last) × (is_expected swap last.found ≡ false)

-- What an end says of the last step: it exchanged the word that it wanted, which had the expected value; or it found another value; and the only refusal is a race.
abbrev pub EndsFor : Swap → LastStep → ExchangeEnd → Type 0
EndsFor swap last Done = Wants swap last last.found × (is_expected swap last.found ≡ true)
EndsFor swap last (Differs held) = (held ≡ field_at last.found) × FindsOther swap last
EndsFor swap last (Refused (Raced loaded found)) = IsRace swap last loaded found
EndsFor swap last (Refused NotLink) = ⊥
EndsFor swap last (Refused (NoField len)) = ⊥
EndsFor swap last (Refused (Busy cycle mark)) = ⊥

-- the steps before an exchange that wants this word and after which this many tries are left
abbrev pub ComesBefore : Swap → ℕ → TriesLeft → List Taken → Type 0
ComesBefore swap wanted Two earlier = earlier ≡ load swap wanted ∷ []
ComesBefore swap wanted One earlier = (first : ℕ) × (earlier ≡ one_try swap first wanted)
ComesBefore swap wanted Zero earlier = (first : ℕ) × ((second : ℕ) × (earlier ≡ two_tries swap first second wanted))

-- after these steps the machine is one of this swap, and what it wants has the expected value
abbrev pub IsFor : Swap → List Taken → PlainExchange → Type 0
IsFor swap earlier (plain.Load its) = (its ≡ swap) × (earlier ≡ [])
IsFor swap earlier (plain.Try its wanted tries) = (its ≡ swap) × (is_expected swap wanted ≡ true) × ComesBefore swap wanted tries earlier
IsFor swap earlier (plain.Ended end) = Unit {0}

for_compared : (swap : Swap) (earlier : List Taken) (n : ℕ) (b : Bool) → earlier ≡ [] → is_expected swap n ≡ b → IsFor swap (earlier ++ load swap n ∷ []) (if b then plain.Try swap n Two else plain.Ended (Differs (field_at n)))
for_compared swap earlier n true first e = (refl, e, ap (λ (s : List Taken). s ++ load swap n ∷ []) first)
for_compared swap earlier n false first e = tt

for_again : (swap : Swap) (earlier : List Taken) (wanted : ℕ) (tries : TriesLeft) (n : ℕ) → ComesBefore swap wanted tries earlier → is_expected swap n ≡ true → IsFor swap (earlier ++ try swap wanted n ∷ []) (again swap wanted tries n)
for_again swap earlier wanted Two n is e = (refl, e, (wanted, ap (λ (s : List Taken). s ++ try swap wanted n ∷ []) is))
for_again swap earlier wanted One n is e = (refl, e, (is.0, (wanted, ap (λ (s : List Taken). s ++ try swap wanted n ∷ []) is.1)))
for_again swap earlier wanted Zero n is e = tt

for_lost : (swap : Swap) (earlier : List Taken) (wanted : ℕ) (tries : TriesLeft) (n : ℕ) (b : Bool) → ComesBefore swap wanted tries earlier → is_expected swap n ≡ b → IsFor swap (earlier ++ try swap wanted n ∷ []) (if b then again swap wanted tries n else plain.Ended (Differs (field_at n)))
for_lost swap earlier wanted tries n true is e = for_again swap earlier wanted tries n is e
for_lost swap earlier wanted tries n false is e = tt

for_tried : (swap : Swap) (earlier : List Taken) (wanted : ℕ) (tries : TriesLeft) (n : ℕ) (b : Bool) → ComesBefore swap wanted tries earlier → IsFor swap (earlier ++ try swap wanted n ∷ []) (if b then plain.Ended Done else lost swap wanted tries n)
for_tried swap earlier wanted tries n true is = tt
for_tried swap earlier wanted tries n false is = for_lost swap earlier wanted tries n (is_expected swap n) is refl

-- every word that it is fed leaves it one of this swap
pub IsFor-fed_of : (swap : Swap) (earlier : List Taken) (m : PlainExchange) (n : ℕ) → IsFor swap earlier m → IsFor swap (up_to (step_of asks_of earlier m n)) (fed_of m n)
IsFor-fed_of swap earlier (plain.Load its) n both = subst (λ (s : Swap). IsFor swap (earlier ++ load s n ∷ []) (compared s n)) (sym both.0) (for_compared swap earlier n (is_expected swap n) both.1 refl)
IsFor-fed_of swap earlier (plain.Try its wanted tries) n all = subst (λ (s : Swap). IsFor swap (earlier ++ try s wanted n ∷ []) (tried s wanted tries n)) (sym all.0) (for_tried swap earlier wanted tries n (n == wanted) all.2)
IsFor-fed_of swap earlier (plain.Ended end) n is = tt

ends_compared : (swap : Swap) (last : LastStep) (n : ℕ) (b : Bool) → last.step ≡ Load swap.place → last.found ≡ n → is_expected swap n ≡ b → ForSome (end_of (if b then plain.Try swap n Two else plain.Ended (Differs (field_at n)))) (EndsFor swap last)
ends_compared swap last n true step found e end is = absurd cc
ends_compared swap last n false step found e end is =
    let same : Differs (field_at n) ≡ end = cc in
    let other : is_expected swap last.found ≡ false = ap (λ (w : ℕ). is_expected swap w) found ∙ e in
    subst (EndsFor swap last) same (ap field_at (sym found), (inl step, other))

-- what is known at an exchange with these tries left
pub record IsTry (swap : Swap) (last : LastStep) (wanted : ℕ) (tries : TriesLeft) (n : ℕ) : Type 0 where
  pub earlier : ComesBefore swap wanted tries last.earlier
  pub wants : Wants swap last wanted
  pub finds : last.found ≡ n
  pub expected : is_expected swap wanted ≡ true

ends_again : (swap : Swap) (last : LastStep) (wanted : ℕ) (tries : TriesLeft) (n : ℕ) → IsTry swap last wanted tries n → n ≢ wanted → is_expected swap n ≡ true → ForSome (end_of (again swap wanted tries n)) (EndsFor swap last)
ends_again swap last wanted Two n here other e end is = absurd cc
ends_again swap last wanted One n here other e end is = absurd cc
ends_again swap last wanted Zero n here other e end is =
    let same : Refused (Raced wanted n) ≡ end = cc in
    let earlier = here.earlier in
    subst (EndsFor swap last) same (record { first = earlier.0; second = earlier.1.0; third = earlier.1.1; wants = here.wants; finds = here.finds; other = other; loaded_expected = here.expected; found_expected = e })

ends_lost : (swap : Swap) (last : LastStep) (wanted : ℕ) (tries : TriesLeft) (n : ℕ) (b : Bool) → IsTry swap last wanted tries n → n ≢ wanted → is_expected swap n ≡ b → ForSome (end_of (if b then again swap wanted tries n else plain.Ended (Differs (field_at n)))) (EndsFor swap last)
ends_lost swap last wanted tries n true here other e end is = ends_again swap last wanted tries n here other e end is
ends_lost swap last wanted tries n false here other e end is =
    let same : Differs (field_at n) ≡ end = cc in
    let has_lost : HasLost swap last = (wanted, (here.wants, λ won. other (sym here.finds ∙ won))) in
    let its_value : is_expected swap last.found ≡ false = ap (λ (w : ℕ). is_expected swap w) here.finds ∙ e in
    subst (EndsFor swap last) same (ap field_at (sym here.finds), (inr has_lost, its_value))

ends_tried : (swap : Swap) (last : LastStep) (wanted : ℕ) (tries : TriesLeft) (n : ℕ) (b : Bool) → IsTry swap last wanted tries n → (n == wanted) ≡ b → ForSome (end_of (if b then plain.Ended Done else lost swap wanted tries n)) (EndsFor swap last)
ends_tried swap last wanted tries n true here e end is =
    let same : Done ≡ end = cc in
    let it : last.found ≡ wanted = here.finds ∙ eqb-true n wanted e in
    subst (EndsFor swap last) same (subst (λ (w : ℕ). Wants swap last w) (sym it) here.wants, subst (λ (w : ℕ). is_expected swap w ≡ true) (sym it) here.expected)
ends_tried swap last wanted tries n false here e end is = ends_lost swap last wanted tries n (is_expected swap n) here (eqb-false n wanted e) refl end is

-- one of this swap ends only so
pub end_for : (swap : Swap) (earlier : List Taken) (m : PlainExchange) (n : ℕ) → IsFor swap earlier m → asks_of m ≢ Ended → ForSome (end_of (fed_of m n)) (EndsFor swap (step_of asks_of earlier m n))
end_for swap earlier (plain.Load its) n both on =
    subst (λ (s : Swap). ForSome (end_of (compared s n)) (EndsFor swap (step_of asks_of earlier (plain.Load s) n))) (sym both.0) (ends_compared swap (step_of asks_of earlier (plain.Load swap) n) n (is_expected swap n) refl refl refl)
end_for swap earlier (plain.Try its wanted tries) n all on =
    let here : IsTry swap (step_of asks_of earlier (plain.Try swap wanted tries) n) wanted tries n = record { earlier = all.2; wants = refl; finds = refl; expected = all.1 } in
    subst (λ (s : Swap). ForSome (end_of (tried s wanted tries n)) (EndsFor swap (step_of asks_of earlier (plain.Try s wanted tries) n))) (sym all.0) (ends_tried swap (step_of asks_of earlier (plain.Try swap wanted tries) n) wanted tries n (n == wanted) here refl)
end_for swap earlier (plain.Ended end) n is on = absurd (on refl)

pub cause_of : (swap : Swap) → EndsOnlyFor asks_of fed_of end_of (EndsFor swap) (plain.Load swap)
cause_of swap = ends_only_for asks_of fed_of end_of (EndsFor swap) (IsFor swap) (IsFor-fed_of swap) (end_for swap) (plain.Load swap) (refl, refl)
