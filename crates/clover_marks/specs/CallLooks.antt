-- A look at the field's word: how many exchanges came before it, and how many may come.
use Rattle.std.specs.Prelude.{◌≡◌, ◌≢◌, ℕ, ◌+◌, ◌⊎◌, ◌==◌, if◌then◌else◌, Bool, true, false, List, [], ◌∷◌, ◌++◌, Option, Some, None, refl}
use Rattle.std.proofs.Common.{subst, ap, sym, ◌∙◌, arith, inl, inr, append_assoc}
use Rattle.std.proofs.lemmas.Bool.Decides.{nat_tests}
use Rattle.call_steps.specs.declared.step.Step.{Step}
use Rattle.call_steps.specs.declared.step.Step.TheVariants.{Load, Exchange}
use Rattle.call_steps.specs.Ending.{Taken, LastStep, up_to}
use Rattle.barriers.specs.declared.plain_exchange.TriesLeft.{TriesLeft}
use Rattle.barriers.specs.declared.plain_exchange.TriesLeft.TheVariants.{Two, One, Zero}
use Rattle.clover_marks.specs.declared.access.Action.{Action}
use Rattle.clover_marks.specs.declared.access.Action.TheVariants as action
use Rattle.clover_marks.specs.declared.access.Access.{Access}
use Rattle.clover_marks.specs.declared.access.Place.{Place}
use Rattle.clover_marks.specs.Accesses.{word_of_action, serves, address_of}
use Rattle.clover_marks.specs.Calls.{next_of}
use Rattle.clover_marks.specs.CallCauses.{exchanges_in, exchanges_at, IsAt, IsWriter, IsThird, IsValue, IsLookStep, IsLook}

-- ---- exchanges are counted

count_append : (place : ℕ) (steps : List Taken) (t : Taken) → exchanges_at place (steps ++ t ∷ []) ≡ exchanges_at place steps + exchanges_in place t.step
count_append place [] t = omega arith
count_append place (x ∷ steps) t = let later = count_append place steps t in omega (arith, later)

one_exchange : (place want put : ℕ) → exchanges_in place (Exchange place want put) ≡ 1
one_exchange place want put = let same : (place == place) ≡ true = grind (arith, nat_tests) in ap (λ (b : Bool). if b then 1 else 0) same

at_more : (access : Access) (place : Place) (tries : ℕ) (steps : List Taken) (t : Taken) → IsAt access place tries steps → IsAt access place (tries + exchanges_in (address_of access place) t.step) (steps ++ t ∷ [])
at_more access place tries steps t at = record {
  before = at.before;
  rest = at.rest ++ t ∷ [];
  splits = ap (λ (s : List Taken). s ++ t ∷ []) at.splits ∙ append_assoc at.before at.rest (t ∷ []);
  told = at.told;
  count = count_append (address_of access place) at.rest t ∙ ap (λ (i : ℕ). i + exchanges_in (address_of access place) t.step) at.count;
}

none_more : (n : ℕ) → n + 0 ≡ n
none_more n = omega arith

-- after a load, and after an exchange there
pub at_load : (access : Access) (place : Place) (tries : ℕ) (last : LastStep) (from : ℕ) → last.step ≡ Load from → IsAt access place tries last.earlier → IsAt access place tries (up_to last)
at_load access place tries last from is at =
    let more = at_more access place tries last.earlier (record { step = last.step; found = last.found }) at in
    subst (λ (i : ℕ). IsAt access place i (up_to last)) (ap (λ (s : Step). tries + exchanges_in (address_of access place) s) is ∙ none_more tries) more

at_try : (access : Access) (place : Place) (tries : ℕ) (last : LastStep) (want put : ℕ) → last.step ≡ Exchange (address_of access place) want put → IsAt access place tries last.earlier → IsAt access place (tries + 1) (up_to last)
at_try access place tries last want put is at =
    let more = at_more access place tries last.earlier (record { step = last.step; found = last.found }) at in
    subst (λ (i : ℕ). IsAt access place i (up_to last)) (ap (λ (s : Step). tries + exchanges_in (address_of access place) s) is ∙ ap (λ (i : ℕ). tries + i) (one_exchange (address_of access place) want put)) more

-- ---- a look at the field's word

-- how many exchanges are done with this many tries left
abbrev pub done : TriesLeft → ℕ
done Two = 0
done One = 1
done Zero = 2

next_done : (left tries : TriesLeft) → next_of left ≡ Some tries → done left + 1 ≡ done tries
next_done Two tries e = let same : One ≡ tries = cc in ap done same
next_done One tries e = let same : Zero ≡ tries = cc in ap done same
next_done Zero tries e = absurd cc

none_done : (left : TriesLeft) → next_of left ≡ None → done left ≡ 2
none_done Two e = absurd cc
none_done One e = absurd cc
none_done Zero e = refl

first_done : (tries : TriesLeft) → Some Two ≡ Some tries → 0 ≡ done tries
first_done tries e = let same : Two ≡ tries = cc in ap done same

-- the last step was a load, or lost the exchange of a word that serves; these tries are left then
pub record LoadedFirst (access : Access) (place : Place) (last : LastStep) (next : Option TriesLeft) : Type 0 where
  pub step : last.step ≡ Load (address_of access place)
  pub next_is : next ≡ Some Two
  pub at : IsAt access place 0 last.earlier

pub record LostTry (access : Access) (place : Place) (last : LastStep) (wanted : ℕ) (next : Option TriesLeft) : Type 0 where
  pub left : TriesLeft
  pub step : last.step ≡ Exchange (address_of access place) wanted (word_of_action access.action)
  pub lost : last.found ≢ wanted
  pub wanted_serves : serves access.action wanted ≡ true
  pub next_is : next ≡ next_of left
  pub at : IsAt access place (done left) last.earlier

abbrev pub Looked : Access → Place → LastStep → ℕ → Option TriesLeft → Type 0
Looked access place last wanted next = LoadedFirst access place last next ⊎ LostTry access place last wanted next

module _ (access : Access) (place : Place) (last : LastStep) (wanted : ℕ) (next : Option TriesLeft) where
  pub look_step : Looked access place last wanted next → IsLookStep access place last.step last.found
  look_step (inl load) = inl load.step
  look_step (inr try) = inr (wanted, try.step, try.lost)

  pub counted : (tries : TriesLeft) → next ≡ Some tries → Looked access place last wanted next → IsAt access place (done tries) (up_to last)
  counted tries some (inl load) = subst (λ (i : ℕ). IsAt access place i (up_to last)) (first_done tries (sym load.next_is ∙ some)) (at_load access place 0 last (address_of access place) load.step load.at)
  counted tries some (inr try) =
      subst (λ (i : ℕ). IsAt access place i (up_to last)) (next_done try.left tries (sym try.next_is ∙ some)) (at_try access place (done try.left) last wanted (word_of_action access.action) try.step try.at)

  writer : (act : Action) (word : ℕ) → serves act word ≡ true → IsWriter act
  writer action.Read word serves = absurd cc
  writer (action.Write put) word serves = tt
  writer (action.Exchange expected put) word serves = tt

  -- without a try left it was the third
  pub third : next ≡ None → serves access.action last.found ≡ true → Looked access place last wanted next → IsThird access place last.earlier wanted last.found × (last.step ≡ Exchange (address_of access place) wanted (word_of_action access.action))
  third none found (inl load) = absurd (let gone : Some Two ≡ None = sym load.next_is ∙ none in cc)
  third none found (inr try) = (
    record {
      at = subst (λ (i : ℕ). IsAt access place i last.earlier) (none_done try.left (sym try.next_is ∙ none)) try.at;
      lost = try.lost;
      loaded_serves = try.wanted_serves;
      found_serves = found;
      writes = writer access.action last.found found;
    },
    try.step,
  )

  some_at : Looked access place last wanted next → (tries : ℕ) × IsAt access place tries last.earlier
  some_at (inl load) = (0, load.at)
  some_at (inr try) = (done try.left, try.at)

  pub look : IsValue access place last.found → serves access.action last.found ≡ false → Looked access place last wanted next → IsLook access last
  look value came looked = let at = some_at looked in record { place = place; tries = at.0; at = at.1; how = look_step looked; value = value; came = came }
