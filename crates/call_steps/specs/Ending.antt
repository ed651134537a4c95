-- A machine ends only for a cause, whatever others do meanwhile.
use Rattle.std.specs.Prelude.{◌≢◌, ℕ, ◌⊎◌, List, [], ◌∷◌, ◌++◌, Option}
use Rattle.std.specs.Option.{ForSome}
use Rattle.std.proofs.Common.{sym, subst, append_assoc, append-nil}
use Rattle.call_steps.specs.declared.step.Step.{Step}
use Rattle.call_steps.specs.declared.step.Step.TheVariants.{Ended}

-- the machine after its steps found these words, one after another
abbrev pub after : {M : Type 0} → (M → ℕ → M) → M → List ℕ → M
after fed m [] = m
after fed m (word ∷ rest) = after fed (fed m word) rest

-- a step, and the word that it found
pub record Taken : Type 0 where
  pub step : Step
  pub found : ℕ

-- the steps that found these words
abbrev pub taken : {M : Type 0} → (M → Step) → (M → ℕ → M) → M → List ℕ → List Taken
taken asks fed m [] = []
taken asks fed m (word ∷ rest) = record { step = asks m; found = word } ∷ taken asks fed (fed m word) rest

-- a step, the steps before it, and the word that it found
pub record LastStep : Type 0 where
  pub earlier : List Taken
  pub step : Step
  pub found : ℕ

-- the steps up to this one
abbrev pub up_to : LastStep → List Taken
up_to last = last.earlier ++ record { step = last.step; found = last.found } ∷ []

-- the machine's step, after these, as the one that finds this word
abbrev pub step_of : {M : Type 0} → (M → Step) → List Taken → M → ℕ → LastStep
step_of asks earlier m n = record { earlier = earlier; step = asks m; found = n }

-- whatever words its steps find: where one of them is the last, this holds of that step and of the end
abbrev pub EndsOnlyFor : {M E : Type 0} → (M → Step) → (M → ℕ → M) → (M → Option E) → (LastStep → E → Type 0) → M → Type 0
EndsOnlyFor asks fed end For m =
    (before : List ℕ) (found : ℕ) → asks (after fed m before) ≢ Ended
    → ForSome (end (fed (after fed m before) found)) (For (step_of asks (taken asks fed m before) (after fed m before) found))

-- what each step keeps, of the steps up to it and of the machine, all of them keep
kept : {M : Type 0} (asks : M → Step) (fed : M → ℕ → M) (Is : List Taken → M → Type 0) → ((earlier : List Taken) (m : M) (n : ℕ) → Is earlier m → Is (up_to (step_of asks earlier m n)) (fed m n)) → (earlier : List Taken) (m : M) (found : List ℕ) → Is earlier m → Is (earlier ++ taken asks fed m found) (after fed m found)
kept asks fed Is keeps earlier m [] is = subst (λ (s : List Taken). Is s m) (sym (append-nil earlier)) is
kept asks fed Is keeps earlier m (word ∷ rest) is =
    let step : Taken = record { step = asks m; found = word } in
    let later = kept asks fed Is keeps (earlier ++ step ∷ []) (fed m word) rest (keeps earlier m word is) in
    subst (λ (s : List Taken). Is s (after fed (fed m word) rest)) (append_assoc earlier (step ∷ []) (taken asks fed (fed m word) rest)) later

-- where the steps keep it, and every step that is the last one has its cause from it, the machine ends only so
pub ends_only_for : {M E : Type 0} (asks : M → Step) (fed : M → ℕ → M) (end : M → Option E) (For : LastStep → E → Type 0) (Is : List Taken → M → Type 0) → ((earlier : List Taken) (m : M) (n : ℕ) → Is earlier m → Is (up_to (step_of asks earlier m n)) (fed m n)) → ((earlier : List Taken) (m : M) (n : ℕ) → Is earlier m → asks m ≢ Ended → ForSome (end (fed m n)) (For (step_of asks earlier m n))) → (m : M) → Is [] m → EndsOnlyFor asks fed end For m
ends_only_for asks fed end For Is keeps ends m is before n on =
    ends (taken asks fed m before) (after fed m before) n (kept asks fed Is keeps [] m before is) on

-- one of its steps was such a one, and found such a word
abbrev pub Took : {M : Type 0} → (M → Step) → (M → ℕ → M) → (Step → ℕ → Type 0) → M → List ℕ → Type 0
Took asks fed Is m [] = ⊥
Took asks fed Is m (word ∷ rest) = Is (asks m) word ⊎ Took asks fed Is (fed m word) rest
