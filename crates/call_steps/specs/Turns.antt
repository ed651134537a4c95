-- One turn of a record among the records of all parties, and some turns one after another.
use Rattle.std.specs.Prelude.{◌≡◌, ◌≢◌, ℕ, List, ◌∷◌, slice_index}
use Rattle.call_steps.specs.declared.step.Step.{Step}
use Rattle.call_steps.specs.declared.step.Step.TheVariants.{Ended}
use Rattle.call_steps.specs.Steps.{place_of, applied}

-- somewhere in a lawful state the record `now` took its turn, found this word, and became `after`
pub record Turned {R : Type 0} (lawful : List ℕ → List R → Type 0) (asks : R → Step) (turned : List R → R → ℕ → R) (now : R) (found : ℕ) (after : R) : Type 0 where
  pub words : List ℕ
  pub others : List R
  pub on : asks now ≢ Ended
  pub lawful_then : lawful words (now ∷ others)
  pub found_is : slice_index words (place_of (asks now)) ≡ found
  pub is : turned others now found ≡ after
  pub lawful_next : lawful (applied (asks now) words) (after ∷ others)

-- somewhere the record stands in a lawful state
abbrev pub Stands : {R : Type 0} → (List ℕ → List R → Type 0) → R → Type 0
Stands {R} lawful r = (words : List ℕ) × (others : List R) × lawful words (r ∷ others)

-- some links, one after another
pub data Chain {R : Type 0} (link : R → R → Type 0) : R → R → Type 0 where
  still : {a : R} → Chain link a a
  on : {a b c : R} → Chain link a b → link b c → Chain link a c

-- some turns, one after another
abbrev pub Turns : {R : Type 0} → (List ℕ → List R → Type 0) → (R → Step) → (List R → R → ℕ → R) → R → R → Type 0
Turns lawful asks turned = Chain (λ before after. (found : ℕ) × Turned lawful asks turned before found after)
