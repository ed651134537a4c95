-- Why a call ends as it does that goes on where a header says that the word of its field is, whatever others do meanwhile.
use Rattle.std.specs.Prelude.{◌≡◌, ◌≢◌, ℕ, ◌⊎◌, ◌≤◌, nat_lt, if◌then◌else◌, Bool, true, false, List, [], ◌∷◌, ◌++◌, Option, refl}
use Rattle.std.specs.Option.{ForSome}
use Rattle.std.proofs.Common.{subst, ap, ◌∙◌, inl, inr, append_assoc}
use Rattle.std.proofs.lemmas.Bool.{ltb-false}
use Rattle.call_steps.specs.declared.step.Step.{Step}
use Rattle.call_steps.specs.declared.step.Step.TheVariants.{Load, Exchange, Ended}
use Rattle.call_steps.specs.Ending.{Taken, LastStep, up_to, step_of}
use Rattle.object_headers.specs.declared.header.State.{State as HeaderState}
use Rattle.object_headers.specs.declared.header.State.TheVariants as states
use Rattle.object_headers.specs.Headers.{header_at}
use Rattle.barriers.specs.declared.spot.Spot.{Spot}
use Rattle.barriers.specs.Causes.{LacksField, len_at}
use Rattle.tagged_calls.specs.declared.location.Keep.{Keep}
use Rattle.tagged_calls.specs.declared.location.Location.{Location}
use Rattle.tagged_calls.specs.declared.location.Location.TheVariants as location
use Rattle.tagged_calls.specs.declared.placed.Placed.{Placed}
use Rattle.tagged_calls.specs.declared.placed.Placed.TheVariants as placed
use Rattle.tagged_calls.specs.Locations.{keep_of, field_from, located, location_in, by_location}
use Rattle.tagged_calls.specs.Placeds.{machine_of, asks_of, fed_of, placed_at}

-- ---- the cause

-- the load of the call's header
abbrev pub header_load : Spot → ℕ → Taken
header_load spot found = record { step = Load spot.at; found = found }

-- the exchange of a header that was found Tagged
abbrev pub header_exchange : Spot → ℕ → ℕ → ℕ → Taken
header_exchange spot tagged kept found = record { step = Exchange spot.at tagged kept; found = found }

-- by a header in this state the field is here: in the original, or in the copy that a Forward header tells
abbrev pub LeadsBy : HeaderState → ℕ → Spot → Spot → Type 0
LeadsBy state target spot here = (here ≡ spot) ⊎ ((state ≡ states.Forward) × (here ≡ field_from spot target))

abbrev pub Leads : Spot → ℕ → Spot → Type 0
Leads spot word here = let h = header_at word in LeadsBy h.state h.target spot here

-- these steps are the load of the header, and then, perhaps, the exchange of what it found; and this is so of the header found last
abbrev pub IsHeaderWay : (ℕ → Type 0) → Spot → List Taken → Type 0
IsHeaderWay Says spot steps =
    ((word : ℕ) × (steps ≡ header_load spot word ∷ []) × Says word)
    ⊎ ((tagged : ℕ) × (kept : ℕ) × (word : ℕ) × (steps ≡ header_load spot tagged ∷ header_exchange spot tagged kept word ∷ []) × Says word)

-- these steps led here
abbrev pub IsApproach : Spot → List Taken → Spot → Type 0
IsApproach spot steps here = IsHeaderWay (λ word. Leads spot word here) spot steps

-- After the steps that led to its place in such a way, the call did what ends a call of an object at rest so, whose header this word is
pub record EndsPlaced {E : Type 0} (Led : Spot → List Taken → Spot → Type 0) (For : Spot → LastStep → E → Type 0) (spot : Spot) (last : LastStep) (end : E) : Type 0 where
  pub here : Spot
  pub approach : List Taken
  pub led : Led spot approach here
  pub header : ℕ
  pub rest : List Taken
  pub splits : last.earlier ≡ approach ++ rest
  pub so : For here (record last { earlier = header_load here header ∷ rest }) end

-- ---- where it begins

module _ {K : Type 0} (P : K → Type 0) (spot : Spot) (word : ℕ) (run : Spot → K) where
  located_so : (state : HeaderState) (target : ℕ) → ((here : Spot) → LeadsBy state target spot here → P (run here)) → P (machine_of (placed_at (located spot word state target) spot run))
  located_so states.Forward target so = so (field_from spot target) (inr (refl, refl))
  located_so states.Absent target so = so spot (inl refl)
  located_so states.Plain target so = so spot (inl refl)
  located_so states.Kept target so = so spot (inl refl)
  located_so states.Tagged target so = so spot (inl refl)
  located_so states.Wide target so = so spot (inl refl)
  located_so states.Moving target so = so spot (inl refl)
  located_so states.Dead target so = so spot (inl refl)

  -- what is so of the machine wherever the header leads is so of it there
  pub led_so : ((here : Spot) → Leads spot word here → P (run here)) → P (machine_of (placed_at (location_in spot word) spot run))
  led_so so = let h = header_at word in located_so h.state h.target so

led_by_field : (state : HeaderState) (target : ℕ) (spot here : Spot) → LeadsBy state target spot here → here.field ≡ spot.field
led_by_field state target spot here (inl same) = ap (λ (s : Spot). s.field) same
led_by_field state target spot here (inr same) = ap (λ (s : Spot). s.field) same.1

-- it is the same field
pub led_field : (spot : Spot) (word : ℕ) (here : Spot) → Leads spot word here → here.field ≡ spot.field
led_field spot word here led = let h = header_at word in led_by_field h.state h.target spot here led

-- the header that was loaded first lacks the field
pub lacks : (spot here : Spot) (word : ℕ) → Leads spot word here → nat_lt here.field (len_at word) ≡ false → LacksField spot (record { earlier = []; step = Load spot.at; found = word }) (len_at word)
lacks spot here word led e = record {
  first = refl;
  header = refl;
  says = refl;
  past = subst (λ (f : ℕ). len_at word ≤ f) (led_field spot word here led) (ltb-false here.field (len_at word) e);
}

-- after a load of the header no cause is one of want of a field
pub lacks_no_more : (here : Spot) (last : LastStep) (first : Taken) (rest : List Taken) (len : ℕ) → LacksField here (record last { earlier = first ∷ rest }) len → ⊥
lacks_no_more here last first rest len lacking = let none : first ∷ rest ≡ [] = lacking.first in cc

-- ---- that it is so

module _ {K : Type 0} (Led : Spot → List Taken → Spot → Type 0) (Is : Spot → List Taken → K → Type 0) where
  -- after these steps it is at its place
  pub record IsPlacedFor (spot : Spot) (earlier : List Taken) (m : K) : Type 0 where
    pub here : Spot
    pub approach : List Taken
    pub led : Led spot approach here
    pub header : ℕ
    pub rest : List Taken
    pub splits : earlier ≡ approach ++ rest
    pub is : Is here (header_load here header ∷ rest) m

  abbrev pub PlacedIs : Spot → List Taken → Placed K → Type 0
  PlacedIs spot earlier m = IsPlacedFor spot earlier (machine_of m)

-- a machine of an object at rest of which each step keeps this, and that then ends for this
module _ {K E : Type 0} (Led : Spot → List Taken → Spot → Type 0) (asks : K → Step) (fed : K → ℕ → K) (end : K → Option E) (Is : Spot → List Taken → K → Type 0) (For : Spot → LastStep → E → Type 0)
    (keeps : (here : Spot) (earlier : List Taken) (m : K) (n : ℕ) → Is here earlier m → Is here (up_to (step_of asks earlier m n)) (fed m n))
    (ends : (here : Spot) (earlier : List Taken) (m : K) (n : ℕ) → Is here earlier m → asks m ≢ Ended → ForSome (end (fed m n)) (For here (step_of asks earlier m n))) where
  goes_on : (spot : Spot) (earlier : List Taken) (m : K) (n : ℕ) → IsPlacedFor Led Is spot earlier m → IsPlacedFor Led Is spot (up_to (step_of asks earlier m n)) (fed m n)
  goes_on spot earlier m n placed =
      let taken : Taken = record { step = asks m; found = n } in
      record {
        here = placed.here;
        approach = placed.approach;
        led = placed.led;
        header = placed.header;
        rest = placed.rest ++ taken ∷ [];
        splits = ap (λ (s : List Taken). s ++ taken ∷ []) placed.splits ∙ append_assoc placed.approach placed.rest (taken ∷ []);
        is = keeps placed.here (header_load placed.here placed.header ∷ placed.rest) m n placed.is;
      }

  pub placed_keeps : (spot : Spot) (earlier : List Taken) (m : Placed K) (n : ℕ) → PlacedIs Led Is spot earlier m → PlacedIs Led Is spot (up_to (step_of (asks_of asks) earlier m n)) (fed_of fed m n)
  placed_keeps spot earlier (placed.Original m) n is = goes_on spot earlier m n is
  placed_keeps spot earlier (placed.Copy s m) n is = goes_on spot earlier m n is

  ends_so : (spot : Spot) (earlier : List Taken) (m : K) (n : ℕ) → IsPlacedFor Led Is spot earlier m → asks m ≢ Ended → ForSome (end (fed m n)) (EndsPlaced Led For spot (step_of asks earlier m n))
  ends_so spot earlier m n placed on e is = record {
    here = placed.here;
    approach = placed.approach;
    led = placed.led;
    header = placed.header;
    rest = placed.rest;
    splits = placed.splits;
    so = ends placed.here (header_load placed.here placed.header ∷ placed.rest) m n placed.is on e is;
  }

  pub placed_ends : (spot : Spot) (earlier : List Taken) (m : Placed K) (n : ℕ) → PlacedIs Led Is spot earlier m → asks_of asks m ≢ Ended → ForSome (end (machine_of (fed_of fed m n))) (EndsPlaced Led For spot (step_of (asks_of asks) earlier m n))
  placed_ends spot earlier (placed.Original m) n is on = ends_so spot earlier m n is on
  placed_ends spot earlier (placed.Copy s m) n is on = ends_so spot earlier m n is on

-- ---- a call that writes

-- what is so of the exchange of a header that says that there is the field, and of the call where the header leads, is so of the call after its header
module _ {M : Type 0} (P : M → Type 0) (keep : Keep → M) (place : Location → M) (spot : Spot) (word : ℕ) where
  by_test : (b : Bool) → nat_lt spot.field (len_at word) ≡ b → (nat_lt spot.field (len_at word) ≡ true → P (keep (keep_of word))) → P (place (location.Tagged (keep_of word))) → P (if b then keep (keep_of word) else place (location.Tagged (keep_of word)))
  by_test true e kept placed = kept e
  by_test false e kept placed = placed

  turned_by : (state : HeaderState) (target : ℕ) → (nat_lt spot.field (len_at word) ≡ true → P (keep (keep_of word))) → P (place (located spot word state target)) → P (by_location keep place spot word (located spot word state target))
  turned_by states.Tagged target kept placed = by_test (nat_lt spot.field (len_at word)) refl kept placed
  turned_by states.Absent target kept placed = placed
  turned_by states.Plain target kept placed = placed
  turned_by states.Kept target kept placed = placed
  turned_by states.Wide target kept placed = placed
  turned_by states.Moving target kept placed = placed
  turned_by states.Forward target kept placed = placed
  turned_by states.Dead target kept placed = placed

  pub turned_so : (nat_lt spot.field (len_at word) ≡ true → P (keep (keep_of word))) → P (place (location_in spot word)) → P (by_location keep place spot word (location_in spot word))
  turned_so = let h = header_at word in turned_by h.state h.target

-- there it has the field still
pub led_inside : (spot here : Spot) (word len : ℕ) → Leads spot word here → nat_lt spot.field len ≡ true → nat_lt here.field len ≡ true
led_inside spot here word len led inside = ap (λ (f : ℕ). nat_lt f len) (led_field spot word here led) ∙ inside
