-- What the definitions of schedules say of a list of parties in rising order.
use Rattle.std.proofs.Common.{◌≡◌, ℕ, ◌<◌, ◌≤◌, ◌%◌, Bool, true, false, cond, nat_lt, List, [], ◌∷◌, length, Option, Some, unwrap_or, ◌⊎◌, inl, inr, refl, sym, subst, arith, zero, suc}
use Rattle.std.specs.Prelude.{find, slice_get, Contains}
use Rattle.std.specs.List.Sorted.{IsNonDecreasing}
use Rattle.std.proofs.lemmas.Bool.Decides.{nat_tests}
use Rattle.std.proofs.lemmas.List.Elements.{Contains-get_or}
use Rattle.std.proofs.lemmas.Option.{slice_get_read}
use Rattle.rand_pcg.specs.Pcg.{pcg64}
use Rattle.gc_cycle.specs.Schedules.{lowest, next_after, chosen_by}
use Rattle.gc_cycle.specs.declared.schedule.Chooser.{Chooser}
use Rattle.gc_cycle.specs.declared.schedule.Chooser.TheVariants.{Solo, Even, Drawn}

-- ---- the party chosen is one of those that can step

-- an element behind the first is an element
Contains-behind : (x : ℕ) (xs : List ℕ) (y : ℕ) → Contains xs y → Contains (x ∷ xs) y
Contains-behind x xs y (k, within, here) = (suc k, omega arith, here)

-- what is found from a first element on, where its test gave `passes`
found_at : (passes : Bool) (x : ℕ) (xs : List ℕ) (rest : Option ℕ) (other : ℕ) → (unwrap_or rest other ≡ other) ⊎ Contains xs (unwrap_or rest other) → (unwrap_or (cond passes (Some x) rest) other ≡ other) ⊎ Contains (x ∷ xs) (unwrap_or (cond passes (Some x) rest) other)
found_at true x xs rest other _ = inr (0, omega arith, refl)
found_at false x xs rest other (inl same) = inl same
found_at false x xs rest other (inr among) = inr (Contains-behind x xs (unwrap_or rest other) among)

-- what is found is an element, and where there is none the other is taken
other_or_found : (test : ℕ → Bool) (xs : List ℕ) (other : ℕ) → (unwrap_or (find test xs) other ≡ other) ⊎ Contains xs (unwrap_or (find test xs) other)
other_or_found test [] other = inl refl
other_or_found test (x ∷ xs) other = found_at (test x) x xs (find test xs) other (other_or_found test xs other)

-- the lowest is one of them
pub lowest_is_ready : (ready : List ℕ) → 0 < length ready → Contains ready (lowest ready)
lowest_is_ready ready some = Contains-get_or ready 0 0 some

-- the next is one of them
pub next_after_is_ready : (last : ℕ) (ready : List ℕ) → 0 < length ready → Contains ready (next_after last ready)
next_after_is_ready last ready some = elim (other_or_found (λ party. nat_lt last party) ready (lowest ready)) [
  | inl same ↦ subst (λ party. Contains ready party) (sym same) (lowest_is_ready ready some)
  | inr among ↦ among
]

-- the party chosen is one of them
pub chosen_is_ready : (chooser : Chooser) (ready : List ℕ) → 0 < length ready → Contains ready (chosen_by chooser ready).0
chosen_is_ready Solo ready some = lowest_is_ready ready some
chosen_is_ready (Even last) ready some = next_after_is_ready last ready some
chosen_is_ready (Drawn generator) ready some = Contains-get_or ready ((pcg64 generator).0 % length ready) 0 (omega arith)

-- the same by its place
pub chosen_at : (chooser : Chooser) (ready : List ℕ) → 0 < length ready → (i : ℕ) × (slice_get ready i ≡ Some (chosen_by chooser ready).0)
chosen_at chooser ready some = placed ready (chosen_by chooser ready).0 (chosen_is_ready chooser ready some)
  where
    placed : (xs : List ℕ) (x : ℕ) → Contains xs x → (i : ℕ) × (slice_get xs i ≡ Some x)
    placed xs x (k, within, here) = (k, slice_get_read xs (length xs) k x refl within (sym here))

-- ---- in rising order

-- the lowest is at most each of them
pub lowest_is_least : (ready : List ℕ) (party : ℕ) → IsNonDecreasing ready → Contains ready party → lowest ready ≤ party
lowest_is_least [] party rising (k, within, here) = absurd (omega arith)
lowest_is_least (x ∷ xs) party rising (k, within, here) = subst (λ y. x ≤ y) here (rising 0 k party (omega arith) within)

-- the order of those behind the first
behind : (x : ℕ) (xs : List ℕ) → IsNonDecreasing (x ∷ xs) → IsNonDecreasing xs
behind x xs rising i j d before within = rising (suc i) (suc j) d (omega arith) (omega arith)

-- an element that is not the first is behind it
Contains-after : (x : ℕ) (xs : List ℕ) (y : ℕ) → x < y → Contains (x ∷ xs) y → Contains xs y
Contains-after x xs y less (zero, within, here) = absurd (omega arith)
Contains-after x xs y less (suc k, within, here) = (k, omega arith, here)

-- what is found from a first element x on is above the last and at most the party
first_at : (passes : Bool) (last x party : ℕ) (rest : Option ℕ) (other : ℕ) → nat_lt last x ≡ passes → x ≤ party → (x ≤ last → (last < unwrap_or rest other) × (unwrap_or rest other ≤ party)) → (last < unwrap_or (cond passes (Some x) rest) other) × (unwrap_or (cond passes (Some x) rest) other ≤ party)
first_at true last x party rest other is least behind = (grind (arith, nat_tests), least)
first_at false last x party rest other is least behind = behind (grind (arith, nat_tests))

-- the first that is above the last is at most each other that is
first_above : (last party other : ℕ) (xs : List ℕ) → IsNonDecreasing xs → Contains xs party → last < party → (last < unwrap_or (find (λ p. nat_lt last p) xs) other) × (unwrap_or (find (λ p. nat_lt last p) xs) other ≤ party)
first_above last party other [] rising (k, within, here) above = absurd (omega arith)
first_above last party other (x ∷ xs) rising among above =
    first_at (nat_lt last x) last x party (find (λ p. nat_lt last p) xs) other refl (lowest_is_least (x ∷ xs) party rising among)
    (λ not. first_above last party other xs (behind x xs rising) (Contains-after x xs party (omega arith) among) above)

-- the next is above the one that stepped last, and at most each other that is
pub next_after_is_above : (last : ℕ) (ready : List ℕ) (party : ℕ) → IsNonDecreasing ready → Contains ready party → last < party → (last < next_after last ready) × (next_after last ready ≤ party)
next_after_is_above last ready party rising among above = first_above last party (lowest ready) ready rising among above

-- at a first element that is not above the last, the search goes on
none_at : (passes : Bool) (last x : ℕ) (rest : Option ℕ) (other : ℕ) → nat_lt last x ≡ passes → x ≤ last → unwrap_or rest other ≡ other → unwrap_or (cond passes (Some x) rest) other ≡ other
none_at true last x rest other is below same = absurd (grind (arith, nat_tests))
none_at false last x rest other is below same = same

-- where none is above the last, the other is taken
none_above : (last other : ℕ) (xs : List ℕ) → ((party : ℕ) → Contains xs party → party ≤ last) → unwrap_or (find (λ p. nat_lt last p) xs) other ≡ other
none_above last other [] below = refl
none_above last other (x ∷ xs) below =
    none_at (nat_lt last x) last x (find (λ p. nat_lt last p) xs) other refl (below x (0, omega arith, refl))
    (none_above last other xs (λ party among. below party (Contains-behind x xs party among)))

-- where none is above the one that stepped last, the next is the lowest
pub next_after_is_lowest : (last : ℕ) (ready : List ℕ) → ((party : ℕ) → Contains ready party → party ≤ last) → next_after last ready ≡ lowest ready
next_after_is_lowest last ready below = none_above last (lowest ready) ready below

-- before the first step, parties count from 1: the next after 0 is the lowest
pub next_after_is_first : (ready : List ℕ) → 0 < lowest ready → next_after 0 ready ≡ lowest ready
next_after_is_first [] some = refl
next_after_is_first (x ∷ xs) some = at_first (nat_lt 0 x) x (find (λ p. nat_lt 0 p) xs) refl some
  where
    at_first : (passes : Bool) (x : ℕ) (rest : Option ℕ) → nat_lt 0 x ≡ passes → 0 < x → unwrap_or (cond passes (Some x) rest) x ≡ x
    at_first true x rest is above = refl
    at_first false x rest is above = absurd (grind (arith, nat_tests))
