-- Each address below a walk's cursor was passed by one of its steps.
use Rattle.std.proofs.Common.{◌≡◌, ℕ, ◌+◌, ◌<◌, ◌≤◌, ◌⊎◌, ◌==◌, ◌&&◌, nat_lt, nat_le, if◌then◌else◌, Bool, true, false, List, [], ◌∷◌, Option, refl, ap, ◌∙◌, arith, inl, inr, lit<}
use Rattle.std.proofs.lemmas.Bool.{eqb-true}
use Rattle.std.proofs.lemmas.Bool.Decides.{nat_tests}
use Rattle.call_steps.specs.Ending.{after}
use Rattle.heap_words.specs.Layouts.{Sizes, IsLayout, regions_of}
use Rattle.heap_words.specs.declared.limits.TheConstants.{REGION_WORDS}
use Rattle.live_walk.specs.declared.note.Walk.{Walk}
use Rattle.live_walk.specs.declared.note.NoteMachine.{NoteMachine}
use Rattle.live_walk.specs.declared.note.NoteMachine.TheVariants as note
use Rattle.live_walk.specs.Walks.{first_of, address, begins, offset_after, goes_on, counted_in, next_region, with_header, begun, fed_of}
use Rattle.live_walk.specs.Noting.{cursor_of}
use Rattle.live_walk.specs.Passing.{IsInside, Passes, Stepped, PassedBy, PassesBelow}

-- it goes on inside, with its cursor here
abbrev pub Comes : NoteMachine → ℕ → Type 0
Comes m at = (cursor_of m ≡ at) × IsInside m

pub region_next : (w : Walk) (region : ℕ) → region < w.regions → Comes (next_region w region) (first_of w (region + 1))
region_next w region inside = by (nat_lt (region + 1) w.regions) refl
  where
    by : (b : Bool) → nat_lt (region + 1) w.regions ≡ b → Comes (if b then note.Region w (region + 1) else note.Ended w) (first_of w (region + 1))
    by true e = (refl, grind (arith, nat_tests, e))
    by false e = let last : w.regions ≡ region + 1 = grind (arith, nat_tests, e, inside) in (ap (first_of w) last, tt)

region_stepped : (w : Walk) (region word : ℕ) (live : Option ℕ) → region < w.regions → (b : Bool) → (word == 0) ≡ b → Stepped (note.Region w region) word (if b then next_region w region else note.Header w region 0 live)
region_stepped w region word live inside true e = let next = region_next w region inside in (λ x low high. eqb-true word 0 e, next.1)
region_stepped w region word live inside false e = (λ x low high. absurd (omega (arith, low, high)), (inside, lit< tt))

-- an object begins that ends in the region, or none does
parts : (a : Bool) (n : ℕ) → (a && nat_lt n REGION_WORDS) ≡ true → (a ≡ true) × (n < REGION_WORDS)
parts true n e = (refl, grind (arith, nat_tests, e))
parts false n e = absurd cc

pub goes_parts : (offset word : ℕ) → goes_on offset word ≡ true → (begins offset word ≡ true) × (offset_after offset word < REGION_WORDS)
goes_parts offset word e = parts (begins offset word) (offset_after offset word) e

full : (object : Bool) (n : ℕ) → (object && nat_le n REGION_WORDS) ≡ true → ((object && nat_le n REGION_WORDS) && nat_lt n REGION_WORDS) ≡ false → n ≡ REGION_WORDS
full true n fits ends = grind (arith, nat_tests, fits, ends)
full false n fits ends = absurd cc

-- the last object of a full region ends with it
pub ends_full : (offset word : ℕ) → begins offset word ≡ true → goes_on offset word ≡ false → offset_after offset word ≡ REGION_WORDS
ends_full offset word = full _ (offset_after offset word)

module _ (w : Walk) (region offset word : ℕ) (live : Option ℕ) (inside : region < w.regions) where
  last_passes : goes_on offset word ≡ false → (x : ℕ) → address w region offset ≤ x → x < first_of w (region + 1) → (b : Bool) → begins offset word ≡ b → Passes (note.Header w region offset live) word x
  last_passes ends x low high true e = let to_end = ends_full offset word e ends in inl (e, low, omega (arith, high, to_end))
  last_passes ends x low high false e = inr e

  header_stepped : (b : Bool) → goes_on offset word ≡ b → Stepped (note.Header w region offset live) word (if b then note.Header w region (offset_after offset word) (counted_in offset word live) else next_region w region)
  header_stepped true e = let both = goes_parts offset word e in (λ x low high. inl (both.0, low, high), (inside, both.1))
  header_stepped false e =
      let next = region_next w region inside in
      (λ x low high. let at : cursor_of (next_region w region) ≡ first_of w (region + 1) = next.0 in last_passes e x low (omega (arith, high, at)) (begins offset word) refl, next.1)

-- a step passes what is below its next cursor, whatever it finds
pub stepped : (m : NoteMachine) (word : ℕ) → IsInside m → Stepped m word (fed_of m word)
stepped (note.Region w region) word inside = region_stepped w region word _ inside (word == 0) refl
stepped (note.Header w region offset live) word inside = header_stepped w region offset word live inside.0 (goes_on offset word) refl
stepped (note.Ended w) word inside = (λ x low high. absurd (omega (arith, low, high)), tt)

low_or_high : (x n : ℕ) → (x < n) ⊎ (n ≤ x)
low_or_high x n = grind arith

passed_by : (m : NoteMachine) (word : ℕ) (rest : List ℕ) (x : ℕ) → Stepped m word (fed_of m word) → cursor_of m ≤ x → (cursor_of (fed_of m word) ≤ x → PassedBy (fed_of m word) rest x) → (x < cursor_of (fed_of m word)) ⊎ (cursor_of (fed_of m word) ≤ x) → PassedBy m (word ∷ rest) x
passed_by m word rest x step low on (inl now) = inl (step.0 x low now)
passed_by m word rest x step low on (inr later) = inr (on later)

pub passes_below : (m : NoteMachine) (words : List ℕ) (x : ℕ) → IsInside m → cursor_of m ≤ x → x < cursor_of (after fed_of m words) → PassedBy m words x
passes_below m [] x inside low high = absurd (omega (arith, low, high))
passes_below m (word ∷ rest) x inside low high =
    let step = stepped m word inside in
    passed_by m word rest x step low (λ later. passes_below (fed_of m word) rest x step.1 later high) (low_or_high x (cursor_of (fed_of m word)))

pub some_region : (l : Sizes) → IsLayout l → 0 < regions_of l
some_region l is = let pool = is.pool in omega (arith, pool.0)

pub passes_all : (l : Sizes) → IsLayout l → PassesBelow (begun l)
passes_all l is words x low high = passes_below (begun l) words x (some_region l is) low high
