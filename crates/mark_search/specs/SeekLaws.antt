-- A search finds the first field that holds the candidate, and each address below its cursor was passed.
use Rattle.std.specs.Prelude.{◌≡◌, ◌≢◌, ℕ, ◌+◌, ◌<◌, ◌≤◌, ◌⊎◌, ◌==◌, nat_lt, if◌then◌else◌, Bool, true, false, List, [], ◌∷◌, Some, refl}
use Rattle.std.proofs.Common.{ap, sym, ◌∙◌, subst, arith, inl, inr, lit<}
use Rattle.std.proofs.lemmas.Bool.{eqb-true, eqb-false}
use Rattle.std.proofs.lemmas.Bool.Decides.{nat_tests}
use Rattle.call_steps.specs.declared.step.Step.TheVariants.{Load, Ended}
use Rattle.call_steps.specs.Ending.{after}
use Rattle.heap_words.specs.Layouts.{Sizes, IsLayout, regions_of}
use Rattle.heap_words.specs.declared.limits.TheConstants.{REGION_WORDS}
use Rattle.object_headers.specs.declared.header.State.{State as HeaderState}
use Rattle.object_headers.specs.declared.header.State.TheVariants as states
use Rattle.object_headers.specs.Headers.{header_at}
use Rattle.mark_search.specs.declared.seek.Search.{Search}
use Rattle.mark_search.specs.declared.seek.Cursor.{Cursor}
use Rattle.mark_search.specs.declared.seek.MarkFound.{MarkFound as Place}
use Rattle.mark_search.specs.declared.seek.SeekEnd.{SeekEnd}
use Rattle.mark_search.specs.declared.seek.SeekEnd.TheVariants.{Clear, MarkFound}
use Rattle.mark_search.specs.declared.seek.SeekMarkMachine.{SeekMarkMachine}
use Rattle.mark_search.specs.declared.seek.SeekMarkMachine.TheVariants as seek
use Rattle.mark_search.specs.Seeks.{first_of, address, next_region, next_object, next_field, after_field, by_state, begun, asks_of, fed_of, end_of}
use Rattle.mark_search.specs.SeekRuns.{IsAtField, Unfound, EndsAtFirst, cursor_of, IsInside, FitsRegion, FitsAlong, Stepped, PassedBy, PassesBelow}

-- ---- what becomes of it

by_test : (P : SeekMarkMachine → Type 0) (b : Bool) (m k : SeekMarkMachine) → P m → P k → P (if b then m else k)
by_test P true m k one other = one
by_test P false m k one other = other

-- what is so of each machine that it may become is so of it
module _ (P : SeekMarkMachine → Type 0) (s : Search) (clear : P (seek.Ended s Clear)) (region_on : (region : ℕ) → P (seek.Region s region)) (header_on : (c : Cursor) → P (seek.Header s c)) (field_on : (c : Cursor) (len field : ℕ) → P (seek.Field s c len field)) where
  region_cases : (region : ℕ) → P (next_region s region)
  region_cases region = by_test P (nat_lt (region + 1) s.regions) (seek.Region s (region + 1)) (seek.Ended s Clear) (region_on (region + 1)) clear

  object_cases : (c : Cursor) (len : ℕ) → P (next_object s c len)
  object_cases c len = by_test P (nat_lt (c.offset + 1 + len) REGION_WORDS) (seek.Header s (record c { offset = c.offset + 1 + len })) (next_region s c.region) (header_on (record c { offset = c.offset + 1 + len })) (region_cases c.region)

  field_cases : (c : Cursor) (len field : ℕ) → P (next_field s c len field)
  field_cases c len field = by_test P (nat_lt field len) (seek.Field s c len field) (next_object s c len) (field_on c len field) (object_cases c len)

  after_cases : (c : Cursor) (len field : ℕ) → P (after_field s c len field)
  after_cases c len field = by_test P (nat_lt field len) (next_field s c len (field + 1)) (next_object s c len) (field_cases c len (field + 1)) (object_cases c len)

  state_cases : (c : Cursor) (state : HeaderState) (len : ℕ) → P (by_state s c state len)
  state_cases c states.Absent len = region_cases c.region
  state_cases c states.Plain len = field_cases c len 0
  state_cases c states.Kept len = field_cases c len 0
  state_cases c states.Tagged len = field_cases c len 0
  state_cases c states.Wide len = field_cases c len 0
  state_cases c states.Moving len = field_cases c len 0
  state_cases c states.Forward len = field_cases c len 0
  state_cases c states.Dead len = object_cases c len

-- ---- what it finds

-- it seeks this word
abbrev Seeks : ℕ → SeekMarkMachine → Type 0
Seeks candidate (seek.Region s region) = s.candidate ≡ candidate
Seeks candidate (seek.Header s c) = s.candidate ≡ candidate
Seeks candidate (seek.Field s c len field) = s.candidate ≡ candidate
Seeks candidate (seek.Ended s end) = Unit {0}

region_seeks : (candidate : ℕ) (s : Search) (region : ℕ) (b : Bool) → s.candidate ≡ candidate → Seeks candidate (if b then next_region s region else seek.Header s (record { region = region; offset = 0 }))
region_seeks candidate s region true is = region_cases (Seeks candidate) s tt (λ r. is) (λ c. is) (λ c len field. is) region
region_seeks candidate s region false is = is

field_seeks : (candidate : ℕ) (s : Search) (c : Cursor) (len field : ℕ) (b : Bool) → s.candidate ≡ candidate → Seeks candidate (if b then seek.Ended s (MarkFound (record { at = address s c; field = field })) else after_field s c len field)
field_seeks candidate s c len field true is = tt
field_seeks candidate s c len field false is = after_cases (Seeks candidate) s tt (λ r. is) (λ d. is) (λ d l f. is) c len field

fed_seeks : (candidate : ℕ) (m : SeekMarkMachine) (n : ℕ) → Seeks candidate m → Seeks candidate (fed_of m n)
fed_seeks candidate (seek.Region s region) n is = region_seeks candidate s region (n == 0) is
fed_seeks candidate (seek.Header s c) n is = let h = header_at n in state_cases (Seeks candidate) s tt (λ r. is) (λ d. is) (λ d len field. is) c h.state h.len
fed_seeks candidate (seek.Field s c len field) n is = field_seeks candidate s c len field (n == s.candidate) is
fed_seeks candidate (seek.Ended s end) n is = tt

still_seeks : (candidate : ℕ) (m : SeekMarkMachine) (words : List ℕ) → Seeks candidate m → Seeks candidate (after fed_of m words)
still_seeks candidate m [] is = is
still_seeks candidate m (word ∷ rest) is = still_seeks candidate (fed_of m word) rest (fed_seeks candidate m word is)

ended_stays : (s : Search) (end : SeekEnd) (words : List ℕ) → after fed_of (seek.Ended s end) words ≡ seek.Ended s end
ended_stays s end [] = refl
ended_stays s end (word ∷ rest) = ended_stays s end rest

-- it has not ended with a place
abbrev IsUnfound : SeekMarkMachine → Type 0
IsUnfound m = (place : Place) → end_of m ≡ Some (MarkFound place) → ⊥

-- at a field the candidate ends it with that place, for good
field_found : (candidate : ℕ) (s : Search) (c : Cursor) (len field word : ℕ) (rest : List ℕ) → s.candidate ≡ candidate → IsUnfound (after fed_of (fed_of (seek.Field s c len field) word) rest) → word ≢ candidate
field_found candidate s c len field word rest is not same =
    let place : Place = record { at = address s c; field = field } in
    let wins : (word == s.candidate) ≡ true = grind (arith, nat_tests, is, same) in
    let ended : fed_of (seek.Field s c len field) word ≡ seek.Ended s (MarkFound place) = ap (λ (b : Bool). if b then seek.Ended s (MarkFound place) else after_field s c len field) wins in
    not place (ap (λ (m : SeekMarkMachine). end_of (after fed_of m rest)) ended ∙ ap end_of (ended_stays s (MarkFound place) rest))

at_field : (candidate : ℕ) (m : SeekMarkMachine) (word : ℕ) (rest : List ℕ) → Seeks candidate m → IsUnfound (after fed_of (fed_of m word) rest) → IsAtField m → word ≢ candidate
at_field candidate (seek.Region s region) word rest is not at = absurd at
at_field candidate (seek.Header s c) word rest is not at = absurd at
at_field candidate (seek.Field s c len field) word rest is not at = field_found candidate s c len field word rest is not
at_field candidate (seek.Ended s end) word rest is not at = absurd at

unfound_by : (candidate : ℕ) (m : SeekMarkMachine) (words : List ℕ) → Seeks candidate m → IsUnfound (after fed_of m words) → Unfound candidate m words
unfound_by candidate m [] is not = tt
unfound_by candidate m (word ∷ rest) is not = (at_field candidate m word rest is not, unfound_by candidate (fed_of m word) rest (fed_seeks candidate m word is) not)

-- before its end
on_unfound : (m : SeekMarkMachine) → asks_of m ≢ Ended → IsUnfound m
on_unfound (seek.Region s region) on place is = cc
on_unfound (seek.Header s c) on place is = cc
on_unfound (seek.Field s c len field) on place is = cc
on_unfound (seek.Ended s end) on place is = on refl

unfound_cases : (s : Search) (c : Cursor) (state : HeaderState) (len : ℕ) → IsUnfound (by_state s c state len)
unfound_cases s c state len = state_cases IsUnfound s (λ place is. cc) (λ r place is. cc) (λ d place is. cc) (λ d l f place is. cc) c state len

region_unfound : (s : Search) (region : ℕ) (b : Bool) → IsUnfound (if b then next_region s region else seek.Header s (record { region = region; offset = 0 }))
region_unfound s region true = region_cases IsUnfound s (λ place is. cc) (λ r place is. cc) (λ d place is. cc) (λ d l f place is. cc) region
region_unfound s region false = λ place is. cc

after_unfound : (s : Search) (c : Cursor) (len field : ℕ) → IsUnfound (after_field s c len field)
after_unfound s c len field = after_cases IsUnfound s (λ place is. cc) (λ r place is. cc) (λ d place is. cc) (λ d l f place is. cc) c len field

field_last : (s : Search) (c : Cursor) (len field n : ℕ) (place : Place) (b : Bool) → (n == s.candidate) ≡ b → end_of (if b then seek.Ended s (MarkFound (record { at = address s c; field = field })) else after_field s c len field) ≡ Some (MarkFound place)
    → (n ≡ s.candidate) × (Load (address s c + 1 + field) ≡ Load (place.at + 1 + place.field))
field_last s c len field n place true e is =
    let here : Place = record { at = address s c; field = field } in
    let same : here ≡ place = cc in
    (eqb-true n s.candidate e, ap (λ (p : Place). Load (p.at + 1 + p.field)) same)
field_last s c len field n place false e is = absurd (after_unfound s c len field place is)

last_found : (candidate : ℕ) (m : SeekMarkMachine) (n : ℕ) (place : Place) → Seeks candidate m → asks_of m ≢ Ended → end_of (fed_of m n) ≡ Some (MarkFound place) → (n ≡ candidate) × (asks_of m ≡ Load (place.at + 1 + place.field))
last_found candidate (seek.Region s region) n place is on end = absurd (region_unfound s region (n == 0) place end)
last_found candidate (seek.Header s c) n place is on end = absurd (let h = header_at n in unfound_cases s c h.state h.len place end)
last_found candidate (seek.Field s c len field) n place is on end = let last = field_last s c len field n place (n == s.candidate) refl end in (last.0 ∙ is, last.1)
last_found candidate (seek.Ended s end) n place is on gone = absurd (on refl)

clear_unfound : (m : SeekMarkMachine) → end_of m ≡ Some Clear → IsUnfound m
clear_unfound m clear place is = let gone : Some Clear ≡ Some (MarkFound place) = sym clear ∙ is in cc

pub ends_at_first : (l : Sizes) (candidate : ℕ) → EndsAtFirst candidate (begun l candidate)
ends_at_first l candidate = record {
  clear = λ words clear. unfound_by candidate (begun l candidate) words refl (clear_unfound (after fed_of (begun l candidate) words) clear);
  found = λ words n place on end.
      let m = after fed_of (begun l candidate) words in
      let last = last_found candidate (after fed_of (begun l candidate) words) n place (still_seeks candidate (begun l candidate) words refl) on end in
      (unfound_by candidate (begun l candidate) words refl (on_unfound (after fed_of (begun l candidate) words) on), last.0, last.1);
}

-- ---- what it has passed

-- it goes on inside, with its cursor here
abbrev Comes : SeekMarkMachine → ℕ → Type 0
Comes m at = (cursor_of m ≡ at) × IsInside m

region_next : (s : Search) (region : ℕ) → region < s.regions → Comes (next_region s region) (first_of s (region + 1))
region_next s region inside = by (nat_lt (region + 1) s.regions) refl
  where
    by : (b : Bool) → nat_lt (region + 1) s.regions ≡ b → Comes (if b then seek.Region s (region + 1) else seek.Ended s Clear) (first_of s (region + 1))
    by true e = (refl, grind (arith, nat_tests, e))
    by false e = let last : s.regions ≡ region + 1 = grind (arith, nat_tests, e, inside) in (ap (first_of s) last, tt)

object_next : (s : Search) (c : Cursor) (len : ℕ) → c.region < s.regions → c.offset + 1 + len ≤ REGION_WORDS → Comes (next_object s c len) (address s c + 1 + len)
object_next s c len inside fits = by (nat_lt (c.offset + 1 + len) REGION_WORDS) refl
  where
    by : (b : Bool) → nat_lt (c.offset + 1 + len) REGION_WORDS ≡ b → Comes (if b then seek.Header s (record c { offset = c.offset + 1 + len }) else next_region s c.region) (address s c + 1 + len)
    by true e = (omega arith, (inside, grind (arith, nat_tests, e)))
    by false e =
        let full : c.offset + 1 + len ≡ REGION_WORDS = grind (arith, nat_tests, e, fits) in
        let next = region_next s c.region inside in
        (next.0 ∙ omega (arith, full), next.1)

field_next : (s : Search) (c : Cursor) (len field : ℕ) → c.region < s.regions → c.offset + 1 + len ≤ REGION_WORDS → field ≤ len → Comes (next_field s c len field) (address s c + 1 + field)
field_next s c len field inside fits most = by (nat_lt field len) refl
  where
    by : (b : Bool) → nat_lt field len ≡ b → Comes (if b then seek.Field s c len field else next_object s c len) (address s c + 1 + field)
    by true e = (refl, (inside, grind (arith, nat_tests, e), fits))
    by false e =
        let last : len ≡ field = grind (arith, nat_tests, e, most) in
        let next = object_next s c len inside fits in
        (next.0 ∙ ap (λ (i : ℕ). address s c + 1 + i) last, next.1)

after_next : (s : Search) (c : Cursor) (len field : ℕ) → c.region < s.regions → c.offset + 1 + len ≤ REGION_WORDS → field < len → Comes (after_field s c len field) (address s c + 1 + (field + 1))
after_next s c len field inside fits lt =
    let on : nat_lt field len ≡ true = grind (arith, nat_tests, lt) in
    subst (λ (b : Bool). Comes (if b then next_field s c len (field + 1) else next_object s c len) (address s c + 1 + (field + 1))) (sym on) (field_next s c len (field + 1) inside fits (omega (arith, lt)))

region_stepped : (s : Search) (region word : ℕ) → region < s.regions → (b : Bool) → (word == 0) ≡ b → Stepped (seek.Region s region) word (if b then next_region s region else seek.Header s (record { region = region; offset = 0 }))
region_stepped s region word inside true e = let next = region_next s region inside in (λ x low high. eqb-true word 0 e, next.1)
region_stepped s region word inside false e = (λ x low high. absurd (omega (arith, low, high)), (inside, lit< tt))

-- a header of an object, whose fields come next
live_stepped : (s : Search) (c : Cursor) (word len : ℕ) → c.region < s.regions → c.offset + 1 + len ≤ REGION_WORDS → Stepped (seek.Header s c) word (next_field s c len 0)
live_stepped s c word len inside fits =
    let next = field_next s c len 0 inside fits (omega arith) in
    (λ x low high. let at : cursor_of (next_field s c len 0) ≡ address s c + 1 + 0 = next.0 in inl (omega (arith, low, high, at)), next.1)

state_stepped : (s : Search) (c : Cursor) (word : ℕ) (state : HeaderState) → (let h = header_at word in h.state) ≡ state → c.region < s.regions → FitsRegion (seek.Header s c) word → Stepped (seek.Header s c) word (let h = header_at word in by_state s c state h.len)
state_stepped s c word states.Absent is inside fits = let next = region_next s c.region inside in (λ x low high. inr (inr is), next.1)
state_stepped s c word states.Dead is inside fits =
    let h = header_at word in
    let next = object_next s c h.len inside fits in
    (λ x low high. let at : cursor_of (next_object s c (let g = header_at word in g.len)) ≡ address s c + 1 + (let g = header_at word in g.len) = next.0 in inr (inl (is, omega (arith, high, at))), next.1)
state_stepped s c word states.Plain is inside fits = live_stepped s c word _ inside fits
state_stepped s c word states.Kept is inside fits = live_stepped s c word _ inside fits
state_stepped s c word states.Tagged is inside fits = live_stepped s c word _ inside fits
state_stepped s c word states.Wide is inside fits = live_stepped s c word _ inside fits
state_stepped s c word states.Moving is inside fits = live_stepped s c word _ inside fits
state_stepped s c word states.Forward is inside fits = live_stepped s c word _ inside fits

field_stepped : (s : Search) (c : Cursor) (len field word : ℕ) → c.region < s.regions → c.offset + 1 + len ≤ REGION_WORDS → field < len → (b : Bool) → (word == s.candidate) ≡ b
    → Stepped (seek.Field s c len field) word (if b then seek.Ended s (MarkFound (record { at = address s c; field = field })) else after_field s c len field)
field_stepped s c len field word inside fits lt true e = (λ x low high. absurd (omega (arith, low, high)), tt)
field_stepped s c len field word inside fits lt false e =
    let next = after_next s c len field inside fits lt in
    (λ x low high. let at : cursor_of (after_field s c len field) ≡ address s c + 1 + (field + 1) = next.0 in (omega (arith, low, high, at), eqb-false word s.candidate e), next.1)

-- so each of its steps does, whatever it finds that fits its region
pub stepped : (m : SeekMarkMachine) (word : ℕ) → IsInside m → FitsRegion m word → Stepped m word (fed_of m word)
stepped (seek.Region s region) word inside fits = region_stepped s region word inside (word == 0) refl
stepped (seek.Header s c) word inside fits = let h = header_at word in state_stepped s c word h.state refl inside.0 fits
stepped (seek.Field s c len field) word inside fits = field_stepped s c len field word inside.0 inside.2 inside.1 (word == s.candidate) refl
stepped (seek.Ended s end) word inside fits = (λ x low high. absurd (omega (arith, low, high)), tt)

low_or_high : (x n : ℕ) → (x < n) ⊎ (n ≤ x)
low_or_high x n = grind arith

passed_by : (m : SeekMarkMachine) (word : ℕ) (rest : List ℕ) (x : ℕ) → Stepped m word (fed_of m word) → cursor_of m ≤ x → (cursor_of (fed_of m word) ≤ x → PassedBy (fed_of m word) rest x) → (x < cursor_of (fed_of m word)) ⊎ (cursor_of (fed_of m word) ≤ x) → PassedBy m (word ∷ rest) x
passed_by m word rest x step low on (inl now) = inl (step.0 x low now)
passed_by m word rest x step low on (inr later) = inr (on later)

passes_below : (m : SeekMarkMachine) (words : List ℕ) (x : ℕ) → IsInside m → FitsAlong m words → cursor_of m ≤ x → x < cursor_of (after fed_of m words) → PassedBy m words x
passes_below m [] x inside fits low high = absurd (omega (arith, low, high))
passes_below m (word ∷ rest) x inside fits low high =
    let step = stepped m word inside fits.0 in
    passed_by m word rest x step low (λ later. passes_below (fed_of m word) rest x step.1 fits.1 later high) (low_or_high x (cursor_of (fed_of m word)))

some_region : (l : Sizes) → IsLayout l → 0 < regions_of l
some_region l is = let pool = is.pool in omega (arith, pool.0)

-- it begins inside
pub begun_inside : (l : Sizes) (candidate : ℕ) → IsLayout l → IsInside (begun l candidate)
begun_inside l candidate is = some_region l is

pub passes_all : (l : Sizes) (candidate : ℕ) → IsLayout l → PassesBelow (begun l candidate)
passes_all l candidate is words fits x low high = passes_below (begun l candidate) words x (begun_inside l candidate is) fits low high
