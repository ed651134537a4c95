-- A walk goes on through its regions until it ends, and fixes each field that it passes.
use Rattle.std.specs.Prelude.{nat_lt, unwrap_or, if◌then◌else◌}
use Rattle.std.proofs.Common.{◌≡◌, ◌≢◌, ℕ, ◌+◌, ◌-◌, ◌*◌, ◌<◌, ◌≤◌, ◌⊎◌, ◌==◌, inl, inr, Bool, true, false, List, [], ◌∷◌, length, Option, Some, None, refl, ap, sym, ◌∙◌, subst, arith, lit<, lit≤}
use Rattle.std.proofs.lemmas.Bool.{eqb-true}
use Rattle.std.proofs.lemmas.Bool.Decides.{nat_tests}
use Rattle.call_steps.specs.declared.step.Step.TheVariants.{Store, Exchange, Ended}
use Rattle.call_steps.specs.Ending.{after}
use Rattle.heap_words.specs.FieldWords.{field_at}
use Rattle.heap_words.specs.Layouts.{Sizes, IsLayout, regions_of}
use Rattle.heap_words.specs.declared.limits.TheConstants.{REGION_WORDS}
use Rattle.object_headers.specs.declared.header.Header.{Header}
use Rattle.object_headers.specs.declared.header.State.{State as HeaderState}
use Rattle.object_headers.specs.declared.header.State.TheVariants as states
use Rattle.object_headers.specs.Headers.{IsHeader, header_of, header_at, absent}
use Rattle.object_headers.specs.HeaderLaws.{header_of-fits}
use Rattle.reference_fix.specs.declared.field_fix.FixMachine.{FixMachine}
use Rattle.reference_fix.specs.declared.field_fix.FixMachine.TheVariants as fix
use Rattle.reference_fix.specs.declared.fix_walk.Area.{Area}
use Rattle.reference_fix.specs.declared.fix_walk.Cursor.{Cursor}
use Rattle.reference_fix.specs.declared.fix_walk.FixWalkMachine.{FixWalkMachine}
use Rattle.reference_fix.specs.declared.fix_walk.FixWalkMachine.TheVariants as walk
use Rattle.reference_fix.specs.FieldFixes as fields
use Rattle.reference_fix.specs.FixWalks.{area_of, first_of, address, next_region, next_object, next_field, after_field, fixed_on, by_state, begun, asks_of, fed_of, end_of}
use Rattle.reference_fix.specs.FixWalkRuns.{IsFixOf, Walks, FixesLinks, cursor_of, IsFixed, Passes, PassedBy, PassesBelow, EndsWithin}
use Rattle.reference_fix.specs.MovedLinks.{leads_to, moved_link, IsMoved}
use Rattle.reference_fix.proofs.Moved.{is_moved}

-- ---- no header's word has more than 30 fields

len_of : (o : Option Header) → ((h : Header) → o ≡ Some h → IsHeader h) → (let h = unwrap_or o absent in h.len) ≤ 30
len_of None fits = lit≤ tt
len_of (Some h) fits = let is = fits h refl in omega (arith, is.len)

some_fits : (word : ℕ) (h : Header) → header_of word ≡ Some h → IsHeader h
some_fits word h e = grind (arith, header_of-fits word, e)

pub few_fields : (word : ℕ) → (let h = header_at word in h.len) ≤ 30
unfolding header_at
few_fields word = len_of (header_of word) (some_fits word)

-- ---- how many steps it has left at most

-- of a region: its word, its 64 words, and the fields of an object that would go on after it, with three steps for each
abbrev pub region_steps : ℕ
region_steps = 288

-- of the regions after one
abbrev later : Area → ℕ → ℕ
later a region = region_steps * (a.regions - (region + 1))

-- from an offset of a region on
abbrev from : Area → ℕ → ℕ → ℕ
from a region offset = 3 * (95 - offset) + later a region

abbrev pub walk_left : FixWalkMachine → ℕ
walk_left (walk.Region a region) = region_steps * (a.regions - region)
walk_left (walk.Header a c) = from a c.region c.offset
walk_left (walk.Field a c len field m) = fields.left_of m + 3 * (len - (field + 1)) + from a c.region (c.offset + 1 + len)
walk_left (walk.Ended a) = 0

-- ---- what it goes on to: where it is, how far it has come, and how many steps are left

-- it is on its way, and has come to this address
pub record Comes (r : Area) (m : FixWalkMachine) (at most : ℕ) : Type 0 where
  pub on : Walks r m
  pub low : cursor_of m ≤ at
  pub left : walk_left m ≤ most

module _ (a : Area) where
  pub region_next : (region : ℕ) → region < a.regions → Comes a (next_region a region) (first_of a (region + 1)) (later a region)
  region_next region inside = by (nat_lt (region + 1) a.regions) refl
    where
      by : (b : Bool) → nat_lt (region + 1) a.regions ≡ b → Comes a (if b then walk.Region a (region + 1) else walk.Ended a) (first_of a (region + 1)) (later a region)
      by true e = record { on = (refl, grind (arith, nat_tests, e)); low = omega arith; left = omega arith }
      by false e = let last : a.regions ≡ region + 1 = grind (arith, nat_tests, e, inside) in record { on = refl; low = omega (arith, last); left = omega arith }

  pub object_next : (c : Cursor) (len : ℕ) → c.region < a.regions → Comes a (next_object a c len) (address a c + 1 + len) (from a c.region (c.offset + 1 + len))
  object_next c len inside = by (nat_lt (c.offset + 1 + len) REGION_WORDS) refl
    where
      by : (b : Bool) → nat_lt (c.offset + 1 + len) REGION_WORDS ≡ b → Comes a (if b then walk.Header a (record c { offset = c.offset + 1 + len }) else next_region a c.region) (address a c + 1 + len) (from a c.region (c.offset + 1 + len))
      by true e = record { on = (refl, inside, grind (arith, nat_tests, e)); low = omega arith; left = omega arith }
      by false e =
          let full : REGION_WORDS ≤ c.offset + 1 + len = grind (arith, nat_tests, e) in
          let next = region_next c.region inside in
          record { on = next.on; low = (let low = next.low in omega (arith, low, full)); left = (let left = next.left in omega (arith, left)) }

  pub field_next : (c : Cursor) (len field : ℕ) → c.region < a.regions → c.offset < 64 → len ≤ 30 → field ≤ len → Comes a (next_field a c len field) (address a c + 1 + field) (3 * (len - field) + from a c.region (c.offset + 1 + len))
  field_next c len field inside short few most = by (nat_lt field len) refl
    where
      by : (b : Bool) → nat_lt field len ≡ b → Comes a (if b then walk.Field a c len field (fix.Field (address a c + 1 + field)) else next_object a c len) (address a c + 1 + field) (3 * (len - field) + from a c.region (c.offset + 1 + len))
      by true e =
          let less : field < len = grind (arith, nat_tests, e) in
          record { on = (refl, inside, short, less, few, refl); low = omega arith; left = omega (arith, less) }
      by false e =
          let last : len ≡ field = grind (arith, nat_tests, e, most) in
          let next = object_next c len inside in
          record { on = next.on; low = (let low = next.low in omega (arith, low, last)); left = (let left = next.left in omega (arith, left)) }

  pub after_next : (c : Cursor) (len field : ℕ) → c.region < a.regions → c.offset < 64 → len ≤ 30 → field < len → Comes a (after_field a c len field) (address a c + 1 + (field + 1)) (3 * (len - (field + 1)) + from a c.region (c.offset + 1 + len))
  after_next c len field inside short few less =
      let on : nat_lt field len ≡ true = grind (arith, nat_tests, less) in
      subst (λ (b : Bool). Comes a (if b then next_field a c len (field + 1) else next_object a c len) (address a c + 1 + (field + 1)) (3 * (len - (field + 1)) + from a c.region (c.offset + 1 + len))) (sym on)
      (field_next c len (field + 1) inside short few (omega (arith, less)))

-- ---- its step

-- a step passes what is below its next cursor, goes on, and leaves fewer
pub record Stepped (m : FixWalkMachine) (word : ℕ) (r : Area) (next : FixWalkMachine) : Type 0 where
  pub passes : (x : ℕ) → cursor_of m ≤ x → x < cursor_of next → Passes m word x
  pub on : Walks r next
  pub falls : walk_left next < walk_left m

module _ (a : Area) where
  region_stepped : (region word : ℕ) → region < a.regions → (b : Bool) → (word == 0) ≡ b → Stepped (walk.Region a region) word a (if b then next_region a region else walk.Header a (record { region = region; offset = 0 }))
  region_stepped region word inside true e =
      let next = region_next a region inside in
      record { passes = λ x low high. eqb-true word 0 e; on = next.on; falls = (let left = next.left in omega (arith, left, inside)) }
  region_stepped region word inside false e = record { passes = λ x low high. absurd (omega (arith, low, high)); on = (refl, inside, lit< tt); falls = omega (arith, inside) }

  module _ (c : Cursor) (inside : c.region < a.regions) (short : c.offset < 64) where
    -- a header of an object whose fields come next
    fixed_stepped : (word len : ℕ) → len ≤ 30 → Stepped (walk.Header a c) word a (next_field a c len 0)
    fixed_stepped word len few =
        let next = field_next a c len 0 inside short few (omega arith) in
        record { passes = λ x low high. (let at = next.low in inl (omega (arith, low, high, at))); on = next.on; falls = (let left = next.left in omega (arith, left, short, few)) }

    left_stepped : (word len : ℕ) → (let h = header_at word in h.len) ≡ len → len ≤ 30 → (IsFixed (let h = header_at word in h.state) → ⊥) → Stepped (walk.Header a c) word a (next_object a c len)
    left_stepped word len is few not =
        let next = object_next a c len inside in
        record { passes = λ x low high. (let at = next.low in inr (inl (not, omega (arith, high, at, is)))); on = next.on; falls = (let left = next.left in omega (arith, left, short, few)) }

    none_stepped : (word : ℕ) → (let h = header_at word in h.state) ≡ states.Absent → Stepped (walk.Header a c) word a (next_region a c.region)
    none_stepped word is =
        let next = region_next a c.region inside in
        record { passes = λ x low high. inr (inr is); on = next.on; falls = (let left = next.left in omega (arith, left, short)) }

    state_stepped : (word : ℕ) (state : HeaderState) (len : ℕ) → (let h = header_at word in h.state) ≡ state → (let h = header_at word in h.len) ≡ len → len ≤ 30 → Stepped (walk.Header a c) word a (by_state a c state len)
    state_stepped word states.Absent len is long few = none_stepped word is
    state_stepped word states.Plain len is long few = fixed_stepped word len few
    state_stepped word states.Kept len is long few = fixed_stepped word len few
    state_stepped word states.Tagged len is long few = left_stepped word len long few (λ f. subst IsFixed is f)
    state_stepped word states.Wide len is long few = left_stepped word len long few (λ f. subst IsFixed is f)
    state_stepped word states.Moving len is long few = left_stepped word len long few (λ f. subst IsFixed is f)
    state_stepped word states.Forward len is long few = left_stepped word len long few (λ f. subst IsFixed is f)
    state_stepped word states.Dead len is long few = left_stepped word len long few (λ f. subst IsFixed is f)

    module _ (len field : ℕ) (less : field < len) (few : len ≤ 30) where
      abbrev place : ℕ
      place = address a c + 1 + field

      -- a step of the fix leaves fewer of its own, or ends it
      fix_stepped : (m next : FixMachine) (word : ℕ) → fields.fed_of m word ≡ next → (next ≢ fix.Ended → IsFixOf place next) → fields.left_of next < fields.left_of m → Stepped (walk.Field a c len field m) word a (fixed_on a c len field next)
      fix_stepped m fix.Ended word is on falls =
          let next = after_next a c len field inside short few less in
          record { passes = λ x low high. (let at = next.low in (omega (arith, low, high, at), is)); on = next.on; falls = (let left = next.left in omega (arith, left, falls)) }
      fix_stepped m (fix.Field its) word is on falls = record { passes = λ x low high. absurd (omega (arith, low, high)); on = (refl, inside, short, less, few, on (λ e. cc e)); falls = omega (arith, falls) }
      fix_stepped m (fix.Header its found to) word is on falls = record { passes = λ x low high. absurd (omega (arith, low, high)); on = (refl, inside, short, less, few, on (λ e. cc e)); falls = omega (arith, falls) }
      fix_stepped m (fix.Exchange its found put) word is on falls = record { passes = λ x low high. absurd (omega (arith, low, high)); on = (refl, inside, short, less, few, on (λ e. cc e)); falls = omega (arith, falls) }

-- a fix stays that of its field until it ends
led_of : (at word : ℕ) (o : Option ℕ) → leads_to (field_at word) ≡ o → fields.led at word o ≢ fix.Ended → IsFixOf at (fields.led at word o)
led_of at word None is on = absurd (on refl)
led_of at word (Some to) is on = (refl, is)

put_of : (at place word header : ℕ) (o : Option ℕ) → place ≡ at → moved_link (field_at word) (header_at header) ≡ o → fields.putting place word o ≢ fix.Ended → IsFixOf at (fields.putting place word o)
put_of at place word header None same is on = absurd (on refl)
put_of at place word header (Some put) same is on = (same, header, is)

pub fix_on : (at : ℕ) (m : FixMachine) (word : ℕ) → IsFixOf at m → fields.fed_of m word ≢ fix.Ended → IsFixOf at (fields.fed_of m word)
fix_on at (fix.Field place) word is on = subst (λ y. IsFixOf y (fields.looked_at place word)) is (led_of place word (leads_to (field_at word)) refl on)
fix_on at (fix.Header place found to) word is on = put_of at place found word (moved_link (field_at found) (header_at word)) is.0 refl on
fix_on at (fix.Exchange place found put) word is on = absurd (on refl)
fix_on at fix.Ended word is on = absurd is

fix_asks : (at : ℕ) (m : FixMachine) → IsFixOf at m → fields.asks_of m ≢ Ended
fix_asks at (fix.Field place) is = λ e. cc e
fix_asks at (fix.Header place found to) is = λ e. cc e
fix_asks at (fix.Exchange place found put) is = λ e. cc e
fix_asks at fix.Ended is = absurd is

on_area : (a r : Area) (region : ℕ) → a ≡ r → region < r.regions → region < a.regions
on_area a r region same less = subst (λ (x : Area). region < x.regions) (sym same) less

-- whatever word it finds
pub walk_steps : (r : Area) (m : FixWalkMachine) (word : ℕ) → Walks r m → asks_of m ≢ Ended → Stepped m word r (fed_of m word)
walk_steps r (walk.Region a region) word is on =
    subst (λ (x : Area). Stepped (walk.Region a region) word x (fed_of (walk.Region a region) word)) is.0 (region_stepped a region word (on_area a r region is.0 is.1) (word == 0) refl)
walk_steps r (walk.Header a c) word is on =
    let h = header_at word in
    subst (λ (x : Area). Stepped (walk.Header a c) word x (fed_of (walk.Header a c) word)) is.0 (state_stepped a c (on_area a r c.region is.0 is.1) is.2 word h.state h.len refl refl (few_fields word))
walk_steps r (walk.Field a c len field m) word is on =
    let fit = is.5 in
    subst (λ (x : Area). Stepped (walk.Field a c len field m) word x (fed_of (walk.Field a c len field m) word)) is.0
    (fix_stepped a c (on_area a r c.region is.0 is.1) is.2 len field is.3 is.4 m (fields.fed_of m word) word refl (fix_on (address a c + 1 + field) m word fit) (fields.falls_of m word (fix_asks (address a c + 1 + field) m fit)))
walk_steps r (walk.Ended a) word is on = absurd (on refl)

pub walks_begun : (l : Sizes) → IsLayout l → Walks (area_of l) (begun l)
walks_begun l is = (refl, (let pool = is.pool in omega (arith, pool.0)))

-- ---- all its steps

ended_stays : (a : Area) (words : List ℕ) → after fed_of (walk.Ended a) words ≡ walk.Ended a
ended_stays a [] = refl
ended_stays a (word ∷ rest) = ended_stays a rest

-- it has ended, or asks for a step
ends_or : (r : Area) (m : FixWalkMachine) → Walks r m → (m ≡ walk.Ended r) ⊎ (asks_of m ≢ Ended)
ends_or r (walk.Region a region) is = inr (λ e. cc e)
ends_or r (walk.Header a c) is = inr (λ e. cc e)
ends_or r (walk.Field a c len field m) is = inr (fix_asks (address a c + 1 + field) m is.5)
ends_or r (walk.Ended a) is = inl (ap (λ (x : Area). walk.Ended x) is)

-- after a step it has ended, or is on its way
pub walk_on : (r : Area) (m : FixWalkMachine) (word : ℕ) → Walks r m → asks_of m ≢ Ended → end_of (fed_of m word) ≡ None → asks_of (fed_of m word) ≢ Ended
walk_on r m word is on none = elim (ends_or r (fed_of m word) (walk_steps r m word is on).on) [
  | inl ended ↦ absurd (let gone : Some tt ≡ None = sym (ap end_of ended) ∙ none in cc gone)
  | inr asks ↦ asks
]

walks_after : (r : Area) (m : FixWalkMachine) (words : List ℕ) → Walks r m → Walks r (after fed_of m words)
walks_after r m [] is = is
walks_after r m (word ∷ rest) is = elim (ends_or r m is) [
  | inl ended ↦ subst (λ (x : FixWalkMachine). Walks r (after fed_of x (word ∷ rest))) (sym ended) (subst (Walks r) (sym (ended_stays r rest)) refl)
  | inr on ↦ walks_after r (fed_of m word) rest (walk_steps r m word is on).on
]

pub low_or_high : (x n : ℕ) → (x < n) ⊎ (n ≤ x)
low_or_high x n = grind arith

passes_below : (r : Area) (m : FixWalkMachine) (words : List ℕ) (x : ℕ) → Walks r m → cursor_of m ≤ x → x < cursor_of (after fed_of m words) → PassedBy m words x
passes_below r m [] x is low high = absurd (omega (arith, low, high))
passes_below r m (word ∷ rest) x is low high = elim (ends_or r m is) [
  | inl ended ↦
      let end : after fed_of m (word ∷ rest) ≡ m = ap (λ (y : FixWalkMachine). after fed_of y (word ∷ rest)) ended ∙ ended_stays r rest ∙ sym ended in
      absurd (let same = ap cursor_of end in omega (arith, low, high, same))
  | inr on ↦
      let step = walk_steps r m word is on in
      elim (low_or_high x (cursor_of (fed_of m word))) [ inl now ↦ inl (step.passes x low now) | inr next ↦ inr (passes_below r (fed_of m word) rest x step.on next high) ]
]

ends_by : (r : Area) (m : FixWalkMachine) (words : List ℕ) → Walks r m → walk_left m ≤ length words → asks_of (after fed_of m words) ≡ Ended
ends_by r m [] is few = elim (ends_or r m is) [
  | inl ended ↦ ap asks_of ended
  | inr on ↦ absurd (let falls = (walk_steps r m 0 is on).falls in omega (arith, few, falls))
]
ends_by r m (word ∷ rest) is few = elim (ends_or r m is) [
  | inl ended ↦ ap (λ (y : FixWalkMachine). asks_of (after fed_of y (word ∷ rest))) ended ∙ ap asks_of (ended_stays r rest)
  | inr on ↦ let step = walk_steps r m word is on in ends_by r (fed_of m word) rest step.on (let falls = step.falls in omega (arith, few, falls))
]

-- ---- what it puts

fix_puts : (place : ℕ) (m : FixMachine) (at want put : ℕ) → IsFixOf place m → fields.asks_of m ≡ Exchange at want put → (header : ℕ) × IsMoved want header put
fix_puts place (fix.Field its) at want put is e = absurd (cc e)
fix_puts place (fix.Header its word to) at want put is e = absurd (cc e)
fix_puts place (fix.Exchange its word new) at want put is e =
    let same_word : word ≡ want = cc e in
    let same_put : new ≡ put = cc e in
    (is.1, subst (λ y. IsMoved y is.1 put) same_word (subst (IsMoved word is.1) same_put (is_moved word is.1 new is.2)))
fix_puts place fix.Ended at want put is e = absurd is

fix_stores : (m : FixMachine) (at put : ℕ) → fields.asks_of m ≢ Store at put
fix_stores (fix.Field its) at put = λ e. cc e
fix_stores (fix.Header its word to) at put = λ e. cc e
fix_stores (fix.Exchange its word new) at put = λ e. cc e
fix_stores fix.Ended at put = λ e. cc e

walk_puts : (r : Area) (m : FixWalkMachine) (at want put : ℕ) → Walks r m → asks_of m ≡ Exchange at want put → (header : ℕ) × IsMoved want header put
walk_puts r (walk.Region a region) at want put is e = absurd (cc e)
walk_puts r (walk.Header a c) at want put is e = absurd (cc e)
walk_puts r (walk.Field a c len field m) at want put is e = fix_puts (address a c + 1 + field) m at want put is.5 e
walk_puts r (walk.Ended a) at want put is e = absurd (cc e)

walk_stores : (m : FixWalkMachine) (at put : ℕ) → asks_of m ≢ Store at put
walk_stores (walk.Region a region) at put = λ e. cc e
walk_stores (walk.Header a c) at put = λ e. cc e
walk_stores (walk.Field a c len field m) at put = fix_stores m at put
walk_stores (walk.Ended a) at put = λ e. cc e

-- ---- from its beginning

module _ (l : Sizes) (is : IsLayout l) where
  pub fixes_links : FixesLinks (begun l)
  fixes_links = record {
    exchanges = λ words at want put. walk_puts (area_of l) (after fed_of (begun l) words) at want put (walks_after (area_of l) (begun l) words (walks_begun l is));
    stores = λ words at put. walk_stores (after fed_of (begun l) words) at put;
  }

  pub passes_all : PassesBelow (begun l)
  passes_all words x low high = passes_below (area_of l) (begun l) words x (walks_begun l is) low high

  pub ends_within : EndsWithin (288 * regions_of l) (begun l)
  ends_within words few = ends_by (area_of l) (begun l) words (walks_begun l is) (omega (arith, few))
