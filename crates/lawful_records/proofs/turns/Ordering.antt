-- Objects that are laid one after another, and one more; and a room that follows their packing.
use Rattle.std.proofs.Common.{◌≡◌, ℕ, zero, suc, ◌+◌, ◌<◌, ◌≤◌, Bool, true, false, ◌&&◌, List, [], ◌∷◌, ◌++◌, if◌then◌else◌, Option, Some, None, refl, sym, ap, ◌∙◌, arith}
use Rattle.std.specs.Prelude.{nat_le, nat_lt, IsSome}
use Rattle.std.proofs.lemmas.Bool.Decides.{nat_tests}
use Rattle.heap_words.specs.Layouts.{Sizes}
use Rattle.heap_words.specs.Packing.{fits_after, used_after, begun_by, begun_by_all, packing}
use Rattle.heap_words.specs.declared.limits.TheConstants.{REGION_WORDS}
use Rattle.space_reclaim.specs.NextFit.{used_after_all, packing_grows}
use Rattle.space_reclaim.specs.declared.region_word.RegionWord.TheVariants.{Free, Taken}
use Rattle.space_reclaim.specs.OwnRegions.{IsOwn, first_own, last_own, begins_at}
use Rattle.barriers.specs.declared.room.Room.{Room}
use Rattle.barriers.specs.Spaces.{Space}
use Rattle.barriers.specs.Says.{put_region}
use Rattle.barriers.proofs.words.Sets.{set_else}
use Rattle.heap_history.specs.declared.call.Call.{Call}
use Rattle.barriers.specs.declared.spot.Spot.{Spot}
use Rattle.barriers.specs.Protocols.{has_made}
use Rattle.barriers.specs.Knowns.{Known, Task, Reads, Writes, Exchanges, call_of, spot_of, task_of}
use Rattle.lawful_records.specs.Making.{IsInOrder, lens_of, own_last}
use Rattle.lawful_records.specs.Turns.{change_call, with_change}

-- ---- what a pass has made

-- a call on a field makes no object
call_on_field : (pass : ℕ) (s : Spot) (t : Task) (h : List Call) → lens_of (call_of pass s t ∷ h) ≡ lens_of h
call_on_field pass s Reads h = refl
call_on_field pass s (Writes word) h = refl
call_on_field pass s (Exchanges expected word) h = refl

pub call_makes_none : (k : Known) (pass : ℕ) (h : List Call) → lens_of (with_change (change_call k pass) h) ≡ lens_of h
call_makes_none k pass h = by_made (has_made k)
  where
    by_made : (made : Bool) → lens_of (with_change (if made then Some (call_of pass (spot_of k) (task_of k)) else None) h) ≡ lens_of h
    by_made true = call_on_field pass (spot_of k) (task_of k) h
    by_made false = refl

-- ---- packing

begun_by_more : (used : ℕ) (lens : List ℕ) (n : ℕ) → begun_by_all used (lens ++ n ∷ []) ≡ begun_by_all used lens + begun_by (used_after_all used lens) n
begun_by_more used [] n = omega arith
begun_by_more used (len ∷ rest) n = let more = begun_by_more (used_after used len) rest n in omega arith

used_after_more : (used : ℕ) (lens : List ℕ) (n : ℕ) → used_after_all used (lens ++ n ∷ []) ≡ used_after (used_after_all used lens) n
used_after_more used [] n = refl
used_after_more used (len ∷ rest) n = used_after_more (used_after used len) rest n

-- one more object needs no fewer regions
pub packing_least : (lens : List ℕ) (n : ℕ) → packing lens ≤ packing (lens ++ n ∷ [])
packing_least lens n = let more = begun_by_more REGION_WORDS lens n in omega arith

-- one that fits needs no more, and lies after the others
pub packing_fits : (lens : List ℕ) (n : ℕ) → fits_after (used_after_all REGION_WORDS lens) n ≡ true → packing (lens ++ n ∷ []) ≡ packing lens
packing_fits lens n fits =
    let more = begun_by_more REGION_WORDS lens n in
    let none : begun_by (used_after_all REGION_WORDS lens) n ≡ 0 = ap (λ (x : Bool). if x then 0 else 1) fits in
    omega arith

used_fits : (lens : List ℕ) (n : ℕ) → fits_after (used_after_all REGION_WORDS lens) n ≡ true → used_after_all REGION_WORDS (lens ++ n ∷ []) ≡ used_after_all REGION_WORDS lens + n + 1
used_fits lens n fits = used_after_more REGION_WORDS lens n ∙ ap (λ (x : Bool). if x then used_after_all REGION_WORDS lens + n + 1 else n + 1) fits

-- one that does not fit lies first in a region
used_first : (lens : List ℕ) (n : ℕ) → fits_after (used_after_all REGION_WORDS lens) n ≡ false → used_after_all REGION_WORDS (lens ++ n ∷ []) ≡ n + 1
used_first lens n full = used_after_more REGION_WORDS lens n ∙ ap (λ (x : Bool). if x then used_after_all REGION_WORDS lens + n + 1 else n + 1) full

never_fits : (n : ℕ) → fits_after REGION_WORDS n ≡ false
never_fits n = grind (arith, nat_tests)

-- objects that need no region are none
packing_none : (lens : List ℕ) → packing lens ≡ 0 → used_after_all REGION_WORDS lens ≡ REGION_WORDS
packing_none [] none = refl
packing_none (n ∷ rest) none =
    let one : begun_by REGION_WORDS n ≡ 1 = ap (λ (x : Bool). if x then 0 else 1) (never_fits n) in
    absurd (omega arith)

-- ---- regions in their order

none_needed : (l : Sizes) (pass k : ℕ) → None ≡ own_last l pass k → k ≡ 0
none_needed l pass zero e = refl
none_needed l pass (suc k) e = absurd cc

own_more : (l : Sizes) (pass k n : ℕ) → n ≡ k + 1 → own_last l pass n ≡ Some (first_own l pass + k)
own_more l pass k zero e = absurd (omega arith)
own_more l pass k (suc n) e = let same : n ≡ k = omega arith in ap (λ (x : ℕ). Some (first_own l pass + x)) same

-- after the last of some of them, which are not all, the round begins at the next one
pub begins_next : (l : Sizes) (pass k : ℕ) → k < l.quota → begins_at l pass (own_last l pass k) ≡ first_own l pass + k
begins_next l pass zero few = omega arith
begins_next l pass (suc k) few = after (nat_le (first_own l pass) (first_own l pass + k)) (nat_lt (first_own l pass + k) (last_own l pass)) refl refl
  where
    after : (low high : Bool) → nat_le (first_own l pass) (first_own l pass + k) ≡ low → nat_lt (first_own l pass + k) (last_own l pass) ≡ high
        → (if low && high then first_own l pass + k + 1 else first_own l pass) ≡ first_own l pass + suc k
    after true true e f = omega arith
    after true false e f = absurd (grind (arith, nat_tests))
    after false high e f = absurd (grind (arith, nat_tests))

module _ (l : Sizes) (s : Space) (pass : ℕ) (room : Room) (lens : List ℕ) (order : IsInOrder l s pass room lens) where
  -- it reads of the space which regions are free
  pub order_stays : (t : Space) → ((region : ℕ) → IsOwn l pass region → s.region region ≡ Free → t.region region ≡ Free) → IsInOrder l t pass room lens
  order_stays t free few = let was = order few in record { region = was.region; last = was.last; used = was.used; free = λ region own after. free region own (was.free region own after) }

  -- what does not fit the room, if there is any, does not fit after the objects
  pub full_of : (len : ℕ) → (IsSome room.region → fits_after room.used len ≡ false) → packing lens ≤ l.quota → fits_after (used_after_all REGION_WORDS lens) len ≡ false
  full_of len full few = by_region room.region refl
    where
      by_region : (region : Option ℕ) → room.region ≡ region → fits_after (used_after_all REGION_WORDS lens) len ≡ false
      by_region None e =
          let was = order few in
          let none : packing lens ≡ 0 = none_needed l pass (packing lens) (sym e ∙ was.region) in
          ap (λ (used : ℕ). fits_after used len) (packing_none lens none) ∙ never_fits len
      by_region (Some region) e =
          let was = order few in
          let some : IsSome room.region = rw e refl in
          ap (λ (used : ℕ). fits_after used len) (sym (was.used some)) ∙ full some

  -- the claim of a region begins at the next one
  pub begins_in_order : packing lens < l.quota → begins_at l pass room.last ≡ first_own l pass + packing lens
  begins_in_order few = let was = order (omega (arith, few)) in ap (begins_at l pass) was.last ∙ begins_next l pass (packing lens) few

  -- one more object in the room
  pub order_fits : (len region : ℕ) → room.region ≡ Some region → fits_after room.used len ≡ true → IsInOrder l s pass (record { region = Some region; used = room.used + len + 1; last = room.last }) (lens ++ len ∷ [])
  order_fits len region e fits few =
      let was = order (omega (arith, few, packing_least lens len)) in
      let some : IsSome room.region = rw e refl in
      let used : room.used ≡ used_after_all REGION_WORDS lens = was.used some in
      let behind : fits_after (used_after_all REGION_WORDS lens) len ≡ true = ap (λ (x : ℕ). fits_after x len) (sym used) ∙ fits in
      let same : packing (lens ++ len ∷ []) ≡ packing lens = packing_fits lens len behind in
      record {
        region = sym e ∙ was.region ∙ ap (own_last l pass) (sym same);
        last = was.last ∙ ap (own_last l pass) (sym same);
        used = λ yes. omega (arith, used, used_fits lens len behind);
        free = λ region own after. was.free region own (omega (arith, after, same));
      }

  -- one more object, in a region that was claimed for it
  module _ (len k used : ℕ) (full : packing lens ≤ l.quota → fits_after (used_after_all REGION_WORDS lens) len ≡ false) (next : packing lens < l.quota → k ≡ first_own l pass + packing lens) (first : used ≡ len + 1) where
    pub order_claims : IsInOrder l (put_region s k (Taken pass)) pass (record { region = Some k; used = used; last = Some k }) (lens ++ len ∷ [])
    order_claims few =
        let enough : packing lens ≤ l.quota = omega (arith, few, packing_least lens len) in
        let was = order enough in
        let more : packing (lens ++ len ∷ []) ≡ packing lens + 1 = packing_grows lens len (full enough) in
        let at : k ≡ first_own l pass + packing lens = next (omega (arith, few, more)) in
        let here : Some k ≡ own_last l pass (packing (lens ++ len ∷ [])) = ap Some at ∙ sym (own_more l pass (packing lens) (packing (lens ++ len ∷ [])) more) in
        record {
          region = here;
          last = here;
          used = λ yes. first ∙ sym (used_first lens len (full enough));
          free = λ region own after. set_else s.region k region (Taken pass) (λ same. absurd (omega (arith, same, after, more, at))) ∙ was.free region own (omega (arith, after, more));
        }

  -- where the claim of a region found none free, they and the object need more than there are
  pub needs_more : (len : ℕ) → (packing lens ≤ l.quota → fits_after (used_after_all REGION_WORDS lens) len ≡ false) → (packing lens < l.quota → ⊥) → l.quota < packing (lens ++ len ∷ [])
  needs_more len full none = by_count (nat_lt l.quota (packing lens)) refl
    where
      by_rest : (less : Bool) → nat_lt (packing lens) l.quota ≡ less → packing lens ≤ l.quota → packing (lens ++ len ∷ []) ≡ packing lens + 1 → l.quota < packing (lens ++ len ∷ [])
      by_rest true e few grows = let fewer : packing lens < l.quota = grind (arith, nat_tests) in absurd (none fewer)
      by_rest false e few grows = let many : l.quota ≤ packing lens = grind (arith, nat_tests) in omega (arith, many, grows)

      by_count : (more : Bool) → nat_lt l.quota (packing lens) ≡ more → l.quota < packing (lens ++ len ∷ [])
      by_count true e = let many : l.quota < packing lens = grind (arith, nat_tests) in omega (arith, many, packing_least lens len)
      by_count false e =
          let few : packing lens ≤ l.quota = grind (arith, nat_tests) in
          let grows = packing_grows lens len (full few) in
          by_rest (nat_lt (packing lens) l.quota) refl few grows
