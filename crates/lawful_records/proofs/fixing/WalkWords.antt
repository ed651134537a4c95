-- The field of a home at rest has its word in the original, and what a walk has passed once it leads to a home.
use Rattle.std.proofs.Common.{inl, inr, ◌≡◌, ◌≢◌, ℕ, ◌+◌, ◌<◌, ◌≤◌, ◌⊎◌, None, refl, sym, ap, ◌∙◌, subst, arith}
use Rattle.heap_words.specs.Layouts.{Sizes, IsLayout, regions_of, wide_at}
use Rattle.heap_words.specs.PlaceLaws.{words_of-bound}
use Rattle.heap_words.specs.declared.field_word.FieldWord.{FieldWord}
use Rattle.reference_fix.specs.declared.field_fix.FixMachine.{FixMachine}
use Rattle.reference_fix.specs.declared.field_fix.FixMachine.TheVariants as fix
use Rattle.reference_fix.specs.declared.fix_walk.Area.{Area}
use Rattle.reference_fix.specs.declared.fix_walk.Cursor.{Cursor}
use Rattle.reference_fix.specs.declared.fix_walk.FixWalkMachine.{FixWalkMachine}
use Rattle.reference_fix.specs.declared.fix_walk.FixWalkMachine.TheVariants as walk
use Rattle.reference_fix.specs.FixWalks.{area_of, address, after_field, end_of}
use Rattle.reference_fix.specs.FixWalkRuns.{IsFixOf, Walks, cursor_of}
use Rattle.reference_fix.proofs.FixWalks.{after_next, low_or_high}
use Rattle.barriers.specs.Protocols.{Protocol}
use Rattle.barriers.specs.Cycles.{Cycle}
use Rattle.barriers.specs.Objects.{AreObjects}
use Rattle.barriers.specs.Rows.{Rows}
use Rattle.barriers.specs.Says.{Notices, Says, IsWritten}
use Rattle.barriers.specs.Spaces.{Space, Here, here, copy_word, place_word}
use Rattle.barriers.specs.States.{State, Absent, Plain, Kept, Tagged, Wide, Moving, IsHome, On}
use Rattle.barriers.proofs.words.Headers.{home_there}
use Rattle.lawful_records.specs.Fixing.{Names, HasFixed, HasWalked, IsAside}
use Rattle.lawful_records.proofs.collecting.Passing.{last_place}
use Rattle.lawful_records.proofs.fixing.WalkRows.{its_own, after_goes}

-- a home that is on no way
pub at_rest : (x : State) → IsHome x → (IsAside x → ⊥) → (x ≡ Plain) ⊎ (x ≡ Kept)
at_rest Plain home rests = inl refl
at_rest Kept home rests = inr refl
at_rest Tagged home rests = absurd (rests tt)
at_rest (Wide wide) home rests = absurd (rests tt)
at_rest (Moving to) home rests = absurd (rests tt)
at_rest x home rests = absurd home

pub rests_written : (x : State) → (x ≡ Plain) ⊎ (x ≡ Kept) → IsWritten x
rests_written x (inl is) = rw is tt
rests_written x (inr is) = rw is tt

place_at : (mark : _) (x : Here) (copy : FieldWord) → (x.state ≡ Plain) ⊎ (x.state ≡ Kept) → place_word mark x copy ≡ x.word
place_at mark x copy (inl is) = rw is refl
place_at mark x copy (inr is) = rw is refl

-- its word is there
pub rest_word : (P : Protocol) (c : Cycle) (s : Space) → AreObjects P c s → (a f : ℕ) → IsHome (s.state a) → f < s.len a → (s.state a ≡ Plain) ⊎ (s.state a ≡ Kept) → s.field a f ≡ s.word a f
rest_word P c s objects a f home less rests = objects.placed a f home less ∙ place_at c.mark (here s a f) (copy_word s a f) rests

-- ---- how far a walk has come

-- it has ended only after all regions
pub ends_or : (l : Sizes) → IsLayout l → (m : FixWalkMachine) → Walks (area_of l) m → (cursor_of m ≡ wide_at l) ⊎ (end_of m ≡ None)
ends_or l fits (walk.Region q region) walks = inr refl
ends_or l fits (walk.Header q u) walks = inr refl
ends_or l fits (walk.Field q u len field m) walks = inr (on m walks.5)
  where
    on : (m : FixMachine) → IsFixOf (address q u + 1 + field) m → end_of (walk.Field q u len field m) ≡ None
    on (fix.Field at) is = refl
    on (fix.Header at word to) is = refl
    on (fix.Exchange at word put) is = refl
    on fix.Ended is = absurd is
ends_or l fits (walk.Ended q) walks = inl (ap (λ (a : Area). cursor_of (walk.Ended a)) walks ∙ (let most = words_of-bound l fits in let last = last_place l in omega (arith, most, last)))

module _ (l : Sizes) (fits : IsLayout l) (memory : ℕ → ℕ) (s : Space) (n : Notices) (rows : Rows l s.state s.len s.ends s.region) (says : Says l memory s n) (q : Area) (same : q ≡ area_of l) (u : Cursor) (inside : u.region < regions_of l) (short : u.offset < 64)
    (len field : ℕ) (less : field < len) (few : len ≤ 30) (home : IsHome (s.state (address q u))) (long : s.len (address q u) ≡ len) where
  begun : s.state (address q u) ≢ Absent
  begun = home_there (s.state (address q u)) home

  inside_area : u.region < q.regions
  inside_area = subst (λ (x : Area). u.region < x.regions) (sym same) inside

  passed_now : HasFixed s (address q u + 1 + field) → On (Names s) (s.field (address q u) field) → HasFixed s (cursor_of (after_field q u len field))
  passed_now passed names a f its f_less below = elim (low_or_high (a + 1 + f) (address q u + 1 + field)) [
    | inl early ↦ passed a f its f_less early
    | inr late ↦
        let next = (after_next q u len field inside_area short few less).low in
        let here : a + 1 + f ≡ address q u + 1 + field = omega (arith, late, below, next) in
        let own : a ≡ address q u = its_own l fits memory s n rows says q same u inside short begun a f (a + 1 + f) (its, f_less, refl) (omega (arith, here)) (omega (arith, here, less, long)) in
        let own_field : f ≡ field = omega (arith, here, own) in
        subst (On (Names s)) (sym (ap (s.field a) own_field ∙ ap (λ b. s.field b field) own)) names
  ]

  -- once the field leads to a home it is passed, too
  pub field_over : HasFixed s (address q u + 1 + field) → On (Names s) (s.field (address q u) field) → HasWalked s (after_field q u len field)
  field_over passed names = record { at = after_goes l fits memory s n rows says q same u inside short begun home len field long; passed = passed_now passed names }
