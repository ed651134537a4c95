-- The words of the wide area that no object's wide object has are 0, and stay so; with them a new wide object is ready.
use Rattle.std.proofs.Common.{◌≡◌, ◌≢◌, ℕ, ◌+◌, ◌<◌, ◌≤◌, ◌⊎◌, Option, inl, inr, refl, arith, ap, sym, subst, ◌∙◌}
use Rattle.call_steps.specs.StepLaws.{Put}
use Rattle.call_steps.specs.Steps.{place_of, put_by}
use Rattle.heap_words.specs.Layouts.{Sizes, IsLayout, wide_at}
use Rattle.heap_words.specs.declared.field_word.FieldWord.{FieldWord}
use Rattle.object_headers.specs.declared.change.Kind.{Kind}
use Rattle.wide_objects.specs.Statuses.{InOriginal, IsStatus, word_of_status}
use Rattle.space_reclaim.specs.declared.move_job.MoveJob.{MoveJob}
use Rattle.barriers.specs.Sets.{set}
use Rattle.barriers.specs.States.{Absent}
use Rattle.barriers.specs.Spaces.{Space}
use Rattle.barriers.specs.Moves.{Carried, Idles, Looks, Lays, Points, Gives_up, Seals, Starts, Forwards, Takes_up, Asks, Widens, Finishes, Marks, Puts, IsAtField, field_of}
use Rattle.barriers.specs.MoveSteps.{move_step, lay, space_moved}
use Rattle.barriers.specs.MoveWords.{IsWideReady, IsUnderway, IsMoverAt, StandsRight, IsUnused, IsSpare, IsNarrow}
use Rattle.barriers.specs.CycleLaws.{IsAtWide}
use Rattle.barriers.specs.Rows.{Rows}
use Rattle.barriers.specs.Says.{Notices, Says, IsOpening}
use Rattle.barriers.proofs.words.Sets.{set_else}
use Rattle.barriers.proofs.words.Rows.{row_area}
use Rattle.barriers.proofs.words.Headers.{written_there}
use Rattle.barriers.proofs.words.Regions.{region_ends}
use Rattle.barriers.proofs.words.MoveFrames.{IsAlike, alike_moved}
use Rattle.barriers.proofs.words.Moves.{from_there, from_field, from_wide, to_written}

original_word : word_of_status InOriginal ≡ 0
unfolding word_of_status
original_word = refl

-- a wide object for an original that has none, apart from those of other objects
module _ (l : Sizes) (memory : ℕ → ℕ) (s : Space) (j : MoveJob) (spare : IsSpare l memory s) (inside : (wide_at l ≤ j.wide) × (j.wide + j.len < wide_at l + l.wide))
    (none : s.wide j.from ≡ 0) (apart : (a : ℕ) → s.wide a ≢ 0 → a ≢ j.from → (j.wide + j.len < s.wide a) ⊎ (s.wide a + s.len a < j.wide)) where
  unused : (i : ℕ) → i ≤ j.len → IsUnused s (j.wide + i)
  unused i le a h = elim (apart a h (λ e. h (ap s.wide e ∙ none))) [ inl q ↦ inl (omega (arith, q, le)) | inr q ↦ inr (omega (arith, q)) ]

  zero : (i : ℕ) → i ≤ j.len → memory (j.wide + i) ≡ 0
  zero i le = spare (j.wide + i) (let z = inside.0 in omega (arith, z)) (let z = inside.1 in omega (arith, z, le)) (unused i le)

  pub wide_ready : s.address j.from ≡ 0 → ((f : ℕ) → f < j.len → s.status j.from f ≡ InOriginal) → IsWideReady l memory s j
  wide_ready address narrow = record {
    address = ap memory (omega arith) ∙ (zero 0 (omega arith) ∙ sym address);
    address_fits = omega (arith, address);
    status = λ f lt. ap memory (omega arith) ∙ (zero (1 + f) (omega (arith, lt)) ∙ (sym original_word ∙ ap word_of_status (sym (narrow f lt))));
    status_fits = λ f lt. subst IsStatus (sym (narrow f lt)) tt;
    inside = inside;
    apart = apart;
  }

-- at the start
pub spare_opening : (l : Sizes) (memory : ℕ → ℕ) (s : Space) → IsLayout l → IsOpening l memory → IsSpare l memory s
spare_opening l memory s il opens x lo hi free = let z = il.pool.0 in opens.rest x (λ e. omega (arith, e, lo)) (λ e. omega (arith, e, lo, z))

-- a step on a word before the wide area, or on one of a wide object, leaves the others 0
abbrev pub IsBeside : Sizes → Space → ℕ → Type 0
IsBeside l s at = (at < wide_at l) ⊎ (IsUnused s at → ⊥)

pub spare_put : (l : Sizes) (memory next : ℕ → ℕ) (s t : Space) (at put : ℕ) → IsSpare l memory s → Put memory next at put → IsBeside l s at → ((x : ℕ) → IsUnused t x → IsUnused s x) → IsSpare l next t
spare_put l memory next s t at put spare p beside less x lo hi free = p.elsewhere x (λ e. elim beside [ inl q ↦ omega (arith, q, e, lo) | inr q ↦ q (subst (IsUnused s) e (less x free)) ]) ∙ spare x lo hi (less x free)

-- a word of an object, or of the wide object that it has
module _ (l : Sizes) (s : Space) (rows : Rows l s.state s.len s.ends s.region) where
  pub beside_object : (a i : ℕ) → s.state a ≢ Absent → i ≤ s.len a → IsBeside l s (a + i)
  beside_object a i there le = inl (row_area l s.state s.len s.ends s.region rows a i there le).1

  pub beside_wide : (a i : ℕ) → s.wide a ≢ 0 → i ≤ s.len a → IsBeside l s (s.wide a + i)
  beside_wide a i there le = inr (λ free. elim (free a there) [ inl q ↦ omega (arith, q) | inr q ↦ omega (arith, q, le) ])

  pub unused_alike : (t : Space) → IsAlike s t → (x : ℕ) → IsUnused t x → IsUnused s x
  unused_alike t same x free a h =
      let size : t.len a ≡ s.len a = ap (λ (g : ℕ → ℕ). g a) same.1 in
      let where_is : t.wide a ≡ s.wide a = ap (λ (g : ℕ → ℕ). g a) same.2 in
      elim (free a (λ e. h (sym where_is ∙ e))) [ inl q ↦ inl (omega (arith, q, where_is)) | inr q ↦ inr (omega (arith, q, where_is, size)) ]

  -- after the store of the copy's header only more words are used
  unused_laid : (j : MoveJob) → s.wide j.from ≡ 0 → s.wide j.to ≡ 0 → (x : ℕ) → IsUnused (lay l s j) x → IsUnused s x
  unused_laid j from to x free a h =
      let size : (lay l s j).len a ≡ s.len a = set_else s.len j.to a j.len (λ e. h (ap s.wide e ∙ to)) in
      let where_is : (lay l s j).wide a ≡ s.wide a = set_else (set s.wide j.to 0) j.from a j.wide (λ e. h (ap s.wide e ∙ from)) ∙ set_else s.wide j.to a 0 (λ e. h (ap s.wide e ∙ to)) in
      elim (free a (λ e. h (sym where_is ∙ e))) [ inl q ↦ inl (omega (arith, q, where_is)) | inr q ↦ inr (omega (arith, q, where_is, size)) ]

  module _ (memory next : ℕ → ℕ) (n : Notices) (says : Says l memory s n) (kind : Kind) (mark : Option FieldWord) (spare : IsSpare l memory s) where
    -- the word of a mover's step
    from_beside : (m : Carried) (j : MoveJob) → IsMoverAt l kind mark memory s m j → (i : ℕ) → i ≤ s.len j.from → IsBeside l s (j.from + i)
    from_beside m j at i le = beside_object j.from i (from_there l memory s n rows says kind mark m j at) le

    head_beside : (m : Carried) (j : MoveJob) → IsMoverAt l kind mark memory s m j → IsBeside l s j.from
    head_beside m j at = subst (IsBeside l s) (omega arith) (from_beside m j at 0 (omega arith))

    field_beside : (m : Carried) (j : MoveJob) → IsMoverAt l kind mark memory s m j → IsAtField m → IsBeside l s (j.from + 1 + field_of m)
    field_beside m j at f = let lt = from_field l memory s n rows says kind mark m j at f in subst (IsBeside l s) (omega arith) (from_beside m j at (1 + field_of m) (omega (arith, lt)))

    wide_beside : (m : Carried) (j : MoveJob) → IsMoverAt l kind mark memory s m j → IsAtWide m → (i : ℕ) → i ≤ s.len j.from → IsBeside l s (j.wide + i)
    wide_beside m j at w i le = subst (λ a. IsBeside l s (a + i)) (at.wide w).0 (beside_wide j.from i (from_wide l memory s n rows says kind mark m j at w) le)

    status_beside : (m : Carried) (j : MoveJob) → IsMoverAt l kind mark memory s m j → IsAtWide m → IsAtField m → IsBeside l s (j.wide + 1 + field_of m)
    status_beside m j at w f = let lt = from_field l memory s n rows says kind mark m j at f in subst (IsBeside l s) (omega arith) (wide_beside m j at w (1 + field_of m) (omega (arith, lt)))

    copy_beside : (j : MoveJob) → IsUnderway s j → (i : ℕ) → i ≤ j.len → IsBeside l s (j.to + i)
    copy_beside j copy i le = let e = copy.len in beside_object j.to i (written_there (s.state j.to) (to_written l memory s n rows says kind mark j copy)) (omega (arith, le, e))

    move_beside : (m : Carried) → StandsRight l kind mark memory s m → IsBeside l s (place_of (move_step kind mark m))
    move_beside Idles at = inl (omega arith)
    move_beside (Looks j) at = head_beside (Looks j) j (at j refl)
    move_beside (Lays j) at = inl (let can = (at j refl).copy in let z = region_ends l _ can.region in let y = can.room in omega (arith, z, y))
    move_beside (Points j) at = subst (IsBeside l s) (omega arith) (wide_beside (Points j) j (at j refl) tt 0 (omega arith))
    move_beside (Gives_up j) at = subst (IsBeside l s) (omega arith) (copy_beside j (at j refl).copy 0 (omega arith))
    move_beside (Seals j) at = head_beside (Seals j) j (at j refl)
    move_beside (Starts j) at = head_beside (Starts j) j (at j refl)
    move_beside (Forwards j) at = head_beside (Forwards j) j (at j refl)
    move_beside (Takes_up j f) at = field_beside (Takes_up j f) j (at j refl) tt
    move_beside (Asks j f) at = status_beside (Asks j f) j (at j refl) tt tt
    move_beside (Widens j f w) at = status_beside (Widens j f w) j (at j refl) tt tt
    move_beside (Finishes j f w) at = status_beside (Finishes j f w) j (at j refl) tt tt
    move_beside (Marks j f w) at = field_beside (Marks j f w) j (at j refl) tt
    move_beside (Puts j f w) at = subst (IsBeside l s) (omega arith) (copy_beside j (at j refl).copy (1 + f) (let lt = (at j refl).field tt in omega (arith, lt)))

    unused_moved : (m : Carried) → IsNarrow s m → (x : ℕ) → IsUnused (space_moved l mark s m) x → IsUnused s x
    unused_moved (Lays j) narrow = unused_laid j narrow.0 narrow.1
    unused_moved m narrow = unused_alike (space_moved l mark s m) (alike_moved l mark s m (λ i y. cc y))

    pub spare_moved : (m : Carried) → StandsRight l kind mark memory s m → IsNarrow s m → Put memory next (place_of (move_step kind mark m)) (put_by (move_step kind mark m) (memory (place_of (move_step kind mark m)))) → IsSpare l next (space_moved l mark s m)
    spare_moved m at narrow put = spare_put l memory next s (space_moved l mark s m) (place_of (move_step kind mark m)) (put_by (move_step kind mark m) (memory (place_of (move_step kind mark m)))) spare put (move_beside m at) (unused_moved m narrow)
