-- Why a write ends as it does, whatever others do meanwhile.
use Rattle.std.specs.Prelude.{◌≡◌, ◌≢◌, ℕ, nat_lt, if◌then◌else◌, Bool, true, false, List, [], ◌∷◌, refl}
use Rattle.std.specs.Option.{ForSome}
use Rattle.std.proofs.Common.{sym, subst, inl, inr, append-nil}
use Rattle.call_steps.specs.declared.step.Step.TheVariants.{Load, Ended}
use Rattle.call_steps.specs.Ending.{Taken, LastStep, EndsOnlyFor, up_to, step_of, ends_only_for}
use Rattle.barriers.specs.declared.spot.Spot.{Spot}
use Rattle.barriers.specs.declared.ends.TryRefusal.TheVariants as refusal
use Rattle.barriers.specs.declared.ends.WriteEnd.{WriteEnd}
use Rattle.barriers.specs.declared.ends.WriteEnd.TheVariants as write_end
use Rattle.barriers.specs.declared.write.WriteMachine.{WriteMachine}
use Rattle.barriers.specs.declared.write.WriteMachine.TheVariants as rest_write
use Rattle.barriers.specs.Causes.{LacksField, len_at, WriteEndsFor, IsWriteFor, write_keeps, write_ends}
use Rattle.barriers.specs.Writes as rest_writes
use Rattle.tagged_calls.specs.Locations.{location_in}
use Rattle.tagged_calls.specs.Placeds.{placed_at}
use Rattle.tagged_calls.specs.TaggedCauses.{header_load, header_exchange, Leads, IsApproach, EndsPlaced, IsPlacedFor, PlacedIs, placed_keeps, placed_ends, led_so, lacks, lacks_no_more, turned_so, led_inside}
use Rattle.chicken_tags.specs.declared.write.ChickenWrite.{ChickenWrite}
use Rattle.chicken_tags.specs.declared.write.ChickenWrite.TheVariants as write
use Rattle.chicken_tags.specs.ChickenWrites as writes

-- ---- a write

-- it has written as an object at rest is written, where the header led it; and it is refused only where the header that it loaded lacks the field
abbrev pub WriteEnds : Spot → ℕ → LastStep → WriteEnd → Type 0
WriteEnds spot word last write_end.Wrote = EndsPlaced IsApproach (λ here. WriteEndsFor here word) spot last write_end.Wrote
WriteEnds spot word last (write_end.Refused (refusal.NoField len)) = LacksField spot last len
WriteEnds spot word last (write_end.Refused why) = ⊥

-- after these steps the machine is a write of this field with this word
abbrev IsWrite : Spot → ℕ → List Taken → ChickenWrite → Type 0
IsWrite spot word earlier (write.Header its put) = (its ≡ spot) × (put ≡ word) × (earlier ≡ [])
IsWrite spot word earlier (write.Keep its put keep) = (its ≡ spot) × (put ≡ word) × (earlier ≡ header_load spot keep.tagged ∷ []) × (nat_lt spot.field (len_at keep.tagged) ≡ true)
IsWrite spot word earlier (write.Field m) = PlacedIs IsApproach (λ here. IsWriteFor here word) spot earlier m

module _ (spot : Spot) (word : ℕ) where
  abbrev written : ℕ → Spot → WriteMachine
  written n here = rest_writes.fed_of (rest_write.Header here word) n

  write_placed : (n tagged : ℕ) (approach : List Taken) → ((here : Spot) → Leads spot n here → IsApproach spot approach here)
      → PlacedIs IsApproach (λ here. IsWriteFor here word) spot approach (placed_at (location_in spot n) spot (written tagged))
  write_placed n tagged approach leads = led_so (IsPlacedFor IsApproach (λ here. IsWriteFor here word) spot approach) spot n (written tagged) (λ here led. record {
    here = here;
    approach = approach;
    led = leads here led;
    header = tagged;
    rest = [];
    splits = sym (append-nil approach);
    is = write_keeps here word [] (rest_write.Header here word) tagged (refl, refl, refl);
  })

  write_goes : (earlier : List Taken) (m : ChickenWrite) (n : ℕ) → IsWrite spot word earlier m → IsWrite spot word (up_to (step_of writes.asks_of earlier m n)) (writes.fed_of m n)
  write_goes earlier (write.Header its put) n is =
      let begun : IsWrite spot word (header_load spot n ∷ []) (writes.turned spot word n (location_in spot n)) =
      turned_so (IsWrite spot word (header_load spot n ∷ [])) (write.Keep spot word) (writes.placed spot word n) spot n
      (λ inside. (refl, refl, refl, inside)) (write_placed n n (header_load spot n ∷ []) (λ here led. inl (n, refl, led))) in
      rw (is.0, is.1, is.2) begun
  write_goes earlier (write.Keep its put keep) n is =
      let begun : IsWrite spot word (header_load spot keep.tagged ∷ header_exchange spot keep.tagged keep.kept n ∷ []) (writes.placed spot word keep.tagged (location_in spot n)) =
      write_placed n keep.tagged (header_load spot keep.tagged ∷ header_exchange spot keep.tagged keep.kept n ∷ []) (λ here led. inr (keep.tagged, keep.kept, n, refl, led)) in
      rw (is.0, is.1, is.2) begun
  write_goes earlier (write.Field m) n is =
      placed_keeps IsApproach rest_writes.asks_of rest_writes.fed_of rest_writes.end_of (λ here. IsWriteFor here word) (λ here. WriteEndsFor here word) (λ here. write_keeps here word) (λ here. write_ends here word) spot earlier m n is

  -- the steps of its header end it only where the field is lacking
  write_first : (n : ℕ) (here : Spot) (b : Bool) → Leads spot n here → nat_lt here.field (len_at n) ≡ b
      → ForSome (rest_writes.end_of (if b then rest_write.Field here word else rest_write.Ended here word (write_end.Refused (refusal.NoField (len_at n))))) (WriteEnds spot word (record { earlier = []; step = Load spot.at; found = n }))
  write_first n here true led e end is = absurd cc
  write_first n here false led e end is =
      let none : write_end.Refused (refusal.NoField (len_at n)) ≡ end = cc in
      subst (WriteEnds spot word (record { earlier = []; step = Load spot.at; found = n })) none (lacks spot here n led e)

  write_none : (here : Spot) (len : ℕ) (For : WriteEnd → Type 0) (b : Bool) → b ≡ true → ForSome (rest_writes.end_of (if b then rest_write.Field here word else rest_write.Ended here word (write_end.Refused (refusal.NoField len)))) For
  write_none here len For true inside end is = absurd cc
  write_none here len For false inside end is = absurd cc

  write_so : (last : LastStep) (end : WriteEnd) → EndsPlaced IsApproach (λ here. WriteEndsFor here word) spot last end → WriteEnds spot word last end
  write_so last write_end.Wrote so = so
  write_so last (write_end.Refused (refusal.NoField len)) so = absurd (lacks_no_more so.here last (header_load so.here so.header) so.rest len so.so)
  write_so last (write_end.Refused refusal.NotLink) so = so.so
  write_so last (write_end.Refused (refusal.Raced loaded found)) so = so.so
  write_so last (write_end.Refused (refusal.Busy cycle mark)) so = so.so

  write_over : (earlier : List Taken) (m : ChickenWrite) (n : ℕ) → IsWrite spot word earlier m → writes.asks_of m ≢ Ended → ForSome (writes.end_of (writes.fed_of m n)) (WriteEnds spot word (step_of writes.asks_of earlier m n))
  write_over earlier (write.Header its put) n is on =
      let last : LastStep = record { earlier = []; step = Load spot.at; found = n } in
      let first : ForSome (writes.end_of (writes.turned spot word n (location_in spot n))) (WriteEnds spot word last) =
      turned_so (λ m. ForSome (writes.end_of m) (WriteEnds spot word last)) (write.Keep spot word) (writes.placed spot word n) spot n (λ inside end so. absurd cc)
      (led_so (λ m. ForSome (rest_writes.end_of m) (WriteEnds spot word last)) spot n (written n) (λ here led. write_first n here (nat_lt here.field (len_at n)) led refl)) in
      rw (is.0, is.1, is.2) first
  write_over earlier (write.Keep its put keep) n is on =
      let last : LastStep = step_of writes.asks_of earlier (write.Keep its put keep) n in
      let none : ForSome (writes.end_of (writes.placed spot word keep.tagged (location_in spot n))) (WriteEnds spot word last) =
      led_so (λ m. ForSome (rest_writes.end_of m) (WriteEnds spot word last)) spot n (written keep.tagged)
      (λ here led. write_none here (len_at keep.tagged) (WriteEnds spot word last) (nat_lt here.field (len_at keep.tagged)) (led_inside spot here n (len_at keep.tagged) led is.3)) in
      subst (λ (s : Spot). ForSome (writes.end_of (writes.placed s put keep.tagged (location_in s n))) (WriteEnds spot word last)) (sym is.0)
      (subst (λ (p : ℕ). ForSome (writes.end_of (writes.placed spot p keep.tagged (location_in spot n))) (WriteEnds spot word last)) (sym is.1) none)
  write_over earlier (write.Field m) n is on = λ end so.
      write_so (step_of writes.asks_of earlier (write.Field m) n) end
      (placed_ends IsApproach rest_writes.asks_of rest_writes.fed_of rest_writes.end_of (λ here. IsWriteFor here word) (λ here. WriteEndsFor here word) (λ here. write_keeps here word) (λ here. write_ends here word) spot earlier m n is on end so)

  -- a write of this field ends only so
  pub write_cause_of : EndsOnlyFor writes.asks_of writes.fed_of writes.end_of (WriteEnds spot word) (write.Header spot word)
  write_cause_of = ends_only_for writes.asks_of writes.fed_of writes.end_of (WriteEnds spot word) (IsWrite spot word) write_goes write_over (write.Header spot word) (refl, refl, refl)
