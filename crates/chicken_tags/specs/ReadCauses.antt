-- Why a read ends as it does, whatever others do meanwhile.
use Rattle.std.specs.Prelude.{◌≡◌, ◌≢◌, ℕ, nat_lt, if◌then◌else◌, Bool, true, false, List, [], ◌∷◌, ◌++◌, refl}
use Rattle.std.specs.Option.{ForSome}
use Rattle.std.proofs.Common.{subst, inl}
use Rattle.call_steps.specs.declared.step.Step.TheVariants.{Load, Ended}
use Rattle.call_steps.specs.Ending.{Taken, LastStep, EndsOnlyFor, up_to, step_of, ends_only_for}
use Rattle.handshakes.specs.declared.phase_word.Phase.{Phase}
use Rattle.barriers.specs.declared.spot.Spot.{Spot}
use Rattle.barriers.specs.declared.ends.ReadEnd.{ReadEnd}
use Rattle.barriers.specs.declared.ends.ReadEnd.TheVariants as read_end
use Rattle.barriers.specs.declared.read.ReadMachine.TheVariants as rest_read
use Rattle.barriers.specs.Causes.{LacksField, len_at, ReadEndsFor, IsReadFor, read_keeps, read_ends}
use Rattle.barriers.specs.Reads as rest_reads
use Rattle.tagged_calls.specs.Locations.{location_in}
use Rattle.tagged_calls.specs.Placeds.{placed_at}
use Rattle.tagged_calls.specs.TaggedCauses.{header_load, Leads, IsApproach, EndsPlaced, IsPlacedFor, PlacedIs, placed_keeps, placed_ends, led_so, lacks, lacks_no_more}
use Rattle.chicken_tags.specs.declared.read.ChickenRead.{ChickenRead}
use Rattle.chicken_tags.specs.declared.read.ChickenRead.TheVariants as read
use Rattle.chicken_tags.specs.ChickenReads as reads

-- ---- a read

-- it gives what a read of an object at rest gives, where the header led it; and no value only where the header that it loaded lacks the field
abbrev pub ReadEnds : Spot → Phase → LastStep → ReadEnd → Type 0
ReadEnds spot phase last (read_end.Got held) = EndsPlaced IsApproach (λ here. ReadEndsFor here phase) spot last (read_end.Got held)
ReadEnds spot phase last (read_end.NoField len) = LacksField spot last len

-- after these steps the machine is a read of this field in this phase
abbrev IsRead : Spot → Phase → List Taken → ChickenRead → Type 0
IsRead spot phase earlier (read.Header its in_phase) = (its ≡ spot) × (in_phase ≡ phase) × (earlier ≡ [])
IsRead spot phase earlier (read.Field m) = PlacedIs IsApproach (λ here. IsReadFor here phase) spot earlier m

module _ (spot : Spot) (phase : Phase) where
  read_first : (n : ℕ) → PlacedIs IsApproach (λ here. IsReadFor here phase) spot (header_load spot n ∷ []) (placed_at (location_in spot n) spot (λ here. rest_reads.fed_of (rest_read.Header here phase) n))
  read_first n = led_so (IsPlacedFor IsApproach (λ here. IsReadFor here phase) spot (header_load spot n ∷ [])) spot n (λ here. rest_reads.fed_of (rest_read.Header here phase) n) (λ here led. record {
    here = here;
    approach = header_load spot n ∷ [];
    led = inl (n, refl, led);
    header = n;
    rest = [];
    splits = refl;
    is = read_keeps here phase [] (rest_read.Header here phase) n (refl, refl, refl);
  })

  read_goes : (earlier : List Taken) (m : ChickenRead) (n : ℕ) → IsRead spot phase earlier m → IsRead spot phase (up_to (step_of reads.asks_of earlier m n)) (reads.fed_of m n)
  read_goes earlier (read.Header its in_phase) n is =
      let begun : IsRead spot phase ([] ++ header_load spot n ∷ []) (reads.fed_of (read.Header spot phase) n) = read_first n in
      rw (is.0, is.1, is.2) begun
  read_goes earlier (read.Field m) n is =
      placed_keeps IsApproach rest_reads.asks_of rest_reads.fed_of rest_reads.end_of (λ here. IsReadFor here phase) (λ here. ReadEndsFor here phase) (λ here. read_keeps here phase) (λ here. read_ends here phase) spot earlier m n is

  first_read : (n : ℕ) (here : Spot) (b : Bool) → Leads spot n here → nat_lt here.field (len_at n) ≡ b
      → ForSome (rest_reads.end_of (if b then rest_read.Field here phase else rest_read.NoField here (len_at n))) (ReadEnds spot phase (record { earlier = []; step = Load spot.at; found = n }))
  first_read n here true led e end is = absurd cc
  first_read n here false led e end is =
      let none : read_end.NoField (len_at n) ≡ end = cc in
      subst (ReadEnds spot phase (record { earlier = []; step = Load spot.at; found = n })) none (lacks spot here n led e)

  read_so : (last : LastStep) (end : ReadEnd) → EndsPlaced IsApproach (λ here. ReadEndsFor here phase) spot last end → ReadEnds spot phase last end
  read_so last (read_end.Got held) so = so
  read_so last (read_end.NoField len) so = absurd (lacks_no_more so.here last (header_load so.here so.header) so.rest len so.so)

  read_over : (earlier : List Taken) (m : ChickenRead) (n : ℕ) → IsRead spot phase earlier m → reads.asks_of m ≢ Ended → ForSome (reads.end_of (reads.fed_of m n)) (ReadEnds spot phase (step_of reads.asks_of earlier m n))
  read_over earlier (read.Header its in_phase) n is on =
      let first : ForSome (reads.end_of (reads.fed_of (read.Header spot phase) n)) (ReadEnds spot phase (record { earlier = []; step = Load spot.at; found = n })) =
      led_so (λ m. ForSome (rest_reads.end_of m) (ReadEnds spot phase (record { earlier = []; step = Load spot.at; found = n }))) spot n (λ here. rest_reads.fed_of (rest_read.Header here phase) n)
      (λ here led. first_read n here (nat_lt here.field (len_at n)) led refl) in
      rw (is.0, is.1, is.2) first
  read_over earlier (read.Field m) n is on = λ end so.
      read_so (step_of reads.asks_of earlier (read.Field m) n) end
      (placed_ends IsApproach rest_reads.asks_of rest_reads.fed_of rest_reads.end_of (λ here. IsReadFor here phase) (λ here. ReadEndsFor here phase) (λ here. read_keeps here phase) (λ here. read_ends here phase) spot earlier m n is on end so)

  -- a read of this field ends only so
  pub read_cause_of : EndsOnlyFor reads.asks_of reads.fed_of reads.end_of (ReadEnds spot phase) (read.Header spot phase)
  read_cause_of = ends_only_for reads.asks_of reads.fed_of reads.end_of (ReadEnds spot phase) (IsRead spot phase) read_goes read_over (read.Header spot phase) (refl, refl, refl)
