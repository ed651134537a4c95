-- Why a read ends as it does, whatever others do meanwhile.
use Rattle.std.specs.Prelude.{◌≡◌, ◌≢◌, ℕ, ◌⊎◌, nat_lt, if◌then◌else◌, Bool, true, false, List, [], ◌∷◌, ◌++◌, refl}
use Rattle.std.specs.Option.{ForSome}
use Rattle.std.proofs.Common.{sym, subst, inl, inr, append-nil}
use Rattle.call_steps.specs.declared.step.Step.TheVariants.{Load, Ended}
use Rattle.call_steps.specs.Ending.{Taken, LastStep, EndsOnlyFor, up_to, step_of, ends_only_for}
use Rattle.heap_words.specs.FieldWords.{field_at}
use Rattle.wide_objects.specs.declared.wide_word.Status2.{Status2}
use Rattle.wide_objects.specs.declared.wide_word.Status2.TheVariants.{InOriginal, InWide, InCopy}
use Rattle.handshakes.specs.declared.phase_word.Phase.{Phase}
use Rattle.handshakes.specs.Follows as follows
use Rattle.barriers.specs.declared.spot.Spot.{Spot}
use Rattle.barriers.specs.declared.ends.ReadEnd.{ReadEnd}
use Rattle.barriers.specs.declared.ends.ReadEnd.TheVariants as read_end
use Rattle.barriers.specs.declared.read.ReadMachine.{ReadMachine}
use Rattle.barriers.specs.declared.read.ReadMachine.TheVariants as rest_read
use Rattle.barriers.specs.FollowCauses.{IsGiven, IsFollowing, follow_begins, found_at_once, follow_ends, followed, for_mapped}
use Rattle.barriers.specs.Causes.{LacksField, len_at, ReadEndsFor, IsReadFor, read_keeps, read_ends}
use Rattle.barriers.specs.Reads as rest_reads
use Rattle.tagged_calls.specs.declared.placed.Placed.{Placed}
use Rattle.tagged_calls.specs.declared.placed.Placed.TheVariants as placed
use Rattle.tagged_calls.specs.Locations.{field_from, location_in}
use Rattle.tagged_calls.specs.Placeds.{placed_at}
use Rattle.tagged_calls.specs.TaggedCauses.{header_load, Leads, EndsPlaced, IsPlacedFor, PlacedIs, placed_keeps, placed_ends, led_so, lacks, lacks_no_more}
use Rattle.stopless_copy.specs.declared.read.WideRead.{WideRead}
use Rattle.stopless_copy.specs.declared.read.StoplessRead.{StoplessRead}
use Rattle.stopless_copy.specs.declared.read.StoplessRead.TheVariants as read
use Rattle.stopless_copy.specs.StoplessReads as reads
use Rattle.stopless_copy.specs.WideSteps.{address_at}
use Rattle.stopless_copy.specs.WideCauses.{status_in, word_in, wide_field, IsWideWay, IsAtWord, IsCopied, IsLed, first_so}

-- a read exchanges no word
abbrev pub Never : ℕ → Type 0
Never word = ⊥

-- the step loaded the wide word that the header told, which had the value
abbrev pub LoadsWide : Spot → LastStep → Type 0
LoadsWide spot last = (wide : Spot) × IsWideWay spot last.earlier wide × (last.step ≡ Load wide.place) × (status_in last.found ≡ InWide)

-- the step loaded the word in the original, directly after the load of the wide word, which said that the value is there
abbrev pub LoadsOriginal : Spot → LastStep → Type 0
LoadsOriginal spot last = (wide : Spot) × (word : ℕ) × IsAtWord spot wide last.earlier word × (status_in word ≡ InOriginal) × (last.step ≡ Load spot.place)

abbrev pub LooksWide : Spot → LastStep → Type 0
LooksWide spot last = LoadsWide spot last ⊎ LoadsOriginal spot last

-- It gives what a read of an object at rest gives, where the header led it, or the wide object led it to the copy; or what it found at the wide object. And
-- no value only where the header that it loaded lacks the field.
abbrev pub ReadEnds : Spot → Phase → LastStep → ReadEnd → Type 0
ReadEnds spot phase last (read_end.Got held) = EndsPlaced (IsLed Never 0) (λ here. ReadEndsFor here phase) spot last (read_end.Got held) ⊎ IsGiven (LooksWide spot) phase last held
ReadEnds spot phase last (read_end.NoField len) = LacksField spot last len

-- it follows what it found at the wide object
abbrev Follows : Spot → Phase → List Taken → Placed ReadMachine → Type 0
Follows spot phase earlier (placed.Original (rest_read.Follow its f)) = IsFollowing (LooksWide spot) phase earlier f
Follows spot phase earlier m = ⊥

abbrev IsRests : Spot → Phase → List Taken → Placed ReadMachine → Type 0
IsRests spot phase earlier m = PlacedIs (IsLed Never 0) (λ here. IsReadFor here phase) spot earlier m

-- after these steps the machine is a read of this field in this phase
abbrev IsRead : Spot → Phase → List Taken → StoplessRead → Type 0
IsRead spot phase earlier (read.Header its in_phase) = (its ≡ spot) × (in_phase ≡ phase) × (earlier ≡ [])
IsRead spot phase earlier (read.Field m) = IsRests spot phase earlier m ⊎ Follows spot phase earlier m
IsRead spot phase earlier (read.Wide its) = (its.spot ≡ spot) × (its.phase ≡ phase) × IsWideWay spot earlier its.wide
IsRead spot phase earlier (read.Original its) = (its.spot ≡ spot) × (its.phase ≡ phase) × ((word : ℕ) × IsAtWord spot its.wide earlier word × (status_in word ≡ InOriginal))
IsRead spot phase earlier (read.Address its) = (its.spot ≡ spot) × (its.phase ≡ phase) × IsCopied Never spot its.wide 0 earlier

module _ (spot : Spot) (phase : Phase) where
  abbrev Is : List Taken → StoplessRead → Type 0
  Is = IsRead spot phase

  abbrev Ends : LastStep → ReadEnd → Type 0
  Ends = ReadEnds spot phase

  -- ---- after the header

  read_first : (n : ℕ) → IsRests spot phase (header_load spot n ∷ []) (placed_at (location_in spot n) spot (λ here. rest_reads.fed_of (rest_read.Header here phase) n))
  read_first n = led_so (IsPlacedFor (IsLed Never 0) (λ here. IsReadFor here phase) spot (header_load spot n ∷ [])) spot n (λ here. rest_reads.fed_of (rest_read.Header here phase) n) (λ here led. record {
    here = here;
    approach = header_load spot n ∷ [];
    led = inl (inl (n, refl, led));
    header = n;
    rest = [];
    splits = refl;
    is = read_keeps here phase [] (rest_read.Header here phase) n (refl, refl, refl);
  })

  header_goes : (n : ℕ) → Is (header_load spot n ∷ []) (reads.placed spot phase n (location_in spot n))
  header_goes n = first_so (Is (header_load spot n ∷ [])) (reads.widened spot phase) (reads.at_word spot phase n) spot n n (λ wide led inside. (refl, refl, inl (n, refl, led))) (inl (read_first n))

  -- ---- after a look at the wide object

  -- what it found so is the field's word
  module _ (last : LastStep) (look : LooksWide spot last) (word : ℕ) (same : field_at word ≡ field_at last.found) where
    given_is : Is (up_to last) (reads.given spot phase word)
    given_is = inr (follow_begins (LooksWide spot) last look phase (field_at word) same)

    given_ends : ForSome (reads.end_of (reads.given spot phase word)) (Ends last)
    given_ends =
        let found = found_at_once (LooksWide spot) last look phase (field_at word) same in
        for_mapped (λ e. read_end.Got e.word) (follows.end_of (follows.follow_of phase (field_at word))) (Ends last) (λ e is. inr (inl (found e is)))

  -- by the status that it found
  module _ (earlier : List Taken) (its : WideRead) (n : ℕ) (way : IsWideWay spot earlier its.wide) (here : its.spot ≡ spot) (in_phase : its.phase ≡ phase) where
    abbrev look : LastStep
    look = record { earlier = earlier; step = Load its.wide.place; found = n }

    abbrev at : IsAtWord spot its.wide (up_to look) n
    at = record { way = earlier; led = way; splits = refl }

    looked_is : (status : Status2) → status_in n ≡ status → Is (up_to look) (reads.looked_by its status (word_in n))
    looked_is InOriginal says = (here, in_phase, (n, at, says))
    looked_is InWide says = rw (here, in_phase) (given_is look (inl (its.wide, way, refl, says)) (word_in n) (wide_field n says))
    looked_is InCopy says = (here, in_phase, (n, says, inl at))

    looked_ends : (status : Status2) → status_in n ≡ status → ForSome (reads.end_of (reads.looked_by its status (word_in n))) (Ends look)
    looked_ends InOriginal says = λ end is. absurd cc
    looked_ends InWide says = rw in_phase (given_ends look (inl (its.wide, way, refl, says)) (word_in n) (wide_field n says))
    looked_ends InCopy says = λ end is. absurd cc

  address_is : (earlier : List Taken) (its : WideRead) (n : ℕ) → IsCopied Never spot its.wide 0 earlier
      → IsRests spot phase (earlier ++ record { step = Load its.wide.at; found = n } ∷ []) (placed.Copy spot (rest_read.Field (field_from spot (address_at n)) phase))
  address_is earlier its n copied = record {
    here = field_from spot (address_at n);
    approach = earlier ++ record { step = Load its.wide.at; found = n } ∷ [];
    led = inr (record { wide = its.wide; before = earlier; copied = copied; found = n; splits = refl; at = refl });
    header = 0;
    rest = [];
    splits = sym (append-nil (earlier ++ record { step = Load its.wide.at; found = n } ∷ []));
    is = (refl, refl);
  }

  -- ---- each step

  follow_is : (earlier later : List Taken) (m : Placed ReadMachine) (n : ℕ) → Follows spot phase earlier m → Is later (reads.fed_of (read.Field m) n)
  follow_is earlier later (placed.Original (rest_read.Follow its f)) n is = inr (follow_ends (LooksWide spot) phase earlier later f n is)
  follow_is earlier later m n is = absurd is

  read_goes : (earlier : List Taken) (m : StoplessRead) (n : ℕ) → Is earlier m → Is (up_to (step_of reads.asks_of earlier m n)) (reads.fed_of m n)
  read_goes earlier (read.Header its in_phase) n is =
      let begun : Is ([] ++ header_load spot n ∷ []) (reads.fed_of (read.Header spot phase) n) = header_goes n in
      rw (is.0, is.1, is.2) begun
  read_goes earlier (read.Field m) n (inl is) =
      inl (placed_keeps (IsLed Never 0) rest_reads.asks_of rest_reads.fed_of rest_reads.end_of (λ here. IsReadFor here phase) (λ here. ReadEndsFor here phase) (λ here. read_keeps here phase) (λ here. read_ends here phase) spot earlier m n is)
  read_goes earlier (read.Field m) n (inr is) = follow_is earlier _ m n is
  read_goes earlier (read.Wide its) n is = looked_is earlier its n is.2 is.0 is.1 (status_in n) refl
  read_goes earlier (read.Original its) n is =
      let before = is.2 in
      let look : LastStep = record { earlier = earlier; step = Load spot.place; found = n } in
      rw (is.0, is.1) (given_is look (inr (its.wide, before.0, before.1, before.2, refl)) n refl)
  read_goes earlier (read.Address its) n is = rw (is.0, is.1) (inl (address_is earlier its n is.2))

  -- ---- each end

  first_read : (n : ℕ) (here : Spot) (b : Bool) → Leads spot n here → nat_lt here.field (len_at n) ≡ b
      → ForSome (rest_reads.end_of (if b then rest_read.Field here phase else rest_read.NoField here (len_at n))) (Ends (record { earlier = []; step = Load spot.at; found = n }))
  first_read n here true led e end is = absurd cc
  first_read n here false led e end is =
      let none : read_end.NoField (len_at n) ≡ end = cc in
      subst (Ends (record { earlier = []; step = Load spot.at; found = n })) none (lacks spot here n led e)

  header_ends : (n : ℕ) → ForSome (reads.end_of (reads.placed spot phase n (location_in spot n))) (Ends (record { earlier = []; step = Load spot.at; found = n }))
  header_ends n =
      let last : LastStep = record { earlier = []; step = Load spot.at; found = n } in
      first_so (λ m. ForSome (reads.end_of m) (Ends last)) (reads.widened spot phase) (reads.at_word spot phase n) spot n n (λ wide led inside end so. absurd cc)
      (led_so (λ m. ForSome (rest_reads.end_of m) (Ends last)) spot n (λ here. rest_reads.fed_of (rest_read.Header here phase) n) (λ here led. first_read n here (nat_lt here.field (len_at n)) led refl))

  read_so : (last : LastStep) (end : ReadEnd) → EndsPlaced (IsLed Never 0) (λ here. ReadEndsFor here phase) spot last end → Ends last end
  read_so last (read_end.Got held) so = inl so
  read_so last (read_end.NoField len) so = absurd (lacks_no_more so.here last (header_load so.here so.header) so.rest len so.so)

  followed_ends : (earlier : List Taken) (m : Placed ReadMachine) (n : ℕ) → Follows spot phase earlier m → reads.asks_of (read.Field m) ≢ Ended → ForSome (reads.end_of (reads.fed_of (read.Field m) n)) (Ends (step_of reads.asks_of earlier (read.Field m) n))
  followed_ends earlier (placed.Original (rest_read.Follow its f)) n is on =
      let gone = followed (LooksWide spot) phase earlier f n is on in
      for_mapped (λ e. read_end.Got e.word) (follows.end_of (follows.fed_of f n)) (Ends (step_of follows.asks_of earlier f n)) (λ e is. inr (inr (gone e is)))
  followed_ends earlier m n is on = absurd is

  read_over : (earlier : List Taken) (m : StoplessRead) (n : ℕ) → Is earlier m → reads.asks_of m ≢ Ended → ForSome (reads.end_of (reads.fed_of m n)) (Ends (step_of reads.asks_of earlier m n))
  read_over earlier (read.Header its in_phase) n is on = rw (is.0, is.1, is.2) (header_ends n)
  read_over earlier (read.Field m) n (inl is) on = λ end so.
      read_so (step_of reads.asks_of earlier (read.Field m) n) end
      (placed_ends (IsLed Never 0) rest_reads.asks_of rest_reads.fed_of rest_reads.end_of (λ here. IsReadFor here phase) (λ here. ReadEndsFor here phase) (λ here. read_keeps here phase) (λ here. read_ends here phase) spot earlier m n is on end so)
  read_over earlier (read.Field m) n (inr is) on = followed_ends earlier m n is on
  read_over earlier (read.Wide its) n is on = looked_ends earlier its n is.2 is.0 is.1 (status_in n) refl
  read_over earlier (read.Original its) n is on =
      let before = is.2 in
      let look : LastStep = record { earlier = earlier; step = Load spot.place; found = n } in
      rw (is.0, is.1) (given_ends look (inr (its.wide, before.0, before.1, before.2, refl)) n refl)
  read_over earlier (read.Address its) n is on = λ end so. absurd cc

  -- a read of this field ends only so
  pub read_cause_of : EndsOnlyFor reads.asks_of reads.fed_of reads.end_of Ends (read.Header spot phase)
  read_cause_of = ends_only_for reads.asks_of reads.fed_of reads.end_of Ends Is read_goes read_over (read.Header spot phase) (refl, refl, refl)
