-- Why a write ends as it does, whatever others do meanwhile.
use Rattle.std.specs.Prelude.{◌≡◌, ◌≢◌, ℕ, ◌⊎◌, ◌==◌, nat_lt, if◌then◌else◌, Bool, true, false, List, [], ◌∷◌, ◌++◌, refl}
use Rattle.std.specs.Option.{ForSome}
use Rattle.std.proofs.Common.{sym, subst, ap, ◌∙◌, inl, inr, append-nil}
use Rattle.std.proofs.lemmas.Bool.{eqb-true, eqb-false}
use Rattle.call_steps.specs.declared.step.Step.TheVariants.{Load, Exchange, Ended}
use Rattle.call_steps.specs.Ending.{Taken, LastStep, EndsOnlyFor, up_to, step_of, ends_only_for}
use Rattle.wide_objects.specs.declared.wide_word.Status2.{Status2}
use Rattle.wide_objects.specs.declared.wide_word.Status2.TheVariants.{InOriginal, InWide, InCopy}
use Rattle.wide_objects.specs.WideWords.{wide_word_at}
use Rattle.barriers.specs.declared.spot.Spot.{Spot}
use Rattle.barriers.specs.declared.ends.TryRefusal.TheVariants as refusal
use Rattle.barriers.specs.declared.ends.WriteEnd.{WriteEnd}
use Rattle.barriers.specs.declared.ends.WriteEnd.TheVariants as write_end
use Rattle.barriers.specs.declared.plain_exchange.TriesLeft.{TriesLeft}
use Rattle.barriers.specs.declared.plain_exchange.TriesLeft.TheVariants.{Two, One, Zero}
use Rattle.barriers.specs.declared.write.WriteMachine.{WriteMachine}
use Rattle.barriers.specs.declared.write.WriteMachine.TheVariants as rest_write
use Rattle.barriers.specs.Causes.{LacksField, len_at, WriteEndsFor, IsWriteFor, write_keeps, write_ends}
use Rattle.barriers.specs.Writes as rest_writes
use Rattle.tagged_calls.specs.declared.placed.Placed.{Placed}
use Rattle.tagged_calls.specs.declared.placed.Placed.TheVariants as placed
use Rattle.tagged_calls.specs.Locations.{field_from, location_in}
use Rattle.tagged_calls.specs.Placeds.{placed_at}
use Rattle.tagged_calls.specs.TaggedCauses.{header_load, header_exchange, Leads, IsHeaderWay, EndsPlaced, IsPlacedFor, PlacedIs, placed_keeps, placed_ends, led_so, lacks, lacks_no_more, turned_so, led_inside}
use Rattle.stopless_copy.specs.declared.write.WideWrite.{WideWrite}
use Rattle.stopless_copy.specs.declared.write.StoplessWrite.{StoplessWrite}
use Rattle.stopless_copy.specs.declared.write.StoplessWrite.TheVariants as write
use Rattle.stopless_copy.specs.StoplessWrites as writes
use Rattle.stopless_copy.specs.WideSteps.{in_wide, address_at}
use Rattle.stopless_copy.specs.WideCauses.{status_in, LeadsWide, IsWideWay, HasTried, IsRaced, IsMade, IsCopied, IsLed, tried_once, tried_twice, first_so}

-- a write takes the place of any value
abbrev pub Any : ℕ → Type 0
Any word = Unit {0}

-- It has written as an object at rest is written, where the header led it, or the wide object led it to the copy; or it exchanged the wide word. It is raced
-- only at the wide word, and refused for want of the field only where the header that it loaded lacks it.
abbrev pub WriteEnds : Spot → ℕ → LastStep → WriteEnd → Type 0
WriteEnds spot word last write_end.Wrote = EndsPlaced (IsLed Any word) (λ here. WriteEndsFor here word) spot last write_end.Wrote ⊎ IsMade Any spot word last
WriteEnds spot word last (write_end.Refused (refusal.NoField len)) = LacksField spot last len
WriteEnds spot word last (write_end.Refused (refusal.Raced loaded found)) = IsRaced Any spot word last loaded found
WriteEnds spot word last (write_end.Refused why) = ⊥

-- it has ended at the wide word
abbrev IsOver : Placed WriteMachine → Type 0
IsOver (placed.Original (rest_write.Ended its put end)) = Unit {0}
IsOver m = ⊥

abbrev IsRests : Spot → ℕ → List Taken → Placed WriteMachine → Type 0
IsRests spot word earlier m = PlacedIs (IsLed Any word) (λ here. IsWriteFor here word) spot earlier m

-- after these steps the machine is a write of this field with this word
abbrev IsWrite : Spot → ℕ → List Taken → StoplessWrite → Type 0
IsWrite spot word earlier (write.Header its put) = (its ≡ spot) × (put ≡ word) × (earlier ≡ [])
IsWrite spot word earlier (write.Keep its put keep) = (its ≡ spot) × (put ≡ word) × (earlier ≡ header_load spot keep.tagged ∷ []) × (nat_lt spot.field (len_at keep.tagged) ≡ true)
IsWrite spot word earlier (write.Field m) = IsRests spot word earlier m ⊎ IsOver m
IsWrite spot word earlier (write.Wide its) = (its.spot ≡ spot) × (its.word ≡ word) × IsWideWay spot earlier its.wide
IsWrite spot word earlier (write.Try its wanted tries) = (its.spot ≡ spot) × (its.word ≡ word) × HasTried Any spot its.wide word wanted tries earlier
IsWrite spot word earlier (write.Address its) = (its.spot ≡ spot) × (its.word ≡ word) × IsCopied Any spot its.wide word earlier

module _ (spot : Spot) (word : ℕ) where
  abbrev Is : List Taken → StoplessWrite → Type 0
  Is = IsWrite spot word

  abbrev Ends : LastStep → WriteEnd → Type 0
  Ends = WriteEnds spot word

  -- ---- after the header

  abbrev written : ℕ → Spot → WriteMachine
  written n here = rest_writes.fed_of (rest_write.Header here word) n

  -- where the last header of this way leads
  module _ (n tagged : ℕ) (approach : List Taken) (way : (Says : ℕ → Type 0) → Says n → IsHeaderWay Says spot approach) where
    at_rest_is : IsRests spot word approach (placed_at (location_in spot n) spot (written tagged))
    at_rest_is = led_so (IsPlacedFor (IsLed Any word) (λ here. IsWriteFor here word) spot approach) spot n (written tagged) (λ here led. record {
      here = here;
      approach = approach;
      led = inl (way (λ w. Leads spot w here) led);
      header = tagged;
      rest = [];
      splits = sym (append-nil approach);
      is = write_keeps here word [] (rest_write.Header here word) tagged (refl, refl, refl);
    })

    placed_is : Is approach (writes.placed spot word tagged (location_in spot n))
    placed_is = first_so (Is approach) (writes.widened spot word) (writes.at_word spot word tagged) spot tagged n (λ wide led inside. (refl, refl, way (λ w. LeadsWide spot w wide) led)) (inl at_rest_is)

  loaded_way : (n : ℕ) (Says : ℕ → Type 0) → Says n → IsHeaderWay Says spot (header_load spot n ∷ [])
  loaded_way n Says so = inl (n, refl, so)

  turned_way : (tagged kept n : ℕ) (Says : ℕ → Type 0) → Says n → IsHeaderWay Says spot (header_load spot tagged ∷ header_exchange spot tagged kept n ∷ [])
  turned_way tagged kept n Says so = inr (tagged, kept, n, refl, so)

  header_is : (n : ℕ) → Is (header_load spot n ∷ []) (writes.turned spot word n (location_in spot n))
  header_is n =
      turned_so (Is (header_load spot n ∷ [])) (write.Keep spot word) (writes.placed spot word n) spot n
      (λ inside. (refl, refl, refl, inside)) (placed_is n n (header_load spot n ∷ []) (loaded_way n))

  -- ---- at the wide word

  module _ (its : WideWrite) (here : its.spot ≡ spot) (put : its.word ≡ word) where
    looked_is : (earlier : List Taken) (n : ℕ) → IsWideWay spot earlier its.wide → (status : Status2) → status_in n ≡ status → Is (earlier ++ record { step = Load its.wide.place; found = n } ∷ []) (writes.looked_by its n status)
    looked_is earlier n way InOriginal says = (here, put, inl (record { way = earlier; led = way; splits = refl }, ((λ e. let gone : InOriginal ≡ InCopy = sym says ∙ e in cc), (λ e. tt))))
    looked_is earlier n way InWide says = (here, put, inl (record { way = earlier; led = way; splits = refl }, ((λ e. let gone : InWide ≡ InCopy = sym says ∙ e in cc), (λ e. tt))))
    looked_is earlier n way InCopy says = (here, put, (n, says, inl (record { way = earlier; led = way; splits = refl })))

    -- after an exchange that wanted this
    module _ (earlier : List Taken) (wanted : ℕ) (tries : TriesLeft) (n : ℕ) (tried : HasTried Any spot its.wide word wanted tries earlier) where
      abbrev trial : LastStep
      trial = record { earlier = earlier; step = Exchange its.wide.place wanted (in_wide word); found = n }

      again_is : (tries : TriesLeft) → HasTried Any spot its.wide word wanted tries earlier → status_in n ≡ InWide → Is (up_to trial) (writes.again its wanted tries n)
      again_is Two tried says = (here, put, tried_once Any spot its.wide word wanted n earlier tried (says, tt))
      again_is One tried says = (here, put, tried_twice Any spot its.wide word wanted n earlier tried (says, tt))
      again_is Zero tried says = inr tt

      lost_is : (status : Status2) → status_in n ≡ status → Is (up_to trial) (writes.lost_by its wanted tries n status)
      lost_is InOriginal says = inr tt
      lost_is InWide says = again_is tries tried says
      lost_is InCopy says = (here, put, (n, says, inr (earlier, wanted, tries, tried, refl)))

      tried_is : (b : Bool) → Is (up_to trial) (if b then writes.over its.spot its.word write_end.Wrote else writes.lost its wanted tries n (wide_word_at n))
      tried_is true = inr tt
      tried_is false = lost_is (status_in n) refl

      again_ends : (tries : TriesLeft) → HasTried Any spot its.wide word wanted tries earlier → n ≢ wanted → status_in n ≡ InWide → ForSome (writes.end_of (writes.again its wanted tries n)) (Ends trial)
      again_ends Two tried other says end is = absurd cc
      again_ends One tried other says end is = absurd cc
      again_ends Zero tried other says end is =
          let same : write_end.Refused (refusal.Raced wanted n) ≡ end = cc in
          subst (Ends trial) same (inl (record { wide = its.wide; tried = tried; wants = refl; finds = refl; other = other; loaded_serves = tried.0; found_serves = (says, tt) }))

      lost_ends : (status : Status2) → n ≢ wanted → status_in n ≡ status → ForSome (writes.end_of (writes.lost_by its wanted tries n status)) (Ends trial)
      lost_ends InOriginal other says end is =
          let same : write_end.Refused (refusal.Raced wanted n) ≡ end = cc in
          subst (Ends trial) same (inr (record { wide = its.wide; tries = tries; tried = tried; wants = refl; finds = refl; other = other; says = says }))
      lost_ends InWide other says end is = again_ends tries tried other says end is
      lost_ends InCopy other says end is = absurd cc

      tried_ends : (b : Bool) → (n == wanted) ≡ b → ForSome (writes.end_of (if b then writes.over its.spot its.word write_end.Wrote else writes.lost its wanted tries n (wide_word_at n))) (Ends trial)
      tried_ends true e end is =
          let same : write_end.Wrote ≡ end = cc in
          let won : wanted ≡ n = sym (eqb-true n wanted e) in
          subst (Ends trial) same (inr (record { wide = its.wide; tries = tries; tried = subst (λ (w : ℕ). HasTried Any spot its.wide word w tries earlier) won tried; wants = ap (λ (w : ℕ). Exchange its.wide.place w (in_wide word)) won }))
      tried_ends false e end is = lost_ends (status_in n) (eqb-false n wanted e) refl end is

    address_is : (earlier : List Taken) (n : ℕ) → IsCopied Any spot its.wide word earlier
        → IsRests spot word (earlier ++ record { step = Load its.wide.at; found = n } ∷ []) (placed.Copy spot (rest_write.Field (field_from spot (address_at n)) word))
    address_is earlier n copied = record {
      here = field_from spot (address_at n);
      approach = earlier ++ record { step = Load its.wide.at; found = n } ∷ [];
      led = inr (record { wide = its.wide; before = earlier; copied = copied; found = n; splits = refl; at = refl });
      header = 0;
      rest = [];
      splits = sym (append-nil (earlier ++ record { step = Load its.wide.at; found = n } ∷ []));
      is = (refl, refl);
    }

  -- ---- each step

  over_is : (earlier : List Taken) (m : Placed WriteMachine) (n : ℕ) → IsOver m → Is earlier (writes.fed_of (write.Field m) n)
  over_is earlier (placed.Original (rest_write.Ended its put end)) n is = inr tt
  over_is earlier m n is = absurd is

  write_goes : (earlier : List Taken) (m : StoplessWrite) (n : ℕ) → Is earlier m → Is (up_to (step_of writes.asks_of earlier m n)) (writes.fed_of m n)
  write_goes earlier (write.Header its put) n is = rw (is.0, is.1, is.2) (header_is n)
  write_goes earlier (write.Keep its put keep) n is =
      rw (is.0, is.1, is.2) (placed_is n keep.tagged (header_load spot keep.tagged ∷ header_exchange spot keep.tagged keep.kept n ∷ []) (turned_way keep.tagged keep.kept n))
  write_goes earlier (write.Field m) n (inl is) =
      inl (placed_keeps (IsLed Any word) rest_writes.asks_of rest_writes.fed_of rest_writes.end_of (λ here. IsWriteFor here word) (λ here. WriteEndsFor here word) (λ here. write_keeps here word) (λ here. write_ends here word) spot earlier m n is)
  write_goes earlier (write.Field m) n (inr is) = over_is _ m n is
  write_goes earlier (write.Wide its) n is = looked_is its is.0 is.1 earlier n is.2 (status_in n) refl
  write_goes earlier (write.Try its wanted tries) n is =
      subst (λ (w : ℕ). Is (earlier ++ record { step = Exchange its.wide.place wanted (in_wide w); found = n } ∷ []) (writes.tried its wanted tries n)) (sym is.1)
      (tried_is its is.0 is.1 earlier wanted tries n is.2 (n == wanted))
  write_goes earlier (write.Address its) n is = rw (is.0, is.1) (inl (address_is its is.0 is.1 earlier n is.2))

  -- ---- each end

  -- the steps of its header end it only where the field is lacking
  write_first : (n : ℕ) (here : Spot) (b : Bool) → Leads spot n here → nat_lt here.field (len_at n) ≡ b
      → ForSome (rest_writes.end_of (if b then rest_write.Field here word else rest_write.Ended here word (write_end.Refused (refusal.NoField (len_at n))))) (Ends (record { earlier = []; step = Load spot.at; found = n }))
  write_first n here true led e end is = absurd cc
  write_first n here false led e end is =
      let none : write_end.Refused (refusal.NoField (len_at n)) ≡ end = cc in
      subst (Ends (record { earlier = []; step = Load spot.at; found = n })) none (lacks spot here n led e)

  write_none : (here : Spot) (len : ℕ) (For : WriteEnd → Type 0) (b : Bool) → b ≡ true → ForSome (rest_writes.end_of (if b then rest_write.Field here word else rest_write.Ended here word (write_end.Refused (refusal.NoField len)))) For
  write_none here len For true inside end is = absurd cc
  write_none here len For false inside end is = absurd cc

  header_ends : (n : ℕ) → ForSome (writes.end_of (writes.turned spot word n (location_in spot n))) (Ends (record { earlier = []; step = Load spot.at; found = n }))
  header_ends n =
      let last : LastStep = record { earlier = []; step = Load spot.at; found = n } in
      turned_so (λ m. ForSome (writes.end_of m) (Ends last)) (write.Keep spot word) (writes.placed spot word n) spot n (λ inside end so. absurd cc)
      (first_so (λ m. ForSome (writes.end_of m) (Ends last)) (writes.widened spot word) (writes.at_word spot word n) spot n n (λ wide led inside end so. absurd cc)
      (led_so (λ m. ForSome (rest_writes.end_of m) (Ends last)) spot n (written n) (λ here led. write_first n here (nat_lt here.field (len_at n)) led refl)))

  kept_ends : (last : LastStep) (tagged n : ℕ) → nat_lt spot.field (len_at tagged) ≡ true → ForSome (writes.end_of (writes.placed spot word tagged (location_in spot n))) (Ends last)
  kept_ends last tagged n inside =
      first_so (λ m. ForSome (writes.end_of m) (Ends last)) (writes.widened spot word) (writes.at_word spot word tagged) spot tagged n (λ wide led inside end so. absurd cc)
      (led_so (λ m. ForSome (rest_writes.end_of m) (Ends last)) spot n (written tagged)
      (λ here led. write_none here (len_at tagged) (Ends last) (nat_lt here.field (len_at tagged)) (led_inside spot here n (len_at tagged) led inside)))

  write_so : (last : LastStep) (end : WriteEnd) → EndsPlaced (IsLed Any word) (λ here. WriteEndsFor here word) spot last end → Ends last end
  write_so last write_end.Wrote so = inl so
  write_so last (write_end.Refused (refusal.NoField len)) so = absurd (lacks_no_more so.here last (header_load so.here so.header) so.rest len so.so)
  write_so last (write_end.Refused refusal.NotLink) so = so.so
  write_so last (write_end.Refused (refusal.Raced loaded found)) so = absurd so.so
  write_so last (write_end.Refused (refusal.Busy cycle mark)) so = so.so

  over_ends : (last : LastStep) (m : Placed WriteMachine) (n : ℕ) → IsOver m → writes.asks_of (write.Field m) ≢ Ended → ForSome (writes.end_of (writes.fed_of (write.Field m) n)) (Ends last)
  over_ends last (placed.Original (rest_write.Ended its put end)) n is on = absurd (on refl)
  over_ends last m n is on = absurd is

  write_over : (earlier : List Taken) (m : StoplessWrite) (n : ℕ) → Is earlier m → writes.asks_of m ≢ Ended → ForSome (writes.end_of (writes.fed_of m n)) (Ends (step_of writes.asks_of earlier m n))
  write_over earlier (write.Header its put) n is on = rw (is.0, is.1, is.2) (header_ends n)
  write_over earlier (write.Keep its put keep) n is on =
      let last : LastStep = step_of writes.asks_of earlier (write.Keep its put keep) n in
      subst (λ (s : Spot). ForSome (writes.end_of (writes.placed s put keep.tagged (location_in s n))) (Ends last)) (sym is.0)
      (subst (λ (p : ℕ). ForSome (writes.end_of (writes.placed spot p keep.tagged (location_in spot n))) (Ends last)) (sym is.1) (kept_ends last keep.tagged n is.3))
  write_over earlier (write.Field m) n (inl is) on = λ end so.
      write_so (step_of writes.asks_of earlier (write.Field m) n) end
      (placed_ends (IsLed Any word) rest_writes.asks_of rest_writes.fed_of rest_writes.end_of (λ here. IsWriteFor here word) (λ here. WriteEndsFor here word) (λ here. write_keeps here word) (λ here. write_ends here word) spot earlier m n is on end so)
  write_over earlier (write.Field m) n (inr is) on = over_ends _ m n is on
  write_over earlier (write.Wide its) n is on = looked_ends its n (status_in n)
    where
      looked_ends : (its : WideWrite) (n : ℕ) (status : Status2) → ForSome (writes.end_of (writes.looked_by its n status)) (Ends (step_of writes.asks_of earlier (write.Wide its) n))
      looked_ends its n InOriginal end so = absurd cc
      looked_ends its n InWide end so = absurd cc
      looked_ends its n InCopy end so = absurd cc
  write_over earlier (write.Try its wanted tries) n is on =
      subst (λ (w : ℕ). ForSome (writes.end_of (writes.tried its wanted tries n)) (Ends (record { earlier = earlier; step = Exchange its.wide.place wanted (in_wide w); found = n }))) (sym is.1)
      (tried_ends its is.0 is.1 earlier wanted tries n is.2 (n == wanted) refl)
  write_over earlier (write.Address its) n is on = λ end so. absurd cc

  -- a write of this field ends only so
  pub write_cause_of : EndsOnlyFor writes.asks_of writes.fed_of writes.end_of Ends (write.Header spot word)
  write_cause_of = ends_only_for writes.asks_of writes.fed_of writes.end_of Ends Is write_goes write_over (write.Header spot word) (refl, refl, refl)
