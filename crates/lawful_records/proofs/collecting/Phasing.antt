-- The collector's steps from one cycle to the next, where nothing is on its way by a mark.
use Rattle.std.proofs.Common.{◌≡◌, ◌≢◌, ℕ, ◌<◌, Bool, true, false, refl, Option, Some, None}
use Rattle.object_headers.specs.Changes.{is_clover}
use Rattle.heap_words.specs.declared.field_word.FieldWord.{FieldWord}
use Rattle.heap_words.specs.declared.field_word.FieldWord.TheVariants.{Num}
use Rattle.barriers.specs.States.{IsLive}
use Rattle.barriers.specs.Stances.{Stance, Retired, Free}
use Rattle.barriers.specs.Spaces.{Space, here, place_word, copy_word, is_mark}
use Rattle.barriers.specs.Cycles.{Told, Cycle, Side, Phasing, Announce, Reach, Draw, Clears, phased, IsMoving, IsTold, IsSet, MayTurn, Handshaken}
use Rattle.barriers.specs.Knowns.{Known}
use Rattle.barriers.specs.Kits.{Kit}
use Rattle.barriers.specs.Protocols.{Protocol}
use Rattle.barriers.specs.ProtocolLaws.{ProtocolLaws}
use Rattle.barriers.specs.CycleLaws.{CycleLaws, MovingLaws}
use Rattle.barriers.specs.Objects.{AreObjects, IsSide, IsCall}
use Rattle.barriers.proofs.objects.Phases.{IsPhasing, MayPass, phase_objects, phase_side, phase_call}

-- a cycle of which words of moved originals may be read
abbrev pub cycle_at : Stance → Told → Option FieldWord → Bool → Cycle
cycle_at phase told mark clear = record { late = true; phase = phase; told = told; mark = mark; clear = clear }

module _ {R W E M : Type 0} (kit : Kit R W E M) (L : ProtocolLaws kit.protocol) (C : CycleLaws kit.protocol) (s : Space) where
  abbrev P : Protocol
  P = kit.protocol

  -- what a turn from one cycle to another makes of a pass
  pub record PassGoes (c d : Cycle) (side : Side) : Type 0 where
    pub side_on : IsSide P c s side → IsSide P d s side
    pub call_on : (k : Known) → IsCall P c s side k → IsCall P d s side k

  goes_through : (b c d : Cycle) (side : Side) → PassGoes b c side → PassGoes c d side → PassGoes b d side
  goes_through b c d side first then = record { side_on = λ is. then.side_on (first.side_on is); call_on = λ k is. then.call_on k (first.call_on k is) }

  pub goes_same : (c : Cycle) (side : Side) → PassGoes c c side
  goes_same c side = record { side_on = λ is. is; call_on = λ k is. is }

  -- a running pass fits the cycle
  abbrev pub Fits : Cycle → Side → Type 0
  Fits c side = side.acked ≢ Retired → Handshaken c side

  step_goes : (c : Cycle) (objects : AreObjects P c s) (e : Phasing) (is : IsPhasing P c s e) → (phased e c).late ≡ c.late → (side : Side) → (side.acked ≢ Retired → MayTurn c side e) → Fits (phased e c) side → PassGoes c (phased e c) side
  step_goes c objects e is late side turns fits =
      let may : side.acked ≢ Retired → MayPass P c side e = λ runs. record { turn = turns runs; fits = C.fits_by (phased e c) side (fits runs) } in
      record {
        side_on = λ was. phase_side P L c s objects e is side was may;
        call_on = λ k was. phase_call P L c s objects e is side k was may (λ z at. rw late (was.counts z at));
      }

  module _ (resting : (a : ℕ) → IsMoving (s.state a) → ⊥) where
    -- ---- who has acknowledged the last Copy word

    module _ (phase : Stance) (told : Told) (mark : Option FieldWord) (clear : Bool) (tells : Told) (objects : AreObjects P (cycle_at phase told mark clear) s) where
      reaches : IsPhasing P (cycle_at phase told mark clear) s (Reach tells)
      reaches = record { kind = C.reach tells; go = tt; fields = λ a f live lt. resting a; number = objects.number; counts = λ a live counts. counts }

      pub reach_objects : AreObjects P (cycle_at phase tells mark clear) s
      reach_objects = phase_objects P L (cycle_at phase told mark clear) s objects (Reach tells) reaches

      pub reach_goes : (side : Side) → Fits (cycle_at phase tells mark clear) side → PassGoes (cycle_at phase told mark clear) (cycle_at phase tells mark clear) side
      reach_goes side fits = step_goes (cycle_at phase told mark clear) objects (Reach tells) reaches refl side (λ runs. tt) fits

    -- ---- Free is to be announced after a search that ended clear

    module _ (phase : Stance) (told : Told) (mark : Option FieldWord) (objects : AreObjects P (cycle_at phase told mark true) s) where
      unclears : IsPhasing P (cycle_at phase told mark true) s (Clears false)
      unclears = record { kind = C.unclear (cycle_at phase told mark true) objects.right refl; go = tt; fields = λ a f live lt. resting a; number = objects.number; counts = λ a live counts. counts }

      unclear_objects : AreObjects P (cycle_at phase told mark false) s
      unclear_objects = phase_objects P L (cycle_at phase told mark true) s objects (Clears false) unclears

      unclear_goes : (side : Side) → Fits (cycle_at phase told mark false) side → PassGoes (cycle_at phase told mark true) (cycle_at phase told mark false) side
      unclear_goes side fits = step_goes (cycle_at phase told mark true) objects (Clears false) unclears refl side (λ runs. tt) fits

    -- ---- a phase is announced

    module _ (phase : Stance) (told : Told) (mark : Option FieldWord) (clear : Bool) (stance : Stance) (ends : stance ≡ Free → clear ≡ false) (objects : AreObjects P (cycle_at phase told mark clear) s) where
      announces : IsPhasing P (cycle_at phase told mark clear) s (Announce stance)
      announces = record { kind = C.announce stance; go = ends; fields = λ a f live lt. ends; number = objects.number; counts = λ a live counts. counts }

      says_objects : AreObjects P (cycle_at stance told mark clear) s
      says_objects = phase_objects P L (cycle_at phase told mark clear) s objects (Announce stance) announces

      says_goes : (side : Side) → (side.acked ≢ Retired → phase ≡ Free → side.own ≡ None) → Fits (cycle_at stance told mark clear) side → PassGoes (cycle_at phase told mark clear) (cycle_at stance told mark clear) side
      says_goes side leaves fits = step_goes (cycle_at phase told mark clear) objects (Announce stance) announces refl side leaves fits

    -- ---- all of an announcement: whether a search has ended clear, the phase, and who is told

    -- a search ends clear by no announcement, and Free ends that it has
    abbrev pub Ends : Bool → Bool → Stance → Type 0
    Ends before after stance = (after ≡ true → before ≡ true) × (stance ≡ Free → after ≡ false)

    module _ (phase stance : Stance) (told tells : Told) (mark : Option FieldWord) where
      announce_on : (clear : Bool) → (stance ≡ Free → clear ≡ false) → AreObjects P (cycle_at phase told mark clear) s → AreObjects P (cycle_at stance tells mark clear) s
      announce_on clear ends objects = reach_objects stance told mark clear tells (says_objects phase told mark clear stance ends objects)

      pub announce_objects : (before after : Bool) → Ends before after stance → AreObjects P (cycle_at phase told mark before) s → AreObjects P (cycle_at stance tells mark after) s
      announce_objects true true ends objects = announce_on true ends.1 objects
      announce_objects false false ends objects = announce_on false ends.1 objects
      announce_objects true false ends objects = announce_on false ends.1 (unclear_objects phase told mark objects)
      announce_objects false true ends objects = absurd (let no = ends.0 refl in cc no)

      module _ (side : Side) (leaves : side.acked ≢ Retired → phase ≡ Free → side.own ≡ None) where
        -- it fits the cycle in between
        between : (clear less : Bool) → (less ≡ true → clear ≡ true) → (p : Stance) → Fits (cycle_at p told mark clear) side → Fits (cycle_at p told mark less) side
        between clear less fewer p fits runs = let is = fits runs in record { told = is.told; own = is.own; clear = λ e. is.clear (fewer e) }

        said_fits : (clear : Bool) → Fits (cycle_at phase told mark clear) side → Fits (cycle_at stance told mark clear) side
        said_fits clear fits runs = let is = fits runs in record { told = is.told; own = is.own; clear = is.clear }

        goes_on : (clear : Bool) → (stance ≡ Free → clear ≡ false) → AreObjects P (cycle_at phase told mark clear) s → Fits (cycle_at phase told mark clear) side → Fits (cycle_at stance tells mark clear) side
            → PassGoes (cycle_at phase told mark clear) (cycle_at stance tells mark clear) side
        goes_on clear ends objects before after =
            goes_through (cycle_at phase told mark clear) (cycle_at stance told mark clear) (cycle_at stance tells mark clear) side
            (says_goes phase told mark clear stance ends objects side leaves (said_fits clear before))
            (reach_goes stance told mark clear tells (says_objects phase told mark clear stance ends objects) side after)

        pub announce_goes : (before after : Bool) → Ends before after stance → AreObjects P (cycle_at phase told mark before) s → Fits (cycle_at phase told mark before) side → Fits (cycle_at stance tells mark after) side
            → PassGoes (cycle_at phase told mark before) (cycle_at stance tells mark after) side
        announce_goes true true ends objects was is = goes_on true ends.1 objects was is
        announce_goes false false ends objects was is = goes_on false ends.1 objects was is
        announce_goes true false ends objects was is =
            let less : Fits (cycle_at phase told mark false) side = between true false (λ e. refl) phase was in
            goes_through (cycle_at phase told mark true) (cycle_at phase told mark false) (cycle_at stance tells mark false) side
            (unclear_goes phase told mark objects side less)
            (goes_on false ends.1 (unclear_objects phase told mark objects) less is)
        announce_goes false true ends objects was is = absurd (let no = ends.0 refl in cc no)

    -- ---- a candidate is drawn

    module _ (V : MovingLaws kit.kind kit.protocol) (clover : is_clover kit.kind ≡ true) (phase : Stance) (told : Told) (mark : Option FieldWord) where
      module _ (drawn : ℕ) (objects : AreObjects P (cycle_at phase told mark false) s) where
        draws : IsPhasing P (cycle_at phase told mark false) s (Draw (Num drawn))
        draws = record { kind = V.draws clover (Num drawn); go = refl; fields = λ a f live lt. (resting a, refl); number = tt; counts = λ a live counts. counts }

        pub draw_objects : AreObjects P (cycle_at phase told (Some (Num drawn)) false) s
        draw_objects = phase_objects P L (cycle_at phase told mark false) s objects (Draw (Num drawn)) draws

        pub draw_goes : (side : Side) → Fits (cycle_at phase told (Some (Num drawn)) false) side → PassGoes (cycle_at phase told mark false) (cycle_at phase told (Some (Num drawn)) false) side
        draw_goes side fits = step_goes (cycle_at phase told mark false) objects (Draw (Num drawn)) draws refl side (λ runs. tt) fits

      -- ---- a search ends clear

      module _ (set : IsSet mark) (open_phase : phase ≢ Free) (zero : is_mark mark (Num 0) ≡ false) (objects : AreObjects P (cycle_at phase told mark false) s)
          (passed : (a f : ℕ) → IsLive (s.state a) → f < s.len a → is_mark mark (place_word mark (here s a f) (copy_word s a f)) ≡ false) where
        clears : IsPhasing P (cycle_at phase told mark false) s (Clears true)
        clears = record { kind = V.clears clover; go = (set, open_phase, zero); fields = λ a f live lt. (set, open_phase, passed a f live lt); number = objects.number; counts = λ a live counts. counts }

        pub clear_objects : AreObjects P (cycle_at phase told mark true) s
        clear_objects = phase_objects P L (cycle_at phase told mark false) s objects (Clears true) clears

        pub clear_goes : (side : Side) → (side.acked ≢ Retired → IsTold side.acked → ⊥) → Fits (cycle_at phase told mark true) side → PassGoes (cycle_at phase told mark false) (cycle_at phase told mark true) side
        clear_goes side untold fits = step_goes (cycle_at phase told mark false) objects (Clears true) clears refl side untold fits
