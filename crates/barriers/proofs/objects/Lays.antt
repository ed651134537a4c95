-- The step of a mover by which a copy begins.
use Rattle.std.proofs.Common.{◌≡◌, ◌≢◌, ℕ, ◌<◌, ◌⊎◌, inl, inr, refl, arith, ap, sym, subst, ◌∙◌, Option, Some, None}
use Rattle.heap_words.specs.Layouts.{Sizes}
use Rattle.heap_words.specs.declared.field_word.FieldWord.{FieldWord}
use Rattle.heap_words.specs.declared.field_word.FieldWord.TheVariants.{Num}
use Rattle.wide_objects.specs.Statuses.{Status, InOriginal}
use Rattle.space_reclaim.specs.declared.move_job.MoveJob.{MoveJob}
use Rattle.barriers.specs.Sets.{set}
use Rattle.barriers.specs.States.{State, Absent, Plain, Underway, IsHome, IsLive, On}
use Rattle.barriers.specs.Spaces.{Space, Holds, Here, here, zone, Copied, place_word, copy_word, held}
use Rattle.barriers.specs.Cycles.{Cycle}
use Rattle.barriers.specs.Events.{Quiet, Lay, after, IsStill}
use Rattle.barriers.specs.Moves.{Carried, Lays, move_finds}
use Rattle.barriers.specs.Protocols.{Protocol, TargetIs}
use Rattle.barriers.specs.ProtocolLaws.{ProtocolLaws}
use Rattle.barriers.specs.Objects.{IsCarrying, IsForward, IsCopy, IsLaid, HasLens, AreObjects, IsMove}
use Rattle.barriers.specs.CallTurns.{Sees, Seen}
use Rattle.barriers.specs.MoveSteps.{lay}
use Rattle.barriers.specs.MoveTurns.{MovesTo, mover_after}
use Rattle.barriers.proofs.words.Sets.{set_cases, set_here, set_else}
use Rattle.barriers.proofs.objects.Base.{number_tells, on_goes, home_live, copied_state, place_apart, place_cong}
use Rattle.barriers.proofs.objects.Seen.{holds_goes, shape_stays}
use Rattle.barriers.proofs.objects.Stills.{still_forward, still_carrying, still_target}
use Rattle.barriers.proofs.objects.Made.{live_absent}
use Rattle.barriers.proofs.objects.MoveStays.{laid_at, live_at}
use Rattle.barriers.proofs.objects.Carries.{in_job, move_end, move_end_at, head_after, job_after, end_after}

still_zone : (mark : Option FieldWord) (x : State) (o : FieldWord) (u : Status) → IsStill x → zone mark x o u ≡ Copied → ⊥
still_zone mark x o u i e = grind (arith, i, e)

module _ (P : Protocol) (L : ProtocolLaws P) (l : Sizes) (c : Cycle) (s : Space) (w : AreObjects P c s) (lens : HasLens s) (j : MoveJob) (o : IsMove P c s (Lays j) j) where
  abbrev t : Space
  t = lay l s j

  abbrev x : ℕ → Here
  x g = here s j.from g

  abbrev next : Carried
  next = mover_after P s (Lays j) j

  absent : s.state j.to ≡ Absent
  absent = o.copy

  still : IsStill (s.state j.from)
  still = L.moves.still c j (x 0) o.head

  from_live : IsLive (s.state j.from)
  from_live = live_at P L c s w (Lays j) j refl o

  not_to : (a : ℕ) → IsLive (s.state a) → a ≢ j.to
  not_to a i e = live_absent (s.state a) i (ap s.state e ∙ absent)

  apart : j.from ≢ j.to
  apart = not_to j.from from_live

  row : {A : Type 0} (f : ℕ → ℕ → A) (a g : ℕ) (r : ℕ → A) → a ≢ j.to → set f j.to r a g ≡ f a g
  row f a g r n = ap (λ h. h g) (set_else f j.to a r n)

  -- ---- what is there after it

  lay_state : (a : ℕ) → a ≢ j.to → t.state a ≡ s.state a
  lay_state a n = set_else s.state j.to a Underway n

  lay_colour : (a : ℕ) → a ≢ j.to → t.colour a ≡ s.colour a
  lay_colour a n = set_else s.colour j.to a (s.colour j.from) n

  lay_len : (a : ℕ) → a ≢ j.to → t.len a ≡ s.len a
  lay_len a n = set_else s.len j.to a j.len n

  lay_birth : (a : ℕ) → a ≢ j.to → t.birth a ≡ s.birth a
  lay_birth a n = set_else s.birth j.to a j.birth n

  lay_word : (a g : ℕ) → a ≢ j.to → t.word a g ≡ s.word a g
  lay_word a g n = row s.word a g (λ f. Num 0) n

  lay_status : (a g : ℕ) → a ≢ j.to → t.status a g ≡ s.status a g
  lay_status a g n = row s.status a g (λ f. InOriginal) n

  lay_seal : (a : ℕ) → a ≢ j.to → t.seal a ≡ s.seal a
  lay_seal a n = set_else s.seal j.to a None n

  lay_wide : (a : ℕ) → a ≢ j.from → a ≢ j.to → t.wide a ≡ s.wide a
  lay_wide a n d = set_else (set s.wide j.to 0) j.from a j.wide n ∙ set_else s.wide j.to a 0 d

  lay_here : (g : ℕ) → here t j.from g ≡ after (Lay j.to j.wide) (x g)
  lay_here g = rw (lay_state j.from apart, lay_colour j.from apart, lay_len j.from apart, lay_word j.from g apart, lay_status j.from g apart, lay_seal j.from apart, set_here s.to j.from j.to, set_here (set s.wide j.to 0) j.from j.wide) refl

  lay_else : (a g : ℕ) → a ≢ j.from → a ≢ j.to → here t a g ≡ here s a g
  lay_else a g n d = rw (lay_state a d, lay_colour a d, lay_len a d, lay_word a g d, lay_status a g d, lay_seal a d, set_else s.to j.from a j.to n, lay_wide a n d) refl

  lay_copy : (a g : ℕ) → a ≢ j.from → (copy_word t a g ≡ copy_word s a g) ⊎ (zone c.mark (s.state a) (s.word a g) (s.status a g) ≡ Copied → ⊥)
  lay_copy a g n = elim (number_tells (s.to a) j.to) [
    | inl e ↦ inr (λ z. elim (copied_state c.mark (here s a g) z) [
      | inl h ↦ absent_plain (s.state j.to) absent (ap s.state (sym e) ∙ (w.copied a h).state)
      | inr h ↦ absent_under (s.state j.to) absent (ap s.state (sym e) ∙ (w.under a h).state)
    ])
    | inr e ↦ inl (rw (set_else s.to j.from a j.to n) (row s.word (s.to a) g (λ f. Num 0) e))
  ] where
    absent_plain : (y : State) → y ≡ Absent → y ≡ Plain → ⊥
    absent_plain y e q = cc (e, q)

    absent_under : (y : State) → y ≡ Absent → y ≡ Underway → ⊥
    absent_under y e q = cc (e, q)

  -- ---- what others see

  still_here : (g : ℕ) → zone c.mark (s.state j.from) (s.word j.from g) (s.status j.from g) ≡ Copied → ⊥
  still_here g = still_zone c.mark (s.state j.from) (s.word j.from g) (s.status j.from g) still

  lay_sees : (a g : ℕ) → IsLive (s.state a) → g < s.len a → Sees P c s t a g
  lay_sees a g i lt = elim (number_tells a j.from) [
    | inl e ↦ (let q = move_end P L c s w (Lays j) j refl o g (in_job P L c s w (Lays j) j refl o g (rw e at lt)) in rw e (record {
      event = Lay j.to j.wide;
      here_is = lay_here g;
      copy_is = inr (λ z. still_here g (rw (lay_state j.from apart, lay_word j.from g apart, lay_status j.from g apart) at z));
      makes = q.makes;
      may = q.may;
      dated = tt;
      place = inr (q.place from_live);
    }))
    | inr n ↦ record {
      event = Quiet;
      here_is = lay_else a g n (not_to a i);
      copy_is = elim (lay_copy a g n) [ inl q ↦ inl q | inr q ↦ inr (subst (λ y. zone c.mark y.state y.word y.status ≡ Copied → ⊥) (sym (lay_else a g n (not_to a i))) q) ];
      makes = L.shapes.makes_quiet;
      may = tt;
      dated = tt;
      place = inl tt;
    }
  ]

  lay_seen : Seen P c s t
  lay_seen = record {
    live = λ a i. rw (lay_state a (not_to a i)) i;
    counts = λ a i. inl o.late;
    birth = λ a i. lay_birth a (not_to a i);
    len = λ a i. lay_len a (not_to a i);
    colour = λ a i. lay_colour a (not_to a i);
    sees = lay_sees;
    grows = λ h i. i;
  }

  -- ---- what holds after it

  -- what is live or a home is one of the old objects
  old : (a : ℕ) (Q : State → Type 0) → (Q Underway → ⊥) → Q (t.state a) → (a ≢ j.to) × Q (s.state a)
  old a Q n i = elim (set_cases s.state j.to a Underway) [ inl q ↦ absurd (n (rw q.1 at i)) | inr q ↦ (q.0, rw q.1 at i) ]

  old_len : (a g : ℕ) → a ≢ j.to → g < t.len a → g < s.len a
  old_len a g n lt = rw (lay_len a n) at lt

  lay_place : (a g : ℕ) → IsLive (s.state a) → g < s.len a → place_word c.mark (here t a g) (copy_word t a g) ≡ place_word c.mark (here s a g) (copy_word s a g)
  lay_place a g i lt = elim (number_tells a j.from) [
    | inl e ↦ rw e (place_cong c.mark (here t j.from g) (after (Lay j.to j.wide) (x g)) (copy_word t j.from g) (copy_word t j.from g) (lay_here g) refl
        ∙ place_apart c.mark (after (Lay j.to j.wide) (x g)) (copy_word s j.from g) (copy_word t j.from g) (still_here g))
    | inr n ↦ place_cong c.mark (here t a g) (here s a g) (copy_word t a g) (copy_word t a g) (lay_else a g n (not_to a i)) refl ∙ (elim (lay_copy a g n) [
      | inl q ↦ rw q refl
      | inr q ↦ place_apart c.mark (here s a g) (copy_word s a g) (copy_word t a g) q
    ])
  ]

  lay_is_copy : (a : ℕ) (y : State) → a ≢ j.to → a ≢ j.from → (y ≡ Absent → ⊥) → IsCopy s a (s.to a) y → IsCopy t a (t.to a) y
  lay_is_copy a y d n k q =
      let e : s.to a ≢ j.to = λ e. k (sym q.state ∙ (ap s.state e ∙ absent)) in
      rw (set_else s.to j.from a j.to n) (record {
        state = lay_state (s.to a) e ∙ q.state;
        birth = lay_birth (s.to a) e ∙ (q.birth ∙ sym (lay_birth a d));
        len = lay_len (s.to a) e ∙ (q.len ∙ sym (lay_len a d));
      })

  lay_target : (a g : ℕ) → IsLive (t.state a) → TargetIs (here t a g) (t.state a)
  lay_target a g i =
      let h = old a IsLive (λ e. e) i in
      elim (number_tells a j.from) [
        | inl e ↦ rw e (still_target (here t j.from g) (rw (lay_state j.from apart) still))
        | inr n ↦ subst (λ y. TargetIs y y.state) (sym (lay_else a g n h.0)) (w.target a g h.1)
      ]

  lay_on : (v : FieldWord) → On (Holds s) v → On (Holds t) v
  lay_on v = on_goes (Holds s) (Holds t) (holds_goes P L c s t w lay_seen) v

  lay_objects : AreObjects P c t
  lay_objects = record {
    placed = λ a g i lt. let h = old a IsHome (λ e. e) i in let k = old_len a g h.0 lt in w.placed a g h.1 k ∙ sym (lay_place a g (home_live (s.state a) h.1) k);
    agrees = λ a g i lt. let h = old a IsHome (λ e. e) i in rw (lay_birth a h.0) (w.agrees a g h.1 (old_len a g h.0 lt));
    home = λ a i. let h = old a IsHome (λ e. e) i in rw (lay_birth a h.0) (w.home a h.1);
    target = lay_target;
    copied = λ a i. let h = old a IsForward (λ e. e) i in lay_is_copy a Plain h.0 (λ e. still_forward (s.state j.from) still (rw e at h.1)) (λ e. cc e) (w.copied a h.1);
    under = λ a i. let h = old a IsCarrying (λ e. e) i in lay_is_copy a Underway h.0 (λ e. still_carrying (s.state j.from) still (rw e at h.1)) (λ e. cc e) (w.under a h.1);
    fields = λ a g i lt. let h = old a IsHome (λ e. e) i in lay_on (s.field a g) (w.fields a g h.1 (old_len a g h.0 lt));
    words = λ a g i r lt. let h = old a IsLive (λ e. e) i in rw (lay_word a g h.0) (lay_on (s.word a g) (w.words a g h.1 (inl o.late) (old_len a g h.0 lt)));
    statuses = λ a g i r lt. let h = old a IsLive (λ e. e) i in rw (lay_status a g h.0) (lay_on (held (s.status a g)) (w.statuses a g h.1 (inl o.late) (old_len a g h.0 lt)));
    shape = λ a g i lt. let h = old a IsLive (λ e. e) i in shape_stays P L c s t w lay_seen a g h.1 (old_len a g h.0 lt);
    seals = λ a past e. elim (set_cases s.seal j.to a None) [ inl y ↦ absurd (let gone : None ≡ Some past = sym y.1 ∙ e in cc) | inr y ↦ w.seals a past (sym y.1 ∙ e) ];
    unsealed = λ a i. let h = old a IsStill (λ e. e) i in lay_seal a h.0 ∙ w.unsealed a h.1;
    number = w.number;
    right = w.right;
  }

  lay_laid : IsLaid t j
  lay_laid = record {
    copy = record {
      state = set_here s.state j.to Underway;
      birth = set_here s.birth j.to j.birth ∙ sym (lay_birth j.from apart ∙ o.birth);
      len = set_here s.len j.to j.len ∙ sym (lay_len j.from apart ∙ o.len);
    };
    colour = set_here s.colour j.to (s.colour j.from) ∙ sym (lay_colour j.from apart);
    to = set_here s.to j.from j.to;
    wide = set_here (set s.wide j.to 0) j.from j.wide;
    status = λ g. ap (λ r. r g) (set_here s.status j.to (λ f. InOriginal));
    seal = set_here s.seal j.to None;
  }

  lay_field : (g : ℕ) → g < j.len → P.MoveField c next g (here t j.from g) (copy_word t j.from g)
  lay_field g lt =
      let shape = L.shapes.apart c (s.birth j.from) g (x g) (copy_word s j.from g) (copy_word t j.from g) (still_here g) (w.shape j.from g from_live (rw o.len lt)) in
      let end = move_end_at P L c s w (Lays j) j refl o g (copy_word t j.from g) (copy_word t j.from 0) lt (λ q. ap (copy_word t j.from) q) shape (L.moves.lays c j g (x g) (copy_word t j.from g)) in
      rw (lay_here g) (end.field)

  lay_move : IsMove P c t next j
  lay_move = record {
    late = o.late;
    live = rw (lay_state j.from apart) o.live;
    len = lay_len j.from apart ∙ o.len;
    birth = lay_birth j.from apart ∙ o.birth;
    header = rw (lay_colour j.from apart) o.header;
    copy = laid_at t next j (λ q z. L.moves.begins (Lays j) (move_finds (x 0) (Lays j)) q z) lay_laid;
    apart = λ a h e. let q = old a IsForward (λ e. e) h in o.apart a q.1 (sym (set_else s.to j.from a j.to (λ y. still_forward (s.state j.from) still (rw y at q.1))) ∙ e);
    head = rw (lay_here 0) (head_after P L c s w (Lays j) j refl o);
    field = lay_field;
  }

  pub lay_turn : MovesTo P c s t next j
  lay_turn = record {
    objects = lay_objects;
    lens = λ a i. let h = old a IsLive (λ e. e) i in rw (lay_birth a h.0, lay_len a h.0) (lens a h.1);
    seen = lay_seen;
    move = λ k e. let same = job_after P L c s w (Lays j) j refl o k e in (same, rw same lay_move);
    ended = λ none. absurd (end_after P L c s w (Lays j) j refl o none);
    history = refl;
    others = λ a n d. record {
      state = lay_state a d;
      seal = lay_seal a d;
      body = record { colour = lay_colour a d; len = lay_len a d; birth = lay_birth a d; to = set_else s.to j.from a j.to n; wide = lay_wide a n d };
    };
    sealed = λ a past i e. lay_seal a (not_to a i) ∙ e;
  }
