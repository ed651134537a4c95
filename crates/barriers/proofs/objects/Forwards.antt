-- The step of a mover by which the copy becomes the home.
use Rattle.std.proofs.Common.{◌≡◌, ◌≢◌, ℕ, ◌<◌, inl, inr, refl, ap, sym, ◌∙◌, Option, Some, None, List}
use Rattle.heap_words.specs.declared.field_word.FieldWord.{FieldWord}
use Rattle.space_reclaim.specs.declared.move_job.MoveJob.{MoveJob}
use Rattle.heap_history.specs.NewestFirst.{value_at, Before}
use Rattle.heap_history.specs.declared.call.Call.{Call}
use Rattle.barriers.specs.Sets.{set}
use Rattle.barriers.specs.States.{Plain, Underway, Forward, IsHome, IsLive, On}
use Rattle.barriers.specs.Spaces.{Space, Holds, Here, here, place_word, copy_word, held}
use Rattle.barriers.specs.Values.{value_of}
use Rattle.barriers.specs.Cycles.{Cycle}
use Rattle.barriers.specs.Events.{Event, Quiet, after, after_copy, IsStill}
use Rattle.barriers.specs.Moves.{Carried, job_of, move_event}
use Rattle.barriers.specs.Protocols.{Protocol, TargetIs}
use Rattle.barriers.specs.ProtocolLaws.{Arrives, ProtocolLaws}
use Rattle.barriers.specs.Objects.{IsCarrying, IsForward, IsCopy, IsLaid, HasLens, AreObjects, IsMove}
use Rattle.barriers.specs.CallTurns.{Sees, Seen}
use Rattle.barriers.specs.MoveSteps.{forward}
use Rattle.barriers.specs.MoveTurns.{Has_gone, MovesTo, mover_after}
use Rattle.barriers.proofs.words.Sets.{set_cases, set_here, set_else}
use Rattle.barriers.proofs.objects.Base.{number_tells, on_goes, plain_place, forward_place, place_cong}
use Rattle.barriers.proofs.objects.Seen.{one_home, holds_goes, shape_stays}
use Rattle.barriers.proofs.objects.MoveStays.{live_at, not_to, to_apart, not_gone, the_one, not_from}
use Rattle.barriers.proofs.objects.Carries.{event_dated, in_job, move_end}
use Rattle.barriers.proofs.objects.MoveKinds.{target_is}

-- the step is this event at each field, and the original's seal is then this
pub record Forwarding (c : Cycle) (s : Space) (m : Carried) (j : MoveJob) (seal : Option (List Call)) (e : Event) : Type 0 where
  pub event : (g : ℕ) → move_event c.mark s.history m g (here s j.from g) ≡ e
  pub arrives : Arrives e
  pub after_is : (g : ℕ) → after e (here s j.from g) ≡ record (here s j.from g) { state = Forward j.to; seal = seal }
  pub copy_is : (d : FieldWord) → after_copy e d ≡ d
  pub past : (past : List Call) → seal ≡ Some past → Before past s.history
  pub sealed : (past : List Call) → s.seal j.from ≡ Some past → seal ≡ Some past

module _ (P : Protocol) (L : ProtocolLaws P) (c : Cycle) (s : Space) (w : AreObjects P c s) (lens : HasLens s) (m : Carried) (j : MoveJob) (job : job_of m ≡ Some j) (o : IsMove P c s m j) (laid : IsLaid s j)
    (seal : Option (List Call)) (e : Event) (f : Forwarding c s m j seal e) where
  abbrev t : Space
  t = forward s j seal

  apart : j.to ≢ j.from
  apart = to_apart P L c s w m j job o laid

  from_state : t.state j.from ≡ Forward j.to
  from_state = set_here (set s.state j.to Plain) j.from (Forward j.to)

  to_state : t.state j.to ≡ Plain
  to_state = set_else (set s.state j.to Plain) j.from j.to (Forward j.to) apart ∙ set_here s.state j.to Plain

  else_state : (a : ℕ) → a ≢ j.from → a ≢ j.to → t.state a ≡ s.state a
  else_state a n d = set_else (set s.state j.to Plain) j.from a (Forward j.to) n ∙ set_else s.state j.to a Plain d

  from_live : IsLive (s.state j.from)
  from_live = live_at P L c s w m j job o

  to_seal : t.seal j.to ≡ None
  to_seal = set_else s.seal j.from j.to seal apart ∙ laid.seal

  -- ---- what others see

  fore_here : (g : ℕ) → here t j.from g ≡ after e (here s j.from g)
  fore_here g = rw (f.after_is g, from_state, set_here s.seal j.from seal) refl

  fore_else : (a g : ℕ) → a ≢ j.from → a ≢ j.to → here t a g ≡ here s a g
  fore_else a g n d = rw (else_state a n d, set_else s.seal j.from a seal n) refl

  fore_sees : (a g : ℕ) → IsLive (s.state a) → g < s.len a → Sees P c s t a g
  fore_sees a g i lt = elim (number_tells a j.from) [
    | inl q ↦ (let d = move_end P L c s w m j job o g (in_job P L c s w m j job o g (rw q at lt)) in rw q (record {
      event = move_event c.mark s.history m g (here s j.from g);
      here_is = rw (f.event g) (fore_here g);
      copy_is = inl (rw (f.event g) (sym (f.copy_is (copy_word s j.from g))));
      makes = d.makes;
      may = d.may;
      dated = event_dated c.mark s.history m g (here s j.from g);
      place = inr (d.place from_live);
    }))
    | inr n ↦ record { event = Quiet; here_is = fore_else a g n (not_to P L c s w m j job o laid a i); copy_is = inl refl; makes = L.shapes.makes_quiet; may = tt; dated = tt; place = inl tt }
  ]

  fore_seen : Seen P c s t
  fore_seen = record {
    live = λ a i. elim (number_tells a j.from) [ inl q ↦ rw (q, from_state) tt | inr n ↦ rw (else_state a n (not_to P L c s w m j job o laid a i)) i ];
    counts = λ a i. inl o.late;
    birth = λ a i. refl;
    len = λ a i. refl;
    colour = λ a i. refl;
    grows = λ h i. i;
    sees = fore_sees;
  }

  -- ---- the words of the copy are those of the fields

  place_copy : (g : ℕ) → g < s.len j.from → place_word c.mark (here s j.from g) (copy_word s j.from g) ≡ copy_word s j.from g
  place_copy g lt =
      let d = move_end P L c s w m j job o g (in_job P L c s w m j job o g lt) in
      let x : Here = after (move_event c.mark s.history m g (here s j.from g)) (here s j.from g) in
      let i : IsForward x.state = rw (f.event g, f.after_is g) tt in
      sym (d.place from_live) ∙ (forward_place c.mark x (after_copy (move_event c.mark s.history m g (here s j.from g)) (copy_word s j.from g)) i ∙ rw (f.event g) (f.copy_is (copy_word s j.from g)))

  copy_at : (g : ℕ) → copy_word s j.from g ≡ s.word j.to g
  copy_at g = ap (λ a. s.word a g) laid.to

  in_from : (g : ℕ) → g < s.len j.to → g < s.len j.from
  in_from g lt = rw laid.copy.len at lt

  field_from : (g : ℕ) → g < s.len j.from → s.field j.from g ≡ s.word j.to g
  field_from g lt = w.placed j.from g o.live lt ∙ (place_copy g lt ∙ copy_at g)

  field_to : (g : ℕ) → t.field j.to g ≡ s.field j.from g
  field_to g = ap (λ r. r g) (set_here s.field j.to (s.field j.from))

  field_else : (a g : ℕ) → a ≢ j.to → t.field a g ≡ s.field a g
  field_else a g n = ap (λ r. r g) (set_else s.field j.to a (s.field j.from) n)

  -- ---- what holds after it

  home_else : (a : ℕ) → IsHome (t.state a) → a ≢ j.to → (a ≢ j.from) × IsHome (s.state a)
  home_else a i d = elim (number_tells a j.from) [ inl q ↦ absurd (rw (q, from_state) at i) | inr n ↦ (n, rw (else_state a n d) at i) ]

  live_else : (a : ℕ) → IsLive (t.state a) → a ≢ j.to → IsLive (s.state a)
  live_else a i d = elim (number_tells a j.from) [ inl q ↦ rw q from_live | inr n ↦ rw (else_state a n d) at i ]

  fore_place : (a g : ℕ) → IsHome (t.state a) → g < s.len a → t.field a g ≡ place_word c.mark (here t a g) (copy_word t a g)
  fore_place a g i lt = elim (number_tells a j.to) [
    | inl q ↦ rw q (field_to g ∙ (field_from g (in_from g (rw q at lt)) ∙ sym (plain_place c.mark (here t j.to g) (copy_word t j.to g) to_state)))
    | inr d ↦ (let h = home_else a i d in field_else a g d ∙ (w.placed a g h.1 lt ∙ sym (place_cong c.mark (here t a g) (here s a g) (copy_word s a g) (copy_word s a g) (fore_else a g h.0 d) refl)))
  ]

  fore_agrees : (a g : ℕ) → IsHome (t.state a) → g < s.len a → value_of (t.field a g) ≡ value_at s.history (s.birth a) g
  fore_agrees a g i lt = elim (number_tells a j.to) [
    | inl q ↦ rw q (ap value_of (field_to g) ∙ (w.agrees j.from g o.live (in_from g (rw q at lt)) ∙ ap (λ b. value_at s.history b g) (sym laid.copy.birth)))
    | inr d ↦ (let h = home_else a i d in ap value_of (field_else a g d) ∙ w.agrees a g h.1 lt)
  ]

  fore_home : (a : ℕ) → IsHome (t.state a) → t.home (s.birth a) ≡ a
  fore_home a i = elim (number_tells a j.to) [
    | inl q ↦ rw (q, laid.copy.birth, o.birth) (set_here s.home j.birth j.to)
    | inr d ↦ (let h = home_else a i d in
        set_else s.home j.birth (s.birth a) j.to (λ e. h.0 (one_home P L c s w a j.from h.1 o.live (e ∙ sym o.birth))) ∙ w.home a h.1)
  ]

  fore_target : (a g : ℕ) → IsLive (t.state a) → TargetIs (here t a g) (t.state a)
  fore_target a g i = elim (number_tells a j.to) [
    | inl q ↦ rw q (target_is (here t j.to g) Plain to_state tt)
    | inr d ↦ elim (number_tells a j.from) [
      | inl q ↦ rw q (target_is (here t j.from g) (Forward j.to) from_state (sym laid.to))
      | inr n ↦ rw (else_state a n d) (w.target a g (live_else a i d))
    ]
  ]

  fore_copied : (a : ℕ) → IsForward (t.state a) → IsCopy t a (s.to a) Plain
  fore_copied a i = elim (number_tells a j.from) [
    | inl q ↦ rw (q, laid.to) (record { state = to_state; birth = laid.copy.birth; len = laid.copy.len })
    | inr n ↦ elim (number_tells a j.to) [
      | inl q ↦ absurd (rw (q, to_state) at i)
      | inr d ↦ (
          let h : IsForward (s.state a) = rw (else_state a n d) at i in let y = w.copied a h in
          record { state = else_state (s.to a) (o.apart a h) (not_gone P L c s w m j job o laid a h) ∙ y.state; birth = y.birth; len = y.len })
    ]
  ]

  fore_under : (a : ℕ) → IsCarrying (t.state a) → IsCopy t a (s.to a) Underway
  fore_under a i = elim (number_tells a j.from) [
    | inl q ↦ absurd (rw (q, from_state) at i)
    | inr n ↦ elim (number_tells a j.to) [
      | inl q ↦ absurd (rw (q, to_state) at i)
      | inr d ↦ (
          let h : IsCarrying (s.state a) = rw (else_state a n d) at i in let y = w.under a h in
          record {
            state = else_state (s.to a) (not_from P L c s w m j job o a h) (λ e. n (the_one P L c s w m j job o laid a h e)) ∙ y.state;
            birth = y.birth;
            len = y.len;
          })
    ]
  ]

  fore_on : (v : FieldWord) → On (Holds s) v → On (Holds t) v
  fore_on v = on_goes (Holds s) (Holds t) (holds_goes P L c s t w fore_seen) v

  fore_shape : (g : ℕ) → g < s.len j.to → P.Shape c (s.birth j.to) g (here t j.to g) (copy_word t j.to g)
  fore_shape g lt =
      let inside = in_from g lt in
      let d = move_end P L c s w m j job o g (in_job P L c s w m j job o g inside) in
      rw laid.copy.birth (L.shapes.arrives c (s.birth j.from) g (here s j.from g) (here t j.to g) (copy_word s j.from g) (copy_word t j.to g) (move_event c.mark s.history m g (here s j.from g)) d.makes (rw (f.event g) f.arrives) d.may (place_copy g inside)
      (w.shape j.from g from_live inside) (record { state = to_state; seal = to_seal; status = laid.status g }) (sym (copy_at g)))

  fore_unsealed : (a : ℕ) → IsStill (t.state a) → t.seal a ≡ None
  fore_unsealed a i = elim (number_tells a j.from) [
    | inl q ↦ absurd (rw (q, from_state) at i)
    | inr n ↦ elim (number_tells a j.to) [
      | inl q ↦ rw q to_seal
      | inr d ↦ set_else s.seal j.from a seal n ∙ w.unsealed a (rw (else_state a n d) at i)
    ]
  ]

  fore_objects : AreObjects P c t
  fore_objects = record {
    placed = fore_place;
    agrees = fore_agrees;
    home = fore_home;
    target = fore_target;
    copied = fore_copied;
    under = fore_under;
    fields = λ a g i lt. elim (number_tells a j.to) [
      | inl q ↦ rw (q, field_to g) (fore_on (s.field j.from g) (w.fields j.from g o.live (in_from g (rw q at lt))))
      | inr d ↦ rw (field_else a g d) (fore_on (s.field a g) (w.fields a g (home_else a i d).1 lt))
    ];
    words = λ a g i r lt. elim (number_tells a j.to) [
      | inl q ↦ rw (q, sym (field_from g (in_from g (rw q at lt)))) (fore_on (s.field j.from g) (w.fields j.from g o.live (in_from g (rw q at lt))))
      | inr d ↦ fore_on (s.word a g) (w.words a g (live_else a i d) (inl o.late) lt)
    ];
    statuses = λ a g i r lt. elim (number_tells a j.to) [
      | inl q ↦ rw (q, laid.status g) tt
      | inr d ↦ fore_on (held (s.status a g)) (w.statuses a g (live_else a i d) (inl o.late) lt)
    ];
    shape = λ a g i lt. elim (number_tells a j.to) [ inl q ↦ rw q (fore_shape g (rw q at lt)) | inr d ↦ shape_stays P L c s t w fore_seen a g (live_else a i d) lt ];
    seals = λ a past q. elim (set_cases s.seal j.from a seal) [ inl y ↦ f.past past (sym y.1 ∙ q) | inr y ↦ w.seals a past (sym y.1 ∙ q) ];
    unsealed = fore_unsealed;
    number = w.number;
    right = w.right;
  }

  fore_lens : HasLens t
  fore_lens a i = elim (number_tells a j.to) [
    | inl q ↦ rw (q, laid.copy.birth, laid.copy.len) (lens j.from from_live)
    | inr d ↦ lens a (live_else a i d)
  ]

  pub forward_turn : job_of (mover_after P s m j) ≡ None → MovesTo P c s t (mover_after P s m j) j
  forward_turn none = record {
    objects = fore_objects;
    lens = fore_lens;
    seen = fore_seen;
    move = λ k q. absurd (let gone : None ≡ Some k = sym none ∙ q in cc);
    ended = λ q. Has_gone from_state to_state;
    history = refl;
    others = λ a n d. record { state = else_state a n d; seal = set_else s.seal j.from a seal n; body = record { colour = refl; len = refl; birth = refl; to = refl; wide = refl } };
    sealed = λ a past i q. elim (set_cases s.seal j.from a seal) [ inl y ↦ y.1 ∙ f.sealed past (ap s.seal (sym y.0) ∙ q) | inr y ↦ y.1 ∙ q ];
  }
