-- A word that a pass puts at the place of a field, in the original or in the copy.
use Rattle.std.proofs.Common.{◌≡◌, ℕ, ◌<◌, inl, inr, refl, arith, ap, sym, subst, ◌∙◌, Option, List}
use Rattle.heap_words.specs.declared.field_word.FieldWord.{FieldWord}
use Rattle.wide_objects.specs.Statuses.{Status}
use Rattle.heap_history.specs.NewestFirst.{value_at, Before}
use Rattle.heap_history.specs.declared.call.Call.{Call}
use Rattle.barriers.specs.States.{State, IsHome, IsLive, On}
use Rattle.barriers.specs.Spaces.{Space, Holds, Here, here, zone, Copied, place_word, copy_word}
use Rattle.barriers.specs.Values.{value_of}
use Rattle.barriers.specs.Cycles.{Told, Cycle}
use Rattle.barriers.specs.Events.{Quiet, Write, Write_copy, Writable, Unmarked}
use Rattle.barriers.specs.Protocols.{Protocol}
use Rattle.barriers.specs.ProtocolLaws.{ProtocolLaws}
use Rattle.barriers.specs.Objects.{IsCarrying, AreObjects}
use Rattle.barriers.specs.Accesses.{put_word}
use Rattle.barriers.specs.CallTurns.{Sees, Seen}
use Rattle.barriers.proofs.words.Sets.{set2_cases}
use Rattle.barriers.proofs.objects.Base.{set2_here, set2_else, home_live, home_forward, not_underway, copied_place, copied_state, place_apart, zone_tells}
use Rattle.barriers.proofs.objects.Changes.{IsPut}
use Rattle.barriers.proofs.objects.Seen.{shape_stays}

writable_place : (told : Told) (mark : Option FieldWord) (x : Here) (v c : FieldWord) → Writable told mark x.state x.word v → place_word mark (record x { word = v }) c ≡ v
writable_place told mark x v c h = grind (arith, h)

pub writable_home : (told : Told) (mark : Option FieldWord) (x : State) (o v : FieldWord) → Writable told mark x o v → IsHome x
writable_home told mark x o v h = grind (arith, h)

writable_after : (told : Told) (mark : Option FieldWord) (x : State) (o v : FieldWord) (u : Status) → Writable told mark x o v → zone mark x v u ≡ Copied → ⊥
writable_after told mark x o v u h e = grind (arith, h, e)

-- where the place is: the home itself, or the copy of a home that is being moved
pub data Site (c : Cycle) (s : Space) (h z f : ℕ) (v : FieldWord) : Type 0 where
  At_home : z ≡ h → Writable c.told c.mark (s.state z) (s.word z f) v → Site c s h z f v
  At_copy : z ≡ s.to h → IsCarrying (s.state h) → zone c.mark (s.state h) (s.word h f) (s.status h f) ≡ Copied → Site c s h z f v

-- the word v for field f of the object with birth number b, at z; the history is then `new`
module _ (P : Protocol) (L : ProtocolLaws P) (c : Cycle) (s : Space) (w : AreObjects P c s) (b z f : ℕ) (v : FieldWord) (new : List Call) (later : (early : List Call) → Before early s.history → Before early new)
    (home : IsHome (s.state (s.home b))) (birth : s.birth (s.home b) ≡ b) (clean : Unmarked c v) (hold : On (Holds s) v) (site : Site c s (s.home b) z f v) (put : IsPut s.history new b f (value_of v)) where
  abbrev H : ℕ
  H = s.home b

  abbrev t : Space
  t = put_word s b z f v new

  -- a home of this birth number is the one
  pub only : (a : ℕ) → IsHome (s.state a) → s.birth a ≡ b → a ≡ H
  only a i e = sym (w.home a i) ∙ ap s.home e

  site_birth : Site c s H z f v → s.birth z ≡ b
  site_birth (At_home e i) = ap s.birth e ∙ birth
  site_birth (At_copy e i q) = ap s.birth e ∙ ((w.under H i).birth ∙ birth)

  pub z_birth : s.birth z ≡ b
  z_birth = site_birth site

  -- a live object at which the word is put is the home
  pub site_live : Site c s H z f v → IsLive (s.state z) → (z ≡ H) × Writable c.told c.mark (s.state z) (s.word z f) v
  site_live (At_home e i) l = (e, i)
  site_live (At_copy e i q) l = absurd (not_underway (s.state z) l (ap s.state e ∙ (w.under H i).state))

  -- another object with this copy is the home too
  to_home : (a : ℕ) → IsHome (s.state a) → s.to a ≡ z → zone c.mark (s.state a) (s.word a f) (s.status a f) ≡ Copied → a ≡ H
  to_home a i e q = elim (copied_state c.mark (here s a f) q) [
    | inl g ↦ absurd (home_forward (s.state a) i g)
    | inr k ↦ only a i (sym (w.under a k).birth ∙ ap s.birth e ∙ z_birth)
  ]

  put_sees : (a g : ℕ) → IsLive (s.state a) → g < s.len a → Sees P c s t a g
  put_sees a g i lt = elim (set2_cases s.word z f v a g) [
    | inl q ↦ (let l = site_live site (subst (λ y. IsLive (s.state y)) q.0 i) in record {
      event = Write v;
      here_is = rw q.2 refl;
      copy_is = inr (λ k. writable_after c.told c.mark (s.state a) (s.word a g) v (s.status a g) (rw (q.0, q.1) l.1) (rw q.2 at k));
      makes = L.shapes.makes_write v;
      may = (rw (q.0, q.1) l.1, clean);
      dated = tt;
      place = inl tt;
    })
    | inr q ↦ elim (set2_cases s.word z f v (s.to a) g) [
      | inl p ↦ elim (zone_tells c.mark (here s a g)) [
        | inl k ↦ record { event = Write_copy v; here_is = rw q.1 refl; copy_is = inl p.2; makes = L.shapes.makes_copy v; may = (k, clean); dated = tt; place = inl tt }
        | inr k ↦ record { event = Quiet; here_is = rw q.1 refl; copy_is = inr (rw q.1 k); makes = L.shapes.makes_quiet; may = tt; dated = tt; place = inl tt }
      ]
      | inr p ↦ record { event = Quiet; here_is = rw q.1 refl; copy_is = inl p.1; makes = L.shapes.makes_quiet; may = tt; dated = tt; place = inl tt }
    ]
  ]

  pub put_seen : Seen P c s t
  put_seen = record { live = λ a i. i; counts = λ a i. i; birth = λ a i. refl; len = λ a i. refl; colour = λ a i. refl; sees = put_sees; grows = later }

  put_place : (a g : ℕ) → IsHome (s.state a) → g < s.len a → t.field a g ≡ place_word c.mark (here t a g) (copy_word t a g)
  put_place a g i lt = elim (set2_cases s.field H f v a g) [
    | inl q ↦ q.2 ∙ sym (here_place a g q.0 q.1 site)
    | inr q ↦ q.1 ∙ (w.placed a g i lt ∙ sym (else_place a g i q.0))
  ] where
    here_place : (a g : ℕ) → a ≡ H → g ≡ f → Site c s H z f v → place_word c.mark (here t a g) (copy_word t a g) ≡ v
    here_place a g e k (At_home x y) = rw (e, k, sym x, set2_here s.word z f v) (writable_place c.told c.mark (here s z f) v (copy_word t z f) y)
    here_place a g e k (At_copy x y n) = rw (e, k) (
        let apart : (H ≡ z) × (f ≡ f) → ⊥ = λ q. not_underway (s.state H) (home_live (s.state H) home) (ap s.state (q.0 ∙ x) ∙ (w.under H y).state) in
        let copy : copy_word t H f ≡ v = rw (sym x) (set2_here s.word z f v) in
        rw (set2_else s.word z f H f v apart) (copied_place c.mark (here s H f) (copy_word t H f) n ∙ copy))

    else_place : (a g : ℕ) → IsHome (s.state a) → ((a ≡ H) × (g ≡ f) → ⊥) → place_word c.mark (here t a g) (copy_word t a g) ≡ place_word c.mark (here s a g) (copy_word s a g)
    else_place a g i ne = elim (set2_cases s.word z f v a g) [
      | inl q ↦ absurd (ne ((q.0 ∙ (site_live site (subst (λ y. IsLive (s.state y)) q.0 (home_live (s.state a) i))).0), q.1))
      | inr q ↦ rw q.1 (elim (set2_cases s.word z f v (s.to a) g) [
        | inl p ↦ elim (zone_tells c.mark (here s a g)) [
          | inl k ↦ absurd (ne (to_home a i p.0 (rw p.1 at k), p.1))
          | inr k ↦ place_apart c.mark (here s a g) (copy_word s a g) (copy_word t a g) k
        ]
        | inr p ↦ rw p.1 refl
      ])
    ]

  put_agrees : (a g : ℕ) → IsHome (s.state a) → g < s.len a → value_of (t.field a g) ≡ value_at new (s.birth a) g
  put_agrees a g i lt = elim (set2_cases s.field H f v a g) [
    | inl q ↦ elim (put (s.birth a) g) [
      | inl y ↦ ap value_of q.2 ∙ sym y.2
      | inr y ↦ absurd (y.0 (ap s.birth q.0 ∙ birth, q.1))
    ]
    | inr q ↦ elim (put (s.birth a) g) [
      | inl y ↦ absurd (q.0 (only a i y.0, y.1))
      | inr y ↦ ap value_of q.1 ∙ (w.agrees a g i lt ∙ sym y.1)
    ]
  ]

  pub put_objects : AreObjects P c t
  put_objects = record {
    placed = put_place;
    agrees = put_agrees;
    home = w.home;
    target = w.target;
    copied = λ a i. let k = w.copied a i in record { state = k.state; birth = k.birth; len = k.len };
    under = λ a i. let k = w.under a i in record { state = k.state; birth = k.birth; len = k.len };
    fields = λ a g i lt. elim (set2_cases s.field H f v a g) [ inl q ↦ rw q.2 hold | inr q ↦ rw q.1 (w.fields a g i lt) ];
    words = λ a g i r lt. elim (set2_cases s.word z f v a g) [ inl q ↦ rw q.2 hold | inr q ↦ rw q.1 (w.words a g i r lt) ];
    statuses = w.statuses;
    shape = shape_stays P L c s t w put_seen;
    seals = λ a past e. later past (w.seals a past e);
    unsealed = w.unsealed;
    number = w.number;
    right = w.right;
  }
