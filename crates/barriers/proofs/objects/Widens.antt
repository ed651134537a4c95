-- A wide word that a pass exchanges.
use Rattle.std.proofs.Common.{◌≡◌, ℕ, ◌<◌, inl, inr, refl, arith, ap, sym, ◌∙◌, Option, List}
use Rattle.heap_words.specs.declared.field_word.FieldWord.{FieldWord}
use Rattle.wide_objects.specs.Statuses.{InWide}
use Rattle.heap_history.specs.NewestFirst.{value_at, Before}
use Rattle.heap_history.specs.declared.call.Call.{Call}
use Rattle.barriers.specs.States.{State, IsHome, IsLive, On}
use Rattle.barriers.specs.Spaces.{Space, Holds, Here, here, place_word, copy_word}
use Rattle.barriers.specs.Values.{value_of}
use Rattle.barriers.specs.Cycles.{Cycle}
use Rattle.barriers.specs.Events.{IsWide, IsUncopied, Quiet, Widen}
use Rattle.barriers.specs.Protocols.{Protocol}
use Rattle.barriers.specs.ProtocolLaws.{ProtocolLaws}
use Rattle.barriers.specs.Objects.{AreObjects}
use Rattle.barriers.specs.Accesses.{put_status}
use Rattle.barriers.specs.CallTurns.{Sees, Seen}
use Rattle.barriers.proofs.words.Sets.{set2_cases}
use Rattle.barriers.proofs.objects.Base.{set2_here, set2_else}
use Rattle.barriers.proofs.objects.Changes.{IsPut}
use Rattle.barriers.proofs.objects.Seen.{shape_stays}

wide_word : (mark : Option FieldWord) (x : Here) (v d : FieldWord) → IsWide x.state → place_word mark (record x { status = InWide v }) d ≡ v
wide_word mark x v d i = grind (arith, i)

wide_state_home : (x : State) → IsWide x → IsHome x
wide_state_home x i = grind (arith, i)

-- the word v for field f of the object at a; the history is then `new`
module _ (P : Protocol) (L : ProtocolLaws P) (c : Cycle) (s : Space) (w : AreObjects P c s) (a f : ℕ) (v : FieldWord) (new : List Call) (later : (early : List Call) → Before early s.history → Before early new)
    (makes : P.Makes (Widen v)) (wide : IsWide (s.state a)) (uncopied : IsUncopied (s.status a f)) (hold : On (Holds s) v) (put : IsPut s.history new (s.birth a) f (value_of v)) where
  abbrev b : ℕ
  b = s.birth a

  abbrev u : Space
  u = put_status s b a f v new

  at_home : s.home b ≡ a
  at_home = w.home a (wide_state_home (s.state a) wide)

  wide_sees : (x g : ℕ) → IsLive (s.state x) → g < s.len x → Sees P c s u x g
  wide_sees x g i lt = elim (set2_cases s.status a f (InWide v) x g) [
    | inl q ↦ record {
      event = Widen v;
      here_is = rw q.2 refl;
      copy_is = inl refl;
      makes = makes;
      may = (rw q.0 wide, rw (q.0, q.1) uncopied);
      dated = tt;
      place = inl tt;
    }
    | inr q ↦ record { event = Quiet; here_is = rw q.1 refl; copy_is = inl refl; makes = L.shapes.makes_quiet; may = tt; dated = tt; place = inl tt }
  ]

  pub wide_seen : Seen P c s u
  wide_seen = record { live = λ x i. i; counts = λ x i. i; birth = λ x i. refl; len = λ x i. refl; colour = λ x i. refl; sees = wide_sees; grows = later }

  wide_place : (x g : ℕ) → IsHome (s.state x) → g < s.len x → u.field x g ≡ place_word c.mark (here u x g) (copy_word u x g)
  wide_place x g i lt = elim (set2_cases s.field (s.home b) f v x g) [
    | inl q ↦ (let e = q.0 ∙ at_home in q.2 ∙ sym (rw (e, q.1, set2_here s.status a f (InWide v)) (wide_word c.mark (here s a f) v (copy_word s a f) wide)))
    | inr q ↦ (let n : (x ≡ a) × (g ≡ f) → ⊥ = λ k. q.0 (k.0 ∙ sym at_home, k.1) in q.1 ∙ (w.placed x g i lt ∙ sym (rw (set2_else s.status a f x g (InWide v) n) refl)))
  ]

  wide_agrees : (x g : ℕ) → IsHome (s.state x) → g < s.len x → value_of (u.field x g) ≡ value_at new (s.birth x) g
  wide_agrees x g i lt = elim (set2_cases s.field (s.home b) f v x g) [
    | inl q ↦ elim (put (s.birth x) g) [
      | inl y ↦ ap value_of q.2 ∙ sym y.2
      | inr y ↦ absurd (y.0 (ap s.birth (q.0 ∙ at_home), q.1))
    ]
    | inr q ↦ elim (put (s.birth x) g) [
      | inl y ↦ absurd (q.0 (sym (w.home x i) ∙ ap s.home y.0, y.1))
      | inr y ↦ ap value_of q.1 ∙ (w.agrees x g i lt ∙ sym y.1)
    ]
  ]

  pub wide_objects : AreObjects P c u
  wide_objects = record {
    placed = wide_place;
    agrees = wide_agrees;
    home = w.home;
    target = w.target;
    copied = λ x i. let k = w.copied x i in record { state = k.state; birth = k.birth; len = k.len };
    under = λ x i. let k = w.under x i in record { state = k.state; birth = k.birth; len = k.len };
    fields = λ x g i lt. elim (set2_cases s.field (s.home b) f v x g) [ inl q ↦ rw q.2 hold | inr q ↦ rw q.1 (w.fields x g i lt) ];
    words = w.words;
    statuses = λ x g i r lt. elim (set2_cases s.status a f (InWide v) x g) [ inl q ↦ rw q.2 hold | inr q ↦ rw q.1 (w.statuses x g i r lt) ];
    shape = shape_stays P L c s u w wide_seen;
    seals = λ x past e. later past (w.seals x past e);
    unsealed = w.unsealed;
    number = w.number;
    right = w.right;
  }
