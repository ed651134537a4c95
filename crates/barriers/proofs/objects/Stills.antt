-- A header that goes from one state to another while the object stays where it is.
use Rattle.std.proofs.Common.{◌≡◌, ◌≢◌, ℕ, ◌<◌, inl, inr, refl, arith, ap, sym, ◌∙◌, Option}
use Rattle.heap_words.specs.declared.field_word.FieldWord.{FieldWord}
use Rattle.barriers.specs.States.{State, Plain, Kept, Tagged, Underway, IsHome, IsLive, On}
use Rattle.barriers.specs.Spaces.{Space, Holds, Here, here, place_word, copy_word, held}
use Rattle.barriers.specs.Cycles.{Cycle, Nobody}
use Rattle.barriers.specs.Events.{Event, Quiet, Keep, Tag, after, after_copy, May, IsStill}
use Rattle.barriers.specs.Protocols.{Protocol, TargetIs}
use Rattle.barriers.specs.ProtocolLaws.{ProtocolLaws, Dated}
use Rattle.barriers.specs.Objects.{IsCarrying, IsForward, Counts, IsCopy, HasLens, AreObjects}
use Rattle.barriers.specs.Accesses.{put_state}
use Rattle.barriers.specs.CallTurns.{Sees, Seen}
use Rattle.barriers.specs.MoveTurns.{Restated}
use Rattle.barriers.proofs.words.Sets.{set_cases}
use Rattle.barriers.proofs.objects.Base.{on_goes}
use Rattle.barriers.proofs.objects.Seen.{shape_stays}

pub still_home : (x : State) → IsStill x → IsHome x
still_home x i = grind (arith, i)

still_live : (x : State) → IsStill x → IsLive x
still_live x i = grind (arith, i)

pub still_forward : (x : State) → IsStill x → IsForward x → ⊥
still_forward x i e = grind (arith, i, e)

pub still_carrying : (x : State) → IsStill x → IsCarrying x → ⊥
still_carrying x i e = grind (arith, i, e)

still_underway : (x : State) → IsStill x → x ≡ Underway → ⊥
still_underway x i e = grind (arith, i, e)

pub still_target : (x : Here) → IsStill x.state → TargetIs x x.state
still_target x i = grind (arith, i)

still_place : (mark : Option FieldWord) (x : Here) (y : State) (d : FieldWord) → IsStill x.state → IsStill y → place_word mark (record x { state = y }) d ≡ place_word mark x d
still_place mark x y d i j = grind (arith, i, j)

-- the header at a goes to state y by this event, and no copy is there to which an object has gone
pub record Restates (P : Protocol) (c : Cycle) (s : Space) (a : ℕ) (y : State) (e : Event) : Type 0 where
  pub was : IsStill (s.state a)
  pub is : IsStill y
  pub after_is : (x : Here) → after e x ≡ record x { state = y }
  pub copy_is : (d : FieldWord) → after_copy e d ≡ d
  pub makes : P.Makes e
  pub may : (f : ℕ) → May c (here s a f) e
  pub dated : Dated s.history e
  pub apart : (b : ℕ) → IsForward (s.state b) → s.to b ≢ a

module _ (P : Protocol) (L : ProtocolLaws P) (c : Cycle) (s : Space) (w : AreObjects P c s) (a : ℕ) (y : State) (e : Event) (r : Restates P c s a y e) where
  abbrev t : Space
  t = put_state s a y

  state_live : (x : ℕ) → IsLive (s.state x) → IsLive (t.state x)
  state_live x i = elim (set_cases s.state a x y) [ inl q ↦ rw q.1 (still_live y r.is) | inr q ↦ rw q.1 i ]

  state_homes : (x : ℕ) → IsHome (s.state x) → IsHome (t.state x)
  state_homes x i = elim (set_cases s.state a x y) [ inl q ↦ rw q.1 (still_home y r.is) | inr q ↦ rw q.1 i ]

  home_back : (x : ℕ) → IsHome (t.state x) → IsHome (s.state x)
  home_back x i = elim (set_cases s.state a x y) [ inl q ↦ rw q.0 (still_home (s.state a) r.was) | inr q ↦ rw q.1 at i ]

  state_back : (x : ℕ) → IsLive (t.state x) → IsLive (s.state x)
  state_back x i = elim (set_cases s.state a x y) [ inl q ↦ rw q.0 (still_live (s.state a) r.was) | inr q ↦ rw q.1 at i ]

  counts_goes : (x : ℕ) → Counts c (s.state x) → Counts c (t.state x)
  counts_goes x (inl k) = inl k
  counts_goes x (inr h) = inr (state_homes x h)

  counts_back : (x : ℕ) → Counts c (t.state x) → Counts c (s.state x)
  counts_back x (inl k) = inl k
  counts_back x (inr h) = inr (home_back x h)

  state_place : (x g : ℕ) → place_word c.mark (here t x g) (copy_word t x g) ≡ place_word c.mark (here s x g) (copy_word s x g)
  state_place x g = elim (set_cases s.state a x y) [
    | inl q ↦ rw (q.1, q.0) (still_place c.mark (here s a g) y (copy_word s a g) r.was r.is)
    | inr q ↦ rw q.1 refl
  ]

  state_sees : (x g : ℕ) → IsLive (s.state x) → g < s.len x → Sees P c s t x g
  state_sees x g i lt = elim (set_cases s.state a x y) [
    | inl q ↦ record {
      event = e;
      here_is = rw (q.1, r.after_is (here s x g)) refl;
      copy_is = inl (sym (r.copy_is (copy_word s x g)));
      makes = r.makes;
      may = rw q.0 (r.may g);
      dated = r.dated;
      place = inr (rw (q.0, r.after_is (here s a g), r.copy_is (copy_word s a g)) (still_place c.mark (here s a g) y (copy_word s a g) r.was r.is));
    }
    | inr q ↦ record { event = Quiet; here_is = rw q.1 refl; copy_is = inl refl; makes = L.shapes.makes_quiet; may = tt; dated = tt; place = inl tt }
  ]

  state_seen : Seen P c s t
  state_seen = record { live = state_live; counts = counts_goes; birth = λ x i. refl; len = λ x i. refl; colour = λ x i. refl; sees = state_sees; grows = λ h i. i }

  state_copy : (x b : ℕ) (z : State) → b ≢ a → IsCopy s x b z → IsCopy t x b z
  state_copy x b z n q = record { state = elim (set_cases s.state a b y) [ inl k ↦ absurd (n k.0) | inr k ↦ k.1 ∙ q.state ]; birth = q.birth; len = q.len }

  state_of : (x : ℕ) (Q : State → Type 0) → (Q y → ⊥) → Q (t.state x) → Q (s.state x)
  state_of x Q n i = elim (set_cases s.state a x y) [ inl q ↦ absurd (n (rw q.1 at i)) | inr q ↦ rw q.1 at i ]

  state_on : (v : FieldWord) → On (Holds s) v → On (Holds t) v
  state_on v = on_goes (Holds s) (Holds t) (λ b x h. (h.0, state_live x h.1)) v

  state_target : (x g : ℕ) → IsLive (t.state x) → TargetIs (here t x g) (t.state x)
  state_target x g i = elim (set_cases s.state a x y) [
    | inl q ↦ still_target (here t x g) (rw q.1 r.is)
    | inr q ↦ rw q.1 (w.target x g (state_back x i))
  ]

  state_objects : AreObjects P c t
  state_objects = record {
    placed = λ x g i lt. w.placed x g (home_back x i) lt ∙ sym (state_place x g);
    agrees = λ x g i lt. w.agrees x g (home_back x i) lt;
    home = λ x i. w.home x (home_back x i);
    target = state_target;
    copied = λ x i. let h = state_of x IsForward (still_forward y r.is) i in state_copy x (s.to x) Plain (r.apart x h) (w.copied x h);
    under = λ x i. let k = w.under x (state_of x IsCarrying (still_carrying y r.is) i) in state_copy x (s.to x) Underway (λ q. still_underway (s.state a) r.was (ap s.state (sym q) ∙ k.state)) k;
    fields = λ x g i lt. state_on (s.field x g) (w.fields x g (home_back x i) lt);
    words = λ x g i k lt. state_on (s.word x g) (w.words x g (state_back x i) (counts_back x k) lt);
    statuses = λ x g i k lt. state_on (held (s.status x g)) (w.statuses x g (state_back x i) (counts_back x k) lt);
    shape = λ x g i lt. shape_stays P L c s t w state_seen x g (state_back x i) lt;
    seals = w.seals;
    unsealed = λ x i. elim (set_cases s.state a x y) [ inl q ↦ rw q.0 (w.unsealed a r.was) | inr q ↦ w.unsealed x (rw q.1 at i) ];
    number = w.number;
    right = w.right;
  }

  pub restated : HasLens s → Restated P c s t
  restated lens = record { objects = state_objects; lens = λ x i. lens x (state_back x i); seen = state_seen; homes = state_homes }

-- ---- a pass calls a copy off, and the collector tags an object

pub keep_step : (P : Protocol) (L : ProtocolLaws P) (c : Cycle) (s : Space) (a : ℕ) → AreObjects P c s → HasLens s → P.Makes Keep → s.state a ≡ Tagged → Restated P c s (put_state s a Kept)
keep_step P L c s a w lens makes tagged = restated P L c s w a Kept Keep (record {
  was = rw tagged tt;
  is = tt;
  after_is = λ x. refl;
  copy_is = λ d. refl;
  makes = makes;
  may = λ f. tagged;
  dated = tt;
  apart = λ b i e. plain_tagged (s.state a) (ap s.state (sym e) ∙ (w.copied b i).state) tagged;
}) lens where
  plain_tagged : (x : State) → x ≡ Plain → x ≡ Tagged → ⊥
  plain_tagged x e q = cc (e, q)

pub tag_step : (P : Protocol) (L : ProtocolLaws P) (c : Cycle) (s : Space) (a : ℕ) → AreObjects P c s → HasLens s → P.Makes Tag → c.told ≡ Nobody → s.state a ≡ Plain → ((b : ℕ) → IsForward (s.state b) → s.to b ≢ a) → Restated P c s (put_state s a Tagged)
tag_step P L c s a w lens makes told plain apart = restated P L c s w a Tagged Tag
    (record { was = rw plain tt; is = tt; after_is = λ x. refl; copy_is = λ d. refl; makes = makes; may = λ f. (plain, told); dated = tt; apart = apart })
    lens
