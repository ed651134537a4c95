-- A new object, where nothing is.
use Rattle.std.specs.Prelude.{unwrap_or}
use Rattle.std.specs.Option.{option_map}
use Rattle.std.proofs.Common.{◌≡◌, ◌≢◌, ℕ, ◌<◌, ◌⊎◌, inl, inr, refl, arith, ap, sym, subst, ◌∙◌, length, Option, Some, None, List, ◌∷◌}
use Rattle.heap_words.specs.declared.field_word.FieldWord.{FieldWord}
use Rattle.heap_words.specs.declared.field_word.FieldWord.TheVariants.{Num}
use Rattle.object_headers.specs.declared.header.Colour.{Colour}
use Rattle.wide_objects.specs.Statuses.{InOriginal}
use Rattle.space_reclaim.specs.declared.move_job.MoveJob.{MoveJob}
use Rattle.heap_history.specs.FixedHeaps.{answer, fields_of, field_in}
use Rattle.heap_history.specs.NewestFirst.{heap_of_history, value_at, len_at}
use Rattle.heap_history.specs.ValueLaws.{value_at-new, len_at-new, len_at-made, len_at-stays}
use Rattle.heap_history.specs.declared.call.Call.{Call}
use Rattle.heap_history.specs.declared.call.Call.TheVariants.{NewObject}
use Rattle.heap_history.specs.declared.call.Reply.TheVariants.{Made}
use Rattle.heap_history.specs.declared.call.Value.{Value}
use Rattle.heap_history.specs.declared.call.Value.TheVariants as values
use Rattle.barriers.specs.Sets.{set}
use Rattle.barriers.specs.States.{State, Absent, Plain, Underway, IsHome, IsLive, On}
use Rattle.barriers.specs.Spaces.{Space, Holds, Here, here, zone, Copied, place_word, copy_word, held}
use Rattle.barriers.specs.Values.{value_of}
use Rattle.barriers.specs.Cycles.{Cycle}
use Rattle.barriers.specs.Events.{Quiet}
use Rattle.barriers.specs.Moves.{Carried, job_of}
use Rattle.barriers.specs.Protocols.{Protocol, TargetIs}
use Rattle.barriers.specs.ProtocolLaws.{ProtocolLaws}
use Rattle.barriers.specs.Objects.{IsCarrying, IsForward, IsCopy, IsLaid, AreObjects, IsMove, HasLens}
use Rattle.barriers.specs.Says.{append}
use Rattle.barriers.specs.CallTurns.{Sees, Seen}
use Rattle.barriers.specs.MoveTurns.{SameBody}
use Rattle.barriers.proofs.words.Sets.{set_here, set_else}
use Rattle.barriers.proofs.objects.Base.{number_tells, on_goes, home_live, forward_live, carrying_home, copied_state, place_apart, place_cong, plain_place}
use Rattle.barriers.proofs.objects.Seen.{holds_goes, shape_stays}
use Rattle.barriers.proofs.objects.MoveStays.{copy_goes, laid_goes, move_goes, field_goes}

pub live_absent : (x : State) → IsLive x → x ≡ Absent → ⊥
live_absent x i e = grind (arith, i, e)

-- a field of an object that is not there
value_none : (h : List Call) (birth field : ℕ) → len_at h birth ≡ None → value_at h birth field ≡ values.Num 0
value_none h birth field none = by_found (fields_of (heap_of_history h) birth) none
  where
    by_found : (found : Option (List Value)) → option_map length found ≡ None → unwrap_or (field_in found field) (values.Num 0) ≡ values.Num 0
    by_found None is = refl
    by_found (Some values) is = absurd cc

plain_target : (x : Here) → x.state ≡ Plain → TargetIs x x.state
plain_target x e = rw e tt

-- at a where no object begins, and with a birth number that the heap has not
module _ (P : Protocol) (L : ProtocolLaws P) (c : Cycle) (s : Space) (w : AreObjects P c s) (lens : HasLens s) (k len birth : ℕ) (colour : Colour) (pass : ℕ) (absent : s.state (s.ends k) ≡ Absent)
    (said : answer (heap_of_history s.history) (NewObject pass birth len) ≡ Made) where
  abbrev a : ℕ
  a = s.ends k

  abbrev call : Call
  call = NewObject pass birth len

  abbrev t : Space
  t = append s k len birth colour call

  fresh : (x : ℕ) → IsLive (s.state x) → s.birth x ≢ birth
  fresh x i e = let gone : None ≡ Some (s.len x) = sym (len_at-made s.history pass birth len said) ∙ (ap (len_at s.history) (sym e) ∙ lens x i) in cc

  not_a : (x : ℕ) → IsLive (s.state x) → x ≢ a
  not_a x i e = live_absent (s.state x) i (ap s.state e ∙ absent)

  row : {A : Type 0} (f : ℕ → ℕ → A) (x g : ℕ) (r : ℕ → A) → x ≢ a → set f a r x g ≡ f x g
  row f x g r n = ap (λ h. h g) (set_else f a x r n)

  new_here : (x g : ℕ) → x ≢ a → here t x g ≡ here s x g
  new_here x g n = rw (set_else s.state a x Plain n, set_else s.colour a x colour n, set_else s.len a x len n, row s.word x g (λ f. Num 0) n, set_else s.wide a x 0 n, row s.status x g (λ f. InOriginal) n, set_else s.seal a x None n) refl

  new_state : (x : ℕ) → x ≢ a → t.state x ≡ s.state x
  new_state x n = set_else s.state a x Plain n

  new_copy : (x g : ℕ) → (copy_word t x g ≡ copy_word s x g) ⊎ (zone c.mark (s.state x) (s.word x g) (s.status x g) ≡ Copied → ⊥)
  new_copy x g = elim (number_tells (s.to x) a) [
    | inl e ↦ inr (λ z. elim (copied_state c.mark (here s x g) z) [
      | inl h ↦ plain_absent (s.state (s.to x)) (ap s.state e ∙ absent) ((w.copied x h).state)
      | inr h ↦ under_absent (s.state (s.to x)) (ap s.state e ∙ absent) ((w.under x h).state)
    ])
    | inr e ↦ inl (row s.word (s.to x) g (λ f. Num 0) e)
  ] where
    plain_absent : (y : State) → y ≡ Absent → y ≡ Plain → ⊥
    plain_absent y e q = cc (e, q)

    under_absent : (y : State) → y ≡ Absent → y ≡ Underway → ⊥
    under_absent y e q = cc (e, q)

  new_sees : (x g : ℕ) → IsLive (s.state x) → g < s.len x → Sees P c s t x g
  new_sees x g i lt = let n = not_a x i in record {
    event = Quiet;
    here_is = new_here x g n;
    copy_is = elim (new_copy x g) [ inl q ↦ inl q | inr q ↦ inr (subst (λ y. zone c.mark y.state y.word y.status ≡ Copied → ⊥) (sym (new_here x g n)) q) ];
    makes = L.shapes.makes_quiet;
    may = tt;
    dated = tt;
    place = inl tt;
  }

  live_stays : (x : ℕ) → IsLive (s.state x) → IsLive (t.state x)
  live_stays x i = rw (new_state x (not_a x i)) i

  pub made_homes : (x : ℕ) → IsHome (s.state x) → IsHome (t.state x)
  made_homes x h = rw (new_state x (not_a x (home_live (s.state x) h))) h

  pub made_seen : Seen P c s t
  made_seen = record {
    live = live_stays;
    counts = λ x r. elim r [ inl l ↦ inl l | inr h ↦ inr (made_homes x h) ];
    birth = λ x i. set_else s.birth a x birth (not_a x i);
    len = λ x i. set_else s.len a x len (not_a x i);
    colour = λ x i. set_else s.colour a x colour (not_a x i);
    sees = new_sees;
    grows = λ h i. inr i;
  }

  old_len : (x g : ℕ) → x ≢ a → g < t.len x → g < s.len x
  old_len x g n lt = rw (set_else s.len a x len n) at lt

  a_state : t.state a ≡ Plain
  a_state = set_here s.state a Plain

  zero_at : (g : ℕ) → t.word a g ≡ Num 0
  zero_at g = ap (λ r. r g) (set_here s.word a (λ f. Num 0))

  zero_field : (g : ℕ) → t.field a g ≡ Num 0
  zero_field g = ap (λ r. r g) (set_here s.field a (λ f. Num 0))

  new_on : (v : FieldWord) → On (Holds s) v → On (Holds t) v
  new_on v = on_goes (Holds s) (Holds t) (holds_goes P L c s t w made_seen) v

  new_place : (x g : ℕ) → IsHome (s.state x) → g < s.len x → place_word c.mark (here t x g) (copy_word t x g) ≡ place_word c.mark (here s x g) (copy_word s x g)
  new_place x g i lt = place_cong c.mark (here t x g) (here s x g) (copy_word t x g) (copy_word t x g) (new_here x g (not_a x (home_live (s.state x) i))) refl ∙ (elim (new_copy x g) [
    | inl q ↦ rw q refl
    | inr q ↦ place_apart c.mark (here s x g) (copy_word s x g) (copy_word t x g) q
  ])

  made_at : (x g : ℕ) → value_at (call ∷ s.history) x g ≡ value_at s.history x g
  made_at x g = value_at-new s.history pass birth len x g said

  new_is_copy : (x : ℕ) (y : State) → IsLive (s.state x) → (y ≡ Absent → ⊥) → IsCopy s x (s.to x) y → IsCopy t x (s.to x) y
  new_is_copy x y i n q =
      let e : s.to x ≢ a = λ e. n (sym q.state ∙ (ap s.state e ∙ absent)) in
      record {
        state = new_state (s.to x) e ∙ q.state;
        birth = set_else s.birth a (s.to x) birth e ∙ (q.birth ∙ sym (set_else s.birth a x birth (not_a x i)));
        len = set_else s.len a (s.to x) len e ∙ (q.len ∙ sym (set_else s.len a x len (not_a x i)));
      }

  pub made_objects : AreObjects P c t
  made_objects = record {
    placed = λ x g i lt. elim (number_tells x a) [
      | inl e ↦ rw e (zero_field g ∙ (sym (zero_at g) ∙ sym (plain_place c.mark (here t a g) (copy_word t a g) a_state)))
      | inr n ↦ (let h : IsHome (s.state x) = rw (new_state x n) at i in let l = old_len x g n lt in row s.field x g (λ f. Num 0) n ∙ (w.placed x g h l ∙ sym (new_place x g h l)))
    ];
    agrees = λ x g i lt. elim (number_tells x a) [
      | inl e ↦ rw e (ap value_of (zero_field g) ∙ sym (ap (λ b. value_at (call ∷ s.history) b g) (set_here s.birth a birth) ∙ (made_at birth g ∙ value_none s.history birth g (len_at-made s.history pass birth len said))))
      | inr n ↦ (let h : IsHome (s.state x) = rw (new_state x n) at i in
          ap value_of (row s.field x g (λ f. Num 0) n) ∙ (w.agrees x g h (old_len x g n lt) ∙ sym (ap (λ b. value_at (call ∷ s.history) b g) (set_else s.birth a x birth n) ∙ made_at (s.birth x) g)))
    ];
    home = λ x i. elim (number_tells x a) [
      | inl e ↦ rw e (ap t.home (set_here s.birth a birth) ∙ set_here s.home birth a)
      | inr n ↦ (let h : IsHome (s.state x) = rw (new_state x n) at i in ap t.home (set_else s.birth a x birth n) ∙ (set_else s.home birth (s.birth x) a (fresh x (home_live (s.state x) h)) ∙ w.home x h))
    ];
    target = λ x g i. elim (number_tells x a) [ inl e ↦ rw e (plain_target (here t a g) a_state) | inr n ↦ subst (λ y. TargetIs y y.state) (sym (new_here x g n)) (w.target x g (rw (new_state x n) at i)) ];
    copied = λ x i. elim (number_tells x a) [ inl e ↦ absurd (rw (e, a_state) at i) | inr n ↦ (let h : IsForward (s.state x) = rw (new_state x n) at i in new_is_copy x Plain (forward_live (s.state x) h) (λ e. cc e) (w.copied x h)) ];
    under = λ x i. elim (number_tells x a) [ inl e ↦ absurd (rw (e, a_state) at i) | inr n ↦ (let h : IsCarrying (s.state x) = rw (new_state x n) at i in new_is_copy x Underway (home_live (s.state x) (carrying_home (s.state x) h)) (λ e. cc e) (w.under x h)) ];
    fields = λ x g i lt. elim (number_tells x a) [
      | inl e ↦ rw (e, zero_field g) tt
      | inr n ↦ rw (row s.field x g (λ f. Num 0) n) (new_on (s.field x g) (w.fields x g (rw (new_state x n) at i) (old_len x g n lt)))
    ];
    words = λ x g i r lt. elim (number_tells x a) [
      | inl e ↦ rw (e, zero_at g) tt
      | inr n ↦ rw (row s.word x g (λ f. Num 0) n) (new_on (s.word x g) (w.words x g (rw (new_state x n) at i) (rw (new_state x n) at r) (old_len x g n lt)))
    ];
    statuses = λ x g i r lt. elim (number_tells x a) [
      | inl e ↦ rw (e, ap (λ r. r g) (set_here s.status a (λ f. InOriginal))) tt
      | inr n ↦ rw (row s.status x g (λ f. InOriginal) n) (new_on (held (s.status x g)) (w.statuses x g (rw (new_state x n) at i) (rw (new_state x n) at r) (old_len x g n lt)))
    ];
    shape = λ x g i lt. elim (number_tells x a) [
      | inl e ↦ rw e (L.shapes.born c (t.birth a) g (here t a g) (copy_word t a g) w.right (record { state = a_state; seal = set_here s.seal a None; status = ap (λ r. r g) (set_here s.status a (λ f. InOriginal)) }) (zero_at g))
      | inr n ↦ shape_stays P L c s t w made_seen x g (rw (new_state x n) at i) (old_len x g n lt)
    ];
    seals = λ x past e. elim (number_tells x a) [
      | inl q ↦ absurd (let gone : None ≡ Some past = sym (ap t.seal q ∙ set_here s.seal a None) ∙ e in cc)
      | inr n ↦ inr (w.seals x past (sym (set_else s.seal a x None n) ∙ e))
    ];
    unsealed = λ x i. elim (number_tells x a) [
      | inl e ↦ rw e (set_here s.seal a None)
      | inr n ↦ set_else s.seal a x None n ∙ w.unsealed x (rw (new_state x n) at i)
    ];
    number = w.number;
    right = w.right;
  }

  pub made_lens : HasLens t
  made_lens x i = elim (number_tells x a) [
    | inl e ↦ rw e (ap (len_at (call ∷ s.history)) (set_here s.birth a birth) ∙ (len_at-new s.history pass birth len said ∙ ap Some (sym (set_here s.len a len))))
    | inr n ↦ (let h : IsLive (s.state x) = rw (new_state x n) at i in
        ap (len_at (call ∷ s.history)) (set_else s.birth a x birth n) ∙ (len_at-stays call s.history (s.birth x) (s.len x) (lens x h) ∙ ap Some (sym (set_else s.len a x len n))))
  ]

  -- ---- a move whose copy is elsewhere stays where it is
  module _ (m : Carried) (j : MoveJob) (job : job_of m ≡ Some j) (o : IsMove P c s m j) (apart : a ≢ j.to) where
    from_a : j.from ≢ a
    from_a = not_a j.from (home_live (s.state j.from) o.live)

    to_a : j.to ≢ a
    to_a e = apart (sym e)

    same_body : (x : ℕ) → x ≢ a → SameBody s t x
    same_body x n = record { colour = set_else s.colour a x colour n; len = set_else s.len a x len n; birth = set_else s.birth a x birth n; to = refl; wide = set_else s.wide a x 0 n }

    laid_stays : IsLaid s j → IsLaid t j
    laid_stays = laid_goes s t j (same_body j.from from_a) (same_body j.to to_a) (λ e. new_state j.to to_a ∙ e) (λ g. row s.status j.to g (λ f. InOriginal) to_a) (set_else s.seal a j.to None to_a)

    copy_stays : IsLaid s j → (g : ℕ) → copy_word t j.from g ≡ copy_word s j.from g
    copy_stays k g = row s.word (s.to j.from) g (λ f. Num 0) (λ e. to_a (sym k.to ∙ e))

    pub made_leaves_move : IsMove P c t m j
    made_leaves_move =
        let copy = copy_goes s t m j (λ e. new_state j.to to_a ∙ e) laid_stays o.copy in
        let field = field_goes P L c s w m j job o t (λ k g lt. rw (new_here j.from g from_a, copy_stays k g) (o.field g lt)) in
        move_goes P L c s w m j job o t (same_body j.from from_a) (made_homes j.from o.live) forwards copy (rw (new_here j.from 0 from_a) o.head) field
      where
        forwards : (x : ℕ) → IsForward (t.state x) → s.to x ≢ j.from
        forwards x i = elim (number_tells x a) [ inl e ↦ absurd (rw (e, a_state) at i) | inr n ↦ o.apart x (rw (new_state x n) at i) ]
