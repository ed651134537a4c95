-- A step of a call, over any copier, keeps the objects lawful and the call where it stands.
use Rattle.std.proofs.Common.{◌≡◌, ◌≢◌, ℕ, ◌<◌, ◌⊎◌, inl, inr, refl, arith, ap, sym, subst, ◌∙◌, true, Option, Some, None, is_some, List, ◌∷◌}
use Rattle.heap_words.specs.declared.field_word.FieldWord.{FieldWord}
use Rattle.wide_objects.specs.Statuses.{InWide}
use Rattle.space_reclaim.specs.declared.move_job.MoveJob.{MoveJob}
use Rattle.heap_history.specs.FixedHeaps.{answer}
use Rattle.heap_history.specs.NewestFirst.{heap_of_history, value_at, len_at, Before}
use Rattle.heap_history.specs.ValueLaws.{len_at-stays}
use Rattle.heap_history.specs.declared.call.Call.{Call}
use Rattle.barriers.specs.declared.spot.Spot.{Spot}
use Rattle.barriers.specs.declared.ends.TryRefusal.TheVariants as refusal
use Rattle.barriers.specs.States.{State, Plain, Kept, Tagged, Underway, IsHome, IsLive, On}
use Rattle.barriers.specs.Spaces.{Space, Holds, Here, here, zone, Copied, copy_word}
use Rattle.barriers.specs.Values.{value_of}
use Rattle.barriers.specs.Cycles.{Cycle, Side}
use Rattle.barriers.specs.Knowns.{Task, Ending, Known, Over, Refused, Finds, at_field, has_field, hand_of, spot_of, task_of, copy_of, call_of, puts}
use Rattle.barriers.specs.Events.{IsUncopied, IsWide, Quiet, Keep, Write, Write_copy, Widen, after, May, Writable, Unmarked, event, grown}
use Rattle.barriers.specs.Moves.{Carried, job_of}
use Rattle.barriers.specs.Protocols.{Protocol, OnHand, OnFound, seen_after}
use Rattle.barriers.specs.ProtocolLaws.{At, StepEnd, GoesTo, ProtocolLaws, tagged_here}
use Rattle.barriers.specs.PlainCallLaws.{spot_at}
use Rattle.barriers.specs.Objects.{IsForward, IsCopy, AreObjects, IsSide, IsCall, IsMove, HasLens, IsMade, reply_made, tagged_header}
use Rattle.barriers.specs.Accesses.{put_word, put_status, put_state, found_in, space_after, side_after, known_after, history_after}
use Rattle.barriers.specs.CallTurns.{IsAimed, Seen, CallStep}
use Rattle.barriers.proofs.words.Sets.{set_here}
use Rattle.barriers.proofs.objects.Base.{set2_here, set2_else, hand_goes, carrying_home, copied_place, copied_state, not_underway}
use Rattle.barriers.proofs.objects.Changes.{IsPut, value_put, puts_word, puts_hand, puts_inside, puts_wanted, put_fits}
use Rattle.barriers.proofs.objects.MoveStays.{put_move, wide_move, keep_move}
use Rattle.barriers.proofs.objects.Outcomes.{Outcome, Still, Keeping, Putting, Putting_copy, Widening, outcome, found_on, found_goes, hand_holds}
use Rattle.barriers.proofs.objects.Puts.{Site, At_home, At_copy, writable_home, put_seen, put_objects}
use Rattle.barriers.proofs.objects.Seen.{value_here, same_seen, holds_goes, lens_go, header_stays}
use Rattle.barriers.proofs.objects.Stills.{keep_step}
use Rattle.barriers.proofs.objects.Widens.{wide_seen, wide_objects}

-- what the space becomes by the step
record IsTurn (P : Protocol) (c : Cycle) (s : Space) (side : Side) (k : Known) (t : Space) : Type 0 where
  objects : AreObjects P c t
  lens : HasLens t
  seen : Seen P c s t
  homes : (a : ℕ) → IsHome (s.state a) → IsHome (t.state a)
  moves : (m : Carried) (j : MoveJob) → job_of m ≡ Some j → IsMove P c s m j → IsMove P c t m j
  at_t : here t (spot_of k).at (spot_of k).field ≡ after (event k (found_in c s k)) (here s (spot_of k).at (spot_of k).field)
  told : t.history ≡ history_after c s side k

module _ (P : Protocol) (L : ProtocolLaws P) (c : Cycle) (s : Space) (side : Side) (k : Known) (at : at_field k ≡ Some (spot_of k)) (w : AreObjects P c s) (lens : HasLens s) (o : IsSide P c s side) (q : IsCall P c s side k) where
  abbrev z : Spot
  z = spot_of k

  abbrev a : ℕ
  a = z.at

  abbrev f : ℕ
  f = z.field

  abbrev x : Here
  x = here s a f

  abbrev d : FieldWord
  d = copy_word s a f

  abbrev found : Finds
  found = found_in c s k

  abbrev call : Call
  call = call_of side.pass z (task_of k)

  abbrev new : List Call
  new = history_after c s side k

  abbrev next : Known
  next = known_after P c s side k

  abbrev after_side : Side
  after_side = side_after c s side k

  live : IsLive (s.state a)
  live = (q.holds z at).1

  birth : s.birth a ≡ z.birth
  birth = (q.holds z at).0

  is_at : At P c side s.history z x d k
  is_at = record {
    live = live;
    target = w.target a f live;
    inside = q.inside z at;
    fits = o.fits q.runs;
    shape = λ lt. subst (λ b. P.Shape c b f x d) birth (w.shape a f live lt);
    agrees = λ lt. value_here P L c s w a f live lt ∙ ap (λ b. value_at s.history b f) birth;
    own = q.own z at;
    answered = q.answered;
    past = o.past;
    spot = at;
  }

  pub step_end : StepEnd P c side s.history z x k found
  step_end = L.calls.step c side s.history z x d k (w.seals a) is_at

  pub goes : GoesTo side.own k found next
  goes = L.calls.goes c side x k z found at (q.own z at)

  -- the copy that it is at
  copy_at : zone c.mark x.state x.word x.status ≡ Copied → IsCopy s a (s.to a) Plain ⊎ IsCopy s a (s.to a) Underway
  copy_at copied = elim (copied_state c.mark x copied) [ inl g ↦ inl (w.copied a g) | inr g ↦ inr (w.under a g) ]

  pub aimed : (to : ℕ) → copy_of k ≡ Some to → IsAimed c s a f to
  aimed to is =
      let aim = step_end.aim to is in
      rw aim.0 (elim (copy_at aim.1) [
        | inl y ↦ record { to_is = refl; place = aim.1; state = inl y.state; birth = y.birth; len = y.len }
        | inr y ↦ record { to_is = refl; place = aim.1; state = inr y.state; birth = y.birth; len = y.len }
      ])

  -- what it finds holds
  copy_holds : f < s.len a → zone c.mark x.state x.word x.status ≡ Copied → On (Holds s) d
  copy_holds inside copied = elim (copied_state c.mark x copied) [
    | inl g ↦ (let y = w.copied a g in w.words (s.to a) f (rw y.state tt) (inr (rw y.state tt)) (rw y.len inside))
    | inr g ↦ rw (sym (copied_place c.mark x d copied), sym (w.placed a f (carrying_home (s.state a) g) inside)) (w.fields a f (carrying_home (s.state a) g) inside)
  ]

  copy_inside : (k : Known) (to : ℕ) → copy_of k ≡ Some to → has_field k ≡ true
  copy_inside k to is = grind (arith, is)

  found_holds : OnFound (Holds s) found
  found_holds = found_on (Holds s) c.phase x d k
      (λ has. w.words a f live (q.counts z at) (q.inside z at has))
      (λ has. w.statuses a f live (q.counts z at) (q.inside z at has))
      (λ to is. copy_holds (q.inside z at (copy_inside k to is)) (step_end.aim to is).1)

  -- ---- its change

  word_holds : (v : FieldWord) → puts k found ≡ Some v → On (Holds s) v
  word_holds v e = rw (puts_hand k found v e) at q.hand

  inside_put : (v : FieldWord) → puts k found ≡ Some v → f < s.len a
  inside_put v e = q.inside z at (puts_inside k found v e)

  len_there : len_at s.history z.birth ≡ Some (s.len a)
  len_there = ap (len_at s.history) (sym birth) ∙ lens a live

  pub change_fits : (v : FieldWord) → puts k found ≡ Some v → answer (heap_of_history s.history) call ≡ reply_made (task_of k)
  change_fits v e = put_fits s side.pass z (task_of k) v (s.len a) lens (puts_word k found v e) (word_holds v e) len_there (inside_put v e) (rw (sym (puts_wanted k found v e)) (step_end.wants v e))

  is_put : (v : FieldWord) → puts k found ≡ Some v → IsPut s.history (call ∷ s.history) z.birth f (value_of v)
  is_put v e = value_put s.history side.pass z (task_of k) v (puts_word k found v e) (change_fits v e)

  -- ---- the call after it, in a space t

  seen_past : (o : Option FieldWord) → puts k found ≡ o → Before (seen_after o side z k x found s.history) (grown o call s.history)
  seen_past None e = step_end.past
  seen_past (Some v) e = inl refl

  made_by : (o : Option FieldWord) → puts k found ≡ o → is_some o ≡ true → IsMade (seen_after o side z k x found s.history) side.pass z (task_of k)
  made_by None e some = absurd cc
  made_by (Some v) e some = record { before = s.history; last = refl; answer = change_fits v e }

  same_spot : (y : Spot) → at_field next ≡ Some y → y ≡ z
  same_spot y e = elim goes.stays [
    | inl i ↦ absurd (let gone : None ≡ Some y = sym i ∙ e in cc)
    | inr i ↦ (let same : Some y ≡ Some z = sym e ∙ (i ∙ at) in cc)
  ]

  over_spot : (y : Spot) (t : Task) (end : Ending) → next ≡ Over y t end → y ≡ z
  over_spot y t end is = ap spot_of (sym is) ∙ goes.spot

  same_head : tagged_here z x ≡ tagged_header s a
  same_head = rw birth refl

  module _ (t : Space) (g : Seen P c s t) (at_t : here t a f ≡ after (event k found) x) (told : t.history ≡ new) where
    pub side_turned : IsSide P c t after_side
    side_turned = record {
      fits = λ runs. L.turns.fits_seen c side after_side.seen (o.fits runs);
      past = rw told (seen_past (puts k found) refl);
      number = o.number;
    }

    pub call_turned : IsCall P c t after_side next
    call_turned = record {
      runs = q.runs;
      holds = λ y e. let i = same_spot y e in rw i (holds_goes P L c s t w g z.birth a (q.holds z at));
      place = λ y e. let i = same_spot y e in rw i (q.place z at);
      inside = λ y e has. let i = same_spot y e in rw (i, g.len a live) (step_end.inside has);
      counts = λ y e. let i = same_spot y e in rw i (g.counts a (q.counts z at));
      hand = hand_holds (Holds t) side.own (hand_of k) found (hand_of next) (number side.own o.number) (hand_goes (Holds s) (Holds t) (holds_goes P L c s t w g) (hand_of k) q.hand) (found_goes (Holds s) (Holds t) (holds_goes P L c s t w g) found found_holds) goes.hands;
      head = λ h is. rw goes.spot (step_end.head h is ∙ (same_head ∙ sym (header_stays P L c s t w g a live)));
      own = λ y e. let i = same_spot y e in rw (i, at_t) step_end.own;
      answered = step_end.answered;
      refused = λ y task len is.
          let i = over_spot y task (Refused (refusal.NoField len)) is in
          let short = step_end.refused task len (rw i at is) in
          rw i (lens_go P L c s t w g z.birth len (len_there ∙ ap Some (sym short.0)), rw short.0 short.1);
      made = λ is. rw (goes.spot, goes.task) (made_by (puts k found) refl (sym goes.made ∙ is));
    } where
      number : (o : Option FieldWord) → OnHand (λ b a. ⊥) o → OnHand (Holds t) o
      number o h = hand_goes (λ b a. ⊥) (Holds t) (λ b y e. absurd e) o h

  -- ---- what it is to the objects

  new_is : (o : Option FieldWord) → puts k found ≡ o → new ≡ grown o call s.history
  new_is o e = ap (λ o. grown o call s.history) e

  later : (early : List Call) → Before early s.history → Before early new
  later early before = by_put (puts k found)
    where
      by_put : (o : Option FieldWord) → Before early (grown o call s.history)
      by_put None = before
      by_put (Some v) = inr before

  lens_later : (x : ℕ) → IsLive (s.state x) → len_at new (s.birth x) ≡ Some (s.len x)
  lens_later x i = by_put (puts k found)
    where
      by_put : (o : Option FieldWord) → len_at (grown o call s.history) (s.birth x) ≡ Some (s.len x)
      by_put None = lens x i
      by_put (Some v) = len_at-stays call s.history (s.birth x) (s.len x) (lens x i)

  now_put : (v : FieldWord) → puts k found ≡ Some v → IsPut s.history new z.birth f (value_of v)
  now_put v e = rw (new_is (Some v) e) (is_put v e)

  still : puts k found ≡ None → event k found ≡ Quiet → IsTurn P c s side k s
  still e ev = record { objects = w; lens = lens; seen = same_seen P L c s; homes = λ y i. i; moves = λ m j job move. move; at_t = rw ev refl; told = sym (new_is None e) }

  keeping : puts k found ≡ None → event k found ≡ Keep → IsTurn P c s side k (put_state s a Kept)
  keeping e ev =
      let makes : P.Makes Keep = subst P.Makes ev step_end.makes in
      let tagged : s.state a ≡ Tagged = subst (May c x) ev step_end.may in
      let kept = keep_step P L c s a w lens makes tagged in
      record {
        objects = kept.objects;
        lens = kept.lens;
        seen = kept.seen;
        homes = kept.homes;
        moves = λ m j job move. keep_move P L c s w m j job move a makes tagged;
        at_t = rw (ev, set_here s.state a Kept) refl;
        told = sym (new_is None e);
      }

  -- where the home is
  module _ (y : ℕ) (same : s.birth y ≡ z.birth) (home : IsHome (s.state y)) where
    home_is : s.home z.birth ≡ y
    home_is = ap s.home (sym same) ∙ w.home y home

    state_home : IsHome (s.state (s.home z.birth))
    state_home = rw home_is home

    birth_home : s.birth (s.home z.birth) ≡ z.birth
    birth_home = ap s.birth home_is ∙ same

    -- the word is put at this place
    putting_at : (v : FieldWord) (at : ℕ) → puts k found ≡ Some v → Unmarked c v → Site c s (s.home z.birth) at f v → here (put_word s z.birth at f v new) a f ≡ after (event k found) x → IsTurn P c s side k (put_word s z.birth at f v new)
    putting_at v to e clean site at_t = record {
      objects = put_objects P L c s w z.birth to f v new later state_home birth_home clean (word_holds v e) site (now_put v e);
      lens = lens_later;
      seen = put_seen P L c s w z.birth to f v new later state_home birth_home clean (word_holds v e) site (now_put v e);
      homes = λ y i. i;
      moves = λ m j job move. put_move P L c s w m j job move z.birth to f v new later state_home birth_home clean (word_holds v e) site (now_put v e);
      at_t = at_t;
      told = refl;
    }

  putting : (v : FieldWord) → puts k found ≡ Some v → event k found ≡ Write v → IsTurn P c s side k (put_word s z.birth a f v new)
  putting v e ev =
      let may : Writable c.told c.mark (s.state a) (s.word a f) v × Unmarked c v = subst (May c x) ev step_end.may in
      let home = writable_home c.told c.mark (s.state a) (s.word a f) v may.0 in
      putting_at a birth home v a e may.1 (At_home (sym (home_is a birth home)) may.0) (rw (ev, set2_here s.word a f v) refl)

  forward_plain : (y : State) → IsForward y → y ≡ Plain → ⊥
  forward_plain y g e = grind (arith, g, e)

  putting_copy : (v : FieldWord) → puts k found ≡ Some v → event k found ≡ Write_copy v → IsTurn P c s side k (put_word s z.birth (s.to a) f v new)
  putting_copy v e ev =
      let may : (zone c.mark x.state x.word x.status ≡ Copied) × Unmarked c v = subst (May c x) ev step_end.may in
      elim (copied_state c.mark x may.0) [
        | inl g ↦ (let y = w.copied a g in
            let same : s.birth (s.to a) ≡ z.birth = y.birth ∙ birth in
            let home : IsHome (s.state (s.to a)) = rw y.state tt in
            let apart : a ≢ s.to a = λ i. forward_plain (s.state a) g (ap s.state i ∙ y.state) in
            putting_at (s.to a) same home v (s.to a) e may.1 (At_home (sym (home_is (s.to a) same home)) (rw y.state tt)) (rw (ev, set2_else s.word (s.to a) f a f v (λ i. apart i.0)) refl))
        | inr g ↦ (let y = w.under a g in
            let home = carrying_home (s.state a) g in
            let h = home_is a birth home in
            let apart : a ≢ s.to a = λ i. not_underway (s.state a) live (ap s.state i ∙ y.state) in
            putting_at a birth home v (s.to a) e may.1 (At_copy (ap s.to (sym h)) (rw h g) (rw h may.0)) (rw (ev, set2_else s.word (s.to a) f a f v (λ i. apart i.0)) refl))
      ]

  widening : (v : FieldWord) → puts k found ≡ Some v → event k found ≡ Widen v → IsTurn P c s side k (put_status s z.birth a f v new)
  widening v e ev =
      let makes : P.Makes (Widen v) = subst P.Makes ev step_end.makes in
      let may : IsWide (s.state a) × IsUncopied (s.status a f) = subst (May c x) ev step_end.may in
      let put : IsPut s.history new (s.birth a) f (value_of v) = rw birth (now_put v e) in
      record {
        objects = rw (sym birth) (wide_objects P L c s w a f v new later makes may.0 may.1 (word_holds v e) put);
        lens = lens_later;
        seen = rw (sym birth) (wide_seen P L c s w a f v new later makes may.0 may.1 (word_holds v e) put);
        homes = λ y i. i;
        moves = λ m j job move. rw (sym birth) (wide_move P L c s w m j job move a f v new makes may.0 may.1);
        at_t = rw (ev, set2_here s.status a f (InWide v)) refl;
        told = refl;
      }

  by_outcome : Outcome k found → IsTurn P c s side k (space_after c s side k)
  by_outcome (Still ev e) = rw ev (still e ev)
  by_outcome (Keeping ev e) = rw ev (keeping e ev)
  by_outcome (Putting v ev e) = rw ev (putting v e ev)
  by_outcome (Putting_copy v ev e) = rw ev (putting_copy v e ev)
  by_outcome (Widening v ev e) = rw ev (widening v e ev)

  steps : CallStep P c s side k
  steps =
      let turn = by_outcome (outcome k found) in
      record {
        objects = turn.objects;
        lens = turn.lens;
        side = side_turned (space_after c s side k) turn.seen turn.at_t turn.told;
        call = call_turned (space_after c s side k) turn.seen turn.at_t turn.told;
        seen = turn.seen;
        homes = turn.homes;
        moves = turn.moves;
        goes = goes;
        found_inside = step_end.found_inside;
        aim = aimed;
        wide = step_end.wide;
        fits = change_fits;
      }

pub call_step : (P : Protocol) (L : ProtocolLaws P) (c : Cycle) (s : Space) (side : Side) (k : Known) (z : Spot) → at_field k ≡ Some z → AreObjects P c s → HasLens s → IsSide P c s side → IsCall P c s side k → CallStep P c s side k
call_step P L c s side k z at w lens o q = steps P L c s side k (at ∙ ap Some (sym (spot_at k z at))) w lens o q
