-- A step of a mover that leaves every object where it is.
use Rattle.std.proofs.Common.{◌≡◌, ◌≢◌, ℕ, ◌<◌, ◌⊎◌, inl, inr, refl, arith, ap, sym, subst, ◌∙◌, Option, Some, None, List}
use Rattle.heap_words.specs.declared.field_word.FieldWord.{FieldWord}
use Rattle.space_reclaim.specs.declared.move_job.MoveJob.{MoveJob}
use Rattle.heap_history.specs.NewestFirst.{Before}
use Rattle.heap_history.specs.declared.call.Call.{Call}
use Rattle.barriers.specs.States.{Plain, Underway, State, IsHome, IsLive, On}
use Rattle.barriers.specs.Spaces.{Space, Holds, Here, here, zone, Copied, place_word, copy_word, held}
use Rattle.barriers.specs.Cycles.{Cycle}
use Rattle.barriers.specs.Events.{Event, Quiet, after, after_copy, IsStill}
use Rattle.barriers.specs.Moves.{Carried, job_of, field_of, move_finds, move_event}
use Rattle.barriers.specs.Protocols.{Protocol, TargetIs}
use Rattle.barriers.specs.ProtocolLaws.{Dated, MayEnd, MoveEnd, ProtocolLaws}
use Rattle.barriers.specs.Objects.{IsCarrying, IsForward, Counts, IsCopy, IsLaid, HasLens, AreObjects, IsMove}
use Rattle.barriers.specs.CallTurns.{Sees, Seen}
use Rattle.barriers.specs.MoveTurns.{SameBody, MovesTo, mover_after}
use Rattle.barriers.proofs.objects.Base.{number_tells, on_goes, home_live, home_forward, place_apart, place_cong}
use Rattle.barriers.proofs.objects.Seen.{shape_stays}
use Rattle.barriers.proofs.objects.MoveStays.{laid_at, same_head, head_at, live_at, not_from}

-- the past that a seal is set to is the one now
pub event_dated : (mark : Option FieldWord) (h : List Call) (m : Carried) (g : ℕ) (x : Here) → Dated h (move_event mark h m g x)
event_dated mark h m g x = grind arith

module _ (P : Protocol) where
  -- t is s, but for the original at j.from and the words of its copy
  pub record Carries (c : Cycle) (s t : Space) (m : Carried) (j : MoveJob) : Type 0 where
    pub body : (a : ℕ) → SameBody s t a
    pub home_is : (b : ℕ) → t.home b ≡ s.home b
    pub history_is : t.history ≡ s.history
    pub field_is : (a g : ℕ) → t.field a g ≡ s.field a g
    pub state_is : (a : ℕ) → a ≢ j.from → t.state a ≡ s.state a
    pub seal_is : (a : ℕ) → a ≢ j.from → t.seal a ≡ s.seal a
    pub homed : IsHome (t.state j.from)
    pub target : (g : ℕ) → TargetIs (here t j.from g) (t.state j.from)
    pub unsealed : IsStill (t.state j.from) → t.seal j.from ≡ None
    pub own : (g : ℕ) → here t j.from g ≡ after (move_event c.mark s.history m g (here s j.from g)) (here s j.from g)
    pub own_copy : (g : ℕ) → copy_word t j.from g ≡ after_copy (move_event c.mark s.history m g (here s j.from g)) (copy_word s j.from g)
    pub others : (a g : ℕ) → a ≢ j.from → IsLive (s.state a) → here t a g ≡ here s a g
    pub others_copy : (a g : ℕ) → a ≢ j.from → IsLive (s.state a) → (copy_word t a g ≡ copy_word s a g) ⊎ (zone c.mark (s.state a) (s.word a g) (s.status a g) ≡ Copied → ⊥)
    pub words : (a g : ℕ) → IsLive (s.state a) → Counts c (s.state a) → g < s.len a → On (Holds s) (t.word a g)
    pub statuses : (a g : ℕ) → IsLive (s.state a) → Counts c (s.state a) → g < s.len a → On (Holds s) (held (t.status a g))
    pub seals : (a : ℕ) (past : List Call) → t.seal a ≡ Some past → Before past s.history
    pub sealed : (past : List Call) → s.seal j.from ≡ Some past → t.seal j.from ≡ Some past
    pub laid : IsLaid t j
    -- and the mover has not ended
    pub goes_on : MayEnd m (s.state j.from) → ⊥

  module _ (L : ProtocolLaws P) (c : Cycle) (s : Space) (w : AreObjects P c s) (m : Carried) (j : MoveJob) (job : job_of m ≡ Some j) (o : IsMove P c s m j) where
    abbrev y : Here
    y = here s j.from (field_of m)

    abbrev next : Carried
    next = mover_after P s m j

    abbrev event : ℕ → Event
    event g = move_event c.mark s.history m g (here s j.from g)

    pub head_here : P.MoveHead c m y
    head_here = head_at P L c s w m j job o (field_of m)

    from_live : IsLive (s.state j.from)
    from_live = live_at P L c s w m j job o

    pub in_job : (g : ℕ) → g < s.len j.from → g < j.len
    in_job g lt = rw (sym o.len) lt

    in_object : (g : ℕ) → g < j.len → g < s.len j.from
    in_object g lt = rw o.len lt

    -- with any word for the copy at which the copier's parts hold
    pub move_end_at : (g : ℕ) (d v : FieldWord) → g < j.len → (g ≡ field_of m → d ≡ v) → P.Shape c (s.birth j.from) g (here s j.from g) d → P.MoveField c m g (here s j.from g) d → MoveEnd P c s.history m g (here s j.from g) d (move_finds y m)
    move_end_at g d v lt e shape field = L.moves.step c s.history m j g (s.birth j.from) (here s j.from g) y d v job lt (same_head (here s j.from g) y.word y.status) (λ q. (ap (here s j.from) q, e q)) shape head_here field

    pub move_end : (g : ℕ) → g < j.len → MoveEnd P c s.history m g (here s j.from g) (copy_word s j.from g) (move_finds y m)
    move_end g lt = move_end_at g (copy_word s j.from g) (copy_word s j.from (field_of m)) lt (λ q. ap (copy_word s j.from) q) (w.shape j.from g from_live (in_object g lt)) (o.field g lt)

    -- what is known of the header after it
    pub head_after : P.MoveHead c next (after (event 0) (here s j.from 0))
    head_after = L.moves.head c s.history m j 0 (here s j.from 0) y job (same_head (here s j.from 0) y.word y.status) head_here

    pub job_after : (k : MoveJob) → job_of next ≡ Some k → k ≡ j
    job_after k e = L.moves.job c m j k y job head_here e

    pub end_after : job_of next ≡ None → MayEnd m (s.state j.from)
    end_after none = L.moves.ends c m j y job head_here none

    module _ (t : Space) (k : Carries c s t m j) where
      holds : (b a : ℕ) → Holds s b a → Holds t b a
      holds b a h = ((k.body a).birth ∙ h.0, elim (number_tells a j.from) [ inl e ↦ rw e (home_live (t.state j.from) k.homed) | inr n ↦ rw (k.state_is a n) h.1 ])

      live_back : (a : ℕ) → IsLive (t.state a) → IsLive (s.state a)
      live_back a i = elim (number_tells a j.from) [ inl e ↦ rw e from_live | inr n ↦ rw (k.state_is a n) at i ]

      home_back : (a : ℕ) → IsHome (t.state a) → IsHome (s.state a)
      home_back a i = elim (number_tells a j.from) [ inl e ↦ rw e o.live | inr n ↦ rw (k.state_is a n) at i ]

      carry_sees : (a g : ℕ) → IsLive (s.state a) → g < s.len a → Sees P c s t a g
      carry_sees a g i lt = elim (number_tells a j.from) [
        | inl e ↦ (let q = move_end g (in_job g (rw e at lt)) in rw e (record {
          event = event g;
          here_is = k.own g;
          copy_is = inl (k.own_copy g);
          makes = q.makes;
          may = q.may;
          dated = event_dated c.mark s.history m g (here s j.from g);
          place = inr (q.place from_live);
        }))
        | inr n ↦ record {
          event = Quiet;
          here_is = k.others a g n i;
          copy_is = elim (k.others_copy a g n i) [ inl q ↦ inl q | inr q ↦ inr (subst (λ x. zone c.mark x.state x.word x.status ≡ Copied → ⊥) (sym (k.others a g n i)) q) ];
          makes = L.shapes.makes_quiet;
          may = tt;
          dated = tt;
          place = inl tt;
        }
      ]

      carry_seen : Seen P c s t
      carry_seen = record {
        live = λ a i. elim (number_tells a j.from) [ inl e ↦ rw e (home_live (t.state j.from) k.homed) | inr n ↦ rw (k.state_is a n) i ];
        counts = λ a i. inl o.late;
        birth = λ a i. (k.body a).birth;
        len = λ a i. (k.body a).len;
        colour = λ a i. (k.body a).colour;
        sees = carry_sees;
        grows = λ h i. rw k.history_is i;
      }

      carry_place : (a g : ℕ) → IsHome (s.state a) → g < s.len a → place_word c.mark (here t a g) (copy_word t a g) ≡ place_word c.mark (here s a g) (copy_word s a g)
      carry_place a g i lt = elim (number_tells a j.from) [
        | inl e ↦ rw e (place_cong c.mark (here t j.from g) (after (event g) (here s j.from g)) (copy_word t j.from g) (after_copy (event g) (copy_word s j.from g)) (k.own g) (k.own_copy g) ∙ (move_end g (in_job g (rw e at lt))).place from_live)
        | inr n ↦ place_cong c.mark (here t a g) (here s a g) (copy_word t a g) (copy_word t a g) (k.others a g n (home_live (s.state a) i)) refl ∙ (elim (k.others_copy a g n (home_live (s.state a) i)) [
          | inl q ↦ rw q refl
          | inr q ↦ place_apart c.mark (here s a g) (copy_word s a g) (copy_word t a g) q
        ])
      ]

      to_on : (v : FieldWord) → On (Holds s) v → On (Holds t) v
      to_on v = on_goes (Holds s) (Holds t) holds v

      inside : (a f : ℕ) → f < t.len a → f < s.len a
      inside a f lt = rw (k.body a).len at lt

      carry_target : (a g : ℕ) → IsLive (t.state a) → TargetIs (here t a g) (t.state a)
      carry_target a g i = elim (number_tells a j.from) [
        | inl e ↦ rw e (k.target g)
        | inr n ↦ (let live = live_back a i in subst (λ x. TargetIs x x.state) (sym (k.others a g n live)) (w.target a g live))
      ]

      -- another object's copy is not the original
      copy_of_other : (a : ℕ) (x : State) → IsCopy s a (s.to a) x → s.to a ≢ j.from → IsCopy t a (t.to a) x
      copy_of_other a x q n = rw (k.body a).to (record {
        state = k.state_is (s.to a) n ∙ q.state;
        birth = (k.body (s.to a)).birth ∙ (q.birth ∙ sym (k.body a).birth);
        len = (k.body (s.to a)).len ∙ (q.len ∙ sym (k.body a).len);
      })

      carry_copied : (a : ℕ) → IsForward (t.state a) → IsCopy t a (t.to a) Plain
      carry_copied a i = elim (number_tells a j.from) [
        | inl e ↦ absurd (home_forward (t.state j.from) k.homed (rw e at i))
        | inr n ↦ (let h : IsForward (s.state a) = rw (k.state_is a n) at i in copy_of_other a Plain (w.copied a h) (o.apart a h))
      ]

      carry_under : (a : ℕ) → IsCarrying (t.state a) → IsCopy t a (t.to a) Underway
      carry_under a i = elim (number_tells a j.from) [
        | inl e ↦ rw (e, k.laid.to) k.laid.copy
        | inr n ↦ (let h : IsCarrying (s.state a) = rw (k.state_is a n) at i in copy_of_other a Underway (w.under a h) (not_from P L c s w m j job o a h))
      ]

      carry_objects : AreObjects P c t
      carry_objects = record {
        placed = λ a g i lt. let h = home_back a i in let l = inside a g lt in k.field_is a g ∙ (w.placed a g h l ∙ sym (carry_place a g h l));
        agrees = λ a g i lt. rw (k.field_is a g, k.history_is, (k.body a).birth) (w.agrees a g (home_back a i) (inside a g lt));
        home = λ a i. rw ((k.body a).birth, k.home_is (s.birth a)) (w.home a (home_back a i));
        target = carry_target;
        copied = carry_copied;
        under = carry_under;
        fields = λ a g i lt. rw (k.field_is a g) (to_on (s.field a g) (w.fields a g (home_back a i) (inside a g lt)));
        words = λ a g i r lt. to_on (t.word a g) (k.words a g (live_back a i) (inl o.late) (inside a g lt));
        statuses = λ a g i r lt. to_on (held (t.status a g)) (k.statuses a g (live_back a i) (inl o.late) (inside a g lt));
        shape = λ a g i lt. shape_stays P L c s t w carry_seen a g (live_back a i) (inside a g lt);
        seals = λ a past e. rw k.history_is (k.seals a past e);
        unsealed = λ a i. elim (number_tells a j.from) [ inl e ↦ rw e (k.unsealed (rw e at i)) | inr n ↦ k.seal_is a n ∙ w.unsealed a (rw (k.state_is a n) at i) ];
        number = w.number;
        right = w.right;
      }

      carry_move : IsMove P c t next j
      carry_move = record {
        late = o.late;
        live = k.homed;
        len = (k.body j.from).len ∙ o.len;
        birth = (k.body j.from).birth ∙ o.birth;
        header = rw (k.body j.from).colour o.header;
        apart = λ a h e. elim (number_tells a j.from) [ inl q ↦ home_forward (t.state j.from) k.homed (rw q at h) | inr n ↦ o.apart a (rw (k.state_is a n) at h) (sym (k.body a).to ∙ e) ];
        copy = laid_at t next j (λ q z. L.moves.begins m (move_finds y m) q z) k.laid;
        head = rw (k.own 0) head_after;
        field = λ g lt. rw (k.own g, k.own_copy g) ((move_end g lt).field);
      }

      pub carries_to : HasLens s → MovesTo P c s t next j
      carries_to lens = record {
        objects = carry_objects;
        lens = λ a i. rw (k.history_is, (k.body a).birth, (k.body a).len) (lens a (live_back a i));
        seen = carry_seen;
        move = λ i e. let same = job_after i e in (same, rw same carry_move);
        ended = λ none. absurd (k.goes_on (end_after none));
        history = k.history_is;
        others = λ a n d. record { state = k.state_is a n; seal = k.seal_is a n; body = k.body a };
        sealed = λ a past i e. elim (number_tells a j.from) [ inl q ↦ rw q (k.sealed past (rw q at e)) | inr n ↦ k.seal_is a n ∙ e ];
      }
