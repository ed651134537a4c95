-- The steps of a mover that leave every object where it is, one kind after the other.
use Rattle.std.proofs.Common.{◌≡◌, ◌≢◌, ℕ, ◌<◌, ◌⊎◌, inl, inr, refl, sym, ◌∙◌, Option, Some, None, List}
use Rattle.heap_words.specs.declared.field_word.FieldWord.{FieldWord}
use Rattle.wide_objects.specs.Statuses.{Status}
use Rattle.space_reclaim.specs.declared.move_job.MoveJob.{MoveJob}
use Rattle.heap_history.specs.NewestFirstLaws.{Before-refl}
use Rattle.heap_history.specs.NewestFirst.{Before}
use Rattle.heap_history.specs.declared.call.Call.{Call}
use Rattle.barriers.specs.Sets.{set, set2}
use Rattle.barriers.specs.States.{State, Tagged, Wide, Moving, IsHome, IsLive, On}
use Rattle.barriers.specs.Spaces.{Space, Holds, Here, here, zone, Copied, copy_word, held}
use Rattle.barriers.specs.Cycles.{Cycle}
use Rattle.barriers.specs.Events.{Event, Quiet, Point, Seal, Move, Put_copy, Mark, after, after_copy, IsStill}
use Rattle.barriers.specs.Moves.{Carried, job_of, move_event}
use Rattle.barriers.specs.Protocols.{Protocol, TargetIs}
use Rattle.barriers.specs.ProtocolLaws.{MayEnd, ProtocolLaws}
use Rattle.barriers.specs.Objects.{Counts, IsLaid, HasLens, AreObjects, IsMove}
use Rattle.barriers.specs.Accesses.{put_state}
use Rattle.barriers.specs.MoveSteps.{seal_wide}
use Rattle.barriers.specs.MoveTurns.{SameBody, MovesTo, mover_after}
use Rattle.barriers.proofs.words.Sets.{set_here, set_else, set2_cases}
use Rattle.barriers.proofs.objects.Base.{number_tells, set2_here, set2_else, copied_state}
use Rattle.barriers.proofs.objects.MoveStays.{laid_goes, live_at, not_to, to_apart, not_gone, the_one, not_from}
use Rattle.barriers.proofs.objects.Carries.{Carries, carries_to}

-- what is now is before now
pub now_past : (h past : List Call) → Some h ≡ Some past → Before past h
now_past h past e = let now : past ≡ h = cc in rw now (Before-refl h)

-- the target of a header by its state alone
pub target_is : (x : Here) (y : State) → x.state ≡ y → TargetIs x y → TargetIs x x.state
target_is x y e i = rw e i

module _ (P : Protocol) (L : ProtocolLaws P) (c : Cycle) (s : Space) (w : AreObjects P c s) (lens : HasLens s) (m : Carried) (j : MoveJob) (job : job_of m ≡ Some j) (o : IsMove P c s m j) (laid : IsLaid s j) (on : MayEnd m (s.state j.from) → ⊥) where
  abbrev event : ℕ → Event
  event g = move_event c.mark s.history m g (here s j.from g)

  abbrev Turn : Space → Type 0
  Turn t = MovesTo P c s t (mover_after P s m j) j

  turns : (t : Space) → Carries P c s t m j → Turn t
  turns t k = carries_to P L c s w m j job o t k lens

  apart : j.to ≢ j.from
  apart = to_apart P L c s w m j job o laid

  -- ---- words

  -- field words, wide words and the addresses in wide objects are these, and all else is as it was
  module _ (word : ℕ → ℕ → FieldWord) (status : ℕ → ℕ → Status) (address : ℕ → ℕ) where
    abbrev rewritten : Space
    rewritten = record s { word = word; status = status; address = address }

    record Rewrites : Type 0 where
      own : (g : ℕ) → here rewritten j.from g ≡ after (event g) (here s j.from g)
      own_copy : (g : ℕ) → copy_word rewritten j.from g ≡ after_copy (event g) (copy_word s j.from g)
      others : (a g : ℕ) → a ≢ j.from → IsLive (s.state a) → here rewritten a g ≡ here s a g
      others_copy : (a g : ℕ) → a ≢ j.from → IsLive (s.state a) → (copy_word rewritten a g ≡ copy_word s a g) ⊎ (zone c.mark (s.state a) (s.word a g) (s.status a g) ≡ Copied → ⊥)
      words : (a g : ℕ) → IsLive (s.state a) → Counts c (s.state a) → g < s.len a → On (Holds s) (word a g)
      statuses : (a g : ℕ) → IsLive (s.state a) → Counts c (s.state a) → g < s.len a → On (Holds s) (held (status a g))
      fresh : (g : ℕ) → status j.to g ≡ s.status j.to g

    rewrite_turn : Rewrites → Turn rewritten
    rewrite_turn r =
        let body : (a : ℕ) → SameBody s rewritten a = λ a. record { colour = refl; len = refl; birth = refl; to = refl; wide = refl } in
        turns rewritten (record {
          body = body;
          home_is = λ b. refl;
          history_is = refl;
          field_is = λ a g. refl;
          state_is = λ a n. refl;
          seal_is = λ a n. refl;
          homed = o.live;
          target = λ g. w.target j.from g (live_at P L c s w m j job o);
          unsealed = w.unsealed j.from;
          own = r.own;
          own_copy = r.own_copy;
          others = r.others;
          others_copy = r.others_copy;
          words = r.words;
          statuses = r.statuses;
          seals = w.seals;
          sealed = λ past e. e;
          laid = laid_goes s rewritten j (body j.from) (body j.to) (λ e. e) r.fresh refl laid;
          goes_on = on;
        })

  pub quiet_turn : ((g : ℕ) → event g ≡ Quiet) → Turn s
  quiet_turn q = rewrite_turn s.word s.status s.address (record {
    own = λ g. rw (q g) refl;
    own_copy = λ g. rw (q g) refl;
    others = λ a g n i. refl;
    others_copy = λ a g n i. inl refl;
    words = w.words;
    statuses = w.statuses;
    fresh = λ g. refl;
  })

  -- the copy's address in the wide object
  pub point_turn : ((g : ℕ) → event g ≡ Point j.to) → Turn (record s { address = set s.address j.from j.to })
  point_turn q = rewrite_turn s.word s.status (set s.address j.from j.to) (record {
    own = λ g. rw (q g, set_here s.address j.from j.to) refl;
    own_copy = λ g. rw (q g) refl;
    others = λ a g n i. rw (set_else s.address j.from a j.to n) refl;
    others_copy = λ a g n i. inl refl;
    words = w.words;
    statuses = w.statuses;
    fresh = λ g. refl;
  })

  -- the copies of other objects are elsewhere
  copy_other : (a g : ℕ) → a ≢ j.from → s.to a ≡ j.to → zone c.mark (s.state a) (s.word a g) (s.status a g) ≡ Copied → ⊥
  copy_other a g n e z = elim (copied_state c.mark (here s a g) z) [ inl h ↦ not_gone P L c s w m j job o laid a h e | inr h ↦ n (the_one P L c s w m j job o laid a h e) ]

  -- a word of the copy
  pub put_turn : (f : ℕ) (v : FieldWord) → ((g : ℕ) → ((g ≡ f) × (event g ≡ Put_copy v)) ⊎ ((g ≢ f) × (event g ≡ Quiet))) → Turn (record s { word = set2 s.word j.to f v })
  put_turn f v q = rewrite_turn (set2 s.word j.to f v) s.status s.address (record {
    own = λ g. elim (q g) [ inl y ↦ rw (y.1, elsewhere j.from g from_live) refl | inr y ↦ rw (y.1, elsewhere j.from g from_live) refl ];
    own_copy = λ g. elim (q g) [ inl y ↦ rw (y.1, laid.to, y.0) (set2_here s.word j.to f v) | inr y ↦ rw y.1 (set2_else s.word j.to f (s.to j.from) g v (λ z. y.0 z.1)) ];
    others = λ a g n i. rw (elsewhere a g i) refl;
    others_copy = λ a g n i. elim (number_tells (s.to a) j.to) [ inl e ↦ inr (copy_other a g n e) | inr e ↦ inl (set2_else s.word j.to f (s.to a) g v (λ y. e y.0)) ];
    words = λ a g i r lt. rw (elsewhere a g i) (w.words a g i r lt);
    statuses = w.statuses;
    fresh = λ g. refl;
  }) where
    from_live : IsLive (s.state j.from)
    from_live = live_at P L c s w m j job o

    elsewhere : (a g : ℕ) → IsLive (s.state a) → set2 s.word j.to f v a g ≡ s.word a g
    elsewhere a g i = set2_else s.word j.to f a g v (λ y. not_to P L c s w m j job o laid a i y.0)

  -- a wide word
  pub status_turn : (f : ℕ) (u : Status) → On (Holds s) (held u) → (e : Event) → ((x : Here) → after e x ≡ record x { status = u }) → ((d : FieldWord) → after_copy e d ≡ d) → ((g : ℕ) → ((g ≡ f) × (event g ≡ e)) ⊎ ((g ≢ f) × (event g ≡ Quiet))) → Turn (record s { status = set2 s.status j.from f u })
  status_turn f u hold e here_e copy_e q = rewrite_turn s.word (set2 s.status j.from f u) s.address (record {
    own = λ g. elim (q g) [ inl y ↦ rw (y.1, here_e (here s j.from g), y.0, set2_here s.status j.from f u) refl | inr y ↦ rw (y.1, set2_else s.status j.from f j.from g u (λ z. y.0 z.1)) refl ];
    own_copy = λ g. elim (q g) [ inl y ↦ rw (y.1, copy_e (copy_word s j.from g)) refl | inr y ↦ rw y.1 refl ];
    others = λ a g n i. rw (set2_else s.status j.from f a g u (λ y. n y.0)) refl;
    others_copy = λ a g n i. inl refl;
    words = w.words;
    statuses = λ a g i r lt. elim (set2_cases s.status j.from f u a g) [ inl y ↦ rw y.2 hold | inr y ↦ rw y.1 (w.statuses a g i r lt) ];
    fresh = λ g. set2_else s.status j.from f j.to g u (λ y. apart y.0);
  })

  -- the original's word
  pub word_turn : (f : ℕ) (v : FieldWord) → On (Holds s) v → ((g : ℕ) → ((g ≡ f) × (event g ≡ Mark v)) ⊎ ((g ≢ f) × (event g ≡ Quiet))) → Turn (record s { word = set2 s.word j.from f v })
  word_turn f v hold q = rewrite_turn (set2 s.word j.from f v) s.status s.address (record {
    own = λ g. elim (q g) [ inl y ↦ rw (y.1, y.0, set2_here s.word j.from f v) refl | inr y ↦ rw (y.1, set2_else s.word j.from f j.from g v (λ z. y.0 z.1)) refl ];
    own_copy = λ g. elim (q g) [ inl y ↦ rw y.1 (own_else g) | inr y ↦ rw y.1 (own_else g) ];
    others = λ a g n i. rw (set2_else s.word j.from f a g v (λ y. n y.0)) refl;
    others_copy = λ a g n i. elim (number_tells (s.to a) j.from) [ inl e ↦ inr (no_copy a g e) | inr e ↦ inl (set2_else s.word j.from f (s.to a) g v (λ y. e y.0)) ];
    words = λ a g i r lt. elim (set2_cases s.word j.from f v a g) [ inl y ↦ rw y.2 hold | inr y ↦ rw y.1 (w.words a g i r lt) ];
    statuses = w.statuses;
    fresh = λ g. refl;
  }) where
    no_copy : (a g : ℕ) → s.to a ≡ j.from → zone c.mark (s.state a) (s.word a g) (s.status a g) ≡ Copied → ⊥
    no_copy a g e z = elim (copied_state c.mark (here s a g) z) [ inl h ↦ o.apart a h e | inr h ↦ not_from P L c s w m j job o a h e ]

    own_else : (g : ℕ) → set2 s.word j.from f v (s.to j.from) g ≡ s.word (s.to j.from) g
    own_else g = set2_else s.word j.from f (s.to j.from) g v (λ z. apart (sym laid.to ∙ z.0))

  -- ---- the original's header

  -- it goes to state y, in which its fields are moved, and the seals are these
  module _ (y : State) (seal : ℕ → Option (List Call)) where
    abbrev headed : Space
    headed = record s { state = set s.state j.from y; seal = seal }

    record Heads : Type 0 where
      homed : IsHome y
      moved : IsStill y → ⊥
      target : (g : ℕ) → TargetIs (here headed j.from g) y
      own : (g : ℕ) → after (event g) (here s j.from g) ≡ record (here s j.from g) { state = y; seal = seal j.from }
      own_copy : (g : ℕ) (d : FieldWord) → after_copy (event g) d ≡ d
      seal_is : (a : ℕ) → a ≢ j.from → seal a ≡ s.seal a
      seals : (past : List Call) → seal j.from ≡ Some past → Before past s.history
      sealed : (past : List Call) → s.seal j.from ≡ Some past → seal j.from ≡ Some past

    head_turn : Heads → Turn headed
    head_turn r =
        let body : (a : ℕ) → SameBody s headed a = λ a. record { colour = refl; len = refl; birth = refl; to = refl; wide = refl } in
        let is : headed.state j.from ≡ y = set_here s.state j.from y in
        turns headed (record {
          body = body;
          home_is = λ b. refl;
          history_is = refl;
          field_is = λ a g. refl;
          state_is = λ a n. set_else s.state j.from a y n;
          seal_is = r.seal_is;
          homed = rw is r.homed;
          target = λ g. rw is (r.target g);
          unsealed = λ i. absurd (r.moved (rw is at i));
          own = λ g. rw (r.own g, is) refl;
          own_copy = λ g. sym (r.own_copy g (copy_word s j.from g));
          others = λ a g n i. rw (set_else s.state j.from a y n, r.seal_is a n) refl;
          others_copy = λ a g n i. inl refl;
          words = w.words;
          statuses = w.statuses;
          seals = λ a past e. elim (number_tells a j.from) [ inl q ↦ r.seals past (rw q at e) | inr n ↦ w.seals a past (sym (r.seal_is a n) ∙ e) ];
          sealed = r.sealed;
          laid = laid_goes s headed j (body j.from) (body j.to) (λ e. set_else s.state j.from j.to y apart ∙ e) (λ g. refl) (r.seal_is j.to apart) laid;
          goes_on = on;
        })

  -- Plain to Moving
  pub start_turn : ((g : ℕ) → event g ≡ Move j.to) → Turn (put_state s j.from (Moving j.to))
  start_turn q = head_turn (Moving j.to) s.seal (record {
    homed = tt;
    moved = λ still. still;
    target = λ g. sym laid.to;
    own = λ g. rw (q g) refl;
    own_copy = λ g d. rw (q g) refl;
    seal_is = λ a n. refl;
    seals = w.seals j.from;
    sealed = λ past e. e;
  })

  -- Tagged to Wide
  pub seal_turn : s.state j.from ≡ Tagged → ((g : ℕ) → event g ≡ Seal j.wide s.history) → Turn (seal_wide s j Tagged)
  seal_turn tagged q =
      let is : set s.seal j.from (Some s.history) j.from ≡ Some s.history = set_here s.seal j.from (Some s.history) in
      let none : s.seal j.from ≡ None = w.unsealed j.from (rw tagged tt) in
      head_turn (Wide j.wide) (set s.seal j.from (Some s.history)) (record {
        homed = tt;
        moved = λ still. still;
        target = λ g. sym laid.wide;
        own = λ g. rw (q g, is) refl;
        own_copy = λ g d. rw (q g) refl;
        seal_is = λ a n. set_else s.seal j.from a (Some s.history) n;
        seals = λ past e. now_past s.history past (sym is ∙ e);
        sealed = λ past e. absurd (let gone : None ≡ Some past = sym none ∙ e in cc);
      })
