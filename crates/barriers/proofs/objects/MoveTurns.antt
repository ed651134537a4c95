-- A step of a mover, over any copier, keeps the objects lawful and the move where it stands; and how a move begins.
use Rattle.std.proofs.Common.{◌≡◌, ◌≢◌, ℕ, ◌<◌, ◌⊎◌, inl, inr, refl, sym, subst, ◌∙◌, Bool, true, false, Option, Some, None, ◌+◌, ◌==◌, if◌then◌else◌, arith}
use Rattle.std.proofs.lemmas.Bool.Decides.{eqb_tells}
use Rattle.heap_words.specs.Layouts.{Sizes}
use Rattle.heap_words.specs.declared.field_word.FieldWord.{FieldWord}
use Rattle.wide_objects.specs.Statuses.{Status, InOriginal, InWide, InCopy}
use Rattle.space_reclaim.specs.declared.move_job.MoveJob.{MoveJob}
use Rattle.barriers.specs.States.{State, Absent, Plain, Kept, Tagged, Wide, Moving, Underway, Forward, Dead, On, same_word}
use Rattle.barriers.specs.Spaces.{Space, Holds, here, copy_word, held}
use Rattle.barriers.specs.Rows.{region_of}
use Rattle.barriers.specs.Cycles.{Cycle}
use Rattle.barriers.specs.Knowns.{Nothing}
use Rattle.barriers.specs.Events.{Event, Quiet, Widen, Put_copy, Take, Mark, Pass_on, Seal_on}
use Rattle.barriers.specs.Moves.{Carried, Idles, Looks, Lays, Points, Gives_up, Seals, Starts, Forwards, Takes_up, Asks, Widens, Finishes, Marks, Puts, job_of, move_finds, widen_event, finish_event, mark_event}
use Rattle.barriers.specs.Protocols.{Protocol, OnHand}
use Rattle.barriers.specs.ProtocolLaws.{ProtocolLaws}
use Rattle.barriers.specs.Objects.{HasLens, AreObjects, CopyAt, IsMove}
use Rattle.barriers.specs.MoveSteps.{lay, seal_wide, forward_by, field_by, space_moved}
use Rattle.barriers.specs.MoveTurns.{Was_left, MovesTo, MoveStep, IsFirst, CanMove, mover_after}
use Rattle.barriers.proofs.words.Sets.{set_else}
use Rattle.barriers.proofs.objects.Base.{on_goes}
use Rattle.barriers.proofs.objects.Seen.{same_seen}
use Rattle.barriers.proofs.objects.MoveStays.{live_at}
use Rattle.barriers.proofs.objects.Carries.{move_end}
use Rattle.barriers.proofs.objects.MoveKinds.{now_past, quiet_turn, point_turn, start_turn, seal_turn, put_turn, status_turn, word_turn}
use Rattle.barriers.proofs.objects.GivesUp.{give_up_turn}
use Rattle.barriers.proofs.objects.Forwards.{forward_turn}
use Rattle.barriers.proofs.objects.Lays.{lay_turn}

-- ---- regions

-- no step of a mover changes what a region is used for
pub moved_region : (l : Sizes) (mark : Option FieldWord) (s : Space) (m : Carried) (k : ℕ) → (space_moved l mark s m).region k ≡ s.region k
moved_region l mark s m k = grind arith

-- and objects are added to the region of the copy alone
pub moved_ends : (l : Sizes) (mark : Option FieldWord) (s : Space) (m : Carried) (j : MoveJob) (k : ℕ) → job_of m ≡ Some j → k ≢ region_of l j.to → (space_moved l mark s m).ends k ≡ s.ends k
moved_ends l mark s m j k job apart = by_mover m job
  where
    lay_ends : (i : MoveJob) → i ≡ j → (lay l s i).ends k ≡ s.ends k
    lay_ends i same = rw same (set_else s.ends (region_of l j.to) k (j.to + 1 + j.len) apart)

    by_mover : (m : Carried) → job_of m ≡ Some j → (space_moved l mark s m).ends k ≡ s.ends k
    by_mover (Lays i) e = lay_ends i (cc e)
    by_mover Idles e = refl
    by_mover (Looks i) e = refl
    by_mover (Points i) e = refl
    by_mover (Gives_up i) e = refl
    by_mover (Seals i) e = grind arith
    by_mover (Starts i) e = refl
    by_mover (Forwards i) e = grind arith
    by_mover (Takes_up i f) e = refl
    by_mover (Asks i f) e = refl
    by_mover (Widens i f w) e = grind arith
    by_mover (Finishes i f w) e = grind arith
    by_mover (Marks i f w) e = grind arith
    by_mover (Puts i f w) e = refl

-- ---- events

-- an event at one field
at_field : (f g : ℕ) (a : ℕ → Event) (e : Event) → (g ≡ f → a g ≡ e) → ((g ≡ f) × ((if g == f then a g else Quiet) ≡ e)) ⊎ ((g ≢ f) × ((if g == f then a g else Quiet) ≡ Quiet))
at_field f g a e h = elim (eqb_tells g f) [ inl y ↦ inl (y.1, rw y.0 (h y.1)) | inr y ↦ inr (y.1, rw y.0 refl) ]

none_at : (f g : ℕ) (a : ℕ → Event) → (g ≡ f → a g ≡ Quiet) → (if g == f then a g else Quiet) ≡ Quiet
none_at f g a h = elim (eqb_tells g f) [ inl y ↦ rw y.0 (h y.1) | inr y ↦ rw y.0 refl ]

here_field : (f : ℕ) (a : ℕ → Event) (e : Event) → a f ≡ e → (if f == f then a f else Quiet) ≡ e
here_field f a e h = elim (eqb_tells f f) [ inl y ↦ rw y.0 h | inr y ↦ absurd (y.1 refl) ]

module _ (P : Protocol) (L : ProtocolLaws P) (l : Sizes) (c : Cycle) (s : Space) (w : AreObjects P c s) (lens : HasLens s) where
  abbrev Turn : Carried → MoveJob → Space → Type 0
  Turn m j t = MovesTo P c s t (mover_after P s m j) j

  abbrev Move : Carried → MoveJob → Type 0
  Move m j = IsMove P c s m j

  look_turn : (j : MoveJob) → Turn (Looks j) j s
  look_turn j = record {
    objects = w;
    lens = lens;
    seen = same_seen P L c s;
    move = λ k e. absurd (let gone : None ≡ Some k = sym (L.moves.looked j (move_finds (here s j.from 0) (Looks j))) ∙ e in cc);
    ended = λ none. Was_left (λ a. record { state = refl; seal = refl; body = record { colour = refl; len = refl; birth = refl; to = refl; wide = refl } });
    history = refl;
    others = λ a n d. record { state = refl; seal = refl; body = record { colour = refl; len = refl; birth = refl; to = refl; wide = refl } };
    sealed = λ a past i e. e;
  }

  module _ (j : MoveJob) where
    seals_by : Move (Seals j) j → (x : State) → s.state j.from ≡ x → Turn (Seals j) j (seal_wide s j x)
    seals_by o Tagged e = seal_turn P L c s w lens (Seals j) j refl o o.copy (λ end. end) e (λ g. rw e refl)
    seals_by o Absent e = quiet_turn P L c s w lens (Seals j) j refl o o.copy (λ end. end) (λ g. rw e refl)
    seals_by o Plain e = quiet_turn P L c s w lens (Seals j) j refl o o.copy (λ end. end) (λ g. rw e refl)
    seals_by o Kept e = quiet_turn P L c s w lens (Seals j) j refl o o.copy (λ end. end) (λ g. rw e refl)
    seals_by o (Wide y) e = quiet_turn P L c s w lens (Seals j) j refl o o.copy (λ end. end) (λ g. rw e refl)
    seals_by o (Moving y) e = quiet_turn P L c s w lens (Seals j) j refl o o.copy (λ end. end) (λ g. rw e refl)
    seals_by o Underway e = quiet_turn P L c s w lens (Seals j) j refl o o.copy (λ end. end) (λ g. rw e refl)
    seals_by o (Forward y) e = quiet_turn P L c s w lens (Seals j) j refl o o.copy (λ end. end) (λ g. rw e refl)
    seals_by o Dead e = quiet_turn P L c s w lens (Seals j) j refl o o.copy (λ end. end) (λ g. rw e refl)

    -- the object goes to its copy, and the mover has ended
    not_kept : Move (Forwards j) j → (s.state j.from ≡ Kept → ⊥) → job_of (mover_after P s (Forwards j) j) ≡ None
    not_kept o n = elim (L.moves.forwarded c j (here s j.from 0) o.head) [ inl e ↦ absurd (n e) | inr e ↦ e ]

    forwards_by : Move (Forwards j) j → (x : State) → s.state j.from ≡ x → Turn (Forwards j) j (forward_by s j x)
    forwards_by o Tagged e =
        let none : s.seal j.from ≡ None = w.unsealed j.from (rw e tt) in
        forward_turn P L c s w lens (Forwards j) j refl o o.copy (Some s.history) (Seal_on j.to s.history)
        (record { event = λ g. rw e refl; arrives = tt; after_is = λ g. refl; copy_is = λ d. refl; past = now_past s.history; sealed = λ past q. absurd (let gone : None ≡ Some past = sym none ∙ q in cc) })
        (not_kept o (λ q. cc (e, q)))
    forwards_by o (Wide y) e = forward_turn P L c s w lens (Forwards j) j refl o o.copy (s.seal j.from) (Pass_on j.to) (record { event = λ g. rw e refl; arrives = tt; after_is = λ g. refl; copy_is = λ d. refl; past = w.seals j.from; sealed = λ past q. q }) (not_kept o (λ q. cc (e, q)))
    forwards_by o (Moving y) e = forward_turn P L c s w lens (Forwards j) j refl o o.copy (s.seal j.from) (Pass_on j.to) (record { event = λ g. rw e refl; arrives = tt; after_is = λ g. refl; copy_is = λ d. refl; past = w.seals j.from; sealed = λ past q. q }) (not_kept o (λ q. cc (e, q)))
    forwards_by o Absent e = quiet_turn P L c s w lens (Forwards j) j refl o o.copy (λ end. rw e at end) (λ g. rw e refl)
    forwards_by o Plain e = quiet_turn P L c s w lens (Forwards j) j refl o o.copy (λ end. rw e at end) (λ g. rw e refl)
    forwards_by o Kept e = quiet_turn P L c s w lens (Forwards j) j refl o o.copy (λ end. rw e at end) (λ g. rw e refl)
    forwards_by o Underway e = quiet_turn P L c s w lens (Forwards j) j refl o o.copy (λ end. rw e at end) (λ g. rw e refl)
    forwards_by o (Forward y) e = quiet_turn P L c s w lens (Forwards j) j refl o o.copy (λ end. rw e at end) (λ g. rw e refl)
    forwards_by o Dead e = quiet_turn P L c s w lens (Forwards j) j refl o o.copy (λ end. rw e at end) (λ g. rw e refl)

    -- ---- at a field
    module _ (f : ℕ) (v : FieldWord) where
      puts_by : Move (Puts j f v) j → Turn (Puts j f v) j (space_moved l c.mark s (Puts j f v))
      puts_by o = put_turn P L c s w lens (Puts j f v) j refl o o.copy (λ end. end) f v (λ g. at_field f g (λ g. Put_copy v) (Put_copy v) (λ e. refl))

      widens_by : Move (Widens j f v) j → (u : Status) → s.status j.from f ≡ u → Turn (Widens j f v) j (field_by s j.from f (widen_event v u))
      widens_by o InOriginal e =
          let lt : f < j.len = L.moves.inside c (Widens j f v) j (here s j.from 0) refl tt o.head in
          let q = move_end P L c s w (Widens j f v) j refl o f lt in
          let is : v ≡ s.word j.from f = q.hand v (here_field f (λ g. widen_event v (s.status j.from g)) (Widen v) (rw e refl)) in
          let hold : On (Holds s) v = rw is (w.words j.from f (live_at P L c s w (Widens j f v) j refl o) (inl o.late) (rw o.len lt)) in
          status_turn P L c s w lens (Widens j f v) j refl o o.copy (λ end. end) f (InWide v) hold (Widen v) (λ x. refl) (λ d. refl) (λ g. at_field f g (λ g. widen_event v (s.status j.from g)) (Widen v) (λ i. rw (i, e) refl))
      widens_by o (InWide y) e = quiet_turn P L c s w lens (Widens j f v) j refl o o.copy (λ end. end) (λ g. none_at f g (λ g. widen_event v (s.status j.from g)) (λ i. rw (i, e) refl))
      widens_by o (InCopy y) e = quiet_turn P L c s w lens (Widens j f v) j refl o o.copy (λ end. end) (λ g. none_at f g (λ g. widen_event v (s.status j.from g)) (λ i. rw (i, e) refl))

      finish_as : Move (Finishes j f v) j → (y : FieldWord) → s.status j.from f ≡ InWide y → (k : Bool) → same_word y v ≡ k → Turn (Finishes j f v) j (field_by s j.from f (if k then Take y else Quiet))
      finish_as o y e true q =
          let lt : f < j.len = L.moves.inside c (Finishes j f v) j (here s j.from 0) refl tt o.head in
          let hold : On (Holds s) y = subst (λ u. On (Holds s) (held u)) e (w.statuses j.from f (live_at P L c s w (Finishes j f v) j refl o) (inl o.late) (rw o.len lt)) in
          status_turn P L c s w lens (Finishes j f v) j refl o o.copy (λ end. end) f (InCopy y) hold (Take y) (λ x. refl) (λ d. refl) (λ g. at_field f g (λ g. finish_event v (s.status j.from g)) (Take y) (λ i. rw (i, e, q) refl))
      finish_as o y e false q = quiet_turn P L c s w lens (Finishes j f v) j refl o o.copy (λ end. end) (λ g. none_at f g (λ g. finish_event v (s.status j.from g)) (λ i. rw (i, e, q) refl))

      finishes_by : Move (Finishes j f v) j → (u : Status) → s.status j.from f ≡ u → Turn (Finishes j f v) j (field_by s j.from f (finish_event v u))
      finishes_by o (InWide y) e = finish_as o y e (same_word y v) refl
      finishes_by o InOriginal e = quiet_turn P L c s w lens (Finishes j f v) j refl o o.copy (λ end. end) (λ g. none_at f g (λ g. finish_event v (s.status j.from g)) (λ i. rw (i, e) refl))
      finishes_by o (InCopy y) e = quiet_turn P L c s w lens (Finishes j f v) j refl o o.copy (λ end. end) (λ g. none_at f g (λ g. finish_event v (s.status j.from g)) (λ i. rw (i, e) refl))

      mark_as : Move (Marks j f v) j → (y : FieldWord) → c.mark ≡ Some y → (k : Bool) → same_word (s.word j.from f) v ≡ k → Turn (Marks j f v) j (field_by s j.from f (if k then Mark y else Quiet))
      mark_as o y e true q =
          let hold : On (Holds s) y = on_goes (λ b a. ⊥) (Holds s) (λ b a h. absurd h) y (subst (OnHand (λ b a. ⊥)) e w.number) in
          word_turn P L c s w lens (Marks j f v) j refl o o.copy (λ end. end) f y hold (λ g. at_field f g (λ g. mark_event c.mark v (s.word j.from g)) (Mark y) (λ i. rw (i, e, q) refl))
      mark_as o y e false q = quiet_turn P L c s w lens (Marks j f v) j refl o o.copy (λ end. end) (λ g. none_at f g (λ g. mark_event c.mark v (s.word j.from g)) (λ i. rw (i, e, q) refl))

      marks_by : Move (Marks j f v) j → (k : Option FieldWord) → c.mark ≡ k → Turn (Marks j f v) j (field_by s j.from f (mark_event k v (s.word j.from f)))
      marks_by o None e = quiet_turn P L c s w lens (Marks j f v) j refl o o.copy (λ end. end) (λ g. none_at f g (λ g. mark_event c.mark v (s.word j.from g)) (λ i. rw e refl))
      marks_by o (Some y) e = mark_as o y e (same_word (s.word j.from f) v) refl

  -- the mover's job is this one
  at_job : (m : Carried) (i j : MoveJob) → Some i ≡ Some j → (Move m i → MoveStep P l c s m i) → Move m j → MoveStep P l c s m j
  at_job m i j e t o = let same : i ≡ j = cc in subst (MoveStep P l c s m) same (t (subst (IsMove P c s m) (sym same) o))

  pub move_step : (m : Carried) (j : MoveJob) → job_of m ≡ Some j → IsMove P c s m j → MoveStep P l c s m j
  move_step Idles j e o = absurd (let gone : None ≡ Some j = e in cc)
  move_step (Looks i) j e o = at_job (Looks i) i j e (λ o. look_turn i) o
  move_step (Lays i) j e o = at_job (Lays i) i j e (lay_turn P L l c s w lens i) o
  move_step (Points i) j e o = at_job (Points i) i j e (λ o. point_turn P L c s w lens (Points i) i refl o o.copy (λ end. end) (λ g. refl)) o
  move_step (Gives_up i) j e o = at_job (Gives_up i) i j e (λ o. give_up_turn P L c s w lens (Gives_up i) i refl o o.copy (mover_after P s (Gives_up i) i) (L.moves.gives_up c i (here s i.from 0) o.head) (L.moves.given_up i Nothing)) o
  move_step (Seals i) j e o = at_job (Seals i) i j e (λ o. seals_by i o (s.state i.from) refl) o
  move_step (Starts i) j e o = at_job (Starts i) i j e (λ o. start_turn P L c s w lens (Starts i) i refl o o.copy (λ end. end) (λ g. refl)) o
  move_step (Forwards i) j e o = at_job (Forwards i) i j e (λ o. forwards_by i o (s.state i.from) refl) o
  move_step (Takes_up i f) j e o = at_job (Takes_up i f) i j e (λ o. quiet_turn P L c s w lens (Takes_up i f) i refl o o.copy (λ end. end) (λ g. refl)) o
  move_step (Asks i f) j e o = at_job (Asks i f) i j e (λ o. quiet_turn P L c s w lens (Asks i f) i refl o o.copy (λ end. end) (λ g. refl)) o
  move_step (Widens i f v) j e o = at_job (Widens i f v) i j e (λ o. widens_by i f v o (s.status i.from f) refl) o
  move_step (Finishes i f v) j e o = at_job (Finishes i f v) i j e (λ o. finishes_by i f v o (s.status i.from f) refl) o
  move_step (Marks i f v) j e o = at_job (Marks i f v) i j e (λ o. marks_by i f v o c.mark refl) o
  move_step (Puts i f v) j e o = at_job (Puts i f v) i j e (puts_by i f v) o

-- ---- a move begins

pub move_begins : (P : Protocol) (L : ProtocolLaws P) (c : Cycle) (s : Space) (m : Carried) (j : MoveJob) → CanMove P c s m j → IsMove P c s m j
move_begins P L c s m j can = record {
  late = can.late;
  live = can.live;
  len = can.len;
  birth = can.birth;
  header = can.header;
  copy = copy m can.first;
  apart = can.apart;
  head = can.head;
  field = λ g lt. field m g can.first;
} where
  copy : (m : Carried) → IsFirst j m → CopyAt s m j
  copy m (inl e) = rw e tt
  copy m (inr e) = rw e can.absent

  field : (m : Carried) (g : ℕ) → IsFirst j m → P.MoveField c m g (here s j.from g) (copy_word s j.from g)
  field m g (inl e) = rw e (L.moves.looks c j g (here s j.from g) (copy_word s j.from g))
  field m g (inr e) = rw e (L.moves.lays c j g (here s j.from g) (copy_word s j.from g))
