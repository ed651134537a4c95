-- A mover gives its copy up: the copy's header becomes Dead.
use Rattle.std.proofs.Common.{◌≡◌, ◌≢◌, ℕ, inl, inr, refl, arith, ap, sym, ◌∙◌, Some, None}
use Rattle.heap_words.specs.declared.field_word.FieldWord.{FieldWord}
use Rattle.space_reclaim.specs.declared.move_job.MoveJob.{MoveJob}
use Rattle.barriers.specs.States.{State, Plain, Kept, Underway, Dead, IsHome, IsLive, On}
use Rattle.barriers.specs.Spaces.{Space, Holds, held}
use Rattle.barriers.specs.Cycles.{Cycle}
use Rattle.barriers.specs.Events.{Quiet, IsStill}
use Rattle.barriers.specs.Moves.{Carried, job_of}
use Rattle.barriers.specs.Protocols.{Protocol}
use Rattle.barriers.specs.ProtocolLaws.{ProtocolLaws}
use Rattle.barriers.specs.Objects.{IsCarrying, IsForward, IsCopy, IsLaid, HasLens, AreObjects, IsMove}
use Rattle.barriers.specs.Accesses.{put_state}
use Rattle.barriers.specs.CallTurns.{Seen}
use Rattle.barriers.specs.MoveTurns.{Was_kept, MovesTo}
use Rattle.barriers.proofs.words.Sets.{set_cases, set_here, set_else}
use Rattle.barriers.proofs.objects.Base.{on_goes, home_live}
use Rattle.barriers.proofs.objects.Seen.{shape_stays}
use Rattle.barriers.proofs.objects.MoveStays.{not_to, not_gone, the_one}

module _ (P : Protocol) (L : ProtocolLaws P) (c : Cycle) (s : Space) (w : AreObjects P c s) (lens : HasLens s) (m : Carried) (j : MoveJob) (job : job_of m ≡ Some j) (o : IsMove P c s m j) (laid : IsLaid s j) where
  abbrev t : Space
  t = put_state s j.to Dead

  old : (a : ℕ) → IsLive (t.state a) → IsLive (s.state a)
  old a i = elim (set_cases s.state j.to a Dead) [ inl q ↦ absurd (rw q.1 at i) | inr q ↦ rw q.1 at i ]

  same_state : (a : ℕ) → IsLive (s.state a) → t.state a ≡ s.state a
  same_state a i = set_else s.state j.to a Dead (not_to P L c s w m j job o laid a i)

  gone_seen : Seen P c s t
  gone_seen = record {
    live = λ a i. rw (same_state a i) i;
    counts = λ a i. inl o.late;
    birth = λ a i. refl;
    len = λ a i. refl;
    colour = λ a i. refl;
    grows = λ h i. i;
    sees = λ a f i lt. record { event = Quiet; here_is = rw (same_state a i) refl; copy_is = inl refl; makes = L.shapes.makes_quiet; may = tt; dated = tt; place = inl tt };
  }

  gone_of : (a : ℕ) (Q : State → Type 0) → (Q Dead → ⊥) → Q (t.state a) → Q (s.state a)
  gone_of a Q n i = elim (set_cases s.state j.to a Dead) [ inl q ↦ absurd (n (rw q.1 at i)) | inr q ↦ rw q.1 at i ]

  gone_copy : (a : ℕ) (x : State) → s.to a ≢ j.to → IsCopy s a (s.to a) x → IsCopy t a (s.to a) x
  gone_copy a x n q = record { state = set_else s.state j.to (s.to a) Dead n ∙ q.state; birth = q.birth; len = q.len }

  gone_on : (v : FieldWord) → On (Holds s) v → On (Holds t) v
  gone_on v = on_goes (Holds s) (Holds t) (λ b a h. (h.0, rw (same_state a h.1) h.1)) v

  carrying_kept : (x : State) → IsCarrying x → x ≡ Kept → ⊥
  carrying_kept x i e = grind (arith, i, e)

  gone_objects : s.state j.from ≡ Kept → AreObjects P c t
  gone_objects kept = record {
    placed = λ a g i lt. let h = gone_of a IsHome (λ e. e) i in rw (same_state a (home_live (s.state a) h)) (w.placed a g h lt);
    agrees = λ a g i lt. w.agrees a g (gone_of a IsHome (λ e. e) i) lt;
    home = λ a i. w.home a (gone_of a IsHome (λ e. e) i);
    target = λ a g i. let h = old a i in rw (same_state a h) (w.target a g h);
    copied = λ a i. let h = gone_of a IsForward (λ e. e) i in gone_copy a Plain (not_gone P L c s w m j job o laid a h) (w.copied a h);
    under = λ a i. let h = gone_of a IsCarrying (λ e. e) i in gone_copy a Underway (λ e. carrying_kept (s.state a) h (ap s.state (the_one P L c s w m j job o laid a h e) ∙ kept)) (w.under a h);
    fields = λ a g i lt. gone_on (s.field a g) (w.fields a g (gone_of a IsHome (λ e. e) i) lt);
    words = λ a g i r lt. gone_on (s.word a g) (w.words a g (old a i) (inl o.late) lt);
    statuses = λ a g i r lt. gone_on (held (s.status a g)) (w.statuses a g (old a i) (inl o.late) lt);
    shape = λ a g i lt. shape_stays P L c s t w gone_seen a g (old a i) lt;
    seals = w.seals;
    unsealed = λ a i. w.unsealed a (gone_of a IsStill (λ e. e) i);
    number = w.number;
    right = w.right;
  }

  pub give_up_turn : (next : Carried) → s.state j.from ≡ Kept → job_of next ≡ None → MovesTo P c s t next j
  give_up_turn next kept none = record {
    objects = gone_objects kept;
    lens = λ a i. lens a (old a i);
    seen = gone_seen;
    move = λ k e. absurd (let gone : None ≡ Some k = sym none ∙ e in cc);
    ended = λ e. Was_kept (same_state j.from (home_live (s.state j.from) o.live) ∙ kept) (set_here s.state j.to Dead);
    history = refl;
    others = λ a n d. record { state = set_else s.state j.to a Dead d; seal = refl; body = record { colour = refl; len = refl; birth = refl; to = refl; wide = refl } };
    sealed = λ a past i e. e;
  }
