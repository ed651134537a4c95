-- What a mover's step relies on, of what holds of the objects and of the move; and what its steps leave of the sizes of objects.
use Rattle.std.proofs.Common.{◌≡◌, ◌≢◌, ℕ, true, Option, Some, None, refl, ap, ◌∙◌}
use Rattle.heap_words.specs.Layouts.{Sizes}
use Rattle.heap_words.specs.declared.field_word.FieldWord.{FieldWord}
use Rattle.heap_words.specs.FieldWords.{IsFieldWord}
use Rattle.object_headers.specs.declared.change.Kind.{Kind}
use Rattle.object_headers.specs.Changes.{is_stopless}
use Rattle.space_reclaim.specs.declared.move_job.MoveJob.{MoveJob}
use Rattle.barriers.specs.Sets.{set}
use Rattle.barriers.specs.States.{State, Tagged, Wide, Moving}
use Rattle.barriers.specs.Spaces.{Space, here}
use Rattle.barriers.specs.Cycles.{Cycle, IsSet}
use Rattle.barriers.specs.Events.{Event, Widen, Take, Mark}
use Rattle.barriers.specs.Moves.{Carried, Looks, Lays, Points, Seals, Starts, Forwards, Asks, Widens, Finishes, Marks, job_of, widen_event, finish_event, mark_event}
use Rattle.barriers.specs.MoveSteps.{lay, seal_wide, forward_by, field_by, space_moved}
use Rattle.barriers.specs.MoveWords.{CanLay, HasCopy, HasState, FitsMark, HasMark, IsMoverAt}
use Rattle.barriers.specs.CycleLaws.{MovingLaws, IsAtWide}
use Rattle.barriers.specs.Objects.{AreObjects, CopyAt, IsMove}
use Rattle.barriers.specs.Protocols.{Protocol}
use Rattle.barriers.specs.ProtocolLaws.{MoveLaws}
use Rattle.barriers.proofs.words.Headers.{home_live}

-- ---- what a mover relies on

module _ (P : Protocol) (kind : Kind) (table : MoveLaws P) (laws : MovingLaws kind P) (l : Sizes) (memory : ℕ → ℕ) (c : Cycle) (s : Space) (are : AreObjects P c s) (fits : (w : FieldWord) → c.mark ≡ Some w → IsFieldWord w) where
  copy_of : (m : Carried) (j : MoveJob) → ((i : MoveJob) → m ≡ Lays i → CanLay l memory s j) → s.len j.from ≡ j.len → s.birth j.from ≡ j.birth → CopyAt s m j → HasCopy l memory s m j
  copy_of (Looks i) j lay len birth copy = tt
  copy_of (Lays i) j lay len birth copy = lay i refl
  copy_of m j lay len birth copy = record { state = copy.copy.state; colour = copy.colour; len = copy.copy.len ∙ len; birth = copy.copy.birth ∙ birth; to = copy.to }

  state_of : (m : Carried) (j : MoveJob) → job_of m ≡ Some j → IsMove P c s m j → HasState kind (s.state j.from) m
  state_of (Seals i) j e move = laws.wides c (Seals i) (here s j.from 0) tt move.head
  state_of (Starts i) j e move = laws.starts c i (here s j.from 0) move.head
  state_of (Forwards i) j e move =
      let same : j ≡ i = cc e in
      laws.forwards c i (here s j.from 0) (move.copy.to ∙ ap (λ (k : MoveJob). k.to) same) (move.copy.wide ∙ ap (λ (k : MoveJob). k.wide) same) (are.target j.from 0 (home_live (s.state j.from) move.live)) move.head
  state_of m j e move = tt

  wide_of : (m : Carried) (j : MoveJob) → CopyAt s m j → IsAtWide m → s.wide j.from ≡ j.wide
  wide_of (Points i) j copy at = copy.wide
  wide_of (Seals i) j copy at = copy.wide
  wide_of (Asks i f) j copy at = copy.wide
  wide_of (Widens i f w) j copy at = copy.wide
  wide_of (Finishes i f w) j copy at = copy.wide
  wide_of m j copy at = absurd at

  mark_of : (mark : Option FieldWord) → ((w : FieldWord) → mark ≡ Some w → IsFieldWord w) → IsSet mark → FitsMark mark
  mark_of None fit set = set
  mark_of (Some w) fit set = fit w refl

  marks_of : (m : Carried) (j : MoveJob) → IsMove P c s m j → HasMark c.mark m
  marks_of (Marks i f w) j move = mark_of c.mark fits (laws.marks c i f w (here s j.from 0) move.head)
  marks_of m j move = tt

  pub mover_at : (m : Carried) (j : MoveJob) → job_of m ≡ Some j → IsMove P c s m j → (is_stopless kind ≡ true → j.wide ≢ 0) → ((i : MoveJob) → m ≡ Lays i → CanLay l memory s j) → IsMoverAt l kind c.mark memory s m j
  mover_at m j is move wide lay = record {
    live = move.live;
    len = move.len;
    birth = move.birth;
    header = move.header;
    state = state_of m j is move;
    copy = copy_of m j lay move.len move.birth move.copy;
    wide = λ at. (wide_of m j move.copy at, wide (laws.wides c m (here s j.from 0) at move.head));
    field = λ at. table.inside c m j (here s j.from 0) is at move.head;
    marks = marks_of m j move;
  }

-- ---- a mover's own step

-- colours, lens and wide objects are as they were
abbrev pub IsAlike : Space → Space → Type 0
IsAlike s t = (t.colour ≡ s.colour) × (t.len ≡ s.len) × (t.wide ≡ s.wide)

alike_sealed : (s : Space) (j : MoveJob) (x : State) → IsAlike s (seal_wide s j x)
alike_sealed s j Tagged = (refl, refl, refl)
alike_sealed s j x = (refl, refl, refl)

alike_forwarded : (s : Space) (j : MoveJob) (x : State) → IsAlike s (forward_by s j x)
alike_forwarded s j Tagged = (refl, refl, refl)
alike_forwarded s j (Wide w) = (refl, refl, refl)
alike_forwarded s j (Moving t) = (refl, refl, refl)
alike_forwarded s j x = (refl, refl, refl)

alike_field : (s : Space) (a f : ℕ) (e : Event) → IsAlike s (field_by s a f e)
alike_field s a f (Widen w) = (refl, refl, refl)
alike_field s a f (Take w) = (refl, refl, refl)
alike_field s a f (Mark w) = (refl, refl, refl)
alike_field s a f e = (refl, refl, refl)

-- after any step but the store of the copy's header
pub alike_moved : (l : Sizes) (mark : Option FieldWord) (s : Space) (m : Carried) → ((i : MoveJob) → m ≢ Lays i) → IsAlike s (space_moved l mark s m)
alike_moved l mark s (Lays j) other = absurd (other j refl)
alike_moved l mark s (Seals j) other = alike_sealed s j (s.state j.from)
alike_moved l mark s (Forwards j) other = alike_forwarded s j (s.state j.from)
alike_moved l mark s (Widens j f w) other = alike_field s j.from f (widen_event w (s.status j.from f))
alike_moved l mark s (Finishes j f w) other = alike_field s j.from f (finish_event w (s.status j.from f))
alike_moved l mark s (Marks j f w) other = alike_field s j.from f (mark_event mark w (s.word j.from f))
alike_moved l mark s m other = (refl, refl, refl)
