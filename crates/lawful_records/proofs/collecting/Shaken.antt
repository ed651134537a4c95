-- A pass that has acknowledged a stage of the collector, or the one before it, fits the cycle.
use Rattle.std.specs.Prelude.{if◌then◌else◌}
use Rattle.std.proofs.Common.{◌≡◌, ◌≢◌, ℕ, ◌≤◌, ◌==◌, inl, inr, Bool, true, false, List, refl, sym, ap, ◌∙◌, subst, arith}
use Rattle.std.proofs.lemmas.Bool.Decides.{nat_tests}
use Rattle.heap_words.specs.Layouts.{Sizes, IsPass}
use Rattle.heap_history.specs.declared.call.Call.{Call}
use Rattle.object_headers.specs.declared.change.Kind.{Kind}
use Rattle.object_headers.specs.Changes.{is_clover}
use Rattle.handshakes.specs.declared.pass_view.PassView.{PassView}
use Rattle.handshakes.specs.declared.phase_word.PhaseWord.{PhaseWord}
use Rattle.handshakes.specs.PhaseWords.{retired_word, phase_word_at}
use Rattle.handshakes.specs.Polling.{mark_by as polled_mark}
use Rattle.handshakes.specs.Handshakes.{Announced, AnswersWith}
use Rattle.barriers.specs.Stances.{Stance, stance_at, mark_in}
use Rattle.barriers.specs.Cycles.{Nobody, OwnFits, Handshaken}
use Rattle.barriers.specs.Kits.{IsFromSearch, own_of, cycle_at}
use Rattle.lawful_records.specs.declared.stage.Announcement.{Announcement}
use Rattle.lawful_records.specs.declared.stage.Announcement.TheVariants.{Mark, Confirm, Search, Copy, Fix, Free}
use Rattle.lawful_records.specs.declared.stage.Stage.{Stage}
use Rattle.lawful_records.specs.Collectors.{said_of, word_of, round_of, mark_word, mark_by, mark_at, is_refused, before_by, stage_before}
use Rattle.lawful_records.specs.Cycling.{told_until, told_awaiting, clear_until, clear_awaiting}
use Rattle.lawful_records.specs.Handshakes.{IsMarked, IsStage}
use Rattle.lawful_records.specs.PassTurns.{side_with}
use Rattle.lawful_records.proofs.CollectorLaws.{runs}
use Rattle.lawful_records.proofs.collecting.Stages.{IsSaid, stance_by, stance_word, said_at, ahead_of, ahead_is, marked_as, stage_said, before_said}
use Rattle.lawful_records.proofs.collecting.Fitting.{told_then, told_now, told_late, undrawn_is, own_now, own_before, clear_now, clear_then, clear_late}

-- with all passed, a running pass has acknowledged the announced word
pub answered_all : (l : Sizes) (a : Announced) (pass acked mark : ℕ) → IsPass l pass → l.passes ≤ a.passed → AnswersWith a pass acked mark → acked ≢ retired_word → (acked ≡ a.word) × (mark ≡ a.mark)
answered_all l a pass acked mark there all answers runs = elim answers [
  | inl ended ↦ absurd (runs ended.0)
  | inr rest ↦ elim rest [ inl same ↦ same | inr waits ↦ absurd (omega (arith, all, there.1, waits.1)) ]
]

-- ---- a pass with a mark that has acknowledged a stage

from_now : (a : Announcement) (mark : ℕ) → mark_by a mark ≢ 0 → IsFromSearch (stance_by a)
from_now Mark mark some = absurd (some refl)
from_now Confirm mark some = absurd (some refl)
from_now Search mark some = tt
from_now Copy mark some = tt
from_now Fix mark some = tt
from_now Free mark some = absurd (some refl)

cycle_word : (b : Stage) → IsSaid b → cycle_at (word_of b) ≡ b.cycle
cycle_word b is = ap (λ (w : PhaseWord). w.cycle) (said_at b is)

pub current_now : (b : Stage) → IsSaid b → (acked mark : ℕ) → acked ≡ word_of b → mark ≡ mark_at b → mark ≢ 0 → (cycle_at (word_of b) ≡ cycle_at acked) × IsFromSearch (stance_at (word_of b))
current_now b is_said acked mark is with_mark some =
    (sym (ap cycle_at is), subst IsFromSearch (sym (stance_word b is_said)) (from_now b.announcement (mark_word b) (λ e. some (with_mark ∙ e))))

-- ---- from a stage of the collector

module _ (minds : Bool) (l : Sizes) (kind : Kind) (cycles : ℕ) (few : cycles ≤ 64) (same : minds ≡ is_clover kind) (s : Stage) (is : IsStage l kind cycles s) where
  marked : IsMarked (is_clover s.kind) s.announcement s.cycle s.marks
  marked = marked_as l kind cycles few s is

  said : IsSaid s
  said = stage_said l kind cycles few s is

  said_before : IsSaid (stage_before s)
  said_before = before_said l kind cycles few s is

  none : minds ≡ false → mark_word s ≡ 0
  none e = undrawn_is minds (is_clover s.kind) s.announcement s.cycle s.marks (same ∙ ap is_clover (sym is.kind_is)) marked e

  module _ (view : PassView) (seen : List Call) (late : Bool) (phase : Stance) where
    -- ---- a pass that has acknowledged the stage before

    module _ (acked : view.acked ≡ word_of (stage_before s)) (mark : view.mark ≡ mark_at (stage_before s)) where
      stood : stance_at view.acked ≡ stance_by (let b = stage_before s in b.announcement)
      stood = ap stance_at acked ∙ stance_word (stage_before s) said_before

      stood_ahead : stance_at view.acked ≡ stance_by (ahead_of s)
      stood_ahead = stood ∙ ap stance_by (ahead_is s.announcement s)

      owned : OwnFits (stance_at view.acked) (own_of minds view) (mark_in (mark_word s))
      owned = rw stood (own_before minds view (mark_word s) none s.announcement s refl mark)

      -- before the stage is announced
      pub until_shaken : Handshaken (record { late = late; phase = phase; told = told_until s; mark = mark_in (mark_word s); clear = clear_until s }) (side_with minds view seen)
      until_shaken = record {
        told = rw stood_ahead (told_then s.announcement (s.marks.round == 1) (is_clover s.kind) (is_refused s));
        own = owned;
        clear = λ clear. rw stood (clear_then minds view (mark_word s) none s.announcement s refl marked clear mark);
      }

      -- and while it is awaited
      pub late_shaken : Handshaken (record { late = late; phase = phase; told = told_awaiting s.announcement (is_refused s); mark = mark_in (mark_word s); clear = clear_awaiting s.announcement s.marks.clear }) (side_with minds view seen)
      late_shaken = record {
        told = rw stood_ahead (told_late s.announcement (s.marks.round == 1) (is_clover s.kind) (is_refused s));
        own = owned;
        clear = λ clear. rw stood (clear_then minds view (mark_word s) none s.announcement s refl marked (clear_late s.announcement s.marks.clear clear) mark);
      }

    -- ---- one that has acknowledged it

    module _ (acked : view.acked ≡ word_of s) (mark : view.mark ≡ mark_at s) where
      stands : stance_at view.acked ≡ stance_by s.announcement
      stands = ap stance_at acked ∙ stance_word s said

      owned_now : OwnFits (stance_at view.acked) (own_of minds view) (mark_in (mark_word s))
      owned_now = rw stands (own_now minds view (mark_word s) none s.announcement mark)

      pub now_shaken : Handshaken (record { late = late; phase = phase; told = told_awaiting s.announcement (is_refused s); mark = mark_in (mark_word s); clear = clear_awaiting s.announcement s.marks.clear }) (side_with minds view seen)
      now_shaken = record {
        told = rw stands (told_now s.announcement (is_refused s));
        own = owned_now;
        clear = λ clear. rw stands (clear_now minds view (mark_word s) none s.announcement s.marks.clear clear mark);
      }

      -- in its search
      pub seek_shaken : s.announcement ≡ Search → Handshaken (record { late = late; phase = phase; told = Nobody; mark = mark_in (mark_word s); clear = false }) (side_with minds view seen)
      seek_shaken search = record { told = rw (stands ∙ ap stance_by search) (λ told. told); own = owned_now; clear = λ clear. absurd (cc clear) }

  -- ---- what a pass gets that acknowledges it

  copied : (clover : Bool) (own drawn : ℕ) → IsMarked clover Copy s.cycle s.marks → drawn ≡ mark_word s → own ≡ mark_by (if clover then Search else Confirm) drawn → polled_mark (let w = said_of (record s { announcement = Copy }) in w.phase) (if clover then 9 else 0) own drawn ≡ drawn
  copied true own drawn is word e = refl
  copied false own drawn is word e = e ∙ (let zero : mark_word s ≡ 0 = rw is.1 refl in sym (word ∙ zero))

  fixed : (refused : Bool) (own drawn : ℕ) → own ≡ mark_by (if refused then Search else Copy) drawn → own ≡ drawn
  fixed true own drawn e = e
  fixed false own drawn e = e

  sought : (own drawn : ℕ) (zero : Bool) → zero ≡ false → (if zero then own else drawn) ≡ drawn
  sought own drawn zero e = rw e refl

  answered_by : (a : Announcement) → s.announcement ≡ a → polled_mark (let w = said_of s in w.phase) (round_of s) (mark_at (stage_before s)) (mark_word s) ≡ mark_at s
  answered_by Mark e = rw e refl
  answered_by Confirm e = rw e refl
  answered_by Search e = let round = rw e at said.round in rw e (sought (mark_at (before_by Search s)) (mark_word s) (s.marks.round == 0) (grind (arith, nat_tests, round.0)))
  answered_by Copy e = rw e (copied (is_clover s.kind) (mark_at (before_by Copy s)) (mark_word s) (rw e at marked) refl refl)
  answered_by Fix e = rw e (fixed (is_refused s) (mark_at (before_by Fix s)) (mark_word s) refl)
  answered_by Free e = rw e refl

  pub answered : (let w = phase_word_at (word_of s) in polled_mark w.phase w.round (mark_at (stage_before s)) (mark_word s)) ≡ mark_at s
  answered = rw (said_at s said) (answered_by s.announcement refl)

  -- ---- a pass with a mark finds its cycle's words

  from_before : (a : Announcement) → mark_at (before_by a s) ≢ 0 → IsFromSearch (stance_by a) × ((let b = before_by a s in b.cycle) ≡ s.cycle)
  from_before Mark some = absurd (some refl)
  from_before Confirm some = absurd (some refl)
  from_before Search some = (tt, refl)
  from_before Copy some = (tt, refl)
  from_before Fix some = (tt, refl)
  from_before Free some = (tt, refl)

  pub current_late : (acked mark : ℕ) → acked ≡ word_of (stage_before s) → mark ≡ mark_at (stage_before s) → mark ≢ 0 → (cycle_at (word_of s) ≡ cycle_at acked) × IsFromSearch (stance_at (word_of s))
  current_late acked mark is with_mark some =
      let from = from_before s.announcement (λ e. some (with_mark ∙ e)) in (
        cycle_word s said ∙ sym (ap cycle_at is ∙ cycle_word (stage_before s) said_before ∙ from.1),
        subst IsFromSearch (sym (stance_word s said)) from.0,
      )
