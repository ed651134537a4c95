-- Only the object of a job is on its way, and no more once its move has ended.
use Rattle.std.specs.Prelude.{if◌then◌else◌}
use Rattle.std.proofs.Common.{◌≡◌, ◌≢◌, ℕ, inl, inr, Bool, true, false, List, Option, Some, refl, sym, ◌∙◌, subst}
use Rattle.heap_words.specs.Layouts.{Sizes}
use Rattle.heap_words.specs.declared.field_word.FieldWord.{FieldWord}
use Rattle.heap_history.specs.declared.call.Call.{Call}
use Rattle.space_reclaim.specs.declared.move_job.MoveJob.{MoveJob}
use Rattle.barriers.specs.Events.{Event, Widen, Take, Mark}
use Rattle.barriers.specs.Moves.{Carried, Looks, Lays, Gives_up, Seals, Starts, Forwards, Widens, Finishes, Marks, job_of, widen_event, finish_event, mark_event}
use Rattle.barriers.specs.MoveSteps.{forward, seal_wide, forward_by, field_by, space_moved}
use Rattle.barriers.specs.ProtocolLaws.{MayEnd}
use Rattle.barriers.specs.Sets.{set}
use Rattle.barriers.specs.Spaces.{Space}
use Rattle.barriers.specs.Stances.{Fix as Fix_stance}
use Rattle.barriers.specs.States.{State, Absent, Plain, Kept, Tagged, Wide, Moving, Underway, Forward, Dead}
use Rattle.barriers.proofs.words.Sets.{set_cases, set_here, set_else}
use Rattle.lawful_records.specs.declared.stage.Announcement.{Announcement}
use Rattle.lawful_records.specs.declared.stage.Announcement.TheVariants as announcements
use Rattle.lawful_records.specs.declared.stage.Stage.{Stage}
use Rattle.lawful_records.specs.Collectors.{is_refused, before_by}
use Rattle.lawful_records.specs.Fixing.{IsAside}
use Rattle.lawful_records.proofs.collecting.Stages.{stance_by}

-- ---- of what is not the object of the job

module _ (s : Space) where
  -- a header other than the object's, in a state that is not one of those
  other_back : (a : ℕ) (y : State) → (IsAside y → ⊥) → (x : ℕ) → IsAside (set s.state a y x) → IsAside (s.state x)
  other_back a y none x now = elim (set_cases s.state a x y) [ inl q ↦ absurd (none (subst IsAside q.1 now)) | inr q ↦ subst IsAside q.1 now ]

  own_back : (a : ℕ) (y : State) (x : ℕ) → x ≢ a → IsAside (set s.state a y x) → IsAside (s.state x)
  own_back a y x other now = subst IsAside (set_else s.state a x y other) now

  forward_back : (j : MoveJob) (seal : Option (List Call)) (x : ℕ) → x ≢ j.from → IsAside ((forward s j seal).state x) → IsAside (s.state x)
  forward_back j seal x other now = other_back j.to Plain (λ none. none) x (subst IsAside (set_else (set s.state j.to Plain) j.from x (Forward j.to) other) now)

  sealed_back : (j : MoveJob) (y : State) (x : ℕ) → x ≢ j.from → IsAside ((seal_wide s j y).state x) → IsAside (s.state x)
  sealed_back j Tagged x other now = own_back j.from (Wide j.wide) x other now
  sealed_back j y x other now = now

  forwarded_back : (j : MoveJob) (y : State) (x : ℕ) → x ≢ j.from → IsAside ((forward_by s j y).state x) → IsAside (s.state x)
  forwarded_back j Tagged x other now = forward_back j (Some s.history) x other now
  forwarded_back j (Wide w) x other now = forward_back j (s.seal j.from) x other now
  forwarded_back j (Moving t) x other now = forward_back j (s.seal j.from) x other now
  forwarded_back j y x other now = now

  field_back : (a f : ℕ) (e : Event) (x : ℕ) → IsAside ((field_by s a f e).state x) → IsAside (s.state x)
  field_back a f (Widen w) x now = now
  field_back a f (Take w) x now = now
  field_back a f (Mark w) x now = now
  field_back a f e x now = now

  pub aside_back : (l : Sizes) (mark : Option FieldWord) (m : Carried) (x : ℕ) → ((j : MoveJob) → job_of m ≡ Some j → (x ≢ j.from) × (x ≢ j.to)) → IsAside ((space_moved l mark s m).state x) → IsAside (s.state x)
  aside_back l mark (Lays j) x other now = own_back j.to Underway x (other j refl).1 now
  aside_back l mark (Gives_up j) x other now = other_back j.to Dead (λ none. none) x now
  aside_back l mark (Seals j) x other now = sealed_back j (s.state j.from) x (other j refl).0 now
  aside_back l mark (Starts j) x other now = own_back j.from (Moving j.to) x (other j refl).0 now
  aside_back l mark (Forwards j) x other now = forwarded_back j (s.state j.from) x (other j refl).0 now
  aside_back l mark (Widens j f w) x other now = field_back j.from f (widen_event w (s.status j.from f)) x now
  aside_back l mark (Finishes j f w) x other now = field_back j.from f (finish_event w (s.status j.from f)) x now
  aside_back l mark (Marks j f w) x other now = field_back j.from f (mark_event mark w (s.word j.from f)) x now
  aside_back l mark m x other now = now

  -- ---- of that object, once its mover has ended

  forwards_settled : (j : MoveJob) (y : State) → s.state j.from ≡ y → MayEnd (Forwards j) y → IsAside ((forward_by s j y).state j.from) → ⊥
  forwards_settled j Tagged e may now = subst IsAside (set_here (set s.state j.to Plain) j.from (Forward j.to)) now
  forwards_settled j (Wide w) e may now = subst IsAside (set_here (set s.state j.to Plain) j.from (Forward j.to)) now
  forwards_settled j (Moving t) e may now = subst IsAside (set_here (set s.state j.to Plain) j.from (Forward j.to)) now
  forwards_settled j Absent e may now = may
  forwards_settled j Plain e may now = may
  forwards_settled j Kept e may now = may
  forwards_settled j Underway e may now = may
  forwards_settled j (Forward to) e may now = may
  forwards_settled j Dead e may now = may

  pub aside_settled : (l : Sizes) (mark : Option FieldWord) (m : Carried) (j : MoveJob) → job_of m ≡ Some j → MayEnd m (s.state j.from) → ((i : MoveJob) → m ≡ Looks i → ⊥) → ((i : MoveJob) → m ≡ Gives_up i → s.state j.from ≡ Kept) → IsAside ((space_moved l mark s m).state j.from) → ⊥
  aside_settled l mark (Looks i) j e may looks kept now = looks i refl
  aside_settled l mark (Gives_up i) j e may looks kept now = elim (set_cases s.state i.to j.from Dead) [ inl q ↦ subst IsAside q.1 now | inr q ↦ subst IsAside (q.1 ∙ kept i refl) now ]
  aside_settled l mark (Forwards i) j e may looks kept now =
      let same : i ≡ j = cc e in
      forwards_settled j (s.state j.from) refl may (subst (λ (x : MoveJob). IsAside ((forward_by s x (s.state x.from)).state j.from)) same now)
  aside_settled l mark m j e may looks kept now = may

  -- ---- and of its copy

  forward_copy : (j : MoveJob) (seal : Option (List Call)) → IsAside ((forward s j seal).state j.to) → ⊥
  forward_copy j seal now = elim (set_cases (set s.state j.to Plain) j.from j.to (Forward j.to)) [ inl q ↦ subst IsAside q.1 now | inr q ↦ subst IsAside (q.1 ∙ set_here s.state j.to Plain) now ]

  forwarded_copy : (j : MoveJob) (y : State) → MayEnd (Forwards j) y → IsAside ((forward_by s j y).state j.to) → ⊥
  forwarded_copy j Tagged may now = forward_copy j (Some s.history) now
  forwarded_copy j (Wide w) may now = forward_copy j (s.seal j.from) now
  forwarded_copy j (Moving t) may now = forward_copy j (s.seal j.from) now
  forwarded_copy j Absent may now = may
  forwarded_copy j Plain may now = may
  forwarded_copy j Kept may now = may
  forwarded_copy j Underway may now = may
  forwarded_copy j (Forward to) may now = may
  forwarded_copy j Dead may now = may

  pub copy_settled : (l : Sizes) (mark : Option FieldWord) (m : Carried) (j : MoveJob) → job_of m ≡ Some j → MayEnd m (s.state j.from) → ((i : MoveJob) → m ≡ Looks i → ⊥) → IsAside ((space_moved l mark s m).state j.to) → ⊥
  copy_settled l mark (Looks i) j e may looks now = looks i refl
  copy_settled l mark (Gives_up i) j e may looks now =
      let same : i ≡ j = cc e in
      subst (λ (x : MoveJob). IsAside (set s.state x.to Dead j.to) → ⊥) (sym same) (λ dead. subst IsAside (set_here s.state j.to Dead) dead) now
  copy_settled l mark (Forwards i) j e may looks now =
      let same : i ≡ j = cc e in
      forwarded_copy j (s.state j.from) may (subst (λ (x : MoveJob). IsAside ((forward_by s x (s.state x.from)).state j.to)) same now)
  copy_settled l mark m j e may looks now = may

-- ---- before Fix no pass has acknowledged Fix

refused_stance : (refused : Bool) → stance_by (if refused then announcements.Search else announcements.Copy) ≢ Fix_stance
refused_stance true e = cc e
refused_stance false e = cc e

pub before_stance : (a : Announcement) (st : Stage) → a ≡ announcements.Fix → stance_by (let b = before_by a st in b.announcement) ≢ Fix_stance
before_stance announcements.Fix st e = refused_stance (is_refused st)
before_stance announcements.Mark st e = absurd (cc e)
before_stance announcements.Confirm st e = absurd (cc e)
before_stance announcements.Search st e = absurd (cc e)
before_stance announcements.Copy st e = absurd (cc e)
before_stance announcements.Free st e = absurd (cc e)
