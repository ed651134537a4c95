-- A pass that the await has passed has acknowledged what is announced, so where its root words are to be fixed its links lead to homes.
use Rattle.std.proofs.Common.{inl, inr, ◌≡◌, ◌≢◌, ℕ, ◌≤◌, ◌⊎◌, true, refl, ap, ◌∙◌, arith}
use Rattle.heap_words.specs.Layouts.{Sizes, IsPass}
use Rattle.object_headers.specs.declared.change.Kind.{Kind}
use Rattle.handshakes.specs.declared.phase_word.Phase.{Phase}
use Rattle.handshakes.specs.declared.phase_word.Phase.TheVariants as phases
use Rattle.handshakes.specs.Handshakes.{Answers}
use Rattle.handshakes.specs.PhaseWords.{retired_word, phase_word_at}
use Rattle.space_reclaim.specs.Plans.{Planned}
use Rattle.barriers.specs.Stances.{Fix as Fix_stance, Copy as Copy_stance, Search as Search_stance, is_last, stance_in, stance_at}
use Rattle.lawful_records.specs.declared.stage.Announcement.{Announcement}
use Rattle.lawful_records.specs.declared.stage.Announcement.TheVariants.{Mark, Confirm, Search, Copy, Fix, Free}
use Rattle.lawful_records.specs.declared.stage.Stage.{Stage}
use Rattle.lawful_records.specs.declared.collector.CollectorMachine.{CollectorMachine}
use Rattle.lawful_records.specs.declared.collector.CollectorMachine.TheVariants as collector
use Rattle.lawful_records.specs.Collectors.{word_of}
use Rattle.lawful_records.specs.Cycling.{announced_by}
use Rattle.lawful_records.specs.Fixing.{fixed_at, IsFixedBy, AreRootsFixed, fixed_passes}
use Rattle.lawful_records.specs.Handshakes.{IsStage, IsCollector}
use Rattle.lawful_records.proofs.collecting.Stages.{stance_by, stance_word, stage_said}
use Rattle.std.specs.Prelude.{Bool, false, if◌then◌else◌}

-- only a word of the phase Fix has that stance
copy_apart : (last : Bool) → (if last then Copy_stance else Search_stance) ≡ Fix_stance → ⊥
copy_apart true e = cc e
copy_apart false e = cc e

fix_phase : (phase : Phase) (round : ℕ) → stance_in phase round ≡ Fix_stance → phase ≡ phases.Fix
fix_phase phases.Fix round e = refl
fix_phase phases.Copy round e = absurd (copy_apart (is_last round) e)
fix_phase phases.Mark round e = absurd (cc e)
fix_phase phases.Confirm round e = absurd (cc e)
fix_phase phases.Free round e = absurd (cc e)
fix_phase phases.Retired round e = absurd (cc e)

pub stance_fix : (word : ℕ) → stance_at word ≡ Fix_stance → (let w = phase_word_at word in w.phase) ≡ phases.Fix
stance_fix word e = let w = phase_word_at word in fix_phase w.phase w.round e

module _ {M : Type 0} (plan : Planned) (l : Sizes) (kind : Kind) (cycles : ℕ) (few : cycles ≤ 64) (acked : ℕ) where
  -- all links lead to homes, or Fix is announced
  said_by : (k : CollectorMachine M) (s : Stage) → IsStage l kind cycles s → acked ≡ word_of s → (a : Announcement) → s.announcement ≡ a → (fixed_at a ≡ true) ⊎ (stance_at acked ≡ Fix_stance)
  said_by k s is same Fix e = inr (ap stance_at same ∙ (stance_word s (stage_said l kind cycles few s is) ∙ ap stance_by e))
  said_by k s is same Mark e = inl refl
  said_by k s is same Confirm e = inl refl
  said_by k s is same Search e = inl refl
  said_by k s is same Copy e = inl refl
  said_by k s is same Free e = inl refl

  answered : (k : CollectorMachine M) (number : ℕ) → Answers (announced_by k) number acked → acked ≢ retired_word → (let a = announced_by k in number ≤ a.passed) → acked ≡ (let a = announced_by k in a.word)
  answered k number answers runs low = elim answers [
    | inl ended ↦ absurd (runs ended)
    | inr rest ↦ elim rest [ inl same ↦ same | inr late ↦ absurd (omega (arith, late.1, low)) ]
  ]

  passed_fixed : (k : CollectorMachine M) → IsCollector l kind cycles plan k → (number : ℕ) → 1 ≤ number → Answers (announced_by k) number acked → acked ≢ retired_word → number ≤ fixed_passes k → IsFixedBy k acked
  passed_fixed (collector.Await s pass m) is number first answers runs low = said_by (collector.Await s pass m) s is.stage (answered (collector.Await s pass m) number answers runs low) s.announcement refl
  passed_fixed (collector.Roots s pass reg m) is number first answers runs low =
      inr (ap stance_at (answered (collector.Roots s pass reg m) number answers runs low) ∙ (stance_word s (stage_said l kind cycles few s is.stage) ∙ ap stance_by is.fix))
  passed_fixed (collector.Walk s m) is number first answers runs low =
      inr (ap stance_at (answered (collector.Walk s m) number answers runs low) ∙ (stance_word s (stage_said l kind cycles few s is.stage) ∙ ap stance_by is.fix))
  passed_fixed k is number first answers runs low = absurd (omega (arith, first, low))

  pub roots_by : (k : CollectorMachine M) → IsCollector l kind cycles plan k → (number : ℕ) → IsPass l number → Answers (announced_by k) number acked → acked ≢ retired_word → AreRootsFixed k number → IsFixedBy k acked
  roots_by k is number there answers runs (inl fixed) = inl fixed
  roots_by k is number there answers runs (inr low) = passed_fixed k is number there.0 answers runs low
