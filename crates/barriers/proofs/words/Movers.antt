-- The machine of a mover over the words: it asks for a step on a word that is there, and goes on as the table says.
use Rattle.std.proofs.Common.{◌≡◌, ℕ, Option, Some, refl, sym, subst, ◌∙◌}
use Rattle.call_steps.specs.StepLaws.{Put}
use Rattle.call_steps.specs.Steps.{place_of, put_by, IsInside}
use Rattle.call_steps.specs.declared.step.Step.{Step}
use Rattle.call_steps.specs.declared.step.Step.TheVariants.{Ended}
use Rattle.heap_words.specs.Layouts.{Sizes, IsLayout, words_of}
use Rattle.heap_words.specs.declared.field_word.FieldWord.{FieldWord}
use Rattle.space_reclaim.specs.declared.move_job.MoveJob.{MoveJob}
use Rattle.barriers.specs.Spaces.{Space, here}
use Rattle.barriers.specs.Knowns.{Finds}
use Rattle.barriers.specs.Moves.{Carried, Idles, job_of, field_of, move_finds}
use Rattle.barriers.specs.MoveSteps.{move_step, kept_after, space_moved}
use Rattle.barriers.specs.MoveWords.{StandsRight}
use Rattle.barriers.specs.Kits.{Kit, Stepping, Laws}
use Rattle.barriers.specs.Rows.{Rows}
use Rattle.barriers.specs.Says.{Notices, Says}
use Rattle.barriers.proofs.words.Moves.{move_inside, move_word_found}
use Rattle.barriers.proofs.words.MoveStores.{says_moved}

module _ {R W E M : Type 0} (kit : Kit R W E M) (by : Stepping R W E M) (laws : Laws kit by) (mark : Option FieldWord) (m : M) (own : kit.MovesFor mark m) where
  asks : by.move_asks m ≡ move_step kit.kind mark (kit.moves m)
  asks = laws.moving.asks_alike mark m own

  pub ended_idles : by.move_asks m ≡ Ended → kit.moves m ≡ Idles
  ended_idles e = by_step (kit.moves m) (sym asks ∙ e) where
    by_step : (k : Carried) → move_step kit.kind mark k ≡ Ended → k ≡ Idles
    by_step Idles e = refl
    by_step k e = absurd (cc e)

  -- what it is after it was fed this word, where its step finds this
  abbrev pub GoesBy : Finds → ℕ → Type 0
  GoesBy found word =
      (kit.moves (by.move_fed m word) ≡ (let P = kit.protocol in P.move_fed (kit.moves m) found))
      × kit.MovesFor mark (by.move_fed m word)
      × (kit.keeps (by.move_fed m word) ≡ kept_after (kit.moves m) (let P = kit.protocol in P.move_fed (kit.moves m) found) word (kit.keeps m))

  module _ (l : Sizes) (memory : ℕ → ℕ) (s : Space) (n : Notices) (rows : Rows l s.state s.len s.ends s.region) (says : Says l memory s n) (at : StandsRight l kit.kind mark memory s (kit.moves m)) where
    pub mover_inside : IsInside (words_of l) (by.move_asks m)
    mover_inside = subst (IsInside (words_of l)) (sym asks) (move_inside l memory s n rows says kit.kind mark (kit.moves m) at)

    pub mover_goes : (j : MoveJob) → job_of (kit.moves m) ≡ Some j → GoesBy (move_finds (here s j.from (field_of (kit.moves m))) (kit.moves m)) (memory (place_of (by.move_asks m)))
    mover_goes j is = subst (λ (step : Step). GoesBy (move_finds (here s j.from (field_of (kit.moves m))) (kit.moves m)) (memory (place_of step))) (sym asks)
        (laws.moving.goes mark m j (here s j.from (field_of (kit.moves m))) (memory (place_of (move_step kit.kind mark (kit.moves m)))) own is (move_word_found l memory s n rows says kit.kind mark (kit.moves m) at j is))

    pub mover_says : (next : ℕ → ℕ) → IsLayout l → Put memory next (place_of (by.move_asks m)) (put_by (by.move_asks m) (memory (place_of (by.move_asks m)))) → Says l next (space_moved l mark s (kit.moves m)) n
    mover_says next il put = says_moved l memory next s n rows says il kit.kind mark (kit.moves m) at (laws.moving.packed mark m own) (subst (λ (step : Step). Put memory next (place_of step) (put_by step (memory (place_of step)))) asks put)
