-- The header of a job, and what a mover reads off the header's word that it finds.
use Rattle.std.proofs.Common.{◌≡◌, ◌≢◌, ℕ, refl, arith, ap, sym, ◌∙◌}
use Rattle.object_headers.specs.declared.header.Colour.{Colour}
use Rattle.object_headers.specs.declared.header.Header.{Header}
use Rattle.object_headers.specs.declared.header.State.{State as HeaderState}
use Rattle.object_headers.specs.declared.header.State.TheVariants as states
use Rattle.object_headers.specs.Headers.{IsHeader, FitsState, word_of_header, header_at}
use Rattle.object_headers.specs.HeaderLaws.{header_at-word_of_header, word_of_header-injective}
use Rattle.space_reclaim.specs.declared.move_job.MoveJob.{MoveJob}
use Rattle.barriers.specs.States.{State, Absent, Plain, Kept, Tagged, Wide, Moving, Underway, Forward, Dead}
use Rattle.barriers.specs.Knowns.{Header_word}
use Rattle.barriers.specs.MoveSteps.{IsJob, job_word}
use Rattle.barriers.specs.Kits.{state_by, state_in, IsMoveWord}
use Rattle.barriers.specs.Says.{header_by, head_word}

-- a header with a word is that of its state
by_state : (x : HeaderState) (c : Colour) (len birth target : ℕ) → (let h : Header = record { state = x; colour = c; len = len; birth = birth; target = target } in FitsState x h → header_by (state_by x target) c len birth ≡ h)
by_state states.Absent c len birth target fits = rw (fits.0, fits.1, fits.2, fits.3) refl
by_state states.Plain c len birth target fits = rw fits.1 refl
by_state states.Kept c len birth target fits = rw fits.1 refl
by_state states.Tagged c len birth target fits = rw fits.1 refl
by_state states.Wide c len birth target fits = refl
by_state states.Moving c len birth target fits = refl
by_state states.Forward c len birth target fits = refl
by_state states.Dead c len birth target fits = rw fits.1 refl

pub header_by-state_in : (h : Header) → IsHeader h → header_by (state_in h) (let g = h in g.colour) (let g = h in g.len) (let g = h in g.birth) ≡ h
header_by-state_in h fits = by_state h.state h.colour h.len h.birth h.target fits.state

-- and a header in a state says it, but that of a copy under way
pub header_state : (c : Colour) (len birth : ℕ) (x : State) → x ≢ Underway → state_in (header_by x c len birth) ≡ x
header_state c len birth Absent h = refl
header_state c len birth Plain h = refl
header_state c len birth Kept h = refl
header_state c len birth Tagged h = refl
header_state c len birth (Wide w) h = refl
header_state c len birth (Moving t) h = refl
header_state c len birth Underway h = absurd (h refl)
header_state c len birth (Forward t) h = refl
header_state c len birth Dead h = refl

-- a job's header has a word
pub job_fits : (j : MoveJob) (job : IsJob j) → IsHeader (header_by Plain job.colour j.len j.birth)
job_fits j job = record { len = job.few; birth = job.born.1; target = omega arith; state = (job.born.0, refl) }

module _ (j : MoveJob) (colour : Colour) (is : j.header ≡ head_word Plain colour j.len j.birth) (fits : IsHeader (header_by Plain colour j.len j.birth)) where
  -- the header that a walk found
  pub job_header : header_at j.header ≡ header_by Plain colour j.len j.birth
  job_header = ap header_at is ∙ header_at-word_of_header (header_by Plain colour j.len j.birth) fits

  -- so the words of the object's header are those of its colour
  pub job_word-of : (x : State) → job_word x j ≡ head_word x colour j.len j.birth
  job_word-of x = ap (λ (h : Header). head_word x h.colour j.len j.birth) job_header

  -- the word of the object's header, in the state in which it is found
  pub found_word : (x : State) (c : Colour) (len n : ℕ) → IsMoveWord j (Header_word x c len) n → n ≡ job_word x j
  found_word x c len n word =
      let h = word.header in
      let same : header_by x (let g = header_at j.header in g.colour) j.len j.birth ≡ h =
      ap (λ c. header_by x c j.len j.birth) (sym word.of.0)
      ∙ (ap (λ i. header_by x (let g = h in g.colour) i j.birth) (sym (word.of.2 ∙ ap (λ (g : Header). g.len) job_header))
      ∙ (ap (λ i. header_by x (let g = h in g.colour) (let g = h in g.len) i) (sym (word.of.1 ∙ ap (λ (g : Header). g.birth) job_header))
      ∙ (ap (λ y. header_by y (let g = h in g.colour) (let g = h in g.len) (let g = h in g.birth)) (sym word.state)
      ∙ header_by-state_in h word.fits))) in
      word.word ∙ ap word_of_header (sym same)

  -- it is the word of another state only where it is that state
  pub found_state : (x y : State) (c : Colour) (len n : ℕ) → IsMoveWord j (Header_word x c len) n → y ≢ Underway → IsHeader (header_by y colour j.len j.birth) → n ≡ job_word y j → x ≡ y
  found_state x y c len n word there fits e =
      let same : word.header ≡ header_by y colour j.len j.birth = word_of_header-injective word.header (header_by y colour j.len j.birth) word.fits fits (sym word.word ∙ (e ∙ job_word-of y)) in
      sym word.state ∙ (ap state_in same ∙ header_state colour j.len j.birth y there)
