-- What the step of a mover finds at its word.
use Rattle.std.proofs.Common.{◌≡◌, ◌≢◌, ℕ, ◌+◌, ◌<◌, ◌≤◌, ◌^◌, Option, Some, None, refl, arith, ap, sym, subst, ◌∙◌}
use Rattle.call_steps.specs.Steps.{place_of, IsInside}
use Rattle.heap_words.specs.Layouts.{Sizes, words_of}
use Rattle.heap_words.specs.declared.field_word.FieldWord.{FieldWord}
use Rattle.heap_words.specs.FieldWords.{IsFieldWord, word_of}
use Rattle.object_headers.specs.declared.change.Kind.{Kind}
use Rattle.object_headers.specs.declared.header.Header.{Header}
use Rattle.object_headers.specs.Headers.{IsHeader, header_at}
use Rattle.wide_objects.specs.Statuses.{IsStatus, word_of_status}
use Rattle.space_reclaim.specs.declared.move_job.MoveJob.{MoveJob}
use Rattle.barriers.specs.States.{Absent, Plain}
use Rattle.barriers.specs.Spaces.{Space, here}
use Rattle.barriers.specs.Knowns.{Header_word}
use Rattle.barriers.specs.Moves.{Carried, Idles, Looks, Lays, Points, Gives_up, Seals, Starts, Forwards, Takes_up, Asks, Widens, Finishes, Marks, Puts, IsAtField, job_of, field_of, move_finds}
use Rattle.barriers.specs.MoveSteps.{move_step}
use Rattle.barriers.specs.MoveWords.{IsUnderway, IsMoverAt, StandsRight}
use Rattle.barriers.specs.CycleLaws.{IsAtWide}
use Rattle.barriers.specs.JobLaws.{job_header}
use Rattle.barriers.specs.Kits.{IsOf, IsMoveWord}
use Rattle.barriers.specs.Rows.{Rows}
use Rattle.barriers.specs.Says.{Notices, header_by, header_in, IsWritten, Says}
use Rattle.barriers.proofs.words.Rows.{row_area}
use Rattle.barriers.proofs.words.Headers.{home_there, home_live, live_written, written_there, header_colour, header_len, header_birth, home_born, plain_fits}
use Rattle.barriers.proofs.words.Found.{header_word, header_inside, word_inside}
use Rattle.barriers.proofs.words.Regions.{region_ends}

-- this of the job, if there is one
abbrev OfJob : (MoveJob → Type 0) → Option MoveJob → Type 0
OfJob Q None = Unit {0}
OfJob Q (Some j) = Q j

module _ (l : Sizes) (memory : ℕ → ℕ) (s : Space) (n : Notices) (rows : Rows l s.state s.len s.ends s.region) (says : Says l memory s n) (kind : Kind) (mark : Option FieldWord) where
  -- ---- of a mover with a job

  module _ (m : Carried) (j : MoveJob) (at : IsMoverAt l kind mark memory s m j) where
    pub from_there : s.state j.from ≢ Absent
    from_there = home_there (s.state j.from) at.live

    pub from_written : IsWritten (s.state j.from)
    from_written = live_written (s.state j.from) (home_live (s.state j.from) at.live)

    pub from_short : j.len ≤ 30
    from_short = let z = rows.short j.from from_there in let e = at.len in omega (arith, z, e)

    pub from_born : (0 < j.birth) × (j.birth < 2 ^ 24)
    from_born = subst (λ b. (0 < b) × (b < 2 ^ 24)) at.birth (home_born (s.colour j.from) (s.len j.from) (s.birth j.from) (s.state j.from) at.live (says.objects.header_fits j.from from_there))

    -- the job's header has a word
    pub from_plain : IsHeader (header_by Plain (s.colour j.from) j.len j.birth)
    from_plain = plain_fits (s.colour j.from) j.len j.birth from_short from_born.0 from_born.1

    -- the header that is there is of the job's object
    from_of : IsOf (Some (header_at j.header)) (header_in s j.from)
    from_of =
        let found = job_header j (s.colour j.from) at.header from_plain in (
          header_colour (s.colour j.from) (s.len j.from) (s.birth j.from) (s.state j.from) from_there ∙ sym (ap (λ (h : Header). h.colour) found),
          header_birth (s.colour j.from) (s.len j.from) (s.birth j.from) (s.state j.from) from_there ∙ (at.birth ∙ sym (ap (λ (h : Header). h.birth) found)),
          header_len (s.colour j.from) (s.len j.from) (s.birth j.from) (s.state j.from) from_there ∙ (at.len ∙ sym (ap (λ (h : Header). h.len) found)),
        )

    pub found_header_word : IsMoveWord j (Header_word (s.state j.from) (s.colour j.from) (s.len j.from)) (memory j.from)
    found_header_word = header_word l memory s n rows says j.from (Some (header_at j.header)) j.birth (home_live (s.state j.from) at.live) at.birth from_of

    -- its field is one of the object's
    pub from_field : IsAtField m → field_of m < s.len j.from
    from_field f = let lt = at.field f in let e = at.len in omega (arith, lt, e)

    pub found_field : (f : IsAtField m) → (memory (j.from + 1 + field_of m) ≡ word_of (s.word j.from (field_of m))) × IsFieldWord (s.word j.from (field_of m))
    found_field f = (says.objects.word j.from (field_of m) from_written (from_field f), says.objects.word_fits j.from (field_of m) from_written (from_field f))

    -- its wide object
    pub from_wide : IsAtWide m → s.wide j.from ≢ 0
    from_wide w e = (at.wide w).1 (sym (at.wide w).0 ∙ e)

    pub found_status : IsAtWide m → (f : IsAtField m) → (memory (j.wide + 1 + field_of m) ≡ word_of_status (s.status j.from (field_of m))) × IsStatus (s.status j.from (field_of m))
    found_status w f = (
      ap (λ a. memory (a + 1 + field_of m)) (sym (at.wide w).0) ∙ says.wide.status j.from (field_of m) (from_wide w) (from_field f),
      says.wide.status_fits j.from (field_of m) (from_wide w) (from_field f),
    )

    -- ---- the word is there

    pub from_inside : j.from < words_of l
    from_inside = header_inside l memory s n rows says j.from (home_live (s.state j.from) at.live)

    pub field_inside : IsAtField m → j.from + 1 + field_of m < words_of l
    field_inside f = word_inside l memory s n rows says j.from (field_of m) from_written (from_field f)

    pub wide_inside : IsAtWide m → (i : ℕ) → i ≤ j.len → j.wide + i < words_of l
    wide_inside w i le = let y = (says.wide.inside j.from (from_wide w)).1 in let e = (at.wide w).0 in let size = at.len in omega (arith, e, y, le, size)

    pub status_inside : IsAtWide m → IsAtField m → j.wide + 1 + field_of m < words_of l
    status_inside w f = let lt = at.field f in let q = wide_inside w (1 + field_of m) (omega (arith, lt)) in omega (arith, q)

  -- ---- its copy

  module _ (j : MoveJob) (copy : IsUnderway s j) where
    pub to_written : IsWritten (s.state j.to)
    to_written = subst IsWritten (sym copy.state) tt

    pub to_inside : j.to < words_of l
    to_inside = let z = (row_area l s.state s.len s.ends s.region rows j.to 0 (written_there (s.state j.to) to_written) (omega arith)).1 in omega (arith, z)

    pub put_inside : (f : ℕ) → f < j.len → j.to + 1 + f < words_of l
    put_inside f lt = word_inside l memory s n rows says j.to f to_written (let e = copy.len in omega (arith, lt, e))

  -- ---- by what is known

  pub move_inside : (m : Carried) → StandsRight l kind mark memory s m → IsInside (words_of l) (move_step kind mark m)
  move_inside Idles at = tt
  move_inside (Looks j) at = from_inside (Looks j) j (at j refl)
  move_inside (Lays j) at = let can = (at j refl).copy in let z = region_ends l _ can.region in let y = can.room in omega (arith, z, y)
  move_inside (Points j) at = let q = wide_inside (Points j) j (at j refl) tt 0 (omega arith) in omega (arith, q)
  move_inside (Gives_up j) at = to_inside j (at j refl).copy
  move_inside (Seals j) at = from_inside (Seals j) j (at j refl)
  move_inside (Starts j) at = from_inside (Starts j) j (at j refl)
  move_inside (Forwards j) at = from_inside (Forwards j) j (at j refl)
  move_inside (Takes_up j f) at = field_inside (Takes_up j f) j (at j refl) tt
  move_inside (Asks j f) at = status_inside (Asks j f) j (at j refl) tt tt
  move_inside (Widens j f w) at = status_inside (Widens j f w) j (at j refl) tt tt
  move_inside (Finishes j f w) at = status_inside (Finishes j f w) j (at j refl) tt tt
  move_inside (Marks j f w) at = field_inside (Marks j f w) j (at j refl) tt
  move_inside (Puts j f w) at = put_inside j (at j refl).copy f ((at j refl).field tt)

  abbrev Stands : Carried → MoveJob → Type 0
  Stands m j = IsMoveWord j (move_finds (here s j.from (field_of m)) m) (memory (place_of (move_step kind mark m)))

  found_own : (m : Carried) → StandsRight l kind mark memory s m → OfJob (Stands m) (job_of m)
  found_own Idles at = tt
  found_own (Looks j) at = found_header_word (Looks j) j (at j refl)
  found_own (Lays j) at = tt
  found_own (Points j) at = tt
  found_own (Gives_up j) at = tt
  found_own (Seals j) at = found_header_word (Seals j) j (at j refl)
  found_own (Starts j) at = found_header_word (Starts j) j (at j refl)
  found_own (Forwards j) at = found_header_word (Forwards j) j (at j refl)
  found_own (Takes_up j f) at = found_field (Takes_up j f) j (at j refl) tt
  found_own (Asks j f) at = found_status (Asks j f) j (at j refl) tt tt
  found_own (Widens j f w) at = found_status (Widens j f w) j (at j refl) tt tt
  found_own (Finishes j f w) at = found_status (Finishes j f w) j (at j refl) tt tt
  found_own (Marks j f w) at = found_field (Marks j f w) j (at j refl) tt
  found_own (Puts j f w) at = tt

  -- the word at a mover's step is that of what it finds
  pub move_word_found : (m : Carried) → StandsRight l kind mark memory s m → (j : MoveJob) → job_of m ≡ Some j → IsMoveWord j (move_finds (here s j.from (field_of m)) m) (memory (place_of (move_step kind mark m)))
  move_word_found m at j e = subst (OfJob (Stands m)) e (found_own m at)
