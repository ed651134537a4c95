-- A move does what is known of it.
use Rattle.std.specs.Prelude.{ℕ, ◌+◌, ◌<◌, ◌==◌, nat_lt, if◌then◌else◌}
use Rattle.std.proofs.Common.{◌≡◌, refl, sym, ap, subst, ◌∙◌, arith, Bool, true, false, Option, Some, None}
use Rattle.std.proofs.lemmas.Bool.{eqb-true}
use Rattle.std.proofs.lemmas.Bool.Decides.{nat_tests}
use Rattle.call_steps.specs.declared.step.Step.TheVariants.{Load, Store, Exchange}
use Rattle.heap_words.specs.declared.limits.TheConstants.{ADDRESS_LIMIT, MOST_FIELDS}
use Rattle.heap_words.specs.declared.field_word.FieldWord.{FieldWord}
use Rattle.heap_words.specs.declared.field_word.FieldWord.TheVariants.{Num}
use Rattle.heap_words.specs.FieldWords.{IsFieldWord, word_of, field_at}
use Rattle.object_headers.specs.declared.change.Kind.TheVariants as kinds
use Rattle.object_headers.specs.declared.header.Colour.{Colour}
use Rattle.object_headers.specs.declared.header.Header.{Header}
use Rattle.object_headers.specs.Headers.{header_at, word_of_header}
use Rattle.space_reclaim.specs.declared.move_job.MoveJob.{MoveJob}
use Rattle.barriers.specs.declared.ends.MoveEnd.TheVariants as move_end
use Rattle.barriers.specs.States.{Plain, Moving, Forward, same_word}
use Rattle.barriers.specs.Stances.{mark_in}
use Rattle.barriers.specs.Spaces.{Here}
use Rattle.barriers.specs.Says.{header_by}
use Rattle.barriers.specs.KnownLaws.{same_word-word_of}
use Rattle.barriers.specs.JobLaws.{job_fits, job_header}
use Rattle.barriers.specs.Moves.{Carried, Lays, Takes_up, Puts, Forwards, job_of, move_finds}
use Rattle.barriers.specs.MoveSteps.{IsJob, FitsCarried, mark_word, move_step, kept_after, move_said}
use Rattle.barriers.specs.Kits.{IsMoveWord, Moves}
use Rattle.at_rest.specs.Knowing.{IsPackedWord}
use Rattle.at_rest.specs.ReadLaws.{word_found}
use Rattle.clover_marks.specs.declared.mover.MoveHeaders.{MoveHeaders}
use Rattle.clover_marks.specs.declared.mover.Relocation.{Relocation}
use Rattle.clover_marks.specs.declared.mover.CloverMove.{CloverMove}
use Rattle.clover_marks.specs.declared.mover.CloverMove.TheVariants as move
use Rattle.clover_marks.specs.CloverMoves as machine
use Rattle.clover_marks.specs.CloverMoves.{headers_to, headers_by, headers_of, begun_by, word_at, moved_to, marked}
use Rattle.clover_marks.specs.CloverTable.{marks_on, by_take, clover_move_fed, clover}
use Rattle.clover_marks.specs.CloverKnowing.{moves, kept_by, IsRelocation, MovesFor}
use Rattle.clover_marks.specs.MarkLaws.{num_word}

-- ---- the step

near_word : (at field : ℕ) → at < ADDRESS_LIMIT → field < MOST_FIELDS → word_at at field ≡ at + 1 + field
near_word at field near few = omega (arith, near, few)

swap_asks : (at want put at_known want_known put_known : ℕ) → at ≡ at_known → want ≡ want_known → put ≡ put_known → Exchange at want put ≡ Exchange at_known want_known put_known
swap_asks at want put at_known want_known put_known same wants puts = rw (same, wants, puts) refl

move_asks : (mark : Option FieldWord) (m : CloverMove) → MovesFor mark m → machine.asks_of m ≡ move_step kinds.Clover mark (moves m)
move_asks mark (move.Header r) for = let job = r.job in ap (Store job.to) for.plain
move_asks mark (move.Start r) for = swap_asks _ _ _ _ _ _ refl for.plain for.moving
move_asks mark (move.Load r field) for = let job = r.job in let is = for.0 in ap Load (near_word job.from field is.from (omega (arith, is.few, for.1)))
move_asks mark (move.Store r field word) for =
    let job = r.job in
    let is = for.0 in
    let packed = for.2 in
    ap (λ (at : ℕ). Store at word) (near_word job.to field is.to (omega (arith, is.few, for.1))) ∙ ap (Store (job.to + 1 + field)) packed.same
move_asks mark (move.Mark r field word) for =
    let job = r.job in
    let is = for.0 in
    let packed = for.2 in
    swap_asks _ _ _ _ _ _ (near_word job.from field is.from (omega (arith, is.few, for.1))) packed.same is.its_mark
move_asks mark (move.Forward r) for = swap_asks _ _ _ _ _ _ refl for.moving for.forward
move_asks mark (move.Ended end) for = refl

-- ---- how it goes on

-- it is known so then, and keeps no header
abbrev Becomes : Option FieldWord → CloverMove → Carried → Type 0
Becomes mark m k = (moves m ≡ k) × MovesFor mark m × (kept_by m ≡ None)

moved_so : (mark : Option FieldWord) (r : Relocation) (field : ℕ) → IsRelocation mark r → Becomes mark (moved_to r field) (let job = r.job in marks_on job field)
moved_so mark r field is = let job = r.job in by (nat_lt field job.len) refl
  where
    by : (b : Bool) → (let job = r.job in nat_lt field job.len) ≡ b → Becomes mark (if b then move.Load r field else move.Forward r) (let job = r.job in if b then Takes_up job field else Forwards job)
    by true e = (refl, (is, grind (arith, nat_tests, e)), refl)
    by false e = (refl, is, refl)

marked_so : (mark : Option FieldWord) (r : Relocation) (field : ℕ) → IsRelocation mark r → (let job = r.job in field < job.len) → Becomes mark (marked r field) (let job = r.job in marks_on job (field + 1))
marked_so mark r field is lt =
    let job = r.job in
    let inside : nat_lt field job.len ≡ true = grind (arith, nat_tests, lt) in
    subst (λ (b : Bool). Becomes mark (if b then moved_to r (field + 1) else move.Forward r) (marks_on job (field + 1))) (sym inside) (moved_so mark r (field + 1) is)

packed_by : (w : FieldWord) (n : ℕ) → (n ≡ word_of w) × IsFieldWord w → IsPackedWord n
packed_by w n word = let found = word_found w n word in record { same = word.0 ∙ ap word_of (sym found); fits = subst IsFieldWord (sym found) word.1 }

-- the exchange of the word for the mark
taken_so : (mark : Option FieldWord) (r : Relocation) (field word : ℕ) (w : FieldWord) (n : ℕ) → (n ≡ word_of w) × IsFieldWord w → MovesFor mark (move.Mark r field word)
    → Becomes mark (machine.fed_of (move.Mark r field word) n) (let job = r.job in by_take job field (field_at word) w)
taken_so mark r field word w n found for =
    let job = r.job in
    let packed = for.2 in
    let wins : (n == word) ≡ same_word w (field_at word) =
    ap (λ (i : ℕ). i == word) found.0 ∙ (ap (λ (i : ℕ). word_of w == i) packed.same ∙ sym (same_word-word_of w (field_at word) found.1 packed.fits)) in
    subst (λ (b : Bool). Becomes mark (if n == word then marked r field else move.Store r field n) (if b then marks_on job (field + 1) else Puts job field w)) wins (by (n == word))
  where
    by : (b : Bool) → Becomes mark (if b then marked r field else move.Store r field n) (let job = r.job in if b then marks_on job (field + 1) else Puts job field w)
    by true = marked_so mark r field for.0 for.1
    by false = let job = r.job in (ap (Puts job field) (word_found w n found), (for.0, for.1, packed_by w n found), refl)

move_goes : (mark : Option FieldWord) (m : CloverMove) (j : MoveJob) (x : Here) (n : ℕ) → MovesFor mark m → job_of (moves m) ≡ Some j → IsMoveWord j (move_finds x (moves m)) n
    → (moves (machine.fed_of m n) ≡ clover_move_fed (moves m) (move_finds x (moves m))) × MovesFor mark (machine.fed_of m n) × (kept_by (machine.fed_of m n) ≡ kept_after (moves m) (clover_move_fed (moves m) (move_finds x (moves m))) n (kept_by m))
move_goes mark (move.Header r) j x n for is word = (refl, for, refl)
move_goes mark (move.Start r) j x n for is word = moved_so mark r 0 for
move_goes mark (move.Load r field) j x n for is word = let job = r.job in (ap (Puts job field) (word_found x.word n word), (for.0, for.1, packed_by x.word n word), refl)
move_goes mark (move.Store r field put) j x n for is word = (refl, for, refl)
move_goes mark (move.Mark r field put) j x n for is word = taken_so mark r field put x.word n word for
move_goes mark (move.Forward r) j x n for is word = (refl, tt, refl)
move_goes mark (move.Ended end) j x n for is word = absurd (let gone : None ≡ Some j = is in cc)

-- ---- how it ends

move_tells : (m : CloverMove) → machine.end_of m ≡ move_said (moves m) (kept_by m)
move_tells (move.Header r) = refl
move_tells (move.Start r) = refl
move_tells (move.Load r field) = refl
move_tells (move.Store r field word) = refl
move_tells (move.Mark r field word) = refl
move_tells (move.Forward r) = refl
move_tells (move.Ended move_end.Moved) = refl
move_tells (move.Ended (move_end.Kept header)) = refl

move_packed : (mark : Option FieldWord) (m : CloverMove) → MovesFor mark m → FitsCarried (moves m)
move_packed mark (move.Header r) for = tt
move_packed mark (move.Start r) for = tt
move_packed mark (move.Load r field) for = tt
move_packed mark (move.Store r field word) for = let packed = for.2 in packed.fits
move_packed mark (move.Mark r field word) for = let packed = for.2 in packed.fits
move_packed mark (move.Forward r) for = tt
move_packed mark (move.Ended end) for = tt

pub clover_moving : Moves clover kinds.Clover machine.asks_of machine.fed_of moves MovesFor kept_by machine.end_of
clover_moving = record {
  asks_alike = move_asks;
  goes = move_goes;
  tells = move_tells;
  packed = move_packed;
}

-- ---- how it begins

-- the mark of a cycle that has one is its word
mark_so : (mark : ℕ) → mark ≡ mark_word (mark_in mark)
mark_so mark = by (mark == 0) refl
  where
    by : (b : Bool) → (mark == 0) ≡ b → mark ≡ mark_word (if b then None else Some (Num mark))
    by true e = eqb-true mark 0 e
    by false e = sym (num_word mark)

module _ (j : MoveJob) (mark : ℕ) (job : IsJob j) where
  header : header_at j.header ≡ header_by Plain job.colour j.len j.birth
  header = job_header j job.colour job.header (job_fits j job)

  relocation : IsRelocation (mark_in mark) (record { job = j; headers = headers_to (header_by Plain job.colour j.len j.birth) j.to; mark = mark })
  relocation =
      let colours : (let h = header_at j.header in h.colour) ≡ job.colour = ap (λ (h : Header). h.colour) header in
      let near = job.near in
      record {
        plain = ap (λ (c : Colour). word_of_header (header_by Plain c j.len j.birth)) (sym colours);
        moving = ap (λ (c : Colour). word_of_header (header_by (Moving j.to) c j.len j.birth)) (sym colours);
        forward = ap (λ (c : Colour). word_of_header (header_by (Forward j.to) c j.len j.birth)) (sym colours);
        from = near.0;
        to = near.1;
        few = job.few;
        its_mark = mark_so mark;
      }

  begun_headers : headers_of j ≡ Some (headers_to (header_by Plain job.colour j.len j.birth) j.to)
  begun_headers =
      let near = job.near in
      let low : nat_lt j.to ADDRESS_LIMIT ≡ true = grind (arith, nat_tests, near.1) in
      ap (λ (h : Header). headers_by h.state h j.to) header ∙ ap (λ (b : Bool). if b then Some (headers_to (header_by Plain job.colour j.len j.birth) j.to) else None) low

  pub move_begins : (moves (machine.begun j mark) ≡ Lays j) × MovesFor (mark_in mark) (machine.begun j mark) × (kept_by (machine.begun j mark) ≡ None)
  move_begins = subst (λ (o : Option MoveHeaders). (moves (begun_by j mark o) ≡ Lays j) × MovesFor (mark_in mark) (begun_by j mark o) × (kept_by (begun_by j mark o) ≡ None)) (sym begun_headers) (refl, relocation, refl)
