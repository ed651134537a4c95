-- A move does what is known of it.
use Rattle.std.specs.Prelude.{ℕ, ◌+◌, ◌<◌, ◌≤◌, ◌==◌, nat_lt, if◌then◌else◌}
use Rattle.std.proofs.Common.{◌≡◌, ◌≢◌, lit<, refl, sym, ap, subst, ◌∙◌, arith, Bool, true, false, Option, Some, None}
use Rattle.std.proofs.lemmas.Bool.Decides.{nat_tests}
use Rattle.call_steps.specs.declared.step.Step.TheVariants.{Load, Store, Exchange}
use Rattle.heap_words.specs.declared.limits.TheConstants.{ADDRESS_LIMIT, MOST_FIELDS, BIRTH_LIMIT}
use Rattle.heap_words.specs.declared.field_word.FieldWord.{FieldWord}
use Rattle.heap_words.specs.FieldWords.{IsFieldWord, word_of, field_at}
use Rattle.heap_words.specs.FieldWordLaws.{field_at-word_of}
use Rattle.object_headers.specs.declared.change.Kind.TheVariants as kinds
use Rattle.object_headers.specs.declared.header.Colour.{Colour}
use Rattle.object_headers.specs.declared.header.Header.{Header}
use Rattle.object_headers.specs.declared.header.State.TheVariants as states
use Rattle.object_headers.specs.Headers.{IsHeader, header_at, word_of_header}
use Rattle.object_headers.specs.HeaderLaws.{header_at-word_of_header}
use Rattle.space_reclaim.specs.declared.move_job.MoveJob.{MoveJob}
use Rattle.barriers.specs.declared.ends.MoveEnd.TheVariants as move_end
use Rattle.barriers.specs.States.{State, Absent, Plain, Kept, Tagged, Wide, Moving, Underway, Forward, Dead}
use Rattle.barriers.specs.Spaces.{Here}
use Rattle.barriers.specs.Says.{header_by}
use Rattle.barriers.specs.Knowns.{Header_word}
use Rattle.barriers.specs.Moves.{Carried, Lays, Idles, Takes_up, Puts, Forwards, Gives_up, job_of, move_finds}
use Rattle.barriers.specs.MoveSteps.{IsJob, FitsCarried, job_word, move_step, kept_after, move_said}
use Rattle.barriers.specs.Kits.{IsHeaderWord, IsMoveWord, Moves, state_in}
use Rattle.at_rest.specs.Knowing.{IsPackedWord}
use Rattle.tagged_calls.specs.LocationLaws.{header_found, tagged_state, untargeted}
use Rattle.chicken_tags.specs.declared.mover.MoveHeaders.{MoveHeaders}
use Rattle.chicken_tags.specs.declared.mover.ChickenMove.{ChickenMove}
use Rattle.chicken_tags.specs.declared.mover.ChickenMove.TheVariants as move
use Rattle.chicken_tags.specs.ChickenMoves as machine
use Rattle.chicken_tags.specs.ChickenMoves.{headers_to, headers_by, headers_of, begun_by, word_at, copied, stored}
use Rattle.chicken_tags.specs.ChickenTable.{copies, chicken_move_fed, chicken}
use Rattle.chicken_tags.specs.ChickenKnowing.{moves, kept_by, HasHeaders, MovesFor}

-- ---- the step

near_word : (at field : ℕ) → at < ADDRESS_LIMIT → field < MOST_FIELDS → word_at at field ≡ at + 1 + field
near_word at field near few = omega (arith, near, few)

move_asks : (mark : Option FieldWord) (m : ChickenMove) → MovesFor mark m → machine.asks_of m ≡ move_step kinds.Chicken mark (moves m)
move_asks mark (move.Header job headers) for = ap (λ (put : ℕ). Store job.to put) for.plain
move_asks mark (move.Load job headers field) for = let has = for.0 in ap (λ (at : ℕ). Load at) (near_word job.from field has.from (omega (arith, has.few, for.1)))
move_asks mark (move.Store job headers field word) for =
    let has = for.0 in
    let packed = for.2 in
    ap (λ (at : ℕ). Store at word) (near_word job.to field has.to (omega (arith, has.few, for.1))) ∙ ap (λ (put : ℕ). Store (job.to + 1 + field) put) packed.same
move_asks mark (move.Forward job headers) for = ap (λ (want : ℕ). Exchange job.from want headers.forward) for.tagged ∙ ap (λ (put : ℕ). Exchange job.from (job_word Tagged job) put) for.forward
move_asks mark (move.GiveUp job headers header) for = ap (λ (put : ℕ). Store job.to put) for.dead
move_asks mark (move.Ended end) for = refl

-- ---- how it goes on

-- it is known so then, and keeps no header yet
abbrev Becomes : Option FieldWord → ChickenMove → Carried → Option ℕ → Type 0
Becomes mark m k kept = (moves m ≡ k) × MovesFor mark m × (kept_by m ≡ kept)

copied_so : (mark : Option FieldWord) (job : MoveJob) (headers : MoveHeaders) (field : ℕ) → HasHeaders job headers → Becomes mark (copied job headers field) (copies job field) None
copied_so mark job headers field has = by (nat_lt field job.len) refl
  where
    by : (b : Bool) → nat_lt field job.len ≡ b → Becomes mark (if b then move.Load job headers field else move.Forward job headers) (if b then Takes_up job field else Forwards job) None
    by true e = (refl, (has, grind (arith, nat_tests, e)), refl)
    by false e = (refl, has, refl)

stored_so : (mark : Option FieldWord) (job : MoveJob) (headers : MoveHeaders) (field : ℕ) → HasHeaders job headers → field < job.len → Becomes mark (stored job headers field) (copies job (field + 1)) None
stored_so mark job headers field has lt =
    let inside : nat_lt field job.len ≡ true = grind (arith, nat_tests, lt) in
    subst (λ (b : Bool). Becomes mark (if b then copied job headers (field + 1) else move.Forward job headers) (copies job (field + 1)) None) (sym inside)
    (copied_so mark job headers (field + 1) has)

-- the header that is Tagged has this word, and no other has it
tagged_word : (job : MoveJob) (headers : MoveHeaders) (x : State) (colour : Colour) (len n : ℕ) → HasHeaders job headers → IsHeaderWord (Some (header_at job.header)) job.birth x colour len n → x ≡ Tagged → n ≡ headers.tagged
tagged_word job headers x colour len n has word is =
    let h = word.header in
    let of = word.of in
    let fits = word.fits in
    let tagged : h.state ≡ states.Tagged = tagged_state h.state h.target (word.state ∙ is) in
    word.word ∙ (ap word_of_header (same h tagged of.0 (of.2 ∙ has.len) word.birth_is (untargeted h.state h fits.state tagged)) ∙ sym has.tagged)
  where
    same : (h : Header) → h.state ≡ states.Tagged → h.colour ≡ (let g = header_at job.header in g.colour) → h.len ≡ job.len → h.birth ≡ job.birth → h.target ≡ 0 → h ≡ header_by Tagged (let g = header_at job.header in g.colour) job.len job.birth
    same h tagged colours lens births target = rw (← tagged, ← colours, ← lens, ← births, ← target) refl

other_word : (job : MoveJob) (headers : MoveHeaders) (x : State) (colour : Colour) (len n : ℕ) → HasHeaders job headers → IsHeaderWord (Some (header_at job.header)) job.birth x colour len n → x ≢ Tagged → n ≢ headers.tagged
other_word job headers x colour len n has word other e =
    let found : header_at n ≡ header_by Tagged (let g = header_at job.header in g.colour) job.len job.birth = ap header_at (e ∙ has.tagged) ∙ header_at-word_of_header (header_by Tagged (let g = header_at job.header in g.colour) job.len job.birth) has.fits in
    let same : word.header ≡ header_by Tagged (let g = header_at job.header in g.colour) job.len job.birth = sym (header_found (Some (header_at job.header)) job.birth x colour len n word) ∙ found in
    other (sym word.state ∙ ap state_in same)

-- the exchange of the original's header
module _ (mark : Option FieldWord) (job : MoveJob) (headers : MoveHeaders) (x : State) (colour : Colour) (len n : ℕ) (has : HasHeaders job headers) (word : IsHeaderWord (Some (header_at job.header)) job.birth x colour len n) where
  abbrev Sealed : State → Type 0
  Sealed y = Becomes mark (machine.fed_of (move.Forward job headers) n) (chicken_move_fed (Forwards job) (Header_word y colour len)) (kept_after (Forwards job) (chicken_move_fed (Forwards job) (Header_word y colour len)) n None)

  won : x ≡ Tagged → Sealed Tagged
  won is =
      let same : n ≡ headers.tagged = tagged_word job headers x colour len n has word is in
      let wins : (n == headers.tagged) ≡ true = grind (arith, nat_tests, same) in
      subst (λ (b : Bool). Becomes mark (if b then move.Ended move_end.Moved else move.GiveUp job headers n) Idles None) (sym wins) (refl, tt, refl)

  lost : (x ≢ Tagged) → Becomes mark (machine.fed_of (move.Forward job headers) n) (Gives_up job) (Some n)
  lost other =
      let apart : n ≢ headers.tagged = other_word job headers x colour len n has word other in
      let loses : (n == headers.tagged) ≡ false = grind (arith, nat_tests, apart) in
      subst (λ (b : Bool). Becomes mark (if b then move.Ended move_end.Moved else move.GiveUp job headers n) (Gives_up job) (Some n)) (sym loses) (refl, has, refl)

  by_state : (y : State) → x ≡ y → Sealed y
  by_state Tagged is = won is
  by_state Absent is = lost (λ e. let gone : Absent ≡ Tagged = sym is ∙ e in cc)
  by_state Plain is = lost (λ e. let gone : Plain ≡ Tagged = sym is ∙ e in cc)
  by_state Kept is = lost (λ e. let gone : Kept ≡ Tagged = sym is ∙ e in cc)
  by_state (Wide wide) is = lost (λ e. let gone : Wide wide ≡ Tagged = sym is ∙ e in cc)
  by_state (Moving to) is = lost (λ e. let gone : Moving to ≡ Tagged = sym is ∙ e in cc)
  by_state Underway is = lost (λ e. let gone : Underway ≡ Tagged = sym is ∙ e in cc)
  by_state (Forward to) is = lost (λ e. let gone : Forward to ≡ Tagged = sym is ∙ e in cc)
  by_state Dead is = lost (λ e. let gone : Dead ≡ Tagged = sym is ∙ e in cc)

  sealed_so : Sealed x
  sealed_so = by_state x refl

-- with another job's name for its own
same_job : (k j : MoveJob) (x : Here) (n : ℕ) (m : Carried) → Some k ≡ Some j → IsMoveWord j (move_finds x m) n → IsMoveWord k (move_finds x m) n
same_job k j x n m same word = let e : k ≡ j = cc in rw e word

move_goes : (mark : Option FieldWord) (m : ChickenMove) (j : MoveJob) (x : Here) (n : ℕ) → MovesFor mark m → job_of (moves m) ≡ Some j → IsMoveWord j (move_finds x (moves m)) n
    → (moves (machine.fed_of m n) ≡ chicken_move_fed (moves m) (move_finds x (moves m))) × MovesFor mark (machine.fed_of m n) × (kept_by (machine.fed_of m n) ≡ kept_after (moves m) (chicken_move_fed (moves m) (move_finds x (moves m))) n (kept_by m))
move_goes mark (move.Header job headers) j x n for is word = copied_so mark job headers 0 for
move_goes mark (move.Load job headers field) j x n for is word =
    let found : field_at n ≡ x.word = ap field_at word.0 ∙ field_at-word_of x.word word.1 in
    (ap (Puts job field) found, (for.0, for.1, packed_by x.word n word found), refl)
  where
    packed_by : (w : FieldWord) (n : ℕ) → (n ≡ word_of w) × IsFieldWord w → field_at n ≡ w → IsPackedWord n
    packed_by w n word found = record { same = word.0 ∙ ap word_of (sym found); fits = subst IsFieldWord (sym found) word.1 }
move_goes mark (move.Store job headers field put) j x n for is word = stored_so mark job headers field for.0 for.1
move_goes mark (move.Forward job headers) j x n for is word = sealed_so mark job headers x.state x.colour x.len n for (same_job job j x n (Forwards job) is word)
move_goes mark (move.GiveUp job headers header) j x n for is word = (refl, tt, refl)
move_goes mark (move.Ended end) j x n for is word = absurd (let gone : None ≡ Some j = is in cc)

-- ---- how it ends

move_tells : (m : ChickenMove) → machine.end_of m ≡ move_said (moves m) (kept_by m)
move_tells (move.Header job headers) = refl
move_tells (move.Load job headers field) = refl
move_tells (move.Store job headers field word) = refl
move_tells (move.Forward job headers) = refl
move_tells (move.GiveUp job headers header) = refl
move_tells (move.Ended move_end.Moved) = refl
move_tells (move.Ended (move_end.Kept header)) = refl

move_packed : (mark : Option FieldWord) (m : ChickenMove) → MovesFor mark m → FitsCarried (moves m)
move_packed mark (move.Header job headers) for = tt
move_packed mark (move.Load job headers field) for = tt
move_packed mark (move.Store job headers field word) for = let packed = for.2 in packed.fits
move_packed mark (move.Forward job headers) for = tt
move_packed mark (move.GiveUp job headers header) for = tt
move_packed mark (move.Ended end) for = tt

pub chicken_moving : Moves chicken kinds.Chicken machine.asks_of machine.fed_of moves MovesFor kept_by machine.end_of
chicken_moving = record {
  asks_alike = move_asks;
  goes = move_goes;
  tells = move_tells;
  packed = move_packed;
}

-- ---- how it begins

plain_fits : (colour : Colour) (len birth : ℕ) → len ≤ MOST_FIELDS → 0 < birth → birth < BIRTH_LIMIT → IsHeader (header_by Plain colour len birth)
plain_fits colour len birth few born low = record { len = few; birth = low; target = lit< tt; state = (born, refl) }

tagged_fits : (colour : Colour) (len birth : ℕ) → len ≤ MOST_FIELDS → 0 < birth → birth < BIRTH_LIMIT → IsHeader (header_by Tagged colour len birth)
tagged_fits colour len birth few born low = record { len = few; birth = low; target = lit< tt; state = (born, refl) }

job_header : (j : MoveJob) (job : IsJob j) → header_at j.header ≡ header_by Plain job.colour j.len j.birth
job_header j job = let born = job.born in ap header_at job.header ∙ header_at-word_of_header (header_by Plain job.colour j.len j.birth) (plain_fits job.colour j.len j.birth job.few born.0 born.1)

job_headers : (j : MoveJob) (job : IsJob j) → HasHeaders j (headers_to (header_by Plain job.colour j.len j.birth) j.to)
job_headers j job =
    let same = job_header j job in
    let colours : (let h = header_at j.header in h.colour) ≡ job.colour = ap (λ (h : Header). h.colour) same in
    let born = job.born in
    let near = job.near in
    record {
      len = ap (λ (h : Header). h.len) same;
      fits = tagged_fits (let h = header_at j.header in h.colour) j.len j.birth job.few born.0 born.1;
      tagged = ap (λ (c : Colour). word_of_header (header_by Tagged c j.len j.birth)) (sym colours);
      forward = ap (λ (c : Colour). word_of_header (header_by (Forward j.to) c j.len j.birth)) (sym colours);
      plain = ap (λ (c : Colour). word_of_header (header_by Plain c j.len j.birth)) (sym colours);
      dead = ap (λ (c : Colour). word_of_header (header_by Dead c j.len j.birth)) (sym colours);
      from = near.0;
      to = near.1;
      few = job.few;
    }

begun_headers : (j : MoveJob) (job : IsJob j) → headers_of j ≡ Some (headers_to (header_by Plain job.colour j.len j.birth) j.to)
begun_headers j job =
    let near = job.near in
    let low : nat_lt j.to ADDRESS_LIMIT ≡ true = grind (arith, nat_tests, near.1) in
    ap (λ (h : Header). headers_by h.state h j.to) (job_header j job) ∙ ap (λ (b : Bool). if b then Some (headers_to (header_by Plain job.colour j.len j.birth) j.to) else None) low

pub move_begins : (mark : Option FieldWord) (j : MoveJob) → IsJob j → (moves (machine.begun j) ≡ Lays j) × MovesFor mark (machine.begun j) × (kept_by (machine.begun j) ≡ None)
move_begins mark j job = subst (λ (o : Option MoveHeaders). (moves (begun_by j o) ≡ Lays j) × MovesFor mark (begun_by j o) × (kept_by (begun_by j o) ≡ None)) (sym (begun_headers j job)) (refl, job_headers j job, refl)
