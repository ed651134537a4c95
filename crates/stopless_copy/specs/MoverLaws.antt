-- A move does what is known of it.
use Rattle.std.specs.Prelude.{ℕ, ◌+◌, ◌<◌, ◌==◌, nat_lt, if◌then◌else◌}
use Rattle.std.proofs.Common.{◌≡◌, ◌≢◌, lit<, refl, sym, ap, subst, ◌∙◌, arith, Bool, true, false, Option, Some, None}
use Rattle.std.proofs.lemmas.Bool.Decides.{nat_tests}
use Rattle.call_steps.specs.declared.step.Step.TheVariants.{Load, Store, Exchange}
use Rattle.heap_words.specs.declared.limits.TheConstants.{ADDRESS_LIMIT, MOST_FIELDS}
use Rattle.heap_words.specs.declared.field_word.FieldWord.{FieldWord}
use Rattle.heap_words.specs.FieldWords.{IsFieldWord, word_of, field_at}
use Rattle.heap_words.specs.FieldWordLaws.{field_at-word_of}
use Rattle.wide_objects.specs.declared.wide_word.WideWord.{WideWord}
use Rattle.wide_objects.specs.WideWords.{wide_word_at}
use Rattle.wide_objects.specs.Statuses.{Status, InOriginal, InWide, InCopy, IsStatus, word_of_status, status_at, wide_of_status}
use Rattle.wide_objects.specs.StatusLaws.{status_at-word_of_status}
use Rattle.object_headers.specs.declared.change.Kind.TheVariants as kinds
use Rattle.object_headers.specs.declared.header.Colour.{Colour}
use Rattle.object_headers.specs.declared.header.Header.{Header}
use Rattle.object_headers.specs.Headers.{IsHeader, header_at, word_of_header}
use Rattle.space_reclaim.specs.declared.move_job.MoveJob.{MoveJob}
use Rattle.barriers.specs.declared.ends.MoveEnd.TheVariants as move_end
use Rattle.barriers.specs.States.{State, Absent, Plain, Kept, Tagged, Wide, Moving, Underway, Forward, Dead}
use Rattle.barriers.specs.Spaces.{Here, same_status}
use Rattle.barriers.specs.Says.{header_by}
use Rattle.barriers.specs.Knowns.{Header_word, Wide_word}
use Rattle.barriers.specs.Moves.{Carried, Lays, Seals, Asks, Widens, Puts, Finishes, Forwards, Gives_up, job_of, move_finds}
use Rattle.barriers.specs.MoveSteps.{IsJob, FitsCarried, job_word, move_step, kept_after, move_said}
use Rattle.barriers.specs.JobLaws.{job_fits, job_header, found_word, found_state}
use Rattle.barriers.specs.Kits.{IsMoveWord, Moves}
use Rattle.at_rest.specs.Knowing.{IsPackedWord}
use Rattle.at_rest.specs.ReadLaws.{word_found}
use Rattle.stopless_copy.specs.declared.mover.MoveHeaders.{MoveHeaders}
use Rattle.stopless_copy.specs.declared.mover.MoveTask.{MoveTask}
use Rattle.stopless_copy.specs.declared.mover.Carry.{Carry}
use Rattle.stopless_copy.specs.declared.mover.Carry.TheVariants as carry
use Rattle.stopless_copy.specs.declared.mover.StoplessMove.{StoplessMove}
use Rattle.stopless_copy.specs.declared.mover.StoplessMove.TheVariants as move
use Rattle.stopless_copy.specs.StoplessMoves as machine
use Rattle.stopless_copy.specs.StoplessMoves.{headers_to, headers_by, headers_of, begun_by, word_at}
use Rattle.stopless_copy.specs.WideSteps.{in_wide, in_copy}
use Rattle.stopless_copy.specs.StoplessTable.{carries, carries_by, sealed_by, stopless_move_fed, stopless}
use Rattle.stopless_copy.specs.StoplessKnowing.{moves, kept_by, carries_as, IsPackedStatus, HasHeaders, HasTask, CarriesFor, MovesFor}
use Rattle.stopless_copy.specs.WideLaws.{wide_found, wide_wins}

-- ---- the step

near_word : (at field : ℕ) → at < ADDRESS_LIMIT → field < MOST_FIELDS → word_at at field ≡ at + 1 + field
near_word at field near few = omega (arith, near, few)

few_field : (task : MoveTask) (field : ℕ) → HasTask task → field < task.job.len → field < MOST_FIELDS
few_field task field has lt = let job = has.is_job in omega (arith, job.few, lt)

near_from : (task : MoveTask) → HasTask task → task.job.from < ADDRESS_LIMIT
near_from task has = let job = has.is_job in job.near.0

near_to : (task : MoveTask) → HasTask task → task.job.to < ADDRESS_LIMIT
near_to task has = let job = has.is_job in job.near.1

near_wide : (task : MoveTask) → HasTask task → task.job.wide < ADDRESS_LIMIT
near_wide task has = let job = has.is_job in job.near.2

carry_asks : (mark : Option FieldWord) (task : MoveTask) (field : ℕ) (how : Carry) → HasTask task → field < task.job.len → CarriesFor how → machine.carry_asks task.job field how ≡ move_step kinds.Stopless mark (carries_as task.job field how)
unfolding word_of_status
carry_asks mark task field carry.Ask has lt for = ap (λ (at : ℕ). Load at) (near_word task.job.wide field (near_wide task has) (few_field task field has lt))
carry_asks mark task field carry.Load has lt for = ap (λ (at : ℕ). Load at) (near_word task.job.from field (near_from task has) (few_field task field has lt))
carry_asks mark task field (carry.Widen word) has lt for = ap (λ (at : ℕ). Exchange at 0 (in_wide word)) (near_word task.job.wide field (near_wide task has) (few_field task field has lt))
carry_asks mark task field (carry.Store word) has lt for =
    ap (λ (at : ℕ). Store at word) (near_word task.job.to field (near_to task has) (few_field task field has lt)) ∙ ap (λ (put : ℕ). Store (task.job.to + 1 + field) put) for.same
carry_asks mark task field (carry.Finish word) has lt for = ap (λ (at : ℕ). Exchange at (in_wide word) (in_copy word)) (near_word task.job.wide field (near_wide task has) (few_field task field has lt))

move_asks : (mark : Option FieldWord) (m : StoplessMove) → MovesFor mark m → machine.asks_of m ≡ move_step kinds.Stopless mark (moves m)
move_asks mark (move.Header task) for = ap (λ (put : ℕ). Store task.job.to put) for.plain
move_asks mark (move.Address task) for = refl
move_asks mark (move.Seal task) for = ap (λ (want : ℕ). Exchange task.job.from want task.headers.wide) for.tagged ∙ ap (λ (put : ℕ). Exchange task.job.from (job_word Tagged task.job) put) for.wide
move_asks mark (move.GiveUp task header) for = ap (λ (put : ℕ). Store task.job.to put) for.dead
move_asks mark (move.Carries task field how) for = carry_asks mark task field how for.0 for.1 for.2
move_asks mark (move.Forward task) for = ap (λ (want : ℕ). Exchange task.job.from want task.headers.forward) for.wide ∙ ap (λ (put : ℕ). Exchange task.job.from (job_word (Wide task.job.wide) task.job) put) for.forward
move_asks mark (move.Ended end) for = refl

-- ---- how a carry goes on

-- it is known so then, and keeps no header yet
abbrev Becomes : Option FieldWord → StoplessMove → Carried → Option ℕ → Type 0
Becomes mark m k kept = (moves m ≡ k) × MovesFor mark m × (kept_by m ≡ kept)

module _ (mark : Option FieldWord) (task : MoveTask) (has : HasTask task) where
  carried_so : (field : ℕ) → Becomes mark (machine.carried task field) (carries task.job field) None
  carried_so field = by (nat_lt field task.job.len) refl
    where
      by : (b : Bool) → nat_lt field task.job.len ≡ b → Becomes mark (if b then machine.carried_on task field carry.Ask else move.Forward task) (if b then Asks task.job field else Forwards task.job) None
      by true e = (refl, (has, grind (arith, nat_tests, e), tt), refl)
      by false e = (refl, has, refl)

  module _ (field : ℕ) (lt : field < task.job.len) where
    finished_so : Becomes mark (machine.finished task field) (carries task.job (field + 1)) None
    finished_so =
        let inside : nat_lt field task.job.len ≡ true = grind (arith, nat_tests, lt) in
        subst (λ (b : Bool). Becomes mark (if b then machine.carried task (field + 1) else move.Forward task) (carries task.job (field + 1)) None) (sym inside)
        (carried_so (field + 1))

    packed_by : (w : FieldWord) (n : ℕ) → n ≡ word_of w → IsFieldWord w → field_at n ≡ w → IsPackedWord n
    packed_by w n same fits found = record { same = same ∙ ap word_of (sym found); fits = subst IsFieldWord (sym found) fits }

    asked_so : (u : Status) → IsStatus u → Becomes mark (machine.asked task field (wide_of_status u)) (carries_by task.job field u) None
    asked_so InOriginal fits = (refl, (has, lt, tt), refl)
    asked_so (InWide w) fits = let at = field_at-word_of w fits in (ap (Puts task.job field) at, (has, lt, packed_by w (word_of w) refl fits at), refl)
    asked_so (InCopy w) fits = finished_so

    -- where this status is found, by this word
    module _ (u : Status) (n : ℕ) (found : (n ≡ word_of_status u) × IsStatus u) where
      asks_so : Becomes mark (machine.asked task field (wide_word_at n)) (carries_by task.job field u) None
      asks_so = subst (λ (w : WideWord). Becomes mark (machine.asked task field w) (carries_by task.job field u) None) (sym (wide_found u n found)) (asked_so u found.1)

      -- by an exchange that wanted this word, of this status
      exchanged_so : (x : Status) (wanted : ℕ) (m : StoplessMove) (k : Carried) → wanted ≡ word_of_status x → IsStatus x → Becomes mark m k None
          → Becomes mark (if n == wanted then m else machine.asked task field (wide_word_at n)) (if same_status u x then k else carries_by task.job field u) None
      exchanged_so x wanted m k same fits won =
          let at : status_at wanted ≡ x = ap status_at same ∙ status_at-word_of_status x fits in
          let wants : IsPackedStatus wanted = record { same = same ∙ ap word_of_status (sym at); fits = subst IsStatus (sym at) fits } in
          subst (λ (b : Bool). Becomes mark (if n == wanted then m else machine.asked task field (wide_word_at n)) (if b then k else carries_by task.job field u) None)
          (wide_wins u n wanted found wants ∙ ap (same_status u) at) (by (n == wanted))
        where
          by : (b : Bool) → Becomes mark (if b then m else machine.asked task field (wide_word_at n)) (if b then k else carries_by task.job field u) None
          by true = won
          by false = asks_so

    widened_so : (word : ℕ) → IsPackedWord word → (u : Status) (n : ℕ) → (n ≡ word_of_status u) × IsStatus u
        → Becomes mark (machine.carried_by task field (carry.Widen word) n) (stopless_move_fed (Widens task.job field (field_at word)) (Wide_word u)) None
    unfolding word_of_status
    widened_so word packed u n found = exchanged_so u n found InOriginal 0 (machine.carried_on task field (carry.Store word)) (Puts task.job field (field_at word)) refl tt (refl, (has, lt, packed), refl)

    finishes_so : (word : ℕ) → IsPackedWord word → (u : Status) (n : ℕ) → (n ≡ word_of_status u) × IsStatus u
        → Becomes mark (machine.carried_by task field (carry.Finish word) n) (stopless_move_fed (Finishes task.job field (field_at word)) (Wide_word u)) None
    finishes_so word packed u n found = exchanged_so u n found (InWide (field_at word)) (in_wide word) (machine.finished task field) (carries task.job (field + 1)) refl packed.fits finished_so

-- ---- the exchange of the original's header for Wide

tagged_fits : (j : MoveJob) (job : IsJob j) → IsHeader (header_by Tagged job.colour j.len j.birth)
tagged_fits j job = let born = job.born in record { len = job.few; birth = born.1; target = lit< tt; state = (born.0, refl) }

module _ (mark : Option FieldWord) (task : MoveTask) (has : HasTask task) (x : State) (colour : Colour) (len n : ℕ) (word : IsMoveWord task.job (Header_word x colour len) n) where
  abbrev its_job : IsJob task.job
  its_job = has.is_job

  -- the header that is Tagged has this word, and no other has it
  tagged_word : x ≡ Tagged → n ≡ task.headers.tagged
  tagged_word is = found_word task.job its_job.colour its_job.header (job_fits task.job its_job) x colour len n word ∙ (ap (λ (y : State). job_word y task.job) is ∙ sym has.tagged)

  other_word : x ≢ Tagged → n ≢ task.headers.tagged
  other_word other e = other (found_state task.job its_job.colour its_job.header (job_fits task.job its_job) x Tagged colour len n word (λ u. cc u) (tagged_fits task.job its_job) (e ∙ has.tagged))

  abbrev Sealed : State → Type 0
  Sealed y = Becomes mark (machine.sealed task n) (sealed_by task.job y) (kept_after (Seals task.job) (sealed_by task.job y) n None)

  kept_none : (field : ℕ) → kept_after (Seals task.job) (carries task.job field) n None ≡ None
  kept_none field = by (nat_lt field task.job.len)
    where
      by : (b : Bool) → kept_after (Seals task.job) (if b then Asks task.job field else Forwards task.job) n None ≡ None
      by true = refl
      by false = refl

  won : x ≡ Tagged → Sealed Tagged
  won is =
      let same : n ≡ task.headers.tagged = tagged_word is in
      let wins : (n == task.headers.tagged) ≡ true = grind (arith, nat_tests, same) in
      let so = carried_so mark task has 0 in
      subst (λ (b : Bool). Becomes mark (if b then machine.carried task 0 else move.GiveUp task n) (carries task.job 0) (kept_after (Seals task.job) (carries task.job 0) n None)) (sym wins)
      (so.0, so.1, so.2 ∙ sym (kept_none 0))

  lost : x ≢ Tagged → Becomes mark (machine.sealed task n) (Gives_up task.job) (Some n)
  lost other =
      let apart : n ≢ task.headers.tagged = other_word other in
      let loses : (n == task.headers.tagged) ≡ false = grind (arith, nat_tests, apart) in
      subst (λ (b : Bool). Becomes mark (if b then machine.carried task 0 else move.GiveUp task n) (Gives_up task.job) (Some n)) (sym loses) (refl, has, refl)

  by_state : (y : State) → x ≡ y → Sealed y
  by_state Tagged is = won is
  by_state Absent is = lost (λ e. let gone : Absent ≡ Tagged = sym is ∙ e in cc)
  by_state Plain is = lost (λ e. let gone : Plain ≡ Tagged = sym is ∙ e in cc)
  by_state Kept is = lost (λ e. let gone : Kept ≡ Tagged = sym is ∙ e in cc)
  by_state (Wide wide) is = lost (λ e. let gone : Wide wide ≡ Tagged = sym is ∙ e in cc)
  by_state (Moving to) is = lost (λ e. let gone : Moving to ≡ Tagged = sym is ∙ e in cc)
  by_state Underway is = lost (λ e. let gone : Underway ≡ Tagged = sym is ∙ e in cc)
  by_state (Forward to) is = lost (λ e. let gone : Forward to ≡ Tagged = sym is ∙ e in cc)
  by_state Dead is = lost (λ e. let gone : Dead ≡ Tagged = sym is ∙ e in cc)

  sealed_so : Sealed x
  sealed_so = by_state x refl

-- ---- how it goes on

-- with another job's name for its own
same_job : (k j : MoveJob) (x : Here) (n : ℕ) (m : Carried) → Some k ≡ Some j → IsMoveWord j (move_finds x m) n → IsMoveWord k (move_finds x m) n
same_job k j x n m same word = let e : k ≡ j = cc in rw e word

carry_job : (job : MoveJob) (field : ℕ) (how : Carry) → job_of (carries_as job field how) ≡ Some job
carry_job job field carry.Ask = refl
carry_job job field carry.Load = refl
carry_job job field (carry.Widen word) = refl
carry_job job field (carry.Store word) = refl
carry_job job field (carry.Finish word) = refl

-- a carry keeps no header
carry_kept : (m next : Carried) (job : MoveJob) (field : ℕ) (how : Carry) (n : ℕ) → m ≡ carries_as job field how → kept_after m next n None ≡ None
carry_kept m next job field carry.Ask n is = rw is refl
carry_kept m next job field carry.Load n is = rw is refl
carry_kept m next job field (carry.Widen word) n is = rw is refl
carry_kept m next job field (carry.Store word) n is = rw is refl
carry_kept m next job field (carry.Finish word) n is = rw is refl

carry_goes : (mark : Option FieldWord) (task : MoveTask) (field : ℕ) (how : Carry) (x : Here) (n : ℕ) → HasTask task → field < task.job.len → CarriesFor how → IsMoveWord task.job (move_finds x (carries_as task.job field how)) n
    → Becomes mark (machine.carried_by task field how n) (stopless_move_fed (carries_as task.job field how) (move_finds x (carries_as task.job field how))) None
carry_goes mark task field carry.Ask x n has lt for word = asks_so mark task has field lt x.status n word
carry_goes mark task field carry.Load x n has lt for word = let at = word_found x.word n word in (ap (Widens task.job field) at, (has, lt, packed_by mark task has field lt x.word n word.0 word.1 at), refl)
carry_goes mark task field (carry.Widen put) x n has lt for word = widened_so mark task has field lt put for x.status n word
carry_goes mark task field (carry.Store put) x n has lt for word = (refl, (has, lt, for), refl)
carry_goes mark task field (carry.Finish put) x n has lt for word = finishes_so mark task has field lt put for x.status n word

move_goes : (mark : Option FieldWord) (m : StoplessMove) (j : MoveJob) (x : Here) (n : ℕ) → MovesFor mark m → job_of (moves m) ≡ Some j → IsMoveWord j (move_finds x (moves m)) n
    → (moves (machine.fed_of m n) ≡ stopless_move_fed (moves m) (move_finds x (moves m))) × MovesFor mark (machine.fed_of m n) × (kept_by (machine.fed_of m n) ≡ kept_after (moves m) (stopless_move_fed (moves m) (move_finds x (moves m))) n (kept_by m))
move_goes mark (move.Header task) j x n for is word = (refl, for, refl)
move_goes mark (move.Address task) j x n for is word = (refl, for, refl)
move_goes mark (move.Seal task) j x n for is word = sealed_so mark task for x.state x.colour x.len n (same_job task.job j x n (Seals task.job) is word)
move_goes mark (move.GiveUp task header) j x n for is word = (refl, tt, refl)
move_goes mark (move.Carries task field how) j x n for is word =
    let m = carries_as task.job field how in
    let so = carry_goes mark task field how x n for.0 for.1 for.2 (same_job task.job j x n m (sym (carry_job task.job field how) ∙ is) word) in
    (so.0, so.1, so.2 ∙ sym (carry_kept m (stopless_move_fed m (move_finds x m)) task.job field how n refl))
move_goes mark (move.Forward task) j x n for is word = (refl, tt, refl)
move_goes mark (move.Ended end) j x n for is word = absurd (let gone : None ≡ Some j = is in cc)

-- ---- how it ends

carry_said : (job : MoveJob) (field : ℕ) (how : Carry) → None ≡ move_said (carries_as job field how) None
carry_said job field carry.Ask = refl
carry_said job field carry.Load = refl
carry_said job field (carry.Widen word) = refl
carry_said job field (carry.Store word) = refl
carry_said job field (carry.Finish word) = refl

move_tells : (m : StoplessMove) → machine.end_of m ≡ move_said (moves m) (kept_by m)
move_tells (move.Header task) = refl
move_tells (move.Address task) = refl
move_tells (move.Seal task) = refl
move_tells (move.GiveUp task header) = refl
move_tells (move.Carries task field how) = carry_said task.job field how
move_tells (move.Forward task) = refl
move_tells (move.Ended move_end.Moved) = refl
move_tells (move.Ended (move_end.Kept header)) = refl

carry_packed : (job : MoveJob) (field : ℕ) (how : Carry) → CarriesFor how → FitsCarried (carries_as job field how)
carry_packed job field carry.Ask for = tt
carry_packed job field carry.Load for = tt
carry_packed job field (carry.Widen word) for = for.fits
carry_packed job field (carry.Store word) for = for.fits
carry_packed job field (carry.Finish word) for = for.fits

move_packed : (mark : Option FieldWord) (m : StoplessMove) → MovesFor mark m → FitsCarried (moves m)
move_packed mark (move.Header task) for = tt
move_packed mark (move.Address task) for = tt
move_packed mark (move.Seal task) for = tt
move_packed mark (move.GiveUp task header) for = tt
move_packed mark (move.Carries task field how) for = carry_packed task.job field how for.2
move_packed mark (move.Forward task) for = tt
move_packed mark (move.Ended end) for = tt

pub stopless_moving : Moves stopless kinds.Stopless machine.asks_of machine.fed_of moves MovesFor kept_by machine.end_of
stopless_moving = record {
  asks_alike = move_asks;
  goes = move_goes;
  tells = move_tells;
  packed = move_packed;
}

-- ---- how it begins

job_at : (j : MoveJob) (job : IsJob j) → header_at j.header ≡ header_by Plain job.colour j.len j.birth
job_at j job = job_header j job.colour job.header (job_fits j job)

job_headers : (j : MoveJob) (job : IsJob j) → HasHeaders j (headers_to (header_by Plain job.colour j.len j.birth) j.to j.wide)
job_headers j job =
    let colours : (let h = header_at j.header in h.colour) ≡ job.colour = ap (λ (h : Header). h.colour) (job_at j job) in
    record {
      is_job = job;
      tagged = ap (λ (c : Colour). word_of_header (header_by Tagged c j.len j.birth)) (sym colours);
      wide = ap (λ (c : Colour). word_of_header (header_by (Wide j.wide) c j.len j.birth)) (sym colours);
      forward = ap (λ (c : Colour). word_of_header (header_by (Forward j.to) c j.len j.birth)) (sym colours);
      plain = ap (λ (c : Colour). word_of_header (header_by Plain c j.len j.birth)) (sym colours);
      dead = ap (λ (c : Colour). word_of_header (header_by Dead c j.len j.birth)) (sym colours);
    }

begun_headers : (j : MoveJob) (job : IsJob j) → headers_of j ≡ Some (headers_to (header_by Plain job.colour j.len j.birth) j.to j.wide)
begun_headers j job =
    let plain = header_by Plain job.colour j.len j.birth in
    let near = job.near in
    let to : nat_lt j.to ADDRESS_LIMIT ≡ true = grind (arith, nat_tests, near.1) in
    let wide : nat_lt j.wide ADDRESS_LIMIT ≡ true = grind (arith, nat_tests, near.2) in
    ap (λ (h : Header). headers_by h.state h j.to j.wide) (job_at j job)
    ∙ (ap (λ (b : Bool). if b then (if nat_lt j.wide ADDRESS_LIMIT then Some (headers_to plain j.to j.wide) else None) else None) to
    ∙ ap (λ (b : Bool). if b then Some (headers_to plain j.to j.wide) else None) wide)

pub move_begins : (mark : Option FieldWord) (j : MoveJob) → IsJob j → (moves (machine.begun j) ≡ Lays j) × MovesFor mark (machine.begun j) × (kept_by (machine.begun j) ≡ None)
move_begins mark j job = subst (λ (o : Option MoveHeaders). (moves (begun_by j o) ≡ Lays j) × MovesFor mark (begun_by j o) × (kept_by (begun_by j o) ≡ None)) (sym (begun_headers j job)) (refl, job_headers j job, refl)
