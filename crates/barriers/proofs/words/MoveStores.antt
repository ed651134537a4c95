-- After the step of a mover the words say what it makes of the space.
use Rattle.std.proofs.Common.{◌≡◌, ◌≢◌, ℕ, ◌+◌, ◌<◌, ◌^◌, ◌==◌, ◌⊎◌, true, List, Option, Some, None, inl, inr, refl, arith, ap, sym, subst, ◌∙◌}
use prog.Atomic.{either}
use Rattle.std.proofs.lemmas.Bool.Decides.{eqb_tells}
use Rattle.call_steps.specs.StepLaws.{Put}
use Rattle.call_steps.specs.Steps.{place_of, put_by}
use Rattle.heap_words.specs.Layouts.{Sizes, IsLayout, words_of}
use Rattle.heap_words.specs.PlaceLaws.{words_of-bound}
use Rattle.heap_words.specs.declared.field_word.FieldWord.{FieldWord}
use Rattle.heap_words.specs.FieldWords.{IsFieldWord, word_of}
use Rattle.heap_words.specs.FieldWordLaws.{word_of-injective}
use Rattle.object_headers.specs.declared.change.Kind.{Kind}
use Rattle.object_headers.specs.declared.change.Kind.TheVariants as kinds
use Rattle.object_headers.specs.Changes.{does_move}
use Rattle.object_headers.specs.Headers.{IsHeader, word_of_header}
use Rattle.wide_objects.specs.Statuses.{Status, InOriginal, InWide, InCopy, IsStatus, word_of_status}
use Rattle.wide_objects.specs.StatusLaws.{word_of_status-injective}
use Rattle.space_reclaim.specs.declared.move_job.MoveJob.{MoveJob}
use Rattle.heap_history.specs.declared.call.Call.{Call}
use Rattle.barriers.specs.Sets.{set, set2}
use Rattle.barriers.specs.States.{State, Absent, Plain, Kept, Tagged, Wide, Moving, Underway, Forward, Dead, IsHome}
use Rattle.barriers.specs.Spaces.{Space}
use Rattle.barriers.specs.Events.{Quiet, Take, Mark}
use Rattle.barriers.specs.Moves.{Carried, Idles, Looks, Lays, Points, Gives_up, Seals, Starts, Forwards, Takes_up, Asks, Widens, Finishes, Marks, Puts, IsAtField, field_of, widen_event, finish_event, mark_event}
use Rattle.barriers.specs.MoveSteps.{job_word, mark_word, move_step, forwards_from, FitsCarried, lay, forward, seal_wide, forward_by, field_by, space_moved}
use Rattle.barriers.specs.MoveWords.{IsUnderway, FitsMark, IsMoverAt, StandsRight}
use Rattle.barriers.specs.CycleLaws.{IsAtWide}
use Rattle.barriers.specs.JobLaws.{job_word-of, found_word, found_state}
use Rattle.barriers.specs.Accesses.{put_state}
use Rattle.barriers.specs.Rows.{Rows}
use Rattle.barriers.specs.Says.{Notices, header_by, head_word, header_in, IsWritten, Says}
use Rattle.barriers.proofs.words.Sets.{set_cases, set_else}
use Rattle.barriers.proofs.words.Rows.{rows_state}
use Rattle.barriers.proofs.words.Headers.{written_there}
use Rattle.barriers.proofs.words.Frames.{says_same, put_same, exchange_won, exchange_lost}
use Rattle.barriers.proofs.words.Stores.{says_word, says_header}
use Rattle.barriers.proofs.words.WideStores.{says_status, says_address}
use Rattle.barriers.proofs.words.Steps.{same_word_tells, same_status_tells}
use Rattle.barriers.proofs.words.Laid.{says_laid}
use Rattle.barriers.proofs.words.Moves.{from_there, from_written, from_born, from_plain, found_header_word, from_field, found_field, from_wide, found_status, wide_inside, to_written, to_inside}

-- ---- of the space

-- the words say nothing of these
pub says_ghosts : (l : Sizes) (m : ℕ → ℕ) (s : Space) (n : Notices) (field : ℕ → ℕ → FieldWord) (home : ℕ → ℕ) (seal : ℕ → Option (List Call)) → Says l m s n → Says l m (record s { field = field; home = home; seal = seal }) n
says_ghosts l m s n field home seal says = record {
  notices = says.notices;
  regions = says.regions;
  objects = (let o = says.objects in record { header = o.header; header_fits = o.header_fits; word = o.word; word_fits = o.word_fits });
  clear = says.clear;
  wide = (let o = says.wide in record { address = o.address; address_fits = o.address_fits; status = o.status; status_fits = o.status_fits; inside = o.inside; apart = o.apart });
}

-- of a copy under way the word says Plain
pub says_arrived : (l : Sizes) (m : ℕ → ℕ) (s : Space) (n : Notices) (a : ℕ) → s.state a ≡ Underway → Says l m s n → Says l m (put_state s a Plain) n
says_arrived l m s n a under says = record {
  notices = says.notices;
  regions = says.regions;
  objects = record {
    header = λ b h. says.objects.header b (there b h) ∙ ap word_of_header (sym (same b));
    header_fits = λ b h. subst IsHeader (sym (same b)) (says.objects.header_fits b (there b h));
    word = λ b f h lt. says.objects.word b f (written b h) lt;
    word_fits = λ b f h lt. says.objects.word_fits b f (written b h) lt;
  };
  clear = says.clear;
  wide = (let o = says.wide in record { address = o.address; address_fits = o.address_fits; status = o.status; status_fits = o.status_fits; inside = o.inside; apart = o.apart });
} where
  same : (b : ℕ) → header_in (put_state s a Plain) b ≡ header_in s b
  same b = elim (set_cases s.state a b Plain) [
    | inl q ↦ ap (λ x. header_by x (s.colour b) (s.len b) (s.birth b)) q.1 ∙ ap (λ x. header_by x (s.colour b) (s.len b) (s.birth b)) (sym (ap s.state q.0 ∙ under))
    | inr q ↦ ap (λ x. header_by x (s.colour b) (s.len b) (s.birth b)) q.1
  ]

  there : (b : ℕ) → set s.state a Plain b ≢ Absent → s.state b ≢ Absent
  there b h e = elim (set_cases s.state a b Plain) [ inl q ↦ cc (e, under, ap s.state q.0) | inr q ↦ h (q.1 ∙ e) ]

  written : (b : ℕ) → IsWritten (set s.state a Plain b) → IsWritten (s.state b)
  written b h = elim (set_cases s.state a b Plain) [ inl q ↦ subst IsWritten (sym (ap s.state q.0 ∙ under)) tt | inr q ↦ subst IsWritten q.1 h ]

-- ---- what an exchange that loses leaves

not_sealed : (s : Space) (j : MoveJob) (x : State) → x ≢ Tagged → seal_wide s j x ≡ s
not_sealed s j Tagged h = absurd (h refl)
not_sealed s j x h = refl

not_widened : (w : FieldWord) (u : Status) → u ≢ InOriginal → widen_event w u ≡ Quiet
not_widened w InOriginal h = absurd (h refl)
not_widened w u h = refl

finished : (w : FieldWord) → finish_event w (InWide w) ≡ Take w
finished w = elim (same_word_tells w w) [ inl q ↦ rw q.0 refl | inr q ↦ absurd (q.1 refl) ]

not_finished : (w : FieldWord) (u : Status) → u ≢ InWide w → finish_event w u ≡ Quiet
not_finished w InOriginal h = refl
not_finished w (InWide v) h = elim (same_word_tells v w) [ inl q ↦ absurd (h (ap InWide q.1)) | inr q ↦ rw q.0 refl ]
not_finished w (InCopy v) h = refl

marked : (k w : FieldWord) → mark_event (Some k) w w ≡ Mark k
marked k w = elim (same_word_tells w w) [ inl q ↦ rw q.0 refl | inr q ↦ absurd (q.1 refl) ]

not_marked : (k w o : FieldWord) → o ≢ w → mark_event (Some k) w o ≡ Quiet
not_marked k w o h = elim (same_word_tells o w) [ inl q ↦ absurd (h q.1) | inr q ↦ rw q.0 refl ]

-- Kept's header has another word
kept_apart : (kind : Kind) (j : MoveJob) → does_move kind ≡ true → job_word Kept j ≢ job_word (forwards_from kind j) j
unfolding word_of_header
kept_apart kinds.Stopless j does e = omega (arith, e)
kept_apart kinds.Chicken j does e = omega (arith, e)
kept_apart kinds.Clover j does e = omega (arith, e)
kept_apart kinds.AtRest j does e = absurd (cc does)

-- the original goes to Forward, with this seal
abbrev pub IsForwarded : Space → MoveJob → State → Type 0
IsForwarded s j x = (seal : Option (List Call)) × (forward_by s j x ≡ forward s j seal)

pub forwarded : (kind : Kind) (s : Space) (j : MoveJob) → does_move kind ≡ true → IsForwarded s j (forwards_from kind j)
forwarded kinds.Stopless s j does = (s.seal j.from, refl)
forwarded kinds.Chicken s j does = (Some s.history, refl)
forwarded kinds.Clover s j does = (s.seal j.from, refl)
forwarded kinds.AtRest s j does = absurd (cc does)

module _ (l : Sizes) (memory next : ℕ → ℕ) (s : Space) (n : Notices) (rows : Rows l s.state s.len s.ends s.region) (says : Says l memory s n) (il : IsLayout l) (kind : Kind) (mark : Option FieldWord) where
  unchanged : ((a : ℕ) → next a ≡ memory a) → Says l next s n
  unchanged same = says_same l memory next s n same rows says

  low : (a : ℕ) → a < words_of l → a < 2 ^ 20
  low a lt = let z = words_of-bound l il in omega (arith, lt, z)

  -- ---- the original's header

  module _ (m : Carried) (j : MoveJob) (at : IsMoverAt l kind mark memory s m j) where
    there : s.state j.from ≢ Absent
    there = from_there l memory s n rows says kind mark m j at

    written : IsWritten (s.state j.from)
    written = from_written l memory s n rows says kind mark m j at

    born : (0 < j.birth) × (j.birth < 2 ^ 24)
    born = from_born l memory s n rows says kind mark m j at

    plain : IsHeader (header_by Plain (s.colour j.from) j.len j.birth)
    plain = from_plain l memory s n rows says kind mark m j at

    -- the word that is put in it
    head : (x : State) → job_word x j ≡ head_word x (s.colour j.from) (s.len j.from) (s.birth j.from)
    head x = job_word-of j (s.colour j.from) at.header plain x ∙ (ap (λ i. head_word x (s.colour j.from) i j.birth) (sym at.len) ∙ ap (λ i. head_word x (s.colour j.from) (s.len j.from) i) (sym at.birth))

    says_from : (x : State) → IsHeader (header_by x (s.colour j.from) j.len j.birth) → Put memory next j.from (job_word x j) → Says l next (put_state s j.from x) n
    says_from x fits put = says_header l memory next s n rows says j.from x there (λ w. written)
        (subst (λ i. IsHeader (header_by x (s.colour j.from) i (s.birth j.from))) (sym at.len) (subst (λ b. IsHeader (header_by x (s.colour j.from) j.len b)) (sym at.birth) fits))
        (subst (Put memory next j.from) (head x) put)

    -- an exchange wins where it finds the wanted state
    exchanged : (y z : State) → y ≢ Underway → IsHeader (header_by y (s.colour j.from) j.len j.birth) → Put memory next j.from (either (memory j.from == job_word y j) (job_word z j) (memory j.from))
        → ((s.state j.from ≡ y) × Put memory next j.from (job_word z j)) ⊎ ((s.state j.from ≢ y) × ((a : ℕ) → next a ≡ memory a))
    exchanged y z under fits put =
        let found = found_header_word l memory s n rows says kind mark m j at in
        elim (eqb_tells (memory j.from) (job_word y j)) [
          | inl q ↦ inl (found_state j (s.colour j.from) at.header plain (s.state j.from) y (s.colour j.from) (s.len j.from) (memory j.from) found under fits q.1, exchange_won memory next j.from (job_word y j) (job_word z j) q.1 put)
          | inr q ↦ inr ((λ e. q.1 (found_word j (s.colour j.from) at.header plain (s.state j.from) (s.colour j.from) (s.len j.from) (memory j.from) found ∙ ap (λ x. job_word x j) e)), exchange_lost memory next j.from (job_word y j) (job_word z j) q.1 put)
        ]

    -- headers with a target
    tagged_fits : IsHeader (header_by Tagged (s.colour j.from) j.len j.birth)
    tagged_fits = record { len = plain.len; birth = plain.birth; target = plain.target; state = plain.state }

    moving_fits : j.to < 2 ^ 20 → IsHeader (header_by (Moving j.to) (s.colour j.from) j.len j.birth)
    moving_fits lt = record { len = plain.len; birth = plain.birth; target = lt; state = born.0 }

    wide_fits : j.wide < 2 ^ 20 → IsHeader (header_by (Wide j.wide) (s.colour j.from) j.len j.birth)
    wide_fits lt = record { len = plain.len; birth = plain.birth; target = lt; state = born.0 }

    -- ---- its wide object

    wide_low : IsAtWide m → j.wide < 2 ^ 20
    wide_low w = low j.wide (let q = wide_inside l memory s n rows says kind mark m j at w 0 (omega arith) in omega (arith, q))

    says_wide : (w : IsAtWide m) (f : IsAtField m) (u : Status) → IsStatus u → Put memory next (j.wide + 1 + field_of m) (word_of_status u) → Says l next (record s { status = set2 s.status j.from (field_of m) u }) n
    says_wide w f u fits put = says_status l memory next s n rows says j.from (field_of m) u s.field s.history (from_wide l memory s n rows says kind mark m j at w) (from_field l memory s n rows says kind mark m j at f) fits
        (subst (λ a. Put memory next (a + 1 + field_of m) (word_of_status u)) (sym (at.wide w).0) put)

    exchanged_wide : (w : IsAtWide m) (f : IsAtField m) (u v : Status) → IsStatus u → Put memory next (j.wide + 1 + field_of m) (either (memory (j.wide + 1 + field_of m) == word_of_status u) (word_of_status v) (memory (j.wide + 1 + field_of m)))
        → ((s.status j.from (field_of m) ≡ u) × Put memory next (j.wide + 1 + field_of m) (word_of_status v)) ⊎ ((s.status j.from (field_of m) ≢ u) × ((a : ℕ) → next a ≡ memory a))
    exchanged_wide w f u v fits put =
        let found = found_status l memory s n rows says kind mark m j at w f in
        let a = j.wide + 1 + field_of m in
        elim (same_status_tells (s.status j.from (field_of m)) u) [
          | inl q ↦ inl (q.1, exchange_won memory next a (word_of_status u) (word_of_status v) (found.0 ∙ ap word_of_status q.1) put)
          | inr q ↦ inr (q.1, exchange_lost memory next a (word_of_status u) (word_of_status v) (λ e. q.1 (word_of_status-injective (s.status j.from (field_of m)) u found.1 fits (sym found.0 ∙ e))) put)
        ]

  -- ---- by what is known

  lays : (j : MoveJob) → IsMoverAt l kind mark memory s (Lays j) j → Put memory next j.to (job_word Plain j) → Says l next (lay l s j) n
  lays j at put = says_laid l memory s j rows at.copy at.live at.len (born (Lays j) j at) next n says (subst (Put memory next j.to) (job_word-of j (s.colour j.from) at.header (plain (Lays j) j at) Plain) put)

  gives_up : (j : MoveJob) → IsMoverAt l kind mark memory s (Gives_up j) j → Put memory next j.to (job_word Dead j) → Says l next (put_state s j.to Dead) n
  gives_up j at put =
      let c = at.copy in
      let p = plain (Gives_up j) j at in
      let fits : IsHeader (header_by Dead (s.colour j.from) j.len j.birth) = record { len = p.len; birth = p.birth; target = p.target; state = p.state } in
      let same : header_by Dead (s.colour j.to) (s.len j.to) (s.birth j.to) ≡ header_by Dead (s.colour j.from) j.len j.birth = rw (c.colour, c.len, c.birth) refl in
      says_header l memory next s n rows says j.to Dead (written_there (s.state j.to) (to_written l memory s n rows says kind mark j c)) (λ w. absurd w) (subst IsHeader (sym same) fits)
      (subst (Put memory next j.to) (job_word-of j (s.colour j.from) at.header p Dead ∙ ap word_of_header (sym same)) put)

  seals : (j : MoveJob) → IsMoverAt l kind mark memory s (Seals j) j → Put memory next j.from (either (memory j.from == job_word Tagged j) (job_word (Wide j.wide) j) (memory j.from)) → Says l next (seal_wide s j (s.state j.from)) n
  seals j at put = elim (exchanged (Seals j) j at Tagged (Wide j.wide) (λ e. cc e) (tagged_fits (Seals j) j at) put) [
    | inl q ↦ (
        let won = says_from (Seals j) j at (Wide j.wide) (wide_fits (Seals j) j at (wide_low (Seals j) j at tt)) q.1 in
        subst (λ x. Says l next (seal_wide s j x) n) (sym q.0) (says_ghosts l next (put_state s j.from (Wide j.wide)) n s.field s.home (set s.seal j.from (Some s.history)) won))
    | inr q ↦ subst (λ t. Says l next t n) (sym (not_sealed s j (s.state j.from) q.0)) (unchanged q.1)
  ]

  starts : (j : MoveJob) → IsMoverAt l kind mark memory s (Starts j) j → Put memory next j.from (either (memory j.from == job_word Plain j) (job_word (Moving j.to) j) (memory j.from)) → Says l next (put_state s j.from (Moving j.to)) n
  starts j at put = elim (exchanged (Starts j) j at Plain (Moving j.to) (λ e. cc e) (plain (Starts j) j at) put) [
    | inl q ↦ says_from (Starts j) j at (Moving j.to) (moving_fits (Starts j) j at (low j.to (to_inside l memory s n rows says kind mark j at.copy))) q.1
    | inr q ↦ absurd (q.0 at.state.1)
  ]

  module _ (j : MoveJob) (at : IsMoverAt l kind mark memory s (Forwards j) j) where
    found : memory j.from ≡ job_word (s.state j.from) j
    found = found_word j (s.colour j.from) at.header (plain (Forwards j) j at) (s.state j.from) (s.colour j.from) (s.len j.from) (memory j.from) (found_header_word l memory s n rows says kind mark (Forwards j) j at)

    apart : j.from ≢ j.to
    apart e = subst IsHome (ap s.state e ∙ at.copy.state) at.live

    forwards_so : (seal : Option (List Call)) → Put memory next j.from (job_word (Forward j.to) j) → Says l next (forward s j seal) n
    forwards_so seal put =
        let c : IsUnderway s j = at.copy in
        let p = plain (Forwards j) j at in
        let t : Space = put_state s j.to Plain in
        let under : Plain ≢ Absent = λ e. cc e in
        let same : t.state j.from ≡ s.state j.from = set_else s.state j.to j.from Plain apart in
        let fits : IsHeader (header_by (Forward j.to) (s.colour j.from) j.len j.birth) = record { len = p.len; birth = p.birth; target = low j.to (to_inside l memory s n rows says kind mark j c); state = (born (Forwards j) j at).0 } in
        let head_fits = subst (λ i. IsHeader (header_by (Forward j.to) (s.colour j.from) i (s.birth j.from))) (sym at.len) (subst (λ b. IsHeader (header_by (Forward j.to) (s.colour j.from) j.len b)) (sym at.birth) fits) in
        let new_rows = rows_state l s.state s.len s.ends s.region rows j.to Plain (written_there (s.state j.to) (to_written l memory s n rows says kind mark j c)) under in
        let new_says = says_arrived l memory s n j.to c.state says in
        says_ghosts l next (put_state t j.from (Forward j.to)) n (set s.field j.to (s.field j.from)) (set s.home j.birth j.to) (set s.seal j.from seal)
        (says_header l memory next t n new_rows new_says j.from (Forward j.to) (λ e. there (Forwards j) j at (sym same ∙ e)) (λ w. subst IsWritten (sym same) (written (Forwards j) j at)) head_fits (subst (Put memory next j.from) (head (Forwards j) j at (Forward j.to)) put))

    forwards : Put memory next j.from (either (memory j.from == job_word (forwards_from kind j) j) (job_word (Forward j.to) j) (memory j.from)) → Says l next (forward_by s j (s.state j.from)) n
    forwards put = elim at.state.1 [
      | inl q ↦ (
          let o = forwarded kind s j at.state.0 in
          let won = exchange_won memory next j.from (job_word (forwards_from kind j) j) (job_word (Forward j.to) j) (found ∙ ap (λ x. job_word x j) q) put in
          subst (λ x. Says l next (forward_by s j x) n) (sym q) (subst (λ t. Says l next t n) (sym o.1) (forwards_so o.0 won)))
      | inr q ↦ (
          let ne : memory j.from ≢ job_word (forwards_from kind j) j = λ e. kept_apart kind j at.state.0 (ap (λ x. job_word x j) (sym q) ∙ (sym found ∙ e)) in
          subst (λ x. Says l next (forward_by s j x) n) (sym q) (unchanged (exchange_lost memory next j.from (job_word (forwards_from kind j) j) (job_word (Forward j.to) j) ne put)))
    ]

  widens : (j : MoveJob) (f : ℕ) (w : FieldWord) → IsMoverAt l kind mark memory s (Widens j f w) j → IsFieldWord w → Put memory next (j.wide + 1 + f) (either (memory (j.wide + 1 + f) == word_of_status InOriginal) (word_of_status (InWide w)) (memory (j.wide + 1 + f)))
      → Says l next (field_by s j.from f (widen_event w (s.status j.from f))) n
  widens j f w at fits put = elim (exchanged_wide (Widens j f w) j at tt tt InOriginal (InWide w) tt put) [
    | inl q ↦ subst (λ u. Says l next (field_by s j.from f (widen_event w u)) n) (sym q.0) (says_wide (Widens j f w) j at tt tt (InWide w) fits q.1)
    | inr q ↦ subst (λ e. Says l next (field_by s j.from f e) n) (sym (not_widened w (s.status j.from f) q.0)) (unchanged q.1)
  ]

  finishes : (j : MoveJob) (f : ℕ) (w : FieldWord) → IsMoverAt l kind mark memory s (Finishes j f w) j → IsFieldWord w → Put memory next (j.wide + 1 + f) (either (memory (j.wide + 1 + f) == word_of_status (InWide w)) (word_of_status (InCopy w)) (memory (j.wide + 1 + f)))
      → Says l next (field_by s j.from f (finish_event w (s.status j.from f))) n
  finishes j f w at fits put = elim (exchanged_wide (Finishes j f w) j at tt tt (InWide w) (InCopy w) fits put) [
    | inl q ↦ subst (λ u. Says l next (field_by s j.from f (finish_event w u)) n) (sym q.0) (subst (λ e. Says l next (field_by s j.from f e) n) (sym (finished w)) (says_wide (Finishes j f w) j at tt tt (InCopy w) fits q.1))
    | inr q ↦ subst (λ e. Says l next (field_by s j.from f e) n) (sym (not_finished w (s.status j.from f) q.0)) (unchanged q.1)
  ]

  marks : (j : MoveJob) (f : ℕ) (w : FieldWord) → IsMoverAt l kind mark memory s (Marks j f w) j → IsFieldWord w → (given : Option FieldWord) → FitsMark given → Put memory next (j.from + 1 + f) (either (memory (j.from + 1 + f) == word_of w) (mark_word given) (memory (j.from + 1 + f)))
      → Says l next (field_by s j.from f (mark_event given w (s.word j.from f))) n
  marks j f w at fits None set put = absurd set
  marks j f w at fits (Some k) set put =
      let found = found_field l memory s n rows says kind mark (Marks j f w) j at tt in
      let a = j.from + 1 + f in
      elim (same_word_tells (s.word j.from f) w) [
        | inl q ↦ (
            let won = exchange_won memory next a (word_of w) (word_of k) (found.0 ∙ ap word_of q.1) put in
            let said = says_word l memory next s n rows says j.from f k s.field s.history (written (Marks j f w) j at) (from_field l memory s n rows says kind mark (Marks j f w) j at tt) set won in
            subst (λ o. Says l next (field_by s j.from f (mark_event (Some k) w o)) n) (sym q.1) (subst (λ e. Says l next (field_by s j.from f e) n) (sym (marked k w)) said))
        | inr q ↦ (
            let ne : memory a ≢ word_of w = λ e. q.1 (word_of-injective (s.word j.from f) w found.1 fits (sym found.0 ∙ e)) in
            subst (λ e. Says l next (field_by s j.from f e) n) (sym (not_marked k w (s.word j.from f) q.1)) (unchanged (exchange_lost memory next a (word_of w) (word_of k) ne put)))
      ]

  puts : (j : MoveJob) (f : ℕ) (w : FieldWord) → IsMoverAt l kind mark memory s (Puts j f w) j → IsFieldWord w → Put memory next (j.to + 1 + f) (word_of w) → Says l next (record s { word = set2 s.word j.to f w }) n
  puts j f w at fits put =
      let c : IsUnderway s j = at.copy in
      let less : f < s.len j.to = (let lt = at.field tt in let e = c.len in omega (arith, lt, e)) in
      says_word l memory next s n rows says j.to f w s.field s.history (to_written l memory s n rows says kind mark j c) less fits put

  points : (j : MoveJob) → IsMoverAt l kind mark memory s (Points j) j → Put memory next j.wide j.to → Says l next (record s { address = set s.address j.from j.to }) n
  points j at put = says_address l memory next s n rows says j.from j.to (from_wide l memory s n rows says kind mark (Points j) j at tt) (low j.to (to_inside l memory s n rows says kind mark j at.copy)) (subst (λ a. Put memory next a j.to) (sym (at.wide tt).0) put)

  -- the words say the space after the step
  pub says_moved : (m : Carried) → StandsRight l kind mark memory s m → FitsCarried m → Put memory next (place_of (move_step kind mark m)) (put_by (move_step kind mark m) (memory (place_of (move_step kind mark m)))) → Says l next (space_moved l mark s m) n
  says_moved Idles at fits put = unchanged (put_same memory next _ _ put refl)
  says_moved (Looks j) at fits put = unchanged (put_same memory next _ _ put refl)
  says_moved (Lays j) at fits put = lays j (at j refl) put
  says_moved (Points j) at fits put = points j (at j refl) put
  says_moved (Gives_up j) at fits put = gives_up j (at j refl) put
  says_moved (Seals j) at fits put = seals j (at j refl) put
  says_moved (Starts j) at fits put = starts j (at j refl) put
  says_moved (Forwards j) at fits put = forwards j (at j refl) put
  says_moved (Takes_up j f) at fits put = unchanged (put_same memory next _ _ put refl)
  says_moved (Asks j f) at fits put = unchanged (put_same memory next _ _ put refl)
  says_moved (Widens j f w) at fits put = widens j f w (at j refl) fits put
  says_moved (Finishes j f w) at fits put = finishes j f w (at j refl) fits put
  says_moved (Marks j f w) at fits put = marks j f w (at j refl) fits mark (at j refl).marks put
  says_moved (Puts j f w) at fits put = puts j f w (at j refl) fits put
