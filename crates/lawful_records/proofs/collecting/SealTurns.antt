-- What the step of the mover seals, by what is known of it.
use Rattle.std.specs.Prelude.{◌+◌, ◌<◌, ◌^◌, ◌&&◌, if◌then◌else◌}
use Rattle.std.proofs.Common.{inl, inr, ◌≡◌, ◌≢◌, ℕ, ◌≤◌, ◌⊎◌, ◌==◌, Bool, true, false, List, ◌++◌, Option, Some, None, refl, sym, ap, ◌∙◌, subst, arith, length}
use Rattle.std.proofs.lemmas.Bool.{eq-eqb}
use Rattle.std.proofs.lemmas.Bool.Decides.{eqb_tells}
use Rattle.std.proofs.lemmas.List.{append-nil}
use Rattle.std.proofs.lemmas.List.Elements.{All-weaker}
use Rattle.std.proofs.Math.Bool.{and-false}
use Rattle.call_steps.specs.declared.step.Step.{Step}
use Rattle.call_steps.specs.Steps.{place_of}
use Rattle.heap_words.specs.Layouts.{Sizes}
use Rattle.heap_history.specs.declared.call.Call.{Call}
use Rattle.heap_words.specs.declared.field_word.FieldWord.{FieldWord}
use Rattle.object_headers.specs.declared.change.Kind.{Kind}
use Rattle.object_headers.specs.declared.header.Colour.{Colour}
use Rattle.object_headers.specs.declared.header.Header.{Header}
use Rattle.object_headers.specs.Changes.{is_stopless}
use Rattle.object_headers.specs.Headers.{IsHeader, word_of_header, header_at}
use Rattle.object_headers.specs.HeaderLaws.{header_at-word_of_header}
use Rattle.space_reclaim.specs.declared.move_job.MoveJob.{MoveJob}
use Rattle.barriers.specs.Spaces.{Space, here}
use Rattle.barriers.specs.Sets.{set}
use Rattle.barriers.specs.States.{State, Absent, Plain, Kept, Tagged, Wide, Moving, Underway, Dead, IsHome, IsLive}
use Rattle.barriers.specs.Says.{Notices, Says, header_by, header_in, head_word}
use Rattle.barriers.specs.Rows.{Rows}
use Rattle.barriers.specs.Cycles.{Cycle}
use Rattle.barriers.specs.CycleLaws.{MovingLaws, IsAtWide}
use Rattle.barriers.specs.Events.{Event, Widen, Take, Mark, IsStill}
use Rattle.barriers.specs.Moves.{Carried, Idles, Looks, Lays, Points, Gives_up, Seals, Starts, Forwards, Takes_up, Asks, Widens, Finishes, Marks, Puts, job_of, widen_event, finish_event, mark_event}
use Rattle.barriers.specs.MoveSteps.{job_word, move_step, forward, seal_wide, forward_by, field_by, forwards_from, space_moved}
use Rattle.barriers.specs.MoveTurns.{MovesTo}
use Rattle.barriers.specs.Objects.{AreObjects, IsLaid, IsMove}
use Rattle.barriers.specs.Protocols.{Protocol}
use Rattle.barriers.specs.JobLaws.{job_word-of}
use Rattle.barriers.proofs.words.Headers.{home_live, home_there, header_len, header_birth, home_born}
use Rattle.barriers.proofs.words.Rows.{row_area}
use Rattle.barriers.proofs.words.Sets.{set_here, set_else}
use Rattle.lawful_records.specs.declared.records.Sealed.{Sealed}
use Rattle.lawful_records.specs.Jobs.{does_seal, is_tagged, is_tagged_state}
use Rattle.lawful_records.specs.LawfulRecords.{IsThereSealed, AreSealed}
use Rattle.lawful_records.specs.Turns.{sealed_as}
use Rattle.lawful_records.proofs.collecting.MoveSeals.{sealed_as_was, sealed_more}
use Rattle.lawful_records.specs.Counts.{unsealed}
use Rattle.lawful_records.proofs.collecting.Counted.{seal_on}

-- whether the word of a header is that of a Tagged one
tagged_by_header : (h : Header) (word : ℕ) → IsHeader h → word ≡ word_of_header h → is_tagged word ≡ is_tagged_state (let g = h in g.state)
tagged_by_header h word fits e = ap (λ (g : Header). is_tagged_state g.state) (ap header_at e ∙ header_at-word_of_header h fits)

untagged : (c : Colour) (len birth : ℕ) (x : State) → x ≢ Tagged → is_tagged_state (let h = header_by x c len birth in h.state) ≡ false
untagged c len birth Tagged other = absurd (other refl)
untagged c len birth x other = refl

not_live : (x y : State) → x ≡ y → (IsLive y → ⊥) → IsLive x → ⊥
not_live x y e none live = none (subst IsLive e live)

module _ (P : Protocol) (kind : Kind) (movable : MovingLaws kind P) (l : Sizes) (memory : ℕ → ℕ) (c : Cycle) (s : Space) (n : Notices) (rows : Rows l s.state s.len s.ends s.region) (says : Says l memory s n) (objects : AreObjects P c s) (job : MoveJob)
    (wide : is_stopless kind ≡ true → job.wide ≢ 0) (sealed : List Sealed) (are : AreSealed s sealed) where
  abbrev T : Carried → Space
  T y = space_moved l c.mark s y

  abbrev S : Carried → Step
  S y = move_step kind c.mark y

  abbrev found : Carried → ℕ
  found y = memory (place_of (S y))

  abbrev seals : Carried → Bool
  seals y = does_seal job.from (S y) (found y)

  abbrev now : Bool → List Sealed
  now sealing = sealed_as (if sealing then Some job else None) s.history

  -- what is sealed after its step, and its own seal is one that was to come
  pub record SealsBy (y : Carried) : Type 0 where
    pub are_then : AreSealed (T y) (sealed ++ now (seals y))
    pub counts : length (now (seals y)) + unsealed ((T y).seal job.from) ≤ unsealed (s.seal job.from)

  seals_not : (y next : Carried) → IsMove P c s y job → MovesTo P c s (T y) next job → seals y ≡ false → AreSealed (T y) sealed → SealsBy y
  seals_not y next move to quiet after = record {
    are_then = subst (λ sealing. AreSealed (T y) (sealed ++ now sealing)) (sym quiet) (subst (AreSealed (T y)) (sym (append-nil sealed)) after);
    counts = subst (λ sealing. length (now sealing) + unsealed ((T y).seal job.from) ≤ unsealed (s.seal job.from)) (sym quiet)
        (let on = seal_on s (T y) job.from (λ past e. to.sealed job.from past (home_live (s.state job.from) move.live) e) in omega (arith, on));
  }

  -- where states, lens and seals are the same
  same_seals : (t : Space) → t.state ≡ s.state → t.len ≡ s.len → t.seal ≡ s.seal → AreSealed t sealed
  same_seals t state len seal = record {
    there = All-weaker (IsThereSealed s) (IsThereSealed t) (λ one is. record { live = subst IsLive (sym (ap (λ (f : ℕ → State). f one.at) state)) is.live; len = ap (λ (f : ℕ → ℕ). f one.at) len ∙ is.len }) sealed are.there;
    seals = λ a f live inside. are.seals a f (subst IsLive (ap (λ (f : ℕ → State). f a) state) live) (subst (λ i. f < i) (ap (λ (f : ℕ → ℕ). f a) len) inside) ∙ sym (ap (λ (f : ℕ → Option (List Call)). f a) seal);
  }

  -- ---- steps that change a header

  module _ (y next : Carried) (move : IsMove P c s y job) (to : MovesTo P c s (T y) next job) (rows_then : (let t = T y in Rows l t.state t.len t.ends t.region)) where
    abbrev t : Space
    t = T y

    home : IsLive (s.state job.from)
    home = home_live (s.state job.from) move.live

    kept_by : (IsLive (s.state job.to) → ⊥) → (IsLive (t.state job.to) → t.seal job.to ≡ None) → t.seal job.from ≡ s.seal job.from → AreSealed t sealed
    kept_by under copy same = sealed_as_was l s t job.from job.to rows_then to.seen.live to.seen.len home (λ a x z. (let same = to.others a x z in (same.state, same.seal))) under copy sealed are same

    more_by : (IsLive (s.state job.to) → ⊥) → (IsLive (t.state job.to) → t.seal job.to ≡ None) → s.seal job.from ≡ None → t.seal job.from ≡ Some s.history → AreSealed t (sealed ++ now true)
    more_by under copy none is = sealed_more l s t job.from job.to rows_then to.seen.live to.seen.len home (λ a x z. (let same = to.others a x z in (same.state, same.seal))) under copy sealed are s.history job.len move.len none is

  -- ---- the header of the original

  module _ (y : Carried) (move : IsMove P c s y job) where
    there : s.state job.from ≢ Absent
    there = home_there (s.state job.from) move.live

    header_fits : IsHeader (header_in s job.from)
    header_fits = says.objects.header_fits job.from there

    header_word : (x : State) → s.state job.from ≡ x → memory job.from ≡ head_word x (s.colour job.from) (s.len job.from) (s.birth job.from)
    header_word x e = says.objects.header job.from there ∙ ap (λ x. head_word x (s.colour job.from) (s.len job.from) (s.birth job.from)) e

    plain_fits : IsHeader (header_by Plain (s.colour job.from) job.len job.birth)
    plain_fits = record { len = few (s.state job.from) there header_fits; birth = small (s.state job.from) there header_fits; target = omega arith; state = (born (s.state job.from) move.live header_fits, refl) } where
      few : (x : State) → x ≢ Absent → IsHeader (header_by x (s.colour job.from) (s.len job.from) (s.birth job.from)) → job.len ≤ 30
      few x there fits = subst (λ i. i ≤ 30) (header_len (s.colour job.from) (s.len job.from) (s.birth job.from) x there ∙ move.len) fits.len

      small : (x : State) → x ≢ Absent → IsHeader (header_by x (s.colour job.from) (s.len job.from) (s.birth job.from)) → job.birth < 2 ^ 24
      small x there fits = subst (λ i. i < 2 ^ 24) (header_birth (s.colour job.from) (s.len job.from) (s.birth job.from) x there ∙ move.birth) fits.birth

      born : (x : State) → IsHome x → IsHeader (header_by x (s.colour job.from) (s.len job.from) (s.birth job.from)) → 0 < job.birth
      born x home fits = subst (λ i. 0 < i) move.birth (home_born (s.colour job.from) (s.len job.from) (s.birth job.from) x home fits).0

    -- an exchange of the header for this word seals where the header is Tagged
    abbrev exchange_seals : ℕ → Bool
    exchange_seals want = (job.from == job.from) && ((memory job.from == want) && is_tagged (memory job.from))

    wanted : s.state job.from ≡ Tagged → memory job.from ≡ job_word Tagged job
    wanted e =
        header_word Tagged e
        ∙ (ap (λ i. head_word Tagged (s.colour job.from) i (s.birth job.from)) move.len ∙ (ap (λ i. head_word Tagged (s.colour job.from) job.len i) move.birth
        ∙ sym (job_word-of job (s.colour job.from) move.header plain_fits Tagged)))

    seals_tagged : (want : ℕ) → s.state job.from ≡ Tagged → job_word Tagged job ≡ want → exchange_seals want ≡ true
    seals_tagged want e is =
        let place_is : (job.from == job.from) ≡ true = eq-eqb job.from job.from refl in
        let word_is : (memory job.from == want) ≡ true = eq-eqb (memory job.from) want (wanted e ∙ is) in
        let state_is : is_tagged_state (let h = header_in s job.from in h.state) ≡ true = ap (λ x. is_tagged_state (let h = header_by x (s.colour job.from) (s.len job.from) (s.birth job.from) in h.state)) e in
        let tag_is : is_tagged (memory job.from) ≡ true = tagged_by_header (header_in s job.from) (memory job.from) header_fits (says.objects.header job.from there) ∙ state_is in
        rw (place_is, word_is, tag_is) refl

    -- and seals nothing where it is not
    seals_none : (want : ℕ) → s.state job.from ≢ Tagged → exchange_seals want ≡ false
    seals_none want other =
        let tag_is : is_tagged (memory job.from) ≡ false =
        tagged_by_header (header_in s job.from) (memory job.from) header_fits (says.objects.header job.from there) ∙ untagged (s.colour job.from) (s.len job.from) (s.birth job.from) (s.state job.from) other in
        ap (λ tag. (job.from == job.from) && ((memory job.from == want) && tag)) tag_is
        ∙ (ap (λ both. (job.from == job.from) && both) (and-false (memory job.from == want)) ∙ and-false (job.from == job.from))

    -- its wide object has no word of it
    wide_apart : IsAtWide y → s.wide job.from ≡ job.wide → (f : ℕ) → (job.wide + 1 + f == job.from) ≡ false
    wide_apart at same f =
        let low = (row_area l s.state s.len s.ends s.region rows job.from 0 there (omega arith)).1 in
        let its : job.wide ≢ 0 = wide (movable.wides c y (here s job.from 0) at move.head) in
        let area = (says.wide.inside job.from (λ none. its (sym same ∙ none))).0 in
        elim (eqb_tells (job.wide + 1 + f) job.from) [ inl w ↦ absurd (let is = w.1 in omega (arith, low, area, same, is)) | inr w ↦ w.0 ]

  -- ---- by what is known of the mover

  -- the step puts a state in the header of the Tagged original, and its history at its seal
  sealing : (y next : Carried) → (move : IsMove P c s y job) → s.state job.from ≡ Tagged → seals y ≡ true → IsLaid s job → (T y).seal ≡ set s.seal job.from (Some s.history) → MovesTo P c s (T y) next job → (let t = T y in Rows l t.state t.len t.ends t.region) → SealsBy y
  sealing y next move is does laid now_sealed to rows_then =
      let none : s.seal job.from ≡ None = objects.unsealed job.from (subst IsStill (sym is) tt) in
      let under : IsLive (s.state job.to) → ⊥ = not_live (s.state job.to) Underway laid.copy.state (λ live. live) in
      let apart : job.to ≢ job.from = λ same. under (subst (λ a. IsLive (s.state a)) (sym same) (home_live (s.state job.from) move.live)) in
      let copy : IsLive ((T y).state job.to) → (T y).seal job.to ≡ None = λ live. ap (λ (g : ℕ → Option (List Call)). g job.to) now_sealed ∙ (set_else s.seal job.from job.to (Some s.history) apart ∙ laid.seal) in
      let its : (T y).seal job.from ≡ Some s.history = ap (λ (g : ℕ → Option (List Call)). g job.from) now_sealed ∙ set_here s.seal job.from (Some s.history) in
      record {
        are_then = subst (λ sealing. AreSealed (T y) (sealed ++ now sealing)) (sym does) (more_by y next move to rows_then under copy none its);
        counts = subst (λ sealing. length (now sealing) + unsealed ((T y).seal job.from) ≤ unsealed (s.seal job.from)) (sym does) (let was = ap unsealed none in let is = ap unsealed its in omega (arith, was, is));
      }

  module _ (next : Carried) where
    laid_not_live : s.state job.to ≡ Underway → IsLive (s.state job.to) → ⊥
    laid_not_live e = not_live (s.state job.to) Underway e (λ live. live)

    abbrev Step_of : (MoveJob → Carried) → MoveJob → Type 0
    Step_of y i = IsMove P c s (y i) job → MovesTo P c s (T (y i)) next job → (let t = T (y i) in Rows l t.state t.len t.ends t.region) → SealsBy (y i)

    its_job : (i : MoveJob) (y : MoveJob → Carried) → Some i ≡ Some job → Step_of y job → Step_of y i
    its_job i y e step = let same : i ≡ job = cc e in subst (Step_of y) (sym same) step

    lays_by : Step_of Lays job
    lays_by move to rows_then =
        let under : IsLive (s.state job.to) → ⊥ = not_live (s.state job.to) Absent move.copy (λ live. live) in
        let apart : job.from ≢ job.to = λ same. under (subst (λ a. IsLive (s.state a)) same (home_live (s.state job.from) move.live)) in
        seals_not (Lays job) next move to refl (kept_by (Lays job) next move to rows_then under (λ live. set_here s.seal job.to None) (set_else s.seal job.to job.from None apart))

    gives_up_by : Step_of Gives_up job
    gives_up_by move to rows_then =
        let under : IsLive (s.state job.to) → ⊥ = laid_not_live move.copy.copy.state in
        seals_not (Gives_up job) next move to refl (kept_by (Gives_up job) next move to rows_then under (λ live. absurd (subst IsLive (set_here s.state job.to Dead) live)) refl)

    -- the exchange of a Tagged header for Wide
    seals_in : (x : State) → s.state job.from ≡ x → Step_of Seals job
    seals_in Tagged e move to rows_then =
        sealing (Seals job) next move e (seals_tagged (Seals job) move (job_word Tagged job) e refl) move.copy (ap (λ (t : Space). t.seal) (ap (seal_wide s job) e)) to rows_then
    seals_in x e move to rows_then =
        seals_not (Seals job) next move to (seals_none (Seals job) move (job_word Tagged job) (λ tagged. (let gone : x ≡ Tagged = sym e ∙ tagged in cc gone))) (subst (λ t. AreSealed t sealed) (sym (ap (seal_wide s job) e)) are)

    -- and of a header for Forward: of a Tagged one where that is the state from which it goes there
    went_by : (x : State) → s.state job.from ≡ x → x ≢ Tagged → T (Forwards job) ≡ forward s job (s.seal job.from) → Step_of Forwards job
    went_by x e other gone move to rows_then =
        let under : IsLive (s.state job.to) → ⊥ = laid_not_live move.copy.copy.state in
        let apart : job.to ≢ job.from = λ same. under (subst (λ a. IsLive (s.state a)) (sym same) (home_live (s.state job.from) move.live)) in
        let copy : IsLive ((T (Forwards job)).state job.to) → (T (Forwards job)).seal job.to ≡ None = λ live. ap (λ (t : Space). t.seal job.to) gone ∙ (set_else s.seal job.from job.to (s.seal job.from) apart ∙ move.copy.seal) in
        seals_not (Forwards job) next move to (seals_none (Forwards job) move (job_word (forwards_from kind job) job) (λ tagged. other (sym e ∙ tagged)))
        (kept_by (Forwards job) next move to rows_then under copy (ap (λ (t : Space). t.seal job.from) gone ∙ set_here s.seal job.from (s.seal job.from)))

    from_tagged : (x : State) → (Tagged ≡ x) ⊎ (Tagged ≡ Kept) → job_word Tagged job ≡ job_word x job
    from_tagged x (inl e) = ap (λ x. job_word x job) e
    from_tagged x (inr e) = absurd (cc e)

    forwards_in : (x : State) → s.state job.from ≡ x → (x ≡ forwards_from kind job) ⊎ (x ≡ Kept) → Step_of Forwards job
    forwards_in Tagged e from move to rows_then =
        sealing (Forwards job) next move e (seals_tagged (Forwards job) move (job_word (forwards_from kind job) job) e (from_tagged (forwards_from kind job) from)) move.copy (ap (λ (t : Space). t.seal) (ap (forward_by s job) e)) to rows_then
    forwards_in (Wide w) e from move to rows_then = went_by (Wide w) e (λ gone. cc gone) (ap (forward_by s job) e) move to rows_then
    forwards_in (Moving t) e from move to rows_then = went_by (Moving t) e (λ gone. cc gone) (ap (forward_by s job) e) move to rows_then
    forwards_in x e from move to rows_then =
        seals_not (Forwards job) next move to (seals_none (Forwards job) move (job_word (forwards_from kind job) job) (λ tagged. (let gone : x ≡ Tagged = sym e ∙ tagged in cc gone))) (subst (λ t. AreSealed t sealed) (sym (ap (forward_by s job) e)) are)

    forwards_as : Step_of Forwards job
    forwards_as move to rows_then =
        let state = (movable.forwards c job (here s job.from 0) move.copy.to move.copy.wide (objects.target job.from 0 (home_live (s.state job.from) move.live)) move.head).1 in
        forwards_in (s.state job.from) refl state move to rows_then

    -- what is moved by a mark is sealed by no step of the mover
    starts_as : Step_of Starts job
    starts_as move to rows_then =
        let plain : s.state job.from ≡ Plain = (movable.starts c job (here s job.from 0) move.head).1 in
        seals_not (Starts job) next move to (seals_none (Starts job) move (job_word Plain job) (λ tagged. (let gone : Plain ≡ Tagged = sym plain ∙ tagged in cc gone)))
        (kept_by (Starts job) next move to rows_then (laid_not_live move.copy.copy.state) (λ live. move.copy.seal) refl)

    -- a step on a wide word or on a field changes no header
    field_same : (a f : ℕ) (e : Event) → AreSealed (field_by s a f e) sealed
    field_same a f (Widen w) = same_seals (field_by s a f (Widen w)) refl refl refl
    field_same a f (Take w) = same_seals (field_by s a f (Take w)) refl refl refl
    field_same a f (Mark w) = same_seals (field_by s a f (Mark w)) refl refl refl
    field_same a f e = are

    not_there : (at here_at : ℕ) (rest : Bool) → (at == here_at) ≡ false → ((at == here_at) && rest) ≡ false
    not_there at here_at rest apart = ap (λ first. first && rest) apart

    widens_as : (f : ℕ) (w : FieldWord) → Step_of (λ j. Widens j f w) job
    widens_as f w move to rows_then =
        seals_not (Widens job f w) next move to (not_there (job.wide + 1 + f) job.from _ (wide_apart (Widens job f w) move tt move.copy.wide f)) (field_same job.from f (widen_event w (s.status job.from f)))

    own_field : (at f : ℕ) → (at + 1 + f == at) ≡ false
    own_field at f = elim (eqb_tells (at + 1 + f) at) [ inl w ↦ absurd (omega (arith, w.1)) | inr w ↦ w.0 ]

    marks_as : (f : ℕ) (w : FieldWord) → Step_of (λ j. Marks j f w) job
    marks_as f w move to rows_then = seals_not (Marks job f w) next move to (not_there (job.from + 1 + f) job.from _ (own_field job.from f)) (field_same job.from f (mark_event c.mark w (s.word job.from f)))

    finishes_as : (f : ℕ) (w : FieldWord) → Step_of (λ j. Finishes j f w) job
    finishes_as f w move to rows_then =
        seals_not (Finishes job f w) next move to (not_there (job.wide + 1 + f) job.from _ (wide_apart (Finishes job f w) move tt move.copy.wide f)) (field_same job.from f (finish_event w (s.status job.from f)))

    pub seals_by : (y : Carried) → job_of y ≡ Some job → IsMove P c s y job → MovesTo P c s (T y) next job → (let t = T y in Rows l t.state t.len t.ends t.region) → SealsBy y
    seals_by Idles e move to rows_then = absurd (let gone : None ≡ Some job = e in cc gone)
    seals_by (Looks i) e move to rows_then = seals_not (Looks i) next move to refl are
    seals_by (Lays i) e move to rows_then = its_job i Lays e lays_by move to rows_then
    seals_by (Points i) e move to rows_then = seals_not (Points i) next move to refl (same_seals (T (Points i)) refl refl refl)
    seals_by (Gives_up i) e move to rows_then = its_job i Gives_up e gives_up_by move to rows_then
    seals_by (Seals i) e move to rows_then = its_job i Seals e (seals_in (s.state job.from) refl) move to rows_then
    seals_by (Starts i) e move to rows_then = its_job i Starts e starts_as move to rows_then
    seals_by (Forwards i) e move to rows_then = its_job i Forwards e forwards_as move to rows_then
    seals_by (Takes_up i f) e move to rows_then = seals_not (Takes_up i f) next move to refl are
    seals_by (Asks i f) e move to rows_then = seals_not (Asks i f) next move to refl are
    seals_by (Widens i f w) e move to rows_then = its_job i (λ j. Widens j f w) e (widens_as f w) move to rows_then
    seals_by (Finishes i f w) e move to rows_then = its_job i (λ j. Finishes j f w) e (finishes_as f w) move to rows_then
    seals_by (Marks i f w) e move to rows_then = its_job i (λ j. Marks j f w) e (marks_as f w) move to rows_then
    seals_by (Puts i f w) e move to rows_then = seals_not (Puts i f w) next move to refl (same_seals (T (Puts i f w)) refl refl refl)
