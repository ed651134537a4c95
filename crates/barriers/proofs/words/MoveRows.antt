-- After the step of a mover: the rows, and which header has changed.
use Rattle.std.proofs.Common.{◌≡◌, ◌≢◌, ℕ, ◌⊎◌, true, List, Option, Some, inl, inr, refl, ap, sym, subst, ◌∙◌}
use Rattle.std.proofs.lemmas.Bool.{cases_eq}
use Rattle.heap_words.specs.Layouts.{Sizes}
use Rattle.heap_words.specs.declared.field_word.FieldWord.{FieldWord}
use Rattle.object_headers.specs.declared.change.Kind.{Kind}
use Rattle.object_headers.specs.declared.change.Kind.TheVariants as kinds
use Rattle.object_headers.specs.declared.header.Colour.{Colour}
use Rattle.object_headers.specs.Changes.{is_stopless, is_clover, does_move, AllowedChange}
use Rattle.space_reclaim.specs.declared.move_job.MoveJob.{MoveJob}
use Rattle.heap_history.specs.declared.call.Call.{Call}
use Rattle.barriers.specs.Sets.{set}
use Rattle.barriers.specs.States.{State, Absent, Plain, Tagged, Wide, Moving, Underway, Forward, Dead}
use Rattle.barriers.specs.Spaces.{Space}
use Rattle.barriers.specs.Events.{Event, Widen, Take, Mark}
use Rattle.barriers.specs.Moves.{Carried, Idles, Looks, Lays, Points, Gives_up, Seals, Starts, Forwards, Takes_up, Asks, Widens, Finishes, Marks, Puts, widen_event, finish_event, mark_event}
use Rattle.barriers.specs.MoveSteps.{forwards_from, lay, forward, seal_wide, forward_by, field_by, space_moved}
use Rattle.barriers.specs.MoveWords.{IsUnderway, IsMoverAt, StandsRight}
use Rattle.barriers.specs.Accesses.{put_state}
use Rattle.barriers.specs.Rows.{Rows}
use Rattle.barriers.specs.Says.{Notices, header_by, header_in, Says}
use Rattle.barriers.proofs.words.Sets.{set_cases}
use Rattle.barriers.proofs.words.Rows.{rows_state}
use Rattle.barriers.proofs.words.Headers.{home_there}
use Rattle.barriers.proofs.words.Laid.{absent_to, rows_laid, header_laid, header_else}
use Rattle.barriers.proofs.words.Moves.{from_born}
use Rattle.barriers.proofs.words.MoveStores.{forwarded}

abbrev AreRows : Sizes → Space → Type 0
AreRows l s = Rows l s.state s.len s.ends s.region

-- ---- the rows

module _ (l : Sizes) (s : Space) (rows : AreRows l s) where
  rows_put : (a : ℕ) (x : State) → s.state a ≢ Absent → x ≢ Absent → AreRows l (put_state s a x)
  rows_put a x was is = rows_state l s.state s.len s.ends s.region rows a x was is

  rows_field : (a f : ℕ) (e : Event) → AreRows l (field_by s a f e)
  rows_field a f (Widen w) = rows
  rows_field a f (Take w) = rows
  rows_field a f (Mark w) = rows
  rows_field a f e = rows

  module _ (j : MoveJob) (there : s.state j.from ≢ Absent) where
    rows_sealed : (x : State) → AreRows l (seal_wide s j x)
    rows_sealed Tagged = rows_put j.from (Wide j.wide) there (λ e. cc e)
    rows_sealed x = rows

    module _ (copy : s.state j.to ≡ Underway) where
      rows_forward : (seal : Option (List Call)) → AreRows l (forward s j seal)
      rows_forward seal =
          let plain : Plain ≢ Absent = λ e. cc e in
          let arrived = rows_put j.to Plain (λ e. cc (e, copy)) plain in
          rows_state l (set s.state j.to Plain) s.len s.ends s.region arrived j.from (Forward j.to) (λ e. elim (set_cases s.state j.to j.from Plain) [ inl q ↦ cc (e, q.1) | inr q ↦ there (sym q.1 ∙ e) ]) (λ e. cc e)

      rows_forwarded : (x : State) → AreRows l (forward_by s j x)
      rows_forwarded Tagged = rows_forward (Some s.history)
      rows_forwarded (Wide w) = rows_forward (s.seal j.from)
      rows_forwarded (Moving t) = rows_forward (s.seal j.from)
      rows_forwarded x = rows

module _ (l : Sizes) (memory : ℕ → ℕ) (s : Space) (n : Notices) (rows : Rows l s.state s.len s.ends s.region) (says : Says l memory s n) (kind : Kind) (mark : Option FieldWord) where
  there : (m : Carried) (j : MoveJob) → IsMoverAt l kind mark memory s m j → s.state j.from ≢ Absent
  there m j at = home_there (s.state j.from) at.live

  laid_there : (j : MoveJob) → IsUnderway s j → s.state j.to ≢ Absent
  laid_there j copy e = cc (e, copy.state)

  pub rows_moved : (m : Carried) → StandsRight l kind mark memory s m → (let t = space_moved l mark s m in Rows l t.state t.len t.ends t.region)
  rows_moved Idles at = rows
  rows_moved (Looks j) at = rows
  rows_moved (Lays j) at = let o = at j refl in rows_laid l memory s j rows o.copy o.live o.len (from_born l memory s n rows says kind mark (Lays j) j o)
  rows_moved (Points j) at = rows
  rows_moved (Gives_up j) at = rows_put l s rows j.to Dead (laid_there j (at j refl).copy) (λ e. cc e)
  rows_moved (Seals j) at = rows_sealed l s rows j (there (Seals j) j (at j refl)) (s.state j.from)
  rows_moved (Starts j) at = rows_put l s rows j.from (Moving j.to) (there (Starts j) j (at j refl)) (λ e. cc e)
  rows_moved (Forwards j) at = rows_forwarded l s rows j (there (Forwards j) j (at j refl)) (at j refl).copy.state (s.state j.from)
  rows_moved (Takes_up j f) at = rows
  rows_moved (Asks j f) at = rows
  rows_moved (Widens j f w) at = rows_field l s rows j.from f (widen_event w (s.status j.from f))
  rows_moved (Finishes j f w) at = rows_field l s rows j.from f (finish_event w (s.status j.from f))
  rows_moved (Marks j f w) at = rows_field l s rows j.from f (mark_event mark w (s.word j.from f))
  rows_moved (Puts j f w) at = rows

-- ---- headers

-- the header at this address is as it was, or has changed as the table allows
abbrev pub Stays : Kind → Space → Space → ℕ → Type 0
Stays kind s t a = (header_in t a ≡ header_in s a) ⊎ AllowedChange kind (header_in s a) (header_in t a)

-- which changes a mover makes
absent_allowed : (kind : Kind) (c d : Colour) (i j b e : ℕ) → AllowedChange kind (header_by Absent c i b) (header_by Plain d j e)
absent_allowed kind c d i j b e = tt

dead_allowed : (kind : Kind) (c : Colour) (i b : ℕ) → AllowedChange kind (header_by Underway c i b) (header_by Dead c i b)
dead_allowed kind c i b = ((refl, refl), refl)

sealed_allowed : (kind : Kind) (w : ℕ) (c : Colour) (i b : ℕ) → is_stopless kind ≡ true → AllowedChange kind (header_by Tagged c i b) (header_by (Wide w) c i b)
sealed_allowed kinds.Stopless w c i b is = ((refl, refl), refl)
sealed_allowed kinds.Chicken w c i b is = absurd (cc is)
sealed_allowed kinds.Clover w c i b is = absurd (cc is)
sealed_allowed kinds.AtRest w c i b is = absurd (cc is)

started_allowed : (kind : Kind) (t : ℕ) (c : Colour) (i b : ℕ) → is_clover kind ≡ true → AllowedChange kind (header_by Plain c i b) (header_by (Moving t) c i b)
started_allowed kinds.Stopless t c i b is = absurd (cc is)
started_allowed kinds.Chicken t c i b is = absurd (cc is)
started_allowed kinds.Clover t c i b is = ((refl, refl), refl)
started_allowed kinds.AtRest t c i b is = absurd (cc is)

forwarded_allowed : (kind : Kind) (j : MoveJob) (t : ℕ) (c : Colour) (i b : ℕ) → does_move kind ≡ true → AllowedChange kind (header_by (forwards_from kind j) c i b) (header_by (Forward t) c i b)
forwarded_allowed kinds.Stopless j t c i b is = ((refl, refl), refl)
forwarded_allowed kinds.Chicken j t c i b is = ((refl, refl), refl)
forwarded_allowed kinds.Clover j t c i b is = ((refl, refl), refl)
forwarded_allowed kinds.AtRest j t c i b is = absurd (cc is)

module _ (kind : Kind) (s : Space) where
  -- one state changes
  pub header_one : (a : ℕ) (x : State) (b : ℕ) → AllowedChange kind (header_in s a) (header_by x (s.colour a) (s.len a) (s.birth a)) → Stays kind s (put_state s a x) b
  header_one a x b allowed = elim (set_cases s.state a b x) [
    | inl q ↦ inr (
        let to : header_in (put_state s a x) b ≡ header_by x (s.colour a) (s.len a) (s.birth a) = ap (λ y. header_by y (s.colour b) (s.len b) (s.birth b)) q.1 ∙ ap (λ i. header_by x (s.colour i) (s.len i) (s.birth i)) q.0 in
        subst (λ h. AllowedChange kind h (header_in (put_state s a x) b)) (ap (header_in s) (sym q.0)) (subst (AllowedChange kind (header_in s a)) (sym to) allowed))
    | inr q ↦ inl (ap (λ y. header_by y (s.colour b) (s.len b) (s.birth b)) q.1)
  ]

  header_sealed : (j : MoveJob) (x : State) (b : ℕ) → s.state j.from ≡ x → is_stopless kind ≡ true → Stays kind s (seal_wide s j x) b
  header_sealed j Tagged b e is = header_one j.from (Wide j.wide) b (subst (λ x. AllowedChange kind (header_by x (s.colour j.from) (s.len j.from) (s.birth j.from)) (header_by (Wide j.wide) (s.colour j.from) (s.len j.from) (s.birth j.from))) (sym e) (sealed_allowed kind j.wide (s.colour j.from) (s.len j.from) (s.birth j.from) is))
  header_sealed j x b e is = inl refl

  -- the original goes to Forward, and the copy's header says Plain still
  header_forward : (j : MoveJob) (seal : Option (List Call)) (b : ℕ) → s.state j.to ≡ Underway → AllowedChange kind (header_in s j.from) (header_by (Forward j.to) (s.colour j.from) (s.len j.from) (s.birth j.from)) → Stays kind s (forward s j seal) b
  header_forward j seal b under allowed = elim (set_cases (set s.state j.to Plain) j.from b (Forward j.to)) [
    | inl q ↦ inr (
        let to : header_in (forward s j seal) b ≡ header_by (Forward j.to) (s.colour j.from) (s.len j.from) (s.birth j.from) = ap (λ y. header_by y (s.colour b) (s.len b) (s.birth b)) q.1 ∙ ap (λ i. header_by (Forward j.to) (s.colour i) (s.len i) (s.birth i)) q.0 in
        subst (λ h. AllowedChange kind h (header_in (forward s j seal) b)) (ap (header_in s) (sym q.0)) (subst (AllowedChange kind (header_in s j.from)) (sym to) allowed))
    | inr q ↦ inl (ap (λ y. header_by y (s.colour b) (s.len b) (s.birth b)) q.1 ∙ elim (set_cases s.state j.to b Plain) [
      | inl y ↦ ap (λ x. header_by x (s.colour b) (s.len b) (s.birth b)) y.1 ∙ ap (λ x. header_by x (s.colour b) (s.len b) (s.birth b)) (sym (ap s.state y.0 ∙ under))
      | inr y ↦ ap (λ x. header_by x (s.colour b) (s.len b) (s.birth b)) y.1
    ])
  ]

  header_forwarded : (j : MoveJob) (b : ℕ) → s.state j.to ≡ Underway → does_move kind ≡ true → s.state j.from ≡ forwards_from kind j → Stays kind s (forward_by s j (forwards_from kind j)) b
  header_forwarded j b under does e =
      let o = forwarded kind s j does in
      subst (λ t. Stays kind s t b) (sym o.1) (header_forward j o.0 b under (subst (λ x. AllowedChange kind (header_by x (s.colour j.from) (s.len j.from) (s.birth j.from)) (header_by (Forward j.to) (s.colour j.from) (s.len j.from) (s.birth j.from))) (sym e) (forwarded_allowed kind j j.to (s.colour j.from) (s.len j.from) (s.birth j.from) does)))

  header_field : (a f : ℕ) (e : Event) (b : ℕ) → header_in (field_by s a f e) b ≡ header_in s b
  header_field a f (Widen w) b = refl
  header_field a f (Take w) b = refl
  header_field a f (Mark w) b = refl
  header_field a f e b = refl

module _ (l : Sizes) (memory : ℕ → ℕ) (s : Space) (n : Notices) (rows : Rows l s.state s.len s.ends s.region) (says : Says l memory s n) (kind : Kind) (mark : Option FieldWord) where
  header_lays : (j : MoveJob) (b : ℕ) → IsMoverAt l kind mark memory s (Lays j) j → Stays kind s (lay l s j) b
  header_lays j b at =
      let born = from_born l memory s n rows says kind mark (Lays j) j at in
      elim (cases_eq b j.to) [
        | inl q ↦ inr (
            let was : header_in s b ≡ header_by Absent (s.colour b) (s.len b) (s.birth b) = ap (λ x. header_by x (s.colour b) (s.len b) (s.birth b)) (ap s.state q ∙ absent_to l memory s j rows at.copy at.live at.len born) in
            let is : header_in (lay l s j) b ≡ header_by Plain (s.colour j.from) j.len j.birth = ap (header_in (lay l s j)) q ∙ header_laid l memory s j rows at.copy at.live at.len born in
            subst (λ h. AllowedChange kind h (header_in (lay l s j) b)) (sym was) (subst (AllowedChange kind (header_by Absent (s.colour b) (s.len b) (s.birth b))) (sym is) (absent_allowed kind (s.colour b) (s.colour j.from) (s.len b) j.len (s.birth b) j.birth)))
        | inr q ↦ inl (header_else l memory s j rows at.copy at.live at.len born b q)
      ]

  header_gives_up : (j : MoveJob) (b : ℕ) → IsUnderway s j → Stays kind s (put_state s j.to Dead) b
  header_gives_up j b copy = header_one kind s j.to Dead b (subst (λ x. AllowedChange kind (header_by x (s.colour j.to) (s.len j.to) (s.birth j.to)) (header_by Dead (s.colour j.to) (s.len j.to) (s.birth j.to))) (sym copy.state) (dead_allowed kind (s.colour j.to) (s.len j.to) (s.birth j.to)))

  header_starts : (j : MoveJob) (b : ℕ) → is_clover kind ≡ true → s.state j.from ≡ Plain → Stays kind s (put_state s j.from (Moving j.to)) b
  header_starts j b is e = header_one kind s j.from (Moving j.to) b (subst (λ x. AllowedChange kind (header_by x (s.colour j.from) (s.len j.from) (s.birth j.from)) (header_by (Moving j.to) (s.colour j.from) (s.len j.from) (s.birth j.from))) (sym e) (started_allowed kind j.to (s.colour j.from) (s.len j.from) (s.birth j.from) is))

  header_forwards : (j : MoveJob) (b : ℕ) → IsMoverAt l kind mark memory s (Forwards j) j → Stays kind s (forward_by s j (s.state j.from)) b
  header_forwards j b at = elim at.state.1 [
    | inl q ↦ subst (λ x. Stays kind s (forward_by s j x) b) (sym q) (header_forwarded kind s j b at.copy.state at.state.0 q)
    | inr q ↦ subst (λ x. Stays kind s (forward_by s j x) b) (sym q) (inl refl)
  ]

  -- a mover's step changes headers as the table allows
  pub header_moved : (m : Carried) → StandsRight l kind mark memory s m → (a : ℕ) → Stays kind s (space_moved l mark s m) a
  header_moved (Lays j) at a = header_lays j a (at j refl)
  header_moved (Gives_up j) at a = header_gives_up j a (at j refl).copy
  header_moved (Seals j) at a = header_sealed kind s j (s.state j.from) a refl (at j refl).state
  header_moved (Starts j) at a = let o = (at j refl).state in header_starts j a o.0 o.1
  header_moved (Forwards j) at a = header_forwards j a (at j refl)
  header_moved (Widens j f w) at a = inl (header_field kind s j.from f (widen_event w (s.status j.from f)) a)
  header_moved (Finishes j f w) at a = inl (header_field kind s j.from f (finish_event w (s.status j.from f)) a)
  header_moved (Marks j f w) at a = inl (header_field kind s j.from f (mark_event mark w (s.word j.from f)) a)
  header_moved m at a = inl refl
