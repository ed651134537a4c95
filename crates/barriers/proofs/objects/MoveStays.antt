-- A move under the steps of passes.
use Rattle.std.proofs.Common.{◌≡◌, ◌≢◌, ℕ, ◌<◌, inl, inr, refl, arith, ap, sym, subst, ◌∙◌, Some, List}
use Rattle.heap_words.specs.declared.field_word.FieldWord.{FieldWord}
use Rattle.wide_objects.specs.Statuses.{Status, InWide}
use Rattle.space_reclaim.specs.declared.move_job.MoveJob.{MoveJob}
use Rattle.heap_history.specs.NewestFirst.{Before}
use Rattle.heap_history.specs.declared.call.Call.{Call}
use Rattle.barriers.specs.States.{State, Absent, Plain, Kept, Tagged, Underway, IsHome, IsLive, On}
use Rattle.barriers.specs.Spaces.{Space, Holds, Here, here, zone, Copied, copy_word}
use Rattle.barriers.specs.Values.{value_of}
use Rattle.barriers.specs.Cycles.{Cycle}
use Rattle.barriers.specs.Events.{IsUncopied, IsWide, Event, Quiet, Keep, Write, Write_copy, Widen, after, after_copy, May, Unmarked}
use Rattle.barriers.specs.Moves.{Carried, Idles, Looks, Lays, Points, Gives_up, Seals, Starts, Forwards, Takes_up, Asks, Widens, Finishes, Marks, Puts, job_of}
use Rattle.barriers.specs.Protocols.{Protocol}
use Rattle.barriers.specs.ProtocolLaws.{ByPass, SameHead, ProtocolLaws}
use Rattle.barriers.specs.Objects.{IsCarrying, IsForward, IsLaid, AreObjects, CopyAt, IsMove}
use Rattle.barriers.specs.Accesses.{put_word, put_status, put_state}
use Rattle.barriers.specs.MoveTurns.{SameBody}
use Rattle.barriers.proofs.words.Sets.{set_cases, set2_cases}
use Rattle.barriers.proofs.objects.Base.{set2_else, home_live, carrying_home, not_underway}
use Rattle.barriers.proofs.objects.Seen.{one_home}
use Rattle.barriers.proofs.objects.Changes.{IsPut}
use Rattle.barriers.proofs.objects.Puts.{Site, At_home, At_copy, only, z_birth, site_live}

-- ---- the copy

pub laid_at : (s : Space) (m : Carried) (j : MoveJob) → ((k : MoveJob) → m ≡ Lays k → ⊥) → IsLaid s j → CopyAt s m j
laid_at s (Lays k) j n q = absurd (n k refl)
laid_at s (Looks k) j n q = tt
laid_at s Idles j n q = q
laid_at s (Points k) j n q = q
laid_at s (Gives_up k) j n q = q
laid_at s (Seals k) j n q = q
laid_at s (Starts k) j n q = q
laid_at s (Forwards k) j n q = q
laid_at s (Takes_up k f) j n q = q
laid_at s (Asks k f) j n q = q
laid_at s (Widens k f u) j n q = q
laid_at s (Finishes k f u) j n q = q
laid_at s (Marks k f u) j n q = q
laid_at s (Puts k f u) j n q = q

data CopyCase (s : Space) (m : Carried) (j : MoveJob) : Type 0 where
  Looking : (k : MoveJob) → m ≡ Looks k → CopyCase s m j
  Laying : (k : MoveJob) → m ≡ Lays k → s.state j.to ≡ Absent → CopyCase s m j
  Laid : ((k : MoveJob) → m ≡ Lays k → ⊥) → IsLaid s j → CopyCase s m j

copy_case : (s : Space) (m : Carried) (j : MoveJob) → CopyAt s m j → CopyCase s m j
copy_case s (Looks k) j q = Looking k refl
copy_case s (Lays k) j q = Laying k refl q
copy_case s Idles j q = Laid (λ i e. cc e) q
copy_case s (Points k) j q = Laid (λ i e. cc e) q
copy_case s (Gives_up k) j q = Laid (λ i e. cc e) q
copy_case s (Seals k) j q = Laid (λ i e. cc e) q
copy_case s (Starts k) j q = Laid (λ i e. cc e) q
copy_case s (Forwards k) j q = Laid (λ i e. cc e) q
copy_case s (Takes_up k f) j q = Laid (λ i e. cc e) q
copy_case s (Asks k f) j q = Laid (λ i e. cc e) q
copy_case s (Widens k f u) j q = Laid (λ i e. cc e) q
copy_case s (Finishes k f u) j q = Laid (λ i e. cc e) q
copy_case s (Marks k f u) j q = Laid (λ i e. cc e) q
copy_case s (Puts k f u) j q = Laid (λ i e. cc e) q

pub copy_goes : (s t : Space) (m : Carried) (j : MoveJob) → (s.state j.to ≡ Absent → t.state j.to ≡ Absent) → (IsLaid s j → IsLaid t j) → CopyAt s m j → CopyAt t m j
copy_goes s t m j absent laid q = by_case (copy_case s m j q)
  where
    by_case : CopyCase s m j → CopyAt t m j
    by_case (Looking k e) = rw e tt
    by_case (Laying k e nothing) = rw e (absent nothing)
    by_case (Laid n under) = laid_at t m j n (laid under)

-- a copy under way stays it
pub laid_goes : (s t : Space) (j : MoveJob) → SameBody s t j.from → SameBody s t j.to → (s.state j.to ≡ Underway → t.state j.to ≡ Underway) → ((g : ℕ) → t.status j.to g ≡ s.status j.to g) → t.seal j.to ≡ s.seal j.to → IsLaid s j → IsLaid t j
laid_goes s t j from to under status seal q = record {
  copy = record { state = under q.copy.state; birth = to.birth ∙ (q.copy.birth ∙ sym from.birth); len = to.len ∙ (q.copy.len ∙ sym from.len) };
  colour = to.colour ∙ (q.colour ∙ sym from.colour);
  to = from.to ∙ q.to;
  wide = from.wide ∙ q.wide;
  status = λ g. status g ∙ q.status g;
  seal = seal ∙ q.seal;
}

wide_live : (x : State) → IsWide x → IsLive x
wide_live x h = grind (arith, h)

-- what is known of the header is the same at all fields
pub same_head : (x : Here) (w : FieldWord) (u : Status) → SameHead x (record x { word = w; status = u })
same_head x w u = record { state = refl; len = refl; to = refl; wide = refl; address = refl; seal = refl }

module _ (P : Protocol) (L : ProtocolLaws P) (c : Cycle) (s : Space) (w : AreObjects P c s) (m : Carried) (j : MoveJob) (job : job_of m ≡ Some j) (o : IsMove P c s m j) where
  pub head_at : (g : ℕ) → P.MoveHead c m (here s j.from g)
  head_at g = L.moves.heads c m (here s j.from 0) (here s j.from g) (same_head (here s j.from 0) (s.word j.from g) (s.status j.from g)) o.head

  pub live_at : IsLive (s.state j.from)
  live_at = home_live (s.state j.from) o.live

  -- the copy is none of the objects
  module _ (laid : IsLaid s j) where
    pub not_to : (a : ℕ) → IsLive (s.state a) → a ≢ j.to
    not_to a i e = not_underway (s.state a) i (ap s.state e ∙ laid.copy.state)

    pub to_apart : j.to ≢ j.from
    to_apart e = not_to j.from live_at (sym e)

    -- nor one to which an object has gone
    pub not_gone : (a : ℕ) → IsForward (s.state a) → s.to a ≢ j.to
    not_gone a i e = plain_underway (s.state j.to) (ap s.state (sym e) ∙ (w.copied a i).state) laid.copy.state
      where
        plain_underway : (x : State) → x ≡ Plain → x ≡ Underway → ⊥
        plain_underway x e q = cc (e, q)

    -- and it is the copy of no other object
    pub the_one : (a : ℕ) → IsCarrying (s.state a) → s.to a ≡ j.to → a ≡ j.from
    the_one a i e = one_home P L c s w a j.from (carrying_home (s.state a) i) o.live (sym (w.under a i).birth ∙ (ap s.birth e ∙ laid.copy.birth))

  -- the original is no copy under way
  pub not_from : (a : ℕ) → IsCarrying (s.state a) → s.to a ≢ j.from
  not_from a i e = not_underway (s.state j.from) live_at (ap s.state (sym e) ∙ (w.under a i).state)

  -- in a space in which the object, its header apart from the state, is as it was
  pub move_goes : (t : Space) → SameBody s t j.from → IsHome (t.state j.from) → ((a : ℕ) → IsForward (t.state a) → t.to a ≢ j.from) → CopyAt t m j → P.MoveHead c m (here t j.from 0) → ((g : ℕ) → g < j.len → P.MoveField c m g (here t j.from g) (copy_word t j.from g)) → IsMove P c t m j
  move_goes t body live apart copy head field = record {
    late = o.late;
    live = live;
    len = body.len ∙ o.len;
    birth = body.birth ∙ o.birth;
    header = rw body.colour o.header;
    copy = copy;
    apart = apart;
    head = head;
    field = field;
  }

  -- where there is no copy yet, nothing is known of the fields
  pub field_goes : (t : Space) → (IsLaid s j → (g : ℕ) → g < j.len → P.MoveField c m g (here t j.from g) (copy_word t j.from g)) → (g : ℕ) → g < j.len → P.MoveField c m g (here t j.from g) (copy_word t j.from g)
  field_goes t laid g lt = by_case (copy_case s m j o.copy)
    where
      by_case : CopyCase s m j → P.MoveField c m g (here t j.from g) (copy_word t j.from g)
      by_case (Looking k e) = rw e (L.moves.looks c k g (here t j.from g) (copy_word t j.from g))
      by_case (Laying k e nothing) = rw e (L.moves.lays c k g (here t j.from g) (copy_word t j.from g))
      by_case (Laid n under) = laid under g lt

  -- ---- the word of a region is stored
  -- ---- a word is put
  module _ (b z f : ℕ) (v : FieldWord) (new : List Call) (later : (early : List Call) → Before early s.history → Before early new) (home : IsHome (s.state (s.home b))) (birth : s.birth (s.home b) ≡ b) (clean : Unmarked c v) (hold : On (Holds s) v)
      (site : Site c s (s.home b) z f v) (put : IsPut s.history new b f (value_of v)) where
    abbrev t : Space
    t = put_word s b z f v new

    by_event : (g : ℕ) (e : Event) → ByPass e → P.Makes e → May c (here s j.from g) e → g < j.len → here t j.from g ≡ after e (here s j.from g) → copy_word t j.from g ≡ after_copy e (copy_word s j.from g) → P.MoveField c m g (here t j.from g) (copy_word t j.from g)
    by_event g e pass makes may lt h q = rw (h, q) (L.moves.field_stays c m g (here s j.from g) (copy_word s j.from g) e makes pass may (head_at g) (o.field g lt))

    is_home : IsLaid s j → s.to j.from ≡ z → Site c s (s.home b) z f v → (j.from ≡ s.home b) × (zone c.mark (s.state (s.home b)) (s.word (s.home b) f) (s.status (s.home b) f) ≡ Copied)
    is_home k e (At_home x i) = absurd (not_underway (s.state z) (rw x (home_live (s.state (s.home b)) home)) (ap s.state (sym e ∙ k.to) ∙ k.copy.state))
    is_home k e (At_copy x i q) =
        let same : s.birth j.from ≡ b = sym k.copy.birth ∙ (ap s.birth (sym k.to ∙ e) ∙ z_birth P L c s w b z f v new later home birth clean hold site put) in
        (only P L c s w b z f v new later home birth clean hold site put j.from o.live same, q)

    laid_field : IsLaid s j → (g : ℕ) → g < j.len → P.MoveField c m g (here t j.from g) (copy_word t j.from g)
    laid_field k g lt = elim (set2_cases s.word z f v j.from g) [
      | inl q ↦ (
          let live : IsLive (s.state z) = subst (λ y. IsLive (s.state y)) q.0 live_at in
          let l = site_live P L c s w b z f v new later home birth clean hold site put site live in
          let apart : (s.to j.from ≡ z) × (g ≡ f) → ⊥ = λ y. not_underway (s.state z) live (ap s.state (sym y.0 ∙ k.to) ∙ k.copy.state) in
          by_event g (Write v) tt (L.shapes.makes_write v) (rw (q.0, q.1) l.1, clean) lt (rw q.2 refl) (set2_else s.word z f (s.to j.from) g v apart))
      | inr q ↦ elim (set2_cases s.word z f v (s.to j.from) g) [
        | inl p ↦ (let y = is_home k p.0 site in by_event g (Write_copy v) tt (L.shapes.makes_copy v) (rw (y.0, p.1) y.1, clean) lt (rw q.1 refl) p.2)
        | inr p ↦ by_event g Quiet tt L.shapes.makes_quiet tt lt (rw q.1 refl) p.1
      ]
    ]

    abbrev body : (a : ℕ) → SameBody s t a
    body a = record { colour = refl; len = refl; birth = refl; to = refl; wide = refl }

    pub put_move : IsMove P c t m j
    put_move =
        let copy = copy_goes s t m j (λ e. e) (laid_goes s t j (body j.from) (body j.to) (λ e. e) (λ g. refl) refl) o.copy in
        let head = L.moves.heads c m (here s j.from 0) (here t j.from 0) (same_head (here s j.from 0) (t.word j.from 0) (t.status j.from 0)) o.head in
        move_goes t (body j.from) o.live o.apart copy head (field_goes t laid_field)

  -- ---- a wide word is exchanged
  module _ (a f : ℕ) (v : FieldWord) (new : List Call) (makes : P.Makes (Widen v)) (wide : IsWide (s.state a)) (uncopied : IsUncopied (s.status a f)) where
    abbrev u : Space
    u = put_status s (s.birth a) a f v new

    abbrev wide_body : (x : ℕ) → SameBody s u x
    wide_body x = record { colour = refl; len = refl; birth = refl; to = refl; wide = refl }

    wide_field : (g : ℕ) → g < j.len → P.MoveField c m g (here u j.from g) (copy_word u j.from g)
    wide_field g lt = elim (set2_cases s.status a f (InWide v) j.from g) [
      | inl q ↦ rw q.2 (L.moves.field_stays c m g (here s j.from g) (copy_word s j.from g) (Widen v) makes tt (rw q.0 wide, rw (q.0, q.1) uncopied) (head_at g) (o.field g lt))
      | inr q ↦ rw q.1 (o.field g lt)
    ]

    wide_laid : IsLaid s j → IsLaid u j
    wide_laid k =
        let apart : j.to ≡ a → ⊥ = λ y. not_underway (s.state a) (wide_live (s.state a) wide) (ap s.state (sym y) ∙ k.copy.state) in
        laid_goes s u j (wide_body j.from) (wide_body j.to) (λ e. e) (λ g. set2_else s.status a f j.to g (InWide v) (λ y. apart y.0)) refl k

    pub wide_move : IsMove P c u m j
    wide_move =
        let head = L.moves.heads c m (here s j.from 0) (here u j.from 0) (same_head (here s j.from 0) (u.word j.from 0) (u.status j.from 0)) o.head in
        move_goes u (wide_body j.from) o.live o.apart (copy_goes s u m j (λ e. e) wide_laid o.copy) head wide_field

  -- ---- a header becomes Kept
  module _ (a : ℕ) (makes : P.Makes Keep) (tagged : s.state a ≡ Tagged) where
    abbrev k : Space
    k = put_state s a Kept

    abbrev kept_body : (x : ℕ) → SameBody s k x
    kept_body x = record { colour = refl; len = refl; birth = refl; to = refl; wide = refl }

    keep_head : (g : ℕ) → P.MoveHead c m (here k j.from g)
    keep_head g = elim (set_cases s.state a j.from Kept) [
      | inl q ↦ rw q.1 (L.moves.head_stays c m (here s j.from g) Keep makes tt (rw q.0 tagged) (head_at g))
      | inr q ↦ rw q.1 (head_at g)
    ]

    keep_field : (g : ℕ) → g < j.len → P.MoveField c m g (here k j.from g) (copy_word k j.from g)
    keep_field g lt = elim (set_cases s.state a j.from Kept) [
      | inl q ↦ rw q.1 (L.moves.field_stays c m g (here s j.from g) (copy_word s j.from g) Keep makes tt (rw q.0 tagged) (head_at g) (o.field g lt))
      | inr q ↦ rw q.1 (o.field g lt)
    ]

    -- another state stays
    keep_other : (x : State) → x ≢ Tagged → s.state j.to ≡ x → k.state j.to ≡ x
    keep_other x n e = elim (set_cases s.state a j.to Kept) [ inl q ↦ absurd (n (sym e ∙ (ap s.state q.0 ∙ tagged))) | inr q ↦ q.1 ∙ e ]

    pub keep_move : IsMove P c k m j
    keep_move =
        let copy = copy_goes s k m j (keep_other Absent (λ e. cc e)) (laid_goes s k j (kept_body j.from) (kept_body j.to) (keep_other Underway (λ e. cc e)) (λ g. refl) refl) o.copy in
        let live : IsHome (k.state j.from) = elim (set_cases s.state a j.from Kept) [ inl q ↦ rw q.1 tt | inr q ↦ rw q.1 o.live ] in
        move_goes k (kept_body j.from) live (λ x i. o.apart x (elim (set_cases s.state a x Kept) [ inl q ↦ absurd (rw q.1 at i) | inr q ↦ rw q.1 at i ])) copy (keep_head 0) keep_field
