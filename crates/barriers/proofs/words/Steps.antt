-- After the step of a call the words say what its event makes of the space.
use Rattle.std.proofs.Common.{◌≡◌, ◌≢◌, ℕ, ◌+◌, ◌<◌, ◌==◌, ◌⊎◌, Bool, true, false, if◌then◌else◌, List, Option, Some, None, inl, inr, refl, arith, ap, sym, subst, ◌∙◌}
use prog.Atomic.{either}
use Rattle.std.proofs.lemmas.Bool.Decides.{nat_tests}
use Rattle.call_steps.specs.StepLaws.{Put}
use Rattle.call_steps.specs.Steps.{place_of, put_by}
use Rattle.heap_words.specs.Layouts.{Sizes}
use Rattle.heap_words.specs.declared.field_word.FieldWord.{FieldWord}
use Rattle.heap_words.specs.declared.field_word.FieldWord.TheVariants.{Num, Link}
use Rattle.heap_words.specs.FieldWords.{IsFieldWord, word_of}
use Rattle.heap_words.specs.FieldWordLaws.{word_of-injective}
use Rattle.object_headers.specs.declared.header.Colour.{Colour}
use Rattle.object_headers.specs.declared.header.Header.{Header}
use Rattle.object_headers.specs.declared.header.State.TheVariants as states
use Rattle.object_headers.specs.Headers.{IsHeader, word_of_header}
use Rattle.object_headers.specs.HeaderLaws.{word_of_header-injective}
use Rattle.wide_objects.specs.Statuses.{Status, InOriginal, InWide, InCopy, IsStatus, word_of_status}
use Rattle.wide_objects.specs.StatusLaws.{word_of_status-injective}
use Rattle.handshakes.specs.declared.follow.FollowMachine.{FollowMachine}
use Rattle.handshakes.specs.declared.follow.FollowMachine.TheVariants as follow
use Rattle.handshakes.specs.Follows as follows
use Rattle.heap_history.specs.declared.call.Call.{Call}
use Rattle.barriers.specs.declared.spot.Spot.{Spot}
use Rattle.barriers.specs.Sets.{set2}
use Rattle.barriers.specs.States.{State, Absent, Plain, Kept, Tagged, Wide, Moving, Underway, Forward, Dead, IsLive, same_word}
use Rattle.barriers.specs.Stances.{Stance}
use Rattle.barriers.specs.Spaces.{Space, here, copy_word, same_status}
use Rattle.barriers.specs.Knowns.{Task, Reads, Writes, Exchanges, Known, Checks, Loads_header, Keeps, Loads, Stores, Swaps, Loads_again, Loads_wide, Swaps_wide, Loads_late, Loads_address, Loads_copy, Stores_copy, Swaps_copy, Follows, Over, Header_word, finds, at_field, spot_of, step_of, word_in, put_of, place_in}
use Rattle.barriers.specs.Events.{Event, Quiet, Write, Write_copy, Widen, event, put_event, keep_event}
use Rattle.barriers.specs.Objects.{tagged_header}
use Rattle.barriers.specs.Accesses.{space_by}
use Rattle.barriers.specs.Rows.{Rows}
use Rattle.barriers.specs.Says.{Notices, header_by, header_in, head_word, IsWritten, Says, IsAtWord, IsPacked, FitsTask, IsChange}
use Rattle.barriers.proofs.words.Headers.{live_written, live_there, kept_fits}
use Rattle.barriers.proofs.words.Frames.{says_same, put_same, exchange_won, exchange_lost}
use Rattle.barriers.proofs.words.Stores.{says_word, says_header}
use Rattle.barriers.proofs.words.WideStores.{says_status}
use Rattle.barriers.proofs.words.Found.{place_is, original, copied, widened}

pub same_word_tells : (v w : FieldWord) → ((same_word v w ≡ true) × (v ≡ w)) ⊎ ((same_word v w ≡ false) × (v ≢ w))
same_word_tells (Num i) (Num j) = grind (arith, nat_tests)
same_word_tells (Num i) (Link b a) = inr (refl, λ e. cc e)
same_word_tells (Link b a) (Num j) = inr (refl, λ e. cc e)
same_word_tells (Link b a) (Link c d) = grind (arith, nat_tests)

pub same_status_tells : (u v : Status) → ((same_status u v ≡ true) × (u ≡ v)) ⊎ ((same_status u v ≡ false) × (u ≢ v))
same_status_tells InOriginal InOriginal = inl (refl, refl)
same_status_tells InOriginal (InWide w) = inr (refl, λ e. cc e)
same_status_tells InOriginal (InCopy w) = inr (refl, λ e. cc e)
same_status_tells (InWide v) InOriginal = inr (refl, λ e. cc e)
same_status_tells (InWide v) (InWide w) = elim (same_word_tells v w) [ inl q ↦ inl (q.0, ap InWide q.1) | inr q ↦ inr (q.0, λ e. q.1 (cc e)) ]
same_status_tells (InWide v) (InCopy w) = inr (refl, λ e. cc e)
same_status_tells (InCopy v) InOriginal = inr (refl, λ e. cc e)
same_status_tells (InCopy v) (InWide w) = inr (refl, λ e. cc e)
same_status_tells (InCopy v) (InCopy w) = elim (same_word_tells v w) [ inl q ↦ inl (q.0, ap InCopy q.1) | inr q ↦ inr (q.0, λ e. q.1 (cc e)) ]

-- a state is Tagged, or its header does not say so, and an exchange of the header keeps nothing
pub tagged_or : (x : State) → (x ≡ Tagged) ⊎ (((c : Colour) (len : ℕ) → keep_event (Header_word x c len) ≡ Quiet) × ((h : Header) (c : _) (len birth : ℕ) → header_by x c len birth ≡ h → (let g = h in g.state) ≢ states.Tagged))
tagged_or Tagged = inl refl
tagged_or Absent = inr ((λ c len. refl), λ h c len birth e q. cc (e, q))
tagged_or Plain = inr ((λ c len. refl), λ h c len birth e q. cc (e, q))
tagged_or Kept = inr ((λ c len. refl), λ h c len birth e q. cc (e, q))
tagged_or (Wide w) = inr ((λ c len. refl), λ h c len birth e q. cc (e, q))
tagged_or (Moving t) = inr ((λ c len. refl), λ h c len birth e q. cc (e, q))
tagged_or Underway = inr ((λ c len. refl), λ h c len birth e q. cc (e, q))
tagged_or (Forward t) = inr ((λ c len. refl), λ h c len birth e q. cc (e, q))
tagged_or Dead = inr ((λ c len. refl), λ h c len birth e q. cc (e, q))

tagged_fits : (x : State) (c : _) (len birth : ℕ) → IsLive x → IsHeader (header_by x c len birth) → IsHeader (header_by Tagged c len birth)
tagged_fits Plain c len birth live f = record { len = f.len; birth = f.birth; target = omega arith; state = (f.state.0, refl) }
tagged_fits Kept c len birth live f = record { len = f.len; birth = f.birth; target = omega arith; state = (f.state.0, refl) }
tagged_fits Tagged c len birth live f = f
tagged_fits (Wide w) c len birth live f = record { len = f.len; birth = f.birth; target = omega arith; state = (f.state, refl) }
tagged_fits (Moving t) c len birth live f = record { len = f.len; birth = f.birth; target = omega arith; state = (f.state, refl) }
tagged_fits (Forward t) c len birth live f = record { len = f.len; birth = f.birth; target = omega arith; state = (f.state, refl) }
tagged_fits x c len birth live f = absurd live

module _ (l : Sizes) (m next : ℕ → ℕ) (s : Space) (n : Notices) (rows : Rows l s.state s.len s.ends s.region) (says : Says l m s n) (h : List Call) where
  abbrev Goal : Spot → Event → Type 0
  Goal z e = Says l next (space_by s z h e) n

  unchanged : ((a : ℕ) → next a ≡ m a) → Says l next s n
  unchanged same = says_same l m next s n same rows says

  -- ---- where the word comes

  module _ (z : Spot) (live : IsLive (s.state z.at)) (lt : z.field < s.len z.at) where
    to_original : (w : FieldWord) → z.place ≡ z.at + 1 + z.field → IsFieldWord w → Put m next z.place (word_of w) → Goal z (Write w)
    to_original w e fits put = says_word l m next s n rows says z.at z.field w (set2 s.field (s.home z.birth) z.field w) h (live_written (s.state z.at) live) lt fits (subst (λ a. Put m next a (word_of w)) e put)

    to_copy : (w : FieldWord) (to : ℕ) → (to ≡ s.to z.at) × IsWritten (s.state to) × (s.len to ≡ s.len z.at) → IsFieldWord w → Put m next (place_in to z) (word_of w) → Goal z (Write_copy w)
    to_copy w to c fits put = says_word l m next s n rows says (s.to z.at) z.field w (set2 s.field (s.home z.birth) z.field w) h
        (subst (λ a. IsWritten (s.state a)) c.0 c.1)
        (let e : s.len (s.to z.at) ≡ s.len z.at = sym (ap s.len c.0) ∙ c.2 in omega (arith, e, lt))
        fits (subst (λ a. Put m next (a + 1 + z.field) (word_of w)) c.0 put)

    to_wide : (w : FieldWord) (wide : ℕ) → (wide ≡ s.wide z.at) × (wide ≢ 0) → IsFieldWord w → Put m next (place_in wide z) (word_of_status (InWide w)) → Goal z (Widen w)
    to_wide w wide c fits put = says_status l m next s n rows says z.at z.field (InWide w) (set2 s.field (s.home z.birth) z.field w) h
        (λ e. c.1 (c.0 ∙ e)) lt fits (subst (λ a. Put m next (a + 1 + z.field) (word_of_status (InWide w))) c.0 put)

  -- ---- exchanges

  module _ (z : Spot) (t : Task) (change : IsChange t) (fits : FitsTask t) (event_by : FieldWord → Event) (puts : Option FieldWord → Event) (some : (w : FieldWord) → puts (Some w) ≡ event_by w) (none : puts None ≡ Quiet) where
    -- the change of a task, whose word is put
    changed : (pack : FieldWord → ℕ) (at : ℕ) → ((w : FieldWord) → IsFieldWord w → Put m next at (pack w) → Goal z (event_by w)) → Put m next at (pack (put_of t)) → Goal z (puts (word_in t))
    changed pack at won put = by t change fits put where
      by : (u : Task) → IsChange u → FitsTask u → Put m next at (pack (put_of u)) → Goal z (puts (word_in u))
      by Reads c f p = absurd c
      by (Writes w) c f p = subst (Goal z) (sym (some w)) (won w f p)
      by (Exchanges expected w) c f p = subst (Goal z) (sym (some w)) (won w f p)

    -- it wins or not, as the test says
    swapped : (b : Bool) (same : Bool) → same ≡ b → Goal z (puts (if b then word_in t else None)) → Goal z (puts (if same then word_in t else None))
    swapped b same e g = subst (λ c. Goal z (puts (if c then word_in t else None))) (sym e) g

    swap : (at : ℕ) (v x : FieldWord) → (m at ≡ word_of v) × IsFieldWord v → IsFieldWord x → ((w : FieldWord) → IsFieldWord w → Put m next at (word_of w) → Goal z (event_by w))
        → Put m next at (either (m at == word_of x) (word_of (put_of t)) (m at)) → Goal z (puts (if same_word v x then word_in t else None))
    swap at v x found fit won put = elim (same_word_tells v x) [
      | inl q ↦ swapped true (same_word v x) q.0 (changed word_of at won (exchange_won m next at (word_of x) (word_of (put_of t)) (found.0 ∙ ap word_of q.1) put))
      | inr q ↦ swapped false (same_word v x) q.0 (subst (Goal z) (sym none) (unchanged (exchange_lost m next at (word_of x) (word_of (put_of t)) (λ e. q.1 (word_of-injective v x found.1 fit (sym found.0 ∙ e))) put)))
    ]

    swap_wide : (at : ℕ) (v x : Status) → (m at ≡ word_of_status v) × IsStatus v → IsStatus x → ((w : FieldWord) → IsFieldWord w → Put m next at (word_of_status (InWide w)) → Goal z (event_by w))
        → Put m next at (either (m at == word_of_status x) (word_of_status (InWide (put_of t))) (m at)) → Goal z (puts (if same_status v x then word_in t else None))
    swap_wide at v x found fit won put = elim (same_status_tells v x) [
      | inl q ↦ swapped true (same_status v x) q.0 (changed (λ w. word_of_status (InWide w)) at won (exchange_won m next at (word_of_status x) (word_of_status (InWide (put_of t))) (found.0 ∙ ap word_of_status q.1) put))
      | inr q ↦ swapped false (same_status v x) q.0 (subst (Goal z) (sym none) (unchanged (exchange_lost m next at (word_of_status x) (word_of_status (InWide (put_of t))) (λ e. q.1 (word_of_status-injective v x found.1 fit (sym found.0 ∙ e))) put)))
    ]

  -- the header
  keep : (z : Spot) (tagged : Header) → IsLive (s.state z.at) → tagged ≡ tagged_header s z.at → Put m next z.at (either (m z.at == word_of_header tagged) (word_of_header (record tagged { state = states.Kept })) (m z.at))
      → Goal z (keep_event (Header_word (s.state z.at) (s.colour z.at) (s.len z.at)))
  keep z tagged live e put =
      let a = z.at in
      let there = live_there (s.state a) live in
      elim (tagged_or (s.state a)) [
        | inl q ↦ (
            let found : m a ≡ word_of_header tagged = says.objects.header a there ∙ (ap (λ x. head_word x (s.colour a) (s.len a) (s.birth a)) q ∙ ap word_of_header (sym e)) in
            let put_kept : Put m next a (head_word Kept (s.colour a) (s.len a) (s.birth a)) = subst (λ g. Put m next a (word_of_header (record g { state = states.Kept }))) e (exchange_won m next a (word_of_header tagged) (word_of_header (record tagged { state = states.Kept })) found put) in
            let fits = kept_fits (s.colour a) (s.len a) (s.birth a) (subst (λ x. IsHeader (header_by x (s.colour a) (s.len a) (s.birth a))) q (says.objects.header_fits a there)) in
            subst (λ x. Goal z (keep_event (Header_word x (s.colour a) (s.len a)))) (sym q) (says_header l m next s n rows says a Kept there (λ w. live_written (s.state a) live) fits put_kept))
        | inr q ↦ (
            let fits : IsHeader tagged = subst IsHeader (sym e) (tagged_fits (s.state a) (s.colour a) (s.len a) (s.birth a) live (says.objects.header_fits a there)) in
            let ne : m a ≢ word_of_header tagged = λ y. q.1 tagged (s.colour a) (s.len a) (s.birth a) (word_of_header-injective (header_in s a) tagged (says.objects.header_fits a there) fits (sym (says.objects.header a there) ∙ y)) (ap (λ (g : Header). g.state) e) in
            subst (Goal z) (sym (q.0 (s.colour a) (s.len a))) (unchanged (exchange_lost m next a (word_of_header tagged) (word_of_header (record tagged { state = states.Kept })) ne put)))
      ]

  -- ---- by machine

  followed : (f : FollowMachine) → Put m next (place_of (follows.asks_of f)) (put_by (follows.asks_of f) (m (place_of (follows.asks_of f)))) → Says l next s n
  followed (follow.Header birth a) put = unchanged (put_same m next a (m a) put refl)
  followed (follow.Ended end) put = unchanged (put_same m next 0 (m 0) put refl)

  pub says_step : (p : Stance) (k : Known) → ((z : Spot) → at_field k ≡ Some z → IsAtWord s k) → IsPacked k → Put m next (place_of (step_of k)) (put_by (step_of k) (m (place_of (step_of k))))
      → Says l next (space_by s (spot_of k) h (event k (finds p (here s (spot_of k).at (spot_of k).field) (copy_word s (spot_of k).at (spot_of k).field) k))) n
  says_step p (Checks z t cycle) at packed put = unchanged (put_same m next _ _ put refl)
  says_step p (Loads_header z t) at packed put = unchanged (put_same m next _ _ put refl)
  says_step p (Keeps z t tagged) at packed put = let o = at z refl in keep z tagged o.live (o.head tagged refl) put
  says_step p (Loads z t) at packed put = unchanged (put_same m next _ _ put refl)
  says_step p (Stores z w) at packed put = let o = at z refl in to_original z o.live (o.inside refl) w (place_is l m s n rows says z o.live o.place (o.inside refl)) packed.task put
  says_step p (Swaps z t x i) at packed put =
      let o = at z refl in
      swap z t packed.from.1 packed.task Write (put_event (Swaps z t x i)) (λ w. refl) refl z.place (s.word z.at z.field) x (original l m s n rows says z o.live o.place (o.inside refl)) packed.from.0
      (λ w. to_original z o.live (o.inside refl) w (place_is l m s n rows says z o.live o.place (o.inside refl))) put
  says_step p (Loads_again z t x i) at packed put = unchanged (put_same m next _ _ put refl)
  says_step p (Loads_wide z t w) at packed put = unchanged (put_same m next _ _ put refl)
  says_step p (Swaps_wide z t w x i) at packed put =
      let o = at z refl in
      swap_wide z t packed.from.1 packed.task Widen (put_event (Swaps_wide z t w x i)) (λ v. refl) refl (place_in w z) (s.status z.at z.field) x (widened l m s n rows says z w (o.wide w refl) (o.inside refl)) packed.from.0
      (λ v. to_wide z o.live (o.inside refl) v w (o.wide w refl)) put
  says_step p (Loads_late z t w) at packed put = unchanged (put_same m next _ _ put refl)
  says_step p (Loads_address z t w) at packed put = unchanged (put_same m next _ _ put refl)
  says_step p (Loads_copy z t to) at packed put = unchanged (put_same m next _ _ put refl)
  says_step p (Stores_copy z w to) at packed put = let o = at z refl in to_copy z o.live (o.inside refl) w to (o.copy to refl) packed.task put
  says_step p (Swaps_copy z t to x i) at packed put =
      let o = at z refl in
      swap z t packed.from.1 packed.task Write_copy (put_event (Swaps_copy z t to x i)) (λ w. refl) refl (place_in to z) (copy_word s z.at z.field) x (copied l m s n rows says z to (o.copy to refl) (o.inside refl)) packed.from.0
      (λ w. to_copy z o.live (o.inside refl) w to (o.copy to refl)) put
  says_step p (Follows z t f) at packed put = followed f put
  says_step p (Over z t end) at packed put = unchanged (put_same m next _ _ put refl)
