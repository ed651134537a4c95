-- After the step of a call: the words, the rows, and which header has changed.
use Rattle.std.proofs.Common.{◌≡◌, ◌≢◌, ℕ, ◌⊎◌, List, Option, Some, None, inl, inr, refl, ap, sym, subst, ◌∙◌}
use Rattle.call_steps.specs.StepLaws.{Put}
use Rattle.call_steps.specs.Steps.{place_of, put_by}
use Rattle.heap_words.specs.Layouts.{Sizes}
use Rattle.heap_words.specs.declared.field_word.FieldWord.{FieldWord}
use Rattle.object_headers.specs.Headers.{word_of_header}
use Rattle.heap_history.specs.declared.call.Call.{Call}
use Rattle.barriers.specs.declared.spot.Spot.{Spot}
use Rattle.barriers.specs.States.{Absent, Kept}
use Rattle.barriers.specs.Spaces.{Space, here}
use Rattle.barriers.specs.Cycles.{Cycle, Side}
use Rattle.barriers.specs.Knowns.{Known, Stores, Swaps, Swaps_wide, Stores_copy, Swaps_copy, Follows, Over, Finds, Header_word, at_field, spot_of, step_of}
use Rattle.barriers.specs.Events.{Event, Quiet, Keep, event, put_event, keep_event}
use Rattle.barriers.specs.Accesses.{space_by, space_after, history_after, found_in}
use Rattle.barriers.specs.Rows.{Rows}
use Rattle.barriers.specs.Says.{Notices, header_by, header_in, Says, IsAtWord, IsPacked, IsKept}
use Rattle.barriers.proofs.words.Sets.{set_cases}
use Rattle.barriers.proofs.words.Rows.{rows_state}
use Rattle.barriers.proofs.words.Headers.{live_there}
use Rattle.barriers.proofs.words.Steps.{says_step, tagged_or}

-- ---- the words and the rows

pub says_after : (l : Sizes) (m next : ℕ → ℕ) (s : Space) (n : Notices) → Rows l s.state s.len s.ends s.region → Says l m s n
    → (c : Cycle) (side : Side) (k : Known) → ((z : Spot) → at_field k ≡ Some z → IsAtWord s k) → IsPacked k → Put m next (place_of (step_of k)) (put_by (step_of k) (m (place_of (step_of k))))
    → Says l next (space_after c s side k) n
says_after l m next s n rows says c side k at packed put = says_step l m next s n rows says (history_after c s side k) c.phase k at packed put

pub rows_by : (l : Sizes) (s : Space) (z : Spot) (h : List Call) (e : Event) → Rows l s.state s.len s.ends s.region → s.state z.at ≢ Absent → (let t = space_by s z h e in Rows l t.state t.len t.ends t.region)
rows_by l s z h Keep rows there = rows_state l s.state s.len s.ends s.region rows z.at Kept there (λ e. cc e)
rows_by l s z h e rows there = rows

-- a machine is at a field, or its step is no event
spot_or : (k : Known) → (at_field k ≡ Some (spot_of k)) ⊎ ((found : Finds) → event k found ≡ Quiet)
spot_or (Follows z t f) = inr (λ found. refl)
spot_or (Over z t end) = inr (λ found. refl)
spot_or k = inl refl

pub rows_after : (l : Sizes) (c : Cycle) (side : Side) (s : Space) (k : Known) → Rows l s.state s.len s.ends s.region → ((z : Spot) → at_field k ≡ Some z → IsAtWord s k)
    → (let t = space_after c s side k in Rows l t.state t.len t.ends t.region)
rows_after l c side s k rows at = elim (spot_or k) [
  | inl q ↦ (let o = at (spot_of k) q in rows_by l s (spot_of k) (history_after c s side k) (event k (found_in c s k)) rows (live_there (s.state (spot_of k).at) o.live))
  | inr q ↦ subst (λ e. (let t = space_by s (spot_of k) (history_after c s side k) e in Rows l t.state t.len t.ends t.region)) (sym (q (found_in c s k))) rows
]

-- ---- headers

-- a header stays the word that it is as long as the space says the same of it, whatever the store
pub header_stays : (l : Sizes) (m next : ℕ → ℕ) (s t : Space) (n o : Notices) → Says l m s n → Says l next t o → (a : ℕ) → s.state a ≢ Absent → t.state a ≢ Absent → header_in t a ≡ header_in s a → next a ≡ m a
header_stays l m next s t n o before after a there here same = after.objects.header a here ∙ (ap word_of_header same ∙ sym (before.objects.header a there))

-- no event but Keep changes a header
pub header_by_event : (s : Space) (z : Spot) (h : List Call) (e : Event) (a : ℕ) → e ≢ Keep → header_in (space_by s z h e) a ≡ header_in s a
header_by_event s z h Keep a ne = absurd (ne refl)
header_by_event s z h e a ne = refl

put_no_keep : (k : Known) (o : Option FieldWord) → put_event k o ≢ Keep
put_no_keep (Stores s v) None e = cc e
put_no_keep (Stores s v) (Some w) e = cc e
put_no_keep (Swaps s t x i) None e = cc e
put_no_keep (Swaps s t x i) (Some w) e = cc e
put_no_keep (Stores_copy s v to) None e = cc e
put_no_keep (Stores_copy s v to) (Some w) e = cc e
put_no_keep (Swaps_copy s t to x i) None e = cc e
put_no_keep (Swaps_copy s t to x i) (Some w) e = cc e
put_no_keep (Swaps_wide s t v x i) None e = cc e
put_no_keep (Swaps_wide s t v x i) (Some w) e = cc e
put_no_keep k o e = cc e

-- what the exchange of a header makes of a header
kept_or : (s : Space) (z : Spot) (h : List Call) (a : ℕ) → (let t = space_by s z h (keep_event (Header_word (s.state z.at) (s.colour z.at) (s.len z.at))) in (header_in t a ≡ header_in s a) ⊎ ((a ≡ z.at) × IsKept s t a))
kept_or s z h a = elim (tagged_or (s.state z.at)) [
  | inl q ↦ subst By (sym (ap (λ x. keep_event (Header_word x (s.colour z.at) (s.len z.at))) q)) (elim (set_cases s.state z.at a Kept) [
    | inl y ↦ inr (y.0, record { was = ap s.state y.0 ∙ q; is = ap (λ x. header_by x (s.colour a) (s.len a) (s.birth a)) y.1 })
    | inr y ↦ inl (ap (λ x. header_by x (s.colour a) (s.len a) (s.birth a)) y.1)
  ])
  | inr q ↦ subst By (sym (q.0 (s.colour z.at) (s.len z.at))) (inl refl)
] where
  By : Event → Type 0
  By e = (let t = space_by s z h e in (header_in t a ≡ header_in s a) ⊎ ((a ≡ z.at) × IsKept s t a))
