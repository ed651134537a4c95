-- The words of the wide area that no object's wide object has stay 0 under the steps of calls and under new objects.
use Rattle.std.proofs.Common.{◌≡◌, ◌≢◌, ℕ, ◌+◌, ◌<◌, ◌≤◌, List, Some, inl, inr, refl, arith, ap, sym, subst, ◌∙◌}
use Rattle.call_steps.specs.StepLaws.{Put}
use Rattle.call_steps.specs.Steps.{place_of, put_by}
use Rattle.heap_words.specs.Layouts.{Sizes}
use Rattle.object_headers.specs.declared.header.Colour.{Colour}
use Rattle.handshakes.specs.declared.follow.FollowMachine.{FollowMachine}
use Rattle.handshakes.specs.declared.follow.FollowMachine.TheVariants as follow
use Rattle.handshakes.specs.Follows as follows
use Rattle.heap_history.specs.declared.call.Call.{Call}
use Rattle.barriers.specs.declared.spot.Spot.{Spot}
use Rattle.barriers.specs.Spots as spots
use Rattle.barriers.specs.States.{Plain, IsLive}
use Rattle.barriers.specs.Spaces.{Space, Holds}
use Rattle.barriers.specs.Cycles.{Cycle, Side}
use Rattle.barriers.specs.Knowns.{Known, Checks, Loads_header, Keeps, Loads, Stores, Swaps, Loads_again, Loads_wide, Swaps_wide, Loads_late, Loads_address, Loads_copy, Stores_copy, Swaps_copy, Follows, Over, at_field, spot_of, hand_of, step_of, word_followed, place_in}
use Rattle.barriers.specs.Events.{Event, Keep, Write, Write_copy, Widen, event}
use Rattle.barriers.specs.Protocols.{OnHand}
use Rattle.barriers.specs.Accesses.{space_by, found_in, history_after, space_after}
use Rattle.barriers.specs.MoveWords.{IsUnused, IsSpare}
use Rattle.barriers.specs.Rows.{Rows}
use Rattle.barriers.specs.Says.{Notices, head_word, IsWritten, Says, IsAtWord, CanAppend, append}
use Rattle.barriers.proofs.words.Sets.{set_else}
use Rattle.barriers.proofs.words.Headers.{live_there, written_there}
use Rattle.barriers.proofs.words.Regions.{region_ends}
use Rattle.barriers.proofs.words.Found.{place_is}
use Rattle.barriers.proofs.words.MoveFrames.{IsAlike}
use Rattle.barriers.proofs.words.Spares.{IsBeside, spare_put, beside_object, beside_wide, unused_alike}

alike_by : (s : Space) (z : Spot) (h : List Call) (e : Event) → IsAlike s (space_by s z h e)
alike_by s z h Keep = (refl, refl, refl)
alike_by s z h (Write w) = (refl, refl, refl)
alike_by s z h (Write_copy w) = (refl, refl, refl)
alike_by s z h (Widen w) = (refl, refl, refl)
alike_by s z h e = (refl, refl, refl)

module _ (l : Sizes) (m next : ℕ → ℕ) (s : Space) (n : Notices) (rows : Rows l s.state s.len s.ends s.region) (says : Says l m s n) (spare : IsSpare l m s) where
  -- ---- the word of a call's step

  header_beside : (a : ℕ) → IsLive (s.state a) → IsBeside l s a
  header_beside a live = subst (IsBeside l s) (omega arith) (beside_object l s rows a 0 (live_there (s.state a) live) (omega arith))

  place_beside : (z : Spot) → IsLive (s.state z.at) → z ≡ spots.spot_of z.birth z.at z.field → z.field < s.len z.at → IsBeside l s z.place
  place_beside z live e lt = subst (IsBeside l s) (let y = place_is l m s n rows says z live e lt in omega (arith, y)) (beside_object l s rows z.at (1 + z.field) (live_there (s.state z.at) live) (omega (arith, lt)))

  copy_beside : (z : Spot) (to : ℕ) → (to ≡ s.to z.at) × IsWritten (s.state to) × (s.len to ≡ s.len z.at) → z.field < s.len z.at → IsBeside l s (place_in to z)
  copy_beside z to c lt = subst (IsBeside l s) (omega arith) (beside_object l s rows to (1 + z.field) (written_there (s.state to) c.1) (let e = c.2 in omega (arith, lt, e)))

  wide_beside : (z : Spot) (w i : ℕ) → (w ≡ s.wide z.at) × (w ≢ 0) → i ≤ s.len z.at → IsBeside l s (w + i)
  wide_beside z w i c le = subst (λ a. IsBeside l s (a + i)) (sym c.0) (beside_wide l s rows z.at i (λ e. c.1 (c.0 ∙ e)) le)

  status_beside : (z : Spot) (w : ℕ) → (w ≡ s.wide z.at) × (w ≢ 0) → z.field < s.len z.at → IsBeside l s (place_in w z)
  status_beside z w c lt = subst (IsBeside l s) (omega arith) (wide_beside z w (1 + z.field) c (omega (arith, lt)))

  follow_beside : (f : FollowMachine) → OnHand (Holds s) (word_followed f) → IsBeside l s (place_of (follows.asks_of f))
  follow_beside (follow.Header birth a) h = header_beside a h.1
  follow_beside (follow.Ended end) h = inl (omega arith)

  step_beside : (k : Known) → ((z : Spot) → at_field k ≡ Some z → IsAtWord s k) → OnHand (Holds s) (hand_of k) → IsBeside l s (place_of (step_of k))
  step_beside (Checks z t cycle) at hand = inl (omega arith)
  step_beside (Loads_header z t) at hand = header_beside z.at (at z refl).live
  step_beside (Keeps z t tagged) at hand = header_beside z.at (at z refl).live
  step_beside (Loads z t) at hand = let o = at z refl in place_beside z o.live o.place (o.inside refl)
  step_beside (Stores z word) at hand = let o = at z refl in place_beside z o.live o.place (o.inside refl)
  step_beside (Swaps z t x i) at hand = let o = at z refl in place_beside z o.live o.place (o.inside refl)
  step_beside (Loads_again z t x i) at hand = header_beside z.at (at z refl).live
  step_beside (Loads_wide z t w) at hand = let o = at z refl in status_beside z w (o.wide w refl) (o.inside refl)
  step_beside (Swaps_wide z t w x i) at hand = let o = at z refl in status_beside z w (o.wide w refl) (o.inside refl)
  step_beside (Loads_late z t w) at hand = let o = at z refl in place_beside z o.live o.place (o.inside refl)
  step_beside (Loads_address z t w) at hand = let o = at z refl in subst (IsBeside l s) (omega arith) (wide_beside z w 0 (o.wide w refl) (omega arith))
  step_beside (Loads_copy z t to) at hand = let o = at z refl in copy_beside z to (o.copy to refl) (o.inside refl)
  step_beside (Stores_copy z word to) at hand = let o = at z refl in copy_beside z to (o.copy to refl) (o.inside refl)
  step_beside (Swaps_copy z t to x i) at hand = let o = at z refl in copy_beside z to (o.copy to refl) (o.inside refl)
  step_beside (Follows z t f) at hand = follow_beside f hand
  step_beside (Over z t end) at hand = inl (omega arith)

  pub spare_after : (c : Cycle) (side : Side) (k : Known) → ((z : Spot) → at_field k ≡ Some z → IsAtWord s k) → OnHand (Holds s) (hand_of k) → Put m next (place_of (step_of k)) (put_by (step_of k) (m (place_of (step_of k)))) → IsSpare l next (space_after c s side k)
  spare_after c side k at hand put = spare_put l m next s (space_after c s side k) (place_of (step_of k)) (put_by (step_of k) (m (place_of (step_of k)))) spare put (step_beside k at hand)
      (unused_alike l s rows (space_after c s side k) (alike_by s (spot_of k) (history_after c s side k) (event k (found_in c s k))))

  -- ---- a new object, where there was none with a wide object

  pub spare_made : (k len birth : ℕ) (colour : Colour) (call : Call) → CanAppend l s k len birth → s.wide (s.ends k) ≡ 0 → Put m next (s.ends k) (head_word Plain colour len birth) → IsSpare l next (append s k len birth colour call)
  spare_made k len birth colour call can none put = spare_put l m next s (append s k len birth colour call) (s.ends k) (head_word Plain colour len birth) spare put (inl (let z = region_ends l k can.region in let y = can.room in omega (arith, z, y))) less where
    less : (x : ℕ) → IsUnused (append s k len birth colour call) x → IsUnused s x
    less x free a h =
        let other : a ≢ s.ends k = λ e. h (ap s.wide e ∙ none) in
        let size : (append s k len birth colour call).len a ≡ s.len a = set_else s.len (s.ends k) a len other in
        let where_is : (append s k len birth colour call).wide a ≡ s.wide a = set_else s.wide (s.ends k) a 0 other in
        elim (free a (λ e. h (sym where_is ∙ e))) [ inl q ↦ inl (omega (arith, q, where_is)) | inr q ↦ inr (omega (arith, q, where_is, size)) ]
