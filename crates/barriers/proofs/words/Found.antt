-- What the step of a call finds at its word.
use Rattle.std.proofs.Common.{◌≡◌, ◌≢◌, ℕ, ◌+◌, ◌<◌, ◌≤◌, ◌^◌, Some, None, refl, arith, ap, sym, subst, ◌∙◌}
use Rattle.call_steps.specs.Steps.{place_of, IsInside}
use Rattle.heap_words.specs.Layouts.{Sizes, words_of}
use Rattle.heap_words.specs.FieldWords.{IsFieldWord, word_of}
use Rattle.object_headers.specs.declared.header.Header.{Header}
use Rattle.object_headers.specs.Headers.{IsHeader, word_of_header, header_at}
use Rattle.object_headers.specs.HeaderLaws.{header_at-word_of_header}
use Rattle.wide_objects.specs.Statuses.{IsStatus, word_of_status}
use Rattle.handshakes.specs.declared.follow.FollowMachine.{FollowMachine}
use Rattle.handshakes.specs.declared.follow.FollowMachine.TheVariants as follow
use Rattle.handshakes.specs.Follows as follows
use Rattle.handshakes.specs.Follows.{place_by}
use Rattle.barriers.specs.declared.spot.Spot.{Spot}
use Rattle.barriers.specs.Spots as spots
use Rattle.barriers.specs.States.{Absent, Tagged, Forward, IsHome, IsLive}
use Rattle.barriers.specs.Stances.{Stance, stance_at}
use Rattle.barriers.specs.Spaces.{Space, Holds, here, copy_word}
use Rattle.barriers.specs.Knowns.{Known, Checks, Loads_header, Keeps, Loads, Stores, Swaps, Loads_again, Loads_wide, Swaps_wide, Loads_late, Loads_address, Loads_copy, Stores_copy, Swaps_copy, Follows, Over, finds, at_field, spot_of, hand_of, step_of, word_followed, place_in}
use Rattle.barriers.specs.Objects.{tagged_header}
use Rattle.barriers.specs.Protocols.{OnHand}
use Rattle.barriers.specs.JobLaws.{header_state}
use Rattle.barriers.specs.Kits.{IsOf, IsHeaderWord, IsWordOf}
use Rattle.barriers.specs.Rows.{Rows}
use Rattle.barriers.specs.Says.{Notices, header_by, header_in, IsWritten, Says, IsAtWord}
use Rattle.barriers.proofs.words.Rows.{row_area}
use Rattle.barriers.proofs.words.Headers.{home_there, written_there, live_written, live_there, live_laid, header_colour, header_len, header_birth, place_of_home, place_of_forward}

module _ (l : Sizes) (m : ℕ → ℕ) (s : Space) (n : Notices) (rows : Rows l s.state s.len s.ends s.region) (says : Says l m s n) where
  -- the header at an address
  pub found_header : (a : ℕ) → s.state a ≢ Absent → header_at (m a) ≡ header_in s a
  found_header a h = ap header_at (says.objects.header a h) ∙ header_at-word_of_header (header_in s a) (says.objects.header_fits a h)

  -- the place of an object, read off the header at a link's address
  pub found_home : (a : ℕ) → IsHome (s.state a) → place_by (header_at (m a)) a ≡ a
  found_home a h = let there = home_there (s.state a) h in place_of_home (s.colour a) (s.len a) (s.birth a) (s.state a) a (m a) h (says.objects.header_fits a there) (says.objects.header a there)

  pub found_forward : (a to : ℕ) → s.state a ≡ Forward to → place_by (header_at (m a)) a ≡ to
  found_forward a to e =
      let there : s.state a ≢ Absent = λ y. cc (e, y) in
      place_of_forward (s.colour a) (s.len a) (s.birth a) to a (m a)
      (subst (λ x. IsHeader (header_by x (s.colour a) (s.len a) (s.birth a))) e (says.objects.header_fits a there))
      (says.objects.header a there ∙ ap (λ x. word_of_header (header_by x (s.colour a) (s.len a) (s.birth a))) e)

  -- the header of the object of a call, of which this is known before
  pub header_word : (a : ℕ) (before : _) (birth : ℕ) → IsLive (s.state a) → s.birth a ≡ birth → IsOf before (header_in s a) → IsHeaderWord before birth (s.state a) (s.colour a) (s.len a) (m a)
  header_word a before birth live same of = let there = live_there (s.state a) live in record {
    header = header_in s a;
    fits = says.objects.header_fits a there;
    word = says.objects.header a there;
    state = header_state (s.colour a) (s.len a) (s.birth a) (s.state a) (live_laid (s.state a) live);
    colour_is = header_colour (s.colour a) (s.len a) (s.birth a) (s.state a) there;
    len_is = header_len (s.colour a) (s.len a) (s.birth a) (s.state a) there;
    birth_is = header_birth (s.colour a) (s.len a) (s.birth a) (s.state a) there ∙ same;
    of = of;
  }

  -- the word of the field in the original
  pub place_is : (z : Spot) → IsLive (s.state z.at) → z ≡ spots.spot_of z.birth z.at z.field → z.field < s.len z.at → z.place ≡ z.at + 1 + z.field
  place_is z live e lt = ap (λ (y : Spot). y.place) e ∙ (let few = rows.short z.at (live_there (s.state z.at) live) in spots.place_of-spot_of z.birth z.at z.field (s.len z.at) lt few)

  pub original : (z : Spot) → IsLive (s.state z.at) → z ≡ spots.spot_of z.birth z.at z.field → z.field < s.len z.at → (m z.place ≡ word_of (s.word z.at z.field)) × IsFieldWord (s.word z.at z.field)
  original z live e lt = let w = live_written (s.state z.at) live in (ap m (place_is z live e lt) ∙ says.objects.word z.at z.field w lt, says.objects.word_fits z.at z.field w lt)

  -- in the copy
  pub copied : (z : Spot) (to : ℕ) → (to ≡ s.to z.at) × IsWritten (s.state to) × (s.len to ≡ s.len z.at) → z.field < s.len z.at → (m (place_in to z) ≡ word_of (copy_word s z.at z.field)) × IsFieldWord (copy_word s z.at z.field)
  copied z to c lt =
      let less : z.field < s.len to = (let e = c.2 in omega (arith, lt, e)) in
      let same : s.word to z.field ≡ copy_word s z.at z.field = ap (λ a. s.word a z.field) c.0 in
      (says.objects.word to z.field c.1 less ∙ ap word_of same, subst IsFieldWord same (says.objects.word_fits to z.field c.1 less))

  -- in the wide object
  pub widened : (z : Spot) (w : ℕ) → (w ≡ s.wide z.at) × (w ≢ 0) → z.field < s.len z.at → (m (place_in w z) ≡ word_of_status (s.status z.at z.field)) × IsStatus (s.status z.at z.field)
  widened z w c lt =
      let there : s.wide z.at ≢ 0 = λ e. c.1 (c.0 ∙ e) in
      (ap (λ a. m (a + 1 + z.field)) c.0 ∙ says.wide.status z.at z.field there lt, says.wide.status_fits z.at z.field there lt)

  pub addressed : (z : Spot) (w : ℕ) → (w ≡ s.wide z.at) × (w ≢ 0) → (m w ≡ s.address z.at) × (s.address z.at < 2 ^ 20)
  addressed z w c = let there : s.wide z.at ≢ 0 = λ e. c.1 (c.0 ∙ e) in (ap m c.0 ∙ says.wide.address z.at there, says.wide.address_fits z.at there)

  -- of the header that it found Tagged
  of_tagged : (a : ℕ) (tagged : Header) → IsLive (s.state a) → tagged ≡ tagged_header s a → IsOf (Some tagged) (header_in s a)
  of_tagged a tagged live e =
      let there = live_there (s.state a) live in (
        header_colour (s.colour a) (s.len a) (s.birth a) (s.state a) there ∙ sym (ap (λ (h : Header). h.colour) e),
        header_birth (s.colour a) (s.len a) (s.birth a) (s.state a) there ∙ sym (ap (λ (h : Header). h.birth) e),
        header_len (s.colour a) (s.len a) (s.birth a) (s.state a) there ∙ sym (ap (λ (h : Header). h.len) e),
      )

  -- the word at a call's step is that of what it finds
  pub found_word : (p : Stance) (k : Known) → stance_at n.phase ≡ p → ((z : Spot) → at_field k ≡ Some z → IsAtWord s k)
      → IsWordOf k (finds p (here s (spot_of k).at (spot_of k).field) (copy_word s (spot_of k).at (spot_of k).field) k) (m (place_of (step_of k)))
  found_word p (Checks z t cycle) e at = ap stance_at says.notices.phase ∙ e
  found_word p (Loads_header z t) e at = let o = at z refl in header_word z.at None z.birth o.live o.birth tt
  found_word p (Keeps z t tagged) e at = let o = at z refl in header_word z.at (Some tagged) z.birth o.live o.birth (of_tagged z.at tagged o.live (o.head tagged refl))
  found_word p (Loads z t) e at = let o = at z refl in original z o.live o.place (o.inside refl)
  found_word p (Stores z word) e at = tt
  found_word p (Swaps z t x i) e at = let o = at z refl in original z o.live o.place (o.inside refl)
  found_word p (Loads_again z t x i) e at = let o = at z refl in header_word z.at None z.birth o.live o.birth tt
  found_word p (Loads_wide z t w) e at = let o = at z refl in widened z w (o.wide w refl) (o.inside refl)
  found_word p (Swaps_wide z t w x i) e at = let o = at z refl in widened z w (o.wide w refl) (o.inside refl)
  found_word p (Loads_late z t w) e at = let o = at z refl in original z o.live o.place (o.inside refl)
  found_word p (Loads_address z t w) e at = let o = at z refl in addressed z w (o.wide w refl)
  found_word p (Loads_copy z t to) e at = let o = at z refl in copied z to (o.copy to refl) (o.inside refl)
  found_word p (Stores_copy z word to) e at = tt
  found_word p (Swaps_copy z t to x i) e at = let o = at z refl in copied z to (o.copy to refl) (o.inside refl)
  found_word p (Follows z t f) e at = tt
  found_word p (Over z t end) e at = tt

  -- ---- the word is there

  pub header_inside : (a : ℕ) → IsLive (s.state a) → a < words_of l
  header_inside a live = let z = (row_area l s.state s.len s.ends s.region rows a 0 (live_there (s.state a) live) (omega arith)).1 in omega (arith, z)

  pub word_inside : (a f : ℕ) → IsWritten (s.state a) → f < s.len a → a + 1 + f < words_of l
  word_inside a f written lt = let z = (row_area l s.state s.len s.ends s.region rows a (1 + f) (written_there (s.state a) written) (omega (arith, lt))).1 in omega (arith, z)

  place_inside : (z : Spot) → IsLive (s.state z.at) → z ≡ spots.spot_of z.birth z.at z.field → z.field < s.len z.at → z.place < words_of l
  place_inside z live e lt = let y = place_is z live e lt in let w = word_inside z.at z.field (live_written (s.state z.at) live) lt in omega (arith, y, w)

  copy_inside : (z : Spot) (to : ℕ) → (to ≡ s.to z.at) × IsWritten (s.state to) × (s.len to ≡ s.len z.at) → z.field < s.len z.at → place_in to z < words_of l
  copy_inside z to c lt = word_inside to z.field c.1 (let e = c.2 in omega (arith, lt, e))

  wide_inside : (z : Spot) (w i : ℕ) → (w ≡ s.wide z.at) × (w ≢ 0) → i ≤ s.len z.at → w + i < words_of l
  wide_inside z w i c le = let e = c.0 in let y = (says.wide.inside z.at (λ u. c.1 (e ∙ u))).1 in omega (arith, e, y, le)

  -- a link that holds, which is followed
  pub follow_inside : (f : FollowMachine) → OnHand (Holds s) (word_followed f) → IsInside (words_of l) (follows.asks_of f)
  follow_inside (follow.Header birth a) h = header_inside a h.1
  follow_inside (follow.Ended end) h = tt

  wide_word_inside : (z : Spot) (w : ℕ) → (w ≡ s.wide z.at) × (w ≢ 0) → z.field < s.len z.at → place_in w z < words_of l
  wide_word_inside z w c lt = let q = wide_inside z w (1 + z.field) c (omega (arith, lt)) in omega (arith, q)

  pub step_inside : (k : Known) → ((z : Spot) → at_field k ≡ Some z → IsAtWord s k) → OnHand (Holds s) (hand_of k) → IsInside (words_of l) (step_of k)
  step_inside (Checks z t cycle) at hand = omega arith
  step_inside (Loads_header z t) at hand = let o = at z refl in header_inside z.at o.live
  step_inside (Keeps z t tagged) at hand = let o = at z refl in header_inside z.at o.live
  step_inside (Loads z t) at hand = let o = at z refl in place_inside z o.live o.place (o.inside refl)
  step_inside (Stores z word) at hand = let o = at z refl in place_inside z o.live o.place (o.inside refl)
  step_inside (Swaps z t x i) at hand = let o = at z refl in place_inside z o.live o.place (o.inside refl)
  step_inside (Loads_again z t x i) at hand = let o = at z refl in header_inside z.at o.live
  step_inside (Loads_wide z t w) at hand = let o = at z refl in wide_word_inside z w (o.wide w refl) (o.inside refl)
  step_inside (Swaps_wide z t w x i) at hand = let o = at z refl in wide_word_inside z w (o.wide w refl) (o.inside refl)
  step_inside (Loads_late z t w) at hand = let o = at z refl in place_inside z o.live o.place (o.inside refl)
  step_inside (Loads_address z t w) at hand = let o = at z refl in let q = wide_inside z w 0 (o.wide w refl) (omega arith) in omega (arith, q)
  step_inside (Loads_copy z t to) at hand = let o = at z refl in copy_inside z to (o.copy to refl) (o.inside refl)
  step_inside (Stores_copy z word to) at hand = let o = at z refl in copy_inside z to (o.copy to refl) (o.inside refl)
  step_inside (Swaps_copy z t to x i) at hand = let o = at z refl in copy_inside z to (o.copy to refl) (o.inside refl)
  step_inside (Follows z t f) at hand = follow_inside f hand
  step_inside (Over z t end) at hand = tt
