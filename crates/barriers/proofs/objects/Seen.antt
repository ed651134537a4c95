-- What a turn that all others see leaves: links, calls, and what every field is like.
use Rattle.std.proofs.Common.{◌≡◌, ℕ, ◌<◌, inl, inr, refl, ap, sym, ◌∙◌, Bool, true, false, Some, None}
use Rattle.object_headers.specs.declared.header.Header.{Header}
use Rattle.heap_history.specs.NewestFirst.{value_at, len_at}
use Rattle.heap_history.specs.NewestFirstLaws.{Before-refl}
use Rattle.heap_history.specs.ValueLaws.{len_at-before}
use Rattle.barriers.specs.declared.spot.Spot.{Spot}
use Rattle.barriers.specs.States.{IsHome, IsLive}
use Rattle.barriers.specs.Spaces.{Space, Holds, here, place_word, copy_word}
use Rattle.barriers.specs.Values.{value_of}
use Rattle.barriers.specs.Cycles.{Cycle, Side}
use Rattle.barriers.specs.Knowns.{Known, Keeps, at_field, has_field, head_of, hand_of, spot_of}
use Rattle.barriers.specs.Events.{Quiet, after_copy}
use Rattle.barriers.specs.Protocols.{Protocol}
use Rattle.barriers.specs.ProtocolLaws.{ProtocolLaws}
use Rattle.barriers.specs.Objects.{AreObjects, IsSide, IsCall, tagged_header}
use Rattle.barriers.specs.CallTurns.{Seen}
use Rattle.barriers.proofs.objects.Base.{hand_goes, live_cases, plain_place, forward_place}

-- a call that exchanges a header is at its field
pub head_at : (k : Known) (h : Header) → head_of k ≡ Some h → at_field k ≡ Some (spot_of k)
head_at (Keeps s t tagged) h is = refl
head_at _ h is = absurd (let gone : None ≡ Some h = is in cc)

module _ (P : Protocol) (L : ProtocolLaws P) (c : Cycle) (s : Space) where
  -- the value of a field, by any live address
  pub value_here : AreObjects P c s → (a f : ℕ) → IsLive (s.state a) → f < s.len a → value_of (place_word c.mark (here s a f) (copy_word s a f)) ≡ value_at s.history (s.birth a) f
  value_here w a f i lt = elim (live_cases (s.state a) i) [
    | inl h ↦ ap value_of (sym (w.placed a f h lt)) ∙ w.agrees a f h lt
    | inr g ↦ (
        let k = w.copied a g in
        let home : IsHome (s.state (s.to a)) = rw k.state tt in
        let lt2 : f < s.len (s.to a) = rw k.len lt in
        ap value_of (forward_place c.mark (here s a f) (copy_word s a f) g ∙ sym (plain_place c.mark (here s (s.to a) f) (copy_word s (s.to a) f) k.state) ∙ sym (w.placed (s.to a) f home lt2))
        ∙ w.agrees (s.to a) f home lt2 ∙ ap (λ b. value_at s.history b f) k.birth)
  ]

  -- a birth number has one home
  pub one_home : AreObjects P c s → (a b : ℕ) → IsHome (s.state a) → IsHome (s.state b) → s.birth a ≡ s.birth b → a ≡ b
  one_home w a b i k e = sym (w.home a i) ∙ (ap s.home e ∙ w.home b k)

  -- a turn that changes nothing of the objects
  pub same_seen : Seen P c s s
  same_seen = record {
    live = λ a i. i;
    counts = λ a i. i;
    birth = λ a i. refl;
    len = λ a i. refl;
    colour = λ a i. refl;
    sees = λ a f i lt. record { event = Quiet; here_is = refl; copy_is = inl refl; makes = L.shapes.makes_quiet; may = tt; dated = tt; place = inl tt };
    grows = λ h i. i;
  }

  module _ (t : Space) (w : AreObjects P c s) (g : Seen P c s t) where
    pub holds_goes : (b a : ℕ) → Holds s b a → Holds t b a
    holds_goes b a h = (g.birth a h.1 ∙ h.0, g.live a h.1)

    pub lens_go : (b len : ℕ) → len_at s.history b ≡ Some len → len_at t.history b ≡ Some len
    lens_go b len had = len_at-before s.history t.history b len (g.grows s.history (Before-refl s.history)) had

    -- what others have seen, and their calls
    pub side_stays : (side : Side) → IsSide P c s side → IsSide P c t side
    side_stays side k = record { fits = k.fits; past = g.grows side.seen k.past; number = k.number }

    pub header_stays : (a : ℕ) → IsLive (s.state a) → tagged_header t a ≡ tagged_header s a
    header_stays a i = rw (g.colour a i, g.len a i, g.birth a i) refl

    own_stays : (side : Side) (k : Known) (z : Spot) (bare : Bool) → has_field k ≡ bare → at_field k ≡ Some z → IsSide P c s side → IsCall P c s side k → P.Own c side (here t z.at z.field) k
    own_stays side k z false has at o q = L.calls.bare c side (here s z.at z.field) (here t z.at z.field) k has (q.own z at)
    own_stays side k z true has at o q =
        let live : IsLive (s.state z.at) = (q.holds z at).1 in
        let lt : z.field < s.len z.at = q.inside z at has in
        let sees = g.sees z.at z.field live lt in
        rw sees.here_is (L.calls.stays c side s.history (s.birth z.at) z.field (here s z.at z.field) (copy_word s z.at z.field) sees.event k
        sees.makes sees.may sees.dated o.past (w.target z.at z.field live) (o.fits q.runs) (w.shape z.at z.field live) (q.own z at))

    pub call_stays : (side : Side) (k : Known) → IsSide P c s side → IsCall P c s side k → IsCall P c t side k
    call_stays side k o q = record {
      runs = q.runs;
      holds = λ z at. holds_goes z.birth z.at (q.holds z at);
      place = q.place;
      inside = λ z at has. rw (g.len z.at (q.holds z at).1) (q.inside z at has);
      counts = λ z at. g.counts z.at (q.counts z at);
      hand = hand_goes (Holds s) (Holds t) holds_goes (hand_of k) q.hand;
      head = λ h is. q.head h is ∙ sym (header_stays (spot_of k).at (q.holds (spot_of k) (head_at k h is)).1);
      own = λ z at. own_stays side k z (has_field k) refl at o q;
      answered = q.answered;
      refused = λ z task len is. let short = q.refused z task len is in (lens_go z.birth len short.0, short.1);
      made = q.made;
    }

    pub stays : (other : Side) (j : Known) → IsSide P c s other → IsCall P c s other j → IsSide P c t other × IsCall P c t other j
    stays other j o q = (side_stays other o, call_stays other j o q)

    -- what every field is like
    shape_moved : (a f : ℕ) (i : IsLive (s.state a)) (lt : f < s.len a) → P.Shape c (s.birth a) f (here t a f) (after_copy (g.sees a f i lt).event (copy_word s a f))
    shape_moved a f i lt = let q = g.sees a f i lt in
        rw q.here_is (L.shapes.shape c (s.birth a) f s.history (here s a f) (copy_word s a f) q.event q.makes q.may q.dated q.place (value_here w a f i lt) (w.target a f i) (w.shape a f i lt))

    pub shape_stays : (a f : ℕ) → IsLive (s.state a) → f < s.len a → P.Shape c (t.birth a) f (here t a f) (copy_word t a f)
    shape_stays a f i lt = let q = g.sees a f i lt in rw (g.birth a i) (elim q.copy_is [
      | inl e ↦ rw e (shape_moved a f i lt)
      | inr z ↦ L.shapes.apart c (s.birth a) f (here t a f) (after_copy q.event (copy_word s a f)) (copy_word t a f) z (shape_moved a f i lt)
    ])
