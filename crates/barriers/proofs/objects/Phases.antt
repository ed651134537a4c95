-- A step of the collector that changes no object.
use Rattle.std.proofs.Common.{◌≡◌, ◌≢◌, ℕ, ◌<◌, refl, arith, sym, ◌∙◌, Bool, true, false, Option, Some}
use Rattle.heap_words.specs.declared.field_word.FieldWord.{FieldWord}
use Rattle.heap_words.specs.declared.field_word.FieldWord.TheVariants.{Num}
use Rattle.barriers.specs.declared.spot.Spot.{Spot}
use Rattle.barriers.specs.States.{Plain, IsLive}
use Rattle.barriers.specs.Stances.{Retired}
use Rattle.barriers.specs.Spaces.{Space, Here, here, place_word, copy_word}
use Rattle.barriers.specs.Cycles.{Cycle, Side, IsMoving, Phasing, Announce, Reach, Draw, Clears, Lates, phased, MayTurn, MayGo, MayPhase}
use Rattle.barriers.specs.Knowns.{Known, at_field, has_field}
use Rattle.barriers.specs.Protocols.{Protocol, OnHand}
use Rattle.barriers.specs.ProtocolLaws.{ProtocolLaws}
use Rattle.barriers.specs.Objects.{Counts, AreObjects, IsSide, IsCall}
use Rattle.barriers.proofs.objects.Base.{home_live}

unmoved_place : (m k : Option FieldWord) (x : Here) (d : FieldWord) → (IsMoving x.state → ⊥) → place_word m x d ≡ place_word k x d
unmoved_place m k x d n = grind (arith, n)

-- what the objects ask of such a step
pub record IsPhasing (P : Protocol) (c : Cycle) (s : Space) (e : Phasing) : Type 0 where
  pub kind : P.Phases e
  pub go : MayGo c e
  pub fields : (a f : ℕ) → IsLive (s.state a) → f < s.len a → MayPhase c (s.state a) (place_word c.mark (here s a f) (copy_word s a f)) e
  pub number : OnHand (λ b a. ⊥) (phased e c).mark
  -- no word begins to count
  pub counts : (a : ℕ) → IsLive (s.state a) → Counts (phased e c) (s.state a) → Counts c (s.state a)

-- what a running pass asks of it
pub record MayPass (P : Protocol) (c : Cycle) (side : Side) (e : Phasing) : Type 0 where
  pub turn : MayTurn c side e
  pub fits : P.Fits (phased e c) side

module _ (P : Protocol) (L : ProtocolLaws P) (c : Cycle) (s : Space) (w : AreObjects P c s) (e : Phasing) (is : IsPhasing P c s e) where
  phase_place : (e : Phasing) (x : Here) (d : FieldWord) → MayPhase c x.state (place_word c.mark x d) e → place_word (phased e c).mark x d ≡ place_word c.mark x d
  phase_place (Announce p) x d m = refl
  phase_place (Reach t) x d m = refl
  phase_place (Draw k) x d m = unmoved_place (Some k) c.mark x d m.0
  phase_place (Clears b) x d m = refl
  phase_place (Lates b) x d m = refl

  pub phase_objects : AreObjects P (phased e c) s
  phase_objects = record {
    placed = λ a f i lt. w.placed a f i lt ∙ sym (phase_place e (here s a f) (copy_word s a f) (is.fields a f (home_live (s.state a) i) lt));
    agrees = w.agrees;
    home = w.home;
    target = w.target;
    copied = w.copied;
    under = w.under;
    fields = w.fields;
    words = λ a f i r lt. w.words a f i (is.counts a i r) lt;
    statuses = λ a f i r lt. w.statuses a f i (is.counts a i r) lt;
    shape = λ a f i lt. L.turns.shape c (s.birth a) f (here s a f) (copy_word s a f) e is.kind (is.fields a f i lt) (w.shape a f i lt);
    seals = w.seals;
    unsealed = w.unsealed;
    number = is.number;
    right = L.turns.right c e is.kind is.go w.right;
  }

  pub phase_side : (side : Side) → IsSide P c s side → (side.acked ≢ Retired → MayPass P c side e) → IsSide P (phased e c) s side
  phase_side side k may = record { fits = λ runs. (may runs).fits; past = k.past; number = k.number }

  -- an object at rest with no fields, at which every such step may be taken
  abbrev nowhere : Here → Here
  nowhere x = record x { state = Plain; len = 0; word = Num 0 }

  nowhere_may : (e : Phasing) (x : Here) (d : FieldWord) → MayGo c e → MayPhase c (nowhere x).state (place_word c.mark (nowhere x) d) e
  nowhere_may (Announce p) x d go = go
  nowhere_may (Reach t) x d go = λ moving. moving
  nowhere_may (Draw m) x d go = ((λ moving. moving), go)
  nowhere_may (Clears true) x d go = go
  nowhere_may (Clears false) x d go = λ moving. moving
  nowhere_may (Lates b) x d go = tt

  phase_own : (side : Side) (k : Known) (z : Spot) (bare : Bool) → has_field k ≡ bare → at_field k ≡ Some z → MayPass P c side e → IsCall P c s side k → P.Own (phased e c) side (here s z.at z.field) k
  phase_own side k z true has at may q =
      let live : IsLive (s.state z.at) = (q.holds z at).1 in
      let lt : z.field < s.len z.at = q.inside z at has in
      L.turns.own c side (s.birth z.at) z.field (here s z.at z.field) (copy_word s z.at z.field) k e may.turn (is.fields z.at z.field live lt) may.fits (w.shape z.at z.field live) (q.own z at)
  phase_own side k z false has at may q =
      let x = here s z.at z.field in
      let there = L.calls.bare c side x (nowhere x) k has (q.own z at) in
      L.calls.bare (phased e c) side (nowhere x) x k has (L.turns.own c side 0 0 (nowhere x) (Num 0) k e may.turn (nowhere_may e x (Num 0) is.go) may.fits (λ lt. absurd (omega (arith, lt))) there)

  pub phase_call : (side : Side) (k : Known) → IsCall P c s side k → (side.acked ≢ Retired → MayPass P c side e) → ((z : Spot) → at_field k ≡ Some z → Counts (phased e c) (s.state z.at)) → IsCall P (phased e c) s side k
  phase_call side k q may counts = record {
    runs = q.runs;
    holds = q.holds;
    place = q.place;
    inside = q.inside;
    counts = counts;
    hand = q.hand;
    head = q.head;
    own = λ z at. phase_own side k z (has_field k) refl at (may q.runs) q;
    answered = q.answered;
    refused = q.refused;
    made = q.made;
  }
