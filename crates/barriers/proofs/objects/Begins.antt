-- A call begins, by a link that holds.
use Rattle.std.proofs.Common.{◌≡◌, ◌≢◌, ℕ, sym, ap, ◌∙◌, true, false, Option, Some, None, List}
use Rattle.object_headers.specs.declared.header.Header.{Header}
use Rattle.heap_history.specs.declared.call.Call.{Call}
use Rattle.barriers.specs.declared.spot.Spot.{Spot}
use Rattle.barriers.specs.declared.ends.TryRefusal.TheVariants as refusal
use Rattle.barriers.specs.Spots as spots
use Rattle.barriers.specs.Stances.{Retired}
use Rattle.barriers.specs.Spaces.{Space, Holds, here}
use Rattle.barriers.specs.Cycles.{Cycle, Side}
use Rattle.barriers.specs.Knowns.{Task, Known, Checks, Loads_header, Keeps, Follows, Over, Refused, Ending, at_field, has_field, head_of, word_in}
use Rattle.barriers.specs.Protocols.{Protocol, Answered, OnHand, has_made}
use Rattle.barriers.specs.ProtocolLaws.{ProtocolLaws}
use Rattle.barriers.specs.PlainCallLaws.{hand_at}
use Rattle.barriers.specs.Objects.{Counts, IsSide, IsCall}

-- before it has found that the object has the field, a call has found out nothing
bare_answered : (seen : List Call) (k : Known) (z : Spot) → at_field k ≡ Some z → has_field k ≡ false → Answered seen k
bare_answered seen (Checks s t cycle) z at bare = tt
bare_answered seen (Loads_header s t) z at bare = tt
bare_answered seen (Follows s t m) z at bare = absurd (let gone : None ≡ Some z = at in cc)
bare_answered seen (Over s t end) z at bare = absurd (let gone : None ≡ Some z = at in cc)
bare_answered seen _ z at bare = absurd cc

bare_head : (k : Known) (h : Header) → has_field k ≡ false → head_of k ≡ Some h → ⊥
bare_head (Keeps s t tagged) h bare is = cc
bare_head _ h bare is = let gone : None ≡ Some h = is in cc

at_unmade : (k : Known) (z : Spot) → at_field k ≡ Some z → has_made k ≡ true → ⊥
at_unmade (Over s t end) z at made = let gone : None ≡ Some z = at in cc
at_unmade _ z at made = cc

at_not_over : (k : Known) (z y : Spot) (t : Task) (end : Ending) → at_field k ≡ Some z → k ≡ Over y t end → ⊥
at_not_over k z y t end at is = let gone : None ≡ Some z = sym (ap at_field is) ∙ at in cc

same_spot : (y z : Spot) (o : Option Spot) → o ≡ Some z → o ≡ Some y → y ≡ z
same_spot y z o at is = let same : Some y ≡ Some z = sym is ∙ at in cc

-- what a call begins by
pub record MayBegin (c : Cycle) (s : Space) (side : Side) (z : Spot) (t : Task) : Type 0 where
  pub runs : side.acked ≢ Retired
  pub holds : Holds s z.birth z.at
  pub place : z ≡ spots.spot_of z.birth z.at z.field
  pub counts : Counts c (s.state z.at)
  pub hand : OnHand (Holds s) (word_in t)

pub call_begins : (P : Protocol) (L : ProtocolLaws P) (c : Cycle) (s : Space) (side : Side) (cycle : ℕ) (z : Spot) (t : Task) → IsSide P c s side → MayBegin c s side z t → IsCall P c s side (P.begins side.acked cycle side.own z t)
call_begins P L c s side cycle z t o may =
    let k = P.begins side.acked cycle side.own z t in
    let at : at_field k ≡ Some z = L.calls.begin_at side.acked cycle side.own z t in
    let bare : has_field k ≡ false = L.calls.begin_bare side.acked cycle side.own z t in
    record {
      runs = may.runs;
      holds = λ y is. rw (same_spot y z (at_field k) at is) may.holds;
      place = λ y is. rw (same_spot y z (at_field k) at is) may.place;
      inside = λ y is has. absurd (let no_field : true ≡ false = sym has ∙ bare in cc);
      counts = λ y is. rw (same_spot y z (at_field k) at is) may.counts;
      hand = rw ((hand_at k z at).0, L.calls.begin_task side.acked cycle side.own z t) may.hand;
      head = λ h is. absurd (bare_head k h bare is);
      own = λ y is. rw (same_spot y z (at_field k) at is) (L.calls.begin c side (here s z.at z.field) cycle z t may.holds.1 (o.fits may.runs));
      answered = bare_answered side.seen k z at bare;
      refused = λ y task len is. absurd (at_not_over k z y task (Refused (refusal.NoField len)) at is);
      made = λ is. absurd (at_unmade k z at is);
    }
