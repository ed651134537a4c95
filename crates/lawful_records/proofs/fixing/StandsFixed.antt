-- What the collector has fixed stays so under the turn of a pass.
use Rattle.std.proofs.Common.{inl, inr, ◌≡◌, ◌≢◌, ℕ, ◌<◌, ◌≤◌, Some, None, refl, sym, ap, ◌∙◌, subst, arith}
use Rattle.heap_words.specs.Layouts.{Sizes}
use Rattle.heap_words.specs.declared.field_word.FieldWord.{FieldWord}
use Rattle.handshakes.specs.PhaseWords.{retired_word}
use Rattle.reference_fix.specs.declared.field_fix.FixMachine.{FixMachine}
use Rattle.reference_fix.specs.declared.field_fix.FixMachine.TheVariants as fix
use Rattle.reference_fix.specs.declared.fix_walk.FixWalkMachine.{FixWalkMachine}
use Rattle.reference_fix.specs.declared.fix_walk.FixWalkMachine.TheVariants as walk
use Rattle.reference_fix.specs.declared.root_fix.RootFixMachine.{RootFixMachine}
use Rattle.reference_fix.specs.declared.root_fix.RootFixMachine.TheVariants as root
use Rattle.reference_fix.specs.FixWalks.{area_of, address}
use Rattle.reference_fix.specs.FixWalkRuns.{Walks}
use Rattle.space_reclaim.specs.Plans.{Planned}
use Rattle.barriers.specs.Kits.{Kit}
use Rattle.barriers.specs.Protocols.{OnHand}
use Rattle.barriers.specs.Says.{Notices}
use Rattle.barriers.specs.Spaces.{Space, Holds}
use Rattle.barriers.specs.Stances.{Fix as Fix_stance, stance_at}
use Rattle.barriers.specs.States.{IsHome, On}
use Rattle.barriers.specs.declared.pass.PassMachine.{PassMachine}
use Rattle.barriers.specs.declared.pass.PassMachine.TheVariants as machine
use Rattle.barriers.proofs.objects.Base.{home_live}
use Rattle.lawful_records.specs.declared.collector.CollectorMachine.{CollectorMachine}
use Rattle.lawful_records.specs.declared.collector.CollectorMachine.TheVariants as collector
use Rattle.lawful_records.specs.declared.records.PassKnown.{PassKnown}
use Rattle.lawful_records.specs.declared.stage.Stage.{Stage}
use Rattle.lawful_records.specs.Cycling.{announced_by, cycle_of}
use Rattle.lawful_records.specs.Fixing.{Names, IsFixedBy, IsFixedMachine, IsFixedPass, IsFixedTo, IsRootHand, HasRooted, HoldsOrNames, IsFieldHand, IsAtHome, HasWalked, FixStands}
use Rattle.lawful_records.specs.Frames.{writes_in, KeepsFields, LeavesSearch, Beside}
use Rattle.lawful_records.specs.Handshakes.{IsCollector, IsWalk}
use Rattle.lawful_records.specs.LawfulRecords.{IsPassRecord}
use Rattle.lawful_records.specs.Records.{number_of, acked_of, mark_of, side_of, known_of}
use Rattle.lawful_records.proofs.collecting.Shaken.{answered_all}
use Rattle.lawful_records.proofs.collecting.Stages.{stance_by, stance_word, stage_said}
use Rattle.lawful_records.proofs.fixing.CallFixes.{yet_settled}
use Rattle.lawful_records.proofs.fixing.Frames.{NamesOn, word_names}
use Rattle.lawful_records.proofs.frames.Machines.{on_stays}

fixed_on : (s t : Space) → NamesOn s t → (held : FieldWord) (put : ℕ) → IsFixedTo s held put → IsFixedTo t held put
fixed_on s t on held put is = record { fits = is.fits; word = is.word; value = is.value; names = word_names s t on _ is.names }

module _ {R W E M : Type 0} (kit : Kit R W E M) (l : Sizes) (plan : Planned) (cycles : ℕ) (few : cycles ≤ 64) (k : CollectorMachine M) (s t : Space) (n o : Notices) (p : PassKnown R W E)
    (own : IsPassRecord kit l (announced_by k) (cycle_of k) s n p) (running : acked_of p ≢ retired_word) (fixed : IsFixedPass kit k s n p) (on : NamesOn s t)
    (beside : Beside kit l (cycle_of k) (number_of p) s t n o) (search : LeavesSearch kit.kind (cycle_of k) (side_of kit p) s t) (fields : KeepsFields (writes_in (known_of kit p.pass.machine)) s t) where
  -- ---- the word that the pass puts

  put_by : (m : PassMachine R W E) (w : FieldWord) → IsFixedMachine kit k s n p m → writes_in (known_of kit m) ≡ Some w → IsFixedBy k (acked_of p) → On (Names s) w
  put_by (machine.Read m) w is e by = subst (OnHand (Names s)) (yet_settled (kit.reads m) w e) (is.1 by).hand
  put_by (machine.Write m) w is e by = subst (OnHand (Names s)) (yet_settled (kit.writes m) w e) (is.1 by).hand
  put_by (machine.Exchange m) w is e by = subst (OnHand (Names s)) (yet_settled (kit.exchanges m) w e) (is.1 by).hand
  put_by m w is e by = absurd (let gone : None ≡ Some w = e in cc gone)

  -- a field that led to a home does so still
  field_then : IsFixedBy k (acked_of p) → (a f : ℕ) → IsHome (t.state a) → f < t.len a → (IsHome (s.state a) → f < s.len a → On (Names s) (s.field a f)) → On (Names t) (t.field a f)
  field_then by a f home less old = elim (fields a f home less) [
    | inl same ↦ subst (On (Names t)) (sym same.2) (word_names s t on (s.field a f) (old same.0 same.1))
    | inr new ↦ elim new [
      | inl zero ↦ rw zero tt
      | inr put ↦ word_names s t on (t.field a f) (put_by p.pass.machine (t.field a f) fixed.machine put by)
    ]
  ]

  -- ---- root words

  module _ (pass reg : ℕ) (m : RootFixMachine) (stands : HasRooted s n pass reg m) where
    other : pass ≢ number_of p
    other same = running (sym own.answering.acked ∙ (ap n.ack (sym same) ∙ stands.retired))

    root_is : (i : ℕ) → o.root pass i ≡ n.root pass i
    root_is i = beside.roots pass i other

    hand_then : (m : RootFixMachine) → IsRootHand s (n.root pass reg) m → IsRootHand t (o.root pass reg) m
    hand_then (root.Root at) is = tt
    hand_then (root.Header at word to) is = is ∙ sym (root_is reg)
    hand_then (root.Store at put) is = subst (λ (w : FieldWord). IsFixedTo t w put) (sym (root_is reg)) (fixed_on s t on (n.root pass reg) put is)
    hand_then root.Ended is = tt

    rooted_then : HasRooted t o pass reg m
    rooted_then = record {
      retired = beside.acks pass other ∙ stands.retired;
      below = λ i less. subst (On (Names t)) (sym (root_is i)) (word_names s t on (n.root pass i) (stands.below i less));
      hand = hand_then m stands.hand;
    }

  -- ---- the walk

  module _ (st : Stage) (m : FixWalkMachine) (same : k ≡ collector.Walk st m) (walks : IsWalk l kit.kind cycles st m) where
    at_fix : stance_at (acked_of p) ≡ Fix_stance
    at_fix =
        let passes : st.layout.passes ≡ l.passes = ap (λ (x : Sizes). x.passes) walks.stage.layout in
        let its : IsPassRecord kit l (announced_by {M = M} (collector.Walk st m)) (cycle_of {M = M} (collector.Walk st m)) s n p = subst (λ (x : CollectorMachine M). IsPassRecord kit l (announced_by x) (cycle_of x) s n p) same own in
        let word = (answered_all l (announced_by {M = M} (collector.Walk st m)) (number_of p) (acked_of p) (mark_of p) own.number (omega (arith, passes)) its.answering.marked running).0 in
        ap stance_at word ∙ (stance_word st (stage_said l kit.kind cycles few st walks.stage) ∙ ap stance_by walks.fix)

    by_fix : IsFixedBy k (acked_of p)
    by_fix = inr at_fix

    held_then : (a f word : ℕ) → IsHome (t.state a) → f < t.len a → HoldsOrNames s a f word → HoldsOrNames t a f word
    held_then a f word home less is = elim (fields a f home less) [
      | inl same ↦ elim is [ inl held ↦ inl (same.2 ∙ held) | inr names ↦ inr (subst (On (Names t)) (sym same.2) (word_names s t on (s.field a f) names)) ]
      | inr new ↦ elim new [
        | inl zero ↦ inr (rw zero tt)
        | inr put ↦ inr (word_names s t on (t.field a f) (put_by p.pass.machine (t.field a f) fixed.machine put by_fix))
      ]
    ]

    field_hand : (a f : ℕ) (y : FixMachine) → IsHome (t.state a) → f < t.len a → IsFieldHand s a f y → IsFieldHand t a f y
    field_hand a f (fix.Field at) home less is = tt
    field_hand a f (fix.Header at word to) home less is = (on_stays (Holds s) (Holds t) _ beside.seen.holds is.0, is.1, held_then a f word home less is.2)
    field_hand a f (fix.Exchange at word put) home less is = (fixed_on s t on _ put is.0, is.1, held_then a f word home less is.2)
    field_hand a f fix.Ended home less is = tt

    at_then : (y : FixWalkMachine) → Walks (area_of l) y → IsAtHome s y → IsAtHome t y
    at_then (walk.Header q u) there is = search.begun u.region (address q u) is
    at_then (walk.Field q u len field y) there is =
        let home = (on (s.birth (address q u)) (address q u) (refl, is.0)).1 in
        let long : t.len (address q u) ≡ len = (beside.seen.heads (address q u) (home_live (s.state (address q u)) is.0)).len ∙ is.1 in
        (home, long, field_hand (address q u) field y home (rw long there.3) is.2)
    at_then y there is = tt

    walked_then : HasWalked s m → HasWalked t m
    walked_then is = record { at = at_then m walks.walks is.at; passed = λ a f home less below. field_then by_fix a f home less (λ was small. is.passed a f was small below) }

  -- ---- whatever it does

  stands_by : (x : CollectorMachine M) → k ≡ x → IsCollector l kit.kind cycles plan x → FixStands x s n → FixStands x t o
  stands_by (collector.Roots st pass reg m) same collects stands = rooted_then pass reg m stands
  stands_by (collector.Walk st m) same collects stands = walked_then st m same collects stands
  stands_by x same collects stands = λ calm a f home less. field_then (subst (λ (y : CollectorMachine M). IsFixedBy y (acked_of p)) (sym same) (inl calm)) a f home less (λ was small. stands calm a f was small)

  pub stands_then : IsCollector l kit.kind cycles plan k → FixStands k s n → FixStands k t o
  stands_then collects stands = stands_by k refl collects stands
