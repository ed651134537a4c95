-- The walk loads a header.
use Rattle.std.proofs.Common.{◌≡◌, ◌≢◌, ℕ, ◌+◌, ◌<◌, ◌≤◌, inl, inr, List, refl, sym, ap, subst, arith}
use Rattle.call_steps.specs.declared.step.Step.TheVariants.{Load}
use Rattle.call_steps.specs.Steps.{IsInside}
use Rattle.call_steps.specs.StepLaws.{reading}
use Rattle.heap_words.specs.Layouts.{Sizes, words_of, regions_of}
use Rattle.object_headers.specs.Headers.{header_at}
use Rattle.object_headers.specs.declared.header.State.TheVariants as states
use Rattle.reference_fix.specs.declared.fix_walk.Area.{Area}
use Rattle.reference_fix.specs.declared.fix_walk.Cursor.{Cursor}
use Rattle.reference_fix.specs.declared.fix_walk.FixWalkMachine.TheVariants as walk
use Rattle.reference_fix.specs.FixWalks as walks
use Rattle.reference_fix.specs.FixWalkRuns.{cursor_of, IsFixed, Passes}
use Rattle.reference_fix.proofs.FixWalks.{region_next, walk_steps, low_or_high}
use Rattle.space_reclaim.specs.Plans.{Planned}
use Rattle.barriers.specs.Kits.{Kit, Stepping, Laws}
use Rattle.barriers.specs.Says.{Notices}
use Rattle.barriers.specs.Spaces.{Space}
use Rattle.lawful_records.specs.declared.awaited.Awaited.{Awaited}
use Rattle.lawful_records.specs.declared.stage.Stage.{Stage}
use Rattle.lawful_records.specs.declared.collector.CollectorMachine.TheVariants as collector
use Rattle.lawful_records.specs.declared.records.Sealed.{Sealed}
use Rattle.std.proofs.lemmas.Bool.{cases_eq}
use Rattle.object_headers.specs.declared.header.Header.{Header}
use Rattle.object_headers.specs.declared.header.State.{State as HeaderState}
use Rattle.barriers.specs.States.{Underway, IsHome}
use Rattle.lawful_records.specs.Searches.{IsBegun}
use Rattle.lawful_records.specs.Fixing.{HasWalked, IsAtHome, IsAside}
use Rattle.lawful_records.proofs.collecting.Goes.{found_in, CollectorStands}
use Rattle.lawful_records.proofs.fixing.WalkRows.{region_goes, state_goes, there_by, len_found, none_here, none_behind, over_none, end_header, low as WalkRows_low, high as WalkRows_high}

module _ {R W E M : Type 0} (kit : Kit R W E M) (by : Stepping R W E M) (laws : Laws kit by) (l : Sizes) (words : List ℕ) (plan : Planned) (s : Space) (n : Notices) (counts : Awaited) (sealed : List Sealed) (st : Stage) where
  module _ (q : Area) (u : Cursor) (stands : CollectorStands kit by l words plan s n counts sealed (collector.Walk st (walk.Header q u))) where
    abbrev word : ℕ
    word = found_in kit by l words (collector.Walk st (walk.Header q u))

    abbrev its : Area → Cursor → ℕ
    its r c = walks.address r c

    its_area : q ≡ walks.area_of l
    its_area = stands.collects.walks.0

    inside : u.region < regions_of l
    inside = stands.collects.walks.1

    begun : IsBegun s u.region (its q u)
    begun = (let has = stands.fixed.stands in has.at)

    pub header_at_inside : IsInside (words_of l) (Load (its q u))
    header_at_inside =
        let low = WalkRows_high l stands.layout (reading words) s n stands.rows stands.says q its_area u inside stands.collects.walks.2 in
        let least = WalkRows_low l stands.layout (reading words) s n stands.rows stands.says q its_area u inside stands.collects.walks.2 in
        omega (arith, low, least, inside)

    none_under : (a : ℕ) → s.state a ≢ Underway
    none_under a e = stands.fixed.aside a (subst IsAside (sym e) tt)

    goes_by : (x : HeaderState) → (let h = header_at word in h.state) ≡ x → IsAtHome s (walks.by_state q u x (let h = header_at word in h.len))
    goes_by states.Absent e = region_goes l stands.layout (reading words) s n stands.rows stands.says q its_area u.region
    goes_by x e = some_goes x e
      where
        some_goes : (x : HeaderState) → (let h = header_at word in h.state) ≡ x → IsAtHome s (walks.by_state q u x (let h = header_at word in h.len))
        some_goes states.Absent e = region_goes l stands.layout (reading words) s n stands.rows stands.says q its_area u.region
        some_goes x e =
            let there = there_by l stands.layout (reading words) s n stands.rows stands.says q its_area u inside stands.collects.walks.2 begun (λ none. cc (e, none)) in
            state_goes l stands.layout (reading words) s n stands.rows stands.says q its_area u inside stands.collects.walks.2 there none_under x e _ (len_found l stands.layout (reading words) s n stands.rows stands.says q its_area u inside stands.collects.walks.2 there)

    here_not : (a f : ℕ) → IsHome (s.state a) → f < s.len a → a + 1 + f ≡ its q u → ⊥
    here_not a f home less e = none_here l stands.layout (reading words) s n stands.rows stands.says q its_area u inside stands.collects.walks.2 begun a f (home, less, e)

    over_not : (a f : ℕ) → IsHome (s.state a) → f < s.len a → its q u ≤ a + 1 + f → IsBegun s u.region (its q u) → a + 1 + f < its q u + 1 + (let h = header_at word in h.len) → (let h = header_at word in IsFixed h.state → ⊥) → ⊥
    over_not a f home less late (inl there) short other = elim (cases_eq (a + 1 + f) (its q u)) [
      | inl here ↦ here_not a f home less here
      | inr apart ↦
          let long = len_found l stands.layout (reading words) s n stands.rows stands.says q its_area u inside stands.collects.walks.2 there in
          over_none l stands.layout (reading words) s n stands.rows stands.says q its_area u inside stands.collects.walks.2 there (λ b home aside. stands.fixed.aside b aside) other a f (a + 1 + f) (home, less, refl) (omega (arith, late, apart)) (omega (arith, short, long))
    ]
    over_not a f home less late (inr ends) short other =
        let none : (let h = header_at word in h.len) ≡ 0 = ap (λ (h : Header). h.len) (end_header l stands.layout (reading words) s n stands.rows stands.says q its_area u inside stands.collects.walks.2 ends) in
        here_not a f home less (omega (arith, late, short, none))

    end_not : (a f : ℕ) → IsHome (s.state a) → f < s.len a → its q u ≤ a + 1 + f → a + 1 + f < cursor_of (walks.fed_of (walk.Header q u) word) → (let h = header_at word in h.state) ≡ states.Absent → ⊥
    end_not a f home less late below none =
        let less_region : u.region < q.regions = subst (λ (x : Area). u.region < x.regions) (sym its_area) inside in
        let next_low = (region_next q u.region less_region).low in
        let below_next : a + 1 + f < cursor_of (walks.next_region q u.region) = rw none at below in
        none_behind l stands.layout (reading words) s n stands.rows stands.says q its_area u inside stands.collects.walks.2 begun none a f (a + 1 + f) (home, less, refl) late (omega (arith, below_next, next_low))

    passed_not : (a f : ℕ) → IsHome (s.state a) → f < s.len a → its q u ≤ a + 1 + f → a + 1 + f < cursor_of (walks.fed_of (walk.Header q u) word) → Passes (walk.Header q u) word (a + 1 + f) → ⊥
    passed_not a f home less late below (inl here) = here_not a f home less here
    passed_not a f home less late below (inr (inl over)) = over_not a f home less late begun over.1 over.0
    passed_not a f home less late below (inr (inr none)) = end_not a f home less late below none

    pub header_walked : HasWalked s (walks.fed_of (walk.Header q u) word)
    header_walked = record {
      at = goes_by (let h = header_at word in h.state) refl;
      passed = λ a f home less below. elim (low_or_high (a + 1 + f) (its q u)) [
        | inl early ↦ (let has = stands.fixed.stands in has.passed a f home less early)
        | inr late ↦ absurd (passed_not a f home less late below ((walk_steps (walks.area_of l) (walk.Header q u) word stands.collects.walks stands.collects.on).passes (a + 1 + f) late below))
      ];
    }
