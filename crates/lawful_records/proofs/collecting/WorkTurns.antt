-- The collector stores what the regions of the cycle's plan are used for.
use Rattle.std.specs.Prelude.{◌<◌, take}
use Rattle.std.specs.List.{slice_get}
use Rattle.std.proofs.Common.{inl, inr, ◌≡◌, ◌≢◌, ℕ, ◌≤◌, true, List, [], ◌++◌, refl, sym, ap, ◌∙◌, subst, arith, length}
use Rattle.lawful_records.specs.Fixing.{is_fixed, AreFieldsFixed, IsOfJob}
use Rattle.lawful_records.proofs.fixing.Looks.{before_fixed}
use Rattle.lawful_records.proofs.fixing.Turns.{calm_passes}
use Rattle.std.proofs.lemmas.List.{append-nil}
use Rattle.std.proofs.lemmas.List.Elements.{All-weaker}
use Rattle.call_steps.specs.declared.step.Step.{Step}
use Rattle.call_steps.specs.declared.step.Step.TheVariants.{Store}
use Rattle.call_steps.specs.Steps.{applied, IsInside}
use Rattle.call_steps.specs.StepLaws.{reading, Put, applied-puts}
use Rattle.heap_words.specs.Layouts.{Sizes, IsRegion, words_of, region_at}
use Rattle.heap_words.specs.PlaceLaws.{words_of-bound}
use Rattle.space_reclaim.specs.declared.move_job.MoveJob.{MoveJob}
use Rattle.space_reclaim.specs.declared.region_word.RegionWord.{RegionWord}
use Rattle.space_reclaim.specs.declared.region_word.RegionWord.TheVariants as regions
use Rattle.space_reclaim.specs.Plans.{Planned}
use Rattle.space_reclaim.specs.RegionWords.{IsRegionWord, word_of_region}
use Rattle.handshakes.specs.Handshakes.{Announced}
use Rattle.barriers.specs.Cycles.{Cycle}
use Rattle.barriers.specs.Objects.{AreObjects}
use Rattle.barriers.specs.Sets.{set}
use Rattle.barriers.specs.Spaces.{Space}
use Rattle.barriers.specs.Says.{Notices, Says, put_region}
use Rattle.barriers.specs.MoveWords.{IsSpare}
use Rattle.barriers.specs.Rows.{Rows}
use Rattle.barriers.specs.Kits.{Kit, Stepping, Laws}
use Rattle.barriers.proofs.words.RegionStores.{says_region, rows_used}
use Rattle.barriers.proofs.words.Sets.{set_cases, set_here, set_else}
use Rattle.lawful_records.specs.declared.awaited.Awaited.{Awaited}
use Rattle.lawful_records.specs.declared.stage.Stage.{Stage}
use Rattle.lawful_records.specs.declared.collector.CollectorMachine.{CollectorMachine}
use Rattle.lawful_records.specs.declared.collector.CollectorMachine.TheVariants as collector
use Rattle.lawful_records.specs.declared.records.PassKnown.{PassKnown}
use Rattle.lawful_records.specs.declared.records.Sealed.{Sealed}
use Rattle.lawful_records.specs.Frames.{SameRegion}
use Rattle.lawful_records.specs.JobStands.{stand_of, IsUnmoved, AreUnmoved, IsTarget, IsTargetOr, IsMovedBy, StandsAt}
use Rattle.lawful_records.specs.Cycling.{announced_by, cycle_of}
use Rattle.lawful_records.specs.Collectors.{drawn_of, used_at, target_of, target_at, source_at}
use Rattle.lawful_records.specs.LawfulRecords.{IsThereSealed, AreSealed, IsPassRecord}
use Rattle.lawful_records.specs.Turns.{collector_asks, sealed_now}
use Rattle.lawful_records.proofs.JobLaws.{pool_there}
use Rattle.lawful_records.proofs.frames.SpareStays.{region_low, spare_low}
use Rattle.lawful_records.proofs.turns.Holding.{objects_region, seen_region}
use Rattle.lawful_records.proofs.turns.Stepping.{put_alike}
use Rattle.lawful_records.proofs.collecting.Counted.{keeps_idle}
use Rattle.lawful_records.proofs.collecting.Goes.{found_in, next_of, CollectorStands, CollectorGoes, quiet_passes}
use Rattle.lawful_records.proofs.collecting.JobBegins.{forward_to, stand_source, stand_target}
use Rattle.lawful_records.proofs.collecting.PlanLists.{all_in}
use Rattle.lawful_records.proofs.collecting.WorkNow.{works_now}
use Rattle.lawful_records.proofs.collecting.Works.{IsBefore, announced_is, cycle_is, drawn_is, none_sought, source_before, target_before}

-- ---- what does not read what a region is used for

module _ (s : Space) (k : ℕ) (x : RegionWord) where
  sealed_region : (sealed : List Sealed) → AreSealed s sealed → AreSealed (put_region s k x) sealed
  sealed_region sealed are = record {
    there = All-weaker (IsThereSealed s) (IsThereSealed (put_region s k x)) (λ one is. record { live = is.live; len = is.len }) sealed are.there;
    seals = are.seals;
  }

  unmoved_region : (l : Sizes) (j : MoveJob) → IsUnmoved l s j → IsUnmoved l (put_region s k x) j
  unmoved_region l j is = record {
    pool = is.pool;
    room = is.room;
    wide = is.wide;
    above = is.above;
    still = is.still;
    len = is.len;
    birth = is.birth;
    header = is.header;
    wideless = is.wideless;
    address = is.address;
    apart = is.apart;
  }

  are_unmoved_region : (l : Sizes) (ends : ℕ → ℕ) (jobs : List MoveJob) → AreUnmoved l s ends jobs → AreUnmoved l (put_region s k x) ends jobs
  are_unmoved_region l ends jobs are = record { each = All-weaker (IsUnmoved l s) (IsUnmoved l (put_region s k x)) (unmoved_region l) jobs are.each; laid = are.laid; after = are.after }

-- a job whose region this is has it as its target then
target_now : (l : Sizes) (s : Space) (region : ℕ) (j : MoveJob) → IsTargetOr l s region j → IsTarget l (put_region s region regions.Target) j
target_now l s region j (inl is) = elim (set_cases s.region region (target_of l j) regions.Target) [ inl q ↦ q.1 | inr q ↦ q.1 ∙ is ]
target_now l s region j (inr same) = ap (set s.region region regions.Target) same ∙ set_here s.region region regions.Target

module _ {R W E M : Type 0} (kit : Kit R W E M) (by : Stepping R W E M) (laws : Laws kit by) (l : Sizes) (words : List ℕ) (plan : Planned) (s : Space) (n : Notices) (counts : Awaited) (sealed : List Sealed) where
  abbrev Stands : CollectorMachine M → Type 0
  Stands k = CollectorStands kit by l words plan s n counts sealed k

  -- the store of a region's word, of which the layout is that of the stage
  module _ (m : CollectorMachine M) (stands : Stands m) (layout : Sizes) (same : layout ≡ l) (k : ℕ) (low : k < l.pool) (x : RegionWord) (used : x ≢ regions.Free) (fits : IsRegionWord x) where
    abbrev t : Space
    t = put_region s k x

    abbrev step : Step
    step = Store (used_at layout k) (word_of_region x)

    there : IsRegion l k
    there = pool_there l k low

    inside : region_at l k < words_of l
    inside = let is = there in omega (arith, is)

    place : used_at layout k ≡ region_at l k
    place =
        let most = words_of-bound l stands.layout in
        let own : used_at l k ≡ region_at l k = (let is = inside in omega (arith, most, is)) in
        ap (λ (y : Sizes). used_at y k) same ∙ own

    pub store_inside : IsInside (words_of l) step
    store_inside = let is = inside in omega (arith, is, place)

    stored : Put (reading words) (reading (applied step words)) (region_at l k) (word_of_region x)
    stored = put_alike (reading words) (reading (applied step words)) (used_at layout k) (word_of_region x) (region_at l k) (word_of_region x) place refl
        (applied-puts step words (λ e. cc e) (subst (λ len. IsInside len step) (sym stands.width) store_inside))

    store_says : Says l (reading (applied step words)) t n
    store_says = says_region l (reading words) s n stands.rows stands.says (reading (applied step words)) k x there fits stored

    store_spare : IsSpare l (reading (applied step words)) t
    store_spare = spare_low l (reading words) (reading (applied step words)) s stands.spare (region_at l k) (word_of_region x) stored (region_low l k there)

    store_regions : (region : ℕ) → l.pool ≤ region → SameRegion s t region
    store_regions region own = record { word = set_else s.region k region x (λ e. omega (arith, e, own, low)); ends = refl }

    store_rows : Rows l t.state t.len t.ends t.region
    store_rows = rows_used l s k x used stands.rows

    -- after it the work goes on, before the same stage is announced
    module _ (st : Stage) (its : IsBefore st m) (asks : collector_asks kit by m ≡ step) (sealing : sealed_now kit by m s.history (found_in kit by l words m) ≡ []) (next : IsBefore st (next_of kit by l words plan m)) (idle : (a : ℕ) → IsMovedBy m a → ⊥)
        (calm : is_fixed m ≡ true) (fields : AreFieldsFixed s) (none : (a : ℕ) → IsOfJob (stand_of plan m) a → ⊥)
        (jobs : StandsAt kit l (cycle_of (next_of kit by l words plan m)) t (stand_of plan (next_of kit by l words plan m))) where
      abbrev after : CollectorMachine M
      after = next_of kit by l words plan m

      same_announced : announced_by after ≡ announced_by m
      same_announced = announced_is st after next ∙ sym (announced_is st m its)

      same_cycle : cycle_of after ≡ cycle_of m
      same_cycle = cycle_is st after next ∙ sym (cycle_is st m its)

      same_drawn : drawn_of after ≡ drawn_of m
      same_drawn = drawn_is st after next ∙ sym (drawn_is st m its)

      quiet : (p : PassKnown R W E) → IsPassRecord kit l (announced_by m) (cycle_of m) s n p → IsPassRecord kit l (announced_by m) (cycle_of m) t n p
      quiet = quiet_passes kit by l words m s t n (seen_region kit.protocol (cycle_of m) s k x) store_regions refl

      pub store_goes : CollectorGoes kit by l words plan s n sealed m
      store_goes = record {
        space = t;
        notices = n;
        says = subst (λ (asked : Step). Says l (reading (applied asked words)) t n) (sym asks) store_says;
        announced = stands.announced ∙ sym (ap (λ (a : Announced). a.word) same_announced);
        drawn = stands.drawn ∙ sym same_drawn;
        spare = subst (λ (asked : Step). IsSpare l (reading (applied asked words)) t) (sym asks) store_spare;
        rows = store_rows;
        bare = stands.bare;
        objects = subst (λ (d : Cycle). AreObjects kit.protocol d t) (sym same_cycle) (objects_region kit.protocol (cycle_of m) s k x stands.objects);
        lens = stands.lens;
        resting = λ a moving. absurd (idle a (stands.resting a moving));
        history = refl;
        passes = λ p own. subst (λ (a : Announced). IsPassRecord kit l a (cycle_of after) t n p) (sym same_announced) (subst (λ (d : Cycle). IsPassRecord kit l (announced_by m) d t n p) (sym same_cycle) (quiet p own));
        jobs = jobs;
        search = none_sought st l (cycle_of after) t after next;
        sealed_are = subst (AreSealed t) (sym (ap (λ more. sealed ++ more) sealing ∙ append-nil sealed)) (sealed_region s k x sealed stands.sealed_are);
        seals = keeps_idle s t m (length (sealed_now kit by m s.history (found_in kit by l words m))) idle;
        fixed = record {
          own = record { aside = λ a aside. absurd (none a (stands.fixed.aside a aside)); stands = before_fixed st t n after next fields };
          passes = λ p own is. calm_passes kit l m after s t n calm (λ birth at names. names) p own is;
        };
        heads = λ a. inl refl;
      }

  -- ---- Source

  module _ (st : Stage) (region next : ℕ) (stands : Stands (collector.Source st region next)) where
    source_low : region < l.pool
    source_low = all_in (λ region. region < l.pool) plan.chosen region stands.planned.chosen stands.collects.1

    pub source_inside : IsInside (words_of l) (Store (used_at st.layout region) (word_of_region regions.Source))
    source_inside = store_inside (collector.Source st region next) stands st.layout stands.collects.0.stage.layout region source_low regions.Source (λ e. cc e) tt

    source_stands : StandsAt kit l (cycle_of (source_at kit plan (slice_get plan.chosen next) st next)) (put_region s region regions.Source) (stand_of plan (source_at kit plan (slice_get plan.chosen next) st next))
    source_stands =
        let used : Space = put_region s region regions.Source in
        stand_source kit by laws l stands.layout plan stands.planned used (rows_used l s region regions.Source (λ e. cc e) stands.rows) (forward_to kit.protocol (cycle_of {M = M} (collector.Announce st)) s stands.objects)
        (slice_get plan.chosen next) st next (works_now kit.kind l stands.cycles st stands.collects.0)
        (are_unmoved_region s region regions.Source l s.ends plan.jobs stands.jobs.0, stands.jobs.1)

    pub source_goes : CollectorGoes kit by l words plan s n sealed (collector.Source st region next)
    source_goes = store_goes (collector.Source st region next) stands st.layout stands.collects.0.stage.layout region source_low regions.Source (λ e. cc e) tt
        st refl refl refl (source_before kit plan st (slice_get plan.chosen next) next) (λ a moved. moved) refl (stands.fixed.stands refl) (λ a its. its) source_stands

  -- ---- Target

  module _ (st : Stage) (region next : ℕ) (stands : Stands (collector.Target st region next)) where
    target_low : region < l.pool
    target_low =
        let its = stands.collects.1 in
        let unmoved = all_in (IsUnmoved l s) plan.jobs its.0 stands.jobs.0.each its.1 in
        let layout = ap (λ (y : Sizes). target_of y its.0) stands.collects.0.stage.layout in
        subst (λ k. k < l.pool) (sym (its.2 ∙ layout)) unmoved.pool

    pub target_inside : IsInside (words_of l) (Store (used_at st.layout region) (word_of_region regions.Target))
    target_inside = store_inside (collector.Target st region next) stands st.layout stands.collects.0.stage.layout region target_low regions.Target (λ e. cc e) tt

    target_stands : StandsAt kit l (cycle_of (target_at kit plan (slice_get plan.jobs next) st next)) (put_region s region regions.Target) (stand_of plan (target_at kit plan (slice_get plan.jobs next) st next))
    target_stands =
        let used : Space = put_region s region regions.Target in
        stand_target kit by laws l stands.layout plan stands.planned used (rows_used l s region regions.Target (λ e. cc e) stands.rows) (forward_to kit.protocol (cycle_of {M = M} (collector.Announce st)) s stands.objects)
        (slice_get plan.jobs next) st next refl (works_now kit.kind l stands.cycles st stands.collects.0)
        (are_unmoved_region s region regions.Target l s.ends plan.jobs stands.jobs.0, stands.jobs.1)
        (All-weaker (IsTargetOr l s region) (IsTarget l used) (target_now l s region) (take next plan.jobs) stands.jobs.2)

    pub target_goes : CollectorGoes kit by l words plan s n sealed (collector.Target st region next)
    target_goes = store_goes (collector.Target st region next) stands st.layout stands.collects.0.stage.layout region target_low regions.Target (λ e. cc e) tt
        st refl refl refl (target_before kit plan st (slice_get plan.jobs next) next) (λ a moved. moved) refl (stands.fixed.stands refl) (λ a its. its) target_stands
