-- The walk loads the word of a region, or a header.
use Rattle.std.proofs.Common.{◌≡◌, ℕ, ◌+◌, ◌<◌, inl, inr, ◌==◌, List, refl, sym, ap, ◌∙◌, subst, arith}
use Rattle.call_steps.specs.Steps.{applied}
use Rattle.call_steps.specs.StepLaws.{reading}
use Rattle.heap_words.specs.Layouts.{Sizes, region_at}
use Rattle.heap_words.specs.PlaceLaws.{words_of-bound}
use Rattle.reference_fix.specs.declared.fix_walk.Area.{Area}
use Rattle.reference_fix.specs.declared.fix_walk.FixWalkMachine.TheVariants as walk
use Rattle.reference_fix.specs.FixWalks as walks
use Rattle.reference_fix.specs.FixWalkRuns.{cursor_of}
use Rattle.reference_fix.proofs.FixWalks.{region_next, walk_steps, low_or_high}
use Rattle.space_reclaim.specs.Plans.{Planned}
use Rattle.barriers.specs.Kits.{Kit, Stepping, Laws}
use Rattle.barriers.specs.Says.{Notices}
use Rattle.barriers.specs.Spaces.{Space}
use Rattle.barriers.proofs.words.Frames.{says_same}
use Rattle.lawful_records.specs.declared.awaited.Awaited.{Awaited}
use Rattle.lawful_records.specs.declared.stage.Stage.{Stage}
use Rattle.lawful_records.specs.declared.collector.CollectorMachine.TheVariants as collector
use Rattle.lawful_records.specs.declared.records.Sealed.{Sealed}
use Rattle.lawful_records.specs.Fixing.{HasWalked}
use Rattle.lawful_records.proofs.frames.PassStays.{seen_same}
use Rattle.lawful_records.proofs.frames.SpareStays.{spare_same}
use Rattle.lawful_records.proofs.collecting.Goes.{found_in, CollectorStands}
use Rattle.lawful_records.proofs.fixing.WalkRows.{free_none, free_goes}
use Rattle.lawful_records.proofs.fixing.WalkTurns.{WalkStep}

module _ {R W E M : Type 0} (kit : Kit R W E M) (by : Stepping R W E M) (laws : Laws kit by) (l : Sizes) (words : List ℕ) (plan : Planned) (s : Space) (n : Notices) (counts : Awaited) (sealed : List Sealed) (st : Stage) where
  -- a step that leaves the words as they are
  pub load_step : (m : _) (stands : CollectorStands kit by l words plan s n counts sealed (collector.Walk st m)) → ((y : ℕ) → reading (applied (walks.asks_of m) words) y ≡ reading words y) → HasWalked s (walks.fed_of m (found_in kit by l words (collector.Walk st m))) → WalkStep kit by laws l words plan s n counts sealed st m stands s
  load_step m stands alike walked_on = record {
    says = says_same l (reading words) (reading (applied (walks.asks_of m) words)) s n alike stands.rows stands.says;
    spare = spare_same l (reading words) (reading (applied (walks.asks_of m) words)) s stands.spare alike;
    rows = stands.rows;
    bare = λ a. (refl, refl);
    objects = stands.objects;
    lens = stands.lens;
    seen = seen_same kit.protocol _ s;
    regions = λ region. record { word = refl; ends = refl };
    history = refl;
    are_sealed = stands.sealed_are;
    heads = λ a. refl;
    names = λ birth at names. names;
    walked_on = walked_on;
  }

  module _ (q : Area) (region : ℕ) (stands : CollectorStands kit by l words plan s n counts sealed (collector.Walk st (walk.Region q region))) where
    abbrev found : ℕ
    found = found_in kit by l words (collector.Walk st (walk.Region q region))

    same : q ≡ walks.area_of l
    same = stands.collects.walks.0

    pub place : walks.word_of q region ≡ region_at l region
    place = ap (λ (x : Area). walks.word_of x region) same ∙ (let most = words_of-bound l stands.layout in let less = stands.collects.walks.1 in omega (arith, most, less))

    -- a region that is Free is passed
    pub region_walked : HasWalked s (walks.fed_of (walk.Region q region) found)
    region_walked = record {
      at = free_goes l stands.layout (reading words) s n stands.rows stands.says q same region (found == 0);
      passed = λ a f home less below. elim (low_or_high (a + 1 + f) (walks.first_of q region)) [
        | inl early ↦ (let has = stands.fixed.stands in has.passed a f home less early)
        | inr late ↦
            let zero : found ≡ 0 = (walk_steps (walks.area_of l) (walk.Region q region) found stands.collects.walks stands.collects.on).passes (a + 1 + f) late below in
            let inside : region < q.regions = subst (λ (x : Area). region < x.regions) (sym same) stands.collects.walks.1 in
            let next_low = (region_next q region inside).low in
            let below_next : a + 1 + f < cursor_of (walks.next_region q region) = rw zero at below in
            absurd (free_none l stands.layout (reading words) s n stands.rows stands.says q same region found stands.collects.walks.1 (ap (reading words) place) zero a f (a + 1 + f) (home, less, refl) late (omega (arith, below_next, next_low)))
      ];
    }
