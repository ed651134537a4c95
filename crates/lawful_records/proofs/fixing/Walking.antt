-- The collector takes a step of the walk that fixes fields.
use Rattle.std.proofs.Common.{inl, inr, ◌≡◌, ℕ, List, refl, sym, subst, arith}
use Rattle.std.proofs.lemmas.Bool.{cases_eq}
use Rattle.call_steps.specs.declared.step.Step.TheVariants.{Load}
use Rattle.call_steps.specs.Steps.{place_of, put_by, applied, IsInside}
use Rattle.call_steps.specs.StepLaws.{reading, Put, applied-puts}
use Rattle.heap_words.specs.Layouts.{Sizes, words_of}
use Rattle.reference_fix.specs.declared.field_fix.FixMachine.TheVariants as fix
use Rattle.reference_fix.specs.declared.fix_walk.Area.{Area}
use Rattle.reference_fix.specs.declared.fix_walk.FixWalkMachine.{FixWalkMachine}
use Rattle.reference_fix.specs.declared.fix_walk.FixWalkMachine.TheVariants as walk
use Rattle.reference_fix.proofs.FixWalks.{walk_steps}
use Rattle.reference_fix.specs.FixWalks as walks
use Rattle.space_reclaim.specs.Plans.{Planned}
use Rattle.barriers.specs.Kits.{Kit, Stepping, Laws}
use Rattle.barriers.specs.Says.{Notices}
use Rattle.barriers.specs.Spaces.{Space}
use Rattle.lawful_records.specs.declared.awaited.Awaited.{Awaited}
use Rattle.lawful_records.specs.declared.stage.Stage.{Stage}
use Rattle.lawful_records.specs.declared.collector.CollectorMachine.TheVariants as collector
use Rattle.lawful_records.specs.declared.records.Sealed.{Sealed}
use Rattle.lawful_records.proofs.collecting.Goes.{CollectorStands, CollectorGoes}
use Rattle.barriers.proofs.words.Frames.{put_same}
use Rattle.lawful_records.specs.Fixing.{HasWalked}
use Rattle.lawful_records.proofs.collecting.Goes.{found_in}
use Rattle.lawful_records.proofs.fixing.WalkFields.{field_inside, link_inside, field_walked, link_walked}
use Rattle.lawful_records.proofs.fixing.WalkHeaders.{header_at_inside, header_walked}
use Rattle.lawful_records.proofs.fixing.WalkLoads.{load_step, place, region_walked}
use Rattle.lawful_records.proofs.fixing.WalkPuts.{put_inside, lost_step, won_step}
use Rattle.lawful_records.proofs.fixing.WalkTurns.{WalkStep, walk_step_goes}
use Rattle.lawful_records.proofs.fixing.WalkWords.{ends_or}

module _ {R W E M : Type 0} (kit : Kit R W E M) (by : Stepping R W E M) (laws : Laws kit by) (l : Sizes) (words : List ℕ) (plan : Planned) (s : Space) (n : Notices) (counts : Awaited) (sealed : List Sealed) (st : Stage) where
  abbrev Stands : FixWalkMachine → Type 0
  Stands m = CollectorStands kit by l words plan s n counts sealed (collector.Walk st m)

  region_inside : (q : Area) (region : ℕ) → Stands (walk.Region q region) → IsInside (words_of l) (Load (walks.word_of q region))
  region_inside q region stands = let is = place kit by laws l words plan s n counts sealed st q region stands in let less = stands.collects.walks.1 in omega (arith, is, less)

  pub walk_inside_of : (m : FixWalkMachine) → Stands m → IsInside (words_of l) (walks.asks_of m)
  walk_inside_of (walk.Region q region) stands = region_inside q region stands
  walk_inside_of (walk.Header q u) stands = header_at_inside kit by laws l words plan s n counts sealed st q u stands
  walk_inside_of (walk.Field q u len field (fix.Field at)) stands = field_inside kit by laws l words plan s n counts sealed st q u len field at stands
  walk_inside_of (walk.Field q u len field (fix.Header at word to)) stands = link_inside kit by laws l words plan s n counts sealed st q u len field at word to stands
  walk_inside_of (walk.Field q u len field (fix.Exchange at word put)) stands = put_inside kit by laws l words plan s n counts sealed st q u len field at word put stands
  walk_inside_of (walk.Field q u len field fix.Ended) stands = absurd stands.collects.walks.5
  walk_inside_of (walk.Ended q) stands = absurd (stands.collects.on refl)

  module _ (m : FixWalkMachine) (stands : Stands m) where
    stepped : Put (reading words) (reading (applied (walks.asks_of m) words)) (place_of (walks.asks_of m)) (put_by (walks.asks_of m) (reading words (place_of (walks.asks_of m))))
    stepped = applied-puts (walks.asks_of m) words stands.collects.on (subst (λ size. IsInside size (walks.asks_of m)) (sym stands.width) (walk_inside_of m stands))

    -- it goes on so far as its step says
    goes : (t : Space) → WalkStep kit by laws l words plan s n counts sealed st m stands t → CollectorGoes kit by l words plan s n sealed (collector.Walk st m)
    goes t step =
        let word : ℕ = found_in kit by l words (collector.Walk st m) in
        walk_step_goes kit by laws l words plan s n counts sealed st m stands t step (ends_or l stands.layout (walks.fed_of m word) (walk_steps (walks.area_of l) m word stands.collects.walks stands.collects.on).on)

    -- by a load
    loads : (at : ℕ) → walks.asks_of m ≡ Load at → HasWalked s (walks.fed_of m (found_in kit by l words (collector.Walk st m))) → CollectorGoes kit by l words plan s n sealed (collector.Walk st m)
    loads at is walked = goes s (load_step kit by laws l words plan s n counts sealed st m stands (put_same (reading words) (reading (applied (walks.asks_of m) words)) (place_of (walks.asks_of m)) (put_by (walks.asks_of m) (reading words (place_of (walks.asks_of m)))) stepped (rw is refl)) walked)

  pub walk_goes : (m : FixWalkMachine) → Stands m → CollectorGoes kit by l words plan s n sealed (collector.Walk st m)
  walk_goes (walk.Region q region) stands = loads (walk.Region q region) stands (walks.word_of q region) refl (region_walked kit by laws l words plan s n counts sealed st q region stands)
  walk_goes (walk.Header q u) stands = loads (walk.Header q u) stands (walks.address q u) refl (header_walked kit by laws l words plan s n counts sealed st q u stands)
  walk_goes (walk.Field q u len field (fix.Field at)) stands = loads (walk.Field q u len field (fix.Field at)) stands at refl (field_walked kit by laws l words plan s n counts sealed st q u len field at stands)
  walk_goes (walk.Field q u len field (fix.Header at word to)) stands = loads (walk.Field q u len field (fix.Header at word to)) stands to refl (link_walked kit by laws l words plan s n counts sealed st q u len field at word to stands)
  walk_goes (walk.Field q u len field (fix.Exchange at word put)) stands = elim (cases_eq (reading words at) word) [
    | inl same ↦ goes (walk.Field q u len field (fix.Exchange at word put)) stands _ (won_step kit by laws l words plan s n counts sealed st q u len field at word put stands same)
    | inr other ↦ goes (walk.Field q u len field (fix.Exchange at word put)) stands s (lost_step kit by laws l words plan s n counts sealed st q u len field at word put stands other)
  ]
  walk_goes (walk.Field q u len field fix.Ended) stands = absurd stands.collects.walks.5
  walk_goes (walk.Ended q) stands = absurd (stands.collects.on refl)
