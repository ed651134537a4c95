-- The collector fixes the fields of all objects.
use Rattle.std.proofs.Common.{◌≡◌, ◌≢◌, ℕ, ◌+◌, ◌⊎◌, inl, inr, List, Option, Some, None, refl, sym, ap, ◌∙◌, subst, arith}
use Rattle.std.proofs.lemmas.List.{append-nil}
use Rattle.call_steps.specs.declared.step.Step.{Step}
use Rattle.call_steps.specs.Steps.{applied}
use Rattle.call_steps.specs.StepLaws.{reading}
use Rattle.heap_words.specs.Layouts.{Sizes, wide_at}
use Rattle.handshakes.specs.Handshakes.{Announced}
use Rattle.handshakes.specs.PhaseWords.{retired_word}
use Rattle.reference_fix.specs.declared.fix_walk.FixWalkMachine.{FixWalkMachine}
use Rattle.reference_fix.specs.FixWalks as walks
use Rattle.reference_fix.specs.FixWalkRuns.{cursor_of}
use Rattle.barriers.specs.Cycles.{Cycle}
use Rattle.space_reclaim.specs.Plans.{Planned}
use Rattle.barriers.specs.Kits.{Kit, Stepping, Laws}
use Rattle.barriers.specs.MoveWords.{IsSpare}
use Rattle.barriers.specs.Objects.{AreObjects, HasLens}
use Rattle.barriers.specs.Rows.{Rows}
use Rattle.barriers.specs.Says.{Notices, Says, header_in}
use Rattle.barriers.specs.Spaces.{Space}
use Rattle.barriers.specs.Stances.{Fix as Fix_stance, stance_at}
use Rattle.barriers.proofs.words.Headers.{home_there}
use Rattle.barriers.proofs.words.Rows.{row_area}
use Rattle.lawful_records.specs.declared.awaited.Awaited.{Awaited}
use Rattle.lawful_records.specs.declared.stage.Announcement.TheVariants.{Fix}
use Rattle.lawful_records.specs.declared.stage.Stage.{Stage}
use Rattle.lawful_records.specs.declared.collector.CollectorMachine.{CollectorMachine}
use Rattle.lawful_records.specs.declared.collector.CollectorMachine.TheVariants as collector
use Rattle.lawful_records.specs.declared.records.PassKnown.{PassKnown}
use Rattle.lawful_records.specs.declared.records.Sealed.{Sealed}
use Rattle.lawful_records.specs.Collectors.{walked, drawn_of}
use Rattle.lawful_records.specs.Cycling.{announced_at, announced_by, cycle_of}
use Rattle.lawful_records.specs.Fixing.{IsFixedPass, FixStands, HasWalked, IsAside}
use Rattle.lawful_records.specs.Frames.{SeenBy, SameRegion}
use Rattle.lawful_records.specs.JobStands.{stand_of, StandsAt}
use Rattle.lawful_records.specs.LawfulRecords.{AreSealed, IsPassRecord}
use Rattle.lawful_records.specs.Records.{number_of, acked_of, mark_of}
use Rattle.lawful_records.specs.Searches.{SearchStands}
use Rattle.lawful_records.proofs.collecting.Advancing.{as_announced}
use Rattle.lawful_records.proofs.collecting.Goes.{found_in, CollectorStands, CollectorGoes, quiet_passes}
use Rattle.lawful_records.proofs.collecting.Shaken.{answered_all}
use Rattle.lawful_records.proofs.collecting.Stages.{stance_by, stance_word, stage_said}
use Rattle.lawful_records.proofs.fixing.Frames.{NamesOn, word_names, following_stays, polled_in, fixed_leaves}

module _ {R W E M : Type 0} (kit : Kit R W E M) (by : Stepping R W E M) (laws : Laws kit by) (l : Sizes) (words : List ℕ) (plan : Planned) (s : Space) (n : Notices) (counts : Awaited) (sealed : List Sealed) (st : Stage) (m : FixWalkMachine)
    (stands : CollectorStands kit by l words plan s n counts sealed (collector.Walk st m)) where
  abbrev walking : CollectorMachine M
  walking = collector.Walk st m

  abbrev step : Step
  step = walks.asks_of m

  abbrev next : FixWalkMachine
  next = walks.fed_of m (found_in kit by l words walking)

  fix : st.announcement ≡ Fix
  fix = stands.collects.fix

  -- What a step comes to that leaves headers and regions as they are.
  pub record WalkStep (t : Space) : Type 0 where
    pub says : Says l (reading (applied step words)) t n
    pub spare : IsSpare l (reading (applied step words)) t
    pub rows : Rows l t.state t.len t.ends t.region
    pub bare : (a : ℕ) → t.state a ≡ s.state a × (t.wide a ≡ s.wide a)
    pub objects : AreObjects kit.protocol (cycle_of walking) t
    pub lens : HasLens t
    pub seen : SeenBy kit.protocol (cycle_of walking) s t
    pub regions : (region : ℕ) → SameRegion s t region
    pub history : t.history ≡ s.history
    pub are_sealed : AreSealed t sealed
    pub heads : (a : ℕ) → header_in t a ≡ header_in s a
    pub names : NamesOn s t
    pub walked_on : HasWalked t next

  abbrev After : Option (Unit {0}) → CollectorMachine M
  After end = walked st next end

  same_announced : (end : Option (Unit {0})) → announced_by (After end) ≡ announced_by walking
  same_announced None = refl
  same_announced (Some end) = ap (λ (b : Stage). announced_at b st.layout.passes) (as_announced st Fix fix)

  same_cycle : (end : Option (Unit {0})) → cycle_of (After end) ≡ cycle_of walking
  same_cycle None = refl
  same_cycle (Some end) = ap (λ (b : Stage). record (cycle_of walking) { phase = stance_at (let a = announced_at b 0 in a.word) }) (as_announced st Fix fix)

  same_drawn : (end : Option (Unit {0})) → drawn_of (After end) ≡ drawn_of walking
  same_drawn None = refl
  same_drawn (Some end) = refl

  module _ (t : Space) (goes : WalkStep t) where
    settled_job : (end : Option (Unit {0})) → StandsAt kit l (cycle_of (After end)) t (stand_of plan (After end))
    settled_job None = tt
    settled_job (Some end) = tt

    no_search : (end : Option (Unit {0})) → SearchStands l (cycle_of (After end)) t (After end)
    no_search None = tt
    no_search (Some end) = tt

    passes : st.layout.passes ≡ l.passes
    passes = ap (λ (x : Sizes). x.passes) stands.collects.stage.layout

    -- all running passes are at Fix
    at_fix : (p : PassKnown R W E) → IsPassRecord kit l (announced_by walking) (cycle_of walking) s n p → acked_of p ≢ retired_word → stance_at (acked_of p) ≡ Fix_stance
    at_fix p own runs =
        let same = (answered_all l (announced_by walking) (number_of p) (acked_of p) (mark_of p) own.number (omega (arith, passes)) own.answering.marked runs).0 in
        ap stance_at same ∙ (stance_word st (stage_said l kit.kind stands.cycles stands.few st stands.collects.stage) ∙ ap stance_by fix)

    pass_fixed : (end : Option (Unit {0})) (p : PassKnown R W E) → IsPassRecord kit l (announced_by walking) (cycle_of walking) s n p → IsFixedPass kit walking s n p → IsFixedPass kit (After end) t n p
    pass_fixed end p own is = fixed_leaves kit walking (After end) s t n n p (record {
      names = λ runs by_next. goes.names;
      lets = λ runs by_next. inr (at_fix p own runs);
      polls = λ x e following. following_stays s t goes.names (polled_in kit p n) x following;
      roots = λ retired roots i less. word_names s t goes.names (n.root (number_of p) i) (is.roots retired (inr (let there = own.number in omega (arith, there.1, passes))) i less);
    }) own.answering.retired is

    -- once the walk has ended every field leads to a home
    fields_then : (end : Option (Unit {0})) → walks.end_of next ≡ end → cursor_of next ≡ wide_at l ⊎ (end ≡ None) → FixStands (After end) t n
    fields_then None e all = goes.walked_on
    fields_then (Some end) e (inl all) = λ fixed a f home less.
        (let area = row_area l t.state t.len t.ends t.region goes.rows a (1 + f) (home_there (t.state a) home) (omega (arith, less)) in
        let walked_all = goes.walked_on.passed in walked_all a f home less (omega (arith, area.1, all)))
    fields_then (Some end) e (inr none) = absurd (cc none)

    pub walk_step_goes : (cursor_of next ≡ wide_at l) ⊎ (walks.end_of next ≡ None) → CollectorGoes kit by l words plan s n sealed walking
    walk_step_goes all =
        let end : Option (Unit {0}) = walks.end_of next in
        let quiet = quiet_passes kit by l words walking s t n goes.seen (λ region own. goes.regions region) goes.history in
        record {
          space = t;
          notices = n;
          says = goes.says;
          announced = stands.announced ∙ sym (ap (λ (a : Announced). a.word) (same_announced end));
          drawn = stands.drawn ∙ sym (same_drawn end);
          spare = goes.spare;
          rows = goes.rows;
          bare = λ a none. (let same = goes.bare a in same.1 ∙ stands.bare a (sym same.0 ∙ none));
          objects = subst (λ (d : Cycle). AreObjects kit.protocol d t) (sym (same_cycle end)) goes.objects;
          lens = goes.lens;
          resting = λ a moving. absurd (stands.resting a (rw (let same = goes.bare a in same.0) at moving));
          history = goes.history;
          passes = λ p own. subst (λ (a : Announced). IsPassRecord kit l a (cycle_of (After end)) t n p) (sym (same_announced end)) (subst (λ (d : Cycle). IsPassRecord kit l (announced_by walking) d t n p) (sym (same_cycle end)) (quiet p own));
          jobs = settled_job end;
          search = no_search end;
          sealed_are = subst (AreSealed t) (sym (append-nil sealed)) goes.are_sealed;
          seals = tt;
          fixed = record {
            own = record { aside = λ a aside. absurd (stands.fixed.aside a (subst IsAside (let same = goes.bare a in same.0) aside)); stands = fields_then end refl all };
            passes = pass_fixed end;
          };
          heads = λ a. inl (goes.heads a);
        }
