-- What is fixed, where the await of a pass ends.
use Rattle.std.specs.Prelude.{nat_lt, if◌then◌else◌}
use Rattle.std.proofs.Common.{◌≡◌, ℕ, ◌+◌, ◌≤◌, Bool, true, false, refl, arith}
use Rattle.std.proofs.lemmas.Bool.Decides.{nat_tests}
use Rattle.heap_words.specs.Layouts.{Sizes, IsLayout, first_word}
use Rattle.heap_words.specs.PlaceLaws.{words_of-bound}
use Rattle.object_headers.specs.Changes.{is_clover}
use Rattle.space_reclaim.specs.Plans.{Planned}
use Rattle.reference_fix.specs.FixWalks as walks
use Rattle.reference_fix.specs.FixWalkRuns.{cursor_of}
use Rattle.barriers.specs.Kits.{Kit}
use Rattle.barriers.specs.Rows.{Rows}
use Rattle.barriers.specs.Says.{Notices}
use Rattle.barriers.specs.Spaces.{Space}
use Rattle.barriers.proofs.words.Headers.{home_there}
use Rattle.lawful_records.specs.declared.stage.Announcement.{Announcement}
use Rattle.lawful_records.specs.declared.stage.Announcement.TheVariants.{Mark, Confirm, Search, Copy, Fix, Free}
use Rattle.lawful_records.specs.declared.stage.Stage.{Stage}
use Rattle.lawful_records.specs.declared.collector.CollectorMachine.{CollectorMachine}
use Rattle.lawful_records.specs.declared.collector.CollectorMachine.TheVariants as collector
use Rattle.lawful_records.specs.Collectors.{searched, look, work_at, moves_at, to_fix, behind_by}
use Rattle.lawful_records.proofs.collecting.Works.{IsBefore, works_before, moves_before}
use Rattle.lawful_records.specs.Fixing.{fixed_at, is_fixed, fixed_passes, HasFixed, AreFieldsFixed, FixStands}

-- the work on a plan before a stage fixes nothing, and moves nothing yet
pub before_fixed : {M : Type 0} (st : Stage) (s : Space) (n : Notices) (k : CollectorMachine M) → IsBefore st k → AreFieldsFixed s → FixStands k s n
before_fixed st s n (collector.Announce x) is fields = λ e. fields
before_fixed st s n (collector.Source x region next) is fields = λ e. fields
before_fixed st s n (collector.Target x region next) is fields = λ e. fields
before_fixed st s n (collector.Tag x job next) is fields = λ e. fields
before_fixed st s n (collector.Move x job next m) is fields = λ e. fields
before_fixed st s n k is fields = absurd is

before_few : {M : Type 0} (st : Stage) (k : CollectorMachine M) → IsBefore st k → fixed_passes k ≡ 0
before_few st (collector.Announce x) is = refl
before_few st (collector.Source x region next) is = refl
before_few st (collector.Target x region next) is = refl
before_few st (collector.Tag x job next) is = refl
before_few st (collector.Move x job next m) is = refl
before_few st k is = absurd is

module _ {R W E M : Type 0} (kit : Kit R W E M) (plan : Planned) (st : Stage) where
  abbrev at_copy : Stage
  at_copy = record st { announcement = Copy }

  abbrev at_fix : Stage
  at_fix = record st { announcement = Fix }

  -- before Fix is announced
  fix_before : (b : Bool) → IsBefore at_fix (if b then work_at kit plan at_fix else moves_at kit plan at_fix)
  fix_before true = works_before kit plan at_fix
  fix_before false = moves_before kit plan at_fix

  -- ---- fields

  module _ (l : Sizes) (s : Space) (n : Notices) (rows : Rows l s.state s.len s.ends s.region) where
    abbrev Next : CollectorMachine M → Type 0
    Next k = FixStands k s n

    -- a walk has passed nothing before its first step
    none_below : (end : ℕ) → end ≤ first_word l 0 → HasFixed s end
    none_below end low a f home less below = let first = rows.above a (home_there (s.state a) home) in absurd (omega (arith, first, low, below))

    copy_fixed : AreFieldsFixed s → (b : Bool) → Next (if b then collector.Draw (searched st 1) else work_at kit plan at_copy)
    copy_fixed fields true = λ e. fields
    copy_fixed fields false = before_fixed at_copy s n (work_at kit plan at_copy) (works_before kit plan at_copy) fields

    free_fixed : AreFieldsFixed s → (more : Bool) → Next (if more then collector.Announce (record st { cycle = st.cycle + 1; announcement = Mark }) else collector.Done st)
    free_fixed fields true = λ e. fields
    free_fixed fields false = λ e. fields

    pub fixed_behind : IsLayout l → st.layout ≡ l → (a : Announcement) → (fixed_at a ≡ true → AreFieldsFixed s) → Next (behind_by kit plan a st)
    fixed_behind fits layout Mark fields = λ e. fields refl
    fixed_behind fits layout Confirm fields = copy_fixed (fields refl) (is_clover st.kind)
    fixed_behind fits layout Search fields = λ e. fields refl
    fixed_behind fits layout Copy fields = before_fixed at_fix s n (to_fix kit plan st) (fix_before (is_clover st.kind)) (fields refl)
    fixed_behind fits layout Fix fields = record { at = tt; passed = none_below _ begins }
      where
        begins : cursor_of (walks.begun st.layout) ≤ first_word l 0
        begins = rw layout (let most = words_of-bound l fits in omega (arith, most))
    fixed_behind fits layout Free fields = free_fixed (fields refl) (nat_lt st.cycle st.cycles)

  -- ---- passes

  abbrev Fixed : CollectorMachine M → Type 0
  Fixed k = is_fixed k ≡ true

  -- what comes after Fix is not fixed yet
  pub fixed_before : (a : Announcement) → Fixed (behind_by kit plan a st) → fixed_at a ≡ true
  fixed_before Fix e = cc e
  fixed_before Mark e = refl
  fixed_before Confirm e = refl
  fixed_before Search e = refl
  fixed_before Copy e = refl
  fixed_before Free e = refl

  -- and no root words are, but where all are
  copy_few : (b : Bool) → fixed_passes {M = M} (if b then collector.Draw (searched st 1) else work_at kit plan at_copy) ≡ 0
  copy_few true = refl
  copy_few false = before_few at_copy (work_at kit plan at_copy) (works_before kit plan at_copy)

  free_few : (more : Bool) → fixed_passes {M = M} (if more then collector.Announce (record st { cycle = st.cycle + 1; announcement = Mark }) else collector.Done st) ≡ 0
  free_few true = refl
  free_few false = refl

  few_behind : (a : Announcement) → fixed_passes (behind_by kit plan a st) ≤ st.layout.passes
  few_behind Mark = omega arith
  few_behind Confirm = omega (arith, copy_few (is_clover st.kind))
  few_behind Search = omega arith
  few_behind Copy = omega (arith, before_few at_fix (to_fix kit plan st) (fix_before (is_clover st.kind)))
  few_behind Fix = omega arith
  few_behind Free = omega (arith, free_few (nat_lt st.cycle st.cycles))

  -- after the await of a pass no more are than have answered
  pub few_awaited : (pass : ℕ) (more : Bool) → nat_lt pass st.layout.passes ≡ more → fixed_passes (if more then look st (pass + 1) else behind_by kit plan st.announcement st) ≤ pass
  few_awaited pass true e = omega arith
  few_awaited pass false e = let few = few_behind st.announcement in let most : st.layout.passes ≤ pass = grind (arith, nat_tests, e) in omega (arith, few, most)

  pub fixed_awaited : (pass : ℕ) (more : Bool) → Fixed (if more then look st (pass + 1) else behind_by kit plan st.announcement st) → fixed_at st.announcement ≡ true
  fixed_awaited pass true e = e
  fixed_awaited pass false e = fixed_before st.announcement e
