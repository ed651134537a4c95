-- How many jobs have come to something, as the collector goes on.
use Rattle.std.specs.Prelude.{nat_lt, ◌≤◌, if◌then◌else◌}
use Rattle.std.specs.List.{slice_get}
use Rattle.std.proofs.Common.{inl, inr, ◌≡◌, ℕ, ◌+◌, ◌-◌, ◌==◌, Bool, true, false, List, Option, Some, None, refl, sym, ap, ◌∙◌, subst, arith}
use Rattle.std.proofs.lemmas.Bool.Decides.{nat_tests}
use Rattle.heap_words.specs.Layouts.{Sizes}
use Rattle.heap_words.specs.declared.limits.TheConstants.{REGISTERS}
use Rattle.object_headers.specs.declared.change.Kind.{Kind}
use Rattle.object_headers.specs.Changes.{is_clover}
use Rattle.mark_search.specs.declared.seek.SeekEnd.{SeekEnd}
use Rattle.mark_search.specs.declared.seek.SeekEnd.TheVariants.{Clear, MarkFound}
use Rattle.mark_search.specs.declared.seek.SeekMarkMachine.{SeekMarkMachine}
use Rattle.mark_search.specs.Seeks as seeks
use Rattle.reference_fix.specs.declared.root_fix.RootFixMachine.{RootFixMachine}
use Rattle.reference_fix.specs.declared.fix_walk.FixWalkMachine.{FixWalkMachine}
use Rattle.reference_fix.specs.RootFixes as roots
use Rattle.reference_fix.specs.FixWalks as walks
use Rattle.space_reclaim.specs.declared.move_job.MoveJob.{MoveJob}
use Rattle.space_reclaim.specs.Plans.{Planned}
use Rattle.heap_history.specs.declared.call.Call.{Call}
use Rattle.barriers.specs.declared.ends.MoveEnd.{MoveEnd}
use Rattle.barriers.specs.Spaces.{Space}
use Rattle.barriers.specs.Kits.{Kit}
use Rattle.lawful_records.specs.declared.stage.Announcement.{Announcement}
use Rattle.lawful_records.specs.declared.stage.Announcement.TheVariants.{Mark, Confirm, Search, Copy, Fix, Free}
use Rattle.lawful_records.specs.declared.stage.Stage.{Stage}
use Rattle.lawful_records.specs.declared.stage.TheConstants.{SEARCHES}
use Rattle.lawful_records.specs.declared.collector.CollectorMachine.{CollectorMachine}
use Rattle.lawful_records.specs.declared.collector.CollectorMachine.TheVariants as collector
use Rattle.lawful_records.specs.Collectors.{is_planned, searched, fed_of, look, awaited, root_fix, rooted, walked, sought, tag_at, move_at, target_at, source_at, work_at, moves_at, moved_by, behind_by}
use Rattle.lawful_records.specs.Counts.{CountsAt, HasCounted, unsealed, unsealed_in, KeepsSeal}
use Rattle.lawful_records.specs.JobStands.{IsMovedBy}
use Rattle.lawful_records.specs.Handshakes.{IsWork, work_before, IsCollector}
use Rattle.lawful_records.proofs.collecting.Playing.{look_tells, await_is}

-- before Fix it is none
none_before : (has : Bool) (a : Announcement) (n : ℕ) → n ≡ 0 → CountsAt has a n
none_before false a n none = tt
none_before true Mark n none = none
none_before true Confirm n none = none
none_before true Search n none = none
none_before true Copy n none = none
none_before true Fix n none = tt
none_before true Free n none = tt

counts_fix : (has : Bool) (n : ℕ) → CountsAt has Fix n
counts_fix true n = tt
counts_fix false n = tt

-- the count of a machine that does not move is that of its stage
abbrev IsMovingOne : {M : Type 0} → CollectorMachine M → Type 0
IsMovingOne (collector.Move s job next m) = Unit {0}
IsMovingOne k = ⊥

module _ {R W E M : Type 0} (kit : Kit R W E M) (plan : Planned) (left : ℕ) (most : left ≤ 1) (n : ℕ) where
  abbrev Counts : CollectorMachine M → Type 0
  Counts k = HasCounted left k n

  -- ---- the work on the plan

  -- before a move no more than the jobs before it
  pub move_counts : (o : Option MoveJob) (x : Stage) (at : ℕ) → x.announcement ≡ Fix → n ≤ at → Counts (move_at kit o x at)
  move_counts None x at fix few = rw fix (counts_fix (is_planned x) n)
  move_counts (Some job) x at fix few = omega (arith, few, most)

  tag_counts : (o : Option MoveJob) (x : Stage) (at : ℕ) → n ≡ 0 → Counts (tag_at o x at)
  tag_counts None x at none = none_before (is_planned x) x.announcement n none
  tag_counts (Some job) x at none = none

  targeted_by : (b : Bool) (x : Stage) → (b ≡ true → x.announcement ≡ Fix) → n ≡ 0 → Counts (if b then move_at kit (slice_get plan.jobs 0) x 0 else tag_at (slice_get plan.jobs 0) x 0)
  targeted_by true x fix none = move_counts (slice_get plan.jobs 0) x 0 (fix refl) (omega (arith, none))
  targeted_by false x fix none = tag_counts (slice_get plan.jobs 0) x 0 none

  target_counts : (o : Option MoveJob) (x : Stage) (at : ℕ) → (is_clover x.kind ≡ true → x.announcement ≡ Fix) → n ≡ 0 → Counts (target_at kit plan o x at)
  target_counts None x at fix none = targeted_by (is_clover x.kind) x fix none
  target_counts (Some job) x at fix none = none

  source_counts : (o : Option ℕ) (x : Stage) (at : ℕ) → (is_clover x.kind ≡ true → x.announcement ≡ Fix) → n ≡ 0 → Counts (source_at kit plan o x at)
  source_counts None x at fix none = target_counts (slice_get plan.jobs 0) x 0 fix none
  source_counts (Some region) x at fix none = none

  -- ---- after an await

  module _ (s : Stage) where
    abbrev at_copy : Stage
    at_copy = record s { announcement = Copy }

    abbrev at_fix : Stage
    at_fix = record s { announcement = Fix }

    copy_counts : (has : Bool) → is_planned s ≡ has → is_clover s.kind ≡ false → CountsAt has Confirm n → Counts (if has then source_at kit plan (slice_get plan.chosen 0) at_copy 0 else collector.Announce at_copy)
    copy_counts true e plain none = source_counts (slice_get plan.chosen 0) at_copy 0 (λ clover. absurd (let both : false ≡ true = sym plain ∙ clover in cc both)) none
    copy_counts false e plain none = rw e tt

    to_copy_by : (b : Bool) → is_clover s.kind ≡ b → CountsAt (is_planned s) Confirm n → Counts (if b then collector.Draw (searched s 1) else work_at kit plan at_copy)
    to_copy_by true e counts = same_search (is_planned s) counts where
      same_search : (has : Bool) → CountsAt has Confirm n → CountsAt has Search n
      same_search true none = none
      same_search false none = tt
    to_copy_by false e counts = copy_counts (is_planned s) refl e counts

    fix_counts : (has : Bool) → CountsAt has Copy n → Counts (if has then source_at kit plan (slice_get plan.chosen 0) at_fix 0 else collector.Announce at_fix)
    fix_counts true none = source_counts (slice_get plan.chosen 0) at_fix 0 (λ clover. refl) none
    fix_counts false none = counts_fix (is_planned s) n

    moves_counts : (has : Bool) → CountsAt has Copy n → Counts (if has then move_at kit (slice_get plan.jobs 0) at_fix 0 else collector.Announce at_fix)
    moves_counts true none = move_counts (slice_get plan.jobs 0) at_fix 0 refl (omega (arith, none))
    moves_counts false none = counts_fix (is_planned s) n

    to_fix_by : (b : Bool) → CountsAt (is_planned s) Copy n → Counts (if b then work_at kit plan at_fix else moves_at kit plan at_fix)
    to_fix_by true counts = fix_counts (is_planned s) counts
    to_fix_by false counts = moves_counts (is_planned s) counts

    next_counts : (more : Bool) → 1 ≤ s.cycle → Counts (if more then collector.Announce (record s { cycle = s.cycle + 1; announcement = Mark }) else collector.Done s)
    next_counts true first = let later : (s.cycle + 1 == 1) ≡ false = grind (arith, nat_tests, first) in rw later tt
    next_counts false first = tt

    later : (has : Bool) (a b : Announcement) → CountsAt has a n → (n ≡ 0 → CountsAt true b n) → (CountsAt true a n → n ≡ 0) → CountsAt has b n
    later true a b counts on none = on (none counts)
    later false a b counts on none = tt

    behind_counts : (a : Announcement) → 1 ≤ s.cycle → CountsAt (is_planned s) a n → Counts (behind_by kit plan a s)
    behind_counts Mark first counts = later (is_planned s) Mark Confirm counts (λ none. none) (λ none. none)
    behind_counts Confirm first counts = to_copy_by (is_clover s.kind) refl counts
    behind_counts Search first counts = counts
    behind_counts Copy first counts = to_fix_by (is_clover s.kind) counts
    behind_counts Fix first counts = counts
    behind_counts Free first counts = next_counts (nat_lt s.cycle s.cycles) first

    awaited_counts : (pass : ℕ) (more : Bool) → 1 ≤ s.cycle → CountsAt (is_planned s) s.announcement n → Counts (if more then look s (pass + 1) else behind_by kit plan s.announcement s)
    awaited_counts pass true first counts = counts
    awaited_counts pass false first counts = behind_counts s.announcement first counts

    look_counts : (fed : M → ℕ → M) (pass found : ℕ) → 1 ≤ s.cycle → CountsAt (is_planned s) s.announcement n → Counts (fed_of kit fed plan (look s pass) found)
    look_counts fed pass found first counts = elim (look_tells kit plan fed s pass found) [
      | inl on ↦ subst Counts (sym on.1) (awaited_counts pass (nat_lt pass s.layout.passes) first counts)
      | inr rest ↦ elim rest [ inl again ↦ subst Counts (sym again) counts | inr roots ↦ subst Counts (sym roots.2) counts ]
    ]

    rooted_counts : (pass reg : ℕ) (m : RootFixMachine) (end : Option (Unit {0})) → 1 ≤ s.cycle → CountsAt (is_planned s) s.announcement n → Counts (rooted kit plan s pass reg m end)
    rooted_counts pass reg m None first counts = counts
    rooted_counts pass reg m (Some end) first counts = next_root (nat_lt reg (REGISTERS - 1)) where
      next_root : (more : Bool) → Counts (if more then root_fix s pass (reg + 1) else awaited kit plan s pass)
      next_root true = counts
      next_root false = awaited_counts pass (nat_lt pass s.layout.passes) first counts

    walked_counts : (m : FixWalkMachine) (end : Option (Unit {0})) → CountsAt (is_planned s) Fix n → Counts (walked s m end)
    walked_counts m None counts = counts
    walked_counts m (Some end) counts = free_counts (is_planned s) where
      free_counts : (has : Bool) → CountsAt has Free n
      free_counts true = tt
      free_counts false = tt

    found_counts : (more : Bool) → CountsAt (is_planned s) Search n → Counts (if more then collector.Draw (searched s (s.marks.round + 1)) else collector.Announce at_fix)
    found_counts true counts = counts
    found_counts false counts = counts_fix (is_planned s) n

    sought_counts : (m : SeekMarkMachine) (end : Option SeekEnd) → CountsAt (is_planned s) Search n → Counts (sought s m end)
    sought_counts m None counts = counts
    sought_counts m (Some Clear) counts = later (is_planned s) Search Copy counts (λ none. none) (λ none. none)
    sought_counts m (Some (MarkFound place)) counts = found_counts (nat_lt s.marks.round SEARCHES) counts

  -- ---- each step but those of a move

  fix_before : (l : Sizes) (kind : Kind) (cycles : ℕ) (x : Stage) → IsWork l kind cycles (work_before kind) x → is_clover x.kind ≡ true → x.announcement ≡ Fix
  fix_before l kind cycles x work clover = let its : is_clover kind ≡ true = sym (ap is_clover work.stage.kind_is) ∙ clover in work.next_is ∙ rw its refl

  pub counts_fed : (fed : M → ℕ → M) (l : Sizes) (kind : Kind) (cycles before : ℕ) (k : CollectorMachine M) (found : ℕ) → (IsMovingOne k → ⊥) → IsCollector l kind cycles plan k → HasCounted before k n → Counts (fed_of kit fed plan k found)
  counts_fed fed l kind cycles before (collector.Announce s) found idle is counts = counts
  counts_fed fed l kind cycles before (collector.Await s pass m) found idle is counts =
      subst (λ (k : CollectorMachine M). Counts (fed_of kit fed plan k found)) (sym (await_is kit fed l kind cycles s pass m is)) (look_counts s fed pass found is.stage.first counts)
  counts_fed fed l kind cycles before (collector.Draw s) found idle is counts = rw is.search counts
  counts_fed fed l kind cycles before (collector.Seek s m) found idle is counts = sought_counts s (seeks.fed_of m found) (seeks.end_of (seeks.fed_of m found)) counts
  counts_fed fed l kind cycles before (collector.Source s region next) found idle is counts = source_counts (slice_get plan.chosen next) s next (fix_before l kind cycles s is.0) counts
  counts_fed fed l kind cycles before (collector.Target s region next) found idle is counts = target_counts (slice_get plan.jobs next) s next (fix_before l kind cycles s is.0) counts
  counts_fed fed l kind cycles before (collector.Tag s job next) found idle is counts = tag_counts (slice_get plan.jobs next) s next counts
  counts_fed fed l kind cycles before (collector.Move s job next m) found idle is counts = absurd (idle tt)
  counts_fed fed l kind cycles before (collector.Roots s pass reg m) found idle is counts = rooted_counts s pass reg (roots.fed_of m found) (roots.end_of (roots.fed_of m found)) is.stage.first counts
  counts_fed fed l kind cycles before (collector.Walk s m) found idle is counts = walked_counts s (walks.fed_of m found) (walks.end_of (walks.fed_of m found)) counts
  counts_fed fed l kind cycles before (collector.Done s) found idle is counts = tt

-- ---- seals

module _ {M : Type 0} (s t : Space) where
  pub most_unsealed : (k : CollectorMachine M) → unsealed_in s k ≤ 1
  most_unsealed (collector.Move st job next m) = by_seal (s.seal job.from) where
    by_seal : (o : Option (List Call)) → unsealed o ≤ 1
    by_seal None = omega arith
    by_seal (Some past) = omega arith
  most_unsealed k = omega arith

  -- one that does not move seals nothing
  pub keeps_idle : (k : CollectorMachine M) (now : ℕ) → ((a : ℕ) → IsMovedBy k a → ⊥) → KeepsSeal k s t now
  keeps_idle (collector.Move st job next m) now idle = absurd (idle job.from refl)
  keeps_idle k now idle = tt

-- a seal stays what it is
pub seal_on : (s t : Space) (a : ℕ) → ((past : List Call) → s.seal a ≡ Some past → t.seal a ≡ Some past) → unsealed (t.seal a) ≤ unsealed (s.seal a)
seal_on s t a stays = by_seal (s.seal a) refl where
  some : (past : List Call) → t.seal a ≡ Some past → unsealed (t.seal a) ≡ 0
  some past e = ap unsealed e

  least : (o : Option (List Call)) → unsealed o ≤ 1
  least None = omega arith
  least (Some past) = omega arith

  by_seal : (o : Option (List Call)) → s.seal a ≡ o → unsealed (t.seal a) ≤ unsealed o
  by_seal None e = least (t.seal a)
  by_seal (Some past) e = let none = some past (stays past e) in omega (arith, none)

module _ {R W E M : Type 0} (kit : Kit R W E M) (plan : Planned) (s t : Space) (sealed more : ℕ) where
  -- after a step of a move
  pub counts_moved : (st : Stage) (job : MoveJob) (next : ℕ) (m after : M) (x : Option MoveEnd) → st.announcement ≡ Fix → HasCounted (unsealed_in s (collector.Move st job next m)) (collector.Move st job next m) sealed → KeepsSeal (collector.Move st job next m) s t more
      → HasCounted (unsealed_in t (moved_by kit plan st job next after x)) (moved_by kit plan st job next after x) (sealed + more)
  counts_moved st job next m after None fix counts keeps = omega (arith, counts, keeps)
  counts_moved st job next m after (Some end) fix counts keeps =
      let on : CollectorMachine M = move_at kit (slice_get plan.jobs next) st next in
      move_counts kit plan (unsealed_in t on) (most_unsealed t t on) (sealed + more) (slice_get plan.jobs next) st next fix (omega (arith, counts, keeps))
