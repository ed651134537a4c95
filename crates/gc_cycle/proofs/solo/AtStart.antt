-- The collector before its first cycle.
use Rattle.std.proofs.Common.{◌≡◌, ℕ, ◌+◌, Bool, true, false, refl}
use Rattle.std.specs.Prelude.{nat_lt, if◌then◌else◌}
use Rattle.heap_words.specs.Layouts.{Sizes}
use Rattle.object_headers.specs.declared.change.Kind.{Kind}
use Rattle.space_reclaim.specs.Plans.{Planned}
use Rattle.barriers.specs.Kits.{Kit}
use Rattle.lawful_records.specs.declared.stage.Announcement.TheVariants.{Mark}
use Rattle.lawful_records.specs.declared.collector.CollectorMachine.{CollectorMachine}
use Rattle.lawful_records.specs.declared.collector.CollectorMachine.TheVariants as collector
use Rattle.lawful_records.specs.Collectors.{stage_at_start, collector_of, passed_of}
use Rattle.lawful_records.specs.Cycling.{announced_by}

-- nothing is awaited, and no mark goes with what was announced
module _ (M : Type 0) (kind : Kind) (l : Sizes) (cycles salt : ℕ) where
  abbrev first : Bool → CollectorMachine M
  first more = if more then collector.Announce (record (stage_at_start kind l cycles salt) { cycle = 0 + 1; announcement = Mark }) else collector.Done (stage_at_start kind l cycles salt)

  passed_from : (more : Bool) → passed_of (first more) ≡ l.passes
  passed_from true = refl
  passed_from false = refl

  mark_from : (more : Bool) → (let a = announced_by (first more) in a.mark) ≡ 0
  mark_from true = refl
  mark_from false = refl

module _ {R W E M : Type 0} (kit : Kit R W E M) (plan : Planned) (l : Sizes) (cycles salt : ℕ) where
  pub passed_from_start : passed_of (collector_of kit plan l cycles salt) ≡ l.passes
  passed_from_start = passed_from M kit.kind l cycles salt (nat_lt 0 cycles)

  pub no_mark_at_start : (let a = announced_by (collector_of kit plan l cycles salt) in a.mark) ≡ 0
  no_mark_at_start = mark_from M kit.kind l cycles salt (nat_lt 0 cycles)
