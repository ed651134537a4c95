-- How many jobs of the plan have come to something, where the plan is of the first cycle.
use Rattle.std.specs.Prelude.{◌≡◌, ℕ, ◌+◌, ◌≤◌, Bool, true, false, List, Option, Some, None}
use Rattle.heap_history.specs.declared.call.Call.{Call}
use Rattle.barriers.specs.Spaces.{Space}
use Rattle.lawful_records.specs.declared.stage.Announcement.{Announcement}
use Rattle.lawful_records.specs.declared.stage.Announcement.TheVariants.{Mark, Confirm, Search, Copy, Fix, Free}
use Rattle.lawful_records.specs.declared.collector.CollectorMachine.{CollectorMachine}
use Rattle.lawful_records.specs.declared.collector.CollectorMachine.TheVariants as collector
use Rattle.lawful_records.specs.Collectors.{is_planned}

-- while this is announced or awaited: no job before Fix in the cycle that has the plan
abbrev pub CountsAt : Bool → Announcement → ℕ → Type 0
CountsAt false a n = Unit {0}
CountsAt true Mark n = n ≡ 0
CountsAt true Confirm n = n ≡ 0
CountsAt true Search n = n ≡ 0
CountsAt true Copy n = n ≡ 0
CountsAt true Fix n = Unit {0}
CountsAt true Free n = Unit {0}

-- So many of the jobs before the next one have come to it, of which the job that is moved has so many to come: 1 or none.
abbrev pub HasCounted : {M : Type 0} → ℕ → CollectorMachine M → ℕ → Type 0
HasCounted left (collector.Announce s) n = CountsAt (is_planned s) s.announcement n
HasCounted left (collector.Await s pass m) n = CountsAt (is_planned s) s.announcement n
HasCounted left (collector.Draw s) n = CountsAt (is_planned s) Search n
HasCounted left (collector.Seek s m) n = CountsAt (is_planned s) Search n
HasCounted left (collector.Source s region next) n = n ≡ 0
HasCounted left (collector.Target s region next) n = n ≡ 0
HasCounted left (collector.Tag s job next) n = n ≡ 0
HasCounted left (collector.Move s job next m) n = n + left ≤ next
HasCounted left (collector.Roots s pass reg m) n = CountsAt (is_planned s) s.announcement n
HasCounted left (collector.Walk s m) n = CountsAt (is_planned s) Fix n
HasCounted left (collector.Done s) n = Unit {0}

-- ---- seals

-- a seal that is to come
abbrev pub unsealed : Option (List Call) → ℕ
unsealed None = 1
unsealed (Some past) = 0

-- of the object that is moved
abbrev pub unsealed_in : {M : Type 0} → Space → CollectorMachine M → ℕ
unsealed_in s (collector.Move st job next m) = unsealed (s.seal job.from)
unsealed_in s k = 1

-- a step that seals so many objects leaves no more seals to come than there were
abbrev pub KeepsSeal : {M : Type 0} → CollectorMachine M → Space → Space → ℕ → Type 0
KeepsSeal (collector.Move st job next m) s t now = now + unsealed (t.seal job.from) ≤ unsealed (s.seal job.from)
KeepsSeal k s t now = Unit {0}
