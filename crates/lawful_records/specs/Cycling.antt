-- What the collector's machine says of the cycle.
use Rattle.std.specs.Prelude.{ℕ, Bool, true, false, if◌then◌else◌}
use Rattle.handshakes.specs.Handshakes.{Announced}
use Rattle.barriers.specs.Stances.{stance_at, mark_in}
use Rattle.barriers.specs.Cycles.{Told, Nobody, Anybody, Everybody, Cycle}
use Rattle.lawful_records.specs.declared.stage.Announcement.{Announcement}
use Rattle.lawful_records.specs.declared.stage.Announcement.TheVariants.{Mark, Confirm, Search, Copy, Fix, Free}
use Rattle.lawful_records.specs.declared.collector.CollectorMachine.{CollectorMachine}
use Rattle.lawful_records.specs.declared.collector.CollectorMachine.TheVariants as collector
use Rattle.lawful_records.specs.declared.stage.Stage.{Stage}
use Rattle.lawful_records.specs.Collectors.{word_of, mark_at, is_refused, stage_before, stage_of, announced_of, drawn_of, passed_of}

-- who has acknowledged the cycle's last Copy word: while this is awaited, where a mark was refused or not
abbrev pub told_awaiting : Announcement → Bool → Told
told_awaiting Mark refused = Nobody
told_awaiting Confirm refused = Nobody
told_awaiting Search refused = Nobody
told_awaiting Copy refused = Anybody
told_awaiting Fix refused = if refused then Anybody else Everybody
told_awaiting Free refused = Anybody

-- and before this is announced
abbrev pub told_before : Announcement → Bool → Told
told_before Mark refused = Nobody
told_before Confirm refused = Nobody
told_before Search refused = Nobody
told_before Copy refused = Nobody
told_before Fix refused = if refused then Nobody else Everybody
told_before Free refused = Everybody

-- a search has ended clear, and Free is not announced: while this is awaited, where the last one has or has not
abbrev pub clear_awaiting : Announcement → Bool → Bool
clear_awaiting Copy clear = clear
clear_awaiting Fix clear = clear
clear_awaiting a clear = false

-- and before this is announced
abbrev pub clear_before : Announcement → Bool → Bool
clear_before Copy clear = clear
clear_before Fix clear = clear
clear_before Free clear = clear
clear_before a clear = false

abbrev pub told_until : Stage → Told
told_until s = told_before s.announcement (is_refused s)

abbrev pub clear_until : Stage → Bool
clear_until s = clear_before s.announcement s.marks.clear

-- what is announced, with so many passes passed
abbrev pub announced_at : Stage → ℕ → Announced
announced_at s passed = record { word = word_of s; before = word_of (stage_before s); passed = passed; mark = mark_at s; mark_before = mark_at (stage_before s) }

module _ {M : Type 0} where
  -- what is announced
  abbrev pub announced_by : CollectorMachine M → Announced
  announced_by k = announced_at (stage_of k) (passed_of k)

  abbrev pub told_by : CollectorMachine M → Told
  told_by (collector.Announce s) = told_until s
  told_by (collector.Await s pass m) = told_awaiting s.announcement (is_refused s)
  told_by (collector.Draw s) = Nobody
  told_by (collector.Seek s m) = Nobody
  told_by (collector.Source s region next) = told_until s
  told_by (collector.Target s region next) = told_until s
  told_by (collector.Tag s job next) = told_until s
  told_by (collector.Move s job next m) = told_until s
  told_by (collector.Roots s pass reg m) = told_awaiting s.announcement (is_refused s)
  told_by (collector.Walk s m) = Everybody
  told_by (collector.Done s) = Nobody

  abbrev pub clear_by : CollectorMachine M → Bool
  clear_by (collector.Announce s) = clear_until s
  clear_by (collector.Await s pass m) = clear_awaiting s.announcement s.marks.clear
  clear_by (collector.Draw s) = false
  clear_by (collector.Seek s m) = false
  clear_by (collector.Source s region next) = clear_until s
  clear_by (collector.Target s region next) = clear_until s
  clear_by (collector.Tag s job next) = clear_until s
  clear_by (collector.Move s job next m) = clear_until s
  clear_by (collector.Roots s pass reg m) = clear_awaiting s.announcement s.marks.clear
  clear_by (collector.Walk s m) = s.marks.clear
  clear_by (collector.Done s) = false

  -- The cycle as copiers see it. Nothing that has moved is given up yet, so its words may be read at all times.
  abbrev pub cycle_of : CollectorMachine M → Cycle
  cycle_of k = record {
    late = true;
    phase = stance_at (announced_of k);
    told = told_by k;
    mark = mark_in (drawn_of k);
    clear = clear_by k;
  }
