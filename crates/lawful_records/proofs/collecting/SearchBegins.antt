-- After an await a search begins at most, and it has passed nothing.
use Rattle.std.specs.Prelude.{nat_lt, if◌then◌else◌}
use Rattle.std.proofs.Common.{◌≡◌, ℕ, ◌+◌, ◌≤◌, Bool, true, false, arith}
use Rattle.heap_words.specs.Layouts.{Sizes, IsLayout, first_word}
use Rattle.object_headers.specs.Changes.{is_clover}
use Rattle.mark_search.specs.Seeks as seeks
use Rattle.mark_search.specs.Seeks.{search_for}
use Rattle.mark_search.specs.SeekRuns.{cursor_of}
use Rattle.space_reclaim.specs.Plans.{Planned}
use Rattle.barriers.specs.Spaces.{Space}
use Rattle.barriers.specs.Rows.{Rows}
use Rattle.barriers.specs.Cycles.{Cycle}
use Rattle.barriers.specs.Kits.{Kit}
use Rattle.barriers.proofs.words.Headers.{home_there}
use Rattle.lawful_records.specs.declared.stage.Announcement.{Announcement}
use Rattle.lawful_records.specs.declared.stage.Announcement.TheVariants.{Mark, Confirm, Search, Copy, Fix, Free}
use Rattle.lawful_records.specs.declared.stage.Stage.{Stage}
use Rattle.lawful_records.specs.declared.collector.CollectorMachine.{CollectorMachine}
use Rattle.lawful_records.specs.declared.collector.CollectorMachine.TheVariants as collector
use Rattle.lawful_records.specs.Collectors.{mark_word, searched, work_at, moves_at, behind_by}
use Rattle.lawful_records.specs.Cycling.{cycle_of}
use Rattle.lawful_records.specs.Searches.{HasPassed, SearchStands}
use Rattle.lawful_records.proofs.collecting.Passing.{first_place}
use Rattle.lawful_records.proofs.collecting.Works.{IsBefore, none_sought, works_before, moves_before}

module _ {R W E M : Type 0} (kit : Kit R W E M) (plan : Planned) (l : Sizes) (s : Space) (rows : Rows l s.state s.len s.ends s.region) where
  -- nothing is below the first region
  none_below : (c : Cycle) (end : ℕ) → end ≤ first_word l 0 → HasPassed c s end
  none_below c end low a f home less below = let first = rows.above a (home_there (s.state a) home) in absurd (omega (arith, first, low, below))

  module _ (st : Stage) where
    abbrev Next : CollectorMachine M → Type 0
    Next k = SearchStands l (cycle_of k) s k

    next_free : (more : Bool) → Next (if more then collector.Announce (record st { cycle = st.cycle + 1; announcement = Mark }) else collector.Done st)
    next_free true = tt
    next_free false = tt

    -- before a stage is announced
    next_work : (x : Stage) (k : CollectorMachine M) → IsBefore x k → Next k
    next_work x k before = none_sought x l (cycle_of k) s k before

    next_copy : (b : Bool) → Next (if b then collector.Draw (searched st 1) else work_at kit plan (record st { announcement = Copy }))
    next_copy true = tt
    next_copy false = next_work (record st { announcement = Copy }) (work_at kit plan (record st { announcement = Copy })) (works_before kit plan (record st { announcement = Copy }))

    next_fix : (b : Bool) → Next (if b then work_at kit plan (record st { announcement = Fix }) else moves_at kit plan (record st { announcement = Fix }))
    next_fix true = next_work (record st { announcement = Fix }) (work_at kit plan (record st { announcement = Fix })) (works_before kit plan (record st { announcement = Fix }))
    next_fix false = next_work (record st { announcement = Fix }) (moves_at kit plan (record st { announcement = Fix })) (moves_before kit plan (record st { announcement = Fix }))

    -- after an await at most a search begins
    pub search_behind : IsLayout l → st.layout ≡ l → (a : Announcement) → Next (behind_by kit plan a st)
    search_behind fits layout Mark = tt
    search_behind fits layout Confirm = next_copy (is_clover st.kind)
    search_behind fits layout Search = record { at = tt; passed = none_below (cycle_of (behind_by kit plan Search st)) _ begins }
      where
        begins : cursor_of (seeks.begun st.layout (mark_word st)) ≤ first_word l 0
        begins = rw layout (let place = first_place l (mark_word st) 0 fits in omega (arith, place))
    search_behind fits layout Copy = next_fix (is_clover st.kind)
    search_behind fits layout Fix = tt
    search_behind fits layout Free = next_free (nat_lt st.cycle st.cycles)
