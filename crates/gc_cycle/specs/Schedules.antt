-- Which party takes the next step. The parties that can step stand in a list in rising order.
use Rattle.std.specs.Prelude.{ℕ, ◌%◌, nat_lt, List, length, find, slice_index, unwrap_or}
use Rattle.rand_pcg.specs.Lcg.{started, increment_of}
use Rattle.rand_pcg.specs.Pcg.{multiplier_128, pcg64}
use Rattle.gc_cycle.specs.declared.schedule.Schedule.{Schedule}
use Rattle.gc_cycle.specs.declared.schedule.Schedule.TheVariants as Schedules
use Rattle.gc_cycle.specs.declared.schedule.Chooser.{Chooser}
use Rattle.gc_cycle.specs.declared.schedule.Chooser.TheVariants as Choosers

-- the lowest party that can step; 0 where none can
abbrev pub lowest : List ℕ → ℕ
lowest ready = slice_index ready 0

-- the lowest party above the one that stepped last, and where there is none, the lowest
abbrev pub next_after : ℕ → List ℕ → ℕ
next_after last ready = unwrap_or (find (λ party. nat_lt last party) ready) (lowest ready)

-- the party at the place that a word draws, counted from 0
abbrev pub drawn : ℕ → List ℕ → ℕ
drawn word ready = slice_index ready (word % length ready)

-- where a schedule begins
abbrev pub chooser_of : Schedule → Chooser
chooser_of Schedules.Solo = Choosers.Solo
chooser_of Schedules.Even = Choosers.Even 0
chooser_of (Schedules.Drawn number) = Choosers.Drawn (started 128 multiplier_128 number (increment_of 128 2))

-- the party that takes the next step, and where the schedule is then; each draw takes one word
abbrev pub chosen_by : Chooser → List ℕ → ℕ × Chooser
chosen_by Choosers.Solo ready = (lowest ready, Choosers.Solo)
chosen_by (Choosers.Even last) ready = (next_after last ready, Choosers.Even (next_after last ready))
chosen_by (Choosers.Drawn generator) ready = (drawn (pcg64 generator).0 ready, Choosers.Drawn (pcg64 generator).1)
