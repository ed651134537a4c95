-- What words have that stand still, and that a walk alone notes exactly that.
use Rattle.std.specs.Prelude.{◌≡◌, ℕ, zero, suc, ◌+◌, ◌==◌, ◌&&◌, if◌then◌else◌, List, [], ◌∷◌, ◌++◌, map, slice_index}
use Rattle.std.specs.List.{filter, flat_map, range_with_len}
use Rattle.call_steps.specs.declared.step.Step.{Step}
use Rattle.call_steps.specs.declared.step.Step.TheVariants.{Ended}
use Rattle.call_steps.specs.Alone.{RunsAlone}
use Rattle.heap_words.specs.Layouts.{Sizes, regions_of, region_at, first_word}
use Rattle.heap_words.specs.declared.limits.TheConstants.{REGION_WORDS}
use Rattle.object_headers.specs.Headers.{header_at}
use Rattle.space_reclaim.specs.declared.plan.RegionLive.{RegionLive}
use Rattle.space_reclaim.specs.declared.plan.ObjectRow.{ObjectRow}
use Rattle.space_reclaim.specs.Plans.{words_of}
use Rattle.live_walk.specs.declared.note.NoteMachine.{NoteMachine}
use Rattle.live_walk.specs.Walks.{walk_of, row_at, begins, is_live_at, offset_after, begun, asks_of, fed_of, finding_of}
use Rattle.live_walk.specs.Notes.{Notes, nothing_noted, noted_with}

-- ---- what words have

-- the word at such a place of a region
abbrev pub word_in : Sizes → List ℕ → ℕ → ℕ → ℕ
word_in l words region offset = slice_index words (first_word l region + offset)

-- the object that begins there, if it is live
abbrev pub live_at : Sizes → List ℕ → ℕ → ℕ → List ObjectRow
live_at l words region offset =
    if is_live_at offset (word_in l words region offset)
    then row_at (walk_of l) region offset (word_in l words region offset) ∷ []
    else []

-- the live objects among those of a region that stand one after another from there on, which are at most this many
unfoldable pub live_from : Sizes → List ℕ → ℕ → ℕ → ℕ → List ObjectRow
live_from l words region zero offset = []
live_from l words region (suc n) offset =
    if begins offset (word_in l words region offset)
    then live_at l words region offset
    ++ live_from l words region n (offset_after offset (word_in l words region offset))
    else []

-- the live objects of a region, which are no more than its words
abbrev pub live_in : Sizes → List ℕ → ℕ → List ObjectRow
live_in l words region = live_from l words region REGION_WORDS 0

-- the regions of which these words say that they are Filled: the word 2
abbrev pub filled_in : Sizes → List ℕ → List ℕ
filled_in l words = filter (λ region. slice_index words (region_at l region) == 2) (range_with_len 0 (regions_of l))

-- and the regions of the pool of which they say that they are Free: the word 0
abbrev pub free_in : Sizes → List ℕ → List ℕ
free_in l words = filter (λ region. slice_index words (region_at l region) == 0) (range_with_len 0 l.pool)

-- what is to be noted of words
abbrev pub notes_of : Sizes → List ℕ → Notes
notes_of l words = record {
  layout = l;
  live = map (λ region. record { region = region; words = words_of (live_in l words region) }) (filled_in l words);
  objects = flat_map (live_in l words) (filled_in l words);
  pool_free = free_in l words;
}

-- ---- the walk alone

-- a walk, and what it has noted
pub record Noting : Type 0 where
  pub machine : NoteMachine
  pub notes : Notes

-- before it
abbrev pub noting : Sizes → Noting
noting l = record { machine = begun l; notes = nothing_noted l }

abbrev pub noting_asks : Noting → Step
noting_asks n = asks_of n.machine

abbrev pub noting_fed : Noting → ℕ → Noting
noting_fed n word = record { machine = fed_of n.machine word; notes = noted_with n.notes (finding_of n.machine word) }

-- alone on words it notes exactly what they have
abbrev pub NotesWhatIsLive : Sizes → Type 0
NotesWhatIsLive l =
    (words left : List ℕ) (n : Noting) → RunsAlone noting_asks noting_fed (noting l, words) (n, left)
    → noting_asks n ≡ Ended → n.notes ≡ notes_of l words
