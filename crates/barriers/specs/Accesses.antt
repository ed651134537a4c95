-- What a step of a call makes of the objects, and of its pass.
use Rattle.std.specs.Prelude.{ℕ, List}
use Rattle.heap_words.specs.declared.field_word.FieldWord.{FieldWord}
use Rattle.wide_objects.specs.Statuses.{InWide}
use Rattle.heap_history.specs.declared.call.Call.{Call}
use Rattle.barriers.specs.declared.spot.Spot.{Spot}
use Rattle.barriers.specs.Sets.{set, set2}
use Rattle.barriers.specs.States.{State, Kept}
use Rattle.barriers.specs.Spaces.{Space, here, copy_word}
use Rattle.barriers.specs.Cycles.{Cycle, Side}
use Rattle.barriers.specs.Knowns.{Known, Finds, finds, puts, spot_of, task_of, call_of}
use Rattle.barriers.specs.Events.{Event, Keep, Write, Write_copy, Widen, event, grown}
use Rattle.barriers.specs.Protocols.{Protocol, seen_after}

-- field f of the object with this birth number has a new word, which is put after the header at z
abbrev pub put_word : Space → ℕ → ℕ → ℕ → FieldWord → List Call → Space
put_word s b z f w h = record s { word = set2 s.word z f w; field = set2 s.field (s.home b) f w; history = h }

-- and here in the wide object of the object at a
abbrev pub put_status : Space → ℕ → ℕ → ℕ → FieldWord → List Call → Space
put_status s b a f w h = record s { status = set2 s.status a f (InWide w); field = set2 s.field (s.home b) f w; history = h }

abbrev pub put_state : Space → ℕ → State → Space
put_state s a x = record s { state = set s.state a x }

-- the objects after this event at the field of a call, by which the history is this
abbrev pub space_by : Space → Spot → List Call → Event → Space
space_by s z h Keep = put_state s z.at Kept
space_by s z h (Write w) = put_word s z.birth z.at z.field w h
space_by s z h (Write_copy w) = put_word s z.birth (s.to z.at) z.field w h
space_by s z h (Widen w) = put_status s z.birth z.at z.field w h
space_by s z h _ = s

-- what the step of a call finds
abbrev pub found_in : Cycle → Space → Known → Finds
found_in c s k = finds c.phase (here s (spot_of k).at (spot_of k).field) (copy_word s (spot_of k).at (spot_of k).field) k

-- the history after it
abbrev pub history_after : Cycle → Space → Side → Known → List Call
history_after c s side k = grown (puts k (found_in c s k)) (call_of side.pass (spot_of k) (task_of k)) s.history

abbrev pub space_after : Cycle → Space → Side → Known → Space
space_after c s side k = space_by s (spot_of k) (history_after c s side k) (event k (found_in c s k))

-- what its pass has seen after it
abbrev pub side_after : Cycle → Space → Side → Known → Side
side_after c s side k = record side {
  seen = seen_after (puts k (found_in c s k)) side (spot_of k) k (here s (spot_of k).at (spot_of k).field) (found_in c s k) s.history;
}

abbrev pub known_after : Protocol → Cycle → Space → Side → Known → Known
known_after P c s side k = P.fed side.acked side.own k (found_in c s k)
