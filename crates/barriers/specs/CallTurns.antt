-- What a turn of one party is to all others, and what a step of a call comes to.
use Rattle.std.specs.Prelude.{◌≡◌, ◌≢◌, ℕ, ◌<◌, ◌⊎◌, true, List, Some}
use Rattle.heap_words.specs.declared.field_word.FieldWord.{FieldWord}
use Rattle.space_reclaim.specs.declared.move_job.MoveJob.{MoveJob}
use Rattle.heap_history.specs.FixedHeaps.{answer}
use Rattle.heap_history.specs.NewestFirst.{heap_of_history, Before}
use Rattle.heap_history.specs.declared.call.Call.{Call}
use Rattle.barriers.specs.States.{Plain, Underway, IsHome, IsLive}
use Rattle.barriers.specs.Spaces.{Space, here, zone, Copied, place_word, copy_word}
use Rattle.barriers.specs.Cycles.{Cycle, Side}
use Rattle.barriers.specs.Knowns.{Known, has_found, spot_of, task_of, call_of, copy_of, wide_of, puts}
use Rattle.barriers.specs.Events.{Event, after, after_copy, May}
use Rattle.barriers.specs.Moves.{Carried, job_of}
use Rattle.barriers.specs.Protocols.{Protocol}
use Rattle.barriers.specs.ProtocolLaws.{Dated, ByPass, GoesOn}
use Rattle.barriers.specs.Objects.{Counts, HasLens, AreObjects, IsSide, IsCall, IsMove, reply_made}
use Rattle.barriers.specs.Accesses.{found_in, space_after, side_after, known_after}

-- the copy that a call is at, of the object at `at`
pub record IsAimed (c : Cycle) (s : Space) (at field to : ℕ) : Type 0 where
  pub to_is : to ≡ s.to at
  pub place : zone c.mark (s.state at) (s.word at field) (s.status at field) ≡ Copied
  pub state : (s.state to ≡ Plain) ⊎ (s.state to ≡ Underway)
  pub birth : s.birth to ≡ s.birth at
  pub len : s.len to ≡ s.len at

module _ (P : Protocol) where
  -- a turn by which the space goes from s to t, at a field of the object at a
  pub record Sees (c : Cycle) (s t : Space) (a f : ℕ) : Type 0 where
    pub event : Event
    pub here_is : here t a f ≡ after event (here s a f)
    pub copy_is : (copy_word t a f ≡ after_copy event (copy_word s a f)) ⊎ (zone c.mark (t.state a) (t.word a f) (t.status a f) ≡ Copied → ⊥)
    pub makes : P.Makes event
    pub may : May c (here s a f) event
    pub dated : Dated s.history event
    pub place : ByPass event ⊎ (place_word c.mark (after event (here s a f)) (after_copy event (copy_word s a f)) ≡ place_word c.mark (here s a f) (copy_word s a f))

  -- Such a turn, as all others see it: what is live stays what it is, what counts does so still, each field is changed as the table allows, and
  -- the history only grows.
  pub record Seen (c : Cycle) (s t : Space) : Type 0 where
    pub live : (a : ℕ) → IsLive (s.state a) → IsLive (t.state a)
    pub counts : (a : ℕ) → Counts c (s.state a) → Counts c (t.state a)
    pub birth : (a : ℕ) → IsLive (s.state a) → t.birth a ≡ s.birth a
    pub len : (a : ℕ) → IsLive (s.state a) → t.len a ≡ s.len a
    pub colour : (a : ℕ) → IsLive (s.state a) → t.colour a ≡ s.colour a
    pub sees : (a f : ℕ) → IsLive (s.state a) → f < s.len a → Sees c s t a f
    pub grows : (h : List Call) → Before h s.history → Before h t.history

  -- a step of a call: what holds of the objects and of the call holds after it
  pub record CallStep (c : Cycle) (s : Space) (p : Side) (k : Known) : Type 0 where
    pub objects : AreObjects P c (space_after c s p k)
    pub lens : HasLens (space_after c s p k)
    pub side : IsSide P c (space_after c s p k) (side_after c s p k)
    pub call : IsCall P c (space_after c s p k) (side_after c s p k) (known_after P c s p k)
    pub seen : Seen c s (space_after c s p k)
    pub homes : (a : ℕ) → IsHome (s.state a) → IsHome ((space_after c s p k).state a)
    -- a move stays where it is
    pub moves : (m : Carried) (j : MoveJob) → job_of m ≡ Some j → IsMove P c s m j → IsMove P c (space_after c s p k) m j
    -- how it goes on, and what it has found it has found in the object
    pub goes : GoesOn P p.acked p.own k (found_in c s k)
    pub found_inside : has_found (known_after P c s p k) ≡ true → (spot_of k).field < s.len (spot_of k).at
    -- where it is
    pub aim : (to : ℕ) → copy_of k ≡ Some to → IsAimed c s (spot_of k).at (spot_of k).field to
    pub wide : (wide : ℕ) → wide_of k ≡ Some wide → (wide ≡ s.wide (spot_of k).at) × (wide ≢ 0)
    -- its change is one of the heap
    pub fits : (w : FieldWord) → puts k (found_in c s k) ≡ Some w → answer (heap_of_history s.history) (call_of p.pass (spot_of k) (task_of k)) ≡ reply_made (task_of k)
