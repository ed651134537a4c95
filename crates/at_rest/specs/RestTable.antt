-- The table of objects at rest: nothing moves, so no row says anything of the object that the space does not.
use Rattle.std.specs.Prelude.{◌≡◌, ℕ, false, Option, None}
use Rattle.heap_words.specs.declared.field_word.FieldWord.{FieldWord}
use Rattle.wide_objects.specs.Statuses.{InOriginal}
use Rattle.barriers.specs.declared.spot.Spot.{Spot}
use Rattle.barriers.specs.States.{State, Plain, Kept}
use Rattle.barriers.specs.Stances.{Stance}
use Rattle.barriers.specs.Spaces.{Here}
use Rattle.barriers.specs.Cycles.{Cycle, Side, Phasing, Draw, Clears}
use Rattle.barriers.specs.Knowns.{Task, Known, Loads_header, Loads, Stores, Swaps, Follows, Over, Finds, Header_word}
use Rattle.barriers.specs.Events.{Event, Quiet, Write, Write_copy, Fix_word, Unkeep}
use Rattle.barriers.specs.Moves.{Carried, Idles, Looks}
use Rattle.barriers.specs.PlainCalls.{to_original, where_field, plainly_fed}
use Rattle.barriers.specs.Protocols.{Protocol}

-- ---- the machines

abbrev pub rest_begins : Stance → ℕ → Option FieldWord → Spot → Task → Known
rest_begins acked cycle own s t = Loads_header s t

abbrev pub rest_fed : Stance → Option FieldWord → Known → Finds → Known
rest_fed acked own (Loads_header s t) (Header_word x colour len) = where_field s t len (to_original s t)
rest_fed acked own k found = plainly_fed acked k found

abbrev pub rest_move_fed : Carried → Finds → Carried
rest_move_fed m found = Idles

-- ---- the rows

abbrev pub IsAtRest : State → Type 0
IsAtRest Plain = Unit {0}
IsAtRest Kept = Unit {0}
IsAtRest _ = ⊥

abbrev pub RestFits : Cycle → Side → Type 0
RestFits c side = Unit {0}

-- every object is at rest
pub record RestShape (c : Cycle) (b f : ℕ) (x : Here) (w : FieldWord) : Type 0 where
  pub state : IsAtRest x.state
  pub seal : x.seal ≡ None
  pub clear : c.clear ≡ false
  pub status : x.status ≡ InOriginal

abbrev pub RestOwn : Cycle → Side → Here → Known → Type 0
RestOwn c side x (Loads_header s t) = Unit {0}
RestOwn c side x (Loads s t) = Unit {0}
RestOwn c side x (Stores s word) = Unit {0}
RestOwn c side x (Swaps s t v n) = Unit {0}
RestOwn c side x (Follows s t m) = Unit {0}
RestOwn c side x (Over s t end) = Unit {0}
RestOwn c side x _ = ⊥

-- nothing moves
abbrev pub RestMakes : Event → Type 0
RestMakes Quiet = Unit {0}
RestMakes (Write w) = Unit {0}
RestMakes (Write_copy w) = Unit {0}
RestMakes (Fix_word w) = Unit {0}
RestMakes Unkeep = Unit {0}
RestMakes _ = ⊥

abbrev pub RestHead : Cycle → Carried → Here → Type 0
RestHead c Idles x = Unit {0}
RestHead c (Looks j) x = Unit {0}
RestHead c _ x = ⊥

-- no mark is drawn
abbrev pub RestPhases : Phasing → Type 0
RestPhases (Draw m) = ⊥
RestPhases (Clears b) = ⊥
RestPhases _ = Unit {0}

abbrev pub RestRight : Cycle → Type 0
RestRight c = c.clear ≡ false

abbrev pub at_rest : Protocol
at_rest = record {
  begins = rest_begins;
  fed = rest_fed;
  move_begins = Looks;
  move_fed = rest_move_fed;
  Makes = RestMakes;
  Phases = RestPhases;
  Fits = RestFits;
  Right = RestRight;
  Shape = RestShape;
  Own = RestOwn;
  MoveHead = RestHead;
  MoveField = λ c m g x w. Unit {0};
}
