-- The table of Chicken: an object is tagged, and copied once every pass knows of it; a call that is about to write in it turns the tag to Kept, and
-- the copy counts only where the header is still Tagged at the end.
use Rattle.std.specs.Prelude.{◌≡◌, ℕ, ◌+◌, ◌<◌, nat_lt, if◌then◌else◌, Option, None}
use Rattle.heap_words.specs.declared.field_word.FieldWord.{FieldWord}
use Rattle.space_reclaim.specs.declared.move_job.MoveJob.{MoveJob}
use Rattle.barriers.specs.declared.spot.Spot.{Spot}
use Rattle.barriers.specs.States.{State, Kept, Tagged, Wide, Moving, Forward}
use Rattle.barriers.specs.Stances.{Stance}
use Rattle.wide_objects.specs.Statuses.{InOriginal}
use Rattle.barriers.specs.Spaces.{Here}
use Rattle.barriers.specs.Cycles.{Everybody, Cycle, Side, ToldFits}
use Rattle.barriers.specs.Knowns.{Task, Reads, Known, Loads_header, Keeps, Loads, Stores, Swaps, Loads_copy, Stores_copy, Swaps_copy, Follows, Over, Finds, Header_word, Field_word}
use Rattle.barriers.specs.Events.{Event, Quiet, Keep, Write, Write_copy, Tag, Lay, Put_copy, Seal_on, Fix_word, Unkeep}
use Rattle.barriers.specs.Moves.{Carried, Idles, Lays, Gives_up, Forwards, Takes_up, Puts}
use Rattle.barriers.specs.CycleLaws.{IsTaggedOrKept}
use Rattle.barriers.specs.Protocols.{Protocol}
use Rattle.tagged_calls.specs.TaggedCalls.{as_at_rest, tagged_fed}
use Rattle.tagged_calls.specs.TaggedTable.{MayStore, InTime, Sealed, DrawsNone, HasNoMark}

-- ---- the machines

abbrev pub chicken_begins : Stance → ℕ → Option FieldWord → Spot → Task → Known
chicken_begins acked cycle own s t = Loads_header s t

-- there are no wide objects: such a header would be taken for that of an object at rest
abbrev pub chicken_fed : Stance → Option FieldWord → Known → Finds → Known
chicken_fed acked own k found = tagged_fed as_at_rest acked k found

-- to the field, or past the last one
abbrev pub copies : MoveJob → ℕ → Carried
copies j f = if nat_lt f j.len then Takes_up j f else Forwards j

abbrev pub chicken_move_fed : Carried → Finds → Carried
chicken_move_fed (Lays j) found = copies j 0
chicken_move_fed (Takes_up j f) (Field_word w) = Puts j f w
chicken_move_fed (Puts j f w) found = copies j (f + 1)
chicken_move_fed (Forwards j) (Header_word Tagged colour len) = Idles
chicken_move_fed (Forwards j) found = Gives_up j
chicken_move_fed m found = Idles

-- ---- the rows of calls: where each is, what is true of the field

abbrev pub ChickenFits : Cycle → Side → Type 0
ChickenFits c side = ToldFits c.told side.acked

abbrev pub ChickenOwn : Cycle → Side → Here → Known → Type 0
ChickenOwn c side x (Loads_header s t) = Unit {0}
ChickenOwn c side x (Keeps s t tagged) = Unit {0}
ChickenOwn c side x (Loads s Reads) = InTime x.seal side.seen
ChickenOwn c side x (Loads s t) = MayStore side.acked x.state
ChickenOwn c side x (Stores s word) = MayStore side.acked x.state
ChickenOwn c side x (Swaps s t v n) = MayStore side.acked x.state
ChickenOwn c side x (Loads_copy s t to) = x.state ≡ Forward to
ChickenOwn c side x (Stores_copy s word to) = x.state ≡ Forward to
ChickenOwn c side x (Swaps_copy s t to v n) = x.state ≡ Forward to
ChickenOwn c side x (Follows s t m) = Unit {0}
ChickenOwn c side x (Over s t end) = Unit {0}
ChickenOwn c side x _ = ⊥

-- ---- every field: a moved original has a seal, and the words of that time

abbrev pub ChickenState : ℕ → ℕ → Here → State → Type 0
ChickenState b f x (Forward to) = Sealed b f x.word x.seal
ChickenState b f x (Wide wide) = ⊥
ChickenState b f x (Moving to) = ⊥
ChickenState b f x y = x.seal ≡ None

pub record ChickenShape (c : Cycle) (b f : ℕ) (x : Here) (w : FieldWord) : Type 0 where
  pub state : ChickenState b f x x.state
  pub markless : HasNoMark c
  pub status : x.status ≡ InOriginal

-- ---- the rows of the move

-- the object is not sealed, and every pass knows that it may be copied
abbrev pub IsCopying : Cycle → MoveJob → Here → Type 0
IsCopying c j x = IsTaggedOrKept x.state × (c.told ≡ Everybody) × (j.to ≡ x.to)

abbrev pub ChickenHead : Cycle → Carried → Here → Type 0
ChickenHead c Idles x = Unit {0}
ChickenHead c (Lays j) x = IsTaggedOrKept x.state × (c.told ≡ Everybody)
ChickenHead c (Takes_up j f) x = IsCopying c j x × (f < j.len)
ChickenHead c (Puts j f w) x = IsCopying c j x × (f < j.len)
ChickenHead c (Forwards j) x = IsCopying c j x
ChickenHead c (Gives_up j) x = x.state ≡ Kept
ChickenHead c _ x = ⊥

-- while the header is Tagged, copied fields are equal in original and copy, and the word in hand is the original's
abbrev pub ChickenField : Cycle → Carried → ℕ → Here → FieldWord → Type 0
ChickenField c (Takes_up j f) g x w = g < f → x.state ≡ Tagged → w ≡ x.word
ChickenField c (Puts j f v) g x w = (g < f → x.state ≡ Tagged → w ≡ x.word) × (g ≡ f → x.state ≡ Tagged → v ≡ x.word)
ChickenField c (Forwards j) g x w = x.state ≡ Tagged → w ≡ x.word
ChickenField c _ g x w = Unit {0}

-- ---- its steps

abbrev pub ChickenMakes : Event → Type 0
ChickenMakes Quiet = Unit {0}
ChickenMakes Keep = Unit {0}
ChickenMakes (Write w) = Unit {0}
ChickenMakes (Write_copy w) = Unit {0}
ChickenMakes Tag = Unit {0}
ChickenMakes (Lay to wide) = Unit {0}
ChickenMakes (Put_copy w) = Unit {0}
ChickenMakes (Seal_on to h) = Unit {0}
ChickenMakes (Fix_word w) = Unit {0}
ChickenMakes Unkeep = Unit {0}
ChickenMakes _ = ⊥

abbrev pub chicken : Protocol
chicken = record {
  begins = chicken_begins;
  fed = chicken_fed;
  move_begins = Lays;
  move_fed = chicken_move_fed;
  Makes = ChickenMakes;
  Phases = DrawsNone;
  Fits = ChickenFits;
  Right = HasNoMark;
  Shape = ChickenShape;
  Own = ChickenOwn;
  MoveHead = ChickenHead;
  MoveField = ChickenField;
}
