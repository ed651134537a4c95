-- The table of Stopless: an object is tagged, and sealed once every pass knows of it: from then on each field has a wide word, by whose exchanges its
-- value is written and carried to the copy. A call that is about to write in a tagged object turns the tag to Kept.
use Rattle.std.specs.Prelude.{◌≡◌, ◌≢◌, ℕ, ◌+◌, ◌<◌, ◌≤◌, ◌⊎◌, zero, suc, nat_lt, if◌then◌else◌, Option, None}
use Rattle.heap_words.specs.declared.field_word.FieldWord.{FieldWord}
use Rattle.wide_objects.specs.Statuses.{Status, InOriginal, InWide, InCopy, word_of_status}
use Rattle.space_reclaim.specs.declared.move_job.MoveJob.{MoveJob}
use Rattle.heap_history.specs.FixedHeaps.{is_same}
use Rattle.heap_history.specs.NewestFirst.{value_at}
use Rattle.barriers.specs.declared.spot.Spot.{Spot}
use Rattle.barriers.specs.declared.ends.TryRefusal.TheVariants as refusal
use Rattle.barriers.specs.States.{State, Kept, Tagged, Wide, Moving, Forward}
use Rattle.barriers.specs.Stances.{Stance}
use Rattle.barriers.specs.Spaces.{Here, held, same_status}
use Rattle.barriers.specs.Values.{value_of}
use Rattle.barriers.specs.Cycles.{Everybody, Cycle, Side, ToldFits}
use Rattle.barriers.specs.Knowns.{Task, Reads, Writes, Exchanges, Refused, Known, Loads_header, Keeps, Loads, Stores, Swaps, Loads_wide, Swaps_wide, Loads_late, Loads_address, Loads_copy, Stores_copy, Swaps_copy, Follows, Over, Finds, Header_word, Field_word, Wide_word, Address, closes}
use Rattle.barriers.specs.Events.{Event, Quiet, Keep, Write, Write_copy, Widen, Tag, Lay, Point, Seal, Put_copy, Take, Pass_on, Fix_word, Unkeep, IsCopied, IsUncopied, IsWide}
use Rattle.barriers.specs.Moves.{Carried, Idles, Lays, Points, Gives_up, Seals, Forwards, Takes_up, Asks, Widens, Finishes, Puts}
use Rattle.barriers.specs.PlainCalls.{to_copy, loaded, end_made}
use Rattle.barriers.specs.CycleLaws.{IsTaggedOrKept}
use Rattle.barriers.specs.Protocols.{Protocol, WantsAt}
use Rattle.tagged_calls.specs.TaggedCalls.{tagged_fed}
use Rattle.tagged_calls.specs.TaggedTable.{MayStore, InTime, Sealed, DrawsNone, HasNoMark}

-- ---- the machines of calls

abbrev pub stopless_begins : Stance → ℕ → Option FieldWord → Spot → Task → Known
stopless_begins acked cycle own s t = Loads_header s t

-- the exchange of the wide word that has this word of the field, and of the one that says that the value is in the original
abbrev pub from_wide : Spot → Task → ℕ → FieldWord → ℕ → Known
from_wide s t wide x n = Swaps_wide s t wide (InWide x) n

abbrev pub from_original : Spot → Task → ℕ → FieldWord → ℕ → Known
from_original s t wide x n = Swaps_wide s t wide InOriginal n

-- with a wide word whose value is in the original: only a write need not know the value
abbrev pub by_original : Spot → Task → ℕ → Known
by_original s (Writes word) wide = Swaps_wide s (Writes word) wide InOriginal 2
by_original s t wide = Loads_late s t wide

-- with the wide word at hand
abbrev pub by_wide : Stance → Spot → Task → ℕ → Status → Known
by_wide acked s t wide InOriginal = by_original s t wide
by_wide acked s t wide (InWide x) = loaded (from_wide s t wide) acked s t x
by_wide acked s t wide (InCopy x) = Loads_address s t wide

-- an exchange wanted the one wide word and found the other
abbrev pub raced_wide : Spot → Task → Status → Status → Known
raced_wide s t x u = Over s t (Refused (refusal.Raced (word_of_status x) (word_of_status u)))

-- from the wide word x it found y in the wide object, which serves as well
abbrev pub again_wide : Spot → Task → ℕ → Status → FieldWord → ℕ → Known
again_wide s t wide x y zero = raced_wide s t x (InWide y)
again_wide s t wide x y (suc n) = from_wide s t wide y n

abbrev pub retried_wide : Stance → Spot → Task → ℕ → Status → FieldWord → ℕ → Known
retried_wide acked s Reads wide x y n = closes acked s Reads y
retried_wide acked s (Writes word) wide x y n = again_wide s (Writes word) wide x y n
retried_wide acked s (Exchanges expected word) wide x y n =
    if is_same (value_of y) expected then again_wide s (Exchanges expected word) wide x y n else closes acked s (Exchanges expected word) y

-- from the wide word x it found u; no value comes back into the original
abbrev pub lost_wide : Stance → Spot → Task → ℕ → Status → Status → ℕ → Known
lost_wide acked s t wide x InOriginal n = raced_wide s t x InOriginal
lost_wide acked s t wide x (InWide y) n = retried_wide acked s t wide x y n
lost_wide acked s t wide x (InCopy y) n = Loads_address s t wide

abbrev pub tried_wide : Stance → Spot → Task → ℕ → Status → Status → ℕ → Known
tried_wide acked s t wide x u n = if same_status u x then Over s t (end_made t (held u)) else lost_wide acked s t wide x u n

abbrev pub stopless_fed : Stance → Option FieldWord → Known → Finds → Known
stopless_fed acked own (Loads_wide s t wide) (Wide_word u) = by_wide acked s t wide u
stopless_fed acked own (Swaps_wide s t wide x n) (Wide_word u) = tried_wide acked s t wide x u n
stopless_fed acked own (Loads_late s t wide) (Field_word x) = loaded (from_original s t wide) acked s t x
stopless_fed acked own (Loads_address s t wide) (Address to) = to_copy s t to
stopless_fed acked own k found = tagged_fed Loads_wide acked k found

-- ---- the machine of the move

-- to the field, or past the last one
abbrev pub carries : MoveJob → ℕ → Carried
carries j f = if nat_lt f j.len then Asks j f else Forwards j

abbrev pub carries_by : MoveJob → ℕ → Status → Carried
carries_by j f InOriginal = Takes_up j f
carries_by j f (InWide w) = Puts j f w
carries_by j f (InCopy w) = carries j (f + 1)

abbrev pub sealed_by : MoveJob → State → Carried
sealed_by j Tagged = carries j 0
sealed_by j x = Gives_up j

abbrev pub stopless_move_fed : Carried → Finds → Carried
stopless_move_fed (Lays j) found = Points j
stopless_move_fed (Points j) found = Seals j
stopless_move_fed (Seals j) (Header_word x colour len) = sealed_by j x
stopless_move_fed (Asks j f) (Wide_word u) = carries_by j f u
stopless_move_fed (Takes_up j f) (Field_word w) = Widens j f w
stopless_move_fed (Widens j f w) (Wide_word u) = if same_status u InOriginal then Puts j f w else carries_by j f u
stopless_move_fed (Puts j f w) found = Finishes j f w
stopless_move_fed (Finishes j f w) (Wide_word u) = if same_status u (InWide w) then carries j (f + 1) else carries_by j f u
stopless_move_fed m found = Idles

-- ---- the rows of calls: where each is, what is true of the field

abbrev pub StoplessFits : Cycle → Side → Type 0
StoplessFits c side = ToldFits c.told side.acked

abbrev pub IsSealed : State → Type 0
IsSealed (Wide w) = Unit {0}
IsSealed (Forward to) = Unit {0}
IsSealed _ = ⊥

-- the wide object is this one's
abbrev pub IsAtWide : Here → ℕ → Type 0
IsAtWide x wide = IsSealed x.state × (wide ≡ x.wide) × (wide ≢ 0)

-- The wide word that a change exchanges is not InCopy, and its value is the wanted one.
abbrev pub IsCompared : Task → Here → Status → Type 0
IsCompared Reads x u = ⊥
IsCompared t x InOriginal = WantsAt t x.word
IsCompared t x (InWide w) = WantsAt t w
IsCompared t x (InCopy w) = ⊥

-- the field is in the copy, which is there
abbrev pub IsAtCopy : Here → ℕ → Type 0
IsAtCopy x to = IsSealed x.state × IsCopied x.status × (to ≡ x.to)

abbrev pub StoplessOwn : Cycle → Side → Here → Known → Type 0
StoplessOwn c side x (Loads_header s t) = Unit {0}
StoplessOwn c side x (Keeps s t tagged) = Unit {0}
StoplessOwn c side x (Loads s Reads) = InTime x.seal side.seen
StoplessOwn c side x (Loads s t) = MayStore side.acked x.state
StoplessOwn c side x (Stores s word) = MayStore side.acked x.state
StoplessOwn c side x (Swaps s t v n) = MayStore side.acked x.state
StoplessOwn c side x (Loads_wide s t wide) = IsAtWide x wide
StoplessOwn c side x (Swaps_wide s t wide u n) = IsAtWide x wide × IsCompared t x u
StoplessOwn c side x (Loads_late s t wide) = IsAtWide x wide × (value_of x.word ≡ value_at side.seen s.birth s.field)
StoplessOwn c side x (Loads_address s t wide) = IsAtWide x wide × IsCopied x.status
StoplessOwn c side x (Loads_copy s t to) = IsAtCopy x to
StoplessOwn c side x (Stores_copy s word to) = IsAtCopy x to
StoplessOwn c side x (Swaps_copy s t to v n) = IsAtCopy x to
StoplessOwn c side x (Follows s t m) = Unit {0}
StoplessOwn c side x (Over s t end) = Unit {0}
StoplessOwn c side x _ = ⊥

-- ---- every field

-- what is sealed has the words of that time, and its wide object has the copy's address
abbrev pub SealedHere : ℕ → ℕ → Here → Type 0
SealedHere b f x = Sealed b f x.word x.seal × (x.address ≡ x.to) × (x.wide ≢ 0)

-- wide words say InOriginal before the seal, and InCopy from Forward on
abbrev pub StoplessState : ℕ → ℕ → Here → State → Type 0
StoplessState b f x (Wide wide) = SealedHere b f x
StoplessState b f x (Forward to) = SealedHere b f x × IsCopied x.status
StoplessState b f x (Moving to) = ⊥
StoplessState b f x y = (x.seal ≡ None) × (x.status ≡ InOriginal)

pub record StoplessShape (c : Cycle) (b f : ℕ) (x : Here) (w : FieldWord) : Type 0 where
  pub state : StoplessState b f x x.state
  pub markless : HasNoMark c

-- ---- the rows of the move

-- the object is not sealed, and every pass knows that it may be
abbrev pub MayBeSealed : Cycle → Here → Type 0
MayBeSealed c x = IsTaggedOrKept x.state × (c.told ≡ Everybody)

-- its copy and its wide object are the job's
abbrev pub IsLaid : MoveJob → Here → Type 0
IsLaid j x = (j.to ≡ x.to) × (j.wide ≡ x.wide) × (j.wide ≢ 0)

abbrev pub IsCarrying : Cycle → MoveJob → Here → Type 0
IsCarrying c j x = IsWide x.state × (c.told ≡ Everybody) × (j.to ≡ x.to)

abbrev pub StoplessHead : Cycle → Carried → Here → Type 0
StoplessHead c Idles x = Unit {0}
StoplessHead c (Lays j) x = MayBeSealed c x × (j.wide ≢ 0)
StoplessHead c (Points j) x = MayBeSealed c x × IsLaid j x
StoplessHead c (Seals j) x = MayBeSealed c x × IsLaid j x × (x.address ≡ x.to)
StoplessHead c (Gives_up j) x = x.state ≡ Kept
StoplessHead c (Asks j f) x = IsCarrying c j x × (f < j.len)
StoplessHead c (Takes_up j f) x = IsCarrying c j x × (f < j.len)
StoplessHead c (Widens j f w) x = IsCarrying c j x × (f < j.len)
StoplessHead c (Puts j f w) x = IsCarrying c j x × (f < j.len)
StoplessHead c (Finishes j f w) x = IsCarrying c j x × (f < j.len)
StoplessHead c (Forwards j) x = IsCarrying c j x
StoplessHead c _ x = ⊥

-- the value is in the wide object or in the copy
abbrev pub IsTakenUp : Status → Type 0
IsTakenUp InOriginal = ⊥
IsTakenUp _ = Unit {0}

-- exactly the fields below this one are in the copy
abbrev pub IsCarriedTo : ℕ → ℕ → Status → Type 0
IsCarriedTo f g u = ((g < f) × IsCopied u) ⊎ ((f ≤ g) × IsUncopied u)

abbrev pub StoplessField : Cycle → Carried → ℕ → Here → FieldWord → Type 0
StoplessField c (Asks j f) g x w = IsCarriedTo f g x.status
StoplessField c (Takes_up j f) g x w = IsCarriedTo f g x.status
StoplessField c (Widens j f v) g x w = IsCarriedTo f g x.status × (g ≡ f → v ≡ x.word)
StoplessField c (Puts j f v) g x w = IsCarriedTo f g x.status × (g ≡ f → IsTakenUp x.status)
StoplessField c (Finishes j f v) g x w = IsCarriedTo f g x.status × (g ≡ f → IsTakenUp x.status × (w ≡ v))
StoplessField c (Forwards j) g x w = IsCopied x.status
StoplessField c _ g x w = Unit {0}

-- ---- its steps

abbrev pub StoplessMakes : Event → Type 0
StoplessMakes Quiet = Unit {0}
StoplessMakes Keep = Unit {0}
StoplessMakes (Write w) = Unit {0}
StoplessMakes (Write_copy w) = Unit {0}
StoplessMakes (Widen w) = Unit {0}
StoplessMakes Tag = Unit {0}
StoplessMakes (Lay to wide) = Unit {0}
StoplessMakes (Point to) = Unit {0}
StoplessMakes (Seal wide h) = wide ≢ 0
StoplessMakes (Put_copy w) = Unit {0}
StoplessMakes (Take w) = Unit {0}
StoplessMakes (Pass_on to) = Unit {0}
StoplessMakes (Fix_word w) = Unit {0}
StoplessMakes Unkeep = Unit {0}
StoplessMakes _ = ⊥

abbrev pub stopless : Protocol
stopless = record {
  begins = stopless_begins;
  fed = stopless_fed;
  move_begins = Lays;
  move_fed = stopless_move_fed;
  Makes = StoplessMakes;
  Phases = DrawsNone;
  Fits = StoplessFits;
  Right = HasNoMark;
  Shape = StoplessShape;
  Own = StoplessOwn;
  MoveHead = StoplessHead;
  MoveField = StoplessField;
}
