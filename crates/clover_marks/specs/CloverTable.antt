-- The table of Clover: once a search has ended clear and every pass has acknowledged that, the mark stands in place of each value that has moved.
use Rattle.std.specs.Prelude.{◌≡◌, ◌≢◌, ℕ, ◌+◌, ◌<◌, ◌≤◌, ◌⊎◌, Bool, true, false, nat_lt, if◌then◌else◌, List, Option, Some, None}
use Rattle.heap_words.specs.declared.field_word.FieldWord.{FieldWord}
use Rattle.heap_words.specs.declared.field_word.FieldWord.TheVariants.{Num}
use Rattle.heap_words.specs.FieldWords.{word_of}
use Rattle.wide_objects.specs.Statuses.{InOriginal}
use Rattle.space_reclaim.specs.declared.move_job.MoveJob.{MoveJob}
use Rattle.heap_history.specs.NewestFirst.{value_at}
use Rattle.heap_history.specs.declared.call.Call.{Call}
use Rattle.barriers.specs.declared.spot.Spot.{Spot}
use Rattle.barriers.specs.declared.ends.TryRefusal.TheVariants as refusal
use Rattle.barriers.specs.States.{State, Plain, Kept, Tagged, Wide, Moving, Forward, same_word}
use Rattle.barriers.specs.Stances.{Stance, Free}
use Rattle.barriers.specs.Spaces.{Here, is_mark, place_word}
use Rattle.barriers.specs.Values.{value_of}
use Rattle.barriers.specs.Cycles.{Everybody, Cycle, Side, Phasing, IsTold, IsMoving, IsSet, ToldFits}
use Rattle.barriers.specs.Knowns.{Task, Reads, Writes, Exchanges, Refused, Known, Checks, Loads_header, Loads, Stores, Swaps, Loads_again, Loads_copy, Stores_copy, Swaps_copy, Follows, Over, Finds, Phase_word, Header_word, Field_word, writes_yet, put_of}
use Rattle.barriers.specs.Events.{Event, Quiet, Write, Write_copy, Lay, Move, Put_copy, Mark, Pass_on, Fix_word, Unkeep}
use Rattle.barriers.specs.Moves.{Carried, Idles, Lays, Starts, Forwards, Takes_up, Puts, Marks}
use Rattle.barriers.specs.PlainCalls.{to_original, to_copy, where_field, loaded, end_made, lost, plainly_fed}
use Rattle.barriers.specs.Says.{IsChange}
use Rattle.barriers.specs.Protocols.{Protocol}

-- ---- the machines

-- the word to write is the pass's mark
abbrev pub is_own : Option FieldWord → Task → Bool
is_own own Reads = false
is_own own (Writes word) = is_mark own word
is_own own (Exchanges expected word) = is_mark own word

-- then the phase word is loaded first
abbrev pub clover_begins : Stance → ℕ → Option FieldWord → Spot → Task → Known
clover_begins acked cycle own s t = if is_own own t then Checks s t cycle else Loads_header s t

abbrev pub busy : Spot → Task → ℕ → Known
busy s t cycle = Over s t (Refused (refusal.Busy cycle (word_of (put_of t))))

abbrev pub by_phase : Spot → Task → ℕ → Stance → Known
by_phase s t cycle Free = Loads_header s t
by_phase s t cycle p = busy s t cycle

-- to the original: without a mark as to that of an object at rest
abbrev pub by_mark : Option FieldWord → Spot → Task → Known
by_mark None s t = to_original s t
by_mark (Some m) s t = Loads s t

abbrev pub by_state : Option FieldWord → Spot → Task → State → Known
by_state own s t (Forward to) = to_copy s t to
by_state own s t x = by_mark own s t

-- where it found y, having wanted x, with n exchanges left: the mark, or a word with which it goes on so
abbrev pub unless_mark : Option FieldWord → Spot → Task → FieldWord → ℕ → FieldWord → Known → Known
unless_mark own s t x n y next = if is_mark own y then Loads_again s t x n else next

-- the mark is the value
abbrev pub by_value : Stance → Option FieldWord → Spot → Task → FieldWord → ℕ → Known
by_value acked None s t x n = Loads_again s t x n
by_value acked (Some m) s t x n = lost (Swaps s t) acked s t x m n

abbrev pub by_again : Stance → Option FieldWord → Spot → Task → FieldWord → ℕ → State → Known
by_again acked own s t x n (Forward to) = to_copy s t to
by_again acked own s t x n (Moving to) = to_copy s t to
by_again acked own s t x n y = by_value acked own s t x n

-- after a load or an exchange in the original
abbrev pub by_load : Stance → Option FieldWord → Spot → Task → FieldWord → Known
by_load acked own s t x = unless_mark own s t x 3 x (loaded (Swaps s t) acked s t x)

abbrev pub by_swap : Stance → Option FieldWord → Spot → Task → FieldWord → ℕ → FieldWord → Known
by_swap acked own s t x n y = if same_word y x then Over s t (end_made t y) else unless_mark own s t x n y (lost (Swaps s t) acked s t x y n)

abbrev pub clover_fed : Stance → Option FieldWord → Known → Finds → Known
clover_fed acked own (Checks s t cycle) (Phase_word p) = by_phase s t cycle p
clover_fed acked own (Loads_header s t) (Header_word x colour len) = where_field s t len (by_state own s t x)
clover_fed acked own (Loads s t) (Field_word x) = by_load acked own s t x
clover_fed acked own (Swaps s t x n) (Field_word y) = by_swap acked own s t x n y
clover_fed acked own (Loads_again s t x n) (Header_word y colour len) = by_again acked own s t x n y
clover_fed acked own k found = plainly_fed acked k found

-- to the field, or past the last one
abbrev pub marks_on : MoveJob → ℕ → Carried
marks_on j f = if nat_lt f j.len then Takes_up j f else Forwards j

abbrev pub by_take : MoveJob → ℕ → FieldWord → FieldWord → Carried
by_take j f w o = if same_word o w then marks_on j (f + 1) else Puts j f o

abbrev pub clover_move_fed : Carried → Finds → Carried
clover_move_fed (Lays j) found = Starts j
clover_move_fed (Starts j) found = marks_on j 0
clover_move_fed (Takes_up j f) (Field_word w) = Puts j f w
clover_move_fed (Puts j f w) found = Marks j f w
clover_move_fed (Marks j f w) (Field_word o) = by_take j f w o
clover_move_fed m found = Idles

-- ---- the rows of calls: where each is, what is true of the field

-- a pass that has acknowledged the last Copy word has the mark word's value, and after a clear search every pass has it
abbrev pub CloverFits : Cycle → Side → Type 0
CloverFits c side = ToldFits c.told side.acked × (IsTold side.acked ⊎ (c.clear ≡ true) → side.own ≡ c.mark)

-- after a clear search, a pass that has acknowledged the last Copy word
abbrev pub IsLate : Cycle → Side → Type 0
IsLate c side = (c.clear ≡ true) × IsTold side.acked

-- at the original: under Moving the pass's mark is the mark word; under Forward the original's word is the pass's mark
abbrev pub AtOriginal : Option FieldWord → Option FieldWord → FieldWord → State → Type 0
AtOriginal mark own o Plain = Unit {0}
AtOriginal mark own o (Moving to) = own ≡ mark
AtOriginal mark own o (Forward to) = is_mark own o ≡ true
AtOriginal mark own o _ = ⊥

-- what it exchanges is its mark only at Plain, and of no late pass
abbrev pub Aimed : Cycle → Side → FieldWord → State → Type 0
Aimed c side x Plain = IsLate c side → is_mark side.own x ≡ false
Aimed c side x _ = is_mark side.own x ≡ false

-- a bare store is at Plain, of a pass without a mark, and no search has ended clear
abbrev pub BareStore : Cycle → Option FieldWord → State → Type 0
BareStore c own Plain = (own ≡ None) × (c.clear ≡ true → ⊥)
BareStore c own _ = ⊥

abbrev pub ValueIs : List Call → Spot → Option FieldWord → Type 0
ValueIs seen s None = ⊥
ValueIs seen s (Some m) = value_of m ≡ value_at seen s.birth s.field

-- it found the mark: that is the value at what the pass has seen, of no late pass, or the field is in the copy
abbrev pub FoundMark : Cycle → Side → Spot → FieldWord → State → Type 0
FoundMark c side s o Plain = (IsLate c side → ⊥) × ValueIs side.seen s side.own
FoundMark c side s o (Moving to) = is_mark c.mark o ≡ true
FoundMark c side s o (Forward to) = Unit {0}
FoundMark c side s o _ = ⊥

-- in the copy: it is the home, or the original's word is the mark
abbrev pub AtCopy : Option FieldWord → ℕ → FieldWord → State → Type 0
AtCopy mark to o (Moving t) = (t ≡ to) × (is_mark mark o ≡ true)
AtCopy mark to o (Forward t) = t ≡ to
AtCopy mark to o _ = ⊥

abbrev pub CloverRow : Cycle → Side → Here → Known → Type 0
CloverRow c side x (Checks s t cycle) = IsChange t
CloverRow c side x (Loads_header s t) = Unit {0}
CloverRow c side x (Loads s t) = AtOriginal c.mark side.own x.word x.state
CloverRow c side x (Stores s word) = BareStore c side.own x.state
CloverRow c side x (Swaps s t v n) = AtOriginal c.mark side.own x.word x.state × Aimed c side v x.state
CloverRow c side x (Loads_again s t v n) = FoundMark c side s x.word x.state
CloverRow c side x (Loads_copy s t to) = AtCopy c.mark to x.word x.state
CloverRow c side x (Stores_copy s word to) = AtCopy c.mark to x.word x.state
CloverRow c side x (Swaps_copy s t to v n) = AtCopy c.mark to x.word x.state
CloverRow c side x (Follows s t m) = Unit {0}
CloverRow c side x (Over s t end) = Unit {0}
CloverRow c side x _ = ⊥

-- after the test of the phase word it never writes its pass's mark while Free is not announced
abbrev pub will_write : Known → Option FieldWord
will_write (Checks s t cycle) = None
will_write k = writes_yet k

abbrev pub Unwritten : Stance → Option FieldWord → Option FieldWord → Type 0
Unwritten phase own None = Unit {0}
Unwritten phase own (Some w) = (phase ≡ Free) ⊎ (is_mark own w ≡ false)

abbrev pub CloverOwn : Cycle → Side → Here → Known → Type 0
CloverOwn c side x k = CloverRow c side x k × Unwritten c.phase side.own (will_write k)

-- ---- every field: after a clear search no word at a place is the mark, and only then an object is Moving

abbrev pub CloverState : State → Type 0
CloverState Kept = ⊥
CloverState Tagged = ⊥
CloverState (Wide wide) = ⊥
CloverState _ = Unit {0}

abbrev pub Ready : Cycle → Type 0
Ready c = (c.told ≡ Everybody) × (c.clear ≡ true) × IsSet c.mark

abbrev pub ClearAt : Cycle → FieldWord → Type 0
ClearAt c w = IsSet c.mark × (c.phase ≢ Free) × (is_mark c.mark w ≡ false)

pub record CloverShape (c : Cycle) (b f : ℕ) (x : Here) (w : FieldWord) : Type 0 where
  pub state : CloverState x.state
  pub seal : x.seal ≡ None
  pub status : x.status ≡ InOriginal
  pub moving : IsMoving x.state → Ready c
  pub clear : c.clear ≡ true → ClearAt c (place_word c.mark x w)

abbrev pub CloverRight : Cycle → Type 0
CloverRight c = c.clear ≡ true → ClearAt c (Num 0)

-- ---- the rows of the move

abbrev pub IsUnder : Cycle → MoveJob → Here → Type 0
IsUnder c j x = IsMoving x.state × Ready c × (j.to ≡ x.to)

abbrev pub CloverHead : Cycle → Carried → Here → Type 0
CloverHead c Idles x = Unit {0}
CloverHead c (Lays j) x = (x.state ≡ Plain) × Ready c
CloverHead c (Starts j) x = (x.state ≡ Plain) × Ready c × (j.to ≡ x.to)
CloverHead c (Takes_up j f) x = IsUnder c j x × (f < j.len)
CloverHead c (Puts j f w) x = IsUnder c j x × (f < j.len)
CloverHead c (Marks j f w) x = IsUnder c j x × (f < j.len)
CloverHead c (Forwards j) x = IsUnder c j x
CloverHead c _ x = ⊥

-- the fields below are the mark, and the others are not
abbrev pub Split : Option FieldWord → ℕ → ℕ → FieldWord → Type 0
Split mark f g o = ((g < f) × (is_mark mark o ≡ true)) ⊎ ((f ≤ g) × (is_mark mark o ≡ false))

-- between the store in the copy and the exchange the copy holds the word in hand
abbrev pub CloverField : Cycle → Carried → ℕ → Here → FieldWord → Type 0
CloverField c (Takes_up j f) g x w = Split c.mark f g x.word
CloverField c (Puts j f v) g x w = Split c.mark f g x.word
CloverField c (Marks j f v) g x w = Split c.mark f g x.word × (g ≡ f → w ≡ v)
CloverField c (Forwards j) g x w = is_mark c.mark x.word ≡ true
CloverField c _ g x w = Unit {0}

-- ---- its steps

abbrev pub CloverMakes : Event → Type 0
CloverMakes Quiet = Unit {0}
CloverMakes (Write w) = Unit {0}
CloverMakes (Write_copy w) = Unit {0}
CloverMakes (Lay to wide) = Unit {0}
CloverMakes (Move to) = Unit {0}
CloverMakes (Put_copy w) = Unit {0}
CloverMakes (Mark w) = Unit {0}
CloverMakes (Pass_on to) = Unit {0}
CloverMakes (Fix_word w) = Unit {0}
CloverMakes Unkeep = Unit {0}
CloverMakes _ = ⊥

-- all steps of the collector that change no object
abbrev pub CloverPhases : Phasing → Type 0
CloverPhases e = Unit {0}

abbrev pub clover : Protocol
clover = record {
  begins = clover_begins;
  fed = clover_fed;
  move_begins = Lays;
  move_fed = clover_move_fed;
  Makes = CloverMakes;
  Phases = CloverPhases;
  Fits = CloverFits;
  Right = CloverRight;
  Shape = CloverShape;
  Own = CloverOwn;
  MoveHead = CloverHead;
  MoveField = CloverField;
}
