-- What is known of a copier's machines, and the laws of that.
use Rattle.std.specs.Prelude.{◌≡◌, ◌≢◌, ℕ, ◌≤◌, ◌<◌, ◌^◌, Bool, true, false, Option, Some, None}
use Rattle.call_steps.specs.declared.step.Step.{Step}
use Rattle.call_steps.specs.declared.step.Step.TheVariants.{Ended}
use Rattle.heap_words.specs.Layouts.{Sizes}
use Rattle.heap_words.specs.declared.field_word.FieldWord.{FieldWord}
use Rattle.heap_words.specs.FieldWords.{IsFieldWord, word_of}
use Rattle.object_headers.specs.declared.header.Colour.{Colour}
use Rattle.object_headers.specs.declared.header.Header.{Header}
use Rattle.object_headers.specs.declared.header.State.{State as HeaderState}
use Rattle.object_headers.specs.declared.header.State.TheVariants as states
use Rattle.object_headers.specs.declared.change.Kind.{Kind}
use Rattle.object_headers.specs.Changes.{is_clover}
use Rattle.object_headers.specs.Headers.{IsHeader, word_of_header, header_at}
use Rattle.wide_objects.specs.Statuses.{IsStatus, word_of_status}
use Rattle.space_reclaim.specs.declared.move_job.MoveJob.{MoveJob}
use Rattle.handshakes.specs.declared.pass_view.PassView.{PassView}
use Rattle.handshakes.specs.PhaseWords.{phase_word_at}
use Rattle.handshakes.specs.declared.follow.FollowMachine.{FollowMachine}
use Rattle.handshakes.specs.Follows as follows
use Rattle.barriers.specs.declared.spot.Spot.{Spot}
use Rattle.barriers.specs.declared.front.Front.{Front}
use Rattle.barriers.specs.declared.front.Front.TheVariants.{Stays}
use Rattle.barriers.specs.declared.ends.ReadEnd.{ReadEnd}
use Rattle.barriers.specs.declared.ends.ReadEnd.TheVariants as read_end
use Rattle.barriers.specs.declared.ends.WriteEnd.{WriteEnd}
use Rattle.barriers.specs.declared.ends.WriteEnd.TheVariants as write_end
use Rattle.barriers.specs.declared.ends.ExchangeEnd.{ExchangeEnd}
use Rattle.barriers.specs.declared.ends.ExchangeEnd.TheVariants as exchange_end
use Rattle.barriers.specs.declared.ends.MoveEnd.{MoveEnd}
use Rattle.barriers.specs.declared.ends.TryRefusal.{TryRefusal}
use Rattle.barriers.specs.declared.ends.TryRefusal.TheVariants as refusal
use Rattle.barriers.specs.Spots as spots
use Rattle.barriers.specs.States.{State, Absent, Plain, Kept, Tagged, Wide, Moving, Forward, Dead}
use Rattle.barriers.specs.Stances.{Stance, Search, Copy, Fix, Free, stance_at, mark_in}
use Rattle.barriers.specs.Spaces.{Here}
use Rattle.barriers.specs.Values.{value_of}
use Rattle.barriers.specs.Knowns.{Task, Reads, Writes, Exchanges, Ending, Got, Wrote, Done, Differs, Refused, Known, Checks, Follows, Over, Finds, Nothing, Phase_word, Header_word, Field_word, Wide_word, Address, at_field, spot_of, head_of, step_of, finds, looks, followed}
use Rattle.barriers.specs.Moves.{Carried, job_of, move_finds}
use Rattle.barriers.specs.MoveSteps.{IsJob, FitsCarried, move_step, kept_after, move_said}
use Rattle.barriers.specs.Protocols.{Protocol}
use Rattle.barriers.specs.ProtocolLaws.{ProtocolLaws}
use Rattle.barriers.specs.CycleLaws.{CycleLaws, MovingLaws}
use Rattle.barriers.specs.Says.{IsPacked}

-- Reads, writes, exchanges and moves are done by these machines.
pub record Kit (R W E M : Type 0) : Type 1 where
  pub kind : Kind
  pub protocol : Protocol
  -- how they begin, and what they end with
  pub starts_read : Sizes → PassView → ℕ → ℕ → ℕ → R
  pub starts_write : Sizes → PassView → ℕ → ℕ → ℕ → ℕ → W
  pub starts_exchange : Sizes → PassView → ℕ → ℕ → ℕ → FieldWord → ℕ → E
  pub starts_move : Sizes → MoveJob → ℕ → M
  pub read_ended : R → Option ReadEnd
  pub write_ended : W → Option WriteEnd
  pub exchange_ended : E → Option ExchangeEnd
  pub move_ended : M → Option MoveEnd
  -- whether calls mind their pass's mark
  pub minds : Bool
  -- what is known of them
  pub reads : R → Known
  pub writes : W → Known
  pub exchanges : E → Known
  pub moves : M → Carried
  -- the header's word that a mover has found, with which it leaves the object where it is
  pub keeps : M → Option ℕ
  -- what they keep of their pass is the pass's, and their words are packed
  pub ReadsFor : PassView → R → Type 0
  pub WritesFor : PassView → W → Type 0
  pub ExchangesFor : PassView → E → Type 0
  -- and what a mover keeps of its job and of the cycle's mark
  pub MovesFor : Option FieldWord → M → Type 0

-- what its machines do, a step at a time
pub record Stepping (R W E M : Type 0) : Type 0 where
  pub read_asks : R → Step
  pub write_asks : W → Step
  pub exchange_asks : E → Step
  pub move_asks : M → Step
  pub read_fed : R → ℕ → R
  pub write_fed : W → ℕ → W
  pub exchange_fed : E → ℕ → E
  pub move_fed : M → ℕ → M
  pub read_front : R → ℕ → Front
  pub write_front : W → ℕ → Front
  pub exchange_front : E → ℕ → Front
  pub read_left : R → ℕ
  pub write_left : W → ℕ
  pub exchange_left : E → ℕ

-- the mark that calls of this pass mind
abbrev pub own_of : Bool → PassView → Option FieldWord
own_of true v = mark_in v.mark
own_of false v = None

-- ---- words

-- the state that a header says
abbrev pub state_by : HeaderState → ℕ → State
state_by states.Absent target = Absent
state_by states.Plain target = Plain
state_by states.Kept target = Kept
state_by states.Tagged target = Tagged
state_by states.Wide target = Wide target
state_by states.Moving target = Moving target
state_by states.Forward target = Forward target
state_by states.Dead target = Dead

abbrev pub state_in : Header → State
state_in h = state_by h.state h.target

-- the header is one of the object of which this one was found
abbrev pub IsOf : Option Header → Header → Type 0
IsOf None h = Unit {0}
IsOf (Some g) h = (h.colour ≡ g.colour) × (h.birth ≡ g.birth) × (h.len ≡ g.len)

-- it is the word of a header in this state, of the object with this birth number
pub record IsHeaderWord (before : Option Header) (birth : ℕ) (x : State) (colour : Colour) (len n : ℕ) : Type 0 where
  pub header : Header
  pub fits : IsHeader header
  pub word : n ≡ word_of_header header
  pub state : state_in header ≡ x
  pub colour_is : (let h = header in h.colour) ≡ colour
  pub len_is : (let h = header in h.len) ≡ len
  pub birth_is : (let h = header in h.birth) ≡ birth
  pub of : IsOf before header

-- this word stands where a step finds this, at the object with this birth number, of which this header was found before
abbrev pub IsFound : Option Header → ℕ → Finds → ℕ → Type 0
IsFound before birth Nothing n = Unit {0}
IsFound before birth (Phase_word p) n = stance_at n ≡ p
IsFound before birth (Header_word x colour len) n = IsHeaderWord before birth x colour len n
IsFound before birth (Field_word w) n = (n ≡ word_of w) × IsFieldWord w
IsFound before birth (Wide_word u) n = (n ≡ word_of_status u) × IsStatus u
IsFound before birth (Address to) n = (n ≡ to) × (to < 2 ^ 20)

abbrev pub IsWordOf : Known → Finds → ℕ → Type 0
IsWordOf k = IsFound (head_of k) (spot_of k).birth

abbrev pub IsMoveWord : MoveJob → Finds → ℕ → Type 0
IsMoveWord j = IsFound (Some (header_at j.header)) j.birth

-- ---- ends

abbrev pub ending_of : Known → Option Ending
ending_of (Over s t end) = Some end
ending_of k = None

-- why a read is refused
abbrev pub read_refused : TryRefusal → Option ReadEnd
read_refused (refusal.NoField len) = Some (read_end.NoField len)
read_refused _ = None

abbrev pub read_said : Ending → Option ReadEnd
read_said (Got word) = Some (read_end.Got word)
read_said (Refused why) = read_refused why
read_said _ = None

abbrev pub write_said : Ending → Option WriteEnd
write_said Wrote = Some write_end.Wrote
write_said (Refused why) = Some (write_end.Refused why)
write_said _ = None

abbrev pub exchange_said : Ending → Option ExchangeEnd
exchange_said Done = Some exchange_end.Done
exchange_said (Differs word) = Some (exchange_end.Differs word)
exchange_said (Refused why) = Some (exchange_end.Refused why)
exchange_said _ = None

abbrev pub said_by : {E : Type 0} → (Ending → Option E) → Option Ending → Option E
said_by said None = None
said_by said (Some end) = said end

-- ---- the laws

-- the cycle that a phase word says
abbrev pub cycle_at : ℕ → ℕ
cycle_at word = let w = phase_word_at word in w.cycle

-- Search, Copy, Fix or Free
abbrev pub IsFromSearch : Stance → Type 0
IsFromSearch Search = Unit {0}
IsFromSearch Copy = Unit {0}
IsFromSearch Fix = Unit {0}
IsFromSearch Free = Unit {0}
IsFromSearch _ = ⊥

-- a phase word that it loads is of the cycle that its pass has acknowledged, and of a phase from the search on
abbrev pub IsCurrent : PassView → Known → ℕ → Type 0
IsCurrent v (Checks s t cycle) n = (cycle_at n ≡ cycle_at v.acked) × IsFromSearch (stance_at n)
IsCurrent v k n = Unit {0}

-- A machine that stands where this is found, and this word. A pass keeps its mark until the cycle's end is announced.
pub record Stands {K : Type 0} (knows : K → Known) (For : PassView → K → Type 0) (v : PassView) (m : K) (p : Stance) (x : Here) (copy : FieldWord) (n : ℕ) : Type 0 where
  pub own : For v m
  pub spot : Spot
  pub at : at_field (knows m) ≡ Some spot
  pub word : IsWordOf (knows m) (finds p x copy (knows m)) n
  pub current : v.mark ≢ 0 → IsCurrent v (knows m) n

-- One kind of machine: it asks for the step that is known of it, and goes on as the table says; it follows what it found; and it ends with
-- what is known.
pub record Runs {K E : Type 0} (P : Protocol) (own : PassView → Option FieldWord) (asks : K → Step) (fed : K → ℕ → K) (fronts : K → ℕ → Front) (knows : K → Known) (For : PassView → K → Type 0) (ended : K → Option E) (said : Ending → Option E) : Type 0 where
  pub asks_alike : (v : PassView) (m : K) → For v m → asks m ≡ step_of (knows m)
  pub goes : (v : PassView) (m : K) (p : Stance) (x : Here) (copy : FieldWord) (n : ℕ) → Stands knows For v m p x copy n
      → (knows (fed m n) ≡ P.fed (stance_at v.acked) (own v) (knows m) (finds p x copy (knows m))) × For v (fed m n)
  pub looks_alike : (v : PassView) (m : K) (p : Stance) (x : Here) (copy : FieldWord) (n : ℕ) → Stands knows For v m p x copy n → fronts m n ≡ looks (own v) (knows m) (finds p x copy (knows m))
  pub follows_on : (v : PassView) (m : K) (s : Spot) (t : Task) (f : FollowMachine) (n : ℕ) → For v m → knows m ≡ Follows s t f → (knows (fed m n) ≡ followed s t (follows.fed_of f n)) × For v (fed m n) × (fronts m n ≡ Stays)
  pub over : (v : PassView) (m : K) → For v m → asks m ≡ Ended → (s : Spot) × (t : Task) × (end : Ending) × (knows m ≡ Over s t end)
  pub tells : (m : K) → ended m ≡ said_by said (ending_of (knows m))
  -- the words that it holds are packed field words
  pub packed : (v : PassView) (m : K) → For v m → IsPacked (knows m)

-- The machine of a move, in a cycle with a mark: it asks for the step that is known of it, and goes on as the table says; and it ends with
-- the header's word that it has found, or has moved the object.
pub record Moves {M : Type 0} (P : Protocol) (kind : Kind) (asks : M → Step) (fed : M → ℕ → M) (knows : M → Carried) (For : Option FieldWord → M → Type 0) (keeps : M → Option ℕ) (ended : M → Option MoveEnd) : Type 0 where
  pub asks_alike : (mark : Option FieldWord) (m : M) → For mark m → asks m ≡ move_step kind mark (knows m)
  pub goes : (mark : Option FieldWord) (m : M) (j : MoveJob) (x : Here) (n : ℕ) → For mark m → job_of (knows m) ≡ Some j → IsMoveWord j (move_finds x (knows m)) n
      → (knows (fed m n) ≡ P.move_fed (knows m) (move_finds x (knows m))) × For mark (fed m n) × (keeps (fed m n) ≡ kept_after (knows m) (P.move_fed (knows m) (move_finds x (knows m))) n (keeps m))
  pub tells : (m : M) → ended m ≡ move_said (knows m) (keeps m)
  -- the words that it holds are packed field words
  pub packed : (mark : Option FieldWord) (m : M) → For mark m → FitsCarried (knows m)

module _ {R W E M : Type 0} (kit : Kit R W E M) (by : Stepping R W E M) where
  abbrev P : Protocol
  P = kit.protocol

  abbrev minded : PassView → Option FieldWord
  minded = own_of kit.minds

  -- what a call is when it begins
  pub record Begins {K : Type 0} (knows : K → Known) (For : PassView → K → Type 0) (left : K → ℕ) (v : PassView) (s : Spot) (t : Task) (m : K) : Type 0 where
    pub known : knows m ≡ P.begins (stance_at v.acked) (cycle_at v.acked) (minded v) s t
    pub own : For v m
    pub few : left m ≤ 17

  -- what a move is when it begins, in a cycle with this mark
  pub record BeginsMove (mark : Option FieldWord) (j : MoveJob) (m : M) : Type 0 where
    pub known : kit.moves m ≡ P.move_begins j
    pub own : kit.MovesFor mark m
    pub none : kit.keeps m ≡ None

  pub record Laws : Type 0 where
    -- where marks are sought, calls mind them
    pub minds : kit.minds ≡ is_clover kit.kind
    pub table : ProtocolLaws P
    pub cycle : CycleLaws P
    pub movable : MovingLaws kit.kind P
    pub reading : Runs P minded by.read_asks by.read_fed by.read_front kit.reads kit.ReadsFor kit.read_ended read_said
    pub writing : Runs P minded by.write_asks by.write_fed by.write_front kit.writes kit.WritesFor kit.write_ended write_said
    pub exchanging : Runs P minded by.exchange_asks by.exchange_fed by.exchange_front kit.exchanges kit.ExchangesFor kit.exchange_ended exchange_said
    pub begins_read : (l : Sizes) (v : PassView) (birth at field : ℕ) → Begins kit.reads kit.ReadsFor by.read_left v (spots.spot_of birth at field) Reads (kit.starts_read l v birth at field)
    pub begins_write : (l : Sizes) (v : PassView) (birth at field : ℕ) (word : FieldWord) → IsFieldWord word → Begins kit.writes kit.WritesFor by.write_left v (spots.spot_of birth at field) (Writes word) (kit.starts_write l v birth at field (word_of word))
    pub begins_exchange : (l : Sizes) (v : PassView) (birth at field : ℕ) (expected word : FieldWord) → IsFieldWord word → Begins kit.exchanges kit.ExchangesFor by.exchange_left v (spots.spot_of birth at field) (Exchanges (value_of expected) word) (kit.starts_exchange l v birth at field expected (word_of word))
    pub moving : Moves P kit.kind by.move_asks by.move_fed kit.moves kit.MovesFor kit.keeps kit.move_ended
    pub begins_move : (l : Sizes) (j : MoveJob) (mark : ℕ) → IsJob j → BeginsMove (mark_in mark) j (kit.starts_move l j mark)
