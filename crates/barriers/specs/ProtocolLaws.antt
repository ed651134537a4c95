-- What must hold of a copier's table. Each law speaks of one field of one object.
use Rattle.std.specs.Prelude.{◌≡◌, ◌≢◌, ℕ, ◌<◌, ◌≤◌, ◌⊎◌, true, false, List, Option, Some, None, is_some}
use Rattle.heap_words.specs.declared.field_word.FieldWord.{FieldWord}
use Rattle.heap_words.specs.declared.field_word.FieldWord.TheVariants.{Num}
use Rattle.object_headers.specs.declared.header.Header.{Header}
use Rattle.object_headers.specs.declared.header.State.TheVariants as states
use Rattle.wide_objects.specs.Statuses.{InOriginal}
use Rattle.space_reclaim.specs.declared.move_job.MoveJob.{MoveJob}
use Rattle.heap_history.specs.NewestFirst.{value_at, Before}
use Rattle.heap_history.specs.declared.call.Call.{Call}
use Rattle.barriers.specs.declared.spot.Spot.{Spot}
use Rattle.barriers.specs.declared.ends.TryRefusal.TheVariants as refusal
use Rattle.barriers.specs.States.{State, Plain, Kept, Tagged, Wide, Moving, IsLive}
use Rattle.barriers.specs.Stances.{Stance}
use Rattle.barriers.specs.Spaces.{Here, zone, Copied, place_word}
use Rattle.barriers.specs.Values.{value_of}
use Rattle.barriers.specs.Cycles.{Cycle, Side, Phasing, phased, MayTurn, MayGo, MayPhase}
use Rattle.barriers.specs.Knowns.{Task, Known, Over, Refused, Finds, Header_word, Ending, at_field, has_field, has_found, spot_of, task_of, copy_of, wide_of, head_of, hand_of, writes_yet, finds, puts, wanted, looks, front}
use Rattle.barriers.specs.Events.{Event, Quiet, Keep, Write, Write_copy, Widen, Seal, Pass_on, Seal_on, Fix_word, after, after_copy, May, event, IsStill}
use Rattle.barriers.specs.Moves.{Carried, Looks, Lays, Gives_up, Forwards, IsAtField, job_of, field_of, move_finds, move_event}
use Rattle.barriers.specs.CallCloses.{IsTasked, IsClosed}
use Rattle.barriers.specs.Protocols.{Protocol, Wants, Answered, Suits, From, TargetIs, has_made, seen_after, word_found}

-- a machine of a pass, at a field that it names: here x, in the copy w
pub record At (P : Protocol) (c : Cycle) (side : Side) (h : List Call) (s : Spot) (x : Here) (w : FieldWord) (k : Known) : Type 0 where
  pub live : IsLive x.state
  pub target : TargetIs x x.state
  pub inside : has_field k ≡ true → s.field < x.len
  pub fits : P.Fits c side
  pub shape : s.field < x.len → P.Shape c s.birth s.field x w
  pub agrees : s.field < x.len → value_of (place_word c.mark x w) ≡ value_at h s.birth s.field
  pub own : P.Own c side x k
  pub answered : Answered side.seen k
  pub past : Before side.seen h
  pub spot : at_field k ≡ Some s

-- the header of the object here, when it is tagged
abbrev pub tagged_here : Spot → Here → Header
tagged_here s x = record { state = states.Tagged; colour = x.colour; len = x.len; birth = s.birth; target = 0 }

-- what its step comes to
pub record StepEnd (P : Protocol) (c : Cycle) (side : Side) (h : List Call) (s : Spot) (x : Here) (k : Known) (found : Finds) : Type 0 where
  pub makes : P.Makes (event k found)
  pub may : May c x (event k found)
  pub own : P.Own c (record side { seen = seen_after (puts k found) side s k x found h }) (after (event k found) x) (P.fed side.acked side.own k found)
  pub answered : Answered (seen_after (puts k found) side s k x found h) (P.fed side.acked side.own k found)
  pub wants : (w : FieldWord) → puts k found ≡ Some w → Wants (wanted k) (value_at h s.birth s.field)
  pub inside : has_field (P.fed side.acked side.own k found) ≡ true → s.field < x.len
  pub found_inside : has_found (P.fed side.acked side.own k found) ≡ true → s.field < x.len
  pub refused : (t : Task) (len : ℕ) → P.fed side.acked side.own k found ≡ Over s t (Refused (refusal.NoField len)) → (len ≡ x.len) × (x.len ≤ s.field)
  pub head : (tagged : Header) → head_of (P.fed side.acked side.own k found) ≡ Some tagged → tagged ≡ tagged_here s x
  pub aim : (to : ℕ) → copy_of k ≡ Some to → (to ≡ x.to) × (zone c.mark x.state x.word x.status ≡ Copied)
  pub wide : (wide : ℕ) → wide_of k ≡ Some wide → (wide ≡ x.wide) × (wide ≢ 0)
  -- a look sees no more than there is, and no less than was seen
  pub past : Before (front (looks side.own k found) x.seal h side.seen) h
  pub later : Before side.seen (front (looks side.own k found) x.seal h side.seen)

-- what any step of it is that goes on so, whatever it finds
pub record GoesTo (own : Option FieldWord) (k : Known) (found : Finds) (next : Known) : Type 0 where
  pub spot : spot_of next ≡ spot_of k
  pub task : task_of next ≡ task_of k
  -- it is at the field still, or it has what it came for
  pub stays : (at_field next ≡ None) ⊎ (at_field next ≡ at_field k)
  -- it has ended with its change exactly where this step is that, and ends only as such a call does
  pub made : has_made next ≡ is_some (puts k found)
  pub suits : (s : Spot) (t : Task) (end : Ending) → next ≡ Over s t end → Suits t end
  -- the word in hand is the one before, the one found or the mark; the word that it will yet write never changes
  pub hands : From own (hand_of k) (word_found found) (hand_of next)
  pub settles : (writes_yet next ≡ None) ⊎ (writes_yet next ≡ writes_yet k)

abbrev pub GoesOn : Protocol → Stance → Option FieldWord → Known → Finds → Type 0
GoesOn P acked own k found = GoesTo own k found (P.fed acked own k found)

-- the history that an event tells of is the one now
abbrev pub Dated : List Call → Event → Type 0
Dated h (Seal w g) = g ≡ h
Dated h (Seal_on t g) = g ≡ h
Dated h _ = Unit {0}

-- the copy becomes the home
abbrev pub Arrives : Event → Type 0
Arrives (Pass_on t) = Unit {0}
Arrives (Seal_on t h) = Unit {0}
Arrives _ = ⊥

-- one of a pass's
abbrev pub ByPass : Event → Type 0
ByPass Quiet = Unit {0}
ByPass Keep = Unit {0}
ByPass (Write w) = Unit {0}
ByPass (Write_copy w) = Unit {0}
ByPass (Widen w) = Unit {0}
ByPass (Fix_word w) = Unit {0}
ByPass _ = ⊥

-- what is the same at all fields of an object
pub record SameHead (x y : Here) : Type 0 where
  pub state : x.state ≡ y.state
  pub len : x.len ≡ y.len
  pub to : x.to ≡ y.to
  pub wide : x.wide ≡ y.wide
  pub address : x.address ≡ y.address
  pub seal : x.seal ≡ y.seal

-- a new object's field
pub record IsFresh (x : Here) : Type 0 where
  pub state : x.state ≡ Plain
  pub seal : x.seal ≡ None
  pub status : x.status ≡ InOriginal

-- what a mover's step comes to at field g: it may be taken, the word at the place stays what it is, and the mover goes on
pub record MoveEnd (P : Protocol) (c : Cycle) (h : List Call) (m : Carried) (g : ℕ) (x : Here) (w : FieldWord) (found : Finds) : Type 0 where
  pub makes : P.Makes (move_event c.mark h m g x)
  pub may : May c x (move_event c.mark h m g x)
  pub place : IsLive x.state → place_word c.mark (after (move_event c.mark h m g x) x) (after_copy (move_event c.mark h m g x) w) ≡ place_word c.mark x w
  pub field : P.MoveField c (P.move_fed m found) g (after (move_event c.mark h m g x) x) (after_copy (move_event c.mark h m g x) w)
  pub hand : (v : FieldWord) → move_event c.mark h m g x ≡ Widen v → v ≡ x.word

-- ---- the calls of passes

pub record CallLaws (P : Protocol) : Type 0 where
  -- a call begins
  pub begin : (c : Cycle) (side : Side) (x : Here) (cycle : ℕ) (s : Spot) (t : Task) → IsLive x.state → P.Fits c side → P.Own c side x (P.begins side.acked cycle side.own s t)
  pub begin_at : (acked : Stance) (cycle : ℕ) (own : Option FieldWord) (s : Spot) (t : Task) → at_field (P.begins acked cycle own s t) ≡ Some s
  pub begin_task : (acked : Stance) (cycle : ℕ) (own : Option FieldWord) (s : Spot) (t : Task) → task_of (P.begins acked cycle own s t) ≡ t
  pub begin_bare : (acked : Stance) (cycle : ℕ) (own : Option FieldWord) (s : Spot) (t : Task) → has_field (P.begins acked cycle own s t) ≡ false
  -- its own step
  pub step : (c : Cycle) (side : Side) (h : List Call) (s : Spot) (x : Here) (w : FieldWord) (k : Known) → ((past : List Call) → x.seal ≡ Some past → Before past h) → At P c side h s x w k → StepEnd P c side h s x k (finds c.phase x w k)
  pub goes : (c : Cycle) (side : Side) (x : Here) (k : Known) (s : Spot) (found : Finds) → at_field k ≡ Some s → P.Own c side x k → GoesOn P side.acked side.own k found
  -- only a write exchanges, and at Fix it has no link in hand that it has not followed
  pub closes : (acked : Stance) (own : Option FieldWord) (k : Known) (s : Spot) (found : Finds) → at_field k ≡ Some s → IsTasked k → IsClosed acked (P.fed acked own k found)
  -- before it has found that the object has the field, its row says nothing of the object
  pub bare : (c : Cycle) (side : Side) (x y : Here) (k : Known) → has_field k ≡ false → P.Own c side x k → P.Own c side y k
  -- a step of anybody else, at the same field
  pub stays : (c : Cycle) (side : Side) (h : List Call) (b f : ℕ) (x : Here) (w : FieldWord) (e : Event) (k : Known) → P.Makes e → May c x e → Dated h e → Before side.seen h → TargetIs x x.state → P.Fits c side → (f < x.len → P.Shape c b f x w) → P.Own c side x k → P.Own c side (after e x) k

-- ---- what every field is like

pub record ShapeLaws (P : Protocol) : Type 0 where
  pub makes_quiet : P.Makes Quiet
  pub makes_write : (w : FieldWord) → P.Makes (Write w)
  pub makes_copy : (w : FieldWord) → P.Makes (Write_copy w)
  pub makes_fix : (w : FieldWord) → P.Makes (Fix_word w)
  -- under every step; h is the history then
  pub shape : (c : Cycle) (b f : ℕ) (h : List Call) (x : Here) (w : FieldWord) (e : Event) → P.Makes e → May c x e → Dated h e → ByPass e ⊎ (place_word c.mark (after e x) (after_copy e w) ≡ place_word c.mark x w) → value_of (place_word c.mark x w) ≡ value_at h b f → TargetIs x x.state
      → P.Shape c b f x w → P.Shape c b f (after e x) (after_copy e w)
  -- it reads the copy's word only where the place is there
  pub apart : (c : Cycle) (b f : ℕ) (x : Here) (w v : FieldWord) → (zone c.mark x.state x.word x.status ≡ Copied → ⊥) → P.Shape c b f x w → P.Shape c b f x v
  -- a new object; the copy of an object that becomes its home
  pub born : (c : Cycle) (b f : ℕ) (x : Here) (w : FieldWord) → P.Right c → IsFresh x → x.word ≡ Num 0 → P.Shape c b f x w
  pub arrives : (c : Cycle) (b f : ℕ) (x y : Here) (w v : FieldWord) (e : Event) → P.Makes e → Arrives e → May c x e → (place_word c.mark x w ≡ w) → P.Shape c b f x w → IsFresh y → y.word ≡ w → P.Shape c b f y v

-- ---- the collector goes on, and changes no object

pub record TurnLaws (P : Protocol) : Type 0 where
  pub own : (c : Cycle) (side : Side) (b f : ℕ) (x : Here) (w : FieldWord) (k : Known) (e : Phasing) → MayTurn c side e → MayPhase c x.state (place_word c.mark x w) e → P.Fits (phased e c) side → (f < x.len → P.Shape c b f x w) → P.Own c side x k → P.Own (phased e c) side x k
  pub shape : (c : Cycle) (b f : ℕ) (x : Here) (w : FieldWord) (e : Phasing) → P.Phases e → MayPhase c x.state (place_word c.mark x w) e → P.Shape c b f x w → P.Shape (phased e c) b f x w
  pub right : (c : Cycle) (e : Phasing) → P.Phases e → MayGo c e → P.Right c → P.Right (phased e c)
  pub fits_seen : (c : Cycle) (side : Side) (seen : List Call) → P.Fits c side → P.Fits c (record side { seen = seen })

-- ---- moves

-- the exchange of the header that its mover makes now sends the object to its copy
abbrev pub IsLeaving : State → Type 0
IsLeaving Tagged = Unit {0}
IsLeaving (Wide wide) = Unit {0}
IsLeaving (Moving to) = Unit {0}
IsLeaving _ = ⊥

-- a mover ends after a look, after it has given the copy up, and after the object has gone to it
abbrev pub MayEnd : Carried → State → Type 0
MayEnd (Looks j) x = Unit {0}
MayEnd (Gives_up j) x = Unit {0}
MayEnd (Forwards j) x = IsLeaving x
MayEnd m x = ⊥

pub record MoveLaws (P : Protocol) : Type 0 where
  -- what is known of the header is the same at all fields; and the mover's rows under steps of passes
  pub looks : (c : Cycle) (j : MoveJob) (g : ℕ) (x : Here) (w : FieldWord) → P.MoveField c (Looks j) g x w
  pub lays : (c : Cycle) (j : MoveJob) (g : ℕ) (x : Here) (w : FieldWord) → P.MoveField c (Lays j) g x w
  pub heads : (c : Cycle) (m : Carried) (x y : Here) → SameHead x y → P.MoveHead c m x → P.MoveHead c m y
  pub head_stays : (c : Cycle) (m : Carried) (x : Here) (e : Event) → P.Makes e → ByPass e → May c x e → P.MoveHead c m x → P.MoveHead c m (after e x)
  pub field_stays : (c : Cycle) (m : Carried) (g : ℕ) (x : Here) (w : FieldWord) (e : Event) → P.Makes e → ByPass e → May c x e → P.MoveHead c m x → P.MoveField c m g x w → P.MoveField c m g (after e x) (after_copy e w)
  -- its own step: at field g, of which x and w are told; y and v are those of the field that it is at
  pub step : (c : Cycle) (h : List Call) (m : Carried) (j : MoveJob) (g b : ℕ) (x y : Here) (w v : FieldWord) → job_of m ≡ Some j → g < j.len → SameHead x y → (g ≡ field_of m → (x ≡ y) × (w ≡ v))
      → P.Shape c b g x w → P.MoveHead c m y → P.MoveField c m g x w → MoveEnd P c h m g x w (move_finds y m)
  pub head : (c : Cycle) (h : List Call) (m : Carried) (j : MoveJob) (g : ℕ) (x y : Here) → job_of m ≡ Some j → SameHead x y → P.MoveHead c m y → P.MoveHead c (P.move_fed m (move_finds y m)) (after (move_event c.mark h m g x) x)
  pub job : (c : Cycle) (m : Carried) (j k : MoveJob) (y : Here) → job_of m ≡ Some j → P.MoveHead c m y → job_of (P.move_fed m (move_finds y m)) ≡ Some k → k ≡ j
  pub ends : (c : Cycle) (m : Carried) (j : MoveJob) (x : Here) → job_of m ≡ Some j → P.MoveHead c m x → job_of (P.move_fed m (move_finds x m)) ≡ None → MayEnd m x.state
  -- the field that it is at is one of the object's
  pub inside : (c : Cycle) (m : Carried) (j : MoveJob) (x : Here) → job_of m ≡ Some j → IsAtField m → P.MoveHead c m x → field_of m < j.len
  -- how a move begins and ends
  pub looked : (j : MoveJob) (found : Finds) → job_of (P.move_fed (Looks j) found) ≡ None
  pub begins : (m : Carried) (found : Finds) (j : MoveJob) → P.move_fed m found ≡ Lays j → ⊥
  pub still : (c : Cycle) (j : MoveJob) (x : Here) → P.MoveHead c (Lays j) x → IsStill x.state
  pub gives_up : (c : Cycle) (j : MoveJob) (x : Here) → P.MoveHead c (Gives_up j) x → x.state ≡ Kept
  pub given_up : (j : MoveJob) (found : Finds) → job_of (P.move_fed (Gives_up j) found) ≡ None
  pub forwarded : (c : Cycle) (j : MoveJob) (x : Here) → P.MoveHead c (Forwards j) x → (x.state ≡ Kept) ⊎ (job_of (P.move_fed (Forwards j) (Header_word x.state x.colour x.len)) ≡ None)

pub record ProtocolLaws (P : Protocol) : Type 0 where
  pub calls : CallLaws P
  pub shapes : ShapeLaws P
  pub turns : TurnLaws P
  pub moves : MoveLaws P
