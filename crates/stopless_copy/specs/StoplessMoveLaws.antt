-- The laws of Stopless's objects and of its move, at one field of one object, and what a cycle asks.
use Rattle.std.proofs.Common.{◌≡◌, ℕ, ◌<◌, ◌⊎◌, inl, inr, refl, arith, Some, None, List}
use Rattle.std.proofs.lemmas.Bool.Decides.{nat_tests}
use Rattle.heap_words.specs.declared.field_word.FieldWord.{FieldWord}
use Rattle.wide_objects.specs.Statuses.{InOriginal}
use Rattle.space_reclaim.specs.declared.move_job.MoveJob.{MoveJob}
use Rattle.heap_history.specs.NewestFirst.{value_at}
use Rattle.heap_history.specs.declared.call.Call.{Call}
use Rattle.object_headers.specs.declared.change.Kind.TheVariants as kinds
use Rattle.barriers.specs.States.{State, Kept, Wide}
use Rattle.barriers.specs.Spaces.{Here, place_word}
use Rattle.barriers.specs.Values.{value_of}
use Rattle.barriers.specs.Cycles.{Cycle, Side, phased}
use Rattle.barriers.specs.Knowns.{Known, Finds, Header_word}
use Rattle.barriers.specs.Events.{Event, Widen, after, after_copy, May, IsStill, IsWide}
use Rattle.barriers.specs.Moves.{Carried, Idles, Looks, Lays, Points, Gives_up, Seals, Starts, Forwards, Takes_up, Asks, Widens, Finishes, Marks, Puts, IsAtField, job_of, field_of, move_finds, move_event}
use Rattle.barriers.specs.Protocols.{TargetIs}
use Rattle.barriers.specs.ProtocolLaws.{Dated, ByPass, SameHead, MayEnd, IsFresh, ShapeLaws, TurnLaws, MoveLaws, ProtocolLaws}
use Rattle.barriers.specs.CycleLaws.{CycleLaws, MovingLaws}
use Rattle.tagged_calls.specs.TaggedTable.{HasNoMark}
use Rattle.tagged_calls.specs.TaggedTableLaws.{turn_markless}
use Rattle.stopless_copy.specs.StoplessTable.{StoplessMakes, StoplessOwn, StoplessState, StoplessShape, StoplessHead, StoplessField, stopless_move_fed, stopless}
use Rattle.stopless_copy.specs.StoplessCalls.{stopless_calls}

-- ---- every field

state_after : (c : Cycle) (b f : ℕ) (h : List Call) (x : Here) (w : FieldWord) (e : Event) → StoplessMakes e → May c x e → Dated h e → HasNoMark c → value_of (place_word c.mark x w) ≡ value_at h b f → StoplessState b f x x.state → StoplessState b f (after e x) (after e x).state
state_after c b f h x w e makes may dated none agrees state = grind (arith, makes, may, dated, none, agrees, state)

shape_after : (c : Cycle) (b f : ℕ) (h : List Call) (x : Here) (w : FieldWord) (e : Event) → StoplessMakes e → May c x e → Dated h e → value_of (place_word c.mark x w) ≡ value_at h b f → StoplessShape c b f x w → StoplessShape c b f (after e x) (after_copy e w)
shape_after c b f h x w e makes may dated agrees shape = record {
  state = state_after c b f h x w e makes may dated shape.markless agrees shape.state;
  markless = shape.markless;
}

fresh_shape : (c : Cycle) (b f : ℕ) (x : Here) (w : FieldWord) → HasNoMark c → IsFresh x → StoplessShape c b f x w
fresh_shape c b f x w none fresh = record { state = rw fresh.state (fresh.seal, fresh.status); markless = none }

shapes : ShapeLaws stopless
shapes = record {
  makes_quiet = tt;
  makes_write = λ w. tt;
  makes_copy = λ w. tt;
  makes_fix = λ w. tt;
  shape = λ c b f h x w e makes may dated place agrees target shape. shape_after c b f h x w e makes may dated agrees shape;
  apart = λ c b f x w v away shape. record { state = shape.state; markless = shape.markless };
  born = λ c b f x w right fresh zero. fresh_shape c b f x w right fresh;
  arrives = λ c b f x y w v e makes arrives may place shape fresh same. fresh_shape c b f y v shape.markless fresh;
}

-- ---- the collector goes on, and changes no object

turn_own : (c d : Cycle) (side : Side) (x : Here) (k : Known) → StoplessOwn c side x k → StoplessOwn d side x k
turn_own c d side x k own = grind (arith, own)

turns : TurnLaws stopless
turns = record {
  own = λ c side b f x w k e turn phase fits shape own. turn_own c (phased e c) side x k own;
  shape = λ c b f x w e draws phase shape. record { state = shape.state; markless = turn_markless c e draws shape.markless };
  right = λ c e draws go right. turn_markless c e draws right;
  fits_seen = λ c side seen fits. fits;
}

-- ---- the move

heads : (c : Cycle) (m : Carried) (x y : Here) → SameHead x y → StoplessHead c m x → StoplessHead c m y
heads c m x y same head = grind (arith, same, head)

head_stays : (c : Cycle) (m : Carried) (x : Here) (e : Event) → StoplessMakes e → ByPass e → May c x e → StoplessHead c m x → StoplessHead c m (after e x)
head_stays c m x e makes by may head = grind (arith, makes, by, may, head)

field_stays : (c : Cycle) (m : Carried) (g : ℕ) (x : Here) (w : FieldWord) (e : Event) → StoplessMakes e → ByPass e → May c x e → StoplessHead c m x → StoplessField c m g x w → StoplessField c m g (after e x) (after_copy e w)
field_stays c m g x w e makes by may head field = grind (arith, makes, by, may, head, field)

move_makes : (c : Cycle) (h : List Call) (m : Carried) (g : ℕ) (x y : Here) → SameHead x y → StoplessHead c m y → StoplessMakes (move_event c.mark h m g x)
move_makes c h m g x y same head = grind (arith, same, head)

move_may : (c : Cycle) (h : List Call) (m : Carried) (b g : ℕ) (x y : Here) (w : FieldWord) → SameHead x y → StoplessState b g x x.state → StoplessHead c m y → StoplessField c m g x w → May c x (move_event c.mark h m g x)
move_may c h m b g x y w same state head field = grind (arith, same, state, head, field)

move_place : (c : Cycle) (h : List Call) (m : Carried) (b g : ℕ) (x y : Here) (w : FieldWord) → SameHead x y → StoplessState b g x x.state → StoplessHead c m y → StoplessField c m g x w → place_word c.mark (after (move_event c.mark h m g x) x) (after_copy (move_event c.mark h m g x) w) ≡ place_word c.mark x w
move_place c h m b g x y w same state head field = grind (arith, same, state, head, field)

module _ (c : Cycle) (h : List Call) (j : MoveJob) (b g : ℕ) (x y : Here) (w v : FieldWord) (inside : g < j.len) (same : SameHead x y) (state : StoplessState b g x x.state) where
  move_field : (m : Carried) → job_of m ≡ Some j → (g ≡ field_of m → (x ≡ y) × (w ≡ v)) → StoplessHead c m y → StoplessField c m g x w
      → StoplessField c (stopless_move_fed m (move_finds y m)) g (after (move_event c.mark h m g x) x) (after_copy (move_event c.mark h m g x) w)
  move_field Idles job at head field = grind (arith, nat_tests, job, inside, same, at, state, head, field)
  move_field (Looks k) job at head field = grind (arith, nat_tests, job, inside, same, at, state, head, field)
  move_field (Lays k) job at head field = grind (arith, nat_tests, job, inside, same, at, state, head, field)
  move_field (Points k) job at head field = grind (arith, nat_tests, job, inside, same, at, state, head, field)
  move_field (Gives_up k) job at head field = grind (arith, nat_tests, job, inside, same, at, state, head, field)
  move_field (Seals k) job at head field = grind (arith, nat_tests, job, inside, same, at, state, head, field)
  move_field (Starts k) job at head field = grind (arith, nat_tests, job, inside, same, at, state, head, field)
  move_field (Forwards k) job at head field = grind (arith, nat_tests, job, inside, same, at, state, head, field)
  move_field (Takes_up k f) job at head field = grind (arith, nat_tests, job, inside, same, at, state, head, field)
  move_field (Asks k f) job at head field = grind (arith, nat_tests, job, inside, same, at, state, head, field)
  move_field (Widens k f u) job at head field = grind (arith, nat_tests, job, inside, same, at, state, head, field)
  move_field (Finishes k f u) job at head field = grind (arith, nat_tests, job, inside, same, at, state, head, field)
  move_field (Marks k f u) job at head field = grind (arith, nat_tests, job, inside, same, at, state, head, field)
  move_field (Puts k f u) job at head field = grind (arith, nat_tests, job, inside, same, at, state, head, field)

move_hand : (c : Cycle) (h : List Call) (m : Carried) (g : ℕ) (x y : Here) (w : FieldWord) → StoplessHead c m y → StoplessField c m g x w → (v : FieldWord) → move_event c.mark h m g x ≡ Widen v → v ≡ x.word
move_hand c h m g x y w head field v widens = grind (arith, nat_tests, head, field, widens)

module _ (c : Cycle) (h : List Call) (j : MoveJob) (g : ℕ) (x y : Here) (same : SameHead x y) where
  move_head : (m : Carried) → job_of m ≡ Some j → StoplessHead c m y → StoplessHead c (stopless_move_fed m (move_finds y m)) (after (move_event c.mark h m g x) x)
  move_head Idles job head = grind (arith, nat_tests, job, same, head)
  move_head (Looks k) job head = grind (arith, nat_tests, job, same, head)
  move_head (Lays k) job head = grind (arith, nat_tests, job, same, head)
  move_head (Points k) job head = grind (arith, nat_tests, job, same, head)
  move_head (Gives_up k) job head = grind (arith, nat_tests, job, same, head)
  move_head (Seals k) job head = grind (arith, nat_tests, job, same, head)
  move_head (Starts k) job head = grind (arith, nat_tests, job, same, head)
  move_head (Forwards k) job head = grind (arith, nat_tests, job, same, head)
  move_head (Takes_up k f) job head = grind (arith, nat_tests, job, same, head)
  move_head (Asks k f) job head = grind (arith, nat_tests, job, same, head)
  move_head (Widens k f u) job head = grind (arith, nat_tests, job, same, head)
  move_head (Finishes k f u) job head = grind (arith, nat_tests, job, same, head)
  move_head (Marks k f u) job head = grind (arith, nat_tests, job, same, head)
  move_head (Puts k f u) job head = grind (arith, nat_tests, job, same, head)

move_job : (c : Cycle) (m : Carried) (j k : MoveJob) (y : Here) → job_of m ≡ Some j → StoplessHead c m y → job_of (stopless_move_fed m (move_finds y m)) ≡ Some k → k ≡ j
move_job c m j k y job head is = grind (arith, job, head, is)

move_inside : (c : Cycle) (m : Carried) (j : MoveJob) (x : Here) → job_of m ≡ Some j → IsAtField m → StoplessHead c m x → field_of m < j.len
move_inside c m j x job at head = grind (arith, job, at, head)

begins : (m : Carried) (found : Finds) (j : MoveJob) → stopless_move_fed m found ≡ Lays j → ⊥
begins m found j is = grind (arith, is)

still : (c : Cycle) (j : MoveJob) (x : Here) → StoplessHead c (Lays j) x → IsStill x.state
still c j x head = grind (arith, head)

forwarded : (c : Cycle) (j : MoveJob) (x : Here) → StoplessHead c (Forwards j) x → (x.state ≡ Kept) ⊎ (job_of (stopless_move_fed (Forwards j) (Header_word x.state x.colour x.len)) ≡ None)
forwarded c j x head = inr refl

move_ends : (c : Cycle) (m : Carried) (j : MoveJob) (x : Here) → job_of m ≡ Some j → StoplessHead c m x → job_of (stopless_move_fed m (move_finds x m)) ≡ None → MayEnd m x.state
move_ends c m j x job head none = grind (arith, job, head, none)

moves : MoveLaws stopless
moves = record {
  looks = λ c j g x w. tt;
  lays = λ c j g x w. tt;
  heads = heads;
  head_stays = head_stays;
  field_stays = field_stays;
  step = λ c h m j g b x y w v job inside same at shape head field. record {
    makes = move_makes c h m g x y same head;
    may = move_may c h m b g x y w same shape.state head field;
    place = λ live. move_place c h m b g x y w same shape.state head field;
    field = move_field c h j b g x y w v inside same shape.state m job at head field;
    hand = move_hand c h m g x y w head field;
  };
  head = λ c h m j g x y job same head. move_head c h j g x y same m job head;
  job = move_job;
  inside = move_inside;
  looked = λ j found. refl;
  begins = begins;
  still = still;
  gives_up = λ c j x head. head;
  given_up = λ j found. refl;
  forwarded = forwarded;
  ends = move_ends;
}

pub stopless_laws : ProtocolLaws stopless
stopless_laws = record { calls = stopless_calls; shapes = shapes; turns = turns; moves = moves }

narrow : (b f : ℕ) (x : Here) (y : State) → IsStill y → StoplessState b f x y → x.status ≡ InOriginal
narrow b f x y still state = grind (arith, still, state)

pub stopless_cycle : CycleLaws stopless
stopless_cycle = record {
  fits_by = λ c side shaken. shaken.told;
  unmarked = λ c mark clear. (clear, mark);
  announce = λ p. tt;
  reach = λ t. tt;
  lates = λ b. tt;
  unclear = λ c right clear. absurd (let no = right.0 in cc);
  unkeep = tt;
  narrow = λ c b f x w shape still. narrow b f x x.state still shape.state;
}

forwards_state : (c : Cycle) (j : MoveJob) (x : Here) (y : State) → x.wide ≡ j.wide → TargetIs x y → IsWide y → y ≡ Wide j.wide
forwards_state c j x y wide target is = grind (arith, wide, target, is)

-- what it asks of its moves
pub stopless_movable : MovingLaws kinds.Stopless stopless
stopless_movable = record {
  begins = λ j. refl;
  ready = λ c j x wide ready. (ready, wide);
  tags = λ tags. tt;
  keeps = λ makes. refl;
  draws = λ draws m. absurd cc;
  clears = λ clears. absurd cc;
  looks = λ moves c j x head. head;
  narrows = λ clover c b f x w shape wide. absurd cc;
  unwritten = λ clover c side x k found w running own put. absurd cc;
  wides = λ c m x at head. refl;
  starts = λ c j x head. absurd head;
  marks = λ c j f w x head. absurd head;
  forwards = λ c j x to wide target head. (refl, inl (forwards_state c j x x.state wide target head.0));
}
