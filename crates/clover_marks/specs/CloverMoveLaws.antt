-- The laws of Clover's objects and of its move, at one field of one object, and what a cycle asks.
use Rattle.std.proofs.Common.{◌≡◌, ◌≢◌, ℕ, ◌<◌, ◌⊎◌, inl, inr, refl, subst, arith, true, false, Option, Some, None, List}
use Rattle.std.proofs.lemmas.Bool.Decides.{nat_tests}
use Rattle.heap_words.specs.declared.field_word.FieldWord.{FieldWord}
use Rattle.wide_objects.specs.Statuses.{InOriginal}
use Rattle.space_reclaim.specs.declared.move_job.MoveJob.{MoveJob}
use Rattle.heap_history.specs.declared.call.Call.{Call}
use Rattle.object_headers.specs.declared.change.Kind.TheVariants as kinds
use Rattle.barriers.specs.States.{State, Kept, Moving}
use Rattle.barriers.specs.Stances.{Stance, Free}
use Rattle.barriers.specs.Spaces.{Here, zone, Copied, place_word, is_mark}
use Rattle.barriers.specs.Cycles.{Cycle, Side, Phasing, phased, MayGo, MayPhase, IsTold, IsSet, IsMoving, Handshaken}
use Rattle.barriers.specs.Knowns.{Known, Finds, Header_word, puts}
use Rattle.barriers.specs.Events.{Event, Widen, after, after_copy, May, IsStill, IsWide}
use Rattle.barriers.specs.Moves.{Carried, Lays, Forwards, IsAtField, job_of, field_of, move_finds, move_event}
use Rattle.barriers.specs.Protocols.{TargetIs}
use Rattle.barriers.specs.ProtocolLaws.{ByPass, SameHead, MayEnd, IsFresh, ShapeLaws, TurnLaws, MoveLaws, ProtocolLaws}
use Rattle.barriers.specs.CycleLaws.{CycleLaws, IsAtWide, MovingLaws}
use Rattle.clover_marks.specs.CloverTable.{CloverFits, CloverState, Ready, ClearAt, CloverShape, CloverRight, CloverHead, CloverField, CloverMakes, CloverOwn, Unwritten, will_write, clover_move_fed, clover}
use Rattle.clover_marks.specs.CloverStays.{own_turns}
use Rattle.clover_marks.specs.CloverCallLaws.{clover_calls}

-- ---- every field

state_after : (c : Cycle) (x : Here) (e : Event) → CloverMakes e → May c x e → CloverState x.state → CloverState (after e x).state
state_after c x e makes may state = grind (arith, makes, may, state)

seal_after : (c : Cycle) (x : Here) (e : Event) → CloverMakes e → May c x e → CloverState x.state → x.seal ≡ None → (after e x).seal ≡ None
seal_after c x e makes may state seal = grind (arith, makes, may, state, seal)

status_after : (x : Here) (e : Event) → CloverMakes e → x.status ≡ InOriginal → (after e x).status ≡ InOriginal
status_after x e makes status = grind (arith, makes, status)

moving_after : (c : Cycle) (x : Here) (e : Event) → CloverMakes e → May c x e → (c.clear ≡ true → IsSet c.mark) → (IsMoving x.state → Ready c) → IsMoving (after e x).state → Ready c
moving_after c x e makes may set was is = grind (arith, makes, may, set, was, is)

-- a step of a pass, and one that leaves the word at the place
put_after : (c : Cycle) (x : Here) (w : FieldWord) (e : Event) → CloverMakes e → ByPass e → May c x e → CloverState x.state → c.clear ≡ true → is_mark c.mark (place_word c.mark x w) ≡ false → is_mark c.mark (place_word c.mark (after e x) (after_copy e w)) ≡ false
put_after c x w e makes by may state clear place = grind (arith, makes, by, may, state, clear, place)

place_after : (c : Cycle) (x : Here) (w : FieldWord) (e : Event) → CloverMakes e → May c x e → CloverState x.state → ByPass e ⊎ (place_word c.mark (after e x) (after_copy e w) ≡ place_word c.mark x w) → c.clear ≡ true → is_mark c.mark (place_word c.mark x w) ≡ false
    → is_mark c.mark (place_word c.mark (after e x) (after_copy e w)) ≡ false
place_after c x w e makes may state (inl by) clear place = put_after c x w e makes by may state clear place
place_after c x w e makes may state (inr same) clear place = rw same place

shape_after : (c : Cycle) (b f : ℕ) (x : Here) (w : FieldWord) (e : Event) → CloverMakes e → May c x e → ByPass e ⊎ (place_word c.mark (after e x) (after_copy e w) ≡ place_word c.mark x w) → CloverShape c b f x w → CloverShape c b f (after e x) (after_copy e w)
shape_after c b f x w e makes may place shape = record {
  state = state_after c x e makes may shape.state;
  seal = seal_after c x e makes may shape.state shape.seal;
  status = status_after x e makes shape.status;
  moving = moving_after c x e makes may (λ clear. let at = shape.clear clear in at.0) shape.moving;
  clear = λ clear. let at = shape.clear clear in (at.0, at.1, place_after c x w e makes may shape.state place clear at.2);
}

-- it reads the copy's word only where the place is there
apart_place : (c : Cycle) (x : Here) (w v : FieldWord) → (zone c.mark x.state x.word x.status ≡ Copied → ⊥) → place_word c.mark x w ≡ place_word c.mark x v
apart_place c x w v away = grind (arith, away)

apart_shape : (c : Cycle) (b f : ℕ) (x : Here) (w v : FieldWord) → (zone c.mark x.state x.word x.status ≡ Copied → ⊥) → CloverShape c b f x w → CloverShape c b f x v
apart_shape c b f x w v away shape = record {
  state = shape.state;
  seal = shape.seal;
  status = shape.status;
  moving = shape.moving;
  clear = λ clear. rw (← apart_place c x w v away) (shape.clear clear);
}

fresh_shape : (c : Cycle) (b f : ℕ) (x : Here) (w : FieldWord) → IsFresh x → (c.clear ≡ true → ClearAt c x.word) → CloverShape c b f x w
fresh_shape c b f x w fresh clear = record {
  state = rw fresh.state tt;
  seal = fresh.seal;
  status = fresh.status;
  moving = rw fresh.state (λ never. absurd never);
  clear = rw fresh.state clear;
}

arrived : (c : Cycle) (b f : ℕ) (x : Here) (w : FieldWord) → place_word c.mark x w ≡ w → CloverShape c b f x w → c.clear ≡ true → ClearAt c w
arrived c b f x w place shape clear = rw place at (shape.clear clear)

shapes : ShapeLaws clover
shapes = record {
  makes_quiet = tt;
  makes_write = λ w. tt;
  makes_copy = λ w. tt;
  makes_fix = λ w. tt;
  shape = λ c b f h x w e makes may dated place agrees target shape. shape_after c b f x w e makes may place shape;
  apart = apart_shape;
  born = λ c b f x w right fresh zero. fresh_shape c b f x w fresh (λ clear. rw zero (right clear));
  arrives = λ c b f x y w v e makes arrives may place shape fresh same. fresh_shape c b f y v fresh (λ clear. rw same (arrived c b f x w place shape clear));
}

-- ---- the collector goes on, and changes no object

turn_moving : (c : Cycle) (x : Here) (o : FieldWord) (e : Phasing) → MayPhase c x.state o e → (IsMoving x.state → Ready c) → IsMoving x.state → Ready (phased e c)
turn_moving c x o e may was is = grind (arith, may, was, is)

-- the place is the same, unless the mark is another, of which an object that moves knows
turn_place : (c : Cycle) (x : Here) (w : FieldWord) (e : Phasing) → MayPhase c x.state (place_word c.mark x w) e → place_word (phased e c).mark x w ≡ place_word c.mark x w
turn_place c x w e may = grind (arith, may)

turn_clear : (c : Cycle) (x : Here) (o : FieldWord) (e : Phasing) → MayPhase c x.state o e → (c.clear ≡ true → ClearAt c o) → (phased e c).clear ≡ true → ClearAt (phased e c) o
turn_clear c x o e may was is = grind (arith, may, was, is)

turn_shape : (c : Cycle) (b f : ℕ) (x : Here) (w : FieldWord) (e : Phasing) → MayPhase c x.state (place_word c.mark x w) e → CloverShape c b f x w → CloverShape (phased e c) b f x w
turn_shape c b f x w e may shape = record {
  state = shape.state;
  seal = shape.seal;
  status = shape.status;
  moving = turn_moving c x (place_word c.mark x w) e may shape.moving;
  clear = λ clear. rw (turn_place c x w e may) (turn_clear c x (place_word c.mark x w) e may shape.clear clear);
}

turn_right : (c : Cycle) (e : Phasing) → MayGo c e → CloverRight c → CloverRight (phased e c)
turn_right c e go right = grind (arith, go, right)

turns : TurnLaws clover
turns = record {
  own = λ c side b f x w k e turn may fits shape own. own_turns c side x w k e turn may fits own;
  shape = λ c b f x w e phases may shape. turn_shape c b f x w e may shape;
  right = λ c e phases go right. turn_right c e go right;
  fits_seen = λ c side seen fits. fits;
}

-- ---- the move

heads : (c : Cycle) (m : Carried) (x y : Here) → SameHead x y → CloverHead c m x → CloverHead c m y
heads c m x y same head = grind (arith, same, head)

head_stays : (c : Cycle) (m : Carried) (x : Here) (e : Event) → CloverMakes e → ByPass e → May c x e → CloverHead c m x → CloverHead c m (after e x)
head_stays c m x e makes by may head = grind (arith, makes, by, may, head)

field_stays : (c : Cycle) (m : Carried) (g : ℕ) (x : Here) (w : FieldWord) (e : Event) → CloverMakes e → ByPass e → May c x e → CloverHead c m x → CloverField c m g x w → CloverField c m g (after e x) (after_copy e w)
field_stays c m g x w e makes by may head field = grind (arith, makes, by, may, head, field)

move_makes : (c : Cycle) (h : List Call) (m : Carried) (g : ℕ) (x y : Here) → SameHead x y → CloverHead c m y → CloverMakes (move_event c.mark h m g x)
move_makes c h m g x y same head = grind (arith, same, head)

-- from here on what every field is like is taken apart: after a clear search the word at the place is not the mark
module _ (c : Cycle) (h : List Call) (m : Carried) (g : ℕ) (x y : Here) (w : FieldWord) (same : SameHead x y) (seal : x.seal ≡ None) (status : x.status ≡ InOriginal) (clear : c.clear ≡ true → ClearAt c (place_word c.mark x w)) (head : CloverHead c m y) (field : CloverField c m g x w) where
  move_may : May c x (move_event c.mark h m g x)
  move_may = grind (arith, nat_tests, same, status, clear, head, field)

  move_place : place_word c.mark (after (move_event c.mark h m g x) x) (after_copy (move_event c.mark h m g x) w) ≡ place_word c.mark x w
  move_place = grind (arith, nat_tests, same, status, clear, head, field)

  move_field : (j : MoveJob) (v : FieldWord) → job_of m ≡ Some j → g < j.len → (g ≡ field_of m → (x ≡ y) × (w ≡ v)) → CloverField c (clover_move_fed m (move_finds y m)) g (after (move_event c.mark h m g x) x) (after_copy (move_event c.mark h m g x) w)
  move_field j v job inside at = grind (arith, nat_tests, job, inside, same, at, clear, head, field)

move_hand : (c : Cycle) (h : List Call) (m : Carried) (g : ℕ) (x y : Here) → CloverHead c m y → (v : FieldWord) → move_event c.mark h m g x ≡ Widen v → v ≡ x.word
move_hand c h m g x y head v widens = grind (arith, head, widens)

move_head : (c : Cycle) (h : List Call) (m : Carried) (j : MoveJob) (g : ℕ) (x y : Here) → job_of m ≡ Some j → SameHead x y → CloverHead c m y → CloverHead c (clover_move_fed m (move_finds y m)) (after (move_event c.mark h m g x) x)
move_head c h m j g x y job same head = grind (arith, nat_tests, job, same, head)

move_job : (c : Cycle) (m : Carried) (j k : MoveJob) (y : Here) → job_of m ≡ Some j → CloverHead c m y → job_of (clover_move_fed m (move_finds y m)) ≡ Some k → k ≡ j
move_job c m j k y job head is = grind (arith, job, head, is)

move_inside : (c : Cycle) (m : Carried) (j : MoveJob) (x : Here) → job_of m ≡ Some j → IsAtField m → CloverHead c m x → field_of m < j.len
move_inside c m j x job at head = grind (arith, job, at, head)

begins : (m : Carried) (found : Finds) (j : MoveJob) → clover_move_fed m found ≡ Lays j → ⊥
begins m found j is = grind (arith, is)

still : (c : Cycle) (j : MoveJob) (x : Here) → CloverHead c (Lays j) x → IsStill x.state
still c j x head = grind (arith, head)

forwarded : (c : Cycle) (j : MoveJob) (x : Here) → CloverHead c (Forwards j) x → (x.state ≡ Kept) ⊎ (job_of (clover_move_fed (Forwards j) (Header_word x.state x.colour x.len)) ≡ None)
forwarded c j x head = inr refl

move_ends : (c : Cycle) (m : Carried) (j : MoveJob) (x : Here) → job_of m ≡ Some j → CloverHead c m x → job_of (clover_move_fed m (move_finds x m)) ≡ None → MayEnd m x.state
move_ends c m j x job head none = grind (arith, job, head, none)

moves : MoveLaws clover
moves = record {
  looks = λ c j g x w. tt;
  lays = λ c j g x w. tt;
  heads = heads;
  head_stays = head_stays;
  field_stays = field_stays;
  step = λ c h m j g b x y w v job inside same at shape head field. record {
    makes = move_makes c h m g x y same head;
    may = move_may c h m g x y w same shape.seal shape.status shape.clear head field;
    place = λ live. move_place c h m g x y w same shape.seal shape.status shape.clear head field;
    field = move_field c h m g x y w same shape.seal shape.status shape.clear head field j v job inside at;
    hand = move_hand c h m g x y head;
  };
  head = move_head;
  job = move_job;
  inside = move_inside;
  looked = λ j found. refl;
  begins = begins;
  still = still;
  gives_up = λ c j x head. absurd head;
  given_up = λ j found. refl;
  forwarded = forwarded;
  ends = move_ends;
}

pub clover_laws : ProtocolLaws clover
clover_laws = record { calls = clover_calls; shapes = shapes; turns = turns; moves = moves }

-- ---- what a cycle asks

fits_by : (c : Cycle) (side : Side) → Handshaken c side → CloverFits c side
fits_by c side shaken = (shaken.told, owns c side shaken)
  where
    owns : (c : Cycle) (side : Side) → Handshaken c side → IsTold side.acked ⊎ (c.clear ≡ true) → side.own ≡ c.mark
    owns c side shaken told = grind (arith, shaken.own, shaken.clear, told)

pub clover_cycle : CycleLaws clover
clover_cycle = record {
  fits_by = fits_by;
  unmarked = λ c mark clear is. absurd (let no : false ≡ true = cc in cc);
  announce = λ p. tt;
  reach = λ t. tt;
  lates = λ b. tt;
  unclear = λ c right clear. tt;
  unkeep = tt;
  narrow = λ c b f x w shape still. shape.status;
}

at_wide : (c : Cycle) (m : Carried) (x : Here) → IsAtWide m → CloverHead c m x → ⊥
at_wide c m x at head = grind (arith, at, head)

not_wide : (x : State) → CloverState x → IsWide x → ⊥
not_wide x state wide = grind (arith, state, wide)

-- what its step puts is the word that it will write
put_is : (k : Known) (found : Finds) (w : FieldWord) → puts k found ≡ Some w → will_write k ≡ Some w
put_is k found w put = grind (arith, put)

not_own : (phase : Stance) (own : Option FieldWord) (w : FieldWord) → phase ≢ Free → Unwritten phase own (Some w) → is_mark own w ≡ false
not_own phase own w running is = elim is [ inl free ↦ absurd (running free) | inr other ↦ other ]

unwritten : (c : Cycle) (side : Side) (x : Here) (k : Known) (found : Finds) (w : FieldWord) → c.phase ≢ Free → CloverOwn c side x k → puts k found ≡ Some w → is_mark side.own w ≡ false
unwritten c side x k found w running own put = not_own c.phase side.own w running (subst (Unwritten c.phase side.own) (put_is k found w put) own.1)

moving_to : (y : State) (to at : ℕ) (x : Here) → IsMoving y → x.to ≡ to → TargetIs x y → y ≡ Moving to
moving_to y to at x is same target = grind (arith, is, same, target)

-- what it asks of its moves
pub clover_movable : MovingLaws kinds.Clover clover
clover_movable = record {
  begins = λ j. refl;
  ready = λ c j x wide ready. (ready.0, (ready.1, ready.2, ready.3));
  tags = λ tags. absurd cc;
  keeps = λ makes. absurd makes;
  draws = λ draws m. tt;
  clears = λ clears. tt;
  looks = λ moves c j x head. head;
  narrows = λ clover c b f x w shape wide. not_wide x.state shape.state wide;
  unwritten = λ clover c side x k found w running own put. unwritten c side x k found w running own put;
  wides = λ c m x at head. absurd (at_wide c m x at head);
  starts = λ c j x head. (refl, head.0);
  marks = λ c j f w x head. let under = head.0 in let ready = under.1 in ready.2;
  forwards = λ c j x to wide target head. (refl, inl (moving_to x.state j.to 0 x head.0 to target));
}
