-- The laws of Chicken's objects and of its move, at one field of one object, and what a cycle asks.
use Rattle.std.proofs.Common.{◌≡◌, ℕ, ◌<◌, ◌⊎◌, refl, arith, Some, None, List}
use Rattle.std.proofs.lemmas.Bool.Decides.{nat_tests}
use Rattle.heap_words.specs.declared.field_word.FieldWord.{FieldWord}
use Rattle.wide_objects.specs.Statuses.{InOriginal}
use Rattle.space_reclaim.specs.declared.move_job.MoveJob.{MoveJob}
use Rattle.heap_history.specs.NewestFirst.{value_at}
use Rattle.heap_history.specs.declared.call.Call.{Call}
use Rattle.object_headers.specs.declared.change.Kind.TheVariants as kinds
use Rattle.barriers.specs.States.{State, Kept, Tagged}
use Rattle.barriers.specs.Spaces.{Here, place_word}
use Rattle.barriers.specs.Values.{value_of}
use Rattle.barriers.specs.Cycles.{Cycle, Side, phased}
use Rattle.barriers.specs.Knowns.{Known, Finds, Header_word}
use Rattle.barriers.specs.Events.{Event, Widen, after, after_copy, May, IsStill}
use Rattle.barriers.specs.Moves.{Carried, Lays, Gives_up, Forwards, IsAtField, job_of, field_of, move_finds, move_event}
use Rattle.barriers.specs.ProtocolLaws.{Dated, ByPass, SameHead, MayEnd, IsFresh, ShapeLaws, TurnLaws, MoveLaws, ProtocolLaws}
use Rattle.barriers.specs.CycleLaws.{CycleLaws, IsTaggedOrKept, IsAtWide, MovingLaws}
use Rattle.tagged_calls.specs.TaggedTable.{HasNoMark}
use Rattle.tagged_calls.specs.TaggedTableLaws.{turn_markless}
use Rattle.chicken_tags.specs.ChickenTable.{ChickenMakes, ChickenOwn, ChickenState, ChickenShape, ChickenHead, ChickenField, chicken_move_fed, chicken}
use Rattle.chicken_tags.specs.ChickenCallLaws.{chicken_calls}

-- ---- every field

state_after : (c : Cycle) (b f : ℕ) (h : List Call) (x : Here) (w : FieldWord) (e : Event) → ChickenMakes e → May c x e → Dated h e → HasNoMark c → value_of (place_word c.mark x w) ≡ value_at h b f → ChickenState b f x x.state → ChickenState b f (after e x) (after e x).state
state_after c b f h x w e makes may dated none agrees state = grind (arith, makes, may, dated, none, agrees, state)

status_after : (x : Here) (e : Event) → ChickenMakes e → x.status ≡ InOriginal → (after e x).status ≡ InOriginal
status_after x e makes status = grind (arith, makes, status)

shape_after : (c : Cycle) (b f : ℕ) (h : List Call) (x : Here) (w : FieldWord) (e : Event) → ChickenMakes e → May c x e → Dated h e → value_of (place_word c.mark x w) ≡ value_at h b f → ChickenShape c b f x w → ChickenShape c b f (after e x) (after_copy e w)
shape_after c b f h x w e makes may dated agrees shape = record {
  state = state_after c b f h x w e makes may dated shape.markless agrees shape.state;
  markless = shape.markless;
  status = status_after x e makes shape.status;
}

fresh_shape : (c : Cycle) (b f : ℕ) (x : Here) (w : FieldWord) → HasNoMark c → IsFresh x → ChickenShape c b f x w
fresh_shape c b f x w none fresh = record { state = rw fresh.state fresh.seal; markless = none; status = fresh.status }

shapes : ShapeLaws chicken
shapes = record {
  makes_quiet = tt;
  makes_write = λ w. tt;
  makes_copy = λ w. tt;
  makes_fix = λ w. tt;
  shape = λ c b f h x w e makes may dated place agrees target shape. shape_after c b f h x w e makes may dated agrees shape;
  apart = λ c b f x w v away shape. record { state = shape.state; markless = shape.markless; status = shape.status };
  born = λ c b f x w right fresh zero. fresh_shape c b f x w right fresh;
  arrives = λ c b f x y w v e makes arrives may place shape fresh same. fresh_shape c b f y v shape.markless fresh;
}

-- ---- the collector goes on, and changes no object

turn_own : (c d : Cycle) (side : Side) (x : Here) (k : Known) → ChickenOwn c side x k → ChickenOwn d side x k
turn_own c d side x k own = grind (arith, own)

turns : TurnLaws chicken
turns = record {
  own = λ c side b f x w k e turn phase fits shape own. turn_own c (phased e c) side x k own;
  shape = λ c b f x w e draws phase shape. record { state = shape.state; markless = turn_markless c e draws shape.markless; status = shape.status };
  right = λ c e draws go right. turn_markless c e draws right;
  fits_seen = λ c side seen fits. fits;
}

-- ---- the move

heads : (c : Cycle) (m : Carried) (x y : Here) → SameHead x y → ChickenHead c m x → ChickenHead c m y
heads c m x y same head = grind (arith, same, head)

head_stays : (c : Cycle) (m : Carried) (x : Here) (e : Event) → ChickenMakes e → ByPass e → May c x e → ChickenHead c m x → ChickenHead c m (after e x)
head_stays c m x e makes by may head = grind (arith, makes, by, may, head)

field_stays : (c : Cycle) (m : Carried) (g : ℕ) (x : Here) (w : FieldWord) (e : Event) → ChickenMakes e → ByPass e → May c x e → ChickenHead c m x → ChickenField c m g x w → ChickenField c m g (after e x) (after_copy e w)
field_stays c m g x w e makes by may head field = grind (arith, makes, by, may, head, field)

move_makes : (c : Cycle) (h : List Call) (m : Carried) (g : ℕ) (x y : Here) → SameHead x y → ChickenHead c m y → ChickenMakes (move_event c.mark h m g x)
move_makes c h m g x y same head = grind (arith, same, head)

move_may : (c : Cycle) (h : List Call) (m : Carried) (g : ℕ) (x y : Here) → SameHead x y → HasNoMark c → ChickenHead c m y → May c x (move_event c.mark h m g x)
move_may c h m g x y same none head = grind (arith, same, none, head)

move_place : (c : Cycle) (h : List Call) (m : Carried) (g : ℕ) (x y : Here) (w : FieldWord) → SameHead x y → ChickenHead c m y → ChickenField c m g x w → place_word c.mark (after (move_event c.mark h m g x) x) (after_copy (move_event c.mark h m g x) w) ≡ place_word c.mark x w
move_place c h m g x y w same head field = grind (arith, same, head, field)

move_field : (c : Cycle) (h : List Call) (m : Carried) (j : MoveJob) (g : ℕ) (x y : Here) (w v : FieldWord) → job_of m ≡ Some j → g < j.len → SameHead x y → (g ≡ field_of m → (x ≡ y) × (w ≡ v)) → ChickenHead c m y → ChickenField c m g x w
    → ChickenField c (chicken_move_fed m (move_finds y m)) g (after (move_event c.mark h m g x) x) (after_copy (move_event c.mark h m g x) w)
move_field c h m j g x y w v job inside same at head field = grind (arith, nat_tests, job, inside, same, at, head, field)

move_hand : (c : Cycle) (h : List Call) (m : Carried) (g : ℕ) (x y : Here) → ChickenHead c m y → (v : FieldWord) → move_event c.mark h m g x ≡ Widen v → v ≡ x.word
move_hand c h m g x y head v widens = grind (arith, head, widens)

move_head : (c : Cycle) (h : List Call) (m : Carried) (j : MoveJob) (g : ℕ) (x y : Here) → job_of m ≡ Some j → SameHead x y → ChickenHead c m y → ChickenHead c (chicken_move_fed m (move_finds y m)) (after (move_event c.mark h m g x) x)
move_head c h m j g x y job same head = grind (arith, nat_tests, job, same, head)

move_job : (c : Cycle) (m : Carried) (j k : MoveJob) (y : Here) → job_of m ≡ Some j → ChickenHead c m y → job_of (chicken_move_fed m (move_finds y m)) ≡ Some k → k ≡ j
move_job c m j k y job head is = grind (arith, job, head, is)

move_inside : (c : Cycle) (m : Carried) (j : MoveJob) (x : Here) → job_of m ≡ Some j → IsAtField m → ChickenHead c m x → field_of m < j.len
move_inside c m j x job at head = grind (arith, job, at, head)

begins : (m : Carried) (found : Finds) (j : MoveJob) → chicken_move_fed m found ≡ Lays j → ⊥
begins m found j is = grind (arith, is)

still : (c : Cycle) (j : MoveJob) (x : Here) → ChickenHead c (Lays j) x → IsStill x.state
still c j x head = grind (arith, head)

gives_up : (c : Cycle) (j : MoveJob) (x : Here) → ChickenHead c (Gives_up j) x → x.state ≡ Kept
gives_up c j x head = head

forwarded : (c : Cycle) (j : MoveJob) (x : Here) → ChickenHead c (Forwards j) x → (x.state ≡ Kept) ⊎ (job_of (chicken_move_fed (Forwards j) (Header_word x.state x.colour x.len)) ≡ None)
forwarded c j x head = grind (arith, head)

move_ends : (c : Cycle) (m : Carried) (j : MoveJob) (x : Here) → job_of m ≡ Some j → ChickenHead c m x → job_of (chicken_move_fed m (move_finds x m)) ≡ None → MayEnd m x.state
move_ends c m j x job head none = grind (arith, job, head, none)

moves : MoveLaws chicken
moves = record {
  looks = λ c j g x w. tt;
  lays = λ c j g x w. tt;
  heads = heads;
  head_stays = head_stays;
  field_stays = field_stays;
  step = λ c h m j g b x y w v job inside same at shape head field. record {
    makes = move_makes c h m g x y same head;
    may = move_may c h m g x y same shape.markless head;
    place = λ live. move_place c h m g x y w same head field;
    field = move_field c h m j g x y w v job inside same at head field;
    hand = move_hand c h m g x y head;
  };
  head = move_head;
  job = move_job;
  inside = move_inside;
  looked = λ j found. refl;
  begins = begins;
  still = still;
  gives_up = gives_up;
  given_up = λ j found. refl;
  forwarded = forwarded;
  ends = move_ends;
}

pub chicken_laws : ProtocolLaws chicken
chicken_laws = record { calls = chicken_calls; shapes = shapes; turns = turns; moves = moves }

pub chicken_cycle : CycleLaws chicken
chicken_cycle = record {
  fits_by = λ c side shaken. shaken.told;
  unmarked = λ c mark clear. (clear, mark);
  announce = λ p. tt;
  reach = λ t. tt;
  lates = λ b. tt;
  unclear = λ c right clear. absurd (let no = right.0 in cc);
  unkeep = tt;
  narrow = λ c b f x w shape still. shape.status;
}

at_wide : (c : Cycle) (m : Carried) (x : Here) → IsAtWide m → ChickenHead c m x → ⊥
at_wide c m x at head = grind (arith, at, head)

tagged_or_kept : (y : State) → IsTaggedOrKept y → (y ≡ Tagged) ⊎ (y ≡ Kept)
tagged_or_kept y is = grind (arith, is)

-- what it asks of its moves
pub chicken_movable : MovingLaws kinds.Chicken chicken
chicken_movable = record {
  begins = λ j. refl;
  ready = λ c j x wide ready. ready;
  tags = λ tags. tt;
  keeps = λ makes. refl;
  draws = λ draws m. absurd cc;
  clears = λ clears. absurd cc;
  looks = λ moves c j x head. head;
  narrows = λ clover c b f x w shape wide. absurd cc;
  unwritten = λ clover c side x k found w running own put. absurd cc;
  wides = λ c m x at head. absurd (at_wide c m x at head);
  starts = λ c j x head. absurd head;
  marks = λ c j f w x head. absurd head;
  forwards = λ c j x to wide target head. (refl, tagged_or_kept x.state head.0);
}
