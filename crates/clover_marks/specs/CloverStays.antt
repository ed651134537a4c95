-- What a call of Clover may assume stays true under everyone's steps.
use Rattle.std.proofs.Common.{◌≡◌, ℕ, arith, false, Option}
use Rattle.heap_words.specs.declared.field_word.FieldWord.{FieldWord}
use Rattle.barriers.specs.declared.spot.Spot.{Spot}
use Rattle.barriers.specs.Spaces.{Here, place_word}
use Rattle.barriers.specs.Cycles.{Cycle, Side, Phasing, phased, MayTurn, MayPhase}
use Rattle.barriers.specs.Knowns.{Known, has_field}
use Rattle.barriers.specs.Events.{Event, after, May}
use Rattle.barriers.specs.Protocols.{TargetIs}
use Rattle.clover_marks.specs.CloverTable.{AtOriginal, Aimed, BareStore, FoundMark, AtCopy, CloverRow, will_write, Unwritten, CloverMakes, CloverFits, CloverOwn}

-- ---- steps at the field

original_stays : (c : Cycle) (side : Side) (x : Here) (e : Event) → CloverMakes e → May c x e → CloverFits c side → AtOriginal c.mark side.own x.word x.state → AtOriginal c.mark side.own (after e x).word (after e x).state
original_stays c side x e makes may fits own = grind (arith, makes, may, fits, own)

aimed_stays : (c : Cycle) (side : Side) (x : Here) (e : Event) (v : FieldWord) → CloverMakes e → May c x e → CloverFits c side → Aimed c side v x.state → Aimed c side v (after e x).state
aimed_stays c side x e v makes may fits own = grind (arith, makes, may, fits, own)

bare_stays : (c : Cycle) (side : Side) (x : Here) (e : Event) → CloverMakes e → May c x e → BareStore c side.own x.state → BareStore c side.own (after e x).state
bare_stays c side x e makes may own = grind (arith, makes, may, own)

found_stays : (c : Cycle) (side : Side) (s : Spot) (x : Here) (e : Event) → CloverMakes e → May c x e → CloverFits c side → FoundMark c side s x.word x.state → FoundMark c side s (after e x).word (after e x).state
found_stays c side s x e makes may fits own = grind (arith, makes, may, fits, own)

copy_stays : (c : Cycle) (x : Here) (e : Event) (to : ℕ) → TargetIs x x.state → CloverMakes e → May c x e → AtCopy c.mark to x.word x.state → AtCopy c.mark to (after e x).word (after e x).state
copy_stays c x e to target makes may own = grind (arith, target, makes, may, own)

row_stays : (c : Cycle) (side : Side) (x : Here) (e : Event) (k : Known) → TargetIs x x.state → CloverMakes e → May c x e → CloverFits c side → CloverRow c side x k → CloverRow c side (after e x) k
row_stays c side x e k target makes may fits own =
    grind (arith, own, original_stays c side x e makes may fits, aimed_stays c side x e, found_stays c side, bare_stays c side x e makes may, copy_stays c x e, target, makes, may, fits)

pub own_stays : (c : Cycle) (side : Side) (x : Here) (e : Event) (k : Known) → TargetIs x x.state → CloverMakes e → May c x e → CloverFits c side → CloverOwn c side x k → CloverOwn c side (after e x) k
own_stays c side x e k target makes may fits own = (row_stays c side x e k target makes may fits own.0, own.1)

-- before it has found that the object has the field its row says nothing of the object
pub own_bare : (c : Cycle) (side : Side) (x y : Here) (k : Known) → has_field k ≡ false → CloverOwn c side x k → CloverOwn c side y k
own_bare c side x y k bare own = (row_bare c side x y k bare own.0, own.1)
  where
    row_bare : (c : Cycle) (side : Side) (x y : Here) (k : Known) → has_field k ≡ false → CloverRow c side x k → CloverRow c side y k
    row_bare c side x y k bare own = grind (arith, bare, own)

-- ---- steps of the collector that change no object

original_turns : (c : Cycle) (side : Side) (x : Here) (w : FieldWord) (e : Phasing) → MayPhase c x.state (place_word c.mark x w) e → AtOriginal c.mark side.own x.word x.state → AtOriginal (phased e c).mark side.own x.word x.state
original_turns c side x w e may own = grind (arith, may, own)

aimed_turns : (c : Cycle) (side : Side) (x : Here) (w : FieldWord) (e : Phasing) (v : FieldWord) → MayTurn c side e → MayPhase c x.state (place_word c.mark x w) e → CloverFits (phased e c) side → AtOriginal c.mark side.own x.word x.state → Aimed c side v x.state → Aimed (phased e c) side v x.state
aimed_turns c side x w e v turn may fits at own = grind (arith, turn, may, fits, at, own)

bare_turns : (c : Cycle) (side : Side) (x : Here) (w : FieldWord) (e : Phasing) → MayPhase c x.state (place_word c.mark x w) e → CloverFits (phased e c) side → BareStore c side.own x.state → BareStore (phased e c) side.own x.state
bare_turns c side x w e may fits own = grind (arith, may, fits, own)

found_turns : (c : Cycle) (side : Side) (s : Spot) (x : Here) (w : FieldWord) (e : Phasing) → MayTurn c side e → MayPhase c x.state (place_word c.mark x w) e → FoundMark c side s x.word x.state → FoundMark (phased e c) side s x.word x.state
found_turns c side s x w e turn may own = grind (arith, turn, may, own)

copy_turns : (c : Cycle) (x : Here) (w : FieldWord) (e : Phasing) (to : ℕ) → MayPhase c x.state (place_word c.mark x w) e → AtCopy c.mark to x.word x.state → AtCopy (phased e c).mark to x.word x.state
copy_turns c x w e to may own = grind (arith, may, own)

row_turns : (c : Cycle) (side : Side) (x : Here) (w : FieldWord) (k : Known) (e : Phasing) → MayTurn c side e → MayPhase c x.state (place_word c.mark x w) e → CloverFits (phased e c) side → CloverRow c side x k → CloverRow (phased e c) side x k
row_turns c side x w k e turn may fits own =
    grind (arith, own, original_turns c side x w e may, aimed_turns c side x w e, bare_turns c side x w e may fits, found_turns c side, copy_turns c x w e, turn, may, fits)

unwritten_turns : (c : Cycle) (side : Side) (e : Phasing) (o : Option FieldWord) → MayTurn c side e → Unwritten c.phase side.own o → Unwritten (phased e c).phase side.own o
unwritten_turns c side e o turn own = grind (arith, turn, own)

pub own_turns : (c : Cycle) (side : Side) (x : Here) (w : FieldWord) (k : Known) (e : Phasing) → MayTurn c side e → MayPhase c x.state (place_word c.mark x w) e → CloverFits (phased e c) side → CloverOwn c side x k → CloverOwn (phased e c) side x k
own_turns c side x w k e turn may fits own = (row_turns c side x w k e turn may fits own.0, unwritten_turns c side e (will_write k) turn own.1)
