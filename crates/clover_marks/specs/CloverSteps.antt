-- The step of a call of Clover: it may be taken, and the row that the call then is in holds.
use Rattle.std.proofs.Common.{◌≡◌, ℕ, ◌<◌, ◌⊎◌, inl, inr, refl, arith, Bool, true, false, Option, Some, None, List}
use Rattle.std.specs.Prelude.{if◌then◌else◌}
use Rattle.heap_words.specs.declared.field_word.FieldWord.{FieldWord}
use Rattle.heap_history.specs.NewestFirst.{value_at}
use Rattle.heap_history.specs.declared.call.Call.{Call}
use Rattle.barriers.specs.declared.spot.Spot.{Spot}
use Rattle.barriers.specs.Stances.{Stance, Mark, Confirm, Search, Copy, Fix, Free, Retired}
use Rattle.barriers.specs.States.{State, Absent, Plain, Kept, Tagged, Wide, Moving, Underway, Forward, Dead, IsLive, same_word}
use Rattle.barriers.specs.Spaces.{Here, is_mark, place_word}
use Rattle.barriers.specs.Values.{value_of}
use Rattle.barriers.specs.Cycles.{Cycle, Side, IsMoving}
use Rattle.barriers.specs.Knowns.{Task, Reads, Writes, Exchanges, Known, Checks, Loads_header, Loads, Stores, Swaps, Loads_again, Loads_copy, Stores_copy, Swaps_copy, Follows, Over, Finds, Field_word, at_field, has_field, writes_yet, word_in, finds, puts, looks, front}
use Rattle.barriers.specs.Events.{Write, Write_copy, after, May, put_event, event}
use Rattle.barriers.specs.Protocols.{seen_after}
use Rattle.barriers.specs.PlainCalls.{to_original, to_copy, loaded, end_made, lost}
use Rattle.barriers.specs.PlainCallLaws.{spot_at, loaded_holds, exchanged_holds, where_holds}
use Rattle.clover_marks.specs.CloverTable.{by_phase, by_mark, by_state, unless_mark, by_again, by_load, clover_fed, CloverFits, IsLate, AtOriginal, Aimed, BareStore, FoundMark, AtCopy, CloverRow, will_write, Unwritten, CloverOwn, CloverState, Ready, ClearAt, CloverShape, CloverMakes}
use Rattle.clover_marks.specs.CloverGoes.{phase_cases, mark_cases, load_cases, lost_cases, value_cases, clover_goes}

-- ---- the step may be taken

put_makes : (z : Spot) (t : Task) (v : FieldWord) (n : ℕ) (o : Option FieldWord) → CloverMakes (put_event (Swaps z t v n) o)
put_makes z t v n None = tt
put_makes z t v n (Some w) = tt

put_copy_makes : (z : Spot) (t : Task) (to : ℕ) (v : FieldWord) (n : ℕ) (o : Option FieldWord) → CloverMakes (put_event (Swaps_copy z t to v n) o)
put_copy_makes z t to v n None = tt
put_copy_makes z t to v n (Some w) = tt

pub step_makes : (c : Cycle) (side : Side) (x : Here) (k : Known) (found : Finds) → CloverRow c side x k → CloverMakes (event k found)
step_makes c side x (Checks z t cycle) found row = tt
step_makes c side x (Loads_header z t) found row = tt
step_makes c side x (Loads z t) found row = tt
step_makes c side x (Stores z word) found row = tt
step_makes c side x (Swaps z t v n) found row = put_makes z t v n (puts (Swaps z t v n) found)
step_makes c side x (Loads_again z t v n) found row = tt
step_makes c side x (Loads_copy z t to) found row = tt
step_makes c side x (Stores_copy z word to) found row = tt
step_makes c side x (Swaps_copy z t to v n) found row = put_copy_makes z t to v n (puts (Swaps_copy z t to v n) found)
step_makes c side x (Follows z t m) found row = tt
step_makes c side x (Over z t end) found row = tt
step_makes c side x k found row = absurd row

-- where every field is so: after a clear search no word at a place is the mark
module _ (c : Cycle) (side : Side) (x : Here) (copy : FieldWord) (fits : CloverFits c side) (moving : IsMoving x.state → Ready c) (clear : c.clear ≡ true → ClearAt c (place_word c.mark x copy)) where
  bare_may : (w : FieldWord) → BareStore c side.own x.state → May c x (Write w)
  bare_may w row = grind (arith, row)

  write_may : (v w : FieldWord) → AtOriginal c.mark side.own x.word x.state → Aimed c side v x.state → same_word x.word v ≡ true → Unwritten c.phase side.own (Some w) → May c x (Write w)
  write_may v w at aimed won unwritten = grind (arith, at, aimed, won, unwritten, fits, moving, clear)

  copy_may : (to : ℕ) (w : FieldWord) → AtCopy c.mark to x.word x.state → Unwritten c.phase side.own (Some w) → May c x (Write_copy w)
  copy_may to w at unwritten = grind (arith, at, unwritten, fits, moving, clear)

  swap_may : (z : Spot) (t : Task) (v : FieldWord) (n : ℕ) → AtOriginal c.mark side.own x.word x.state → Aimed c side v x.state → Unwritten c.phase side.own (word_in t)
      → (b : Bool) → same_word x.word v ≡ b → May c x (put_event (Swaps z t v n) (if b then word_in t else None))
  swap_may z t v n at aimed unwritten false lost = tt
  swap_may z Reads v n at aimed unwritten true won = tt
  swap_may z (Writes word) v n at aimed unwritten true won = write_may v word at aimed won unwritten
  swap_may z (Exchanges expected word) v n at aimed unwritten true won = write_may v word at aimed won unwritten

  swap_copy_may : (z : Spot) (t : Task) (to : ℕ) (v : FieldWord) (n : ℕ) → AtCopy c.mark to x.word x.state → Unwritten c.phase side.own (word_in t) → (b : Bool) → May c x (put_event (Swaps_copy z t to v n) (if b then word_in t else None))
  swap_copy_may z t to v n at unwritten false = tt
  swap_copy_may z Reads to v n at unwritten true = tt
  swap_copy_may z (Writes word) to v n at unwritten true = copy_may to word at unwritten
  swap_copy_may z (Exchanges expected word) to v n at unwritten true = copy_may to word at unwritten

pub step_may : (c : Cycle) (side : Side) (b f : ℕ) (x : Here) (copy : FieldWord) (k : Known) → CloverFits c side → (has_field k ≡ true → CloverShape c b f x copy) → CloverOwn c side x k → May c x (event k (finds c.phase x copy k))
step_may c side b f x copy (Checks z t cycle) fits shape own = tt
step_may c side b f x copy (Loads_header z t) fits shape own = tt
step_may c side b f x copy (Loads z t) fits shape own = tt
step_may c side b f x copy (Stores z word) fits shape own = let so = shape refl in bare_may c side x copy fits so.moving so.clear word own.0
step_may c side b f x copy (Swaps z t v n) fits shape own = let so = shape refl in let row = own.0 in swap_may c side x copy fits so.moving so.clear z t v n row.0 row.1 own.1 (same_word x.word v) refl
step_may c side b f x copy (Loads_again z t v n) fits shape own = tt
step_may c side b f x copy (Loads_copy z t to) fits shape own = tt
step_may c side b f x copy (Stores_copy z word to) fits shape own = let so = shape refl in copy_may c side x copy fits so.moving so.clear to word own.0 own.1
step_may c side b f x copy (Swaps_copy z t to v n) fits shape own = let so = shape refl in swap_copy_may c side x copy fits so.moving so.clear z t to v n own.0 own.1 (same_word copy v)
step_may c side b f x copy (Follows z t m) fits shape own = tt
step_may c side b f x copy (Over z t end) fits shape own = tt
step_may c side b f x copy k fits shape own = absurd own.0

-- ---- what it will write

unwritten_will : (p : Stance) (own : Option FieldWord) (k : Known) → Unwritten p own (writes_yet k) → Unwritten p own (will_write k)
unwritten_will p own (Checks s t cycle) yet = tt
unwritten_will p own k yet = yet

phase_unwritten : (own : Option FieldWord) (z : Spot) (t : Task) (cycle : ℕ) (p : Stance) → Unwritten p own (will_write (by_phase z t cycle p))
phase_unwritten own z t cycle Free = freely t
  where
    freely : (t : Task) → Unwritten Free own (word_in t)
    freely Reads = tt
    freely (Writes word) = inl refl
    freely (Exchanges expected word) = inl refl
phase_unwritten own z t cycle Mark = tt
phase_unwritten own z t cycle Confirm = tt
phase_unwritten own z t cycle Search = tt
phase_unwritten own z t cycle Copy = tt
phase_unwritten own z t cycle Fix = tt
phase_unwritten own z t cycle Retired = tt

settled : (p : Stance) (own : Option FieldWord) (k next : Known) → (writes_yet next ≡ None) ⊎ (writes_yet next ≡ writes_yet k) → Unwritten p own (writes_yet k) → Unwritten p own (writes_yet next)
settled p own k next (inl none) was = rw none tt
settled p own k next (inr same) was = rw same was

goes_unwritten : (c : Cycle) (side : Side) (x : Here) (k : Known) (s : Spot) (found : Finds) → at_field k ≡ Some s → CloverRow c side x k → Unwritten c.phase side.own (writes_yet k) → Unwritten c.phase side.own (will_write (clover_fed side.acked side.own k found))
goes_unwritten c side x k s found at row was =
    let goes = clover_goes c side x k s found at row in
    let next = clover_fed side.acked side.own k found in
    unwritten_will c.phase side.own next (settled c.phase side.own k next goes.settles was)

step_unwritten : (c : Cycle) (side : Side) (s : Spot) (x : Here) (w : FieldWord) (k : Known) → at_field k ≡ Some s → CloverOwn c side x k → Unwritten c.phase side.own (will_write (clover_fed side.acked side.own k (finds c.phase x w k)))
step_unwritten c side s x w (Checks z t cycle) at own = phase_unwritten side.own z t cycle c.phase
step_unwritten c side s x w k at own = goes_unwritten c side x k s (finds c.phase x w k) at own.0 own.1

-- ---- the row that it goes on to

aimed_by : (c : Cycle) (side : Side) (x : FieldWord) (y : State) → is_mark side.own x ≡ false → Aimed c side x y
aimed_by c side x y not = grind (arith, not)

module _ (c : Cycle) (side : Side) (x : Here) where
  copy_row : (z : Spot) (t : Task) (to : ℕ) → AtCopy c.mark to x.word x.state → CloverRow c side x (to_copy z t to)
  copy_row z Reads to at = at
  copy_row z (Writes word) to at = at
  copy_row z (Exchanges expected word) to at = at

  original_row : (z : Spot) (t : Task) → AtOriginal c.mark side.own x.word x.state → BareStore c side.own x.state → CloverRow c side x (to_original z t)
  original_row z Reads at bare = at
  original_row z (Writes word) at bare = bare
  original_row z (Exchanges expected word) at bare = at

  -- with the header: after a clear search every pass has the mark, and only then an object is Moving
  module _ (live : IsLive x.state) (fits : CloverFits c side) (state : CloverState x.state) (moving : IsMoving x.state → Ready c) (copy : FieldWord) (clear : c.clear ≡ true → ClearAt c (place_word c.mark x copy)) where
    bare : side.own ≡ None → (y : State) → x.state ≡ y → (IsMoving y → ⊥) → ((to : ℕ) → y ≡ Forward to → ⊥) → BareStore c side.own y
    bare none y is still here = grind (arith, none, is, still, here, live, fits, state, clear)

    moving_own : (to : ℕ) → x.state ≡ Moving to → (side.own ≡ c.mark) × (side.own ≡ None → ⊥)
    moving_own to is = grind (arith, is, fits, moving)

    here_row : (z : Spot) (t : Task) (y : State) → x.state ≡ y → ((to : ℕ) → y ≡ Forward to → ⊥) → CloverRow c side x (by_mark side.own z t)
    here_row z t Plain is here =
        mark_cases (CloverRow c side x) z t side.own
        (λ none. original_row z t (rw is tt) (rw is (bare none Plain is (λ no. no) here)))
        (λ m own. rw is tt)
    here_row z t (Moving to) is here =
        let own = moving_own to is in
        mark_cases (CloverRow c side x) z t side.own (λ none. absurd (own.1 none)) (λ m some. rw is own.0)
    here_row z t (Forward to) is here = absurd (here to refl)
    here_row z t Absent is here = absurd (rw is at live)
    here_row z t Underway is here = absurd (rw is at live)
    here_row z t Dead is here = absurd (rw is at live)
    here_row z t Kept is here = absurd (rw is at state)
    here_row z t Tagged is here = absurd (rw is at state)
    here_row z t (Wide wide) is here = absurd (rw is at state)

    state_row : (z : Spot) (t : Task) (y : State) → x.state ≡ y → CloverRow c side x (by_state side.own z t y)
    state_row z t (Forward to) is = copy_row z t to (rw is refl)
    state_row z t Absent is = here_row z t Absent is (λ to e. cc)
    state_row z t Plain is = here_row z t Plain is (λ to e. cc)
    state_row z t Kept is = here_row z t Kept is (λ to e. cc)
    state_row z t Tagged is = here_row z t Tagged is (λ to e. cc)
    state_row z t (Wide wide) is = here_row z t (Wide wide) is (λ to e. cc)
    state_row z t (Moving to) is = here_row z t (Moving to) is (λ to e. cc)
    state_row z t Underway is = here_row z t Underway is (λ to e. cc)
    state_row z t Dead is = here_row z t Dead is (λ to e. cc)

-- the pass with what it has then seen
abbrev seeing : Side → List Call → Side
seeing side now = record side { seen = now }

module _ (c : Cycle) (side : Side) (h : List Call) (s : Spot) (x : Here) (w : FieldWord) (fits : CloverFits c side) where
  -- it found the mark: that is the value there, or the field is in the copy
  found_mark : (moving : IsMoving x.state → Ready c) → (clear : c.clear ≡ true → ClearAt c (place_word c.mark x w)) → value_of (place_word c.mark x w) ≡ value_at h s.birth s.field → AtOriginal c.mark side.own x.word x.state → is_mark side.own x.word ≡ true
      → FoundMark c (seeing side h) s x.word x.state
  found_mark moving clear agrees at mark = grind (arith, moving, clear, agrees, at, mark, fits)

  -- whatever it has seen
  word_row : (now : List Call) (z : Spot) (t : Task) (n : ℕ) → AtOriginal c.mark side.own x.word x.state → is_mark side.own x.word ≡ false → CloverRow c (seeing side now) x (Swaps z t x.word n)
  word_row now z t n at not = (at, aimed_by c (seeing side now) x.word x.state not)

  module _ (seal : x.seal ≡ None) (moving : IsMoving x.state → Ready c) (clear : c.clear ≡ true → ClearAt c (place_word c.mark x w)) (agrees : value_of (place_word c.mark x w) ≡ value_at h s.birth s.field) where
    -- where the mark is found the look sees all
    mark_row : (t : Task) (v : FieldWord) (n : ℕ) (f : _) → front f x.seal h side.seen ≡ h → AtOriginal c.mark side.own x.word x.state → is_mark side.own x.word ≡ true → CloverRow c (seeing side (front f x.seal h side.seen)) x (Loads_again s t v n)
    mark_row t v n f all at mark = rw all (found_mark moving clear agrees at mark)

    load_row : (t : Task) → AtOriginal c.mark side.own x.word x.state → CloverRow c (seeing side (front (looks side.own (Loads s t) (Field_word x.word)) x.seal h side.seen)) x (by_load side.acked side.own s t x.word)
    load_row t at =
        let now = front (looks side.own (Loads s t) (Field_word x.word)) x.seal h side.seen in
        load_cases (CloverRow c (seeing side now) x) s t side.acked side.own x.word
        (λ mark. mark_row t x.word 3 (looks side.own (Loads s t) (Field_word x.word)) (rw (mark, seal) refl) at mark)
        (λ not. loaded_holds (CloverRow c (seeing side now) x) side.acked s (Swaps s t) t x.word (λ n. word_row now s t n at not) (λ birth to same. tt) (λ end. tt))

    -- an exchange that wins is the call's end
    swap_row : (t : Task) (v : FieldWord) (n : ℕ) → AtOriginal c.mark side.own x.word x.state → (b : Bool)
        → CloverRow c (seeing side (seen_after (if b then word_in t else None) side s (Swaps s t v n) x (Field_word x.word) h)) (after (put_event (Swaps s t v n) (if b then word_in t else None)) x)
        (if b then Over s t (end_made t x.word) else unless_mark side.own s t v n x.word (lost (Swaps s t) side.acked s t v x.word n))
    swap_row t v n at true = tt
    swap_row t v n at false =
        mark_test (is_mark side.own x.word) refl
      where
        now : List Call
        now = front (looks side.own (Swaps s t v n) (Field_word x.word)) x.seal h side.seen

        mark_test : (b : Bool) → is_mark side.own x.word ≡ b → CloverRow c (seeing side now) x (if b then Loads_again s t v n else lost (Swaps s t) side.acked s t v x.word n)
        mark_test true mark = mark_row t v n (looks side.own (Swaps s t v n) (Field_word x.word)) (rw mark refl) at mark
        mark_test false not = lost_cases (CloverRow c (seeing side now) x) s t side.acked side.own (Swaps s t) v x.word n (λ i. word_row now s t i at not) (λ birth to same. tt) (λ end. tt)

  -- with the header's second load
  value_row : (z : Spot) (t : Task) (v m : FieldWord) (n : ℕ) → x.state ≡ Plain → (IsLate c side → ⊥) → CloverRow c side x (lost (Swaps z t) side.acked z t v m n)
  value_row z t v m n is early = lost_cases (CloverRow c side x) z t side.acked side.own (Swaps z t) v m n (λ i. rw is (tt, λ late. absurd (early late))) (λ birth to same. tt) (λ end. tt)

  again_row : (z : Spot) (t : Task) (v : FieldWord) (n : ℕ) (y : State) → x.state ≡ y → FoundMark c side z x.word y → CloverRow c side x (by_again side.acked side.own z t v n y)
  again_row z t v n (Forward to) is found = copy_row c side x z t to (rw is refl)
  again_row z t v n (Moving to) is found = copy_row c side x z t to (rw is (refl, found))
  again_row z t v n Plain is found =
      value_cases (CloverRow c side x) z t side.acked side.own v n (λ none. absurd (rw none at found.1)) (λ m own. value_row z t v m n is found.0)
  again_row z t v n Absent is found = absurd found
  again_row z t v n Kept is found = absurd found
  again_row z t v n Tagged is found = absurd found
  again_row z t v n (Wide wide) is found = absurd found
  again_row z t v n Underway is found = absurd found
  again_row z t v n Dead is found = absurd found

  -- in the copy
  put_copy_here : (z : Spot) (t : Task) (to : ℕ) (v : FieldWord) (n : ℕ) (o : Option FieldWord) → after (put_event (Swaps_copy z t to v n) o) x ≡ x
  put_copy_here z t to v n None = refl
  put_copy_here z t to v n (Some u) = refl

  load_copy_row : (now : List Call) (z : Spot) (t : Task) (to : ℕ) → AtCopy c.mark to x.word x.state → CloverRow c (seeing side now) x (loaded (Swaps_copy z t to) side.acked z t w)
  load_copy_row now z t to at = loaded_holds (CloverRow c (seeing side now) x) side.acked z (Swaps_copy z t to) t w (λ n. at) (λ birth there same. tt) (λ end. tt)

  swap_copy_row : (now : List Call) (z : Spot) (t : Task) (to : ℕ) (v : FieldWord) (n : ℕ) (o : Option FieldWord) → AtCopy c.mark to x.word x.state
      → CloverRow c (seeing side now) (after (put_event (Swaps_copy z t to v n) o) x) (clover_fed side.acked side.own (Swaps_copy z t to v n) (Field_word w))
  swap_copy_row now z t to v n o at =
      rw (put_copy_here z t to v n o) (exchanged_holds (CloverRow c (seeing side now) x) side.acked z (Swaps_copy z t to) t v w n (λ i. at) (λ birth there same. tt) (λ end. tt))

  abbrev seen : Known → List Call
  seen k = seen_after (puts k (finds c.phase x w k)) side s k x (finds c.phase x w k) h

  pub step_row : (live : IsLive x.state) (k : Known) → at_field k ≡ Some s → CloverRow c side x k → (has_field k ≡ true → s.field < x.len) → (s.field < x.len → CloverShape c s.birth s.field x w) → (s.field < x.len → value_of (place_word c.mark x w) ≡ value_at h s.birth s.field)
      → CloverRow c (seeing side (seen k)) (after (event k (finds c.phase x w k)) x) (clover_fed side.acked side.own k (finds c.phase x w k))
  step_row live (Checks z t cycle) at row inside shape agrees = phase_cases (CloverRow c side x) z t cycle c.phase tt tt
  step_row live (Loads_header z t) at row inside shape agrees =
      where_holds (CloverRow c side x) z t x.len (by_state side.own z t x.state)
      (λ lt. let so = shape (rw (spot_at (Loads_header z t) s at) at lt) in state_row c side x live fits so.state so.moving w so.clear z t x.state refl) (λ le. tt)
  step_row live (Loads z t) at row inside shape agrees =
      let so = shape (inside refl) in
      rw (spot_at (Loads z t) s at) (load_row so.seal so.moving so.clear (agrees (inside refl)) t row)
  step_row live (Stores z word) at row inside shape agrees = tt
  step_row live (Swaps z t v n) at row inside shape agrees =
      let so = shape (inside refl) in
      rw (spot_at (Swaps z t v n) s at) (swap_row so.seal so.moving so.clear (agrees (inside refl)) t v n row.0 (same_word x.word v))
  step_row live (Loads_again z t v n) at row inside shape agrees = again_row z t v n x.state refl row
  step_row live (Loads_copy z t to) at row inside shape agrees = load_copy_row (seen (Loads_copy z t to)) z t to row
  step_row live (Stores_copy z word to) at row inside shape agrees = tt
  step_row live (Swaps_copy z t to v n) at row inside shape agrees = swap_copy_row (seen (Swaps_copy z t to v n)) z t to v n (puts (Swaps_copy z t to v n) (Field_word w)) row
  step_row live (Follows z t m) at row inside shape agrees = absurd (let gone : None ≡ Some s = at in cc)
  step_row live (Over z t end) at row inside shape agrees = absurd (let gone : None ≡ Some s = at in cc)
  step_row live k at row inside shape agrees = absurd row

pub step_own : (c : Cycle) (side : Side) (h : List Call) (s : Spot) (x : Here) (w : FieldWord) (fits : CloverFits c side) (live : IsLive x.state) (k : Known) → at_field k ≡ Some s → CloverOwn c side x k → (has_field k ≡ true → s.field < x.len) → (s.field < x.len → CloverShape c s.birth s.field x w) → (s.field < x.len → value_of (place_word c.mark x w) ≡ value_at h s.birth s.field)
    → CloverOwn c (seeing side (seen_after (puts k (finds c.phase x w k)) side s k x (finds c.phase x w k) h)) (after (event k (finds c.phase x w k)) x) (clover_fed side.acked side.own k (finds c.phase x w k))
step_own c side h s x w fits live k at own inside shape agrees = (step_row c side h s x w fits live k at own.0 inside shape agrees, step_unwritten c side s x w k at own)
