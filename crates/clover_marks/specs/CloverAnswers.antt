-- What a call of Clover has found out by a step.
use Rattle.std.proofs.Common.{◌≡◌, ℕ, ◌⊎◌, inl, inr, refl, sym, ap, subst, ◌∙◌, arith, Bool, true, false, Option, Some, None, List}
use Rattle.std.specs.Prelude.{if◌then◌else◌}
use Rattle.heap_words.specs.declared.field_word.FieldWord.{FieldWord}
use Rattle.heap_history.specs.NewestFirst.{value_at, Before}
use Rattle.heap_history.specs.NewestFirstLaws.{Before-refl}
use Rattle.barriers.specs.declared.front.Front.{Front}
use Rattle.barriers.specs.declared.front.Front.TheVariants.{Stays, Now, SealedOrNow}
use Rattle.heap_history.specs.declared.call.Call.{Call}
use Rattle.barriers.specs.declared.spot.Spot.{Spot}
use Rattle.barriers.specs.States.{State, Absent, Plain, Kept, Tagged, Wide, Moving, Underway, Forward, Dead, same_word}
use Rattle.barriers.specs.Spaces.{Here, is_mark, place_word}
use Rattle.barriers.specs.Values.{value_of}
use Rattle.barriers.specs.Cycles.{Cycle, Side}
use Rattle.barriers.specs.Knowns.{Task, Known, Checks, Loads_header, Loads, Stores, Swaps, Loads_again, Loads_copy, Stores_copy, Swaps_copy, Follows, Over, Field_word, at_field, has_field, word_in, finds, puts, wanted, looks, front}
use Rattle.barriers.specs.Protocols.{Wants, Answered, seen_after}
use Rattle.barriers.specs.PlainCalls.{end_made, lost}
use Rattle.barriers.specs.PlainCallLaws.{spot_at, where_holds}
use Rattle.barriers.specs.PlainAnswerLaws.{look_of, Tells, original_answered, copy_answered, lost_answered, plainly_answered, plainly_wants}
use Rattle.clover_marks.specs.CloverTable.{by_state, by_again, by_load, by_swap, clover_fed, AtOriginal, Aimed, FoundMark, AtCopy, CloverRow}
use Rattle.clover_marks.specs.CloverGoes.{phase_cases, mark_cases, state_cases, load_cases, swap_cases, value_cases}

-- ---- the place of its field

-- it is the original where that is not the mark, or the object is not being moved
place_here : (mark own : Option FieldWord) (x : Here) (w : FieldWord) → AtOriginal mark own x.word x.state → (x.state ≡ Plain) ⊎ (is_mark own x.word ≡ false) → place_word mark x w ≡ x.word
place_here mark own x w at not = grind (arith, at, not)

place_there : (mark : Option FieldWord) (x : Here) (w : FieldWord) (to : ℕ) → AtCopy mark to x.word x.state → place_word mark x w ≡ w
place_there mark x w to at = grind (arith, at)

-- what it exchanges is not the mark, or the object is not being moved
aimed_place : (c : Cycle) (side : Side) (x : FieldWord) (y : State) → Aimed c side x y → (y ≡ Plain) ⊎ (is_mark side.own x ≡ false)
aimed_place c side x y aimed = grind (arith, aimed)

won_place : (own : Option FieldWord) (v o : FieldWord) (y : State) → same_word o v ≡ true → (y ≡ Plain) ⊎ (is_mark own v ≡ false) → (y ≡ Plain) ⊎ (is_mark own o ≡ false)
won_place own v o y won aimed = grind (arith, won, aimed)

-- ---- its looks

-- without a seal they see all that happened, or nothing
unsealed_value : (f : Front) (seal : Option (List Call)) (h seen : List Call) (value : _) (b i : ℕ) → seal ≡ None → (f ≡ SealedOrNow) ⊎ (f ≡ Now) → value ≡ value_at h b i → value ≡ value_at (front f seal h seen) b i
unsealed_value f seal h seen value b i none looks same = grind (arith, none, looks, same)

look_is : (k : Known) → (look_of k ≡ SealedOrNow) ⊎ (look_of k ≡ Now)
look_is (Loads s t) = inl refl
look_is k = inr refl

unsealed_later : (f : Front) (seal : Option (List Call)) (h seen : List Call) → seal ≡ None → Before seen h → Before seen (front f seal h seen)
unsealed_later Stays seal h seen none past = Before-refl seen
unsealed_later Now seal h seen none past = past
unsealed_later SealedOrNow seal h seen none past = rw none past

module _ (c : Cycle) (side : Side) (h : List Call) (s : Spot) (x : Here) (w : FieldWord) where
  abbrev next : Known → Known
  next k = clover_fed side.acked side.own k (finds c.phase x w k)

  abbrev seen : Known → List Call
  seen k = seen_after (puts k (finds c.phase x w k)) side s k x (finds c.phase x w k) h

  pub look_later : (k : Known) → CloverRow c side x k → (has_field k ≡ true → x.seal ≡ None) → Before side.seen h → Before side.seen (front (looks side.own k (finds c.phase x w k)) x.seal h side.seen)
  look_later (Checks z t cycle) row none past = Before-refl side.seen
  look_later (Loads_header z t) row none past = Before-refl side.seen
  look_later (Loads z t) row none past = unsealed_later (looks side.own (Loads z t) (Field_word x.word)) x.seal h side.seen (none refl) past
  look_later (Stores z word) row none past = Before-refl side.seen
  look_later (Swaps z t v n) row none past = unsealed_later (looks side.own (Swaps z t v n) (Field_word x.word)) x.seal h side.seen (none refl) past
  look_later (Loads_again z t v n) row none past = Before-refl side.seen
  look_later (Loads_copy z t to) row none past = unsealed_later (looks side.own (Loads_copy z t to) (Field_word w)) x.seal h side.seen (none refl) past
  look_later (Stores_copy z word to) row none past = Before-refl side.seen
  look_later (Swaps_copy z t to v n) row none past = unsealed_later (looks side.own (Swaps_copy z t to v n) (Field_word w)) x.seal h side.seen (none refl) past
  look_later (Follows z t m) row none past = Before-refl side.seen
  look_later (Over z t end) row none past = Before-refl side.seen
  look_later k row none past = absurd row

  -- ---- the word that it finds is the field's

  -- where this is the word at the place
  tells : (k : Known) (o : FieldWord) → x.seal ≡ None → o ≡ place_word c.mark x w → value_of (place_word c.mark x w) ≡ value_at h s.birth s.field → Tells h side x.seal s k (Field_word o)
  tells k o none place agrees v is =
      let same : o ≡ v = cc in
      unsealed_value (look_of k) x.seal h side.seen (value_of v) s.birth s.field none (look_is k) (ap value_of (sym same ∙ place) ∙ agrees)

  module _ (none : x.seal ≡ None) (agrees : value_of (place_word c.mark x w) ≡ value_at h s.birth s.field) where
    tells_here : (k : Known) → AtOriginal c.mark side.own x.word x.state → (x.state ≡ Plain) ⊎ (is_mark side.own x.word ≡ false) → Tells h side x.seal s k (Field_word x.word)
    tells_here k at not = tells k x.word none (sym (place_here c.mark side.own x w at not)) agrees

    tells_there : (k : Known) (to : ℕ) → AtCopy c.mark to x.word x.state → Tells h side x.seal s k (Field_word w)
    tells_there k to at = tells k w none (sym (place_there c.mark x w to at)) agrees

    load_answered : (t : Task) → AtOriginal c.mark side.own x.word x.state → Answered (seen (Loads s t)) (by_load side.acked side.own s t x.word)
    load_answered t at =
        load_cases (Answered (seen (Loads s t))) s t side.acked side.own x.word (λ mark. tt)
        (λ word. plainly_answered side.acked h side s x (Loads s t) (Field_word x.word) tt refl (tells_here (Loads s t) at (inr word)) tt)

    swap_answered : (t : Task) (v : FieldWord) (n : ℕ) → AtOriginal c.mark side.own x.word x.state → Aimed c side v x.state → Answered side.seen (Swaps s t v n) → Answered (seen (Swaps s t v n)) (by_swap side.acked side.own s t v n x.word)
    swap_answered t v n at aimed was =
        let k = Swaps s t v n in
        let plain = λ (told : Tells h side x.seal s k (Field_word x.word)). plainly_answered side.acked h side s x k (Field_word x.word) tt refl told was in
        let by = λ (b : Bool). Answered (seen k) (if b then Over s t (end_made t x.word) else lost (Swaps s t) side.acked s t v x.word n) in
        swap_cases (Answered (seen k)) s t side.acked side.own v n x.word
        (λ won. subst by won (plain (tells_here k at (won_place side.own v x.word x.state won (aimed_place c side v x.state aimed)))))
        (λ not mark. tt)
        (λ not word. subst by not (plain (tells_here k at (inr word))))

  -- the mark was the value at what the pass has seen
  again_answered : (t : Task) (v : FieldWord) (n : ℕ) (y : State) → FoundMark c side s x.word y → Answered side.seen (by_again side.acked side.own s t v n y)
  again_answered t v n (Forward to) found = copy_answered s t to side.seen
  again_answered t v n (Moving to) found = copy_answered s t to side.seen
  again_answered t v n Plain found =
      value_cases (Answered side.seen) s t side.acked side.own v n (λ none. tt)
      (λ m is. lost_answered side.acked s side.seen t (Swaps s t) (λ y i wants. wants) v m n (λ answer. rw is at found.1))
  again_answered t v n Absent found = absurd found
  again_answered t v n Kept found = absurd found
  again_answered t v n Tagged found = absurd found
  again_answered t v n (Wide wide) found = absurd found
  again_answered t v n Underway found = absurd found
  again_answered t v n Dead found = absurd found

  state_answered : (t : Task) (y : State) → Answered side.seen (by_state side.own s t y)
  state_answered t y =
      state_cases (Answered side.seen) s t side.own y (λ to is. copy_answered s t to side.seen)
      (λ here. mark_cases (Answered side.seen) s t side.own (λ none. original_answered s t side.seen) (λ m is. tt))

  pub clover_answered : (k : Known) → at_field k ≡ Some s → CloverRow c side x k → (has_field k ≡ true → x.seal ≡ None) → (has_field k ≡ true → value_of (place_word c.mark x w) ≡ value_at h s.birth s.field) → Answered side.seen k → Answered (seen k) (next k)
  clover_answered (Checks z t cycle) at row none agrees was = phase_cases (Answered side.seen) z t cycle c.phase tt tt
  clover_answered (Loads_header z t) at row none agrees was =
      where_holds (Answered side.seen) z t x.len (by_state side.own z t x.state) (λ lt. rw (spot_at (Loads_header z t) s at) (state_answered t x.state)) (λ le. tt)
  clover_answered (Loads z t) at row none agrees was = rw (spot_at (Loads z t) s at) (load_answered (none refl) (agrees refl) t row)
  clover_answered (Stores z word) at row none agrees was = tt
  clover_answered (Swaps z t v n) at row none agrees was = rw (spot_at (Swaps z t v n) s at) (swap_answered (none refl) (agrees refl) t v n row.0 row.1 was)
  clover_answered (Loads_again z t v n) at row none agrees was =
      let same = spot_at (Loads_again z t v n) s at in
      rw same (again_answered t v n x.state (rw same at row))
  clover_answered (Loads_copy z t to) at row none agrees was = plainly_answered side.acked h side s x (Loads_copy z t to) (Field_word w) tt (spot_at (Loads_copy z t to) s at) (tells_there (none refl) (agrees refl) (Loads_copy z t to) to row) was
  clover_answered (Stores_copy z word to) at row none agrees was = tt
  clover_answered (Swaps_copy z t to v n) at row none agrees was = plainly_answered side.acked h side s x (Swaps_copy z t to v n) (Field_word w) tt (spot_at (Swaps_copy z t to v n) s at) (tells_there (none refl) (agrees refl) (Swaps_copy z t to v n) to row) was
  clover_answered (Follows z t m) at row none agrees was = absurd (let gone : None ≡ Some s = at in cc)
  clover_answered (Over z t end) at row none agrees was = absurd (let gone : None ≡ Some s = at in cc)
  clover_answered k at row none agrees was = absurd row

  -- ---- the value that an exchange wants was there

  put_won : (b : Bool) (o : Option FieldWord) (v : FieldWord) → (if b then o else None) ≡ Some v → b ≡ true
  put_won true o v put = refl
  put_won false o v put = absurd cc

  pub clover_wants : (k : Known) → at_field k ≡ Some s → CloverRow c side x k → (has_field k ≡ true → x.seal ≡ None) → (has_field k ≡ true → value_of (place_word c.mark x w) ≡ value_at h s.birth s.field) → Answered side.seen k → (v : FieldWord) → puts k (finds c.phase x w k) ≡ Some v → Wants (wanted k) (value_at h s.birth s.field)
  clover_wants (Checks z t cycle) at row none agrees was v put = tt
  clover_wants (Loads_header z t) at row none agrees was v put = tt
  clover_wants (Loads z t) at row none agrees was v put = tt
  clover_wants (Stores z word) at row none agrees was v put = tt
  clover_wants (Swaps z t u n) at row none agrees was v put =
      let won = put_won (same_word x.word u) (word_in t) v put in
      plainly_wants side.acked h side s x (Swaps z t u n) (Field_word x.word) v tt
      (tells_here (none refl) (agrees refl) (Swaps z t u n) row.0 (won_place side.own u x.word x.state won (aimed_place c side u x.state row.1))) was put
  clover_wants (Loads_again z t u n) at row none agrees was v put = tt
  clover_wants (Loads_copy z t to) at row none agrees was v put = tt
  clover_wants (Stores_copy z word to) at row none agrees was v put = tt
  clover_wants (Swaps_copy z t to u n) at row none agrees was v put = plainly_wants side.acked h side s x (Swaps_copy z t to u n) (Field_word w) v tt (tells_there (none refl) (agrees refl) (Swaps_copy z t to u n) to row) was put
  clover_wants (Follows z t m) at row none agrees was v put = tt
  clover_wants (Over z t end) at row none agrees was v put = tt
  clover_wants k at row none agrees was v put = absurd row
