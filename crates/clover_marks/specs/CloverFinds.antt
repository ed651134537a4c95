-- What a call of Clover never becomes, and that it has found its field to be one of the object's.
use Rattle.std.proofs.Common.{◌≡◌, ℕ, ◌<◌, ◌≤◌, zero, suc, refl, true, false, Option, Some, None}
use Rattle.heap_words.specs.declared.field_word.FieldWord.{FieldWord}
use Rattle.heap_history.specs.FixedHeaps.{is_same}
use Rattle.barriers.specs.declared.spot.Spot.{Spot}
use Rattle.barriers.specs.Stances.{Stance}
use Rattle.barriers.specs.States.{State}
use Rattle.barriers.specs.Spaces.{Here}
use Rattle.barriers.specs.Values.{value_of}
use Rattle.barriers.specs.Cycles.{Cycle, Side}
use Rattle.barriers.specs.Knowns.{Task, Reads, Writes, Exchanges, Known, Checks, Loads_header, Loads, Stores, Swaps, Loads_again, Loads_copy, Stores_copy, Swaps_copy, Follows, Over, Field_word, at_field, has_field, has_found, head_of, finds, closes}
use Rattle.barriers.specs.PlainCalls.{no_field, end_made, again, lost}
use Rattle.barriers.specs.PlainCallLaws.{by_test, spot_at, loaded_holds, exchanged_holds, where_holds}
use Rattle.barriers.specs.PlainAnswerLaws.{original_lacking, copy_lacking, original_found, copy_found, lacking, lacking_none, closes_lacking, plainly_lacking, where_inside, where_found, where_refused}
use Rattle.tagged_calls.specs.TaggedCallLaws.{original_head, copy_head}
use Rattle.clover_marks.specs.CloverTable.{by_state, by_again, by_load, by_swap, clover_fed, CloverRow}
use Rattle.clover_marks.specs.CloverGoes.{phase_cases, mark_cases, state_cases, load_cases, swap_cases, lost_cases, value_cases, again_cases}

-- ---- it ends for want of a field only by the header that it loaded first

again_lacks : (s : Spot) (t : Task) (x y : FieldWord) (n : ℕ) → lacking (again (Swaps s t) s t x y n) ≡ None
again_lacks s t x y zero = refl
again_lacks s t x y (suc n) = refl

lost_lacks : (acked : Stance) (s : Spot) (t : Task) (x y : FieldWord) (n : ℕ) → lacking (lost (Swaps s t) acked s t x y n) ≡ None
lost_lacks acked s Reads x y n = closes_lacking acked s Reads y
lost_lacks acked s (Writes word) x y n = again_lacks s (Writes word) x y n
lost_lacks acked s (Exchanges expected word) x y n =
    let t = Exchanges expected word in
    by_test (λ k. lacking k ≡ None) (is_same (value_of y) expected) (again (Swaps s t) s t x y n) (closes acked s t y) (λ yes. again_lacks s t x y n) (λ no. closes_lacking acked s t y)

module _ (acked : Stance) (own : Option FieldWord) (s : Spot) (t : Task) where
  state_lacks : (y : State) → lacking (by_state own s t y) ≡ None
  state_lacks y = state_cases (λ k. lacking k ≡ None) s t own y (λ to is. copy_lacking s t to) (λ here. mark_cases (λ k. lacking k ≡ None) s t own (λ none. original_lacking s t) (λ m is. refl))

  load_lacks : (x : FieldWord) → lacking (by_load acked own s t x) ≡ None
  load_lacks x = load_cases (λ k. lacking k ≡ None) s t acked own x (λ mark. refl) (λ word. plainly_lacking acked (Loads s t) (Field_word x) tt)

  swap_lacks : (x : FieldWord) (n : ℕ) (y : FieldWord) → lacking (by_swap acked own s t x n y) ≡ None
  swap_lacks x n y = swap_cases (λ k. lacking k ≡ None) s t acked own x n y (λ won. made_lacks t) (λ not mark. refl) (λ not word. lost_lacks acked s t x y n)
    where
      made_lacks : (u : Task) → lacking (Over s t (end_made u y)) ≡ None
      made_lacks Reads = refl
      made_lacks (Writes word) = refl
      made_lacks (Exchanges expected word) = refl

  again_lacks_too : (x : FieldWord) (n : ℕ) (y : State) → lacking (by_again acked own s t x n y) ≡ None
  again_lacks_too x n y =
      again_cases (λ k. lacking k ≡ None) s t acked own x n y (λ to is. copy_lacking s t to)
      (λ put. value_cases (λ k. lacking k ≡ None) s t acked own x n (λ none. refl) (λ m is. lost_lacks acked s t x m n))

-- ---- it is about to exchange no header

module _ (acked : Stance) (own : Option FieldWord) (s : Spot) (t : Task) where
  state_headless : (y : State) → head_of (by_state own s t y) ≡ None
  state_headless y = state_cases (λ k. head_of k ≡ None) s t own y (λ to is. copy_head s t to) (λ here. mark_cases (λ k. head_of k ≡ None) s t own (λ none. original_head s t) (λ m is. refl))

  load_headless : (x : FieldWord) → head_of (by_load acked own s t x) ≡ None
  load_headless x = load_cases (λ k. head_of k ≡ None) s t acked own x (λ mark. refl) (λ word. loaded_holds (λ k. head_of k ≡ None) acked s (Swaps s t) t x (λ n. refl) (λ birth at same. refl) (λ end. refl))

  lost_headless : (x : FieldWord) (n : ℕ) (y : FieldWord) → head_of (lost (Swaps s t) acked s t x y n) ≡ None
  lost_headless x n y = lost_cases (λ k. head_of k ≡ None) s t acked own (Swaps s t) x y n (λ i. refl) (λ birth at same. refl) (λ end. refl)

  swap_headless : (x : FieldWord) (n : ℕ) (y : FieldWord) → head_of (by_swap acked own s t x n y) ≡ None
  swap_headless x n y = swap_cases (λ k. head_of k ≡ None) s t acked own x n y (λ won. refl) (λ not mark. refl) (λ not word. lost_headless x n y)

  again_headless : (x : FieldWord) (n : ℕ) (y : State) → head_of (by_again acked own s t x n y) ≡ None
  again_headless x n y =
      again_cases (λ k. head_of k ≡ None) s t acked own x n y (λ to is. copy_head s t to)
      (λ put. value_cases (λ k. head_of k ≡ None) s t acked own x n (λ none. refl) (λ m is. lost_headless x n m))

-- ---- the step of a call

module _ (c : Cycle) (side : Side) (s : Spot) (x : Here) (w : FieldWord) where
  abbrev next : Known → Known
  next k = clover_fed side.acked side.own k (finds c.phase x w k)

  pub clover_head : (k : Known) → CloverRow c side x k → head_of (next k) ≡ None
  clover_head (Checks z t cycle) row = phase_cases (λ k. head_of k ≡ None) z t cycle c.phase refl refl
  clover_head (Loads_header z t) row = where_holds (λ k. head_of k ≡ None) z t x.len (by_state side.own z t x.state) (λ lt. state_headless side.acked side.own z t x.state) (λ le. refl)
  clover_head (Loads z t) row = load_headless side.acked side.own z t x.word
  clover_head (Stores z word) row = refl
  clover_head (Swaps z t v n) row = swap_headless side.acked side.own z t v n x.word
  clover_head (Loads_again z t v n) row = again_headless side.acked side.own z t v n x.state
  clover_head (Loads_copy z t to) row = loaded_holds (λ k. head_of k ≡ None) side.acked z (Swaps_copy z t to) t w (λ n. refl) (λ birth at same. refl) (λ end. refl)
  clover_head (Stores_copy z word to) row = refl
  clover_head (Swaps_copy z t to v n) row = exchanged_holds (λ k. head_of k ≡ None) side.acked z (Swaps_copy z t to) t v w n (λ i. refl) (λ birth at same. refl) (λ end. refl)
  clover_head (Follows z t m) row = refl
  clover_head (Over z t end) row = refl
  clover_head k row = absurd row

  pub clover_inside : (k : Known) → at_field k ≡ Some s → CloverRow c side x k → (has_field k ≡ true → s.field < x.len) → has_field (next k) ≡ true → s.field < x.len
  clover_inside (Checks z t cycle) at row inside has = absurd (phase_cases (λ k. has_field k ≡ true → ⊥) z t cycle c.phase (λ e. cc) (λ e. cc) has)
  clover_inside (Loads_header z t) at row inside has = let lt : z.field < x.len = where_inside z t x.len (by_state side.own z t x.state) has in rw (spot_at (Loads_header z t) s at) at lt
  clover_inside (Loads z t) at row inside has = inside refl
  clover_inside (Stores z word) at row inside has = inside refl
  clover_inside (Swaps z t v n) at row inside has = inside refl
  clover_inside (Loads_again z t v n) at row inside has = inside refl
  clover_inside (Loads_copy z t to) at row inside has = inside refl
  clover_inside (Stores_copy z word to) at row inside has = inside refl
  clover_inside (Swaps_copy z t to v n) at row inside has = inside refl
  clover_inside (Follows z t m) at row inside has = absurd (let gone : None ≡ Some s = at in cc)
  clover_inside (Over z t end) at row inside has = absurd (let gone : None ≡ Some s = at in cc)
  clover_inside k at row inside has = absurd row

  state_found : (z : Spot) (t : Task) (y : State) → has_found (by_state side.own z t y) ≡ false
  state_found z t y = state_cases (λ k. has_found k ≡ false) z t side.own y (λ to is. copy_found z t to) (λ here. mark_cases (λ k. has_found k ≡ false) z t side.own (λ none. original_found z t) (λ m is. refl))

  pub clover_found : (k : Known) → at_field k ≡ Some s → CloverRow c side x k → (has_field k ≡ true → s.field < x.len) → has_found (next k) ≡ true → s.field < x.len
  clover_found (Checks z t cycle) at row inside has = absurd (phase_cases (λ k. has_found k ≡ true → ⊥) z t cycle c.phase (λ e. cc) (λ e. cc) has)
  clover_found (Loads_header z t) at row inside has = absurd (where_found z t x.len (by_state side.own z t x.state) (state_found z t x.state) has)
  clover_found (Loads z t) at row inside has = inside refl
  clover_found (Stores z word) at row inside has = inside refl
  clover_found (Swaps z t v n) at row inside has = inside refl
  clover_found (Loads_again z t v n) at row inside has = inside refl
  clover_found (Loads_copy z t to) at row inside has = inside refl
  clover_found (Stores_copy z word to) at row inside has = inside refl
  clover_found (Swaps_copy z t to v n) at row inside has = inside refl
  clover_found (Follows z t m) at row inside has = absurd (let gone : None ≡ Some s = at in cc)
  clover_found (Over z t end) at row inside has = absurd (let gone : None ≡ Some s = at in cc)
  clover_found k at row inside has = absurd row

  pub clover_refused : (k : Known) (t : Task) (len : ℕ) → at_field k ≡ Some s → CloverRow c side x k → next k ≡ no_field s t len → (len ≡ x.len) × (x.len ≤ s.field)
  clover_refused (Checks z u cycle) t len at row so = absurd (lacking_none (next (Checks z u cycle)) s t len (phase_cases (λ k. lacking k ≡ None) z u cycle c.phase refl refl) so)
  clover_refused (Loads_header z u) t len at row so =
      let short = where_refused z u x.len (by_state side.own z u x.state) s t len (state_lacks side.acked side.own z u x.state) so in
      (short.0, rw (spot_at (Loads_header z u) s at) at short.1)
  clover_refused (Loads z u) t len at row so = absurd (lacking_none (next (Loads z u)) s t len (load_lacks side.acked side.own z u x.word) so)
  clover_refused (Stores z word) t len at row so = absurd (lacking_none (next (Stores z word)) s t len refl so)
  clover_refused (Swaps z u v n) t len at row so = absurd (lacking_none (next (Swaps z u v n)) s t len (swap_lacks side.acked side.own z u v n x.word) so)
  clover_refused (Loads_again z u v n) t len at row so = absurd (lacking_none (next (Loads_again z u v n)) s t len (again_lacks_too side.acked side.own z u v n x.state) so)
  clover_refused (Loads_copy z u to) t len at row so = absurd (lacking_none (next (Loads_copy z u to)) s t len (plainly_lacking side.acked (Loads_copy z u to) (Field_word w) tt) so)
  clover_refused (Stores_copy z word to) t len at row so = absurd (lacking_none (next (Stores_copy z word to)) s t len refl so)
  clover_refused (Swaps_copy z u to v n) t len at row so = absurd (lacking_none (next (Swaps_copy z u to v n)) s t len (plainly_lacking side.acked (Swaps_copy z u to v n) (Field_word w) tt) so)
  clover_refused (Follows z u m) t len at row so = absurd (let gone : None ≡ Some s = at in cc)
  clover_refused (Over z u end) t len at row so = absurd (let gone : None ≡ Some s = at in cc)
  clover_refused k t len at row so = absurd row
