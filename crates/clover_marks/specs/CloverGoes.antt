-- What a call of Clover becomes by a step, and that it goes on at its field, or has what it came for.
use Rattle.std.proofs.Common.{◌≡◌, ℕ, ◌⊎◌, inl, inr, zero, suc, refl, sym, ap, subst, ◌∙◌, Bool, true, false, Option, Some, None}
use Rattle.std.specs.Prelude.{if◌then◌else◌}
use Rattle.heap_words.specs.declared.field_word.FieldWord.{FieldWord}
use Rattle.heap_words.specs.declared.field_word.FieldWord.TheVariants.{Link}
use Rattle.heap_words.specs.FieldWords.{word_of}
use Rattle.heap_history.specs.FixedHeaps.{is_same}
use Rattle.handshakes.specs.declared.follow.FollowMachine.TheVariants as follow
use Rattle.barriers.specs.declared.spot.Spot.{Spot}
use Rattle.barriers.specs.declared.ends.TryRefusal.TheVariants as refusal
use Rattle.barriers.specs.States.{State, Absent, Plain, Kept, Tagged, Wide, Moving, Underway, Forward, Dead, same_word}
use Rattle.barriers.specs.Stances.{Stance, Mark, Confirm, Search, Copy, Fix, Free, Retired}
use Rattle.barriers.specs.Spaces.{Here, is_mark}
use Rattle.barriers.specs.Values.{value_of}
use Rattle.barriers.specs.Cycles.{Cycle, Side}
use Rattle.barriers.specs.Knowns.{Task, Reads, Writes, Exchanges, Ending, Got, Differs, Refused, Known, Checks, Loads_header, Loads, Stores, Swaps, Loads_again, Loads_copy, Stores_copy, Swaps_copy, Follows, Over, Finds, Phase_word, Header_word, Field_word, at_field, task_of, word_in, found_ending, closes}
use Rattle.barriers.specs.Protocols.{Suits}
use Rattle.barriers.specs.ProtocolLaws.{GoesTo}
use Rattle.barriers.specs.PlainCalls.{to_original, to_copy, loaded, end_made, again, lost, plainly_fed}
use Rattle.barriers.specs.PlainCallLaws.{StaysAt, by_test, closes_cases, goes_at, original_stays, copy_stays, staying_goes, over_goes, stays_goes, plainly_goes, where_goes}
use Rattle.barriers.specs.Says.{IsChange}
use Rattle.clover_marks.specs.CloverTable.{busy, by_phase, by_mark, by_state, unless_mark, by_value, by_again, by_load, by_swap, clover_fed, CloverRow}

-- ---- what is so of each call that it may become

abbrev pub StaysHere : State → Type 0
StaysHere (Forward to) = ⊥
StaysHere x = Unit {0}

-- the object is not being moved, and has not been
abbrev pub StaysPut : State → Type 0
StaysPut (Moving to) = ⊥
StaysPut x = StaysHere x

module _ (P : Known → Type 0) (acked : Stance) (s : Spot) (swaps : FieldWord → ℕ → Known) where
  again_by : (t : Task) (x y : FieldWord) (n : ℕ) → ((i : ℕ) → P (swaps y i)) → ((end : Ending) → P (Over s t end)) → P (again swaps s t x y n)
  again_by t x y zero on over = over (Refused (refusal.Raced (word_of x) (word_of y)))
  again_by t x y (suc n) on over = on n

  lost_by : (t : Task) (x y : FieldWord) (n : ℕ) → ((i : ℕ) → P (swaps y i)) → ((birth at : ℕ) → y ≡ Link birth at → P (Follows s t (follow.Header birth at))) → ((end : Ending) → P (Over s t end)) → P (lost swaps acked s t x y n)
  lost_by Reads x y n on follows over = closes_cases P acked s Reads y follows (over (found_ending Reads y))
  lost_by (Writes word) x y n on follows over = again_by (Writes word) x y n on over
  lost_by (Exchanges expected word) x y n on follows over =
      by_test P (is_same (value_of y) expected) (again swaps s (Exchanges expected word) x y n) (closes acked s (Exchanges expected word) y)
      (λ yes. again_by (Exchanges expected word) x y n on over) (λ no. closes_cases P acked s (Exchanges expected word) y follows (over (found_ending (Exchanges expected word) y)))

module _ (P : Known → Type 0) (s : Spot) (t : Task) where
  pub phase_cases : (cycle : ℕ) (p : Stance) → P (Loads_header s t) → P (busy s t cycle) → P (by_phase s t cycle p)
  phase_cases cycle Free free busy = free
  phase_cases cycle Mark free busy = busy
  phase_cases cycle Confirm free busy = busy
  phase_cases cycle Search free busy = busy
  phase_cases cycle Copy free busy = busy
  phase_cases cycle Fix free busy = busy
  phase_cases cycle Retired free busy = busy

  pub mark_cases : (own : Option FieldWord) → (own ≡ None → P (to_original s t)) → ((m : FieldWord) → own ≡ Some m → P (Loads s t)) → P (by_mark own s t)
  mark_cases None none some = none refl
  mark_cases (Some m) none some = some m refl

  pub state_cases : (own : Option FieldWord) (x : State) → ((to : ℕ) → x ≡ Forward to → P (to_copy s t to)) → (StaysHere x → P (by_mark own s t)) → P (by_state own s t x)
  state_cases own (Forward to) copy here = copy to refl
  state_cases own Absent copy here = here tt
  state_cases own Plain copy here = here tt
  state_cases own Kept copy here = here tt
  state_cases own Tagged copy here = here tt
  state_cases own (Wide wide) copy here = here tt
  state_cases own (Moving to) copy here = here tt
  state_cases own Underway copy here = here tt
  state_cases own Dead copy here = here tt

  module _ (acked : Stance) (own : Option FieldWord) where
    pub load_cases : (x : FieldWord) → (is_mark own x ≡ true → P (Loads_again s t x 3)) → (is_mark own x ≡ false → P (loaded (Swaps s t) acked s t x)) → P (by_load acked own s t x)
    load_cases x mark word = by_test P (is_mark own x) (Loads_again s t x 3) (loaded (Swaps s t) acked s t x) mark word

    pub swap_cases : (x : FieldWord) (n : ℕ) (y : FieldWord) → (same_word y x ≡ true → P (Over s t (end_made t y))) → (same_word y x ≡ false → is_mark own y ≡ true → P (Loads_again s t x n))
        → (same_word y x ≡ false → is_mark own y ≡ false → P (lost (Swaps s t) acked s t x y n)) → P (by_swap acked own s t x n y)
    swap_cases x n y won mark word =
        by_test P (same_word y x) (Over s t (end_made t y)) (unless_mark own s t x n y (lost (Swaps s t) acked s t x y n)) won
        (λ not. by_test P (is_mark own y) (Loads_again s t x n) (lost (Swaps s t) acked s t x y n) (mark not) (word not))

    -- as at a plain word
    pub lost_cases : (swaps : FieldWord → ℕ → Known) (x y : FieldWord) (n : ℕ) → ((i : ℕ) → P (swaps y i)) → ((birth at : ℕ) → y ≡ Link birth at → P (Follows s t (follow.Header birth at))) → ((end : Ending) → P (Over s t end)) → P (lost swaps acked s t x y n)
    lost_cases swaps x y n on follows over = lost_by P acked s swaps t x y n on follows over

    pub value_cases : (x : FieldWord) (n : ℕ) → (own ≡ None → P (Loads_again s t x n)) → ((m : FieldWord) → own ≡ Some m → P (lost (Swaps s t) acked s t x m n)) → P (by_value acked own s t x n)
    value_cases x n none some = by own refl
      where
        by : (o : Option FieldWord) → own ≡ o → P (by_value acked o s t x n)
        by None is = none is
        by (Some m) is = some m is

    pub again_cases : (x : FieldWord) (n : ℕ) (y : State) → ((to : ℕ) → (y ≡ Forward to) ⊎ (y ≡ Moving to) → P (to_copy s t to)) → (StaysPut y → P (by_value acked own s t x n)) → P (by_again acked own s t x n y)
    again_cases x n (Forward to) copy put = copy to (inl refl)
    again_cases x n (Moving to) copy put = copy to (inr refl)
    again_cases x n Absent copy put = put tt
    again_cases x n Plain copy put = put tt
    again_cases x n Kept copy put = put tt
    again_cases x n Tagged copy put = put tt
    again_cases x n (Wide wide) copy put = put tt
    again_cases x n Underway copy put = put tt
    again_cases x n Dead copy put = put tt

-- ---- it goes on at its field

busy_suits : (t : Task) (cycle mark : ℕ) → IsChange t → Suits t (Refused (refusal.Busy cycle mark))
busy_suits Reads cycle mark change = absurd change
busy_suits (Writes word) cycle mark change = tt
busy_suits (Exchanges expected word) cycle mark change = tt

raced_suits : (t : Task) (x y : ℕ) → IsChange t → Suits t (Refused (refusal.Raced x y))
raced_suits Reads x y change = absurd change
raced_suits (Writes word) x y change = tt
raced_suits (Exchanges expected word) x y change = tt

phase_goes : (own : Option FieldWord) (s : Spot) (t : Task) (cycle : ℕ) (p : Stance) → IsChange t → GoesTo own (Checks s t cycle) (Phase_word p) (by_phase s t cycle p)
phase_goes own s t cycle p change =
    let k = Checks s t cycle in
    phase_cases (GoesTo own k (Phase_word p)) s t cycle p
    (staying_goes own k (Phase_word p) (Loads_header s t) s refl refl (goes_at k s t (Loads_header s t) refl refl refl refl refl))
    (over_goes own k (Phase_word p) (Refused (refusal.Busy cycle _)) (record { made = refl; suits = busy_suits t cycle _ change; hands = inl refl }))

state_stays : (k : Known) (own : Option FieldWord) (s : Spot) (t : Task) (x : State) → at_field k ≡ Some s → task_of k ≡ t → StaysAt k (by_state own s t x)
state_stays k own s t x at task =
    state_cases (StaysAt k) s t own x (λ to is. copy_stays k s t to at task)
    (λ here. mark_cases (StaysAt k) s t own (λ none. original_stays k s t at task) (λ m is. goes_at k s t (Loads s t) at task refl refl refl))

again_stays : (k : Known) (s : Spot) (t : Task) (x : FieldWord) (n : ℕ) → at_field k ≡ Some s → task_of k ≡ t → StaysAt k (Loads_again s t x n)
again_stays k s t x n at task = goes_at k s t (Loads_again s t x n) at task refl refl refl

-- with the mark as the value
module _ (acked : Stance) (own : Option FieldWord) (s : Spot) (m : FieldWord) (is : own ≡ Some m) (x : FieldWord) (found : Finds) where
  follows_mark : (t : Task) (n birth at : ℕ) → m ≡ Link birth at → GoesTo own (Loads_again s t x n) found (Follows s t (follow.Header birth at))
  follows_mark t n birth at same = record {
    spot = refl;
    task = refl;
    stays = inl refl;
    made = refl;
    suits = λ z u end no. absurd (let gone : Follows s t (follow.Header birth at) ≡ Over z u end = no in cc);
    hands = inr (inr (inr (sym (is ∙ ap Some same))));
    settles = inl refl;
  }

  tries_mark : (t : Task) (n : ℕ) (y : FieldWord) (i : ℕ) → IsChange t → GoesTo own (Loads_again s t x n) found (again (Swaps s t) s t x y i)
  tries_mark t n y zero change = over_goes own (Loads_again s t x n) found (Refused (refusal.Raced (word_of x) (word_of y))) (record { made = refl; suits = raced_suits t (word_of x) (word_of y) change; hands = inl refl })
  tries_mark t n y (suc i) change = staying_goes own (Loads_again s t x n) found (Swaps s t y i) s refl refl (goes_at (Loads_again s t x n) s t (Swaps s t y i) refl refl refl refl refl)

  value_goes : (t : Task) (n : ℕ) → GoesTo own (Loads_again s t x n) found (lost (Swaps s t) acked s t x m n)
  value_goes Reads n =
      closes_cases (GoesTo own (Loads_again s Reads x n) found) acked s Reads m (λ birth at same. follows_mark Reads n birth at same)
      (over_goes own (Loads_again s Reads x n) found (Got m) (record { made = refl; suits = tt; hands = inr (inr (inr (sym is))) }))
  value_goes (Writes word) n = tries_mark (Writes word) n m n tt
  value_goes (Exchanges expected word) n =
      let t = Exchanges expected word in
      by_test (GoesTo own (Loads_again s t x n) found) (is_same (value_of m) expected) (again (Swaps s t) s t x m n) (closes acked s t m)
      (λ yes. tries_mark t n m n tt)
      (λ no. closes_cases (GoesTo own (Loads_again s t x n) found) acked s t m (λ birth at same. follows_mark t n birth at same)
      (over_goes own (Loads_again s t x n) found (Differs m) (record { made = refl; suits = tt; hands = inr (inr (inr (sym is))) })))

again_goes : (acked : Stance) (own : Option FieldWord) (s : Spot) (t : Task) (x : FieldWord) (n : ℕ) (y : State) (found : Finds) → GoesTo own (Loads_again s t x n) found (by_again acked own s t x n y)
again_goes acked own s t x n y found =
    let k = Loads_again s t x n in
    again_cases (GoesTo own k found) s t acked own x n y
    (λ to is. staying_goes own k found (to_copy s t to) s refl refl (copy_stays k s t to refl refl))
    (λ put. value_cases (GoesTo own k found) s t acked own x n (λ none. stays_goes own k found s refl refl) (λ m is. value_goes acked own s m is x found t n))

load_goes : (acked : Stance) (own : Option FieldWord) (s : Spot) (t : Task) (x : FieldWord) → GoesTo own (Loads s t) (Field_word x) (by_load acked own s t x)
load_goes acked own s t x =
    load_cases (GoesTo own (Loads s t) (Field_word x)) s t acked own x
    (λ mark. staying_goes own (Loads s t) (Field_word x) (Loads_again s t x 3) s refl refl (again_stays (Loads s t) s t x 3 refl refl))
    (λ word. plainly_goes acked own (Loads s t) (Field_word x) tt)

swap_goes : (acked : Stance) (own : Option FieldWord) (s : Spot) (t : Task) (x : FieldWord) (n : ℕ) (y : FieldWord) → GoesTo own (Swaps s t x n) (Field_word y) (by_swap acked own s t x n y)
swap_goes acked own s t x n y =
    let k = Swaps s t x n in
    let plain : GoesTo own k (Field_word y) (plainly_fed acked k (Field_word y)) = plainly_goes acked own k (Field_word y) tt in
    let by = λ (b : Bool). GoesTo own k (Field_word y) (if b then Over s t (end_made t y) else lost (Swaps s t) acked s t x y n) in
    swap_cases (GoesTo own k (Field_word y)) s t acked own x n y
    (λ won. subst by won plain)
    (λ not mark. staying_goes own k (Field_word y) (Loads_again s t x n) s refl (ap (λ (b : Bool). if b then word_in t else None) not) (again_stays k s t x n refl refl))
    (λ not word. subst by not plain)

-- whatever it finds
pub clover_goes : (c : Cycle) (side : Side) (x : Here) (k : Known) (s : Spot) (found : Finds) → at_field k ≡ Some s → CloverRow c side x k → GoesTo side.own k found (clover_fed side.acked side.own k found)
clover_goes c side x (Checks z t cycle) s (Phase_word p) at row = phase_goes side.own z t cycle p row
clover_goes c side x (Checks z t cycle) s found at row = stays_goes side.own (Checks z t cycle) found z refl refl
clover_goes c side x (Loads_header z t) s (Header_word y colour len) at row =
    where_goes side.own (Loads_header z t) (Header_word y colour len) z len (by_state side.own z t y) refl refl (state_stays (Loads_header z t) side.own z t y refl refl)
clover_goes c side x (Loads_header z t) s found at row = stays_goes side.own (Loads_header z t) found z refl refl
clover_goes c side x (Loads z t) s (Field_word y) at row = load_goes side.acked side.own z t y
clover_goes c side x (Loads z t) s found at row = stays_goes side.own (Loads z t) found z refl refl
clover_goes c side x (Swaps z t v n) s (Field_word y) at row = swap_goes side.acked side.own z t v n y
clover_goes c side x (Swaps z t v n) s found at row = stays_goes side.own (Swaps z t v n) found z refl refl
clover_goes c side x (Loads_again z t v n) s (Header_word y colour len) at row = again_goes side.acked side.own z t v n y (Header_word y colour len)
clover_goes c side x (Loads_again z t v n) s found at row = stays_goes side.own (Loads_again z t v n) found z refl refl
clover_goes c side x (Stores z word) s found at row = plainly_goes side.acked side.own (Stores z word) found tt
clover_goes c side x (Loads_copy z t to) s found at row = plainly_goes side.acked side.own (Loads_copy z t to) found tt
clover_goes c side x (Stores_copy z word to) s found at row = plainly_goes side.acked side.own (Stores_copy z word to) found tt
clover_goes c side x (Swaps_copy z t to v n) s found at row = plainly_goes side.acked side.own (Swaps_copy z t to v n) found tt
clover_goes c side x (Follows z t m) s found at row = absurd (let gone : None ≡ Some s = at in cc)
clover_goes c side x (Over z t end) s found at row = absurd (let gone : None ≡ Some s = at in cc)
clover_goes c side x k s found at row = absurd row
