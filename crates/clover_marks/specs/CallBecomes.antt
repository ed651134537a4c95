-- What a call becomes by the word that it finds is what is known of it.
use Rattle.std.specs.Prelude.{ℕ, ◌<◌, ◌≤◌, ◌==◌, ◌&&◌, nat_lt, if◌then◌else◌}
use Rattle.std.proofs.Common.{◌≡◌, refl, sym, ap, subst, ◌∙◌, arith, Bool, true, false, Option, Some, None}
use Rattle.std.proofs.lemmas.Bool.Decides.{nat_tests}
use Rattle.heap_words.specs.declared.limits.TheConstants.{MOST_FIELDS}
use Rattle.heap_words.specs.declared.field_word.FieldWord.{FieldWord}
use Rattle.heap_words.specs.declared.field_word.FieldWord.TheVariants.{Num}
use Rattle.heap_words.specs.FieldWords.{IsFieldWord, word_of, field_at, is_same_value}
use Rattle.heap_history.specs.FixedHeaps.{is_same}
use Rattle.object_headers.specs.declared.header.Colour.{Colour}
use Rattle.handshakes.specs.declared.pass_view.PassView.{PassView}
use Rattle.handshakes.specs.declared.phase_word.Phase.{Phase}
use Rattle.handshakes.specs.PhaseWords.{phase_word_at}
use Rattle.barriers.specs.declared.spot.Spot.{Spot}
use Rattle.barriers.specs.declared.front.Front.{Front}
use Rattle.barriers.specs.declared.front.Front.TheVariants.{Stays, Now}
use Rattle.barriers.specs.declared.ends.TryRefusal.TheVariants as refusal
use Rattle.barriers.specs.declared.plain_exchange.TriesLeft.{TriesLeft}
use Rattle.barriers.specs.declared.plain_exchange.TriesLeft.TheVariants.{Two, One, Zero}
use Rattle.barriers.specs.Spots.{place_of-spot_of}
use Rattle.barriers.specs.States.{State, Absent, Plain, Kept, Tagged, Wide, Moving, Underway, Forward, Dead, same_word}
use Rattle.barriers.specs.Stances.{Stance, Mark, Confirm, Search, Copy as Copying, Fix, Free, Retired, stance_at, mark_in, phase_of}
use Rattle.barriers.specs.Spaces.{is_mark}
use Rattle.barriers.specs.Values.{value_of}
use Rattle.barriers.specs.Knowns.{Task, Reads, Writes, Exchanges, Refused, Known, Swaps, Loads_again, Swaps_copy, Over, Field_word, put_of, sees, sees_by, closes}
use Rattle.barriers.specs.KnownLaws.{phase_of-stance_at, is_same-value_of, same_word-word_of}
use Rattle.barriers.specs.PlainCalls.{no_field, to_copy, where_field, loaded, end_made, again, lost}
use Rattle.barriers.specs.Says.{IsChange}
use Rattle.barriers.specs.Kits.{IsHeaderWord, IsFromSearch, cycle_at}
use Rattle.at_rest.specs.Knowing.{IsPackedWord, tries_in}
use Rattle.at_rest.specs.ReadLaws.{len_found, word_found, follows_as}
use Rattle.clover_marks.specs.declared.access.Action.{Action}
use Rattle.clover_marks.specs.declared.access.Action.TheVariants as action
use Rattle.clover_marks.specs.declared.access.Access.{Access}
use Rattle.clover_marks.specs.declared.access.Place.TheVariants.{Original, Copy}
use Rattle.clover_marks.specs.declared.call.CallEnd.TheVariants as call_end
use Rattle.clover_marks.specs.declared.call.CloverCall.{CloverCall}
use Rattle.clover_marks.specs.declared.call.CloverCall.TheVariants as call
use Rattle.clover_marks.specs.Accesses.{is_mark_word, field_from, forwarded}
use Rattle.clover_marks.specs.Calls.{is_moving_phase, is_busy, at_place, in_copy_or, begun_by, followed, raced, next_of, try_by, valued_by, valued, marked, found_at, made_end, made, seen, seen_in_original}
use Rattle.clover_marks.specs.CloverTable.{busy, by_phase, by_mark, by_state, unless_mark, by_value, by_again, by_load, by_swap}
use Rattle.clover_marks.specs.CloverKnowing.{task_in, ending, left_in, knows, IsAccess, IsBegun, IsPlaceOf, IsMark, CallsFor}
use Rattle.clover_marks.specs.MarkLaws.{mark_so, is_mark_found, mark_some, forwarded_for, moved_for, forwarded_found}

abbrev pub of : Spot → ℕ → Phase → Action → Access
of s mark phase act = record { spot = s; action = act; mark = mark; phase = phase }

abbrev pub Becomes : PassView → CloverCall → Known → Type 0
Becomes v m k = (knows m ≡ k) × CallsFor v m

next_left : (tries : TriesLeft) → left_in (next_of tries) ≡ tries_in tries
next_left Two = refl
next_left One = refl
next_left Zero = refl

loaded_lost : (swaps : FieldWord → ℕ → Known) (acked : Stance) (s : Spot) (t : Task) (x : FieldWord) → lost swaps acked s t x x 3 ≡ loaded swaps acked s t x
loaded_lost swaps acked s Reads x = refl
loaded_lost swaps acked s (Writes word) x = refl
loaded_lost swaps acked s (Exchanges expected word) x = refl

made_so : (a : Action) (y : FieldWord) → IsChange (task_in a) → ending (made_end a) ≡ end_made (task_in a) y
made_so action.Read y change = absurd change
made_so (action.Write word) y change = refl
made_so (action.Exchange expected word) y change = refl

module _ (v : PassView) (s : Spot) (mark : ℕ) (phase : Phase) where
  abbrev acked : Stance
  acked = stance_at v.acked

  abbrev at : Action → Access
  at = of s mark phase

  -- ---- with a word of a field

  module _ (w : FieldWord) (n : ℕ) (word : (n ≡ word_of w) × IsFieldWord w) where
    found : field_at n ≡ w
    found = word_found w n word

    packed_found : IsPackedWord n
    packed_found = record { same = word.0 ∙ ap word_of (sym found); fits = subst IsFieldWord (sym found) word.1 }

    follows_so : (a : Action) → IsAccess v (at a) → Becomes v (followed (at a) n) (closes acked s (task_in a) w)
    follows_so a is = (follows_as v phase s (task_in a) w n is.phase found, is)

    raced_so : (a : Action) (x : FieldWord) (wanted : ℕ) → wanted ≡ word_of x → Over s (task_in a) (Refused (refusal.Raced wanted n)) ≡ Over s (task_in a) (Refused (refusal.Raced (word_of x) (word_of w)))
    raced_so a x wanted wants = ap (λ (i : ℕ). Over s (task_in a) (Refused (refusal.Raced i n))) wants ∙ ap (λ (i : ℕ). Over s (task_in a) (Refused (refusal.Raced (word_of x) i))) word.0

    tries_so : (a : Action) (exchange : TriesLeft → CloverCall) (swaps : FieldWord → ℕ → Known) (x : FieldWord) (wanted : ℕ) → IsAccess v (at a) → wanted ≡ word_of x → (next : Option TriesLeft)
        → ((tries : TriesLeft) → Becomes v (exchange tries) (swaps w (tries_in tries))) → Becomes v (try_by exchange (raced (at a) wanted n) next) (again swaps s (task_in a) x w (left_in next))
    tries_so a exchange swaps x wanted is wants None each = (raced_so a x wanted wants, is)
    tries_so a exchange swaps x wanted is wants (Some tries) each = each tries

    valued_so : (a : Action) (exchange : TriesLeft → CloverCall) (swaps : FieldWord → ℕ → Known) (x : FieldWord) (wanted : ℕ) → IsAccess v (at a) → wanted ≡ word_of x → (next : Option TriesLeft)
        → (IsChange (task_in a) → (tries : TriesLeft) → Becomes v (exchange tries) (swaps w (tries_in tries))) → Becomes v (valued_by (at a) exchange wanted next n) (lost swaps acked s (task_in a) x w (left_in next))
    valued_so action.Read exchange swaps x wanted is wants next each = follows_so action.Read is
    valued_so (action.Write put) exchange swaps x wanted is wants next each = tries_so (action.Write put) exchange swaps x wanted is wants next (each tt)
    valued_so (action.Exchange expected put) exchange swaps x wanted is wants next each =
        let expects : is_same_value expected (field_at n) ≡ is_same (value_of w) (value_of expected) = ap (is_same_value expected) found ∙ sym (is_same-value_of w expected) in
        subst (λ (b : Bool). Becomes v (if is_same_value expected (field_at n) then try_by exchange (raced (at a) wanted n) next else followed (at a) n) (if b then again swaps s t x w (left_in next) else closes acked s t w))
        expects (by (is_same_value expected (field_at n)))
      where
        a : Action
        a = action.Exchange expected put

        t : Task
        t = task_in a

        by : (b : Bool) → Becomes v (if b then try_by exchange (raced (at a) wanted n) next else followed (at a) n) (if b then again swaps s t x w (left_in next) else closes acked s t w)
        by true = tries_so a exchange swaps x wanted is wants next (each tt)
        by false = follows_so a is

    -- in the original it may be the mark
    found_so : (a : Action) (x : FieldWord) (wanted : ℕ) → IsBegun v (at a) → wanted ≡ word_of x → field_at wanted ≡ x → IsPackedWord wanted → (next : Option TriesLeft)
        → Becomes v (found_at (at a) Original wanted next n) (unless_mark (mark_in mark) s (task_in a) x (left_in next) w (lost (Swaps s (task_in a)) acked s (task_in a) x w (left_in next)))
    found_so a x wanted begun wants holds packed next =
        let same : is_mark_word mark n ≡ is_mark (mark_in mark) w = ap (is_mark_word mark) word.0 ∙ is_mark_found mark w word.1 in
        subst (λ (b : Bool). Becomes v (found_at (at a) Original wanted next n) (if b then Loads_again s (task_in a) x (left_in next) else lost (Swaps s (task_in a)) acked s (task_in a) x w (left_in next))) same
        (by (is_mark_word mark n) refl)
      where
        by : (b : Bool) → is_mark_word mark n ≡ b
            → Becomes v (if b then call.Again (at a) wanted next else valued (at a) Original wanted next n) (if b then Loads_again s (task_in a) x (left_in next) else lost (Swaps s (task_in a)) acked s (task_in a) x w (left_in next))
        by true e = (ap (λ (y : FieldWord). Loads_again s (task_in a) y (left_in next)) holds, (begun, packed, (mark_so mark n e).1))
        by false e =
            valued_so a (call.Try (at a) Original n) (Swaps s (task_in a)) x wanted begun.its wants next
            (λ change tries. (ap (λ (y : FieldWord). Swaps s (task_in a) y (tries_in tries)) found, (begun, tt, packed_found, change)))

    found_copy_so : (a : Action) (copy : Spot) (x : FieldWord) (wanted : ℕ) → IsBegun v (at a) → IsPlaceOf s (Copy copy) → wanted ≡ word_of x → (next : Option TriesLeft)
        → Becomes v (found_at (at a) (Copy copy) wanted next n) (lost (Swaps_copy s (task_in a) copy.at) acked s (task_in a) x w (left_in next))
    found_copy_so a copy x wanted begun place wants next =
        valued_so a (call.Try (at a) (Copy copy) n) (Swaps_copy s (task_in a) copy.at) x wanted begun.its wants next
        (λ change tries. (ap (λ (y : FieldWord). Swaps_copy s (task_in a) copy.at y (tries_in tries)) found, (begun, place, packed_found, change)))

    -- ---- a load

    pub load_so : (a : Action) → IsBegun v (at a) → Becomes v (found_at (at a) Original n (Some Two) n) (by_load acked (mark_in mark) s (task_in a) w)
    load_so a begun =
        subst (λ (k : Known). Becomes v (found_at (at a) Original n (Some Two) n) (unless_mark (mark_in mark) s (task_in a) w 3 w k)) (loaded_lost (Swaps s (task_in a)) acked s (task_in a) w)
        (found_so a w n begun word.0 found packed_found (Some Two))

    pub load_copy_so : (a : Action) (copy : Spot) → IsBegun v (at a) → IsPlaceOf s (Copy copy) → Becomes v (found_at (at a) (Copy copy) n (Some Two) n) (loaded (Swaps_copy s (task_in a) copy.at) acked s (task_in a) w)
    load_copy_so a copy begun place =
        subst (λ (k : Known). Becomes v (found_at (at a) (Copy copy) n (Some Two) n) k) (loaded_lost (Swaps_copy s (task_in a) copy.at) acked s (task_in a) w)
        (found_copy_so a copy w n begun place word.0 (Some Two))

    -- ---- an exchange

    module _ (a : Action) (wanted : ℕ) (begun : IsBegun v (at a)) (packed : IsPackedWord wanted) (change : IsChange (task_in a)) where
      abbrev from : FieldWord
      from = field_at wanted

      -- it wins where it finds what it wanted
      wins : (n == wanted) ≡ same_word w from
      wins = ap (λ (i : ℕ). i == wanted) word.0 ∙ (ap (λ (i : ℕ). word_of w == i) packed.same ∙ sym (same_word-word_of w from word.1 packed.fits))

      made_now : Becomes v (made (at a)) (Over s (task_in a) (end_made (task_in a) w))
      made_now = (ap (Over s (task_in a)) (made_so a w change), begun.its)

      -- or goes on so
      tried_so : (lost_call : CloverCall) (lost_known : Known) → (same_word w from ≡ false → Becomes v lost_call lost_known) → Becomes v (if n == wanted then made (at a) else lost_call) (if same_word w from then Over s (task_in a) (end_made (task_in a) w) else lost_known)
      tried_so lost_call lost_known loses =
          subst (λ (b : Bool). Becomes v (if b then made (at a) else lost_call) (if same_word w from then Over s (task_in a) (end_made (task_in a) w) else lost_known)) (sym wins) (by (same_word w from) refl)
        where
          by : (b : Bool) → same_word w from ≡ b → Becomes v (if b then made (at a) else lost_call) (if b then Over s (task_in a) (end_made (task_in a) w) else lost_known)
          by true e = made_now
          by false e = loses e

      pub swap_so : (tries : TriesLeft) → Becomes v (if n == wanted then made (at a) else found_at (at a) Original wanted (next_of tries) n) (by_swap acked (mark_in mark) s (task_in a) from (tries_in tries) w)
      swap_so tries =
          tried_so (found_at (at a) Original wanted (next_of tries) n) (unless_mark (mark_in mark) s (task_in a) from (tries_in tries) w (lost (Swaps s (task_in a)) acked s (task_in a) from w (tries_in tries)))
          (λ e. subst (λ (i : ℕ). Becomes v (found_at (at a) Original wanted (next_of tries) n) (unless_mark (mark_in mark) s (task_in a) from i w (lost (Swaps s (task_in a)) acked s (task_in a) from w i))) (next_left tries)
          (found_so a from wanted begun packed.same refl packed (next_of tries)))

      pub swap_copy_so : (copy : Spot) → IsPlaceOf s (Copy copy) → (tries : TriesLeft)
          → Becomes v (if n == wanted then made (at a) else found_at (at a) (Copy copy) wanted (next_of tries) n) (if same_word w from then Over s (task_in a) (end_made (task_in a) w) else lost (Swaps_copy s (task_in a) copy.at) acked s (task_in a) from w (tries_in tries))
      swap_copy_so copy place tries =
          tried_so (found_at (at a) (Copy copy) wanted (next_of tries) n) (lost (Swaps_copy s (task_in a) copy.at) acked s (task_in a) from w (tries_in tries))
          (λ e. subst (λ (i : ℕ). Becomes v (found_at (at a) (Copy copy) wanted (next_of tries) n) (lost (Swaps_copy s (task_in a) copy.at) acked s (task_in a) from w i)) (next_left tries)
          (found_copy_so a copy from wanted begun place packed.same (next_of tries)))

      -- what is found in place of the mark is not the mark
      other_word : wanted ≡ mark → IsMark mark → same_word w from ≡ false → is_mark (mark_in mark) w ≡ false
      other_word same is e =
          let is_number : from ≡ Num mark = ap field_at same ∙ is.number in
          ap (λ (o : Option FieldWord). is_mark o w) (mark_some mark is.some) ∙ subst (λ (y : FieldWord). same_word w y ≡ false) is_number e

      pub swap_mark_so : wanted ≡ mark → IsMark mark → (tries : TriesLeft) → Becomes v (if n == wanted then made (at a) else valued (at a) Original wanted (next_of tries) n) (by_swap acked (mark_in mark) s (task_in a) from (tries_in tries) w)
      swap_mark_so same is tries =
          let t = task_in a in
          tried_so (valued (at a) Original wanted (next_of tries) n) (unless_mark (mark_in mark) s t from (tries_in tries) w (lost (Swaps s t) acked s t from w (tries_in tries)))
          (λ e. subst (λ (b : Bool). Becomes v (valued (at a) Original wanted (next_of tries) n) (if b then Loads_again s t from (tries_in tries) else lost (Swaps s t) acked s t from w (tries_in tries))) (sym (other_word same is e))
          (subst (λ (i : ℕ). Becomes v (valued (at a) Original wanted (next_of tries) n) (lost (Swaps s t) acked s t from w i)) (next_left tries)
          (valued_so a (call.Try (at a) Original n) (Swaps s t) from wanted begun.its packed.same (next_of tries)
          (λ changes tries. (ap (λ (y : FieldWord). Swaps s t y (tries_in tries)) found, (begun, tt, packed_found, changes))))))

  -- ---- with a header

  copy_so : (a : Action) (to : ℕ) → IsBegun v (at a) → Becomes v (at_place (at a) (Copy (field_from s to))) (to_copy s (task_in a) to)
  copy_so a to begun = by a begun
    where
      place : IsBegun v (at a) → IsPlaceOf s (Copy (field_from s to))
      place begun = place_of-spot_of s.birth to s.field MOST_FIELDS begun.few (omega arith)

      by : (b : Action) → IsBegun v (at b) → Becomes v (at_place (at b) (Copy (field_from s to))) (to_copy s (task_in b) to)
      by action.Read now = (refl, (now, place begun))
      by (action.Write word) now = (refl, (now, place begun, tt))
      by (action.Exchange expected word) now = (refl, (now, place begun))

  original_so : (a : Action) → IsBegun v (at a) → Becomes v (at_place (at a) Original) (by_mark (mark_in mark) s (task_in a))
  original_so action.Read begun = by (mark == 0)
    where
      by : (b : Bool) → Becomes v (call.Load (at action.Read) Original) (by_mark (if b then None else Some (Num mark)) s Reads)
      by true = (refl, (begun, tt))
      by false = (refl, (begun, tt))
  original_so (action.Write word) begun = by (mark == 0)
    where
      by : (b : Bool) → Becomes v (if b then call.Store (at (action.Write word)) Original else call.Load (at (action.Write word)) Original) (by_mark (if b then None else Some (Num mark)) s (Writes (field_at word)))
      by true = (refl, (begun, tt, tt))
      by false = (refl, (begun, tt))
  original_so (action.Exchange expected word) begun = by (mark == 0)
    where
      by : (b : Bool) → Becomes v (call.Load (at (action.Exchange expected word)) Original) (by_mark (if b then None else Some (Num mark)) s (Exchanges (value_of expected) (field_at word)))
      by true = (refl, (begun, tt))
      by false = (refl, (begun, tt))

  state_so : (a : Action) (y : State) → IsBegun v (at a) → Becomes v (in_copy_or (at a) (at_place (at a) Original) (forwarded_for s y)) (by_state (mark_in mark) s (task_in a) y)
  state_so a (Forward to) begun = copy_so a to begun
  state_so a Absent begun = original_so a begun
  state_so a Plain begun = original_so a begun
  state_so a Kept begun = original_so a begun
  state_so a Tagged begun = original_so a begun
  state_so a (Wide wide) begun = original_so a begun
  state_so a (Moving to) begun = original_so a begun
  state_so a Underway begun = original_so a begun
  state_so a Dead begun = original_so a begun

  pub header_so : (a : Action) (x : State) (colour : Colour) (len n : ℕ) → IsHeaderWord None s.birth x colour len n → IsAccess v (at a) → Becomes v (begun_by (at a) n) (where_field s (task_in a) len (by_state (mark_in mark) s (task_in a) x))
  header_so a x colour len n word is =
      subst (λ (l : ℕ). Becomes v (if nat_lt s.field l then in_copy_or (at a) (at_place (at a) Original) (forwarded s n) else call.Ended (at a) (call_end.Refused (refusal.NoField l))) (where_field s (task_in a) len (by_state (mark_in mark) s (task_in a) x)))
      (sym (len_found s.birth x colour len n word)) (by (nat_lt s.field len) refl)
    where
      begun : nat_lt s.field len ≡ true → IsBegun v (at a)
      begun e =
          let fits = word.fits in
          let most : len ≤ MOST_FIELDS = subst (λ (l : ℕ). l ≤ MOST_FIELDS) word.len_is fits.len in
          let lt : s.field < len = grind (arith, nat_tests, e) in
          record { its = is; few = omega (arith, most, lt) }

      by : (b : Bool) → nat_lt s.field len ≡ b
          → Becomes v (if b then in_copy_or (at a) (at_place (at a) Original) (forwarded s n) else call.Ended (at a) (call_end.Refused (refusal.NoField len))) (if b then by_state (mark_in mark) s (task_in a) x else no_field s (task_in a) len)
      by true e =
          subst (λ (o : Option Spot). Becomes v (in_copy_or (at a) (at_place (at a) Original) o) (by_state (mark_in mark) s (task_in a) x)) (sym (forwarded_found s.birth x colour len n word s))
          (state_so a x (begun e))
      by false e = (refl, is)

  -- ---- with the header again

  value_so : (a : Action) (wanted : ℕ) (next : Option TriesLeft) → IsBegun v (at a) → IsPackedWord wanted → IsMark mark → Becomes v (marked (at a) wanted next) (by_value acked (mark_in mark) s (task_in a) (field_at wanted) (left_in next))
  value_so a wanted next begun packed is =
      let t = task_in a in
      let its = is.packed in
      let word : mark ≡ word_of (Num mark) = its.same ∙ ap word_of is.number in
      let fits : IsFieldWord (Num mark) = subst IsFieldWord is.number its.fits in
      subst (λ (o : Option FieldWord). Becomes v (marked (at a) wanted next) (by_value acked o s t (field_at wanted) (left_in next))) (sym (mark_some mark is.some))
      (valued_so (Num mark) mark (word, fits) a (call.TryMark (at a)) (Swaps s t) (field_at wanted) wanted begun.its packed.same next
      (λ change tries. (ap (λ (y : FieldWord). Swaps s t y (tries_in tries)) is.number, (begun, is, change))))

  pub again_so : (a : Action) (wanted : ℕ) (next : Option TriesLeft) (y : State) → IsBegun v (at a) → IsPackedWord wanted → IsMark mark
      → Becomes v (in_copy_or (at a) (marked (at a) wanted next) (moved_for s y)) (by_again acked (mark_in mark) s (task_in a) (field_at wanted) (left_in next) y)
  again_so a wanted next (Forward to) begun packed is = copy_so a to begun
  again_so a wanted next (Moving to) begun packed is = copy_so a to begun
  again_so a wanted next Absent begun packed is = value_so a wanted next begun packed is
  again_so a wanted next Plain begun packed is = value_so a wanted next begun packed is
  again_so a wanted next Kept begun packed is = value_so a wanted next begun packed is
  again_so a wanted next Tagged begun packed is = value_so a wanted next begun packed is
  again_so a wanted next (Wide wide) begun packed is = value_so a wanted next begun packed is
  again_so a wanted next Underway begun packed is = value_so a wanted next begun packed is
  again_so a wanted next Dead begun packed is = value_so a wanted next begun packed is

  -- ---- with the phase word

  -- a phase word of this cycle
  busy_is : (cycle n : ℕ) (p : Stance) → stance_at n ≡ p → cycle_at n ≡ cycle → is_busy cycle n ≡ is_moving_phase (phase_of p)
  busy_is cycle n p is its =
      let current : (cycle_at n == cycle) ≡ true = grind (arith, nat_tests, its) in
      ap (λ (b : Bool). b && is_moving_phase (let w = phase_word_at n in w.phase)) current ∙ ap is_moving_phase (sym (phase_of-stance_at n) ∙ ap phase_of is)

  pub phase_so : (a : Action) (cycle n : ℕ) (p : Stance) → IsAccess v (at a) → stance_at n ≡ p → cycle_at n ≡ cycle → IsFromSearch p → mark ≡ word_of (put_of (task_in a))
      → Becomes v (if is_busy cycle n then call.Ended (at a) (call_end.Refused (refusal.Busy cycle mark)) else call.Header (at a)) (by_phase s (task_in a) cycle p)
  phase_so a cycle n p its is current from word =
      subst (λ (b : Bool). Becomes v (if b then call.Ended (at a) (call_end.Refused (refusal.Busy cycle mark)) else call.Header (at a)) (by_phase s (task_in a) cycle p)) (sym (busy_is cycle n p is current)) (by p from)
    where
      busy_so : Becomes v (call.Ended (at a) (call_end.Refused (refusal.Busy cycle mark))) (busy s (task_in a) cycle)
      busy_so = (ap (λ (m : ℕ). Over s (task_in a) (Refused (refusal.Busy cycle m))) word, its)

      by : (q : Stance) → IsFromSearch q → Becomes v (if is_moving_phase (phase_of q) then call.Ended (at a) (call_end.Refused (refusal.Busy cycle mark)) else call.Header (at a)) (by_phase s (task_in a) cycle q)
      by Search from = busy_so
      by Copying from = busy_so
      by Fix from = busy_so
      by Free from = (refl, its)
      by Mark from = absurd from
      by Confirm from = absurd from
      by Retired from = absurd from

  -- ---- what its pass sees

  module _ (w : FieldWord) (n : ℕ) (word : (n ≡ word_of w) × IsFieldWord w) where
    look_so : (a : Action) (f : Front) → seen (at a) n f ≡ sees (task_in a) w f
    look_so action.Read f = refl
    look_so (action.Write put) f = refl
    look_so (action.Exchange expected put) f =
        let expects : is_same_value expected (field_at n) ≡ is_same (value_of w) (value_of expected) = ap (is_same_value expected) (found w n word) ∙ sym (is_same-value_of w expected) in
        ap (λ (b : Bool). if b then Stays else f) expects

    pub look_copy_so : (a : Action) → seen (at a) n Now ≡ sees_by None (task_in a) (Field_word w) Now
    look_copy_so a = look_so a Now

    pub look_original_so : (a : Action) (f : Front) → seen_in_original (at a) n f ≡ sees_by (mark_in mark) (task_in a) (Field_word w) f
    look_original_so a f =
        let same : is_mark_word mark n ≡ is_mark (mark_in mark) w = ap (is_mark_word mark) word.0 ∙ is_mark_found mark w word.1 in
        ap (λ (b : Bool). if b then f else seen (at a) n f) same ∙ ap (λ (g : Front). if is_mark (mark_in mark) w then f else g) (look_so a f)
