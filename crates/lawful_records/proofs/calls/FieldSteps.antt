-- The step of a call at a field.
use Rattle.std.specs.Prelude.{IsTrue}
use Rattle.std.proofs.Common.{◌≡◌, ◌≢◌, ◌⊎◌, ℕ, ◌<◌, inl, inr, List, Option, Some, None, true, false, refl, sym, ap, ◌∙◌, subst}
use Rattle.call_steps.specs.StepLaws.{Put}
use Rattle.call_steps.specs.Steps.{place_of, put_by, IsInside}
use Rattle.heap_words.specs.Layouts.{Sizes, words_of}
use Rattle.heap_words.specs.declared.field_word.FieldWord.{FieldWord}
use Rattle.heap_words.specs.declared.field_word.FieldWord.TheVariants.{Num}
use Rattle.object_headers.specs.Changes.{is_clover}
use Rattle.heap_history.specs.FixedHeaps.{answer}
use Rattle.heap_history.specs.Histories.{is_change}
use Rattle.heap_history.specs.NewestFirst.{heap_of_history, len_at}
use Rattle.heap_history.specs.ValueLaws.{len_at-before}
use Rattle.heap_history.specs.declared.call.Call.{Call}
use Rattle.handshakes.specs.declared.pass_view.PassView.{PassView}
use Rattle.barriers.specs.declared.spot.Spot.{Spot}
use Rattle.barriers.specs.declared.front.Front.{Front}
use Rattle.barriers.specs.Sets.{set2}
use Rattle.barriers.specs.States.{State, Plain, Kept, Tagged, Underway, IsHome, IsLive}
use Rattle.barriers.specs.Stances.{Free, Retired}
use Rattle.barriers.specs.Spaces.{Space, Here, here, is_mark}
use Rattle.barriers.specs.Says.{Notices, IsAtWord, IsWritten}
use Rattle.barriers.specs.Cycles.{Cycle, Side}
use Rattle.barriers.specs.Knowns.{Known, Checks, Follows, Over, Finds, at_field, has_found, spot_of, task_of, call_of, step_of, hand_of, word_in, writes_yet, puts, looks}
use Rattle.barriers.specs.Events.{Keep, May, grown}
use Rattle.barriers.specs.Objects.{IsSide, IsCall}
use Rattle.barriers.specs.Accesses.{put_state, found_in, history_after, space_after, side_after, known_after}
use Rattle.barriers.specs.CallTurns.{CallStep}
use Rattle.barriers.specs.Protocols.{Protocol, seen_after, word_found}
use Rattle.barriers.specs.ProtocolLaws.{ProtocolLaws, StepEnd, GoesTo}
use Rattle.barriers.specs.CycleLaws.{MovingLaws}
use Rattle.barriers.specs.PlainCallLaws.{spot_at}
use Rattle.barriers.specs.Kits.{Kit, IsWordOf, IsCurrent}
use Rattle.barriers.proofs.objects.Calls.{call_step, step_end}
use Rattle.barriers.proofs.objects.Changes.{puts_word}
use Rattle.barriers.proofs.objects.Outcomes.{Outcome, Still, Keeping, Putting, Putting_copy, Widening, outcome}
use Rattle.barriers.proofs.objects.Seen.{lens_go}
use Rattle.barriers.proofs.words.After.{says_after, rows_after}
use Rattle.barriers.proofs.words.Calls.{at_word}
use Rattle.barriers.proofs.words.Found.{found_word, step_inside}
use Rattle.barriers.proofs.words.Packed.{found_fits}
use Rattle.barriers.proofs.words.SpareCalls.{spare_after}
use Rattle.lawful_records.specs.Frames.{KeepsFields, Grows, Left, Same, Untagged, KeepsUnmarked, LeavesSearch}
use Rattle.lawful_records.specs.LawfulRecords.{IsUnborn}
use Rattle.lawful_records.specs.Meetings.{FitsHand}
use Rattle.lawful_records.specs.Turns.{change_call, with_change, seen_by, LooksOn}
use Rattle.lawful_records.proofs.calls.Changes.{put_change, change_as, grown_as, reply_changes, ends_so, unborn_call}
use Rattle.lawful_records.proofs.calls.CallSteps.{SameCall, CallStands, CallGoes}
use Rattle.barriers.proofs.words.Sets.{set_cases, set2_cases}
use Rattle.lawful_records.proofs.frames.JobStays.{head_same}
use Rattle.lawful_records.proofs.frames.SearchStays.{left_there}
use Rattle.lawful_records.proofs.telling.Meeting.{spot_later, hand_from, hand_found}
use Rattle.lawful_records.proofs.telling.Replies.{EndsSo}
use Rattle.lawful_records.proofs.telling.Turning.{seen_grows, pass_of_call}
use Rattle.lawful_records.proofs.turns.Holding.{side_at}
use Rattle.lawful_records.proofs.frames.SeenTurns.{seen_by_others}

-- of each address what is there is left, or its tag is Kept; of each wide object the copy's address; and of each region its use and its end
record StaysHere (P : Protocol) (l : Sizes) (s t : Space) : Type 0 where
  at : (a : ℕ) → Left P l s t a
  address : (a : ℕ) → t.address a ≡ s.address a
  region : (k : ℕ) → t.region k ≡ s.region k
  ends : (k : ℕ) → t.ends k ≡ s.ends k

-- where a tag is Kept
keeps : (P : Protocol) (l : Sizes) (s : Space) (z : ℕ) → P.Makes Keep → s.state z ≡ Tagged → (a : ℕ) → Left P l s (put_state s z Kept) a
keeps P l s z makes tagged a = elim (set_cases s.state z a Kept) [
  | inl here ↦ Untagged makes (ap s.state here.0 ∙ tagged) here.1 refl refl
  | inr there ↦ Same (record { state = there.1; seal = refl; wide = refl; head = λ is. (refl, refl, refl) })
]

written : (x : State) → (x ≡ Plain) ⊎ (x ≡ Underway) → IsWritten x
written x (inl is) = rw is tt
written x (inr is) = rw is tt

module _ {R W E M : Type 0} (kit : Kit R W E M) (table : ProtocolLaws kit.protocol) (movable : MovingLaws kit.kind kit.protocol) (l : Sizes) (c : Cycle) (s : Space) (n : Notices) (memory : ℕ → ℕ) (v : PassView) (seen : List Call) (k : Known)
    (stands : CallStands kit l c s n memory v seen k) where
  abbrev side : Side
  side = side_at kit v seen

  turn : (z : Spot) → at_field k ≡ Some z → CallStep kit.protocol c s side k
  turn z at = call_step kit.protocol table c s side k z at stands.objects stands.lens stands.side stands.call

  -- its field is at a word
  pub at_its_word : (z : Spot) → at_field k ≡ Some z → IsAtWord s k
  at_its_word z at = at_word kit.protocol c s side k stands.call
      (λ to is. (let aim = (turn z at).aim to is in (aim.to_is, written (s.state to) aim.state, aim.len)))
      (turn z at).wide z at

  pub its_step_inside : IsInside (words_of l) (step_of k)
  its_step_inside = step_inside l memory s n stands.rows stands.says k at_its_word stands.call.hand

  pub its_word_found : IsWordOf k (found_in c s k) (memory (place_of (step_of k)))
  its_word_found = found_word l memory s n stands.rows stands.says c.phase k stands.phase at_its_word

  -- a phase word that it loads is the one that is announced
  pub its_current : v.mark ≢ 0 → IsCurrent v k (memory (place_of (step_of k)))
  its_current marked = by_known k
    where
      by_known : (x : Known) → IsCurrent v x (memory (place_of (step_of x)))
      by_known (Checks y t cycle) = rw stands.says.notices.phase (stands.current marked)
      by_known x = tt

  module _ (z : Spot) (at : at_field k ≡ Some z) where
    abbrev P : Protocol
    P = kit.protocol

    abbrev found : Finds
    found = found_in c s k

    abbrev x : Here
    x = here s (spot_of k).at (spot_of k).field

    abbrev t : Space
    t = space_after c s side k

    abbrev next : Known
    next = known_after P c s side k

    abbrev call : Call
    call = call_of v.pass (spot_of k) (task_of k)

    at_k : at_field k ≡ Some (spot_of k)
    at_k = at ∙ ap Some (sym (spot_at k z at))

    live : IsLive x.state
    live = (stands.call.holds (spot_of k) at_k).1

    end : StepEnd P c side s.history (spot_of k) x k found
    end = step_end P table c s side k at_k stands.objects stands.lens stands.side stands.call

    made : CallStep P c s side k
    made = turn z at

    to : GoesTo side.own k found next
    to = made.goes

    -- ---- the space and the history

    all_left : StaysHere P l s s
    all_left = record { at = λ a. Same (head_same s a); address = λ a. refl; region = λ r. refl; ends = λ r. refl }

    leaves : Outcome k found → StaysHere P l s t
    leaves (Still ev e) = rw ev all_left
    leaves (Keeping ev e) = rw ev (record { at = keeps P l s (spot_of k).at (subst P.Makes ev end.makes) (subst (May c x) ev end.may); address = λ a. refl; region = λ r. refl; ends = λ r. refl })
    leaves (Putting w ev e) = rw ev (record { at = λ a. Same (record { state = refl; seal = refl; wide = refl; head = λ is. (refl, refl, refl) }); address = λ a. refl; region = λ r. refl; ends = λ r. refl })
    leaves (Putting_copy w ev e) = rw ev (record { at = λ a. Same (record { state = refl; seal = refl; wide = refl; head = λ is. (refl, refl, refl) }); address = λ a. refl; region = λ r. refl; ends = λ r. refl })
    leaves (Widening w ev e) = rw ev (record { at = λ a. Same (record { state = refl; seal = refl; wide = refl; head = λ is. (refl, refl, refl) }); address = λ a. refl; region = λ r. refl; ends = λ r. refl })

    left : StaysHere P l s t
    left = leaves (outcome k found)

    -- ---- what it leaves to a search

    -- the word that it puts is not the mark, where its pass has that
    not_mark : (w : FieldWord) → puts k found ≡ Some w → is_clover kit.kind ≡ true → c.phase ≢ Free → (side.acked ≢ Retired → side.own ≡ c.mark) → is_mark c.mark w ≡ false
    not_mark w e clover running same = subst (λ (m : Option FieldWord). is_mark m w ≡ false) (same stands.call.runs) (movable.unwritten clover c side x k found w running (stands.call.own (spot_of k) at_k) e)

    -- a word is put in one field
    put_unmarked : (home g : ℕ) (w : FieldWord) → is_mark c.mark w ≡ false → (a f : ℕ) → (set2 s.field home g w a f ≡ s.field a f) ⊎ (is_mark c.mark (set2 s.field home g w a f) ≡ false)
    put_unmarked home g w other a f = elim (set2_cases s.field home g w a f) [
      | inl here ↦ inr (subst (λ (y : FieldWord). is_mark c.mark y ≡ false) (sym here.2) other)
      | inr there ↦ inl there.1
    ]

    put_kept : (a f : ℕ) (y : FieldWord) → IsHome (s.state a) → f < s.len a → (y ≡ s.field a f) ⊎ (is_mark c.mark y ≡ false) → (IsHome (s.state a) × (f < s.len a) × (y ≡ s.field a f)) ⊎ (is_mark c.mark y ≡ false)
    put_kept a f y home less is = elim is [ inl same ↦ inl (home, less, same) | inr other ↦ inr other ]

    kept_home : (a : ℕ) → s.state (spot_of k).at ≡ Tagged → IsHome ((put_state s (spot_of k).at Kept).state a) → IsHome (s.state a)
    kept_home a tagged home = elim (set_cases s.state (spot_of k).at a Kept) [ inl here ↦ rw (here.0, tagged) tt | inr there ↦ rw there.1 at home ]

    unmarked_by : Outcome k found → KeepsUnmarked kit.kind c side s t
    unmarked_by (Still ev e) clover running same a f home less = rw ev (inl (rw ev at home, rw ev at less, refl))
    unmarked_by (Keeping ev e) clover running same a f home less = rw ev (inl (kept_home a (subst (May c x) ev end.may) (rw ev at home), rw ev at less, refl))
    unmarked_by (Putting w ev e) clover running same a f home less = rw ev (put_kept a f _ (rw ev at home) (rw ev at less) (put_unmarked (s.home (spot_of k).birth) (spot_of k).field w (not_mark w e clover running same) a f))
    unmarked_by (Putting_copy w ev e) clover running same a f home less = rw ev (put_kept a f _ (rw ev at home) (rw ev at less) (put_unmarked (s.home (spot_of k).birth) (spot_of k).field w (not_mark w e clover running same) a f))
    unmarked_by (Widening w ev e) clover running same a f home less = rw ev (put_kept a f _ (rw ev at home) (rw ev at less) (put_unmarked (s.home (spot_of k).birth) (spot_of k).field w (not_mark w e clover running same) a f))

    search : LeavesSearch kit.kind c side s t
    search = record {
      begun = λ region y begun. elim begun [ inl there ↦ inl (left_there P l s t y (left.at y) there) | inr ends ↦ inr (left.ends region ∙ ends) ];
      unmarked = unmarked_by (outcome k found);
    }

    -- ---- what it leaves of fields

    yet : (y : Known) → at_field y ≡ Some (spot_of y) → writes_yet y ≡ word_in (task_of y)
    yet (Follows z t m) e = absurd (let gone : None ≡ Some z = e in cc gone)
    yet (Over z t end) e = absurd (let gone : None ≡ Some z = e in cc gone)
    yet y e = refl

    put_yet : (w : FieldWord) → puts k found ≡ Some w → writes_yet k ≡ Some w
    put_yet w e = yet k at_k ∙ puts_word k found w e

    put_fields : (home g : ℕ) (w : FieldWord) → puts k found ≡ Some w → (a f : ℕ) → IsHome (s.state a) → f < s.len a
        → (IsHome (s.state a) × (f < s.len a) × (set2 s.field home g w a f ≡ s.field a f)) ⊎ ((set2 s.field home g w a f ≡ Num 0) ⊎ (writes_yet k ≡ Some (set2 s.field home g w a f)))
    put_fields home g w e a f its less = elim (set2_cases s.field home g w a f) [
      | inl here ↦ inr (inr (put_yet w e ∙ ap Some (sym here.2)))
      | inr there ↦ inl (its, less, there.1)
    ]

    fields_by : Outcome k found → KeepsFields (writes_yet k) s t
    fields_by (Still ev e) a f home less = rw ev (inl (rw ev at home, rw ev at less, refl))
    fields_by (Keeping ev e) a f home less = rw ev (inl (kept_home a (subst (May c x) ev end.may) (rw ev at home), rw ev at less, refl))
    fields_by (Putting w ev e) a f home less = rw ev (put_fields (s.home (spot_of k).birth) (spot_of k).field w e a f (rw ev at home) (rw ev at less))
    fields_by (Putting_copy w ev e) a f home less = rw ev (put_fields (s.home (spot_of k).birth) (spot_of k).field w e a f (rw ev at home) (rw ev at less))
    fields_by (Widening w ev e) a f home less = rw ev (put_fields (s.home (spot_of k).birth) (spot_of k).field w e a f (rw ev at home) (rw ev at less))

    pub field_keeps : KeepsFields (writes_yet k) s t
    field_keeps = fields_by (outcome k found)

    told_by : Outcome k found → t.history ≡ history_after c s side k
    told_by (Still ev e) = rw (ev, e) refl
    told_by (Keeping ev e) = rw (ev, e) refl
    told_by (Putting w ev e) = rw ev refl
    told_by (Putting_copy w ev e) = rw ev refl
    told_by (Widening w ev e) = rw ev refl

    told : t.history ≡ grown (puts k found) call s.history
    told = told_by (outcome k found)

    fits : (w : FieldWord) → puts k found ≡ Some w → IsTrue (is_change (answer (heap_of_history s.history) call))
    fits w e = subst (λ reply. IsTrue (is_change reply)) (sym (made.fits w e)) (reply_changes (task_of k) w (puts_word k found w e))

    grows_by : (o : Option FieldWord) → puts k found ≡ o → t.history ≡ grown o call s.history → Grows v.pass s.history t.history
    grows_by None e is = inl is
    grows_by (Some w) e is = inr (record { call = call; by = pass_of_call v.pass (spot_of k) (task_of k); fits = fits w e; is = is })

    unborn_by : (o : Option FieldWord) → puts k found ≡ o → (pass many : ℕ) → IsUnborn kit s.history pass many → IsUnborn kit (grown o call s.history) pass many
    unborn_by None e pass many unborn = unborn
    unborn_by (Some w) e pass many unborn = unborn_call kit s.history v.pass pass (spot_of k) (task_of k) many (fits w e) unborn

    -- ---- the call

    suits : EndsSo next
    suits = ends_so next to.suits

    module _ (change : Option Call) (front : Front) (change_is : change ≡ change_call next v.pass) (front_is : front ≡ looks side.own k found) where
      abbrev now : List Call
      now = seen_by change front x.seal s.history seen

      looks_on : LooksOn front x.seal s.history seen
      looks_on = rw front_is (record { past = end.past; later = end.later })

      change_put : change ≡ put_change (puts k found) call
      change_put = change_is ∙ change_as (puts k found) k next v.pass to.spot to.task to.made

      seen_as : (o : Option FieldWord) → seen_by (put_change o call) front x.seal s.history seen ≡ seen_after o side (spot_of k) k x found s.history
      seen_as None = rw front_is refl
      seen_as (Some w) = refl

      seen_is : now ≡ (let y = side_after c s side k in y.seen)
      seen_is = ap (λ change. seen_by change front x.seal s.history seen) change_put ∙ seen_as (puts k found)

      side_then : IsSide P c t (side_at kit v now)
      side_then = subst (λ h. IsSide P c t (side_at kit v h)) (sym seen_is) made.side

      call_then : IsCall P c t (side_at kit v now) next
      call_then = subst (λ h. IsCall P c t (side_at kit v h) next) (sym seen_is) made.call

      -- the field that it has found is one of the object
      field_there : has_found next ≡ true → has_found k ≡ false → (len : ℕ) → len_at now (spot_of k).birth ≡ Some len → (spot_of k).field < len
      field_there has not len had =
          let there : len_at t.history (spot_of k).birth ≡ Some len = len_at-before now t.history (spot_of k).birth len side_then.past had in
          let born : s.birth (spot_of k).at ≡ (spot_of k).birth = (stands.call.holds (spot_of k) at_k).0 in
          let known : len_at t.history (spot_of k).birth ≡ Some x.len =
          lens_go P table c s t stands.objects made.seen (spot_of k).birth x.len (ap (len_at s.history) (sym born) ∙ stands.lens (spot_of k).at live) in
          let same : Some len ≡ Some x.len = sym there ∙ known in
          let is : len ≡ x.len = cc in
          subst (λ n. (spot_of k).field < n) (sym is) (made.found_inside has)

      -- a number in its hand fits
      hand_then : FitsHand (hand_of next)
      hand_then = hand_from side.own (hand_of k) (word_found found) (hand_of next) to.hands stands.fits_own (let met = stands.met in met.hand)
          (hand_found found (found_fits k found (memory (place_of (step_of k))) its_word_found))

      comes_to : (after : ℕ → ℕ) → Put memory after (place_of (step_of k)) (put_by (step_of k) (memory (place_of (step_of k)))) → CallGoes kit l c s t n after v seen change front x.seal next
      comes_to after put = record {
        says = says_after l memory after s n stands.rows stands.says c side k at_its_word stands.packed put;
        spare = spare_after l memory after s n stands.rows stands.says stands.spare c side k at_its_word stands.call.hand put;
        rows = rows_after l c side s k stands.rows at_its_word;
        objects = made.objects;
        lens = made.lens;
        leaves = record {
          left = left.at;
          address = left.address;
          pool = λ region low. record { word = left.region region; ends = left.ends region };
          moves = λ m j job absent is. made.moves m j job is;
        };
        search = search;
        looks = looks_on;
        others = seen_by_others P table c s t stands.objects made.seen;
        regions = λ region. record { word = left.region region; ends = left.ends region };
        change_is = change_is;
        history = told ∙ (sym (grown_as (puts k found) call s.history) ∙ ap (λ change. with_change change s.history) (sym change_put));
        grows = grows_by (puts k found) refl told;
        unborn = λ many unborn. subst (λ h. IsUnborn kit h v.pass many) (sym told) (unborn_by (puts k found) refl v.pass many unborn);
        side = side_then;
        call = call_then;
        ends = suits;
        met = spot_later seen now k next (seen_grows change front x.seal s.history seen stands.side.past looks_on) to.spot to.task field_there hand_then stands.met;
      }

    -- what its step comes to
    pub field_goes : (after : ℕ → ℕ) → Put memory after (place_of (step_of k)) (put_by (step_of k) (memory (place_of (step_of k))))
        → (then : Known) → then ≡ known_after kit.protocol c s side k → (change : Option Call) → (task_of then ≡ task_of k → EndsSo then → change ≡ change_call then v.pass)
        → (front : Front) → front ≡ looks side.own k (found_in c s k)
        → SameCall k then × CallGoes kit l c s (space_after c s side k) n after v seen change front (s.seal (spot_of k).at) then
    field_goes after put then then_is change change_is front front_is =
        subst (λ (then : Known). (task_of then ≡ task_of k → EndsSo then → change ≡ change_call then v.pass) → SameCall k then × CallGoes kit l c s t n after v seen change front x.seal then) (sym then_is)
        (λ is. (record { spot = to.spot; task = to.task }, comes_to change front (is to.task suits) front_is after put)) change_is
