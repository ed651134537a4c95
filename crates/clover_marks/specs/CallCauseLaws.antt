-- A call ends only for a cause, whatever others do meanwhile.
use Rattle.std.specs.Prelude.{◌≡◌, ◌≢◌, ℕ, ◌==◌, nat_lt, if◌then◌else◌, Bool, true, false, List, [], ◌∷◌, ◌++◌, Option, Some, None, option_map, refl}
use Rattle.std.specs.Option.{ForSome}
use Rattle.std.proofs.Common.{subst, ap, sym, ◌∙◌, inl, inr, append-nil}
use Rattle.std.proofs.lemmas.Bool.{eqb-true, eqb-false, ltb-false}
use Rattle.call_steps.specs.declared.step.Step.{Step}
use Rattle.call_steps.specs.declared.step.Step.TheVariants.{Load, Store, Exchange, Ended}
use Rattle.call_steps.specs.Ending.{Taken, LastStep, EndsOnlyFor, up_to, step_of, ends_only_for}
use Rattle.heap_words.specs.Layouts.{phase_at}
use Rattle.heap_words.specs.declared.field_word.FieldWord.{FieldWord}
use Rattle.heap_words.specs.declared.field_word.FieldWord.TheVariants.{Num}
use Rattle.heap_words.specs.FieldWords.{field_at}
use Rattle.object_headers.specs.declared.header.State.{State as HeaderState}
use Rattle.object_headers.specs.declared.header.State.TheVariants as states
use Rattle.object_headers.specs.Headers.{header_at}
use Rattle.handshakes.specs.declared.phase_word.Phase.{Phase}
use Rattle.handshakes.specs.declared.phase_word.Phase.TheVariants as phases
use Rattle.handshakes.specs.declared.follow.FollowEnd.{FollowEnd}
use Rattle.handshakes.specs.declared.follow.FollowMachine.{FollowMachine}
use Rattle.handshakes.specs.declared.follow.FollowMachine.TheVariants as follow
use Rattle.handshakes.specs.Follows as follows
use Rattle.barriers.specs.declared.spot.Spot.{Spot}
use Rattle.barriers.specs.declared.ends.TryRefusal.TheVariants as refusal
use Rattle.barriers.specs.declared.plain_exchange.TriesLeft.{TriesLeft}
use Rattle.barriers.specs.declared.plain_exchange.TriesLeft.TheVariants.{Two}
use Rattle.barriers.specs.Causes.{len_at}
use Rattle.barriers.specs.FollowCauses.{IsFollowing, follow_begins, found_at_once, follow_ends, followed as link_followed, for_mapped}
use Rattle.clover_marks.specs.declared.access.Action.{Action}
use Rattle.clover_marks.specs.declared.access.Action.TheVariants as action
use Rattle.clover_marks.specs.declared.access.Access.{Access}
use Rattle.clover_marks.specs.declared.access.Place.{Place}
use Rattle.clover_marks.specs.declared.access.Place.TheVariants.{Original, Copy}
use Rattle.clover_marks.specs.declared.call.CallEnd.{CallEnd}
use Rattle.clover_marks.specs.declared.call.CallEnd.TheVariants as call_end
use Rattle.clover_marks.specs.declared.call.CloverCall.{CloverCall}
use Rattle.clover_marks.specs.declared.call.CloverCall.TheVariants as call
use Rattle.clover_marks.specs.Accesses.{word_of_action, serves, is_mark_word, address_of, forwarded_by, forwarded, moved_by, moved}
use Rattle.clover_marks.specs.Calls.{first_by, is_busy, stores, at_place, in_copy_or, followed, raced, next_of, try_by, valued, marked, found_at, made_end, made, asks_of, fed_of, found_end, end_of}
use Rattle.clover_marks.specs.MarkLaws.{mark_so}
use Rattle.clover_marks.specs.CallCauses.{header_load, IsAt, try_of, IsFirst, IsThird, IsValue, IsLook, FoundMark, IsHeld, CallEnds}
use Rattle.clover_marks.specs.CallLooks.{at_load, done, Looked, look_step, counted, third, look}

-- ---- what is so of the call after its steps

-- the last of these steps found the mark in the original
record AgainAt (access : Access) (steps : List Taken) (wanted : ℕ) (next : Option TriesLeft) : Type 0 where
  pub last : LastStep
  pub splits : steps ≡ up_to last
  pub looked : Looked access Original last wanted next
  pub mark : last.found ≡ access.mark
  pub number : is_mark_word access.mark access.mark ≡ true

abbrev IsCall : Access → ℕ → List Taken → CloverCall → Type 0
IsCall access cycle earlier (call.Phase its c at_phase) = (its ≡ access) × (c ≡ cycle) × (at_phase ≡ phase_at) × (earlier ≡ []) × (is_mark_word access.mark (word_of_action access.action) ≡ true)
IsCall access cycle earlier (call.Header its) = (its ≡ access) × IsFirst cycle earlier
IsCall access cycle earlier (call.Load its place) = (its ≡ access) × IsAt access place 0 earlier
IsCall access cycle earlier (call.Store its place) = (its ≡ access) × IsAt access place 0 earlier
IsCall access cycle earlier (call.Try its place wanted tries) = (its ≡ access) × IsAt access place (done tries) earlier × (serves access.action wanted ≡ true)
IsCall access cycle earlier (call.Again its wanted next) = (its ≡ access) × AgainAt access earlier wanted next
IsCall access cycle earlier (call.TryMark its tries) = (its ≡ access) × IsAt access Original (done tries) earlier × (serves access.action access.mark ≡ true)
IsCall access cycle earlier (call.Follow its f) = (its ≡ access) × IsFollowing (IsLook access) access.phase earlier f
IsCall access cycle earlier (call.Ended its end) = Unit {0}

number_follows : (phase : Phase) (k : ℕ) → follows.follow_of phase (Num k) ≡ follow.Ended (follows.unshaded (Num k))
number_follows phases.Free k = refl
number_follows phases.Mark k = refl
number_follows phases.Confirm k = refl
number_follows phases.Copy k = refl
number_follows phases.Fix k = refl
number_follows phases.Retired k = refl

forwarded_moved : (s : Spot) (state : HeaderState) (target : ℕ) (copy : Spot) → forwarded_by s state target ≡ Some copy → moved_by s state target ≡ Some copy
forwarded_moved s states.Absent target copy e = absurd cc
forwarded_moved s states.Plain target copy e = absurd cc
forwarded_moved s states.Kept target copy e = absurd cc
forwarded_moved s states.Tagged target copy e = absurd cc
forwarded_moved s states.Wide target copy e = absurd cc
forwarded_moved s states.Moving target copy e = absurd cc
forwarded_moved s states.Forward target copy e = e
forwarded_moved s states.Dead target copy e = absurd cc

module _ (access : Access) (cycle : ℕ) where
  abbrev Is : List Taken → CloverCall → Type 0
  Is = IsCall access cycle

  abbrev Ends : LastStep → CallEnd → Type 0
  Ends = CallEnds access cycle

  -- ---- at the word of the field

  placed_by : (steps : List Taken) (place : Place) (b : Bool) → IsAt access place 0 steps → Is steps (if b then call.Store access place else call.Load access place)
  placed_by steps place true at = (refl, at)
  placed_by steps place false at = (refl, at)

  placed : (steps : List Taken) (place : Place) → IsAt access place 0 steps → Is steps (at_place access place)
  placed steps place at = placed_by steps place (stores access.action place access.mark) at

  placed_ends : (last : LastStep) (place : Place) → ForSome (end_of (at_place access place)) (Ends last)
  placed_ends last place = by (stores access.action place access.mark)
    where
      by : (b : Bool) → ForSome (end_of (if b then call.Store access place else call.Load access place)) (Ends last)
      by true end is = absurd cc
      by false end is = absurd cc

  in_copy : (earlier : List Taken) (copy : Spot) (header : ℕ) → moved access.spot header ≡ Some copy → IsAt access (Copy copy) 0 (earlier ++ header_load access header ∷ [])
  in_copy earlier copy header told = record { before = earlier ++ header_load access header ∷ []; rest = []; splits = sym (append-nil (earlier ++ header_load access header ∷ [])); told = (earlier, header, refl, told); count = refl }

  -- ---- with a word found there

  ends_held : (last : LastStep) (act : Action) (w : FieldWord) (word : ℕ) → serves act word ≡ false → IsHeld access last w → Ends last (found_end act w)
  ends_held last action.Read w word came held = held
  ends_held last (action.Write put) w word came held = absurd cc
  ends_held last (action.Exchange expected put) w word came held = held

  module _ (place : Place) (last : LastStep) (wanted : ℕ) (next : Option TriesLeft) (looked : Looked access place last wanted next) (value : IsValue access place last.found) where
    -- the word is the value
    valued_is : Is (up_to last) (valued access place wanted next last.found)
    valued_is = by (serves access.action last.found) refl
      where
        tries : (o : Option TriesLeft) → next ≡ o → serves access.action last.found ≡ true → Is (up_to last) (try_by (call.Try access place last.found) (raced access wanted last.found) o)
        tries None none serve = tt
        tries (Some left) some serve = (refl, counted access place last wanted next left some looked, serve)

        by : (b : Bool) → serves access.action last.found ≡ b → Is (up_to last) (if b then try_by (call.Try access place last.found) (raced access wanted last.found) next else followed access last.found)
        by true serve = tries next refl serve
        by false came = (refl, follow_begins (IsLook access) last (look access place last wanted next value came looked) access.phase (field_at last.found) refl)

    valued_ends : ForSome (end_of (valued access place wanted next last.found)) (Ends last)
    valued_ends = by (serves access.action last.found) refl
      where
        tries : (o : Option TriesLeft) → next ≡ o → serves access.action last.found ≡ true → ForSome (end_of (try_by (call.Try access place last.found) (raced access wanted last.found) o)) (Ends last)
        tries None none serve = λ end is.
            let lost : call_end.Refused (refusal.Raced wanted last.found) ≡ end = cc in
            let its = third access place last wanted next none serve looked in
            subst (Ends last) lost (record { place = place; steps = last.earlier; third = its.0; when = inl (ap (λ (step : Step). last.earlier ++ record { step = step; found = last.found } ∷ []) its.1) })
        tries (Some left) some serve = λ end is. absurd cc

        by : (b : Bool) → serves access.action last.found ≡ b → ForSome (end_of (if b then try_by (call.Try access place last.found) (raced access wanted last.found) next else followed access last.found)) (Ends last)
        by true serve = tries next refl serve
        by false came =
            for_mapped (λ e. found_end access.action e.word) (follows.end_of (follows.follow_of access.phase (field_at last.found))) (Ends last)
            (λ e is. ends_held last access.action e.word last.found came (inl (inl (found_at_once (IsLook access) last (look access place last wanted next value came looked) access.phase (field_at last.found) refl e is))))

  -- in the original it may be the mark
  module _ (last : LastStep) (wanted : ℕ) (next : Option TriesLeft) (looked : Looked access Original last wanted next) where
    original_is : Is (up_to last) (found_at access Original wanted next last.found)
    original_is = by (is_mark_word access.mark last.found) refl
      where
        by : (b : Bool) → is_mark_word access.mark last.found ≡ b → Is (up_to last) (if b then call.Again access wanted next else valued access Original wanted next last.found)
        by true mark =
            let same = (mark_so access.mark last.found mark).0 in
            (refl, record { last = last; splits = refl; looked = looked; mark = same; number = subst (λ (i : ℕ). is_mark_word access.mark i ≡ true) same mark })
        by false not = valued_is Original last wanted next looked not

    original_ends : ForSome (end_of (found_at access Original wanted next last.found)) (Ends last)
    original_ends = by (is_mark_word access.mark last.found) refl
      where
        by : (b : Bool) → is_mark_word access.mark last.found ≡ b → ForSome (end_of (if b then call.Again access wanted next else valued access Original wanted next last.found)) (Ends last)
        by true mark = λ end is. absurd cc
        by false not = valued_ends Original last wanted next looked not

  found_is : (place : Place) (last : LastStep) (wanted : ℕ) (next : Option TriesLeft) → Looked access place last wanted next → Is (up_to last) (found_at access place wanted next last.found)
  found_is Original last wanted next looked = original_is last wanted next looked
  found_is (Copy copy) last wanted next looked = valued_is (Copy copy) last wanted next looked tt

  found_ends : (place : Place) (last : LastStep) (wanted : ℕ) (next : Option TriesLeft) → Looked access place last wanted next → ForSome (end_of (found_at access place wanted next last.found)) (Ends last)
  found_ends Original last wanted next looked = original_ends last wanted next looked
  found_ends (Copy copy) last wanted next looked = valued_ends (Copy copy) last wanted next looked tt

  -- ---- an exchange that won

  made_ends : (last : LastStep) (place : Place) (tries : ℕ) → IsAt access place tries last.earlier → last.step ≡ Exchange (address_of access place) last.found (word_of_action access.action) → serves access.action last.found ≡ true → ForSome (end_of (made access)) (Ends last)
  made_ends last place tries at step serve end is = subst (Ends last) (let same : made_end access.action ≡ end = cc in same) (by access.action)
    where
      by : (act : Action) → Ends last (made_end act)
      by action.Read = record { place = place; tries = tries; at = at; how = inr step }
      by (action.Write put) = record { place = place; tries = tries; at = at; how = inr step }
      by (action.Exchange expected put) = record { place = place; tries = tries; at = at; how = step; expected = serve }

  won : (place : Place) (earlier : List Taken) (wanted n : ℕ) → (n == wanted) ≡ true → Exchange (address_of access place) wanted (word_of_action access.action) ≡ Exchange (address_of access place) n (word_of_action access.action)
  won place earlier wanted n e = ap (λ (i : ℕ). Exchange (address_of access place) i (word_of_action access.action)) (sym (eqb-true n wanted e))

  -- ---- the mark is the value

  module _ (steps : List Taken) (wanted : ℕ) (next : Option TriesLeft) (again : AgainAt access steps wanted next) (n : ℕ) (still : moved access.spot n ≡ None) where
    abbrev second : LastStep
    second = record { earlier = steps; step = Load access.spot.at; found = n }

    abbrev mark_look : LastStep
    mark_look = again.last

    mark_number : field_at access.mark ≡ Num access.mark
    mark_number = let is = (mark_so access.mark access.mark again.number).1 in is.number

    mark_follows : follows.follow_of access.phase (field_at access.mark) ≡ follow.Ended (follows.unshaded (Num access.mark))
    mark_follows = ap (follows.follow_of access.phase) mark_number ∙ number_follows access.phase access.mark

    marked_is : Is (up_to second) (marked access wanted next)
    marked_is = by (serves access.action access.mark) refl
      where
        tries : (o : Option TriesLeft) → next ≡ o → serves access.action access.mark ≡ true → Is (up_to second) (try_by (call.TryMark access) (raced access wanted access.mark) o)
        tries None none serve = tt
        tries (Some left) some serve =
            let here : IsAt access Original (done left) steps = subst (IsAt access Original (done left)) (sym again.splits) (counted access Original mark_look wanted next left some again.looked) in
            (refl, at_load access Original (done left) second access.spot.at refl here, serve)

        by : (b : Bool) → serves access.action access.mark ≡ b → Is (up_to second) (if b then try_by (call.TryMark access) (raced access wanted access.mark) next else followed access access.mark)
        by true serve = tries next refl serve
        by false came = (refl, subst (IsFollowing (IsLook access) access.phase (up_to second)) (sym mark_follows) tt)

    marked_ends : ForSome (end_of (marked access wanted next)) (Ends second)
    marked_ends = by (serves access.action access.mark) refl
      where
        tries : (o : Option TriesLeft) → next ≡ o → serves access.action access.mark ≡ true → ForSome (end_of (try_by (call.TryMark access) (raced access wanted access.mark) o)) (Ends second)
        tries None none serve = λ end is.
            let lost : call_end.Refused (refusal.Raced wanted access.mark) ≡ end = cc in
            let its = third access Original mark_look wanted next none (subst (λ (i : ℕ). serves access.action i ≡ true) (sym again.mark) serve) again.looked in
            let taken : steps ≡ mark_look.earlier ++ try_of access Original wanted access.mark ∷ [] =
            again.splits ∙ (ap (λ (step : Step). mark_look.earlier ++ record { step = step; found = mark_look.found } ∷ []) its.1 ∙ ap (λ (i : ℕ). mark_look.earlier ++ try_of access Original wanted i ∷ []) again.mark) in
            subst (Ends second) lost (record { place = Original; steps = mark_look.earlier; third = subst (IsThird access Original mark_look.earlier wanted) again.mark its.0; when = inr (refl, refl, taken, refl, still) })
        tries (Some left) some serve = λ end is. absurd cc

        found : FoundMark access steps
        found = record {
          before = mark_look.earlier;
          last = record { step = mark_look.step; found = mark_look.found };
          splits = again.splits;
          how = look_step access Original mark_look wanted next again.looked;
          mark = again.mark;
          number = again.number;
        }

        by : (b : Bool) → serves access.action access.mark ≡ b → ForSome (end_of (if b then try_by (call.TryMark access) (raced access wanted access.mark) next else followed access access.mark)) (Ends second)
        by true serve = tries next refl serve
        by false came =
            let held : IsHeld access second (Num access.mark) = inr (record { found = found; header = refl; still = still; came = came }, sym mark_number) in
            subst (λ (f : FollowMachine). ForSome (option_map (λ (e : FollowEnd). found_end access.action e.word) (follows.end_of f)) (Ends second)) (sym mark_follows)
            (λ end is. subst (Ends second) (let same : found_end access.action (Num access.mark) ≡ end = cc in same) (ends_held second access.action (Num access.mark) access.mark came held))

  -- ---- with a header

  header_is : (earlier : List Taken) (n : ℕ) (o : Option Spot) → forwarded access.spot n ≡ o → IsAt access Original 0 (earlier ++ header_load access n ∷ []) → Is (earlier ++ header_load access n ∷ []) (in_copy_or access (at_place access Original) o)
  header_is earlier n None none at = placed (earlier ++ header_load access n ∷ []) Original at
  header_is earlier n (Some copy) some at =
      let h = header_at n in
      placed (earlier ++ header_load access n ∷ []) (Copy copy) (in_copy earlier copy n (forwarded_moved access.spot h.state h.target copy some))

  header_ends : (last : LastStep) (o : Option Spot) → ForSome (end_of (in_copy_or access (at_place access Original) o)) (Ends last)
  header_ends last None = placed_ends last Original
  header_ends last (Some copy) = placed_ends last (Copy copy)

  begun_is : (earlier : List Taken) (n : ℕ) (b : Bool) → IsAt access Original 0 (earlier ++ header_load access n ∷ [])
      → Is (earlier ++ header_load access n ∷ []) (if b then in_copy_or access (at_place access Original) (forwarded access.spot n) else call.Ended access (call_end.Refused (refusal.NoField (len_at n))))
  begun_is earlier n true at = header_is earlier n (forwarded access.spot n) refl at
  begun_is earlier n false at = tt

  begun_ends : (earlier : List Taken) (n : ℕ) (b : Bool) → nat_lt access.spot.field (len_at n) ≡ b → IsFirst cycle earlier
      → ForSome (end_of (if b then in_copy_or access (at_place access Original) (forwarded access.spot n) else call.Ended access (call_end.Refused (refusal.NoField (len_at n))))) (Ends (record { earlier = earlier; step = Load access.spot.at; found = n }))
  begun_ends earlier n true e first = header_ends (record { earlier = earlier; step = Load access.spot.at; found = n }) (forwarded access.spot n)
  begun_ends earlier n false e first = λ end is.
      let last : LastStep = record { earlier = earlier; step = Load access.spot.at; found = n } in
      let none : call_end.Refused (refusal.NoField (len_at n)) ≡ end = cc in
      subst (Ends (record { earlier = earlier; step = Load access.spot.at; found = n })) none (record { first = first; header = refl; says = refl; past = ltb-false access.spot.field (len_at n) e })

  first_at : (earlier : List Taken) (n : ℕ) → IsFirst cycle earlier → IsAt access Original 0 (earlier ++ header_load access n ∷ [])
  first_at earlier n (inl none) = record { before = []; rest = earlier ++ header_load access n ∷ []; splits = refl; told = refl; count = rw none refl }
  first_at earlier n (inr phase) = record { before = []; rest = earlier ++ header_load access n ∷ []; splits = refl; told = refl; count = rw phase.1 refl }

  again_is : (earlier : List Taken) (wanted : ℕ) (next : Option TriesLeft) (n : ℕ) (o : Option Spot) → moved access.spot n ≡ o → AgainAt access earlier wanted next → Is (earlier ++ header_load access n ∷ []) (in_copy_or access (marked access wanted next) o)
  again_is earlier wanted next n None still again = marked_is earlier wanted next again n still
  again_is earlier wanted next n (Some copy) told again = placed (earlier ++ header_load access n ∷ []) (Copy copy) (in_copy earlier copy n told)

  again_ends : (earlier : List Taken) (wanted : ℕ) (next : Option TriesLeft) (n : ℕ) (o : Option Spot) → moved access.spot n ≡ o → AgainAt access earlier wanted next
      → ForSome (end_of (in_copy_or access (marked access wanted next) o)) (Ends (record { earlier = earlier; step = Load access.spot.at; found = n }))
  again_ends earlier wanted next n None still again = marked_ends earlier wanted next again n still
  again_ends earlier wanted next n (Some copy) told again = placed_ends (record { earlier = earlier; step = Load access.spot.at; found = n }) (Copy copy)

  -- ---- with the phase word

  phase_is : (n : ℕ) (b : Bool) → is_busy cycle n ≡ b → Is (record { step = Load phase_at; found = n } ∷ []) (if b then call.Ended access (call_end.Refused (refusal.Busy cycle access.mark)) else call.Header access)
  phase_is n true e = tt
  phase_is n false e = (refl, inr (n, refl, e))

  phase_ends : (n : ℕ) (b : Bool) → is_busy cycle n ≡ b → is_mark_word access.mark (word_of_action access.action) ≡ true
      → ForSome (end_of (if b then call.Ended access (call_end.Refused (refusal.Busy cycle access.mark)) else call.Header access)) (Ends (record { earlier = []; step = Load phase_at; found = n }))
  phase_ends n true e own = λ end is.
      let busy : call_end.Refused (refusal.Busy cycle access.mark) ≡ end = cc in
      subst (Ends (record { earlier = []; step = Load phase_at; found = n })) busy (record { first = refl; phase = refl; says = e; its_cycle = refl; its_mark = refl; own = own })
  phase_ends n false e own = λ end is. absurd cc

  -- ---- every step

  lost_look : (place : Place) (earlier : List Taken) (wanted : ℕ) (tries : TriesLeft) (n : ℕ) → (n == wanted) ≡ false → IsAt access place (done tries) earlier → serves access.action wanted ≡ true
      → Looked access place (record { earlier = earlier; step = Exchange (address_of access place) wanted (word_of_action access.action); found = n }) wanted (next_of tries)
  lost_look place earlier wanted tries n e at serve = inr (record { left = tries; step = refl; lost = eqb-false n wanted e; wanted_serves = serve; next_is = refl; at = at })

  tried_is : (place : Place) (earlier : List Taken) (wanted : ℕ) (tries : TriesLeft) (n : ℕ) (b : Bool) → (n == wanted) ≡ b → IsAt access place (done tries) earlier → serves access.action wanted ≡ true
      → Is (earlier ++ try_of access place wanted n ∷ []) (if b then made access else found_at access place wanted (next_of tries) n)
  tried_is place earlier wanted tries n true e at serve = tt
  tried_is place earlier wanted tries n false e at serve = found_is place _ wanted (next_of tries) (lost_look place earlier wanted tries n e at serve)

  tried_ends : (place : Place) (earlier : List Taken) (wanted : ℕ) (tries : TriesLeft) (n : ℕ) (b : Bool) → (n == wanted) ≡ b → IsAt access place (done tries) earlier → serves access.action wanted ≡ true
      → ForSome (end_of (if b then made access else found_at access place wanted (next_of tries) n)) (Ends (record { earlier = earlier; step = Exchange (address_of access place) wanted (word_of_action access.action); found = n }))
  tried_ends place earlier wanted tries n true e at serve = made_ends _ place (done tries) at (won place earlier wanted n e) (subst (λ (i : ℕ). serves access.action i ≡ true) (sym (eqb-true n wanted e)) serve)
  tried_ends place earlier wanted tries n false e at serve = found_ends place _ wanted (next_of tries) (lost_look place earlier wanted tries n e at serve)

  -- what is found in place of the mark is not the mark
  not_mark : (n : ℕ) → (n == access.mark) ≡ false → is_mark_word access.mark n ≡ false
  not_mark n e = by (is_mark_word access.mark n) refl
    where
      by : (b : Bool) → is_mark_word access.mark n ≡ b → b ≡ false
      by true is = absurd (eqb-false n access.mark e (mark_so access.mark n is).0)
      by false is = refl

  mark_is : (earlier : List Taken) (tries : TriesLeft) (n : ℕ) (b : Bool) → (n == access.mark) ≡ b → IsAt access Original (done tries) earlier → serves access.action access.mark ≡ true
      → Is (earlier ++ try_of access Original access.mark n ∷ []) (if b then made access else valued access Original access.mark (next_of tries) n)
  mark_is earlier tries n true e at serve = tt
  mark_is earlier tries n false e at serve = valued_is Original _ access.mark (next_of tries) (lost_look Original earlier access.mark tries n e at serve) (not_mark n e)

  mark_ends : (earlier : List Taken) (tries : TriesLeft) (n : ℕ) (b : Bool) → (n == access.mark) ≡ b → IsAt access Original (done tries) earlier → serves access.action access.mark ≡ true
      → ForSome (end_of (if b then made access else valued access Original access.mark (next_of tries) n)) (Ends (record { earlier = earlier; step = Exchange access.spot.place access.mark (word_of_action access.action); found = n }))
  mark_ends earlier tries n true e at serve = made_ends _ Original (done tries) at (won Original earlier access.mark n e) (subst (λ (i : ℕ). serves access.action i ≡ true) (sym (eqb-true n access.mark e)) serve)
  mark_ends earlier tries n false e at serve = valued_ends Original _ access.mark (next_of tries) (lost_look Original earlier access.mark tries n e at serve) (not_mark n e)

  loaded_look : (place : Place) (earlier : List Taken) (n : ℕ) → IsAt access place 0 earlier → Looked access place (record { earlier = earlier; step = Load (address_of access place); found = n }) n (Some Two)
  loaded_look place earlier n at = inl (record { step = refl; next_is = refl; at = at })

  -- with its own names for the call, the cycle and the address of the phase word
  keeps : (earlier : List Taken) (m : CloverCall) (n : ℕ) → Is earlier m → Is (up_to (step_of asks_of earlier m n)) (fed_of m n)
  keeps earlier (call.Phase its c at_phase) n is = rw (is.0, is.1, is.2, is.3) (phase_is n (is_busy cycle n) refl)
  keeps earlier (call.Header its) n is = rw is.0 (begun_is earlier n (nat_lt access.spot.field (len_at n)) (first_at earlier n is.1))
  keeps earlier (call.Load its place) n is = rw is.0 (found_is place _ n (Some Two) (loaded_look place earlier n is.1))
  keeps earlier (call.Store its place) n is = tt
  keeps earlier (call.Try its place wanted tries) n is = rw is.0 (tried_is place earlier wanted tries n (n == wanted) refl is.1 is.2)
  keeps earlier (call.Again its wanted next) n is = rw is.0 (again_is earlier wanted next n (moved access.spot n) refl is.1)
  keeps earlier (call.TryMark its tries) n is = rw is.0 (mark_is earlier tries n (n == access.mark) refl is.1 is.2)
  keeps earlier (call.Follow its f) n is = (is.0, follow_ends (IsLook access) access.phase earlier _ f n is.1)
  keeps earlier (call.Ended its end) n is = tt

  stored_ends : (earlier : List Taken) (place : Place) (n : ℕ) → IsAt access place 0 earlier → ForSome (end_of (call.Ended access call_end.Wrote)) (Ends (record { earlier = earlier; step = Store (address_of access place) (word_of_action access.action); found = n }))
  stored_ends earlier place n at end is =
      let wrote : call_end.Wrote ≡ end = cc in
      subst (Ends (record { earlier = earlier; step = Store (address_of access place) (word_of_action access.action); found = n })) wrote (record { place = place; tries = 0; at = at; how = inl refl })

  followed_ends : (earlier : List Taken) (f : FollowMachine) (n : ℕ) → IsFollowing (IsLook access) access.phase earlier f → follows.asks_of f ≢ Ended → ForSome (end_of (call.Follow access (follows.fed_of f n))) (Ends (step_of follows.asks_of earlier f n))
  followed_ends earlier (follow.Header birth at) n is on =
      let last : LastStep = step_of follows.asks_of earlier (follow.Header birth at) n in
      let look = is.look in
      for_mapped (λ e. found_end access.action e.word) (follows.end_of (follows.fed_of (follow.Header birth at) n)) (Ends (step_of follows.asks_of earlier (follow.Header birth at) n))
      (λ e gone. ends_held (step_of follows.asks_of earlier (follow.Header birth at) n) access.action e.word is.last.found look.came (inl (inr (link_followed (IsLook access) access.phase earlier (follow.Header birth at) n is on e gone))))
  followed_ends earlier (follow.Ended e) n is on = absurd (on refl)

  ends : (earlier : List Taken) (m : CloverCall) (n : ℕ) → Is earlier m → asks_of m ≢ Ended → ForSome (end_of (fed_of m n)) (Ends (step_of asks_of earlier m n))
  ends earlier (call.Phase its c at_phase) n is on = rw (is.0, is.1, is.2, is.3) (phase_ends n (is_busy cycle n) refl is.4)
  ends earlier (call.Header its) n is on = rw is.0 (begun_ends earlier n (nat_lt access.spot.field (len_at n)) refl is.1)
  ends earlier (call.Load its place) n is on = rw is.0 (found_ends place _ n (Some Two) (loaded_look place earlier n is.1))
  ends earlier (call.Store its place) n is on = rw is.0 (stored_ends earlier place n is.1)
  ends earlier (call.Try its place wanted tries) n is on = rw is.0 (tried_ends place earlier wanted tries n (n == wanted) refl is.1 is.2)
  ends earlier (call.Again its wanted next) n is on = rw is.0 (again_ends earlier wanted next n (moved access.spot n) refl is.1)
  ends earlier (call.TryMark its tries) n is on = rw is.0 (mark_ends earlier tries n (n == access.mark) refl is.1 is.2)
  ends earlier (call.Follow its f) n is on = rw is.0 (followed_ends earlier f n is.1 on)
  ends earlier (call.Ended its end) n is on = absurd (on refl)

  first_is : (b : Bool) → is_mark_word access.mark (word_of_action access.action) ≡ b → Is [] (if b then call.Phase access cycle phase_at else call.Header access)
  first_is true own = (refl, refl, refl, refl, own)
  first_is false not = (refl, inl refl)

  -- a call of a pass that has acknowledged this cycle ends only so
  pub call_cause_of : EndsOnlyFor asks_of fed_of end_of (CallEnds access cycle) (first_by access cycle)
  call_cause_of = ends_only_for asks_of fed_of end_of (CallEnds access cycle) Is keeps ends (first_by access cycle) (first_is (is_mark_word access.mark (word_of_action access.action)) refl)
