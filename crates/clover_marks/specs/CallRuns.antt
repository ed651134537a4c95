-- A call does what is known of it.
use Rattle.std.specs.Prelude.{ℕ, ◌+◌}
use Rattle.std.proofs.Common.{◌≡◌, ◌≢◌, refl, sym, ap, subst, ◌∙◌, true, Option, Some, None}
use Rattle.call_steps.specs.declared.step.Step.TheVariants.{Load, Store, Exchange, Ended}
use Rattle.heap_words.specs.declared.field_word.FieldWord.{FieldWord}
use Rattle.heap_words.specs.FieldWords.{IsFieldWord, word_of, field_at}
use Rattle.handshakes.specs.declared.pass_view.PassView.{PassView}
use Rattle.handshakes.specs.declared.follow.FollowMachine.{FollowMachine}
use Rattle.handshakes.specs.declared.follow.FollowMachine.TheVariants as follow
use Rattle.handshakes.specs.Follows as follows
use Rattle.barriers.specs.declared.spot.Spot.{Spot}
use Rattle.barriers.specs.declared.front.Front.TheVariants.{Stays, Now, SealedOrNow}
use Rattle.barriers.specs.declared.ends.TryRefusal.TheVariants as refusal
use Rattle.barriers.specs.Stances.{Stance, stance_at, mark_in}
use Rattle.barriers.specs.Spaces.{Here}
use Rattle.barriers.specs.Says.{FitsTask, IsChange, IsPacked}
use Rattle.barriers.specs.Knowns.{Task, Writes, Known, Ending, Wrote, Follows, Over, Field_word, at_field, put_of, finds, looks, step_of, found_ending, followed}
use Rattle.barriers.specs.Kits.{Runs, Stands, IsFromSearch, own_of, ending_of, said_by, read_said, write_said, exchange_said}
use Rattle.clover_marks.specs.declared.access.Action.{Action}
use Rattle.clover_marks.specs.declared.access.Action.TheVariants as action
use Rattle.clover_marks.specs.declared.access.Access.{Access}
use Rattle.clover_marks.specs.declared.access.Place.TheVariants.{Original, Copy}
use Rattle.clover_marks.specs.declared.call.CallEnd.{CallEnd}
use Rattle.clover_marks.specs.declared.call.CallEnd.TheVariants as call_end
use Rattle.clover_marks.specs.declared.call.CloverCall.{CloverCall}
use Rattle.clover_marks.specs.declared.call.CloverCall.TheVariants as call
use Rattle.clover_marks.specs.Accesses.{word_of_action}
use Rattle.clover_marks.specs.Calls.{asks_of, fed_of, end_of, front, in_copy_or, marked, found_end}
use Rattle.clover_marks.specs.CallEnds.{read_end_of, write_end_of, exchange_end_of, once, read_ended, write_ended, exchange_ended}
use Rattle.clover_marks.specs.CloverTable.{clover_fed, clover}
use Rattle.clover_marks.specs.CloverKnowing.{task_in, ending, knows, IsPackedAction, IsWrite, CallsFor}
use Rattle.clover_marks.specs.MarkLaws.{moved_found}
use Rattle.clover_marks.specs.CallBecomes.{Becomes, load_so, load_copy_so, swap_so, swap_copy_so, swap_mark_so, header_so, again_so, phase_so, look_copy_so, look_original_so}

-- ---- the step that it asks for

-- the word to write is the one that is known of it
put_word : (a : Action) → IsPackedAction a → IsChange (task_in a) → word_of_action a ≡ word_of (put_of (task_in a))
put_word action.Read packed change = absurd change
put_word (action.Write word) packed change = packed.same
put_word (action.Exchange expected word) packed change = packed.same

store_word : (a : Action) → IsPackedAction a → IsWrite a → word_of_action a ≡ word_of (field_at (word_of_action a))
store_word action.Read packed write = absurd write
store_word (action.Write word) packed write = packed.same
store_word (action.Exchange expected word) packed write = absurd write

swap_asks : (at want put at_known want_known put_known : ℕ) → at ≡ at_known → want ≡ want_known → put ≡ put_known → Exchange at want put ≡ Exchange at_known want_known put_known
swap_asks at want put at_known want_known put_known same wants puts = rw (same, wants, puts) refl

call_asks : (v : PassView) (m : CloverCall) → CallsFor v m → asks_of m ≡ step_of (knows m)
call_asks v (call.Phase access cycle at_phase) for = ap Load for.2
call_asks v (call.Header access) for = refl
call_asks v (call.Load access Original) for = refl
call_asks v (call.Load access (Copy copy)) for = ap Load for.1
call_asks v (call.Store access Original) for = let begun = for.0 in let is = begun.its in ap (Store access.spot.place) (store_word access.action is.packed for.2)
call_asks v (call.Store access (Copy copy)) for =
    let begun = for.0 in
    let is = begun.its in
    ap (λ (at : ℕ). Store at (word_of_action access.action)) for.1 ∙ ap (Store (copy.at + 1 + access.spot.field)) (store_word access.action is.packed for.2)
call_asks v (call.Try access Original wanted tries) for =
    let begun = for.0 in
    let is = begun.its in
    let packed = for.2 in
    swap_asks access.spot.place wanted (word_of_action access.action) _ _ _ refl packed.same (put_word access.action is.packed for.3)
call_asks v (call.Try access (Copy copy) wanted tries) for =
    let begun = for.0 in
    let is = begun.its in
    let packed = for.2 in
    swap_asks copy.place wanted (word_of_action access.action) _ _ _ for.1 packed.same (put_word access.action is.packed for.3)
call_asks v (call.Again access wanted next) for = refl
call_asks v (call.TryMark access tries) for =
    let begun = for.0 in
    let is = begun.its in
    let mark = for.1 in
    let packed = mark.packed in
    swap_asks access.spot.place access.mark (word_of_action access.action) _ _ _ refl packed.same (put_word access.action is.packed for.2)
call_asks v (call.Follow access (follow.Header birth at)) for = refl
call_asks v (call.Follow access (follow.Ended end)) for = refl
call_asks v (call.Ended access end) for = refl

-- ---- how it goes on

write_task : (a : Action) → IsWrite a → task_in a ≡ Writes (field_at (word_of_action a))
write_task action.Read write = absurd write
write_task (action.Write word) write = refl
write_task (action.Exchange expected word) write = absurd write

nowhere : (access : Access) (at : Spot) (its : FollowMachine) → at_field (followed access.spot (task_in access.action) its) ≡ Some at → ⊥
nowhere access at (follow.Header birth place) e = cc
nowhere access at (follow.Ended end) e = cc

-- with its own mark for its pass's
by_pass : (v : PassView) (mark : ℕ) (m : CloverCall) (next : Option FieldWord → Known) → mark ≡ v.mark → Becomes v m (next (mark_in mark)) → Becomes v m (next (own_of true v))
by_pass v mark m next same becomes = subst (λ (i : ℕ). Becomes v m (next (mark_in i))) same becomes

call_goes : (v : PassView) (m : CloverCall) (p : Stance) (x : Here) (copy : FieldWord) (n : ℕ) → Stands knows CallsFor v m p x copy n → Becomes v (fed_of m n) (clover_fed (stance_at v.acked) (own_of true v) (knows m) (finds p x copy (knows m)))
call_goes v (call.Phase access cycle at_phase) p x copy n stands =
    let own = stands.own in
    let is = own.0 in
    let mark = own.4 in
    let some : v.mark ≢ 0 = subst (λ (i : ℕ). i ≢ 0) is.mark mark.some in
    let current = stands.current some in
    phase_so v access.spot access.mark access.phase access.action cycle n p is stands.word (current.0 ∙ sym own.1) (subst IsFromSearch stands.word current.1) (sym own.3 ∙ put_word access.action is.packed own.5)
call_goes v (call.Header access) p x copy n stands =
    let is = stands.own in
    by_pass v access.mark _ (λ own. clover_fed (stance_at v.acked) own (knows (call.Header access)) (finds p x copy (knows (call.Header access)))) is.mark
    (header_so v access.spot access.mark access.phase access.action x.state x.colour x.len n stands.word is)
call_goes v (call.Load access Original) p x copy n stands =
    let own = stands.own in
    let begun = own.0 in
    let is = begun.its in
    by_pass v access.mark _ (λ o. clover_fed (stance_at v.acked) o (knows (call.Load access Original)) (finds p x copy (knows (call.Load access Original)))) is.mark
    (load_so v access.spot access.mark access.phase x.word n stands.word access.action begun)
call_goes v (call.Load access (Copy there)) p x copy n stands =
    let own = stands.own in
    load_copy_so v access.spot access.mark access.phase copy n stands.word access.action there own.0 own.1
call_goes v (call.Store access Original) p x copy n stands = let own = stands.own in let begun = own.0 in (ap (λ (t : Task). Over access.spot t Wrote) (write_task access.action own.2), begun.its)
call_goes v (call.Store access (Copy there)) p x copy n stands = let own = stands.own in let begun = own.0 in (ap (λ (t : Task). Over access.spot t Wrote) (write_task access.action own.2), begun.its)
call_goes v (call.Try access Original wanted tries) p x copy n stands =
    let own = stands.own in
    let begun = own.0 in
    let is = begun.its in
    by_pass v access.mark _ (λ o. clover_fed (stance_at v.acked) o (knows (call.Try access Original wanted tries)) (finds p x copy (knows (call.Try access Original wanted tries)))) is.mark
    (swap_so v access.spot access.mark access.phase x.word n stands.word access.action wanted begun own.2 own.3 tries)
call_goes v (call.Try access (Copy there) wanted tries) p x copy n stands =
    let own = stands.own in
    swap_copy_so v access.spot access.mark access.phase copy n stands.word access.action wanted own.0 own.2 own.3 there own.1 tries
call_goes v (call.Again access wanted next) p x copy n stands =
    let own = stands.own in
    let begun = own.0 in
    let is = begun.its in
    by_pass v access.mark _ (λ o. clover_fed (stance_at v.acked) o (knows (call.Again access wanted next)) (finds p x copy (knows (call.Again access wanted next)))) is.mark
    (subst (λ (o : Option Spot). Becomes v (in_copy_or access (marked access wanted next) o) (clover_fed (stance_at v.acked) (mark_in access.mark) (knows (call.Again access wanted next)) (finds p x copy (knows (call.Again access wanted next)))))
    (sym (moved_found access.spot.birth x.state x.colour x.len n stands.word access.spot))
    (again_so v access.spot access.mark access.phase access.action wanted next x.state begun own.1 own.2))
call_goes v (call.TryMark access tries) p x copy n stands =
    let own = stands.own in
    let begun = own.0 in
    let is = begun.its in
    let mark = own.1 in
    by_pass v access.mark _ (λ o. clover_fed (stance_at v.acked) o (knows (call.TryMark access tries)) (finds p x copy (knows (call.TryMark access tries)))) is.mark
    (swap_mark_so v access.spot access.mark access.phase x.word n stands.word access.action access.mark begun mark.packed own.2 refl mark tries)
call_goes v (call.Follow access its) p x copy n stands = absurd (nowhere access stands.spot its stands.at)
call_goes v (call.Ended access end) p x copy n stands = absurd (let gone : None ≡ Some stands.spot = stands.at in cc)

-- ---- what its pass sees

call_looks : (v : PassView) (m : CloverCall) (p : Stance) (x : Here) (copy : FieldWord) (n : ℕ) → Stands knows CallsFor v m p x copy n → front m n ≡ looks (own_of true v) (knows m) (finds p x copy (knows m))
call_looks v (call.Phase access cycle at_phase) p x copy n stands = refl
call_looks v (call.Header access) p x copy n stands = refl
call_looks v (call.Load access Original) p x copy n stands =
    let own = stands.own in
    let begun = own.0 in
    let is = begun.its in
    subst (λ (i : ℕ). front (call.Load access Original) n ≡ looks (mark_in i) (knows (call.Load access Original)) (Field_word x.word)) is.mark
    (look_original_so v access.spot access.mark access.phase x.word n stands.word access.action SealedOrNow)
call_looks v (call.Load access (Copy there)) p x copy n stands = look_copy_so v access.spot access.mark access.phase copy n stands.word access.action
call_looks v (call.Store access Original) p x copy n stands = refl
call_looks v (call.Store access (Copy there)) p x copy n stands = refl
call_looks v (call.Try access Original wanted tries) p x copy n stands =
    let own = stands.own in
    let begun = own.0 in
    let is = begun.its in
    subst (λ (i : ℕ). front (call.Try access Original wanted tries) n ≡ looks (mark_in i) (knows (call.Try access Original wanted tries)) (Field_word x.word)) is.mark
    (look_original_so v access.spot access.mark access.phase x.word n stands.word access.action Now)
call_looks v (call.Try access (Copy there) wanted tries) p x copy n stands = look_copy_so v access.spot access.mark access.phase copy n stands.word access.action
call_looks v (call.Again access wanted next) p x copy n stands = refl
call_looks v (call.TryMark access tries) p x copy n stands =
    let own = stands.own in
    let begun = own.0 in
    let is = begun.its in
    subst (λ (i : ℕ). front (call.TryMark access tries) n ≡ looks (mark_in i) (knows (call.TryMark access tries)) (Field_word x.word)) is.mark
    (look_original_so v access.spot access.mark access.phase x.word n stands.word access.action Now)
call_looks v (call.Follow access its) p x copy n stands = absurd (nowhere access stands.spot its stands.at)
call_looks v (call.Ended access end) p x copy n stands = refl

-- ---- after it has what it came for

call_follows : (v : PassView) (m : CloverCall) (s : Spot) (t : Task) (f : FollowMachine) (n : ℕ) → CallsFor v m → knows m ≡ Follows s t f → (knows (fed_of m n) ≡ followed s t (follows.fed_of f n)) × CallsFor v (fed_of m n) × (front m n ≡ Stays)
call_follows v (call.Phase access cycle at_phase) s t f n for is = absurd cc
call_follows v (call.Header access) s t f n for is = absurd cc
call_follows v (call.Load access Original) s t f n for is = absurd cc
call_follows v (call.Load access (Copy copy)) s t f n for is = absurd cc
call_follows v (call.Store access Original) s t f n for is = absurd cc
call_follows v (call.Store access (Copy copy)) s t f n for is = absurd cc
call_follows v (call.Try access Original wanted tries) s t f n for is = absurd cc
call_follows v (call.Try access (Copy copy) wanted tries) s t f n for is = absurd cc
call_follows v (call.Again access wanted next) s t f n for is = absurd cc
call_follows v (call.TryMark access tries) s t f n for is = absurd cc
call_follows v (call.Follow access (follow.Header birth at)) s t f n for is =
    let spots : access.spot ≡ s = cc in
    let tasks : task_in access.action ≡ t = cc in
    let machines : follow.Header birth at ≡ f = cc in
    (cc, for, refl)
call_follows v (call.Follow access (follow.Ended end)) s t f n for is = absurd cc
call_follows v (call.Ended access end) s t f n for is = absurd cc

call_over : (v : PassView) (m : CloverCall) → CallsFor v m → asks_of m ≡ Ended → (s : Spot) × (t : Task) × (end : Ending) × (knows m ≡ Over s t end)
call_over v (call.Phase access cycle at_phase) for is = absurd cc
call_over v (call.Header access) for is = absurd cc
call_over v (call.Load access place) for is = absurd cc
call_over v (call.Store access place) for is = absurd cc
call_over v (call.Try access place wanted tries) for is = absurd cc
call_over v (call.Again access wanted next) for is = absurd cc
call_over v (call.TryMark access tries) for is = absurd cc
call_over v (call.Follow access (follow.Header birth at)) for is = absurd cc
call_over v (call.Follow access (follow.Ended end)) for is = (access.spot, task_in access.action, found_ending (task_in access.action) end.word, refl)
call_over v (call.Ended access end) for is = (access.spot, task_in access.action, ending end, refl)

-- what it ends with that came for a word
found_tells : (a : Action) (w : FieldWord) → ending (found_end a w) ≡ found_ending (task_in a) w
found_tells action.Read w = refl
found_tells (action.Write word) w = refl
found_tells (action.Exchange expected word) w = refl

module _ {E : Type 0} (said : CallEnd → Option E) (told : Ending → Option E) (same : (end : CallEnd) → said end ≡ told (ending end)) where
  call_tells : (m : CloverCall) → once said (end_of m) ≡ said_by told (ending_of (knows m))
  call_tells (call.Phase access cycle at_phase) = refl
  call_tells (call.Header access) = refl
  call_tells (call.Load access Original) = refl
  call_tells (call.Load access (Copy copy)) = refl
  call_tells (call.Store access Original) = refl
  call_tells (call.Store access (Copy copy)) = refl
  call_tells (call.Try access Original wanted tries) = refl
  call_tells (call.Try access (Copy copy) wanted tries) = refl
  call_tells (call.Again access wanted next) = refl
  call_tells (call.TryMark access tries) = refl
  call_tells (call.Follow access (follow.Header birth at)) = refl
  call_tells (call.Follow access (follow.Ended end)) = same (found_end access.action end.word) ∙ ap told (found_tells access.action end.word)
  call_tells (call.Ended access end) = same end

read_tells : (end : CallEnd) → read_end_of end ≡ read_said (ending end)
read_tells (call_end.Got word) = refl
read_tells call_end.Wrote = refl
read_tells call_end.Done = refl
read_tells (call_end.Differs word) = refl
read_tells (call_end.Refused refusal.NotLink) = refl
read_tells (call_end.Refused (refusal.NoField len)) = refl
read_tells (call_end.Refused (refusal.Raced loaded found)) = refl
read_tells (call_end.Refused (refusal.Busy cycle mark)) = refl

write_tells : (end : CallEnd) → write_end_of end ≡ write_said (ending end)
write_tells (call_end.Got word) = refl
write_tells call_end.Wrote = refl
write_tells call_end.Done = refl
write_tells (call_end.Differs word) = refl
write_tells (call_end.Refused why) = refl

exchange_tells : (end : CallEnd) → exchange_end_of end ≡ exchange_said (ending end)
exchange_tells (call_end.Got word) = refl
exchange_tells call_end.Wrote = refl
exchange_tells call_end.Done = refl
exchange_tells (call_end.Differs word) = refl
exchange_tells (call_end.Refused why) = refl

-- ---- the words that it holds

fits_task : (a : Action) → IsPackedAction a → FitsTask (task_in a)
fits_task action.Read packed = tt
fits_task (action.Write word) packed = packed.fits
fits_task (action.Exchange expected word) packed = packed.fits

fits_word : (a : Action) → IsPackedAction a → IsWrite a → IsFieldWord (field_at (word_of_action a))
fits_word action.Read packed write = absurd write
fits_word (action.Write word) packed write = packed.fits
fits_word (action.Exchange expected word) packed write = absurd write

call_packed : (v : PassView) (m : CloverCall) → CallsFor v m → IsPacked (knows m)
call_packed v (call.Phase access cycle at_phase) for = let is = for.0 in record { task = fits_task access.action is.packed; from = tt }
call_packed v (call.Header access) for = record { task = fits_task access.action for.packed; from = tt }
call_packed v (call.Load access Original) for = let begun = for.0 in let is = begun.its in record { task = fits_task access.action is.packed; from = tt }
call_packed v (call.Load access (Copy copy)) for = let begun = for.0 in let is = begun.its in record { task = fits_task access.action is.packed; from = tt }
call_packed v (call.Store access Original) for = let begun = for.0 in let is = begun.its in record { task = fits_word access.action is.packed for.2; from = tt }
call_packed v (call.Store access (Copy copy)) for = let begun = for.0 in let is = begun.its in record { task = fits_word access.action is.packed for.2; from = tt }
call_packed v (call.Try access Original wanted tries) for = let begun = for.0 in let is = begun.its in let packed = for.2 in record { task = fits_task access.action is.packed; from = (packed.fits, for.3) }
call_packed v (call.Try access (Copy copy) wanted tries) for = let begun = for.0 in let is = begun.its in let packed = for.2 in record { task = fits_task access.action is.packed; from = (packed.fits, for.3) }
call_packed v (call.Again access wanted next) for = let begun = for.0 in let is = begun.its in record { task = fits_task access.action is.packed; from = tt }
call_packed v (call.TryMark access tries) for = let begun = for.0 in let is = begun.its in let mark = for.1 in let packed = mark.packed in record { task = fits_task access.action is.packed; from = (packed.fits, for.2) }
call_packed v (call.Follow access (follow.Header birth at)) for = record { task = fits_task access.action for.packed; from = tt }
call_packed v (call.Follow access (follow.Ended end)) for = record { task = fits_task access.action for.packed; from = tt }
call_packed v (call.Ended access end) for = record { task = fits_task access.action for.packed; from = tt }

-- ---- the three kinds of calls

-- one that tells its end so
abbrev pub Running : {E : Type 0} → (CloverCall → Option E) → (Ending → Option E) → Type 0
Running ended told = Runs clover (own_of true) asks_of fed_of front knows CallsFor ended told

pub clover_reading : Running read_ended read_said
clover_reading = record {
  asks_alike = call_asks;
  goes = call_goes;
  looks_alike = call_looks;
  follows_on = call_follows;
  over = call_over;
  tells = call_tells read_end_of read_said read_tells;
  packed = call_packed;
}

pub clover_writing : Running write_ended write_said
clover_writing = record {
  asks_alike = call_asks;
  goes = call_goes;
  looks_alike = call_looks;
  follows_on = call_follows;
  over = call_over;
  tells = call_tells write_end_of write_said write_tells;
  packed = call_packed;
}

pub clover_exchanging : Running exchange_ended exchange_said
clover_exchanging = record {
  asks_alike = call_asks;
  goes = call_goes;
  looks_alike = call_looks;
  follows_on = call_follows;
  over = call_over;
  tells = call_tells exchange_end_of exchange_said exchange_tells;
  packed = call_packed;
}
