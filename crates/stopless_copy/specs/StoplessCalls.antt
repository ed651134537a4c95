-- Stopless's calls keep the laws of a copier.
use Rattle.std.proofs.Common.{◌≡◌, ◌≢◌, ℕ, ◌<◌, ◌≤◌, ◌⊎◌, inl, inr, refl, sym, subst, ◌∙◌, arith, Bool, true, false, if◌then◌else◌, Option, Some, None, List}
use Rattle.heap_words.specs.declared.field_word.FieldWord.{FieldWord}
use Rattle.wide_objects.specs.Statuses.{Status, InOriginal, InWide, InCopy}
use Rattle.heap_history.specs.FixedHeaps.{is_same}
use Rattle.heap_history.specs.NewestFirst.{value_at, Before}
use Rattle.heap_history.specs.NewestFirstLaws.{Before-refl}
use Rattle.heap_history.specs.declared.call.Call.{Call}
use Rattle.barriers.specs.declared.spot.Spot.{Spot}
use Rattle.barriers.specs.declared.front.Front.TheVariants.{Stays, Now}
use Rattle.barriers.specs.States.{State}
use Rattle.barriers.specs.Spaces.{Here, zone, Copied}
use Rattle.barriers.specs.Values.{value_of}
use Rattle.barriers.specs.Cycles.{Cycle, Side}
use Rattle.barriers.specs.Knowns.{Task, Reads, Writes, Exchanges, Known, Loads_header, Keeps, Loads, Stores, Swaps, Loads_wide, Swaps_wide, Loads_late, Loads_address, Loads_copy, Stores_copy, Swaps_copy, Follows, Over, Finds, Field_word, Wide_word, at_field, has_field, has_found, copy_of, wide_of, wide_front, finds, puts, wanted, looks, front, sees}
use Rattle.barriers.specs.Stances.{Stance}
use Rattle.barriers.specs.Protocols.{Wants, Answered, seen_after}
use Rattle.barriers.specs.ProtocolLaws.{At, StepEnd, CallLaws, GoesTo}
use Rattle.barriers.specs.PlainCalls.{no_field}
use Rattle.barriers.specs.PlainAnswerLaws.{lacking_none}
use Rattle.tagged_calls.specs.TaggedCalls.{tagged_fed}
use Rattle.tagged_calls.specs.TaggedTable.{MayStore, InTime}
use Rattle.tagged_calls.specs.TaggedTableLaws.{front_past, front_later}
use Rattle.tagged_calls.specs.TaggedCallLaws.{IsTaggedCall, IsHead, tagged_goes, tagged_head, tagged_inside, tagged_found, tagged_refused, tagged_answered, tagged_wants}
use Rattle.stopless_copy.specs.StoplessCloses.{stopless_closes}
use Rattle.stopless_copy.specs.StoplessTable.{stopless_fed, StoplessOwn, StoplessState, StoplessShape, stopless}
use Rattle.stopless_copy.specs.WideCallLaws.{goes_wide, IsWideCall, as_tagged, wide_goes, wide_headless, wide_whole}
use Rattle.stopless_copy.specs.StoplessCallLaws.{called, stays, step_makes, step_may, copy_zone}
use Rattle.stopless_copy.specs.StoplessStepLaws.{step_own, tells, wide_answered, wide_wants}

-- ---- where it is

aims : (c : Cycle) (side : Side) (x : Here) (k : Known) → StoplessOwn c side x k → (to : ℕ) → copy_of k ≡ Some to → (to ≡ x.to) × (zone c.mark x.state x.word x.status ≡ Copied)
aims c side x (Loads_copy z t at) own to is = let same : at ≡ to = cc in rw (← same) (own.2, copy_zone c.mark x at own)
aims c side x (Stores_copy z word at) own to is = let same : at ≡ to = cc in rw (← same) (own.2, copy_zone c.mark x at own)
aims c side x (Swaps_copy z t at v n) own to is = let same : at ≡ to = cc in rw (← same) (own.2, copy_zone c.mark x at own)
aims c side x k own to is = absurd cc

at_wide : (c : Cycle) (side : Side) (x : Here) (k : Known) → StoplessOwn c side x k → (wide : ℕ) → wide_of k ≡ Some wide → (wide ≡ x.wide) × (wide ≢ 0)
at_wide c side x (Loads_wide z t at) own wide is = let same : at ≡ wide = cc in rw (← same) (own.1, own.2)
at_wide c side x (Swaps_wide z t at u n) own wide is = let same : at ≡ wide = cc in rw (← same) (own.0.1, own.0.2)
at_wide c side x (Loads_late z t at) own wide is = let same : at ≡ wide = cc in rw (← same) (own.0.1, own.0.2)
at_wide c side x (Loads_address z t at) own wide is = let same : at ≡ wide = cc in rw (← same) (own.0.1, own.0.2)
at_wide c side x k own wide is = absurd cc

-- ---- what its looks see

now_later : (test : Bool) (seal : Option (List Call)) (h seen : List Call) → Before seen h → Before seen (front (if test then Stays else Now) seal h seen)
now_later true seal h seen past = Before-refl seen
now_later false seal h seen past = past

copy_later : (t : Task) (w : FieldWord) (h seen : List Call) (seal : Option (List Call)) → Before seen h → Before seen (front (sees t w Now) seal h seen)
copy_later Reads w h seen seal past = past
copy_later (Writes word) w h seen seal past = Before-refl seen
copy_later (Exchanges expected word) w h seen seal past = now_later (is_same (value_of w) expected) seal h seen past

wide_later : (u : Status) (h seen : List Call) (seal : Option (List Call)) → Before seen h → Before seen (front (wide_front (Wide_word u)) seal h seen)
wide_later InOriginal h seen seal past = past
wide_later (InWide w) h seen seal past = past
wide_later (InCopy w) h seen seal past = Before-refl seen

-- a look in the original is in time for the seal, or there is none
unsealed_time : (acked : Stance) (b f : ℕ) (x : Here) (y : State) (seen : List Call) → MayStore acked y → StoplessState b f x y → InTime x.seal seen
unsealed_time acked b f x y seen safe state = grind (arith, safe, state)

look_later : (c : Cycle) (side : Side) (h : List Call) (s : Spot) (x : Here) (w : FieldWord) (k : Known) → StoplessOwn c side x k → (has_field k ≡ true → StoplessShape c s.birth s.field x w) → Before side.seen h → Before side.seen (front (looks side.own k (finds c.phase x w k)) x.seal h side.seen)
look_later c side h s x w (Loads_header z t) own shape past = Before-refl side.seen
look_later c side h s x w (Keeps z t tagged) own shape past = Before-refl side.seen
look_later c side h s x w (Loads z Reads) own shape past = front_later (looks side.own (Loads z Reads) (Field_word x.word)) x.seal h side.seen past own
look_later c side h s x w (Loads z t) own shape past = let so = shape refl in front_later (looks side.own (Loads z t) (Field_word x.word)) x.seal h side.seen past (unsealed_time side.acked s.birth s.field x x.state side.seen own so.state)
look_later c side h s x w (Stores z word) own shape past = Before-refl side.seen
look_later c side h s x w (Swaps z t v n) own shape past = let so = shape refl in front_later (looks side.own (Swaps z t v n) (Field_word x.word)) x.seal h side.seen past (unsealed_time side.acked s.birth s.field x x.state side.seen own so.state)
look_later c side h s x w (Loads_wide z t wide) own shape past = wide_later x.status h side.seen x.seal past
look_later c side h s x w (Swaps_wide z t wide u n) own shape past = wide_later x.status h side.seen x.seal past
look_later c side h s x w (Loads_late z t wide) own shape past = Before-refl side.seen
look_later c side h s x w (Loads_address z t wide) own shape past = Before-refl side.seen
look_later c side h s x w (Loads_copy z t to) own shape past = copy_later t w h side.seen x.seal past
look_later c side h s x w (Stores_copy z word to) own shape past = Before-refl side.seen
look_later c side h s x w (Swaps_copy z t to v n) own shape past = copy_later t w h side.seen x.seal past
look_later c side h s x w (Follows z t m) own shape past = Before-refl side.seen
look_later c side h s x w (Over z t end) own shape past = Before-refl side.seen
look_later c side h s x w k own shape past = absurd own

-- ---- its step

-- what a call has found out, and where it goes
record Ends (side : Side) (h : List Call) (s : Spot) (x : Here) (k : Known) (found : Finds) (next : Known) : Type 0 where
  answered : Answered (seen_after (puts k found) side s k x found h) next
  wants : (v : FieldWord) → puts k found ≡ Some v → Wants (wanted k) (value_at h s.birth s.field)
  inside : has_field next ≡ true → s.field < x.len
  found_inside : has_found next ≡ true → s.field < x.len
  refused : (t : Task) (len : ℕ) → next ≡ no_field s t len → (len ≡ x.len) × (x.len ≤ s.field)
  head : IsHead Loads_wide goes_wide s x next

module _ (c : Cycle) (side : Side) (h : List Call) (s : Spot) (x : Here) (w : FieldWord) (k : Known) (a : At stopless c side h s x w k) where
  abbrev found : Finds
  found = finds c.phase x w k

  shaped : has_field k ≡ true → StoplessShape c s.birth s.field x w
  shaped has = a.shape (a.inside has)

  tagged_ends : IsTaggedCall k → Ends side h s x k found (tagged_fed Loads_wide side.acked k found)
  tagged_ends is =
      let told = tells c side s x w a.live a.target h k a.own is shaped (λ has. a.agrees (a.inside has)) in
      record {
        answered = tagged_answered Loads_wide goes_wide side.acked h side s x k found a.spot is told a.answered;
        wants = λ v put. tagged_wants Loads_wide goes_wide side.acked h side s x k found v is told a.answered put;
        inside = tagged_inside Loads_wide goes_wide side.acked c.phase s x w k a.spot is a.inside;
        found_inside = tagged_found Loads_wide goes_wide side.acked c.phase s x w k a.spot is a.inside;
        refused = λ t len so. tagged_refused Loads_wide goes_wide side.acked c.phase s x w k t len a.spot is so;
        head = tagged_head Loads_wide goes_wide side.acked c.phase s x w k a.spot is;
      }

  has_wide : (k : Known) → IsWideCall k → has_field k ≡ true
  has_wide (Loads_wide z t wide) is = refl
  has_wide (Swaps_wide z t wide u n) is = refl
  has_wide (Loads_late z t wide) is = refl
  has_wide (Loads_address z t wide) is = refl
  has_wide k is = absurd is

  wide_ends : IsWideCall k → Ends side h s x k found (stopless_fed side.acked side.own k found)
  wide_ends is =
      let has = has_wide k is in
      let lt = a.inside has in
      let so = a.shape lt in
      record {
        answered = wide_answered c side s x w a.live a.target h so.state (a.agrees lt) k a.spot is a.own;
        wants = λ v put. wide_wants c side s x w a.live a.target h so.state (a.agrees lt) k v is a.own put;
        inside = λ e. lt;
        found_inside = λ e. lt;
        refused = λ t len e. absurd (lacking_none (stopless_fed side.acked side.own k found) s t len (wide_whole side.acked side.own k found is) e);
        head = λ tagged e. absurd (let gone : None ≡ Some tagged = sym (wide_headless side.acked side.own k found is) ∙ e in cc);
      }

  ends_by : IsTaggedCall k ⊎ IsWideCall k → Ends side h s x k found (stopless_fed side.acked side.own k found)
  ends_by (inl is) = subst (Ends side h s x k found) (sym (as_tagged side.acked side.own k found is)) (tagged_ends is)
  ends_by (inr is) = wide_ends is

  step : ((past : List Call) → x.seal ≡ Some past → Before past h) → StepEnd stopless c side h s x k found
  step seals =
      let ends = ends_by (called c side x k s a.spot a.own) in
      record {
        makes = step_makes c side x k found a.own;
        may = step_may c side s.birth s.field x w k a.fits a.own shaped;
        own = step_own c side s x w a.live a.target h k a.spot a.own a.inside a.shape a.agrees;
        answered = ends.answered;
        wants = ends.wants;
        inside = ends.inside;
        found_inside = ends.found_inside;
        refused = ends.refused;
        head = ends.head;
        aim = aims c side x k a.own;
        wide = at_wide c side x k a.own;
        past = front_past (looks side.own k found) x.seal h side.seen a.past seals;
        later = look_later c side h s x w k a.own shaped a.past;
      }

goes : (c : Cycle) (side : Side) (x : Here) (k : Known) (s : Spot) (found : Finds) → at_field k ≡ Some s → StoplessOwn c side x k → GoesTo side.own k found (stopless_fed side.acked side.own k found)
goes c side x k s found at own = by (called c side x k s at own)
  where
    by : IsTaggedCall k ⊎ IsWideCall k → GoesTo side.own k found (stopless_fed side.acked side.own k found)
    by (inl is) = subst (GoesTo side.own k found) (sym (as_tagged side.acked side.own k found is)) (tagged_goes Loads_wide goes_wide side.acked side.own k found is)
    by (inr is) = wide_goes side.acked side.own k found is

bare_stays : (c : Cycle) (side : Side) (x y : Here) (k : Known) → has_field k ≡ false → StoplessOwn c side x k → StoplessOwn c side y k
bare_stays c side x y k bare own = grind (arith, bare, own)

pub stopless_calls : CallLaws stopless
stopless_calls = record {
  begin = λ c side x cycle s t live fits. tt;
  begin_at = λ acked cycle own s t. refl;
  begin_task = λ acked cycle own s t. refl;
  begin_bare = λ acked cycle own s t. refl;
  step = λ c side h s x w k seals a. step c side h s x w k a seals;
  goes = goes;
  closes = stopless_closes;
  bare = bare_stays;
  stays = λ c side h b f x w e k makes may dated past target fits shape own. stays c side h x e k makes may dated past fits own;
}
