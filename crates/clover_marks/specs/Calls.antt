-- One try of a call: a read, a write or an exchange of a field.
use Rattle.std.specs.Prelude.{◌≡◌, ◌≢◌, ℕ, ◌-◌, ◌<◌, ◌≤◌, ◌==◌, ◌&&◌, nat_lt, if◌then◌else◌, Bool, true, false, Option, Some, None, option_map, refl}
use Rattle.std.proofs.Common.{arith, ap, lit<, lit≤}
use Rattle.call_steps.specs.declared.step.Step.{Step}
use Rattle.call_steps.specs.declared.step.Step.TheVariants.{Load, Store, Exchange, Ended}
use Rattle.heap_words.specs.Layouts.{phase_at}
use Rattle.heap_words.specs.declared.field_word.FieldWord.{FieldWord}
use Rattle.heap_words.specs.FieldWords.{field_at}
use Rattle.object_headers.specs.Headers.{header_at}
use Rattle.handshakes.specs.declared.pass_view.PassView.{PassView}
use Rattle.handshakes.specs.declared.phase_word.Phase.{Phase}
use Rattle.handshakes.specs.declared.phase_word.Phase.TheVariants as phases
use Rattle.handshakes.specs.PhaseWords.{phase_word_at}
use Rattle.handshakes.specs.Follows as follows
use Rattle.barriers.specs.declared.spot.Spot.{Spot}
use Rattle.barriers.specs.declared.front.Front.{Front}
use Rattle.barriers.specs.declared.front.Front.TheVariants.{Stays, Now, SealedOrNow}
use Rattle.barriers.specs.declared.ends.TryRefusal.TheVariants.{NoField, Raced, Busy}
use Rattle.barriers.specs.declared.plain_exchange.TriesLeft.{TriesLeft}
use Rattle.barriers.specs.declared.plain_exchange.TriesLeft.TheVariants.{Two, One, Zero}
use Rattle.barriers.specs.Spots.{spot_of}
use Rattle.clover_marks.specs.declared.access.Action.{Action}
use Rattle.clover_marks.specs.declared.access.Action.TheVariants as action
use Rattle.clover_marks.specs.declared.access.Access.{Access}
use Rattle.clover_marks.specs.declared.access.Place.{Place}
use Rattle.clover_marks.specs.declared.access.Place.TheVariants.{Original, Copy}
use Rattle.clover_marks.specs.declared.call.CallEnd.{CallEnd}
use Rattle.clover_marks.specs.declared.call.CallEnd.TheVariants as call_end
use Rattle.clover_marks.specs.declared.call.CloverCall.{CloverCall}
use Rattle.clover_marks.specs.declared.call.CloverCall.TheVariants as call
use Rattle.clover_marks.specs.Accesses.{word_of_action, serves, is_mark_word, address_of, forwarded, moved}

-- ---- how it begins

-- where the word to write is the mark, with the phase word, and else with the header
abbrev pub first_by : Access → ℕ → CloverCall
first_by access cycle = if is_mark_word access.mark (word_of_action access.action) then call.Phase access cycle phase_at else call.Header access

abbrev pub access_of : PassView → Spot → Action → Access
access_of v spot act = record { spot = spot; action = act; mark = v.mark; phase = (let w = phase_word_at v.acked in w.phase) }

abbrev pub first : PassView → Spot → Action → CloverCall
first v spot act = first_by (access_of v spot act) (let w = phase_word_at v.acked in w.cycle)

abbrev pub begun : PassView → ℕ → ℕ → ℕ → Action → CloverCall
begun v birth at field act = first v (spot_of birth at field) act

-- ---- the phase word

-- while objects are copied and while links are fixed values may be moving
abbrev pub is_moving_phase : Phase → Bool
is_moving_phase phases.Copy = true
is_moving_phase phases.Fix = true
is_moving_phase phase = false

abbrev pub is_busy : ℕ → ℕ → Bool
is_busy cycle word = let w = phase_word_at word in w.cycle == cycle && is_moving_phase w.phase

-- ---- at the word of its field

-- a write stores where there is no mark, and in the copy
abbrev pub stores : Action → Place → ℕ → Bool
stores (action.Write word) Original mark = mark == 0
stores (action.Write word) (Copy copy) mark = true
stores act place mark = false

abbrev pub at_place : Access → Place → CloverCall
at_place access place = if stores access.action place access.mark then call.Store access place else call.Load access place

-- in the copy, if there is one
abbrev pub in_copy_or : Access → CloverCall → Option Spot → CloverCall
in_copy_or access here None = here
in_copy_or access here (Some copy) = at_place access (Copy copy)

-- with the header at hand
abbrev pub begun_by : Access → ℕ → CloverCall
begun_by access header =
    let h = header_at header in
    if nat_lt access.spot.field h.len
    then in_copy_or access (at_place access Original) (forwarded access.spot header)
    else call.Ended access (call_end.Refused (NoField h.len))

-- ---- with the word that it found there

-- the word is what the call came for
abbrev pub followed : Access → ℕ → CloverCall
followed access word = call.Follow access (follows.follow_of access.phase (field_at word))

abbrev pub raced : Access → ℕ → ℕ → CloverCall
raced access loaded found = call.Ended access (call_end.Refused (Raced loaded found))

-- the tries left with the next exchange, if there is one
abbrev pub next_of : TriesLeft → Option TriesLeft
next_of Two = Some One
next_of One = Some Zero
next_of Zero = None

-- it exchanges the word, if there is a try left
abbrev pub try_by : (TriesLeft → CloverCall) → CloverCall → Option TriesLeft → CloverCall
try_by exchange over None = over
try_by exchange over (Some tries) = exchange tries

abbrev pub valued_by : Access → (TriesLeft → CloverCall) → ℕ → Option TriesLeft → ℕ → CloverCall
valued_by access exchange wanted next found = if serves access.action found then try_by exchange (raced access wanted found) next else followed access found

-- the word is the value, where it wanted another one
abbrev pub valued : Access → Place → ℕ → Option TriesLeft → ℕ → CloverCall
valued access place wanted next found = valued_by access (call.Try access place found) wanted next found

-- the mark is the value in the original
abbrev pub marked : Access → ℕ → Option TriesLeft → CloverCall
marked access wanted next = valued_by access (call.TryMark access) wanted next access.mark

-- in the original it may be the mark
abbrev pub found_at : Access → Place → ℕ → Option TriesLeft → ℕ → CloverCall
found_at access Original wanted next found = if is_mark_word access.mark found then call.Again access wanted next else valued access Original wanted next found
found_at access (Copy copy) wanted next found = valued access (Copy copy) wanted next found

-- an exchange that won
abbrev pub made_end : Action → CallEnd
made_end (action.Exchange expected word) = call_end.Done
made_end act = call_end.Wrote

abbrev pub made : Access → CloverCall
made access = call.Ended access (made_end access.action)

-- ---- the machine

-- the step that it takes next
abbrev pub asks_of : CloverCall → Step
asks_of (call.Phase access cycle at_phase) = Load at_phase
asks_of (call.Header access) = Load access.spot.at
asks_of (call.Load access place) = Load (address_of access place)
asks_of (call.Store access place) = Store (address_of access place) (word_of_action access.action)
asks_of (call.Try access place wanted tries) = Exchange (address_of access place) wanted (word_of_action access.action)
asks_of (call.Again access wanted next) = Load access.spot.at
asks_of (call.TryMark access tries) = Exchange access.spot.place access.mark (word_of_action access.action)
asks_of (call.Follow access its) = follows.asks_of its
asks_of (call.Ended access end) = Ended

-- what it is after it was fed a word
abbrev pub fed_of : CloverCall → ℕ → CloverCall
fed_of (call.Phase access cycle at_phase) found = if is_busy cycle found then call.Ended access (call_end.Refused (Busy cycle access.mark)) else call.Header access
fed_of (call.Header access) found = begun_by access found
fed_of (call.Load access place) found = found_at access place found (Some Two) found
fed_of (call.Store access place) found = call.Ended access call_end.Wrote
fed_of (call.Try access place wanted tries) found = if found == wanted then made access else found_at access place wanted (next_of tries) found
fed_of (call.Again access wanted next) found = in_copy_or access (marked access wanted next) (moved access.spot found)
fed_of (call.TryMark access tries) found = if found == access.mark then made access else valued access Original access.mark (next_of tries) found
fed_of (call.Follow access its) found = call.Follow access (follows.fed_of its found)
fed_of (call.Ended access end) found = call.Ended access end

-- what a call ends with that came for this word; a write comes for none
abbrev pub found_end : Action → FieldWord → CallEnd
found_end action.Read word = call_end.Got word
found_end (action.Write put) word = call_end.Wrote
found_end (action.Exchange expected put) word = call_end.Differs word

-- what it ended with
abbrev pub end_of : CloverCall → Option CallEnd
end_of (call.Follow access its) = option_map (λ e. found_end access.action e.word) (follows.end_of its)
end_of (call.Ended access end) = Some end
end_of m = None

-- ---- what its pass sees

-- a word that is the field's is seen where the call came for it
abbrev pub seen : Access → ℕ → Front → Front
seen access found front = if serves access.action found then Stays else front

-- the mark is seen, whatever the call becomes
abbrev pub seen_in_original : Access → ℕ → Front → Front
seen_in_original access found front = if is_mark_word access.mark found then front else seen access found front

abbrev pub front : CloverCall → ℕ → Front
front (call.Load access Original) found = seen_in_original access found SealedOrNow
front (call.Load access (Copy copy)) found = seen access found Now
front (call.Try access Original wanted tries) found = seen_in_original access found Now
front (call.Try access (Copy copy) wanted tries) found = seen access found Now
front (call.TryMark access tries) found = seen_in_original access found Now
front m found = Stays

-- ---- how many steps are left at most, 4 of them to follow

abbrev pub left_in_copy : TriesLeft → ℕ
left_in_copy Two = 7
left_in_copy One = 6
left_in_copy Zero = 5

abbrev pub left_in_original : TriesLeft → ℕ
left_in_original Two = 13
left_in_original One = 11
left_in_original Zero = 10

-- what an exchange of the mark finds that loses is not the mark
abbrev pub left_of_mark : TriesLeft → ℕ
left_of_mark Two = 12
left_of_mark One = 11
left_of_mark Zero = 5

abbrev pub left_again : Option TriesLeft → ℕ
left_again None = 9
left_again (Some Zero) = 9
left_again (Some One) = 12
left_again (Some Two) = 13

abbrev pub left_of : CloverCall → ℕ
left_of (call.Phase access cycle at_phase) = 16
left_of (call.Header access) = 15
left_of (call.Load access Original) = 14
left_of (call.Load access (Copy copy)) = 8
left_of (call.Store access place) = 1
left_of (call.Try access Original wanted tries) = left_in_original tries
left_of (call.Try access (Copy copy) wanted tries) = left_in_copy tries
left_of (call.Again access wanted next) = left_again next
left_of (call.TryMark access tries) = left_of_mark tries
left_of (call.Follow access its) = follows.left_of its
left_of (call.Ended access end) = 0

-- ---- what a machine of a call promises

pub blind_of : (m : CloverCall) (at put n : ℕ) → asks_of m ≡ Store at put → fed_of m n ≡ fed_of m 0
blind_of (call.Phase access cycle at_phase) at put n e = absurd cc
blind_of (call.Header access) at put n e = absurd cc
blind_of (call.Load access place) at put n e = absurd cc
blind_of (call.Store access place) at put n e = refl
blind_of (call.Try access place wanted tries) at put n e = absurd cc
blind_of (call.Again access wanted next) at put n e = absurd cc
blind_of (call.TryMark access tries) at put n e = absurd cc
blind_of (call.Follow access its) at put n e = ap (call.Follow access) (follows.blind_of its at put n e)
blind_of (call.Ended access end) at put n e = refl

pub none_left_of : (m : CloverCall) → asks_of m ≡ Ended → left_of m ≡ 0
none_left_of (call.Phase access cycle at_phase) e = absurd cc
none_left_of (call.Header access) e = absurd cc
none_left_of (call.Load access place) e = absurd cc
none_left_of (call.Store access place) e = absurd cc
none_left_of (call.Try access place wanted tries) e = absurd cc
none_left_of (call.Again access wanted next) e = absurd cc
none_left_of (call.TryMark access tries) e = absurd cc
none_left_of (call.Follow access its) e = follows.none_left_of its e
none_left_of (call.Ended access end) e = refl

some_in_copy : (tries : TriesLeft) → 5 ≤ left_in_copy tries
some_in_copy Two = lit≤ tt
some_in_copy One = lit≤ tt
some_in_copy Zero = lit≤ tt

some_in_original : (tries : TriesLeft) → 10 ≤ left_in_original tries
some_in_original Two = lit≤ tt
some_in_original One = lit≤ tt
some_in_original Zero = lit≤ tt

some_of_mark : (tries : TriesLeft) → 5 ≤ left_of_mark tries
some_of_mark Two = lit≤ tt
some_of_mark One = lit≤ tt
some_of_mark Zero = lit≤ tt

some_again : (next : Option TriesLeft) → 9 ≤ left_again next
some_again None = lit≤ tt
some_again (Some Zero) = lit≤ tt
some_again (Some One) = lit≤ tt
some_again (Some Two) = lit≤ tt

pub some_left_of : (m : CloverCall) → left_of m ≡ 0 → asks_of m ≡ Ended
some_left_of (call.Phase access cycle at_phase) e = absurd (omega arith)
some_left_of (call.Header access) e = absurd (omega arith)
some_left_of (call.Load access Original) e = absurd (omega arith)
some_left_of (call.Load access (Copy copy)) e = absurd (omega arith)
some_left_of (call.Store access place) e = absurd (omega arith)
some_left_of (call.Try access Original wanted tries) e = absurd (omega (arith, some_in_original tries))
some_left_of (call.Try access (Copy copy) wanted tries) e = absurd (omega (arith, some_in_copy tries))
some_left_of (call.Again access wanted next) e = absurd (omega (arith, some_again next))
some_left_of (call.TryMark access tries) e = absurd (omega (arith, some_of_mark tries))
some_left_of (call.Follow access its) e = follows.some_left_of its e
some_left_of (call.Ended access end) e = refl

-- ---- each step leaves fewer

at_place_left : (access : Access) (copy : Spot) (b : Bool) → left_of (if b then call.Store access (Copy copy) else call.Load access (Copy copy)) ≤ 8
at_place_left access copy true = lit≤ tt
at_place_left access copy false = lit≤ tt

original_left : (access : Access) (b : Bool) → left_of (if b then call.Store access Original else call.Load access Original) ≤ 14
original_left access true = lit≤ tt
original_left access false = lit≤ tt

copy_or_left : (access : Access) (here : CloverCall) (most : ℕ) (o : Option Spot) → 8 ≤ most → left_of here ≤ most → left_of (in_copy_or access here o) ≤ most
copy_or_left access here most None few left = left
copy_or_left access here most (Some copy) few left = omega (arith, few, at_place_left access copy (stores access.action (Copy copy) access.mark))

followed_left : (access : Access) (word : ℕ) → left_of (followed access word) ≤ 4
followed_left access word = follows.follow_of-left access.phase (field_at word)

try_left : (exchange : TriesLeft → CloverCall) (over : CloverCall) (most : ℕ) (next : Option TriesLeft) → left_of over ≤ most → ((tries : TriesLeft) → next ≡ Some tries → left_of (exchange tries) ≤ most) → left_of (try_by exchange over next) ≤ most
try_left exchange over most None none some = none
try_left exchange over most (Some tries) none some = some tries refl

valued_left : (access : Access) (exchange : TriesLeft → CloverCall) (wanted : ℕ) (next : Option TriesLeft) (found most : ℕ) → 4 ≤ most → ((tries : TriesLeft) → next ≡ Some tries → left_of (exchange tries) ≤ most) → left_of (valued_by access exchange wanted next found) ≤ most
valued_left access exchange wanted next found most few some = by (serves access.action found)
  where
    by : (b : Bool) → left_of (if b then try_by exchange (raced access wanted found) next else followed access found) ≤ most
    by true = try_left exchange (raced access wanted found) most next (omega arith) some
    by false = omega (arith, few, followed_left access found)

copy_tries_left : (tries : TriesLeft) (next : TriesLeft) → next_of tries ≡ Some next → left_in_copy next < left_in_copy tries
copy_tries_left Two next e = let same : One ≡ next = cc in rw (← same) (lit< tt)
copy_tries_left One next e = let same : Zero ≡ next = cc in rw (← same) (lit< tt)
copy_tries_left Zero next e = absurd cc

original_tries_left : (tries : TriesLeft) (next : TriesLeft) → next_of tries ≡ Some next → left_in_original next < left_in_original tries
original_tries_left Two next e = let same : One ≡ next = cc in rw (← same) (lit< tt)
original_tries_left One next e = let same : Zero ≡ next = cc in rw (← same) (lit< tt)
original_tries_left Zero next e = absurd cc

after_mark_left : (tries : TriesLeft) (next : TriesLeft) → next_of tries ≡ Some next → left_in_original next < left_of_mark tries
after_mark_left Two next e = let same : One ≡ next = cc in rw (← same) (lit< tt)
after_mark_left One next e = let same : Zero ≡ next = cc in rw (← same) (lit< tt)
after_mark_left Zero next e = absurd cc

again_left : (tries : TriesLeft) → left_again (next_of tries) < left_in_original tries
again_left Two = lit< tt
again_left One = lit< tt
again_left Zero = lit< tt

marked_left : (next : Option TriesLeft) (tries : TriesLeft) → next ≡ Some tries → left_of_mark tries < left_again next
marked_left None tries e = absurd cc
marked_left (Some Two) tries e = let same : Two ≡ tries = cc in rw (← same) (lit< tt)
marked_left (Some One) tries e = let same : One ≡ tries = cc in rw (← same) (lit< tt)
marked_left (Some Zero) tries e = let same : Zero ≡ tries = cc in rw (← same) (lit< tt)

-- at the original, with these tries left for the next exchange
found_left : (access : Access) (wanted : ℕ) (next : Option TriesLeft) (found most : ℕ) → 4 ≤ most → left_again next ≤ most → ((tries : TriesLeft) → next ≡ Some tries → left_in_original tries ≤ most) → left_of (found_at access Original wanted next found) ≤ most
found_left access wanted next found most few again some = by (is_mark_word access.mark found)
  where
    by : (b : Bool) → left_of (if b then call.Again access wanted next else valued access Original wanted next found) ≤ most
    by true = again
    by false = valued_left access (call.Try access Original found) wanted next found most few some

first_try_left : (tries : TriesLeft) → Some Two ≡ Some tries → left_in_original tries ≤ 13
first_try_left tries e = let same : Two ≡ tries = cc in rw (← same) (lit≤ tt)

first_copy_left : (tries : TriesLeft) → Some Two ≡ Some tries → left_in_copy tries ≤ 7
first_copy_left tries e = let same : Two ≡ tries = cc in rw (← same) (lit≤ tt)

phase_falls : (access : Access) (cycle : ℕ) (b : Bool) → left_of (if b then call.Ended access (call_end.Refused (Busy cycle access.mark)) else call.Header access) < 16
phase_falls access cycle true = lit< tt
phase_falls access cycle false = lit< tt

header_falls : (access : Access) (header : ℕ) (b : Bool) → left_of (if b then in_copy_or access (at_place access Original) (forwarded access.spot header) else call.Ended access (call_end.Refused (NoField (let h = header_at header in h.len)))) < 15
header_falls access header true = omega (arith, copy_or_left access (at_place access Original) 14 (forwarded access.spot header) (lit≤ tt) (original_left access (stores access.action Original access.mark)))
header_falls access header false = lit< tt

tried_falls : (access : Access) (wanted : ℕ) (tries : TriesLeft) (n : ℕ) (b : Bool) → left_of (if b then made access else found_at access Original wanted (next_of tries) n) < left_in_original tries
tried_falls access wanted tries n true = omega (arith, some_in_original tries)
tried_falls access wanted tries n false =
    omega (arith, some_in_original tries, found_left access wanted (next_of tries) n (left_in_original tries - 1) (omega (arith, some_in_original tries)) (omega (arith, again_left tries)) (λ next e. omega (arith, original_tries_left tries next e)))

tried_copy_falls : (access : Access) (copy : Spot) (wanted : ℕ) (tries : TriesLeft) (n : ℕ) (b : Bool) → left_of (if b then made access else found_at access (Copy copy) wanted (next_of tries) n) < left_in_copy tries
tried_copy_falls access copy wanted tries n true = omega (arith, some_in_copy tries)
tried_copy_falls access copy wanted tries n false =
    omega (arith, some_in_copy tries, valued_left access (call.Try access (Copy copy) n) wanted (next_of tries) n (left_in_copy tries - 1) (omega (arith, some_in_copy tries)) (λ next e. omega (arith, copy_tries_left tries next e)))

mark_falls : (access : Access) (tries : TriesLeft) (n : ℕ) (b : Bool) → left_of (if b then made access else valued access Original access.mark (next_of tries) n) < left_of_mark tries
mark_falls access tries n true = omega (arith, some_of_mark tries)
mark_falls access tries n false =
    omega (arith, some_of_mark tries, valued_left access (call.Try access Original n) access.mark (next_of tries) n (left_of_mark tries - 1) (omega (arith, some_of_mark tries)) (λ next e. omega (arith, after_mark_left tries next e)))

again_falls : (access : Access) (wanted : ℕ) (next : Option TriesLeft) (n : ℕ) → left_of (in_copy_or access (marked access wanted next) (moved access.spot n)) < left_again next
again_falls access wanted next n =
    omega (
      arith,
      some_again next,
      copy_or_left access (marked access wanted next) (left_again next - 1) (moved access.spot n) (omega (arith, some_again next))
          (valued_left access (call.TryMark access) wanted next access.mark (left_again next - 1) (omega (arith, some_again next)) (λ tries e. omega (arith, marked_left next tries e))),
    )

pub falls_of : (m : CloverCall) (n : ℕ) → asks_of m ≢ Ended → left_of (fed_of m n) < left_of m
falls_of (call.Phase access cycle at_phase) n on = phase_falls access cycle (is_busy cycle n)
falls_of (call.Header access) n on = header_falls access n (nat_lt access.spot.field (let h = header_at n in h.len))
falls_of (call.Load access Original) n on = omega (arith, found_left access n (Some Two) n 13 (lit≤ tt) (lit≤ tt) first_try_left)
falls_of (call.Load access (Copy copy)) n on = omega (arith, valued_left access (call.Try access (Copy copy) n) n (Some Two) n 7 (lit≤ tt) first_copy_left)
falls_of (call.Store access place) n on = lit< tt
falls_of (call.Try access Original wanted tries) n on = tried_falls access wanted tries n (n == wanted)
falls_of (call.Try access (Copy copy) wanted tries) n on = tried_copy_falls access copy wanted tries n (n == wanted)
falls_of (call.Again access wanted next) n on = again_falls access wanted next n
falls_of (call.TryMark access tries) n on = mark_falls access tries n (n == access.mark)
falls_of (call.Follow access its) n on = follows.falls_of its n on
falls_of (call.Ended access end) n on = absurd (on refl)
