-- What is known of a machine of a call, whatever copier it is of.
use Rattle.std.specs.Prelude.{ℕ, ◌+◌, Bool, true, false, if◌then◌else◌, List, Option, Some, None}
use Rattle.heap_words.specs.Layouts.{phase_at}
use Rattle.heap_words.specs.declared.field_word.FieldWord.{FieldWord}
use Rattle.heap_words.specs.declared.field_word.FieldWord.TheVariants.{Num, Link}
use Rattle.heap_words.specs.FieldWords.{word_of}
use Rattle.object_headers.specs.declared.header.Colour.{Colour}
use Rattle.object_headers.specs.declared.header.Header.{Header}
use Rattle.object_headers.specs.declared.header.State.TheVariants as states
use Rattle.object_headers.specs.Headers.{word_of_header}
use Rattle.wide_objects.specs.Statuses.{Status, InWide, InCopy, word_of_status}
use Rattle.call_steps.specs.declared.step.Step.{Step}
use Rattle.call_steps.specs.declared.step.Step.TheVariants.{Load, Store, Exchange, Ended}
use Rattle.heap_history.specs.FixedHeaps.{is_same}
use Rattle.heap_history.specs.declared.call.Call.{Call}
use Rattle.heap_history.specs.declared.call.Call.TheVariants as calls
use Rattle.heap_history.specs.declared.call.Value.{Value}
use Rattle.handshakes.specs.declared.follow.FollowMachine.{FollowMachine}
use Rattle.handshakes.specs.declared.follow.FollowMachine.TheVariants as follow
use Rattle.handshakes.specs.Follows.{follow_of}
use Rattle.handshakes.specs.Follows as follows
use Rattle.barriers.specs.declared.spot.Spot.{Spot}
use Rattle.barriers.specs.declared.front.Front.{Front}
use Rattle.barriers.specs.declared.front.Front.TheVariants.{Stays, Now, SealedOrNow}
use Rattle.barriers.specs.declared.ends.TryRefusal.{TryRefusal}
use Rattle.barriers.specs.States.{State, same_word}
use Rattle.barriers.specs.Stances.{Stance, phase_of}
use Rattle.barriers.specs.Spaces.{Here, is_mark, same_status}
use Rattle.barriers.specs.Values.{value_of}

-- what a call does with its field
pub data Task : Type 0 where
  Reads : Task
  Writes : (word : FieldWord) → Task
  Exchanges : (expected : Value) (word : FieldWord) → Task

-- how a call ends
pub data Ending : Type 0 where
  Got : (word : FieldWord) → Ending
  Wrote : Ending
  Done : Ending
  Differs : (word : FieldWord) → Ending
  Refused : (why : TryRefusal) → Ending

-- Each case says which step comes next, on which word; n counts the tries that are left after this one.
pub data Known : Type 0 where
  -- loads the phase word: the word to write is the pass's mark, and its pass has acknowledged this cycle
  Checks : (s : Spot) (t : Task) (cycle : ℕ) → Known
  -- loads the header
  Loads_header : (s : Spot) (t : Task) → Known
  -- exchanges the header, which it found Tagged, for Kept
  Keeps : (s : Spot) (t : Task) (tagged : Header) → Known
  -- loads, stores, exchanges from x in the original
  Loads : (s : Spot) (t : Task) → Known
  Stores : (s : Spot) (word : FieldWord) → Known
  Swaps : (s : Spot) (t : Task) (x : FieldWord) (n : ℕ) → Known
  -- found its pass's mark in the original, where its exchange wanted x, and loads the header again
  Loads_again : (s : Spot) (t : Task) (x : FieldWord) (n : ℕ) → Known
  -- loads, exchanges from x the wide word
  Loads_wide : (s : Spot) (t : Task) (wide : ℕ) → Known
  Swaps_wide : (s : Spot) (t : Task) (wide : ℕ) (x : Status) (n : ℕ) → Known
  -- loads in the original, after a wide word that was InOriginal
  Loads_late : (s : Spot) (t : Task) (wide : ℕ) → Known
  -- loads the copy's address in the wide object
  Loads_address : (s : Spot) (t : Task) (wide : ℕ) → Known
  -- loads, stores, exchanges from x in the copy
  Loads_copy : (s : Spot) (t : Task) (to : ℕ) → Known
  Stores_copy : (s : Spot) (word : FieldWord) (to : ℕ) → Known
  Swaps_copy : (s : Spot) (t : Task) (to : ℕ) (x : FieldWord) (n : ℕ) → Known
  -- follows what it found
  Follows : (s : Spot) (t : Task) (m : FollowMachine) → Known
  Over : (s : Spot) (t : Task) (end : Ending) → Known

-- ---- the call

abbrev pub spot_of : Known → Spot
spot_of (Checks s t cycle) = s
spot_of (Loads_header s t) = s
spot_of (Keeps s t tagged) = s
spot_of (Loads s t) = s
spot_of (Stores s word) = s
spot_of (Swaps s t x n) = s
spot_of (Loads_again s t x n) = s
spot_of (Loads_wide s t wide) = s
spot_of (Swaps_wide s t wide x n) = s
spot_of (Loads_late s t wide) = s
spot_of (Loads_address s t wide) = s
spot_of (Loads_copy s t to) = s
spot_of (Stores_copy s word to) = s
spot_of (Swaps_copy s t to x n) = s
spot_of (Follows s t m) = s
spot_of (Over s t end) = s

abbrev pub task_of : Known → Task
task_of (Checks s t cycle) = t
task_of (Loads_header s t) = t
task_of (Keeps s t tagged) = t
task_of (Loads s t) = t
task_of (Stores s word) = Writes word
task_of (Swaps s t x n) = t
task_of (Loads_again s t x n) = t
task_of (Loads_wide s t wide) = t
task_of (Swaps_wide s t wide x n) = t
task_of (Loads_late s t wide) = t
task_of (Loads_address s t wide) = t
task_of (Loads_copy s t to) = t
task_of (Stores_copy s word to) = Writes word
task_of (Swaps_copy s t to x n) = t
task_of (Follows s t m) = t
task_of (Over s t end) = t

-- the call of a pass that does this at this field
abbrev pub call_of : ℕ → Spot → Task → Call
call_of pass s Reads = calls.Read pass s.birth s.field
call_of pass s (Writes word) = calls.Write pass s.birth s.field (value_of word)
call_of pass s (Exchanges expected word) = calls.Exchange pass s.birth s.field expected (value_of word)

-- the field that it is at, until it has what it came for
abbrev pub at_field : Known → Option Spot
at_field (Follows s t m) = None
at_field (Over s t end) = None
at_field k = Some (spot_of k)

-- it is at a field of which it has found that the object has it
abbrev pub has_field : Known → Bool
has_field (Checks s t cycle) = false
has_field (Loads_header s t) = false
has_field (Follows s t m) = false
has_field (Over s t end) = false
has_field k = true

-- it has found what the field holds, and follows that or has ended with it
abbrev pub has_found : Known → Bool
has_found (Follows s t m) = true
has_found (Over s t (Got word)) = true
has_found (Over s t (Differs word)) = true
has_found k = false

-- the address of the copy that it is at
abbrev pub copy_of : Known → Option ℕ
copy_of (Loads_copy s t to) = Some to
copy_of (Stores_copy s word to) = Some to
copy_of (Swaps_copy s t to x n) = Some to
copy_of _ = None

-- the wide object that it is at
abbrev pub wide_of : Known → Option ℕ
wide_of (Loads_wide s t wide) = Some wide
wide_of (Swaps_wide s t wide x n) = Some wide
wide_of (Loads_late s t wide) = Some wide
wide_of (Loads_address s t wide) = Some wide
wide_of _ = None

-- the header that it exchanges
abbrev pub head_of : Known → Option Header
head_of (Keeps s t tagged) = Some tagged
head_of _ = None

-- ---- words

abbrev pub word_in : Task → Option FieldWord
word_in Reads = None
word_in (Writes word) = Some word
word_in (Exchanges expected word) = Some word

abbrev pub wanted_of : Task → Option Value
wanted_of Reads = None
wanted_of (Writes word) = None
wanted_of (Exchanges expected word) = Some expected

-- the word that it ended with
abbrev pub word_ended : Ending → Option FieldWord
word_ended (Got word) = Some word
word_ended (Differs word) = Some word
word_ended _ = None

-- the link that it follows
abbrev pub word_followed : FollowMachine → Option FieldWord
word_followed (follow.Header birth at) = Some (Link birth at)
word_followed (follow.Ended end) = Some end.word

-- the word that it will yet write, or that it found and follows or has ended with
abbrev pub hand_of : Known → Option FieldWord
hand_of (Follows s t m) = word_followed m
hand_of (Over s t end) = word_ended end
hand_of k = word_in (task_of k)

-- the word that it will yet write
abbrev pub writes_yet : Known → Option FieldWord
writes_yet (Follows s t m) = None
writes_yet (Over s t end) = None
writes_yet k = word_in (task_of k)

abbrev pub put_of : Task → FieldWord
put_of Reads = Num 0
put_of (Writes word) = word
put_of (Exchanges expected word) = word

-- ---- the step that it asks for

-- the word of a field after the header at an address
abbrev pub place_in : ℕ → Spot → ℕ
place_in at s = at + 1 + s.field

abbrev pub step_of : Known → Step
step_of (Checks s t cycle) = Load phase_at
step_of (Loads_header s t) = Load s.at
step_of (Keeps s t tagged) = Exchange s.at (word_of_header tagged) (word_of_header (record tagged { state = states.Kept }))
step_of (Loads s t) = Load s.place
step_of (Stores s word) = Store s.place (word_of word)
step_of (Swaps s t x n) = Exchange s.place (word_of x) (word_of (put_of t))
step_of (Loads_again s t x n) = Load s.at
step_of (Loads_wide s t wide) = Load (place_in wide s)
step_of (Swaps_wide s t wide x n) = Exchange (place_in wide s) (word_of_status x) (word_of_status (InWide (put_of t)))
step_of (Loads_late s t wide) = Load s.place
step_of (Loads_address s t wide) = Load wide
step_of (Loads_copy s t to) = Load (place_in to s)
step_of (Stores_copy s word to) = Store (place_in to s) (word_of word)
step_of (Swaps_copy s t to x n) = Exchange (place_in to s) (word_of x) (word_of (put_of t))
step_of (Follows s t m) = follows.asks_of m
step_of (Over s t end) = Ended

-- ---- what the step finds

pub data Finds : Type 0 where
  Nothing : Finds
  Phase_word : (p : Stance) → Finds
  Header_word : (x : State) (colour : Colour) (len : ℕ) → Finds
  Field_word : (word : FieldWord) → Finds
  Wide_word : (u : Status) → Finds
  Address : (to : ℕ) → Finds

-- with this stance announced, at a field of which this is so, where the copy has this word
abbrev pub finds : Stance → Here → FieldWord → Known → Finds
finds p x copy (Checks s t cycle) = Phase_word p
finds p x copy (Loads_header s t) = Header_word x.state x.colour x.len
finds p x copy (Keeps s t tagged) = Header_word x.state x.colour x.len
finds p x copy (Loads s t) = Field_word x.word
finds p x copy (Swaps s t w n) = Field_word x.word
finds p x copy (Loads_again s t w n) = Header_word x.state x.colour x.len
finds p x copy (Loads_wide s t wide) = Wide_word x.status
finds p x copy (Swaps_wide s t wide u n) = Wide_word x.status
finds p x copy (Loads_late s t wide) = Field_word x.word
finds p x copy (Loads_address s t wide) = Address x.address
finds p x copy (Loads_copy s t to) = Field_word copy
finds p x copy (Swaps_copy s t to w n) = Field_word copy
finds p x copy _ = Nothing

-- ---- what the step is for the call

abbrev pub wins : FieldWord → Finds → Bool
wins x (Field_word word) = same_word word x
wins x _ = false

abbrev pub wins_wide : Status → Finds → Bool
wins_wide x (Wide_word u) = same_status u x
wins_wide x _ = false

-- the word that the step puts at the field: this step is the call's change
abbrev pub puts : Known → Finds → Option FieldWord
puts (Stores s word) found = Some word
puts (Stores_copy s word to) found = Some word
puts (Swaps s t x n) found = if wins x found then word_in t else None
puts (Swaps_copy s t to x n) found = if wins x found then word_in t else None
puts (Swaps_wide s t wide x n) found = if wins_wide x found then word_in t else None
puts k found = None

-- the value that it expected there
abbrev pub wanted : Known → Option Value
wanted (Swaps s t x n) = wanted_of t
wanted (Swaps_copy s t to x n) = wanted_of t
wanted (Swaps_wide s t wide x n) = wanted_of t
wanted _ = None

-- an exchange that finds the expected value goes on, and so does a write
abbrev pub sees : Task → FieldWord → Front → Front
sees Reads x front = front
sees (Writes word) x front = Stays
sees (Exchanges expected word) x front = if is_same (value_of x) expected then Stays else front

-- where the pass's mark was found, what happened until then was seen, whatever the call becomes
abbrev pub sees_by : Option FieldWord → Task → Finds → Front → Front
sees_by own t (Field_word x) front = if is_mark own x then front else sees t x front
sees_by own t found front = Stays

abbrev pub wide_front : Finds → Front
wide_front (Wide_word (InCopy word)) = Stays
wide_front _ = Now

-- What a step without a change makes of what the pass has seen: nothing; all changes so far; or all at the seal, where there was one.
abbrev pub looks : Option FieldWord → Known → Finds → Front
looks own (Loads s t) found = sees_by own t found SealedOrNow
looks own (Swaps s t x n) found = sees_by own t found Now
looks own (Loads_wide s t wide) found = wide_front found
looks own (Swaps_wide s t wide x n) found = wide_front found
looks own (Loads_copy s t to) found = sees_by None t found Now
looks own (Swaps_copy s t to x n) found = sees_by None t found Now
looks own k found = Stays

abbrev pub sealed_or : Option (List Call) → List Call → List Call
sealed_or None h = h
sealed_or (Some past) h = past

abbrev pub front : Front → Option (List Call) → List Call → List Call → List Call
front Stays seal h seen = seen
front Now seal h seen = h
front SealedOrNow seal h seen = sealed_or seal h

-- ---- following what was found

-- a word that was found ends a read, and an exchange that expected another value
abbrev pub found_ending : Task → FieldWord → Ending
found_ending Reads word = Got word
found_ending (Writes word) found = Wrote
found_ending (Exchanges expected word) found = Differs found

abbrev pub followed : Spot → Task → FollowMachine → Known
followed s t (follow.Header birth at) = Follows s t (follow.Header birth at)
followed s t (follow.Ended end) = Over s t (found_ending t end.word)

-- where it found this word, it follows that as its pass's phase asks
abbrev pub closes : Stance → Spot → Task → FieldWord → Known
closes acked s t word = followed s t (follow_of (phase_of acked) word)
