-- What a call is to do, and where the word of its field is.
use Rattle.std.specs.Prelude.{ℕ, ◌==◌, ◌&&◌, nat_lt, Bool, true, false, Option, Some, None}
use Rattle.heap_words.specs.declared.limits.TheConstants.{NUMBER_LIMIT}
use Rattle.heap_words.specs.FieldWords.{field_at, is_same_value}
use Rattle.object_headers.specs.declared.header.State.{State as HeaderState}
use Rattle.object_headers.specs.declared.header.State.TheVariants as states
use Rattle.object_headers.specs.Headers.{header_at}
use Rattle.barriers.specs.declared.spot.Spot.{Spot}
use Rattle.barriers.specs.Spots.{spot_of}
use Rattle.clover_marks.specs.declared.access.Action.{Action}
use Rattle.clover_marks.specs.declared.access.Action.TheVariants as action
use Rattle.clover_marks.specs.declared.access.Access.{Access}
use Rattle.clover_marks.specs.declared.access.Place.{Place}
use Rattle.clover_marks.specs.declared.access.Place.TheVariants.{Original, Copy}

-- the word to write, and 0 for a read
abbrev pub word_of_action : Action → ℕ
word_of_action action.Read = 0
word_of_action (action.Write word) = word
word_of_action (action.Exchange expected word) = word

-- whether the call writes where it finds this word
abbrev pub serves : Action → ℕ → Bool
serves action.Read found = false
serves (action.Write word) found = true
serves (action.Exchange expected word) found = is_same_value expected (field_at found)

-- whether a word is this mark, which is a number other than 0
abbrev pub is_mark_word : ℕ → ℕ → Bool
is_mark_word mark word = word == mark && nat_lt 0 word && nat_lt word NUMBER_LIMIT

-- the address of the field's word
abbrev pub address_of : Access → Place → ℕ
address_of access Original = access.spot.place
address_of access (Copy copy) = copy.place

-- the same field of what has its header at this address
abbrev pub field_from : Spot → ℕ → Spot
field_from spot at = spot_of spot.birth at spot.field

-- by the state and the target of a header: of the copy where it is Forward
abbrev pub forwarded_by : Spot → HeaderState → ℕ → Option Spot
forwarded_by spot states.Forward target = Some (field_from spot target)
forwarded_by spot state target = None

abbrev pub forwarded : Spot → ℕ → Option Spot
forwarded spot header = let h = header_at header in forwarded_by spot h.state h.target

-- and where it is Moving, too
abbrev pub moved_by : Spot → HeaderState → ℕ → Option Spot
moved_by spot states.Moving target = Some (field_from spot target)
moved_by spot states.Forward target = Some (field_from spot target)
moved_by spot state target = None

abbrev pub moved : Spot → ℕ → Option Spot
moved spot header = let h = header_at header in moved_by spot h.state h.target
