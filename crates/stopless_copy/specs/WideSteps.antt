-- What a step on a word of a wide object puts and finds.
use Rattle.std.specs.Prelude.{ℕ, nat_lt, if◌then◌else◌}
use Rattle.heap_words.specs.declared.limits.TheConstants.{ADDRESS_LIMIT}
use Rattle.heap_words.specs.FieldWords.{field_at}
use Rattle.wide_objects.specs.declared.wide_word.Status2.{Status2}
use Rattle.wide_objects.specs.declared.wide_word.Status2.TheVariants.{InOriginal, InWide, InCopy}
use Rattle.wide_objects.specs.WideWords.{wide_word_at}
use Rattle.wide_objects.specs.Statuses as statuses
use Rattle.wide_objects.specs.Statuses.{word_of_status}
use Rattle.barriers.specs.declared.front.Front.{Front}
use Rattle.barriers.specs.declared.front.Front.TheVariants.{Stays, Now}
use Rattle.barriers.specs.declared.spot.Spot.{Spot}
use Rattle.tagged_calls.specs.declared.location.Location.{Location}
use Rattle.tagged_calls.specs.declared.location.Location.TheVariants as location
use Rattle.barriers.specs.Causes.{len_at}

-- the wide word of a field with this word, whose value is in the wide object, and of one that was copied with it
abbrev pub in_wide : ℕ → ℕ
in_wide word = word_of_status (statuses.InWide (field_at word))

abbrev pub in_copy : ℕ → ℕ
in_copy word = word_of_status (statuses.InCopy (field_at word))

-- the address that a word says, and 0 where it is that of none
abbrev pub address_at : ℕ → ℕ
address_at word = if nat_lt word ADDRESS_LIMIT then word else 0

-- a look at a wide word has seen the value, where that is not in the copy
abbrev pub front_by : Status2 → Front
front_by InOriginal = Now
front_by InWide = Now
front_by InCopy = Stays

abbrev pub wide_front : ℕ → Front
wide_front word = let w = wide_word_at word in front_by w.status

-- a call goes on at the wide object where the header says so, and that there is the field; else it is at the word of an object at rest
abbrev pub wide_first : {M : Type 0} → (Spot → M) → (Location → M) → Spot → ℕ → Location → M
wide_first wide place spot header (location.Wide its) = if nat_lt spot.field (len_at header) then wide its else place (location.Wide its)
wide_first wide place spot header it = place it
