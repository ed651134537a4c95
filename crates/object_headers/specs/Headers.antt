-- Header words: the state, the colour, the len, the birth number and the target of an object in one word.
use Rattle.std.specs.Prelude.{◌≡◌, ◌≢◌, ℕ, ◌+◌, ◌*◌, ◌/◌, ◌%◌, ◌^◌, ◌<◌, ◌≤◌, ◌⊎◌, Bool, ◌&&◌, ◌||◌, not, ◌==◌, nat_lt, nat_le, Option, Some, None, unwrap_or, if◌then◌else◌}
use Rattle.heap_words.specs.declared.limits.TheConstants.{MOST_FIELDS, BIRTH_LIMIT, ADDRESS_LIMIT}
use Rattle.object_headers.specs.declared.header.State.{State}
use Rattle.object_headers.specs.declared.header.State.TheVariants.{Absent, Plain, Kept, Tagged, Wide, Moving, Forward, Dead}
use Rattle.object_headers.specs.declared.header.Colour.TheVariants.{Even}
use Rattle.object_headers.specs.declared.header.Header.{Header}
use Rattle.object_headers.specs.States.{code_of, state_of, colour_code_of, colour_of}

-- what each state asks of a header: Absent has nothing else set; in every other state there is an object, and only Wide, Moving and Forward have a target
abbrev pub FitsState : State → Header → Type 0
FitsState Absent h = (h.colour ≡ Even) × (h.len ≡ 0) × (h.birth ≡ 0) × (h.target ≡ 0)
FitsState Plain h = (0 < h.birth) × (h.target ≡ 0)
FitsState Kept h = (0 < h.birth) × (h.target ≡ 0)
FitsState Tagged h = (0 < h.birth) × (h.target ≡ 0)
FitsState Wide h = 0 < h.birth
FitsState Moving h = 0 < h.birth
FitsState Forward h = 0 < h.birth
FitsState Dead h = (0 < h.birth) × (h.target ≡ 0)

-- the headers that have a word
pub record IsHeader (h : Header) : Type 0 where
  pub len : h.len ≤ MOST_FIELDS
  pub birth : h.birth < BIRTH_LIMIT
  pub target : h.target < ADDRESS_LIMIT
  pub state : FitsState h.state h

-- the state in bits 0 to 2, the colour in bits 3 and 4, the len in bits 5 to 10, the birth number in bits 11 to 34, the target in bits 35 to 54
unfoldable pub word_of_header : Header → ℕ
word_of_header h = code_of h.state + 2 ^ 3 * colour_code_of h.colour + 2 ^ 5 * h.len + 2 ^ 11 * h.birth + 2 ^ 35 * h.target

-- bits 0 to 2
abbrev pub state_bits : ℕ → ℕ
state_bits word = word % 2 ^ 3

-- bits 3 and 4
abbrev pub colour_bits : ℕ → ℕ
colour_bits word = word / 2 ^ 3 % 2 ^ 2

-- bits 5 to 10
abbrev pub len_bits : ℕ → ℕ
len_bits word = word / 2 ^ 5 % 2 ^ 6

-- bits 11 to 34
abbrev pub birth_bits : ℕ → ℕ
birth_bits word = word / 2 ^ 11 % 2 ^ 24

-- bits 35 to 54
abbrev pub target_bits : ℕ → ℕ
target_bits word = word / 2 ^ 35 % 2 ^ 20

-- the bits from 55 on
abbrev pub bits_above : ℕ → ℕ
bits_above word = word / 2 ^ 55

-- no header: a bit from 55 on is set, the colour is 3, the len is over the most fields of an object, Absent (0) has another bit set, the birth number is 0 in another state, or there is a target in a state other than Wide, Moving and Forward (4 to 6)
abbrev pub HoldsNoHeader : ℕ → Type 0
HoldsNoHeader word =
    (bits_above word ≢ 0)
    ⊎ ((colour_bits word ≡ 3)
    ⊎ ((MOST_FIELDS < len_bits word)
    ⊎ (((state_bits word ≡ 0) × (word ≢ 0))
    ⊎ (((state_bits word ≢ 0) × (birth_bits word ≡ 0))
    ⊎ (((state_bits word < 4) ⊎ (6 < state_bits word)) × (target_bits word ≢ 0))))))

-- the codes of Wide, Moving and Forward
abbrev pub has_target : ℕ → Bool
has_target state = nat_le 4 state && nat_le state 6

-- whether these can be the bits of a header in another state than Absent
abbrev pub are_object_bits : ℕ → ℕ → ℕ → ℕ → ℕ → Bool
are_object_bits state colour len birth target =
    nat_lt colour 3 && nat_le len MOST_FIELDS && not (birth == 0) && (target == 0 || has_target state)

-- whether a word is that of a header
unfoldable pub names_header : ℕ → Bool
names_header word =
    if state_bits word == 0
    then word == 0
    else (bits_above word == 0 && are_object_bits (state_bits word) (colour_bits word) (len_bits word) (birth_bits word) (target_bits word))

-- the header of a word, if it is that of one
unfoldable pub header_of : ℕ → Option Header
header_of word =
    if names_header word
    then Some (record {
      state = state_of (state_bits word);
      colour = colour_of (colour_bits word);
      len = len_bits word;
      birth = birth_bits word;
      target = target_bits word;
    })
    else None

-- the header where there is no object
abbrev pub absent : Header
absent = record { state = Absent; colour = Even; len = 0; birth = 0; target = 0 }

-- the same as a value alone, for proofs about words that are known to be those of headers: the absent one where a word is that of none
unfoldable pub header_at : ℕ → Header
header_at word = unwrap_or (header_of word) absent
