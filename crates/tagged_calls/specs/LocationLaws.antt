-- What a header says is what the space says of its object.
use Rattle.std.specs.Prelude.{ℕ, nat_lt}
use Rattle.std.proofs.Common.{◌≡◌, refl, sym, ap, subst, ◌∙◌, true, None}
use Rattle.call_steps.specs.declared.step.Step.TheVariants.{Exchange}
use Rattle.object_headers.specs.declared.header.Colour.{Colour}
use Rattle.object_headers.specs.declared.header.Header.{Header}
use Rattle.object_headers.specs.declared.header.State.{State as HeaderState}
use Rattle.object_headers.specs.declared.header.State.TheVariants as states
use Rattle.object_headers.specs.Headers.{FitsState, header_at, word_of_header}
use Rattle.object_headers.specs.HeaderLaws.{header_at-word_of_header}
use Rattle.barriers.specs.declared.spot.Spot.{Spot}
use Rattle.barriers.specs.States.{State, Tagged, Wide, Forward}
use Rattle.barriers.specs.Spaces.{Here}
use Rattle.barriers.specs.Knowns.{Task, Keeps, step_of}
use Rattle.barriers.specs.Kits.{IsHeaderWord, state_by}
use Rattle.tagged_calls.specs.declared.location.Keep.{Keep}
use Rattle.tagged_calls.specs.declared.location.Location.{Location}
use Rattle.tagged_calls.specs.declared.location.Location.TheVariants as location
use Rattle.tagged_calls.specs.Locations.{keep_of, field_from, located, location_in}
use Rattle.tagged_calls.specs.TaggedCalls.{tagged_of}

-- where the word of the field of an object in this state is
abbrev pub location_for : Spot → ℕ → State → Location
location_for spot word Tagged = location.Tagged (keep_of word)
location_for spot word (Wide wide) = location.Wide (field_from spot wide)
location_for spot word (Forward to) = location.Copy (field_from spot to)
location_for spot word x = location.Original

located_for : (spot : Spot) (word : ℕ) (state : HeaderState) (target : ℕ) → located spot word state target ≡ location_for spot word (state_by state target)
located_for spot word states.Absent target = refl
located_for spot word states.Plain target = refl
located_for spot word states.Kept target = refl
located_for spot word states.Tagged target = refl
located_for spot word states.Wide target = refl
located_for spot word states.Moving target = refl
located_for spot word states.Forward target = refl
located_for spot word states.Dead target = refl

module _ (before : _) (birth : ℕ) (x : State) (colour : Colour) (len n : ℕ) (word : IsHeaderWord before birth x colour len n) where
  pub header_found : header_at n ≡ word.header
  header_found = ap header_at word.word ∙ header_at-word_of_header word.header word.fits

  pub location_found : (spot : Spot) → location_in spot n ≡ location_for spot n x
  location_found spot =
      subst (λ (h : Header). located spot n h.state h.target ≡ location_for spot n x) (sym header_found)
      (let h = word.header in located_for spot n h.state h.target ∙ ap (location_for spot n) word.state)

  -- whatever was known of it before
  pub at_first : IsHeaderWord None birth x colour len n
  at_first = record { header = word.header; fits = word.fits; word = word.word; state = word.state; colour_is = word.colour_is; len_is = word.len_is; birth_is = word.birth_is; of = tt }

-- ---- a header that is Tagged

pub tagged_state : (state : HeaderState) (target : ℕ) → state_by state target ≡ Tagged → state ≡ states.Tagged
tagged_state states.Absent target is = absurd cc
tagged_state states.Plain target is = absurd cc
tagged_state states.Kept target is = absurd cc
tagged_state states.Tagged target is = refl
tagged_state states.Wide target is = absurd cc
tagged_state states.Moving target is = absurd cc
tagged_state states.Forward target is = absurd cc
tagged_state states.Dead target is = absurd cc

pub untargeted : (state : HeaderState) (h : Header) → FitsState state h → state ≡ states.Tagged → h.target ≡ 0
untargeted states.Absent h fits is = absurd cc
untargeted states.Plain h fits is = absurd cc
untargeted states.Kept h fits is = absurd cc
untargeted states.Tagged h fits is = fits.1
untargeted states.Wide h fits is = absurd cc
untargeted states.Moving h fits is = absurd cc
untargeted states.Forward h fits is = absurd cc
untargeted states.Dead h fits is = absurd cc

header_of : (h : Header) (s : Spot) (colour : Colour) (len : ℕ) → h.state ≡ states.Tagged → h.colour ≡ colour → h.len ≡ len → h.birth ≡ s.birth → h.target ≡ 0 → h ≡ tagged_of s colour len
header_of h s colour len state colours lens births target = rw (← state, ← colours, ← lens, ← births, ← target) refl

-- is that of the object here
pub tagged_found : (before : _) (s : Spot) (colour : Colour) (len n : ℕ) → IsHeaderWord before s.birth Tagged colour len n → header_at n ≡ tagged_of s colour len
tagged_found before s colour len n word =
    let h = word.header in
    let tagged : h.state ≡ states.Tagged = tagged_state h.state h.target word.state in
    let fits = word.fits in
    header_found before s.birth Tagged colour len n word ∙ header_of h s colour len tagged word.colour_is word.len_is word.birth_is (untargeted h.state h fits.state tagged)

-- ---- the exchange of such a header for Kept

-- the words are those of the header that was found Tagged, of the call's object, which has the field
pub record IsKeep (spot : Spot) (keep : Keep) : Type 0 where
  pub kept : keep.kept ≡ word_of_header (record (header_at keep.tagged) { state = states.Kept })
  pub word : (let h = header_at keep.tagged in IsHeaderWord None spot.birth Tagged h.colour h.len keep.tagged)
  pub inside : (let h = header_at keep.tagged in nat_lt spot.field h.len) ≡ true

pub keep_found : (s : Spot) (colour : Colour) (len n : ℕ) → IsHeaderWord None s.birth Tagged colour len n → nat_lt s.field len ≡ true → IsKeep s (keep_of n)
keep_found s colour len n word inside =
    let same = tagged_found None s colour len n word in
    record {
      kept = refl;
      word = subst (λ (h : Header). IsHeaderWord None s.birth Tagged h.colour h.len n) (sym same) word;
      inside = subst (λ (h : Header). nat_lt s.field h.len ≡ true) (sym same) inside;
    }

pub keep_asks : (s : Spot) (t : Task) (keep : Keep) → IsKeep s keep → Exchange s.at keep.tagged keep.kept ≡ step_of (Keeps s t (header_at keep.tagged))
keep_asks s t keep is =
    let h = header_at keep.tagged in
    let word = is.word in
    let found = header_found None s.birth Tagged h.colour h.len keep.tagged word in
    let tagged : keep.tagged ≡ word_of_header (header_at keep.tagged) = word.word ∙ ap word_of_header (sym found) in
    ap (λ (want : ℕ). Exchange s.at want keep.kept) tagged ∙ ap (λ (put : ℕ). Exchange s.at (word_of_header (header_at keep.tagged)) put) is.kept

-- the field as it was when the header was found Tagged
abbrev pub at_keep : Here → Keep → Here
at_keep x keep = let h = header_at keep.tagged in record x { state = Tagged; colour = h.colour; len = h.len }
