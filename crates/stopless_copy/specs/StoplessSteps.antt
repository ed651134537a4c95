-- How Stopless's calls go on that have not come to a wide object.
use Rattle.std.specs.Prelude.{ℕ, ◌≤◌}
use Rattle.std.proofs.Common.{◌≡◌, refl, subst, Option}
use Rattle.heap_words.specs.declared.limits.TheConstants.{MOST_FIELDS}
use Rattle.heap_words.specs.declared.field_word.FieldWord.{FieldWord}
use Rattle.object_headers.specs.declared.header.Colour.{Colour}
use Rattle.object_headers.specs.declared.header.Header.{Header}
use Rattle.barriers.specs.States.{State}
use Rattle.barriers.specs.Stances.{Stance}
use Rattle.barriers.specs.Knowns.{Known, Loads, Stores, Swaps, Loads_copy, Stores_copy, Swaps_copy, Finds}
use Rattle.barriers.specs.Kits.{IsHeaderWord}
use Rattle.barriers.specs.PlainCalls.{plainly_fed}
use Rattle.barriers.specs.PlainCallLaws.{IsPlain}
use Rattle.stopless_copy.specs.StoplessTable.{stopless_fed}

-- a header's object has no more fields than the most
pub few_fields : (birth : ℕ) (x : State) (colour : Colour) (len n : ℕ) {before : Option Header} → IsHeaderWord before birth x colour len n → len ≤ MOST_FIELDS
few_fields birth x colour len n word = let fits = word.fits in subst (λ (l : ℕ). l ≤ MOST_FIELDS) word.len_is fits.len

-- at a plain word it goes on as such a call does
pub at_plain : (acked : Stance) (own : Option FieldWord) (k : Known) (found : Finds) → IsPlain k → stopless_fed acked own k found ≡ plainly_fed acked k found
at_plain acked own (Loads z t) found plain = refl
at_plain acked own (Stores z word) found plain = refl
at_plain acked own (Swaps z t v n) found plain = refl
at_plain acked own (Loads_copy z t to) found plain = refl
at_plain acked own (Stores_copy z word to) found plain = refl
at_plain acked own (Swaps_copy z t to v n) found plain = refl
at_plain acked own k found plain = absurd plain
