-- What packs unpacks, and no two headers share a word.
use Rattle.std.proofs.Common.{◌≡◌, ◌≢◌, ℕ, ◌^◌, ◌<◌, ◌≤◌, ◌⊎◌, inl, inr, Bool, true, false, cond, ◌==◌, ◌&&◌, Some, None, lit<, lit≤, refl, ap, subst, sym, ◌∙◌, arith, IfSome, IsNone, ◌↔◌}
use Rattle.heap_words.specs.declared.limits.TheConstants.{MOST_FIELDS}
use Rattle.std.proofs.lemmas.Bool.Decides.{nat_tests, eqb_tells}
use Rattle.object_headers.specs.declared.header.State.{State}
use Rattle.object_headers.specs.declared.header.State.TheVariants.{Absent, Plain, Kept, Tagged, Wide, Moving, Forward, Dead}
use Rattle.object_headers.specs.declared.header.Colour.{Colour}
use Rattle.object_headers.specs.declared.header.Colour.TheVariants.{Even, Odd, Grey}
use Rattle.object_headers.specs.declared.header.Header.{Header}
use Rattle.object_headers.specs.States.{code_of, state_of, colour_code_of, colour_of}
use Rattle.object_headers.specs.Headers.{IsHeader, FitsState, word_of_header, header_of, header_at, names_header, are_object_bits, HoldsNoHeader, absent, state_bits, colour_bits, len_bits, birth_bits, target_bits, bits_above}

code_of-bound : (s : State) → code_of s < 8
code_of-bound Absent = omega arith
code_of-bound Plain = omega arith
code_of-bound Kept = omega arith
code_of-bound Tagged = omega arith
code_of-bound Wide = omega arith
code_of-bound Moving = omega arith
code_of-bound Forward = omega arith
code_of-bound Dead = omega arith

colour_code_of-bound : (c : Colour) → colour_code_of c < 3
colour_code_of-bound Even = omega arith
colour_code_of-bound Odd = omega arith
colour_code_of-bound Grey = omega arith

state_of-code_of : (s : State) → state_of (code_of s) ≡ s
unfolding state_of
state_of-code_of Absent = refl
state_of-code_of Plain = refl
state_of-code_of Kept = refl
state_of-code_of Tagged = refl
state_of-code_of Wide = refl
state_of-code_of Moving = refl
state_of-code_of Forward = refl
state_of-code_of Dead = refl

colour_of-colour_code_of : (c : Colour) → colour_of (colour_code_of c) ≡ c
unfolding colour_of
colour_of-colour_code_of Even = refl
colour_of-colour_code_of Odd = refl
colour_of-colour_code_of Grey = refl

code_of-state_of : (n : ℕ) → n < 8 → code_of (state_of n) ≡ n
unfolding state_of
code_of-state_of n h = grind (arith, nat_tests)

colour_code_of-colour_of : (n : ℕ) → n < 3 → colour_code_of (colour_of n) ≡ n
unfolding colour_of
colour_code_of-colour_of n h = grind (arith, nat_tests)

-- the parts of a packed word
module _ (h : Header) (f : IsHeader h) where
  state_is : state_bits (word_of_header h) ≡ code_of h.state
  unfolding word_of_header
  state_is = omega (arith, code_of-bound h.state)

  colour_is : colour_bits (word_of_header h) ≡ colour_code_of h.colour
  unfolding word_of_header
  colour_is = omega (arith, code_of-bound h.state, colour_code_of-bound h.colour)

  len_is : len_bits (word_of_header h) ≡ h.len
  unfolding word_of_header
  len_is = omega (arith, code_of-bound h.state, colour_code_of-bound h.colour, f.len)

  birth_is : birth_bits (word_of_header h) ≡ h.birth
  unfolding word_of_header
  birth_is = omega (arith, code_of-bound h.state, colour_code_of-bound h.colour, f.len, f.birth)

  target_is : target_bits (word_of_header h) ≡ h.target
  unfolding word_of_header
  target_is = omega (arith, code_of-bound h.state, colour_code_of-bound h.colour, f.len, f.birth, f.target)

  -- a packed word has the bits from 55 on clear
  pub word_of_header-below : word_of_header h < 2 ^ 55
  unfolding word_of_header
  word_of_header-below = omega (arith, code_of-bound h.state, colour_code_of-bound h.colour, f.len, f.birth, f.target)

  above_is : bits_above (word_of_header h) ≡ 0
  above_is = omega (arith, word_of_header-below)

object_bits : (s : State) (h : Header) (c : ℕ) → s ≢ Absent → c < 3 → h.len ≤ MOST_FIELDS → FitsState s h → are_object_bits (code_of s) c h.len h.birth h.target ≡ true
object_bits Absent h c not_absent colour len fits = absurd (not_absent refl)
object_bits Plain h c not_absent colour len fits = grind (arith, nat_tests)
object_bits Kept h c not_absent colour len fits = grind (arith, nat_tests)
object_bits Tagged h c not_absent colour len fits = grind (arith, nat_tests)
object_bits Wide h c not_absent colour len fits = grind (arith, nat_tests)
object_bits Moving h c not_absent colour len fits = grind (arith, nat_tests)
object_bits Forward h c not_absent colour len fits = grind (arith, nat_tests)
object_bits Dead h c not_absent colour len fits = grind (arith, nat_tests)

is_absent_or_not : (s : State) → (s ≡ Absent) ⊎ (s ≢ Absent)
is_absent_or_not Absent = inl refl
is_absent_or_not Plain = inr (λ e. cc)
is_absent_or_not Kept = inr (λ e. cc)
is_absent_or_not Tagged = inr (λ e. cc)
is_absent_or_not Wide = inr (λ e. cc)
is_absent_or_not Moving = inr (λ e. cc)
is_absent_or_not Forward = inr (λ e. cc)
is_absent_or_not Dead = inr (λ e. cc)

code_of-object : (s : State) → s ≢ Absent → (code_of s == 0) ≡ false
code_of-object Absent not_absent = absurd (not_absent refl)
code_of-object Plain not_absent = refl
code_of-object Kept not_absent = refl
code_of-object Tagged not_absent = refl
code_of-object Wide not_absent = refl
code_of-object Moving not_absent = refl
code_of-object Forward not_absent = refl
code_of-object Dead not_absent = refl

-- the header of Absent is the absent one
pub absent-only : (h : Header) → IsHeader h → h.state ≡ Absent → h ≡ absent
absent-only h f e =
    let parts : FitsState Absent h = subst (λ s. FitsState s h) e f.state in
    rw (e, parts.0, parts.1, parts.2, parts.3) refl

-- whose word is 0
pub word_of_header-absent : word_of_header absent ≡ 0
unfolding word_of_header
word_of_header-absent = refl

names-object : (h : Header) → IsHeader h → h.state ≢ Absent → names_header (word_of_header h) ≡ true
unfolding names_header
names-object h f not_absent =
    rw (state_is h f, colour_is h f, len_is h f, birth_is h f, target_is h f, above_is h f, code_of-object h.state not_absent)
    (object_bits h.state h (colour_code_of h.colour) not_absent (colour_code_of-bound h.colour) f.len f.state)

names-absent : names_header 0 ≡ true
unfolding names_header
names-absent = refl

names-packed : (h : Header) → IsHeader h → names_header (word_of_header h) ≡ true
names-packed h f = elim (is_absent_or_not h.state) [
  | inl e ↦ rw (absent-only h f e, word_of_header-absent) names-absent
  | inr not_absent ↦ names-object h f not_absent
]

-- what packs unpacks
pub header_of-word_of_header : (h : Header) → IsHeader h → header_of (word_of_header h) ≡ Some h
unfolding header_of
header_of-word_of_header h f =
    rw (names-packed h f, state_is h f, colour_is h f, len_is h f, birth_is h f, target_is h f, state_of-code_of h.state, colour_of-colour_code_of h.colour) refl

pub header_at-word_of_header : (h : Header) → IsHeader h → header_at (word_of_header h) ≡ h
unfolding header_at
header_at-word_of_header h f = rw (header_of-word_of_header h f) refl

-- two headers with one word are one
pub word_of_header-injective : (g h : Header) → IsHeader g → IsHeader h → word_of_header g ≡ word_of_header h → g ≡ h
word_of_header-injective g h fg fh e =
    sym (header_at-word_of_header g fg) ∙ (ap header_at e ∙ header_at-word_of_header h fh)

-- HoldsNoHeader of a word whose bits are these
abbrev AreNoHeader : ℕ → ℕ → ℕ → ℕ → ℕ → ℕ → ℕ → Type 0
AreNoHeader word above state colour len birth target =
    (above ≢ 0)
    ⊎ ((colour ≡ 3)
    ⊎ ((MOST_FIELDS < len)
    ⊎ (((state ≡ 0) × (word ≢ 0))
    ⊎ (((state ≢ 0) × (birth ≡ 0))
    ⊎ (((state < 4) ⊎ (6 < state)) × (target ≢ 0))))))

object_bits-true : (s c l b t : ℕ) → are_object_bits s c l b t ≡ true → (c < 3) × (l ≤ MOST_FIELDS) × (0 < b) × ((t ≡ 0) ⊎ ((4 ≤ s) × (s ≤ 6)))
object_bits-true s c l b t h = (grind (arith, nat_tests), grind (arith, nat_tests), grind (arith, nat_tests), grind (arith, nat_tests))

object_bits-false : (w a s c l b t : ℕ) → s ≢ 0 → c < 4 → are_object_bits s c l b t ≡ false → AreNoHeader w a s c l b t
object_bits-false w a s c l b t object colour h = grind (arith, nat_tests)

-- what the bits of a header's word are
pub record HoldsHeader (word : ℕ) : Type 0 where
  pub above : bits_above word ≡ 0
  pub colour : colour_bits word < 3
  pub len : len_bits word ≤ MOST_FIELDS
  pub absent : state_bits word ≡ 0 → word ≡ 0
  pub born : state_bits word ≢ 0 → 0 < birth_bits word
  pub target : (target_bits word ≡ 0) ⊎ ((4 ≤ state_bits word) × (state_bits word ≤ 6))

holds_zero : HoldsHeader 0
holds_zero = record { above = refl; colour = lit< tt; len = lit≤ tt; absent = λ e. refl; born = λ e. absurd (e refl); target = inl refl }

tests_and : (a b : Bool) → (a && b) ≡ true → (a ≡ true) × (b ≡ true)
tests_and a b h = (grind (arith, nat_tests), grind (arith, nat_tests))

and_false : (a b : Bool) → (a && b) ≡ false → (a ≡ false) ⊎ (b ≡ false)
and_false a b h = grind (arith, nat_tests)

-- over plain numbers: the test of a word whose bits these are
names : ℕ → ℕ → ℕ → ℕ → ℕ → ℕ → ℕ → Bool
names w a s c l b t = cond (s == 0) (w == 0) (a == 0 && are_object_bits s c l b t)

names-object-true : (w a s c l b t : ℕ) → s ≢ 0 → names w a s c l b t ≡ true → (a ≡ 0) × (are_object_bits s c l b t ≡ true)
unfolding names
names-object-true w a s c l b t object h =
    let test : (s == 0) ≡ false = grind (arith, nat_tests) in
    let both : (a == 0 && are_object_bits s c l b t) ≡ true = rw test at h in
    let parts : ((a == 0) ≡ true) × (are_object_bits s c l b t ≡ true) = tests_and (a == 0) (are_object_bits s c l b t) both in
    let clear : (a == 0) ≡ true = parts.0 in
    (grind (arith, nat_tests), parts.1)

names-absent-true : (w a s c l b t : ℕ) → s ≡ 0 → names w a s c l b t ≡ true → w ≡ 0
unfolding names
names-absent-true w a s c l b t none h = grind (arith, nat_tests)

names-false : (w a s c l b t : ℕ) → c < 4 → names w a s c l b t ≡ false → AreNoHeader w a s c l b t
unfolding names
names-false w a s c l b t colour h = elim (eqb_tells s 0) [
  | inl none ↦
      let both : (w == 0) ≡ false = rw none.0 at h in
      inr (inr (inr (inl (none.1, grind (arith, nat_tests)))))
  | inr object ↦
      let both : (a == 0 && are_object_bits s c l b t) ≡ false = rw object.0 at h in
      elim (and_false (a == 0) (are_object_bits s c l b t) both) [
        | inl above ↦ inl (grind (arith, nat_tests))
        | inr bits ↦ object_bits-false w a s c l b t object.1 colour bits
      ]
]

-- what is the word of a header
pub holds_header : (word : ℕ) → names_header word ≡ true → HoldsHeader word
unfolding names_header names
holds_header word h = elim (eqb_tells (state_bits word) 0) [
  | inl none ↦
      let zero_word : word ≡ 0 = names-absent-true word (bits_above word) (state_bits word) (colour_bits word) (len_bits word) (birth_bits word) (target_bits word) none.1 h in
      subst HoldsHeader (sym zero_word) holds_zero
  | inr object ↦
      let parts : (bits_above word ≡ 0) × (are_object_bits (state_bits word) (colour_bits word) (len_bits word) (birth_bits word) (target_bits word) ≡ true) =
      names-object-true word (bits_above word) (state_bits word) (colour_bits word) (len_bits word) (birth_bits word) (target_bits word) object.1 h in
      let bits = object_bits-true (state_bits word) (colour_bits word) (len_bits word) (birth_bits word) (target_bits word) parts.1 in
      record { above = parts.0; colour = bits.0; len = bits.1; absent = λ e. absurd (object.1 e); born = λ _. bits.2; target = bits.3 }
]

-- what is not
pub holds_no_header : (word : ℕ) → names_header word ≡ false → HoldsNoHeader word
unfolding names_header names
holds_no_header word h = names-false word (bits_above word) (state_bits word) (colour_bits word) (len_bits word) (birth_bits word) (target_bits word) (omega arith) h

both_bits : (w a s c l b t : ℕ) → a ≡ 0 → c < 3 → l ≤ MOST_FIELDS → (s ≡ 0 → w ≡ 0) → (s ≢ 0 → 0 < b) → (t ≡ 0) ⊎ ((4 ≤ s) × (s ≤ 6)) → AreNoHeader w a s c l b t → ⊥
both_bits w a s c l b t above colour len none born target n = grind arith

-- the two exclude each other
not_both : (word : ℕ) → HoldsHeader word → HoldsNoHeader word → ⊥
not_both word h n = both_bits word (bits_above word) (state_bits word) (colour_bits word) (len_bits word) (birth_bits word) (target_bits word) h.above h.colour h.len h.absent h.born h.target n

-- the header that a word's bits spell
unfoldable pub read : ℕ → Header
read word = record {
  state = state_of (state_bits word);
  colour = colour_of (colour_bits word);
  len = len_bits word;
  birth = birth_bits word;
  target = target_bits word;
}

no_target : (s t : ℕ) → (t ≡ 0) ⊎ ((4 ≤ s) × (s ≤ 6)) → (s < 4) ⊎ (6 < s) → t ≡ 0
no_target s t may outside = grind arith

object_without_target : (word code : ℕ) → code ≡ state_bits word → code ≢ 0 → (code < 4) ⊎ (6 < code) → HoldsHeader word → (0 < birth_bits word) × (target_bits word ≡ 0)
object_without_target word code e object outside h =
    let there : state_bits word ≢ 0 = λ z. object (e ∙ z) in
    let none : (state_bits word < 4) ⊎ (6 < state_bits word) = let P : ℕ → Type 0 = λ n. (n < 4) ⊎ (6 < n) in subst P e outside in
    (h.born there, no_target (state_bits word) (target_bits word) h.target none)

fits_state : (s : State) (word : ℕ) → code_of s ≡ state_bits word → HoldsHeader word → FitsState s (read word)
unfolding read colour_of
fits_state Absent word e h = subst (λ w. FitsState Absent (read w)) (sym (h.absent (sym e))) (refl, refl, refl, refl)
fits_state Plain word e h = object_without_target word 1 e (omega arith) (inl (lit< tt)) h
fits_state Kept word e h = object_without_target word 2 e (omega arith) (inl (lit< tt)) h
fits_state Tagged word e h = object_without_target word 3 e (omega arith) (inl (lit< tt)) h
fits_state Wide word e h = h.born (omega arith)
fits_state Moving word e h = h.born (omega arith)
fits_state Forward word e h = h.born (omega arith)
fits_state Dead word e h = object_without_target word 7 e (omega arith) (inr (lit< tt)) h

read-fits : (word : ℕ) → HoldsHeader word → IsHeader (read word)
unfolding read
read-fits word h = record {
  len = h.len;
  birth = omega arith;
  target = omega arith;
  state = fits_state (state_of (state_bits word)) word (code_of-state_of (state_bits word) (omega arith)) h;
}

read-packs : (word : ℕ) → HoldsHeader word → word_of_header (read word) ≡ word
unfolding read word_of_header
read-packs word h =
    let state : code_of (state_of (state_bits word)) ≡ state_bits word = code_of-state_of (state_bits word) (omega arith) in
    let colour : colour_code_of (colour_of (colour_bits word)) ≡ colour_bits word = colour_code_of-colour_of (colour_bits word) h.colour in
    omega (arith, h.above)

-- the word of a header holds what its bits spell
pub header_of-true : (word : ℕ) → names_header word ≡ true → header_of word ≡ Some (read word)
unfolding header_of read
header_of-true word h = rw h refl

-- a word that is not holds none
pub header_of-false : (word : ℕ) → names_header word ≡ false → header_of word ≡ None
unfolding header_of
header_of-false word h = rw h refl

known : (b : Bool) → (b ≡ true) ⊎ (b ≡ false)
known true = inl refl
known false = inr refl

-- a word names no header exactly where its bits say so
pub header_of-none : (word : ℕ) → IsNone (header_of word) ↔ HoldsNoHeader word
header_of-none word = elim (known (names_header word)) [
  | inl there ↦ rw (header_of-true word there) ((λ e. cc), λ n. absurd (not_both word (holds_header word there) n))
  | inr none ↦ rw (header_of-false word none) ((λ _. holds_no_header word none), λ _. refl)
]

-- what unpacks fits
pub header_of-fits : (word : ℕ) → IfSome (header_of word) IsHeader
header_of-fits word = elim (known (names_header word)) [
  | inl there ↦ rw (header_of-true word there) (read-fits word (holds_header word there))
  | inr none ↦ rw (header_of-false word none) tt
]

-- and a word is the packed word of what it holds
pub word_of_header-header_of : (word : ℕ) → IfSome (header_of word) (λ h. word_of_header h ≡ word)
word_of_header-header_of word = elim (known (names_header word)) [
  | inl there ↦ rw (header_of-true word there) (read-packs word (holds_header word there))
  | inr none ↦ rw (header_of-false word none) tt
]
