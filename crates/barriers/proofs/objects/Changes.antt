-- What the change of a call makes of the values of the heap, and that it fits the heap before it.
use Rattle.std.specs.Prelude.{IsTrue}
use Rattle.std.proofs.Common.{◌≡◌, ◌≢◌, ℕ, ◌<◌, ◌⊎◌, inl, inr, refl, arith, ap, sym, ◌∙◌, true, Some, None, List, ◌∷◌}
use Rattle.heap_words.specs.declared.field_word.FieldWord.{FieldWord}
use Rattle.heap_words.specs.declared.field_word.FieldWord.TheVariants as words
use Rattle.heap_history.specs.FixedHeaps.{answer, is_there}
use Rattle.heap_history.specs.NewestFirst.{heap_of_history, value_at, len_at}
use Rattle.heap_history.specs.ValueLaws.{value_at-write, value_at-write_other, value_at-exchange, value_at-exchange_other, object_there, answer-write, answer-exchange}
use Rattle.heap_history.specs.declared.call.Call.{Call}
use Rattle.heap_history.specs.declared.call.Value.{Value}
use Rattle.barriers.specs.declared.spot.Spot.{Spot}
use Rattle.barriers.specs.States.{On}
use Rattle.barriers.specs.Spaces.{Space, Holds}
use Rattle.barriers.specs.Values.{value_of}
use Rattle.barriers.specs.Knowns.{Task, Reads, Writes, Exchanges, Known, Finds, has_field, hand_of, task_of, word_in, wanted_of, wanted, puts, call_of}
use Rattle.barriers.specs.Protocols.{Wants}
use Rattle.barriers.specs.Objects.{HasLens, reply_made}
use Rattle.barriers.proofs.objects.Base.{number_tells}

-- the new history has this value in a field, and is the old one in all others
abbrev pub IsPut : List Call → List Call → ℕ → ℕ → Value → Type 0
IsPut h new b f v = (x g : ℕ) → ((x ≡ b) × (g ≡ f) × (value_at new x g ≡ v)) ⊎ (((x ≡ b) × (g ≡ f) → ⊥) × (value_at new x g ≡ value_at h x g))

-- an object and a field, or another
by_place : (b f x g : ℕ) → ((x ≡ b) × (g ≡ f)) ⊎ ((((x ≡ b) × (g ≡ f) → ⊥)) × ((x ≢ b) ⊎ (g ≢ f)))
by_place b f x g = elim (number_tells x b) [
  | inl e ↦ elim (number_tells g f) [ inl q ↦ inl (e, q) | inr q ↦ inr ((λ p. q p.1), inr q) ]
  | inr e ↦ inr ((λ p. e p.0), inl e)
]

pub value_put : (h : List Call) (pass : ℕ) (z : Spot) (t : Task) (w : FieldWord) → word_in t ≡ Some w → answer (heap_of_history h) (call_of pass z t) ≡ reply_made t → IsPut h (call_of pass z t ∷ h) z.birth z.field (value_of w)
value_put h pass z Reads w is said x g = absurd (let gone : None ≡ Some w = is in cc)
value_put h pass z (Writes word) w is said x g =
    let same : word ≡ w = cc in
    elim (by_place z.birth z.field x g) [
      | inl p ↦ inl (p.0, p.1, rw (p.0, p.1) (value_at-write h pass z.birth z.field (value_of word) said ∙ ap value_of same))
      | inr p ↦ inr (p.0, value_at-write_other h pass z.birth z.field (value_of word) x g said p.1)
    ]
value_put h pass z (Exchanges expected word) w is said x g =
    let same : word ≡ w = cc in
    elim (by_place z.birth z.field x g) [
      | inl p ↦ inl (p.0, p.1, rw (p.0, p.1) (value_at-exchange h pass z.birth z.field expected (value_of word) said ∙ ap value_of same))
      | inr p ↦ inr (p.0, value_at-exchange_other h pass z.birth z.field expected (value_of word) x g said p.1)
    ]

-- ---- the word that a step puts

pub puts_word : (k : Known) (found : Finds) (v : FieldWord) → puts k found ≡ Some v → word_in (task_of k) ≡ Some v
puts_word k found v e = grind (arith, e)

-- is the one in its hand
pub puts_hand : (k : Known) (found : Finds) (v : FieldWord) → puts k found ≡ Some v → hand_of k ≡ Some v
puts_hand k found v e = grind (arith, e)

pub puts_inside : (k : Known) (found : Finds) (v : FieldWord) → puts k found ≡ Some v → has_field k ≡ true
puts_inside k found v e = grind (arith, e)

pub puts_wanted : (k : Known) (found : Finds) (v : FieldWord) → puts k found ≡ Some v → wanted k ≡ wanted_of (task_of k)
puts_wanted k found v e = grind (arith, e)

-- ---- it fits the heap before it

word_there : (s : Space) (w : FieldWord) → HasLens s → On (Holds s) w → IsTrue (is_there (heap_of_history s.history) (value_of w))
word_there s (words.Num n) lens holds = refl
word_there s (words.Link b a) lens holds = object_there s.history b (s.len a) (ap (λ x. len_at s.history x) (sym holds.0) ∙ lens a holds.1)

pub put_fits : (s : Space) (pass : ℕ) (z : Spot) (t : Task) (w : FieldWord) (len : ℕ) → HasLens s → word_in t ≡ Some w → On (Holds s) w → len_at s.history z.birth ≡ Some len → z.field < len → Wants (wanted_of t) (value_at s.history z.birth z.field)
    → answer (heap_of_history s.history) (call_of pass z t) ≡ reply_made t
put_fits s pass z Reads w len lens is holds had lt wants = absurd (let gone : None ≡ Some w = is in cc)
put_fits s pass z (Writes word) w len lens is holds had lt wants =
    let same : word ≡ w = cc in answer-write s.history pass z.birth z.field len (value_of word) had lt (rw same (word_there s w lens holds))
put_fits s pass z (Exchanges expected word) w len lens is holds had lt wants =
    let same : word ≡ w = cc in answer-exchange s.history pass z.birth z.field len expected (value_of word) had lt (rw same (word_there s w lens holds)) wants
