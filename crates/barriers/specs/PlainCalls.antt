-- How a call goes on at a word that it loads, stores or exchanges, in an original or in a copy, whatever copier it is of.
use Rattle.std.specs.Prelude.{ℕ, zero, suc, nat_lt, if◌then◌else◌}
use Rattle.heap_words.specs.declared.field_word.FieldWord.{FieldWord}
use Rattle.heap_words.specs.FieldWords.{word_of}
use Rattle.heap_history.specs.FixedHeaps.{is_same}
use Rattle.barriers.specs.declared.spot.Spot.{Spot}
use Rattle.barriers.specs.declared.ends.TryRefusal.TheVariants as refusal
use Rattle.barriers.specs.States.{same_word}
use Rattle.barriers.specs.Stances.{Stance}
use Rattle.barriers.specs.Values.{value_of}
use Rattle.barriers.specs.Knowns.{Task, Reads, Writes, Exchanges, Ending, Got, Wrote, Done, Refused, Known, Loads, Stores, Swaps, Loads_copy, Stores_copy, Swaps_copy, Over, Finds, Field_word, closes}

-- the object has no such field
abbrev pub no_field : Spot → Task → ℕ → Known
no_field s t len = Over s t (Refused (refusal.NoField len))

-- to the word in the original, and to the one in the copy
abbrev pub to_original : Spot → Task → Known
to_original s (Writes word) = Stores s word
to_original s t = Loads s t

abbrev pub to_copy : Spot → Task → ℕ → Known
to_copy s (Writes word) to = Stores_copy s word to
to_copy s t to = Loads_copy s t to

-- only where the object has the field
abbrev pub where_field : Spot → Task → ℕ → Known → Known
where_field s t len next = if nat_lt s.field len then next else no_field s t len

-- ---- what was loaded

-- A read has its word; an exchange compares; a write exchanges from what it loaded. `swaps` is the exchange from that word.
abbrev pub loaded : (FieldWord → ℕ → Known) → Stance → Spot → Task → FieldWord → Known
loaded swaps acked s Reads x = closes acked s Reads x
loaded swaps acked s (Writes word) x = swaps x 2
loaded swaps acked s (Exchanges expected word) x = if is_same (value_of x) expected then swaps x 2 else closes acked s (Exchanges expected word) x

-- ---- an exchange

abbrev pub end_made : Task → FieldWord → Ending
end_made Reads x = Got x
end_made (Writes word) x = Wrote
end_made (Exchanges expected word) x = Done

abbrev pub raced : Spot → Task → FieldWord → FieldWord → Known
raced s t x y = Over s t (Refused (refusal.Raced (word_of x) (word_of y)))

-- from x it found y, which serves as well
abbrev pub again : (FieldWord → ℕ → Known) → Spot → Task → FieldWord → FieldWord → ℕ → Known
again swaps s t x y zero = raced s t x y
again swaps s t x y (suc n) = swaps y n

abbrev pub lost : (FieldWord → ℕ → Known) → Stance → Spot → Task → FieldWord → FieldWord → ℕ → Known
lost swaps acked s Reads x y n = closes acked s Reads y
lost swaps acked s (Writes word) x y n = again swaps s (Writes word) x y n
lost swaps acked s (Exchanges expected word) x y n =
    if is_same (value_of y) expected then again swaps s (Exchanges expected word) x y n else closes acked s (Exchanges expected word) y

-- from x it found y
abbrev pub exchanged : (FieldWord → ℕ → Known) → Stance → Spot → Task → FieldWord → FieldWord → ℕ → Known
exchanged swaps acked s t x y n = if same_word y x then Over s t (end_made t y) else lost swaps acked s t x y n

-- ---- every step at such a word; all else stays

abbrev pub plainly_fed : Stance → Known → Finds → Known
plainly_fed acked (Loads s t) (Field_word x) = loaded (Swaps s t) acked s t x
plainly_fed acked (Stores s word) found = Over s (Writes word) Wrote
plainly_fed acked (Swaps s t x n) (Field_word y) = exchanged (Swaps s t) acked s t x y n
plainly_fed acked (Loads_copy s t to) (Field_word x) = loaded (Swaps_copy s t to) acked s t x
plainly_fed acked (Stores_copy s word to) found = Over s (Writes word) Wrote
plainly_fed acked (Swaps_copy s t to x n) (Field_word y) = exchanged (Swaps_copy s t to) acked s t x y n
plainly_fed acked k found = k
