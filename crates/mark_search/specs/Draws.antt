-- The draws of marks, by number.
use Rattle.std.specs.Prelude.{◌≡◌, ℕ, ◌+◌, ◌-◌, ◌%◌, ◌^◌, ◌==◌, min, if◌then◌else◌}
use Rattle.heap_words.specs.declared.limits.TheConstants.{NUMBER_LIMIT}
use Rattle.rand_pcg.specs.Lcg.{started, advance, increment_of}
use Rattle.rand_pcg.specs.Pcg.{multiplier_128, pcg64}
use Rattle.mark_search.specs.declared.candidates.Candidates.{Candidates}

-- the low 48 bits of a word, and 1 where these are 0
abbrev pub candidate_of : ℕ → ℕ
candidate_of word = if word % NUMBER_LIMIT == 0 then 1 else word % NUMBER_LIMIT

-- word number n, from 0, of the generator that a salt begins
abbrev pub word_at : ℕ → ℕ → ℕ
word_at salt n = (pcg64 (advance 128 multiplier_128 n (started 128 multiplier_128 salt (increment_of 128 1)))).0

-- candidate number n, from 0, of a salt
unfoldable pub candidate_at : ℕ → ℕ → ℕ
candidate_at salt n = candidate_of (word_at salt n)

-- the candidates of a salt, from the first on
abbrev pub candidates_of : ℕ → Candidates
candidates_of salt = record { salt = salt; drawn = 0 }

-- none is drawn yet
abbrev pub IsUndrawn : Candidates → Type 0
IsUndrawn c = c.drawn ≡ 0

-- the one that is drawn next
abbrev pub next_of : Candidates → ℕ
next_of c = candidate_at c.salt c.drawn

-- the one of the last draw that was counted, and 0 before the first
abbrev pub last_of : Candidates → ℕ
last_of c = if c.drawn == 0 then 0 else candidate_at c.salt (c.drawn - 1)

-- with one more drawn; the count stays at its largest value
abbrev pub drawn_on : Candidates → Candidates
drawn_on c = record c { drawn = min (c.drawn + 1) (2 ^ 32 - 1) }
