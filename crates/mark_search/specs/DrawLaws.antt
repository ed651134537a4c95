-- Each candidate is a number other than 0.
use Rattle.std.specs.Prelude.{◌≡◌, ℕ, ◌-◌, ◌<◌, ◌≤◌, ◌==◌, false}
use Rattle.std.proofs.Common.{arith}
use Rattle.std.proofs.lemmas.Bool.Decides.{nat_tests}
use Rattle.heap_words.specs.declared.limits.TheConstants.{NUMBER_LIMIT}
use Rattle.mark_search.specs.Draws.{candidate_of, word_at, candidate_at, last_of}
use Rattle.mark_search.specs.declared.candidates.Candidates.{Candidates}

of_some : (word : ℕ) → 0 < candidate_of word
of_some word = grind (arith, nat_tests)

of_fits : (word : ℕ) → candidate_of word < NUMBER_LIMIT
of_fits word = grind (arith, nat_tests)

-- it is not 0
pub candidate_some : (salt n : ℕ) → 0 < candidate_at salt n
unfolding candidate_at
candidate_some salt n = of_some (word_at salt n)

-- it fits a field
pub candidate_fits : (salt n : ℕ) → candidate_at salt n < NUMBER_LIMIT
unfolding candidate_at
candidate_fits salt n = of_fits (word_at salt n)

-- and neither is the last that was drawn
pub last_some : (c : Candidates) → 1 ≤ c.drawn → 0 < last_of c
last_some c some = let counted : (c.drawn == 0) ≡ false = grind (arith, nat_tests, some) in rw counted (candidate_some c.salt (c.drawn - 1))
