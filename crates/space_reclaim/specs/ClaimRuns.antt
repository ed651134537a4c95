-- What a claim found on its way to its end.
use Rattle.std.specs.Prelude.{◌≡◌, ◌≢◌, ℕ, ◌⊎◌, List, [], ◌∷◌}
use Rattle.call_steps.specs.declared.step.Step.{Step}
use Rattle.call_steps.specs.declared.step.Step.TheVariants.{Exchange, Ended}
use Rattle.call_steps.specs.Steps.{place_of}
use Rattle.heap_words.specs.Layouts.{Sizes, region_at}
use Rattle.space_reclaim.specs.declared.region_word.RegionWord.TheVariants.{Taken}
use Rattle.space_reclaim.specs.declared.claim.ClaimEnd.TheVariants.{Claimed, NoneFree}
use Rattle.space_reclaim.specs.declared.claim.ClaimMachine.{ClaimMachine}
use Rattle.space_reclaim.specs.declared.claim.ClaimMachine.TheVariants as claim
use Rattle.space_reclaim.specs.RegionWords.{word_of_region}
use Rattle.space_reclaim.specs.OwnRegions.{IsOwn}
use Rattle.space_reclaim.specs.Claims.{asks_of, fed_of}

-- the machine after its steps found these words, one after another
abbrev pub after : ClaimMachine → List ℕ → ClaimMachine
after m [] = m
after m (word ∷ rest) = after (fed_of m word) rest

-- the step finds this word at the address, and it is not the one of Free
abbrev pub FindsInUse : Step → ℕ → ℕ → Type 0
FindsInUse Ended word at = ⊥
FindsInUse step word at = (place_of step ≡ at) × (word ≢ 0)

-- one of its steps did
abbrev pub FoundInUse : ClaimMachine → List ℕ → ℕ → Type 0
FoundInUse m [] at = ⊥
FoundInUse m (word ∷ rest) at = FindsInUse (asks_of m) word at ⊎ FoundInUse (fed_of m word) rest at

-- one of its steps was the exchange of the word at the address from Free to `taken`, and found Free
abbrev pub Exchanged : ClaimMachine → List ℕ → ℕ → ℕ → Type 0
Exchanged m [] at taken = ⊥
Exchanged m (word ∷ rest) at taken = ((asks_of m ≡ Exchange at 0 taken) × (word ≡ 0)) ⊎ Exchanged (fed_of m word) rest at taken

-- Whatever it finds: a region that it claims is one of the pass's own, and became the pass's; and where none is free, each of the own regions, as many as the quota, was found in use.
pub record EndsWithCause (l : Sizes) (pass : ℕ) (m : ClaimMachine) : Type 0 where
  pub claimed : (found : List ℕ) (region : ℕ) → after m found ≡ claim.Ended (Claimed region) → IsOwn l pass region × Exchanged m found (region_at l region) (word_of_region (Taken pass))
  pub none_free : (found : List ℕ) (regions : ℕ) → after m found ≡ claim.Ended (NoneFree regions) → (regions ≡ l.quota) × ((region : ℕ) → IsOwn l pass region → FoundInUse m found (region_at l region))
