-- The round of a pass goes over each of its own regions.
use Rattle.std.specs.Prelude.{nat_le, ◌&&◌, ◌≡◌, ◌≢◌, ℕ, ◌+◌, ◌-◌, ◌<◌, ◌≤◌, ◌==◌, nat_lt, ◌⊎◌, List, [], ◌∷◌, Bool, true, false, if◌then◌else◌, Option, Some, None, refl}
use Rattle.std.proofs.Common.{arith, inl, inr, ap, sym, ◌∙◌, subst}
use Rattle.std.proofs.lemmas.Bool.Decides.{nat_tests}
use Rattle.std.proofs.lemmas.Bool.{cases_eq}
use Rattle.call_steps.specs.declared.step.Step.TheVariants.{Exchange}
use Rattle.heap_words.specs.Layouts.{Sizes, IsLayout, region_at}
use Rattle.space_reclaim.specs.declared.region_word.RegionWord.TheVariants.{Taken}
use Rattle.space_reclaim.specs.declared.claim.Round.{Round}
use Rattle.space_reclaim.specs.declared.claim.ClaimEnd.{ClaimEnd}
use Rattle.space_reclaim.specs.declared.claim.ClaimEnd.TheVariants.{Claimed, NoneFree}
use Rattle.space_reclaim.specs.declared.claim.ClaimMachine.{ClaimMachine}
use Rattle.space_reclaim.specs.declared.claim.ClaimMachine.TheVariants as claim
use Rattle.space_reclaim.specs.RegionWords.{word_of_region}
use Rattle.space_reclaim.specs.OwnRegions.{IsOwn, first_own, last_own, begins_at}
use Rattle.space_reclaim.specs.Claims.{round_of, next_round, region_of, passed_by, fed_of}
use Rattle.space_reclaim.specs.ClaimRuns.{after, FoundInUse, Exchanged, EndsWithCause}

-- the address looked at is that of one of the pass's own regions
record IsOnRound (r : Round) : Type 0 where
  first : r.first_at ≤ r.at
  last : r.at ≤ r.last_at

-- the address is looked at now or comes before the round ends
record IsAhead (r : Round) (at : ℕ) : Type 0 where
  first : r.first_at ≤ at
  last : at ≤ r.last_at
  ahead : ((r.at ≤ at) × (at ≤ r.at + r.ahead)) ⊎ (at + (r.last_at + 1 - r.first_at) ≤ r.at + r.ahead)

next-cases : (first last at : ℕ) (b : Bool) → first ≤ last → nat_lt at last ≡ b → at ≤ last → (((if b then at + 1 else first) ≡ at + 1) × (at < last)) ⊎ (((if b then at + 1 else first) ≡ first) × (at ≡ last))
next-cases first last at true order e within = inl (refl, grind (arith, nat_tests))
next-cases first last at false order e within = inr (refl, grind (arith, nat_tests))

next_on_round : (r : Round) → IsOnRound r → IsOnRound (next_round r)
next_on_round r on = elim (next-cases r.first_at r.last_at r.at (nat_lt r.at r.last_at) (omega arith) refl on.last) [
  | inl up ↦ record { first = omega (arith, up.0, on.first); last = omega (arith, up.0, up.1) }
  | inr round ↦ record { first = omega (arith, round.0); last = omega (arith, round.0, on.first, on.last) }
]

-- plain numbers: what is ahead and is not looked at now is still ahead at the next place
still_ahead : (first last at ahead next a : ℕ) → first ≤ a → a ≤ last → first ≤ at → at ≤ last → at ≢ a → ahead ≢ 0 → ((next ≡ at + 1) × (at < last)) ⊎ ((next ≡ first) × (at ≡ last)) → ((at ≤ a) × (a ≤ at + ahead)) ⊎ (a + (last + 1 - first) ≤ at + ahead) → ((next ≤ a) × (a ≤ next + (ahead - 1))) ⊎ (a + (last + 1 - first) ≤ next + (ahead - 1))
still_ahead first last at ahead next a fa la fi li other more step is = grind arith

ended : (e : ClaimEnd) (found : List ℕ) → after (claim.Ended e) found ≡ claim.Ended e
ended e [] = refl
ended e (word ∷ rest) = ended e rest

-- what is fed to it where the word is Free's, and where it is not
look-free : (r : Round) (word : ℕ) → word ≡ 0 → fed_of (claim.Look r) word ≡ claim.Claim r
look-free r word e = rw e refl

look-used : (r : Round) (word : ℕ) → word ≢ 0 → fed_of (claim.Look r) word ≡ passed_by claim.Look r
look-used r word used = grind (arith, nat_tests)

claim-free : (r : Round) (word : ℕ) → word ≡ 0 → fed_of (claim.Claim r) word ≡ claim.Ended (Claimed (region_of r))
claim-free r word e = rw e refl

claim-used : (r : Round) (word : ℕ) → word ≢ 0 → fed_of (claim.Claim r) word ≡ passed_by claim.Claim r
claim-used r word used = grind (arith, nat_tests)

next_ahead : (r : Round) (at : ℕ) → IsOnRound r → IsAhead r at → r.at ≢ at → r.ahead ≢ 0 → IsAhead (next_round r) at
next_ahead r at here there other more = record {
  first = there.first;
  last = there.last;
  ahead = still_ahead r.first_at r.last_at r.at r.ahead _ at there.first there.last here.first here.last other more (next-cases r.first_at r.last_at r.at (nat_lt r.at r.last_at) (omega arith) refl here.last) there.ahead;
}

-- plain numbers: with nothing after the place, only the place itself is ahead
here_alone : (first last at ahead a : ℕ) → first ≤ a → at ≤ last → ahead ≡ 0 → ((at ≤ a) × (a ≤ at + ahead)) ⊎ (a + (last + 1 - first) ≤ at + ahead) → at ≡ a
here_alone first last at ahead a fa li none is = grind arith

-- a region in use, after which the round goes on or ends
passed_found : (on : Round → ClaimMachine) (r : Round) (rest : List ℕ) (at k : ℕ) (none : Bool) → (r.ahead == 0) ≡ none → IsOnRound r → IsAhead r at → (IsAhead (next_round r) at → after (on (next_round r)) rest ≡ claim.Ended (NoneFree k) → FoundInUse (on (next_round r)) rest at) → after (if none then claim.Ended (NoneFree r.regions) else on (next_round r)) rest ≡ claim.Ended (NoneFree k) → (r.at ≡ at) ⊎ FoundInUse (if none then claim.Ended (NoneFree r.regions) else on (next_round r)) rest at
passed_found on r rest at k true e here there go is =
    let nothing : r.ahead ≡ 0 = grind (arith, nat_tests) in
    inl (here_alone r.first_at r.last_at r.at r.ahead at there.first here.last nothing there.ahead)
passed_found on r rest at k false e here there go is =
    let more : r.ahead ≢ 0 = grind (arith, nat_tests) in
    elim (cases_eq r.at at) [ inl same ↦ inl same | inr other ↦ inr (go (next_ahead r at here there other more) is) ]

claim_found : (r : Round) (found : List ℕ) (at k : ℕ) → IsOnRound r → IsAhead r at → after (claim.Claim r) found ≡ claim.Ended (NoneFree k) → FoundInUse (claim.Claim r) found at
claim_found r [] at k here there is = absurd cc
claim_found r (word ∷ rest) at k here there is = elim (cases_eq word 0) [
  | inl free ↦
      let now : after (claim.Ended (Claimed (region_of r))) rest ≡ claim.Ended (NoneFree k) = subst (λ m. after m rest ≡ claim.Ended (NoneFree k)) (claim-free r word free) is in
      let e = sym (ended (Claimed (region_of r)) rest) ∙ now in
      absurd cc
  | inr used ↦
      let now : after (passed_by claim.Claim r) rest ≡ claim.Ended (NoneFree k) = subst (λ m. after m rest ≡ claim.Ended (NoneFree k)) (claim-used r word used) is in
      elim (passed_found claim.Claim r rest at k (r.ahead == 0) refl here there (λ ahead next. claim_found (next_round r) rest at k (next_on_round r here) ahead next) now) [
        | inl same ↦ inl (same, used)
        | inr later ↦ inr (subst (λ m. FoundInUse m rest at) (sym (claim-used r word used)) later)
      ]
]

look_found : (r : Round) (found : List ℕ) (at k : ℕ) → IsOnRound r → IsAhead r at → after (claim.Look r) found ≡ claim.Ended (NoneFree k) → FoundInUse (claim.Look r) found at
look_found r [] at k here there is = absurd cc
look_found r (word ∷ rest) at k here there is = elim (cases_eq word 0) [
  | inl free ↦
      let now : after (claim.Claim r) rest ≡ claim.Ended (NoneFree k) = subst (λ m. after m rest ≡ claim.Ended (NoneFree k)) (look-free r word free) is in
      inr (subst (λ m. FoundInUse m rest at) (sym (look-free r word free)) (claim_found r rest at k here there now))
  | inr used ↦
      let now : after (passed_by claim.Look r) rest ≡ claim.Ended (NoneFree k) = subst (λ m. after m rest ≡ claim.Ended (NoneFree k)) (look-used r word used) is in
      elim (passed_found claim.Look r rest at k (r.ahead == 0) refl here there (λ ahead next. look_found (next_round r) rest at k (next_on_round r here) ahead next) now) [
        | inl same ↦ inl (same, used)
        | inr later ↦ inr (subst (λ m. FoundInUse m rest at) (sym (look-used r word used)) later)
      ]
]

-- it tells how many regions the pass has
passed_tells : (on : Round → ClaimMachine) (r : Round) (rest : List ℕ) (k : ℕ) (none : Bool) → (after (on (next_round r)) rest ≡ claim.Ended (NoneFree k) → k ≡ r.regions) → after (if none then claim.Ended (NoneFree r.regions) else on (next_round r)) rest ≡ claim.Ended (NoneFree k) → k ≡ r.regions
passed_tells on r rest k true go is = let e = sym is ∙ ended (NoneFree r.regions) rest in cc
passed_tells on r rest k false go is = go is

claim_tells : (r : Round) (found : List ℕ) (k : ℕ) → after (claim.Claim r) found ≡ claim.Ended (NoneFree k) → k ≡ r.regions
claim_tells r [] k is = absurd cc
claim_tells r (word ∷ rest) k is = elim (cases_eq word 0) [
  | inl free ↦
      let now : after (claim.Ended (Claimed (region_of r))) rest ≡ claim.Ended (NoneFree k) = subst (λ m. after m rest ≡ claim.Ended (NoneFree k)) (claim-free r word free) is in
      let e = sym (ended (Claimed (region_of r)) rest) ∙ now in
      absurd cc
  | inr used ↦ passed_tells claim.Claim r rest k (r.ahead == 0) (claim_tells (next_round r) rest k) (subst (λ m. after m rest ≡ claim.Ended (NoneFree k)) (claim-used r word used) is)
]

look_tells : (r : Round) (found : List ℕ) (k : ℕ) → after (claim.Look r) found ≡ claim.Ended (NoneFree k) → k ≡ r.regions
look_tells r [] k is = absurd cc
look_tells r (word ∷ rest) k is = elim (cases_eq word 0) [
  | inl free ↦ claim_tells r rest k (subst (λ m. after m rest ≡ claim.Ended (NoneFree k)) (look-free r word free) is)
  | inr used ↦ passed_tells claim.Look r rest k (r.ahead == 0) (look_tells (next_round r) rest k) (subst (λ m. after m rest ≡ claim.Ended (NoneFree k)) (look-used r word used) is)
]

-- it claimed a region of the round by an exchange
record Won (r : Round) (m : ClaimMachine) (found : List ℕ) (k : ℕ) : Type 0 where
  first : r.first_at ≤ r.words_at + k
  last : r.words_at + k ≤ r.last_at
  exchanged : Exchanged m found (r.words_at + k) r.taken

passed_won : (on : Round → ClaimMachine) (r : Round) (rest : List ℕ) (k : ℕ) (none : Bool) → (after (on (next_round r)) rest ≡ claim.Ended (Claimed k) → Won (next_round r) (on (next_round r)) rest k) → after (if none then claim.Ended (NoneFree r.regions) else on (next_round r)) rest ≡ claim.Ended (Claimed k) → Won r (if none then claim.Ended (NoneFree r.regions) else on (next_round r)) rest k
passed_won on r rest k true go is = let e = sym (ended (NoneFree r.regions) rest) ∙ is in absurd cc
passed_won on r rest k false go is = let won = go is in record { first = won.first; last = won.last; exchanged = won.exchanged }

then_won : (r : Round) (m next : ClaimMachine) (word : ℕ) (rest : List ℕ) (k : ℕ) → fed_of m word ≡ next → Won r next rest k → Won r m (word ∷ rest) k
then_won r m next word rest k e won = record {
  first = won.first;
  last = won.last;
  exchanged = inr (subst (λ n. Exchanged n rest (r.words_at + k) r.taken) (sym e) won.exchanged);
}

claimed_is : (e k : ℕ) → claim.Ended (Claimed e) ≡ claim.Ended (Claimed k) → e ≡ k
claimed_is e k is = cc

claim_won : (r : Round) (found : List ℕ) (k : ℕ) → r.words_at ≤ r.first_at → IsOnRound r → after (claim.Claim r) found ≡ claim.Ended (Claimed k) → Won r (claim.Claim r) found k
claim_won r [] k base here is = absurd cc
claim_won r (word ∷ rest) k base here is = elim (cases_eq word 0) [
  | inl free ↦
      let now : after (claim.Ended (Claimed (region_of r))) rest ≡ claim.Ended (Claimed k) = subst (λ m. after m rest ≡ claim.Ended (Claimed k)) (claim-free r word free) is in
      let k_is : region_of r ≡ k = claimed_is (region_of r) k (sym (ended (Claimed (region_of r)) rest) ∙ now) in
      let at_is : r.at ≡ r.words_at + k = omega (arith, here.first) in
      record {
        first = omega (arith, here.first);
        last = omega (arith, here.last);
        exchanged = inl (ap (λ at. Exchange at 0 r.taken) at_is, free);
      }
  | inr used ↦ then_won r (claim.Claim r) (passed_by claim.Claim r) word rest k (claim-used r word used) (passed_won claim.Claim r rest k (r.ahead == 0) (claim_won (next_round r) rest k base (next_on_round r here)) (subst (λ m. after m rest ≡ claim.Ended (Claimed k)) (claim-used r word used) is))
]

look_won : (r : Round) (found : List ℕ) (k : ℕ) → r.words_at ≤ r.first_at → IsOnRound r → after (claim.Look r) found ≡ claim.Ended (Claimed k) → Won r (claim.Look r) found k
look_won r [] k base here is = absurd cc
look_won r (word ∷ rest) k base here is = elim (cases_eq word 0) [
  | inl free ↦ then_won r (claim.Look r) (claim.Claim r) word rest k (look-free r word free) (claim_won r rest k base here (subst (λ m. after m rest ≡ claim.Ended (Claimed k)) (look-free r word free) is))
  | inr used ↦ then_won r (claim.Look r) (passed_by claim.Look r) word rest k (look-used r word used) (passed_won claim.Look r rest k (r.ahead == 0) (look_won (next_round r) rest k base (next_on_round r here)) (subst (λ m. after m rest ≡ claim.Ended (Claimed k)) (look-used r word used) is))
]

begins_own : (l : Sizes) (pass : ℕ) (last : Option ℕ) → IsLayout l → IsOwn l pass (begins_at l pass last)
begins_own l pass None fits = (omega arith, omega arith)
begins_own l pass (Some region) fits = begins_after (first_own l pass) (last_own l pass) region (nat_le (first_own l pass) region) (nat_lt region (last_own l pass)) refl refl (omega arith)
  where
    begins_after : (first last region : ℕ) (a b : Bool) → nat_le first region ≡ a → nat_lt region last ≡ b → first ≤ last → (first ≤ (if a && b then region + 1 else first)) × ((if a && b then region + 1 else first) ≤ last)
    begins_after first last region true true from to order = (grind (arith, nat_tests), grind (arith, nat_tests))
    begins_after first last region true false from to order = (omega arith, order)
    begins_after first last region false b from to order = (omega arith, order)

round_is_on : (l : Sizes) (pass : ℕ) (last : Option ℕ) → IsLayout l → IsOnRound (round_of l pass last)
round_is_on l pass last fits =
    let begins = begins_own l pass last fits in
    record { first = omega (arith, begins.0); last = omega (arith, begins.1) }

-- plain numbers: from any place of a round all places are ahead
all_ahead : (first size at a : ℕ) → 1 ≤ size → first ≤ a → a ≤ first + (size - 1) → first ≤ at → at ≤ first + (size - 1) → ((at ≤ a) × (a ≤ at + (size - 1))) ⊎ (a + (first + (size - 1) + 1 - first) ≤ at + (size - 1))
all_ahead first size at a one fa la fi li = grind arith

round_is_ahead : (l : Sizes) (pass : ℕ) (last : Option ℕ) (region : ℕ) → IsLayout l → IsOwn l pass region → IsAhead (round_of l pass last) (region_at l region)
round_is_ahead l pass last region fits is =
    let begins = begins_own l pass last fits in
    let places = all_ahead (region_at l (first_own l pass)) l.quota (region_at l (begins_at l pass last)) (region_at l region) fits.quota.0 (omega (arith, is.0)) (omega (arith, is.1)) (omega (arith, begins.0)) (omega (arith, begins.1)) in
    let last_is : region_at l (last_own l pass) ≡ region_at l (first_own l pass) + (l.quota - 1) = omega arith in
    record { first = omega (arith, is.0); last = omega (arith, is.1); ahead = rw last_is places }

own_of : (l : Sizes) (pass : ℕ) (last : Option ℕ) (m : ClaimMachine) (found : List ℕ) (region : ℕ) → Won (round_of l pass last) m found region → IsOwn l pass region × Exchanged m found (region_at l region) (word_of_region (Taken pass))
own_of l pass last m found region won =
    let at_is : region_at l 0 + region ≡ region_at l region = omega arith in
    ((omega (arith, won.first), omega (arith, won.last)), subst (λ at. Exchanged m found at (word_of_region (Taken pass))) at_is won.exchanged)

-- a claim ends with the cause that its end says
pub ends_with_cause : (l : Sizes) (pass : ℕ) (last : Option ℕ) → IsLayout l → EndsWithCause l pass (claim.Look (round_of l pass last))
ends_with_cause l pass last fits = record {
  claimed = λ found region is. own_of l pass last _ found region (look_won (round_of l pass last) found region (omega arith) (round_is_on l pass last fits) is);
  none_free = λ found regions is. (
    look_tells (round_of l pass last) found regions is,
    λ region mine. look_found (round_of l pass last) found (region_at l region) regions (round_is_on l pass last fits) (round_is_ahead l pass last region fits mine) is,
  );
}
