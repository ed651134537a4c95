-- There is one record a party.
use Rattle.std.specs.Prelude.{IsPermutation, ◌≢◌, ◌==◌, if◌then◌else◌}
use Rattle.std.specs.List.{All, sum_by}
use Rattle.std.proofs.Common.{◌≡◌, ℕ, ◌+◌, List, [], ◌∷◌, refl, sym, ap, ◌∙◌, arith}
use Rattle.std.proofs.lemmas.Bool.{eq-eqb}
use Rattle.std.proofs.lemmas.List.Elements.{All-nil, All-cons, All-weaker}
use Rattle.std.proofs.lemmas.List.Sums.{sum_by-cons}
use Rattle.std.proofs.lemmas.List.Sorted.{sum_by-IsPermutation, length_permutation}
use Rattle.heap_words.specs.Layouts.{Sizes, IsPass}
use Rattle.barriers.specs.Kits.{Kit}
use Rattle.lawful_records.specs.LawfulRecords.{AreParties, is_pass_of, is_collector}
use Rattle.lawful_records.specs.Records.{number_of}
use Rattle.lawful_records.specs.declared.records.PassKnown.{PassKnown}
use Rattle.lawful_records.specs.declared.records.CollectorKnown.{CollectorKnown}
use Rattle.lawful_records.specs.declared.records.Party.{Party}
use Rattle.lawful_records.specs.declared.records.Party.TheVariants as party

-- the second is a later record of the same party
abbrev pub SameParty : {R W E M : Type 0} → Party R W E M → Party R W E M → Type 0
SameParty (party.Pass p) (party.Pass q) = number_of q ≡ number_of p
SameParty (party.Collector p) (party.Collector q) = Unit {0}
SameParty r q = ⊥

-- it is no record of this pass
abbrev pub IsOther : {R W E M : Type 0} → ℕ → Party R W E M → Type 0
IsOther m (party.Pass p) = number_of p ≢ m
IsOther m (party.Collector q) = Unit {0}

abbrev pub IsPassParty : {R W E M : Type 0} → Party R W E M → Type 0
IsPassParty (party.Pass p) = Unit {0}
IsPassParty (party.Collector q) = ⊥

-- where a sum is 0 each term is
none_in : {X : Type 0} → (f : X → ℕ) (xs : List X) → sum_by f xs ≡ 0 → All (λ x. f x ≡ 0) xs
none_in f [] none = All-nil (λ x. f x ≡ 0)
none_in f (x ∷ xs) none = All-cons (λ x. f x ≡ 0) x xs (omega (arith, none, sum_by-cons f x xs)) (none_in f xs (omega (arith, none, sum_by-cons f x xs)))

-- where the first term is the same the sum is
same_sum : {X : Type 0} → (f : X → ℕ) (x y : X) (xs : List X) → f y ≡ f x → sum_by f (y ∷ xs) ≡ sum_by f (x ∷ xs)
same_sum f x y xs same = sum_by-cons f y xs ∙ ap (λ n. n + sum_by f xs) same ∙ sym (sum_by-cons f x xs)

-- and where it is 1 and all are 1 the others are 0
none_after : {X : Type 0} → (f : X → ℕ) (x : X) (xs : List X) → f x ≡ 1 → sum_by f (x ∷ xs) ≡ 1 → All (λ y. f y ≡ 0) xs
none_after f x xs one all = none_in f xs (omega (arith, one, all, sum_by-cons f x xs))

module _ {R W E M : Type 0} (kit : Kit R W E M) where
  same_pass : (pass : ℕ) (r q : Party R W E M) → SameParty r q → is_pass_of kit pass q ≡ is_pass_of kit pass r
  same_pass pass (party.Pass p) (party.Pass q) same = ap (λ n. if n == pass then 1 else 0) same
  same_pass pass (party.Collector p) (party.Collector q) same = refl
  same_pass pass (party.Pass p) (party.Collector q) same = absurd same
  same_pass pass (party.Collector p) (party.Pass q) same = absurd same

  same_collector : (r q : Party R W E M) → SameParty r q → is_collector kit q ≡ is_collector kit r
  same_collector (party.Pass p) (party.Pass q) same = refl
  same_collector (party.Collector p) (party.Collector q) same = refl
  same_collector (party.Pass p) (party.Collector q) same = absurd same
  same_collector (party.Collector p) (party.Pass q) same = absurd same

  pub parties_turn : (l : Sizes) (r q : Party R W E M) (others : List (Party R W E M)) → SameParty r q → AreParties kit l (r ∷ others) → AreParties kit l (q ∷ others)
  parties_turn l r q others same are = record {
    many = are.many;
    passes = λ pass is. same_sum (is_pass_of kit pass) r q others (same_pass pass r q same) ∙ are.passes pass is;
    collector = same_sum (is_collector kit) r q others (same_collector r q same) ∙ are.collector;
  }

  pub parties_regroup : (l : Sizes) (rs qs : List (Party R W E M)) → IsPermutation rs qs → AreParties kit l rs → AreParties kit l qs
  parties_regroup l rs qs moves are = record {
    many = length_permutation rs qs moves ∙ are.many;
    passes = λ pass is. sum_by-IsPermutation (is_pass_of kit pass) rs qs moves ∙ are.passes pass is;
    collector = sum_by-IsPermutation (is_collector kit) rs qs moves ∙ are.collector;
  }

  not_pass : (m : ℕ) (r : Party R W E M) → is_pass_of kit m r ≡ 0 → IsOther m r
  not_pass m (party.Pass p) none = λ same. let one : is_pass_of kit m (party.Pass p) ≡ 1 = ap (λ test. if test then 1 else 0) (eq-eqb (number_of p) m same) in omega (arith, none, one)
  not_pass m (party.Collector q) none = tt

  -- the other records are of other passes
  pub others_differ : (l : Sizes) (p : PassKnown R W E) (others : List (Party R W E M)) → IsPass l (number_of p) → AreParties kit l (party.Pass p ∷ others) → All (IsOther (number_of p)) others
  others_differ l p others pass are =
      let m = number_of p in
      let one : is_pass_of kit m (party.Pass p) ≡ 1 = ap (λ test. if test then 1 else 0) (eq-eqb m m refl) in
      All-weaker (λ r. is_pass_of kit m r ≡ 0) (IsOther m) (not_pass m) others (none_after (is_pass_of kit m) (party.Pass p) others one (are.passes m pass))

  not_collector : (r : Party R W E M) → is_collector kit r ≡ 0 → IsPassParty r
  not_collector (party.Pass p) none = tt
  not_collector (party.Collector q) none = absurd (omega (arith, none))

  -- and beside the collector there are passes alone
  pub others_pass : (l : Sizes) (q : CollectorKnown M) (others : List (Party R W E M)) → AreParties kit l (party.Collector q ∷ others) → All IsPassParty others
  others_pass l q others are = All-weaker (λ r. is_collector kit r ≡ 0) IsPassParty not_collector others (none_after (is_collector kit) (party.Collector q) others refl are.collector)
