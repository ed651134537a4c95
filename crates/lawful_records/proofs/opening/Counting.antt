-- The parties at the start: one a pass, and the collector.
use Rattle.std.specs.Prelude.{sum_by}
use Rattle.std.proofs.Common.{◌≡◌, ◌≢◌, ℕ, zero, suc, ◌+◌, ◌<◌, ◌≤◌, ◌⊎◌, List, [], ◌∷◌, length, cond, refl, ap, inl, inr, arith, length-append}
use Rattle.std.proofs.lemmas.Bool.{cases_eq, eq-eqb, ne_eqb}
use Rattle.std.proofs.lemmas.List.Sums.{sum_by-cons, sum_by-append}
use Rattle.heap_words.specs.Layouts.{Sizes}
use Rattle.barriers.specs.Kits.{Kit}
use Rattle.lawful_records.specs.Jobs.{first_plan}
use Rattle.lawful_records.specs.Collectors.{collector_of, none_awaited}
use Rattle.lawful_records.specs.LawfulRecords.{is_pass_of, is_collector, AreParties}
use Rattle.lawful_records.specs.Opening.{opening_passes, opening_pass, opening_parties}
use Rattle.lawful_records.specs.declared.records.Party.{Party}
use Rattle.lawful_records.specs.declared.records.Party.TheVariants as party

module _ {R W E M : Type 0} (kit : Kit R W E M) (l : Sizes) where
  abbrev passes : ℕ → ℕ → List (Party R W E M)
  passes = opening_passes l

  as_many : (from count : ℕ) → length (passes from count) ≡ count
  as_many from zero = refl
  as_many from (suc count) = ap suc (as_many (from + 1) count)

  no_collector : (from count : ℕ) → sum_by (is_collector kit) (passes from count) ≡ 0
  no_collector from zero = refl
  no_collector from (suc count) = omega (arith, sum_by-cons (is_collector kit) (party.Pass (opening_pass l from)) (passes (from + 1) count), no_collector (from + 1) count)

  not_there : (pass from count : ℕ) → (pass < from) ⊎ (from + count ≤ pass) → sum_by (is_pass_of kit pass) (passes from count) ≡ 0
  not_there pass from zero out = refl
  not_there pass from (suc count) out =
      let other : from ≢ pass = λ same. elim out [ inl low ↦ omega (arith, low, same) | inr high ↦ omega (arith, high, same) ] in
      let one : is_pass_of kit pass (party.Pass (opening_pass l from)) ≡ 0 = ap (λ test. cond test 1 0) (ne_eqb from pass other) in
      let rest : sum_by (is_pass_of kit pass) (passes (from + 1) count) ≡ 0 = not_there pass (from + 1) count (elim out [ inl low ↦ inl (omega (arith, low)) | inr high ↦ inr (omega (arith, high)) ]) in
      omega (arith, sum_by-cons (is_pass_of kit pass) (party.Pass (opening_pass l from)) (passes (from + 1) count), one, rest)

  once : (pass from count : ℕ) → from ≤ pass → pass < from + count → sum_by (is_pass_of kit pass) (passes from count) ≡ 1
  once pass from zero low high = absurd (omega arith)
  once pass from (suc count) low high = elim (cases_eq from pass) [
    | inl same ↦ (let one : is_pass_of kit pass (party.Pass (opening_pass l from)) ≡ 1 = ap (λ test. cond test 1 0) (eq-eqb from pass same) in
        let rest : sum_by (is_pass_of kit pass) (passes (from + 1) count) ≡ 0 = not_there pass (from + 1) count (inl (omega (arith, same))) in
        omega (arith, sum_by-cons (is_pass_of kit pass) (party.Pass (opening_pass l from)) (passes (from + 1) count), one, rest))
    | inr other ↦ (let one : is_pass_of kit pass (party.Pass (opening_pass l from)) ≡ 0 = ap (λ test. cond test 1 0) (ne_eqb from pass other) in
        let rest : sum_by (is_pass_of kit pass) (passes (from + 1) count) ≡ 1 = once pass (from + 1) count (omega (arith, other)) (omega arith) in
        omega (arith, sum_by-cons (is_pass_of kit pass) (party.Pass (opening_pass l from)) (passes (from + 1) count), one, rest))
  ]

  module _ (cycles salt : ℕ) where
    abbrev last : Party R W E M
    last = party.Collector (record { machine = collector_of kit (first_plan kit.kind l) l cycles salt; plan = first_plan kit.kind l; awaited = none_awaited; sealed = [] })

    pub opening_counts : AreParties kit l (opening_parties kit l cycles salt)
    opening_counts = record {
      many = omega (arith, length-append (passes 1 l.passes) (last ∷ []), as_many 1 l.passes);
      passes = λ pass is. omega (arith, sum_by-append (is_pass_of kit pass) (passes 1 l.passes) (last ∷ []), once pass 1 l.passes is.0 (omega (arith, is.1)), sum_by-cons (is_pass_of kit pass) last []);
      collector = omega (arith, sum_by-append (is_collector kit) (passes 1 l.passes) (last ∷ []), no_collector 1 l.passes, sum_by-cons (is_collector kit) last []);
    }
