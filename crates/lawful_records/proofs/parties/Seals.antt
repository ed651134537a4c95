-- What is sealed, by the records of all, is what the collector knows of it.
use Rattle.std.specs.List.{All, sum_by}
use Rattle.std.proofs.Common.{◌≡◌, List, [], ◌∷◌, ◌++◌, refl, sym, ap, ◌∙◌, subst, arith}
use Rattle.std.proofs.lemmas.List.{append-nil}
use Rattle.std.proofs.lemmas.List.Elements.{All-head, All-tail}
use Rattle.std.proofs.lemmas.List.Sums.{sum_by-cons}
use Rattle.heap_words.specs.Layouts.{Sizes}
use Rattle.barriers.specs.Spaces.{Space}
use Rattle.barriers.specs.Says.{Notices}
use Rattle.barriers.specs.Kits.{Kit}
use Rattle.lawful_records.specs.LawfulRecords.{IsParty, AreSealed, is_collector}
use Rattle.lawful_records.specs.Turns.{sealed_of}
use Rattle.lawful_records.specs.declared.collector.CollectorMachine.{CollectorMachine}
use Rattle.lawful_records.specs.declared.records.Party.{Party}
use Rattle.lawful_records.specs.declared.records.Party.TheVariants as party

module _ {R W E M : Type 0} (kit : Kit R W E M) (l : Sizes) (k : CollectorMachine M) (s : Space) (n : Notices) where
  -- passes have sealed nothing
  none_sealed : (rs : List (Party R W E M)) → sum_by (is_collector kit) rs ≡ 0 → sealed_of rs ≡ []
  none_sealed [] none = refl
  none_sealed (party.Pass p ∷ rs) none = none_sealed rs (omega (arith, none, sum_by-cons (is_collector kit) (party.Pass p) rs))
  none_sealed (party.Collector q ∷ rs) none = absurd (omega (arith, none, sum_by-cons (is_collector kit) (party.Collector q) rs))

  pub are_sealed : (rs : List (Party R W E M)) → sum_by (is_collector kit) rs ≡ 1 → All (IsParty kit l k s n) rs → AreSealed s (sealed_of rs)
  are_sealed [] one each = absurd (omega (arith, one))
  are_sealed (party.Pass p ∷ rs) one each = are_sealed rs (omega (arith, one, sum_by-cons (is_collector kit) (party.Pass p) rs)) (All-tail (IsParty kit l k s n) (party.Pass p) rs each)
  are_sealed (party.Collector q ∷ rs) one each =
      let its = All-head (IsParty kit l k s n) (party.Collector q) rs each in
      let none = none_sealed rs (omega (arith, one, sum_by-cons (is_collector kit) (party.Collector q) rs)) in
      subst (AreSealed s) (sym (ap (λ more. q.sealed ++ more) none ∙ append-nil q.sealed)) its.sealed
