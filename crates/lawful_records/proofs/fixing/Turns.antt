-- What is fixed of passes under turns of the collector that change headers or regions.
use Rattle.std.proofs.Common.{◌≡◌, ◌≢◌, ℕ, inl, inr, true, false, sym, ap, ◌∙◌, arith}
use Rattle.heap_words.specs.Layouts.{Sizes}
use Rattle.handshakes.specs.PhaseWords.{retired_word, phase_word_at}
use Rattle.handshakes.specs.declared.phase_word.Phase.TheVariants as phases
use Rattle.barriers.specs.Kits.{Kit}
use Rattle.barriers.specs.Says.{Notices}
use Rattle.barriers.specs.Spaces.{Space}
use Rattle.barriers.specs.Stances.{Fix as Fix_stance, stance_in, stance_at}
use Rattle.lawful_records.specs.declared.collector.CollectorMachine.{CollectorMachine}
use Rattle.lawful_records.specs.declared.records.PassKnown.{PassKnown}
use Rattle.lawful_records.specs.Cycling.{announced_by, cycle_of}
use Rattle.lawful_records.specs.Fixing.{is_fixed, fixed_passes, IsFixedBy, IsFixedPass}
use Rattle.lawful_records.specs.LawfulRecords.{IsPassRecord}
use Rattle.lawful_records.specs.Records.{number_of, acked_of}
use Rattle.lawful_records.proofs.fixing.Frames.{NamesOn, word_names, following_stays, following_none, polled_in, fixed_leaves}

-- a word of the phase Fix
fix_stance : (word : ℕ) → (let w = phase_word_at word in w.phase) ≡ phases.Fix → stance_at word ≡ Fix_stance
fix_stance word is = let w = phase_word_at word in ap (λ p. stance_in p w.round) is

module _ {R W E M : Type 0} (kit : Kit R W E M) (l : Sizes) (k next : CollectorMachine M) (s t : Space) (n : Notices) where
  -- while all links lead to homes, and homes stay homes
  pub calm_passes : is_fixed k ≡ true → NamesOn s t → (p : PassKnown R W E) → IsPassRecord kit l (announced_by k) (cycle_of k) s n p → IsFixedPass kit k s n p → IsFixedPass kit next t n p
  calm_passes fixed names p own is = fixed_leaves kit k next s t n n p (record {
    names = λ runs by. names;
    lets = λ runs by. inl fixed;
    polls = λ m e following. following_stays s t names (polled_in kit p n) m following;
    roots = λ retired roots i less. word_names s t names (n.root (number_of p) i) (is.roots retired (inl fixed) i less);
  }) own.answering.retired is

  -- while none need lead to a home: no pass is at Fix
  pub unfixed_passes : is_fixed next ≡ false → fixed_passes next ≡ 0 → stance_at n.phase ≢ Fix_stance → (p : PassKnown R W E) → (acked_of p ≢ retired_word → stance_at (acked_of p) ≢ Fix_stance) → IsPassRecord kit l (announced_by k) (cycle_of k) s n p → IsFixedPass kit k s n p → IsFixedPass kit next t n p
  unfixed_passes unfixed none apart p other own is = fixed_leaves kit k next s t n n p (record {
    names = λ runs by. absurd (never runs by);
    lets = λ runs by. absurd (never runs by);
    polls = λ m e following. following_none s t (polled_in kit p n) m (λ fix. apart (fix_stance n.phase fix)) following;
    roots = λ retired roots i less. absurd (elim roots [ inl fixed ↦ both_not fixed | inr few ↦ (let there = own.number in omega (arith, few, none, there.0)) ]);
  }) own.answering.retired is
    where
      both_not : is_fixed next ≡ true → ⊥
      both_not fixed = let gone : false ≡ true = sym unfixed ∙ fixed in cc gone

      never : acked_of p ≢ retired_word → IsFixedBy next (acked_of p) → ⊥
      never runs (inl fixed) = both_not fixed
      never runs (inr fix) = other runs fix
