-- What is sealed stays so under the turns of passes.
use Rattle.std.specs.Prelude.{◌≢◌, nat_lt, ◌&&◌}
use Rattle.std.specs.List.{All}
use Rattle.std.proofs.Common.{◌≡◌, ℕ, ◌+◌, ◌<◌, inl, inr, List, [], ◌∷◌, false, None, refl, sym, ap, ◌∙◌, subst, arith}
use Rattle.std.proofs.lemmas.Bool.{le-ltb, cases_order}
use Rattle.std.proofs.lemmas.List.Elements.{All-weaker, All-head, All-tail}
use Rattle.std.proofs.Math.Bool.{and-false}
use Rattle.heap_words.specs.Layouts.{Sizes}
use Rattle.barriers.specs.Cycles.{IsMoving}
use Rattle.barriers.specs.Protocols.{Protocol}
use Rattle.barriers.specs.States.{Absent, Plain, IsLive}
use Rattle.barriers.specs.Spaces.{Space}
use Rattle.barriers.specs.Rows.{Rows}
use Rattle.barriers.proofs.words.Headers.{live_there}
use Rattle.lawful_records.specs.Frames.{Left, Same, Untagged, Born, IsSameAt}
use Rattle.lawful_records.specs.LawfulRecords.{IsThereSealed, AreSealed}
use Rattle.lawful_records.specs.Turns.{has_word, seal_in}
use Rattle.lawful_records.specs.declared.records.Sealed.{Sealed}

-- nothing that is on its way by a mark comes of a turn of a pass
pub rests_on : (P : Protocol) (l : Sizes) (s t : Space) (at : ℕ) (Q : Type 0) → Left P l s t at → (IsMoving (s.state at) → Q) → IsMoving (t.state at) → Q
rests_on P l s t at Q (Same same) rests moving = rests (rw same.state at moving)
rests_on P l s t at Q (Untagged makes was is seal wide) rests moving = absurd (rw is at moving)
rests_on P l s t at Q (Born was is seal wide own) rests moving = absurd (rw is at moving)

-- ---- fields of other objects

lower : (one : Sealed) (a f : ℕ) → one.at + one.len < a → has_word one (a + 1 + f) ≡ false
lower one a f low = ap (λ after. nat_lt one.at (a + 1 + f) && after) (le-ltb (a + 1 + f) (one.at + 1 + one.len) (omega (arith, low))) ∙ and-false (nat_lt one.at (a + 1 + f))

higher : (one : Sealed) (a f len : ℕ) → f < len → a + len < one.at → has_word one (a + 1 + f) ≡ false
higher one a f len inside high = ap (λ before. before && nat_lt (a + 1 + f) (one.at + 1 + one.len)) (le-ltb one.at (a + 1 + f) (omega (arith, inside, high)))

-- no field of another object is one of this
pub other_word : (l : Sizes) (s : Space) → Rows l s.state s.len s.ends s.region → (one : Sealed) (a f : ℕ) → IsThereSealed s one → s.state a ≢ Absent → one.at ≢ a → f < s.len a → has_word one (a + 1 + f) ≡ false
other_word l s rows one a f there is apart inside = elim (cases_order one.at a) [
  | inl same ↦ absurd (apart same)
  | inr rest ↦ elim rest [
    | inl before ↦ lower one a f (subst (λ len. one.at + len < a) there.len (rows.apart one.at a (live_there (s.state one.at) there.live) is before))
    | inr after ↦ higher one a f (s.len a) inside (rows.apart a one.at is (live_there (s.state one.at) there.live) after)
  ]
]

-- a field that is one of none of them is of no sealed object
pub none_sealed : (sealed : List Sealed) (at : ℕ) → All (λ one. has_word one at ≡ false) sealed → seal_in sealed at ≡ None
none_sealed [] at none = refl
none_sealed (one ∷ more) at none = rw (All-head (λ one. has_word one at ≡ false) one more none) (none_sealed more at (All-tail (λ one. has_word one at ≡ false) one more none))

-- ---- a turn of a pass

module _ (P : Protocol) (l : Sizes) (s t : Space) (rows : Rows l t.state t.len t.ends t.region) (left : (at : ℕ) → Left P l s t at) (heads : (at : ℕ) → IsLive (s.state at) → IsSameAt s t at) where
  there_stays : (one : Sealed) → IsThereSealed s one → IsThereSealed t one
  there_stays one is = let same = heads one.at is.live in record { live = same.live; len = same.len ∙ is.len }

  same_seal : (sealed : List Sealed) → AreSealed s sealed → (a f : ℕ) → IsLive (s.state a) → t.seal a ≡ s.seal a → f < t.len a → seal_in sealed (a + 1 + f) ≡ t.seal a
  same_seal sealed are a f live seal inside = let same = heads a live in are.seals a f live (subst (λ len. f < len) same.len inside) ∙ sym seal

  new_seal : (sealed : List Sealed) → AreSealed s sealed → (a f : ℕ) → s.state a ≡ Absent → t.state a ≡ Plain → t.seal a ≡ None → f < t.len a → seal_in sealed (a + 1 + f) ≡ t.seal a
  new_seal sealed are a f was is seal inside =
      none_sealed sealed (a + 1 + f) (All-weaker (IsThereSealed s) (λ one. has_word one (a + 1 + f) ≡ false)
      (λ one there. other_word l t rows one a f (there_stays one there) (λ none. absurd (plain_there (sym is ∙ none))) (λ same. live_there (s.state one.at) there.live (ap s.state same ∙ was)) inside)
      sealed are.there) ∙ sym seal
    where
      plain_there : Plain ≡ Absent → ⊥
      plain_there e = cc e

  seal_by : (sealed : List Sealed) → AreSealed s sealed → (a f : ℕ) → Left P l s t a → IsLive (t.state a) → f < t.len a → seal_in sealed (a + 1 + f) ≡ t.seal a
  seal_by sealed are a f (Same same) live inside = same_seal sealed are a f (subst IsLive same.state live) same.seal inside
  seal_by sealed are a f (Untagged makes was is seal wide) live inside = same_seal sealed are a f (rw was tt) seal inside
  seal_by sealed are a f (Born was is seal wide own) live inside = new_seal sealed are a f was is seal inside

  pub sealed_stays : (sealed : List Sealed) → AreSealed s sealed → AreSealed t sealed
  sealed_stays sealed are = record {
    there = All-weaker (IsThereSealed s) (IsThereSealed t) there_stays sealed are.there;
    seals = λ a f live inside. seal_by sealed are a f (left a) live inside;
  }
