-- All parties have seen a past of one history.
use Rattle.std.specs.Prelude.{IsPermutation, reverse}
use Rattle.std.specs.List.{All, Contains}
use Rattle.std.proofs.Common.{◌≡◌, ◌⊎◌, ℕ, zero, suc, ◌≤◌, ◌<◌, inl, inr, List, [], ◌∷◌, length, map, get_or, Option, Some, None, refl, sym, ap, ◌∙◌, subst, arith}
use Rattle.std.proofs.lemmas.List.Elements.{All-map, All-cons, All-tail, All-weaker}
use Rattle.std.proofs.lemmas.List.Sorted.{All-permutation, Contains-permutation, IsPermutation-map}
use Rattle.heap_words.specs.Layouts.{Sizes, IsPass}
use Rattle.heap_history.specs.FixedHeaps.{opening}
use Rattle.heap_history.specs.Histories.{IsHistory, pass_of}
use Rattle.heap_history.specs.NewestFirst.{Before, longer, longest}
use Rattle.heap_history.specs.NewestFirstLaws.{Before-refl, Before-length, Before-whole, longest_is, IsHistory-cons}
use Rattle.heap_history.specs.declared.call.Call.{Call}
use Rattle.barriers.specs.declared.front.Front.{Front}
use Rattle.barriers.specs.declared.front.Front.TheVariants.{Stays}
use Rattle.barriers.specs.Knowns.{front}
use Rattle.barriers.specs.Kits.{Kit}
use Rattle.lawful_records.specs.Frames.{Grows}
use Rattle.lawful_records.specs.LawfulRecords.{IsHistoryOf}
use Rattle.lawful_records.specs.Records.{seen_of, history_of}
use Rattle.lawful_records.specs.Turns.{with_change, seen_by, LooksOn}
use Rattle.lawful_records.specs.declared.records.Party.{Party}

-- where the history goes from h to g, one who had seen `before` has seen `after`
pub record SeesOn (h g before after : List Call) : Type 0 where
  pub past : Before after g
  pub later : length before ≤ length after
  pub shows : (g ≡ h) ⊎ (after ≡ g)

pub sees_same : (h seen : List Call) → Before seen h → SeesOn h h seen seen
sees_same h seen past = record { past = past; later = omega arith; shows = inl refl }

pub looks_not : (seal : Option (List Call)) (h seen : List Call) → Before seen h → LooksOn Stays seal h seen
looks_not seal h seen past = record { past = past; later = Before-refl seen }

-- by a step
pub sees_turn : (change : Option Call) (look : Front) (seal : Option (List Call)) (h seen : List Call) → Before seen h → LooksOn look seal h seen → SeesOn h (with_change change h) seen (seen_by change look seal h seen)
sees_turn (Some c) look seal h seen past looks = record { past = Before-refl (c ∷ h); later = omega (arith, Before-length seen h past); shows = inr refl }
sees_turn None look seal h seen past looks = record { past = looks.past; later = Before-length seen (front look seal h seen) looks.later; shows = inl refl }

-- ---- a history that grows

past_grows : (m : ℕ) (h g seen : List Call) → Grows m h g → Before seen h → Before seen g
past_grows m h g seen (inl same) past = subst (Before seen) (sym same) past
past_grows m h g seen (inr grown) past = let later : Before seen (grown.call ∷ h) = inr past in subst (Before seen) (sym grown.is) later

fits_grows : (m : ℕ) (h g : List Call) → Grows m h g → IsHistory opening (reverse h) → IsHistory opening (reverse g)
fits_grows m h g (inl same) fits = subst (λ (x : List Call). IsHistory opening (reverse x)) (sym same) fits
fits_grows m h g (inr grown) fits = subst (λ (x : List Call). IsHistory opening (reverse x)) (sym grown.is) (IsHistory-cons grown.call h fits grown.fits)

owners_grow : (l : Sizes) (m : ℕ) (h g : List Call) → Grows m h g → (g ≡ h) ⊎ IsPass l m → All (λ c. IsPass l (pass_of c)) h → All (λ c. IsPass l (pass_of c)) g
owners_grow l m h g grows (inl same) owners = subst (λ (x : List Call). All (λ c. IsPass l (pass_of c)) x) (sym same) owners
owners_grow l m h g (inl same) (inr pass) owners = subst (λ (x : List Call). All (λ c. IsPass l (pass_of c)) x) (sym same) owners
owners_grow l m h g (inr grown) (inr pass) owners =
    subst (λ (x : List Call). All (λ c. IsPass l (pass_of c)) x) (sym grown.is)
    (All-cons (λ c. IsPass l (pass_of c)) grown.call h (subst (IsPass l) (sym grown.by) pass) owners)

-- who has seen all shows it still
shows_on : (h g before after : List Call) (others : List (List Call)) → SeesOn h g before after → Contains (before ∷ others) h → Contains (after ∷ others) g
shows_on h g before after others sees shown = elim sees.shows [ inr now ↦ (0, omega arith, now) | inl same ↦ by_place same shown.0 shown.1 shown.2 ]
  where
    by_place : g ≡ h → (k : ℕ) → k < length (before ∷ others) → get_or (before ∷ others) k h ≡ h → Contains (after ∷ others) g
    by_place same zero within is = (0, omega arith, Before-whole after g sees.past (omega (arith, ap length is, ap length same, sees.later)))
    by_place same (suc k) within is = (suc k, omega (arith, within), subst (λ (x : List Call). get_or others k x ≡ x) (sym same) is)

-- ---- all parties

module _ {R W E M : Type 0} (kit : Kit R W E M) where
  longest_seen : (rs : List (Party R W E M)) → history_of rs ≡ longest (map seen_of rs)
  longest_seen [] = refl
  longest_seen (r ∷ rs) = ap (longer (seen_of r)) (longest_seen rs)

  -- the history is the longest that any has seen
  pub history_is : (l : Sizes) (h : List Call) (rs : List (Party R W E M)) → IsHistoryOf kit l h rs → history_of rs ≡ h
  history_is l h rs is = longest_seen rs ∙ longest_is (map seen_of rs) h (All-map (λ seen. Before seen h) seen_of rs is.past) is.shown

  pub history_turn : (l : Sizes) (m : ℕ) (h g : List Call) (r q : Party R W E M) (others : List (Party R W E M)) → SeesOn h g (seen_of r) (seen_of q) → Grows m h g → (g ≡ h) ⊎ IsPass l m → IsHistoryOf kit l h (r ∷ others) → IsHistoryOf kit l g (q ∷ others)
  history_turn l m h g r q others sees grows pass is =
      let P : Party R W E M → Type 0 = λ x. Before (seen_of x) h in
      let Q : Party R W E M → Type 0 = λ x. Before (seen_of x) g in
      record {
        past = All-cons Q q others sees.past (All-weaker P Q (λ x past. past_grows m h g (seen_of x) grows past) others (All-tail P r others is.past));
        shown = shows_on h g (seen_of r) (seen_of q) (map seen_of others) sees is.shown;
        fits = fits_grows m h g grows is.fits;
        owners = owners_grow l m h g grows pass is.owners;
      }

  pub history_regroup : (l : Sizes) (h : List Call) (rs qs : List (Party R W E M)) → IsPermutation rs qs → IsHistoryOf kit l h rs → IsHistoryOf kit l h qs
  history_regroup l h rs qs moves is = record {
    past = All-permutation (λ r. Before (seen_of r) h) rs qs moves is.past;
    shown = Contains-permutation (map seen_of rs) (map seen_of qs) h (IsPermutation-map seen_of rs qs moves) is.shown;
    fits = is.fits;
    owners = is.owners;
  }
