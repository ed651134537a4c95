-- The objects at the start: the common object, of zeros.
use Rattle.std.proofs.Common.{◌≡◌, ℕ, false, [], None, zero, suc, refl, sym, subst, inl, inr}
use Rattle.std.specs.Prelude.{slice_get, unwrap_or}
use Rattle.heap_words.specs.Layouts.{Sizes, first_word}
use Rattle.heap_words.specs.declared.field_word.FieldWord.TheVariants.{Num}
use Rattle.heap_history.specs.declared.call.Value.TheVariants as values
use Rattle.heap_history.specs.FixedHeaps.{zeros}
use Rattle.heap_history.specs.NewestFirst.{value_at}
use Rattle.wide_objects.specs.Statuses.{InOriginal}
use Rattle.barriers.specs.States.{State, Absent, Plain, Wide, Moving, Forward, IsHome, IsLive}
use Rattle.barriers.specs.Spaces.{Space, Zone, Original, Between, Copied, zone, pick, here, copy_word}
use Rattle.barriers.specs.Says.{opening_space}
use Rattle.barriers.specs.Cycles.{Cycle, IsMoving}
use Rattle.barriers.specs.Objects.{AreObjects, HasLens, IsForward, IsCarrying}
use Rattle.barriers.specs.Protocols.{OnHand, TargetIs}
use Rattle.barriers.specs.Kits.{Kit, Stepping, Laws}
use Rattle.barriers.proofs.words.Sets.{set_cases}
use Rattle.lawful_records.specs.Fixing.{IsAside}

-- ---- the values of its fields

zeros_hold : (len field : ℕ) → unwrap_or (slice_get (zeros len) field) (values.Num 0) ≡ values.Num 0
zeros_hold zero field = refl
zeros_hold (suc len) zero = refl
zeros_hold (suc len) (suc field) = zeros_hold len field

fields_zero : (field : ℕ) → value_at [] 1 field ≡ values.Num 0
fields_zero field = zeros_hold 8 field

-- ---- the objects

-- all words are 0
picked : (z : Zone) → pick z (Num 0) InOriginal (Num 0) ≡ Num 0
picked Original = refl
picked Between = refl
picked Copied = refl

home_live : (x : State) → IsHome x → IsLive x
home_live (Forward to) home = absurd home
home_live x home = home

forward_live : (x : State) → IsForward x → IsLive x
forward_live (Forward to) forward = tt
forward_live x forward = absurd forward

carrying_live : (x : State) → IsCarrying x → IsLive x
carrying_live (Wide wide) carrying = tt
carrying_live (Moving to) carrying = tt
carrying_live x carrying = absurd carrying

module _ (l : Sizes) where
  abbrev S : Space
  S = opening_space l

  -- what is live is the common object
  only : (a : ℕ) → IsLive (S.state a) → S.state a ≡ Plain
  only a live = elim (set_cases (λ a. Absent) (first_word l 0) a Plain) [ inl q ↦ q.1 | inr q ↦ absurd (rw q.1 at live) ]

  first : (a : ℕ) → IsLive (S.state a) → a ≡ first_word l 0
  first a live = elim (set_cases (λ a. Absent) (first_word l 0) a Plain) [ inl q ↦ q.0 | inr q ↦ absurd (rw q.1 at live) ]

  -- nothing is on its way
  pub opening_resting : (a : ℕ) → IsMoving (S.state a) → ⊥
  opening_resting a moving = elim (set_cases (λ a. Absent) (first_word l 0) a Plain) [ inl q ↦ rw q.1 at moving | inr q ↦ rw q.1 at moving ]

  -- and no object is tagged or moved
  pub opening_aside : (a : ℕ) → IsAside (S.state a) → ⊥
  opening_aside a aside = elim (set_cases (λ a. Absent) (first_word l 0) a Plain) [ inl q ↦ rw q.1 at aside | inr q ↦ rw q.1 at aside ]

  pub opening_lens : HasLens S
  opening_lens a live = refl

  module _ {R W E M : Type 0} (kit : Kit R W E M) where
    module _ (by : Stepping R W E M) (laws : Laws kit by) (c : Cycle) (mark : c.mark ≡ None) (clear : c.clear ≡ false) where
      pub opening_objects : AreObjects kit.protocol c S
      opening_objects = record {
        placed = λ a f home less. sym (picked (zone c.mark (S.state a) (Num 0) InOriginal));
        agrees = λ a f home less. sym (fields_zero f);
        home = λ a home. sym (first a (home_live (S.state a) home));
        target = λ a f live. subst (TargetIs (here S a f)) (sym (only a live)) tt;
        copied = λ a forward. absurd (rw (only a (forward_live (S.state a) forward)) at forward);
        under = λ a carrying. absurd (rw (only a (carrying_live (S.state a) carrying)) at carrying);
        fields = λ a f home less. tt;
        words = λ a f live counts less. tt;
        statuses = λ a f live counts less. tt;
        shape = λ a f live less. let table = laws.table in let cycle = laws.cycle in
            table.shapes.born c 1 f (here S a f) (copy_word S a f) (cycle.unmarked c mark clear) (record { state = only a live; seal = refl; status = refl }) refl;
        seals = λ a past is. absurd cc;
        unsealed = λ a still. refl;
        right = let cycle = laws.cycle in cycle.unmarked c mark clear;
        number = subst (OnHand (λ b a. ⊥)) (sym mark) tt;
      }
