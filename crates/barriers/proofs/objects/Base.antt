-- Functions with one value put, and small facts of states and places.
use Rattle.std.proofs.Common.{◌≡◌, ◌≢◌, ℕ, ◌⊎◌, inl, inr, refl, arith, Option, Some, None}
use Rattle.std.proofs.lemmas.Bool.Decides.{eqb_tells}
use Rattle.heap_words.specs.declared.field_word.FieldWord.{FieldWord}
use Rattle.heap_words.specs.declared.field_word.FieldWord.TheVariants.{Num, Link}
use Rattle.barriers.specs.Sets.{set2}
use Rattle.barriers.specs.States.{State, Plain, Underway, IsHome, IsLive, On}
use Rattle.barriers.specs.Spaces.{Here, zone, Copied, place_word}
use Rattle.barriers.specs.Protocols.{OnHand}
use Rattle.barriers.specs.Objects.{IsCarrying, IsForward}
use Rattle.barriers.proofs.words.Sets.{set2_cases}

-- ---- one value put

pub set2_here : {A : Type 0} (f : ℕ → ℕ → A) (k i : ℕ) (x : A) → set2 f k i x k i ≡ x
set2_here f k i x = elim (set2_cases f k i x k i) [ inl w ↦ w.2 | inr w ↦ absurd (w.0 (refl, refl)) ]

pub set2_else : {A : Type 0} (f : ℕ → ℕ → A) (k i j g : ℕ) (x : A) → ((j ≡ k) × (g ≡ i) → ⊥) → set2 f k i x j g ≡ f j g
set2_else f k i j g x ne = elim (set2_cases f k i x j g) [ inl w ↦ absurd (ne (w.0, w.1)) | inr w ↦ w.1 ]

pub number_tells : (j k : ℕ) → (j ≡ k) ⊎ (j ≢ k)
number_tells j k = elim (eqb_tells j k) [ inl w ↦ inl w.1 | inr w ↦ inr w.1 ]

-- ---- links

pub on_goes : (P Q : ℕ → ℕ → Type 0) → ((b a : ℕ) → P b a → Q b a) → (w : FieldWord) → On P w → On Q w
on_goes P Q f (Num v) h = tt
on_goes P Q f (Link b a) h = f b a h

pub hand_goes : (P Q : ℕ → ℕ → Type 0) → ((b a : ℕ) → P b a → Q b a) → (w : Option FieldWord) → OnHand P w → OnHand Q w
hand_goes P Q f None h = tt
hand_goes P Q f (Some w) h = on_goes P Q f w h

-- ---- states

pub live_cases : (x : State) → IsLive x → IsHome x ⊎ IsForward x
live_cases x h = grind (arith, h)

pub home_live : (x : State) → IsHome x → IsLive x
home_live x h = grind (arith, h)

pub forward_live : (x : State) → IsForward x → IsLive x
forward_live x h = grind (arith, h)

pub home_forward : (x : State) → IsHome x → IsForward x → ⊥
home_forward x i g = grind (arith, i, g)

pub carrying_home : (x : State) → IsCarrying x → IsHome x
carrying_home x h = grind (arith, h)

pub not_underway : (x : State) → IsLive x → x ≡ Underway → ⊥
not_underway x i e = grind (arith, i, e)

-- ---- places

pub plain_place : (mark : Option FieldWord) (x : Here) (c : FieldWord) → x.state ≡ Plain → place_word mark x c ≡ x.word
plain_place mark x c e = rw e refl

pub forward_place : (mark : Option FieldWord) (x : Here) (c : FieldWord) → IsForward x.state → place_word mark x c ≡ c
forward_place mark x c i = grind (arith, i)

pub copied_place : (mark : Option FieldWord) (x : Here) (c : FieldWord) → zone mark x.state x.word x.status ≡ Copied → place_word mark x c ≡ c
copied_place mark x c e = rw e refl

-- the place is in the copy only under these
pub copied_state : (mark : Option FieldWord) (x : Here) → zone mark x.state x.word x.status ≡ Copied → IsForward x.state ⊎ IsCarrying x.state
copied_state mark x e = grind (arith, e)

pub place_apart : (mark : Option FieldWord) (x : Here) (c d : FieldWord) → (zone mark x.state x.word x.status ≡ Copied → ⊥) → place_word mark x d ≡ place_word mark x c
place_apart mark x c d e = grind (arith, e)

pub zone_tells : (mark : Option FieldWord) (x : Here) → (zone mark x.state x.word x.status ≡ Copied) ⊎ (zone mark x.state x.word x.status ≡ Copied → ⊥)
zone_tells mark x = grind arith

pub place_cong : (mark : Option FieldWord) (x y : Here) (c d : FieldWord) → x ≡ y → c ≡ d → place_word mark x c ≡ place_word mark y d
place_cong mark x y c d e q = rw (e, q) refl
