-- Why a call gives the word that it gives: it found the word in a field, and followed it as the phase asks.
use Rattle.std.specs.Prelude.{◌≡◌, ◌≢◌, ℕ, ◌⊎◌, List, Option, Some, None, option_map, refl}
use Rattle.std.specs.Option.{ForSome}
use Rattle.std.proofs.Common.{subst, sym}
use Rattle.call_steps.specs.declared.step.Step.TheVariants.{Load, Ended}
use Rattle.call_steps.specs.Ending.{Taken, LastStep, up_to, step_of}
use Rattle.heap_words.specs.declared.field_word.FieldWord.{FieldWord}
use Rattle.heap_words.specs.declared.field_word.FieldWord.TheVariants.{Num, Link}
use Rattle.heap_words.specs.FieldWords.{field_at}
use Rattle.object_headers.specs.Headers.{header_at}
use Rattle.handshakes.specs.declared.phase_word.Phase.{Phase}
use Rattle.handshakes.specs.declared.phase_word.Phase.TheVariants.{Free, Mark, Confirm, Copy, Fix, Retired}
use Rattle.handshakes.specs.declared.follow.FollowEnd.{FollowEnd}
use Rattle.handshakes.specs.declared.follow.FollowMachine.{FollowMachine}
use Rattle.handshakes.specs.declared.follow.FollowMachine.TheVariants as follow
use Rattle.handshakes.specs.Follows.{follow_of, asks_of, fed_of, end_of, place_by, unshaded}

-- the last step was the look at the field, this is what it found, and the phase asks for no step to follow it
pub record IsFound (IsLook : LastStep → Type 0) (phase : Phase) (last : LastStep) (held : FieldWord) : Type 0 where
  pub look : IsLook last
  pub found : held ≡ field_at last.found
  pub at_once : asks_of (follow_of phase held) ≡ Ended

-- under Fix the last of these steps was the look at the field, and found this link
pub record FoundLink (IsLook : LastStep → Type 0) (phase : Phase) (steps : List Taken) (birth at : ℕ) : Type 0 where
  pub in_fix : phase ≡ Fix
  pub last : LastStep
  pub look : IsLook last
  pub after : steps ≡ up_to last
  pub link : field_at last.found ≡ Link birth at

-- the step before found a link under Fix, the last step loaded the header at its address, and this is the link, going where that header says that the object is
pub record IsFollowed (IsLook : LastStep → Type 0) (phase : Phase) (last : LastStep) (held : FieldWord) : Type 0 where
  pub birth : ℕ
  pub at : ℕ
  pub from : FoundLink IsLook phase last.earlier birth at
  pub header : last.step ≡ Load at
  pub goes : held ≡ Link birth (place_by (header_at last.found) at)

-- a word that a call gives was found by the look at the field, or is the link that was found there, followed
abbrev pub IsGiven : (LastStep → Type 0) → Phase → LastStep → FieldWord → Type 0
IsGiven IsLook phase last held = IsFound IsLook phase last held ⊎ IsFollowed IsLook phase last held

-- after these steps it follows what the last of them found
abbrev pub IsFollowing : (LastStep → Type 0) → Phase → List Taken → FollowMachine → Type 0
IsFollowing IsLook phase steps (follow.Header birth at) = FoundLink IsLook phase steps birth at
IsFollowing IsLook phase steps (follow.Ended e) = Unit {0}

-- a call that has looked
module _ (IsLook : LastStep → Type 0) (last : LastStep) (look : IsLook last) where
  pub follow_begins : (phase : Phase) (word : FieldWord) → word ≡ field_at last.found → IsFollowing IsLook phase (up_to last) (follow_of phase word)
  follow_begins Free word e = tt
  follow_begins Mark word e = tt
  follow_begins Confirm word e = tt
  follow_begins Copy word e = tt
  follow_begins Fix (Num n) e = tt
  follow_begins Fix (Link birth at) e = record { in_fix = refl; last = last; look = look; after = refl; link = sym e }
  follow_begins Retired word e = tt

  found : (phase : Phase) (word : FieldWord) → word ≡ field_at last.found → asks_of (follow_of phase word) ≡ Ended → follow_of phase word ≡ follow.Ended (unshaded word) → ForSome (end_of (follow_of phase word)) (λ e. IsFound IsLook phase last e.word)
  found phase word same at_once ended end is =
      let held : end ≡ unshaded word = cc in
      subst (λ (e : FollowEnd). IsFound IsLook phase last e.word) (sym held) (record { look = look; found = same; at_once = at_once })

  pub found_at_once : (phase : Phase) (word : FieldWord) → word ≡ field_at last.found → ForSome (end_of (follow_of phase word)) (λ e. IsFound IsLook phase last e.word)
  found_at_once Free word same = found Free word same refl refl
  found_at_once Mark word same = found Mark word same refl refl
  found_at_once Confirm word same = found Confirm word same refl refl
  found_at_once Copy word same = found Copy word same refl refl
  found_at_once Fix (Num n) same = found Fix (Num n) same refl refl
  found_at_once Fix (Link birth at) same = λ end is. absurd cc
  found_at_once Retired word same = found Retired word same refl refl

-- a follow has ended with its step
pub follow_ends : (IsLook : LastStep → Type 0) (phase : Phase) (steps later : List Taken) (m : FollowMachine) (n : ℕ) → IsFollowing IsLook phase steps m → IsFollowing IsLook phase later (fed_of m n)
follow_ends IsLook phase steps later (follow.Header birth at) n is = tt
follow_ends IsLook phase steps later (follow.Ended e) n is = tt

pub followed : (IsLook : LastStep → Type 0) (phase : Phase) (steps : List Taken) (m : FollowMachine) (n : ℕ) → IsFollowing IsLook phase steps m → asks_of m ≢ Ended → ForSome (end_of (fed_of m n)) (λ e. IsFollowed IsLook phase (step_of asks_of steps m n) e.word)
followed IsLook phase steps (follow.Header birth at) n from on end is =
    let held : unshaded (Link birth (place_by (header_at n) at)) ≡ end = cc in
    subst (λ (e : FollowEnd). IsFollowed IsLook phase (step_of asks_of steps (follow.Header birth at) n) e.word) held (record { birth = birth; at = at; from = from; header = refl; goes = refl })
followed IsLook phase steps (follow.Ended e) n from on end is = absurd (on refl)

-- what holds of the end of a follow holds of the end that a call makes of it
pub for_mapped : {T U : Type 0} (f : T → U) (o : Option T) (P : U → Type 0) → ForSome o (λ x. P (f x)) → ForSome (option_map f o) P
for_mapped f None P for y is = absurd cc
for_mapped f (Some x) P for y is = let same : f x ≡ y = cc in subst P same (for x refl)
