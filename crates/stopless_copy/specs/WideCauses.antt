-- Why a call ends as it does that goes on at a wide object, whatever others do meanwhile.
use Rattle.std.specs.Prelude.{◌≡◌, ◌≢◌, ℕ, ◌+◌, ◌*◌, ◌/◌, ◌%◌, ◌^◌, ◌⊎◌, ◌==◌, nat_lt, if◌then◌else◌, Bool, true, false, List, [], ◌∷◌, ◌++◌, Option, Some, None, is_some, unwrap_or, refl}
use Rattle.std.proofs.Common.{sym, ap, ◌∙◌, append_assoc, arith}
use Rattle.call_steps.specs.declared.step.Step.TheVariants.{Load, Exchange}
use Rattle.call_steps.specs.Ending.{Taken, LastStep}
use Rattle.heap_words.specs.declared.field_word.FieldWord.{FieldWord}
use Rattle.heap_words.specs.declared.field_word.FieldWord.TheVariants.{Num}
use Rattle.heap_words.specs.FieldWords.{field_of, field_at}
use Rattle.heap_words.specs.FieldWordLaws.{field_of-low}
use Rattle.object_headers.specs.declared.header.State.{State as HeaderState}
use Rattle.object_headers.specs.declared.header.State.TheVariants as states
use Rattle.object_headers.specs.Headers.{header_at}
use Rattle.wide_objects.specs.declared.wide_word.Status2.{Status2}
use Rattle.wide_objects.specs.declared.wide_word.Status2.TheVariants.{InOriginal, InWide, InCopy}
use Rattle.wide_objects.specs.declared.wide_word.WideWord.{WideWord}
use Rattle.wide_objects.specs.WideWords.{wide_word_of, wide_word_at, at_rest, status_bits}
use Rattle.barriers.specs.declared.spot.Spot.{Spot}
use Rattle.barriers.specs.declared.plain_exchange.TriesLeft.{TriesLeft}
use Rattle.barriers.specs.declared.plain_exchange.TriesLeft.TheVariants.{Two, One, Zero}
use Rattle.barriers.specs.Causes.{len_at}
use Rattle.tagged_calls.specs.declared.location.Location.{Location}
use Rattle.tagged_calls.specs.declared.location.Location.TheVariants as location
use Rattle.tagged_calls.specs.Locations.{field_from, located, location_in}
use Rattle.tagged_calls.specs.TaggedCauses.{IsHeaderWay, IsApproach}
use Rattle.stopless_copy.specs.WideSteps.{in_wide, address_at, wide_first}

-- ---- what a wide word says

abbrev pub status_in : ℕ → Status2
status_in word = let w = wide_word_at word in w.status

-- the word of the field beside the status
abbrev pub word_in : ℕ → ℕ
word_in word = let w = wide_word_at word in w.word

low_field : (n : ℕ) → field_at (n % 2 ^ 62) ≡ field_at n
unfolding field_at
low_field n =
    let parts : n % 2 ^ 62 + 2 ^ 62 * (n / 2 ^ 62) ≡ n = omega arith in
    ap (λ (o : Option FieldWord). unwrap_or o (Num 0)) (sym (field_of-low (n % 2 ^ 62) (n / 2 ^ 62)) ∙ ap field_of parts)

by_bits : (n : ℕ) (a b c d : Bool) (w : WideWord)
    → w ≡ unwrap_or (if a then Some at_rest else (if b then (if d then Some (record { status = InWide; word = n % 2 ^ 62 }) else None) else (if c then (if d then Some (record { status = InCopy; word = n % 2 ^ 62 }) else None) else None))) at_rest
    → w.status ≡ InWide → field_at w.word ≡ field_at n
by_bits n true b c d w is wide = absurd (let e : w.status ≡ InOriginal = ap (λ (v : WideWord). v.status) is in cc)
by_bits n false true c true w is wide = ap (λ (v : WideWord). field_at v.word) is ∙ low_field n
by_bits n false true c false w is wide = absurd (let e : w.status ≡ InOriginal = ap (λ (v : WideWord). v.status) is in cc)
by_bits n false false true true w is wide = absurd (let e : w.status ≡ InCopy = ap (λ (v : WideWord). v.status) is in cc)
by_bits n false false true false w is wide = absurd (let e : w.status ≡ InOriginal = ap (λ (v : WideWord). v.status) is in cc)
by_bits n false false false d w is wide = absurd (let e : w.status ≡ InOriginal = ap (λ (v : WideWord). v.status) is in cc)

-- where it has the value, that is the one of its bits 0 to 61
pub wide_field : (n : ℕ) → status_in n ≡ InWide → field_at (word_in n) ≡ field_at n
unfolding wide_word_at wide_word_of
wide_field n wide = by_bits n (n == 0) (status_bits n == 1) (status_bits n == 2) (is_some (field_of n)) (wide_word_at n) refl wide

-- ---- the way of a call

-- by this word of a header the object is wide, and its field's word in the wide object is there
abbrev pub LeadsWide : Spot → ℕ → Spot → Type 0
LeadsWide spot word wide = let h = header_at word in (h.state ≡ states.Wide) × (wide ≡ field_from spot h.target)

abbrev pub IsWideWay : Spot → List Taken → Spot → Type 0
IsWideWay spot steps wide = IsHeaderWay (λ word. LeadsWide spot word wide) spot steps

-- the load of the wide word, of the word in the original, and of the copy's address
abbrev pub wide_load : Spot → ℕ → Taken
wide_load wide found = record { step = Load wide.place; found = found }

abbrev pub original_load : Spot → ℕ → Taken
original_load spot found = record { step = Load spot.place; found = found }

abbrev pub address_load : Spot → ℕ → Taken
address_load wide found = record { step = Load wide.at; found = found }

-- the exchange of the wide word that wants the one word, for one that has this word of the field, and finds the other
abbrev pub wide_try : Spot → ℕ → ℕ → ℕ → Taken
wide_try wide word wanted found = record { step = Exchange wide.place wanted (in_wide word); found = found }

-- the last of these steps loaded the wide word that the header told
pub record IsAtWord (spot wide : Spot) (steps : List Taken) (found : ℕ) : Type 0 where
  pub way : List Taken
  pub led : IsWideWay spot way wide
  pub splits : steps ≡ way ++ wide_load wide found ∷ []

-- the last of these steps but one loaded the wide word, which said that the value is in the original, and the last one the word there
pub record IsAtOriginal (spot wide : Spot) (steps : List Taken) (found : ℕ) : Type 0 where
  pub before : List Taken
  pub word : ℕ
  pub at : IsAtWord spot wide before word
  pub says : status_in word ≡ InOriginal
  pub splits : steps ≡ before ++ original_load spot found ∷ []

-- of a call that exchanges only from words of which this is so
module _ (Serves : ℕ → Type 0) where
  -- the value of the wide word is not in the copy, and where it is in the wide object, its word serves
  abbrev pub IsWanted : ℕ → Type 0
  IsWanted wanted = (status_in wanted ≢ InCopy) × (status_in wanted ≡ InWide → Serves (word_in wanted))

  -- after the loads from which this wide word is wanted
  abbrev pub HasLooked : Spot → Spot → List Taken → ℕ → Type 0
  HasLooked spot wide steps wanted = (IsAtWord spot wide steps wanted × IsWanted wanted) ⊎ ((found : ℕ) × IsAtOriginal spot wide steps found × Serves found × (wanted ≡ 0))

  -- it has its value in the wide object, and serves
  abbrev pub IsServed : ℕ → Type 0
  IsServed wanted = (status_in wanted ≡ InWide) × Serves (word_in wanted)

  -- after these steps this wide word is wanted, with this many tries left: after the loads, and as many lost exchanges, each of which found what the next one wants
  abbrev pub HasTried : Spot → Spot → ℕ → ℕ → TriesLeft → List Taken → Type 0
  HasTried spot wide word wanted Two steps = HasLooked spot wide steps wanted
  HasTried spot wide word wanted One steps = IsServed wanted × ((looks : List Taken) × (first : ℕ) × HasLooked spot wide looks first × (steps ≡ looks ++ wide_try wide word first wanted ∷ []))
  HasTried spot wide word wanted Zero steps =
      IsServed wanted × ((looks : List Taken) × (first : ℕ) × (second : ℕ) × HasLooked spot wide looks first × (steps ≡ looks ++ wide_try wide word first second ∷ wide_try wide word second wanted ∷ []))

  -- after two lost exchanges, the third one wanted the one word of the race and found the other; the values of both are in the wide object, and serve
  pub record IsWideRace (spot : Spot) (word : ℕ) (last : LastStep) (loaded found : ℕ) : Type 0 where
    pub wide : Spot
    pub tried : HasTried spot wide word loaded Zero last.earlier
    pub wants : last.step ≡ Exchange wide.place loaded (in_wide word)
    pub finds : last.found ≡ found
    pub other : found ≢ loaded
    pub loaded_serves : IsServed loaded
    pub found_serves : IsServed found

  -- an exchange of the wide word lost to one that says that the value is in the original
  pub record ComesBack (spot : Spot) (word : ℕ) (last : LastStep) (loaded found : ℕ) : Type 0 where
    pub wide : Spot
    pub tries : TriesLeft
    pub tried : HasTried spot wide word loaded tries last.earlier
    pub wants : last.step ≡ Exchange wide.place loaded (in_wide word)
    pub finds : last.found ≡ found
    pub other : found ≢ loaded
    pub says : status_in found ≡ InOriginal

  abbrev pub IsRaced : Spot → ℕ → LastStep → ℕ → ℕ → Type 0
  IsRaced spot word last loaded found = IsWideRace spot word last loaded found ⊎ ComesBack spot word last loaded found

  -- the last step exchanged the wide word that it wanted
  pub record IsMade (spot : Spot) (word : ℕ) (last : LastStep) : Type 0 where
    pub wide : Spot
    pub tries : TriesLeft
    pub tried : HasTried spot wide word last.found tries last.earlier
    pub wants : last.step ≡ Exchange wide.place last.found (in_wide word)

  -- an exchange that wants this word has come here
  abbrev pub Tries : Spot → Spot → ℕ → ℕ → TriesLeft → LastStep → Type 0
  Tries spot wide word wanted tries last = HasTried spot wide word wanted tries last.earlier × (last.step ≡ Exchange wide.place wanted (in_wide word))

  -- the last of these steps, the load or a lost exchange of the wide word, found that the value is in the copy
  abbrev pub IsCopied : Spot → Spot → ℕ → List Taken → Type 0
  IsCopied spot wide word steps =
      (found : ℕ) × (status_in found ≡ InCopy)
      × (IsAtWord spot wide steps found ⊎ ((before : List Taken) × (wanted : ℕ) × (tries : TriesLeft) × HasTried spot wide word wanted tries before × (steps ≡ before ++ wide_try wide word wanted found ∷ [])))

  -- these steps led to the copy: and then loaded its address, in the wide object
  pub record IsCopyWay (word : ℕ) (spot : Spot) (steps : List Taken) (here : Spot) : Type 0 where
    pub wide : Spot
    pub before : List Taken
    pub copied : IsCopied spot wide word before
    pub found : ℕ
    pub splits : steps ≡ before ++ address_load wide found ∷ []
    pub at : here ≡ field_from spot (address_at found)

  -- to the word of the field by a header, or to the copy by the wide object
  abbrev pub IsLed : ℕ → Spot → List Taken → Spot → Type 0
  IsLed word spot steps here = IsApproach spot steps here ⊎ IsCopyWay word spot steps here

  -- ---- what a lost exchange leaves

  -- the value found serves too: the next exchange wants it
  pub tried_once : (spot wide : Spot) (word wanted found : ℕ) (steps : List Taken) → HasTried spot wide word wanted Two steps → IsServed found → HasTried spot wide word found One (steps ++ wide_try wide word wanted found ∷ [])
  tried_once spot wide word wanted found steps tried serves = (serves, (steps, wanted, tried, refl))

  pub tried_twice : (spot wide : Spot) (word wanted found : ℕ) (steps : List Taken) → HasTried spot wide word wanted One steps → IsServed found → HasTried spot wide word found Zero (steps ++ wide_try wide word wanted found ∷ [])
  tried_twice spot wide word wanted found steps tried serves =
      let so = tried.1 in
      (serves, (so.0, so.1, wanted, so.2, ap (λ (s : List Taken). s ++ wide_try wide word wanted found ∷ []) so.3 ∙ append_assoc so.0 (wide_try wide word so.1 wanted ∷ []) (wide_try wide word wanted found ∷ [])))

-- ---- where it begins

-- what is so of a call that goes on at a wide object where the header says so, and of one at the word of an object at rest, is so of it
module _ {M : Type 0} (P : M → Type 0) (wide : Spot → M) (place : Location → M) (spot : Spot) (header word : ℕ) where
  by_field : (b : Bool) (at : Spot) → nat_lt spot.field (len_at header) ≡ b → (nat_lt spot.field (len_at header) ≡ true → P (wide at)) → P (place (location.Wide at)) → P (if b then wide at else place (location.Wide at))
  by_field true at e wides placed = wides e
  by_field false at e wides placed = placed

  first_by : (state : HeaderState) (target : ℕ) → ((at : Spot) → (state ≡ states.Wide) × (at ≡ field_from spot target) → nat_lt spot.field (len_at header) ≡ true → P (wide at)) → P (place (located spot word state target)) → P (wide_first wide place spot header (located spot word state target))
  first_by states.Wide target wides placed = by_field (nat_lt spot.field (len_at header)) (field_from spot target) refl (wides (field_from spot target) (refl, refl)) placed
  first_by states.Absent target wides placed = placed
  first_by states.Plain target wides placed = placed
  first_by states.Kept target wides placed = placed
  first_by states.Tagged target wides placed = placed
  first_by states.Moving target wides placed = placed
  first_by states.Forward target wides placed = placed
  first_by states.Dead target wides placed = placed

  pub first_so : ((at : Spot) → LeadsWide spot word at → nat_lt spot.field (len_at header) ≡ true → P (wide at)) → P (place (location_in spot word)) → P (wide_first wide place spot header (location_in spot word))
  first_so = let h = header_at word in first_by h.state h.target
