-- Known bytes over several calls.
use Rattle.std.proofs.Common.{◌≡◌, ℕ, ◌+◌, ◌-◌, ◌<◌, ◌≤◌, List, [], ◌∷◌, ◌++◌, suc, length, take, drop, drop-cons, get_or, Vec, Option, Some, None, inl, inr, slice_get, append_assoc, append-nil, add-one, arith, refl, sym, ap, ◌∙◌}
use Rattle.std.specs.Prelude.{IfSome, option_map}
use Rattle.std.proofs.Math.ListN.{drop_of_length-le}
use Rattle.std.proofs.lemmas.Option.{slice_get_within, slice_get_cases, get_or_from_slice_get}
use Rattle.gc_tool.specs.Forms.{words_of}
use Rattle.std.proofs.lemmas.List.{take-append-drop, map-append, take_rest}
use Rattle.std.proofs.lemmas.Grind.{common_steps}
use Rattle.std.specs.Io.KnownBytes.{Appends, Consumes}
use Rattle.gc_tool.specs.Outside.{Gave, AppendsUpTo}

-- a fact about the bytes that were consumed
pub Gave-from : (old new : Option (List ℕ)) (P : List ℕ → Type 0) (given : List ℕ) → Consumes old new given → P given → Gave old new P
Gave-from None new P given consumed holds = tt
Gave-from (Some told) None P given consumed holds = absurd consumed
Gave-from (Some told) (Some left) P given consumed holds = (given, consumed, holds)

-- two calls consume both pieces
pub Consumes-append : (old mid new : Option (List ℕ)) (first second : List ℕ) → Consumes old mid first → Consumes mid new second → Consumes old new (first ++ second)
Consumes-append None mid new first second p q = tt
Consumes-append (Some told) None new first second p q = absurd p
Consumes-append (Some told) (Some left) None first second p q = absurd q
Consumes-append (Some told) (Some left) (Some rest) first second p q = grind (arith, common_steps)

-- two calls append both pieces
pub Appends-append : (old mid new : Option (List ℕ)) (first second : List ℕ) → Appends old mid first → Appends mid new second → Appends old new (first ++ second)
Appends-append None mid new first second p q = tt
Appends-append (Some held) None new first second p q = absurd p
Appends-append (Some held) (Some more) None first second p q = absurd q
Appends-append (Some held) (Some more) (Some most) first second p q = grind (arith, common_steps)

-- one more call takes the first bytes of the rest
pub AppendsUpTo-more : (old mid new : Option (List ℕ)) (text rest : List ℕ) (count : ℕ) → AppendsUpTo old mid text rest → Appends mid new (take count rest) → AppendsUpTo old new text (take (length rest - count) (drop count rest))
AppendsUpTo-more old mid new text rest count (taken, parts, so_far) step =
    let whole : (taken ++ take count rest) ++ drop count rest ≡ text = rw (append_assoc, take-append-drop) parts in
    rw (take_rest rest count) (taken ++ take count rest, whole, Appends-append old mid new taken (take count rest) so_far step)

-- ---- the words of a call

-- what holds of each value that there may be
pub some_from : {X : Type 0} (found : Option X) (P : X → Type 0) → ((x : X) → found ≡ Some x → P x) → IfSome found P
some_from None P each = tt
some_from (Some x) P each = each x refl

module _ {A : Type 0} (all : List (List ℕ)) (words : List (Vec ℕ A)) (place : ℕ) (so_far : words_of words ++ drop place all ≡ drop 1 all) where
  -- the word of this place is told, and there is one more
  pub next_word : (told : Option (List (List ℕ))) (found : Option (Vec ℕ A)) (word : Vec ℕ A) → told ≡ Some all → IfSome told (λ ws. option_map (λ w. w.items) found ≡ slice_get ws place) → found ≡ Some word
      → words_of (words ++ word ∷ []) ++ drop (place + 1) all ≡ drop 1 all
  next_word None found word is read some = absurd cc
  next_word (Some ws) found word is read some =
      let at : slice_get all place ≡ Some word.items = cc in
      let within : place < length all = slice_get_within all place word.items at in
      let here : get_or all place [] ≡ word.items = get_or_from_slice_get all place word.items [] at in
      let cut : drop place all ≡ word.items ∷ drop (place + 1) all = rw add-one (drop-cons all place [] within ∙ ap (λ w. w ∷ drop (suc place) all) here) in
      let mapped : words_of (words ++ word ∷ []) ≡ words_of words ++ word.items ∷ [] = map-append (λ w. w.items) words (word ∷ []) in
      ap (λ ws. ws ++ drop (place + 1) all) mapped ∙ append_assoc (words_of words) (word.items ∷ []) (drop (place + 1) all) ∙ ap (λ ws. words_of words ++ ws) (sym cut) ∙ so_far

  -- there is none, so these are all
  pub last_word : (told : Option (List (List ℕ))) (found : Option (Vec ℕ A)) → told ≡ Some all → IfSome told (λ ws. option_map (λ w. w.items) found ≡ slice_get ws place) → found ≡ None
      → words_of words ≡ drop 1 all
  last_word None found is read none = absurd cc
  last_word (Some ws) found is read none =
      let at : slice_get all place ≡ None = cc in
      let past : length all ≤ place = elim (slice_get_cases all place).1 [
        | inl inside ↦ absurd (let e : None ≡ Some inside.0 = sym at ∙ inside.2 in cc)
        | inr past ↦ past.0
      ] in
      sym (append-nil (words_of words)) ∙ ap (λ ws. words_of words ++ ws) (sym (drop_of_length-le all past)) ∙ so_far
