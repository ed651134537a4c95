-- The jobs of a plan that are done, and those that are to come.
use Rattle.std.specs.Prelude.{◌<◌, ◌≤◌, take, drop}
use Rattle.std.specs.List.{All, AllPairs, slice_get, prefix_len}
use Rattle.std.proofs.Common.{inl, inr, ◌≡◌, ℕ, ◌+◌, ◌-◌, zero, suc, Bool, true, List, [], ◌∷◌, length, get_or, Some, None, sym, ap, ◌∙◌, subst, arith}
use Rattle.std.proofs.lemmas.Bool.{cases_order}
use Rattle.std.proofs.lemmas.List.{drop_more, drop_all, take_all, get_or-drop, length-drop, get_or-take, length-take-le}
use Rattle.std.proofs.lemmas.List.Elements.{All-more}
use Rattle.std.proofs.lemmas.List.Sums.{prefix_len_passes, prefix_len-le-length}
use Rattle.std.proofs.lemmas.Option.{slice_get_within, get_or_from_slice_get, slice_get-get_or}
use Rattle.lawful_records.specs.Handshakes.{IsIn}

module _ {X : Type 0} where
  -- ---- one that is there

  pub at_is : (xs : List X) (i : ℕ) (x d : X) → slice_get xs i ≡ Some x → get_or xs i d ≡ x
  at_is xs i x d e = get_or_from_slice_get xs i x d e

  pub all_in : (P : X → Type 0) (xs : List X) (x : X) → All P xs → IsIn xs x → P x
  all_in P xs x all is = subst P (at_is xs is.0 x x is.1) (all is.0 x (slice_get_within xs is.0 x is.1))

  -- it is the first of the rest, and the last of what is done with it
  pub drop_some : (xs : List X) (i : ℕ) (x : X) → slice_get xs i ≡ Some x → drop i xs ≡ x ∷ drop (i + 1) xs
  drop_some xs i x e = drop_more xs i x (slice_get_within xs i x e) ∙ ap (λ y. y ∷ drop (i + 1) xs) (at_is xs i x x e)

  pub all_more : (P : X → Type 0) (xs : List X) (i : ℕ) (x : X) → slice_get xs i ≡ Some x → All P (take i xs) → P x → All P (take (i + 1) xs)
  all_more P xs i x e all own = All-more P xs i x (slice_get_within xs i x e) all (subst P (sym (at_is xs i x x e)) own)

  -- ---- none is there

  past : (xs : List X) (i : ℕ) → slice_get xs i ≡ None → length xs ≤ i
  past xs i e = elim (cases_order i (length xs)) [
    | inl same ↦ omega (arith, same)
    | inr rest ↦ elim rest [
      | inl below ↦ absurd (none_some xs i below e)
      | inr above ↦ omega (arith, above)
    ]
  ]
    where
      none_some : (xs : List X) (i : ℕ) → i < length xs → slice_get xs i ≡ None → ⊥
      none_some [] i below e = omega (arith, below)
      none_some (x ∷ xs) i below e = let some = slice_get-get_or (x ∷ xs) i x below in absurd (let gone : Some (get_or (x ∷ xs) i x) ≡ None = sym some ∙ e in cc gone)

  pub take_none : (xs : List X) (i : ℕ) → slice_get xs i ≡ None → take i xs ≡ xs
  take_none xs i e = take_all i xs (past xs i e)

  pub drop_none : (xs : List X) (i : ℕ) → slice_get xs i ≡ None → drop i xs ≡ []
  drop_none xs i e = drop_all i xs (past xs i e)

  -- ---- pairs

  pub pairs_head : (R : X → X → Type 0) (x : X) (xs : List X) → AllPairs R (x ∷ xs) → All (R x) xs
  pairs_head R x xs pairs k d less = pairs zero (suc k) d (omega arith) (omega (arith, less))

  pub pairs_drop : (R : X → X → Type 0) (n : ℕ) (xs : List X) → AllPairs R xs → AllPairs R (drop n xs)
  pairs_drop R n xs pairs i j d less within =
      let long : length (drop n xs) ≡ length xs - n = length-drop n xs in
      subst (λ x. R x (get_or (drop n xs) j d)) (sym (get_or-drop n xs i d)) (subst (λ y. R (get_or xs (n + i) d) y) (sym (get_or-drop n xs j d)) (pairs (n + i) (n + j) d (omega (arith, less)) (omega (arith, within, long))))

  pub pairs_tail : (R : X → X → Type 0) (x : X) (xs : List X) → AllPairs R (x ∷ xs) → AllPairs R xs
  pairs_tail R x xs pairs i j d less within = pairs (suc i) (suc j) d (omega (arith, less)) (omega (arith, within))

  -- ---- jobs that copy to one region

  -- so many as the run from there on
  pub all_run : (P : X → Type 0) (test : X → Bool) (xs : List X) (from : ℕ) → from ≤ length xs → All P (take from xs) → ((x : X) → test x ≡ true → P x) → All P (take (from + prefix_len test (drop from xs)) xs)
  all_run P test xs from inside done passes k d less =
      let run = prefix_len test (drop from xs) in
      let most : run ≤ length (drop from xs) = prefix_len-le-length test (drop from xs) in
      let long : length (drop from xs) ≡ length xs - from = length-drop from xs in
      let size : length (take (from + run) xs) ≡ from + run = length-take-le (from + run) xs (omega (arith, most, long, inside)) in
      let below : k < from + run = omega (arith, less, size) in
      subst P (sym (get_or-take (from + run) xs k d below)) (elim (cases_order k from) [
        | inl same ↦ in_run k d below (omega (arith, same))
        | inr rest ↦ elim rest [
          | inl before ↦ subst P (get_or-take from xs k d before) (done k d (let all = length-take-le from xs inside in omega (arith, all, before)))
          | inr after ↦ in_run k d below (omega (arith, after))
        ]
      ])
    where
      in_run : (k : ℕ) (d : X) → k < from + prefix_len test (drop from xs) → from ≤ k → P (get_or xs k d)
      in_run k d below low =
          let shift : from + (k - from) ≡ k = omega (arith, low) in
          let passed = prefix_len_passes test (drop from xs) (k - from) d (omega (arith, below, low)) in
          subst (λ i. P (get_or xs i d)) shift (subst P (get_or-drop from xs (k - from) d) (passes (get_or (drop from xs) (k - from) d) passed))
