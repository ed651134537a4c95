-- The parties that can step, and runs under a schedule.
use Rattle.std.proofs.Common.{◌≡◌, ℕ, zero, suc, ◌+◌, ◌-◌, ◌<◌, Bool, true, false, List, [], ◌∷◌, ◌++◌, length, cond, eqb, refl, sym, ap, ◌∙◌, subst, arith}
use Rattle.std.specs.Prelude.{Contains}
use Rattle.std.specs.List.{All, filter, range_with_len}
use Rattle.std.proofs.lemmas.Bool.Decides.{nat_tests}
use Rattle.std.proofs.lemmas.List.{map-id, append-nil}
use Rattle.std.proofs.lemmas.List.Elements.{All-filter, All-contains}
use Rattle.std.proofs.lemmas.List.FromFn.{length-range_with_len, get_or-range_with_len, filter_of_map_range_with_len_more}
use Rattle.barriers.specs.Kits.{Kit, Stepping}
use Rattle.gc_cycle.specs.declared.schedule.Chooser.{Chooser}
use Rattle.gc_cycle.specs.Schedules.{chosen_by}
use Rattle.gc_cycle.specs.Worlds.{State, IsParty, can_step, turn_of}
use Rattle.gc_cycle.specs.Runs.{ready_of, is_none, is_over, turns_of}

-- whether there is none, by the length
pub is_none-length : (ready : List ℕ) → is_none ready ≡ eqb (length ready) 0
is_none-length [] = refl
is_none-length (party ∷ rest) = grind (arith, nat_tests)

module _ {R W E M : Type 0} (kit : Kit R W E M) (by : Stepping R W E M) where
  -- ---- the parties that can step

  -- those among the first so many
  abbrev pub ready_among : State R W E M → ℕ → List ℕ
  ready_among w n = filter (can_step kit by w) (range_with_len 1 n)

  ready_more : (w : State R W E M) (n : ℕ) → ready_among w (n + 1) ≡ ready_among w n ++ cond (can_step kit by w (n + 1)) ((n + 1) ∷ []) []
  ready_more w n = rw (map-id, map-id) at (filter_of_map_range_with_len_more (can_step kit by w) (λ (x : ℕ). x) 1 n (n + 1) (omega arith))

  -- one more that can step, and one that can not
  pub ready_with : (w : State R W E M) (n : ℕ) (ready : List ℕ) → ready ≡ ready_among w n → can_step kit by w (n + 1) ≡ true → ready ++ (n + 1) ∷ [] ≡ ready_among w (n + 1)
  ready_with w n ready so_far can = sym (ready_more w n ∙ (rw (can, so_far) refl))

  pub ready_without : (w : State R W E M) (n : ℕ) (ready : List ℕ) → ready ≡ ready_among w n → can_step kit by w (n + 1) ≡ false → ready ≡ ready_among w (n + 1)
  ready_without w n ready so_far rests = so_far ∙ sym (ready_more w n ∙ (rw rests (append-nil (ready_among w n))))

  -- each of them is a party
  pub ready_is_party : (w : State R W E M) (party : ℕ) → Contains (ready_of kit by w) party → IsParty w.layout party
  ready_is_party w party among =
      let n = w.layout.passes + 1 in
      let numbers : All (IsParty w.layout) (range_with_len 1 n) = λ i d within.
      let below : i < n = omega (arith, within, length-range_with_len 1 n) in
      subst (IsParty w.layout) (sym (get_or-range_with_len 1 n i d below)) (omega arith, omega (arith, below)) in
      All-contains (IsParty w.layout) (ready_of kit by w) party (All-filter (can_step kit by w) (IsParty w.layout) (range_with_len 1 n) numbers) among

  -- ---- runs

  pub turns_of-over : (n : ℕ) (chooser : Chooser) (w : State R W E M) → is_over kit by w ≡ true → turns_of kit by n chooser w ≡ w
  turns_of-over zero chooser w over = refl
  turns_of-over (suc n) chooser w over = rw over refl

  -- a turn more of so many, of which some are taken
  turns_of-next : (n taken : ℕ) (chooser : Chooser) (w : State R W E M) → taken < n → is_over kit by w ≡ false
      → turns_of kit by (n - taken) chooser w ≡ turns_of kit by (n - (taken + 1)) (chosen_by chooser (ready_of kit by w)).1 (turn_of kit by w (chosen_by chooser (ready_of kit by w)).0)
  turns_of-next n taken chooser w below on =
      let some : n - taken ≡ suc (n - (taken + 1)) = omega arith in
      rw some (rw on refl)

  -- the same of the list, the party and the chooser that the code keeps
  pub turns_of-took : (n taken : ℕ) (chooser after : Chooser) (w new : State R W E M) (ready : List ℕ) (party : ℕ) → taken < n → is_over kit by w ≡ false → ready ≡ ready_of kit by w
      → (party, after) ≡ chosen_by chooser ready → new ≡ turn_of kit by w party → turns_of kit by (n - (taken + 1)) after new ≡ turns_of kit by (n - taken) chooser w
  turns_of-took n taken chooser after w new ready party below on is_ready chosen turned =
      let named : (party, after) ≡ chosen_by chooser (ready_of kit by w) = chosen ∙ ap (chosen_by chooser) is_ready in
      let who : party ≡ (chosen_by chooser (ready_of kit by w)).0 = ap (λ (c : ℕ × Chooser). c.0) named in
      let then : after ≡ (chosen_by chooser (ready_of kit by w)).1 = ap (λ (c : ℕ × Chooser). c.1) named in
      let next = turns_of-next n taken chooser w below on in
      ap (turns_of kit by (n - (taken + 1)) after) turned ∙ ap (λ p. turns_of kit by (n - (taken + 1)) after (turn_of kit by w p)) who
      ∙ ap (λ c. turns_of kit by (n - (taken + 1)) c (turn_of kit by w (chosen_by chooser (ready_of kit by w)).0)) then ∙ sym next

  -- whether all have ended, of the list that the code keeps
  pub is_over-by : (w : State R W E M) (ready : List ℕ) (empty : Bool) → ready ≡ ready_of kit by w → empty ≡ eqb (length ready) 0 → is_over kit by w ≡ empty
  is_over-by w ready empty is_ready tested = ap is_none (sym is_ready) ∙ is_none-length ready ∙ sym tested
